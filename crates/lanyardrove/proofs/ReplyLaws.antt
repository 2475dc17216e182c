-- What is told of a call on a record. Assumes nothing.
use Rattle.std.proofs.Common.{◌≡◌, ℕ}
use Rattle.rdp_stream.specs.Records.{Fed}
use Rattle.lanyardrove.specs.Replies.{packed, told, told_reply}

-- by its third number and the record after it
pub told-of : {x y : Fed} {third : ℕ} → third ≡ (told_reply y).third → x ≡ y → packed (told third x.answer) ≡ packed (told_reply y)
told-of is e = λ i. packed (told (is i) (e i).answer)

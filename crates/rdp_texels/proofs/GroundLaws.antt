-- What a call that refused, or did not, promised of its number. Assumes nothing.
use Rattle.std.proofs.Common.{◌≡◌, sym, ap, ◌∙◌, ℕ, ◌<◌, Result, Ok, Err}
use Rattle.rdp_words.specs.declared.grounds.Ground.{Ground}
use Rattle.rdp_words.specs.Grounds.{number_unless}
use Rattle.rdp_words.proofs.GroundLaws.{some_number}

pub refused : {r : Result (Unit {0}) Ground} {g : Ground} {n : ℕ} → r ≡ Err g → number_unless r ≡ n → 0 < n
refused {r} {g} was is = rw (sym (ap number_unless was) ∙ is) at (some_number g)

pub allowed : {r : Result (Unit {0}) Ground} {n : ℕ} → r ≡ Ok tt → number_unless r ≡ n → n ≡ 0
allowed was is = sym is ∙ ap number_unless was

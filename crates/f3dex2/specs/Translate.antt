-- Document 02, #108: what `translate` answers and leaves.
use Rattle.std.specs.Prelude.{ℕ, ◌*◌, cond, Result, Ok, Err, List, [], eqb, leb, length}
use Rattle.rdp_words.specs.Words.{bytes_of_words, overwrite}
use Rattle.rdp_words.specs.Grounds.{number_of}
use Rattle.f3dex2.specs.Commands.{setting_first}
use Rattle.f3dex2.specs.Walk.{Walked, walk}
use Rattle.f3dex2.specs.declared.Translated as made
use Rattle.f3dex2.specs.declared.Untranslated.{Untranslated}

-- the number of the refusal or 0, its place, and the display list commands read. The place is the offset of the refused command; at 14 the words needed, at
-- 0 the words written
pub record Translated : Type 0 where
  pub number : ℕ
  pub place : ℕ
  pub read : ℕ

-- what a result says in these numbers
abbrev pub told : Result made.Translated Untranslated → Translated
told (Ok t) = record { number = 0; place = t.words; read = t.read }
told (Err u) = record { number = number_of u.ground; place = u.place; read = u.read }

-- "From a lent memory and a start offset"; "At most 4,096 display list commands are read"
abbrev pub walked : List ℕ → ℕ → Walked
walked memory start = walk memory 4096 [] start setting_first

-- "last 14, its place as in 01": the words needed; 0 gives the words written. "The number read is part of the answer"
unfoldable pub translated_of : Walked → ℕ → Translated
translated_of r room =
    cond (eqb r.number 0)
    (record { number = cond (leb (8 * length r.words) room) 0 14; place = length r.words; read = length r.commands })
    (record { number = r.number; place = r.place; read = length r.commands })

abbrev pub translate_answer : List ℕ → ℕ → ℕ → Translated
translate_answer memory start room = translated_of (walked memory start) room

-- "write the RDP list": at the front of the output, and no byte beyond it. 01: "Every refusal hands all lent memory back as received"
unfoldable pub out_of : Walked → List ℕ → List ℕ
out_of r out = cond (eqb (translated_of r (length out)).number 0) (overwrite (bytes_of_words r.words) out) out

abbrev pub translate_out : List ℕ → ℕ → List ℕ → List ℕ
translate_out memory start out = out_of (walked memory start) out

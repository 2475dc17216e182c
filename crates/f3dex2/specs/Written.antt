-- Document 02, #108: what the words that are written have to do with the display list commands that are read. Cited by the laws of proofs/WrittenLaws.
use Rattle.std.specs.Prelude.{ℕ, ◌*◌, ◌%◌, ◌^◌, ◌<◌, List, [], ◌∷◌, ◌++◌, ◌≡◌, drop}
use Rattle.rdp_words.specs.Words.{number_in}
use Rattle.rdp_words.specs.Kinds.{words_of}
use Rattle.rdp_command.specs.Commands as rdp
use Rattle.rdp_command.specs.Decode.{decode_of}
use Rattle.rdp_command.specs.declared.Command.{Command}
use Rattle.rdp_command.specs.Decode.{Whole}
use Rattle.f3dex2.specs.Commands.{first_byte, Role, straight, rectangle, modes, list, end, unnamed, role_of}

-- the RDP commands that a display list command becomes, by their numbers: "the command of the low six bits"; "each then writes one Set Other Modes"; a
-- half-word's bits are in its rectangle, and 0xDE and 0xDF write nothing
abbrev pub becomes : Role → ℕ → List ℕ
becomes straight n = n % 64 ∷ []
becomes rectangle n = n % 64 ∷ []
becomes modes n = 0x2F ∷ []
becomes list n = []
becomes end n = []
becomes unnamed n = []

-- those of the commands that are read, in their order
abbrev pub numbers_for : List ℕ → List ℕ
numbers_for [] = []
numbers_for (w ∷ ws) = becomes (role_of (first_byte w)) (first_byte w) ++ numbers_for ws

-- words that are whole commands of one or two words, of these numbers; "bits 63:62 zero" in the first word of each
pub data AreCommands : List ℕ → List ℕ → Type 0 where
  none : AreCommands [] []
  one : {ws ns : List ℕ} (w : ℕ) → w < 2 ^ 62 → words_of (number_in w) ≡ 1 → AreCommands ws ns → AreCommands (w ∷ ws) (number_in w ∷ ns)
  two : {ws ns : List ℕ} (w v : ℕ) → w < 2 ^ 62 → words_of (number_in w) ≡ 2 → AreCommands ws ns → AreCommands (w ∷ v ∷ ws) (number_in w ∷ ns)

-- bytes that decode, command after command, to commands of these numbers
pub data Decodes : List ℕ → List ℕ → Type 0 where
  done : Decodes [] []
  next : {bs ns : List ℕ} (c : Command) → decode_of bs ≡ Whole c → Decodes (drop (8 * words_of (rdp.number_of c)) bs) ns → Decodes bs (rdp.number_of c ∷ ns)

-- Bytes that are one command. No public contract cites this.
use Rattle.std.specs.Prelude.{ℕ, ◌*◌, ◌≡◌, List, length}
use Rattle.rdp_words.specs.Kinds.{words_of}
use Rattle.rdp_words.specs.Lengths.{first_number}

abbrev pub OneCommand : List ℕ → Type 0
OneCommand c = length c ≡ 8 * words_of (first_number c)

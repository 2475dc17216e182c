-- What private functions require and promise. No public contract cites this.
use Rattle.std.specs.Prelude.{ℕ, ◌+◌, ◌*◌, ◌-◌, ◌%◌, ◌≤◌, Bool, not, ◌||◌, List, [], ◌++◌, ◌≡◌, eqb, ltb, length, take, drop, replicate}
use Rattle.rdp_words.specs.Kinds.{words_of}
use Rattle.rdp_words.specs.Lengths.{first_number, whole_words}
use Rattle.rdp_state.specs.declared.Standing.{Standing}
use Rattle.rdp_stream.specs.Portions.{Feeding}
use Rattle.rdp_stream.specs.Records.{all_zero}

-- what damages the held bytes of a record, what damages its numbers, and both, but for the remembered number
abbrev pub bytes_damaged : ℕ → List ℕ → Bool
bytes_damaged count held = not (all_zero (drop count held)) || not (eqb (whole_words (take count held)) 0)

abbrev pub counts_damaged : ℕ → ℕ → ℕ → Bool
counts_damaged count taken waited = ltb 32768 taken || (ltb taken count || (not (eqb ((taken - count) % 8) 0) || ltb 204800 waited))

abbrev pub unlike_any : List ℕ → ℕ → ℕ → ℕ → Bool
unlike_any held count taken waited = ltb 175 count || (bytes_damaged count held || counts_damaged count taken waited)

-- no refusal is remembered
abbrev pub open_of : Standing → List ℕ → ℕ → ℕ → Feeding
open_of b held taken p = record { standing = b; held = held; taken = taken; number = 0; place = p }

-- no byte is held
abbrev pub nothing_held : Standing → ℕ → ℕ → ℕ → Feeding
nothing_held b taken number place = record { standing = b; held = []; taken = taken; number = number; place = place }

-- bytes are taken and held, where none is
abbrev pub holding_all : Feeding → List ℕ → Feeding
holding_all f rest = record { standing = f.standing; held = rest; taken = f.taken + length rest; number = f.number; place = f.place }

-- held bytes of a sound record
pub record Open (held : List ℕ) (count taken : ℕ) : Type 0 where
  pub few : count ≤ 175
  pub long : length held ≡ 176
  pub past : drop count held ≡ replicate (176 - count) 0
  pub cut : whole_words (take count held) ≡ 0
  pub inside : count ≤ taken
  pub whole : (taken - count) % 8 ≡ 0
  pub most : taken ≤ 32768

-- held bytes that a part has completed: a command of some words, and what follows it in the part
pub record Complete (held : List ℕ) (count taken : ℕ) (filled : List ℕ) (words : ℕ) (part : List ℕ) : Type 0 where
  pub counted : length (take count held) ≡ count
  pub inside : count ≤ taken
  pub even : (taken - count) % 8 ≡ 0
  pub room : taken + length part ≤ 32768
  pub cut : whole_words (take count held) ≡ 0
  pub few : words ≤ 22
  pub more : count ≤ 8 * words
  pub within : 8 * words - count ≤ length part
  pub long : length filled ≡ 176
  pub bytes : take (8 * words) filled ≡ take count held ++ take (8 * words - count) part
  pub alone : 8 * words ≡ 8 * words_of (first_number (take (8 * words) filled))

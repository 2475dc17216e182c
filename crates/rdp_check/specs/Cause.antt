-- Document 02, #101: the place of the command that caused refusal 7, 8 or 9, "the latest draw, textured draw or load that set the mark".
use Rattle.std.specs.Prelude.{ℕ, ◌+◌, ◌*◌, ◌/◌, Bool, cond, List, [], ◌∷◌, ◌++◌, ◌≡◌, T, eqb, length, take}
use Rattle.rdp_words.specs.Words.{word_at, number_in}
use Rattle.rdp_words.specs.Kinds.{between, words_of}
use Rattle.rdp_words.specs.Lengths.{first_number}
use Rattle.rdp_check.specs.Commands.{commands_of, words_in}
use Rattle.rdp_hazards.specs.Marks.{Mark, mark_p, mark_t, mark_d, mark_g, draws, loads, NoneOf}

-- the mark that a command needs cleared, by its number: a draw G, a load D, Set Tile T, an attribute P
unfoldable pub awaited : ℕ → Mark
awaited n = cond (draws n) mark_g (cond (loads n) mark_d (cond (eqb n 0x35) mark_t mark_p))

-- the place of the latest of some commands, the first of which stands at a place, whose number is one of these; where there is none, the other
unfoldable pub latest : (ℕ → Bool) → ℕ → ℕ → List (List ℕ) → ℕ
latest these other at [] = other
latest these other at (c ∷ cs) = latest these (cond (these (first_number c)) at other) (at + words_of (first_number c)) cs

-- the cause of the refusal of the command at a place
abbrev pub cause_at : List ℕ → ℕ → ℕ
cause_at list place = latest (awaited (number_in (word_at list place))).sets (length list / 8) 0 (commands_of (take (8 * place) list))

-- at 7, 8 and 9; "its other answers give the list's whole words instead"
unfoldable pub cause_of : List ℕ → ℕ → ℕ → ℕ
cause_of list number place = cond (between 7 9 number) (cause_at list place) (length list / 8)

-- what a cause is, in 01's words: the command there sets the mark that the refused one needs cleared, no later one before that does, and no sync that
-- clears the mark stands between them
pub record IsCause (list : List ℕ) (place cause : ℕ) : Type 0 where
  pub before : List (List ℕ)
  pub command : List ℕ
  pub meanwhile : List (List ℕ)
  pub refused : List ℕ
  pub after : List (List ℕ)
  pub split : commands_of list ≡ (before ++ command ∷ meanwhile) ++ refused ∷ after
  pub at-refused : place ≡ words_in (before ++ command ∷ meanwhile)
  pub at-command : cause ≡ words_in before
  pub sets : T ((awaited (first_number refused)).sets (first_number command))
  pub last : NoneOf (awaited (first_number refused)).sets meanwhile
  pub uncleared : NoneOf (awaited (first_number refused)).clears meanwhile

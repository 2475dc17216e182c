-- Laws of the commands of a list: what stands at its head and at a place, and a list put together from commands. Assumes nothing.
use mathlib.Core.Path.{◌≡◌, refl, sym, ◌∙◌, ap}
use mathlib.Core.List.{List, [], ◌∷◌, ◌++◌}
use Prim.Native.Nat.{ℕ, zero, suc, pred, ◌+◌, ◌*◌, ◌/◌, ◌≤◌, ◌<◌}
use native.Mathlib.Omega.{arith}
use native.Mathlib.Nat.{not-suc-le-zero}
use lib.ListN.{length, take, drop, length-drop, take-append-drop}
use lib.Seq.{length-take-le, drop-drop}
use borrow.Author.Tests.{eq-eqb, ne_eqb}
use Rattle.rdp_words.specs.Words.{word_at, number_in}
use Rattle.rdp_words.specs.Kinds.{words_of}
use Rattle.rdp_words.specs.Lengths.{first_number, whole_words}
use Rattle.rdp_words.proofs.WordLaws.{word-front}
use Rattle.rdp_check.specs.Commands.{commands_from, rest_from, commands_of, rest_of}
use Rattle.rdp_words.proofs.PlaceLaws.{is_whole, word-drop, words-there, some_words, there-at, cut_at}

-- to skip k bytes is to go on from what stands after them
commands-skip : (k : ℕ) (bs : List ℕ) → commands_from k bs ≡ commands_of (drop k bs)
unfolding commands_from
commands-skip zero bs = refl
commands-skip (suc k) [] = refl
commands-skip (suc k) (b ∷ bs) = commands-skip k bs

rest-skip : (k : ℕ) (bs : List ℕ) → rest_from k bs ≡ rest_of (drop k bs)
unfolding rest_from
rest-skip zero bs = refl
rest-skip (suc k) [] = refl
rest-skip (suc k) (b ∷ bs) = rest-skip k bs

drop-pred : (n b : ℕ) (bs : List ℕ) → 1 ≤ n → drop (pred n) bs ≡ drop n (b ∷ bs)
drop-pred zero b bs h = absurd (not-suc-le-zero h)
drop-pred (suc n) b bs h = refl

-- ---- the head of a list

-- the bytes of the first command, and the bytes after it
abbrev pub head : List ℕ → List ℕ
head bs = take (8 * whole_words bs) bs

abbrev pub tail : List ℕ → List ℕ
tail bs = drop (8 * whole_words bs) bs

pub commands-head : (bs : List ℕ) → (whole_words bs ≡ 0 → ⊥) → commands_of bs ≡ head bs ∷ commands_of (tail bs)
unfolding commands_from
commands-head [] there = absurd (let w = is_whole [] there in let z : 8 * whole_words [] ≤ 0 = w.inside in there (omega (arith, z)))
commands-head (b ∷ bs) there =
    let some : 1 ≤ whole_words (b ∷ bs) = (is_whole (b ∷ bs) there).some in
    let n = 8 * whole_words (b ∷ bs) in
    rw (ne_eqb _ _ there, commands-skip (pred n) bs, drop-pred n b bs (omega arith))

pub rest-head : (bs : List ℕ) → (whole_words bs ≡ 0 → ⊥) → rest_of bs ≡ rest_of (tail bs)
unfolding rest_from
rest-head [] there = absurd (let w = is_whole [] there in let z : 8 * whole_words [] ≤ 0 = w.inside in there (omega (arith, z)))
rest-head (b ∷ bs) there =
    let some : 1 ≤ whole_words (b ∷ bs) = (is_whole (b ∷ bs) there).some in
    let n = 8 * whole_words (b ∷ bs) in
    rw (ne_eqb _ _ there, rest-skip (pred n) bs, drop-pred n b bs (omega arith))

pub commands-cut : (bs : List ℕ) → whole_words bs ≡ 0 → commands_of bs ≡ []
unfolding commands_from
commands-cut [] cut = refl
commands-cut (b ∷ bs) cut = rw (eq-eqb _ _ cut)

pub rest-cut : (bs : List ℕ) → whole_words bs ≡ 0 → rest_of bs ≡ bs
unfolding rest_from
rest-cut [] cut = refl
rest-cut (b ∷ bs) cut = rw (eq-eqb _ _ cut)

-- ---- a place of a list

-- the bytes of the command at a place, where its number is n
abbrev pub command_at : List ℕ → ℕ → ℕ → List ℕ
command_at list at n = take (8 * words_of n) (drop (8 * at) list)

module _ (list : List ℕ) (at n : ℕ) (is : n ≡ number_in (word_at list at)) where
  module _ (whole : at + words_of n ≤ length list / 8) where
    words : whole_words (drop (8 * at) list) ≡ words_of n
    words = there-at list at n is whole

    there : whole_words (drop (8 * at) list) ≡ 0 → ⊥
    there z = omega (arith, words, some_words list at n is)

    onward : tail (drop (8 * at) list) ≡ drop (8 * (at + words_of n)) list
    onward =
        let e : 8 * at + 8 * words_of n ≡ 8 * (at + words_of n) = omega arith in
        rw (words, drop-drop, e)

    pub commands-at : commands_of (drop (8 * at) list) ≡ command_at list at n ∷ commands_of (drop (8 * (at + words_of n)) list)
    commands-at = commands-head (drop (8 * at) list) there ∙ rw (onward, words)

    command-long : length (command_at list at n) ≡ 8 * words_of n
    command-long = length-take-le (8 * words_of n) (drop (8 * at) list) (omega (arith, length-drop (8 * at) list))

    -- the list from the place on: the bytes of the command, and what follows them
    pub split_at : command_at list at n ++ drop (8 * (at + words_of n)) list ≡ drop (8 * at) list
    split_at = rw (← onward, words) (take-append-drop (8 * words_of n) (drop (8 * at) list))

    -- its first word is the one at the place
    pub command-word : word_at (command_at list at n) 0 ≡ word_at list at
    command-word =
        sym (word-front (command_at list at n) (drop (8 * (at + words_of n)) list) 0 (omega (arith, command-long, some_words list at n is))) ∙
        ap (λ (bs : List ℕ). word_at bs 0) split_at ∙
        word-drop list at

    pub command-number : first_number (command_at list at n) ≡ n
    command-number = ap number_in command-word ∙ sym is

    pub command-whole : whole_words (command_at list at n) ≡ words_of n
    command-whole =
        words-there (command_at list at n) (rw command-number (omega (arith, command-long))) ∙ ap words_of command-number

    pub command-there : whole_words (command_at list at n) ≡ 0 → ⊥
    command-there z = omega (arith, command-whole, some_words list at n is)

    pub rest_at : rest_of (drop (8 * at) list) ≡ rest_of (drop (8 * (at + words_of n)) list)
    rest_at = rest-head (drop (8 * at) list) there ∙ rw onward

  pub commands-past : length list / 8 < at + words_of n → commands_of (drop (8 * at) list) ≡ []
  commands-past past = commands-cut (drop (8 * at) list) (cut_at list at n is past)

  pub rest-past : length list / 8 < at + words_of n → rest_of (drop (8 * at) list) ≡ drop (8 * at) list
  rest-past past = rest-cut (drop (8 * at) list) (cut_at list at n is past)

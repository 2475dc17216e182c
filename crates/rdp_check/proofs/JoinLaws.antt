-- Lists put together from whole commands: their commands are those, and every list is its commands and what is left. Assumes nothing.
use mathlib.Core.Path.{◌≡◌, refl, sym, ◌∙◌, ap, ap₂}
use mathlib.Core.List.{List, [], ◌∷◌, ◌++◌, append_assoc, append-nil}
use Prim.Native.Nat.{ℕ, zero, suc, ◌+◌, ◌*◌, ◌-◌, ◌/◌, ◌≤◌, ◌<◌}
use native.Mathlib.Nat.{le_refl}
use native.Mathlib.Omega.{arith}
use lib.Dec.{eqb, ltb}
use lib.ListN.{length, take, drop, length-append, length-drop, take-append-drop}
use lib.Seq.{take_at, drop_at, length-take-le, take-append-add}
use borrow.Author.Tests.{eqb-true, eqb-false, ltb-true, ltb-false}
use Rattle.rdp_words.specs.Words.{word_at, number_in}
use Rattle.rdp_words.specs.Kinds.{words_of}
use Rattle.rdp_words.specs.Lengths.{first_number, whole_words}
use Rattle.rdp_words.proofs.Tests.{by-test}
use Rattle.rdp_words.proofs.KindLaws.{words-pos, words-most}
use Rattle.rdp_words.proofs.WordLaws.{word-front}
use Rattle.rdp_check.specs.Commands.{commands_from, rest_from, commands_of, rest_of, words_in, joined}
use Rattle.rdp_words.proofs.PlaceLaws.{number_small, words-there, is_whole}
use Rattle.rdp_check.proofs.ListLaws.{head, tail, commands-head, rest-head, commands-cut, rest-cut}

-- a command alone: as many bytes as its number says
abbrev pub Alone : List ℕ → Type 0
Alone c = length c ≡ 8 * words_of (first_number c)

abbrev pub AllAlone : List (List ℕ) → Type 0
AllAlone [] = Unit {0}
AllAlone (c ∷ cs) = Alone c × AllAlone cs

pub command-some : (c : List ℕ) → 1 ≤ words_of (first_number c)
command-some c = words-pos (first_number c) (number_small (word_at c 0))

-- a command in front is the first command
module _ (c bs : List ℕ) (alone : Alone c) where
  number-front : first_number (c ++ bs) ≡ first_number c
  number-front = ap number_in (word-front c bs 0 (omega (arith, command-some c)))

  words-front : whole_words (c ++ bs) ≡ words_of (first_number c)
  words-front =
      words-there (c ++ bs) (rw number-front (omega (arith, length-append c bs))) ∙ ap words_of number-front

  there-front : whole_words (c ++ bs) ≡ 0 → ⊥
  there-front z = omega (arith, words-front, command-some c)

  long-front : length c ≡ 8 * whole_words (c ++ bs)
  long-front = alone ∙ ap (λ (n : ℕ). 8 * n) (sym words-front)

  tail-front : tail (c ++ bs) ≡ bs
  tail-front = drop_at c bs _ long-front

  pub commands-front : commands_of (c ++ bs) ≡ c ∷ commands_of bs
  commands-front =
      commands-head (c ++ bs) there-front ∙ ap₂ (λ (x y : List ℕ). x ∷ commands_of y) (take_at c bs _ long-front) tail-front

  pub rest-front : rest_of (c ++ bs) ≡ rest_of bs
  rest-front = rest-head (c ++ bs) there-front ∙ ap rest_of tail-front

-- commands one after the other
pub commands-joined : (cs : List (List ℕ)) → AllAlone cs → commands_of (joined cs) ≡ cs
unfolding commands_from
commands-joined [] h = refl
commands-joined (c ∷ cs) h = commands-front c (joined cs) h.0 ∙ ap (λ (x : List (List ℕ)). c ∷ x) (commands-joined cs h.1)

pub rest-joined : (cs : List (List ℕ)) → AllAlone cs → rest_of (joined cs) ≡ []
unfolding rest_from
rest-joined [] h = refl
rest-joined (c ∷ cs) h = rest-front c (joined cs) h.0 ∙ rest-joined cs h.1

pub length-joined : (cs : List (List ℕ)) → AllAlone cs → length (joined cs) ≡ 8 * words_in cs
length-joined [] h = refl
length-joined (c ∷ cs) h = omega (arith, length-append c (joined cs), h.0, length-joined cs h.1)

pub words_append : (bs cs : List (List ℕ)) → words_in (bs ++ cs) ≡ words_in bs + words_in cs
words_append [] cs = omega arith
words_append (b ∷ bs) cs = omega (arith, words_append bs cs)

pub joined-append : (bs cs : List (List ℕ)) → joined (bs ++ cs) ≡ joined bs ++ joined cs
joined-append [] cs = refl
joined-append (b ∷ bs) cs = ap (λ (x : List ℕ). b ++ x) (joined-append bs cs) ∙ sym (append_assoc b (joined bs) (joined cs))

pub alone-append : (bs cs : List (List ℕ)) → AllAlone bs → AllAlone cs → AllAlone (bs ++ cs)
alone-append [] cs h k = k
alone-append (b ∷ bs) cs h k = (h.0, alone-append bs cs h.1 k)

pub count-joined : (cs : List (List ℕ)) → AllAlone cs → length cs ≤ words_in cs
count-joined [] h = omega arith
count-joined (c ∷ cs) h = omega (arith, command-some c, count-joined cs h.1)

-- ---- every list is its commands, each alone, and what is left

pub record Parsed (bs : List ℕ) : Type 0 where
  pub alone : AllAlone (commands_of bs)
  pub cut : whole_words (rest_of bs) ≡ 0
  pub joins : joined (commands_of bs) ++ rest_of bs ≡ bs

module _ (bs : List ℕ) (there : whole_words bs ≡ 0 → ⊥) where
  pub head-long : length (head bs) ≡ 8 * whole_words bs
  head-long = length-take-le (8 * whole_words bs) bs (is_whole bs there).inside

  head-number : first_number (head bs) ≡ first_number bs
  head-number =
      let some : 0 < length (head bs) / 8 = omega (arith, head-long, (is_whole bs there).some) in
      ap number_in (sym (word-front (head bs) (tail bs) 0 some)) ∙ ap first_number (take-append-drop (8 * whole_words bs) bs)

  pub head-alone : Alone (head bs)
  head-alone = head-long ∙ ap (λ (n : ℕ). 8 * n) ((is_whole bs there).words ∙ ap words_of (sym head-number))

  parsed-head : Parsed (tail bs) → Parsed bs
  parsed-head p =
      record {
        alone = rw (commands-head bs there) (head-alone, p.alone);
        cut = rw (rest-head bs there) p.cut;
        joins = rw (commands-head bs there, rest-head bs there, append_assoc, p.joins) (take-append-drop (8 * whole_words bs) bs);
      }

parsed-cut : (bs : List ℕ) → whole_words bs ≡ 0 → Parsed bs
parsed-cut bs cut = record { alone = rw (commands-cut bs cut) tt; cut = rw (rest-cut bs cut) cut; joins = rw (commands-cut bs cut, rest-cut bs cut) }

-- by the number of bytes that are left
parsed-within : (k : ℕ) (bs : List ℕ) → length bs ≤ k → Parsed bs
parsed-within zero bs h =
    by-test (eqb (whole_words bs) 0) (λ t. parsed-cut bs (eqb-true _ _ t))
    (λ f.
    let w = is_whole bs (eqb-false _ _ f) in
    absurd (omega (arith, w.some, w.inside)))
parsed-within (suc k) bs h =
    by-test (eqb (whole_words bs) 0) (λ t. parsed-cut bs (eqb-true _ _ t))
    (λ f.
    let w = is_whole bs (eqb-false _ _ f) in
    parsed-head bs (eqb-false _ _ f)
    (parsed-within k (tail bs) (omega (arith, length-drop (8 * whole_words bs) bs, w.some, w.inside))))

pub parsed : (bs : List ℕ) → Parsed bs
parsed bs = parsed-within (length bs) bs (le_refl _)

-- a list with nothing left is its commands
pub joined-whole : (bs : List ℕ) → rest_of bs ≡ [] → joined (commands_of bs) ≡ bs
joined-whole bs none =
    sym (append-nil (joined (commands_of bs))) ∙ ap (λ (x : List ℕ). joined (commands_of bs) ++ x) (sym none) ∙ (parsed bs).joins

-- a list has the bytes of its commands and those that are left
pub length-split : (bs : List ℕ) → length bs ≡ 8 * words_in (commands_of bs) + length (rest_of bs)
length-split bs =
    let p = parsed bs in
    omega (arith, ap length p.joins, length-append (joined (commands_of bs)) (rest_of bs), length-joined (commands_of bs) p.alone)

pub words_inside : (bs : List ℕ) → 8 * words_in (commands_of bs) ≤ length bs
words_inside bs = omega (arith, length-split bs)

-- ---- commands in front of a list, and the front of a list

pub commands-append : (cs : List (List ℕ)) (bs : List ℕ) → AllAlone cs → commands_of (joined cs ++ bs) ≡ cs ++ commands_of bs
commands-append [] bs h = refl
commands-append (c ∷ cs) bs h =
    ap commands_of (append_assoc c (joined cs) bs) ∙
    commands-front c (joined cs ++ bs) h.0 ∙
    ap (λ (x : List (List ℕ)). c ∷ x) (commands-append cs bs h.1)

pub rest-append : (cs : List (List ℕ)) (bs : List ℕ) → AllAlone cs → rest_of (joined cs ++ bs) ≡ rest_of bs
rest-append [] bs h = refl
rest-append (c ∷ cs) bs h =
    ap rest_of (append_assoc c (joined cs) bs) ∙ rest-front c (joined cs ++ bs) h.0 ∙ rest-append cs bs h.1

-- a whole command is whole with bytes after it, so the front of a cut command is cut
pub front_cut : (xs ys : List ℕ) → whole_words (xs ++ ys) ≡ 0 → whole_words xs ≡ 0
front_cut xs ys cut =
    by-test (eqb (whole_words xs) 0) (eqb-true _ _)
    (λ f.
    let w = is_whole xs (eqb-false _ _ f) in
    let same : first_number (xs ++ ys) ≡ first_number xs = ap number_in (word-front xs ys 0 (omega (arith, w.some, w.inside))) in
    let long : words_of (first_number (xs ++ ys)) ≤ length (xs ++ ys) / 8 =
    rw same (omega (arith, length-append xs ys, w.words, w.inside)) in
    absurd (omega (arith, words-there (xs ++ ys) long, command-some (xs ++ ys))))

-- the whole words of a list have its commands
pub commands-words : (bs : List ℕ) → commands_of (take (8 * (length bs / 8)) bs) ≡ commands_of bs
commands-words bs =
    let p = parsed bs in
    let cs = commands_of bs in
    let rest = rest_of bs in
    let n = 8 * (length bs / 8) in
    let long : length (joined cs) ≡ 8 * words_in cs = length-joined cs p.alone in
    let total : length bs ≡ length (joined cs) + length rest = sym (ap length p.joins) ∙ length-append (joined cs) rest in
    let m = n - length (joined cs) in
    let split : n ≡ length (joined cs) + m = omega arith in
    let front : take n bs ≡ joined cs ++ take m rest =
    (λ i. take (split i) (sym p.joins i)) ∙ take-append-add (joined cs) rest m in
    let cut : whole_words (take m rest) ≡ 0 = front_cut (take m rest) (drop m rest) (rw (take-append-drop m rest) p.cut) in
    ap commands_of front ∙
    commands-append cs (take m rest) p.alone ∙
    ap (λ (x : List (List ℕ)). cs ++ x) (commands-cut (take m rest) cut) ∙
    append-nil cs

-- ---- a list put together from two parts, cut anywhere

-- what is left of the first part begins the second
left-first : (xs ys : List ℕ) → joined (commands_of xs) ++ (rest_of xs ++ ys) ≡ xs ++ ys
left-first xs ys = sym (append_assoc (joined (commands_of xs)) (rest_of xs) ys) ∙ ap (λ (x : List ℕ). x ++ ys) (parsed xs).joins

pub commands-both : (xs ys : List ℕ) → commands_of (xs ++ ys) ≡ commands_of xs ++ commands_of (rest_of xs ++ ys)
commands-both xs ys = ap commands_of (sym (left-first xs ys)) ∙ commands-append (commands_of xs) (rest_of xs ++ ys) (parsed xs).alone

pub rest_both : (xs ys : List ℕ) → rest_of (xs ++ ys) ≡ rest_of (rest_of xs ++ ys)
rest_both xs ys = ap rest_of (sym (left-first xs ys)) ∙ rest-append (commands_of xs) (rest_of xs ++ ys) (parsed xs).alone

-- the longest command has 22 words: of one that is cut at most 175 bytes are there
pub rest-most : (bs : List ℕ) → length (rest_of bs) ≤ 175
rest-most bs = cut_most (rest_of bs) (parsed bs).cut
  where
    cut_most : (c : List ℕ) → whole_words c ≡ 0 → length c ≤ 175
    cut_most c cut =
        by-test (ltb (length c / 8) (words_of (first_number c)))
        (λ t.
        let short : length c / 8 < words_of (first_number c) = ltb-true _ _ t in
        omega (arith, short, words-most (first_number c) (number_small (word_at c 0))))
        (λ f. absurd (omega (arith, words-there c (ltb-false _ _ f), command-some c)))

-- The paired commands of two lists: what a pair adds to the entries, and where the rest begins after them. Assumes nothing.
use Rattle.std.proofs.Common.{ℕ, ◌+◌, ◌*◌, ◌/◌, ◌%◌, ◌^◌, ◌≤◌, Bool, true, false, cond, List, [], ◌∷◌, ◌++◌, append-nil, append_assoc, ◌⊎◌, inl, inr, ◌≡◌, refl, sym, ap, subst, ◌∙◌, zero-add, arith, length, length-append, eqb}
use Rattle.std.specs.Prelude.{Option, Some, None}
use Rattle.std.specs.Option.{is_some}
use Rattle.std.specs.Iterator.{YieldsFirstRef}
use Rattle.std.specs.Borrow.{Bor}
use Rattle.rdp_check.specs.declared.commands.Commands.{Commands}
use Rattle.rdp_words.specs.Words.{overwrite, pasted, WrittenIs}
use Rattle.rdp_words.specs.Kinds.{words_of}
use Rattle.rdp_words.specs.Lengths.{first_number}
use Rattle.rdp_words.proofs.OverwriteLaws.{length-overwrite, pasted-after}
use Rattle.rdp_words.proofs.Tests.{by-test}
use Rattle.rdp_check.specs.Commands.{commands_of, words_in}
use Rattle.rdp_check.proofs.JoinLaws.{AllAlone, parsed, count-joined, words_inside}
use Rattle.rdp_compare.specs.Differing.{differing_fields}
use Rattle.rdp_compare.specs.Entries.{differ, entry_with, pair_entry, pair_entries_from, pair_entries, compare_answer}
use Rattle.rdp_compare.specs.Part.{RestStart, in_first, in_second, longer_from, longer_in, rest_start}
use Rattle.rdp_compare.specs.Places.{OneCommand}
use Rattle.rdp_compare.specs.Steps.{difference, Over, Turns, rest_in}
use Rattle.rdp_compare.specs.declared.pairs.Pair.{Pair}
use Rattle.rdp_compare.specs.declared.pairs.Pairs.{Pairs}

-- ---- a command of a list

-- the first of the commands that are left is one, and its words are among those of the list
pub own-command : (list c : List ℕ) (cs : List (List ℕ)) → commands_of list ≡ c ∷ cs → OneCommand c
own-command list c cs e = let a : AllAlone (c ∷ cs) = subst AllAlone e (parsed list).alone in a.0

pub words-left : (list c : List ℕ) (cs : List (List ℕ)) → commands_of list ≡ c ∷ cs → words_in (commands_of list) ≡ length c / 8 + words_in cs
words-left list c cs e = ap words_in e ∙ omega (arith, own-command list c cs e)

-- what the next command says of those that are left
pub some-left : (s t : Commands) (r : Option (Bor (List ℕ))) → YieldsFirstRef (λ (u : Commands). commands_of u.0.now) s r t → is_some r ≡ true → (c : List ℕ) × (cs : List (List ℕ)) × (commands_of s.0.now ≡ c ∷ cs)
some-left s t None y e = absurd cc
some-left s t (Some c) y e = (c.now, commands_of t.0.now, y)

pub none-left : (s t : Commands) (r : Option (Bor (List ℕ))) → YieldsFirstRef (λ (u : Commands). commands_of u.0.now) s r t → is_some r ≡ false → commands_of s.0.now ≡ []
none-left s t None y e = y.0
none-left s t (Some c) y e = absurd cc

-- ---- the entries

entry-some : (b : Bool) (x y m : ℕ) → length (entry_with b x y m) ≤ 4
entry-some true x y m = omega arith
entry-some false x y m = omega arith

entry-by-none : (b : Bool) (x y m : ℕ) → None ≡ cond b (Some m) None → entry_with b x y m ≡ []
entry-by-none true x y m e = absurd cc
entry-by-none false x y m e = refl

entry-by-some : (b : Bool) (x y m n : ℕ) → Some n ≡ cond b (Some m) None → entry_with b x y m ≡ x ∷ y ∷ n / 2 ^ 32 ∷ n % 2 ^ 32 ∷ []
entry-by-some true x y m n e = let f : m ≡ n = cc in ap (λ (k : ℕ). x ∷ y ∷ k / 2 ^ 32 ∷ k % 2 ^ 32 ∷ []) f
entry-by-some false x y m n e = absurd cc

module _ (a b : ℕ) (c d : List ℕ) where
  pub entry-none : None ≡ difference c d → pair_entry a b c d ≡ []
  entry-none e = entry-by-none (differ c d) a b (differing_fields c d) e

  pub entry-of : (m : ℕ) → Some m ≡ difference c d → pair_entry a b c d ≡ a ∷ b ∷ m / 2 ^ 32 ∷ m % 2 ^ 32 ∷ []
  entry-of m e = entry-by-some (differ c d) a b (differing_fields c d) m e

entries-most : (a b : ℕ) (cs ds : List (List ℕ)) → length (pair_entries_from a b cs ds) ≤ 4 * length cs
unfolding pair_entries_from
entries-most a b [] ds = omega arith
entries-most a b (c ∷ cs) [] = omega arith
entries-most a b (c ∷ cs) (d ∷ ds) =
    let e = pair_entry a b c d in
    let more = pair_entries_from (a + words_of (first_number c)) (b + words_of (first_number d)) cs ds in
    let l : length e ≤ 4 = entry-some (differ c d) a b (differing_fields c d) in
    let m : length more ≤ 4 * length cs = entries-most (a + words_of (first_number c)) (b + words_of (first_number d)) cs ds in
    let s : length (e ++ more) ≡ length e + length more = length-append e more in
    rw s (omega (arith, l, m))

pub entries-few : (first second : List ℕ) → length first ≤ 32768 → length (pair_entries first second) ≤ 16384
entries-few first second h =
    let cs = commands_of first in
    let m = entries-most 0 0 cs (commands_of second) in
    let k : length cs ≤ words_in cs = count-joined cs (parsed first).alone in
    omega (arith, m, k, words_inside first)

none-second : (a b : ℕ) (cs : List (List ℕ)) → pair_entries_from a b cs [] ≡ []
unfolding pair_entries_from
none-second a b [] = refl
none-second a b (c ∷ cs) = refl

none_first : (a b : ℕ) (ds : List (List ℕ)) → pair_entries_from a b [] ds ≡ []
unfolding pair_entries_from
none_first a b ds = refl

-- ---- the entries and the rest from pairs on

abbrev pub due : Pairs → List ℕ
due p = pair_entries_from p.a p.b (commands_of p.first.0.now) (commands_of p.second.0.now)

pub due-none : (p : Pairs) → Over p → due p ≡ []
due-none p (inl e) = ap (λ (cs : List (List ℕ)). pair_entries_from p.a p.b cs (commands_of p.second.0.now)) e ∙ none_first p.a p.b (commands_of p.second.0.now)
due-none p (inr e) = ap (pair_entries_from p.a p.b (commands_of p.first.0.now)) e ∙ none-second p.a p.b (commands_of p.first.0.now)

module _ {s : Pairs} {p : Pair} {t : Pairs} (u : Turns s p t) where
  abbrev pub entry : List ℕ
  entry = pair_entry p.a p.b p.first.now p.second.now

  pub due-turn : due s ≡ entry ++ due t
  unfolding pair_entries_from
  due-turn =
      (λ i. pair_entries_from (sym u.a i) (sym u.b i) (u.first i) (u.second i)) ∙
      (λ i.
      entry ++
      pair_entries_from (sym (u.after_a ∙ ap (λ (k : ℕ). k + words_of (first_number p.first.now)) (sym u.a)) i) (sym (u.after_b ∙ ap (λ (k : ℕ). k + words_of (first_number p.second.now)) (sym u.b)) i) (commands_of t.first.0.now) (commands_of t.second.0.now))

  pub rest-turn : (end : ℕ) → rest_in end s ≡ rest_in end t
  unfolding longer_from
  rest-turn end =
      (λ i. longer_from end s.a s.b (u.first i) (u.second i)) ∙
      (λ i. longer_from end (sym u.after_a i) (sym u.after_b i) (commands_of t.first.0.now) (commands_of t.second.0.now))

-- the pairs of two lists
abbrev pub Begins : List ℕ → List ℕ → Pairs → Type 0
Begins first second p = ((p.first.0.now ≡ first) × (p.second.0.now ≡ second)) × ((p.a ≡ 0) × (p.b ≡ 0))

module _ (first second : List ℕ) (p : Pairs) (e : Begins first second p) where
  due-all : due p ≡ pair_entries first second
  due-all = λ i. pair_entries_from (e.1.0 i) (e.1.1 i) (commands_of (e.0.0 i)) (commands_of (e.0.1 i))

  rest-all : rest_in (length first) p ≡ longer_in first second
  rest-all = λ i. longer_from (length first) (e.1.0 i) (e.1.1 i) (commands_of (e.0.0 i)) (commands_of (e.0.1 i))

-- ---- counting

pub record Counting (first second : List ℕ) (p : Pairs) (count : ℕ) : Type 0 where
  pub long : length first ≤ 32768
  pub whole : count + length (due p) ≡ length (pair_entries first second)
  pub rest : rest_in (length first) p ≡ longer_in first second

pub counting-first : (first second : List ℕ) (p : Pairs) → length first ≤ 32768 → Begins first second p → Counting first second p 0
counting-first first second p h e =
    record { long = h; whole = zero-add _ ∙ ap length (due-all first second p e); rest = rest-all first second p e }

module _ {first second : List ℕ} {s : Pairs} {count : ℕ} (c : Counting first second s count) where
  pub count-few : count ≤ 16384
  count-few = omega (arith, c.whole, entries-few first second c.long)

  pub counting-next : {p : Pair} {t : Pairs} → Turns s p t → {k : ℕ} → k ≡ length (pair_entry p.a p.b p.first.now p.second.now) → Counting first second t (count + k)
  counting-next {p} {t} u is =
      let more = ap length (due-turn u) ∙ length-append (pair_entry p.a p.b p.first.now p.second.now) (due t) in
      record { long = c.long; whole = omega (arith, c.whole, more, is); rest = sym (rest-turn u (length first)) ∙ c.rest }

  pub all-counted : Over s → count ≡ length (pair_entries first second)
  all-counted over = omega (arith, c.whole, ap length (due-none s over))

-- ---- writing

pub record Writing (first second old new : List ℕ) (p : Pairs) (to : ℕ) : Type 0 where
  pub room : length (pair_entries first second) ≤ length old
  pub done : List ℕ
  pub output : new ≡ overwrite done old
  pub index : to ≡ length done
  pub whole : done ++ due p ≡ pair_entries first second

pub writing-first : (first second old : List ℕ) (p : Pairs) → length (pair_entries first second) ≤ length old → Begins first second p → Writing first second old old p 0
unfolding overwrite
writing-first first second old p h e = record { room = h; done = []; output = refl; index = refl; whole = due-all first second p e }

module _ {first second old new : List ℕ} {s : Pairs} {to : ℕ} (w : Writing first second old new s to) where
  fitting : length w.done ≤ length old
  fitting = omega (arith, w.room, ap length w.whole, length-append w.done (due s))

  new-long : length new ≡ length old
  new-long = ap length w.output ∙ length-overwrite w.done old fitting

  pub written : Over s → new ≡ overwrite (pair_entries first second) old
  written over =
      w.output ∙
      ap (λ (l : List ℕ). overwrite l old) (sym (append-nil w.done) ∙ ap (λ (l : List ℕ). w.done ++ l) (sym (due-none s over)) ∙ w.whole)

  module _ {p : Pair} {t : Pairs} (u : Turns s p t) where
    whole-turn : (w.done ++ entry u) ++ due t ≡ pair_entries first second
    whole-turn = append_assoc w.done (entry u) (due t) ∙ ap (λ (l : List ℕ). w.done ++ l) (sym (due-turn u)) ∙ w.whole

    pub turn-fits : to + length (entry u) ≤ length new
    turn-fits =
        omega (arith, new-long, w.index, w.room, ap length whole-turn, length-append (w.done ++ entry u) (due t), length-append w.done (entry u))

    pub writing-next : {next : ℕ} {new' : List ℕ} → WrittenIs (entry u) to next new new' → Writing first second old new' t next
    writing-next x =
        record {
          room = w.room;
          done = w.done ++ entry u;
          output = x.output ∙ ap (pasted to (entry u)) w.output ∙ pasted-after w.done (entry u) old to (sym w.index);
          index = omega (arith, x.after, w.index, length-append w.done (entry u));
          whole = whole-turn;
        }

-- ---- the rest

-- after the pairs, where one list is at its end
module _ (end a b : ℕ) (cs ds : List (List ℕ)) where
  pub first-more : (cs ≡ []) ⊎ (ds ≡ []) → (c : List ℕ) (more : List (List ℕ)) → cs ≡ c ∷ more → in_first 0 (8 * a) ≡ longer_from end a b cs ds
  unfolding longer_from
  first-more (inl e) c more f = absurd cc
  first-more (inr e) c more f = sym (λ i. longer_from end a b (f i) (e i))

  pub second-more : cs ≡ [] → (d : List ℕ) (more : List (List ℕ)) → ds ≡ d ∷ more → in_second (8 * b) ≡ longer_from end a b cs ds
  unfolding longer_from
  second-more e d more f = sym (λ i. longer_from end a b (e i) (f i))

  pub none-more : cs ≡ [] → ds ≡ [] → in_first 0 end ≡ longer_from end a b cs ds
  unfolding longer_from
  none-more e f = sym (λ i. longer_from end a b (e i) (f i))

-- it begins inside its list
longer-inside :
    (first second : List ℕ) (a b : ℕ) (cs ds : List (List ℕ)) → 8 * (a + words_in cs) ≤ length first → 8 * (b + words_in ds) ≤ length second →
    let r = longer_from (length first) a b cs ds in r.start ≤ length (cond r.second second first)
unfolding longer_from
longer-inside first second a b [] [] p q = omega arith
longer-inside first second a b (c ∷ cs) [] p q = omega arith
longer-inside first second a b [] (d ∷ ds) p q = omega arith
longer-inside first second a b (c ∷ cs) (d ∷ ds) p q =
    longer-inside first second (a + words_of (first_number c)) (b + words_of (first_number d)) cs ds (omega arith) (omega arith)

rest-inside : (first second : List ℕ) (room : ℕ) → let r = rest_start first second room in r.start ≤ length (cond r.second second first)
unfolding rest_start
rest-inside first second room =
    let number = (compare_answer first second room).number in
    by-test (eqb number 0)
    (λ t.
    rw t
    (longer-inside first second 0 0 (commands_of first) (commands_of second) (omega (arith, words_inside first)) (omega (arith, words_inside second))))
    (λ f. rw f (omega arith))

pub start-inside :
    (first second : List ℕ) (room : ℕ) {r : RestStart} → r ≡ rest_start first second room → {b : Bool} → r.second ≡ b → r.start ≤ length (cond b second first)
start-inside first second room {r} e {b} is =
    let h = rest-inside first second room in
    subst (λ (x : Bool). r.start ≤ length (cond x second first)) is
    (subst (λ (x : RestStart). x.start ≤ length (cond x.second second first)) (sym e) h)

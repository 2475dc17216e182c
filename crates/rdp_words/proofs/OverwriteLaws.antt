-- Elements written at the front of a list, from an index on, and after what was written before. Assumes nothing.
use Prim.Native.Nat.{ℕ, suc, ◌+◌, ◌-◌, ◌≤◌, ◌<◌, min}
use mathlib.Core.Path.{◌≡◌, refl, ap, sym, ◌∙◌}
use mathlib.Core.List.{List, [], ◌++◌, append_assoc}
use native.Mathlib.Nat.{le_of_lt}
use native.Mathlib.Numerals.{add-one}
use native.Mathlib.Omega.{arith}
use lib.ListN.{length, take, drop, get_or, set, length-append, length-take, length-drop, take-append-drop}
use lib.Seq.{take_all, drop-cons, set_at, append_snoc, take-suc, length-take-le, take-length, take_at, drop_at, drop-drop, take-take, drop-append-le}
use Rattle.rdp_words.specs.Words.{overwrite, pasted}

-- out, with the first i elements of src copied to its front
abbrev pub copied : {A : Type 0} → List A → List A → ℕ → List A
copied out src i = take i src ++ drop i out

pub length-copied : (out src : List ℕ) (i : ℕ) → i ≤ length src → i ≤ length out → length (copied out src i) ≡ length out
length-copied out src i hs ho = simp (length-append, length-take-le i src hs, length-drop) (omega arith)

pub copied_more : (out src : List ℕ) (i : ℕ) → i < length src → i < length out → set (copied out src i) i (get_or src i 0) ≡ copied out src (i + 1)
copied_more out src i hs ho =
    ap (λ (r : List ℕ). set (take i src ++ r) i (get_or src i 0)) (drop-cons out i 0 ho) ∙
    set_at (take i src) (get_or out i 0) (drop (suc i) out) (get_or src i 0) i (length-take-le i src (le_of_lt hs)) ∙
    sym (append_snoc (take i src) (get_or src i 0) (drop (suc i) out)) ∙
    ap (λ (r : List ℕ). r ++ drop (suc i) out) (sym (take-suc src i 0 hs)) ∙
    ap (λ (k : ℕ). copied out src k) (sym (add-one i))

pub copied_all : (out src : List ℕ) → copied out src (length src) ≡ overwrite src out
unfolding overwrite
copied_all out src = ap (λ (r : List ℕ). r ++ drop (length src) out) (take-length src)

-- ---- elements written at the front

pub overwrite-is : {A : Type 0} (new old : List A) (n : ℕ) → length new ≡ n → overwrite new old ≡ new ++ drop n old
unfolding overwrite
overwrite-is new old n e = ap (λ (k : ℕ). new ++ drop k old) e

-- copied as far as both go
pub copied-both : {A : Type 0} (out src : List A) (i : ℕ) → i ≡ min (length out) (length src) → copied out src i ≡ overwrite (take (length out) src) out
copied-both {A} out src i e =
    let front : List A = take (length out) src in
    let size : length front ≡ i = length-take (length out) src ∙ sym e in
    let same : front ≡ take i src = sym (take_all i front (omega (arith, size))) ∙ take-take i (length out) src (omega arith) in
    ap (λ (r : List A). r ++ drop i out) (sym same) ∙ sym (overwrite-is front out i size)

pub take-overwrite : (new old : List ℕ) (n : ℕ) → length new ≡ n → take n (overwrite new old) ≡ new
unfolding overwrite
take-overwrite new old n e = take_at new (drop (length new) old) n e

pub drop-overwrite : (new old : List ℕ) (n : ℕ) → length new ≡ n → drop n (overwrite new old) ≡ drop n old
unfolding overwrite
drop-overwrite new old n e = drop_at new (drop (length new) old) n e ∙ ap (λ (k : ℕ). drop k old) e

-- what was written at the front before does not count
pub overwrite-twice : (a b old : List ℕ) → length a ≡ length b → overwrite a (overwrite b old) ≡ overwrite a old
overwrite-twice a b old e =
    overwrite-is a (overwrite b old) (length b) e ∙ ap (λ (r : List ℕ). a ++ r) (drop-overwrite b old (length b) refl) ∙ sym (overwrite-is a old (length b) e)

pub length-overwrite : (bs out : List ℕ) → length bs ≤ length out → length (overwrite bs out) ≡ length out
unfolding overwrite
length-overwrite bs out h = simp (length-append, length-drop) (omega arith)

-- ---- elements written from an index on

pub pasted-is : (a : ℕ) (new old : List ℕ) (n : ℕ) → a + length new ≡ n → pasted a new old ≡ take a old ++ (new ++ drop n old)
unfolding pasted overwrite
pasted-is a new old n e = ap (λ (r : List ℕ). take a old ++ (new ++ r)) (drop-drop (length new) a old ∙ ap (λ (k : ℕ). drop k old) e)

pub pasted-none : (a : ℕ) (old : List ℕ) → pasted a [] old ≡ old
unfolding pasted overwrite
pasted-none a old = take-append-drop a old

pub pasted-front : (a : ℕ) (new old : List ℕ) → a ≤ length old → pasted a new old ≡ overwrite (take a old ++ new) old
pasted-front a new old h =
    let e : length (take a old ++ new) ≡ a + length new = omega (arith, length-append (take a old) new, length-take-le a old h) in
    pasted-is a new old (a + length new) refl ∙
    sym (append_assoc (take a old) new (drop (a + length new) old)) ∙
    sym (overwrite-is (take a old ++ new) old (a + length new) e)

-- b written after bs
pub pasted-after : (bs b out : List ℕ) (a : ℕ) → length bs ≡ a → pasted a b (overwrite bs out) ≡ overwrite (bs ++ b) out
unfolding pasted overwrite
pasted-after bs b out a at =
    let e : a + length b ≡ length (bs ++ b) = omega (arith, length-append bs b) in
    (λ i. take_at bs (drop (length bs) out) a at i ++ overwrite b ((drop_at bs (drop (length bs) out) a at ∙ ap (λ (k : ℕ). drop k out) at) i)) ∙
    sym (append_assoc bs b (drop (length b) (drop a out))) ∙
    ap (λ (r : List ℕ). (bs ++ b) ++ r) (drop-drop (length b) a out ∙ ap (λ (k : ℕ). drop k out) e)

pub overwrite-none : (out : List ℕ) → overwrite [] out ≡ out
unfolding overwrite
overwrite-none out = refl

pub pasted-append : (to : ℕ) (a b out : List ℕ) → to ≤ length out → pasted (to + length a) b (pasted to a out) ≡ pasted to (a ++ b) out
pasted-append to a b out h =
    let e : length (take to out ++ a) ≡ to + length a = omega (arith, length-append (take to out) a, length-take-le to out h) in
    ap (pasted (to + length a) b) (pasted-front to a out h) ∙
    pasted-after (take to out ++ a) b out (to + length a) e ∙
    ap (λ (r : List ℕ). overwrite r out) (append_assoc (take to out) a b) ∙
    sym (pasted-front to (a ++ b) out h)

-- ---- a part that was lent

-- src copied to the part from a to e, which it fits into
pub part-copied :
    (src xs ys : List ℕ) (a e : ℕ) → a + length src ≤ e → e ≤ length xs →
    ys ≡ overwrite (take (length (take (e - a) (drop a xs))) src) (take (e - a) (drop a xs)) →
    take a xs ++ (ys ++ drop (e - a) (drop a xs)) ≡ pasted a src xs
unfolding pasted overwrite
part-copied src xs ys a e fits inside is =
    let n : ℕ = e - a in
    let rest : List ℕ = drop a xs in
    let part : List ℕ = take n rest in
    let size : length part ≡ n = length-take-le n rest (omega (arith, length-drop a xs)) in
    let whole : take (length part) src ≡ src = take_all (length part) src (omega arith) in
    let back : drop (length src) part ++ drop n rest ≡ drop (length src) rest =
    sym (drop-append-le (length src) part (drop n rest) (omega arith)) ∙ ap (drop (length src)) (take-append-drop n rest) in
    ap (λ (r : List ℕ). take a xs ++ (r ++ drop n rest)) (is ∙ ap (λ (r : List ℕ). overwrite r part) whole) ∙
    ap (λ (r : List ℕ). take a xs ++ r) (append_assoc src (drop (length src) part) (drop n rest) ∙ ap (λ (r : List ℕ). src ++ r) back)

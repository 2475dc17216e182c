-- The bits of the fields that differ, one by one. Promises: `mask-bit`, a bit is set exactly where a field of that index differs; `field-set`, the bit of
-- each field, whatever the suffix; `value-clear`, `clear-value`, it is clear exactly where the values are the same; `suffix-set`, that of a triangle's suffix,
-- bit 21; `unnamed-are`, the bit lines that name no field by their places. Assumes nothing.
use Rattle.std.proofs.Common.{ℕ, zero, suc, ◌+◌, ◌-◌, ◌*◌, ◌/◌, ◌%◌, ◌^◌, ◌≤◌, ◌<◌, Bool, true, false, cond, not, ◌&&◌, ◌||◌, List, [], ◌∷◌, ◌++◌, map, ◌≡◌, refl, ap, sym, ◌∙◌, zero-mul, one-mul, add-mul, mul_assoc, mul_comm, pow-suc, suc-ne-zero, add-zero, zero-add, add_comm, lt_of_le_of_lt, arith, eq-eqb, ne_eqb, le-leb, leb-true, ltb-true, ltb-false, eqb-true, eqb, leb, ltb, eqb→eq, lit≤, length, get_or, pow-add, shr-shr}
use borrow.Author.Tests.{eqb-false}
use Rattle.std.proofs.Math.Pow.{pow-lt, shl-shr, high}
use Rattle.std.proofs.Math.Seq.{get_or-append_seam}
use mir.Val.{bool_byte}
use Rattle.rdp_words.specs.Lengths.{first_number, suffix_of}
use Rattle.rdp_words.proofs.Tests.{below, by-test}
use Rattle.rdp_words.specs.Words.{same_bytes}
use Rattle.rdp_command.specs.Layout.{Line, bits, other_modes_lines, layout}
use Rattle.rdp_command.specs.Fields.{Value}
use Rattle.rdp_command.specs.Commands.{values_of}
use Rattle.rdp_command.specs.Decode.{decode_of}
use Rattle.rdp_command.specs.Decode.{Decoded}
use Rattle.rdp_command.specs.Decode.{Whole, Refused}
use Rattle.rdp_command.proofs.ReadLaws.{decodes, decoded-number}
use Rattle.rdp_encode.specs.Placed.{number_of_value}
use Rattle.rdp_encode.specs.Numbers.{value_from, values_from}
use Rattle.rdp_encode.proofs.FieldLaws.{values-decoded}
use Rattle.rdp_command.proofs.Signed.{bool_le}
use Rattle.rdp_command.proofs.Triangles.{layout-at}
use Rattle.rdp_compare.specs.Differing.{numbers_in, field_numbers, unlike, fields_differ, unnamed_before, line_index, bits_from, differing_fields}
use Rattle.rdp_compare.specs.Places.{OneCommand}
use Rattle.rdp_compare.specs.Steps.{Alike}
use Rattle.rdp_compare.proofs.DifferingLaws.{there, length-unlike, fields-long, as_many}

-- ---- the indices rise

leb-rises : (a k : ℕ) → bool_byte (leb a k) ≤ bool_byte (leb a (suc k))
leb-rises a k =
    by-test (leb a k) (λ t. let h : a ≤ k = leb-true a k t in rw (t, le-leb a (suc k) (omega arith)) (lit≤ tt)) (λ f. rw f (omega arith))

rises_by : (b : Bool) (k : ℕ) → suc (k + cond b (unnamed_before k) 0) ≤ suc k + cond b (unnamed_before (suc k)) 0
rises_by true k = omega (arith, leb-rises 1 k, leb-rises 16 k, leb-rises 24 k)
rises_by false k = omega arith

rises : (n k : ℕ) → suc (line_index n k) ≤ line_index n (suc k)
rises n k = rises_by (eqb n 0x2F) k

-- ---- a bit and what stands above it

as_byte : (b : Bool) (i : ℕ) → cond b (2 ^ i) 0 ≡ bool_byte b * 2 ^ i
as_byte true i = sym (one-mul (2 ^ i))
as_byte false i = sym (zero-mul (2 ^ i))

stacked : (x q i : ℕ) → x * 2 ^ i + q * 2 ^ suc i ≡ (x + q * 2) * 2 ^ i
stacked x q i =
    ap (λ (y : ℕ). x * 2 ^ i + q * y) (pow-suc 2 i ∙ mul_comm (2 ^ i) 2) ∙
    ap (λ (y : ℕ). x * 2 ^ i + y) (sym (mul_assoc q 2 (2 ^ i))) ∙
    sym (add-mul x (q * 2) (2 ^ i))

record Multiple (x j : ℕ) : Type 0 where
  times : ℕ
  is : x ≡ times * 2 ^ j

lower : (x i j : ℕ) → j ≤ i → Multiple x i → Multiple x j
lower x i j h m =
    let e : i ≡ i - j + j = omega arith in
    record {
      times = m.times * 2 ^ (i - j);
      is = m.is ∙ ap (λ (k : ℕ). m.times * 2 ^ k) e ∙ ap (λ (y : ℕ). m.times * y) (pow-add 2 (i - j) j) ∙ sym (mul_assoc m.times (2 ^ (i - j)) (2 ^ j));
    }

stack : (b : Bool) (i : ℕ) {r : ℕ} (m : Multiple r (suc i)) → cond b (2 ^ i) 0 + r ≡ (bool_byte b + m.times * 2) * 2 ^ i
stack b i m = (λ t. as_byte b i t + m.is t) ∙ stacked (bool_byte b) m.times i

stack-multiple : (b : Bool) (i : ℕ) {r : ℕ} → Multiple r (suc i) → Multiple (cond b (2 ^ i) 0 + r) i
stack-multiple b i m = record { times = bool_byte b + m.times * 2; is = stack b i m }

multiple : (n k : ℕ) (bs : List Bool) → Multiple (bits_from n k bs) (line_index n k)
unfolding bits_from
multiple n k [] = record { times = 0; is = sym (zero-mul (2 ^ line_index n k)) }
multiple n k (b ∷ bs) =
    stack-multiple b (line_index n k) (lower (bits_from n (suc k) bs) (line_index n (suc k)) (suc (line_index n k)) (rises n k) (multiple n (suc k) bs))

low_bit : (x q : ℕ) → x ≤ 1 → (x + q * 2) % 2 ≡ x
low_bit x q h = omega arith

-- the bit at the index itself
own-bit : (b : Bool) (i : ℕ) {r : ℕ} → Multiple r (suc i) → (cond b (2 ^ i) 0 + r) / 2 ^ i % 2 ≡ bool_byte b
own-bit b i m =
    ap (λ (y : ℕ). y / 2 ^ i % 2) (stack b i m) ∙
    ap (λ (y : ℕ). y % 2) (shl-shr (bool_byte b + m.times * 2) i) ∙
    low_bit (bool_byte b) m.times (bool_le b)

-- no bit below
below-clear : (x i j : ℕ) → j < i → Multiple x i → x / 2 ^ j % 2 ≡ 0
below-clear x i j h m =
    ap (λ (y : ℕ). y / 2 ^ j % 2) (sym (zero-add x)) ∙ own-bit false j (lower x i (suc j) h m)

small-bit : (b : Bool) (i : ℕ) → cond b (2 ^ i) 0 < 2 ^ suc i
small-bit true i = pow-lt (omega arith)
small-bit false i = lt_of_le_of_lt (omega arith) (pow-lt {i = i} (omega arith))

-- the bits above are those of what stands above
past : (b : Bool) (i e : ℕ) {r : ℕ} → i < e → Multiple r (suc i) → (cond b (2 ^ i) 0 + r) / 2 ^ e ≡ r / 2 ^ e
past b i e {r} h m =
    let f : e ≡ suc i + (e - suc i) = omega arith in
    let x = cond b (2 ^ i) 0 in
    let q = m.times in
    let turned = ap (λ (y : ℕ). y / 2 ^ suc i) (add_comm x (q * 2 ^ suc i)) in
    let one : (x + r) / 2 ^ suc i ≡ q = ap (λ (y : ℕ). (x + y) / 2 ^ suc i) m.is ∙ turned ∙ high q (suc i) (small-bit b i) in
    let two : r / 2 ^ suc i ≡ q = ap (λ (y : ℕ). y / 2 ^ suc i) m.is ∙ shl-shr q (suc i) in
    ap (λ (k : ℕ). (x + r) / 2 ^ k) f ∙
    sym (shr-shr (x + r) (suc i) (e - suc i)) ∙
    ap (λ (y : ℕ). y / 2 ^ (e - suc i)) (one ∙ sym two) ∙
    shr-shr r (suc i) (e - suc i) ∙
    ap (λ (k : ℕ). r / 2 ^ k) (sym f)

-- ---- every bit

-- a field of index j differs
abbrev pub set_at : ℕ → ℕ → List Bool → ℕ → Bool
set_at n k [] j = false
set_at n k (b ∷ bs) j = (b && eqb (line_index n k) j) || set_at n (suc k) bs j

and-false : (b : Bool) → b && false ≡ false
and-false true = refl
and-false false = refl

and-true-right : (b : Bool) → b && true ≡ b
and-true-right true = refl
and-true-right false = refl

or-false : (b : Bool) → b || false ≡ b
or-false true = refl
or-false false = refl

none-set : (n k : ℕ) (bs : List Bool) (j : ℕ) → j < line_index n k → set_at n k bs j ≡ false
none-set n k [] j h = refl
none-set n k (b ∷ bs) j h =
    rw (ne_eqb (line_index n k) j (λ e. omega (arith, h, e)), and-false b) (none-set n (suc k) bs j (omega (arith, h, rises n k)))

bits-set : (n k : ℕ) (bs : List Bool) (j : ℕ) → bits_from n k bs / 2 ^ j % 2 ≡ bool_byte (set_at n k bs j)
unfolding bits_from
bits-set n k [] j = ap (λ (x : ℕ). x / 2 ^ j % 2) (sym (zero-mul (2 ^ j))) ∙ ap (λ (x : ℕ). x % 2) (shl-shr 0 j)
bits-set n k (b ∷ bs) j =
    let i = line_index n k in
    let r = lower (bits_from n (suc k) bs) (line_index n (suc k)) (suc i) (rises n k) (multiple n (suc k) bs) in
    by-test (eqb i j)
    (λ t.
    let e = eqb-true i j t in
    rw (t, none-set n (suc k) bs j (omega (arith, e, rises n k)), and-true-right b, or-false b)
    (ap (λ (x : ℕ). (cond b (2 ^ i) 0 + bits_from n (suc k) bs) / 2 ^ x % 2) (sym e) ∙ own-bit b i r))
    (λ f.
    let g : i ≡ j → ⊥ = eqb-false i j f in
    by-test (ltb i j)
    (λ t. rw (f, and-false b) (ap (λ (x : ℕ). x % 2) (past b i j (ltb-true i j t) r) ∙ bits-set n (suc k) bs j))
    (λ u.
    let h : j ≤ i = ltb-false i j u in
    let l : j < i = omega (arith, h, g) in
    rw (f, and-false b, none-set n (suc k) bs j (omega (arith, l, rises n k)))
    (below-clear (cond b (2 ^ i) 0 + bits_from n (suc k) bs) i j l (stack-multiple b i r))))

index-least : (n k m : ℕ) → line_index n k ≤ line_index n (k + m)
index-least n k zero = rw (add-zero k) (omega arith)
index-least n k (suc m) =
    let e : k + suc m ≡ suc (k + m) = omega arith in
    rw e (omega (arith, index-least n k m, rises n (k + m)))

-- the field of an index is one
set-field : (n k : ℕ) (bs : List Bool) (m : ℕ) → set_at n k bs (line_index n (k + m)) ≡ get_or bs m false
set-field n k [] m = refl
set-field n k (b ∷ bs) zero =
    let e : k + 0 ≡ k = add-zero k in
    let i = line_index n k in
    ap (λ (j : ℕ). set_at n k (b ∷ bs) (line_index n j)) e ∙
    rw (eq-eqb i i refl, none-set n (suc k) bs i (omega (arith, rises n k)), and-true-right b, or-false b)
set-field n k (b ∷ bs) (suc m) =
    let e : k + suc m ≡ suc k + m = omega arith in
    let h = index-least n (suc k) m in
    ap (λ (j : ℕ). set_at n k (b ∷ bs) (line_index n j)) e ∙
    rw (ne_eqb (line_index n k) (line_index n (suc k + m)) (λ q. omega (arith, q, h, rises n k)), and-false b) (set-field n (suc k) bs m)

unlike-at :
    (xs ys : List ℕ) → length xs ≡ length ys → (more : List Bool) (k : ℕ) → k < length xs →
    get_or (unlike xs ys ++ more) k false ≡ not (eqb (get_or xs k 0) (get_or ys k 0))
unfolding unlike
unlike-at [] ys e more k h = absurd (omega arith)
unlike-at (x ∷ xs) [] e more k h = absurd (omega arith)
unlike-at (x ∷ xs) (y ∷ ys) e more zero h = refl
unlike-at (x ∷ xs) (y ∷ ys) e more (suc k) h = unlike-at xs ys (omega arith) more k (omega arith)

-- ---- values and their numbers

-- the values of a command's fields
abbrev pub values_in : Decoded → List Value
values_in (Whole x) = values_of x
values_in (Refused r) = []

value-at :
    (ls : List Line) (ns : List ℕ) (k : ℕ) (v : Value) → length ls ≡ length ns → k < length ns →
    get_or (values_from ls ns) k v ≡ value_from (get_or ls k (bits 0 0 0)).is_signed (get_or ns k 0)
value-at [] [] k v e h = absurd (omega arith)
value-at [] (n ∷ ns) k v e h = absurd (omega arith)
value-at (l ∷ ls) [] k v e h = absurd (omega arith)
value-at (l ∷ ls) (n ∷ ns) zero v e h = refl
value-at (l ∷ ls) (n ∷ ns) (suc k) v e h = value-at ls ns k v (omega arith) (omega arith)

of_map : (vs : List Value) (k : ℕ) (v : Value) → k < length (map number_of_value vs) → get_or (map number_of_value vs) k 0 ≡ number_of_value (get_or vs k v)
of_map [] k v h = absurd (omega arith)
of_map (x ∷ vs) zero v h = refl
of_map (x ∷ vs) (suc k) v h = of_map vs k v (omega arith)

number_at : (r : Decoded) (k : ℕ) (v : Value) → k < length (numbers_in r) → get_or (numbers_in r) k 0 ≡ number_of_value (get_or (values_in r) k v)
number_at (Whole x) k v h = of_map (values_of x) k v h
number_at (Refused r) k v h = absurd (omega arith)

values-are : (c : List ℕ) {n : ℕ} → OneCommand c → n ≡ first_number c → values_from (layout n) (field_numbers c) ≡ values_in (decode_of c)
values-are c one e =
    let d = decodes c (there c one) in
    (λ i. values_from (layout ((e ∙ sym (decoded-number c (there c one))) i)) (numbers_in (d i))) ∙
    values-decoded c d ∙
    ap values_in (sym d)

no_byte : (x y : ℕ) → bool_byte (not (eqb x y)) ≡ 0 → x ≡ y
no_byte x y e = by-test (eqb x y) (λ t. eqb-true x y t) (λ f. absurd (suc-ne-zero 0 (rw f at e)))

-- ---- the bits of two commands of one number

module _ {c d : List ℕ} {n : ℕ} (a : Alike c d n) where
  same : first_number c ≡ first_number d
  same = sym a.first ∙ a.second

  -- a bit is set exactly where a field of that index differs
  pub mask-bit : (j : ℕ) → differing_fields c d / 2 ^ j % 2 ≡ bool_byte (set_at n 0 (fields_differ c d) j)
  unfolding differing_fields
  mask-bit j =
      rw (eq-eqb (first_number c) (first_number d) same)
      (ap (λ (k : ℕ). bits_from k 0 (fields_differ c d) / 2 ^ j % 2) (sym a.first) ∙ bits-set n 0 (fields_differ c d) j)

  bit_at : (k : ℕ) → differing_fields c d / 2 ^ line_index n k % 2 ≡ bool_byte (get_or (fields_differ c d) k false)
  bit_at k =
      mask-bit (line_index n k) ∙
      ap bool_byte (ap (λ (j : ℕ). set_at n 0 (fields_differ c d) (line_index n j)) (sym (zero-add k)) ∙ set-field n 0 (fields_differ c d) k)

  -- the bit of each field, whatever the suffix
  pub field-set :
      (k : ℕ) → k < length (field_numbers c) → differing_fields c d / 2 ^ line_index n k % 2 ≡ bool_byte (not (eqb (get_or (field_numbers c) k 0) (get_or (field_numbers d) k 0)))
  field-set k h = bit_at k ∙ ap bool_byte (unlike-at (field_numbers c) (field_numbers d) (as_many a) (not (same_bytes (suffix_of c) (suffix_of d)) ∷ []) k h)

  fields-of-first : values_from (layout n) (field_numbers c) ≡ values_in (decode_of c)
  fields-of-first = values-are c a.one a.first

  fields-of-second : values_from (layout n) (field_numbers d) ≡ values_in (decode_of d)
  fields-of-second = values-are d a.two a.second

  -- the bit is clear exactly where the values of the field are the same
  pub value-clear :
      (k : ℕ) (v : Value) → k < length (field_numbers c) → differing_fields c d / 2 ^ line_index n k % 2 ≡ 0 →
      get_or (values_in (decode_of c)) k v ≡ get_or (values_in (decode_of d)) k v
  value-clear k v h z =
      let s = (get_or (layout n) k (bits 0 0 0)).is_signed in
      let e = no_byte (get_or (field_numbers c) k 0) (get_or (field_numbers d) k 0) (sym (field-set k h) ∙ z) in
      let long : length (layout n) ≡ length (field_numbers c) = ap (λ (m : ℕ). length (layout m)) a.first ∙ sym (fields-long c a.one) in
      ap (λ (vs : List Value). get_or vs k v) (sym fields-of-first) ∙
      value-at (layout n) (field_numbers c) k v long h ∙
      ap (value_from s) e ∙
      sym (value-at (layout n) (field_numbers d) k v (long ∙ as_many a) (omega (arith, h, as_many a))) ∙
      ap (λ (vs : List Value). get_or vs k v) fields-of-second

  pub clear-value :
      (k : ℕ) (v : Value) → k < length (field_numbers c) → get_or (values_in (decode_of c)) k v ≡ get_or (values_in (decode_of d)) k v →
      differing_fields c d / 2 ^ line_index n k % 2 ≡ 0
  clear-value k v h e =
      let f = number_at (decode_of c) k v h ∙ ap number_of_value e ∙ sym (number_at (decode_of d) k v (omega (arith, h, as_many a))) in
      field-set k h ∙ ap (λ (b : Bool). bool_byte (not b)) (eq-eqb _ _ f)

  -- a triangle's suffix has bit 21
  pub suffix-set : n / 8 ≡ 1 → differing_fields c d / 2 ^ 21 % 2 ≡ bool_byte (not (same_bytes (suffix_of c) (suffix_of d)))
  suffix-set e =
      let us = unlike (field_numbers c) (field_numbers d) in
      let s = not (same_bytes (suffix_of c) (suffix_of d)) in
      let t : first_number c / 8 ≡ 1 = ap (λ (k : ℕ). k / 8) (sym a.first) ∙ e in
      let long : length us ≡ 21 = length-unlike (field_numbers c) (field_numbers d) (as_many a) ∙ fields-long c a.one ∙ ap length (layout-at (first_number c) t) in
      let index : line_index n 21 ≡ 21 = rw (ne_eqb n 0x2F (λ q. omega (arith, e, q))) in
      ap (λ (j : ℕ). differing_fields c d / 2 ^ j % 2) (sym index) ∙
      bit_at 21 ∙
      ap bool_byte (ap (λ (j : ℕ). get_or (us ++ (s ∷ [])) j false) (sym long) ∙ get_or-append_seam us s [] false)

-- ---- the bit lines that name no field

abbrev low_of : ℕ → ℕ
low_of k = (get_or other_modes_lines k (bits 0 0 0)).low

abbrev lines_passed : ℕ → ℕ
lines_passed k = bool_byte (ltb (low_of k) 54) + bool_byte (ltb (low_of k) 32) + bool_byte (ltb (low_of k) 15)

-- of Set Other Modes: bit 54, bits 35:32 and bit 15 stand before a field exactly where its bit line is lower
pub unnamed-are : (k : ℕ) → k < 37 → unnamed_before k ≡ lines_passed k
unnamed-are k h = eqb→eq _ _ (below 37 (λ j. eqb (unnamed_before j) (lines_passed j)) tt k h)

-- A command as its number and the numbers of its fields, and back. Assumes nothing.
use Rattle.std.proofs.Common.{ℕ, ◌+◌, ◌-◌, ◌*◌, ◌/◌, ◌%◌, ◌^◌, ◌≤◌, ◌<◌, Bool, true, false, ◌&&◌, List, [], ◌∷◌, map, ◌≡◌, refl, ap, sym, subst, ◌∙◌, lt_of_lt_of_le, suc-ne-zero, arith, eq-eqb, ltb-true, eqb-true, T, eqb, length, get_or, drop, replicate, pow_mono, w64, to_z-of_z}
use Rattle.std.proofs.Math.ListN.{length-replicate}
use lib.Signed.{mag}
use mir.Val.{bool_byte}
use Rattle.rdp_words.specs.Words.{number_in}
use Rattle.rdp_words.specs.Kinds.{words_of}
use Rattle.rdp_words.specs.Lengths.{suffix_of}
use Rattle.rdp_command.specs.Layout.{Line, width, layout, triangle_base_lines}
use Rattle.rdp_encode.specs.Table.{Readable}
use Rattle.std.specs.List.{AllByRecursion}
use Rattle.rdp_command.specs.Fields.{Value, unsigned, signed, fields_of}
use Rattle.rdp_encode.specs.Placed.{number_of_value, fits_line, all_fit, at_lines}
use Rattle.rdp_command.specs.Groups.{triangle_base_of}
use Rattle.rdp_command.specs.Commands.{command_of, number_of, values_of}
use Rattle.rdp_encode.specs.Encode.{packed_word, numbers_of, number_in_row, encodable, answer_with, encode_answer}
use Rattle.rdp_encode.specs.Numbers.{value_from, values_from, numbers_fit, flags_agree, from_numbers}
use Rattle.rdp_command.specs.Decode.{decode_of}
use Rattle.rdp_words.specs.Grounds.{Answer}
use Rattle.rdp_command.specs.declared.TriangleBase.{TriangleBase}
use Rattle.rdp_command.specs.declared.Command.{Command}
use Rattle.rdp_command.specs.declared.Command.TheVariants.{FillTriangle}
use Rattle.rdp_command.specs.Decode.{Whole}
use Rattle.rdp_words.proofs.Tests.{both, by-test, and-true}
use Rattle.rdp_encode.proofs.TwosLaws.{signed-fits}
use Rattle.rdp_command.proofs.Signed.{bool_le}
use Rattle.rdp_encode.proofs.TableLaws.{layout-readable}
use Rattle.rdp_command.proofs.Triangles.{layout-at, triangle-eighth}
use Rattle.rdp_command.proofs.CommandLaws.{triangle-command}
use Rattle.rdp_encode.proofs.AnswerLaws.{fit_parts, accepted, made-tests, made-is}
use Rattle.rdp_encode.proofs.BitLaws.{packed_lt}
use Rattle.rdp_encode.proofs.ValueLaws.{sign_is}
use Rattle.rdp_encode.proofs.LayoutLaws.{matched, matched-long, first_rest, packed_words, numbers-from, fields_back}
use Rattle.rdp_encode.proofs.BackLaws.{command-back}
use Rattle.rdp_command.proofs.GroupLaws.{values-read}
use Rattle.rdp_encode.proofs.WholeLaws.{parts}
use Rattle.rdp_encode.proofs.NumberLaws.{standing, plain-number, flags-number}
use Rattle.rdp_command.proofs.NumberLaws.{by_flags, number_read}
use Rattle.rdp_encode.proofs.Laws.{encode-decoded-answer}

-- the values out of their own numbers
value-again : (l : Line) (v : Value) → width l ≤ 56 → T (sign_is l.is_signed v) → fits_line l v ≡ true → value_from l.is_signed (number_of_value v) ≡ v
value-again l v q = by l.is_signed v
  where
    by : (s : Bool) (v : Value) → T (sign_is s v) → fits_line l v ≡ true → value_from s (number_of_value v) ≡ v
    by false (unsigned n) t e = refl
    by false (signed z) t e = absurd t
    by true (unsigned n) t e = absurd t
    by true (signed z) t e =
        let r : width l - 1 ≤ 63 = omega arith in
        ap signed (to_z-of_z {w = w64} (record { sfits = lt_of_lt_of_le (ltb-true (mag z) (2 ^ (width l - 1)) (sym (signed-fits (2 ^ (width l - 1)) z) ∙ e)) (pow_mono r) }))

values-again : (ls : List Line) (vs : List Value) → AllByRecursion Readable ls → T (matched ls vs) → all_fit ls vs ≡ true → values_from ls (map number_of_value vs) ≡ vs
values-again [] [] r t a = refl
values-again [] (v ∷ vs) r t a = absurd t
values-again (l ∷ ls) [] r t a = absurd t
values-again (l ∷ ls) (v ∷ vs) r t a =
    let m = both (sign_is l.is_signed v) (matched ls vs) t in
    let p = and-true (fits_line l v) (all_fit ls vs) a in
    λ i. value-again l v r.0.narrow m.0 p.0 i ∷ values-again ls vs r.1 m.1 p.1 i

-- the flags of a triangle
flag-of : (s t z : ℕ) → s ≤ 1 → t ≤ 1 → z ≤ 1 → (s ≡ (8 + s * 4 + t * 2 + z) / 4 % 2) × ((t ≡ (8 + s * 4 + t * 2 + z) / 2 % 2) × (z ≡ (8 + s * 4 + t * 2 + z) % 2))
flag-of s t z hs ht hz = (omega arith, (omega arith, omega arith))

triangle-agrees : (g : TriangleBase) → flags_agree (number_of (FillTriangle g)) (numbers_of (FillTriangle g)) ≡ true
triangle-agrees g =
    let f = flag-of (bool_byte g.shade) (bool_byte g.texture) (bool_byte g.zbuffer) (bool_le g.shade) (bool_le g.texture) (bool_le g.zbuffer) in
    rw (eq-eqb _ _ (triangle-eighth g), eq-eqb _ _ f.0, eq-eqb _ _ f.1.0, eq-eqb _ _ f.1.1)

flags-agree : (c : Command) → number_in_row c ≡ true → flags_agree (number_of c) (numbers_of c) ≡ true
flags-agree c e =
    by-test (eqb (number_of c / 8) 1)
    (λ t.
    subst (λ (x : Command). flags_agree (number_of x) (numbers_of x) ≡ true)
    (sym (triangle-command (number_of c) (values_of c) (eqb-true (number_of c / 8) 1 t)) ∙ command-back c e)
    (triangle-agrees (triangle_base_of (values_of c))))
    (λ f. rw f)

from-own : (c : Command) → number_in_row c ≡ true → all_fit (layout (number_of c)) (values_of c) ≡ true → from_numbers (number_of c) (numbers_of c) ≡ Whole c
unfolding numbers_fit
from-own c e a =
    let n = number_of c in
    let s = standing c e in
    let again = values-again (layout n) (values_of c) (layout-readable n s.1) s.0 a in
    let long = sym (matched-long (layout n) (values_of c) s.0) in
    let fit : numbers_fit n (numbers_of c) ≡ true = rw (eq-eqb _ _ long) (ap (all_fit (layout n)) again ∙ a) in
    sym (accepted n (numbers_of c) s.1 (λ i. (fit i && flags-agree c e i)) (sym (command-back c e) ∙ ap (command_of n) (sym again)))

-- what `encode` does not refuse by 15 can be encoded
fits-of : (c : Command) (suffix out : List ℕ) → ((encode_answer c suffix out).number ≡ 15 → ⊥) → encodable c suffix ≡ true
unfolding answer_with
fits-of c suffix out n = by-test (encodable c suffix) (λ t. t) (λ f. absurd (n (rw f)))

-- the number and the fields of a command that `encode` does not refuse by 15 give the command back
pub from-fields-of :
    (c : Command) (suffix out : List ℕ) → ((encode_answer c suffix out).number ≡ 15 → ⊥) → from_numbers (number_of c) (numbers_of c) ≡ Whole c
from-fields-of c suffix out n = let p = parts c suffix (fits-of c suffix out n) in from-own c p.0 p.1.0

-- ---- a command that was decoded

module _ (bs : List ℕ) {c : Command} (d : decode_of bs ≡ Whole c) where
  decoded-fits : encodable c (suffix_of bs) ≡ true
  decoded-fits =
      let out : List ℕ = replicate (8 * words_of (number_of c)) 0 in
      let room : words_of (number_of c) ≤ length out / 8 = omega (arith, length-replicate {A = ℕ} (8 * words_of (number_of c)) 0) in
      fits-of c (suffix_of bs) out (λ e. suc-ne-zero 14 (sym e ∙ ap (λ (a : Answer). a.number) (encode-decoded-answer bs d out room)))

  -- its number and its fields give it back
  pub from-fields-decoded : from_numbers (number_of c) (numbers_of c) ≡ Whole c
  from-fields-decoded = let p = parts c (suffix_of bs) decoded-fits in from-own c p.0 p.1.0

  -- and each field's number its value
  pub values-decoded : values_from (layout (number_of c)) (numbers_of c) ≡ values_of c
  values-decoded =
      let p = parts c (suffix_of bs) decoded-fits in
      let s = standing c p.0 in
      values-again (layout (number_of c)) (values_of c) (layout-readable (number_of c) s.1) s.0 p.1.0

-- ---- the other way round

low-flags : (x : ℕ) → (x / 4 % 2 ≤ 1) × ((x / 2 % 2 ≤ 1) × (x % 2 ≤ 1))
low-flags x = (omega arith, (omega arith, omega arith))

-- the number in the first word of a triangle whose flags are those of its number
triangle-packed : (n : ℕ) (ns : List ℕ) → n < 64 → n / 8 ≡ 1 → length triangle_base_lines ≡ length ns → flags_agree n ns ≡ true → number_in (packed_word n ns 0) ≡ n
triangle-packed n [] h e l f = absurd (omega arith)
triangle-packed n (a ∷ []) h e l f = absurd (omega arith)
triangle-packed n (a ∷ b ∷ []) h e l f = absurd (omega arith)
triangle-packed n (a ∷ b ∷ c ∷ ns) h e l f =
    let p = rw (eq-eqb (n / 8) 1 e) at f in
    let q = and-true (eqb a (n / 4 % 2) && eqb b (n / 2 % 2)) (eqb c (n % 2)) p in
    let r = and-true (eqb a (n / 4 % 2)) (eqb b (n / 2 % 2)) q.0 in
    let ea = eqb-true a (n / 4 % 2) r.0 in
    let eb = eqb-true b (n / 2 % 2) r.1 in
    let ec = eqb-true c (n % 2) q.1 in
    let s = low-flags n in
    rw (eq-eqb (n / 8) 1 e, layout-at n e)
    (flags-number a b c (at_lines 0 (drop 3 triangle_base_lines) ns) (rw ea s.0) (rw eb s.1.0) (rw ec s.1.1) (packed_lt 0 56 (drop 3 triangle_base_lines) ns tt) ∙
    (λ i. 8 + ea i * 4 + eb i * 2 + ec i) ∙
    by_flags n h e)

packed-number : (n : ℕ) (ns : List ℕ) → n < 64 → length (layout n) ≡ length ns → flags_agree n ns ≡ true → number_in (packed_word n ns 0) ≡ n
packed-number n ns h l f =
    by-test (eqb (n / 8) 1)
    (λ t. let e = eqb-true (n / 8) 1 t in triangle-packed n ns h e (ap length (sym (layout-at n e)) ∙ l) f)
    (λ g. let r = rw g at (first_rest n h ns) in rw g (plain-number n (at_lines 0 (layout n) ns) h r))

-- the command made of a number and fields of 64 bits has that number and those fields
module _ (n : ℕ) (ns : List ℕ) (below64 : (k : ℕ) → get_or ns k 0 < 2 ^ 64) {c : Command} (d : from_numbers n ns ≡ Whole c) where
  small : n < 64
  small = ltb-true n 64 (made-tests n ns d).0

  halves : (numbers_fit n ns ≡ true) × (flags_agree n ns ≡ true)
  halves = and-true (numbers_fit n ns) (flags_agree n ns) (made-tests n ns d).1

  long : length (layout n) ≡ length ns
  long = sym (fit_parts n ns halves.0).0

  fields : fields_of (layout n) (packed_words n ns) ≡ values_from (layout n) ns
  fields = fields_back n ns small (layout-readable n small) long below64 (fit_parts n ns halves.0).1

  read : c ≡ command_of n (fields_of (layout n) (packed_words n ns))
  read = made-is n ns d ∙ ap (command_of n) (sym fields)

  pub number-of-made : number_of c ≡ n
  number-of-made = ap number_of read ∙ number_read n small (packed_words n ns) (packed-number n ns small long halves.1)

  pub numbers-of-made : numbers_of c ≡ ns
  numbers-of-made =
      ap numbers_of read ∙
      ap (map number_of_value) (values-read n small (packed_words n ns) ∙ fields) ∙
      (numbers-from (layout n) ns long below64).1

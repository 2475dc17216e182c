-- Commands differ exactly where they decode differently or have another suffix, and two lists have no entry exactly where all paired commands are the
-- same. Promises: `no-entries`, `all_same`, `same-encoding`. Assumes nothing.
use Rattle.std.proofs.Common.{ℕ, suc, ◌+◌, ◌^◌, Bool, true, false, cond, not, List, [], ◌∷◌, ◌++◌, ◌≡◌, refl, sym, ap, ◌∙◌, suc-ne-zero, arith, eq-eqb, eqb-true, eqb, length, length-append, pow_pos}
use borrow.Author.Tests.{not-false}
use Rattle.rdp_words.specs.Kinds.{words_of}
use Rattle.rdp_words.specs.Lengths.{first_number, suffix_of}
use Rattle.rdp_words.proofs.Tests.{neither}
use Rattle.rdp_words.specs.Words.{same_bytes}
use Rattle.rdp_command.specs.Commands.{number_of}
use Rattle.rdp_command.specs.Decode.{decode_of}
use Rattle.rdp_command.specs.declared.Command.{Command}
use Rattle.rdp_command.specs.Decode.{Decoded}
use Rattle.rdp_command.specs.Decode.{Whole, Refused}
use Rattle.rdp_command.proofs.ReadLaws.{decoded, decodes, decoded-number}
use Rattle.rdp_encode.specs.Encode.{numbers_of, encode_out}
use Rattle.rdp_encode.specs.Numbers.{from_numbers}
use Rattle.rdp_encode.proofs.Bytes.{empty}
use Rattle.rdp_encode.proofs.FieldLaws.{from-fields-decoded}
use Rattle.rdp_check.specs.Commands.{commands_of}
use Rattle.rdp_check.proofs.JoinLaws.{AllAlone, parsed}
use Rattle.rdp_compare.specs.Differing.{numbers_in, field_numbers, unlike, line_index, bits_from, differing_fields}
use Rattle.rdp_compare.specs.Entries.{differ, entry_with, pair_entry, pair_entries_from, pair_entries}
use Rattle.rdp_compare.specs.Same.{SameCommand, AllSame}
use Rattle.rdp_compare.specs.Places.{OneCommand}
use Rattle.rdp_compare.proofs.WordLaws.{bytes_same}
use Rattle.rdp_compare.proofs.DifferingLaws.{there, no_difference, as_many}

none_both : (a b : ℕ) → a + b ≡ 0 → (a ≡ 0) × (b ≡ 0)
none_both a b e = (omega arith, omega arith)

-- ---- no field differs

no-bit : (b : Bool) (k : ℕ) → cond b (2 ^ k) 0 ≡ 0 → b ≡ false
no-bit true k e = absurd (omega (arith, pow_pos k, e))
no-bit false k e = refl

same_numbers :
    (n k : ℕ) (xs ys : List ℕ) (b : Bool) → length xs ≡ length ys → bits_from n k (unlike xs ys ++ (b ∷ [])) ≡ 0 → (xs ≡ ys) × (b ≡ false)
unfolding bits_from unlike
same_numbers n k [] [] b l e = (refl, no-bit b (line_index n k) (none_both _ _ e).0)
same_numbers n k [] (y ∷ ys) b l e = absurd (omega arith)
same_numbers n k (x ∷ xs) [] b l e = absurd (omega arith)
same_numbers n k (x ∷ xs) (y ∷ ys) b l e =
    let p = none_both (cond (not (eqb x y)) (2 ^ line_index n k) 0) (bits_from n (suc k) (unlike xs ys ++ (b ∷ []))) e in
    let r = same_numbers n (suc k) xs ys b (omega arith) p.1 in
    let h : x ≡ y = eqb-true x y (not-false (eqb x y) (no-bit (not (eqb x y)) (line_index n k) p.0)) in
    (λ i. h i ∷ r.0 i, r.1)

-- ---- two commands

abbrev command_or : Command → Decoded → Command
command_or other (Whole x) = x
command_or other (Refused a) = other

module _ (c d : List ℕ) (one : OneCommand c) (two : OneCommand d) where
  abbrev x : Command
  x = decoded c (there c one)

  abbrev y : Command
  y = decoded d (there d two)

  fields-c : field_numbers c ≡ numbers_of x
  fields-c = ap numbers_in (decodes c (there c one))

  fields-d : field_numbers d ≡ numbers_of y
  fields-d = ap numbers_in (decodes d (there d two))

  module _ (same : first_number c ≡ first_number d) where
    -- the same fields give the same command
    same-command : field_numbers c ≡ field_numbers d → decode_of c ≡ decode_of d
    same-command f =
        let n : number_of x ≡ number_of y = decoded-number c (there c one) ∙ same ∙ sym (decoded-number d (there d two)) in
        let e : numbers_of x ≡ numbers_of y = sym fields-c ∙ f ∙ fields-d in
        decodes c (there c one) ∙
        sym (from-fields-decoded c (decodes c (there c one))) ∙
        (λ i. from_numbers (n i) (e i)) ∙
        from-fields-decoded d (decodes d (there d two)) ∙
        sym (decodes d (there d two))

    same-decoded : differing_fields c d ≡ 0 → SameCommand c d
    unfolding differing_fields
    same-decoded z =
        let s = not (same_bytes (suffix_of c) (suffix_of d)) in
        let m : bits_from (first_number c) 0 (unlike (field_numbers c) (field_numbers d) ++ (s ∷ [])) ≡ 0 = rw (eq-eqb (first_number c) (first_number d) same) at z in
        let p = same_numbers (first_number c) 0 (field_numbers c) (field_numbers d) s (as_many (record { one = one; two = two; first = refl; second = same })) m in
        (same-command p.0, bytes_same (suffix_of c) (suffix_of d) (not-false (same_bytes (suffix_of c) (suffix_of d)) p.1))

  pub no-differ : differ c d ≡ false → SameCommand c d
  no-differ e =
      let p = neither (not (eqb (first_number c) (first_number d))) (not (eqb (differing_fields c d) 0)) e in
      same-decoded (eqb-true (first_number c) (first_number d) (not-false _ p.0)) (eqb-true (differing_fields c d) 0 (not-false _ p.1))

  same_number : decode_of c ≡ decode_of d → first_number c ≡ first_number d
  same_number e =
      let g : x ≡ y = ap (command_or x) (sym (decodes c (there c one)) ∙ e ∙ decodes d (there d two)) in
      sym (decoded-number c (there c one)) ∙ ap number_of g ∙ decoded-number d (there d two)

  pub differ-none : SameCommand c d → differ c d ≡ false
  differ-none s =
      let n : first_number c ≡ first_number d = same_number s.0 in
      let z = no_difference c d n (ap numbers_in s.0) s.1 in
      rw (eq-eqb (first_number c) (first_number d) n, eq-eqb (differing_fields c d) 0 z)

-- commands that are the same are encoded the same, suffix and all
pub same-encoding :
    (c d : List ℕ) {x y : Command} → decode_of c ≡ Whole x → decode_of d ≡ Whole y → SameCommand c d → (out : List ℕ) →
    encode_out x (suffix_of c) out ≡ encode_out y (suffix_of d) out
same-encoding c d {x} {y} dx dy s out =
    let g : x ≡ y = ap (command_or x) (sym dx ∙ s.0 ∙ dy) in
    λ i. encode_out (g i) (s.1 i) out

-- ---- two lists

no-entry : (b : Bool) (x y m : ℕ) → length (entry_with b x y m) ≡ 0 → b ≡ false
no-entry true x y m e = absurd (suc-ne-zero 3 e)
no-entry false x y m e = refl

none-entries : (a b : ℕ) (cs ds : List (List ℕ)) → AllAlone cs → AllAlone ds → pair_entries_from a b cs ds ≡ [] → AllSame cs ds
unfolding pair_entries_from
none-entries a b [] ds hc hd e = tt
none-entries a b (c ∷ cs) [] hc hd e = tt
none-entries a b (c ∷ cs) (d ∷ ds) hc hd e =
    let a' = a + words_of (first_number c) in
    let b' = b + words_of (first_number d) in
    let more = pair_entries_from a' b' cs ds in
    let p = none_both (length (pair_entry a b c d)) (length more) (sym (length-append (pair_entry a b c d) more) ∙ ap length e) in (
      no-differ c d hc.0 hd.0 (no-entry (differ c d) a b (differing_fields c d) p.0),
      none-entries a' b' cs ds hc.1 hd.1 (empty more p.1),
    )

entries_none : (a b : ℕ) (cs ds : List (List ℕ)) → AllAlone cs → AllAlone ds → AllSame cs ds → pair_entries_from a b cs ds ≡ []
unfolding pair_entries_from
entries_none a b [] ds hc hd s = refl
entries_none a b (c ∷ cs) [] hc hd s = refl
entries_none a b (c ∷ cs) (d ∷ ds) hc hd s =
    rw (differ-none c d hc.0 hd.0 s.0) (entries_none (a + words_of (first_number c)) (b + words_of (first_number d)) cs ds hc.1 hd.1 s.1)

-- no entry exactly where all paired commands have the same number and fields
module _ (first second : List ℕ) where
  pub no-entries : pair_entries first second ≡ [] → AllSame (commands_of first) (commands_of second)
  no-entries = none-entries 0 0 (commands_of first) (commands_of second) (parsed first).alone (parsed second).alone

  pub all_same : AllSame (commands_of first) (commands_of second) → pair_entries first second ≡ []
  all_same = entries_none 0 0 (commands_of first) (commands_of second) (parsed first).alone (parsed second).alone

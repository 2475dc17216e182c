-- What the walk carries is a view of the state, before and after each command. Assumes nothing.
use mathlib.Core.Bool.{Bool, true, false, cond, not, ◌&&◌, ◌||◌, true≢false, and-true, and-false, or-false}
use mathlib.Core.List.{List, [], ◌∷◌}
use mathlib.Core.Path.{◌≡◌, refl, sym, ◌∙◌, ap}
use Prim.Native.Nat.{ℕ, zero, suc, ◌/◌, ◌%◌, ◌≤◌, ◌<◌}
use native.Mathlib.Omega.{arith}
use borrow.Author.Tests.{ne_eqb, eqb-true, eqb-false}
use lib.Dec.{eqb}
use Rattle.rdp_words.specs.Words.{word_at}
use Rattle.rdp_words.specs.Kinds.{kind_of, is_among, is_unassigned, words_of}
use Rattle.rdp_command.specs.Commands.{number_of}
use Rattle.rdp_words.specs.Lengths.{first_number, whole_words}
use Rattle.rdp_command.specs.Decode.{decode_of}
use Rattle.rdp_command.specs.Reads.{head_of}
use Rattle.rdp_command.specs.declared.Command.{Command}
use Rattle.rdp_words.proofs.Tests.{by-test, neither}
use Rattle.rdp_hazards.specs.Hazards.{next_of, required_of, entry_of}
use Rattle.rdp_check.specs.Registers.{registers_after, after_decoded}
use Rattle.rdp_hazards.specs.Marks.{draws}
use Rattle.rdp_check.specs.Check.{State, after_command, ready, four_bit_fill, own_refusals, sync_refusals, refusal_at}
use Rattle.rdp_check.specs.Order.{ground, first_of}
use Rattle.std.specs.Prelude.{Option}
use Rattle.rdp_words.specs.Grounds.{number_if}
use Rattle.rdp_words.specs.declared.grounds.Ground.{Ground}
use Rattle.rdp_check.specs.View.{code, code_refusal, view, view_of, rest_after, view_after, or_else, missing, refusal_with, refusals_by, rest_refusal, own_refusal, view_refusal, sets_rest, is_watched, Watches, AdvancedIs}
use Rattle.rdp_check.specs.declared.Registers.{Registers}
use Rattle.rdp_command.specs.declared.Head.{Head}
use Rattle.rdp_check.specs.declared.walk.Rest.{Rest}
use Rattle.rdp_check.specs.declared.walk.View.{View}
use Rattle.rdp_check.proofs.KeptLaws.{keeps}
use Rattle.rdp_hazards.proofs.HazardLaws.{EntryParts, entry-parts, required-most}
use Rattle.rdp_words.proofs.KindLaws.{among-by}
use Rattle.rdp_words.proofs.PlaceLaws.{number_small}
use Rattle.rdp_command.proofs.ReadLaws.{decoded, decodes, decoded-number, reads-other-modes, reads-scissor, reads-color-image}

-- ---- command numbers as bits

-- the constants of the code
abbrev pub watched_bits : ℕ
watched_bits = 0x8002_A20F_FFFF_00FE

abbrev pub watched_and_draw_bits : ℕ
watched_and_draw_bits = 0x8042_A23F_FFFF_FFFE

abbrev pub all_bits : ℕ
all_bits = 0xFFFF_FFFF_FFFF_FFFF

watched-by : (n : ℕ) → n < 64 → is_among watched_bits n ≡ sets_rest n || is_unassigned n
unfolding sets_rest
watched-by = among-by _ (λ n. sets_rest n || is_unassigned n) tt

watched-and-draws-by : (n : ℕ) → n < 64 → is_among watched_and_draw_bits n ≡ (sets_rest n || is_unassigned n) || draws n
unfolding sets_rest kind_of
watched-and-draws-by = among-by _ (λ n. (sets_rest n || is_unassigned n) || draws n) tt

all-by : (n : ℕ) → n < 64 → is_among all_bits n ≡ true
all-by = among-by _ (λ n. true) tt

-- which of the four a setter is
pub record SetsNone (n : ℕ) : Type 0 where
  pub full : eqb n 0x29 ≡ false
  pub scissor : eqb n 0x2D ≡ false
  pub modes : eqb n 0x2F ≡ false
  pub image : eqb n 0x3F ≡ false

pub sets-none : (n : ℕ) → sets_rest n ≡ false → SetsNone n
unfolding sets_rest
sets-none n e =
    let a = neither (eqb n 0x29) _ e in
    let b = neither (eqb n 0x2D) _ a.1 in
    let c = neither (eqb n 0x2F) _ b.1 in
    let d = neither (eqb n 0x3F) _ c.1 in
    record { full = a.0; scissor = b.0; modes = c.0; image = d.0 }

-- ---- what is watched

pub watches-all : (r : Rest) → r.ended ≡ true → Watches all_bits r
watches-all r e n h = rw e (all-by n h)

pub watches-setters : (r : Rest) → r.ended ≡ false → rest_refusal r ≡ 0 → Watches watched_bits r
watches-setters r e z n h = rw (e, z, and-false (draws n), or-false (sets_rest n || is_unassigned n)) (watched-by n h)

pub watches-draws : (r : Rest) → r.ended ≡ false → (rest_refusal r ≡ 0 → ⊥) → Watches watched_and_draw_bits r
watches-draws r e ne n h = rw (e, ne_eqb _ _ ne, and-true (draws n)) (watched-and-draws-by n h)

-- a command that is not watched is refused by a missing sync alone, and changes the hazards alone
pub record Unwatched (r : Rest) (n : ℕ) : Type 0 where
  pub before-end : r.ended ≡ false
  pub keeps : sets_rest n ≡ false
  pub fits : own_refusal r n ≡ 0

pub unwatched : (r : Rest) (n : ℕ) → is_watched r n ≡ false → Unwatched r n
unwatched r n e =
    let a = neither r.ended _ e in
    let b = neither (sets_rest n || is_unassigned n) _ a.1 in
    let s = neither (sets_rest n) (is_unassigned n) b.0 in
    record { before-end = a.0; keeps = s.0; fits = rw s.1 (none (draws n) (rest_refusal r) (eqb (rest_refusal r) 0) refl b.1) }
  where
    none : (d : Bool) (f : ℕ) (t : Bool) → eqb f 0 ≡ t → d && not t ≡ false → cond d f 0 ≡ 0
    none true f true z e = eqb-true f 0 z
    none true f false z e = absurd (true≢false e)
    none false f t z e = refl

-- ---- one step of the walk

pub or-else : (f g : ℕ) → (f ≡ 0 → ⊥) → f ≡ or_else f g
or-else zero g h = absurd (h refl)
or-else (suc f) g h = refl

-- a command that sets nothing changes the hazards alone
pub rest-kept : (r : Rest) (h : Head) → sets_rest h.number ≡ false → r ≡ rest_after r h
unfolding rest_after
rest-kept r h s = let k = sets-none h.number s in rw (k.full, k.modes, k.image, k.scissor)

module _ (strict : Bool) (v : View) (h : Head) (small : h.number < 64) (e : ℕ) (is-e : e ≡ entry_of v.hazards h.number) (q : ℕ) (is-q : q ≡ cond strict (e / 32) 0) where
  parts : EntryParts v.hazards h.number e
  parts = entry-parts v.hazards h.number e small is-e

  required-is : q ≡ cond strict (required_of v.hazards h.number) 0
  required-is = is-q ∙ ap (λ (x : ℕ). cond strict x 0) parts.required

  fits : (b : Bool) → cond b (required_of v.hazards h.number) 0 ≤ 3
  fits true = required-most v.hazards h.number small
  fits false = omega arith

  pub required-fits : q ≤ 3
  required-fits = rw required-is (fits strict)

  pub advanced :
      (d : ℕ) (r : Option Ground) (n : ℕ) → d ≡ own_refusal v.rest h.number → number_if r ≡ refusal_with v.rest.ended d q → n ≡ words_of h.number →
      (after : Rest) → after ≡ rest_after v.rest h → AdvancedIs strict v h (record { refusal = r; words = n; view = record { hazards = e % 16; rest = after } })
  advanced d r n is-d is-r is-n after is-after =
      record { refusal = is-r ∙ rw (is-d, required-is); words = is-n; after = λ i. record { hazards = parts.next i; rest = is-after i } }

-- ---- the view of the state

-- a missing sync, by the number of the sync required
missing-is : (q : ℕ) → q ≤ 3 → missing q ≡ first_of (ground 7 (eqb q 1) ∷ ground 8 (eqb q 2) ∷ ground 9 (eqb q 3) ∷ []) 0
missing-is zero h = refl
missing-is (suc zero) h = refl
missing-is (suc (suc zero)) h = refl
missing-is (suc (suc (suc zero))) h = refl
missing-is (suc (suc (suc (suc q)))) h = absurd (omega arith)

-- 4, 19, 5 and 6, and g where none of them holds
abbrev own_first : Bool → Bool → Bool → Bool → Bool → ℕ → ℕ
own_first ended stray draw ready fill g = cond ended 4 (cond stray 19 (cond (draw && not ready) 5 (cond (draw && fill) 6 g)))

-- modes, image and scissor set (m, i, s), FILL mode (f) and an image of 4 bits (b)
refused :
    (ended stray draw m f i b s : Bool) (g : ℕ) →
    cond ended 4 (or_else (cond stray 19 (cond draw (code_refusal (code m f) (code i b) s) 0)) g) ≡ own_first ended stray draw ((m && i) && s) (f && b) g
refused true stray draw m f i b s g = refl
refused false true draw m f i b s g = refl
refused false false false m f i b s g = refl
refused false false true false f i b s g = refl
refused false false true true false false b s g = refl
refused false false true true true false b s g = refl
refused false false true true false true false false g = refl
refused false false true true false true false true g = refl
refused false false true true false true true false g = refl
refused false false true true false true true true g = refl
refused false false true true true true false false g = refl
refused false false true true true true false true g = refl
refused false false true true true true true false g = refl
refused false false true true true true true true g = refl

module _ (s : State) (c : List ℕ) where
  seen-with : (g : ℕ) →
      cond s.ended 4 (or_else (own_refusal (view_of s).rest (first_number c)) g) ≡
      own_first s.ended (is_unassigned (first_number c)) (draws (first_number c)) (ready s.registers) (four_bit_fill s.registers) g
  unfolding view_of
  seen-with g =
      let r = s.registers in
      refused s.ended (is_unassigned (first_number c)) (draws (first_number c)) r.modes.other.set (eqb r.modes.other.value.cycle_type 3) r.images.color.set
      (eqb r.images.color.value.size 0) r.modes.scissor.set g

  pub refusal-seen : (strict : Bool) → view_refusal strict (view_of s) (first_number c) ≡ refusal_at (refusals_by strict) s c
  unfolding view_of refusal_with own_refusals sync_refusals
  refusal-seen true =
      ap (λ (g : ℕ). cond s.ended 4 (or_else (own_refusal (view_of s).rest (first_number c)) g))
      (missing-is (required_of s.hazards (first_number c)) (required-most s.hazards (first_number c) (number_small (word_at c 0)))) ∙
      seen-with _
  refusal-seen false = seen-with 0

-- what is seen of the registers
abbrev seen : Registers → Bool × Bool × Bool × ℕ × ℕ
seen r =
    (r.modes.other.set, r.images.color.set, r.modes.scissor.set, r.modes.other.value.cycle_type, r.images.color.value.size)

-- a command that sets none of them
others : (r : Registers) (c : Command) → (number_of c ≡ 0x2F → ⊥) → (number_of c ≡ 0x3F → ⊥) → (number_of c ≡ 0x2D → ⊥) → seen (registers_after r c) ≡ seen r
others r c m i s = let k = keeps r c in rw (k.modes m, k.image i, k.scissor s)

module _ (s : State) (c : List ℕ) (there : whole_words c ≡ 0 → ⊥) where
  abbrev n : ℕ
  n = first_number c

  registers-after : after_decoded s.registers (decode_of c) ≡ registers_after s.registers (decoded c there)
  registers-after = ap (after_decoded s.registers) (decodes c there)

  -- the view with what is seen of the registers
  abbrev view_with : Bool × Bool × Bool × ℕ × ℕ → View
  view_with p = view (next_of s.hazards n) (eqb n 0x29 || s.ended) (code p.0 (eqb p.3 3)) (code p.1 (eqb p.4 0)) p.2

  abbrev Result : Type 0
  Result = view_with (seen (registers_after s.registers (decoded c there))) ≡ view_after (view_of s) (head_of (word_at c 0))

  of-modes : n ≡ 0x2F → Result
  unfolding rest_after view_of registers_after
  of-modes e = ap (λ (x : Command). view_with (seen (registers_after s.registers x))) (reads-other-modes c (decodes c there) e) ∙ rw e

  of_image : n ≡ 0x3F → Result
  unfolding rest_after view_of registers_after
  of_image e = ap (λ (x : Command). view_with (seen (registers_after s.registers x))) (reads-color-image c (decodes c there) e) ∙ rw e

  of-scissor : n ≡ 0x2D → Result
  unfolding rest_after view_of registers_after
  of-scissor e = ap (λ (x : Command). view_with (seen (registers_after s.registers x))) (reads-scissor c (decodes c there) e) ∙ rw e

  of_others : (n ≡ 0x2F → ⊥) → (n ≡ 0x3F → ⊥) → (n ≡ 0x2D → ⊥) → Result
  unfolding rest_after view_of
  of_others m i k =
      let e = decoded-number c there in
      ap view_with (others s.registers (decoded c there) (λ x. m (sym e ∙ x)) (λ x. i (sym e ∙ x)) (λ x. k (sym e ∙ x))) ∙
      rw (ne_eqb _ _ m, ne_eqb _ _ i, ne_eqb _ _ k)

  result : Result
  result =
      by-test (eqb n 0x2F) (λ t. of-modes (eqb-true _ _ t))
      (λ f.
      by-test (eqb n 0x3F) (λ t. of_image (eqb-true _ _ t))
      (λ g.
      by-test (eqb n 0x2D) (λ t. of-scissor (eqb-true _ _ t))
      (λ h. of_others (eqb-false _ _ f) (eqb-false _ _ g) (eqb-false _ _ h))))

  pub view-after : view_of (after_command s c) ≡ view_after (view_of s) (head_of (word_at c 0))
  unfolding view_of after_command
  view-after = ap (λ (r : Registers). view_with (seen r)) registers-after ∙ result

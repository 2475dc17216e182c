-- The values of a command that was read are what was read. Assumes nothing.
use Prim.Native.Nat.{ℕ, ◌+◌, ◌-◌, ◌/◌, ◌%◌, ◌<◌}
use mathlib.Core.Bool.{Bool, true, not, ◌&&◌, ◌||◌, false≢true}
use mathlib.Core.List.{List, [], ◌∷◌}
use mathlib.Core.Path.{◌≡◌, refl, ap, sym, subst, ◌∙◌}
use native.Mathlib.Omega.{arith}
use lib.Dec.{eqb, ltb}
use lib.ListN.{length, get_or, drop}
use mir.Val.{bool_byte}
use borrow.Author.Tests.{eqb-true, eqb-false, ltb-true, not-true}
use Rattle.rdp_words.specs.Kinds.{among, is_no_operation, is_unassigned}
use Rattle.rdp_command.specs.Layout.{Line, layout, one_bit, bits, signed_bits, other_modes_lines, scissor_lines, tile_descriptor_lines, triangle_base_lines}
use Rattle.rdp_command.specs.Fields.{Value, unsigned, flag, shift_right, bits_at, field_at, fields_of}
use Rattle.rdp_command.specs.Groups.{scissor_of, scissor_values, other_modes_of, other_modes_values, tile_descriptor_of, tile_descriptor_values, triangle_base_of, triangle_base_values}
use Rattle.rdp_command.specs.Commands.{command_of, values_of}
use Rattle.rdp_command.specs.Decode.{command_in}
use Rattle.rdp_command.specs.declared.Command.TheVariants.{NoOperation, Unassigned}
use Rattle.rdp_words.proofs.Tests.{below, by-test, true_of, and-true, or_cases}
use Rattle.rdp_words.proofs.KindLaws.{unassigned-small}
use Rattle.rdp_command.proofs.CommandLaws.{unassigned-lines, triangle-command, low-command}
use Rattle.rdp_command.proofs.Triangles.{layout-at}

-- ---- what holds of each number holds of all

abbrev named : List ℕ
named = 0x24 ∷ 0x25 ∷ 0x26 ∷ 0x27 ∷ 0x28 ∷ 0x29 ∷ 0x2A ∷ 0x2B ∷ 0x2C ∷ 0x2D ∷ 0x2E ∷ 0x2F ∷ 0x30 ∷ 0x32 ∷ 0x33 ∷ 0x34 ∷ 0x35 ∷ 0x36 ∷ 0x37 ∷ 0x38 ∷ 0x39 ∷ 0x3A ∷ 0x3B ∷ 0x3C ∷ 0x3D ∷ 0x3E ∷ 0x3F ∷ []

unfoldable pub Each : (ℕ → Type 0) → List ℕ → Type 0
Each P [] = Unit
Each P (k ∷ ks) = P k × Each P ks

pick : (P : ℕ → Type 0) (ks : List ℕ) → Each P ks → (n : ℕ) → among n ks ≡ true → P n
unfolding Each
pick P [] ps n e = absurd (false≢true e)
pick P (k ∷ ks) ps n e =
    or_cases (eqb n k) (among n ks) e (λ f. subst P (sym (eqb-true n k f)) ps.0) (λ f. pick P ks ps.1 n f)

cases_of : (n : ℕ) → n < 64 → (eqb (n / 8) 1 || among n (0x00 ∷ named)) || is_unassigned n ≡ true
cases_of n h = true_of _ (below 64 (λ k. (eqb (k / 8) 1 || among k (0x00 ∷ named)) || is_unassigned k) tt n h)

-- the triangles, 0x00, the numbers with names of their own, and the unassigned
pub by_number :
    (P : ℕ → Type 0) → ((n : ℕ) → n / 8 ≡ 1 → P n) → P 0x00 → Each P named → ((n : ℕ) → is_unassigned n ≡ true → P n) → (n : ℕ) → n < 64 → P n
unfolding Each
by_number P tri zero ps none n h =
    or_cases (eqb (n / 8) 1 || among n (0x00 ∷ named)) (is_unassigned n) (cases_of n h)
    (λ e. or_cases (eqb (n / 8) 1) (among n (0x00 ∷ named)) e (λ f. tri n (eqb-true (n / 8) 1 f)) (pick P (0x00 ∷ named) (zero, ps) n))
    (none n)

-- ---- no operations and unassigned numbers

pub none-command : (n : ℕ) (vs : List Value) → is_no_operation n ≡ true → command_of n vs ≡ NoOperation n
unfolding command_of
none-command n vs e = let g = eqb-true n 0x00 e in ap (λ (k : ℕ). command_of k vs) g ∙ ap NoOperation (sym g)

low_test : ℕ → Bool
low_test n = eqb n 0x31 || (ltb n 0x24 && (not (eqb (n / 8) 1) && not (eqb n 0x00)))

low-cases : (n : ℕ) → is_unassigned n ≡ true → low_test n ≡ true
unfolding low_test
low-cases n e =
    let t = below 64 (λ k. not (is_unassigned k) || low_test k) tt n (unassigned-small n e) in
    true_of (low_test n) (rw e at t)

pub unassigned-command : (n : ℕ) (vs : List Value) → is_unassigned n ≡ true → command_of n vs ≡ Unassigned n
unfolding command_of low_test
unassigned-command n vs e =
    or_cases (eqb n 0x31) (ltb n 0x24 && (not (eqb (n / 8) 1) && not (eqb n 0x00))) (low-cases n e)
    (λ f. let g = eqb-true n 0x31 f in ap (λ (k : ℕ). command_of k vs) g ∙ ap Unassigned (sym g))
    (λ f.
    let r = and-true (ltb n 0x24) (not (eqb (n / 8) 1) && not (eqb n 0x00)) f in
    let s = and-true (not (eqb (n / 8) 1)) (not (eqb n 0x00)) r.1 in
    low-command n vs (ltb-true n 0x24 r.0) (eqb-false (n / 8) 1 (not-true _ s.0)) (eqb-false n 0x00 (not-true _ s.1)))

flag-kept : (n : ℕ) → bool_byte (eqb (n % 2) 1) ≡ n % 2
flag-kept n =
    by-test (eqb (n % 2) 1) (λ t. rw t (sym (eqb-true (n % 2) 1 t)))
    (λ f. let g : n % 2 ≡ 1 → ⊥ = eqb-false (n % 2) 1 f in rw f (omega arith))

-- the flags of what was read
pub flag-kept-bits : (w k : ℕ) → bool_byte (eqb (bits_at (one_bit 0 k) w) 1) ≡ bits_at (one_bit 0 k) w
flag-kept-bits w k = let e : k - k + 1 ≡ 1 = omega arith in rw e (flag-kept (shift_right w k))

read-flag : (w : ℕ) (k : ℕ) → flag (eqb (bits_at (one_bit 0 k) w) 1) ≡ unsigned (bits_at (one_bit 0 k) w)
read-flag w k = ap unsigned (flag-kept-bits w k)

scissor-kept : (ws : List ℕ) → scissor_values (scissor_of (fields_of scissor_lines ws)) ≡ fields_of scissor_lines ws
scissor-kept ws =
    let w = get_or ws 0 0 in
    λ i.
    field_at ws (bits 0 55 44) ∷
    field_at ws (bits 0 43 32) ∷
    read-flag w 25 i ∷
    read-flag w 24 i ∷
    field_at ws (bits 0 23 12) ∷
    field_at ws (bits 0 11 0) ∷ []

other-modes-kept : (ws : List ℕ) → other_modes_values (other_modes_of (fields_of other_modes_lines ws)) ≡ fields_of other_modes_lines ws
other-modes-kept ws =
    let w = get_or ws 0 0 in
    λ i.
    read-flag w 55 i ∷
    field_at ws (bits 0 53 52) ∷
    read-flag w 51 i ∷
    read-flag w 50 i ∷
    read-flag w 49 i ∷
    read-flag w 48 i ∷
    read-flag w 47 i ∷
    read-flag w 46 i ∷
    read-flag w 45 i ∷
    read-flag w 44 i ∷
    read-flag w 43 i ∷
    read-flag w 42 i ∷
    read-flag w 41 i ∷
    read-flag w 40 i ∷
    field_at ws (bits 0 39 38) ∷
    field_at ws (bits 0 37 36) ∷
    field_at ws (bits 0 31 30) ∷
    field_at ws (bits 0 29 28) ∷
    field_at ws (bits 0 27 26) ∷
    field_at ws (bits 0 25 24) ∷
    field_at ws (bits 0 23 22) ∷
    field_at ws (bits 0 21 20) ∷
    field_at ws (bits 0 19 18) ∷
    field_at ws (bits 0 17 16) ∷
    read-flag w 14 i ∷
    read-flag w 13 i ∷
    read-flag w 12 i ∷
    field_at ws (bits 0 11 10) ∷
    field_at ws (bits 0 9 8) ∷
    read-flag w 7 i ∷
    read-flag w 6 i ∷
    read-flag w 5 i ∷
    read-flag w 4 i ∷
    read-flag w 3 i ∷
    read-flag w 2 i ∷
    read-flag w 1 i ∷
    read-flag w 0 i ∷ []

tile-descriptor-kept : (ws : List ℕ) → tile_descriptor_values (tile_descriptor_of (fields_of tile_descriptor_lines ws)) ≡ fields_of tile_descriptor_lines ws
tile-descriptor-kept ws =
    let w = get_or ws 0 0 in
    λ i.
    field_at ws (bits 0 55 53) ∷
    field_at ws (bits 0 52 51) ∷
    field_at ws (bits 0 49 41) ∷
    field_at ws (bits 0 40 32) ∷
    field_at ws (bits 0 26 24) ∷
    field_at ws (bits 0 23 20) ∷
    read-flag w 19 i ∷
    read-flag w 18 i ∷
    field_at ws (bits 0 17 14) ∷
    field_at ws (bits 0 13 10) ∷
    read-flag w 9 i ∷
    read-flag w 8 i ∷
    field_at ws (bits 0 7 4) ∷
    field_at ws (bits 0 3 0) ∷ []

triangle-base-kept : (ws : List ℕ) → triangle_base_values (triangle_base_of (fields_of triangle_base_lines ws)) ≡ fields_of triangle_base_lines ws
triangle-base-kept ws =
    let w = get_or ws 0 0 in
    λ i.
    read-flag w 58 i ∷
    read-flag w 57 i ∷
    read-flag w 56 i ∷
    read-flag w 55 i ∷
    field_at ws (bits 0 53 51) ∷
    field_at ws (bits 0 50 48) ∷
    field_at ws (signed_bits 0 45 32) ∷
    field_at ws (signed_bits 0 29 16) ∷
    field_at ws (signed_bits 0 13 0) ∷ drop 9 (fields_of triangle_base_lines ws)

triangle-read : (n : ℕ) (ws : List ℕ) → n / 8 ≡ 1 → values_of (command_in n ws) ≡ fields_of (layout n) ws
triangle-read n ws e =
    ap (λ (ls : List Line). values_of (command_of n (fields_of ls ws))) (layout-at n e) ∙
    ap values_of (triangle-command n (fields_of triangle_base_lines ws) e) ∙
    triangle-base-kept ws ∙
    ap (λ (ls : List Line). fields_of ls ws) (sym (layout-at n e))

no_lines : (ls : List Line) (ws : List ℕ) → length ls ≡ 0 → [] ≡ fields_of ls ws
no_lines [] ws e = refl
no_lines (l ∷ ls) ws e = absurd (omega arith)

unassigned-read : (n : ℕ) (ws : List ℕ) → is_unassigned n ≡ true → values_of (command_in n ws) ≡ fields_of (layout n) ws
unassigned-read n ws e =
    ap values_of (unassigned-command n (fields_of (layout n) ws) e) ∙ no_lines (layout n) ws (unassigned-lines n e)

-- the values of a command that was read
pub values-read : (n : ℕ) → n < 64 → (ws : List ℕ) → values_of (command_in n ws) ≡ fields_of (layout n) ws
unfolding command_of layout Each
values-read =
    by_number (λ (n : ℕ). (ws : List ℕ) → values_of (command_in n ws) ≡ fields_of (layout n) ws) (λ n e ws. triangle-read n ws e) (λ ws. refl) (
      λ ws. refl,
      (
        λ ws. refl,
        (
          λ ws. refl,
          (
            λ ws. refl,
            (
              λ ws. refl,
              (
                λ ws. refl,
                (
                  λ ws. refl,
                  (
                    λ ws. refl,
                    (
                      λ ws. refl,
                      (
                        scissor-kept,
                        (
                          λ ws. refl,
                          (
                            other-modes-kept,
                            (
                              λ ws. refl,
                              (
                                λ ws. refl,
                                (
                                  λ ws. refl,
                                  (
                                    λ ws. refl,
                                    (
                                      tile-descriptor-kept,
                                      (
                                        λ ws. refl,
                                        (
                                          λ ws. refl,
                                          (
                                            λ ws. refl,
                                            (
                                              λ ws. refl,
                                              (
                                                λ ws. refl,
                                                (
                                                  λ ws. refl,
                                                  (
                                                    λ ws. refl,
                                                    (
                                                      λ ws. refl,
                                                      (
                                                        λ ws. refl,
                                                        (
                                                          λ ws. refl,
                                                          tt,
                                                        ),
                                                      ),
                                                    ),
                                                  ),
                                                ),
                                              ),
                                            ),
                                          ),
                                        ),
                                      ),
                                    ),
                                  ),
                                ),
                              ),
                            ),
                          ),
                        ),
                      ),
                    ),
                  ),
                ),
              ),
            ),
          ),
        ),
      ),
    )
    (λ n e ws. unassigned-read n ws e)

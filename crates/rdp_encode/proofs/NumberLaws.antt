-- The number of a command that can be encoded, and that every command that was read is one. Assumes nothing.
use Rattle.std.proofs.Common.{ℕ, ◌+◌, ◌*◌, ◌/◌, ◌%◌, ◌^◌, ◌≤◌, ◌<◌, true, cond, List, [], ◌∷◌, map, ◌≡◌, refl, ap, sym, subst, ◌∙◌, mod-lt, arith, eq-eqb, eqb-true, T, eqb, lit<, length, get_or, drop, pow_pos}
use mir.Val.{bool_byte}
use Rattle.rdp_words.specs.Words.{number_in}
use Rattle.rdp_command.specs.Layout.{Line, width, layout, triangle_base_lines}
use Rattle.rdp_encode.specs.Table.{Readable}
use Rattle.std.specs.List.{AllByRecursion}
use Rattle.rdp_command.specs.Fields.{shift_right, bits_at, fields_of}
use Rattle.rdp_encode.specs.Placed.{number_of_value, all_fit, at_lines}
use Rattle.rdp_command.specs.Commands.{command_of, number_of, values_of}
use Rattle.rdp_command.specs.Groups.{triangle_base_of}
use Rattle.rdp_command.specs.Decode.{command_in}
use Rattle.rdp_encode.specs.Encode.{packed_word, numbers_of, number_in_row}
use Rattle.rdp_encode.specs.Kept.{bits_kept}
use Rattle.rdp_command.specs.declared.TriangleBase.{TriangleBase}
use Rattle.rdp_command.specs.declared.Command.{Command}
use Rattle.rdp_command.specs.declared.Command.TheVariants.{NoOperation, FillTriangle, TextureRectangle, TextureRectangleFlip, SyncLoad, SyncPipe, SyncTile, SyncFull, SetKeyGb, SetKeyR, SetConvert, SetScissor, SetPrimitiveDepth, SetOtherModes, LoadTlut, SetTileSize, LoadBlock, LoadTile, SetTile, FillRectangle, SetFillColor, SetFogColor, SetBlendColor, SetPrimitiveColor, SetEnvironmentColor, SetCombineMode, SetTextureImage, SetDepthImage, SetColorImage, Unassigned}
use Rattle.rdp_words.proofs.Tests.{by-test}
use Rattle.rdp_command.proofs.Signed.{bool_le}
use Rattle.rdp_words.proofs.KindLaws.{no-operation-small, unassigned-small}
use Rattle.rdp_command.proofs.CommandLaws.{no-operation-lines, unassigned-lines, triangle-command, at-triangle}
use Rattle.rdp_command.proofs.Triangles.{triangle-eighth, triangle-layout, triangle-small}
use Rattle.rdp_encode.proofs.BitLaws.{packed_lt}
use Rattle.rdp_encode.proofs.ValueLaws.{value-fits, value_low}
use Rattle.rdp_encode.proofs.LayoutLaws.{matched, first_rest}
use Rattle.rdp_command.proofs.GroupLaws.{Each, by_number, unassigned-command}
use Rattle.rdp_encode.proofs.BackLaws.{command-back}

-- ---- a command whose number is one that it can have

no-values : (ls : List Line) → length ls ≡ 0 → T (matched ls [])
no-values [] e = tt
no-values (l ∷ ls) e = absurd (omega arith)

-- its values are those of its lines, and its number is below 64
pub standing : (c : Command) → number_in_row c ≡ true → T (matched (layout (number_of c)) (values_of c)) × (number_of c < 64)
unfolding layout
standing (NoOperation n) e = (no-values (layout n) (no-operation-lines n e), no-operation-small n e)
standing (FillTriangle g) e = (subst (λ (ls : List Line). T (matched ls (values_of (FillTriangle g)))) (sym (triangle-layout g)) tt, triangle-small g)
standing (TextureRectangle g) e = (tt, lit< tt)
standing (TextureRectangleFlip g) e = (tt, lit< tt)
standing SyncLoad e = (tt, lit< tt)
standing SyncPipe e = (tt, lit< tt)
standing SyncTile e = (tt, lit< tt)
standing SyncFull e = (tt, lit< tt)
standing (SetKeyGb g) e = (tt, lit< tt)
standing (SetKeyR g) e = (tt, lit< tt)
standing (SetConvert g) e = (tt, lit< tt)
standing (SetScissor g) e = (tt, lit< tt)
standing (SetPrimitiveDepth g) e = (tt, lit< tt)
standing (SetOtherModes g) e = (tt, lit< tt)
standing (LoadTlut g) e = (tt, lit< tt)
standing (SetTileSize g) e = (tt, lit< tt)
standing (LoadBlock g) e = (tt, lit< tt)
standing (LoadTile g) e = (tt, lit< tt)
standing (SetTile g) e = (tt, lit< tt)
standing (FillRectangle g) e = (tt, lit< tt)
standing (SetFillColor g) e = (tt, lit< tt)
standing (SetFogColor g) e = (tt, lit< tt)
standing (SetBlendColor g) e = (tt, lit< tt)
standing (SetPrimitiveColor g) e = (tt, lit< tt)
standing (SetEnvironmentColor g) e = (tt, lit< tt)
standing (SetCombineMode g) e = (tt, lit< tt)
standing (SetTextureImage g) e = (tt, lit< tt)
standing (SetDepthImage g) e = (tt, lit< tt)
standing (SetColorImage g) e = (tt, lit< tt)
standing (Unassigned n) e = (no-values (layout n) (unassigned-lines n e), unassigned-small n e)

-- ---- the number in the first word

pub plain-number : (n r : ℕ) → n < 64 → r < 2 ^ 56 → (n * 2 ^ 56 + r) / 2 ^ 56 % 64 ≡ n
plain-number n r h s = omega arith

pub flags-number :
    (s t z r : ℕ) → s ≤ 1 → t ≤ 1 → z ≤ 1 → r < 2 ^ 56 →
    (8 * 2 ^ 56 + (s % 2 * 2 ^ 58 + (t % 2 * 2 ^ 57 + (z % 2 * 2 ^ 56 + r)))) / 2 ^ 56 % 64 ≡ 8 + s * 4 + t * 2 + z
flags-number s t z r hs ht hz hr =
    let es : s % 2 ≡ s = omega arith in
    let et : t % 2 ≡ t = omega arith in
    let ez : z % 2 ≡ z = omega arith in
    rw (es, et, ez) (omega arith)

triangle-number :
    (g : TriangleBase) → number_in (8 * 2 ^ 56 + at_lines 0 triangle_base_lines (numbers_of (FillTriangle g))) ≡ number_of (FillTriangle g)
triangle-number g =
    flags-number (bool_byte g.shade) (bool_byte g.texture) (bool_byte g.zbuffer)
    (at_lines 0 (drop 3 triangle_base_lines) (drop 3 (numbers_of (FillTriangle g))))
    (bool_le g.shade) (bool_le g.texture) (bool_le g.zbuffer)
    (packed_lt 0 56 (drop 3 triangle_base_lines) (drop 3 (numbers_of (FillTriangle g))) tt)

-- every triangle
of-triangle : (g : TriangleBase) → number_in (packed_word (number_of (FillTriangle g)) (numbers_of (FillTriangle g)) 0) ≡ number_of (FillTriangle g)
of-triangle g =
    rw (eq-eqb (number_of (FillTriangle g) / 8) 1 (triangle-eighth g), triangle-layout g) (triangle-number g)

pub number-packed : (c : Command) → number_in_row c ≡ true → number_in (packed_word (number_of c) (numbers_of c) 0) ≡ number_of c
number-packed c e =
    let n = number_of c in
    let small = (standing c e).1 in
    by-test (eqb (n / 8) 1)
    (λ t.
    subst (λ (x : Command). number_in (packed_word (number_of x) (numbers_of x) 0) ≡ number_of x)
    (sym (triangle-command n (values_of c) (eqb-true (n / 8) 1 t)) ∙ command-back c e)
    (of-triangle (triangle_base_of (values_of c))))
    (λ f. let r = rw f at (first_rest n small (numbers_of c)) in rw f (plain-number n (at_lines 0 (layout n) (numbers_of c)) small r))

-- and to one that can be encoded
pub number-in-row-read : (n : ℕ) → n < 64 → (ws : List ℕ) → number_in_row (command_in n ws) ≡ true
unfolding command_of Each
number-in-row-read =
    by_number (λ (n : ℕ). (ws : List ℕ) → number_in_row (command_in n ws) ≡ true) (λ n e ws. ap number_in_row (sym (at-triangle n ws e))) (λ ws. refl) (
      λ ws. refl,
      (
        λ ws. refl,
        (
          λ ws. refl,
          (
            λ ws. refl,
            (
              λ ws. refl,
              (
                λ ws. refl,
                (
                  λ ws. refl,
                  (
                    λ ws. refl,
                    (
                      λ ws. refl,
                      (
                        λ ws. refl,
                        (
                          λ ws. refl,
                          (
                            λ ws. refl,
                            (
                              λ ws. refl,
                              (
                                λ ws. refl,
                                (
                                  λ ws. refl,
                                  (
                                    λ ws. refl,
                                    (
                                      λ ws. refl,
                                      (
                                        λ ws. refl,
                                        (
                                          λ ws. refl,
                                          (
                                            λ ws. refl,
                                            (
                                              λ ws. refl,
                                              (
                                                λ ws. refl,
                                                (
                                                  λ ws. refl,
                                                  (
                                                    λ ws. refl,
                                                    (
                                                      λ ws. refl,
                                                      (
                                                        λ ws. refl,
                                                        (
                                                          λ ws. refl,
                                                          tt,
                                                        ),
                                                      ),
                                                    ),
                                                  ),
                                                ),
                                              ),
                                            ),
                                          ),
                                        ),
                                      ),
                                    ),
                                  ),
                                ),
                              ),
                            ),
                          ),
                        ),
                      ),
                    ),
                  ),
                ),
              ),
            ),
          ),
        ),
      ),
    )
    (λ n e ws. ap number_in_row (unassigned-command n (fields_of (layout n) ws) e) ∙ e)

pub fits_read : (ls : List Line) (ws : List ℕ) → AllByRecursion Readable ls → all_fit ls (fields_of ls ws) ≡ true
fits_read [] ws r = refl
fits_read (l ∷ ls) ws r =
    let q : width l ≤ 64 = omega (arith, r.0.narrow) in
    let b = get_or ws l.word 0 in
    rw (value-fits l q (bits_at l b) (mod-lt (shift_right b l.low) (pow_pos (width l))), fits_read ls ws r.1)

-- the words of its values are the words that were read, with the unused bits zero
pub packed-read :
    (i : ℕ) (ls : List Line) (ws : List ℕ) → AllByRecursion Readable ls → at_lines i ls (map number_of_value (fields_of ls ws)) ≡ bits_kept i ls (get_or ws i 0)
packed-read i [] ws r = refl
packed-read i (l ∷ ls) ws r =
    let q : width l ≤ 64 = omega (arith, r.0.narrow) in
    let b = get_or ws l.word 0 in
    let low = value_low l q (bits_at l b) (mod-lt (shift_right b l.low) (pow_pos (width l))) in
    (λ j. cond (eqb l.word i) (low j * 2 ^ l.low) 0 + packed-read i ls ws r.1 j) ∙
    by-test (eqb l.word i)
    (λ t. ap (λ (k : ℕ). cond (eqb l.word i) (bits_at l (get_or ws k 0) * 2 ^ l.low) 0 + bits_kept i ls (get_or ws i 0)) (eqb-true l.word i t))
    (λ f. rw f)

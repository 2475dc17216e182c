-- The register file that the drawing's loops carry leads them from act to act. Assumes nothing.
use mathlib.Core.Bool.{Bool, true, false, cond, not, ◌||◌, true≢false, false≢true}
use mathlib.Core.List.{List, [], ◌∷◌}
use mathlib.Core.Path.{◌≡◌, refl, sym, ◌∙◌, ap, subst}
use Prim.Native.Nat.{ℕ, ◌+◌, ◌*◌, ◌/◌, ◌%◌, ◌≤◌, ◌<◌}
use native.Mathlib.Nat.{le_refl, mod-eq_of_lt}
use native.Mathlib.Omega.{arith}
use borrow.Author.Tests.{ne_eqb, eqb-true, ltb-true, ltb-false}
use lib.Dec.{T, eqb, ltb, eqb→eq, lit<}
use lib.ListN.{length, drop, replicate, length-drop}
use lib.Seq.{drop-drop}
use mir.Val.{bool_byte}
use Rattle.rdp_words.specs.Words.{word_at, number_in}
use Rattle.rdp_words.specs.Kinds.{Kind, among, kind_of, is_draw, is_among, words_of_kind, words_of}
use Rattle.rdp_command.specs.Commands.{number_of}
use Rattle.rdp_words.specs.Lengths.{first_number, whole_words}
use Rattle.rdp_command.specs.Decode.{decode_of}
use Rattle.rdp_command.specs.Reads.{rectangle_in, tile_area_in, textured_rectangle_in, color_image_in, fill_fields, copy_fields, load_fields}
use Rattle.rdp_command.specs.declared.FillFields.{FillFields}
use Rattle.rdp_command.specs.declared.CopyFields.{CopyFields}
use Rattle.rdp_command.specs.declared.LoadFields.{LoadFields}
use Rattle.rdp_command.specs.declared.LoadWords.{LoadWords}
use Rattle.rdp_command.specs.declared.Image.{Image}
use Rattle.rdp_command.specs.declared.Command.{Command}
use Rattle.rdp_command.specs.declared.Command.TheVariants.{NoOperation, FillTriangle, TextureRectangle, TextureRectangleFlip, SyncLoad, SyncPipe, SyncTile, SyncFull, SetKeyGb, SetKeyR, SetConvert, SetScissor, SetPrimitiveDepth, SetOtherModes, LoadTlut, SetTileSize, LoadBlock, LoadTile, SetTile, FillRectangle, SetFillColor, SetFogColor, SetBlendColor, SetPrimitiveColor, SetEnvironmentColor, SetCombineMode, SetTextureImage, SetDepthImage, SetColorImage, Unassigned}
use Rattle.rdp_words.proofs.Tests.{below, by-test, false_of}
use Rattle.rdp_words.proofs.KindLaws.{among-by, draws-among, draw-numbers, by-kinds, words-of-kind}
use Rattle.rdp_words.proofs.PlaceLaws.{number_small, some_words, is_whole, word-drop}
use Rattle.rdp_words.proofs.WordLaws.{word-front}
use Rattle.rdp_command.proofs.ReadLaws.{decoded, decodes, decoded-number, reads-triangle, reads-texture-rectangle, reads-texture-rectangle-flip, reads-rectangle, reads-load-tile, reads-load-tlut, reads-load-block}
use Rattle.rdp_check.specs.Commands.{commands_of, rest_of}
use Rattle.rdp_check.specs.Registers.{after_decoded, tile_of}
use Rattle.rdp_state.specs.RegisterWords.{slot_of, tile_in, stored_at, words_after, registers_in, word, is_set, tile_by}
use Rattle.rdp_hazards.specs.Marks.{draws, loads}
use Rattle.rdp_check.specs.declared.Registers.{Registers}
use Rattle.rdp_state.proofs.RegisterLaws.{none-set, length-stored, words-kept, registers-stored, tile-small, word-other, FillReads, fill-reads, TextureReads, texture-reads, tile-reads}
use Rattle.rdp_state.specs.Replay.{setters}
use Rattle.rdp_check.proofs.ListLaws.{command_at, commands-at, rest_at, commands-past, rest-past, split_at, command-word, command-number, command-whole, command-there}
use Rattle.rdp_draw.specs.Draw.{Act, nothing, other_draw, other_load, filling, copying, loading, blocking, fill_of, copy_of, load_of, fill_act, copy_act, act_of, act_of_decoded, Placed, with_act, acts_from, acts_of}
use Rattle.std.specs.Prelude.{Some, None}
use Rattle.rdp_draw.specs.Seen.{fill_words, copy_words, load_words, act_by, act_with, ActsDue, Next, Reaches}

-- ---- the kinds of steps

-- the constants of the code
sets-by : (n : ℕ) → n < 64 → is_among 0xFFBD_FC00_0000_0000 n ≡ among n setters
sets-by = among-by _ (λ n. among n setters) tt

loads-by : (n : ℕ) → n < 64 → is_among 0x0019_0000_0000_0000 n ≡ loads n
loads-by = among-by _ loads tt

-- a command that is no draw has one word; a draw sets no register
abbrev step_test : Kind → ℕ → Bool
step_test k n = cond (is_draw k) (not (among n setters)) (eqb (words_of_kind k n) 1)

step-test : (n : ℕ) → n < 64 → T (step_test (kind_of n) n)
step-test n h = by-kinds step_test tt n h

one_word : (n : ℕ) → n < 64 → draws n ≡ false → words_of n ≡ 1
one_word n h e = words-of-kind n ∙ eqb→eq (words_of_kind (kind_of n) n) 1 (rw e at (step-test n h))

draw-keeps : (n : ℕ) → n < 64 → draws n ≡ true → among n setters ≡ false
draw-keeps n h e = false_of (among n setters) (rw e at (step-test n h))

rectangle-words : words_of 0x24 ≡ 2
unfolding words_of kind_of
rectangle-words = refl

-- a load sets a register
load_sets : (n : ℕ) → n < 64 → among n setters ≡ false → loads n ≡ false
load_sets n h e =
    false_of (loads n) (rw e at (below 64 (λ k. cond (among k setters) true (not (loads k))) tt n h))

-- ---- the act of a command

-- the number of a triangle, by its flags
abbrev triangle_number : Bool → Bool → Bool → ℕ
triangle_number s t z = 0x08 + bool_byte s * 4 + bool_byte t * 2 + bool_byte z

triangle-draws : (s t z : Bool) → draws (triangle_number s t z) ≡ true
triangle-draws true true true = draw-numbers 0x0F (lit< tt)
triangle-draws true true false = draw-numbers 0x0E (lit< tt)
triangle-draws true false true = draw-numbers 0x0D (lit< tt)
triangle-draws true false false = draw-numbers 0x0C (lit< tt)
triangle-draws false true true = draw-numbers 0x0B (lit< tt)
triangle-draws false true false = draw-numbers 0x0A (lit< tt)
triangle-draws false false true = draw-numbers 0x09 (lit< tt)
triangle-draws false false false = draw-numbers 0x08 (lit< tt)

no-act : (r : Registers) (x : Command) → draws (number_of x) ≡ false → loads (number_of x) ≡ false → act_of r x ≡ nothing
unfolding act_of
no-act r (NoOperation g) e h = refl
no-act r (FillTriangle g) e h = absurd (true≢false (sym (triangle-draws g.shade g.texture g.zbuffer) ∙ e))
no-act r (TextureRectangle g) e h = absurd (true≢false (sym (draw-numbers 0x24 (lit< tt)) ∙ e))
no-act r (TextureRectangleFlip g) e h = absurd (true≢false (sym (draw-numbers 0x25 (lit< tt)) ∙ e))
no-act r SyncLoad e h = refl
no-act r SyncPipe e h = refl
no-act r SyncTile e h = refl
no-act r SyncFull e h = refl
no-act r (SetKeyGb g) e h = refl
no-act r (SetKeyR g) e h = refl
no-act r (SetConvert g) e h = refl
no-act r (SetScissor g) e h = refl
no-act r (SetPrimitiveDepth g) e h = refl
no-act r (SetOtherModes g) e h = refl
no-act r (LoadTlut g) e h = absurd (true≢false h)
no-act r (SetTileSize g) e h = refl
no-act r (LoadBlock g) e h = absurd (true≢false h)
no-act r (LoadTile g) e h = absurd (true≢false h)
no-act r (SetTile g) e h = refl
no-act r (FillRectangle g) e h = absurd (true≢false (sym (draw-numbers 0x36 (lit< tt)) ∙ e))
no-act r (SetFillColor g) e h = refl
no-act r (SetFogColor g) e h = refl
no-act r (SetBlendColor g) e h = refl
no-act r (SetPrimitiveColor g) e h = refl
no-act r (SetEnvironmentColor g) e h = refl
no-act r (SetCombineMode g) e h = refl
no-act r (SetTextureImage g) e h = refl
no-act r (SetDepthImage g) e h = refl
no-act r (SetColorImage g) e h = refl
no-act r (Unassigned g) e h = refl

-- a number that is none of the acts' own is another draw's
other-by :
    (file : List ℕ) (n w v : ℕ) → (n ≡ 0x36 → ⊥) → (n ≡ 0x24 → ⊥) → (n ≡ 0x34 → ⊥) → (n ≡ 0x30 → ⊥) → (n ≡ 0x33 → ⊥) →
    act_by file n w v ≡ other_draw (color_image_in (word file 14))
unfolding act_by
other-by file n w v a b c d e = rw (ne_eqb _ _ a, ne_eqb _ _ b, ne_eqb _ _ c, ne_eqb _ _ e, ne_eqb _ _ d)

module _ (file c : List ℕ) (there : whole_words c ≡ 0 → ⊥) where
  abbrev n : ℕ
  n = first_number c

  abbrev w : ℕ
  w = word_at c 0

  abbrev r : Registers
  r = registers_in file

  pub acts-none : draws n ≡ false → loads n ≡ false → act_of_decoded r (decode_of c) ≡ nothing
  acts-none e h =
      ap (act_of_decoded r) (decodes c there) ∙ no-act r (decoded c there) (rw (decoded-number c there) e) (rw (decoded-number c there) h)

  abbrev reads : FillReads file
  reads = fill-reads file

  abbrev texture_reads : TextureReads file
  texture_reads = texture-reads file

  -- the tile that the first word names
  tile-is : tile_of r.tiles (tile_in w) ≡ tile_by (is_set file) (word file) (tile_in w)
  tile-is = tile-reads file (tile_in w) (tile-small w)

  -- ---- a draw, where v is the second word of a texture rectangle
  module _ (v : ℕ) (is-v : n ≡ 0x24 → v ≡ word_at c 1) where
    others : (x : Command) → decoded c there ≡ x → act_of r x ≡ other_draw r.images.color.value → (n ≡ 0x36 → ⊥) → (n ≡ 0x24 → ⊥) → (n ≡ 0x34 → ⊥) →
        (n ≡ 0x30 → ⊥) → (n ≡ 0x33 → ⊥) → act_of r (decoded c there) ≡ act_by file n w v
    others x e q h i j k l = ap (act_of r) e ∙ q ∙ ap other_draw reads.image ∙ sym (other-by file n w v h i j k l)

    of-triangle : n / 8 ≡ 1 → act_of r (decoded c there) ≡ act_by file n w v
    unfolding act_of
    of-triangle e =
        let g = reads-triangle c (decodes c there) e in
        others (FillTriangle g.0) g.1 refl (λ z. omega arith) (λ z. omega arith) (λ z. omega arith) (λ z. omega arith) (λ z. omega arith)

    of-flip : n ≡ 0x25 → act_of r (decoded c there) ≡ act_by file n w v
    unfolding act_of
    of-flip e =
        let g = reads-texture-rectangle-flip c (decodes c there) e in
        others (TextureRectangleFlip g.0) g.1 refl (λ z. omega arith) (λ z. omega arith) (λ z. omega arith) (λ z. omega arith) (λ z. omega arith)

    -- a texture rectangle
    copy_is : copy_of r (textured_rectangle_in w v) ≡ copy_fields (copy_words file (tile_in w)) w v
    copy_is =
        λ i. record {
          cycle_type = reads.mode i;
          rectangle = textured_rectangle_in w v;
          tile_set = (tile-is i).descriptor.set;
          tile = (tile-is i).descriptor.value;
          tile_corner = (tile-is i).size.value.upper_left;
          scissor = reads.scissor i;
          image = reads.image i;
          perspective = texture_reads.perspective i;
          lookup = texture_reads.lookup i;
          alpha_compare = texture_reads.alpha-compare i;
        }

    of-copy : n ≡ 0x24 → act_of r (decoded c there) ≡ act_by file n w v
    unfolding act_of act_by
    of-copy e =
        ap (act_of r) (reads-texture-rectangle c (decodes c there) e ∙ ap (λ (u : ℕ). TextureRectangle (textured_rectangle_in w u)) (sym (is-v e))) ∙
        ap copy_act copy_is ∙
        rw e

    -- a fill rectangle
    fill_is : fill_of r (rectangle_in w) ≡ fill_fields (fill_words file) w
    fill_is =
        λ i. record {
          cycle_type = reads.mode i;
          rectangle = rectangle_in w;
          scissor = reads.scissor i;
          image = reads.image i;
          color = reads.color i;
        }

    of-fill : n ≡ 0x36 → act_of r (decoded c there) ≡ act_by file n w v
    unfolding act_of act_by
    of-fill e = ap (act_of r) (reads-rectangle c (decodes c there) e) ∙ ap fill_act fill_is ∙ rw e

    pub draws-act : draws n ≡ true → act_of_decoded r (decode_of c) ≡ act_by file n w v
    draws-act e =
        let t : eqb (n / 8) 1 || among n (0x24 ∷ 0x25 ∷ 0x36 ∷ []) ≡ true = sym (draw-numbers n (number_small w)) ∙ e in
        ap (act_of_decoded r) (decodes c there) ∙
        by-test (eqb (n / 8) 1) (λ y. of-triangle (eqb-true _ _ y))
        (λ f.
        by-test (eqb n 0x24) (λ y. of-copy (eqb-true _ _ y))
        (λ g.
        by-test (eqb n 0x25) (λ y. of-flip (eqb-true _ _ y))
        (λ h. by-test (eqb n 0x36) (λ y. of-fill (eqb-true _ _ y)) (λ i. absurd (false≢true (rw (f, g, h, i) at t))))))

  -- ---- a load, with the file after it: it does not read the size that it sets

  abbrev after : List ℕ
  after = words_after file n w

  load_is : load_of r (tile_area_in w) ≡ load_fields (load_words file (tile_in w)) w
  load_is =
      λ i. record {
        image_set = texture_reads.image-set i;
        image = texture_reads.image i;
        tile_set = (tile-is i).descriptor.set;
        tile = (tile-is i).descriptor.value;
        area = tile_area_in w;
      }

  load-words : after ≡ stored_at (23 + tile_in w) file w → load_words file (tile_in w) ≡ load_words after (tile_in w)
  load-words stored =
      let small = tile-small w in
      let other : (k : ℕ) → (k ≡ 23 + tile_in w → ⊥) → word file k ≡ word after k =
      λ k ne. sym (ap (λ (f : List ℕ). word f k) stored ∙ word-other (23 + tile_in w) file w k ne) in
      λ i. record { image = other 12 (λ z. omega arith) i; tile = other (15 + tile_in w) (λ z. omega arith) i }

  load_after : after ≡ stored_at (23 + tile_in w) file w → load_of r (tile_area_in w) ≡ load_fields (load_words after (tile_in w)) w
  load_after stored = load_is ∙ ap (λ (s : LoadWords). load_fields s w) (load-words stored)

  of-load : (v : ℕ) → n ≡ 0x34 → act_of r (decoded c there) ≡ act_by after n w v
  unfolding act_of act_by slot_of
  of-load v e =
      ap (act_of r) (reads-load-tile c (decodes c there) e) ∙
      ap loading (load_after (ap (λ (k : ℕ). words_after file k w) e)) ∙
      rw e

  of-tlut : (v : ℕ) → n ≡ 0x30 → act_of r (decoded c there) ≡ act_by after n w v
  unfolding act_of act_by
  of-tlut v e = ap (act_of r) (reads-load-tlut c (decodes c there) e) ∙ rw e

  of-block : (v : ℕ) → n ≡ 0x33 → act_of r (decoded c there) ≡ act_by after n w v
  unfolding act_of act_by slot_of
  of-block v e =
      ap (act_of r) (reads-load-block c (decodes c there) e) ∙
      ap blocking (load_after (ap (λ (k : ℕ). words_after file k w) e)) ∙
      rw e

  pub loads-act : (v : ℕ) → loads n ≡ true → act_of_decoded r (decode_of c) ≡ act_by after n w v
  loads-act v e =
      ap (act_of_decoded r) (decodes c there) ∙
      by-test (eqb n 0x30) (λ y. of-tlut v (eqb-true _ _ y))
      (λ f.
      by-test (eqb n 0x33) (λ y. of-block v (eqb-true _ _ y))
      (λ g. by-test (eqb n 0x34) (λ y. of-load v (eqb-true _ _ y)) (λ h. absurd (false≢true (rw (f, g, h) at e)))))

with-act : (file : List ℕ) (n w v at : ℕ) (acts : List Placed) → with_act at (act_by file n w v) acts ≡ record { place = at; act = act_by file n w v } ∷ acts
unfolding act_by
with-act file n w v at acts =
    any (eqb n 0x36) (eqb n 0x24) (eqb n 0x34) (eqb n 0x33) (eqb n 0x30) (eqb f.cycle_type 3) (eqb c.cycle_type 2)
  where
    f : FillFields
    f = fill_fields (fill_words file) w

    c : CopyFields
    c = copy_fields (copy_words file (tile_in w)) w v

    l : LoadFields
    l = load_fields (load_words file (tile_in w)) w

    o : Image
    o = color_image_in (word file 14)

    any : (a b d e g p q : Bool) →
        let x =
        cond a (cond p (filling f) (other_draw f.image))
        (cond b (cond q (copying c) (other_draw c.image)) (cond d (loading l) (cond e (blocking l) (cond g other_load (other_draw o))))) in
        with_act at x acts ≡ record { place = at; act = x } ∷ acts
    any true b d e g true q = refl
    any true b d e g false q = refl
    any false true d e g p true = refl
    any false true d e g p false = refl
    any false false true e g p q = refl
    any false false false true g p q = refl
    any false false false false true p q = refl
    any false false false false false p q = refl

-- ---- from act to act

-- a file of zeros is that before the first command
pub start-due : (list : List ℕ) → rest_of list ≡ [] → ActsDue list 0 (replicate 32 0) (acts_of list)
start-due list w = record { long = refl; are = ap (λ (q : Registers). acts_from q 0 (commands_of list)) none-set; whole = w }

-- nothing is left
pub due-none : {list : List ℕ} {at : ℕ} {file : List ℕ} {acts : List Placed} → ActsDue list at file acts → length list / 8 ≤ at → acts ≡ []
unfolding acts_from
due-none {list} {at} d h =
    sym d.are ∙ rw (commands-past list at _ refl (omega (arith, h, some_words list at _ refl)))

module _ {list : List ℕ} {at : ℕ} {file : List ℕ} {acts : List Placed} (d : ActsDue list at file acts) (more : at < length list / 8) (n : ℕ)
    (is : n ≡ number_in (word_at list at)) where
  whole-at : at + words_of n ≤ length list / 8
  whole-at =
      by-test (ltb (length list / 8) (at + words_of n))
      (λ t.
      let past = rest-past list at n is (ltb-true _ _ t) in
      let none : drop (8 * at) list ≡ [] = sym past ∙ d.whole in
      let short : length (drop (8 * at) list) ≡ 0 = ap length none in
      absurd (omega (arith, short, length-drop (8 * at) list)))
      (λ f. ltb-false _ _ f)

  small : n < 64
  small = rw is (number_small (word_at list at))

  abbrev c : List ℕ
  c = command_at list at n

  there : whole_words c ≡ 0 → ⊥
  there = command-there list at n is whole-at

  -- the second word of a command of two is the one after the place
  second : words_of n ≡ 2 → word_at list (at + 1) ≡ word_at c 1
  second e =
      let long : 8 * whole_words c ≤ length c = (is_whole c there).inside in
      let two : 8 * at + 8 * 1 ≡ 8 * (at + 1) = omega arith in
      sym (word-drop list (at + 1)) ∙
      ap (λ (k : ℕ). word_at (drop k list) 0) (sym two) ∙
      ap (λ (bs : List ℕ). word_at bs 0) (sym (drop-drop (8 * 1) (8 * at) list)) ∙
      word-drop (drop (8 * at) list) 1 ∙
      ap (λ (bs : List ℕ). word_at bs 1) (sym (split_at list at n is whole-at)) ∙
      word-front c _ 1 (omega (arith, long, command-whole list at n is whole-at))

  -- the file after the command
  abbrev file' : List ℕ
  file' = words_after file n (word_at list at)

  stored : registers_in file' ≡ after_decoded (registers_in file) (decode_of c)
  stored =
      (λ i. registers_in (words_after file (sym (command-number list at n is whole-at) i) (sym (command-word list at n is whole-at) i))) ∙
      registers-stored file d.long c there

  abbrev rest : List Placed
  rest = acts_from (registers_in file') (at + words_of n) (commands_of (drop (8 * (at + words_of n)) list))

  unrolled : acts ≡ with_act at (act_of_decoded (registers_in file) (decode_of c)) rest
  unfolding acts_from
  unrolled =
      sym d.are ∙
      rw (commands-at list at n is whole-at, command-number list at n is whole-at)
      (ap
      (λ (q : Registers). with_act at (act_of_decoded (registers_in file) (decode_of c))
      (acts_from q (at + words_of n) (commands_of (drop (8 * (at + words_of n)) list))))
      (sym stored))

  onward : ActsDue list (at + words_of n) file' rest
  onward =
      record {
        long = length-stored (slot_of n (tile_in (word_at list at))) file (word_at list at) ∙ d.long;
        are = refl;
        whole = sym (rest_at list at n is whole-at) ∙ d.whole;
      }

  -- past a command that is no act
  pub step : draws n ≡ false → loads n ≡ false → ActsDue list (at + 1) file' acts
  step e h =
      let none = acts-none file c there (rw (command-number list at n is whole-at) e) (rw (command-number list at n is whole-at) h) in
      let same : rest ≡ acts = sym (unrolled ∙ ap (λ (a : Act). with_act at a rest) none) in
      subst (λ (k : ℕ). ActsDue list (at + k) file' acts) (one_word n small e) (subst (λ (x : List Placed). ActsDue list (at + words_of n) file' x) same onward)

  pub skip : draws n ≡ false → among n setters ≡ false → ActsDue list (at + 1) file acts
  skip e k = subst (λ (f : List ℕ). ActsDue list (at + 1) f acts) (words-kept file n (word_at list at) small k) (step e (load_sets n small k))

  -- an act, with the file that it is reached with
  found : (f : List ℕ) → f ≡ file' → act_of_decoded (registers_in file) (decode_of c) ≡ act_by f (first_number c) (word_at c 0) (word_at list (at + 1)) →
      Next list (record { place = at; number = n }) f acts
  found f is_f act =
      let same : act_by f (first_number c) (word_at c 0) (word_at list (at + 1)) ≡ act_with f list at n =
      λ i. act_by f (command-number list at n is whole-at i) (command-word list at n is whole-at i) (word_at list (at + 1)) in
      record {
        some = some_words list at n is;
        inside = whole-at;
        others = rest;
        first =
            unrolled ∙
            ap (λ (a : Act). with_act at a rest) (act ∙ same) ∙
            with-act f n (word_at list at) (word_at list (at + 1)) at rest;
        due = subst (λ (x : List ℕ). ActsDue list (at + words_of n) x rest) (sym is_f) onward;
      }

  pub reached : draws n ≡ true → Next list (record { place = at; number = n }) file acts
  reached e =
      found file (sym (words-kept file n (word_at list at) small (draw-keeps n small e)))
      (draws-act file c there (word_at list (at + 1)) (λ z. second (words-two (sym (command-number list at n is whole-at) ∙ z)))
      (rw (command-number list at n is whole-at) e))
    where
      words-two : n ≡ 0x24 → words_of n ≡ 2
      words-two z = ap words_of z ∙ rectangle-words

  pub loaded : loads n ≡ true → Next list (record { place = at; number = n }) file' acts
  loaded e =
      found file' refl
      (loads-act file c there (word_at list (at + 1)) (rw (command-number list at n is whole-at) e) ∙
      (λ i.
      act_by (words_after file (command-number list at n is whole-at i) (command-word list at n is whole-at i)) (first_number c) (word_at c 0)
      (word_at list (at + 1))))

-- what holds at the head of the loop that looks for an act: what was due at its start is due here
pub record Walks (list : List ℕ) (from : ℕ) (before : List ℕ) (words : ℕ) (file : List ℕ) (at : ℕ) : Type 0 where
  pub count : words ≡ length list / 8
  pub onward : from ≤ at
  pub due : (acts : List Placed) → ActsDue list from before acts → ActsDue list at file acts

pub walk_first : (list : List ℕ) (from : ℕ) (file : List ℕ) (words : ℕ) → words ≡ length list / 8 → Walks list from file words file from
walk_first list from file words e = record { count = e; onward = le_refl from; due = λ acts d. d }

module _ {list : List ℕ} {from : ℕ} {before : List ℕ} {words : ℕ} {file : List ℕ} {at : ℕ} (w : Walks list from before words file at) where
  pub walk_none : words ≤ at → Reaches list from before None file
  walk_none h acts d = due-none (w.due acts d) (omega (arith, w.count))

  module _ (more : at < words) (n : ℕ) (is : n ≡ number_in (word_at list at)) (b : Bool) (in_draws : b ≡ is_among 0x0040_0030_0000_FF00 n) where
    low : n < 64
    low = rw is (number_small (word_at list at))

    is_b : b ≡ draws n
    is_b = in_draws ∙ draws-among n low

    inside : at < length list / 8
    inside = omega (arith, w.count)

    pub walk-found : b ≡ true → Reaches list from before (Some (record { place = at; number = n })) file
    walk-found t acts d = (w.onward, reached (w.due acts d) inside n is (sym is_b ∙ t))

    module _ (f : b ≡ false) where
      pub walk-skip : (s : Bool) → s ≡ is_among 0xFFBD_FC00_0000_0000 n → s ≡ false → Walks list from before words file (at + 1)
      walk-skip s is-s e =
          record {
            count = w.count;
            onward = omega (arith, w.onward);
            due = λ acts d. skip (w.due acts d) inside n is (sym is_b ∙ f) (sym (is-s ∙ sets-by n low) ∙ e);
          }

      -- the word is stored
      module _ (v : ℕ) (is-v : v ≡ word_at list at) (stored : List ℕ) (is-stored : stored ≡ words_after file (n % 64) v) (load : Bool)
          (is-load : load ≡ is_among 0x0019_0000_0000_0000 n) where
        same : words_after file n (word_at list at) ≡ stored
        same = let same_number : n % 64 ≡ n = mod-eq_of_lt low in sym (is-stored ∙ (λ i. words_after file (same_number i) (is-v i)))

        pub walk-load : load ≡ true → Reaches list from before (Some (record { place = at; number = n })) stored
        walk-load t acts d = (
          w.onward,
          subst (λ (x : List ℕ). Next list (record { place = at; number = n }) x acts) same
              (loaded (w.due acts d) inside n is (sym (is-load ∙ loads-by n low) ∙ t)),
        )

        pub walk-set : load ≡ false → Walks list from before words stored (at + 1)
        walk-set e =
            record {
              count = w.count;
              onward = omega (arith, w.onward);
              due =
                  λ acts d. subst (λ (x : List ℕ). ActsDue list (at + 1) x acts) same
                  (step (w.due acts d) inside n is (sym is_b ∙ f) (sym (is-load ∙ loads-by n low) ∙ e));
            }

-- The registers of the words that last set them: before the first command, after one and after those of a list. Assumes nothing.
use Rattle.std.proofs.Common.{ℕ, zero, suc, pred, ◌+◌, ◌*◌, ◌/◌, ◌%◌, ◌^◌, ◌<◌, Bool, true, false, cond, not, List, [], ◌∷◌, ◌≡◌, refl, sym, ap, ◌∙◌, mod-lt, arith, ne_eqb, eqb-true, ltb-true, T, eqb, ltb, eqb→eq, lit<, length, get_or, set, take, replicate, length-set, get_or-set_same, get_or-set_other}
use borrow.Author.Tests.{eqb-false}
use Rattle.rdp_words.specs.Words.{word_at, number_in}
use Rattle.rdp_words.specs.Kinds.{among, words_of}
use Rattle.rdp_command.specs.Layout.{tile_area_lines, tile_descriptor_lines}
use Rattle.rdp_command.specs.Groups.{tile_area_of, tile_descriptor_of}
use Rattle.rdp_command.specs.Commands.{number_of}
use Rattle.rdp_command.specs.Reads.{fields_in, other_modes_in, cycle_type_in, scissor_in, fill_color_in, color_image_in, texture_image_in}
use Rattle.rdp_words.specs.Lengths.{first_number, whole_words}
use Rattle.rdp_command.specs.Decode.{own_words, command_in, decode_of}
use Rattle.rdp_command.specs.declared.TileDescriptor.{TileDescriptor}
use Rattle.rdp_command.specs.declared.TexelCorner.{TexelCorner}
use Rattle.rdp_command.specs.declared.Command.{Command}
use Rattle.rdp_command.specs.declared.Command.TheVariants.{NoOperation, FillTriangle, TextureRectangle, TextureRectangleFlip, SyncLoad, SyncPipe, SyncTile, SyncFull, SetKeyGb, SetKeyR, SetConvert, SetScissor, SetPrimitiveDepth, SetOtherModes, LoadTlut, SetTileSize, LoadBlock, LoadTile, SetTile, FillRectangle, SetFillColor, SetFogColor, SetBlendColor, SetPrimitiveColor, SetEnvironmentColor, SetCombineMode, SetTextureImage, SetDepthImage, SetColorImage, Unassigned}
use Rattle.rdp_words.proofs.Tests.{each, below, true_of, by-test}
use Rattle.rdp_words.proofs.PlaceLaws.{number_small, is_whole}
use Rattle.rdp_command.proofs.CommandLaws.{one_word}
use Rattle.rdp_command.proofs.ReadLaws.{decodes, decoded-number}
use Rattle.rdp_check.specs.Commands.{commands_from}
use Rattle.rdp_check.specs.Registers.{set_to, no_tile, tile_of, no_registers, with_tiles, registers_after, after_decoded, described_tiles, sized_tiles}
use Rattle.rdp_state.specs.RegisterWords.{tile_in, slot_of, stored_at, words_after, tile_by, tiles_by, registers_by, is_set, word, registers_in}
use Rattle.rdp_state.specs.Replay.{slot_row, slot_entry, slot_in, up_to, words_up_to, registers_up_to, setters}
use Rattle.rdp_check.specs.declared.Tile.{Tile}
use Rattle.rdp_check.specs.declared.Registers.{Registers}
use Rattle.rdp_check.proofs.ListLaws.{command-there}

-- ---- the slots

-- a test at each command number and each tile
abbrev pub each_slot : (ℕ → ℕ → Bool) → Bool
each_slot f = each (λ n. each (f n) 8) 64

slot-test : (f : ℕ → ℕ → Bool) → T (each_slot f) → (n t : ℕ) → n < 64 → t < 8 → T (f n t)
slot-test f test n t h k = below 8 (f n) (below 64 (λ n. each (f n) 8) test n h) t k

-- the rows of the code hold the slots, by one test over them
pub row-slot : (n t : ℕ) → n < 64 → t < 8 → slot_in (slot_entry n) t ≡ slot_of n t
unfolding slot_of slot_row
row-slot n t h k = eqb→eq _ _ (slot-test (λ n t. eqb (slot_in (slot_entry n) t) (slot_of n t)) tt n t h k)

pub slot_small : (n t : ℕ) → n < 64 → t < 8 → slot_of n t < 32
unfolding slot_of
slot_small n t h k = ltb-true _ _ (true_of (ltb (slot_of n t) 32) (slot-test (λ n t. ltb (slot_of n t) 32) tt n t h k))

pub tile-small : (w : ℕ) → tile_in w < 8
tile-small w = mod-lt _ (lit< tt)

-- a slot as the code finds it
pub found-slot : (n w e : ℕ) → e ≡ slot_entry n → n < 64 → slot_in e (tile_in w) ≡ slot_of n (tile_in w)
found-slot n w e is l = ap (λ (x : ℕ). slot_in x (tile_in w)) is ∙ row-slot n (tile_in w) l (tile-small w)

pub found-small : (n w e : ℕ) → e ≡ slot_entry n → n < 64 → slot_in e (tile_in w) < 32
found-small n w e is l = rw (found-slot n w e is l) (slot_small n (tile_in w) l (tile-small w))

unless : (b : Bool) {x y : ℕ} → T (cond b true (eqb x y)) → T (not b) → x ≡ y
unless true t k = absurd k
unless false t k = eqb→eq _ _ t

other-slot : (n t : ℕ) → n < 64 → t < 8 → T (not (among n setters)) → slot_of n t ≡ 31
unfolding slot_of
other-slot n t h k s = unless (among n setters) (slot-test (λ n t. cond (among n setters) true (eqb (slot_of n t) 31)) tt n t h k) s

-- ---- a word is stored

pub length-stored : (slot : ℕ) (ws : List ℕ) (w : ℕ) → length (stored_at slot ws w) ≡ length ws
length-stored slot ws w = by-test (eqb slot 31) (λ t. rw t) (λ f. rw f (length-set ws slot w))

-- a command that sets no register leaves the words as they are
pub words-kept : (ws : List ℕ) (n w : ℕ) → n < 64 → among n setters ≡ false → words_after ws n w ≡ ws
words-kept ws n w h e = ap (λ (j : ℕ). stored_at j ws w) (other-slot n (tile_in w) h (tile-small w) (rw e tt))

-- a function with one value changed
abbrev changed : {A : Type 0} → ℕ → A → (ℕ → A) → ℕ → A
changed i x f k = cond (eqb k i) x (f k)

cond_of : {A : Type 0} (f : ℕ → A) (b : Bool) (x y : ℕ) → f (cond b x y) ≡ cond b (f x) (f y)
cond_of f true x y = refl
cond_of f false x y = refl

word_set : (ws : List ℕ) (i w : ℕ) → i < length ws → (k : ℕ) → word (set ws i w) k ≡ changed i w (word ws) k
word_set ws i w h k =
    by-test (eqb k i) (λ t. rw t (ap (λ (j : ℕ). get_or (set ws i w) j 0) (eqb-true k i t) ∙ get_or-set_same ws i w 0 h))
    (λ f. rw f (get_or-set_other ws i k w 0 (eqb-false k i f)))

bit-set : (ws : List ℕ) (i w : ℕ) → i < length ws → (k : ℕ) → is_set (set ws i w) k ≡ changed i (not (eqb w 0)) (is_set ws) k
bit-set ws i w h k =
    ap (λ (x : ℕ). not (eqb x 0)) (word_set ws i w h k) ∙ cond_of (λ (x : ℕ). not (eqb x 0)) (eqb k i) w (get_or ws k 0)

stored :
    (ws : List ℕ) (i w : ℕ) → i < length ws →
    registers_in (set ws i w) ≡ registers_by (changed i (not (eqb w 0)) (is_set ws)) (changed i w (word ws))
stored ws i w h = λ j. registers_by (λ k. bit-set ws i w h k j) (λ k. word_set ws i w h k j)

-- ---- the tiles

by-eight :
    (P : ℕ → Type 0) → P 0 → P 1 → P 2 → P 3 → P 4 → P 5 → P 6 → P 7 → (t : ℕ) → t < 8 → P t
by-eight P a b c d e f g h zero l = a
by-eight P a b c d e f g h (suc zero) l = b
by-eight P a b c d e f g h (suc (suc zero)) l = c
by-eight P a b c d e f g h (suc (suc (suc zero))) l = d
by-eight P a b c d e f g h (suc (suc (suc (suc zero)))) l = e
by-eight P a b c d e f g h (suc (suc (suc (suc (suc zero))))) l = f
by-eight P a b c d e f g h (suc (suc (suc (suc (suc (suc zero)))))) l = g
by-eight P a b c d e f g h (suc (suc (suc (suc (suc (suc (suc zero))))))) l = h
by-eight P a b c d e f g h (suc (suc (suc (suc (suc (suc (suc (suc t)))))))) l = absurd (omega arith)

mod-mod : (x : ℕ) → x % 8 % 8 ≡ x % 8
mod-mod x = omega arith

abbrev described_at : List Tile → ℕ → TileDescriptor → List Tile
described_at ts i d = set ts i (record { descriptor = set_to d; size = (get_or ts i no_tile).size })

abbrev sized_at : List Tile → ℕ → TexelCorner → TexelCorner → List Tile
sized_at ts i first last =
    set ts i (record { descriptor = (get_or ts i no_tile).descriptor; size = set_to (record { upper_left = first; lower_right = last }) })

module _ (s : ℕ → Bool) (g : ℕ → ℕ) (w : ℕ) where
  described :
      (t : ℕ) → t < 8 →
      registers_by (changed (15 + t) true s) (changed (15 + t) w g) ≡
      with_tiles (registers_by s g) (described_at (tiles_by s g) t (tile_descriptor_of (fields_in tile_descriptor_lines w)))
  unfolding registers_by
  described =
      by-eight
      (λ (t : ℕ). registers_by (changed (15 + t) true s) (changed (15 + t) w g) ≡
      with_tiles (registers_by s g) (described_at (tiles_by s g) t (tile_descriptor_of (fields_in tile_descriptor_lines w))))
      refl refl refl refl refl refl refl refl

  sized :
      (t : ℕ) → t < 8 →
      registers_by (changed (23 + t) true s) (changed (23 + t) w g) ≡
      with_tiles (registers_by s g)
      (sized_at (tiles_by s g) t (tile_area_of (fields_in tile_area_lines w)).upper_left (tile_area_of (fields_in tile_area_lines w)).lower_right)
  unfolding registers_by
  sized =
      by-eight
      (λ (t : ℕ). registers_by (changed (23 + t) true s) (changed (23 + t) w g) ≡
      with_tiles (registers_by s g)
      (sized_at (tiles_by s g) t (tile_area_of (fields_in tile_area_lines w)).upper_left (tile_area_of (fields_in tile_area_lines w)).lower_right))
      refl refl refl refl refl refl refl refl

-- ---- a command

-- a number is one of a list, or none of them
abbrev Each : Type 0 → ℕ → List ℕ → Type 0
Each P n [] = Unit
Each P n (k ∷ ks) = (n ≡ k → P) × Each P n ks

by_number : {P : Type 0} (ks : List ℕ) (n : ℕ) → Each P n ks → (T (not (among n ks)) → P) → P
by_number [] n each other = other tt
by_number (k ∷ ks) n each other =
    by-test (eqb n k) (λ t. each.0 (eqb-true n k t)) (λ f. by_number ks n each.1 (λ o. other (rw f o)))

-- a command that sets no register
kept : (r : Registers) (c : Command) → T (not (among (number_of c) setters)) → registers_after r c ≡ r
unfolding registers_after
kept r (NoOperation x) k = refl
kept r (FillTriangle x) k = refl
kept r (TextureRectangle x) k = refl
kept r (TextureRectangleFlip x) k = refl
kept r SyncLoad k = refl
kept r SyncPipe k = refl
kept r SyncTile k = refl
kept r SyncFull k = refl
kept r (SetKeyGb x) k = absurd k
kept r (SetKeyR x) k = absurd k
kept r (SetConvert x) k = absurd k
kept r (SetScissor x) k = absurd k
kept r (SetPrimitiveDepth x) k = absurd k
kept r (SetOtherModes x) k = absurd k
kept r (LoadTlut x) k = absurd k
kept r (SetTileSize x) k = absurd k
kept r (LoadBlock x) k = absurd k
kept r (LoadTile x) k = absurd k
kept r (SetTile x) k = absurd k
kept r (FillRectangle x) k = refl
kept r (SetFillColor x) k = absurd k
kept r (SetFogColor x) k = absurd k
kept r (SetBlendColor x) k = absurd k
kept r (SetPrimitiveColor x) k = absurd k
kept r (SetEnvironmentColor x) k = absurd k
kept r (SetCombineMode x) k = absurd k
kept r (SetTextureImage x) k = absurd k
kept r (SetDepthImage x) k = absurd k
kept r (SetColorImage x) k = absurd k
kept r (Unassigned x) k = refl

module _ (ws : List ℕ) (long : length ws ≡ 32) (c : List ℕ) (there : whole_words c ≡ 0 → ⊥) where
  abbrev n : ℕ
  n = first_number c

  abbrev w : ℕ
  w = word_at c 0

  abbrev own : List ℕ
  own = own_words c (whole_words c)

  abbrev Result : ℕ → Type 0
  Result k = registers_in (words_after ws k w) ≡ registers_after (registers_in ws) (command_in k own)

  at_slot :
      (k i : ℕ) → slot_of k (tile_in w) ≡ i → i < 31 →
      registers_in (words_after ws k w) ≡ registers_by (changed i (not (eqb w 0)) (is_set ws)) (changed i w (word ws))
  at_slot k i e h =
      let apart : (i ≡ 31 → ⊥) = λ z. omega arith in
      ap (λ (j : ℕ). registers_in (stored_at j ws w)) e ∙ rw (ne_eqb i 31 apart) (stored ws i w (omega (arith, long)))

  -- the word of a command whose number is not 0
  some : (k : ℕ) → n ≡ k → 0 < k → not (eqb w 0) ≡ true
  some k e h = let nz : (w ≡ 0 → ⊥) = λ z. let q : n ≡ 0 = ap number_in z in omega arith in rw (ne_eqb w 0 nz)

  setter :
      (k i : ℕ) → n ≡ k → 0 < k → slot_of k (tile_in w) ≡ i → i < 31 →
      registers_by (changed i true (is_set ws)) (changed i w (word ws)) ≡ registers_after (registers_in ws) (command_in k own) → Result n
  setter k i e z s h q =
      ap (λ (j : ℕ). registers_in (words_after ws j w)) e ∙
      (at_slot k i s h ∙ (ap (λ (b : Bool). registers_by (changed i b (is_set ws)) (changed i w (word ws))) (some k e z) ∙
      (q ∙ ap (λ (j : ℕ). registers_after (registers_in ws) (command_in j own)) (sym e))))

  abbrev tile : ℕ
  tile = tile_in w

  of-tile : n ≡ 0x35 → Result n
  unfolding slot_of registers_after registers_by described_tiles
  of-tile e =
      setter 0x35 (15 + tile) e (lit< tt) refl (omega (arith, tile-small w))
      (described (is_set ws) (word ws) w tile (tile-small w) ∙
      ap
      (λ (i : ℕ). with_tiles (registers_in ws) (described_at (tiles_by (is_set ws) (word ws)) i (tile_descriptor_of (fields_in tile_descriptor_lines w))))
      (sym (mod-mod (w / 2 ^ 24))) ∙
      ap (registers_after (registers_in ws)) (sym (one_word own).tile))

  -- the registers with the size of the tile set
  abbrev resized : Registers
  resized =
      let a = tile_area_of (fields_in tile_area_lines w) in
      with_tiles (registers_in ws) (sized_tiles (tiles_by (is_set ws) (word ws)) tile a.upper_left a.lower_right)

  sizer : (k : ℕ) → n ≡ k → 0 < k → slot_of k tile ≡ 23 + tile → resized ≡ registers_after (registers_in ws) (command_in k own) → Result n
  unfolding sized_tiles
  sizer k e z s q =
      setter k (23 + tile) e z s (omega (arith, tile-small w))
      (sized (is_set ws) (word ws) w tile (tile-small w) ∙
      (ap
      (λ (i : ℕ).
      let a = tile_area_of (fields_in tile_area_lines w) in
      with_tiles (registers_in ws) (sized_at (tiles_by (is_set ws) (word ws)) i a.upper_left a.lower_right))
      (sym (mod-mod (w / 2 ^ 24))) ∙ q))

  of_others : T (not (among n setters)) → Result n
  of_others k =
      ap (λ (j : ℕ). registers_in (stored_at j ws w)) (other-slot n tile (number_small w) (tile-small w) k) ∙
      sym (kept (registers_in ws) (command_in n own) (rw (decoded-number c there) k))

  -- a line for each number that sets a register
  result : Result n
  unfolding slot_of registers_after registers_by
  result =
      let o = one_word own in
      let s2_a : n ≡ 0x2A → Result n = λ e. setter 0x2A 0 e (lit< tt) refl (lit< tt) (ap (registers_after (registers_in ws)) (sym o.key-gb)) in
      let s2_b : n ≡ 0x2B → Result n = λ e. setter 0x2B 1 e (lit< tt) refl (lit< tt) (ap (registers_after (registers_in ws)) (sym o.key-r)) in
      let s2_c : n ≡ 0x2C → Result n = λ e. setter 0x2C 2 e (lit< tt) refl (lit< tt) (ap (registers_after (registers_in ws)) (sym o.convert)) in
      let s2_d : n ≡ 0x2D → Result n = λ e. setter 0x2D 3 e (lit< tt) refl (lit< tt) (ap (registers_after (registers_in ws)) (sym o.scissor)) in
      let s2_e : n ≡ 0x2E → Result n = λ e. setter 0x2E 4 e (lit< tt) refl (lit< tt) (ap (registers_after (registers_in ws)) (sym o.primitive-depth)) in
      let s2_f : n ≡ 0x2F → Result n = λ e. setter 0x2F 5 e (lit< tt) refl (lit< tt) (ap (registers_after (registers_in ws)) (sym o.other-modes)) in
      let s30 : n ≡ 0x30 → Result n = λ e. sizer 0x30 e (lit< tt) refl (ap (registers_after (registers_in ws)) (sym o.load-tlut)) in
      let s32 : n ≡ 0x32 → Result n = λ e. sizer 0x32 e (lit< tt) refl (ap (registers_after (registers_in ws)) (sym o.tile-size)) in
      let s33 : n ≡ 0x33 → Result n = λ e. sizer 0x33 e (lit< tt) refl (ap (registers_after (registers_in ws)) (sym o.load-block)) in
      let s34 : n ≡ 0x34 → Result n = λ e. sizer 0x34 e (lit< tt) refl (ap (registers_after (registers_in ws)) (sym o.load-tile)) in
      let s37 : n ≡ 0x37 → Result n = λ e. setter 0x37 6 e (lit< tt) refl (lit< tt) (ap (registers_after (registers_in ws)) (sym o.fill-color)) in
      let s38 : n ≡ 0x38 → Result n = λ e. setter 0x38 7 e (lit< tt) refl (lit< tt) (ap (registers_after (registers_in ws)) (sym o.fog-color)) in
      let s39 : n ≡ 0x39 → Result n = λ e. setter 0x39 8 e (lit< tt) refl (lit< tt) (ap (registers_after (registers_in ws)) (sym o.blend-color)) in
      let s3_a : n ≡ 0x3A → Result n = λ e. setter 0x3A 9 e (lit< tt) refl (lit< tt) (ap (registers_after (registers_in ws)) (sym o.primitive-color)) in
      let s3_b : n ≡ 0x3B → Result n = λ e. setter 0x3B 10 e (lit< tt) refl (lit< tt) (ap (registers_after (registers_in ws)) (sym o.environment-color)) in
      let s3_c : n ≡ 0x3C → Result n = λ e. setter 0x3C 11 e (lit< tt) refl (lit< tt) (ap (registers_after (registers_in ws)) (sym o.combine-mode)) in
      let s3_d : n ≡ 0x3D → Result n = λ e. setter 0x3D 12 e (lit< tt) refl (lit< tt) (ap (registers_after (registers_in ws)) (sym o.texture-image)) in
      let s3_e : n ≡ 0x3E → Result n = λ e. setter 0x3E 13 e (lit< tt) refl (lit< tt) (ap (registers_after (registers_in ws)) (sym o.depth-image)) in
      let s3_f : n ≡ 0x3F → Result n = λ e. setter 0x3F 14 e (lit< tt) refl (lit< tt) (ap (registers_after (registers_in ws)) (sym o.color-image)) in
      let high : Each (Result n) n (0x37 ∷ 0x38 ∷ 0x39 ∷ 0x3A ∷ 0x3B ∷ 0x3C ∷ 0x3D ∷ 0x3E ∷ 0x3F ∷ []) = (s37, (s38, (s39, (s3_a, (s3_b, (s3_c, (s3_d, (s3_e, (s3_f, tt))))))))) in
      by_number setters n (s2_a, (s2_b, (s2_c, (s2_d, (s2_e, (s2_f, (s30, (s32, (s33, (s34, (of-tile, high))))))))))) of_others

  -- a word is stored: its registers are those after its command
  pub registers-stored : registers_in (words_after ws n w) ≡ after_decoded (registers_in ws) (decode_of c)
  registers-stored = result ∙ ap (after_decoded (registers_in ws)) (sym (decodes c there))

-- ---- what is read of a register is read of its word

-- of the registers that a fill is drawn under
pub record FillReads (ws : List ℕ) : Type 0 where
  pub mode : (registers_in ws).modes.other.value.cycle_type ≡ cycle_type_in (word ws 5)
  pub scissor : (registers_in ws).modes.scissor.value ≡ scissor_in (word ws 3)
  pub image : (registers_in ws).images.color.value ≡ color_image_in (word ws 14)
  pub color : (registers_in ws).colors.fill.value ≡ fill_color_in (word ws 6)

pub fill-reads : (ws : List ℕ) → FillReads ws
unfolding registers_by
fill-reads ws = record { mode = refl; scissor = refl; image = refl; color = refl }

-- the registers that texels are loaded and copied under, but the tile
pub record TextureReads (ws : List ℕ) : Type 0 where
  pub image-set : (registers_in ws).images.texture.set ≡ is_set ws 12
  pub image : (registers_in ws).images.texture.value ≡ texture_image_in (word ws 12)
  pub perspective : (registers_in ws).modes.other.value.texture.persp_tex_en ≡ (other_modes_in (word ws 5)).texture.persp_tex_en
  pub lookup : (registers_in ws).modes.other.value.texture.tlut_en ≡ (other_modes_in (word ws 5)).texture.tlut_en
  pub alpha-compare : (registers_in ws).modes.other.value.pixel.alpha_compare_en ≡ (other_modes_in (word ws 5)).pixel.alpha_compare_en

pub texture-reads : (ws : List ℕ) → TextureReads ws
unfolding registers_by
texture-reads ws = record { image-set = refl; image = refl; perspective = refl; lookup = refl; alpha-compare = refl }

-- a tile
pub tile-reads : (ws : List ℕ) (t : ℕ) → t < 8 → tile_of (registers_in ws).tiles t ≡ tile_by (is_set ws) (word ws) t
unfolding registers_by
tile-reads ws =
    by-eight (λ (t : ℕ). tile_of (registers_in ws).tiles t ≡ tile_by (is_set ws) (word ws) t) refl refl refl refl refl refl refl refl

-- the words of other slots stay
pub word-other : (slot : ℕ) (ws : List ℕ) (w k : ℕ) → (k ≡ slot → ⊥) → word (stored_at slot ws w) k ≡ word ws k
word-other slot ws w k ne = by-test (eqb slot 31) (λ t. rw t) (λ f. rw f (get_or-set_other ws slot k w 0 ne))

-- ---- a list

-- words of 0 are the registers before the first command
pub none-set : registers_in (replicate 32 0) ≡ no_registers
unfolding registers_by no_registers
none-set = refl

-- the bytes of a first command that is whole are a whole command
head-there : (bs : List ℕ) → (whole_words bs ≡ 0 → ⊥) → whole_words (take (8 * whole_words bs) bs) ≡ 0 → ⊥
head-there bs there =
    let h = is_whole bs there in
    rw h.words (command-there bs 0 (first_number bs) refl (omega (arith, h.inside, h.words)))

pub registers-up-to :
    (end k : ℕ) (bs : List ℕ) (at : ℕ) (ws : List ℕ) → length ws ≡ 32 →
    registers_in (words_up_to end at ws (commands_from k bs)) ≡ registers_up_to end at (registers_in ws) (commands_from k bs)
unfolding commands_from up_to
registers-up-to end zero [] at ws long = refl
registers-up-to end (suc k) [] at ws long = refl
registers-up-to end (suc k) (b ∷ bs) at ws long = registers-up-to end k bs at ws long
registers-up-to end zero (b ∷ bs) at ws long =
    by-test (eqb (whole_words (b ∷ bs)) 0) (λ t. rw t)
    (λ f.
    by-test (ltb at end)
    (λ more.
    let c = take (8 * whole_words (b ∷ bs)) (b ∷ bs) in
    let later = commands_from (pred (8 * whole_words (b ∷ bs))) bs in
    let next = at + words_of (first_number c) in
    let ws' = words_after ws (first_number c) (word_at c 0) in
    rw (f, more)
    (registers-up-to end (pred (8 * whole_words (b ∷ bs))) bs next ws' (length-stored (slot_of (first_number c) (tile_in (word_at c 0))) ws (word_at c 0) ∙ long) ∙
    ap (λ (r : Registers). registers_up_to end next r later) (registers-stored ws long c (head-there (b ∷ bs) (eqb-false _ _ f)))))
    (λ ended. rw (f, ended)))

-- Each byte of memory and of texture memory after drawing: that of the last act that writes it, else what it was.
--     memory-free, memory-filled, memory_copied     a byte of memory
--     texture-free, texture-loaded, texture-blocked a byte of texture memory
--     last-act, and last-move of rdp_texels         where a byte is written, there is a last act that does, and a last texel of it
-- Assumes nothing.
use mathlib.Core.Bool.{Bool, true, false, cond, not, false≢true, or-false}
use mathlib.Core.List.{List, [], ◌∷◌, ◌++◌, append_assoc}
use mathlib.Core.Path.{◌≡◌, refl, sym, ap, ◌∙◌}
use Prim.Native.Nat.{ℕ, ◌+◌, ◌-◌, ◌/◌, ◌<◌}
use lib.Dec.{T, eqb}
use lib.ListN.{length, get_or}
use Rattle.rdp_words.specs.Grounds.{Answer}
use Rattle.rdp_command.specs.declared.FillFields.{FillFields}
use Rattle.rdp_command.specs.declared.CopyFields.{CopyFields}
use Rattle.rdp_command.specs.declared.LoadFields.{LoadFields}
use Rattle.rdp_words.proofs.Tests.{by-test, true_of, false_of, neither}
use Rattle.rdp_check.proofs.OrderLaws.{first-none, refused_none}
use Rattle.rdp_pixels.proofs.OverlayLaws.{length-overlay, get_d-overlay}
use Rattle.rdp_texels.specs.Texels.{Move, some, texture_byte, outside_memory, outside_texture, loaded}
use Rattle.rdp_texels.specs.Load.{load_moves}
use Rattle.rdp_texels.specs.Copy.{copy_moves}
use Rattle.rdp_texels.specs.Written.{stands_at, goes_to, LastMove}
use Rattle.rdp_texels.proofs.ExactLaws.{none-split, length-loaded, length-copied, loaded-free, loaded-last, copied-free, copied-last, texture-inside}
use Rattle.rdp_block.specs.Block.{block_moves}
use Rattle.rdp_fill.specs.Fill.{color_byte, covers}
use Rattle.rdp_draw.specs.Draw.{Act, nothing, other_draw, other_load, filling, copying, loading, blocking, Placed, acts_of, is_outside, is_beyond, act_refusals, draw_answer, Memories, acted, acted_all, drawn}
use Rattle.rdp_draw.specs.Seen.{act_refusal, first_refusal}
use Rattle.rdp_draw.specs.Written.{act_writes, act_loads, some_act, LastAct}
use Rattle.rdp_draw.proofs.DrawLaws.{accepted-all, drawn-kept, drawn-acted, act-numbered, first_next}

-- ---- acts of which none is refused

-- 12 and 18 do not hold at an act that is not refused
module _ (start len : ℕ) (a : Act) (clear : act_refusal start len a ≡ 0) where
  inside-memory : is_outside start len a ≡ false
  unfolding act_refusals
  inside-memory = false_of _ (first-none (act_refusals start len a) 0 (act-numbered start len a) clear).1.1.1.0

  inside-texture : is_beyond a ≡ false
  unfolding act_refusals
  inside-texture = false_of _ (first-none (act_refusals start len a) 0 (act-numbered start len a) clear).1.1.1.1.0

module _ (start words : ℕ) where
  -- no act of some is refused
  abbrev Clear : ℕ → List Placed → Type 0
  Clear len acts = (first_refusal start len words acts).number ≡ 0

  clear_next : (len : ℕ) (p : Placed) (acts : List Placed) → Clear len (p ∷ acts) → (act_refusal start len p.act ≡ 0) × Clear len acts
  clear_next len p acts e = refused_none _ p.place _ (ap (λ (x : Answer). x.number) (sym (first_next start len words p acts)) ∙ e)

  clear-split : (len : ℕ) (before : List Placed) (p : Placed) (after : List Placed) → Clear len (before ++ p ∷ after) →
      (act_refusal start len p.act ≡ 0) × Clear len after
  clear-split len [] p after e = clear_next len p after e
  clear-split len (b ∷ before) p after e = clear-split len before p after (clear_next len b (before ++ p ∷ after) e).1

module _ (start : ℕ) where
  acted-join : (xs ys : List Placed) (m : Memories) → acted_all start (xs ++ ys) m ≡ acted_all start ys (acted_all start xs m)
  unfolding acted_all
  acted-join [] ys m = refl
  acted-join (p ∷ xs) ys m = acted-join xs ys (acted start p.act m)

  -- lengths stay
  acted-long : (a : Act) (m : Memories) → length (acted start a m).memory ≡ length m.memory
  acted-long nothing m = refl
  acted-long (other_draw i) m = refl
  acted-long other_load m = refl
  acted-long (filling f) m = length-overlay (covers f) (color_byte f.color) start m.memory
  acted-long (copying c) m = length-copied start m.texture (copy_moves c) m.memory
  acted-long (loading l) m = refl
  acted-long (blocking l) m = refl

  all-long : (acts : List Placed) (m : Memories) → length (acted_all start acts m).memory ≡ length m.memory
  unfolding acted_all
  all-long [] m = refl
  all-long (p ∷ acts) m = all-long acts (acted start p.act m) ∙ acted-long p.act m

  acted-size : (a : Act) (m : Memories) → length (acted start a m).texture ≡ length m.texture
  acted-size nothing m = refl
  acted-size (other_draw i) m = refl
  acted-size other_load m = refl
  acted-size (filling f) m = refl
  acted-size (copying c) m = refl
  acted-size (loading l) m = length-loaded start m.memory (load_moves l) m.texture
  acted-size (blocking l) m = length-loaded start m.memory (block_moves l) m.texture

  all-size : (acts : List Placed) (m : Memories) → length (acted_all start acts m).texture ≡ length m.texture
  unfolding acted_all
  all-size [] m = refl
  all-size (p ∷ acts) m = all-size acts (acted start p.act m) ∙ acted-size p.act m

  -- ---- a byte of memory

  -- where an act does not write it
  acted-free :
      (a : Act) (m : Memories) (i : ℕ) → i < length m.memory → act_refusal start (length m.memory) a ≡ 0 → act_writes (start + i) a ≡ false →
      get_or (acted start a m).memory i 0 ≡ get_or m.memory i 0
  acted-free nothing m i h c e = refl
  acted-free (other_draw x) m i h c e = refl
  acted-free other_load m i h c e = refl
  acted-free (filling f) m i h c e =
      get_d-overlay (covers f) (color_byte f.color) start m.memory i h ∙
      ap (λ (b : Bool). cond b (color_byte f.color (start + i)) (get_or m.memory i 0)) e
  acted-free (copying x) m i h c e =
      copied-free start m.texture (copy_moves x) m.memory (inside-memory start (length m.memory) (copying x) c) i e
  acted-free (loading l) m i h c e = refl
  acted-free (blocking l) m i h c e = refl

  all-free :
      (words : ℕ) (acts : List Placed) (m : Memories) (i : ℕ) → i < length m.memory → Clear start words (length m.memory) acts →
      some_act (act_writes (start + i)) acts ≡ false → get_or (acted_all start acts m).memory i 0 ≡ get_or m.memory i 0
  unfolding acted_all some_act
  all-free words [] m i h c e = refl
  all-free words (p ∷ acts) m i h c e =
      let k = neither (act_writes (start + i) p.act) (some_act (act_writes (start + i)) acts) e in
      let d = clear_next start words (length m.memory) p acts c in
      all-free words acts (acted start p.act m) i (rw (acted-long p.act m) h) (rw (acted-long p.act m) d.1) k.1 ∙
      acted-free p.act m i h d.0 k.0

  -- where an act writes it and none after
  all-last :
      (words : ℕ) (before : List Placed) (p : Placed) (after : List Placed) (m : Memories) (i : ℕ) → i < length m.memory →
      Clear start words (length m.memory) (before ++ p ∷ after) → some_act (act_writes (start + i)) after ≡ false →
      get_or (acted_all start (before ++ p ∷ after) m).memory i 0 ≡ get_or (acted start p.act (acted_all start before m)).memory i 0
  unfolding acted_all
  all-last words before p after m i h c g =
      let x : Memories = acted_all start before m in
      let y : Memories = acted start p.act x in
      let same : length y.memory ≡ length m.memory = acted-long p.act x ∙ all-long before m in
      ap (λ (z : Memories). get_or z.memory i 0) (acted-join before (p ∷ after) m) ∙
      all-free words after y i (rw same h) (rw same (clear-split start words (length m.memory) before p after c).1) g

  -- ---- a byte of texture memory

  loaded-none : (a : Act) (m : Memories) (b : ℕ) → act_loads b a ≡ false → get_or (acted start a m).texture b 0 ≡ get_or m.texture b 0
  loaded-none nothing m b e = refl
  loaded-none (other_draw x) m b e = refl
  loaded-none other_load m b e = refl
  loaded-none (filling f) m b e = refl
  loaded-none (copying c) m b e = refl
  loaded-none (loading l) m b e = loaded-free start m.memory (load_moves l) m.texture b e
  loaded-none (blocking l) m b e = loaded-free start m.memory (block_moves l) m.texture b e

  all-unloaded : (acts : List Placed) (m : Memories) (b : ℕ) → some_act (act_loads b) acts ≡ false →
      get_or (acted_all start acts m).texture b 0 ≡ get_or m.texture b 0
  unfolding acted_all some_act
  all-unloaded [] m b e = refl
  all-unloaded (p ∷ acts) m b e =
      let k = neither (act_loads b p.act) (some_act (act_loads b) acts) e in
      all-unloaded acts (acted start p.act m) b k.1 ∙ loaded-none p.act m b k.0

-- ---- the last act that does

-- among some acts that come at the end of a list
last-from :
    (test : Act → Bool) (list : List ℕ) (before acts : List Placed) → acts_of list ≡ before ++ acts → some_act test acts ≡ true →
    (x : Act) × LastAct test list x
unfolding some_act
last-from test list before [] e t = absurd (false≢true t)
last-from test list before (p ∷ acts) e t =
    by-test (some_act test acts) (λ y. last-from test list (before ++ p ∷ []) acts (e ∙ sym (append_assoc before (p ∷ []) acts)) y)
    (λ n.
    let here : test p.act ≡ true = sym (or-false (test p.act)) ∙ rw n at t in
    (p.act, record { before = before; place = p.place; after = acts; split = e; doing = rw here tt; staying = rw n tt }))

pub last-act : (test : Act → Bool) (list : List ℕ) → T (some_act test (acts_of list)) → (x : Act) × LastAct test list x
last-act test list t = last-from test list [] (acts_of list) refl (true_of _ t)

-- ---- the memories after drawing

module _ (list : List ℕ) (start : ℕ) (m : Memories) where
  abbrev number : ℕ
  number = (draw_answer list start (length m.memory) (length m.texture)).number

  -- a refusal leaves every byte of both as it was
  pub drawn-refused : (number ≡ 0 → ⊥) → drawn list start m ≡ m
  drawn-refused h = sym (drawn-kept list start m _ refl h)

  module _ (accepted : number ≡ 0) where
    all : drawn list start m ≡ acted_all start (acts_of list) m
    all = sym (drawn-acted list start m _ refl accepted)

    clear : Clear start (length list / 8) (length m.memory) (acts_of list)
    clear = (accepted-all list start m accepted).1

    pub drawn-length : length (drawn list start m).memory ≡ length m.memory
    drawn-length = ap (λ (x : Memories). length x.memory) all ∙ all-long start (acts_of list) m

    pub drawn-size : length (drawn list start m).texture ≡ length m.texture
    drawn-size = ap (λ (x : Memories). length x.texture) all ∙ all-size start (acts_of list) m

    -- the memories before an act of the list
    abbrev pub before : {test : Act → Bool} {x : Act} → LastAct test list x → Memories
    before l = acted_all start l.before m

    -- ---- byte i of memory
    module _ (i : ℕ) (h : i < length m.memory) where
      -- what was there, where no act writes it
      pub memory-free : T (not (some_act (act_writes (start + i)) (acts_of list))) → get_or (drawn list start m).memory i 0 ≡ get_or m.memory i 0
      memory-free t = ap (λ (x : Memories). get_or x.memory i 0) all ∙ all-free start (length list / 8) (acts_of list) m i h clear (false_of _ t)

      -- what the last act that writes it leaves there
      by_last :
          (x : Act) (l : LastAct (act_writes (start + i)) list x) →
          (act_refusal start (length m.memory) x ≡ 0) × (get_or (drawn list start m).memory i 0 ≡ get_or (acted start x (before l)).memory i 0)
      by_last x l =
          let p : Placed = record { place = l.place; act = x } in
          let parted : Clear start (length list / 8) (length m.memory) (l.before ++ p ∷ l.after) = rw l.split at clear in (
            (clear-split start (length list / 8) (length m.memory) l.before p l.after parted).0,
            ap (λ (z : Memories). get_or z.memory i 0) (all ∙ ap (λ (acts : List Placed). acted_all start acts m) l.split) ∙
                all-last start (length list / 8) l.before p l.after m i h parted (false_of _ l.staying),
          )

      -- the fill colour's byte
      pub memory-filled : (f : FillFields) → LastAct (act_writes (start + i)) list (filling f) → get_or (drawn list start m).memory i 0 ≡
          color_byte f.color (start + i)
      memory-filled f l =
          let long : i < length (before l).memory = rw (all-long start l.before m) h in
          (by_last (filling f) l).1 ∙
          get_d-overlay (covers f) (color_byte f.color) start (before l).memory i long ∙
          ap (λ (b : Bool). cond b (color_byte f.color (start + i)) (get_or (before l).memory i 0)) (true_of (covers f (start + i)) l.doing)

      -- the byte of the last pixel that has it, out of texture memory as it was then
      pub memory_copied :
          (c : CopyFields) (l : LastAct (act_writes (start + i)) list (copying c)) (t : Move) → LastMove (stands_at (start + i)) (copy_moves c) t →
          get_or (drawn list start m).memory i 0 ≡
          cond (eqb (start + i) t.address) (get_or (before l).texture (texture_byte t) 0) (get_or (before l).texture (texture_byte t + 1) 0)
      memory_copied c l t last =
          let p = by_last (copying c) l in
          let inside : some (outside_memory start (length (before l).memory)) (copy_moves c) ≡ false =
          rw (all-long start l.before m) (inside-memory start (length m.memory) (copying c) p.0) in
          p.1 ∙ copied-last start (before l).texture (copy_moves c) (before l).memory inside i t last

    -- ---- byte b of texture memory
    module _ (b : ℕ) where
      -- what was there, where no act loads it
      pub texture-free : T (not (some_act (act_loads b) (acts_of list))) → get_or (drawn list start m).texture b 0 ≡ get_or m.texture b 0
      texture-free t = ap (λ (x : Memories). get_or x.texture b 0) all ∙ all-unloaded start (acts_of list) m b (false_of _ t)

      -- the byte of the last texel that goes there, out of memory as drawn before, where an act loads some moves
      by-load :
          (x : Act) (ms : List Move) → ((z : Memories) → (acted start x z).texture ≡ loaded start z.memory ms z.texture) → is_beyond x ≡ some outside_texture ms →
          (l : LastAct (act_loads b) list x) (t : Move) → LastMove (goes_to b) ms t →
          get_or (drawn list start m).texture b 0 ≡
          cond (eqb b (texture_byte t)) (get_or (before l).memory (t.address - start) 0) (get_or (before l).memory (t.address - start + 1) 0)
      unfolding acted_all
      by-load x ms does tests l t last =
          let p : Placed = record { place = l.place; act = x } in
          let parted : Clear start (length list / 8) (length m.memory) (l.before ++ p ∷ l.after) = rw l.split at clear in
          let here = (clear-split start (length list / 8) (length m.memory) l.before p l.after parted).0 in
          let beyond = none-split outside_texture last.before t last.after last.split (sym tests ∙ inside-texture start (length m.memory) x here) in
          let size : length (before l).texture ≡ 4096 = all-size start l.before m ∙ (accepted-all list start m accepted).0 in
          ap (λ (z : Memories). get_or z.texture b 0) (all ∙ ap (λ (acts : List Placed). acted_all start acts m) l.split) ∙
          ap (λ (z : Memories). get_or z.texture b 0) (acted-join start l.before (p ∷ l.after) m) ∙
          all-unloaded start l.after (acted start x (before l)) b (false_of _ l.staying) ∙
          ap (λ (z : List ℕ). get_or z b 0) (does (before l)) ∙
          loaded-last start (before l).memory ms t (before l).texture b last (rw size (texture-inside t beyond.0))

      -- of a Load Tile, and of a Load Block
      pub texture-loaded :
          (x : LoadFields) (l : LastAct (act_loads b) list (loading x)) (t : Move) → LastMove (goes_to b) (load_moves x) t →
          get_or (drawn list start m).texture b 0 ≡
          cond (eqb b (texture_byte t)) (get_or (before l).memory (t.address - start) 0) (get_or (before l).memory (t.address - start + 1) 0)
      texture-loaded x = by-load (loading x) (load_moves x) (λ _. refl) refl

      pub texture-blocked :
          (x : LoadFields) (l : LastAct (act_loads b) list (blocking x)) (t : Move) → LastMove (goes_to b) (block_moves x) t →
          get_or (drawn list start m).texture b 0 ≡
          cond (eqb b (texture_byte t)) (get_or (before l).memory (t.address - start) 0) (get_or (before l).memory (t.address - start + 1) 0)
      texture-blocked x = by-load (blocking x) (block_moves x) (λ _. refl) refl

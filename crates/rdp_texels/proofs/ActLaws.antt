-- A load and a copy rectangle by their grids: refusals, and what is moved. Assumes nothing.
use mathlib.Core.Path.{◌≡◌, refl, sym, ◌∙◌}
use mathlib.Core.Bool.{Bool, true, false, cond, not, ◌&&◌}
use mathlib.Core.List.{List}
use Prim.Native.Nat.{ℕ, ◌+◌, ◌<◌, ◌≤◌}
use native.Mathlib.Omega.{arith}
use borrow.Author.Tests.{eq-eqb, ne_eqb, le-leb}
use lib.Dec.{eqb, leb}
use lib.ListN.{length}
use Rattle.rdp_pixels.proofs.BoolLaws.{and-true-of}
use Rattle.rdp_command.specs.declared.LoadFields.{LoadFields}
use Rattle.rdp_command.specs.declared.CopyFields.{CopyFields}
use Rattle.rdp_check.specs.Order.{first_of}
use Rattle.rdp_texels.specs.Texels.{Move, loaded, copied}
use Rattle.rdp_texels.specs.Load.{load_needs, load_moves}
use Rattle.rdp_texels.specs.Copy.{copy_needs, copy_moves}
use Rattle.rdp_texels.specs.Run.{part, run_fits, run_texture}
use Rattle.rdp_texels.specs.Refusals.{load_refusals, copy_refusals, load_refusal, copy_refusal, sized, load_texture, copy_memory}
use Rattle.rdp_texels.specs.Rows.{Grid, Span, keeps, moved, kept_moves, load_grid, load_span, copy_grid, copy_span, corners_refusal, EvenGrid}
use Rattle.rdp_texels.proofs.CornerLaws.{texel_refusal, Ends, corners-refusal}
use Rattle.rdp_texels.proofs.LinkLaws.{load_moves_lem, load-ends, load-even, copy_moves_lem, copy-ends, copy-even}

pub never : {X : Type 0} → (n : ℕ) → 0 < n → n ≡ 0 → X
never n h e = absurd (omega arith)

pub both-lie : (a b : Bool) → ◌≡◌ {A = ℕ} (cond a (cond b 0 18) 12) 0 → (a ≡ true) × (b ≡ true)
both-lie true true e = (refl, refl)
both-lie true false e = never 18 (omega arith) e
both-lie false b e = never 12 (omega arith) e

-- ---- moves that are those of a grid

module _ (g : Grid) (q : Span) (ms : List Move) (link : ms ≡ kept_moves (keeps q) g q q.top) (even : EvenGrid g) (ends : Ends (keeps q) q) (len : ℕ) where
  moves-refusal : {g' : Grid} {q' : Span} {r : ℕ} → g' ≡ g → q' ≡ q → r ≡ corners_refusal g' q' len → r ≡ texel_refusal g.start len ms
  moves-refusal e h is = is ∙ rw (e, h, link) (sym (corners-refusal (keeps q) g q even ends len))

  moves-clear : {g' : Grid} {q' : Span} → g' ≡ g → q' ≡ q → texel_refusal g.start len ms ≡ 0 → corners_refusal g' q' len ≡ 0
  moves-clear e h clear = rw (e, h) (sym (corners-refusal (keeps q) g q even ends len) ∙ rw link at clear)

-- the answers are the first that holds of the refusals in order
pub load-first : (l : LoadFields) (start len : ℕ) → load_refusal l start len ≡ first_of (load_refusals l start len) 0
unfolding load_refusal
load-first l start len = refl

pub copy-first : (c : CopyFields) (start len : ℕ) → copy_refusal c start len ≡ first_of (copy_refusals c start len) 0
unfolding copy_refusal
copy-first c start len = refl

-- 17, else the others
when-needs : (b : Bool) (x : ℕ) → cond (not b) 17 x ≡ 0 → x ≡ 0
when-needs true x e = e
when-needs false x e = never 17 (omega arith) e

pub load-broken : (l : LoadFields) (start len : ℕ) → load_needs l ≡ false → 17 ≡ load_refusal l start len
unfolding load_refusal
load-broken l start len e = rw e

module _ (l : LoadFields) (start len : ℕ) {g : Grid} {q : Span} (grid : g ≡ load_grid start l) (span : q ≡ load_span l) where
  pub load-refusal-is : {r : ℕ} → load_needs l ≡ true → r ≡ corners_refusal g q len → r ≡ load_refusal l start len
  unfolding load_refusal
  load-refusal-is needs is =
      rw needs
      (moves-refusal (load_grid start l) (load_span l) (load_moves l) (load_moves_lem start l) (load-even start l) (load-ends start l) len grid span is)

  pub load-clear : load_refusal l start len ≡ 0 → corners_refusal g q len ≡ 0
  unfolding load_refusal
  load-clear clear =
      moves-clear (load_grid start l) (load_span l) (load_moves l) (load_moves_lem start l) (load-even start l) (load-ends start l) len grid span
      (when-needs (load_needs l) (texel_refusal start len (load_moves l)) clear)

  pub load-are : (memory texture : List ℕ) → moved true g.start memory (kept_moves (keeps q) g q q.top) texture ≡ loaded start memory (load_moves l) texture
  load-are memory texture = rw (grid, span, load_moves_lem start l)

pub copy-broken : (c : CopyFields) (start len : ℕ) → copy_needs c ≡ false → 17 ≡ copy_refusal c start len
unfolding copy_refusal
copy-broken c start len e = rw e

module _ (c : CopyFields) (start len : ℕ) {g : Grid} {q : Span} (grid : g ≡ copy_grid start c) (span : q ≡ copy_span c) where
  pub copy-refusal-is : {r : ℕ} → copy_needs c ≡ true → r ≡ corners_refusal g q len → r ≡ copy_refusal c start len
  unfolding copy_refusal
  copy-refusal-is needs is =
      rw needs
      (moves-refusal (copy_grid start c) (copy_span c) (copy_moves c) (copy_moves_lem c start) (copy-even c start) (copy-ends c) len grid span is)

  pub copy-clear : copy_refusal c start len ≡ 0 → corners_refusal g q len ≡ 0
  unfolding copy_refusal
  copy-clear clear =
      moves-clear (copy_grid start c) (copy_span c) (copy_moves c) (copy_moves_lem c start) (copy-even c start) (copy-ends c) len grid span
      (when-needs (copy_needs c) (texel_refusal start len (copy_moves c)) clear)

  pub copy-are : (texture memory : List ℕ) → moved false g.start texture (kept_moves (keeps q) g q q.top) memory ≡ copied start texture (copy_moves c) memory
  copy-are texture memory = rw (grid, span, copy_moves_lem c start)

-- ---- 16, and what is left

module _ (size refusal : ℕ) (x y : List ℕ) where
  pub stays-unsized : (size ≡ 4096 → ⊥) → x ≡ cond (eqb (sized size refusal) 0) y x
  stays-unsized ne = rw (ne_eqb size 4096 ne)

  pub stays-refused : size ≡ 4096 → 0 < refusal → x ≡ cond (eqb (sized size refusal) 0) y x
  stays-refused e h = rw (eq-eqb size 4096 e, ne_eqb refusal 0 (λ z. omega arith))

  pub all-moved : size ≡ 4096 → refusal ≡ 0 → y ≡ cond (eqb (sized size refusal) 0) y x
  all-moved e z = rw (eq-eqb size 4096 e, z)

-- what is left where nothing is refused
module _ (start : ℕ) (memory texture : List ℕ) (size : length texture ≡ 4096) where
  pub load-leaves : (l : LoadFields) → load_refusal l start (length memory) ≡ 0 → load_texture l start memory texture ≡ loaded start memory (load_moves l) texture
  unfolding load_texture
  load-leaves l e = rw (eq-eqb (length texture) 4096 size, e)

  pub copy-leaves : (c : CopyFields) → copy_refusal c start (length memory) ≡ 0 → copy_memory c start texture memory ≡ copied start texture (copy_moves c) memory
  unfolding copy_memory
  copy-leaves c e = rw (eq-eqb (length texture) 4096 size, e)

-- ---- a run

module _ (s d n : ℕ) (odd : Bool) (memory texture : List ℕ) where
  pub run-loads : run_fits (length memory) s (length texture) d n ≡ true → part odd false s d 0 n memory texture ≡ run_texture s d n odd memory texture
  unfolding run_texture
  run-loads e = rw e

  pub run-stays : run_fits (length memory) s (length texture) d n ≡ false → texture ≡ run_texture s d n odd memory texture
  unfolding run_texture
  run-stays e = rw e

  -- a run that is there
  pub run-there : length texture ≡ 4096 → d + n ≤ 4096 → s + n ≤ length memory → run_texture s d n odd memory texture ≡ part odd false s d 0 n memory texture
  run-there size h k =
      sym (run-loads
      (and-true-of (eqb (length texture) 4096) (leb (s + n) (length memory) && leb (d + n) (length texture)) (eq-eqb (length texture) 4096 size)
      (and-true-of (leb (s + n) (length memory)) (leb (d + n) (length texture)) (le-leb (s + n) (length memory) k)
      (le-leb (d + n) (length texture) (omega arith)))))

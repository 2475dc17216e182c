-- The texels of a strip: those of a line are one run of bytes, and the loops over them. Assumes nothing.
use mathlib.Core.Path.{◌≡◌, refl, sym, ap, ◌∙◌, subst}
use mathlib.Core.Bool.{Bool, false}
use mathlib.Core.List.{List, [], ◌∷◌, ◌++◌}
use Prim.Native.Nat.{ℕ, ◌+◌, ◌-◌, ◌*◌, ◌/◌, ◌%◌, ◌≤◌, ◌<◌}
use native.Mathlib.Nat.{zero-add}
use native.Mathlib.Omega.{arith}
use lib.Dec.{eqb}
use lib.ListN.{length}
use Rattle.rdp_command.specs.declared.LoadFields.{LoadFields}
use Rattle.rdp_texels.specs.Texels.{Move, moves_over, loaded}
use Rattle.rdp_texels.specs.Run.{part, run_texture}
use Rattle.rdp_texels.specs.Rows.{Grid, grid_address, grid_ahead, grid_move, grid_odd}
use Rattle.rdp_texels.proofs.SpanLaws.{over-append, over-cong}
use Rattle.rdp_texels.proofs.LinkLaws.{same_move}
use Rattle.rdp_texels.proofs.ActLaws.{run-there}
use Rattle.rdp_texels.proofs.RowLaws.{loaded-append, loaded-row}
use Rattle.rdp_block.specs.Block.{block_move, block_moves}
use Rattle.rdp_block.specs.Strips.{Strip, strip_move, strip_moves, strip_of, Fits}

-- ---- a block is its strip

pub block-strip : (start : ℕ) (l : LoadFields) → block_moves l ≡ strip_moves (strip_of start l) 0 (strip_of start l).count
unfolding block_moves strip_moves
block-strip start l =
    over-cong (λ k. block_move l k ∷ []) (λ k. strip_move (strip_of start l) k ∷ []) 0 (strip_of start l).count
    (λ k _ _. ap (λ (m : Move). m ∷ []) (same_move (omega arith) refl refl refl))

-- ---- some texels, and those after them

pub strip-parts : (q : Strip) (k n m : ℕ) → strip_moves q k (n + m) ≡ strip_moves q k n ++ strip_moves q (k + n) m
unfolding strip_moves
strip-parts q k n m = over-append (λ i. strip_move q i ∷ []) k n m

pub strip-none : (q : Strip) (k n start : ℕ) (memory texture : List ℕ) → n ≡ 0 → texture ≡ loaded start memory (strip_moves q k n) texture
unfolding strip_moves moves_over loaded
strip-none q k n start memory texture e = rw e

-- ---- texels of one line

module _ (q : Strip) (memory texture : List ℕ) (fits : Fits q (length memory) (length texture)) where
  -- a row of a grid that has the same texels
  abbrev row : ℕ → Grid
  row line = record { address = q.address; pitch = 0; start = q.start; ahead = q.ahead; line = 0; behind = 0; turn = line }

  row-moves : (x m line : ℕ) → ((k : ℕ) → x ≤ k → k < x + m → k / 4 * q.dxt / 2048 ≡ line) → strip_moves q x m ≡ moves_over x m (λ i. grid_move (row line) 0 i ∷ [])
  unfolding strip_moves
  row-moves x m line same =
      over-cong (λ i. strip_move q i ∷ []) (λ i. grid_move (row line) 0 i ∷ []) x m
      (λ i l h.
      ap (λ (m : Move). m ∷ [])
      (same_move (omega arith) (omega arith) refl (ap (λ (n : ℕ). eqb (n % 2) 1) (same i l h ∙ sym (zero-add line)))))

  pub line-loaded : (x m line : ℕ) → x + m ≤ q.count → ((k : ℕ) → x ≤ k → k < x + m → k / 4 * q.dxt / 2048 ≡ line)
      → loaded q.start memory (strip_moves q x m) texture ≡ part (eqb (line % 2) 1) false (q.address - q.start + 2 * x) (q.ahead + 2 * x) 0 (2 * m) memory texture
  line-loaded x m line h same =
      let f = fits.from in
      let t = fits.texture in
      let w = fits.whole in
      let above : 0 ≤ grid_ahead (row line) 0 x = omega arith in
      let even : (grid_ahead (row line) 0 x - 0) % 2 ≡ 0 = omega arith in
      let in_memory : grid_address (row line) 0 x - q.start ≡ q.address - q.start + 2 * x = omega arith in
      let in-texture : grid_ahead (row line) 0 x - 0 ≡ q.ahead + 2 * x = omega arith in
      let odd : grid_odd (row line) 0 ≡ eqb (line % 2) 1 = ap (λ (n : ℕ). eqb (n % 2) 1) (zero-add line) in
      ap (λ (ms : List Move). loaded q.start memory ms texture) (row-moves x m line same)
      ∙ loaded-row q.start (row line) 0 x (omega arith) above even texture memory fits.size m (omega arith)
      ∙ (λ i. part (odd i) false (in_memory i) (in-texture i) 0 (2 * m) memory texture)

-- the texels of a word are of one line
pub word_line : (dxt j k : ℕ) → 4 * j ≤ k → k < 4 * j + 4 → k / 4 * dxt / 2048 ≡ j * dxt / 2048
word_line dxt j k l h = let same : k / 4 ≡ j = omega arith in ap (λ (n : ℕ). n * dxt / 2048) same

-- ---- in a loop: what is still to come of the texels from one up to another gives what was promised

pub record Due (q : Strip) (start first n : ℕ) (memory before after : List ℕ) (k : ℕ) : Type 0 where
  pub to : k ≤ n
  pub long : length after ≡ length before
  pub is : loaded start memory (strip_moves q k (n - k)) after ≡ loaded start memory (strip_moves q first (n - first)) before

pub due-first : {q : Strip} {start first n : ℕ} {memory before : List ℕ} → first ≤ n → Due q start first n memory before before first
due-first h = record { to = h; long = refl; is = refl }

pub due-next : {q : Strip} {start first n : ℕ} {memory before after : List ℕ} {k : ℕ} → Due q start first n memory before after k → (m : ℕ) → k + m ≤ n
    → {then : List ℕ} → length then ≡ length after → then ≡ loaded start memory (strip_moves q k m) after → Due q start first n memory before then (k + m)
due-next {q} {start} {first} {n} {memory} {before} {after} {k} d m h long e =
    let count : n - k ≡ m + (n - (k + m)) = omega arith in
    record {
      to = h;
      long = long ∙ d.long;
      is =
          ap (loaded start memory (strip_moves q (k + m) (n - (k + m)))) e
          ∙ sym (loaded-append start memory (strip_moves q k m) (strip_moves q (k + m) (n - (k + m))) after)
          ∙ ap (λ (ms : List Move). loaded start memory ms after) (sym (ap (strip_moves q k) count ∙ strip-parts q k m (n - (k + m))))
          ∙ d.is;
    }

pub due-done : {q : Strip} {start first n : ℕ} {memory before after : List ℕ} {k : ℕ} → Due q start first n memory before after k → n ≤ k
    → after ≡ loaded start memory (strip_moves q first (n - first)) before
due-done {q} {start} {first} {n} {memory} {after = after} {k} d h = strip-none q k (n - k) start memory after (omega arith) ∙ d.is

-- the texels up to one, then those from it on
pub two-parts : (q : Strip) (start : ℕ) (memory texture : List ℕ) (r : ℕ) → r ≤ q.count → {one two : List ℕ} → one ≡ loaded start memory (strip_moves q 0 r) texture
    → two ≡ loaded start memory (strip_moves q r (q.count - r)) one → two ≡ loaded start memory (strip_moves q 0 q.count) texture
two-parts q start memory texture r h first second =
    let at : 0 + r ≡ r = omega arith in
    let all : r + (q.count - r) ≡ q.count = omega arith in
    second
    ∙ ap (loaded start memory (strip_moves q r (q.count - r))) first
    ∙ sym (loaded-append start memory (strip_moves q 0 r) (strip_moves q r (q.count - r)) texture)
    ∙ ap (λ (ms : List Move). loaded start memory ms texture)
    (sym (ap (strip_moves q 0) (sym all) ∙ strip-parts q 0 r (q.count - r) ∙ ap (λ (k : ℕ). strip_moves q 0 r ++ strip_moves q k (q.count - r)) at))

-- ---- what the functions move

module _ (q : Strip) (memory texture : List ℕ) (fits : Fits q (length memory) (length texture)) where
  -- a run of texels of one line
  pub run-loaded : (x m line : ℕ) → x + m ≤ q.count → ((k : ℕ) → x ≤ k → k < x + m → k / 4 * q.dxt / 2048 ≡ line)
      → {s d n : ℕ} {odd : Bool} {after : List ℕ} → s ≡ q.address - q.start + 2 * x → d ≡ q.ahead + 2 * x → n ≡ 2 * m → odd ≡ eqb (line % 2) 1
      → after ≡ run_texture s d n odd memory texture → after ≡ loaded q.start memory (strip_moves q x m) texture
  run-loaded x m line h same {s} {d} {n} {odd} is-s is-d is-n is_odd e =
      let f = fits.from in
      let to = fits.memory in
      let t = fits.texture in
      e
      ∙ run-there s d n odd memory texture fits.size (omega (arith, is-d, is-n)) (omega (arith, is-s, is-n))
      ∙ (λ i. part (is_odd i) false (is-s i) (is-d i) 0 (is-n i) memory texture)
      ∙ sym (line-loaded q memory texture fits x m line h same)

  -- a word
  pub word-loaded : (j : ℕ) → 4 * j + 4 ≤ q.count → {s d : ℕ} {turned : Bool} {after : List ℕ} → s ≡ q.address - q.start + 8 * j → d ≡ q.ahead + 8 * j
      → turned ≡ eqb (j * q.dxt / 2048 % 2) 1 → after ≡ part turned false s d 0 8 memory texture
      → after ≡ loaded q.start memory (strip_moves q (4 * j) 4) texture
  word-loaded j h is-s is-d odd e =
      let in_memory : q.address - q.start + 8 * j ≡ q.address - q.start + 2 * (4 * j) = omega arith in
      let in-texture : q.ahead + 8 * j ≡ q.ahead + 2 * (4 * j) = omega arith in
      e
      ∙ (λ i. part (odd i) false ((is-s ∙ in_memory) i) ((is-d ∙ in-texture) i) 0 8 memory texture)
      ∙ sym (line-loaded q memory texture fits (4 * j) 4 (j * q.dxt / 2048) h (λ k l u. word_line q.dxt j k l u))

-- a word more, and a line more
module _ {q : Strip} {start first n : ℕ} {memory before after : List ℕ} where
  pub due-word : (j : ℕ) → Due q start first (4 * n) memory before after (4 * j) → j < n → {then : List ℕ} → length then ≡ length after
      → then ≡ loaded start memory (strip_moves q (4 * j) 4) after → Due q start first (4 * n) memory before then (4 * (j + 1))
  due-word j d h {then} long e =
      let on : 4 * j + 4 ≡ 4 * (j + 1) = omega arith in
      subst (λ (k : ℕ). Due q start first (4 * n) memory before then k) on (due-next d 4 (omega arith) long e)

  pub due-line : (k end : ℕ) → Due q start first n memory before after k → k ≤ end → end ≤ n → {then : List ℕ} → length then ≡ length after
      → then ≡ loaded start memory (strip_moves q k (end - k)) after → Due q start first n memory before then end
  due-line k end d l h {then} long e =
      let on : k + (end - k) ≡ end = omega arith in
      subst (λ (x : ℕ). Due q start first n memory before then x) on (due-next d (end - k) (omega arith) long e)

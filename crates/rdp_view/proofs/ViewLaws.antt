-- The viewer's refusals, and its answers. Assumes nothing.
use Rattle.std.proofs.Common.{◌≡◌, ap, ◌∙◌, true, false, ◌||◌, List, ℕ, ◌*◌, ◌-◌, ◌<◌, ◌≤◌, mul-le-mul, arith, lt-ltb, le-ltb, ltb-false, ne_eqb, eqb, ltb, lit≤, length, take, drop}
use Rattle.std.proofs.lemmas.List.{take_rest}
use Rattle.rdp_words.specs.Words.{overwrite}
use Rattle.rdp_words.proofs.Tests.{by-test, neither}
use Rattle.rdp_words.specs.Grounds.{Answer}
use Rattle.rdp_command.specs.Decode.{answer}
use Rattle.rdp_view.specs.View.{pixel_bytes, pixels, unfit, unviewable, image_outside, Framebuffer, pixel_count, view_grounds, view_answer, view_out}

-- ---- 27

-- a width or height that is not refused is at most 1,024
fit-most : (side : ℕ) → unfit side ≡ false → side ≤ 1024
fit-most side f = ltb-false 1024 side (neither (eqb side 0) (ltb 1024 side) f).1

pub sides-fit : (width height size : ℕ) → unviewable width height size ≡ false → (width ≤ 1024) × (height ≤ 1024)
sides-fit width height size f =
    let sides = (neither (unfit width || unfit height) (eqb size 0 || ltb 3 size) f).0 in
    let both = neither (unfit width) (unfit height) sides in
    (fit-most width both.0, fit-most height both.1)

pub area-most : (width height : ℕ) → width ≤ 1024 → height ≤ 1024 → width * height ≤ 0x100000
area-most width height w h = mul-le-mul w h

-- ---- 12

-- the same image's bytes
pub same-outside : (start len : ℕ) {a a' n n' s s' : ℕ} → a ≡ a' → n ≡ n' → s ≡ s'
    → image_outside start len a (n * pixel_bytes s) ≡ image_outside start len a' (n' * pixel_bytes s')
same-outside start len ea en es = λ i. image_outside start len (ea i) (en i * pixel_bytes (es i))

-- the same pixels, out of memory from an index on
pub same-pixels : (memory out : List ℕ) (start : ℕ) {a a' n n' s s' from : ℕ} → a ≡ a' → n ≡ n' → s ≡ s' → from ≡ a - start
    → overwrite (pixels s n (take (length memory - from) (drop from memory))) out ≡ overwrite (pixels s' n' (drop (a' - start) memory)) out
same-pixels memory out start {from = from} ea en es place =
    let there : from ≡ _ - start = place ∙ ap (λ (x : ℕ). x - start) ea in
    λ i. overwrite (pixels (es i) (en i) ((take_rest memory from ∙ ap (λ (x : ℕ). drop x memory) there) i)) out

-- ---- the answers

module _ (memory : List ℕ) (start : ℕ) (i : Framebuffer) (out : List ℕ) where
  abbrev len : ℕ
  len = length memory

  abbrev room : ℕ
  room = length out

  abbrev needed : ℕ
  needed = 4 * pixel_count i

  abbrev bytes : ℕ
  bytes = pixel_count i * pixel_bytes i.size

  pub record Replies (r : Answer) (out' : List ℕ) : Type 0 where
    pub answers : r ≡ view_answer start len i room
    pub leaves : out' ≡ view_out memory start i out

  refuses : (r : Answer) → r ≡ view_answer start len i room → (r.number ≡ 0 → ⊥) → Replies r out
  unfolding view_out
  refuses r e z = record { answers = e; leaves = rw (ne_eqb _ _ (λ y. z (ap (λ (a : Answer). a.number) e ∙ y))) }

  pub refused-27 : unviewable i.width i.height i.size ≡ true → Replies (answer 27 0) out
  unfolding view_grounds
  refused-27 t = refuses _ (rw t) (λ z. omega arith)

  module _ (fit : unviewable i.width i.height i.size ≡ false) where
    pub refused-12 : image_outside start len i.address bytes ≡ true → Replies (answer 12 0) out
    unfolding view_grounds
    refused-12 t = refuses _ (rw (fit, t)) (λ z. omega arith)

    module _ (inside : image_outside start len i.address bytes ≡ false) where
      pub refused-14 : room < needed → Replies (answer 14 needed) out
      unfolding view_grounds
      refused-14 h = refuses _ (rw (fit, inside, lt-ltb _ _ h)) (λ z. omega arith)

      pub viewed : needed ≤ room → (out' : List ℕ) → out' ≡ overwrite (pixels i.size (pixel_count i) (drop (i.address - start) memory)) out →
          Replies (answer 0 needed) out'
      unfolding view_grounds view_out
      viewed h out' is = record { answers = rw (fit, inside, le-ltb _ _ h); leaves = rw (fit, inside, le-ltb _ _ h) is }

-- ---- how large the parts of an answer are

pub record Bounds (r : Answer) : Type 0 where
  pub number : r.number ≤ 27
  pub place : r.place ≤ 0x400000

pub view-bounds : (start len : ℕ) (i : Framebuffer) (out : ℕ) → Bounds (view_answer start len i out)
unfolding view_grounds
view-bounds start len i out =
    by-test (unviewable i.width i.height i.size) (λ t. rw t (record { number = lit≤ tt; place = lit≤ tt }))
    (λ f.
    let sides = sides-fit i.width i.height i.size f in
    let most : 4 * pixel_count i ≤ 0x400000 = omega (arith, area-most i.width i.height sides.0 sides.1) in
    by-test (image_outside start len i.address (pixel_count i * pixel_bytes i.size)) (λ t. rw (f, t) (record { number = lit≤ tt; place = lit≤ tt }))
    (λ g.
    by-test (ltb out (4 * pixel_count i)) (λ t. rw (f, g, t) (record { number = lit≤ tt; place = most }))
    (λ h. rw (f, g, h) (record { number = lit≤ tt; place = most }))))

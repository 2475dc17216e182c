-- Patterns of bytes that hold a colour, and what is written with them. Assumes nothing.
use Rattle.std.proofs.Common.{◌≡◌, refl, ap, ◌∙◌, ℕ, zero, suc, ◌+◌, ◌-◌, ◌*◌, ◌/◌, ◌%◌, ◌^◌, ◌≤◌, ◌<◌, List, [], ◌∷◌, ◌++◌, length, get_or, take, drop, arith}
use Rattle.std.proofs.Math.ListN.{get_or-append, length-drop}
use Rattle.std.proofs.Math.Seq.{length-take-le}
use Rattle.std.proofs.lemmas.List.{take_rest, get_or-take, get_or-drop, get_or-append_right}
use Rattle.std.proofs.Math.Numerals.{add-one}
use Rattle.std.proofs.Math.Nat.{div-one, suc-mul, mul_comm, mul_assoc, mul-le-mul_right, div-mul-le_self, lt-div-mul-add}
use Rattle.rdp_pixels.proofs.OverlayLaws.{split}
use Rattle.rdp_fill.specs.Fill.{color_byte}
use Rattle.rdp_fill.specs.Pattern.{Holds, Follows}

-- only the index mod 4 matters
pub color-same : (color a b : ℕ) → a % 4 ≡ b % 4 → color_byte color a ≡ color_byte color b
unfolding color_byte
color-same color a b e = ap (λ (k : ℕ). color / 2 ^ (24 - 8 * k) % 256) e

-- ---- parts of a list

-- the length of a part
pub part-size : (a e : ℕ) (m : List ℕ) → e ≤ length m → length (take (e - a) (drop a m)) ≡ e - a
part-size a e m h = length-take-le (e - a) (drop a m) (omega (arith, length-drop a m))

-- ---- the colour's bytes

-- the four of them
pub four-hold : (color : ℕ) {bytes : List ℕ} → bytes ≡ color / 16777216 % 256 ∷ color / 65536 % 256 ∷ color / 256 % 256 ∷ color % 256 ∷ []
    → Holds color 0 bytes 4
unfolding color_byte
four-hold color is = rw is (record { byte = at })
  where
    at : (k : ℕ) → k < 4 → get_or (color / 16777216 % 256 ∷ color / 65536 % 256 ∷ color / 256 % 256 ∷ color % 256 ∷ []) k 0 ≡ color_byte color (0 + k)
    at zero l = refl
    at (suc zero) l = refl
    at (suc (suc zero)) l = refl
    at (suc (suc (suc zero))) l = rw div-one
    at (suc (suc (suc (suc k)))) l = absurd (omega arith)

pub holds-less : {color at n : ℕ} {bytes : List ℕ} (m : ℕ) → Holds color at bytes n → m ≤ n → Holds color at bytes m
holds-less m h l = record { byte = λ k i. h.byte k (omega arith) }

-- the pattern from its byte q on
pub holds-tail : {color at : ℕ} (pattern : List ℕ) (q : ℕ) → Holds color at pattern (length pattern)
    → Holds color (at + q) (take (length pattern - q) (drop q pattern)) (length (take (length pattern - q) (drop q pattern)))
holds-tail {color} {at} pattern q h =
    rw take_rest
    (record {
      byte =
          λ k i.
          rw get_or-drop
          (h.byte (q + k) (omega (arith, length-drop q pattern))
          ∙ color-same color (at + (q + k)) (at + q + k) (ap (λ (x : ℕ). x % 4) (omega arith)));
    })

-- ---- what is written

-- of no bytes, and of fewer
pub follows-none : {pattern bytes : List ℕ} → Follows pattern bytes 0
follows-none = record { holds = λ color at h. record { byte = λ k i. omega arith } }

pub follows-less : {pattern bytes : List ℕ} {n : ℕ} (m : ℕ) → Follows pattern bytes n → m ≤ n → Follows pattern bytes m
follows-less m w l = record { holds = λ color at h. record { byte = λ k i. (w.holds color at h).byte k (omega arith) } }

-- src, written at index a, is the part of the pattern from its byte q on that is due there
module _ (pattern : List ℕ) (a q n end : ℕ) (run src rest : List ℕ) {m : ℕ} where
  pub follows-end : Follows pattern run a → src ≡ take m (drop q pattern) → m ≡ n → q + n ≤ length pattern → q % 4 ≡ a % 4 → a + n ≡ end
      → a ≤ length run → Follows pattern (take a run ++ (src ++ rest)) end
  follows-end before is size holds due to fits =
      let front : length (take a run) ≡ a = length-take-le a run fits in
      let long : length src ≡ n = rw (is, size) (length-take-le n (drop q pattern) (omega (arith, length-drop q pattern))) in
      record {
        holds =
            λ color at h.
            record {
              byte =
                  λ k i.
                  split a k
                  (λ later.
                  get_or-append_right (take a run) (src ++ rest) a k 0 front later
                  ∙ get_or-append src rest 0 (k - a) (omega arith)
                  ∙ ap (λ (l : List ℕ). get_or l (k - a) 0) is
                  ∙ get_or-take m (drop q pattern) (k - a) 0 (omega arith)
                  ∙ get_or-drop q pattern (k - a) 0
                  ∙ h.byte (q + (k - a)) (omega arith)
                  ∙ color-same color (at + (q + (k - a))) (at + k) (omega arith))
                  (λ earlier.
                  get_or-append (take a run) (src ++ rest) 0 k (omega arith)
                  ∙ get_or-take a run k 0 earlier
                  ∙ (before.holds color at h).byte k earlier);
            };
      }

-- ---- blocks of n bytes

module _ (n len : ℕ) (some : 0 < n) where
  -- block k of those that there is room for
  pub block-fits : (k : ℕ) → k < len / n → n * k + n ≤ len
  block-fits k h =
      let whole = div-mul-le_self len n in
      let up = mul-le-mul_right n h in
      let next = suc-mul k n in
      omega (arith, mul_comm n k)

  -- past the last of them there is room for none
  pub blocks-near : len < n * (len / n) + n
  blocks-near = omega (arith, lt-div-mul-add {a = len} some, mul_comm n (len / n))

pub block-phase : (n k : ℕ) → n % 4 ≡ 0 → n * k % 4 ≡ 0
block-phase n k e =
    let fours : n ≡ 4 * (n / 4) = omega arith in
    rw (fours, mul_assoc) (omega arith)

-- one block more
pub block-written : (pattern : List ℕ) (n k : ℕ) (run src rest : List ℕ) {m : ℕ} → Follows pattern run (n * k) → src ≡ take m pattern → m ≡ n
    → n % 4 ≡ 0 → n ≤ length pattern → n * k ≤ length run → Follows pattern (take (n * k) run ++ (src ++ rest)) (n * (k + 1))
block-written pattern n k run src rest before is size four holds fits =
    let next : n * k + n ≡ n * (k + 1) = omega (arith, mul_comm n (k + 1), mul_comm n k, suc-mul k n, add-one k) in
    follows-end pattern (n * k) 0 n (n * (k + 1)) run src rest before is size (omega arith) (omega (arith, block-phase n k four)) next fits

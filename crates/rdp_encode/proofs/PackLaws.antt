-- Numbers at their bit lines. Assumes nothing.
use Rattle.std.proofs.Common.{◌≡◌, ℕ, ◌+◌, ◌*◌, ◌%◌, ◌^◌, ◌<◌, Bool, cond, ◌&&◌, eqb, List, [], ◌∷◌, map, length, refl, ap, ◌∙◌, arith, one-mul, mod-eq_of_lt, mod-lt, pow_pos, shl_exact}
use Rattle.std.proofs.Math.Nat.{suc_inj}
use Rattle.std.proofs.Math.Pow.{pow-lt}
use Rattle.std.specs.List.{zip, list_all, sum_by}
use Rattle.std.proofs.lemmas.List.Sums.{sum_by-cons}
use Rattle.rdp_command.specs.Layout.{Line, width}
use Rattle.rdp_encode.specs.Table.{Readable, line_of}
use Rattle.rdp_encode.specs.Placed.{fits_line, at_line, at_lines}
use Rattle.rdp_encode.specs.Numbers.{value_from, each_fits}
use Rattle.rdp_encode.specs.declared.table.BitLine.{BitLine}

-- a power of two as the code shifts it
pub power : (k : ℕ) → k < 64 → 1 * 2 ^ k % 2 ^ 64 ≡ 2 ^ k
power k h = ap (λ (x : ℕ). x % 2 ^ 64) (one-mul (2 ^ k)) ∙ mod-eq_of_lt (pow-lt h)

pub placed_at : (l : Line) → Readable l → (n : ℕ) {w : ℕ} → w ≡ width l → n % (1 * 2 ^ w % 2 ^ 64) * 2 ^ l.low % 2 ^ 64 ≡ at_line l n
placed_at l r n {w} e =
    ap (λ (x : ℕ). n % x * 2 ^ l.low % 2 ^ 64) (power w (omega (arith, r.narrow))) ∙
    shl_exact w l.low 64 (mod-lt n (pow_pos w)) (omega (arith, r.ordered, r.inside)) ∙
    ap (λ (x : ℕ). n % 2 ^ x * 2 ^ l.low) e

-- ---- bit lines and their numbers, pair by pair

abbrev pub fits_pair : BitLine × ℕ → Bool
fits_pair p = fits_line (line_of p.0) (value_from p.0.is_signed p.1)

pub each-fits : (ls : List BitLine) (ns : List ℕ) → length ns ≡ length ls → list_all fits_pair (zip ls ns) ≡ each_fits (map line_of ls) ns
each-fits [] [] e = refl
each-fits [] (n ∷ ns) e = absurd (omega arith)
each-fits (l ∷ ls) [] e = absurd (omega arith)
each-fits (l ∷ ls) (n ∷ ns) e = ap (λ (b : Bool). fits_pair (l, n) && b) (each-fits ls ns (suc_inj e))

abbrev pub placed_pair : ℕ → BitLine × ℕ → ℕ
placed_pair word p = cond (eqb p.0.word word) (at_line (line_of p.0) p.1) 0

pub all-placed : (word : ℕ) (ls : List BitLine) (ns : List ℕ) → sum_by (placed_pair word) (zip ls ns) ≡ at_lines word (map line_of ls) ns
all-placed word [] ns = refl
all-placed word (l ∷ ls) [] = refl
all-placed word (l ∷ ls) (n ∷ ns) =
    sum_by-cons (placed_pair word) (l, n) (zip ls ns) ∙ ap (λ (x : ℕ). placed_pair word (l, n) + x) (all-placed word ls ns)

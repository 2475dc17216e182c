-- A word that is put together from numbers at falling bit lines holds at each line the low bits of its number. Assumes nothing.
use Rattle.std.proofs.Common.{ℕ, zero, suc, ◌+◌, ◌-◌, ◌*◌, ◌/◌, ◌%◌, ◌^◌, ◌≤◌, ◌<◌, Bool, true, false, cond, ◌&&◌, List, [], ◌∷◌, ◌≡◌, ap, sym, ◌∙◌, zero-add, add_assoc, add-mul, mul_assoc, suc-mul, mod-lt, le_trans, le_of_eq, lt_of_lt_of_le, mul-le-mul_right, not-suc-le-zero, le_of_suc-le-suc, arith, eq-eqb, T, eqb, leb, leb→le, length, get_or, pow_pos, pow-add, pow_mono}
use Rattle.std.proofs.Math.Nat.{mod-mod, mul-add-mod_self_right, suc_inj}
use Rattle.std.proofs.Math.Pow.{high}
use Rattle.rdp_command.specs.Layout.{Line, width}
use Rattle.rdp_command.specs.Fields.{bits_at}
use Rattle.rdp_encode.specs.Placed.{at_line, at_lines}
use Rattle.rdp_words.proofs.Tests.{both}
use Rattle.rdp_command.proofs.NumberLaws.{bits_are}

-- the lines of word i fall from a bit on: each ends where the one before it begins, or lower
abbrev pub falling : ℕ → ℕ → List Line → Bool
falling i top [] = true
falling i top (l ∷ ls) = cond (eqb l.word i) (leb (width l + l.low) top && falling i l.low ls) (falling i top ls)

-- a number at its place, with lower bits after it
joined : (q w k r top : ℕ) → q < 2 ^ w → r < 2 ^ k → w + k ≤ top → q * 2 ^ k + r < 2 ^ top
joined q w k r top hq hr ht =
    let s : q * 2 ^ k + r < suc q * 2 ^ k = rw suc-mul (omega arith) in
    lt_of_lt_of_le s (le_trans (mul-le-mul_right (2 ^ k) hq) (le_trans (le_of_eq (sym (pow-add 2 w k))) (pow_mono ht)))

pub packed_lt : (i top : ℕ) (ls : List Line) (ns : List ℕ) → T (falling i top ls) → at_lines i ls ns < 2 ^ top
packed_lt i top [] ns t = pow_pos top
packed_lt i top (l ∷ ls) [] t = pow_pos top
packed_lt i top (l ∷ ls) (n ∷ ns) t = by (λ k u. packed_lt i k ls ns u) (eqb l.word i) t
  where
    by :
        ((k : ℕ) → T (falling i k ls) → at_lines i ls ns < 2 ^ k) → (b : Bool) → T (cond b (leb (width l + l.low) top && falling i l.low ls) (falling i top ls)) → cond b (at_line l n) 0 + at_lines i ls ns < 2 ^ top
    by rest true u =
        let f = both (leb (width l + l.low) top) (falling i l.low ls) u in
        joined (n % 2 ^ width l) (width l) l.low (at_lines i ls ns) top (mod-lt n (pow_pos (width l))) (rest l.low f.1) (leb→le _ _ f.0)
    by rest false u = rw zero-add (rest top u)

-- the bits above a place, and a number there
raise : (h top low q r : ℕ) → low ≤ top → h * 2 ^ top + (q * 2 ^ low + r) ≡ (h * 2 ^ (top - low) + q) * 2 ^ low + r
raise h top low q r s =
    let e : top ≡ top - low + low = omega arith in
    ap (λ (x : ℕ). h * 2 ^ x + (q * 2 ^ low + r)) e ∙
    ap (λ (x : ℕ). h * x + (q * 2 ^ low + r)) (pow-add 2 (top - low) low) ∙
    sym (add_assoc (h * (2 ^ (top - low) * 2 ^ low)) (q * 2 ^ low) r) ∙
    ap (λ (x : ℕ). x + q * 2 ^ low + r) (sym (mul_assoc h (2 ^ (top - low)) (2 ^ low))) ∙
    ap (λ (x : ℕ). x + r) (sym (add-mul (h * 2 ^ (top - low)) q (2 ^ low)))

-- the low bits of what stands at a place, below what is above it
masked : (h d w q : ℕ) → w ≤ d → (h * 2 ^ d + q) % 2 ^ w ≡ q % 2 ^ w
masked h d w q s =
    let e : d ≡ d - w + w = omega arith in
    ap (λ (x : ℕ). (h * 2 ^ x + q) % 2 ^ w) e ∙
    ap (λ (x : ℕ). (h * x + q) % 2 ^ w) (pow-add 2 (d - w) w) ∙
    ap (λ (x : ℕ). (x + q) % 2 ^ w) (sym (mul_assoc h (2 ^ (d - w)) (2 ^ w))) ∙
    mul-add-mod_self_right (h * 2 ^ (d - w)) (2 ^ w) q

own_bits : (h top : ℕ) (l : Line) (n r : ℕ) → width l + l.low ≤ top → r < 2 ^ l.low → bits_at l (h * 2 ^ top + (at_line l n + r)) ≡ n % 2 ^ width l
own_bits h top l n r s t =
    let low : l.low ≤ top = omega arith in
    let room : width l ≤ top - l.low = omega arith in
    bits_are l (h * 2 ^ top + (at_line l n + r)) ∙
    ap (λ (x : ℕ). x / 2 ^ l.low % 2 ^ width l) (raise h top l.low (n % 2 ^ width l) r low) ∙
    ap (λ (x : ℕ). x % 2 ^ width l) (high (h * 2 ^ (top - l.low) + n % 2 ^ width l) l.low t) ∙
    masked h (top - l.low) (width l) (n % 2 ^ width l) room ∙
    mod-mod n (2 ^ width l)

pub read_at :
    (d : Line) (i top h : ℕ) (ls : List Line) (ns : List ℕ) → T (falling i top ls) → length ls ≡ length ns → (k : ℕ) → k < length ls → (get_or ls k d).word ≡ i →
    bits_at (get_or ls k d) (h * 2 ^ top + at_lines i ls ns) ≡ get_or ns k 0 % 2 ^ width (get_or ls k d)
read_at d i top h [] ns t e k s w = absurd (not-suc-le-zero s)
read_at d i top h (l ∷ ls) [] t e k s w = absurd (omega arith)
read_at d i top h (l ∷ ls) (n ∷ ns) t e zero s w =
    let u = rw (eq-eqb l.word i w) at t in
    let f = both (leb (width l + l.low) top) (falling i l.low ls) u in
    rw (eq-eqb l.word i w) (own_bits h top l n (at_lines i ls ns) (leb→le _ _ f.0) (packed_lt i l.low ls ns f.1))
read_at d i top h (l ∷ ls) (n ∷ ns) t e (suc k) s w =
    by (λ top' h' u. read_at d i top' h' ls ns u (suc_inj e) k (le_of_suc-le-suc s) w) (eqb l.word i) t
  where
    by :
        ((top' h' : ℕ) → T (falling i top' ls) → bits_at (get_or ls k d) (h' * 2 ^ top' + at_lines i ls ns) ≡ get_or ns k 0 % 2 ^ width (get_or ls k d)) →
        (b : Bool) → T (cond b (leb (width l + l.low) top && falling i l.low ls) (falling i top ls)) →
        bits_at (get_or ls k d) (h * 2 ^ top + (cond b (at_line l n) 0 + at_lines i ls ns)) ≡ get_or ns k 0 % 2 ^ width (get_or ls k d)
    by rest true u =
        let f = both (leb (width l + l.low) top) (falling i l.low ls) u in
        let r : width l + l.low ≤ top = leb→le _ _ f.0 in
        ap (bits_at (get_or ls k d)) (raise h top l.low (n % 2 ^ width l) (at_lines i ls ns) (omega arith)) ∙
        rest l.low (h * 2 ^ (top - l.low) + n % 2 ^ width l) f.1
    by rest false u =
        ap (λ (x : ℕ). bits_at (get_or ls k d) (h * 2 ^ top + x)) (zero-add (at_lines i ls ns)) ∙
        rest top h u

-- Lists that are filled element by element, and the numbers noted in the work buffer. Assumes nothing.
use Rattle.std.proofs.Common.{◌≡◌, refl, sym, ap, ap₂, ◌∙◌, subst, List, [], ◌∷◌, ◌++◌, ℕ, zero, suc, ◌+◌, ◌*◌, ◌<◌, ◌≤◌, lt_of_not-le, le_of_suc-le-suc, not-suc-le-zero, arith, add-one, length, get_or, set, get_or-set_same, get_or-set_other, ext_get_or}
use Rattle.std.proofs.Math.Decide.{dec_le}
use Rattle.rdp_repair.specs.Work.{tabulate, noted_in}

pub length-tabulate : (n : ℕ) (f : ℕ → ℕ) → length (tabulate n f) ≡ n
unfolding tabulate
length-tabulate zero f = refl
length-tabulate (suc n) f = ap suc (length-tabulate n (λ k. f (suc k)))

pub get_d_tabulate : (n : ℕ) (f : ℕ → ℕ) (k : ℕ) → k < n → get_or (tabulate n f) k 0 ≡ f k
unfolding tabulate
get_d_tabulate zero f k h = absurd (not-suc-le-zero h)
get_d_tabulate (suc n) f zero h = refl
get_d_tabulate (suc n) f (suc k) h = get_d_tabulate n (λ j. f (suc j)) k (le_of_suc-le-suc h)

pub tabulate-most : (n : ℕ) (f : ℕ → ℕ) (b : ℕ) → ((k : ℕ) → f k ≤ b) → (k : ℕ) → get_or (tabulate n f) k 0 ≤ b
unfolding tabulate
tabulate-most zero f b h k = omega arith
tabulate-most (suc n) f b h zero = h 0
tabulate-most (suc n) f b h (suc k) = tabulate-most n (λ j. f (suc j)) b (λ j. h (suc j)) k

-- the list holds f at each index below n
abbrev pub Holds : List ℕ → (ℕ → ℕ) → ℕ → Type 0
Holds xs f n = (k : ℕ) → k < n → get_or xs k 0 ≡ f k

pub holds_more : (xs : List ℕ) (f : ℕ → ℕ) (n v : ℕ) → n < length xs → Holds xs f n → v ≡ f n → Holds (set xs n v) f (n + 1)
holds_more xs f n v l h e k s =
    elim (dec_le n k) [
      | yes g ↦ let same : k ≡ n = omega arith in
          subst (λ (j : ℕ). get_or (set xs n v) j 0 ≡ f j) (sym same) (get_or-set_same xs n v 0 l ∙ e)
      | no g ↦ let lt : k < n = lt_of_not-le g in
          get_or-set_other xs n k v 0 (omega arith) ∙ h k lt
    ]

pub holds-all : (xs : List ℕ) (f : ℕ → ℕ) (n : ℕ) → length xs ≡ n → Holds xs f n → xs ≡ tabulate n f
holds-all xs f n l h =
    ext_get_or 0 xs (tabulate n f) (l ∙ sym (length-tabulate n f))
    (λ k s. let t : k < n = omega arith in h k t ∙ sym (get_d_tabulate n f k t))

pub tabulate-same : (n : ℕ) (f g : ℕ → ℕ) → ((k : ℕ) → k < n → f k ≡ g k) → tabulate n f ≡ tabulate n g
tabulate-same n f g h =
    holds-all (tabulate n f) g n (length-tabulate n f) (λ k s. get_d_tabulate n f k s ∙ h k s)

pub tabulate-last : (n : ℕ) (f : ℕ → ℕ) → tabulate (suc n) f ≡ tabulate n f ++ (f n ∷ [])
unfolding tabulate
tabulate-last zero f = refl
tabulate-last (suc n) f = ap (λ (l : List ℕ). f 0 ∷ l) (tabulate-last n (λ k. f (suc k)))

-- ---- the noted numbers

pub length-noted : (work : List ℕ) (n : ℕ) → length (noted_in work n) ≡ n
unfolding noted_in
length-noted work n = length-tabulate n (λ i. get_or work (16 * i) 0)

pub number-noted : (work : List ℕ) (n i : ℕ) → i < n → get_or (noted_in work n) i 0 ≡ get_or work (16 * i) 0
unfolding noted_in
number-noted work n i h = get_d_tabulate n (λ i. get_or work (16 * i) 0) i h

pub noted_more : (work : List ℕ) (i v : ℕ) → 16 * i < length work → noted_in (set work (16 * i) v) (i + 1) ≡ noted_in work i ++ (v ∷ [])
unfolding noted_in
noted_more work i v h =
    ap (λ (n : ℕ). noted_in (set work (16 * i) v) n) (add-one i)
    ∙ tabulate-last i (λ k. get_or (set work (16 * i) v) (16 * k) 0)
    ∙ ap₂ (λ (l : List ℕ) (x : ℕ). l ++ (x ∷ []))
    (tabulate-same i (λ k. get_or (set work (16 * i) v) (16 * k) 0) (λ k. get_or work (16 * k) 0) (λ k s. get_or-set_other work (16 * i) (16 * k) v 0 (omega arith)))
    (get_or-set_same work (16 * i) v 0 h)

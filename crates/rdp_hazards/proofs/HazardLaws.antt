-- Laws of the synchronisation rule and of its table. Assumes nothing.
use mathlib.Core.Path.{◌≡◌, refl, ap, ap₂, ◌∙◌}
use mathlib.Core.Bool.{Bool, true, false, cond, not}
use mathlib.Core.List.{List}
use Prim.Native.Nat.{ℕ, ◌+◌, ◌*◌, ◌/◌, ◌%◌, ◌≤◌, ◌<◌}
use native.Mathlib.Nat.{mod-lt, add-zero}
use native.Mathlib.Omega.{arith}
use borrow.Author.Tests.{le-leb, lt-leb, eqb-true}
use lib.Dec.{T, eqb, leb, eqb→eq, leb→le, lit<}
use lib.Bits.{bit_and, bit_or}
use lib.ListN.{length, get_or}
use Rattle.rdp_words.specs.Kinds.{kind_of}
use Rattle.rdp_words.proofs.Tests.{each, below}
use Rattle.rdp_hazards.specs.Hazards.{Hazards, hazards_of, code_of, hazards_after, required_by, next_of, required_of, entry_of, Agrees, entry_at, next_by}
use Rattle.rdp_hazards.proofs.TableTests.{every, at}

-- ---- the rule reads four bits of the hazards

low1 : (m : ℕ) → m % 16 / 1 % 2 ≡ m / 1 % 2
low1 m = omega arith

low2 : (m : ℕ) → m % 16 / 2 % 2 ≡ m / 2 % 2
low2 m = omega arith

low4 : (m : ℕ) → m % 16 / 4 % 2 ≡ m / 4 % 2
low4 m = omega arith

low8 : (m : ℕ) → m % 16 / 8 % 2 ≡ m / 8 % 2
low8 m = omega arith

low_bits : (m : ℕ) → hazards_of (m % 16) ≡ hazards_of m
low_bits m = rw (low1 m, low2 m, low4 m, low8 m)

pub next_low : (m n : ℕ) → next_of (m % 16) n ≡ next_of m n
unfolding next_of
next_low m n = ap (λ (h : Hazards). code_of (hazards_after (kind_of n) n h)) (low_bits m)

pub required-low : (m n : ℕ) → required_of (m % 16) n ≡ required_of m n
unfolding required_of
required-low m n = ap (required_by (kind_of n)) (low_bits m)

pub entry-low : (m n : ℕ) → entry_of (m % 16) n ≡ entry_of m n
unfolding entry_of
entry-low m n = λ i. next_low m n i + cond (eqb (required-low m n i) 0) 0 16 + 32 * required-low m n i

-- ---- bounds

at_most : (k : ℕ) (b : Bool) → cond b k 0 ≤ k
at_most k true = omega arith
at_most k false = omega arith

pub next_small : (m n : ℕ) → next_of m n < 16
unfolding next_of
next_small m n =
    let h = hazards_after (kind_of n) n (hazards_of m) in
    omega (arith, at_most 1 h.pipe, at_most 2 h.tile, at_most 4 h.drawn, at_most 8 h.loaded)

-- what holds at each hazard state below sixteen and each number holds at every one
abbrev pub all_states : (ℕ → ℕ → Bool) → Bool
all_states f = each (λ m. each (f m) 64) 16

pub at-state : (f : ℕ → ℕ → Bool) → T (all_states f) → (m n : ℕ) → m < 16 → n < 64 → T (f m n)
at-state f t m n hm hn = below 64 (f m) (below 16 (λ j. each (f j) 64) t m hm) n hn

pub required-most : (m n : ℕ) → n < 64 → required_of m n ≤ 3
unfolding required_of kind_of
required-most m n h =
    rw (← required-low m n) (leb→le _ _ (at-state (λ j k. leb (required_of j k) 3) tt (m % 16) n (mod-lt m (lit< tt)) h))

-- the hazards after a command are those before it that the entry at all hazards keeps, with those that the entry at none is
pub next-kept : (m n : ℕ) → m < 16 → n < 64 → bit_or (bit_and m (entry_of 15 n)) (entry_of 0 n) ≡ next_of m n
unfolding entry_of next_of required_of kind_of
next-kept m n hm hn = eqb→eq _ _ (at-state (λ j k. eqb (bit_or (bit_and j (entry_of 15 k)) (entry_of 0 k)) (next_of j k)) tt m n hm hn)

-- ---- the parts of an entry

pub record EntryParts (m n e : ℕ) : Type 0 where
  pub next : e % 16 ≡ next_of m n
  pub required : e / 32 ≡ required_of m n
  pub missing : leb 16 e ≡ not (eqb (required_of m n) 0)

parts-by : (x r : ℕ) (t : Bool) → eqb r 0 ≡ t → x < 16 → r ≤ 3 → ((x + cond t 0 16 + 32 * r) % 16 ≡ x) × (((x + cond t 0 16 + 32 * r) / 32 ≡ r) × (leb 16 (x + cond t 0 16 + 32 * r) ≡ not t))
parts-by x r true e hx hr =
    let z : r ≡ 0 = eqb-true r 0 e in
    let h : x + 0 + 32 * r < 16 = omega arith in
    (omega arith, (omega arith, lt-leb _ _ h))
parts-by x r false e hx hr =
    let h : 16 ≤ x + 16 + 32 * r = omega arith in
    (omega arith, (omega arith, le-leb _ _ h))

pub entry-parts : (m n e : ℕ) → n < 64 → e ≡ entry_of m n → EntryParts m n e
unfolding entry_of
entry-parts m n e h q =
    let p = parts-by (next_of m n) (required_of m n) (eqb (required_of m n) 0) refl (next_small m n) (required-most m n h) in
    rw q (record { next = p.0; required = p.1.0; missing = p.1.1 })

-- ---- the table

-- the entry of the rule at a place of the table
abbrev pub placed : ℕ → ℕ
placed k = entry_of (k % 16) (k / 16)

abbrev pub stepped : ℕ → ℕ → Bool
stepped k x = eqb x (placed k)

place : (m n : ℕ) → m < 16 → placed (n * 16 + m) ≡ entry_of m n
place m n h =
    let em : (n * 16 + m) % 16 ≡ m = omega arith in
    let en : (n * 16 + m) / 16 ≡ n = omega arith in
    ap₂ entry_of em en

pub agrees : (xs : List ℕ) → length xs ≡ 1024 → T (every stepped 0 xs) → Agrees xs
agrees xs len t m n hm hn = eqb→eq _ _ (at stepped xs t (n * 16 + m) (omega arith)) ∙ place m n hm

-- what is read of a table that agrees with the rule
pub entry-any : (table : List ℕ) → Agrees table → (m n : ℕ) → entry_at table m n ≡ entry_of m (n % 64)
unfolding entry_at
entry-any table agree m n = agree (m % 16) (n % 64) (mod-lt m (lit< tt)) (mod-lt n (lit< tt)) ∙ entry-low m (n % 64)

pub entry_read : (table : List ℕ) → Agrees table → (m n : ℕ) → n < 64 → entry_at table m n ≡ entry_of m n
entry_read table agree m n h =
    let small : n % 64 ≡ n = omega arith in
    entry-any table agree m n ∙ ap (entry_of m) small

pub next-read : (table : List ℕ) → Agrees table → (m n : ℕ) → m < 16 → n < 64 → next_by table m n ≡ next_of m n
unfolding next_by
next-read table agree m n hm hn =
    let small : n % 64 ≡ n = omega arith in
    let none : get_or table (n * 16) 0 ≡ entry_of 0 n = rw (add-zero (n * 16)) at (agree 0 n (lit< tt) hn) in
    ap (λ (k : ℕ). bit_or (bit_and m (get_or table (k * 16 + 15) 0)) (get_or table (k * 16) 0)) small ∙
    ap₂ (λ (a b : ℕ). bit_or (bit_and m a) b) (agree 15 n (lit< tt) hn) none ∙
    next-kept m n hm hn

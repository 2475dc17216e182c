-- The least rank is the rank of the choice: ranks compare as the totals do, and by the option where they are equal. Assumes nothing.
use Rattle.std.proofs.Common.{◌≡◌, sym, ap, ◌∙◌, cond, List, ℕ, suc, ◌+◌, ◌*◌, ◌/◌, ◌%◌, min, ◌<◌, ◌≤◌, arith, eqb, leb, get_or, eq-eqb, eqb-true, leb-true, leb-false}
use Rattle.rdp_words.proofs.Tests.{by-test}
use Rattle.rdp_hazards.specs.Hazards.{next_of, required_of, entry_of}
use Rattle.rdp_repair.specs.Plan.{wait_of}
use Rattle.rdp_repair.specs.Best.{Choice, cleared_by, total_with, choice_of, prefer, chosen}
use Rattle.rdp_repair.specs.Work.{tabulate, packed_choice, bare_rank, option_rank, synced_rank}
use Rattle.rdp_hazards.proofs.HazardLaws.{next_small, entry-parts}
use Rattle.rdp_repair.proofs.SyncLaws.{required-idle, cleared-load, cleared-tile, cleared-pipe, wait-most}
use Rattle.rdp_repair.proofs.TabulateLaws.{get_d_tabulate}

-- ---- a command with nothing before it, by its entry of the table

module _ (m n e : ℕ) (small : n < 64) (is-e : e ≡ entry_of m n) (f : ℕ → ℕ) where
  missing-bit : e / 16 % 2 * 0x1000000 ≡ cond (eqb (required_of m n) 0) 0 0x1000000
  unfolding entry_of
  missing-bit =
      by-test (eqb (required_of m n) 0)
      (λ t. rw t (omega (arith, rw t at is-e, eqb-true (required_of m n) 0 t, next_small m n)))
      (λ t. rw t (omega (arith, rw t at is-e, next_small m n)))

  pub bare-is : 64 * f (e % 16) + e % 16 + e / 16 % 2 * 0x1000000 ≡ bare_rank n f m
  unfolding bare_rank
  bare-is =
      let next = (entry-parts m n e small is-e).next in
      λ i. 64 * f (next i) + next i + missing-bit i

-- ---- ranks compare as choices do

unfoldable pub rank_of : Choice → ℕ
rank_of ch = 64 * ch.total + packed_choice ch

module _ (n : ℕ) (f : ℕ → ℕ) (most : (k : ℕ) → f k ≤ 102400) (m : ℕ) where
  -- an option from k on, with its total and next hazards
  record Ranked (k : ℕ) (ch : Choice) : Type 0 where
    from : k ≤ ch.option
    within : ch.option ≤ 3
    next : ch.next < 16
    total : ch.total ≤ 102450

  choice-ranked : (a : ℕ) → a ≤ 3 → Ranked a (choice_of n f m a)
  unfolding choice_of total_with
  choice-ranked a h =
      record {
        from = omega arith;
        within = h;
        next = next_small (cleared_by a m) n;
        total = omega (arith, most (next_of (cleared_by a m) n), wait-most a);
      }

  ranked-later : (a : ℕ) (ch : Choice) → Ranked (suc a) ch → Ranked a ch
  ranked-later a ch r = record { from = omega (arith, r.from); within = r.within; next = r.next; total = r.total }

  module _ (a : ℕ) (other : Choice) (r : Ranked (suc a) other) where
    few : a ≤ 3
    few = omega (arith, r.from, r.within)

    prefer-ranked : Ranked a (prefer n f m a other)
    unfolding prefer
    prefer-ranked =
        by-test (eqb (required_of (cleared_by a m) n) 0)
        (λ t.
        by-test (leb (total_with n f m a) other.total) (λ u. rw (t, u) (choice-ranked a few)) (λ g. rw (t, g) (ranked-later a other r)))
        (λ g. rw g (ranked-later a other r))

    rank-prefer :
        (x y : ℕ) → x ≡ bare_rank n f (cleared_by a m) + option_rank a → y ≡ rank_of other → min x y ≡ rank_of (prefer n f m a other)
    unfolding prefer bare_rank rank_of packed_choice choice_of total_with
    rank-prefer x y is_x is_y =
        by-test (eqb (required_of (cleared_by a m) n) 0)
        (λ t.
        by-test (leb (total_with n f m a) other.total)
        (λ u.
        rw (t, u)
        (omega (arith, rw t at is_x, leb-true (total_with n f m a) other.total u, next_small (cleared_by a m) n, r.from)))
        (λ g.
        rw (t, g)
        (omega (arith, rw t at is_x, leb-false (total_with n f m a) other.total g, r.within, r.next))))
        (λ g. rw g (omega (arith, rw g at is_x, r.within, r.next, r.total)))

  rank-pipe : bare_rank n f 0 + option_rank 3 ≡ rank_of (choice_of n f m 3)
  unfolding bare_rank rank_of packed_choice choice_of total_with
  rank-pipe = rw (cleared-pipe 0 m, eq-eqb _ _ (required-idle n)) (omega arith)

  least-is : min (bare_rank n f m) (synced_rank (bare_rank n f) (m % 4)) ≡ rank_of (chosen n f m)
  unfolding synced_rank chosen cleared_by wait_of
  least-is =
      let low : m % 4 % 2 ≡ m % 2 = omega arith in
      let g : ℕ → ℕ = bare_rank n f in
      let r3 = choice-ranked 3 (omega arith) in
      let r2 = prefer-ranked 2 (choice_of n f m 3) r3 in
      let r1 = prefer-ranked 1 (prefer n f m 2 (choice_of n f m 3)) r2 in
      rw low
      (rank-prefer 0 _ r1 (g m) _ (omega arith)
      (rank-prefer 1 _ r2 (g (m % 4) + option_rank 1) _ (ap (λ (k : ℕ). g k + option_rank 1) (sym (cleared-load m))) (rank-prefer 2 _ r3 (g (m % 2) + option_rank 2) _ (ap (λ (k : ℕ). g k + option_rank 2) (sym (cleared-tile m))) rank-pipe)))

  chosen-ranked : Ranked 0 (chosen n f m)
  unfolding chosen
  chosen-ranked = prefer-ranked 0 _ (prefer-ranked 1 _ (prefer-ranked 2 _ (choice-ranked 3 (omega arith))))

  -- the total and the choice, out of the rank
  pub total_of : rank_of (chosen n f m) / 64 ≡ (chosen n f m).total
  unfolding rank_of packed_choice
  total_of = omega (arith, chosen-ranked.within, chosen-ranked.next)

  pub choice-of : rank_of (chosen n f m) % 64 ≡ packed_choice (chosen n f m)
  unfolding rank_of packed_choice
  choice-of = omega (arith, chosen-ranked.within, chosen-ranked.next)

  pub bare-most : (k : ℕ) → bare_rank n f k ≤ 0x2000000
  unfolding bare_rank
  bare-most k =
      by-test (eqb (required_of k n) 0) (λ t. rw t (omega (arith, most (next_of k n), next_small k n)))
      (λ g. rw g (omega (arith, most (next_of k n), next_small k n)))

  -- ranks held in lists
  pub least-held :
      (ranks synced : List ℕ) → ranks ≡ tabulate 16 (bare_rank n f) → synced ≡ tabulate 4 (synced_rank (λ k. get_or ranks k 0)) → m < 16 →
      min (get_or ranks m 0) (get_or synced (m % 4) 0) ≡ rank_of (chosen n f m)
  unfolding synced_rank
  least-held ranks synced e s h =
      let g : ℕ → ℕ = bare_rank n f in
      let at : (k : ℕ) → k < 16 → get_or ranks k 0 ≡ g k =
      λ k small. ap (λ (l : List ℕ). get_or l k 0) e ∙ get_d_tabulate 16 g k small in
      let after : get_or synced (m % 4) 0 ≡ synced_rank (λ k. get_or ranks k 0) (m % 4) =
      ap (λ (l : List ℕ). get_or l (m % 4) 0) s ∙ get_d_tabulate 4 (synced_rank (λ k. get_or ranks k 0)) (m % 4) (omega arith) in
      rw (after, at m h, at (m % 4) (omega arith), at (m % 4 % 2) (omega arith), at 0 (omega arith)) least-is

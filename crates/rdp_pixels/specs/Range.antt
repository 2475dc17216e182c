-- A test of numbers that follow each other, as the rows of a rectangle, its columns and the bytes of a pixel do.
use Rattle.std.specs.Prelude.{ℕ, zero, suc, ◌-◌, Bool, false, ◌||◌}

-- one of the n numbers from k on passes the test
unfoldable pub one_of : ℕ → ℕ → (ℕ → Bool) → Bool
one_of k zero test = false
one_of k (suc n) test = test k || one_of (suc k) n test

-- one from the first to the last, both included, passes the test; none where the last is below the first
abbrev pub one_through : ℕ → ℕ → (ℕ → Bool) → Bool
one_through first last test = one_of first (suc last - first) test

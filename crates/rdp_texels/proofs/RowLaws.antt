-- The moves of a row, folded in order, are one part of a row. Assumes nothing.
use mathlib.Core.Path.{◌≡◌, refl, ap, ◌∙◌}
use mathlib.Core.Bool.{Bool, true, false}
use mathlib.Core.List.{List, [], ◌∷◌, ◌++◌}
use Prim.Native.Nat.{ℕ, zero, suc, ◌+◌, ◌-◌, ◌*◌, ◌%◌, ◌≤◌, ◌<◌}
use native.Mathlib.Nat.{add-zero}
use native.Mathlib.Omega.{arith}
use lib.ListN.{length, get_or, set}
use Rattle.rdp_texels.specs.Texels.{Move, in_row, moves_over, load_one, loaded, copy_one, copied}
use Rattle.rdp_texels.specs.Run.{part}
use Rattle.rdp_texels.specs.Rows.{Grid, moved, grid_address, grid_ahead, grid_odd, grid_move}
use Rattle.rdp_texels.proofs.TurnLaws.{row_next, row_below}
use Rattle.rdp_texels.proofs.PartLaws.{part_none, part-more}

pub loaded-append : (start : ℕ) (memory : List ℕ) (xs ys : List Move) (texture : List ℕ)
    → loaded start memory (xs ++ ys) texture ≡ loaded start memory ys (loaded start memory xs texture)
unfolding loaded
loaded-append start memory [] ys texture = refl
loaded-append start memory (x ∷ xs) ys texture = loaded-append start memory xs ys (load_one start memory texture x)

pub copied-append : (start : ℕ) (texture : List ℕ) (xs ys : List Move) (memory : List ℕ)
    → copied start texture (xs ++ ys) memory ≡ copied start texture ys (copied start texture xs memory)
unfolding copied
copied-append start texture [] ys memory = refl
copied-append start texture (x ∷ xs) ys memory = copied-append start texture xs ys (copy_one start texture memory x)

pub moved-append : (into : Bool) (start : ℕ) (from : List ℕ) (xs ys : List Move) (to : List ℕ)
    → moved into start from (xs ++ ys) to ≡ moved into start from ys (moved into start from xs to)
moved-append true = loaded-append
moved-append false = copied-append

pub moved-none : (into : Bool) (start : ℕ) (from to : List ℕ) → to ≡ moved into start from [] to
unfolding loaded copied
moved-none true start from to = refl
moved-none false start from to = refl

-- two bytes more
module _ (turn_to turn_from : Bool) (s d : ℕ) (from to : List ℕ) where
  two-more : (j : ℕ) → in_row turn_to (d + (2 * j + 1)) ≡ in_row turn_to (d + 2 * j) + 1 → in_row turn_from (s + (2 * j + 1)) ≡ in_row turn_from (s + 2 * j) + 1
      → in_row turn_to (d + 2 * j) + 1 < length to
      → set (set (part turn_to turn_from s d 0 (2 * j) from to) (in_row turn_to (d + 2 * j)) (get_or from (in_row turn_from (s + 2 * j)) 0))
      (in_row turn_to (d + 2 * j) + 1) (get_or from (in_row turn_from (s + 2 * j) + 1) 0)
      ≡ part turn_to turn_from s d 0 (2 * suc j) from to
  two-more j next-to next-from inside =
      let count : 2 * suc j ≡ 2 * j + 1 + 1 = omega arith in
      rw (← next-to, ← next-from, count) (
      ap (λ (l : List ℕ). set l (in_row turn_to (d + (2 * j + 1))) (get_or from (in_row turn_from (s + (2 * j + 1))) 0))
      (part-more turn_to turn_from s d from to 0 (2 * j) (omega arith) (omega arith))
      ∙ part-more turn_to turn_from s d from to 0 (2 * j + 1) (omega arith) (rw next-to inside))

-- row y of a grid from column x on
module _ (start : ℕ) (g : Grid) (y x : ℕ) where
  -- the first byte in memory and in texture memory, and the ones after it
  abbrev in_memory : ℕ
  in_memory = grid_address g y x - start

  abbrev in_texture : ℕ
  in_texture = grid_ahead g y x - g.behind

  module _ (after : start ≤ grid_address g y x) (above : g.behind ≤ grid_ahead g y x) (even : in_texture % 2 ≡ 0) where
    memory-at : (j : ℕ) → grid_address g y (x + j) - start ≡ in_memory + 2 * j
    memory-at j = omega arith

    texture-at : (j : ℕ) → grid_ahead g y (x + j) - g.behind ≡ in_texture + 2 * j
    texture-at j = omega arith

    texture-next : (j : ℕ) → in_row (grid_odd g y) (in_texture + (2 * j + 1)) ≡ in_row (grid_odd g y) (in_texture + 2 * j) + 1
    texture-next j =
        let e : in_texture + (2 * j + 1) ≡ in_texture + 2 * j + 1 = omega arith in
        rw e (row_next (grid_odd g y) (in_texture + 2 * j) (omega arith))

    -- a copy, and a load
    module _ (texture memory : List ℕ) where
      copy_step : (j : ℕ) → in_memory + 2 * suc j ≤ length memory
          → copy_one start texture (part false (grid_odd g y) in_texture in_memory 0 (2 * j) texture memory) (grid_move g y (x + j))
          ≡ part false (grid_odd g y) in_texture in_memory 0 (2 * suc j) texture memory
      copy_step j fits =
          rw (memory-at j, texture-at j)
          (two-more false (grid_odd g y) in_texture in_memory texture memory j (omega arith) (texture-next j) (omega arith))

      copied-from : (m j : ℕ) → in_memory + 2 * (j + m) ≤ length memory
          → copied start texture (moves_over (x + j) m (λ x. grid_move g y x ∷ [])) (part false (grid_odd g y) in_texture in_memory 0 (2 * j) texture memory)
          ≡ part false (grid_odd g y) in_texture in_memory 0 (2 * (j + m)) texture memory
      unfolding copied moves_over
      copied-from zero j fits = rw add-zero
      copied-from (suc m) j fits =
          let count : suc j + m ≡ j + suc m = omega arith in
          let on : x + suc j ≡ suc (x + j) = omega arith in
          ap (copied start texture (moves_over (suc (x + j)) m (λ x. grid_move g y x ∷ []))) (copy_step j (omega arith))
          ∙ rw (count, on) at (copied-from m (suc j) (omega arith))

      pub copied-row : (m : ℕ) → in_memory + 2 * m ≤ length memory
          → copied start texture (moves_over x m (λ x. grid_move g y x ∷ [])) memory
          ≡ part false (grid_odd g y) in_texture in_memory 0 (2 * m) texture memory
      copied-row m fits =
          let e : 0 + m ≡ m = omega arith in
          ap (copied start texture (moves_over x m (λ x. grid_move g y x ∷ [])))
          (part_none false (grid_odd g y) in_texture in_memory texture memory 0 0 (omega arith))
          ∙ rw (add-zero, e) at (copied-from m 0 (omega arith))

      module _ (whole : length texture ≡ 4096) where
        load_step : (j : ℕ) → in_texture + 2 * suc j ≤ 4096
            → load_one start memory (part (grid_odd g y) false in_memory in_texture 0 (2 * j) memory texture) (grid_move g y (x + j))
            ≡ part (grid_odd g y) false in_memory in_texture 0 (2 * suc j) memory texture
        load_step j fits =
            let below = row_below (grid_odd g y) (in_texture + (2 * j + 1)) 512 (omega arith) in
            let next = texture-next j in
            rw (memory-at j, texture-at j)
            (two-more (grid_odd g y) false in_memory in_texture memory texture j next (omega arith) (omega arith))

        loaded-from : (m j : ℕ) → in_texture + 2 * (j + m) ≤ 4096
            → loaded start memory (moves_over (x + j) m (λ x. grid_move g y x ∷ [])) (part (grid_odd g y) false in_memory in_texture 0 (2 * j) memory texture)
            ≡ part (grid_odd g y) false in_memory in_texture 0 (2 * (j + m)) memory texture
        unfolding loaded moves_over
        loaded-from zero j fits = rw add-zero
        loaded-from (suc m) j fits =
            let count : suc j + m ≡ j + suc m = omega arith in
            let on : x + suc j ≡ suc (x + j) = omega arith in
            ap (loaded start memory (moves_over (suc (x + j)) m (λ x. grid_move g y x ∷ []))) (load_step j (omega arith))
            ∙ rw (count, on) at (loaded-from m (suc j) (omega arith))

        pub loaded-row : (m : ℕ) → in_texture + 2 * m ≤ 4096
            → loaded start memory (moves_over x m (λ x. grid_move g y x ∷ [])) texture
            ≡ part (grid_odd g y) false in_memory in_texture 0 (2 * m) memory texture
        loaded-row m fits =
            let e : 0 + m ≡ m = omega arith in
            ap (loaded start memory (moves_over x m (λ x. grid_move g y x ∷ [])))
            (part_none (grid_odd g y) false in_memory in_texture memory texture 0 0 (omega arith))
            ∙ rw (add-zero, e) at (loaded-from m 0 (omega arith))

-- How far a walk goes and how large the parts of its answer are. Promises: `read-most`, at most 4,096 commands are read; `words-few`, at most one word is
-- written for each; `answer-bounds`, which numbers, places and counts are answered. Assumes nothing.
use Rattle.std.proofs.Common.{ℕ, zero, suc, ◌+◌, ◌/◌, ◌^◌, ◌≤◌, ◌<◌, Bool, true, false, cond, not, List, [], ◌∷◌, ◌≡◌, refl, le_trans, arith, eqb-true, eqb, leb, length}
use Rattle.std.proofs.lemmas.Bool.{not-false}
use Rattle.std.proofs.lemmas.Bool.Decides.{nat_tests}
use Rattle.rdp_words.specs.Words.{word_at}
use Rattle.rdp_words.proofs.Tests.{neither}
use Rattle.f3dex2.specs.Commands.{first_byte, low_half, Role, straight, rectangle, modes, list, end, unnamed, role_of, setting_after, setting_first, parameter, top_byte, far, calls, invalid}
use Rattle.f3dex2.specs.Walk.{Walked, stopped, written, resumed, offset_refusal, runs_role, runs, judged, walk}
use Rattle.f3dex2.specs.Translate.{walked, translated_of, translate_answer}
use Rattle.f3dex2.specs.declared.Due.{Due}
use Rattle.f3dex2.specs.declared.Due.TheVariants.{Command, FirstHalf, SecondHalf}
use Rattle.f3dex2.specs.declared.Setting.{Setting}
use Rattle.f3dex2.specs.Translate.{Translated}
use Rattle.f3dex2.proofs.RefusalLaws.{Sane, read-there, sane-there, refusal-most}

-- no number of a list is above m
abbrev pub AllMost : ℕ → List ℕ → Type 0
AllMost m [] = Unit {0}
AllMost m (x ∷ xs) = (x ≤ m) × AllMost m xs

-- a walk whose offsets are at most m, that reads at most `left` commands, and writes a word for each, and `more` words
pub record Bounded (m left more : ℕ) (r : Walked) : Type 0 where
  pub number : r.number ≤ 23
  pub place : r.place ≤ m
  pub read : length r.commands ≤ left
  pub words : length r.words ≤ more + length r.commands

-- an address that is not far has 24 bits
near : (w : ℕ) → far w ≡ false → low_half w < 2 ^ 24
near w f =
    let z : top_byte w ≡ 0 = eqb-true (top_byte w) 0 (not-false _ f) in
    omega (arith, z)

module _ (m left : ℕ) (wide : 2 ^ 24 ≤ m) (go : List ℕ → ℕ → Setting → Walked)
    (ih : (returns : List ℕ) (at : ℕ) (s : Setting) → AllMost m returns → at ≤ m → Bounded m left 0 (go returns at s)) where
  loose : {r : Walked} → Bounded m left 0 r → Bounded m left 1 r
  loose b = record { number = b.number; place = b.place; read = b.read; words = omega (arith, b.words) }

  more : {r : Walked} (x : ℕ) → Bounded m left 0 r → Bounded m left 1 (written x r)
  more x b = record { number = b.number; place = b.place; read = b.read; words = omega (arith, b.words) }

  resumes : (returns : List ℕ) (s : Setting) → AllMost m returns → Bounded m left 0 (resumed go returns s)
  resumes [] s h = record { number = omega arith; place = omega arith; read = omega arith; words = omega arith }
  resumes (at ∷ returns) s h = ih returns at s h.1 h.0

  module _ (returns : List ℕ) (all : AllMost m returns) (at : ℕ) (fits : at + 8 ≤ m) (s : Setting) (w : ℕ) where
    listed : (b : Bool) → low_half w < 2 ^ 24 → Bounded m left 1 (cond b (go ((at + 8) ∷ returns) (low_half w) s) (go returns (low_half w) s))
    listed true h = loose (ih ((at + 8) ∷ returns) (low_half w) s (fits, all) (omega arith))
    listed false h = loose (ih returns (low_half w) s all (omega arith))

    role-bounded : (k : Role) (depth n : ℕ) → invalid k depth n w ≡ false → Bounded m left 1 (runs_role go returns at s w k)
    role-bounded straight depth n f = more _ (ih returns (at + 8) s all fits)
    role-bounded rectangle depth n f = more _ (ih returns (at + 8) s all fits)
    role-bounded modes depth n f = more _ (ih returns (at + 8) s all fits)
    role-bounded list depth n f =
        listed (calls w) (near w (neither (far w) (cond (calls w) (leb 8 depth) (not (eqb (parameter w) 1))) f).0)
    role-bounded end depth n f = loose (resumes returns s all)
    role-bounded unnamed depth n f = record { number = omega arith; place = omega arith; read = omega arith; words = omega arith }

    runs-bounded : (due : Due) (depth : ℕ) → Sane due depth (first_byte w) w → Bounded m left 1 (runs go returns at s w due)
    runs-bounded Command depth h = role-bounded (role_of (first_byte w)) depth (first_byte w) h.valid
    runs-bounded FirstHalf depth h = loose (ih returns (at + 8) s all fits)
    runs-bounded (SecondHalf first) depth h = more _ (ih returns (at + 8) s all fits)

stopped-bounded : (m left more number place : ℕ) → number ≤ 23 → place ≤ m → Bounded m left more (stopped number place)
stopped-bounded m left more number place h k = record { number = h; place = k; read = omega arith; words = omega arith }

judged-bounded :
    (m left g at w : ℕ) (r : Walked) → g ≤ 23 → at ≤ m → (g ≡ 0 → Bounded m left 1 r) → Bounded m (suc left) 0 (judged g at w r)
judged-bounded m left zero at w r h k b =
    let c = b refl in
    record { number = c.number; place = c.place; read = omega (arith, c.read); words = omega (arith, c.words) }
judged-bounded m left (suc g) at w r h k b = stopped-bounded m (suc left) 0 (suc g) at h k

module _ (memory : List ℕ) (m : ℕ) (wide : 2 ^ 24 ≤ m) (long : length memory ≤ m) where
  walk-bounded : (left : ℕ) (returns : List ℕ) (at : ℕ) (s : Setting) → AllMost m returns → at ≤ m → Bounded m left 0 (walk memory left returns at s)
  unfolding walk
  walk-bounded zero returns at s all h = stopped-bounded m 0 0 _ at (refusal-most memory 0 (length returns) at s) h
  walk-bounded (suc left) returns at s all h =
      let w = word_at memory (at / 8) in
      let depth = length returns in
      judged-bounded m left (offset_refusal memory (suc left) depth at s) at w _ (refusal-most memory (suc left) depth at s) h
      (λ z.
      runs-bounded m left wide (walk memory left) (walk-bounded left) returns all at (le_trans (read-there memory (suc left) depth at s z) long)
      (setting_after s w) w s.due depth (sane-there memory (suc left) depth at s z))

-- ---- the promises

max-bounded : (memory : List ℕ) (start : ℕ) → Bounded (start + length memory + 2 ^ 24) 4096 0 (walked memory start)
max-bounded memory start = walk-bounded memory _ (omega arith) (omega arith) 4096 [] start setting_first tt (omega arith)

pub read-most : (memory : List ℕ) (start : ℕ) → length (walked memory start).commands ≤ 4096
read-most memory start = (max-bounded memory start).read

pub words-few : (memory : List ℕ) (start : ℕ) → length (walked memory start).words ≤ length (walked memory start).commands
words-few memory start = omega (arith, (max-bounded memory start).words)

-- an answer: its number is at most 23, at most 4,096 commands are read, and its place is at most m, where the start, the memory's length, an address of 24
-- bits and 4,096 are
pub record Bounds (m : ℕ) (a : Translated) : Type 0 where
  pub number : a.number ≤ 23
  pub place : a.place ≤ m
  pub read : a.read ≤ 4096

answered : (m : ℕ) (r : Walked) (room : ℕ) → 4096 ≤ m → Bounded m 4096 0 r → Bounds m (translated_of r room)
unfolding translated_of
answered m r room h b =
    record { number = grind (arith, nat_tests, b.number); place = grind (arith, nat_tests, b.place, b.words, b.read); read = grind (arith, nat_tests, b.read) }

pub answer-bounds :
    (memory : List ℕ) (start m room : ℕ) → 2 ^ 24 ≤ m → length memory ≤ m → start ≤ m → Bounds m (translate_answer memory start room)
answer-bounds memory start m room wide long h =
    answered m (walked memory start) room (omega arith) (walk-bounded memory m wide long 4096 [] start setting_first tt h)

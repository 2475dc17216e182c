-- What the repair uses of the synchronisation rule: with no hazard nothing is required, a sync requires nothing and clears its hazards, and two syncs
-- clear what the longer clears. Assumes nothing.
use Rattle.std.proofs.Common.{false, ◌≡◌, refl, sym, ap, ◌∙◌, ℕ, zero, suc, max, ◌%◌, ◌≤◌, mod-lt, arith, eqb, eqb→eq, lit<}
use Rattle.rdp_words.specs.Kinds.{Kind, is_draw, is_unassigned, no_operation, unassigned, triangle, texture_rectangle, fill_rectangle, sync_load, sync_tile, sync_pipe, sync_full, load, set_tile, attribute, free, kind_of}
use Rattle.rdp_words.specs.Lengths.{first_number}
use Rattle.rdp_command.specs.declared.Command.{Command}
use Rattle.rdp_command.specs.declared.Command.TheVariants.{SyncLoad, SyncTile, SyncPipe}
use Rattle.rdp_words.proofs.Tests.{below}
use Rattle.rdp_command.proofs.SyncWordLaws.{SyncWord, sync-words}
use Rattle.rdp_hazards.specs.Marks.{draws}
use Rattle.rdp_hazards.specs.Hazards.{Hazards, hazards_of, code_of, hazards_after, required_by, next_of, required_of}
use Rattle.rdp_hazards.specs.Syncs.{Sync, load_sync, tile_sync, pipe_sync, sync_number, sync_wait, sync_word}
use Rattle.rdp_repair.specs.Plan.{wait_of, sync_at}
use Rattle.rdp_repair.specs.Best.{cleared_by}
use Rattle.rdp_hazards.proofs.HazardLaws.{next_low}

idle-requires-none : (k : Kind) → required_by k (hazards_of 0) ≡ 0
idle-requires-none no_operation = refl
idle-requires-none unassigned = refl
idle-requires-none triangle = refl
idle-requires-none texture_rectangle = refl
idle-requires-none fill_rectangle = refl
idle-requires-none sync_load = refl
idle-requires-none sync_tile = refl
idle-requires-none sync_pipe = refl
idle-requires-none sync_full = refl
idle-requires-none load = refl
idle-requires-none set_tile = refl
idle-requires-none attribute = refl
idle-requires-none free = refl

pub required-idle : (n : ℕ) → required_of 0 n ≡ 0
unfolding required_of
required-idle n = idle-requires-none (kind_of n)

-- the kind and the decoded command of a sync
abbrev sync_kind : Sync → Kind
sync_kind load_sync = sync_load
sync_kind tile_sync = sync_tile
sync_kind pipe_sync = sync_pipe

abbrev pub sync_command : Sync → Command
sync_command load_sync = SyncLoad
sync_command tile_sync = SyncTile
sync_command pipe_sync = SyncPipe

-- its word is whole, has one word and its number, and decodes to its command
pub sync-word : (s : Sync) → SyncWord (sync_number s) (sync_kind s) (sync_command s)
sync-word load_sync = sync-words.0
sync-word tile_sync = sync-words.1.0
sync-word pipe_sync = sync-words.1.1

pub sync-number : (s : Sync) → first_number (sync_word s) ≡ sync_number s
sync-number s = (sync-word s).number

-- a sync requires nothing, and is no draw
kind-requires : (s : Sync) (h : Hazards) → required_by (sync_kind s) h ≡ 0
kind-requires load_sync h = refl
kind-requires tile_sync h = refl
kind-requires pipe_sync h = refl

pub sync-requires : (s : Sync) (m : ℕ) → required_of m (sync_number s) ≡ 0
unfolding required_of
sync-requires s m = ap (λ (k : Kind). required_by k (hazards_of m)) (sync-word s).kind ∙ kind-requires s (hazards_of m)

kind-draws : (s : Sync) → is_draw (sync_kind s) ≡ false
kind-draws load_sync = refl
kind-draws tile_sync = refl
kind-draws pipe_sync = refl

pub sync-draws : (s : Sync) → draws (first_number (sync_word s)) ≡ false
sync-draws s = ap draws (sync-number s) ∙ ap is_draw (sync-word s).kind ∙ kind-draws s

pub sync-assigned : (s : Sync) → is_unassigned (first_number (sync_word s)) ≡ false
sync-assigned s = ap is_unassigned (sync-number s) ∙ by-sync s
  where
    by-sync : (s : Sync) → is_unassigned (sync_number s) ≡ false
    by-sync load_sync = refl
    by-sync tile_sync = refl
    by-sync pipe_sync = refl

-- the hazards after a sync, by its kind
sync-next : (s : Sync) (m : ℕ) → next_of m (sync_number s) ≡ code_of (hazards_after (sync_kind s) (sync_number s) (hazards_of m))
unfolding next_of
sync-next s m = ap (λ (k : Kind). code_of (hazards_after k (sync_number s) (hazards_of m))) (sync-word s).kind

-- what holds of the sync of every option holds of every sync
pub by-option : (P : Sync → Type 0) → ((a : ℕ) → P (sync_at a)) → (s : Sync) → P s
unfolding sync_at
by-option P at load_sync = at 0
by-option P at tile_sync = at 1
by-option P at pipe_sync = at 2

-- what a sync leaves of the hazards: a Load P and T, a Tile P, a Pipe none
pub cleared-load : (m : ℕ) → cleared_by 1 m ≡ m % 4
unfolding cleared_by sync_at
cleared-load m =
    let e : m % 16 % 4 ≡ m % 4 = omega arith in
    let after : ℕ → ℕ = λ k. code_of (hazards_after sync_load 0x26 (hazards_of k)) in
    sym (next_low m 0x26) ∙ sync-next load_sync (m % 16) ∙ eqb→eq _ _ (below 16 (λ k. eqb (after k) (k % 4)) tt (m % 16) (mod-lt m (lit< tt))) ∙ e

pub cleared-tile : (m : ℕ) → cleared_by 2 m ≡ m % 2
unfolding cleared_by sync_at
cleared-tile m =
    let e : m % 16 % 2 ≡ m % 2 = omega arith in
    let after : ℕ → ℕ = λ k. code_of (hazards_after sync_tile 0x28 (hazards_of k)) in
    sym (next_low m 0x28) ∙ sync-next tile_sync (m % 16) ∙ eqb→eq _ _ (below 16 (λ k. eqb (after k) (k % 2)) tt (m % 16) (mod-lt m (lit< tt))) ∙ e

pub cleared-pipe : (a m : ℕ) → cleared_by (suc (suc (suc a))) m ≡ 0
unfolding cleared_by sync_at
cleared-pipe a m = sync-next pipe_sync m

pub pipe-serves : (a m n : ℕ) → required_of (cleared_by (suc (suc (suc a))) m) n ≡ 0
pipe-serves a m n = ap (λ (k : ℕ). required_of k n) (cleared-pipe a m) ∙ required-idle n

pub wait-some : (s : Sync) → 25 ≤ sync_wait s
wait-some load_sync = omega arith
wait-some tile_sync = omega arith
wait-some pipe_sync = omega arith

left : ℕ → ℕ → ℕ
left zero m = m
left (suc zero) m = m % 4
left (suc (suc zero)) m = m % 2
left (suc (suc (suc a))) m = 0

cleared-left : (a m : ℕ) → cleared_by a m ≡ left a m
unfolding cleared_by left
cleared-left zero m = refl
cleared-left (suc zero) m = cleared-load m
cleared-left (suc (suc zero)) m = cleared-tile m
cleared-left (suc (suc (suc a))) m = cleared-pipe a m

two-left : (a b m : ℕ) → (d : ℕ) × (left b (left a m) ≡ left d m) × (wait_of d ≤ max (wait_of a) (wait_of b))
unfolding left wait_of sync_at
two-left zero b m = (b, refl, omega arith)
two-left (suc zero) zero m = (1, refl, omega arith)
two-left (suc zero) (suc zero) m = (1, omega arith, omega arith)
two-left (suc zero) (suc (suc zero)) m = (2, omega arith, omega arith)
two-left (suc zero) (suc (suc (suc b))) m = (3, refl, omega arith)
two-left (suc (suc zero)) zero m = (2, refl, omega arith)
two-left (suc (suc zero)) (suc zero) m = (2, omega arith, omega arith)
two-left (suc (suc zero)) (suc (suc zero)) m = (2, omega arith, omega arith)
two-left (suc (suc zero)) (suc (suc (suc b))) m = (3, refl, omega arith)
two-left (suc (suc (suc a))) zero m = (3, refl, omega arith)
two-left (suc (suc (suc a))) (suc zero) m = (3, refl, omega arith)
two-left (suc (suc (suc a))) (suc (suc zero)) m = (3, refl, omega arith)
two-left (suc (suc (suc a))) (suc (suc (suc b))) m = (3, refl, omega arith)

-- two syncs in a row clear what the longer of them clears
pub two-as-one : (a b m : ℕ) → (d : ℕ) × (cleared_by b (cleared_by a m) ≡ cleared_by d m) × (wait_of d ≤ max (wait_of a) (wait_of b))
two-as-one a b m =
    let t = two-left a b m in
    (t.0, cleared-left b (cleared_by a m) ∙ ap (left b) (cleared-left a m) ∙ t.1 ∙ sym (cleared-left t.0 m), t.2)

pub wait-most : (a : ℕ) → wait_of a ≤ 50
unfolding wait_of sync_at
wait-most zero = omega arith
wait-most (suc zero) = omega arith
wait-most (suc (suc zero)) = omega arith
wait-most (suc (suc (suc a))) = omega arith

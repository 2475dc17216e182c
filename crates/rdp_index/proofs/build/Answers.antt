-- `rdp_index::build` meets its contract: the entries are made aside and copied where there is room for all. Assumes nothing.
use Rattle.rdp_words.specs.Words.{overwrite}
use Rattle.std.proofs.Common.{ℕ, List, ◌++◌, take, drop, ◌≡◌, ◌≤◌, ◌*◌, ◌/◌, length, refl, sym, ap, ◌∙◌, arith}
use Rattle.std.proofs.Math.Seq.{length-take-le}
use Rattle.std.proofs.lemmas.Result.{err_from_is_err_and}
use Rattle.rdp_index.specs.Index.{room_answer}
use Rattle.rdp_index.proofs.NoteLaws.{room-refused, room-taken, build-refused, build-done}
use Rattle.rdp_words.proofs.GroundLaws.{refused-number}
use Rattle.rdp_index.proofs.build.Goals as goal
use Rattle.rdp_index.proofs.build.Goals.{In_ok-count}

pub returns-in_err-found : goal.returns-in_err-found
returns-in_err-found c =
    let a = c.args in
    let p = err_from_is_err_and c.from_residual.result c.from_residual.ensures.1 in
    rw (p.1, p.2)
    (build-refused a.list.now a.entries.now _
    (sym (room-refused _ _ (refused-number _)) ∙ ap (room_answer (length a.entries.now / 2)) c.in_err-found.ensures.answers) (refused-number _))

pub returns-in_err-count : goal.returns-in_err-count
returns-in_err-count c =
    let a = c.args in
    let p = err_from_is_err_and c.from_residual-in_err-count.result c.from_residual-in_err-count.ensures.1 in
    rw (p.1, p.2)
    (build-refused a.list.now a.entries.now _
    (c.in_err-count.ensures ∙ ap (room_answer (length a.entries.now / 2)) c.in_ok-found.ensures.answers) (refused-number _))

-- the numbers that are copied are all there, and there is room for them
record Parts (c : In_ok-count) : Type 0 where
  all : c.in_ok-count.count ≡ c.in_ok-found.found
  made : 2 * c.in_ok-count.count ≤ length c.index_into.new.made
  room : 2 * c.in_ok-count.count ≤ length c.args.entries.now

parts : (c : In_ok-count) → Parts c
parts c =
    let t = room-taken _ _ _ c.in_ok-count.ensures in
    let few = c.in_ok-found.ensures.few refl in
    record { all = t.all; made = omega arith; room = omega arith }

pub slice_bounds-copy_from_slice-end : goal.slice_bounds-copy_from_slice-end
slice_bounds-copy_from_slice-end c = (parts (goal.at.slice_bounds-copy_from_slice-end c).In_ok-count).room

pub slice_bounds-copy_from_slice-end-2 : goal.slice_bounds-copy_from_slice-end-2
slice_bounds-copy_from_slice-end-2 c = sym (length-take-le _ _ (parts (goal.at.slice_bounds-copy_from_slice-end-2 c).In_ok-count).room)

pub slice_bounds-made-end : goal.slice_bounds-made-end
slice_bounds-made-end c = (parts (goal.at.slice_bounds-made-end c).In_ok-count).made

pub slice_bounds-copy_from_slice-end-3 : goal.slice_bounds-copy_from_slice-end-3
slice_bounds-copy_from_slice-end-3 c = sym (length-take-le _ _ (parts (goal.at.slice_bounds-copy_from_slice-end-3 c).In_ok-count).made)

pub copy_from_slice-requires : goal.copy_from_slice-requires
copy_from_slice-requires c =
    let p = parts (goal.at.copy_from_slice-requires c).In_ok-count in
    length-take-le _ _ p.room ∙ sym (length-take-le _ _ p.made)

pub returns : goal.returns
unfolding overwrite
returns c =
    let p = parts (goal.at.returns c).In_ok-count in
    let old : List ℕ = c.args.entries.now in
    let made : List ℕ = c.index_into.new.made in
    let built = c.in_ok-found.ensures.entries refl in
    let same = ap (λ (k : ℕ). take (2 * k) made) p.all ∙ built in
    let long = sym (length-take-le _ made p.made) ∙ ap length same in
    build-done c.args.list.now old _ (c.in_ok-count.ensures ∙ ap (room_answer (length old / 2)) c.in_ok-found.ensures.answers) refl _
    (λ i. (c.copy_from_slice.ensures.after ∙ same) i ++ drop (long i) old)

-- `rdp_check::onward::stop_from` meets its contract: the whole words of bytes have their commands, and a cut command is no refusal. Assumes nothing.
use mathlib.Core.Bool.{true, false≢true}
use mathlib.Core.List.{List}
use mathlib.Core.Path.{◌≡◌, sym, ap, ◌∙◌}
use Prim.Native.Nat.{ℕ, ◌*◌, ◌/◌, ◌%◌}
use native.Mathlib.Nat.{mod-lt}
use native.Mathlib.Omega.{arith}
use lib.Dec.{lit<}
use lib.ListN.{length, take}
use lib.Seq.{length-take-le}
use Rattle.rdp_check.specs.Checkpoint.{state_at}
use Rattle.rdp_check.specs.View.{view_of, low_of, judged_view}
use Rattle.rdp_check.proofs.OnwardLaws.{whole-commands}
use Rattle.rdp_check.proofs.onward.stop_from.Goals as goal

long : (bs : List ℕ) → length (take (8 * (length bs / 8)) bs) ≡ 8 * (length bs / 8)
long bs = length-take-le (8 * (length bs / 8)) bs (omega arith)

pub slice_bounds-walk_on-end : goal.slice_bounds-walk_on-end
slice_bounds-walk_on-end c = sym (long c.before.args.bytes.now)

pub walk_on-caused-requires : goal.walk_on-caused-requires
walk_on-caused-requires c =
    let k = c.before in
    let e = long k.args.bytes.now in
    (omega (arith, e), (omega (arith, e, k.requires), (mod-lt k.args.before.hazards (lit< tt), λ e. absurd (false≢true e))))

pub returns : goal.returns
unfolding view_of
returns c =
    let a = c.before.args in
    let s = low_of (state_at a.before) in
    let e = ap (λ q. q.stop) c.walk_on-caused.ensures in
    whole-commands s a.bytes.now _
    (e ∙ (λ i. judged_view true (record { hazards = a.before.hazards % 16; rest = c.rest_at-rest.ensures i }) 0 (take (8 * (length a.bytes.now / 8)) a.bytes.now))) _
    c.uncut-refused.ensures

-- `rdp_state::updates::slot_of` meets its contract: the rows hold the slots, all of which are small. Assumes nothing.
use Rattle.std.proofs.Common.{◌≡◌, ◌<◌, arith, eq-eqb, ne_eqb}
use Rattle.rdp_state.specs.RegisterWords.{slot_of, tile_in}
use Rattle.rdp_state.specs.Replay.{slot_in}
use Rattle.rdp_state.proofs.RegisterLaws.{found-slot, found-small}
use Rattle.rdp_state.proofs.updates.slot_of.Goals.{After-tile_in-tile}
use Rattle.rdp_state.proofs.updates.slot_of.Goals as goal

found : (c : After-tile_in-tile) → slot_in c.slot_entry-entry.result c.tile_in-tile.result ≡ slot_of c.args.number (tile_in c.args.w)
found c = rw c.tile_in-tile.ensures.0 (found-slot c.args.number c.args.w _ c.slot_entry-entry.ensures c.requires)

pub returns-then-slot-eq-NONE-clause-is : goal.returns-then-slot-eq-NONE-clause-is
returns-then-slot-eq-NONE-clause-is c =
    rw (← found (goal.at.returns-then-slot-eq-NONE-clause-is c).After-tile_in-tile, eq-eqb _ 31 c.if-slot-eq-NONE.true)

pub returns-clause-is : goal.returns-clause-is
returns-clause-is c = rw (← found (goal.at.returns-clause-is c).After-tile_in-tile, ne_eqb _ 31 c.if-slot-eq-NONE.false)

pub returns-clause-small : goal.returns-clause-small
returns-clause-small c =
    let small : slot_in c.slot_entry-entry.result c.tile_in-tile.result < 32 =
    rw c.tile_in-tile.ensures.0 (found-small c.args.number c.args.w _ c.slot_entry-entry.ensures c.requires) in
    omega arith

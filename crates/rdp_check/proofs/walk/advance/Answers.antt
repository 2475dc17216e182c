-- `rdp_check::walk::advance` meets its contract, by the contracts of what it calls. Assumes nothing.
use Rattle.rdp_check.proofs.ViewLaws.{required-fits, advanced}
use Rattle.rdp_check.proofs.walk.advance.Goals as goal

pub refusal-found-requires : goal.refusal-found-requires
refusal-found-requires c =
    let a = c.args in
    let p = c.requires in
    required-fits a.strict a.v a.h p.0 _ p.1 _ c.required_if-required.ensures

pub returns : goal.returns
returns c =
    let a = c.args in
    let p = c.requires in
    advanced a.strict a.v a.h p.0 _ p.1 _ c.required_if-required.ensures _ _ _ c.own_refusal.ensures
    c.refusal-found.ensures c.words_of-words.ensures _ c.rest_after-after.ensures

-- `rdp_index::replace` meets its contract, by those of what it calls: the new list has as many entries as the old one. Assumes nothing.
use Rattle.std.proofs.Common.{refl, ap, ◌∙◌, arith}
use Rattle.rdp_index.specs.Index.{index_answer}
use Rattle.rdp_index.proofs.ReplaceLaws.{replaced, new-whole}
use Rattle.rdp_index.proofs.replace.Goals as goal

pub put_command-requires : goal.put_command-requires
put_command-requires c =
    let a = c.before.before.args in
    (replaced a.list.now a.entries.now a.place a.new.now (c.in_ok-taken.ensures.fits refl)).inside

pub renew-requires : goal.renew-requires
renew-requires c =
    let a = c.before.before.before.args in
    let f = c.in_ok-taken.ensures.fits refl in
    let n = new-whole a.list.now a.entries.now a.place a.new.now f in (
      ap (λ l. (index_answer l).number) c.put_command.ensures ∙ n.0,
      omega (arith, ap (λ l. (index_answer l).place) c.put_command.ensures, n.1, f.room),
    )

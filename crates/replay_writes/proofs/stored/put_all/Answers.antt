use Rattle.std.proofs.Common.{◌∙◌, sym, ap, arith}
use Rattle.daos_model.specs.Durables.{version_key}
use Rattle.daos_model.specs.Ordered.{puts}
use Rattle.vos_rows.proofs.Putting.{puts-last}
use Rattle.replay_writes.proofs.stored.put_all.Goals as goal

pub loop-row-preserved : goal.loop-row-preserved
loop-row-preserved c = record {
  fits = omega (arith, c.loop-row.invariant.fits, c.in-Some.ensures.len, c.put_in.ensures.len, c.put_in.ensures.capacity);
  items =
      ap (puts version_key c.pop.new.self.items) c.put_in.ensures.items
      ∙ sym (puts-last version_key c.pop.new.self.items c.in-Some.row c.loop-row.rows.items)
      ∙ ap (λ xs. puts version_key xs c.loop-row.rows.items) (sym c.in-Some.ensures.items)
      ∙ c.loop-row.invariant.items;
}

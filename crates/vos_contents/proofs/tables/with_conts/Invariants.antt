use Rattle.std.proofs.Common.{◌≡◌, drop}
use Rattle.daos_model.specs.Changes.{with_conts}
use Rattle.vos_contents.proofs.tables.with_conts.Given as goal

abbrev pub invariant-loop-cont : goal.invariant-loop-cont
invariant-loop-cont l = with_conts (drop l.cont-index l.conts) l.all.items ≡ with_conts l.conts l.rows

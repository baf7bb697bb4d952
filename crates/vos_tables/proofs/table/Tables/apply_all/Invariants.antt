use Rattle.std.proofs.Common.{◌≡◌, drop}
use Rattle.vos_tables.specs.Changes.{AllFit, all_changed}
use Rattle.vos_tables.proofs.table.Tables.apply_all.Given as goal

abbrev pub invariant-loop-change : goal.invariant-loop-change
invariant-loop-change l = AllFit l.self (drop l.change-index l.changes) × (all_changed (drop l.change-index l.changes) l.self ≡ all_changed l.changes l.fn.self)

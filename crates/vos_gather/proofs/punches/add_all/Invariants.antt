use Rattle.std.specs.Prelude.{take}
use Rattle.vos_punches.specs.Rows.{moments_at}
use Rattle.vos_gather.specs.Gathered.{Gathered}
use Rattle.vos_gather.proofs.punches.add_all.Given as goal

-- the punches of the names before this one came to the index
abbrev pub invariant-loop-name : goal.invariant-loop-name
invariant-loop-name l = record {
  gathered : Gathered (take l.name-index l.names) (moments_at l.initial.index) (moments_at l.index);
}

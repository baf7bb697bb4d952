use Rattle.world_readers.specs.kinds.Events.{all-events-keep_fitting, fitting-begins}
use Rattle.world_readers.proofs.kinds.laws_of_kinds.Goals as goal

pub returns : goal.returns
returns c = record { begin = fitting-begins; kept = all-events-keep_fitting }

use Rattle.world_owners.specs.Owners.{all-events-keep_own, keeping-own-begins}
use Rattle.world_owners.proofs.laws_of_owners.Goals as goal

pub returns : goal.returns
returns c = record { begin = keeping-own-begins; events = all-events-keep_own }

use Rattle.model_laws.specs.JoinLaws.{dkey-one_group, dkeys-joined, exists-joined, group_part-is, writes-dkeys}
use Rattle.model_laws.proofs.groups.laws_of_groups.Goals as goal

pub returns : goal.returns
returns c = record { dkeys = dkeys-joined; exists = exists-joined; single = dkey-one_group; parts = group_part-is; kept = writes-dkeys }

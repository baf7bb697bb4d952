use Rattle.world_commit.specs.fates.KeepingLaws.{attempts-begin, attempts-kept, decided-once, none-is-both}
use Rattle.world_commit.specs.fates.Rightly.{events-are-right, letters-tell}
use Rattle.world_commit.specs.fates.Waited.{waited-told}
use Rattle.world_commit.proofs.fates.laws_of_fates.Goals as goal

pub returns : goal.returns
returns c = record { begin = attempts-begin; kept = attempts-kept; apart = none-is-both; once = decided-once; told = letters-tell; right = events-are-right; waited = waited-told }

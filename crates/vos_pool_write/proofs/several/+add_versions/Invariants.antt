use Rattle.std.proofs.Common.{length}
use Rattle.vos_pool_write.proofs.several.+add_versions.Given as goal

-- proposed from what the function passes where it calls itself
abbrev pub decreases-add_versions : goal.decreases-add_versions
decreases-add_versions g l = length l.writes.now

use Rattle.world_upheld.proofs.hearing.laws_of_all_leases.Goals as goal
use Rattle.world_upheld.specs.hearing.Leases.{all-cuts-leave_covered, all-cuts-leave_versions_covered, all-events-keep_covered, all-events-keep_versions_covered, all-runs-are_covered, all-runs-cut_covered, kept-reopened, upheld-is_covered}

pub returns : goal.returns
returns c = record { cuts = all-cuts-leave_covered; raised = kept-reopened; events = all-events-keep_covered; versions = all-events-keep_versions_covered; versions_left = all-cuts-leave_versions_covered; upheld = upheld-is_covered; runs = all-runs-are_covered; left = all-runs-cut_covered }

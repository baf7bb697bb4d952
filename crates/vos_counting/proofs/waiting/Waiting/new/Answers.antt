use Rattle.std.proofs.Common.{ap}
use Rattle.std.specs.Map.{lookup}
use Rattle.vos_counting.specs.Counting.{attempt_name, or_none, same_attempt_name}
use Rattle.vos_counting.specs.Waiting.{count_of}
use Rattle.vos_counting.proofs.waiting.Waiting.new.Goals as goal

pub returns : goal.returns
unfolding count_of
returns c a = ap (λ es. or_none (lookup (same_attempt_name (attempt_name a)) es)) c.new.ensures.empty

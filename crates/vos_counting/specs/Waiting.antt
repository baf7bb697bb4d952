-- How many unsettled versions were counted of an attempt.
use Rattle.std.specs.Prelude.{ℕ}
use Rattle.std.specs.HashMap.{get}
use Rattle.base_types.specs.declared.id.AttemptId.{AttemptId}
use Rattle.vos_counting.specs.Counting.{attempt_name, or_none, same_attempt_name}
use Rattle.vos_counting.specs.declared.waiting.Waiting.{Waiting}

unfoldable pub count_of : Waiting → AttemptId → ℕ
count_of w a = or_none (get same_attempt_name w.counts (attempt_name a))

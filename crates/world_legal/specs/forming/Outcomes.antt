-- What was issued is short.
use Rattle.std.specs.Prelude.{Contains}
use Rattle.base_types.specs.declared.epoch.Epoch.{Epoch}
use Rattle.base_types.specs.declared.id.AttemptId.{AttemptId}
use Rattle.report_writer.specs.Forms.{IsAttemptId, IsEpoch}
use Rattle.world_standing.specs.world_causes.causes.Causes.{Dated}

-- What is asked of what was issued: attempts have small numbers, and epochs are short.
pub record AreShort (issued : Dated) : Type 0 where
  pub id : (x : AttemptId) (e : Epoch) → Contains issued (x, e) → IsAttemptId x
  pub epoch : (x : AttemptId) (e : Epoch) → Contains issued (x, e) → IsEpoch e

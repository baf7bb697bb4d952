-- The laws of losses: each event keeps them.
use Rattle.world_causes.specs.losses.Turns.{further-recalls, idling-recalls, plain-recalls}
use Rattle.world_causes.specs.losses.Keeping.{AnswersKeepLosses, CutsKeepLosses, FurtherHearingKeepsLosses, HearingKeepsLosses, IdleWorkKeepsLosses, DrawnNumbersKeepLosses, FailedOpeningsKeepLosses, GivenUpTargetsKeepLosses, OpeningsKeepLosses, ResetsKeepLosses, SweepingKeepsLosses}
use Rattle.world_causes.specs.losses.Hearing.{answered-back-recalls}
use Rattle.world_causes.specs.losses.Resets.{reset-recalls}
use Rattle.world_causes.specs.losses.Opening.{opening-recalls}
use Rattle.world_causes.specs.losses.Recalling.{recalling-keeps}
use Rattle.world_causes.specs.losses.Stopping.{cut-recalls, drawing-recalls, failing-recalls, giving-up-recalls, sweeping-recalls}
use Rattle.world_base.specs.Stops.{swept}

pub cuts-keep : CutsKeepLosses
cuts-keep r w v asks leads k g = recalling-keeps r w v (cut-recalls r w v asks leads g) k

pub openings-keep : OpeningsKeepLosses
openings-keep r h w v attempts k g = recalling-keeps r w v (opening-recalls r h w v attempts k g) k

pub failures-keep : FailedOpeningsKeepLosses
failures-keep r w v k g = recalling-keeps r w v (failing-recalls r w v g) k

pub giving-up-keeps : GivenUpTargetsKeepLosses
giving-up-keeps r w v k g = recalling-keeps r w v (giving-up-recalls r w v g) k

pub answers-keep : AnswersKeepLosses
answers-keep number r w v k g is = recalling-keeps r w v (answered-back-recalls number r w v k g is) k

pub resets-keep : ResetsKeepLosses
resets-keep number r w v k g is others = recalling-keeps r w v (reset-recalls number r w v k g is others) k

pub sweeping-keeps : SweepingKeepsLosses
sweeping-keeps r w k = recalling-keeps r w (swept w) (sweeping-recalls r w) k

pub drawing-keeps : DrawnNumbersKeepLosses
drawing-keeps r w v k g = recalling-keeps r w v (drawing-recalls r w v g) k

-- ---- what is heard as without stops, and clients

pub hearing-keeps : HearingKeepsLosses
hearing-keeps r h w v new held attempts g k = recalling-keeps r w v (plain-recalls r h w v new attempts held k g) k

pub idle-work-keeps : IdleWorkKeepsLosses
idle-work-keeps r w v g k = recalling-keeps r w v (idling-recalls r w v g) k

pub further-keeps : FurtherHearingKeepsLosses
further-keeps r h w v new attempts g ours k = recalling-keeps r w v (further-recalls r h w v new attempts g.number k g.hears ours) k

use Rattle.world_upheld.proofs.reasons.laws_of_doubts.Goals as goal
use Rattle.world_upheld.specs.reasons.Doubting.{all-events-keep_doubts, making-keeps_doubts}
use Rattle.world_upheld.specs.reasons.Reasons.{all-events-keep_reasons, reasons-begin, runs-have_reasons}

pub returns : goal.returns
returns c = record { heard = making-keeps_doubts; doubts = all-events-keep_doubts; events = all-events-keep_reasons; begin = reasons-begin; runs = runs-have_reasons }

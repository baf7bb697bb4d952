use Rattle.vos_check.proofs.FieldSteps.{leads_nowhere}
use Rattle.vos_check.proofs.logs.LogsLevel.value.Goals as goal

pub returns : goal.returns
returns c f led marks = leads_nowhere _ _ led _ _ c.mark_in.result marks (c.mark_in.ensures c.args.self.now.ground f led)

use Rattle.vos_check_base.specs.Answers.{content}
use Rattle.vos_check.proofs.dkeys.DkeysLevel.is_length.Goals as goal

pub returns : goal.returns
returns c f = c.is_name_length.ensures (content c.args.self.now.ground f)

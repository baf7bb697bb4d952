use Rattle.vos_check_base.specs.Answers.{content}
use Rattle.vos_check_base.proofs.Steps.{all_taken}
use Rattle.vos_check_base.proofs.fresh.Fresh.new.Goals as goal

pub returns-clause-all : goal.returns-clause-all
returns-clause-all g c told = all_taken (content c.args.ground.now (g.S.Source.bytes c.args.source.now)) c.min.result c.read.new.buf c.min.ensures (c.in_ok-read.ensures.read told)

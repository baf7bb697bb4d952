use Rattle.vos_check_base.proofs.Looking.{read_then}
use Rattle.vos_check_base.specs.Answers.{content}
use Rattle.vos_check_content.proofs.roots.behind_roots.Goals as goal

pub returns-in-Ok-clause-marks : goal.returns-in-Ok-clause-marks
returns-in-Ok-clause-marks g c told = c.in-Ok.ensures (content c.args.ground.now (g.S.Source.bytes c.args.source.now)) (c.requires.roots told) (c.in_ok-fresh.ensures.all told)

pub returns-in-Err-clause-stopped : goal.returns-in-Err-clause-stopped
returns-in-Err-clause-stopped g c told = absurd (c.in-Err.ensures (content c.args.ground.now (g.S.Source.bytes c.args.source.now)) (c.requires.roots told) (c.in_ok-fresh.ensures.all told))

pub returns-in-Err-clause-stops : goal.returns-in-Err-clause-stops
returns-in-Err-clause-stops g c = read_then _ _ g.S.Source.looked_on _ _ _ _ c.in_ok-fresh.ensures.stops c.blame.ensures.stops

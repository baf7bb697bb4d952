use Rattle.std.proofs.Common.{◌*◌, subst}
use Rattle.vos_check_base.specs.Answers.{IsBlame}
use Rattle.vos_check_entries.proofs.list.blame_block.Goals as goal

pub returns-clause-blamed : goal.returns-clause-blamed
returns-clause-blamed g c told = subst (λ n. IsBlame (g.S.Source.bytes c.args.source.now) (256 * n) c.blame.result) c.from.ensures (c.blame.ensures.blamed told)

use Rattle.std.proofs.Common.{ℕ, subst}
use Rattle.vos_image.specs.Kinds.{read_chain, read_links}
use Rattle.vos_check_base.specs.Answers.{Answers, content}
use Rattle.vos_check_base.specs.Sets.{open_of}
use Rattle.vos_check.specs.Steps.{is_nothing}
use Rattle.vos_check.proofs.chain.chain.Goals as goal

pub returns-clause-read : goal.returns-clause-read
unfolding read_chain
returns-clause-read g c told b led marks =
    subst (λ (n : ℕ). Answers (content b (g.S.Source.bytes c.args.source.now)) (read_links (content b (g.S.Source.bytes c.args.source.now)) n c.args.block c.args.length led) (open_of c.links.new.fresh) is_nothing c.links.result) c.div_ceil.ensures (c.links.ensures.read told b led marks)

use Rattle.vos_ilog.proofs.Settling.{none_high, taken_there}
use Rattle.vos_ilog.proofs.ilog.Ilog.takes_at.Goals as goal

pub returns-then-at-ge64-clause-found : goal.returns-then-at-ge64-clause-found
returns-then-at-ge64-clause-found g c told x held at = none_high (g.P.Pages.blocks c.args.pages.now) x c.args.at c.args.change c.if-at-ge64.true held

pub returns-clause-found : goal.returns-clause-found
returns-clause-found g c told x held at =
    taken_there (g.P.Pages.blocks c.args.pages.now) x c.args.at c.args.change c.in_ok-mark.mark c.takes_mark.result c.key_at-key.ensures.moment held (c.in_ok-mark.ensures.found told x held at) c.takes_mark.ensures

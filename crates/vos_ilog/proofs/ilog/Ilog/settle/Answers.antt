use Rattle.std.proofs.Common.{ap}
use Rattle.vos_moments.specs.vos_levels.Changes.{keeps}
use Rattle.vos_moments.proofs.vos_levels.Calls.{on_ok_then}
use Rattle.vos_moments.specs.Steps.{change_of}
use Rattle.vos_moments.proofs.Forms.{settled_from, settled_lacks}
use Rattle.vos_ilog.proofs.Settling.{log_form}
use Rattle.vos_ilog.proofs.ilog.Ilog.settle.Goals as goal

pub returns-clause-settled : goal.returns-clause-settled
returns-clause-settled g c = on_ok_then c.change_those.result (λ h told x held at. (settled_from log_form c.change_of.result c.args.attempt c.args.step c.args.which.now c.change_of.ensures c.requires.step (g.P.Pages.blocks c.args.pages.now) x (g.P.Pages.budget c.args.pages.now) (g.P.Pages.blocks c.change_those.new.pages) c.change_those.new.self.tree.root (g.P.Pages.budget c.change_those.new.pages) (h told x held at)).becomes) c.change_those.ensures.took

pub returns-clause-staged : goal.returns-clause-staged
returns-clause-staged g c = on_ok_then c.change_those.result (λ h told x held at. (settled_from log_form c.change_of.result c.args.attempt c.args.step c.args.which.now c.change_of.ensures c.requires.step (g.P.Pages.blocks c.args.pages.now) x (g.P.Pages.budget c.args.pages.now) (g.P.Pages.blocks c.change_those.new.pages) c.change_those.new.self.tree.root (g.P.Pages.budget c.change_those.new.pages) (h told x held at)).removes) c.change_those.ensures.took

pub returns-clause-committed : goal.returns-clause-committed
returns-clause-committed g c is = on_ok_then c.change_those.result (λ h told x held at. (settled_from log_form c.change_of.result c.args.attempt c.args.step c.args.which.now c.change_of.ensures c.requires.step (g.P.Pages.blocks c.args.pages.now) x (g.P.Pages.budget c.args.pages.now) (g.P.Pages.blocks c.change_those.new.pages) c.change_those.new.self.tree.root (g.P.Pages.budget c.change_those.new.pages) (h told x held at)).puts (ap (λ z. keeps (change_of c.args.attempt z)) is)) c.change_those.ensures.took

pub returns-clause-free : goal.returns-clause-free
returns-clause-free g c = on_ok_then c.change_those.result (λ h told x held at. (settled_from log_form c.change_of.result c.args.attempt c.args.step c.args.which.now c.change_of.ensures c.requires.step (g.P.Pages.blocks c.args.pages.now) x (g.P.Pages.budget c.args.pages.now) (g.P.Pages.blocks c.change_those.new.pages) c.change_those.new.self.tree.root (g.P.Pages.budget c.change_those.new.pages) (h told x held at)).gives) c.change_those.ensures.took

pub returns-clause-too_much : goal.returns-clause-too_much
returns-clause-too_much g c few told x held at =
    settled_lacks log_form c.change_of.result c.args.attempt c.args.step c.args.which.now c.change_of.ensures c.requires.step x (g.P.Pages.budget c.args.pages.now) (c.change_those.ensures.too_much few told x held at)

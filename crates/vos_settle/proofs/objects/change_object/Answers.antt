use Rattle.std.proofs.Common.{subst, sym}
use Rattle.vos_levels.proofs.Calls.{if_ok_then, on_ok_then}
use Rattle.vos_path.specs.Objects.{dkey_level, below_owner, below_roots}
use Rattle.vos_path.specs.Small.{BelowObjectOnPathIsSmall}
use Rattle.vos_settle.specs.Costs.{Spends, below_object_cost, for_one}
use Rattle.vos_settle.specs.Nodes.{ObjectTurn, Turned}
use Rattle.vos_settle.proofs.objects.change_object.Goals as goal

pub returns-in-Some-clause-changed : goal.returns-in-Some-clause-changed
returns-in-Some-clause-changed g c = if_ok_then c.change_below.result (λ now h told x held at.
    subst (λ z. Turned (below_owner dkey_level) below_roots (g.P.Pages.blocks c.args.pages.now) x (g.P.Pages.blocks c.change_below.new.pages) now (ObjectTurn c.args.task z c.args.path.now.akey)) (sym c.in-Some.is) (h told x held at)) c.change_below.ensures.changed

pub returns-in-Some-clause-staged : goal.returns-in-Some-clause-staged
returns-in-Some-clause-staged g c = on_ok_then c.change_below.result (λ h told x held at d small.
    subst (λ z. Spends (below_object_cost c.args.task.kind z c.args.path.now.akey (for_one d) 1) (g.P.Pages.budget c.args.pages.now) (g.P.Pages.budget c.change_below.new.pages)) (sym c.in-Some.is) (h told x held at d (subst (λ z. BelowObjectOnPathIsSmall d z c.args.path.now.akey x) c.in-Some.is small))) c.change_below.ensures.staged

pub returns-in-None-clause-changed : goal.returns-in-None-clause-changed
returns-in-None-clause-changed g c = if_ok_then c.change_punch.result (λ now h told x held at.
    subst (λ z. Turned (below_owner dkey_level) below_roots (g.P.Pages.blocks c.args.pages.now) x (g.P.Pages.blocks c.change_punch.new.pages) now (ObjectTurn c.args.task z c.args.path.now.akey)) (sym c.in-None.is) (h told x held at)) c.change_punch.ensures.changed

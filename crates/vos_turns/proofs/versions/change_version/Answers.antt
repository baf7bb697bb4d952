use Rattle.std.proofs.Common.{◌∙◌, ap, arith, length}
use Rattle.vos_levels.proofs.Calls.{on_ok_then}
use Rattle.vos_fitting.specs.vos_path.Objects.{objects_versions}
use Rattle.vos_fitting.proofs.vos_path.AllSmall.{path_small}
use Rattle.vos_fitting.specs.vos_settle.Versions.{versions_after}
use Rattle.vos_fitting.proofs.vos_settle.Sums.{spends_most}
use Rattle.vos_small.proofs.Fitting.{changes_fit, few_changes}
use Rattle.vos_turns.proofs.Turning.{gone_give}
use Rattle.vos_turns.specs.Turns.{task_of}
use Rattle.vos_turns.proofs.versions.change_version.Goals as goal

pub returns-clause-too_much : goal.returns-clause-too_much
returns-clause-too_much g c refused room told x held at small =
    changes_fit _ _ _ (g.P.Pages.budget c.args.pages.now) room (c.change_write.ensures.too_much refused told x held at 17 (path_small 17 c.path.result.now x small))

pub returns-clause-few_left : goal.returns-clause-few_left
returns-clause-few_left g c refused told x held at small = c.change_write.ensures.few_left refused told x held at 17 (path_small 17 c.path.result.now x small)

pub returns-clause-staged : goal.returns-clause-staged
returns-clause-staged g c = on_ok_then c.change_write.result (λ h told x held at small.
    spends_most _ 631 (g.P.Pages.budget c.args.pages.now) (g.P.Pages.budget c.change_write.new.pages) (few_changes _ _ _) (h told x held at 17 (path_small 17 c.path.result.now x small))) c.change_write.ensures.staged

pub returns-clause-gives : goal.returns-clause-gives
returns-clause-gives g c = on_ok_then c.change_write.result (λ h told x held at.
    let freed = h told x held at in
    let gone = gone_give (record (task_of c.args.change c.args.version.now) { kind = c.kind_of.result }) c.path.result.now (objects_versions x) in
    let same = ap (λ k. length (versions_after (record (task_of c.args.change c.args.version.now) { kind = k }) c.path.result.now (objects_versions x))) c.kind_of.ensures ∙ ap (λ p. length (versions_after (task_of c.args.change c.args.version.now) p (objects_versions x))) c.path.ensures in
    omega (arith, freed, gone, same)) c.change_write.ensures.gives

use Rattle.std.proofs.Common.{refl, arith}
use Rattle.vos_levels.proofs.Calls.{on_ok_then}
use Rattle.vos_settle.proofs.FreedVersions.{freed_is, gives_back}
use Rattle.vos_settle.proofs.VersionTurns.{write_turned}
use Rattle.vos_settle.proofs.write.change_write.Goals as goal

pub returns-clause-changed : goal.returns-clause-changed
returns-clause-changed g c = on_ok_then c.change_objects.result (λ h told x held at.
    write_turned c.args.task c.args.path.now (g.P.Pages.blocks c.args.pages.now) (g.P.Pages.blocks c.change_objects.new.pages) x c.in-Some.obj c.change_objects.new.objects.root held c.in-Some.is c.requires.fits c.requires.names c.change_objects.ensures.object (h told x held at)) c.change_objects.ensures.changed

pub returns-clause-free : goal.returns-clause-free
returns-clause-free g c = on_ok_then c.change_objects.result (λ h told x held at.
    omega (arith, h told x held at, freed_is c.args.task c.args.path.now x c.in-Some.obj c.in-Some.is)) c.change_objects.ensures.free

pub returns-clause-gives : goal.returns-clause-gives
returns-clause-gives g c = on_ok_then c.change_objects.result (λ h told x held at.
    omega (arith, h told x held at, gives_back c.args.task c.args.path.now (g.P.Pages.blocks c.args.pages.now) x c.in-Some.obj held c.in-Some.is c.requires.fits c.requires.names c.change_objects.ensures.object)) c.change_objects.ensures.free

pub returns-clause-too_much : goal.returns-clause-too_much
returns-clause-too_much g c few told x held at d small =
    c.change_objects.ensures.too_much few told x held at d (small (record { cont = c.args.path.now.cont; obj = c.in-Some.obj }) (record { cont = refl; obj = c.in-Some.is }))

pub returns-clause-few_left : goal.returns-clause-few_left
returns-clause-few_left g c few told x held at d small =
    c.change_objects.ensures.few_left few told x held at d (small (record { cont = c.args.path.now.cont; obj = c.in-Some.obj }) (record { cont = refl; obj = c.in-Some.is }))

pub returns-clause-staged : goal.returns-clause-staged
returns-clause-staged g c = on_ok_then c.change_objects.result (λ h told x held at d small.
    h told x held at d (small (record { cont = c.args.path.now.cont; obj = c.in-Some.obj }) (record { cont = refl; obj = c.in-Some.is }))) c.change_objects.ensures.staged

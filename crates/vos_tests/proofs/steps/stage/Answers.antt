use Rattle.std.proofs.Common.{◌∙◌, Some, false, ap, subst, sym}
use Rattle.std.specs.Option.{option_map}
use Rattle.daos_model.specs.Changes.{prepared}
use Rattle.vos_store.specs.Conditions.{CanPrepare}
use Rattle.vos_tests.specs.Rows.{alone, epoch, staged, started}
use Rattle.vos_tests.proofs.Allowed.{at-told, can_prepare, preparable}
use Rattle.vos_tests.proofs.steps.stage.Goals as goal

pub prepare-requires-clause-form : goal.prepare-requires-clause-form
prepare-requires-clause-form g c = preparable (g.S.Store.state c.args.store.now) c.attempt.result 256 c.args.write c.requires.targets c.requires.write

pub prepare-requires-clause-here : goal.prepare-requires-clause-here
prepare-requires-clause-here g c = λ run.
    at-told (CanPrepare (g.S.Store.state c.args.store.now) (record { attempt = c.attempt.result; epoch = epoch 256; leader = 0; members = 1; confirmed = 0; committed = false }) (alone c.args.write)) (g.S.Store.durable c.args.store.now) started c.requires.empty
    (subst (λ a. CanPrepare (g.S.Store.state c.args.store.now) (record { attempt = a; epoch = epoch 256; leader = 0; members = 1; confirmed = 0; committed = false }) (alone c.args.write) started)
    (sym c.attempt.ensures) (can_prepare (g.S.Store.state c.args.store.now) c.args.number c.args.write c.requires.opening c.requires.write))

pub returns-clause-kept : goal.returns-clause-kept
unfolding staged
returns-clause-kept g c =
    c.in_ok-prepare.ensures.kept.done
    ∙ ap (option_map (prepared (record { attempt = c.attempt.result; epoch = epoch 256; leader = 0; members = 1; confirmed = 0; committed = false }) (alone c.args.write))) c.requires.empty
    ∙ ap (λ a. Some (prepared (record { attempt = a; epoch = epoch 256; leader = 0; members = 1; confirmed = 0; committed = false }) (alone c.args.write) started)) c.attempt.ensures

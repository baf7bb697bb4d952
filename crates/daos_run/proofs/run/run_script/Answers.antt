use Rattle.std.specs.Prelude.{◌*◌, ◌-◌, IfOk, length, refl}
use Rattle.std.proofs.Common.{arith, subst, sym}
use Rattle.daos_run.specs.Comes.{FindsPlaces}
use Rattle.daos_run.proofs.Lone.{is-of-lone-client}
use Rattle.daos_run.proofs.Plain.{all-come, all-free, all-kept, all-open, all-run, are-keyed, follows-order, in-form, in-real-time, is-fresh, issued-there, legal, none-down, of-lone, on-ok, only-memory}
use Rattle.model_lone.specs.Only.{TellsOfOnlyClient}
use Rattle.model_reports.specs.Rooms.{HasPlaces}
use Rattle.daos_run.specs.Alone.{TellsOfLoneClient}
use Rattle.daos_run.proofs.run.run_script.Goals as goal

pub run_on-requires-clause-stores : goal.run_on-requires-clause-stores
run_on-requires-clause-stores g c κs within = all-run c.args.job.now.targets c.args.job.now.size_mib c.set_all.new.parts c.in_ok-set_all.ensures.set c.requires.most_targets

pub run_on-requires-clause-sound : goal.run_on-requires-clause-sound
run_on-requires-clause-sound g c κs within = all-open c.args.job.now.targets c.args.job.now.size_mib c.set_all.new.parts c.in_ok-set_all.ensures.set

pub returns-clause-legal : goal.returns-clause-legal
returns-clause-legal g c =
    let new = c.in_ok-set_all.ensures.set in
    legal c.args.job.now.targets c.args.job.now.size_mib c.set_all.new.parts new c.run_on.new.parts c.run_on.ensures.set c.run_on.ensures.served c.args.script.now c.args.job.now refl c.run_on.result (all-come c.args.job.now.targets c.args.job.now.size_mib c.set_all.new.parts new c.run_on.new.parts c.run_on.ensures.set c.run_on.ensures.served c.args.script.now c.args.job.now refl c.run_on.result (c.run_on.ensures.comes _ (all-kept c.args.job.now.targets c.args.job.now.size_mib c.set_all.new.parts new) (λ t. c.args.job.now.size_mib * 4096 - 1264) (all-free c.args.job.now.targets c.args.job.now.size_mib c.set_all.new.parts new)))

pub returns-clause-form : goal.returns-clause-form
returns-clause-form g c keys =
    let new = c.in_ok-set_all.ensures.set in
    in-form c.args.job.now.targets c.args.job.now.size_mib c.set_all.new.parts new c.run_on.new.parts c.run_on.ensures.set c.run_on.ensures.served c.args.script.now c.args.job.now refl c.run_on.result (all-come c.args.job.now.targets c.args.job.now.size_mib c.set_all.new.parts new c.run_on.new.parts c.run_on.ensures.set c.run_on.ensures.served c.args.script.now c.args.job.now refl c.run_on.result (c.run_on.ensures.comes _ (all-kept c.args.job.now.targets c.args.job.now.size_mib c.set_all.new.parts new) (λ t. c.args.job.now.size_mib * 4096 - 1264) (all-free c.args.job.now.targets c.args.job.now.size_mib c.set_all.new.parts new))) (let most = c.requires.most in omega (arith, most)) keys

pub returns-clause-back : goal.returns-clause-back
returns-clause-back g c keys =
    let new = c.in_ok-set_all.ensures.set in
    c.run_on.ensures.back _ (all-kept c.args.job.now.targets c.args.job.now.size_mib c.set_all.new.parts new) (λ t. c.args.job.now.size_mib * 4096 - 1264) (all-free c.args.job.now.targets c.args.job.now.size_mib c.set_all.new.parts new)
    (are-keyed c.args.job.now.targets c.args.job.now.size_mib c.set_all.new.parts new c.run_on.new.parts c.run_on.ensures.set c.run_on.ensures.served c.args.script.now c.args.job.now refl (let most = c.requires.most in omega (arith, most)) keys)

pub returns-clause-ordered : goal.returns-clause-ordered
returns-clause-ordered g c =
    let new = c.in_ok-set_all.ensures.set in
    follows-order c.args.job.now.targets c.args.job.now.size_mib c.set_all.new.parts new c.run_on.new.parts c.run_on.ensures.set c.run_on.ensures.served c.args.script.now c.args.job.now refl _ c.in_ok-set_all.ensures.clocks _ _ c.run_on.result (c.run_on.ensures.read _ (all-kept c.args.job.now.targets c.args.job.now.size_mib c.set_all.new.parts new) (λ t. c.args.job.now.size_mib * 4096 - 1264) (all-free c.args.job.now.targets c.args.job.now.size_mib c.set_all.new.parts new)) c.requires.script.read_for

pub returns-clause-issued : goal.returns-clause-issued
returns-clause-issued g c =
    let new = c.in_ok-set_all.ensures.set in
    issued-there c.args.job.now.targets c.args.job.now.size_mib c.set_all.new.parts new c.run_on.new.parts c.run_on.ensures.set c.run_on.ensures.served c.args.script.now c.args.job.now refl c.run_on.result (all-come c.args.job.now.targets c.args.job.now.size_mib c.set_all.new.parts new c.run_on.new.parts c.run_on.ensures.set c.run_on.ensures.served c.args.script.now c.args.job.now refl c.run_on.result (c.run_on.ensures.comes _ (all-kept c.args.job.now.targets c.args.job.now.size_mib c.set_all.new.parts new) (λ t. c.args.job.now.size_mib * 4096 - 1264) (all-free c.args.job.now.targets c.args.job.now.size_mib c.set_all.new.parts new)))

pub returns-clause-in_real_time : goal.returns-clause-in_real_time
returns-clause-in_real_time g c =
    let new = c.in_ok-set_all.ensures.set in
    in-real-time c.args.job.now.targets c.args.job.now.size_mib c.set_all.new.parts new c.run_on.new.parts c.run_on.ensures.set c.run_on.ensures.served c.args.script.now c.args.job.now refl c.run_on.result (all-come c.args.job.now.targets c.args.job.now.size_mib c.set_all.new.parts new c.run_on.new.parts c.run_on.ensures.set c.run_on.ensures.served c.args.script.now c.args.job.now refl c.run_on.result (c.run_on.ensures.comes _ (all-kept c.args.job.now.targets c.args.job.now.size_mib c.set_all.new.parts new) (λ t. c.args.job.now.size_mib * 4096 - 1264) (all-free c.args.job.now.targets c.args.job.now.size_mib c.set_all.new.parts new)))

pub returns-clause-none_down : goal.returns-clause-none_down
returns-clause-none_down g c =
    let new = c.in_ok-set_all.ensures.set in
    none-down c.args.job.now.targets c.args.job.now.size_mib c.set_all.new.parts new c.run_on.new.parts c.run_on.ensures.set c.run_on.ensures.served c.args.script.now c.args.job.now refl c.run_on.result (all-come c.args.job.now.targets c.args.job.now.size_mib c.set_all.new.parts new c.run_on.new.parts c.run_on.ensures.set c.run_on.ensures.served c.args.script.now c.args.job.now refl c.run_on.result (c.run_on.ensures.comes _ (all-kept c.args.job.now.targets c.args.job.now.size_mib c.set_all.new.parts new) (λ t. c.args.job.now.size_mib * 4096 - 1264) (all-free c.args.job.now.targets c.args.job.now.size_mib c.set_all.new.parts new)))

pub returns-clause-room : goal.returns-clause-room
returns-clause-room g c places has =
    let new = c.in_ok-set_all.ensures.set in
    c.run_on.ensures.room _ (all-kept c.args.job.now.targets c.args.job.now.size_mib c.set_all.new.parts new) (λ t. c.args.job.now.size_mib * 4096 - 1264) (all-free c.args.job.now.targets c.args.job.now.size_mib c.set_all.new.parts new)
    (subst (λ o. FindsPlaces c.args.script.now c.args.job.now.attempts (length o.opening.stand.snaps)) (sym (is-fresh c.args.job.now.targets c.args.job.now.size_mib c.set_all.new.parts new c.run_on.new.parts c.run_on.ensures.set c.run_on.ensures.served c.args.script.now c.args.job.now refl)) places) has

pub returns-clause-places : goal.returns-clause-places
returns-clause-places g c places =
    let new = c.in_ok-set_all.ensures.set in
    c.run_on.ensures.places _ (all-kept c.args.job.now.targets c.args.job.now.size_mib c.set_all.new.parts new) (λ t. c.args.job.now.size_mib * 4096 - 1264) (all-free c.args.job.now.targets c.args.job.now.size_mib c.set_all.new.parts new)
    (subst (λ o. HasPlaces c.args.script.now c.args.job.now.attempts (length o.opening.stand.snaps)) (sym (is-fresh c.args.job.now.targets c.args.job.now.size_mib c.set_all.new.parts new c.run_on.new.parts c.run_on.ensures.set c.run_on.ensures.served c.args.script.now c.args.job.now refl)) places)

pub returns-clause-alone : goal.returns-clause-alone
returns-clause-alone g c one none =
    let new = c.in_ok-set_all.ensures.set in
    of-lone c.args.job.now.targets c.args.job.now.size_mib c.set_all.new.parts new c.run_on.new.parts c.run_on.ensures.set c.run_on.ensures.served c.args.script.now c.args.job.now refl c.run_on.result (all-come c.args.job.now.targets c.args.job.now.size_mib c.set_all.new.parts new c.run_on.new.parts c.run_on.ensures.set c.run_on.ensures.served c.args.script.now c.args.job.now refl c.run_on.result (c.run_on.ensures.comes _ (all-kept c.args.job.now.targets c.args.job.now.size_mib c.set_all.new.parts new) (λ t. c.args.job.now.size_mib * 4096 - 1264) (all-free c.args.job.now.targets c.args.job.now.size_mib c.set_all.new.parts new))) none (TellsOfOnlyClient c.args.script.now)
    (c.run_on.ensures.alone _ (all-kept c.args.job.now.targets c.args.job.now.size_mib c.set_all.new.parts new) (λ t. c.args.job.now.size_mib * 4096 - 1264) (all-free c.args.job.now.targets c.args.job.now.size_mib c.set_all.new.parts new) one)

pub returns-clause-lone : goal.returns-clause-lone
returns-clause-lone g c plain one none =
    let new = c.in_ok-set_all.ensures.set in
    on-ok c.run_on.result (λ q k. is-of-lone-client c.args.script.now c.args.job.now q c.requires.script one k)
    (subst (λ o. IfOk c.run_on.result (TellsOfLoneClient o)) (is-fresh c.args.job.now.targets c.args.job.now.size_mib c.set_all.new.parts new c.run_on.new.parts c.run_on.ensures.set c.run_on.ensures.served c.args.script.now c.args.job.now refl)
    (of-lone c.args.job.now.targets c.args.job.now.size_mib c.set_all.new.parts new c.run_on.new.parts c.run_on.ensures.set c.run_on.ensures.served c.args.script.now c.args.job.now refl c.run_on.result (all-come c.args.job.now.targets c.args.job.now.size_mib c.set_all.new.parts new c.run_on.new.parts c.run_on.ensures.set c.run_on.ensures.served c.args.script.now c.args.job.now refl c.run_on.result (c.run_on.ensures.comes _ (all-kept c.args.job.now.targets c.args.job.now.size_mib c.set_all.new.parts new) (λ t. c.args.job.now.size_mib * 4096 - 1264) (all-free c.args.job.now.targets c.args.job.now.size_mib c.set_all.new.parts new))) none _ (c.run_on.ensures.lone _ (all-kept c.args.job.now.targets c.args.job.now.size_mib c.set_all.new.parts new) (λ t. c.args.job.now.size_mib * 4096 - 1264) (all-free c.args.job.now.targets c.args.job.now.size_mib c.set_all.new.parts new) plain one none)))

pub returns-clause-refusals : goal.returns-clause-refusals
returns-clause-refusals g c =
    let new = c.in_ok-set_all.ensures.set in
    only-memory c.args.job.now.targets c.args.job.now.size_mib c.set_all.new.parts new c.run_on.new.parts c.run_on.ensures.set c.run_on.ensures.served c.args.script.now c.run_on.result c.requires.script.declared.conts c.run_on.ensures.fault c.run_on.ensures.refusals

use Rattle.std.specs.Prelude.{◌≡◌, ◌<◌, Err, IfErr, IfOk, List, Ok, length}
use Rattle.std.proofs.Common.{arith, rules, subst, sym}
use Rattle.base_types.specs.declared.epoch.Epoch.{Epoch}
use Rattle.base_types.specs.declared.snapshot.Snap.{Snap}
use Rattle.daos_model.specs.Finals.{opening_of}
use Rattle.daos_run.specs.Opens.{given}
use Rattle.daos_run.specs.Slots.{AreClocksIn, stores_in}
use Rattle.daos_run.specs.Stops.{IsOpeningFault, MayStop}
use Rattle.daos_run.proofs.Back.{is-read-back}
use Rattle.daos_run.proofs.Broken.{left-off, whatever-stopped}
use Rattle.daos_run.proofs.Disarmed.{again-clocks, again-gone, again-served, again-stores, all-gone, all-run-on, all-served, kept-from, kept-on, may-stop-before}
use Rattle.daos_run.proofs.Faults.{calls-gone, calls-served, clocks-through, opening-fault, read-through, served-through, stay-read}
use Rattle.daos_run.proofs.Lone.{finds-places, finds-room, tells-of-lone-client}
use Rattle.daos_run.proofs.Started.{all-set, run-clocks, run-gone, run-read, run-served}
use Rattle.daos_run.proofs.Whole.{all-tell, break-off, can-start, come-by_clocks, come-from, may-start, started, told-first}
use Rattle.report_round_trip.specs.Values.{AllTellBytes}
use Rattle.run_targets.specs.Below.{AllTellInOrder}
use Rattle.run_starts.specs.run_opening.All.{MayBeFound}
use Rattle.run_targets.specs.Ends.{BreaksOffSo, ComesByClocks, ComesTo, stores_of, declared_conts}
use Rattle.world_letters.specs.kinds.Fitting.{AllAnswersFit}
use Rattle.daos_run.proofs.run_on.run_on.Goals as goal

pub open_parts-requires-clause-running : goal.open_parts-requires-clause-running
open_parts-requires-clause-running g c t y to =
    (all-run-on g.S.Store.durable g.S.Store.state g.S.Store.may c.args.job.now.targets c.args.parts.now c.disarm.new.parts c.requires.stores.set c.disarm.ensures.set c.disarm.ensures.fuses c.requires.stores.each t y to).running

pub open_parts-requires-clause-sound : goal.open_parts-requires-clause-sound
open_parts-requires-clause-sound g c B kept =
    c.requires.sound B (kept-on g.S.Store.durable g.S.Store.state g.S.Store.may c.args.job.now.targets c.args.parts.now c.disarm.new.parts c.requires.stores.set c.disarm.ensures.set c.disarm.ensures.fuses B kept)

pub returns-in_err-tracker-clause-served : goal.returns-in_err-tracker-clause-served
returns-in_err-tracker-clause-served g c =
    served-through g.S.Store.durable g.S.Store.state c.args.job.now.targets c.args.parts.now c.disarm.new.parts c.open_parts.new.parts c.requires.stores.set c.disarm.ensures.set (all-served g.S.Store.durable g.S.Store.state g.S.Store.may c.args.job.now.targets c.args.parts.now c.disarm.new.parts c.requires.stores.set c.disarm.ensures.set c.disarm.ensures.fuses) (calls-served {T = Epoch × List Snap} g.S.Store.durable g.S.Store.state c.args.job.now.targets c.disarm.new.parts c.open_parts.new.parts (Err c.in_err-tracker.field-0.0) c.disarm.ensures.set c.in_err-tracker.ensures.calls.set c.in_err-tracker.ensures.calls.runs)

pub returns-in_err-tracker-clause-unfused : goal.returns-in_err-tracker-clause-unfused
returns-in_err-tracker-clause-unfused g c =
    calls-gone {T = Epoch × List Snap} g.S.Store.durable g.S.Store.state c.args.job.now.targets c.disarm.new.parts c.open_parts.new.parts (Err c.in_err-tracker.field-0.0) c.disarm.ensures.set c.in_err-tracker.ensures.calls.set c.in_err-tracker.ensures.calls.runs (all-gone g.S.Store.durable g.S.Store.state g.S.Store.may c.args.job.now.targets c.args.parts.now c.disarm.new.parts c.requires.stores.set c.disarm.ensures.set c.disarm.ensures.fuses)

pub returns-in_err-tracker-clause-clocks : goal.returns-in_err-tracker-clause-clocks
returns-in_err-tracker-clause-clocks g c =
    read-through g.S.Store.durable g.S.Store.state c.args.job.now.targets c.args.parts.now c.disarm.new.parts c.open_parts.new.parts c.requires.stores.set c.disarm.ensures.set g.C.Clock.is_read c.disarm.ensures.clocks (stay-read g.C.Clock.is_read c.disarm.new.parts c.open_parts.new.parts c.in_err-tracker.ensures.calls.clocks)

pub returns-in_err-tracker-clause-fault : goal.returns-in_err-tracker-clause-fault
returns-in_err-tracker-clause-fault g c =
    let is : c.from_residual.result ≡ Err c.in_err-tracker.field-0.0 = search rules in
    subst (λ r. IfErr r (IsOpeningFault g.S.Store.state c.args.parts.now c.open_parts.new.parts)) (sym is) (opening-fault g.S.Store.durable g.S.Store.state c.args.job.now.targets c.args.parts.now c.disarm.new.parts c.open_parts.new.parts c.requires.stores.set c.disarm.ensures.set {T = Epoch × List Snap} g.S.Store.may c.in_err-tracker.field-0.0 c.disarm.ensures.fuses c.in_err-tracker.ensures.calls.runs)

pub returns-in_err-tracker-clause-refusals : goal.returns-in_err-tracker-clause-refusals
returns-in_err-tracker-clause-refusals g c =
    let is : c.from_residual.result ≡ Err c.in_err-tracker.field-0.0 = search rules in
    subst (λ r. IfErr r (MayStop g.S.Store.durable (declared_conts c.args.script.now) c.args.job.now.targets (stores_in c.args.parts.now))) (sym is) (may-stop-before g.S.Store.durable g.S.Store.state g.S.Store.may c.args.job.now.targets c.args.parts.now c.disarm.new.parts c.requires.stores.set c.disarm.ensures.set c.disarm.ensures.fuses (declared_conts c.args.script.now) c.in_err-tracker.field-0.0 c.in_err-tracker.ensures.refusals)

pub returns-in_err-tracker-clause-broke : goal.returns-in_err-tracker-clause-broke
returns-in_err-tracker-clause-broke g c B kept free room =
    let mid = kept-from g.S.Store.durable g.S.Store.state g.S.Store.may c.args.job.now.targets c.args.parts.now c.disarm.new.parts c.requires.stores.set c.disarm.ensures.set c.disarm.ensures.fuses B kept in
    whatever-stopped g.S.Store.may (given c.args.script.now c.args.job.now B free) B (stores_in c.open_parts.new.parts) c.from_residual.result (λ lasts found.
    left-off (given c.args.script.now c.args.job.now B free) B lasts (c.in_err-tracker.ensures.left B mid lasts found) (c.in_err-tracker.ensures.again B mid lasts found))

pub returns-in_err-clients-clause-served : goal.returns-in_err-clients-clause-served
returns-in_err-clients-clause-served g c =
    served-through g.S.Store.durable g.S.Store.state c.args.job.now.targets c.args.parts.now c.disarm.new.parts c.open_parts.new.parts c.requires.stores.set c.disarm.ensures.set (all-served g.S.Store.durable g.S.Store.state g.S.Store.may c.args.job.now.targets c.args.parts.now c.disarm.new.parts c.requires.stores.set c.disarm.ensures.set c.disarm.ensures.fuses) (calls-served {T = Epoch × List Snap} g.S.Store.durable g.S.Store.state c.args.job.now.targets c.disarm.new.parts c.open_parts.new.parts (Ok (c.in_ok-tracker.tracker, c.in_ok-tracker.held)) c.disarm.ensures.set c.in_ok-tracker.ensures.calls.set c.in_ok-tracker.ensures.calls.runs)

pub returns-in_err-clients-clause-unfused : goal.returns-in_err-clients-clause-unfused
returns-in_err-clients-clause-unfused g c =
    calls-gone {T = Epoch × List Snap} g.S.Store.durable g.S.Store.state c.args.job.now.targets c.disarm.new.parts c.open_parts.new.parts (Ok (c.in_ok-tracker.tracker, c.in_ok-tracker.held)) c.disarm.ensures.set c.in_ok-tracker.ensures.calls.set c.in_ok-tracker.ensures.calls.runs (all-gone g.S.Store.durable g.S.Store.state g.S.Store.may c.args.job.now.targets c.args.parts.now c.disarm.new.parts c.requires.stores.set c.disarm.ensures.set c.disarm.ensures.fuses)

pub returns-in_err-clients-clause-clocks : goal.returns-in_err-clients-clause-clocks
returns-in_err-clients-clause-clocks g c =
    read-through g.S.Store.durable g.S.Store.state c.args.job.now.targets c.args.parts.now c.disarm.new.parts c.open_parts.new.parts c.requires.stores.set c.disarm.ensures.set g.C.Clock.is_read c.disarm.ensures.clocks (stay-read g.C.Clock.is_read c.disarm.new.parts c.open_parts.new.parts c.in_ok-tracker.ensures.calls.clocks)

pub returns-in_err-clients-clause-broke : goal.returns-in_err-clients-clause-broke
returns-in_err-clients-clause-broke g c B kept free room =
    let mid = kept-from g.S.Store.durable g.S.Store.state g.S.Store.may c.args.job.now.targets c.args.parts.now c.disarm.new.parts c.requires.stores.set c.disarm.ensures.set c.disarm.ensures.fuses B kept in
    whatever-stopped g.S.Store.may (given c.args.script.now c.args.job.now B free) B (stores_in c.open_parts.new.parts) c.from_residual-in_err-clients.result (λ lasts found.
    left-off (given c.args.script.now c.args.job.now B free) B lasts (c.in_ok-tracker.ensures.left B mid lasts found) (c.in_ok-tracker.ensures.again B mid lasts found))

pub start_all-requires-clause-stores : goal.start_all-requires-clause-stores
start_all-requires-clause-stores g c =
    let laws = g.met.S.Store g.world.𝓛 g.world.𝓜 g.world.𝓡 ((λ s x. x), (λ x. x), (λ x. x), λ x. x) in
    can-start g.S.Store.durable g.S.Store.state g.S.Store.may c.args.script.now c.args.job.now c.args.parts.now c.disarm.new.parts c.open_parts.new.parts c.requires.script c.requires.least_targets c.requires.most_targets c.requires.least c.requires.stores.set c.disarm.ensures.set c.disarm.ensures.fuses c.requires.stores.each c.in_ok-tracker.tracker c.in_ok-tracker.held c.in_ok-tracker.ensures.calls c.in_ok-tracker.ensures.opened laws.alike

pub returns-in_err-targets-clause-served : goal.returns-in_err-targets-clause-served
returns-in_err-targets-clause-served g c =
    served-through g.S.Store.durable g.S.Store.state c.args.job.now.targets c.args.parts.now c.open_parts.new.parts c.start_all.new.parts c.requires.stores.set c.in_ok-tracker.ensures.calls.set (served-through g.S.Store.durable g.S.Store.state c.args.job.now.targets c.args.parts.now c.disarm.new.parts c.open_parts.new.parts c.requires.stores.set c.disarm.ensures.set (all-served g.S.Store.durable g.S.Store.state g.S.Store.may c.args.job.now.targets c.args.parts.now c.disarm.new.parts c.requires.stores.set c.disarm.ensures.set c.disarm.ensures.fuses) (calls-served {T = Epoch × List Snap} g.S.Store.durable g.S.Store.state c.args.job.now.targets c.disarm.new.parts c.open_parts.new.parts (Ok (c.in_ok-tracker.tracker, c.in_ok-tracker.held)) c.disarm.ensures.set c.in_ok-tracker.ensures.calls.set c.in_ok-tracker.ensures.calls.runs)) (again-served g.S.Store.durable g.S.Store.state c.args.job.now.targets c.open_parts.new.parts c.start_all.new.parts c.in_ok-tracker.ensures.calls.set c.in_err-targets.ensures.back)

pub returns-in_err-targets-clause-unfused : goal.returns-in_err-targets-clause-unfused
returns-in_err-targets-clause-unfused g c =
    again-gone g.S.Store.durable g.S.Store.state c.args.job.now.targets c.open_parts.new.parts c.start_all.new.parts c.in_ok-tracker.ensures.calls.set c.in_err-targets.ensures.back (calls-gone {T = Epoch × List Snap} g.S.Store.durable g.S.Store.state c.args.job.now.targets c.disarm.new.parts c.open_parts.new.parts (Ok (c.in_ok-tracker.tracker, c.in_ok-tracker.held)) c.disarm.ensures.set c.in_ok-tracker.ensures.calls.set c.in_ok-tracker.ensures.calls.runs (all-gone g.S.Store.durable g.S.Store.state g.S.Store.may c.args.job.now.targets c.args.parts.now c.disarm.new.parts c.requires.stores.set c.disarm.ensures.set c.disarm.ensures.fuses))

pub returns-in_err-targets-clause-clocks : goal.returns-in_err-targets-clause-clocks
returns-in_err-targets-clause-clocks g c =
    read-through g.S.Store.durable g.S.Store.state c.args.job.now.targets c.args.parts.now c.disarm.new.parts c.start_all.new.parts c.requires.stores.set c.disarm.ensures.set g.C.Clock.is_read c.disarm.ensures.clocks (read-through g.S.Store.durable g.S.Store.state c.args.job.now.targets c.disarm.new.parts c.open_parts.new.parts c.start_all.new.parts c.disarm.ensures.set c.in_ok-tracker.ensures.calls.set g.C.Clock.is_read c.in_ok-tracker.ensures.calls.clocks (stay-read g.C.Clock.is_read c.open_parts.new.parts c.start_all.new.parts (again-clocks g.S.Store.durable g.S.Store.state c.args.job.now.targets c.open_parts.new.parts c.start_all.new.parts c.in_ok-tracker.ensures.calls.set c.in_err-targets.ensures.back)))

pub returns-in_err-targets-clause-broke : goal.returns-in_err-targets-clause-broke
returns-in_err-targets-clause-broke g c B kept free room =
    let mid = kept-from g.S.Store.durable g.S.Store.state g.S.Store.may c.args.job.now.targets c.args.parts.now c.disarm.new.parts c.requires.stores.set c.disarm.ensures.set c.disarm.ensures.fuses B kept in
    whatever-stopped g.S.Store.may (given c.args.script.now c.args.job.now B free) B (stores_in c.start_all.new.parts) c.from_residual-in_err-targets.result (λ lasts found.
    let there = subst (λ l. MayBeFound g.S.Store.may l lasts) (again-stores g.S.Store.durable g.S.Store.state c.args.job.now.targets c.open_parts.new.parts c.start_all.new.parts c.in_ok-tracker.ensures.calls.set c.in_err-targets.ensures.back) found in
    left-off (given c.args.script.now c.args.job.now B free) B lasts (c.in_ok-tracker.ensures.left B mid lasts there) (c.in_ok-tracker.ensures.again B mid lasts there))

pub run_targets-targets-requires : goal.run_targets-targets-requires
run_targets-targets-requires g c = record {
  started =
      let laws = g.met.S.Store g.world.𝓛 g.world.𝓜 g.world.𝓡 ((λ s x. x), (λ x. x), (λ x. x), λ x. x) in
      let k = c.in_ok-tracker.ensures.bounded in
      may-start g.S.Store.durable g.S.Store.state g.S.Store.may c.args.script.now c.args.job.now c.args.parts.now c.disarm.new.parts c.open_parts.new.parts c.requires.script c.requires.least_targets c.requires.most_targets c.requires.least c.requires.stores.set c.disarm.ensures.set c.disarm.ensures.fuses c.requires.stores.each c.in_ok-tracker.tracker c.in_ok-tracker.held c.in_ok-tracker.ensures.calls c.in_ok-tracker.ensures.opened c.in_ok-clients.clients.items c.in_ok-targets.targets.items c.in_ok-clients.ensures c.in_ok-targets.ensures.started laws.alike k.0 k.2;
}

pub hand_back-requires-clause-taken : goal.hand_back-requires-clause-taken
hand_back-requires-clause-taken g c t low =
    let ran = c.run_targets-targets.ensures.served.many in
    let all = c.in_ok-targets.ensures.started.many in
    let set = c.in_ok-tracker.ensures.calls.set.many in
    let within : t < c.args.job.now.targets = omega (arith, low, ran, all) in
    let there : t < length c.open_parts.new.parts = omega (arith, within, set) in
    c.in_ok-targets.ensures.taken.taken t within there

pub returns-in_err-ran-clause-set : goal.returns-in_err-ran-clause-set
returns-in_err-ran-clause-set g c =
    all-set g.S.Store.durable c.args.job.now c.open_parts.new.parts c.start_all.new.parts c.hand_back.new.parts c.in_ok-targets.targets.items c.run_targets-targets.result.0.items c.in_ok-tracker.ensures.calls.set c.in_ok-targets.ensures.started c.in_ok-targets.ensures.taken c.run_targets-targets.ensures.served.many c.hand_back.ensures

pub returns-in_err-ran-clause-served : goal.returns-in_err-ran-clause-served
returns-in_err-ran-clause-served g c =
    served-through g.S.Store.durable g.S.Store.state c.args.job.now.targets c.args.parts.now c.open_parts.new.parts c.hand_back.new.parts c.requires.stores.set c.in_ok-tracker.ensures.calls.set (served-through g.S.Store.durable g.S.Store.state c.args.job.now.targets c.args.parts.now c.disarm.new.parts c.open_parts.new.parts c.requires.stores.set c.disarm.ensures.set (all-served g.S.Store.durable g.S.Store.state g.S.Store.may c.args.job.now.targets c.args.parts.now c.disarm.new.parts c.requires.stores.set c.disarm.ensures.set c.disarm.ensures.fuses) (calls-served {T = Epoch × List Snap} g.S.Store.durable g.S.Store.state c.args.job.now.targets c.disarm.new.parts c.open_parts.new.parts (Ok (c.in_ok-tracker.tracker, c.in_ok-tracker.held)) c.disarm.ensures.set c.in_ok-tracker.ensures.calls.set c.in_ok-tracker.ensures.calls.runs)) (run-served g.S.Store.durable c.args.job.now c.open_parts.new.parts c.start_all.new.parts c.hand_back.new.parts c.in_ok-targets.targets.items c.run_targets-targets.result.0.items c.in_ok-tracker.ensures.calls.set c.in_ok-targets.ensures.started c.in_ok-targets.ensures.taken c.run_targets-targets.ensures.served.many c.hand_back.ensures g.S.Store.state g.C.Clock.is_read c.run_targets-targets.ensures.served)

pub returns-in_err-ran-clause-unfused : goal.returns-in_err-ran-clause-unfused
returns-in_err-ran-clause-unfused g c =
    run-gone g.S.Store.durable c.args.job.now c.open_parts.new.parts c.start_all.new.parts c.hand_back.new.parts c.in_ok-targets.targets.items c.run_targets-targets.result.0.items c.in_ok-tracker.ensures.calls.set c.in_ok-targets.ensures.started c.in_ok-targets.ensures.taken c.run_targets-targets.ensures.served.many c.hand_back.ensures g.S.Store.state c.run_targets-targets.ensures.unfused

pub returns-in_err-ran-clause-clocks : goal.returns-in_err-ran-clause-clocks
returns-in_err-ran-clause-clocks g c =
    read-through g.S.Store.durable g.S.Store.state c.args.job.now.targets c.args.parts.now c.disarm.new.parts c.hand_back.new.parts c.requires.stores.set c.disarm.ensures.set g.C.Clock.is_read c.disarm.ensures.clocks (read-through g.S.Store.durable g.S.Store.state c.args.job.now.targets c.disarm.new.parts c.open_parts.new.parts c.hand_back.new.parts c.disarm.ensures.set c.in_ok-tracker.ensures.calls.set g.C.Clock.is_read c.in_ok-tracker.ensures.calls.clocks (run-read g.S.Store.durable c.args.job.now c.open_parts.new.parts c.start_all.new.parts c.hand_back.new.parts c.in_ok-targets.targets.items c.run_targets-targets.result.0.items c.in_ok-tracker.ensures.calls.set c.in_ok-targets.ensures.started c.in_ok-targets.ensures.taken c.run_targets-targets.ensures.served.many c.hand_back.ensures g.S.Store.state g.C.Clock.is_read c.run_targets-targets.ensures.served))

pub returns-in_err-ran-clause-broke : goal.returns-in_err-ran-clause-broke
returns-in_err-ran-clause-broke g c B kept free room =
    let broke = c.run_targets-targets.ensures.broke (opening_of c.args.script.now B free) (started g.S.Store.durable g.S.Store.state g.S.Store.may c.args.script.now c.args.job.now c.args.parts.now c.disarm.new.parts c.open_parts.new.parts c.requires.script c.requires.least_targets c.requires.most_targets c.requires.least c.requires.stores.set c.disarm.ensures.set c.disarm.ensures.fuses c.requires.stores.each c.in_ok-tracker.tracker c.in_ok-tracker.held c.in_ok-tracker.ensures.calls c.in_ok-tracker.ensures.opened c.in_ok-clients.clients.items c.in_ok-targets.targets.items c.in_ok-clients.ensures c.in_ok-targets.ensures.started B kept free room) (all-tell g.S.Store.durable g.S.Store.state g.S.Store.may c.args.script.now c.args.job.now c.args.parts.now c.disarm.new.parts c.open_parts.new.parts c.requires.script c.requires.least_targets c.requires.most_targets c.requires.least c.requires.stores.set c.disarm.ensures.set c.disarm.ensures.fuses c.requires.stores.each c.in_ok-tracker.tracker c.in_ok-tracker.held c.in_ok-tracker.ensures.calls c.in_ok-tracker.ensures.opened c.in_ok-clients.clients.items c.in_ok-targets.targets.items c.in_ok-clients.ensures c.in_ok-targets.ensures.started B kept) in
    whatever-stopped g.S.Store.may (given c.args.script.now c.args.job.now B free) B (stores_in c.hand_back.new.parts) c.from_residual-in_err-ran.result
    (break-off g.S.Store.durable g.S.Store.state g.S.Store.may c.args.script.now c.args.job.now c.args.parts.now c.disarm.new.parts c.open_parts.new.parts c.requires.script c.requires.least_targets c.requires.most_targets c.requires.least c.requires.stores.set c.disarm.ensures.set c.disarm.ensures.fuses c.requires.stores.each c.in_ok-tracker.tracker c.in_ok-tracker.held c.in_ok-tracker.ensures.calls c.in_ok-tracker.ensures.opened c.in_ok-clients.clients.items c.in_ok-targets.targets.items c.in_ok-clients.ensures c.in_ok-targets.ensures.started c.start_all.new.parts c.hand_back.new.parts c.run_targets-targets.result.0.items (returns-in_err-ran-clause-set g c) c.run_targets-targets.ensures.served.many c.hand_back.ensures B free kept (c.requires.sound B kept)
    (subst (λ r. IfErr r (λ error. BreaksOffSo g.S.Store.durable g.S.Store.may (given c.args.script.now c.args.job.now B free) (stores_of c.in_ok-targets.targets.items) (stores_of c.run_targets-targets.result.0.items))) c.in_err-ran.was broke))

pub returns-clause-set : goal.returns-clause-set
returns-clause-set g c =
    all-set g.S.Store.durable c.args.job.now c.open_parts.new.parts c.start_all.new.parts c.hand_back.new.parts c.in_ok-targets.targets.items c.run_targets-targets.result.0.items c.in_ok-tracker.ensures.calls.set c.in_ok-targets.ensures.started c.in_ok-targets.ensures.taken c.run_targets-targets.ensures.served.many c.hand_back.ensures

pub returns-clause-served : goal.returns-clause-served
returns-clause-served g c =
    served-through g.S.Store.durable g.S.Store.state c.args.job.now.targets c.args.parts.now c.open_parts.new.parts c.hand_back.new.parts c.requires.stores.set c.in_ok-tracker.ensures.calls.set (served-through g.S.Store.durable g.S.Store.state c.args.job.now.targets c.args.parts.now c.disarm.new.parts c.open_parts.new.parts c.requires.stores.set c.disarm.ensures.set (all-served g.S.Store.durable g.S.Store.state g.S.Store.may c.args.job.now.targets c.args.parts.now c.disarm.new.parts c.requires.stores.set c.disarm.ensures.set c.disarm.ensures.fuses) (calls-served {T = Epoch × List Snap} g.S.Store.durable g.S.Store.state c.args.job.now.targets c.disarm.new.parts c.open_parts.new.parts (Ok (c.in_ok-tracker.tracker, c.in_ok-tracker.held)) c.disarm.ensures.set c.in_ok-tracker.ensures.calls.set c.in_ok-tracker.ensures.calls.runs)) (run-served g.S.Store.durable c.args.job.now c.open_parts.new.parts c.start_all.new.parts c.hand_back.new.parts c.in_ok-targets.targets.items c.run_targets-targets.result.0.items c.in_ok-tracker.ensures.calls.set c.in_ok-targets.ensures.started c.in_ok-targets.ensures.taken c.run_targets-targets.ensures.served.many c.hand_back.ensures g.S.Store.state g.C.Clock.is_read c.run_targets-targets.ensures.served)

pub returns-clause-unfused : goal.returns-clause-unfused
returns-clause-unfused g c =
    run-gone g.S.Store.durable c.args.job.now c.open_parts.new.parts c.start_all.new.parts c.hand_back.new.parts c.in_ok-targets.targets.items c.run_targets-targets.result.0.items c.in_ok-tracker.ensures.calls.set c.in_ok-targets.ensures.started c.in_ok-targets.ensures.taken c.run_targets-targets.ensures.served.many c.hand_back.ensures g.S.Store.state c.run_targets-targets.ensures.unfused

pub returns-clause-clocks : goal.returns-clause-clocks
returns-clause-clocks g c =
    read-through g.S.Store.durable g.S.Store.state c.args.job.now.targets c.args.parts.now c.disarm.new.parts c.hand_back.new.parts c.requires.stores.set c.disarm.ensures.set g.C.Clock.is_read c.disarm.ensures.clocks (read-through g.S.Store.durable g.S.Store.state c.args.job.now.targets c.disarm.new.parts c.open_parts.new.parts c.hand_back.new.parts c.disarm.ensures.set c.in_ok-tracker.ensures.calls.set g.C.Clock.is_read c.in_ok-tracker.ensures.calls.clocks (run-read g.S.Store.durable c.args.job.now c.open_parts.new.parts c.start_all.new.parts c.hand_back.new.parts c.in_ok-targets.targets.items c.run_targets-targets.result.0.items c.in_ok-tracker.ensures.calls.set c.in_ok-targets.ensures.started c.in_ok-targets.ensures.taken c.run_targets-targets.ensures.served.many c.hand_back.ensures g.S.Store.state g.C.Clock.is_read c.run_targets-targets.ensures.served))

pub returns-clause-comes : goal.returns-clause-comes
returns-clause-comes g c B kept free room =
    come-from g.S.Store.durable g.S.Store.state g.S.Store.may c.args.script.now c.args.job.now c.args.parts.now c.disarm.new.parts c.open_parts.new.parts c.requires.script c.requires.least_targets c.requires.most_targets c.requires.least c.requires.stores.set c.disarm.ensures.set c.disarm.ensures.fuses c.requires.stores.each c.in_ok-tracker.tracker c.in_ok-tracker.held c.in_ok-tracker.ensures.calls c.in_ok-tracker.ensures.opened c.in_ok-clients.clients.items c.in_ok-targets.targets.items c.in_ok-clients.ensures c.in_ok-targets.ensures.started c.start_all.new.parts c.hand_back.new.parts c.run_targets-targets.result.0.items (returns-clause-set g c) c.run_targets-targets.ensures.served.many c.hand_back.ensures B free c.in_ok-ran.field-0 kept room
    (subst (λ r. IfOk r (ComesTo g.S.Store.durable g.S.Store.state g.S.Store.may (given c.args.script.now c.args.job.now B free) (stores_of c.in_ok-targets.targets.items) (stores_of c.run_targets-targets.result.0.items))) c.in_ok-ran.was
    (c.run_targets-targets.ensures.comes (opening_of c.args.script.now B free) (started g.S.Store.durable g.S.Store.state g.S.Store.may c.args.script.now c.args.job.now c.args.parts.now c.disarm.new.parts c.open_parts.new.parts c.requires.script c.requires.least_targets c.requires.most_targets c.requires.least c.requires.stores.set c.disarm.ensures.set c.disarm.ensures.fuses c.requires.stores.each c.in_ok-tracker.tracker c.in_ok-tracker.held c.in_ok-tracker.ensures.calls c.in_ok-tracker.ensures.opened c.in_ok-clients.clients.items c.in_ok-targets.targets.items c.in_ok-clients.ensures c.in_ok-targets.ensures.started B kept free room) (all-tell g.S.Store.durable g.S.Store.state g.S.Store.may c.args.script.now c.args.job.now c.args.parts.now c.disarm.new.parts c.open_parts.new.parts c.requires.script c.requires.least_targets c.requires.most_targets c.requires.least c.requires.stores.set c.disarm.ensures.set c.disarm.ensures.fuses c.requires.stores.each c.in_ok-tracker.tracker c.in_ok-tracker.held c.in_ok-tracker.ensures.calls c.in_ok-tracker.ensures.opened c.in_ok-clients.clients.items c.in_ok-targets.targets.items c.in_ok-clients.ensures c.in_ok-targets.ensures.started B kept)))

pub returns-clause-read : goal.returns-clause-read
returns-clause-read g c B kept free room =
    let old = c.args.parts.now in
    let mid = c.disarm.new.parts in
    let opened = c.open_parts.new.parts in
    let new = c.hand_back.new.parts in
    let set = c.requires.stores.set in
    let calls = c.in_ok-tracker.ensures.calls in
    let k =
    subst (λ r. IfOk r (ComesByClocks g.S.Store.durable g.S.Store.state g.S.Store.may g.C.Clock.is_read g.C.Clock.next (given c.args.script.now c.args.job.now B free) c.in_ok-targets.targets.items c.run_targets-targets.result.0.items)) c.in_ok-ran.was
    (c.run_targets-targets.ensures.read (opening_of c.args.script.now B free) (started g.S.Store.durable g.S.Store.state g.S.Store.may c.args.script.now c.args.job.now c.args.parts.now c.disarm.new.parts c.open_parts.new.parts c.requires.script c.requires.least_targets c.requires.most_targets c.requires.least c.requires.stores.set c.disarm.ensures.set c.disarm.ensures.fuses c.requires.stores.each c.in_ok-tracker.tracker c.in_ok-tracker.held c.in_ok-tracker.ensures.calls c.in_ok-tracker.ensures.opened c.in_ok-clients.clients.items c.in_ok-targets.targets.items c.in_ok-clients.ensures c.in_ok-targets.ensures.started B kept free room) (all-tell g.S.Store.durable g.S.Store.state g.S.Store.may c.args.script.now c.args.job.now c.args.parts.now c.disarm.new.parts c.open_parts.new.parts c.requires.script c.requires.least_targets c.requires.most_targets c.requires.least c.requires.stores.set c.disarm.ensures.set c.disarm.ensures.fuses c.requires.stores.each c.in_ok-tracker.tracker c.in_ok-tracker.held c.in_ok-tracker.ensures.calls c.in_ok-tracker.ensures.opened c.in_ok-clients.clients.items c.in_ok-targets.targets.items c.in_ok-clients.ensures c.in_ok-targets.ensures.started B kept)) in
    record {
      from = come-from g.S.Store.durable g.S.Store.state g.S.Store.may c.args.script.now c.args.job.now c.args.parts.now c.disarm.new.parts c.open_parts.new.parts c.requires.script c.requires.least_targets c.requires.most_targets c.requires.least c.requires.stores.set c.disarm.ensures.set c.disarm.ensures.fuses c.requires.stores.each c.in_ok-tracker.tracker c.in_ok-tracker.held c.in_ok-tracker.ensures.calls c.in_ok-tracker.ensures.opened c.in_ok-clients.clients.items c.in_ok-targets.targets.items c.in_ok-clients.ensures c.in_ok-targets.ensures.started c.start_all.new.parts c.hand_back.new.parts c.run_targets-targets.result.0.items (returns-clause-set g c) c.run_targets-targets.ensures.served.many c.hand_back.ensures B free c.in_ok-ran.field-0 kept room k.comes;
      clocks =
          come-by_clocks g.S.Store.durable g.S.Store.state g.S.Store.may c.args.script.now c.args.job.now c.args.parts.now c.disarm.new.parts c.open_parts.new.parts c.requires.script c.requires.least_targets c.requires.most_targets c.requires.least c.requires.stores.set c.disarm.ensures.set c.disarm.ensures.fuses c.requires.stores.each c.in_ok-tracker.tracker c.in_ok-tracker.held c.in_ok-tracker.ensures.calls c.in_ok-tracker.ensures.opened c.in_ok-clients.clients.items c.in_ok-targets.targets.items c.in_ok-clients.ensures c.in_ok-targets.ensures.started c.start_all.new.parts c.hand_back.new.parts c.run_targets-targets.result.0.items (returns-clause-set g c) c.run_targets-targets.ensures.served.many c.hand_back.ensures g.C.Clock.is_read g.C.Clock.next B free c.in_ok-ran.field-0 kept room k.comes (AreClocksIn old new)
          (λ t e d its. k.clocks t e d (run-clocks g.S.Store.durable c.args.job.now opened c.start_all.new.parts new c.in_ok-targets.targets.items c.run_targets-targets.result.0.items calls.set c.in_ok-targets.ensures.started c.in_ok-targets.ensures.taken c.run_targets-targets.ensures.served.many c.hand_back.ensures t e d
          (clocks-through g.S.Store.durable g.S.Store.state c.args.job.now.targets mid opened new c.disarm.ensures.set calls.set calls.clocks t e d (clocks-through g.S.Store.durable g.S.Store.state c.args.job.now.targets old mid new set c.disarm.ensures.set c.disarm.ensures.clocks t e d its))));
    }

pub returns-clause-room : goal.returns-clause-room
returns-clause-room g c B kept free room places has =
    let laws = g.met.S.Store g.world.𝓛 g.world.𝓜 g.world.𝓡 ((λ s x. x), (λ x. x), (λ x. x), λ x. x) in
    let first = told-first g.S.Store.durable c.args.job.now.targets c.args.parts.now c.requires.stores.set c.requires.least_targets B kept in
    finds-room g.S.Store.durable g.S.Store.state g.S.Store.may c.args.script.now c.args.job.now (opening_of c.args.script.now B free) (stores_in c.args.parts.now) (stores_in c.hand_back.new.parts) c.in_ok-ran.field-0 c.requires.script c.requires.least_targets c.requires.least (returns-clause-comes g c B kept free room)
    laws.findable laws.alike first.0 first.1 places has

pub returns-clause-places : goal.returns-clause-places
returns-clause-places g c B kept free room places =
    let laws = g.met.S.Store g.world.𝓛 g.world.𝓜 g.world.𝓡 ((λ s x. x), (λ x. x), (λ x. x), λ x. x) in
    let first = told-first g.S.Store.durable c.args.job.now.targets c.args.parts.now c.requires.stores.set c.requires.least_targets B kept in
    finds-places g.S.Store.durable g.S.Store.state g.S.Store.may c.args.script.now c.args.job.now (opening_of c.args.script.now B free) (stores_in c.args.parts.now) (stores_in c.hand_back.new.parts) c.in_ok-ran.field-0 c.requires.script c.requires.least_targets c.requires.least (returns-clause-comes g c B kept free room)
    laws.findable laws.alike first.0 first.1 places

pub returns-clause-back : goal.returns-clause-back
returns-clause-back g c B kept free room keyed =
    let laws = g.met.S.Store g.world.𝓛 g.world.𝓜 g.world.𝓡 ((λ s x. x), (λ x. x), (λ x. x), λ x. x) in
    let first = told-first g.S.Store.durable c.args.job.now.targets c.args.parts.now c.requires.stores.set c.requires.least_targets B kept in
    let back = c.laws_of_reading_back.ensures in
    let ran = c.run_targets-targets.ensures in
    is-read-back g.S.Store.durable g.S.Store.state g.S.Store.may c.args.script.now c.args.job.now (opening_of c.args.script.now B free) (stores_in c.args.parts.now) (stores_in c.hand_back.new.parts) c.in_ok-ran.field-0 c.requires.script c.requires.least_targets (returns-clause-comes g c B kept free room)
    laws.findable laws.alike first.0 first.1 keyed back.spelled back.for_script back.back
    (subst (λ r. IfOk r (λ q. AllAnswersFit c.args.script.now q.lines)) c.in_ok-ran.was ran.kinds) (subst (λ r. IfOk r (λ q. AllTellInOrder c.args.script.now q.lines)) c.in_ok-ran.was ran.in_order)
    (subst (λ r. IfOk r (λ q. AllTellBytes q.lines)) c.in_ok-ran.was ran.bytes)

pub returns-clause-alone : goal.returns-clause-alone
returns-clause-alone g c B kept free room one unstopped = (returns-clause-comes g c B kept free room).comes.alone one unstopped

pub returns-clause-lone : goal.returns-clause-lone
returns-clause-lone g c B kept free room plain one stopless unstopped =
    tells-of-lone-client g.S.Store.durable g.S.Store.state g.S.Store.may c.args.script.now c.args.job.now (opening_of c.args.script.now B free) (stores_in c.args.parts.now) (stores_in c.hand_back.new.parts) c.in_ok-ran.field-0 c.requires.script c.requires.least_targets c.requires.least (returns-clause-comes g c B kept free room)
    plain one stopless unstopped

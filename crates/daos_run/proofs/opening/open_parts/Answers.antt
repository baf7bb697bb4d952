use Rattle.std.specs.Prelude.{◌≡◌, length}
use Rattle.std.proofs.Common.{◌∙◌, ap, arith, subst, sym}
use Rattle.daos_run.specs.Slots.{AreApart, AreSetBack}
use Rattle.daos_run.proofs.Opened.{are-new, are-stores, called-err, called-ok, each-runs, may-stop, none-again, none-left, take-first}
use Rattle.run_starts.specs.run_opening.All.{AreKept, MayBeFound}
use Rattle.run_starts.specs.Starts.{AreOpened}
use Rattle.run_targets.specs.Ends.{declared_conts}
use Rattle.daos_run.proofs.opening.open_parts.Goals as goal

pub open_stores-opened-requires-clause-running : goal.open_stores-opened-requires-clause-running
open_stores-opened-requires-clause-running g c =
    each-runs c.args.targets c.args.parts.now c.deref_mut.result.now c.in_ok-stores.clocks.items c.requires.set
    (subst (λ l. AreApart c.args.targets c.args.parts.now l c.in_ok-stores.clocks.items) (sym c.deref_mut.ensures.value) c.in_ok-stores.ensures.apart) g.S.Store.state c.requires.running

pub open_stores-opened-requires-clause-sound : goal.open_stores-opened-requires-clause-sound
open_stores-opened-requires-clause-sound g c B kept =
    c.requires.sound B (subst (λ l. AreKept g.S.Store.durable l B)
    (are-stores c.args.targets c.args.parts.now c.deref_mut.result.now c.in_ok-stores.clocks.items c.requires.set
    (subst (λ l. AreApart c.args.targets c.args.parts.now l c.in_ok-stores.clocks.items) (sym c.deref_mut.ensures.value) c.in_ok-stores.ensures.apart)) kept)

pub returns-in-Ok-clause-calls : goal.returns-in-Ok-clause-calls
returns-in-Ok-clause-calls g c =
    let apart : AreApart c.args.targets c.args.parts.now c.deref_mut.result.now c.in_ok-stores.clocks.items = subst (λ l. AreApart c.args.targets c.args.parts.now l c.in_ok-stores.clocks.items) (sym c.deref_mut.ensures.value) c.in_ok-stores.ensures.apart in
    let back : AreSetBack c.open_stores-opened.new.stores c.in_ok-stores.clocks.items c.take_all.new.parts c.set_back.new.parts =
    (let held = c.in_ok-stores.stores.ok.0 in let long : length c.open_stores-opened.new.stores ≡ length c.in_ok-stores.stores.items = c.in-Ok.ensures.calls.many ∙ ap length c.deref_mut.ensures.value in
    subst (λ l. AreSetBack l c.in_ok-stores.clocks.items c.take_all.new.parts c.set_back.new.parts) (take-first c.open_stores-opened.new.stores _ c.in_ok-stores.stores.len (omega (arith, held, long))) c.set_back.ensures) in
    called-ok c.args.targets c.args.parts.now c.deref_mut.result.now c.in_ok-stores.clocks.items c.requires.set apart c.take_all.new.parts c.set_back.new.parts c.open_stores-opened.new.stores c.in-Ok.ensures.calls.many c.in_ok-stores.ensures.taken back
    g.S.Store.durable g.S.Store.state c.in-Ok.opened c.in-Ok.ensures.calls

pub returns-in-Ok-clause-opened : goal.returns-in-Ok-clause-opened
returns-in-Ok-clause-opened g c B kept =
    let apart : AreApart c.args.targets c.args.parts.now c.deref_mut.result.now c.in_ok-stores.clocks.items = subst (λ l. AreApart c.args.targets c.args.parts.now l c.in_ok-stores.clocks.items) (sym c.deref_mut.ensures.value) c.in_ok-stores.ensures.apart in
    let back : AreSetBack c.open_stores-opened.new.stores c.in_ok-stores.clocks.items c.take_all.new.parts c.set_back.new.parts =
    (let held = c.in_ok-stores.stores.ok.0 in let long : length c.open_stores-opened.new.stores ≡ length c.in_ok-stores.stores.items = c.in-Ok.ensures.calls.many ∙ ap length c.deref_mut.ensures.value in
    subst (λ l. AreSetBack l c.in_ok-stores.clocks.items c.take_all.new.parts c.set_back.new.parts) (take-first c.open_stores-opened.new.stores _ c.in_ok-stores.stores.len (omega (arith, held, long))) c.set_back.ensures) in
    let there = subst (λ l. AreKept g.S.Store.durable l B) (sym (are-stores c.args.targets c.args.parts.now c.deref_mut.result.now c.in_ok-stores.clocks.items c.requires.set apart)) kept in
    subst (λ l. AreOpened g.S.Store.durable g.S.Store.state c.args.script.now B l c.in-Ok.opened.0 c.in-Ok.opened.1)
    (are-new c.args.targets c.args.parts.now c.deref_mut.result.now c.in_ok-stores.clocks.items c.requires.set apart c.take_all.new.parts c.set_back.new.parts c.open_stores-opened.new.stores c.in-Ok.ensures.calls.many c.in_ok-stores.ensures.taken back)
    (c.in-Ok.ensures.opened B there)

pub returns-in-Ok-clause-left : goal.returns-in-Ok-clause-left
returns-in-Ok-clause-left g c B kept lasts found =
    let apart : AreApart c.args.targets c.args.parts.now c.deref_mut.result.now c.in_ok-stores.clocks.items = subst (λ l. AreApart c.args.targets c.args.parts.now l c.in_ok-stores.clocks.items) (sym c.deref_mut.ensures.value) c.in_ok-stores.ensures.apart in
    let back : AreSetBack c.open_stores-opened.new.stores c.in_ok-stores.clocks.items c.take_all.new.parts c.set_back.new.parts =
    (let held = c.in_ok-stores.stores.ok.0 in let long : length c.open_stores-opened.new.stores ≡ length c.in_ok-stores.stores.items = c.in-Ok.ensures.calls.many ∙ ap length c.deref_mut.ensures.value in
    subst (λ l. AreSetBack l c.in_ok-stores.clocks.items c.take_all.new.parts c.set_back.new.parts) (take-first c.open_stores-opened.new.stores _ c.in_ok-stores.stores.len (omega (arith, held, long))) c.set_back.ensures) in
    let there = subst (λ l. AreKept g.S.Store.durable l B) (sym (are-stores c.args.targets c.args.parts.now c.deref_mut.result.now c.in_ok-stores.clocks.items c.requires.set apart)) kept in
    c.in-Ok.ensures.left B there lasts (subst (λ l. MayBeFound g.S.Store.may l lasts)
    (sym (are-new c.args.targets c.args.parts.now c.deref_mut.result.now c.in_ok-stores.clocks.items c.requires.set apart c.take_all.new.parts c.set_back.new.parts c.open_stores-opened.new.stores c.in-Ok.ensures.calls.many c.in_ok-stores.ensures.taken back)) found)

pub returns-in-Ok-clause-again : goal.returns-in-Ok-clause-again
returns-in-Ok-clause-again g c B kept lasts found =
    let apart : AreApart c.args.targets c.args.parts.now c.deref_mut.result.now c.in_ok-stores.clocks.items = subst (λ l. AreApart c.args.targets c.args.parts.now l c.in_ok-stores.clocks.items) (sym c.deref_mut.ensures.value) c.in_ok-stores.ensures.apart in
    let back : AreSetBack c.open_stores-opened.new.stores c.in_ok-stores.clocks.items c.take_all.new.parts c.set_back.new.parts =
    (let held = c.in_ok-stores.stores.ok.0 in let long : length c.open_stores-opened.new.stores ≡ length c.in_ok-stores.stores.items = c.in-Ok.ensures.calls.many ∙ ap length c.deref_mut.ensures.value in
    subst (λ l. AreSetBack l c.in_ok-stores.clocks.items c.take_all.new.parts c.set_back.new.parts) (take-first c.open_stores-opened.new.stores _ c.in_ok-stores.stores.len (omega (arith, held, long))) c.set_back.ensures) in
    let there = subst (λ l. AreKept g.S.Store.durable l B) (sym (are-stores c.args.targets c.args.parts.now c.deref_mut.result.now c.in_ok-stores.clocks.items c.requires.set apart)) kept in
    c.in-Ok.ensures.again B there lasts (subst (λ l. MayBeFound g.S.Store.may l lasts)
    (sym (are-new c.args.targets c.args.parts.now c.deref_mut.result.now c.in_ok-stores.clocks.items c.requires.set apart c.take_all.new.parts c.set_back.new.parts c.open_stores-opened.new.stores c.in-Ok.ensures.calls.many c.in_ok-stores.ensures.taken back)) found)

pub returns-in-Err-clause-calls : goal.returns-in-Err-clause-calls
returns-in-Err-clause-calls g c =
    let apart : AreApart c.args.targets c.args.parts.now c.deref_mut.result.now c.in_ok-stores.clocks.items = subst (λ l. AreApart c.args.targets c.args.parts.now l c.in_ok-stores.clocks.items) (sym c.deref_mut.ensures.value) c.in_ok-stores.ensures.apart in
    let back : AreSetBack c.open_stores-opened.new.stores c.in_ok-stores.clocks.items c.take_all.new.parts c.set_back.new.parts =
    (let held = c.in_ok-stores.stores.ok.0 in let long : length c.open_stores-opened.new.stores ≡ length c.in_ok-stores.stores.items = c.in-Err.ensures.calls.many ∙ ap length c.deref_mut.ensures.value in
    subst (λ l. AreSetBack l c.in_ok-stores.clocks.items c.take_all.new.parts c.set_back.new.parts) (take-first c.open_stores-opened.new.stores _ c.in_ok-stores.stores.len (omega (arith, held, long))) c.set_back.ensures) in
    called-err c.args.targets c.args.parts.now c.deref_mut.result.now c.in_ok-stores.clocks.items c.requires.set apart c.take_all.new.parts c.set_back.new.parts c.open_stores-opened.new.stores c.in-Err.ensures.calls.many c.in_ok-stores.ensures.taken back
    g.S.Store.durable g.S.Store.state c.in-Err.stop c.stop_of.result c.stop_of.ensures c.in-Err.ensures.calls

pub returns-in-Err-clause-refusals : goal.returns-in-Err-clause-refusals
returns-in-Err-clause-refusals g c =
    may-stop c.args.targets c.args.parts.now c.deref_mut.result.now c.in_ok-stores.clocks.items c.requires.set
    (subst (λ l. AreApart c.args.targets c.args.parts.now l c.in_ok-stores.clocks.items) (sym c.deref_mut.ensures.value) c.in_ok-stores.ensures.apart)
    g.S.Store.durable (declared_conts c.args.script.now) c.in-Err.stop c.stop_of.result c.stop_of.ensures c.in-Err.ensures.why

pub returns-in_err-stores-clause-left : goal.returns-in_err-stores-clause-left
returns-in_err-stores-clause-left g c B kept lasts found =
    none-left g.S.Store.durable g.S.Store.state g.S.Store.may g.met.S.Store.steady c.args.targets c.args.parts.now c.requires.set c.requires.running c.take_all.new.parts c.in_err-stores.ensures.kept B kept (c.requires.sound B kept) lasts found c.args.script.now

pub returns-in_err-stores-clause-again : goal.returns-in_err-stores-clause-again
returns-in_err-stores-clause-again g c B kept lasts found =
    none-again g.S.Store.durable g.S.Store.state g.S.Store.may g.met.S.Store.steady c.args.targets c.args.parts.now c.requires.set c.requires.running c.take_all.new.parts c.in_err-stores.ensures.kept B kept (c.requires.sound B kept) lasts found

pub returns-in-Err-clause-left : goal.returns-in-Err-clause-left
returns-in-Err-clause-left g c B kept lasts found =
    let apart : AreApart c.args.targets c.args.parts.now c.deref_mut.result.now c.in_ok-stores.clocks.items = subst (λ l. AreApart c.args.targets c.args.parts.now l c.in_ok-stores.clocks.items) (sym c.deref_mut.ensures.value) c.in_ok-stores.ensures.apart in
    let back : AreSetBack c.open_stores-opened.new.stores c.in_ok-stores.clocks.items c.take_all.new.parts c.set_back.new.parts =
    (let held = c.in_ok-stores.stores.ok.0 in let long : length c.open_stores-opened.new.stores ≡ length c.in_ok-stores.stores.items = c.in-Err.ensures.calls.many ∙ ap length c.deref_mut.ensures.value in
    subst (λ l. AreSetBack l c.in_ok-stores.clocks.items c.take_all.new.parts c.set_back.new.parts) (take-first c.open_stores-opened.new.stores _ c.in_ok-stores.stores.len (omega (arith, held, long))) c.set_back.ensures) in
    let there = subst (λ l. AreKept g.S.Store.durable l B) (sym (are-stores c.args.targets c.args.parts.now c.deref_mut.result.now c.in_ok-stores.clocks.items c.requires.set apart)) kept in
    c.in-Err.ensures.left B there lasts (subst (λ l. MayBeFound g.S.Store.may l lasts)
    (sym (are-new c.args.targets c.args.parts.now c.deref_mut.result.now c.in_ok-stores.clocks.items c.requires.set apart c.take_all.new.parts c.set_back.new.parts c.open_stores-opened.new.stores c.in-Err.ensures.calls.many c.in_ok-stores.ensures.taken back)) found)

pub returns-in-Err-clause-again : goal.returns-in-Err-clause-again
returns-in-Err-clause-again g c B kept lasts found =
    let apart : AreApart c.args.targets c.args.parts.now c.deref_mut.result.now c.in_ok-stores.clocks.items = subst (λ l. AreApart c.args.targets c.args.parts.now l c.in_ok-stores.clocks.items) (sym c.deref_mut.ensures.value) c.in_ok-stores.ensures.apart in
    let back : AreSetBack c.open_stores-opened.new.stores c.in_ok-stores.clocks.items c.take_all.new.parts c.set_back.new.parts =
    (let held = c.in_ok-stores.stores.ok.0 in let long : length c.open_stores-opened.new.stores ≡ length c.in_ok-stores.stores.items = c.in-Err.ensures.calls.many ∙ ap length c.deref_mut.ensures.value in
    subst (λ l. AreSetBack l c.in_ok-stores.clocks.items c.take_all.new.parts c.set_back.new.parts) (take-first c.open_stores-opened.new.stores _ c.in_ok-stores.stores.len (omega (arith, held, long))) c.set_back.ensures) in
    let there = subst (λ l. AreKept g.S.Store.durable l B) (sym (are-stores c.args.targets c.args.parts.now c.deref_mut.result.now c.in_ok-stores.clocks.items c.requires.set apart)) kept in
    c.in-Err.ensures.again B there lasts (subst (λ l. MayBeFound g.S.Store.may l lasts)
    (sym (are-new c.args.targets c.args.parts.now c.deref_mut.result.now c.in_ok-stores.clocks.items c.requires.set apart c.take_all.new.parts c.set_back.new.parts c.open_stores-opened.new.stores c.in-Err.ensures.calls.many c.in_ok-stores.ensures.taken back)) found)

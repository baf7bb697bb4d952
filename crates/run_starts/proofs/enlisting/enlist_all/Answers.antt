use Rattle.std.specs.Prelude.{◌≡◌, ◌≤◌, ◌<◌, Err, IfErr, length}
use Rattle.std.proofs.Common.{arith, rules, subst, sym}
use Rattle.run_starts.specs.Calls.{RunAll, WhyNotOpened}
use Rattle.run_starts.proofs.Adding.{left-err, left-ok, none-added, one-added, run-err, run-ok, still-run, why-err, with-all}
use Rattle.run_starts.proofs.enlisting.enlist_all.Goals as goal

pub loop-t-init : goal.loop-t-init
loop-t-init g c = none-added g.S.Store.durable g.S.Store.state c.args.conts.now c.args.stores.now

pub enlist_at-requires-clause-running : goal.enlist_at-requires-clause-running
enlist_at-requires-clause-running g c = still-run g.S.Store.durable g.S.Store.state c.args.conts.now c.loop-t.t c.args.stores.now c.loop-t.stores c.requires.running c.loop-t.invariant

pub returns-in_err-enlist_at-clause-calls : goal.returns-in_err-enlist_at-clause-calls
returns-in_err-enlist_at-clause-calls g c =
    let is : c.from_residual.result ≡ Err c.in_err-enlist_at.field-0.0 = search rules in
    let many = c.loop-t.invariant.many in
    let low = c.loop-t-test.true in
    let within : c.loop-t.t < length c.loop-t.stores = omega (arith, many, low) in
    subst (λ r. RunAll {T = Unit {0}} g.S.Store.durable g.S.Store.state r c.args.stores.now c.enlist_at.new.stores) (sym is)
    (run-err g.S.Store.durable g.S.Store.state c.args.conts.now c.loop-t.t c.args.stores.now c.loop-t.stores c.enlist_at.new.stores c.loop-t.invariant c.in_err-enlist_at.field-0.0 c.in_err-enlist_at.ensures.enlists within c.requires.running)

pub returns-in_err-enlist_at-clause-why : goal.returns-in_err-enlist_at-clause-why
returns-in_err-enlist_at-clause-why g c =
    let is : c.from_residual.result ≡ Err c.in_err-enlist_at.field-0.0 = search rules in
    let many = c.loop-t.invariant.many in
    let low = c.loop-t-test.true in
    let within : c.loop-t.t < length c.loop-t.stores = omega (arith, many, low) in
    subst (λ r. IfErr r (WhyNotOpened g.S.Store.durable c.args.conts.now c.args.stores.now)) (sym is)
    (why-err g.S.Store.durable g.S.Store.state c.args.conts.now c.loop-t.t c.args.stores.now c.loop-t.stores c.enlist_at.new.stores c.loop-t.invariant c.in_err-enlist_at.field-0.0 c.in_err-enlist_at.ensures.enlists within c.requires.running)

pub loop-t-preserved : goal.loop-t-preserved
loop-t-preserved g c = one-added g.S.Store.durable g.S.Store.state c.args.conts.now c.loop-t.t c.args.stores.now c.loop-t.stores c.enlist_at.new.stores c.loop-t.invariant c.in_ok-enlist_at.ensures.enlists

pub returns-clause-calls : goal.returns-clause-calls
returns-clause-calls g c =
    let over = c.loop-t-test.false in
    let past : length c.args.stores.now ≤ c.loop-t.t = omega (arith, over) in
    run-ok g.S.Store.durable g.S.Store.state c.args.conts.now c.loop-t.t c.args.stores.now c.loop-t.stores c.loop-t.invariant past

pub returns-clause-enlisted : goal.returns-clause-enlisted
returns-clause-enlisted g c =
    let over = c.loop-t-test.false in
    let past : length c.args.stores.now ≤ c.loop-t.t = omega (arith, over) in
    with-all g.S.Store.durable g.S.Store.state c.args.conts.now c.loop-t.t c.args.stores.now c.loop-t.stores c.loop-t.invariant past

pub returns-in_err-enlist_at-clause-left : goal.returns-in_err-enlist_at-clause-left
returns-in_err-enlist_at-clause-left g c =
    let many = c.loop-t.invariant.many in
    let low = c.loop-t-test.true in
    let within : c.loop-t.t < length c.loop-t.stores = omega (arith, many, low) in
    left-err g.S.Store.durable g.S.Store.state c.args.conts.now c.loop-t.t c.args.stores.now c.loop-t.stores c.enlist_at.new.stores c.loop-t.invariant c.in_err-enlist_at.field-0.0 c.in_err-enlist_at.ensures.enlists within c.requires.running
    g.S.Store.may g.met.S.Store.steady c.in_err-enlist_at.ensures.left

pub returns-clause-left : goal.returns-clause-left
returns-clause-left g c =
    let over = c.loop-t-test.false in
    let past : length c.args.stores.now ≤ c.loop-t.t = omega (arith, over) in
    left-ok g.S.Store.durable g.S.Store.state c.args.conts.now c.loop-t.t c.args.stores.now c.loop-t.stores c.loop-t.invariant past g.S.Store.may g.met.S.Store.steady

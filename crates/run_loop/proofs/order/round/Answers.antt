use Rattle.run_stage.specs.Below.{AreServed, GoesOn, nobody-way, broke-after-err, broke-between, can-turn, client-turn-goes, first_targets, goes-none, served-then, target-turn-breaks, target-turn-goes, turned, turns-are-run}
use Rattle.std.specs.Prelude.{refl, [], length}
use Rattle.std.proofs.Common.{◌∙◌, add-one, ap, subst, suc, sym}
use Rattle.run_base.specs.Picks.{numbered}
use Rattle.run_loop.specs.Loops.{at-end, client-had-none, client-had-turn, round-whole, target-had-none, target-had-turn, within-now}
use Rattle.run_stage.specs.Now.{stage_now}
use Rattle.world_base.specs.Letters.{client}
use Rattle.run_loop.proofs.order.round.Goals as goal
use Rattle.run_loop.proofs.order.round.Goals.{then-is_client_due+in_ok-client_turn, else-is_client_due, then-is_target_due+in_ok-target_turn, else-is_target_due}

pub loop-n-init : goal.loop-n-init
loop-n-init g c = goes-none g.S.Store.durable g.S.Store.state g.S.Store.may g.C.Clock.is_read g.C.Clock.next (turned c.args.settling []) (stage_now c.args.stage.now) (λ r w. nobody-way c.args.settling r w) c.requires.going

pub loop-n-preserved : goal.loop-n-preserved
loop-n-preserved g c =
    let a0 = c.args.stage.now in
    let n = c.loop-n.n in
    let now = c.loop-n.stage in
    let within = within-now n c.len-n-end.result a0.clients.items now.clients.items c.loop-n-test.true (c.len-n-end.ensures ∙ a0.clients.ok.0) c.loop-n.invariant.clients in
    rw (add-one n) (elim c.if-is_client_due.branch [
      | then-is_client_due+in_ok-client_turn w ↦
          let new = w.client_turn.new.self in
          subst (λ a. GoesOn g.S.Store.durable g.S.Store.state g.S.Store.may g.C.Clock.is_read g.C.Clock.next (turned c.args.settling (numbered client (suc n))) (stage_now a0) (stage_now a)) (sym w.stage-is)
          (client-had-turn g.S.Store.durable g.S.Store.state g.S.Store.may g.C.Clock.is_read g.C.Clock.next c.args.settling (stage_now a0) (stage_now now) n c.loop-n.invariant within c.is_client_due.result c.is_client_due.ensures (stage_now new) w.if-is_client_due.true
          (client-turn-goes g.S.Store.durable g.S.Store.state g.S.Store.may g.C.Clock.is_read g.C.Clock.next g.met.S.Store.findable g.met.S.Store.alike (stage_now now) (stage_now new) c.loop-n.invariant.going n 0 w.in_ok-client_turn.ensures.turned c.args.settling))
      | else-is_client_due w ↦
          subst (λ a. GoesOn g.S.Store.durable g.S.Store.state g.S.Store.may g.C.Clock.is_read g.C.Clock.next (turned c.args.settling (numbered client (suc n))) (stage_now a0) (stage_now a)) (sym w.stage-is)
          (client-had-none g.S.Store.durable g.S.Store.state g.S.Store.may g.C.Clock.is_read g.C.Clock.next c.args.settling (stage_now a0) (stage_now now) n c.loop-n.invariant within c.is_client_due.result c.is_client_due.ensures w.if-is_client_due.false)
    ])

pub target_turn-requires-clause-able : goal.target_turn-requires-clause-able
target_turn-requires-clause-able g c x at = can-turn g.S.Store.durable g.S.Store.state g.S.Store.may g.met.S.Store.findable g.met.S.Store.alike (stage_now c.loop-t.stage) c.loop-t.invariant.going c.loop-t.t x at 0

pub loop-t-preserved : goal.loop-t-preserved
loop-t-preserved g c =
    let a0 = c.args.stage.now in
    let t = c.loop-t.t in
    let now = c.loop-t.stage in
    let m = length a0.clients.items in
    rw (add-one t) (elim c.if-is_target_due.branch [
      | then-is_target_due+in_ok-target_turn w ↦
          let new = w.target_turn.new.self in
          subst (λ a. GoesOn g.S.Store.durable g.S.Store.state g.S.Store.may g.C.Clock.is_read g.C.Clock.next (turned c.args.settling (first_targets m (suc t))) (stage_now a0) (stage_now a)) (sym w.stage-is)
          (target-had-turn g.S.Store.durable g.S.Store.state g.S.Store.may g.C.Clock.is_read g.C.Clock.next c.args.settling (stage_now a0) (stage_now now) m t c.loop-t.invariant c.is_target_due.result c.is_target_due.ensures.due (stage_now new) w.if-is_target_due.true
          (target-turn-goes g.S.Store.durable g.S.Store.state g.S.Store.may g.C.Clock.is_read g.C.Clock.next g.met.S.Store.findable g.met.S.Store.alike (stage_now now) (stage_now new) c.loop-t.invariant.going c.args.settling t 0 w.in_ok-target_turn.ensures.turned))
      | else-is_target_due w ↦
          subst (λ a. GoesOn g.S.Store.durable g.S.Store.state g.S.Store.may g.C.Clock.is_read g.C.Clock.next (turned c.args.settling (first_targets m (suc t))) (stage_now a0) (stage_now a)) (sym w.stage-is)
          (target-had-none g.S.Store.durable g.S.Store.state g.S.Store.may g.C.Clock.is_read g.C.Clock.next c.args.settling (stage_now a0) (stage_now now) m t c.loop-t.invariant c.is_target_due.result c.is_target_due.ensures.due w.if-is_target_due.false)
    ])

pub returns-clause-goes : goal.returns-clause-goes
returns-clause-goes g c =
    let a0 = c.args.stage.now in
    let now = c.loop-t.stage in
    let all = at-end c.loop-t.t c.len-t-end.result a0.targets.items c.loop-n.stage.targets.items c.loop-t-test.false c.loop-t.auto.t-end (c.len-t-end.ensures ∙ c.loop-n.stage.targets.ok.0) c.loop-n.invariant.served.many in
    round-whole g.S.Store.durable g.S.Store.state g.S.Store.may g.C.Clock.is_read g.C.Clock.next c.args.settling (stage_now a0) (stage_now now)
    (subst (λ t. GoesOn g.S.Store.durable g.S.Store.state g.S.Store.may g.C.Clock.is_read g.C.Clock.next (turned c.args.settling (first_targets (length a0.clients.items) t)) (stage_now a0) (stage_now now)) all c.loop-t.invariant)

pub returns-in_err-client_turn-clause-served : goal.returns-in_err-client_turn-clause-served
returns-in_err-client_turn-clause-served g c =
    subst (AreServed g.S.Store.durable g.S.Store.state g.C.Clock.is_read c.args.stage.now.targets.items) (sym (ap (λ v. v.items) c.in_err-client_turn.ensures.targets)) c.loop-n.invariant.served

pub returns-in_err-target_turn-clause-served : goal.returns-in_err-target_turn-clause-served
returns-in_err-target_turn-clause-served g c =
    served-then g.S.Store.durable g.S.Store.state g.C.Clock.is_read c.args.stage.now.targets.items c.loop-t.stage.targets.items c.target_turn.new.self.targets.items c.loop-t.invariant.served c.in_err-target_turn.ensures.served

pub returns-clause-served : goal.returns-clause-served
returns-clause-served g c = c.loop-t.invariant.served

-- memory was wanting in a client's turn, or in a target's
pub returns-in_err-client_turn-clause-broke : goal.returns-in_err-client_turn-clause-broke
returns-in_err-client_turn-clause-broke g c =
    let now = stage_now c.loop-n.stage in
    let xs = c.client_turn.new.self.targets.items in
    broke-after-err g.S.Store.durable g.S.Store.state g.S.Store.may g.C.Clock.is_read g.C.Clock.next g.met.S.Store.steady (turned c.args.settling (numbered client c.loop-n.n)) (stage_now c.args.stage.now) now xs c.from_residual.result (turns-are-run c.args.settling (numbered client c.loop-n.n)) c.loop-n.invariant
    (broke-between g.S.Store.durable g.S.Store.state g.S.Store.may g.C.Clock.is_read g.C.Clock.next g.met.S.Store.steady now xs (ap (λ v. v.items) c.in_err-client_turn.ensures.targets))

pub returns-in_err-target_turn-clause-broke : goal.returns-in_err-target_turn-clause-broke
returns-in_err-target_turn-clause-broke g c =
    let now = stage_now c.loop-t.stage in
    let some = first_targets (length c.args.stage.now.clients.items) c.loop-t.t in
    let xs = c.target_turn.new.self.targets.items in
    broke-after-err g.S.Store.durable g.S.Store.state g.S.Store.may g.C.Clock.is_read g.C.Clock.next g.met.S.Store.steady (turned c.args.settling some) (stage_now c.args.stage.now) now xs c.from_residual-in_err-target_turn.result (turns-are-run c.args.settling some) c.loop-t.invariant
    (target-turn-breaks g.S.Store.durable g.S.Store.state g.S.Store.may g.C.Clock.is_read g.C.Clock.next g.met.S.Store.steady g.met.S.Store.findable g.met.S.Store.alike now c.loop-t.invariant.going c.args.settling c.loop-t.t 0 xs c.in_err-target_turn.ensures.broke)

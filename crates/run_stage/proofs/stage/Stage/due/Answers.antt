use Rattle.std.specs.Prelude.{◌<◌, ◌∷◌, ◌++◌, [], length}
use Rattle.std.proofs.Common.{◌∙◌, add-one, ap, arith, subst, suc, sym}
use Rattle.std.proofs.lemmas.List.{append_assoc}
use Rattle.run_base.specs.Picks.{numbered}
use Rattle.run_laws.specs.shows.Due.{AreDue, first_targets}
use Rattle.run_laws.specs.shows.Shown.{client-due-shown, client-is-there, client-is-up, has-it, has-none, target-is-there, target-is-up}
use Rattle.run_stage.specs.Now.{stage_now}
use Rattle.world_base.specs.Letters.{client, target}
use Rattle.run_stage.proofs.stage.Stage.due.Goals as goal
use Rattle.run_stage.proofs.stage.Stage.due.Goals.{then-is_client_due+in_ok-push, else-is_client_due, then-is_target_due+in_ok-push-2, else-is_target_due}

pub loop-n-preserved : goal.loop-n-preserved
loop-n-preserved g c =
    let now = c.args.self.now in
    let a = stage_now now in
    let n = c.loop-n.n in
    let due = c.loop-n.due.items in
    let end = c.len-n-end.ensures ∙ now.clients.ok.0 in
    let low = c.loop-n-test.true in
    let within : n < length now.clients.items = omega (arith, low, end) in
    rw (add-one n) (elim c.if-is_client_due.branch [
      | then-is_client_due+in_ok-push w ↦
          subst (λ d. AreDue g.S.Store.durable g.S.Store.state c.args.settling a (numbered client (suc n)) d.items) (sym w.due-is)
          (has-it g.S.Store.durable g.S.Store.state c.args.settling a (numbered client n) due (client n) c.loop-n.invariant w.push.new.self.items (w.in_ok-push.ensures.items ∙ ap (λ x. due ++ x ∷ []) w.client_id.ensures)
          (λ r found v s. sym (client-due-shown g.S.Store.durable g.S.Store.state r found a v s c.args.settling n within) ∙ sym c.is_client_due.ensures ∙ w.if-is_client_due.true)
          (client-is-there n (length a.clients) (length a.targets) within) (client-is-up a.watch.lives n))
      | else-is_client_due w ↦
          subst (λ d. AreDue g.S.Store.durable g.S.Store.state c.args.settling a (numbered client (suc n)) d.items) (sym w.due-is)
          (has-none g.S.Store.durable g.S.Store.state c.args.settling a (numbered client n) due (client n) c.loop-n.invariant
          (λ r found v s. sym (client-due-shown g.S.Store.durable g.S.Store.state r found a v s c.args.settling n within) ∙ sym c.is_client_due.ensures ∙ w.if-is_client_due.false))
    ])

pub loop-t-preserved : goal.loop-t-preserved
loop-t-preserved g c =
    let now = c.args.self.now in
    let a = stage_now now in
    let t = c.loop-t.t in
    let due = c.loop-t.due.items in
    let next = append_assoc (numbered client (length a.clients)) (numbered target t) (target t ∷ []) in
    let end = c.len-t-end.ensures ∙ now.targets.ok.0 in
    let low = c.loop-t-test.true in
    let within : t < length now.targets.items = omega (arith, low, end) in
    rw (add-one t) (elim c.if-is_target_due.branch [
      | then-is_target_due+in_ok-push-2 w ↦
          subst (λ d. AreDue g.S.Store.durable g.S.Store.state c.args.settling a (first_targets (length a.clients) (suc t)) d.items) (sym w.due-is)
          (subst (λ some. AreDue g.S.Store.durable g.S.Store.state c.args.settling a some w.push-then-is_target_due.new.self.items) next
          (has-it g.S.Store.durable g.S.Store.state c.args.settling a (first_targets (length a.clients) t) due (target t) c.loop-t.invariant w.push-then-is_target_due.new.self.items (w.in_ok-push-2.ensures.items ∙ ap (λ x. due ++ x ∷ []) w.target_id.ensures)
          (λ r found v s. sym (c.is_target_due.ensures.due r found v s) ∙ w.if-is_target_due.true) (target-is-there t (length a.clients) (length a.targets) within) (target-is-up a.watch.lives t (c.is_target_due.ensures.up w.if-is_target_due.true))))
      | else-is_target_due w ↦
          subst (λ d. AreDue g.S.Store.durable g.S.Store.state c.args.settling a (first_targets (length a.clients) (suc t)) d.items) (sym w.due-is)
          (subst (λ some. AreDue g.S.Store.durable g.S.Store.state c.args.settling a some due) next
          (has-none g.S.Store.durable g.S.Store.state c.args.settling a (first_targets (length a.clients) t) due (target t) c.loop-t.invariant (λ r found v s. sym (c.is_target_due.ensures.due r found v s) ∙ w.if-is_target_due.false)))
    ])

use Rattle.std.proofs.Common.{◌≡◌, Err, ap, rules, None, refl, ◌∙◌}
use Rattle.snap_core.specs.Snaps.{remembered}
use Rattle.vos_store.specs.Refusals.{always_stop}
use Rattle.target_parts.specs.Knowing.{memory_of}
use Rattle.target_parts.specs.Standing.{target-kept}
use Rattle.target_snaps.proofs.PruneTurns.{known-settled, prune-halted, prune-settled, prune-told, prune-unheard, prune-unsettled, settled-stays}
use Rattle.target_snaps.proofs.Following.{answer-form, answer-goes, holds-then, none-answered, one-carries, told-follows, told-stop}
use Rattle.target_snaps.proofs.Begun.{told-prune}
use Rattle.world_base.specs.Snapshots.{to_actor}
use Rattle.world_ended.specs.world_letters.kinds.PostLaws.{CarryNone}
use Rattle.target_parts.specs.declared.knows.Knows.{Knows}
use Rattle.target_parts.specs.world_contents.posts.Forms.{TargetPosts}
use Rattle.world_ended.specs.Asking.{PostsGoWith}
use Rattle.target_parts.specs.declared.halt.Halt.TheVariants as halt
use Rattle.base_messages.specs.declared.message.Message.TheVariants as message
use Rattle.target_snaps.proofs.prunes.hear_prune.Goals as goal

pub returns-in-Err-clause-turn : goal.returns-in-Err-clause-turn
returns-in-Err-clause-turn g c snaps reading d at =
    prune-unheard c.args.plan (remembered (memory_of c.args.knows.now) snaps) reading c.args.request c.args.epoch c.args.number d (g.S.Store.state c.args.store.now) (g.S.Store.state c.hear.new.store) (g.S.Store.durable c.hear.new.store) (g.S.Store.may c.hear.new.store)
    (remembered (memory_of c.hear.new.knows) snaps) _ (c.in-Err.ensures.covered d at) (ap Err c.stop_of.ensures)

pub returns-in-Err-settle_decisions-clause-turn : goal.returns-in-Err-settle_decisions-clause-turn
returns-in-Err-settle_decisions-clause-turn g c snaps reading d at =
    prune-unsettled c.args.plan (remembered (memory_of c.args.knows.now) snaps) reading c.args.request c.args.epoch c.args.number d (g.S.Store.state c.args.store.now) (g.S.Store.state c.settle_decisions.new.store) (g.S.Store.durable c.settle_decisions.new.store) (g.S.Store.may c.settle_decisions.new.store)
    (remembered (memory_of c.settle_decisions.new.knows) snaps)
    (g.S.Store.durable c.hear.new.store) (g.S.Store.state c.hear.new.store) (c.in_default.ensures.covered d at) c.hear.new.knows.leader.decided (ap (λ k. k.leader.decided) c.in_default.ensures.heard) _ c.in-Err-settle_decisions.field-0 c.in-Err-settle_decisions.ensures.settled (ap Err c.stop_of-in-Err-settle_decisions.ensures)

pub returns-in-Err-settle_decisions-clause-target : goal.returns-in-Err-settle_decisions-clause-target
returns-in-Err-settle_decisions-clause-target g c =
    target-kept c.args.plan always_stop _ (g.S.Store.state c.hear.new.store) (g.S.Store.state c.settle_decisions.new.store) (g.S.Store.durable c.hear.new.store) (g.S.Store.durable c.settle_decisions.new.store) c.hear.new.knows c.settle_decisions.new.knows c.in_default.ensures.target c.in-Err-settle_decisions.ensures.keeps

pub prune_at-requires-clause-target : goal.prune_at-requires-clause-target
prune_at-requires-clause-target g c =
    target-kept c.args.plan always_stop _ (g.S.Store.state c.hear.new.store) (g.S.Store.state c.settle_decisions.new.store) (g.S.Store.durable c.hear.new.store) (g.S.Store.durable c.settle_decisions.new.store) c.hear.new.knows c.settle_decisions.new.knows c.in_default.ensures.target c.in_default-settle_decisions.ensures.keeps

pub prune_at-requires-clause-enlisted : goal.prune_at-requires-clause-enlisted
prune_at-requires-clause-enlisted g c d at =
    (settled-stays c.args.request.cont c.args.epoch c.hear.new.knows.leader.decided (g.S.Store.state c.args.store.now) (g.S.Store.state c.hear.new.store) (g.S.Store.state c.settle_decisions.new.store) (g.S.Store.durable c.args.store.now) (g.S.Store.durable c.hear.new.store) (g.S.Store.durable c.settle_decisions.new.store) (g.S.Store.may c.settle_decisions.new.store) c.requires.enlisted c.in_default.ensures.runs.told c.in_default-settle_decisions.ensures.keeps.runs.told c.in_default.ensures.covered c.in_default-settle_decisions.ensures.settled d at).0

pub prune_at-requires-clause-leased : goal.prune_at-requires-clause-leased
prune_at-requires-clause-leased g c d at =
    (settled-stays c.args.request.cont c.args.epoch c.hear.new.knows.leader.decided (g.S.Store.state c.args.store.now) (g.S.Store.state c.hear.new.store) (g.S.Store.state c.settle_decisions.new.store) (g.S.Store.durable c.args.store.now) (g.S.Store.durable c.hear.new.store) (g.S.Store.durable c.settle_decisions.new.store) (g.S.Store.may c.settle_decisions.new.store) c.requires.enlisted c.in_default.ensures.runs.told c.in_default-settle_decisions.ensures.keeps.runs.told c.in_default.ensures.covered c.in_default-settle_decisions.ensures.settled d at).1

pub returns-in_err-lines-clause-turn : goal.returns-in_err-lines-clause-turn
returns-in_err-lines-clause-turn g c snaps reading d at =
    let is : c.from_residual.result ≡ Err c.in_err-lines.field-0.0 = search rules in
    prune-halted c.args.plan (remembered (memory_of c.args.knows.now) snaps) reading c.args.request c.args.epoch c.args.number d (g.S.Store.state c.args.store.now) (g.S.Store.state c.prune_at.new.store) (g.S.Store.durable c.prune_at.new.store) (g.S.Store.may c.prune_at.new.store)
    (remembered (memory_of c.settle_decisions.new.knows) snaps)
    (g.S.Store.durable c.hear.new.store) (g.S.Store.state c.hear.new.store) (c.in_default.ensures.covered d at) c.hear.new.knows.leader.decided (ap (λ k. k.leader.decided) c.in_default.ensures.heard) (g.S.Store.durable c.settle_decisions.new.store) (g.S.Store.state c.settle_decisions.new.store)
    (prune-settled c.args.plan (remembered (memory_of c.args.knows.now) snaps) reading c.args.request c.args.epoch c.args.number d (g.S.Store.state c.args.store.now) (g.S.Store.state c.prune_at.new.store) (g.S.Store.durable c.prune_at.new.store) (g.S.Store.may c.prune_at.new.store)
    (remembered (memory_of c.settle_decisions.new.knows) snaps) (g.S.Store.durable c.hear.new.store) (g.S.Store.state c.hear.new.store) (c.in_default.ensures.covered d at) c.hear.new.knows.leader.decided (ap (λ k. k.leader.decided) c.in_default.ensures.heard) (g.S.Store.durable c.settle_decisions.new.store) (g.S.Store.state c.settle_decisions.new.store) (g.S.Store.may c.settle_decisions.new.store) c.in_default-settle_decisions.ensures.settled)
    c.from_residual.result c.in_err-lines.field-0.0 c.in_err-lines.ensures.pruned is

pub returns-clause-turn : goal.returns-clause-turn
returns-clause-turn g c snaps reading d at =
    prune-told c.args.plan (remembered (memory_of c.args.knows.now) snaps) reading c.args.request c.args.epoch c.args.number d (g.S.Store.state c.args.store.now) (g.S.Store.state c.prune_at.new.store) (g.S.Store.durable c.prune_at.new.store) (g.S.Store.may c.prune_at.new.store)
    (remembered (memory_of c.settle_decisions.new.knows) snaps)
    (g.S.Store.durable c.hear.new.store) (g.S.Store.state c.hear.new.store) (c.in_default.ensures.covered d at) c.hear.new.knows.leader.decided (ap (λ k. k.leader.decided) c.in_default.ensures.heard) (g.S.Store.durable c.settle_decisions.new.store) (g.S.Store.state c.settle_decisions.new.store)
    (prune-settled c.args.plan (remembered (memory_of c.args.knows.now) snaps) reading c.args.request c.args.epoch c.args.number d (g.S.Store.state c.args.store.now) (g.S.Store.state c.prune_at.new.store) (g.S.Store.durable c.prune_at.new.store) (g.S.Store.may c.prune_at.new.store)
    (remembered (memory_of c.settle_decisions.new.knows) snaps) (g.S.Store.durable c.hear.new.store) (g.S.Store.state c.hear.new.store) (c.in_default.ensures.covered d at) c.hear.new.knows.leader.decided (ap (λ k. k.leader.decided) c.in_default.ensures.heard) (g.S.Store.durable c.settle_decisions.new.store) (g.S.Store.state c.settle_decisions.new.store) (g.S.Store.may c.settle_decisions.new.store) c.in_default-settle_decisions.ensures.settled)
    c.tells.result c.in_ok-lines.lines c.in_ok-lines.ensures.pruned
    (known-settled c.args.knows.now c.hear.new.knows c.settle_decisions.new.knows c.args.epoch snaps c.in_default.ensures.heard c.in_default-settle_decisions.ensures.keeps.beside c.in_default-settle_decisions.ensures.leader) c.tells.ensures.did c.tells.ensures.wanting

-- ---- what follows

pub returns-in-Err-clause-told : goal.returns-in-Err-clause-told
returns-in-Err-clause-told g c = told-stop halt.Stopped None (Err c.stop_of.result) (ap Err c.stop_of.ensures)

pub returns-in-Err-settle_decisions-clause-told : goal.returns-in-Err-settle_decisions-clause-told
returns-in-Err-settle_decisions-clause-told g c = told-stop halt.Stopped None (Err c.stop_of-in-Err-settle_decisions.result) (ap Err c.stop_of-in-Err-settle_decisions.ensures)

pub returns-in_err-lines-clause-told : goal.returns-in_err-lines-clause-told
returns-in_err-lines-clause-told g c =
    let is : c.from_residual.result ≡ Err c.in_err-lines.field-0.0 = search rules in
    told-prune c.in_err-lines.field-0.0 c.from_residual.result c.in_err-lines.ensures.told is

pub returns-clause-reads : goal.returns-clause-reads
returns-clause-reads g c =
    none-answered c.tells.result c.args.knows.now.member.memory c.settle_decisions.new.knows.member.memory (ap (λ m. m.memory) c.in_default-settle_decisions.ensures.keeps.beside.member ∙ ap (λ (k : Knows). k.member.memory) c.in_default.ensures.heard)
    (holds-then CarryNone (to_actor c.args.request.from (message.Held c.args.request.attempt None)) c.in_ok-lines.lines None c.tells.result (one-carries c.args.request.from (message.Held c.args.request.attempt None) refl) c.tells.ensures.did)

pub returns-clause-posts : goal.returns-clause-posts
returns-clause-posts g c target = holds-then (TargetPosts c.args.plan.targets) (to_actor c.args.request.from (message.Held c.args.request.attempt None)) c.in_ok-lines.lines None c.tells.result (answer-form c.args.plan.targets c.args.request None target) c.tells.ensures.did

pub returns-clause-ends : goal.returns-clause-ends
returns-clause-ends g c given = holds-then (PostsGoWith given) (to_actor c.args.request.from (message.Held c.args.request.attempt None)) c.in_ok-lines.lines None c.tells.result (answer-goes given c.args.request None tt) c.tells.ensures.did

pub returns-clause-told : goal.returns-clause-told
returns-clause-told g c = told-follows (to_actor c.args.request.from (message.Held c.args.request.attempt None)) c.in_ok-lines.lines None c.tells.result c.in_ok-lines.ensures.told c.tells.ensures.did c.tells.ensures.wanting

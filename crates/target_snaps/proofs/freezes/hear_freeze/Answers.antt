use Rattle.std.proofs.Common.{Err, ap, None, refl}
use Rattle.snap_core.specs.Snaps.{remembered}
use Rattle.target_parts.specs.Knowing.{memory_of}
use Rattle.target_snaps.proofs.FreezeTurns.{freeze-halted, freeze-told, freeze-unheard}
use Rattle.target_snaps.proofs.Standing.{can-freeze, target-froze}
use Rattle.target_snaps.proofs.Following.{answer-form, answer-goes, freeze-tried, holds-then, none-answered, one-carries, told-follows, told-stop}
use Rattle.target_snaps.proofs.Begun.{refused-so}
use Rattle.world_base.specs.Snapshots.{to_actor}
use Rattle.world_ended.specs.world_letters.kinds.PostLaws.{CarryNone}
use Rattle.target_parts.specs.declared.knows.Knows.{Knows}
use Rattle.target_snaps.specs.FreezeTurns.{freeze_lines, refusal_by}
use Rattle.target_parts.specs.world_contents.posts.Forms.{TargetPosts}
use Rattle.world_ended.specs.Asking.{PostsGoWith}
use Rattle.target_parts.specs.declared.halt.Halt.TheVariants as halt
use Rattle.base_messages.specs.declared.message.Message.TheVariants as message
use Rattle.target_snaps.proofs.freezes.hear_freeze.Goals as goal

pub returns-in-Err-clause-turn : goal.returns-in-Err-clause-turn
returns-in-Err-clause-turn g c snaps reading d at =
    freeze-unheard c.args.plan (remembered (memory_of c.args.knows.now) snaps) reading c.args.request c.args.epoch d (g.S.Store.state c.args.store.now) (g.S.Store.state c.hear.new.store) (g.S.Store.durable c.hear.new.store) (g.S.Store.may c.hear.new.store)
    (remembered (memory_of c.hear.new.knows) snaps) _ (c.in-Err.ensures.covered d at) (ap Err c.stop_of.ensures)

pub freeze_at-requires-clause-can : goal.freeze_at-requires-clause-can
freeze_at-requires-clause-can g c =
    can-freeze c.args.request.cont c.args.epoch (g.S.Store.state c.args.store.now) (g.S.Store.state c.hear.new.store) (g.S.Store.durable c.args.store.now) (g.S.Store.durable c.hear.new.store) c.requires.enlisted c.in_default.ensures.runs.told c.in_default.ensures.covered

pub returns-in-Ok-clause-turn : goal.returns-in-Ok-clause-turn
returns-in-Ok-clause-turn g c snaps reading d at =
    freeze-told c.args.plan (remembered (memory_of c.args.knows.now) snaps) reading c.args.request c.args.epoch d (g.S.Store.state c.args.store.now) (g.S.Store.state c.freeze_at.new.store) (g.S.Store.durable c.freeze_at.new.store) (g.S.Store.may c.freeze_at.new.store)
    (remembered (memory_of c.hear.new.knows) snaps) (g.S.Store.durable c.hear.new.store) (g.S.Store.state c.hear.new.store) (c.in_default.ensures.covered d at) c.in-Ok.froze c.held.result c.in-Ok.ensures.froze (ap (λ k. remembered (memory_of k) snaps) c.in_default.ensures.heard) c.held.ensures.did c.held.ensures.wanting

pub returns-in-Ok-clause-target : goal.returns-in-Ok-clause-target
returns-in-Ok-clause-target g c =
    target-froze c.args.plan c.args.request.cont c.args.epoch _ (g.S.Store.state c.hear.new.store) (g.S.Store.state c.freeze_at.new.store) (g.S.Store.durable c.hear.new.store) (g.S.Store.durable c.freeze_at.new.store) (g.S.Store.may c.freeze_at.new.store) c.hear.new.knows c.in_default.ensures.target c.in_default.ensures.runs.stops
    c.in-Ok.ensures.runs c.in-Ok.ensures.froze

pub returns-in-Err-freeze_at-clause-turn : goal.returns-in-Err-freeze_at-clause-turn
returns-in-Err-freeze_at-clause-turn g c snaps reading d at =
    freeze-halted c.args.plan (remembered (memory_of c.args.knows.now) snaps) reading c.args.request c.args.epoch d (g.S.Store.state c.args.store.now) (g.S.Store.state c.freeze_at.new.store) (g.S.Store.durable c.freeze_at.new.store) (g.S.Store.may c.freeze_at.new.store)
    (remembered (memory_of c.hear.new.knows) snaps) (g.S.Store.durable c.hear.new.store) (g.S.Store.state c.hear.new.store) (c.in_default.ensures.covered d at) c.in-Err-freeze_at.halt _ c.in-Err-freeze_at.ensures.froze (ap Err c.stop_of-in-Err-freeze_at.ensures)

pub returns-in-Err-freeze_at-clause-target : goal.returns-in-Err-freeze_at-clause-target
returns-in-Err-freeze_at-clause-target g c =
    target-froze c.args.plan c.args.request.cont c.args.epoch _ (g.S.Store.state c.hear.new.store) (g.S.Store.state c.freeze_at.new.store) (g.S.Store.durable c.hear.new.store) (g.S.Store.durable c.freeze_at.new.store) (g.S.Store.may c.freeze_at.new.store) c.hear.new.knows c.in_default.ensures.target c.in_default.ensures.runs.stops
    c.in-Err-freeze_at.ensures.runs c.in-Err-freeze_at.ensures.froze

-- ---- what follows

pub returns-in-Err-clause-told : goal.returns-in-Err-clause-told
returns-in-Err-clause-told g c = told-stop halt.Stopped None (Err c.stop_of.result) (ap Err c.stop_of.ensures)

pub returns-in-Ok-clause-reads : goal.returns-in-Ok-clause-reads
returns-in-Ok-clause-reads g c =
    none-answered c.held.result c.args.knows.now.member.memory c.hear.new.knows.member.memory (ap (λ (k : Knows). k.member.memory) c.in_default.ensures.heard)
    (holds-then CarryNone (to_actor c.args.request.from (message.Held c.args.request.attempt (refusal_by c.args.plan c.in-Ok.froze))) (freeze_lines c.args.plan c.args.request.cont c.args.epoch c.in-Ok.froze) None c.held.result
    (one-carries c.args.request.from (message.Held c.args.request.attempt (refusal_by c.args.plan c.in-Ok.froze)) refl) c.held.ensures.did)

pub returns-in-Ok-clause-posts : goal.returns-in-Ok-clause-posts
returns-in-Ok-clause-posts g c target =
    holds-then (TargetPosts c.args.plan.targets) (to_actor c.args.request.from (message.Held c.args.request.attempt (refusal_by c.args.plan c.in-Ok.froze))) (freeze_lines c.args.plan c.args.request.cont c.args.epoch c.in-Ok.froze) None c.held.result
    (answer-form c.args.plan.targets c.args.request (refusal_by c.args.plan c.in-Ok.froze) target) c.held.ensures.did

pub returns-in-Ok-clause-ends : goal.returns-in-Ok-clause-ends
returns-in-Ok-clause-ends g c given =
    holds-then (PostsGoWith given) (to_actor c.args.request.from (message.Held c.args.request.attempt (refusal_by c.args.plan c.in-Ok.froze))) (freeze_lines c.args.plan c.args.request.cont c.args.epoch c.in-Ok.froze) None c.held.result
    (answer-goes given c.args.request (refusal_by c.args.plan c.in-Ok.froze) (refused-so c.args.plan c.in-Ok.froze)) c.held.ensures.did

pub returns-in-Ok-clause-told : goal.returns-in-Ok-clause-told
returns-in-Ok-clause-told g c =
    told-follows (to_actor c.args.request.from (message.Held c.args.request.attempt (refusal_by c.args.plan c.in-Ok.froze))) (freeze_lines c.args.plan c.args.request.cont c.args.epoch c.in-Ok.froze) None c.held.result
    (freeze-tried c.args.plan c.args.request.cont c.args.epoch c.in-Ok.froze) c.held.ensures.did c.held.ensures.wanting

pub returns-in-Err-freeze_at-clause-told : goal.returns-in-Err-freeze_at-clause-told
returns-in-Err-freeze_at-clause-told g c = told-stop c.in-Err-freeze_at.halt None (Err c.stop_of-in-Err-freeze_at.result) (ap Err c.stop_of-in-Err-freeze_at.ensures)

use Rattle.std.proofs.Common.{[], ◌∙◌, ap, false, refl, subst, sym}
use Rattle.base_messages.specs.declared.message.Message.{Reset}
use Rattle.snap_core.specs.Snaps.{remembered}
use Rattle.target_parts.specs.world_contents.posts.Forms.{IsCollecting}
use Rattle.target_reads.specs.world_ended.Asking.{AsksSo, GoesWith}
use Rattle.target_parts.specs.Ending.{some_reading}
use Rattle.target_parts.specs.Knowing.{memory_of}
use Rattle.target_parts.specs.Readings.{IsReadBy, not-read-by, read-by}
use Rattle.target_snaps.specs.HeldTurns.{HeldTurn}
use Rattle.target_reads.specs.world_letters.kinds.TurnLaws.{turn-carries}
use Rattle.target_core.specs.Targets.{CanHear, HasFormOfMaking, HearsOrStops, has_epoch, is_collecting, is_of_client}
use Rattle.target_core.proofs.Heard.{collects-so, hears-freeze, hears-held, hears-loss, hears-snap, making-form, reset-goes_with}
use Rattle.target_core.proofs.Posting.{always, answers-end, answers-post, makes-end, makes-post, waits-still}
use Rattle.target_core.proofs.making.hear_making.Goals as goal

pub hear_snap-requires-clause-enlisted : goal.hear_snap-requires-clause-enlisted
hear_snap-requires-clause-enlisted g c d at = subst (λ m. CanHear c.args.plan m d) c.in-Snap.is (c.requires.here d at)

pub hear_freeze-requires-clause-enlisted : goal.hear_freeze-requires-clause-enlisted
hear_freeze-requires-clause-enlisted g c d at = subst (λ m. CanHear c.args.plan m d) c.in-Freeze.is (c.requires.here d at)

pub hear_any_prune-requires-clause-here : goal.hear_any_prune-requires-clause-here
hear_any_prune-requires-clause-here g c d at = subst (λ m. CanHear c.args.plan m d) c.in-Prune.is (c.requires.here d at)

pub hear_collection_reset-requires-clause-one : goal.hear_collection_reset-requires-clause-one
hear_collection_reset-requires-clause-one g c = (making-form c.in-Reset.target c.in-Reset.down c.in-Reset.message (subst HasFormOfMaking c.in-Reset.is c.requires.form)).0

pub hear_collection_reset-requires-clause-collecting : goal.hear_collection_reset-requires-clause-collecting
hear_collection_reset-requires-clause-collecting g c = ap is_collecting c.get.ensures ∙ collects-so c.in-Reset.message (making-form c.in-Reset.target c.in-Reset.down c.in-Reset.message (subst HasFormOfMaking c.in-Reset.is c.requires.form)).1

pub returns-in-Snap-clause-turn : goal.returns-in-Snap-clause-turn
returns-in-Snap-clause-turn g c = (
  c.hear_snap.ensures.turn.0,
  c.hear_snap.ensures.turn.1,
  λ n is d at.
      subst (λ m. HearsOrStops n c.args.plan (remembered (memory_of c.args.knows.now) c.args.snaps.now) c.hear_snap.ensures.turn.0 c.args.from m d (g.S.Store.state c.args.store.now) (g.S.Store.durable c.hear_snap.new.store) (g.S.Store.state c.hear_snap.new.store) (g.S.Store.may c.hear_snap.new.store) (remembered (memory_of c.hear_snap.new.knows) c.hear_snap.new.snaps) c.hear_snap.result) (sym c.in-Snap.is)
      (hears-snap n c.args.plan (remembered (memory_of c.args.knows.now) c.args.snaps.now) c.hear_snap.ensures.turn.0 c.args.from d (g.S.Store.state c.args.store.now) (g.S.Store.durable c.hear_snap.new.store) (g.S.Store.state c.hear_snap.new.store) (g.S.Store.may c.hear_snap.new.store) (remembered (memory_of c.hear_snap.new.knows) c.hear_snap.new.snaps) (record { from = c.args.from; attempt = c.in-Snap.attempt; cont = c.in-Snap.cont }) c.in-Snap.name c.in-Snap.tracker c.hear_snap.result refl (c.hear_snap.ensures.turn.2 d at)),
)

pub returns-in-Snap-clause-posts : goal.returns-in-Snap-clause-posts
returns-in-Snap-clause-posts g c kind = makes-post c.args.plan.targets (memory_of c.args.knows.now) (memory_of c.hear_snap.new.knows) c.args.snaps.now c.hear_snap.new.snaps c.hear_snap.result (waits-still c.hear_snap.result c.args.knows.now.leader c.hear_snap.new.knows.leader c.hear_snap.ensures.leader) (c.hear_snap.ensures.posts (sym kind ∙ ap is_of_client c.in-Snap.is))

pub returns-in-Snap-clause-ends : goal.returns-in-Snap-clause-ends
returns-in-Snap-clause-ends g c given goes = makes-end given (memory_of c.args.knows.now) (memory_of c.hear_snap.new.knows) c.args.snaps.now c.hear_snap.new.snaps c.hear_snap.result (waits-still c.hear_snap.result c.args.knows.now.leader c.hear_snap.new.knows.leader c.hear_snap.ensures.leader) (c.hear_snap.ensures.ends given (subst (GoesWith given) c.in-Snap.is goes))

pub returns-in-Snap-clause-clock : goal.returns-in-Snap-clause-clock
returns-in-Snap-clause-clock g c =
    subst (λ m. IsReadBy g.C.Clock.is_read (has_epoch m) c.hear_snap.result c.args.clock.now c.hear_snap.new.clock) (sym c.in-Snap.is)
    (read-by g.C.Clock.is_read false c.hear_snap.result c.args.clock.now c.hear_snap.new.clock c.hear_snap.ensures.clock)

pub returns-in-Freeze-clause-turn : goal.returns-in-Freeze-clause-turn
returns-in-Freeze-clause-turn g c =
    let r = some_reading (g.C.Clock.next c.args.clock.now) in (
      r.0,
      r.1,
      λ n is d at.
          subst (λ m. HearsOrStops n c.args.plan (remembered (memory_of c.args.knows.now) c.args.snaps.now) r.0 c.args.from m d (g.S.Store.state c.args.store.now) (g.S.Store.durable c.hear_freeze.new.store) (g.S.Store.state c.hear_freeze.new.store) (g.S.Store.may c.hear_freeze.new.store) (remembered (memory_of c.hear_freeze.new.knows) c.args.snaps.now) c.hear_freeze.result) (sym c.in-Freeze.is)
          (hears-freeze n c.args.plan (remembered (memory_of c.args.knows.now) c.args.snaps.now) r.0 c.args.from d (g.S.Store.state c.args.store.now) (g.S.Store.durable c.hear_freeze.new.store) (g.S.Store.state c.hear_freeze.new.store) (g.S.Store.may c.hear_freeze.new.store) (remembered (memory_of c.hear_freeze.new.knows) c.args.snaps.now) (record { from = c.args.from; attempt = c.in-Freeze.attempt; cont = c.in-Freeze.cont }) c.in-Freeze.epoch c.hear_freeze.result refl (c.hear_freeze.ensures.turn c.args.snaps.now r.0 d at)),
    )

pub returns-in-Freeze-clause-posts : goal.returns-in-Freeze-clause-posts
returns-in-Freeze-clause-posts g c kind = makes-post c.args.plan.targets (memory_of c.args.knows.now) (memory_of c.hear_freeze.new.knows) c.args.snaps.now c.args.snaps.now c.hear_freeze.result (always c.hear_freeze.result _ (ap (λ l. l.undecided) c.hear_freeze.ensures.leader)) (answers-post c.args.plan.targets c.args.snaps.now c.hear_freeze.result (c.hear_freeze.ensures.posts (sym kind ∙ ap is_of_client c.in-Freeze.is)))

pub returns-in-Freeze-clause-ends : goal.returns-in-Freeze-clause-ends
returns-in-Freeze-clause-ends g c given goes = makes-end given (memory_of c.args.knows.now) (memory_of c.hear_freeze.new.knows) c.args.snaps.now c.args.snaps.now c.hear_freeze.result (always c.hear_freeze.result _ (ap (λ l. l.undecided) c.hear_freeze.ensures.leader)) (answers-end given c.args.snaps.now c.hear_freeze.result (c.hear_freeze.ensures.ends given))

pub returns-in-Freeze-clause-clock : goal.returns-in-Freeze-clause-clock
returns-in-Freeze-clause-clock g c = not-read-by g.C.Clock.is_read _ c.hear_freeze.result c.args.clock.now (ap has_epoch c.in-Freeze.is)

pub returns-in-Held-clause-turn : goal.returns-in-Held-clause-turn
returns-in-Held-clause-turn g c =
    let r = some_reading (g.C.Clock.next c.args.clock.now) in (
      r.0,
      r.1,
      λ n is d at.
          subst (λ m. HearsOrStops n c.args.plan (remembered (memory_of c.args.knows.now) c.args.snaps.now) r.0 c.args.from m d (g.S.Store.state c.args.store.now) (g.S.Store.durable c.hear_held.new.store) (g.S.Store.state c.hear_held.new.store) (g.S.Store.may c.hear_held.new.store) (remembered (memory_of c.args.knows.now) c.hear_held.new.snaps) c.hear_held.result) (sym c.in-Held.is)
          (hears-held n c.args.plan (remembered (memory_of c.args.knows.now) c.args.snaps.now) r.0 c.args.from d (g.S.Store.state c.args.store.now) (g.S.Store.durable c.hear_held.new.store) (g.S.Store.state c.hear_held.new.store) (g.S.Store.may c.hear_held.new.store) (remembered (memory_of c.args.knows.now) c.hear_held.new.snaps) c.in-Held.attempt c.in-Held.refusal c.hear_held.result
          (subst (λ t. HeldTurn c.args.plan (remembered (memory_of c.args.knows.now) c.args.snaps.now) t c.in-Held.attempt c.in-Held.refusal d (g.S.Store.state c.args.store.now) (g.S.Store.durable c.hear_held.new.store) (g.S.Store.state c.hear_held.new.store) (g.S.Store.may c.hear_held.new.store) (remembered (memory_of c.args.knows.now) c.hear_held.new.snaps) c.hear_held.result) c.target_of.ensures (c.hear_held.ensures.turn c.in-Held.attempt c.in-Held.refusal c.in-Held.is d at))),
    )

pub returns-in-Held-clause-posts : goal.returns-in-Held-clause-posts
returns-in-Held-clause-posts g c kind = makes-post c.args.plan.targets (memory_of c.args.knows.now) (memory_of c.args.knows.now) c.args.snaps.now c.hear_held.new.snaps c.hear_held.result (always c.hear_held.result _ refl) c.hear_held.ensures.posts

pub returns-in-Held-clause-reads : goal.returns-in-Held-clause-reads
returns-in-Held-clause-reads g c = turn-carries c.hear_held.result [] c.args.knows.now.member.memory c.args.knows.now.member.memory refl c.hear_held.ensures.reads

pub returns-in-Held-clause-ends : goal.returns-in-Held-clause-ends
returns-in-Held-clause-ends g c given goes = makes-end given (memory_of c.args.knows.now) (memory_of c.args.knows.now) c.args.snaps.now c.hear_held.new.snaps c.hear_held.result (always c.hear_held.result _ refl) (c.hear_held.ensures.ends given goes)

pub returns-in-Held-clause-clock : goal.returns-in-Held-clause-clock
returns-in-Held-clause-clock g c = not-read-by g.C.Clock.is_read _ c.hear_held.result c.args.clock.now (ap has_epoch c.in-Held.is)

pub returns-in-Reset-clause-turn : goal.returns-in-Reset-clause-turn
returns-in-Reset-clause-turn g c =
    let r = some_reading (g.C.Clock.next c.args.clock.now) in (
      r.0,
      r.1,
      λ n is d at.
          subst (λ m. HearsOrStops n c.args.plan (remembered (memory_of c.args.knows.now) c.args.snaps.now) r.0 c.args.from m d (g.S.Store.state c.args.store.now) (g.S.Store.durable c.args.store.now) (g.S.Store.state c.args.store.now) (g.S.Store.may c.args.store.now) (remembered (memory_of c.hear_collection_reset.new.knows) c.hear_collection_reset.new.snaps) c.hear_collection_reset.result) (ap (Reset c.in-Reset.target c.in-Reset.down) c.get.ensures ∙ sym c.in-Reset.is)
          (hears-loss n c.args.plan (remembered (memory_of c.args.knows.now) c.args.snaps.now) r.0 c.args.from d (g.S.Store.state c.args.store.now) (g.S.Store.durable c.args.store.now) (g.S.Store.state c.args.store.now) (g.S.Store.may c.args.store.now) (remembered (memory_of c.hear_collection_reset.new.knows) c.hear_collection_reset.new.snaps) c.in-Reset.target c.in-Reset.down c.get.result.now c.hear_collection_reset.result (c.hear_collection_reset.ensures.turn d at)),
    )

pub returns-in-Reset-clause-posts : goal.returns-in-Reset-clause-posts
returns-in-Reset-clause-posts g c kind = makes-post c.args.plan.targets (memory_of c.args.knows.now) (memory_of c.hear_collection_reset.new.knows) c.args.snaps.now c.hear_collection_reset.new.snaps c.hear_collection_reset.result c.hear_collection_reset.ensures.waiting (c.hear_collection_reset.ensures.posts (subst IsCollecting (sym c.get.ensures) (making-form c.in-Reset.target c.in-Reset.down c.in-Reset.message (subst HasFormOfMaking c.in-Reset.is c.requires.form)).1))

pub returns-in-Reset-clause-ends : goal.returns-in-Reset-clause-ends
returns-in-Reset-clause-ends g c given goes =
    makes-end given (memory_of c.args.knows.now) (memory_of c.hear_collection_reset.new.knows) c.args.snaps.now c.hear_collection_reset.new.snaps c.hear_collection_reset.result c.hear_collection_reset.ensures.waiting
    (c.hear_collection_reset.ensures.ends given (subst (AsksSo given) (sym c.get.ensures) (reset-goes_with given c.in-Reset.target c.in-Reset.down c.in-Reset.message (subst (GoesWith given) c.in-Reset.is goes))))

pub returns-in-Reset-clause-clock : goal.returns-in-Reset-clause-clock
returns-in-Reset-clause-clock g c = not-read-by g.C.Clock.is_read _ c.hear_collection_reset.result c.args.clock.now (ap has_epoch c.in-Reset.is)

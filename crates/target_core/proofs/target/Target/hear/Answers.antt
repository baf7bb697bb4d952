use Rattle.target_reads.specs.world_ended.Asking.{TurnsEndAsked}
use Rattle.std.proofs.Common.{◌≡◌, ◌∙◌, ap, refl, subst, sym, true, ℕ, Some, ◌∷◌, []}
use Rattle.std.specs.Prelude.{IfOk, IfSome}
use Rattle.daos_model.specs.declared.durable.Durable.{Durable}
use Rattle.snap_core.specs.Snaps.{remembered}
use Rattle.world_base.specs.Stops.{is_prune_message}
use Rattle.target_parts.specs.world_contents.posts.Forms.{TurnsPostInForm}
use Rattle.target_parts.specs.Knowing.{memory_of}
use Rattle.target_parts.specs.Readings.{AreReadings, IsReadUpTo, most_readings, unread}
use Rattle.target_parts.specs.Running.{for_some_on}
use Rattle.target_snaps.specs.HeldTurns.{AreFrozenHere}
use Rattle.target_core.specs.Targets.{HearsOrStops, has_epoch, is_of_client}
use Rattle.target_core.proofs.Freezing.{turn-frozen}
use Rattle.target_reads.specs.world_letters.kinds.Loads.{AnswersOnce}
use Rattle.target_core.proofs.target.Target.hear.Goals as goal

pub hear_message-requires-clause-frozen : goal.hear_message-requires-clause-frozen
hear_message-requires-clause-frozen g c =
    c.self.invariant.frozen (ap (λ x. x.opened) c.self.view_is ∙ c.requires.opened) (ap (λ x. (g.S.Store.state x.store).stopped) c.self.view_is ∙ c.requires.running)

pub returns-clause-turn : goal.returns-clause-turn
returns-clause-turn g c =
    subst (λ x. (reading : ℕ) × IfSome (g.C.Clock.next x.clock) (λ r. r ≡ reading) × ((n : ℕ) → (is_prune_message c.args.message ≡ true → c.args.number ≡ Some n) → (d : Durable) → g.S.Store.durable x.store ≡ Some d
    → HearsOrStops n x.plan x.memory reading c.args.from c.args.message d (g.S.Store.state x.store) (g.S.Store.durable c.hear_message.new.store) (g.S.Store.state c.hear_message.new.store) (g.S.Store.may c.hear_message.new.store) (remembered (memory_of c.hear_message.new.knows) c.hear_message.new.snaps) c.hear_message.result)) c.self.view_is
    (c.hear_message.ensures.turn.0, c.hear_message.ensures.turn.1, λ n is d at. c.hear_message.ensures.turn.2 n (λ p. c.drawn-number.ensures n (is p)) d at)

pub returns-clause-clock : goal.returns-clause-clock
returns-clause-clock g c = subst (λ x. IsReadUpTo g.C.Clock.is_read (most_readings (has_epoch c.args.message)) x.clock c.hear_message.new.clock) c.self.view_is c.hear_message.ensures.clock.few

pub returns-clause-read : goal.returns-clause-read
returns-clause-read g c whole = subst (λ x. AreReadings g.C.Clock.is_read (most_readings (has_epoch c.args.message)) x.clock c.hear_message.new.clock) c.self.view_is (c.hear_message.ensures.clock.just whole)

pub returns-clause-unread : goal.returns-clause-unread
returns-clause-unread g c known = unread g.C.Clock.is_read (has_epoch c.args.message) _ _ c.hear_message.ensures.clock.few known ∙ ap (λ x. x.clock) c.self.view_is

pub returns-clause-posts : goal.returns-clause-posts
returns-clause-posts g c =
    subst (λ x. is_of_client c.args.message ≡ c.args.from.client → IfOk c.hear_message.result (λ did. TurnsPostInForm x.plan.targets x.memory (remembered (memory_of c.hear_message.new.knows) c.hear_message.new.snaps) did.posts)) c.self.view_is c.hear_message.ensures.posts

pub returns-clause-reads : goal.returns-clause-reads
returns-clause-reads g c = subst (λ x. IfOk c.hear_message.result (λ did. AnswersOnce (c.args.message ∷ []) x.memory.member c.hear_message.new.knows.member.memory did.posts)) c.self.view_is c.hear_message.ensures.reads

pub returns-clause-ends : goal.returns-clause-ends
returns-clause-ends g c asked goes =
    subst (λ x. IfOk c.hear_message.result (λ did. TurnsEndAsked asked x.memory (remembered (memory_of c.hear_message.new.knows) c.hear_message.new.snaps) did.posts)) c.self.view_is (c.hear_message.ensures.ends asked goes)

pub invariant_of-self : goal.invariant_of-self
invariant_of-self g c =
    let opened = ap (λ x. x.opened) c.self.view_is ∙ c.requires.opened in
    let running = ap (λ x. (g.S.Store.state x.store).stopped) c.self.view_is ∙ c.requires.running in
    record {
      placed = c.hear_message.ensures.target.placed;
      few = c.self.invariant.few;
      makes = c.hear_message.ensures.own;
      fits = λ is. c.hear_message.ensures.target;
      frozen = λ is runs.
          for_some_on (g.S.Store.durable c.self.inside.store) (g.S.Store.durable c.hear_message.new.store) (AreFrozenHere c.hear_message.new.snaps) c.hear_message.ensures.runs.told
          (λ d at. turn-frozen c.drawn-number.result c.self.inside.plan (memory_of c.self.inside.knows) (memory_of c.hear_message.new.knows) c.self.inside.snaps c.hear_message.new.snaps c.hear_message.ensures.turn.0 c.args.from c.args.message d (g.S.Store.state c.self.inside.store)
          (g.S.Store.durable c.hear_message.new.store) (g.S.Store.state c.hear_message.new.store) (g.S.Store.may c.hear_message.new.store) c.hear_message.result (c.hear_message.ensures.turn.2 c.drawn-number.result (λ p. refl) d at) (sym c.hear_message.ensures.runs.stops ∙ runs) c.hear_message.ensures.within (c.self.invariant.frozen opened running d at));
    }

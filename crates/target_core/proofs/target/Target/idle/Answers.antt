use Rattle.target_reads.specs.world_ended.Asking.{TurnsEndAsked}
use Rattle.std.proofs.Common.{◌≡◌, ◌∙◌, Some, ap, subst, sym, []}
use Rattle.std.specs.Prelude.{IfOk}
use Rattle.target_parts.specs.world_contents.posts.Forms.{TurnsPostInForm}
use Rattle.daos_model.specs.declared.durable.Durable.{Durable}
use Rattle.snap_core.specs.Snaps.{remembered}
use Rattle.target_parts.specs.Knowing.{memory_of}
use Rattle.target_parts.specs.Running.{for_some_on}
use Rattle.target_snaps.specs.HeldTurns.{AreFrozenHere}
use Rattle.target_core.specs.Targets.{IdlesOrStops}
use Rattle.target_core.proofs.Beside.{idle-beside}
use Rattle.target_core.proofs.Freezing.{idle-frozen}
use Rattle.target_core.proofs.Heard.{idles}
use Rattle.target_core.proofs.Posting.{leads-end, leads-post, turn-tells}
use Rattle.target_reads.specs.world_letters.kinds.Loads.{AnswersOnce}
use Rattle.target_core.proofs.target.Target.idle.Goals as goal

pub returns-clause-turn : goal.returns-clause-turn
returns-clause-turn g c =
    subst (λ x. (d : Durable) → g.S.Store.durable x.store ≡ Some d → IdlesOrStops c.args.settling x.plan x.memory d (g.S.Store.state x.store) (g.S.Store.durable c.idle_work.new.store) (g.S.Store.state c.idle_work.new.store)
    (g.S.Store.may c.idle_work.new.store) (remembered (memory_of c.idle_work.new.knows) c.self.inside.snaps) c.idle_work.result) c.self.view_is
    (λ d at. idles c.args.settling c.self.inside.plan (remembered (memory_of c.self.inside.knows) c.self.inside.snaps) d (g.S.Store.state c.self.inside.store) _ _ _ _ c.idle_work.result
    (idle-beside c.self.inside.snaps c.args.settling c.self.inside.plan (memory_of c.self.inside.knows) d (g.S.Store.state c.self.inside.store) (g.S.Store.durable c.idle_work.new.store) (g.S.Store.state c.idle_work.new.store) (g.S.Store.may c.idle_work.new.store) (memory_of c.idle_work.new.knows) c.idle_work.result (c.idle_work.ensures.turn d at)))

pub returns-clause-told : goal.returns-clause-told
returns-clause-told g c =
    turn-tells c.idle_work.result (g.S.Store.state c.self.inside.store) (g.S.Store.state c.idle_work.new.store) (g.S.Store.durable c.self.inside.store) (g.S.Store.durable c.idle_work.new.store) c.idle_work.ensures.stopped

pub returns-clause-posts : goal.returns-clause-posts
returns-clause-posts g c =
    subst (λ x. IfOk c.idle_work.result (λ did. TurnsPostInForm x.plan.targets x.memory (remembered (memory_of c.idle_work.new.knows) c.self.inside.snaps) did.posts)) c.self.view_is
    (leads-post c.self.inside.plan.targets (memory_of c.self.inside.knows) (memory_of c.idle_work.new.knows) c.self.inside.snaps c.idle_work.result c.idle_work.ensures.posts)

pub returns-clause-reads : goal.returns-clause-reads
returns-clause-reads g c = subst (λ x. IfOk c.idle_work.result (λ did. AnswersOnce [] x.memory.member c.idle_work.new.knows.member.memory did.posts)) c.self.view_is c.idle_work.ensures.reads

pub returns-clause-ends : goal.returns-clause-ends
returns-clause-ends g c asked =
    subst (λ x. IfOk c.idle_work.result (λ did. TurnsEndAsked asked x.memory (remembered (memory_of c.idle_work.new.knows) c.self.inside.snaps) did.posts)) c.self.view_is
    (leads-end asked (memory_of c.self.inside.knows) (memory_of c.idle_work.new.knows) c.self.inside.snaps c.idle_work.result (c.idle_work.ensures.ends asked))

pub invariant_of-self : goal.invariant_of-self
invariant_of-self g c =
    let opened = ap (λ x. x.opened) c.self.view_is ∙ c.requires.opened in
    let running = ap (λ x. (g.S.Store.state x.store).stopped) c.self.view_is ∙ c.requires.running in
    record {
      placed = c.idle_work.ensures.target.placed;
      few = c.self.invariant.few;
      makes = c.self.invariant.makes;
      fits = λ is. c.idle_work.ensures.target;
      frozen = λ is runs.
          for_some_on (g.S.Store.durable c.self.inside.store) (g.S.Store.durable c.idle_work.new.store) (AreFrozenHere c.self.inside.snaps) c.idle_work.ensures.stopped.runs.told
          (λ d at. idle-frozen c.args.settling c.self.inside.plan (memory_of c.self.inside.knows) (memory_of c.idle_work.new.knows) c.self.inside.snaps d (g.S.Store.state c.self.inside.store) (g.S.Store.durable c.idle_work.new.store) (g.S.Store.state c.idle_work.new.store) (g.S.Store.may c.idle_work.new.store) c.idle_work.result
          (idles c.args.settling c.self.inside.plan (memory_of c.self.inside.knows) d (g.S.Store.state c.self.inside.store) _ _ _ _ c.idle_work.result (c.idle_work.ensures.turn d at)) (sym c.idle_work.ensures.stopped.runs.stops ∙ runs) (c.self.invariant.frozen opened running d at));
    }

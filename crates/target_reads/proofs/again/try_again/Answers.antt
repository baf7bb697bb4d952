use Rattle.world_ended.specs.Asking.{EndsAsked}
use Rattle.world_ended.specs.PostLaws.{waits-on as ends-on}
use Rattle.world_ended.specs.TurnLaws.{then-ends}
use Rattle.std.proofs.Common.{◌≡◌, ◌<◌, Err, ap, arith, inl, inr, length, refl, rules, subst, sym}
use Rattle.model_laws.specs.Members.{Has}
use Rattle.world_base.specs.Roles.{is_prepared}
use Rattle.world_base.specs.Turns.{Reached, Whole}
use Rattle.world_base.specs.Verdicts.{Freed, VerdictEnds, VerdictNext}
use Rattle.target_parts.specs.Ending.{turn_wanting}
use Rattle.target_parts.specs.Knowing.{memory_of}
use Rattle.target_parts.specs.Parts.{Now, kept}
use Rattle.target_parts.specs.Running.{for_some_on, runs_first, runs_on, still_runs}
use Rattle.target_parts.specs.Stops.{Turn, never, stop_memory, stop_store}
use Rattle.target_reads.specs.Again.{AreHere, AreParkable}
use Rattle.target_reads.proofs.Verdicts.{first-removed, partway-from, tried-all, tried-here, tried-stops, tried-whole}
use Rattle.target_parts.specs.world_contents.posts.Forms.{PostsInForm}
use Rattle.target_parts.specs.world_contents.posts.Posting.{then-posts, waits-on}
use Rattle.target_reads.proofs.Carrying.{tried-each, tried-none, tried-one}
use Rattle.target_reads.proofs.again.try_again.Goals as goal
use Rattle.world_base.specs.PathLaws.{reached-here}

pub loop-plan-init : goal.loop-plan-init
loop-plan-init g c = record {
  runs = runs_first _ _ c.requires.running;
  target = c.requires.target;
  parkable = subst AreParkable (sym c.into_vec-rest.ensures) c.requires.parkable;
  here = λ d at. subst (λ xs. AreHere xs d) (sym c.into_vec-rest.ensures) (c.requires.here d at);
  once = tried-none c.args.asks c.args.posts c.args.knows.now.member.memory c.into_vec-rest.result.items c.into_vec-rest.ensures;
  posts = waits-on c.args.plan.targets c.args.knows.now.leader c.args.knows.now.leader c.args.posts refl c.requires.sent;
  ends = λ asked. ends-on asked c.args.knows.now.leader c.args.knows.now.leader c.args.posts refl (c.requires.freed asked);
  reached = λ d at m reading a ask v. record {
    durable = d;
    kept_is = at;
    holds = subst (λ xs. Reached (VerdictNext is_prepared c.args.plan m reading a ask v) (Freed c.args.asks (memory_of c.args.knows.now) c.args.posts) (kept d (g.S.Store.state c.args.store.now)) (Freed xs (memory_of c.args.knows.now) c.args.posts) (kept d (g.S.Store.state c.args.store.now)))
        (sym c.into_vec-rest.ensures) (reached-here _ _ _);
  };
}

pub hear_again-requires-clause-parkable : goal.hear_again-requires-clause-parkable
hear_again-requires-clause-parkable g c =
    let is = first-removed c.loop-plan.rest.items c.remove.new.self.items c.remove.result (omega (arith, c.loop-plan.rest.ok.0, c.remove.ensures.len)) c.remove.ensures.value c.remove.ensures.items in
    c.loop-plan.invariant.parkable c.remove.result (subst (Has c.remove.result) (sym is) (inl refl))

pub hear_again-requires-clause-here : goal.hear_again-requires-clause-here
hear_again-requires-clause-here g c x at =
    let is = first-removed c.loop-plan.rest.items c.remove.new.self.items c.remove.result (omega (arith, c.loop-plan.rest.ok.0, c.remove.ensures.len)) c.remove.ensures.value c.remove.ensures.items in
    c.loop-plan.invariant.here x at c.remove.result (subst (Has c.remove.result) (sym is) (inl refl))

pub returns-in_err-did-clause-turn : goal.returns-in_err-did-clause-turn
returns-in_err-did-clause-turn g c d at m reading a ask v =
    let removed = first-removed c.loop-plan.rest.items c.remove.new.self.items c.remove.result (omega (arith, c.loop-plan.rest.ok.0, c.remove.ensures.len)) c.remove.ensures.value c.remove.ensures.items in
    let old = kept d (g.S.Store.state c.args.store.now) in
    let start = Freed c.args.asks (memory_of c.args.knows.now) c.args.posts in
    let now = c.loop-plan.invariant.reached d at m reading a ask v in
    let is : c.from_residual.result ≡ Err c.in_err-did.field-0.0 = search rules in
    subst (λ r. Turn (VerdictNext is_prepared c.args.plan m reading a ask v) never start old (λ did l. Whole (VerdictNext is_prepared c.args.plan m reading a ask v) VerdictEnds start old l (memory_of c.hear_again.new.knows, did)) (g.S.Store.durable c.hear_again.new.store) (g.S.Store.state c.hear_again.new.store) (g.S.Store.may c.hear_again.new.store) r)
    (sym is)
    (tried-stops c.args.plan m reading a ask v start old (memory_of c.loop-plan.knows) c.remove.result c.loop-plan.rest.items c.remove.new.self.items c.loop-plan.posts now.durable (g.S.Store.state c.loop-plan.store) (g.S.Store.state c.hear_again.new.store)
    (g.S.Store.durable c.hear_again.new.store) (g.S.Store.may c.hear_again.new.store) (memory_of c.hear_again.new.knows) removed now.holds (λ did l. Whole (VerdictNext is_prepared c.args.plan m reading a ask v) VerdictEnds start old l (memory_of c.hear_again.new.knows, did)) c.in_err-did.field-0.0 (c.in_err-did.ensures.turn now.durable now.kept_is reading))

pub returns-in_err-push_all-clause-turn : goal.returns-in_err-push_all-clause-turn
returns-in_err-push_all-clause-turn g c d at m reading a ask v =
    let removed = first-removed c.loop-plan.rest.items c.remove.new.self.items c.remove.result (omega (arith, c.loop-plan.rest.ok.0, c.remove.ensures.len)) c.remove.ensures.value c.remove.ensures.items in
    let old = kept d (g.S.Store.state c.args.store.now) in
    let start = Freed c.args.asks (memory_of c.args.knows.now) c.args.posts in
    let now = c.loop-plan.invariant.reached d at m reading a ask v in
    let is : c.from_residual-in_err-push_all.result ≡ Err stop_memory = search rules in
    turn_wanting (VerdictNext is_prepared c.args.plan m reading a ask v) never start old (g.S.Store.durable c.hear_again.new.store) (g.S.Store.state c.hear_again.new.store) (g.S.Store.may c.hear_again.new.store)
    (λ did l. Whole (VerdictNext is_prepared c.args.plan m reading a ask v) VerdictEnds start old l (memory_of c.hear_again.new.knows, did)) _ is
    (partway-from c.args.plan m reading a ask v start old _ (g.S.Store.state c.hear_again.new.store) (g.S.Store.durable c.hear_again.new.store)
    (tried-whole c.args.plan m reading a ask v start old (memory_of c.loop-plan.knows) c.remove.result c.loop-plan.rest.items c.remove.new.self.items c.loop-plan.posts now.durable (g.S.Store.state c.loop-plan.store) (g.S.Store.state c.hear_again.new.store)
    (g.S.Store.durable c.hear_again.new.store) (g.S.Store.may c.hear_again.new.store) (memory_of c.hear_again.new.knows) removed now.holds c.in_ok-did.did (c.in_ok-did.ensures.turn now.durable now.kept_is reading)))

pub loop-plan-smaller : goal.loop-plan-smaller
loop-plan-smaller g c =
    let is = first-removed c.loop-plan.rest.items c.remove.new.self.items c.remove.result (omega (arith, c.loop-plan.rest.ok.0, c.remove.ensures.len)) c.remove.ensures.value c.remove.ensures.items in
    subst (λ xs. length c.remove.new.self.items < length xs) (sym is) (omega arith)

pub loop-plan-preserved : goal.loop-plan-preserved
loop-plan-preserved g c =
    let removed = first-removed c.loop-plan.rest.items c.remove.new.self.items c.remove.result (omega (arith, c.loop-plan.rest.ok.0, c.remove.ensures.len)) c.remove.ensures.value c.remove.ensures.items in
    let inv = c.loop-plan.invariant in
    let one = c.in_ok-did.ensures in
    record {
      runs = still_runs stop_store _ _ _ _ _ refl (runs_on stop_store _ _ _ _ _ _ _ inv.runs one.stopped.runs);
      target = one.target;
      parkable = λ x i. inv.parkable x (subst (Has x) (sym removed) (inr i));
      here = for_some_on (g.S.Store.durable c.loop-plan.store) _ (AreHere c.remove.new.self.items) one.stopped.runs.told (λ d at.
          tried-here c.args.plan (memory_of c.loop-plan.knows) 0 c.remove.result c.loop-plan.rest.items c.remove.new.self.items d (g.S.Store.state c.loop-plan.store) (g.S.Store.state c.hear_again.new.store) (g.S.Store.durable c.hear_again.new.store)
          (g.S.Store.may c.hear_again.new.store) (memory_of c.hear_again.new.knows) c.in_ok-did.did removed (one.turn d at 0) (inv.here d at));
      once = tried-one c.args.asks c.args.posts c.args.knows.now.member.memory c.loop-plan.knows.member.memory c.hear_again.new.knows.member.memory c.remove.result c.loop-plan.rest.items c.remove.new.self.items c.loop-plan.posts c.in_ok-did.did.posts c.push_all.new.posts removed
          inv.once one.reads c.in_ok-push_all.ensures;
      posts = subst (PostsInForm c.args.plan.targets c.args.knows.now.leader c.hear_again.new.knows.leader) (sym c.in_ok-push_all.ensures)
          (then-posts c.args.plan.targets c.args.knows.now.leader c.loop-plan.knows.leader c.hear_again.new.knows.leader c.loop-plan.posts c.in_ok-did.did.posts inv.posts one.posts);
      ends = λ asked. subst (EndsAsked asked c.args.knows.now.leader c.hear_again.new.knows.leader) (sym c.in_ok-push_all.ensures)
          (then-ends asked c.args.knows.now.leader c.loop-plan.knows.leader c.hear_again.new.knows.leader c.loop-plan.posts c.in_ok-did.did.posts (inv.ends asked) (one.ends asked));
      reached = λ d at m reading a ask v.
          let now = inv.reached d at m reading a ask v in
          let old = kept d (g.S.Store.state c.args.store.now) in
          let start = Freed c.args.asks (memory_of c.args.knows.now) c.args.posts in
          subst (λ posts. Now (g.S.Store.durable c.hear_again.new.store) (g.S.Store.state c.hear_again.new.store) (λ l. Reached (VerdictNext is_prepared c.args.plan m reading a ask v) start old (Freed c.remove.new.self.items (memory_of c.hear_again.new.knows) posts) l))
          (sym c.in_ok-push_all.ensures)
          (tried-whole c.args.plan m reading a ask v start old (memory_of c.loop-plan.knows) c.remove.result c.loop-plan.rest.items c.remove.new.self.items c.loop-plan.posts now.durable (g.S.Store.state c.loop-plan.store) (g.S.Store.state c.hear_again.new.store)
          (g.S.Store.durable c.hear_again.new.store) (g.S.Store.may c.hear_again.new.store) (memory_of c.hear_again.new.knows) removed now.holds c.in_ok-did.did (one.turn now.durable now.kept_is reading));
    }

pub returns-clause-turn : goal.returns-clause-turn
returns-clause-turn g c d at m reading a ask v =
    let none : length c.loop-plan.rest.items ≡ 0 = search rules in
    tried-all c.args.plan m reading a ask v _ _ (memory_of c.loop-plan.knows) c.loop-plan.rest.items c.loop-plan.posts (g.S.Store.state c.loop-plan.store) (g.S.Store.durable c.loop-plan.store) c.sends.result none c.sends.ensures
    (c.loop-plan.invariant.reached d at m reading a ask v)

pub returns-clause-reads : goal.returns-clause-reads
returns-clause-reads g c =
    tried-each c.args.asks c.args.posts c.args.knows.now.member.memory c.loop-plan.knows.member.memory c.loop-plan.rest.items c.loop-plan.posts c.sends.result.posts (ap (λ x. x.posts) c.sends.ensures) c.loop-plan.invariant.once

pub returns-clause-ends : goal.returns-clause-ends
returns-clause-ends g c asked =
    subst (EndsAsked asked c.args.knows.now.leader c.loop-plan.knows.leader) (sym (ap (λ x. x.posts) c.sends.ensures)) (c.loop-plan.invariant.ends asked)

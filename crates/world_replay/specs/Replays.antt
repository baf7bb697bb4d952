-- Every run from its beginning is a list of events.
use Rattle.std.specs.Prelude.{ℕ, zero, suc, ◌≡◌, ◌≤◌, ◌<◌, ◌++◌, ◌==◌, ◌&&◌, All, Bool, true, false, count_by, find, is_none, is_some, List, [], ◌∷◌, length, slice_get, Option, Some, None, refl, if◌then◌else◌}
use Rattle.std.proofs.lemmas.Bool.Decides.{nat_tests}
use Rattle.std.specs.Option.{option_map}
use Rattle.std.proofs.Common.{inl, inr, sym, ◌∙◌, ap, subst, arith}
use Rattle.std.proofs.lemmas.List.Elements.{All-nil}
use Rattle.std.proofs.lemmas.Option.{slice_get_within}
use Rattle.client_core.proofs.Plans.{first_place, plan_fits}
use Rattle.client_core.specs.Clients.{CommandFits, IsInPlace, PlanFits}
use Rattle.base_types.specs.declared.script.Command.{Command}
use Rattle.base_types.specs.Scripts.{is_numbered}
use Rattle.base_types.specs.declared.entry.Entry.{Entry}
use Rattle.base_types.specs.declared.id.AttemptId.{AttemptId}
use Rattle.model_laws.specs.Lists.{all-pass}
use Rattle.model_laws.specs.Members.{Has}
use Rattle.base_messages.specs.declared.message.Message.{Message}
use Rattle.base_messages.specs.declared.message.Message.TheVariants as message
use Rattle.daos_model.specs.declared.durable.Durable.{Durable}
use Rattle.daos_model.specs.Durables.{entry_of}
use Rattle.daos_model.specs.Opening.{Opening}
use Rattle.world_list.specs.replay_base.Heard as replay
use Rattle.world_list.specs.replay_base.Heard.{is_led_here}
use Rattle.world_base.specs.declared.target.TargetMemory.{TargetMemory}
use Rattle.world_base.specs.declared.target.TargetPlan.{TargetPlan}
use Rattle.world_base.specs.declared.target.TargetState.{TargetState}
use Rattle.world_base.specs.declared.world.World.{World}
use Rattle.world_base.specs.ClientTurns.{plan_of}
use Rattle.world_upheld.specs.below.Legal.{get-map}
use Rattle.world_commit.specs.attempts.Attempts.{entry_in, is_known_at, is_known_in}
use Rattle.world_commit.specs.fates.Facts.{Attempts}
use Rattle.world_commit.specs.attempts.History.{History}
use Rattle.world_commit.specs.attempts.Stored.{among-has}
use Rattle.world_contents.specs.reads.Given.{IsParkedRight}
use Rattle.world_base.specs.Roles.{other_leader, other_leader_of}
use Rattle.world_base.specs.Events.{Begins, ByClient, ByTarget, Event, Goes, Rules, Run, ToClient, ToTarget, client_plan, commands_or_none, kept, target_plan}
use Rattle.world_base.specs.Letters.{client, target}
use Rattle.world_base.specs.Stops as world
use Rattle.world_base.specs.Stops.{NoneDown, WorldRun, is_down_at, swept}
use Rattle.world_base.specs.Changes.{Kept}
use Rattle.world_base.specs.Commits.{led_entry}
use Rattle.world_base.specs.declared.request.CommitRequest.{CommitRequest}
use Rattle.world_base.specs.Further.{KnowsNoneDown}
use Rattle.world_base.specs.Statuses.{down_of}
use Rattle.world_base.specs.TargetTurns.{Hears, commit_request}
use Rattle.world_base.specs.declared.did.Did.{Did}
use Rattle.world_base.specs.declared.letter.Letter.{Letter}
use Rattle.world_base.specs.declared.target.Life.{Life}
use Rattle.world_base.specs.declared.target.Life.TheVariants.{Down, Running, Stopped}
use Rattle.base_types.specs.declared.epoch.Epoch.{Epoch}
use Rattle.base_types.specs.declared.report.Line.TheVariants as line
use Rattle.daos_model.specs.Stops.{HasTarget}
use Rattle.dtx_base.specs.Leading.{first_down, is_down_among}
use Rattle.dtx_base.specs.Members.{all_targets, has_target}
use Rattle.model_laws.specs.DecidedLaws.{has-all}
use Rattle.model_laws.specs.Lists.{at-within}
use Rattle.run_base.specs.Sweeps.{none-is_swept}
use Rattle.world_letters.specs.apart.Staying.{runs-keep-targets}
use Rattle.world_upheld.specs.below.Legal.{stored_over, told-down}
use Rattle.world_upheld.specs.hearing.Hearable.{CanHearLetter}
use Rattle.world_upheld.specs.hearing.Runs.{runs-can_hear_all}
use Rattle.world_upheld.specs.reasons.Accounted.{AccountedFor}
use Rattle.world_upheld.specs.reasons.Runs.{runs-are_accounted}
use Rattle.world_upheld.specs.upheld.BeginVersions.{begins-well}
use Rattle.world_upheld.specs.upheld.Begins.{AreRulesInForm, RunBeginsWell, RunBeginsWith, client_begins, first_tracker, held_at}
use Rattle.world_upheld.specs.upheld.Runs.{runs-are_upheld, runs-hear_all_rightly}
use Rattle.world_upheld.specs.upheld.Upheld.{Upheld}
use Rattle.world_list.specs.Fitting.{AreInPlace, PlansFit}
use Rattle.world_list.specs.RunLists.{IsRunFrom, IsRunList, LeadsTo, last_world, rules_of}
use Rattle.world_list.specs.declared.events.Event as listed
use Rattle.world_list.specs.declared.events.EventKind.TheVariants as kind
use Rattle.world_list.specs.declared.events.Events.{Events}
use Rattle.world_letters.specs.talks.TalkLaws.{taken-is-among}

-- ---- the statement

-- a list of events of a run: it is one of these rules, starts where the run does, ends where the run does, and is a run
pub record IsListed (r : Rules) (w v : World) : Type 0 where
  pub events : Events
  pub rules : rules_of events ≡ r
  pub start : events.start ≡ w
  pub last : last_world events.start events.list ≡ v
  pub runs : IsRunList events

-- every run from its beginning, of any number of targets, in which nothing stops and no snapshot or aggregation is made, has such a list
abbrev pub RunsHaveLists : Type 0
RunsHaveLists = (r : Rules) (o : Opening) (w v : World) → AreRulesInForm r → RunBeginsWith r o w → Run r w v → IsListed r w v

-- ---- lists

-- an event as one of a list
abbrev listed_event : (r : Rules) (w v : World) → Event r w v → listed.Event
listed_event r w v (ByClient g) = record { kind = kind.GoOn; actor = client g.n; heard = None; after = v }
listed_event r w v (ToClient g) = record { kind = kind.Hear; actor = client g.n; heard = Some g.l; after = v }
listed_event r w v (ToTarget g) = record { kind = kind.Hear; actor = target g.t; heard = Some g.l; after = v }
listed_event r w v (ByTarget g) = record { kind = kind.Idle; actor = target g.t; heard = None; after = v }

-- one event more
last-more : (w : World) (es : List listed.Event) (e : listed.Event) → last_world w (es ++ e ∷ []) ≡ e.after
last-more w [] e = refl
last-more w (x ∷ es) e = last-more x.after es e

run-more : (r : Rules) (w : World) (es : List listed.Event) (e : listed.Event) → IsRunFrom r w es → LeadsTo r (last_world w es) e.kind e.actor e.heard e.after → IsRunFrom r w (es ++ e ∷ [])
run-more r w [] e run leads = (leads, tt)
run-more r w (x ∷ es) e run leads = (run.0, run-more r x.after es e run.1 leads)

-- ---- what a target hears

module _ (r : Rules) (t : ℕ) (s : TargetState) (reading : ℕ) (l : Letter) (new : Kept) (left : TargetMemory × Did) (few : r.script.targets ≤ 64) (can : replay.CanTryAgain (target_plan r t) s.durable s.memory) where
  -- what it hears as without stops it can hear again
  can-hear : (q : Message) → CanHearLetter r t s.durable (record l { message = q }) → Hears (target_plan r t) s.opening s.memory reading l.from q (kept s) new left → replay.CanHear (target_plan r t) s.durable s.memory q
  can-hear (message.Fetch x op group ep first tracker q snapshot) k turn = can.read
  can-hear (message.Commit x ep first tracker ws) (inl (inl k)) turn = record { few = few; form = k.store.form; fit = k.fit }
  can-hear (message.Commit x ep first tracker ws) (inl (inr k)) turn = absurd k
  can-hear (message.Commit x ep first tracker ws) (inr k) turn = absurd k.form
  can-hear (message.Prepare e first ws inc) (inl (inl k)) turn = k.store.form
  can-hear (message.Prepare e first ws inc) (inl (inr k)) turn = absurd k
  can-hear (message.Prepare e first ws inc) (inr k) turn = absurd k.form
  can-hear (message.Ack x inc refusal) k turn = tt
  can-hear (message.Mark inc marks) k turn = tt
  can-hear (message.Marked inc ids) k turn = tt
  can-hear (message.Query x ask) k turn = tt
  can-hear (message.Verdict x ask inc v) k turn = can
  can-hear q k turn = absurd turn

-- a Fetch that waits goes with its epoch
parked-timed : (r : Rules) (o : Opening) (w : World) (t : ℕ) (d : Durable) (q : Message) → IsParkedRight r o w t d q → replay.is_timed q ≡ true
parked-timed r o w t d (message.Fetch x op group ep first tracker read snapshot) k = ap is_some k.has
parked-timed r o w t d q k = absurd k

-- a target leads what it decided
led-here : (p : TargetPlan) (d : Durable) (x : AttemptId) (e : Entry) → entry_of d x ≡ Some e → e.leader ≡ p.me → replay.is_led_here p d x ≡ true
unfolding is_led_here other_leader
led-here p d x e found led = ap (λ z. is_none (other_leader_of p.me z)) found ∙ by (e.leader == p.me) (let same : (e.leader == p.me) ≡ true = grind (arith, nat_tests) in same)
  where
    by : (b : Bool) → b ≡ true → is_none (if b then None else Some e.leader) ≡ true
    by true is = refl
    by false is = let bad : ⊥ = cc in absurd bad

-- ---- the beginning

fits-none : (r : Rules) (n : ℕ) → slice_get r.script.clients n ≡ None → PlanFits (client_plan r n)
fits-none r n none = record {
  commands = subst (λ cs. All (CommandFits r.script.targets) cs) (sym (ap commands_or_none none)) (All-nil (CommandFits r.script.targets));
  few = subst (λ cs. count_by is_numbered cs ≤ 100000) (sym (ap commands_or_none none)) (omega arith);
}

fits-some : (r : Rules) (n : ℕ) (list : List Command) → AreRulesInForm r → slice_get r.script.clients n ≡ Some list → PlanFits (client_plan r n)
fits-some r n list A is = subst (λ cs. PlanFits (plan_of r.script n r.attempts cs)) (sym (ap commands_or_none is)) (plan_fits r.script n r.attempts list A.form is)

plans-fit : (r : Rules) → AreRulesInForm r → PlansFit r
plans-fit r A n = by (slice_get r.script.clients n) refl
  where
    by : (o : Option (List Command)) → slice_get r.script.clients n ≡ o → PlanFits (client_plan r n)
    by None is = fits-none r n is
    by (Some list) is = fits-some r n list A is

in-place : (r : Rules) (o : Opening) (w : World) → AreRulesInForm r → RunBeginsWith r o w → AreInPlace r w
in-place r o w A B n c here = by (slice_get r.script.clients n) (sym (get-map (client_begins r o w) r.script.clients n) ∙ ap (λ cs. slice_get cs n) (sym B.clients) ∙ here)
  where
    by : (list : Option (List Command)) → option_map (client_begins r o w) list ≡ Some c → IsInPlace (client_plan r n) c
    by None e = let no : ⊥ = cc in absurd no
    by (Some list) e =
        let same : client_begins r o w list ≡ c = cc in
        subst (IsInPlace (client_plan r n)) same (first_place (client_plan r n) (first_tracker o) (client_begins r o w list).known (plans-fit r A n))

-- ---- where all targets run

abbrev AllRun : World → Type 0
AllRun w = (t : ℕ) (s : TargetState) → slice_get w.targets t ≡ Some s → s.life ≡ Running

-- none is given up
none-given_up : (ss : List TargetState) → ((t : ℕ) (s : TargetState) → slice_get ss t ≡ Some s → s.life ≡ Running) → (t : ℕ) → is_down_at ss t ≡ false
none-given_up [] run t = refl
none-given_up (s ∷ ss) run zero = by s.life (run 0 s refl)
  where
    by : (l : Life) → l ≡ Running → is_down_at (record s { life = l } ∷ ss) 0 ≡ false
    by Running is = refl
    by Stopped is = refl
    by Down is = let no : ⊥ = cc in absurd no
none-given_up (s ∷ ss) run (suc t) = none-given_up ss (λ u z at. run (suc u) z at) t

-- so nothing is lost that goes to one
none-swept : (w : World) → AllRun w → swept w ≡ w
none-swept w run = none-is_swept w (none-given_up w.targets run)

-- no member is known to be down where no target is
none-among : (xs : List ℕ) (members down : ℕ) → ((x : ℕ) → has_target down x ≡ false) → find (is_down_among members down) xs ≡ None
none-among [] members down none = refl
none-among (x ∷ xs) members down none = ap (λ b. if b then Some x else find (is_down_among members down) xs) (off (has_target members x) (has_target down x) (none x)) ∙ none-among xs members down none
  where
    off : (a b : Bool) → b ≡ false → (a && b) ≡ false
    off true b k = k
    off false b k = refl

none-down : (p : TargetPlan) (m : TargetMemory) (q : CommitRequest) (e : Epoch) → ((x : ℕ) → has_target m.leader.down x ≡ false) → down_of p m q e ≡ None
unfolding first_down
none-down p m q e none = none-among all_targets (led_entry p q e).members m.leader.down none

knows-none : (p : TargetPlan) (m : TargetMemory) (q : Message) → ((x : ℕ) → has_target m.leader.down x ≡ false) → KnowsNoneDown p m q
knows-none p m (message.Commit x ep first tracker ws) none = λ e. none-down p m (commit_request x ep first tracker ws) e none
knows-none p m q none = tt

-- ---- the law

module _ (r : Rules) (o : Opening) (w : World) (A : AreRulesInForm r) (B : RunBeginsWith r o w) where
  well : RunBeginsWell r o w
  well = begins-well r o w B

  -- at each moment of the run all targets run
  all-run : (v : World) → Run r w v → AllRun v
  all-run v run t z at = let s = runs-keep-targets r w v run t z at in s.2.life ∙ (well.starts t s.0 s.1).runs

  -- so no leader knows one to be down
  none-known : (u : World) → AllRun u → WorldRun r w u → (t : ℕ) (s : TargetState) → slice_get u.targets t ≡ Some s → (m : ℕ) → has_target s.memory.leader.down m ≡ false
  none-known u up run t s here m = by (has_target s.memory.leader.down m) refl
    where
      k : (h : History) × AccountedFor r o h (stored_over r run) u
      k = runs-are_accounted r o w u A well run

      there : Has (line.Down m) u.lines → (z : TargetState) × (slice_get u.targets m ≡ Some z)
      there i = at-within u.targets m (has-all (HasTarget (length u.targets)) u.lines (line.Down m) k.1.grounds.lives.bounded i)

      by : (b : Bool) → has_target s.memory.leader.down m ≡ b → b ≡ false
      by false is = refl
      by true is =
          let i = k.1.knows t m s here is in
          let z = there i in
          let down : z.0.life ≡ Down = told-down u k.1.grounds.lives m z.0 z.1 i in
          let bad : Running ≡ Down = sym (up m z.0 z.1) ∙ down in
          let no : ⊥ = cc in absurd no

  -- and it is one in which targets may stop
  knows : (u v : World) → Run r w u → WorldRun r w u → (e : Event r u v) → NoneDown r e
  knows u v run also (ByClient g) = tt
  knows u v run also (ToClient g) = tt
  knows u v run also (ByTarget g) = tt
  knows u v run also (ToTarget g) = knows-none (target_plan r g.t) g.s.memory g.l.message (none-known u (all-run u run) also g.t g.s g.here)

  also : (v : World) → Run r w v → WorldRun r w v
  also v Begins = world.Begins
  also v (Goes u x run e) = world.Goes u v (also u run) (record { u = v; happens = world.Plainly e (knows u v run (also u run) e); after = sym (none-swept v (all-run v (Goes u v run e))) })

  -- what holds at each moment of the run
  module _ (u : World) (run : Run r w u) where
    abbrev history : History
    history = (runs-are_upheld r o w u A B (also u run)).0

    upheld : Upheld r o (held_at w) history u
    upheld = (runs-are_upheld r o w u A B (also u run)).1

    abbrev attempts : Attempts r history u
    attempts = upheld.grounds.heard.attempts

    placed : (t : ℕ) (s : TargetState) → slice_get u.targets t ≡ Some s → t < r.script.targets
    placed t s here = let within : t < length u.targets = slice_get_within u.targets t s here in let many : length u.targets ≡ r.script.targets = upheld.grounds.heard.many in omega (arith, within, many)

    decided-led : (t : ℕ) (s : TargetState) → slice_get u.targets t ≡ Some s → (x : AttemptId) → Has x s.memory.leader.decided → replay.is_led_here (target_plan r t) s.durable x ≡ true
    decided-led t s here x i =
        let known : is_known_at u t x ≡ true = ap (λ z. is_known_in z x) here ∙ among-has x s.memory.leader.decided i in
        let held = ((attempts.on.each x).rows.unsettled t known).here in
        let its = (attempts.on.each x).entries.one t held.entry held.found in
        led-here (target_plan r t) s.durable x held.entry (sym (ap (λ z. entry_in z x) here) ∙ held.found) (its.leader ∙ sym held.leads)

    can-read : (t : ℕ) (s : TargetState) → slice_get u.targets t ≡ Some s → replay.CanRead (target_plan r t) s.durable s.memory.leader.decided
    can-read t s here = record {
      versions = (upheld.contents.versions.stand t s here).form.writes;
      led = all-pass (replay.is_led_here (target_plan r t) s.durable) s.memory.leader.decided (decided-led t s here);
    }

    can-try : (t : ℕ) (s : TargetState) → slice_get u.targets t ≡ Some s → replay.CanTryAgain (target_plan r t) s.durable s.memory
    can-try t s here = record {
      read = can-read t s here;
      timed = all-pass replay.is_timed_ask s.memory.member.parked (λ p i. parked-timed r o u t s.durable p.ask ((runs-hear_all_rightly r o w u A B (also u run)).waiting t s p here (all-run u run t s here) i));
    }

    leads : (x : World) (e : Event r u x) → LeadsTo r u (listed_event r u x e).kind (listed_event r u x e).actor (listed_event r u x e).heard x
    leads x (ByClient g) = record { event = g; by = refl }
    leads x (ToClient g) = inl (record { event = g; by = refl; letter = refl })
    leads x (ByTarget g) = record { event = g; by = refl; placed = placed g.t g.s g.here }
    leads x (ToTarget g) = inr (record { event = g; by = refl; letter = refl; placed = placed g.t g.s g.here; form = form })
      where
        form : replay.CanHear (target_plan r g.t) g.s.durable g.s.memory g.l.message
        form =
            can-hear r g.t g.s g.reading g.l g.new (g.memory, g.did) A.few_targets (can-try g.t g.s g.here) g.l.message
            (runs-can_hear_all r o w u g.l g.t g.s A well (also u run) (taken-is-among u.messages g.l g.rest g.takes) g.to_it g.here g.runs) g.turn

  abbrev list_of : (v : World) → Run r w v → List listed.Event
  list_of v Begins = []
  list_of v (Goes u x run e) = list_of u run ++ listed_event r u x e ∷ []

  list-ends : (v : World) (run : Run r w v) → last_world w (list_of v run) ≡ v
  list-ends v Begins = refl
  list-ends v (Goes u x run (ByClient g)) = last-more w (list_of u run) (listed_event r u x (ByClient g))
  list-ends v (Goes u x run (ToClient g)) = last-more w (list_of u run) (listed_event r u x (ToClient g))
  list-ends v (Goes u x run (ToTarget g)) = last-more w (list_of u run) (listed_event r u x (ToTarget g))
  list-ends v (Goes u x run (ByTarget g)) = last-more w (list_of u run) (listed_event r u x (ByTarget g))

  after-is : (u x : World) (e : Event r u x) → (listed_event r u x e).after ≡ x
  after-is u x (ByClient g) = refl
  after-is u x (ToClient g) = refl
  after-is u x (ToTarget g) = refl
  after-is u x (ByTarget g) = refl

  list-runs : (v : World) (run : Run r w v) → IsRunFrom r w (list_of v run)
  list-runs v Begins = tt
  list-runs v (Goes u x run e) =
      run-more r w (list_of u run) (listed_event r u x e) (list-runs u run)
      (subst (λ z. LeadsTo r z (listed_event r u x e).kind (listed_event r u x e).actor (listed_event r u x e).heard (listed_event r u x e).after) (sym (list-ends u run))
      (subst (λ y. LeadsTo r u (listed_event r u x e).kind (listed_event r u x e).actor (listed_event r u x e).heard y) (sym (after-is u x e)) (leads u run x e)))

  listed-run : (v : World) → Run r w v → IsListed r w v
  listed-run v run = record {
    events = record { script = r.script; attempts = r.attempts; epsilon = r.epsilon; start = w; list = list_of v run };
    rules = refl;
    start = refl;
    last = list-ends v run;
    runs = record { starts = record { plans = plans-fit r A; places = in-place r o w A B }; goes = list-runs v run };
  }

pub runs-have-lists : RunsHaveLists
runs-have-lists r o w v A B run = listed-run r o w A B v run

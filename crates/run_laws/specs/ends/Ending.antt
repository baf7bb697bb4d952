-- What a run of clients and targets has come to where it has ended.
use Rattle.std.specs.Prelude.{ℕ, ◌≡◌, ◌+◌, ◌⊎◌, true, false, filter, List, All, Contains, length, slice_get, Option, Some, None, is_some, refl, []}
use Rattle.std.proofs.Common.{inl, inr, sym, ◌∙◌, ap, subst, arith}
use Rattle.base_types.specs.declared.entry.Entry.{Entry}
use Rattle.base_types.specs.declared.id.AttemptId.{AttemptId}
use Rattle.base_types.specs.declared.report.Line.{Line}
use Rattle.base_types.specs.declared.report.Report.{Report}
use Rattle.client_core.specs.Clients.{ClientNow}
use Rattle.daos_model.specs.declared.durable.Durable.{Durable}
use Rattle.daos_model.specs.Durables.{entry_of}
use Rattle.daos_model.specs.FormLaws.{length-map}
use Rattle.daos_model.specs.Family.{resolved}
use Rattle.daos_model.specs.Finals.{HeadlineOver}
use Rattle.daos_model.specs.Headline.{Headline}
use Rattle.daos_model.specs.Opening.{Given, Outside, top, undisturbed}
use Rattle.daos_model.specs.Sound.{Sound}
use Rattle.daos_model.specs.Stops.{AtMostWith, HasTarget, down_targets, is_stop_at, least, lines_at, stop_numbers}
use Rattle.dtx_base.specs.Members.{has_target}
use Rattle.model_laws.specs.Members.{contains-from_has, has-from_contains}
use Rattle.report_writer.specs.Forms.{IsReportOf}
use Rattle.model_lone.specs.Only.{TellsOfOnlyClient}
use Rattle.model_reports.specs.Lone.{HasOneClient}
use Rattle.run_laws.specs.reports.Alone.{orders-of_only_clients}
use Rattle.run_laws.specs.reports.Forms.{orders-report_in_form}
use Rattle.run_laws.specs.reports.Issued.{orders-issue}
use Rattle.run_laws.specs.reports.IssuedThere.{all-issued}
use Rattle.run_laws.specs.reports.Kept.{downs-have_lines, orders-leave}
use Rattle.run_laws.specs.reports.Legal.{orders-are-legal}
use Rattle.run_laws.specs.reports.Reports.{AreIssuedSince, AreTyped, EndsPlainlyIn, GoesInOrder, IsKeyed, IsSettledOrLeft, LeavesInTheEnd}
use Rattle.run_laws.specs.reports.Unknown.{down-among}
use Rattle.run_laws.specs.reports.Unstopped.{unstopped-end-plainly}
use Rattle.run_laws.specs.shows.Accounting.{same-rises, weaker-rises}
use Rattle.run_laws.specs.shows.Accounts.{AreAccounted, AtMostBothRise, AtMostRises, one_if, stop_lines_of}
use Rattle.run_laws.specs.shows.Going.{AreAlike, AreFindable, AreSteady}
use Rattle.run_laws.specs.shows.ListLaws.{map-get}
use Rattle.run_laws.specs.shows.Parts.{at-both}
use Rattle.run_laws.specs.shows.Shows.{IsTargetOf}
use Rattle.run_laws.specs.shows.Stages.{StageNow}
use Rattle.run_laws.specs.steps.Ended.{AllCanReopen, HasRun, HasRunWith, left_of}
use Rattle.run_laws.specs.turns.Readings.{HasGiven, NoneGiven, readings_of}
use Rattle.run_laws.specs.turns.Faults.{cuts_and_failures}
use Rattle.run_laws.specs.turns.OrderLaws.{orders-are-runs}
use Rattle.run_watch.specs.Watches.{WatchNow, first_watch}
use Rattle.target_core.specs.Targets.{TargetOf}
use Rattle.vos_store.specs.Calls.{State}
use Rattle.world_commit.specs.attempts.Attempts.{IsHeld, entry_in, IsMember}
use Rattle.world_closing.specs.Below.{AreExternallyConsistent, KeepsTheBound, found-entry, durable_of, durables_of}
use Rattle.world_base.specs.declared.target.Life.TheVariants.{Down, Running}
use Rattle.world_base.specs.declared.target.TargetMemory.{TargetMemory}
use Rattle.world_base.specs.declared.target.TargetState.{TargetState}
use Rattle.world_base.specs.declared.world.World.{World}
use Rattle.world_base.specs.Events.{Rules, target_plan}
use Rattle.run_laws.specs.reports.Closings.{report_over}
use Rattle.world_closing.specs.Rules.{rules_of}
use Rattle.world_order.specs.Runs.{all-runs-are_consistent}
use Rattle.world_letters.specs.lives.Legal.{AreCaused}
use Rattle.world_closing.specs.Below.{no_joining, no_leading}
use Rattle.run_laws.specs.ends.Armed.{armed-lines, before-fuse, fuses-started, fuses-tell, states_of}
use Rattle.run_laws.specs.ends.Arming.{AreArmed, AreUnfused}
use Rattle.run_laws.specs.ends.Begun.{first_stage, told-is}
use Rattle.run_laws.specs.ends.Caused.{end-caused, stops-caused}
use Rattle.run_laws.specs.ends.Comes.{AreIssuedThere, AreKept, ComesByClocks, ComesTo, EndsUnstopped, IsAsStored, IsCommittedIn, IsOrdered, IsOutside, IsSoundAgain, LacksMember, LeavesReopenable, MayBeFound, StandPlainly, memory_at_first, report_with}
use Rattle.run_laws.specs.ends.Keeping.{all-tell, first-keeps, none-created, sound-again, stands-so}
use Rattle.run_laws.specs.ends.Lasts.{are-found, found_at, its-target, keeps-lasts, some-may_be, some_lasts}
use Rattle.run_laws.specs.ends.Places.{IsMapped, from-map}
use Rattle.run_laws.specs.ends.Starts.{AllTell, BeginsSo, HaveStarted, first_world, state_now, stores_of}

-- an outside that may have caused whatever stopped and was given up
abbrev anything : Outside
anything = record { rises = λ t. None; foreign = λ t. true; keeps = λ t. true }

-- what a target remembers and how it stands, part by part
memory-is : (m : TargetMemory) (d : Durable) → m.ticks ≡ d.lease → m.stamps ≡ [] → m.leader ≡ no_leading → m.member ≡ no_joining → m.collecting ≡ [] → m ≡ memory_at_first d
memory-is m d ticks stamps leader member collecting =
    ap (λ n. record m { ticks = n }) ticks
    ∙ ap (λ ss. record m { ticks = d.lease; stamps = ss }) stamps
    ∙ ap (λ l. record m { ticks = d.lease; stamps = []; leader = l }) leader
    ∙ ap (λ j. record m { ticks = d.lease; stamps = []; leader = no_leading; member = j }) member
    ∙ ap (λ cs. record { ticks = d.lease; stamps = []; leader = no_leading; member = no_joining; collecting = cs }) collecting

just-as : (s : TargetState) (h : State) → s.free ≡ h.free → s.opening ≡ h.opening → s.life ≡ Running → s.memory ≡ memory_at_first s.durable → s ≡ record { durable = s.durable; free = h.free; opening = h.opening; life = Running; memory = memory_at_first s.durable }
just-as s h free opening life memory =
    ap (λ n. record s { free = n }) free
    ∙ ap (λ o. record s { free = h.free; opening = o }) opening
    ∙ ap (λ l. record s { free = h.free; opening = h.opening; life = l }) life
    ∙ ap (λ m. record s { free = h.free; opening = h.opening; life = Running; memory = m }) memory

module _ {S C : Type 0} (durable : S → Option Durable) (state : S → State) (may : S → Durable → Type 0) where
  -- A run of these clients and targets has ended. Before it the fuse of each target's first stop line was set; it ended with these lines, and left
  -- these targets, whose fuses were taken away.
  pub record HasEndedSo (is_read : C → C → Type 0) (next_reading : C → Option ℕ) (g : Given) (cs : List ClientNow) (xs ys : List (TargetOf S C)) (lines : List Line) : Type 0 where
    pub armed : List (TargetOf S C)
    pub at_first : WatchNow
    pub fuses : AreArmed durable state may xs armed (first_watch g.script.targets g.script.stops) at_first
    pub rest : List (TargetOf S C)
    pub in_the_end : WatchNow
    pub run : HasRunWith durable state is_read next_reading may (rules_of g) g.job.order (first_world durable state cs armed) (first_stage cs armed at_first) (left_of rest in_the_end lines)
    pub accounted : AreAccounted durable state (states_of state xs) g.script.stops (left_of rest in_the_end lines)
    pub many : length rest ≡ length armed
    pub reopens : AllCanReopen durable state may rest
    pub unfused : AreUnfused durable state may rest ys

  module _ (is_read : C → C → Type 0) (next_reading : C → Option ℕ) (steady : AreSteady durable state may) (findable : AreFindable durable may) (alike : AreAlike durable) (g : Given) (cs : List ClientNow) (xs ys : List (TargetOf S C)) (lines : List Line) (k : HaveStarted durable state g cs xs)
      (told : AllTell durable (stores_of xs)) (e : HasEndedSo is_read next_reading g cs xs ys lines) where
    abbrev r : Rules
    r = rules_of g

    abbrev first : World
    first = first_world durable state cs e.armed

    abbrev start : StageNow S C
    start = first_stage cs e.armed e.at_first

    abbrev left : StageNow S C
    left = left_of e.rest e.in_the_end lines

    abbrev report : Report
    report = report_with g.script lines

    -- all stores tell what they keep
    all : (s : S) → is_some (durable s) ≡ true
    all = all-tell durable state may alike g cs xs k told

    begins : BeginsSo g first
    begins = (fuses-started durable state may xs e.armed e.fuses.fuses g cs k).so (fuses-tell durable state may xs e.armed e.fuses.fuses told)

    -- ---- whatever the next openings of the stores find

    module _ (lasts : List Durable) (m : MayBeFound may (stores_of ys) lasts) where
      -- a run ended in a world that keeps this
      run : HasRun durable state is_read next_reading r g.job.order first start (found_at lasts) left
      run = e.run (found_at lasts) (are-found durable state may steady e.rest ys e.in_the_end lines e.unfused lasts m)

      abbrev last : World
      last = run.last

      goes : GoesInOrder g first last
      goes = record { begins = begins.begins; restarts = refl; run = run.run }

      keeps : durables_of last ≡ lasts
      keeps = keeps-lasts durable state may steady e.rest ys e.in_the_end lines e.unfused lasts m is_read next_reading r g.job.order first run

      same-report : report_over r last ≡ report
      same-report = ap (λ ls. record { targets = g.script.targets; lines = ls; down = least (down_targets ls) }) (sym run.told)

      -- what is found of a store is what its target keeps there
      kept-at : (t : ℕ) (d : Durable) → slice_get lasts t ≡ Some d → IsMapped durable_of last.targets t d
      kept-at t d at = from-map durable_of last.targets t d (ap (λ ds. slice_get ds t) keeps ∙ at)

      -- of a target that was given up a line tells so
      down-told : (t : ℕ) (s : TargetState) → slice_get last.targets t ≡ Some s → s.life ≡ Down → Contains (down_targets lines) t
      down-told t s here down =
          subst (λ ls. Contains (down_targets ls) t) (sym run.told) (contains-from_has (down_targets last.lines) t (down-among last.lines t (downs-have_lines g first last goes t s here down)))

      -- a target that runs there keeps what its store tells
      kept-running : (t : ℕ) (z : S) (s : TargetState) → slice_get (stores_of ys) t ≡ Some z → slice_get last.targets t ≡ Some s → s.life ≡ Running → durable z ≡ Some s.durable
      kept-running t z s at here runs =
          let x = its-target durable state may steady e.rest ys e.in_the_end lines e.unfused lasts m is_read next_reading r g.job.order first run t s here in
          let y = from-map (λ p. p.store) ys t z at in
          ap durable y.is ∙ (e.unfused.each t x.0 y.of_it x.1 y.at).kept ∙ (subst (λ l. IsTargetOf durable state (target_plan r t) l (found_at lasts t) x.0 s) runs x.2).so.told

      there : (t : ℕ) (z : S) → slice_get (stores_of ys) t ≡ Some z → (s : TargetState) × (slice_get last.targets t ≡ Some s)
      there t z at = at-both (stores_of ys) last.targets t z (run.many ∙ sym e.unfused.many ∙ sym (length-map (λ p. p.store) ys)) at

      -- ---- the headline

      by-outside : (o : Outside) → AreCaused g.script o last → HeadlineOver g o lasts report
      by-outside o caused = subst (HeadlineOver g o lasts) same-report (subst (λ ds. HeadlineOver g o ds (report_over r last)) keeps (orders-are-legal g first last begins.holds goes o caused))

      -- for an outside that may have caused anything
      by-anything : HeadlineOver g anything lasts report
      by-anything = by-outside anything (record { stops = λ t. tt; given_up = λ t z here down. tt })

      -- each line tells of a target that is there
      bounded : All (HasTarget g.script.targets) lines
      bounded = by-anything.told.outcomes.stops.bounded

      many : length ys ≡ length xs
      many = e.unfused.many ∙ e.many ∙ e.fuses.fuses.many

      module _ (o : Outside) (outside : IsOutside state o (stores_of xs) (stores_of ys)) where
        caused : AreCaused g.script o last
        caused = record {
          stops = λ t. subst (λ ls. AtMostWith (length (stop_numbers (lines_at t ls))) (length (filter (is_stop_at t) g.script.stops)) (o.rises t)) run.told
              (stops-caused durable state may all g.script.stops xs ys left e.accounted e.unfused o outside many (subst (λ n. All (HasTarget n) lines) (sym k.many) bounded) t);
          given_up = λ t z here down.
              let x = at-both last.targets xs t z (sym (run.many ∙ e.many ∙ e.fuses.fuses.many)) here in
              let y = at-both last.targets ys t z (sym (run.many ∙ sym e.unfused.many)) here in
              end-caused durable state may all g.script.stops xs ys left e.accounted e.unfused o outside t x.0 y.0 x.1 y.1 (down-told t z here down);
        }

        -- the targets stand for what the report tells
        stand : HeadlineOver g o lasts report
        stand = by-outside o caused

      leaves : LeavesInTheEnd r last
      leaves = orders-leave g first last goes

      held : (t : ℕ) (d : Durable) (x : Entry) → slice_get lasts t ≡ Some d → Contains d.entries x → x.committed ≡ true → (n : ℕ) (f : Durable) → IsMember r x.attempt n → slice_get lasts n ≡ Some f → is_some (entry_of f x.attempt) ≡ true
      held t d x at i committed n f member to =
          let s = kept-at t d at in
          let z = kept-at n f to in
          let h = leaves.held t s.of_it x s.at (subst (λ y. Contains y.entries x) s.is i) committed n member in
          ap (λ y. is_some (entry_of y x.attempt)) z.is ∙ ap (λ o. is_some (entry_in o x.attempt)) (sym z.at) ∙ ap is_some h.found

      -- ---- where no line tells of a stop

      module _ (none : stop_numbers lines ≡ []) where
        plainly : EndsPlainlyIn g last
        plainly = unstopped-end-plainly g first last begins.holds goes (ap stop_numbers (sym run.told) ∙ none)

        everywhere : (t : ℕ) (d : Durable) (x : Entry) → slice_get lasts t ≡ Some d → Contains d.entries x → (n : ℕ) (f : Durable) → has_target x.members n ≡ true → slice_get lasts n ≡ Some f → IsCommittedIn f x.attempt
        everywhere t d x at i n f names to =
            let s = kept-at t d at in
            let z = kept-at n f to in
            let h = (plainly.everywhere t s.of_it x s.at (subst (λ y. Contains y.entries x) s.is i)).named n z.of_it z.at names in
            record { entry = h.entry; found = ap (λ y. entry_of y x.attempt) z.is ∙ ap (λ o. entry_in o x.attempt) (sym z.at) ∙ h.found; committed = h.committed }

        stand-plainly : StandPlainly durable g report (stores_of ys)
        stand-plainly = record {
          lasts = lasts;
          kept = record {
            many = m.many;
            each = λ t z d at to. let s = kept-at t d to in kept-running t z s.of_it at s.at (plainly.running t s.of_it s.at) ∙ ap (λ f. Some f) (sym s.is);
          };
          headline = subst (HeadlineOver g undisturbed lasts) same-report (subst (λ ds. HeadlineOver g undisturbed ds (report_over r last)) keeps plainly.stands);
          settled = λ t d x at i. let s = kept-at t d at in (plainly.settled t s.of_it s.at).committed x (has-from_contains s.of_it.durable.entries x (subst (λ y. Contains y.entries x) s.is i));
          everywhere = everywhere;
          confirmed = λ t d x at i leads n other. let s = kept-at t d at in (plainly.settled t s.of_it s.at).confirmed x (has-from_contains s.of_it.durable.entries x (subst (λ y. Contains y.entries x) s.is i)) leads n other;
        }

        ends-unstopped : EndsUnstopped durable g report (stores_of ys)
        ends-unstopped = record {
          stand = stand-plainly;
          legal = λ resolved. subst (Headline g undisturbed resolved) same-report (plainly.legal resolved);
          none_down = ap (λ q. q.down) (sym same-report) ∙ plainly.none_down;
        }

      -- ---- what the report tells

      -- of the only client, where no line tells of a stop
      of-alone : HasOneClient g.script → stop_numbers lines ≡ [] → TellsOfOnlyClient g.script report
      of-alone one none = subst (TellsOfOnlyClient g.script) same-report (orders-of_only_clients g first last begins.holds goes one (ap stop_numbers (sym run.told) ∙ none))

      in-form : AreTyped lines → IsKeyed g → IsReportOf g.script report
      in-form typed keyed = subst (IsReportOf g.script) same-report (orders-report_in_form g first last begins.holds goes keyed (subst AreTyped run.told typed))

      issued : AreIssuedSince (top g.opening) report
      issued = subst (AreIssuedSince (top g.opening)) same-report (orders-issue g first last goes)

      -- of all epochs where the opening keeps no snapshot
      issued-there : g.opening.stand.snaps ≡ [] → AreIssuedThere report
      issued-there none = all-issued g anything (resolved lasts) report none by-anything.told issued

      -- where the clocks keep the bound, the order of its epochs is that of real time
      in-real-time : KeepsTheBound g.script g.job.epsilon lines → AreExternallyConsistent g.script lines
      in-real-time bound =
          subst (AreExternallyConsistent g.script) (sym run.told)
          (all-runs-are_consistent r g.opening first last begins.begins.form begins.begins.begins (orders-are-runs r g.job.order first last run.run)
          (subst (KeepsTheBound g.script g.job.epsilon) run.told bound))

      -- a target that wasn't given up runs there
      runs-there : (t : ℕ) (z : S) (s : TargetState) → slice_get (stores_of ys) t ≡ Some z → slice_get last.targets t ≡ Some s → (Contains (down_targets lines) t → ⊥) → s.life ≡ Running
      runs-there t z s at here up = elim (leaves.targets t s here) as (λ x. s.life ≡ Running) [ inl runs ↦ runs | inr down ↦ absurd (up (down-told t s here down)) ]

      -- and so does its store
      store-runs : (t : ℕ) (z : S) → slice_get (stores_of ys) t ≡ Some z → (Contains (down_targets lines) t → ⊥) → (state z).stopped ≡ false
      store-runs t z at up =
          let s = there t z at in
          let x = its-target durable state may steady e.rest ys e.in_the_end lines e.unfused lasts m is_read next_reading r g.job.order first run t s.0 s.1 in
          let y = from-map (λ p. p.store) ys t z at in
          ap (λ q. (state q).stopped) y.is ∙ ap (λ h. h.stopped) (e.unfused.each t x.0 y.of_it x.1 y.at).state_is.rest ∙ (subst (λ l. IsTargetOf durable state (target_plan r t) l (found_at lasts t) x.0 s.0) (runs-there t z s.0 at s.1 up) x.2).so.running

      -- what a target keeps that wasn't given up
      entries : (t : ℕ) (y : S) (d : Durable) (x : Entry) → slice_get (stores_of ys) t ≡ Some y → (Contains (down_targets lines) t → ⊥) → durable y ≡ Some d → Contains d.entries x → (x.committed ≡ true) ⊎ LacksMember g report x.attempt
      entries t y d x at up is i =
          let s = there t y at in
          let running = runs-there t y s.0 at s.1 up in
          let same : d ≡ s.0.durable = let two : Some d ≡ Some s.0.durable = sym is ∙ kept-running t y s.0 at s.1 running in cc in
          by (leaves.entries t s.0 x s.1 running (subst (λ z. Contains z.entries x) same i))
        where
          by : IsSettledOrLeft r last x → (x.committed ≡ true) ⊎ LacksMember g report x.attempt
          by (inl committed) = inl committed
          by (inr lacks) = inr (record {
            member = lacks.member;
            its = lacks.its;
            down = subst (λ ls. Contains (down_targets ls) lacks.member) (sym run.told) (contains-from_has (down_targets last.lines) lacks.member (down-among last.lines lacks.member lacks.down));
          })

      -- what is found of an entry is an entry of its attempt
      found-its : (f : Durable) (a : AttemptId) (k : Entry) → entry_of f a ≡ Some k → Contains f.entries k × (k.attempt ≡ a)
      unfolding entry_of
      found-its f a k found = let z = found-entry a f.entries k found in (contains-from_has f.entries k z.0, z.1)

      -- and so at each member that wasn't given up, unless a member was
      at-members : (t : ℕ) (y : S) (d : Durable) (x : Entry) → slice_get (stores_of ys) t ≡ Some y → (Contains (down_targets lines) t → ⊥) → durable y ≡ Some d → Contains d.entries x
          → (n : ℕ) (z : S) (f : Durable) → IsMember r x.attempt n → slice_get (stores_of ys) n ≡ Some z → (Contains (down_targets lines) n → ⊥) → durable z ≡ Some f
          → IsCommittedIn f x.attempt ⊎ LacksMember g report x.attempt
      at-members t y d x at up is i n z f member to up_there told_f = by (entries t y d x at up is i)
        where
          same : (u : ℕ) (w : S) (k : Durable) (in_it : slice_get (stores_of ys) u ≡ Some w) → (Contains (down_targets lines) u → ⊥) → durable w ≡ Some k → k ≡ (there u w in_it).0.durable
          same u w k in_it runs its =
              let s = there u w in_it in let two : Some k ≡ Some s.0.durable = sym its ∙ kept-running u w s.0 in_it s.1 (runs-there u w s.0 in_it s.1 runs) in cc

          here : TargetState
          here = (there t y at).0

          held-there : x.committed ≡ true → IsHeld last n x.attempt
          held-there committed = leaves.held t here x (there t y at).1 (subst (λ k. Contains k.entries x) (same t y d at up is) i) committed n member

          found : (h : IsHeld last n x.attempt) → entry_of f x.attempt ≡ Some h.entry
          found h = ap (λ k. entry_of k x.attempt) (same n z f to up_there told_f) ∙ ap (λ o. entry_in o x.attempt) (sym (there n z to).1) ∙ h.found

          at-member : (h : IsHeld last n x.attempt) → (h.entry.committed ≡ true) ⊎ LacksMember g report h.entry.attempt → IsCommittedIn f x.attempt ⊎ LacksMember g report x.attempt
          at-member h (inl committed) = inl (record { entry = h.entry; found = found h; committed = committed })
          at-member h (inr lacks) = inr (subst (LacksMember g report) (found-its f x.attempt h.entry (found h)).1 lacks)

          by : (x.committed ≡ true) ⊎ LacksMember g report x.attempt → IsCommittedIn f x.attempt ⊎ LacksMember g report x.attempt
          by (inl committed) = let h = held-there committed in at-member h (entries n z f h.entry to up_there told_f (found-its f x.attempt h.entry (found h)).0)
          by (inr lacks) = inr lacks

      -- ---- the order

      -- a target of that world is as its store says, since a fuse changes nothing of this
      as-stored : (t : ℕ) (x : S) (s : TargetState) → slice_get (stores_of xs) t ≡ Some x → slice_get first.targets t ≡ Some s → IsAsStored durable state x s
      as-stored t x s at here =
          let z = from-map (state_now durable state) e.armed t s here in
          let y = before-fuse durable state may xs e.armed e.fuses.fuses t z.of_it z.at in
          let f = e.fuses.fuses.each t y.0 z.of_it y.1 z.at in
          let same : y.0.store ≡ x = let two : Some y.0.store ≡ Some x = sym (map-get (λ p. p.store) xs t y.0 y.1) ∙ at in cc in
          let started = (fuses-started durable state may xs e.armed e.fuses.fuses g cs k).each t z.of_it z.at in
          let runs = begins.begins.begins.starts t s here in
          record {
            kept = ap durable (sym same) ∙ sym f.kept ∙ told-is (durable z.of_it.store) (all z.of_it.store) ∙ ap (λ q. Some q.durable) (sym z.is);
            as_it_is = just-as s (state x) (ap (λ q. q.free) z.is ∙ ap (λ h. h.free) f.state_is.rest ∙ ap (λ q. (state q).free) same) (ap (λ q. q.opening) z.is ∙ ap (λ h. h.opening) f.state_is.rest ∙ ap (λ q. (state q).opening) same) runs.runs
                (memory-is s.memory s.durable (ap (λ q. q.memory.ticks) z.is ∙ started.ticks s.durable (told-is (durable z.of_it.store) (all z.of_it.store) ∙ ap (λ q. Some q.durable) (sym z.is))) runs.stamps runs.leader runs.member runs.collecting);
          }

      -- of each target no more turns were cut, and no more openings failed, than counts of its store rose: fuses leave these as they are
      within-rises : (t : ℕ) (x y : S) → slice_get (stores_of xs) t ≡ Some x → slice_get (stores_of ys) t ≡ Some y → AtMostBothRise (cuts_and_failures t (orders-are-runs r g.job.order first last run.run)) (state x) (state y)
      within-rises t x y at there =
          let p = from-map (λ z. z.store) xs t x at in
          let a = at-both xs e.armed t p.of_it e.fuses.fuses.many p.at in
          let set' = (e.fuses.fuses.each t p.of_it a.0 p.at a.1).state_is.rest in
          let q = from-map (λ z. z.store) ys t y there in
          let b = before-fuse durable state may e.rest ys e.unfused t q.of_it q.at in
          let gone = (e.unfused.each t b.0 q.of_it b.1 q.at).state_is.rest in
          same-rises (cuts_and_failures t (orders-are-runs r g.job.order first last run.run)) (state a.0.store) (state x) (state b.0.store) (state y) (ap (λ s. (state s).faults) p.is ∙ sym (ap (λ h. h.faults) set')) (ap (λ s. (state s).burns) p.is ∙ sym (ap (λ h. h.burns) set'))
          (ap (λ s. (state s).faults) q.is ∙ ap (λ h. h.faults) gone) (ap (λ s. (state s).burns) q.is ∙ ap (λ h. h.burns) gone) (run.faults t a.0 b.0 a.1 b.1)

      -- and where a store tells its fuse, no more than there are stop lines and failures of the outside: each fuse was of a stop line
      by-lines : (t : ℕ) (x y : S) → slice_get (stores_of xs) t ≡ Some x → slice_get (stores_of ys) t ≡ Some y → (state x).tells_fuse ≡ true → AtMostRises (cuts_and_failures t (orders-are-runs r g.job.order first last run.run)) (stop_lines_of t g.script.stops) (state x).faults (state y).faults
      by-lines t x y at there tells =
          let p = from-map (λ z. z.store) xs t x at in
          let a = at-both xs e.armed t p.of_it e.fuses.fuses.many p.at in
          let set' = (e.fuses.fuses.each t p.of_it a.0 p.at a.1).state_is.rest in
          let q = from-map (λ z. z.store) ys t y there in
          let b = before-fuse durable state may e.rest ys e.unfused t q.of_it q.at in
          let gone = (e.unfused.each t b.0 q.of_it b.1 q.at).state_is.rest in
          let told : (state a.0.store).tells_fuse ≡ true = ap (λ h. h.tells_fuse) set' ∙ ap (λ s. (state s).tells_fuse) (sym p.is) ∙ tells in
          weaker-rises (cuts_and_failures t (orders-are-runs r g.job.order first last run.run) + stop_lines_of t e.in_the_end.stops + one_if (state b.0.store).fused) (cuts_and_failures t (orders-are-runs r g.job.order first last run.run))
          (stop_lines_of t e.at_first.stops + one_if (state a.0.store).fused) (stop_lines_of t g.script.stops) (state a.0.store).faults (state x).faults (state b.0.store).faults (state y).faults (omega arith)
          (armed-lines durable state may g.script.stops g.script.targets xs e.armed e.at_first e.fuses t a.0 a.1 told) (ap (λ s. (state s).faults) p.is ∙ sym (ap (λ h. h.faults) set')) (ap (λ s. (state s).faults) q.is ∙ ap (λ h. h.faults) gone)
          (run.by_lines t a.0 b.0 a.1 b.1 told)

      -- ---- a run after this one

      leaves-sound : (F : List Durable) → AreKept durable (stores_of xs) F → Sound F → IsSoundAgain lasts
      leaves-sound F f sound =
          sound-again r g.opening first last F lasts begins.begins (orders-are-runs r g.job.order first last run.run)
          (first-keeps durable state may cs xs e.armed e.fuses.fuses.many (λ t x y at there. (e.fuses.fuses.each t x y at there).kept) all F f) keeps sound

      is-ordered : IsOrdered durable state may g report (stores_of xs) (stores_of ys)
      is-ordered = record {
        follows = record { first = first; begins = begins.begins; numbers = refl; last = last; run = run.run; lines = run.told };
        begins = as-stored;
        kept = subst (MayBeFound may (stores_of ys)) (sym keeps) m;
        faults = within-rises;
        by_lines = by-lines;
      }

      -- the clocks gave what they gave, whatever fuses were set
      have-given : (t : ℕ) (x y : TargetOf S C) → slice_get xs t ≡ Some x → slice_get ys t ≡ Some y → HasGiven is_read next_reading x.clock (readings_of t (orders-are-runs r g.job.order first last run.run)) y.clock
      have-given t x y at there =
          let a = at-both xs e.armed t x e.fuses.fuses.many at in
          let b = before-fuse durable state may e.rest ys e.unfused t y there in
          subst (λ c. HasGiven is_read next_reading x.clock (readings_of t (orders-are-runs r g.job.order first last run.run)) c) (sym (e.unfused.each t b.0 y b.1 there).clock)
          (run.clocks t a.0 b.0 a.1 b.1 x.clock (subst (λ c. HasGiven is_read next_reading x.clock [] c) (sym (e.fuses.fuses.each t x a.0 at a.1).clock) NoneGiven))

    -- the fuses that are taken away leave it so that stores may be opened again
    reopenable : LeavesReopenable durable may (stores_of ys)
    reopenable t y at d told f found =
        let z = from-map (λ p. p.store) ys t y at in
        let x = before-fuse durable state may e.rest ys e.unfused t z.of_it z.at in
        let fuse = e.unfused.each t x.0 z.of_it x.1 z.at in
        e.reopens t x.0 x.1 d (sym fuse.kept ∙ ap durable (sym z.is) ∙ told) f (fuse.left f (subst (λ q. may q f) z.is found))

    -- ---- all of it

    abbrev some : List Durable
    some = some_lasts durable may findable all (stores_of ys)

    so : MayBeFound may (stores_of ys) some
    so = some-may_be durable may findable all (stores_of ys)

    pub comes-to : AreTyped lines → ComesTo durable state may g (stores_of xs) (stores_of ys) report
    comes-to typed = record {
      stand = λ lasts o m outside. stand lasts m o outside;
      form = in-form some so typed;
      issued = issued some so;
      issued_there = issued-there some so;
      in_real_time = in-real-time some so;
      running = store-runs some so;
      settled = record { entries = entries some so; everywhere = at-members some so; held = held };
      unstopped = ends-unstopped some so;
      alone = of-alone some so;
      sound = λ F f sound lasts m. leaves-sound lasts m F f sound;
      unsnapped = λ none lasts m. none-created r g.opening lasts none.0 none.1 (stands-so r g.opening first (last lasts m) lasts begins.begins begins.holds (orders-are-runs r g.job.order first (last lasts m) (run lasts m).run) (keeps lasts m));
      reopens = reopenable;
      ordered = is-ordered some so;
    }

    -- and so each target's clock gave the readings of that run
    pub comes-by_clocks : AreTyped lines → ComesByClocks durable state may is_read next_reading g xs ys report
    unfolding comes-to is-ordered run
    comes-by_clocks typed = record {
      comes = comes-to typed;
      clocks = λ t c d k.
          subst (λ z. HasGiven is_read next_reading z (readings_of t (orders-are-runs r g.job.order first (last some so) (run some so).run)) d) (sym k.first)
          (subst (λ z. HasGiven is_read next_reading k.before.clock (readings_of t (orders-are-runs r g.job.order first (last some so) (run some so).run)) z) (sym k.last) (have-given some so t k.before k.after k.at k.there));
    }

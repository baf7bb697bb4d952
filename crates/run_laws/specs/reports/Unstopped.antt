-- Where no line of a run in an order tells of a stop, it ends as one in which nothing can stop.
use Rattle.std.specs.Prelude.{ℕ, ◌≡◌, ◌≤◌, ◌<◌, ◌+◌, ◌++◌, Bool, true, false, List, ◌∷◌, All, Contains, length, slice_get, Option, Some, None, refl, if◌then◌else◌, []}
use Rattle.std.proofs.Common.{inl, inr, sym, ◌∙◌, ap, arith}
use Rattle.std.proofs.lemmas.List.{length-append}
use Rattle.base_types.specs.declared.entry.Entry.{Entry}
use Rattle.base_types.specs.declared.id.AttemptId.{AttemptId}
use Rattle.base_types.specs.declared.report.Line.{Line}
use Rattle.base_types.specs.declared.report.Line.TheVariants as line
use Rattle.daos_model.specs.Attempts.{is_lost, is_unknown, tries}
use Rattle.daos_model.specs.BoolLaws.{or_left}
use Rattle.daos_model.specs.Family.{resolved}
use Rattle.daos_model.specs.Finals.{HeadlineOver}
use Rattle.daos_model.specs.Opening.{Given, Outside, undisturbed}
use Rattle.daos_model.specs.Stops.{down_targets, is_at, least, lines_at, stop_numbers, stopped_number}
use Rattle.model_laws.specs.DecidedLaws.{all-from_has}
use Rattle.model_laws.specs.Lists.{at-within}
use Rattle.model_laws.specs.Members.{Has, contains-from_has}
use Rattle.model_lone.specs.Unstopped.{none-stopped}
use Rattle.model_reports.specs.Alone.{is-sure}
use Rattle.model_reports.specs.Resolved.{legal-known}
use Rattle.model_reports.specs.Stopless as stopless
use Rattle.run_laws.specs.reports.Kept.{all-there, downs-have_lines, empty-of, end-over, orders-leave}
use Rattle.run_laws.specs.reports.Legal.{orders-are-legal}
use Rattle.run_laws.specs.reports.Reports.{EndsPlainlyIn, GoesInOrder, IsCommittedAtAll, IsSettledAt, LacksMember, LeavesInTheEnd, UnstoppedOrdersEndPlainly}
use Rattle.world_base.specs.declared.target.Life.TheVariants.{Down, Running}
use Rattle.world_base.specs.declared.target.TargetState.{TargetState}
use Rattle.world_base.specs.declared.world.World.{World}
use Rattle.world_base.specs.Events.{Rules}
use Rattle.world_closing.specs.Below.{IsOver, other-there, report_over, durables_of}
use Rattle.world_closing.specs.stands.Stands.{HoldsOpenings}
use Rattle.world_commit.specs.attempts.Attempts.{IsHeld, IsSettled, entry_in, IsMember}
use Rattle.run_opening.specs.world_contents.reads.ChangeLaws.{entry-among}
use Rattle.world_letters.specs.lives.Legal.{AreCaused}
use Rattle.world_closing.specs.Rules.{rules_of}

-- ---- lists

-- no more stops are told of one target than of all
stops-fewer : (t : ℕ) (ls : List Line) → length (stop_numbers (lines_at t ls)) ≤ length (stop_numbers ls)
stops-fewer t [] = omega arith
stops-fewer t (l ∷ ls) = by (is_at t l) (stops-fewer t ls) (length-append (stopped_number l) (stop_numbers (lines_at t ls))) (length-append (stopped_number l) (stop_numbers ls))
  where
    by : (b : Bool) → length (stop_numbers (lines_at t ls)) ≤ length (stop_numbers ls) → length (stopped_number l ++ stop_numbers (lines_at t ls)) ≡ length (stopped_number l) + length (stop_numbers (lines_at t ls))
        → length (stopped_number l ++ stop_numbers ls) ≡ length (stopped_number l) + length (stop_numbers ls) → length (stop_numbers (if b then l ∷ lines_at t ls else lines_at t ls)) ≤ length (stopped_number l ++ stop_numbers ls)
    by true fewer here all = omega (arith, fewer, here, all)
    by false fewer here all = omega (arith, fewer, all)

-- no target was given up where no line tells so
none-least : (ls : List Line) → ((t : ℕ) → Has (line.Down t) ls → ⊥) → down_targets ls ≡ []
none-least [] none = refl
none-least (line.Try a ∷ ls) none = none-least ls (λ t i. none t (inr i))
none-least (line.Stop number target ∷ ls) none = none-least ls (λ t i. none t (inr i))
none-least (line.Restart number target incarnation floor ∷ ls) none = none-least ls (λ t i. none t (inr i))
none-least (line.Freeze target cont epoch ∷ ls) none = none-least ls (λ t i. none t (inr i))
none-least (line.Snapshot name cont epoch ∷ ls) none = none-least ls (λ t i. none t (inr i))
none-least (line.Aggregate number target cont upto ∷ ls) none = none-least ls (λ t i. none t (inr i))
none-least (line.Down target ∷ ls) none = absurd (none target (inl refl))

-- an outside that may have caused whatever stopped and was given up
abbrev anything : Outside
anything = record { rises = λ t. None; foreign = λ t. true; keeps = λ t. true }

-- ---- the end

module _ (g : Given) (w v : World) (holds : HoldsOpenings g.opening w) (k : GoesInOrder g w v) (none : stop_numbers v.lines ≡ []) where
  abbrev r : Rules
  r = rules_of g

  by-anything : HeadlineOver g anything (durables_of v) (report_over r v)
  by-anything = orders-are-legal g w v holds k anything (record { stops = λ t. tt; given_up = λ t z here down. tt })

  never : stopless.NoStops v.lines
  never = none-stopped v.lines none

  -- no line tells that a target was given up
  none-goes : (t : ℕ) → Has (line.Down t) v.lines → ⊥
  none-goes = stopless.never-goes g.script anything v.lines never by-anything.told.outcomes.stops.targets

  over : IsOver r v
  over = end-over g w v k

  there : (m : ℕ) → m < r.script.targets → (z : TargetState) × (slice_get v.targets m ≡ Some z)
  there m low = at-within v.targets m (let many : length v.targets ≡ r.script.targets = all-there g w v k in omega (arith, low, many))

  runs : (t : ℕ) (s : TargetState) → slice_get v.targets t ≡ Some s → s.life ≡ Running
  runs t s here = elim (over.targets t s here) as (λ x. s.life ≡ Running) [ inl up ↦ up | inr down ↦ absurd (none-goes t (downs-have_lines g w v k t s here down)) ]

  caused : AreCaused g.script undisturbed v
  caused = record {
    stops = λ t. let fewer = stops-fewer t v.lines in let zero : length (stop_numbers v.lines) ≡ 0 = ap length none in omega (arith, fewer, zero);
    given_up = λ t z here down. let bad : Running ≡ Down = sym (runs t z here) ∙ down in let no : ⊥ = cc in absurd no;
  }

  stands : HeadlineOver g undisturbed (durables_of v) (report_over r v)
  stands = orders-are-legal g w v holds k undisturbed caused

  known : All (λ a. is_unknown a.outcome ≡ false) (tries v.lines)
  known = all-from_has (λ a. is_unknown a.outcome ≡ false) (tries v.lines)
      (λ a i. or_left (is_unknown a.outcome) (is_lost a.id a.outcome) (is-sure g undisturbed (resolved (durables_of v)) (report_over r v) never stands.told a i))

  -- ---- what is kept

  left : LeavesInTheEnd r v
  left = orders-leave g w v k

  lacks-none : (x : AttemptId) → LacksMember r v x → ⊥
  lacks-none x lacks = none-goes lacks.member lacks.down

  committed : (t : ℕ) (s : TargetState) (e : Entry) → slice_get v.targets t ≡ Some s → Contains s.durable.entries e → e.committed ≡ true
  committed t s e here i = elim (left.entries t s e here (runs t s here) i) [ inl is ↦ is | inr lacks ↦ absurd (lacks-none e.attempt lacks) ]

  settled : (t : ℕ) (s : TargetState) → slice_get v.targets t ≡ Some s → IsSettledAt r t s
  settled t s here = record {
    committed = λ e i. committed t s e here (contains-from_has s.durable.entries e i);
    confirmed = λ e i leads m other.
        let z = there m (other-there r e.attempt m k.begins.form.some_target other) in
        let among = contains-from_has s.durable.entries e i in
        left.confirmed t m s z.0 e here (runs t s here) among (committed t s e here among) leads other z.1 (runs m z.0 z.1);
    undecided = empty-of s.memory.leader.undecided (λ u i. let z = (over.rest t s here (runs t s here)).lacks u i in none-goes z.0 z.2);
    parked = (over.rest t s here (runs t s here)).parked;
  }

  -- what a target holds is committed
  held-settled : (t : ℕ) (x : AttemptId) → IsHeld v t x → IsSettled v t x
  held-settled t x held = by (slice_get v.targets t) refl
    where
      by : (s : Option TargetState) → slice_get v.targets t ≡ s → IsSettled v t x
      by None gone = let no : ⊥ = cc (sym held.found ∙ ap (λ z. entry_in z x) gone) in absurd no
      by (Some s) here = record { entry = held.entry; found = held.found; committed = committed t s held.entry here (entry-among s.durable x held.entry (sym (ap (λ z. entry_in z x) here) ∙ held.found)) }

  everywhere : (t : ℕ) (s : TargetState) (e : Entry) → slice_get v.targets t ≡ Some s → Contains s.durable.entries e → IsCommittedAtAll r v e
  everywhere t s e here i = record { members = at-members; named = λ m z at named. at-members m (left.named t m s z e here i at named) }
    where
      at-members : (m : ℕ) → IsMember r e.attempt m → IsSettled v m e.attempt
      at-members m member = held-settled m e.attempt (left.held t s e here i (committed t s e here i) m member)

  pub plainly : EndsPlainlyIn g v
  plainly = record {
    legal = λ found. legal-known g undisturbed (resolved (durables_of v)) found (report_over r v) known stands.told;
    stands = stands;
    running = runs;
    none_down = ap least (none-least v.lines none-goes);
    known = known;
    settled = settled;
    everywhere = everywhere;
  }

pub unstopped-end-plainly : UnstoppedOrdersEndPlainly
unstopped-end-plainly g w v holds k none = plainly g w v holds k none

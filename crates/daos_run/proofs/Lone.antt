-- A script without snapshots runs transactions alone; so what follows from a legal report of room follows of its run, and where no target
-- is stopped what follows of a lone client.
use Rattle.std.specs.Prelude.{ℕ, ◌≡◌, ◌≤◌, ◌<◌, Bool, true, false, List, [], is_some, length, Option, None, refl}
use Rattle.std.proofs.Common.{arith, inl, inr}
use Rattle.base_types.specs.declared.id.AttemptId.{AttemptId}
use Rattle.base_types.specs.declared.job.Job.{Job}
use Rattle.base_types.specs.declared.report.Report.{Report}
use Rattle.base_types.specs.declared.script.Command.{Command}
use Rattle.base_types.specs.declared.script.Command.TheVariants.{Run, Snap, Aggregate, Tell, Skip}
use Rattle.base_types.specs.declared.script.Script.{Script}
use Rattle.base_types.specs.Scripts.{is_numbered}
use Rattle.model_reports.specs.Ends.{commit, end-plainly, fresh-ticks}
use Rattle.model_reports.specs.Lone.{HasOneClient, IsLone}
use Rattle.model_reports.specs.Once.{rise, try-once}
use Rattle.model_reports.specs.Restarts.{never-restart}
use Rattle.daos_model.specs.declared.durable.Durable.{Durable}
use Rattle.base_types.specs.Scripts.{IsInForm}
use Rattle.daos_model.specs.Family.{resolved}
use Rattle.daos_model.specs.Headline.{Headline}
use Rattle.daos_model.specs.Opening.{Opening, Outside, fresh, undisturbed}
use Rattle.daos_model.specs.Stops.{stop_numbers}
use Rattle.model_reports.specs.Lines.{lists-of-transactions}
use Rattle.model_reports.specs.RoomLaws.{places-are-found, room-is-found, transactions-find-room}
use Rattle.model_reports.specs.Rooms.{FindsRoom, HasPlaces, HasRoom, OnlyTransactions, SnapshotsFindPlaces, is_transaction}
use Rattle.daos_run.proofs.Begun.{lists-plain}
use Rattle.daos_run.specs.Alone.{IsOfLoneClient}
use Rattle.daos_run.specs.Comes.{ComesFrom, FindsPlaces}
use Rattle.run_starts.specs.run_opening.All.{MayBeFound}
use Rattle.daos_run.specs.Alone.{TellsOfLoneClient}
use Rattle.run_targets.specs.Ends.{IsLegal, IsOutside, given_by, some-may_be, some_lasts}
use Rattle.run_targets.specs.Below.{AreAlike, AreFindable}
use Rattle.script_traits.specs.Plain.{IsPlain, is_plain_command}
use Rattle.vos_store.specs.Calls.{State}

transaction-if-plain : (c : Command) → is_plain_command c ≡ true → is_numbered c ≡ true → is_transaction c ≡ true
transaction-if-plain (Run ops skips snapshot) run number = run
transaction-if-plain (Snap name cont) run number = run
transaction-if-plain (Aggregate cont) run number = run
transaction-if-plain (Tell client) run number = number
transaction-if-plain (Skip turns) run number = number

pub only-transactions : (s : Script) → IsPlain s → OnlyTransactions s
only-transactions s plain = lists-of-transactions s is_plain_command transaction-if-plain (lists-plain s plain)

pub is-lone : (s : Script) → IsPlain s → HasOneClient s → s.stops ≡ [] → IsLone s undisturbed
is-lone s plain one none = record { one = one; plain = only-transactions s plain; no_stops = none; undisturbed = λ t. refl }

-- whichever attempts are taken as resolved
nobody : AttemptId → Bool
nobody x = false

some-targets : (m n : ℕ) → m ≡ n → 1 ≤ n → 0 < m
some-targets m n same some = omega (arith, same, some)

-- whatever the outside did
pub room-found : (s : Script) (j : Job) (opening : Opening) (o : Outside) (done : AttemptId → Bool) (q : Report) → IsInForm j.targets s → FindsPlaces s j.attempts (length opening.stand.snaps) → 1 ≤ j.targets → 1 ≤ j.attempts → HasRoom s j.attempts opening.free → Headline (given_by s j opening) o done q → FindsRoom q
room-found s j opening o done q F (inl plain) some least room legal = transactions-find-room (given_by s j opening) o done q (some-targets s.targets j.targets F.read_for some) least room (only-transactions s plain) legal
room-found s j opening o done q F (inr places) some least room legal = room-is-found (given_by s j opening) o done q (some-targets s.targets j.targets F.read_for some) least room places legal

-- nor is any attempt to make a snapshot refused a place, whatever blocks there are
pub places-found : (s : Script) (j : Job) (opening : Opening) (o : Outside) (done : AttemptId → Bool) (q : Report) → HasPlaces s j.attempts (length opening.stand.snaps) → 1 ≤ j.attempts → Headline (given_by s j opening) o done q → SnapshotsFindPlaces s q
places-found s j opening o done q places least legal = places-are-found (given_by s j opening) o done q least places legal

pub of-lone-client : (s : Script) (j : Job) (opening : Opening) (q : Report) → IsInForm j.targets s → IsPlain s → 1 ≤ j.targets → 1 ≤ j.attempts → HasOneClient s → s.stops ≡ [] → IsLegal (given_by s j opening) q → TellsOfLoneClient (given_by s j opening) q
of-lone-client s j opening q F plain some least one none legal =
    let g = given_by s j opening in
    let lone = is-lone s plain one none in
    record {
      never_restarted = never-restart g undisturbed nobody q lone (legal nobody);
      one_attempt = try-once g undisturbed nobody q lone (legal nobody);
      rising = (rise g undisturbed nobody q lone (legal nobody)).0;
      plainly = end-plainly g undisturbed nobody q lone (legal nobody);
      committed = λ free room ticks. commit g undisturbed nobody q lone (legal nobody) (some-targets s.targets j.targets F.read_for some) least room free ticks;
    }

-- over stores that were never used there are ticks
pub is-of-lone-client : (s : Script) (j : Job) (q : Report) → IsInForm j.targets s → HasOneClient s → TellsOfLoneClient (fresh s j) q → IsOfLoneClient (fresh s j) q
is-of-lone-client s j q F one k = record {
  never_restarted = k.never_restarted;
  one_attempt = k.one_attempt;
  rising = k.rising;
  plainly = k.plainly;
  committed = λ free room. k.committed free room (fresh-ticks j.targets s j F one);
}

-- ---- whatever is found in the end

-- an outside of which nothing is told
abbrev pub silent : Outside
silent = record { rises = λ t. None; foreign = λ t. false; keeps = λ t. true }

pub silent-fits : {S : Type 0} (state : S → State) (xs ys : List S) → IsOutside state silent xs ys
silent-fits state xs ys = record { counts = λ t x y k at to says. let no : ⊥ = cc in absurd no }

-- where one store tells what it keeps so do all of its type, and something may be found of each
pub all-found : {S : Type 0} (durable : S → Option Durable) (may : S → Durable → Type 0) → AreFindable durable may → AreAlike durable → (x : S) → is_some (durable x) ≡ true → (ys : List S) → (lasts : List Durable) × MayBeFound may ys lasts
all-found durable may findable alike x told ys = (some_lasts durable may findable (λ y. alike x y told) ys, some-may_be durable may findable (λ y. alike x y told) ys)

module _ {S : Type 0} (durable : S → Option Durable) (state : S → State) (may : S → Durable → Type 0) (s : Script) (j : Job) (opening : Opening) (old ys : List S) (q : Report) (F : IsInForm j.targets s) (some : 1 ≤ j.targets) (least : 1 ≤ j.attempts)
    (K : ComesFrom durable state may (given_by s j opening) old ys q) where
  pub finds-room : AreFindable durable may → AreAlike durable → (x : S) → is_some (durable x) ≡ true → FindsPlaces s j.attempts (length opening.stand.snaps) → HasRoom s j.attempts opening.free → FindsRoom q
  finds-room findable alike x told places room =
      let k = all-found durable may findable alike x told ys in
      room-found s j opening silent (resolved k.0) q F places some least room (K.comes.stand k.0 silent k.1 (silent-fits state K.opened ys)).told

  pub finds-places : AreFindable durable may → AreAlike durable → (x : S) → is_some (durable x) ≡ true → HasPlaces s j.attempts (length opening.stand.snaps) → SnapshotsFindPlaces s q
  finds-places findable alike x told places =
      let k = all-found durable may findable alike x told ys in
      places-found s j opening silent (resolved k.0) q places least (K.comes.stand k.0 silent k.1 (silent-fits state K.opened ys)).told

  -- where no line tells of a stop
  pub tells-of-lone-client : IsPlain s → HasOneClient s → s.stops ≡ [] → stop_numbers q.lines ≡ [] → TellsOfLoneClient (given_by s j opening) q
  tells-of-lone-client plain one stopless unstopped =
      of-lone-client s j opening q F plain some least one stopless (K.comes.unstopped unstopped).legal

-- The epochs that lines tell of are as short as their types hold, at each moment of any run: leases cover those that were issued, and those of the
-- snapshots that targets have frozen.
use Rattle.std.specs.Prelude.{ℕ, ◌≡◌, ◌≤◌, ◌<◌, ◌/◌, ◌^◌, ◌==◌, true, is_some, Contains, length, slice_get, Option, Some, None, refl}
use Rattle.std.proofs.Common.{ap, subst, arith}
use Rattle.std.proofs.lemmas.Bool.Decides.{nat_tests}
use Rattle.base_types.specs.declared.epoch.Epoch.{Epoch}
use Rattle.base_types.specs.declared.id.AttemptId.{AttemptId}
use Rattle.base_types.specs.declared.id.ContId.{ContId}
use Rattle.base_types.specs.declared.report.Attempt.{Attempt}
use Rattle.base_types.specs.declared.report.Line.{Line}
use Rattle.base_types.specs.declared.report.Line.TheVariants as line
use Rattle.base_types.specs.declared.snapshot.Snap.{Snap}
use Rattle.daos_model.specs.declared.durable.Durable.{Durable}
use Rattle.daos_model.specs.Attempts.{tries}
use Rattle.daos_model.specs.BoolLaws.{and_right}
use Rattle.daos_model.specs.Durables.{is_frozen, is_snap_at}
use Rattle.daos_model.specs.Opening.{Opening}
use Rattle.model_laws.specs.DecidedLaws.{has-all}
use Rattle.model_laws.specs.Lists.{at-within}
use Rattle.model_laws.specs.Members.{Has, contains-from_has, has-any, has-from_contains}
use Rattle.report_writer.specs.Forms.{IsEpoch, IsEpochOrNone}
use Rattle.world_base.specs.declared.target.TargetState.{TargetState}
use Rattle.world_base.specs.declared.world.World.{World}
use Rattle.world_base.specs.Events.{Rules}
use Rattle.world_commit.specs.attempts.History.{History}
use Rattle.world_upheld.specs.below.Legal.{LeasesFit, floor-short as plain-floor, issued-short as plain-issued}
use Rattle.world_letters.specs.epochs.Epochs.{IsEpochOf, IsIssued, IsOwn, IsSeen, ReadsNamed}
use Rattle.world_letters.specs.snapshots.Makings.{ComesOf}
use Rattle.world_answers.specs.world_making.freezings.Seeing.{SeesFrozen, readers-see}
use Rattle.world_closing.specs.forming.ReportForms.{try-among}
use Rattle.world_upheld.specs.upheld.Upheld.{Grounds}
use Rattle.world_upheld.specs.reasons.Accounted.{AccountedFor}
use Rattle.world_upheld.specs.hearing.Leases.{AllKeepCovered}
use Rattle.world_answers.specs.world_causes.causes.Causes.{Stored}

-- ---- the statements

-- the epochs of which a line tells are short
abbrev pub HasShortEpochs : Line → Type 0
HasShortEpochs (line.Try a) = IsEpochOrNone a.epoch
HasShortEpochs (line.Restart number target incarnation floor) = IsEpoch floor
HasShortEpochs (line.Freeze target cont epoch) = IsEpoch epoch
HasShortEpochs (line.Snapshot name cont epoch) = IsEpoch epoch
HasShortEpochs (line.Aggregate number target cont upto) = IsEpoch upto
HasShortEpochs l = Unit {0}

-- so they are of each line, between any two events of any run, where leases cover what targets keep
abbrev pub AllLinesAreShort : Type 0
AllLinesAreShort =
    (r : Rules) (o : Opening) (h : History) (stored : Stored) (w : World) → 0 < r.script.targets → AccountedFor r o h stored w → AllKeepCovered w → (l : Line) → Has l w.lines → HasShortEpochs l

-- ---- what is frozen

same-number : (m n : ℕ) → (m == n) ≡ true → m ≡ n
same-number m n is = grind (arith, nat_tests)

-- where the lease covers each snapshot that a target keeps, it covers what is frozen there
frozen-leased : (d : Durable) (c : ContId) (e : Epoch) → ((s : Snap) → Contains d.snaps s → s.epoch.0 / 256 ≤ d.lease) → is_frozen d c e ≡ true → e.0 / 256 ≤ d.lease
unfolding is_frozen
frozen-leased d c e leased is =
    let z = has-any (is_snap_at c e) d.snaps is in
    subst (λ n. n / 256 ≤ d.lease) (same-number z.0.epoch.0 e.0 (and_right (z.0.cont.0 == c.0) (z.0.epoch.0 == e.0) z.2)) (leased z.0 (contains-from_has d.snaps z.0 z.1))

leased-short : (e lease : ℕ) → e / 256 ≤ lease → lease < 2 ^ 56 → e < 2 ^ 64
leased-short e lease covered low = omega (arith, covered, low)

module _ (r : Rules) (o : Opening) (h : History) (w : World) (some : 0 < r.script.targets) (k : Grounds r o h w) where
  -- there is a first target
  pub first : (s : TargetState) × (slice_get w.targets 0 ≡ Some s)
  first = at-within w.targets 0 (let all : length w.targets ≡ r.script.targets = k.heard.many in omega (arith, some, all))

  -- a snapshot at which an attempt reads is frozen everywhere
  pub sees : (x : AttemptId) (e : Epoch) → ReadsNamed r w.clients x e → SeesFrozen r o w x e
  sees x e g = readers-see r o w k.heard.freezings k.heard.makings k.heard.epochs x e (ap is_some g.reads) (IsSeen g)

module _ (r : Rules) (o : Opening) (h : History) (stored : Stored) (w : World) (some : 0 < r.script.targets) (a : AccountedFor r o h stored w) (covered : AllKeepCovered w) where
  k : Grounds r o h w
  k = a.grounds

  -- the first target
  zero : (s : TargetState) × (slice_get w.targets 0 ≡ Some s)
  zero = first r o h w some k

  leases : LeasesFit w
  leases t s here = (a.owned t s here).lease

  pub issued-short : (x : AttemptId) (e : Epoch) → IsIssued w x e → IsEpoch e
  issued-short x e i = plain-issued r o w k.heard.epochs leases x e i

  its-short : (x : AttemptId) (e : Epoch) → IsEpochOf r w x e → IsEpoch e
  its-short x e (IsOwn i) = issued-short x e i
  its-short x e (IsSeen g) =
      let z = sees r o h w some k x e g in
      leased-short e.0 zero.0.durable.lease
      (frozen-leased zero.0.durable z.cont e (λ x j. has-all (λ y. y.epoch.0 / 256 ≤ zero.0.durable.lease) zero.0.durable.snaps x (covered 0 zero.0 zero.1).snapshots (has-from_contains zero.0.durable.snaps x j)) (z.frozen 0 zero.0 zero.1))
      (leases 0 zero.0 zero.1)

  attempt-short : (a : Attempt) → Has a (tries w.lines) → IsEpochOrNone a.epoch
  attempt-short a i = by a.epoch refl
    where
      by : (e : Option Epoch) → a.epoch ≡ e → IsEpochOrNone e
      by None at = tt
      by (Some e) at = its-short a.id e (k.heard.epochs.shown a e (contains-from_has (tries w.lines) a i) at)

  comes : (l : Line) → Has l w.lines → ComesOf r w.issued l
  comes l i = k.heard.makings.lines l i

  lines-short : (l : Line) → Has l w.lines → HasShortEpochs l
  lines-short (line.Try a) i = attempt-short a (try-among w.lines a i)
  lines-short (line.Stop n t) i = tt
  lines-short (line.Restart n t incarnation floor) i = plain-floor r o w k.heard.epochs leases k.lives n t incarnation floor i
  lines-short (line.Freeze t c e) i = let from = comes (line.Freeze t c e) i in issued-short from.0 e (contains-from_has w.issued (from.0, e) from.1)
  lines-short (line.Snapshot name c e) i = let from = comes (line.Snapshot name c e) i in issued-short from.0 e (contains-from_has w.issued (from.0, e) from.1)
  lines-short (line.Aggregate n t c upto) i =
      let from = comes (line.Aggregate n t c upto) i in
      let short : from.1.0 < 2 ^ 64 = issued-short from.0 from.1 (contains-from_has w.issued (from.0, from.1) from.2) in
      let low : upto.0 ≤ from.1.0 = from.4 in
      omega (arith, short, low)
  lines-short (line.Down t) i = tt

pub all-lines-are-short : AllLinesAreShort
all-lines-are-short r o h stored w some a covered l i = lines-short r o h stored w some a covered l i

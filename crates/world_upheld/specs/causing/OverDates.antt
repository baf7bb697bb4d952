-- Outcomes show their causes over dates: where epochs of snapshots count as those of the attempts that read there. Every event of a run keeps it, and a run
-- begins with it.
use Rattle.std.specs.Prelude.{ℕ, ◌≡◌, ◌≤◌, ◌+◌, ◌/◌, ◌++◌, Bool, true, false, List, [], ◌∷◌, filter, Contains, refl, if◌then◌else◌}
use Rattle.std.proofs.Common.{sym, ◌∙◌, ap, subst, arith}
use Rattle.base_types.specs.declared.epoch.Epoch.{Epoch}
use Rattle.base_types.specs.declared.id.AttemptId.{AttemptId}
use Rattle.base_types.specs.declared.outcome.Cause.TheVariants as cause
use Rattle.base_types.specs.declared.outcome.Outcome.TheVariants as outcome
use Rattle.base_types.specs.declared.path.Path.{Path}
use Rattle.base_types.specs.declared.report.Attempt.{Attempt}
use Rattle.base_types.specs.declared.report.Line.{Line}
use Rattle.base_types.specs.declared.report.Line.TheVariants as line
use Rattle.daos_model.specs.Opening.{Opening, top}
use Rattle.model_laws.specs.Lists.{none-in}
use Rattle.model_laws.specs.Members.{Has}
use Rattle.world_legal.specs.world_commit.attempts.History.{History}
use Rattle.world_base.specs.declared.world.World.{World}
use Rattle.world_base.specs.Events.{Rules}
use Rattle.world_base.specs.Stops.{WorldEvent}
use Rattle.world_legal.specs.world_causes.causes.Causes.{Dated, ShowsRead, Stored}
use Rattle.world_legal.specs.world_causes.causes.Shown.{Causes, OutcomeStands, limit_over}
use Rattle.world_legal.specs.world_causes.causes.Storing.{AreApart, dated_ids}
use Rattle.world_upheld.specs.causing.Begin.{causes-begin, IsBegun}
use Rattle.world_upheld.specs.causing.Clients.{ClientsKnown, LossesKnown}
use Rattle.world_upheld.specs.causing.DateLaws.{epoch-once, events-keep_dates, reads-come_to_count}
use Rattle.world_upheld.specs.causing.Dates.{AreDates, IsBegunBy, counted_as, is_own_date, is_read_date, issued-own, newly_dated, with_dates}
use Rattle.world_upheld.specs.causing.Happening.{IsOtherwiseKnown, all-events-keep_causes}
use Rattle.world_upheld.specs.causing.Known.{IsMakingKnown}
use Rattle.world_upheld.specs.causing.Readers.{AllReadsMeet, events-keep_readers}
use Rattle.world_upheld.specs.causing.RefusalLaws.{all-events-keep_refusals}
use Rattle.world_upheld.specs.causing.Refusing.{FreezeRefusalsShow}
use Rattle.world_letters.specs.clients.Snapshots.{is_at_snapshot}
use Rattle.world_letters.specs.epochs.Epochs.{Epochs, IsEpochOf}
use Rattle.world_legal.specs.world_commit.fates.Facts.{Attempts}
use Rattle.world_legal.specs.world_causes.showing.Happening.{stored_in}

-- Outcomes show their causes by what counts as attempts' epochs: those that were issued, and for an attempt that reads at a snapshot that of the
-- snapshot, so much later. So do refusals of Freezes; and reads at snapshots that wait meet what they wait for.
pub record CausesOverDates (r : Rules) (o : Opening) (late : ℕ) (stored : Stored) (w : World) : Type 0 where
  pub dated : Dated
  pub dates : AreDates r late dated w
  pub causes : Causes r o stored (with_dates dated w)
  pub refusals : FreezeRefusalsShow r o (with_dates dated w)
  pub readers : AllReadsMeet r dated w

-- What asks for a read at a snapshot may count: the same holds where the epoch of the snapshot counts as that of its attempt.
pub record CountsFor (r : Rules) (o : Opening) (late : ℕ) (stored : Stored) (w : World) (x : AttemptId) (e : Epoch) : Type 0 where
  pub then' : CausesOverDates r o late stored w
  pub among : Contains then'.dated (x, counted_as r late x e)

abbrev pub ReadsCount : Type 0
ReadsCount =
    (r : Rules) (o : Opening) (late : ℕ) (stored : Stored) (w : World) (x : AttemptId) (e : Epoch) → Epochs r (top o) w → (k : CausesOverDates r o late stored w) → is_at_snapshot r x ≡ true → IsEpochOf r w x e → IsBegunBy r w x → (counted_as r late x e).0 / 256 ≤ limit_over o w.lines k.dated + 1
    → CountsFor r o late stored w x e

pub reads-count : ReadsCount
reads-count r o late stored w x e E k at its begun within =
    let z = reads-come_to_count r o late stored k.dated w x e E k.dates k.refusals k.causes at its begun within in
    record {
      then' = record {
        dated = z.later;
        dates = z.dates;
        causes = z.causes;
        refusals = z.refusals;
        readers = λ t s here p y i reads asks. (let m = k.readers t s here p y i reads asks in record { own = m.own; its = z.more y m.own m.its; other = m.other; others = z.more p.on m.other m.others; below = m.below; overlap = m.overlap });
      };
      among = z.among;
    }

-- Each event of a run keeps it, with what is stored in it, where what is heard is known.
abbrev pub EventsKeepCausesOverDates : Type 0
EventsKeepCausesOverDates =
    (r : Rules) (o : Opening) (late : ℕ) (h : History) (stored : Stored) (w v : World) → Attempts r h w → (k : CausesOverDates r o late stored w) → IsMakingKnown r o (with_dates k.dated w) → ClientsKnown r o w → LossesKnown r w → Epochs r (top o) v
    → (e : WorldEvent r w v) → IsOtherwiseKnown r o stored k.dated e.happens → CausesOverDates r o late (stored_in r e.happens ++ stored) v

pub events-keep_causes : EventsKeepCausesOverDates
events-keep_causes r o late h stored w v attempts k K known lost E e so =
    let z = all-events-keep_causes r o h stored k.dated w v attempts K known lost k.dates.begun e so k.causes in
    record {
      dated = k.dated ++ newly_dated r e.happens;
      dates = events-keep_dates r (top o) late k.dated w v k.dates E e z.0;
      causes = z.1;
      refusals = all-events-keep_refusals r o stored k.dated w v K k.causes e;
      readers = events-keep_readers r o h stored k.dated w v attempts e so k.causes k.readers;
    }

-- A run begins with it.
abbrev pub CausesOverDatesBegin : Type 0
CausesOverDatesBegin = (r : Rules) (o : Opening) (late : ℕ) (w : World) → IsBegun o w → CausesOverDates r o late [] w

pub causes-over_dates_begin : CausesOverDatesBegin
causes-over_dates_begin r o late w B = record {
  dated = w.issued;
  dates = record {
    issued = subst (λ is. filter (is_own_date r) is ≡ is) (sym B.issued) refl;
    epochs = λ x e i. absurd (none-in w.issued (x, e) B.issued i);
    begun = λ x e i. absurd (none-in w.issued (x, e) B.issued i);
    once = subst (λ is. AreApart (dated_ids (filter (is_read_date r) is))) (sym B.issued) tt;
  };
  causes = causes-begin r o w B;
  refusals = λ l x how i. absurd (none-in w.messages l B.messages i);
  readers = λ t s here p x i. absurd (subst (Has p) (B.parked t s here) i);
}

-- ---- later reads

-- A later read that a line's cause names was issued its epoch: it is none at a snapshot. For so it is whether the epochs of such reads count as they are,
-- or one later.
abbrev pub LaterReadsWereIssued : Type 0
LaterReadsWereIssued =
    (r : Rules) (o : Opening) (stored : Stored) (w : World) → Epochs r (top o) w → CausesOverDates r o 0 stored w → CausesOverDates r o 1 stored w
    → (before : List Line) (a : Attempt) (after : List Line) (by : AttemptId) (epoch : Epoch) (path : Path) → w.lines ≡ before ++ line.Try a ∷ after → a.outcome ≡ outcome.Restart (cause.ReadLater by epoch path) → Contains w.issued (by, epoch)

one-later : (r : Rules) (x : AttemptId) (e : Epoch) → is_at_snapshot r x ≡ true → counted_as r 0 x e ≡ counted_as r 1 x e → ⊥
one-later r x e at same = by (is_at_snapshot r x) at same
  where
    by : (b : Bool) → b ≡ true → (if b then record { 0 = e.0 + 0 } else e) ≡ (if b then record { 0 = e.0 + 1 } else e) → ⊥
    by true is k = let n : e.0 + 0 ≡ e.0 + 1 = ap (λ z. z.0) k in omega (arith, n)
    by false is k = let no : ⊥ = cc in no

-- what counts both ways was issued
pub both-issued : (r : Rules) (o : Opening) (stored : Stored) (w : World) (x : AttemptId) (d : Epoch) → Epochs r (top o) w → (k : CausesOverDates r o 0 stored w) (l : CausesOverDates r o 1 stored w) → Contains k.dated (x, d) → Contains l.dated (x, d) → Contains w.issued (x, d)
both-issued r o stored w x d E k l i j = by (is_at_snapshot r x) refl
  where
    by : (b : Bool) → is_at_snapshot r x ≡ b → Contains w.issued (x, d)
    by false off = issued-own r 0 k.dated w k.dates x d off i
    by true at =
        let m = k.dates.epochs x d i in
        let n = l.dates.epochs x d j in
        absurd (one-later r x n.0 at (ap (counted_as r 0 x) (sym (epoch-once r (top o) w x m.0 n.0 E m.1 n.1)) ∙ sym m.2 ∙ n.2))

pub later-reads_issued : LaterReadsWereIssued
later-reads_issued r o stored w E k l before a after by epoch path among is = both-issued r o stored w by epoch E k l (shows k).reader (shows l).reader
  where
    shows : {late : ℕ} (k : CausesOverDates r o late stored w) → ShowsRead r k.dated a.id by epoch path
    shows k = subst (OutcomeStands r o stored k.dated before a.id) is (k.causes.lines before a after among)

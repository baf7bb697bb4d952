-- Whatever happens keeps that outcomes show their causes, also where snapshots are made and read, and containers aggregated: epochs of snapshots count
-- as those of the attempts that read there.
use Rattle.std.specs.Prelude.{ℕ, ◌≡◌, ◌++◌, Bool, true, false, List, [], ◌∷◌, Option, Some, refl}
use Rattle.std.proofs.Common.{append_assoc, append-nil, inl, inr, sym, ◌∙◌, ap, subst}
use Rattle.base_types.specs.declared.entry.Verdict.{Verdict}
use Rattle.base_types.specs.declared.entry.Verdict.TheVariants as verdicts
use Rattle.base_types.specs.declared.epoch.Epoch.{Epoch}
use Rattle.base_types.specs.declared.id.AttemptId.{AttemptId}
use Rattle.base_types.specs.declared.report.Line.{Line}
use Rattle.base_types.specs.declared.report.Line.TheVariants as line
use Rattle.base_messages.specs.declared.message.Message.{Message}
use Rattle.base_messages.specs.declared.message.Message.TheVariants as message
use Rattle.daos_model.specs.Opening.{Opening}
use Rattle.world_legal.specs.world_commit.attempts.Counting.{has-taken}
use Rattle.world_legal.specs.world_commit.attempts.History.{History}
use Rattle.world_base.specs.declared.letter.Letter.{Letter}
use Rattle.world_base.specs.declared.request.FetchRequest.{FetchRequest}
use Rattle.world_base.specs.declared.target.TargetState.{TargetState}
use Rattle.world_base.specs.declared.world.World.{World}
use Rattle.world_base.specs.Events as events
use Rattle.world_base.specs.Events.{ByClient, ByTarget, Rules, ToClient, ToTarget, TargetHears, kept, target_plan, rightly}
use Rattle.world_base.specs.Requests.{fetch_message}
use Rattle.world_base.specs.Stops.{AtWork, CutOf, Draws, Fails, Further, GivenUp, Happening, Hearing, HearsMore, IdleWork, IsCut, IsInHand, Opens, Plainly, TargetCut, WorldEvent, restart_line, stops_so_far}
use Rattle.world_legal.specs.world_causes.causes.Causes.{Dated, Stored, stored_by}
use Rattle.world_legal.specs.world_causes.causes.Growth.{blocks-more}
use Rattle.world_legal.specs.world_causes.causes.Heard.{IsHeardAs, IsKnownAt}
use Rattle.world_legal.specs.world_causes.causes.HearingLaws.{LossesStand}
use Rattle.world_legal.specs.world_causes.causes.Shown.{Causes}
use Rattle.world_legal.specs.world_causes.causes.TargetLaws.{target-hears-keeps, target-idles-keeps}
use Rattle.world_upheld.specs.causing.Clients.{ClientsKnown, LossesKnown, going-keeps, hears-keeps}
use Rattle.world_upheld.specs.causing.DatedCuts.{snapshot-read-cuts_keep, verdict-cuts_keep}
use Rattle.world_upheld.specs.causing.DatedEvents.{cut-dated, drawn-dated, fails-dated, further-dated, given_up-dated, hears-dated, idles-dated, opens-dated}
use Rattle.world_upheld.specs.causing.DatedReads.{snapshot-reads_keep}
use Rattle.world_upheld.specs.causing.DatedTurns.{lost-queries_keep, verdicts-keep}
use Rattle.world_upheld.specs.causing.DatedVerdicts.{IsVerdictRight}
use Rattle.world_upheld.specs.causing.Dates.{line-on, newly_dated, with_dates}
use Rattle.world_upheld.specs.causing.Doing.{AreBegun}
use Rattle.world_upheld.specs.causing.Events.{making-cuts_keep_causes, making-keeps_causes}
use Rattle.world_upheld.specs.causing.Known.{IsMakingKnown}
use Rattle.world_upheld.specs.causing.SnapshotReads.{IsDatedRead}
use Rattle.world_letters.specs.epochs.Epochs.{IsAt}
use Rattle.world_legal.specs.world_commit.fates.Facts.{Attempts}
use Rattle.world_legal.specs.world_commit.fates.Rightly.{letters-tell}
use Rattle.world_legal.specs.world_causes.showing.Cutting.{cut-follows_on, hearing-leaves, idle-leaves, work_stored}
use Rattle.world_legal.specs.world_causes.showing.Further.{IsHeardFurther, TellsReset}
use Rattle.world_legal.specs.world_causes.showing.FurtherEvents.{further-keeps}
use Rattle.world_legal.specs.world_causes.showing.Happening.{stored_in}
use Rattle.world_legal.specs.world_causes.showing.Stopping.{failure-keeps, given_up-keeps, numbers-keep, opening-keeps, sweep-keeps}
use Rattle.world_legal.specs.world_commit.statuses.Heard.{is_of_attempts}
use Rattle.world_legal.specs.world_commit.stops.CutEvents.{IsWithoutSnapshots, is_without_snapshots}

-- ---- what is known of what is heard

-- what is heard frees no Fetch that waits, and is no read at a snapshot
abbrev pub frees_none : Message → Bool
frees_none (message.Fetch x op group ep first tracker q true) = false
frees_none (message.Verdict x ask inc v) = false
frees_none m = true

-- Of what a target hears, or has in hand where its turn is cut: of a read at a snapshot; of a Verdict; or of anything else.
pub data IsHeardSo (r : Rules) (o : Opening) (stored : Stored) (dated : Dated) (w : World) (t : ℕ) (s : TargetState) (l : Letter) : Type 0 where
  IsRead : (q : FetchRequest) (e : Epoch) → l.message ≡ fetch_message q → IsDatedRead r o dated w.lines q l.from e (kept s) → IsHeardSo r o stored dated w t s l
  IsVerdict : (x : AttemptId) (ask : Option AttemptId) (inc : ℕ) (v : Verdict) → l.message ≡ message.Verdict x ask inc v → IsVerdictRight r o dated w.lines (target_plan r t) s.memory (kept s) x ask v → IsHeardSo r o stored dated w t s l
  IsOther : frees_none l.message ≡ true → IsHeardAs r o stored (with_dates dated w) t s l → IsHeardSo r o stored dated w t s l

-- and of what it hears after stops: that its question for who waits got no answer; or of anything else
pub data IsHeardThen (r : Rules) (o : Opening) (stored : Stored) (dated : Dated) (w : World) (t : ℕ) (s : TargetState) (l : Letter) : Type 0 where
  IsLost : (by : ℕ) (down : Bool) (a x : AttemptId) → TellsReset by down (message.Query a (Some x)) l.message → IsVerdictRight r o dated w.lines (target_plan r t) s.memory (kept s) a (Some x) verdicts.Undecided → IsHeardThen r o stored dated w t s l
  IsFurther : IsHeardFurther r o stored (with_dates dated w) t s l → IsHeardThen r o stored dated w t s l

-- What is known of an event beside: of a request that a client hears is lost, that it shows why; and of what a target hears that isn't of
-- snapshots and aggregation, where these epochs count.
abbrev pub IsOtherwiseKnown : (r : Rules) (o : Opening) (stored : Stored) (dated : Dated) {w v : World} → Happening r w v → Type 0
IsOtherwiseKnown r o stored dated {w = w} (Plainly (ByClient g) up) = Unit {0}
IsOtherwiseKnown r o stored dated {w = w} (Plainly (ToClient g) up) = LossesStand r w.lines g.n g.c g.l.message
IsOtherwiseKnown r o stored dated {w = w} (Plainly (ToTarget g) up) = IsKnownAt r o (with_dates dated w) g.t g.s × IsHeardSo r o stored dated w g.t g.s g.l
IsOtherwiseKnown r o stored dated {w = w} (Plainly (ByTarget g) up) = Unit {0}
IsOtherwiseKnown r o stored dated {w = w} (Further g) = is_of_attempts g.hears.l.message ≡ true → IsKnownAt r o (with_dates dated w) g.hears.t g.hears.s × IsHeardThen r o stored dated w g.hears.t g.hears.s g.hears.l
IsOtherwiseKnown r o stored dated {w = w} (IsCut g) = IsWithoutSnapshots g.work → (l : Letter) (reading number : ℕ) → g.work ≡ Hearing l reading number → IsKnownAt r o (with_dates dated w) g.t g.s × IsHeardSo r o stored dated w g.t g.s l
IsOtherwiseKnown r o stored dated (Opens g) = Unit {0}
IsOtherwiseKnown r o stored dated (Fails g) = Unit {0}
IsOtherwiseKnown r o stored dated (GivenUp g) = Unit {0}
IsOtherwiseKnown r o stored dated (Draws g) = Unit {0}

-- ---- the statements

-- With that everything that happens keeps it that outcomes show their causes, where what is issued counts as well; and attempts that were begun stay
-- so.
abbrev pub AllHappeningsKeepCauses : Type 0
AllHappeningsKeepCauses =
    (r : Rules) (o : Opening) (h : History) (stored : Stored) (dated : Dated) (w v : World) → Attempts r h w → IsMakingKnown r o (with_dates dated w) → ClientsKnown r o w → LossesKnown r w → AreBegun r dated w → (e : Happening r w v)
    → IsOtherwiseKnown r o stored dated e → Causes r o stored (with_dates dated w) → AreBegun r dated v × Causes r o (stored_in r e ++ stored) (with_dates (dated ++ newly_dated r e) v)

-- and so does every event of a run
abbrev pub AllEventsKeepCauses : Type 0
AllEventsKeepCauses =
    (r : Rules) (o : Opening) (h : History) (stored : Stored) (dated : Dated) (w v : World) → Attempts r h w → IsMakingKnown r o (with_dates dated w) → ClientsKnown r o w → LossesKnown r w → AreBegun r dated w → (e : WorldEvent r w v)
    → IsOtherwiseKnown r o stored dated e.happens → Causes r o stored (with_dates dated w) → AreBegun r dated v × Causes r o (stored_in r e.happens ++ stored) (with_dates (dated ++ newly_dated r e.happens) v)

-- ---- lines grow

grown : (r : Rules) (w v : World) → Happening r w v → (more : List Line) × (v.lines ≡ w.lines ++ more)
grown r w v (Plainly (ByClient g) up) = (_, ap (λ u. u.lines) g.after)
grown r w v (Plainly (ToClient g) up) = (_, ap (λ u. u.lines) g.after)
grown r w v (Plainly (ToTarget g) up) = (_, ap (λ u. u.lines) g.after)
grown r w v (Plainly (ByTarget g) up) = (_, ap (λ u. u.lines) g.after)
grown r w v (Further g) = (_, ap (λ u. u.lines) g.hears.after)
grown r w v (IsCut g) = (_, ap (λ u. u.lines) g.after ∙ append_assoc w.lines g.cut.lines (line.Stop (stops_so_far w.lines) g.t ∷ []))
grown r w v (Opens g) = (restart_line g.number g.t g.s.durable ∷ [], ap (λ u. u.lines) g.after)
grown r w v (Fails g) = ([], ap (λ u. u.lines) g.after ∙ sym (append-nil w.lines))
grown r w v (GivenUp g) = (line.Down g.t ∷ [], ap (λ u. u.lines) g.after)
grown r w v (Draws g) = ([], ap (λ u. u.lines) g.after ∙ sym (append-nil w.lines))

-- where clients stay, what was begun stays so
begun-there : (r : Rules) (dated : Dated) (w v : World) → AreBegun r dated w → Happening r w v → v.clients ≡ w.clients → AreBegun r dated v
begun-there r dated w v begun e same x d i = elim (begun x d i) [
  | inl at ↦ inl (subst (λ cs. IsAt r cs x) (sym same) at)
  | inr told ↦ let k = grown r w v e in inr (line-on w v x k.0 k.1 told)
]

-- ---- what happens

-- what a target was at is of snapshots, or it isn't
without-snapshots : (work : AtWork) (P : Type 0) → (IsWithoutSnapshots work → P) → ((IsWithoutSnapshots work → ⊥) → P) → P
without-snapshots IdleWork P plain making = plain tt
without-snapshots (Hearing l reading number) P plain making = by (is_without_snapshots l.message) refl
  where
    by : (b : Bool) → is_without_snapshots l.message ≡ b → P
    by true is = plain is
    by false is = making (λ on. let bad : ⊥ = cc in bad)

module _ (r : Rules) (o : Opening) (h : History) (stored : Stored) (dated : Dated) (w v : World) (attempts : Attempts r h w) (K : IsMakingKnown r o (with_dates dated w)) (known : ClientsKnown r o w) (lost : LossesKnown r w) (begun : AreBegun r dated w)
    (C : Causes r o stored (with_dates dated w)) where
  none-more : {new : Stored} → Causes r o new (with_dates dated v) → Causes r o new (with_dates (dated ++ []) v)
  none-more {new = new} = subst (λ is. Causes r o new (with_dates is v)) (sym (append-nil dated))

  -- a target hears a letter
  hears-so : (g : TargetHears r w v) → IsKnownAt r o (with_dates dated w) g.t g.s → IsHeardSo r o stored dated w g.t g.s g.l
      → Causes r o (stored_by g.t g.s.durable g.new.durable ++ stored) (with_dates (dated ++ events.listed g.did.issued) v)
  unfolding hears-dated
  hears-so g at (IsRead q e is read) = snapshot-reads_keep r o stored dated w v g q e is read at.target at.opens C
  hears-so g at (IsVerdict x ask inc k is right) =
      verdicts-keep r o stored dated w v (rightly r w v g (letters-tell r h w attempts g.l g.t g.s (has-taken w.messages g.l g.rest g.takes) g.to_it g.here)) x ask inc k is at.target at.opens right C
  hears-so g at (IsOther none other) =
      target-hears-keeps r o stored (with_dates dated w) (with_dates (dated ++ events.listed g.did.issued) v) C (hears-dated r dated w v (rightly r w v g (letters-tell r h w attempts g.l g.t g.s (has-taken w.messages g.l g.rest g.takes) g.to_it g.here))) other

  further-so : (g : HearsMore r w v) → is_of_attempts g.hears.l.message ≡ true → IsKnownAt r o (with_dates dated w) g.hears.t g.hears.s → IsHeardThen r o stored dated w g.hears.t g.hears.s g.hears.l
      → Causes r o (stored_by g.hears.t g.hears.s.durable g.hears.new.durable ++ stored) (with_dates (dated ++ events.listed g.hears.did.issued) v)
  unfolding further-dated
  further-so g is at (IsLost by down a x tells right) = lost-queries_keep r o stored dated w v g by down a x tells at.target at.opens right C
  further-so g is at (IsFurther other) = further-keeps r o stored (with_dates dated w) (with_dates (dated ++ events.listed g.hears.did.issued) v) C (further-dated r dated w v g) other is

  -- a turn is cut
  cut-so : (g : TargetCut r w v) → IsWithoutSnapshots g.work → ((l : Letter) (reading number : ℕ) → g.work ≡ Hearing l reading number → IsKnownAt r o (with_dates dated w) g.t g.s × IsHeardSo r o stored dated w g.t g.s l)
      → Causes r o (work_stored (target_plan r g.t) g.s g.work g.cut g.turn ++ stored) (with_dates (dated ++ g.cut.issued) v)
  unfolding cut-dated
  cut-so g plain so = by g.work g.in_hand plain g.turn refl
    where
      then' : World
      then' = with_dates (dated ++ g.cut.issued) v

      by : (work : AtWork) → IsInHand w g.t work → IsWithoutSnapshots work → (turn : CutOf (target_plan r g.t) g.s work g.cut) → g.work ≡ work → Causes r o (work_stored (target_plan r g.t) g.s work g.cut turn ++ stored) then'
      by IdleWork hand plain turn is =
          cut-follows_on r o stored [] (with_dates dated w) then' C g.t g.s g.cut g.here g.runs (cut-dated r dated w v g).after (λ u off. blocks-more r.script u [] stored) (idle-leaves r o stored (with_dates dated w) C g.t g.s g.here g.runs g.cut turn)
      by (Hearing l reading number) hand plain turn is = heard (so l reading number is).1
        where
          heard : IsHeardSo r o stored dated w g.t g.s l → Causes r o (work_stored (target_plan r g.t) g.s (Hearing l reading number) g.cut turn ++ stored) then'
          heard (IsRead q e says read) = subst (λ m. (c : CutOf (target_plan r g.t) g.s (Hearing (record l { message = m }) reading number) g.cut) → Causes r o (work_stored (target_plan r g.t) g.s (Hearing (record l { message = m }) reading number) g.cut c ++ stored) then')
              (sym says) (λ c. snapshot-read-cuts_keep r o stored dated w v g l reading number q e is says read.snapshot read.own C) turn
          heard (IsVerdict x ask inc k says right) = subst (λ m. (c : CutOf (target_plan r g.t) g.s (Hearing (record l { message = m }) reading number) g.cut) → Causes r o (work_stored (target_plan r g.t) g.s (Hearing (record l { message = m }) reading number) g.cut c ++ stored) then')
              (sym says) (λ c. verdict-cuts_keep r o stored dated w v g l reading number x ask inc k is says (so l reading number is).0.target (so l reading number is).0.opens right C) turn
          heard (IsOther none other) =
              cut-follows_on r o stored _ (with_dates dated w) then' C g.t g.s g.cut g.here g.runs (cut-dated r dated w v g).after (λ u off. blocks-more r.script u _ stored)
              (hearing-leaves r o stored (with_dates dated w) C g.t g.s g.here g.runs reading l other l.message number g.cut refl plain turn)

  happening-keeps : (e : Happening r w v) → IsOtherwiseKnown r o stored dated e → Causes r o (stored_in r e ++ stored) (with_dates (dated ++ newly_dated r e) v)
  unfolding idles-dated further-dated cut-dated
  happening-keeps (Plainly (ByClient g) up) so = none-more (going-keeps r o stored dated w v K.some known lost begun g C).1
  happening-keeps (Plainly (ToClient g) up) so = none-more (hears-keeps r o stored dated w v K.some known lost begun g so C).1
  happening-keeps (Plainly (ToTarget g) up) so = hears-so g so.0 so.1
  happening-keeps (Plainly (ByTarget g) up) so = target-idles-keeps r o stored (with_dates dated w) (with_dates (dated ++ events.listed g.did.issued) v) C (idles-dated r dated w v g)
  happening-keeps (Further g) so = by (is_of_attempts g.hears.l.message) refl
    where
      by : (b : Bool) → is_of_attempts g.hears.l.message ≡ b → Causes r o (stored_in r (Further g) ++ stored) (with_dates (dated ++ newly_dated r (Further g)) v)
      by true is = let k = so is in further-so g is k.0 k.1
      by false is = making-keeps_causes r o stored (with_dates dated w) (with_dates (dated ++ events.listed g.hears.did.issued) v) K (further-dated r dated w v g) is C
  happening-keeps (IsCut g) so = without-snapshots g.work (Causes r o (stored_in r (IsCut g) ++ stored) (with_dates (dated ++ newly_dated r (IsCut g)) v)) (λ is. cut-so g is (so is))
      (λ off. making-cuts_keep_causes r o stored (with_dates dated w) (with_dates (dated ++ g.cut.issued) v) K (cut-dated r dated w v g) off C)
  happening-keeps (Opens g) so = none-more (opening-keeps r o stored (with_dates dated w) (with_dates dated v) C (opens-dated r dated w v g))
  happening-keeps (Fails g) so = none-more (failure-keeps r o stored (with_dates dated w) (with_dates dated v) C (fails-dated r dated w v g))
  happening-keeps (GivenUp g) so = none-more (given_up-keeps r o stored (with_dates dated w) (with_dates dated v) C (given_up-dated r dated w v g))
  happening-keeps (Draws g) so = none-more (numbers-keep r o stored (with_dates dated w) (with_dates dated v) C (drawn-dated r dated w v g))

  happening-begun : (e : Happening r w v) → IsOtherwiseKnown r o stored dated e → AreBegun r dated v
  happening-begun (Plainly (ByClient g) up) so = (going-keeps r o stored dated w v K.some known lost begun g C).0
  happening-begun (Plainly (ToClient g) up) so = (hears-keeps r o stored dated w v K.some known lost begun g so C).0
  happening-begun (Plainly (ToTarget g) up) so = begun-there r dated w v begun (Plainly (ToTarget g) up) (ap (λ u. u.clients) g.after)
  happening-begun (Plainly (ByTarget g) up) so = begun-there r dated w v begun (Plainly (ByTarget g) up) (ap (λ u. u.clients) g.after)
  happening-begun (Further g) so = begun-there r dated w v begun (Further g) (ap (λ u. u.clients) g.hears.after)
  happening-begun (IsCut g) so = begun-there r dated w v begun (IsCut g) (ap (λ u. u.clients) g.after)
  happening-begun (Opens g) so = begun-there r dated w v begun (Opens g) (ap (λ u. u.clients) g.after)
  happening-begun (Fails g) so = begun-there r dated w v begun (Fails g) (ap (λ u. u.clients) g.after)
  happening-begun (GivenUp g) so = begun-there r dated w v begun (GivenUp g) (ap (λ u. u.clients) g.after)
  happening-begun (Draws g) so = begun-there r dated w v begun (Draws g) (ap (λ u. u.clients) g.after)

  pub happening-goes : (e : Happening r w v) → IsOtherwiseKnown r o stored dated e → AreBegun r dated v × Causes r o (stored_in r e ++ stored) (with_dates (dated ++ newly_dated r e) v)
  happening-goes e so = (happening-begun e so, happening-keeps e so)

pub all-happenings-keep_causes : AllHappeningsKeepCauses
all-happenings-keep_causes r o h stored dated w v attempts K known lost begun e so C = happening-goes r o h stored dated w v attempts K known lost begun C e so

pub all-events-keep_causes : AllEventsKeepCauses
all-events-keep_causes r o h stored dated w v attempts K known lost begun e so C =
    let k = happening-goes r o h stored dated w e.u attempts K known lost begun C e.happens so in
    subst (λ z. AreBegun r dated z × Causes r o (stored_in r e.happens ++ stored) (with_dates (dated ++ newly_dated r e.happens) z)) (sym e.after)
    (k.0, sweep-keeps r o (stored_in r e.happens ++ stored) (with_dates (dated ++ newly_dated r e.happens) e.u) k.1)

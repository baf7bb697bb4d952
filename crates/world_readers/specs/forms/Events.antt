-- Every event of a run keeps the versions of targets in form.
use Rattle.std.specs.Prelude.{ℕ, ◌≡◌, ◌⊎◌, true, List, Option, slice_get, Some, refl}
use Rattle.std.proofs.Common.{sym, ap, subst, inl, inr}
use Rattle.std.proofs.Math.ListN.{set}
use Rattle.base_types.specs.declared.entry.Entry.{Entry}
use Rattle.base_types.specs.declared.epoch.Epoch.{Epoch}
use Rattle.base_types.specs.declared.operation.MinorWrite.{MinorWrite}
use Rattle.base_messages.specs.declared.message.Message.{Message}
use Rattle.base_messages.specs.declared.message.Message.TheVariants as message
use Rattle.daos_model.specs.Changes.{reopened}
use Rattle.daos_model.specs.declared.durable.Durable.{Durable}
use Rattle.daos_model.specs.declared.durable.Version.{Version}
use Rattle.daos_model.specs.Forms.{is_write_in_form}
use Rattle.daos_model.specs.Opening.{Opening}
use Rattle.model_laws.specs.DecidedLaws.{all-from_has, has-all}
use Rattle.model_laws.specs.Members.{Has, contains-from_has, has-from_filter}
use Rattle.world_base.specs.declared.letter.Letter.{Letter}
use Rattle.world_base.specs.declared.target.Life.TheVariants.{Down, Running}
use Rattle.world_base.specs.declared.target.TargetState.{TargetState}
use Rattle.world_base.specs.declared.world.World.{World}
use Rattle.world_base.specs.Events.{ByClient, ByTarget, Event, Rules, TargetHearsBy, ToClient, ToTarget, kept, target_after, target_plan}
use Rattle.world_base.specs.Further.{HearsFurther}
use Rattle.world_base.specs.Letters.{target}
use Rattle.world_base.specs.Stops.{AtWork, CutOf, Draws, Fails, Further, GivenUp, Happening, Hearing, IdleWork, IsCut, IsInHand, Opens, Plainly, TargetCut, WorldEvent, opened_at, stopped_at}
use Rattle.world_making.specs.world_commit.attempts.Attempts.{writes_of}
use Rattle.world_making.specs.world_commit.attempts.Counting.{has-taken}
use Rattle.world_making.specs.world_commit.attempts.History.{History}
use Rattle.world_making.specs.world_commit.fates.Facts.{Attempts, IsPrepareRight, IsSaidSo}
use Rattle.world_making.specs.world_contents.reads.EventLaws.{at-or-there}
use Rattle.world_making.specs.world_contents.reads.Given.{Given, IsMessageRight}
use Rattle.world_readers.specs.forms.Forms.{AllKeepInForm, VersionsInForm}
use Rattle.world_readers.specs.forms.Turns.{AreWrites, AsksInForm, further-in_form, hearing-cut, hears-in_form, idle-cut, idles-in_form}

-- ---- the statements

-- each Prepare in flight carries writes of its attempt
abbrev pub PreparesCarryOwn : Rules → World → Type 0
PreparesCarryOwn r w =
    (l : Letter) (e : Entry) (first : Option Epoch) (ws : List MinorWrite) (inc : ℕ) → Has l w.messages → l.message ≡ message.Prepare e first ws inc → (m : MinorWrite) → Has m ws → Has m (writes_of r e.attempt)

-- so it is by the facts of attempts
abbrev pub AttemptsPrepareOwn : Type 0
AttemptsPrepareOwn = (r : Rules) (h : History) (w : World) → Attempts r h w → PreparesCarryOwn r w

-- Every event keeps the versions of targets in form, where what is asked of running targets is right, and Prepares carry writes of their
-- attempts.
abbrev pub AllEventsKeepForm : Type 0
AllEventsKeepForm = (r : Rules) (o : Opening) (held : ℕ → List Version) (w v : World) → Given r o held w → PreparesCarryOwn r w → WorldEvent r w v → AllKeepInForm w → AllKeepInForm v

-- ---- what Prepares carry

pub attempts-prepare_own : AttemptsPrepareOwn
attempts-prepare_own r h w k l e first ws inc i is m j =
    let p : IsPrepareRight r h w l.from l.to e ws inc = subst (IsSaidSo r h w l.from l.to) is (k.on.letters l i) in
    (has-from_filter _ (writes_of r e.attempt) m (subst (Has m) p.writes j)).0

-- ---- one target changes

reopens-in_form : (d : Durable) → VersionsInForm d → VersionsInForm (reopened d)
unfolding reopened
reopens-in_form d k = k

one-changes : (w v : World) (t : ℕ) (s z : TargetState) → slice_get w.targets t ≡ Some s → v.targets ≡ set w.targets t z → VersionsInForm z.durable → AllKeepInForm w → AllKeepInForm v
one-changes w v t s z here targets form k u x at = by (at-or-there w.targets t s z here u x (subst (λ ts. slice_get ts u ≡ Some x) targets at))
  where
    by : ((u ≡ t) × (x ≡ z)) ⊎ ((u ≡ t → ⊥) × (slice_get w.targets u ≡ Some x)) → VersionsInForm x.durable
    by (inl new) = subst (λ n. VersionsInForm n.durable) (sym new.1) form
    by (inr old) = k u x old.1

none-changes : (w v : World) → v.targets ≡ w.targets → AllKeepInForm w → AllKeepInForm v
none-changes w v same k t s at = k t s (subst (λ ts. slice_get ts t ≡ Some s) same at)

-- ---- every event

module _ (r : Rules) (o : Opening) (held : ℕ → List Version) (w : World) (given : Given r o held w) (own : PreparesCarryOwn r w) (k : AllKeepInForm w) where
  -- what is asked of a running target is in form
  asks-form : (t : ℕ) (s : TargetState) (l : Letter) → Has l w.messages → l.to ≡ target t → slice_get w.targets t ≡ Some s → s.life ≡ Running → AsksInForm l.message
  asks-form t s l i to here runs = by l.message refl
    where
      right : IsMessageRight r o w t s l.message
      right = given.asked l t s (contains-from_has w.messages l i) to here runs

      by : (q : Message) → l.message ≡ q → AsksInForm q
      by (message.Commit x ep first tracker ws) is = subst AreWrites (sym (subst (IsMessageRight r o w t s) is right).0.its) (given.forms x).each
      by (message.Prepare e first ws inc) is =
          all-from_has (λ m. is_write_in_form m.write ≡ true) ws
          (λ m j. has-all (λ y. is_write_in_form y.write ≡ true) (writes_of r e.attempt) m (given.forms e.attempt).each (own l e first ws inc i is m j))
      by q is = tt

  plain-keeps : (v : World) → Event r w v → AllKeepInForm v
  plain-keeps v (ByClient g) = none-changes w v (ap (λ u. u.targets) g.after) k
  plain-keeps v (ToClient g) = none-changes w v (ap (λ u. u.targets) g.after) k
  plain-keeps v (ToTarget g) =
      one-changes w v g.t g.s (target_after g.s g.new g.memory) g.here (ap (λ u. u.targets) g.after)
      (hears-in_form (target_plan r g.t) g.s.opening g.s.memory g.reading g.l.from (kept g.s) (k g.t g.s g.here) g.new (g.memory, g.did) g.l.message
      (asks-form g.t g.s g.l (has-taken w.messages g.l g.rest g.takes) g.to_it g.here g.runs) g.turn) k
  plain-keeps v (ByTarget g) =
      one-changes w v g.t g.s (target_after g.s g.new g.memory) g.here (ap (λ u. u.targets) g.after)
      (idles-in_form g.settling (target_plan r g.t) g.s.memory (kept g.s) g.new (g.memory, g.did) (k g.t g.s g.here) g.turn) k

  more-keeps : (number : ℕ) (v : World) → TargetHearsBy (HearsFurther number) r w v → AllKeepInForm v
  more-keeps number v g =
      one-changes w v g.t g.s (target_after g.s g.new g.memory) g.here (ap (λ u. u.targets) g.after)
      (further-in_form (target_plan r g.t) g.s.opening g.s.memory g.reading g.l.from (kept g.s) (k g.t g.s g.here) number g.new (g.memory, g.did) g.l.message
      (asks-form g.t g.s g.l (has-taken w.messages g.l g.rest g.takes) g.to_it g.here g.runs) g.turn) k

  cut-keeps : (v : World) (g : TargetCut r w v) → VersionsInForm g.cut.left.durable
  cut-keeps v g = by g.work g.in_hand g.turn
    where
      by : (a : AtWork) → IsInHand w g.t a → CutOf (target_plan r g.t) g.s a g.cut → VersionsInForm g.cut.left.durable
      by (Hearing l reading number) hand turn =
          hearing-cut (target_plan r g.t) g.s.opening g.s.memory reading l.from (kept g.s) (k g.t g.s g.here) number g.cut l.message
          (asks-form g.t g.s l (has-taken w.messages l hand.0.0 hand.0.1) hand.1 g.here g.runs) turn
      by IdleWork hand turn = idle-cut g.t g.s.memory (kept g.s) g.cut (k g.t g.s g.here) turn

  happening-keeps : (v : World) → Happening r w v → AllKeepInForm v
  happening-keeps v (Plainly e up) = plain-keeps v e
  happening-keeps v (Further f) = more-keeps f.number v f.hears
  happening-keeps v (IsCut g) = one-changes w v g.t g.s (stopped_at g.s g.cut.left) g.here (ap (λ u. u.targets) g.after) (cut-keeps v g) k
  happening-keeps v (Opens g) = one-changes w v g.t g.s (opened_at r g.t g.number g.s g.free) g.here (ap (λ u. u.targets) g.after) (reopens-in_form g.s.durable (k g.t g.s g.here)) k
  happening-keeps v (Fails g) = one-changes w v g.t g.s (record g.s { durable = g.k.durable; free = g.k.free }) g.here (ap (λ u. u.targets) g.after) (by g.left) k
    where
      by : (g.k.durable ≡ g.s.durable) ⊎ (g.k.durable ≡ reopened g.s.durable) → VersionsInForm g.k.durable
      by (inl same) = subst VersionsInForm (sym same) (k g.t g.s g.here)
      by (inr same) = subst VersionsInForm (sym same) (reopens-in_form g.s.durable (k g.t g.s g.here))
  happening-keeps v (GivenUp g) = one-changes w v g.t g.s (record g.s { life = Down }) g.here (ap (λ u. u.targets) g.after) (k g.t g.s g.here) k
  happening-keeps v (Draws g) = none-changes w v (ap (λ u. u.targets) g.after) k

pub all-events-keep_form : AllEventsKeepForm
all-events-keep_form r o held w v given own e k = none-changes e.u v (ap (λ u. u.targets) e.after) (happening-keeps r o held w given own k e.u e.happens)

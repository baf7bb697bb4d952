-- Whatever happens in any run keeps that each other member of an attempt for which a client waits is asked, or about to answer, unless it is
-- counted: what is heard of snapshots and aggregation tells of none, and leaves rows as they are.
use Rattle.std.specs.Prelude.{ℕ, ◌≡◌, ◌≤◌, ◌+◌, ◌==◌, ◌&&◌, not, Bool, true, false, filter, slice_get, Option, Some, None, refl}
use Rattle.std.proofs.Common.{sym, ◌∙◌, ap, subst, arith, inl, inr}
use Rattle.std.proofs.Math.ListN.{set}
use Rattle.base_types.specs.declared.id.AttemptId.{AttemptId}
use Rattle.base_types.specs.declared.report.Line.TheVariants as line
use Rattle.base_messages.specs.declared.actor.ActorId.{ActorId}
use Rattle.daos_model.specs.BoolLaws.{clash, false_of}
use Rattle.dtx_base.specs.declared.leading.Undecided.{Undecided}
use Rattle.dtx_base.specs.Leading.{undecided_attempt}
use Rattle.dtx_base.specs.Members.{has_target}
use Rattle.dtx_base.specs.Rows.{row_of}
use Rattle.model_laws.specs.Members.{Has, has-filter, has-left}
use Rattle.model_laws.specs.TargetLaws.{number_same}
use Rattle.world_commit.specs.asks.Moving.{heard-moves}
use Rattle.world_commit.specs.attempts.Attempts.{IsOther, inc_at, inc_in, leader_of, one_if, row_at, row_in}
use Rattle.world_commit.specs.attempts.Counting.{count-some}
use Rattle.world_commit.specs.attempts.History.{History}
use Rattle.world_commit.specs.attempts.Turning.{one-or_another}
use Rattle.world_base.specs.declared.letter.Letter.{Letter}
use Rattle.world_base.specs.declared.target.TargetState.{TargetState}
use Rattle.world_base.specs.declared.world.World.{World}
use Rattle.world_base.specs.ChangeLaws.{incarnation-made}
use Rattle.world_base.specs.Changes.{Change, Kept, Steps}
use Rattle.world_base.specs.Events.{Rules, TargetHearsBy, kept, target_after, target_plan}
use Rattle.world_base.specs.Further.{HearsFurther}
use Rattle.world_base.specs.Letters.{target}
use Rattle.world_base.specs.PathLaws.{reached-keeps}
use Rattle.world_base.specs.Stops.{Draws, Fails, Further, GivenUp, Happening, HearsMore, IsCut, Opens, Plainly, TargetCut, WorldEvent, is_not_to, stopped_at}
use Rattle.world_commit.specs.fates.Concerns.{no-talk}
use Rattle.world_commit.specs.fates.Facts.{IsOneUnless, down_in, is_talk, knows_down, talking}
use Rattle.world_upheld.specs.below.Legal.{Answers, AreAsking, Asks, TalkWay, WaitersAreAsked, events-ask, row-runs, some-counted, sweeping-asked, target-is, told-down, way-of}
use Rattle.world_answers.specs.world_making.fates.Sends.{making-unconcerned}
use Rattle.world_answers.specs.world_making.making.Kinds.{of-attempts}
use Rattle.world_answers.specs.world_making.making.Making.{IsOfMaking, MakingLeaves, MakingNext, making_begins, tells_of_snapshots}
use Rattle.world_answers.specs.world_making.making.Turns.{hearings-leave}
use Rattle.world_commit.specs.statuses.Events.{HappensWithoutSnapshots}
use Rattle.world_commit.specs.stops.Parts.{now-here, now-there, now-same}

-- each event keeps it, of what is before what happens, and after it but before what goes to targets that are given up is lost
abbrev pub AllEventsAsk : Type 0
AllEventsAsk = (r : Rules) (h later : History) (w v : World) (e : WorldEvent r w v) → AreAsking r h later w e.u → WaitersAreAsked r v

-- ---- one row

-- what goes to another target isn't lost where this one stops
pub not-to : (t n : ℕ) (a : ActorId) → (n ≡ t → ⊥) → a ≡ target n → not (not a.client && (a.number == t)) ≡ true
not-to t n a apart is = ap (λ b. not (not b.client && (b.number == t))) is ∙ ap not (false_of (n == t) (λ on. apart (number_same n t on)))

-- where a letter that is counted stays, and the leader's incarnation, one is counted then
goes-on : (r : Rules) (w u : World) (x : AttemptId) (m : ℕ) → inc_at u (leader_of r x) ≡ inc_at w (leader_of r x)
    → ((l : Letter) → Has l w.messages → is_talk r (inc_at w (leader_of r x)) x m l ≡ true → Has l u.messages)
    → 1 ≤ talking r (inc_at w (leader_of r x)) w x m → 1 ≤ talking r (inc_at u (leader_of r x)) u x m
goes-on r w u x m inc stays some =
    let l = some-counted (is_talk r (inc_at w (leader_of r x)) x m) w.messages some in
    subst (λ n. 1 ≤ talking r n u x m) (sym inc) (count-some (is_talk r (inc_at w (leader_of r x)) x m) u.messages l.0 (stays l.0 l.1 l.2) l.2)

-- ---- a turn of a snapshot or of an aggregation

incarnation-steps : (o : Option Change) (k l : Kept) → Steps o k l → l.durable.incarnation ≡ k.durable.incarnation
incarnation-steps None k l same = ap (λ z. z.durable.incarnation) same
incarnation-steps (Some c) k l steps = ap (λ d. d.incarnation) steps.0 ∙ incarnation-made c k.durable

module _ (r : Rules) (w u : World) (f : HearsMore r w u) (is : IsOfMaking f.hears.l.message) where
  abbrev g : TargetHearsBy (HearsFurther f.number) r w u
  g = f.hears

  left : MakingLeaves f.number (target_plan r g.t) g.s.memory g.reading g.l.from g.l.message (kept g.s) g.new (g.memory, g.did)
  left = hearings-leave f.number (target_plan r g.t) g.s.opening g.s.memory g.reading g.l.from g.l.message (kept g.s) g.new (g.memory, g.did) g.turn is

  incarnation : g.new.durable.incarnation ≡ g.s.durable.incarnation
  incarnation =
      reached-keeps (MakingNext f.number (target_plan r g.t) g.s.memory g.reading g.l.from g.l.message) (λ s k. k.durable.incarnation ≡ g.s.durable.incarnation)
      (λ s k o b l next steps so. incarnation-steps o k l steps ∙ so) (making_begins g.s.memory) (kept g.s) left.last g.new left.reached refl

  abbrev z : TargetState
  z = target_after g.s g.new g.memory

  targets : u.targets ≡ set w.targets g.t z
  targets = ap (λ y. y.targets) g.after

  -- leaders' rows and incarnations are as they were
  making-rows : (t : ℕ) (x : AttemptId) → row_at u t x ≡ row_at w t x
  making-rows t x = now-same w u g.t g.s z g.here targets (λ o. row_in o x) (ap (row_of undecided_attempt x) left.ends.knows.undecided) t

  making-incarnations : (t : ℕ) → inc_at u t ≡ inc_at w t
  making-incarnations t = now-same w u g.t g.s z g.here targets inc_in incarnation t

  -- and what is heard asks for no attempt, and doesn't answer for one
  making-stays : (x : AttemptId) (inc m : ℕ) (l : Letter) → Has l w.messages → is_talk r inc x m l ≡ true → Has l u.messages
  making-stays x inc m l i talks = elim ((heard-moves r w u g).stays l i) [
    | inl same ↦ (let one : g.l ≡ l = cc in clash (is_talk r inc x m l) talks (ap (is_talk r inc x m) (sym one) ∙ no-talk r x g.l (making-unconcerned g.l.message is x) inc m))
    | inr j ↦ j
  ]

  pub making-asks : WaitersAreAsked r w → WaitersAreAsked r u
  making-asks k x m v c other row client off =
      goes-on r w u x m (making-incarnations (leader_of r x)) (making-stays x (inc_at w (leader_of r x)) m)
      (k x m v c other (sym (making-rows (leader_of r x) x) ∙ row) client off)

-- ---- a turn that is cut, whatever it is

module _ (r : Rules) (h later : History) (w u : World) (k : AreAsking r h later w u) (g : TargetCut r w u) where
  abbrev stopped : TargetState
  stopped = stopped_at g.s g.cut.left

  cut-targets : u.targets ≡ set w.targets g.t stopped
  cut-targets = ap (λ y. y.targets) g.after

  -- what goes to others stays
  cut-stays : (l : Letter) (n : ℕ) → (n ≡ g.t → ⊥) → Has l w.messages → l.to ≡ target n → Has l u.messages
  cut-stays l n apart i to = subst (λ y. Has l y.messages) (sym g.after) (has-left (filter (is_not_to g.t) w.messages) _ l (has-filter (is_not_to g.t) w.messages l i (not-to g.t n l.to apart to)))

  module _ (x : AttemptId) (m : ℕ) (v : Undecided) (c : ActorId) (other : IsOther r x m) (row : row_at u (leader_of r x) x ≡ Some v) (client : v.client ≡ Some c) (off : has_target v.counted m ≡ false) where
    -- its leader is another
    leads-apart : leader_of r x ≡ g.t → ⊥
    leads-apart same =
        row-runs r later u k.attempts_then (leader_of r x) stopped x v (ap (slice_get u.targets) same ∙ now-here w u g.t g.s stopped g.here cut-targets (λ o. o)) row
        (λ runs. let no : ⊥ = cc in no)

    row-before : row_at w (leader_of r x) x ≡ Some v
    row-before = sym (now-there w u g.t g.s stopped g.here cut-targets (λ o. row_in o x) (leader_of r x) leads-apart) ∙ row

    inc-before : inc_at u (leader_of r x) ≡ inc_at w (leader_of r x)
    inc-before = now-there w u g.t g.s stopped g.here cut-targets inc_in (leader_of r x) leads-apart

    -- a target that runs isn't known to be down
    not-known : m ≡ g.t → knows_down u (leader_of r x) m ≡ true → ⊥
    not-known same known = by (slice_get w.targets (leader_of r x)) refl (sym (now-there w u g.t g.s stopped g.here cut-targets (λ o. down_in o m) (leader_of r x) leads-apart) ∙ known)
      where
        by : (o : Option TargetState) → slice_get w.targets (leader_of r x) ≡ o → down_in o m ≡ true → ⊥
        by None none on = let no : ⊥ = cc in absurd no
        by (Some y) here on =
            let told : Has (line.Down g.t) w.lines = subst (λ n. Has (line.Down n) w.lines) same (k.downs (leader_of r x) m y here on) in
            let down = told-down w k.lives g.t g.s g.here told in
            let runs = g.runs in
            let no : ⊥ = cc (down, runs) in no

    cut-row : 1 ≤ talking r (inc_at u (leader_of r x)) u x m
    cut-row = elim (one-or_another m g.t) [
      | inl same ↦ once same ((k.attempts_then.on.each x).awaited.once m v other row)
      | inr apart ↦ goes-on r w u x m inc-before (λ l i talks. on apart l i (way-of r (inc_at w (leader_of r x)) x m l talks)) (k.asked x m v c other row-before client off)
    ]
      where
        once : m ≡ g.t → IsOneUnless (knows_down u (leader_of r x) m) (talking r (inc_at u (leader_of r x)) u x m + one_if (has_target v.counted m)) → 1 ≤ talking r (inc_at u (leader_of r x)) u x m
        once same (inl one) = let none : one_if (has_target v.counted m) ≡ 0 = ap one_if off in omega (arith, one, none)
        once same (inr down) = absurd (not-known same down.1)

        on : (m ≡ g.t → ⊥) → (l : Letter) → Has l w.messages → TalkWay r (inc_at w (leader_of r x)) x m l → Has l u.messages
        on apart l i (Asks to asks) = cut-stays l m apart i (target-is m l.to to)
        on apart l i (Answers to from answers) = cut-stays l (leader_of r x) leads-apart i (target-is (leader_of r x) l.to to)

  pub cuts-ask : WaitersAreAsked r u
  cuts-ask x m v c other row client off = cut-row x m v c other row client off

-- ---- every event

module _ (r : Rules) (h later : History) (w v : World) (e : WorldEvent r w v) (k : AreAsking r h later w e.u) where
  -- as where no snapshot is made
  plain : (y : Happening r w e.u) → e.happens ≡ y → HappensWithoutSnapshots y → WaitersAreAsked r v
  plain y is ours = events-ask r h later w v e (subst HappensWithoutSnapshots (sym is) ours) k

  swept-then : WaitersAreAsked r e.u → WaitersAreAsked r v
  swept-then asked = subst (WaitersAreAsked r) (sym e.after) (sweeping-asked r later e.u k.attempts_then asked)

  heard : (f : HearsMore r w e.u) → e.happens ≡ Further f → (b : Bool) → tells_of_snapshots f.hears.l.message ≡ b → WaitersAreAsked r v
  heard f is true making = swept-then (making-asks r w e.u f making k.asked)
  heard f is false off = plain (Further f) is (of-attempts f.hears.l.message off)

  by-kind : (y : Happening r w e.u) → e.happens ≡ y → WaitersAreAsked r v
  by-kind (Further f) is = heard f is (tells_of_snapshots f.hears.l.message) refl
  by-kind (IsCut g) is = swept-then (cuts-ask r h later w e.u k g)
  by-kind (Plainly p up) is = plain (Plainly p up) is tt
  by-kind (Opens g) is = plain (Opens g) is tt
  by-kind (Fails g) is = plain (Fails g) is tt
  by-kind (GivenUp g) is = plain (GivenUp g) is tt
  by-kind (Draws g) is = plain (Draws g) is tt

pub all-events-ask : AllEventsAsk
all-events-ask r h later w v e k = by-kind r h later w v e k e.happens refl

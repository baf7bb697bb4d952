-- Where epochs of snapshots count as those of the attempts that read there, a target that hears a Verdict keeps that outcomes show their causes, and
-- so does one that hears that its question about what is in a Fetch's way got no answer.
use Rattle.std.specs.Prelude.{Bool, ℕ, ◌≡◌, ◌≤◌, ◌+◌, ◌++◌, [], filter, Option, Some, refl}
use Rattle.std.proofs.Common.{append-nil, sym, ap, subst, arith}
use Rattle.base_types.specs.declared.entry.Verdict.{Verdict}
use Rattle.base_types.specs.declared.entry.Verdict.TheVariants as verdicts
use Rattle.base_types.specs.declared.id.AttemptId.{AttemptId}
use Rattle.base_messages.specs.declared.message.Message.{Message, more_of-Message}
use Rattle.base_messages.specs.declared.message.Message.TheVariants as message
use Rattle.model_laws.specs.Members.{Has, has-from_filter}
use Rattle.daos_model.specs.Opening.{Opening, top}
use Rattle.dtx_base.specs.declared.member.Parked.{Parked}
use Rattle.dtx_base.specs.Joining.{is_not_waiting, is_waiting, unresolved}
use Rattle.world_base.specs.declared.did.Did.{Did}
use Rattle.world_base.specs.declared.target.TargetMemory.{TargetMemory}
use Rattle.world_base.specs.declared.world.World.{World}
use Rattle.world_base.specs.ChangeLaws.{lease-same}
use Rattle.world_base.specs.Changes.{Kept}
use Rattle.world_base.specs.Events as events
use Rattle.world_base.specs.Events.{Rules, TargetHearsBy, TargetHearsRightly, kept, target_plan}
use Rattle.world_base.specs.Further.{HearsFurther, reset_by}
use Rattle.world_base.specs.RightTurns.{HearsRightly}
use Rattle.world_base.specs.MemoryLaws.{hears-follows}
use Rattle.world_base.specs.Roles.{is_in_doubt}
use Rattle.world_base.specs.Statuses.{EndsAs, Looking, NoChange, reset_left}
use Rattle.world_base.specs.Stops.{HearsMore}
use Rattle.world_base.specs.TurnLaws.{KeepsAs, rightly-keeps}
use Rattle.world_base.specs.Turns.{Whole}
use Rattle.world_base.specs.Verdicts as turn
use Rattle.world_legal.specs.world_causes.causes.AtFloors.{IsTarget}
use Rattle.world_legal.specs.world_causes.causes.Causes.{Dated, Stored, stored_by}
use Rattle.world_legal.specs.world_causes.causes.Paths.{AreOpen}
use Rattle.world_legal.specs.world_causes.causes.CommitTurns.{space-same}
use Rattle.world_legal.specs.world_causes.causes.Heard.{meet-at}
use Rattle.world_legal.specs.world_causes.causes.Leases.{VerdictBelow, verdict-to, was-leased, whole-to}
use Rattle.world_legal.specs.world_causes.causes.ReadTurns.{meet-more}
use Rattle.world_legal.specs.world_causes.causes.Shown.{Causes, limit_over}
use Rattle.world_legal.specs.world_causes.causes.TargetLaws.{leaves-keep}
use Rattle.world_legal.specs.world_causes.causes.Turns.{AllMeet, AllShow, Leaves, all-more}
use Rattle.world_upheld.specs.causing.Dates.{with_dates}
use Rattle.world_upheld.specs.causing.DatedEvents.{further-dated, hears-dated}
use Rattle.world_upheld.specs.causing.DatedVerdicts.{IsVerdictRight, all-unresolved_show, freed-below, verdict-leaves}
use Rattle.world_legal.specs.world_causes.showing.Further.{TellsReset}
use Rattle.world_letters.specs.talks.TalkLaws.{left-is-among}
use Rattle.world_legal.specs.world_commit.statuses.Turns.{looked}

-- a target hears a Verdict
abbrev pub VerdictsKeepCauses : Type 0
VerdictsKeepCauses =
    (r : Rules) (o : Opening) (stored : Stored) (dated : Dated) (w v : World) (g : TargetHearsRightly r w v) (x : AttemptId) (ask : Option AttemptId) (inc : ℕ) (k : Verdict) → g.l.message ≡ message.Verdict x ask inc k
    → IsTarget r o dated w.lines g.t g.s.opening (kept g.s) → AreOpen r.script (target_plan r g.t) w.lines (top o) g.s.durable g.s.memory.leader.decided → IsVerdictRight r o dated w.lines (target_plan r g.t) g.s.memory (kept g.s) x ask k
    → Causes r o stored (with_dates dated w) → Causes r o (stored_by g.t g.s.durable g.new.durable ++ stored) (with_dates (dated ++ events.listed g.did.issued) v)

-- or that its question got no answer, for whom it asked
abbrev pub LostQueriesKeepCauses : Type 0
LostQueriesKeepCauses =
    (r : Rules) (o : Opening) (stored : Stored) (dated : Dated) (w v : World) (f : HearsMore r w v) (by : ℕ) (down : Bool) (a x : AttemptId) → TellsReset by down (message.Query a (Some x)) f.hears.l.message
    → IsTarget r o dated w.lines f.hears.t f.hears.s.opening (kept f.hears.s) → AreOpen r.script (target_plan r f.hears.t) w.lines (top o) f.hears.s.durable f.hears.s.memory.leader.decided
    → IsVerdictRight r o dated w.lines (target_plan r f.hears.t) f.hears.s.memory (kept f.hears.s) a (Some x) verdicts.Undecided
    → Causes r o stored (with_dates dated w) → Causes r o (stored_by f.hears.t f.hears.s.durable f.hears.new.durable ++ stored) (with_dates (dated ++ events.listed f.hears.did.issued) v)

-- ---- a Verdict

module _ (r : Rules) (o : Opening) (stored : Stored) (dated : Dated) (w v : World) (g : TargetHearsRightly r w v) (x : AttemptId) (ask : Option AttemptId) (inc : ℕ) (k : Verdict) (is : g.l.message ≡ message.Verdict x ask inc k)
    (T : IsTarget r o dated w.lines g.t g.s.opening (kept g.s)) (opens : AreOpen r.script (target_plan r g.t) w.lines (top o) g.s.durable g.s.memory.leader.decided) (V : IsVerdictRight r o dated w.lines (target_plan r g.t) g.s.memory (kept g.s) x ask k)
    (C : Causes r o stored (with_dates dated w)) where
  abbrev u : World
  u = with_dates dated w

  abbrev edge : ℕ
  edge = limit_over o w.lines dated + 1

  ticks : g.s.memory.ticks ≤ limit_over o w.lines dated
  ticks = C.bounded.ticks g.t g.s g.here g.runs

  meet : AllMeet r dated g.s.memory.member.parked
  meet = meet-at r o stored u g.t g.s C g.here

  whole : Whole (turn.VerdictNext (is_in_doubt g.t) (target_plan r g.t) g.s.memory g.reading x ask k) turn.VerdictEnds turn.Heard (kept g.s) g.new (g.memory, g.did)
  whole = subst (λ m. HearsRightly (target_plan r g.t) g.s.opening g.s.memory g.reading g.l.from m (kept g.s) g.new (g.memory, g.did)) is g.turn

  more : (n : ℕ) → n ≤ n + 1
  more n = omega arith

  leased : g.new.durable.lease ≤ edge + 65535
  leased = whole-to _ _ _ (kept g.s) g.new (g.memory, g.did) (edge + 65535) (VerdictBelow edge (is_in_doubt g.t) (target_plan r g.t) g.s.memory g.reading x ask k)
      (freed-below r o stored dated w.lines (target_plan r g.t) g.s.opening g.s.memory g.reading x ask k (kept g.s) T V ticks meet opens edge (more (limit_over o w.lines dated)))
      (verdict-to edge (is_in_doubt g.t) (target_plan r g.t) g.s.memory g.reading x ask k) (was-leased o u (kept g.s) (C.bounded.leases g.t g.s g.here)) whole

  heard-keeps : Causes r o (stored_by g.t g.s.durable g.new.durable ++ stored) (with_dates (dated ++ events.listed g.did.issued) v)
  unfolding hears-dated
  heard-keeps =
      subst (Causes r o (stored_by g.t g.s.durable g.new.durable ++ stored)) (sym (hears-dated r dated w v g).after)
      (leaves-keep r o stored u g.t g.s g.new g.memory g.did g.rest C g.here (λ l i. left-is-among w.messages g.l g.rest l g.takes i)
      (hears-follows (target_plan r g.t) g.s.opening g.s.memory g.reading g.l.from g.l.message (kept g.s) g.new (g.memory, g.did) g.turn).lines
      (rightly-keeps (target_plan r g.t) g.s.opening g.s.memory g.reading g.l.from g.l.message (kept g.s) g.new (g.memory, g.did) g.turn)
      leased
      (verdict-leaves r o stored dated w.lines (target_plan r g.t) g.s.opening g.s.memory g.reading x ask k (kept g.s) T V ticks meet opens g.t g.new (g.memory, g.did) whole))

pub verdicts-keep : VerdictsKeepCauses
verdicts-keep r o stored dated w v g x ask inc k is T opens V C = heard-keeps r o stored dated w v g x ask inc k is T opens V C

-- ---- a question that got no answer

-- a turn that changes nothing leaves what it left by what is kept
pub looks-so : (f : Kept → TargetMemory × Did) (old new : Kept) (left : TargetMemory × Did) → Whole NoChange (EndsAs f) Looking old new left → (new ≡ old) × (left ≡ f old)
looks-so f old new left w = let k = looked f old new left w in (k.same, k.follows)

module _ (r : Rules) (o : Opening) (stored : Stored) (dated : Dated) (w v : World) (f : HearsMore r w v) (by : ℕ) (down : Bool) (a x : AttemptId) (T : IsTarget r o dated w.lines f.hears.t f.hears.s.opening (kept f.hears.s))
    (opens : AreOpen r.script (target_plan r f.hears.t) w.lines (top o) f.hears.s.durable f.hears.s.memory.leader.decided) (V : IsVerdictRight r o dated w.lines (target_plan r f.hears.t) f.hears.s.memory (kept f.hears.s) a (Some x) verdicts.Undecided)
    (C : Causes r o stored (with_dates dated w)) where
  abbrev g : TargetHearsBy (HearsFurther f.number) r w v
  g = f.hears

  abbrev told : TargetMemory × Did
  told = reset_left (target_plan r g.t) g.s.memory by down (message.Query a (Some x)) (kept g.s)

  its-ticks : g.s.memory.ticks ≤ limit_over o w.lines dated
  its-ticks = C.bounded.ticks g.t g.s g.here g.runs

  all-meet : AllMeet r dated g.s.memory.member.parked
  all-meet = meet-at r o stored (with_dates dated w) g.t g.s C g.here

  shows : AllShow r o stored dated w.lines told.1.posts
  unfolding unresolved
  shows = all-unresolved_show r o stored dated w.lines (target_plan r g.t) g.s.opening g.s.memory g.reading a (Some x) verdicts.Undecided (kept g.s) T V its-ticks all-meet opens x (filter (is_waiting a x) g.s.memory.member.parked)
      (λ p i. has-from_filter (is_waiting a x) g.s.memory.member.parked p i) refl refl

  parked : (p : Parked) → Has p told.0.member.parked → Has p g.s.memory.member.parked
  unfolding unresolved
  parked p i = (has-from_filter (is_not_waiting a x) g.s.memory.member.parked p i).0

  low : (n : ℕ) → n ≤ n
  low n = omega arith

  told-leaves : Leaves r o stored dated w.lines g.t (kept g.s) (kept g.s) told
  told-leaves = record {
    posts = all-more r o (stored_by g.t g.s.durable g.s.durable) stored dated [] w.lines told.1.posts shows;
    ticks = subst (λ is. told.0.ticks ≤ limit_over o w.lines is) (sym (append-nil dated)) its-ticks;
    dated = λ y e some. let no : ⊥ = cc in absurd no;
    space = space-same r.script g.t stored (kept g.s) (kept g.s) (low g.s.free);
    parked = λ p i. meet-more r dated [] g.s.memory.member.parked all-meet p (parked p i);
  }

  -- as it is left
  so-left : (new : Kept) (left : TargetMemory × Did) → (new ≡ kept g.s) × (left ≡ told)
      → (left.1.lines ≡ []) × KeepsAs g.s.durable new.durable × (new.durable.lease ≤ limit_over o w.lines dated + 1 + 65535) × Leaves r o stored dated w.lines g.t (kept g.s) new left
  so-left new left same = (
    ap (λ y. y.1.lines) same.1,
    record { conts = ap (λ y. y.durable.conts) same.0; snaps = ap (λ y. y.durable.snaps) same.0; incarnation = ap (λ y. y.durable.incarnation) same.0; lease = lease-same g.s.durable new.durable (ap (λ y. y.durable.lease) same.0) },
    subst (λ y. y.durable.lease ≤ limit_over o w.lines dated + 1 + 65535) (sym same.0) (was-leased o (with_dates dated w) (kept g.s) (C.bounded.leases g.t g.s g.here)),
    subst (λ y. Leaves r o stored dated w.lines g.t (kept g.s) y left) (sym same.0) (subst (Leaves r o stored dated w.lines g.t (kept g.s) (kept g.s)) (sym same.1) told-leaves),
  )

  tells-turn : (m : Message) → TellsReset by down (message.Query a (Some x)) m → HearsFurther f.number (target_plan r g.t) g.s.opening g.s.memory g.reading g.l.from m (kept g.s) g.new (g.memory, g.did) → (g.new ≡ kept g.s) × ((g.memory, g.did) ≡ told)
  tells-turn (message.Reset' t2 d place (more_of-Message q more)) is turn = looks-so (reset_left (target_plan r g.t) g.s.memory by down (message.Query a (Some x))) (kept g.s) g.new (g.memory, g.did)
      (subst (λ z. Whole NoChange (EndsAs (reset_by (target_plan r g.t) g.s.memory z down (message.Query a (Some x)))) Looking (kept g.s) g.new (g.memory, g.did)) is.0
      (subst (λ z. Whole NoChange (EndsAs (reset_by (target_plan r g.t) g.s.memory t2 z (message.Query a (Some x)))) Looking (kept g.s) g.new (g.memory, g.did)) is.1
      (subst (λ z. Whole NoChange (EndsAs (reset_by (target_plan r g.t) g.s.memory t2 d z)) Looking (kept g.s) g.new (g.memory, g.did)) is.2 turn)))
  tells-turn m is turn = absurd is

  lost-keeps : TellsReset by down (message.Query a (Some x)) g.l.message → Causes r o (stored_by g.t g.s.durable g.new.durable ++ stored) (with_dates (dated ++ events.listed g.did.issued) v)
  unfolding further-dated
  lost-keeps is =
      let k = so-left g.new (g.memory, g.did) (tells-turn g.l.message is g.turn) in
      subst (Causes r o (stored_by g.t g.s.durable g.new.durable ++ stored)) (sym (further-dated r dated w v f).hears.after)
      (leaves-keep r o stored (with_dates dated w) g.t g.s g.new g.memory g.did g.rest C g.here (λ l i. left-is-among w.messages g.l g.rest l g.takes i) k.0 k.1 k.2 k.3)

pub lost-queries_keep : LostQueriesKeepCauses
lost-queries_keep r o stored dated w v f by down a x tells T opens V C = lost-keeps r o stored dated w v f by down a x T opens V C tells

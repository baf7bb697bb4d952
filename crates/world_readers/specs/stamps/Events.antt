-- Every event of a run keeps it so that timestamps are of the script's attempts, whatever targets kept at the opening.
use Rattle.std.specs.Prelude.{ℕ, ◌≡◌, ◌⊎◌, ◌++◌, Any, false, List, [], Contains, slice_get, Some}
use Rattle.std.proofs.Common.{sym, ◌∙◌, ap, subst, inl, inr}
use Rattle.std.proofs.Math.ListN.{set}
use Rattle.std.proofs.lemmas.List.Elements.{Contains-append_left}
use Rattle.base_types.specs.declared.epoch.Epoch.{Epoch}
use Rattle.base_types.specs.declared.id.AttemptId.{AttemptId}
use Rattle.base_types.specs.declared.shown.Shown.{Shown}
use Rattle.daos_model.specs.CausesShown.{AsksAt}
use Rattle.daos_model.specs.declared.durable.Version.{Version}
use Rattle.daos_model.specs.Opening.{Opening}
use Rattle.daos_model.specs.Transactions.{attempt_ops}
use Rattle.model_laws.specs.Members.{has-from_contains}
use Rattle.world_base.specs.declared.target.Life.TheVariants.{Down, Running}
use Rattle.world_base.specs.declared.target.TargetState.{TargetState}
use Rattle.world_base.specs.declared.world.World.{World}
use Rattle.world_base.specs.Events.{ByClient, ByTarget, Event, Rules, TargetHearsBy, ToClient, ToTarget, kept, listed, target_after, target_plan}
use Rattle.world_base.specs.Further.{HearsFurther}
use Rattle.world_base.specs.MemoryLaws.{idle-leaves}
use Rattle.world_base.specs.Stops.{Draws, Fails, Further, GivenUp, Happening, IsCut, Opens, Plainly, WorldEvent, opened_at, stopped_at}
use Rattle.world_making.specs.world_contents.reads.EventLaws.{at-or-there}
use Rattle.world_making.specs.world_contents.reads.Given.{Given}
use Rattle.world_ended.specs.world_letters.clients.Snapshots.{is_at_snapshot}
use Rattle.world_ended.specs.world_letters.talks.TalkLaws.{taken-is-among}
use Rattle.world_readers.specs.stamps.Stamps.{AddsOwn, IsOwnStamp, StampsAreOwn, StampsAreUnnamed, own-same}
use Rattle.world_readers.specs.stamps.Turns.{further-stamps, hears-own}

-- ---- the statements

-- no running target has a timestamp
abbrev pub NoStamps : World → Type 0
NoStamps w = (t : ℕ) (s : TargetState) → slice_get w.targets t ≡ Some s → s.life ≡ Running → s.memory.stamps ≡ []

abbrev pub OwnStampsBegin : Type 0
OwnStampsBegin = (r : Rules) (w : World) → NoStamps w → StampsAreOwn r w × StampsAreUnnamed r w

abbrev pub AllEventsKeepOwnStamps : Type 0
AllEventsKeepOwnStamps = (r : Rules) (o : Opening) (held : ℕ → List Version) (w v : World) → Given r o held w → WorldEvent r w v → StampsAreOwn r w → StampsAreOwn r v

abbrev pub AllEventsKeepUnnamedStamps : Type 0
AllEventsKeepUnnamedStamps = (r : Rules) (o : Opening) (held : ℕ → List Version) (w v : World) → Given r o held w → WorldEvent r w v → StampsAreUnnamed r w → StampsAreUnnamed r v

-- ---- what an event adds

-- each timestamp of a running target was there before, or is of such an attempt
abbrev AllAddOwn : Rules → World → World → Type 0
AllAddOwn r w v =
    (t : ℕ) (z : TargetState) (y : Shown) → slice_get v.targets t ≡ Some z → z.life ≡ Running → Contains z.memory.stamps y
    → ((s : TargetState) × (slice_get w.targets t ≡ Some s) × (s.life ≡ Running) × Contains s.memory.stamps y) ⊎ IsOwnStamp r v.issued y

-- what an event leaves: what was issued stays so
record LeavesOwn (r : Rules) (w v : World) : Type 0 where
  issued : (i : AttemptId × Epoch) → Contains w.issued i → Contains v.issued i
  stamps : AllAddOwn r w v

same-targets : (r : Rules) (w v : World) → v.targets ≡ w.targets → ((i : AttemptId × Epoch) → Contains w.issued i → Contains v.issued i) → LeavesOwn r w v
same-targets r w v same more = record { issued = more; stamps = λ t z y at runs i. inl (z, subst (λ ts. slice_get ts t ≡ Some z) same at, runs, i) }

-- one target changes, and adds such timestamps where it runs then
one-changes : (r : Rules) (w v : World) (t : ℕ) (s z : TargetState) → slice_get w.targets t ≡ Some s → v.targets ≡ set w.targets t z → ((i : AttemptId × Epoch) → Contains w.issued i → Contains v.issued i)
    → (z.life ≡ Running → (y : Shown) → Contains z.memory.stamps y → ((s.life ≡ Running) × Contains s.memory.stamps y) ⊎ IsOwnStamp r v.issued y) → LeavesOwn r w v
one-changes r w v t s z here targets more adds = record { issued = more; stamps = each }
  where
    each : AllAddOwn r w v
    each u x y at runs i = by (at-or-there w.targets t s z here u x (subst (λ ts. slice_get ts u ≡ Some x) targets at))
      where
        by : ((u ≡ t) × (x ≡ z)) ⊎ ((u ≡ t → ⊥) × (slice_get w.targets u ≡ Some x)) → ((n : TargetState) × (slice_get w.targets u ≡ Some n) × (n.life ≡ Running) × Contains n.memory.stamps y) ⊎ IsOwnStamp r v.issued y
        by (inr old) = inl (x, old.1, runs, i)
        by (inl new) = old-or (adds (sym (ap (λ n. n.life) new.1) ∙ runs) y (subst (λ n. Contains n.memory.stamps y) new.1 i))
          where
            old-or : ((s.life ≡ Running) × Contains s.memory.stamps y) ⊎ IsOwnStamp r v.issued y → ((n : TargetState) × (slice_get w.targets u ≡ Some n) × (n.life ≡ Running) × Contains n.memory.stamps y) ⊎ IsOwnStamp r v.issued y
            old-or (inl k) = inl (s, subst (λ n. slice_get w.targets n ≡ Some s) (sym new.0) here, k.0, k.1)
            old-or (inr k) = inr k

-- a running target's turn
turn-leaves : (r : Rules) (w v : World) (t : ℕ) (s z : TargetState) (issued : List (AttemptId × Epoch)) → slice_get w.targets t ≡ Some s → s.life ≡ Running → v.targets ≡ set w.targets t z → v.issued ≡ w.issued ++ issued
    → AddsOwn r (w.issued ++ issued) s.memory.stamps z.memory.stamps → LeavesOwn r w v
turn-leaves r w v t s z issued here runs targets dates adds =
    one-changes r w v t s z here targets (λ i j. subst (λ is. Contains is i) (sym dates) (Contains-append_left w.issued issued i j)) (λ now y i. by y (adds y i))
  where
    by : (y : Shown) → Contains s.memory.stamps y ⊎ IsOwnStamp r (w.issued ++ issued) y → ((s.life ≡ Running) × Contains s.memory.stamps y) ⊎ IsOwnStamp r v.issued y
    by y (inl j) = inl (runs, j)
    by y (inr k) = inr (subst (λ is. IsOwnStamp r is y) (sym dates) k)

-- ---- every event

module _ (r : Rules) (o : Opening) (held : ℕ → List Version) (w : World) (given : Given r o held w) where
  plain-leaves : (v : World) → Event r w v → LeavesOwn r w v
  plain-leaves v (ByClient g) = same-targets r w v (ap (λ u. u.targets) g.after) (λ i j. subst (λ u. Contains u.issued i) (sym g.after) (Contains-append_left w.issued (listed g.did.issued) i j))
  plain-leaves v (ToClient g) = same-targets r w v (ap (λ u. u.targets) g.after) (λ i j. subst (λ u. Contains u.issued i) (sym g.after) (Contains-append_left w.issued (listed g.did.issued) i j))
  plain-leaves v (ToTarget g) =
      turn-leaves r w v g.t g.s (target_after g.s g.new g.memory) (listed g.did.issued) g.here g.runs (ap (λ u. u.targets) g.after) (ap (λ u. u.issued) g.after)
      (hears-own r o w g.t g.s (λ p i. given.waiting g.t g.s p g.here g.runs i) g.reading g.l.from g.new (g.memory, g.did) g.l.message
      (given.asked g.l g.t g.s (taken-is-among w.messages g.l g.rest g.takes) g.to_it g.here g.runs) g.turn)
  plain-leaves v (ByTarget g) =
      turn-leaves r w v g.t g.s (target_after g.s g.new g.memory) (listed g.did.issued) g.here g.runs (ap (λ u. u.targets) g.after) (ap (λ u. u.issued) g.after)
      (own-same r (w.issued ++ listed g.did.issued) g.s.memory.stamps g.memory.stamps (idle-leaves g.settling (target_plan r g.t) g.s.memory g.turn.last g.new (g.memory, g.did) g.turn.ends).stamps)

  more-leaves : (number : ℕ) (v : World) → TargetHearsBy (HearsFurther number) r w v → LeavesOwn r w v
  more-leaves number v g =
      turn-leaves r w v g.t g.s (target_after g.s g.new g.memory) (listed g.did.issued) g.here g.runs (ap (λ u. u.targets) g.after) (ap (λ u. u.issued) g.after)
      (own-same r (w.issued ++ listed g.did.issued) g.s.memory.stamps g.memory.stamps (further-stamps number (target_plan r g.t) g.s.opening g.s.memory g.reading g.l.from g.l.message (kept g.s) g.new (g.memory, g.did) g.turn))

  happening-leaves : (v : World) → Happening r w v → LeavesOwn r w v
  happening-leaves v (Plainly e up) = plain-leaves v e
  happening-leaves v (Further f) = more-leaves f.number v f.hears
  happening-leaves v (IsCut g) =
      one-changes r w v g.t g.s (stopped_at g.s g.cut.left) g.here (ap (λ u. u.targets) g.after) (λ i j. subst (λ u. Contains u.issued i) (sym g.after) (Contains-append_left w.issued g.cut.issued i j))
      (λ runs. let no : ⊥ = cc (runs) in absurd no)
  happening-leaves v (Opens g) =
      one-changes r w v g.t g.s (opened_at r g.t g.number g.s g.free) g.here (ap (λ u. u.targets) g.after) (λ i j. subst (λ u. Contains u.issued i) (sym g.after) j)
      (λ runs y i. absurd (has-from_contains [] y i))
  happening-leaves v (Fails g) =
      one-changes r w v g.t g.s (record g.s { durable = g.k.durable; free = g.k.free }) g.here (ap (λ u. u.targets) g.after) (λ i j. subst (λ u. Contains u.issued i) (sym g.after) j)
      (λ runs. let no : ⊥ = cc (runs, g.stopped) in absurd no)
  happening-leaves v (GivenUp g) =
      one-changes r w v g.t g.s (record g.s { life = Down }) g.here (ap (λ u. u.targets) g.after) (λ i j. subst (λ u. Contains u.issued i) (sym g.after) j) (λ runs. let no : ⊥ = cc (runs) in absurd no)
  happening-leaves v (Draws g) = same-targets r w v (ap (λ u. u.targets) g.after) (λ i j. subst (λ u. Contains u.issued i) (sym g.after) j)

-- the sweep leaves targets and what was issued
event-leaves : (r : Rules) (o : Opening) (held : ℕ → List Version) (w v : World) → Given r o held w → WorldEvent r w v → LeavesOwn r w v
event-leaves r o held w v given e =
    let k = happening-leaves r o held w given e.u e.happens in
    subst (LeavesOwn r w) (sym e.after) (record { issued = k.issued; stamps = k.stamps })

-- ---- the laws

pub all-events-keep_own : AllEventsKeepOwnStamps
all-events-keep_own r o held w v given e k t s here runs z i = by (l.stamps t s z here runs i)
  where
    l : LeavesOwn r w v
    l = event-leaves r o held w v given e

    by : ((n : TargetState) × (slice_get w.targets t ≡ Some n) × (n.life ≡ Running) × Contains n.memory.stamps z) ⊎ IsOwnStamp r v.issued z → Contains v.issued (z.by, z.epoch) × Any (AsksAt z.path) (attempt_ops r.script z.by)
    by (inl n) = let y = k t n.0 n.1 n.2 z n.3 in (l.issued (z.by, z.epoch) y.0, y.1)
    by (inr y) = (y.dated, y.asks)

pub all-events-keep_unnamed : AllEventsKeepUnnamedStamps
all-events-keep_unnamed r o held w v given e k t s z here runs i = by ((event-leaves r o held w v given e).stamps t s z here runs i)
  where
    by : ((n : TargetState) × (slice_get w.targets t ≡ Some n) × (n.life ≡ Running) × Contains n.memory.stamps z) ⊎ IsOwnStamp r v.issued z → is_at_snapshot r z.by ≡ false
    by (inl n) = k t n.0 z n.1 n.2 n.3
    by (inr y) = y.unnamed

pub own-begins : OwnStampsBegin
own-begins r w none = (
  λ t s here runs z i. absurd (has-from_contains [] z (subst (λ ss. Contains ss z) (none t s here runs) i)),
  λ t s z here runs i. absurd (has-from_contains [] z (subst (λ ss. Contains ss z) (none t s here runs) i)),
)

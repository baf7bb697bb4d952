-- Every attempt of which a target has an entry writes something, also after what is heard of snapshots and aggregation.
use Rattle.std.specs.Prelude.{ℕ, ◌≡◌, ◌≢◌, Bool, true, false, List, [], slice_get, Some, refl, if◌then◌else◌, bit_or, ◌^◌}
use Rattle.std.proofs.Common.{sym, ◌∙◌, ap, subst, inl, inr}
use Rattle.std.proofs.Math.ListN.{set}
use Rattle.base_types.specs.declared.entry.Entry.{Entry}
use Rattle.base_types.specs.declared.entry.Settle.{Settle}
use Rattle.base_types.specs.declared.entry.Settle.TheVariants.{Abort, Commit, Confirm, Forget}
use Rattle.base_types.specs.declared.id.AttemptId.{AttemptId}
use Rattle.model_laws.specs.Members.{Has, has-from_filter, has-from_map}
use Rattle.daos_model.specs.Changes.{committed_at, confirmed_at, created, frozen, is_other, leased, marked, pruned, settled, with_versions}
use Rattle.daos_model.specs.Durables.{same_attempt}
use Rattle.daos_model.specs.Opening.{Opening}
use Rattle.daos_model.specs.declared.durable.Durable.{Durable}
use Rattle.daos_model.specs.declared.durable.Version.{Version}
use Rattle.world_causes.specs.world_commit.attempts.Attempts.{writes_of}
use Rattle.world_causes.specs.world_commit.attempts.History.{History}
use Rattle.world_base.specs.declared.target.TargetState.{TargetState}
use Rattle.world_base.specs.declared.world.World.{World}
use Rattle.world_base.specs.Changes.{Change, Creates, Extends, Freezes, IsPartly, Prepares, Prunes, Settles, made}
use Rattle.world_base.specs.Events.{Rules, kept, target_plan}
use Rattle.world_base.specs.Roles.{is_prepared}
use Rattle.world_base.specs.Stops.{AtWork, CutOf, Draws, Fails, Further, GivenUp, Happening, Hearing, IdleWork, IsCut, Opens, Plainly, WorldEvent}
use Rattle.world_causes.specs.hearing.Going.{EntriesWrite}
use Rattle.world_causes.specs.hearing.Writing.{EntriesKnown, entries-write}
use Rattle.world_causes.specs.world_contents.reads.EventLaws.{at-or-there}
use Rattle.world_causes.specs.world_commit.statuses.Heard.{is_of_attempts}
use Rattle.world_causes.specs.world_commit.stops.CutEvents.{IsWithoutSnapshots, is_without_snapshots}
use Rattle.world_making.specs.prunings.Changing.{StoresNothing, making-cut-left, making-left}
use Rattle.world_base.specs.ChangeLaws.{entries-frozen}

-- every event keeps it
abbrev pub AllEventsKeepEntries : Type 0
AllEventsKeepEntries = (r : Rules) (o : Opening) (held : ℕ → List Version) (h : History) (w v : World) → EntriesKnown r o held h w → WorldEvent r w v → EntriesWrite r v

-- ---- which entries a change leaves

-- each entry then is of an attempt that had one
abbrev pub KeepsAttempts : Durable → Durable → Type 0
KeepsAttempts d e = (k : Entry) → Has k e.entries → (j : Entry) × Has j d.entries × (j.attempt ≡ k.attempt)

keeps-same : (d e : Durable) → e.entries ≡ d.entries → KeepsAttempts d e
keeps-same d e is k i = (k, subst (Has k) is i, refl)

keeps-then : (d e f : Durable) → KeepsAttempts d e → KeepsAttempts e f → KeepsAttempts d f
keeps-then d e f k l x i = let y = l x i in let z = k y.0 y.1 in (z.0, z.1, z.2 ∙ y.2)

keeps-settled : (a : AttemptId) (step : Settle) (d : Durable) → KeepsAttempts d (settled a step d)
unfolding settled
keeps-settled a Commit d k i = let y = has-from_map (committed_at a) d.entries k i in (y.0, y.1, sym (same (same_attempt y.0.attempt a) y.0) ∙ ap (λ e. e.attempt) y.2)
  where
    same : (b : Bool) (e : Entry) → (if b then record e { committed = true } else e).attempt ≡ e.attempt
    same true e = refl
    same false e = refl
keeps-settled a Abort d k i = (k, (has-from_filter (is_other a) d.entries k i).0, refl)
keeps-settled a (Confirm t) d k i = let y = has-from_map (confirmed_at a t) d.entries k i in (y.0, y.1, sym (same (same_attempt y.0.attempt a) y.0) ∙ ap (λ e. e.attempt) y.2)
  where
    same : (b : Bool) (e : Entry) → (if b then record e { confirmed = bit_or e.confirmed (2 ^ t) } else e).attempt ≡ e.attempt
    same true e = refl
    same false e = refl
keeps-settled a Forget d k i = (k, (has-from_filter (is_other a) d.entries k i).0, refl)

keeps-made : (c : Change) (d : Durable) → StoresNothing (Some c) → KeepsAttempts d (made c d)
unfolding leased created pruned with_versions marked
keeps-made (Extends ticks) d none = keeps-same d (leased ticks d) refl
keeps-made (Prepares e ws) d none = absurd none
keeps-made (Settles a step) d none = keeps-settled a step d
keeps-made (Freezes c s) d none = keeps-same d (frozen c s d) (entries-frozen c s d)
keeps-made (Creates c s) d none = keeps-same d (created c s d) refl
keeps-made (Prunes c upto n) d none = keeps-same d (pruned c upto n d) refl

keeps-partly : (c : Change) (d x : Durable) → IsPartly c d x → KeepsAttempts d x
unfolding with_versions marked
keeps-partly (Prunes c upto n) d x p = keeps-same d x (ap (λ y. y.entries) p.2)
keeps-partly (Extends ticks) d x p = absurd p
keeps-partly (Prepares e ws) d x p = absurd p
keeps-partly (Settles a step) d x p = absurd p
keeps-partly (Freezes c s) d x p = absurd p
keeps-partly (Creates c s) d x p = absurd p

-- ---- events

module _ (r : Rules) (w v : World) (k : EntriesWrite r w) where
  one-set : (t : ℕ) (s z : TargetState) → slice_get w.targets t ≡ Some s → v.targets ≡ set w.targets t z → KeepsAttempts s.durable z.durable → EntriesWrite r v
  one-set t s z here same left u y e at i = elim (at-or-there w.targets t s z here u y (subst (λ ts. slice_get ts u ≡ Some y) same at)) [
    | inl is ↦ writes (left e (subst (λ x. Has e x.durable.entries) is.1 i))
    | inr old ↦ k u y e old.1 i
  ]
    where
      writes : (j : Entry) × Has j s.durable.entries × (j.attempt ≡ e.attempt) → writes_of r e.attempt ≢ []
      writes j = subst (λ x. writes_of r x ≢ []) j.2 (k t s j.0 here j.1)

all-entries-write : (r : Rules) (o : Opening) (held : ℕ → List Version) (h : History) (w v : World) → EntriesKnown r o held h w → Happening r w v → EntriesWrite r v
all-entries-write r o held h w v b (Plainly e up) = entries-write r o held h w v b (Plainly e up) tt
all-entries-write r o held h w v b (Further f) = by (is_of_attempts f.hears.l.message) refl
  where
    by : (plain : Bool) → is_of_attempts f.hears.l.message ≡ plain → EntriesWrite r v
    by true plain = entries-write r o held h w v b (Further f) plain
    by false ours =
        let g = f.hears in
        one-set r w v b.writes g.t g.s _ g.here (ap (λ u. u.targets) g.after)
        (making-left KeepsAttempts (λ d. keeps-same d d refl) keeps-then keeps-made keeps-partly f.number (target_plan r g.t) g.s.opening g.s.memory g.reading g.l.from g.l.message (kept g.s) g.new (g.memory, g.did) ours g.turn)
all-entries-write r o held h w v b (IsCut g) = by g.work refl
  where
    by : (a : AtWork) → g.work ≡ a → EntriesWrite r v
    by IdleWork is = entries-write r o held h w v b (IsCut g) (subst IsWithoutSnapshots (sym is) tt)
    by (Hearing l reading number) is = heard (is_without_snapshots l.message) refl
      where
        heard : (plain : Bool) → is_without_snapshots l.message ≡ plain → EntriesWrite r v
        heard true plain = entries-write r o held h w v b (IsCut g) (subst IsWithoutSnapshots (sym is) plain)
        heard false ours =
            one-set r w v b.writes g.t g.s _ g.here (ap (λ u. u.targets) g.after)
            (making-cut-left KeepsAttempts (λ d. keeps-same d d refl) keeps-then keeps-made keeps-partly is_prepared number (target_plan r g.t) g.s.opening g.s.memory reading l.from l.message (kept g.s) g.cut ours
            (subst (λ a. CutOf (target_plan r g.t) g.s a g.cut) is g.turn))
all-entries-write r o held h w v b (Opens g) = entries-write r o held h w v b (Opens g) tt
all-entries-write r o held h w v b (Fails g) = entries-write r o held h w v b (Fails g) tt
all-entries-write r o held h w v b (GivenUp g) = entries-write r o held h w v b (GivenUp g) tt
all-entries-write r o held h w v b (Draws g) = entries-write r o held h w v b (Draws g) tt

pub all-events-keep_entries : AllEventsKeepEntries
all-events-keep_entries r o held h w v b e t s k at i = all-entries-write r o held h w e.u b e.happens t s k (ap (λ u. slice_get u.targets t) (sym e.after) ∙ at) i

-- How many places of snapshots are taken at a target: those of the opening, and one for each snapshot of the run that is frozen there.
use Rattle.std.specs.Prelude.{ℕ, ◌≡◌, ◌≤◌, ◌+◌, ◌⊎◌, Bool, true, false, filter, length, map, slice_get, Option, Some, None, refl, if◌then◌else◌}
use Rattle.std.proofs.Common.{sym, ◌∙◌, ap, subst, arith, inl, inr}
use Rattle.base_types.specs.declared.epoch.Epoch.{Epoch}
use Rattle.base_types.specs.declared.id.AttemptId.{AttemptId}
use Rattle.base_types.specs.declared.id.ContId.{ContId}
use Rattle.base_types.specs.declared.outcome.FloorWhy.TheVariants.{Snapshot}
use Rattle.base_types.specs.declared.script.Command.{Command}
use Rattle.base_types.specs.declared.script.Command.TheVariants.{Aggregate, Run, Skip, Snap, Tell}
use Rattle.base_types.specs.declared.script.Script.{Script}
use Rattle.daos_model.specs.Changes.{created, created_at, frozen, marked, new_snap, pruned, raised_at, reopened, with_versions}
use Rattle.daos_model.specs.declared.durable.Durable.{Durable}
use Rattle.daos_model.specs.Durables.{is_frozen, snap_key}
use Rattle.daos_model.specs.FormLaws.{length-map, length-put}
use Rattle.daos_model.specs.Opening.{Opening}
use Rattle.daos_model.specs.Ordered.{put}
use Rattle.daos_model.specs.Transactions.{command_of}
use Rattle.world_base.specs.ChangeLaws.{snaps-made}
use Rattle.world_base.specs.Changes.{Change, Creates, Extends, Freezes, IsPartly, Prepares, Prunes, Settles, made}
use Rattle.world_base.specs.declared.target.TargetState.{TargetState}
use Rattle.world_base.specs.declared.world.World.{World}
use Rattle.world_base.specs.Events.{Rules}
use Rattle.world_legal.specs.world_causes.causes.Causes.{Dated}
use Rattle.world_upheld.specs.causing.Counting.{passes-more, passes-one_more}
use Rattle.world_owners.specs.world_making.freezings.Freezings.{IsOfSnap}
use Rattle.world_owners.specs.world_making.freezings.Snapping.{NoSnaps, frozen-there, snapping-made, snapping-same}
use Rattle.world_letters.specs.snapshots.Makings.{IsSnapIn}

-- the snapshot is frozen that a command makes at an epoch
abbrev pub freezes_of : Durable → Epoch → Option Command → Bool
freezes_of d s None = false
freezes_of d s (Some (Run ops turns snapshot)) = false
freezes_of d s (Some (Snap name c)) = is_frozen d c s
freezes_of d s (Some (Aggregate c)) = false
freezes_of d s (Some (Tell client)) = false
freezes_of d s (Some (Skip turns)) = false

-- that of an attempt, at the epoch that was issued to it
abbrev pub is_frozen_for : Script → Durable → AttemptId × Epoch → Bool
is_frozen_for s d i = freezes_of d i.1 (command_of s i.0)

abbrev pub HavePlaces : Script → Opening → Dated → Durable → Type 0
HavePlaces s o issued d = length d.snaps ≤ length o.stand.snaps + length (filter (is_frozen_for s d) issued)

-- no more snapshots stand at any target
abbrev pub Places : Rules → Opening → World → Type 0
Places r o w = (t : ℕ) (z : TargetState) → slice_get w.targets t ≡ Some z → HavePlaces r.script o w.issued z.durable

-- ---- one target

-- where what is frozen stays so, more attempts have theirs frozen
frozen-more : (s : Script) (d e : Durable) → ((c : ContId) (f : Epoch) → is_frozen d c f ≡ true → is_frozen e c f ≡ true) → (i : AttemptId × Epoch) → is_frozen_for s d i ≡ true → is_frozen_for s e i ≡ true
frozen-more s d e stays i = by (command_of s i.0)
  where
    by : (c : Option Command) → freezes_of d i.1 c ≡ true → freezes_of e i.1 c ≡ true
    by None is = is
    by (Some (Run ops turns snapshot)) is = is
    by (Some (Snap name c)) is = stays c i.1 is
    by (Some (Aggregate c)) is = is
    by (Some (Tell client)) is = is
    by (Some (Skip turns)) is = is

-- a freeze takes at most one place
frozen-long : (c : ContId) (s : Epoch) (d : Durable) → length (frozen c s d).snaps ≤ length d.snaps + 1
unfolding frozen
frozen-long c s d = by (is_frozen d c s)
  where
    by : (b : Bool) → length (if b then d else record d { conts = map (raised_at c s (Snapshot s)) d.conts; snaps = put snap_key (new_snap c s) d.snaps }).snaps ≤ length d.snaps + 1
    by true = omega arith
    by false = let is : length (put snap_key (new_snap c s) d.snaps) ≡ length d.snaps + 1 = length-put snap_key (new_snap c s) d.snaps in omega (arith, is)

-- and none where the snapshot is frozen
frozen-same : (c : ContId) (s : Epoch) (d : Durable) → is_frozen d c s ≡ true → frozen c s d ≡ d
unfolding frozen
frozen-same c s d is = by (is_frozen d c s) is
  where
    by : (b : Bool) → b ≡ true → (if b then d else record d { conts = map (raised_at c s (Snapshot s)) d.conts; snaps = put snap_key (new_snap c s) d.snaps }) ≡ d
    by true on = refl
    by false on = let no : ⊥ = cc in absurd no

module _ (r : Rules) (o : Opening) (issued : Dated) where
  abbrev Few : Durable → Type 0
  Few d = HavePlaces r.script o issued d

  -- What is frozen stays so; and where what else is frozen is of attempts that make it, no more snapshots stand there.
  pub record Placing (d e : Durable) : Type 0 where
    pub stays : (c : ContId) (s : Epoch) → is_frozen d c s ≡ true → is_frozen e c s ≡ true
    pub few : ((c : ContId) (s : Epoch) → is_frozen e c s ≡ true → (is_frozen d c s ≡ true) ⊎ IsOfSnap r issued c s) → Few d → Few e

  -- where no more are kept
  placing-fewer : (d e : Durable) → ((c : ContId) (s : Epoch) → is_frozen d c s ≡ true → is_frozen e c s ≡ true) → length e.snaps ≤ length d.snaps → Placing d e
  placing-fewer d e stays less = record {
    stays = stays;
    few = λ new few. by (length o.stand.snaps) (length (filter (is_frozen_for r.script d) issued)) (length (filter (is_frozen_for r.script e) issued)) few
        (passes-more (is_frozen_for r.script d) (is_frozen_for r.script e) issued (λ i j is. frozen-more r.script d e stays i is));
  }
    where
      by : (a b c : ℕ) → length d.snaps ≤ a + b → b ≤ c → length e.snaps ≤ a + c
      by a b c p q = omega (arith, p, q, less)

  placing-same : (d e : Durable) → e.snaps ≡ d.snaps → Placing d e
  placing-same d e same = placing-fewer d e (snapping-same NoSnaps NoSnaps d e same).stays (let is : length e.snaps ≡ length d.snaps = ap length same in omega (arith, is))

  placing-then : (d e f : Durable) → Placing d e → Placing e f → Placing d f
  placing-then d e f k l = record {
    stays = λ c s is. l.stays c s (k.stays c s is);
    few = λ new few. l.few (λ c s is. elim (new c s is) [ inl was ↦ inl (k.stays c s was) | inr it ↦ inr it ]) (k.few (λ c s is. new c s (l.stays c s is)) few);
  }

  placing-frozen : (c : ContId) (s : Epoch) (d : Durable) → Placing d (frozen c s d)
  placing-frozen c s d = record { stays = stays; few = λ new few. choose (is_frozen d c s) refl new few }
    where
      stays : (a : ContId) (f : Epoch) → is_frozen d a f ≡ true → is_frozen (frozen c s d) a f ≡ true
      stays = (snapping-made (Freezes c s) d).stays

      there : is_frozen (frozen c s d) c s ≡ true
      there = frozen-there c s d

      own : (x : AttemptId) → IsSnapIn r x c → (e : Durable) → is_frozen_for r.script e (x, s) ≡ is_frozen e c s
      own x makes e = ap (freezes_of e s) makes.1

      more : IsOfSnap r issued c s → is_frozen d c s ≡ false → Few d → Few (frozen c s d)
      more (x, has, makes) off few =
          by (length (frozen c s d).snaps) (length o.stand.snaps) (length (filter (is_frozen_for r.script d) issued)) (length (filter (is_frozen_for r.script (frozen c s d)) issued)) (frozen-long c s d) few
          (passes-one_more (is_frozen_for r.script d) (is_frozen_for r.script (frozen c s d)) issued (x, s) has (own x makes d ∙ off) (own x makes (frozen c s d) ∙ there) (λ i j is. frozen-more r.script d (frozen c s d) stays i is))
        where
          by : (n a b e : ℕ) → n ≤ length d.snaps + 1 → length d.snaps ≤ a + b → b + 1 ≤ e → n ≤ a + e
          by n a b e p q z = omega (arith, p, q, z)

      choose : (b : Bool) → is_frozen d c s ≡ b → ((a : ContId) (f : Epoch) → is_frozen (frozen c s d) a f ≡ true → (is_frozen d a f ≡ true) ⊎ IsOfSnap r issued a f) → Few d → Few (frozen c s d)
      choose true is new few = subst Few (sym (frozen-same c s d is)) few
      choose false is new few = elim (new c s there) [ inl was ↦ (let no : ⊥ = cc in absurd no) | inr it ↦ more it is few ]

  snaps-pruned : (c : ContId) (upto : Epoch) (n : ℕ) (d : Durable) → (pruned c upto n d).snaps ≡ d.snaps
  unfolding pruned with_versions marked
  snaps-pruned c upto n d = refl

  few-created : (c : ContId) (s : Epoch) (d : Durable) → length (created c s d).snaps ≡ length d.snaps
  unfolding created
  few-created c s d = length-map (created_at c s) d.snaps

  pub placing-made : (c : Change) (d : Durable) → Placing d (made c d)
  placing-made (Extends ticks) d = placing-same d (made (Extends ticks) d) (snaps-made (Extends ticks) d refl)
  placing-made (Prepares e ws) d = placing-same d (made (Prepares e ws) d) (snaps-made (Prepares e ws) d refl)
  placing-made (Settles a step) d = placing-same d (made (Settles a step) d) (snaps-made (Settles a step) d refl)
  placing-made (Freezes c s) d = placing-frozen c s d
  placing-made (Creates c s) d = placing-fewer d (created c s d) (snapping-made (Creates c s) d).stays (let is = few-created c s d in omega (arith, is))
  placing-made (Prunes c upto n) d = placing-same d (pruned c upto n d) (snaps-pruned c upto n d)

  pub placing-partly : (c : Change) (d x : Durable) → IsPartly c d x → Placing d x
  unfolding with_versions marked
  placing-partly (Prunes c upto n) d x p = placing-same d x (ap (λ y. y.snaps) p.2)
  placing-partly (Extends ticks) d x p = absurd p
  placing-partly (Prepares e ws) d x p = absurd p
  placing-partly (Settles a step) d x p = absurd p
  placing-partly (Freezes c s) d x p = absurd p
  placing-partly (Creates c s) d x p = absurd p

  pub placing-opened : (d : Durable) → Placing d (reopened d)
  unfolding reopened
  placing-opened d = placing-same d (reopened d) refl

  pub placing-none : (d : Durable) → Placing d d
  placing-none d = placing-same d d refl

  pub placing-both : (d e f : Durable) → Placing d e → Placing e f → Placing d f
  placing-both = placing-then

-- Which epochs count as those of attempts: those that were issued, and that of the snapshot for an attempt that reads at one.
use Rattle.std.specs.Prelude.{ℕ, ◌≡◌, ◌≤◌, ◌+◌, ◌++◌, ◌⊎◌, Bool, true, false, not, List, [], ◌∷◌, filter, length, Contains, refl, if◌then◌else◌}
use Rattle.std.proofs.Common.{sym, ap, subst, arith}
use Rattle.base_types.specs.declared.epoch.Epoch.{Epoch}
use Rattle.base_types.specs.declared.id.AttemptId.{AttemptId}
use Rattle.base_types.specs.declared.report.Attempt.{Attempt}
use Rattle.daos_model.specs.Attempts.{tries}
use Rattle.model_laws.specs.Members.{Has, contains-from_has, has-filter, has-from_contains, has-from_filter, has-left}
use Rattle.daos_model.specs.Laws.{tries-append}
use Rattle.base_types.specs.declared.report.Line.{Line}
use Rattle.world_base.specs.declared.world.World.{World}
use Rattle.world_base.specs.Events as events
use Rattle.world_base.specs.Events.{ByClient, ByTarget, Rules, ToClient, ToTarget}
use Rattle.world_base.specs.Stops.{Draws, Fails, Further, GivenUp, Happening, IsCut, Opens, Plainly}
use Rattle.world_legal.specs.world_causes.causes.Causes.{Dated}
use Rattle.world_legal.specs.world_causes.causes.Storing.{AreApart, dated_ids}
use Rattle.world_letters.specs.clients.Snapshots.{is_at_snapshot}
use Rattle.world_letters.specs.epochs.Epochs.{IsEpochOf, IsPresent}

-- a world in which these count as the epochs of attempts
abbrev pub with_dates : Dated → World → World
with_dates dated w = record w { issued = dated }

-- an epoch of an attempt that reads at a snapshot, or of another one
abbrev pub is_read_date : Rules → AttemptId × Epoch → Bool
is_read_date r i = is_at_snapshot r i.0

abbrev pub is_own_date : Rules → AttemptId × Epoch → Bool
is_own_date r i = not (is_at_snapshot r i.0)

-- a line tells of an attempt
abbrev pub HasItsLine : World → AttemptId → Type 0
HasItsLine w x = (b : Attempt) × Contains (tries w.lines) b × (b.id ≡ x)

-- an attempt was begun: its client is at it, or it has its line
abbrev pub IsBegunBy : Rules → World → AttemptId → Type 0
IsBegunBy r w x = IsPresent r w x ⊎ HasItsLine w x

-- What counts for an attempt: its epoch; or where it reads at a snapshot, that of the snapshot, so much later. That it may be later shows that no
-- later read which a cause names is one at a snapshot.
abbrev pub counted_as : Rules → ℕ → AttemptId → Epoch → Epoch
counted_as r late x e = if is_at_snapshot r x then record { 0 = e.0 + late } else e

-- These count in a world: but for those of attempts that read at snapshots, just the epochs that were issued; each is its attempt's, or so
-- much later, which was begun; and an attempt that reads at a snapshot has at most one.
pub record AreDates (r : Rules) (late : ℕ) (dated : Dated) (w : World) : Type 0 where
  pub issued : filter (is_own_date r) dated ≡ w.issued
  pub epochs : (x : AttemptId) (d : Epoch) → Contains dated (x, d) → (e : Epoch) × IsEpochOf r w x e × (d ≡ counted_as r late x e)
  pub begun : (x : AttemptId) (e : Epoch) → Contains dated (x, e) → IsBegunBy r w x
  pub once : AreApart (dated_ids (filter (is_read_date r) dated))

-- what was issued by an event
abbrev pub newly_dated : (r : Rules) {w v : World} → Happening r w v → Dated
newly_dated r (Plainly (ByClient g) up) = []
newly_dated r (Plainly (ToClient g) up) = []
newly_dated r (Plainly (ToTarget g) up) = events.listed g.did.issued
newly_dated r (Plainly (ByTarget g) up) = events.listed g.did.issued
newly_dated r (Further g) = events.listed g.hears.did.issued
newly_dated r (IsCut g) = g.cut.issued
newly_dated r (Opens g) = []
newly_dated r (Fails g) = []
newly_dated r (GivenUp g) = []
newly_dated r (Draws g) = []

-- ---- what was issued counts

pub counts-issued : (r : Rules) (late : ℕ) (dated : Dated) (w : World) → AreDates r late dated w → (x : AttemptId) (e : Epoch) → Has (x, e) w.issued → Has (x, e) dated
counts-issued r late dated w D x e i = (has-from_filter (is_own_date r) dated (x, e) (subst (Has (x, e)) (sym D.issued) i)).0

-- and what counts for an attempt that reads at no snapshot was issued to it
pub issued-own : (r : Rules) (late : ℕ) (dated : Dated) (w : World) → AreDates r late dated w → (x : AttemptId) (e : Epoch) → is_at_snapshot r x ≡ false → Contains dated (x, e) → Contains w.issued (x, e)
issued-own r late dated w D x e off i =
    contains-from_has w.issued (x, e) (subst (Has (x, e)) D.issued (has-filter (is_own_date r) dated (x, e) (has-from_contains dated (x, e) i) (ap not off)))

-- what counts is no earlier; and for an attempt that reads at no snapshot it is the epoch
pub counted-up : (r : Rules) (late : ℕ) (x : AttemptId) (e : Epoch) → e.0 ≤ (counted_as r late x e).0
counted-up r late x e = by (is_at_snapshot r x)
  where
    by : (b : Bool) → e.0 ≤ (if b then record { 0 = e.0 + late } else e).0
    by true = omega arith
    by false = omega arith

pub counted-own : (r : Rules) (late : ℕ) (x : AttemptId) (e : Epoch) → is_at_snapshot r x ≡ false → e ≡ counted_as r late x e
counted-own r late x e off = by (is_at_snapshot r x) off
  where
    by : (b : Bool) → b ≡ false → e ≡ (if b then record { 0 = e.0 + late } else e)
    by true is = let no : ⊥ = cc in absurd no
    by false is = refl

-- what passes is no fewer among more
pub passes-among : {T : Type 0} (f g : T → Bool) (xs : List T) → length (filter f (filter g xs)) ≤ length (filter f xs)
passes-among f g [] = omega arith
passes-among f g (x ∷ xs) = choose (g x) (passes-among f g xs)
  where
    kept : (c : Bool) → length (filter f (filter g xs)) ≤ length (filter f xs) → length (if c then x ∷ filter f (filter g xs) else filter f (filter g xs)) ≤ length (if c then x ∷ filter f xs else filter f xs)
    kept true low = omega (arith, low)
    kept false low = low

    left : (c : Bool) → length (filter f (filter g xs)) ≤ length (filter f xs) → length (filter f (filter g xs)) ≤ length (if c then x ∷ filter f xs else filter f xs)
    left true low = omega (arith, low)
    left false low = low

    choose : (b : Bool) → length (filter f (filter g xs)) ≤ length (filter f xs) → length (filter f (if b then x ∷ filter g xs else filter g xs)) ≤ length (filter f (x ∷ xs))
    choose true low = kept (f x) low
    choose false low = left (f x) low

-- ---- as lines are added

pub line-on : (w v : World) (x : AttemptId) (more : List Line) → v.lines ≡ w.lines ++ more → HasItsLine w x → HasItsLine v x
line-on w v x more lines told = (
  told.0,
  contains-from_has (tries v.lines) told.0 (subst (λ ls. Has told.0 (tries ls)) (sym lines) (subst (Has told.0) (sym (tries-append w.lines more)) (has-left (tries w.lines) (tries more) told.0 (has-from_contains (tries w.lines) told.0 told.1)))),
  told.2,
)

-- A target stops: of the others nothing changes, and of this one what its turn left.
use Rattle.std.specs.Prelude.{ℕ, ◌≡◌, ◌⊎◌, ◌≤◌, ◌/◌, ◌++◌, true, false, List, Contains, slice_get, Some}
use Rattle.std.proofs.Common.{sym, ◌∙◌, ap, subst, inl, inr}
use Rattle.std.proofs.Math.ListN.{set}
use Rattle.std.proofs.lemmas.List.Elements.{Contains-append_left}
use Rattle.base_types.specs.declared.epoch.Epoch.{Epoch}
use Rattle.base_types.specs.declared.id.AttemptId.{AttemptId}
use Rattle.base_types.specs.declared.outcome.FloorWhy.{FloorWhy}
use Rattle.base_types.specs.declared.shown.Shown.{Shown}
use Rattle.base_types.specs.Operations.{read_path}
use Rattle.base_types.specs.Paths.{overlaps}
use Rattle.model_laws.specs.Members.{Has, has-right}
use Rattle.daos_model.specs.declared.durable.Durable.{Durable}
use Rattle.daos_model.specs.declared.durable.Version.{Version}
use Rattle.daos_model.specs.Opening.{Opening}
use Rattle.daos_model.specs.Versions.{version_path}
use Rattle.world_contents.specs.world_commit.attempts.History.{History, Served}
use Rattle.world_base.specs.declared.target.Life.TheVariants.{Running}
use Rattle.world_base.specs.declared.target.TargetState.{TargetState}
use Rattle.world_base.specs.declared.world.World.{World}
use Rattle.world_base.specs.CutTurns.{Cutting}
use Rattle.world_base.specs.Events.{Rules}
use Rattle.world_base.specs.Stops.{after_cut, stopped_at}
use Rattle.world_contents.specs.reads.EventLaws.{at-or-there}
use Rattle.world_contents.specs.reads.Midway.{IsStampOf, Sound}
use Rattle.world_contents.specs.reads.Reads.{IsGuarded, Reads}
use Rattle.world_contents.specs.reads.Versions.{Versions, VersionsStand}

-- what a target keeps stands, and of the reads that it served the lease covers each, and no unsettled version lies below it
pub record KeepsSound (r : Rules) (o : Opening) (held : List Version) (h : History) (t : ℕ) (d : Durable) : Type 0 where
  pub stand : VersionsStand r o held h t d
  pub leased : (q : Served) → Has q h.served → q.target ≡ t → q.epoch.0 / 256 ≤ d.lease
  pub barred : (q : Served) (v : Version) → Has q h.served → q.target ≡ t → Contains d.versions v → v.done ≡ false → overlaps (version_path v) (read_path q.read) ≡ true → q.epoch.0 ≤ v.epoch.0

-- so it is of a target in a turn, which may have served more reads by then
pub sound-keeps : (r : Rules) (o : Opening) (held : List Version) (h : History) (more : List Served) (opening : Epoch × FloorWhy) (t : ℕ) (d : Durable) (stamps : List Shown) → Sound r o held h (more ++ h.served) opening t d stamps → KeepsSound r o held h t d
sound-keeps r o held h more opening t d stamps k = record {
  stand = k.stand;
  leased = λ q i at. k.shows.leased q (has-right more h.served q i) at;
  barred = λ q v i at j f over. k.shows.barred q v (has-right more h.served q i) at j f over;
}

-- ---- one target changes

-- what it serves and shows while it runs
pub record ShowsNow (r : Rules) (h : History) (t : ℕ) (z : TargetState) : Type 0 where
  pub guarded : (q : Served) → Has q h.served → q.target ≡ t → z.life ≡ Running → IsGuarded z q
  pub stamps : (y : Shown) → z.life ≡ Running → Contains z.memory.stamps y → (q : Served) × Has q h.served × (q.target ≡ t) × IsStampOf r y q

pub one-changes : (r : Rules) (o : Opening) (held : ℕ → List Version) (h : History) (w v : World) (t : ℕ) (s z : TargetState) → slice_get w.targets t ≡ Some s → v.targets ≡ set w.targets t z
    → ((i : AttemptId × Epoch) → Contains w.issued i → Contains v.issued i) → KeepsSound r o (held t) h t z.durable → ShowsNow r h t z → Versions r o held h w → Reads r o h w → Versions r o held h v × Reads r o h v
one-changes r o held h w v t s z here targets more keeps shows k l = (
  record {
    stand = λ u y at. elim (placed u y at) [
      | inl same ↦ subst (λ n. VersionsStand r o (held n) h n y.durable) (sym same.0) (subst (λ x. VersionsStand r o (held t) h t x.durable) (sym same.1) keeps.stand)
      | inr old ↦ k.stand u y old.1
    ];
    apart = k.apart;
    issued = λ x e d. more (x, e) (k.issued x e d);
    written = k.written;
  },
  record {
    asked = l.asked;
    form = l.form;
    issued = λ q i off. more (q.by, q.epoch) (l.issued q i off);
    answers = l.answers;
    guarded = λ q y i at runs. elim (placed q.target y at) [
      | inl same ↦ subst (λ x. IsGuarded x q) (sym same.1) (shows.guarded q i same.0 (sym (ap (λ x. x.life) same.1) ∙ runs))
      | inr old ↦ l.guarded q y i old.1 runs
    ];
    leased = λ q y i at. elim (placed q.target y at) [
      | inl same ↦ subst (λ x. q.epoch.0 / 256 ≤ x.durable.lease) (sym same.1) (keeps.leased q i same.0)
      | inr old ↦ l.leased q y i old.1
    ];
    barred = λ q y x i at among off over. elim (placed q.target y at) [
      | inl same ↦ keeps.barred q x i same.0 (subst (λ p. Contains p.durable.versions x) same.1 among) off over
      | inr old ↦ l.barred q y x i old.1 among off over
    ];
    stamps = λ u y x at runs among. elim (placed u y at) [
      | inl same ↦ (let q = stamp u x same.0 (shows.stamps x (sym (ap (λ p. p.life) same.1) ∙ runs) (subst (λ p. Contains p.memory.stamps x) same.1 among)) in (q.0, q.1, q.2, q.3.0, q.3.1, q.3.2, q.3.3))
      | inr old ↦ (let q = l.stamps u y x old.1 runs among in (q.0, q.1, q.2, q.3, q.4, q.5, q.6))
    ];
  },
)
  where
    placed : (u : ℕ) (y : TargetState) → slice_get v.targets u ≡ Some y → ((u ≡ t) × (y ≡ z)) ⊎ ((u ≡ t → ⊥) × (slice_get w.targets u ≡ Some y))
    placed u y at = at-or-there w.targets t s z here u y (subst (λ ts. slice_get ts u ≡ Some y) targets at)

    stamp : (u : ℕ) (x : Shown) → u ≡ t → (q : Served) × Has q h.served × (q.target ≡ t) × IsStampOf r x q
        → (q : Served) × Has q h.served × (q.target ≡ u) × IsStampOf r x q
    stamp u x at q = (q.0, q.1, q.2 ∙ sym at, q.3)

-- a target stops
pub stop-keeps : (r : Rules) (o : Opening) (held : ℕ → List Version) (h : History) (w v : World) (t : ℕ) (s : TargetState) (cut : Cutting) → slice_get w.targets t ≡ Some s → KeepsSound r o (held t) h t cut.left.durable
    → v ≡ after_cut w t s cut → Versions r o held h w → Reads r o h w → Versions r o held h v × Reads r o h v
stop-keeps r o held h w v t s cut here keeps after k l =
    one-changes r o held h w v t s (stopped_at s cut.left) here (ap (λ u. u.targets) after) (λ i j. subst (λ u. Contains u.issued i) (sym after) (Contains-append_left w.issued cut.issued i j)) keeps
    (record { guarded = λ q i at runs. let no : ⊥ = cc in absurd no; stamps = λ y runs. let no : ⊥ = cc in absurd no }) k l

-- Whatever targets tell, where the state of one changes; and entries that stay.
use Rattle.std.specs.Prelude.{ℕ, ◌≡◌, ◌≤◌, slice_get, Option, Some}
use Rattle.std.proofs.Common.{sym, ◌∙◌, ap, subst, inl, inr}
use Rattle.std.proofs.Math.ListN.{set}
use Rattle.base_types.specs.declared.epoch.Epoch.{Epoch}
use Rattle.base_types.specs.declared.id.AttemptId.{AttemptId}
use Rattle.model_laws.specs.Members.{Has}
use Rattle.world_commit.specs.attempts.Attempts.{Entries, HoldsAt, IsBorn, IsHeld, IsOpenAt, IsSettled, entry_at, inc_at, leader_of}
use Rattle.world_commit.specs.attempts.History.{History}
use Rattle.world_commit.specs.attempts.Turning.{one-or_another}
use Rattle.world_commit.specs.fates.Frames.{Grows}
use Rattle.world_base.specs.declared.target.TargetState.{TargetState}
use Rattle.world_base.specs.declared.world.World.{World}
use Rattle.world_base.specs.Events.{Rules}
use Rattle.world_base.specs.StepLaws.{set-here, set-there}

module _ {T : Type 0} (w v : World) (t : ℕ) (s z : TargetState) (here : slice_get w.targets t ≡ Some s) (targets : v.targets ≡ set w.targets t z) (part : Option TargetState → T) where
  pub now-here : part (slice_get v.targets t) ≡ part (Some z)
  now-here = ap (λ ts. part (slice_get ts t)) targets ∙ ap part (set-here w.targets t s z here)

  pub now-there : (u : ℕ) → (u ≡ t → ⊥) → part (slice_get v.targets u) ≡ part (slice_get w.targets u)
  now-there u other = ap (λ ts. part (slice_get ts u)) targets ∙ ap part (set-there w.targets t u z other)

  pub now-same : part (Some z) ≡ part (Some s) → (u : ℕ) → part (slice_get v.targets u) ≡ part (slice_get w.targets u)
  now-same same u = elim (one-or_another u t) [
    | inl is ↦ subst (λ n. part (slice_get v.targets n) ≡ part (slice_get w.targets n)) (sym is) (now-here ∙ same ∙ sym (ap part here))
    | inr other ↦ now-there u other
  ]

-- what holds of the new state and of each other one holds of all
pub all-now : (w v : World) (t : ℕ) (s z : TargetState) → slice_get w.targets t ≡ Some s → v.targets ≡ set w.targets t z → (P : TargetState → Type 0) → P z
    → ((u : ℕ) (y : TargetState) → slice_get w.targets u ≡ Some y → P y) → (u : ℕ) (y : TargetState) → slice_get v.targets u ≡ Some y → P y
all-now w v t s z here targets P own all u y at = elim (one-or_another u t) [
  | inl is ↦
      let found : Some z ≡ Some y = sym (now-here w v t s z here targets (λ o. o)) ∙ subst (λ n. slice_get v.targets n ≡ Some y) is at in
      subst P (let one : z ≡ y = cc in one) own
  | inr other ↦ all u y (sym (now-there w v t s z here targets (λ o. o) u other) ∙ at)
]

-- ---- entries stay

-- every target keeps the entries that it kept, and no incarnation falls
pub record KeepsEntries (w v : World) : Type 0 where
  pub entry : (t : ℕ) (x : AttemptId) → entry_at v t x ≡ entry_at w t x
  pub issued : (x : AttemptId) (e : Epoch) → Has (x, e) w.issued → Has (x, e) v.issued
  pub incarnation : (t : ℕ) → inc_at w t ≤ inc_at v t

module _ (r : Rules) (h : History) (w v : World) (k : KeepsEntries w v) where
  pub held-stays : (t : ℕ) (x : AttemptId) → IsHeld w t x → IsHeld v t x
  held-stays t x i = record { entry = i.entry; found = k.entry t x ∙ i.found }

  settled-stays : (t : ℕ) (x : AttemptId) → IsSettled w t x → IsSettled v t x
  settled-stays t x i = record { entry = i.entry; found = k.entry t x ∙ i.found; committed = i.committed }

  born-stays : (x : AttemptId) → IsBorn r h w x → IsBorn r h v x
  born-stays x (inl i) = inl (held-stays (leader_of r x) x i)
  born-stays x (inr a) = inr a

  holds-stays : (t : ℕ) (x : AttemptId) (e : Epoch) → HoldsAt w t x e → HoldsAt v t x e
  holds-stays t x e i = record { entry = i.entry; found = k.entry t x ∙ i.found; epoch = i.epoch }

  unfoldable pub open-stays : (t : ℕ) (x : AttemptId) → IsOpenAt r w x t → IsOpenAt r v x t
  open-stays t x i = record { leads = i.leads; entry = i.entry; found = k.entry t x ∙ i.found; prepared = i.prepared }

  pub grows-still : Grows r h h w v
  grows-still = record {
    decided = λ x e d. d;
    aborted = λ x a. a;
    issued = k.issued;
    incarnation = k.incarnation;
    born = born-stays;
    held = λ m x o i. inl (held-stays m x i);
    settled = λ m x o i. inl (settled-stays m x i);
  }

  pub entries-stay : (x : AttemptId) → Entries r h w x → Entries r h v x
  entries-stay x z = record {
    one = λ t e at.
        let q = z.one t e (sym (k.entry t x) ∙ at) in record { attempt = q.attempt; leader = q.leader; members = q.members; issued = k.issued x e.epoch q.issued; place = q.place };
    born = λ t e at. born-stays x (z.born t e (sym (k.entry t x) ∙ at));
    committed = λ t e at c. z.committed t e (sym (k.entry t x) ∙ at) c;
    confirmed = λ m e at o has. settled-stays m x (z.confirmed m e (sym (k.entry (leader_of r x) x) ∙ at) o has);
    held_by_leader = λ e d. holds-stays (leader_of r x) x e (z.held_by_leader e d);
    held_by_others = λ e m d o. holds-stays m x e (z.held_by_others e m d o);
    aborted = λ a. k.entry (leader_of r x) x ∙ z.aborted a;
  }

-- A request bears the epoch of its attempt, or one is issued that none has yet: also where snapshots are made and read.
use Rattle.std.specs.Prelude.{ℕ, ◌≡◌, ◌≤◌, ◌<◌, ◌%◌, ◌/◌, length, slice_get, Contains, Option, Some, None, refl}
use Rattle.std.proofs.lemmas.Option.{slice_get_within}
use Rattle.std.proofs.Common.{◌∙◌, ap, subst, arith}
use Rattle.base_types.specs.declared.epoch.Epoch.{Epoch}
use Rattle.base_types.specs.declared.id.AttemptId.{AttemptId}
use Rattle.daos_model.specs.Opening.{Opening, top}
use Rattle.world_base.specs.declared.target.TargetState.{TargetState}
use Rattle.world_base.specs.declared.target.Life.TheVariants.{Running}
use Rattle.world_base.specs.declared.world.World.{World}
use Rattle.world_base.specs.Events.{Rules, target_plan}
use Rattle.world_base.specs.Requests.{request_epoch}
use Rattle.world_letters.specs.epochs.Epochs.{Epochs, IsIssued}
use Rattle.world_letters.specs.epochs.TargetEvents.{issued-ticks}
use Rattle.world_legal.specs.world_contents.reads.Given.{HasItsEpoch, IsItsEpoch}

epoch_of : ℕ → Epoch
epoch_of n = record { 0 = n }

pub same-epoch : (e f : Epoch) → e.0 ≡ f.0 → e ≡ f
unfolding epoch_of
same-epoch e f h = ap epoch_of h

module _ (r : Rules) (o : Opening) (w : World) (E : Epochs r (top o) w) where
  -- one that was issued
  pub issued-its : (x : AttemptId) (e : Epoch) → IsIssued w x e → IsItsEpoch o w x (Some e) e
  issued-its x e i = record {
    above = E.above x e i;
    alone = λ y f is same. E.apart y x e (subst (λ z. Contains w.issued (y, z)) (same-epoch f e same) is) i;
    own = λ f has. let one : e ≡ f = cc in subst (λ z. Contains w.issued (x, z)) one i;
  }

  -- one that is issued now
  new-its : (t : ℕ) (s : TargetState) (x : AttemptId) (k : Epoch) (reading : ℕ) (e : Epoch) → slice_get w.targets t ≡ Some s → s.life ≡ Running → top o ≤ k.0
      → request_epoch (target_plan r t) s.memory reading k None ≡ Some e → IsItsEpoch o w x None e
  new-its t s x k reading e here runs low h = record { above = above; alone = alone; own = λ f has. let no : ⊥ = cc in absurd no }
    where
      few : t < 256
      few = let within : t < length w.targets = slice_get_within w.targets t s here in let all : length w.targets ≤ 256 = E.few in omega (arith, within, all)

      is : (s.memory.ticks < e.0 / 256) × (k.0 < e.0) × (e.0 % 256 ≡ t)
      is = issued-ticks (target_plan r t) s.memory reading k e few h

      above : top o < e.0
      above = let b : k.0 < e.0 = is.1 in omega (arith, low, b)

      alone : (y : AttemptId) (f : Epoch) → Contains w.issued (y, f) → f.0 ≡ e.0 → y ≡ x
      alone y f i same =
          let issuer : f.0 % 256 ≡ t = ap (λ z. z % 256) same ∙ is.2 in
          let old : f.0 / 256 ≤ s.memory.ticks = E.ticks y f s i (ap (λ z. slice_get w.targets z) issuer ∙ here) runs in
          let new : s.memory.ticks < e.0 / 256 = is.0 in
          let one : f.0 / 256 ≡ e.0 / 256 = ap (λ z. z / 256) same in
          let no : ⊥ = omega (arith, old, new, one) in absurd no

  -- so a request that bears or asks for an epoch has its epoch
  pub request-its : (t : ℕ) (s : TargetState) (x : AttemptId) (ep : Option Epoch) (k : Epoch) → slice_get w.targets t ≡ Some s → s.life ≡ Running
      → ((e : Epoch) → ep ≡ Some e → IsIssued w x e) → (ep ≡ None → top o ≤ k.0)
      → HasItsEpoch r o w t s x ep k
  request-its t s x None k here runs bears low reading e h = new-its t s x k reading e here runs (low refl) h
  request-its t s x (Some f) k here runs bears low reading e h = let same : f ≡ e = cc in subst (λ z. IsItsEpoch o w x (Some f) z) same (issued-its x f (bears f refl))

-- What every event leaves of a target: whether it runs, the floor of its opening, the containers and snapshots that it keeps, its
-- incarnation, and its lease, which may rise.
use Rattle.std.specs.Prelude.{ℕ, ◌≡◌, slice_get, Some, refl, List, [], suc, zero, ◌∷◌}
use Rattle.std.proofs.Common.{sym, ◌∙◌, ap, subst}
use Rattle.std.proofs.Math.ListN.{set}
use Rattle.daos_model.specs.declared.durable.Durable.{Durable}
use Rattle.world_base.specs.declared.target.TargetMemory.{TargetMemory}
use Rattle.world_base.specs.declared.target.TargetState.{TargetState}
use Rattle.world_base.specs.declared.world.World.{World}
use Rattle.world_base.specs.Events.{Begins, ByClient, ByTarget, Event, Goes, Run, Rules, ToClient, ToTarget, kept, target_after, target_plan}
use Rattle.world_base.specs.ChangeLaws.{lease-same, lease-then}
use Rattle.world_base.specs.Changes.{Kept}
use Rattle.world_base.specs.TurnLaws.{KeepsAs, hears-keeps, idles-keeps}

-- what holds of each element, and of one that is set at its place, holds of each then
pub at-place : {T : Type 0} (P : ℕ → T → Type 0) (xs : List T) (t u : ℕ) (z y : T) → P t z → ((n : ℕ) (x : T) → slice_get xs n ≡ Some x → P n x) → slice_get (set xs t z) u ≡ Some y → P u y
at-place P [] t u z y new old at = let no : ⊥ = cc in absurd no
at-place P (x ∷ xs) zero zero z y new old at = let same : z ≡ y = cc in subst (P zero) same new
at-place P (x ∷ xs) zero (suc u) z y new old at = old (suc u) y at
at-place P (x ∷ xs) (suc t) zero z y new old at = old zero y at
at-place P (x ∷ xs) (suc t) (suc u) z y new old at = at-place (λ n. P (suc n)) xs t u z y new (λ n w h. old (suc n) w h) at

-- ---- the statement

-- a target is as it was, but for its versions, its entries, its lease, its blocks and what it knows
pub record StaysAs (s z : TargetState) : Type 0 where
  pub life : z.life ≡ s.life
  pub opening : z.opening ≡ s.opening
  pub keeps : KeepsAs s.durable z.durable

-- each target of a world was there before
abbrev pub TargetsStay : World → World → Type 0
TargetsStay w v = (t : ℕ) (z : TargetState) → slice_get v.targets t ≡ Some z → (s : TargetState) × (slice_get w.targets t ≡ Some s) × StaysAs s z

abbrev pub EventsKeepTargets : Type 0
EventsKeepTargets = (r : Rules) (w v : World) → Event r w v → TargetsStay w v

abbrev pub RunsKeepTargets : Type 0
RunsKeepTargets = (r : Rules) (w v : World) → Run r w v → TargetsStay w v

-- ---- the law

keeps-same : (d : Durable) → KeepsAs d d
keeps-same d = record { conts = refl; snaps = refl; incarnation = refl; lease = lease-same d d refl }

keeps-then : (d e f : Durable) → KeepsAs d e → KeepsAs e f → KeepsAs d f
keeps-then d e f k l = record { conts = l.conts ∙ k.conts; snaps = l.snaps ∙ k.snaps; incarnation = l.incarnation ∙ k.incarnation; lease = lease-then d e f k.lease l.lease }

stays-same : (s : TargetState) → StaysAs s s
stays-same s = record { life = refl; opening = refl; keeps = keeps-same s.durable }

stay-same : (w v : World) → v.targets ≡ w.targets → TargetsStay w v
stay-same w v same t z at = (z, ap (λ ts. slice_get ts t) (sym same) ∙ at, stays-same z)

-- the targets of a list in which one was set
stay-set : (w v : World) (t : ℕ) (s : TargetState) (new : Kept) (memory : TargetMemory) → slice_get w.targets t ≡ Some s → v.targets ≡ set w.targets t (target_after s new memory) → KeepsAs s.durable new.durable → TargetsStay w v
stay-set w v t s new memory here is keeps u z at =
    at-place (λ n y. (x : TargetState) × (slice_get w.targets n ≡ Some x) × StaysAs x y) w.targets t u (target_after s new memory) z (s, here, record { life = refl; opening = refl; keeps = keeps })
    (λ n y there. (y, there, stays-same y)) (ap (λ ts. slice_get ts u) (sym is) ∙ at)

pub events-keep-targets : EventsKeepTargets
events-keep-targets r w v (ByClient g) = stay-same w v (ap (λ x. x.targets) g.after)
events-keep-targets r w v (ToClient g) = stay-same w v (ap (λ x. x.targets) g.after)
events-keep-targets r w v (ToTarget g) =
    stay-set w v g.t g.s g.new g.memory g.here (ap (λ x. x.targets) g.after) (hears-keeps (target_plan r g.t) g.s.opening g.s.memory g.reading g.l.from g.l.message (kept g.s) g.new (g.memory, g.did) g.turn)
events-keep-targets r w v (ByTarget g) =
    stay-set w v g.t g.s g.new g.memory g.here (ap (λ x. x.targets) g.after) (idles-keeps g.settling (target_plan r g.t) g.s.memory (kept g.s) g.new (g.memory, g.did) g.turn)

stays-then : (s x z : TargetState) → StaysAs s x → StaysAs x z → StaysAs s z
stays-then s x z k l = record { life = l.life ∙ k.life; opening = l.opening ∙ k.opening; keeps = keeps-then s.durable x.durable z.durable k.keeps l.keeps }

pub runs-keep-targets : RunsKeepTargets
runs-keep-targets r w v Begins t z at = (z, at, stays-same z)
runs-keep-targets r w v (Goes u x run e) t z at =
    let k = events-keep-targets r u x e t z at in
    let l = runs-keep-targets r w u run t k.0 k.1 in
    (l.0, l.1, stays-then l.0 k.0 z l.2 k.2)

-- How often targets were opened: an event raises the incarnation of a target by one where that opens, or where its opening fails once it was raised; and
-- none else.
use Rattle.std.specs.Prelude.{ℕ, ◌≡◌, ◌≤◌, ◌+◌, ◌⊎◌, slice_get, Some, refl}
use Rattle.std.proofs.Common.{inl, inr, sym, ◌∙◌, ap, subst, arith}
use Rattle.std.proofs.Math.ListN.{set}
use Rattle.daos_model.specs.Changes.{reopened}
use Rattle.daos_model.specs.declared.durable.Durable.{Durable}
use Rattle.world_base.specs.declared.target.TargetState.{TargetState}
use Rattle.world_base.specs.declared.world.World.{World}
use Rattle.world_base.specs.Events.{ByClient, ByTarget, Rules, ToClient, ToTarget, kept, target_plan}
use Rattle.world_base.specs.Stops.{Draws, Fails, Further, GivenUp, Happening, IsCut, Opens, Plainly, WorldEvent}
use Rattle.world_base.specs.TurnLaws.{hears-keeps, idles-keeps}
use Rattle.world_letters.specs.lives.Events.{cut-lasts_so}
use Rattle.world_letters.specs.lives.Leases.{further-lasts}
use Rattle.world_answers.specs.world_contents.reads.EventLaws.{at-or-there}

-- ---- the statements

-- What an event leaves of the incarnation of a target: one more where it opens; the same, or one more, where it fails to; and else the same.
abbrev pub LeavesIncarnation : (r : Rules) → {w u : World} → Happening r w u → ℕ → ℕ → ℕ → Type 0
LeavesIncarnation r (Opens g) t before after = ((t ≡ g.t) × (after ≡ before + 1)) ⊎ ((t ≡ g.t → ⊥) × (after ≡ before))
LeavesIncarnation r (Fails g) t before after = ((t ≡ g.t) × (after ≡ before + 1)) ⊎ (after ≡ before)
LeavesIncarnation r e t before after = after ≡ before

-- this is so of each target after an event, which was there before
abbrev pub AllEventsRaise : Type 0
AllEventsRaise =
    (r : Rules) (w v : World) (e : WorldEvent r w v) (t : ℕ) (z : TargetState) → slice_get v.targets t ≡ Some z
    → (s : TargetState) × (slice_get w.targets t ≡ Some s) × LeavesIncarnation r e.happens t s.durable.incarnation z.durable.incarnation

-- how often an event raises an incarnation, at most
abbrev pub raised_by : (r : Rules) → {w u : World} → Happening r w u → ℕ
raised_by r (Opens g) = 1
raised_by r (Fails g) = 1
raised_by r e = 0

-- between these worlds no target was opened more often than so
abbrev pub RaisesAtMost : ℕ → World → World → Type 0
RaisesAtMost n w v = (t : ℕ) (z : TargetState) → slice_get v.targets t ≡ Some z → (s : TargetState) × (slice_get w.targets t ≡ Some s) × (z.durable.incarnation ≤ s.durable.incarnation + n)

-- ---- events

-- what is said of a target's incarnations before and after goes with each target between these worlds
abbrev Goes : (ℕ → ℕ → ℕ → Type 0) → World → World → Type 0
Goes P w v = (t : ℕ) (z : TargetState) → slice_get v.targets t ≡ Some z → (s : TargetState) × (slice_get w.targets t ≡ Some s) × P t s.durable.incarnation z.durable.incarnation

abbrev Same : ℕ → ℕ → ℕ → Type 0
Same t before after = after ≡ before

module _ (w v : World) where
  none-changed : v.targets ≡ w.targets → Goes Same w v
  none-changed same t z at = (z, ap (λ ts. slice_get ts t) (sym same) ∙ at, refl)

  one-changed : (P : ℕ → ℕ → ℕ → Type 0) (t : ℕ) (s z : TargetState) → slice_get w.targets t ≡ Some s → v.targets ≡ set w.targets t z → P t s.durable.incarnation z.durable.incarnation
      → ((u n : ℕ) → (u ≡ t → ⊥) → P u n n) → Goes P w v
  one-changed P t s z here same one others u y at = elim (at-or-there w.targets t s z here u y (subst (λ ts. slice_get ts u ≡ Some y) same at)) [
    | inl is ↦ (s, subst (λ m. slice_get w.targets m ≡ Some s) (sym is.0) here, subst (λ m. P m s.durable.incarnation y.durable.incarnation) (sym is.0) (subst (λ x. P t s.durable.incarnation x.durable.incarnation) (sym is.1) one))
    | inr old ↦ (y, old.1, others u y.durable.incarnation old.0)
  ]

  same-raised : (t : ℕ) (s z : TargetState) → slice_get w.targets t ≡ Some s → v.targets ≡ set w.targets t z → z.durable.incarnation ≡ s.durable.incarnation → Goes Same w v
  same-raised t s z here targets same = one-changed Same t s z here targets same (λ u n apart. refl)

reopened-raises : (d : Durable) → (reopened d).incarnation ≡ d.incarnation + 1
unfolding reopened
reopened-raises d = refl

happening-raises : (r : Rules) (w v : World) (e : Happening r w v) → Goes (LeavesIncarnation r e) w v
happening-raises r w v (Plainly (ByClient g) up) = none-changed w v (ap (λ u. u.targets) g.after)
happening-raises r w v (Plainly (ToClient g) up) = none-changed w v (ap (λ u. u.targets) g.after)
happening-raises r w v (Plainly (ToTarget g) up) =
    same-raised w v g.t g.s _ g.here (ap (λ u. u.targets) g.after) (hears-keeps (target_plan r g.t) g.s.opening g.s.memory g.reading g.l.from g.l.message (kept g.s) g.new (g.memory, g.did) g.turn).incarnation
happening-raises r w v (Plainly (ByTarget g) up) = same-raised w v g.t g.s _ g.here (ap (λ u. u.targets) g.after) (idles-keeps g.settling (target_plan r g.t) g.s.memory (kept g.s) g.new (g.memory, g.did) g.turn).incarnation
happening-raises r w v (Further g) =
    let h = g.hears in
    same-raised w v h.t h.s _ h.here (ap (λ u. u.targets) h.after) (further-lasts g.number (target_plan r h.t) h.s.opening h.s.memory h.reading h.l.from h.l.message (kept h.s) h.new (h.memory, h.did) h.turn).incarnation
happening-raises r w v (IsCut g) = same-raised w v g.t g.s _ g.here (ap (λ u. u.targets) g.after) (cut-lasts_so r w v g).incarnation
happening-raises r w v (Opens g) =
    one-changed w v (LeavesIncarnation r (Opens g)) g.t g.s _ g.here (ap (λ u. u.targets) g.after) (inl (refl, reopened-raises g.s.durable)) (λ u n apart. inr (apart, refl))
happening-raises r w v (Fails g) = one-changed w v (LeavesIncarnation r (Fails g)) g.t g.s _ g.here (ap (λ u. u.targets) g.after) (elim g.left [
  | inl same ↦ inr (ap (λ d. d.incarnation) same)
  | inr again ↦ inl (refl, ap (λ d. d.incarnation) again ∙ reopened-raises g.s.durable)
]) (λ u n apart. inr refl)
happening-raises r w v (GivenUp g) = same-raised w v g.t g.s _ g.here (ap (λ u. u.targets) g.after) refl
happening-raises r w v (Draws g) = none-changed w v (ap (λ u. u.targets) g.after)

pub event-raises : AllEventsRaise
event-raises r w v e t z at = happening-raises r w e.u e.happens t z (ap (λ x. slice_get x.targets t) (sym e.after) ∙ at)

-- ---- and so at most

leaves-most : (r : Rules) {w u : World} (e : Happening r w u) (t n m : ℕ) → LeavesIncarnation r e t n m → m ≤ n + raised_by r e
leaves-most r (Opens g) t n m (inl k) = let is = k.1 in omega (arith, is)
leaves-most r (Opens g) t n m (inr k) = let is = k.1 in omega (arith, is)
leaves-most r (Fails g) t n m (inl k) = let is = k.1 in omega (arith, is)
leaves-most r (Fails g) t n m (inr is) = omega (arith, is)
leaves-most r (Plainly e up) t n m is = omega (arith, is)
leaves-most r (Further g) t n m is = omega (arith, is)
leaves-most r (IsCut g) t n m is = omega (arith, is)
leaves-most r (GivenUp g) t n m is = omega (arith, is)
leaves-most r (Draws g) t n m is = omega (arith, is)

pub event-raises_most : (r : Rules) (w v : World) (e : WorldEvent r w v) → RaisesAtMost (raised_by r e.happens) w v
event-raises_most r w v e t z at =
    let k = event-raises r w v e t z at in
    (k.0, k.1, leaves-most r e.happens t k.0.durable.incarnation z.durable.incarnation k.2)

pub raises-then : (m n k : ℕ) (w u v : World) → m + n ≤ k → RaisesAtMost m w u → RaisesAtMost n u v → RaisesAtMost k w v
raises-then m n k w u v sum one two t z at =
    let y = two t z at in
    let s = one t y.0 y.1 in
    let p = s.2 in let q = y.2 in
    (s.0, s.1, omega (arith, sum, p, q))

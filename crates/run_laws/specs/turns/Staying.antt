-- As many clients and targets are there after a turn as before, and targets that are given up stay so.
use Rattle.std.specs.Prelude.{ℕ, zero, suc, ◌≡◌, ◌<◌, Bool, true, List, [], ◌∷◌, length, slice_get, Option, Some, refl}
use Rattle.std.proofs.Common.{inl, inr, sym, ◌∙◌, ap, subst}
use Rattle.std.proofs.lemmas.List.{length-set}
use Rattle.std.proofs.lemmas.Option.{slice_get_within}
use Rattle.base_messages.specs.declared.actor.ActorId.{ActorId}
use Rattle.base_types.specs.declared.report.Line.{Line}
use Rattle.daos_model.specs.Stops.{after_all, lines_at}
use Rattle.model_laws.specs.Lists.{at-within}
use Rattle.run_laws.specs.turns.Keeping.{order-keeps}
use Rattle.run_laws.specs.turns.Orders.{InOrder}
use Rattle.run_laws.specs.turns.Turns.{Doing, GivingUp, Opening, TurnOf}
use Rattle.world_base.specs.declared.target.Life.{Life}
use Rattle.world_base.specs.declared.target.Life.TheVariants.{Down, Running, Stopped}
use Rattle.world_base.specs.declared.target.TargetState.{TargetState}
use Rattle.world_base.specs.declared.world.World.{World}
use Rattle.world_base.specs.Events.{ByClient, ByTarget, Event, Rules, ToClient, ToTarget}
use Rattle.world_base.specs.Stops.{Draws, Fails, Further, GivenUp, Happening, IsCut, Opens, Plainly, WorldEvent, is_down_at, is_given_up}
use Rattle.world_letters.specs.lives.Adding.{Adds}
use Rattle.world_letters.specs.lives.Events.{happening-adds}
use Rattle.world_letters.specs.lives.Lives.{standing_of}

-- as many clients and targets are there, and a target that was given up still is
pub record Stays (w v : World) : Type 0 where
  pub clients : length v.clients ≡ length w.clients
  pub targets : length v.targets ≡ length w.targets
  pub given_up : (t : ℕ) → is_down_at w.targets t ≡ true → is_down_at v.targets t ≡ true

-- ---- the statements

-- so it is over each event of a run, over each turn, and over a run in an order
abbrev pub EventsStay : Type 0
EventsStay = (r : Rules) (w v : World) → WorldEvent r w v → Stays w v

abbrev pub TurnsStay : Type 0
TurnsStay = (settling : Bool) (r : Rules) (a : ActorId) (k : ℕ) (w v : World) → TurnOf settling r a k w v → Stays w v

abbrev pub OrdersStay : Type 0
OrdersStay = (r : Rules) (order : ℕ) (w v : World) → InOrder r order w v → Stays w v

-- ---- targets

there : (ss : List TargetState) (t : ℕ) (s : TargetState) → slice_get ss t ≡ Some s → is_down_at ss t ≡ is_given_up s.life
there [] t s here = let no : ⊥ = cc in absurd no
there (y ∷ ss) zero s here = let same : y ≡ s = cc in ap (λ x. is_given_up x.life) same
there (y ∷ ss) (suc t) s here = there ss t s here

-- which target is given up
its : (ss : List TargetState) (t : ℕ) → is_down_at ss t ≡ true → (s : TargetState) × (slice_get ss t ≡ Some s)
its [] t down = let no : ⊥ = cc in absurd no
its (y ∷ ss) zero down = (y, refl)
its (y ∷ ss) (suc t) down = its ss t down

-- of one that is given up no line tells, and it stays so
ends-down : (l z : Life) (ls : List Line) → is_given_up l ≡ true → after_all (Some (standing_of l)) ls ≡ Some (standing_of z) → is_given_up z ≡ true
ends-down Running z ls down stands = let no : ⊥ = cc in absurd no
ends-down Stopped z ls down stands = let no : ⊥ = cc in absurd no
ends-down Down Running [] down stands = let no : ⊥ = cc in absurd no
ends-down Down Stopped [] down stands = let no : ⊥ = cc in absurd no
ends-down Down Down [] down stands = refl
ends-down Down z (l ∷ ls) down stands = let no : ⊥ = cc in absurd no

adds-down : (who : Option ℕ) (w v : World) → Adds who w v → (t : ℕ) → is_down_at w.targets t ≡ true → is_down_at v.targets t ≡ true
adds-down who w v a t down =
    let s = its w.targets t down in
    let z = at-within v.targets t (subst (λ n. t < n) (sym a.few) (slice_get_within w.targets t s.0 s.1)) in
    let x = a.targets t z.0 z.1 in
    there v.targets t z.0 z.1 ∙ ends-down x.0.life z.0.life (lines_at t a.more) (sym (there w.targets t x.0 x.1) ∙ down) x.2.stands

-- ---- clients

event-clients : (r : Rules) (w v : World) → Event r w v → length v.clients ≡ length w.clients
event-clients r w v (ByClient g) = ap (λ x. length x.clients) g.after ∙ length-set w.clients g.n g.d
event-clients r w v (ToClient g) = ap (λ x. length x.clients) g.after ∙ length-set w.clients g.n g.d
event-clients r w v (ToTarget g) = ap (λ x. length x.clients) g.after
event-clients r w v (ByTarget g) = ap (λ x. length x.clients) g.after

happening-clients : (r : Rules) (w v : World) → Happening r w v → length v.clients ≡ length w.clients
happening-clients r w v (Plainly e up) = event-clients r w v e
happening-clients r w v (Further g) = ap (λ x. length x.clients) g.hears.after
happening-clients r w v (IsCut g) = ap (λ x. length x.clients) g.after
happening-clients r w v (Opens g) = ap (λ x. length x.clients) g.after
happening-clients r w v (Fails g) = ap (λ x. length x.clients) g.after
happening-clients r w v (GivenUp g) = ap (λ x. length x.clients) g.after
happening-clients r w v (Draws g) = ap (λ x. length x.clients) g.after

-- ---- the laws

happening-stays : (r : Rules) (w v : World) → Happening r w v → Stays w v
happening-stays r w v e = elim (happening-adds r w v e) [
  | inl a ↦ record { clients = happening-clients r w v e; targets = a.few; given_up = adds-down _ w v a }
  | inr g ↦ record { clients = happening-clients r w v e; targets = ap (λ x. length x.targets) g.1.after; given_up = λ t down. ap (λ x. is_down_at x.targets t) g.1.after ∙ down }
]

pub events-stay : EventsStay
events-stay r w v e = let k = happening-stays r w e.u e.happens in record {
  clients = ap (λ x. length x.clients) e.after ∙ k.clients;
  targets = ap (λ x. length x.targets) e.after ∙ k.targets;
  given_up = λ t down. ap (λ x. is_down_at x.targets t) e.after ∙ k.given_up t down;
}

pub stays-then : (w u v : World) → Stays w u → Stays u v → Stays w v
stays-then w u v k l = record { clients = l.clients ∙ k.clients; targets = l.targets ∙ k.targets; given_up = λ t down. l.given_up t (k.given_up t down) }

pub turns-stay : TurnsStay
turns-stay settling r a k w v (Doing d plain) = events-stay r w v d.event
turns-stay settling r a k w v (Opening u n draws d by) = stays-then w u v (events-stay r w u n) (events-stay r u v d.event)
turns-stay settling r a k w v (GivingUp u d fault g up) = stays-then w u v (events-stay r w u d.event) (events-stay r u v g)

pub orders-stay : OrdersStay
orders-stay r order w v k =
    order-keeps r (Stays w) (λ settling a n u x t s. stays-then w u x s (turns-stay settling r a n u x t)) order w v k (record { clients = refl; targets = refl; given_up = λ t down. down })

-- An event leaves all actors as they are but the one who acts in it.
use Rattle.std.specs.Prelude.{ℕ, ◌≡◌, length, slice_get, Option, Some, None}
use Rattle.std.proofs.Common.{sym, ◌∙◌, ap, subst}
use Rattle.std.proofs.Math.ListN.{set}
use Rattle.std.proofs.lemmas.List.{length-set}
use Rattle.base_messages.specs.declared.actor.ActorId.{ActorId}
use Rattle.world_base.specs.declared.client.ClientState.{ClientState}
use Rattle.world_base.specs.declared.target.TargetState.{TargetState}
use Rattle.world_base.specs.declared.world.World.{World}
use Rattle.world_base.specs.Events.{ByClient, ByTarget, Event, Rules, ToClient, ToTarget}
use Rattle.world_base.specs.Letters.{client, target}
use Rattle.world_base.specs.StepLaws.{set-there}
use Rattle.world_base.specs.Stops.{Draws, Fails, Further, GivenUp, Happening, IsCut, Opens, Plainly, WorldEvent, acts, acts_plainly, swept}

-- all actors stay as they are but this one, and there are as many of each kind
pub record SparesOthers (who : Option ActorId) (w v : World) : Type 0 where
  pub many_targets : length v.targets ≡ length w.targets
  pub many_clients : length v.clients ≡ length w.clients
  pub targets : (t : ℕ) → (who ≡ Some (target t) → ⊥) → slice_get v.targets t ≡ slice_get w.targets t
  pub clients : (n : ℕ) → (who ≡ Some (client n) → ⊥) → slice_get v.clients n ≡ slice_get w.clients n

-- one target became another
by-target : (w v : World) (t : ℕ) (z : TargetState) → v.targets ≡ set w.targets t z → v.clients ≡ w.clients → SparesOthers (Some (target t)) w v
by-target w v t z changed same = record {
  many_targets = ap length changed ∙ length-set w.targets t z;
  many_clients = ap length same;
  targets = λ u other. ap (λ xs. slice_get xs u) changed ∙ set-there w.targets t u z (λ is. other (ap (λ n. Some (target n)) (sym is)));
  clients = λ n other. ap (λ xs. slice_get xs n) same;
}

-- one client became another
by-client : (w v : World) (n : ℕ) (d : ClientState) → v.clients ≡ set w.clients n d → v.targets ≡ w.targets → SparesOthers (Some (client n)) w v
by-client w v n d changed same = record {
  many_targets = ap length same;
  many_clients = ap length changed ∙ length-set w.clients n d;
  targets = λ t other. ap (λ xs. slice_get xs t) same;
  clients = λ m other. ap (λ xs. slice_get xs m) changed ∙ set-there w.clients n m d (λ is. other (ap (λ k. Some (client k)) (sym is)));
}

by-nobody : (w v : World) → v.targets ≡ w.targets → v.clients ≡ w.clients → SparesOthers None w v
by-nobody w v targets clients = record {
  many_targets = ap length targets;
  many_clients = ap length clients;
  targets = λ t other. ap (λ xs. slice_get xs t) targets;
  clients = λ n other. ap (λ xs. slice_get xs n) clients;
}

plain-spares : (r : Rules) (w v : World) (e : Event r w v) → SparesOthers (Some (acts_plainly r e)) w v
plain-spares r w v (ByClient g) = by-client w v g.n g.d (ap (λ x. x.clients) g.after) (ap (λ x. x.targets) g.after)
plain-spares r w v (ToClient g) = by-client w v g.n g.d (ap (λ x. x.clients) g.after) (ap (λ x. x.targets) g.after)
plain-spares r w v (ToTarget g) = by-target w v g.t _ (ap (λ x. x.targets) g.after) (ap (λ x. x.clients) g.after)
plain-spares r w v (ByTarget g) = by-target w v g.t _ (ap (λ x. x.targets) g.after) (ap (λ x. x.clients) g.after)

happening-spares : (r : Rules) (w v : World) (e : Happening r w v) → SparesOthers (acts r e) w v
happening-spares r w v (Plainly e up) = plain-spares r w v e
happening-spares r w v (Further g) = by-target w v g.hears.t _ (ap (λ x. x.targets) g.hears.after) (ap (λ x. x.clients) g.hears.after)
happening-spares r w v (IsCut g) = by-target w v g.t _ (ap (λ x. x.targets) g.after) (ap (λ x. x.clients) g.after)
happening-spares r w v (Opens g) = by-target w v g.t _ (ap (λ x. x.targets) g.after) (ap (λ x. x.clients) g.after)
happening-spares r w v (Fails g) = by-target w v g.t _ (ap (λ x. x.targets) g.after) (ap (λ x. x.clients) g.after)
happening-spares r w v (GivenUp g) = by-target w v g.t _ (ap (λ x. x.targets) g.after) (ap (λ x. x.clients) g.after)
happening-spares r w v (Draws g) = by-nobody w v (ap (λ x. x.targets) g.after) (ap (λ x. x.clients) g.after)

pub event-spares : (r : Rules) (w v : World) (e : WorldEvent r w v) → SparesOthers (acts r e.happens) w v
event-spares r w v e = subst (SparesOthers (acts r e.happens) w) (sym e.after) (swept-spares e.u (happening-spares r w e.u e.happens))
  where
    swept-spares : (u : World) → SparesOthers (acts r e.happens) w u → SparesOthers (acts r e.happens) w (swept u)
    swept-spares u k = record { many_targets = k.many_targets; many_clients = k.many_clients; targets = k.targets; clients = k.clients }

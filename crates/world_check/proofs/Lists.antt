-- A list of events, event by event.
use Rattle.std.proofs.Common.{ℕ, suc, zero, ◌≡◌, ◌<◌, ◌≤◌, ◌+◌, sym, ◌∙◌, ap, subst, Bool, false, List, [], ◌∷◌, length, take, drop, get_or, arith}
use Rattle.std.specs.Bool.{Decides}
use Rattle.daos_model.specs.BoolLaws.{clash}
use Rattle.replay_base.specs.Onward.{Iff}
use Rattle.std.proofs.Math.ListN.{drop_of_length-le}
use Rattle.model_laws.specs.Lists.{drop-item}
use Rattle.world_base.specs.declared.world.World.{World}
use Rattle.world_base.specs.Events.{Rules}
use Rattle.world_list.specs.RunLists.{IsRunFrom, LeadsTo, last_world}
use Rattle.world_list.specs.declared.events.Event.{Event}

last_next : (w : World) (es : List Event) (i : ℕ) (e : Event) → i < length es → e ≡ get_or es i e → last_world w (take (suc i) es) ≡ e.after
last_next w [] i e lt is = let bad : ⊥ = omega (arith, lt) in absurd bad
last_next w (x ∷ es) zero e lt is = sym (ap (λ y. y.after) is)
last_next w (x ∷ es) (suc i) e lt is = last_next x.after es i e (omega arith) is

-- the world after one event more
pub last_more : (w : World) (es : List Event) (i : ℕ) (e : Event) → i < length es → e ≡ get_or es i e → last_world w (take (i + 1) es) ≡ e.after
last_more w es i e lt is = (let next : i + 1 ≡ suc i = omega arith in ap (λ k. last_world w (take k es)) next ∙ last_next w es i e lt is)

module _ (r : Rules) (start w : World) (list : List Event) (i : ℕ) (e : Event) (lt : i < length list) (is : e ≡ get_or list i e) where
  abbrev Rest : Type 0
  Rest = IsRunFrom r w (drop i list)

  here : Rest → LeadsTo r w e.kind e.actor e.heard e.after × IsRunFrom r e.after (drop (i + 1) list)
  here h = subst (IsRunFrom r w) (drop-item list i e lt is) h

  back : LeadsTo r w e.kind e.actor e.heard e.after × IsRunFrom r e.after (drop (i + 1) list) → Rest
  back h = subst (IsRunFrom r w) (sym (drop-item list i e lt is)) h

  -- the event leads on, so that the rest is what counts
  pub leads_on : (next : World) → next ≡ e.after → LeadsTo r w e.kind e.actor e.heard e.after → Iff (IsRunFrom r start list) Rest → Iff (IsRunFrom r start list) (IsRunFrom r next (drop (i + 1) list))
  leads_on next same leads so = (
    λ h. subst (λ x. IsRunFrom r x (drop (i + 1) list)) (sym same) (here (so.0 h)).1,
    λ rest. so.1 (back (leads, subst (λ x. IsRunFrom r x (drop (i + 1) list)) same rest)),
  )

  -- or it doesn't
  pub leads_not : (test : Bool) → Decides test (LeadsTo r w e.kind e.actor e.heard e.after) → test ≡ false → Iff (IsRunFrom r start list) Rest → IsRunFrom r start list → ⊥
  leads_not test same bad so h = clash test (same.1 (here (so.0 h)).0) bad

-- none is left
pub at_end : (r : Rules) (start w : World) (list : List Event) (i : ℕ) → length list ≤ i → Iff (IsRunFrom r start list) (IsRunFrom r w (drop i list)) → IsRunFrom r start list
at_end r start w list i le so = so.1 (subst (IsRunFrom r w) (sym (drop_of_length-le list le)) tt)

-- ---- as the code goes through a list

module _ (r : Rules) (start : World) (list list' : List Event) (i : ℕ) (e : Event) (w : World) (same : list' ≡ list) (lt : i < length list') (is : e ≡ get_or list' i e) (at : w ≡ last_world start (take i list)) where
  within : i < length list
  within = subst (λ xs. i < length xs) same lt

  item : e ≡ get_or list i e
  item = subst (λ xs. e ≡ get_or xs i e) same is

  pub event_not : (test : Bool) → Decides test (LeadsTo r w e.kind e.actor e.heard e.after) → test ≡ false → Iff (IsRunFrom r start list) (IsRunFrom r (last_world start (take i list)) (drop i list)) → IsRunFrom r start list → ⊥
  event_not test leads bad so = leads_not r start (last_world start (take i list)) list i e within item test (subst (λ x. Decides test (LeadsTo r x e.kind e.actor e.heard e.after)) at leads) bad so

  pub event_on : LeadsTo r w e.kind e.actor e.heard e.after → Iff (IsRunFrom r start list) (IsRunFrom r (last_world start (take i list)) (drop i list))
      → Iff (IsRunFrom r start list) (IsRunFrom r (last_world start (take (i + 1) list)) (drop (i + 1) list))
  event_on leads so =
      leads_on r start (last_world start (take i list)) list i e within item (last_world start (take (i + 1) list)) (last_more start list i e within item) (subst (λ x. LeadsTo r x e.kind e.actor e.heard e.after) at leads) so

  pub places_on : (P : World → Type 0) → P e.after → P (last_world start (take (i + 1) list))
  places_on P p = subst P (sym (last_more start list i e within item)) p

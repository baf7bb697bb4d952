-- Which kind of turn an event is, and whose clients stay in their places.
use Rattle.std.proofs.Common.{ℕ, ◌≡◌, ◌<◌, ◌+◌, sym, ◌∙◌, ap, subst, Bool, true, false, ◌⊎◌, inl, inr, List, Some, None, length, take, get_or, slice_get}
use Rattle.std.specs.Bool.{Decides}
use Rattle.base_messages.specs.declared.actor.ActorId.{ActorId}
use Rattle.daos_model.specs.BoolLaws.{clash}
use Rattle.world_base.specs.declared.letter.Letter.{Letter}
use Rattle.world_base.specs.declared.world.World.{World}
use Rattle.world_base.specs.Events.{Rules}
use Rattle.world_list.specs.Fitting.{AreInPlace}
use Rattle.world_list.specs.RunLists.{ClientHearsAs, GoesAs, IdlesAs, LeadsTo, TargetHearsAs, last_world}
use Rattle.world_list.specs.declared.events.Event.{Event}
use Rattle.world_list.specs.declared.events.EventKind.TheVariants.{Hear, GoOn, Idle}
use Rattle.world_check.proofs.Lists.{last_more}

module _ (r : Rules) (w v : World) (a : ActorId) (l : Letter) where
  pub to_client : (test : Bool) → a.client ≡ true → Decides test (ClientHearsAs r w a l v) → Decides test (ClientHearsAs r w a l v ⊎ TargetHearsAs r w a l v)
  to_client test is same = (λ h. inl (same.0 h), by)
    where
      by : ClientHearsAs r w a l v ⊎ TargetHearsAs r w a l v → test ≡ true
      by (inl h) = same.1 h
      by (inr h) = clash a.client is (ap (λ b. b.client) h.by)

  pub to_target : (test : Bool) → a.client ≡ false → Decides test (TargetHearsAs r w a l v) → Decides test (ClientHearsAs r w a l v ⊎ TargetHearsAs r w a l v)
  to_target test is same = (λ h. inr (same.0 h), by)
    where
      by : ClientHearsAs r w a l v ⊎ TargetHearsAs r w a l v → test ≡ true
      by (inl h) = clash a.client (ap (λ b. b.client) h.by) is
      by (inr h) = same.1 h

clients_stay : (r : Rules) (w v : World) → v.clients ≡ w.clients → AreInPlace r w → AreInPlace r v
clients_stay r w v same before n c at = before n c (sym (ap (λ cs. slice_get cs n) same) ∙ at)

pub target_places : (r : Rules) (w v : World) (a : ActorId) (l : Letter) → AreInPlace r w → TargetHearsAs r w a l v → AreInPlace r v
target_places r w v a l before h = clients_stay r w v (ap (λ x. x.clients) h.event.after) before

pub idle_places : (r : Rules) (w v : World) (a : ActorId) → AreInPlace r w → IdlesAs r w a v → AreInPlace r v
idle_places r w v a before h = clients_stay r w v (ap (λ x. x.clients) h.event.after) before

-- ---- an event by its kind

module _ (r : Rules) (w : World) (e : Event) where
  pub led_hear : (l : Letter) (test : Bool) → e.kind ≡ Hear → e.heard ≡ Some l → Decides test (ClientHearsAs r w e.actor l e.after ⊎ TargetHearsAs r w e.actor l e.after) → Decides test (LeadsTo r w e.kind e.actor e.heard e.after)
  led_hear l test kind heard same = subst (λ k. Decides test (LeadsTo r w k e.actor e.heard e.after)) (sym kind) (subst (λ h. Decides test (LeadsTo r w Hear e.actor h e.after)) (sym heard) same)

  pub led_goes : (test : Bool) → e.kind ≡ GoOn → e.heard ≡ None → Decides test (GoesAs r w e.actor e.after) → Decides test (LeadsTo r w e.kind e.actor e.heard e.after)
  led_goes test kind heard same = subst (λ k. Decides test (LeadsTo r w k e.actor e.heard e.after)) (sym kind) (subst (λ h. Decides test (LeadsTo r w GoOn e.actor h e.after)) (sym heard) same)

  pub led_idles : (test : Bool) → e.kind ≡ Idle → e.heard ≡ None → Decides test (IdlesAs r w e.actor e.after) → Decides test (LeadsTo r w e.kind e.actor e.heard e.after)
  led_idles test kind heard same = subst (λ k. Decides test (LeadsTo r w k e.actor e.heard e.after)) (sym kind) (subst (λ h. Decides test (LeadsTo r w Idle e.actor h e.after)) (sym heard) same)

-- ---- the world before an event

pub before_first : (start : World) (list : List Event) (i : ℕ) → i ≡ 0 → start ≡ last_world start (take i list)
before_first start list i is = ap (λ k. last_world start (take k list)) (sym is)

pub before_next : (start : World) (list list' : List Event) (i j : ℕ) (e : Event) → list' ≡ list → j + 1 ≡ i → j < length list' → e ≡ get_or list' j e → e.after ≡ last_world start (take i list)
before_next start list list' i j e same next lt is =
    sym (last_more start list j e (subst (λ xs. j < length xs) same lt) (subst (λ xs. e ≡ get_or xs j e) same is)) ∙ ap (λ k. last_world start (take k list)) next

-- How turns join to rounds, draws and orders, with their faults and the events that they add to a run.
use Rattle.std.specs.Prelude.{ℕ, ◌≡◌, ◌+◌, ◌++◌, ◌∷◌, ◌%◌, Bool, true, false, List, [], length, slice_get, Some, refl}
use Rattle.std.proofs.Common.{◌∙◌, ap, subst, arith}
use Rattle.std.proofs.Math.Path.{path_j, subst_refl, sym_refl}
use Rattle.base_messages.specs.declared.actor.ActorId.{ActorId}
use Rattle.base_random.specs.Draws.{drawn}
use Rattle.run_base.specs.Picks.{after_pick, pick}
use Rattle.run_base.specs.Picks.{actors, due, is_due}
use Rattle.run_laws.specs.steps.Going.{IsBothWays, IsNoWay, IsWayAs}
use Rattle.run_laws.specs.steps.Ways.{all_from_draw, all_rounds, from_draw, in_order, round_of, some_rounds, turn_of, turned, turns_run}
use Rattle.run_laws.specs.turns.Faults.{count-same, fault_by, faults_in_draws, faults_in_turn, once_for}
use Rattle.run_laws.specs.turns.Keeping.{draws-keep, in_turn-keeps, one-keeps, order-keeps, rounds-keep}
use Rattle.run_laws.specs.turns.OrderLaws.{turn-goes}
use Rattle.run_laws.specs.turns.Orders.{AndThen, ByDraws, ByRounds, Draws, HasIt, HasNone, InDraws, InRounds, InTurn, NoDraw, NoRound, Nobody, OneDraw, OneRound, RoundOf, Rounds}
use Rattle.run_laws.specs.turns.Turns.{TurnOf, heard_in}
use Rattle.world_base.specs.declared.world.World.{World}
use Rattle.world_base.specs.Events.{Rules}
use Rattle.world_base.specs.Stops.{WorldRun}

-- what is made of what stands for one thing is what is made of what stands for another, which is the same
value-same : {A B : Type 0} (P : A → Type 0) (value : (x : A) → P x → B) {x y : A} (same : x ≡ y) (p : P x) → value y (subst P same p) ≡ value x p
value-same P value {x = x} same p = path_j (λ z q. value z (subst P q p) ≡ value x p) (ap (value x) (subst_refl P p)) same

module _ (settling : Bool) (r : Rules) where
  -- ---- a round

  pub nobody-way : (w : World) → IsNoWay (turned settling []) r w
  unfolding in_turn-keeps
  nobody-way w = (Nobody, λ t. refl, λ u run. refl)

  -- one more has its turn, or has none
  module _ (before : List ActorId) (actor : ActorId) (w u : World) (p : InTurn settling r w before u) where
    pub had-turn-way : (v : World) (q : TurnOf settling r actor 0 u v) → is_due settling r u actor ≡ true → IsBothWays (turned settling before) (turn_of settling actor 0) (turned settling (before ++ actor ∷ [])) r w u v p q
    unfolding in_turn-keeps one-keeps
    had-turn-way v q is = (AndThen before actor u v p (HasIt is q), λ t. refl, λ z run. refl)

    pub had-none-way : is_due settling r u actor ≡ false → IsWayAs (turned settling before) (turned settling (before ++ actor ∷ [])) r w u p
    unfolding in_turn-keeps one-keeps
    had-none-way is = (AndThen before actor u u p (HasNone is refl), λ t. omega arith, λ z run. let k = in_turn-keeps r (WorldRun r z) (turns_run r z) settling w before u p run in ap (λ e. subst (WorldRun r z) e k) sym_refl ∙ subst_refl (WorldRun r z) k)

  -- all had their turns
  pub round-way : (w u : World) (all : List ActorId) (same : all ≡ actors w) (p : InTurn settling r w all u) → IsWayAs (turned settling all) (round_of settling) r w u p
  round-way w u all same p = (
    subst (λ as'. InTurn settling r w as' u) same p,
    λ t. count-same (λ as'. InTurn settling r w as' u) (λ as' k. faults_in_turn t k) same p,
    λ z run. value-same (λ as'. InTurn settling r w as' u) (λ as' k. in_turn-keeps r (WorldRun r z) (turns_run r z) settling w as' u k run) same p,
  )

  -- ---- rounds

  pub no-rounds-way : (w : World) → IsNoWay (some_rounds settling) r w
  unfolding rounds-keep
  no-rounds-way w = (NoRound, λ t. refl, λ u run. refl)

  pub more-rounds-way : (w u v : World) (p : Rounds settling r w u) (q : RoundOf settling r u v) → (due settling r u ≡ [] → ⊥) → IsBothWays (some_rounds settling) (round_of settling) (some_rounds settling) r w u v p q
  unfolding rounds-keep
  more-rounds-way w u v p q some = (OneRound u v p some q, λ t. refl, λ z run. refl)

  pub all-rounds-way : (w u : World) (p : Rounds settling r w u) → due settling r u ≡ [] → IsWayAs (some_rounds settling) (all_rounds settling) r w u p
  all-rounds-way w u p over = (record { rounds = p; over = over }, λ t. refl, λ z run. refl)

  -- ---- draws

  pub no-draws-way : (x : ℕ) (w : World) → IsNoWay (from_draw settling x x) r w
  unfolding draws-keep
  no-draws-way x w = (NoDraw, λ t. refl, λ u run. refl)

  pub more-draws-way : (x0 x y message : ℕ) (actor : ActorId) (w u v : World) (p : Draws settling r x0 w x u) (q : TurnOf settling r actor message u v) → slice_get (due settling r u) (drawn x % length (due settling r u)) ≡ Some actor → message ≡ pick (drawn x) (heard_in u actor) → y ≡ after_pick (drawn x) (heard_in u actor)
      → IsBothWays (from_draw settling x0 x) (turn_of settling actor message) (from_draw settling x0 y) r w u v p q
  unfolding draws-keep
  more-draws-way x0 x y message actor w u v p q its number last = (
    OneDraw x y u v p (record { actor = actor; its = its; turn = subst (λ j. TurnOf settling r actor j u v) number q; last = last }),
    λ t. ap (λ n. faults_in_draws t p + n) (count-same (λ j. TurnOf settling r actor j u v) (λ j turn. once_for (fault_by turn) t) number q),
    λ z run. value-same (λ j. TurnOf settling r actor j u v) (λ j turn. turn-goes settling r actor j z u v turn (draws-keep r (WorldRun r z) (turns_run r z) settling x0 w x u p run)) number q,
  )

  pub all-draws-way : (x0 x : ℕ) (w u : World) (p : Draws settling r x0 w x u) → due settling r u ≡ [] → IsWayAs (from_draw settling x0 x) (all_from_draw settling x0 x) r w u p
  all-draws-way x0 x w u p over = (record { draws = p; over = over }, λ t. refl, λ z run. refl)

-- ---- orders

pub rounds-order-way : (r : Rules) (order : ℕ) (w u v : World) (p : InRounds false r w u) (q : InRounds true r u v) → order ≡ 0 → IsBothWays (all_rounds false) (all_rounds true) (in_order order) r w u v p q
unfolding order-keeps
rounds-order-way r order w u v p q is = (ByRounds is u p q, λ t. refl, λ z run. refl)

pub draws-order-way : (r : Rules) (order x y : ℕ) (w u v : World) (p : InDraws false r order w x u) (q : InDraws true r x u y v) → (order ≡ 0 → ⊥) → IsBothWays (all_from_draw false order x) (all_from_draw true x y) (in_order order) r w u v p q
unfolding order-keeps
draws-order-way r order x y w u v p q is = (ByDraws is x y u p q, λ t. refl, λ z run. refl)

-- A run in an order is determined: by the order, by the readings of its clocks, and by what its turns leave open.
use Rattle.std.specs.Prelude.{ℕ, ◌≡◌, ◌<◌, ◌⊎◌, Bool, true, false, List, [], ◌∷◌, map}
use Rattle.std.proofs.Common.{inl, inr, sym, ◌∙◌, ap, subst₂, arith, refl}
use Rattle.std.proofs.lemmas.Bool.{cases_order}
use Rattle.base_types.specs.declared.outcome.Outcome.{Outcome}
use Rattle.daos_model.specs.Opening.{Opening}
use Rattle.run_base.specs.Picks.{due}
use Rattle.run_determined.specs.Agreeing.{GoAlike, alike-turned}
use Rattle.run_determined.specs.Draws.{AreDrawnBeside, draws-beside, draws-over, turns_of}
use Rattle.run_determined.specs.Growing.{Agree, AreSideBySide, AreWhole, GoesFurther, IsWhole, Lefts, NothingFails, agree-earlier, draws-further, further-then, rounds-further}
use Rattle.run_determined.specs.Knowing.{IsSettledBy, runs-are_settled}
use Rattle.run_determined.specs.Leaving.{Fault, LeftOpen, Told, TurnLeft, left_in, one_more_left}
use Rattle.run_determined.specs.Rounds.{rounds-beside, rounds-over, rounds_of}
use Rattle.run_laws.specs.shows.Beginning.{RunBegins}
use Rattle.run_laws.specs.steps.Ways.{turns_run}
use Rattle.run_laws.specs.turns.Keeping.{draws-keep, order-keeps, rounds-keep}
use Rattle.run_laws.specs.turns.OrderLaws.{orders-are-runs}
use Rattle.run_laws.specs.turns.Orders.{ByDraws, ByRounds, Draws, InOrder, Rounds}
use Rattle.run_laws.specs.turns.Readings.{readings_of}
use Rattle.world_base.specs.declared.world.World.{World}
use Rattle.world_base.specs.Events.{Rules}
use Rattle.world_base.specs.Stops.{Begins, WorldRun}
use Rattle.world_determined.specs.Worlds.{SameButFree}

-- ---- the statements

-- as far as both runs go, each target's clock gave the same
abbrev pub ReadTheSame : {r : Rules} {order : ℕ} {w v w' v' : World} → InOrder r order w w' → InOrder r order v v' → Type 0
ReadTheSame {r = r} {order = order} {w = w} {v = v} {w' = w'} {v' = v'} k l = (t : ℕ) → GoAlike (readings_of t (orders-are-runs r order w w' k)) (readings_of t (orders-are-runs r order v v' l))

-- as far as both go, their turns leave the same open
abbrev pub LeaveTheSame : {r : Rules} {order : ℕ} {w v w' v' : World} → InOrder r order w w' → InOrder r order v v' → Type 0
LeaveTheSame {r = r} {order = order} {w = w} {v = v} {w' = w'} {v' = v'} k l = GoAlike (left_in r order w w' k) (left_in r order v v' l)

-- Two runs come to worlds that are the same but for free blocks, and each target's clock gave the same in both.
pub record AreOneRun {r : Rules} {order : ℕ} {w v w' v' : World} (k : InOrder r order w w') (l : InOrder r order v v') : Type 0 where
  pub same : SameButFree w' v'
  pub readings : (t : ℕ) → readings_of t (orders-are-runs r order w w' k) ≡ readings_of t (orders-are-runs r order v v' l)

-- Two runs in one order, from their beginnings, which are the same but for free blocks, are one, where their clocks gave the same and their turns
-- left the same open, as far as both go.
abbrev pub OrdersAreOne : Type 0
OrdersAreOne =
    (r : Rules) (o p : Opening) (order : ℕ) (w v w' v' : World) (k : InOrder r order w w') (l : InOrder r order v v') → RunBegins r o w → RunBegins r p v → SameButFree w v → ReadTheSame k l → LeaveTheSame k l → AreOneRun k l

-- ---- side by side to the end

module _ (r : Rules) (first start : World) (facts : (x : World) → WorldRun r first x → IsSettledBy r x) (others : (x : World) → WorldRun r start x → IsSettledBy r x) where
  beside-turned : (w v : World) (run : WorldRun r first w) (next : WorldRun r start v) (ls ms : List TurnLeft) → AreSideBySide run next ls ms → AreSideBySide next run ms ls
  beside-turned w v run next ls ms s = record { same = sym s.same; readings = λ t. sym (s.readings t); left = sym s.left }

  agree-turned : (w v : World) (run : WorldRun r first w) (next : WorldRun r start v) (ls ms : List TurnLeft) → Agree run next ls ms → Agree next run ms ls
  agree-turned w v run next ls ms k = record { readings = λ t. alike-turned (readings_of t run) (readings_of t next) (k.readings t); left = alike-turned ls ms k.left }

  all-rounds : (settling : Bool) (w v w' v' : World) (k : Rounds settling r w w') (l : Rounds settling r v v') (run : WorldRun r first w) (next : WorldRun r start v) (ls ms : List TurnLeft) → due settling r w' ≡ [] → due settling r v' ≡ [] → AreSideBySide run next ls ms
      → Agree (rounds-keep r (WorldRun r first) (turns_run r first) settling w w' k run) (rounds-keep r (WorldRun r start) (turns_run r start) settling v v' l next)
      (rounds-keep r (Lefts r first) (one_more_left r) settling w w' k ls) (rounds-keep r (Lefts r start) (one_more_left r) settling v v' l ms)
      → AreSideBySide (rounds-keep r (WorldRun r first) (turns_run r first) settling w w' k run) (rounds-keep r (WorldRun r start) (turns_run r start) settling v v' l next)
      (rounds-keep r (Lefts r first) (one_more_left r) settling w w' k ls) (rounds-keep r (Lefts r start) (one_more_left r) settling v v' l ms)
  all-rounds settling w v w' v' k l run next ls ms over over' s agree = elim (cases_order (rounds_of k) (rounds_of l)) [
    | inl many ↦ rounds-beside r first start facts settling w v w' v' k l run next ls ms many s agree
    | inr other ↦ elim other [
      | inl less ↦ absurd (rounds-over r first start facts settling w v w' v' k l run next ls ms less s agree over)
      | inr more ↦ absurd (rounds-over r start first others settling v w v' w' l k next run ms ls more (beside-turned w v run next ls ms s) (agree-turned w' v' _ _ _ _ agree) over')
    ]
  ]

  all-draws : (settling : Bool) (x z : ℕ) (w v : World) (y u : ℕ) (w' v' : World) (k : Draws settling r x w y w') (l : Draws settling r z v u v') (run : WorldRun r first w) (next : WorldRun r start v) (ls ms : List TurnLeft) → due settling r w' ≡ [] → due settling r v' ≡ []
      → x ≡ z → AreSideBySide run next ls ms
      → Agree (draws-keep r (WorldRun r first) (turns_run r first) settling x w y w' k run) (draws-keep r (WorldRun r start) (turns_run r start) settling z v u v' l next)
      (draws-keep r (Lefts r first) (one_more_left r) settling x w y w' k ls) (draws-keep r (Lefts r start) (one_more_left r) settling z v u v' l ms)
      → AreDrawnBeside y u (draws-keep r (WorldRun r first) (turns_run r first) settling x w y w' k run) (draws-keep r (WorldRun r start) (turns_run r start) settling z v u v' l next)
      (draws-keep r (Lefts r first) (one_more_left r) settling x w y w' k ls) (draws-keep r (Lefts r start) (one_more_left r) settling z v u v' l ms)
  all-draws settling x z w v y u w' v' k l run next ls ms over over' number s agree = elim (cases_order (turns_of k) (turns_of l)) [
    | inl many ↦ draws-beside r first start facts settling x z w v y u w' v' k l run next ls ms many number s agree
    | inr other ↦ elim other [
      | inl less ↦ absurd (draws-over r first start facts settling x z w v y u w' v' k l run next ls ms less number s agree over)
      | inr more ↦ absurd (draws-over r start first others settling z x v w u y v' w' l k next run ms ls more (sym number) (beside-turned w v run next ls ms s) (agree-turned w' v' _ _ _ _ agree) over')
    ]
  ]

  order-beside : (order : ℕ) (w v w' v' : World) (k : InOrder r order w w') (l : InOrder r order v v') (run : WorldRun r first w) (next : WorldRun r start v) (ls ms : List TurnLeft) → AreSideBySide run next ls ms
      → Agree (order-keeps r (WorldRun r first) (turns_run r first) order w w' k run) (order-keeps r (WorldRun r start) (turns_run r start) order v v' l next)
      (order-keeps r (Lefts r first) (one_more_left r) order w w' k ls) (order-keeps r (Lefts r start) (one_more_left r) order v v' l ms)
      → AreSideBySide (order-keeps r (WorldRun r first) (turns_run r first) order w w' k run) (order-keeps r (WorldRun r start) (turns_run r start) order v v' l next)
      (order-keeps r (Lefts r first) (one_more_left r) order w w' k ls) (order-keeps r (Lefts r start) (one_more_left r) order v v' l ms)
  unfolding order-keeps
  order-beside order w v w' v' (ByRounds is u k l) (ByRounds is' x m n) run next ls ms s agree =
      let mid = rounds-keep r (WorldRun r first) (turns_run r first) false w u k.rounds run in
      let half = rounds-keep r (WorldRun r start) (turns_run r start) false v x m.rounds next in
      let left = rounds-keep r (Lefts r first) (one_more_left r) false w u k.rounds ls in
      let right = rounds-keep r (Lefts r start) (one_more_left r) false v x m.rounds ms in
      all-rounds true u x w' v' l.rounds n.rounds mid half left right l.over n.over
      (all-rounds false w v u x k.rounds m.rounds run next ls ms k.over m.over s
      (agree-earlier r first start u w' x v' mid _ half _ left _ right _ (rounds-further r first true u w' l.rounds mid left) (rounds-further r start true x v' n.rounds half right) agree)) agree
  order-beside order w v w' v' (ByDraws is a b u k l) (ByDraws is' c d x m n) run next ls ms s agree =
      let mid = draws-keep r (WorldRun r first) (turns_run r first) false order w a u k.draws run in
      let half = draws-keep r (WorldRun r start) (turns_run r start) false order v c x m.draws next in
      let left = draws-keep r (Lefts r first) (one_more_left r) false order w a u k.draws ls in
      let right = draws-keep r (Lefts r start) (one_more_left r) false order v c x m.draws ms in
      let before = all-draws false order order w v a c u x k.draws m.draws run next ls ms k.over m.over refl s
      (agree-earlier r first start u w' x v' mid _ half _ left _ right _ (draws-further r first true a u b w' l.draws mid left) (draws-further r start true c x d v' n.draws half right) agree) in
      (all-draws true a c u x b d w' v' l.draws n.draws mid half left right l.over n.over before.last before.beside agree).beside
  order-beside order w v w' v' (ByRounds is u k l) (ByDraws is' c d x m n) run next ls ms s agree = absurd (is' is)
  order-beside order w v w' v' (ByDraws is a b u k l) (ByRounds is' x m n) run next ls ms s agree = absurd (is is')

pub orders-are_one : OrdersAreOne
unfolding orders-are-runs
orders-are_one r o p order w v w' v' k l begins begins' same reads leaves =
    let s = order-beside r w v (λ x run. runs-are_settled r o w x begins run) (λ x run. runs-are_settled r p v x begins' run) order w v w' v' k l Begins Begins [] []
    (record { same = same; readings = λ t. refl; left = refl }) (record { readings = reads; left = leaves }) in
    record { same = s.same; readings = s.readings }

-- ---- where nothing fails

-- no turn is cut in a run in an order, and no opening fails
abbrev pub NeverFails : {r : Rules} {order : ℕ} {w v : World} → InOrder r order w v → Type 0
NeverFails {r = r} {order = order} {w = w} {v = v} k = NothingFails (orders-are-runs r order w v k)

-- what a turn tells of later reads, and of want of space
abbrev told_left : LeftOpen → List Outcome
told_left (Told told) = told
told_left (Fault at) = []

abbrev told_by : TurnLeft → List Outcome
told_by l = told_left l.left

-- what the turns of a run in an order tell of later reads that they show, and of want of space, one after another
abbrev pub told_in : (r : Rules) (order : ℕ) (w v : World) → InOrder r order w v → List (List Outcome)
told_in r order w v k = map told_by (left_in r order w v k)

-- as far as both go, their turns tell the same of later reads and of space
abbrev pub TellTheSame : {r : Rules} {order : ℕ} {w v w' v' : World} → InOrder r order w w' → InOrder r order v v' → Type 0
TellTheSame {r = r} {order = order} {w = w} {v = v} {w' = w'} {v' = v'} k l = GoAlike (told_in r order w w' k) (told_in r order v v' l)

-- Two runs in which nothing fails leave no more open than that.
abbrev pub UnfailedLeaveTold : Type 0
UnfailedLeaveTold = (r : Rules) (order : ℕ) (w v w' v' : World) (k : InOrder r order w w') (l : InOrder r order v v') → NeverFails k → NeverFails l → TellTheSame k l → LeaveTheSame k l

module _ (r : Rules) (first : World) where
  order-further : (order : ℕ) (w v : World) (k : InOrder r order w v) (run : WorldRun r first w) (ls : List TurnLeft)
      → GoesFurther run (order-keeps r (WorldRun r first) (turns_run r first) order w v k run) ls (order-keeps r (Lefts r first) (one_more_left r) order w v k ls)
  unfolding order-keeps
  order-further order w v (ByRounds is u k l) run ls =
      let mid = rounds-keep r (WorldRun r first) (turns_run r first) false w u k.rounds run in
      let left = rounds-keep r (Lefts r first) (one_more_left r) false w u k.rounds ls in
      further-then r first w u v run mid _ ls left _ (rounds-further r first false w u k.rounds run ls) (rounds-further r first true u v l.rounds mid left)
  order-further order w v (ByDraws is x y u k l) run ls =
      let mid = draws-keep r (WorldRun r first) (turns_run r first) false order w x u k.draws run in
      let left = draws-keep r (Lefts r first) (one_more_left r) false order w x u k.draws ls in
      further-then r first w u v run mid _ ls left _ (draws-further r first false order w x u k.draws run ls) (draws-further r first true x u y v l.draws mid left)

all-whole : (r : Rules) (order : ℕ) (w v : World) (k : InOrder r order w v) → NeverFails k → AreWhole (left_in r order w v k)
unfolding orders-are-runs
all-whole r order w v k none = ((order-further r w order w v k Begins []).whole none).1 tt

told-whole : (l m : TurnLeft) → IsWhole l → IsWhole m → told_by l ≡ told_by m → l ≡ m
told-whole l m k n same = k.1 ∙ ap (λ (told : List Outcome). record { left = Told told; given_up = false }) (sym (ap told_by k.1) ∙ same ∙ ap told_by n.1) ∙ sym n.1

told-alike : (ls ms : List TurnLeft) → AreWhole ls → AreWhole ms → GoAlike (map told_by ls) (map told_by ms) → GoAlike ls ms
told-alike [] ms k l alike = tt
told-alike (x ∷ xs) [] k l alike = tt
told-alike (x ∷ xs) (y ∷ ys) k l alike = (told-whole x y k.0 l.0 alike.0, told-alike xs ys k.1 l.1 alike.1)

pub unfailed-leave_told : UnfailedLeaveTold
unfailed-leave_told r order w v w' v' k l none none' tells = told-alike (left_in r order w w' k) (left_in r order v v' l) (all-whole r order w w' k none) (all-whole r order v v' l none') tells

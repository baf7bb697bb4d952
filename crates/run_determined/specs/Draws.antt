-- Turns that are drawn are determined: two runs side by side stay so, and end together.
use Rattle.std.specs.Prelude.{ℕ, ◌≡◌, ◌<◌, ◌++◌, ◌%◌, Bool, List, [], ◌∷◌, length, slice_get, Some, None}
use Rattle.std.proofs.Common.{inl, inr, suc, sym, ◌∙◌, ap, ap₂, subst, arith}
use Rattle.std.proofs.lemmas.Bool.{cases_eq}
use Rattle.std.proofs.lemmas.Option.{slice_get_past}
use Rattle.base_random.specs.Draws.{drawn}
use Rattle.base_messages.specs.declared.actor.ActorId.{ActorId}
use Rattle.run_base.specs.Picks.{after_pick, due, pick}
use Rattle.run_determined.specs.Growing.{Agree, AreSideBySide, Lefts, agree-earlier, draws-further, further-none, turn-beside, turn-further}
use Rattle.run_determined.specs.Kinds.{heard_in-same}
use Rattle.run_determined.specs.Knowing.{IsSettledBy}
use Rattle.run_determined.specs.Leaving.{TurnLeft, one_more_left}
use Rattle.run_laws.specs.steps.Ways.{turns_run}
use Rattle.run_laws.specs.turns.Keeping.{draws-keep}
use Rattle.run_laws.specs.turns.Orders.{DrawnTurn, Draws, NoDraw, OneDraw}
use Rattle.run_laws.specs.turns.Turns.{heard_in}
use Rattle.world_base.specs.declared.world.World.{World}
use Rattle.world_base.specs.Events.{Rules}
use Rattle.world_base.specs.Stops.{WorldRun}
use Rattle.world_determined.specs.Picks.{same-are_due}
use Rattle.world_determined.specs.Worlds.{SameButFree}

-- ---- one that is drawn

-- the same actor is drawn, and the same letter, and the number drawn last is the same
record OneDrawn {settling : Bool} {r : Rules} {x y z u : ℕ} {w w' v v' : World} (one : DrawnTurn settling r x w y w') (other : DrawnTurn settling r z v u v') : Type 0 where
  actor : one.actor ≡ other.actor
  letter : pick (drawn x) (heard_in w one.actor) ≡ pick (drawn z) (heard_in v other.actor)
  last : y ≡ u

drawn-one : (settling : Bool) (r : Rules) (x y z u : ℕ) (w w' v v' : World) (one : DrawnTurn settling r x w y w') (other : DrawnTurn settling r z v u v') → x ≡ z → SameButFree w v → OneDrawn one other
drawn-one settling r x y z u w w' v v' one other number same =
    let dues = same-are_due settling r w v same in
    let at : Some one.actor ≡ Some other.actor = sym one.its ∙ ap₂ (λ (n : ℕ) (as' : List ActorId). slice_get as' (drawn n % length as')) number dues ∙ other.its in
    let actor : one.actor ≡ other.actor = cc (at) in
    let hears : heard_in w one.actor ≡ heard_in v other.actor = ap (heard_in w) actor ∙ heard_in-same w v other.actor same in
    record {
      actor = actor;
      letter = ap₂ (λ n m. pick (drawn n) m) number hears;
      last = one.last ∙ ap₂ (λ n m. after_pick (drawn n) m) number hears ∙ sym other.last;
    }

-- ---- side by side

-- how many turns were drawn
abbrev pub turns_of : {settling : Bool} {r : Rules} {x : ℕ} {w : World} {y : ℕ} {v : World} → Draws settling r x w y v → ℕ
turns_of NoDraw = 0
turns_of (OneDraw y z u v k one) = suc (turns_of k)

-- two runs side by side, and what was drawn last
pub record AreDrawnBeside {r : Rules} {first start w v : World} (y z : ℕ) (run : WorldRun r first w) (other : WorldRun r start v) (ls ms : List TurnLeft) : Type 0 where
  pub last : y ≡ z
  pub beside : AreSideBySide run other ls ms

module _ (r : Rules) (first start : World) (facts : (x : World) → WorldRun r first x → IsSettledBy r x) (settling : Bool) where
  -- as many turns
  pub draws-beside : (x z : ℕ) (w v : World) (y u : ℕ) (w' v' : World) (k : Draws settling r x w y w') (l : Draws settling r z v u v') (run : WorldRun r first w) (next : WorldRun r start v) (ls ms : List TurnLeft) → turns_of k ≡ turns_of l → x ≡ z → AreSideBySide run next ls ms
      → Agree (draws-keep r (WorldRun r first) (turns_run r first) settling x w y w' k run) (draws-keep r (WorldRun r start) (turns_run r start) settling z v u v' l next)
      (draws-keep r (Lefts r first) (one_more_left r) settling x w y w' k ls) (draws-keep r (Lefts r start) (one_more_left r) settling z v u v' l ms)
      → AreDrawnBeside y u (draws-keep r (WorldRun r first) (turns_run r first) settling x w y w' k run) (draws-keep r (WorldRun r start) (turns_run r start) settling z v u v' l next)
      (draws-keep r (Lefts r first) (one_more_left r) settling x w y w' k ls) (draws-keep r (Lefts r start) (one_more_left r) settling z v u v' l ms)
  unfolding draws-keep
  draws-beside x z w v y u w' v' NoDraw NoDraw run next ls ms many number s agree = record { last = number; beside = s }
  draws-beside x z w v y u w' v' NoDraw (OneDraw b c j i l other) run next ls ms many number s agree = absurd (omega (arith, many))
  draws-beside x z w v y u w' v' (OneDraw a d p q k one) NoDraw run next ls ms many number s agree = absurd (omega (arith, many))
  draws-beside x z w v y u w' v' (OneDraw a d p q k one) (OneDraw b c j i l other) run next ls ms many number s agree =
      let mid = draws-keep r (WorldRun r first) (turns_run r first) settling x w a p k run in
      let half = draws-keep r (WorldRun r start) (turns_run r start) settling z v b j l next in
      let left = draws-keep r (Lefts r first) (one_more_left r) settling x w a p k ls in
      let right = draws-keep r (Lefts r start) (one_more_left r) settling z v b j l ms in
      let before = draws-beside x z w v a b p j k l run next ls ms (omega (arith, many)) number s
      (agree-earlier r first start p w' j v' mid _ half _ left _ right _ (turn-further r first settling one.actor _ p w' one.turn mid left) (turn-further r start settling other.actor _ j v' other.turn half right) agree) in
      let same = drawn-one settling r a y b u p w' j v' one other before.last before.beside.same in
      record { last = same.last; beside = turn-beside r first start facts settling one.actor other.actor _ _ p w' j v' one.turn other.turn mid half left right same.actor same.letter before.beside agree }

  -- where nobody has anything to do after fewer turns, there aren't more
  pub draws-over : (x z : ℕ) (w v : World) (y u : ℕ) (w' v' : World) (k : Draws settling r x w y w') (l : Draws settling r z v u v') (run : WorldRun r first w) (next : WorldRun r start v) (ls ms : List TurnLeft) → turns_of k < turns_of l → x ≡ z → AreSideBySide run next ls ms
      → Agree (draws-keep r (WorldRun r first) (turns_run r first) settling x w y w' k run) (draws-keep r (WorldRun r start) (turns_run r start) settling z v u v' l next)
      (draws-keep r (Lefts r first) (one_more_left r) settling x w y w' k ls) (draws-keep r (Lefts r start) (one_more_left r) settling z v u v' l ms)
      → due settling r w' ≡ [] → ⊥
  unfolding draws-keep
  draws-over x z w v y u w' v' k NoDraw run next ls ms less number s agree over = absurd (omega (arith, less))
  draws-over x z w v y u w' v' k (OneDraw b c j i l other) run next ls ms less number s agree over =
      elim (cases_eq (turns_of k) (turns_of l)) [
        | inl many ↦
            let here = draws-beside x z w v y b w' j k l run next ls ms many number s earlier in
            none-drawn (sym (same-are_due settling r w' j here.beside.same) ∙ over)
        | inr apart ↦ draws-over x z w v y b w' j k l run next ls ms (omega (arith, less, apart)) number s earlier over
      ]
    where
      mid : WorldRun r first w'
      mid = draws-keep r (WorldRun r first) (turns_run r first) settling x w y w' k run

      left : List TurnLeft
      left = draws-keep r (Lefts r first) (one_more_left r) settling x w y w' k ls

      half : WorldRun r start j
      half = draws-keep r (WorldRun r start) (turns_run r start) settling z v b j l next

      right : List TurnLeft
      right = draws-keep r (Lefts r start) (one_more_left r) settling z v b j l ms

      earlier : Agree mid half left right
      earlier = agree-earlier r first start w' w' j v' mid mid half _ left left right _ (further-none r first w' mid left) (turn-further r start settling other.actor _ j v' other.turn half right) agree

      none-drawn : due settling r j ≡ [] → ⊥
      none-drawn none =
          let gone : None ≡ Some other.actor = sym (slice_get_past [] (drawn b % length (due settling r j)) (omega arith)) ∙ ap (λ (as' : List ActorId). slice_get as' (drawn b % length (due settling r j))) (sym none) ∙ other.its in
          cc (gone)

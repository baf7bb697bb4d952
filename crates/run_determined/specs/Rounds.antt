-- Rounds are determined: two runs side by side stay so, and end together.
use Rattle.std.specs.Prelude.{ℕ, ◌≡◌, ◌<◌, ◌++◌, Bool, true, false, List, [], ◌∷◌, length, map, slice_get, refl}
use Rattle.std.proofs.Common.{inl, inr, suc, sym, ◌∙◌, ap, ap₂, subst, arith}
use Rattle.std.proofs.lemmas.Bool.{cases_eq}
use Rattle.daos_model.specs.FormLaws.{length-map}
use Rattle.base_messages.specs.declared.actor.ActorId.{ActorId}
use Rattle.run_base.specs.Picks.{actors, due, is_due, numbered}
use Rattle.run_determined.specs.Agreeing.{ends-one, nothing-more}
use Rattle.run_determined.specs.Growing.{Agree, AreSideBySide, GoesFurther, Lefts, agree-earlier, beside-same, further-none, in_turn-further, one-further, rounds-further, turn-beside}
use Rattle.run_determined.specs.Knowing.{IsSettledBy}
use Rattle.run_determined.specs.Leaving.{TurnLeft, one_more_left}
use Rattle.run_laws.specs.steps.Ways.{turns_run}
use Rattle.run_laws.specs.turns.Keeping.{in_turn-keeps, one-keeps, rounds-keep}
use Rattle.run_laws.specs.turns.Orders.{AndThen, HasIt, HasNone, InTurn, NoRound, Nobody, OneRound, OneTurn, RoundOf, Rounds}
use Rattle.world_base.specs.declared.world.World.{World}
use Rattle.world_base.specs.Events.{Rules}
use Rattle.world_base.specs.Letters.{client, target}
use Rattle.world_base.specs.Stops.{WorldRun}
use Rattle.world_determined.specs.Picks.{actor-due, same-are_due}
use Rattle.world_determined.specs.Worlds.{SameButFree, but_free, target_but_free}

-- ---- who has a turn

due-one : (settling : Bool) (r : Rules) (w v : World) (a b : ActorId) → a ≡ b → SameButFree w v → is_due settling r w a ≡ is_due settling r v b
due-one settling r w v a b actor same = sym (actor-due settling r w a) ∙ ap₂ (λ (x : World) (c : ActorId). is_due settling r x c) same actor ∙ actor-due settling r v b

actors-but_free : (w : World) → actors (but_free w) ≡ actors w
actors-but_free w = ap (λ n. numbered client (length w.clients) ++ numbered target n) (length-map target_but_free w.targets)

actors-same : (w v : World) → SameButFree w v → actors w ≡ actors v
actors-same w v same = sym (actors-but_free w) ∙ ap actors same ∙ actors-but_free v

-- ---- side by side

-- how many rounds there were
abbrev pub rounds_of : {settling : Bool} {r : Rules} {w v : World} → Rounds settling r w v → ℕ
rounds_of NoRound = 0
rounds_of (OneRound u v k some round) = suc (rounds_of k)

module _ (r : Rules) (first start : World) (facts : (x : World) → WorldRun r first x → IsSettledBy r x) (settling : Bool) where
  abbrev one_run : (a : ActorId) (w v : World) → OneTurn settling r a w v → WorldRun r first w → WorldRun r first v
  one_run a w v one run = one-keeps r (WorldRun r first) (turns_run r first) settling a w v one run

  one-beside : (a b : ActorId) (w w' v v' : World) (one : OneTurn settling r a w w') (other : OneTurn settling r b v v') (run : WorldRun r first w) (next : WorldRun r start v) (ls ms : List TurnLeft) → a ≡ b → AreSideBySide run next ls ms
      → Agree (one-keeps r (WorldRun r first) (turns_run r first) settling a w w' one run) (one-keeps r (WorldRun r start) (turns_run r start) settling b v v' other next)
      (one-keeps r (Lefts r first) (one_more_left r) settling a w w' one ls) (one-keeps r (Lefts r start) (one_more_left r) settling b v v' other ms)
      → AreSideBySide (one-keeps r (WorldRun r first) (turns_run r first) settling a w w' one run) (one-keeps r (WorldRun r start) (turns_run r start) settling b v v' other next)
      (one-keeps r (Lefts r first) (one_more_left r) settling a w w' one ls) (one-keeps r (Lefts r start) (one_more_left r) settling b v v' other ms)
  unfolding one-keeps
  one-beside a b w w' v v' (HasIt is turn) (HasIt is' other) run next ls ms actor s agree = turn-beside r first start facts settling a b 0 0 w w' v v' turn other run next ls ms actor refl s agree
  one-beside a b w w' v v' (HasNone is same) (HasNone is' same') run next ls ms actor s agree = beside-same r first start w w' v v' (sym same) (sym same') run next ls ms s
  one-beside a b w w' v v' (HasIt is turn) (HasNone is' same') run next ls ms actor s agree = let both = due-one settling r w v a b actor s.same in let no : ⊥ = cc (is, is', both) in absurd no
  one-beside a b w w' v v' (HasNone is same) (HasIt is' other) run next ls ms actor s agree = let both = due-one settling r w v a b actor s.same in let no : ⊥ = cc (is, is', both) in absurd no

  in_turn-beside : (w v : World) (as' bs : List ActorId) (w' v' : World) (k : InTurn settling r w as' w') (l : InTurn settling r v bs v') (run : WorldRun r first w) (next : WorldRun r start v) (ls ms : List TurnLeft) → as' ≡ bs → AreSideBySide run next ls ms
      → Agree (in_turn-keeps r (WorldRun r first) (turns_run r first) settling w as' w' k run) (in_turn-keeps r (WorldRun r start) (turns_run r start) settling v bs v' l next)
      (in_turn-keeps r (Lefts r first) (one_more_left r) settling w as' w' k ls) (in_turn-keeps r (Lefts r start) (one_more_left r) settling v bs v' l ms)
      → AreSideBySide (in_turn-keeps r (WorldRun r first) (turns_run r first) settling w as' w' k run) (in_turn-keeps r (WorldRun r start) (turns_run r start) settling v bs v' l next)
      (in_turn-keeps r (Lefts r first) (one_more_left r) settling w as' w' k ls) (in_turn-keeps r (Lefts r start) (one_more_left r) settling v bs v' l ms)
  unfolding in_turn-keeps
  in_turn-beside w v as' bs w' v' Nobody Nobody run next ls ms same s agree = s
  in_turn-beside w v as' bs w' v' Nobody (AndThen before b x y l other) run next ls ms same s agree = absurd (nothing-more before b same)
  in_turn-beside w v as' bs w' v' (AndThen before a u z k one) Nobody run next ls ms same s agree = absurd (nothing-more before a (sym same))
  in_turn-beside w v as' bs w' v' (AndThen before a u z k one) (AndThen earlier b x y l other) run next ls ms same s agree =
      let ends = ends-one before earlier a b same in
      let mid = in_turn-keeps r (WorldRun r first) (turns_run r first) settling w before u k run in
      let half = in_turn-keeps r (WorldRun r start) (turns_run r start) settling v earlier x l next in
      let left = in_turn-keeps r (Lefts r first) (one_more_left r) settling w before u k ls in
      let right = in_turn-keeps r (Lefts r start) (one_more_left r) settling v earlier x l ms in
      one-beside a b u w' x v' one other mid half left right ends.last
      (in_turn-beside w v before earlier u x k l run next ls ms ends.before s
      (agree-earlier r first start u w' x v' mid _ half _ left _ right _ (one-further r first settling a u w' one mid left) (one-further r start settling b x v' other half right) agree)) agree

  -- as many rounds
  pub rounds-beside : (w v w' v' : World) (k : Rounds settling r w w') (l : Rounds settling r v v') (run : WorldRun r first w) (next : WorldRun r start v) (ls ms : List TurnLeft) → rounds_of k ≡ rounds_of l → AreSideBySide run next ls ms
      → Agree (rounds-keep r (WorldRun r first) (turns_run r first) settling w w' k run) (rounds-keep r (WorldRun r start) (turns_run r start) settling v v' l next)
      (rounds-keep r (Lefts r first) (one_more_left r) settling w w' k ls) (rounds-keep r (Lefts r start) (one_more_left r) settling v v' l ms)
      → AreSideBySide (rounds-keep r (WorldRun r first) (turns_run r first) settling w w' k run) (rounds-keep r (WorldRun r start) (turns_run r start) settling v v' l next)
      (rounds-keep r (Lefts r first) (one_more_left r) settling w w' k ls) (rounds-keep r (Lefts r start) (one_more_left r) settling v v' l ms)
  unfolding rounds-keep
  rounds-beside w v w' v' NoRound NoRound run next ls ms many s agree = s
  rounds-beside w v w' v' NoRound (OneRound x y l some other) run next ls ms many s agree = absurd (omega (arith, many))
  rounds-beside w v w' v' (OneRound u z k some round) NoRound run next ls ms many s agree = absurd (omega (arith, many))
  rounds-beside w v w' v' (OneRound u z k some round) (OneRound x y l some' other) run next ls ms many s agree =
      let mid = rounds-keep r (WorldRun r first) (turns_run r first) settling w u k run in
      let half = rounds-keep r (WorldRun r start) (turns_run r start) settling v x l next in
      let left = rounds-keep r (Lefts r first) (one_more_left r) settling w u k ls in
      let right = rounds-keep r (Lefts r start) (one_more_left r) settling v x l ms in
      let before = rounds-beside w v u x k l run next ls ms (omega (arith, many)) s
      (agree-earlier r first start u w' x v' mid _ half _ left _ right _ (in_turn-further r first settling u (actors u) w' round mid left) (in_turn-further r start settling x (actors x) v' other half right) agree) in
      in_turn-beside u x (actors u) (actors x) w' v' round other mid half left right (actors-same u x before.same) before agree

  -- where nobody has anything to do after fewer rounds, there aren't more
  pub rounds-over : (w v w' v' : World) (k : Rounds settling r w w') (l : Rounds settling r v v') (run : WorldRun r first w) (next : WorldRun r start v) (ls ms : List TurnLeft) → rounds_of k < rounds_of l → AreSideBySide run next ls ms
      → Agree (rounds-keep r (WorldRun r first) (turns_run r first) settling w w' k run) (rounds-keep r (WorldRun r start) (turns_run r start) settling v v' l next)
      (rounds-keep r (Lefts r first) (one_more_left r) settling w w' k ls) (rounds-keep r (Lefts r start) (one_more_left r) settling v v' l ms)
      → due settling r w' ≡ [] → ⊥
  unfolding rounds-keep
  rounds-over w v w' v' k NoRound run next ls ms less s agree over = absurd (omega (arith, less))
  rounds-over w v w' v' k (OneRound x y l some other) run next ls ms less s agree over =
      elim (cases_eq (rounds_of k) (rounds_of l)) [
        | inl many ↦ let here = rounds-beside w v w' x k l run next ls ms many s earlier in some (sym (same-are_due settling r w' x here.same) ∙ over)
        | inr other ↦ rounds-over w v w' x k l run next ls ms (omega (arith, less, other)) s earlier over
      ]
    where
      mid : WorldRun r first w'
      mid = rounds-keep r (WorldRun r first) (turns_run r first) settling w w' k run

      left : List TurnLeft
      left = rounds-keep r (Lefts r first) (one_more_left r) settling w w' k ls

      half : WorldRun r start x
      half = rounds-keep r (WorldRun r start) (turns_run r start) settling v x l next

      right : List TurnLeft
      right = rounds-keep r (Lefts r start) (one_more_left r) settling v x l ms

      earlier : Agree mid half left right
      earlier = agree-earlier r first start w' w' x v' mid mid half _ left left right _ (further-none r first w' mid left) (in_turn-further r start settling x (actors x) v' other half right) agree

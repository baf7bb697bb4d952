-- Two runs in an order, side by side, and that the turns of a run add to its readings and to what it leaves open.
use Rattle.std.specs.Prelude.{ℕ, ◌≡◌, ◌+◌, ◌++◌, ◌==◌, Bool, true, false, List, [], ◌∷◌, refl, if◌then◌else◌}
use Rattle.std.proofs.Common.{sym, ◌∙◌, ap, subst, subst₂, append-nil, arith}
use Rattle.std.proofs.Math.Path.{path_j, subst_refl}
use Rattle.std.proofs.lemmas.List.{append_assoc}
use Rattle.model_laws.specs.TargetLaws.{same_number}
use Rattle.base_types.specs.declared.outcome.Outcome.{Outcome}
use Rattle.base_messages.specs.declared.actor.ActorId.{ActorId}
use Rattle.run_base.specs.Picks.{actors}
use Rattle.run_determined.specs.Agreeing.{GoAlike, GoesOnFrom, alike-after, alike-earlier}
use Rattle.run_determined.specs.Knowing.{IsSettledBy}
use Rattle.run_determined.specs.Leaving.{Told, TurnLeft, left_at, left_by, one_more_left}
use Rattle.run_determined.specs.Turns.{turn-one}
use Rattle.run_laws.specs.steps.Ways.{turns_run}
use Rattle.run_laws.specs.turns.Faults.{cuts_and_failures, fault_in, once_for}
use Rattle.run_laws.specs.turns.Keeping.{draws-keep, in_turn-keeps, one-keeps, rounds-keep}
use Rattle.run_laws.specs.turns.OrderLaws.{turn-goes}
use Rattle.run_laws.specs.turns.Orders.{AndThen, Draws, HasIt, HasNone, InTurn, NoDraw, NoRound, Nobody, OneDraw, OneRound, OneTurn, Rounds}
use Rattle.run_laws.specs.turns.Readings.{read_by, reading_of, readings_of, turn-reads}
use Rattle.run_laws.specs.turns.Turns.{Doing, GivingUp, IsFault, Opening, TurnOf}
use Rattle.world_base.specs.declared.world.World.{World}
use Rattle.world_base.specs.Events.{Rules}
use Rattle.world_base.specs.Stops.{Fails, Happening, IsCut, WorldRun}
use Rattle.world_determined.specs.Choices.{told_open}
use Rattle.world_determined.specs.Worlds.{SameButFree}

-- ---- turns that are whole

-- no turn is cut in a run, and no opening fails
abbrev pub NothingFails : {r : Rules} {w v : World} → WorldRun r w v → Type 0
NothingFails run = (t : ℕ) → cuts_and_failures t run ≡ 0

-- a turn was whole
abbrev pub IsWhole : TurnLeft → Type 0
IsWhole l = (told : List Outcome) × (l ≡ record { left = Told told; given_up = false })

abbrev pub AreWhole : List TurnLeft → Type 0
AreWhole [] = Unit {0}
AreWhole (l ∷ ls) = IsWhole l × AreWhole ls

more-whole : (ls : List TurnLeft) (l : TurnLeft) → AreWhole ls → IsWhole l → AreWhole (ls ++ l ∷ [])
more-whole [] l k one = (one, tt)
more-whole (x ∷ xs) l k one = (k.0, more-whole xs l k.1 one)

failed : (own : Bool) → own ≡ true → ◌≡◌ {A = ℕ} (if own then 1 else 0) 0 → ⊥
failed true is none = absurd (omega (arith, none))
failed false is none = cc (is)

-- ---- a run that goes on

-- a run goes on from another one: its readings do, and what its turns leave open
pub record GoesFurther {r : Rules} {first w v : World} (run : WorldRun r first w) (later : WorldRun r first v) (ls ms : List TurnLeft) : Type 0 where
  pub readings : (t : ℕ) → GoesOnFrom (readings_of t run) (readings_of t later)
  pub left : GoesOnFrom ls ms
  pub whole : NothingFails later → NothingFails run × (AreWhole ls → AreWhole ms)

module _ (r : Rules) (first : World) where
  abbrev pub Lefts : World → Type 0
  Lefts w = List TurnLeft

  pub further-none : (w : World) (run : WorldRun r first w) (ls : List TurnLeft) → GoesFurther run run ls ls
  further-none w run ls = record { readings = λ t. ([], sym (append-nil (readings_of t run))); left = ([], sym (append-nil ls)); whole = λ none. (none, λ k. k) }

  goes-then : {A : Type 0} (xs ys zs : List A) → GoesOnFrom xs ys → GoesOnFrom ys zs → GoesOnFrom xs zs
  goes-then {A} xs ys zs k l = (k.0 ++ l.0, l.1 ∙ ap (λ (as' : List A). as' ++ l.0) k.1 ∙ append_assoc xs k.0 l.0)

  pub further-then : (w u v : World) (run : WorldRun r first w) (mid : WorldRun r first u) (later : WorldRun r first v) (ls ms ns : List TurnLeft) → GoesFurther run mid ls ms → GoesFurther mid later ms ns → GoesFurther run later ls ns
  further-then w u v run mid later ls ms ns k l = record {
    readings = λ t. goes-then (readings_of t run) (readings_of t mid) (readings_of t later) (k.readings t) (l.readings t);
    left = goes-then ls ms ns k.left l.left;
    whole = λ none. (let b = l.whole none in let a = k.whole b.0 in (a.0, λ z. b.1 (a.1 z)));
  }

  -- where nothing fails a turn is whole
  happens-whole : (w v : World) (e : Happening r w v) → ((t : ℕ) → once_for (fault_in e) t ≡ 0) → IsWhole (record { left = left_at r e; given_up = false })
  happens-whole w v (IsCut g) none = let own = same_number g.t in let no = none g.t in let n : ⊥ = failed (g.t == g.t) own no in absurd n
  happens-whole w v (Fails g) none = let own = same_number g.t in let no = none g.t in let n : ⊥ = failed (g.t == g.t) own no in absurd n
  happens-whole w v e none = (told_open r e, refl)

  fails-none : (w v : World) (e : Happening r w v) → IsFault r e → ((t : ℕ) → once_for (fault_in e) t ≡ 0) → ⊥
  fails-none w v (IsCut g) fault none = failed (g.t == g.t) (same_number g.t) (none g.t)
  fails-none w v (Fails g) fault none = failed (g.t == g.t) (same_number g.t) (none g.t)
  fails-none w v e fault none = fault

  first-none : (m n : ℕ) → m + n ≡ 0 → m ≡ 0
  first-none m n none = omega (arith, none)

  last-none : (m n : ℕ) → m + n ≡ 0 → n ≡ 0
  last-none m n none = omega (arith, none)

  turn-whole : (settling : Bool) (a : ActorId) (k : ℕ) (w v : World) (turn : TurnOf settling r a k w v) (run : WorldRun r first w) (ls : List TurnLeft) → NothingFails (turn-goes settling r a k first w v turn run)
      → NothingFails run × (AreWhole ls → AreWhole (ls ++ left_by turn ∷ []))
  unfolding turn-goes
  turn-whole settling a k w v (Doing d plain) run ls none = (
    λ t. first-none (cuts_and_failures t run) (once_for (fault_in d.event.happens) t) (none t),
    λ z. more-whole ls _ z (happens-whole w d.event.u d.event.happens (λ t. last-none (cuts_and_failures t run) (once_for (fault_in d.event.happens) t) (none t))),
  )
  turn-whole settling a k w v (Opening u n draws d by) run ls none = (
    λ t. first-none (cuts_and_failures t run) (once_for (fault_in n.happens) t) (first-none (cuts_and_failures t run + once_for (fault_in n.happens) t) (once_for (fault_in d.event.happens) t) (none t)),
    λ z. more-whole ls _ z ([], refl),
  )
  turn-whole settling a k w v (GivingUp u d fault g up) run ls none =
      absurd (fails-none w d.event.u d.event.happens fault (λ t. last-none (cuts_and_failures t run) (once_for (fault_in d.event.happens) t)
      (first-none (cuts_and_failures t run + once_for (fault_in d.event.happens) t) (once_for (fault_in g.happens) t) (none t))))

  pub turn-further : (settling : Bool) (a : ActorId) (k : ℕ) (w v : World) (turn : TurnOf settling r a k w v) (run : WorldRun r first w) (ls : List TurnLeft) → GoesFurther run (turn-goes settling r a k first w v turn run) ls (ls ++ left_by turn ∷ [])
  turn-further settling a k w v turn run ls = record {
    readings = λ t. (reading_of (read_by turn) t, turn-reads t settling r a k first w v turn run);
    left = (left_by turn ∷ [], refl);
    whole = turn-whole settling a k w v turn run ls;
  }

  -- the same world by another word
  same-further : (w v : World) (same : w ≡ v) (run : WorldRun r first w) (ls : List TurnLeft) → GoesFurther run (subst (WorldRun r first) same run) ls (subst Lefts same ls)
  same-further w v same run ls =
      let itself : w ≡ w = refl in
      let stays : subst (WorldRun r first) itself run ≡ run = subst_refl (WorldRun r first) {x = w} run in
      let left : subst Lefts itself ls ≡ ls = subst_refl Lefts {x = w} ls in
      path_j (λ (z : World) (q : w ≡ z). GoesFurther run (subst (WorldRun r first) q run) ls (subst Lefts q ls))
      (subst₂ (λ (x : WorldRun r first w) (ms : List TurnLeft). GoesFurther run x ls ms) (sym stays) (sym left) (further-none w run ls)) same

  pub one-further : (settling : Bool) (a : ActorId) (w v : World) (one : OneTurn settling r a w v) (run : WorldRun r first w) (ls : List TurnLeft)
      → GoesFurther run (one-keeps r (WorldRun r first) (turns_run r first) settling a w v one run) ls (one-keeps r Lefts (one_more_left r) settling a w v one ls)
  unfolding one-keeps
  one-further settling a w v (HasIt is turn) run ls = turn-further settling a 0 w v turn run ls
  one-further settling a w v (HasNone is same) run ls = same-further w v (sym same) run ls

  pub in_turn-further : (settling : Bool) (w : World) (as' : List ActorId) (v : World) (k : InTurn settling r w as' v) (run : WorldRun r first w) (ls : List TurnLeft)
      → GoesFurther run (in_turn-keeps r (WorldRun r first) (turns_run r first) settling w as' v k run) ls (in_turn-keeps r Lefts (one_more_left r) settling w as' v k ls)
  unfolding in_turn-keeps
  in_turn-further settling w as' v Nobody run ls = further-none w run ls
  in_turn-further settling w as' v (AndThen before a u x k one) run ls =
      let mid = in_turn-keeps r (WorldRun r first) (turns_run r first) settling w before u k run in
      let ms = in_turn-keeps r Lefts (one_more_left r) settling w before u k ls in
      further-then w u v run mid _ ls ms _ (in_turn-further settling w before u k run ls) (one-further settling a u v one mid ms)

  pub rounds-further : (settling : Bool) (w v : World) (k : Rounds settling r w v) (run : WorldRun r first w) (ls : List TurnLeft)
      → GoesFurther run (rounds-keep r (WorldRun r first) (turns_run r first) settling w v k run) ls (rounds-keep r Lefts (one_more_left r) settling w v k ls)
  unfolding rounds-keep
  rounds-further settling w v NoRound run ls = further-none w run ls
  rounds-further settling w v (OneRound u x k some round) run ls =
      let mid = rounds-keep r (WorldRun r first) (turns_run r first) settling w u k run in
      let ms = rounds-keep r Lefts (one_more_left r) settling w u k ls in
      further-then w u v run mid _ ls ms _ (rounds-further settling w u k run ls) (in_turn-further settling u (actors u) v round mid ms)

  pub draws-further : (settling : Bool) (x : ℕ) (w : World) (y : ℕ) (v : World) (k : Draws settling r x w y v) (run : WorldRun r first w) (ls : List TurnLeft)
      → GoesFurther run (draws-keep r (WorldRun r first) (turns_run r first) settling x w y v k run) ls (draws-keep r Lefts (one_more_left r) settling x w y v k ls)
  unfolding draws-keep
  draws-further settling x w y v NoDraw run ls = further-none w run ls
  draws-further settling x w y v (OneDraw z a u b k one) run ls =
      let mid = draws-keep r (WorldRun r first) (turns_run r first) settling x w z u k run in
      let ms = draws-keep r Lefts (one_more_left r) settling x w z u k ls in
      further-then w u v run mid _ ls ms _ (draws-further settling x w z u k run ls) (turn-further settling one.actor _ u v one.turn mid ms)

-- ---- two runs side by side

-- Two runs have come to worlds that are the same but for free blocks, with the same readings, and left the same open.
pub record AreSideBySide {r : Rules} {first start w v : World} (run : WorldRun r first w) (other : WorldRun r start v) (ls ms : List TurnLeft) : Type 0 where
  pub same : SameButFree w v
  pub readings : (t : ℕ) → readings_of t run ≡ readings_of t other
  pub left : ls ≡ ms

-- as far as both go, they read the same, and leave the same open
pub record Agree {r : Rules} {first start w v : World} (run : WorldRun r first w) (other : WorldRun r start v) (ls ms : List TurnLeft) : Type 0 where
  pub readings : (t : ℕ) → GoAlike (readings_of t run) (readings_of t other)
  pub left : GoAlike ls ms

module _ (r : Rules) (first start : World) where
  pub agree-earlier : (w u v x : World) (run : WorldRun r first w) (later : WorldRun r first u) (other : WorldRun r start v) (after : WorldRun r start x) (ls ms ns os : List TurnLeft)
      → GoesFurther run later ls ms → GoesFurther other after ns os → Agree later after ms os → Agree run other ls ns
  agree-earlier w u v x run later other after ls ms ns os k l both = record {
    readings = λ t. alike-earlier (readings_of t run) (readings_of t other) (readings_of t later) (readings_of t after) (k.readings t) (l.readings t) (both.readings t);
    left = alike-earlier ls ns ms os k.left l.left both.left;
  }

  same-after : {A : Type 0} (xs ys more others : List A) → xs ≡ ys → GoAlike (xs ++ more) (ys ++ others) → GoAlike more others
  same-after {A} xs ys more others same k = alike-after xs more others (subst (λ (zs : List A). GoAlike (xs ++ more) (zs ++ others)) (sym same) k)

  module _ (facts : (x : World) → WorldRun r first x → IsSettledBy r x) where
    -- a turn of one actor in both
    pub turn-beside : (settling : Bool) (a b : ActorId) (k l : ℕ) (w w' v v' : World) (turn : TurnOf settling r a k w w') (other : TurnOf settling r b l v v') (run : WorldRun r first w) (next : WorldRun r start v) (ls ms : List TurnLeft)
        → a ≡ b → k ≡ l → AreSideBySide run next ls ms → Agree (turn-goes settling r a k first w w' turn run) (turn-goes settling r b l start v v' other next) (ls ++ left_by turn ∷ []) (ms ++ left_by other ∷ [])
        → AreSideBySide (turn-goes settling r a k first w w' turn run) (turn-goes settling r b l start v v' other next) (ls ++ left_by turn ∷ []) (ms ++ left_by other ∷ [])
    turn-beside settling a b k l w w' v v' turn other run next ls ms actor number s both =
        path_j (λ (c : ActorId) q. (other : TurnOf settling r c l v v') → Besides c l other) (λ o. path_j (λ (m : ℕ) q. (other : TurnOf settling r a m v v') → Besides a m other) beside number o) actor other both
      where
        Besides : (c : ActorId) (m : ℕ) → TurnOf settling r c m v v' → Type 0
        Besides c m o = Agree (turn-goes settling r a k first w w' turn run) (turn-goes settling r c m start v v' o next) (ls ++ left_by turn ∷ []) (ms ++ left_by o ∷ [])
            → AreSideBySide (turn-goes settling r a k first w w' turn run) (turn-goes settling r c m start v v' o next) (ls ++ left_by turn ∷ []) (ms ++ left_by o ∷ [])

        beside : (o : TurnOf settling r a k v v') → Besides a k o
        beside o agree =
            let read = λ (t : ℕ). turn-reads t settling r a k first w w' turn run in
            let read' = λ (t : ℕ). turn-reads t settling r a k start v v' o next in
            let one = turn-one r settling a k w v s.same (facts w run) w' v' turn o
            (λ t. same-after (readings_of t run) (readings_of t next) (reading_of (read_by turn) t) (reading_of (read_by o) t) (s.readings t)
            (subst (λ xs. GoAlike xs (readings_of t next ++ reading_of (read_by o) t)) (read t) (subst (λ xs. GoAlike (readings_of t (turn-goes settling r a k first w w' turn run)) xs) (read' t) (agree.readings t))))
            (same-after ls ms (left_by turn ∷ []) (left_by o ∷ []) s.left agree.left).0 in
            record {
              same = one.then_same;
              readings = λ t. read t ∙ ap (λ xs. xs ++ reading_of (read_by turn) t) (s.readings t) ∙ ap (λ x. readings_of t next ++ reading_of x t) one.reads ∙ sym (read' t);
              left = ap (λ xs. xs ++ left_by turn ∷ []) s.left ∙ ap (λ x. ms ++ x ∷ []) (same-after ls ms (left_by turn ∷ []) (left_by o ∷ []) s.left agree.left).0;
            }

  -- the same worlds by other words
  pub beside-same : (w u v x : World) (same : w ≡ u) (alike : v ≡ x) (run : WorldRun r first w) (next : WorldRun r start v) (ls ms : List TurnLeft) → AreSideBySide run next ls ms
      → AreSideBySide (subst (WorldRun r first) same run) (subst (WorldRun r start) alike next) (subst (Lefts r first) same ls) (subst (Lefts r start) alike ms)
  beside-same w u v x same alike run next ls ms s =
      let itself : w ≡ w = refl in
      let stays : subst (WorldRun r first) itself run ≡ run = subst_refl (WorldRun r first) {x = w} run in
      let left : subst (Lefts r first) itself ls ≡ ls = subst_refl (Lefts r first) {x = w} ls in
      path_j (λ (z : World) (q : w ≡ z). AreSideBySide (subst (WorldRun r first) q run) (subst (WorldRun r start) alike next) (subst (Lefts r first) q ls) (subst (Lefts r start) alike ms))
      (subst₂ (λ (k : WorldRun r first w) (ns : List TurnLeft). AreSideBySide k (subst (WorldRun r start) alike next) ns (subst (Lefts r start) alike ms)) (sym stays) (sym left) other) same
    where
      other : AreSideBySide run (subst (WorldRun r start) alike next) ls (subst (Lefts r start) alike ms)
      other =
          let itself : v ≡ v = refl in
          let stays : subst (WorldRun r start) itself next ≡ next = subst_refl (WorldRun r start) {x = v} next in
          let left : subst (Lefts r start) itself ms ≡ ms = subst_refl (Lefts r start) {x = v} ms in
          path_j (λ (z : World) (q : v ≡ z). AreSideBySide run (subst (WorldRun r start) q next) ls (subst (Lefts r start) q ms))
          (subst₂ (λ (k : WorldRun r start v) (ns : List TurnLeft). AreSideBySide run k ls ns) (sym stays) (sym left) s) alike

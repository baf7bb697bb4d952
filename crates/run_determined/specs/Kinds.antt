-- Whose turn it is, and whether that actor hears a letter, goes by worlds but for free blocks.
use Rattle.std.specs.Prelude.{ℕ, ◌≡◌, ◌<◌, Bool, true, false, nat_lt, List, slice_get, Option, Some, None, if◌then◌else◌, refl}
use Rattle.std.specs.Option.{option_map}
use Rattle.std.proofs.Common.{sym, ◌∙◌, ap, ap₂, subst, arith}
use Rattle.std.proofs.lemmas.Bool.Decides.{nat_tests}
use Rattle.std.proofs.lemmas.Option.{slice_get-map}
use Rattle.base_types.specs.declared.outcome.Outcome.{Outcome}
use Rattle.base_messages.specs.declared.actor.ActorId.{ActorId}
use Rattle.run_base.specs.Letters.{IsPicked}
use Rattle.run_base.specs.Picked.{picked-is-counted}
use Rattle.run_base.specs.Picks.{count_to, heard, heard_by_client}
use Rattle.run_determined.specs.Leaving.{Fault, LeftOpen, Told, left_at}
use Rattle.run_laws.specs.turns.OrderLaws.{IsStopped}
use Rattle.run_laws.specs.turns.Turns.{IsDoneBy, IsNoOpening, heard_by_target, heard_in}
use Rattle.world_base.specs.declared.client.ClientState.{ClientState}
use Rattle.world_base.specs.declared.letter.Letter.{Letter}
use Rattle.world_base.specs.declared.target.Life.{Life}
use Rattle.world_base.specs.declared.target.Life.TheVariants.{Running, Stopped}
use Rattle.world_base.specs.declared.target.TargetState.{TargetState}
use Rattle.world_base.specs.declared.world.World.{World}
use Rattle.world_base.specs.Events.{ByClient, ByTarget, Rules, ToClient, ToTarget}
use Rattle.world_base.specs.Letters.{client, target}
use Rattle.world_base.specs.Stops.{Draws, Fails, Further, GivenUp, Happening, IsCut, Opens, Plainly}
use Rattle.world_determined.specs.Worlds.{SameButFree, but_free, target_but_free}

-- ---- how many letters an actor hears one of

pub heard-same : (w v : World) (a : ActorId) → SameButFree w v → heard w a ≡ heard v a
heard-same w v a same = ap (λ (x : World). heard x a) same

by-life : (count : ℕ) (o : Option TargetState) → heard_by_target count (option_map target_but_free o) ≡ heard_by_target count o
by-life count None = refl
by-life count (Some s) = refl

heard_in-but_free : (w : World) (a : ActorId) → heard_in (but_free w) a ≡ heard_in w a
heard_in-but_free w a =
    ap (λ n. if a.client then heard_by_client (count_to a w.messages) (slice_get w.clients a.number) else n)
    (ap (heard_by_target (count_to a w.messages)) (slice_get-map target_but_free w.targets a.number) ∙ by-life (count_to a w.messages) (slice_get w.targets a.number))

pub heard_in-same : (w v : World) (a : ActorId) → SameButFree w v → heard_in w a ≡ heard_in v a
heard_in-same w v a same = sym (heard_in-but_free w a) ∙ ap (λ (x : World). heard_in x a) same ∙ heard_in-but_free v a

-- ---- kinds of events

-- A client goes on or hears; a target hears or does its idle work; it is cut, or fails to open; or nobody has a turn.
pub data Kind : Type 0 where
  Goes : Kind
  IsTold : Kind
  Hears : Kind
  Idles : Kind
  Faults : Kind
  IsNone : Kind

abbrev pub kind_of : {r : Rules} {w v : World} → Happening r w v → Kind
kind_of (Plainly (ByClient g) up) = Goes
kind_of (Plainly (ToClient g) up) = IsTold
kind_of (Plainly (ToTarget g) up) = Hears
kind_of (Plainly (ByTarget g) up) = Idles
kind_of (Further g) = Hears
kind_of (IsCut g) = Faults
kind_of (Opens g) = IsNone
kind_of (Fails g) = Faults
kind_of (GivenUp g) = IsNone
kind_of (Draws g) = IsNone

-- of an actor of this kind, which hears a letter or none, where nothing fails
abbrev kind_by : Bool → Bool → Kind
kind_by true true = IsTold
kind_by true false = Goes
kind_by false true = Hears
kind_by false false = Idles

abbrev kind_left : LeftOpen → Kind → Kind
kind_left (Told told) k = k
kind_left (Fault at) k = Faults

none-heard : (n : ℕ) → n ≡ 0 → nat_lt 0 n ≡ false
none-heard n none = grind (arith, nat_tests)

some-heard : (k n : ℕ) → k < n → nat_lt 0 n ≡ true
some-heard k n less = grind (arith, nat_tests)

module _ (r : Rules) (settling : Bool) (a : ActorId) (k : ℕ) (w : World) where
  target-picked : (t : ℕ) (l : Letter) (rest : List Letter) → a ≡ target t → IsPicked w.messages a k l rest → Hears ≡ kind_by a.client (nat_lt 0 (heard w a))
  target-picked t l rest is picked =
      let counted : k < heard w (target t) = picked-is-counted (target t) w.messages k l rest (subst (λ x. IsPicked w.messages x k l rest) is picked) in
      sym (ap (λ x. kind_by x.client (nat_lt 0 (heard w x))) is ∙ ap (kind_by false) (some-heard k (heard w (target t)) counted))

  client-picked : (n : ℕ) (c : ClientState) (l : Letter) (rest : List Letter) → slice_get w.clients n ≡ Some c → c.skip ≡ 0 → a ≡ client n → IsPicked w.messages a k l rest → IsTold ≡ kind_by a.client (nat_lt 0 (heard w a))
  client-picked n c l rest here awake is picked =
      let counted : k < count_to (client n) w.messages = picked-is-counted (client n) w.messages k l rest (subst (λ x. IsPicked w.messages x k l rest) is picked) in
      let asleep : nat_lt 0 c.skip ≡ false = none-heard c.skip awake in
      let all : heard w (client n) ≡ count_to (client n) w.messages = ap (heard_by_client (count_to (client n) w.messages)) here ∙ ap (λ b. if b then 0 else count_to (client n) w.messages) asleep in
      sym (ap (λ x. kind_by x.client (nat_lt 0 (heard w x))) is ∙ ap (kind_by true) (some-heard k (heard w (client n)) (subst (λ m. k < m) (sym all) counted)))

  -- what an actor does is of a kind
  kind-is : (u : World) (e : Happening r w u) → IsDoneBy settling r a k e → IsNoOpening r e → kind_of e ≡ kind_left (left_at r e) (kind_by a.client (nat_lt 0 (heard w a)))
  kind-is u (Plainly (ByClient g) up) by plain = sym (ap₂ (λ (x : ActorId) b. kind_by x.client b) by.0 (none-heard (heard w a) by.1))
  kind-is u (Plainly (ToClient g) up) by plain = client-picked g.n g.c g.l g.rest g.here g.awake by.0 by.1
  kind-is u (Plainly (ToTarget g) up) by plain = target-picked g.t g.l g.rest by.0 by.1
  kind-is u (Plainly (ByTarget g) up) by plain = sym (ap₂ (λ (x : ActorId) b. kind_by x.client b) by.0 (none-heard (heard w a) by.1))
  kind-is u (Further g) by plain = target-picked g.hears.t g.hears.l g.hears.rest by.0 by.1
  kind-is u (IsCut g) by plain = refl
  kind-is u (Fails g) by plain = refl
  kind-is u (Opens g) by plain = absurd plain
  kind-is u (GivenUp g) by plain = absurd by
  kind-is u (Draws g) by plain = absurd by

  apart : (n t : ℕ) → a ≡ client n → a ≡ target t → ⊥
  apart n t is other = let no : true ≡ false = ap (λ (x : ActorId). x.client) (sym is ∙ other) in cc (no)

  lives-one : (t : ℕ) (s : TargetState) (z : IsStopped w a) → a ≡ target t → slice_get w.targets t ≡ Some s → s.life ≡ Running → ⊥
  lives-one t s z is here runs =
      let number : t ≡ z.t = ap (λ (x : ActorId). x.number) (sym is ∙ z.is) in
      let found : Some s ≡ Some z.s = sym here ∙ ap (slice_get w.targets) number ∙ z.here in
      let one : s ≡ z.s = cc (found) in
      let no : Running ≡ Stopped = sym runs ∙ ap (λ (x : TargetState). x.life) one ∙ z.stopped in
      cc (no)

  -- one that is stopped does nothing but open again, or fail to
  pub stopped-fails : (u : World) (e : Happening r w u) (left : List Outcome) → IsDoneBy settling r a k e → IsNoOpening r e → left_at r e ≡ Told left → IsStopped w a → ⊥
  stopped-fails u (Plainly (ByClient g) up) left by plain told z = apart g.n z.t by.0 z.is
  stopped-fails u (Plainly (ToClient g) up) left by plain told z = apart g.n z.t by.0 z.is
  stopped-fails u (Plainly (ToTarget g) up) left by plain told z = lives-one g.t g.s z by.0 g.here g.runs
  stopped-fails u (Plainly (ByTarget g) up) left by plain told z = lives-one g.t g.s z by.0 g.here g.runs
  stopped-fails u (Further g) left by plain told z = lives-one g.hears.t g.hears.s z by.0 g.hears.here g.hears.runs
  stopped-fails u (IsCut g) left by plain told z = cc (told)
  stopped-fails u (Fails g) left by plain told z = cc (told)
  stopped-fails u (Opens g) left by plain told z = plain
  stopped-fails u (GivenUp g) left by plain told z = by
  stopped-fails u (Draws g) left by plain told z = by

-- In worlds that are the same but for free blocks what an actor does is of one kind, where either nothing fails in both, or something in both.
pub kinds-one : (r : Rules) (settling : Bool) (a : ActorId) (k : ℕ) (w v w' v' : World) (e : Happening r w w') (f : Happening r v v') → SameButFree w v → IsDoneBy settling r a k e → IsDoneBy settling r a k f
    → IsNoOpening r e → IsNoOpening r f → left_at r e ≡ left_at r f → kind_of e ≡ kind_of f
kinds-one r settling a k w v w' v' e f same by by' plain plain' left =
    kind-is r settling a k w w' e by plain ∙ ap₂ (λ (l : LeftOpen) (n : ℕ). kind_left l (kind_by a.client (nat_lt 0 n))) left (heard-same w v a same) ∙ sym (kind-is r settling a k v v' f by' plain')

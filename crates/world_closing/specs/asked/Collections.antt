-- Of what a target collects for an attempt each other target that isn't counted is asked, or is about to answer: whatever happens keeps that.
use Rattle.std.specs.Prelude.{ℕ, ◌≡◌, ◌⊎◌, ◌≤◌, ◌==◌, ◌&&◌, not, Bool, true, false, [], slice_get, Option, Some, refl}
use Rattle.std.proofs.Common.{sym, ◌∙◌, ap, subst, arith, inl, inr}
use Rattle.std.proofs.Math.ListN.{set}
use Rattle.base_types.specs.declared.id.AttemptId.{AttemptId}
use Rattle.base_types.specs.declared.outcome.Outcome.{Outcome}
use Rattle.base_messages.specs.declared.message.Message.{Message}
use Rattle.base_messages.specs.declared.message.Message.TheVariants as message
use Rattle.daos_model.specs.BoolLaws.{and_left, and_right, both, clash}
use Rattle.dtx_base.specs.Leading.{to_target}
use Rattle.dtx_base.specs.Members.{has_target}
use Rattle.model_laws.specs.Members.{Has}
use Rattle.world_commit.specs.asks.Moving.{TargetMoves, heard-moves, now-here, same-there}
use Rattle.world_commit.specs.attempts.Attempts.{count, is_target}
use Rattle.world_commit.specs.attempts.Counting.{count-some}
use Rattle.world_commit.specs.attempts.History.{History}
use Rattle.world_commit.specs.attempts.Turning.{one-or_another}
use Rattle.world_base.specs.declared.letter.Letter.{Letter}
use Rattle.world_base.specs.declared.target.Collection.{Collection}
use Rattle.world_base.specs.declared.target.TargetState.{TargetState}
use Rattle.world_base.specs.declared.world.World.{World}
use Rattle.world_base.specs.Events.{Rules, TargetHearsBy, target_after, target_plan}
use Rattle.world_base.specs.Letters.{letter_of, reset_message, target}
use Rattle.world_base.specs.Snapshots.{others}
use Rattle.world_base.specs.Stops.{WorldEvent, no_memory, reset_letter}
use Rattle.world_base.specs.TargetTurns.{Hearing}
use Rattle.world_commit.specs.fates.Facts.{Attempts, PromptsFly, is_prompt, is_prompt_kind}
use Rattle.world_commit.specs.stops.Parts as part
use Rattle.world_upheld.specs.below.Legal.{own-target, some-counted, target-is}
use Rattle.world_closing.specs.asked.Collecting.{CameSo, CollectsOn, IsNew, IsTold, LacksOne, WasThere, asks_collected, same-lacks}

-- ---- the fact

-- A target that collects for an attempt hears from another target of it: it asks that one, or is answered, or told that it gets no answer.
pub data IsOnWay (w : World) (t m : ℕ) (x : AttemptId) : Type 0 where
  IsAsked : (q : Message) → asks_collected x q ≡ true → Has (letter_of (target t) (to_target m q)) w.messages → IsOnWay w t m x
  HasAnswered : (refusal : Option Outcome) → Has (letter_of (target m) (to_target t (message.Held x refusal))) w.messages → IsOnWay w t m x
  GotNone : (down : Bool) (q : Message) → asks_collected x q ≡ true → Has (letter_of (target m) (to_target t (reset_message m down q))) w.messages → IsOnWay w t m x

-- So it is for each other target that isn't counted of what is collected; and what is collected first for an attempt lacks one.
pub record CollectionsAreAsked (r : Rules) (w : World) : Type 0 where
  pub asked : (t : ℕ) (s : TargetState) (c : Collection) (m : ℕ) → slice_get w.targets t ≡ Some s → Has c s.memory.collecting → Has m (others (target_plan r t)) → has_target c.held m ≡ false → IsOnWay w t m c.attempt
  pub lacks : (t : ℕ) (s : TargetState) → slice_get w.targets t ≡ Some s → LacksOne (target_plan r t) s.memory

-- each event keeps it, where what is asked at once flies, before it and after
abbrev pub AllEventsAskOthers : Type 0
AllEventsAskOthers = (r : Rules) (h later : History) (w v : World) → Attempts r h w → (e : WorldEvent r w v) → Attempts r later e.u → CollectionsAreAsked r w → CollectionsAreAsked r v

-- ---- letters that stay

-- where all that goes to both targets stays
pub both-stay : (w u : World) (t m : ℕ) (x : AttemptId) → ((l : Letter) → Has l w.messages → l.to ≡ target t → Has l u.messages) → ((l : Letter) → Has l w.messages → l.to ≡ target m → Has l u.messages) → IsOnWay w t m x → IsOnWay u t m x
both-stay w u t m x to there (IsAsked q asks i) = IsAsked q asks (there (letter_of (target t) (to_target m q)) i refl)
both-stay w u t m x to there (HasAnswered refusal i) = HasAnswered refusal (to (letter_of (target m) (to_target t (message.Held x refusal))) i refl)
both-stay w u t m x to there (GotNone down q asks i) = GotNone down q asks (to (letter_of (target m) (to_target t (reset_message m down q))) i refl)

-- ---- what is lost

module _ (w u : World) (fly : PromptsFly w) (t m : ℕ) (x : AttemptId) where
  -- one target asks the other
  abbrev asking : Letter → Bool
  asking q = is_target t q.from && (is_target m q.to && asks_collected x q.message)

  asking-prompt : (q : Letter) → asking q ≡ true → is_prompt q ≡ true
  unfolding is_prompt
  asking-prompt q is =
      let rest = and_right (is_target t q.from) (is_target m q.to && asks_collected x q.message) is in
      both (is_prompt_kind q.message) (not q.from.client && not q.to.client) (kind q.message (and_right (is_target m q.to) (asks_collected x q.message) rest))
      (both (not q.from.client) (not q.to.client) (and_left (not q.from.client) (q.from.number == t) (and_left (is_target t q.from) (is_target m q.to && asks_collected x q.message) is))
      (and_left (not q.to.client) (q.to.number == m) (and_left (is_target m q.to) (asks_collected x q.message) rest)))
    where
      kind : (n : Message) → asks_collected x n ≡ true → is_prompt_kind n ≡ true
      kind (message.Freeze y c s) on = refl
      kind (message.Prune y c tracker e) on = refl
      kind n on = let no : ⊥ = cc in absurd no

  -- what is in flight is without an answer
  its-question : (q : Message) → asks_collected x q ≡ true → Has (letter_of (target t) (to_target m q)) w.messages → (n : Letter) × Has n w.asked × (asking n ≡ true)
  its-question q asks i = some-counted asking w.asked (let same : count asking w.asked ≡ count asking w.messages = fly asking asking-prompt in
      let some : 1 ≤ count asking w.messages = count-some asking w.messages (letter_of (target t) (to_target m q)) i (both (is_target t (target t)) (is_target m (target m) && asks_collected x q) (own-target t) (both (is_target m (target m)) (asks_collected x q) (own-target m) asks)) in
      omega (arith, same, some))

  -- what goes to the other is lost, and the one that asks is told
  pub is-told : (down : Bool) → ((l : Letter) → Has l w.messages → l.to ≡ target t → Has l u.messages) → ((n : Letter) → Has n w.asked → n.to ≡ target m → n.from ≡ target t → Has (reset_letter down n) u.messages) → IsOnWay w t m x → IsOnWay u t m x
  is-told down to lost (IsAsked q asks i) =
      let n = its-question q asks i in
      let rest = and_right (is_target t n.0.from) (is_target m n.0.to && asks_collected x n.0.message) n.2 in
      let from : n.0.from ≡ target t = target-is t n.0.from (and_left (is_target t n.0.from) (is_target m n.0.to && asks_collected x n.0.message) n.2) in
      let goes : n.0.to ≡ target m = target-is m n.0.to (and_left (is_target m n.0.to) (asks_collected x n.0.message) rest) in
      GotNone down n.0.message (and_right (is_target m n.0.to) (asks_collected x n.0.message) rest)
      (subst (λ a. Has (record { from = a; to = target t; message = reset_message a.number down n.0.message }) u.messages) goes
      (subst (λ a. Has (record { from = n.0.to; to = a; message = reset_message n.0.to.number down n.0.message }) u.messages) from (lost n.0 n.1 goes from)))
  is-told down to lost (HasAnswered refusal i) = HasAnswered refusal (to (letter_of (target m) (to_target t (message.Held x refusal))) i refl)
  is-told down to lost (GotNone was q asks i) = GotNone was q asks (to (letter_of (target m) (to_target t (reset_message m was q))) i refl)

-- ---- where targets collect as before

-- what is collected was collected before, at the same target
abbrev pub CollectAsBefore : World → World → Type 0
CollectAsBefore w u = (t : ℕ) (s : TargetState) → slice_get u.targets t ≡ Some s → (s.memory.collecting ≡ []) ⊎ ((y : TargetState) × (slice_get w.targets t ≡ Some y) × (s.memory.collecting ≡ y.memory.collecting))

nothing-lacks : (r : Rules) (t : ℕ) (s : TargetState) → s.memory.collecting ≡ [] → LacksOne (target_plan r t) s.memory
nothing-lacks r t s none = same-lacks (target_plan r t) no_memory s.memory none (λ x c found. let no : ⊥ = cc in absurd no)

-- where nothing is collected it is so
pub nothing-collected : (r : Rules) (w : World) → ((t : ℕ) (s : TargetState) → slice_get w.targets t ≡ Some s → s.memory.collecting ≡ []) → CollectionsAreAsked r w
nothing-collected r w none = record { asked = λ t s c m here i other off. absurd (subst (Has c) (none t s here) i); lacks = λ t s here. nothing-lacks r t s (none t s here) }

pub as-before : (r : Rules) (w u : World) → CollectAsBefore w u → CollectionsAreAsked r w
    → ((t : ℕ) (s : TargetState) (m : ℕ) (x : AttemptId) → slice_get u.targets t ≡ Some s → Has m (others (target_plan r t)) → (s.memory.collecting ≡ [] → ⊥) → IsOnWay w t m x → IsOnWay u t m x) → CollectionsAreAsked r u
as-before r w u same k on = record { asked = asked; lacks = lacks }
  where
    some : (s : TargetState) (c : Collection) → Has c s.memory.collecting → s.memory.collecting ≡ [] → ⊥
    some s c i none = subst (Has c) none i

    asked : (t : ℕ) (s : TargetState) (c : Collection) (m : ℕ) → slice_get u.targets t ≡ Some s → Has c s.memory.collecting → Has m (others (target_plan r t)) → has_target c.held m ≡ false → IsOnWay u t m c.attempt
    asked t s c m here i other off = elim (same t s here) [
      | inl none ↦ absurd (some s c i none)
      | inr y ↦ on t s m c.attempt here other (some s c i) (k.asked t y.0 c m y.1 (subst (Has c) y.2 i) other off)
    ]

    lacks : (t : ℕ) (s : TargetState) → slice_get u.targets t ≡ Some s → LacksOne (target_plan r t) s.memory
    lacks t s here = elim (same t s here) [
      | inl none ↦ nothing-lacks r t s none
      | inr y ↦ same-lacks (target_plan r t) y.0.memory s.memory y.2 (k.lacks t y.0 y.1)
    ]

-- no target changes
pub all-same : (w u : World) → u.targets ≡ w.targets → CollectAsBefore w u
all-same w u same t s here = inr (s, ap (λ ts. slice_get ts t) (sym same) ∙ here, refl)

-- or one does, that collects what it did, or nothing
pub one-same : (w u : World) (n : ℕ) (s z : TargetState) → slice_get w.targets n ≡ Some s → u.targets ≡ set w.targets n z → (z.memory.collecting ≡ []) ⊎ (z.memory.collecting ≡ s.memory.collecting) → CollectAsBefore w u
one-same w u n s z here targets its t y at = elim (one-or_another t n) [
  | inl same ↦ own (let found : Some z ≡ Some y = sym (part.now-here w u n s z here targets (λ o. o)) ∙ ap (slice_get u.targets) (sym same) ∙ at in cc) same its
  | inr apart ↦ inr (y, sym (part.now-there w u n s z here targets (λ o. o) t apart) ∙ at, refl)
]
  where
    own : z ≡ y → t ≡ n → (z.memory.collecting ≡ []) ⊎ (z.memory.collecting ≡ s.memory.collecting) → (y.memory.collecting ≡ []) ⊎ ((x : TargetState) × (slice_get w.targets t ≡ Some x) × (y.memory.collecting ≡ x.memory.collecting))
    own is same (inl none) = inl (ap (λ x. x.memory.collecting) (sym is) ∙ none)
    own is same (inr kept') = inr (s, ap (slice_get w.targets) same ∙ here, ap (λ x. x.memory.collecting) (sym is) ∙ kept')

-- all letters stay
pub stays-so : (r : Rules) (w u : World) → CollectAsBefore w u → ((l : Letter) (n : ℕ) → Has l w.messages → l.to ≡ target n → Has l u.messages) → CollectionsAreAsked r w → CollectionsAreAsked r u
stays-so r w u same stays k = as-before r w u same k (λ t s m x here other some on. both-stay w u t m x (λ l i to. stays l t i to) (λ l i to. stays l m i to) on)

-- ---- a target hears a letter

module _ (r : Rules) (w u : World) (Turn : Hearing) (g : TargetHearsBy Turn r w u) (one : CollectsOn (target_plan r g.t) g.s.memory g.l.from g.l.message (g.memory, g.did)) (k : CollectionsAreAsked r w) where
  abbrev z : TargetState
  z = target_after g.s g.new g.memory

  moves : TargetMoves w u g.t g.s z (Some g.l) g.did.posts
  moves = heard-moves r w u g

  -- what comes of another target stays, or is what is heard: then it is answered, or counts, or is asked again
  module _ (t m : ℕ) (c : Collection) (off : has_target c.held m ≡ false) (told : g.t ≡ t → IsTold g.l.from g.did.posts c g.l.message) where
    -- the letter that is heard
    heard-is : (l : Letter) → Some g.l ≡ Some l → g.l ≡ l
    heard-is l same = cc

    its-told : (l : Letter) → g.l ≡ l → l.to ≡ target t → IsTold l.from g.did.posts c l.message
    its-told l is to = subst (λ n. IsTold n.from g.did.posts c n.message) is (told (ap (λ a. a.number) (sym g.to_it ∙ ap (λ n. n.to) is ∙ to)))

    answered : (q : Message) → asks_collected c.attempt q ≡ true → g.l ≡ letter_of (target t) (to_target m q) → IsOnWay u t m c.attempt
    answered q asks is =
        let y = one.answers c.attempt (ap (λ n. asks_collected c.attempt n.message) is ∙ asks) in
        let at : g.t ≡ m = ap (λ a. a.number) (sym g.to_it ∙ ap (λ n. n.to) is) in
        HasAnswered y.0 (subst (λ n. Has (letter_of (target n) (to_target t (message.Held c.attempt y.0))) u.messages) at
        (subst (λ a. Has (letter_of (target g.t) (record { to = a; message = message.Held c.attempt y.0 })) u.messages) (ap (λ n. n.from) is) (moves.posted (record { to = g.l.from; message = message.Held c.attempt y.0 }) y.1)))

    again : (down : Bool) (q : Message) → asks_collected c.attempt q ≡ true → g.l ≡ letter_of (target m) (to_target t (reset_message m down q)) → IsOnWay u t m c.attempt
    again true q asks is = absurd (its-told (letter_of (target m) (to_target t (reset_message m true q))) is refl asks)
    again false q asks is =
        let post : Has (to_target m q) g.did.posts = its-told (letter_of (target m) (to_target t (reset_message m false q))) is refl asks in
        let at : g.t ≡ t = ap (λ a. a.number) (sym g.to_it ∙ ap (λ n. n.to) is) in
        IsAsked q asks (subst (λ n. Has (letter_of (target n) (to_target m q)) u.messages) at (moves.posted (to_target m q) post))

    goes-on : IsOnWay w t m c.attempt → IsOnWay u t m c.attempt
    goes-on (IsAsked q asks i) = elim (moves.stays (letter_of (target t) (to_target m q)) i) [ inl same ↦ answered q asks (heard-is (letter_of (target t) (to_target m q)) same) | inr j ↦ IsAsked q asks j ]
    goes-on (HasAnswered refusal i) = elim (moves.stays (letter_of (target m) (to_target t (message.Held c.attempt refusal))) i) [
      | inl same ↦
          (let l = letter_of (target m) (to_target t (message.Held c.attempt refusal)) in
          clash (has_target c.held m) (its-told l (heard-is l same) refl refl) off)
      | inr j ↦ HasAnswered refusal j
    ]
    goes-on (GotNone down q asks i) = elim (moves.stays (letter_of (target m) (to_target t (reset_message m down q))) i) [
      | inl same ↦ again down q asks (heard-is (letter_of (target m) (to_target t (reset_message m down q))) same)
      | inr j ↦ GotNone down q asks j
    ]

  -- what the target collects then
  own-asked : (c : Collection) (m : ℕ) → Has c g.memory.collecting → Has m (others (target_plan r g.t)) → has_target c.held m ≡ false → IsOnWay u g.t m c.attempt
  own-asked c m i other off = by (one.came c i)
    where
      by : CameSo (target_plan r g.t) g.s.memory g.did.posts c → IsOnWay u g.t m c.attempt
      by (WasThere q j same less) = goes-on g.t m c off (λ at. one.told c i) (subst (IsOnWay w g.t m) (sym same) (k.asked g.t g.s q m g.here j other (less m off)))
      by (IsNew asked) = let y = asked m other in IsAsked y.0 y.1 (moves.posted (to_target m y.0) y.2)

  pub heard-asked : CollectionsAreAsked r u
  heard-asked = record {
    asked = λ t s c m here i other off. elim (one-or_another t g.t) [
      | inl same ↦
          (let is : z ≡ s = (let found : Some z ≡ Some s = sym (now-here w u g.t g.s z (Some g.l) g.did.posts moves) ∙ ap (slice_get u.targets) (sym same) ∙ here in cc) in
          subst (λ n. IsOnWay u n m c.attempt) (sym same) (own-asked c m (subst (λ y. Has c y.memory.collecting) (sym is) i) (subst (λ n. Has m (others (target_plan r n))) same other) off))
      | inr apart ↦ goes-on t m c off (λ at. absurd (apart (sym at))) (k.asked t s c m (sym (same-there w u g.t g.s z (Some g.l) g.did.posts moves t apart) ∙ here) i other off)
    ];
    lacks = λ t s here. elim (one-or_another t g.t) [
      | inl same ↦
          (let is : z ≡ s = (let found : Some z ≡ Some s = sym (now-here w u g.t g.s z (Some g.l) g.did.posts moves) ∙ ap (slice_get u.targets) (sym same) ∙ here in cc) in
          subst (λ n. LacksOne (target_plan r n) s.memory) (sym same) (subst (λ y. LacksOne (target_plan r g.t) y.memory) is (one.lacks (k.lacks g.t g.s g.here))))
      | inr apart ↦ k.lacks t s (sym (same-there w u g.t g.s z (Some g.l) g.did.posts moves t apart) ∙ here)
    ];
  }

-- Of an attempt for whose end a client waits each other member that isn't counted is asked, or is about to answer: so a leader that knows a
-- member to be down lets no client wait for it.
use Rattle.std.specs.Prelude.{ℕ, ◌≡◌, ◌≤◌, ◌+◌, ◌==◌, ◌&&◌, ◌||◌, ◌++◌, not, Bool, true, false, List, [], ◌∷◌, filter, map, slice_get, Option, Some, None, refl}
use Rattle.std.proofs.Common.{sym, ◌∙◌, ap, arith, inl, inr}
use Rattle.base_types.specs.declared.id.AttemptId.{AttemptId}
use Rattle.base_types.specs.declared.report.Line.TheVariants as line
use Rattle.base_messages.specs.declared.actor.ActorId.{ActorId}
use Rattle.base_messages.specs.declared.message.Message.{Message}
use Rattle.base_messages.specs.declared.message.Message.TheVariants as message
use Rattle.daos_model.specs.BoolLaws.{and_left, and_right, both, clash, false_of, or_from_right}
use Rattle.daos_model.specs.Stops as told
use Rattle.daos_model.specs.Stops.{is_at, lines_at}
use Rattle.dtx_base.specs.declared.leading.Undecided.{Undecided}
use Rattle.dtx_base.specs.Members.{has_target}
use Rattle.model_laws.specs.Members.{Has, has-filter, has-left, has-map, has-right}
use Rattle.model_laws.specs.TargetLaws.{number_same, same_number}
use Rattle.world_standing.specs.world_commit.attempts.Attempts.{IsOther, count, inc_at, is_target, leader_of, one_if, row_at, row_in}
use Rattle.world_standing.specs.world_commit.attempts.Counting.{count-some}
use Rattle.world_standing.specs.world_commit.attempts.History.{History}
use Rattle.world_base.specs.declared.letter.Letter.{Letter}
use Rattle.world_base.specs.declared.target.Life.{Life}
use Rattle.world_base.specs.declared.target.Life.TheVariants as life
use Rattle.world_base.specs.declared.target.TargetState.{TargetState}
use Rattle.world_base.specs.declared.world.World.{World}
use Rattle.world_base.specs.Events.{Rules}
use Rattle.world_base.specs.Letters.{target}
use Rattle.world_base.specs.Stops.{is_down_at, is_given_up, is_not_to_down, is_to_down, no_memory, reset_letter, swept}
use Rattle.world_standing.specs.world_commit.fates.Facts.{Attempts, answers_for, asks_for, is_between, is_prompt, is_prompt_kind, is_talk, talking}
use Rattle.world_standing.specs.world_letters.lives.Lives.{Lives, standing_of}
use Rattle.world_standing.specs.world_commit.stops.Losses.{asked-by}
use Rattle.world_legal.specs.closing.Gone.{down-there}
use Rattle.world_standing.specs.world_letters.lives.Legal.{down-last}

-- ---- the fact

abbrev pub WaitersAreAsked : Rules → World → Type 0
WaitersAreAsked r w = (x : AttemptId) (m : ℕ) (u : Undecided) (c : ActorId) → IsOther r x m → row_at w (leader_of r x) x ≡ Some u → u.client ≡ Some c → has_target u.counted m ≡ false → 1 ≤ talking r (inc_at w (leader_of r x)) w x m

-- ---- counts

-- one that is counted is there
pub some-counted : {T : Type 0} (p : T → Bool) (xs : List T) → 1 ≤ count p xs → (x : T) × Has x xs × (p x ≡ true)
some-counted p [] some = absurd (omega (arith, some))
some-counted p (x ∷ xs) some = by (λ h. some-counted p xs h) (p x) refl some
  where
    by : (1 ≤ count p xs → (y : _) × Has y xs × (p y ≡ true)) → (b : Bool) → p x ≡ b → 1 ≤ one_if b + count p xs → (y : _) × Has y (x ∷ xs) × (p y ≡ true)
    by rest true is h = (x, inl refl, is)
    by rest false is h = let k = rest (omega (arith, h)) in (k.0, inr k.1, k.2)

-- ---- which letters are counted

-- a letter goes to the member, which is asked, or to the leader, which the member answers
pub data TalkWay (r : Rules) (inc : ℕ) (x : AttemptId) (m : ℕ) (l : Letter) : Type 0 where
  Asks : is_target m l.to ≡ true → asks_for inc x l.message ≡ true → TalkWay r inc x m l
  Answers : is_target (leader_of r x) l.to ≡ true → is_target m l.from ≡ true → answers_for inc x l.message ≡ true → TalkWay r inc x m l

pub way-of : (r : Rules) (inc : ℕ) (x : AttemptId) (m : ℕ) (l : Letter) → is_talk r inc x m l ≡ true → TalkWay r inc x m l
unfolding is_between
way-of r inc x m l is = by (is_target m l.to && asks_for inc x l.message) refl is
  where
    by : (b : Bool) → (is_target m l.to && asks_for inc x l.message) ≡ b → (b || is_target (leader_of r x) l.to && (is_target m l.from && answers_for inc x l.message)) ≡ true → TalkWay r inc x m l
    by true asks h = Asks (and_left (is_target m l.to) (asks_for inc x l.message) asks) (and_right (is_target m l.to) (asks_for inc x l.message) asks)
    by false off h =
        let rest = and_right (is_target (leader_of r x) l.to) (is_target m l.from && answers_for inc x l.message) h in
        Answers (and_left (is_target (leader_of r x) l.to) (is_target m l.from && answers_for inc x l.message) h) (and_left (is_target m l.from) (answers_for inc x l.message) rest) (and_right (is_target m l.from) (answers_for inc x l.message) rest)

pub from-way : (r : Rules) (inc : ℕ) (x : AttemptId) (m : ℕ) (l : Letter) → TalkWay r inc x m l → is_talk r inc x m l ≡ true
unfolding is_between
from-way r inc x m l (Asks to asks) = ap (λ b. b || is_target (leader_of r x) l.to && (is_target m l.from && answers_for inc x l.message)) (both (is_target m l.to) (asks_for inc x l.message) to asks)
from-way r inc x m l (Answers to from answers) =
    or_from_right (is_target m l.to && asks_for inc x l.message) (is_target (leader_of r x) l.to && (is_target m l.from && answers_for inc x l.message))
    (both (is_target (leader_of r x) l.to) (is_target m l.from && answers_for inc x l.message) to (both (is_target m l.from) (answers_for inc x l.message) from answers))

pub target-is : (t : ℕ) (a : ActorId) → is_target t a ≡ true → a ≡ target t
target-is t a is = made a.client a.number (and_left (not a.client) (a.number == t) is) (number_same a.number t (and_right (not a.client) (a.number == t) is))
  where
    made : (b : Bool) (n : ℕ) → not b ≡ true → n ≡ t → record { client = b; number = n } ≡ target t
    made true n off same = let no : ⊥ = cc in absurd no
    made false n off same = ap target same

pub own-target : (t : ℕ) → is_target t (target t) ≡ true
own-target t = same_number t

-- ---- what is given up

-- so a target of which a line tells it is down
pub told-down : (w : World) → Lives w → (t : ℕ) (s : TargetState) → slice_get w.targets t ≡ Some s → Has (line.Down t) w.lines → s.life ≡ life.Down
told-down w k t s here i = is-down s.life (down-last told.Running (lines_at t w.lines) t (standing_of s.life) (has-filter (is_at t) w.lines (line.Down t) i (same_number t)) (k.told t s here).stands)
  where
    is-down : (l : Life) → standing_of l ≡ told.Down → l ≡ life.Down
    is-down life.Running e = let no : ⊥ = cc in absurd no
    is-down life.Stopped e = let no : ⊥ = cc in absurd no
    is-down life.Down e = refl

-- ---- what goes to targets that are given up is lost

-- a target that doesn't run has no row
pub row-runs : (r : Rules) (h : History) (w : World) → Attempts r h w → (t : ℕ) (s : TargetState) (x : AttemptId) (u : Undecided) → slice_get w.targets t ≡ Some s → row_at w t x ≡ Some u → (s.life ≡ life.Running → ⊥) → ⊥
row-runs r h w A t s x u here row off =
    let quiet : s.memory ≡ no_memory = A.on.quiet t s here off in
    let none : row_at w t x ≡ None = ap (λ o. row_in o x) here ∙ ap (λ m. row_in (Some (record s { memory = m })) x) quiet in
    let no : ⊥ = cc (row, none) in no

module _ (r : Rules) (h : History) (w : World) (A : Attempts r h w) where
  -- the leader of a row isn't given up
  leads-on : (x : AttemptId) (u : Undecided) → row_at w (leader_of r x) x ≡ Some u → is_down_at w.targets (leader_of r x) ≡ false
  leads-on x u row = false_of (is_down_at w.targets (leader_of r x)) (λ down. by (slice_get w.targets (leader_of r x)) refl down)
    where
      by : (o : Option TargetState) → slice_get w.targets (leader_of r x) ≡ o → is_down_at w.targets (leader_of r x) ≡ true → ⊥
      by None none down = let no : ⊥ = cc (sym row ∙ ap (λ o. row_in o x) none) in no
      by (Some s) here down = row-runs r h w A (leader_of r x) s x u here row (λ runs. clash (is_given_up s.life) (sym (down-there w.targets (leader_of r x) s here) ∙ down) (ap is_given_up runs))

  module _ (inc : ℕ) (x : AttemptId) (m : ℕ) (up : is_down_at w.targets (leader_of r x) ≡ false) where
    -- what the leader asks the member
    abbrev asking : Letter → Bool
    asking q = is_target (leader_of r x) q.from && (is_target m q.to && asks_for inc x q.message)

    asking-prompt : (q : Letter) → asking q ≡ true → is_prompt q ≡ true
    unfolding is_prompt
    asking-prompt q is =
        let rest = and_right (is_target (leader_of r x) q.from) (is_target m q.to && asks_for inc x q.message) is in
        both (is_prompt_kind q.message) (not q.from.client && not q.to.client) (kind q.message (and_right (is_target m q.to) (asks_for inc x q.message) rest))
        (both (not q.from.client) (not q.to.client) (and_left (not q.from.client) (q.from.number == leader_of r x) (and_left (is_target (leader_of r x) q.from) (is_target m q.to && asks_for inc x q.message) is))
        (and_left (not q.to.client) (q.to.number == m) (and_left (is_target m q.to) (asks_for inc x q.message) rest)))
      where
        kind : (n : Message) → asks_for inc x n ≡ true → is_prompt_kind n ≡ true
        kind (message.Prepare e first ws i) on = refl
        kind (message.Status a i) on = refl
        kind n on = let no : ⊥ = cc in absurd no

    -- what goes to the leader stays
    stays : (l : Letter) → Has l w.messages → is_target (leader_of r x) l.to ≡ true → Has l (swept w).messages
    stays l i to = has-filter (is_not_to_down w.targets) (w.messages ++ map (reset_letter true) (filter (is_to_down w.targets) w.asked)) l (has-left w.messages _ l i) (ap (λ a. not (not a.client && is_down_at w.targets a.number)) (target-is (leader_of r x) l.to to) ∙ ap not up)

    -- and what asks the member, or its Reset
    lost : (l : Letter) → Has l w.messages → is_target m l.to ≡ true → asks_for inc x l.message ≡ true → (n : Letter) × Has n (swept w).messages × (is_talk r inc x m n ≡ true)
    lost l i to asks = by (is_not_to_down w.targets l) refl
      where
        own : is_target (leader_of r x) l.from ≡ true
        own = asked-by r h w inc x l.from l.to l.message (A.on.letters l i) asks

        q : (q : Letter) × Has q w.asked × (asking q ≡ true)
        q = some-counted asking w.asked (let same : count asking w.asked ≡ count asking w.messages = A.prompt asking asking-prompt in
            let some : 1 ≤ count asking w.messages = count-some asking w.messages l i (both (is_target (leader_of r x) l.from) (is_target m l.to && asks_for inc x l.message) own (both (is_target m l.to) (asks_for inc x l.message) to asks)) in
            omega (arith, same, some))

        from : is_target (leader_of r x) q.0.from ≡ true
        from = and_left (is_target (leader_of r x) q.0.from) (is_target m q.0.to && asks_for inc x q.0.message) q.2

        rest : (is_target m q.0.to && asks_for inc x q.0.message) ≡ true
        rest = and_right (is_target (leader_of r x) q.0.from) (is_target m q.0.to && asks_for inc x q.0.message) q.2

        its : is_target m q.0.to ≡ true
        its = and_left (is_target m q.0.to) (asks_for inc x q.0.message) rest

        by : (b : Bool) → is_not_to_down w.targets l ≡ b → (n : Letter) × Has n (swept w).messages × (is_talk r inc x m n ≡ true)
        by true kept = (l, has-filter (is_not_to_down w.targets) (w.messages ++ map (reset_letter true) (filter (is_to_down w.targets) w.asked)) l (has-left w.messages _ l i) kept, from-way r inc x m l (Asks to asks))
        by false gone = (
          reset_letter true q.0,
          has-filter (is_not_to_down w.targets) (w.messages ++ map (reset_letter true) (filter (is_to_down w.targets) w.asked)) (reset_letter true q.0)
              (has-right w.messages _ (reset_letter true q.0) (has-map (reset_letter true) (filter (is_to_down w.targets) w.asked) q.0 (has-filter (is_to_down w.targets) w.asked q.0 q.1 down)))
              (ap (λ a. not (not a.client && is_down_at w.targets a.number)) (target-is (leader_of r x) q.0.from from) ∙ ap not up),
          from-way r inc x m (reset_letter true q.0) (Answers from its (and_right (is_target m q.0.to) (asks_for inc x q.0.message) rest)),
        )
          where
            down : is_to_down w.targets q.0 ≡ true
            down = ap (λ a. not a.client && is_down_at w.targets a.number) (target-is m q.0.to its ∙ sym (target-is m l.to to)) ∙ not-not (is_to_down w.targets l) gone
              where
                not-not : (b : Bool) → not b ≡ false → b ≡ true
                not-not true e = refl
                not-not false e = let no : ⊥ = cc in absurd no

  pub sweeping-asked : WaitersAreAsked r w → WaitersAreAsked r (swept w)
  sweeping-asked k x m u c other row client off = let l = some-counted (is_talk r inc x m) w.messages (k x m u c other row client off) in by l.0 l.1 (way-of r inc x m l.0 l.2)
    where
      inc : ℕ
      inc = inc_at w (leader_of r x)

      up : is_down_at w.targets (leader_of r x) ≡ false
      up = leads-on x u row

      by : (l : Letter) → Has l w.messages → TalkWay r inc x m l → 1 ≤ talking r inc (swept w) x m
      by l i (Asks to asks) = let n = lost inc x m up l i to asks in count-some (is_talk r inc x m) (swept w).messages n.0 n.1 n.2
      by l i (Answers to from answers) = count-some (is_talk r inc x m) (swept w).messages l (stays inc x m up l i to) (from-way r inc x m l (Answers to from answers))

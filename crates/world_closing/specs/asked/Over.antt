-- Where nobody has a message to hear or a command to go on with, a run is over, also where snapshots were made and containers aggregated; and
-- nothing is collected.
use Rattle.std.specs.Prelude.{ℕ, ◌≡◌, ◌⊎◌, ◌≤◌, ◌<◌, ◌+◌, ◌++◌, ◌==◌, ◌&&◌, not, Bool, true, false, nat_le, nat_lt, List, [], ◌∷◌, filter, find, length, map, slice_get, Option, Some, None, refl, if◌then◌else◌}
use Rattle.std.specs.List.{list_all}
use Rattle.std.proofs.Common.{zero, suc, sym, ◌∙◌, ap, subst, arith, inl, inr}
use Rattle.std.proofs.lemmas.Bool.Decides.{nat_tests}
use Rattle.std.proofs.lemmas.Option.{slice_get_past, slice_get_within}
use Rattle.base_types.specs.declared.epoch.Epoch.{Epoch}
use Rattle.base_types.specs.declared.id.AttemptId.{AttemptId}
use Rattle.base_types.specs.declared.id.ObjId.{ObjId}
use Rattle.base_types.specs.declared.report.Attempt.{Attempt}
use Rattle.base_types.specs.declared.report.Line.TheVariants as line
use Rattle.base_types.specs.Placement.{members}
use Rattle.base_types.specs.PlacementLaws.{members-within}
use Rattle.base_types.specs.Operations.{read_path}
use Rattle.base_messages.specs.declared.actor.ActorId.{ActorId}
use Rattle.base_messages.specs.declared.message.Message.TheVariants as message
use Rattle.base_messages.specs.declared.message.Post.{Post}
use Rattle.daos_model.specs.BoolLaws.{and_left}
use Rattle.daos_model.specs.EntryLaws.{same_attempt-itself}
use Rattle.dtx_base.specs.declared.leading.Undecided.{Undecided}
use Rattle.dtx_base.specs.Leading.{to_target, undecided_attempt}
use Rattle.dtx_base.specs.Members.{all_targets, has_target}
use Rattle.model_laws.specs.DecidedLaws.{has-all}
use Rattle.model_laws.specs.Lists.{at-within}
use Rattle.model_laws.specs.Members.{Has, contains-from_has, has-from_filter}
use Rattle.model_laws.specs.PlaceLaws.{asked-member}
use Rattle.world_commit.specs.asks.Asks.{IsQuery, IsQueryOf, IsVerdict}
use Rattle.world_commit.specs.attempts.Attempts.{IsOther, inc_at, leader_of, one_if, others_of, row_at, row_in}
use Rattle.world_commit.specs.attempts.History.{History}
use Rattle.world_commit.specs.attempts.Stored.{row-found}
use Rattle.world_base.specs.declared.client.ClientPlan.{ClientPlan}
use Rattle.world_base.specs.declared.client.ClientState.{ClientState}
use Rattle.world_base.specs.declared.client.Present.{Present}
use Rattle.world_base.specs.declared.letter.Letter.{Letter}
use Rattle.world_base.specs.declared.target.Collection.{Collection}
use Rattle.world_base.specs.declared.target.Life.{Life}
use Rattle.world_base.specs.declared.target.Life.TheVariants as life
use Rattle.world_base.specs.declared.target.TargetState.{TargetState}
use Rattle.world_base.specs.declared.world.World.{World}
use Rattle.world_base.specs.ClientTurns.{is_done, member_asked, waits}
use Rattle.world_base.specs.Events.{Rules, client_plan, target_plan}
use Rattle.world_base.specs.Letters.{client, is_talk_of, letter_of, reset_message, target}
use Rattle.world_base.specs.Snapshots.{is_another, is_collection_of, others}
use Rattle.world_letters.specs.clients.Standing.{AreOfPresent, HasTold, has_number, number_of}
use Rattle.world_commit.specs.fates.Facts.{Attempts, IsOneUnless, IsSaidSo, down_in, is_talk, knows_down, talking}
use Rattle.world_letters.specs.lines.LastLines.{HasClients}
use Rattle.world_letters.specs.lines.Lines.{Lines}
use Rattle.world_letters.specs.lives.Legal.{NoneIsStopped}
use Rattle.world_commit.specs.questions.Facts.{IsAsked, IsOnQuery, IsReset, Questions}
use Rattle.world_commit.specs.requests.Rows.{RowsStandOnce}
use Rattle.world_upheld.specs.below.Legal.{Answers, AreAll, Asks, DownsAreKnown, IsOver, IsStill, NoneGoesToGivenUp, TalkWay, WaitersAreAsked, WaitsForNone, leader-there, other-there, some-counted, target-is, way-of, writes-led}
use Rattle.world_letters.specs.talks.Asked.{ARead, ASnapshot, AnAggregation, Asked, ItsWrites, group_of_read}
use Rattle.world_letters.specs.talks.AskLaws.{sent-is-asked}
use Rattle.world_letters.specs.waits.ClientLaws.{present-of}
use Rattle.world_letters.specs.waits.Lists.{filter-none}
use Rattle.world_letters.specs.waits.Parts.{held-parts}
use Rattle.world_letters.specs.waits.Waits as wait
use Rattle.world_letters.specs.waits.Waits.{Conversation, Held, HoldsIt, IsQuestion, ItsAsk, ItsRequest, TalksSo, Waits, asked_of, collected_at, held_by, held_from, held_of, is_collected_of, is_open_of, is_parked_of, is_waited_by, open_at, parked_at}
use Rattle.world_closing.specs.asked.Collections as collection
use Rattle.world_closing.specs.asked.Collections.{CollectionsAreAsked, IsOnWay}

-- ---- what holds at each moment

-- A target for each number, and a client for each list of the script; what becomes of attempts, what targets ask one another, conversations,
-- rows and lines; which targets are known to be down; nothing goes to such as were given up; and who is waited for is asked, by leaders and for
-- what is collected.
pub record IsUnderWay (r : Rules) (h : History) (v : World) : Type 0 where
  pub some : 0 < r.script.targets
  pub all : AreAll r v
  pub attempts : Attempts r h v
  pub questions : Questions r h v
  pub talk : Conversation r v
  pub rows : RowsStandOnce v
  pub lines : Lines r v
  pub knows : DownsAreKnown v
  pub gone : NoneGoesToGivenUp v
  pub asked : WaitersAreAsked r v
  pub collected : CollectionsAreAsked r v

-- no target collects anything
abbrev pub NothingIsCollected : World → Type 0
NothingIsCollected v = (t : ℕ) (s : TargetState) → slice_get v.targets t ≡ Some s → s.memory.collecting ≡ []

-- a run is over, and nothing is collected
pub record IsAllOver (r : Rules) (v : World) : Type 0 where
  pub over : IsOver r v
  pub nothing : NothingIsCollected v

-- ---- lists

-- where not all pass, one doesn't
one-fails : (p : ℕ → Bool) (xs : List ℕ) → list_all p xs ≡ false → (x : ℕ) × Has x xs × (p x ≡ false)
one-fails p [] none = let no : ⊥ = cc in absurd no
one-fails p (x ∷ xs) none = by (p x) refl (one-fails p xs) none
  where
    by : (b : Bool) → p x ≡ b → (list_all p xs ≡ false → (y : ℕ) × Has y xs × (p y ≡ false)) → (b && list_all p xs) ≡ false → (y : ℕ) × Has y (x ∷ xs) × (p y ≡ false)
    by true is rest h = let k = rest h in (k.0, inr k.1, k.2)
    by false off rest h = (x, inl refl, off)

none-there : {T : Type 0} (xs : List T) → ((x : T) → Has x xs → ⊥) → xs ≡ []
none-there [] none = refl
none-there (x ∷ xs) none = absurd (none x (inl refl))

past : {T : Type 0} (xs : List T) (n : ℕ) → slice_get xs n ≡ None → length xs ≤ n
past [] n none = omega arith
past (x ∷ xs) zero none = let no : ⊥ = cc in absurd no
past (x ∷ xs) (suc n) none = let k : length xs ≤ n = past xs n none in omega (arith, k)

-- ---- clients

past-last : (m n : ℕ) → nat_le m n ≡ true → m ≤ n
past-last m n h = grind (arith, nat_tests)

-- a client whose commands are over is at no attempt
at-no_attempt : (p : ClientPlan) (c : ClientState) (attempts : List Attempt) → is_done p c ≡ true → HasTold p c attempts → c.present ≡ None
at-no_attempt p c attempts done k = by c.present refl k.at_present
  where
    by : (o : Option Present) → c.present ≡ o → AreOfPresent p c.place c.command k.begun (number_of o) → o ≡ None
    by None at here = refl
    by (Some a) at here =
        let none : slice_get p.commands c.place ≡ None = slice_get_past p.commands c.place (past-last (length p.commands) c.place done) in
        let bad : false ≡ true = sym (ap has_number none) ∙ here.2 in
        let no : ⊥ = cc in absurd no

-- a member that is asked is a target of the run
member-there : (o : Option ObjId) (command targets group : ℕ) → 0 < targets → member_asked o command targets group < targets
member-there None command targets group some = some
member-there (Some o) command targets group some = has-all (λ t. t < targets) (members o group targets) _ (members-within o group targets some) (asked-member o command targets group)

-- what a client asks goes to a target of the run
abbrev GoesThere : Rules → Post → Type 0
GoesThere r q = (t : ℕ) × (t < r.script.targets) × (q.to ≡ target t)

question-there : (r : Rules) (n : ℕ) (c : ClientState) (q : Post) → 0 < r.script.targets → waits c ≡ true → IsQuestion (client_plan r n) c q → GoesThere r q
question-there r n c q some now is = by is
  where
    there : (k : Epoch) (s : Post) → Asked (client_plan r n) k c (present-of c now).a s → GoesThere r s
    there k s (ARead ops turns snapshot op z at here asks says) = (_, member-there (read_path z).obj c.command r.script.targets (group_of_read (client_plan r n) (present-of c now).a (read_path z)) some, ap (λ y. y.to) says)
    there k s (ItsWrites ops turns snapshot w ws at last all says) = (_, writes-led (w ∷ ws) r.script.targets some, ap (λ y. y.to) says)
    there k s (ASnapshot name cont at says) = (0, some, ap (λ y. y.to) says)
    there k s (AnAggregation cont at says) = (0, some, ap (λ y. y.to) says)

    by : IsQuestion (client_plan r n) c q → GoesThere r q
    by (ItsRequest k low sent) = there k q (sent-is-asked (client_plan r n) k c (present-of c now).a q (present-of c now).at sent)
    by (ItsAsk k s f low sent commit says) =
        let z = there k s (sent-is-asked (client_plan r n) k c (present-of c now).a s (present-of c now).at sent) in
        (z.0, z.1, ap (λ y. y.to) says ∙ z.2)

-- where no target holds anything for a client, nothing is held for it
none-held : (n t : ℕ) (ss : List TargetState) → ((k m : ℕ) (s : TargetState) → slice_get ss k ≡ Some s → held_by n m s.memory ≡ []) → held_from n t ss ≡ []
none-held n t [] none = refl
none-held n t (s ∷ ss) none = ap (λ xs. xs ++ held_from n (t + 1) ss) (none 0 t s refl) ∙ none-held n (t + 1) ss (λ k m z at. none (suc k) m z at)

-- ---- the end

module _ (r : Rules) (h : History) (v : World) (k : IsUnderWay r h v) (ended : IsStill r v) where
  none-stopped : NoneIsStopped v
  none-stopped t s here = by s.life refl
    where
      by : (l : Life) → s.life ≡ l → (s.life ≡ life.Running) ⊎ (s.life ≡ life.Down)
      by life.Running is = inl is
      by life.Stopped is = absurd (ended.none_stopped t s here is)
      by life.Down is = inr is

  -- ---- what is in flight

  none-to_target : (l : Letter) (t : ℕ) → Has l v.messages → t < r.script.targets → l.to ≡ target t → ⊥
  none-to_target l t i within to =
      let many : length v.targets ≡ r.script.targets = k.all.targets in
      let s = at-within v.targets t (omega (arith, within, many)) in
      elim (none-stopped t s.0 s.1) [
        | inl runs ↦ ended.to_targets t s.0 l s.1 runs (contains-from_has v.messages l i) to
        | inr down ↦ k.gone l t s.0 i to s.1 down
      ]

  none-to_client : (l : Letter) (n : ℕ) → Has l v.messages → n < length r.script.clients → l.to ≡ client n → ⊥
  none-to_client l n i within to = ended.to_clients n l within (contains-from_has v.messages l i) to

  -- nobody is asked for an attempt, or answers
  none-talks : (inc : ℕ) (x : AttemptId) (m : ℕ) → IsOther r x m → 1 ≤ talking r inc v x m → ⊥
  none-talks inc x m other some = let l = some-counted (is_talk r inc x m) v.messages some in by l.0 l.1 (way-of r inc x m l.0 l.2)
    where
      by : (l : Letter) → Has l v.messages → TalkWay r inc x m l → ⊥
      by l i (Asks to is) = none-to_target l m i (other-there r x m k.some other) (target-is m l.to to)
      by l i (Answers to from is) = none-to_target l (leader_of r x) i (leader-there r x k.some) (target-is (leader_of r x) l.to to)

  -- ---- what targets hold

  module _ (t : ℕ) (s : TargetState) (here : slice_get v.targets t ≡ Some s) where
    within : t < r.script.targets
    within = let many : length v.targets ≡ r.script.targets = k.all.targets in let low : t < length v.targets = slice_get_within v.targets t s here in omega (arith, low, many)

    none-parked : s.memory.member.parked ≡ []
    none-parked = none-there s.memory.member.parked (λ p i. let q = k.questions.waiting t s p here i in on p.on (Some q.of) q.asked)
      where
        query : (x : AttemptId) (ask : Option AttemptId) (l : Letter) → Has l v.messages → IsQueryOf t x ask l → ⊥
        query x ask l i (IsQuery leader says from to) =
            let so : IsSaidSo r h v l.from l.to (message.Query x ask) = subst (IsSaidSo r h v l.from l.to) says (k.attempts.on.letters l i) in
            none-to_target l (leader_of r x) i (leader-there r x k.some) so.way.receiver
        query x ask l i (IsVerdict inc verdict says to) = none-to_target l t i within to

        on : (x : AttemptId) (ask : Option AttemptId) → IsOnQuery v t x ask → ⊥
        on x ask (IsAsked f) = query x ask f.0 f.1 f.2
        on x ask (IsReset f) = none-to_target f.0 t f.1 within f.2.to

    -- an attempt that is undecided there
    module _ (u : Undecided) (i : Has u s.memory.leader.undecided) where
      row : row_at v t u.attempt ≡ Some u
      row = ap (λ y. row_in y u.attempt) here ∙ row-found undecided_attempt s.memory.leader.undecided u (k.rows t s here) i

      led-here : row_at v (leader_of r u.attempt) u.attempt ≡ Some u
      led-here = ap (λ n. row_at v n u.attempt) (sym ((k.attempts.on.each u.attempt).rows.undecided t u row).here.leads) ∙ row

      -- lacks a member
      lacking : (m : ℕ) × IsOther r u.attempt m × (has_target u.counted m ≡ false)
      lacking = one-fails (has_target u.counted) (others_of r u.attempt) (k.questions.rows t u.attempt u row)

      lacks-down : (m : ℕ) × IsOther r u.attempt m × Has (line.Down m) v.lines
      lacks-down = (lacking.0, lacking.1, by ((k.attempts.on.each u.attempt).awaited.once lacking.0 u lacking.1 led-here))
        where
          told : knows_down v (leader_of r u.attempt) lacking.0 ≡ true → Has (line.Down lacking.0) v.lines
          told is = at (slice_get v.targets (leader_of r u.attempt)) refl is
            where
              at : (z : Option TargetState) → slice_get v.targets (leader_of r u.attempt) ≡ z → down_in z lacking.0 ≡ true → Has (line.Down lacking.0) v.lines
              at None none on = let no : ⊥ = cc in absurd no
              at (Some y) there on = k.knows (leader_of r u.attempt) lacking.0 y there on

          by : IsOneUnless (knows_down v (leader_of r u.attempt) lacking.0) (talking r (inc_at v (leader_of r u.attempt)) v u.attempt lacking.0 + one_if (has_target u.counted lacking.0)) → Has (line.Down lacking.0) v.lines
          by (inl one) = let none : one_if (has_target u.counted lacking.0) ≡ 0 = ap one_if lacking.2 in absurd (none-talks (inc_at v (leader_of r u.attempt)) u.attempt lacking.0 lacking.1 (omega (arith, one, none)))
          by (inr down) = told down.1

      -- and no client waits for it
      nobody-waits : u.client ≡ None
      nobody-waits = by u.client refl
        where
          by : (c : Option ActorId) → u.client ≡ c → u.client ≡ None
          by None is = is
          by (Some c) is = absurd (none-talks (inc_at v (leader_of r u.attempt)) u.attempt lacking.0 lacking.1 (k.asked u.attempt lacking.0 u c lacking.1 led-here is lacking.2))

    -- nobody is asked for what is collected, or answers
    none-on_way : (m : ℕ) (x : AttemptId) → Has m (others (target_plan r t)) → IsOnWay v t m x → ⊥
    none-on_way m x other way = by way
      where
        low : m < r.script.targets
        low = below m (and_left (nat_lt m r.script.targets) (not (m == t)) (has-from_filter (is_another (target_plan r t)) all_targets m other).1)
          where
            below : (n : ℕ) → nat_lt n r.script.targets ≡ true → n < r.script.targets
            below n is = grind (arith, nat_tests)

        by : IsOnWay v t m x → ⊥
        by (collection.IsAsked q asks i) = none-to_target (letter_of (target t) (to_target m q)) m i low refl
        by (collection.HasAnswered refusal i) = none-to_target (letter_of (target m) (to_target t (message.Held x refusal))) t i within refl
        by (collection.GotNone down q asks i) = none-to_target (letter_of (target m) (to_target t (reset_message m down q))) t i within refl

    -- so nothing is
    none-collected : s.memory.collecting ≡ []
    none-collected = by s.memory.collecting refl
      where
        by : (cs : List Collection) → s.memory.collecting ≡ cs → s.memory.collecting ≡ []
        by [] is = is
        by (c ∷ cs) is =
            let found : find (is_collection_of c.attempt) s.memory.collecting ≡ Some c =
            ap (find (is_collection_of c.attempt)) is ∙ ap (λ (b : Bool). if b then Some c else find (is_collection_of c.attempt) cs) (same_attempt-itself c.attempt) in
            let m = one-fails (has_target c.held) (others (target_plan r t)) (k.collected.lacks t s here c.attempt c found) in
            absurd (none-on_way m.0 c.attempt m.1 (k.collected.asked t s c m.0 here (subst (Has c) (sym is) (inl refl)) m.1 m.2))

    -- nothing is held for any client
    none-held_by : (n m : ℕ) → held_by n m s.memory ≡ []
    none-held_by n m =
        held-parts n m s.memory [] [] [] (ap (λ ps. map (parked_at m) (filter (is_parked_of n) ps)) none-parked)
        (ap (map (open_at m)) (filter-none (is_open_of n) s.memory.leader.undecided (λ u i. ap (is_waited_by n) (nobody-waits u i))))
        (ap (λ cs. map (collected_at m) (filter (is_collected_of n) cs)) none-collected)

    rests : WaitsForNone r v s
    rests = record { parked = none-parked; unwaited = nobody-waits; lacks = lacks-down }

  -- ---- clients

  nothing-held : (n : ℕ) → held_of n v ≡ []
  nothing-held n = none-held n 0 v.targets (λ t m s at. none-held_by t s at n m)

  module _ (n : ℕ) (c : ClientState) (here : slice_get v.clients n ≡ Some c) where
    waits-not : waits c ≡ true → ⊥
    waits-not now = by (subst (TalksSo (client_plan r n) n c (filter (is_talk_of n) v.messages) (held_of n v) (asked_of n v)) now (k.talk.talks n c here))
      where
        flies : (l : Letter) → filter (is_talk_of n) v.messages ≡ l ∷ [] → Has l v.messages
        flies l one = (has-from_filter (is_talk_of n) v.messages l (subst (Has l) (sym one) (inl refl))).0

        by : Waits (client_plan r n) n c (filter (is_talk_of n) v.messages) (held_of n v) (asked_of n v) → ⊥
        by (wait.IsAsked q is one none from) = let z = question-there r n c q k.some now is in none-to_target (letter_of (client n) q) z.0 (flies (letter_of (client n) q) one) z.1 z.2
        by (wait.IsHeld q x is holds none one from) = let nothing = nothing-held n in let no : ⊥ = cc (nothing, one) in no
        by (wait.IsReplied q l is reply one none free) =
            let many : length v.clients ≡ length r.script.clients = k.all.clients in
            let low : n < length v.clients = slice_get_within v.clients n c here in
            none-to_client l n (flies l one) (omega (arith, low, many)) reply.to

    done : (is_done (client_plan r n) c ≡ true) × (c.present ≡ None)
    done = let lines = k.lines.told n c here in (over, at-no_attempt (client_plan r n) c lines.attempts over lines.tells.told)
      where
        over : is_done (client_plan r n) c ≡ true
        over = elim (ended.clients n c here) [ inl now ↦ absurd (waits-not now) | inr is ↦ is ]

  has-clients : HasClients r v
  has-clients n none = slice_get_past r.script.clients n (subst (λ m. m ≤ n) k.all.clients (past v.clients n none))

  pub is-all_over : IsAllOver r v
  is-all_over = record {
    over = record {
      silent = λ l i. record { client = λ n within to. none-to_client l n i within to; target = λ t within to. none-to_target l t i within to };
      targets = none-stopped;
      rest = λ t s here runs. rests t s here;
      clients = has-clients;
      done = λ n c here. done n c here;
    };
    nothing = λ t s here. none-collected t s here;
  }

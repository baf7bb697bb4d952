-- Stops and openings keep the facts of outcomes.
use Rattle.std.specs.Prelude.{ℕ, ◌≡◌, ◌⊎◌, ◌+◌, ◌++◌, Bool, true, false, not, List, [], ◌∷◌, filter, map, slice_get, Contains, Option, Some, None, is_some, refl}
use Rattle.std.proofs.Common.{sym, ◌∙◌, ap, subst, inl, inr, arith}
use Rattle.std.proofs.Math.ListN.{set}
use Rattle.std.proofs.lemmas.Bool.Decides.{nat_tests}
use Rattle.base_types.specs.declared.epoch.Epoch.{Epoch}
use Rattle.base_types.specs.declared.id.AttemptId.{AttemptId}
use Rattle.base_types.specs.declared.outcome.Outcome.{Outcome}
use Rattle.base_types.specs.declared.outcome.Outcome.TheVariants.{Committed}
use Rattle.base_types.specs.declared.report.Attempt.{Attempt}
use Rattle.base_types.specs.declared.report.Line.TheVariants as line
use Rattle.model_laws.specs.Members.{Has, contains-from_has, has-cases, has-from_contains, has-from_filter, has-from_map}
use Rattle.base_messages.specs.declared.message.Message.{Message}
use Rattle.base_messages.specs.declared.message.Message.TheVariants as message
use Rattle.base_messages.specs.declared.message.Post.{Post}
use Rattle.daos_model.specs.Attempts.{tries}
use Rattle.daos_model.specs.Changes.{reopened}
use Rattle.daos_model.specs.Durables.{entry_of}
use Rattle.dtx_base.specs.LeaderLaws.{same-is}
use Rattle.world_contents.specs.world_commit.attempts.Attempts.{IsBorn, IsHeld, IsToLeader, entry_in, leader_of}
use Rattle.world_contents.specs.world_commit.attempts.Counting.{has-taken}
use Rattle.world_contents.specs.world_commit.attempts.History.{Aborted, Decided, GrowsBy, History, Tells}
use Rattle.world_contents.specs.world_commit.attempts.Stored.{target-is}
use Rattle.world_base.specs.declared.letter.Letter.{Letter}
use Rattle.world_base.specs.declared.target.Life.TheVariants.{Down}
use Rattle.world_base.specs.declared.target.TargetState.{TargetState}
use Rattle.world_base.specs.declared.world.World.{World}
use Rattle.world_base.specs.Events.{Rules, kept, target_plan}
use Rattle.world_base.specs.Letters.{Takes, letter_of, letters_of, target}
use Rattle.world_base.specs.Statuses.{opening_posts, status_refusal}
use Rattle.world_base.specs.Stops.{AtWork, CutOf, Hearing, IdleWork, IsInHand, NumbersDrawn, OpeningFails, TargetCut, TargetGivenUp, TargetOpens, is_not_to, is_not_to_down, is_to, is_to_down, opened_at, reset_letter, resets, restart_line, stopped_at, stops_so_far, swept}
use Rattle.world_contents.specs.world_commit.fates.Facts.{Attempts, IsAckRight, IsPrepareRight, IsSaidSo, IsStateRight}
use Rattle.world_contents.specs.world_commit.stops.CutAnswers.{ack_told}
use Rattle.world_contents.specs.world_commit.stops.CutEvents.{cut_told, message_told}
use Rattle.world_contents.specs.world_commit.stops.Openings.{alone, committed_end, opening_told}
use Rattle.world_contents.specs.world_commit.stops.Questions.{opening-asks, question-is, reopened-entry, reopened_rows}
use Rattle.world_contents.specs.world_letters.talks.TalkLaws.{left-or-it}
use Rattle.world_causes.specs.outcomes.Concluding.{Concludes, IsTaken, aside-no_commit, aside-no_end, is_aside}
use Rattle.world_causes.specs.outcomes.Hearing.{held-back}
use Rattle.world_causes.specs.outcomes.Outcomes.{commits}
use Rattle.world_causes.specs.outcomes.Premises.{hands}
use Rattle.world_causes.specs.outcomes.Storing.{hearing-cut, idling-cut, is_stored_by}
use Rattle.world_causes.specs.outcomes.Telling.{silent-tells}
use Rattle.world_causes.specs.outcomes.Untried.{hearing-untried, idling-untried, untried-back, untried-one}

-- ---- events in which nothing is told of ends

-- what such an event leaves
record Leaves (r : Rules) (w v : World) : Type 0 where
  clients : v.clients ≡ w.clients
  lines : (a : Attempt) → Contains (tries v.lines) a → Contains (tries w.lines) a
  came : (l : Letter) → Has l v.messages → Has l w.messages ⊎ (is_aside l.message ≡ true)
  stored : (x : AttemptId) → IsHeld v (leader_of r x) x → IsHeld w (leader_of r x) x ⊎ IsTaken w v x

-- what becomes of attempts in it is of those of which their leaders have entries
leaving-concludes : (r : Rules) (h later : History) (w v : World) → Leaves r w v → ((x : AttemptId) (e : Epoch) → Decided h x e → Decided later x e) → ((x : AttemptId) → Aborted h x → Aborted later x)
    → ((x : AttemptId) → Aborted later x → Aborted h x ⊎ IsHeld w (leader_of r x) x) → Concludes r h later w v
leaving-concludes r h later w v g decided aborted ended = record {
  clients = g.clients;
  lines = g.lines;
  decided = decided;
  aborted = aborted;
  told = λ l x own how i says some. elim (g.came l i) [ inl before ↦ inl before | inr aside ↦ absurd (aside-no_end l.message x own how aside says) ];
  commit = λ l x i is. elim (g.came l i) [ inl before ↦ before | inr aside ↦ absurd (aside-no_commit l.message x aside is) ];
  stored = g.stored;
  ended = λ x gone. elim (ended x gone) [ inl before ↦ inl (inr before) | inr held ↦ inl (inl held) ];
}

-- nothing becomes of any
same-concludes : (r : Rules) (h later : History) (w v : World) → Leaves r w v → GrowsBy h [] later → Concludes r h later w v
same-concludes r h later w v g grows = leaving-concludes r h later w v g grows.decided grows.aborted (λ x gone. elim (grows.only_aborted x gone) [ inl before ↦ inl before | inr tells ↦ absurd tells.told.sent ])

-- ---- what goes to a target is lost

came-one : (t : ℕ) (down : Bool) (w v : World) → v.messages ≡ filter (is_not_to t) w.messages ++ resets t down w.asked → (l : Letter) → Has l v.messages → (Has l w.messages × (is_not_to t l ≡ true)) ⊎ (is_aside l.message ≡ true)
came-one t down w v messages l i = elim (has-cases (filter (is_not_to t) w.messages) (resets t down w.asked) l (subst (Has l) messages i)) [
  | inl before ↦ inl (has-from_filter (is_not_to t) w.messages l before)
  | inr new ↦ let q = has-from_map (reset_letter down) (filter (is_to t) w.asked) l new in inr (subst (λ n. is_aside n.message ≡ true) q.2 refl)
]

came-still : (w v : World) (t : ℕ) → ((l : Letter) → Has l v.messages → (Has l w.messages × (is_not_to t l ≡ true)) ⊎ (is_aside l.message ≡ true)) → (l : Letter) → Has l v.messages → Has l w.messages ⊎ (is_aside l.message ≡ true)
came-still w v t came l i = elim (came l i) [ inl before ↦ inl before.0 | inr aside ↦ inr aside ]

-- what goes to it doesn't stay
lost-there : (t : ℕ) (l : Letter) → l.to ≡ target t → is_not_to t l ≡ true → ⊥
lost-there t l to is = let bad : not (is_to t (record l { to = target t })) ≡ true = ap (λ a. not (is_to t (record l { to = a }))) (sym to) ∙ is in grind (arith, nat_tests)

-- ---- a turn is cut

module _ (r : Rules) (h later : History) (w v : World) (k : Attempts r h w) (k2 : Attempts r later v) (g : TargetCut r w v) (told : List Post) (grows : GrowsBy h told later) where
  abbrev z : TargetState
  z = stopped_at g.s g.cut.left

  targets : v.targets ≡ set w.targets g.t z
  targets = ap (λ u. u.targets) g.after

  came : (l : Letter) → Has l v.messages → (Has l w.messages × (is_not_to g.t l ≡ true)) ⊎ (is_aside l.message ≡ true)
  came = came-one g.t false w v (ap (λ u. u.messages) g.after)

  back : (x : AttemptId) → (entry_of g.s.durable x ≡ None → entry_of g.cut.left.durable x ≡ None) → IsHeld v (leader_of r x) x → IsHeld w (leader_of r x) x
  back x none held = held-back w v g.t g.s z g.here targets (leader_of r x) x none held

  stored-by : (l : Letter) (rest : List Letter) → Takes w.messages l rest → l.to ≡ target g.t → (x : AttemptId) (m : Message) → l.message ≡ m → is_stored_by x m ≡ true → IsHeld v (leader_of r x) x → IsHeld w (leader_of r x) x ⊎ IsTaken w v x
  stored-by l rest takes to x (message.Commit y ep first tracker ws) is own held = inr (record { l = l; rest = rest; takes = takes; hands_it = ap (hands x) is ∙ own; left = left })
    where
      left : (n : Letter) (y2 : AttemptId) → Has n v.messages → commits y2 n.message ≡ true → Has n rest
      left n y2 i hands2 = elim (came n i) [
        | inl before ↦ elim (left-or-it w.messages l rest n takes (contains-from_has w.messages n before.0)) [
          | inl same ↦ absurd (lost-there g.t n (ap (λ q. q.to) same ∙ to) before.1)
          | inr j ↦ has-from_contains rest n j
        ]
        | inr aside ↦ absurd (aside-no_commit n.message y2 aside hands2)
      ]
  stored-by l rest takes to x (message.Prepare e first ws inc) is own held = by (subst (IsBorn r h w) (same-is e.attempt x own) says.born)
    where
      says : IsPrepareRight r h w l.from l.to e ws inc
      says = subst (IsSaidSo r h w l.from l.to) is (k.on.letters l (has-taken w.messages l rest takes))

      by : IsBorn r h w x → IsHeld w (leader_of r x) x ⊎ IsTaken w v x
      by (inl before) = inl before
      by (inr aborted) =
          let gone = (k2.on.each x).entries.aborted (grows.aborted x aborted) in
          let found = held.found in
          let no : ⊥ = cc (gone, found) in absurd no
  stored-by l rest takes to x m is own held = let no : ⊥ = cc in absurd no

  stored : (x : AttemptId) → IsHeld v (leader_of r x) x → IsHeld w (leader_of r x) x ⊎ IsTaken w v x
  stored x held = by g.work g.in_hand g.turn
    where
      by : (a : AtWork) → IsInHand w g.t a → CutOf (target_plan r g.t) g.s a g.cut → IsHeld w (leader_of r x) x ⊎ IsTaken w v x
      by IdleWork hand turn = inl (back x (λ none. idling-cut x (target_plan r g.t) g.s.opening g.s.memory 0 0 (target g.t) (kept g.s) g.cut none turn) held)
      by (Hearing l reading number) hand turn = is-stored (is_stored_by x l.message) refl
        where
          is-stored : (b : Bool) → is_stored_by x l.message ≡ b → IsHeld w (leader_of r x) x ⊎ IsTaken w v x
          is-stored true own = stored-by l hand.0.0 hand.0.1 hand.1 x l.message refl own held
          is-stored false off = inl (back x (λ none. hearing-cut x (target_plan r g.t) g.s.opening g.s.memory reading number l.from (kept g.s) g.cut none l.message off turn) held)

  untried : (a : AtWork) → CutOf (target_plan r g.t) g.s a g.cut → tries g.cut.lines ≡ []
  untried IdleWork turn = idling-untried (target_plan r g.t) g.s.opening g.s.memory 0 0 (target g.t) (kept g.s) g.cut turn
  untried (Hearing l reading number) turn = hearing-untried (target_plan r g.t) g.s.opening g.s.memory reading number l.from (kept g.s) g.cut l.message turn

  leaves : Leaves r w v
  leaves = record {
    clients = ap (λ u. u.clients) g.after;
    lines = λ a i.
        untried-back w.lines g.cut.lines a (untried g.work g.turn)
        (untried-back (w.lines ++ g.cut.lines) (line.Stop (stops_so_far w.lines) g.t ∷ []) a (untried-one (line.Stop (stops_so_far w.lines) g.t) refl) (subst (λ ls. Contains (tries ls) a) (ap (λ u. u.lines) g.after) i));
    came = came-still w v g.t came;
    stored = stored;
  }

  -- of what its leader has an entry of it may be aborted
  pub cut-concludes : ((x : AttemptId) (own : Option Epoch) (how : Outcome) → Tells told x own how → IsHeld w (leader_of r x) x) → Concludes r h later w v
  cut-concludes whose = leaving-concludes r h later w v leaves grows.decided grows.aborted (λ x gone. elim (grows.only_aborted x gone) [ inl before ↦ inl before | inr tells ↦ inr (whose x tells.own tells.how tells.told) ])

-- what a target would have told in a turn as without stops is of attempts that it leads
pub cut-told : (r : Rules) (h : History) (w v : World) → Attempts r h w → (g : TargetCut r w v) (x : AttemptId) (own : Option Epoch) (how : Outcome) → Tells (cut_told g.work g.s g.cut) x own how → IsHeld w (leader_of r x) x
cut-told r h w v k g x own how tells = by g.work g.in_hand tells
  where
    -- an answer goes to the leader of its attempt
    of-answer : (l : Letter) → l.to ≡ target g.t → (a : AttemptId) (refusal : Option Outcome) → IsToLeader r a l.from l.to → Tells (ack_told g.s a refusal g.cut.left.durable) x own how → IsHeld w (leader_of r x) x
    of-answer l to a refusal way tells =
        let old = silent-tells a refusal (entry_of g.s.durable a) false false (is_some (entry_of g.cut.left.durable a)) x own how tells in
        let leads : g.t ≡ leader_of r a = target-is g.t (leader_of r a) (sym to ∙ way.receiver) in
        subst (λ y. IsHeld w (leader_of r y) y) (sym old.end.same) (subst (λ u. IsHeld w u a) leads (record { entry = old.entry; found = ap (λ o. entry_in o a) g.here ∙ old.found }))

    of-message : (l : Letter) (rest : List Letter) → Takes w.messages l rest → l.to ≡ target g.t → (m : Message) → l.message ≡ m → Tells (message_told m g.s g.cut) x own how → IsHeld w (leader_of r x) x
    of-message l rest takes to (message.Ack a inc refusal) is tells =
        let says : IsAckRight r h w l.from l.to a inc refusal = subst (IsSaidSo r h w l.from l.to) is (k.on.letters l (has-taken w.messages l rest takes)) in
        of-answer l to a refusal says.way tells
    of-message l rest takes to (message.StatusIs a inc how2) is tells =
        let says : IsStateRight r h w l.from l.to a inc how2 = subst (IsSaidSo r h w l.from l.to) is (k.on.letters l (has-taken w.messages l rest takes)) in
        of-answer l to a (status_refusal a how2) says.way tells
    of-message l rest takes to m is tells = absurd tells.sent

    by : (a : AtWork) → IsInHand w g.t a → Tells (cut_told a g.s g.cut) x own how → IsHeld w (leader_of r x) x
    by IdleWork hand tells = absurd tells.sent
    by (Hearing l reading number) hand tells = of-message l hand.0.0 hand.0.1 hand.1 l.message refl tells

-- ---- a target opens

module _ (r : Rules) (h later : History) (w v : World) (g : TargetOpens r w v) (grows : GrowsBy h (opening_told g.t g.s.durable) later) where
  abbrev opened : TargetState
  opened = opened_at r g.t g.number g.s g.free

  open-targets : v.targets ≡ set w.targets g.t opened
  open-targets = ap (λ u. u.targets) g.after

  abbrev asked : List Post
  asked = opening_posts (target_plan r g.t) (reopened g.s.durable)

  -- it asks members alone
  open-came : (l : Letter) → Has l v.messages → Has l w.messages ⊎ (is_aside l.message ≡ true)
  open-came l i = elim (has-cases w.messages (letters_of (target g.t) asked) l (subst (Has l) (ap (λ u. u.messages) g.after) i)) [
    | inl before ↦ inl before
    | inr new ↦
        let q = has-from_map (letter_of (target g.t)) asked l new in
        let question = question-is (g.s.durable.incarnation + 1) (reopened_rows g.t g.s.durable) q.0 (subst (Has q.0) (opening-asks r g.t g.s.durable) q.1) in
        inr (subst (λ n. is_aside n.message ≡ true) q.2 (ap (λ p. is_aside p.message) question.is))
  ]

  open-leaves : Leaves r w v
  open-leaves = record {
    clients = ap (λ u. u.clients) g.after;
    lines = λ a i. untried-back w.lines (restart_line g.number g.t g.s.durable ∷ []) a (untried-one (restart_line g.number g.t g.s.durable) refl) (subst (λ ls. Contains (tries ls) a) (ap (λ u. u.lines) g.after) i);
    came = open-came;
    stored = λ x held. inl (held-back w v g.t g.s opened g.here open-targets (leader_of r x) x (λ none. reopened-entry g.s.durable x ∙ none) held);
  }

  -- it decides, and aborts nothing
  committed-alone : (x : AttemptId) (own : Option Epoch) (how : Outcome) → Tells (opening_told g.t g.s.durable) x own how → how ≡ Committed
  committed-alone x own how tells =
      let e = has-from_map committed_end (alone g.t g.s.durable) (record { to = tells.to; message = message.Ended x own how }) tells.sent in
      let said : message.Ended e.0.attempt (Some e.0.epoch) Committed ≡ message.Ended x own how = ap (λ q. q.message) e.2 in
      let is : Committed ≡ how = cc in
      sym is

  pub opening-concludes : Concludes r h later w v
  opening-concludes = leaving-concludes r h later w v open-leaves grows.decided grows.aborted (λ x gone. elim (grows.only_aborted x gone) [ inl before ↦ inl before | inr tells ↦ absurd (tells.refused (committed-alone x tells.own tells.how tells.told)) ])

-- an opening that fails
pub failing-concludes : (r : Rules) (h later : History) (w v : World) → OpeningFails r w v → GrowsBy h [] later → Concludes r h later w v
failing-concludes r h later w v g grows = same-concludes r h later w v (record {
  clients = ap (λ u. u.clients) g.after;
  lines = λ a i. subst (λ ls. Contains (tries ls) a) (ap (λ u. u.lines) g.after) i;
  came = λ l i. inl (subst (Has l) (ap (λ u. u.messages) g.after) i);
  stored = λ x held. inl (held-back w v g.t g.s (record g.s { durable = g.k.durable; free = g.k.free }) g.here (ap (λ u. u.targets) g.after) (leader_of r x) x (λ none. entry x ∙ none) held);
}) grows
  where
    entry : (x : AttemptId) → entry_of g.k.durable x ≡ entry_of g.s.durable x
    entry x = elim g.left [ inl same ↦ ap (λ d. entry_of d x) same | inr up ↦ ap (λ d. entry_of d x) up ∙ reopened-entry g.s.durable x ]

-- ---- a target is given up

pub giving-up-concludes : (r : Rules) (h later : History) (w v : World) → TargetGivenUp r w v → GrowsBy h [] later → Concludes r h later w v
giving-up-concludes r h later w v g grows = same-concludes r h later w v (record {
  clients = ap (λ u. u.clients) g.after;
  lines = λ a i. untried-back w.lines (line.Down g.t ∷ []) a (untried-one (line.Down g.t) refl) (subst (λ ls. Contains (tries ls) a) (ap (λ u. u.lines) g.after) i);
  came = came-still w v g.t (came-one g.t true w v (ap (λ u. u.messages) g.after));
  stored = λ x held. inl (held-back w v g.t g.s (record g.s { life = Down }) g.here (ap (λ u. u.targets) g.after) (leader_of r x) x (λ none. none) held);
}) grows

-- what goes to targets that are given up is lost
pub sweeping-concludes : (r : Rules) (h : History) (w : World) → Concludes r h h w (swept w)
sweeping-concludes r h w = leaving-concludes r h h w (swept w) (record {
  clients = refl;
  lines = λ a i. i;
  came = λ l i. elim (has-cases w.messages (map (reset_letter true) (filter (is_to_down w.targets) w.asked)) l (has-from_filter (is_not_to_down w.targets) (w.messages ++ map (reset_letter true) (filter (is_to_down w.targets) w.asked)) l i).0) [
    | inl before ↦ inl before
    | inr new ↦ let q = has-from_map (reset_letter true) (filter (is_to_down w.targets) w.asked) l new in inr (subst (λ n. is_aside n.message ≡ true) q.2 refl)
  ];
  stored = λ x held. inl (record { entry = held.entry; found = held.found });
}) (λ x e d. d) (λ x a. a) (λ x a. inl a)

-- numbers are drawn
pub drawing-concludes : (r : Rules) (h later : History) (w v : World) → NumbersDrawn w v → GrowsBy h [] later → Concludes r h later w v
drawing-concludes r h later w v g grows = same-concludes r h later w v (record {
  clients = ap (λ u. u.clients) g.after;
  lines = λ a i. subst (λ ls. Contains (tries ls) a) (ap (λ u. u.lines) g.after) i;
  came = λ l i. inl (subst (Has l) (ap (λ u. u.messages) g.after) i);
  stored = λ x held. inl (record { entry = held.entry; found = sym (ap (λ ts. entry_in (slice_get ts (leader_of r x)) x) (ap (λ u. u.targets) g.after)) ∙ held.found });
}) grows

-- Whatever happens, but for what is heard of snapshots and aggregation, keeps that clients were told what was served.
use Rattle.std.specs.Prelude.{ℕ, ◌≡◌, ◌<◌, ◌⊎◌, ◌++◌, true, false, All, [], ◌∷◌, map, filter, Contains, slice_get, Option, Some, refl}
use Rattle.std.proofs.Common.{sym, ◌∙◌, ap, subst, append-nil, append_assoc, inl, inr}
use Rattle.base_types.specs.declared.answer.Answer.{Answer}
use Rattle.base_types.specs.declared.epoch.Epoch.{Epoch}
use Rattle.base_types.specs.declared.id.AttemptId.{AttemptId}
use Rattle.base_types.specs.declared.outcome.FloorWhy.{FloorWhy}
use Rattle.base_types.specs.declared.report.Attempt.{Attempt}
use Rattle.base_types.specs.declared.report.Line.TheVariants as line
use Rattle.base_messages.specs.declared.actor.ActorId.{ActorId}
use Rattle.base_messages.specs.declared.message.Message.{Message, more_of-Message}
use Rattle.base_messages.specs.declared.message.Message.TheVariants as message
use Rattle.base_messages.specs.declared.message.Post.{Post}
use Rattle.base_messages.specs.declared.message.Reply.TheVariants as reply
use Rattle.model_laws.specs.Members.{Has, contains-from_has, has-cases, has-from_contains, has-from_filter, has-from_map}
use Rattle.daos_model.specs.Attempts.{tries}
use Rattle.daos_model.specs.BoolLaws.{clash}
use Rattle.daos_model.specs.Laws.{tries-append}
use Rattle.world_contents.specs.world_commit.attempts.Counting.{has-taken}
use Rattle.world_contents.specs.world_commit.attempts.History.{History}
use Rattle.world_base.specs.declared.client.ClientState.{ClientState}
use Rattle.world_base.specs.declared.client.Present.{Present}
use Rattle.world_base.specs.declared.did.Did.{Did}
use Rattle.world_base.specs.declared.letter.Letter.{Letter}
use Rattle.world_base.specs.declared.request.CommitRequest.{CommitRequest}
use Rattle.world_base.specs.declared.target.TargetMemory.{TargetMemory}
use Rattle.world_base.specs.declared.target.TargetPlan.{TargetPlan}
use Rattle.world_base.specs.declared.world.World.{World}
use Rattle.world_base.specs.Acks as ack
use Rattle.world_base.specs.Changes.{Kept}
use Rattle.world_base.specs.Commits as commit
use Rattle.world_base.specs.Events.{ByClient, ByTarget, Rules, TargetHearsRightly, TargetIdles, ToClient, ToTarget, client_plan, kept, target_plan, with_epoch, rightly}
use Rattle.world_base.specs.Further.{CommitDown, HearsFurther, IsSpent, IsUnknown}
use Rattle.world_base.specs.Letters.{client, letter_of, target}
use Rattle.world_base.specs.MemoryLaws.{hears-follows, idles-follows}
use Rattle.world_base.specs.RightTurns.{HearsRightly}
use Rattle.world_base.specs.Stops.{AtWork, CutOf, Draws, Fails, Further, GivenUp, Happening, Hearing, IdleWork, IsCut, Opens, Plainly, TargetCut, is_not_to, is_to, reset_letter, resets, stops_so_far}
use Rattle.world_base.specs.TargetTurns.{commit_request}
use Rattle.world_contents.specs.world_letters.epochs.Epochs.{ClientsStand}
use Rattle.world_contents.specs.world_commit.fates.Facts.{Attempts}
use Rattle.world_contents.specs.world_commit.fates.Rightly.{letters-tell}
use Rattle.world_contents.specs.gots.Gots.{Gots, IsLineServed, IsServedAnswer, Remembers}
use Rattle.world_contents.specs.gots.StepGots.{is_fetched}
use Rattle.world_contents.specs.gots.TargetGots.{ends-none, gots-remembered, same-clients, sent-or_left}
use Rattle.world_causes.specs.restarts.EpochLaws.{rests-gots}
use Rattle.world_causes.specs.restarts.Resting.{failure-rests, given_up-rests, numbers-rests, opening-rests, tries-none}
use Rattle.world_contents.specs.world_commit.statuses.Events.{HappensWithoutSnapshots}
use Rattle.world_contents.specs.world_commit.statuses.Heard.{is_of_attempts}
use Rattle.world_contents.specs.world_commit.statuses.Senders.{SendersAreRight}
use Rattle.world_contents.specs.world_commit.stops.CutEvents.{IsWithoutSnapshots}
use Rattle.world_contents.specs.world_letters.waits.ClientLaws.{counting-keeps, hearing-keeps, moves-keep}
use Rattle.world_contents.specs.world_letters.waits.Waits.{Conversation}
use Rattle.world_causes.specs.hearing.Cutting.{hearing-cut-tells, turn-silent}
use Rattle.world_causes.specs.hearing.Going.{AnswersAreServed}
use Rattle.world_causes.specs.hearing.GotClients.{client-goes-told, client-hears-told}
use Rattle.world_causes.specs.hearing.GotTargets.{hearing-gots}
use Rattle.world_causes.specs.hearing.HappeningEpochs.{talks-once}
use Rattle.world_causes.specs.hearing.Listening.{listens}

-- ---- the statements

-- where conversations are in order before what happens and after it, and what targets serve is remembered
abbrev pub HappeningsKeepGots : Type 0
HappeningsKeepGots =
    (r : Rules) (h k : History) (w v : World) → 0 < r.attempts → Remembers h k → Conversation r w → Conversation r v → SendersAreRight w → Attempts r h w → ClientsStand r w → Gots r h w → (e : Happening r w v) → HappensWithoutSnapshots e
    → AnswersAreServed e k → Gots r k v

-- ---- what a target hears after stops adds no line

ack-lines : (m : TargetMemory) (s : ack.AckStage) (k : Kept) (left : TargetMemory × Did) → ack.AckEnds m s k left → left.1.lines ≡ []
ack-lines m s k left (ack.IsFollowed k2 f z is) = ap (λ x. x.1.lines) is

down-lines : (t : TargetPlan) (m : TargetMemory) (reading : ℕ) (q : CommitRequest) (from : ActorId) (s : commit.CommitStage) (k : Kept) (left : TargetMemory × Did) → CommitDown t m reading q from s k left → left.1.lines ≡ []
down-lines t m reading q from s k left (IsSpent k2 e down z none known is) = ap (λ x. x.1.lines) is
down-lines t m reading q from s k left (IsUnknown k2 e down z known is) = ap (λ x. x.1.lines) is

pub further-lines : (number : ℕ) (t : TargetPlan) (opening : Epoch × FloorWhy) (m : TargetMemory) (reading : ℕ) (from : ActorId) (q : Message) (old new : Kept) (left : TargetMemory × Did) → is_of_attempts q ≡ true
    → HearsFurther number t opening m reading from q old new left → left.1.lines ≡ []
further-lines number t opening m reading from (message.Ask x) old new left ours h = (listens number t opening m reading from (message.Ask x) old new left refl h).lines
further-lines number t opening m reading from (message.Status x inc) old new left ours h = (listens number t opening m reading from (message.Status x inc) old new left refl h).lines
further-lines number t opening m reading from (message.Reset' by down place (more_of-Message q rest)) old new left ours h = (listens number t opening m reading from (message.Reset' by down place (more_of-Message q rest)) old new left ours h).lines
further-lines number t opening m reading from (message.StatusIs x inc how) old new left ours h = ack-lines m h.last new left h.ends
further-lines number t opening m reading from (message.Commit x ep first tracker ws) old new left ours h = down-lines t m reading (commit_request x ep first tracker ws) from h.last new left h.ends
further-lines number t opening m reading from (message.Snap x c called tracker) old new left ours h = let no : ⊥ = cc in absurd no
further-lines number t opening m reading from (message.Freeze x c s) old new left ours h = let no : ⊥ = cc in absurd no
further-lines number t opening m reading from (message.Held x refusal) old new left ours h = let no : ⊥ = cc in absurd no
further-lines number t opening m reading from (message.Prune x c tracker e) old new left ours h = let no : ⊥ = cc in absurd no
further-lines number t opening m reading from q old new left ours h = absurd h

module _ (r : Rules) (h : History) (w v : World) (G : Gots r h w) where
  -- no answer is in flight that wasn't, and no attempt has one more line
  fewer : v.clients ≡ w.clients → tries v.lines ≡ tries w.lines → ((l : Letter) → Contains v.messages l → is_fetched l.message ≡ true → Contains w.messages l) → Gots r h v
  fewer clients lines letters = record {
    present = λ n c a at. G.present n c a (was n c at);
    lines = subst (All (IsLineServed r h)) (sym lines) G.lines;
    flying = λ n c a l x op group own b at present i to is. G.flying n c a l x op group own b (was n c at) present (letters l i (ap is_fetched is)) to is;
  }
    where
      was : (n : ℕ) (c : ClientState) → slice_get v.clients n ≡ Some c → slice_get w.clients n ≡ Some c
      was n c at = ap (λ cs. slice_get cs n) (sym clients) ∙ at

  -- a turn is cut
  cut-gots : (g : TargetCut r w v) → ((a : Attempt) → Has (line.Try a) g.cut.lines → ⊥) → Gots r h v
  cut-gots g silent = fewer (ap (λ u. u.clients) g.after) lines letters
    where
      stop : (a : Attempt) → Has (line.Try a) (line.Stop (stops_so_far w.lines) g.t ∷ []) → ⊥
      stop a (inl same) = let no : ⊥ = cc in no
      stop a (inr i) = i

      none : tries (g.cut.lines ++ line.Stop (stops_so_far w.lines) g.t ∷ []) ≡ []
      none = tries-none (g.cut.lines ++ line.Stop (stops_so_far w.lines) g.t ∷ []) (λ a i. elim (has-cases g.cut.lines (line.Stop (stops_so_far w.lines) g.t ∷ []) (line.Try a) i) [ inl j ↦ silent a j | inr j ↦ stop a j ])

      lines : tries v.lines ≡ tries w.lines
      lines =
          ap (λ u. tries u.lines) g.after ∙ ap tries (append_assoc w.lines g.cut.lines (line.Stop (stops_so_far w.lines) g.t ∷ []))
          ∙ tries-append w.lines (g.cut.lines ++ line.Stop (stops_so_far w.lines) g.t ∷ []) ∙ ap (λ as'. tries w.lines ++ as') none ∙ append-nil (tries w.lines)

      letters : (l : Letter) → Contains v.messages l → is_fetched l.message ≡ true → Contains w.messages l
      letters l i answer = elim (has-cases (filter (is_not_to g.t) w.messages) (resets g.t false w.asked) l (has-from_contains (filter (is_not_to g.t) w.messages ++ resets g.t false w.asked) l (subst (λ u. Contains u.messages l) g.after i))) [
        | inl j ↦ contains-from_has w.messages l (has-from_filter (is_not_to g.t) w.messages l j).0
        | inr j ↦ (let y = has-from_map (reset_letter false) (filter (is_to g.t) w.asked) l j in clash (is_fetched l.message) answer (sym (ap (λ n. is_fetched n.message) y.2)))
      ]

  -- idle work answers nothing
  idle-gots : (g : TargetIdles r w v) → Gots r h v
  idle-gots g = same-clients r h h w v (λ q i. i) (ap (λ u. u.clients) g.after) lines G flies
    where
      lines : v.lines ≡ w.lines
      lines = ap (λ x. x.lines) g.after ∙ ap (λ ls. w.lines ++ map (with_epoch w.issued) ls) (idles-follows g.settling (target_plan r g.t) g.s.memory (kept g.s) g.new (g.memory, g.did) g.turn).lines ∙ append-nil w.lines

      flies : (n : ℕ) (c : ClientState) (a : Present) (l : Letter) (x : AttemptId) (op group : ℕ) (own : Option Epoch) (b : Answer) → slice_get w.clients n ≡ Some c → c.present ≡ Some a → Contains v.messages l → l.to ≡ client n
          → l.message ≡ message.Fetched x op group own (reply.Answer b) → IsServedAnswer (client_plan r n) h c a own b
      flies n c a l x op group own b here present among to it = by (sent-or_left w.messages (target g.t) g.did.posts l (subst (λ ls. Contains ls l) (ap (λ z. z.messages) g.after) among))
        where
          by : Contains w.messages l ⊎ ((p : Post) × Has p g.did.posts × (letter_of (target g.t) p ≡ l)) → IsServedAnswer (client_plan r n) h c a own b
          by (inl before) = G.flying n c a l x op group own b here present before to it
          by (inr p) =
              clash (is_fetched p.0.message) (ap is_fetched (ap (λ z. z.message) p.2 ∙ it)) (ends-none g.settling (target_plan r g.t) g.s.memory g.turn.last g.new (g.memory, g.did) g.turn.ends p.0 p.1)

-- ---- whatever happens

pub happenings-keep-gots : HappeningsKeepGots
happenings-keep-gots r h k w v some more W V senders A S G (Plainly (ByClient g) up) ours answered =
    gots-remembered r h k v more (client-goes-told r h some (Conversation r) (talks-once r) (moves-keep r) (hearing-keeps r) (counting-keeps r) w v (W, S, G) g)
happenings-keep-gots r h k w v some more W V senders A S G (Plainly (ToClient g) up) ours answered =
    gots-remembered r h k v more (client-hears-told r h some (Conversation r) (talks-once r) (moves-keep r) (hearing-keeps r) (counting-keeps r) w v (W, S, G) g)
happenings-keep-gots r h k w v some more W V senders A S G (Plainly (ToTarget g) up) ours answered =
    hearing-gots HearsRightly r h k w v W V senders G right answered more
    (hears-follows (target_plan r g.t) g.s.opening g.s.memory g.reading g.l.from g.l.message (kept g.s) g.new (g.memory, g.did) right.turn).lines
  where
    right : TargetHearsRightly r w v
    right = rightly r w v g (letters-tell r h w A g.l g.t g.s (has-taken w.messages g.l g.rest g.takes) g.to_it g.here)
happenings-keep-gots r h k w v some more W V senders A S G (Plainly (ByTarget g) up) ours answered = gots-remembered r h k v more (idle-gots r h w v G g)
happenings-keep-gots r h k w v some more W V senders A S G (Further f) ours answered =
    let g = f.hears in
    hearing-gots (HearsFurther f.number) r h k w v W V senders G g answered more (further-lines f.number (target_plan r g.t) g.s.opening g.s.memory g.reading g.l.from g.l.message (kept g.s) g.new (g.memory, g.did) ours g.turn)
happenings-keep-gots r h k w v some more W V senders A S G (IsCut g) ours answered = gots-remembered r h k v more (cut-gots r h w v G g (silent g.work ours g.turn))
  where
    silent : (a : AtWork) → IsWithoutSnapshots a → CutOf (target_plan r g.t) g.s a g.cut → (t : Attempt) → Has (line.Try t) g.cut.lines → ⊥
    silent (Hearing l reading number) plain turn = (hearing-cut-tells number (target_plan r g.t) g.s.opening g.s.memory reading l.from l.message (kept g.s) g.cut plain turn).silent
    silent IdleWork plain turn = turn-silent _ _ g.t _ (kept g.s) g.cut turn
happenings-keep-gots r h k w v some more W V senders A S G (Opens g) ours answered = gots-remembered r h k v more (rests-gots r 0 w v (opening-rests r w v g) h G)
happenings-keep-gots r h k w v some more W V senders A S G (Fails g) ours answered = gots-remembered r h k v more (rests-gots r 0 w v (failure-rests r w v g) h G)
happenings-keep-gots r h k w v some more W V senders A S G (GivenUp g) ours answered = gots-remembered r h k v more (rests-gots r 0 w v (given_up-rests r w v g) h G)
happenings-keep-gots r h k w v some more W V senders A S G (Draws g) ours answered = gots-remembered r h k v more (rests-gots r 0 w v (numbers-rests w v g) h G)

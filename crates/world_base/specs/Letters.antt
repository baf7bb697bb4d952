-- Letters in flight, and the conversation of a client.
use Rattle.std.specs.Prelude.{ℕ, ◌≡◌, ◌==◌, Bool, true, false, ◌&&◌, ◌||◌, not, List, [], ◌∷◌, ◌++◌, filter, map, Option, Some, None, if◌then◌else◌}
use Rattle.std.specs.List.{after_first, before_first}
use Rattle.base_types.specs.declared.id.AttemptId.{AttemptId}
use Rattle.daos_model.specs.Durables.{same_attempt}
use Rattle.dtx_base.specs.Leading.{attempts_of}
use Rattle.base_messages.specs.declared.actor.ActorId.{ActorId}
use Rattle.base_messages.specs.declared.message.Message.{Message, end_of-Message, more_of-Message}
use Rattle.base_messages.specs.declared.message.Message.TheVariants as message
use Rattle.base_messages.specs.declared.message.Post.{Post}
use Rattle.world_base.specs.declared.letter.Letter.{Letter}

abbrev pub client : ℕ → ActorId
client n = record { client = true; number = n }

abbrev pub target : ℕ → ActorId
target t = record { client = false; number = t }

-- what an actor sends
abbrev pub letter_of : ActorId → Post → Letter
letter_of from p = record { from = from; to = p.to; message = p.message }

abbrev pub letters_of : ActorId → List Post → List Letter
letters_of from posts = map (letter_of from) posts

-- one letter is taken out of those in flight
pub record Takes (letters : List Letter) (l : Letter) (rest : List Letter) : Type 0 where
  pub before : List Letter
  pub after : List Letter
  pub among : letters ≡ before ++ l ∷ after
  pub left : rest ≡ before ++ after

abbrev pub is_tell : Message → Bool
is_tell (message.Tell tracker) = true
is_tell m = false

abbrev pub is_client : ℕ → ActorId → Bool
is_client n a = a.client && (a.number == n)

-- a letter of the conversation of a client with targets: one from it or to it, but for those that tell a tracker
unfoldable pub is_talk_of : ℕ → Letter → Bool
is_talk_of n l = not (is_tell l.message) && (is_client n l.from || is_client n l.to)

-- the conversation of a client
abbrev pub talk_of : ℕ → List Letter → List Letter
talk_of n letters = filter (is_talk_of n) letters

-- ---- Resets

-- the message that tells that this one got no answer by a target, which is down, or isn't
abbrev pub reset_message : ℕ → Bool → Message → Message
reset_message t down q = message.Reset' t down _ (more_of-Message q end_of-Message)

-- ---- what has an answer

abbrev pub same_truth : Bool → Bool → Bool
same_truth true b = b
same_truth false b = not b

abbrev pub same_actor : ActorId → ActorId → Bool
same_actor a b = same_truth a.client b.client && (a.number == b.number)

-- a message that is answered
abbrev pub is_answerable : Message → Bool
is_answerable (message.Fetch x op group ep first tracker r snapshot) = true
is_answerable (message.Commit x ep first tracker ws) = true
is_answerable (message.Ask x) = true
is_answerable (message.Snap x cont name tracker) = true
is_answerable (message.Prune x cont tracker e) = true
is_answerable (message.Prepare e first ws inc) = true
is_answerable (message.Mark inc marks) = true
is_answerable (message.Query x ask) = true
is_answerable (message.Status x inc) = true
is_answerable (message.Freeze x cont e) = true
is_answerable m = false

abbrev pub same_ids : List AttemptId → List AttemptId → Bool
same_ids [] [] = true
same_ids [] (b ∷ bs) = false
same_ids (a ∷ ids) [] = false
same_ids (a ∷ ids) (b ∷ bs) = same_attempt a b && same_ids ids bs

abbrev pub same_ask : Option AttemptId → Option AttemptId → Bool
same_ask None None = true
same_ask None (Some b) = false
same_ask (Some a) None = false
same_ask (Some a) (Some b) = same_attempt a b

-- a message answers one that was asked
abbrev pub is_reply : Message → Message → Bool
is_reply (message.Fetched x op group own b) (message.Fetch y op2 group2 ep first tracker r snapshot) = same_attempt x y && (op == op2) && (group == group2)
is_reply (message.Ended x own how) (message.Commit y ep first tracker ws) = same_attempt x y
is_reply (message.Ended x own how) (message.Ask y) = same_attempt x y
is_reply (message.Ended x own how) (message.Snap y cont name tracker) = same_attempt x y
is_reply (message.Ended x own how) (message.Prune y cont tracker e) = same_attempt x y
is_reply (message.Ack x inc refusal) (message.Prepare e first ws inc2) = same_attempt x e.attempt && (inc == inc2)
is_reply (message.Marked inc ids) (message.Mark inc2 marks) = (inc == inc2) && same_ids ids (attempts_of marks)
is_reply (message.Verdict x ask inc v) (message.Query y ask2) = same_attempt x y && same_ask ask ask2
is_reply (message.StatusIs x inc how) (message.Status y inc2) = same_attempt x y && (inc == inc2)
is_reply (message.Held x refusal) (message.Freeze y cont e) = same_attempt x y
is_reply (message.Held x refusal) (message.Prune y cont tracker e) = same_attempt x y
is_reply m q = false

unfoldable pub is_answer_to : Letter → Letter → Bool
is_answer_to l q = same_actor l.from q.to && same_actor l.to q.from && is_reply l.message q.message

-- all but the first that passes a test
abbrev pub without_first : {T : Type 0} → (T → Bool) → List T → List T
without_first p xs = before_first p xs ++ after_first p xs

-- what is without an answer once a letter was sent: it is one, or the first that it answers isn't any more
unfoldable pub asked_with : List Letter → Letter → List Letter
asked_with asked l = if is_answerable l.message then asked ++ l ∷ [] else without_first (is_answer_to l) asked

-- once these letters were sent, one after another
abbrev pub asked_after : List Letter → List Letter → List Letter
asked_after asked [] = asked
asked_after asked (l ∷ ls) = asked_after (asked_with asked l) ls

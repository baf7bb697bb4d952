-- What goes about of an attempt's read: the Fetch that asks it, or what answers it.
use Rattle.std.specs.Prelude.{ℕ, ◌≤◌, ◌+◌, ◌&&◌, ◌==◌, Bool, true, false, List, [], ◌∷◌}
use Rattle.base_types.specs.declared.id.AttemptId.{AttemptId}
use Rattle.base_types.specs.declared.operation.Read.{Read}
use Rattle.base_types.specs.declared.operation.Read.TheVariants as read
use Rattle.base_types.specs.Paths.{record_size}
use Rattle.base_messages.specs.declared.message.Message.{Message}
use Rattle.base_messages.specs.declared.message.Message.TheVariants.{Fetch, Fetched}
use Rattle.base_messages.specs.declared.message.Post.{Post}
use Rattle.base_messages.specs.declared.message.Reply.{Reply}
use Rattle.base_messages.specs.declared.message.Reply.TheVariants as reply
use Rattle.daos_model.specs.Durables.{same_attempt}
use Rattle.daos_model.specs.Kinds.{is_of_kind}
use Rattle.world_base.specs.dtx_base.declared.member.MemberMemory.{MemberMemory}
use Rattle.world_base.specs.dtx_base.declared.member.Parked.{Parked}
use Rattle.world_base.specs.declared.letter.Letter.{Letter}

-- two reads ask for answers of one kind
unfoldable pub ask_alike : Read → Read → Bool
ask_alike (read.Single p) (read.Single q) = true
ask_alike (read.Extent p low len) (read.Extent q low' len') = (record_size p == record_size q) && (len == len')
ask_alike (read.Dkeys p) (read.Dkeys q) = true
ask_alike (read.Akeys p) (read.Akeys q) = true
ask_alike (read.Exists p) (read.Exists q) = true
ask_alike r s = false

-- what fits weighs 1, and what doesn't 2
abbrev pub weight : Bool → ℕ
weight true = 1
weight false = 2

-- an answer fits a read whose kind it has, and how an attempt ended fits each
abbrev pub reply_weight : Read → Reply → ℕ
reply_weight r (reply.Answer b) = weight (is_of_kind r b)
reply_weight r (reply.Outcome how) = 1

abbrev pub weight_if : Bool → ℕ → ℕ
weight_if true n = n
weight_if false n = 0

-- What a message carries of this read of an attempt: nothing, unless it asks a read of that attempt, or answers one; else 1 where it fits
-- this read, and 2 where it is of another one.
unfoldable pub load : AttemptId → Read → Message → ℕ
load x r (Fetch y op group e first tracker s snapshot) = weight_if (same_attempt x y) (weight (ask_alike r s))
load x r (Fetched y op group e b) = weight_if (same_attempt x y) (reply_weight r b)
load x r m = 0

-- of all in a list
abbrev pub total : {T : Type 0} → (T → ℕ) → List T → ℕ
total f [] = 0
total f (x ∷ xs) = f x + total f xs

abbrev pub post_load : AttemptId → Read → Post → ℕ
post_load x r p = load x r p.message

abbrev pub letter_load : AttemptId → Read → Letter → ℕ
letter_load x r l = load x r l.message

-- what waits at a target
abbrev pub parked_load : AttemptId → Read → Parked → ℕ
parked_load x r p = load x r p.ask

-- Of no read more goes about once a target was given these messages: what it posts and what waits there from then on carry no more than
-- what waited there before and what it was given. So each is answered once at most, and by what is of its kind.
abbrev pub AnswersOnce : List Message → MemberMemory → MemberMemory → List Post → Type 0
AnswersOnce given before after posts =
    (x : AttemptId) (r : Read) → total (post_load x r) posts + total (parked_load x r) after.parked ≤ total (parked_load x r) before.parked + total (load x r) given

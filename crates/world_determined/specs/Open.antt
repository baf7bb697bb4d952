-- What the rules of a turn leave open, as the turn tells it.
use Rattle.std.specs.Prelude.{ℕ, ◌≡◌, Bool, true, false, List, [], ◌∷◌, map, Option, Some, None, if◌then◌else◌, refl}
use Rattle.std.specs.Option.{option_map}
use Rattle.std.proofs.Common.{ap, ap₂}
use Rattle.base_types.specs.declared.outcome.Cause.{Cause}
use Rattle.base_types.specs.declared.outcome.Cause.TheVariants.{Floor, ReadLater, Unresolved, WriteLater}
use Rattle.base_types.specs.declared.outcome.Outcome.{Outcome}
use Rattle.base_types.specs.declared.outcome.Outcome.TheVariants.{NoSpace, Restart}
use Rattle.base_types.specs.declared.shown.Shown.{Shown}
use Rattle.base_messages.specs.declared.message.Message.{Message}
use Rattle.base_messages.specs.declared.message.Message.TheVariants.{Ack, Commit, Ended, Prepare}
use Rattle.base_messages.specs.declared.message.Post.{Post}
use Rattle.vos_stamp.specs.Stamps.{read_later}
use Rattle.world_base.specs.declared.did.Did.{Did}
use Rattle.world_base.specs.declared.target.TargetMemory.{TargetMemory}

-- A later read is shown: whether one that is only near refuses a write, and which is shown, is open.
abbrev pub shows_read : Cause → Bool
shows_read (ReadLater by e path) = true
shows_read c = false

-- An outcome that depends on what is open: a later read is shown, or there is no space, and so many blocks are free.
abbrev pub is_open : Outcome → Bool
is_open (Restart c) = shows_read c
is_open (NoSpace target need free) = true
is_open how = false

-- how a message says that an attempt ended, or that a member refuses it
abbrev pub outcome_told : Message → Option Outcome
outcome_told (Ended x ep how) = Some how
outcome_told (Ack x inc refusal) = refusal
outcome_told m = None

abbrev pub with_open : Option Outcome → List Outcome → List Outcome
with_open None rest = rest
with_open (Some how) rest = if is_open how then how ∷ rest else rest

abbrev pub open_in : List Post → List Outcome
open_in [] = []
open_in (p ∷ posts) = with_open (outcome_told p.message) (open_in posts)

-- What follows from a turn tells of this that was open: of later reads that are shown, and of free blocks where there is no space.
abbrev pub open_told : Did → List Outcome
open_told did = open_in did.posts

-- Of what a turn leaves open in which this is heard, this is told. Nothing is open but in the turn of a Commit and of a Prepare.
abbrev pub left_open : Message → Did → List Outcome
left_open (Commit x ep first tracker ws) did = open_told did
left_open (Prepare e first ws inc) did = open_told did
left_open q did = []

-- ---- as much of it as is looked at

-- what is looked at of a later read that is shown, and of how many blocks are free
pub record Look : Type 0 where
  pub read : Shown → Shown
  pub free : ℕ → ℕ

-- all
abbrev pub all_of_it : Look
all_of_it = record { read = λ r. r; free = λ n. n }

-- nothing
abbrev pub none_of_it : Look
none_of_it = record {
  read = λ r. record { by = record { client = 0; command = 0; attempt = 0 }; epoch = record { 0 = 0 }; path = record { cont = record { 0 = 0 }; obj = None; dkey = None; akey = None } };
  free = λ n. 0;
}

abbrev pub seen_cause : Look → Cause → Cause
seen_cause k (ReadLater by e path) = read_later (k.read (record { by = by; epoch = e; path = path }))
seen_cause k c = c

abbrev pub seen_outcome : Look → Outcome → Outcome
seen_outcome k (Restart c) = Restart (seen_cause k c)
seen_outcome k (NoSpace target need free) = NoSpace target need (k.free free)
seen_outcome k how = how

abbrev pub seen_message : Look → Message → Message
seen_message k (Ended x ep how) = Ended x ep (seen_outcome k how)
seen_message k (Ack x inc refusal) = Ack x inc (option_map (seen_outcome k) refusal)
seen_message k m = m

abbrev pub seen_post : Look → Post → Post
seen_post k p = record p { message = seen_message k p.message }

-- what follows from a turn, by this look
abbrev pub seen_did : Look → Did → Did
seen_did k did = record did { posts = map (seen_post k) did.posts }

-- and what is known then
abbrev pub seen_left : Look → TargetMemory × Did → TargetMemory × Did
seen_left k left = (left.0, seen_did k left.1)

-- what follows from a turn, whichever later read is shown and however many blocks are free
abbrev pub but_shown : Did → Did
but_shown did = seen_did none_of_it did

-- ---- all is seen

cause-seen : (c : Cause) → seen_cause all_of_it c ≡ c
cause-seen (ReadLater by e path) = refl
cause-seen (WriteLater by e path) = refl
cause-seen (Unresolved by) = refl
cause-seen (Floor target e why) = refl

outcome-seen : (how : Outcome) → seen_outcome all_of_it how ≡ how
outcome-seen (Restart c) = ap Restart (cause-seen c)
outcome-seen (NoSpace target need free) = refl
outcome-seen how = refl

message-seen : (m : Message) → seen_message all_of_it m ≡ m
message-seen (Ended x ep how) = ap (Ended x ep) (outcome-seen how)
message-seen (Ack x inc None) = refl
message-seen (Ack x inc (Some how)) = ap (λ o. Ack x inc (Some o)) (outcome-seen how)
message-seen m = refl

posts-seen : (posts : List Post) → map (seen_post all_of_it) posts ≡ posts
posts-seen [] = refl
posts-seen (p ∷ posts) = ap₂ (λ (m : Message) (ps : List Post). record p { message = m } ∷ ps) (message-seen p.message) (posts-seen posts)

pub did-seen : (did : Did) → seen_did all_of_it did ≡ did
did-seen did = ap (λ (ps : List Post). record did { posts = ps }) (posts-seen did.posts)

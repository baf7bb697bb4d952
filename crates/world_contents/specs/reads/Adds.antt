-- Each answer that a target sends in a turn is that of a read which it served.
use Rattle.std.specs.Prelude.{ℕ, ◌≡◌, Bool, true, false, List, Option, Some}
use Rattle.std.proofs.Common.{ap}
use Rattle.base_types.specs.declared.answer.Answer.{Answer}
use Rattle.base_types.specs.declared.epoch.Epoch.{Epoch}
use Rattle.base_types.specs.declared.id.AttemptId.{AttemptId}
use Rattle.model_laws.specs.Members.{Has}
use Rattle.base_messages.specs.declared.message.Message.{Message}
use Rattle.base_messages.specs.declared.message.Message.TheVariants as message
use Rattle.base_messages.specs.declared.message.Post.{Post}
use Rattle.base_messages.specs.declared.message.Reply.{Reply}
use Rattle.base_messages.specs.declared.message.Reply.TheVariants as reply
use Rattle.daos_model.specs.BoolLaws.{clash}
use Rattle.world_commit.specs.dtx_base.declared.member.Parked.{Parked}
use Rattle.world_commit.specs.attempts.History.{Served}
use Rattle.world_commit.specs.world_base.declared.request.FetchRequest.{FetchRequest}
use Rattle.world_commit.specs.world_base.Requests.{fetch_message}

-- ---- what messages tell

abbrev pub is_answer_reply : Reply → Bool
is_answer_reply (reply.Answer b) = true
is_answer_reply r = false

-- the answer of a read
abbrev pub is_answer : Message → Bool
is_answer (message.Fetched x op group own r) = is_answer_reply r
is_answer m = false

-- the end of an attempt
abbrev pub is_end : Message → Bool
is_end (message.Ended x own how) = true
is_end m = false

-- no message that is sent passes a test
abbrev pub NoneIs : (Message → Bool) → List Post → Type 0
NoneIs test posts = (p : Post) → Has p posts → test p.message ≡ false

-- ---- what was asked

-- a Fetch that a turn may answer: the one that it hears, or one that waited till then
pub data IsAskedIn (heard : Message) (parked : List Parked) (ask : Message) : Type 0 where
  Heard : ask ≡ heard → IsAskedIn heard parked ask
  Waited : (p : Parked) → Has p parked → ask ≡ p.ask → IsAskedIn heard parked ask

-- a served read as what is answered to a Fetch
abbrev pub served_at : ℕ → FetchRequest → Epoch → Answer → Served
served_at t q e b = record { by = q.attempt; op = q.op; group = q.group; target = t; read = q.read; epoch = e; answer = b }

-- an answer was served at the epoch that is told, to a Fetch that the turn may answer, at the client that it is of
pub record IsAnswered (served : List Served) (t : ℕ) (heard : Message) (parked : List Parked) (x : AttemptId) (op group : ℕ) (said : Option Epoch) (b : Answer) : Type 0 where
  pub q : FetchRequest
  pub asked : IsAskedIn heard parked (fetch_message q)
  pub attempt : x ≡ q.attempt
  pub of_op : op ≡ q.op
  pub of_group : group ≡ q.group
  pub epoch : Epoch
  pub told : said ≡ Some epoch
  -- a request that has an epoch is answered at that
  pub own : (f : Epoch) → q.ep ≡ Some f → f ≡ epoch
  pub among : Has (served_at t q epoch b) served

-- so is each one that is sent
abbrev pub AreAnswered : List Served → ℕ → Message → List Parked → List Post → Type 0
AreAnswered served t heard parked posts =
    (p : Post) (x : AttemptId) (op group : ℕ) (own : Option Epoch) (b : Answer) → Has p posts → p.message ≡ message.Fetched x op group own (reply.Answer b)
    → IsAnswered served t heard parked x op group own b

pub none-answered : (served : List Served) (t : ℕ) (heard : Message) (parked : List Parked) (posts : List Post) → NoneIs is_answer posts → AreAnswered served t heard parked posts
none-answered served t heard parked posts none p x op group own b i says = clash (is_answer p.message) (ap is_answer says) (none p i)

-- Answers that go about, what clients were told, and what lines tell, are such as the text of a report determines.
use Rattle.std.specs.Prelude.{ℕ, ◌≡◌, true, false, Bool, List, All, slice_get, Option, Some, None}
use Rattle.base_types.specs.declared.answer.Answer.{Answer}
use Rattle.base_types.specs.declared.report.Attempt.{Attempt}
use Rattle.base_messages.specs.declared.message.Message.{Message}
use Rattle.base_messages.specs.declared.message.Message.TheVariants.{Fetch, Fetched}
use Rattle.base_messages.specs.declared.message.Post.{Post}
use Rattle.base_messages.specs.declared.message.Reply.{Reply}
use Rattle.base_messages.specs.declared.message.Reply.TheVariants as reply
use Rattle.daos_model.specs.declared.durable.Durable.{Durable}
use Rattle.daos_model.specs.declared.durable.Version.{Version}
use Rattle.daos_model.specs.Attempts.{tries}
use Rattle.daos_model.specs.Forms.{is_read_in_form}
use Rattle.daos_model.specs.Versions.{version_path}
use Rattle.dtx_base.specs.declared.member.Parked.{Parked}
use Rattle.model_laws.specs.Members.{Has}
use Rattle.report_writer.specs.Forms.{IsAnswer, IsCond, IsGot}
use Rattle.script_traits.specs.Keyed.{HasKeys}
use Rattle.world_base.specs.declared.client.ClientState.{ClientState}
use Rattle.world_base.specs.declared.client.Present.{Present}
use Rattle.world_base.specs.declared.letter.Letter.{Letter}
use Rattle.world_base.specs.declared.target.Life.TheVariants.{Running}
use Rattle.world_base.specs.declared.target.TargetMemory.{TargetMemory}
use Rattle.world_base.specs.declared.target.TargetState.{TargetState}
use Rattle.world_base.specs.declared.world.World.{World}
use Rattle.world_base.specs.Letters.{target}
use Rattle.world_making.specs.world_contents.reads.Adds.{NoneIs, is_answer}

-- ---- what goes about

abbrev pub IsReplyInForm : Reply → Type 0
IsReplyInForm (reply.Answer b) = IsAnswer b
IsReplyInForm (reply.Outcome how) = Unit {0}

-- an answer that a message brings has form: names are keys, and holes are short
abbrev pub BringsAnswerInForm : Message → Type 0
BringsAnswerInForm (Fetched x op group e b) = IsReplyInForm b
BringsAnswerInForm m = Unit {0}

abbrev pub PostsInForm : List Post → Type 0
PostsInForm posts = (q : Post) → Has q posts → BringsAnswerInForm q.message

-- what answers no read
pub silent-in_form : (m : Message) → is_answer m ≡ false → BringsAnswerInForm m
silent-in_form (Fetched x op group e (reply.Answer b)) off = let no : ⊥ = cc in absurd no
silent-in_form (Fetched x op group e (reply.Outcome how)) off = tt
silent-in_form m off = tt

pub none-answers : (posts : List Post) → NoneIs is_answer posts → PostsInForm posts
none-answers posts off q i = silent-in_form q.message (off q i)

-- ---- what was told

-- answers and conditions that were told have form, and the numbers of their operations are short
abbrev pub AreToldInForm : List (ℕ × Answer) → List (ℕ × Bool) → Type 0
AreToldInForm gots conds = All IsGot gots × All IsCond conds

-- what the groups gave that were asked so far has form
abbrev pub IsFoundInForm : Option Answer → Type 0
IsFoundInForm None = Unit {0}
IsFoundInForm (Some b) = IsAnswer b

-- what a client's present attempt was told, and what it has found
pub record IsPresentInForm (a : Present) : Type 0 where
  pub told : AreToldInForm a.gots a.conds
  pub found : IsFoundInForm a.found

-- all answers of a world: those in flight, those that clients' present attempts were told, and those that lines tell
pub record AnswersInForm (w : World) : Type 0 where
  pub letters : (l : Letter) → Has l w.messages → BringsAnswerInForm l.message
  pub clients : (n : ℕ) (c : ClientState) (a : Present) → slice_get w.clients n ≡ Some c → c.present ≡ Some a → IsPresentInForm a
  pub lines : (a : Attempt) → Has a (tries w.lines) → AreToldInForm a.gots a.conds

-- ---- what they rest on

-- each version that a target keeps lies on a path whose keys are keys
abbrev pub VersionsHaveKeys : Durable → Type 0
VersionsHaveKeys d = (v : Version) → Has v d.versions → HasKeys (version_path v)

abbrev pub TargetsHaveKeys : World → Type 0
TargetsHaveKeys w = (t : ℕ) (s : TargetState) → slice_get w.targets t ≡ Some s → VersionsHaveKeys s.durable

-- a read that is asked has form
abbrev pub AsksInForm : Message → Type 0
AsksInForm (Fetch x op group ep first tracker q snapshot) = is_read_in_form q ≡ true
AsksInForm m = Unit {0}

abbrev pub PostsAskInForm : List Post → Type 0
PostsAskInForm posts = (q : Post) → Has q posts → AsksInForm q.message

-- so does each that waits at a target
abbrev pub WaitInForm : TargetMemory → Type 0
WaitInForm m = (p : Parked) → Has p m.member.parked → AsksInForm p.ask

-- and so each that goes to a running target, or waits there
pub record ReadsInForm (w : World) : Type 0 where
  pub asked : (l : Letter) (t : ℕ) (s : TargetState) → Has l w.messages → l.to ≡ target t → slice_get w.targets t ≡ Some s → s.life ≡ Running → AsksInForm l.message
  pub waiting : (t : ℕ) (s : TargetState) → slice_get w.targets t ≡ Some s → s.life ≡ Running → WaitInForm s.memory

-- each read that goes about, or waits at any target, has form
pub record AsksAreInForm (w : World) : Type 0 where
  pub letters : (l : Letter) → Has l w.messages → AsksInForm l.message
  pub waiting : (t : ℕ) (s : TargetState) → slice_get w.targets t ≡ Some s → WaitInForm s.memory

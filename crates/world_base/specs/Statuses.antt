-- After a stop: a leader that opened again asks members what they hold, a client asks a leader what became of an attempt, and a target is
-- told that a message of its got no answer.
use Rattle.std.specs.Prelude.{ℕ, ◌≡◌, ◌++◌, Bool, true, false, ◌||◌, List, [], ◌∷◌, map, filter, Option, Some, None, is_some, if◌then◌else◌}
use Rattle.base_types.specs.declared.entry.Entry.{Entry}
use Rattle.base_types.specs.declared.entry.EntryState.{EntryState}
use Rattle.base_types.specs.declared.entry.EntryState.TheVariants as state
use Rattle.base_types.specs.declared.epoch.Epoch.{Epoch}
use Rattle.base_types.specs.declared.id.AttemptId.{AttemptId}
use Rattle.base_types.specs.declared.outcome.Cause.TheVariants.{Unresolved}
use Rattle.base_types.specs.declared.outcome.Outcome.{Outcome}
use Rattle.base_types.specs.declared.outcome.Outcome.TheVariants as outcome
use Rattle.base_messages.specs.declared.actor.ActorId.{ActorId}
use Rattle.base_messages.specs.declared.message.Message.{Message}
use Rattle.base_messages.specs.declared.message.Message.TheVariants as message
use Rattle.base_messages.specs.declared.message.Post.{Post}
use Rattle.daos_model.specs.declared.durable.Durable.{Durable}
use Rattle.daos_model.specs.Durables.{entry_of, same_attempt}
use Rattle.dtx_base.specs.Joining as member
use Rattle.dtx_base.specs.Asking.{ask_heard}
use Rattle.dtx_base.specs.Leading.{LeaderStep, first_down, first_leader, is_led, is_open, reset_heard, to_target}
use Rattle.dtx_base.specs.Members.{other_members}
use Rattle.world_base.specs.declared.did.Did.{Did}
use Rattle.world_base.specs.declared.request.CommitRequest.{CommitRequest}
use Rattle.world_base.specs.declared.target.TargetMemory.{TargetMemory}
use Rattle.world_base.specs.declared.target.TargetPlan.{TargetPlan}
use Rattle.world_base.specs.Changes.{Change, Kept}
use Rattle.world_base.specs.Commits.{ends_at, led_entry}
use Rattle.world_base.specs.Requests.{says, sends, with_ticks}
use Rattle.world_base.specs.Roles.{joins_on, leader_at, leads_on, member_at}

-- ---- turns without a change

-- one silent step, and then what follows
pub data AtOnce : Type 0 where
  Looking : AtOnce
  Answered : AtOnce

pub data NoChange : AtOnce → Kept → Option Change → AtOnce → Type 0 where
  Looks : (k : Kept) → NoChange Looking k None Answered

-- such a turn ends so, by what is kept
pub data EndsAs (left_by : Kept → TargetMemory × Did) : AtOnce → Kept → TargetMemory × Did → Type 0 where
  IsDone : (k : Kept) (left : TargetMemory × Did) → left ≡ left_by k → EndsAs left_by Answered k left

-- ---- a Status, and the answer to it

abbrev pub state_of : Option Entry → EntryState
state_of None = state.Absent
state_of (Some e) = if e.committed then state.Committed else state.Prepared

-- what it holds is told
abbrev pub status_left : TargetMemory → ActorId → AttemptId → ℕ → Kept → TargetMemory × Did
status_left m from x inc k = (m, says from (message.StatusIs x inc (state_of (entry_of k.durable x))) None)

-- a member that holds nothing refuses, as by an unresolved transaction, which is the attempt itself
abbrev pub status_refusal : AttemptId → EntryState → Option Outcome
status_refusal x state.Prepared = None
status_refusal x state.Committed = None
status_refusal x state.Absent = Some (outcome.Restart (Unresolved x))

-- ---- an Ask

abbrev pub ask_left : TargetPlan → TargetMemory → ActorId → AttemptId → Kept → TargetMemory × Did
ask_left t m from x k = (leads_on (ask_heard x from (leader_at t m k.durable)) m, sends (ask_heard x from (leader_at t m k.durable)).posts None)

-- ---- a Commit where a member is known to be down

abbrev pub down_of : TargetPlan → TargetMemory → CommitRequest → Epoch → Option ℕ
down_of t m q e = first_down (led_entry t q e).members m.leader.down

-- ---- a Reset

-- what a target knows, as a leader and as a member, of a message that got no answer, and what it sends
abbrev pub reset_leads : TargetPlan → TargetMemory → ℕ → Bool → Message → Kept → LeaderStep
reset_leads t m by down asked k = reset_heard by down asked (leader_at t m k.durable)

abbrev pub reset_joins : TargetPlan → TargetMemory → Bool → Message → member.MemberStep
reset_joins t m down asked = member.reset_heard down asked (member_at t m)

abbrev pub reset_left : TargetPlan → TargetMemory → ℕ → Bool → Message → Kept → TargetMemory × Did
reset_left t m by down asked k =
    (joins_on (reset_joins t m down asked).member (leads_on (reset_leads t m by down asked k) m), sends ((reset_leads t m by down asked k).posts ++ (reset_joins t m down asked).freed.posts) None)

-- ---- a target opens again

abbrev pub status_to : ℕ → AttemptId → ℕ → Post
status_to inc x m = to_target m (message.Status x inc)

abbrev pub statuses_of : ℕ → Entry → List Post
statuses_of inc e = map (status_to inc e.attempt) (other_members e)

abbrev pub statuses_for : ℕ → List Entry → List Post
statuses_for inc [] = []
statuses_for inc (e ∷ es) = statuses_of inc e ++ statuses_for inc es

-- of each prepared entry that it leads every other member is asked what it holds
unfoldable pub opening_posts : TargetPlan → Durable → List Post
opening_posts t d = statuses_for d.incarnation (filter is_open (filter (is_led t.me) d.entries))

-- what a target knows that has just opened
abbrev pub opening_memory : TargetPlan → Durable → TargetMemory
opening_memory t d = record {
  ticks = d.lease;
  stamps = [];
  leader = (first_leader t.me t.targets d.incarnation d.entries).memory;
  member = (member.first_member t.me).memory;
  collecting = [];
}

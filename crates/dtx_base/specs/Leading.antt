-- The steps of a leader.
use Rattle.std.specs.Prelude.{ℕ, Bool, true, false, ◌&&◌, ◌||◌, ◌==◌, not, filter, find, map, ◌++◌, List, [], ◌∷◌, Option, Some, None, if◌then◌else◌}
use Rattle.std.specs.List.{list_any}
use Rattle.base_types.specs.declared.entry.Entry.{Entry}
use Rattle.base_types.specs.declared.entry.Verdict.{Verdict}
use Rattle.base_types.specs.declared.entry.Verdict.TheVariants as verdict
use Rattle.base_types.specs.declared.epoch.Epoch.{Epoch}
use Rattle.base_types.specs.declared.id.AttemptId.{AttemptId}
use Rattle.base_types.specs.declared.operation.MinorWrite.{MinorWrite}
use Rattle.base_types.specs.declared.outcome.Outcome.{Outcome}
use Rattle.base_types.specs.declared.outcome.Outcome.TheVariants.{Committed, Unknown}
use Rattle.base_messages.specs.declared.actor.ActorId.{ActorId}
use Rattle.base_messages.specs.declared.message.Message.{Message}
use Rattle.base_messages.specs.declared.message.Message.TheVariants.{Ack, Ended, Mark, Marked, Prepare, Status}
use Rattle.base_messages.specs.declared.message.Post.{Post}
use Rattle.daos_model.specs.Changes.{committed_at, confirmed_at, is_other}
use Rattle.daos_model.specs.Durables.{entry_key, is_entry_of, same_attempt}
use Rattle.daos_model.specs.Ordered.{put}
use Rattle.dtx_base.specs.declared.leading.LeaderMemory.{LeaderMemory}
use Rattle.dtx_base.specs.declared.leading.Naming.{Naming}
use Rattle.dtx_base.specs.declared.leading.Undecided.{Undecided}
use Rattle.dtx_base.specs.Members.{all_targets, are_all_counted, has_target, is_other_member, other_members, with_target, writes_at}
use Rattle.dtx_base.specs.Rows.{is_among, is_empty, itself, row_of, with_row, without_row}

-- ---- a leader

-- its number, the number of targets, its incarnation, the entries of the attempts that it leads as its store keeps them, in
-- the order of attempts, and what it remembers
pub record LeaderOf : Type 0 where
  pub me : ℕ
  pub targets : ℕ
  pub incarnation : ℕ
  pub entries : List Entry
  pub memory : LeaderMemory

-- what a step comes to: the leader from then on, and the messages that it sends, in their order
pub record LeaderStep : Type 0 where
  pub leader : LeaderOf
  pub posts : List Post

abbrev pub step_of : LeaderOf → List Post → LeaderStep
step_of l posts = record { leader = l; posts = posts }

-- ---- what is sent

abbrev pub to_target : ℕ → Message → Post
to_target t m = record { to = record { client = false; number = t }; message = m }

-- the client that waits for an attempt's end, if one does, is told it
abbrev pub ended : Option ActorId → AttemptId → Epoch → Outcome → List Post
ended None a e how = []
ended (Some client) a e how = record { to = client; message = Ended a (Some e) how } ∷ []

-- a member is asked to prepare the writes of its groups, on so many targets, by this incarnation
abbrev pub prepare_to : ℕ → ℕ → Entry → Option Epoch → List MinorWrite → ℕ → Post
prepare_to targets inc e first ws t = to_target t (Prepare e first (writes_at targets t ws) inc)

-- a member is told that an attempt is aborted
abbrev pub abort_to : ℕ → AttemptId → ℕ → Post
abort_to inc a t = to_target t (Mark inc ((a, false) ∷ []))

-- ---- what is remembered

abbrev pub undecided_attempt : Undecided → AttemptId
undecided_attempt u = u.attempt

abbrev pub undecided_of : AttemptId → LeaderOf → Option Undecided
undecided_of a l = row_of undecided_attempt a l.memory.undecided

abbrev pub entry_led : AttemptId → LeaderOf → Option Entry
entry_led a l = find (is_entry_of a) l.entries

abbrev pub naming : ℕ → ℕ → AttemptId → Naming
naming t inc a = record { member = t; inc = inc; attempt = a }

abbrev pub naming_to : ℕ → AttemptId → ℕ → Naming
naming_to inc a t = naming t inc a

-- an attempt that a Mark of this incarnation to this member names, with these others
unfoldable pub is_named_in : ℕ → ℕ → List AttemptId → Naming → Bool
is_named_in t inc ids n = (n.member == t) && (n.inc == inc) && is_among n.attempt ids

abbrev pub is_not_named_in : ℕ → ℕ → List AttemptId → Naming → Bool
is_not_named_in t inc ids n = not (is_named_in t inc ids n)

-- what is named once the Mark that named these to a member got its answer
abbrev pub answered : ℕ → ℕ → List AttemptId → List Naming → List Naming
answered t inc ids named = filter (is_not_named_in t inc ids) named

-- ---- a step

-- nothing is sent
abbrev pub quietly : LeaderOf → LeaderStep
quietly l = record { leader = l; posts = [] }

abbrev pub with_undecided : List Undecided → LeaderOf → LeaderOf
with_undecided us l = record l { memory = record l.memory { undecided = us } }

abbrev pub with_named : List Naming → LeaderOf → LeaderOf
with_named ns l = record l { memory = record l.memory { named = ns } }

abbrev pub with_entries : List Entry → LeaderOf → LeaderOf
with_entries es l = record l { entries = es }

-- ---- an attempt begins

-- it has no other member, and is decided
abbrev pub begun_alone : Entry → ActorId → LeaderOf → LeaderStep
begun_alone e client l = record {
  leader = record l { entries = put entry_key e l.entries; memory = record l.memory { decided = with_row itself e.attempt l.memory.decided } };
  posts = ended (Some client) e.attempt e.epoch Committed;
}

-- nothing is counted yet of an attempt; a client waits for its end
abbrev pub new_undecided : AttemptId → Option ActorId → Undecided
new_undecided a client = record { attempt = a; client = client; counted = 0 }

-- each other member is asked to prepare, in the order of their numbers
abbrev pub begun_with_others : Entry → Option Epoch → ActorId → List MinorWrite → LeaderOf → LeaderStep
begun_with_others e first client ws l = record {
  leader = with_undecided (with_row undecided_attempt (new_undecided e.attempt (Some client)) l.memory.undecided) (with_entries (put entry_key e l.entries) l);
  posts = map (prepare_to l.targets l.incarnation e first ws) (other_members e);
}

-- the leader's own entry is stored: it asks the others to prepare; without others the attempt is decided at once
unfoldable pub begun : Entry → Option Epoch → ActorId → List MinorWrite → LeaderOf → LeaderStep
begun e first client ws l = if is_empty (other_members e) then begun_alone e client l else begun_with_others e first client ws l

-- ---- an Ack is heard

-- one more member counts as Ok
abbrev pub counted_at : AttemptId → ℕ → Undecided → Undecided
counted_at a t u = if same_attempt u.attempt a then record u { counted = with_target u.counted t } else u

-- an attempt is decided
abbrev pub decided : AttemptId → LeaderOf → LeaderOf
decided a l = record l { memory = record l.memory { undecided = without_row undecided_attempt a l.memory.undecided; decided = with_row itself a l.memory.decided } }

-- Ok: the member counts, and the last one decides
abbrev pub ok_heard : ℕ → AttemptId → Entry → Undecided → LeaderOf → LeaderStep
ok_heard t a e u l =
    if are_all_counted e (with_target u.counted t) then record { leader = decided a l; posts = ended u.client a e.epoch Committed }
    else quietly (with_undecided (map (counted_at a t) l.memory.undecided) l)

-- an attempt that is aborted: its entry goes, and Marks name it to all other members
abbrev pub aborted : AttemptId → Entry → LeaderOf → LeaderOf
aborted a e l = record l {
  entries = filter (is_other a) l.entries;
  memory = record l.memory { undecided = without_row undecided_attempt a l.memory.undecided; named = l.memory.named ++ map (naming_to l.incarnation a) (other_members e) };
}

-- a refusal: the attempt is aborted, the client is told the refusal, and the other members that it is aborted
abbrev pub refusal_heard : AttemptId → Outcome → Entry → Undecided → LeaderOf → LeaderStep
refusal_heard a how e u l = record {
  leader = aborted a e l;
  posts = ended u.client a e.epoch how ++ map (abort_to l.incarnation a) (other_members e);
}

abbrev pub answer_heard : ℕ → AttemptId → Option Outcome → Entry → Undecided → LeaderOf → LeaderStep
answer_heard t a None e u l = ok_heard t a e u l
answer_heard t a (Some how) e u l = refusal_heard a how e u l

-- an Ack of an attempt that isn't undecided here, and of one who is no other member of it, changes nothing
abbrev pub answer_if_awaited : ℕ → AttemptId → Option Outcome → Option Entry → Option Undecided → LeaderOf → LeaderStep
answer_if_awaited t a refusal None u l = quietly l
answer_if_awaited t a refusal (Some e) None l = quietly l
answer_if_awaited t a refusal (Some e) (Some u) l = if is_other_member e t then answer_heard t a refusal e u l else quietly l

-- an Ack of another incarnation changes nothing
unfoldable pub ack_heard : ℕ → AttemptId → ℕ → Option Outcome → LeaderOf → LeaderStep
ack_heard t a inc refusal l = if inc == l.incarnation then answer_if_awaited t a refusal (entry_led a l) (undecided_of a l) l else quietly l

-- ---- a Marked is heard

-- the entry is committed, and the target is a member of it
abbrev pub may_confirm : ℕ → Option Entry → Bool
may_confirm t None = false
may_confirm t (Some e) = e.committed && has_target e.members t

-- a target confirms the commit of an attempt, where it is committed and the target a member
abbrev pub confirmed_by : ℕ → AttemptId → List Entry → List Entry
confirmed_by t a es = if may_confirm t (find (is_entry_of a) es) then map (confirmed_at a t) es else es

abbrev pub all_confirmed_by : ℕ → List AttemptId → List Entry → List Entry
all_confirmed_by t [] es = es
all_confirmed_by t (a ∷ ids) es = all_confirmed_by t ids (confirmed_by t a es)

-- one of an older incarnation confirms nothing
abbrev pub entries_marked : ℕ → ℕ → List AttemptId → LeaderOf → List Entry
entries_marked t inc ids l = if inc == l.incarnation then all_confirmed_by t ids l.entries else l.entries

-- the Mark got its answer; what it named that is committed is confirmed
unfoldable pub marked_heard : ℕ → ℕ → List AttemptId → LeaderOf → LeaderStep
marked_heard t inc ids l = quietly (with_named (answered t inc ids l.memory.named) (with_entries (entries_marked t inc ids l) l))

-- what a member answers: an Ack or a Marked
abbrev pub answer_of_member : ℕ → Message → LeaderOf → LeaderStep
answer_of_member t (Ack a inc refusal) l = ack_heard t a inc refusal l
answer_of_member t (Marked inc ids) l = marked_heard t inc ids l
answer_of_member t m l = quietly l

-- ---- a Reset is heard

-- no client waits any more
abbrev pub unwaited_at : AttemptId → Undecided → Undecided
unwaited_at a u = if same_attempt u.attempt a then record u { client = None } else u

-- a member is down: the attempt stays undecided, and the client that waits is told
abbrev pub down_told : ℕ → AttemptId → Option Entry → Option Undecided → LeaderOf → LeaderStep
down_told t a None u l = quietly l
down_told t a (Some e) None l = quietly l
down_told t a (Some e) (Some u) l = record {
  leader = with_undecided (map (unwaited_at a) l.memory.undecided) l;
  posts = ended u.client a e.epoch (Unknown t);
}

-- a member that stopped is asked what it holds, unless it was asked to prepare by an older incarnation
abbrev pub status_asked : ℕ → AttemptId → ℕ → LeaderOf → LeaderStep
status_asked t a inc l = if inc == l.incarnation then record { leader = l; posts = to_target t (Status a inc) ∷ [] } else quietly l

-- a Reset of a Prepare, or of a Status
unfoldable pub prepare_reset : ℕ → Bool → AttemptId → ℕ → LeaderOf → LeaderStep
prepare_reset t true a inc l = down_told t a (entry_led a l) (undecided_of a l) l
prepare_reset t false a inc l = status_asked t a inc l

-- the attempts that a Mark names
abbrev pub marked_attempt : AttemptId × Bool → AttemptId
marked_attempt m = m.0

abbrev pub attempts_of : List (AttemptId × Bool) → List AttemptId
attempts_of marks = map marked_attempt marks

-- a Reset of a Mark: the same Mark is sent again, unless the member is down
unfoldable pub mark_reset : ℕ → Bool → ℕ → List (AttemptId × Bool) → LeaderOf → LeaderStep
mark_reset t true inc marks l = quietly (with_named (answered t inc (attempts_of marks) l.memory.named) l)
mark_reset t false inc marks l = record {
  leader = with_named (answered t inc (attempts_of marks) l.memory.named ++ map (naming t inc) (attempts_of marks)) l;
  posts = to_target t (Mark inc marks) ∷ [];
}

abbrev pub reset_of : ℕ → Bool → Message → LeaderOf → LeaderStep
reset_of t down (Prepare e first ws inc) l = prepare_reset t down e.attempt inc l
reset_of t down (Status a inc) l = prepare_reset t down a inc l
reset_of t down (Mark inc marks) l = mark_reset t down inc marks l
reset_of t down m l = quietly l

-- that a target is down is remembered
abbrev pub knowing : ℕ → Bool → LeaderOf → LeaderOf
knowing t true l = record l { memory = record l.memory { down = with_target l.memory.down t } }
knowing t false l = l

abbrev pub step_knowing : ℕ → Bool → LeaderStep → LeaderStep
step_knowing t down s = record { leader = knowing t down s.leader; posts = s.posts }

-- a Reset by a target of a message that got no answer
abbrev pub reset_heard : ℕ → Bool → Message → LeaderOf → LeaderStep
reset_heard t down m l = step_knowing t down (reset_of t down m l)

-- ---- commits are told in batches

abbrev pub entry_attempt : Entry → AttemptId
entry_attempt e = e.attempt

-- a Mark names an attempt to a member
abbrev pub is_naming : ℕ → AttemptId → Naming → Bool
is_naming t a n = (n.member == t) && same_attempt n.attempt a

unfoldable pub is_named : ℕ → AttemptId → List Naming → Bool
is_named t a named = list_any (is_naming t a) named

-- a member is to be told of a commit: it hasn't confirmed it, and no Mark names it that is without an answer
unfoldable pub is_owed : ℕ → List Naming → Entry → Bool
is_owed t named e = e.committed && is_other_member e t && not (has_target e.confirmed t) && not (is_named t e.attempt named)

-- the commits that a target is to be told of, in the order of attempts; none where it is known to be down
unfoldable pub owed : ℕ → List Naming → List Entry → ℕ → List AttemptId
owed down named es t = if has_target down t then [] else map entry_attempt (filter (is_owed t named) es)

abbrev pub commit_mark : AttemptId → AttemptId × Bool
commit_mark a = (a, true)

-- one Mark with all of these, if there are any
abbrev pub mark_with : ℕ → ℕ → List AttemptId → List Post
mark_with inc t ids = if is_empty ids then [] else to_target t (Mark inc (map commit_mark ids)) ∷ []

-- what each of these targets is sent, and what that names
abbrev pub marks_for : ℕ → ℕ → List Naming → List Entry → List ℕ → List Post
marks_for inc down named es [] = []
marks_for inc down named es (t ∷ ts) = mark_with inc t (owed down named es t) ++ marks_for inc down named es ts

abbrev pub names_for : ℕ → ℕ → List Naming → List Entry → List ℕ → List Naming
names_for inc down named es [] = []
names_for inc down named es (t ∷ ts) = map (naming t inc) (owed down named es t) ++ names_for inc down named es ts

-- each target is sent one Mark with all that it is to be told, if there is anything
unfoldable pub batched : LeaderOf → LeaderStep
batched l = record {
  leader = with_named (l.memory.named ++ names_for l.incarnation l.memory.down l.memory.named l.entries all_targets) l;
  posts = marks_for l.incarnation l.memory.down l.memory.named l.entries all_targets;
}

-- one of these targets is to be told of a commit
abbrev pub is_due_to : ℕ → List Naming → List Entry → ℕ → Bool
is_due_to down named es t = not (has_target down t) && list_any (is_owed t named) es

unfoldable pub is_batch_due : LeaderOf → Bool
is_batch_due l = list_any (is_due_to l.memory.down l.memory.named l.entries) all_targets

-- ---- what else a leader does

-- committed where the entry is, or where the attempt is decided; aborted where there is no entry
abbrev pub verdict_on : Option Entry → Bool → Verdict
verdict_on None decided = verdict.Aborted
verdict_on (Some e) decided = if e.committed || decided then verdict.Committed else verdict.Undecided

unfoldable pub query_answer : AttemptId → LeaderOf → Verdict
query_answer a l = verdict_on (entry_led a l) (is_among a l.memory.decided)

-- the least of some targets that is known to be down
abbrev pub is_down_among : ℕ → ℕ → ℕ → Bool
is_down_among members down t = has_target members t && has_target down t

unfoldable pub first_down : ℕ → ℕ → Option ℕ
first_down members down = find (is_down_among members down) all_targets

-- a decided attempt is settled in the store
unfoldable pub settled_led : AttemptId → LeaderOf → LeaderOf
settled_led a l = record l { entries = map (committed_at a) l.entries; memory = record l.memory { decided = without_row itself a l.memory.decided } }

-- what became of an attempt is told by another target: it is no more among those that are undecided or decided here
abbrev pub forgotten : AttemptId → LeaderMemory → LeaderMemory
forgotten a m = record m { undecided = without_row undecided_attempt a m.undecided; decided = without_row itself a m.decided }

-- ---- a leader begins

abbrev pub is_led : ℕ → Entry → Bool
is_led me e = e.leader == me

-- the entry isn't committed, and others are to be asked; or there are none
abbrev pub is_open : Entry → Bool
is_open e = not e.committed && not (is_empty (other_members e))

abbrev pub is_open_alone : Entry → Bool
is_open_alone e = not e.committed && is_empty (other_members e)

abbrev pub reopened_undecided : Entry → Undecided
reopened_undecided e = new_undecided e.attempt None

abbrev pub first_memory : List Entry → LeaderMemory
first_memory es = record { undecided = map reopened_undecided (filter is_open es); decided = map entry_attempt (filter is_open_alone es); named = []; down = 0 }

-- a leader that has just opened: of the entries that it leads, those that aren't committed are undecided, or decided where
-- there is no other member; no Mark was sent, and no target is known to be down
unfoldable pub first_leader : ℕ → ℕ → ℕ → List Entry → LeaderOf
first_leader me targets inc es = record { me = me; targets = targets; incarnation = inc; entries = filter (is_led me) es; memory = first_memory (filter (is_led me) es) }

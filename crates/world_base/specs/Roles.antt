-- A target as a leader, and as a member.
use Rattle.std.specs.Prelude.{ℕ, Bool, false, not, ◌&&◌, filter, List, [], ◌∷◌, Option, Some, None, if◌then◌else◌}
use Rattle.base_types.specs.declared.entry.Entry.{Entry}
use Rattle.base_types.specs.declared.entry.Verdict.{Verdict}
use Rattle.base_types.specs.declared.entry.Verdict.TheVariants.{Aborted, Committed, Undecided}
use Rattle.base_types.specs.declared.id.AttemptId.{AttemptId}
use Rattle.daos_model.specs.declared.durable.Durable.{Durable}
use Rattle.daos_model.specs.Durables.{entry_of}
use Rattle.dtx_base.specs.Joining.{MemberOf}
use Rattle.dtx_base.specs.Leading.{LeaderOf, LeaderStep, forgotten, is_led}
use Rattle.world_base.specs.declared.target.TargetMemory.{TargetMemory}
use Rattle.world_base.specs.declared.target.TargetPlan.{TargetPlan}

-- ---- a leader

-- a target as the leader of the attempts that it leads: their entries are those that it keeps
abbrev pub leader_at : TargetPlan → TargetMemory → Durable → LeaderOf
leader_at t m d = record { me = t.me; targets = t.targets; incarnation = d.incarnation; entries = filter (is_led t.me) d.entries; memory = m.leader }

-- what it knows after a step as a leader
abbrev pub leads_on : LeaderStep → TargetMemory → TargetMemory
leads_on s m = record m { leader = s.leader.memory }

-- these are the decided attempts that it leads and hasn't settled
abbrev pub with_unsettled : List AttemptId → TargetMemory → TargetMemory
with_unsettled decided m = record m { leader = record m.leader { decided = decided } }

-- ---- what others tell

-- what a target knows once it was told what became of an attempt: as a leader it neither waits for it nor has to settle it
abbrev pub told_of : AttemptId → TargetMemory → TargetMemory
told_of a m = record m { leader = forgotten a m.leader }

abbrev pub told_of_all : List AttemptId → TargetMemory → TargetMemory
told_of_all [] m = m
told_of_all (a ∷ ids) m = told_of_all ids (told_of a m)

-- a Verdict tells it, unless it says that the attempt is undecided
abbrev pub told_by : Verdict → AttemptId → TargetMemory → TargetMemory
told_by Committed a m = told_of a m
told_by Aborted a m = told_of a m
told_by Undecided a m = m

-- ---- a member

-- a target as a member of the attempts that others lead
abbrev pub member_at : TargetPlan → TargetMemory → MemberOf
member_at t m = record { me = t.me; memory = m.member }

-- what it knows after a step as a member
abbrev pub joins_on : MemberOf → TargetMemory → TargetMemory
joins_on s m = record m { member = s.memory }

-- ---- entries here

-- the leader that an entry names, where that is another target
abbrev pub other_leader_of : ℕ → Option Entry → Option ℕ
other_leader_of me None = None
other_leader_of me (Some e) = if is_led me e then None else Some e.leader

-- the other target that leads an attempt which has an entry here
unfoldable pub other_leader : TargetPlan → AttemptId → Durable → Option ℕ
other_leader t a d = other_leader_of t.me (entry_of d a)

abbrev pub is_open_entry : Option Entry → Bool
is_open_entry None = false
is_open_entry (Some e) = not e.committed

-- an attempt is prepared here: it has an entry that isn't committed
unfoldable pub is_prepared : AttemptId → Durable → Bool
is_prepared a d = is_open_entry (entry_of d a)

abbrev pub is_entry_in_doubt : ℕ → Option Entry → Bool
is_entry_in_doubt me None = false
is_entry_in_doubt me (Some e) = not e.committed && not (is_led me e)

-- an attempt is in doubt here: it is prepared, and another target leads it, whose word on it a member waits for
unfoldable pub is_in_doubt : ℕ → AttemptId → Durable → Bool
is_in_doubt me a d = is_entry_in_doubt me (entry_of d a)

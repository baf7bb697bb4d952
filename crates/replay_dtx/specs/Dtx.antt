-- What a target keeps and knows, step by step.
use Rattle.std.specs.Prelude.{ℕ, Bool, true, find, filter, List, [], ◌∷◌, Option, if◌then◌else◌}
use Rattle.base_types.specs.declared.entry.Entry.{Entry}
use Rattle.base_types.specs.declared.entry.Settle.TheVariants.{Commit, Confirm}
use Rattle.base_types.specs.declared.id.AttemptId.{AttemptId}
use Rattle.base_messages.specs.declared.message.Post.{Post}
use Rattle.daos_model.specs.declared.durable.Durable.{Durable}
use Rattle.daos_model.specs.Changes.{settled}
use Rattle.daos_model.specs.Durables.{is_entry_of}
use Rattle.dtx_base.specs.Leading.{LeaderStep, answered, is_led, may_confirm}
use Rattle.dtx_table.specs.declared.seat.Seat.{Seat}
use Rattle.world_base.specs.declared.target.TargetMemory.{TargetMemory}
use Rattle.world_base.specs.declared.target.TargetPlan.{TargetPlan}
use Rattle.world_base.specs.Marks.{marked_step}
use Rattle.world_base.specs.Roles.{is_prepared, leads_on}
use Rattle.replay_base.specs.declared.leases.Covered.{Covered}

-- where a target that keeps this is as a leader
abbrev pub seat_at : TargetPlan → Durable → Seat
seat_at t d = record { me = t.me; targets = t.targets; incarnation = d.incarnation }

-- what it knows after a step as a leader, and what it sends
abbrev pub leads : LeaderStep → TargetMemory → TargetMemory × List Post
leads s m = (leads_on s m, s.posts)

-- something was changed
abbrev pub changed_to : Durable → Covered
changed_to d = record { durable = d; changed = true }

-- an attempt that a Mark names is settled, where it is prepared here
abbrev pub marked_one : AttemptId × Bool → Covered → Covered
marked_one x k = if is_prepared x.0 k.durable then changed_to (settled x.0 (marked_step x.1) k.durable) else k

abbrev pub all_marked : List (AttemptId × Bool) → Covered → Covered
all_marked [] k = k
all_marked (x ∷ xs) k = all_marked xs (marked_one x k)

-- the entry of an attempt, where this target leads it
abbrev pub led_in : TargetPlan → AttemptId → Durable → Option Entry
led_in t a d = find (is_entry_of a) (filter (is_led t.me) d.entries)

-- an attempt's commit is confirmed, where it is committed and led here, and the one who tells a member
abbrev pub confirmed_one : TargetPlan → ℕ → AttemptId → Covered → Covered
confirmed_one t member a k = if may_confirm member (led_in t a k.durable) then changed_to (settled a (Confirm member) k.durable) else k

abbrev pub all_confirmed : TargetPlan → ℕ → List AttemptId → Covered → Covered
all_confirmed t member [] k = k
all_confirmed t member (a ∷ ids) k = all_confirmed t member ids (confirmed_one t member a k)

-- what a leader knows once a Mark of it got its answer
abbrev pub answered_memory : ℕ → ℕ → List AttemptId → TargetMemory → TargetMemory
answered_memory member inc ids m = record m { leader = record m.leader { named = answered member inc ids m.leader.named } }

-- a decided attempt is settled
abbrev pub all_settled : List AttemptId → Covered → Covered
all_settled [] k = k
all_settled (a ∷ ids) k = all_settled ids (changed_to (settled a Commit k.durable))

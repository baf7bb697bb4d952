-- A leader has some of the writes of what it leads, and so has each other member; members' bits are below those of all targets.
use Rattle.std.specs.Prelude.{ℕ, ◌≡◌, ◌≢◌, ◌<◌, ◌^◌, ◌==◌, Bool, true, not, List, [], ◌∷◌, filter, length, refl}
use Rattle.std.proofs.Common.{inl, sym, ap, subst}
use Rattle.base_types.specs.declared.id.AttemptId.{AttemptId}
use Rattle.base_types.specs.declared.operation.MinorWrite.{MinorWrite}
use Rattle.base_types.specs.Operations.{write_path}
use Rattle.base_types.specs.Placement.{path_leader, path_members, writes_leader, writes_members}
use Rattle.base_types.specs.PlacementLaws.{path_leader-member}
use Rattle.model_laws.specs.Lists.{has-some}
use Rattle.model_laws.specs.Members.{Has, any-has, has-filter, has-from_contains, has-from_filter}
use Rattle.model_laws.specs.TargetLaws.{same_number}
use Rattle.daos_model.specs.BoolLaws.{and_left}
use Rattle.dtx_base.specs.Members.{all_targets, has_target, is_other_member, is_written_at, other_members, writes_at}
use Rattle.world_standing.specs.world_contents.posts.Members.{bit-of, writes-within}
use Rattle.world_standing.specs.world_commit.attempts.Attempts.{IsOther, first_entry, leader_of, members_of, writes_of}
use Rattle.world_base.specs.Events.{Rules, target_plan}
use Rattle.world_standing.specs.world_contents.posts.Posting.{bits-below, one-of_them}
use Rattle.world_standing.specs.world_contents.reads.Given.{FitsTargets}
use Rattle.world_base.specs.Commits as commit

-- ---- lists

-- one that passes a test is among those that do
some-pass : {T : Type 0} (test : T → Bool) (xs : List T) (x : T) → Has x xs → test x ≡ true → 0 < length (filter test xs)
some-pass test xs x i passes = has-some (filter test xs) x (has-filter test xs x i passes)

-- ---- members

-- another member has some of an attempt's writes
pub others-write : (r : Rules) (x : AttemptId) (t : ℕ) → IsOther r x t → 0 < length (writes_at r.script.targets t (writes_of r x))
unfolding other_members is_other_member is_written_at
others-write r x t other =
    let among = has-from_filter (is_other_member (first_entry r x (record { 0 = 0 }))) all_targets t other in
    let bit : has_target (members_of r x) t ≡ true = and_left (has_target (members_of r x) t) (not (t == leader_of r x)) among.1 in
    let w = one-of_them (writes_of r x) r.script.targets t (bit-of (writes_members (writes_of r x) r.script.targets) t bit) in
    some-pass (is_written_at r.script.targets t) (writes_of r x) w.0 w.1 (any-has (commit.is_number t) (path_members (write_path w.0.write) r.script.targets) t w.2 (same_number t))

-- and so has the leader
pub leader-writes : (r : Rules) (x : AttemptId) → ((w : MinorWrite) → Has w (writes_of r x) → FitsTargets r w.write) → writes_of r x ≢ [] → 0 < length (commit.own_writes (target_plan r (leader_of r x)) (writes_of r x))
unfolding writes_leader
leader-writes r x fits some = by (writes_of r x) refl
  where
    by : (ws : List MinorWrite) → writes_of r x ≡ ws → 0 < length (commit.own_writes (target_plan r (leader_of r x)) (writes_of r x))
    by [] none = absurd (some none)
    by (w ∷ ws) is = some-pass (commit.is_own (target_plan r (leader_of r x))) (writes_of r x) w mine
        (any-has (commit.is_number (leader_of r x)) (path_members (write_path w.write) r.script.targets) (leader_of r x) leads (same_number (leader_of r x)))
      where
        mine : Has w (writes_of r x)
        mine = subst (Has w) (sym is) (inl refl)

        leader : leader_of r x ≡ path_leader (write_path w.write) r.script.targets
        leader = ap (λ vs. writes_leader vs r.script.targets) is

        leads : Has (leader_of r x) (path_members (write_path w.write) r.script.targets)
        leads =
            let f = fits w mine in
            subst (λ t. Has t (path_members (write_path w.write) r.script.targets)) (sym leader)
            (has-from_contains (path_members (write_path w.write) r.script.targets) (path_leader (write_path w.write) r.script.targets) (path_leader-member (write_path w.write) f.0 r.script.targets f.1 f.2))

-- ---- bits

-- the members of an attempt are targets
pub members-below : (r : Rules) (x : AttemptId) → 0 < r.script.targets → members_of r x < 2 ^ r.script.targets
members-below r x some = bits-below r.script.targets (writes_members (writes_of r x) r.script.targets) (λ t i. writes-within (writes_of r x) r.script.targets t some i)

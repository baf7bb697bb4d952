-- Members as bits, and those that aren't the leader.
use Rattle.std.specs.Prelude.{ℕ, ◌≡◌, ◌^◌, ◌<◌, true, false, ◌&&◌, ◌==◌, not, refl, Bool, if◌then◌else◌}
use Rattle.std.specs.Int.{bit_at}
use Rattle.std.proofs.Common.{sym, subst, arith, max}
use Rattle.std.proofs.lemmas.Bool.Decides.{nat_tests}
use Rattle.std.proofs.lemmas.Nat.Bits.{bit_at_or, bit_at-lt, bit_at-pow_other, bit_at-pow_same, bit_at-zero}
use Rattle.base_types.specs.declared.entry.Entry.{Entry}
use Rattle.base_types.specs.declared.id.AttemptId.{AttemptId}
use Rattle.model_laws.specs.Members.{Has, has-filter, has-from_filter}
use Rattle.daos_model.specs.BoolLaws.{and_right, clash, not_true}
use Rattle.dtx_base.specs.Members.{all_targets, has_target, is_other_member, other_members, with_target}
use Rattle.world_commit.specs.attempts.Attempts.{IsOther, first_entry, leader_of, members_of, others_of}
use Rattle.world_base.specs.Events.{Rules}
use Rattle.dtx_base.specs.declared.leading.Undecided.{Undecided}
use Rattle.dtx_base.specs.Leading.{counted_at, undecided_attempt}
use Rattle.daos_model.specs.Durables.{same_attempt}

-- an entry's other members are those of its attempt
pub others-same : (r : Rules) (x : AttemptId) (e : Entry) → e.leader ≡ leader_of r x → e.members ≡ members_of r x → other_members e ≡ others_of r x
unfolding other_members is_other_member
others-same r x e leader members = rw (leader, members) refl

pub is-other_same : (r : Rules) (x : AttemptId) (e : Entry) (m : ℕ) → e.leader ≡ leader_of r x → e.members ≡ members_of r x → IsOther r x m → is_other_member e m ≡ true
unfolding other_members
is-other_same r x e m leader members other = (has-from_filter (is_other_member e) all_targets m (subst (Has m) (sym (others-same r x e leader members)) other)).1

pub other-from_test : (r : Rules) (x : AttemptId) (e : Entry) (m : ℕ) → e.leader ≡ leader_of r x → e.members ≡ members_of r x → Has m all_targets → is_other_member e m ≡ true → IsOther r x m
unfolding other_members
other-from_test r x e m leader members among is = subst (Has m) (others-same r x e leader members) (has-filter (is_other_member e) all_targets m among is)

-- the leader is no other member
pub other-no_leader : (r : Rules) (x : AttemptId) (m : ℕ) → IsOther r x m → m ≡ leader_of r x → ⊥
unfolding other_members is_other_member
other-no_leader r x m other same =
    let is : (has_target (members_of r x) m && not (m == leader_of r x)) ≡ true = (has-from_filter (is_other_member (first_entry r x (record { 0 = 0 }))) all_targets m other).1 in
    let apart : (m == leader_of r x) ≡ false = not_true (m == leader_of r x) (and_right (has_target (members_of r x) m) (not (m == leader_of r x)) is) in
    clash (m == leader_of r x) (let one : (m == leader_of r x) ≡ true = grind (arith, nat_tests) in one) apart

-- ---- bits

pub has-with : (set t : ℕ) → has_target (with_target set t) t ≡ true
unfolding has_target
has-with set t =
    let own : bit_at (2 ^ t) t ≡ 1 = bit_at-pow_same t in
    let bits : bit_at (with_target set t) t ≡ max (bit_at set t) (bit_at (2 ^ t) t) = bit_at_or set (2 ^ t) t in
    let small : bit_at set t < 2 = bit_at-lt set t in
    let one : bit_at (with_target set t) t ≡ 1 = grind (arith, nat_tests) in
    rw one refl

pub has-with_other : (set t m : ℕ) → (m ≡ t → ⊥) → has_target (with_target set t) m ≡ has_target set m
unfolding has_target
has-with_other set t m other =
    let own : bit_at (2 ^ t) m ≡ 0 = bit_at-pow_other t m other in
    let bits : bit_at (with_target set t) m ≡ max (bit_at set m) (bit_at (2 ^ t) m) = bit_at_or set (2 ^ t) m in
    let one : bit_at (with_target set t) m ≡ bit_at set m = grind (arith, nat_tests) in
    rw one refl

pub has-none : (m : ℕ) → has_target 0 m ≡ false
unfolding has_target
has-none m = rw (bit_at-zero m) refl

pub counted-same : (a : AttemptId) (t : ℕ) (u : Undecided) → undecided_attempt (counted_at a t u) ≡ undecided_attempt u
counted-same a t u = by (same_attempt u.attempt a)
  where
    by : (s : Bool) → undecided_attempt (if s then record u { counted = with_target u.counted t } else u) ≡ undecided_attempt u
    by true = refl
    by false = refl

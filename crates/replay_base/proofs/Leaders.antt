-- A target leads what it decided, after each change.
use Rattle.std.proofs.Common.{ℕ, ◌≡◌, refl, sym, ◌∙◌, ap, subst, Bool, true, false, Option, Some, None, List, [], ◌∷◌, Contains}
use Rattle.std.specs.Prelude.{filter, is_none, if◌then◌else◌}
use Rattle.std.specs.List.{list_all}
use Rattle.base_types.specs.declared.entry.Settle.TheVariants.{Abort, Commit}
use Rattle.base_types.specs.declared.id.AttemptId.{AttemptId}
use Rattle.daos_model.specs.declared.durable.Durable.{Durable}
use Rattle.model_laws.specs.Members.{has-from_contains}
use Rattle.model_laws.specs.ServeLaws.{all-has}
use Rattle.daos_model.specs.BoolLaws.{and_left, and_right, both, clash}
use Rattle.daos_model.specs.EntryLaws.{same_attempt-itself}
use Rattle.dtx_base.specs.LeaderLaws.{same-is}
use Rattle.daos_model.specs.Changes.{leased, settled}
use Rattle.daos_model.specs.Durables.{same_attempt}
use Rattle.world_base.specs.declared.target.TargetPlan.{TargetPlan}
use Rattle.world_base.specs.EntryLaws.{leader-aborted, leader-aborted_other, leader-committed, leader-leased}
use Rattle.world_base.specs.Roles.{other_leader}
use Rattle.replay_base.specs.Heard.{AreLedHere, is_led_here}

-- ---- all of a list

all_as : {T : Type 0} (p q : T → Bool) → ((x : T) → p x ≡ true → q x ≡ true) → (xs : List T) → list_all p xs ≡ true → list_all q xs ≡ true
all_as p q goes [] h = refl
all_as p q goes (x ∷ xs) h = both (q x) (list_all q xs) (goes x (and_left (p x) (list_all p xs) h)) (all_as p q goes xs (and_right (p x) (list_all p xs) h))

pub all_fewer : {T : Type 0} (p t : T → Bool) (xs : List T) → list_all p xs ≡ true → list_all p (filter t xs) ≡ true
all_fewer p t [] h = refl
all_fewer p t (x ∷ xs) h = by (t x) (all_fewer p t xs (and_right (p x) (list_all p xs) h))
  where
    by : (b : Bool) → list_all p (filter t xs) ≡ true → list_all p (if b then x ∷ filter t xs else filter t xs) ≡ true
    by true rest = both (p x) (list_all p (filter t xs)) (and_left (p x) (list_all p xs) h) rest
    by false rest = rest

-- ---- what a target decided

none_is : {T : Type 0} (o : Option T) → is_none o ≡ true → o ≡ None
none_is None h = refl
none_is (Some x) h = let bad : ⊥ = cc in absurd bad

led_one : (t : TargetPlan) (a : AttemptId) (d : Durable) → is_led_here t d a ≡ true → other_leader t a d ≡ None
unfolding is_led_here
led_one t a d h = none_is (other_leader t a d) h

led_same : (t : TargetPlan) (d e : Durable) (a : AttemptId) → other_leader t a e ≡ other_leader t a d → is_led_here t d a ≡ true → is_led_here t e a ≡ true
unfolding is_led_here
led_same t d e a same h = ap is_none same ∙ h

pub led_at : (t : TargetPlan) (decided : List AttemptId) (d : Durable) (a : AttemptId) → AreLedHere t decided d → Contains decided a → other_leader t a d ≡ None
led_at t decided d a h among = led_one t a d (all-has (is_led_here t d) decided a h (has-from_contains decided a among))

pub led_fewer : (t : TargetPlan) (decided : List AttemptId) (d : Durable) (test : AttemptId → Bool) → AreLedHere t decided d → AreLedHere t (filter test decided) d
led_fewer t decided d test h = all_fewer (is_led_here t d) test decided h

pub led_committed : (t : TargetPlan) (decided : List AttemptId) (a : AttemptId) (d : Durable) → AreLedHere t decided d → AreLedHere t decided (settled a Commit d)
led_committed t decided a d h = all_as (is_led_here t d) (is_led_here t (settled a Commit d)) (λ x. led_same t d (settled a Commit d) x (leader-committed t a x d)) decided h

pub led_leased : (t : TargetPlan) (decided : List AttemptId) (n : ℕ) (d : Durable) → AreLedHere t decided d → AreLedHere t decided (leased n d)
led_leased t decided n d h = all_as (is_led_here t d) (is_led_here t (leased n d)) (λ x. led_same t d (leased n d) x (leader-leased t n x d)) decided h

leader_aborted_any : (t : TargetPlan) (a x : AttemptId) (d : Durable) → is_led_here t d x ≡ true → is_led_here t (settled a Abort d) x ≡ true
unfolding is_led_here
leader_aborted_any t a x d h = by (same_attempt x a) refl
  where
    by : (b : Bool) → same_attempt x a ≡ b → is_none (other_leader t x (settled a Abort d)) ≡ true
    by true is = ap is_none (subst (λ y. other_leader t y (settled a Abort d) ≡ None) (sym (same-is x a is)) (leader-aborted t a d))
    by false is = ap is_none (leader-aborted_other t a x d (λ same. clash (same_attempt x a) (ap (λ y. same_attempt x y) (sym same) ∙ same_attempt-itself x) is)) ∙ h

pub led_aborted : (t : TargetPlan) (decided : List AttemptId) (a : AttemptId) (d : Durable) → AreLedHere t decided d → AreLedHere t decided (settled a Abort d)
led_aborted t decided a d h = all_as (is_led_here t d) (is_led_here t (settled a Abort d)) (λ x. leader_aborted_any t a x d) decided h

-- What becomes of a change that may stop a store over lists.
use Rattle.std.specs.Prelude.{◌≡◌, ◌≢◌, ◌≤◌, ◌⊎◌, ◌-◌, ◌%◌, ◌==◌, ◌||◌, ℕ, Bool, true, false, List, [], ◌∷◌, nat_lt, if◌then◌else◌}
use Rattle.std.specs.List.{list_any}
use Rattle.base_outside.specs.Causes.{Rose, one_more}
use Rattle.vos_plain.specs.declared.stop_plan.Injected.{Injected}
use Rattle.vos_plain.specs.declared.stop_plan.Injected.TheVariants.{Made, StopBefore, StopAfter}
use Rattle.vos_plain.specs.declared.stop_plan.StopPlan.{StopPlan}

abbrev pub is_number : ℕ → ℕ → Bool
is_number number planned = planned == number

-- the change is made where the number is even
abbrev pub stop_of : ℕ → Injected
stop_of number = if number % 2 == 0 then StopAfter else StopBefore

-- the number of the next change, counted from 1, is in the plan
abbrev pub is_planned : StopPlan → Bool
is_planned t = list_any (is_number (one_more t.count)) t.plan.items

-- a change stops the store where its number is in the plan, and where it is the last that the fuse leaves
abbrev pub injected_by : StopPlan → Injected
injected_by t = if is_planned t then stop_of (one_more t.count) else if t.left == 1 then stop_of t.fuse else Made

abbrev pub one_more_if : Bool → ℕ → ℕ
one_more_if b n = if b then one_more n else n

-- what the change leaves: it is counted, the fuse has one less, and what stopped the store is counted
abbrev pub after_change : StopPlan → StopPlan
after_change t = record t {
  count = one_more t.count;
  left = t.left - 1;
  faults = one_more_if (is_planned t) t.faults;
  burns = one_more_if (t.left == 1) t.burns;
  stopped = is_planned t || t.left == 1;
}

abbrev pub has_some : List ℕ → Bool
has_some [] = false
has_some (n ∷ ns) = true

-- whether the store is stopped, its counts, whether a plan may stop it, whether a fuse is set, and the changes that the
-- fuse leaves
pub record Signs : Type 0 where
  pub stopped : Bool
  pub faults : ℕ
  pub burns : ℕ
  pub may_fail : Bool
  pub fused : Bool
  pub left : ℕ

abbrev pub signs_of : StopPlan → Signs
signs_of t = record {
  stopped = t.stopped;
  faults = t.faults;
  burns = t.burns;
  may_fail = has_some t.plan.items;
  fused = nat_lt 0 t.left;
  left = t.left;
}

-- the store runs on, and its fuse has one change less
pub record KeepsRunning (h k : Signs) : Type 0 where
  pub signs : k ≡ record h { left = h.left - 1 }
  pub later : h.left ≢ 1

-- the store is stopped by the plan or by the fuse
pub record StopsThere (h k : Signs) : Type 0 where
  pub stopped : k.stopped ≡ true
  pub faults : h.faults ≤ k.faults
  pub burns : h.burns ≤ k.burns
  pub may_fail : k.may_fail ≡ h.may_fail
  pub sure : h.may_fail ≡ false → k.faults ≡ h.faults
  pub able : h.may_fail ≡ false → h.fused ≡ false → ⊥
  pub ailed : Rose h.faults k.faults ⊎ (Rose h.burns k.burns × (h.fused ≡ true) × (k.fused ≡ false))
  pub fuse : ((k.burns ≡ h.burns) × (k.fused ≡ h.fused)) ⊎ ((h.fused ≡ true) × (k.fused ≡ false))
  pub left : k.left ≡ h.left - 1
  pub burnt : h.left ≡ 1 → Rose h.burns k.burns

abbrev pub AfterChange : Injected → Signs → Signs → Type 0
AfterChange Made h k = KeepsRunning h k
AfterChange StopBefore h k = StopsThere h k
AfterChange StopAfter h k = StopsThere h k

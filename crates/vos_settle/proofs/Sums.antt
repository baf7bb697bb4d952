-- Ranges and bytes that one call stages, and one after another.
use Rattle.std.proofs.Common.{◌≡◌, ℕ, ◌+◌, ◌*◌, ◌≤◌, ◌<◌, ◌⊎◌, sym, subst, arith}
use Rattle.pmem_pages.specs.Blocks.{Budget}
use Rattle.pmem_tree.specs.Calls.{StagesAtMost, TooFew}
use Rattle.vos_levels.specs.Levels.{Hung}
use Rattle.vos_path.specs.Writes.{IsSmall}
use Rattle.vos_path.proofs.Written.{fewer_than, lacked_before, spent_at_most, spent_then}
use Rattle.vos_path.specs.vos_versions.Marks.{StagesLess}
use Rattle.vos_settle.specs.Costs.{Lacks, Spends, for_one}

pub spends_most : (r s : ℕ) (x y : Budget) → r ≤ s → Spends r x y → Spends s x y
spends_most r s x y le h = spent_at_most r (256 * r) s (256 * s) x y le (omega (arith, le)) h

pub spends_none : (s : ℕ) (x y : Budget) → y ≡ x → Spends s x y
spends_none s x y e = subst (λ z. Spends s x z) (sym e) (record { ranges_most = omega arith; ranges_least = omega arith; bytes_most = omega arith; bytes_least = omega arith })

pub spends_then : (r s : ℕ) (x y z : Budget) → Spends r x y → Spends s y z → Spends (r + s) x z
spends_then r s x y z h k = spent_at_most (r + s) (256 * r + 256 * s) (r + s) (256 * (r + s)) x z (omega arith) (omega arith) (spent_then r (256 * r) s (256 * s) x y z h k)

pub log_spends : {A : Type 0} (g : Hung A) (d : ℕ) (x y : Budget) → IsSmall d g → StagesAtMost 8 16 g.0 x y → Spends (for_one d) x y
log_spends g d x y small h = spent_at_most (8 * d + 16) (256 * (8 * d + 16)) (for_one d) (256 * for_one d) x y (omega arith) (omega arith) (h d small)

pub version_spends : {A : Type 0} (g : Hung A) (d : ℕ) (x y : Budget) → IsSmall d g → StagesLess g.0 x y → Spends (for_one d) x y
version_spends g d x y small h = spent_at_most (8 * d + 21) (256 * (8 * d + 16) + 5) (for_one d) (256 * for_one d) x y (omega arith) (omega arith) (h d small)

pub lacks_more : (r s d : ℕ) (x : Budget) → r ≤ s → Lacks r d x → Lacks s d x
lacks_more r s d x le h = fewer_than (r + (16 * d + 32)) (256 * (r + (16 * d + 32))) (s + (16 * d + 32)) (256 * (s + (16 * d + 32))) x (omega (arith, le)) (omega (arith, le)) h

pub lacks_now : {A : Type 0} (g : Hung A) (r d : ℕ) (x : Budget) → IsSmall d g → TooFew g.0 x → Lacks r d x
lacks_now g r d x small few = fewer_than (16 * d + 32) (256 * (16 * d + 32)) (r + (16 * d + 32)) (256 * (r + (16 * d + 32))) x (omega arith) (omega arith) (few d small)

-- after what was spent
pub lacks_then : {A : Type 0} (g : Hung A) (r s d : ℕ) (x y : Budget) → r ≤ s → IsSmall d g → Spends r x y → TooFew g.0 y → Lacks s d x
lacks_then g r s d x y le small h few =
    fewer_than (r + (16 * d + 32)) (256 * r + 256 * (16 * d + 32)) (s + (16 * d + 32)) (256 * (s + (16 * d + 32))) x (omega (arith, le)) (omega (arith, le))
    (lacked_before r (256 * r) (16 * d + 32) (256 * (16 * d + 32)) x y h (few d small))

-- no range was left for a value, after what was spent
pub lacks_put : (r d : ℕ) (x y : Budget) → Spends r x y → (y.ranges < 1) ⊎ (y.bytes < 256) → Lacks (r + 1) d x
lacks_put r d x y h few =
    fewer_than (r + 1) (256 * r + 256) (r + 1 + (16 * d + 32)) (256 * (r + 1 + (16 * d + 32))) x (omega arith) (omega arith)
    (lacked_before r (256 * r) 1 256 x y h few)

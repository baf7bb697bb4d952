-- What is said of every call: whether it stopped, and why.
use Rattle.std.specs.Prelude.{◌≡◌, ◌⊎◌, ◌≤◌, ℕ, Bool, true}
use Rattle.base_outside.specs.Causes.{Rose}
use Rattle.pmem_pages.specs.declared.refusal.PageNo.{PageNo}
use Rattle.pmem_pages.specs.declared.refusal.PageNo.TheVariants.{NoBlock, TooMuch}
use Rattle.pmem_tree_base.specs.declared.refusal.TreeNo.{TreeNo}
use Rattle.pmem_tree_base.specs.declared.refusal.TreeNo.TheVariants.{NoBlock as no_block, TooMuch as too_much}

-- The counts don't fall, and what stopped stays so. It stopped only where it had before, or a count rose.
pub record Goes {S : Type 0} (stopped : S → Bool) (faults burns : S → ℕ) (old new : S) : Type 0 where
  pub later_faults : faults old ≤ faults new
  pub later_burns : burns old ≤ burns new
  pub once : stopped old ≡ true → stopped new ≡ true
  pub cause : stopped new ≡ true → (stopped old ≡ true) ⊎ (Rose (faults old) (faults new) ⊎ Rose (burns old) (burns new))

-- the counts and whether it stopped are as they were
pub record Rests {S : Type 0} (stopped : S → Bool) (faults burns : S → ℕ) (old new : S) : Type 0 where
  pub stopped_as : stopped new ≡ stopped old
  pub faults_as : faults new ≡ faults old
  pub burns_as : burns new ≡ burns old

-- why no block was taken, as trees say it
abbrev pub tree_no : PageNo → TreeNo
tree_no NoBlock = no_block
tree_no TooMuch = too_much

-- What becomes of versions that are settled or pruned.
use Rattle.std.specs.Prelude.{◌==◌, ◌&&◌, ◌+◌, ℕ, Bool, true, false, not, List, [], ◌∷◌, if◌then◌else◌}
use Rattle.base_types.specs.declared.id.AttemptId.{AttemptId}
use Rattle.vos_levels.specs.declared.change.Change.{Change}
use Rattle.vos_levels.specs.declared.change.Change.TheVariants.{Commit, Abort, Prune}
use Rattle.vos_levels.specs.Levels.{map_those, without_those}

abbrev pub same_attempt : AttemptId → AttemptId → Bool
same_attempt a b = (a.client == b.client) && (a.command == b.command) && (a.attempt == b.attempt)

-- a change takes the unsettled versions of an attempt, or those that are done
abbrev pub takes : Change → AttemptId → Bool → Bool
takes (Commit attempt) by done = same_attempt by attempt && not done
takes (Abort attempt) by done = same_attempt by attempt && not done
takes Prune by done = done

-- a commit keeps what it takes, as done; the others remove it
abbrev pub keeps : Change → Bool
keeps (Commit attempt) = true
keeps (Abort attempt) = false
keeps Prune = false

-- the versions after those that a change takes became done, or went
abbrev pub changed_by : {A : Type 0} → Bool → (A → Bool) → (A → A) → List A → List A
changed_by keeps is_taken done xs = if keeps then map_those is_taken done xs else without_those is_taken xs

-- the sum over those that pass a test
abbrev pub sum_those : {A : Type 0} → (A → Bool) → (A → ℕ) → List A → ℕ
sum_those test size [] = 0
sum_those test size (x ∷ xs) = (if test x then size x else 0) + sum_those test size xs

-- the blocks that a change gives back: those of what it removes
abbrev pub freed_by : {A : Type 0} → Bool → (A → Bool) → (A → ℕ) → List A → ℕ
freed_by keeps is_taken size xs = if keeps then 0 else sum_those is_taken size xs

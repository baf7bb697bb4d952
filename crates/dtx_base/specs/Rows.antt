-- Rows, each of an attempt, in the order of attempts.
use Rattle.std.specs.Prelude.{ℕ, Bool, ◌==◌, not, find, filter, length, List, Option}
use Rattle.std.specs.List.{list_any}
use Rattle.base_types.specs.declared.id.AttemptId.{AttemptId}
use Rattle.daos_model.specs.Durables.{attempt_key, same_attempt}
use Rattle.daos_model.specs.Ordered.{put}

-- a row's place in the order; `of` is the attempt of a row
abbrev pub row_key : {T : Type 0} → (T → AttemptId) → T → List ℕ
row_key of r = attempt_key (of r)

abbrev pub is_row_of : {T : Type 0} → (T → AttemptId) → AttemptId → T → Bool
is_row_of of a r = same_attempt (of r) a

abbrev pub is_other_row : {T : Type 0} → (T → AttemptId) → AttemptId → T → Bool
is_other_row of a r = not (same_attempt (of r) a)

-- the row of an attempt, if there is one
abbrev pub row_of : {T : Type 0} → (T → AttemptId) → AttemptId → List T → Option T
row_of of a rows = find (is_row_of of a) rows

-- one row more, in its place
abbrev pub with_row : {T : Type 0} → (T → AttemptId) → T → List T → List T
with_row of r rows = put (row_key of) r rows

-- the rows of all other attempts
abbrev pub without_row : {T : Type 0} → (T → AttemptId) → AttemptId → List T → List T
without_row of a rows = filter (is_other_row of a) rows

-- an attempt is its own row
abbrev pub itself : AttemptId → AttemptId
itself a = a

abbrev pub is_attempt : AttemptId → AttemptId → Bool
is_attempt a b = same_attempt b a

-- an attempt is among others
abbrev pub is_among : AttemptId → List AttemptId → Bool
is_among a ids = list_any (is_attempt a) ids

abbrev pub is_empty : {T : Type 0} → List T → Bool
is_empty xs = length xs == 0

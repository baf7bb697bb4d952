-- Places in chains: one for each bucket.
use Rattle.std.specs.Prelude.{ℕ, ◌≡◌, ◌≢◌, ◌+◌, ◌<◌, ◌≤◌, List, length, slice_index}

-- a place from one on is the first of a bucket, or the end where there is none: `buckets` has that of each place
pub record LeadsTo (buckets : List ℕ) (b start at : ℕ) : Type 0 where
  pub above : start ≤ at
  pub within : at ≤ length buckets
  pub none : (j : ℕ) → start ≤ j → j < at → slice_index buckets j ≢ b
  pub same : at < length buckets → slice_index buckets at ≡ b

-- of the places from one on `heads` has the first of each bucket, and `nexts` for each place the next of its bucket
pub record AreChained (buckets heads nexts : List ℕ) (start : ℕ) : Type 0 where
  pub heads_lead : (b : ℕ) → b < length heads → LeadsTo buckets b start (slice_index heads b)
  pub nexts_lead : (j : ℕ) → start ≤ j → j < length buckets → LeadsTo buckets (slice_index buckets j) (j + 1) (slice_index nexts j)

-- What is kept where versions are settled or removed, and entries with them.
use Rattle.std.specs.Prelude.{◌≡◌, ◌≤◌, ℕ, All, Bool, true, false, List, Some, filter, length, map, not}
use Rattle.base_types.specs.declared.entry.Entry.{Entry}
use Rattle.base_types.specs.declared.entry.Settle.{Settle}
use Rattle.base_types.specs.declared.entry.Settle.TheVariants.{Abort, Commit, Confirm, Forget}
use Rattle.base_types.specs.declared.id.AttemptId.{AttemptId}
use Rattle.daos_model.specs.declared.durable.Durable.{Durable}
use Rattle.daos_model.specs.declared.durable.Version.{Version}
use Rattle.daos_model.specs.Changes.{settled, with_versions}
use Rattle.daos_model.specs.Durables.{entry_of}
use Rattle.daos_model.specs.Versions.{done_by, is_not_pending, is_pending}
use Rattle.pmem_pages.specs.Blocks.{Blocks}
use Rattle.pmem_pages.specs.Owners.{Holds}
use Rattle.vos_entries.specs.Entries.{IsCommittedAt, IsConfirmedAt, IsGoneAt, entries_in, entries_owner, listings}
use Rattle.vos_tables.specs.vos_image.Kept.{Stored, counts, durable_of}
use Rattle.vos_tables.specs.vos_image.Places.{Places}
use Rattle.vos_tables.specs.vos_path.Objects.{objects_versions}

-- fixed places with the same rows, the same lease and the same incarnation
pub record SameRows (p q : Places) : Type 0 where
  pub conts : q.conts ≡ p.conts
  pub snaps : q.snaps ≡ p.snaps
  pub lease : q.header.lease ≡ p.header.lease
  pub incarnation : q.header.incarnation ≡ p.header.incarnation

-- what such places keep with something in blocks
abbrev pub kept_so : Places → Stored → Durable
kept_so p x = durable_of (record { places = p; stored = x })

abbrev pub versions_in : Stored → List Version
versions_in x = objects_versions x.0

-- every version counts
abbrev pub EachCounts : Stored → Type 0
EachCounts x = All (λ v. counts (entries_in x.1) v ≡ true) (versions_in x)

-- of no attempt are more versions unsettled than before
abbrev pub NoMoreWait : Stored → Stored → Type 0
NoMoreWait x y = (a : AttemptId) → length (filter (is_pending a) (versions_in y)) ≤ length (filter (is_pending a) (versions_in x))

-- An attempt was settled: what is kept changed so, still every version counts, and no more are unsettled.
pub record IsSettled (a : AttemptId) (s : Settle) (p : Places) (x : Stored) (q : Places) (y : Stored) : Type 0 where
  pub kept : kept_so q y ≡ settled a s (kept_so p x)
  pub count : EachCounts y
  pub wait : NoMoreWait x y

-- So it is where its versions are done and its entry is committed, by one commit;
abbrev pub CommitSettles : Type 0
CommitSettles =
    (a : AttemptId) (p q : Places) (x y : Stored) → SameRows p q → EachCounts x → versions_in y ≡ map (done_by a) (versions_in x) → IsCommittedAt a (listings x.1) (listings y.1)
    → IsSettled a Commit p x q y

-- where its entry is confirmed,
abbrev pub ConfirmSettles : Type 0
ConfirmSettles =
    (a : AttemptId) (t : ℕ) (p q : Places) (x y : Stored) → SameRows p q → EachCounts x → versions_in y ≡ versions_in x → IsConfirmedAt a t (listings x.1) (listings y.1)
    → IsSettled a (Confirm t) p x q y

-- and where its entry, which was committed, is forgotten.
abbrev pub ForgetSettles : Type 0
ForgetSettles =
    (m : Blocks) (a : AttemptId) (e : Entry) (p q : Places) (x y : Stored) → SameRows p q → EachCounts x → Holds entries_owner m x.1 → entry_of (kept_so p x) a ≡ Some e → e.committed ≡ true
    → versions_in y ≡ versions_in x → IsGoneAt a (listings x.1) (listings y.1)
    → IsSettled a Forget p x q y

-- An attempt was aborted: what is kept changed so, and its unsettled versions are those that don't count.
pub record IsAborted (a : AttemptId) (p : Places) (x : Stored) (q : Places) (y : Stored) : Type 0 where
  pub kept : kept_so q y ≡ settled a Abort (kept_so p x)
  pub count : All (λ v. counts (entries_in y.1) v ≡ is_not_pending a v) (versions_in y)
  pub wait : NoMoreWait x y

-- So it is where its entry went, and its versions are still there.
abbrev pub AbortSettles : Type 0
AbortSettles =
    (a : AttemptId) (p q : Places) (x y : Stored) → SameRows p q → EachCounts x → versions_in y ≡ versions_in x → IsGoneAt a (listings x.1) (listings y.1)
    → IsAborted a p x q y

-- ---- versions that go

-- those go that pass a test
abbrev pub GoFrom : (Version → Bool) → Stored → Stored → Type 0
GoFrom goes x y = versions_in y ≡ filter (λ v. not (goes v)) (versions_in x)

-- Where those that go don't count, what is kept stays.
abbrev pub UncountedGo : Type 0
UncountedGo =
    (goes : Version → Bool) (p q : Places) (x y : Stored) → SameRows p q → y.1 ≡ x.1 → All (λ v. goes v ≡ true → counts (entries_in x.1) v ≡ false) (versions_in x) → GoFrom goes x y
    → kept_so q y ≡ kept_so p x

-- Where every version counts, those go from what is kept, and each of the others counts.
pub record AreGone (goes : Version → Bool) (p : Places) (x : Stored) (q : Places) (y : Stored) : Type 0 where
  pub kept : kept_so q y ≡ with_versions (filter (λ v. not (goes v)) (kept_so p x).versions) (kept_so p x)
  pub count : EachCounts y
  pub wait : NoMoreWait x y

abbrev pub CountedGo : Type 0
CountedGo = (goes : Version → Bool) (p q : Places) (x y : Stored) → SameRows p q → EachCounts x → y.1 ≡ x.1 → GoFrom goes x y → AreGone goes p x q y

-- where all that don't count go, every version counts
abbrev pub RestCounts : Type 0
RestCounts = (goes : Version → Bool) (x y : Stored) → y.1 ≡ x.1 → All (λ v. counts (entries_in x.1) v ≡ not (goes v)) (versions_in x) → GoFrom goes x y → EachCounts y

-- Where every version counts, those of what is kept are all that stand there: what a test says of each of the ones it says of each of the others.
abbrev pub AllAreKept : Type 0
AllAreKept = (t : Version → Bool) (p : Places) (x : Stored) → EachCounts x → All (λ v. t v ≡ true) (kept_so p x).versions → All (λ v. t v ≡ true) (versions_in x)

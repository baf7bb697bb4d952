-- What each change makes of the blocks that all that is kept takes.
use Rattle.std.proofs.Common.{◌≡◌, ℕ, ◌+◌, ◌≤◌, Bool, true, false, not, List, [], ◌∷◌, length, map, refl, arith, Result, Ok, Err, ◌∙◌, ap, sym}
use Rattle.std.specs.Prelude.{IsErr, OnOk, filter, if◌then◌else◌}
use Rattle.base_types.specs.declared.entry.Entry.{Entry}
use Rattle.base_types.specs.declared.entry.Settle.{Settle}
use Rattle.base_types.specs.declared.entry.Settle.TheVariants.{Commit, Abort, Confirm, Forget}
use Rattle.base_types.specs.declared.epoch.Epoch.{Epoch}
use Rattle.base_types.specs.declared.id.AttemptId.{AttemptId}
use Rattle.base_types.specs.declared.id.ContId.{ContId}
use Rattle.base_types.specs.declared.operation.MinorWrite.{MinorWrite}
use Rattle.base_types.specs.declared.operation.Write.{Write}
use Rattle.base_types.specs.declared.operation.Write.TheVariants.{Single, Extent, PunchObject, PunchDkey, PunchAkey}
use Rattle.daos_model.specs.declared.durable.Durable.{Durable}
use Rattle.daos_model.specs.declared.durable.Version.{Version}
use Rattle.daos_model.specs.Answers.{is_before}
use Rattle.daos_model.specs.Blocks.{blocks, sum_of_blocks, write_blocks}
use Rattle.base_types.specs.declared.outcome.FloorWhy.TheVariants.{Snapshot}
use Rattle.daos_model.specs.Changes.{committed_at, confirmed_at, created, discarded, enlisted, frozen, is_other, is_out_of_range, leased, marked, new_snap, pruned, raised_at, reopened, settled, thawed, with_versions}
use Rattle.daos_model.specs.Durables.{entry_key, is_frozen, snap_key, version_key}
use Rattle.daos_model.specs.FormLaws.{length-filter, length-map, length-put}
use Rattle.daos_model.specs.Ordered.{put, puts}
use Rattle.daos_model.specs.Prunes.{is_going}
use Rattle.daos_model.specs.Versions.{done_by, is_not_pending, versions_of}
use Rattle.vos_store.specs.Calls.{going_count}
use Rattle.vos_contents.specs.Steps.{with_entry}
use Rattle.vos_plain.specs.Costs.{goes_by, taken_by, version_blocks, versions_blocks}

-- ---- of versions

some_blocks : (w : Write) → 1 ≤ write_blocks w
some_blocks (Single p b) = omega arith
some_blocks (Extent p low b) = omega arith
some_blocks (PunchObject p) = omega arith
some_blocks (PunchDkey p) = omega arith
some_blocks (PunchAkey p) = omega arith

blocks-put : (v : Version) (us : List Version) → versions_blocks (put version_key v us) ≡ version_blocks v + versions_blocks us
blocks-put v [] = refl
blocks-put v (u ∷ us) =
    elim (is_before (version_key u) (version_key v)) as (λ b. versions_blocks (if b then u ∷ put version_key v us else v ∷ u ∷ us) ≡ version_blocks v + versions_blocks (u ∷ us)) [
      | true ↦ omega (arith, blocks-put v us)
      | false ↦ refl
    ]

blocks-puts : (vs us : List Version) → versions_blocks (puts version_key vs us) ≡ versions_blocks vs + versions_blocks us
blocks-puts [] us = omega arith
blocks-puts (v ∷ vs) us = omega (arith, blocks-put v (puts version_key vs us), blocks-puts vs us)

blocks-filter : (t : Version → Bool) (us : List Version) → versions_blocks (filter t us) ≤ versions_blocks us
blocks-filter t [] = omega arith
blocks-filter t (u ∷ us) =
    elim (t u) as (λ b. versions_blocks (if b then u ∷ filter t us else filter t us) ≤ versions_blocks (u ∷ us)) [
      | true ↦ omega (arith, blocks-filter t us)
      | false ↦ omega (arith, blocks-filter t us)
    ]

blocks-staying : (t : Version → Bool) (us : List Version) → versions_blocks (filter (λ v. not (t v)) us) + length (filter t us) ≤ versions_blocks us
blocks-staying t [] = omega arith
blocks-staying t (u ∷ us) =
    elim (t u) as (λ b. versions_blocks (if not b then u ∷ filter (λ v. not (t v)) us else filter (λ v. not (t v)) us) + length (if b then u ∷ filter t us else filter t us) ≤ versions_blocks (u ∷ us)) [
      | true ↦ omega (arith, blocks-staying t us, some_blocks u.write)
      | false ↦ omega (arith, blocks-staying t us)
    ]

same_blocks : (a : AttemptId) (v : Version) → version_blocks (done_by a v) ≡ version_blocks v
unfolding done_by
same_blocks a v = refl

blocks-done : (a : AttemptId) (us : List Version) → versions_blocks (map (done_by a) us) ≡ versions_blocks us
blocks-done a [] = refl
blocks-done a (u ∷ us) = omega (arith, same_blocks a u, blocks-done a us)

blocks_of-versions : (e : Entry) (ws : List MinorWrite) → versions_blocks (versions_of e ws) ≡ sum_of_blocks ws
blocks_of-versions e [] = refl
blocks_of-versions e (w ∷ ws) = omega (arith, blocks_of-versions e ws)

-- an entry and its writes take what is counted for them
pub entry_blocks : (e : Entry) (ws : List MinorWrite) (vs : List Version) → vs ≡ versions_of e ws → versions_blocks vs + 2 ≡ blocks ws
unfolding blocks
entry_blocks e ws vs is = let same : versions_blocks vs ≡ sum_of_blocks ws = ap versions_blocks is ∙ blocks_of-versions e ws in omega (arith, same)

-- ---- of all that is kept

pub taken-committed : (a : AttemptId) (d : Durable) → taken_by (settled a Commit d) ≡ taken_by d
unfolding settled
taken-committed a d = omega (arith, blocks-done a d.versions, length-map (committed_at a) d.entries)

pub taken-confirmed : (a : AttemptId) (t : ℕ) (d : Durable) → taken_by (settled a (Confirm t) d) ≡ taken_by d
unfolding settled
taken-confirmed a t d = omega (arith, length-map (confirmed_at a t) d.entries)

pub taken-aborted : (a : AttemptId) (d : Durable) → taken_by (settled a Abort d) ≤ taken_by d
unfolding settled
taken-aborted a d = omega (arith, blocks-filter (is_not_pending a) d.versions, length-filter (is_other a) d.entries)

pub taken-forgotten : (a : AttemptId) (d : Durable) → taken_by (settled a Forget d) ≤ taken_by d
unfolding settled
taken-forgotten a d = omega (arith, length-filter (is_other a) d.entries)

pub taken-prepared : (vs : List Version) (e : Entry) (d : Durable) → taken_by (with_entry vs e d) ≡ taken_by d + versions_blocks vs + 2
taken-prepared vs e d = omega (arith, blocks-puts vs d.versions, length-put entry_key e d.entries)

pub taken-pruned : (c : ContId) (upto : Epoch) (n : ℕ) (d : Durable) → taken_by (pruned c upto n d) + going_count c upto d ≤ taken_by d
unfolding pruned with_versions marked
taken-pruned c upto n d = omega (arith, blocks-staying (is_going c upto d.versions d.snaps) d.versions)

pub taken-discarded : (c : ContId) (lo hi : Epoch) (d : Durable) → taken_by (discarded c lo hi d) ≤ taken_by d
unfolding discarded with_versions
taken-discarded c lo hi d = omega (arith, blocks-filter (is_out_of_range c lo hi) d.versions)

pub taken-frozen : (c : ContId) (s : Epoch) (d : Durable) → taken_by (frozen c s d) ≡ taken_by d
unfolding frozen
taken-frozen c s d =
    elim (is_frozen d c s) as (λ (b : Bool). taken_by (if b then d else record d { conts = map (raised_at c s (Snapshot s)) d.conts; snaps = put snap_key (new_snap c s) d.snaps }) ≡ taken_by d) [
      | true ↦ refl
      | false ↦ refl
    ]

pub taken-created : (c : ContId) (s : Epoch) (d : Durable) → taken_by (created c s d) ≡ taken_by d
unfolding created
taken-created c s d = refl

pub taken-thawed : (c : ContId) (s : Epoch) (d : Durable) → taken_by (thawed c s d) ≡ taken_by d
unfolding thawed
taken-thawed c s d = refl

pub taken-leased : (ticks : ℕ) (d : Durable) → taken_by (leased ticks d) ≡ taken_by d
unfolding leased
taken-leased ticks d = refl

pub taken-enlisted : (cs : List ContId) (d : Durable) → taken_by (enlisted cs d) ≡ taken_by d
unfolding enlisted
taken-enlisted cs d = refl

pub taken-reopened : (d : Durable) → taken_by (reopened d) ≡ taken_by d
unfolding reopened
taken-reopened d = refl

-- ---- a count that stays, and one that is made anew

pub still-counted : (d e : Durable) (taken capacity : ℕ) → taken_by e ≡ taken_by d → taken ≡ taken_by d → taken_by d ≤ capacity → (taken ≡ taken_by e) × (taken_by e ≤ capacity)
still-counted d e taken capacity same counted room = (counted ∙ sym same, omega (arith, same, room))

pub still-fits : (d e : Durable) (capacity : ℕ) → taken_by e ≤ taken_by d → taken_by d ≤ capacity → taken_by e ≤ capacity
still-fits d e capacity fewer room = omega (arith, fewer, room)

-- containers were added, or the call was refused
pub enlisted-or-not : {T E : Type 0} (r : Result T E) (cs : List ContId) (d e : Durable) → OnOk r (e ≡ enlisted cs d) → (IsErr r → e ≡ d) → taken_by e ≡ taken_by d
enlisted-or-not (Ok x) cs d e made refused = ap taken_by made ∙ taken-enlisted cs d
enlisted-or-not (Err x) cs d e made refused = ap taken_by (refused refl)

pub blocks-ready : {T E : Type 0} (r : Result T E) (e : Entry) (ws : List MinorWrite) (vs : List Version) → OnOk r (vs ≡ versions_of e ws) → OnOk r (versions_blocks vs + 2 ≡ blocks ws)
blocks-ready (Ok x) e ws vs is = entry_blocks e ws vs is
blocks-ready (Err x) e ws vs is = tt

-- ---- a step

pub taken-settled : (a : AttemptId) (s : Settle) (d : Durable) → taken_by (settled a s d) ≤ taken_by d
taken-settled a Commit d = let h = taken-committed a d in omega arith
taken-settled a Abort d = taken-aborted a d
taken-settled a (Confirm t) d = let h = taken-confirmed a t d in omega arith
taken-settled a Forget d = taken-forgotten a d

pub taken-in_place : (a : AttemptId) (s : Settle) (d : Durable) → goes_by s ≡ false → taken_by (settled a s d) ≡ taken_by d
taken-in_place a Commit d h = taken-committed a d
taken-in_place a Abort d h = absurd (let n : ⊥ = cc in n)
taken-in_place a (Confirm t) d h = taken-confirmed a t d
taken-in_place a Forget d h = absurd (let n : ⊥ = cc in n)

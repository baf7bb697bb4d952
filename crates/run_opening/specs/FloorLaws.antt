-- Openings keep each frozen snapshot at or below the floor of its container.
use Rattle.std.specs.Prelude.{ℕ, ◌≡◌, ◌≤◌, ◌==◌, Bool, true, false, List, [], ◌∷◌, find, Option, Some, None, refl, if◌then◌else◌}
use Rattle.std.specs.List.{list_any}
use Rattle.std.proofs.Common.{sym, ◌∙◌, ap, subst, arith}
use Rattle.base_types.specs.declared.id.ContId.{ContId}
use Rattle.base_types.specs.declared.script.Script.{Script}
use Rattle.base_types.specs.declared.snapshot.Snap.{Snap}
use Rattle.model_laws.specs.EntryLaws.{find-put, found-has, found-passes}
use Rattle.model_laws.specs.Members.{Has, any-has, contains-from_has, has-from_contains, has-from_filter}
use Rattle.model_laws.specs.TargetLaws.{number_same}
use Rattle.daos_model.specs.declared.durable.ContRow.{ContRow}
use Rattle.daos_model.specs.declared.durable.Durable.{Durable}
use Rattle.daos_model.specs.BoolLaws.{clash, false_of}
use Rattle.daos_model.specs.Changes.{enlisted, reopened, with_cont, with_conts}
use Rattle.daos_model.specs.Durables.{cont_key, empty_durable, is_row_of, new_row, row_of, row_or_new}
use Rattle.daos_model.specs.Ordered.{put}
use Rattle.run_opening.specs.Laws.{EnlistingKeepsFloors, OpeningsKeepFloors, ReopeningKeepsFloors, UnusedAreFloored}
use Rattle.run_opening.specs.Opened.{IsFloored, is_at_one_of, lasting_snaps, opened}
use Rattle.run_opening.specs.SoundLaws.{at-mapped}

-- ---- one target

-- a target that keeps the rows of its containers, and of its snapshots no others
pub fewer-floored : (d g : Durable) → ((x : Snap) → Has x g.snaps → Has x d.snaps) → g.conts ≡ d.conts → IsFloored d → IsFloored g
unfolding row_of
fewer-floored d g fewer conts low x i =
    subst (λ rows. x.epoch.0 ≤ (row_or_new x.cont (find (is_row_of x.cont) rows)).floor.0) (sym conts) (low x (contains-from_has d.snaps x (fewer x (has-from_contains g.snaps x i))))

-- ---- containers

-- a row that is found is found still where a container is added
found-still : (c a : ContId) (rows : List ContRow) (r : ContRow) → find (is_row_of c) rows ≡ Some r → find (is_row_of c) (with_cont a rows) ≡ Some r
found-still c a rows r found = by (list_any (is_row_of a) rows) refl
  where
    by : (b : Bool) → list_any (is_row_of a) rows ≡ b → find (is_row_of c) (if b then rows else put cont_key (new_row a) rows) ≡ Some r
    by true is = found
    by false is = find-put cont_key (is_row_of c) (new_row a) rows (false_of (is_row_of c (new_row a)) apart) ∙ found
      where
        apart : is_row_of c (new_row a) ≡ true → ⊥
        apart own =
            let same : a.0 ≡ c.0 = number_same a.0 c.0 own in
            clash (list_any (is_row_of a) rows) (any-has (is_row_of a) rows r (found-has (is_row_of c) rows r found) (ap (λ n. r.cont.0 == n) same ∙ found-passes (is_row_of c) rows r found)) is

all-found_still : (c : ContId) (cs : List ContId) (rows : List ContRow) (r : ContRow) → find (is_row_of c) rows ≡ Some r → find (is_row_of c) (with_conts cs rows) ≡ Some r
all-found_still c [] rows r found = found
all-found_still c (a ∷ cs) rows r found = all-found_still c cs (with_cont a rows) r (found-still c a rows r found)

-- the floor of a container doesn't fall
floor-stays : (n : ℕ) (c : ContId) (cs : List ContId) (rows : List ContRow) → n ≤ (row_or_new c (find (is_row_of c) rows)).floor.0 → n ≤ (row_or_new c (find (is_row_of c) (with_conts cs rows))).floor.0
floor-stays n c cs rows low = by (find (is_row_of c) rows) refl low
  where
    by : (o : Option ContRow) → find (is_row_of c) rows ≡ o → n ≤ (row_or_new c o).floor.0 → n ≤ (row_or_new c (find (is_row_of c) (with_conts cs rows))).floor.0
    by None none le = let zero : n ≤ 0 = le in omega (arith, zero)
    by (Some r) found le = subst (λ o. n ≤ (row_or_new c o).floor.0) (sym (all-found_still c cs rows r found)) le

pub enlisted-floored : (cs : List ContId) (d : Durable) → IsFloored d → IsFloored (enlisted cs d)
unfolding enlisted row_of
enlisted-floored cs d low x i = floor-stays x.epoch.0 x.cont cs d.conts (low x i)

pub enlisting-floored : EnlistingKeepsFloors
enlisting-floored cs F low t d at = let e = at-mapped (enlisted cs) F t d at in subst IsFloored e.2 (enlisted-floored cs e.0 (low t e.0 e.1))

-- ---- openings

opened-low : (s : Script) (F : List Durable) (d : Durable) → IsFloored d → IsFloored (opened s F d)
unfolding opened
opened-low s F d low = fewer-floored d (opened s F d) (λ x i. (has-from_filter (is_at_one_of (lasting_snaps s F)) d.snaps x i).0) refl low

pub opened-floored : OpeningsKeepFloors
opened-floored s F low t d at = let e = at-mapped (opened s F) F t d at in subst IsFloored e.2 (opened-low s F e.0 (low t e.0 e.1))

reopened-low : (d : Durable) → IsFloored d → IsFloored (reopened d)
unfolding reopened
reopened-low d low = fewer-floored d (reopened d) (λ x i. i) refl low

pub reopening-floored : ReopeningKeepsFloors
reopening-floored F low t d at = let e = at-mapped reopened F t d at in subst IsFloored e.2 (reopened-low e.0 (low t e.0 e.1))

-- ---- targets that were never used

empty-floored : (n : ℕ) → IsFloored (empty_durable n)
empty-floored n x i = absurd (has-from_contains [] x i)

pub unused-floored : UnusedAreFloored
unused-floored F unused t d at = let e = unused t d at in subst IsFloored (sym e.1) (empty-floored e.0)

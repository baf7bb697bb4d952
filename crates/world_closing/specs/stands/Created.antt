-- The snapshots that target 0 holds as created, and the maps that are kept of snapshots.
use Rattle.std.specs.Prelude.{ℕ, ◌≡◌, ◌≤◌, ◌&&◌, ◌==◌, Bool, true, false, List, [], ◌∷◌, map, slice_get, Some, refl, if◌then◌else◌}
use Rattle.std.proofs.Common.{inl, inr, sym, ◌∙◌, ap, subst}
use Rattle.base_types.specs.declared.epoch.Epoch.{Epoch}
use Rattle.base_types.specs.declared.id.ContId.{ContId}
use Rattle.base_types.specs.declared.snapshot.Snap.{Snap}
use Rattle.model_laws.specs.Members.{Has, any-has, has-any, has-filter, has-from_filter}
use Rattle.model_laws.specs.TargetLaws.{number_same, same_number}
use Rattle.daos_model.specs.declared.cell.CellValue.{CellValue}
use Rattle.daos_model.specs.declared.stand.SnapMap.{SnapMap}
use Rattle.daos_model.specs.BoolLaws.{and_left, and_right, both}
use Rattle.daos_model.specs.Durables.{is_snap_at}
use Rattle.daos_model.specs.Family.{created_snaps, is_created}
use Rattle.daos_model.specs.Opening.{Opening, kept_map, top}
use Rattle.world_base.specs.declared.target.TargetState.{TargetState}
use Rattle.world_base.specs.declared.world.World.{World}
use Rattle.world_base.specs.ClientTurns.{is_created_at}
use Rattle.world_answers.specs.world_making.freezings.Snapping.{snap-itself}
use Rattle.world_answers.specs.world_making.making.Snapshots.{holds_created}
use Rattle.world_upheld.specs.below.Legal.{durable_of, durables_of}

-- Each snapshot of before the run that target 0 holds as created is one of which the opening keeps a map.
abbrev pub AreKeptBy : Opening → World → Type 0
AreKeptBy o v =
    (z : TargetState) (c : ContId) (s : Epoch) → slice_get v.targets 0 ≡ Some z → holds_created z.durable c s ≡ true → s.0 ≤ top o → (m : List CellValue) × (kept_map c s.0 o.stand.snaps ≡ Some m)

-- ---- names

cont_of : ℕ → ContId
cont_of n = record { 0 = n }

epoch_of : ℕ → Epoch
epoch_of n = record { 0 = n }

pub same-cont : (c e : ContId) → c.0 ≡ e.0 → c ≡ e
unfolding cont_of
same-cont c e same = ap cont_of same

pub same-epoch : (c e : Epoch) → c.0 ≡ e.0 → c ≡ e
unfolding epoch_of
same-epoch c e same = ap epoch_of same

-- ---- what target 0 holds as created

-- target 0 holds a snapshot as created
pub record IsCreatedThere (v : World) (c : ContId) (s : Epoch) : Type 0 where
  pub z : TargetState
  pub here : slice_get v.targets 0 ≡ Some z
  pub created : holds_created z.durable c s ≡ true

pub created-from : (v : World) (s : Snap) → Has s (created_snaps (durables_of v)) → IsCreatedThere v s.cont s.epoch
unfolding holds_created
created-from v s i = by v.targets refl i
  where
    by : (ts : List TargetState) → v.targets ≡ ts → Has s (created_snaps (map durable_of ts)) → IsCreatedThere v s.cont s.epoch
    by [] is j = absurd j
    by (z ∷ ts) is j = record { z = z; here = ap (λ ys. slice_get ys 0) is; created = holds (has-from_filter is_created z.durable.snaps s j) }
      where
        holds : Has s z.durable.snaps × (is_created s ≡ true) → holds_created z.durable s.cont s.epoch ≡ true
        holds k = any-has (is_created_at s.cont s.epoch) z.durable.snaps s k.0 (both (is_snap_at s.cont s.epoch s) s.created (snap-itself s) k.1)

-- a snapshot among some that has this name
pub record IsNamedIn (ss : List Snap) (c : ContId) (e : ℕ) : Type 0 where
  pub s : Snap
  pub among : Has s ss
  pub cont : s.cont.0 ≡ c.0
  pub epoch : s.epoch.0 ≡ e

pub created-at : (v : World) (c : ContId) (s : Epoch) → IsCreatedThere v c s → IsNamedIn (created_snaps (durables_of v)) c s.0
unfolding holds_created
created-at v c s k = by v.targets refl
  where
    found : (x : Snap) × Has x k.z.durable.snaps × (is_created_at c s x ≡ true)
    found = has-any (is_created_at c s) k.z.durable.snaps k.created

    by : (ts : List TargetState) → v.targets ≡ ts → IsNamedIn (created_snaps (map durable_of v.targets)) c s.0
    by [] is = let none : slice_get [] 0 ≡ Some k.z = ap (λ ys. slice_get ys 0) (sym is) ∙ k.here in let no : ⊥ = cc in absurd no
    by (y ∷ ts) is =
        let first : Some y ≡ Some k.z = ap (λ ys. slice_get ys 0) (sym is) ∙ k.here in
        let same : y ≡ k.z = cc (first) in
        subst (λ ys. IsNamedIn (created_snaps (map durable_of ys)) c s.0) (sym is)
        (record {
          s = found.0;
          among = has-filter is_created y.durable.snaps found.0 (subst (λ x. Has found.0 x.durable.snaps) (sym same) found.1) (and_right (is_snap_at c s found.0) found.0.created found.2);
          cont = number_same found.0.cont.0 c.0 (and_left (found.0.cont.0 == c.0) (found.0.epoch.0 == s.0) (and_left (is_snap_at c s found.0) found.0.created found.2));
          epoch = number_same found.0.epoch.0 s.0 (and_right (found.0.cont.0 == c.0) (found.0.epoch.0 == s.0) (and_left (is_snap_at c s found.0) found.0.created found.2));
        })

-- ---- the maps that are kept

-- a map among some that is kept of a snapshot of this name
pub record IsKeptOf (ks : List SnapMap) (c : ContId) (e : ℕ) (m : List CellValue) : Type 0 where
  pub k : SnapMap
  pub among : Has k ks
  pub cont : k.cont.0 ≡ c.0
  pub epoch : k.epoch.0 ≡ e
  pub map : k.map ≡ m

abbrev is_named_so : ContId → ℕ → SnapMap → Bool
is_named_so c e k = (k.cont.0 == c.0) && (k.epoch.0 == e)

here-kept : (ks : List SnapMap) (c : ContId) (e : ℕ) (k : SnapMap) (m : List CellValue) → is_named_so c e k ≡ true → k.map ≡ m → IsKeptOf (k ∷ ks) c e m
here-kept ks c e k m named map = record {
  k = k;
  among = inl refl;
  cont = number_same k.cont.0 c.0 (and_left (k.cont.0 == c.0) (k.epoch.0 == e) named);
  epoch = number_same k.epoch.0 e (and_right (k.cont.0 == c.0) (k.epoch.0 == e) named);
  map = map;
}

pub kept-from : (ks : List SnapMap) (c : ContId) (e : ℕ) (m : List CellValue) → kept_map c e ks ≡ Some m → IsKeptOf ks c e m
kept-from [] c e m is = let no : ⊥ = cc in absurd no
kept-from (k ∷ ks) c e m is = by (is_named_so c e k) refl is (kept-from ks c e m)
  where
    by : (b : Bool) → is_named_so c e k ≡ b → (if b then Some k.map else kept_map c e ks) ≡ Some m → (kept_map c e ks ≡ Some m → IsKeptOf ks c e m) → IsKeptOf (k ∷ ks) c e m
    by true named found rest = here-kept ks c e k m named (let same : k.map ≡ m = cc (found) in same)
    by false off found rest = let z = rest found in record { k = z.k; among = inr z.among; cont = z.cont; epoch = z.epoch; map = z.map }

-- where one of this name is among them, one is kept
pub kept-among : (ks : List SnapMap) (c : ContId) (e : ℕ) (k : SnapMap) → Has k ks → k.cont.0 ≡ c.0 → k.epoch.0 ≡ e → (m : List CellValue) × (kept_map c e ks ≡ Some m)
kept-among [] c e k i cont epoch = absurd i
kept-among (j ∷ ks) c e k i cont epoch = by (is_named_so c e j) refl i (λ l. kept-among ks c e k l cont epoch)
  where
    named : is_named_so c e k ≡ true
    named = both (k.cont.0 == c.0) (k.epoch.0 == e) (ap (λ n. n == c.0) cont ∙ same_number c.0) (ap (λ n. n == e) epoch ∙ same_number e)

    by : (b : Bool) → is_named_so c e j ≡ b → Has k (j ∷ ks) → (Has k ks → (m : List CellValue) × (kept_map c e ks ≡ Some m)) → (m : List CellValue) × ((if b then Some j.map else kept_map c e ks) ≡ Some m)
    by true is l rest = (j.map, refl)
    by false off (inl same) rest = let no : true ≡ false = sym named ∙ ap (is_named_so c e) same ∙ off in let never : ⊥ = cc in absurd never
    by false off (inr l) rest = rest l

-- Openings that are what the stores of a family stand for: no map has a cell without a dkey, and target 0 holds what is kept where it held it before.
use Rattle.std.specs.Prelude.{ℕ, ◌≡◌, ◌==◌, ◌&&◌, Bool, true, false, is_some, List, [], ◌∷◌, map, filter, slice_get, Contains, Option, Some, None, refl, if◌then◌else◌}
use Rattle.std.specs.List.{list_all}
use Rattle.std.proofs.Common.{sym, ◌∙◌, ap, subst, inl, inr}
use Rattle.base_types.specs.declared.id.ContId.{ContId}
use Rattle.base_types.specs.declared.script.Script.{Script}
use Rattle.base_types.specs.declared.snapshot.Snap.{Snap}
use Rattle.model_laws.specs.Groups.{HasDkeys}
use Rattle.model_laws.specs.Members.{Has, contains-from_has, has-from_filter, has-from_map}
use Rattle.model_laws.specs.TargetLaws.{families-dkeys, number_same, value-filter}
use Rattle.daos_model.specs.declared.cell.CellValue.{CellValue}
use Rattle.daos_model.specs.declared.durable.Durable.{Durable}
use Rattle.daos_model.specs.declared.stand.SnapMap.{SnapMap}
use Rattle.daos_model.specs.BoolLaws.{and_left, and_right}
use Rattle.daos_model.specs.Cells.{value_at}
use Rattle.daos_model.specs.Durables.{is_version_in_form}
use Rattle.daos_model.specs.Family.{counts, counts_below, created_snaps, family_map, part_of, snap_map, stand}
use Rattle.daos_model.specs.Finals.{opening_of}
use Rattle.daos_model.specs.Opening.{is_kept, kept_map}
use Rattle.world_base.specs.declared.target.TargetState.{TargetState}
use Rattle.world_base.specs.declared.world.World.{World}
use Rattle.world_answers.specs.world_making.making.Snapshots.{holds_created}
use Rattle.world_closing.specs.legal.Following.{HoldsKept}
use Rattle.world_closing.specs.legal.Reads.{OpensWithDkeys}

-- ---- which map is kept

-- the map that is found is one of those
record IsOneOf (c : ContId) (e : ℕ) (ks : List SnapMap) (m : List CellValue) : Type 0 where
  k : SnapMap
  among : Has k ks
  cont : k.cont ≡ c
  epoch : k.epoch.0 ≡ e
  map-is : k.map ≡ m

found-one : (c : ContId) (e : ℕ) (ks : List SnapMap) (m : List CellValue) → kept_map c e ks ≡ Some m → IsOneOf c e ks m
found-one c e [] m is = let no : ⊥ = cc in absurd no
found-one c e (k ∷ ks) m is = by ((k.cont.0 == c.0) && (k.epoch.0 == e)) refl is (found-one c e ks m)
  where
    by : (b : Bool) → ((k.cont.0 == c.0) && (k.epoch.0 == e)) ≡ b → (if b then Some k.map else kept_map c e ks) ≡ Some m → (kept_map c e ks ≡ Some m → IsOneOf c e ks m) → IsOneOf c e (k ∷ ks) m
    by true its at rest = record {
      k = k;
      among = inl refl;
      cont = ap (λ n. record { 0 = n }) (number_same k.cont.0 c.0 (and_left (k.cont.0 == c.0) (k.epoch.0 == e) its));
      epoch = number_same k.epoch.0 e (and_right (k.cont.0 == c.0) (k.epoch.0 == e) its);
      map-is = (let same : k.map ≡ m = cc in same);
    }
    by false off at rest = let z = rest at in record { k = z.k; among = inr z.among; cont = z.cont; epoch = z.epoch; map-is = z.map-is }

-- what the opening of a family keeps, is a snapshot that its target 0 held as created, and that the script doesn't drop
record IsOfFamily (s : Script) (F : List Durable) (c : ContId) (e : ℕ) (m : List CellValue) : Type 0 where
  x : Snap
  among : Has x (created_snaps F)
  lasts : is_kept s (snap_map F x) ≡ true
  cont : x.cont ≡ c
  epoch : x.epoch.0 ≡ e
  map-is : (snap_map F x).map ≡ m

of-family : (s : Script) (F : List Durable) (free : ℕ → ℕ) (c : ContId) (e : ℕ) (m : List CellValue) → kept_map c e (opening_of s F free).stand.snaps ≡ Some m → IsOfFamily s F c e m
unfolding stand
of-family s F free c e m is = record {
  x = x.0;
  among = x.1;
  lasts = subst (λ k. is_kept s k ≡ true) (sym x.2) there.1;
  cont = ap (λ k. k.cont) x.2 ∙ z.cont;
  epoch = ap (λ k. k.epoch.0) x.2 ∙ z.epoch;
  map-is = ap (λ k. k.map) x.2 ∙ z.map-is;
}
  where
    z : IsOneOf c e (filter (is_kept s) (map (snap_map F) (created_snaps F))) m
    z = found-one c e (filter (is_kept s) (map (snap_map F) (created_snaps F))) m is

    there : Has z.k (map (snap_map F) (created_snaps F)) × (is_kept s z.k ≡ true)
    there = has-from_filter (is_kept s) (map (snap_map F) (created_snaps F)) z.k z.among

    x : (x : Snap) × Has x (created_snaps F) × (snap_map F x ≡ z.k)
    x = let y = has-from_map (snap_map F) (created_snaps F) z.k there.0 in (y.0, y.1, y.2)

-- ---- the statements

-- The opening of a family whose versions are in form has no cell without a dkey.
abbrev pub OpeningsHaveDkeys : Type 0
OpeningsHaveDkeys = (s : Script) (F : List Durable) (free : ℕ → ℕ) → ((d : Durable) → Contains F d → list_all is_version_in_form d.versions ≡ true) → OpensWithDkeys (opening_of s F free)

-- And target 0 holds what that keeps, where it holds as created what it held so before, but for what the script drops.
abbrev pub OpeningsAreHeld : Type 0
OpeningsAreHeld =
    (s : Script) (F : List Durable) (free : ℕ → ℕ) (w : World)
    → ((z : TargetState) (x : Snap) → slice_get w.targets 0 ≡ Some z → Contains (created_snaps F) x → is_kept s (snap_map F x) ≡ true → holds_created z.durable x.cont x.epoch ≡ true)
    → HoldsKept (opening_of s F free) w

part-dkeys : (c : ContId) (m : List CellValue) → HasDkeys m → HasDkeys (part_of c m)
part-dkeys c m has cell none = value-filter (λ d. d.path.cont.0 == c.0) m cell ∙ by (cell.path.cont.0 == c.0)
  where
    by : (b : Bool) → (if b then value_at m cell else None) ≡ None
    by true = has cell none
    by false = refl

pub openings-have_dkeys : OpeningsHaveDkeys
unfolding stand
openings-have_dkeys s F free forms = record {
  now = families-dkeys F (counts F) forms;
  kept = λ c e m is. (let z = of-family s F free c e m is in subst HasDkeys z.map-is (part-dkeys z.x.cont (family_map (counts_below F z.x.epoch.0) F) (families-dkeys F (counts_below F z.x.epoch.0) forms)));
}

pub openings-are_held : OpeningsAreHeld
openings-are_held s F free w held z c e here some = by (kept_map c e.0 (opening_of s F free).stand.snaps) refl some
  where
    by : (o : Option (List CellValue)) → kept_map c e.0 (opening_of s F free).stand.snaps ≡ o → is_some o ≡ true → holds_created z.durable c e ≡ true
    by None none on = let no : ⊥ = cc in absurd no
    by (Some m) is on =
        let x = of-family s F free c e.0 m is in
        subst (λ f. holds_created z.durable c f ≡ true) (ap (λ n. record { 0 = n }) x.epoch)
        (subst (λ k. holds_created z.durable k x.x.epoch ≡ true) x.cont (held z x.x here (contains-from_has (created_snaps F) x.x x.among) x.lasts))

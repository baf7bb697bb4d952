-- What clients know when a run begins are snapshots that the script names, and that target 0 holds as created.
use Rattle.std.specs.Prelude.{ℕ, ◌≡◌, ◌++◌, Bool, true, false, List, [], ◌∷◌, filter, find, map, slice_get, Option, Some, None, refl, if◌then◌else◌}
use Rattle.std.specs.List.{IsDistinct}
use Rattle.std.proofs.Common.{inl, inr, sym, ◌∙◌, ap, subst}
use Rattle.std.proofs.lemmas.Map.Keys.{IsDistinct-tail}
use Rattle.base_types.specs.declared.script.OldDecl.{OldDecl}
use Rattle.base_types.specs.Keys.{same_key}
use Rattle.base_types.specs.PathLaws.{same_key-Decides}
use Rattle.base_types.specs.Scripts.{SnapName, all_snaps, old_snap}
use Rattle.daos_model.specs.Opening.{Opening}
use Rattle.daos_model.specs.ReadsLegal.{is_named}
use Rattle.model_laws.specs.Members.{Has, has-from_filter, has-from_map, has-left, has-map}
use Rattle.world_base.specs.declared.client.KnownSnap.{KnownSnap}
use Rattle.world_base.specs.declared.target.TargetState.{TargetState}
use Rattle.world_base.specs.declared.world.World.{World}
use Rattle.world_base.specs.ClientTurns.{is_created_old, known_of}
use Rattle.world_base.specs.Events.{Rules}
use Rattle.world_owners.specs.world_making.freezings.Freezings.{IsFromBefore, IsKnownSo}
use Rattle.world_owners.specs.world_making.freezings.Snapping.{created-frozen}
use Rattle.world_owners.specs.world_making.making.Snapshots.{holds_created}
use Rattle.world_upheld.specs.upheld.Begins.{AreRulesInForm, RunBeginsWell, snaps_held}
use Rattle.world_upheld.specs.upheld.BeginVersions.{frozen-before}
use Rattle.world_upheld.specs.upheld.Named.{first-alone, name_of_snap}

-- a declaration is found by its name, where names differ
find-own : (olds : List OldDecl) (more : List SnapName) (d : OldDecl) → IsDistinct same_key (map name_of_snap (map old_snap olds ++ more)) → Has d olds
    → find (is_named d.name) olds ≡ Some d
find-own [] more d apart i = absurd i
find-own (x ∷ xs) more d apart (inl same) =
    ap (λ b. if b then Some x else find (is_named d.name) xs) ((same_key-Decides d.name x.name).1 (ap (λ y. y.name) same)) ∙ ap (λ y. Some y) (sym same)
find-own (x ∷ xs) more d apart (inr i) = by (same_key d.name x.name) refl ∙ find-own xs more d (IsDistinct-tail same_key x.name (map name_of_snap (map old_snap xs ++ more)) apart) i
  where
    by : (b : Bool) → same_key d.name x.name ≡ b → find (is_named d.name) (x ∷ xs) ≡ find (is_named d.name) xs
    by true is =
        absurd
        (first-alone (old_snap x) (old_snap d) (map old_snap xs ++ more) apart (has-left (map old_snap xs) more (old_snap d) (has-map old_snap xs d i))
        (sym ((same_key-Decides d.name x.name).0 is)))
    by false off = ap (λ b. if b then Some x else find (is_named d.name) xs) off

module _ (r : Rules) (o : Opening) (w : World) (A : AreRulesInForm r) (B : RunBeginsWell r o w) where
  -- of target 0's snapshots
  pub known-first : (n : ℕ) (snaps : Option TargetState) → slice_get w.targets 0 ≡ snaps → (k : KnownSnap)
      → Has k (map known_of (filter (is_created_old (snaps_held snaps)) r.script.olds)) → IsKnownSo r o w n k
  unfolding holds_created
  known-first n None none k i =
      let z = has-from_map known_of (filter (is_created_old []) r.script.olds) k i in
      let off = (has-from_filter (is_created_old []) r.script.olds z.0 z.1).1 in
      let no : ⊥ = cc (off) in absurd no
  known-first n (Some s) here k i =
      let z = has-from_map known_of (filter (is_created_old s.durable.snaps) r.script.olds) k i in
      let d = z.0 in
      let f = has-from_filter (is_created_old s.durable.snaps) r.script.olds d z.1 in
      let made : holds_created s.durable d.cont d.epoch ≡ true = f.1 in
      let m = B.kept s d.cont d.epoch here made in
      let named : d.name ≡ k.name = ap (λ y. y.name) z.2 in
      IsFromBefore d m.0 (ap (λ y. find (is_named y) r.script.olds) (sym named) ∙ find-own r.script.olds (all_snaps r.script.clients) d A.form.snap_names f.0) (ap (λ y. y.epoch) z.2)
      (frozen-before o s.durable (B.starts 0 s here).keeps d.cont d.epoch (created-frozen s.durable d.cont d.epoch made)) m.1
      (λ y at. let e : Some s ≡ Some y = sym here ∙ at in let one : s ≡ y = cc (e) in subst (λ x. holds_created x.durable d.cont d.epoch ≡ true) one made)

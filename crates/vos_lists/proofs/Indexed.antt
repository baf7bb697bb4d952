-- The punches of all versions say of each akey what the logs say.
use Rattle.std.proofs.Common.{◌≡◌, ◌==◌, ℕ, List, Option, true, refl, sym, ap, ◌∙◌, subst}
use Rattle.base_types.specs.declared.epoch.Epoch.{Epoch}
use Rattle.base_types.specs.declared.id.ContId.{ContId}
use Rattle.pmem_pages.specs.Blocks.{Blocks}
use Rattle.pmem_pages.specs.Owners.{Holds}
use Rattle.vos_values.specs.declared.keys.Layout.TheVariants.{Two}
use Rattle.vos_values.specs.declared.keys.Moment.{Moment}
use Rattle.vos_values.specs.declared.keys.ObjectKey.{ObjectKey}
use Rattle.vos_values.specs.Keys.{IsName, IsObjectKey}
use Rattle.vos_path.specs.Objects.{Akey, Below, Dkey, Objects, Values, akey_level, akey_path, below_or_none, dkey_level, dkey_path, object_level, object_path, objects_owner, objects_versions, values_or_none}
use Rattle.vos_punches.specs.Punches.{ArePunchesOf, PunchesAt, covering}
use Rattle.vos_reads.specs.Ways.{IsSettled, akey_of, below_object, dkey_of, later_moment, punched_at}
use Rattle.vos_reads.proofs.Going.{akeys_hold, dkeys_hold}
use Rattle.vos_reads.proofs.Indexed.{covering_is}
use Rattle.vos_lists.specs.declared.view.View.{View}
use Rattle.vos_lists.specs.Covers.{CoverAkeys, CoverDkeys, CoverObjects, view_of}
use Rattle.vos_lists.specs.Stands.{covered}
use Rattle.vos_lists.specs.Unders.{over_akeys, over_dkeys}
use Rattle.vos_lists.proofs.Alive.{later_moments}
use Rattle.vos_lists.proofs.NamesBelow.{same_cont}
use Rattle.vos_lists.proofs.Naming.{found_own, good_has}
use Rattle.vos_lists.proofs.Settled.{cont_path, over_akey, over_dkey, over_object, settled_below, top_akey, top_dkey, top_object, under_akey, under_dkey, under_object}

module _ (m : Blocks) (g : Objects) (held : Holds objects_owner m g) (e : Epoch) (f : PunchesAt) (are : ArePunchesOf (objects_versions g) f) where
  -- the last punch that covers an akey
  pub over_values : (o : ObjectKey) (d a : List ℕ) → IsObjectKey Two o → IsName d → IsName a → IsSettled (akey_path o d a) e g
      → covering e (akey_path o d a) f ≡ covered (view_of e o) (over_akeys (view_of e o) o d g) (akey_of o d a g).0
  over_values o d a object dkey akey settled =
      covering_is m g o d a held object dkey akey e settled f are
      ∙ sym (later_moments (punched_at e (below_object o g).0) (punched_at e (dkey_of o d g).0) (punched_at e (akey_of o d a g).0))

  pub cover_akeys : (o : ObjectKey) (d : List ℕ) → IsObjectKey Two o → IsName d → IsSettled (dkey_path o d) e g → CoverAkeys (view_of e o) f (dkey_path o d) (over_akeys (view_of e o) o d g) (dkey_of o d g).1
  cover_akeys o d object dkey settled a among =
      let akeys = (dkey_of o d g).1 in
      let stand = akeys_hold m g o held d in
      let akey : IsName a.name = good_has akey_level m akeys stand a among in
      let own : akey_of o d a.name g ≡ a.holds = ap values_or_none (found_own akey_level m akeys stand a among) in
      over_values o d a.name object dkey akey (settled_below m g held e (dkey_path o d) (akey_path o d a.name) (under_object o d a.name) (under_dkey o d a.name) (under_akey o d a.name) settled)
      ∙ ap (λ (v : Values). covered (view_of e o) (over_akeys (view_of e o) o d g) v.0) own

  pub cover_dkeys : (o : ObjectKey) → IsObjectKey Two o → IsSettled (object_path o) e g → CoverDkeys (view_of e o) f (object_path o) (over_dkeys (view_of e o) o g) (below_object o g).1
  cover_dkeys o object settled d among =
      let dkeys = (below_object o g).1 in
      let stand = dkeys_hold m g o held in
      let dkey : IsName d.name = good_has dkey_level m dkeys stand d among in
      let own : dkey_of o d.name g ≡ d.holds = ap below_or_none (found_own dkey_level m dkeys stand d among) in
      subst (λ (b : Below Akey). CoverAkeys (view_of e o) f (dkey_path o d.name) (covered (view_of e o) (over_dkeys (view_of e o) o g) b.0) b.1) own
      (cover_akeys o d.name object dkey (settled_below m g held e (object_path o) (dkey_path o d.name) (over_object o d.name) (over_dkey o d.name) (over_akey o d.name) settled))

  pub cover_objects : (c : ContId) → IsSettled (cont_path c) e g → CoverObjects f c e g
  cover_objects c settled x among mine =
      let object : IsObjectKey Two x.name = good_has object_level m g held x among in
      let is : x.name.cont ≡ c = same_cont x.name.cont c mine in
      let own : below_object x.name g ≡ x.holds = ap below_or_none (found_own object_level m g held x among) in
      subst (λ (b : Below Dkey). CoverDkeys (view_of e x.name) f (object_path x.name) (punched_at e b.0) b.1) own
      (cover_dkeys x.name object (settled_below m g held e (cont_path x.name.cont) (object_path x.name) (top_object x.name) (top_dkey x.name) (top_akey x.name) (subst (λ z. IsSettled (cont_path z) e g) (sym is) settled)))

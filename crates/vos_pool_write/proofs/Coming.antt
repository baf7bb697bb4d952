-- What is staged of a version, and of an entry, is to stand.
use Rattle.std.specs.Prelude.{IsTrue, ◌&&◌, nat_lt}
use Rattle.std.proofs.Common.{◌≡◌, ℕ, zero, suc, ◌^◌, ◌<◌, Bool, true, false, List, [], Option, Some, None, is_some, refl, sym, ap, ◌∙◌, subst, arith}
use Rattle.std.proofs.lemmas.Bool.Decides.{nat_tests}
use Rattle.base_outside.specs.Images.{Image, Range, all_over}
use Rattle.base_types.specs.declared.entry.Entry.{Entry}
use Rattle.base_types.specs.declared.id.ObjId.{ObjId}
use Rattle.base_types.specs.declared.operation.Write.{Write}
use Rattle.base_types.specs.declared.operation.Write.TheVariants.{Extent, PunchAkey, PunchDkey, PunchObject, Single}
use Rattle.base_types.specs.declared.path.Path.{Path}
use Rattle.base_types.specs.Operations.{write_path}
use Rattle.daos_model.specs.Forms.{is_write_in_form}
use Rattle.pmem_alloc.specs.Blocks.{BlocksState, IsBlocks}
use Rattle.pmem_alloc.specs.Map.{MapState, StandsIn, shown_in}
use Rattle.pmem_alloc.specs.Pages.{shown}
use Rattle.pmem_alloc.specs.Still.{IsStill}
use Rattle.pmem_pages.specs.Owners.{Changed, Holds, Owner}
use Rattle.vos_entries.specs.Entries.{entries_owner, listings}
use Rattle.vos_fitting.proofs.Entries.{fits_with_entry}
use Rattle.vos_fitting.proofs.Writes.{fits_with_write}
use Rattle.vos_image.specs.Content.{layout_of}
use Rattle.vos_image.specs.Kept.{Stored}
use Rattle.vos_levels.specs.Levels.{HasMore}
use Rattle.vos_path.specs.declared.stamp.Stamp.{Stamp}
use Rattle.vos_path.specs.Objects.{objects_owner, objects_versions}
use Rattle.vos_path.specs.Writes.{IsAtObject, fresh}
use Rattle.vos_places.specs.declared.codec.Counters.{Counters}
use Rattle.vos_pool_base.specs.Pool.{OpenedState}
use Rattle.vos_pool_stage.specs.Staged.{IsStaged, IsToStand, IsToStandOn, StandsInPool}
use Rattle.vos_pool_stage.proofs.Saying.{contents_say}
use Rattle.vos_pool_stage.proofs.Staging.{entries_are_staged, objects_are_staged, staged_are_shown, staging_begins}
use Rattle.vos_pool_write.specs.Coming.{MayCome, MayEnter}
use Rattle.vos_pool_write.specs.Written.{EntryComes, MayBeStaged, WriteComes}
use Rattle.vos_pool_base.specs.vos_standing.Standing.{IsReadOf, content}
use Rattle.vos_values.specs.declared.keys.ObjectKey.{ObjectKey}

-- ---- the object of a write

some_obj : (p : Path) → is_some p.obj ≡ true → (o : ObjectKey) × IsAtObject o p
some_obj p some = by p.obj refl some
  where
    by : (x : Option ObjId) → p.obj ≡ x → is_some x ≡ true → (o : ObjectKey) × IsAtObject o p
    by None is h = let no : ⊥ = cc in absurd no
    by (Some b) is h = (record { cont = p.cont; obj = b }, record { cont = refl; obj = is })

first_of : (a b : Bool) → (a && b) ≡ true → a ≡ true
first_of true b h = refl
first_of false b h = h

pub object_of : (w : Write) → is_write_in_form w ≡ true → (o : ObjectKey) × IsAtObject o (write_path w)
unfolding is_write_in_form
object_of (Single p bytes) form = some_obj p (first_of _ _ (first_of _ _ (first_of _ _ form)))
object_of (Extent p low bytes) form = some_obj p (first_of _ _ (first_of _ _ (first_of _ _ (first_of _ _ form))))
object_of (PunchObject p) form = some_obj p (first_of _ _ (first_of _ _ form))
object_of (PunchDkey p) form = some_obj p (first_of _ _ (first_of _ _ form))
object_of (PunchAkey p) form = some_obj p (first_of _ _ (first_of _ _ form))

-- ---- a pool whose blocks have nothing staged

module _ {R : Type 0} (extent : R → ℕ) (tells : Bool) (image : R → Image) (may_leave : R → Image → Type 0) (p : OpenedState R) (unstaged : p.blocks.undo.staged ≡ []) (x : Stored) (stands : StandsInPool extent image p x)
    (holds : IsBlocks (extent p.blocks.undo.region) tells (image p.blocks.undo.region) p.blocks.undo.staged p.blocks.undo.stopped p.blocks.map p.blocks.lasting) (tell : IsTrue tells) (going : p.blocks.undo.stopped ≡ false) where
  size0 : ℕ
  size0 = extent p.blocks.undo.region

  f0 : Image
  f0 = image p.blocks.undo.region

  reads : IsReadOf (extent p.blocks.undo.region) (image p.blocks.undo.region) p.blocks.map
  reads = record { end = holds.end; bytes = subst (λ (rs : List Range). StandsIn p.blocks.map.bytes (all_over rs (image p.blocks.undo.region))) unstaged (holds.read tell going) }

  begun : IsStaged (extent p.blocks.undo.region) (image p.blocks.undo.region) p.blocks.map [] p.blocks.map x
  begun = staging_begins p.table.header.target (extent p.blocks.undo.region) (image p.blocks.undo.region) p.blocks.map p.table x stands reads

  pub objects_here : Holds objects_owner (shown image p.blocks) x.0
  objects_here = subst (λ (rs : List Range). Holds objects_owner (shown_in p.blocks.map (all_over rs (image p.blocks.undo.region))) x.0) (sym unstaged) (staged_are_shown _ _ _ _ _ x begun).0

  pub entries_here : Holds entries_owner (shown image p.blocks) x.1
  entries_here = subst (λ (rs : List Range). Holds entries_owner (shown_in p.blocks.map (all_over rs (image p.blocks.undo.region))) x.1) (sym unstaged) (staged_are_shown _ _ _ _ _ x begun).1

  -- blocks on which changes were staged since
  module _ (b : BlocksState R) (still : IsStill extent tells image may_leave p.blocks b) (unchanged : p.blocks.map ≡ p.blocks.lasting) (after : IsBlocks (extent b.undo.region) tells (image b.undo.region) b.undo.staged b.undo.stopped b.map b.lasting) (still_going : b.undo.stopped ≡ false) (c : Counters) where
    reads_now : IsReadOf (extent p.blocks.undo.region) (all_over b.undo.staged (image p.blocks.undo.region)) b.map
    reads_now =
        subst (λ (n : ℕ). IsReadOf n (all_over b.undo.staged (image p.blocks.undo.region)) b.map) still.size
        (subst (λ (f : Image). IsReadOf (extent b.undo.region) (all_over b.undo.staged f) b.map) (still.read tell) (record { end = after.end; bytes = after.read tell still_going }))

    shown_then : {G : Type 0} (O : Owner G) (y z : G) → Changed O (shown image p.blocks) y (shown image b) z → Changed O (shown_in p.blocks.map (image p.blocks.undo.region)) y (shown_in b.map (all_over b.undo.staged (image p.blocks.undo.region))) z
    shown_then O y z C =
        subst (λ (f : Image). Changed O (shown_in p.blocks.map (image p.blocks.undo.region)) y (shown_in b.map (all_over b.undo.staged f)) z) (still.read tell)
        (subst (λ (rs : List Range). Changed O (shown_in p.blocks.map (all_over rs (image p.blocks.undo.region))) y (shown image b) z) unstaged C)

    -- what is to stand in the one image is to stand in the other
    at_blocks : (y : Stored) → IsToStand (extent p.blocks.undo.region) (image p.blocks.undo.region) p.blocks.map b.undo.staged b.map p.table c y → IsToStandOn extent image b p.table c y
    at_blocks y k =
        subst (λ (m : MapState). IsToStand (extent b.undo.region) (image b.undo.region) m b.undo.staged b.map p.table c y) (unchanged ∙ sym still.lasting)
        (subst (λ (f : Image). IsToStand (extent b.undo.region) f p.blocks.map b.undo.staged b.map p.table c y) (sym (still.read tell))
        (subst (λ (n : ℕ). IsToStand n (image p.blocks.undo.region) p.blocks.map b.undo.staged b.map p.table c y) (sym still.size) k))

    -- a version
    pub version_to_stand : (s : Stamp) (w : Write) (at : ℕ) → MayBeStaged s w → MayCome extent image p s w x → WriteComes s w (shown image p.blocks) x.0 (shown image b) at → c.objects ≡ at → c.entries ≡ p.table.header.entries
        → (y : Stored) × (IsToStandOn extent image b p.table c y × ((y.1 ≡ x.1) × HasMore (fresh s w) (objects_versions x.0) (objects_versions y.0)))
    version_to_stand s w at form may comes objects entries =
        let o = object_of w form.form in
        let turn = comes o.0 o.1 in
        let say = contents_say p.table.header.target (extent p.blocks.undo.region) (image p.blocks.undo.region) p.table x stands in
        let fits = fits_with_write (content (extent p.blocks.undo.region) (image p.blocks.undo.region)) s w o.0 (shown image p.blocks) (shown image b) at x.0 x.1
        (record { layout = say.layout ∙ ap layout_of may.layout; epoch = let low = may.leased in let same = say.covered in omega (arith, low, same); form = form.form; size = form.size }) o.1 turn may.unlisted stands.fits in
        let staged = objects_are_staged (extent p.blocks.undo.region) (image p.blocks.undo.region) p.blocks.map [] p.blocks.map x b.undo.staged b.map turn.now begun reads_now (shown_then objects_owner x.0 turn.now turn.changed) in (
          (turn.now, x.1),
          (
            at_blocks (turn.now, x.1) (record { before = x; stood = stands; staged_is = staged; objects = objects ∙ turn.roots_are; entries = entries ∙ stands.entries; fits = fits }),
            (refl, turn.shown_is),
          ),
        )

    -- an entry
    pub entry_to_stand : (e : Entry) (at : ℕ) → MayEnter extent image p e x → EntryComes e (shown image p.blocks) x.1 (shown image b) at → c.entries ≡ at → c.objects ≡ p.table.header.objects
        → (y : Stored) × (IsToStandOn extent image b p.table c y × ((y.0 ≡ x.0) × HasMore (record { entry = e; nodes = [] }) (listings x.1) (listings y.1)))
    entry_to_stand e at may comes entries objects =
        let say = contents_say p.table.header.target (extent p.blocks.undo.region) (image p.blocks.undo.region) p.table x stands in
        let same = say.targets in
        let covered = say.covered in
        let leader = may.leader in
        let low = may.leased in
        let below = λ (n : ℕ) (less : n < 2 ^ p.table.header.targets). let l : nat_lt n (2 ^ p.table.header.targets) ≡ true = grind (arith, nat_tests) in subst (λ (k : ℕ). nat_lt n (2 ^ k) ≡ true) (sym same) l in
        let fits = fits_with_entry (content (extent p.blocks.undo.region) (image p.blocks.undo.region)) e (shown image p.blocks) (shown image b) at x.0 x.1
        (record {
          leader = omega (arith, leader, same);
          members = below e.members may.members;
          confirmed = below e.confirmed (subst (λ (n : ℕ). n < 2 ^ p.table.header.targets) (sym may.unconfirmed) (some_power p.table.header.targets));
          epoch = omega (arith, low, covered);
        }) comes may.unlisted stands.fits in
        let staged = entries_are_staged (extent p.blocks.undo.region) (image p.blocks.undo.region) p.blocks.map [] p.blocks.map x b.undo.staged b.map comes.now begun reads_now (shown_then entries_owner x.1 comes.now comes.changed) in (
          (x.0, comes.now),
          (
            at_blocks (x.0, comes.now) (record { before = x; stood = stands; staged_is = staged; objects = objects ∙ stands.objects; entries = entries ∙ comes.root_is; fits = fits.fits }),
            (refl, comes.shown_is),
          ),
        )
      where
        some_power : (n : ℕ) → 0 < 2 ^ n
        some_power zero = omega arith
        some_power (suc n) = let h = some_power n in omega (arith, h)

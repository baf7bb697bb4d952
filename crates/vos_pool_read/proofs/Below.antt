-- What stands in a pool stands below its roots, in the blocks that are read.
use Rattle.std.proofs.Common.{◌≡◌, ℕ, Bool, false, IsTrue, List, [], Result, Ok, Err, sym, ap, ◌∙◌, subst}
use Rattle.std.specs.Prelude.{IfOk, Vec}
use Rattle.base_outside.specs.Images.{Image, Range, all_over}
use Rattle.daos_model.specs.declared.durable.Version.{Version}
use Rattle.pmem_alloc.specs.Blocks.{BlocksState, IsBlocks}
use Rattle.pmem_alloc.specs.Map.{MapState, shown_in}
use Rattle.pmem_alloc.specs.Pages.{shown}
use Rattle.pmem_pages.specs.Owners.{Holds}
use Rattle.vos_chain.specs.declared.refusal.PiecesNo.{PiecesNo}
use Rattle.vos_levels.specs.Levels.{hung_root}
use Rattle.vos_pool_base.proofs.vos_path.Written.{holds_first}
use Rattle.vos_pool_base.proofs.vos_standing.Changing.{blocks_are_shown}
use Rattle.vos_pool_base.specs.vos_image.Kept.{Stored, stored_owner}
use Rattle.vos_pool_base.specs.vos_path.Objects.{Objects, objects_owner, objects_versions}
use Rattle.vos_pool_base.specs.vos_places.Tables.{Table}
use Rattle.vos_pool_base.specs.vos_standing.Standing.{IsReadOf, Stand}
use Rattle.vos_pool_base.specs.vos_standing.vos_entries.Entries.{entries_owner}
use Rattle.vos_pool_stage.specs.Staged.{StandsInPool, pool_of}

read_of : (size : ℕ) (tells : Bool) (f : Image) (staged : List Range) (stopped : Bool) (m l : MapState) → IsBlocks size tells f staged stopped m l → IsTrue tells → stopped ≡ false → IsReadOf size (all_over staged f) m
read_of size tells f staged stopped m l k tell going = record { end = k.end; bytes = k.read tell going }

-- on blocks where nothing is staged
module _ {R : Type 0} (extent : R → ℕ) (tells : Bool) (image : R → Image) (b : BlocksState R) (t : Table) (none : b.undo.staged ≡ []) (held : IsBlocks (extent b.undo.region) tells (image b.undo.region) b.undo.staged b.undo.stopped b.map b.lasting) (going : b.undo.stopped ≡ false) where
  shown_is : shown image b ≡ shown_in b.map (image b.undo.region)
  shown_is = ap (λ (z : List Range). shown_in b.map (all_over z (image b.undo.region))) none

  first_read : IsTrue tells → IsReadOf (extent b.undo.region) (image b.undo.region) b.map
  first_read tell = subst (λ (z : List Range). IsReadOf (extent b.undo.region) (all_over z (image b.undo.region)) b.map) none (read_of (extent b.undo.region) tells (image b.undo.region) b.undo.staged b.undo.stopped b.map b.lasting held tell going)

  pub objects_below : IsTrue tells → (x : Stored) → Stand t.header.target (extent b.undo.region) (image b.undo.region) t x → Holds objects_owner (shown image b) x.0
  objects_below tell x s =
      let m = shown_in b.map (image b.undo.region) in
      subst (λ z. Holds objects_owner z x.0) (sym shown_is)
      (holds_first objects_owner entries_owner m x (blocks_are_shown stored_owner (extent b.undo.region) (image b.undo.region) b.map x (first_read tell) s.holds))

  -- so the versions that are read below the root of the objects are those of what stands
  pub versions_read : {Z : Type 0} (root : ℕ) (r a : Result (Vec Version Z) PiecesNo) → root ≡ t.header.objects → IfOk a (λ v. r ≡ Ok v)
      → IfOk r (λ v. IsTrue tells → (g : Objects) → Holds objects_owner (shown image b) g → root ≡ hung_root g → v.items ≡ objects_versions g)
      → IfOk a (λ v. IsTrue tells → (x : Stored) → StandsInPool extent image (pool_of b t) x → v.items ≡ objects_versions x.0)
  versions_read root r (Err e) at same read = tt
  versions_read {Z = Z} root r (Ok v) at same read = λ tell x s.
      let k = subst (λ (z : Result (Vec Version Z) PiecesNo). IfOk z (λ w. IsTrue tells → (g : Objects) → Holds objects_owner (shown image b) g → root ≡ hung_root g → w.items ≡ objects_versions g)) same read in
      k tell x.0 (objects_below tell x s) (at ∙ s.objects)

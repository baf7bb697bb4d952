-- What stays of blocks while calls read them and stage changes of them.
use Rattle.std.specs.Prelude.{◌≡◌, ℕ, Bool, IsTrue}
use Rattle.base_outside.specs.Images.{Image, NoMore}
use Rattle.pmem_alloc.specs.Blocks.{BlocksState}
use Rattle.pmem_alloc.specs.Map.{MapState}

-- The size of their region stays, what is read of it, and the map at the last commit; and a crash may leave no more than before.
pub record IsStill {R : Type 0} (extent : R → ℕ) (tells : Bool) (image : R → Image) (may_leave : R → Image → Type 0) (old new : BlocksState R) : Type 0 where
  pub size : extent new.undo.region ≡ extent old.undo.region
  pub read : IsTrue tells → image new.undo.region ≡ image old.undo.region
  pub left : IsTrue tells → NoMore (may_leave old.undo.region) (may_leave new.undo.region)
  pub lasting : new.lasting ≡ old.lasting

-- So much stayed since a moment, of which these say what was so then.
pub record IsSince (size : ℕ) (read : Image) (left : Image → Type 0) (lasting : MapState) (size_now : ℕ) (tells : Bool) (read_now : Image) (left_now : Image → Type 0) (lasting_now : MapState) : Type 0 where
  pub size_as : size_now ≡ size
  pub read_as : IsTrue tells → read_now ≡ read
  pub no_more : IsTrue tells → NoMore left left_now
  pub lasting_as : lasting_now ≡ lasting

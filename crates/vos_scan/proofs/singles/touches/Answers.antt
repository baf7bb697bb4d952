use Rattle.std.proofs.Common.{◌≡◌, ◌∙◌, Bool, false, true, refl}
use Rattle.std.specs.Prelude.{◌&&◌}
use Rattle.base_types.specs.Paths.{same_path}
use Rattle.daos_model.specs.Cells.{single_cell}
use Rattle.daos_model.proofs.Sights.{touches-extent, touches-single}
use Rattle.vos_scan.proofs.singles.touches.Goals as goal

with_true : (b : Bool) → b ≡ (b && true)
with_true true = refl
with_true false = refl

with_false : (b : Bool) → false ≡ (b && false)
with_false true = refl
with_false false = refl

pub returns-in-Single : goal.returns-in-Single
returns-in-Single c =
    touches-single (single_cell c.args.path.now) c.args.write.now c.in-Single.at c.in-Single.field-1 c.same.result
    (c.same.ensures ∙ with_true (same_path c.in-Single.at c.args.path.now)) c.in-Single.is

pub returns-in-Extent : goal.returns-in-Extent
returns-in-Extent c =
    touches-extent (single_cell c.args.path.now) c.args.write.now c.in-Extent.field-0 c.in-Extent.field-1 c.in-Extent.field-2 false
    (with_false (same_path c.in-Extent.field-0 c.args.path.now)) c.in-Extent.is

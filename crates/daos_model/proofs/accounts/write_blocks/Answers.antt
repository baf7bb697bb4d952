use Rattle.std.proofs.Common.{◌≡◌, ◌≤◌, subst, sym, true}
use Rattle.daos_model.specs.Forms.{is_write_in_form}
use Rattle.daos_model.proofs.InForm.{single_within, extent_within}
use Rattle.daos_model.proofs.accounts.write_blocks.Goals as goal

pub update_blocks-requires : goal.update_blocks-requires
update_blocks-requires c =
    subst (λ n. n ≤ 1024) (sym c.len.ensures) (single_within c.in-Single.field-0 c.in-Single.bytes (subst (λ w. is_write_in_form w ≡ true) c.in-Single.is c.requires))

pub update_blocks-requires-in-Extent : goal.update_blocks-requires-in-Extent
update_blocks-requires-in-Extent c =
    subst (λ n. n ≤ 1024) (sym c.len-in-Extent.ensures)
    (extent_within c.in-Extent.field-0 c.in-Extent.field-1 c.in-Extent.bytes (subst (λ w. is_write_in_form w ≡ true) c.in-Extent.is c.requires))

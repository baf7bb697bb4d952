use Rattle.std.proofs.Common.{◌≡◌, ◌∙◌, ◌≤◌, ap, length, subst, sym}
use Rattle.base_types.specs.Operations.{write_path}
use Rattle.base_types.specs.declared.operation.Write.TheVariants.{Extent, PunchAkey, Single}
use Rattle.vos_extent.specs.vos_levels.Levels.{HasMore}
use Rattle.vos_extent.proofs.vos_levels.Calls.{if_ok_then}
use Rattle.vos_path.specs.Calls.{Turns}
use Rattle.vos_path.specs.Nodes.{ValuesNoted}
use Rattle.vos_path.specs.Objects.{values_owner, values_roots, values_versions}
use Rattle.vos_path.specs.Writes.{fresh}
use Rattle.vos_path.proofs.Forming.{akey_punch, extent_length, single_length}
use Rattle.vos_path.proofs.values.write_values.Goals as goal

pub write_single-requires-clause-some : goal.write_single-requires-clause-some
write_single-requires-clause-some g c = subst (λ z. 1 ≤ length z) (sym c.as_slice.ensures) (single_length c.args.write.now c.in-Single.field-0 c.in-Single.bytes c.in-Single.is c.requires.form).0

pub write_single-requires-clause-most : goal.write_single-requires-clause-most
write_single-requires-clause-most g c = subst (λ z. length z ≤ 1024) (sym c.as_slice.ensures) (single_length c.args.write.now c.in-Single.field-0 c.in-Single.bytes c.in-Single.is c.requires.form).1

pub write_extent-requires-clause-some : goal.write_extent-requires-clause-some
write_extent-requires-clause-some g c = subst (λ z. 1 ≤ length z) (sym c.as_slice-in-Extent.ensures) (extent_length c.args.write.now c.in-Extent.field-0 c.in-Extent.low c.in-Extent.bytes c.in-Extent.is c.requires.form).0

pub write_extent-requires-clause-most : goal.write_extent-requires-clause-most
write_extent-requires-clause-most g c = subst (λ z. length z ≤ 1024) (sym c.as_slice-in-Extent.ensures) (extent_length c.args.write.now c.in-Extent.field-0 c.in-Extent.low c.in-Extent.bytes c.in-Extent.is c.requires.form).1

pub returns-in-Single-clause-written : goal.returns-in-Single-clause-written
returns-in-Single-clause-written g c = if_ok_then c.write_single.result (λ now h told x held at new.
    let is : c.args.write.now ≡ Single c.in-Single.field-0 c.as_slice.result.now = c.in-Single.is ∙ ap (Single c.in-Single.field-0) (sym c.as_slice.ensures) in
    subst (λ w. Turns values_owner values_roots (values_versions (write_path w)) (g.P.Pages.blocks c.args.pages.now) x (g.P.Pages.blocks c.write_single.new.pages) now (HasMore (fresh c.args.stamp w)) (ValuesNoted c.args.stamp w)) (sym is) (h told x held at new c.in-Single.field-0)) c.write_single.ensures.written

pub returns-in-Extent-clause-written : goal.returns-in-Extent-clause-written
returns-in-Extent-clause-written g c = if_ok_then c.write_extent.result (λ now h told x held at new.
    let is : c.args.write.now ≡ Extent c.in-Extent.field-0 c.in-Extent.low c.as_slice-in-Extent.result.now = c.in-Extent.is ∙ ap (Extent c.in-Extent.field-0 c.in-Extent.low) (sym c.as_slice-in-Extent.ensures) in
    subst (λ w. Turns values_owner values_roots (values_versions (write_path w)) (g.P.Pages.blocks c.args.pages.now) x (g.P.Pages.blocks c.write_extent.new.pages) now (HasMore (fresh c.args.stamp w)) (ValuesNoted c.args.stamp w)) (sym is) (h told x held at new c.in-Extent.field-0)) c.write_extent.ensures.written

pub returns-in-PunchObject-clause-written : goal.returns-in-PunchObject-clause-written
returns-in-PunchObject-clause-written g c = if_ok_then c.punch_values.result (λ now h told x held at new.
    let is : c.args.write.now ≡ PunchAkey (write_path c.args.write.now) = akey_punch c.args.write.now c.requires.below c.in-PunchObject.is in
    subst (λ w. Turns values_owner values_roots (values_versions (write_path w)) (g.P.Pages.blocks c.args.pages.now) x (g.P.Pages.blocks c.punch_values.new.pages) now (HasMore (fresh c.args.stamp w)) (ValuesNoted c.args.stamp w)) (sym is) (h told x held at new (write_path c.args.write.now))) c.punch_values.ensures.written

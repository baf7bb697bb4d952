use Rattle.std.specs.Prelude.{◌≡◌, false}
use Rattle.std.proofs.Common.{◌∙◌, ◌+◌, ap, arith, subst, sym}
use Rattle.daos_model.specs.Changes.{prepared}
use Rattle.vos_pool_base.specs.Pool.{OpenedState, kept_of, may_of}
use Rattle.vos_pool_base.specs.Tidy.{IfTidy}
use Rattle.vos_pool_stage.specs.Staged.{IsQuietCall}
use Rattle.vos_pool_stage.proofs.Lifting.{leaves_more, leaves_then, quiet_then_makes}
use Rattle.vos_pool_write.specs.Several.{sum_at_most}
use Rattle.vos_pool_write.proofs.Sequence.{went_well}
use Rattle.vos_pool_write.proofs.Whole.{entry_may, entry_prepares, on_ok, stopped_makes, tidy_then, versions_may}
use Rattle.vos_store.specs.Calls.{Makes}
use Rattle.vos_store.specs.Refusals.{always_stop}
use Rattle.vos_pool_write.proofs.preparing.write_all.Goals as goal

pub add_versions-requires-clause-here : goal.add_versions-requires-clause-here
add_versions-requires-clause-here g c tell =
    let going : c.args.opened.blocks.undo.stopped ≡ false = sym (ap (λ (p : OpenedState _). p.blocks.undo.stopped) c.opened.view_is) ∙ (sym c.is_stopped.ensures ∙ c.if-is_stopped.false) in
    let x = c.requires.here tell going in
    (x.0, versions_may g.R.Region.extent g.R.Region.image c.args.opened c.args.opened c.args.entry.now c.args.writes.now x.0 x.1)

pub add_entry-requires-clause-here : goal.add_entry-requires-clause-here
add_entry-requires-clause-here g c tell =
    let going : c.args.opened.blocks.undo.stopped ≡ false = sym (ap (λ (p : OpenedState _). p.blocks.undo.stopped) c.opened.view_is) ∙ (sym c.is_stopped.ensures ∙ c.if-is_stopped.false) in
    let come = went_well c.add_versions.result.1 c.in_default-Ok.field-0-1 c.in_default-Ok.is-1 c.add_versions.ensures.come in
    let x = c.requires.here tell going in
    let have = come tell x.0 (versions_may g.R.Region.extent g.R.Region.image c.args.opened c.add_versions.result.0 c.args.entry.now c.args.writes.now x.0 x.1) in
    (have.now, entry_may g.R.Region.extent g.R.Region.image c.args.opened c.add_versions.result.0 c.args.entry.now c.args.writes.now x.0 x.1 have c.add_versions.ensures.left.same c.add_versions.ensures.lease c.requires.form)

pub returns-in_default-Ok-clause-kept : goal.returns-in_default-Ok-clause-kept
returns-in_default-Ok-clause-kept g c =
    let going : c.args.opened.blocks.undo.stopped ≡ false = sym (ap (λ (p : OpenedState _). p.blocks.undo.stopped) c.opened.view_is) ∙ (sym c.is_stopped.ensures ∙ c.if-is_stopped.false) in
    let come = went_well c.add_versions.result.1 c.in_default-Ok.field-0-1 c.in_default-Ok.is-1 c.add_versions.ensures.come in
    let on = went_well c.add_versions.result.1 c.in_default-Ok.field-0-1 c.in_default-Ok.is-1 c.add_versions.ensures.stops.went_on in
    let quiet = subst (λ r. IsQuietCall r (kept_of g.R.Region.tells g.R.Region.extent g.R.Region.image c.args.opened) (kept_of g.R.Region.tells g.R.Region.extent g.R.Region.image c.add_versions.result.0) (may_of g.R.Region.tells g.R.Region.extent g.R.Region.may_leave c.args.opened) (may_of g.R.Region.tells g.R.Region.extent g.R.Region.may_leave c.add_versions.result.0)) c.in_default-Ok.is-1 c.add_versions.ensures.quiet in
    let makes = c.add_entry.ensures.makes (prepared c.args.entry.now c.args.writes.now) (λ tell.
    let x = c.requires.here tell going in
    let have = come tell x.0 (versions_may g.R.Region.extent g.R.Region.image c.args.opened c.add_versions.result.0 c.args.entry.now c.args.writes.now x.0 x.1) in
    (have.now, (entry_may g.R.Region.extent g.R.Region.image c.args.opened c.add_versions.result.0 c.args.entry.now c.args.writes.now x.0 x.1 have c.add_versions.ensures.left.same c.add_versions.ensures.lease c.requires.form, entry_prepares g.R.Region.extent g.R.Region.image c.args.opened c.add_versions.result.0 c.args.entry.now c.args.writes.now x.0 x.1 have c.add_versions.ensures.left.same c.add_versions.ensures.lease c.requires.form))) in
    subst (λ s. Makes s always_stop (prepared c.args.entry.now c.args.writes.now) c.add_entry.result.1 (kept_of g.R.Region.tells g.R.Region.extent g.R.Region.image c.args.opened) (kept_of g.R.Region.tells g.R.Region.extent g.R.Region.image c.add_entry.result.0) (may_of g.R.Region.tells g.R.Region.extent g.R.Region.may_leave c.args.opened) (may_of g.R.Region.tells g.R.Region.extent g.R.Region.may_leave c.add_entry.result.0)) (sym going)
    (quiet_then_makes (prepared c.args.entry.now c.args.writes.now) c.add_entry.result.1 (kept_of g.R.Region.tells g.R.Region.extent g.R.Region.image c.args.opened) (kept_of g.R.Region.tells g.R.Region.extent g.R.Region.image c.add_versions.result.0) (kept_of g.R.Region.tells g.R.Region.extent g.R.Region.image c.add_entry.result.0) (may_of g.R.Region.tells g.R.Region.extent g.R.Region.may_leave c.args.opened) (may_of g.R.Region.tells g.R.Region.extent g.R.Region.may_leave c.add_versions.result.0) (may_of g.R.Region.tells g.R.Region.extent g.R.Region.may_leave c.add_entry.result.0) quiet
    (subst (λ s. Makes s always_stop (prepared c.args.entry.now c.args.writes.now) c.add_entry.result.1 (kept_of g.R.Region.tells g.R.Region.extent g.R.Region.image c.add_versions.result.0) (kept_of g.R.Region.tells g.R.Region.extent g.R.Region.image c.add_entry.result.0) (may_of g.R.Region.tells g.R.Region.extent g.R.Region.may_leave c.add_versions.result.0) (may_of g.R.Region.tells g.R.Region.extent g.R.Region.may_leave c.add_entry.result.0)) (sym on ∙ going) makes))

pub returns-in_default-Ok-clause-tidy : goal.returns-in_default-Ok-clause-tidy
returns-in_default-Ok-clause-tidy g c =
    let going : c.args.opened.blocks.undo.stopped ≡ false = sym (ap (λ (p : OpenedState _). p.blocks.undo.stopped) c.opened.view_is) ∙ (sym c.is_stopped.ensures ∙ c.if-is_stopped.false) in
    let come = went_well c.add_versions.result.1 c.in_default-Ok.field-0-1 c.in_default-Ok.is-1 c.add_versions.ensures.come in
    on_ok _ (IfTidy g.R.Region.tells g.R.Region.extent g.R.Region.image c.add_entry.result.0) c.add_entry.result.1 c.add_entry.ensures.entered (λ entered tell after.
    let x = c.requires.here tell going in
    let have = come tell x.0 (versions_may g.R.Region.extent g.R.Region.image c.args.opened c.add_versions.result.0 c.args.entry.now c.args.writes.now x.0 x.1) in
    let may = entry_may g.R.Region.extent g.R.Region.image c.args.opened c.add_versions.result.0 c.args.entry.now c.args.writes.now x.0 x.1 have c.add_versions.ensures.left.same c.add_versions.ensures.lease c.requires.form in
    tidy_then g.R.Region.extent g.R.Region.image c.args.opened c.add_versions.result.0 c.args.entry.now c.args.writes.now x.0 x.1 have c.add_versions.ensures.left.same c.add_versions.ensures.lease c.requires.form g.R.Region.tells c.add_entry.result.0 c.add_entry.ensures.left.same (entered tell have.now may) tell after)

pub returns-in_default-Ok-clause-left : goal.returns-in_default-Ok-clause-left
returns-in_default-Ok-clause-left g c = leaves_then g.R.Region.tells g.R.Region.extent g.R.Region.may_leave (sum_at_most c.args.writes.now) 1 c.args.opened c.add_versions.result.0 c.add_entry.result.0 c.add_versions.ensures.left c.add_entry.ensures.left

pub returns-in_default-Err-clause-kept : goal.returns-in_default-Err-clause-kept
returns-in_default-Err-clause-kept g c =
    stopped_makes c.args.opened.blocks.undo.stopped (prepared c.args.entry.now c.args.writes.now) c.add_versions.result.1 _ (kept_of g.R.Region.tells g.R.Region.extent g.R.Region.image c.args.opened) (kept_of g.R.Region.tells g.R.Region.extent g.R.Region.image c.add_versions.result.0) (may_of g.R.Region.tells g.R.Region.extent g.R.Region.may_leave c.args.opened) (may_of g.R.Region.tells g.R.Region.extent g.R.Region.may_leave c.add_versions.result.0) c.in_default-Err.is-1 c.add_versions.ensures.quiet

pub returns-in_default-Err-clause-left : goal.returns-in_default-Err-clause-left
returns-in_default-Err-clause-left g c = leaves_more g.R.Region.tells g.R.Region.extent g.R.Region.may_leave (sum_at_most c.args.writes.now) (sum_at_most c.args.writes.now + 1) c.args.opened c.add_versions.result.0 (omega arith) c.add_versions.ensures.left

use Rattle.std.specs.Prelude.{◌≤◌, IsTrue, OnOk, ◌∷◌}
use Rattle.std.proofs.Common.{◌∙◌, arith, rules, subst, sym}
use Rattle.pmem_alloc.specs.Blocks.{free_count}
use Rattle.vos_image.specs.Kept.{Stored}
use Rattle.vos_path.specs.declared.stamp.Stamp.{Stamp}
use Rattle.vos_pool_base.specs.Pool.{kept_of, may_of}
use Rattle.vos_pool_base.specs.Tidy.{LeavesBut}
use Rattle.vos_pool_stage.specs.Staged.{IsQuietCall}
use Rattle.vos_pool_stage.proofs.Lifting.{leaves_more, leaves_then, quiet_then_quiet}
use Rattle.vos_pool_write.specs.Coming.{HasCome, MayCome}
use Rattle.vos_pool_write.specs.Several.{AllHaveCome, AllMayBeStaged, AllMayCome, sum_at_most}
use Rattle.vos_pool_write.specs.Written.{blocks_at_most}
use Rattle.vos_pool_write.proofs.Sequence.{all_come, first_may, others_may, went_well}
use Rattle.vos_pool_write.proofs.several.+add_versions.Goals as goal

pub add_version-requires-clause-here : goal.add_version-requires-clause-here
add_version-requires-clause-here g t c tell =
    let h = subst (λ l. (x : Stored) × AllMayCome g.R.Region.extent g.R.Region.image c.args.opened c.args.entry.now l x) c.in-Some.ensures.cases.0 (c.requires.here tell) in
    (h.0, subst (λ (s : Stamp). MayCome g.R.Region.extent g.R.Region.image c.args.opened s c.in-Some.write.now.write h.0) (sym c.stamp_of-stamp.ensures) (first_may g.R.Region.extent g.R.Region.image c.args.opened c.args.opened c.args.entry.now c.in-Some.write.now c.in-Some.rest.now h.0 h.1))

pub add_versions-requires : goal.add_versions-requires
add_versions-requires g t c κs within =
    let come = went_well c.add_version.result.1 c.in_default-Ok.field-0-1 c.in_default-Ok.is-1 c.add_version.ensures.come in
    let staged = subst (λ l. AllMayBeStaged c.args.entry.now l) c.in-Some.ensures.cases.0 c.requires.writes in
    let room = subst (λ l. sum_at_most l ≤ free_count c.args.opened.blocks) c.in-Some.ensures.cases.0 c.requires.room in
    let free = c.add_version.ensures.free in
    let on = went_well c.add_version.result.1 c.in_default-Ok.field-0-1 c.in_default-Ok.is-1 c.add_version.ensures.stops.went_on in (
      search rules,
      (
        search rules,
        (
          sym on ∙ c.requires.running,
          (
            staged.1,
            (
              λ tell.
                  let h = subst (λ l. (x : Stored) × AllMayCome g.R.Region.extent g.R.Region.image c.args.opened c.args.entry.now l x) c.in-Some.ensures.cases.0 (c.requires.here tell) in
                  let came = subst (λ (s : Stamp). MayCome g.R.Region.extent g.R.Region.image c.args.opened s c.in-Some.write.now.write h.0 → HasCome g.R.Region.extent g.R.Region.image c.add_version.result.0 s c.in-Some.write.now.write h.0) c.stamp_of-stamp.ensures (come tell h.0) (first_may g.R.Region.extent g.R.Region.image c.args.opened c.add_version.result.0 c.args.entry.now c.in-Some.write.now c.in-Some.rest.now h.0 h.1) in
                  (came.now, others_may g.R.Region.extent g.R.Region.image c.args.opened c.add_version.result.0 c.args.entry.now c.in-Some.write.now c.in-Some.rest.now h.0 h.1 came c.add_version.ensures.left.same c.add_version.ensures.lease),
              omega (arith, room, free),
            ),
          ),
        ),
      ),
    )

pub returns-in_default-Ok-clause-come : goal.returns-in_default-Ok-clause-come
returns-in_default-Ok-clause-come g t c =
    subst (λ l. OnOk c.add_versions.result.1 (IsTrue g.R.Region.tells → (x : Stored) → AllMayCome g.R.Region.extent g.R.Region.image c.args.opened c.args.entry.now l x → AllHaveCome g.R.Region.extent g.R.Region.image c.add_versions.result.0 c.args.entry.now l x)) (sym c.in-Some.ensures.cases.0)
    (all_come g.R.Region.extent g.R.Region.image c.args.opened c.add_version.result.0 c.add_versions.result.0 c.args.entry.now c.in-Some.write.now c.in-Some.rest.now g.R.Region.tells c.add_versions.result.1 c.add_version.ensures.left.same c.add_version.ensures.lease
    (subst (λ (s : Stamp). IsTrue g.R.Region.tells → (x : Stored) → MayCome g.R.Region.extent g.R.Region.image c.args.opened s c.in-Some.write.now.write x → HasCome g.R.Region.extent g.R.Region.image c.add_version.result.0 s c.in-Some.write.now.write x) c.stamp_of-stamp.ensures (went_well c.add_version.result.1 c.in_default-Ok.field-0-1 c.in_default-Ok.is-1 c.add_version.ensures.come))
    c.add_versions.ensures.come)

pub returns-in_default-Ok-clause-quiet : goal.returns-in_default-Ok-clause-quiet
returns-in_default-Ok-clause-quiet g t c =
    quiet_then_quiet c.add_versions.result.1 (kept_of g.R.Region.tells g.R.Region.extent g.R.Region.image c.args.opened) (kept_of g.R.Region.tells g.R.Region.extent g.R.Region.image c.add_version.result.0) (kept_of g.R.Region.tells g.R.Region.extent g.R.Region.image c.add_versions.result.0)
    (may_of g.R.Region.tells g.R.Region.extent g.R.Region.may_leave c.args.opened) (may_of g.R.Region.tells g.R.Region.extent g.R.Region.may_leave c.add_version.result.0) (may_of g.R.Region.tells g.R.Region.extent g.R.Region.may_leave c.add_versions.result.0)
    (subst (λ r. IsQuietCall r (kept_of g.R.Region.tells g.R.Region.extent g.R.Region.image c.args.opened) (kept_of g.R.Region.tells g.R.Region.extent g.R.Region.image c.add_version.result.0) (may_of g.R.Region.tells g.R.Region.extent g.R.Region.may_leave c.args.opened) (may_of g.R.Region.tells g.R.Region.extent g.R.Region.may_leave c.add_version.result.0)) c.in_default-Ok.is-1 c.add_version.ensures.quiet)
    c.add_versions.ensures.quiet

pub returns-in_default-Ok-clause-left : goal.returns-in_default-Ok-clause-left
returns-in_default-Ok-clause-left g t c =
    subst (λ l. LeavesBut g.R.Region.tells g.R.Region.extent g.R.Region.may_leave (sum_at_most l) c.args.opened c.add_versions.result.0) (sym c.in-Some.ensures.cases.0)
    (leaves_then g.R.Region.tells g.R.Region.extent g.R.Region.may_leave (blocks_at_most c.in-Some.write.now.write) (sum_at_most c.in-Some.rest.now) c.args.opened c.add_version.result.0 c.add_versions.result.0 c.add_version.ensures.left c.add_versions.ensures.left)

pub returns-in_default-Err-clause-left : goal.returns-in_default-Err-clause-left
returns-in_default-Err-clause-left g t c =
    subst (λ l. LeavesBut g.R.Region.tells g.R.Region.extent g.R.Region.may_leave (sum_at_most l) c.args.opened c.add_version.result.0) (sym c.in-Some.ensures.cases.0)
    (leaves_more g.R.Region.tells g.R.Region.extent g.R.Region.may_leave (blocks_at_most c.in-Some.write.now.write) (sum_at_most (c.in-Some.write.now ∷ c.in-Some.rest.now)) c.args.opened c.add_version.result.0 (omega arith) c.add_version.ensures.left)

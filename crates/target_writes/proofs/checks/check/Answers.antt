use Rattle.std.proofs.Common.{subst}
use Rattle.vos_stamp.specs.Stamps.{AnswersWrite}
use Rattle.world_base.specs.Reads.{later_of}
use Rattle.target_writes.proofs.checks.check.Goals as goal

pub returns-clause-checked : goal.returns-clause-checked
returns-clause-checked g c d at =
    let a = c.in_ok-later.ensures.later d at in
    record {
      stays = a.stays;
      holds = subst (λ f. AnswersWrite c.args.plan.me c.args.path.now c.args.epoch.0 f c.args.stamps.now.reads (later_of c.args.plan c.args.first c.args.epoch c.args.path.now d) c.in_ok-check_write.field-0)
          (c.floor-floor.ensures.floor c.requires.running d at)
          (subst (λ l. AnswersWrite c.args.plan.me c.args.path.now c.args.epoch.0 c.floor-floor.result c.args.stamps.now.reads l c.in_ok-check_write.field-0) a.holds c.in_ok-check_write.ensures);
    }

use Rattle.std.proofs.Common.{◌≡◌, ◌∙◌, refl}
use Rattle.world_contents.specs.world_base.Reads.{uncertain_to}
use Rattle.vos_store.specs.Answers.{later_write}
use Rattle.target_parts.specs.Later.{later_capped, later_none_capped}
use Rattle.target_parts.proofs.later.later_write.Goals as goal

pub returns-then-upto-epoch-clause-later : goal.returns-then-upto-epoch-clause-later
returns-then-upto-epoch-clause-later g c d at = record {
  stays = record { kept_is = at; free = refl };
  holds = later_none_capped c.args.path.now c.args.epoch (uncertain_to c.args.plan c.args.first c.args.epoch) c.uncertain_to-upto.result d (c.requires.epochs d at) c.uncertain_to-upto.ensures c.if-upto-epoch.true;
}

pub returns-clause-later : goal.returns-clause-later
returns-clause-later g c d at =
    let said = c.in_ok-later_write.ensures.answer d at refl in
    let is : c.in_ok-later_write.field-0 ≡ later_write c.args.path.now c.args.epoch c.uncertain_to-upto.result d = cc in
    record {
      stays = record { kept_is = c.in_ok-later_write.ensures.kept.same refl ∙ at; free = c.in_ok-later_write.ensures.free };
      holds = is ∙ later_capped c.args.path.now c.args.epoch (uncertain_to c.args.plan c.args.first c.args.epoch) c.uncertain_to-upto.result d (c.requires.epochs d at) c.uncertain_to-upto.ensures;
    }

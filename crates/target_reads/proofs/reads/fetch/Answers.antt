use Rattle.std.proofs.Common.{◌∙◌, refl, sym, ap, Some, Err}
use Rattle.vos_store.specs.Refusals.{fetch_open, fetch_stop}
use Rattle.target_reads.proofs.Fetching.{checked, past_cause}
use Rattle.target_reads.proofs.reads.fetch.Goals as goal

pub returns-in-Some-clause-met : goal.returns-in-Some-clause-met
returns-in-Some-clause-met g c d at = record {
  stays = record { kept_is = c.in-Ok.ensures.kept.same refl ∙ at; free = c.in-Ok.ensures.free };
  holds = checked c.args.plan c.args.request.now c.args.epoch d c.args.later _ _ refl (c.in-Ok.ensures.answer d at refl) (c.requires.later d at) c.in_ok-cause-in-Ok.ensures ∙ c.in-Some.is;
}

pub returns-in-None-clause-met : goal.returns-in-None-clause-met
returns-in-None-clause-met g c d at = record {
  stays = record { kept_is = c.in-Ok.ensures.kept.same refl ∙ at; free = c.in-Ok.ensures.free };
  holds = (checked c.args.plan c.args.request.now c.args.epoch d c.args.later _ _ refl (c.in-Ok.ensures.answer d at refl) (c.requires.later d at) c.in_ok-cause-in-Ok.ensures ∙ c.in-None.is, sym (c.in-Ok.ensures.answer d at refl));
}

pub returns-in-Some-2-clause-met : goal.returns-in-Some-2-clause-met
returns-in-Some-2-clause-met g c d at = record {
  stays = record { kept_is = c.in-Err-Unsettled.ensures.kept.same (ap fetch_stop c.in-Err-Unsettled.field-0-is) ∙ at; free = c.in-Err-Unsettled.ensures.free };
  holds = checked c.args.plan c.args.request.now c.args.epoch d c.args.later _ _ refl (ap Err (sym c.in-Err-Unsettled.field-0-is) ∙ c.in-Err-Unsettled.ensures.answer d at (ap fetch_open c.in-Err-Unsettled.field-0-is)) (c.requires.later d at) c.in_ok-cause-in-Err-Unsettled.ensures ∙ c.in-Some-2.is;
}

pub returns-in-None-2-clause-met : goal.returns-in-None-2-clause-met
returns-in-None-2-clause-met g c d at = record {
  stays = record { kept_is = c.in-Err-Unsettled.ensures.kept.same (ap fetch_stop c.in-Err-Unsettled.field-0-is) ∙ at; free = c.in-Err-Unsettled.ensures.free };
  holds = (checked c.args.plan c.args.request.now c.args.epoch d c.args.later _ _ refl (ap Err (sym c.in-Err-Unsettled.field-0-is) ∙ c.in-Err-Unsettled.ensures.answer d at (ap fetch_open c.in-Err-Unsettled.field-0-is)) (c.requires.later d at) c.in_ok-cause-in-Err-Unsettled.ensures ∙ c.in-None-2.is, sym (ap Err (sym c.in-Err-Unsettled.field-0-is) ∙ c.in-Err-Unsettled.ensures.answer d at (ap fetch_open c.in-Err-Unsettled.field-0-is)));
}

pub returns-in-Err-Aggregated-clause-met : goal.returns-in-Err-Aggregated-clause-met
returns-in-Err-Aggregated-clause-met g c d at = record {
  stays = record { kept_is = c.in-Err-Aggregated.ensures.kept.same (ap fetch_stop c.in-Err-Aggregated.field-0-is) ∙ at; free = c.in-Err-Aggregated.ensures.free };
  holds = past_cause c.args.plan c.args.request.now c.args.epoch c.in-Err-Aggregated.at c.in-Err-Aggregated.number d (ap Err (sym c.in-Err-Aggregated.field-0-is) ∙ c.in-Err-Aggregated.ensures.answer d at (ap fetch_open c.in-Err-Aggregated.field-0-is))
      ∙ ap (λ x. Some x) (sym c.by_floor.ensures);
}

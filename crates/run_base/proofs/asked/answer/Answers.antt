use Rattle.std.proofs.Common.{sym, ◌∙◌, ap}
use Rattle.std.specs.Prelude.{position}
use Rattle.world_base.specs.Letters.{is_answer_to}
use Rattle.run_base.proofs.Answered.{without_first-at, without_first-none}
use Rattle.run_base.proofs.asked.answer.Goals as goal

pub returns-in-Some-clause-left : goal.returns-in-Some-clause-left
returns-in-Some-clause-left c =
    c.remove.ensures.items
    ∙ without_first-at (is_answer_to c.args.letter.now) c.args.asked.now.items c.in-Some.place
    (ap (position (is_answer_to c.args.letter.now)) (sym c.deref.ensures.value) ∙ sym c.first_answered.ensures.first ∙ c.in-Some.is)

pub returns-in_default-clause-left : goal.returns-in_default-clause-left
returns-in_default-clause-left c =
    without_first-none (is_answer_to c.args.letter.now) c.args.asked.now.items
    (ap (position (is_answer_to c.args.letter.now)) (sym c.deref.ensures.value) ∙ sym c.first_answered.ensures.first ∙ c.in_default.is)

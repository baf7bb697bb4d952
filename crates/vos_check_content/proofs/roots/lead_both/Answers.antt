use Rattle.vos_check_base.specs.Sets.{open_of}
use Rattle.vos_check_content.proofs.RootSteps.{first_fails, first_marks, second_led}
use Rattle.vos_check_content.proofs.roots.lead_both.Goals as goal

pub returns-in_err-lead : goal.returns-in_err-lead
returns-in_err-lead c d roots marks = first_fails d c.args.objects c.args.entries c.in_err-lead.field-0.0 (open_of c.lead.new.self) roots (c.in_err-lead.ensures d _ marks)

pub returns : goal.returns
returns c d roots marks =
    second_led d c.args.objects c.args.entries _ c.lead-2.result roots (c.lead-2.ensures d _ (first_marks d c.args.objects c.args.entries _ tt roots (c.in_ok-lead.ensures d _ marks)))

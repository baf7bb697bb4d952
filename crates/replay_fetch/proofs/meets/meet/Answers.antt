use Rattle.std.proofs.Common.{◌∙◌, ap, sym}
use Rattle.std.specs.Option.{option_copied}
use Rattle.replay_fetch.specs.Met.{IsRefused}
use Rattle.replay_fetch.proofs.Meeting.{answer_met, attempt_met}
use Rattle.replay_fetch.proofs.meets.meet.Goals as goal

pub returns-in-Some : goal.returns-in-Some
returns-in-Some c = IsRefused c.in-Some.cause (sym c.in_ok-cause.ensures ∙ c.in-Some.is) c.restarts.ensures

pub returns-in_default-first_blocking : goal.returns-in_default-first_blocking
returns-in_default-first_blocking c =
    answer_met c.args.plan c.args.request.now c.args.epoch c.args.durable.now c.args.decided.now c.path-path.result.now c.as_slice-rows.result.now c.in_ok-cause.field-0 c.is_past.result (option_copied c.first_blocking.result)
    c.path-path.ensures c.as_slice-rows.ensures c.in_ok-cause.ensures c.in_default.is c.is_past.ensures c.if-is_past.false c.first_blocking.ensures c.in_ok-answer.answer (ap option_copied c.in_default-first_blocking.is) c.in_ok-answer.ensures

pub returns : goal.returns
returns c =
    attempt_met c.args.plan c.args.request.now c.args.epoch c.args.durable.now c.args.decided.now c.path-path.result.now c.as_slice-rows.result.now c.in_ok-cause.field-0 c.is_past.result (option_copied c.first_blocking.result)
    c.path-path.ensures c.as_slice-rows.ensures c.in_ok-cause.ensures c.in_default.is c.is_past.ensures c.if-is_past.false c.first_blocking.ensures c.in-Some-first_blocking.version.now c.meet_attempt.result
    (ap option_copied c.in-Some-first_blocking.is) c.meet_attempt.ensures

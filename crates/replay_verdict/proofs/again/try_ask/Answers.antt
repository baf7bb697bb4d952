use Rattle.std.proofs.Common.{sym, ◌∙◌}
use Rattle.replay_base.proofs.Starts.{if_ok}
use Rattle.replay_verdict.proofs.Trying.{ask_none, ask_timed, ask_tried}
use Rattle.replay_verdict.proofs.again.try_ask.Goals as goal

pub try_one-requires-clause-timed : goal.try_one-requires-clause-timed
try_one-requires-clause-timed c = ask_timed c.args.ask.now c.in-Some.request (sym c.in_ok-request.ensures ∙ c.in-Some.is) c.requires.timed

pub returns-in-Some : goal.returns-in-Some
returns-in-Some c = if_ok _ _ c.try_one.result (λ o tries. ask_tried c.args.plan c.args.ask.now c.in-Some.request c.args.trial c.in_ok-request.field-0 o c.in_ok-request.ensures c.in-Some.is tries) c.try_one.ensures

pub returns-in-None : goal.returns-in-None
returns-in-None c = absurd (ask_none c.args.ask.now (sym c.in_ok-request.ensures ∙ c.in-None.is) c.requires.timed)

use Rattle.std.proofs.Common.{◌∙◌, sym}
use Rattle.run_stage.specs.Now.{stage_now}
use Rattle.run_stage.proofs.Following.{followed-so}
use Rattle.run_stage.proofs.stage.Stage.follow.Goals as goal

-- where none was given up, what lies between them is what is left of it
pub returns-clause-followed : goal.returns-clause-followed
returns-clause-followed g c =
    let b = c.follow.new.self in
    followed-so c.follow.result c.args.from c.args.did (stage_now c.args.self.now) b (sym c.some_down.ensures ∙ c.if-some_down.false) c.follow.ensures.messages c.follow.ensures.asked c.follow.ensures.issued c.follow.ensures.lines

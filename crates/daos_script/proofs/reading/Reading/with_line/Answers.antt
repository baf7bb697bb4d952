use Rattle.daos_script.proofs.Keeps.{passed_keeps}
use Rattle.daos_script.proofs.Loop.{too_long}
use Rattle.daos_script.proofs.reading.Reading.with_line.Goals as goal

pub returns-then-at-long-clause-exact : goal.returns-then-at-long-clause-exact
returns-then-at-long-clause-exact c = too_long c.args.long c.args.at c.args.self.now c.args.text.now c.if-at-long.true

pub returns-then-is_passed-clause-form : goal.returns-then-is_passed-clause-form
returns-then-is_passed-clause-form c = passed_keeps c.args.self.now.decls.targets c.args.at c.args.self.now c.requires.form

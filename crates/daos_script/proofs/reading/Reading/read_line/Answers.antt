use Rattle.daos_script.specs.Steps.{within_of}
use Rattle.daos_script.proofs.Keeps.{few_pending, line_keeps, new_fits}
use Rattle.daos_script.proofs.reading.Reading.read_line.Goals as goal

pub add_line-requires-clause-new : goal.add_line-requires-clause-new
add_line-requires-clause-new c = new_fits c.args.self.now.decls (within_of c.args.self.now.lists.present.client) c.in_ok-line.line c.in_ok-line.ensures.fits

pub add_line-requires-clause-pending : goal.add_line-requires-clause-pending
add_line-requires-clause-pending c = few_pending c.args.self.now.decls.targets c.args.at c.args.self.now c.requires.before c.requires.form

pub returns-clause-form : goal.returns-clause-form
returns-clause-form c = line_keeps c.args.self.now.decls.targets c.args.at c.args.self.now c.add_line.new.self c.in_ok-line.line c.requires.form c.in_ok-line.ensures.fits c.in_ok-add_line.ensures

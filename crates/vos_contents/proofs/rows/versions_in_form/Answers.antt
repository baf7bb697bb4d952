use Rattle.vos_contents.proofs.Prepared.{form_as_told}
use Rattle.vos_contents.proofs.rows.versions_in_form.Goals as goal

pub returns-clause-form : goal.returns-clause-form
returns-clause-form c = form_as_told c.versions_of.result c.args.entry.now c.args.writes.now c.requires c.versions_of.ensures

use Rattle.std.proofs.Common.{rules}
use Rattle.target_reads.proofs.Fetching.{read-in_form}
use Rattle.target_reads.proofs.reads.meet.Goals as goal

pub later_write-requires-clause-form : goal.later_write-requires-clause-form
later_write-requires-clause-form g c = let form = read-in_form c.args.request.now.read c.requires.form in search (rules, form)

use Rattle.std.proofs.Common.{rules}
use Rattle.target_reads.proofs.Fetching.{read-in_form}
use Rattle.target_reads.proofs.fetches.raise.Goals as goal

pub read-requires : goal.read-requires
read-requires c = let form = read-in_form c.args.request.now.read c.requires in search (rules, form)

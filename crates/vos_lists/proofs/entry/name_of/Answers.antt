use Rattle.std.specs.Option.{option_copied}
use Rattle.vos_lists.proofs.Reading.{said_short}
use Rattle.vos_lists.proofs.entry.name_of.Goals as goal

pub returns-then-from-le-KEY_MAX-clause-short : goal.returns-then-from-le-KEY_MAX-clause-short
returns-then-from-le-KEY_MAX-clause-short c = said_short c.args.key.now (option_copied c.read_name.result) c.read_name.ensures

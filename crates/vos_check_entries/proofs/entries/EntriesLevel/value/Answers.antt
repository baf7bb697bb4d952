use Rattle.vos_check_entries.proofs.entries.EntriesLevel.value.Goals as goal

pub returns : goal.returns
returns c = c.entry_in.ensures c.args._name

use Rattle.vos_check_entries.proofs.entries.EntriesLevel.name.Goals as goal

pub returns : goal.returns
returns c = c.attempt_in.ensures c.args.self.now.ground

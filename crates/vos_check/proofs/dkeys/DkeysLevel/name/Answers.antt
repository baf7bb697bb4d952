use Rattle.vos_check.proofs.dkeys.DkeysLevel.name.Goals as goal

pub returns : goal.returns
returns c = c.name_in.ensures c.args.self.now.ground

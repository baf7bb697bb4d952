use Rattle.vos_check.proofs.dkeys.DkeysLevel.value.Goals as goal

pub returns : goal.returns
returns c = c.roots_in.ensures c.args.self.now.ground

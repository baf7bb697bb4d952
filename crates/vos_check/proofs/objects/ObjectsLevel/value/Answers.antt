use Rattle.vos_check.proofs.objects.ObjectsLevel.value.Goals as goal

pub returns : goal.returns
returns c = c.roots_in.ensures c.args.self.now.ground

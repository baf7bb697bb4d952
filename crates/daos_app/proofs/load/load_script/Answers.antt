use Rattle.daos_app.proofs.Generated.{generated_has_keys}
use Rattle.daos_app.proofs.load.load_script.Goals as goal

pub returns-clause-keys : goal.returns-clause-keys
returns-clause-keys c = generated_has_keys c.args.targets c.args.count c.make_script.result c.make_script.ensures.exact (c.laws_of_loads.ensures.keys c.args.targets c.args.count)

use Rattle.daos_app.proofs.input.script_in.Goals as goal

pub returns-in-Ok-clause-short : goal.returns-in-Ok-clause-short
returns-in-Ok-clause-short c = c.texts_are_short.ensures c.args.targets c.args.bytes.now c.in-Ok.script c.in-Ok.ensures.exact

pub returns-in-Ok-clause-keys : goal.returns-in-Ok-clause-keys
returns-in-Ok-clause-keys c = c.laws_of_keys.ensures.read c.args.targets c.args.bytes.now c.in-Ok.script c.in-Ok.ensures.exact

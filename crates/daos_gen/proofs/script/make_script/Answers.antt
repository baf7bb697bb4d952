use Rattle.daos_gen.specs.Scripts.{script_of}
use Rattle.daos_gen.proofs.InForm.{classes_fit, script_in_form}
use Rattle.daos_gen.proofs.script.make_script.Goals as goal

pub returns-clause-form : goal.returns-clause-form
unfolding script_of
returns-clause-form c =
    let made = script_in_form c.args.targets c.args.count c.requires.few (classes_fit c.args.targets c.requires.some_targets) in
    rw (c.in_ok-conts_of_load.ensures, c.in_ok-objs_of_load.ensures, c.new.ensures, c.new-2.ensures, c.new-3.ensures, c.in_ok-clients_of.ensures) made

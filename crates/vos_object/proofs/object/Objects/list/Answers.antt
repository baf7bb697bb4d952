use Rattle.std.proofs.Common.{◌∙◌}
use Rattle.vos_object.proofs.ReadForms.{akeys_end, dkeys_end, none_is}
use Rattle.vos_object.proofs.object.Objects.list.Goals as goal

pub list_dkeys-requires-clause-form : goal.list_dkeys-requires-clause-form
list_dkeys-requires-clause-form g c = dkeys_end c.args.path.now (none_is c.args.path.now.dkey c.is_none.result c.is_none.ensures ∙ c.if-is_none.true) c.requires.form

pub list_akeys-requires-clause-form : goal.list_akeys-requires-clause-form
list_akeys-requires-clause-form g c = akeys_end c.args.path.now (none_is c.args.path.now.dkey c.is_none.result c.is_none.ensures ∙ c.if-is_none.false) c.requires.form

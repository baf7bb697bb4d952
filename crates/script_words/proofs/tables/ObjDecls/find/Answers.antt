use Rattle.std.proofs.Common.{◌≡◌, ◌∙◌, ap, map, subst, All}
use Rattle.base_names.specs.Names.{named}
use Rattle.script_words.specs.Lookups.{HasUnit, name_of_obj, obj_named}
use Rattle.script_words.proofs.Known.{found_known, found_unit}
use Rattle.script_words.proofs.tables.ObjDecls.find.Goals as goal

seen : (c : goal.After-find) → c.self.inside.decls ≡ c.args.self.now
seen c = c.self.view_is

-- what is found is what the name stands for among the objects
found : (c : goal.After-find) → c.find.result ≡ obj_named c.args.self.now c.args.name.now
unfolding obj_named
found c = c.find.ensures ∙ ap (λ names. named names c.args.name.now) (c.self.invariant.named ∙ ap (map name_of_obj) (seen c))

units : (c : goal.After-find) → All HasUnit c.args.self.now
units c = subst (All HasUnit) (seen c) c.self.invariant.units

pub returns-clause-known : goal.returns-clause-known
returns-clause-known c = found_known c.args.self.now c.args.name.now (units c) c.find.result (found c)

pub returns-clause-unit : goal.returns-clause-unit
returns-clause-unit c = found_unit c.args.self.now c.args.name.now (units c) c.find.result (found c)

use Rattle.std.proofs.Common.{◌∙◌, ap}
use Rattle.base_names.specs.Names.{named}
use Rattle.base_names.proofs.Found.{lookup-named}
use Rattle.base_names.proofs.Names.find.Goals as goal

pub returns : goal.returns
returns g c = c.copied.ensures ∙ c.get.ensures.value ∙ lookup-named c.self.inside.table.entries c.args.name.now ∙ ap (λ xs. named xs c.args.name.now) c.self.view_is

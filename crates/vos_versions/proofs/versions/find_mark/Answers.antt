use Rattle.std.proofs.Common.{◌∙◌, ap}
use Rattle.std.specs.Option.{option_and_then}
use Rattle.vos_chain.specs.vos_values.Values.{version_in}
use Rattle.vos_versions.proofs.Marks.{kind_is, some_short}
use Rattle.vos_versions.proofs.versions.find_mark.Goals as goal

pub get-requires-clause-kind : goal.get-requires-clause-kind
get-requires-clause-kind g c = kind_is c.args.tree.kind c.requires.kind

pub returns-clause-found : goal.returns-clause-found
returns-clause-found g c told t tree = c.mark_in.ensures ∙ ap (option_and_then version_in) (c.in_ok-get.ensures.found told t tree)

pub returns-clause-short : goal.returns-clause-short
returns-clause-short g c = some_short _ _ c.mark_in.ensures

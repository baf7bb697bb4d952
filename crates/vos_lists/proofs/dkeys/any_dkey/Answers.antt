use Rattle.std.proofs.Common.{◌∙◌, ap, not}
use Rattle.vos_levels.specs.Levels.{things}
use Rattle.vos_lists.specs.Stands.{dkey_name, dkey_stands}
use Rattle.vos_lists.proofs.Walking.{some_taken}
use Rattle.vos_lists.proofs.dkeys.any_dkey.Goals as goal

pub returns-clause-found : goal.returns-clause-found
returns-clause-found g c told x held at q cover =
    ap not c.is_empty.ensures ∙ some_taken (dkey_stands c.args.view q) dkey_name (things x) c.in_ok-names.names (c.in_ok-names.ensures.found told x held at q cover)

use Rattle.std.proofs.Common.{◌∙◌}
use Rattle.vos_levels.proofs.Calls.{if_ok_then}
use Rattle.vos_prune.proofs.Flat.{writer_is}
use Rattle.vos_prune.proofs.remove.find_writer.Goals as goal

pub returns-clause-found : goal.returns-clause-found
returns-clause-found g c = if_ok_then c.objects_writer.result (λ w h told x held at.
    h told x held at ∙ writer_is c.args.path.now c.args.kind c.args.at c.in-Some.obj (g.P.Pages.blocks c.args.pages.now) x held c.in-Some.is c.requires.fits c.requires.names c.objects_writer.ensures.object c.objects_writer.ensures.moment c.objects_writer.ensures.place) c.objects_writer.ensures.found

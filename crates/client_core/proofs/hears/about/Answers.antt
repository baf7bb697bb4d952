use Rattle.std.proofs.Common.{sym, ◌∙◌, ap}
use Rattle.world_base.specs.ClientTurns.{about, request_of}
use Rattle.client_core.proofs.Told.{about_reset}
use Rattle.client_core.proofs.hears.about.Goals as goal

pub returns-in-Reset : goal.returns-in-Reset
returns-in-Reset c =
    c.request_of.ensures ∙ ap request_of c.get.ensures ∙ sym (about_reset c.in-Reset.target c.in-Reset.down c.in-Reset.message) ∙ ap about (sym c.in-Reset.is)

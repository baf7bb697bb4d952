-- Each attempt of which lines tell ended as its answers and conditions say.
use Rattle.std.specs.Prelude.{◌≡◌, slice_get, Option, Some, None, refl}
use Rattle.std.proofs.Common.{subst}
use Rattle.base_types.specs.declared.report.Attempt.{Attempt}
use Rattle.daos_model.specs.Attempts.{is_of_client, tries, tries_of}
use Rattle.model_laws.specs.DecidedLaws.{all-from_has, has-all}
use Rattle.model_laws.specs.Members.{Has, has-filter}
use Rattle.model_laws.specs.TargetLaws.{same_number}
use Rattle.world_base.specs.declared.client.ClientState.{ClientState}
use Rattle.world_base.specs.declared.world.World.{World}
use Rattle.world_base.specs.Events.{Rules, client_plan}
use Rattle.world_making.specs.world_contents.gots.StepGots.{ops-of-attempt}
use Rattle.world_ended.specs.Clients.{AllEndWell, HasEndedWell}
use Rattle.world_ended.specs.world_letters.clients.Answered.{EndsAsAnswered, EndsWell}
use Rattle.world_ended.specs.world_letters.lines.LastLines.{lines-answered}
use Rattle.world_ended.specs.world_letters.lines.Lines.{Lines}

abbrev pub LinesEndWell : Type 0
LinesEndWell = (r : Rules) (w : World) → Lines r w → AllEndWell r.script w.lines

ended-well : (r : Rules) (w : World) → Lines r w → (a : Attempt) → Has a (tries w.lines) → HasEndedWell r.script a
ended-well r w k a i = by (slice_get w.clients a.id.client) refl
  where
    mine : Has a (tries_of a.id.client w.lines)
    mine = has-filter (is_of_client a.id.client) (tries w.lines) a i (same_number a.id.client)

    by : (o : Option ClientState) → slice_get w.clients a.id.client ≡ o → HasEndedWell r.script a
    by None e = absurd (subst (λ as'. Has a as') (k.nobody a.id.client e) mine)
    by (Some c) e =
        subst (λ ops. EndsWell ops a a.outcome) (ops-of-attempt r a.id)
        (has-all (EndsAsAnswered (client_plan r a.id.client)) (tries_of a.id.client w.lines) a (lines-answered r w a.id.client c k e) mine)

pub lines-end_well : LinesEndWell
lines-end_well r w k = all-from_has (HasEndedWell r.script) (tries w.lines) (ended-well r w k)

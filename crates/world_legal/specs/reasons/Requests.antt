-- A request that a target hears is what its client asked.
use Rattle.std.specs.Prelude.{◌≡◌, List}
use Rattle.std.proofs.Common.{◌∙◌, ap}
use Rattle.base_types.specs.declared.id.AttemptId.{AttemptId}
use Rattle.base_messages.specs.declared.message.Message.TheVariants as message
use Rattle.world_base.specs.declared.letter.Letter.{Letter}
use Rattle.world_base.specs.declared.world.World.{World}
use Rattle.world_base.specs.Events.{Rules, client_plan}
use Rattle.world_standing.specs.world_causes.handing.Handing.{IsAskedBy}
use Rattle.world_standing.specs.world_letters.talks.AskLaws.{sent-is-asked}
use Rattle.world_standing.specs.world_letters.talks.Conversation.{HearsRequest}
use Rattle.world_standing.specs.world_letters.waits.Waits.{IsQuestion, ItsAsk, ItsRequest}

-- what a client asked is its request, unless it asks what became of its attempt
pub request-asked : (r : Rules) (w : World) (l : Letter) (rest : List Letter) → ((x : AttemptId) → l.message ≡ message.Ask x → ⊥) → IsAskedBy r w l rest → HearsRequest r w l rest
request-asked r w l rest no_ask z = by z.question
  where
    by : IsQuestion (client_plan r z.n) z.c z.q → HearsRequest r w l rest
    by (ItsRequest k low sent) =
        record { n = z.n; c = z.c; a = z.a; here = z.here; present = z.at; waiting = z.now; k = k; q = z.q; low = low; sent = sent; asked = sent-is-asked (client_plan r z.n) k z.c z.a z.q z.at sent; it = z.is; none_else = z.alone }
    by (ItsAsk k p f low sent commits says) = absurd (no_ask f.attempt (ap (λ y. y.message) z.is ∙ ap (λ y. y.message) says))

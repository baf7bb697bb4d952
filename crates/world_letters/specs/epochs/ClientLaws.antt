-- What a client does keeps what is said of epochs: it goes on with its attempt, or ends it.
use Rattle.std.specs.Prelude.{ℕ, ◌≡◌, ◌+◌, ◌++◌, [], ◌∷◌, Option}
use Rattle.std.proofs.Common.{◌∙◌, ap}
use Rattle.std.proofs.Math.ListN.{set}
use Rattle.base_types.specs.declared.id.AttemptId.{AttemptId}
use Rattle.base_types.specs.declared.report.Attempt.{Attempt}
use Rattle.base_types.specs.declared.report.Line.TheVariants as line
use Rattle.base_messages.specs.declared.message.Post.{Post}
use Rattle.world_base.specs.declared.client.ClientState.{ClientState}
use Rattle.world_base.specs.declared.client.Present.{Present}
use Rattle.world_base.specs.declared.world.World.{World}
use Rattle.world_base.specs.ClientTurns.{attempt_id, listed}
use Rattle.world_base.specs.Events.{Rules, client_plan}
use Rattle.world_base.specs.Letters.{asked_after, client, letters_of}

-- ---- one client among others

pub same-id : (r : Rules) (n : ℕ) (c d : ClientState) (a b : Present) → d.command ≡ c.command → b.attempt ≡ a.attempt → attempt_id (client_plan r n) d b ≡ attempt_id (client_plan r n) c a
same-id r n c d a b command number = ap (λ z. made z b.attempt) command ∙ ap (λ z. made c.command z) number
  where
    made : ℕ → ℕ → AttemptId
    made k m = record { client = n; command = k; attempt = m }

-- ---- a client that goes on

abbrev pub after_quiet : World → ℕ → Option Post → ClientState → World
after_quiet w n post d = record w { clients = set w.clients n d; messages = w.messages ++ letters_of (client n) (listed post); asked = asked_after w.asked (letters_of (client n) (listed post)) }

-- ---- a client that ends its attempt

abbrev pub after_ending : World → ℕ → Attempt → ClientState → World
after_ending w n t d = record w { clients = set w.clients n d; lines = w.lines ++ line.Try t ∷ [] }

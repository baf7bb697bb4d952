-- Which attempts read at a snapshot.
use Rattle.std.specs.Prelude.{ℕ, ◌≡◌, Bool, is_some, refl}
use Rattle.std.proofs.Common.{◌∙◌, ap}
use Rattle.base_types.specs.declared.id.AttemptId.{AttemptId}
use Rattle.daos_model.specs.Attempts.{snapshot_of}
use Rattle.daos_model.specs.Transactions.{command_of}
use Rattle.world_base.specs.Events.{Rules}

-- an attempt reads at a snapshot, whose epoch was issued to another
abbrev pub is_at_snapshot : Rules → AttemptId → Bool
is_at_snapshot r x = is_some (snapshot_of r.script x)

-- so do all attempts of a command, or none does
pub at-same : (r : Rules) (x y : AttemptId) → x.client ≡ y.client → x.command ≡ y.command → is_at_snapshot r x ≡ is_at_snapshot r y
unfolding command_of
at-same r x y client command = ap (λ n. is_at_snapshot r (made n x.command y.attempt)) client ∙ ap (λ n. is_at_snapshot r (made y.client n y.attempt)) command
  where
    made : ℕ → ℕ → ℕ → AttemptId
    made n k a = record { client = n; command = k; attempt = a }

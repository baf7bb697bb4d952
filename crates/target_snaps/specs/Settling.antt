-- What is decided is settled, attempt by attempt.
use Rattle.std.specs.Prelude.{List, [], Option, Result, Ok, Err}
use Rattle.base_types.specs.declared.id.AttemptId.{AttemptId}
use Rattle.daos_model.specs.declared.durable.Durable.{Durable}
use Rattle.vos_store.specs.Calls.{State}
use Rattle.vos_store.specs.declared.refusal.Stopped.{Stopped}
use Rattle.world_base.specs.Idle.{IdleNext}
use Rattle.world_base.specs.Turns.{CutShort, Reached}
use Rattle.target_parts.specs.Parts.{Now, kept, left_by}

-- each of the decided attempts was settled, as in idle work, or that was cut
abbrev pub SettlesOrCut : List AttemptId → Durable → State → Option Durable → State → (Durable → Type 0) → Result (Unit {0}) Stopped → Type 0
SettlesOrCut xs d h new k finds (Ok u) = Now new k (λ l. Reached IdleNext xs (kept d h) [] l)
SettlesOrCut xs d h new k finds (Err e) = CutShort IdleNext xs (kept d h) (left_by k finds)

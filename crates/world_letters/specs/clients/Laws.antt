-- What holds of every turn of a client, whatever it hears.
use Rattle.std.specs.Prelude.{◌≡◌, ◌<◌, ◌++◌, true, List, None}
use Rattle.base_types.specs.declared.report.Attempt.{Attempt}
use Rattle.base_messages.specs.declared.message.Message.{Message}
use Rattle.daos_model.specs.Attempts.{tries}
use Rattle.daos_model.specs.Order.{AreInTurn}
use Rattle.daos_model.specs.Transactions.{numbered}
use Rattle.world_base.specs.declared.client.ClientPlan.{ClientPlan}
use Rattle.world_base.specs.declared.client.ClientState.{ClientState}
use Rattle.world_base.specs.declared.did.Did.{Did}
use Rattle.world_base.specs.ClientTurns.{HearTurn, NextTurn, heard, is_done, moved}
use Rattle.world_letters.specs.clients.AnswerLaws.{KeepsAnswers, Tells}
use Rattle.world_letters.specs.clients.Answered.{IsFitHere}
use Rattle.world_letters.specs.clients.Standing.{HasTold}

-- a client's attempts go on in turn, whatever it hears
abbrev pub TurnsTellInTurn : Type 0
TurnsTellInTurn = (p : ClientPlan) (c d : ClientState) (attempts : List Attempt) (did : Did) → 0 < p.attempts → HasTold p c attempts → NextTurn p c did d → HasTold p d (attempts ++ tries did.lines)

abbrev pub HearingTellsInTurn : Type 0
HearingTellsInTurn = (p : ClientPlan) (c d : ClientState) (attempts : List Attempt) (m : Message) (did : Did) → 0 < p.attempts → HasTold p c attempts → HearTurn p c m did d → HasTold p d (attempts ++ tries did.lines)

-- its attempts end as they were answered, where what it hears is fit to what it asked
abbrev pub MovesEndAsAnswered : Type 0
MovesEndAsAnswered = (p : ClientPlan) (c : ClientState) (attempts : List Attempt) → 0 < p.attempts → Tells p c attempts → KeepsAnswers p attempts (moved p c)

abbrev pub HearingEndsAsAnswered : Type 0
HearingEndsAsAnswered = (p : ClientPlan) (c : ClientState) (attempts : List Attempt) (m : Message) → Tells p c attempts → IsFitHere p c m c.present → KeepsAnswers p attempts (heard p c m)

-- a client that is done has told of all its commands
abbrev pub DoneClientsToldAll : Type 0
DoneClientsToldAll = (p : ClientPlan) (c : ClientState) (attempts : List Attempt) → is_done p c ≡ true → c.present ≡ None → HasTold p c attempts → AreInTurn p.attempts p.number 0 (numbered p.commands) attempts

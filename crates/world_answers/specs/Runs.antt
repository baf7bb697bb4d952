-- At each moment of a run of a script in form answers have form, where at each what targets keep lies on paths with keys.
use Rattle.std.specs.Prelude.{ℕ, ◌≡◌, [], slice_get, Some, None}
use Rattle.base_types.specs.Scripts.{IsInForm}
use Rattle.daos_model.specs.Attempts.{tries}
use Rattle.world_base.specs.declared.client.ClientState.{ClientState}
use Rattle.world_base.specs.declared.target.TargetState.{TargetState}
use Rattle.world_base.specs.declared.world.World.{World}
use Rattle.world_base.specs.Events.{Rules}
use Rattle.world_base.specs.Stops.{Begins, Goes, WorldRun}
use Rattle.world_answers.specs.Events.{all-events-keep_answers_in_form, answers-begin_in_form}
use Rattle.world_answers.specs.Forms.{AnswersInForm, AsksAreInForm, TargetsHaveKeys}
use Rattle.world_answers.specs.Requests.{all-events-keep_asks_in_form, asks-are_reads, asks-begin_in_form}

-- nothing is in flight, nothing waits, no client is at an attempt, and no line tells of one
pub record IsUnasked (w : World) : Type 0 where
  pub messages : w.messages ≡ []
  pub parked : (t : ℕ) (s : TargetState) → slice_get w.targets t ≡ Some s → s.memory.member.parked ≡ []
  pub clients : (n : ℕ) (c : ClientState) → slice_get w.clients n ≡ Some c → c.present ≡ None
  pub untold : tries w.lines ≡ []

-- From there answers have form, and reads that are asked have, at each moment, where what targets keep lies on paths with keys at each moment of runs
-- from there.
abbrev pub AllRunsAnswerInForm : Type 0
AllRunsAnswerInForm =
    (r : Rules) (w v : World) → IsInForm r.script.targets r.script → IsUnasked w → ((u : World) → WorldRun r w u → TargetsHaveKeys u) → WorldRun r w v → AnswersInForm v × AsksAreInForm v

pub all-runs-answer_in_form : AllRunsAnswerInForm
all-runs-answer_in_form r w v script B keys Begins = (answers-begin_in_form w B.messages B.clients B.untold, asks-begin_in_form w B.messages B.parked)
all-runs-answer_in_form r w v script B keys (Goes u x run e) =
    let k = all-runs-answer_in_form r w u script B keys run in
    (all-events-keep_answers_in_form r u v script (asks-are_reads u k.1) (keys u run) k.0 e, all-events-keep_asks_in_form r u v script k.1 e)

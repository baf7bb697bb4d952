-- What targets can hear at each moment of any run.
use Rattle.std.specs.Prelude.{ℕ, ◌≡◌, slice_get, Contains, Some}
use Rattle.std.proofs.Common.{subst}
use Rattle.model_laws.specs.Members.{Has}
use Rattle.daos_model.specs.Opening.{Opening}
use Rattle.world_base.specs.declared.letter.Letter.{Letter}
use Rattle.world_base.specs.declared.target.Life.TheVariants.{Running}
use Rattle.world_base.specs.declared.target.TargetState.{TargetState}
use Rattle.world_base.specs.declared.world.World.{World}
use Rattle.world_base.specs.Events.{Rules}
use Rattle.world_base.specs.Letters.{target}
use Rattle.world_base.specs.Stops.{Begins, Goes, WorldRun}
use Rattle.world_legal.specs.world_standing.hearable.Sent.{AreSentSo}
use Rattle.world_upheld.specs.upheld.Begins.{AreRulesInForm, RunBeginsWell}
use Rattle.world_upheld.specs.upheld.Containers.{runs-know_declared}
use Rattle.world_upheld.specs.upheld.Runs.{runs-have_grounds}
use Rattle.world_upheld.specs.reasons.Runs.{runs-are_accounted}
use Rattle.world_legal.specs.reasons.Accounted.{stored_over}
use Rattle.world_upheld.specs.hearing.Across.{GoAcross, all-events-go_across}
use Rattle.world_upheld.specs.hearing.Hearable.{CanHearLetter, all-letters_can_be_heard}
use Rattle.world_upheld.specs.hearing.Sent.{all-events-keep_sent}

-- ---- the statements

-- Resets tell of targets, and trackers go to clients, at each moment of any run.
abbrev pub AllRunsSendSo : Type 0
AllRunsSendSo = (r : Rules) (o : Opening) (w v : World) → AreRulesInForm r → RunBeginsWell r o w → WorldRun r w v → AreSentSo r.script.targets v

-- What is asked for freezes and prunes, and what is answered, goes from one target to another.
abbrev pub RunsGoAcross : Type 0
RunsGoAcross = (r : Rules) (o : Opening) (w v : World) → AreRulesInForm r → RunBeginsWell r o w → WorldRun r w v → GoAcross r.script.targets v

-- Each letter in flight to a running target can be heard there.
abbrev pub RunsCanHearAll : Type 0
RunsCanHearAll =
    (r : Rules) (o : Opening) (w v : World) (l : Letter) (t : ℕ) (s : TargetState) → AreRulesInForm r → RunBeginsWell r o w → WorldRun r w v → Contains v.messages l → l.to ≡ target t → slice_get v.targets t ≡ Some s
    → s.life ≡ Running → CanHearLetter r t s.durable l

-- ---- the proofs

pub all-runs-send_so : AllRunsSendSo
all-runs-send_so r o w v A B Begins = record { targets = B.targets; letters = λ l i. absurd (subst (Has l) B.messages i) }
all-runs-send_so r o w v A B (Goes u x run e) =
    let k = runs-have_grounds r o w u A B run in
    all-events-keep_sent r r.script.targets u v k.1.endings e (all-runs-send_so r o w u A B run)

pub runs-go_across : RunsGoAcross
runs-go_across r o w v A B Begins = record { letters = λ l i. absurd (subst (Has l) B.messages i); asked = λ l i. absurd (subst (Has l) B.asked i) }
runs-go_across r o w v A B (Goes u x run e) =
    let k = runs-have_grounds r o w u A B run in
    all-events-go_across r r.script.targets u v (all-runs-send_so r o w u A B run).targets k.1.endings e (runs-go_across r o w u A B run)

pub runs-can_hear_all : RunsCanHearAll
runs-can_hear_all r o w v l t s A B run among to here runs =
    let k = runs-are_accounted r o w v A B run in
    all-letters_can_be_heard r o k.0 (stored_over r run) v l t s A.some_target k.1 (all-runs-send_so r o w v A B run) (runs-go_across r o w v A B run)
    (runs-know_declared r o w v B run t s here) among to here runs

-- What a safe run gives: letters can be heard, lines are in order, and the report is in form; and where it has ended it is over.
use Rattle.std.specs.Prelude.{ℕ, ◌≤◌, ◌⊎◌}
use Rattle.std.proofs.Common.{inl, inr, arith}
use Rattle.base_messages.specs.declared.actor.ActorId.{ActorId}
use Rattle.base_messages.specs.declared.message.Message.{Message}
use Rattle.base_messages.specs.declared.message.Message.TheVariants as message
use Rattle.daos_model.specs.declared.durable.Durable.{Durable}
use Rattle.world_base.specs.Events.{Rules}
use Rattle.world_upheld.specs.below.Readers.{lines-begin_in_turn, lines-end_well}
use Rattle.world_upheld.specs.below.Standing.{CanHearOn}
use Rattle.world_letters.specs.lines.LastLines.{lines-in-turn}
use Rattle.world_upheld.specs.hearing.Hearable.{IsMakingHeard, all-heard_in_form, all-letters_can_be_heard}
use Rattle.world_upheld.specs.upheld.Runs.{runs-have_grounds}
use Rattle.world_closing.specs.asked.Over.{IsAllOver}
use Rattle.world_closing.specs.asked.Runs.{ended-all_over}
use Rattle.world_closing.specs.forming.Runs.{report-form}
use Rattle.world_closing.specs.safety.Safe.{AllRunsEndSafely, SafeLeasesCover, SafeLettersCanBeHeard, SafeLinesAreInOrder, SafeOutcomesShow, SafeReportsHaveForm, SenderFits}

-- what can be heard has a sender that fits
sender-fits : (r : Rules) (t : ℕ) (d : Durable) (from to : ActorId) (m : Message) → r.script.targets ≤ 64 → CanHearOn r t d m ⊎ IsMakingHeard r.script.targets d from to m → SenderFits from m
sender-fits r t d from to (message.Held x refusal) few (inl (inl k)) = absurd k
sender-fits r t d from to (message.Held x refusal) few (inl (inr k)) = absurd k
sender-fits r t d from to (message.Held x refusal) few (inr k) = let low = k.form.within in omega (arith, few, low)
sender-fits r t d from to m few k = tt

pub safe-letters_can_be_heard : SafeLettersCanBeHeard
safe-letters_can_be_heard r o h stored w A k l t s among to here runs =
    let can = all-letters_can_be_heard r o h stored w l t s A.some_target k.explanations.reasons.accounted k.sent k.across (k.enlisted t s here) among to here runs in
    record { form = all-heard_in_form r t s.durable l A.few_targets can; sender = sender-fits r t s.durable l.from l.to l.message A.few_targets can; can = can }

pub safe-lines_are_in_order : SafeLinesAreInOrder
safe-lines_are_in_order r o h stored w A k =
    let lines = k.explanations.reasons.accounted.grounds.lines in
    record { in_turn = lines-begin_in_turn r w A.some_attempt lines; ends = lines-end_well r w lines; kinds = k.fitting.lines }

pub safe-reports_have_form : SafeReportsHaveForm
safe-reports_have_form g h stored v A k keyed small = report-form g stored h v A k.explanations k.covered small (λ a i. keyed.answers.lines a i)

pub safe-leases_cover : SafeLeasesCover
safe-leases_cover r o h stored w k = k.covered

pub safe-outcomes_show : SafeOutcomesShow
safe-outcomes_show r o h stored w k = k.explanations.causes

pub all-runs-end_safely : AllRunsEndSafely
all-runs-end_safely r o w v A B run ended =
    let k : IsAllOver r v = ended-all_over r o w v A B run ended in
    record { over = k; in_turn = lines-in-turn r v (runs-have_grounds r o w v A B run).1.lines k.over.done k.over.clients }

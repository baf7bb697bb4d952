-- Attempts that lines tell of ended as they were answered.
use Rattle.std.specs.Prelude.{◌≡◌, ◌≢◌, true, is_some, List, [], ◌∷◌, map, slice_get, Option, Some, None, refl, ℕ}
use Rattle.std.proofs.Common.{sym, ◌∙◌, ap, subst}
use Rattle.base_types.specs.declared.epoch.Epoch.{Epoch}
use Rattle.base_types.specs.declared.operation.MinorWrite.{MinorWrite}
use Rattle.base_types.specs.declared.operation.Op.{Op}
use Rattle.base_types.specs.declared.outcome.Outcome.{Outcome}
use Rattle.base_types.specs.declared.outcome.Outcome.TheVariants as outcome
use Rattle.base_types.specs.declared.report.Attempt.{Attempt}
use Rattle.model_laws.specs.DecidedLaws.{has-all}
use Rattle.model_laws.specs.Members.{Has, has-filter}
use Rattle.model_laws.specs.TargetLaws.{same_number}
use Rattle.daos_model.specs.Accesses.{minor_writes}
use Rattle.daos_model.specs.Attempts.{is_of_client, tries, tries_of}
use Rattle.daos_model.specs.Conditions.{EndsRight}
use Rattle.daos_model.specs.Transactions.{attempt_ops, read_numbers}
use Rattle.world_standing.specs.world_commit.attempts.History.{History}
use Rattle.world_base.specs.declared.client.ClientState.{ClientState}
use Rattle.world_base.specs.declared.world.World.{World}
use Rattle.world_base.specs.Events.{Rules, client_plan}
use Rattle.world_standing.specs.world_letters.clients.Answered.{EndsAsAnswered, EndsWell, IsAnsweredWhole}
use Rattle.world_standing.specs.world_contents.gots.Gots.{AreServed, IsLineServed}
use Rattle.world_standing.specs.world_contents.gots.StepGots.{ops-of-attempt}
use Rattle.world_standing.specs.world_contents.gots.ToldLaws.{nothing-told}
use Rattle.world_standing.specs.world_letters.lines.LastLines.{lines-answered}
use Rattle.world_standing.specs.world_letters.lines.Lines.{Lines}
use Rattle.world_standing.specs.world_causes.outcomes.Outcomes.{HasWrites}
use Rattle.base_types.specs.declared.operation.Act.{Act}
use Rattle.base_types.specs.declared.operation.Act.TheVariants.{Change, Fetch}

-- operations of which none writes and none reads are none
pub no-ops : (n m : ℕ) (ops : List Op) → minor_writes n ops ≡ [] → read_numbers m ops ≡ [] → ops ≡ []
unfolding minor_writes read_numbers
no-ops n m [] writes reads = refl
no-ops n m (op ∷ ops) writes reads = by op.act refl
  where
    by : (act : Act) → op.act ≡ act → op ∷ ops ≡ []
    by (Fetch r) e = let no : ⊥ = cc (reads, e) in absurd no
    by (Change w) e = let no : ⊥ = cc (writes, e) in absurd no

-- ---- conditions

-- an attempt of the lines ended as it was answered
pub ended-well : (r : Rules) (w : World) (a : Attempt) → Lines r w → Has a (tries w.lines) → EndsWell (attempt_ops r.script a.id) a a.outcome
ended-well r w a k i = by (slice_get w.clients a.id.client) refl
  where
    mine : Has a (tries_of a.id.client w.lines)
    mine = has-filter (is_of_client a.id.client) (tries w.lines) a i (same_number a.id.client)

    by : (o : Option ClientState) → slice_get w.clients a.id.client ≡ o → EndsWell (attempt_ops r.script a.id) a a.outcome
    by None e = absurd (subst (Has a) (k.nobody a.id.client e) mine)
    by (Some c) e =
        subst (λ ops. EndsWell ops a a.outcome) (ops-of-attempt r a.id)
        (has-all (EndsAsAnswered (client_plan r a.id.client)) (tries_of a.id.client w.lines) a (lines-answered r w a.id.client c k e) mine)

-- an attempt that was answered something has an epoch, and so has one whose writes are committed
pub whole-issued : (r : Rules) (h : History) (a : Attempt) → IsLineServed r h a → (HasWrites r a.id → (e : Epoch) × (a.epoch ≡ Some e)) → attempt_ops r.script a.id ≢ [] → IsAnsweredWhole (attempt_ops r.script a.id) a
    → is_some a.epoch ≡ true
whole-issued r h a served written some whole = by a.epoch refl
  where
    by : (o : Option Epoch) → a.epoch ≡ o → is_some a.epoch ≡ true
    by (Some e) at = ap is_some at
    by None at = absurd (unissued (minor_writes 0 (attempt_ops r.script a.id)) refl)
      where
        told : (a.gots ≡ []) × (a.conds ≡ [])
        told = nothing-told h a.id r.script.targets (attempt_ops r.script a.id) a (subst (λ known. AreServed h a.id r.script.targets (attempt_ops r.script a.id) known a.gots a.conds) at served)

        unissued : (ws : List MinorWrite) → minor_writes 0 (attempt_ops r.script a.id) ≡ ws → ⊥
        unissued [] none = some (no-ops 0 0 (attempt_ops r.script a.id) none (sym whole.answered ∙ ap (map (λ got. got.0)) told.0))
        unissued (m ∷ ms) is = let e = written (λ none. let no : ⊥ = cc in no) in let both : None ≡ Some e.0 = sym at ∙ e.1 in let no : ⊥ = cc in no

pub ends-right : (ops : List Op) (a : Attempt) (how : Outcome) → (how ≡ outcome.Committed → IsAnsweredWhole ops a → is_some a.epoch ≡ true) → EndsWell ops a how → EndsRight ops a how
ends-right ops a outcome.Committed issued k = record { issued = issued refl k; asked = k.asked; answered = k.answered; hold = k.hold }
ends-right ops a (outcome.CondFailed op) issued k = k
ends-right ops a (outcome.Restart cause) issued k = k
ends-right ops a (outcome.NoSpace target need free) issued k = k
ends-right ops a outcome.EpochsSpent issued k = k
ends-right ops a outcome.NoSnapshot issued k = k
ends-right ops a (outcome.Unknown target) issued k = k

-- A committed attempt tells of its conditions and its answers in the order of operations.
use Rattle.std.proofs.Common.{◌≡◌, List, sym, subst}
use Rattle.base_types.specs.declared.operation.Op.{Op}
use Rattle.base_types.specs.declared.outcome.Outcome.{Outcome}
use Rattle.base_types.specs.declared.outcome.Outcome.TheVariants as outcome
use Rattle.base_types.specs.declared.report.Attempt.{Attempt}
use Rattle.base_types.specs.declared.script.Script.{Script}
use Rattle.daos_model.specs.Conditions.{EndsRight, IsWhole}
use Rattle.report_reader.specs.Law.{RiseFrom}
use Rattle.report_round_trip.specs.Laws.{IsToldInOrder, IsToldWell}
use Rattle.report_round_trip.specs.Rising.{conditions-rise, reads-rise}

whole-in-order : (ops : List Op) (a : Attempt) → IsWhole ops a → IsToldInOrder a
whole-in-order ops a k = record { conds = subst (RiseFrom 0) (sym k.asked) (conditions-rise 0 ops); gots = subst (RiseFrom 0) (sym k.answered) (reads-rise 0 ops) }

pub in-order : (s : Script) (ops : List Op) (a : Attempt) (how : Outcome) → a.outcome ≡ how → EndsRight ops a how → IsToldWell s a → IsToldInOrder a
in-order s ops a outcome.Committed is ends k = whole-in-order ops a ends
in-order s ops a (outcome.CondFailed op) is ends k = k.in_order (λ e. let no : ⊥ = cc in no)
in-order s ops a (outcome.Restart reason) is ends k = k.in_order (λ e. let no : ⊥ = cc in no)
in-order s ops a (outcome.NoSpace target need free) is ends k = k.in_order (λ e. let no : ⊥ = cc in no)
in-order s ops a outcome.EpochsSpent is ends k = k.in_order (λ e. let no : ⊥ = cc in no)
in-order s ops a outcome.NoSnapshot is ends k = k.in_order (λ e. let no : ⊥ = cc in no)
in-order s ops a (outcome.Unknown target) is ends k = k.in_order (λ e. let no : ⊥ = cc in no)

-- In a legal report it is told as unknown what became of an attempt only where a target of it was given up.
use Rattle.std.specs.Prelude.{ℕ, ◌≡◌, false, List, [], ◌∷◌, Option, Some, None, refl}
use Rattle.std.proofs.Common.{inl, inr, sym, ◌∙◌, subst}
use Rattle.base_types.specs.declared.outcome.Outcome.{Outcome}
use Rattle.base_types.specs.declared.outcome.Outcome.TheVariants as outcome
use Rattle.base_types.specs.declared.report.Attempt.{Attempt}
use Rattle.base_types.specs.declared.report.Line.{Line}
use Rattle.base_types.specs.declared.report.Line.TheVariants as line
use Rattle.model_laws.specs.DecidedLaws.{all-from_has}
use Rattle.model_laws.specs.Members.{Has, contains-from_has, has-from_contains, has-left, has-right}
use Rattle.model_reports.specs.Lines.{line-of}
use Rattle.daos_model.specs.Attempts.{is_unknown, tries}
use Rattle.daos_model.specs.CausesShown.{IsGone, ShowsWhy}
use Rattle.daos_model.specs.Stops.{down_targets, given_up, least, least_with}
use Rattle.run_laws.specs.reports.Reports.{NoneUnknownWithoutGivenUp, UnknownIsOfGivenUp}

-- a target that a line tells was given up is among those
pub down-among : (ls : List Line) (t : ℕ) → Has (line.Down t) ls → Has t (down_targets ls)
down-among [] t i = absurd i
down-among (l ∷ ls) t (inl same) = has-left (given_up l) (down_targets ls) t (subst (λ m. Has t (given_up m)) same (inl refl))
down-among (l ∷ ls) t (inr i) = has-right (given_up l) (down_targets ls) t (down-among ls t i)

pub unknown-is-of-given-up : UnknownIsOfGivenUp
unknown-is-of-given-up g o resolved q h a t i how =
    let z = line-of q.lines a (has-from_contains (tries q.lines) a i) in
    let gone : IsGone g.script z.before a t = subst (ShowsWhy g q.lines z.before a) how (h.causes z.before a z.after z.among) in
    (gone.target, down-among q.lines t (subst (Has (line.Down t)) (sym z.among) (has-left z.before (line.Try a ∷ z.after) (line.Down t) (has-from_contains z.before (line.Down t) gone.down))))

-- where none is the least there is none
none-least : (ns : List ℕ) (n : ℕ) → least ns ≡ None → Has n ns → ⊥
none-least [] n none i = i
none-least (m ∷ ns) n none i = by (least ns) none
  where
    by : (o : Option ℕ) → least_with m o ≡ None → ⊥
    by None is = let no : ⊥ = cc in no
    by (Some k) is = let no : ⊥ = cc in no

pub none-unknown : NoneUnknownWithoutGivenUp
none-unknown g o resolved q h up = all-from_has (λ a. is_unknown a.outcome ≡ false) (tries q.lines) (λ a i. by a i a.outcome refl)
  where
    none : least (down_targets q.lines) ≡ None
    none = sym h.outcomes.stops.down ∙ up

    by : (a : Attempt) → Has a (tries q.lines) → (how : Outcome) → a.outcome ≡ how → is_unknown how ≡ false
    by a i (outcome.Unknown t) how = absurd (none-least (down_targets q.lines) t none (unknown-is-of-given-up g o resolved q h a t (contains-from_has (tries q.lines) a i) how).1)
    by a i outcome.Committed how = refl
    by a i (outcome.CondFailed op) how = refl
    by a i (outcome.Restart why) how = refl
    by a i (outcome.NoSpace t need free) how = refl
    by a i outcome.EpochsSpent how = refl
    by a i outcome.NoSnapshot how = refl

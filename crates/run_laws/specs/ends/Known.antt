-- Where it is known what became of each attempt, it doesn't matter which attempts are taken as resolved.
use Rattle.std.specs.Prelude.{◌≡◌, ◌++◌, Bool, false, All, List, [], ◌∷◌, None, refl, if◌then◌else◌}
use Rattle.std.proofs.Common.{◌∙◌, ap, subst}
use Rattle.std.proofs.lemmas.List.Elements.{All-head, All-tail}
use Rattle.base_types.specs.declared.id.AttemptId.{AttemptId}
use Rattle.base_types.specs.declared.outcome.Outcome.{Outcome}
use Rattle.base_types.specs.declared.outcome.Outcome.TheVariants as outcome
use Rattle.base_types.specs.declared.report.Attempt.{Attempt}
use Rattle.base_types.specs.declared.report.Line.{Line}
use Rattle.base_types.specs.declared.report.Report.{Report}
use Rattle.base_types.specs.declared.script.Script.{Script}
use Rattle.daos_model.specs.Attempts.{is_unknown, tries}
use Rattle.daos_model.specs.Headline.{Headline}
use Rattle.daos_model.specs.Opening.{Given, Outside}
use Rattle.daos_model.specs.ReadsLegal.{ReadsLegal}
use Rattle.daos_model.specs.TookEffect.{all_taken, taken_at, taken_by, took, took_effect}
use Rattle.daos_model.specs.Transactions.{attempt_ops, writes_of}
use Rattle.run_laws.specs.reports.Unknown.{none-unknown}

-- an attempt of which it is known what became of it took effect or didn't
same-effect : (one other : Bool) (o : Outcome) → is_unknown o ≡ false → took_effect one o ≡ took_effect other o
same-effect one other outcome.Committed known = refl
same-effect one other (outcome.CondFailed op) known = refl
same-effect one other (outcome.Restart cause) known = refl
same-effect one other (outcome.NoSpace target need free) known = refl
same-effect one other outcome.EpochsSpent known = refl
same-effect one other outcome.NoSnapshot known = refl
same-effect one other (outcome.Unknown target) known = let no : ⊥ = cc in absurd no

module _ (s : Script) (one other : AttemptId → Bool) where
  same-taken : (a : Attempt) → is_unknown a.outcome ≡ false → taken_by s one a ≡ taken_by s other a
  same-taken a known = ap (λ b. if b then taken_at a.epoch (writes_of (attempt_ops s a.id)) else []) (same-effect (one a.id) (other a.id) a.outcome known)

  all-same : (xs : List Attempt) → All (λ a. is_unknown a.outcome ≡ false) xs → all_taken s one xs ≡ all_taken s other xs
  all-same [] known = refl
  all-same (a ∷ xs) known =
      ap (λ ts. ts ++ all_taken s one xs) (same-taken a (All-head (λ b. is_unknown b.outcome ≡ false) a xs known)) ∙ ap (λ ts. taken_by s other a ++ ts) (all-same xs (All-tail (λ b. is_unknown b.outcome ≡ false) a xs known))

  same-took : (lines : List Line) → All (λ a. is_unknown a.outcome ≡ false) (tries lines) → took s one lines ≡ took s other lines
  unfolding took
  same-took lines known = all-same (tries lines) known

-- a legal report that names no target as given up is legal whichever attempts are taken as resolved
pub legal-by-any : (g : Given) (o : Outside) (one other : AttemptId → Bool) (q : Report) → q.down ≡ None → Headline g o one q → Headline g o other q
legal-by-any g o one other q none k = record {
  reads = subst (λ ts. ReadsLegal g.script g.opening.stand ts q) (same-took g.script one other q.lines (none-unknown g o one q k none)) k.reads;
  outcomes = k.outcomes;
  causes = k.causes;
}

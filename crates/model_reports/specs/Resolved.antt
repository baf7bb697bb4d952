-- Where it is known what became of each attempt, a report is legal whichever attempts are taken as resolved.
use Rattle.std.specs.Prelude.{◌≡◌, ◌++◌, Bool, false, All, List, ◌∷◌, refl, if◌then◌else◌, []}
use Rattle.std.proofs.Common.{◌∙◌, ap, subst}
use Rattle.std.proofs.lemmas.List.Elements.{All-head, All-tail}
use Rattle.base_types.specs.declared.id.AttemptId.{AttemptId}
use Rattle.base_types.specs.declared.outcome.Outcome.{Outcome}
use Rattle.base_types.specs.declared.outcome.Outcome.TheVariants as outcome
use Rattle.base_types.specs.declared.report.Attempt.{Attempt}
use Rattle.base_types.specs.declared.report.Line.{Line}
use Rattle.base_types.specs.declared.report.Report.{Report}
use Rattle.base_types.specs.declared.script.Script.{Script}
use Rattle.daos_model.specs.Attempts.{is_unknown, tries}
use Rattle.daos_model.specs.Headline.{Headline}
use Rattle.daos_model.specs.Opening.{Given, Outside}
use Rattle.daos_model.specs.ReadsLegal.{ReadsLegal}
use Rattle.daos_model.specs.TookEffect.{all_taken, taken_at, taken_by, took, took_effect}
use Rattle.daos_model.specs.Transactions.{attempt_ops, writes_of}

-- it is known of each of these what became of it
abbrev pub AreKnown : List Attempt → Type 0
AreKnown attempts = All (λ a. is_unknown a.outcome ≡ false) attempts

effect-known : (how : Outcome) (found also : Bool) → is_unknown how ≡ false → took_effect found how ≡ took_effect also how
effect-known outcome.Committed found also known = refl
effect-known (outcome.CondFailed op) found also known = refl
effect-known (outcome.Restart why) found also known = refl
effect-known (outcome.NoSpace target need free) found also known = refl
effect-known outcome.EpochsSpent found also known = refl
effect-known outcome.NoSnapshot found also known = refl
effect-known (outcome.Unknown target) found also known = let no : ⊥ = cc in absurd no

all-known : (s : Script) (found also : AttemptId → Bool) (attempts : List Attempt) → AreKnown attempts → all_taken s found attempts ≡ all_taken s also attempts
all-known s found also [] known = refl
all-known s found also (a ∷ attempts) known =
    ap (λ b. (if b then taken_at a.epoch (writes_of (attempt_ops s a.id)) else []) ++ all_taken s found attempts)
    (effect-known a.outcome (found a.id) (also a.id) (All-head (λ b. is_unknown b.outcome ≡ false) a attempts known))
    ∙ ap (λ ts. taken_by s also a ++ ts) (all-known s found also attempts (All-tail (λ b. is_unknown b.outcome ≡ false) a attempts known))

-- what took effect is the same then
took-known : (s : Script) (found also : AttemptId → Bool) (lines : List Line) → AreKnown (tries lines) → took s found lines ≡ took s also lines
unfolding took
took-known s found also lines known = all-known s found also (tries lines) known

pub legal-known : (g : Given) (o : Outside) (found also : AttemptId → Bool) (q : Report) → AreKnown (tries q.lines) → Headline g o found q → Headline g o also q
legal-known g o found also q known h = record {
  reads = subst (λ took. ReadsLegal g.script g.opening.stand took q) (took-known g.script found also q.lines known) h.reads;
  outcomes = h.outcomes;
  causes = h.causes;
}

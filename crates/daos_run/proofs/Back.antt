-- A run's attempts are told well, and so its report is read back of its text.
use Rattle.std.specs.Prelude.{ℕ, ◌≡◌, ◌≤◌, ◌<◌, ◌+◌, ◌⊎◌, true, All, List, map, slice_get, take, Option, Some, None, is_some, refl}
use Rattle.std.proofs.Common.{inl, inr, sym, ◌∙◌, ap, subst, arith}
use Rattle.base_types.specs.declared.answer.Answer.{Answer}
use Rattle.base_types.specs.declared.job.Job.{Job}
use Rattle.base_types.specs.declared.operation.Act.{Act}
use Rattle.base_types.specs.declared.operation.Act.TheVariants.{Change, Fetch}
use Rattle.base_types.specs.declared.operation.Op.{Op}
use Rattle.base_types.specs.declared.operation.Read.{Read}
use Rattle.base_types.specs.declared.report.Attempt.{Attempt}
use Rattle.base_types.specs.declared.report.Report.{Report}
use Rattle.base_types.specs.declared.script.ObjDecl.{ObjDecl}
use Rattle.base_types.specs.declared.script.Script.{Script}
use Rattle.base_types.specs.Scripts.{IsActInForm, IsInForm, IsOpInForm, IsReadInForm}
use Rattle.daos_model.specs.declared.durable.Durable.{Durable}
use Rattle.daos_model.specs.Attempts.{tries}
use Rattle.daos_model.specs.Conditions.{condition_numbers}
use Rattle.daos_model.specs.Family.{resolved}
use Rattle.daos_model.specs.Opening.{Opening}
use Rattle.daos_model.specs.Transactions.{attempt_ops, read_at, read_of, read_of_op}
use Rattle.daos_run.specs.Back.{IsReadBack}
use Rattle.daos_run.specs.Comes.{ComesFrom}
use Rattle.daos_run.proofs.Lone.{all-found, silent, silent-fits}
use Rattle.model_laws.specs.DecidedLaws.{all-from_has, has-all}
use Rattle.model_laws.specs.Lists.{all-at}
use Rattle.model_laws.specs.Members.{Has}
use Rattle.report_reader.specs.Law.{RiseFrom}
use Rattle.report_round_trip.specs.Laws.{AnswersOfKindAreSpelled, IsSpelled, IsToldInOrder, IsToldWell, LegalReportsAreForScripts, LegalReportsAreReadBack}
use Rattle.report_round_trip.specs.Rising.{conditions-rise, reads-rise}
use Rattle.report_round_trip.specs.Values.{AllTellBytes, HasByteAnswers, HasBytes}
use Rattle.run_targets.specs.Below.{AllTellInOrder, AreAlike, AreFindable, CameInOrder, TellsInOrder}
use Rattle.run_targets.specs.Ends.{IsKeyed, given_by}
use Rattle.vos_store.specs.Calls.{State}
use Rattle.run_starts.specs.world_contents.gots.FormLaws.{ops-form}
use Rattle.world_letters.specs.kinds.Fitting.{AllAnswersFit, AnswersFit, IsOfItsRead}

-- what stands in the order of operations rises
rises : (ops : List Op) (a : Attempt) → CameInOrder ops a → IsToldInOrder a
rises ops a k = record { conds = by k.1.conditions; gots = subst (RiseFrom 0) (sym k.1.answers) (reads-rise 0 (take k.0 ops)) }
  where
    by : (map (λ told. told.0) a.conds ≡ condition_numbers 0 (take k.0 ops)) ⊎ (map (λ told. told.0) a.conds ≡ condition_numbers 0 (take (k.0 + 1) ops)) → RiseFrom 0 (map (λ told. told.0) a.conds)
    by (inl is) = subst (RiseFrom 0) (sym is) (conditions-rise 0 (take k.0 ops))
    by (inr is) = subst (RiseFrom 0) (sym is) (conditions-rise 0 (take (k.0 + 1) ops))

-- a read among operations in form is in form
read-form : (objs : List ObjDecl) (ops : List Op) (n : ℕ) (r : Read) → All (IsOpInForm objs) ops → read_at ops n ≡ Some r → IsReadInForm objs r
read-form objs ops n r forms is = by (slice_get ops n) refl
  where
    fetched : (act : Act) → read_of act ≡ Some r → IsActInForm objs act → IsReadInForm objs r
    fetched (Fetch q) e form = let same : q ≡ r = cc in subst (IsReadInForm objs) same form
    fetched (Change w) e form = let no : ⊥ = cc in absurd no

    by : (o : Option Op) → slice_get ops n ≡ o → IsReadInForm objs r
    by None e = let none : None ≡ Some r = ap read_of_op (sym e) ∙ is in let no : ⊥ = cc in absurd no
    by (Some op) e = fetched op.act (ap read_of_op (sym e) ∙ is) (all-at (IsOpInForm objs) ops n op forms e).act

module _ (targets : ℕ) (s : Script) (q : Report) (F : IsInForm targets s) (spelled : AnswersOfKindAreSpelled) (kinds : AllAnswersFit s q.lines) (order : AllTellInOrder s q.lines) (bytes : AllTellBytes q.lines) where
  got-spelled : (a : Attempt) → Has a (tries q.lines) → (got : ℕ × Answer) → Has got a.gots → IsSpelled s a.id got
  got-spelled a i got j =
      let k = has-all (IsOfItsRead (attempt_ops s a.id)) a.gots got (has-all (AnswersFit s) (tries q.lines) a kinds i).answers j in
      spelled s a.id got k.0 k.1 (read-form s.objs (attempt_ops s a.id) got.0 k.0 (ops-form targets s a.id F) k.1) k.2
      (has-all (λ (g : ℕ × Answer). HasBytes g.1) a.gots got (has-all HasByteAnswers (tries q.lines) a bytes i) j)

  told-well : All (IsToldWell s) (tries q.lines)
  told-well = all-from_has (IsToldWell s) (tries q.lines) (λ a i. record {
    in_order = λ refused. rises (attempt_ops s a.id) a (has-all (TellsInOrder s) (tries q.lines) a order i);
    answers = all-from_has (IsSpelled s a.id) a.gots (got-spelled a i);
  })

some-targets : (m n : ℕ) → m ≡ n → 1 ≤ n → 0 < m
some-targets m n same some = omega (arith, same, some)

-- over stores that tell what they keep
pub is-read-back : {S : Type 0} (durable : S → Option Durable) (state : S → State) (may : S → Durable → Type 0) (s : Script) (j : Job) (opening : Opening) (old ys : List S) (q : Report) → IsInForm j.targets s → 1 ≤ j.targets
    → ComesFrom durable state may (given_by s j opening) old ys q → AreFindable durable may → AreAlike durable → (x : S) → is_some (durable x) ≡ true → IsKeyed (given_by s j opening)
    → AnswersOfKindAreSpelled → LegalReportsAreForScripts → LegalReportsAreReadBack → AllAnswersFit s q.lines → AllTellInOrder s q.lines → AllTellBytes q.lines → IsReadBack s q
is-read-back durable state may s j opening old ys q F some K findable alike x told keyed spelled for-script back kinds order bytes =
    let g = given_by s j opening in
    let k = all-found durable may findable alike x told ys in
    let legal = (K.comes.stand k.0 silent k.1 (silent-fits state K.opened ys)).told in
    let well = told-well j.targets s q F spelled kinds order bytes in
    let few = some-targets s.targets j.targets F.read_for some in
    record {
      for_script = for-script g silent (resolved k.0) q few (K.comes.form keyed) legal well;
      back = back g silent (resolved k.0) q few (K.comes.form keyed) legal well;
    }

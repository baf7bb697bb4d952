-- What an outcome shows it goes on to show, and what holds of lists where one element changed.
use Rattle.std.specs.Prelude.{ℕ, ◌≡◌, ◌≤◌, ◌⊎◌, ◌++◌, true, ◌||◌, List, [], ◌∷◌, slice_get, Option, Some, None, refl}
use Rattle.std.proofs.Common.{sym, ◌∙◌, ap, subst, inl, inr, arith}
use Rattle.std.proofs.Math.Bool.{or-true}
use Rattle.std.proofs.Math.ListN.{set}
use Rattle.std.proofs.lemmas.Bool.{cases_eq}
use Rattle.std.proofs.lemmas.List.Elements.{Contains-append_left}
use Rattle.base_types.specs.declared.id.AttemptId.{AttemptId}
use Rattle.base_types.specs.declared.operation.Act.{Act}
use Rattle.base_types.specs.declared.operation.Act.TheVariants as act
use Rattle.base_types.specs.declared.operation.Cond.{Cond}
use Rattle.base_types.specs.declared.operation.Cond.TheVariants.{Free, Must, MustNot}
use Rattle.base_types.specs.declared.operation.Op.{Op}
use Rattle.base_types.specs.declared.operation.Read.{Read}
use Rattle.base_types.specs.declared.path.Path.{Path}
use Rattle.base_types.specs.declared.script.Script.{Script}
use Rattle.base_types.specs.Operations.{act_path, read_path}
use Rattle.daos_model.specs.Accesses.{is_condition, is_fetch, op_path}
use Rattle.daos_model.specs.CausesShown.{AsksAt}
use Rattle.world_base.specs.declared.client.Stage.{Stage}
use Rattle.world_base.specs.declared.client.Stage.TheVariants as stage
use Rattle.world_base.specs.ClientTurns.{act_read, condition_read, question}
use Rattle.world_base.specs.Events.{Rules}
use Rattle.world_base.specs.StepLaws.{set-here, set-there}
use Rattle.world_causes.specs.causes.Causes.{Dated, MeetsOther, Stored, blocks_of_stored}

-- ---- one element among others

-- what is so of the one that changed, and was so of all, is so of all
pub at-set : {T : Type 0} (xs : List T) (n : ℕ) (x y : T) (P : ℕ → T → Type 0) → slice_get xs n ≡ Some x → P n y → ((m : ℕ) (z : T) → slice_get xs m ≡ Some z → P m z)
    → (m : ℕ) (z : T) → slice_get (set xs n y) m ≡ Some z → P m z
at-set xs n x y P here own others m z at = by (cases_eq m n)
  where
    by : (m ≡ n) ⊎ ((m ≡ n) → ⊥) → P m z
    by (inl same) =
        let q : Some y ≡ Some z = sym (set-here xs n x y here) ∙ ap (λ k. slice_get (set xs n y) k) (sym same) ∙ at in
        let is : y ≡ z = cc in
        subst (λ k. P k z) (sym same) (subst (P n) is own)
    by (inr off) = others m z (sym (set-there xs n m y off) ∙ at)

-- ---- what is shown stays shown

pub blocks-more : (s : Script) (t : ℕ) (new stored : Stored) → blocks_of_stored s t stored ≤ blocks_of_stored s t (new ++ stored)
blocks-more s t [] stored = omega arith
blocks-more s t (i ∷ new) stored = let k : blocks_of_stored s t stored ≤ blocks_of_stored s t (new ++ stored) = blocks-more s t new stored in omega (arith, k)

pub meets-more : (r : Rules) (issued more : Dated) (x by : AttemptId) → MeetsOther r issued x by → MeetsOther r (issued ++ more) x by
meets-more r issued more x by k = record {
  own = k.own;
  its = Contains-append_left issued more (x, k.own) k.its;
  other = k.other;
  others = Contains-append_left issued more (by, k.other) k.others;
  below = k.below;
  overlap = k.overlap;
}

-- ---- what an operation asks

-- an operation that asks this reads there, or asks about it
pub question-asks : (s : Stage) (op : Op) (q : Read) → question s op ≡ Some q → AsksAt (read_path q) op
question-asks stage.Skip op q h = let no : ⊥ = cc in absurd no
question-asks stage.Cond op q h = by op.cond refl h
  where
    asked : (c : Cond) → op.cond ≡ c → is_condition c ≡ true → (is_fetch op.act || is_condition op.cond) ≡ true
    asked c e k = ap (λ d. is_fetch op.act || is_condition d) e ∙ ap (λ b. is_fetch op.act || b) k ∙ or-true (is_fetch op.act)

    by : (c : Cond) → op.cond ≡ c → condition_read op c ≡ Some q → AsksAt (read_path q) op
    by Free e k = let no : ⊥ = cc in absurd no
    by Must e k = (asked Must e refl, ap (λ z. path_or op z) k)
      where
        path_or : Op → Option Read → Path
        path_or d None = op_path d
        path_or d (Some z) = read_path z
    by MustNot e k = (asked MustNot e refl, ap (λ z. path_or op z) k)
      where
        path_or : Op → Option Read → Path
        path_or d None = op_path d
        path_or d (Some z) = read_path z
question-asks stage.Act op q h = by op.act refl h
  where
    by : (a : Act) → op.act ≡ a → act_read a ≡ Some q → AsksAt (read_path q) op
    by (act.Fetch z) e k =
        let same : z ≡ q = cc in
        (ap (λ b. is_fetch b || is_condition op.cond) e, ap act_path e ∙ ap read_path same)
    by (act.Change w) e k = let no : ⊥ = cc in absurd no

use Rattle.std.proofs.Common.{◌∙◌, ap, arith, rules, sym, subst}
use Rattle.std.specs.Prelude.{IsErrOf}
use Rattle.pmem_pages.specs.Owners.{Changed, Holds}
use Rattle.pmem_tree_base.specs.declared.refusal.TreeNo.TheVariants.{TooMuch}
use Rattle.vos_path.specs.Objects.{objects_owner, objects_versions}
use Rattle.vos_settle.specs.Costs.{Lacks, Spends, for_one}
use Rattle.vos_object.specs.Each.{PathsAreSmall, each_cost, removed_blocks}
use Rattle.vos_object.specs.Settling.{removed_each}
use Rattle.vos_object.proofs.Found.{gone_those, pruned_those}
use Rattle.vos_object.proofs.object.Objects.prune.Goals as goal

pub returns-clause-pruned : goal.returns-clause-pruned
returns-clause-pruned g c told x held at =
    let vs = objects_versions x in
    let same = c.list_names.ensures.kept told in
    let names = c.deref.ensures.value ∙ c.in_ok-names.ensures.listed told x held at in
    let t = c.in_ok-remove_each.ensures.removed told x (subst (λ b. Holds objects_owner b x) (sym same) held) at in
    record {
      now = t.now;
      changed = subst (λ b. Changed objects_owner b x (g.P.Pages.blocks c.remove_each.new.pages) t.now) same t.changed;
      root_is = t.root_is;
      shown_is = t.versions ∙ (ap (λ ns. removed_each ns vs) names ∙ pruned_those c.args.path.now c.args.gone.now vs);
    }

pub returns-clause-staged : goal.returns-clause-staged
returns-clause-staged g c told x held at d small =
    let vs = objects_versions x in
    let names = c.deref.ensures.value ∙ c.in_ok-names.ensures.listed told x held at in
    let spent = c.in_ok-remove_each.ensures.staged told x (subst (λ b. Holds objects_owner b x) (sym (c.list_names.ensures.kept told)) held) at d (subst (λ ns. PathsAreSmall d ns x) (sym names) small) in
    subst (λ ns. Spends (each_cost ns (for_one d) 1) (g.P.Pages.budget c.args.pages.now) (g.P.Pages.budget c.remove_each.new.pages)) names
    (subst (λ b. Spends (each_cost c.deref.result.now (for_one d) 1) b (g.P.Pages.budget c.remove_each.new.pages)) c.list_names.ensures.budget spent)

pub returns-clause-gives : goal.returns-clause-gives
returns-clause-gives g c told x held at =
    let vs = objects_versions x in
    let names = c.deref.ensures.value ∙ c.in_ok-names.ensures.listed told x held at in
    let freed = ap (λ ns. removed_blocks ns vs) names ∙ gone_those c.args.path.now c.args.gone.now vs in
    let gave = c.in_ok-remove_each.ensures.gives told x (subst (λ b. Holds objects_owner b x) (sym (c.list_names.ensures.kept told)) held) at in
    let left = ap (λ b. b.free) c.list_names.ensures.budget in
    omega (arith, freed, gave, left)

pub returns-in_err-remove_each-clause-too_much : goal.returns-in_err-remove_each-clause-too_much
returns-in_err-remove_each-clause-too_much g c few told x held at d small =
    let vs = objects_versions x in
    let names = c.deref.ensures.value ∙ c.in_ok-names.ensures.listed told x held at in
    let is : IsErrOf c.remove_each.result TooMuch = search rules in
    let lacks = c.remove_each.ensures.too_much is told x (subst (λ b. Holds objects_owner b x) (sym (c.list_names.ensures.kept told)) held) at d (subst (λ ns. PathsAreSmall d ns x) (sym names) small) in
    subst (λ ns. Lacks (each_cost ns (for_one d) 1) d (g.P.Pages.budget c.args.pages.now)) names (subst (λ b. Lacks (each_cost c.deref.result.now (for_one d) 1) d b) c.list_names.ensures.budget lacks)

pub returns-in_err-remove_each-clause-few_left : goal.returns-in_err-remove_each-clause-few_left
returns-in_err-remove_each-clause-few_left g c few told x held at d small =
    let vs = objects_versions x in
    let names = c.deref.ensures.value ∙ c.in_ok-names.ensures.listed told x held at in
    let is : IsErrOf c.remove_each.result TooMuch = search rules in
    c.remove_each.ensures.few_left is told x (subst (λ b. Holds objects_owner b x) (sym (c.list_names.ensures.kept told)) held) at d (subst (λ ns. PathsAreSmall d ns x) (sym names) small)

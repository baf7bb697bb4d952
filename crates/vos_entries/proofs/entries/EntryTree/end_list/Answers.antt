use Rattle.std.proofs.Common.{rules, ◌≡◌, ◌∙◌, ◌+◌, None, Some, Err, IsErrOf, sym, ap, subst, arith, length}
use Rattle.std.specs.List.{find}
use Rattle.std.specs.Option.{option_map}
use Rattle.pmem_pages.specs.Blocks.{Budget, IsSpent}
use Rattle.pmem_pages.specs.Owners.{Changed, maybe}
use Rattle.vos_versions.specs.pmem_tree.Changes.{Puts}
use Rattle.vos_versions.specs.pmem_tree_base.declared.refusal.TreeNo.TheVariants.{TooMuch}
use Rattle.vos_values.specs.Keys.{attempt_key}
use Rattle.vos_values.specs.Values.{entry_value}
use Rattle.vos_versions.specs.vos_levels.Levels.{things}
use Rattle.vos_versions.proofs.vos_levels.Calls.{on_ok_then}
use Rattle.vos_versions.specs.vos_chain.Chains.{chain_owner}
use Rattle.vos_versions.specs.vos_chain.Made.{HasFewer}
use Rattle.vos_versions.proofs.Marks.{err_other}
use Rattle.vos_entries.specs.Entries.{IsEndedAt, blocks_in_list, is_at, list_of, mark_of}
use Rattle.vos_entries.specs.Lists.{FewerThan, IsListAt}
use Rattle.vos_entries.proofs.Changing.{entry_ended, few_list, few_then, spent_none, spent_then, key_there, list_there, none_ended, none_freed, one_freed, said, same_still, tree_left}
use Rattle.vos_entries.proofs.entries.EntryTree.end_list.Goals as goal

pub give_list-requires : goal.give_list-requires
give_list-requires g c = record {
  list = λ told.
      let x = c.requires.here told in
      let m = g.P.Pages.blocks c.args.pages.now in
      let says = said c.args.attempt c.find.ensures.attempt m x.0 x.1.0 c.in-Some.mark (sym c.in-Some.is ∙ c.in_ok-mark.ensures.found told x.0 x.1.0 x.1.1.0) in
      (list_of says.thing, subst (λ b. IsListAt b c.in-Some.mark.chain (list_of says.thing)) (sym (c.find.ensures.kept told)) (list_there c.args.attempt c.find.ensures.attempt m x.0 x.1.0 c.in-Some.mark says));
}

pub put_mark-requires-clause-tree : goal.put_mark-requires-clause-tree
put_mark-requires-clause-tree g c told =
    let x = c.requires.here told in
    let m = g.P.Pages.blocks c.args.pages.now in
    let same = c.find.ensures.kept told in
    let mark = c.in-Some.mark in
    let says = said c.args.attempt c.find.ensures.attempt m x.0 x.1.0 mark (sym c.in-Some.is ∙ c.in_ok-mark.ensures.found told x.0 x.1.0 x.1.1.0) in
    let there = subst (λ b. IsListAt b mark.chain (list_of says.thing)) (sym same) (list_there c.args.attempt c.find.ensures.attempt m x.0 x.1.0 mark says) in
    let given = subst (λ b. Changed (maybe chain_owner) b (Some (list_of says.thing)) (g.P.Pages.blocks c.give_list.new.pages) None) same (c.in_ok-give_list.ensures.given told (list_of says.thing) there) in
    (x.0.0, (tree_left c.args.attempt c.find.ensures.attempt m x.0 x.1.0 (g.P.Pages.blocks c.give_list.new.pages) mark says c.args.self.now.tree.root x.1.1.0 given, key_there c.args.attempt c.find.ensures.attempt m x.0 x.1.0 mark says))

pub returns-in_default-clause-ended : goal.returns-in_default-clause-ended
returns-in_default-clause-ended g c told x held at =
    let m = g.P.Pages.blocks c.args.pages.now in
    let none : None ≡ option_map mark_of (find (is_at c.args.attempt) (things x)) = let f = c.in_ok-mark.ensures.found told x held at in let n = c.in_default.is in cc in
    same_still c.args.attempt c.find.ensures.attempt m x held (g.P.Pages.blocks c.find.new.pages) c.args.self.now.tree.root (IsEndedAt c.args.commits c.args.attempt) (c.find.ensures.kept told) at (none_ended c.args.attempt c.find.ensures.attempt m x held c.args.commits none)

pub returns-clause-ended : goal.returns-clause-ended
returns-clause-ended g c = on_ok_then c.put_mark.result (λ h told x held at.
    let m = g.P.Pages.blocks c.args.pages.now in
    let n = g.P.Pages.blocks c.give_list.new.pages in
    let o = g.P.Pages.blocks c.put_mark.new.pages in
    let same = c.find.ensures.kept told in
    let mark = c.in-Some.mark in
    let says = said c.args.attempt c.find.ensures.attempt m x held mark (sym c.in-Some.is ∙ c.in_ok-mark.ensures.found told x held at) in
    let there = subst (λ b. IsListAt b mark.chain (list_of says.thing)) (sym same) (list_there c.args.attempt c.find.ensures.attempt m x held mark says) in
    let given = subst (λ b. Changed (maybe chain_owner) b (Some (list_of says.thing)) n None) same (c.in_ok-give_list.ensures.given told (list_of says.thing) there) in
    let tree = tree_left c.args.attempt c.find.ensures.attempt m x held n mark says c.args.self.now.tree.root at given in
    entry_ended c.args.attempt c.find.ensures.attempt m x held c.args.commits n o c.put_mark.new.self.tree.root mark says given
    (λ e key. subst (λ v. Puts n 7 x.0 (attempt_key c.args.attempt) (entry_value v) o c.put_mark.new.self.tree.root) c.ended_mark.ensures (h told x.0 tree e key))) c.put_mark.ensures.put

pub returns-in_default-clause-staged : goal.returns-in_default-clause-staged
returns-in_default-clause-staged g c told x held at = spent_none _ _ _ _ c.find.ensures.budget

pub returns-in_default-clause-free : goal.returns-in_default-clause-free
returns-in_default-clause-free g c told x held at =
    let none : None ≡ option_map mark_of (find (is_at c.args.attempt) (things x)) = let f = c.in_ok-mark.ensures.found told x held at in let n = c.in_default.is in cc in
    let e = ap (λ (z : Budget). z.free) c.find.ensures.budget in
    omega (arith, e, none_freed c.args.attempt c.find.ensures.attempt (g.P.Pages.blocks c.args.pages.now) x held blocks_in_list none)

pub returns-in_err-give_list-clause-too_much : goal.returns-in_err-give_list-clause-too_much
returns-in_err-give_list-clause-too_much g c h told x held at =
    let m = g.P.Pages.blocks c.args.pages.now in
    let mark = c.in-Some.mark in
    let says = said c.args.attempt c.find.ensures.attempt m x held mark (sym c.in-Some.is ∙ c.in_ok-mark.ensures.found told x held at) in
    let there = subst (λ b. IsListAt b mark.chain (list_of says.thing)) (sym (c.find.ensures.kept told)) (list_there c.args.attempt c.find.ensures.attempt m x held mark says) in
    let size = one_freed c.args.attempt c.find.ensures.attempt m x held blocks_in_list mark says in
    let is : c.from_residual-in_err-give_list.result ≡ Err c.in_err-give_list.field-0.0 = search rules in
    let few = c.in_err-give_list.ensures.too_much (err_other c.in_err-give_list.field-0.0 TooMuch (subst (λ z. IsErrOf z TooMuch) is h)) told (list_of says.thing) there in
    let few2 = subst (λ b. HasFewer (length says.thing.blocks) (length says.thing.blocks) b) c.find.ensures.budget few in
    subst (λ n. FewerThan n (g.P.Pages.budget c.args.pages.now)) (sym size) (few_list (length says.thing.blocks) (g.P.Pages.budget c.args.pages.now) few2)

pub returns-clause-too_much : goal.returns-clause-too_much
returns-clause-too_much g c h told x held at =
    let m = g.P.Pages.blocks c.args.pages.now in
    let mark = c.in-Some.mark in
    let says = said c.args.attempt c.find.ensures.attempt m x held mark (sym c.in-Some.is ∙ c.in_ok-mark.ensures.found told x held at) in
    let there = subst (λ b. IsListAt b mark.chain (list_of says.thing)) (sym (c.find.ensures.kept told)) (list_there c.args.attempt c.find.ensures.attempt m x held mark says) in
    let size = one_freed c.args.attempt c.find.ensures.attempt m x held blocks_in_list mark says in
    let spent = subst (λ b. IsSpent (length says.thing.blocks) (length says.thing.blocks) b (g.P.Pages.budget c.give_list.new.pages)) c.find.ensures.budget (c.give_list.ensures.staged told (list_of says.thing) there) in
    subst (λ n. FewerThan n (g.P.Pages.budget c.args.pages.now)) (sym size) (few_then (length says.thing.blocks) (g.P.Pages.budget c.args.pages.now) (g.P.Pages.budget c.give_list.new.pages) spent (c.put_mark.ensures.too_much h))

pub returns-clause-staged : goal.returns-clause-staged
returns-clause-staged g c = on_ok_then c.put_mark.result (λ h told x held at.
    let m = g.P.Pages.blocks c.args.pages.now in
    let mark = c.in-Some.mark in
    let says = said c.args.attempt c.find.ensures.attempt m x held mark (sym c.in-Some.is ∙ c.in_ok-mark.ensures.found told x held at) in
    let there = subst (λ b. IsListAt b mark.chain (list_of says.thing)) (sym (c.find.ensures.kept told)) (list_there c.args.attempt c.find.ensures.attempt m x held mark says) in
    let size = one_freed c.args.attempt c.find.ensures.attempt m x held blocks_in_list mark says in
    let spent = subst (λ b. IsSpent (length says.thing.blocks) (length says.thing.blocks) b (g.P.Pages.budget c.give_list.new.pages)) c.find.ensures.budget (c.give_list.ensures.staged told (list_of says.thing) there) in
    subst (λ n. IsSpent (n + 1) (n + 256) (g.P.Pages.budget c.args.pages.now) (g.P.Pages.budget c.put_mark.new.pages)) (sym size) (spent_then (length says.thing.blocks) _ _ _ spent c.put_mark.ensures.staged)) c.put_mark.ensures.put

pub returns-clause-free : goal.returns-clause-free
returns-clause-free g c = on_ok_then c.put_mark.result (λ h told x held at.
    let m = g.P.Pages.blocks c.args.pages.now in
    let mark = c.in-Some.mark in
    let says = said c.args.attempt c.find.ensures.attempt m x held mark (sym c.in-Some.is ∙ c.in_ok-mark.ensures.found told x held at) in
    let there = subst (λ b. IsListAt b mark.chain (list_of says.thing)) (sym (c.find.ensures.kept told)) (list_there c.args.attempt c.find.ensures.attempt m x held mark says) in
    let size = one_freed c.args.attempt c.find.ensures.attempt m x held blocks_in_list mark says in
    let e = ap (λ (z : Budget). z.free) c.find.ensures.budget in
    omega (arith, e, size, c.in_ok-give_list.ensures.free told (list_of says.thing) there, c.put_mark.ensures.free)) c.put_mark.ensures.put

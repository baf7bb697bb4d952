use Rattle.std.proofs.Common.{rules, ℕ, ◌≡◌, ◌∙◌, None, Some, Err, IsErrOf, sym, ap, subst, arith, length}
use Rattle.std.specs.List.{find}
use Rattle.std.specs.Option.{option_map}
use Rattle.base_types.specs.declared.id.AttemptId.{AttemptId}
use Rattle.pmem_pages.specs.declared.node.TreeKey.{TreeKey}
use Rattle.pmem_pages.specs.Blocks.{Blocks, Budget}
use Rattle.pmem_pages.specs.Shape.{Entry as Pair, IsTree, entries, entry_at}
use Rattle.vos_versions.specs.pmem_tree.Calls.{StagesAtMost, TooFew}
use Rattle.vos_versions.specs.pmem_tree.Changes.{Removes}
use Rattle.vos_versions.specs.pmem_tree_base.declared.refusal.TreeNo.TheVariants.{TooMuch}
use Rattle.vos_values.specs.Keys.{attempt_key}
use Rattle.vos_versions.specs.vos_levels.Levels.{things}
use Rattle.vos_versions.proofs.vos_levels.Calls.{on_ok_then}
use Rattle.vos_versions.proofs.Marks.{err_other}
use Rattle.vos_entries.specs.Entries.{Entries, IsGoneAt, blocks_in_list, blocks_of_entry, is_at, list_of, mark_of}
use Rattle.vos_entries.specs.Lists.{FewerToRemove, StagesToRemove}
use Rattle.vos_entries.proofs.Changing.{entry_gone, entry_tree, few_given, few_removed, key_there, list_left, none_freed, none_gone, one_freed, said, same_still, spent_none, stages_given}
use Rattle.vos_entries.proofs.entries.EntryTree.remove.Goals as goal

removes : (m n o : Blocks) (kind root : ℕ) (x : Entries) (a : AttemptId) (key : TreeKey) → kind ≡ 7 → n ≡ m → key ≡ attempt_key a → ((e : Pair) → entry_at key (entries x.0) ≡ Some e → Removes n kind x.0 key e o root) → (e : Pair) → entry_at (attempt_key a) (entries x.0) ≡ Some e → Removes m 7 x.0 (attempt_key a) e o root
removes m n o kind root x a key k same is f e at =
    subst (λ z. Removes m 7 x.0 z e o root) is (subst (λ z. Removes m z x.0 key e o root) k (subst (λ b. Removes b kind x.0 key e o root) same (f e (ap (λ z. entry_at z (entries x.0)) is ∙ at))))

pub remove-requires-clause-tree : goal.remove-requires-clause-tree
remove-requires-clause-tree g c told =
    let r = c.requires.here told in
    let x = r.0 in
    let held = r.1.0 in
    let at = r.1.1.0 in
    let m = g.P.Pages.blocks c.args.pages.now in
    let same = c.find.ensures.kept told in
    let mark = c.in-Some.mark in
    let says = said c.args.attempt c.find.ensures.attempt m x held mark (sym c.in-Some.is ∙ c.in_ok-mark.ensures.found told x held at) in
    let tree = subst (λ b. IsTree b c.args.self.now.tree.kind c.args.self.now.tree.root x.0) (sym same) (entry_tree m c.args.self.now.tree.kind c.args.self.now.tree.root x c.requires.kind held at) in
    let there = key_there c.args.attempt c.find.ensures.attempt m x held mark says in
    (x.0, (tree, (there.0, ap (λ z. entry_at z (entries x.0)) c.key_at-key.ensures.key ∙ there.1)))

pub give_list-requires : goal.give_list-requires
give_list-requires g c = record {
  list = λ told.
      let r = c.requires.here told in
      let x = r.0 in
      let held = r.1.0 in
      let at = r.1.1.0 in
      let m = g.P.Pages.blocks c.args.pages.now in
      let same = c.find.ensures.kept told in
      let mark = c.in-Some.mark in
      let says = said c.args.attempt c.find.ensures.attempt m x held mark (sym c.in-Some.is ∙ c.in_ok-mark.ensures.found told x held at) in
      let tree = subst (λ b. IsTree b c.args.self.now.tree.kind c.args.self.now.tree.root x.0) (sym same) (entry_tree m c.args.self.now.tree.kind c.args.self.now.tree.root x c.requires.kind held at) in (
        list_of says.thing,
        list_left c.args.attempt c.find.ensures.attempt m x held (g.P.Pages.blocks c.remove.new.pages) c.remove.new.self.root mark says
            (removes m (g.P.Pages.blocks c.find.new.pages) (g.P.Pages.blocks c.remove.new.pages) c.args.self.now.tree.kind c.remove.new.self.root x c.args.attempt c.key_at-key.result c.requires.kind same c.key_at-key.ensures.key (c.in_ok-remove.ensures.removed told x.0 tree)),
      );
}

pub returns-in_default-clause-removed : goal.returns-in_default-clause-removed
returns-in_default-clause-removed g c told x held at =
    let m = g.P.Pages.blocks c.args.pages.now in
    let none : None ≡ option_map mark_of (find (is_at c.args.attempt) (things x)) = let f = c.in_ok-mark.ensures.found told x held at in let n = c.in_default.is in cc in
    same_still c.args.attempt c.find.ensures.attempt m x held (g.P.Pages.blocks c.find.new.pages) c.args.self.now.tree.root (IsGoneAt c.args.attempt) (c.find.ensures.kept told) at (none_gone c.args.attempt c.find.ensures.attempt m x held none)

pub returns-in_default-clause-staged : goal.returns-in_default-clause-staged
returns-in_default-clause-staged g c told x held at d few = spent_none _ _ _ _ c.find.ensures.budget

pub returns-in_default-clause-free : goal.returns-in_default-clause-free
returns-in_default-clause-free g c told x held at =
    let none : None ≡ option_map mark_of (find (is_at c.args.attempt) (things x)) = let f = c.in_ok-mark.ensures.found told x held at in let n = c.in_default.is in cc in
    let e = ap (λ (z : Budget). z.free) c.find.ensures.budget in
    omega (arith, e, none_freed c.args.attempt c.find.ensures.attempt (g.P.Pages.blocks c.args.pages.now) x held blocks_of_entry none)

pub returns-clause-removed : goal.returns-clause-removed
returns-clause-removed g c = on_ok_then c.give_list.result (λ h told x held at.
    let m = g.P.Pages.blocks c.args.pages.now in
    let same = c.find.ensures.kept told in
    let mark = c.in-Some.mark in
    let says = said c.args.attempt c.find.ensures.attempt m x held mark (sym c.in-Some.is ∙ c.in_ok-mark.ensures.found told x held at) in
    let tree = subst (λ b. IsTree b c.args.self.now.tree.kind c.args.self.now.tree.root x.0) (sym same) (entry_tree m c.args.self.now.tree.kind c.args.self.now.tree.root x c.requires.kind held at) in
    let n = g.P.Pages.blocks c.remove.new.pages in
    let gone = removes m (g.P.Pages.blocks c.find.new.pages) n c.args.self.now.tree.kind c.remove.new.self.root x c.args.attempt c.key_at-key.result c.requires.kind same c.key_at-key.ensures.key (c.in_ok-remove.ensures.removed told x.0 tree) in
    let there = list_left c.args.attempt c.find.ensures.attempt m x held n c.remove.new.self.root mark says gone in
    entry_gone c.args.attempt c.find.ensures.attempt m x held n (g.P.Pages.blocks c.give_list.new.pages) c.remove.new.self.root mark says gone (h told (list_of says.thing) there)) c.give_list.ensures.given

pub returns-in_err-remove-clause-too_much : goal.returns-in_err-remove-clause-too_much
returns-in_err-remove-clause-too_much g c h told x held at =
    let m = g.P.Pages.blocks c.args.pages.now in
    let same = c.find.ensures.kept told in
    let mark = c.in-Some.mark in
    let says = said c.args.attempt c.find.ensures.attempt m x held mark (sym c.in-Some.is ∙ c.in_ok-mark.ensures.found told x held at) in
    let tree = subst (λ b. IsTree b c.args.self.now.tree.kind c.args.self.now.tree.root x.0) (sym same) (entry_tree m c.args.self.now.tree.kind c.args.self.now.tree.root x c.requires.kind held at) in
    let is : c.from_residual-in_err-remove.result ≡ Err c.in_err-remove.field-0.0 = search rules in
    let there = key_there c.args.attempt c.find.ensures.attempt m x held mark says in
    let few = c.in_err-remove.ensures.too_much (err_other c.in_err-remove.field-0.0 TooMuch (subst (λ z. IsErrOf z TooMuch) is h)) told x.0 tree there.0 (ap (λ z. entry_at z (entries x.0)) c.key_at-key.ensures.key ∙ there.1) in
    few_removed _ x.0 (g.P.Pages.budget c.args.pages.now) (subst (λ b. TooFew x.0 b) c.find.ensures.budget few)

pub returns-clause-too_much : goal.returns-clause-too_much
returns-clause-too_much g c h told x held at =
    let m = g.P.Pages.blocks c.args.pages.now in
    let same = c.find.ensures.kept told in
    let mark = c.in-Some.mark in
    let says = said c.args.attempt c.find.ensures.attempt m x held mark (sym c.in-Some.is ∙ c.in_ok-mark.ensures.found told x held at) in
    let tree = subst (λ b. IsTree b c.args.self.now.tree.kind c.args.self.now.tree.root x.0) (sym same) (entry_tree m c.args.self.now.tree.kind c.args.self.now.tree.root x c.requires.kind held at) in
    let n = g.P.Pages.blocks c.remove.new.pages in
    let gone = removes m (g.P.Pages.blocks c.find.new.pages) n c.args.self.now.tree.kind c.remove.new.self.root x c.args.attempt c.key_at-key.result c.requires.kind same c.key_at-key.ensures.key (c.in_ok-remove.ensures.removed told x.0 tree) in
    let there = list_left c.args.attempt c.find.ensures.attempt m x held n c.remove.new.self.root mark says gone in
    let size = one_freed c.args.attempt c.find.ensures.attempt m x held blocks_in_list mark says in
    let staged = subst (λ b. StagesAtMost 8 16 x.0 b (g.P.Pages.budget c.remove.new.pages)) c.find.ensures.budget (c.in_ok-remove.ensures.staged told x.0 tree) in
    subst (λ k. FewerToRemove k x.0 (g.P.Pages.budget c.args.pages.now)) (sym size) (few_given (length says.thing.blocks) x.0 (g.P.Pages.budget c.args.pages.now) (g.P.Pages.budget c.remove.new.pages) staged (c.give_list.ensures.too_much h told (list_of says.thing) there))

pub returns-clause-staged : goal.returns-clause-staged
returns-clause-staged g c = on_ok_then c.give_list.result (λ h told x held at.
    let m = g.P.Pages.blocks c.args.pages.now in
    let same = c.find.ensures.kept told in
    let mark = c.in-Some.mark in
    let says = said c.args.attempt c.find.ensures.attempt m x held mark (sym c.in-Some.is ∙ c.in_ok-mark.ensures.found told x held at) in
    let tree = subst (λ b. IsTree b c.args.self.now.tree.kind c.args.self.now.tree.root x.0) (sym same) (entry_tree m c.args.self.now.tree.kind c.args.self.now.tree.root x c.requires.kind held at) in
    let n = g.P.Pages.blocks c.remove.new.pages in
    let gone = removes m (g.P.Pages.blocks c.find.new.pages) n c.args.self.now.tree.kind c.remove.new.self.root x c.args.attempt c.key_at-key.result c.requires.kind same c.key_at-key.ensures.key (c.in_ok-remove.ensures.removed told x.0 tree) in
    let there = list_left c.args.attempt c.find.ensures.attempt m x held n c.remove.new.self.root mark says gone in
    let size = one_freed c.args.attempt c.find.ensures.attempt m x held blocks_in_list mark says in
    let staged = subst (λ b. StagesAtMost 8 16 x.0 b (g.P.Pages.budget c.remove.new.pages)) c.find.ensures.budget (c.in_ok-remove.ensures.staged told x.0 tree) in
    subst (λ k. StagesToRemove k x.0 (g.P.Pages.budget c.args.pages.now) (g.P.Pages.budget c.give_list.new.pages)) (sym size) (stages_given (length says.thing.blocks) x.0 _ _ _ staged (c.give_list.ensures.staged told (list_of says.thing) there))) c.give_list.ensures.given

pub returns-clause-free : goal.returns-clause-free
returns-clause-free g c = on_ok_then c.give_list.result (λ h told x held at.
    let m = g.P.Pages.blocks c.args.pages.now in
    let same = c.find.ensures.kept told in
    let mark = c.in-Some.mark in
    let says = said c.args.attempt c.find.ensures.attempt m x held mark (sym c.in-Some.is ∙ c.in_ok-mark.ensures.found told x held at) in
    let tree = subst (λ b. IsTree b c.args.self.now.tree.kind c.args.self.now.tree.root x.0) (sym same) (entry_tree m c.args.self.now.tree.kind c.args.self.now.tree.root x c.requires.kind held at) in
    let n = g.P.Pages.blocks c.remove.new.pages in
    let gone = removes m (g.P.Pages.blocks c.find.new.pages) n c.args.self.now.tree.kind c.remove.new.self.root x c.args.attempt c.key_at-key.result c.requires.kind same c.key_at-key.ensures.key (c.in_ok-remove.ensures.removed told x.0 tree) in
    let there = list_left c.args.attempt c.find.ensures.attempt m x held n c.remove.new.self.root mark says gone in
    let size = one_freed c.args.attempt c.find.ensures.attempt m x held blocks_of_entry mark says in
    let e = ap (λ (z : Budget). z.free) c.find.ensures.budget in
    omega (arith, e, size, c.in_ok-remove.ensures.free told, h told (list_of says.thing) there)) c.give_list.ensures.free

use Rattle.std.proofs.Common.{rules, refl, ◌≡◌, ◌∙◌, ◌*◌, ap, subst, length, Err, IsErrOf}
use Rattle.vos_versions.specs.pmem_tree.Changes.{Inserts}
use Rattle.vos_versions.specs.pmem_tree_base.declared.refusal.TreeNo.TheVariants.{TooMuch}
use Rattle.vos_values.specs.Keys.{attempt_key}
use Rattle.vos_values.specs.Values.{IsEntryMark, entry_value}
use Rattle.vos_versions.proofs.vos_levels.Calls.{on_ok_then}
use Rattle.vos_versions.specs.vos_chain.Made.{chain_blocks}
use Rattle.vos_versions.proofs.Marks.{err_other, stages_for, too_few_first, too_few_then, tree_stays}
use Rattle.vos_entries.specs.Entries.{list_bytes}
use Rattle.vos_entries.proofs.Changing.{entry_added, entry_tree, missing_at}
use Rattle.vos_entries.proofs.entries.EntryTree.add.Goals as goal

pub insert-requires-clause-tree : goal.insert-requires-clause-tree
insert-requires-clause-tree g c told =
    let s = c.requires.here told in
    let m = g.P.Pages.blocks c.args.pages.now in
    let tree = entry_tree m c.args.self.now.tree.kind c.args.self.now.tree.root s.0 c.requires.kind s.1.0 s.1.1.0 in
    (s.0.0, (tree_stays m (g.P.Pages.blocks c.write_list.new.pages) c.args.self.now.tree.kind c.args.self.now.tree.root s.0.0 (list_bytes c.args.nodes.now) c.in_ok-chain.chain (c.in_ok-chain.ensures.made told) tree, missing_at c.args.entry.attempt c.key_at-key.result m s.0 c.key_at-key.ensures.attempt c.key_at-key.ensures.key s.1.0 s.1.1.1))

pub returns-in_err-chain-clause-too_much : goal.returns-in_err-chain-clause-too_much
returns-in_err-chain-clause-too_much g c h told x held at none =
    let is : c.from_residual.result ≡ Err c.in_err-chain.field-0.0 = search rules in
    too_few_first (chain_blocks (4 * length c.args.nodes.now)) x.0 (g.P.Pages.budget c.args.pages.now) (c.in_err-chain.ensures.too_much (err_other c.in_err-chain.field-0.0 TooMuch (subst (λ z. IsErrOf z TooMuch) is h)))

pub returns-clause-added : goal.returns-clause-added
returns-clause-added g c = on_ok_then c.insert.result (λ h told x held at none.
    let m = g.P.Pages.blocks c.args.pages.now in
    let n = g.P.Pages.blocks c.write_list.new.pages in
    let o = g.P.Pages.blocks c.insert.new.pages in
    let made = c.in_ok-chain.ensures.made told in
    let tree = entry_tree m c.args.self.now.tree.kind c.args.self.now.tree.root x c.requires.kind held at in
    let i = h told x.0 (tree_stays m n c.args.self.now.tree.kind c.args.self.now.tree.root x.0 (list_bytes c.args.nodes.now) c.in_ok-chain.chain made tree) (missing_at c.args.entry.attempt c.key_at-key.result m x c.key_at-key.ensures.attempt c.key_at-key.ensures.key held none) in
    let i1 = subst (λ k. Inserts n k x.0 c.key_at-key.result c.entry_value-value.result o c.insert.new.self.root) c.requires.kind i in
    let i2 = subst (λ k. Inserts n 7 x.0 k c.entry_value-value.result o c.insert.new.self.root) c.key_at-key.ensures.key i1 in
    let value = c.entry_value-value.ensures.value ∙ ap entry_value c.mark_with.ensures.mark in
    let i3 = subst (λ v. Inserts n 7 x.0 (attempt_key c.args.entry.attempt) v o c.insert.new.self.root) value i2 in
    entry_added c.args.entry.attempt c.key_at-key.ensures.attempt m x held n o c.insert.new.self.root c.in_ok-chain.chain c.args.entry c.args.nodes.now refl c.requires.listed none (subst IsEntryMark c.mark_with.ensures.mark c.mark_with.ensures.is) made i3) c.insert.ensures.inserted

pub returns-clause-too_much : goal.returns-clause-too_much
returns-clause-too_much g c h told x held at none =
    let m = g.P.Pages.blocks c.args.pages.now in
    let tree = entry_tree m c.args.self.now.tree.kind c.args.self.now.tree.root x c.requires.kind held at in
    let still = tree_stays m (g.P.Pages.blocks c.write_list.new.pages) c.args.self.now.tree.kind c.args.self.now.tree.root x.0 (list_bytes c.args.nodes.now) c.in_ok-chain.chain (c.in_ok-chain.ensures.made told) tree in
    too_few_then (chain_blocks (4 * length c.args.nodes.now)) x.0 _ _ c.write_list.ensures.staged (c.insert.ensures.too_much h told x.0 still (missing_at c.args.entry.attempt c.key_at-key.result m x c.key_at-key.ensures.attempt c.key_at-key.ensures.key held none))

pub returns-clause-steps : goal.returns-clause-steps
returns-clause-steps g c told x held at =
    let m = g.P.Pages.blocks c.args.pages.now in
    let tree = entry_tree m c.args.self.now.tree.kind c.args.self.now.tree.root x c.requires.kind held at in
    c.insert.ensures.steps told x.0 (tree_stays m (g.P.Pages.blocks c.write_list.new.pages) c.args.self.now.tree.kind c.args.self.now.tree.root x.0 (list_bytes c.args.nodes.now) c.in_ok-chain.chain (c.in_ok-chain.ensures.made told) tree)

pub returns-clause-staged : goal.returns-clause-staged
returns-clause-staged g c = on_ok_then c.insert.result (λ h told x held at none.
    let m = g.P.Pages.blocks c.args.pages.now in
    let tree = entry_tree m c.args.self.now.tree.kind c.args.self.now.tree.root x c.requires.kind held at in
    let still = tree_stays m (g.P.Pages.blocks c.write_list.new.pages) c.args.self.now.tree.kind c.args.self.now.tree.root x.0 (list_bytes c.args.nodes.now) c.in_ok-chain.chain (c.in_ok-chain.ensures.made told) tree in
    stages_for (chain_blocks (4 * length c.args.nodes.now)) x.0 _ _ _ c.write_list.ensures.staged (h told x.0 still (missing_at c.args.entry.attempt c.key_at-key.result m x c.key_at-key.ensures.attempt c.key_at-key.ensures.key held none))) c.insert.ensures.staged

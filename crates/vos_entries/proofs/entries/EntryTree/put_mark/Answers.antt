use Rattle.std.proofs.Common.{◌∙◌, sym, ap, subst}
use Rattle.pmem_pages.specs.Shape.{IsTree, entries, entry_at}
use Rattle.vos_versions.specs.pmem_tree.Changes.{Puts}
use Rattle.vos_values.specs.Keys.{attempt_key}
use Rattle.vos_versions.proofs.vos_levels.Calls.{on_ok_then}
use Rattle.vos_entries.proofs.entries.EntryTree.put_mark.Goals as goal

pub put_value-requires-clause-tree : goal.put_value-requires-clause-tree
put_value-requires-clause-tree g c told =
    let s = c.requires.tree told in
    let e = ap (λ k. entry_at k (entries s.0)) c.key_at-key.ensures.key in
    (s.0, (subst (λ k. IsTree (g.P.Pages.blocks c.args.pages.now) k c.args.self.now.tree.root s.0) (sym c.requires.kind) s.1.0, (s.1.1.0, e ∙ s.1.1.1)))

pub returns-clause-put : goal.returns-clause-put
returns-clause-put g c = on_ok_then c.put_value.result (λ h told t tree e at.
    let m = g.P.Pages.blocks c.args.pages.now in
    let o = g.P.Pages.blocks c.put_value.new.pages in
    let put = h told t (subst (λ k. IsTree m k c.args.self.now.tree.root t) (sym c.requires.kind) tree) e (ap (λ k. entry_at k (entries t)) c.key_at-key.ensures.key ∙ at) in
    let one = subst (λ k. Puts m k t c.key_at-key.result c.entry_value-value.result o c.put_value.new.self.root) c.requires.kind put in
    let two = subst (λ k. Puts m 7 t k c.entry_value-value.result o c.put_value.new.self.root) c.key_at-key.ensures.key one in
    subst (λ v. Puts m 7 t (attempt_key c.args.attempt) v o c.put_value.new.self.root) c.entry_value-value.ensures.value two) c.put_value.ensures.put

pub returns-clause-steps : goal.returns-clause-steps
returns-clause-steps g c told t tree = c.put_value.ensures.steps told t (subst (λ k. IsTree (g.P.Pages.blocks c.args.pages.now) k c.args.self.now.tree.root t) (sym c.requires.kind) tree)

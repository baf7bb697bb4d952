use Rattle.std.proofs.Common.{ap, sym, subst, ◌∙◌}
use Rattle.pmem_pages.specs.Shape.{IsTree, entries, entry_at}
use Rattle.vos_moments.proofs.vos_levels.Calls.{on_ok_then}
use Rattle.vos_moments.proofs.vos_levels.Changing.{hung_tree}
use Rattle.vos_ilog.specs.Logs.{log_level, moment_of}
use Rattle.vos_ilog.proofs.Adding.{log_added, missing_at}
use Rattle.vos_ilog.proofs.ilog.Ilog.add.Goals as goal

pub insert-requires-clause-tree : goal.insert-requires-clause-tree
insert-requires-clause-tree g c told =
    let s = c.requires.log told in
    let m = g.P.Pages.blocks c.args.pages.now in
    let tree = hung_tree log_level m c.args.self.now.tree.root s.0 s.1.0 s.1.1.0 in
    let none = missing_at (moment_of c.args.entry) s.0 m c.key_of.ensures.moment s.1.0 s.1.1.1 in
    (s.0.0, (subst (λ k. IsTree m k c.args.self.now.tree.root s.0.0) (sym c.requires.kind) tree, ap (λ k. entry_at k (entries s.0.0)) c.key_of.ensures.key ∙ none))

pub returns-clause-added : goal.returns-clause-added
returns-clause-added g c = on_ok_then c.insert.result (λ h told x held at none.
    let m = g.P.Pages.blocks c.args.pages.now in
    let tree = subst (λ k. IsTree m k c.args.self.now.tree.root x.0) (sym c.requires.kind) (hung_tree log_level m c.args.self.now.tree.root x held at) in
    let missing = ap (λ k. entry_at k (entries x.0)) c.key_of.ensures.key ∙ missing_at (moment_of c.args.entry) x m c.key_of.ensures.moment held none in
    let i = h told x.0 tree missing in
    log_added m (g.P.Pages.blocks c.insert.new.pages) x c.args.entry c.insert.new.self.root c.args.self.now.tree.kind c.key_of.result c.value_of.result c.requires.kind c.key_of.ensures.key c.value_of.ensures.value (record { moment = c.key_of.ensures.moment; by = c.value_of.ensures.by }) held none i) c.insert.ensures.inserted

pub returns-clause-too_much : goal.returns-clause-too_much
returns-clause-too_much g c h told x held at none =
    let m = g.P.Pages.blocks c.args.pages.now in
    let tree = subst (λ k. IsTree m k c.args.self.now.tree.root x.0) (sym c.requires.kind) (hung_tree log_level m c.args.self.now.tree.root x held at) in
    let missing = ap (λ k. entry_at k (entries x.0)) c.key_of.ensures.key ∙ missing_at (moment_of c.args.entry) x m c.key_of.ensures.moment held none in
    c.insert.ensures.too_much h told x.0 tree missing

pub returns-clause-few_left : goal.returns-clause-few_left
returns-clause-few_left g c h told x held at none =
    let m = g.P.Pages.blocks c.args.pages.now in
    let tree = subst (λ k. IsTree m k c.args.self.now.tree.root x.0) (sym c.requires.kind) (hung_tree log_level m c.args.self.now.tree.root x held at) in
    let missing = ap (λ k. entry_at k (entries x.0)) c.key_of.ensures.key ∙ missing_at (moment_of c.args.entry) x m c.key_of.ensures.moment held none in
    c.insert.ensures.few_left h told x.0 tree missing

pub returns-clause-steps : goal.returns-clause-steps
returns-clause-steps g c told x held at =
    let m = g.P.Pages.blocks c.args.pages.now in
    c.insert.ensures.steps told x.0 (subst (λ k. IsTree m k c.args.self.now.tree.root x.0) (sym c.requires.kind) (hung_tree log_level m c.args.self.now.tree.root x held at))

pub returns-clause-staged : goal.returns-clause-staged
returns-clause-staged g c = on_ok_then c.insert.result (λ h told x held at none.
    let m = g.P.Pages.blocks c.args.pages.now in
    let tree = subst (λ k. IsTree m k c.args.self.now.tree.root x.0) (sym c.requires.kind) (hung_tree log_level m c.args.self.now.tree.root x held at) in
    let missing = ap (λ k. entry_at k (entries x.0)) c.key_of.ensures.key ∙ missing_at (moment_of c.args.entry) x m c.key_of.ensures.moment held none in
    h told x.0 tree missing) c.insert.ensures.staged

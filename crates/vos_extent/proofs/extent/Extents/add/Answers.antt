use Rattle.std.proofs.Common.{inr}
use Rattle.vos_moments.proofs.vos_levels.Calls.{on_ok_then}
use Rattle.vos_extent.proofs.Changing.{missing_at, extent_added}
use Rattle.vos_extent.proofs.Places.{extent_tree}
use Rattle.vos_extent.proofs.extent.Extents.add.Goals as goal

pub add-requires-clause-kind : goal.add-requires-clause-kind
add-requires-clause-kind g c = inr c.requires.kind

pub add-requires-clause-tree : goal.add-requires-clause-tree
add-requires-clause-tree g c told =
    let s = c.requires.here told in
    let m = g.P.Pages.blocks c.args.pages.now in
    (s.0.0, (extent_tree m c.args.self.now.tree.kind c.args.self.now.tree.root s.0 c.requires.kind s.1.0 s.1.1.0, missing_at c.args.at c.key_at-key.result m s.0 c.key_at-key.ensures.place c.key_at-key.ensures.key s.1.0 s.1.1.1))

pub returns-clause-added : goal.returns-clause-added
returns-clause-added g c = on_ok_then c.add.result (λ h told x held at none.
    let m = g.P.Pages.blocks c.args.pages.now in
    extent_added m (g.P.Pages.blocks c.add.new.pages) x c.args.at c.args.by c.args.bytes.now c.args.self.now.tree.kind c.add.new.tree.root c.key_at-key.result
    c.requires.kind c.key_at-key.ensures.place c.add.ensures.by c.requires.some c.requires.most c.key_at-key.ensures.key held none
    (h told x.0 (extent_tree m c.args.self.now.tree.kind c.args.self.now.tree.root x c.requires.kind held at) (missing_at c.args.at c.key_at-key.result m x c.key_at-key.ensures.place c.key_at-key.ensures.key held none))) c.add.ensures.added

pub returns-clause-too_much : goal.returns-clause-too_much
returns-clause-too_much g c h told x held at none =
    let m = g.P.Pages.blocks c.args.pages.now in
    c.add.ensures.too_much h told x.0 (extent_tree m c.args.self.now.tree.kind c.args.self.now.tree.root x c.requires.kind held at) (missing_at c.args.at c.key_at-key.result m x c.key_at-key.ensures.place c.key_at-key.ensures.key held none)

pub returns-clause-few_left : goal.returns-clause-few_left
returns-clause-few_left g c h told x held at none =
    let m = g.P.Pages.blocks c.args.pages.now in
    c.add.ensures.few_left h told x.0 (extent_tree m c.args.self.now.tree.kind c.args.self.now.tree.root x c.requires.kind held at) (missing_at c.args.at c.key_at-key.result m x c.key_at-key.ensures.place c.key_at-key.ensures.key held none)

pub returns-clause-steps : goal.returns-clause-steps
returns-clause-steps g c told x held at = c.add.ensures.steps told x.0 (extent_tree (g.P.Pages.blocks c.args.pages.now) c.args.self.now.tree.kind c.args.self.now.tree.root x c.requires.kind held at)

pub returns-clause-staged : goal.returns-clause-staged
returns-clause-staged g c = on_ok_then c.add.result (λ h told x held at none.
    let m = g.P.Pages.blocks c.args.pages.now in
    h told x.0 (extent_tree m c.args.self.now.tree.kind c.args.self.now.tree.root x c.requires.kind held at) (missing_at c.args.at c.key_at-key.result m x c.key_at-key.ensures.place c.key_at-key.ensures.key held none)) c.add.ensures.staged

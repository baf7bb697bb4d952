use Rattle.std.proofs.Common.{arith, inr}
use Rattle.vos_moments.proofs.vos_levels.Calls.{on_ok_then}
use Rattle.vos_extent.proofs.Changing.{bytes_there, extent_changed, extent_freed}
use Rattle.vos_extent.proofs.Places.{extent_tree}
use Rattle.vos_extent.proofs.extent.Extents.change_at.Goals as goal

pub change_at-requires-clause-kind : goal.change_at-requires-clause-kind
change_at-requires-clause-kind g c = inr c.requires.kind

pub change_at-requires-clause-tree : goal.change_at-requires-clause-tree
change_at-requires-clause-tree g c told =
    let s = c.requires.here told in
    let m = g.P.Pages.blocks c.args.pages.now in
    (s.0.0, (extent_tree m c.args.self.now.tree.kind c.args.self.now.tree.root s.0 c.requires.kind s.1.0 s.1.1.0, bytes_there m s.0 c.args.at c.key_at-key.result c.key_at-key.ensures.place c.key_at-key.ensures.key s.1.0))

pub returns-clause-changed : goal.returns-clause-changed
returns-clause-changed g c = on_ok_then c.change_at.result (λ h told x held at.
    let m = g.P.Pages.blocks c.args.pages.now in
    extent_changed m (g.P.Pages.blocks c.change_at.new.pages) x c.args.at c.args.change c.args.self.now.tree.kind c.change_at.new.tree.root c.key_at-key.result c.requires.kind c.key_at-key.ensures.place c.key_at-key.ensures.key held
    (h told x.0 (extent_tree m c.args.self.now.tree.kind c.args.self.now.tree.root x c.requires.kind held at))) c.change_at.ensures.changed

pub returns-clause-too_much : goal.returns-clause-too_much
returns-clause-too_much g c h told x held at = c.change_at.ensures.too_much h told x.0 (extent_tree (g.P.Pages.blocks c.args.pages.now) c.args.self.now.tree.kind c.args.self.now.tree.root x c.requires.kind held at)

pub returns-clause-few_left : goal.returns-clause-few_left
returns-clause-few_left g c h told x held at = c.change_at.ensures.few_left h told x.0 (extent_tree (g.P.Pages.blocks c.args.pages.now) c.args.self.now.tree.kind c.args.self.now.tree.root x c.requires.kind held at)

pub returns-clause-steps : goal.returns-clause-steps
returns-clause-steps g c told x held at = c.change_at.ensures.steps told x.0 (extent_tree (g.P.Pages.blocks c.args.pages.now) c.args.self.now.tree.kind c.args.self.now.tree.root x c.requires.kind held at)

pub returns-clause-staged : goal.returns-clause-staged
returns-clause-staged g c = on_ok_then c.change_at.result (λ h told x held at. h told x.0 (extent_tree (g.P.Pages.blocks c.args.pages.now) c.args.self.now.tree.kind c.args.self.now.tree.root x c.requires.kind held at)) c.change_at.ensures.staged

pub returns-clause-free : goal.returns-clause-free
returns-clause-free g c = on_ok_then c.change_at.result (λ h told x held at.
    let m = g.P.Pages.blocks c.args.pages.now in
    let e = extent_freed m x c.args.at c.args.change c.key_at-key.result c.key_at-key.ensures.place c.key_at-key.ensures.key held in
    let f = h told x.0 (extent_tree m c.args.self.now.tree.kind c.args.self.now.tree.root x c.requires.kind held at) in
    omega (arith, e, f)) c.change_at.ensures.free

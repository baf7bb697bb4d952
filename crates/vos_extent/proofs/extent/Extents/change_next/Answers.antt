use Rattle.std.proofs.Common.{◌≡◌, ◌+◌, ◌∙◌, sym, subst}
use Rattle.pmem_pages.specs.Blocks.{Budget, IsSpent}
use Rattle.pmem_pages.specs.Owners.{Holds}
use Rattle.vos_moments.specs.vos_levels.Calls.{Becomes}
use Rattle.vos_moments.specs.vos_levels.Levels.{hung_root}
use Rattle.vos_versions.specs.Marks.{StagesLess}
use Rattle.vos_extent.specs.Extents.{IsChangedAt, extent_owner, extents, freed_at}
use Rattle.vos_extent.proofs.Settling.{next_found, next_is, next_place, none_is, none_place, took_no_next, took_unwanted, took_wanted}
use Rattle.vos_extent.proofs.extent.Extents.change_next.Goals as goal

pub returns-in_default-clause-next : goal.returns-in_default-clause-next
returns-in_default-clause-next g c told x held at =
    let found = next_found (g.P.Pages.blocks c.args.pages.now) x c.args.key.now c.in_ok-placed.field-0 held (c.in_ok-placed.ensures.found told x held at) in
    none_place c.args.key.now x (none_is c.args.key.now x (sym c.in_default.is ∙ found))

pub returns-in_default-clause-took : goal.returns-in_default-clause-took
returns-in_default-clause-took g c told x held at =
    let m = g.P.Pages.blocks c.args.pages.now in
    let p = c.next_over.ensures in
    let found = next_found m x c.args.key.now c.in_ok-placed.field-0 held (c.in_ok-placed.ensures.found told x held at) in
    took_no_next c.args.change c.args.which.now c.args.key.now m x (g.P.Pages.budget c.args.pages.now) (g.P.Pages.blocks c.next_over.new.pages) c.args.self.now.tree.root (g.P.Pages.budget c.next_over.new.pages) held at (p.kept told) p.budget
    (none_is c.args.key.now x (sym c.in_default.is ∙ found))

pub returns-then-not-is_wanted-clause-next : goal.returns-then-not-is_wanted-clause-next
returns-then-not-is_wanted-clause-next g c told x held at =
    let found = next_found (g.P.Pages.blocks c.args.pages.now) x c.args.key.now c.in_ok-placed.field-0 held (c.in_ok-placed.ensures.found told x held at) in
    next_place c.args.key.now x c.in-Some.placed (next_is c.args.key.now x c.in-Some.placed (sym c.in-Some.is ∙ found))

pub returns-then-not-is_wanted-clause-took : goal.returns-then-not-is_wanted-clause-took
returns-then-not-is_wanted-clause-took g c told x held at =
    let m = g.P.Pages.blocks c.args.pages.now in
    let p = c.next_over.ensures in
    let found = next_found m x c.args.key.now c.in_ok-placed.field-0 held (c.in_ok-placed.ensures.found told x held at) in
    took_unwanted c.args.change c.args.which.now c.args.key.now m x (g.P.Pages.budget c.args.pages.now) (g.P.Pages.blocks c.next_over.new.pages) c.args.self.now.tree.root (g.P.Pages.budget c.next_over.new.pages) c.in-Some.placed held at (p.kept told) p.budget
    (next_is c.args.key.now x c.in-Some.placed (sym c.in-Some.is ∙ found)) (sym c.is_wanted.ensures ∙ c.if-not-is_wanted.true)

pub returns-clause-next : goal.returns-clause-next
returns-clause-next g c told x held at =
    let found = next_found (g.P.Pages.blocks c.args.pages.now) x c.args.key.now c.in_ok-placed.field-0 held (c.in_ok-placed.ensures.found told x held at) in
    next_place c.args.key.now x c.in-Some.placed (next_is c.args.key.now x c.in-Some.placed (sym c.in-Some.is ∙ found))

pub returns-clause-took : goal.returns-clause-took
returns-clause-took g c told x held at =
    let m = g.P.Pages.blocks c.args.pages.now in
    let p = c.next_over.ensures in
    let q = c.change_at.ensures in
    let r = c.in_ok-change_at.ensures in
    let e = p.kept told in
    let o = g.P.Pages.blocks c.change_at.new.pages in
    let root = c.change_at.new.self.tree.root in
    let now = g.P.Pages.budget c.change_at.new.pages in
    let here : Holds extent_owner (g.P.Pages.blocks c.next_over.new.pages) x = subst (λ z. Holds extent_owner z x) (sym e) held in
    let found = next_found m x c.args.key.now c.in_ok-placed.field-0 held (c.in_ok-placed.ensures.found told x held at) in
    took_wanted c.args.change c.args.which.now c.args.key.now m x (g.P.Pages.budget c.args.pages.now) o root now c.in-Some.placed
    (next_is c.args.key.now x c.in-Some.placed (sym c.in-Some.is ∙ found)) (sym c.is_wanted.ensures ∙ c.if-not-is_wanted.false)
    (subst (λ z. Becomes extent_owner hung_root extents z x o root (IsChangedAt c.args.change c.in-Some.placed.at)) e (r.changed told x here at))
    (subst (λ z. StagesLess x.0 z now) p.budget (r.staged told x here at))
    (λ k. q.root k ∙ at)
    (λ k. subst (λ z. IsSpent 1 256 z now) p.budget (q.committed k))
    (subst (λ (z : Budget). now.free ≡ z.free + freed_at c.args.change c.in-Some.placed.at (extents x)) p.budget (r.free told x here at))

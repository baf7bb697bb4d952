use Rattle.std.proofs.Common.{◌≡◌, ◌∙◌, sym, subst, ap, arith, None}
use Rattle.std.specs.List.{find}
use Rattle.std.specs.Option.{option_map}
use Rattle.pmem_pages.specs.Owners.{Holds}
use Rattle.vos_levels.specs.Calls.{Becomes}
use Rattle.vos_levels.specs.Levels.{hung_root, things}
use Rattle.vos_ilog.specs.Logs.{IsChangedAt, SaysAt, is_at, log_owner, mark_of}
use Rattle.vos_settle.proofs.LogTurns.{entry_stays, entry_turned, none_there, not_wanted, stays_free, wanted_freed}
use Rattle.vos_settle.proofs.log.change_entry.Goals as goal

pub returns-in_default-clause-changed : goal.returns-in_default-clause-changed
returns-in_default-clause-changed g c told x held at =
    let none : None ≡ option_map mark_of (find (is_at c.args.at) (things x)) = let f = c.in_ok-mark.ensures.found told x held at in let n = c.in_default.is in cc in
    entry_stays (g.P.Pages.blocks c.args.pages.now) (g.P.Pages.blocks c.find_mark.new.pages) x c.args.which c.args.change c.args.at c.args.root (c.find_mark.ensures.kept told) held at (none_there x c.args.at c.args.which c.args.change none)

pub returns-in_default-clause-free : goal.returns-in_default-clause-free
returns-in_default-clause-free g c told x held at =
    let none : None ≡ option_map mark_of (find (is_at c.args.at) (things x)) = let f = c.in_ok-mark.ensures.found told x held at in let n = c.in_default.is in cc in
    let z = stays_free x c.args.which c.args.change c.args.at (none_there x c.args.at c.args.which c.args.change none) in
    let same = ap (λ b. b.free) c.find_mark.ensures.budget in
    omega (arith, z, same)

pub returns-then-not-is_wanted-clause-changed : goal.returns-then-not-is_wanted-clause-changed
returns-then-not-is_wanted-clause-changed g c told x held at =
    let m = g.P.Pages.blocks c.args.pages.now in
    let says : SaysAt c.args.at c.in-Some.mark (things x) = sym (c.in_ok-mark.ensures.found told x held at) ∙ c.in-Some.is in
    entry_stays m (g.P.Pages.blocks c.find_mark.new.pages) x c.args.which c.args.change c.args.at c.args.root (c.find_mark.ensures.kept told) held at (not_wanted m x c.args.at c.in-Some.mark c.find_mark.ensures.moment held says c.args.which c.args.change (sym c.is_wanted.ensures ∙ c.if-not-is_wanted.true))

pub returns-then-not-is_wanted-clause-free : goal.returns-then-not-is_wanted-clause-free
returns-then-not-is_wanted-clause-free g c told x held at =
    let m = g.P.Pages.blocks c.args.pages.now in
    let says : SaysAt c.args.at c.in-Some.mark (things x) = sym (c.in_ok-mark.ensures.found told x held at) ∙ c.in-Some.is in
    let z = stays_free x c.args.which c.args.change c.args.at (not_wanted m x c.args.at c.in-Some.mark c.find_mark.ensures.moment held says c.args.which c.args.change (sym c.is_wanted.ensures ∙ c.if-not-is_wanted.true)) in
    let same = ap (λ b. b.free) c.find_mark.ensures.budget in
    omega (arith, z, same)

pub returns-clause-changed : goal.returns-clause-changed
returns-clause-changed g c told x held at =
    let m = g.P.Pages.blocks c.args.pages.now in
    let e = c.find_mark.ensures.kept told in
    let o = g.P.Pages.blocks c.change_at.new.pages in
    let root = c.change_at.new.self.tree.root in
    let says : SaysAt c.args.at c.in-Some.mark (things x) = sym (c.in_ok-mark.ensures.found told x held at) ∙ c.in-Some.is in
    let b = c.in_ok-change_at.ensures.changed told x (subst (λ z. Holds log_owner z x) (sym e) held) at in
    entry_turned m x c.args.at c.in-Some.mark c.find_mark.ensures.moment held says c.args.which c.args.change o root (sym c.is_wanted.ensures ∙ c.if-not-is_wanted.false)
    (subst (λ z. Becomes log_owner hung_root things z x o root (IsChangedAt c.args.change c.args.at)) e b)

pub returns-clause-free : goal.returns-clause-free
returns-clause-free g c told x held at =
    let m = g.P.Pages.blocks c.args.pages.now in
    let e = c.find_mark.ensures.kept told in
    let says : SaysAt c.args.at c.in-Some.mark (things x) = sym (c.in_ok-mark.ensures.found told x held at) ∙ c.in-Some.is in
    let b = c.in_ok-change_at.ensures.free told x (subst (λ z. Holds log_owner z x) (sym e) held) at in
    let z = wanted_freed m x c.args.at c.in-Some.mark c.find_mark.ensures.moment held says c.args.which c.args.change (sym c.is_wanted.ensures ∙ c.if-not-is_wanted.false) in
    let same = ap (λ y. y.free) c.find_mark.ensures.budget in
    omega (arith, z, same, b)

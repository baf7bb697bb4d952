use Rattle.std.proofs.Common.{◌≡◌, ◌∙◌, sym, subst, ap, arith, None}
use Rattle.std.specs.List.{find}
use Rattle.std.specs.Option.{option_map}
use Rattle.pmem_pages.specs.Owners.{Holds}
use Rattle.vos_moments.specs.vos_levels.Calls.{Becomes}
use Rattle.vos_moments.specs.vos_levels.Levels.{hung_root, things}
use Rattle.vos_moments.proofs.vos_levels.Calls.{on_ok_then}
use Rattle.vos_ilog.specs.Logs.{IsDoneAt, IsGoneAt, SaysAt, is_at, log_owner, mark_of}
use Rattle.vos_ilog.proofs.Changing.{committed, kept_free, none_free, none_there, not_taken, stays_so, went, went_free}
use Rattle.vos_ilog.proofs.ilog.Ilog.change_at.Goals as goal

pub returns-in_default-clause-changed : goal.returns-in_default-clause-changed
returns-in_default-clause-changed g c told x held at =
    let none : None ≡ option_map mark_of (find (is_at c.args.at) (things x)) = let f = c.in_ok-mark.ensures.found told x held at in let n = c.in_default.is in cc in
    stays_so (g.P.Pages.blocks c.args.pages.now) (g.P.Pages.blocks c.find_mark.new.pages) x c.args.change c.args.at c.args.self.now.tree.root (c.find_mark.ensures.kept told) held at (none_there x c.args.at c.args.change none)

pub returns-in_default-clause-free : goal.returns-in_default-clause-free
returns-in_default-clause-free g c told x held at =
    let none : None ≡ option_map mark_of (find (is_at c.args.at) (things x)) = let f = c.in_ok-mark.ensures.found told x held at in let n = c.in_default.is in cc in
    let z = none_free x c.args.at c.args.change (none_there x c.args.at c.args.change none) in
    let same = ap (λ b. b.free) c.find_mark.ensures.budget in
    omega (arith, z, same)

pub returns-then-not-takes-clause-changed : goal.returns-then-not-takes-clause-changed
returns-then-not-takes-clause-changed g c told x held at =
    let m = g.P.Pages.blocks c.args.pages.now in
    let says : SaysAt c.args.at c.in-Some.mark (things x) = sym (c.in_ok-mark.ensures.found told x held at) ∙ c.in-Some.is in
    stays_so m (g.P.Pages.blocks c.find_mark.new.pages) x c.args.change c.args.at c.args.self.now.tree.root (c.find_mark.ensures.kept told) held at (not_taken m x c.args.at c.in-Some.mark c.key_at-key.ensures.moment held says c.args.change (sym c.takes.ensures ∙ c.if-not-takes.true))

pub returns-then-not-takes-clause-free : goal.returns-then-not-takes-clause-free
returns-then-not-takes-clause-free g c told x held at =
    let m = g.P.Pages.blocks c.args.pages.now in
    let says : SaysAt c.args.at c.in-Some.mark (things x) = sym (c.in_ok-mark.ensures.found told x held at) ∙ c.in-Some.is in
    let z = none_free x c.args.at c.args.change (not_taken m x c.args.at c.in-Some.mark c.key_at-key.ensures.moment held says c.args.change (sym c.takes.ensures ∙ c.if-not-takes.true)) in
    let same = ap (λ b. b.free) c.find_mark.ensures.budget in
    omega (arith, z, same)

pub returns-then-keeps-clause-changed : goal.returns-then-keeps-clause-changed
returns-then-keeps-clause-changed g c = on_ok_then c.put_done.result (λ h told x held at.
    let m = g.P.Pages.blocks c.args.pages.now in
    let e = c.find_mark.ensures.kept told in
    let o = g.P.Pages.blocks c.put_done.new.pages in
    let root = c.put_done.new.self.tree.root in
    let says : SaysAt c.args.at c.in-Some.mark (things x) = sym (c.in_ok-mark.ensures.found told x held at) ∙ c.in-Some.is in
    let done = h told x (subst (λ b. Holds log_owner b x) (sym e) held) at says in
    committed m x c.args.at c.in-Some.mark c.key_at-key.ensures.moment held says o c.args.change root (sym c.takes.ensures ∙ c.if-not-takes.false) (sym c.keeps.ensures ∙ c.if-keeps.true)
    (subst (λ b. Becomes log_owner hung_root things b x o root (IsDoneAt c.args.at)) e done)) c.put_done.ensures.put

pub returns-then-keeps-clause-free : goal.returns-then-keeps-clause-free
returns-then-keeps-clause-free g c = on_ok_then c.put_done.result (λ h told x held at.
    let z = kept_free x c.args.at c.args.change (sym c.keeps.ensures ∙ c.if-keeps.true) in
    let same = ap (λ b. b.free) c.find_mark.ensures.budget in
    let put = c.put_done.ensures.free in
    omega (arith, z, same, put)) c.put_done.ensures.went_on

pub returns-else-keeps-clause-changed : goal.returns-else-keeps-clause-changed
returns-else-keeps-clause-changed g c = on_ok_then c.remove_at.result (λ h told x held at.
    let m = g.P.Pages.blocks c.args.pages.now in
    let e = c.find_mark.ensures.kept told in
    let o = g.P.Pages.blocks c.remove_at.new.pages in
    let root = c.remove_at.new.self.tree.root in
    let says : SaysAt c.args.at c.in-Some.mark (things x) = sym (c.in_ok-mark.ensures.found told x held at) ∙ c.in-Some.is in
    let gone = h told x (subst (λ b. Holds log_owner b x) (sym e) held) at says in
    went m x c.args.at c.in-Some.mark c.key_at-key.ensures.moment held says o c.args.change root (sym c.takes.ensures ∙ c.if-not-takes.false) (sym c.keeps.ensures ∙ c.if-keeps.false)
    (subst (λ b. Becomes log_owner hung_root things b x o root (IsGoneAt c.args.at)) e gone)) c.remove_at.ensures.removed

pub returns-else-keeps-clause-free : goal.returns-else-keeps-clause-free
returns-else-keeps-clause-free g c = on_ok_then c.remove_at.result (λ h told x held at.
    let m = g.P.Pages.blocks c.args.pages.now in
    let says : SaysAt c.args.at c.in-Some.mark (things x) = sym (c.in_ok-mark.ensures.found told x held at) ∙ c.in-Some.is in
    let z = went_free m x c.args.at c.in-Some.mark c.key_at-key.ensures.moment held says c.args.change (sym c.takes.ensures ∙ c.if-not-takes.false) (sym c.keeps.ensures ∙ c.if-keeps.false) in
    let same = ap (λ b. b.free) c.find_mark.ensures.budget in
    let gave = h told in
    omega (arith, z, same, gave)) c.remove_at.ensures.free

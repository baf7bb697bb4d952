use Rattle.std.proofs.Common.{◌≡◌, ℕ, ◌-◌, ◌==◌, Ok, subst}
use Rattle.std.proofs.lemmas.Result.{err_from_is_err_and}
use Rattle.vos_image.specs.Kinds.{read_links}
use Rattle.vos_check_base.specs.Answers.{content}
use Rattle.vos_check_base.specs.Sets.{open_of}
use Rattle.vos_check_base.proofs.Faults.{moved}
use Rattle.vos_check.specs.Steps.{is_nothing, read_link}
use Rattle.vos_check.proofs.Links.{last_is, links_goes, links_none, links_off}
use Rattle.vos_check_base.proofs.Looking.{read_none, read_then}
use Rattle.vos_check.proofs.chain.+links.Goals as goal

pub returns-then-count-eq0-clause-read : goal.returns-then-count-eq0-clause-read
returns-then-count-eq0-clause-read g t c told b led marks = links_none (content b (g.S.Source.bytes c.args.source.now)) c.args.count c.args.block c.args.length led (open_of c.args.fresh.now) c.if-count-eq0.true marks

pub returns-in_err-next-clause-read : goal.returns-in_err-next-clause-read
returns-in_err-next-clause-read g t c told =
    let p = err_from_is_err_and c.from_residual.result c.from_residual.ensures.1 in
    rw (p.1, p.2) (λ b led marks.
    links_off (content b (g.S.Source.bytes c.args.source.now)) c.args.count c.args.block c.args.length c.min.result (c.args.count == 1) led _ c.if-count-eq0.false (last_is c.args.count c.if-count-eq0.false) c.min.ensures (c.in_err-next.ensures.read told b led marks))

pub returns-clause-read : goal.returns-clause-read
returns-clause-read g t c told b led marks =
    let f = g.S.Source.bytes c.args.source.now in
    let d = content b f in
    let x = c.in_ok-next.ensures.read told b led marks in
    let is = subst (λ (n : ℕ). read_link d c.args.block (c.args.count == 1) c.min.result led ≡ Ok (n, x.gives.led)) x.shows x.gives.is in
    let more = moved {V = Unit {0}} b f (g.S.Source.bytes c.link_at.new.source) (λ e. read_links e (c.args.count - 1) c.in_ok-next.next c.saturating_sub.result) (open_of c.link_at.new.fresh) (open_of c.links.new.fresh) is_nothing c.links.result (c.link_at.ensures.kept told) (c.links.ensures.read told b) in
    links_goes d c.args.count c.args.block c.args.length c.min.result (c.args.count == 1) led x.gives.led c.in_ok-next.next c.saturating_sub.result (open_of c.links.new.fresh) c.links.result
    c.if-count-eq0.false (last_is c.args.count c.if-count-eq0.false) c.min.ensures c.saturating_sub.ensures is (more x.gives.led x.gives.marks)

pub returns-then-count-eq0-clause-stops : goal.returns-then-count-eq0-clause-stops
returns-then-count-eq0-clause-stops g t c = read_none _ _ g.S.Source.looked_none _

pub returns-in_err-next-clause-stops : goal.returns-in_err-next-clause-stops
returns-in_err-next-clause-stops g t c =
    let p = err_from_is_err_and c.from_residual.result c.from_residual.ensures.1 in
    rw (p.1, p.2) (c.in_err-next.ensures.stops)

pub returns-clause-stops : goal.returns-clause-stops
returns-clause-stops g t c = (read_then _ _ g.S.Source.looked_on _ _ _ _ c.in_ok-next.ensures.stops c.links.ensures.stops)

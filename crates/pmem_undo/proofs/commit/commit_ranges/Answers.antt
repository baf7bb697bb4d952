use Rattle.std.proofs.Common.{inl, ◌∙◌, ◌∷◌, [], ◌++◌, ap, sym, subst, arith, take, length}
use Rattle.base_outside.specs.Images.{Image, over, all_over}
use Rattle.base_outside.specs.Images.Call.{Write, Flush}
use Rattle.pmem_undo.specs.Layout.{gate, gate_byte}
use Rattle.pmem_undo.specs.Settled.{IsPrepared, body_range, log_opened, reads, writes}
use Rattle.pmem_undo.specs.Spans.{ranges_of}
use Rattle.pmem_undo.proofs.Committing.{at_first, prepared, two_parts, three_parts, opens_same}
use Rattle.pmem_undo.proofs.Moments.{leaves_now, runs_then}
use Rattle.pmem_undo.proofs.Phases.{OnOk-map, OnOk-both}
use Rattle.pmem_undo.proofs.Settling.{after_close, gate_at}
use Rattle.pmem_undo.proofs.commit.commit_ranges.Goals as goal

pub returns-in_err-open_log-clause-any_moment : goal.returns-in_err-open_log-clause-any_moment
returns-in_err-open_log-clause-any_moment g c t =
    let size = g.R.Region.extent c.args.region.now in
    let f = g.R.Region.image c.args.region.now in
    let news = ranges_of c.args.staged.now c.args.spans.now in
    let rest = c.requires.rest t in
    let same = (c.put_log.ensures.looks t).image in
    let p = prepared size f c.args.staged.now c.args.spans.now (take c.in_ok-end.end c.put_log.new.body) c.requires.small rest.closed c.requires.spans c.requires.few (omega arith) (c.in_ok-end.ensures.bytes t) in
    let opens = c.open_log.ensures.any_moment t size news (subst (λ (h : Image). IsPrepared size h news (take c.in_ok-end.end c.put_log.new.body)) (sym same) p) in
    two_parts _ _ _ _ _ _ size f news _ rest (c.put_log.ensures.looks t).time (opens_same _ _ _ _ size f _ same opens)

pub returns-clause-any_moment : goal.returns-clause-any_moment
returns-clause-any_moment g c t =
    let size = g.R.Region.extent c.args.region.now in
    let f = g.R.Region.image c.args.region.now in
    let news = ranges_of c.args.staged.now c.args.spans.now in
    let body = take c.in_ok-end.end c.put_log.new.body in
    let rest = c.requires.rest t in
    let same = (c.put_log.ensures.looks t).image in
    let p = prepared size f c.args.staged.now c.args.spans.now body c.requires.small rest.closed c.requires.spans c.requires.few (omega arith) (c.in_ok-end.ensures.bytes t) in
    let opens = c.open_log.ensures.any_moment t size news (subst (λ (h : Image). IsPrepared size h news body) (sym same) p) in
    three_parts _ _ _ _ _ _ _ _ size f news _ rest (c.put_log.ensures.looks t).time (opens_same _ _ _ _ size f _ same opens)
    (c.close_log.ensures.any_moment t size f body p (c.in_ok-open_log.ensures.image t ∙ ap (log_opened body) same))

pub returns-clause-committed : goal.returns-clause-committed
returns-clause-committed g c =
    let size = g.R.Region.extent c.args.region.now in
    let f = g.R.Region.image c.args.region.now in
    let news = ranges_of c.args.staged.now c.args.spans.now in
    let body = take c.in_ok-end.end c.put_log.new.body in
    OnOk-map c.close_log.result _ _ c.close_log.ensures.image (λ image t i content.
    let rest = c.requires.rest t in
    let same = (c.put_log.ensures.looks t).image in
    let p = prepared size f c.args.staged.now c.args.spans.now body c.requires.small rest.closed c.requires.spans c.requires.few (omega arith) (c.in_ok-end.ensures.bytes t) in
    ap (λ (b : Image). b i) (image t ∙ ap (λ (b : Image). over (gate_byte 0) (all_over news b)) (c.in_ok-open_log.ensures.image t ∙ ap (log_opened body) same)) ∙ after_close size f news body p i content)

pub returns-clause-rest : goal.returns-clause-rest
returns-clause-rest g c =
    OnOk-both c.close_log.result _ _ _ c.close_log.ensures.image c.close_log.ensures.only (λ image only t. record {
      only = only t;
      closed = ap (λ (b : Image). b gate) (image t) ∙ gate_at 0 _;
    })

pub returns-clause-calls : goal.returns-clause-calls
returns-clause-calls g c =
    let body = take c.in_ok-end.end c.put_log.new.body in
    let news = ranges_of c.args.staged.now c.args.spans.now in
    OnOk-map c.close_log.result _ _ c.close_log.ensures.calls (λ last. (
      body,
      runs_then g.R.Region.did (reads (length c.args.spans.now)) _ _ _ _ c.in_ok-end.ensures.calls
          (runs_then g.R.Region.did (Write (body_range body) ∷ Flush ∷ Write (gate_byte 1) ∷ Flush ∷ []) (writes news ++ Flush ∷ Write (gate_byte 0) ∷ Flush ∷ []) _ _ _ c.in_ok-open_log.ensures.calls last),
    ))

pub returns-in_err-end-clause-left : goal.returns-in_err-end-clause-left
returns-in_err-end-clause-left g c t z here =
    inl (at_first (g.R.Region.extent c.args.region.now) (g.R.Region.image c.args.region.now) (g.R.Region.may_leave c.args.region.now) (c.requires.rest t) z ((c.put_log.ensures.looks t).crash z here))

pub returns-in_err-open_log-clause-left : goal.returns-in_err-open_log-clause-left
returns-in_err-open_log-clause-left g c t z here =
    let l = returns-in_err-open_log-clause-any_moment g c t in
    leaves_now _ _ _ _ (g.R.Region.may_leave c.args.region.now) (g.R.Region.may_leave c.open_log.new.region) _ l
    (λ y h. g.met.R.Region.counts_now c.open_log.new.region (g.R.Region.moment c.args.region.now) y t l.later h) (λ y h. g.met.R.Region.only_now c.args.region.now y t h)
    (λ y h. inl (at_first _ _ _ (c.requires.rest t) y h)) z here

pub returns-clause-left : goal.returns-clause-left
returns-clause-left g c t z here =
    let l = returns-clause-any_moment g c t in
    leaves_now _ _ _ _ (g.R.Region.may_leave c.args.region.now) (g.R.Region.may_leave c.close_log.new.region) _ l
    (λ y h. g.met.R.Region.counts_now c.close_log.new.region (g.R.Region.moment c.args.region.now) y t l.later h) (λ y h. g.met.R.Region.only_now c.args.region.now y t h)
    (λ y h. inl (at_first _ _ _ (c.requires.rest t) y h)) z here

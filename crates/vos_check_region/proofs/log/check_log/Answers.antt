use Rattle.std.proofs.Common.{Some, None, sym, ap, ◌∙◌, ◌≡◌, subst, ℕ}
use Rattle.std.proofs.lemmas.Result.{err_from_is_err_and}
use Rattle.base_outside.specs.Images.{Image}
use Rattle.pmem_undo.specs.Settled.{IsAttachable}
use Rattle.vos_check_region.specs.Fault.{log_fault, magic_fault}
use Rattle.vos_check_region.proofs.Faults.{attaches, closed_faultless, log_raw, raw_is, told_by, told_none}
use Rattle.vos_check_region.proofs.log.check_log.Goals as goal

pub returns-then-gate-eq0-clause-told : goal.returns-then-gate-eq0-clause-told
returns-then-gate-eq0-clause-told g c t = closed_faultless (g.R.Region.extent c.args.region.now) (g.R.Region.image c.args.region.now) c.in_ok-gate.gate (c.in_ok-gate.ensures.byte t) c.if-gate-eq0.true

pub returns-in_err-at-clause-told : goal.returns-in_err-at-clause-told
returns-in_err-at-clause-told g c t =
    let p = err_from_is_err_and c.from_residual-in_err-at.result c.from_residual-in_err-at.ensures.1 in
    rw (p.1, p.2) (told_none _ _ _ c.in_err-at.ensures.unshown)

pub returns-in-Some-clause-told : goal.returns-in-Some-clause-told
returns-in-Some-clause-told g c t =
    let size = g.R.Region.extent c.args.region.now in
    let f = g.R.Region.image c.args.region.now in
    let one = (c.byte_at.ensures.looks t).image in
    let two = (c.log_fault.ensures.looks t).image in
    let log : log_fault size f ≡ Some c.in-Some.at = ap (λ (z : Image). log_fault size z) (sym one) ∙ (ap (λ (n : ℕ). log_fault n (g.R.Region.image c.byte_at.new.region)) (sym c.byte_at.ensures.extent) ∙ (sym (c.in_ok-at.ensures.told t) ∙ c.in-Some.is)) in
    told_by _ f (g.R.Region.image c.log_fault.new.region) _ c.first_blame.result (two ∙ one)
    (raw_is size f c.in_ok-gate.gate (Some c.in-Some.at) (magic_fault (g.R.Region.image c.log_fault.new.region)) (c.in_ok-gate.ensures.byte t) c.if-gate-eq0.false log (ap magic_fault (sym (two ∙ one))))
    (c.first_blame.ensures.told t)

pub returns-in-None-clause-told : goal.returns-in-None-clause-told
returns-in-None-clause-told g c t =
    let size = g.R.Region.extent c.args.region.now in
    let f = g.R.Region.image c.args.region.now in
    let one = (c.byte_at.ensures.looks t).image in
    let log : log_fault size f ≡ None = ap (λ (z : Image). log_fault size z) (sym one) ∙ (ap (λ (n : ℕ). log_fault n (g.R.Region.image c.byte_at.new.region)) (sym c.byte_at.ensures.extent) ∙ (sym (c.in_ok-at.ensures.told t) ∙ c.in-None.is)) in
    log_raw size f c.in_ok-gate.gate (c.in_ok-gate.ensures.byte t) c.if-gate-eq0.false log

pub returns-in-None-clause-attachable : goal.returns-in-None-clause-attachable
returns-in-None-clause-attachable g c t =
    let size = g.R.Region.extent c.args.region.now in
    let f = g.R.Region.image c.args.region.now in
    let one = (c.byte_at.ensures.looks t).image in
    let two = (c.log_fault.ensures.looks t).image in
    let extent = c.log_fault.ensures.extent ∙ c.byte_at.ensures.extent in
    let log : log_fault size f ≡ None = ap (λ (z : Image). log_fault size z) (sym one) ∙ (ap (λ (n : ℕ). log_fault n (g.R.Region.image c.byte_at.new.region)) (sym c.byte_at.ensures.extent) ∙ (sym (c.in_ok-at.ensures.told t) ∙ c.in-None.is)) in
    let here = attaches size f (log_raw size f c.in_ok-gate.gate (c.in_ok-gate.ensures.byte t) c.if-gate-eq0.false log) in
    subst (λ (n : ℕ). IsAttachable n (g.R.Region.image c.log_fault.new.region)) (sym extent) (subst (λ (z : Image). IsAttachable size z) (sym (two ∙ one)) here)

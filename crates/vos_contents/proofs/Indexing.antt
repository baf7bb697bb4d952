-- What the index of the first versions says once versions are settled.
use Rattle.std.proofs.Common.{◌≡◌, ◌≤◌, List, length, map, take, sym, ◌∙◌, ap, subst, arith}
use Rattle.std.specs.Prelude.{filter}
use Rattle.daos_model.specs.FormLaws.{length-map}
use Rattle.base_types.specs.declared.id.AttemptId.{AttemptId}
use Rattle.daos_model.specs.declared.durable.Version.{Version}
use Rattle.daos_model.specs.Versions.{done_by, is_not_pending}
use Rattle.vos_rows.proofs.Settled.{same-settled, same-unpending}
use Rattle.vos_scan.specs.declared.index.ReadIndex.{ReadIndex}
use Rattle.vos_scan.specs.Indexed.{IsIndexOf}
use Rattle.vos_scan.proofs.Known.{index-same}

-- an attempt's versions are done
pub index-settled : (a : AttemptId) (i : ReadIndex) (vs us : List Version) → IsIndexOf i vs → us ≡ map (done_by a) vs → IsIndexOf i us
index-settled a i vs us h e =
    let long : length us ≡ length vs = ap (λ xs. length xs) e ∙ length-map (done_by a) vs in
    index-same i vs us h (sym (ap (λ xs. take i.covered xs) e ∙ same-settled a i.covered vs h.rows.done)) (omega (arith, h.rows.within, long))

-- those of an attempt that aren't settled go
pub index-unpended : (a : AttemptId) (i : ReadIndex) (vs us : List Version) → IsIndexOf i vs → us ≡ filter (is_not_pending a) vs → IsIndexOf i us
index-unpended a i vs us h e =
    let same = same-unpending a i.covered vs h.rows.within h.rows.done in
    index-same i vs us h (sym (ap (λ xs. take i.covered xs) e ∙ same.0)) (subst (λ xs. i.covered ≤ length xs) (sym e) same.1)

use Rattle.std.proofs.Common.{◌≡◌, ◌++◌, ◌∷◌, [], List, length, sym, subst, ◌≤◌}
use Rattle.std.proofs.lemmas.List.{length-map}
use Rattle.base_outside.specs.Images.{Range, Runs}
use Rattle.base_outside.specs.Images.Call.{Write, Flush}
use Rattle.pmem_undo.specs.declared.span.Span.{Span}
use Rattle.pmem_undo.specs.Layout.{gate_byte}
use Rattle.pmem_undo.specs.Settled.{IsLogged, reads, writes_back}
use Rattle.pmem_undo.specs.Spans.{ranges_of, range_of}
use Rattle.pmem_undo.proofs.Attaching.{spans_content}
use Rattle.pmem_undo.proofs.Committing.{total_is}
use Rattle.pmem_undo.proofs.Moments.{runs_then}
use Rattle.pmem_undo.proofs.Phases.{OnOk-map}
use Rattle.pmem_undo.proofs.restore.undo.Goals as goal

pub returns-clause-calls : goal.returns-clause-calls
returns-clause-calls g c =
    let size = g.R.Region.extent c.args.region.now in
    let body = c.read_log.new.body in
    let spans = c.read_log.new.spans.items in
    let ranges : List Range = ranges_of body spans in
    let many : length ranges ≡ length spans = length-map spans (range_of body) in
    let logged : IsLogged size ranges = record {
      content = spans_content size body spans c.read_log.ensures.sound;
      few = subst (λ n. n ≤ 1024) (sym many) c.in_ok-read_log.ensures.few;
      short = subst (λ n. n ≤ 256000) (sym (total_is body size spans c.read_log.ensures.sound)) c.in_ok-read_log.ensures.short;
    } in
    let looked = c.in_ok-read_log.ensures.calls in
    let handed : c.deref.result.now ≡ spans = c.deref.ensures.value in
    OnOk-map c.roll_back.result _ _ c.roll_back.ensures.calls (λ run. (
      looked.0,
      (
        ranges,
        (
          logged,
          runs_then g.R.Region.did (reads looked.0) (writes_back ranges ++ Flush ∷ Write (gate_byte 0) ∷ Flush ∷ []) _ _ _ looked.1
              (subst (λ (z : List Span). Runs g.R.Region.did (writes_back (ranges_of body z) ++ Flush ∷ Write (gate_byte 0) ∷ Flush ∷ []) c.read_log.new.region c.roll_back.new.region) handed run),
        ),
      ),
    ))

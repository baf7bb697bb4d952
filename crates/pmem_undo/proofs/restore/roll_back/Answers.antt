use Rattle.std.proofs.Common.{◌∙◌, ◌∷◌, [], ap, refl, sym}
use Rattle.base_outside.specs.Images.{Image, over}
use Rattle.base_outside.specs.Images.Call.{Write, Flush}
use Rattle.pmem_undo.specs.Layout.{gate_byte}
use Rattle.pmem_undo.specs.Settled.{StandsFor, settled, writes_back}
use Rattle.pmem_undo.specs.Spans.{ranges_of}
use Rattle.pmem_undo.proofs.Attaching.{spans_content, makes}
use Rattle.pmem_undo.proofs.Moments.{runs_then, sofar_flush}
use Rattle.pmem_undo.proofs.Phases.{OnOk-map}
use Rattle.pmem_undo.proofs.Restoring.{ranges_back, gate_shut}
use Rattle.pmem_undo.proofs.restore.roll_back.Goals as goal

pub returns-in_err-write_back-clause-any_moment : goal.returns-in_err-write_back-clause-any_moment
returns-in_err-write_back-clause-any_moment g c t =
    let size = g.R.Region.extent c.args.region.now in
    (ranges_back _ _ _ _ _ _ _ _ (c.requires.only t) (c.write_back.ensures.crash t) (c.write_back.ensures.time t) size (c.requires.log t) (c.requires.ajar t) (c.requires.told t) (spans_content size c.args.body.now c.args.spans.now c.requires.spans)).leaves

pub returns-in_err-flush-clause-any_moment : goal.returns-in_err-flush-clause-any_moment
returns-in_err-flush-clause-any_moment g c t =
    let size = g.R.Region.extent c.args.region.now in
    let f = g.R.Region.image c.args.region.now in
    let back = ranges_back _ _ _ _ _ _ _ _ (c.requires.only t) (c.write_back.ensures.crash t) (c.write_back.ensures.time t) size (c.requires.log t) (c.requires.ajar t) (c.requires.told t) (spans_content size c.args.body.now c.args.spans.now c.requires.spans) in
    (sofar_flush _ _ _ _ _ _ _ _ (StandsFor size (settled size f)) back (c.flush.ensures.crash t) (c.flush.ensures.time t)).leaves

pub returns-in_err-write-clause-any_moment : goal.returns-in_err-write-clause-any_moment
returns-in_err-write-clause-any_moment g c t =
    let size = g.R.Region.extent c.args.region.now in
    let f = g.R.Region.image c.args.region.now in
    let content = spans_content size c.args.body.now c.args.spans.now c.requires.spans in
    let back = ranges_back _ _ _ _ _ _ _ _ (c.requires.only t) (c.write_back.ensures.crash t) (c.write_back.ensures.time t) size (c.requires.log t) (c.requires.ajar t) (c.requires.told t) content in
    let flushed = sofar_flush _ _ _ _ _ _ _ _ (StandsFor size (settled size f)) back (c.flush.ensures.crash t) (c.flush.ensures.time t) in
    (gate_shut _ _ _ _ _ _ _ _ f (ranges_of c.args.body.now c.args.spans.now) size (c.requires.log t) (c.requires.ajar t) (c.requires.told t) content flushed (λ z h i. c.in_ok-flush.ensures.lasting t z h i ∙ ap (λ (b : Image). b i) (c.flush.ensures.image t ∙ c.in_ok-write_back.ensures.image t)) (c.write.ensures.crash t) (c.write.ensures.time t)).leaves

pub returns-clause-any_moment : goal.returns-clause-any_moment
returns-clause-any_moment g c t =
    let size = g.R.Region.extent c.args.region.now in
    let f = g.R.Region.image c.args.region.now in
    let content = spans_content size c.args.body.now c.args.spans.now c.requires.spans in
    let back = ranges_back _ _ _ _ _ _ _ _ (c.requires.only t) (c.write_back.ensures.crash t) (c.write_back.ensures.time t) size (c.requires.log t) (c.requires.ajar t) (c.requires.told t) content in
    let flushed = sofar_flush _ _ _ _ _ _ _ _ (StandsFor size (settled size f)) back (c.flush.ensures.crash t) (c.flush.ensures.time t) in
    let shut = gate_shut _ _ _ _ _ _ _ _ f (ranges_of c.args.body.now c.args.spans.now) size (c.requires.log t) (c.requires.ajar t) (c.requires.told t) content flushed (λ z h i. c.in_ok-flush.ensures.lasting t z h i ∙ ap (λ (b : Image). b i) (c.flush.ensures.image t ∙ c.in_ok-write_back.ensures.image t)) (c.write.ensures.crash t) (c.write.ensures.time t) in
    (sofar_flush _ _ _ _ _ _ _ _ (StandsFor size (settled size f)) shut (c.flush-2.ensures.crash t) (c.flush-2.ensures.time t)).leaves

pub returns-clause-image : goal.returns-clause-image
returns-clause-image g c =
    let size = g.R.Region.extent c.args.region.now in
    let f = g.R.Region.image c.args.region.now in
    let content = spans_content size c.args.body.now c.args.spans.now c.requires.spans in
    OnOk-map c.flush-2.result _ _ c.flush-2.ensures.lasting (λ _ t.
    c.flush-2.ensures.image t ∙ (c.in_ok-write.ensures.image t ∙ (ap (over (gate_byte 0)) (c.flush.ensures.image t ∙ c.in_ok-write_back.ensures.image t) ∙ sym (makes size f (ranges_of c.args.body.now c.args.spans.now) (c.requires.log t) (c.requires.ajar t) (c.requires.told t) content))))

pub returns-clause-calls : goal.returns-clause-calls
returns-clause-calls g c =
    OnOk-map c.flush-2.result _ _ c.flush-2.ensures.call (λ last.
    runs_then g.R.Region.did (writes_back (ranges_of c.args.body.now c.args.spans.now)) (Flush ∷ Write (gate_byte 0) ∷ Flush ∷ []) _ _ _ c.in_ok-write_back.ensures.calls
    (_, (c.in_ok-flush.ensures.call, (_, (c.in_ok-write.ensures.call, (_, (last, refl)))))))

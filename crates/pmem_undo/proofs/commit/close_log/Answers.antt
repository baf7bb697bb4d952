use Rattle.std.proofs.Common.{◌∙◌, ap, refl, ◌∷◌, []}
use Rattle.base_outside.specs.Images.{Image}
use Rattle.base_outside.specs.Images.Call.{Write, Flush}
use Rattle.pmem_undo.specs.Layout.{gate_byte}
use Rattle.pmem_undo.specs.Settled.{IsBeforeOrAfter, writes}
use Rattle.pmem_undo.specs.Spans.{ranges_of}
use Rattle.pmem_undo.proofs.Moments.{sofar_flush, runs_then}
use Rattle.pmem_undo.proofs.Phases.{ranges_written, gate_closed, OnOk-map}
use Rattle.pmem_undo.proofs.commit.close_log.Goals as goal

pub returns-in_err-write_ranges-clause-any_moment : goal.returns-in_err-write_ranges-clause-any_moment
returns-in_err-write_ranges-clause-any_moment g c t size f body p is =
    (ranges_written _ _ _ _ _ _ _ (ranges_of c.args.buffer.now c.args.spans.now) (c.requires.only t) (c.write_ranges.ensures.crash t) (c.write_ranges.ensures.time t) size f body p is).leaves

pub returns-in_err-flush-clause-any_moment : goal.returns-in_err-flush-clause-any_moment
returns-in_err-flush-clause-any_moment g c t size f body p is =
    let news = ranges_of c.args.buffer.now c.args.spans.now in
    let written = ranges_written _ _ _ _ _ _ _ news (c.requires.only t) (c.write_ranges.ensures.crash t) (c.write_ranges.ensures.time t) size f body p is in
    (sofar_flush _ _ _ _ _ _ _ _ (IsBeforeOrAfter size f news) written (c.flush.ensures.crash t) (c.flush.ensures.time t)).leaves

pub returns-in_err-write-clause-any_moment : goal.returns-in_err-write-clause-any_moment
returns-in_err-write-clause-any_moment g c t size f body p is =
    let news = ranges_of c.args.buffer.now c.args.spans.now in
    let written = ranges_written _ _ _ _ _ _ _ news (c.requires.only t) (c.write_ranges.ensures.crash t) (c.write_ranges.ensures.time t) size f body p is in
    let flushed = sofar_flush _ _ _ _ _ _ _ _ (IsBeforeOrAfter size f news) written (c.flush.ensures.crash t) (c.flush.ensures.time t) in
    (gate_closed _ _ _ _ _ _ _ _ (g.R.Region.image c.args.region.now) news size f body p is flushed (λ z h i. c.in_ok-flush.ensures.lasting t z h i ∙ ap (λ (b : Image). b i) (c.flush.ensures.image t ∙ c.in_ok-write_ranges.ensures.image t)) (c.write.ensures.crash t) (c.write.ensures.time t)).leaves

pub returns-clause-any_moment : goal.returns-clause-any_moment
returns-clause-any_moment g c t size f body p is =
    let news = ranges_of c.args.buffer.now c.args.spans.now in
    let written = ranges_written _ _ _ _ _ _ _ news (c.requires.only t) (c.write_ranges.ensures.crash t) (c.write_ranges.ensures.time t) size f body p is in
    let flushed = sofar_flush _ _ _ _ _ _ _ _ (IsBeforeOrAfter size f news) written (c.flush.ensures.crash t) (c.flush.ensures.time t) in
    let closed = gate_closed _ _ _ _ _ _ _ _ (g.R.Region.image c.args.region.now) news size f body p is flushed (λ z h i. c.in_ok-flush.ensures.lasting t z h i ∙ ap (λ (b : Image). b i) (c.flush.ensures.image t ∙ c.in_ok-write_ranges.ensures.image t)) (c.write.ensures.crash t) (c.write.ensures.time t) in
    (sofar_flush _ _ _ _ _ _ _ _ (IsBeforeOrAfter size f news) closed (c.flush-2.ensures.crash t) (c.flush-2.ensures.time t)).leaves

pub returns-clause-calls : goal.returns-clause-calls
returns-clause-calls g c =
    OnOk-map c.flush-2.result _ _ c.flush-2.ensures.call (λ last.
    runs_then g.R.Region.did (writes (ranges_of c.args.buffer.now c.args.spans.now)) (Flush ∷ Write (gate_byte 0) ∷ Flush ∷ []) _ _ _ c.in_ok-write_ranges.ensures.calls
    (_, (c.in_ok-flush.ensures.call, (_, (c.in_ok-write.ensures.call, (_, (last, refl)))))))

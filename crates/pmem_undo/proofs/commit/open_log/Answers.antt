use Rattle.std.proofs.Common.{◌∙◌, ap}
use Rattle.base_outside.specs.Images.{Image}
use Rattle.pmem_undo.specs.Settled.{StandsFor}
use Rattle.pmem_undo.proofs.Moments.{sofar_flush}
use Rattle.pmem_undo.proofs.Phases.{body_written, gate_opened}
use Rattle.pmem_undo.proofs.commit.open_log.Goals as goal

pub returns-in_err-write-clause-any_moment : goal.returns-in_err-write-clause-any_moment
returns-in_err-write-clause-any_moment g c t size ranges p =
    (body_written _ _ _ _ _ _ _ _ (c.requires.only t) (c.write.ensures.crash t) (c.write.ensures.time t) size ranges p).leaves

pub returns-in_err-flush-clause-any_moment : goal.returns-in_err-flush-clause-any_moment
returns-in_err-flush-clause-any_moment g c t size ranges p =
    let f = g.R.Region.image c.args.region.now in
    let written = body_written _ _ _ _ _ _ _ _ (c.requires.only t) (c.write.ensures.crash t) (c.write.ensures.time t) size ranges p in
    (sofar_flush _ _ _ _ _ _ _ _ (StandsFor size f) written (c.flush.ensures.crash t) (c.flush.ensures.time t)).leaves

pub returns-in_err-write-2-clause-any_moment : goal.returns-in_err-write-2-clause-any_moment
returns-in_err-write-2-clause-any_moment g c t size ranges p =
    let f = g.R.Region.image c.args.region.now in
    let written = body_written _ _ _ _ _ _ _ _ (c.requires.only t) (c.write.ensures.crash t) (c.write.ensures.time t) size ranges p in
    let flushed = sofar_flush _ _ _ _ _ _ _ _ (StandsFor size f) written (c.flush.ensures.crash t) (c.flush.ensures.time t) in
    (gate_opened _ _ _ _ _ _ _ _ f c.args.body.now size ranges p flushed (λ z h i. c.in_ok-flush.ensures.lasting t z h i ∙ ap (λ (b : Image). b i) (c.flush.ensures.image t ∙ c.in_ok-write.ensures.image t)) (c.write-2.ensures.crash t) (c.write-2.ensures.time t)).leaves

pub returns-clause-any_moment : goal.returns-clause-any_moment
returns-clause-any_moment g c t size ranges p =
    let f = g.R.Region.image c.args.region.now in
    let written = body_written _ _ _ _ _ _ _ _ (c.requires.only t) (c.write.ensures.crash t) (c.write.ensures.time t) size ranges p in
    let flushed = sofar_flush _ _ _ _ _ _ _ _ (StandsFor size f) written (c.flush.ensures.crash t) (c.flush.ensures.time t) in
    let opened = gate_opened _ _ _ _ _ _ _ _ f c.args.body.now size ranges p flushed (λ z h i. c.in_ok-flush.ensures.lasting t z h i ∙ ap (λ (b : Image). b i) (c.flush.ensures.image t ∙ c.in_ok-write.ensures.image t)) (c.write-2.ensures.crash t) (c.write-2.ensures.time t) in
    (sofar_flush _ _ _ _ _ _ _ _ (StandsFor size f) opened (c.flush-2.ensures.crash t) (c.flush-2.ensures.time t)).leaves

use Rattle.std.proofs.Common.{◌==◌, ◌&&◌, drop, refl, ◌∙◌}
use Rattle.std.specs.Prelude.{slice_index}
use Rattle.std.proofs.lemmas.Result.{err_from_is_err_and}
use Rattle.byteorder.specs.Endian.{big_number}
use Rattle.vos_check_base.specs.vos_image.Trees.{is_above, is_below}
use Rattle.vos_check_base.specs.Answers.{content}
use Rattle.vos_check_base.proofs.Steps.{off, on}
use Rattle.vos_check_trees.proofs.NodeFields.{by_tests, found_there}
use Rattle.vos_check_trees.proofs.fields.fields.Goals as goal

pub returns-in_err-rule_in-clause-found : goal.returns-in_err-rule_in-clause-found
returns-in_err-rule_in-clause-found g c =
    let p = err_from_is_err_and c.from_residual.result c.from_residual.ensures.1 in
    rw (p.1, p.2) (λ f led here marks.
    let K = g.K.Level.reads c.args.level.now in
    let d = content (g.K.Level.basis c.args.level.now) f in
    by_tests K d c.args.block c.args.bytes.now c.args.keys.now.low c.args.keys.now.high (slice_index c.args.bytes.now 0 == c.number-number.result) (K.is_length d (big_number 2 (drop 2 c.args.bytes.now))) (is_above c.args.keys.now.low c.node_in-node.result.key && is_below c.args.keys.now.high c.node_in-node.result.key) c.number-number.result (big_number 2 (drop 2 c.args.bytes.now)) c.node_in-node.result led
    here c.number-number.ensures refl refl refl c.node_in-node.ensures.node refl
    ∙ (off _ _ led _ (c.in_err-rule_in.ensures led)))

pub returns-in_err-rule_in-2-clause-found : goal.returns-in_err-rule_in-2-clause-found
returns-in_err-rule_in-2-clause-found g c =
    let p = err_from_is_err_and c.from_residual-in_err-rule_in-2.result c.from_residual-in_err-rule_in-2.ensures.1 in
    rw (p.1, p.2) (λ f led here marks.
    let K = g.K.Level.reads c.args.level.now in
    let d = content (g.K.Level.basis c.args.level.now) f in
    by_tests K d c.args.block c.args.bytes.now c.args.keys.now.low c.args.keys.now.high (slice_index c.args.bytes.now 0 == c.number-number.result) c.is_length.result (is_above c.args.keys.now.low c.node_in-node.result.key && is_below c.args.keys.now.high c.node_in-node.result.key) c.number-number.result c.key_length.result c.node_in-node.result led
    here c.number-number.ensures refl c.key_length.ensures (c.is_length.ensures f) c.node_in-node.ensures.node refl
    ∙ (on _ _ led tt led _ (c.in_ok-rule_in.ensures led)
    (off _ _ led _ (c.in_err-rule_in-2.ensures led))))

pub returns-in_err-lead_in-clause-found : goal.returns-in_err-lead_in-clause-found
returns-in_err-lead_in-clause-found g c =
    let p = err_from_is_err_and c.from_residual-in_err-lead_in.result c.from_residual-in_err-lead_in.ensures.1 in
    rw (p.1, p.2) (λ f led here marks.
    let K = g.K.Level.reads c.args.level.now in
    let d = content (g.K.Level.basis c.args.level.now) f in
    by_tests K d c.args.block c.args.bytes.now c.args.keys.now.low c.args.keys.now.high (slice_index c.args.bytes.now 0 == c.number-number.result) c.is_length.result (is_above c.args.keys.now.low c.node_in-node.result.key && is_below c.args.keys.now.high c.node_in-node.result.key) c.number-number.result c.key_length.result c.node_in-node.result led
    here c.number-number.ensures refl c.key_length.ensures (c.is_length.ensures f) c.node_in-node.ensures.node refl
    ∙ (on _ _ led tt led _ (c.in_ok-rule_in.ensures led)
    (on _ _ led tt led _ (c.in_ok-rule_in-2.ensures led)
    (off _ _ led _ (c.in_err-lead_in.ensures d led marks)))))

pub returns-in_err-lead_in-2-clause-found : goal.returns-in_err-lead_in-2-clause-found
returns-in_err-lead_in-2-clause-found g c =
    let p = err_from_is_err_and c.from_residual-in_err-lead_in-2.result c.from_residual-in_err-lead_in-2.ensures.1 in
    rw (p.1, p.2) (λ f led here marks.
    let K = g.K.Level.reads c.args.level.now in
    let d = content (g.K.Level.basis c.args.level.now) f in
    let g3 = c.in_ok-lead_in.ensures d led marks in
    by_tests K d c.args.block c.args.bytes.now c.args.keys.now.low c.args.keys.now.high (slice_index c.args.bytes.now 0 == c.number-number.result) c.is_length.result (is_above c.args.keys.now.low c.node_in-node.result.key && is_below c.args.keys.now.high c.node_in-node.result.key) c.number-number.result c.key_length.result c.node_in-node.result led
    here c.number-number.ensures refl c.key_length.ensures (c.is_length.ensures f) c.node_in-node.ensures.node refl
    ∙ (on _ _ led tt led _ (c.in_ok-rule_in.ensures led)
    (on _ _ led tt led _ (c.in_ok-rule_in-2.ensures led)
    (on _ _ led tt g3.led _ g3.is
    (off _ _ g3.led _ (c.in_err-lead_in-2.ensures d g3.led g3.marks))))))

pub returns-in_err-rule_in-3-clause-found : goal.returns-in_err-rule_in-3-clause-found
returns-in_err-rule_in-3-clause-found g c =
    let p = err_from_is_err_and c.from_residual-in_err-rule_in-3.result c.from_residual-in_err-rule_in-3.ensures.1 in
    rw (p.1, p.2) (λ f led here marks.
    let K = g.K.Level.reads c.args.level.now in
    let d = content (g.K.Level.basis c.args.level.now) f in
    let g3 = c.in_ok-lead_in.ensures d led marks in
    let g4 = c.in_ok-lead_in-2.ensures d g3.led g3.marks in
    by_tests K d c.args.block c.args.bytes.now c.args.keys.now.low c.args.keys.now.high (slice_index c.args.bytes.now 0 == c.number-number.result) c.is_length.result c.lies_between.result c.number-number.result c.key_length.result c.node_in-node.result led
    here c.number-number.ensures refl c.key_length.ensures (c.is_length.ensures f) c.node_in-node.ensures.node c.lies_between.ensures
    ∙ (on _ _ led tt led _ (c.in_ok-rule_in.ensures led)
    (on _ _ led tt led _ (c.in_ok-rule_in-2.ensures led)
    (on _ _ led tt g3.led _ g3.is
    (on _ _ g3.led tt g4.led _ g4.is
    (off _ _ g4.led _ (c.in_err-rule_in-3.ensures g4.led)))))))

pub returns-in_err-name-clause-found : goal.returns-in_err-name-clause-found
returns-in_err-name-clause-found g c =
    let p = err_from_is_err_and c.from_residual-in_err-name.result c.from_residual-in_err-name.ensures.1 in
    rw (p.1, p.2) (λ f led here marks.
    let K = g.K.Level.reads c.args.level.now in
    let d = content (g.K.Level.basis c.args.level.now) f in
    let g3 = c.in_ok-lead_in.ensures d led marks in
    let g4 = c.in_ok-lead_in-2.ensures d g3.led g3.marks in
    by_tests K d c.args.block c.args.bytes.now c.args.keys.now.low c.args.keys.now.high (slice_index c.args.bytes.now 0 == c.number-number.result) c.is_length.result c.lies_between.result c.number-number.result c.key_length.result c.node_in-node.result led
    here c.number-number.ensures refl c.key_length.ensures (c.is_length.ensures f) c.node_in-node.ensures.node c.lies_between.ensures
    ∙ (on _ _ led tt led _ (c.in_ok-rule_in.ensures led)
    (on _ _ led tt led _ (c.in_ok-rule_in-2.ensures led)
    (on _ _ led tt g3.led _ g3.is
    (on _ _ g3.led tt g4.led _ g4.is
    (on _ _ g4.led tt g4.led _ (c.in_ok-rule_in-3.ensures g4.led)
    (off _ _ g4.led _ (c.in_err-name.ensures f g4.led))))))))

pub returns-in_err-key_tail-clause-found : goal.returns-in_err-key_tail-clause-found
returns-in_err-key_tail-clause-found g c =
    let p = err_from_is_err_and c.from_residual-in_err-key_tail.result c.from_residual-in_err-key_tail.ensures.1 in
    rw (p.1, p.2) (λ f led here marks.
    let K = g.K.Level.reads c.args.level.now in
    let d = content (g.K.Level.basis c.args.level.now) f in
    let g3 = c.in_ok-lead_in.ensures d led marks in
    let g4 = c.in_ok-lead_in-2.ensures d g3.led g3.marks in
    by_tests K d c.args.block c.args.bytes.now c.args.keys.now.low c.args.keys.now.high (slice_index c.args.bytes.now 0 == c.number-number.result) c.is_length.result c.lies_between.result c.number-number.result c.key_length.result c.node_in-node.result led
    here c.number-number.ensures refl c.key_length.ensures (c.is_length.ensures f) c.node_in-node.ensures.node c.lies_between.ensures
    ∙ (on _ _ led tt led _ (c.in_ok-rule_in.ensures led)
    (on _ _ led tt led _ (c.in_ok-rule_in-2.ensures led)
    (on _ _ led tt g3.led _ g3.is
    (on _ _ g3.led tt g4.led _ g4.is
    (on _ _ g4.led tt g4.led _ (c.in_ok-rule_in-3.ensures g4.led)
    (on _ _ g4.led (g.K.Level.named c.in_ok-name.name) g4.led _ (c.in_ok-name.ensures f g4.led)
    (off _ _ g4.led _ (c.in_err-key_tail.ensures g4.led)))))))))

pub returns-in_err-value-clause-found : goal.returns-in_err-value-clause-found
returns-in_err-value-clause-found g c =
    let p = err_from_is_err_and c.from_residual-in_err-value.result c.from_residual-in_err-value.ensures.1 in
    rw (p.1, p.2) (λ f led here marks.
    let K = g.K.Level.reads c.args.level.now in
    let d = content (g.K.Level.basis c.args.level.now) f in
    let g3 = c.in_ok-lead_in.ensures d led marks in
    let g4 = c.in_ok-lead_in-2.ensures d g3.led g3.marks in
    by_tests K d c.args.block c.args.bytes.now c.args.keys.now.low c.args.keys.now.high (slice_index c.args.bytes.now 0 == c.number-number.result) c.is_length.result c.lies_between.result c.number-number.result c.key_length.result c.node_in-node.result led
    here c.number-number.ensures refl c.key_length.ensures (c.is_length.ensures f) c.node_in-node.ensures.node c.lies_between.ensures
    ∙ (on _ _ led tt led _ (c.in_ok-rule_in.ensures led)
    (on _ _ led tt led _ (c.in_ok-rule_in-2.ensures led)
    (on _ _ led tt g3.led _ g3.is
    (on _ _ g3.led tt g4.led _ g4.is
    (on _ _ g4.led tt g4.led _ (c.in_ok-rule_in-3.ensures g4.led)
    (on _ _ g4.led (g.K.Level.named c.in_ok-name.name) g4.led _ (c.in_ok-name.ensures f g4.led)
    (on _ _ g4.led tt g4.led _ (c.in_ok-key_tail.ensures g4.led)
    (off _ _ g4.led _ (c.in_err-value.ensures f g4.led g4.marks))))))))))

pub returns-in_err-value_tail-clause-found : goal.returns-in_err-value_tail-clause-found
returns-in_err-value_tail-clause-found g c =
    let p = err_from_is_err_and c.from_residual-in_err-value_tail.result c.from_residual-in_err-value_tail.ensures.1 in
    rw (p.1, p.2) (λ f led here marks.
    let K = g.K.Level.reads c.args.level.now in
    let d = content (g.K.Level.basis c.args.level.now) f in
    let g3 = c.in_ok-lead_in.ensures d led marks in
    let g4 = c.in_ok-lead_in-2.ensures d g3.led g3.marks in
    let g8 = c.in_ok-value.ensures f g4.led g4.marks in
    by_tests K d c.args.block c.args.bytes.now c.args.keys.now.low c.args.keys.now.high (slice_index c.args.bytes.now 0 == c.number-number.result) c.is_length.result c.lies_between.result c.number-number.result c.key_length.result c.node_in-node.result led
    here c.number-number.ensures refl c.key_length.ensures (c.is_length.ensures f) c.node_in-node.ensures.node c.lies_between.ensures
    ∙ (on _ _ led tt led _ (c.in_ok-rule_in.ensures led)
    (on _ _ led tt led _ (c.in_ok-rule_in-2.ensures led)
    (on _ _ led tt g3.led _ g3.is
    (on _ _ g3.led tt g4.led _ g4.is
    (on _ _ g4.led tt g4.led _ (c.in_ok-rule_in-3.ensures g4.led)
    (on _ _ g4.led (g.K.Level.named c.in_ok-name.name) g4.led _ (c.in_ok-name.ensures f g4.led)
    (on _ _ g4.led tt g4.led _ (c.in_ok-key_tail.ensures g4.led)
    (on _ _ g4.led c.in_ok-value.value g8.led _ g8.is
    (off _ _ g8.led _ (c.in_err-value_tail.ensures g8.led)))))))))))

pub returns-clause-found : goal.returns-clause-found
returns-clause-found g c f led here marks =
    let K = g.K.Level.reads c.args.level.now in
    let d = content (g.K.Level.basis c.args.level.now) f in
    let g3 = c.in_ok-lead_in.ensures d led marks in
    let g4 = c.in_ok-lead_in-2.ensures d g3.led g3.marks in
    let g8 = c.in_ok-value.ensures f g4.led g4.marks in
    record {
      led = g8.led;
      is = by_tests K d c.args.block c.args.bytes.now c.args.keys.now.low c.args.keys.now.high (slice_index c.args.bytes.now 0 == c.number-number.result) c.is_length.result c.lies_between.result c.number-number.result c.key_length.result c.node_in-node.result led
          here c.number-number.ensures refl c.key_length.ensures (c.is_length.ensures f) c.node_in-node.ensures.node c.lies_between.ensures
          ∙ (on _ _ led tt led _ (c.in_ok-rule_in.ensures led)
          (on _ _ led tt led _ (c.in_ok-rule_in-2.ensures led)
          (on _ _ led tt g3.led _ g3.is
          (on _ _ g3.led tt g4.led _ g4.is
          (on _ _ g4.led tt g4.led _ (c.in_ok-rule_in-3.ensures g4.led)
          (on _ _ g4.led (g.K.Level.named c.in_ok-name.name) g4.led _ (c.in_ok-name.ensures f g4.led)
          (on _ _ g4.led tt g4.led _ (c.in_ok-key_tail.ensures g4.led)
          (on _ _ g4.led c.in_ok-value.value g8.led _ g8.is
          (on _ _ g8.led tt g8.led _ (c.in_ok-value_tail.ensures g8.led)
          (found_there g.K.Level.named c.node_in-node.result c.number-number.result K.kind c.args.bytes.now c.found_in.result c.in_ok-name.name c.in_ok-value.value g8.led c.node_in-node.ensures.node c.number-number.ensures c.found_in.ensures))))))))));
      marks = g8.marks;
    }

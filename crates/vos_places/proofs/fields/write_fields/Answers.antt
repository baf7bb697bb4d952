use Rattle.std.proofs.Common.{◌≡◌, ◌∙◌, suc, ap, sym, arith, add-one, length, take, get_or, ◌++◌}
use Rattle.byteorder.specs.Endian.{big_bytes}
use Rattle.vos_values.specs.Fields.{packed, padded}
use Rattle.vos_values.proofs.Packing.{packed_more, packed_first, first_length, narrow_at}
use Rattle.vos_places.proofs.fields.write_fields.Goals as goal

pub write_number-requires-clause-narrow : goal.write_number-requires-clause-narrow
write_number-requires-clause-narrow c = narrow_at c.loop-field.field-index c.args.fields.now c.requires.narrow c.loop-field-test.true

pub write_number-requires-clause-room : goal.write_number-requires-clause-room
write_number-requires-clause-room c =
    let i = c.loop-field.field-index in
    let fs = c.args.fields.now in
    omega (arith, c.loop-field.invariant.at_is, c.loop-field.invariant.room_kept, c.requires.room, first_length i fs c.loop-field-test.true, packed_first (suc i) fs)

pub overflow_add-at : goal.overflow_add-at
overflow_add-at c =
    let i = c.loop-field.field-index in
    let fs = c.args.fields.now in
    omega (arith, c.loop-field.invariant.at_is, c.loop-field.invariant.room_kept, c.requires.room, c.requires.small, first_length i fs c.loop-field-test.true, packed_first (suc i) fs)

pub loop-field-preserved : goal.loop-field-preserved
loop-field-preserved c =
    let i = c.loop-field.field-index in
    let fs = c.args.fields.now in
    let more = packed_more i fs c.loop-field-test.true in
    let longer = first_length i fs c.loop-field-test.true in
    let kept = c.write_number.ensures.room_kept in
    let same : length c.loop-field.to ≡ length c.write_number.new.to = sym kept in
    record {
      at_is = rw add-one (omega (arith, c.loop-field.invariant.at_is, longer));
      to_is = rw add-one (c.write_number.ensures.written (packed (take i fs)) (sym c.loop-field.invariant.at_is) c.loop-field.invariant.to_is
          ∙ (ap (λ n. padded n (packed (take i fs) ++ big_bytes (get_or fs i (0, 0)).0 (get_or fs i (0, 0)).1)) same ∙ ap (padded (length c.write_number.new.to)) (sym more)));
      room_kept = kept ∙ c.loop-field.invariant.room_kept;
    }

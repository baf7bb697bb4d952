use Rattle.std.proofs.Common.{◌≡◌, length, take}
use Rattle.vos_values.specs.Fields.{packed, padded}
use Rattle.vos_places.proofs.fields.write_fields.Given as goal

-- the fields so far stand in front
abbrev pub invariant-loop-field : goal.invariant-loop-field
invariant-loop-field l = record {
  at_is : l.at ≡ length (packed (take l.field-index l.fields));
  to_is : l.to ≡ padded (length l.to) (packed (take l.field-index l.fields));
  room_kept : length l.to ≡ length l.initial.to;
}

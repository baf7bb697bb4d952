use Rattle.std.proofs.Common.{refl}
use Rattle.vos_image.specs.Places.{cont_in}
use Rattle.vos_check_places.proofs.conts.row_of.Goals as goal

pub returns-clause-row : goal.returns-clause-row
unfolding cont_in
returns-clause-row c f p k = rw (k.why, k.floor, k.reason, k.aggregated, k.ordinal, k.uuid, c.floor_of.ensures, c.why_of.ensures) refl

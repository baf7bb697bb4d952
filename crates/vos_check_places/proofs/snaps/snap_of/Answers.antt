use Rattle.std.proofs.Common.{refl}
use Rattle.vos_image.specs.Places.{snap_in}
use Rattle.vos_check_places.proofs.snaps.snap_of.Goals as goal

pub returns : goal.returns
unfolding snap_in
returns c f p k = rw (k.used, k.epoch, k.uuid) refl

use Rattle.std.proofs.Common.{All, take}
use Rattle.vos_pool_read.specs.Sound.{IsSound}
use Rattle.vos_pool_read.proofs.sound.are_sound.Given as goal

abbrev pub invariant-loop-version : goal.invariant-loop-version
invariant-loop-version l = All IsSound (take l.version-index l.versions)

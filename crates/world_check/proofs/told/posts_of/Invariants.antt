use Rattle.std.proofs.Common.{◌≡◌, map, take}
use Rattle.world_check.specs.Told.{post_of}
use Rattle.world_check.proofs.told.posts_of.Given as goal

abbrev pub invariant-loop-letter : goal.invariant-loop-letter
invariant-loop-letter l = l.posts ≡ map post_of (take l.letter-index l.letters)

use Rattle.std.proofs.Common.{◌≡◌}
use Rattle.world_base.specs.Letters.{letters_of}
use Rattle.world_list.proofs.follow.letters_of.Given as goal

-- the posts so far are letters
abbrev pub invariant-loop-post : goal.invariant-loop-post
invariant-loop-post l = l.letters.items ≡ letters_of l.from l.yielded

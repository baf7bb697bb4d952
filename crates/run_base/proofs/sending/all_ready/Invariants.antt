use Rattle.std.proofs.Common.{◌≡◌}
use Rattle.world_base.specs.Letters.{letters_of}
use Rattle.run_base.proofs.sending.all_ready.Given as goal

-- the letters so far are those of the messages so far
abbrev pub invariant-loop-post : goal.invariant-loop-post
invariant-loop-post l = l.all.items ≡ letters_of l.from l.yielded

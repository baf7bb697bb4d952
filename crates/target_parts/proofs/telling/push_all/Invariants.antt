use Rattle.std.proofs.Common.{◌≡◌, ◌++◌}
use Rattle.target_parts.proofs.telling.push_all.Given as goal

-- the messages so far were added
abbrev pub invariant-loop-post : goal.invariant-loop-post
invariant-loop-post l = l.posts ≡ l.fn.posts ++ l.yielded

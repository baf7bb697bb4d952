use Rattle.std.specs.Prelude.{◌≡◌, map, take}
use Rattle.dtx_base.specs.Leading.{commit_mark}
use Rattle.dtx_table.proofs.posts.commit_marks.Given as goal

abbrev pub invariant-loop-attempt : goal.invariant-loop-attempt
invariant-loop-attempt l = l.marks ≡ map commit_mark (take l.attempt-index l.attempts)

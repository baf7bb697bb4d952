use Rattle.std.proofs.Common.{◌≡◌, [], false, arith}
use Rattle.dtx_base.specs.Leading.{marks_for, names_for, owed}
use Rattle.dtx_base.specs.Members.{all_targets, has_target}
use Rattle.dtx_table.specs.Due.{with_members}
use Rattle.dtx_table.proofs.Batches.{marks_all, marks_next, marks_skip, names_all, names_next, names_skip}
use Rattle.dtx_table.proofs.Dues.{none-owed}
use Rattle.dtx_table.proofs.batch.marks_of.Goals as goal
use Rattle.dtx_table.proofs.batch.marks_of.Goals.{then-has_target+in_ok-told+in_ok-push_commits+in_ok-name, else-has_target}

pub loop-target-preserved : goal.loop-target-preserved
loop-target-preserved c =
    let inc = c.args.incarnation in
    let down = c.args.down in
    let named = c.args.named.now in
    let es = c.args.entries.now in
    elim c.if-has_target.branch [
      | then-has_target+in_ok-told+in_ok-push_commits+in_ok-name w ↦ record {
        posts =
            rw (w.posts-is, w.in_ok-push_commits.ensures, w.deref.ensures.value, w.in_ok-told.ensures)
            (marks_next inc down named es c.loop-target.posts (marks_for inc down named es all_targets) c.loop-target.target 64 (omega arith) c.loop-target.invariant.posts);
        named =
            rw (w.names-is, w.in_ok-name.ensures, w.deref-then-has_target.ensures.value, w.in_ok-told.ensures)
            (names_next inc down named es c.loop-target.names.items (names_for inc down named es all_targets) c.loop-target.target 64 (omega arith) c.loop-target.invariant.named);
      }
      | else-has_target w ↦
          let lacks : has_target (with_members 0 es) c.loop-target.target ≡ false = cc in
          let none : owed down named es c.loop-target.target ≡ [] = none-owed down c.loop-target.target named es lacks in
          record {
            posts = rw w.posts-is (marks_skip inc down named es c.loop-target.posts (marks_for inc down named es all_targets) c.loop-target.target 64 (omega arith) none c.loop-target.invariant.posts);
            named = rw w.names-is (names_skip inc down named es c.loop-target.names.items (names_for inc down named es all_targets) c.loop-target.target 64 (omega arith) none c.loop-target.invariant.named);
          }
    ]

pub returns-clause-posts : goal.returns-clause-posts
returns-clause-posts c =
    marks_all c.args.incarnation c.args.down c.args.named.now c.args.entries.now c.loop-target.posts
    (marks_for c.args.incarnation c.args.down c.args.named.now c.args.entries.now all_targets) c.loop-target.target 64 (omega arith) c.loop-target.invariant.posts

pub returns-clause-named : goal.returns-clause-named
returns-clause-named c =
    names_all c.args.incarnation c.args.down c.args.named.now c.args.entries.now c.loop-target.names.items
    (names_for c.args.incarnation c.args.down c.args.named.now c.args.entries.now all_targets) c.loop-target.target 64 (omega arith) c.loop-target.invariant.named

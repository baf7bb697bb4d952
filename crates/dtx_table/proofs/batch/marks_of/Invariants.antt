use Rattle.std.specs.Prelude.{◌≡◌, ◌++◌, ◌-◌}
use Rattle.std.specs.List.{range_with_len}
use Rattle.dtx_base.specs.Leading.{marks_for, names_for}
use Rattle.dtx_base.specs.Members.{all_targets}
use Rattle.dtx_table.proofs.batch.marks_of.Given as goal

abbrev pub invariant-loop-target : goal.invariant-loop-target
invariant-loop-target l = record {
  posts : l.posts ++ marks_for l.incarnation l.down l.named l.entries (range_with_len l.target (64 - l.target)) ≡ marks_for l.incarnation l.down l.named l.entries all_targets;
  named : l.names.items ++ names_for l.incarnation l.down l.named l.entries (range_with_len l.target (64 - l.target)) ≡ names_for l.incarnation l.down l.named l.entries all_targets;
}

use Rattle.std.specs.Prelude.{◌≡◌, map, take}
use Rattle.dtx_base.specs.Joining.{inquiry_for}
use Rattle.dtx_member.proofs.inquiries.queries.Given as goal

abbrev pub invariant-loop-entry : goal.invariant-loop-entry
invariant-loop-entry l = l.posts ≡ map inquiry_for (take l.entry-index l.entries)

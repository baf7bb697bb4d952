use Rattle.std.specs.Prelude.{◌≡◌, ◌++◌, map, take, drop}
use Rattle.dtx_base.specs.Joining.{inquiry_at}
use Rattle.dtx_member.proofs.inquiries.set_among.Given as goal

abbrev pub invariant-loop-row : goal.invariant-loop-row
invariant-loop-row l = take l.row-index l.rows ++ map (inquiry_at l.attempt l.state) (drop l.row-index l.rows) ≡ map (inquiry_at l.attempt l.state) l.initial.rows

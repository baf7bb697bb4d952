use Rattle.std.proofs.Common.{◌≡◌, ◌∙◌, ap, sym, subst}
use Rattle.std.specs.Prelude.{filter, IfOk}
use Rattle.dtx_base.specs.Leading.{LeaderOf, LeaderStep, is_led, reset_heard, step_of}
use Rattle.dtx_table.specs.Seats.{came, leader_of}
use Rattle.dtx_leader.proofs.Staying.{if-ok, reset-stays, step-is}
use Rattle.dtx_leader.proofs.leader.Leader.hear_reset.Goals as goal

-- the leader that its parts stand for
whole-leader : (c : goal.After-hear_reset) → leader_of c.self.inside.seat c.entries.result.now c.self.inside.decisions ≡ c.args.self.now
whole-leader c =
    let kept : filter (is_led c.self.inside.seat.me) c.entries.result.now ≡ c.self.inside.table = ap (filter (is_led c.self.inside.seat.me)) c.entries.ensures ∙ c.self.invariant in
    rw kept c.self.view_is

pub returns-clause-ok : goal.returns-clause-ok
returns-clause-ok c = if-ok c.hear_reset.result _ _ (λ posts is.
    let s : LeaderStep = reset_heard c.args.target c.args.down c.args.message.now c.args.self.now in
    let came-so : (c.hear_reset.new.self, posts) ≡ came s = is ∙ ap (λ l. came (reset_heard c.args.target c.args.down c.args.message.now l)) (whole-leader c) in
    let seen = ap {A = LeaderOf} {B = LeaderStep} (λ l. step_of (record l { memory = c.hear_reset.new.self }) posts) c.self.view_is in
    seen ∙ step-is c.args.self.now s c.hear_reset.new.self posts (reset-stays c.args.target c.args.down c.args.message.now c.args.self.now) came-so) c.hear_reset.ensures.ok

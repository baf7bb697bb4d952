use Rattle.run_laws.specs.shows.EndsLaws.{picked-among}
use Rattle.std.specs.Prelude.{◌<◌, ◌^◌, None, Some}
use Rattle.std.proofs.Common.{◌∙◌, ap, refl, subst, sym}
use Rattle.run_base.specs.Letters.{IsPicked}
use Rattle.run_base.specs.Numbers.{next_aggregate}
use Rattle.run_base.specs.Picks.{count_to}
use Rattle.run_laws.specs.shows.KindsLaws.{heard-once, idle-once}
use Rattle.run_laws.specs.shows.Turned.{ByHearing, ByIdling}
use Rattle.run_laws.specs.turns.Readings.{gives-none, heard-gives}
use Rattle.run_stage.proofs.Working.{only-messages}
use Rattle.run_laws.specs.target_core.HeardLaws.{held-of_target}
use Rattle.run_laws.specs.target_parts.Readings.{IsReadOn, not-read_on}
use Rattle.run_stage.proofs.work.hear_or_idle.Goals as goal

pub hear-requires-clause-form : goal.hear-requires-clause-form
hear-requires-clause-form g c =
    (c.requires.letters c.take-letter.result c.take-letter.new.self.messages
    (subst (λ a. IsPicked c.args.between.now.messages a c.args.number c.take-letter.result c.take-letter.new.self.messages) c.target_id-2.ensures c.take-letter.ensures.picked)).form

pub hear-requires-clause-here : goal.hear-requires-clause-here
hear-requires-clause-here g c =
    (c.requires.letters c.take-letter.result c.take-letter.new.self.messages
    (subst (λ a. IsPicked c.args.between.now.messages a c.args.number c.take-letter.result c.take-letter.new.self.messages) c.target_id-2.ensures c.take-letter.ensures.picked)).here

pub hear-requires-clause-sender : goal.hear-requires-clause-sender
hear-requires-clause-sender g c held =
    let l = (c.requires.letters c.take-letter.result c.take-letter.new.self.messages
    (subst (λ a. IsPicked c.args.between.now.messages a c.args.number c.take-letter.result c.take-letter.new.self.messages) c.target_id-2.ensures c.take-letter.ensures.picked)) in
    l.few (sym l.kind ∙ held-of_target c.take-letter.result.message held)

-- it heard a letter
pub returns-clause-turned : goal.returns-clause-turned
returns-clause-turned g c =
    let b = c.args.between.now in
    let left = c.take-letter.new.self in
    let lines = c.take-letter.ensures.lines in
    record {
      turned =
          ByHearing c.take-letter.result left.messages c.hear.ensures.turn.0
          (subst (λ a. IsPicked b.messages a c.args.number c.take-letter.result left.messages) c.target_id-2.ensures c.take-letter.ensures.picked)
          (only-messages b left c.take-letter.ensures.asked c.take-letter.ensures.issued lines)
          (λ prune. subst (λ ls. next_aggregate ls < 2 ^ 32) lines (c.in_ok-aggregation.ensures.few prune))
          (λ n its d kept. c.hear.ensures.turn.2 n (λ prune. c.in_ok-aggregation.ensures.drawn prune ∙ ap (λ ls. Some (next_aggregate ls)) lines ∙ ap (λ k. Some k) (sym (its prune))) d kept);
      clock = λ whole. heard-gives g.C.Clock.is_read g.C.Clock.next c.args.t c.take-letter.result.message c.hear.ensures.turn.0 c.args.host.now.clock c.hear.new.self.clock c.hear.ensures.turn.1 (c.hear.ensures.read whole);
    }

-- or it did its idle work
pub returns-then-count_to-eq0-clause-turned : goal.returns-then-count_to-eq0-clause-turned
returns-then-count_to-eq0-clause-turned g c = record {
  turned = ByIdling (ap (λ a. count_to a c.args.between.now.messages) (sym c.target_id.ensures) ∙ sym c.count_to.ensures ∙ c.if-count_to-eq0.true) refl c.idle.ensures.turn;
  clock = λ whole. gives-none g.C.Clock.is_read g.C.Clock.next None c.args.t c.args.host.now.clock c.idle.new.self.clock refl c.idle.ensures.clock;
}

pub returns-clause-posts : goal.returns-clause-posts
returns-clause-posts g c =
    c.hear.ensures.posts
    (c.requires.letters c.take-letter.result c.take-letter.new.self.messages
    (subst (λ a. IsPicked c.args.between.now.messages a c.args.number c.take-letter.result c.take-letter.new.self.messages) c.target_id-2.ensures c.take-letter.ensures.picked)).kind

pub returns-clause-once : goal.returns-clause-once
returns-clause-once g c =
    let b = c.args.between.now in
    let left = c.take-letter.new.self in
    heard-once b left c.target_id-2.result c.args.number c.take-letter.result left.messages c.args.host.now.memory.member c.hear.new.self.memory.member c.hear.result c.take-letter.ensures.picked
    (only-messages b left c.take-letter.ensures.asked c.take-letter.ensures.issued c.take-letter.ensures.lines) c.hear.ensures.reads

pub returns-clause-ends : goal.returns-clause-ends
returns-clause-ends g c asked go =
    c.hear.ensures.ends asked (go c.take-letter.result (picked-among c.args.between.now.messages c.target_id-2.result c.args.number c.take-letter.result c.take-letter.new.self.messages c.take-letter.ensures.picked))

-- idle work doesn't read the clock
pub returns-then-count_to-eq0-clause-clock : goal.returns-then-count_to-eq0-clause-clock
returns-then-count_to-eq0-clause-clock g c = subst (IsReadOn g.C.Clock.is_read c.args.host.now.clock) (sym c.idle.ensures.clock) (not-read_on g.C.Clock.is_read c.args.host.now.clock)

pub returns-then-count_to-eq0-clause-once : goal.returns-then-count_to-eq0-clause-once
returns-then-count_to-eq0-clause-once g c = idle-once c.args.between.now c.args.between.now c.args.host.now.memory.member c.idle.new.self.memory.member c.idle.result refl c.idle.ensures.reads

pub returns-then-count_to-eq0-clause-ends : goal.returns-then-count_to-eq0-clause-ends
returns-then-count_to-eq0-clause-ends g c asked go = c.idle.ensures.ends asked

-- nor does a turn that isn't begun
pub returns-in_err-aggregation-clause-clock : goal.returns-in_err-aggregation-clause-clock
returns-in_err-aggregation-clause-clock g c = not-read_on g.C.Clock.is_read c.args.host.now.clock

use Rattle.std.proofs.Common.{◌+◌, ◌-◌, ◌*◌, ◌/◌, ℕ, Ok, Err, refl, ◌∙◌, arith}
use Rattle.std.proofs.lemmas.Result.{err_from_is_err_and}
use Rattle.vos_check_base.specs.Answers.{content}
use Rattle.vos_check_base.specs.Sets.{open_of}
use Rattle.vos_check_base.proofs.Faults.{blamed, moved}
use Rattle.vos_check_base.proofs.Looking.{read_none, read_then}
use Rattle.vos_check_entries.specs.Nodes.{is_node}
use Rattle.vos_check_entries.specs.Steps.{gives_next, read_list_block}
use Rattle.vos_check_entries.proofs.Walking.{walk_begins, walk_ends, walk_goes, walk_off, walk_stays}
use Rattle.vos_check_entries.proofs.list.list.Goals as goal

pub loop-part-init : goal.loop-part-init
loop-part-init g c = record {
  walked = λ told led marks. rw c.new-seen.ensures (walk_begins _ _ _ c.args.first led _ marks);
  kept = λ told. refl;
  stops = read_none _ _ g.S.Source.looked_none _;
}

pub loop-part-preserved : goal.loop-part-preserved
loop-part-preserved g c =
    let l = c.loop-part in
    let b = c.args.ground.now in
    let f = g.S.Source.bytes c.args.source.now in
    let node = is_node c.args.nodes.now c.args.of.now in
    record {
      walked = λ told led marks.
          let w = l.invariant.walked told led marks in
          let x = moved b f (g.S.Source.bytes l.source) (λ e. read_list_block e node l.block l.seen) (open_of l.fresh) (open_of c.part_at.new.fresh) (gives_next c.part_at.new.seen) (Ok c.in_ok-block.block) (l.invariant.kept told) (c.in_ok-block.ensures.read told b) in
          walk_goes _ node _ c.args.first led _ _ l.seen c.part_at.new.seen l.block c.in_ok-block.block l._part c.if-block-eq0.false (c.args.ground.now.size / 256 - (l._part + 1)) (omega arith) w (x w.led w.marks);
      kept = λ told. c.part_at.ensures.kept told ∙ l.invariant.kept told;
      stops = read_then _ _ g.S.Source.looked_on _ _ _ _ l.invariant.stops c.in_ok-block.ensures.stops;
    }

pub returns-then-block-eq0-clause-read : goal.returns-then-block-eq0-clause-read
returns-then-block-eq0-clause-read g c told led marks =
    let l = c.loop-part in
    walk_ends _ _ _ c.args.first led _ l.seen l.block l._part _ c.if-block-eq0.true c.len.ensures (l.invariant.walked told led marks)

pub returns-then-block-eq0-clause-stops : goal.returns-then-block-eq0-clause-stops
returns-then-block-eq0-clause-stops g c = c.loop-part.invariant.stops

pub returns-in_err-block-clause-read : goal.returns-in_err-block-clause-read
returns-in_err-block-clause-read g c told =
    let p = err_from_is_err_and c.from_residual.result c.from_residual.ensures.1 in
    let l = c.loop-part in
    let b = c.args.ground.now in
    let f = g.S.Source.bytes c.args.source.now in
    let node = is_node c.args.nodes.now c.args.of.now in
    let no = c.in_err-block.field-0.0 in
    rw (p.1, p.2) (λ led marks.
    let w = l.invariant.walked told led marks in
    let x = moved {V = ℕ} b f (g.S.Source.bytes l.source) (λ e. read_list_block e node l.block l.seen) (open_of l.fresh) (open_of c.part_at.new.fresh) (gives_next c.part_at.new.seen) (Err no) (l.invariant.kept told) (c.in_err-block.ensures.read told b) in
    walk_off _ node _ c.args.first led _ l.seen l.block l._part no c.if-block-eq0.false (c.args.ground.now.size / 256 - (l._part + 1)) (omega arith) w (x w.led w.marks))

pub returns-in_err-block-clause-stops : goal.returns-in_err-block-clause-stops
returns-in_err-block-clause-stops g c =
    let p = err_from_is_err_and c.from_residual.result c.from_residual.ensures.1 in
    rw (p.1, p.2) (read_then _ _ g.S.Source.looked_on _ _ _ _ c.loop-part.invariant.stops c.in_err-block.ensures.stops)

pub returns-then-block-ne0-clause-read : goal.returns-then-block-ne0-clause-read
returns-then-block-ne0-clause-read g c told led marks =
    let l = c.loop-part in
    let b = c.args.ground.now in
    let f = g.S.Source.bytes c.args.source.now in
    let stays = walk_stays _ _ _ c.args.first led _ l.seen l.block l._part c.if-block-ne0.true (omega arith) (l.invariant.walked told led marks) in
    blamed (content b f) _ (256 * l.block) (g.S.Source.bytes l.source) c.blame_block.result (l.invariant.kept told) stays (c.blame_block.ensures.blamed told)

pub returns-then-block-ne0-clause-stops : goal.returns-then-block-ne0-clause-stops
returns-then-block-ne0-clause-stops g c = read_then _ _ g.S.Source.looked_on _ _ _ _ c.loop-part.invariant.stops c.blame_block.ensures.stops

pub returns-clause-read : goal.returns-clause-read
returns-clause-read g c told led marks =
    let l = c.loop-part in
    walk_ends _ _ _ c.args.first led _ l.seen l.block l._part _ c.if-block-ne0.false c.len-2.ensures (l.invariant.walked told led marks)

pub returns-clause-stops : goal.returns-clause-stops
returns-clause-stops g c = c.loop-part.invariant.stops

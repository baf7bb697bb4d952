use Rattle.std.proofs.Common.{◌≡◌, ◌-◌, ◌++◌, Some, Ok, Err, ◌∙◌}
use Rattle.std.proofs.lemmas.Result.{err_from_is_err_and}
use Rattle.vos_check_base.specs.vos_image.Trees.{read_below}
use Rattle.vos_check_base.specs.Answers.{content}
use Rattle.vos_check_base.specs.Sets.{open_of}
use Rattle.vos_check_base.proofs.Faults.{moved}
use Rattle.vos_check_trees.specs.Found.{Gathers}
use Rattle.vos_check_trees.proofs.Below.{below_off, below_on, entry_at, left_off, right_goes, thing_off}
use Rattle.vos_check_base.proofs.Looking.{read_none, read_then}
use Rattle.vos_check_trees.proofs.tree.+below.Goals as goal

pub returns-in_err-found-clause-read : goal.returns-in_err-found-clause-read
returns-in_err-found-clause-read g t c told =
    let p = err_from_is_err_and c.from_residual.result c.from_residual.ensures.1 in
    rw (p.1, p.2) (λ led marks. below_off (g.K.Level.reads c.args.level.now) (content (g.K.Level.basis c.args.level.now) (g.S.Source.bytes c.args.source.now)) c.args.most c.args.block c.args.keys.now.low c.args.keys.now.high led c.in_err-found.field-0.0 c.if-block-eq0.false (c.in_err-found.ensures.read told led marks))

pub returns-in_err-below-clause-read : goal.returns-in_err-below-clause-read
returns-in_err-below-clause-read g t c told =
    let K = g.K.Level.reads c.args.level.now in
    let b = g.K.Level.basis c.args.level.now in
    let f = g.S.Source.bytes c.args.source.now in
    let d = content b f in
    let v = c.in_ok-found.found in
    let low = c.args.keys.now.low in
    let high = c.args.keys.now.high in
    let p = err_from_is_err_and c.from_residual-in_err-below.result c.from_residual-in_err-below.ensures.1 in
    let no = c.in_err-below.field-0.0 in
    let ends = moved {V = Unit {0}} b f (g.S.Source.bytes c.enter.new.source) (λ e. read_below K e (c.args.most - 1) v.links.left low (Some v.key)) (open_of c.enter.new.fresh) (open_of c.below.new.fresh) (λ _ y. Gathers g.K.Level.rows c.args.out.now.items c.below.new.out.items y) (Err no) (c.enter.ensures.kept told) (c.in_err-below.ensures.read told) in
    rw (p.1, p.2) (λ led marks.
    let x = c.in_ok-found.ensures.read told led marks in
    let goes = below_on g.K.Level.named K d c.args.most c.args.block low high v x.value led x.gives.led c.if-block-eq0.false x.gives.is x.shows in
    left_off K d (c.args.most - 1) low high v.links.left v.links.right v.key (g.K.Level.named v.name) v.value (entry_at c.args.block x.value.node) x.gives.led (read_below K d c.args.most c.args.block low high led) no goes (ends x.gives.led x.gives.marks))

pub returns-in_err-thing-clause-read : goal.returns-in_err-thing-clause-read
returns-in_err-thing-clause-read g t c told =
    let K = g.K.Level.reads c.args.level.now in
    let b = g.K.Level.basis c.args.level.now in
    let f = g.S.Source.bytes c.args.source.now in
    let d = content b f in
    let v = c.in_ok-found.found in
    let low = c.args.keys.now.low in
    let high = c.args.keys.now.high in
    let p = err_from_is_err_and c.from_residual-in_err-thing.result c.from_residual-in_err-thing.ensures.1 in
    let no = c.in_err-thing.field-0.0 in
    let left = moved {V = Unit {0}} b f (g.S.Source.bytes c.enter.new.source) (λ e. read_below K e (c.args.most - 1) v.links.left low (Some v.key)) (open_of c.enter.new.fresh) (open_of c.below.new.fresh) (λ _ y. Gathers g.K.Level.rows c.args.out.now.items c.below.new.out.items y) (Ok (tt {0})) (c.enter.ensures.kept told) (c.in_ok-below.ensures.read told) in
    let ends = moved {V = Unit {0}} b f (g.S.Source.bytes c.below.new.source) (λ e. K.thing e (g.K.Level.named v.name) v.value) (open_of c.below.new.fresh) (open_of c.thing.new.fresh) (λ _ a. c.thing.new.out.items ≡ c.below.new.out.items ++ g.K.Level.rows c.args.block a) (Err no) (c.below.ensures.kept told ∙ c.enter.ensures.kept told) (c.in_err-thing.ensures.read told) in
    rw (p.1, p.2) (λ led marks.
    let x = c.in_ok-found.ensures.read told led marks in
    let goes = below_on g.K.Level.named K d c.args.most c.args.block low high v x.value led x.gives.led c.if-block-eq0.false x.gives.is x.shows in
    let l = left x.gives.led x.gives.marks in
    thing_off K d (c.args.most - 1) low high v.links.left v.links.right v.key (g.K.Level.named v.name) v.value (entry_at c.args.block x.value.node) x.gives.led l.gives.led l.value (read_below K d c.args.most c.args.block low high led) no goes l.gives.is (ends l.gives.led l.gives.marks))

pub returns-clause-read : goal.returns-clause-read
returns-clause-read g t c told led marks =
    let K = g.K.Level.reads c.args.level.now in
    let b = g.K.Level.basis c.args.level.now in
    let f = g.S.Source.bytes c.args.source.now in
    let d = content b f in
    let v = c.in_ok-found.found in
    let low = c.args.keys.now.low in
    let high = c.args.keys.now.high in
    let x = c.in_ok-found.ensures.read told led marks in
    let goes = below_on g.K.Level.named K d c.args.most c.args.block low high v x.value led x.gives.led c.if-block-eq0.false x.gives.is x.shows in
    let left = moved {V = Unit {0}} b f (g.S.Source.bytes c.enter.new.source) (λ e. read_below K e (c.args.most - 1) v.links.left low (Some v.key)) (open_of c.enter.new.fresh) (open_of c.below.new.fresh) (λ _ y. Gathers g.K.Level.rows c.args.out.now.items c.below.new.out.items y) (Ok (tt {0})) (c.enter.ensures.kept told) (c.in_ok-below.ensures.read told) in
    let thing = moved {V = Unit {0}} b f (g.S.Source.bytes c.below.new.source) (λ e. K.thing e (g.K.Level.named v.name) v.value) (open_of c.below.new.fresh) (open_of c.thing.new.fresh) (λ _ a. c.thing.new.out.items ≡ c.below.new.out.items ++ g.K.Level.rows c.args.block a) (Ok (tt {0})) (c.below.ensures.kept told ∙ c.enter.ensures.kept told) (c.in_ok-thing.ensures.read told) in
    let right = moved {V = Unit {0}} b f (g.S.Source.bytes c.thing.new.source) (λ e. read_below K e (c.args.most - 1) v.links.right (Some v.key) high) (open_of c.thing.new.fresh) (open_of c.below-2.new.fresh) (λ _ y. Gathers g.K.Level.rows c.thing.new.out.items c.below-2.new.out.items y) c.below-2.result (c.thing.ensures.kept told ∙ (c.below.ensures.kept told ∙ c.enter.ensures.kept told)) (c.below-2.ensures.read told) in
    let l = left x.gives.led x.gives.marks in
    let a = thing l.gives.led l.gives.marks in
    right_goes g.K.Level.rows K d (c.args.most - 1) low high v.links.left v.links.right v.key (g.K.Level.named v.name) v.value (entry_at c.args.block x.value.node) x.gives.led l.gives.led a.gives.led l.value a.value (read_below K d c.args.most c.args.block low high led)
    c.args.out.now.items c.below.new.out.items c.thing.new.out.items c.below-2.new.out.items (open_of c.below-2.new.fresh) c.below-2.result
    goes l.gives.is a.gives.is l.shows a.shows (right a.gives.led a.gives.marks)

pub returns-then-block-eq0-clause-stops : goal.returns-then-block-eq0-clause-stops
returns-then-block-eq0-clause-stops g t c = read_none _ _ g.S.Source.looked_none _

pub returns-in_err-found-clause-stops : goal.returns-in_err-found-clause-stops
returns-in_err-found-clause-stops g t c =
    let p = err_from_is_err_and c.from_residual.result c.from_residual.ensures.1 in
    rw (p.1, p.2) (c.in_err-found.ensures.stops)

pub returns-in_err-below-clause-stops : goal.returns-in_err-below-clause-stops
returns-in_err-below-clause-stops g t c =
    let p = err_from_is_err_and c.from_residual-in_err-below.result c.from_residual-in_err-below.ensures.1 in
    rw (p.1, p.2) ((read_then _ _ g.S.Source.looked_on _ _ _ _ c.in_ok-found.ensures.stops c.in_err-below.ensures.stops))

pub returns-in_err-thing-clause-stops : goal.returns-in_err-thing-clause-stops
returns-in_err-thing-clause-stops g t c =
    let p = err_from_is_err_and c.from_residual-in_err-thing.result c.from_residual-in_err-thing.ensures.1 in
    rw (p.1, p.2) ((read_then _ _ g.S.Source.looked_on _ _ _ _ c.in_ok-found.ensures.stops (read_then _ _ g.S.Source.looked_on _ _ _ _ c.in_ok-below.ensures.stops c.in_err-thing.ensures.stops)))

pub returns-clause-stops : goal.returns-clause-stops
returns-clause-stops g t c = (read_then _ _ g.S.Source.looked_on _ _ _ _ c.in_ok-found.ensures.stops (read_then _ _ g.S.Source.looked_on _ _ _ _ c.in_ok-below.ensures.stops (read_then _ _ g.S.Source.looked_on _ _ _ _ c.in_ok-thing.ensures.stops c.below-2.ensures.stops)))

use Rattle.std.proofs.Common.{List, subst}
use Rattle.std.proofs.lemmas.Result.{err_from_is_err_and}
use Rattle.vos_check.specs.vos_image.Kinds.{entries}
use Rattle.vos_check.specs.vos_image.Nodes.{Node}
use Rattle.vos_check.specs.vos_image.Trees.{read_tree}
use Rattle.vos_check_base.specs.Answers.{IsFault, Reads, content}
use Rattle.vos_check_base.specs.Sets.{open_of}
use Rattle.vos_check.specs.vos_check_trees.Found.{Gathers}
use Rattle.vos_check_entries.proofs.Gathering.{gathered_entries, one_row}
use Rattle.vos_check_entries.proofs.entries.check_entries.Goals as goal

pub returns-in_err-tree-clause-read : goal.returns-in_err-tree-clause-read
returns-in_err-tree-clause-read g c told =
    let p = err_from_is_err_and c.from_residual-in_err-tree.result c.from_residual-in_err-tree.ensures.1 in
    let d = content c.args.ground.now (g.S.Source.bytes c.args.source.now) in
    rw (p.1, p.2) (λ led marks. subst (λ (z : List Node). IsFault d (read_tree (entries z) d c.args.root led) c.in_err-tree.field-0.0) c.in_ok-new.ensures (c.in_err-tree.ensures.read told led marks))

pub returns-clause-read : goal.returns-clause-read
returns-clause-read g c told led marks =
    let d = content c.args.ground.now (g.S.Source.bytes c.args.source.now) in
    let x = subst (λ (z : List Node). Reads d (read_tree (entries z) d c.args.root led) (open_of c.tree.new.fresh) (λ t. Gathers one_row c.new-out.result.items c.tree.new.out.items t)) c.in_ok-new.ensures (c.in_ok-tree.ensures.read told led marks) in
    record {
      value = x.value;
      gives = x.gives;
      shows = gathered_entries c.new-out.result.items c.tree.new.out.items x.value c.new-out.ensures.items x.shows;
    }

pub returns-in_err-tree-clause-stops : goal.returns-in_err-tree-clause-stops
returns-in_err-tree-clause-stops g c =
    let p = err_from_is_err_and c.from_residual-in_err-tree.result c.from_residual-in_err-tree.ensures.1 in
    rw (p.1, p.2) (c.in_err-tree.ensures.stops)

pub returns-clause-stops : goal.returns-clause-stops
returns-clause-stops g c = c.in_ok-tree.ensures.stops

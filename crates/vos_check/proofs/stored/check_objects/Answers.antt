use Rattle.std.proofs.Common.{◌++◌, ap, ◌∙◌}
use Rattle.std.specs.Prelude.{map}
use Rattle.std.proofs.lemmas.Result.{err_from_is_err_and}
use Rattle.vos_image.specs.vos_path.Objects.{together}
use Rattle.vos_image.specs.Nodes.{nodes_in, object_nodes}
use Rattle.vos_check.specs.Rows.{row_of}
use Rattle.vos_check.proofs.Gathering.{gathered_things}
use Rattle.vos_check.proofs.stored.check_objects.Goals as goal

pub returns-in_err-tree-clause-read : goal.returns-in_err-tree-clause-read
returns-in_err-tree-clause-read g c told =
    let p = err_from_is_err_and c.from_residual.result c.from_residual.ensures.1 in
    rw (p.1, p.2) (λ led marks. c.in_err-tree.ensures.read told led marks)

pub returns-clause-read : goal.returns-clause-read
unfolding nodes_in
returns-clause-read g c told led marks =
    let x = c.in_ok-tree.ensures.read told led marks in
    let all = gathered_things object_nodes c.new-out.result.items c.tree.new.out.items x.value x.shows in
    record { value = x.value; gives = x.gives; shows = all ∙ ap (λ z. z ++ map row_of (together object_nodes x.value.1)) c.new-out.ensures.items }

pub returns-in_err-tree-clause-stops : goal.returns-in_err-tree-clause-stops
returns-in_err-tree-clause-stops g c =
    let p = err_from_is_err_and c.from_residual.result c.from_residual.ensures.1 in
    rw (p.1, p.2) (c.in_err-tree.ensures.stops)

pub returns-clause-stops : goal.returns-clause-stops
returns-clause-stops g c = c.in_ok-tree.ensures.stops

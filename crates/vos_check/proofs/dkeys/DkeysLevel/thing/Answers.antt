use Rattle.std.proofs.Common.{refl}
use Rattle.std.proofs.lemmas.Result.{err_from_is_err_and}
use Rattle.vos_image.specs.Trees.{read_tree}
use Rattle.pmem_pages.specs.Node.{key_text}
use Rattle.vos_image.specs.Kinds.{akeys, logs}
use Rattle.vos_image.specs.Nodes.{akey_nodes}
use Rattle.vos_check_base.specs.Answers.{content}
use Rattle.vos_check_base.specs.Sets.{open_of}
use Rattle.vos_check_base.proofs.Faults.{fault_by}
use Rattle.vos_check_base.proofs.Steps.{off, on}
use Rattle.vos_check_trees.specs.Found.{Gathers}
use Rattle.vos_check.proofs.Gathering.{branch_gathers, rows_in}
use Rattle.vos_check.proofs.Moving.{fault_moved, reads_moved}
use Rattle.vos_check_base.proofs.Looking.{read_then}
use Rattle.vos_check.proofs.dkeys.DkeysLevel.thing.Goals as goal

pub returns-in_err-tree-clause-read : goal.returns-in_err-tree-clause-read
returns-in_err-tree-clause-read g c told =
    let p = err_from_is_err_and c.from_residual.result c.from_residual.ensures.1 in
    let b = c.args.self.now.ground in
    let f = g.S.Source.bytes c.args.source.now in
    let d = content b f in
    let ends = c.in_err-tree.ensures.read told in
    rw (p.1, p.2) (λ led marks.
    fault_by d (read_tree logs d c.args.value.log led) _ _ (λ at k. off _ _ led at k) (ends led marks))

pub returns-in_err-tree-2-clause-read : goal.returns-in_err-tree-2-clause-read
returns-in_err-tree-2-clause-read g c told =
    let p = err_from_is_err_and c.from_residual-in_err-tree-2.result c.from_residual-in_err-tree-2.ensures.1 in
    let b = c.args.self.now.ground in
    let f = g.S.Source.bytes c.args.source.now in
    let d = content b f in
    let r0 = c.in_ok-tree.ensures.read told in
    let ends = fault_moved b f (g.S.Source.bytes c.tree.new.source) (λ e. read_tree (akeys c.args.self.now.unit) e c.args.value.below) (open_of c.tree.new.fresh) c.in_err-tree-2.field-0.0 (c.tree.ensures.kept told) (c.in_err-tree-2.ensures.read told) in
    rw (p.1, p.2) (λ led marks.
    let x0 = r0 led marks in
    fault_by d (read_tree (akeys c.args.self.now.unit) d c.args.value.below x0.gives.led) _ _ (λ at k. on _ _ led x0.value x0.gives.led _ x0.gives.is (off _ _ x0.gives.led at k)) (ends x0.gives.led x0.gives.marks))

pub returns-clause-read : goal.returns-clause-read
returns-clause-read g c told led marks =
    let b = c.args.self.now.ground in
    let f = g.S.Source.bytes c.args.source.now in
    let d = content b f in
    let r0 = c.in_ok-tree.ensures.read told in
    let r1 = reads_moved b f (g.S.Source.bytes c.tree.new.source) (λ e. read_tree (akeys c.args.self.now.unit) e c.args.value.below) (open_of c.tree.new.fresh) (open_of c.tree-2.new.fresh) (Gathers (rows_in akey_nodes) c.tree.new.out.items c.tree-2.new.out.items) (c.tree.ensures.kept told) (c.in_ok-tree-2.ensures.read told) in
    let x0 = r0 led marks in
    let x1 = r1 x0.gives.led x0.gives.marks in
    record {
      value = record { name = key_text c.args.name; holds = (x0.value, x1.value) };
      gives = record { led = x1.gives.led; is = on _ _ led x0.value x0.gives.led _ x0.gives.is (on _ _ x0.gives.led x1.value x1.gives.led _ x1.gives.is refl); marks = x1.gives.marks };
      shows = branch_gathers akey_nodes c.args.out.now.items c.tree.new.out.items c.tree-2.new.out.items x0.value x1.value x0.shows x1.shows;
    }

pub returns-in_err-tree-clause-stops : goal.returns-in_err-tree-clause-stops
returns-in_err-tree-clause-stops g c =
    let p = err_from_is_err_and c.from_residual.result c.from_residual.ensures.1 in
    rw (p.1, p.2) (c.in_err-tree.ensures.stops)

pub returns-in_err-tree-2-clause-stops : goal.returns-in_err-tree-2-clause-stops
returns-in_err-tree-2-clause-stops g c =
    let p = err_from_is_err_and c.from_residual-in_err-tree-2.result c.from_residual-in_err-tree-2.ensures.1 in
    rw (p.1, p.2) ((read_then _ _ g.S.Source.looked_on _ _ _ _ c.in_ok-tree.ensures.stops c.in_err-tree-2.ensures.stops))

pub returns-clause-stops : goal.returns-clause-stops
returns-clause-stops g c = (read_then _ _ g.S.Source.looked_on _ _ _ _ c.in_ok-tree.ensures.stops c.in_ok-tree-2.ensures.stops)

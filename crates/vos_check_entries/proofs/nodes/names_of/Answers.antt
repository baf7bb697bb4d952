use Rattle.std.proofs.Common.{ap, subst, drop, ◌+◌, ◌∙◌, List, get_or, cond, true}
use Rattle.std.specs.List.{list_any}
use Rattle.std.specs.HashSet.{contains}
use Rattle.std.proofs.lemmas.List.{drop_all}
use Rattle.vos_check.specs.declared.node.NodeRow.{NodeRow}
use Rattle.vos_check_entries.specs.Nodes.{same_node_name}
use Rattle.vos_check_entries.proofs.Names.{NamesSoFar, names_all, names_more, names_start, next_row}
use Rattle.vos_check_entries.proofs.nodes.names_of.Goals as goal

pub loop-row-init : goal.loop-row-init
loop-row-init c = names_start _ c.args.rows.now (λ k. ap (list_any (same_node_name k)) c.new-names.ensures.empty)

pub loop-row-preserved : goal.loop-row-preserved
loop-row-preserved c =
    let l = c.loop-row in
    let rows = c.args.rows.now in
    let none : NodeRow = record { block = 0; by = record { client = 0; command = 0; attempt = 0 }; epoch = record { 0 = 0 } } in
    let row = get_or rows l.row-index none in
    let here = subst (λ (z : List NodeRow). NamesSoFar (λ k. contains same_node_name l.names k) z rows) (next_row rows l.row-index none c.loop-row-test.true) l.invariant in
    names_more (λ k. contains same_node_name l.names k) (λ k. contains same_node_name c.insert.new.self k) row (drop (l.row-index + 1) rows) rows
    (λ q. c.in_ok-insert.ensures.updates.0 q ∙ ap (λ n. cond (same_node_name n q) true (contains same_node_name l.names q)) c.name_of.ensures) here

pub returns : goal.returns
returns c = names_all _ c.args.rows.now (subst (λ (z : List NodeRow). NamesSoFar (λ k. contains same_node_name c.loop-row.names k) z c.args.rows.now) (drop_all c.loop-row.row-index c.args.rows.now c.loop-row-test.false) c.loop-row.invariant)

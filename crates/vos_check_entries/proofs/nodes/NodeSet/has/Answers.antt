use Rattle.std.proofs.Common.{ap, ◌∙◌}
use Rattle.std.specs.HashSet.{contains}
use Rattle.vos_check_entries.specs.Nodes.{is_node, node_name, same_node_name}
use Rattle.vos_check_entries.proofs.Names.{node_there}
use Rattle.vos_check_entries.proofs.nodes.NodeSet.has.Goals as goal

pub returns : goal.returns
returns c =
    let of = c.args.of.now in
    let name = node_name (record { block = c.args.block; by = of.attempt; epoch = of.epoch }) in
    c.contains.ensures
    ∙ (ap (λ k. contains same_node_name c.self.inside.names k) c.name_of.ensures
    ∙ (c.self.invariant name ∙ (node_there of c.args.block c.self.inside.rows.items ∙ ap (λ ns. is_node ns of c.args.block) c.self.view_is)))

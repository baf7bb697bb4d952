-- What is gathered of nodes.
use Rattle.vos_image.specs.Nodes.{Node}
use Rattle.vos_check.specs.declared.node.NodeRow.{NodeRow}

abbrev pub row_of : Node → NodeRow
row_of n = record { block = n.block; by = n.by; epoch = n.epoch }

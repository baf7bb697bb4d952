-- Nodes by the numbers that name them.
use Rattle.std.specs.Prelude.{◌≡◌, ℕ, Bool, ◌==◌, ◌&&◌, List, map}
use Rattle.std.specs.List.{list_any}
use Rattle.std.specs.HashSet.{HashSet, contains}
use Rattle.vos_check.specs.vos_image.Nodes.{Node, is_of}
use Rattle.vos_check.specs.declared.node.NodeRow.{NodeRow}
use Rattle.vos_check_entries.specs.declared.entry.Lister.{Lister}

-- the node that was gathered so
abbrev pub node_in : NodeRow → Node
node_in r = record { block = r.block; by = r.by; epoch = r.epoch }

-- in a block stands a node that an entry may list
abbrev pub is_node : List Node → Lister → ℕ → Bool
is_node nodes of b = list_any (is_of of.attempt of.epoch b) nodes

-- block and epoch, client, command and attempt
abbrev pub NodeName : Type 0
NodeName = (ℕ × ℕ) × ((ℕ × ℕ) × ℕ)

abbrev pub node_name : NodeRow → NodeName
node_name r = ((r.block, r.epoch.0), ((r.by.client, r.by.command), r.by.attempt))

abbrev pub same_node_name : NodeName → NodeName → Bool
same_node_name a b = ((a.0.0 == b.0.0) && (a.0.1 == b.0.1)) && (((a.1.0.0 == b.1.0.0) && (a.1.0.1 == b.1.0.1)) && (a.1.1 == b.1.1))

-- a set has the names of these nodes, and no others
abbrev pub HasNodeNames : {H : Type 0} → HashSet NodeName H → List NodeRow → Type 0
HasNodeNames names rows = (k : NodeName) → contains same_node_name names k ≡ list_any (same_node_name k) (map node_name rows)

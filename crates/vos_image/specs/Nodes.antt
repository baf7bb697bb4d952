-- The nodes of log entries, single versions and extents: the block of each, and of which attempt and epoch it is.
use Rattle.std.specs.Prelude.{ℕ, Bool, ◌==◌, ◌&&◌, List, [], ◌∷◌, ◌++◌}
use Rattle.base_types.specs.declared.epoch.Epoch.{Epoch}
use Rattle.base_types.specs.declared.id.AttemptId.{AttemptId}
use Rattle.daos_model.specs.Durables.{same_attempt}
use Rattle.pmem_pages.specs.Shape.{Entry, entries as pairs}
use Rattle.vos_entries.specs.vos_levels.Levels.{Hung}
use Rattle.vos_path.specs.vos_ilog.declared.ilog.LogEntry.{LogEntry}
use Rattle.vos_path.specs.vos_single.Singles.{Stored as StoredSingle}
use Rattle.vos_path.specs.vos_extent.Extents.{Stored as StoredExtent}
use Rattle.vos_path.specs.Objects.{Akey, Dkey, Object, Objects, Values, together}

pub record Node : Type 0 where
  pub block : ℕ
  pub by : AttemptId
  pub epoch : Epoch

-- a node in this block, of this attempt and epoch
abbrev pub is_of : AttemptId → Epoch → ℕ → Node → Bool
is_of a e b n = (n.block == b) && (same_attempt n.by a && (n.epoch.0 == e.0))

abbrev pub log_node : ℕ → LogEntry → Node
log_node b v = record { block = b; by = v.by; epoch = v.epoch }

abbrev pub single_node : ℕ → StoredSingle → Node
single_node b s = record { block = b; by = s.version.by; epoch = s.version.epoch }

abbrev pub extent_node : ℕ → StoredExtent → Node
extent_node b s = record { block = b; by = s.extent.by; epoch = s.extent.epoch }

-- entry by entry
abbrev pub nodes_of : {A : Type 0} → (ℕ → A → Node) → List Entry → List A → List Node
nodes_of f [] xs = []
nodes_of f (e ∷ es) [] = []
nodes_of f (e ∷ es) (a ∷ xs) = f e.block a ∷ nodes_of f es xs

abbrev pub tree_nodes : {A : Type 0} → (ℕ → A → Node) → Hung A → List Node
tree_nodes f g = nodes_of f (pairs g.0) g.1

abbrev pub values_nodes : Values → List Node
values_nodes v = tree_nodes log_node v.0 ++ (tree_nodes single_node v.1.0 ++ tree_nodes extent_node v.1.1)

abbrev pub akey_nodes : Akey → List Node
akey_nodes a = values_nodes a.holds

abbrev pub dkey_nodes : Dkey → List Node
dkey_nodes d = tree_nodes log_node d.holds.0 ++ together akey_nodes d.holds.1.1

abbrev pub object_nodes : Object → List Node
object_nodes o = tree_nodes log_node o.holds.0 ++ together dkey_nodes o.holds.1.1

unfoldable pub nodes_in : Objects → List Node
nodes_in g = together object_nodes g.1

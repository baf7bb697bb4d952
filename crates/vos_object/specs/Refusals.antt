-- Why writes weren't settled or pruned by their moments.
use Rattle.pmem_tree_base.specs.declared.refusal.TreeNo.{TreeNo}
use Rattle.pmem_tree_base.specs.declared.refusal.TreeNo.TheVariants as tree
use Rattle.vos_chain.specs.declared.refusal.PiecesNo.{PiecesNo}
use Rattle.vos_chain.specs.declared.refusal.PiecesNo.TheVariants as pieces
use Rattle.vos_object.specs.declared.refusal.SettleNo.{SettleNo}
use Rattle.vos_object.specs.declared.refusal.SettleNo.TheVariants.{TooMuch, Stopped, Memory}

-- a change of trees gives blocks back, so none is wanting
abbrev pub of_tree : TreeNo → SettleNo
of_tree tree.NoBlock = TooMuch
of_tree tree.TooMuch = TooMuch
of_tree tree.Stopped = Stopped

abbrev pub of_pieces : PiecesNo → SettleNo
of_pieces pieces.Stopped = Stopped
of_pieces pieces.Memory = Memory

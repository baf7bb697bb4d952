use Rattle.pmem_pages.proofs.Shapes.{is_tree_on, tree_holds, held_tree}
use Rattle.pmem_pages.proofs.laws.trees_stand_apart.Goals as goal

pub returns-clause-frame : goal.returns-clause-frame
returns-clause-frame c = is_tree_on

pub returns-clause-held : goal.returns-clause-held
returns-clause-held c = tree_holds

pub returns-clause-again : goal.returns-clause-again
returns-clause-again c = held_tree

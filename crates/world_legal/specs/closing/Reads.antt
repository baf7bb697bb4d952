-- When a run is over, what its lines tell of reads is what the transactions that took effect give.
use Rattle.std.specs.Prelude.{ℕ, Bool, List, Some}
use Rattle.std.proofs.Common.{sym, ◌∙◌, ap}
use Rattle.base_types.specs.declared.answer.Answer.{Answer}
use Rattle.base_types.specs.declared.operation.Op.{Op}
use Rattle.base_types.specs.declared.operation.Read.TheVariants as read
use Rattle.base_types.specs.declared.report.Attempt.{Attempt}
use Rattle.model_laws.specs.ReadLaws.{answer-same_map}
use Rattle.daos_model.specs.declared.cell.CellValue.{CellValue}
use Rattle.daos_model.specs.Accesses.{op_path}
use Rattle.daos_model.specs.Answers.{has_cell_below}
use Rattle.daos_model.specs.Finals.{SameMap}
use Rattle.daos_model.specs.ReadsLegal.{IsRightAnswer, IsRightCondition, IsToldRight}
use Rattle.world_base.specs.ClientTurns.{is_yes}
use Rattle.world_standing.specs.world_contents.gots.MoreLaws.{all-more}
use Rattle.world_standing.specs.world_contents.gots.ToldLaws.{yes-is}

-- ---- maps that hold the same

pub right-same : (ops : List Op) (m n : List CellValue) (a : Attempt) → SameMap m n → IsToldRight ops (Some m) a → IsToldRight ops (Some n) a
right-same ops m n a same k = (all-more (IsRightAnswer ops m) (IsRightAnswer ops n) a.gots got k.0, all-more (IsRightCondition ops m) (IsRightCondition ops n) a.conds told k.1)
  where
    got : (x : ℕ × Answer) → IsRightAnswer ops m x → IsRightAnswer ops n x
    got x g = (g.0, g.1, g.2 ∙ answer-same_map g.0 m n same)

    told : (x : ℕ × Bool) → IsRightCondition ops m x → IsRightCondition ops n x
    told x t = (
      t.0,
      t.1,
      t.2,
      t.3 ∙ sym (yes-is (has_cell_below (op_path t.0) m)) ∙ ap is_yes (answer-same_map (read.Exists (op_path t.0)) m n same) ∙ yes-is (has_cell_below (op_path t.0) n),
    )

-- What holds between the steps of a kind of turn, and where a change of it was made in part, holds where a turn of that kind was cut.
use Rattle.std.specs.Prelude.{ℕ, List, Option, Some, refl}
use Rattle.std.proofs.Common.{sym, subst, arith}
use Rattle.base_types.specs.declared.epoch.Epoch.{Epoch}
use Rattle.base_types.specs.declared.id.AttemptId.{AttemptId}
use Rattle.base_types.specs.declared.report.Line.{Line}
use Rattle.daos_model.specs.declared.durable.Durable.{Durable}
use Rattle.world_base.specs.Changes.{After, Before, Change, Cut, InPart, IsPartly, Kept, Steps, made}
use Rattle.world_base.specs.CutTurns.{CutHere, CutTurn, Cutting, InChange, InQuestion}
use Rattle.world_base.specs.PathLaws.{path-keeps}

module _ {S : Type 0} (Next : S → Kept → Option Change → S → Type 0) (issues : S → List (AttemptId × Epoch)) (t : ℕ) (P : S → Kept → Type 0) (D : Durable → Type 0)
    (step : (s : S) (k : Kept) (o : Option Change) (u : S) (l : Kept) → Next s k o u → Steps o k l → P s k → P u l)
    (part : (s : S) (k : Kept) (c : Change) (u : S) (x : Durable) → Next s k (Some c) u → P s k → IsPartly c k.durable x → D x) (sound : (s : S) (k : Kept) → P s k → D k.durable) where
  -- a change that was cut was made, or it wasn't, or it was in part
  left-holds : (last next : S) (mid : Kept) (c : Change) (left : Durable) → Next last mid (Some c) next → P last mid → Cut c mid.durable left → D left
  left-holds last next mid c left is p (Before same) = subst D (sym same) (sound last mid p)
  left-holds last next mid c left is p (After same) =
      subst D (sym same) (sound next (record { durable = made c mid.durable; free = mid.free }) (step last mid (Some c) next (record { durable = made c mid.durable; free = mid.free }) is (refl, omega arith) p))
  left-holds last next mid c left is p (InPart partly) = part last mid c next left is p partly

  here-holds : (last : S) (mid left : Kept) (lines : List Line) → P last mid → CutHere Next t last mid left lines → D left.durable
  here-holds last mid left lines p (InChange c next is cut free) = left-holds last next mid c left.durable is p cut
  here-holds last mid left lines p (InQuestion same free) = subst D (sym same) (sound last mid p)

  pub parts-keep : (start : S) (old : Kept) (cut : Cutting) → CutTurn Next issues t start old cut → P start old → D cut.left.durable
  parts-keep start old cut g p = here-holds g.last g.mid cut.left g.lines (path-keeps Next P step start old g.did g.last g.mid g.path p) g.here

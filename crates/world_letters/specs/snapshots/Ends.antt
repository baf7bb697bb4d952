-- In the end, lines of freezes, snapshots and aggregations come of attempts that have lines.
use Rattle.std.specs.Prelude.{ℕ, ◌≡◌, List, All, Some}
use Rattle.std.proofs.Common.{◌∙◌, ap}
use Rattle.base_types.specs.declared.epoch.Epoch.{Epoch}
use Rattle.base_types.specs.declared.id.AttemptId.{AttemptId}
use Rattle.base_types.specs.declared.id.ContId.{ContId}
use Rattle.base_types.specs.declared.report.Attempt.{Attempt}
use Rattle.base_types.specs.declared.report.Line.{Line}
use Rattle.base_types.specs.declared.report.Line.TheVariants as line
use Rattle.world_base.specs.model_laws.Lists.{any-of}
use Rattle.daos_model.specs.Attempts.{tries}
use Rattle.daos_model.specs.Snapshots.{Aggregates, ComesFrom, MakesSnapshot, MakesSnapshotAt}
use Rattle.daos_model.specs.Transactions.{command_of}
use Rattle.world_base.specs.declared.world.World.{World}
use Rattle.world_base.specs.Events.{Rules}
use Rattle.world_letters.specs.lives.Adding.{all-of}
use Rattle.world_letters.specs.snapshots.Laws.{AllHaveLines}
use Rattle.world_letters.specs.snapshots.Makings.{ComesOf, IsSnapOf, Makings}

module _ (r : Rules) (w : World) (k : Makings r w) (all : AllHaveLines w) where
  made : (x : AttemptId) (name : List ℕ) (c : ContId) (e : Epoch) (a : Attempt) → IsSnapOf r x name c → a.id ≡ x → a.epoch ≡ Some e → MakesSnapshot r.script name c e a
  made x name c e a of id at = record { command = ap (command_of r.script) id ∙ of; issued = at }

  one : (l : Line) → ComesOf r w.issued l → ComesFrom r.script (tries w.lines) l
  one (line.Freeze t c e) h = let a = all h.0 e h.1 in any-of (MakesSnapshotAt r.script c e) (tries w.lines) a.0 a.1 (h.2.0, made h.0 h.2.0 c e a.0 h.2.1 a.2 a.3)
  one (line.Snapshot name c e) h = let a = all h.0 e h.1 in any-of (MakesSnapshot r.script name c e) (tries w.lines) a.0 a.1 (made h.0 name c e a.0 h.2 a.2 a.3)
  one (line.Aggregate n t c upto) h =
      let a = all h.0 h.1 h.2 in any-of (Aggregates r.script c upto) (tries w.lines) a.0 a.1 (record { command = ap (command_of r.script) a.2 ∙ h.3; epoch = h.1; issued = a.3; reaches = h.4 })
  one (line.Try a) h = tt
  one (line.Stop n t) h = tt
  one (line.Restart n t inc floor) h = tt
  one (line.Down t) h = tt

  pub lines-come : All (ComesFrom r.script (tries w.lines)) w.lines
  lines-come = all-of (ComesFrom r.script (tries w.lines)) w.lines (λ l i. one l (k.lines l i))

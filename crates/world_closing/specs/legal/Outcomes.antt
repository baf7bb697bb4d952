-- When a run is over, the outcomes that its lines tell are legal, and so is what lines tell of snapshots, aggregations and stops.
use Rattle.std.specs.Prelude.{ℕ, ◌≡◌, ◌≢◌, ◌<◌, true, false, is_some, length, List, [], Option, Some, refl}
use Rattle.std.proofs.Common.{sym, ◌∙◌, ap, inl, inr, arith}
use Rattle.base_types.specs.declared.id.AttemptId.{AttemptId}
use Rattle.base_types.specs.declared.operation.Op.{Op}
use Rattle.base_types.specs.declared.outcome.Outcome.TheVariants as outcome
use Rattle.base_types.specs.declared.report.Attempt.{Attempt}
use Rattle.base_types.specs.declared.script.Command.TheVariants.{Run}
use Rattle.base_types.specs.declared.script.Script.{Script}
use Rattle.base_types.specs.Scripts.{IsInForm}
use Rattle.model_laws.specs.DecidedLaws.{all-from_has, has-all}
use Rattle.model_laws.specs.Members.{Has, contains-from_has}
use Rattle.daos_model.specs.declared.durable.Version.{Version}
use Rattle.daos_model.specs.Attempts.{snapshot_of, tries}
use Rattle.daos_model.specs.Conditions.{ConditionsLegal}
use Rattle.daos_model.specs.Opening.{Given, Outside}
use Rattle.daos_model.specs.Order.{AllInTurn}
use Rattle.daos_model.specs.OutcomesLegal.{OutcomesLegal}
use Rattle.daos_model.specs.Stops.{StopsLegal}
use Rattle.daos_model.specs.Transactions.{attempt_ops, command_of, ops_or_none}
use Rattle.world_base.specs.declared.world.World.{World}
use Rattle.world_base.specs.Events.{Rules}
use Rattle.world_commit.specs.attempts.History.{History}
use Rattle.world_answers.specs.world_contents.gots.Gots.{IsLineServed}
use Rattle.world_upheld.specs.below.Legal.{ended-well, ends-right, report_over, whole-issued}
use Rattle.world_letters.specs.clients.Answered.{IsAnsweredWhole}
use Rattle.world_letters.specs.lines.LastLines.{AreDone, HasClients, lines-in-turn}
use Rattle.world_letters.specs.lives.Counting.{AreCountedSo}
use Rattle.world_letters.specs.lives.Legal.{AreCaused, NoneIsStopped, stops-legal}
use Rattle.world_closing.specs.Rules.{rules_of}
use Rattle.world_upheld.specs.upheld.Named.{command-knows}
use Rattle.world_upheld.specs.upheld.Upheld.{Upheld}
use Rattle.world_closing.specs.legal.Naming.{ReadsNameSnapshots}
use Rattle.world_closing.specs.legal.Snapshots.{snapshots-are_legal}

-- an attempt of a transaction has an operation
ops-some : (s : Script) (x : AttemptId) (ops : List Op) (turns : List ℕ) (snapshot : Option (List ℕ)) → IsInForm s.targets s → command_of s x ≡ Some (Run ops turns snapshot) → attempt_ops s x ≢ []
ops-some s x ops turns snapshot form command none =
    let k = command-knows s x (Run ops turns snapshot) form command in
    let some : 0 < length ops = k.1.0.some in
    let empty : ops ≡ [] = sym (ap ops_or_none command) ∙ none in
    let short : length ops ≡ 0 = ap length empty in
    omega (arith, some, short)

-- What the outcomes of a report stand on: all that is upheld, that readers of snapshots read as named, that only they end for want of one; that
-- there is a target for each number, and a client for each list, that all clients are done, and no target is stopped.
pub record OutcomesHold (g : Given) (held : ℕ → List Version) (h : History) (v : World) : Type 0 where
  pub upheld : Upheld (rules_of g) g.opening held h v
  pub names : ReadsNameSnapshots (rules_of g) g.opening v
  pub wants : (a : Attempt) → Has a (tries v.lines) → a.outcome ≡ outcome.NoSnapshot → is_some (snapshot_of g.script a.id) ≡ true
  pub targets : length v.targets ≡ g.script.targets
  pub clients : HasClients (rules_of g) v
  pub done : AreDone (rules_of g) v
  pub none_stopped : NoneIsStopped v

module _ (g : Given) (outside : Outside) (held : ℕ → List Version) (h : History) (v : World) (k : OutcomesHold g held h v) where
  abbrev r : Rules
  r = rules_of g

  pub in-turn : AllInTurn g.job.attempts g.script v.lines
  in-turn = lines-in-turn r v k.upheld.grounds.lines k.done k.clients

  one : (a : Attempt) → Has a (tries v.lines) → ConditionsLegal g.script a
  one a i = ends-right (attempt_ops g.script a.id) a a.outcome issued (ended-well r v a k.upheld.grounds.lines i)
    where
      issued : a.outcome ≡ outcome.Committed → IsAnsweredWhole (attempt_ops g.script a.id) a → is_some a.epoch ≡ true
      issued committed whole = elim (k.names.dated a i committed) [
        | inl has ↦ has
        | inr runs ↦
            whole-issued r h a (has-all (IsLineServed r h) (tries v.lines) a k.upheld.contents.gots.lines i)
            (λ writes. let e = (k.upheld.grounds.outcomes.lines a (contains-from_has (tries v.lines) a i) writes).committed committed in (e.0, e.1))
            (ops-some g.script a.id runs.0 runs.1 runs.2 k.upheld.grounds.heard.form runs.3) whole
      ]

  module _ (caused : AreCaused g.script outside v) (counted : g.job.threads ≡ false → AreCountedSo v) where
    stops : StopsLegal g.script g.job.threads outside (report_over r v)
    stops = stops-legal g.script g.job.threads outside v k.upheld.grounds.lives k.none_stopped caused (report_over r v) refl k.targets counted refl

    pub outcomes-legal : OutcomesLegal g outside (report_over r v)
    outcomes-legal = record {
      targets = refl;
      in_turn = in-turn;
      issued = k.upheld.grounds.heard.epochs.distinct;
      rising = k.upheld.grounds.heard.epochs.risen;
      conditions = all-from_has (ConditionsLegal g.script) (tries v.lines) one;
      snapshots = snapshots-are_legal r g.opening v k.upheld.grounds.heard.form k.upheld.grounds.heard.epochs k.done in-turn k.upheld.grounds.heard.makings k.upheld.grounds.heard.freezings k.names k.wants;
      stops = stops;
    }

-- What lines tell of outcomes is legal where stops and given up targets were caused from outside, and where restarts and aggregations are counted
-- if turns are taken in a stated order.
abbrev pub AllOutcomesAreLegal : Type 0
AllOutcomesAreLegal =
    (g : Given) (outside : Outside) (held : ℕ → List Version) (h : History) (v : World) → OutcomesHold g held h v → AreCaused g.script outside v → (g.job.threads ≡ false → AreCountedSo v)
    → OutcomesLegal g outside (report_over (rules_of g) v)

pub outcomes-are_legal : AllOutcomesAreLegal
outcomes-are_legal g outside held h v k caused counted = outcomes-legal g outside held h v k caused counted

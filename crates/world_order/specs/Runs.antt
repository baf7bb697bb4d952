-- A run of any script begins in the order of real time, stands in it at each moment, and so its lines are externally consistent where clocks keep
-- the bound.
use Rattle.std.specs.Prelude.{◌≡◌, ◌≤◌, ◌++◌, List, [], ◌∷◌}
use Rattle.std.proofs.Common.{sym, ◌∙◌, ap, subst}
use Rattle.base_types.specs.declared.report.Attempt.{Attempt}
use Rattle.base_types.specs.declared.report.Line.{Line}
use Rattle.daos_model.specs.Attempts.{tries}
use Rattle.daos_model.specs.Opening.{Opening}
use Rattle.model_laws.specs.Members.{Has, has-from_contains}
use Rattle.world_base.specs.declared.world.World.{World}
use Rattle.world_base.specs.Events.{Rules}
use Rattle.world_base.specs.Stops.{Begins, Goes, WorldRun}
use Rattle.world_upheld.specs.world_commit.attempts.History.{History}
use Rattle.world_upheld.specs.below.Standing.{AreExternallyConsistent, AreInOrder, KeepsTheBound}
use Rattle.world_upheld.specs.upheld.Begins.{AreRulesInForm, RunBeginsWith, held_at, no_history}
use Rattle.world_upheld.specs.upheld.Runs.{held-first, upheld-begins}
use Rattle.world_order.specs.Events.{all-events-keep_order}
use Rattle.world_order.specs.Lines.{lines-are_consistent}
use Rattle.world_order.specs.Standing.{StandsInOrder}

-- ---- the statements

-- a run of a script in form begins so, of nothing decided, aborted or served
abbrev pub RunsBeginInOrder : Type 0
RunsBeginInOrder = (r : Rules) (o : Opening) (w : World) → AreRulesInForm r → RunBeginsWith r o w → StandsInOrder r o (held_at w) no_history w

-- and it is so at each moment of the run, of what was decided, aborted and served by then
abbrev pub RunsStandInOrder : Type 0
RunsStandInOrder = (r : Rules) (o : Opening) (w v : World) → AreRulesInForm r → RunBeginsWith r o w → WorldRun r w v → (h : History) × StandsInOrder r o (held_at w) h v

-- so its lines are externally consistent at each moment, where they keep the bound
abbrev pub AllRunsAreConsistent : Type 0
AllRunsAreConsistent =
    (r : Rules) (o : Opening) (w v : World) → AreRulesInForm r → RunBeginsWith r o w → WorldRun r w v → KeepsTheBound r.script r.epsilon v.lines
    → AreExternallyConsistent r.script v.lines

-- ---- the beginning

none-tried : (ls : List Line) → ls ≡ [] → AreInOrder (tries ls)
unfolding tries
none-tried ls none before a after b all i own = by before (sym (ap tries none) ∙ all)
  where
    by : (xs : List Attempt) → [] ≡ xs ++ a ∷ after → b.id.command ≤ a.id.command
    by [] same = let no : ⊥ = cc in absurd no
    by (x ∷ xs) same = let no : ⊥ = cc in absurd no

pub runs-begin_in_order : RunsBeginInOrder
runs-begin_in_order r o w A B =
    let k = upheld-begins r o w A B in
    record {
      upheld = k;
      passed = [];
      gots = k.contents.gots;
      order = record {
        stored = λ t s e here i. absurd (subst (Has e) (B.starts t s here).opens.entries (has-from_contains s.durable.entries e i));
        served = λ q i. absurd i;
        dated = λ q i. absurd i;
        asked = λ q i. absurd i;
        rising = none-tried w.lines B.lines;
      };
    }

-- ---- runs

pub runs-stand_in_order : RunsStandInOrder
runs-stand_in_order r o w v A B Begins = (no_history, runs-begin_in_order r o w A B)
runs-stand_in_order r o w v A B (Goes u x run e) =
    let k = runs-stand_in_order r o w u A B run in
    let s = all-events-keep_order r o (held_at w) k.0 u v A.some_attempt (held-first r o w A B) k.1 e in
    (s.later, s.stands)

pub all-runs-are_consistent : AllRunsAreConsistent
all-runs-are_consistent r o w v A B run bound = let k = runs-stand_in_order r o w v A B run in lines-are_consistent r o (held_at w) k.0 v (held-first r o w A B) k.1 bound

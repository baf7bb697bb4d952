-- The steps of a turn as steps of another kind.
use Rattle.std.specs.Prelude.{ℕ, ◌≡◌, List, Option, Some, refl}
use Rattle.std.proofs.Common.{◌∙◌, arith}
use Rattle.base_types.specs.declared.epoch.Epoch.{Epoch}
use Rattle.base_types.specs.declared.id.AttemptId.{AttemptId}
use Rattle.base_types.specs.declared.report.Line.{Line}
use Rattle.world_base.specs.Changes.{Change, Kept, Steps, made}
use Rattle.world_base.specs.CutTurns.{CutHere, CutTurn, Cutting, InChange, InQuestion}
use Rattle.world_base.specs.Turns.{Here, More, Path}

-- where this holds by a stage and what is kept, each step of the one kind is one of the other
module _ {S U : Type 0} (Next : S → Kept → Option Change → S → Type 0) (Other : U → Kept → Option Change → U → Type 0) (stage : S → U) (P : S → Kept → Type 0)
    (step : (s : S) (k : Kept) (o : Option Change) (t : S) (l : Kept) → Next s k o t → Steps o k l → P s k → Other (stage s) k o (stage t) × P t l) where
  pub path-as : (start : S) (old : Kept) (did : List Change) (last : S) (mid : Kept) → Path Next start old did last mid → P start old → Path Other (stage start) old did (stage last) mid × P last mid
  path-as start old did last mid Here p = (Here, p)
  path-as start old did last mid (More some t l o u m path next steps) p =
      let z = path-as start old some t l path p in
      let y = step t l o u m next steps z.1 in
      (More some (stage t) l o (stage u) m z.0 y.0 steps, y.1)

  -- and where a turn was cut
  pub turn-as : (issues : S → List (AttemptId × Epoch)) (issued : U → List (AttemptId × Epoch)) → ((s : S) → issues s ≡ issued (stage s))
      → (t : ℕ) (start : S) (old : Kept) (cut : Cutting) → P start old → CutTurn Next issues t start old cut
      → CutTurn Other issued t (stage start) old cut
  turn-as issues issued alike t start old cut p g = record {
    last = stage g.last;
    mid = g.mid;
    did = g.did;
    path = z.0;
    lines = g.lines;
    here = here g.lines g.here;
    issued = g.issued ∙ alike g.last;
    all_lines = g.all_lines;
  }
    where
      z : Path Other (stage start) old g.did (stage g.last) g.mid × P g.last g.mid
      z = path-as start old g.did g.last g.mid g.path p

      here : (lines : List Line) → CutHere Next t g.last g.mid cut.left lines → CutHere Other t (stage g.last) g.mid cut.left lines
      here lines (InChange c next is left free) =
          InChange c (stage next) (step g.last g.mid (Some c) next (record { durable = made c g.mid.durable; free = g.mid.free }) is (refl, omega arith) z.1).0 left free
      here lines (InQuestion same free) = InQuestion same free

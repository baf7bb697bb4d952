-- What holds before and after each step of a kind of turn holds where a turn of that kind was cut.
use Rattle.std.specs.Prelude.{ℕ, ◌≡◌, true, List, Option, Some, refl}
use Rattle.std.proofs.Common.{sym, subst, arith}
use Rattle.base_types.specs.declared.epoch.Epoch.{Epoch}
use Rattle.base_types.specs.declared.id.AttemptId.{AttemptId}
use Rattle.base_types.specs.declared.report.Line.{Line}
use Rattle.daos_model.specs.declared.durable.Durable.{Durable}
use Rattle.world_base.specs.Changes.{After, Before, Change, Creates, Cut, Extends, Freezes, InPart, IsPartly, Kept, Prepares, Prunes, Settles, Steps, is_plain, made}
use Rattle.world_base.specs.CutTurns.{CutHere, CutTurn, Cutting, InChange, InQuestion}
use Rattle.world_base.specs.PathLaws.{AllPlain, path-keeps}
use Rattle.world_base.specs.Turns.{Here, More, Path}

-- no plain change is made in part
pub none-in_part : (c : Change) (d x : Durable) → is_plain c ≡ true → IsPartly c d x → ⊥
none-in_part (Extends ticks) d x plain p = p
none-in_part (Prepares e ws) d x plain p = p
none-in_part (Settles a step) d x plain p = p
none-in_part (Freezes c s) d x plain p = p
none-in_part (Creates c s) d x plain p = p
none-in_part (Prunes c upto n) d x plain p = let no : ⊥ = cc in no

-- where each step of a kind of turn is one of another kind, a turn of it that was cut is one of that
module _ {S : Type 0} (Some' Next : S → Kept → Option Change → S → Type 0) (all : (s : S) (k : Kept) (o : Option Change) (u : S) → Some' s k o u → Next s k o u) where
  path-of : (s : S) (k : Kept) (did : List Change) (u : S) (l : Kept) → Path Some' s k did u l → Path Next s k did u l
  path-of s k did u l Here = Here
  path-of s k did u l (More before v m o x n path next steps) = More before v m o x n (path-of s k before v m path) (all v m o x next) steps

  here-of : (t : ℕ) (last : S) (mid left : Kept) (lines : List Line) → CutHere Some' t last mid left lines → CutHere Next t last mid left lines
  here-of t last mid left lines (InChange c next is cut free) = InChange c next (all last mid (Some c) next is) cut free
  here-of t last mid left lines (InQuestion same free) = InQuestion same free

  pub cut-of : (issues : S → List (AttemptId × Epoch)) (t : ℕ) (start : S) (old : Kept) (cut : Cutting) → CutTurn Some' issues t start old cut → CutTurn Next issues t start old cut
  cut-of issues t start old cut g = record {
    last = g.last;
    mid = g.mid;
    did = g.did;
    path = path-of start old g.did g.last g.mid g.path;
    lines = g.lines;
    here = here-of t g.last g.mid cut.left g.lines g.here;
    issued = g.issued;
    all_lines = g.all_lines;
  }

module _ {S : Type 0} (Next : S → Kept → Option Change → S → Type 0) (issues : S → List (AttemptId × Epoch)) (t : ℕ) (P : S → Kept → Type 0) (D : Durable → Type 0) (plain : AllPlain Next)
    (step : (s : S) (k : Kept) (o : Option Change) (u : S) (l : Kept) → Next s k o u → Steps o k l → P s k → P u l) (sound : (s : S) (k : Kept) → P s k → D k.durable) where
  -- a change that was cut was made, or it wasn't
  left-sound : (last next : S) (mid : Kept) (c : Change) (left : Durable) → Next last mid (Some c) next → P last mid → Cut c mid.durable left → D left
  left-sound last next mid c left is p (Before same) = subst D (sym same) (sound last mid p)
  left-sound last next mid c left is p (After same) =
      subst D (sym same) (sound next (record { durable = made c mid.durable; free = mid.free }) (step last mid (Some c) next (record { durable = made c mid.durable; free = mid.free }) is (refl, omega arith) p))
  left-sound last next mid c left is p (InPart partly) = absurd (none-in_part c mid.durable left (plain last mid (Some c) next is) partly)

  here-sound : (last : S) (mid left : Kept) (lines : List Line) → P last mid → CutHere Next t last mid left lines → D left.durable
  here-sound last mid left lines p (InChange c next is cut free) = left-sound last next mid c left.durable is p cut
  here-sound last mid left lines p (InQuestion same free) = subst D (sym same) (sound last mid p)

  pub cut-keeps : (start : S) (old : Kept) (cut : Cutting) → CutTurn Next issues t start old cut → P start old → D cut.left.durable
  cut-keeps start old cut g p = here-sound g.last g.mid cut.left g.lines (path-keeps Next P step start old g.did g.last g.mid g.path p) g.here

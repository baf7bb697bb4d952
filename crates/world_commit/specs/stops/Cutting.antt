-- A turn that is cut is a stop in its middle.
use Rattle.std.specs.Prelude.{ℕ, ◌≡◌, true, List, [], slice_get, Option, Some, refl}
use Rattle.std.proofs.Common.{append-nil, sym, ◌∙◌, ap}
use Rattle.base_types.specs.declared.epoch.Epoch.{Epoch}
use Rattle.base_types.specs.declared.id.AttemptId.{AttemptId}
use Rattle.base_types.specs.declared.report.Line.{Line}
use Rattle.daos_model.specs.declared.durable.Durable.{Durable}
use Rattle.world_commit.specs.attempts.Attempts.{count}
use Rattle.world_commit.specs.attempts.History.{History}
use Rattle.world_commit.specs.attempts.Turning.{at_work}
use Rattle.world_commit.specs.fates.Facts.{Attempts, Ongoing}
use Rattle.world_commit.specs.stops.Lately.{Finds}
use Rattle.world_commit.specs.stops.Stops.{stop-keeps}
use Rattle.world_base.specs.declared.target.TargetMemory.{TargetMemory}
use Rattle.world_base.specs.declared.target.TargetState.{TargetState}
use Rattle.world_base.specs.declared.world.World.{World}
use Rattle.world_base.specs.Changes.{After, Before, Change, InPart, IsPartly, Kept, Prunes, Steps, is_plain}
use Rattle.world_base.specs.CutTurns.{CutHere, CutTurn, Cutting, InChange, InQuestion}
use Rattle.world_base.specs.Events.{Rules, target_after}
use Rattle.world_base.specs.PathLaws.{path-keeps}
use Rattle.world_base.specs.StepLaws.{set-here, set-twice}
use Rattle.world_base.specs.Stops.{after_cut, stopped_at}

-- a plain change is made whole, or not at all
plain-whole : (c : Change) (d x : Durable) → is_plain c ≡ true → IsPartly c d x → ⊥
plain-whole (Prunes c upto n) d x plain part = let no : ⊥ = cc in no
plain-whole c d x plain part = absurd part

module _ (r : Rules) (h : History) (w : World) (t : ℕ) (s : TargetState) (here : slice_get w.targets t ≡ Some s) (k : Attempts r h w) where
  -- stopping in the middle of a turn, with the letter in hand still in flight, leaves what stopping at its beginning does
  from-mid : (mid : Kept) (m : TargetMemory) (cut : Cutting) → after_cut (at_work w t (target_after s mid m) []) t (target_after s mid m) cut ≡ after_cut w t s cut
  from-mid mid m cut = rw (set-twice w.targets t (target_after s mid m) (stopped_at s cut.left), append-nil w.messages) refl

  -- so the facts in the middle hold after the stop
  pub mid-stops : (mid : Kept) (m : TargetMemory) (cut : Cutting) (v : World) → Ongoing r h (at_work w t (target_after s mid m) []) → cut.left.durable ≡ mid.durable → v ≡ after_cut w t s cut → Attempts r h v
  mid-stops mid m cut v on same follows =
      stop-keeps r h (at_work w t (target_after s mid m) []) v t (target_after s mid m) cut (set-here w.targets t s (target_after s mid m) here) same (follows ∙ sym (from-mid mid m cut))
      (record { on = on; prompt = λ p wide. k.prompt p wide ∙ sym (ap (count p) (append-nil w.messages)) })

-- a cut that leaves something else at the same target than another cut of the same turn
abbrev pub leaving : Cutting → Kept → Cutting
leaving cut left = record cut { left = left }

pub cut-finds : (w v : World) (t : ℕ) (s : TargetState) (cut : Cutting) (mid : Kept) → slice_get w.targets t ≡ Some s → v ≡ after_cut w t s cut → cut.left.durable.incarnation ≡ mid.durable.incarnation
    → Finds (after_cut w t s (leaving cut mid)) v t (stopped_at s mid) (stopped_at s cut.left)
cut-finds w v t s cut mid here follows same = record {
  here = set-here w.targets t s (stopped_at s mid) here;
  after = follows ∙ sym (rw (set-twice w.targets t (stopped_at s mid) (stopped_at s cut.left)) refl);
  memory = refl;
  life = refl;
  incarnation = same;
}

-- What is carried along the steps of a kind of turn holds where it was cut, of what is left then; all its changes are plain.
module _ {S : Type 0} (Next : S → Kept → Option Change → S → Type 0) (issues : S → List (AttemptId × Epoch)) (t : ℕ) (P : S → Kept → Type 0)
    (keep : (a : S) (k : Kept) (o : Option Change) (b : S) (l : Kept) → Next a k o b → Steps o k l → P a k → P b l)
    (plain : (a : S) (k : Kept) (c : Change) (b : S) → Next a k (Some c) b → (is_plain c ≡ true) × (issues a ≡ issues b)) where
  -- where a turn was cut
  pub record CutAs (start : S) (cut : Cutting) : Type 0 where
    pub stage : S
    pub mid : Kept
    pub so_far : P stage mid
    pub left : cut.left.durable ≡ mid.durable
    pub issued : cut.issued ≡ issues stage

  pub cut-as : (start : S) (old : Kept) (cut : Cutting) → CutTurn Next issues t start old cut → P start old → CutAs start cut
  cut-as start old cut turn begins = by turn.lines turn.here
    where
      so-far : P turn.last turn.mid
      so-far = path-keeps Next P keep start old turn.did turn.last turn.mid turn.path begins

      by : (lines : List Line) → CutHere Next t turn.last turn.mid cut.left lines → CutAs start cut
      by lines (InQuestion same free) = record { stage = turn.last; mid = turn.mid; so_far = so-far; left = same; issued = turn.issued }
      by lines (InChange c next is (Before same) free) = record { stage = turn.last; mid = turn.mid; so_far = so-far; left = same; issued = turn.issued }
      by lines (InChange c next is (After same) free) =
          record { stage = next; mid = cut.left; so_far = keep turn.last turn.mid (Some c) next cut.left is (same, free) so-far; left = refl; issued = turn.issued ∙ (plain turn.last turn.mid c next is).1 }
      by lines (InChange c next is (InPart part) free) = absurd (plain-whole c turn.mid.durable cut.left.durable (plain turn.last turn.mid c next is).0 part)

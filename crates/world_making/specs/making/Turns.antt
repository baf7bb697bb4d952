-- What is heard of snapshots and aggregation is heard in turns in which they are made.
use Rattle.std.specs.Prelude.{ℕ, ◌≡◌, Bool, false, List, [], Option, Some, None, refl}
use Rattle.std.proofs.Common.{sym, ap}
use Rattle.base_types.specs.declared.epoch.Epoch.{Epoch}
use Rattle.base_types.specs.declared.id.AttemptId.{AttemptId}
use Rattle.base_types.specs.declared.id.ContId.{ContId}
use Rattle.base_types.specs.declared.outcome.FloorWhy.{FloorWhy}
use Rattle.base_types.specs.declared.report.Line.{Line}
use Rattle.base_messages.specs.declared.actor.ActorId.{ActorId}
use Rattle.base_messages.specs.declared.message.Message.{Message, more_of-Message}
use Rattle.base_messages.specs.declared.message.Message.TheVariants as message
use Rattle.daos_model.specs.declared.durable.Durable.{Durable}
use Rattle.model_laws.specs.Members.{Has}
use Rattle.world_base.specs.declared.did.Did.{Did}
use Rattle.world_base.specs.declared.target.TargetMemory.{TargetMemory}
use Rattle.world_base.specs.declared.target.TargetPlan.{TargetPlan}
use Rattle.world_base.specs.Changes.{Kept}
use Rattle.world_base.specs.CutTurns.{CutTurn, Cutting, HearingIsCut, issued_by_freeze, issued_by_prune, listed_issue, none_issued}
use Rattle.world_base.specs.Further.{HearsFurther}
use Rattle.world_base.specs.Snapshots as snap
use Rattle.world_base.specs.Statuses.{Looking}
use Rattle.world_base.specs.Turns.{Path}
use Rattle.world_letters.specs.lives.TurnLines.{IsTurnLine, further-lines}
use Rattle.world_making.specs.making.Ends.{aggregate-ends, freeze-ends, held-ends, lost-ends, prune-ends, snap-ends}
use Rattle.world_making.specs.making.Making.{CutHearingsLeave, HearingsLeave, IsOfMaking, IsStageDated, MakingLeaves, MakingNext, MakingRequest, asks_making, making_begins, making_issue, making_issues}
use Rattle.world_making.specs.making.Stages.{FreezeSays, HeldSays, PruneSays, freeze-as, freeze_stage, held-as, held_stage, lost-as, lost_stage, prune-as, prune_stage}
use Rattle.world_making.specs.making.Steps.{path-as, turn-as}

abbrev request : AttemptId → ContId → Option Epoch → Epoch → MakingRequest
request x c ep tracker = record { attempt = x; cont = c; ep = ep; tracker = tracker }

-- ---- whole turns

module _ (p : TargetPlan) (m : TargetMemory) (reading : ℕ) (q : Message) (new : Kept) where
  freeze-dated : (a : MakingRequest) → asks_making q ≡ Some a → (s : snap.FreezeStage) → FreezeSays p m reading a s new → IsStageDated p m reading new.durable q (freeze_stage m s).dated
  freeze-dated a asks snap.Asked h = tt
  freeze-dated a asks (snap.Known s) h = tt
  freeze-dated a asks (snap.Freezing s) h = (a, asks, h)
  freeze-dated a asks (snap.Frozen s lines) h = (a, asks, h.0)
  freeze-dated a asks (snap.Created s lines) h = (a, asks, h.0)

  prune-dated : (a : MakingRequest) → asks_making q ≡ Some a → (s : snap.PruneStage) → PruneSays p m reading a s new → IsStageDated p m reading new.durable q (prune_stage m s).dated
  prune-dated a asks snap.Asked h = tt
  prune-dated a asks (snap.Known g) h = tt
  prune-dated a asks (snap.Settling g decided) h = (a, asks, h)
  prune-dated a asks (snap.Pruned g lines) h = (a, asks, h)

module _ (number : ℕ) (p : TargetPlan) (opening : Epoch × FloorWhy) (m : TargetMemory) (reading : ℕ) (from : ActorId) (old new : Kept) (left : TargetMemory × Did) where
  abbrev Leaves : Message → Type 0
  Leaves q = ((l : Line) → Has l left.1.lines → IsTurnLine p.me l) → MakingLeaves number p m reading from q old new left

  by-kind : (q : Message) → HearsFurther number p opening m reading from q old new left → IsOfMaking q → Leaves q
  by-kind (message.Snap x c name tracker) h is lines = record {
    last = freeze_stage m h.last;
    reached = record { did = h.reached.did; path = z.0 };
    dated = freeze-dated p m reading (message.Snap x c name tracker) new a refl h.last z.1;
    ends = snap-ends p m reading tracker x c name from h.last new left z.1 h.ends;
    lines = lines;
  }
    where
      a : MakingRequest
      a = record { attempt = x; cont = c; ep = None; tracker = tracker }

      z : Path (MakingNext number p m reading from (message.Snap x c name tracker)) (making_begins m) old h.reached.did (freeze_stage m h.last) new × FreezeSays p m reading a h.last new
      z =
          path-as _ _ (freeze_stage m) (FreezeSays p m reading a) (freeze-as number p m reading from (message.Snap x c name tracker) a refl refl (snap.is_held_by_all p 0) (λ k. k)) snap.Asked old h.reached.did h.last new h.reached.path tt
  by-kind (message.Freeze x c s) h is lines = record {
    last = freeze_stage m h.last;
    reached = record { did = h.reached.did; path = z.0 };
    dated = freeze-dated p m reading (message.Freeze x c s) new a refl h.last z.1;
    ends = freeze-ends p m reading x c s from h.last new left z.1 h.ends;
    lines = lines;
  }
    where
      a : MakingRequest
      a = record { attempt = x; cont = c; ep = Some s; tracker = s }

      z : Path (MakingNext number p m reading from (message.Freeze x c s)) (making_begins m) old h.reached.did (freeze_stage m h.last) new × FreezeSays p m reading a h.last new
      z =
          path-as _ _ (freeze_stage m) (FreezeSays p m reading a) (freeze-as number p m reading from (message.Freeze x c s) a refl refl false (λ k. let no : ⊥ = cc in absurd no)) snap.Asked old h.reached.did h.last new h.reached.path tt
  by-kind (message.Held x refusal) h is lines = record {
    last = making_begins m;
    reached = record { did = h.reached.did; path = z.0 };
    dated = tt;
    ends = held-ends p m from x refusal h.last new left z.1 h.ends;
    lines = lines;
  }
    where
      z : Path (MakingNext number p m reading from (message.Held x refusal)) (making_begins m) old h.reached.did (making_begins m) new × HeldSays m x h.last new
      z = path-as _ _ (held_stage m) (HeldSays m x) (held-as number p m reading from x refusal) snap.Heard old h.reached.did h.last new h.reached.path tt
  by-kind (message.Prune x c (Some tracker) None) h is lines = record {
    last = prune_stage m h.last;
    reached = record { did = h.reached.did; path = z.0 };
    dated = prune-dated p m reading (message.Prune x c (Some tracker) None) new a refl h.last z.1;
    ends = aggregate-ends p m reading tracker x c from h.last new left h.ends;
    lines = lines;
  }
    where
      a : MakingRequest
      a = record { attempt = x; cont = c; ep = None; tracker = tracker }

      z : Path (MakingNext number p m reading from (message.Prune x c (Some tracker) None)) (making_begins m) old h.reached.did (prune_stage m h.last) new × PruneSays p m reading a h.last new
      z =
          path-as _ _ (prune_stage m) (PruneSays p m reading a) (prune-as number p m reading from (message.Prune x c (Some tracker) None) a refl refl) snap.Asked old h.reached.did h.last new h.reached.path tt
  by-kind (message.Prune x c None (Some g)) h is lines = record {
    last = prune_stage m h.last;
    reached = record { did = h.reached.did; path = z.0 };
    dated = prune-dated p m reading (message.Prune x c None (Some g)) new a refl h.last z.1;
    ends = prune-ends p m x c g from h.last new left h.ends;
    lines = lines;
  }
    where
      a : MakingRequest
      a = record { attempt = x; cont = c; ep = Some g; tracker = g }

      z : Path (MakingNext number p m reading from (message.Prune x c None (Some g))) (making_begins m) old h.reached.did (prune_stage m h.last) new × PruneSays p m reading a h.last new
      z =
          path-as _ _ (prune_stage m) (PruneSays p m reading a) (prune-as number p m reading from (message.Prune x c None (Some g)) a refl refl) snap.Asked old h.reached.did h.last new h.reached.path tt
  by-kind (message.Prune x c None None) h is lines = absurd h
  by-kind (message.Prune x c (Some tracker) (Some g)) h is lines = absurd h
  by-kind (message.Reset' by down place (more_of-Message asked rest)) h is lines = record {
    last = making_begins m;
    reached = record { did = h.reached.did; path = z.0 };
    dated = tt;
    ends = lost-ends number p opening m reading from (message.Reset' by down place (more_of-Message asked rest)) old new left tt h is;
    lines = lines;
  }
    where
      z : Path (MakingNext number p m reading from (message.Reset' by down place (more_of-Message asked rest))) (making_begins m) old h.reached.did (making_begins m) new × Unit {0}
      z =
          path-as _ _ (lost_stage m) (λ s k. Unit {0}) (lost-as number p m reading from (message.Reset' by down place (more_of-Message asked rest))) Looking old h.reached.did h.last new h.reached.path tt
  by-kind q h is lines = let no : ⊥ = cc in absurd no

pub hearings-leave : HearingsLeave
hearings-leave number p opening m reading from q old new left h is = by-kind number p opening m reading from old new left q h is (further-lines number p opening m reading from q old new left h).own

-- ---- turns that were cut

abbrev making_listed : Option MakingRequest → Option Epoch → List (AttemptId × Epoch)
making_listed o e = listed_issue (making_issue o e)

none-yet : (o : Option MakingRequest) → [] ≡ making_listed o None
none-yet None = refl
none-yet (Some a) = refl

module _ (number : ℕ) (p : TargetPlan) (opening : Epoch × FloorWhy) (m : TargetMemory) (reading : ℕ) (from : ActorId) (old : Kept) (cut : Cutting) where
  freeze-issues : (q : Message) (a : MakingRequest) → asks_making q ≡ Some a → (s : snap.FreezeStage) → issued_by_freeze a.attempt a.ep s ≡ making_issues q (freeze_stage m s)
  freeze-issues q a asks snap.Asked = none-yet (asks_making q)
  freeze-issues q a asks (snap.Known s) = none-yet (asks_making q)
  freeze-issues q a asks (snap.Freezing s) = ap (λ o. making_listed o (Some s)) (sym asks)
  freeze-issues q a asks (snap.Frozen s lines) = ap (λ o. making_listed o (Some s)) (sym asks)
  freeze-issues q a asks (snap.Created s lines) = ap (λ o. making_listed o (Some s)) (sym asks)

  prune-issues : (q : Message) (a : MakingRequest) → asks_making q ≡ Some a → (s : snap.PruneStage) → issued_by_prune a.attempt a.ep s ≡ making_issues q (prune_stage m s)
  prune-issues q a asks snap.Asked = none-yet (asks_making q)
  prune-issues q a asks (snap.Known g) = none-yet (asks_making q)
  prune-issues q a asks (snap.Settling g decided) = ap (λ o. making_listed o (Some g)) (sym asks)
  prune-issues q a asks (snap.Pruned g lines) = ap (λ o. making_listed o (Some g)) (sym asks)

  abbrev Cuts : Message → Type 0
  Cuts q = CutTurn (MakingNext number p m reading from q) (making_issues q) p.me (making_begins m) old cut

  cut-kind : (is_due : AttemptId → Durable → Bool) (q : Message) → HearingIsCut is_due number p opening m reading from q old cut → IsOfMaking q → Cuts q
  cut-kind is_due (message.Snap x c name tracker) g is =
      turn-as _ _ (freeze_stage m) (FreezeSays p m reading (request x c None tracker)) (freeze-as number p m reading from (message.Snap x c name tracker) (request x c None tracker) refl refl (snap.is_held_by_all p 0) (λ k. k))
      (issued_by_freeze x None) (making_issues (message.Snap x c name tracker)) (freeze-issues (message.Snap x c name tracker) (request x c None tracker) refl) p.me snap.Asked old cut tt g
  cut-kind is_due (message.Freeze x c s) g is =
      turn-as _ _ (freeze_stage m) (FreezeSays p m reading (request x c (Some s) s)) (freeze-as number p m reading from (message.Freeze x c s) (request x c (Some s) s) refl refl false (λ k. let no : ⊥ = cc in absurd no))
      (issued_by_freeze x (Some s)) (making_issues (message.Freeze x c s)) (freeze-issues (message.Freeze x c s) (request x c (Some s) s) refl) p.me snap.Asked old cut tt g
  cut-kind is_due (message.Held x refusal) g is =
      turn-as _ _ (held_stage m) (HeldSays m x) (held-as number p m reading from x refusal) none_issued (making_issues (message.Held x refusal)) (λ s. refl) p.me snap.Heard old cut tt g
  cut-kind is_due (message.Prune x c (Some tracker) None) g is =
      turn-as _ _ (prune_stage m) (PruneSays p m reading (request x c None tracker)) (prune-as number p m reading from (message.Prune x c (Some tracker) None) (request x c None tracker) refl refl)
      (issued_by_prune x None) (making_issues (message.Prune x c (Some tracker) None)) (prune-issues (message.Prune x c (Some tracker) None) (request x c None tracker) refl) p.me snap.Asked old cut tt g
  cut-kind is_due (message.Prune x c None (Some e)) g is =
      turn-as _ _ (prune_stage m) (PruneSays p m reading (request x c (Some e) e)) (prune-as number p m reading from (message.Prune x c None (Some e)) (request x c (Some e) e) refl refl)
      (issued_by_prune x (Some e)) (making_issues (message.Prune x c None (Some e))) (prune-issues (message.Prune x c None (Some e)) (request x c (Some e) e) refl) p.me snap.Asked old cut tt g
  cut-kind is_due (message.Prune x c None None) g is = absurd g
  cut-kind is_due (message.Prune x c (Some tracker) (Some e)) g is = absurd g
  cut-kind is_due (message.Reset' by down place asked) g is =
      turn-as _ _ (lost_stage m) (λ s k. Unit {0}) (lost-as number p m reading from (message.Reset' by down place asked)) none_issued (making_issues (message.Reset' by down place asked)) (λ s. refl) p.me Looking old cut tt g
  cut-kind is_due q g is = let no : ⊥ = cc in absurd no

pub cuts-leave : CutHearingsLeave
cuts-leave is_due number p opening m reading from q old cut g is = cut-kind number p opening m reading from old cut is_due q g is

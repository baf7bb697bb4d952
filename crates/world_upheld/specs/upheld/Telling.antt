-- What becomes of targets tells no line of an attempt, also where snapshots are made and containers aggregated.
use Rattle.std.specs.Prelude.{◌≡◌, Bool, true, false, List, map, refl}
use Rattle.std.proofs.Common.{sym, ap, subst}
use Rattle.base_types.specs.declared.epoch.Epoch.{Epoch}
use Rattle.base_types.specs.declared.id.AttemptId.{AttemptId}
use Rattle.base_types.specs.declared.report.Line.{Line}
use Rattle.base_types.specs.declared.report.Line.TheVariants as line
use Rattle.base_messages.specs.declared.message.Message.{Message}
use Rattle.base_messages.specs.declared.message.Message.TheVariants as message
use Rattle.model_laws.specs.Members.{Has, has-from_map}
use Rattle.world_legal.specs.world_commit.attempts.History.{History}
use Rattle.world_base.specs.declared.world.World.{World}
use Rattle.world_base.specs.Events.{Rules, kept, target_plan, with_epoch}
use Rattle.world_base.specs.Roles.{is_prepared}
use Rattle.world_base.specs.Stops.{AtWork, CutOf, Draws, Fails, Further, GivenUp, Happening, Hearing, HearsMore, IdleWork, IsCut, Opens, Plainly}
use Rattle.world_legal.specs.world_commit.fates.Facts.{Attempts}
use Rattle.world_legal.specs.world_causes.hearing.Cutting.{turn-silent}
use Rattle.world_owners.specs.world_making.making.Making.{IsOfMaking}
use Rattle.world_owners.specs.world_making.making.Turns.{cuts-leave}
use Rattle.world_legal.specs.world_causes.outcomes.Keeping.{IsOfTarget}
use Rattle.world_owners.specs.world_making.prunings.Saying.{AreUntried, says-quietly}
use Rattle.world_legal.specs.world_standing.standing.Telling.{TellsNone, cut-tells, silent-tells, targets-tell}
use Rattle.world_legal.specs.world_commit.statuses.Heard.{is_of_attempts}
use Rattle.world_legal.specs.world_commit.stops.CutEvents.{IsWithoutSnapshots, is_without_snapshots}

-- a line that tells of no attempt tells of none with its epoch
dated-untried : (issued : List (AttemptId × Epoch)) (ls : List Line) → AreUntried ls → AreUntried (map (with_epoch issued) ls)
dated-untried issued ls none a i = let z = has-from_map (with_epoch issued) ls (line.Try a) i in by z.0 z.1 z.2
  where
    by : (l : Line) → Has l ls → with_epoch issued l ≡ line.Try a → ⊥
    by (line.Try b) j same = none b j
    by l j same = let no : ⊥ = cc in no

making-tells : (r : Rules) (w v : World) (f : HearsMore r w v) → is_of_attempts f.hears.l.message ≡ false → TellsNone w v
making-tells r w v f ours =
    let g = f.hears in
    silent-tells w v (ap (λ u. u.clients) g.after) (map (with_epoch w.issued) g.did.lines) (ap (λ u. u.lines) g.after)
    (dated-untried w.issued g.did.lines
    (says-quietly f.number (target_plan r g.t) g.s.opening g.s.memory g.reading g.l.from g.l.message (kept g.s) g.new (g.memory, g.did) ours g.turn).untried)

-- what is cut with snapshots is such a turn
cut-making : (m : Message) → is_without_snapshots m ≡ false → IsOfMaking m
cut-making (message.Snap x c name tracker) ours = refl
cut-making (message.Freeze x c s) ours = refl
cut-making (message.Held x refusal) ours = refl
cut-making (message.Prune x c tracker e) ours = refl
cut-making m ours = let no : ⊥ = cc in absurd no

-- whatever becomes of targets
pub all-targets_tell : (r : Rules) (h : History) (w v : World) → Attempts r h w → (e : Happening r w v) → IsOfTarget e → TellsNone w v
all-targets_tell r h w v k (Plainly e up) of_target = targets-tell r h w v k (Plainly e up) of_target tt
all-targets_tell r h w v k (Further f) of_target = by (is_of_attempts f.hears.l.message) refl
  where
    by : (b : Bool) → is_of_attempts f.hears.l.message ≡ b → TellsNone w v
    by true ours = targets-tell r h w v k (Further f) of_target ours
    by false ours = making-tells r w v f ours
all-targets_tell r h w v k (IsCut g) of_target = by g.work refl
  where
    by : (a : AtWork) → g.work ≡ a → TellsNone w v
    by IdleWork is = targets-tell r h w v k (IsCut g) of_target (subst IsWithoutSnapshots (sym is) tt)
    by (Hearing l reading number) is = heard (is_without_snapshots l.message) refl
      where
        heard : (b : Bool) → is_without_snapshots l.message ≡ b → TellsNone w v
        heard true plain = targets-tell r h w v k (IsCut g) of_target (subst IsWithoutSnapshots (sym is) plain)
        heard false ours =
            cut-tells r w v g
            (turn-silent _ _ g.t _ (kept g.s) g.cut
            (cuts-leave is_prepared number (target_plan r g.t) g.s.opening g.s.memory reading l.from l.message (kept g.s) g.cut
            (subst (λ a. CutOf (target_plan r g.t) g.s a g.cut) is g.turn) (cut-making l.message ours)))
all-targets_tell r h w v k (Opens g) of_target = targets-tell r h w v k (Opens g) of_target tt
all-targets_tell r h w v k (Fails g) of_target = targets-tell r h w v k (Fails g) of_target tt
all-targets_tell r h w v k (GivenUp g) of_target = targets-tell r h w v k (GivenUp g) of_target tt
all-targets_tell r h w v k (Draws g) of_target = targets-tell r h w v k (Draws g) of_target tt

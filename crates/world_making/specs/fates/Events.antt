-- Each event of a run keeps the facts of attempts.
use Rattle.std.specs.Prelude.{◌≡◌, Bool, true, false, List, [], refl}
use Rattle.std.proofs.Common.{sym, subst}
use Rattle.base_messages.specs.declared.message.Message.{Message}
use Rattle.base_messages.specs.declared.message.Message.TheVariants as message
use Rattle.base_messages.specs.declared.message.Post.{Post}
use Rattle.world_causes.specs.world_commit.attempts.History.{GrowsBy, History}
use Rattle.world_base.specs.declared.target.TargetState.{TargetState}
use Rattle.world_base.specs.declared.world.World.{World}
use Rattle.world_base.specs.CutTurns.{Cutting}
use Rattle.world_base.specs.Events.{Rules, target_plan}
use Rattle.world_base.specs.Stops.{AtWork, CutOf, Draws, Fails, Further, GivenUp, Happening, Hearing, HearsMore, IdleWork, IsCut, Opens, Plainly, TargetCut}
use Rattle.world_causes.specs.world_commit.fates.Asked.{AskedRight}
use Rattle.world_causes.specs.world_commit.fates.Facts.{Attempts}
use Rattle.world_making.specs.fates.Cuts.{making-cut}
use Rattle.world_making.specs.fates.Laws.{AllEventsKeepAttempts, IsWorkOfMaking, MakingCutsKeepAttempts, MakingKeepsAttempts, MakingsAreRight}
use Rattle.world_making.specs.fates.Prompts.{making-prompts}
use Rattle.world_making.specs.fates.Turns.{making-ongoing}
use Rattle.world_making.specs.making.Making.{IsOfMaking, tells_of_snapshots}
use Rattle.world_causes.specs.world_commit.statuses.Events.{happens-keeps, told_by}
use Rattle.world_causes.specs.world_commit.statuses.Fates.{told_by_it, told_further}
use Rattle.world_causes.specs.world_commit.statuses.Senders.{SendersAreRight}
use Rattle.world_causes.specs.world_commit.stops.CutEvents.{IsWithoutSnapshots, cut_told, is_without_snapshots, message_told}
use Rattle.world_causes.specs.world_commit.stops.Cuts.{later-keeps}
use Rattle.world_causes.specs.world_commit.stops.Stops.{sweeping-keeps}
use Rattle.world_making.specs.making.Kinds.{of-attempts, without-snapshots}

pub making-keeps : MakingKeepsAttempts
making-keeps r h w v right makings k g is = record {
  on = making-ongoing g.number r h w v k.on g.hears is;
  prompt = making-prompts g.number r w v makings.makings makings.makers makings.requests right.one_epoch g.hears is k.prompt;
}

pub making-cuts_keep : MakingCutsKeepAttempts
making-cuts_keep r h w v k g is = by g.work is g.turn
  where
    by : (a : AtWork) → IsWorkOfMaking a → CutOf (target_plan r g.t) g.s a g.cut → Attempts r h v
    by (Hearing l reading number) is turn = making-cut r h w v k g l reading number is turn
    by IdleWork is turn = absurd is

-- ---- what is told of attempts in such turns

-- nothing
none-told : (m : Message) (s z : TargetState) (posts : List Post) → tells_of_snapshots m ≡ true → told_by_it m s z posts ≡ []
none-told (message.StatusIs x inc how) s z posts is = let no : ⊥ = cc in absurd no
none-told (message.Commit x ep first tracker ws) s z posts is = let no : ⊥ = cc in absurd no
none-told m s z posts is = refl

none-cut : (m : Message) (s : TargetState) (cut : Cutting) → tells_of_snapshots m ≡ true → message_told m s cut ≡ []
none-cut (message.Ack x inc refusal) s cut is = let no : ⊥ = cc in absurd no
none-cut (message.StatusIs x inc how) s cut is = let no : ⊥ = cc in absurd no
none-cut m s cut is = refl

-- ---- events

module _ (r : Rules) (h later : History) (w v : World) (right : AskedRight r h w) (senders : SendersAreRight w) (makings : MakingsAreRight r w) (k : Attempts r h w) where
  further-keeps : (g : HearsMore r w v) → (b : Bool) → tells_of_snapshots g.hears.l.message ≡ b → GrowsBy h (told_further g) later → Attempts r later v
  further-keeps g true is grows =
      later-keeps r h later v (subst (λ ps. GrowsBy h ps later) (none-told g.hears.l.message g.hears.s _ g.hears.did.posts is) grows) (making-keeps r h w v right makings k g is)
  further-keeps g false off grows = happens-keeps r h later w v right senders k (Further g) (of-attempts g.hears.l.message off) grows

  cut-keeps : (g : TargetCut r w v) → GrowsBy h (cut_told g.work g.s g.cut) later → Attempts r later v
  cut-keeps g grows = by g.work refl
    where
      hearing : (b : Bool) (m : Message) → tells_of_snapshots m ≡ b → (is_without_snapshots m ≡ true → Attempts r later v)
          → (IsOfMaking m → GrowsBy h (message_told m g.s g.cut) later → Attempts r later v) → GrowsBy h (message_told m g.s g.cut) later → Attempts r later v
      hearing true m is plain making grows = making is grows
      hearing false m off plain making grows = plain (without-snapshots m off)

      by : (a : AtWork) → g.work ≡ a → Attempts r later v
      by IdleWork at = happens-keeps r h later w v right senders k (IsCut g) (subst IsWithoutSnapshots (sym at) tt) grows
      by (Hearing l reading number) at =
          hearing (tells_of_snapshots l.message) l.message refl (λ plain. happens-keeps r h later w v right senders k (IsCut g) (subst IsWithoutSnapshots (sym at) plain) grows)
          (λ is told. later-keeps r h later v (subst (λ ps. GrowsBy h ps later) (none-cut l.message g.s g.cut is) told) (making-cuts_keep r h w v k g (subst IsWorkOfMaking (sym at) is)))
          (subst (λ a. GrowsBy h (cut_told a g.s g.cut) later) at grows)

  pub happening-keeps : (e : Happening r w v) → GrowsBy h (told_by e) later → Attempts r later v
  happening-keeps (Further g) grows = further-keeps g (tells_of_snapshots g.hears.l.message) refl grows
  happening-keeps (IsCut g) grows = cut-keeps g grows
  happening-keeps (Plainly e up) grows = happens-keeps r h later w v right senders k (Plainly e up) tt grows
  happening-keeps (Opens g) grows = happens-keeps r h later w v right senders k (Opens g) tt grows
  happening-keeps (Fails g) grows = happens-keeps r h later w v right senders k (Fails g) tt grows
  happening-keeps (GivenUp g) grows = happens-keeps r h later w v right senders k (GivenUp g) tt grows
  happening-keeps (Draws g) grows = happens-keeps r h later w v right senders k (Draws g) tt grows

pub all-events_keep : AllEventsKeepAttempts
all-events_keep r h later w v right senders makings k e grows =
    subst (Attempts r later) (sym e.after) (sweeping-keeps e.u r later (happening-keeps r h later w e.u right senders makings k e.happens grows))

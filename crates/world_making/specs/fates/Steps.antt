-- The steps of turns in which snapshots are made or containers aggregated keep the facts of attempts.
use Rattle.std.specs.Prelude.{ℕ, ◌≡◌, [], ◌∷◌, slice_get, Option, Some, None, refl}
use Rattle.std.proofs.Common.{sym, ◌∙◌, ap, subst}
use Rattle.base_messages.specs.declared.actor.ActorId.{ActorId}
use Rattle.base_messages.specs.declared.message.Message.{Message}
use Rattle.daos_model.specs.Changes.{marked, with_versions}
use Rattle.daos_model.specs.declared.durable.Durable.{Durable}
use Rattle.world_causes.specs.world_commit.attempts.History.{History}
use Rattle.world_causes.specs.world_commit.attempts.Turning.{at_work}
use Rattle.world_base.specs.declared.target.Life.TheVariants.{Running}
use Rattle.world_base.specs.declared.target.TargetState.{TargetState}
use Rattle.world_base.specs.declared.world.World.{World}
use Rattle.world_base.specs.ChangeLaws.{incarnation-made, entries-frozen, entries-created, entries-pruned}
use Rattle.world_base.specs.Changes.{Change, Creates, Freezes, IsPartly, Kept, Prunes, Steps, made}
use Rattle.world_base.specs.Events.{Rules, target_after, target_plan}
use Rattle.world_base.specs.Idle.{SettlesFirst}
use Rattle.world_base.specs.Roles.{with_unsettled}
use Rattle.world_base.specs.Snapshots.{prune_limit}
use Rattle.world_causes.specs.world_commit.fates.Facts.{Ongoing}
use Rattle.world_causes.specs.world_commit.fates.FetchTurns.{work-keeps, work-leases}
use Rattle.world_causes.specs.world_commit.fates.IdleTurns.{idle-step}
use Rattle.world_making.specs.making.Making as making
use Rattle.world_making.specs.making.Making.{MakingNext, MakingStage}

-- ---- entries

-- what a change leaves that was cut in part
pub record LeavesEntries (d x : Durable) : Type 0 where
  pub entries : x.entries ≡ d.entries
  pub incarnation : x.incarnation ≡ d.incarnation

pub partly-entries : (c : Change) (d x : Durable) → IsPartly c d x → LeavesEntries d x
unfolding with_versions marked
partly-entries (Prunes c upto n) d x p = record { entries = ap (λ y. y.entries) p.2; incarnation = ap (λ y. y.incarnation) p.2 }
partly-entries c d x p = absurd p

-- ---- one step

module _ (r : Rules) (h : History) (w : World) (t : ℕ) (s : TargetState) (here : slice_get w.targets t ≡ Some s) (runs : s.life ≡ Running) where
  -- in the middle of such a turn
  abbrev pub AtMaking : MakingStage → Kept → Type 0
  AtMaking stage k = Ongoing r h (at_work w t (target_after s k (with_unsettled stage.unsettled s.memory)) [])

  still : (stage : MakingStage) (k l : Kept) → l ≡ k → AtMaking stage k → AtMaking stage l
  still stage k l same = subst (AtMaking stage) (sym same)

  -- entries stay
  pub keeps-entries : (stage : MakingStage) (k l : Kept) → LeavesEntries k.durable l.durable → AtMaking stage k → AtMaking stage l
  keeps-entries stage k l leaves =
      work-keeps r h w t s here runs (target_after s k (with_unsettled stage.unsettled s.memory)) (target_after s l (with_unsettled stage.unsettled s.memory)) []
      (record { incarnation = leaves.incarnation; runs = runs; life = refl; down = refl }) leaves.entries refl refl

  by-change : (stage : MakingStage) (c : Change) (k l : Kept) → (made c k.durable).entries ≡ k.durable.entries → Steps (Some c) k l → AtMaking stage k → AtMaking stage l
  by-change stage c k l same steps = keeps-entries stage k l (record { entries = ap (λ d. d.entries) steps.0 ∙ same; incarnation = ap (λ d. d.incarnation) steps.0 ∙ incarnation-made c k.durable })

  pub making-step : (number reading : ℕ) (from : ActorId) (q : Message) (a : MakingStage) (k : Kept) (o : Option Change) (b : MakingStage) (l : Kept)
      → MakingNext number (target_plan r t) s.memory reading from q a k o b → Steps o k l → AtMaking a k → AtMaking b l
  making-step number reading from q a k o b l (making.Passes stage k2) steps p = still stage k2 l steps p
  making-step number reading from q a k o b l (making.ExtendsLease stage k2 c e lease asks epoch low covers) steps p =
      work-leases r h w t s here runs lease k2 l (with_unsettled stage.unsettled s.memory) [] steps.0 p
  making-step number reading from q a k o b l (making.IsCovered rest k2 c e asks dated) steps p = still (record { unsettled = rest; dated = None }) k2 l steps p
  making-step number reading from q a k o b l (making.SettlesFirst x rest k2 c g asks dated) steps p =
      idle-step r h w t s here runs s.memory (x ∷ rest) k2 (Some _) rest l (SettlesFirst k2 x rest) steps p
  making-step number reading from q a k o b l (making.PrunesIt k2 c g asks dated due) steps p =
      by-change (record { unsettled = []; dated = Some g }) (Prunes c.cont (prune_limit c.cont g k2.durable) number) k2 l
      (entries-pruned c.cont (prune_limit c.cont g k2.durable) number k2.durable) steps p
  making-step number reading from q a k o b l (making.FreezesIt rest k2 c e asks dated free unfrozen) steps p =
      by-change (record { unsettled = rest; dated = Some e }) (Freezes c.cont e) k2 l (entries-frozen c.cont e k2.durable) steps p
  making-step number reading from q a k o b l (making.CreatesIt stage k2 c e by) steps p = by-change stage (Creates c e) k2 l (entries-created c e k2.durable) steps p

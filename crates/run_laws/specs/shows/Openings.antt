-- What an opening leaves of the actors.
use Rattle.std.specs.Prelude.{ℕ, ◌≡◌, slice_set, Option}
use Rattle.daos_model.specs.declared.durable.Durable.{Durable}
use Rattle.run_laws.specs.shows.Stages.{StageNow}
use Rattle.run_laws.specs.shows.Turned.{followed, swept_stage}
use Rattle.run_watch.specs.Watches.{fuse_set, next_fuse, opened_again}
use Rattle.target_core.specs.Targets.{TargetOf}
use Rattle.vos_store.specs.Calls.{SetsFuse, State}
use Rattle.world_base.specs.declared.did.Did.{Did}
use Rattle.world_base.specs.Letters.{target}

module _ {S C : Type 0} (durable : S → Option Durable) (state : S → State) (may : S → Durable → Type 0) where
  -- a fuse was set of a target's store, which fires at the k-th change; nothing else of the target changed
  pub record HasFuse (k : ℕ) (x y : TargetOf S C) : Type 0 where
    pub plan : y.plan ≡ x.plan
    pub clock : y.clock ≡ x.clock
    pub memory : y.memory ≡ x.memory
    pub opened : y.opened ≡ x.opened
    pub state_is : SetsFuse k (state x.store) (state y.store)
    pub kept : durable y.store ≡ durable x.store
    pub left : (d : Durable) → may y.store d → may x.store d

  -- the next fuse of a target was set
  pub record IsArmed (t : ℕ) (x : TargetOf S C) (a b : StageNow S C) : Type 0 where
    pub armed : TargetOf S C
    pub fuse : HasFuse (next_fuse t a.watch.stops) x armed
    pub after : b ≡ record a { targets = slice_set a.targets t armed; watch = fuse_set t a.watch }

  -- a target opened again, of which this followed: its next fuse was set, and it runs
  pub record AfterOpening (t : ℕ) (x : TargetOf S C) (did : Did) (a b : StageNow S C) : Type 0 where
    pub armed : TargetOf S C
    pub fuse : HasFuse (next_fuse t a.watch.stops) x armed
    pub after : b ≡ swept_stage (record a { targets = slice_set a.targets t armed; watch = opened_again t (fuse_set t a.watch); between = followed (target t) did a.between })

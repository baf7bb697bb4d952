-- A turn in which target 0 hears that another holds a snapshot, or has pruned, leaves what it keeps and served sound, also where it is cut.
use Rattle.std.specs.Prelude.{ℕ, ◌≡◌, List, Option, Some, refl}
use Rattle.std.proofs.Common.{sym, subst}
use Rattle.base_types.specs.declared.epoch.Epoch.{Epoch}
use Rattle.base_types.specs.declared.id.AttemptId.{AttemptId}
use Rattle.base_types.specs.declared.outcome.FloorWhy.{FloorWhy}
use Rattle.base_types.specs.declared.outcome.Outcome.{Outcome}
use Rattle.daos_model.specs.Opening.{Opening}
use Rattle.daos_model.specs.declared.durable.Durable.{Durable}
use Rattle.daos_model.specs.declared.durable.Version.{Version}
use Rattle.world_causes.specs.world_commit.attempts.History.{History, Served}
use Rattle.world_base.specs.declared.target.TargetMemory.{TargetMemory}
use Rattle.world_base.specs.declared.target.TargetPlan.{TargetPlan}
use Rattle.world_base.specs.Changes.{Change, Creates, IsPartly, Kept, Steps}
use Rattle.world_base.specs.CutTurns.{CutTurn, Cutting}
use Rattle.world_base.specs.Events.{Rules}
use Rattle.world_base.specs.PathLaws.{reached-keeps}
use Rattle.world_base.specs.Snapshots as snap
use Rattle.world_base.specs.Turns.{Reached}
use Rattle.world_causes.specs.world_contents.frozen.FreezeLaws.{creates-sound}
use Rattle.world_causes.specs.world_contents.reads.Midway.{Sound}
use Rattle.world_making.specs.prunings.Parts.{parts-keep}

module _ (r : Rules) (o : Opening) (held : List Version) (h : History) (served : List Served) (opening : Epoch × FloorWhy) (t : ℕ) (p : TargetPlan) (m : TargetMemory) (from : ℕ) (x : AttemptId) (refusal : Option Outcome) where
  abbrev SoundAt : Durable → Type 0
  SoundAt d = Sound r o held h served opening t d m.stamps

  held-step : (g : snap.HeldStage) (k : Kept) (y : Option Change) (u : snap.HeldStage) (l : Kept) → snap.HeldNext p m from x refusal g k y u → Steps y k l → SoundAt k.durable → SoundAt l.durable
  held-step g k y u l (snap.CreatesIt k' c name none found named last) steps s = subst SoundAt (sym steps.0) (creates-sound r o held h served opening t m.stamps c.cont c.epoch k.durable s)
  held-step g k y u l (snap.Counts k' other) steps s = subst (λ n. SoundAt n.durable) (sym steps) s

  no-part : (g : snap.HeldStage) (k : Kept) (y : Option Change) (u : snap.HeldStage) → snap.HeldNext p m from x refusal g k y u → (z : Change) → y ≡ Some z → (d : Durable) → IsPartly z k.durable d → ⊥
  no-part g k y u (snap.CreatesIt k' c name none found named last) z is d q = let same : Creates c.cont c.epoch ≡ z = cc in subst (λ w. IsPartly w k.durable d) (sym same) q
  no-part g k y u (snap.Counts k' other) z is d q = let no : ⊥ = cc in no

  pub held-cut : (issues : snap.HeldStage → List (AttemptId × Epoch)) (n : ℕ) (old : Kept) (cut : Cutting) → CutTurn (snap.HeldNext p m from x refusal) issues n snap.Heard old cut → SoundAt old.durable → SoundAt cut.left.durable
  held-cut issues n old cut g sound =
      parts-keep (snap.HeldNext p m from x refusal) issues n (λ g k. SoundAt k.durable) SoundAt held-step (λ g k y u d next s q. absurd (no-part g k (Some y) u next y refl d q)) (λ g k s. s) snap.Heard old cut g sound

  pub held-reached : (old : Kept) (last : snap.HeldStage) (new : Kept) → Reached (snap.HeldNext p m from x refusal) snap.Heard old last new → SoundAt old.durable → SoundAt new.durable
  held-reached old last new way s = reached-keeps (snap.HeldNext p m from x refusal) (λ g k. SoundAt k.durable) held-step snap.Heard old last new way s

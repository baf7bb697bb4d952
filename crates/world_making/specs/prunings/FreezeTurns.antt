-- A turn in which a target hears a Snap or a Freeze leaves what it keeps and served sound, also where it is cut.
use Rattle.std.specs.Prelude.{ℕ, ◌≡◌, ◌<◌, ◌≤◌, ◌/◌, Bool, true, List, Option, Some, None, Result, Ok, Err, refl}
use Rattle.std.proofs.Common.{sym, subst}
use Rattle.base_types.specs.declared.epoch.Epoch.{Epoch}
use Rattle.base_types.specs.declared.id.AttemptId.{AttemptId}
use Rattle.base_types.specs.declared.id.ContId.{ContId}
use Rattle.base_types.specs.declared.outcome.FloorWhy.{FloorWhy}
use Rattle.daos_model.specs.Changes.{leased}
use Rattle.daos_model.specs.Durables.{is_enlisted}
use Rattle.daos_model.specs.Opening.{Opening, top}
use Rattle.daos_model.specs.declared.durable.Durable.{Durable}
use Rattle.daos_model.specs.declared.durable.Version.{Version}
use Rattle.model_laws.specs.Decided.{AreDecided}
use Rattle.vos_store.specs.Answers.{freezes}
use Rattle.vos_store.specs.declared.refusal.FreezeNo.{FreezeNo}
use Rattle.world_causes.specs.world_commit.attempts.History.{History, Served}
use Rattle.world_base.specs.declared.target.TargetMemory.{TargetMemory}
use Rattle.world_base.specs.declared.target.TargetPlan.{TargetPlan}
use Rattle.world_base.specs.Changes.{Change, Creates, Extends, Freezes, IsPartly, Kept, Steps}
use Rattle.world_base.specs.CutTurns.{CutTurn, Cutting}
use Rattle.world_base.specs.Events.{Rules}
use Rattle.world_base.specs.PathLaws.{reached-keeps}
use Rattle.world_base.specs.Requests.{request_epoch}
use Rattle.world_base.specs.Snapshots as snap
use Rattle.world_base.specs.Turns.{Reached}
use Rattle.world_causes.specs.world_contents.frozen.FreezeLaws.{creates-sound, freezes-sound}
use Rattle.world_causes.specs.world_contents.reads.Midway.{Sound}
use Rattle.world_causes.specs.world_contents.reads.StepLaws.{extends-sound}
use Rattle.world_causes.specs.world_contents.reads.Transactions.{transactions}
use Rattle.world_making.specs.prunings.Parts.{parts-keep}

-- the containers that are known stay so as the lease is extended
pub enlisted-leased : (n : ℕ) (d : Durable) (c : ContId) → is_enlisted d c ≡ true → is_enlisted (leased n d) c ≡ true
unfolding leased is_enlisted
enlisted-leased n d c is = is

-- a freeze that isn't refused is admitted
admitted : (p : TargetPlan) (c : ContId) (s : Epoch) (d : Durable) → snap.freeze_cause p c s d ≡ None → freezes c s d ≡ Ok tt
admitted p c s d none = by (freezes c s d) refl none
  where
    by : (a : Result (Unit {0}) FreezeNo) → freezes c s d ≡ a → snap.refusal_of p a ≡ None → a ≡ Ok tt
    by (Ok done) is none = refl
    by (Err e) is none = let no : ⊥ = cc in absurd no

module _ (r : Rules) (o : Opening) (held : List Version) (h : History) (served : List Served) (opening : Epoch × FloorWhy) (t : ℕ) (p : TargetPlan) (m : TargetMemory) (reading : ℕ) (tracker : Epoch) (ep : Option Epoch) (c : ContId) (alone : Bool)
    (apart : AreDecided (transactions r.script h)) (above : (s : Epoch) → request_epoch p m reading tracker ep ≡ Some s → top o < s.0) where
  abbrev SoundAt : Durable → Type 0
  SoundAt d = Sound r o held h served opening t d m.stamps

  -- what holds at each stage: the container is known, the epoch lies above the opening's, and the lease covers it
  abbrev FreezeMid : snap.FreezeStage → Kept → Type 0
  FreezeMid snap.Asked k = SoundAt k.durable × (is_enlisted k.durable c ≡ true)
  FreezeMid (snap.Known s) k = SoundAt k.durable × (is_enlisted k.durable c ≡ true) × (top o < s.0)
  FreezeMid (snap.Freezing s) k = SoundAt k.durable × (is_enlisted k.durable c ≡ true) × (top o < s.0) × (s.0 / 256 ≤ k.durable.lease)
  FreezeMid (snap.Frozen s lines) k = SoundAt k.durable
  FreezeMid (snap.Created s lines) k = SoundAt k.durable

  freeze-step : (g : snap.FreezeStage) (k : Kept) (x : Option Change) (u : snap.FreezeStage) (l : Kept) → snap.FreezeNext p m reading tracker ep c alone g k x u → Steps x k l → FreezeMid g k → FreezeMid u l
  freeze-step g k x u l (snap.HasEpoch k' s has) steps f = subst (λ n. FreezeMid (snap.Known s) n) (sym steps) (f.0, f.1, above s has)
  freeze-step g k x u l (snap.ExtendsLease k' s lease low is) steps f =
      subst (λ d. SoundAt d × (is_enlisted d c ≡ true) × (top o < s.0)) (sym steps.0)
      (extends-sound r o held h served opening t m.stamps k.durable (s.0 / 256) lease low is f.0, enlisted-leased lease k.durable c f.1, f.2)
  freeze-step g k x u l (snap.IsCovered k' s low) steps f = subst (λ n. FreezeMid (snap.Freezing s) n) (sym steps) (f.0, f.1, f.2, low)
  freeze-step g k x u l (snap.FreezesIt k' s free new) steps f =
      subst SoundAt (sym steps.0) (freezes-sound r o held h served opening t m.stamps c s k.durable apart (record { known = f.1; above = f.2; covered = f.3; allowed = admitted p c s k.durable free }) f.0)
  freeze-step g k x u l (snap.IsFrozen k' s free old) steps f = subst (λ n. SoundAt n.durable) (sym steps) f.0
  freeze-step g k x u l (snap.CreatesIt k' s lines only) steps f = subst SoundAt (sym steps.0) (creates-sound r o held h served opening t m.stamps c s k.durable f)

  mid-sound : (g : snap.FreezeStage) (k : Kept) → FreezeMid g k → SoundAt k.durable
  mid-sound snap.Asked k f = f.0
  mid-sound (snap.Known s) k f = f.0
  mid-sound (snap.Freezing s) k f = f.0
  mid-sound (snap.Frozen s lines) k f = f
  mid-sound (snap.Created s lines) k f = f

  -- no change of it is made in part
  no-part : (g : snap.FreezeStage) (k : Kept) (y : Option Change) (u : snap.FreezeStage) → snap.FreezeNext p m reading tracker ep c alone g k y u → (x : Change) → y ≡ Some x → (d : Durable) → IsPartly x k.durable d → ⊥
  no-part g k y u (snap.HasEpoch k' s has) x is d q = let no : ⊥ = cc in no
  no-part g k y u (snap.ExtendsLease k' s lease low for) x is d q = let same : Extends lease ≡ x = cc in subst (λ z. IsPartly z k.durable d) (sym same) q
  no-part g k y u (snap.IsCovered k' s low) x is d q = let no : ⊥ = cc in no
  no-part g k y u (snap.FreezesIt k' s free new) x is d q = let same : Freezes c s ≡ x = cc in subst (λ z. IsPartly z k.durable d) (sym same) q
  no-part g k y u (snap.IsFrozen k' s free old) x is d q = let no : ⊥ = cc in no
  no-part g k y u (snap.CreatesIt k' s lines only) x is d q = let same : Creates c s ≡ x = cc in subst (λ z. IsPartly z k.durable d) (sym same) q

  -- where the turn is cut
  pub freeze-cut : (issues : snap.FreezeStage → List (AttemptId × Epoch)) (n : ℕ) (old : Kept) (cut : Cutting) → CutTurn (snap.FreezeNext p m reading tracker ep c alone) issues n snap.Asked old cut
      → SoundAt old.durable → is_enlisted old.durable c ≡ true → SoundAt cut.left.durable
  freeze-cut issues n old cut g sound known =
      parts-keep (snap.FreezeNext p m reading tracker ep c alone) issues n FreezeMid SoundAt freeze-step (λ g k x u d next f q. absurd (no-part g k (Some x) u next x refl d q)) mid-sound snap.Asked old cut g (sound, known)

  -- and where it is whole
  pub freeze-reached : (old : Kept) (last : snap.FreezeStage) (new : Kept) → Reached (snap.FreezeNext p m reading tracker ep c alone) snap.Asked old last new → SoundAt old.durable → is_enlisted old.durable c ≡ true → SoundAt new.durable
  freeze-reached old last new way sound known = mid-sound last new (reached-keeps (snap.FreezeNext p m reading tracker ep c alone) FreezeMid freeze-step snap.Asked old last new way (sound, known))

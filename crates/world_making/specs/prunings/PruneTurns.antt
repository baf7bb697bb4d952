-- A turn in which a target prunes a container leaves what it keeps and served sound, also where it is cut.
use Rattle.std.specs.Prelude.{ℕ, ◌≡◌, ◌<◌, ◌/◌, true, List, map, Contains, Option, Some, refl}
use Rattle.std.proofs.Common.{sym, ◌∙◌, ap, subst, arith, inl, inr}
use Rattle.base_types.specs.declared.entry.Settle.TheVariants.{Commit}
use Rattle.base_types.specs.declared.epoch.Epoch.{Epoch}
use Rattle.base_types.specs.declared.id.AttemptId.{AttemptId}
use Rattle.base_types.specs.declared.id.ContId.{ContId}
use Rattle.base_types.specs.declared.outcome.FloorWhy.{FloorWhy}
use Rattle.daos_model.specs.Changes.{leased, settled}
use Rattle.daos_model.specs.Durables.{is_enlisted}
use Rattle.daos_model.specs.Opening.{Opening, top}
use Rattle.daos_model.specs.Versions.{done_by}
use Rattle.daos_model.specs.declared.durable.Durable.{Durable}
use Rattle.daos_model.specs.declared.durable.Version.{Version}
use Rattle.model_laws.specs.Decided.{AreDecided}
use Rattle.model_laws.specs.Members.{Has, contains-from_has, has-from_contains, has-from_map}
use Rattle.world_causes.specs.world_commit.attempts.History.{History, Served}
use Rattle.world_base.specs.declared.target.TargetMemory.{TargetMemory}
use Rattle.world_base.specs.declared.target.TargetPlan.{TargetPlan}
use Rattle.world_base.specs.Changes.{Change, Extends, IsPartly, Kept, Prunes, Settles, Steps}
use Rattle.world_base.specs.CutTurns.{CutTurn, Cutting}
use Rattle.world_base.specs.Events.{Rules}
use Rattle.world_base.specs.PathLaws.{reached-keeps}
use Rattle.world_base.specs.Requests.{request_epoch}
use Rattle.world_base.specs.Snapshots as snap
use Rattle.world_base.specs.Turns.{Reached}
use Rattle.world_causes.specs.world_contents.frozen.Laws.{AreUnsettledAbove, MayBePruned}
use Rattle.world_causes.specs.world_contents.frozen.LimitLaws.{limits-clear}
use Rattle.world_causes.specs.world_contents.frozen.PruneLaws.{parts-sound, prunes-sound}
use Rattle.world_causes.specs.world_contents.reads.ChangeLaws.{WasDecided, other-stays, still-open}
use Rattle.world_causes.specs.world_contents.reads.Midway.{Sound}
use Rattle.world_causes.specs.world_contents.reads.StepLaws.{commits-sound, extends-sound}
use Rattle.world_causes.specs.world_contents.reads.Transactions.{transactions}
use Rattle.world_making.specs.prunings.FreezeTurns.{enlisted-leased}
use Rattle.world_making.specs.prunings.Parts.{parts-keep}

-- ---- what settling and extending leave

enlisted-settled : (a : AttemptId) (d : Durable) (c : ContId) → is_enlisted d c ≡ true → is_enlisted (settled a Commit d) c ≡ true
unfolding settled is_enlisted
enlisted-settled a d c is = is

above-leased : (o : Opening) (n : ℕ) (d : Durable) → AreUnsettledAbove o d → AreUnsettledAbove o (leased n d)
unfolding leased
above-leased o n d above = above

above-settled : (o : Opening) (a : AttemptId) (d : Durable) → AreUnsettledAbove o d → AreUnsettledAbove o (settled a Commit d)
unfolding settled
above-settled o a d above v i off =
    let u = has-from_map (done_by a) d.versions v (has-from_contains (map (done_by a) d.versions) v i) in
    let was = still-open a u.0 (ap (λ x. x.done) u.2 ∙ off) in
    subst (λ x. top o < x.epoch.0) (sym (other-stays a u.0 was.1) ∙ u.2) (above u.0 (contains-from_has d.versions u.0 u.1) was.0)

module _ (r : Rules) (o : Opening) (held : List Version) (h : History) (served : List Served) (opening : Epoch × FloorWhy) (t : ℕ) (p : TargetPlan) (m : TargetMemory) (reading : ℕ) (tracker : Epoch) (ep : Option Epoch) (c : ContId) (number : ℕ)
    (apart : AreDecided (transactions r.script h)) (above : (g : Epoch) → request_epoch p m reading tracker ep ≡ Some g → top o < g.0) (decided : (a : AttemptId) → Contains m.leader.decided a → WasDecided h a) where
  abbrev SoundAt : Durable → Type 0
  SoundAt d = Sound r o held h served opening t d m.stamps

  -- what is kept before the prune: it is sound, the container is known, and what isn't settled lies above the opening
  record Ready (d : Durable) : Type 0 where
    sound : SoundAt d
    known : is_enlisted d c ≡ true
    unsettled : AreUnsettledAbove o d

  -- what holds at each stage: the epoch lies above the opening's, and what is left to be settled was decided
  PruneMid : snap.PruneStage → Kept → Type 0
  PruneMid snap.Asked k = Ready k.durable
  PruneMid (snap.Known g) k = Ready k.durable × (top o < g.0)
  PruneMid (snap.Settling g left) k = Ready k.durable × (top o < g.0) × ((a : AttemptId) → Has a left → WasDecided h a)
  PruneMid (snap.Pruned g lines) k = SoundAt k.durable

  may-prune : (g : Epoch) (d : Durable) → Ready d → top o < g.0 → snap.is_prune_due c g d ≡ true → MayBePruned o c (snap.prune_limit c g d) d
  may-prune g d k high due = limits-clear r o held h t c g d k.sound.stand k.unsettled k.known (omega (arith, high)) due

  prune-step : (g : snap.PruneStage) (k : Kept) (x : Option Change) (u : snap.PruneStage) (l : Kept) → snap.PruneNext p m reading tracker ep c number g k x u → Steps x k l → PruneMid g k → PruneMid u l
  unfolding PruneMid
  prune-step g k x u l (snap.HasEpoch k' s has) steps f = subst (λ n. Ready n.durable × (top o < s.0)) (sym steps) (f, above s has)
  prune-step g k x u l (snap.ExtendsLease k' s lease low is) steps f =
      subst (λ d. Ready d × (top o < s.0)) (sym steps.0)
      (record { sound = extends-sound r o held h served opening t m.stamps k.durable (s.0 / 256) lease low is f.0.sound; known = enlisted-leased lease k.durable c f.0.known; unsettled = above-leased o lease k.durable f.0.unsettled }, f.1)
  prune-step g k x u l (snap.IsCovered k' s low) steps f =
      subst (λ n. Ready n.durable × (top o < s.0) × ((a : AttemptId) → Has a m.leader.decided → WasDecided h a)) (sym steps) (f.0, f.1, λ a i. decided a (contains-from_has m.leader.decided a i))
  prune-step g k x u l (snap.SettlesFirst k' s a rest) steps f =
      subst (λ d. Ready d × (top o < s.0) × ((b : AttemptId) → Has b rest → WasDecided h b)) (sym steps.0)
      (record { sound = commits-sound r o held h served opening t m.stamps k.durable a (f.2 a (inl refl)) f.0.sound; known = enlisted-settled a k.durable c f.0.known; unsettled = above-settled o a k.durable f.0.unsettled }, f.1, λ b i. f.2 b (inr i))
  prune-step g k x u l (snap.PrunesIt k' s due) steps f =
      subst SoundAt (sym steps.0) (prunes-sound r o held h served opening t m.stamps c (snap.prune_limit c s k.durable) number k.durable apart (may-prune s k.durable f.0 f.1 due) f.0.sound)
  prune-step g k x u l (snap.PassesBy k' s not_due) steps f = subst (λ n. SoundAt n.durable) (sym steps) f.0.sound

  mid-sound : (g : snap.PruneStage) (k : Kept) → PruneMid g k → SoundAt k.durable
  unfolding PruneMid
  mid-sound snap.Asked k f = f.sound
  mid-sound (snap.Known g) k f = f.0.sound
  mid-sound (snap.Settling g left) k f = f.0.sound
  mid-sound (snap.Pruned g lines) k f = f

  -- the prune alone may be made in part
  prune-part : (g : snap.PruneStage) (k : Kept) (y : Option Change) (u : snap.PruneStage) → snap.PruneNext p m reading tracker ep c number g k y u → (x : Change) → y ≡ Some x → (d : Durable) → PruneMid g k → IsPartly x k.durable d → SoundAt d
  unfolding PruneMid
  prune-part g k y u (snap.HasEpoch k' s has) x is d f q = let no : ⊥ = cc in absurd no
  prune-part g k y u (snap.ExtendsLease k' s lease low for) x is d f q = let same : Extends lease ≡ x = cc in absurd (subst (λ z. IsPartly z k.durable d) (sym same) q)
  prune-part g k y u (snap.IsCovered k' s low) x is d f q = let no : ⊥ = cc in absurd no
  prune-part g k y u (snap.SettlesFirst k' s a rest) x is d f q = let same : Settles a Commit ≡ x = cc in absurd (subst (λ z. IsPartly z k.durable d) (sym same) q)
  prune-part g k y u (snap.PrunesIt k' s due) x is d f q =
      let same : Prunes c (snap.prune_limit c s k.durable) number ≡ x = cc in
      parts-sound r o held h served opening t m.stamps c (snap.prune_limit c s k.durable) number k.durable d apart (may-prune s k.durable f.0 f.1 due) (subst (λ z. IsPartly z k.durable d) (sym same) q) f.0.sound
  prune-part g k y u (snap.PassesBy k' s not_due) x is d f q = let no : ⊥ = cc in absurd no

  -- ---- the whole turn, and where it is cut

  module _ (old : Kept) (sound : SoundAt old.durable) (known : is_enlisted old.durable c ≡ true) (unsettled : AreUnsettledAbove o old.durable) where
    begins : PruneMid snap.Asked old
    unfolding PruneMid
    begins = record { sound = sound; known = known; unsettled = unsettled }

    pub prune-cut : (issues : snap.PruneStage → List (AttemptId × Epoch)) (n : ℕ) (cut : Cutting) → CutTurn (snap.PruneNext p m reading tracker ep c number) issues n snap.Asked old cut → SoundAt cut.left.durable
    prune-cut issues n cut g =
        parts-keep (snap.PruneNext p m reading tracker ep c number) issues n PruneMid SoundAt prune-step (λ g k x u d next f q. prune-part g k (Some x) u next x refl d f q) mid-sound snap.Asked old cut g begins

    pub prune-reached : (last : snap.PruneStage) (new : Kept) → Reached (snap.PruneNext p m reading tracker ep c number) snap.Asked old last new → SoundAt new.durable
    prune-reached last new way = mid-sound last new (reached-keeps (snap.PruneNext p m reading tracker ep c number) PruneMid prune-step snap.Asked old last new way begins)

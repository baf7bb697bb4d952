-- What each turn of a target makes of the snapshots that it keeps.
use Rattle.std.specs.Prelude.{ℕ, ◌≡◌, Bool, true, List, [], ◌∷◌, Option, Some, None, refl}
use Rattle.std.proofs.Common.{sym, ◌∙◌, ap, subst, inl, inr}
use Rattle.base_types.specs.declared.epoch.Epoch.{Epoch}
use Rattle.base_types.specs.declared.id.AttemptId.{AttemptId}
use Rattle.base_types.specs.declared.id.ContId.{ContId}
use Rattle.base_types.specs.declared.key.Key.{Key}
use Rattle.base_types.specs.declared.outcome.Outcome.{Outcome}
use Rattle.base_types.specs.declared.report.Line.{Line}
use Rattle.base_types.specs.declared.report.Line.TheVariants as line
use Rattle.model_laws.specs.Members.{Has}
use Rattle.daos_model.specs.declared.durable.Durable.{Durable}
use Rattle.daos_model.specs.Changes.{created}
use Rattle.daos_model.specs.Durables.{is_frozen}
use Rattle.world_base.specs.declared.target.Collection.{Collection}
use Rattle.world_base.specs.declared.target.TargetMemory.{TargetMemory}
use Rattle.world_base.specs.declared.target.TargetPlan.{TargetPlan}
use Rattle.world_base.specs.Changes.{Change, Creates, Extends, Freezes, IsPlainly, Kept, Prepares, Prunes, Settles, Steps}
use Rattle.world_base.specs.CutTurns.{CutHere, CutTurn, Cutting, InChange, InQuestion, issued_by_freeze, listed_issue}
use Rattle.world_base.specs.PathLaws.{AllPlain, path-keeps}
use Rattle.world_base.specs.Requests.{issued_for, request_epoch}
use Rattle.world_base.specs.Snapshots as snap
use Rattle.world_base.specs.Turns.{Path, Whole}
use Rattle.world_making.specs.freezings.Snapping.{CreatedBy, FrozenBy, NoSnaps, OnlyIt, Snapping, created-there, frozen-there, snapping-cut, snapping-more, snapping-same, snapping-steps, snapping-then}
use Rattle.world_making.specs.making.Snapshots.{holds_created}

-- ---- turns of which each step freezes some and creates some

-- the steps of a kind of turn freeze these alone, and create those alone
pub record MakesOnly {S : Type 0} (F C : ContId → Epoch → Type 0) (Next : S → Kept → Option Change → S → Type 0) : Type 0 where
  pub freezes : (s : S) (k : Kept) (o : Option Change) (u : S) → Next s k o u → (a : ContId) (e : Epoch) → FrozenBy o a e → F a e
  pub creates : (s : S) (k : Kept) (o : Option Change) (u : S) → Next s k o u → (a : ContId) (e : Epoch) → CreatedBy o a e → C a e

module _ {S : Type 0} (F C : ContId → Epoch → Type 0) (Next : S → Kept → Option Change → S → Type 0) (allows : MakesOnly F C Next) where
  pub path-snaps : (start : S) (old : Kept) (did : List Change) (last : S) (mid : Kept) → Path Next start old did last mid → Snapping F C old.durable mid.durable
  path-snaps start old did last mid path =
      path-keeps Next (λ s k. Snapping F C old.durable k.durable)
      (λ s k o u l next steps so_far. snapping-then F C old.durable k.durable l.durable so_far
      (snapping-more (FrozenBy o) (CreatedBy o) F C k.durable l.durable (allows.freezes s k o u next) (allows.creates s k o u next) (snapping-steps o k l steps)))
      start old did last mid path (snapping-same F C old.durable old.durable refl)

  pub whole-snaps : {R : Type 0} (Ends : S → Kept → R → Type 0) (start : S) (old new : Kept) (result : R) → Whole Next Ends start old new result → Snapping F C old.durable new.durable
  whole-snaps Ends start old new result w = path-snaps start old w.reached.did w.last new w.reached.path

  pub cut-snaps : (issues : S → List (AttemptId × Epoch)) (t : ℕ) (start : S) (old : Kept) (cut : Cutting) → CutTurn Next issues t start old cut → Snapping F C old.durable cut.left.durable
  cut-snaps issues t start old cut g = snapping-then F C old.durable g.mid.durable cut.left.durable (path-snaps start old g.did g.last g.mid g.path) (here g.lines g.here)
    where
      here : (lines : List Line) → CutHere Next t g.last g.mid cut.left lines → Snapping F C g.mid.durable cut.left.durable
      here lines (InChange c next is left free) =
          snapping-more (FrozenBy (Some c)) (CreatedBy (Some c)) F C g.mid.durable cut.left.durable (allows.freezes g.last g.mid (Some c) next is)
          (allows.creates g.last g.mid (Some c) next is) (snapping-cut c g.mid.durable cut.left.durable left)
      here lines (InQuestion same free) = snapping-same F C g.mid.durable cut.left.durable (ap (λ x. x.snaps) same)

-- plain changes freeze and create none
plain-freezes : (o : Option Change) (a : ContId) (e : Epoch) → IsPlainly o → FrozenBy o a e → ⊥
plain-freezes None a e plain f = f
plain-freezes (Some (Extends ticks)) a e plain f = f
plain-freezes (Some (Prepares x ws)) a e plain f = f
plain-freezes (Some (Settles x step)) a e plain f = f
plain-freezes (Some (Freezes c s)) a e plain f = let no : ⊥ = cc in no
plain-freezes (Some (Creates c s)) a e plain f = f
plain-freezes (Some (Prunes c upto n)) a e plain f = f

plain-creates : (o : Option Change) (a : ContId) (e : Epoch) → IsPlainly o → CreatedBy o a e → ⊥
plain-creates None a e plain f = f
plain-creates (Some (Extends ticks)) a e plain f = f
plain-creates (Some (Prepares x ws)) a e plain f = f
plain-creates (Some (Settles x step)) a e plain f = f
plain-creates (Some (Freezes c s)) a e plain f = f
plain-creates (Some (Creates c s)) a e plain f = let no : ⊥ = cc in no
plain-creates (Some (Prunes c upto n)) a e plain f = f

pub plain-allows : {S : Type 0} (F C : ContId → Epoch → Type 0) (Next : S → Kept → Option Change → S → Type 0) → AllPlain Next → MakesOnly F C Next
plain-allows F C Next plain = record { freezes = λ s k o u next a e f. absurd (plain-freezes o a e (plain s k o u next) f); creates = λ s k o u next a e f. absurd (plain-creates o a e (plain s k o u next) f) }

-- a prune freezes and creates none
pub prune-allows : (F C : ContId → Epoch → Type 0) (p : TargetPlan) (m : TargetMemory) (reading : ℕ) (tracker : Epoch) (ep : Option Epoch) (c : ContId) (number : ℕ) → MakesOnly F C (snap.PruneNext p m reading tracker ep c number)
prune-allows F C p m reading tracker ep c number = record { freezes = λ s k o u next a e f. absurd (none s k o u next a e f); creates = λ s k o u next a e f. absurd (no-more s k o u next a e f) }
  where
    none : (s : snap.PruneStage) (k : Kept) (o : Option Change) (u : snap.PruneStage) → snap.PruneNext p m reading tracker ep c number s k o u → (a : ContId) (e : Epoch) → FrozenBy o a e → ⊥
    none s k o u (snap.HasEpoch k2 g is) a e f = f
    none s k o u (snap.ExtendsLease k2 g lease low is) a e f = f
    none s k o u (snap.IsCovered k2 g low) a e f = f
    none s k o u (snap.SettlesFirst k2 g x rest) a e f = f
    none s k o u (snap.PrunesIt k2 g due) a e f = f
    none s k o u (snap.PassesBy k2 g due) a e f = f

    no-more : (s : snap.PruneStage) (k : Kept) (o : Option Change) (u : snap.PruneStage) → snap.PruneNext p m reading tracker ep c number s k o u → (a : ContId) (e : Epoch) → CreatedBy o a e → ⊥
    no-more s k o u (snap.HasEpoch k2 g is) a e f = f
    no-more s k o u (snap.ExtendsLease k2 g lease low is) a e f = f
    no-more s k o u (snap.IsCovered k2 g low) a e f = f
    no-more s k o u (snap.SettlesFirst k2 g x rest) a e f = f
    no-more s k o u (snap.PrunesIt k2 g due) a e f = f
    no-more s k o u (snap.PassesBy k2 g due) a e f = f

-- ---- a Held

-- what the last Held of a snapshot makes may be created
abbrev pub MayCreate : (ContId → Epoch → Type 0) → TargetPlan → TargetMemory → ℕ → AttemptId → Option Outcome → Type 0
MayCreate C p m from x refusal = (n : Collection) (name : Key) → refusal ≡ None → snap.collection_of x m ≡ Some n → n.name ≡ Some name → snap.is_last p from n ≡ true → C n.cont n.epoch

pub held-allows : (F C : ContId → Epoch → Type 0) (p : TargetPlan) (m : TargetMemory) (from : ℕ) (x : AttemptId) (refusal : Option Outcome) → MayCreate C p m from x refusal → MakesOnly F C (snap.HeldNext p m from x refusal)
held-allows F C p m from x refusal may = record { freezes = λ s k o u next a e f. absurd (none s k o u next a e f); creates = those }
  where
    none : (s : snap.HeldStage) (k : Kept) (o : Option Change) (u : snap.HeldStage) → snap.HeldNext p m from x refusal s k o u → (a : ContId) (e : Epoch) → FrozenBy o a e → ⊥
    none s k o u (snap.CreatesIt k2 n name well found named last) a e f = f
    none s k o u (snap.Counts k2 other) a e f = f

    those : (s : snap.HeldStage) (k : Kept) (o : Option Change) (u : snap.HeldStage) → snap.HeldNext p m from x refusal s k o u → (a : ContId) (e : Epoch) → CreatedBy o a e → C a e
    those s k o u (snap.CreatesIt k2 n name well found named last) a e f = subst (λ z. C z e) f.0 (subst (C n.cont) f.1 (may n name well found named last))
    those s k o u (snap.Counts k2 other) a e f = absurd f

-- what holds of its stages
abbrev pub HeldSo : TargetPlan → TargetMemory → ℕ → AttemptId → Option Outcome → Durable → snap.HeldStage → Kept → Type 0
HeldSo p m from x refusal d snap.Heard k = k.durable ≡ d
HeldSo p m from x refusal d snap.Counted k = (k.durable ≡ d) × MayCreate (λ c s. ⊥) p m from x refusal
HeldSo p m from x refusal d (snap.IsMade n name) k = (snap.collection_of x m ≡ Some n) × (n.name ≡ Some name) × (k.durable ≡ created n.cont n.epoch d)

pub held-so : (p : TargetPlan) (m : TargetMemory) (from : ℕ) (x : AttemptId) (refusal : Option Outcome) (old last' : Kept) (did : List Change) (s : snap.HeldStage)
    → Path (snap.HeldNext p m from x refusal) snap.Heard old did s last' → HeldSo p m from x refusal old.durable s last'
held-so p m from x refusal old last' did s path = path-keeps (snap.HeldNext p m from x refusal) (HeldSo p m from x refusal old.durable) step snap.Heard old did s last' path refl
  where
    step : (s : snap.HeldStage) (k : Kept) (o : Option Change) (u : snap.HeldStage) (l : Kept) → snap.HeldNext p m from x refusal s k o u → Steps o k l → HeldSo p m from x refusal old.durable s k → HeldSo p m from x refusal old.durable u l
    step s k o u l (snap.CreatesIt k2 n name well found named last) steps h = (found, named, steps.0 ∙ ap (created n.cont n.epoch) h)
    step s k o u l (snap.Counts k2 other) steps h = (ap (λ y. y.durable) steps ∙ h, other)

-- ---- a freeze

-- no line tells of a snapshot
abbrev pub NoneMade : List Line → Type 0
NoneMade lines = (name : List ℕ) (a : ContId) (e : Epoch) → Has (line.Snapshot name a e) lines → ⊥

pub none-made : NoneMade []
none-made name a e i = i

pub freeze-unmade : (t : ℕ) (c : ContId) (s : Epoch) → NoneMade (line.Freeze t c s ∷ [])
freeze-unmade t c s name a e (inl same) = let no : ⊥ = cc in no
freeze-unmade t c s name a e (inr none) = none

module _ (p : TargetPlan) (m : TargetMemory) (reading : ℕ) (tracker : Epoch) (ep : Option Epoch) (c : ContId) (alone : Bool) (old : Kept) where
  -- by its stages: nothing is frozen yet; its snapshot is; or it is created, on the only target
  abbrev pub FreezesSo : snap.FreezeStage → Kept → Type 0
  FreezesSo snap.Asked k = Snapping NoSnaps NoSnaps old.durable k.durable
  FreezesSo (snap.Known s) k = (request_epoch p m reading tracker ep ≡ Some s) × Snapping NoSnaps NoSnaps old.durable k.durable
  FreezesSo (snap.Freezing s) k = (request_epoch p m reading tracker ep ≡ Some s) × Snapping NoSnaps NoSnaps old.durable k.durable
  FreezesSo (snap.Frozen s lines) k = (request_epoch p m reading tracker ep ≡ Some s) × Snapping (OnlyIt c s) NoSnaps old.durable k.durable × (is_frozen k.durable c s ≡ true) × NoneMade lines
  FreezesSo (snap.Created s lines) k = (request_epoch p m reading tracker ep ≡ Some s) × Snapping (OnlyIt c s) (OnlyIt c s) old.durable k.durable ×
      (is_frozen k.durable c s ≡ true) × (alone ≡ true) × NoneMade lines × (holds_created k.durable c s ≡ true)

  no-less : (F C : ContId → Epoch → Type 0) (k l : Kept) → Snapping F C old.durable k.durable → Snapping NoSnaps NoSnaps k.durable l.durable → Snapping F C old.durable l.durable
  no-less F C k l before then' = snapping-then F C old.durable k.durable l.durable before (snapping-more NoSnaps NoSnaps F C k.durable l.durable (λ a e f. absurd f) (λ a e f. absurd f) then')

  nothing-yet : (F C : ContId → Epoch → Type 0) (k : Kept) → Snapping NoSnaps NoSnaps old.durable k.durable → Snapping F C old.durable k.durable
  nothing-yet F C k before = snapping-more NoSnaps NoSnaps F C old.durable k.durable (λ a e f. absurd f) (λ a e f. absurd f) before

  freezes-one : (s : Epoch) (k l : Kept) → Snapping NoSnaps NoSnaps old.durable k.durable → Snapping (OnlyIt c s) NoSnaps k.durable l.durable → Snapping (OnlyIt c s) NoSnaps old.durable l.durable
  freezes-one s k l before then' = snapping-then (OnlyIt c s) NoSnaps old.durable k.durable l.durable (nothing-yet (OnlyIt c s) NoSnaps k before) then'

  creates-one : (s : Epoch) (k l : Kept) → Snapping (OnlyIt c s) NoSnaps old.durable k.durable → Snapping NoSnaps (OnlyIt c s) k.durable l.durable → Snapping (OnlyIt c s) (OnlyIt c s) old.durable l.durable
  creates-one s k l before then' =
      snapping-then (OnlyIt c s) (OnlyIt c s) old.durable k.durable l.durable (snapping-more (OnlyIt c s) NoSnaps (OnlyIt c s) (OnlyIt c s) old.durable k.durable (λ a e f. f) (λ a e f. absurd f) before)
      (snapping-more NoSnaps (OnlyIt c s) (OnlyIt c s) (OnlyIt c s) k.durable l.durable (λ a e f. absurd f) (λ a e f. f) then')

  pub freezes-step : (s : snap.FreezeStage) (k : Kept) (o : Option Change) (u : snap.FreezeStage) (l : Kept) → snap.FreezeNext p m reading tracker ep c alone s k o u → Steps o k l → FreezesSo s k → FreezesSo u l
  freezes-step s k o u l (snap.HasEpoch k2 e is) steps h = (is, no-less NoSnaps NoSnaps k l h (snapping-steps None k l steps))
  freezes-step s k o u l (snap.ExtendsLease k2 e lease low is) steps h = (h.0, no-less NoSnaps NoSnaps k l h.1 (snapping-steps (Some (Extends lease)) k l steps))
  freezes-step s k o u l (snap.IsCovered k2 e low) steps h = (h.0, no-less NoSnaps NoSnaps k l h.1 (snapping-steps None k l steps))
  freezes-step s k o u l (snap.FreezesIt k2 e free unfrozen) steps h =
      (h.0, freezes-one e k l h.1 (snapping-steps (Some (Freezes c e)) k l steps), ap (λ d. is_frozen d c e) steps.0 ∙ frozen-there c e k.durable, freeze-unmade p.me c e)
  freezes-step s k o u l (snap.IsFrozen k2 e free frozen) steps h =
      (h.0, nothing-yet (OnlyIt c e) NoSnaps l (no-less NoSnaps NoSnaps k l h.1 (snapping-steps None k l steps)), ap (λ z. is_frozen z.durable c e) steps ∙ frozen, none-made)
  freezes-step s k o u l (snap.CreatesIt k2 e told only) steps h =
      let made = snapping-steps (Some (Creates c e)) k l steps in
      (h.0, creates-one e k l h.1 made, made.stays c e h.2, only, h.3, ap (λ d. holds_created d c e) steps.0 ∙ created-there c e k.durable h.2)

  -- a turn that came so far
  pub freezes-path : (did : List Change) (last : snap.FreezeStage) (mid : Kept) → Path (snap.FreezeNext p m reading tracker ep c alone) snap.Asked old did last mid → FreezesSo last mid
  freezes-path did last mid path = path-keeps (snap.FreezeNext p m reading tracker ep c alone) FreezesSo freezes-step snap.Asked old did last mid path (snapping-same NoSnaps NoSnaps old.durable old.durable refl)

  -- What a turn leaves that was cut, where what it may freeze by then is its snapshot at an epoch that was issued by then, and what it may
  -- create the same, on the only target.
  module _ (x : AttemptId) (F C : ContId → Epoch → Type 0) (issued : List (AttemptId × Epoch)) (creates : (s : Epoch) → request_epoch p m reading tracker ep ≡ Some s → issued ≡ listed_issue (issued_for x ep s) → alone ≡ true → C c s)
      (freezes : (s : Epoch) → request_epoch p m reading tracker ep ≡ Some s → issued ≡ listed_issue (issued_for x ep s) → F c s) where
    only-freezes : (s : Epoch) → request_epoch p m reading tracker ep ≡ Some s → issued ≡ listed_issue (issued_for x ep s) → (a : ContId) (e : Epoch) → OnlyIt c s a e → F a e
    only-freezes s its one a e f = subst (λ z. F z e) f.0 (subst (F c) f.1 (freezes s its one))

    only-creates : (s : Epoch) → request_epoch p m reading tracker ep ≡ Some s → issued ≡ listed_issue (issued_for x ep s) → alone ≡ true → (a : ContId) (e : Epoch) → OnlyIt c s a e → C a e
    only-creates s its one only a e f = subst (λ z. C z e) f.0 (subst (C c) f.1 (creates s its one only))

    freezes-so : (s : snap.FreezeStage) (k : Kept) → FreezesSo s k → issued ≡ issued_by_freeze x ep s → Snapping F C old.durable k.durable
    freezes-so snap.Asked k h one = nothing-yet F C k h
    freezes-so (snap.Known s) k h one = nothing-yet F C k h.1
    freezes-so (snap.Freezing s) k h one = nothing-yet F C k h.1
    freezes-so (snap.Frozen s lines) k h one = snapping-more (OnlyIt c s) NoSnaps F C old.durable k.durable (only-freezes s h.0 one) (λ a e f. absurd f) h.1
    freezes-so (snap.Created s lines) k h one = snapping-more (OnlyIt c s) (OnlyIt c s) F C old.durable k.durable (only-freezes s h.0 one) (only-creates s h.0 one h.3) h.1

    -- one change more, in which it was cut
    change-so : (s : snap.FreezeStage) (k : Kept) (o : Option Change) (u : snap.FreezeStage) (l : Kept) → snap.FreezeNext p m reading tracker ep c alone s k o u → FreezesSo s k → issued ≡ issued_by_freeze x ep s
        → Snapping (FrozenBy o) (CreatedBy o) k.durable l.durable → Snapping F C old.durable l.durable
    change-so s k o u l (snap.HasEpoch k2 e is) h one by-it = nothing-yet F C l (no-less NoSnaps NoSnaps k l h by-it)
    change-so s k o u l (snap.ExtendsLease k2 e lease low is) h one by-it = nothing-yet F C l (no-less NoSnaps NoSnaps k l h.1 by-it)
    change-so s k o u l (snap.IsCovered k2 e low) h one by-it = nothing-yet F C l (no-less NoSnaps NoSnaps k l h.1 by-it)
    change-so s k o u l (snap.FreezesIt k2 e free unfrozen) h one by-it = snapping-more (OnlyIt c e) NoSnaps F C old.durable l.durable (only-freezes e h.0 one) (λ a i f. absurd f) (freezes-one e k l h.1 by-it)
    change-so s k o u l (snap.IsFrozen k2 e free frozen) h one by-it = nothing-yet F C l (no-less NoSnaps NoSnaps k l h.1 by-it)
    change-so s k o u l (snap.CreatesIt k2 e told only) h one by-it =
        snapping-more (OnlyIt c e) (OnlyIt c e) F C old.durable l.durable (only-freezes e h.0 one) (only-creates e h.0 one only) (creates-one e k l h.1 by-it)

    pub freeze-cut : (t : ℕ) (cut : Cutting) → cut.issued ≡ issued → CutTurn (snap.FreezeNext p m reading tracker ep c alone) (issued_by_freeze x ep) t snap.Asked old cut → Snapping F C old.durable cut.left.durable
    freeze-cut t cut own g = here g.lines g.here
      where
        so : FreezesSo g.last g.mid
        so = freezes-path g.did g.last g.mid g.path

        one : issued ≡ issued_by_freeze x ep g.last
        one = sym own ∙ g.issued

        here : (lines : List Line) → CutHere (snap.FreezeNext p m reading tracker ep c alone) t g.last g.mid cut.left lines → Snapping F C old.durable cut.left.durable
        here lines (InChange d next is left free) = change-so g.last g.mid (Some d) next cut.left is so one (snapping-cut d g.mid.durable cut.left.durable left)
        here lines (InQuestion same free) = subst (Snapping F C old.durable) (sym same) (freezes-so g.last g.mid so one)

-- What a further turn leaves of what is collected, and which lines it has.
use Rattle.std.specs.Prelude.{ℕ, ◌≡◌, ◌++◌, Bool, true, false, List, [], ◌∷◌, filter, map, find, Option, Some, None, refl, if◌then◌else◌}
use Rattle.std.proofs.Common.{sym, ◌∙◌, ap, subst, inl, inr}
use Rattle.base_types.specs.declared.epoch.Epoch.{Epoch}
use Rattle.base_types.specs.declared.id.AttemptId.{AttemptId}
use Rattle.base_types.specs.declared.id.ContId.{ContId}
use Rattle.base_types.specs.declared.key.Key.{Key}
use Rattle.base_types.specs.declared.outcome.Outcome.{Outcome}
use Rattle.base_types.specs.declared.outcome.Outcome.TheVariants as outcome
use Rattle.base_types.specs.declared.report.Line.{Line}
use Rattle.base_types.specs.declared.report.Line.TheVariants as line
use Rattle.base_messages.specs.declared.actor.ActorId.{ActorId}
use Rattle.base_messages.specs.declared.message.Message.{Message}
use Rattle.base_messages.specs.declared.message.Message.TheVariants as message
use Rattle.world_base.specs.model_laws.Members.{Has, has-cases, has-from_filter, has-from_map}
use Rattle.daos_model.specs.Durables.{same_attempt}
use Rattle.world_base.specs.dtx_base.Members.{with_target}
use Rattle.world_base.specs.declared.did.Did.{Did}
use Rattle.world_base.specs.declared.request.CommitRequest.{CommitRequest}
use Rattle.world_base.specs.declared.target.Collection.{Collection}
use Rattle.world_base.specs.declared.target.TargetMemory.{TargetMemory}
use Rattle.world_base.specs.declared.target.TargetPlan.{TargetPlan}
use Rattle.world_base.specs.Changes.{Change, Kept, Steps}
use Rattle.world_base.specs.Commits as commit
use Rattle.world_base.specs.Events.{Rules}
use Rattle.world_base.specs.Further.{CommitDown, IsSpent, IsUnknown, knows_down, reset_by}
use Rattle.world_base.specs.Snapshots as snap
use Rattle.world_base.specs.Statuses.{AtOnce, EndsAs, IsDone}
use Rattle.world_letters.specs.snapshots.Makings.{CollectsSo, ComesOf, IsAggregationOf, IsMadeBy, IsSnapIn, IsSnapOf}
use Rattle.world_letters.specs.snapshots.Memories.{Same}
use Rattle.world_letters.specs.snapshots.Stages.{FreezesAt, FrozenSo, PrunedSo, PrunesUpTo}

-- what a turn leaves: what is collected and what the lines tell comes of attempts that make it, at epochs that were issued by then
pub record LeavesSo (r : Rules) (is : List (AttemptId × Epoch)) (left : TargetMemory × Did) : Type 0 where
  pub collecting : (c : Collection) → Has c left.0.collecting → CollectsSo r is c
  pub lines : (l : Line) → Has l left.1.lines → ComesOf r is l

-- ---- lines of freezes and prunes

module _ (r : Rules) (is : List (AttemptId × Epoch)) where
  pub freezes-come : (t : ℕ) (c : ContId) (x : AttemptId) (s : Epoch) (ls : List Line) → Has (x, s) is → IsSnapIn r x c → FreezesAt t c s ls → (l : Line) → Has l ls → ComesOf r is l
  freezes-come t c x s ls issued made (inl none) l i = absurd (subst (Has l) none i)
  freezes-come t c x s ls issued made (inr one) l i = by (subst (Has l) one i)
    where
      by : Has l (line.Freeze t c s ∷ []) → ComesOf r is l
      by (inl same) = subst (ComesOf r is) (sym same) (x, issued, made)
      by (inr none) = absurd none

  pub prunes-come : (t number : ℕ) (c : ContId) (x : AttemptId) (g : Epoch) (ls : List Line) → Has (x, g) is → IsAggregationOf r x c → PrunesUpTo t number c g ls → (l : Line) → Has l ls → ComesOf r is l
  prunes-come t number c x g ls issued made (inl none) l i = absurd (subst (Has l) none i)
  prunes-come t number c x g ls issued made (inr one) l i = by (subst (Has l) one.2 i)
    where
      by : Has l (line.Aggregate number t c one.0 ∷ []) → ComesOf r is l
      by (inl same) = subst (ComesOf r is) (sym same) (x, g, issued, made, one.1)
      by (inr none) = absurd none

-- ---- what is left

module _ (r : Rules) (is : List (AttemptId × Epoch)) (m : TargetMemory) (before : (c : Collection) → Has c m.collecting → CollectsSo r is c) where
  pub same-left : (left : TargetMemory × Did) → Same m left.0 → left.1.lines ≡ [] → LeavesSo r is left
  same-left left same none = record { collecting = λ c i. before c (subst (Has c) same i); lines = λ l i. absurd (subst (Has l) none i) }

  same-with : (left : TargetMemory × Did) → Same m left.0 → ((l : Line) → Has l left.1.lines → ComesOf r is l) → LeavesSo r is left
  same-with left same lines = record { collecting = λ c i. before c (subst (Has c) same i); lines = lines }

  -- one collection more
  one-more : (ms : List Collection) (new : Collection) → ms ≡ m.collecting ++ new ∷ [] → CollectsSo r is new → (c : Collection) → Has c ms → CollectsSo r is c
  one-more ms new e so c i = elim (has-cases m.collecting (new ∷ []) c (subst (Has c) e i)) [ inl j ↦ before c j | inr j ↦ its j ]
    where
      its : Has c (new ∷ []) → CollectsSo r is c
      its (inl same) = subst (CollectsSo r is) (sym same) so
      its (inr none) = absurd none

  fewer : (x : AttemptId) (ms : List Collection) → ms ≡ filter (snap.is_other_collection x) m.collecting → (c : Collection) → Has c ms → CollectsSo r is c
  fewer x ms e c i = before c (has-from_filter (snap.is_other_collection x) m.collecting c (subst (Has c) e i)).0

  -- a target is counted
  counted-so : (x : AttemptId) (t : ℕ) (c : Collection) → CollectsSo r is c → CollectsSo r is (snap.held_at x t c)
  counted-so x t c h = by (same_attempt c.attempt x)
    where
      by : (b : Bool) → CollectsSo r is (if b then record c { held = with_target c.held t } else c)
      by true = h
      by false = h

  counted : (x : AttemptId) (t : ℕ) (ms : List Collection) → ms ≡ map (snap.held_at x t) m.collecting → (c : Collection) → Has c ms → CollectsSo r is c
  counted x t ms e c i = let z = has-from_map (snap.held_at x t) m.collecting c (subst (Has c) e i) in subst (CollectsSo r is) z.2 (counted-so x t z.0 (before z.0 z.1))

  -- ---- a freeze

  with-snapshot : (ls : List Line) (name : Key) (c : ContId) (x : AttemptId) (s : Epoch) → Has (x, s) is → IsSnapOf r x name c → ((l : Line) → Has l ls → ComesOf r is l) → (l : Line) → Has l (ls ++ line.Snapshot name c s ∷ []) → ComesOf r is l
  with-snapshot ls name c x s issued made each l i = elim (has-cases ls (line.Snapshot name c s ∷ []) l i) [ inl j ↦ each l j | inr j ↦ by j ]
    where
      by : Has l (line.Snapshot name c s ∷ []) → ComesOf r is l
      by (inl same) = subst (ComesOf r is) (sym same) (x, issued, made)
      by (inr none) = absurd none

  pub snap-left : (p : TargetPlan) (reading : ℕ) (tracker : Epoch) (x : AttemptId) (c : ContId) (name : Key) (from : ActorId) (s : snap.FreezeStage) (k : Kept) (left : TargetMemory × Did) (ls : List Line)
      → IsSnapOf r x name c → ((e : Epoch) → left.1.issued ≡ Some (x, e) → Has (x, e) is) → FrozenSo p m reading tracker None c s ls → snap.SnapEnds p m reading tracker x c name from s k left → LeavesSo r is left
  snap-left p reading tracker x c name from s k left ls made issued h (snap.IsSpent k2 left2 none says) = same-left left2 (ap (λ o. o.0.collecting) says) (ap (λ o. o.1.lines) says)
  snap-left p reading tracker x c name from s k left ls made issued h (snap.IsRefused k2 e how left2 why says) = same-left left2 (ap (λ o. o.0.collecting) says) (ap (λ o. o.1.lines) says)
  snap-left p reading tracker x c name from s k left ls made issued h (snap.AsksOthers k2 e told left2 others says) = record {
    collecting = one-more left2.0.collecting (snap.new_collection x from c e (Some name)) (ap (λ o. o.0.collecting) says) (issued e (ap (λ o. o.1.issued) says), made);
    lines = λ l i. freezes-come r is p.me c x e ls (issued e (ap (λ o. o.1.issued) says)) (name, made) h.2 l (subst (Has l) (ap (λ o. o.1.lines) says ∙ h.1) i);
  }
  snap-left p reading tracker x c name from s k left ls made issued h (snap.IsAlone k2 e told left2 says) =
      same-with left2 (ap (λ o. o.0.collecting) says)
      (λ l i. with-snapshot ls name c x e (issued e (ap (λ o. o.1.issued) says)) made (freezes-come r is p.me c x e ls (issued e (ap (λ o. o.1.issued) says)) (name, made) h.2) l
      (subst (Has l) (ap (λ o. o.1.lines) says ∙ ap (λ z. z ++ line.Snapshot name c e ∷ []) h.1) i))

  pub freeze-left : (p : TargetPlan) (reading : ℕ) (x : AttemptId) (c : ContId) (from : ActorId) (asked : Epoch) (s : snap.FreezeStage) (k : Kept) (left : TargetMemory × Did) (ls : List Line)
      → Has (x, asked) is → IsSnapIn r x c → FrozenSo p m reading asked (Some asked) c s ls → snap.FreezeEnds p m x c from s k left → LeavesSo r is left
  freeze-left p reading x c from asked s k left ls issued made h (snap.IsRefused k2 e how left2 why says) = same-left left2 (ap (λ o. o.0.collecting) says) (ap (λ o. o.1.lines) says)
  freeze-left p reading x c from asked s k left ls issued made h (snap.IsHeld k2 e told left2 says) =
      let its : asked ≡ e = cc (h.0) in
      same-with left2 (ap (λ o. o.0.collecting) says) (λ l i. freezes-come r is p.me c x e ls (subst (λ z. Has (x, z) is) its issued) made h.2 l (subst (Has l) (ap (λ o. o.1.lines) says ∙ h.1) i))

  -- ---- a prune

  pub aggregate-left : (p : TargetPlan) (reading : ℕ) (tracker : Epoch) (x : AttemptId) (c : ContId) (from : ActorId) (number : ℕ) (s : snap.PruneStage) (k : Kept) (left : TargetMemory × Did) (ls : List Line)
      → IsAggregationOf r x c → ((e : Epoch) → left.1.issued ≡ Some (x, e) → Has (x, e) is) → PrunedSo p m reading tracker None c number s ls → snap.AggregateEnds p m reading tracker x c from s k left → LeavesSo r is left
  aggregate-left p reading tracker x c from number s k left ls made issued h (snap.IsSpent k2 left2 none says) = same-left left2 (ap (λ o. o.0.collecting) says) (ap (λ o. o.1.lines) says)
  aggregate-left p reading tracker x c from number s k left ls made issued h (snap.AsksOthers k2 g told left2 others says) = record {
    collecting = one-more left2.0.collecting (snap.new_collection x from c g None) (ap (λ o. o.0.collecting) says) (issued g (ap (λ o. o.1.issued) says), made);
    lines = λ l i. prunes-come r is p.me number c x g ls (issued g (ap (λ o. o.1.issued) says)) made h.2 l (subst (Has l) (ap (λ o. o.1.lines) says ∙ h.1) i);
  }
  aggregate-left p reading tracker x c from number s k left ls made issued h (snap.IsAlone k2 g told left2 only says) =
      same-with left2 (ap (λ o. o.0.collecting) says) (λ l i. prunes-come r is p.me number c x g ls (issued g (ap (λ o. o.1.issued) says)) made h.2 l (subst (Has l) (ap (λ o. o.1.lines) says ∙ h.1) i))

  pub prune-left : (p : TargetPlan) (reading : ℕ) (x : AttemptId) (c : ContId) (from : ActorId) (asked : Epoch) (number : ℕ) (s : snap.PruneStage) (k : Kept) (left : TargetMemory × Did) (ls : List Line)
      → Has (x, asked) is → IsAggregationOf r x c → PrunedSo p m reading asked (Some asked) c number s ls → snap.PruneEnds m x from s k left → LeavesSo r is left
  prune-left p reading x c from asked number s k left ls issued made h (snap.IsHeld k2 g told left2 says) =
      let its : asked ≡ g = cc (h.0) in
      same-with left2 (ap (λ o. o.0.collecting) says) (λ l i. prunes-come r is p.me number c x g ls (subst (λ z. Has (x, z) is) its issued) made h.2 l (subst (Has l) (ap (λ o. o.1.lines) says ∙ h.1) i))

  -- ---- a Held

  -- what is found among what is collected is among it
  found-has : (x : AttemptId) (ms : List Collection) (c : Collection) → find (snap.is_collection_of x) ms ≡ Some c → Has c ms
  found-has x [] c e = let no : ⊥ = cc in absurd no
  found-has x (n ∷ ms) c e = by (snap.is_collection_of x n) e (found-has x ms c)
    where
      by : (b : Bool) → (if b then Some n else find (snap.is_collection_of x) ms) ≡ Some c → (find (snap.is_collection_of x) ms ≡ Some c → Has c ms) → Has c (n ∷ ms)
      by true h rest = inl (let same : n ≡ c = cc in sym same)
      by false h rest = inr (rest h)

  held-by_left : (p : TargetPlan) (from : ℕ) (x : AttemptId) (refusal : Option Outcome) (o : Option Collection) → LeavesSo r is (snap.held_by p m from x refusal o)
  held-by_left p from x refusal None = same-left (m, snap.follows [] [] None) refl refl
  held-by_left p from x (Some how) (Some c) = record { collecting = fewer x (filter (snap.is_other_collection x) m.collecting) refl; lines = λ l i. absurd i }
  held-by_left p from x None (Some c) = by (snap.is_last p from c)
    where
      ends : Bool → TargetMemory × Did
      ends b = if b then (snap.collected x m, snap.follows (snap.to_actor c.client (message.Ended x (Some c.epoch) outcome.Committed)) [] None) else (snap.counts_held x from m, snap.follows [] [] None)

      by : (b : Bool) → LeavesSo r is (ends b)
      by true = record { collecting = fewer x (filter (snap.is_other_collection x) m.collecting) refl; lines = λ l i. absurd i }
      by false = record { collecting = counted x from (map (snap.held_at x from) m.collecting) refl; lines = λ l i. absurd i }

  leaves-as : (left to : TargetMemory × Did) → left ≡ to → LeavesSo r is to → LeavesSo r is left
  leaves-as left to same k = subst (LeavesSo r is) (sym same) k

  -- the last answer creates the snapshot of the collection that is found
  abbrev pub MadeRight : AttemptId → snap.HeldStage → Type 0
  MadeRight x snap.Heard = Unit {0}
  MadeRight x snap.Counted = Unit {0}
  MadeRight x (snap.IsMade c name) = Has c m.collecting × (c.name ≡ Some name)

  pub made-step : (p : TargetPlan) (from : ℕ) (x : AttemptId) (refusal : Option Outcome) (s : snap.HeldStage) (k : Kept) (o : Option Change) (u : snap.HeldStage) (l : Kept) → snap.HeldNext p m from x refusal s k o u → Steps o k l → MadeRight x s → MadeRight x u
  made-step p from x refusal s k o u l (snap.CreatesIt k2 c name none is named last) steps h = (found-has x m.collecting c is, named)
  made-step p from x refusal s k o u l (snap.Counts k2 none) steps h = tt

  pub held-left : (p : TargetPlan) (from : ℕ) (x : AttemptId) (refusal : Option Outcome) (s : snap.HeldStage) (k : Kept) (left : TargetMemory × Did) → MadeRight x s → snap.HeldEnds p m from x refusal s k left → LeavesSo r is left
  held-left p from x refusal s k left h (snap.IsCounted k2 left2 says) = leaves-as left2 _ says (held-by_left p from x refusal (snap.collection_of x m))
  held-left p from x refusal s k left h (snap.IsCreated k2 c name left2 says) = record {
    collecting = fewer x left2.0.collecting (ap (λ o. o.0.collecting) says);
    lines = λ l i. with-snapshot [] name c.cont c.attempt c.epoch (before c h.0).0 (subst (IsMadeBy r c.attempt c.cont) h.1 (before c h.0).1) (λ n j. absurd j) l (subst (Has l) (ap (λ o. o.1.lines) says) i);
  }

  -- ---- what else is heard

  pub down-left : (t : TargetPlan) (reading : ℕ) (q : CommitRequest) (from : ActorId) (s : commit.CommitStage) (k : Kept) (left : TargetMemory × Did) → CommitDown t m reading q from s k left → LeavesSo r is left
  down-left t reading q from s k left (IsSpent k2 e down left2 none is' says) = same-left left2 (ap (λ o. o.0.collecting) says) (ap (λ o. o.1.lines) says)
  down-left t reading q from s k left (IsUnknown k2 e down left2 is' says) = same-left left2 (ap (λ o. o.0.collecting) says) (ap (λ o. o.1.lines) says)

  pub at-once : (left_by : Kept → TargetMemory × Did) (s : AtOnce) (k : Kept) (left : TargetMemory × Did) → ((j : Kept) → LeavesSo r is (left_by j)) → EndsAs left_by s k left → LeavesSo r is left
  at-once left_by s k left each (IsDone k2 left2 says) = leaves-as left2 (left_by k2) says (each k2)

  knows-same : (by : ℕ) (down : Bool) (n : TargetMemory) → Same n (knows_down by down n)
  knows-same by true n = refl
  knows-same by false n = refl

  collects-left : (by : ℕ) (down : Bool) (asked : Message) (x : AttemptId) (o : Option Collection) (c : Collection) → Has c (snap.collection_reset by down asked x o m).0.collecting → CollectsSo r is c
  collects-left by false asked x o c i = before c i
  collects-left by true asked x None c i = before c i
  collects-left by true asked x (Some n) c i = fewer x (filter (snap.is_other_collection x) m.collecting) refl c i

  pub reset-left : (t : TargetPlan) (by : ℕ) (down : Bool) (asked : Message) (k : Kept) → LeavesSo r is (reset_by t m by down asked k)
  reset-left t by down (message.Freeze x c s) k = record {
    collecting = λ n i. collects-left by down (message.Freeze x c s) x (snap.collection_of x m) n (subst (Has n) (knows-same by down (snap.collects_reset by down (message.Freeze x c s) m).0) i);
    lines = λ l i. absurd i;
  }
  reset-left t by down (message.Prune x c tracker e) k = record {
    collecting = λ n i. collects-left by down (message.Prune x c tracker e) x (snap.collection_of x m) n (subst (Has n) (knows-same by down (snap.collects_reset by down (message.Prune x c tracker e) m).0) i);
    lines = λ l i. absurd i;
  }
  reset-left t by down asked k = record { collecting = before; lines = λ l i. absurd i }

-- What turns leave in which snapshots are made and containers aggregated: blocks, and leases and ticks within the limit.
use Rattle.std.specs.Prelude.{ℕ, ◌≡◌, ◌≤◌, ◌+◌, ◌/◌, ◌++◌, List, [], ◌∷◌, Contains, Option, Some, None, refl}
use Rattle.std.proofs.Common.{inl, inr, sym, ◌∙◌, ap, subst, arith}
use Rattle.base_types.specs.Epochs.{heard_ticks}
use Rattle.base_types.specs.declared.entry.Settle.TheVariants.{Commit}
use Rattle.base_types.specs.declared.epoch.Epoch.{Epoch}
use Rattle.base_types.specs.declared.id.AttemptId.{AttemptId}
use Rattle.base_types.specs.declared.id.ContId.{ContId}
use Rattle.base_types.specs.declared.report.Line.{Line}
use Rattle.base_messages.specs.declared.actor.ActorId.{ActorId}
use Rattle.base_messages.specs.declared.message.Message.{Message}
use Rattle.model_laws.specs.Members.{Has, has-from_contains}
use Rattle.daos_model.specs.Changes.{marked, with_versions}
use Rattle.daos_model.specs.declared.durable.Durable.{Durable}
use Rattle.daos_model.specs.Opening.{Opening}
use Rattle.world_base.specs.declared.did.Did.{Did}
use Rattle.world_base.specs.declared.target.TargetMemory.{TargetMemory}
use Rattle.world_base.specs.declared.target.TargetPlan.{TargetPlan}
use Rattle.world_base.specs.ChangeLaws.{lease-leased, lease-settled, lease-frozen, lease-created, lease-pruned}
use Rattle.world_base.specs.Changes.{Change, Creates, Extends, Freezes, IsPartly, Kept, Prepares, Prunes, Settles, Steps, cost}
use Rattle.world_base.specs.CutTurns.{CutHere, CutTurn, Cutting, InChange, InQuestion, listed_issue}
use Rattle.world_base.specs.Events.{listed}
use Rattle.world_base.specs.PathLaws.{path-keeps}
use Rattle.world_base.specs.Requests.{issued_for, request_epoch}
use Rattle.world_base.specs.Snapshots.{prune_limit}
use Rattle.world_legal.specs.world_causes.causes.Causes.{Dated}
use Rattle.world_legal.specs.world_causes.causes.Dates.{heard-within, limit-rises}
use Rattle.world_legal.specs.world_causes.causes.Paths.{costs, free-path}
use Rattle.world_legal.specs.world_causes.causes.Shown.{limit_over}
use Rattle.world_legal.specs.world_causes.causes.Leases.{lease-near}
use Rattle.world_owners.specs.world_making.making.Making.{CreatesIt, ExtendsLease, FreezesIt, IsCovered, MakingLeaves, MakingNext, MakingRequest, MakingStage, Passes, PrunesIt, SettlesFirst, asks_making, making_begins, making_issue, making_issues, ticks_then}
use Rattle.world_owners.specs.world_making.prunings.Parts.{parts-keep}

-- ---- leases

lease-partly : (c : ContId) (upto : Epoch) (n : ℕ) (d x : Durable) → IsPartly (Prunes c upto n) d x → x.lease ≡ d.lease
unfolding with_versions marked
lease-partly c upto n d x p = ap (λ y. y.lease) p.2

abbrev pair : AttemptId → Epoch → AttemptId × Epoch
pair x e = (x, e)

-- ---- the epoch of what is asked

-- it is at most one above the limit, and within it once it is issued
abbrev pub IsDatedWithin : Opening → Dated → List Line → TargetPlan → TargetMemory → ℕ → Message → Type 0
IsDatedWithin o issued lines p m reading q =
    (a : MakingRequest) (e : Epoch) → asks_making q ≡ Some a → request_epoch p m reading a.tracker a.ep ≡ Some e
    → (e.0 / 256 ≤ limit_over o lines issued + 1) × (e.0 / 256 ≤ limit_over o lines (issued ++ listed (issued_for a.attempt a.ep e)))

module _ (o : Opening) (issued : Dated) (lines : List Line) (number : ℕ) (p : TargetPlan) (m : TargetMemory) (reading : ℕ) (from : ActorId) (q : Message) (D : IsDatedWithin o issued lines p m reading q) where
  abbrev edge : ℕ
  edge = limit_over o lines issued + 1 + 65535

  abbrev Next : MakingStage → Kept → Option Change → MakingStage → Type 0
  Next = MakingNext number p m reading from q

  -- ---- blocks

  cheap : (s : MakingStage) (k : Kept) (y : Option Change) (u : MakingStage) → Next s k y u → costs y ≡ 0
  cheap s k y u (Passes s2 k2) = refl
  cheap s k y u (ExtendsLease s2 k2 a e lease asks dated low is) = refl
  cheap s k y u (IsCovered rest k2 a e asks made) = refl
  cheap s k y u (SettlesFirst b rest k2 a g asks made) = refl
  cheap s k y u (PrunesIt k2 a g asks made due) = refl
  cheap s k y u (FreezesIt rest k2 a e asks made free off) = refl
  cheap s k y u (CreatesIt s2 k2 c e made) = refl

  -- ---- leases

  lease-step : (s : MakingStage) (k : Kept) (y : Option Change) (u : MakingStage) (l : Kept) → Next s k y u → Steps y k l → k.durable.lease ≤ edge → l.durable.lease ≤ edge
  lease-step s k y u l (Passes s2 k2) steps low = subst (λ z. z.durable.lease ≤ edge) (sym steps) low
  lease-step s k y u l (ExtendsLease s2 k2 a e lease asks dated less is) steps low =
      subst (λ n. n ≤ edge) (sym (ap (λ d. d.lease) steps.0 ∙ lease-leased lease k2.durable)) (lease-near (e.0 / 256) lease (limit_over o lines issued + 1) (D a e asks dated).0 is)
  lease-step s k y u l (IsCovered rest k2 a e asks made) steps low = subst (λ z. z.durable.lease ≤ edge) (sym steps) low
  lease-step s k y u l (SettlesFirst b rest k2 a g asks made) steps low = subst (λ n. n ≤ edge) (sym (ap (λ d. d.lease) steps.0 ∙ lease-settled b Commit k2.durable)) low
  lease-step s k y u l (PrunesIt k2 a g asks made due) steps low = subst (λ n. n ≤ edge) (sym (ap (λ d. d.lease) steps.0 ∙ lease-pruned a.cont (prune_limit a.cont g k2.durable) number k2.durable)) low
  lease-step s k y u l (FreezesIt rest k2 a e asks made free off) steps low = subst (λ n. n ≤ edge) (sym (ap (λ d. d.lease) steps.0 ∙ lease-frozen a.cont e k2.durable)) low
  lease-step s k y u l (CreatesIt s2 k2 c e made) steps low = subst (λ n. n ≤ edge) (sym (ap (λ d. d.lease) steps.0 ∙ lease-created c e k2.durable)) low

  lease-part : (s : MakingStage) (k : Kept) (c : Change) (u : MakingStage) (x : Durable) → Next s k (Some c) u → k.durable.lease ≤ edge → IsPartly c k.durable x → x.lease ≤ edge
  lease-part s k (Prunes c upto n) u x next low part = subst (λ z. z ≤ edge) (sym (lease-partly c upto n k.durable x part)) low
  lease-part s k (Extends ticks) u x next low part = absurd part
  lease-part s k (Prepares e ws) u x next low part = absurd part
  lease-part s k (Settles a step) u x next low part = absurd part
  lease-part s k (Freezes c e) u x next low part = absurd part
  lease-part s k (Creates c e) u x next low part = absurd part

  -- ---- stages

  abbrev StageIsDated : Option Epoch → Type 0
  StageIsDated None = Unit {0}
  StageIsDated (Some e) = (a : MakingRequest) × (asks_making q ≡ Some a) × (request_epoch p m reading a.tracker a.ep ≡ Some e)

  dated-step : (s : MakingStage) (k : Kept) (y : Option Change) (u : MakingStage) (l : Kept) → Next s k y u → Steps y k l → StageIsDated s.dated → StageIsDated u.dated
  dated-step s k y u l (Passes s2 k2) steps h = h
  dated-step s k y u l (ExtendsLease s2 k2 a e lease asks dated less is) steps h = h
  dated-step s k y u l (IsCovered rest k2 a e asks made) steps h = (a, asks, made.epoch)
  dated-step s k y u l (SettlesFirst b rest k2 a g asks made) steps h = h
  dated-step s k y u l (PrunesIt k2 a g asks made due) steps h = h
  dated-step s k y u l (FreezesIt rest k2 a e asks made free off) steps h = h
  dated-step s k y u l (CreatesIt s2 k2 c e made) steps h = h

  -- what a stage issues is within the limit
  issues-within : (dated : Option Epoch) → StageIsDated dated → (x : AttemptId) (e : Epoch) → making_issue (asks_making q) dated ≡ Some (x, e) → e.0 / 256 ≤ limit_over o lines (issued ++ (x, e) ∷ [])
  issues-within None h x e is = let no : ⊥ = cc (none (asks_making q), is) in absurd no
    where
      none : (a : Option MakingRequest) → making_issue a None ≡ None
      none None = refl
      none (Some a) = refl
  issues-within (Some f) h x e is = by h.0.ep refl (sym (ap (λ a. making_issue a (Some f)) h.1) ∙ is) (D h.0 f h.1 h.2).1
    where
      by : (ep : Option Epoch) → h.0.ep ≡ ep → issued_for h.0.attempt ep f ≡ Some (x, e) → f.0 / 256 ≤ limit_over o lines (issued ++ listed (issued_for h.0.attempt ep f)) → e.0 / 256 ≤ limit_over o lines (issued ++ (x, e) ∷ [])
      by None own one low =
          let same : pair h.0.attempt f ≡ pair x e = cc in
          let its : h.0.attempt ≡ x = ap (λ z. z.0) same in
          let at : f ≡ e = ap (λ z. z.1) same in
          subst (λ z. z.0 / 256 ≤ limit_over o lines (issued ++ (x, z) ∷ [])) at (subst (λ y. f.0 / 256 ≤ limit_over o lines (issued ++ (y, f) ∷ [])) its low)
      by (Some g) own one low = let no : ⊥ = cc in absurd no

  -- ---- a whole turn

  -- what it leaves, where no epoch passes the limit
  pub record IsBounded (old new : Kept) (left : TargetMemory × Did) : Type 0 where
    pub free : old.free ≤ new.free
    pub lease : new.durable.lease ≤ edge
    pub ticks : left.0.ticks ≤ limit_over o lines (issued ++ listed left.1.issued)
    pub dates : (x : AttemptId) (e : Epoch) → left.1.issued ≡ Some (x, e) → e.0 / 256 ≤ limit_over o lines (issued ++ listed left.1.issued)

  ticks-within : (dated : Option Epoch) → StageIsDated dated → m.ticks ≤ limit_over o lines issued → ticks_then dated m.ticks ≤ limit_over o lines (issued ++ listed (making_issue (asks_making q) dated))
  ticks-within None h low = by (limit_over o lines issued) (limit_over o lines (issued ++ listed (making_issue (asks_making q) None))) low (limit-rises o lines issued (listed (making_issue (asks_making q) None)))
    where
      by : (a b : ℕ) → m.ticks ≤ a → a ≤ b → m.ticks ≤ b
      by a b k z = omega (arith, k, z)
  ticks-within (Some e) h low = subst (λ i. heard_ticks m.ticks e.0 ≤ limit_over o lines (issued ++ listed i)) (sym (ap (λ a. making_issue a (Some e)) h.1))
      (heard-within m.ticks e.0 (limit_over o lines (issued ++ listed (issued_for h.0.attempt h.0.ep e)))
      (by (limit_over o lines issued) (limit_over o lines (issued ++ listed (issued_for h.0.attempt h.0.ep e))) low (limit-rises o lines issued (listed (issued_for h.0.attempt h.0.ep e)))) (D h.0 e h.1 h.2).1)
    where
      by : (a b : ℕ) → m.ticks ≤ a → a ≤ b → m.ticks ≤ b
      by a b k z = omega (arith, k, z)

  pub whole-bounded : (old new : Kept) (left : TargetMemory × Did) → m.ticks ≤ limit_over o lines issued → old.durable.lease ≤ edge → MakingLeaves number p m reading from q old new left → IsBounded old new left
  whole-bounded old new left ticks low g = record {
    free = free-path Next cheap (making_begins m) old g.reached.did g.last new g.reached.path;
    lease = path-keeps Next (λ s k. k.durable.lease ≤ edge) lease-step (making_begins m) old g.reached.did g.last new g.reached.path low;
    ticks = subst (λ i. left.0.ticks ≤ limit_over o lines (issued ++ listed i)) (sym g.ends.issued) (subst (λ n. n ≤ limit_over o lines (issued ++ listed (making_issue (asks_making q) g.last.dated))) (sym g.ends.knows.ticks) (ticks-within g.last.dated dated ticks));
    dates = λ x e is. subst (λ i. e.0 / 256 ≤ limit_over o lines (issued ++ listed i)) (sym is) (issues-within g.last.dated dated x e (sym g.ends.issued ∙ is));
  }
    where
      dated : StageIsDated g.last.dated
      dated = path-keeps Next (λ s k. StageIsDated s.dated) dated-step (making_begins m) old g.reached.did g.last new g.reached.path tt

  -- ---- a turn that was cut

  pub record IsCutBounded (old : Kept) (cut : Cutting) : Type 0 where
    pub free : old.free ≤ cut.left.free
    pub lease : cut.left.durable.lease ≤ edge
    pub dates : (x : AttemptId) (e : Epoch) → Contains cut.issued (x, e) → e.0 / 256 ≤ limit_over o lines (issued ++ cut.issued)

  pub cut-bounded : (old : Kept) (cut : Cutting) → old.durable.lease ≤ edge → CutTurn Next (making_issues q) p.me (making_begins m) old cut → IsCutBounded old cut
  cut-bounded old cut low g = record {
    free = here g.lines g.here;
    lease = parts-keep Next (making_issues q) p.me (λ s k. k.durable.lease ≤ edge) (λ d. d.lease ≤ edge) lease-step lease-part (λ s k h. h) (making_begins m) old cut g low;
    dates = λ x e i. dates x e (making_issue (asks_making q) g.last.dated) refl (subst (λ is. Contains is (x, e)) g.issued i);
  }
    where
      before : old.free ≤ g.mid.free
      before = free-path Next cheap (making_begins m) old g.did g.last g.mid g.path

      here : (ls : List Line) → CutHere Next p.me g.last g.mid cut.left ls → old.free ≤ cut.left.free
      here ls (InChange c next is what free) = sum (cost c) (cheap g.last g.mid (Some c) next is) free
        where
          sum : (n : ℕ) → n ≡ 0 → g.mid.free ≤ cut.left.free + n → old.free ≤ cut.left.free
          sum n none k = omega (arith, before, none, k)
      here ls (InQuestion same free) = omega (arith, before, free)

      dated : StageIsDated g.last.dated
      dated = path-keeps Next (λ s k. StageIsDated s.dated) dated-step (making_begins m) old g.did g.last g.mid g.path tt

      one : (y x : AttemptId) (f e : Epoch) → Has (pair x e) (pair y f ∷ []) → (x ≡ y) × (e ≡ f)
      one y x f e (inl same) = (ap (λ z. z.0) same, ap (λ z. z.1) same)
      one y x f e (inr none) = absurd none

      dates : (x : AttemptId) (e : Epoch) (i : Option (AttemptId × Epoch)) → making_issue (asks_making q) g.last.dated ≡ i → Contains (listed_issue i) (x, e) → e.0 / 256 ≤ limit_over o lines (issued ++ cut.issued)
      dates x e None is j = absurd (has-from_contains [] (x, e) j)
      dates x e (Some (y, f)) is j =
          let s = one y x f e (has-from_contains ((y, f) ∷ []) (x, e) j) in
          subst (λ js. e.0 / 256 ≤ limit_over o lines (issued ++ js)) (sym (g.issued ∙ ap listed_issue is))
          (subst (λ z. z.0 / 256 ≤ limit_over o lines (issued ++ (y, f) ∷ [])) (sym s.1) (issues-within g.last.dated dated y f is))

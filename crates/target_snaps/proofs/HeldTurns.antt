-- Whole turns in which target 0 hears a Held, from their parts.
use Rattle.std.proofs.Common.{ℕ, ◌≡◌, refl, sym, ◌∙◌, ap, subst, Bool, true, false, List, [], ◌∷◌, map, Option, None, Some, Result, Ok, Err}
use Rattle.std.specs.Prelude.{IfOk, IfErr, OnErr, if◌then◌else◌}
use Rattle.base_messages.specs.declared.message.Message.{Message}
use Rattle.base_messages.specs.declared.message.Message.TheVariants as message
use Rattle.base_messages.specs.declared.message.Post.{Post}
use Rattle.base_types.specs.declared.id.AttemptId.{AttemptId}
use Rattle.base_types.specs.declared.key.Key.{Key}
use Rattle.base_types.specs.declared.outcome.Outcome.{Outcome}
use Rattle.base_types.specs.declared.outcome.Outcome.TheVariants.{Committed}
use Rattle.base_types.specs.declared.report.Line.{Line}
use Rattle.base_types.specs.declared.report.Line.TheVariants as line
use Rattle.daos_model.specs.declared.durable.Durable.{Durable}
use Rattle.daos_model.specs.Changes.{created}
use Rattle.daos_model.specs.Durables.{is_frozen}
use Rattle.dtx_base.specs.Members.{with_target}
use Rattle.model_laws.specs.EntryLaws.{found-has}
use Rattle.snap_core.specs.Snaps.{SnapOf, SnapStep, are_all_others, as_turn, collection_in, held-turns, held_heard, held, made, made_by, quietly, remembered, snaps_of, step_of, told, with_collecting, without}
use Rattle.vos_store.specs.Calls.{State}
use Rattle.world_base.specs.declared.did.Did.{Did as DidOf}
use Rattle.world_base.specs.declared.target.Collection.{Collection}
use Rattle.world_base.specs.declared.target.TargetMemory.{TargetMemory}
use Rattle.world_base.specs.declared.target.TargetPlan.{TargetPlan}
use Rattle.world_base.specs.Changes.{Change, Creates, Kept}
use Rattle.world_base.specs.CutTurns.{none_issued}
use Rattle.world_base.specs.Snapshots as snap
use Rattle.world_base.specs.Snapshots.{collected, collection_of, counts_held, follows, held_at, held_by, is_collection_of, is_last, to_actor}
use Rattle.world_base.specs.Turns.{Whole}
use Rattle.target_parts.specs.declared.halt.Halt.TheVariants as halt
use Rattle.target_parts.specs.declared.stop.TargetStop.{TargetStop}
use Rattle.target_parts.specs.Parts.{Did, WasCut, kept, left_by}
use Rattle.target_parts.specs.Stops.{stop_memory, stop_of}
use Rattle.target_snaps.specs.declared.helds.NewSnapshot.{NewSnapshot}
use Rattle.target_snaps.specs.HeldTurns.{AreFrozenHere, HeldTurn, IsSnapsOf, named_so, new_snapshot_of}
use Rattle.target_snaps.specs.Lined.{HasCome}
use Rattle.target_snaps.proofs.Lining.{comes-change, comes-here, comes-silent, cut-in_change, lined-cut, lined-wanting}

-- what is being made is that of a target of so many
abbrev snaps_with : ℕ → ℕ → SnapOf → SnapOf
snaps_with me targets s = record { me = me; targets = targets; collecting = s.collecting }

pub as-own : (p : TargetPlan) (m : TargetMemory) (s : SnapOf) → IsSnapsOf p s → s ≡ snaps_of p (remembered m s)
as-own p m s own = ap (λ x. snaps_with x s.targets s) own.me ∙ ap (λ x. snaps_with p.me x s) own.targets

-- the target's answer is the last one that a snapshot wants
pub record IsLast (p : TargetPlan) (s : SnapOf) (from : ℕ) (x : AttemptId) (refusal : Option Outcome) (snapshot : NewSnapshot) : Type 0 where
  pub collection : Collection
  pub well : refusal ≡ None
  pub found : collection_in x s.collecting ≡ Some collection
  pub named : collection.name ≡ Some snapshot.name
  pub last : is_last p from collection ≡ true
  pub cont : collection.cont ≡ snapshot.cont
  pub epoch : collection.epoch ≡ snapshot.epoch

module _ (p : TargetPlan) (s : SnapOf) (own : IsSnapsOf p s) (from : ℕ) (x : AttemptId) where
  last-same : (n : Collection) → are_all_others s.me s.targets (with_target n.held from) ≡ is_last p from n
  unfolding are_all_others
  last-same n = ap (λ me. are_all_others me s.targets (with_target n.held from)) own.me ∙ ap (λ k. are_all_others p.me k (with_target n.held from)) own.targets

  -- one that makes a snapshot whole
  pub last-is : (refusal : Option Outcome) (snapshot : NewSnapshot) → new_snapshot_of (made from (message.Held x refusal) s) ≡ Some snapshot → IsLast p s from x refusal snapshot
  unfolding made
  last-is refusal snapshot is = by refusal (collection_in x s.collecting) refl refl is
    where
      by : (how : Option Outcome) (o : Option Collection) → refusal ≡ how → collection_in x s.collecting ≡ o → new_snapshot_of (made_by from how o s) ≡ Some snapshot → IsLast p s from x refusal snapshot
      by how None well found is = let no : ⊥ = cc in absurd no
      by (Some how) (Some n) well found is = let no : ⊥ = cc in absurd no
      by None (Some n) well found is = whole (are_all_others s.me s.targets (with_target n.held from)) refl is
        where
          named : (o : Option Key) → n.name ≡ o → is_last p from n ≡ true → named_so n o ≡ Some snapshot → IsLast p s from x refusal snapshot
          named None none last is = let no : ⊥ = cc in absurd no
          named (Some name) its last is =
              let whole : record { cont = n.cont; epoch = n.epoch; name = name } ≡ snapshot = cc in
              record { collection = n; well = well; found = found; named = its ∙ ap (λ (z : NewSnapshot). Some z.name) whole; last = last; cont = ap (λ (z : NewSnapshot). z.cont) whole; epoch = ap (λ (z : NewSnapshot). z.epoch) whole }

          whole : (b : Bool) → are_all_others s.me s.targets (with_target n.held from) ≡ b → new_snapshot_of (if b then Some n else None) ≡ Some snapshot → IsLast p s from x refusal snapshot
          whole true all is = named n.name refl (sym (last-same n) ∙ all) is
          whole false all is = let no : ⊥ = cc in absurd no

  -- one that doesn't
  pub last-isnt : (refusal : Option Outcome) → new_snapshot_of (made from (message.Held x refusal) s) ≡ None → (n : Collection) (name : Key) → refusal ≡ None → collection_in x s.collecting ≡ Some n → n.name ≡ Some name → is_last p from n ≡ true → ⊥
  unfolding made
  last-isnt refusal is n name well found named last =
      let all : are_all_others s.me s.targets (with_target n.held from) ≡ true = last-same n ∙ last in
      let here : new_snapshot_of (made_by from None (Some n) s) ≡ None =
      subst (λ o. new_snapshot_of (made_by from None o s) ≡ None) found (subst (λ r. new_snapshot_of (made_by from r (collection_in x s.collecting) s) ≡ None) well is) in
      let there : new_snapshot_of (Some n) ≡ None = subst (λ b. new_snapshot_of (if b then Some n else None) ≡ None) all here in
      let bad : named_so n (Some name) ≡ None = subst (λ o. named_so n o ≡ None) named there in
      cc

-- it is frozen
pub last-frozen : (p : TargetPlan) (s : SnapOf) (from : ℕ) (x : AttemptId) (refusal : Option Outcome) (snapshot : NewSnapshot) (d : Durable) → IsLast p s from x refusal snapshot → AreFrozenHere s d → is_frozen d snapshot.cont snapshot.epoch ≡ true
last-frozen p s from x refusal snapshot d last frozen =
    subst (λ e. is_frozen d snapshot.cont e ≡ true) last.epoch (subst (λ c. is_frozen d c last.collection.epoch ≡ true) last.cont
    (frozen last.collection snapshot.name (found-has (is_collection_of x) s.collecting last.collection last.found) last.named))

pub made-frozen : (p : TargetPlan) (s : SnapOf) (own : IsSnapsOf p s) (from : ℕ) (m : Message) (snapshot : NewSnapshot) (d : Durable) → new_snapshot_of (made from m s) ≡ Some snapshot → AreFrozenHere s d → is_frozen d snapshot.cont snapshot.epoch ≡ true
unfolding made
made-frozen p s own from (message.Held x refusal) snapshot d is frozen = last-frozen p s from x refusal snapshot d (last-is p s own from x refusal snapshot is) frozen
made-frozen p s own from m snapshot d is frozen = let no : ⊥ = cc in absurd no

-- what is being made stays that target's
held-own : (p : TargetPlan) (s : SnapOf) (own : IsSnapsOf p s) (from : ℕ) (m : Message) → IsSnapsOf p (held_heard from m s).snaps
unfolding held_heard
held-own p s own from (message.Held x refusal) = by refusal (collection_in x s.collecting)
  where
    by : (how : Option Outcome) (o : Option Collection) → IsSnapsOf p (held from x how o s).snaps
    by how None = own
    by (Some how) (Some n) = record { me = own.me; targets = own.targets }
    by None (Some n) =
        elim (are_all_others s.me s.targets (with_target n.held from)) as (λ b. IsSnapsOf p (if b then step_of (without x s) (told n.client x n.epoch Committed) else quietly (with_collecting (map (held_at x from) s.collecting) s)).snaps) [
          | true ↦ record { me = own.me; targets = own.targets }
          | false ↦ record { me = own.me; targets = own.targets }
        ]
held-own p s own from m = own

pub counted-own : (p : TargetPlan) (s t : SnapOf) (from : ℕ) (m : Message) (lines : List Line) (result : Result DidOf TargetStop) → IsSnapsOf p s → IfOk result (λ did. (did.lines ≡ lines) × (did.issued ≡ None) × (step_of t did.posts ≡ held_heard from m s)) → OnErr result (t ≡ s) → IsSnapsOf p t
counted-own p s t from m lines (Ok did) own ok err = subst (IsSnapsOf p) (sym (ap (λ (k : SnapStep). k.snaps) ok.2)) (held-own p s own from m)
counted-own p s t from m lines (Err e) own ok err = subst (IsSnapsOf p) (sym err) own

-- ---- what follows

abbrev with_lines : List Line → TargetMemory × DidOf → TargetMemory × DidOf
with_lines ls z = (z.0, record z.1 { lines = ls })

module _ (p : TargetPlan) (m : TargetMemory) (s t : SnapOf) (own : IsSnapsOf p s) (from : ℕ) (x : AttemptId) (refusal : Option Outcome) (posts : List Post) (heard : step_of t posts ≡ held_heard from (message.Held x refusal) s) where
  -- what is known and told is what the turn makes of it
  held-left : (remembered m t, follows posts [] None) ≡ held_by p (remembered m s) from x refusal (collection_of x (remembered m s))
  held-left =
      ap (as_turn (remembered m s)) (heard ∙ ap (held_heard from (message.Held x refusal)) (as-own p m s own)) ∙ sym (held-turns p (remembered m s) from x refusal)

  -- the last one ends the attempt
  held-ended : (n : Collection) → refusal ≡ None → collection_in x s.collecting ≡ Some n → is_last p from n ≡ true
      → ◌≡◌ {A = TargetMemory × DidOf} (remembered m t, follows posts [] None) (collected x (remembered m s), follows (to_actor n.client (message.Ended x (Some n.epoch) Committed)) [] None)
  held-ended n well found last =
      held-left
      ∙ ap (λ r. held_by p (remembered m s) from x r (collection_of x (remembered m s))) well
      ∙ ap (held_by p (remembered m s) from x None) found
      ∙ ap (λ b. if b then (collected x (remembered m s), follows (to_actor n.client (message.Ended x (Some n.epoch) Committed)) [] None) else (counts_held x from (remembered m s), follows [] [] None)) last

-- ---- turns

module _ (p : TargetPlan) (m : TargetMemory) (s : SnapOf) (own : IsSnapsOf p s) (from : ℕ) (x : AttemptId) (refusal : Option Outcome) (d : Durable) (h k : State) (new : Option Durable) (finds : Durable → Type 0) (left : TargetMemory) where
  abbrev before : TargetMemory
  before = remembered m s

  abbrev Next : snap.HeldStage → Kept → Option Change → snap.HeldStage → Type 0
  Next = snap.HeldNext p before from x refusal

  abbrev Ends : snap.HeldStage → Kept → TargetMemory × DidOf → Type 0
  Ends = snap.HeldEnds p before from x refusal

  abbrev Done : DidOf → Kept → Type 0
  Done did l = Whole Next Ends snap.Heard (kept d h) l (left, did)

  -- memory was wanting before anything was done
  pub held-wanting : (result : Result DidOf TargetStop) → new ≡ Some d → result ≡ Err stop_memory → HeldTurn p before from x refusal d h new h finds left result
  held-wanting result at is = lined-wanting Next p.me snap.Heard (kept d h) none_issued Done snap.Heard d h new finds [] result is at (comes-here Next p.me snap.Heard (kept d h))

  -- nothing is created
  pub held-counted : (result : Result DidOf TargetStop) (t : SnapOf) (lines : List Line) → lines ≡ [] → new ≡ Some d → new_snapshot_of (made from (message.Held x refusal) s) ≡ None → left ≡ remembered m t
      → IfOk result (λ did. (did.lines ≡ lines) × (did.issued ≡ None) × (step_of t did.posts ≡ held_heard from (message.Held x refusal) s)) → IfErr result (λ e. e ≡ stop_memory) → HeldTurn p before from x refusal d h new h finds left result
  held-counted (Err e) t lines empty at none known ok wanting = held-wanting (Err e) at (ap Err wanting)
  held-counted (Ok did) t lines empty at none known ok wanting = record {
    durable = d;
    kept_is = at;
    holds = record {
      last = snap.Counted;
      reached = record { did = counts.did; path = counts.path };
      ends = snap.IsCounted (kept d h) (left, did) (ap (λ y. (y, did)) known ∙ ap (λ ls. (remembered m t, follows did.posts ls did.issued)) (ok.0 ∙ empty) ∙ ap (λ i. (remembered m t, follows did.posts [] i)) ok.1 ∙ held-left p m s t own from x refusal did.posts ok.2);
    };
  }
    where
      counts : HasCome Next p.me snap.Heard (kept d h) snap.Counted (kept d h) []
      counts = comes-silent Next p.me snap.Heard (kept d h) snap.Heard (kept d h) [] snap.Counted (comes-here Next p.me snap.Heard (kept d h)) (snap.Counts (kept d h) (last-isnt p s own from x refusal none))

  module _ (snapshot : NewSnapshot) (last : IsLast p s from x refusal snapshot) where
    creates : (l : Kept) → Next snap.Heard l (Some (Creates snapshot.cont snapshot.epoch)) (snap.IsMade last.collection snapshot.name)
    creates l =
        subst (λ e. Next snap.Heard l (Some (Creates snapshot.cont e)) (snap.IsMade last.collection snapshot.name)) last.epoch (subst (λ c. Next snap.Heard l (Some (Creates c last.collection.epoch)) (snap.IsMade last.collection snapshot.name)) last.cont
        (snap.CreatesIt l last.collection snapshot.name last.well last.found last.named last.last))

    -- creating it was cut
    pub held-cut : (result : Result DidOf TargetStop) → WasCut (Creates snapshot.cont snapshot.epoch) (kept d h) (left_by k finds) → result ≡ Err (stop_of halt.Stopped None) → HeldTurn p before from x refusal d h new k finds left result
    held-cut result cut is =
        lined-cut Next none_issued p.me snap.Heard (kept d h) Done new k finds None [] result is
        (cut-in_change Next p.me snap.Heard (kept d h) none_issued (left_by k finds) None snap.Heard (kept d h) [] [] (Creates snapshot.cont snapshot.epoch) (snap.IsMade last.collection snapshot.name) (comes-here Next p.me snap.Heard (kept d h)) (creates (kept d h)) cut refl refl)

    module _ (did : Did (Creates snapshot.cont snapshot.epoch) d h new k) where
      came : HasCome Next p.me snap.Heard (kept d h) (snap.IsMade last.collection snapshot.name) (kept (created snapshot.cont snapshot.epoch d) k) []
      came = comes-change Next p.me snap.Heard (kept d h) snap.Heard (kept d h) [] [] (Creates snapshot.cont snapshot.epoch) (snap.IsMade last.collection snapshot.name) (kept (created snapshot.cont snapshot.epoch d) k) (comes-here Next p.me snap.Heard (kept d h)) (creates (kept d h)) refl did.free refl

      -- it is created, and then memory was wanting
      pub created-wanting : (result : Result DidOf TargetStop) → result ≡ Err stop_memory → HeldTurn p before from x refusal d h new k finds left result
      created-wanting result is = lined-wanting Next p.me snap.Heard (kept d h) none_issued Done (snap.IsMade last.collection snapshot.name) (created snapshot.cont snapshot.epoch d) k new finds [] result is did.kept_is came

      -- it is created, and the client is told
      pub created-told : (result : Result DidOf TargetStop) (t : SnapOf) (lines : List Line) → lines ≡ line.Snapshot snapshot.name snapshot.cont snapshot.epoch ∷ [] → left ≡ remembered m t
          → IfOk result (λ did. (did.lines ≡ lines) × (did.issued ≡ None) × (step_of t did.posts ≡ held_heard from (message.Held x refusal) s)) → IfErr result (λ e. e ≡ stop_memory) → HeldTurn p before from x refusal d h new k finds left result
      created-told (Err e) t lines shown known ok wanting = created-wanting (Err e) (ap Err wanting)
      created-told (Ok said) t lines shown known ok wanting = record {
        durable = created snapshot.cont snapshot.epoch d;
        kept_is = did.kept_is;
        holds = record {
          last = snap.IsMade last.collection snapshot.name;
          reached = record { did = came.did; path = came.path };
          ends = snap.IsCreated (kept (created snapshot.cont snapshot.epoch d) k) last.collection snapshot.name (left, said) (
              ap (λ y. (y, said)) known ∙ ap (λ ls. (remembered m t, follows said.posts ls said.issued)) (ok.0 ∙ shown ∙ its_line) ∙ ap (λ i. (remembered m t, follows said.posts made_line i)) ok.1
              ∙ ap (with_lines made_line) (held-ended p m s t own from x refusal said.posts ok.2 last.collection last.well last.found last.last)
              );
        };
      }
        where
          made_line : List Line
          made_line = line.Snapshot snapshot.name last.collection.cont last.collection.epoch ∷ []

          its_line : (line.Snapshot snapshot.name snapshot.cont snapshot.epoch ∷ []) ≡ made_line
          its_line = ap (λ c. line.Snapshot snapshot.name c snapshot.epoch ∷ []) (sym last.cont) ∙ ap (λ e. line.Snapshot snapshot.name last.collection.cont e ∷ []) (sym last.epoch)

-- One turn of a tidy pool settles an attempt.
use Rattle.std.proofs.Common.{◌≡◌, ℕ, ◌≤◌, ◌<◌, Bool, true, false, cond, List, [], ◌∷◌, Ok, Err, Result, Some, refl, sym, ap, ◌∙◌, subst, arith, inl, inr}
use Rattle.std.specs.Prelude.{All, IsTrue, OnOk, filter, if◌then◌else◌, length, map}
use Rattle.std.specs.List.{find}
use Rattle.std.proofs.lemmas.List.Elements.{All-cons, All-head, All-nil, All-tail}
use Rattle.base_outside.specs.Images.{Image}
use Rattle.base_types.specs.declared.entry.Settle.{Settle}
use Rattle.base_types.specs.declared.entry.Settle.TheVariants as settle
use Rattle.base_types.specs.declared.id.AttemptId.{AttemptId}
use Rattle.daos_model.specs.Answers.{is_before}
use Rattle.daos_model.specs.Changes.{settled}
use Rattle.daos_model.specs.declared.durable.Version.{Version}
use Rattle.daos_model.specs.Durables.{entry_key, entry_of, is_entry_of, version_key}
use Rattle.daos_model.specs.Ordered.{in_order, put, puts}
use Rattle.daos_model.specs.Versions.{is_pending}
use Rattle.pmem_undo.specs.Undo.{IsUndo}
use Rattle.vos_entries.specs.Entries.{Stored as StoredEntry, entries_in, entries_owner, entry_of as entry_of_stored}
use Rattle.vos_pool_turns.proofs.vos_fitting.Entries.{members_are_targets}
use Rattle.vos_image.proofs.Levels.{second_holds}
use Rattle.vos_image.proofs.Whole.{no_other_stands}
use Rattle.vos_image.specs.Content.{Content, shown}
use Rattle.vos_image.specs.Fits.{EntryFits}
use Rattle.vos_image.specs.Kept.{Stored, Whole, durable_of}
use Rattle.vos_image.specs.Kinds.{fits_targets}
use Rattle.vos_image.specs.Nodes.{Node, nodes_in}
use Rattle.vos_image.specs.Places.{Places}
use Rattle.vos_keeping.proofs.Going.{those_stand}
use Rattle.vos_keeping.proofs.Settling.{commit_settles, confirm_settles, forget_settles, kept_versions}
use Rattle.vos_keeping.specs.Keeping.{EachCounts, IsSettled, SameRows, kept_so, versions_in}
use Rattle.vos_levels.specs.declared.change.Change.{Change}
use Rattle.vos_levels.specs.declared.change.Change.TheVariants as change
use Rattle.vos_levels.specs.Levels.{things}
use Rattle.vos_image.specs.vos_path.Objects.{objects_owner}
use Rattle.vos_pool_base.specs.vos_places.Tables.{Table, places_of}
use Rattle.vos_pool_base.specs.Pool.{OpenedState, kept_of}
use Rattle.vos_pool_base.specs.Tidy.{IfTidy}
use Rattle.vos_pool_settle.specs.Settling.{HaveAllOf, IsSettling, OfItsKept}
use Rattle.vos_pool_settle.proofs.Named.{all_named, committed_all, few_taken, is_one_of}
use Rattle.vos_pool_turns.specs.Pool.{CanTurn, HasTurned, IsOneTurn}
use Rattle.vos_pool_turns.specs.vos_pool_stage.Staged.{StandsInPool}
use Rattle.vos_pool_base.proofs.vos_standing.Committed.{closed_it_is_kept}
use Rattle.vos_pool_base.proofs.vos_standing.Standing.{what_stands_stands}
use Rattle.vos_pool_base.specs.vos_standing.Standing.{Stand, content}
use Rattle.vos_store.specs.Conditions.{CanSettle}
use Rattle.vos_store.specs.declared.refusal.Stopped.{Stopped}
use Rattle.vos_pool_turns.specs.vos_turns.declared.entries.EntryStep.{EntryStep}
use Rattle.vos_pool_turns.specs.vos_turns.declared.entries.EntryStep.TheVariants as step
use Rattle.vos_pool_turns.specs.vos_turns.Turns.{AreFew, IsTurned, StepMayStand}

-- no two things stand with one table
pub same_stored : (target size : ℕ) (f : Image) (t : Table) (x y : Stored) → Stand target size f t x → Stand target size f t y → x ≡ y
same_stored target size f t x y s k =
    let one : Whole = record { places = places_of t; stored = x } in
    let other : Whole = record { places = places_of t; stored = y } in
    ap (λ (w : Whole). w.stored) (no_other_stands target size _ one other (what_stands_stands target size f t x s) (what_stands_stands target size f t y k))

of_put : {T : Type 0} (key : T → List ℕ) (P : T → Type 0) (v : T) (us : List T) → P v → All P us → All P (put key v us)
of_put key P v [] here all = All-cons P v [] here (All-nil P)
of_put key P v (u ∷ us) here all =
    let rest = of_put key P v us here (All-tail P u us all) in
    elim (is_before (key u) (key v)) as (λ b. All P (if b then u ∷ put key v us else v ∷ u ∷ us)) [ true ↦ All-cons P u (put key v us) (All-head P u us all) rest | false ↦ All-cons P v (u ∷ us) here all ]

of_puts : {T : Type 0} (key : T → List ℕ) (P : T → Type 0) (vs : List T) → All P vs → All P (puts key vs [])
of_puts key P [] all = All-nil P
of_puts key P (v ∷ vs) all = of_put key P v (puts key vs []) (All-head P v vs all) (of_puts key P vs (All-tail P v vs all))

found : {T : Type 0} (P : T → Type 0) (t : T → Bool) (xs : List T) (x : T) → All P xs → find t xs ≡ Some x → P x
found P t [] x all is = absurd (cc)
found {T = T} P t (y ∷ ys) x all is = by (t y) refl (found P t ys x (All-tail P y ys all))
  where
    same : (y x : T) → Some y ≡ Some x → y ≡ x
    same y x e = cc

    by : (b : Bool) → t y ≡ b → (find t ys ≡ Some x → P x) → P x
    by true at on = subst P (same y x (sym (ap (λ (b : Bool). cond b (Some y) (find t ys)) at) ∙ is)) (All-head P y ys all)
    by false at on = on (sym (ap (λ (b : Bool). cond b (Some y) (find t ys)) at) ∙ is)

members_fit : (c : Content) (ns : List Node) (xs : List StoredEntry) → All (EntryFits c ns) xs → All (λ e. fits_targets c e.members ≡ true) (map entry_of_stored xs)
members_fit c ns [] all = All-nil (λ e. fits_targets c e.members ≡ true)
members_fit c ns (x ∷ xs) all = All-cons (λ e. fits_targets c e.members ≡ true) x.entry (map entry_of_stored xs) (All-head (EntryFits c ns) x xs all).members (members_fit c ns xs (All-tail (EntryFits c ns) x xs all))

module _ {R : Type 0} (extent : R → ℕ) (tells : Bool) (image : R → Image) (may_leave : R → Image → Type 0) (p : OpenedState R) (tidy : IfTidy tells extent image p) where
  pub each_counts : IsTrue tells → p.blocks.undo.stopped ≡ false → (x : Stored) → StandsInPool extent image p x → EachCounts x
  each_counts told going x stands =
      let t = tidy told going in
      subst EachCounts (same_stored p.table.header.target (extent p.blocks.undo.region) (image p.blocks.undo.region) p.table t.stored x t.stands stands) t.counted

  -- what is kept is what stands keeps
  pub kept_is : (IsTrue tells → IsUndo (extent p.blocks.undo.region) tells (image p.blocks.undo.region) (may_leave p.blocks.undo.region) p.blocks.undo.staged p.blocks.undo.stopped) → IsTrue tells → p.blocks.undo.stopped ≡ false → (x : Stored) → StandsInPool extent image p x
      → kept_of tells extent image p ≡ Some (kept_so (places_of p.table) x)
  kept_is undo told going x stands =
      let closed = ((undo told).rest told going).closed in
      rw told (ap Some (closed_it_is_kept p.table.header.target (extent p.blocks.undo.region) (image p.blocks.undo.region) p.table x closed stands))

  -- what a turn must make of each thing that may stand
  abbrev pub Settles : (c : Change) (us : List Version) (s : EntryStep) (a : AttemptId) (by : Settle) → Type 0
  Settles c us s a by = IsTrue tells → p.blocks.undo.stopped ≡ false → (x y : Stored) → CanTurn extent image s p x → EachCounts x → IsTurned c us a s x y → (q : Places) → SameRows (places_of p.table) q → IsSettled a by (places_of p.table) x q y

  pub settles : (count burns : R → ℕ) (c : Change) (us : List Version) (s : EntryStep) (a : AttemptId) (by : Settle) (q : OpenedState R) (r : Result (Unit {0}) Stopped) → Settles c us s a by → (IsTrue tells → p.blocks.undo.stopped ≡ false → (x : Stored) × CanTurn extent image s p x)
      → IsOneTurn tells extent image may_leave count burns c us a s p q r → IsSettling tells extent image may_leave count burns a by p q r
  settles count burns c us s a by q r law can k = record {
    kept = k.kept (settled a by) (λ told going x y may turned places rows. (law told going x y may (each_counts told going x may.stands) turned places rows).kept);
    tidy = after r k.turned k.stops.went_on;
    left = k.left;
    free = k.free;
    size = k.size;
    stops = k.stops;
  }
    where
      after : (r : Result (Unit {0}) Stopped) → OnOk r (IsTrue tells → (x : Stored) → CanTurn extent image s p x → HasTurned extent image c us a s x q) → OnOk r (p.blocks.undo.stopped ≡ q.blocks.undo.stopped) → OnOk r (IfTidy tells extent image p → IfTidy tells extent image q)
      after (Ok z) turned went = λ was told running.
          let going : p.blocks.undo.stopped ≡ false = went ∙ running in
          let x = can told going in
          let t = tidy told going in
          let h = turned told x.0 x.1 in
          let same = same_stored p.table.header.target (extent p.blocks.undo.region) (image p.blocks.undo.region) p.table t.stored x.0 t.stands x.1.stands in
          let l = law told going x.0 h.now x.1 (each_counts told going x.0 x.1.stands) h.turned (places_of q.table) k.rows in
          record {
            stored = h.now;
            stands = h.stands;
            layout = k.left.same.layout ∙ t.layout;
            counted = l.count;
            unlisted = h.nothing;
            few = λ b. (let few = subst (λ (z : Stored). length (filter (is_pending b) (versions_in z)) ≤ 64) same (t.few b) in let wait = l.wait b in omega (arith, few, wait));
          }
      after (Err z) turned went = tt

  pub can_turn : (s : EntryStep) → (IsTrue tells → p.blocks.undo.stopped ≡ false → StepMayStand s (content (extent p.blocks.undo.region) (image p.blocks.undo.region))) → IsTrue tells → p.blocks.undo.stopped ≡ false → (x : Stored) × CanTurn extent image s p x
  can_turn s may told going = let t = tidy told going in (t.stored, record { stands = t.stands; nothing = t.unlisted; step = may told going })

  -- ---- a commit

  pub can_commit : IsTrue tells → p.blocks.undo.stopped ≡ false → (x : Stored) × CanTurn extent image step.Commit p x
  can_commit = can_turn step.Commit (λ told going. tt)

  module _ (undo : IsTrue tells → IsUndo (extent p.blocks.undo.region) tells (image p.blocks.undo.region) (may_leave p.blocks.undo.region) p.blocks.undo.staged p.blocks.undo.stopped) (a : AttemptId) (us : List Version) (all : OfItsKept tells extent image p (HaveAllOf a us)) where
    same_pending : IsTrue tells → p.blocks.undo.stopped ≡ false → (x : Stored) → StandsInPool extent image p x → filter (is_pending a) us ≡ filter (is_pending a) (in_order version_key (versions_in x))
    same_pending told going x stands = all told going (kept_so (places_of p.table) x) (kept_is undo told going x stands) ∙ ap (filter (is_pending a)) (kept_versions (places_of p.table) x (each_counts told going x stands))

    pub few_committed : IsTrue tells → p.blocks.undo.stopped ≡ false → AreFew (change.Commit a) us
    few_committed told going = let t = tidy told going in record { few = inl refl; most = few_taken a us (versions_in t.stored) (same_pending told going t.stored t.stands) (t.few a) }

    pub commits : Settles (change.Commit a) us step.Commit a settle.Commit
    commits told going x y can each turned q rows =
        let d = kept_so (places_of p.table) x in
        let named = those_stand (λ w. is_pending a w ≡ true → is_one_of a us w ≡ true) (places_of p.table) x each (all_named a us d.versions (all told going d (kept_is undo told going x can.stands))) in
        commit_settles a (places_of p.table) q x y rows each (turned.versions ∙ committed_all a us (versions_in x) named) turned.entries

  -- ---- an entry alone

  pub none_few : (c : Change) → AreFew c []
  none_few c = record { few = inr (omega arith); most = omega arith }

  module _ (undo : IsTrue tells → IsUndo (extent p.blocks.undo.region) tells (image p.blocks.undo.region) (may_leave p.blocks.undo.region) p.blocks.undo.staged p.blocks.undo.stopped) (a : AttemptId) (by : Settle) (here : OfItsKept tells extent image p (CanSettle a by)) where
    settle_of : IsTrue tells → p.blocks.undo.stopped ≡ false → (x : Stored) → StandsInPool extent image p x → CanSettle a by (kept_so (places_of p.table) x)
    settle_of told going x stands = here told going (kept_so (places_of p.table) x) (kept_is undo told going x stands)

  module _ (undo : IsTrue tells → IsUndo (extent p.blocks.undo.region) tells (image p.blocks.undo.region) (may_leave p.blocks.undo.region) p.blocks.undo.staged p.blocks.undo.stopped) (a : AttemptId) (t : ℕ) (here : OfItsKept tells extent image p (CanSettle a (settle.Confirm t))) where
    target_there : (x : Stored) → StandsInPool extent image p x → CanSettle a (settle.Confirm t) (kept_so (places_of p.table) x) → t < (content (extent p.blocks.undo.region) (image p.blocks.undo.region)).targets
    unfolding entry_of durable_of in_order
    target_there x stands k =
        let c = content (extent p.blocks.undo.region) (image p.blocks.undo.region) in
        let fits = of_puts entry_key (λ e. fits_targets c e.members ≡ true) (entries_in x.1) (members_fit c (nodes_in x.0) (things x.1) stands.fits.entries) in
        members_are_targets c k.entry.members t (found (λ e. fits_targets c e.members ≡ true) (is_entry_of a) (puts entry_key (entries_in x.1) []) k.entry fits k.here) k.fits.1

    pub can_confirm : IsTrue tells → p.blocks.undo.stopped ≡ false → (x : Stored) × CanTurn extent image (step.Confirm t) p x
    can_confirm = can_turn (step.Confirm t) (λ told going. let y = tidy told going in target_there y.stored y.stands (settle_of undo a (settle.Confirm t) here told going y.stored y.stands))

    pub confirms : (c : Change) → Settles c [] (step.Confirm t) a (settle.Confirm t)
    confirms c told going x y can each turned q rows = confirm_settles a t (places_of p.table) q x y rows each turned.versions turned.entries

  module _ (undo : IsTrue tells → IsUndo (extent p.blocks.undo.region) tells (image p.blocks.undo.region) (may_leave p.blocks.undo.region) p.blocks.undo.staged p.blocks.undo.stopped) (a : AttemptId) (here : OfItsKept tells extent image p (CanSettle a settle.Forget)) where
    pub can_forget : IsTrue tells → p.blocks.undo.stopped ≡ false → (x : Stored) × CanTurn extent image step.Remove p x
    can_forget = can_turn step.Remove (λ told going. tt)

    pub forgets : (c : Change) → Settles c [] step.Remove a settle.Forget
    forgets c told going x y can each turned q rows =
        let k = settle_of undo a settle.Forget here told going x can.stands in
        let cs = content (extent p.blocks.undo.region) (image p.blocks.undo.region) in
        forget_settles (shown cs) a k.entry (places_of p.table) q x y rows each (second_holds objects_owner entries_owner cs x can.stands.holds) k.here k.fits turned.versions turned.entries

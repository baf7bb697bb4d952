-- What of the opening's snapshots stays at each moment of any run.
use Rattle.std.specs.Prelude.{ℕ, ◌≡◌, ◌≤◌, ◌<◌, ◌⊎◌, ◌==◌, Bool, true, false, max, All, Contains, List, [], ◌∷◌, length, slice_get, find, Some, if◌then◌else◌}
use Rattle.std.proofs.Common.{inl, inr, sym, ◌∙◌, ap, subst, arith}
use Rattle.std.proofs.lemmas.List.Elements.{All-nil}
use Rattle.base_types.specs.declared.epoch.Epoch.{Epoch}
use Rattle.base_types.specs.declared.id.ContId.{ContId}
use Rattle.base_types.specs.Epochs.{restart_floor}
use Rattle.model_laws.specs.DecidedLaws.{all-from_has}
use Rattle.model_laws.specs.Lists.{at-within}
use Rattle.model_laws.specs.Members.{Has, contains-from_has}
use Rattle.model_laws.specs.TargetLaws.{number_same, same_number}
use Rattle.model_laws.specs.RisingLaws.{after-has}
use Rattle.daos_model.specs.OrderLaws.{before-itself}
use Rattle.daos_model.specs.declared.durable.ContRow.{ContRow}
use Rattle.daos_model.specs.declared.durable.Durable.{Durable}
use Rattle.daos_model.specs.declared.stand.SnapMap.{SnapMap}
use Rattle.daos_model.specs.Answers.{is_before}
use Rattle.daos_model.specs.BoolLaws.{and_left, and_right, clash, false_of}
use Rattle.daos_model.specs.Durables.{cont_key, is_row_of, row_of, row_or_new}
use Rattle.daos_model.specs.Ordered.{all_after, is_rising}
use Rattle.daos_model.specs.Opening.{Opening, top}
use Rattle.world_base.specs.declared.target.TargetState.{TargetState}
use Rattle.world_base.specs.declared.world.World.{World}
use Rattle.world_base.specs.Events.{Rules}
use Rattle.world_base.specs.Stops.{Begins, Goes, WorldEvent, WorldRun}
use Rattle.world_answers.specs.world_making.freezings.Freezings.{IsCreatedFirst, IsOfSnap}
use Rattle.world_answers.specs.world_making.freezings.Snapping.{created-frozen}
use Rattle.world_answers.specs.world_making.making.Snapshots.{holds_created}
use Rattle.world_upheld.specs.upheld.Begins.{AreRulesInForm, RunBeginsWith, OpensWith}
use Rattle.world_upheld.specs.upheld.BeginVersions.{begins-well, frozen-before, same-row, snap-before}
use Rattle.world_upheld.specs.upheld.Runs.{runs-have_grounds}
use Rattle.world_upheld.specs.below.Standing.{AreAll}
use Rattle.world_closing.specs.stands.Covered.{IsRowWithin, IsWithin, edge_over}
use Rattle.world_closing.specs.stands.Created.{AreKeptBy}
use Rattle.world_answers.specs.world_making.freezings.Snapped.{WasSnapped, all-events-snap_so}
use Rattle.world_closing.specs.stands.Stands.{HoldsOpenings}

-- ---- what was created before the run

-- what target 0 holds as created, of before the run, it held so when the run began
abbrev WereCreated : Opening → World → World → Type 0
WereCreated o w v = (z : TargetState) (c : ContId) (s : Epoch) → slice_get v.targets 0 ≡ Some z → holds_created z.durable c s ≡ true → s.0 ≤ top o
    → (y : TargetState) × (slice_get w.targets 0 ≡ Some y) × (holds_created y.durable c s ≡ true)

-- a row that is kept is that of its container
row-itself : (d : Durable) (row : ContRow) → is_rising cont_key d.conts ≡ true → Has row d.conts → row_of d row.cont ≡ row
unfolding row_of
row-itself d row rises i = ap (row_or_new row.cont) (found d.conts rises i)
  where
    found : (rows : List ContRow) → is_rising cont_key rows ≡ true → Has row rows → find (is_row_of row.cont) rows ≡ Some row
    found [] up j = absurd j
    found (x ∷ rows) up (inl same) = ap (λ (b : Bool). if b then Some x else find (is_row_of row.cont) rows) (ap (λ y. x.cont.0 == y.cont.0) same ∙ same_number x.cont.0) ∙ ap (λ y. Some y) (sym same)
    found (x ∷ rows) up (inr j) =
        ap (λ (b : Bool). if b then Some x else find (is_row_of row.cont) rows) other ∙ found rows (and_right (all_after cont_key (cont_key x) rows) (is_rising cont_key rows) up) j
      where
        later : is_before (cont_key x) (cont_key row) ≡ true
        later = after-has cont_key (cont_key x) rows row (and_left (all_after cont_key (cont_key x) rows) (is_rising cont_key rows) up) j

        other : is_row_of row.cont x ≡ false
        other = false_of (x.cont.0 == row.cont.0) (λ own. clash (is_before (cont_key x) (cont_key row)) later (ap (λ n. is_before (cont_key x) (n ∷ [])) (sym (number_same x.cont.0 row.cont.0 own)) ∙ before-itself (cont_key x)))

module _ (r : Rules) (o : Opening) (w : World) (A : AreRulesInForm r) (B : RunBeginsWith r o w) where
  -- which target one was before an event
  was : (u v : World) → WorldRun r w u → WorldEvent r u v → (t : ℕ) (z : TargetState) → slice_get v.targets t ≡ Some z → WasSnapped r u v t z
  was u v run e t z here =
      let f = (runs-have_grounds r o w u A (begins-well r o w B) run).1.heard in
      all-events-snap_so r o f.few u v f.many (λ x a b i j. f.epochs.one x a b (contains-from_has u.issued (x, a) i) (contains-from_has u.issued (x, b) j)) f.makings f.freezings e t z here

  were-created : (v : World) → WorldRun r w v → WereCreated o w v
  were-created v Begins z c s here is low = (z, here, is)
  were-created v (Goes u x run e) z c s here is low = by (k.snaps.made c s is) (λ was. were-created u run k.s c s k.here was low)
    where
      k : WasSnapped r u v 0 z
      k = was u v run e 0 z here

      by : (holds_created k.s.durable c s ≡ true) ⊎ IsOfSnap r v.issued c s → (holds_created k.s.durable c s ≡ true → (y : TargetState) × (slice_get w.targets 0 ≡ Some y) × (holds_created y.durable c s ≡ true))
          → (y : TargetState) × (slice_get w.targets 0 ≡ Some y) × (holds_created y.durable c s ≡ true)
      by (inl old) rest = rest old
      by (inr of) rest =
          let high : top o < s.0 = (runs-have_grounds r o w v A (begins-well r o w B) (Goes u x run e)).1.heard.epochs.above of.0 s (contains-from_has v.issued (of.0, s) of.1) in
          absurd (omega (arith, low, high))

  -- so the opening keeps its map
  pub kept-then : (v : World) → WorldRun r w v → AreKeptBy o v
  kept-then v run z c s here is low = let y = were-created v run z c s here is low in B.kept y.0 c s y.1 y.2

  -- a snapshot that target 0 held as created when the run began it holds so still
  created-still : (v : World) → WorldRun r w v → (c : ContId) (s : Epoch) → IsCreatedFirst w c s → IsCreatedFirst v c s
  created-still v Begins c s k = λ z here. k z here
  created-still v (Goes u x run e) c s k = λ z here. let y = was u v run e 0 z here in y.snaps.kept c s (created-still u run c s k y.s y.here)

  -- so the opening is held still
  pub holds-still : (v : World) → WorldRun r w v → HoldsOpenings o w → HoldsOpenings o v
  holds-still v run k = record {
    unowned = k.unowned;
    lease = k.lease;
    snaps = λ s i. (let x = k.snaps s i in record { created = created-still v run s.cont s.epoch x.created; once = x.once; map = x.map });
  }

  -- its snapshots are of before the run
  pub opening-low : HoldsOpenings o w → (s : SnapMap) → Contains o.stand.snaps s → s.epoch.0 ≤ top o
  opening-low k s i =
      let enough : 0 < r.script.targets = A.some_target in
      let targets : length w.targets ≡ r.script.targets = B.targets in
      let z = at-within w.targets 0 (omega (arith, enough, targets)) in
      frozen-before o z.0.durable ((begins-well r o w B).starts 0 z.0 z.1).keeps s.cont s.epoch (created-frozen z.0.durable s.cont s.epoch ((k.snaps s i).created z.0 z.1))

  -- ---- no epoch is above the opening when a run begins

  pub first-within : AreAll (IsWithin (top o)) w
  first-within t s here = record {
    versions = all-from_has (λ v. v.epoch.0 ≤ edge_over (top o) s.durable.lease) s.durable.versions (λ v i. rises v.epoch.0 (top o) (restart_floor s.durable.lease) (opens.covered v (contains-from_has s.durable.versions v i)).0);
    entries = subst (All (λ e. e.epoch.0 ≤ edge_over (top o) s.durable.lease)) (sym opens.entries) (All-nil (λ e. e.epoch.0 ≤ edge_over (top o) s.durable.lease));
    rows = all-from_has (IsRowWithin (edge_over (top o) s.durable.lease)) s.durable.conts (λ row i. row-low row (row-itself s.durable row (B.snapshots t s here).form.conts i));
    snaps = all-from_has (λ x. x.epoch.0 ≤ edge_over (top o) s.durable.lease) s.durable.snaps (λ x i. rises x.epoch.0 (top o) (restart_floor s.durable.lease) (snap-before r o t s.durable opens (B.snapshots t s here) x (contains-from_has s.durable.snaps x i)));
  }
    where
      opens : OpensWith r.script.targets t o (record s.durable { snaps = [] })
      opens = (B.starts t s here).opens

      rises : (x n m : ℕ) → x ≤ n → x ≤ max n m
      rises x n m le = omega (arith, le)

      row-low : (row : ContRow) → row_of s.durable row.cont ≡ row → IsRowWithin (edge_over (top o) s.durable.lease) row
      row-low row is =
          let low = opens.floors row.cont in
          record {
            floor = rises row.floor.0 (top o) (restart_floor s.durable.lease) (subst (λ x. x.floor.0 ≤ top o) (same-row s.durable row.cont ∙ is) low.0);
            aggregated = rises row.aggregated.0 (top o) (restart_floor s.durable.lease) (subst (λ x. x.aggregated.0 ≤ top o) (same-row s.durable row.cont ∙ is) low.1);
          }

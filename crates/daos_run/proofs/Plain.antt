-- Runs over empty stores in memory.
use Rattle.std.specs.Prelude.{ℕ, ◌≡◌, ◌≤◌, ◌<◌, ◌+◌, ◌*◌, ◌-◌, ◌^◌, true, IfErr, IfOk, IsOkUnless, List, [], ◌∷◌, length, map, slice_get, Option, Some, None, Result, Ok, Err, refl, Bool, false, if◌then◌else◌}
use Rattle.std.specs.List.{list_any}
use Rattle.std.proofs.Common.{inl, inr, ◌∙◌, ap, arith, subst, sym}
use Rattle.std.proofs.lemmas.Bool.{true≢false}
use Rattle.base_types.specs.declared.job.Job.{Job}
use Rattle.base_types.specs.declared.outcome.FloorWhy.TheVariants.{Opening}
use Rattle.base_types.specs.declared.report.Report.{Report}
use Rattle.base_types.specs.declared.script.ContDecl.{ContDecl}
use Rattle.base_types.specs.declared.script.Script.{Script}
use Rattle.daos_model.specs.declared.durable.Durable.{Durable}
use Rattle.daos_model.specs.Finals.{HeadlineOver}
use Rattle.daos_model.specs.Changes.{enlisted, with_cont, with_conts}
use Rattle.daos_model.specs.Durables.{empty_durable, cont_key, is_row_of, new_row}
use Rattle.daos_model.specs.Family.{resolved}
use Rattle.daos_model.specs.FormLaws.{length-map, length-put}
use Rattle.daos_model.specs.Opening.{Given, fresh, fresh_opening, undisturbed}
use Rattle.daos_model.specs.Stops.{stop_numbers}
use Rattle.daos_run.specs.declared.stop.RunStop.{RunStop}
use Rattle.daos_run.specs.declared.stop.RunStop.TheVariants as stop
use Rattle.daos_run.specs.declared.stop.RunStop.TheVariants.{Memory as NoMemory}
use Rattle.daos_run.specs.Comes.{ComesFrom, ComesFromClocks, FollowsFromZeros}
use Rattle.daos_run.specs.Opens.{MayRun, given}
use Rattle.daos_run.specs.Slots.{AreFree, AreSet, EachClock, HaveStores, IsAt, StoresAreServed, stores_in}
use Rattle.daos_run.specs.Starts.{IsNewStore}
use Rattle.daos_run.specs.Stops.{HasRisen, IsOpeningFault, MayStop}
use Rattle.daos_run.proofs.Places.{in-place, store-at, stores-many}
use Rattle.daos_run.proofs.Unstopped.{no-down-told, no-stops-told}
use Rattle.run_targets.specs.Ends.{IsInRealTime, IsKeyed, IsLegal, IsOrdered, IsOutside, from-map, given_by, legal-by-any, one-there, durables_of, AreIssuedThere, declared_conts, AtMostRises, cuts_and_failures_in, stop_lines_of}
use Rattle.run_starts.specs.run_opening.All.{AreKept}
use Rattle.run_starts.specs.run_opening.Laws.{AreUnused}
use Rattle.run_starts.specs.run_opening.Opened.{enlisted_family}
use Rattle.run_starts.specs.run_opening.FloorLaws.{unused-floored}
use Rattle.run_starts.specs.run_opening.UnusedLaws.{unused-open, unused-sound, unused-stand}
use Rattle.run_starts.specs.Starts.{CanOpen}
use Rattle.model_laws.specs.Lists.{at-within}
use Rattle.std.proofs.lemmas.Option.{slice_get_within}
use Rattle.script_traits.specs.Keyed.{CellHasKeys, ScriptHasKeys}
use Rattle.report_writer.specs.Forms.{IsReportOf}
use Rattle.std.proofs.lemmas.List.Elements.{All-nil}
use Rattle.vos_store.specs.Calls.{State}
use Rattle.vos_plain.specs.Plain.{plain_durable, plain_state}
use Rattle.vos_plain.specs.declared.store.PlainStore.{PlainStore}
use Rattle.world_base.specs.declared.target.TargetState.{TargetState}
use Rattle.base_types.specs.declared.id.ContId.{ContId}
use Rattle.daos_model.specs.declared.durable.ContRow.{ContRow}
use Rattle.daos_model.specs.Ordered.{put}

cont-few : (c : ContId) (rows : List ContRow) → length (with_cont c rows) ≤ length rows + 1
cont-few c rows = by (list_any (is_row_of c) rows)
  where
    by : (b : Bool) → length (if b then rows else put cont_key (new_row c) rows) ≤ length rows + 1
    by true = omega arith
    by false = let k : length (put cont_key (new_row c) rows) ≡ length rows + 1 = length-put cont_key (new_row c) rows in omega (arith, k)

conts-few : (cs : List ContId) (rows : List ContRow) → length (with_conts cs rows) ≤ length rows + length cs
conts-few [] rows = omega arith
conts-few (c ∷ cs) rows =
    let k : length (with_conts cs (with_cont c rows)) ≤ length (with_cont c rows) + length cs = conts-few cs (with_cont c rows) in
    let l : length (with_cont c rows) ≤ length rows + 1 = cont-few c rows in
    omega (arith, k, l)

-- it tells what it keeps
abbrev pub told_by : PlainStore → Option Durable
told_by store = Some (plain_durable store)

same-kept : (d e f : Durable) → d ≡ f → Some d ≡ Some e → e ≡ f
same-kept d e f is told = let same : d ≡ e = cc in subst (λ z. z ≡ f) same is

may-run : (targets size_mib : ℕ) (store : PlainStore) → targets ≤ 64 → IsNewStore size_mib store → MayRun told_by plain_state targets store
may-run targets size_mib store few new = record {
  running = ap (λ h. h.stopped) new.state;
  made = subst (λ h. targets ≤ h.targets) (sym new.state) few;
  seldom = λ d told. subst (λ e. e.incarnation ≤ 2 ^ 63 + 1) (sym (same-kept (plain_durable store) d _ new.kept told)) (omega arith);
}

-- ---- stores that were never used

can-open : (B : List Durable) → AreUnused B → CanOpen B
can-open B unused = record { sound = unused-sound B unused; floored = unused-floored B unused }

-- with a script's containers they have no more than 256
few-together : (s : Script) (incarnation : ℕ) → length s.conts ≤ 256 → length (enlisted (declared_conts s) (empty_durable incarnation)).conts ≤ 256
unfolding enlisted
few-together s incarnation few =
    let k : length (with_conts (declared_conts s) []) ≤ 0 + length (declared_conts s) = conts-few (declared_conts s) [] in
    let l : length (declared_conts s) ≡ length s.conts = length-map (λ (d : ContDecl). d.id) s.conts in
    omega (arith, k, l, few)

-- what its next opening may find
abbrev pub found_in : PlainStore → Durable → Type 0
found_in store d = d ≡ plain_durable store

-- what follows of a result that is there
pub on-ok : {T E : Type 0} {P Q : T → Type 0} (result : Result T E) → ((x : T) → P x → Q x) → IfOk result P → IfOk result Q
on-ok (Ok x) f p = f x p
on-ok (Err e) f p = tt

on-both : {T E : Type 0} {P Q R : T → Type 0} (result : Result T E) → ((x : T) → P x → Q x → R x) → IfOk result P → IfOk result Q → IfOk result R
on-both (Ok x) f p q = f x p q
on-both (Err e) f p q = tt

-- where a count stands at 0, nothing came of it
only-lines : (n lines before now : ℕ) → now ≡ 0 → AtMostRises n lines before now → n ≤ lines
only-lines n lines before now none (inl last) = absurd (omega (arith, last, none))
only-lines n lines before now none (inr k) = omega (arith, k, none)

module _ {C : Type 0} (targets size_mib : ℕ) (slots : List (Option (PlainStore × C))) (H : HaveStores (λ t store. IsNewStore size_mib store) targets slots) where
  pub all-run : targets ≤ 64 → HaveStores (λ t store. MayRun told_by plain_state targets store) targets slots
  all-run few = record { set = H.set; each = λ t x at. may-run targets size_mib x.0 few (H.each t x at) }

  -- what they keep
  pub all-kept : AreKept told_by (stores_in slots) (map plain_durable (stores_in slots))
  all-kept = record {
    many = length-map plain_durable (stores_in slots);
    each = λ t x d at bt.
        let y = from-map plain_durable (stores_in slots) t d bt in
        let same : y.of_it ≡ x = one-there (stores_in slots) t y.of_it x y.at at in
        ap (λ z. Some (plain_durable z)) (sym same) ∙ ap (λ z. Some z) (sym y.is);
  }

  pub are-unused : (B : List Durable) → AreKept told_by (stores_in slots) B → AreUnused B
  are-unused B k t d bt =
      let p = H.set.each t (subst (λ n. t < n) (k.many ∙ stores-many targets slots H.set) (slice_get_within B t d bt)) in
      (1, same-kept (plain_durable p.0.0) d (empty_durable 1) (H.each t p.0 p.1).kept (k.each t p.0.0 d (store-at targets slots H.set t p.0 p.1) bt))

  pub all-open : (B : List Durable) → AreKept told_by (stores_in slots) B → CanOpen B
  all-open B k = can-open B (are-unused B k)

  -- all their blocks are free
  pub all-free : AreFree plain_state slots (λ t. size_mib * 4096 - 1264)
  all-free t x at = subst (λ h. size_mib * 4096 - 1264 ≤ h.free) (sym (H.each t x at).state) (omega arith)

  free-exactly : (t : ℕ) (x : PlainStore) → slice_get (stores_in slots) t ≡ Some x → (plain_state x).free ≡ size_mib * 4096 - 1264
  free-exactly t x at =
      let k = in-place targets slots H.set t x at in
      ap (λ y. (plain_state y).free) k.is ∙ ap (λ h. h.free) (H.each t k.pair k.at).state

  -- ---- behind calls

  module _ (new : List (Option (PlainStore × C))) (set : AreSet targets new) (V : StoresAreServed told_by plain_state slots new) where
    -- the outside can't fail such stores
    never-failed : (t : ℕ) (x y : PlainStore × C) → IsAt slots t x → IsAt new t y → (plain_state y.0).faults ≡ 0
    never-failed t x y at to =
        let is = (H.each t x at).state in
        (V t x y at to).sure (ap (λ h. h.may_fail) is) ∙ ap (λ h. h.faults) is

    stays-undisturbed : IsOutside plain_state undisturbed (stores_in slots) (stores_in new)
    stays-undisturbed = record {
      counts = λ t x y k at to says.
          let p = in-place targets slots H.set t x at in
          let r = in-place targets new set t y to in
          let none : (plain_state y).faults ≡ 0 = ap (λ z. (plain_state z).faults) r.is ∙ never-failed t p.pair r.pair p.at r.at in
          (refl, omega (arith, none), omega (arith, none));
    }

    -- so a run on them is stopped by want of memory alone
    pub only-memory : {T : Type 0} (s : Script) (result : Result T RunStop) → length s.conts ≤ 256 → IfErr result (IsOpeningFault plain_state slots new) → IfErr result (MayStop told_by (declared_conts s) targets (stores_in slots)) → IsOkUnless result NoMemory
    only-memory s (Ok v) few fault may = tt
    only-memory s (Err (stop.RackFault target)) few fault may =
        let x = H.set.each target may in
        let y = set.each target may in
        absurd (never (plain_state x.0.0) (plain_state y.0.0) (ap (λ h. h.faults) (H.each target x.0 x.1).state) (never-failed target x.0 y.0 x.1 y.1) refl (fault x.0 y.0 x.1 y.1))
      where
        never : (h k : State) → h.faults ≡ 0 → k.faults ≡ 0 → h.tells_fuse ≡ true → HasRisen h k → ⊥
        never h k old now tells (inl rose) = omega (arith, old, now, rose)
        never h k old now tells (inr burnt) = true≢false (sym tells ∙ burnt.1)
    only-memory s (Err (stop.Foreign target at byte)) few fault may = absurd may
    only-memory s (Err (stop.Shape target what found asked)) few fault may =
        let x = H.set.each target may.0 in
        let shown : found ≡ length (enlisted (declared_conts s) (plain_durable x.0.0)).conts = may.2.told x.0.0 (plain_durable x.0.0) (store-at targets slots H.set target x.0 x.1) refl in
        let low = subst (λ d. length (enlisted (declared_conts s) d).conts ≤ 256) (sym (H.each target x.0 x.1).kept) (few-together s 1 few) in
        let many = may.2.many in
        absurd (omega (arith, shown, low, many))
    only-memory s (Err stop.Memory) few fault may = refl

    -- ---- what a run comes to

    module _ (s : Script) (j : Job) (size : j.size_mib ≡ size_mib) where
      -- it comes to this report
      abbrev pub Comes : Report → Type 0
      Comes q = ComesFrom told_by plain_state found_in (fresh s j) (stores_in slots) (stores_in new) q

      abbrev pub their-given : Given
      their-given = given s j (map plain_durable (stores_in slots)) (λ t. size_mib * 4096 - 1264)

      -- they stand for nothing
      pub is-fresh : their-given ≡ fresh s j
      is-fresh =
          ap (given_by s j) (unused-stand s (map plain_durable (stores_in slots)) (λ t. size_mib * 4096 - 1264) (are-unused (map plain_durable (stores_in slots)) all-kept))
          ∙ ap (λ n. given_by s j (fresh_opening n)) (sym size)

      -- so there are keys where the script has keys
      fresh-keyed : j.attempts ≤ 256 → ScriptHasKeys s → IsKeyed (fresh s j)
      fresh-keyed byte keys = record { script = keys; opening = record { now = All-nil CellHasKeys; snaps = All-nil _ }; byte = byte }

      pub are-keyed : j.attempts ≤ 256 → ScriptHasKeys s → IsKeyed their-given
      are-keyed byte keys = subst IsKeyed (sym is-fresh) (fresh-keyed byte keys)

      come-plainly : (q : Report) → ComesFrom told_by plain_state found_in their-given (stores_in slots) (stores_in new) q → Comes q
      come-plainly q k = subst (λ g. ComesFrom told_by plain_state found_in g (stores_in slots) (stores_in new) q) is-fresh k

      pub all-come : {E : Type 0} (result : Result Report E) → IfOk result (ComesFrom told_by plain_state found_in their-given (stores_in slots) (stores_in new)) → IfOk result Comes
      all-come result k = on-ok result come-plainly k

      module _ (q : Report) (K : Comes q) where
        -- as many blocks are free once they are opened as before
        free-opened : (t : ℕ) (y : PlainStore) → slice_get K.opened t ≡ Some y → (plain_state y).free ≡ (fresh s j).opening.free t
        free-opened t y at =
            let x = at-within (stores_in slots) t (subst (λ n. t < n) K.many (slice_get_within K.opened t y at)) in
            let p = in-place targets slots H.set t x.0 x.1 in
            (K.each t x.0 y x.1 at).still (plain_durable x.0) refl (ap (λ z. (plain_durable z).entries) p.is ∙ ap (λ d. d.entries) (H.each t p.pair p.at).kept) ∙ free-exactly t x.0 x.1 ∙ ap (λ n. n * 4096 - 1264) (sym size)

        abbrev ordered : IsOrdered told_by plain_state found_in (fresh s j) q K.opened (stores_in new)
        ordered = K.comes.ordered

        headline : HeadlineOver (fresh s j) undisturbed (durables_of ordered.follows.last) q
        headline = K.comes.stand (durables_of ordered.follows.last) undisturbed ordered.kept (K.since undisturbed stays-undisturbed)

        -- once opened they keep the script's containers alone
        opened-keep : AreKept told_by K.opened (enlisted_family (declared_conts s) (map plain_durable (stores_in slots)))
        opened-keep = subst (AreKept told_by K.opened) (unused-open s (declared_conts s) (map plain_durable (stores_in slots)) (are-unused (map plain_durable (stores_in slots)) all-kept)) (K.kept (map plain_durable (stores_in slots)) all-kept)

        opened-so : (t : ℕ) (y : PlainStore) → slice_get K.opened t ≡ Some y → plain_durable y ≡ enlisted (declared_conts s) (empty_durable 1)
        opened-so t y at =
            let d = at-within (enlisted_family (declared_conts s) (map plain_durable (stores_in slots))) t (subst (λ n. t < n) (sym opened-keep.many) (slice_get_within K.opened t y at)) in
            let e = from-map (enlisted (declared_conts s)) (map plain_durable (stores_in slots)) t d.0 d.1 in
            let x = from-map plain_durable (stores_in slots) t e.of_it e.at in
            let p = in-place targets slots H.set t x.of_it x.at in
            let kept : plain_durable y ≡ d.0 = let two : Some (plain_durable y) ≡ Some d.0 = opened-keep.each t y d.0 at d.1 in cc in
            kept ∙ e.is ∙ ap (enlisted (declared_conts s)) (x.is ∙ ap plain_durable p.is ∙ (H.each t p.pair p.at).kept)

        there : s.targets ≡ targets → (t : ℕ) (z : TargetState) → slice_get ordered.follows.first.targets t ≡ Some z → (y : PlainStore) × (slice_get K.opened t ≡ Some y)
        there same t z here = at-within K.opened t (subst (λ n. t < n) (ordered.follows.begins.begins.targets ∙ same ∙ sym (K.many ∙ stores-many targets slots H.set)) (slice_get_within ordered.follows.first.targets t z here))

        -- the floor of its opening is that of a new store
        floor-opened : (t : ℕ) (y : PlainStore) → slice_get K.opened t ≡ Some y → (plain_state y).opening ≡ (record { 0 = 0 }, Opening)
        floor-opened t y at =
            let x = at-within (stores_in slots) t (subst (λ n. t < n) K.many (slice_get_within K.opened t y at)) in
            let p = in-place targets slots H.set t x.0 x.1 in
            (K.each t x.0 y x.1 at).opening ∙ ap (λ z. (plain_state z).opening) p.is ∙ ap (λ h. h.opening) (H.each t p.pair p.at).state

        unstopped : s.stops ≡ [] → stop_numbers q.lines ≡ []
        unstopped none = no-stops-told (fresh s j) (resolved (durables_of ordered.follows.last)) q headline.told none

      module _ (gives : ℕ → C → Type 0) (G : EachClock gives slots) (is_read : C → C → Type 0) (next_reading : C → Option ℕ) where
        -- it comes to this report, with their clocks
        abbrev pub ComesByClocks : Report → Type 0
        ComesByClocks q = ComesFromClocks told_by plain_state found_in is_read next_reading (fresh s j) slots new q

        come-by_clocks : (q : Report) → ComesFromClocks told_by plain_state found_in is_read next_reading their-given slots new q → ComesByClocks q
        come-by_clocks q k = subst (λ g. ComesFromClocks told_by plain_state found_in is_read next_reading g slots new q) is-fresh k

        from-zeros : (q : Report) → ComesByClocks q → s.targets ≡ targets → FollowsFromZeros gives is_read next_reading (fresh s j) q
        from-zeros q k same = record {
          follows = k.from.comes.ordered.follows;
          opened = λ t z here.
              let y = there q k.from same t z here in
              let kept : plain_durable y.0 ≡ z.durable = let two : Some (plain_durable y.0) ≡ Some z.durable = (k.from.comes.ordered.begins t y.0 z y.1 here).kept in cc in
              sym kept ∙ opened-so q k.from t y.0 y.1;
          free = λ t z here. let y = there q k.from same t z here in ap (λ w. w.free) (k.from.comes.ordered.begins t y.0 z y.1 here).as_it_is ∙ free-opened q k.from t y.0 y.1;
          floor = λ t z here. let y = there q k.from same t z here in ap (λ w. w.opening) (k.from.comes.ordered.begins t y.0 z y.1 here).as_it_is ∙ floor-opened q k.from t y.0 y.1;
          memory = λ t z here. let y = there q k.from same t z here in ap (λ w. w.memory) (k.from.comes.ordered.begins t y.0 z y.1 here).as_it_is;
          clocks = λ t low.
              let x = H.set.each t (subst (λ n. t < n) same low) in
              let y = set.each t (subst (λ n. t < n) same low) in
              record { before = x.0.1; given = G t x.0 x.1; after = y.0.1; gave = k.clocks t x.0.1 y.0.1 (record { before = x.0; after = y.0; at = x.1; there = y.1; first = refl; last = refl }) };
          faults = λ t low.
              let here = subst (λ n. t < n) same low in
              let x = H.set.each t here in
              let z = set.each t here in
              let y = at-within k.from.opened t (subst (λ n. t < n) (sym (k.from.many ∙ stores-many targets slots H.set)) here) in
              only-lines (cuts_and_failures_in (fresh s j) q k.from.comes.ordered.follows t) (stop_lines_of t s.stops) (plain_state y.0).faults (plain_state z.0.0).faults (never-failed t x.0 z.0 x.1 z.1)
              (k.from.comes.ordered.by_lines t y.0 z.0.0 y.1 (store-at targets new set t z.0 z.1) refl);
        }

        pub follows-order : (result : Result Report RunStop) → IfOk result (ComesFromClocks told_by plain_state found_in is_read next_reading their-given slots new) → s.targets ≡ targets → IfOk result (FollowsFromZeros gives is_read next_reading (fresh s j))
        follows-order result K same = on-ok result (λ q k. from-zeros q (come-by_clocks q k) same) K

      module _ (result : Result Report RunStop) (R : IfOk result Comes) where
        pub legal : IfOk result (IsLegal (fresh s j))
        legal = on-ok result (λ q K by. legal-by-any (fresh s j) undisturbed (resolved (durables_of (ordered q K).follows.last)) by q (no-down-told (fresh s j) (resolved (durables_of (ordered q K).follows.last)) q (headline q K).told) (headline q K).told) R

        pub in-form : j.attempts ≤ 256 → ScriptHasKeys s → IfOk result (IsReportOf s)
        in-form byte keys = on-ok result (λ q K. K.comes.form (fresh-keyed byte keys)) R

        pub issued-there : IfOk result AreIssuedThere
        issued-there = on-ok result (λ q K. K.comes.issued_there refl) R

        pub in-real-time : IfOk result (IsInRealTime (fresh s j))
        in-real-time = on-ok result (λ q K. K.comes.in_real_time) R

        pub none-down : IfOk result (λ q. q.down ≡ None)
        none-down = on-ok result (λ q K. no-down-told (fresh s j) (resolved (durables_of (ordered q K).follows.last)) q (headline q K).told) R

        pub of-lone : s.stops ≡ [] → (P : Report → Type 0) → IfOk result (λ q. stop_numbers q.lines ≡ [] → P q) → IfOk result P
        of-lone none P lone = on-both result (λ q K told. told (unstopped q K none)) R lone

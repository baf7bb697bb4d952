-- An attempt is decided: what each target keeps stands for one more transaction, whether it holds the attempt or not.
use Rattle.std.specs.Prelude.{ℕ, ◌≡◌, ◌≢◌, ◌⊎◌, ◌+◌, ◌<◌, ◌≤◌, Bool, true, false, ◌||◌, ◌==◌, max, List, ◌∷◌, Contains, Some, None, refl, ◌&&◌, not}
use Rattle.std.proofs.Common.{sym, ◌∙◌, ap, subst, inl, inr, arith}
use Rattle.std.proofs.lemmas.List.Elements.{All-cons}
use Rattle.std.proofs.lemmas.List.Kept.{AllPairs-cons}
use Rattle.base_types.specs.declared.entry.Entry.{Entry}
use Rattle.base_types.specs.declared.epoch.Epoch.{Epoch}
use Rattle.base_types.specs.declared.id.AttemptId.{AttemptId}
use Rattle.base_types.specs.declared.id.ContId.{ContId}
use Rattle.base_types.specs.declared.operation.MinorWrite.{MinorWrite}
use Rattle.model_laws.specs.Dated.{Dated, dated, is_about, map_of}
use Rattle.model_laws.specs.Decided as decided
use Rattle.model_laws.specs.DecidedLaws.{all-from_has}
use Rattle.model_laws.specs.Deciding.{CountsMore}
use Rattle.model_laws.specs.Matches.{HoldsWrite, IsAdded, Matches, CountsOnce, GivesAsOf, counts_under}
use Rattle.model_laws.specs.Members.{Has, contains-from_has, has-from_contains, has-from_map, has-map, any-has, has-any}
use Rattle.model_laws.specs.TargetLaws.{own-here, number_same, same_number}
use Rattle.model_laws.specs.Targets.{is_own}
use Rattle.daos_model.specs.declared.cell.Cell.{Cell}
use Rattle.daos_model.specs.declared.durable.Durable.{Durable}
use Rattle.daos_model.specs.declared.durable.Version.{Version}
use Rattle.daos_model.specs.BoolLaws.{and_left, clash, false_of, and_right, both, not_true}
use Rattle.daos_model.specs.Durables.{entry_of, row_of, same_attempt}
use Rattle.daos_model.specs.Forms.{AreWritesInForm}
use Rattle.daos_model.specs.Opening.{Opening, top}
use Rattle.daos_model.specs.Versions.{version_of, version_path}
use Rattle.world_commit.specs.attempts.Attempts.{writes_of}
use Rattle.world_commit.specs.attempts.History.{Decided, History, decides, is_decided}
use Rattle.world_commit.specs.world_base.Events.{Rules}
use Rattle.world_contents.specs.reads.ChangeLaws.{WasDecided, entry-among}
use Rattle.model_laws.specs.EntryLaws.{same-attempt}
use Rattle.daos_model.specs.EntryLaws.{same_attempt-itself}
use Rattle.world_commit.specs.attempts.Stored.{found-attempt}
use Rattle.world_contents.specs.reads.Given.{FitsTargets}
use Rattle.world_contents.specs.reads.Transactions.{counts_by, decided_of, transactions}
use Rattle.world_contents.specs.reads.Versions.{IsPreparedAt, IsVersionOf, IsWriteAt, VersionsStand, is_own_in, mark_of, SnapshotsStand}
use Rattle.std.specs.List.{list_any}
use Rattle.std.proofs.lemmas.Bool.{cases_lt}
use Rattle.base_types.specs.declared.snapshot.Snap.{Snap}
use Rattle.base_types.specs.Operations.{write_path}
use Rattle.model_laws.specs.MatchLaws.{decisions-below, decisions-keep, decisions-nothing, matches-give}
use Rattle.model_laws.specs.PruneMatchLaws.{touches-cont}
use Rattle.daos_model.specs.Cells.{value_at}
use Rattle.world_contents.specs.reads.QuietLaws.{IsQuiet, quiet-gives, quiet-keep, quiet-map}

-- ---- what is decided

-- An attempt may be decided at an epoch: it isn't decided, its epoch is above the opening and no decided attempt's; its writes are in
-- form, of objects for which there are targets enough.
pub record MayBeDecided (r : Rules) (o : Opening) (h : History) (x : AttemptId) (e : Epoch) : Type 0 where
  pub undecided : WasDecided h x → ⊥
  pub alone : (y : AttemptId) (f : Epoch) → Decided h y f → f.0 ≢ e.0
  pub above : top o < e.0
  pub form : AreWritesInForm (writes_of r x)
  pub fits : (m : MinorWrite) → Contains (writes_of r x) m → FitsTargets r m.write

-- a target holds it at its epoch, or none of its writes is the target's
pub data IsHeldOrElsewhere (r : Rules) (x : AttemptId) (e : Epoch) (t : ℕ) (d : Durable) : Type 0 where
  Held : (k : Entry) → entry_of d x ≡ Some k → k.epoch ≡ e → IsHeldOrElsewhere r x e t d
  Elsewhere : entry_of d x ≡ None → ((m : MinorWrite) → IsWriteAt r x t m → ⊥) → IsHeldOrElsewhere r x e t d

-- ---- transactions

-- one more transaction
pub is-added : (r : Rules) (h : History) (x : AttemptId) (e : Epoch) → IsAdded (decided_of r.script (x, e)) (transactions r.script h) (transactions r.script (decides h x e))
is-added r h x e = record {
  from = λ f i. by f (has-from_contains (decided_of r.script (x, e) ∷ transactions r.script h) f i);
  old = λ f i. contains-from_has (decided_of r.script (x, e) ∷ transactions r.script h) f (inr (has-from_contains (transactions r.script h) f i));
  new = contains-from_has (decided_of r.script (x, e) ∷ transactions r.script h) (decided_of r.script (x, e)) (inl refl);
}
  where
    by : (f : decided.Decided) → Has f (decided_of r.script (x, e) ∷ transactions r.script h) → Contains (transactions r.script h) f ⊎ (f ≡ decided_of r.script (x, e))
    by f (inl same) = inr same
    by f (inr i) = inl (contains-from_has (transactions r.script h) f i)

pub stays-apart : (r : Rules) (o : Opening) (h : History) (x : AttemptId) (e : Epoch) → MayBeDecided r o h x e → decided.AreDecided (transactions r.script h) → decided.AreDecided (transactions r.script (decides h x e))
stays-apart r o h x e may a = record {
  apart = AllPairs-cons (λ d f. d.epoch.0 ≢ f.epoch.0) (decided_of r.script (x, e)) (transactions r.script h) (all-from_has (λ f. e.0 ≢ f.epoch.0) (transactions r.script h) differs) a.apart;
  numbered = All-cons decided.IsNumbered (decided_of r.script (x, e)) (transactions r.script h) may.form.rising a.numbered;
}
  where
    differs : (f : decided.Decided) → Has f (transactions r.script h) → e.0 ≢ f.epoch.0
    differs f i same =
        let z = has-from_map (decided_of r.script) h.decided f i in
        may.alone z.0.0 z.0.1 z.1 (ap (λ d. d.epoch.0) z.2 ∙ sym same)

-- ---- what versions stand for

pub mark-low : (a b e : ℕ) → b < e → a < e → max a b + 1 ≤ e
mark-low a b e low lt = omega (arith, low, lt)

-- the attempt's versions count, and those that did
counts-more : (h : History) (x : AttemptId) (e : Epoch) (vs : List Version) → CountsMore x vs (counts_by h) (counts_by (decides h x e))
counts-more h x e vs = record { kept = λ v i is. kept v.done (same_attempt x v.by) (is_decided h v.by) is; new = λ v i now before. sym (same-attempt x v.by (its v.done (same_attempt x v.by) (is_decided h v.by) now before)) }
  where
    kept : (a b c : Bool) → (a || c) ≡ true → (a || (b || c)) ≡ true
    kept true b c f = refl
    kept false true c f = refl
    kept false false c f = f

    its : (a b c : Bool) → (a || (b || c)) ≡ true → (a || c) ≡ false → b ≡ true
    its true b c f g = let no : ⊥ = cc in absurd no
    its false true c f g = refl
    its false false c f g = clash c f g

-- a version that doesn't count isn't settled
off-open : (h : History) (v : Version) → counts_by h v ≡ false → v.done ≡ false
off-open h v off = by v.done refl
  where
    by : (b : Bool) → v.done ≡ b → v.done ≡ false
    by true is = clash (counts_by h v) (ap (λ b. b || is_decided h v.by) is) off
    by false is = is

module _ (r : Rules) (o : Opening) (held : List Version) (h : History) (t : ℕ) (d : Durable) (x : AttemptId) (e : Epoch) (may : MayBeDecided r o h x e) (apart : decided.AreDecided (transactions r.script h)) (s : VersionsStand r o held h t d) where
  -- where one of its writes says what an own cell holds, that is one of the target's
  own-write : (cont : ContId) (c : Cell) (y : Dated) → is_own_in r.script.targets t cont c ≡ true → Contains (decided.dated_by (decided_of r.script (x, e))) y → is_about c y ≡ true
      → (m : MinorWrite) × IsWriteAt r x t m × (decided.dated_at e m ≡ y)
  own-write cont c y own i about =
      let z = has-from_map (decided.dated_at e) (writes_of r x) y (has-from_contains (decided.dated_by (decided_of r.script (x, e))) y i) in
      let among = contains-from_has (writes_of r x) z.0 z.1 in
      let fit = may.fits z.0 among in
      let here = own-here r.script.targets t c z.0.write fit.0 fit.1 fit.2 (and_left (is_own r.script.targets t c) (c.path.cont.0 == cont.0) own) (ap (is_about c) z.2 ∙ about) in
      (z.0, record { of_it = among; here = here }, z.2)

  -- an entry of it isn't committed
  entry-open : (k : Entry) → entry_of d x ≡ Some k → k.committed ≡ false
  entry-open k found = by k.committed refl
    where
      by : (b : Bool) → k.committed ≡ b → k.committed ≡ false
      by true is = absurd (may.undecided (k.epoch, s.settled x k found is))
      by false is = is

  -- a version of it that doesn't count is of one of its writes, at its epoch
  open-its : (k : Entry) → entry_of d x ≡ Some k → k.epoch ≡ e → (v : Version) → Contains d.versions v → v.by ≡ x → counts_by h v ≡ false → Contains (decided.dated_by (decided_of r.script (x, e))) (dated v)
  open-its k found at v i own off = contains-from_has (decided.dated_by (decided_of r.script (x, e))) (dated v) (subst (λ y. Has y (decided.dated_by (decided_of r.script (x, e)))) same (has-map (decided.dated_at e) (writes_of r x) its.write among))
    where
      open' : v.done ≡ false
      open' = off-open h v off

      its : IsVersionOf r t v
      its = s.only v i open'

      z : IsPreparedAt d v.by v.epoch
      z = s.unsettled v i open'

      epoch : e ≡ v.epoch
      epoch = let one : z.entry ≡ k = cc (z.found, found, own) in sym at ∙ ap (λ y. y.epoch) (sym one) ∙ z.epoch

      among : Has its.write (writes_of r x)
      among = has-from_contains (writes_of r x) its.write (subst (λ y. Contains (writes_of r y) its.write) own its.at.of_it)

      same : decided.dated_at e its.write ≡ dated v
      same = ap (λ n. record { epoch = n; minor = its.write.minor; write = its.write.write }) (ap (λ y. y.0) epoch) ∙ ap (λ n. record { epoch = v.epoch.0; minor = n; write = its.write.write }) (sym its.minor) ∙ ap (λ n. record { epoch = v.epoch.0; minor = v.minor; write = n }) (sym its.same)

  -- each of its writes that says what an own cell holds is held, and counts
  holds-its : (k : Entry) → entry_of d x ≡ Some k → k.epoch ≡ e → (cont : ContId) (c : Cell) (y : Dated) → is_own_in r.script.targets t cont c ≡ true
      → Contains (decided.dated_by (decided_of r.script (x, e))) y → is_about c y ≡ true → HoldsWrite (counts_by (decides h x e)) d.versions y
  holds-its k found at cont c y own i about =
      let m = own-write cont c y own i about in
      let its : k.attempt ≡ x = found-attempt d x k found in
      (version_of k m.0, s.whole k m.0 (entry-among d x k found) (entry-open k found) (subst (λ z. IsWriteAt r z t m.0) (sym its) m.1), ap (λ b. b || is_decided h k.attempt) (ap (same_attempt x) its ∙ same_attempt-itself x), ap (λ z. record { epoch = z.0; minor = m.0.minor; write = m.0.write }) at ∙ m.2)

  -- a version of it elsewhere counts already
  none-open : entry_of d x ≡ None → (v : Version) → Contains d.versions v → v.by ≡ x → counts_by h v ≡ true
  none-open absent v i own = by v.done refl
    where
      by : (b : Bool) → v.done ≡ b → counts_by h v ≡ true
      by true is = ap (λ b. b || is_decided h v.by) is
      by false is = let z = s.unsettled v i is in let no : ⊥ = cc (z.found, absent, own) in absurd no

  -- ---- of one container

  -- an unsettled version of it lies in a container
  abbrev is_open_of : ContId → Version → Bool
  is_open_of cont v = same_attempt v.by x && not v.done && ((version_path v).cont.0 == cont.0)

  record IsOpenOf (cont : ContId) (v : Version) : Type 0 where
    by_it : v.by ≡ x
    unsettled : v.done ≡ false
    inside : (version_path v).cont ≡ cont

  open-of : (cont : ContId) (v : Version) → is_open_of cont v ≡ true → IsOpenOf cont v
  open-of cont v is =
      let first = and_left (same_attempt v.by x && not v.done) ((version_path v).cont.0 == cont.0) is in
      record {
        by_it = same-attempt v.by x (and_left (same_attempt v.by x) (not v.done) first);
        unsettled = not_true v.done (and_right (same_attempt v.by x) (not v.done) first);
        inside = ap cont_of (number_same (version_path v).cont.0 cont.0 (and_right (same_attempt v.by x && not v.done) ((version_path v).cont.0 == cont.0) is));
      }
    where
      cont_of : ℕ → ContId
      cont_of n = record { 0 = n }

  is-open_of : (cont : ContId) (v : Version) → v.by ≡ x → v.done ≡ false → (version_path v).cont.0 ≡ cont.0 → is_open_of cont v ≡ true
  is-open_of cont v own off inside =
      both (same_attempt v.by x && not v.done) ((version_path v).cont.0 == cont.0)
      (both (same_attempt v.by x) (not v.done) (ap (λ y. same_attempt y x) own ∙ same_attempt-itself x) (ap not off))
      (ap (λ n. n == cont.0) inside ∙ same_number cont.0)

  -- Where it has such a version, it lies above what was aggregated there, and its versions count once. Otherwise the decision says nothing
  -- of the container's own cells.
  data Decision (cont : ContId) : Type 0 where
    IsAbove : mark_of o d cont ≤ e.0 → CountsOnce (is_own_in r.script.targets t cont) (decided_of r.script (x, e)) d.versions (counts_by h) (counts_by (decides h x e)) → Decision cont
    SaysNothing : IsQuiet (is_own_in r.script.targets t cont) (decided_of r.script (x, e)) d.versions (counts_by h) (counts_by (decides h x e)) → Decision cont

  more : CountsMore x d.versions (counts_by h) (counts_by (decides h x e))
  more = counts-more h x e d.versions

  above-it : (k : Entry) → entry_of d x ≡ Some k → k.epoch ≡ e → (cont : ContId) (v : Version) → Contains d.versions v → IsOpenOf cont v → mark_of o d cont ≤ e.0
  above-it k found at cont v i z =
      let p = s.unsettled v i z.unsettled in
      let one : p.entry ≡ k = cc (p.found, found, z.by_it) in
      let when : v.epoch ≡ e = sym p.epoch ∙ ap (λ y. y.epoch) one ∙ at in
      mark-low (top o) (row_of d cont).aggregated.0 e.0 (subst (λ c. (row_of d c).aggregated.0 < e.0) z.inside (subst (λ y. (row_of d (version_path v).cont).aggregated.0 < y.0) when (s.clear v i z.unsettled))) may.above

  decision : IsHeldOrElsewhere r x e t d → (cont : ContId) → Decision cont
  decision (Held k found at) cont = by (list_any (is_open_of cont) d.versions) refl
    where
      own : Cell → Bool
      own = is_own_in r.script.targets t cont

      inside : (c : Cell) → own c ≡ true → c.path.cont.0 ≡ cont.0
      inside c is = number_same c.path.cont.0 cont.0 (and_right (is_own r.script.targets t c) (c.path.cont.0 == cont.0) is)

      its : k.attempt ≡ x
      its = found-attempt d x k found

      by : (b : Bool) → list_any (is_open_of cont) d.versions ≡ b → Decision cont
      by true is =
          let v = has-any (is_open_of cont) d.versions is in
          IsAbove (above-it k found at cont v.0 (contains-from_has d.versions v.0 v.1) (open-of cont v.0 v.2))
          (record { kept = more.kept; new = λ u i now before. open-its k found at u i (more.new u i now before) before; held = holds-its k found at cont })
      by false none = SaysNothing (record { kept = more.kept; new = λ c u is i now before. new c u is i now before; apart = λ c y is i. false_of (is_about c y) (λ about. apart-of_it c y is i about) })
        where
          no-open : (u : Version) → Contains d.versions u → u.by ≡ x → u.done ≡ false → (version_path u).cont.0 ≡ cont.0 → ⊥
          no-open u i its off at = clash (list_any (is_open_of cont) d.versions) (any-has (is_open_of cont) d.versions u (has-from_contains d.versions u i) (is-open_of cont u its off at)) none

          new : (c : Cell) (u : Version) → own c ≡ true → Contains d.versions u → counts_by (decides h x e) u ≡ true → counts_by h u ≡ false → is_about c (dated u) ≡ false
          new c u is i now before = false_of (is_about c (dated u)) (λ about. no-open u i (more.new u i now before) (off-open h u before) (touches-cont c u.write about ∙ inside c is))

          apart-of_it : (c : Cell) (y : Dated) → own c ≡ true → Contains (decided.dated_by (decided_of r.script (x, e))) y → is_about c y ≡ true → ⊥
          apart-of_it c y is i about =
              let m = own-write cont c y is i about in
              let there = s.whole k m.0 (entry-among d x k found) (entry-open k found) (subst (λ z. IsWriteAt r z t m.0) (sym its) m.1) in
              no-open (version_of k m.0) there its refl (ap (λ z. (write_path z).cont.0) (ap (λ z. z.write) m.2) ∙ touches-cont c y.write about ∙ inside c is)
  decision (Elsewhere absent none) cont = SaysNothing (record {
    kept = more.kept;
    new = λ c u is i now before. clash (counts_by h u) (none-open absent u i (more.new u i now before)) before;
    apart = λ c y own i. false_of (is_about c y) (λ about. let m = own-write cont c y own i about in none m.0 m.1);
  })

  matches-then : IsHeldOrElsewhere r x e t d → (cont : ContId) → Matches (is_own_in r.script.targets t cont) (counts_by (decides h x e)) d.versions o.stand (transactions r.script (decides h x e)) (mark_of o d cont)
  matches-then place cont = by (decision place cont)
    where
      by : Decision cont → Matches (is_own_in r.script.targets t cont) (counts_by (decides h x e)) d.versions o.stand (transactions r.script (decides h x e)) (mark_of o d cont)
      by (IsAbove low once) =
          decisions-keep (is_own_in r.script.targets t cont) (decided_of r.script (x, e)) (counts_by h) (counts_by (decides h x e)) d.versions o.stand (transactions r.script h) (transactions r.script (decides h x e)) (mark_of o d cont)
          apart (stays-apart r o h x e may apart) low once (is-added r h x e) (s.matches cont)
      by (SaysNothing quiet) =
          quiet-keep (is_own_in r.script.targets t cont) (decided_of r.script (x, e)) (counts_by h) (counts_by (decides h x e)) d.versions o.stand (transactions r.script h) (transactions r.script (decides h x e)) quiet (is-added r h x e)
          (mark_of o d cont) s.single apart (stays-apart r o h x e may apart) (s.matches cont)

  -- what is below a frozen snapshot stays so
  snapshots-then : IsHeldOrElsewhere r x e t d → SnapshotsStand r o (decides h x e) t d
  snapshots-then place = record {
    floored = s.snapshots.floored;
    leased = s.snapshots.leased;
    kept = λ z m i low is c own. below z low c own (decision place z.cont) ∙ s.snapshots.kept z m i low is c own;
    given = λ z i above. given z i above (decision place z.cont);
  }
    where
      below : (z : Snap) → z.epoch.0 ≤ top o → (c : Cell) → is_own_in r.script.targets t z.cont c ≡ true → Decision z.cont
          → value_at (map_of (counts_under (counts_by (decides h x e)) z.epoch.0) d.versions) c ≡ value_at (map_of (counts_under (counts_by h) z.epoch.0) d.versions) c
      below z low c own (IsAbove mark once) =
          let up = may.above in
          ap (λ m. value_at m c) (decisions-nothing (is_own_in r.script.targets t z.cont) (decided_of r.script (x, e)) (counts_by h) (counts_by (decides h x e)) d.versions z.epoch.0 (omega (arith, low, up)) once)
      below z low c own (SaysNothing quiet) =
          quiet-map (is_own_in r.script.targets t z.cont) (decided_of r.script (x, e)) (counts_by h) (counts_by (decides h x e)) d.versions o.stand (transactions r.script h) (transactions r.script (decides h x e)) quiet (is-added r h x e)
          z.epoch.0 s.single c own

      given : (z : Snap) → Contains d.snaps z → top o < z.epoch.0 → Decision z.cont
          → GivesAsOf (is_own_in r.script.targets t z.cont) (counts_by (decides h x e)) d.versions o.stand (transactions r.script (decides h x e)) z.epoch.0
      given z i above (IsAbove mark once) = by (cases_lt e.0 z.epoch.0)
        where
          by : (e.0 < z.epoch.0) ⊎ (z.epoch.0 ≤ e.0) → GivesAsOf (is_own_in r.script.targets t z.cont) (counts_by (decides h x e)) d.versions o.stand (transactions r.script (decides h x e)) z.epoch.0
          by (inl lt) =
              matches-give (is_own_in r.script.targets t z.cont) (counts_by (decides h x e)) d.versions o.stand (transactions r.script (decides h x e)) (mark_of o d z.cont) z.epoch.0 s.single (stays-apart r o h x e may apart)
              (matches-then place z.cont) (omega (arith, lt, mark))
          by (inr le) =
              decisions-below (is_own_in r.script.targets t z.cont) (decided_of r.script (x, e)) (counts_by h) (counts_by (decides h x e)) d.versions o.stand (transactions r.script h) (transactions r.script (decides h x e)) z.epoch.0
              apart (stays-apart r o h x e may apart) le once (is-added r h x e) (s.snapshots.given z i above)
      given z i above (SaysNothing quiet) =
          quiet-gives (is_own_in r.script.targets t z.cont) (decided_of r.script (x, e)) (counts_by h) (counts_by (decides h x e)) d.versions o.stand (transactions r.script h) (transactions r.script (decides h x e)) quiet (is-added r h x e)
          z.epoch.0 s.single apart (stays-apart r o h x e may apart) (s.snapshots.given z i above)

  pub decides-stands : IsHeldOrElsewhere r x e t d → VersionsStand r o held (decides h x e) t d
  decides-stands place = record {
    form = s.form;
    single = s.single;
    placed = s.placed;
    done = λ v i is. done v (s.done v i is);
    unsettled = s.unsettled;
    only = s.only;
    whole = s.whole;
    settled = λ y k found is. inr (s.settled y k found is);
    epochs = λ y k f found is. epochs y k f found is place;
    matches = matches-then place;
    leased = s.leased;
    aggregated = s.aggregated;
    clear = s.clear;
    snapshots = snapshots-then place;
  }
    where
      done : (v : Version) → Contains held v ⊎ (Decided h v.by v.epoch × IsVersionOf r t v) → Contains held v ⊎ (Decided (decides h x e) v.by v.epoch × IsVersionOf r t v)
      done v (inl i) = inl i
      done v (inr z) = inr (inr z.0, z.1)

      epochs : (y : AttemptId) (k : Entry) (f : Epoch) → entry_of d y ≡ Some k → Decided (decides h x e) y f → IsHeldOrElsewhere r x e t d → k.epoch ≡ f
      epochs y k f found (inr is) at = s.epochs y k f found is
      epochs y k f found (inl same) (Held z here at) =
          let one : y ≡ x = ap (λ i. i.0) same in
          let now : f ≡ e = ap (λ i. i.1) same in
          let is : k ≡ z = cc (found, here, one) in
          ap (λ j. j.epoch) is ∙ at ∙ sym now
      epochs y k f found (inl same) (Elsewhere absent none) = let one : y ≡ x = ap (λ i. i.0) same in let no : ⊥ = cc (found, absent, one) in absurd no

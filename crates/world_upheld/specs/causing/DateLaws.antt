-- Which epochs count stays in order over every event; and that of the snapshot comes to count at which an attempt reads.
use Rattle.std.specs.Prelude.{ℕ, ◌≡◌, ◌≤◌, ◌+◌, ◌++◌, ◌/◌, ◌⊎◌, Bool, true, false, not, List, [], ◌∷◌, filter, Contains, is_some, Some, refl}
use Rattle.std.proofs.Common.{append-nil, inl, inr, sym, ◌∙◌, ap, subst}
use Rattle.std.proofs.lemmas.List.Elements.{filter-append}
use Rattle.base_types.specs.declared.epoch.Epoch.{Epoch}
use Rattle.base_types.specs.declared.id.AttemptId.{AttemptId}
use Rattle.daos_model.specs.BoolLaws.{clash}
use Rattle.daos_model.specs.Durables.{same_attempt}
use Rattle.daos_model.specs.EntryLaws.{same_attempt-itself}
use Rattle.daos_model.specs.Opening.{Opening, top}
use Rattle.model_laws.specs.EntryLaws.{same-attempt}
use Rattle.model_laws.specs.Lists.{filter-all}
use Rattle.model_laws.specs.Members.{Has, contains-from_has, has-cases, has-from_contains, has-from_filter, has-left, has-right}
use Rattle.world_base.specs.declared.world.World.{World}
use Rattle.world_base.specs.Events.{ByClient, ByTarget, Rules, ToClient, ToTarget}
use Rattle.world_base.specs.ClientTurns.{known_epoch}
use Rattle.world_base.specs.StepLaws.{by-hearing, by-next}
use Rattle.world_base.specs.Stops.{Draws, Fails, Further, GivenUp, Happening, IsCut, Opens, Plainly, WorldEvent}
use Rattle.world_legal.specs.world_causes.causes.Causes.{Dated, Stored}
use Rattle.world_legal.specs.world_causes.causes.Dates.{limit-more}
use Rattle.world_legal.specs.world_causes.causes.Shown.{Causes, limit_over}
use Rattle.world_legal.specs.world_causes.causes.Storing.{AreApart, dated_ids}
use Rattle.world_upheld.specs.causing.DatedReads.{counting-keeps}
use Rattle.world_upheld.specs.causing.Dates.{AreDates, IsBegunBy, counted-own, counted_as, is_own_date, is_read_date, newly_dated, with_dates}
use Rattle.world_upheld.specs.causing.Doing.{AreBegun}
use Rattle.world_legal.specs.world_causes.causes.CommitTurns.{RefusalShows}
use Rattle.world_upheld.specs.causing.Refusing.{FreezeRefusalsShow, refusal-on}
use Rattle.world_letters.specs.clients.Snapshots.{is_at_snapshot}
use Rattle.world_owners.specs.world_making.dates.Known.{events-know}
use Rattle.world_letters.specs.epochs.Epochs.{Epochs, IsEpochOf, IsOwn, IsSeen}

-- ---- the statements

-- Each event of a run keeps that these count, and what is issued in it as well, where attempts that were begun stay so.
abbrev pub EventsKeepDates : Type 0
EventsKeepDates =
    (r : Rules) (n late : ℕ) (dated : Dated) (w v : World) → AreDates r late dated w → Epochs r n v → (e : WorldEvent r w v) → AreBegun r dated v → AreDates r late (dated ++ newly_dated r e.happens) v

-- The epoch of a snapshot counts as that of an attempt that reads there, so much later: among these, or one more.
pub record IsCounted (r : Rules) (o : Opening) (late : ℕ) (stored : Stored) (dated : Dated) (w : World) (x : AttemptId) (e : Epoch) : Type 0 where
  pub later : Dated
  pub dates : AreDates r late later w
  pub more : (y : AttemptId) (f : Epoch) → Contains dated (y, f) → Contains later (y, f)
  pub among : Contains later (x, counted_as r late x e)
  pub causes : Causes r o stored (with_dates later w)
  pub refusals : FreezeRefusalsShow r o (with_dates later w)

abbrev pub ReadsComeToCount : Type 0
ReadsComeToCount =
    (r : Rules) (o : Opening) (late : ℕ) (stored : Stored) (dated : Dated) (w : World) (x : AttemptId) (e : Epoch) → Epochs r (top o) w → AreDates r late dated w → FreezeRefusalsShow r o (with_dates dated w) → Causes r o stored (with_dates dated w)
    → is_at_snapshot r x ≡ true → IsEpochOf r w x e → IsBegunBy r w x → (counted_as r late x e).0 / 256 ≤ limit_over o w.lines dated + 1 → IsCounted r o late stored dated w x e

-- ---- lists

ids-append : (xs ys : Dated) → dated_ids (xs ++ ys) ≡ dated_ids xs ++ dated_ids ys
ids-append [] ys = refl
ids-append (x ∷ xs) ys = ap (λ zs. x.0 ∷ zs) (ids-append xs ys)

apart-push : {T : Type 0} (xs : List T) (x : T) → (Has x xs → ⊥) → AreApart xs → AreApart (xs ++ x ∷ [])
apart-push [] x new k = (λ i. i, tt)
apart-push (y ∷ ys) x new k = (first, apart-push ys x (λ i. new (inr i)) k.1)
  where
    first : Has y (ys ++ x ∷ []) → ⊥
    first i = elim (has-cases ys (x ∷ []) y i) [ inl j ↦ k.0 j | inr (inl same) ↦ new (inl (sym same)) | inr (inr none) ↦ none ]

-- an attempt is dated here, or it isn't
dated-or_not : (x : AttemptId) (ds : Dated) → ((e : Epoch) × Has (x, e) ds) ⊎ (Has x (dated_ids ds) → ⊥)
dated-or_not x [] = inr (λ i. i)
dated-or_not x (d ∷ ds) = choose (same_attempt d.0 x) refl (dated-or_not x ds)
  where
    pair : AttemptId → Epoch → AttemptId × Epoch
    pair a b = (a, b)

    choose : (b : Bool) → same_attempt d.0 x ≡ b → ((e : Epoch) × Has (x, e) ds) ⊎ (Has x (dated_ids ds) → ⊥) → ((e : Epoch) × Has (x, e) (d ∷ ds)) ⊎ (Has x (dated_ids (d ∷ ds)) → ⊥)
    choose true is rest = inl (d.1, inl (ap (λ y. pair y d.1) (sym (same-attempt d.0 x is))))
    choose false off (inl there) = inl (there.0, inr there.1)
    choose false off (inr none) = inr (λ i. elim i [
      | inl same ↦ clash (same_attempt d.0 x) (subst (λ y. same_attempt y x ≡ true) same (same_attempt-itself x)) off
      | inr j ↦ none j
    ])

-- ---- events

pub issued-now : (r : Rules) (w v : World) (e : Happening r w v) → v.issued ≡ w.issued ++ newly_dated r e
issued-now r w v (Plainly (ByClient g) up) = by-next r (λ u. u.issued ≡ w.issued) (λ u n c here p. p) (λ u n k c here p. p) w v refl g ∙ sym (append-nil w.issued)
issued-now r w v (Plainly (ToClient g) up) = by-hearing r (λ u. u.issued ≡ w.issued) (λ u n c here p. p) (λ u n c l rest here awake takes to p. p) w v refl g ∙ sym (append-nil w.issued)
issued-now r w v (Plainly (ToTarget g) up) = ap (λ u. u.issued) g.after
issued-now r w v (Plainly (ByTarget g) up) = ap (λ u. u.issued) g.after
issued-now r w v (Further g) = ap (λ u. u.issued) g.hears.after
issued-now r w v (IsCut g) = ap (λ u. u.issued) g.after
issued-now r w v (Opens g) = ap (λ u. u.issued) g.after ∙ sym (append-nil w.issued)
issued-now r w v (Fails g) = ap (λ u. u.issued) g.after ∙ sym (append-nil w.issued)
issued-now r w v (GivenUp g) = ap (λ u. u.issued) g.after ∙ sym (append-nil w.issued)
issued-now r w v (Draws g) = ap (λ u. u.issued) g.after ∙ sym (append-nil w.issued)

none-pass : {T : Type 0} (t : T → Bool) (xs : List T) → ((x : T) → Has x xs → t x ≡ false) → filter t xs ≡ []
none-pass t [] off = refl
none-pass t (x ∷ xs) off = rw (off x (inl refl)) (none-pass t xs (λ y i. off y (inr i)))

module _ (r : Rules) (n late : ℕ) (dated : Dated) (w v : World) (D : AreDates r late dated w) (E : Epochs r n v) (e : WorldEvent r w v) (begun : AreBegun r dated v) where
  abbrev added : Dated
  added = newly_dated r e.happens

  issued : v.issued ≡ w.issued ++ added
  issued = ap (λ z. z.issued) e.after ∙ issued-now r w e.u e.happens

  is-issued : (i : AttemptId × Epoch) → Has i added → Has i v.issued
  is-issued i j = subst (Has i) (sym issued) (has-right w.issued added i j)

  own : (i : AttemptId × Epoch) → Has i added → is_at_snapshot r i.0 ≡ false
  own i j = E.own i.0 i.1 (contains-from_has v.issued i (is-issued i j))

  epoch-on : (x : AttemptId) (d : Epoch) → IsEpochOf r w x d → IsEpochOf r v x d
  epoch-on x d (IsOwn i) = IsOwn (contains-from_has v.issued (x, d) (subst (Has (x, d)) (sym issued) (has-left w.issued added (x, d) (has-from_contains w.issued (x, d) i))))
  epoch-on x d (IsSeen s) = let k = events-know r w v e x.client s.c s.here in IsSeen (record { name = s.name; reads = s.reads; c = k.0; here = k.1; known = k.2 s.name d s.known })

  -- what was issued is of an attempt that is present, or has its line
  begun-new : (x : AttemptId) (d : Epoch) → Has (x, d) added → IsBegunBy r v x
  begun-new x d i = elim (E.line x d (contains-from_has v.issued (x, d) (is-issued (x, d) i))) [ inl at ↦ inl at | inr told ↦ inr (told.0, told.1, told.2) ]

  dates-on : AreDates r late (dated ++ added) v
  dates-on = record {
    issued = filter-append (is_own_date r) dated added ∙ ap (λ xs. xs ++ filter (is_own_date r) added) D.issued ∙ ap (λ xs. w.issued ++ xs) (filter-all (is_own_date r) added (λ i j. ap not (own i j))) ∙ sym issued;
    epochs = λ x d i. elim (has-cases dated added (x, d) (has-from_contains (dated ++ added) (x, d) i)) [
      | inl j ↦ (let k = D.epochs x d (contains-from_has dated (x, d) j) in (k.0, epoch-on x k.0 k.1, k.2))
      | inr j ↦ (d, IsOwn (contains-from_has v.issued (x, d) (is-issued (x, d) j)), counted-own r late x d (own (x, d) j))
    ];
    begun = λ x d i. elim (has-cases dated added (x, d) (has-from_contains (dated ++ added) (x, d) i)) [
      | inl j ↦ begun x d (contains-from_has dated (x, d) j)
      | inr j ↦ begun-new x d j
    ];
    once = subst (λ xs. AreApart (dated_ids xs)) (sym (filter-append (is_read_date r) dated added ∙ ap (λ xs. filter (is_read_date r) dated ++ xs) (none-pass (is_read_date r) added own) ∙ append-nil (filter (is_read_date r) dated))) D.once;
  }

pub events-keep_dates : EventsKeepDates
events-keep_dates r n late dated w v D E e begun = dates-on r n late dated w v D E e begun

-- ---- a read at a snapshot

-- an attempt has one epoch at most, its own or that of its snapshot
pub epoch-once : (r : Rules) (n : ℕ) (w : World) (x : AttemptId) (e f : Epoch) → Epochs r n w → IsEpochOf r w x e → IsEpochOf r w x f → e ≡ f
epoch-once r n w x e f E (IsOwn i) (IsOwn j) = E.one x e f i j
epoch-once r n w x e f E (IsOwn i) (IsSeen s) = clash (is_at_snapshot r x) (ap is_some s.reads) (E.own x e i)
epoch-once r n w x e f E (IsSeen s) (IsOwn i) = clash (is_at_snapshot r x) (ap is_some s.reads) (E.own x f i)
epoch-once r n w x e f E (IsSeen s) (IsSeen t) =
    let name : s.name ≡ t.name = let k : Some s.name ≡ Some t.name = sym s.reads ∙ t.reads in cc in
    let c : s.c ≡ t.c = let k : Some s.c ≡ Some t.c = sym s.here ∙ t.here in cc in
    let known : known_epoch t.c.known t.name ≡ Some e = subst (λ d. known_epoch d.known t.name ≡ Some e) c (subst (λ m. known_epoch s.c.known m ≡ Some e) name s.known) in
    let same : Some e ≡ Some f = sym known ∙ t.known in
    cc

module _ (r : Rules) (o : Opening) (late : ℕ) (stored : Stored) (dated : Dated) (w : World) (x : AttemptId) (e : Epoch) (E : Epochs r (top o) w) (D : AreDates r late dated w) (F : FreezeRefusalsShow r o (with_dates dated w)) (C : Causes r o stored (with_dates dated w))
    (at : is_at_snapshot r x ≡ true) (its : IsEpochOf r w x e) (begun : IsBegunBy r w x) (within : (counted_as r late x e).0 / 256 ≤ limit_over o w.lines dated + 1) where
  abbrev d : Epoch
  d = counted_as r late x e

  abbrev one : Dated
  one = (x, d) ∷ []

  abbrev pair : AttemptId → Epoch → AttemptId × Epoch
  pair a b = (a, b)

  is-one : (y : AttemptId) (f : Epoch) → Has (pair y f) one → (y ≡ x) × (f ≡ d)
  is-one y f (inl same) = (ap (λ z. z.0) same, ap (λ z. z.1) same)
  is-one y f (inr none) = absurd none

  dates-more : (Has x (dated_ids (filter (is_read_date r) dated)) → ⊥) → AreDates r late (dated ++ one) w
  dates-more new = record {
    issued = filter-append (is_own_date r) dated one ∙ ap (λ xs. filter (is_own_date r) dated ++ xs) (none-pass (is_own_date r) one off) ∙ append-nil (filter (is_own_date r) dated) ∙ D.issued;
    epochs = λ y f i. elim (has-cases dated one (y, f) (has-from_contains (dated ++ one) (y, f) i)) [
      | inl j ↦ D.epochs y f (contains-from_has dated (y, f) j)
      | inr j ↦ (let z = is-one y f j in (e, subst (λ a. IsEpochOf r w a e) (sym z.0) its, z.1 ∙ ap (λ a. counted_as r late a e) (sym z.0)))
    ];
    begun = λ y f i. elim (has-cases dated one (y, f) (has-from_contains (dated ++ one) (y, f) i)) [
      | inl j ↦ D.begun y f (contains-from_has dated (y, f) j)
      | inr j ↦ subst (IsBegunBy r w) (sym (is-one y f j).0) begun
    ];
    once = subst (λ xs. AreApart (dated_ids xs)) (sym (filter-append (is_read_date r) dated one ∙ ap (λ xs. filter (is_read_date r) dated ++ xs) (filter-all (is_read_date r) one on)))
        (subst AreApart (sym (ids-append (filter (is_read_date r) dated) one)) (apart-push (dated_ids (filter (is_read_date r) dated)) x new D.once));
  }
    where
      on : (i : AttemptId × Epoch) → Has i one → is_read_date r i ≡ true
      on i (inl same) = subst (λ z. is_read_date r z ≡ true) (sym same) at
      on i (inr none) = absurd none

      off : (i : AttemptId × Epoch) → Has i one → is_own_date r i ≡ false
      off i j = ap not (on i j)

  refusals-more : FreezeRefusalsShow r o (with_dates (dated ++ one) w)
  refusals-more l y how i says = subst (λ ls. RefusalShows r o [] (dated ++ one) ls y how) (append-nil w.lines) (refusal-on r o [] [] dated one w.lines [] y how (F l y how i says))

  counted : ((f : Epoch) × Has (x, f) (filter (is_read_date r) dated)) ⊎ (Has x (dated_ids (filter (is_read_date r) dated)) → ⊥) → IsCounted r o late stored dated w x e
  counted (inl there) =
      let i = (has-from_filter (is_read_date r) dated (x, there.0) there.1).0 in
      let k = D.epochs x there.0 (contains-from_has dated (x, there.0) i) in
      let same : there.0 ≡ d = k.2 ∙ ap (counted_as r late x) (epoch-once r (top o) w x k.0 e E k.1 its) in
      record { later = dated; dates = D; more = λ y f j. j; among = contains-from_has dated (x, d) (subst (λ f. Has (x, f) dated) same i); causes = C; refusals = F }
  counted (inr new) = record {
    later = dated ++ one;
    dates = dates-more new;
    more = λ y f i. contains-from_has (dated ++ one) (y, f) (has-left dated one (y, f) (has-from_contains dated (y, f) i));
    among = contains-from_has (dated ++ one) (x, d) (has-right dated one (x, d) (inl refl));
    causes = counting-keeps r o stored dated w x d (subst (λ n. d.0 / 256 ≤ n) (sym (limit-more o w.lines dated one)) within) C;
    refusals = refusals-more;
  }

pub reads-come_to_count : ReadsComeToCount
reads-come_to_count r o late stored dated w x e E D F C at its begun within = counted r o late stored dated w x e E D F C at its begun within (dated-or_not x (filter (is_read_date r) dated))

-- ---- one epoch counts for an attempt

pub dates-once : (r : Rules) (n late : ℕ) (dated : Dated) (w : World) (x : AttemptId) (d f : Epoch) → Epochs r n w → AreDates r late dated w → Contains dated (x, d) → Contains dated (x, f) → d ≡ f
dates-once r n late dated w x d f E D i j = let k = D.epochs x d i in let l = D.epochs x f j in k.2 ∙ ap (counted_as r late x) (epoch-once r n w x k.0 l.0 E k.1 l.1) ∙ sym l.2

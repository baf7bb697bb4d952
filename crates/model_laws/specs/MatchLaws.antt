-- A target's versions stand for decided transactions, and stay so.
use Rattle.std.specs.Prelude.{ℕ, ◌≡◌, ◌≤◌, ◌<◌, ◌⊎◌, Bool, true, false, ◌&&◌, not, nat_le, nat_lt, List, [], ◌∷◌, ◌++◌, map, filter, Contains, Option, None, if◌then◌else◌, refl}
use Rattle.std.proofs.Common.{sym, ◌∙◌, ap, subst, arith, inl, inr}
use Rattle.std.proofs.lemmas.Bool.Decides.{nat_tests}
use Rattle.std.proofs.lemmas.Bool.{cases_lt}
use Rattle.daos_model.specs.declared.cell.Cell.{Cell}
use Rattle.daos_model.specs.declared.durable.Version.{Version}
use Rattle.daos_model.specs.BoolLaws.{and_left, and_right, both, clash}
use Rattle.daos_model.specs.Cells.{value_at}
use Rattle.daos_model.specs.Durables.{version_key}
use Rattle.daos_model.specs.Effect.{effects}
use Rattle.daos_model.specs.OrderLaws.{rising-filter}
use Rattle.daos_model.specs.Ordered.{is_rising, puts}
use Rattle.daos_model.specs.Versions.{done_by, is_not_pending, is_pending, versions_of, writes_in}
use Rattle.model_laws.specs.Dated.{Dated, SameWritesAt, after_all, dated, dated_key, dated_of, is_about, is_earlier, is_from, is_within, map_of}
use Rattle.model_laws.specs.Decided.{AreDecided, Decided, all_dated, dated_by}
use Rattle.model_laws.specs.DecidedLaws.{as_of-dated, before-epochs, epoch-dated, has-dated, has-from_dated, has-from_ordered, has-ordered, ordered, rising-ordered}
use Rattle.model_laws.specs.Matches.{AbortsKeepWrites, CommitsKeepWrites, CountsOnce, DecisionsChangeNothingBelow, DecisionsKeepMatches, DecisionsKeepWhatIsBelow, IsAdded, MarksMayRise, MatchesGiveAsOf, PreparesKeepWrites, SameWritesKeepMatches, SameWritesKeepWhatIsBelow, SameWritesMakeTheSame, counts_under}
use Rattle.model_laws.specs.Members.{Has, contains-from_has, has-cases, has-filter, has-from_contains, has-from_filter, has-from_map, has-left, has-map, has-right}
use Rattle.model_laws.specs.RisingLaws.{rising-same}
use Rattle.model_laws.specs.VersionLaws.{after-append, after-same, filter-put, rising-append, rising-dated, value-effects}

-- ---- below a mark, and from it on

within-from : (mark e : ℕ) (x : Dated) → is_within mark e x ≡ true → (mark ≤ x.epoch) × (x.epoch < e)
within-from mark e x h =
    let le : nat_le mark x.epoch ≡ true = and_left (nat_le mark x.epoch) (nat_lt x.epoch e) h in
    let lt : nat_lt x.epoch e ≡ true = and_right (nat_le mark x.epoch) (nat_lt x.epoch e) h in
    (grind (arith, nat_tests), grind (arith, nat_tests))

within : (mark e : ℕ) (x : Dated) → mark ≤ x.epoch → x.epoch < e → is_within mark e x ≡ true
within mark e x le lt = both (nat_le mark x.epoch) (nat_lt x.epoch e) (grind (arith, nat_tests)) (grind (arith, nat_tests))

earlier : (e : ℕ) (x : Dated) → x.epoch < e → is_earlier e x ≡ true
earlier e x lt = grind (arith, nat_tests)

earlier-from : (e : ℕ) (x : Dated) → is_earlier e x ≡ true → x.epoch < e
earlier-from e x h = grind (arith, nat_tests)

-- writes that rise, below an epoch, are those below a mark and then those from it on
split-rising : (mark e : ℕ) (xs : List Dated) → mark ≤ e → is_rising dated_key xs ≡ true → filter (is_earlier e) xs ≡ filter (is_earlier mark) xs ++ filter (is_within mark e) xs
split-rising mark e xs le r =
    rising-same dated_key (filter (is_earlier e) xs) (filter (is_earlier mark) xs ++ filter (is_within mark e) xs)
    (rising-filter dated_key (is_earlier e) xs r)
    (rising-append dated_key (filter (is_earlier mark) xs) (filter (is_within mark e) xs) (rising-filter dated_key (is_earlier mark) xs r) (rising-filter dated_key (is_within mark e) xs r)
    (λ x y i j.
    before-epochs x y
    (let a = earlier-from mark x (has-from_filter (is_earlier mark) xs x i).1 in
    let b = within-from mark e y (has-from_filter (is_within mark e) xs y j).1 in
    omega (arith, a, b.0))))
    (λ x i. there x (has-from_filter (is_earlier e) xs x i) (cases_lt x.epoch mark))
    (λ x i. here x (has-cases (filter (is_earlier mark) xs) (filter (is_within mark e) xs) x i))
  where
    there : (x : Dated) → Has x xs × (is_earlier e x ≡ true) → (x.epoch < mark) ⊎ (mark ≤ x.epoch) → Has x (filter (is_earlier mark) xs ++ filter (is_within mark e) xs)
    there x h (inl lt) = has-left (filter (is_earlier mark) xs) (filter (is_within mark e) xs) x (has-filter (is_earlier mark) xs x h.0 (earlier mark x lt))
    there x h (inr ge) = has-right (filter (is_earlier mark) xs) (filter (is_within mark e) xs) x (has-filter (is_within mark e) xs x h.0 (within mark e x ge (earlier-from e x h.1)))

    here : (x : Dated) → Has x (filter (is_earlier mark) xs) ⊎ Has x (filter (is_within mark e) xs) → Has x (filter (is_earlier e) xs)
    here x (inl i) =
        let h = has-from_filter (is_earlier mark) xs x i in
        has-filter (is_earlier e) xs x h.0 (earlier e x (let a = earlier-from mark x h.1 in omega (arith, a, le)))
    here x (inr i) = let h = has-from_filter (is_within mark e) xs x i in has-filter (is_earlier e) xs x h.0 (earlier e x (within-from mark e x h.1).1)

after-split : (c : Cell) (mark e : ℕ) (xs : List Dated) (held : Option (List ℕ)) → mark ≤ e → is_rising dated_key xs ≡ true
    → after_all c (filter (is_earlier e) xs) held ≡ after_all c (filter (is_within mark e) xs) (after_all c (filter (is_earlier mark) xs) held)
after-split c mark e xs held le r =
    ap (λ ys. after_all c ys held) (split-rising mark e xs le r) ∙ after-append c (filter (is_earlier mark) xs) (filter (is_within mark e) xs) held

-- of the writes below an epoch those below a lower one
ordered-earlier : (mark e : ℕ) (all : List Decided) → AreDecided all → mark ≤ e → filter (is_earlier mark) (ordered e all) ≡ ordered mark all
ordered-earlier mark e all f le =
    rising-same dated_key (filter (is_earlier mark) (ordered e all)) (ordered mark all)
    (rising-filter dated_key (is_earlier mark) (ordered e all) (rising-ordered e all f)) (rising-ordered mark all f)
    (λ x i. let h = has-from_filter (is_earlier mark) (ordered e all) x i in has-ordered mark all x (has-from_ordered e all x h.0).0 h.1)
    (λ x i.
    let h = has-from_ordered mark all x i in
    has-filter (is_earlier mark) (ordered e all) x (has-ordered e all x h.0 (earlier e x (let a = earlier-from mark x h.1 in omega (arith, a, le)))) h.1)

ordered-split : (c : Cell) (mark e : ℕ) (all : List Decided) (held : Option (List ℕ)) → AreDecided all → mark ≤ e
    → after_all c (ordered e all) held ≡ after_all c (filter (is_within mark e) (ordered e all)) (after_all c (ordered mark all) held)
ordered-split c mark e all held f le =
    ap (λ ys. after_all c ys held) (sym (ordered-earlier e e all f (omega arith)))
    ∙ after-split c mark e (ordered e all) held le (rising-ordered e all f)
    ∙ ap (λ ys. after_all c (filter (is_within mark e) (ordered e all)) (after_all c ys held)) (ordered-earlier mark e all f le)

-- ---- what versions give

pub dated-earlier : (p : Version → Bool) (e : ℕ) (vs : List Version) → dated_of (counts_under p e) vs ≡ filter (is_earlier e) (dated_of p vs)
dated-earlier p e [] = refl
dated-earlier p e (v ∷ vs) = by (p v) (nat_lt v.epoch.0 e) refl refl (dated-earlier p e vs)
  where
    by : (a b : Bool) → p v ≡ a → nat_lt v.epoch.0 e ≡ b → dated_of (counts_under p e) vs ≡ filter (is_earlier e) (dated_of p vs)
        → map dated (if a && b then v ∷ filter (counts_under p e) vs else filter (counts_under p e) vs) ≡ filter (is_earlier e) (map dated (if a then v ∷ filter p vs else filter p vs))
    by false b f g rest = rest
    by true true f g rest =
        ap (λ xs. dated v ∷ xs) rest ∙ sym (ap (λ t. if t then dated v ∷ filter (is_earlier e) (dated_of p vs) else filter (is_earlier e) (dated_of p vs)) g)
    by true false f g rest = rest ∙ sym (ap (λ t. if t then dated v ∷ filter (is_earlier e) (dated_of p vs) else filter (is_earlier e) (dated_of p vs)) g)

pub gives-dated : (c : Cell) (p : Version → Bool) (e : ℕ) (vs : List Version) → value_at (map_of (counts_under p e) vs) c ≡ after_all c (filter (is_earlier e) (dated_of p vs)) None
gives-dated c p e vs = value-effects c (filter (counts_under p e) vs) [] ∙ ap (λ xs. after_all c xs None) (dated-earlier p e vs)

from-mark : (mark : ℕ) (x : Dated) → mark ≤ x.epoch → is_from mark x ≡ true
from-mark mark x le = grind (arith, nat_tests)

pub mark-from : (mark : ℕ) (x : Dated) → is_from mark x ≡ true → mark ≤ x.epoch
mark-from mark x h = grind (arith, nat_tests)

-- between a mark and an epoch the same writes say what an own cell holds
same_within : (c : Cell) (mark e : ℕ) (xs : List Dated) (all : List Decided) → SameWritesAt c (filter (is_from mark) xs) (filter (is_from mark) (all_dated all))
    → SameWritesAt c (filter (is_within mark e) xs) (filter (is_within mark e) (ordered e all))
same_within c mark e xs all same x about = (there, here)
  where
    there : Contains (filter (is_within mark e) xs) x → Contains (filter (is_within mark e) (ordered e all)) x
    there i =
        let h = has-from_filter (is_within mark e) xs x (has-from_contains (filter (is_within mark e) xs) x i) in
        let bounds = within-from mark e x h.1 in
        let f = from-mark mark x bounds.0 in
        let k = (same x about).0 (contains-from_has (filter (is_from mark) xs) x (has-filter (is_from mark) xs x h.0 f)) in
        let a = has-from_filter (is_from mark) (all_dated all) x (has-from_contains (filter (is_from mark) (all_dated all)) x k) in
        contains-from_has (filter (is_within mark e) (ordered e all)) x (has-filter (is_within mark e) (ordered e all) x (has-ordered e all x a.0 (earlier e x bounds.1)) h.1)

    here : Contains (filter (is_within mark e) (ordered e all)) x → Contains (filter (is_within mark e) xs) x
    here i =
        let h = has-from_filter (is_within mark e) (ordered e all) x (has-from_contains (filter (is_within mark e) (ordered e all)) x i) in
        let bounds = within-from mark e x h.1 in
        let f = from-mark mark x bounds.0 in
        let a = has-from_ordered e all x h.0 in
        let k = (same x about).1 (contains-from_has (filter (is_from mark) (all_dated all)) x (has-filter (is_from mark) (all_dated all) x a.0 f)) in
        let b = has-from_filter (is_from mark) xs x (has-from_contains (filter (is_from mark) xs) x k) in
        contains-from_has (filter (is_within mark e) xs) x (has-filter (is_within mark e) xs x b.0 h.1)

pub matches-give : MatchesGiveAsOf
matches-give own p vs opening all mark e form decided m le c of =
    gives-dated c p e vs
    ∙ after-split c mark e (dated_of p vs) None le (rising-dated p vs form)
    ∙ ap (after_all c (filter (is_within mark e) (dated_of p vs))) (sym (gives-dated c p mark vs) ∙ m.at_mark c of ∙ as_of-dated c opening all mark)
    ∙ after-same c (filter (is_within mark e) (dated_of p vs)) (filter (is_within mark e) (ordered e all)) (after_all c (ordered mark all) (value_at opening.now c))
    (rising-filter dated_key (is_within mark e) (dated_of p vs) (rising-dated p vs form)) (rising-filter dated_key (is_within mark e) (ordered e all) (rising-ordered e all decided))
    (same_within c mark e (dated_of p vs) all (m.above c of))
    ∙ sym (ordered-split c mark e all (value_at opening.now c) decided le)
    ∙ sym (as_of-dated c opening all e)

-- from a higher mark on
same_from : (c : Cell) (mark e : ℕ) (xs ys : List Dated) → mark ≤ e → SameWritesAt c (filter (is_from mark) xs) (filter (is_from mark) ys)
    → SameWritesAt c (filter (is_from e) xs) (filter (is_from e) ys)
same_from c mark e xs ys le same x about = (go xs ys (same x about).0, go ys xs (same x about).1)
  where
    go : (as' bs : List Dated) → (Contains (filter (is_from mark) as') x → Contains (filter (is_from mark) bs) x) → Contains (filter (is_from e) as') x → Contains (filter (is_from e) bs) x
    go as' bs f i =
        let h = has-from_filter (is_from e) as' x (has-from_contains (filter (is_from e) as') x i) in
        let up = mark-from e x h.1 in
        let k = f (contains-from_has (filter (is_from mark) as') x (has-filter (is_from mark) as' x h.0 (from-mark mark x (omega (arith, up, le))))) in
        let b = has-from_filter (is_from mark) bs x (has-from_contains (filter (is_from mark) bs) x k) in
        contains-from_has (filter (is_from e) bs) x (has-filter (is_from e) bs x b.0 h.1)

pub marks-rise : MarksMayRise
marks-rise own p vs opening all mark e form decided m le = record {
  above = λ c of. same_from c mark e (dated_of p vs) (all_dated all) le (m.above c of);
  at_mark = matches-give own p vs opening all mark e form decided m le;
}

-- ---- a decision

pub filter_on : {T : Type 0} (t u : T → Bool) (xs : List T) → ((x : T) → Has x xs → t x ≡ u x) → filter t xs ≡ filter u xs
filter_on t u [] h = refl
filter_on t u (x ∷ xs) h =
    ap (λ b. if b then x ∷ filter t xs else filter t xs) (h x (inl refl)) ∙ ap (λ ys. if u x then x ∷ ys else ys) (filter_on t u xs (λ y i. h y (inr i)))

-- below the epoch of a decision the same versions count
counts_same : (own : Cell → Bool) (d : Decided) (p q : Version → Bool) (vs : List Version) (e : ℕ) → e ≤ d.epoch.0 → CountsOnce own d vs p q → (v : Version) → Has v vs
    → counts_under p e v ≡ counts_under q e v
counts_same own d p q vs e le once v i = by (p v) (q v) refl refl
  where
    by : (a b : Bool) → p v ≡ a → q v ≡ b → (a && nat_lt v.epoch.0 e) ≡ (b && nat_lt v.epoch.0 e)
    by true true f g = refl
    by false false f g = refl
    by true false f g = clash (q v) (once.kept v (contains-from_has vs v i) f) g
    by false true f g =
        let at : v.epoch.0 ≡ d.epoch.0 = epoch-dated d (dated v) (has-from_contains (dated_by d) (dated v) (once.new v (contains-from_has vs v i) g f)) in
        let late : nat_lt v.epoch.0 e ≡ false = grind (arith, nat_tests) in
        sym late

dated-added : (d : Decided) (all more : List Decided) → IsAdded d all more → (x : Dated) → Has x (all_dated more) → Has x (all_dated all) ⊎ Has x (dated_by d)
dated-added d all more added x i =
    let w = has-from_dated more x i in
    elim (added.from w.by (contains-from_has more w.by w.among)) [
      | inl j ↦ inl (has-dated all x (record { by = w.by; among = has-from_contains all w.by j; has = w.has }))
      | inr same ↦ inr (subst (λ f. Has x (dated_by f)) same w.has)
    ]

dated-old : (d : Decided) (all more : List Decided) → IsAdded d all more → (x : Dated) → Has x (all_dated all) → Has x (all_dated more)
dated-old d all more added x i =
    let w = has-from_dated all x i in has-dated more x (record { by = w.by; among = has-from_contains more w.by (added.old w.by (contains-from_has all w.by w.among)); has = w.has })

dated-new : (d : Decided) (all more : List Decided) → IsAdded d all more → (x : Dated) → Has x (dated_by d) → Has x (all_dated more)
dated-new d all more added x i = has-dated more x (record { by = d; among = has-from_contains more d added.new; has = i })

-- a decision changes nothing as of an epoch at or below its own
ordered-added : (d : Decided) (all more : List Decided) (e : ℕ) → AreDecided all → AreDecided more → e ≤ d.epoch.0 → IsAdded d all more → ordered e all ≡ ordered e more
ordered-added d all more e f g le added =
    rising-same dated_key (ordered e all) (ordered e more) (rising-ordered e all f) (rising-ordered e more g)
    (λ x i. let h = has-from_ordered e all x i in has-ordered e more x (dated-old d all more added x h.0) h.1)
    (λ x i. let h = has-from_ordered e more x i in elim (dated-added d all more added x h.0) [
      | inl j ↦ has-ordered e all x j h.1
      | inr j ↦ absurd (let at = epoch-dated d x j in let lt = earlier-from e x h.1 in omega (arith, at, lt, le))
    ])

pub decisions-nothing : DecisionsChangeNothingBelow
decisions-nothing own d p q vs e le once =
    ap (λ us. effects (writes_in us) []) (filter_on (counts_under q e) (counts_under p e) vs (λ v i. sym (counts_same own d p q vs e le once v i)))

pub decisions-below : DecisionsKeepWhatIsBelow
decisions-below own d p q vs opening all more e f g le once added gives c of =
    ap (λ m. value_at m c) (decisions-nothing own d p q vs e le once)
    ∙ gives c of
    ∙ as_of-dated c opening all e
    ∙ ap (λ xs. after_all c xs (value_at opening.now c)) (ordered-added d all more e f g le added)
    ∙ sym (as_of-dated c opening more e)

pub has-counted : (p : Version → Bool) (vs : List Version) (v : Version) → Has v vs → p v ≡ true → Has (dated v) (dated_of p vs)
has-counted p vs v i e = has-map dated (filter p vs) v (has-filter p vs v i e)

pub counted-has : (p : Version → Bool) (vs : List Version) (x : Dated) → Has x (dated_of p vs) → (v : Version) × Has v vs × (p v ≡ true) × (dated v ≡ x)
counted-has p vs x i =
    let m = has-from_map dated (filter p vs) x i in
    let h = has-from_filter p vs m.0 m.1 in
    (m.0, h.0, h.1, m.2)

decided_there : (own : Cell → Bool) (d : Decided) (p q : Version → Bool) (vs : List Version) (all more : List Decided) (mark : ℕ) (c : Cell) (x : Dated)
    → CountsOnce own d vs p q → IsAdded d all more → (Contains (filter (is_from mark) (dated_of p vs)) x → Contains (filter (is_from mark) (all_dated all)) x)
    → Contains (filter (is_from mark) (dated_of q vs)) x → Contains (filter (is_from mark) (all_dated more)) x
decided_there own d p q vs all more mark c x once added f i =
    let h = has-from_filter (is_from mark) (dated_of q vs) x (has-from_contains (filter (is_from mark) (dated_of q vs)) x i) in
    let v = counted-has q vs x h.0 in
    contains-from_has (filter (is_from mark) (all_dated more)) x (has-filter (is_from mark) (all_dated more) x (by h.1 v.0 v.1 v.2 v.3 (p v.0) refl) h.1)
  where
    by : is_from mark x ≡ true → (v : Version) → Has v vs → q v ≡ true → dated v ≡ x → (b : Bool) → p v ≡ b → Has x (all_dated more)
    by from v i e same true g =
        let k = f (contains-from_has (filter (is_from mark) (dated_of p vs)) x (has-filter (is_from mark) (dated_of p vs) x (subst (λ y. Has y (dated_of p vs)) same (has-counted p vs v i g)) from)) in
        dated-old d all more added x (has-from_filter (is_from mark) (all_dated all) x (has-from_contains (filter (is_from mark) (all_dated all)) x k)).0
    by from v i e same false g =
        dated-new d all more added x (subst (λ y. Has y (dated_by d)) same (has-from_contains (dated_by d) (dated v) (once.new v (contains-from_has vs v i) e g)))

decided_here : (own : Cell → Bool) (d : Decided) (p q : Version → Bool) (vs : List Version) (all more : List Decided) (mark : ℕ) (c : Cell) (x : Dated)
    → CountsOnce own d vs p q → IsAdded d all more → own c ≡ true → is_about c x ≡ true
    → (Contains (filter (is_from mark) (all_dated all)) x → Contains (filter (is_from mark) (dated_of p vs)) x)
    → Contains (filter (is_from mark) (all_dated more)) x → Contains (filter (is_from mark) (dated_of q vs)) x
decided_here own d p q vs all more mark c x once added of about f i =
    let h = has-from_filter (is_from mark) (all_dated more) x (has-from_contains (filter (is_from mark) (all_dated more)) x i) in
    contains-from_has (filter (is_from mark) (dated_of q vs)) x (has-filter (is_from mark) (dated_of q vs) x (by h.1 (dated-added d all more added x h.0)) h.1)
  where
    by : is_from mark x ≡ true → Has x (all_dated all) ⊎ Has x (dated_by d) → Has x (dated_of q vs)
    by from (inl j) =
        let k = f (contains-from_has (filter (is_from mark) (all_dated all)) x (has-filter (is_from mark) (all_dated all) x j from)) in
        let v = counted-has p vs x (has-from_filter (is_from mark) (dated_of p vs) x (has-from_contains (filter (is_from mark) (dated_of p vs)) x k)).0 in
        subst (λ y. Has y (dated_of q vs)) v.3 (has-counted q vs v.0 v.1 (once.kept v.0 (contains-from_has vs v.0 v.1) v.2))
    by from (inr j) =
        let v = once.held c x of (contains-from_has (dated_by d) x j) about in
        subst (λ y. Has y (dated_of q vs)) v.3 (has-counted q vs v.0 (has-from_contains vs v.0 v.1) v.2)

pub decisions-keep : DecisionsKeepMatches
decisions-keep own d p q vs opening all more mark f g le once added m = record {
  above = λ c of x about.
      (decided_there own d p q vs all more mark c x once added (m.above c of x about).0, decided_here own d p q vs all more mark c x once added of about (m.above c of x about).1);
  at_mark = decisions-below own d p q vs opening all more mark f g le once added m.at_mark;
}

-- ---- the same writes

pub same-maps : SameWritesMakeTheSame
same-maps p q vs us e same c = gives-dated c p e vs ∙ ap (λ xs. after_all c (filter (is_earlier e) xs) None) same ∙ sym (gives-dated c q e us)

pub same-below : SameWritesKeepWhatIsBelow
same-below own p q vs us opening all e same gives c of =
    gives-dated c q e us ∙ ap (λ xs. after_all c (filter (is_earlier e) xs) None) (sym same) ∙ sym (gives-dated c p e vs) ∙ gives c of

pub same-keep : SameWritesKeepMatches
same-keep own p q vs us opening all mark same m = record {
  above = λ c of. subst (λ xs. SameWritesAt c (filter (is_from mark) xs) (filter (is_from mark) (all_dated all))) same (m.above c of);
  at_mark = same-below own p q vs us opening all mark same m.at_mark;
}

pub commits-keep : CommitsKeepWrites
unfolding done_by
commits-keep a p q [] same = refl
commits-keep a p q (v ∷ vs) same =
    by (p v) (q (done_by a v)) (same v (contains-from_has (v ∷ vs) v (inl refl)))
    (commits-keep a p q vs (λ u i. same u (contains-from_has (v ∷ vs) u (inr (has-from_contains vs u i)))))
  where
    by : (s t : Bool) → t ≡ s → dated_of p vs ≡ dated_of q (map (done_by a) vs)
        → map dated (if s then v ∷ filter p vs else filter p vs) ≡ map dated (if t then done_by a v ∷ filter q (map (done_by a) vs) else filter q (map (done_by a) vs))
    by true true e rest = ap (λ xs. dated v ∷ xs) rest
    by false false e rest = rest
    by true false e rest = absurd (let n : ⊥ = cc in n)
    by false true e rest = absurd (let n : ⊥ = cc in n)

pub aborts-keep : AbortsKeepWrites
aborts-keep a p [] none = refl
aborts-keep a p (v ∷ vs) none =
    by (p v) (is_pending a v) refl refl (aborts-keep a p vs (λ u i. none u (contains-from_has (v ∷ vs) u (inr (has-from_contains vs u i)))))
  where
    first : is_pending a v ≡ true → p v ≡ false
    first = none v (contains-from_has (v ∷ vs) v (inl refl))

    by : (s t : Bool) → p v ≡ s → is_pending a v ≡ t → dated_of p vs ≡ dated_of p (filter (is_not_pending a) vs)
        → map dated (if s then v ∷ filter p vs else filter p vs) ≡ map dated (filter p (if not t then v ∷ filter (is_not_pending a) vs else filter (is_not_pending a) vs))
    by true true e f rest = clash (p v) e (first f)
    by false true e f rest = rest
    by true false e f rest = ap (λ xs. dated v ∷ xs) rest ∙ sym (ap (λ b. map dated (if b then v ∷ filter p (filter (is_not_pending a) vs) else filter p (filter (is_not_pending a) vs))) e)
    by false false e f rest = rest ∙ sym (ap (λ b. map dated (if b then v ∷ filter p (filter (is_not_pending a) vs) else filter p (filter (is_not_pending a) vs))) e)

filter-puts : {T : Type 0} (key : T → List ℕ) (t : T → Bool) (vs us : List T) → ((v : T) → Has v vs → t v ≡ false) → filter t (puts key vs us) ≡ filter t us
filter-puts key t [] us none = refl
filter-puts key t (v ∷ vs) us none = filter-put key t v (puts key vs us) (none v (inl refl)) ∙ filter-puts key t vs us (λ u i. none u (inr i))

pub prepares-keep : PreparesKeepWrites
prepares-keep e ws p vs none =
    sym (ap (λ us. map dated us) (filter-puts version_key p (versions_of e ws) vs (λ v i. none v (contains-from_has (versions_of e ws) v i))))

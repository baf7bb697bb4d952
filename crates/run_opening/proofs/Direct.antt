-- What the steps of an opening make of what one target keeps, all together.
use Rattle.std.specs.Prelude.{◌≡◌, ◌⊎◌, ◌&&◌, ◌||◌, not, Bool, true, false, List, [], ◌∷◌, ◌++◌, filter, map, if◌then◌else◌}
use Rattle.std.proofs.Common.{refl, sym, ◌∙◌, ap, subst, inl, inr}
use Rattle.base_types.specs.declared.entry.Entry.{Entry}
use Rattle.base_types.specs.declared.entry.Settle.TheVariants.{Forget}
use Rattle.base_types.specs.declared.id.AttemptId.{AttemptId}
use Rattle.model_laws.specs.Members.{Has, has-from_filter, has-from_map}
use Rattle.daos_model.specs.declared.durable.Durable.{Durable}
use Rattle.daos_model.specs.declared.durable.Version.{Version}
use Rattle.daos_model.specs.BoolLaws.{clash, not_true}
use Rattle.daos_model.specs.Changes.{committed_at, is_other, settled}
use Rattle.daos_model.specs.Durables.{same_attempt}
use Rattle.daos_model.specs.EntryLaws.{same_attempt-itself}
use Rattle.daos_model.specs.Versions.{done_by, is_not_pending, is_pending}
use Rattle.dtx_base.specs.LeaderLaws.{same-is}
use Rattle.run_opening.specs.Opened.{as_done}
use Rattle.run_opening.specs.Steps.{AllCommitted, all_ended, all_forgotten, ended, ended_at, ending, forgotten}

-- ---- which parts change

-- what a step makes of versions and of entries
abbrev pub versions_at : (AttemptId → Bool) → Entry → List Version → List Version
versions_at r e vs = if e.committed then vs else if r e.attempt then map (done_by e.attempt) vs else filter (is_not_pending e.attempt) vs

abbrev pub entries_at : (AttemptId → Bool) → Entry → List Entry → List Entry
entries_at r e es = if e.committed then es else if r e.attempt then map (committed_at e.attempt) es else filter (is_other e.attempt) es

abbrev versions_ended : (AttemptId → Bool) → List Entry → List Version → List Version
versions_ended r [] vs = vs
versions_ended r (e ∷ es) vs = versions_ended r es (versions_at r e vs)

abbrev entries_ended : (AttemptId → Bool) → List Entry → List Entry → List Entry
entries_ended r [] zs = zs
entries_ended r (e ∷ es) zs = entries_ended r es (entries_at r e zs)

pub part-ended : (r : AttemptId → Bool) (e : Entry) (d : Durable) → ended_at r e d ≡ record d { versions = versions_at r e d.versions; entries = entries_at r e d.entries }
unfolding settled
part-ended r e d = by e.committed (r e.attempt)
  where
    by : (b c : Bool) → (if b then d else settled e.attempt (ending c) d)
        ≡ record d {
          versions = if b then d.versions else if c then map (done_by e.attempt) d.versions else filter (is_not_pending e.attempt) d.versions;
          entries = if b then d.entries else if c then map (committed_at e.attempt) d.entries else filter (is_other e.attempt) d.entries;
        }
    by true c = refl
    by false true = refl
    by false false = refl

pub parts-ended : (r : AttemptId → Bool) (es : List Entry) (d : Durable) → all_ended r es d ≡ record d { versions = versions_ended r es d.versions; entries = entries_ended r es d.entries }
parts-ended r [] d = refl
parts-ended r (e ∷ es) d = ap (all_ended r es) (part-ended r e d) ∙ parts-ended r es (record d { versions = versions_at r e d.versions; entries = entries_at r e d.entries })

-- ---- versions

versions-none : (r : AttemptId → Bool) (es : List Entry) → versions_ended r es [] ≡ []
versions-none r [] = refl
versions-none r (e ∷ es) = ap (versions_ended r es) (by e.committed (r e.attempt)) ∙ versions-none r es
  where
    by : (b c : Bool) → (if b then [] else if c then map (done_by e.attempt) [] else filter (is_not_pending e.attempt) []) ≡ []
    by true c = refl
    by false true = refl
    by false false = refl

-- a list of versions is settled one version after another
versions-cons : (r : AttemptId → Bool) (es : List Entry) (us vs : List Version) → versions_ended r es (us ++ vs) ≡ versions_ended r es us ++ versions_ended r es vs
versions-cons r [] us vs = refl
versions-cons r (e ∷ es) us vs = ap (versions_ended r es) (by e.committed (r e.attempt)) ∙ versions-cons r es (versions_at r e us) (versions_at r e vs)
  where
    mapped : (f : Version → Version) (us : List Version) → map f (us ++ vs) ≡ map f us ++ map f vs
    mapped f [] = refl
    mapped f (u ∷ us) = ap (λ ys. f u ∷ ys) (mapped f us)

    filtered : (t : Version → Bool) (us : List Version) → filter t (us ++ vs) ≡ filter t us ++ filter t vs
    filtered t [] = refl
    filtered t (u ∷ us) = one (t u) (filtered t us)
      where
        one : (b : Bool) → filter t (us ++ vs) ≡ filter t us ++ filter t vs → (if b then u ∷ filter t (us ++ vs) else filter t (us ++ vs)) ≡ (if b then u ∷ filter t us else filter t us) ++ filter t vs
        one true rest = ap (λ ys. u ∷ ys) rest
        one false rest = rest

    by : (b c : Bool) → (if b then us ++ vs else if c then map (done_by e.attempt) (us ++ vs) else filter (is_not_pending e.attempt) (us ++ vs))
        ≡ (if b then us else if c then map (done_by e.attempt) us else filter (is_not_pending e.attempt) us) ++ (if b then vs else if c then map (done_by e.attempt) vs else filter (is_not_pending e.attempt) vs)
    by true c = refl
    by false true = mapped (done_by e.attempt) us
    by false false = filtered (is_not_pending e.attempt) us

same-version : (v : Version) (b : Bool) → b ≡ v.done → record v { done = b } ≡ v
same-version v b same = ap (λ c. record v { done = c }) same

-- a done version stays as it is
done-step : (r : AttemptId → Bool) (e : Entry) (v : Version) → v.done ≡ true → versions_at r e (v ∷ []) ≡ v ∷ []
unfolding done_by is_pending
done-step r e v done = by e.committed (r e.attempt)
  where
    stays : record v { done = v.done || same_attempt v.by e.attempt } ≡ v
    stays = same-version v (v.done || same_attempt v.by e.attempt) (ap (λ b. b || same_attempt v.by e.attempt) done ∙ sym done)

    settled' : (same_attempt v.by e.attempt && not v.done) ≡ false
    settled' = ap (λ b. same_attempt v.by e.attempt && not b) done ∙ off (same_attempt v.by e.attempt)
      where
        off : (b : Bool) → (b && false) ≡ false
        off true = refl
        off false = refl

    by : (b c : Bool) → (if b then v ∷ [] else if c then map (done_by e.attempt) (v ∷ []) else filter (is_not_pending e.attempt) (v ∷ [])) ≡ v ∷ []
    by true c = refl
    by false true = ap (λ u. u ∷ []) stays
    by false false = ap (λ (b : Bool). if not b then v ∷ [] else []) settled'

done-stays : (r : AttemptId → Bool) (es : List Entry) (v : Version) → v.done ≡ true → versions_ended r es (v ∷ []) ≡ v ∷ []
done-stays r [] v done = refl
done-stays r (e ∷ es) v done = ap (versions_ended r es) (done-step r e v done) ∙ done-stays r es v done

-- what becomes of a version
left-of : (AttemptId → Bool) → Version → List Version
left-of r v = if v.done || r v.by then as_done v ∷ [] else []

-- an unsettled version is settled with its attempt
module _ (r : AttemptId → Bool) (v : Version) (open' : v.done ≡ false) where
  ends-at : (e : Entry) → e.committed ≡ false → same_attempt v.by e.attempt ≡ true → versions_at r e (v ∷ []) ≡ (if r e.attempt then as_done v ∷ [] else [])
  unfolding done_by is_pending
  ends-at e prepared its = ap (λ (b : Bool). if b then v ∷ [] else if r e.attempt then map (done_by e.attempt) (v ∷ []) else filter (is_not_pending e.attempt) (v ∷ [])) prepared ∙ by (r e.attempt)
    where
      made : (v.done || same_attempt v.by e.attempt) ≡ true
      made = ap (λ b. b || same_attempt v.by e.attempt) open' ∙ its

      pending : (same_attempt v.by e.attempt && not v.done) ≡ true
      pending = ap (λ b. same_attempt v.by e.attempt && not b) open' ∙ on (same_attempt v.by e.attempt) its
        where
          on : (b : Bool) → b ≡ true → (b && true) ≡ true
          on true is = refl
          on false is = is

      by : (c : Bool) → (if c then map (done_by e.attempt) (v ∷ []) else filter (is_not_pending e.attempt) (v ∷ [])) ≡ (if c then as_done v ∷ [] else [])
      by true = ap (λ b. record v { done = b } ∷ []) made
      by false = ap (λ (b : Bool). if not b then v ∷ [] else []) pending

  passes-by : (e : Entry) → (e.committed ≡ true) ⊎ (same_attempt v.by e.attempt ≡ false) → versions_at r e (v ∷ []) ≡ v ∷ []
  unfolding done_by is_pending
  passes-by e (inl committed) = ap (λ (b : Bool). if b then v ∷ [] else if r e.attempt then map (done_by e.attempt) (v ∷ []) else filter (is_not_pending e.attempt) (v ∷ [])) committed
  passes-by e (inr other) = by e.committed (r e.attempt)
    where
      stays : record v { done = v.done || same_attempt v.by e.attempt } ≡ v
      stays = same-version v (v.done || same_attempt v.by e.attempt) (ap (λ b. v.done || b) other ∙ plain v.done)
        where
          plain : (b : Bool) → (b || false) ≡ b
          plain true = refl
          plain false = refl

      by : (b c : Bool) → (if b then v ∷ [] else if c then map (done_by e.attempt) (v ∷ []) else filter (is_not_pending e.attempt) (v ∷ [])) ≡ v ∷ []
      by true c = refl
      by false true = ap (λ u. u ∷ []) stays
      by false false = ap (λ (b : Bool). if not (b && not v.done) then v ∷ [] else []) other

  after-end : (es : List Entry) (c : Bool) → versions_ended r es (if c then as_done v ∷ [] else []) ≡ (if c then as_done v ∷ [] else [])
  after-end es true = done-stays r es (as_done v) refl
  after-end es false = versions-none r es

  open-ends : (es : List Entry) (e : Entry) → Has e es → e.committed ≡ false → e.attempt ≡ v.by → versions_ended r es (v ∷ []) ≡ (if r v.by then as_done v ∷ [] else [])
  open-ends [] e i prepared its = absurd i
  open-ends (x ∷ es) e i prepared its = by x.committed (same_attempt v.by x.attempt) refl refl (λ j. open-ends es e j prepared its) i
    where
      at-x : x.committed ≡ false → same_attempt v.by x.attempt ≡ true → versions_ended r es (versions_at r x (v ∷ [])) ≡ (if r v.by then as_done v ∷ [] else [])
      at-x c s =
          ap (versions_ended r es) (ends-at x c s) ∙ after-end es (r x.attempt)
          ∙ ap (λ a. if r a then as_done v ∷ [] else []) (sym (same-is v.by x.attempt s))

      by : (c s : Bool) → x.committed ≡ c → same_attempt v.by x.attempt ≡ s → (Has e es → versions_ended r es (v ∷ []) ≡ (if r v.by then as_done v ∷ [] else [])) → Has e (x ∷ es)
          → versions_ended r es (versions_at r x (v ∷ [])) ≡ (if r v.by then as_done v ∷ [] else [])
      by c s c' s' rest (inl same) =
          at-x (ap (λ y. y.committed) (sym same) ∙ prepared) (ap (λ a. same_attempt v.by a) (sym (sym its ∙ ap (λ y. y.attempt) same)) ∙ same_attempt-itself v.by)
      by true s c' s' rest (inr j) = ap (versions_ended r es) (passes-by x (inl c')) ∙ rest j
      by false true c' s' rest (inr j) = at-x c' s'
      by false false c' s' rest (inr j) = ap (versions_ended r es) (passes-by x (inr s')) ∙ rest j

-- each version is done, or a prepared entry has its attempt
abbrev pub HaveEntries : List Entry → List Version → Type 0
HaveEntries es vs = (v : Version) → Has v vs → (v.done ≡ true) ⊎ ((e : Entry) × Has e es × (e.committed ≡ false) × (e.attempt ≡ v.by))

one-left : (r : AttemptId → Bool) (es : List Entry) (v : Version) → (v.done ≡ true) ⊎ ((e : Entry) × Has e es × (e.committed ≡ false) × (e.attempt ≡ v.by)) → versions_ended r es (v ∷ []) ≡ left-of r v
unfolding left-of
one-left r es v (inl done) = done-stays r es v done ∙ ap (λ u. u ∷ []) (sym (same-version v true (sym done))) ∙ ap (λ (b : Bool). if b || r v.by then as_done v ∷ [] else []) (sym done)
one-left r es v (inr (e, i, prepared, its)) = by v.done refl
  where
    by : (b : Bool) → v.done ≡ b → versions_ended r es (v ∷ []) ≡ (if v.done || r v.by then as_done v ∷ [] else [])
    by true done = done-stays r es v done ∙ ap (λ u. u ∷ []) (sym (same-version v true (sym done))) ∙ ap (λ (c : Bool). if c || r v.by then as_done v ∷ [] else []) (sym done)
    by false open' = open-ends r v open' es e i prepared its ∙ ap (λ (c : Bool). if c || r v.by then as_done v ∷ [] else []) (sym open')

joined : (r : AttemptId → Bool) (v : Version) (vs : List Version) → left-of r v ++ map as_done (filter (λ v. v.done || r v.by) vs) ≡ map as_done (filter (λ v. v.done || r v.by) (v ∷ vs))
unfolding left-of
joined r v vs = by (v.done || r v.by)
  where
    by : (b : Bool) → (if b then as_done v ∷ [] else []) ++ map as_done (filter (λ v. v.done || r v.by) vs) ≡ map as_done (if b then v ∷ filter (λ v. v.done || r v.by) vs else filter (λ v. v.done || r v.by) vs)
    by true = refl
    by false = refl

pub versions-left : (r : AttemptId → Bool) (es : List Entry) (vs : List Version) → HaveEntries es vs → versions_ended r es vs ≡ map as_done (filter (λ v. v.done || r v.by) vs)
versions-left r es [] have = versions-none r es
versions-left r es (v ∷ vs) have =
    versions-cons r es (v ∷ []) vs
    ∙ ap (λ ys. ys ++ versions_ended r es vs) (one-left r es v (have v (inl refl)))
    ∙ ap (λ ys. left-of r v ++ ys) (versions-left r es vs (λ u i. have u (inr i)))
    ∙ joined r v vs

-- ---- entries

-- each entry is committed, or its attempt is still to be settled
abbrev ToSettle : List Entry → Entry → Type 0
ToSettle es z = (z.committed ≡ true) ⊎ ((e : Entry) × Has e es × (e.committed ≡ false) × (e.attempt ≡ z.attempt))

-- one that the next step leaves
next-left : (e : Entry) (es : List Entry) (z : Entry) → (e.committed ≡ true) ⊎ (same_attempt z.attempt e.attempt ≡ false) → ToSettle (e ∷ es) z → ToSettle es z
next-left e es z left (inl c) = inl c
next-left e es z left (inr (x, inr j, open', its)) = inr (x, j, open', its)
next-left e es z (inl committed) (inr (x, inl same, open', its)) = clash x.committed (ap (λ y. y.committed) same ∙ committed) open'
next-left e es z (inr other) (inr (x, inl same, open', its)) =
    clash (same_attempt z.attempt e.attempt) (ap (λ a. same_attempt z.attempt a) (sym (ap (λ y. y.attempt) same) ∙ its) ∙ same_attempt-itself z.attempt) other

step-left : (r : AttemptId → Bool) (e : Entry) (es zs : List Entry) → ((z : Entry) → Has z zs → ToSettle (e ∷ es) z) → (z : Entry) → Has z (entries_at r e zs) → ToSettle es z
step-left r e es zs all z i = by e.committed (r e.attempt) refl i
  where
    at-same : (x : Entry) (s : Bool) → Has x zs → same_attempt x.attempt e.attempt ≡ s → (if s then record x { committed = true } else x) ≡ z → ToSettle es z
    at-same x true j is same = inl (ap (λ y. y.committed) (sym same))
    at-same x false j is same = subst (ToSettle es) same (next-left e es x (inr is) (all x j))

    by : (b c : Bool) → e.committed ≡ b → Has z (if b then zs else if c then map (committed_at e.attempt) zs else filter (is_other e.attempt) zs) → ToSettle es z
    by true c committed i = next-left e es z (inl committed) (all z i)
    by false true committed i = let x = has-from_map (committed_at e.attempt) zs z i in at-same x.0 (same_attempt x.0.attempt e.attempt) x.1 refl x.2
    by false false committed i =
        let x = has-from_filter (is_other e.attempt) zs z i in
        next-left e es z (inr (not_true (same_attempt z.attempt e.attempt) x.1)) (all z x.0)

all-settled : (r : AttemptId → Bool) (es zs : List Entry) → ((z : Entry) → Has z zs → ToSettle es z) → (z : Entry) → Has z (entries_ended r es zs) → z.committed ≡ true
all-settled r [] zs all z i = by (all z i)
  where
    by : ToSettle [] z → z.committed ≡ true
    by (inl c) = c
    by (inr x) = absurd x.1
all-settled r (e ∷ es) zs all z i = all-settled r es (entries_at r e zs) (step-left r e es zs all) z i

-- once all its attempts are settled, all entries of a target are committed
pub ended-committed : (r : AttemptId → Bool) (d : Durable) → AllCommitted (ended r d)
ended-committed r d e i = all-settled r d.entries d.entries first e (subst (λ y. Has e y.entries) (parts-ended r d.entries d) i)
  where
    first : (z : Entry) → Has z d.entries → ToSettle d.entries z
    first z j = by z.committed refl
      where
        by : (b : Bool) → z.committed ≡ b → ToSettle d.entries z
        by true is = inl is
        by false is = inr (z, j, is, refl)

-- ---- entries are forgotten

abbrev entries_forgotten : List Entry → List Entry → List Entry
entries_forgotten [] zs = zs
entries_forgotten (e ∷ es) zs = entries_forgotten es (filter (is_other e.attempt) zs)

part-forgotten : (a : AttemptId) (d : Durable) → settled a Forget d ≡ record d { entries = filter (is_other a) d.entries }
unfolding settled
part-forgotten a d = refl

parts-forgotten : (es : List Entry) (d : Durable) → all_forgotten es d ≡ record d { entries = entries_forgotten es d.entries }
parts-forgotten [] d = refl
parts-forgotten (e ∷ es) d = ap (all_forgotten es) (part-forgotten e.attempt d) ∙ parts-forgotten es (record d { entries = filter (is_other e.attempt) d.entries })

none-there : {T : Type 0} (zs : List T) → ((z : T) → Has z zs → ⊥) → zs ≡ []
none-there [] none = refl
none-there (z ∷ zs) none = absurd (none z (inl refl))

all-gone : (es zs : List Entry) → ((z : Entry) → Has z zs → (e : Entry) × Has e es × (e.attempt ≡ z.attempt)) → entries_forgotten es zs ≡ []
all-gone [] zs all = none-there zs (λ z i. (all z i).1)
all-gone (e ∷ es) zs all = all-gone es (filter (is_other e.attempt) zs) (λ z i. let x = has-from_filter (is_other e.attempt) zs z i in by z (not_true (same_attempt z.attempt e.attempt) x.1) (all z x.0))
  where
    by : (z : Entry) → same_attempt z.attempt e.attempt ≡ false → ((x : Entry) × Has x (e ∷ es) × (x.attempt ≡ z.attempt)) → (x : Entry) × Has x es × (x.attempt ≡ z.attempt)
    by z other (x, inr j, its) = (x, j, its)
    by z other (x, inl same, its) = clash (same_attempt z.attempt e.attempt) (ap (λ a. same_attempt z.attempt a) (sym (ap (λ y. y.attempt) same) ∙ its) ∙ same_attempt-itself z.attempt) other

-- none is left
pub forgotten-all : (d : Durable) → forgotten d ≡ record d { entries = [] }
forgotten-all d = parts-forgotten d.entries d ∙ ap (λ es. record d { entries = es }) (all-gone d.entries d.entries (λ z i. (z, i, refl)))

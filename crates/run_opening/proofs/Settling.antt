-- What one target keeps while its attempts are settled one by one, as all targets resolve them.
use Rattle.std.specs.Prelude.{◌≡◌, ◌≢◌, ◌&&◌, ◌||◌, not, find, Bool, true, false, AllPairs, List, [], ◌∷◌, filter, map, Option, Some, None, if◌then◌else◌, refl}
use Rattle.std.specs.Option.{option_map}
use Rattle.std.proofs.Common.{sym, ◌∙◌, ap, subst}
use Rattle.std.proofs.lemmas.List.Kept.{AllPairs-filter}
use Rattle.base_types.specs.declared.entry.Entry.{Entry}
use Rattle.base_types.specs.declared.id.AttemptId.{AttemptId}
use Rattle.model_laws.specs.EntryLaws.{find-map, found-passes, is-entry-committed, pairs-map}
use Rattle.model_laws.specs.MatchLaws.{filter_on}
use Rattle.model_laws.specs.Members.{Has, has-from_filter, has-from_map}
use Rattle.daos_model.specs.declared.durable.Durable.{Durable}
use Rattle.daos_model.specs.declared.durable.Version.{Version}
use Rattle.daos_model.specs.BoolLaws.{clash, not_true, or_left, or_right}
use Rattle.daos_model.specs.Changes.{committed_at, is_other}
use Rattle.daos_model.specs.Durables.{entry_of, is_entry_of, same_attempt, version_key}
use Rattle.daos_model.specs.Sound.{IsOfEntry, SayTheSame}
use Rattle.daos_model.specs.Versions.{done_by, is_not_pending, is_pending, writes_in}
use Rattle.dtx_base.specs.LeaderLaws.{same-is}
use Rattle.run_opening.specs.Left.{StaysCounted}
use Rattle.run_opening.specs.LeftLaws.{IsBlind}
use Rattle.run_opening.specs.StandLaws.{filter-twice}
use Rattle.run_opening.specs.Steps.{all_ended, ended_at}
use Rattle.run_opening.proofs.Direct.{entries_at, part-ended, versions_at}

-- ---- the entry of an attempt

-- What became of an attempt's entry: it stays; or it is committed where the attempt is resolved; or it is gone where it isn't.
pub data EntryLeft (resolves : Bool) (old : Option Entry) (new : Option Entry) : Type 0 where
  Stays : new ≡ old → EntryLeft resolves old new
  IsCommitted : (e : Entry) → old ≡ Some e → new ≡ Some (record e { committed = true }) → resolves ≡ true → EntryLeft resolves old new
  IsGone : new ≡ None → resolves ≡ false → EntryLeft resolves old new

left-on : (b : Bool) (o p q : Option Entry) → EntryLeft b o p → EntryLeft b p q → EntryLeft b o q
left-on b o p q (Stays same) k = subst (λ z. EntryLeft b z q) same k
left-on b o p q (IsCommitted e here there is) (Stays same) = IsCommitted e here (same ∙ there) is
left-on b o p q (IsCommitted e here there is) (IsCommitted f again last so) =
    let one : f ≡ record e { committed = true } = let z : Some f ≡ Some (record e { committed = true }) = sym again ∙ there in cc in
    IsCommitted e here (last ∙ ap (λ (z : Entry). Some (record z { committed = true })) one) is
left-on b o p q (IsCommitted e here there is) (IsGone none not') = clash b is not'
left-on b o p q (IsGone none not') (Stays same) = IsGone (same ∙ none) not'
left-on b o p q (IsGone none not') (IsCommitted f again last so) = clash b so not'
left-on b o p q (IsGone none not') (IsGone still so) = IsGone still so

-- none is found where all are left out
none-found : {T : Type 0} (p q : T → Bool) (xs : List T) → ((x : T) → p x ≡ true → q x ≡ false) → find p (filter q xs) ≡ None
none-found p q [] apart = refl
none-found {T = T} p q (x ∷ xs) apart = by (q x) (p x) refl refl (none-found p q xs apart)
  where
    by : (b c : Bool) → q x ≡ b → p x ≡ c → find p (filter q xs) ≡ None → find p (if b then x ∷ filter q xs else filter q xs) ≡ None
    by true true is at rest = clash (q x) is (apart x at)
    by true false is at rest = ap (λ (z : Bool). if z then Some x else find p (filter q xs)) at ∙ rest
    by false c is at rest = rest

-- the same is found where others are left out
same-found : {T : Type 0} (p q : T → Bool) (xs : List T) → ((x : T) → p x ≡ true → q x ≡ true) → find p (filter q xs) ≡ find p xs
same-found p q [] stays = refl
same-found {T = T} p q (x ∷ xs) stays = by (q x) (p x) refl refl (same-found p q xs stays)
  where
    by : (b c : Bool) → q x ≡ b → p x ≡ c → find p (filter q xs) ≡ find p xs → find p (if b then x ∷ filter q xs else filter q xs) ≡ (if p x then Some x else find p xs)
    by true c is at rest = ap (λ o. if p x then Some x else o) rest
    by false true is at rest = clash (q x) (stays x at) is
    by false false is at rest = rest ∙ sym (ap (λ (z : Bool). if z then Some x else find p xs) at)

-- ---- one step

module _ (r : AttemptId → Bool) (e : Entry) where
  -- the entry of each attempt
  found-step : (es : List Entry) (x : AttemptId) → EntryLeft (r x) (find (is_entry_of x) es) (find (is_entry_of x) (entries_at r e es))
  found-step es x = by e.committed (r e.attempt) refl
    where
      commits : (o : Option Entry) → find (is_entry_of x) es ≡ o → r e.attempt ≡ true → EntryLeft (r x) o (option_map (committed_at e.attempt) o)
      commits None at is = Stays refl
      commits (Some z) at is = one (same_attempt z.attempt e.attempt) refl
        where
          its : z.attempt ≡ x
          its = same-is z.attempt x (found-passes (is_entry_of x) es z at)

          one : (b : Bool) → same_attempt z.attempt e.attempt ≡ b → EntryLeft (r x) (Some z) (Some (if b then record z { committed = true } else z))
          one true same = IsCommitted z refl refl (ap r (sym its ∙ same-is z.attempt e.attempt same) ∙ is)
          one false same = Stays refl

      aborts : (b : Bool) → same_attempt x e.attempt ≡ b → r e.attempt ≡ false → EntryLeft (r x) (find (is_entry_of x) es) (find (is_entry_of x) (filter (is_other e.attempt) es))
      aborts true same is =
          IsGone (none-found (is_entry_of x) (is_other e.attempt) es (λ z at. ap not (ap (λ a. same_attempt a e.attempt) (same-is z.attempt x at) ∙ same)))
          (ap r (same-is x e.attempt same) ∙ is)
      aborts false same is = Stays (same-found (is_entry_of x) (is_other e.attempt) es (λ z at. ap not (ap (λ a. same_attempt a e.attempt) (same-is z.attempt x at) ∙ same)))

      by : (b c : Bool) → r e.attempt ≡ c → EntryLeft (r x) (find (is_entry_of x) es) (find (is_entry_of x) (if b then es else if c then map (committed_at e.attempt) es else filter (is_other e.attempt) es))
      by true c is = Stays refl
      by false true is =
          subst (EntryLeft (r x) (find (is_entry_of x) es)) (sym (find-map (is_entry_of x) (committed_at e.attempt) es (is-entry-committed x e.attempt)))
          (commits (find (is_entry_of x) es) refl is)
      by false false is = aborts (same_attempt x e.attempt) refl is

  -- each entry was there, committed or not
  entries-step : (es : List Entry) (z : Entry) → Has z (entries_at r e es) → (y : Entry) × Has y es × (z.attempt ≡ y.attempt) × SayTheSame z y
  entries-step es z i = by e.committed (r e.attempt) i
    where
      committed-as : (y : Entry) (b : Bool) → (if b then record y { committed = true } else y) ≡ z → (z.attempt ≡ y.attempt) × SayTheSame z y
      committed-as y true is = (ap (λ w. w.attempt) (sym is), record { epoch = ap (λ w. w.epoch) (sym is); leader = ap (λ w. w.leader) (sym is); members = ap (λ w. w.members) (sym is) })
      committed-as y false is = (ap (λ w. w.attempt) (sym is), record { epoch = ap (λ w. w.epoch) (sym is); leader = ap (λ w. w.leader) (sym is); members = ap (λ w. w.members) (sym is) })

      by : (b c : Bool) → Has z (if b then es else if c then map (committed_at e.attempt) es else filter (is_other e.attempt) es) → (y : Entry) × Has y es × (z.attempt ≡ y.attempt) × SayTheSame z y
      by true c i = (z, i, refl, record { epoch = refl; leader = refl; members = refl })
      by false true i =
          let y = has-from_map (committed_at e.attempt) es z i in
          let k = committed-as y.0 (same_attempt y.0.attempt e.attempt) y.2 in
          (y.0, y.1, k.0, k.1)
      by false false i = (z, (has-from_filter (is_other e.attempt) es z i).0, refl, record { epoch = refl; leader = refl; members = refl })

  -- each version was there, done or not
  versions-step : (vs : List Version) (v : Version) → Has v (versions_at r e vs) → (u : Version) × Has u vs × (v ≡ record u { done = v.done })
  unfolding done_by
  versions-step vs v i = by e.committed (r e.attempt) i
    where
      by : (b c : Bool) → Has v (if b then vs else if c then map (done_by e.attempt) vs else filter (is_not_pending e.attempt) vs) → (u : Version) × Has u vs × (v ≡ record u { done = v.done })
      by true c i = (v, i, refl)
      by false true i = let u = has-from_map (done_by e.attempt) vs v i in (u.0, u.1, sym u.2 ∙ ap (λ b. record u.0 { done = b }) (ap (λ z. z.done) u.2))
      by false false i = (v, (has-from_filter (is_not_pending e.attempt) vs v i).0, refl)

  -- two of them are apart as they were
  single-step : (vs : List Version) → AllPairs (λ v w. version_key v ≢ version_key w) vs → AllPairs (λ v w. version_key v ≢ version_key w) (versions_at r e vs)
  unfolding done_by
  single-step vs all = by e.committed (r e.attempt)
    where
      by : (b c : Bool) → AllPairs (λ v w. version_key v ≢ version_key w) (if b then vs else if c then map (done_by e.attempt) vs else filter (is_not_pending e.attempt) vs)
      by true c = all
      by false true = pairs-map version_key (done_by e.attempt) vs (λ v. refl) all
      by false false = AllPairs-filter (λ v w. version_key v ≢ version_key w) (is_not_pending e.attempt) vs all

  -- a version counts where it is done, or its attempt is resolved
  abbrev counted : Version → Bool
  counted v = v.done || r v.by

  -- those that count have the same writes, however they are chosen
  module _ (p : Version → Bool) (blind : IsBlind p) where
    made : r e.attempt ≡ true → (v : Version) → (counted (done_by e.attempt v) && p (done_by e.attempt v)) ≡ (counted v && p v)
    unfolding done_by
    made is v =
        ap (λ b. counted (record v { done = v.done || same_attempt v.by e.attempt }) && b) (blind v (v.done || same_attempt v.by e.attempt))
        ∙ ap (λ b. b && p v) (by (same_attempt v.by e.attempt) refl)
      where
        on : (a c : Bool) → c ≡ true → ((a || true) || c) ≡ (a || c)
        on true c is = refl
        on false c is = sym is

        off : (a c : Bool) → ((a || false) || c) ≡ (a || c)
        off true c = refl
        off false c = refl

        by : (b : Bool) → same_attempt v.by e.attempt ≡ b → ((v.done || b) || r v.by) ≡ (v.done || r v.by)
        by true same = on v.done (r v.by) (ap r (same-is v.by e.attempt same) ∙ is)
        by false same = off v.done (r v.by)

    gone : r e.attempt ≡ false → (v : Version) → (is_not_pending e.attempt v && (counted v && p v)) ≡ (counted v && p v)
    unfolding is_pending
    gone is v = by (same_attempt v.by e.attempt) v.done refl
      where
        by : (b c : Bool) → same_attempt v.by e.attempt ≡ b → (not (b && not c) && ((c || r v.by) && p v)) ≡ ((c || r v.by) && p v)
        by true true same = refl
        by true false same = sym (ap (λ b. b && p v) (ap r (same-is v.by e.attempt same) ∙ is))
        by false c same = refl

    abbrev passes : Version → Bool
    passes v = counted v && p v

    mapped-writes : r e.attempt ≡ true → (vs : List Version) → writes_in (filter passes (map (done_by e.attempt) vs)) ≡ writes_in (filter passes vs)
    unfolding done_by
    mapped-writes is [] = refl
    mapped-writes is (v ∷ vs) =
        ap (λ b. writes_in (if b then done_by e.attempt v ∷ filter passes (map (done_by e.attempt) vs) else filter passes (map (done_by e.attempt) vs))) (made is v)
        ∙ by (passes v) (mapped-writes is vs)
      where
        by : (b : Bool) → writes_in (filter passes (map (done_by e.attempt) vs)) ≡ writes_in (filter passes vs)
            → writes_in (if b then done_by e.attempt v ∷ filter passes (map (done_by e.attempt) vs) else filter passes (map (done_by e.attempt) vs)) ≡ writes_in (if b then v ∷ filter passes vs else filter passes vs)
        by true rest = ap (λ ws. v.write ∷ ws) rest
        by false rest = rest

    writes-step : (vs : List Version) → writes_in (filter passes (versions_at r e vs)) ≡ writes_in (filter passes vs)
    writes-step vs = by e.committed (r e.attempt) refl
      where
        by : (b c : Bool) → r e.attempt ≡ c → writes_in (filter passes (if b then vs else if c then map (done_by e.attempt) vs else filter (is_not_pending e.attempt) vs)) ≡ writes_in (filter passes vs)
        by true c is = refl
        by false true is = mapped-writes is vs
        by false false is = ap writes_in (filter-twice passes (is_not_pending e.attempt) vs ∙ filter_on (λ v. is_not_pending e.attempt v && passes v) passes vs (λ v i. gone is v))

  -- an unsettled version has its entry among these
  abbrev IsOfOne : List Entry → Version → Type 0
  IsOfOne es v = v.done ≡ false → (f : Entry) × (find (is_entry_of v.by) es ≡ Some f) × (f.committed ≡ false) × (f.epoch ≡ v.epoch)

  open-made : (es : List Entry) (u : Version) → IsOfOne es u → IsOfOne (map (committed_at e.attempt) es) (done_by e.attempt u)
  unfolding done_by
  open-made es u one open' =
      let f = one (or_left u.done (same_attempt u.by e.attempt) open') in
      let other : same_attempt f.0.attempt e.attempt ≡ false = ap (λ a. same_attempt a e.attempt) (same-is f.0.attempt u.by (found-passes (is_entry_of u.by) es f.0 f.1)) ∙ or_right u.done (same_attempt u.by e.attempt) open' in (
        f.0,
        find-map (is_entry_of u.by) (committed_at e.attempt) es (is-entry-committed u.by e.attempt) ∙ ap (option_map (committed_at e.attempt)) f.1 ∙ ap (λ (b : Bool). Some (if b then record f.0 { committed = true } else f.0)) other,
        f.2,
        f.3,
      )

  open-left : (es : List Entry) (v : Version) → is_not_pending e.attempt v ≡ true → IsOfOne es v → IsOfOne (filter (is_other e.attempt) es) v
  unfolding is_pending
  open-left es v left one open' =
      let f = one open' in
      let other : same_attempt v.by e.attempt ≡ false = by (same_attempt v.by e.attempt) v.done open' (not_true (same_attempt v.by e.attempt && not v.done) left) in
      (f.0, same-found (is_entry_of v.by) (is_other e.attempt) es (λ z at. ap not (ap (λ a. same_attempt a e.attempt) (same-is z.attempt v.by at) ∙ other)) ∙ f.1, f.2, f.3)
    where
      by : (a b : Bool) → b ≡ false → (a && not b) ≡ false → a ≡ false
      by true true is left = let no : ⊥ = cc in absurd no
      by true false is left = left
      by false b is left = refl

  open-step : (es : List Entry) (vs : List Version) → ((v : Version) → Has v vs → IsOfOne es v) → (v : Version) → Has v (versions_at r e vs) → IsOfOne (entries_at r e es) v
  open-step es vs all v i = by e.committed (r e.attempt) i
    where
      by : (b c : Bool) → Has v (if b then vs else if c then map (done_by e.attempt) vs else filter (is_not_pending e.attempt) vs)
          → IsOfOne (if b then es else if c then map (committed_at e.attempt) es else filter (is_other e.attempt) es) v
      by true c i = all v i
      by false true i = let u = has-from_map (done_by e.attempt) vs v i in subst (IsOfOne (map (committed_at e.attempt) es)) u.2 (open-made es u.0 (all u.0 u.1))
      by false false i = let u = has-from_filter (is_not_pending e.attempt) vs v i in open-left es v u.1 (all v u.0)

-- ---- all steps

-- What one target keeps once some of its attempts were settled, of which these are resolved.
pub record IsSettled (r : AttemptId → Bool) (d g : Durable) : Type 0 where
  pub entry : (x : AttemptId) → EntryLeft (r x) (entry_of d x) (entry_of g x)
  pub entries : (e : Entry) → Has e g.entries → (f : Entry) × Has f d.entries × (e.attempt ≡ f.attempt) × SayTheSame e f
  pub versions : (v : Version) → Has v g.versions → (u : Version) × Has u d.versions × (v ≡ record u { done = v.done })
  pub writes : (p : Version → Bool) → IsBlind p → writes_in (filter (λ v. (v.done || r v.by) && p v) g.versions) ≡ writes_in (filter (λ v. (v.done || r v.by) && p v) d.versions)
  pub unsettled : ((v : Version) → Has v d.versions → IsOfEntry d v) → (v : Version) → Has v g.versions → IsOfEntry g v
  pub single : AllPairs (λ v w. version_key v ≢ version_key w) d.versions → AllPairs (λ v w. version_key v ≢ version_key w) g.versions
  pub snaps : g.snaps ≡ d.snaps
  pub conts : g.conts ≡ d.conts
  pub counted : StaysCounted d g

settled-itself : (r : AttemptId → Bool) (d : Durable) → IsSettled r d d
settled-itself r d = record {
  entry = λ x. Stays refl;
  entries = λ e i. (e, i, refl, record { epoch = refl; leader = refl; members = refl });
  versions = λ v i. (v, i, refl);
  writes = λ p blind. refl;
  unsettled = λ all. all;
  single = λ all. all;
  snaps = refl;
  conts = refl;
  counted = record { lease = refl; incarnation = refl };
}

settled-step : (r : AttemptId → Bool) (e : Entry) (d : Durable) → IsSettled r d (ended_at r e d)
unfolding entry_of
settled-step r e d = subst (IsSettled r d) (sym (part-ended r e d)) (record {
  entry = found-step r e d.entries;
  entries = entries-step r e d.entries;
  versions = versions-step r e d.versions;
  writes = λ p blind. writes-step r e p blind d.versions;
  unsettled = λ all. open-step r e d.entries d.versions all;
  single = single-step r e d.versions;
  snaps = refl;
  conts = refl;
  counted = record { lease = refl; incarnation = refl };
})

settled-then : (r : AttemptId → Bool) (d m g : Durable) → IsSettled r d m → IsSettled r m g → IsSettled r d g
settled-then r d m g a b = record {
  entry = λ x. left-on (r x) (entry_of d x) (entry_of m x) (entry_of g x) (a.entry x) (b.entry x);
  entries = λ e i.
      let f = b.entries e i in
      let h = a.entries f.0 f.1 in
      (h.0, h.1, f.2 ∙ h.2, record { epoch = f.3.epoch ∙ h.3.epoch; leader = f.3.leader ∙ h.3.leader; members = f.3.members ∙ h.3.members });
  versions = λ v i. let u = b.versions v i in let w = a.versions u.0 u.1 in (w.0, w.1, u.2 ∙ ap (λ (z : Version). record z { done = v.done }) w.2);
  writes = λ p blind. b.writes p blind ∙ a.writes p blind;
  unsettled = λ all. b.unsettled (a.unsettled all);
  single = λ all. b.single (a.single all);
  snaps = b.snaps ∙ a.snaps;
  conts = b.conts ∙ a.conts;
  counted = record { lease = b.counted.lease ∙ a.counted.lease; incarnation = b.counted.incarnation ∙ a.counted.incarnation };
}

pub all-settled : (r : AttemptId → Bool) (es : List Entry) (d : Durable) → IsSettled r d (all_ended r es d)
all-settled r [] d = settled-itself r d
all-settled r (e ∷ es) d = settled-then r d (ended_at r e d) (all_ended r es (ended_at r e d)) (settled-step r e d) (all-settled r es (ended_at r e d))

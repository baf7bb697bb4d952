-- Every right event keeps that attempts are stored at most once at each target, and not where they were refused for want of space.
use Rattle.std.specs.Prelude.{ℕ, ◌≡◌, ◌+◌, ◌++◌, ◌⊎◌, Bool, true, false, is_none, List, [], ◌∷◌, filter, find, map, Contains, slice_get, Option, Some, None, refl, if◌then◌else◌}
use Rattle.std.proofs.Common.{inl, inr, sym, ◌∙◌, ap, subst}
use Rattle.base_types.specs.declared.entry.Entry.{Entry}
use Rattle.base_types.specs.declared.epoch.Epoch.{Epoch}
use Rattle.base_types.specs.declared.id.AttemptId.{AttemptId}
use Rattle.model_laws.specs.Members.{Has, contains-from_has, has-cases, has-from_contains, has-from_filter, has-from_map}
use Rattle.model_laws.specs.RisingLaws.{after-has}
use Rattle.base_messages.specs.declared.message.Message.{Message}
use Rattle.base_messages.specs.declared.message.Message.TheVariants as message
use Rattle.base_messages.specs.declared.message.Post.{Post}
use Rattle.daos_model.specs.declared.durable.Durable.{Durable}
use Rattle.daos_model.specs.Answers.{is_before}
use Rattle.daos_model.specs.Attempts.{tries}
use Rattle.daos_model.specs.BoolLaws.{and_left, and_right, clash}
use Rattle.daos_model.specs.Durables.{attempt_key, entry_key, entry_of, is_entry_of, same_attempt}
use Rattle.daos_model.specs.EntryLaws.{same_attempt-itself}
use Rattle.daos_model.specs.Ordered.{all_after, is_rising}
use Rattle.daos_model.specs.OrderLaws.{before-itself}
use Rattle.world_contents.specs.world_commit.attempts.Attempts.{entry_at, entry_in}
use Rattle.world_base.specs.declared.did.Did.{Did}
use Rattle.world_base.specs.declared.letter.Letter.{Letter}
use Rattle.world_base.specs.declared.request.CommitRequest.{CommitRequest}
use Rattle.world_base.specs.declared.target.TargetState.{TargetState}
use Rattle.world_base.specs.declared.world.World.{World}
use Rattle.world_base.specs.Letters.{letter_of, letters_of, target}
use Rattle.world_contents.specs.world_letters.talks.Asked.{commit_of}
use Rattle.world_base.specs.Changes.{Kept}
use Rattle.world_causes.specs.causes.Causes.{EndsOf, Stored, is_new_to, stored_as, stored_by}
use Rattle.world_causes.specs.causes.Storing.{AreApart, HasItsLine, IsAskedAt, IsPrepareOf, IsRefusedAt, IsTold, RefusesAt, StoredOnce}
use Rattle.world_causes.specs.causes.StoreTurns.{AsksFor, IsCommitOf, StoresAs}

-- ---- lists

pub apart-both : {T : Type 0} (xs ys : List T) → AreApart xs → AreApart ys → ((x : T) → Has x xs → Has x ys → ⊥) → AreApart (xs ++ ys)
apart-both [] ys h k off = k
apart-both (x ∷ xs) ys h k off = (λ i. elim (has-cases xs ys x i) [ inl j ↦ h.0 j | inr j ↦ off x (inl refl) j ], apart-both xs ys h.1 k (λ z i. off z (inr i)))

-- entries that rise are of different attempts
entries-apart : (t : ℕ) (old : Durable) (es : List Entry) → is_rising entry_key es ≡ true → AreApart (map (stored_as t) (filter (is_new_to old) es))
entries-apart t old [] rises = tt
entries-apart t old (e ∷ es) rises = by (entries-apart t old es (and_right (all_after entry_key (entry_key e) es) (is_rising entry_key es) rises)) (is_new_to old e)
  where
    alone : Has (stored_as t e) (map (stored_as t) (filter (is_new_to old) es)) → ⊥
    alone i =
        let j = has-from_map (stored_as t) (filter (is_new_to old) es) (stored_as t e) i in
        let after : is_before (entry_key e) (entry_key j.0) ≡ true = after-has entry_key (entry_key e) es j.0 (and_left (all_after entry_key (entry_key e) es) (is_rising entry_key es) rises) (has-from_filter (is_new_to old) es j.0 j.1).0 in
        clash (is_before (entry_key e) (entry_key j.0)) after (ap (λ y. is_before (entry_key e) (attempt_key y)) (ap (λ p. p.1) j.2) ∙ before-itself (entry_key e))

    by : AreApart (map (stored_as t) (filter (is_new_to old) es)) → (b : Bool) → AreApart (map (stored_as t) (if b then e ∷ filter (is_new_to old) es else filter (is_new_to old) es))
    by rest true = (alone, rest)
    by rest false = rest

-- an attempt of which an entry stands there has one that is found
found-some : (x : AttemptId) (es : List Entry) (e : Entry) → Has e es → e.attempt ≡ x → (f : Entry) × (find (is_entry_of x) es ≡ Some f)
found-some x [] e i same = absurd i
found-some x (k ∷ es) e i same = by (λ j. found-some x es e j same) (is_entry_of x k) refl
  where
    by : (Has e es → (f : Entry) × (find (is_entry_of x) es ≡ Some f)) → (b : Bool) → is_entry_of x k ≡ b → (f : Entry) × ((if b then Some k else find (is_entry_of x) es) ≡ Some f)
    by rest true is = (k, refl)
    by rest false is = elim i [
      | inl first ↦ clash (is_entry_of x k) (subst (λ y. same_attempt y x ≡ true) (sym same ∙ ap (λ z. z.attempt) first) (same_attempt-itself x)) is
      | inr j ↦ rest j
    ]

none-is : {T : Type 0} (o : Option T) → is_none o ≡ true → o ≡ None
none-is None h = refl
none-is (Some x) h = let no : ⊥ = cc in absurd no

pub some-not_none : {T : Type 0} (o : Option T) (x : T) → o ≡ Some x → o ≡ None → ⊥
some-not_none o x h k = cc

-- ---- messages

-- a request is a Commit or a Prepare
pub asks-cases : (m : Message) (x : AttemptId) → AsksFor m x → IsCommitOf m x ⊎ IsPrepareOf m x
asks-cases (message.Commit y ep first tracker ws) x k = inl k
asks-cases (message.Prepare e first ws inc) x k = inr k
asks-cases m x k = absurd k

pub commit-is : (m : Message) (x : AttemptId) → IsCommitOf m x → (q : CommitRequest) × (m ≡ commit_of q) × (q.attempt ≡ x)
commit-is (message.Commit y ep first tracker ws) x k = (record { attempt = y; ep = ep; first = first; tracker = tracker; writes = ws }, refl, k)
commit-is m x k = absurd k

-- a Commit isn't a Prepare
pub not-both : (m : Message) (x y : AttemptId) → IsCommitOf m x → IsPrepareOf m y → ⊥
not-both (message.Commit z ep first tracker ws) x y k p = p
not-both m x y k p = k

-- a Commit tells no end
pub commit-no_end : (m : Message) (x y : AttemptId) → IsCommitOf m x → EndsOf m y → ⊥
commit-no_end (message.Commit z ep first tracker ws) x y k p = p
commit-no_end m x y k p = k

-- ---- an event of a target

-- what is known of such an event
pub record DidSo (stored : Stored) (w v : World) (t : ℕ) (s z : TargetState) (m : Message) (did : Did) (rest : List Letter) : Type 0 where
  pub now : slice_get v.targets t ≡ Some z
  pub messages : v.messages ≡ rest ++ letters_of (target t) did.posts
  pub lines : v.lines ≡ w.lines
  pub issued : (x : AttemptId) (e : Epoch) → Contains w.issued (x, e) → Contains v.issued (x, e)
  pub left : (l : Letter) → Contains rest l → Contains w.messages l
  pub unstored : (x : AttemptId) → AsksFor m x → Contains stored (t, x) → ⊥
  pub unrefused : (x : AttemptId) → AsksFor m x → IsRefusedAt w t x → ⊥
  pub anew : (u : ℕ) (x : AttemptId) → IsCommitOf m x → Contains stored (u, x) → ⊥
  pub uncommitted : (u : ℕ) (x : AttemptId) → IsCommitOf m x → IsRefusedAt w u x → ⊥
  pub told : (u : ℕ) (x : AttemptId) → RefusesAt m u x → IsRefusedAt w u x
  pub alone : (x : AttemptId) → AsksFor m x → IsAskedAt v t x → ⊥

module _ (stored : Stored) (w v : World) (S : StoredOnce stored w) (t : ℕ) (s z : TargetState) (m : Message) (did : Did) (rest : List Letter) (new : Kept) (same : new.durable ≡ z.durable) (rising : is_rising entry_key z.durable.entries ≡ true)
    (dated : (x : AttemptId) (e : Entry) → entry_at v t x ≡ Some e → Contains v.issued (x, e.epoch)) (K : DidSo stored w v t s z m did rest) (A : StoresAs s.durable t m new did.posts) where
  abbrev pub Now : Stored
  Now = stored_by t s.durable z.durable

  -- an attempt that is stored now
  pub record IsNow (u : ℕ) (x : AttemptId) : Type 0 where
    pub here : u ≡ t
    pub none : entry_of s.durable x ≡ None
    pub entry : Entry
    pub among : Has entry z.durable.entries
    pub its : entry.attempt ≡ x

  is-now : (u : ℕ) (x : AttemptId) → Has (u, x) Now → IsNow u x
  is-now u x i =
      let j = has-from_map (stored_as t) (filter (is_new_to s.durable) z.durable.entries) (u, x) i in
      let f = has-from_filter (is_new_to s.durable) z.durable.entries j.0 j.1 in
      record {
        here = sym (ap (λ p. p.0) j.2);
        none = subst (λ y. entry_of s.durable y ≡ None) (ap (λ p. p.1) j.2) (none-is (entry_of s.durable j.0.attempt) f.1);
        entry = j.0;
        among = f.0;
        its = ap (λ p. p.1) j.2;
      }

  found-now : (u : ℕ) (x : AttemptId) → IsNow u x → (f : Entry) × (entry_of z.durable x ≡ Some f)
  unfolding entry_of
  found-now u x k = found-some x z.durable.entries k.entry k.among k.its

  pub entry-now : (u : ℕ) (x : AttemptId) → IsNow u x → (f : Entry) × (entry_at v t x ≡ Some f)
  entry-now u x k = let f = found-now u x k in (f.0, ap (λ y. entry_in y x) K.now ∙ f.1)

  -- it is what was asked for
  pub asked-for : (u : ℕ) (x : AttemptId) → IsNow u x → (AsksFor m x → ⊥) → ⊥
  asked-for u x k off = let f = found-now u x k in some-not_none (entry_of z.durable x) f.0 f.1 (ap (λ d. entry_of d x) (sym same) ∙ A.only x k.none off)

  pub cases : (u : ℕ) (x : AttemptId) → Contains (Now ++ stored) (u, x) → IsNow u x ⊎ Contains stored (u, x)
  cases u x i = elim (has-cases Now stored (u, x) (has-from_contains (Now ++ stored) (u, x) i)) [
    | inl j ↦ inl (is-now u x j)
    | inr j ↦ inr (contains-from_has stored (u, x) j)
  ]

  -- a letter in flight was before, or is sent
  sent : (l : Letter) → Contains v.messages l → Contains rest l ⊎ ((q : Post) × Has q did.posts × (q.message ≡ l.message))
  sent l i = elim (has-cases rest (letters_of (target t) did.posts) l (subst (Has l) K.messages (has-from_contains v.messages l i))) [
    | inl j ↦ inl (contains-from_has rest l j)
    | inr j ↦ let q = has-from_map (letter_of (target t)) did.posts l j in inr (q.0, q.1, ap (λ y. y.message) q.2)
  ]

  asked-cases : (u : ℕ) (x : AttemptId) → IsAskedAt v u x → IsAskedAt w u x ⊎ IsCommitOf m x
  asked-cases u x a = elim (sent a.l a.among) [
    | inl j ↦ inl (record { l = a.l; among = K.left a.l j; to = a.to; its = a.its })
    | inr q ↦ inr ((A.said q.0 q.1).asks x (subst (λ y. IsPrepareOf y x) (sym q.2) a.its))
  ]

  asked-not : (u : ℕ) (x : AttemptId) → IsAskedAt v u x → Contains (Now ++ stored) (u, x) → ⊥
  asked-not u x a i = elim (cases u x i) [
    | inl k ↦ asked-for u x k (λ f. K.alone x f (subst (λ n. IsAskedAt v n x) k.here a))
    | inr j ↦ elim (asked-cases u x a) [ inl b ↦ S.asked u x b j | inr c ↦ K.anew u x c j ]
  ]

  -- one that was refused before
  refused-before : (u : ℕ) (x : AttemptId) → IsRefusedAt w u x → (Contains (Now ++ stored) (u, x) → ⊥) × (IsAskedAt v u x → ⊥)
  refused-before u x b = (
    λ i. elim (cases u x i) [ inl k ↦ asked-for u x k (λ f. K.unrefused x f (subst (λ n. IsRefusedAt w n x) k.here b)) | inr j ↦ (S.refused u x b).0 j ],
    λ a. elim (asked-cases u x a) [ inl c ↦ (S.refused u x b).1 c | inr c ↦ K.uncommitted u x c b ],
  )

  -- one that is refused now
  refused-now : (u : ℕ) (x : AttemptId) → u ≡ t → AsksFor m x → ((y : AttemptId) → entry_of s.durable y ≡ None → entry_of new.durable y ≡ None) → (Contains (Now ++ stored) (u, x) → ⊥) × (IsAskedAt v u x → ⊥)
  refused-now u x here f none = (
    λ i. elim (cases u x i) [
      | inl k ↦ let e = found-now u x k in some-not_none (entry_of z.durable x) e.0 e.1 (ap (λ d. entry_of d x) (sym same) ∙ none x k.none)
      | inr j ↦ K.unstored x f (subst (λ n. Contains stored (n, x)) here j)
    ],
    λ a. K.alone x f (subst (λ n. IsAskedAt v n x) here a),
  )

  refused-not : (u : ℕ) (x : AttemptId) → IsRefusedAt v u x → (Contains (Now ++ stored) (u, x) → ⊥) × (IsAskedAt v u x → ⊥)
  refused-not u x (HasItsLine a need free i its is) = refused-before u x (HasItsLine a need free (subst (λ ls. Contains (tries ls) a) K.lines i) its is)
  refused-not u x (IsTold l i p) = elim (sent l i) [
    | inl j ↦ refused-before u x (IsTold l (K.left l j) p)
    | inr q ↦ elim ((A.said q.0 q.1).refuses u x (subst (λ y. RefusesAt y u x) (sym q.2) p)) [
      | inl before ↦ refused-before u x (K.told u x before)
      | inr k ↦ refused-now u x k.0 k.1 k.2
    ]
  ]

  pub target-stores_once : StoredOnce (Now ++ stored) v
  target-stores_once = record {
    once = apart-both Now stored (entries-apart t s.durable z.durable.entries rising) S.once
        (λ i j k. let n = is-now i.0 i.1 j in asked-for i.0 i.1 n (λ f. K.unstored i.1 f (subst (λ u. Contains stored (u, i.1)) n.here (contains-from_has stored i k))));
    issued = λ u x i. elim (cases u x i) [
      | inl k ↦ let e = entry-now u x k in (e.0.epoch, dated x e.0 e.1)
      | inr j ↦ let e = S.issued u x j in (e.0, K.issued x e.0 e.1)
    ];
    asked = asked-not;
    refused = refused-not;
  }

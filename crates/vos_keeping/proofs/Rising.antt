-- Entries that stand in a tree stand in the order of their attempts, each attempt once.
use Rattle.std.proofs.Common.{◌≡◌, ℕ, ◌==◌, ◌&&◌, Bool, true, false, cond, List, [], ◌∷◌, Some, map, refl, sym, ap, ◌∙◌, subst, arith, ◌⊎◌, inl, inr}
use Rattle.std.specs.Prelude.{All, if◌then◌else◌}
use Rattle.std.specs.List.{find}
use Rattle.std.specs.Ordering.{nat_cmp, ordering_then}
use Rattle.std.specs.declared.cmp.Ordering.TheVariants.{Equal, Less}
use Rattle.std.proofs.lemmas.Bool.Decides.{nat_tests}
use Rattle.std.proofs.lemmas.List.Elements.{All-cons, All-head, All-nil, All-tail}
use Rattle.base_types.specs.declared.entry.Entry.{Entry}
use Rattle.base_types.specs.declared.id.AttemptId.{AttemptId}
use Rattle.daos_model.specs.Answers.{is_before}
use Rattle.daos_model.specs.BoolLaws.{clash}
use Rattle.daos_model.specs.Durables.{entry_key, same_attempt}
use Rattle.daos_model.specs.Ordered.{in_order, put, puts}
use Rattle.pmem_pages.specs.Blocks.{Blocks}
use Rattle.pmem_pages.specs.Node.{key_cmp}
use Rattle.pmem_pages.specs.Owners.{Holds}
use Rattle.pmem_pages.specs.Shape.{AllAbove, Entry as Pair, Rises, entries}
use Rattle.vos_entries.specs.Entries.{Entries, Stored as StoredEntry, entries_in, entries_owner, entry_level, entry_of}
use Rattle.vos_levels.specs.Levels.{LeadToAll, things}
use Rattle.vos_values.specs.Keys.{IsAttempt, attempt_key}
use Rattle.vos_values.proofs.KeyLaws.{attempts_order}

-- ---- attempts in the order of their keys aren't the same

same_numbers : (a b c x y z : ℕ) → ordering_then (nat_cmp a x) (ordering_then (nat_cmp b y) (ordering_then (nat_cmp c z) Equal)) ≡ Less → ((x == a) && (y == b) && (z == c)) ≡ false
same_numbers a b c x y z h = grind (arith, nat_tests)

not_same : (a b : AttemptId) → IsAttempt a → IsAttempt b → key_cmp (attempt_key a) (attempt_key b) ≡ Less → same_attempt b a ≡ false
unfolding same_attempt
not_same a b fa fb less = same_numbers a.client a.command a.attempt b.client b.command b.attempt (sym (attempts_order a b fa fb) ∙ less)

-- no other entry behind one is of its attempt
none_behind : (s : StoredEntry) → IsAttempt s.entry.attempt → (k : Pair) → k.key ≡ attempt_key s.entry.attempt → (es : List Pair) (xs : List StoredEntry) → AllAbove k.key es → LeadToAll entry_level es xs → All (λ e. same_attempt e.attempt s.entry.attempt ≡ false) (map entry_of xs)
none_behind s fits k is [] [] above leads = All-nil (λ e. same_attempt e.attempt s.entry.attempt ≡ false)
none_behind s fits k is [] (x ∷ xs) above leads = absurd leads
none_behind s fits k is (e ∷ es) [] above leads = absurd leads
none_behind s fits k is (e ∷ es) (x ∷ xs) above leads =
    let less : key_cmp (attempt_key s.entry.attempt) (attempt_key x.entry.attempt) ≡ Less = ap (λ z. key_cmp z (attempt_key x.entry.attempt)) (sym is) ∙ (ap (λ z. key_cmp k.key z) (sym leads.0.key) ∙ above.0) in
    All-cons (λ e. same_attempt e.attempt s.entry.attempt ≡ false) x.entry (map entry_of xs) (not_same s.entry.attempt x.entry.attempt fits leads.0.good.attempt less) (none_behind s fits k is es xs above.1 leads.1)

-- each attempt has one entry
abbrev Lone : List Entry → Type 0
Lone [] = Unit {0}
Lone (e ∷ es) = All (λ x. same_attempt x.attempt e.attempt ≡ false) es × Lone es

all_lone : (es : List Pair) (xs : List StoredEntry) → Rises es → LeadToAll entry_level es xs → Lone (map entry_of xs)
all_lone [] [] rises leads = tt
all_lone [] (x ∷ xs) rises leads = absurd leads
all_lone (e ∷ es) [] rises leads = absurd leads
all_lone (e ∷ es) (x ∷ xs) rises leads = (none_behind x leads.0.good.attempt e leads.0.key es xs rises.0 leads.1, all_lone es xs rises.1 leads.1)

-- ---- so that of an attempt is the one that is found

joined : (a b c x y z u v w : ℕ) → ((x == a) && (y == b) && (z == c)) ≡ true → ((u == a) && (v == b) && (w == c)) ≡ true → ((x == u) && (y == v) && (z == w)) ≡ true
joined a b c x y z u v w one other = grind (arith, nat_tests)

same_one : (e f a : AttemptId) → same_attempt e a ≡ true → same_attempt f a ≡ true → same_attempt e f ≡ true
unfolding same_attempt
same_one e f a one other = joined a.client a.command a.attempt e.client e.command e.attempt f.client f.command f.attempt one other

-- this holds of each entry of the attempt, where it does of one and the others aren't of it
module _ (a : AttemptId) (P : Entry → Type 0) where
  abbrev OfIt : Entry → Type 0
  OfIt x = same_attempt x.attempt a ≡ true → P x

  others : (e : Entry) → same_attempt e.attempt a ≡ true → (es : List Entry) → All (λ x. same_attempt x.attempt e.attempt ≡ false) es → All OfIt es
  others e is [] all = All-nil OfIt
  others e is (x ∷ xs) all =
      All-cons OfIt x xs (λ at. clash (same_attempt x.attempt e.attempt) (same_one x.attempt e.attempt a at is) (All-head (λ z. same_attempt z.attempt e.attempt ≡ false) x xs all))
      (others e is xs (All-tail (λ z. same_attempt z.attempt e.attempt ≡ false) x xs all))

  -- one of the attempt is P, wherever it stands
  abbrev SomeOne : List Entry → Type 0
  SomeOne [] = ⊥
  SomeOne (e ∷ es) = ((same_attempt e.attempt a ≡ true) × P e) ⊎ SomeOne es

  each_of_it : (es : List Entry) → Lone es → SomeOne es → All OfIt es
  each_of_it [] lone some = absurd some
  each_of_it (e ∷ es) lone (inl here) = All-cons OfIt e es (λ at. here.1) (others e here.0 es lone.0)
  each_of_it (e ∷ es) lone (inr there) = by (same_attempt e.attempt a) refl (each_of_it es lone.1 there)
    where
      none : (e : Entry) → same_attempt e.attempt a ≡ true → (es : List Entry) → All (λ x. same_attempt x.attempt e.attempt ≡ false) es → SomeOne es → ⊥
      none e is [] all some = some
      none e is (x ∷ xs) all (inl at) = clash (same_attempt x.attempt e.attempt) (same_one x.attempt e.attempt a at.0 is) (All-head (λ z. same_attempt z.attempt e.attempt ≡ false) x xs all)
      none e is (x ∷ xs) all (inr at) = none e is xs (All-tail (λ z. same_attempt z.attempt e.attempt ≡ false) x xs all) at

      by : (b : Bool) → same_attempt e.attempt a ≡ b → All OfIt es → All OfIt (e ∷ es)
      by true is rest = absurd (none e is es lone.0 there)
      by false is rest = All-cons OfIt e es (λ at. clash (same_attempt e.attempt a) at is) rest

  -- what is found in order stands in the list
  in_put : (v : Entry) (us : List Entry) → SomeOne (put entry_key v us) → SomeOne (v ∷ us)
  in_put v [] some = some
  in_put v (u ∷ us) some = by (is_before (entry_key u) (entry_key v)) some (in_put v us)
    where
      moved : SomeOne (u ∷ put entry_key v us) → (SomeOne (put entry_key v us) → SomeOne (v ∷ us)) → SomeOne (v ∷ u ∷ us)
      moved (inl here) on = inr (inl here)
      moved (inr there) on = elim (on there) [ inl first ↦ inl first | inr rest ↦ inr (inr rest) ]

      by : (b : Bool) → SomeOne (if b then u ∷ put entry_key v us else v ∷ u ∷ us) → (SomeOne (put entry_key v us) → SomeOne (v ∷ us)) → SomeOne (v ∷ u ∷ us)
      by true some on = moved some on
      by false some on = some

  in_puts : (es : List Entry) → SomeOne (puts entry_key es []) → SomeOne es
  in_puts [] some = some
  in_puts (e ∷ es) some = elim (in_put e (puts entry_key es []) some) [ inl here ↦ inl here | inr there ↦ inr (in_puts es there) ]

  found_one : (e : Entry) (es : List Entry) → find (λ x. same_attempt x.attempt a) es ≡ Some e → P e → SomeOne es
  found_one e [] is p = absurd (cc)
  found_one e (x ∷ xs) is p = by (same_attempt x.attempt a) refl (found_one e xs)
    where
      same : (x e : Entry) → Some x ≡ Some e → x ≡ e
      same x e h = cc

      by : (b : Bool) → same_attempt x.attempt a ≡ b → (find (λ x. same_attempt x.attempt a) xs ≡ Some e → P e → SomeOne xs) → SomeOne (x ∷ xs)
      by true at on = inl (at, subst P (sym (same x e (sym (ap (λ (b : Bool). cond b (Some x) (find (λ z. same_attempt z.attempt a) xs)) at) ∙ is))) p)
      by false at on = inr (on (sym (ap (λ (b : Bool). cond b (Some x) (find (λ z. same_attempt z.attempt a) xs)) at) ∙ is) p)

pub lone : (m : Blocks) (g : Entries) (a : AttemptId) (e : Entry) → Holds entries_owner m g → find (λ x. same_attempt x.attempt a) (in_order entry_key (entries_in g)) ≡ Some e → e.committed ≡ true → All (λ x. same_attempt x.attempt a ≡ true → x.committed ≡ true) (entries_in g)
unfolding in_order
lone m g a e h found done =
    let P = λ (x : Entry). x.committed ≡ true in
    each_of_it a P (entries_in g) (all_lone (entries g.0) (things g) h.here.1.rises h.here.1.leads) (in_puts a P (entries_in g) (found_one a P e (puts entry_key (entries_in g) []) found done))

-- What targets say of epochs: each that is known of an attempt, and no other.
use Rattle.std.specs.Prelude.{ℕ, ◌≡◌, ◌≤◌, ◌^◌, bit_or, Bool, true, false, filter, find, map, List, [], ◌∷◌, Contains, Option, Some, None, refl, if◌then◌else◌}
use Rattle.std.proofs.Common.{sym, ◌∙◌, ap, subst, ⊎_elim, arith}
use Rattle.std.proofs.lemmas.List.Elements.{Contains-append_left, Contains-append_right, Contains-push}
use Rattle.base_types.specs.declared.entry.Entry.{Entry}
use Rattle.base_types.specs.declared.entry.Settle.{Settle}
use Rattle.base_types.specs.declared.entry.Settle.TheVariants.{Abort, Commit, Confirm, Forget}
use Rattle.base_types.specs.declared.epoch.Epoch.{Epoch}
use Rattle.base_types.specs.declared.id.AttemptId.{AttemptId}
use Rattle.world_base.specs.model_laws.EntryLaws.{same-attempt}
use Rattle.base_messages.specs.declared.actor.ActorId.{ActorId}
use Rattle.daos_model.specs.declared.durable.Durable.{Durable}
use Rattle.daos_model.specs.Answers.{is_before}
use Rattle.daos_model.specs.Changes.{committed_at, confirmed_at, is_other, leased, prepared, settled}
use Rattle.daos_model.specs.Durables.{entry_key, is_entry_of, same_attempt}
use Rattle.daos_model.specs.Ordered.{put}
use Rattle.world_base.specs.Changes.{Change, Creates, Extends, Freezes, Kept, Prepares, Prunes, Settles, Steps, made}
use Rattle.world_letters.specs.epochs.Lists.{contains-cons, contains-none}
use Rattle.world_base.specs.ChangeLaws.{lease-settled}

-- pairs of an attempt and its epoch that are known
abbrev pub Known : Type 1
Known = AttemptId → Epoch → Type 0

-- attempts that may be told that no epoch is left, each with whom is told so
abbrev pub Spent : Type 1
Spent = AttemptId → ActorId → Type 0

-- ---- entries

-- each entry has a known epoch
abbrev pub AreKnown : Known → List Entry → Type 0
AreKnown P [] = Unit {0}
AreKnown P (k ∷ ks) = P k.attempt k.epoch × AreKnown P ks

pub known-each : (P : Known) (ks : List Entry) (k : Entry) → AreKnown P ks → Contains ks k → P k.attempt k.epoch
known-each P [] k h i = absurd (contains-none k i)
known-each P (j ∷ ks) k h i = ⊎_elim (λ same. subst (λ z. P z.attempt z.epoch) same h.0) (λ later. known-each P ks k h.1 later) (contains-cons j ks k i)

pub known-all : (P : Known) (ks : List Entry) → ((k : Entry) → Contains ks k → P k.attempt k.epoch) → AreKnown P ks
known-all P [] each = tt
known-all P (k ∷ ks) each = (each k (Contains-append_left (k ∷ []) ks k (Contains-push [] k)), known-all P ks (λ j i. each j (Contains-append_right (k ∷ []) ks j i)))

known-put : (P : Known) (e : Entry) (ks : List Entry) → P e.attempt e.epoch → AreKnown P ks → AreKnown P (put entry_key e ks)
known-put P e [] own h = (own, tt)
known-put P e (k ∷ ks) own h = by (known-put P e ks own h.1) (is_before (entry_key k) (entry_key e))
  where
    by : AreKnown P (put entry_key e ks) → (b : Bool) → AreKnown P (if b then k ∷ put entry_key e ks else e ∷ k ∷ ks)
    by rest true = (h.0, rest)
    by rest false = (own, h)

known-filter : (P : Known) (p : Entry → Bool) (ks : List Entry) → AreKnown P ks → AreKnown P (filter p ks)
known-filter P p [] h = tt
known-filter P p (k ∷ ks) h = by (known-filter P p ks h.1) (p k)
  where
    by : AreKnown P (filter p ks) → (b : Bool) → AreKnown P (if b then k ∷ filter p ks else filter p ks)
    by rest true = (h.0, rest)
    by rest false = rest

known-map : (P : Known) (f : Entry → Entry) → ((k : Entry) → ((f k).attempt ≡ k.attempt) × ((f k).epoch ≡ k.epoch)) → (ks : List Entry) → AreKnown P ks → AreKnown P (map f ks)
known-map P f same [] h = tt
known-map P f same (k ∷ ks) h = (subst (λ x. P x (f k).epoch) (sym (same k).0) (subst (λ e. P k.attempt e) (sym (same k).1) h.0), known-map P f same ks h.1)

-- the entry of an attempt has a known epoch of it
pub known-found : (P : Known) (a : AttemptId) (ks : List Entry) (e : Entry) → AreKnown P ks → find (is_entry_of a) ks ≡ Some e → P a e.epoch
known-found P a [] e h f = let no : ⊥ = cc in absurd no
known-found P a (k ∷ ks) e h f = by (is_entry_of a k) refl (λ g. known-found P a ks e h.1 g) f
  where
    by : (b : Bool) → is_entry_of a k ≡ b → (find (is_entry_of a) ks ≡ Some e → P a e.epoch) → (if b then Some k else find (is_entry_of a) ks) ≡ Some e → P a e.epoch
    by true is ih g = let same : k ≡ e = cc in subst (λ z. P a z.epoch) same (subst (λ x. P x k.epoch) (same-attempt k.attempt a is) h.0)
    by false is ih g = ih g

pub known-led : (P : Known) (p : Entry → Bool) (a : AttemptId) (ks : List Entry) (e : Entry) → AreKnown P ks → find (is_entry_of a) (filter p ks) ≡ Some e → P a e.epoch
known-led P p a ks e h f = known-found P a (filter p ks) e (known-filter P p ks h) f

-- ---- changes

committed-same : (a : AttemptId) (k : Entry) → ((committed_at a k).attempt ≡ k.attempt) × ((committed_at a k).epoch ≡ k.epoch)
committed-same a k = by (same_attempt k.attempt a)
  where
    by : (b : Bool) → ((if b then record k { committed = true } else k).attempt ≡ k.attempt) × ((if b then record k { committed = true } else k).epoch ≡ k.epoch)
    by true = (refl, refl)
    by false = (refl, refl)

confirmed-same : (a : AttemptId) (t : ℕ) (k : Entry) → ((confirmed_at a t k).attempt ≡ k.attempt) × ((confirmed_at a t k).epoch ≡ k.epoch)
confirmed-same a t k = by (same_attempt k.attempt a)
  where
    by : (b : Bool) → ((if b then record k { confirmed = bit_or k.confirmed (2 ^ t) } else k).attempt ≡ k.attempt) × ((if b then record k { confirmed = bit_or k.confirmed (2 ^ t) } else k).epoch ≡ k.epoch)
    by true = (refl, refl)
    by false = (refl, refl)

-- a change that may be made where these are known: it lowers no lease, and stores no entry but one with a known epoch
abbrev pub ChangeFits : Known → Kept → Change → Type 0
ChangeFits P k (Extends ticks) = k.durable.lease ≤ ticks
ChangeFits P k (Prepares e ws) = P e.attempt e.epoch
ChangeFits P k (Settles a step) = Unit {0}
ChangeFits P k (Freezes f z) = ⊥
ChangeFits P k (Creates f z) = ⊥
ChangeFits P k (Prunes f z n) = ⊥

abbrev pub StepFits : Known → Kept → Option Change → Type 0
StepFits P k None = Unit {0}
StepFits P k (Some c) = ChangeFits P k c

-- what is kept stands so: the lease is at least this, and each entry has a known epoch
pub record Stays (P : Known) (low : ℕ) (k : Kept) : Type 0 where
  pub lease : low ≤ k.durable.lease
  pub entries : AreKnown P k.durable.entries

known-settled : (P : Known) (a : AttemptId) (step : Settle) (d : Durable) → AreKnown P d.entries → AreKnown P (settled a step d).entries
unfolding settled
known-settled P a Commit d h = known-map P (committed_at a) (committed-same a) d.entries h
known-settled P a Abort d h = known-filter P (is_other a) d.entries h
known-settled P a (Confirm t) d h = known-map P (confirmed_at a t) (confirmed-same a t) d.entries h
known-settled P a Forget d h = known-filter P (is_other a) d.entries h

made-stays : (P : Known) (low : ℕ) (c : Change) (k l : Kept) → ChangeFits P k c → l.durable ≡ made c k.durable → Stays P low k → Stays P low l × (k.durable.lease ≤ l.durable.lease)
unfolding leased prepared
made-stays P low (Extends ticks) k l fits is s =
    let now : l.durable.lease ≡ ticks = ap (λ d. d.lease) is in
    let old : low ≤ k.durable.lease = s.lease in
    let up : k.durable.lease ≤ ticks = fits in
    (record { lease = omega (arith, now, old, up); entries = subst (λ d. AreKnown P d.entries) (sym is) s.entries }, omega (arith, now, up))
made-stays P low (Prepares e ws) k l fits is s =
    let now : l.durable.lease ≡ k.durable.lease = ap (λ d. d.lease) is in
    let old : low ≤ k.durable.lease = s.lease in
    (record { lease = omega (arith, now, old); entries = subst (λ d. AreKnown P d.entries) (sym is) (known-put P e k.durable.entries fits s.entries) }, omega (arith, now))
made-stays P low (Settles a step) k l fits is s =
    let now : l.durable.lease ≡ k.durable.lease = ap (λ d. d.lease) is ∙ lease-settled a step k.durable in
    let old : low ≤ k.durable.lease = s.lease in
    (record { lease = omega (arith, now, old); entries = subst (λ d. AreKnown P d.entries) (sym is) (known-settled P a step k.durable s.entries) }, omega (arith, now))
made-stays P low (Freezes f z) k l fits is s = absurd fits
made-stays P low (Creates f z) k l fits is s = absurd fits
made-stays P low (Prunes f z n) k l fits is s = absurd fits

-- a step that fits leaves it so, and lowers no lease
pub step-stays : (P : Known) (low : ℕ) (o : Option Change) (k l : Kept) → StepFits P k o → Steps o k l → Stays P low k → Stays P low l × (k.durable.lease ≤ l.durable.lease)
step-stays P low None k l fits same s = (subst (Stays P low) (sym same) s, subst (λ z. k.durable.lease ≤ z.durable.lease) (sym same) (omega arith))
step-stays P low (Some c) k l fits st s = made-stays P low c k l fits st.0 s

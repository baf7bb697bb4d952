-- A client that goes on with its attempt, or begins one, keeps what is said of epochs.
use Rattle.std.specs.Prelude.{ℕ, ◌≡◌, ◌≤◌, ◌<◌, ◌++◌, ◌⊎◌, true, false, List, Contains, slice_get, Option, Some, None, refl}
use Rattle.std.proofs.Common.{sym, ◌∙◌, ap, subst, inl, inr, ⊎_elim, arith}
use Rattle.std.proofs.Math.ListN.{set}
use Rattle.std.proofs.lemmas.List.Elements.{Contains-append_cases}
use Rattle.base_types.specs.declared.epoch.Epoch.{Epoch}
use Rattle.base_types.specs.declared.id.AttemptId.{AttemptId}
use Rattle.base_messages.specs.declared.message.Post.{Post}
use Rattle.daos_model.specs.Transactions.{attempt_ops}
use Rattle.world_base.specs.declared.client.ClientState.{ClientState}
use Rattle.world_base.specs.declared.client.Present.{Present}
use Rattle.world_base.specs.declared.letter.Letter.{Letter}
use Rattle.world_base.specs.declared.world.World.{World}
use Rattle.world_base.specs.ClientTurns.{attempt_id, known_epoch, listed}
use Rattle.world_base.specs.Events.{Rules, client_plan, with_client}
use Rattle.world_base.specs.Letters.{client, letter_of, letters_of, target}
use Rattle.world_base.specs.StepLaws.{set-here, set-there}
use Rattle.world_base.specs.Steps.{without}
use Rattle.world_letters.specs.clients.Snapshots.{is_at_snapshot}
use Rattle.world_letters.specs.epochs.ClientLaws.{after_quiet, same-id}
use Rattle.world_letters.specs.epochs.Epochs.{AsksEpoch, AsksFirst, Epochs, GoesWith, IsAt, IsEpochOf, IsOwn, IsPast, IsReadOf, IsSeen, IsTold, IsUnissued, LacksEpoch, answers_undated, is_making, issuer_of}
use Rattle.world_letters.specs.epochs.Lists.{at-set, contains-none, contains-one, one-value, same-number}
use Rattle.world_making.specs.dates.Targets.{epoch-stays}

-- ---- snapshots that a client knows

-- a client goes on knowing snapshots at their epochs
abbrev pub KeepsKnown : ClientState → ClientState → Type 0
KeepsKnown c d = (name : List ℕ) (e : Epoch) → known_epoch c.known name ≡ Some e → known_epoch d.known name ≡ Some e

-- so an attempt's epoch stays so
pub epoch-moves : (r : Rules) (w : World) (n : ℕ) (c d : ClientState) → slice_get w.clients n ≡ Some c → KeepsKnown c d → (x : AttemptId) (e : Epoch) → IsEpochOf r w x e → IsEpochOf r (with_client n d w) x e
epoch-moves r w n c d here keeps x e (IsOwn i) = IsOwn i
epoch-moves r w n c d here keeps x e (IsSeen s) = by (same-number x.client n)
  where
    by : (x.client ≡ n) ⊎ ((x.client ≡ n) → ⊥) → IsEpochOf r (with_client n d w) x e
    by (inl same) =
        let is : s.c ≡ c = one-value (slice_get w.clients n) s.c c (subst (λ k. slice_get w.clients k ≡ Some s.c) same s.here) here in
        IsSeen (record {
          name = s.name;
          reads = s.reads;
          c = d;
          here = subst (λ k. slice_get (set w.clients n d) k ≡ Some d) (sym same) (set-here w.clients n c d here);
          known = keeps s.name e (subst (λ z. known_epoch z.known s.name ≡ Some e) is s.known);
        })
    by (inr off) = IsSeen (record { name = s.name; reads = s.reads; c = s.c; here = set-there w.clients n x.client d off ∙ s.here; known = s.known })

-- ---- one client among others

pub at-other : (r : Rules) (clients : List ClientState) (n : ℕ) (d : ClientState) (x : AttemptId) → ((x.client ≡ n) → ⊥) → IsAt r clients x → IsAt r (set clients n d) x
at-other r clients n d x off p = record { c = p.c; a = p.a; here = set-there clients n x.client d off ∙ p.here; at = p.at; own = p.own }

pub at-other-before : (r : Rules) (clients : List ClientState) (n : ℕ) (d : ClientState) (x : AttemptId) → ((x.client ≡ n) → ⊥) → IsAt r (set clients n d) x → IsAt r clients x
at-other-before r clients n d x off p = record { c = p.c; a = p.a; here = sym (set-there clients n x.client d off) ∙ p.here; at = p.at; own = p.own }

-- ---- a letter that is taken

pub fewer-dates : (r : Rules) (top : ℕ) (w : World) (rest : List Letter) → ((l : Letter) → Contains rest l → Contains w.messages l) → Epochs r top w → Epochs r top (without w rest)
fewer-dates r top w rest among E = record {
  few = E.few;
  one = E.one;
  apart = E.apart;
  above = E.above;
  own = E.own;
  issued_by = E.issued_by;
  issuer = E.issuer;
  leased = E.leased;
  ticks = E.ticks;
  line = E.line;
  fresh = λ l x k h. E.fresh l x k (among l h);
  asker = λ l x k h. E.asker l x k (among l h);
  asked = λ l x k h. E.asked l x k (among l h);
  lacking = λ l x h. E.lacking l x (among l h);
  dated = λ l h. E.dated l (among l h);
  borne = λ l x e h g. same x e (E.borne l x e (among l h) g);
  entered = E.entered;
  parked = λ t s p at i. let h = E.parked t s p at i in (record { x = h.0.x; e = h.0.e; bears = h.0.bears; known = same h.0.x h.0.e h.0.known }, h.1);
  reads = λ l h. E.reads l (among l h);
  known = λ n c a e here at is. same (attempt_id (client_plan r n) c a) e (E.known n c a e here at is);
  shown = λ a e h is. same a.id e (E.shown a e h is);
  tracked = E.tracked;
  seen = E.seen;
  unasked = E.unasked;
  unknown = E.unknown;
  unmade = E.unmade;
  trackers = E.trackers;
  rises = E.rises;
  same_command = E.same_command;
  past = E.past;
  distinct = E.distinct;
  risen = E.risen;
}
  where
    same : (x : AttemptId) (e : Epoch) → IsEpochOf r w x e → IsEpochOf r (without w rest) x e
    same = epoch-stays r w (without w rest) refl (λ x e i. i)

-- ---- a client that goes on

-- what a client may send where it is so then: a request of its attempt, with the epoch that it knows, or none where there is none
pub record SendsDated (r : Rules) (top : ℕ) (u : World) (n : ℕ) (q : Post) : Type 0 where
  pub asks : (x : AttemptId) (k : Epoch) → AsksEpoch q.message x k → (x.client ≡ n) × IsAt r u.clients x × IsUnissued u x × (top ≤ k.0) × ((e : ℕ) → IsTold r u x.client e → e ≤ k.0) × (is_at_snapshot r x ≡ false)
  pub first : (x : AttemptId) (k : Epoch) → AsksEpoch q.message x k → q.to ≡ target (issuer_of r.script x)
  pub lacks : (x : AttemptId) → LacksEpoch q.message x → ⊥
  pub bears : (x : AttemptId) (e : Epoch) → GoesWith q.message x e → IsEpochOf r u x e
  pub reads : IsReadOf r q.message
  pub dated : answers_undated q.message ≡ false

abbrev pub SendsIfAny : Rules → ℕ → World → ℕ → Option Post → Type 0
SendsIfAny r top u n None = Unit {0}
SendsIfAny r top u n (Some q) = SendsDated r top u n q

-- what is said of the attempt that a client is at
pub record PresentDated (r : Rules) (u : World) (n : ℕ) (d : ClientState) (b : Present) : Type 0 where
  pub known : (e : Epoch) → b.epoch ≡ Some e → IsEpochOf r u (attempt_id (client_plan r n) d b) e
  pub tracked : (e : Epoch) → b.epoch ≡ Some e → is_at_snapshot r (attempt_id (client_plan r n) d b) ≡ false → e.0 ≤ d.tracker.0
  pub seen : b.epoch ≡ None → is_at_snapshot r (attempt_id (client_plan r n) d b) ≡ false
  pub unasked : b.epoch ≡ None → AsksFirst (attempt_ops r.script (attempt_id (client_plan r n) d b)) b
  pub unknown : b.waits ≡ false → b.epoch ≡ None → IsUnissued u (attempt_id (client_plan r n) d b)
  pub unmade : b.waits ≡ false → is_making r (attempt_id (client_plan r n) d b) ≡ true → b.epoch ≡ None

-- as it is said
pub present-dated : (r : Rules) (top : ℕ) (w : World) (n : ℕ) (c : ClientState) (a : Present) → Epochs r top w → slice_get w.clients n ≡ Some c → c.present ≡ Some a → PresentDated r w n c a
present-dated r top w n c a E here at = record {
  known = λ e is. E.known n c a e here at is;
  tracked = λ e is off. E.tracked n c a e here at is off;
  seen = E.seen n c a here at;
  unasked = E.unasked n c a here at;
  unknown = E.unknown n c a here at;
  unmade = E.unmade n c a here at;
}

-- a client goes on with its attempt, or begins one that has no epoch
pub record QuietDated (r : Rules) (w : World) (n : ℕ) (c d : ClientState) : Type 0 where
  pub here : slice_get w.clients n ≡ Some c
  pub tracker : c.tracker.0 ≤ d.tracker.0
  pub command : d.command ≡ c.command
  pub keeps : KeepsKnown c d
  pub stays : (a : Present) → c.present ≡ Some a → (b : Present) × (d.present ≡ Some b) × (b.attempt ≡ a.attempt)
  pub was : (b : Present) → d.present ≡ Some b → ((a : Present) × (c.present ≡ Some a) × (a.attempt ≡ b.attempt)) ⊎ IsUnissued w (attempt_id (client_plan r n) d b)
  pub present : (b : Present) → d.present ≡ Some b → PresentDated r (with_client n d w) n d b

sent-one : (n : ℕ) (post : Option Post) (l : Letter) → Contains (letters_of (client n) (listed post)) l → (p : Post) × (post ≡ Some p) × (letter_of (client n) p ≡ l)
sent-one n None l h = absurd (contains-none l h)
sent-one n (Some p) l h = (p, refl, contains-one (letter_of (client n) p) l h)

module _ (r : Rules) (top : ℕ) (w : World) (n : ℕ) (c d : ClientState) (post : Option Post) (E : Epochs r top w) (Q : QuietDated r w n c d) (S : SendsIfAny r top (with_client n d w) n post) where
  abbrev u : World
  u = with_client n d w

  abbrev v : World
  v = after_quiet w n post d

  then-same : (x : AttemptId) (e : Epoch) → IsEpochOf r u x e → IsEpochOf r v x e
  then-same = epoch-stays r u v refl (λ x e i. i)

  of-old : (x : AttemptId) (e : Epoch) → IsEpochOf r w x e → IsEpochOf r v x e
  of-old x e k = then-same x e (epoch-moves r w n c d Q.here Q.keeps x e k)

  some-sends : (o : Option Post) (p : Post) → o ≡ Some p → SendsIfAny r top u n o → SendsDated r top u n p
  some-sends o p e s = subst (λ q. SendsIfAny r top u n q) e s

  split : (l : Letter) → Contains (w.messages ++ letters_of (client n) (listed post)) l → Contains w.messages l ⊎ ((p : Post) × (letter_of (client n) p ≡ l) × SendsDated r top u n p)
  split l h = ⊎_elim (λ o. inl o) (λ k. let s = sent-one n post l k in inr (s.0, s.2, some-sends post s.0 s.1 S)) (Contains-append_cases w.messages (letters_of (client n) (listed post)) l h)

  stays-at : (x : AttemptId) → IsAt r w.clients x → IsAt r (set w.clients n d) x
  stays-at x p = by (same-number x.client n)
    where
      by : (x.client ≡ n) ⊎ ((x.client ≡ n) → ⊥) → IsAt r (set w.clients n d) x
      by (inl same) =
          let is : p.c ≡ c = one-value (slice_get w.clients n) p.c c (subst (λ k. slice_get w.clients k ≡ Some p.c) same p.here) Q.here in
          let b : (b : Present) × (d.present ≡ Some b) × (b.attempt ≡ p.a.attempt) = Q.stays p.a (subst (λ z. z.present ≡ Some p.a) is p.at) in
          record {
            c = d;
            a = b.0;
            here = subst (λ k. slice_get (set w.clients n d) k ≡ Some d) (sym same) (set-here w.clients n c d Q.here);
            at = b.1;
            own = same-id r x.client p.c d p.a b.0 (Q.command ∙ ap (λ z. z.command) (sym is)) b.2 ∙ p.own;
          }
      by (inr off) = at-other r w.clients n d x off p

  was-at : (x : AttemptId) → IsAt r (set w.clients n d) x → IsAt r w.clients x ⊎ IsUnissued w x
  was-at x p = by (same-number x.client n)
    where
      by : (x.client ≡ n) ⊎ ((x.client ≡ n) → ⊥) → IsAt r w.clients x ⊎ IsUnissued w x
      by (inr off) = inl (at-other-before r w.clients n d x off p)
      by (inl same) = then (Q.was p.a (subst (λ z. z.present ≡ Some p.a) is p.at))
        where
          is : p.c ≡ d
          is = one-value (slice_get (set w.clients n d) n) p.c d (subst (λ k. slice_get (set w.clients n d) k ≡ Some p.c) same p.here) (set-here w.clients n c d Q.here)

          own : attempt_id (client_plan r x.client) d p.a ≡ x
          own = subst (λ z. attempt_id (client_plan r x.client) z p.a ≡ x) is p.own

          then : ((a : Present) × (c.present ≡ Some a) × (a.attempt ≡ p.a.attempt)) ⊎ IsUnissued w (attempt_id (client_plan r n) d p.a) → IsAt r w.clients x ⊎ IsUnissued w x
          then (inl k) = inl (record {
            c = c;
            a = k.0;
            here = subst (λ m. slice_get w.clients m ≡ Some c) (sym same) Q.here;
            at = k.1;
            own = same-id r x.client d c p.a k.0 (sym Q.command) k.2 ∙ own;
          })
          then (inr z) = inr (subst (λ y. IsUnissued w y) own (subst (λ m. IsUnissued w (attempt_id (client_plan r m) d p.a)) (sym same) z))

  tracker-here : (top ≤ d.tracker.0) × ((e : ℕ) → IsTold r w n e → e ≤ d.tracker.0)
  tracker-here =
      let k : (top ≤ c.tracker.0) × ((e : ℕ) → IsTold r w n e → e ≤ c.tracker.0) = E.trackers n c Q.here in
      let up : c.tracker.0 ≤ d.tracker.0 = Q.tracker in
      let low : top ≤ c.tracker.0 = k.0 in
      (omega (arith, low, up), λ e t. let l : e ≤ c.tracker.0 = k.1 e t in omega (arith, l, up))

  still-past : (x : AttemptId) → IsPast c x → IsPast d x
  still-past x (inl k) = inl (subst (λ m. x.command < m) (sym Q.command) k)
  still-past x (inr k) = let b = Q.stays k.0 k.1 in inr (b.0, b.1, k.2 ∙ sym Q.command, subst (λ m. x.attempt < m) (sym b.2) k.3)

  pub quiet-dates : Epochs r top v
  quiet-dates = record {
    few = E.few;
    one = E.one;
    apart = E.apart;
    above = E.above;
    own = E.own;
    issued_by = E.issued_by;
    issuer = E.issuer;
    leased = E.leased;
    ticks = E.ticks;
    line = λ x e h. ⊎_elim (λ p. inl (stays-at x p)) (λ k. inr k) (E.line x e h);
    fresh = λ l x k h a. ⊎_elim
        (λ o. let f = E.fresh l x k o a in (stays-at x f.0, f.1, f.2, f.3, f.4))
        (λ q. let f = q.2.asks x k (subst (λ m. AsksEpoch m x k) (sym (ap (λ z. z.message) q.1)) a) in (f.1, f.2, f.3, f.4, f.5))
        (split l h);
    asker = λ l x k h a. ⊎_elim
        (λ o. E.asker l x k o a)
        (λ q. let f = q.2.asks x k (subst (λ m. AsksEpoch m x k) (sym (ap (λ z. z.message) q.1)) a) in sym (ap (λ z. z.from) q.1) ∙ ap (λ m. client m) (sym f.0))
        (split l h);
    asked = λ l x k h a. ⊎_elim
        (λ o. E.asked l x k o a)
        (λ q. sym (ap (λ z. z.to) q.1) ∙ q.2.first x k (subst (λ m. AsksEpoch m x k) (sym (ap (λ z. z.message) q.1)) a))
        (split l h);
    lacking = λ l x h a. ⊎_elim (λ o. E.lacking l x o a) (λ q. absurd (q.2.lacks x (subst (λ m. LacksEpoch m x) (sym (ap (λ z. z.message) q.1)) a))) (split l h);
    borne = λ l x e h a. ⊎_elim (λ o. of-old x e (E.borne l x e o a)) (λ q. then-same x e (q.2.bears x e (subst (λ m. GoesWith m x e) (sym (ap (λ z. z.message) q.1)) a))) (split l h);
    entered = E.entered;
    parked = λ t s p at i. let h = E.parked t s p at i in (record { x = h.0.x; e = h.0.e; bears = h.0.bears; known = of-old h.0.x h.0.e h.0.known }, h.1);
    reads = λ l h. ⊎_elim (λ o. E.reads l o) (λ q. subst (λ m. IsReadOf r m) (ap (λ z. z.message) q.1) q.2.reads) (split l h);
    dated = λ l h. ⊎_elim (λ o. E.dated l o) (λ q. subst (λ m. answers_undated m ≡ false) (ap (λ z. z.message) q.1) q.2.dated) (split l h);
    known = λ m z a e here. at-set w.clients n c d (λ k y. y.present ≡ Some a → a.epoch ≡ Some e → IsEpochOf r v (attempt_id (client_plan r k) y a) e) Q.here (λ at is. then-same (attempt_id (client_plan r n) d a) e ((Q.present a at).known e is))
        (λ k y off at is' is. of-old (attempt_id (client_plan r k) y a) e (E.known k y a e at is' is)) m z here;
    shown = λ a e h is. of-old a.id e (E.shown a e h is);
    tracked = λ m z a e here. at-set w.clients n c d (λ k y. y.present ≡ Some a → a.epoch ≡ Some e → is_at_snapshot r (attempt_id (client_plan r k) y a) ≡ false → e.0 ≤ y.tracker.0) Q.here (λ at. (Q.present a at).tracked e) (λ k y off at. E.tracked k y a e at) m z here;
    seen = λ m z a here. at-set w.clients n c d (λ k y. y.present ≡ Some a → a.epoch ≡ None → is_at_snapshot r (attempt_id (client_plan r k) y a) ≡ false) Q.here (λ at. (Q.present a at).seen) (λ k y off at. E.seen k y a at) m z here;
    unasked = λ m z a here. at-set w.clients n c d (λ k y. y.present ≡ Some a → a.epoch ≡ None → AsksFirst (attempt_ops r.script (attempt_id (client_plan r k) y a)) a) Q.here (λ at. (Q.present a at).unasked) (λ k y off at. E.unasked k y a at) m z here;
    unknown = λ m z a here. at-set w.clients n c d (λ k y. y.present ≡ Some a → a.waits ≡ false → a.epoch ≡ None → IsUnissued w (attempt_id (client_plan r k) y a)) Q.here (λ at. (Q.present a at).unknown) (λ k y off at. E.unknown k y a at) m z here;
    unmade = λ m z a here. at-set w.clients n c d (λ k y. y.present ≡ Some a → a.waits ≡ false → is_making r (attempt_id (client_plan r k) y a) ≡ true → a.epoch ≡ None) Q.here (λ at. (Q.present a at).unmade) (λ k y off at. E.unmade k y a at) m z here;
    trackers = at-set w.clients n c d (λ k y. (top ≤ y.tracker.0) × ((e : ℕ) → IsTold r w k e → e ≤ y.tracker.0)) Q.here tracker-here (λ k y off at. E.trackers k y at);
    rises = λ x e f p h t. ⊎_elim (λ q. E.rises x e f q h t) (λ z. absurd (z e h)) (was-at x p);
    same_command = E.same_command;
    past = λ a z h here. at-set w.clients n c d (λ k y. a.id.client ≡ k → IsPast y a.id) Q.here (λ same. still-past a.id (E.past a c h (subst (λ k. slice_get w.clients k ≡ Some c) (sym same) Q.here)))
        (λ k y off at same. E.past a y h (subst (λ j. slice_get w.clients j ≡ Some y) (sym same) at)) a.id.client z here refl;
    distinct = E.distinct;
    risen = E.risen;
  }

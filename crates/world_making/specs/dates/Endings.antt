-- A client that ends its attempt keeps what is said of epochs.
use Rattle.std.specs.Prelude.{ℕ, ◌≡◌, ◌≤◌, ◌<◌, ◌++◌, ◌⊎◌, not, Bool, true, false, [], ◌∷◌, Contains, is_some, slice_get, Option, Some, None, refl}
use Rattle.std.proofs.Common.{sym, ◌∙◌, ap, subst, inl, inr, ⊎_elim, arith}
use Rattle.std.proofs.Math.ListN.{set}
use Rattle.std.proofs.lemmas.Bool.{eqb-true}
use Rattle.std.proofs.lemmas.List.Elements.{Contains-append_left, Contains-push, Contains-push_cases}
use Rattle.base_types.specs.declared.epoch.Epoch.{Epoch}
use Rattle.base_types.specs.declared.id.AttemptId.{AttemptId}
use Rattle.base_types.specs.declared.report.Attempt.{Attempt}
use Rattle.base_types.specs.declared.report.Line.TheVariants as line
use Rattle.daos_model.specs.Attempts.{has_own_epoch, is_of_client, is_unsure, snapshot_of, tries, tries_of}
use Rattle.daos_model.specs.Order.{EpochIsBelow, IsAfter, IsAfterAll, RisesFrom, told_by}
use Rattle.daos_model.specs.Transactions.{attempt_ops}
use Rattle.world_base.specs.declared.client.ClientState.{ClientState}
use Rattle.world_base.specs.declared.client.Present.{Present}
use Rattle.world_base.specs.declared.letter.Letter.{Letter}
use Rattle.world_base.specs.declared.world.World.{World}
use Rattle.world_base.specs.ClientTurns.{attempt_id}
use Rattle.world_base.specs.Events.{Rules, client_plan, with_client}
use Rattle.world_base.specs.StepLaws.{set-here}
use Rattle.world_letters.specs.clients.Snapshots.{at-same, is_at_snapshot}
use Rattle.world_letters.specs.epochs.ClientLaws.{after_ending}
use Rattle.world_letters.specs.epochs.Epochs.{AsksEpoch, AsksFirst, Epochs, InCause, IsAt, IsEpochOf, IsIssued, IsPast, IsPresent, IsTold, IsUnissued, ItsOwn, Told, is_making}
use Rattle.world_letters.specs.epochs.Lists.{all-each, at-set, contains-filter, each-push, one-value, same-number, tries-push}
use Rattle.world_making.specs.dates.Clients.{KeepsKnown, PresentDated, at-other, at-other-before, epoch-moves}
use Rattle.world_making.specs.dates.OwnLists.{own-push}
use Rattle.world_making.specs.dates.Owning.{own-issued}
use Rattle.world_making.specs.dates.Targets.{epoch-stays}

-- an attempt that reads at no snapshot
pub own-off : (r : Rules) (a : Attempt) → has_own_epoch r.script a ≡ true → is_at_snapshot r a.id ≡ false
own-off r a own = by (is_some (snapshot_of r.script a.id)) refl
  where
    by : (b : Bool) → is_some (snapshot_of r.script a.id) ≡ b → is_at_snapshot r a.id ≡ false
    by false is = is
    by true is = let no : not true ≡ true = ap not (sym is) ∙ own in let bad : ⊥ = cc in absurd bad

-- A client's attempt ends with a line, while no request of it is in flight; or one that it doesn't begin has its line. The client is then past
-- it, and what it is at next has no epoch of its own.
pub record EndingDated (r : Rules) (w : World) (n : ℕ) (c d : ClientState) (now : Attempt) : Type 0 where
  pub here : slice_get w.clients n ≡ Some c
  pub its : now.id.client ≡ n
  pub keeps : KeepsKnown c d
  pub silent : (l : Letter) (x : AttemptId) (k : Epoch) → Contains w.messages l → AsksEpoch l.message x k → (x.client ≡ n) → ⊥
  pub mine : (x : AttemptId) → IsAt r w.clients x → (x.client ≡ n) → now.id ≡ x
  pub shown : (e : Epoch) → now.epoch ≡ Some e → IsEpochOf r w now.id e
  pub present : (e : Epoch) → now.epoch ≡ Some e → IsPresent r w now.id
  pub whole : (e : Epoch) → IsIssued w now.id e → now.epoch ≡ Some e
  pub sure : (e : Epoch) → now.epoch ≡ Some e → has_own_epoch r.script now ≡ true → is_unsure now ≡ false → e.0 ≤ c.tracker.0
  pub told : (e : ℕ) → Contains (told_by now.outcome) e → e ≤ c.tracker.0
  pub tracker : d.tracker ≡ c.tracker
  pub passes : (x : AttemptId) → IsPast c x → IsPast d x
  pub passed : IsPast d now.id
  pub next : (b : Present) → d.present ≡ Some b → PresentDated r (with_client n d w) n d b
  pub unissued : (b : Present) → d.present ≡ Some b → IsUnissued w (attempt_id (client_plan r n) d b)

module _ (r : Rules) (top : ℕ) (w : World) (n : ℕ) (c d : ClientState) (now : Attempt) (E : Epochs r top w) (Q : EndingDated r w n c d now) where
  abbrev u : World
  u = with_client n d w

  abbrev v : World
  v = after_ending w n now d

  then-same : (x : AttemptId) (e : Epoch) → IsEpochOf r u x e → IsEpochOf r v x e
  then-same = epoch-stays r u v refl (λ x e i. i)

  of-old : (x : AttemptId) (e : Epoch) → IsEpochOf r w x e → IsEpochOf r v x e
  of-old x e k = then-same x e (epoch-moves r w n c d Q.here Q.keeps x e k)

  more : (b : Attempt) → Contains (tries w.lines) b → Contains (tries (w.lines ++ line.Try now ∷ [])) b
  more b h = subst (λ bs. Contains bs b) (sym (tries-push w.lines now)) (Contains-append_left (tries w.lines) (now ∷ []) b h)

  cases : (b : Attempt) → Contains (tries (w.lines ++ line.Try now ∷ [])) b → Contains (tries w.lines) b ⊎ (now ≡ b)
  cases b h = Contains-push_cases (tries w.lines) now b (subst (λ bs. Contains bs b) (tries-push w.lines now) h)

  line-of : (x : AttemptId) (e : Epoch) → IsIssued w x e → IsAt r w.clients x → (x.client ≡ n) ⊎ ((x.client ≡ n) → ⊥)
      → IsAt r (set w.clients n d) x ⊎ ((b : Attempt) × Contains (tries (w.lines ++ line.Try now ∷ [])) b × (b.id ≡ x) × (b.epoch ≡ Some e))
  line-of x e h p (inl same) =
      let own : now.id ≡ x = Q.mine x p same in
      inr (now, subst (λ bs. Contains bs now) (sym (tries-push w.lines now)) (Contains-push (tries w.lines) now), own, Q.whole e (subst (λ y. IsIssued w y e) (sym own) h))
  line-of x e h p (inr off) = inl (at-other r w.clients n d x off p)

  told-other : (m e : ℕ) → ((m ≡ n) → ⊥) → Told r.script (w.lines ++ line.Try now ∷ []) m e → Told r.script w.lines m e
  told-other m e off (ItsOwn b h client' own has known sure is) =
      ⊎_elim (λ o. ItsOwn b o client' own has known sure is) (λ same. absurd (off (sym client' ∙ ap (λ q. q.id.client) (sym same) ∙ Q.its))) (cases b h)
  told-other m e off (InCause b h client' among) =
      ⊎_elim (λ o. InCause b o client' among) (λ same. absurd (off (sym client' ∙ ap (λ q. q.id.client) (sym same) ∙ Q.its))) (cases b h)

  told-here : (m e : ℕ) → Told r.script (w.lines ++ line.Try now ∷ []) m e → Told r.script w.lines m e ⊎ (e ≤ c.tracker.0)
  told-here m e (ItsOwn b h client' own has known sure is) =
      ⊎_elim (λ o. inl (ItsOwn b o client' own has known sure is))
      (λ same. inr (subst (λ k. k ≤ c.tracker.0) is (Q.sure own (ap (λ q. q.epoch) same ∙ has) (ap (has_own_epoch r.script) same ∙ known) (ap is_unsure same ∙ sure))))
      (cases b h)
  told-here m e (InCause b h client' among) =
      ⊎_elim (λ o. inl (InCause b o client' among)) (λ same. inr (Q.told e (subst (λ q. Contains (told_by q.outcome) e) (sym same) among))) (cases b h)

  tracker-here : (top ≤ d.tracker.0) × ((e : ℕ) → Told r.script (w.lines ++ line.Try now ∷ []) n e → e ≤ d.tracker.0)
  tracker-here =
      let k : (top ≤ c.tracker.0) × ((e : ℕ) → IsTold r w n e → e ≤ c.tracker.0) = E.trackers n c Q.here in
      subst (λ z. (top ≤ z.0) × ((e : ℕ) → Told r.script (w.lines ++ line.Try now ∷ []) n e → e ≤ z.0)) (sym Q.tracker) (k.0, λ e t. ⊎_elim (k.1 e) (λ l. l) (told-here n e t))

  rising : (x : AttemptId) (e : Epoch) (f : ℕ) → IsAt r (set w.clients n d) x → IsIssued w x e → Told r.script (w.lines ++ line.Try now ∷ []) x.client f → (x.client ≡ n) ⊎ ((x.client ≡ n) → ⊥) → f < e.0
  rising x e f p h t (inr off) = E.rises x e f (at-other-before r w.clients n d x off p) h (told-other x.client f off t)
  rising x e f p h t (inl same) =
      let is : p.c ≡ d = one-value (slice_get (set w.clients n d) n) p.c d (subst (λ k. slice_get (set w.clients n d) k ≡ Some p.c) same p.here) (set-here w.clients n c d Q.here) in
      let own : attempt_id (client_plan r n) d p.a ≡ x = ap (λ k. attempt_id (client_plan r k) d p.a) (sym same) ∙ ap (λ z. attempt_id (client_plan r x.client) z p.a) (sym is) ∙ p.own in
      absurd (Q.unissued p.a (subst (λ z. z.present ≡ Some p.a) is p.at) e (subst (λ y. IsIssued w y e) (sym own) h))

  past-here : (b : Attempt) → b.id.client ≡ n → Contains (tries w.lines) b ⊎ (now ≡ b) → IsPast d b.id
  past-here b same (inl o) = Q.passes b.id (E.past b c o (subst (λ k. slice_get w.clients k ≡ Some c) (sym same) Q.here))
  past-here b same (inr is) = subst (λ q. IsPast d q.id) is Q.passed

  -- ---- the line among the lines before it

  -- an earlier line of the client's
  earlier : (b : Attempt) → Contains (tries_of now.id.client w.lines) b → Contains (tries w.lines) b × (b.id.client ≡ now.id.client)
  earlier b h = let k = contains-filter (is_of_client now.id.client) (tries w.lines) b h in (k.0, eqb-true b.id.client now.id.client k.1)

  before-now : IsPresent r w now.id → (b : Attempt) → Contains (tries w.lines) b → b.id.client ≡ now.id.client → b.id.command ≡ now.id.command → b.id.attempt < now.id.attempt
  before-now p b h client' command = by (E.past b p.c h (subst (λ k. slice_get w.clients k ≡ Some p.c) (sym client') p.here))
    where
      place : p.c.command ≡ now.id.command
      place = ap (λ z. z.command) p.own

      number : p.a.attempt ≡ now.id.attempt
      number = ap (λ z. z.attempt) p.own

      by : IsPast p.c b.id → b.id.attempt < now.id.attempt
      by (inl k) = absurd (omega (arith, k, command, place))
      by (inr k) = let one : k.0.attempt ≡ p.a.attempt = ap (λ z. z.attempt) (one-value p.c.present k.0 p.a k.1 p.at) in let low : b.id.attempt < k.0.attempt = k.3 in omega (arith, one, low, number)

  now-issued : (e : Epoch) → has_own_epoch r.script now ≡ true → now.epoch ≡ Some e → IsIssued w now.id e
  now-issued e own is = own-issued r w now.id e (own-off r now own) (Q.shown e is)

  shown-issued : (b : Attempt) (f : Epoch) → Contains (tries w.lines) b → is_at_snapshot r b.id ≡ false → b.epoch ≡ Some f → IsIssued w b.id f
  shown-issued b f h off is = own-issued r w b.id f off (E.shown b f h is)

  -- no line before of an attempt with an epoch of its own has this one
  own-only : (e : Epoch) → has_own_epoch r.script now ≡ true → now.epoch ≡ Some e → (b : Attempt) (f : Epoch) → Contains (tries w.lines) b → has_own_epoch r.script b ≡ true → b.epoch ≡ Some f → (e.0 ≡ f.0) → ⊥
  own-only e own is b f h own' known same =
      let one : now.id ≡ b.id = E.apart now.id b.id e (now-issued e own is) (subst (λ g. IsIssued w b.id g) (ap epoch-of (sym same)) (shown-issued b f h (own-off r b own') known)) in
      let number : now.id.attempt ≡ b.id.attempt = ap (λ y. y.attempt) one in
      let low : b.id.attempt < now.id.attempt = before-now (Q.present e is) b h (ap (λ y. y.client) (sym one)) (ap (λ y. y.command) (sym one)) in
      omega (arith, number, low)
    where
      epoch-of : ℕ → Epoch
      epoch-of k = record { 0 = k }

  after : (e : Epoch) → has_own_epoch r.script now ≡ true → now.epoch ≡ Some e → (b : Attempt) → Contains (tries_of now.id.client w.lines) b → IsAfter r.script e.0 now b
  after e own is b h = record {
    command = λ same. below-command b.epoch refl same;
    sure = λ has known. below-sure b.epoch refl has known;
    told = all-each (λ f. f < e.0) (told_by b.outcome) (λ f k. E.rises now.id e f (Q.present e is) (now-issued e own is) (InCause b (earlier b h).0 (earlier b h).1 k));
  }
    where
      below-command : (o : Option Epoch) → b.epoch ≡ o → b.id.command ≡ now.id.command → EpochIsBelow e.0 o
      below-command None has same = tt
      below-command (Some f) has same =
          let off : is_at_snapshot r b.id ≡ false = at-same r b.id now.id (earlier b h).1 same ∙ own-off r now own in
          E.same_command now.id b.id e f (now-issued e own is) (shown-issued b f (earlier b h).0 off has) (sym (earlier b h).1) (sym same) (before-now (Q.present e is) b (earlier b h).0 (earlier b h).1 same)

      below-sure : (o : Option Epoch) → b.epoch ≡ o → has_own_epoch r.script b ≡ true → is_unsure b ≡ false → EpochIsBelow e.0 o
      below-sure None has own' known = tt
      below-sure (Some f) has own' known = E.rises now.id e f.0 (Q.present e is) (now-issued e own is) (ItsOwn b (earlier b h).0 (earlier b h).1 f has own' known refl)

  after-all : has_own_epoch r.script now ≡ true → (o : Option Epoch) → now.epoch ≡ o → IsAfterAll r.script now o (tries_of now.id.client w.lines)
  after-all own None is = tt
  after-all own (Some e) is = all-each (IsAfter r.script e.0 now) (tries_of now.id.client w.lines) (after e own is)

  pub ending-dates : Epochs r top v
  ending-dates = record {
    few = E.few;
    one = E.one;
    apart = E.apart;
    above = E.above;
    own = E.own;
    issued_by = E.issued_by;
    issuer = E.issuer;
    leased = E.leased;
    ticks = E.ticks;
    line = λ x e h. ⊎_elim (λ p. line-of x e h p (same-number x.client n)) (λ k. inr (k.0, more k.0 k.1, k.2, k.3)) (E.line x e h);
    fresh = λ l x k h q. let f = E.fresh l x k h q in
        let off : (x.client ≡ n) → ⊥ = Q.silent l x k h q in
        (at-other r w.clients n d x off f.0, f.1, f.2, λ e t. f.3 e (told-other x.client e off t), f.4);
    asker = E.asker;
    asked = E.asked;
    lacking = E.lacking;
    dated = E.dated;
    borne = λ l x e h g. of-old x e (E.borne l x e h g);
    entered = E.entered;
    parked = λ t s p at i. let h = E.parked t s p at i in (record { x = h.0.x; e = h.0.e; bears = h.0.bears; known = of-old h.0.x h.0.e h.0.known }, h.1);
    reads = E.reads;
    known = λ m z b e here. at-set w.clients n c d (λ k y. y.present ≡ Some b → b.epoch ≡ Some e → IsEpochOf r v (attempt_id (client_plan r k) y b) e) Q.here (λ at is. then-same (attempt_id (client_plan r n) d b) e ((Q.next b at).known e is))
        (λ k y off at is' is. of-old (attempt_id (client_plan r k) y b) e (E.known k y b e at is' is)) m z here;
    shown = λ b e h is. ⊎_elim (λ o. of-old b.id e (E.shown b e o is)) (λ same. subst (λ q. IsEpochOf r v q.id e) same (of-old now.id e (Q.shown e (ap (λ q. q.epoch) same ∙ is)))) (cases b h);
    tracked = λ m z b e here. at-set w.clients n c d (λ k y. y.present ≡ Some b → b.epoch ≡ Some e → is_at_snapshot r (attempt_id (client_plan r k) y b) ≡ false → e.0 ≤ y.tracker.0) Q.here (λ at. (Q.next b at).tracked e) (λ k y off at. E.tracked k y b e at) m z here;
    seen = λ m z b here. at-set w.clients n c d (λ k y. y.present ≡ Some b → b.epoch ≡ None → is_at_snapshot r (attempt_id (client_plan r k) y b) ≡ false) Q.here (λ at. (Q.next b at).seen) (λ k y off at. E.seen k y b at) m z here;
    unasked = λ m z b here. at-set w.clients n c d (λ k y. y.present ≡ Some b → b.epoch ≡ None → AsksFirst (attempt_ops r.script (attempt_id (client_plan r k) y b)) b) Q.here (λ at. (Q.next b at).unasked) (λ k y off at. E.unasked k y b at) m z here;
    unknown = λ m z b here. at-set w.clients n c d (λ k y. y.present ≡ Some b → b.waits ≡ false → b.epoch ≡ None → IsUnissued w (attempt_id (client_plan r k) y b)) Q.here (λ at. (Q.next b at).unknown) (λ k y off at. E.unknown k y b at) m z here;
    unmade = λ m z b here. at-set w.clients n c d (λ k y. y.present ≡ Some b → b.waits ≡ false → is_making r (attempt_id (client_plan r k) y b) ≡ true → b.epoch ≡ None) Q.here (λ at. (Q.next b at).unmade) (λ k y off at. E.unmade k y b at) m z here;
    trackers = at-set w.clients n c d (λ k y. (top ≤ y.tracker.0) × ((e : ℕ) → Told r.script (w.lines ++ line.Try now ∷ []) k e → e ≤ y.tracker.0)) Q.here tracker-here
        (λ k y off at. let f = E.trackers k y at in (f.0, λ e t. f.1 e (told-other k e off t)));
    rises = λ x e f p h t. rising x e f p h t (same-number x.client n);
    same_command = E.same_command;
    past = λ b z h here. at-set w.clients n c d (λ k y. b.id.client ≡ k → IsPast y b.id) Q.here (λ same. past-here b same (cases b h))
        (λ k y off at same. ⊎_elim (λ o. E.past b y o (subst (λ j. slice_get w.clients j ≡ Some y) (sym same) at)) (λ is. absurd (off (sym same ∙ ap (λ q. q.id.client) (sym is) ∙ Q.its))) (cases b h)) b.id.client z here refl;
    distinct = own-push r.script top w.lines now E.distinct (λ e own is. (E.above now.id e (now-issued e own is), λ b f h own' known same. own-only e own is b f h own' known same));
    risen = each-push (RisesFrom r.script) w.lines now E.risen (λ own. after-all own now.epoch refl);
  }

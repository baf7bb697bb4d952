-- What a target does keeps what is said of epochs, also where snapshots are read and made.
use Rattle.std.specs.Prelude.{ℕ, ◌≡◌, ◌≤◌, ◌<◌, ◌/◌, ◌%◌, ◌++◌, ◌⊎◌, true, false, List, Contains, slice_get, Option, Some, refl}
use Rattle.std.proofs.Common.{sym, ◌∙◌, ap, subst, inl, inr, ⊎_elim, arith}
use Rattle.std.proofs.Math.ListN.{set}
use Rattle.std.proofs.lemmas.List.Elements.{Contains-append_cases, Contains-append_left}
use Rattle.std.proofs.lemmas.List.{length-set}
use Rattle.std.proofs.lemmas.Option.{some_pair_parts}
use Rattle.base_types.specs.declared.epoch.Epoch.{Epoch}
use Rattle.base_types.specs.declared.id.AttemptId.{AttemptId}
use Rattle.base_messages.specs.declared.message.Message.{Message}
use Rattle.dtx_base.specs.declared.member.Parked.{Parked}
use Rattle.world_base.specs.declared.client.ClientState.{ClientState}
use Rattle.world_base.specs.declared.client.Present.{Present}
use Rattle.world_base.specs.declared.letter.Letter.{Letter}
use Rattle.world_base.specs.declared.target.TargetState.{TargetState}
use Rattle.world_base.specs.declared.target.Life.TheVariants.{Running}
use Rattle.world_base.specs.declared.world.World.{World}
use Rattle.world_base.specs.ClientTurns.{attempt_id}
use Rattle.world_base.specs.Events.{Rules, client_plan, listed}
use Rattle.world_base.specs.Letters.{client}
use Rattle.world_base.specs.StepLaws.{set-here, set-there}
use Rattle.world_letters.specs.clients.Snapshots.{is_at_snapshot}
use Rattle.world_letters.specs.epochs.Epochs.{AsksEpoch, Epochs, GoesWith, HasLine, IsEpochOf, IsIssued, IsOwn, IsPast, IsPresent, IsReadOf, IsSeen, IsUnissued, LacksEpoch, answers_undated}
use Rattle.world_letters.specs.epochs.Lists.{at-set, one-value, same-number}
use Rattle.world_letters.specs.epochs.Sayings.{AreKnown, known-each}
use Rattle.world_letters.specs.epochs.TargetLaws.{IsNew, after_target, issued_then, listed-cases, same-issuer}
use Rattle.world_making.specs.dates.Telling.{WaitsDated}

-- ---- an attempt that has an epoch

-- is present, or its client is past it
pub date-behind : (r : Rules) (top : ℕ) (w : World) (x : AttemptId) (e : Epoch) (c : ClientState) → Epochs r top w → IsIssued w x e → slice_get w.clients x.client ≡ Some c
    → IsPast c x ⊎ ((a : Present) × (c.present ≡ Some a) × (attempt_id (client_plan r x.client) c a ≡ x))
date-behind r top w x e c E h here = by (E.line x e h)
  where
    by : IsPresent r w x ⊎ HasLine w x e → IsPast c x ⊎ ((a : Present) × (c.present ≡ Some a) × (attempt_id (client_plan r x.client) c a ≡ x))
    by (inl p) = let same : p.c ≡ c = one-value (slice_get w.clients x.client) p.c c p.here here in inr (p.a, subst (λ d. d.present ≡ Some p.a) same p.at, subst (λ d. attempt_id (client_plan r x.client) d p.a ≡ x) same p.own)
    by (inr k) = inl (subst (λ y. IsPast c y) k.2 (E.past k.0 c k.1 (subst (λ y. slice_get w.clients y.client ≡ Some c) (sym k.2) here)))

-- no attempt of a command that is later than the present one has an epoch
pub later-undated : (r : Rules) (top : ℕ) (w : World) (x y : AttemptId) (e : Epoch) → Epochs r top w → IsPresent r w y → IsIssued w x e → x.client ≡ y.client → x.command ≡ y.command → y.attempt < x.attempt → ⊥
later-undated r top w x y e E p h same command later = by (date-behind r top w x e p.c E h (subst (λ n. slice_get w.clients n ≡ Some p.c) (sym same) p.here))
  where
    number : p.a.attempt ≡ y.attempt
    number = ap (λ z. z.attempt) p.own

    place : p.c.command ≡ y.command
    place = ap (λ z. z.command) p.own

    by : IsPast p.c x ⊎ ((a : Present) × (p.c.present ≡ Some a) × (attempt_id (client_plan r x.client) p.c a ≡ x)) → ⊥
    by (inl (inl k)) = omega (arith, k, command, place)
    by (inl (inr k)) =
        let one : k.0 ≡ p.a = one-value p.c.present k.0 p.a k.1 p.at in
        let n : k.0.attempt ≡ p.a.attempt = ap (λ z. z.attempt) one in
        omega (arith, k.3, n, number, later)
    by (inr k) =
        let one : k.0 ≡ p.a = one-value p.c.present k.0 p.a k.1 p.at in
        let n : k.0.attempt ≡ p.a.attempt = ap (λ z. z.attempt) one in
        let m : k.0.attempt ≡ x.attempt = ap (λ z. z.attempt) k.2 in
        omega (arith, n, m, number, later)

-- ---- once more is issued

-- the world in which this epoch is issued, too
abbrev pub dated_then : World → Option (AttemptId × Epoch) → World
dated_then w o = record w { issued = w.issued ++ listed o }

-- an attempt's epoch stays so where no epoch is taken back, and clients stay as they are
pub epoch-stays : (r : Rules) (w v : World) → v.clients ≡ w.clients → ((x : AttemptId) (e : Epoch) → IsIssued w x e → IsIssued v x e) → (x : AttemptId) (e : Epoch) → IsEpochOf r w x e → IsEpochOf r v x e
epoch-stays r w v same more x e (IsOwn i) = IsOwn (more x e i)
epoch-stays r w v same more x e (IsSeen s) = IsSeen (record { name = s.name; reads = s.reads; c = s.c; here = ap (λ cs. slice_get cs x.client) same ∙ s.here; known = s.known })

-- ---- a turn

-- What a turn of a target did: it issued an epoch to an attempt that reads at no snapshot, or none, and these letters are then in flight.
pub record TargetDated (r : Rules) (top : ℕ) (w : World) (t : ℕ) (s new : TargetState) (letters : List Letter) (o : Option (AttemptId × Epoch)) : Type 0 where
  pub here : slice_get w.targets t ≡ Some s
  pub life : new.life ≡ s.life
  pub lease : s.durable.lease ≤ new.durable.lease
  pub ticks : s.memory.ticks ≤ new.memory.ticks
  pub issues : (x : AttemptId) (e : Epoch) → o ≡ Some (x, e) → IsNew r top w t new x e × (is_at_snapshot r x ≡ false)
  pub asks : (l : Letter) (x : AttemptId) (k : Epoch) → Contains letters l → AsksEpoch l.message x k → Contains w.messages l × ((e : Epoch) → o ≡ Some (x, e) → ⊥)
  pub lacks : (l : Letter) (x : AttemptId) → Contains letters l → LacksEpoch l.message x → (l.to ≡ client x.client) × IsUnissued w x × ((e : Epoch) → o ≡ Some (x, e) → ⊥)
  pub bears : (l : Letter) (x : AttemptId) (e : Epoch) → Contains letters l → GoesWith l.message x e → IsEpochOf r (dated_then w o) x e
  pub reads : (l : Letter) → Contains letters l → IsReadOf r l.message
  pub dated : (l : Letter) → Contains letters l → answers_undated l.message ≡ false
  pub entries : AreKnown (issued_then w o) new.durable.entries
  pub parked : (p : Parked) → Contains new.memory.member.parked p → WaitsDated r (dated_then w o) p.ask

module _ (r : Rules) (top : ℕ) (w : World) (t : ℕ) (s new : TargetState) (letters unanswered : List Letter) (o : Option (AttemptId × Epoch)) (E : Epochs r top w) (D : TargetDated r top w t s new letters o) where
  abbrev v : World
  v = after_target w t new letters unanswered o

  was : (x : AttemptId) (e : Epoch) → Contains (w.issued ++ listed o) (x, e) → IsIssued w x e ⊎ (o ≡ Some (x, e))
  was x e h = ⊎_elim (λ k. inl k) (λ k. inr (listed-cases o (x, e) k)) (Contains-append_cases w.issued (listed o) (x, e) h)

  old : (x : AttemptId) (e : Epoch) → IsIssued w x e → Contains (w.issued ++ listed o) (x, e)
  old x e k = Contains-append_left w.issued (listed o) (x, e) k

  of-old : (x : AttemptId) (e : Epoch) → IsEpochOf r w x e → IsEpochOf r v x e
  of-old = epoch-stays r w v refl old

  of-then : (x : AttemptId) (e : Epoch) → IsEpochOf r (dated_then w o) x e → IsEpochOf r v x e
  of-then = epoch-stays r (dated_then w o) v refl (λ x e i. i)

  waits-then : (m : Message) → WaitsDated r (dated_then w o) m → WaitsDated r v m
  waits-then m h = (record { x = h.0.x; e = h.0.e; bears = h.0.bears; known = of-then h.0.x h.0.e h.0.known }, h.1)

  waits-old : (m : Message) → WaitsDated r w m → WaitsDated r v m
  waits-old m h = (record { x = h.0.x; e = h.0.e; bears = h.0.bears; known = of-old h.0.x h.0.e h.0.known }, h.1)

  not-issued : (x : AttemptId) → IsUnissued w x → ((e : Epoch) → o ≡ Some (x, e) → ⊥) → (e : Epoch) → Contains (w.issued ++ listed o) (x, e) → ⊥
  not-issued x k l e h = ⊎_elim (k e) (l e) (was x e h)

  same-epoch : (x : AttemptId) (e f : Epoch) → IsIssued w x e ⊎ (o ≡ Some (x, e)) → IsIssued w x f ⊎ (o ≡ Some (x, f)) → e ≡ f
  same-epoch x e f (inl h) (inl k) = E.one x e f h k
  same-epoch x e f (inl h) (inr k) = absurd ((D.issues x f k).0.unissued e h)
  same-epoch x e f (inr h) (inl k) = absurd ((D.issues x e h).0.unissued f k)
  same-epoch x e f (inr h) (inr k) = (some_pair_parts x x e f (sym h ∙ k)).1

  same-attempt : (x y : AttemptId) (e : Epoch) → IsIssued w x e ⊎ (o ≡ Some (x, e)) → IsIssued w y e ⊎ (o ≡ Some (y, e)) → x ≡ y
  same-attempt x y e (inl h) (inl k) = E.apart x y e h k
  same-attempt x y e (inl h) (inr k) = let no : e.0 < e.0 = (D.issues y e k).0.highest x e h (D.issues y e k).0.own in absurd (omega (arith, no))
  same-attempt x y e (inr h) (inl k) = let no : e.0 < e.0 = (D.issues x e h).0.highest y e k (D.issues x e h).0.own in absurd (omega (arith, no))
  same-attempt x y e (inr h) (inr k) = (some_pair_parts x y e e (sym h ∙ k)).0

  now : slice_get (set w.targets t new) t ≡ Some new
  now = set-here w.targets t s new D.here

  there : (x : AttemptId) (e : Epoch) → IsIssued w x e ⊎ (o ≡ Some (x, e)) → (e.0 % 256 ≡ t) ⊎ ((e.0 % 256 ≡ t) → ⊥) → (z : TargetState) × (slice_get (set w.targets t new) (e.0 % 256) ≡ Some z)
  there x e h (inl same) = (new, subst (λ u. slice_get (set w.targets t new) u ≡ Some new) (sym same) now)
  there x e (inl h) (inr off) = let i = E.issuer x e h in (i.0, set-there w.targets t (e.0 % 256) new off ∙ i.1)
  there x e (inr h) (inr off) = absurd (off (D.issues x e h).0.own)

  at-here : (e : Epoch) → e.0 % 256 ≡ t → slice_get w.targets (e.0 % 256) ≡ Some s
  at-here e same = subst (λ u. slice_get w.targets u ≡ Some s) (sym same) D.here

  lease-of : (x : AttemptId) (e : Epoch) → e.0 % 256 ≡ t → IsIssued w x e ⊎ (o ≡ Some (x, e)) → e.0 / 256 ≤ new.durable.lease
  lease-of x e same (inl k) = let low : e.0 / 256 ≤ s.durable.lease = E.leased x e s k (at-here e same) in let up : s.durable.lease ≤ new.durable.lease = D.lease in omega (arith, low, up)
  lease-of x e same (inr k) = (D.issues x e k).0.leased

  old-lease : (x : AttemptId) (e : Epoch) (u : ℕ) (y : TargetState) → ((u ≡ t) → ⊥) → slice_get w.targets u ≡ Some y → e.0 % 256 ≡ u → IsIssued w x e ⊎ (o ≡ Some (x, e)) → e.0 / 256 ≤ y.durable.lease
  old-lease x e u y off at same (inl k) = E.leased x e y k (subst (λ v. slice_get w.targets v ≡ Some y) (sym same) at)
  old-lease x e u y off at same (inr k) = absurd (off (sym same ∙ (D.issues x e k).0.own))

  ticks-of : (x : AttemptId) (e : Epoch) → e.0 % 256 ≡ t → s.life ≡ Running → IsIssued w x e ⊎ (o ≡ Some (x, e)) → e.0 / 256 ≤ new.memory.ticks
  ticks-of x e same runs (inl k) = let low : e.0 / 256 ≤ s.memory.ticks = E.ticks x e s k (at-here e same) runs in let up : s.memory.ticks ≤ new.memory.ticks = D.ticks in omega (arith, low, up)
  ticks-of x e same runs (inr k) = (D.issues x e k).0.ticks

  old-ticks : (x : AttemptId) (e : Epoch) (u : ℕ) (y : TargetState) → ((u ≡ t) → ⊥) → slice_get w.targets u ≡ Some y → e.0 % 256 ≡ u → y.life ≡ Running → IsIssued w x e ⊎ (o ≡ Some (x, e)) → e.0 / 256 ≤ y.memory.ticks
  old-ticks x e u y off at same runs (inl k) = E.ticks x e y k (subst (λ v. slice_get w.targets v ≡ Some y) (sym same) at) runs
  old-ticks x e u y off at same runs (inr k) = absurd (off (sym same ∙ (D.issues x e k).0.own))

  rising : (x y : AttemptId) (e f : Epoch) → x.client ≡ y.client → x.command ≡ y.command → y.attempt < x.attempt → IsIssued w x e ⊎ (o ≡ Some (x, e)) → IsIssued w y f ⊎ (o ≡ Some (y, f)) → f.0 < e.0
  rising x y e f client' command later (inl h) (inl k) = E.same_command x y e f h k client' command later
  rising x y e f client' command later (inl h) (inr k) = absurd (later-undated r top w x y e E (D.issues y f k).0.present h client' command later)
  rising x y e f client' command later (inr h) (inl k) = (D.issues x e h).0.highest y f k (E.issued_by y f k ∙ sym (same-issuer r.script x y client' command) ∙ sym (D.issues x e h).0.first)
  rising x y e f client' command later (inr h) (inr k) = let same : x.attempt ≡ y.attempt = ap (λ z. z.attempt) (some_pair_parts x y e f (sym h ∙ k)).0 in absurd (omega (arith, same, later))

  pub target-dates : Epochs r top v
  target-dates = record {
    few = subst (λ n. n ≤ 256) (sym (length-set w.targets t new)) E.few;
    one = λ x e f h k. same-epoch x e f (was x e h) (was x f k);
    apart = λ x y e h k. same-attempt x y e (was x e h) (was y e k);
    above = λ x e h. ⊎_elim (E.above x e) (λ k. (D.issues x e k).0.above) (was x e h);
    own = λ x e h. ⊎_elim (E.own x e) (λ k. (D.issues x e k).1) (was x e h);
    issued_by = λ x e h. ⊎_elim (E.issued_by x e) (λ k. (D.issues x e k).0.own ∙ (D.issues x e k).0.first) (was x e h);
    issuer = λ x e h. there x e (was x e h) (same-number (e.0 % 256) t);
    leased = λ x e z h at. at-set w.targets t s new (λ u y. e.0 % 256 ≡ u → e.0 / 256 ≤ y.durable.lease) D.here (λ same. lease-of x e same (was x e h)) (λ u y off at' same. old-lease x e u y off at' same (was x e h)) (e.0 % 256) z at refl;
    ticks = λ x e z h at. at-set w.targets t s new (λ u y. e.0 % 256 ≡ u → y.life ≡ Running → e.0 / 256 ≤ y.memory.ticks) D.here (λ same runs. ticks-of x e same (sym D.life ∙ runs) (was x e h))
        (λ u y off at' same runs. old-ticks x e u y off at' same runs (was x e h)) (e.0 % 256) z at refl;
    line = λ x e h. ⊎_elim (E.line x e) (λ k. inl (D.issues x e k).0.present) (was x e h);
    fresh = λ l x k h a. let f = E.fresh l x k (D.asks l x k h a).0 a in (f.0, not-issued x f.1 (D.asks l x k h a).1, f.2, f.3, f.4);
    asker = λ l x k h a. E.asker l x k (D.asks l x k h a).0 a;
    asked = λ l x k h a. E.asked l x k (D.asks l x k h a).0 a;
    lacking = λ l x h a. let k = D.lacks l x h a in (k.0, not-issued x k.1 k.2);
    dated = D.dated;
    borne = λ l x e h a. of-then x e (D.bears l x e h a);
    entered = λ u z k at. at-set w.targets t s new (λ v y. Contains y.durable.entries k → issued_then w o k.attempt k.epoch) D.here (λ i. known-each (issued_then w o) new.durable.entries k D.entries i) (λ v y off at' i. old k.attempt k.epoch (E.entered v y k at' i)) u z at;
    parked = λ u z p at. at-set w.targets t s new (λ n y. Contains y.memory.member.parked p → WaitsDated r v p.ask) D.here (λ i. waits-then p.ask (D.parked p i)) (λ n y off at' i. waits-old p.ask (E.parked n y p at' i)) u z at;
    reads = D.reads;
    known = λ n c a e here at is. of-old (attempt_id (client_plan r n) c a) e (E.known n c a e here at is);
    shown = λ a e h is. of-old a.id e (E.shown a e h is);
    tracked = E.tracked;
    seen = E.seen;
    unasked = E.unasked;
    unknown = λ n c a here at waits none. not-issued (attempt_id (client_plan r n) c a) (E.unknown n c a here at waits none)
        (λ e k. let yes : a.waits ≡ true = (D.issues (attempt_id (client_plan r n) c a) e k).0.waits c a here at in let no : ⊥ = cc in no);
    unmade = E.unmade;
    trackers = E.trackers;
    rises = λ x e f p h told. ⊎_elim (λ k. E.rises x e f p k told) (λ k. (D.issues x e k).0.told f told) (was x e h);
    same_command = λ x y e f h k client' command later. rising x y e f client' command later (was x e h) (was y f k);
    past = E.past;
    distinct = E.distinct;
    risen = E.risen;
  }

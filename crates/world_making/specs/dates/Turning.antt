-- Each whole turn of a target keeps what is said of epochs.
use Rattle.std.specs.Prelude.{ℕ, ◌≡◌, ◌≤◌, ◌<◌, ◌/◌, ◌%◌, ◌++◌, ◌⊎◌, true, false, List, [], length, map, Contains, slice_get, Option, Some, None, refl}
use Rattle.std.proofs.Common.{sym, ◌∙◌, ap, subst, inl, inr, ⊎_elim, arith}
use Rattle.std.proofs.lemmas.List.Elements.{Contains-append_cases, Contains-append_left, Contains-append_right}
use Rattle.std.proofs.lemmas.Option.{slice_get_within, some_pair_parts}
use Rattle.base_types.specs.declared.epoch.Epoch.{Epoch}
use Rattle.base_types.specs.declared.id.AttemptId.{AttemptId}
use Rattle.base_types.specs.declared.report.Attempt.{Attempt}
use Rattle.base_types.specs.declared.report.Line.{Line}
use Rattle.base_types.specs.declared.report.Line.TheVariants as line
use Rattle.base_messages.specs.declared.message.Post.{Post}
use Rattle.dtx_base.specs.declared.member.Parked.{Parked}
use Rattle.model_laws.specs.Members.{Has, contains-from_has, has-from_contains, has-from_map}
use Rattle.world_base.specs.declared.client.ClientState.{ClientState}
use Rattle.world_base.specs.declared.did.Did.{Did}
use Rattle.world_base.specs.declared.letter.Letter.{Letter}
use Rattle.world_base.specs.declared.target.Collection.{Collection}
use Rattle.world_base.specs.declared.target.Life.TheVariants.{Running}
use Rattle.world_base.specs.declared.target.TargetMemory.{TargetMemory}
use Rattle.world_base.specs.declared.target.TargetState.{TargetState}
use Rattle.world_base.specs.declared.world.World.{World}
use Rattle.world_base.specs.Changes.{Kept}
use Rattle.world_base.specs.ClientTurns.{is_waiting, waits}
use Rattle.world_base.specs.Events.{Rules, TargetHearsBy, TargetIdles, after_turn, kept, listed, target_after, target_plan, with_epoch, with_target}
use Rattle.world_base.specs.Letters.{Takes, asked_after, is_talk_of, letter_of, letters_of, talk_of, target}
use Rattle.world_base.specs.MemoryLaws.{Follows}
use Rattle.world_base.specs.TargetTurns.{Hearing}
use Rattle.world_letters.specs.clients.Snapshots.{is_at_snapshot}
use Rattle.world_letters.specs.epochs.Epochs.{AsksEpoch, Epochs, GoesWith, IsEpochOf, IsIssued, IsPresent, IsReadOf, IsTold, IsUnissued, LacksEpoch, answers_undated}
use Rattle.world_letters.specs.epochs.FetchTurns.{Covers}
use Rattle.world_letters.specs.epochs.Sayings.{AreKnown, known-all}
use Rattle.world_letters.specs.epochs.Talking.{TalksOnce, asks-no_tell, lacks-no_tell, taken-silent, talking}
use Rattle.world_letters.specs.epochs.TargetEvents.{Issuing, ItsEpoch, MaySpend, Nothing, issued-ticks}
use Rattle.world_letters.specs.epochs.TargetLaws.{IsNew, after_target, issued_then, listed-has}
use Rattle.world_causes.specs.hearing.Storing.{KeptSo}
use Rattle.world_causes.specs.restarts.EpochLaws.{rests-epochs}
use Rattle.world_causes.specs.restarts.Resting.{Rests, rests-same}
use Rattle.world_letters.specs.talks.TalkLaws.{got-is-talk, left-is-among, none-among, sent-is-talk, taken-is-among}
use Rattle.world_letters.specs.waits.Requests.{is_lost_request}
use Rattle.world_making.specs.dates.Hearing.{BringsEpoch, KnowsDated, TurnsDated, idle-turns}
use Rattle.world_making.specs.dates.Targets.{TargetDated, dated_then, epoch-stays, target-dates}
use Rattle.world_making.specs.dates.Telling.{LeavesDated, WaitsDated, told-asks, told-bears, told-dated, told-lacks, told-reads}

-- ---- the letter that is heard

module _ (r : Rules) (top : ℕ) (w : World) (talk : TalksOnce w) (E : Epochs r top w) (t : ℕ) (s : TargetState) (here : slice_get w.targets t ≡ Some s) (runs : s.life ≡ Running) (heard : Letter) (rest : List Letter) (takes : Takes w.messages heard rest)
    (to_it : heard.to ≡ target t) where
  among : Contains w.messages heard
  among = taken-is-among w.messages heard rest takes

  pub in-rest : (l : Letter) → Contains rest l → Contains w.messages l
  in-rest l h = left-is-among w.messages heard rest l takes h

  -- the attempt asks for an epoch
  abbrev pub AsksForDate : AttemptId → Type 0
  AsksForDate x = (tracker : Epoch) × AsksEpoch heard.message x tracker

  -- its client has no other letter in flight
  alone : (x : AttemptId) (c : ClientState) → AsksForDate x → slice_get w.clients x.client ≡ Some c → (waits c ≡ true) × (talk_of x.client rest ≡ [])
  alone x c a at =
      let talks : is_talk_of x.client heard ≡ true = sent-is-talk x.client heard (asks-no_tell heard.message x a.0 a.1) (E.asker heard x a.0 among a.1) in
      ((talking w x.client c heard talk at among talks).0, taken-silent w x.client c heard rest talk at takes talks)

  pub others-ask : (l : Letter) (x : AttemptId) (k : Epoch) → Contains rest l → AsksEpoch l.message x k → AsksForDate x → ⊥
  others-ask l x k h a own =
      let p = (E.fresh heard x own.0 among own.1).0 in
      none-among x.client rest l (alone x p.c own p.here).1 h (sent-is-talk x.client l (asks-no_tell l.message x k a) (E.asker l x k (in-rest l h) a))

  pub others-lack : (l : Letter) (x : AttemptId) → Contains rest l → LacksEpoch l.message x → AsksForDate x → ⊥
  others-lack l x h a own =
      let p = (E.fresh heard x own.0 among own.1).0 in
      none-among x.client rest l (alone x p.c own p.here).1 h (got-is-talk x.client l (lacks-no_tell l.message x a) (E.lacking l x (in-rest l h) a).0)

  few : t < 256
  few = let p : t < length w.targets = slice_get_within w.targets t s here in let q : length w.targets ≤ 256 = E.few in omega (arith, p, q)

  -- an epoch that is found for it may be issued
  pub may-date : (new : TargetState) (reading : ℕ) (x : AttemptId) (e tracker : Epoch) → AsksEpoch heard.message x tracker → Covers (target_plan r t) s.memory reading tracker None e new.durable.lease → e.0 / 256 ≤ new.memory.ticks
      → IsNew r top w t new x e × (is_at_snapshot r x ≡ false)
  may-date new reading x e tracker a c up = (
    record {
      unissued = f.1;
      present = f.0;
      waits = λ z b at is. sym (ap is_waiting is) ∙ (alone x z (tracker, a) at).0;
      above = let low : top ≤ tracker.0 = f.2 in let above : tracker.0 < e.0 = i.1 in omega (arith, low, above);
      own = i.2;
      first = ap (λ z. z.number) (sym to_it ∙ E.asked heard x tracker among a);
      leased = c.covered;
      ticks = up;
      told = λ n told. let low : n ≤ tracker.0 = f.3 n told in let above : tracker.0 < e.0 = i.1 in omega (arith, low, above);
      highest = λ y z issued own.
          let at : slice_get w.targets (z.0 % 256) ≡ Some s = subst (λ u. slice_get w.targets u ≡ Some s) (sym own) here in
          let low : z.0 / 256 ≤ s.memory.ticks = E.ticks y z s issued at runs in
          let above : s.memory.ticks < e.0 / 256 = i.0 in
          omega (arith, low, above);
    },
    f.4,
  )
    where
      f : IsPresent r w x × IsUnissued w x × (top ≤ tracker.0) × ((n : ℕ) → IsTold r w x.client n → n ≤ tracker.0) × (is_at_snapshot r x ≡ false)
      f = E.fresh heard x tracker among a

      i : (s.memory.ticks < e.0 / 256) × (tracker.0 < e.0) × (e.0 % 256 ≡ t)
      i = issued-ticks (target_plan r t) s.memory reading tracker e few c.found

-- ---- the world after a turn

-- letters in flight that neither ask nor were answered for an attempt to which an epoch is issued now
pub record AreBeside (w : World) (rest : List Letter) (o : Option (AttemptId × Epoch)) : Type 0 where
  pub among : (l : Letter) → Contains rest l → Contains w.messages l
  pub asks : (l : Letter) (x : AttemptId) (k e : Epoch) → Contains rest l → AsksEpoch l.message x k → o ≡ Some (x, e) → ⊥
  pub lacks : (l : Letter) (x : AttemptId) (e : Epoch) → Contains rest l → LacksEpoch l.message x → o ≡ Some (x, e) → ⊥

-- what was known before
module _ (r : Rules) (top : ℕ) (w : World) (o : Option (AttemptId × Epoch)) (E : Epochs r top w) where
  pub more-issued : (x : AttemptId) (e : Epoch) → IsIssued w x e → IsIssued (dated_then w o) x e
  more-issued x e i = Contains-append_left w.issued (listed o) (x, e) i

  pub entries-then : (t : ℕ) (s : TargetState) → slice_get w.targets t ≡ Some s → AreKnown (issued_then w o) s.durable.entries
  entries-then t s here = known-all (issued_then w o) s.durable.entries (λ k i. more-issued k.attempt k.epoch (E.entered t s k here i))

  pub parked-then : (t : ℕ) (s : TargetState) (p : Parked) → slice_get w.targets t ≡ Some s → Has p s.memory.member.parked → WaitsDated r (dated_then w o) p.ask
  parked-then t s p here i =
      let h = E.parked t s p here (contains-from_has s.memory.member.parked p i) in
      (record { x = h.0.x; e = h.0.e; bears = h.0.bears; known = epoch-stays r w (dated_then w o) refl more-issued h.0.x h.0.e h.0.known }, h.1)

  pub borne-then : (l : Letter) (x : AttemptId) (e : Epoch) → Contains w.messages l → GoesWith l.message x e → IsEpochOf r (dated_then w o) x e
  borne-then l x e i g = epoch-stays r w (dated_then w o) refl more-issued x e (E.borne l x e i g)

-- with lines that tell of no attempt
told-silent : (issued : List (AttemptId × Epoch)) (ls : List Line) → ((a : Attempt) → Has (line.Try a) ls → ⊥) → (a : Attempt) → Has (line.Try a) (map (with_epoch issued) ls) → ⊥
told-silent issued ls none a i = let z = has-from_map (with_epoch issued) ls (line.Try a) i in by z.0 z.1 z.2
  where
    by : (l : Line) → Has l ls → with_epoch issued l ≡ line.Try a → ⊥
    by (line.Try b) j same = none b j
    by l j same = cc

module _ (r : Rules) (top : ℕ) (w : World) (t : ℕ) (s : TargetState) (new : Kept) (memory : TargetMemory) (did : Did) (rest : List Letter) (E : Epochs r top w) (here : slice_get w.targets t ≡ Some s) (O : AreBeside w rest did.issued)
    (I : (x : AttemptId) (e : Epoch) → did.issued ≡ Some (x, e) → IsNew r top w t (target_after s new memory) x e × (is_at_snapshot r x ≡ false)) (leaves : LeavesDated r (dated_then w did.issued) (MaySpend w did.issued) (memory, did))
    (ticks : s.memory.ticks ≤ memory.ticks) (lease : s.durable.lease ≤ new.durable.lease) (entries : AreKnown (issued_then w did.issued) new.durable.entries) (silent : (a : Attempt) → Has (line.Try a) did.lines → ⊥) where
  abbrev u : World
  u = dated_then w did.issued

  abbrev after : TargetState
  after = target_after s new memory

  abbrev letters : List Letter
  letters = rest ++ letters_of (target t) did.posts

  abbrev v : World
  v = after_target w t after letters (asked_after w.asked (letters_of (target t) did.posts)) did.issued

  sent : (l : Letter) → Contains letters l → Contains rest l ⊎ ((q : Post) × Has q did.posts × (letter_of (target t) q ≡ l))
  sent l h = ⊎_elim (λ i. inl i) (λ i. inr (has-from_map (letter_of (target t)) did.posts l (has-from_contains (letters_of (target t) did.posts) l i))) (Contains-append_cases rest (letters_of (target t) did.posts) l h)

  did-dated : TargetDated r top w t s after letters did.issued
  did-dated = record {
    here = here;
    life = refl;
    lease = lease;
    ticks = ticks;
    issues = I;
    asks = λ l x k h a. ⊎_elim (λ i. (O.among l i, λ e is. O.asks l x k e i a is)) (λ q. absurd (told-asks r u (MaySpend w did.issued) q.0.message q.0.to (leaves.posts q.0 q.1) x k (subst (λ z. AsksEpoch z.message x k) (sym q.2) a))) (sent l h);
    lacks = λ l x h a. ⊎_elim
        (λ i. let f = E.lacking l x (O.among l i) a in (f.0, f.1, λ e is. O.lacks l x e i a is))
        (λ q. let f = told-lacks r u (MaySpend w did.issued) q.0.message q.0.to (leaves.posts q.0 q.1) x (subst (λ z. LacksEpoch z.message x) (sym q.2) a) in
        (sym (ap (λ z. z.to) q.2) ∙ f.0, f.1, λ e is. let none : did.issued ≡ None = f.2 in let no : ⊥ = cc in no))
        (sent l h);
    bears = λ l x e h g. ⊎_elim (λ i. borne-then r top w did.issued E l x e (O.among l i) g) (λ q. told-bears r u (MaySpend w did.issued) q.0.message q.0.to (leaves.posts q.0 q.1) x e (subst (λ z. GoesWith z.message x e) (sym q.2) g)) (sent l h);
    reads = λ l h. ⊎_elim (λ i. E.reads l (O.among l i)) (λ q. subst (λ z. IsReadOf r z.message) q.2 (told-reads r u (MaySpend w did.issued) q.0.message q.0.to (leaves.posts q.0 q.1))) (sent l h);
    dated = λ l h. ⊎_elim (λ i. E.dated l (O.among l i)) (λ q. subst (λ z. answers_undated z.message ≡ false) q.2 (told-dated r u (MaySpend w did.issued) q.0.message q.0.to (leaves.posts q.0 q.1))) (sent l h);
    entries = entries;
    parked = λ p i. leaves.parked p (has-from_contains memory.member.parked p i);
  }

  -- its lines tell of no attempt
  then-rests : Rests v (with_target t after (after_turn w (target t) did rest))
  then-rests = record {
    clients = refl;
    issued = refl;
    more = map (with_epoch w.issued) did.lines;
    lines = refl;
    no_tries = told-silent w.issued did.lines silent;
    messages = λ l i. inl i;
    few = refl;
    there = λ n z at. (z, at);
    targets = λ n z at. (z, at, rests-same v z);
  }

  pub turn-dates : Epochs r top (with_target t after (after_turn w (target t) did rest))
  turn-dates = rests-epochs r top v (with_target t after (after_turn w (target t) did rest)) then-rests (target-dates r top w t s after letters (asked_after w.asked (letters_of (target t) did.posts)) did.issued E did-dated)

-- ---- idle work

pub idles-dated : (r : Rules) (top : ℕ) (w v : World) → Epochs r top w → TargetIdles r w v → Epochs r top v
idles-dated r top w v E g =
    subst (Epochs r top) (sym g.after)
    (turn-dates r top w g.t g.s g.new g.memory g.did w.messages E g.here
    (record { among = λ l i. i; asks = λ l x k e i a is. let none : g.did.issued ≡ None = k'.3 in let no : ⊥ = cc in no; lacks = λ l x e i a is. let none : g.did.issued ≡ None = k'.3 in let no : ⊥ = cc in no })
    (λ x e is. let none : g.did.issued ≡ None = k'.3 in let no : ⊥ = cc in absurd no) k'.1 k'.2.more.ticks k'.0.lease k'.0.entries (λ a i. subst (Has (line.Try a)) k'.2.lines i))
  where
    k' : KeptSo (issued_then w g.did.issued) g.s.durable g.new.durable × LeavesDated r (dated_then w g.did.issued) (MaySpend w g.did.issued) (g.memory, g.did) × Follows g.s.memory (g.memory, g.did) × (g.did.issued ≡ None)
    k' = idle-turns r (dated_then w g.did.issued) (MaySpend w g.did.issued) (target_plan r g.t) g.s.opening g.s.memory 0 (target g.t) (kept g.s) g.new (g.memory, g.did) g.settling (entries-then r top w g.did.issued E g.t g.s g.here)
        (λ p i. parked-then r top w g.did.issued E g.t g.s p g.here i) g.turn

-- ---- hearing

-- what else is known of the letter that is heard: its entry's epoch was issued, and so was that of each collection; and it isn't the news that
-- a client's request is lost
pub record IsHeardSo (w : World) (s : TargetState) (l : Letter) : Type 0 where
  pub brings : (x : AttemptId) (e : Epoch) → BringsEpoch l.message x e → IsIssued w x e
  pub collecting : (c : Collection) → Has c s.memory.collecting → IsIssued w c.attempt c.epoch
  pub lost : is_lost_request l.message ≡ false

module _ (Turn : Hearing) (r : Rules) (top : ℕ) (w v : World) (talk : TalksOnce w) (E : Epochs r top w) (g : TargetHearsBy Turn r w v) (H : IsHeardSo w g.s g.l) where
  abbrev o : Option (AttemptId × Epoch)
  o = g.did.issued

  heard-among : Contains w.messages g.l
  heard-among = taken-is-among w.messages g.l g.rest g.takes

  pub knows-then : KnowsDated r (dated_then w o) (MaySpend w o) g.l.from g.l.message (kept g.s) g.s.memory (g.memory, g.did)
  knows-then = record {
    heard = λ x e b. borne-then r top w o E g.l x e heard-among b;
    brought = λ x e b. more-issued r top w o E x e (H.brings x e b);
    read = E.reads g.l heard-among;
    fresh = λ x k a. (E.fresh g.l x k heard-among a).4;
    issued = λ x e is. Contains-append_right w.issued (listed o) (x, e) (listed-has o (x, e) is);
    spent = λ x k a none. (E.asker g.l x k heard-among a, (E.fresh g.l x k heard-among a).1, none);
    lost = H.lost;
    entries = entries-then r top w o E g.t g.s g.here;
    parked = λ p i. parked-then r top w o E g.t g.s p g.here i;
    collecting = λ c i. more-issued r top w o E c.attempt c.epoch (H.collecting c i);
  }

  pub hearing-dates : TurnsDated r (dated_then w o) (MaySpend w o) (target_plan r g.t) g.s.memory g.reading g.l.message (kept g.s) g.new (g.memory, g.did) → Epochs r top v
  hearing-dates k =
      subst (Epochs r top) (sym g.after)
      (turn-dates r top w g.t g.s g.new g.memory g.did g.rest E g.here
      (record {
        among = in-rest r top w talk E g.t g.s g.here g.runs g.l g.rest g.takes g.to_it;
        asks = λ l x t e h a is. others-ask r top w talk E g.t g.s g.here g.runs g.l g.rest g.takes g.to_it l x t h a (asker x e k.issuing is);
        lacks = λ l x e h a is. others-lack r top w talk E g.t g.s g.here g.runs g.l g.rest g.takes g.to_it l x h a (asker x e k.issuing is);
      })
      (λ x e is. issues x e k.issuing is) k.leaves k.ticks k.lease k.entries k.silent)
    where
      -- the attempt to which an epoch is issued asks
      asker : (x : AttemptId) (e : Epoch) → Issuing (target_plan r g.t) g.s.memory g.reading g.l.message g.new.durable.lease (g.memory, g.did) → o ≡ Some (x, e) → AsksForDate r top w talk E g.t g.s g.here g.runs g.l g.rest g.takes g.to_it x
      asker x e (Nothing none) is = let no : ⊥ = cc in absurd no
      asker x e (ItsEpoch y f tracker a c is' up) is = let same : y ≡ x = (some_pair_parts y x f e (sym is' ∙ is)).0 in (tracker, subst (λ z. AsksEpoch g.l.message z tracker) same a)

      issues : (x : AttemptId) (e : Epoch) → Issuing (target_plan r g.t) g.s.memory g.reading g.l.message g.new.durable.lease (g.memory, g.did) → o ≡ Some (x, e) → IsNew r top w g.t (target_after g.s g.new g.memory) x e × (is_at_snapshot r x ≡ false)
      issues x e (Nothing none) is = let no : ⊥ = cc in absurd no
      issues x e (ItsEpoch y f tracker a c is' up) is =
          let same = some_pair_parts y x f e (sym is' ∙ is) in
          subst (λ z. IsNew r top w g.t (target_after g.s g.new g.memory) z e × (is_at_snapshot r z ≡ false)) same.0
          (subst (λ z. IsNew r top w g.t (target_after g.s g.new g.memory) y z × (is_at_snapshot r y ≡ false)) same.1
          (may-date r top w talk E g.t g.s g.here g.runs g.l g.rest g.takes g.to_it (target_after g.s g.new g.memory) g.reading y f tracker a c up))

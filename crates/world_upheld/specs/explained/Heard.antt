-- What is heard in an event is known, as causes ask over dates.
use Rattle.std.specs.Prelude.{ℕ, ◌≡◌, ◌≤◌, ◌+◌, ◌*◌, ◌/◌, ◌^◌, ◌&&◌, max, Bool, true, false, is_some, filter, length, Contains, slice_get, Option, Some, None, refl, if◌then◌else◌}
use Rattle.std.proofs.Common.{inl, inr, sym, ◌∙◌, ap, arith, subst}
use Rattle.base_types.specs.declared.entry.Verdict.{Verdict}
use Rattle.base_types.specs.declared.entry.Verdict.TheVariants as verdicts
use Rattle.base_types.specs.declared.epoch.Epoch.{Epoch}
use Rattle.base_types.specs.declared.id.AttemptId.{AttemptId}
use Rattle.base_types.specs.declared.id.ContId.{ContId}
use Rattle.base_types.specs.Operations.{read_path}
use Rattle.base_messages.specs.declared.message.Message.{Message, more_of-Message}
use Rattle.base_messages.specs.declared.message.Message.TheVariants as message
use Rattle.daos_model.specs.Accesses.{access_paths}
use Rattle.daos_model.specs.Attempts.{snapshot_or_none}
use Rattle.daos_model.specs.BoolLaws.{and_left, and_right}
use Rattle.daos_model.specs.Durables.{same_attempt}
use Rattle.daos_model.specs.Opening.{Opening, top}
use Rattle.daos_model.specs.Stops.{restart_numbers}
use Rattle.daos_model.specs.Transactions.{attempt_ops}
use Rattle.dtx_base.specs.declared.member.Parked.{Parked}
use Rattle.dtx_base.specs.Joining.{is_asker, is_waiting}
use Rattle.dtx_base.specs.LeaderLaws.{same-is}
use Rattle.model_laws.specs.Members.{Has, contains-from_has, has-from_contains}
use Rattle.world_legal.specs.world_commit.attempts.Counting.{has-taken}
use Rattle.world_legal.specs.world_commit.attempts.History.{History}
use Rattle.world_base.specs.declared.letter.Letter.{Letter}
use Rattle.world_base.specs.declared.request.FetchRequest.{FetchRequest}
use Rattle.world_base.specs.declared.target.Life.TheVariants.{Running}
use Rattle.world_base.specs.declared.target.TargetState.{TargetState}
use Rattle.world_base.specs.declared.world.World.{World}
use Rattle.world_base.specs.Events.{ByClient, ByTarget, Rules, ToClient, ToTarget, kept, target_plan}
use Rattle.world_base.specs.Letters.{target}
use Rattle.world_base.specs.Requests.{fetch_message}
use Rattle.world_base.specs.Stops.{AtWork, Draws, Fails, Further, GivenUp, Happening, Hearing, IdleWork, IsCut, IsInHand, Opens, Plainly, WorldEvent, swept}
use Rattle.world_base.specs.TargetTurns.{fetch_request}
use Rattle.world_legal.specs.world_causes.causes.Causes.{Dated, IsUndecidedFor, Stored}
use Rattle.world_legal.specs.world_causes.causes.Floors.{floors-told}
use Rattle.world_legal.specs.world_causes.causes.Heard.{IsHeardAs, IsKnownAt}
use Rattle.world_legal.specs.world_causes.causes.Shown.{Causes, IsOpenTo, limit_over}
use Rattle.world_upheld.specs.causing.DateLaws.{dates-once}
use Rattle.world_upheld.specs.causing.DatedVerdicts.{AsksFor, IsVerdictRight}
use Rattle.world_upheld.specs.causing.Dates.{IsBegunBy, counted-up, counted_as, counts-issued, is_own_date, issued-own, passes-among, with_dates}
use Rattle.world_upheld.specs.causing.Happening.{IsFurther, IsHeardSo, IsHeardThen, IsLost, IsOther, IsOtherwiseKnown, IsRead, IsVerdict, frees_none}
use Rattle.world_upheld.specs.causing.Known.{DownsHaveLines}
use Rattle.world_upheld.specs.causing.OverDates.{CausesOverDates, reads-count}
use Rattle.world_upheld.specs.causing.Places.{is_frozen_for}
use Rattle.world_upheld.specs.causing.SnapshotReads.{IsDatedRead}
use Rattle.world_letters.specs.clients.Snapshots.{is_at_snapshot}
use Rattle.world_letters.specs.epochs.Epochs.{Epochs, GoesWith, IsEpochOf, IsPresent}
use Rattle.world_owners.specs.world_making.freezings.Fetching.{fetches-right}
use Rattle.world_legal.specs.doubts.Doubts.{Doubts}
use Rattle.world_legal.specs.reasons.Downs.{TellsDown}
use Rattle.world_legal.specs.shown.Open.{query-open, stopped-open}
use Rattle.world_legal.specs.world_causes.losses.ClientHears.{TellsLoss}
use Rattle.world_legal.specs.world_causes.showing.Further.{IsResetKnown, TellsReset}
use Rattle.world_letters.specs.snapshots.Makings.{IsSnapIn, asks-more, collects-more, comes-more, so-more}
use Rattle.world_upheld.specs.upheld.Begins.{AreRulesInForm}
use Rattle.world_upheld.specs.upheld.Heard.{HeardGrounds}
use Rattle.world_upheld.specs.reasons.Accounted.{AccountedFor}
use Rattle.world_upheld.specs.reasons.Counting.{CountAsDates}
use Rattle.world_upheld.specs.reasons.Hearing.{all-hear-of_stops}
use Rattle.world_upheld.specs.reasons.Leaders.{all-acks_known, all-asks_known, all-commits_meet, all-lost-questions_known, all-states_known}
use Rattle.world_upheld.specs.reasons.Requests.{IsSnapshotFetch, all-commits_known, all-fetches_known, all-prepares_known, snapshot-fetches_known}
use Rattle.world_upheld.specs.explained.Explanations.{AllHeardIsKnown, Explanations, IsHeardKnown, MakingIsKnown}
use Rattle.world_upheld.specs.explained.Waiting.{low-within, waiting-meets, waiting-present, waiting-right}
use Rattle.world_upheld.specs.explained.Written.{all-written, opens-there}

-- what a Fetch waits for, and for whom
waits-on : (a x : AttemptId) (p : Parked) → is_waiting a x p ≡ true → (same_attempt p.on a && is_asker x p.ask) ≡ true
unfolding is_waiting
waits-on a x p waits = waits

-- what tells of a question that got no answer
tells-loss : (m : Message) (by : ℕ) (down : Bool) (q n : Message) → TellsReset by down q m → q ≡ n → TellsLoss m n
tells-loss (message.Reset' t2 d place (more_of-Message a rest)) by down q n is same = is.2 ∙ same
tells-loss m by down q n is same = absurd is

tells-down : (t : ℕ) (q m : Message) → TellsReset t true q m → TellsDown t m
tells-down t q (message.Reset' by true place (more_of-Message a rest)) is = is.0
tells-down t q (message.Reset' by false place (more_of-Message a rest)) is = let bad : false ≡ true = is.1 in let no : ⊥ = cc in absurd no
tells-down t q m is = absurd is

-- the letter that a target hears as where nothing stops, or has in hand as its turn is cut
abbrev HasInHand : {r : Rules} {w v : World} → Happening r w v → Letter → Type 0
HasInHand (Plainly (ByClient g) up) l = ⊥
HasInHand (Plainly (ToClient g) up) l = ⊥
HasInHand (Plainly (ToTarget g) up) l = g.l ≡ l
HasInHand (Plainly (ByTarget g) up) l = ⊥
HasInHand (Further g) l = ⊥
HasInHand (IsCut g) l = (reading : ℕ) × (number : ℕ) × (g.work ≡ Hearing l reading number)
HasInHand (Opens g) l = ⊥
HasInHand (Fails g) l = ⊥
HasInHand (GivenUp g) l = ⊥
HasInHand (Draws g) l = ⊥

-- these count as the epochs of attempts
counts-of : (r : Rules) (o : Opening) (late : ℕ) (stored : Stored) (w : World) (X : CausesOverDates r o late stored w) → CountAsDates r w X.dated
counts-of r o late stored w X = record {
  issued = λ x e i. contains-from_has X.dated (x, e) (counts-issued r late X.dated w X.dates x e (has-from_contains w.issued (x, e) i));
  own = issued-own r late X.dated w X.dates;
}

module _ (r : Rules) (o : Opening) (h : History) (stored : Stored) (w : World) (A : AreRulesInForm r)
    (k : AccountedFor r o h stored w) (late : ℕ) (X : CausesOverDates r o late stored w) (D : Doubts r h w) where
  epochs : Epochs r (top o) w
  epochs = k.grounds.heard.epochs

  abbrev dated : Dated
  dated = X.dated

  C : Causes r o stored (with_dates X.dated w)
  C = X.causes

  counts : CountAsDates r w dated
  counts = counts-of r o late stored w X

  -- ---- at a target

  module _ (t : ℕ) (s : TargetState) (here : slice_get w.targets t ≡ Some s) where
    known-at : s.life ≡ Running → IsKnownAt r o (with_dates dated w) t s
    known-at runs =
        let u = k.grounds in
        record {
          target = record {
            floors = floors-told o (with_dates dated w) t s here runs C.floors;
            within = λ floor cont reason i. C.bounded.floors t floor cont reason i;
            dates = C.bounded.issued;
            written = λ v i above. (let z = all-written r o h stored w epochs u.heard.attempts k.owned t s here v i above in (counts.issued v.by v.epoch z.0, z.1));
            once = λ x e f i j. dates-once r (top o) late dated w x e f epochs X.dates i j;
          };
          stamps = λ z i. (let g = k.stamped t s here runs z i in (counts.issued z.by z.epoch g.0, g.1));
          opens = opens-there r o h stored w epochs u.heard.attempts k.owned t s here u.outcomes u.writes D;
        }

    -- what asked of an attempt, and waits, meets it; where that is open to it
    verdict-of : (a : AttemptId) (ask : Option AttemptId) (v : Verdict)
        → ((x : AttemptId) → v ≡ verdicts.Undecided → ask ≡ Some x → IsPresent r w x → IsOpenTo r.script w.lines x a)
        → IsVerdictRight r o dated w.lines (target_plan r t) s.memory (kept s) a ask v
    verdict-of a ask v open' = record {
      asks = λ p i. waiting-right r o h stored w A k late X t s here p i;
      meets = λ p x i asks. waiting-meets r o h stored w A k late X t s here p i x asks;
      open' = λ p x i undecided asked waits. (
        same-is p.on a (and_left (same_attempt p.on a) (is_asker x p.ask) (waits-on a x p waits)),
        λ y asks. (let own : y ≡ x = asks-own p.ask x y (and_right (same_attempt p.on a) (is_asker x p.ask) (waits-on a x p waits)) asks in
            subst (λ z. IsOpenTo r.script w.lines z a) (sym own)
            (open' x undecided asked (subst (IsPresent r w) own (waiting-present r o h stored w A k late X t s here p i y asks)))),
      );
    }
      where
        asks-own : (m : Message) (x y : AttemptId) → is_asker x m ≡ true → AsksFor m y → y ≡ x
        asks-own (message.Fetch z op group ep first tracker q snapshot) x y is same = sym same ∙ same-is z x is
        asks-own m x y is none = absurd none

    verdict-known : (l : Letter) (a : AttemptId) (ask : Option AttemptId) (inc : ℕ) (v : Verdict) → Has l w.messages → l.message ≡ message.Verdict a ask inc v
        → IsVerdictRight r o dated w.lines (target_plan r t) s.memory (kept s) a ask v
    verdict-known l a ask inc v i is = verdict-of a ask v (λ x undecided asked present.
        C.waiting.undecided l x a (contains-from_has w.messages l i)
        (subst (λ m. IsUndecidedFor m x a) (sym (is ∙ ap (λ z. message.Verdict a z inc v) asked ∙ ap (λ z. message.Verdict a (Some x) inc z) undecided)) (refl, refl)) present)

    -- what frees no Fetch, and is no read at a snapshot
    frees-no_read : (q : FetchRequest) → frees_none (fetch_message q) ≡ true → q.snapshot ≡ false
    frees-no_read q none = by q.snapshot refl
      where
        by : (b : Bool) → q.snapshot ≡ b → q.snapshot ≡ false
        by false is = is
        by true is = let on : frees_none (message.Fetch q.attempt q.op q.group q.ep q.first q.tracker q.read true) ≡ true = subst (λ b. frees_none (message.Fetch q.attempt q.op q.group q.ep q.first q.tracker q.read b) ≡ true) is none in let no : ⊥ = cc in absurd no

    heard-as : s.life ≡ Running → (l : Letter) → Has l w.messages → l.to ≡ target t → frees_none l.message ≡ true → IsHeardAs r o stored (with_dates dated w) t s l
    heard-as runs l i to none = record {
      at = known-at runs;
      fetch = λ q is. all-fetches_known r o h stored w A k dated counts C t s here l q i to is (frees-no_read q (subst (λ m. frees_none m ≡ true) is none));
      commit = λ q is. all-commits_known r o h stored w A k dated counts C t s here l q i to is;
      prepare = λ q is. all-prepares_known r o h stored w A k dated counts t s here l q i to is;
      ack = λ a inc refusal is. all-acks_known r o h stored w k dated counts C t s here l a inc refusal i is;
      query = λ a ask is undecided. query-open r h w k.grounds.heard.attempts k.grounds.outcomes k.grounds.writes D t s here a undecided;
      verdict = λ a ask inc v is. (let off : frees_none (message.Verdict a ask inc v) ≡ true = subst (λ m. frees_none m ≡ true) is none in let no : ⊥ = cc in absurd no);
    }

    -- ---- a read at a snapshot

    -- it is known, where the epoch of its snapshot counts
    read-known : (l : Letter) (q : FetchRequest) (e : Epoch) → Has l w.messages → l.to ≡ target t → l.message ≡ fetch_message q → q.snapshot ≡ true → q.ep ≡ Some e → Contains dated (q.attempt, counted_as r late q.attempt e) → IsDatedRead r o dated w.lines q l.from e (kept s)
    read-known l q e i to is at own among =
        let z = snapshot-fetches_known r o h stored w A k t s here l q i to is at in
        record {
          snapshot = at;
          own = own;
          date = counted_as r late q.attempt e;
          its = among;
          up = counted-up r late q.attempt e;
          within = low-within e.0 (counted_as r late q.attempt e).0 (limit_over o w.lines dated) (counted-up r late q.attempt e) (C.bounded.issued q.attempt (counted_as r late q.attempt e) among);
          access = contains-from_has (access_paths (attempt_ops r.script q.attempt)) (read_path q.read) z.0.access;
          from_client = z.1;
          frozen = (fetches-right r.script.targets r o w A.form k.grounds.heard.freezings k.grounds.heard.makings epochs l q.attempt q.op q.group e q.first q.tracker q.read i
              (is ∙ ap (λ ep. message.Fetch q.attempt q.op q.group ep q.first q.tracker q.read q.snapshot) own ∙ ap (λ b. message.Fetch q.attempt q.op q.group (Some e) q.first q.tracker q.read b) at) z.0.asks t s here 0 e refl).1;
        }

    -- what is heard as where nothing stops
    heard-so : s.life ≡ Running → (l : Letter) → Has l w.messages → l.to ≡ target t
        → ((q : FetchRequest) (e : Epoch) → l.message ≡ fetch_message q → q.snapshot ≡ true → q.ep ≡ Some e → Contains dated (q.attempt, counted_as r late q.attempt e)) → ((q : FetchRequest) → l.message ≡ fetch_message q → q.snapshot ≡ true → (e : Epoch) × (q.ep ≡ Some e))
        → IsKnownAt r o (with_dates dated w) t s × IsHeardSo r o stored dated w t s l
    heard-so runs l i to counted bears = (known-at runs, by l.message refl)
      where
        reads : (q : FetchRequest) → l.message ≡ fetch_message q → q.snapshot ≡ true → IsHeardSo r o stored dated w t s l
        reads q is at = let e = bears q is at in IsRead q e.0 is (read-known l q e.0 i to is at e.1 (counted q e.0 is at e.1))

        other : frees_none l.message ≡ true → IsHeardSo r o stored dated w t s l
        other none = IsOther none (heard-as runs l i to none)

        by : (m : Message) → l.message ≡ m → IsHeardSo r o stored dated w t s l
        by (message.Fetch x op group ep first tracker q true) is = reads (fetch_request x op group ep first tracker q true) is refl
        by (message.Fetch x op group ep first tracker q false) is = other (ap frees_none is)
        by (message.Verdict a ask inc v) is = IsVerdict a ask inc v is (verdict-known l a ask inc v i is)
        by m is = other (ap frees_none is)

    -- ---- after stops

    reset-known : (l : Letter) (by : ℕ) (down : Bool) (q : Message) → Has l w.messages → TellsReset by down q l.message → ((a x : AttemptId) → q ≡ message.Query a (Some x) → ⊥) → IsResetKnown r o stored (with_dates dated w) t s by down q
    reset-known l by down q i tells off = record {
      waiting = λ a e u c asks on led row told.
          all-lost-questions_known r o h stored w k dated counts C t s here l by q i (subst (λ d. TellsReset by d q l.message) on tells) a e u c asks led row told;
      query = λ a x asked. absurd (off a x asked);
    }

    -- a question for who waits got no answer
    lost-known : (l : Letter) (by : ℕ) (down : Bool) (a x : AttemptId) → Has l w.messages → TellsReset by down (message.Query a (Some x)) l.message
        → IsVerdictRight r o dated w.lines (target_plan r t) s.memory (kept s) a (Some x) verdicts.Undecided
    lost-known l by down a x i tells = verdict-of a (Some x) verdicts.Undecided (λ y undecided same present.
        stopped-open r h w a (D.lost l a (Some x) i (tells-loss l.message by down (message.Query a (Some x)) (message.Query a (Some x)) tells refl)) y)

    heard-then : s.life ≡ Running → (l : Letter) → Has l w.messages → l.to ≡ target t → IsKnownAt r o (with_dates dated w) t s × IsHeardThen r o stored dated w t s l
    heard-then runs l i to = (known-at runs, by l.message refl)
      where
        further : ((by : ℕ) (down : Bool) (a x : AttemptId) → TellsReset by down (message.Query a (Some x)) l.message → ⊥) → IsHeardThen r o stored dated w t s l
        further off = IsFurther (record {
          at = known-at runs;
          ask = λ x is. all-asks_known r o h stored w k dated counts C t s here l x i is;
          state = λ x inc how is. all-states_known r o h stored w k dated counts C t s here l x inc how i is;
          reset = λ by down q tells. reset-known l by down q i tells (λ a x same. off by down a x (subst (λ z. TellsReset by down z l.message) same tells));
          commit = λ q is. all-commits_known r o h stored w A k dated counts C t s here l q i to is;
          gone = λ q e down is first. all-commits_meet r o h stored w A k t s here l q e down i is first;
        })

        asks : (q : Message) → ((by : ℕ) (down : Bool) (z : Message) → TellsReset by down z l.message → z ≡ q) → (by : ℕ) (down : Bool) → TellsReset by down q l.message → IsHeardThen r o stored dated w t s l
        asks (message.Query a (Some x)) only by down tells = IsLost by down a x tells (lost-known l by down a x i tells)
        asks (message.Query a None) only by down tells = further (λ b d c x is. let same = only b d (message.Query c (Some x)) is in (let no : ⊥ = cc in no))
        asks q only by down tells = further (λ b d c x is. let same = only b d (message.Query c (Some x)) is in (let no : ⊥ = cc in no))

        by : (m : Message) → l.message ≡ m → IsHeardThen r o stored dated w t s l
        by (message.Reset' b d place (more_of-Message q rest)) is = asks q (λ b2 d2 z tells. sym (subst (TellsReset b2 d2 z) is tells).2) b d (subst (TellsReset b d q) (sym is) (refl, refl, refl))
        by m is = further (λ b d a x tells. subst (TellsReset b d (message.Query a (Some x))) is tells)

  -- ---- in an event

  abbrev CountsIn : Letter → Type 0
  CountsIn l = (q : FetchRequest) (e : Epoch) → l.message ≡ fetch_message q → q.snapshot ≡ true → q.ep ≡ Some e → Contains dated (q.attempt, counted_as r late q.attempt e)

  -- a read at a snapshot bears an epoch
  bears : (t : ℕ) (s : TargetState) → slice_get w.targets t ≡ Some s → (l : Letter) → Has l w.messages → l.to ≡ target t → (q : FetchRequest) → l.message ≡ fetch_message q → q.snapshot ≡ true → (e : Epoch) × (q.ep ≡ Some e)
  bears t s here l i to q is at = let z = (snapshot-fetches_known r o h stored w A k t s here l q i to is at).0 in (z.epoch, z.bears)

  pub all-in-event_known : (u : World) (e : Happening r w u) → ((l : Letter) → HasInHand e l → CountsIn l) → IsOtherwiseKnown r o stored dated e
  all-in-event_known u (Plainly (ByClient g) up) counted = tt
  all-in-event_known u (Plainly (ToClient g) up) counted = all-hear-of_stops r o h stored w u A k g
  all-in-event_known u (Plainly (ToTarget g) up) counted = let i = has-taken w.messages g.l g.rest g.takes in heard-so g.t g.s g.here g.runs g.l i g.to_it (counted g.l refl) (bears g.t g.s g.here g.l i g.to_it)
  all-in-event_known u (Plainly (ByTarget g) up) counted = tt
  all-in-event_known u (Further f) counted = λ is. (let g = f.hears in heard-then g.t g.s g.here g.runs g.l (has-taken w.messages g.l g.rest g.takes) g.to_it)
  all-in-event_known u (IsCut g) counted = λ is l reading number works. (
      let hand = subst (IsInHand w g.t) works g.in_hand in
      let i = has-taken w.messages l hand.0.0 hand.0.1 in
      heard-so g.t g.s g.here g.runs l i hand.1 (counted l (reading, number, works)) (bears g.t g.s g.here l i hand.1))
  all-in-event_known u (Opens g) counted = tt
  all-in-event_known u (Fails g) counted = tt
  all-in-event_known u (GivenUp g) counted = tt
  all-in-event_known u (Draws g) counted = tt

-- ---- reads come to count

-- what counts for an attempt
abbrev Counts : (r : Rules) (o : Opening) (late : ℕ) (stored : Stored) (w : World) → Letter → Type 0
Counts r o late stored w l = (X : CausesOverDates r o late stored w) × ((q : FetchRequest) (e : Epoch) → l.message ≡ fetch_message q → q.snapshot ≡ true → q.ep ≡ Some e → Contains X.dated (q.attempt, counted_as r late q.attempt e))

module _ (r : Rules) (o : Opening) (h : History) (stored : Stored) (w : World) (A : AreRulesInForm r) (k : AccountedFor r o h stored w) (late : ℕ) (low : late ≤ 1) (X : CausesOverDates r o late stored w)
    (t : ℕ) (s : TargetState) (here : slice_get w.targets t ≡ Some s) (l : Letter) (i : Has l w.messages) (to : l.to ≡ target t) where
  -- the epoch of a snapshot is within the limit: it is of before the run, or was issued to an attempt that made it; so one later is next to it
  within : (q : FetchRequest) (z : IsSnapshotFetch r o w t q) → (counted_as r late q.attempt z.epoch).0 / 256 ≤ limit_over o w.lines X.dated + 1
  within q z = later (is_at_snapshot r q.attempt) (elim (k.grounds.heard.freezings.origin t s z.sees.cont z.epoch here (z.sees.frozen t s here)) [
    | inl old ↦ low-epoch z.epoch.0 o.lease (limit_over o w.lines X.dated) old (lease-within (2 ^ 55) (length X.dated) (length (restart_numbers w.lines)))
    | inr made ↦ X.causes.bounded.issued made.0 z.epoch (contains-from_has X.dated (made.0, z.epoch) (counts-issued r late X.dated w X.dates made.0 z.epoch made.1))
  ])
    where
      lease-within : (a b c : ℕ) → o.lease ≤ max a o.lease + b + 65536 * c
      lease-within a b c = omega arith

      low-epoch : (n lease c : ℕ) → n ≤ lease * 256 + 255 → lease ≤ c → n / 256 ≤ c
      low-epoch n lease c old up = omega (arith, old, up)

      next : (n c : ℕ) → n / 256 ≤ c → (n + late) / 256 ≤ c + 1
      next n c p = omega (arith, p, low)

      same : (n c : ℕ) → n ≤ c → n ≤ c + 1
      same n c p = omega (arith, p)

      later : (b : Bool) → z.epoch.0 / 256 ≤ limit_over o w.lines X.dated → (if b then record { 0 = z.epoch.0 + late } else z.epoch).0 / 256 ≤ limit_over o w.lines X.dated + 1
      later true p = next z.epoch.0 (limit_over o w.lines X.dated) p
      later false p = same (z.epoch.0 / 256) (limit_over o w.lines X.dated) p

  -- a client whose request is in flight is at its attempt
  begun : (q : FetchRequest) → l.message ≡ fetch_message q → q.snapshot ≡ true → IsBegunBy r w q.attempt
  begun q is at = inl (snapshot-fetches_known r o h stored w A k t s here l q i to is at).0.present

  read-counts : (q : FetchRequest) → l.message ≡ fetch_message q → q.snapshot ≡ true → Counts r o late stored w l
  read-counts q is at =
      let z = (snapshot-fetches_known r o h stored w A k t s here l q i to is at).0 in
      let its : IsEpochOf r w q.attempt z.epoch = k.grounds.heard.epochs.borne l q.attempt z.epoch (contains-from_has w.messages l i)
      (subst (λ m. GoesWith m q.attempt z.epoch) (sym (is ∙ ap (λ ep. message.Fetch q.attempt q.op q.group ep q.first q.tracker q.read q.snapshot) z.bears)) (refl, refl)) in
      let n = reads-count r o late stored w q.attempt z.epoch k.grounds.heard.epochs X z.at its (begun q is at) (within q z) in
      (n.then', λ p e same on own. among z.epoch z.bears n.then'.dated n.among p e same own)
    where
      among : (z : Epoch) → q.ep ≡ Some z → (dated : Dated) → Contains dated (q.attempt, counted_as r late q.attempt z) → (p : FetchRequest) (e : Epoch) → l.message ≡ fetch_message p → p.ep ≡ Some e
          → Contains dated (p.attempt, counted_as r late p.attempt e)
      among z bears dated i p e same own =
          let one : fetch_message q ≡ fetch_message p = sym is ∙ same in
          let attempt : q.attempt ≡ p.attempt = cc in
          let ep : q.ep ≡ p.ep = cc in
          let both : Some z ≡ Some e = sym bears ∙ ep ∙ own in
          let epoch : z ≡ e = cc in
          subst (λ y. Contains dated (y, counted_as r late y e)) attempt (subst (λ f. Contains dated (q.attempt, counted_as r late q.attempt f)) epoch i)

  pub letter-counts : Counts r o late stored w l
  letter-counts = by l.message refl
    where
      off : ((q : FetchRequest) → l.message ≡ fetch_message q → q.snapshot ≡ true → ⊥) → Counts r o late stored w l
      off none = (X, λ q e is at own. absurd (none q is at))

      by : (m : Message) → l.message ≡ m → Counts r o late stored w l
      by (message.Fetch x op group ep first tracker q true) is = read-counts (fetch_request x op group ep first tracker q true) is refl
      by (message.Fetch x op group ep first tracker q false) is = off (λ p same at. let one = sym is ∙ same in (let no : ⊥ = cc (one, at) in no))
      by m is = off (λ p same at. let one = sym is ∙ same in (let no : ⊥ = cc in no))

-- ---- what is known

module _ (r : Rules) (o : Opening) (h : History) (stored : Stored) (w v : World) (A : AreRulesInForm r) (k : Explanations r o h stored w) (e : WorldEvent r w v) where
  a : AccountedFor r o h stored w
  a = k.reasons.accounted

  -- at each lateness
  abbrev Counted : Type 0
  Counted = (late : ℕ) → late ≤ 1 → (X : CausesOverDates r o late stored w) × ((l : Letter) → HasInHand e.happens l → (q : FetchRequest) (f : Epoch) → l.message ≡ fetch_message q → q.snapshot ≡ true → q.ep ≡ Some f
      → Contains X.dated (q.attempt, counted_as r late q.attempt f))

  with-counts : Counted → IsHeardKnown r o h stored w v e
  with-counts counted = record {
    explanations = record { reasons = k.reasons; causes = λ late low. (counted late low).0; places = k.places };
    known = λ late low. all-in-event_known r o h stored w A a late (counted late low).0 k.reasons.doubts e.u e.happens (counted late low).1;
  }

  none-counts : ((l : Letter) → HasInHand e.happens l → ⊥) → IsHeardKnown r o h stored w v e
  none-counts off = with-counts (λ late low. (k.causes late low, λ l hand. absurd (off l hand)))

all-heard-in : (r : Rules) (o : Opening) (h : History) (stored : Stored) (w v : World) → AreRulesInForm r → (k : Explanations r o h stored w) → (u : World) (e : Happening r w u) (after : v ≡ swept u)
    → IsHeardKnown r o h stored w v (record { u = u; happens = e; after = after })
all-heard-in r o h stored w v A k u (Plainly (ByClient g) up) after = none-counts r o h stored w v A k (record { u = u; happens = Plainly (ByClient g) up; after = after }) (λ l hand. hand)
all-heard-in r o h stored w v A k u (Plainly (ToClient g) up) after = none-counts r o h stored w v A k (record { u = u; happens = Plainly (ToClient g) up; after = after }) (λ l hand. hand)
all-heard-in r o h stored w v A k u (Plainly (ToTarget g) up) after =
    with-counts r o h stored w v A k (record { u = u; happens = Plainly (ToTarget g) up; after = after })
    (λ late low. let z = letter-counts r o h stored w A k.reasons.accounted late low (k.causes late low) g.t g.s g.here g.l (has-taken w.messages g.l g.rest g.takes) g.to_it in
    (z.0, λ l same q f is at own. z.1 q f (ap (λ y. y.message) same ∙ is) at own))
all-heard-in r o h stored w v A k u (Plainly (ByTarget g) up) after = none-counts r o h stored w v A k (record { u = u; happens = Plainly (ByTarget g) up; after = after }) (λ l hand. hand)
all-heard-in r o h stored w v A k u (Further g) after = none-counts r o h stored w v A k (record { u = u; happens = Further g; after = after }) (λ l hand. hand)
all-heard-in r o h stored w v A k u (IsCut g) after = by g.work refl
  where
    event : WorldEvent r w v
    event = record { u = u; happens = IsCut g; after = after }

    by : (work : AtWork) → g.work ≡ work → IsHeardKnown r o h stored w v event
    by IdleWork is = none-counts r o h stored w v A k event (λ l hand. let same = hand.2 in (let no : ⊥ = cc (is, same) in no))
    by (Hearing j reading number) is =
        let hand = subst (IsInHand w g.t) is g.in_hand in
        with-counts r o h stored w v A k event
        (λ late low. let z = letter-counts r o h stored w A k.reasons.accounted late low (k.causes late low) g.t g.s g.here j (has-taken w.messages j hand.0.0 hand.0.1) hand.1 in
        (z.0, λ l same q f says at own. z.1 q f (ap (λ y. y.message) (one l same) ∙ says) at own))
      where
        one : (l : Letter) → (n : ℕ) × (m : ℕ) × (g.work ≡ Hearing l n m) → j ≡ l
        one l same = let both : Hearing j reading number ≡ Hearing l same.0 same.1 = sym is ∙ same.2 in cc
all-heard-in r o h stored w v A k u (Opens g) after = none-counts r o h stored w v A k (record { u = u; happens = Opens g; after = after }) (λ l hand. hand)
all-heard-in r o h stored w v A k u (Fails g) after = none-counts r o h stored w v A k (record { u = u; happens = Fails g; after = after }) (λ l hand. hand)
all-heard-in r o h stored w v A k u (GivenUp g) after = none-counts r o h stored w v A k (record { u = u; happens = GivenUp g; after = after }) (λ l hand. hand)
all-heard-in r o h stored w v A k u (Draws g) after = none-counts r o h stored w v A k (record { u = u; happens = Draws g; after = after }) (λ l hand. hand)

pub all-heard_known : AllHeardIsKnown
all-heard_known r o h stored w v A k e = all-heard-in r o h stored w v A k e.u e.happens e.after

-- ---- what makes snapshots

-- where a message tells that a target is down, a line tells that it was given up
downs-told : (r : Rules) (o : Opening) (h : History) (stored : Stored) (w : World) → AccountedFor r o h stored w → DownsHaveLines w
downs-told r o h stored w k l t q i tells = k.downs l t i (tells-down t q l.message tells)

-- an attempt that makes a snapshot reads at none
makers-read_none : (r : Rules) (x : AttemptId) (c : ContId) → IsSnapIn r x c → is_at_snapshot r x ≡ false
makers-read_none r x c makes = ap (λ d. is_some (snapshot_or_none d)) makes.1

pub making-known : MakingIsKnown
making-known r o h stored w A k late low = record {
  some = A.some_attempt;
  many = u.many;
  talk = record { talks = u.talk.talks; nobody = u.talk.nobody; quiet = u.talk.quiet };
  requests = record { letters = u.requests.letters; asked = u.requests.asked; waiters = u.requests.waiters };
  stand = u.stand;
  ends = a.grounds.endings;
  dates = record {
    few = E.few;
    asker = E.asker;
    low = λ l x e i asks. (E.fresh l x e i asks).2;
    fresh = λ l x e i asks f among. (let z = E.fresh l x e i asks in z.1 f (counts.own x f z.4 among));
    one = λ x c e f makes i j. E.one x e f (counts.own x e (makers-read_none r x c makes) i) (counts.own x f (makers-read_none r x c makes) j);
    above = λ x c e makes i. E.above x e (counts.own x e (makers-read_none r x c makes) i);
  };
  makings = record {
    letters = λ l i. so-more r w.issued X.dated covers l.message (u.makings.letters l i);
    asked = λ l i. asks-more r w.issued X.dated covers l.message (u.makings.asked l i);
    collecting = λ t s c here i. collects-more r w.issued X.dated covers c (u.makings.collecting t s c here i);
    lines = λ l i. comes-more r w.issued X.dated covers l (u.makings.lines l i);
  };
  lives = record { told = a.grounds.lives.told; bounded = a.grounds.lives.bounded; stops = a.grounds.lives.stops; restarts = a.grounds.lives.restarts; aggregations = a.grounds.lives.aggregations; drawn = a.grounds.lives.drawn };
  downs = downs-told r o h stored w a;
  places = λ t z here. more (length z.durable.snaps) (length o.stand.snaps) (length (filter (is_frozen_for r.script z.durable) w.issued)) (length (filter (is_frozen_for r.script z.durable) X.dated)) (k.places t z here)
      (subst (λ is. length (filter (is_frozen_for r.script z.durable) is) ≤ length (filter (is_frozen_for r.script z.durable) X.dated)) X.dates.issued (passes-among (is_frozen_for r.script z.durable) (is_own_date r) X.dated));
  refusals = X.refusals;
}
  where
    X : CausesOverDates r o late stored w
    X = k.causes late low

    a : AccountedFor r o h stored w
    a = k.reasons.accounted

    u : HeardGrounds r o h w
    u = a.grounds.heard

    E : Epochs r (top o) w
    E = u.epochs

    counts : CountAsDates r w X.dated
    counts = counts-of r o late stored w X

    covers : (x : AttemptId) (e : Epoch) → Has (x, e) w.issued → Has (x, e) X.dated
    covers = counts-issued r late X.dated w X.dates

    more : (n a b c : ℕ) → n ≤ a + b → b ≤ c → n ≤ a + c
    more n a b c p q = omega (arith, p, q)

-- A target that hears a Fetch serves it, or shows a later write or an attempt in its way that isn't decided, or its ticks are spent;
-- or the Fetch waits for an attempt in its way.
use Rattle.std.specs.List.{list_any}
use Rattle.std.specs.Prelude.{ℕ, ◌≡◌, ◌≤◌, ◌<◌, ◌+◌, ◌/◌, ◌⊎◌, ◌++◌, Bool, true, false, Any, List, [], ◌∷◌, Contains, Option, Some, None, refl, if◌then◌else◌}
use Rattle.std.proofs.Common.{append-nil, sym, ◌∙◌, ap, subst, inl, inr, arith}
use Rattle.std.proofs.lemmas.List.Elements.{Contains-append_left}
use Rattle.std.proofs.lemmas.Option.{some_pair_parts}
use Rattle.base_types.specs.declared.epoch.Epoch.{Epoch}
use Rattle.base_types.specs.declared.id.AttemptId.{AttemptId}
use Rattle.base_types.specs.declared.outcome.Cause.{Cause}
use Rattle.base_types.specs.declared.outcome.Cause.TheVariants as cause
use Rattle.base_types.specs.declared.outcome.FloorWhy.{FloorWhy}
use Rattle.base_types.specs.declared.outcome.FloorWhy.TheVariants as why
use Rattle.base_types.specs.declared.outcome.Outcome.TheVariants as outcome
use Rattle.base_types.specs.declared.report.Attempt.{Attempt}
use Rattle.base_types.specs.declared.report.Line.{Line}
use Rattle.base_types.specs.declared.script.Script.{Script}
use Rattle.base_types.specs.declared.shown.Shown.{Shown}
use Rattle.base_types.specs.Epochs.{last_ticks}
use Rattle.base_types.specs.Operations.{read_path, write_path}
use Rattle.base_types.specs.Paths.{overlaps}
use Rattle.model_laws.specs.EntryLaws.{same-attempt}
use Rattle.model_laws.specs.Lists.{any-of}
use Rattle.model_laws.specs.Members.{Has, contains-from_has, has-cases, has-from_contains, has-left, has-right}
use Rattle.base_messages.specs.declared.actor.ActorId.{ActorId}
use Rattle.base_messages.specs.declared.message.Message.TheVariants as message
use Rattle.base_messages.specs.declared.message.Reply.{Reply}
use Rattle.base_messages.specs.declared.message.Reply.TheVariants as reply
use Rattle.daos_model.specs.Accesses.{access_paths, minor_writes}
use Rattle.daos_model.specs.Attempts.{is_of_client, tried, tries, up_to_last_of}
use Rattle.daos_model.specs.Durables.{row_of, same_attempt}
use Rattle.daos_model.specs.Opening.{Opening, top}
use Rattle.daos_model.specs.Order.{told_by_cause}
use Rattle.daos_model.specs.Transactions.{attempt_ops}
use Rattle.daos_model.specs.Versions.{version_path}
use Rattle.dtx_base.specs.declared.member.Parked.{Parked}
use Rattle.world_base.specs.vos_stamp.Stamps.{write_later}
use Rattle.world_base.specs.declared.did.Did.{Did}
use Rattle.world_base.specs.declared.request.FetchRequest.{FetchRequest}
use Rattle.world_base.specs.declared.target.TargetMemory.{TargetMemory}
use Rattle.world_base.specs.declared.target.TargetPlan.{TargetPlan}
use Rattle.world_base.specs.ClientTurns.{told_by_reply}
use Rattle.world_contents.specs.world_letters.epochs.Epochs.{BearsEpoch}
use Rattle.world_base.specs.Events.{Rules, listed}
use Rattle.world_base.specs.Letters.{client}
use Rattle.world_base.specs.Changes.{Kept}
use Rattle.world_base.specs.Reads as read
use Rattle.world_base.specs.Requests.{issued_for, request_epoch, with_ticks}
use Rattle.world_base.specs.Roles.{other_leader}
use Rattle.world_causes.specs.causes.AtFloors.{HasTarget, IsFloorShown, IsTarget, floor-shown}
use Rattle.world_causes.specs.causes.Causes.{Dated, IsUnanswered, MeetsOther, Stored}
use Rattle.world_causes.specs.causes.Dates.{IsDated, heard-within, limit-rises, request-dated, request-spent}
use Rattle.world_causes.specs.causes.Floors.{IsAggregated, IsFloorAt, IsInTheWay, IsReadRefused, IsWritten, meets-open, read-refused, told-stays}
use Rattle.world_causes.specs.causes.Growth.{meets-more}
use Rattle.world_causes.specs.causes.Lasting.{refusal-shows}
use Rattle.world_causes.specs.causes.Paths.{IsKnown, IsMet, IsOpenStill, IsOthers, Lasts, ReadSoFar}
use Rattle.world_causes.specs.causes.Premises.{AreWritten, IsRequest}
use Rattle.world_causes.specs.causes.Shown.{IsOpenTo, IsOpenToAll, MeetsUnresolved, NotAnswered, ReplyStands, limit_over}
use Rattle.world_causes.specs.causes.Turns.{AllMeet, AllShow, HasNoLine, ParkedMeets}
use Rattle.world_causes.specs.causes.Writes.{IsWriteShown, write-shown, written-stays}

-- what is known of a Fetch, which isn't one at a snapshot
pub record IsFetch (r : Rules) (o : Opening) (issued : Dated) (lines : List Line) (t : TargetPlan) (q : FetchRequest) : Type 0 where
  pub few : t.me < 256
  pub epsilon : t.epsilon ≡ r.epsilon
  pub plain : q.snapshot ≡ false
  pub request : IsRequest o issued lines q.attempt q.ep q.first q.tracker
  pub access : Has (read_path q.read) (access_paths (attempt_ops r.script q.attempt))
  pub target : HasTarget r lines q.attempt t.me

-- ---- what is told

pub told-one : (e : Epoch) (k : ℕ) → Contains (e.0 ∷ []) k → e.0 ≡ k
told-one e k i = by (has-from_contains (e.0 ∷ []) k i)
  where
    by : (k ≡ e.0) ⊎ ⊥ → e.0 ≡ k
    by (inl same) = sym same
    by (inr bad) = absurd bad

pub none-told : (k : ℕ) → Contains [] k → ⊥
none-told k i = has-from_contains [] k i

-- an epoch that is issued is within the limit where the attempt's is
pub issue-within : (o : Opening) (lines : List Line) (issued : Dated) (x : AttemptId) (ep : Option Epoch) (e : Epoch) → e.0 / 256 ≤ limit_over o lines (issued ++ listed (issued_for x ep e))
    → (y : AttemptId) (f : Epoch) → issued_for x ep e ≡ Some (y, f) → f.0 / 256 ≤ limit_over o lines (issued ++ listed (issued_for x ep e))
issue-within o lines issued x None e k y f is = let same : e ≡ f = (some_pair_parts x y e f is).1 in subst (λ g. g.0 / 256 ≤ limit_over o lines (issued ++ listed (issued_for x None e))) same k
issue-within o lines issued x (Some own) e k y f is = let no : ⊥ = cc in absurd no

-- an attempt without a line wasn't answered before any other
up-to-among : (c : ℕ) (lines : List Line) (a : Attempt) → Has a (tries (up_to_last_of c lines)) → Has a (tries lines)
unfolding up_to_last_of tries
up-to-among c [] a i = i
up-to-among c (l ∷ ls) a i = by (up-to-among c ls a) (list_any (is_of_client c) (tries (l ∷ ls))) i
  where
    by : (Has a (tries (up_to_last_of c ls)) → Has a (tries ls)) → (b : Bool) → Has a (tries (if b then l ∷ up_to_last_of c ls else [])) → Has a (tried l ++ tries ls)
    by rest true i = elim (has-cases (tried l) (tries (up_to_last_of c ls)) a i) [ inl j ↦ has-left (tried l) (tries ls) a j | inr j ↦ has-right (tried l) (tries ls) a (rest j) ]
    by rest false i = absurd i

pub unended-unanswered : (lines : List Line) (x by : AttemptId) → HasNoLine lines by → IsUnanswered lines x by
unended-unanswered lines x by none k = none k.1 (up-to-among x.client lines k.1 (has-from_contains (tries (up_to_last_of x.client lines)) k.1 (k.0, k.2, k.3))) k.4

pub unended-open : (s : Script) (lines : List Line) (by : AttemptId) → HasNoLine lines by → IsOpenToAll s lines by
unended-open s lines by none x = NotAnswered (unended-unanswered lines x by none)

-- a request's attempt has one epoch, also where it is issued now
pub one-date : (issued : Dated) (x : AttemptId) (ep : Option Epoch) (e f g : Epoch) → ((a b : Epoch) → Contains issued (x, a) → Contains issued (x, b) → a ≡ b) → (ep ≡ None → (a : Epoch) → Contains issued (x, a) → ⊥)
    → Contains (issued ++ listed (issued_for x ep e)) (x, f) → Contains (issued ++ listed (issued_for x ep e)) (x, g) → f ≡ g
one-date issued x (Some own) e f g one none i j = one f g (subst (λ is. Contains is (x, f)) (append-nil issued) i) (subst (λ is. Contains is (x, g)) (append-nil issued) j)
one-date issued x None e f g one none i j = is f i ∙ sym (is g j)
  where
    its : Epoch → AttemptId × Epoch
    its a = (x, a)

    by : (a : Epoch) → Has (x, a) issued ⊎ ((its a ≡ its e) ⊎ ⊥) → a ≡ e
    by a (inl k) = absurd (none refl a (contains-from_has issued (x, a) k))
    by a (inr (inl same)) = ap (λ z. z.1) same
    by a (inr (inr bad)) = absurd bad

    is : (a : Epoch) → Contains (issued ++ (x, e) ∷ []) (x, a) → a ≡ e
    is a k = by a (has-cases issued ((x, e) ∷ []) (x, a) (has-from_contains (issued ++ (x, e) ∷ []) (x, a) k))

-- an attempt with an epoch meets another one, which isn't itself
pub unresolved-stands : (r : Rules) (lines : List Line) (now : Dated) (x by : AttemptId) → MeetsOther r now x by → IsOpenTo r.script lines x by → ((e f : Epoch) → Contains now (x, e) → Contains now (x, f) → e ≡ f)
    → MeetsUnresolved (same_attempt by x) r now lines x by
unresolved-stands r lines now x by k open' one = choose (same_attempt by x) refl
  where
    choose : (b : Bool) → same_attempt by x ≡ b → MeetsUnresolved b r now lines x by
    choose true is =
        let its : k.other ≡ k.own = one k.other k.own (subst (λ y. Contains now (y, k.other)) (same-attempt by x is) k.others) k.its in
        let low : k.other.0 < k.own.0 = k.below in
        let same : k.other.0 ≡ k.own.0 = ap (λ e. e.0) its in
        absurd (omega (arith, low, same))
    choose false is = (k, open')

-- ---- the ends

-- what a Fetch is left with that a target heard
pub record FetchLeft (r : Rules) (o : Opening) (stored : Stored) (issued : Dated) (lines : List Line) (left : TargetMemory × Did) : Type 0 where
  pub posts : AllShow r o stored (issued ++ listed left.1.issued) lines left.1.posts
  pub ticks : left.0.ticks ≤ limit_over o lines (issued ++ listed left.1.issued)
  pub dated : (x : AttemptId) (e : Epoch) → left.1.issued ≡ Some (x, e) → e.0 / 256 ≤ limit_over o lines (issued ++ listed left.1.issued)
  pub parked : AllMeet r (issued ++ listed left.1.issued) left.0.member.parked

pub up : {a b c : ℕ} → a ≤ b → b ≤ c → a ≤ c
up p q = omega (arith, p, q)

-- what waits goes on to wait for what is in its way
pub meet-more : (r : Rules) (issued more : Dated) (ps : List Parked) → AllMeet r issued ps → AllMeet r (issued ++ more) ps
meet-more r issued more ps h p i x e b = meets-more r issued more x p.on (h p i x e b)

module _ (r : Rules) (o : Opening) (stored : Stored) (issued : Dated) (lines : List Line) (t : TargetPlan) (opening : Epoch × FloorWhy) (m : TargetMemory) (reading : ℕ) (q : FetchRequest) (from : ActorId) (old : Kept)
    (T : IsTarget r o issued lines t.me opening old) (h : IsFetch r o issued lines t q) (own : from ≡ client q.attempt.client) (ticks : m.ticks ≤ limit_over o lines issued) (parked : AllMeet r issued m.member.parked) where
  abbrev now : Epoch → Dated
  now e = issued ++ listed (issued_for q.attempt q.ep e)

  rises : (e : Epoch) → limit_over o lines issued ≤ limit_over o lines (now e)
  rises e = limit-rises o lines issued (listed (issued_for q.attempt q.ep e))

  its : (e : Epoch) → request_epoch t m reading q.tracker q.ep ≡ Some e → IsDated o issued lines q.attempt q.ep q.first e
  its e found = request-dated o issued lines q.attempt q.ep q.first q.tracker t m reading e h.few ticks h.request found

  -- ticks that heard of the epoch
  heard : (e : Epoch) (decided : List AttemptId) → IsDated o issued lines q.attempt q.ep q.first e → (read.memory_then q e decided m).ticks ≤ limit_over o lines (now e)
  heard e decided d =
      subst (λ n. n ≤ limit_over o lines (now e)) (sym (ap (λ b. (if b then m else with_ticks e m).ticks) h.plain)) (heard-within m.ticks e.0 (limit_over o lines (now e)) (up ticks (rises e)) d.within)

  member-then : (e : Epoch) (decided : List AttemptId) → (read.memory_then q e decided m).member ≡ m.member
  member-then e decided = by q.snapshot
    where
      by : (b : Bool) → (if b then m else with_ticks e m).member ≡ m.member
      by true = refl
      by false = refl

  -- the client is told how its read went
  tells-left : (e : Epoch) (decided : List AttemptId) (b : Reply) (memory : TargetMemory) (left : TargetMemory × Did) → IsDated o issued lines q.attempt q.ep q.first e → memory.ticks ≡ (read.memory_then q e decided m).ticks
      → memory.member ≡ (read.memory_then q e decided m).member → left ≡ (memory, read.tells q from e b) → ReplyStands r o stored (now e) lines q.attempt b
      → ((n : ℕ) → Contains (e.0 ∷ told_by_reply b) n → n / 256 ≤ limit_over o lines (now e)) → FetchLeft r o stored issued lines left
  tells-left e decided b memory left d ticks' member is shows told = subst (FetchLeft r o stored issued lines) (sym is) (record {
    posts = (record { shows = shows; told = told; undecided = λ x by k. absurd k; asked = λ x k. absurd k; own = λ x same. own ∙ ap (λ y. client y.client) same }, tt);
    ticks = subst (λ n. n ≤ limit_over o lines (now e)) (sym ticks') (heard e decided d);
    dated = issue-within o lines issued q.attempt q.ep e d.within;
    parked = subst (λ z. AllMeet r (now e) z.parked) (sym (member ∙ member-then e decided)) (meet-more r issued (listed (issued_for q.attempt q.ep e)) m.member.parked parked);
  })

  written-at : (k : Kept) (left : List AttemptId) → Lasts r.script t lines (top o) old left k → AreWritten r issued (top o) k.durable.versions
  written-at k left w = written-stays r issued (top o) old.durable.versions k.durable.versions T.written w.olds

  -- a later write refuses the read
  write-refuses : (k : Kept) (e : Epoch) (dec : List AttemptId) (left : TargetMemory × Did) → IsDated o issued lines q.attempt q.ep q.first e → Lasts r.script t lines (top o) old dec k → (z : Shown)
      → read.later_of t q.first e (read_path q.read) k.durable ≡ Some z → left ≡ (read.memory_then q e dec m, read.tells q from e (reply.Outcome (outcome.Restart (write_later z)))) → FetchLeft r o stored issued lines left
  write-refuses k e dec left d w z later is = tells-left e dec (reply.Outcome (outcome.Restart (write_later z))) (read.memory_then q e dec m) left d refl refl is shown.shows (λ n i. told n (has-from_contains (e.0 ∷ z.epoch.0 ∷ []) n i))
    where
      shown : IsWriteShown r issued (now e) lines q.attempt z
      shown = write-shown r o issued lines t q.attempt q.ep q.first e (read_path q.read) k.durable z h.epsilon d (written-at k dec w) h.access later

      told : (n : ℕ) → Has n (e.0 ∷ z.epoch.0 ∷ []) → n / 256 ≤ limit_over o lines (now e)
      told n (inl same) = subst (λ f. f / 256 ≤ limit_over o lines (now e)) (sym same) d.within
      told n (inr (inl same)) = subst (λ f. f / 256 ≤ limit_over o lines (now e)) (sym same) (up (T.dates z.by z.epoch shown.writer) (rises e))
      told n (inr (inr bad)) = absurd bad

  -- the epoch that it was aggregated to refuses the read
  floor-refuses : (k : Kept) (e : Epoch) (dec : List AttemptId) (left : TargetMemory × Did) (c : Cause) → IsDated o issued lines q.attempt q.ep q.first e → Lasts r.script t lines (top o) old dec k
      → IsFloorAt t.me e.0 ((row_of k.durable (read_path q.read).cont).aggregated, why.Aggregate (row_of k.durable (read_path q.read).cont).number) c → left ≡ (read.memory_then q e dec m, read.tells q from e (reply.Outcome (outcome.Restart c)))
      → FetchLeft r o stored issued lines left
  floor-refuses k e dec left c d w at is = tells-left e dec (reply.Outcome (outcome.Restart c)) (read.memory_then q e dec m) left d refl refl is (refusal-shows r o stored (now e) lines q.attempt (outcome.Restart c) shown.stands) (λ n i. told n (has-from_contains (e.0 ∷ told_by_cause c) n i))
    where
      shown : IsFloorShown r o issued (now e) lines q.attempt c
      shown = floor-shown r o issued (now e) lines t.me opening old q.attempt e (read_path q.read) ((row_of k.durable (read_path q.read).cont).aggregated, why.Aggregate (row_of k.durable (read_path q.read).cont).number) c T d.above d.its h.access h.target
          ((told-stays o lines t.me opening old.durable k.durable w.conts T.floors).aggregated (read_path q.read).cont) at

      told : (n : ℕ) → (n ≡ e.0) ⊎ Has n (told_by_cause c) → n / 256 ≤ limit_over o lines (now e)
      told n (inl same) = subst (λ f. f / 256 ≤ limit_over o lines (now e)) (sym same) d.within
      told n (inr i) = up (shown.told n i) (rises e)

  -- an attempt is in the read's way
  meets : (k : Kept) (e : Epoch) (dec : List AttemptId) (a : AttemptId) → IsDated o issued lines q.attempt q.ep q.first e → Lasts r.script t lines (top o) old dec k → IsInTheWay q.read e k.durable a → MeetsOther r (now e) q.attempt a
  meets k e dec a d w v = record {
    own = e;
    its = d.its;
    other = v.v.epoch;
    others = Contains-append_left issued (listed (issued_for q.attempt q.ep e)) (a, v.v.epoch) (subst (λ x. Contains issued (x, v.v.epoch)) v.its wrote.0);
    below = v.below;
    overlap = subst (λ x. Any (λ w. Any (λ p. overlaps p (write_path w.write) ≡ true) (access_paths (attempt_ops r.script q.attempt))) (minor_writes 0 (attempt_ops r.script x))) v.its
        (wrote.1.0, wrote.1.1, wrote.1.2, wrote.1.3, any-of (λ p. overlaps p (write_path wrote.1.1.write) ≡ true) (access_paths (attempt_ops r.script q.attempt)) (read_path q.read) h.access (subst (λ p. overlaps (read_path q.read) p ≡ true) (sym wrote.1.4) v.overlap));
  }
    where
      wrote : Contains issued (v.v.by, v.v.epoch) × Any (λ w. write_path w.write ≡ version_path v.v) (minor_writes 0 (attempt_ops r.script v.v.by))
      wrote = written-at k dec w v.v v.among (w.opens v.v v.among v.unsettled).above

  -- it is open to any other
  still-open : (k : Kept) (e : Epoch) (dec : List AttemptId) (a : AttemptId) → Lasts r.script t lines (top o) old dec k → IsInTheWay q.read e k.durable a → (Contains dec a → ⊥) → other_leader t a k.durable ≡ None → IsOpenToAll r.script lines a
  still-open k e dec a w v unknown alone = by (subst (IsMet r.script t lines k.durable dec) v.its (w.opens v.v v.among v.unsettled).met)
    where
      by : IsMet r.script t lines k.durable dec a → IsOpenToAll r.script lines a
      by (IsKnown i) = absurd (unknown (contains-from_has dec a i))
      by (IsOthers leader is) = let no : ⊥ = cc in absurd no
      by (IsOpenStill open') = open'

  -- the Fetch waits
  parks : (k : Kept) (e : Epoch) (dec : List AttemptId) (a : AttemptId) (leader : ℕ) (left : TargetMemory × Did) → IsDated o issued lines q.attempt q.ep q.first e → MeetsOther r (now e) q.attempt a
      → left ≡ (read.memory_parked t q e dec a leader m, read.asks_leader q e a leader) → FetchLeft r o stored issued lines left
  parks k e dec a leader left d met is = subst (FetchLeft r o stored issued lines) (sym is) (record {
    posts = (record { shows = tt; told = λ n i. absurd (none-told n i); undecided = λ x by u. absurd u; asked = λ x same. (e, subst (λ y. Contains (now e) (y, e)) same d.its); own = λ x u. absurd u }, tt);
    ticks = heard e dec d;
    dated = issue-within o lines issued q.attempt q.ep e d.within;
    parked = λ p i. placed p (has-cases m.member.parked (record { on = a; leader = leader; ask = read.fetch_at q e } ∷ []) p i);
  })
    where
      bears-own : (x : AttemptId) (f : Epoch) (b : Bool) → BearsEpoch (message.Fetch q.attempt q.op q.group (Some e) q.first q.tracker q.read b) x f → q.attempt ≡ x
      bears-own x f true u = absurd u
      bears-own x f false u = u.0

      placed : (p : Parked) → Has p m.member.parked ⊎ ((p ≡ record { on = a; leader = leader; ask = read.fetch_at q e }) ⊎ ⊥) → ParkedMeets r (now e) p
      placed p (inl i) x f b = meets-more r issued (listed (issued_for q.attempt q.ep e)) x p.on (parked p i x f b)
      placed p (inr (inl same)) x f b =
          let mine : q.attempt ≡ x = bears-own x f q.snapshot (subst (λ z. BearsEpoch z.ask x f) same b) in
          subst (λ z. MeetsOther r (now e) x z.on) (sym same) (subst (λ y. MeetsOther r (now e) y a) mine met)
      placed p (inr (inr bad)) x f b = absurd bad

  pub fetch-ends : (s : read.FetchStage) (k : Kept) (left : TargetMemory × Did) → ReadSoFar r.script t lines (top o) m reading q old s k → read.FetchEnds t m reading q from s k left → FetchLeft r o stored issued lines left
  fetch-ends s k left w (read.IsSpent j z plain none is) = subst (FetchLeft r o stored issued lines) (sym is) (record {
    posts = (
      record {
        shows = record { before = issued; since = []; among = refl; none = (h.request.fresh spent.0).0; spent = spent.1 };
        told = λ n i. absurd (none-told n i);
        undecided = λ x by u. absurd u;
        asked = λ x u. absurd u;
        own = λ x same. own ∙ ap (λ y. client y.client) same;
      },
      tt,
    );
    ticks = subst (λ is'. m.ticks ≤ limit_over o lines is') (sym (append-nil issued)) ticks;
    dated = λ x e i. let no : ⊥ = cc in absurd no;
    parked = meet-more r issued [] m.member.parked parked;
  })
    where
      spent : (q.ep ≡ None) × (last_ticks < limit_over o lines issued + 1)
      spent = request-spent o issued lines q.attempt q.ep q.first q.tracker t m reading ticks h.request none
  fetch-ends s k left w (read.IsRefused j e dec c z because is) = by (read-refused t q e k.durable c h.plain because)
    where
      d : IsDated o issued lines q.attempt q.ep q.first e
      d = its e w.dated

      by : IsReadRefused t q e k.durable c → FetchLeft r o stored issued lines left
      by (IsAggregated at) = floor-refuses k e dec left c d w.lasts at is
      by (IsWritten y later same) = write-refuses k e dec left d w.lasts y later (is ∙ ap (λ b. (read.memory_then q e dec m, read.tells q from e (reply.Outcome (outcome.Restart b)))) same)
  fetch-ends s k left w (read.MeetsUnresolved j e dec a z free unsettled unknown alone is) =
      let d = its e w.dated in
      let v = meets-open q.read e k.durable a unsettled in
      tells-left e dec (reply.Outcome (outcome.Restart (cause.Unresolved a))) (read.memory_then q e dec m) left d refl refl is
      (unresolved-stands r lines (now e) q.attempt a (meets k e dec a d w.lasts v) (still-open k e dec a w.lasts v unknown alone q.attempt) (λ f g i j. one-date issued q.attempt q.ep e f g (T.once q.attempt) (λ none. (h.request.fresh none).0) i j)) (λ n i. subst (λ f. f / 256 ≤ limit_over o lines (now e)) (told-one e n i) d.within)
  fetch-ends s k left w (read.IsParked j e dec a leader z free unsettled other is) =
      let d = its e w.dated in
      let v = meets-open q.read e k.durable a unsettled in
      parks k e dec a leader left d (meets k e dec a d w.lasts v) is
  fetch-ends s k left w (read.IsServed j e dec b z free served is) =
      let d = its e w.dated in
      tells-left e dec (reply.Answer b) (record (read.memory_then q e dec m) { stamps = read.stamps_with q e m.stamps }) left d refl refl is tt (λ n i. subst (λ f. f / 256 ≤ limit_over o lines (now e)) (told-one e n i) d.within)

-- The events of a target keep that outcomes show their causes.
use Rattle.std.specs.Prelude.{ℕ, ◌≡◌, ◌≤◌, ◌+◌, ◌/◌, ◌⊎◌, ◌++◌, List, [], map, Contains, slice_get, Option, Some, None, refl}
use Rattle.std.proofs.Common.{append-nil, sym, ◌∙◌, ap, subst, inl, inr, arith}
use Rattle.std.proofs.lemmas.List.Elements.{Contains-append_left}
use Rattle.std.proofs.Math.ListN.{set}
use Rattle.base_types.specs.declared.epoch.Epoch.{Epoch}
use Rattle.base_types.specs.declared.id.AttemptId.{AttemptId}
use Rattle.model_laws.specs.Members.{Has, contains-from_has, has-cases, has-from_contains, has-from_map}
use Rattle.base_messages.specs.declared.message.Message.{Message}
use Rattle.base_messages.specs.declared.message.Message.TheVariants as message
use Rattle.base_messages.specs.declared.message.Post.{Post}
use Rattle.daos_model.specs.Opening.{Opening, top}
use Rattle.world_base.specs.declared.did.Did.{Did}
use Rattle.world_base.specs.declared.letter.Letter.{Letter}
use Rattle.world_base.specs.declared.request.FetchRequest.{FetchRequest}
use Rattle.world_base.specs.declared.target.TargetMemory.{TargetMemory}
use Rattle.world_base.specs.declared.target.TargetState.{TargetState}
use Rattle.world_base.specs.declared.target.Life.TheVariants.{Running}
use Rattle.world_base.specs.declared.world.World.{World}
use Rattle.world_contents.specs.world_letters.epochs.Epochs.{IsPresent}
use Rattle.world_base.specs.Events.{Rules, TargetHearsRightly, TargetIdles, after_turn, kept, listed, target_after, target_plan, with_epoch, with_target}
use Rattle.world_base.specs.Letters.{asked_after, client, letter_of, letters_of, target}
use Rattle.world_contents.specs.world_letters.talks.TalkLaws.{left-is-among, taken-is-among}
use Rattle.world_base.specs.Acks as ack
use Rattle.world_base.specs.Changes.{Kept}
use Rattle.world_base.specs.MemoryLaws.{hears-follows, idles-follows}
use Rattle.world_base.specs.Reads as read
use Rattle.world_base.specs.RightTurns.{HearsRightly}
use Rattle.world_base.specs.TargetTurns.{commit_request, fetch_request, prepare_request}
use Rattle.world_base.specs.TurnLaws.{idles-keeps, rightly-keeps}
use Rattle.world_base.specs.Turns.{Whole}
use Rattle.world_causes.specs.causes.Causes.{Dated, EndsOf, IsAskedFor, IsUndecidedFor, MeetsOther, Stored, blocks_of_stored, epochs_told, stored_by}
use Rattle.world_causes.specs.causes.CommitTurns.{commit-leaves, space-same}
use Rattle.world_causes.specs.causes.Dates.{limit-rises}
use Rattle.world_causes.specs.causes.Growth.{at-set, blocks-more, meets-more}
use Rattle.world_causes.specs.causes.MemberTurns.{ack-leaves, idle-leaves, mark-leaves, marked-leaves, query-leaves}
use Rattle.world_causes.specs.causes.Paths.{read-path}
use Rattle.world_causes.specs.causes.PrepareTurns.{prepare-leaves}
use Rattle.world_causes.specs.causes.ReadTurns.{FetchLeft, fetch-ends}
use Rattle.world_causes.specs.causes.Turns.{AllMeet, Leaves, all-each}
use Rattle.world_base.specs.Requests.{fetch_message}
use Rattle.world_base.specs.TurnLaws.{KeepsAs}
use Rattle.world_causes.specs.causes.FloorLaws.{turns-keep-floors}
use Rattle.world_causes.specs.causes.Heard.{IsHeardAs, meet-at}
use Rattle.world_causes.specs.causes.Lasting.{message-more, outcome-more}
use Rattle.world_causes.specs.causes.Leases.{IsLeasedBelow, hears-leased, idles-leased, leased-near}
use Rattle.world_causes.specs.causes.Shown.{Causes, IsOpenTo, MessageStands, OutcomeStands, limit_over}
use Rattle.world_causes.specs.causes.Turns.{none-of}

-- ---- the world after a turn

listed-has : (x : Option (AttemptId × Epoch)) (i : AttemptId × Epoch) → Has i (listed x) → x ≡ Some i
listed-has None i h = absurd h
listed-has (Some j) i (inl same) = ap (λ z. Some z) (sym same)
listed-has (Some j) i (inr bad) = absurd bad

-- the world once a target's turn left this
pub leaves-keep : (r : Rules) (o : Opening) (stored : Stored) (w : World) (t : ℕ) (s : TargetState) (new : Kept) (memory : TargetMemory) (did : Did) (rest : List Letter) → Causes r o stored w → slice_get w.targets t ≡ Some s
    → ((l : Letter) → Contains rest l → Contains w.messages l) → did.lines ≡ [] → KeepsAs s.durable new.durable → IsLeasedBelow o w new → Leaves r o stored w.issued w.lines t (kept s) new (memory, did)
    → Causes r o (stored_by t s.durable new.durable ++ stored) (with_target t (target_after s new memory) (after_turn w (target t) did rest))
leaves-keep r o stored w t s new memory did rest C here among none keeps leased L = subst (λ ls. Causes r o (more ++ stored) (record w { targets = set w.targets t (target_after s new memory); messages = rest ++ letters_of (target t) did.posts; asked = asked_after w.asked (letters_of (target t) did.posts); issued = now; lines = ls })) (sym lines) (record {
  bounded = record {
    ticks = at-set w.targets t s (target_after s new memory) (λ u z. z.life ≡ Running → z.memory.ticks ≤ limit_over o w.lines now) here (λ k. L.ticks) (λ u z at k. up (C.bounded.ticks u z at k));
    trackers = λ n c at. up (C.bounded.trackers n c at);
    issued = λ x e i. dated x e (has-cases w.issued (listed did.issued) (x, e) (has-from_contains now (x, e) i));
    told = λ l e i j. told l e j (sent l i);
    floors = λ u floor cont reason i. up (C.bounded.floors u floor cont reason i);
    leases = at-set w.targets t s (target_after s new memory) (λ u z. z.durable.lease ≤ limit_over o w.lines now + 65536) here (leased-near o w (listed did.issued) new leased) (λ u z at. up-lease (C.bounded.leases u z at));
  };
  space = at-set w.targets t s (target_after s new memory) (λ u z. o.free u ≤ z.free + blocks_of_stored r.script u (more ++ stored)) here space-here space-there;
  floors = turns-keep-floors w (record w { targets = set w.targets t (target_after s new memory); messages = rest ++ letters_of (target t) did.posts; asked = asked_after w.asked (letters_of (target t) did.posts); issued = now }) t s new memory [] here refl (sym (append-nil w.lines)) keeps o C.floors;
  waiting = record {
    meets = λ u z p x e at i b. at-set w.targets t s (target_after s new memory) (λ u z. Contains z.memory.member.parked p → MeetsOther r now x p.on) here
        (λ i. L.parked p (has-from_contains memory.member.parked p i) x e b) (λ u z at i. meets-more r w.issued (listed did.issued) x p.on (C.waiting.meets u z p x e at i b)) u z at i;
    undecided = λ l x by i u p. undecided l x by u p (sent l i);
    asked = λ l x i u. asked l x u (sent l i);
    own = λ l x i u. own l x u (sent l i);
  };
  flight = λ l i. shows l (sent l i);
  lines = λ before a after e. subst (λ ls. OutcomeStands r o (more ++ stored) now ls a.id a.outcome) (append-nil before) (outcome-more r o more stored w.issued (listed did.issued) before [] a.id (none-of a.id.client) a.outcome (C.lines before a after e));
})
  where
    now : Dated
    now = w.issued ++ listed did.issued

    more : Stored
    more = stored_by t s.durable new.durable

    up : {n : ℕ} → n ≤ limit_over o w.lines w.issued → n ≤ limit_over o w.lines now
    up k = let g : limit_over o w.lines w.issued ≤ limit_over o w.lines now = limit-rises o w.lines w.issued (listed did.issued) in omega (arith, k, g)

    up-lease : {n : ℕ} → n ≤ limit_over o w.lines w.issued + 65536 → n ≤ limit_over o w.lines now + 65536
    up-lease {n = n} k = by (limit_over o w.lines w.issued) (limit_over o w.lines now) k (limit-rises o w.lines w.issued (listed did.issued))
      where
        by : (a b : ℕ) → n ≤ a + 65536 → a ≤ b → n ≤ b + 65536
        by a b p q = omega (arith, p, q)

    dated : (x : AttemptId) (e : Epoch) → Has (x, e) w.issued ⊎ Has (x, e) (listed did.issued) → e.0 / 256 ≤ limit_over o w.lines now
    dated x e (inl i) = up (C.bounded.issued x e (contains-from_has w.issued (x, e) i))
    dated x e (inr i) = L.dated x e (listed-has did.issued (x, e) i)

    Sent : Letter → Type 0
    Sent l = Contains w.messages l ⊎ ((q : Post) × Has q did.posts × (letter_of (target t) q ≡ l))

    sent : (l : Letter) → Contains (rest ++ letters_of (target t) did.posts) l → Sent l
    sent l i = elim (has-cases rest (letters_of (target t) did.posts) l (has-from_contains (rest ++ letters_of (target t) did.posts) l i)) [
      | inl j ↦ inl (among l (contains-from_has rest l j))
      | inr j ↦ inr (has-from_map (letter_of (target t)) did.posts l j)
    ]

    told : (l : Letter) (e : ℕ) → Contains (epochs_told l.message) e → Sent l → e / 256 ≤ limit_over o w.lines now
    told l e j (inl i) = up (C.bounded.told l e i j)
    told l e j (inr q) = (all-each r o (more ++ stored) now w.lines did.posts q.0 L.posts q.1).told e (subst (λ z. Contains (epochs_told z.message) e) (sym q.2) j)

    shows : (l : Letter) → Sent l → MessageStands r o (more ++ stored) now w.lines l.message
    shows l (inl i) = subst (λ ls. MessageStands r o (more ++ stored) now ls l.message) (append-nil w.lines) (message-more r o more stored w.issued (listed did.issued) w.lines [] l.message (λ x k. none-of x.client) (C.flight l i))
    shows l (inr q) = subst (λ z. MessageStands r o (more ++ stored) now w.lines z.message) q.2 (all-each r o (more ++ stored) now w.lines did.posts q.0 L.posts q.1).shows

    undecided : (l : Letter) (x by : AttemptId) → IsUndecidedFor l.message x by → IsPresent r w x → Sent l → IsOpenTo r.script w.lines x by
    undecided l x by u p (inl i) = C.waiting.undecided l x by i u p
    undecided l x by u p (inr q) = (all-each r o (more ++ stored) now w.lines did.posts q.0 L.posts q.1).undecided x by (subst (λ z. IsUndecidedFor z.message x by) (sym q.2) u)

    asked : (l : Letter) (x : AttemptId) → IsAskedFor l.message x → Sent l → (e : Epoch) × Contains now (x, e)
    asked l x u (inl i) = let e = C.waiting.asked l x i u in (e.0, Contains-append_left w.issued (listed did.issued) (x, e.0) e.1)
    asked l x u (inr q) = (all-each r o (more ++ stored) now w.lines did.posts q.0 L.posts q.1).asked x (subst (λ z. IsAskedFor z.message x) (sym q.2) u)

    own : (l : Letter) (x : AttemptId) → EndsOf l.message x → Sent l → l.to ≡ client x.client
    own l x u (inl i) = C.waiting.own l x i u
    own l x u (inr q) = sym (ap (λ z. z.to) q.2) ∙ (all-each r o (more ++ stored) now w.lines did.posts q.0 L.posts q.1).own x (subst (λ z. EndsOf z.message x) (sym q.2) u)

    space-here : o.free t ≤ new.free + blocks_of_stored r.script t (more ++ stored)
    space-here =
        let p : o.free t ≤ s.free + blocks_of_stored r.script t stored = C.space t s here in
        let q : s.free + blocks_of_stored r.script t stored ≤ new.free + blocks_of_stored r.script t (more ++ stored) = L.space in
        omega (arith, p, q)

    space-there : (u : ℕ) (z : TargetState) → slice_get w.targets u ≡ Some z → o.free u ≤ z.free + blocks_of_stored r.script u (more ++ stored)
    space-there u z at =
        let p : o.free u ≤ z.free + blocks_of_stored r.script u stored = C.space u z at in
        let q : blocks_of_stored r.script u stored ≤ blocks_of_stored r.script u (more ++ stored) = blocks-more r.script u more stored in
        omega (arith, p, q)

    lines : w.lines ++ map (with_epoch w.issued) did.lines ≡ w.lines
    lines = ap (λ ls. w.lines ++ map (with_epoch w.issued) ls) none ∙ append-nil w.lines

-- ---- a target hears

hears-leaves : (r : Rules) (o : Opening) (stored : Stored) (w v : World) (C : Causes r o stored w) (g : TargetHearsRightly r w v) (K : IsHeardAs r o stored w g.t g.s g.l) (said : Message) → g.l.message ≡ said
    → HearsRightly (target_plan r g.t) g.s.opening g.s.memory g.reading g.l.from said (kept g.s) g.new (g.memory, g.did) → Leaves r o stored w.issued w.lines g.t (kept g.s) g.new (g.memory, g.did)
hears-leaves r o stored w v C g K said is turn = by said is turn
  where
    among : Contains w.messages g.l
    among = taken-is-among w.messages g.l g.rest g.takes

    ticks : g.s.memory.ticks ≤ limit_over o w.lines w.issued
    ticks = C.bounded.ticks g.t g.s g.here g.runs

    meet : AllMeet r w.issued g.s.memory.member.parked
    meet = meet-at r o stored w g.t g.s C g.here

    fetch : (q : FetchRequest) → g.l.message ≡ fetch_message q → Whole (read.FetchNext (target_plan r g.t) g.s.memory g.reading q) (read.FetchEnds (target_plan r g.t) g.s.memory g.reading q g.l.from) read.Asked (kept g.s) g.new (g.memory, g.did)
        → Leaves r o stored w.issued w.lines g.t (kept g.s) g.new (g.memory, g.did)
    fetch q is w' =
        let f = K.fetch q is in
        let so = read-path r.script (target_plan r g.t) w.lines (top o) g.s.memory g.reading q (kept g.s) w'.last g.new w'.reached.did f.0.plain K.at.opens w'.reached.path in
        let k : FetchLeft r o (stored_by g.t g.s.durable g.new.durable ++ stored) w.issued w.lines (g.memory, g.did) =
        fetch-ends r o (stored_by g.t g.s.durable g.new.durable ++ stored) w.issued w.lines (target_plan r g.t) g.s.opening g.s.memory g.reading q g.l.from (kept g.s) K.at.target f.0 f.1 ticks meet w'.last g.new (g.memory, g.did) so w'.ends in
        record { posts = k.posts; ticks = k.ticks; dated = k.dated; space = space-same r.script g.t stored (kept g.s) g.new so.lasts.free; parked = k.parked }

    by : (m : Message) → g.l.message ≡ m → HearsRightly (target_plan r g.t) g.s.opening g.s.memory g.reading g.l.from m (kept g.s) g.new (g.memory, g.did) → Leaves r o stored w.issued w.lines g.t (kept g.s) g.new (g.memory, g.did)
    by (message.Fetch x op group ep first tracker y snapshot) is k = fetch (fetch_request x op group ep first tracker y snapshot) is k
    by (message.Commit x ep first tracker ws) is k =
        let c = K.commit (commit_request x ep first tracker ws) is in
        commit-leaves r o stored w.issued w.lines g.t g.s.opening g.s.memory g.reading (commit_request x ep first tracker ws) g.l.from (kept g.s) K.at.target c.0 c.1 ticks meet K.at.stamps (C.space g.t g.s g.here) g.new (g.memory, g.did) k
    by (message.Prepare e first ws inc) is k =
        prepare-leaves r o stored w.issued w.lines g.t g.s.opening g.s.memory (prepare_request e first ws inc) (kept g.s) K.at.target (K.prepare (prepare_request e first ws inc) is) ticks meet K.at.stamps (C.space g.t g.s g.here) g.new (g.memory, g.did) k
    by (message.Ack x inc refusal) is k = ack-leaves r o stored w.issued w.lines g.t (target_plan r g.t) g.s.memory (kept g.s) ticks meet g.l.from.number x inc refusal g.new (g.memory, g.did) (K.ack x inc refusal is) k
    by (message.Mark inc marks) is k = mark-leaves r o stored w.issued w.lines g.t (target_plan r g.t) g.s.memory (kept g.s) ticks meet g.l.from inc marks g.new (g.memory, g.did) k
    by (message.Marked inc ids) is k = marked-leaves r o stored w.issued w.lines g.t (target_plan r g.t) g.s.memory (kept g.s) ticks meet g.l.from.number inc ids (ack.to_confirm inc ids g.s.durable) g.new (g.memory, g.did) k
    by (message.Query x ask) is k =
        query-leaves r o stored w.issued w.lines g.t (target_plan r g.t) g.s.memory (kept g.s) ticks meet g.l.from x ask g.new (g.memory, g.did)
        (λ y asked undecided. K.query x ask is undecided y)
        (λ y asked. C.waiting.asked g.l y among (subst (λ m. IsAskedFor m y) (sym (is ∙ ap (message.Query x) asked)) refl)) k
    by (message.Verdict x ask inc v') is k = absurd (K.verdict x ask inc v' is)
    by m is k = absurd k

pub target-hears-keeps : (r : Rules) (o : Opening) (stored : Stored) (w v : World) → Causes r o stored w → (g : TargetHearsRightly r w v) → IsHeardAs r o stored w g.t g.s g.l → Causes r o (stored_by g.t g.s.durable g.new.durable ++ stored) v
target-hears-keeps r o stored w v C g K =
    subst (Causes r o (stored_by g.t g.s.durable g.new.durable ++ stored)) (sym g.after)
    (leaves-keep r o stored w g.t g.s g.new g.memory g.did g.rest C g.here (λ l i. left-is-among w.messages g.l g.rest l g.takes i)
    (hears-follows (target_plan r g.t) g.s.opening g.s.memory g.reading g.l.from g.l.message (kept g.s) g.new (g.memory, g.did) g.turn).lines
    (rightly-keeps (target_plan r g.t) g.s.opening g.s.memory g.reading g.l.from g.l.message (kept g.s) g.new (g.memory, g.did) g.turn)
    (hears-leased r o stored w v g K C)
    (hears-leaves r o stored w v C g K g.l.message refl g.turn))

-- ---- a target does its idle work

pub target-idles-keeps : (r : Rules) (o : Opening) (stored : Stored) (w v : World) → Causes r o stored w → (g : TargetIdles r w v) → Causes r o (stored_by g.t g.s.durable g.new.durable ++ stored) v
target-idles-keeps r o stored w v C g =
    subst (Causes r o (stored_by g.t g.s.durable g.new.durable ++ stored)) (sym g.after)
    (leaves-keep r o stored w g.t g.s g.new g.memory g.did w.messages C g.here (λ l i. i)
    (idles-follows g.settling (target_plan r g.t) g.s.memory (kept g.s) g.new (g.memory, g.did) g.turn).lines
    (idles-keeps g.settling (target_plan r g.t) g.s.memory (kept g.s) g.new (g.memory, g.did) g.turn)
    (idles-leased r o stored w v g C)
    (idle-leaves r o stored w.issued w.lines g.t (target_plan r g.t) g.s.memory (kept g.s) (C.bounded.ticks g.t g.s g.here g.runs) (meet-at r o stored w g.t g.s C g.here) g.settling g.new (g.memory, g.did) g.turn))

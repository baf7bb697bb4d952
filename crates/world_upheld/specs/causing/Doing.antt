-- What a client does keeps that outcomes show their causes, also where it reads at snapshots, makes them, or aggregates.
use Rattle.std.specs.Prelude.{ℕ, ◌≡◌, ◌≤◌, ◌<◌, ◌+◌, ◌++◌, ◌/◌, ◌⊎◌, ◌==◌, ◌||◌, Any, Bool, true, false, List, [], ◌∷◌, map, Contains, slice_get, is_some, Option, Some, None, refl, if◌then◌else◌}
use Rattle.std.proofs.Common.{append-nil, sym, ◌∙◌, ap, subst, inl, inr, arith}
use Rattle.std.proofs.lemmas.Bool.{eqb-true}
use Rattle.base_types.specs.declared.entry.Verdict.TheVariants as verdict
use Rattle.base_types.specs.declared.epoch.Epoch.{Epoch}
use Rattle.base_types.specs.declared.id.AttemptId.{AttemptId}
use Rattle.base_types.specs.declared.operation.MinorWrite.{MinorWrite}
use Rattle.base_types.specs.declared.operation.Op.{Op}
use Rattle.base_types.specs.declared.operation.Read.{Read}
use Rattle.base_types.specs.declared.outcome.Outcome.{Outcome}
use Rattle.base_types.specs.declared.outcome.Outcome.TheVariants as outcome
use Rattle.base_types.specs.declared.report.Attempt.{Attempt}
use Rattle.base_types.specs.declared.report.Line.{Line}
use Rattle.base_types.specs.declared.report.Line.TheVariants as line
use Rattle.base_types.specs.declared.script.Command.{Command}
use Rattle.base_types.specs.declared.script.Command.TheVariants.{Run, Snap, Aggregate, Tell, Skip}
use Rattle.model_laws.specs.Members.{Has, contains-from_has, has-cases, has-from_contains, has-from_map, has-left, has-right}
use Rattle.base_messages.specs.declared.message.Message.{Message}
use Rattle.base_messages.specs.declared.message.Message.TheVariants as message
use Rattle.base_messages.specs.declared.message.Post.{Post}
use Rattle.daos_model.specs.Accesses.{minor_writes}
use Rattle.daos_model.specs.Attempts.{EachTry, is_of_client, tries, snapshot_of, snapshot_or_none}
use Rattle.daos_model.specs.Laws.{tries-append}
use Rattle.daos_model.specs.Opening.{Opening, top}
use Rattle.world_base.specs.declared.client.ClientPlan.{ClientPlan}
use Rattle.world_base.specs.declared.client.ClientState.{ClientState}
use Rattle.world_base.specs.declared.client.Present.{Present}
use Rattle.world_base.specs.declared.client.Stage.{Stage}
use Rattle.world_base.specs.declared.client.Stage.TheVariants as stage
use Rattle.world_base.specs.declared.letter.Letter.{Letter}
use Rattle.world_base.specs.declared.world.World.{World}
use Rattle.world_base.specs.ClientTurns.{Move, asks_or_goes, attempt_id, attempt_moves, begins_at, begun, command_at, command_moves, commits, ends, first_epoch, listed, moved, moves_at, op_moves, question, rests, run_moves, waits}
use Rattle.world_letters.specs.epochs.Epochs.{IsPresent, ClientsStand, Epochs, IsPast}
use Rattle.world_letters.specs.epochs.Lists.{each-push, tries-push}
use Rattle.world_letters.specs.epochs.Talking.{TalksOnce, silent-unless}
use Rattle.world_base.specs.Events.{Rules, client_plan, with_client, with_epoch}
use Rattle.world_base.specs.Letters.{client, letter_of, letters_of}
use Rattle.world_base.specs.Steps.{after_client, after_move, without}
use Rattle.world_letters.specs.lines.Lines.{filled}
use Rattle.world_letters.specs.talks.AskLaws.{move-is, waiting-rests}
use Rattle.world_letters.specs.talks.Asked.{ARead, ASnapshot, AnAggregation, Asked, Asking, IsMove, ItsWrites, Silent, Telling}
use Rattle.world_letters.specs.talks.TalkLaws.{got-is-talk, none-among}
use Rattle.world_legal.specs.world_causes.causes.Causes.{Dated, EndsOf, IsAskedFor, IsUndecidedFor, Stored, epochs_told, is_try}
use Rattle.world_legal.specs.world_causes.causes.Growth.{at-set}
use Rattle.world_legal.specs.world_causes.causes.Turns.{HasNoLine}
use Rattle.base_types.specs.declared.id.ContId.{ContId}
use Rattle.base_types.specs.declared.outcome.FloorWhy.{FloorWhy}
use Rattle.model_laws.specs.Lists.{any-of, any-all}
use Rattle.daos_model.specs.CausesShown.{ShowsFloor}
use Rattle.world_legal.specs.world_causes.causes.FloorLaws.{lines-keep-floors}
use Rattle.world_legal.specs.world_causes.causes.Lasting.{AreOfOthers, limit-told, message-more, open-more}
use Rattle.world_legal.specs.world_causes.causes.Shown.{Causes, FloorsShown, IsOpenTo, MessageStands, OutcomeStands, limit_over}
use Rattle.world_upheld.specs.causing.Dates.{IsBegunBy, with_dates}
use Rattle.world_legal.specs.world_causes.causes.ClientLaws.{ArePlain, IsLineOf, IsMild, IsPlain, IsQuiet, LineShows, attempt_here, ends-no_tell, ends-tracker, quiet-line}
use Rattle.world_letters.specs.clients.Standing.{HasTold}
use Rattle.world_letters.specs.snapshots.Events.{command-is}
use Rattle.model_laws.specs.DecidedLaws.{all-from_has}
use Rattle.base_types.specs.declared.outcome.FloorWhy.TheVariants as why

abbrev pub AreTries : List Line → Type 0
AreTries ls = (l : Line) → Has l ls → is_try l ≡ true

none-told : (P : Line → Type 0) (ls : List Line) → AreTries ls → ((l : Line) → is_try l ≡ true → P l → ⊥) → Any P ls → ⊥
none-told P ls all none i = none i.1 (any-all (λ l. is_try l ≡ true) P ls (all-from_has (λ l. is_try l ≡ true) ls all) i) i.4

no-floor : (t : ℕ) (floor : Epoch) (cont : ContId) (reason : FloorWhy) (l : Line) → is_try l ≡ true → ShowsFloor t floor cont reason l → ⊥
no-floor t floor cont why.Opening l is k = k
no-floor t floor cont (why.Restart n) l is k = let other : is_try l ≡ false = ap is_try k.1 in let no : ⊥ = cc in no
no-floor t floor cont (why.Snapshot e) l is k = let other : is_try l ≡ false = ap is_try k.0 in let no : ⊥ = cc in no
no-floor t floor cont (why.Aggregate n) l is k = let other : is_try l ≡ false = ap is_try k in let no : ⊥ = cc in no

pub none-floors : (ls : List Line) (t : ℕ) (floor : Epoch) (cont : ContId) (reason : FloorWhy) → AreTries ls → Any (ShowsFloor t floor cont reason) ls → ⊥
none-floors ls t floor cont reason all i = none-told (ShowsFloor t floor cont reason) ls all (no-floor t floor cont reason) i

-- what is known of a client that does something: which attempts are present was so before, and none that is present has a line; and where
-- there is a line, it is of its own attempt, and no answer to the client is left
pub record IsGoing (r : Rules) (dated : Dated) (w : World) (n : ℕ) (c d : ClientState) (letters : List Letter) (l : Option Line) (v : World) : Type 0 where
  pub here : slice_get w.clients n ≡ Some c
  pub among : (z : Letter) → Contains letters z → Contains w.messages z
  pub before : (x : AttemptId) (e : Epoch) → Contains dated (x, e) → IsPresent r v x → IsPresent r w x
  pub unended : (x : AttemptId) → IsPresent r v x → HasNoLine v.lines x
  pub own : IsLineOf (attempt_here (client_plan r n) c c.present) l
  pub silent : (a : Attempt) → l ≡ Some (line.Try a) → (z : Letter) (x : AttemptId) → Contains letters z → EndsOf z.message x → (x.client ≡ n) → ⊥

-- an attempt that is present has no line
pub none-ended : (r : Rules) (top : ℕ) (w : World) → Epochs r top w → (x : AttemptId) → IsPresent r w x → HasNoLine w.lines x
none-ended r top w E x p b i same = by (E.past b p.c (contains-from_has (tries w.lines) b i) (subst (λ k. slice_get w.clients k ≡ Some p.c) (sym (ap (λ y. y.client) same)) p.here))
  where
    own : b.id ≡ attempt_id (client_plan r x.client) p.c p.a
    own = same ∙ sym p.own

    by : IsPast p.c b.id → ⊥
    by (inl less) = let k : b.id.command ≡ p.c.command = ap (λ y. y.command) own in omega (arith, less, k)
    by (inr k) =
        let one : k.0 ≡ p.a = some (sym k.1 ∙ p.at) in
        let n : b.id.attempt ≡ p.a.attempt = ap (λ y. y.attempt) own in
        let m : k.0.attempt ≡ p.a.attempt = ap (λ y. y.attempt) one in
        let less : b.id.attempt < k.0.attempt = k.3 in
        omega (arith, less, n, m)
      where
        some : {y z : Present} → Some y ≡ Some z → y ≡ z
        some s = cc

-- each attempt with an epoch was begun
abbrev pub AreBegun : Rules → Dated → World → Type 0
AreBegun r dated w = (x : AttemptId) (e : Epoch) → Contains dated (x, e) → IsBegunBy r w x

-- one with an epoch that is present then was present before
pub was-present : (r : Rules) (dated : Dated) (w v : World) (more : List Line) → AreBegun r dated w → v.lines ≡ w.lines ++ more → ((x : AttemptId) → IsPresent r v x → HasNoLine v.lines x)
    → (x : AttemptId) (e : Epoch) → Contains dated (x, e) → IsPresent r v x → IsPresent r w x
was-present r dated w v more begun lines unended x e i p = elim (begun x e i) [
  | inl q ↦ q
  | inr q ↦ absurd (unended x p q.0 (subst (λ ls. Has q.0 (tries ls)) (sym lines) (subst (Has q.0) (sym (tries-append w.lines more)) (has-left (tries w.lines) (tries more) q.0 (has-from_contains (tries w.lines) q.0 q.1)))) q.2)
]

-- a line that tells of an attempt tells of no floor
floor-back : (t : ℕ) (floor : Epoch) (cont : ContId) (reason : FloorWhy) (lines more : List Line) → AreTries more → Any (ShowsFloor t floor cont reason) (lines ++ more) → Any (ShowsFloor t floor cont reason) lines
floor-back t floor cont reason lines more tries k = elim (has-cases lines more k.1 (has-from_contains (lines ++ more) k.1 (k.0, k.2, k.3))) [
  | inl i ↦ any-of (ShowsFloor t floor cont reason) lines k.1 i k.4
  | inr i ↦ absurd (none-floors more t floor cont reason tries (any-of (ShowsFloor t floor cont reason) more k.1 i k.4))
]

not-of : (a : Attempt) (c : ℕ) → ((a.id.client ≡ c) → ⊥) → is_of_client c a ≡ false
not-of a c off = by (a.id.client == c) refl
  where
    by : (b : Bool) → (a.id.client == c) ≡ b → (a.id.client == c) ≡ false
    by true is = absurd (off (eqb-true a.id.client c is))
    by false is = is

-- a line of another client's attempt
one-other : (a : Attempt) (c : ℕ) → ((a.id.client ≡ c) → ⊥) → AreOfOthers c (line.Try a ∷ [])
unfolding tries
one-other a c off = ap (λ b. b || false) (not-of a c off)

no-line : (c : ℕ) → AreOfOthers c []
unfolding tries
no-line c = refl

pub did-causes : (r : Rules) (o : Opening) (stored : Stored) (dated : Dated) (w : World) (n : ℕ) (c d : ClientState) (letters : List Letter) (posts : List Post) (l : Option Line) → Causes r o stored (with_dates dated w)
    → IsGoing r dated w n c d letters l (after_client (without w letters) n posts (listed l) d) → d.tracker.0 / 256 ≤ limit_over o w.lines dated → ArePlain (limit_over o w.lines dated) posts → LineShows r o stored dated w.lines l
    → Causes r o stored (with_dates dated (after_client (without w letters) n posts (listed l) d))
did-causes r o stored dated w n c d letters posts l C K tracker P L = record {
  bounded = record {
    ticks = λ t s at runs. up (C.bounded.ticks t s at runs);
    trackers = at-set w.clients n c d (λ m z. z.tracker.0 / 256 ≤ limit_over o v.lines dated) K.here (up tracker) (λ m z at. up (C.bounded.trackers m z at));
    issued = λ x e i. up (C.bounded.issued x e i);
    told = λ z e i j. up (told z e j (sent z i));
    floors = λ t floor cont reason i. up (C.bounded.floors t floor cont reason (floor-back t floor cont reason w.lines (map (with_epoch w.issued) (listed l)) (line-tries l L) i));
    leases = λ t s at. up-lease (C.bounded.leases t s at);
  };
  space = C.space;
  floors = record { opening = floors-then.opening; leased = floors-then.leased; stored = floors-then.stored; aggregated = floors-then.aggregated };
  waiting = record {
    meets = C.waiting.meets;
    undecided = λ z x by i u p. undecided z x by u p (sent z i);
    asked = λ z x i u. asked z x u (sent z i);
    own = λ z x i u. own z x u (sent z i);
  };
  flight = λ z i. shows z (sent z i);
  lines = line-shows l L;
}
  where
    floors-then : FloorsShown o (after_client (without w letters) n posts (listed l) d)
    floors-then = lines-keep-floors w (after_client (without w letters) n posts (listed l) d) (map (with_epoch w.issued) (listed l)) refl refl o (record { opening = C.floors.opening; leased = C.floors.leased; stored = C.floors.stored; aggregated = C.floors.aggregated })

    v : World
    v = after_client (without w letters) n posts (listed l) d

    up : {k : ℕ} → k ≤ limit_over o w.lines dated → k ≤ limit_over o v.lines dated
    up {k = k} low = by (limit_over o w.lines dated) (limit_over o v.lines dated) low (limit-told o w.lines (map (with_epoch w.issued) (listed l)) dated)
      where
        by : (a b : ℕ) → k ≤ a → a ≤ b → k ≤ b
        by a b p q = omega (arith, p, q)

    up-lease : {k : ℕ} → k ≤ limit_over o w.lines dated + 65536 → k ≤ limit_over o v.lines dated + 65536
    up-lease {k = k} low = by (limit_over o w.lines dated) (limit_over o v.lines dated) low (limit-told o w.lines (map (with_epoch w.issued) (listed l)) dated)
      where
        by : (a b : ℕ) → k ≤ a + 65536 → a ≤ b → k ≤ b + 65536
        by a b p q = omega (arith, p, q)

    Sent : Letter → Type 0
    Sent z = Contains letters z ⊎ ((q : Post) × Has q posts × (letter_of (client n) q ≡ z))

    sent : (z : Letter) → Contains (letters ++ letters_of (client n) posts) z → Sent z
    sent z i = elim (has-cases letters (letters_of (client n) posts) z (has-from_contains (letters ++ letters_of (client n) posts) z i)) [
      | inl j ↦ inl (contains-from_has letters z j)
      | inr j ↦ inr (has-from_map (letter_of (client n)) posts z j)
    ]

    told : (z : Letter) (e : ℕ) → Contains (epochs_told z.message) e → Sent z → e / 256 ≤ limit_over o w.lines dated
    told z e j (inl i) = C.bounded.told z e (K.among z i) j
    told z e j (inr q) = (P q.0 q.1).told e (subst (λ y. Has e (epochs_told y.message)) (sym q.2) (has-from_contains (epochs_told z.message) e j))

    asked : (z : Letter) (x : AttemptId) → IsAskedFor z.message x → Sent z → (e : Epoch) × Contains dated (x, e)
    asked z x u (inl i) = C.waiting.asked z x (K.among z i) u
    asked z x u (inr q) = absurd ((P q.0 q.1).asked x (subst (λ y. IsAskedFor y.message x) (sym q.2) u))

    own : (z : Letter) (x : AttemptId) → EndsOf z.message x → Sent z → z.to ≡ client x.client
    own z x u (inl i) = C.waiting.own z x (K.among z i) u
    own z x u (inr q) = absurd ((P q.0 q.1).ends x (subst (λ y. EndsOf y.message x) (sym q.2) u))

    -- the line of a client is its own
    line-client : (a : Attempt) → l ≡ Some (line.Try a) → a.id.client ≡ n
    line-client a is = ap (λ y. y.client) (subst (IsLineOf (attempt_here (client_plan r n) c c.present)) is K.own) ∙ by c.present
      where
        by : (z : Option Present) → (attempt_here (client_plan r n) c z).client ≡ n
        by None = refl
        by (Some b) = refl

    -- of other clients no attempt is told
    others : (k : Option Line) → l ≡ k → (m : ℕ) → ((a : Attempt) → k ≡ Some (line.Try a) → (m ≡ n) → ⊥) → AreOfOthers m (map (with_epoch w.issued) (listed k))
    others None is m off = no-line m
    others (Some (line.Try a)) is m off = one-other (filled w.issued a) m (λ same. off a refl (sym same ∙ line-client a is))
    others (Some (line.Stop k t)) is m off = absurd (subst (IsLineOf (attempt_here (client_plan r n) c c.present)) is K.own)
    others (Some (line.Restart k t incarnation floor)) is m off = absurd (subst (IsLineOf (attempt_here (client_plan r n) c c.present)) is K.own)
    others (Some (line.Freeze t cont e)) is m off = absurd (subst (IsLineOf (attempt_here (client_plan r n) c c.present)) is K.own)
    others (Some (line.Snapshot name cont e)) is m off = absurd (subst (IsLineOf (attempt_here (client_plan r n) c c.present)) is K.own)
    others (Some (line.Aggregate k t cont upto)) is m off = absurd (subst (IsLineOf (attempt_here (client_plan r n) c c.present)) is K.own)
    others (Some (line.Down t)) is m off = absurd (subst (IsLineOf (attempt_here (client_plan r n) c c.present)) is K.own)

    -- the client's own attempt has its line then, so it is present no more
    not-present : (x : AttemptId) → IsPresent r w x → IsPresent r v x → (a : Attempt) → l ≡ Some (line.Try a) → (x.client ≡ n) → ⊥
    not-present x p q a is same = K.unended x q (filled w.issued a) told' its
      where
        its-state : p.c ≡ c
        its-state = one (sym p.here ∙ ap (slice_get w.clients) same ∙ K.here)
          where
            one : {y z : ClientState} → Some y ≡ Some z → y ≡ z
            one e = cc

        at : c.present ≡ Some p.a
        at = subst (λ z. z.present ≡ Some p.a) its-state p.at

        its : a.id ≡ x
        its = subst (IsLineOf (attempt_here (client_plan r n) c c.present)) is K.own ∙ ap (attempt_here (client_plan r n) c) at ∙ ap (λ k. attempt_id (client_plan r k) c p.a) (sym same) ∙ ap (λ z. attempt_id (client_plan r x.client) z p.a) (sym its-state) ∙ p.own

        told' : Has (filled w.issued a) (tries v.lines)
        told' = subst (λ k. Has (filled w.issued a) (tries (w.lines ++ map (with_epoch w.issued) (listed k)))) (sym is) (subst (Has (filled w.issued a)) (sym (tries-push w.lines (filled w.issued a))) (has-right (tries w.lines) (filled w.issued a ∷ []) (filled w.issued a) (inl refl)))

    undecided : (z : Letter) (x by : AttemptId) → IsUndecidedFor z.message x by → IsPresent r v x → Sent z → IsOpenTo r.script (w.lines ++ map (with_epoch w.issued) (listed l)) x by
    undecided z x by u p (inr q) = absurd ((P q.0 q.1).undecided x by (subst (λ y. IsUndecidedFor y.message x by) (sym q.2) u))
    undecided z x by u p (inl i) =
        let e = C.waiting.asked z x (K.among z i) (asks-of z.message x by u) in
        let b : IsPresent r w x = K.before x e.0 e.1 p in
        open-more r.script w.lines (map (with_epoch w.issued) (listed l)) x by (others l refl x.client (not-present x b p)) (C.waiting.undecided z x by (K.among z i) u b)
      where
        asks-of : (m : Message) (x by : AttemptId) → IsUndecidedFor m x by → IsAskedFor m x
        asks-of (message.Verdict a (Some y) inc verdict.Undecided) x by u = u.0
        asks-of m x by u = absurd u

    shows : (z : Letter) → Sent z → MessageStands r o stored dated (w.lines ++ map (with_epoch w.issued) (listed l)) z.message
    shows z (inr q) = subst (λ y. MessageStands r o stored dated (w.lines ++ map (with_epoch w.issued) (listed l)) y.message) q.2 ((P q.0 q.1).shows r o stored dated (w.lines ++ map (with_epoch w.issued) (listed l)))
    shows z (inl i) = subst (λ is. MessageStands r o stored is (w.lines ++ map (with_epoch w.issued) (listed l)) z.message) (append-nil dated)
        (message-more r o [] stored dated [] w.lines (map (with_epoch w.issued) (listed l)) z.message (λ x ends. others l refl x.client (λ a is. K.silent a is z x i ends)) (C.flight z (K.among z i)))

    line-shows : (k : Option Line) → LineShows r o stored dated w.lines k → EachTry (λ before a. OutcomeStands r o stored dated before a.id a.outcome) (w.lines ++ map (with_epoch w.issued) (listed k))
    line-shows None k = subst (EachTry (λ before a. OutcomeStands r o stored dated before a.id a.outcome)) (sym (append-nil w.lines)) C.lines
    line-shows (Some (line.Try a)) k = each-push (λ before a. OutcomeStands r o stored dated before a.id a.outcome) w.lines (filled w.issued a) C.lines k
    line-shows (Some (line.Stop m t)) k = absurd k
    line-shows (Some (line.Restart m t incarnation floor)) k = absurd k
    line-shows (Some (line.Freeze t cont e)) k = absurd k
    line-shows (Some (line.Snapshot name cont e)) k = absurd k
    line-shows (Some (line.Aggregate m t cont upto)) k = absurd k
    line-shows (Some (line.Down t)) k = absurd k

    line-tries : (k : Option Line) → LineShows r o stored dated w.lines k → AreTries (map (with_epoch w.issued) (listed k))
    line-tries None K m i = absurd i
    line-tries (Some (line.Try a)) K m (inl same) = ap is_try same
    line-tries (Some (line.Try a)) K m (inr i) = absurd i
    line-tries (Some (line.Stop u t)) K m i = absurd K
    line-tries (Some (line.Restart u t incarnation floor)) K m i = absurd K
    line-tries (Some (line.Freeze t cont e)) K m i = absurd K
    line-tries (Some (line.Snapshot name cont e)) K m i = absurd K
    line-tries (Some (line.Aggregate u t cont upto)) K m i = absurd K
    line-tries (Some (line.Down t)) K m i = absurd K

-- ---- moves

ends-mild : (p : ClientPlan) (c : ClientState) (a : Present) (how : Outcome) → IsQuiet how → IsMild (attempt_id p c a) c (ends p c a how)
ends-mild p c a how k = record { tracker = ends-tracker p c (command_at p c) a how; quiet = k; own = refl }

commits-mild : (p : ClientPlan) (c : ClientState) (a : Present) (ws : List MinorWrite) → IsMild (attempt_id p c a) c (commits p c a ws)
commits-mild p c a [] = ends-mild p c a outcome.Committed tt
commits-mild p c a (w ∷ ws) = record { tracker = refl; quiet = tt; own = tt }

asks-mild : (p : ClientPlan) (c : ClientState) (a : Present) (snapshot : Bool) (q : Option Read) → IsMild (attempt_id p c a) c (asks_or_goes p c a snapshot q)
asks-mild p c a snapshot None = record { tracker = refl; quiet = tt; own = tt }
asks-mild p c a snapshot (Some q) = record { tracker = refl; quiet = tt; own = tt }

op-mild : (p : ClientPlan) (c : ClientState) (a : Present) (ops : List Op) (snapshot : Bool) (o : Option Op) → IsMild (attempt_id p c a) c (op_moves p c a ops snapshot o)
op-mild p c a ops snapshot None = commits-mild p c a (minor_writes 0 ops)
op-mild p c a ops snapshot (Some op) = asks-mild p c a snapshot (question a.stage op)

run-mild : (p : ClientPlan) (c : ClientState) (a : Present) (ops : List Op) (turns : List ℕ) (snapshot : Bool) (s : Stage) → IsMild (attempt_id p c a) c (run_moves p c a ops turns snapshot s)
run-mild p c a ops turns snapshot stage.Skip = record { tracker = refl; quiet = tt; own = tt }
run-mild p c a ops turns snapshot stage.Cond = op-mild p c a ops snapshot (slice_get ops a.op)
run-mild p c a ops turns snapshot stage.Act = op-mild p c a ops snapshot (slice_get ops a.op)

attempt-mild : (p : ClientPlan) (c : ClientState) (a : Present) (d : Command) → IsMild (attempt_id p c a) c (attempt_moves p c a d)
attempt-mild p c a (Run ops turns snapshot) = run-mild p c a ops turns (is_some snapshot) a.stage
attempt-mild p c a (Snap name cont) = record { tracker = refl; quiet = tt; own = tt }
attempt-mild p c a (Aggregate cont) = record { tracker = refl; quiet = tt; own = tt }
attempt-mild p c a (Tell n) = record { tracker = refl; quiet = tt; own = tt }
attempt-mild p c a (Skip turns) = record { tracker = refl; quiet = tt; own = tt }

-- a move that leaves the tracker, and tells at most of an outcome of this attempt that shows its cause
pub record ShowsByMove (r : Rules) (o : Opening) (stored : Stored) (issued : Dated) (before : List Line) (x : AttemptId) (c : ClientState) (m : Move) : Type 0 where
  pub tracker : m.state.tracker ≡ c.tracker
  pub shows : LineShows r o stored issued before m.line
  pub own : IsLineOf x m.line

module _ (r : Rules) (o : Opening) (stored : Stored) (issued : Dated) (before : List Line) (n : ℕ) (c : ClientState) where
  abbrev plan : ClientPlan
  plan = client_plan r n

  of-mild : (x : AttemptId) (m : Move) → IsMild x c m → ShowsByMove r o stored issued before x c m
  of-mild x m k = record { tracker = k.tracker; shows = quiet-line r o stored issued before m.line k.quiet; own = k.own }

  -- an attempt that begins where its client knows no such snapshot ends at once
  begins-shown : (snapshot : Option (List ℕ)) (e : Option Epoch) → snapshot_of r.script (attempt_id plan c (begun 0 None None)) ≡ snapshot → ShowsByMove r o stored issued before (attempt_id plan c (begun 0 None None)) c (begins_at plan c snapshot e)
  begins-shown None e is = record { tracker = refl; shows = tt; own = tt }
  begins-shown (Some name) None is = record { tracker = ends-tracker plan c (command_at plan c) (begun 0 None None) outcome.NoSnapshot; shows = ap is_some is; own = refl }
  begins-shown (Some name) (Some e) is = record { tracker = refl; shows = tt; own = tt }

  command-shown : (d : Command) → command_at plan c ≡ Some d → (attempts : List Attempt) → HasTold plan c attempts → ShowsByMove r o stored issued before (attempt_id plan c (begun 0 None None)) c (command_moves plan c d)
  command-shown (Run ops turns snapshot) at attempts told = begins-shown snapshot (first_epoch c.known snapshot) (ap snapshot_or_none (command-is r n c (begun 0 None None) (Run ops turns snapshot) attempts told at refl))
  command-shown (Snap name cont) at attempts told = record { tracker = refl; shows = tt; own = tt }
  command-shown (Aggregate cont) at attempts told = record { tracker = refl; shows = tt; own = tt }
  command-shown (Tell client) at attempts told = record { tracker = refl; shows = tt; own = tt }
  command-shown (Skip turns) at attempts told = record { tracker = refl; shows = tt; own = tt }

  moves-shown : (d : Option Command) (present : Option Present) → command_at plan c ≡ d → (attempts : List Attempt) → HasTold plan c attempts → ShowsByMove r o stored issued before (attempt_here plan c present) c (moves_at plan c d present)
  moves-shown None present at attempts told = record { tracker = refl; shows = tt; own = tt }
  moves-shown (Some d) None at attempts told = command-shown d at attempts told
  moves-shown (Some d) (Some a) at attempts told = of-mild (attempt_id plan c a) (attempt_moves plan c a d) (attempt-mild plan c a d)

  pub moved-shown : (attempts : List Attempt) → HasTold plan c attempts → ShowsByMove r o stored issued before (attempt_here plan c c.present) c (moved plan c)
  unfolding moved
  moved-shown attempts told = by (waits c)
    where
      by : (b : Bool) → ShowsByMove r o stored issued before (attempt_here plan c c.present) c (if b then rests c else moves_at plan c (command_at plan c) c.present)
      by true = record { tracker = refl; shows = tt; own = tt }
      by false = moves-shown (command_at plan c) c.present refl attempts told

asked-plain : (limit : ℕ) (p : ClientPlan) (k : Epoch) (c : ClientState) (a : Present) (q : Post) → Asked p k c a q → IsPlain limit q.message
asked-plain limit p k c a q (ARead ops turns snapshot op z at here asked says) =
    subst (λ x. IsPlain limit x.message) (sym says) (record { shows = λ r o stored issued lines. tt; told = λ e i. absurd i; undecided = λ x by u. u; asked = λ x u. u; ends = λ x u. u })
asked-plain limit p k c a q (ItsWrites ops turns snapshot w ws at last all says) =
    subst (λ x. IsPlain limit x.message) (sym says) (record { shows = λ r o stored issued lines. tt; told = λ e i. absurd i; undecided = λ x by u. u; asked = λ x u. u; ends = λ x u. u })
asked-plain limit p k c a q (ASnapshot name cont at says) =
    subst (λ x. IsPlain limit x.message) (sym says) (record { shows = λ r o stored issued lines. tt; told = λ e i. absurd i; undecided = λ x by u. u; asked = λ x u. u; ends = λ x u. u })
asked-plain limit p k c a q (AnAggregation cont at says) =
    subst (λ x. IsPlain limit x.message) (sym says) (record { shows = λ r o stored issued lines. tt; told = λ e i. absurd i; undecided = λ x by u. u; asked = λ x u. u; ends = λ x u. u })

tells-within : (e k : ℕ) (b : ℕ) → k / 256 ≤ b → Has e (k ∷ []) → e / 256 ≤ b
tells-within e k b low (inl same) = subst (λ n. n / 256 ≤ b) (sym same) low
tells-within e k b low (inr bad) = absurd bad

-- what a move sends
move-posts : (limit : ℕ) (p : ClientPlan) (c : ClientState) → c.tracker.0 / 256 ≤ limit → ArePlain limit (listed (moved p c).post)
move-posts limit p c low = by (waits c) refl
  where
    nothing : (m : Move) → m.post ≡ None → ArePlain limit (listed m.post)
    nothing m e q i = absurd (subst (λ o. Has q (listed o)) e i)

    one : (m : Move) (s : Post) → m.post ≡ Some s → IsPlain limit s.message → ArePlain limit (listed m.post)
    one m s e t q i = elim (subst (λ o. Has q (listed o)) e i) [ inl same ↦ subst (λ x. IsPlain limit x.message) (sym same) t | inr j ↦ absurd j ]

    is-a : IsMove p c (moved p c) → ArePlain limit (listed (moved p c).post)
    is-a (Silent free none) = nothing (moved p c) none
    is-a (Telling n none free says) = one (moved p c) _ says (record { shows = λ r o stored issued lines. tt; told = λ e i. tells-within e c.tracker.0 limit low i; undecided = λ x by u. u; asked = λ x u. u; ends = λ x u. u })
    is-a (Asking a q at asked says state) = one (moved p c) q says (asked-plain limit p c.tracker c a q asked)

    by : (b : Bool) → waits c ≡ b → ArePlain limit (listed (moved p c).post)
    by true h = nothing (moved p c) (ap (λ m. m.post) (waiting-rests p c h))
    by false h = is-a (move-is p c h)

pub dated-goes_causes : (r : Rules) (o : Opening) (stored : Stored) (dated : Dated) (w : World) (n : ℕ) (c : ClientState) → TalksOnce w → ClientsStand r w → Epochs r (top o) (after_move w n (moved (client_plan r n) c)) → AreBegun r dated w → slice_get w.clients n ≡ Some c
    → Causes r o stored (with_dates dated w) → Causes r o stored (with_dates dated (after_move w n (moved (client_plan r n) c)))
dated-goes_causes r o stored dated w n c talk S F begun here C =
    did-causes r o stored dated w n c (moved p c).state w.messages (listed (moved p c).post) (moved p c).line C
    (record {
      here = here;
      among = λ l i. i;
      before = was-present r dated w (after_move w n (moved p c)) (map (with_epoch w.issued) (listed (moved p c).line)) begun refl (none-ended r (top o) (after_move w n (moved p c)) F);
      unended = none-ended r (top o) (after_move w n (moved p c)) F;
      own = k.own;
      silent = λ a is z x i ends same. none-among n w.messages z (silent-unless w n c talk here (idle a is)) i (got-is-talk n z (ends-no_tell z.message x ends) (C.waiting.own z x i ends ∙ ap client same));
    })
    (subst (λ e. e.0 / 256 ≤ limit_over o w.lines dated) (sym k.tracker) (C.bounded.trackers n c here))
    (move-posts (limit_over o w.lines dated) p c (C.bounded.trackers n c here)) k.shows
  where
    p : ClientPlan
    p = client_plan r n

    k : ShowsByMove r o stored dated w.lines (attempt_here p c c.present) c (moved p c)
    k = moved-shown r o stored dated w.lines n c (S n c here).0 (S n c here).1

    -- one that tells a line doesn't wait
    idle : (a : Attempt) → (moved p c).line ≡ Some (line.Try a) → waits c ≡ false
    idle a is = by (waits c) refl
      where
        by : (b : Bool) → waits c ≡ b → waits c ≡ false
        by true h = let none : (moved p c).line ≡ None = ap (λ m. m.line) (waiting-rests p c h) in let no : ⊥ = cc in absurd no
        by false h = h

-- a turn that is skipped is counted
pub counting-causes : (r : Rules) (o : Opening) (stored : Stored) (dated : Dated) (w : World) (n k : ℕ) (c : ClientState) → AreBegun r dated w → Epochs r (top o) (with_client n (record c { skip = k }) w) → slice_get w.clients n ≡ Some c
    → Causes r o stored (with_dates dated w) → Causes r o stored (with_dates dated (with_client n (record c { skip = k }) w))
counting-causes r o stored dated w n k c begun F here C = subst (λ u. Causes r o stored (with_dates dated u)) same (did-causes r o stored dated w n c (record c { skip = k }) w.messages [] None C
    (record {
      here = here;
      among = λ l i. i;
      before = was-present r dated w (after_client (without w w.messages) n [] (listed None) (record c { skip = k })) [] begun refl then-unended;
      unended = then-unended;
      own = tt;
      silent = λ a is. let no : ⊥ = cc in absurd no;
    }) (C.bounded.trackers n c here) (λ q i. absurd i) tt)
  where
    same : after_client (without w w.messages) n [] (listed None) (record c { skip = k }) ≡ with_client n (record c { skip = k }) w
    same = rw (append-nil w.messages, append-nil w.lines) refl

    then-unended : (x : AttemptId) → IsPresent r (after_client (without w w.messages) n [] (listed None) (record c { skip = k })) x → HasNoLine (after_client (without w w.messages) n [] (listed None) (record c { skip = k })).lines x
    then-unended = none-ended r (top o) (after_client (without w w.messages) n [] (listed None) (record c { skip = k })) (subst (Epochs r (top o)) (sym same) F)

-- A client's turn keeps what shows where leaders stopped: what it adds to the lines is of its attempt, and tells as committed what it was told.
use Rattle.std.specs.Prelude.{ℕ, ◌≡◌, ◌≢◌, ◌<◌, ◌⊎◌, ◌++◌, ◌&&◌, Bool, true, false, List, [], ◌∷◌, map, slice_get, Contains, Option, Some, None, refl, if◌then◌else◌}
use Rattle.std.proofs.Common.{append-nil, arith, inl, inr, sym, ◌∙◌, ap, subst}
use Rattle.base_types.specs.declared.epoch.Epoch.{Epoch}
use Rattle.base_types.specs.declared.id.AttemptId.{AttemptId}
use Rattle.base_types.specs.declared.outcome.Cause.TheVariants as cause
use Rattle.base_types.specs.declared.outcome.Outcome.{Outcome}
use Rattle.base_types.specs.declared.outcome.Outcome.TheVariants as outcome
use Rattle.base_types.specs.declared.report.Attempt.{Attempt}
use Rattle.base_types.specs.declared.report.Line.{Line}
use Rattle.base_types.specs.declared.report.Line.TheVariants as line
use Rattle.base_messages.specs.declared.message.Message.{Message, more_of-Message}
use Rattle.base_messages.specs.declared.message.Message.TheVariants as message
use Rattle.base_messages.specs.declared.message.Post.{Post}
use Rattle.base_messages.specs.declared.message.Reply.{Reply}
use Rattle.base_messages.specs.declared.message.Reply.TheVariants as reply
use Rattle.daos_model.specs.Attempts.{EachTry, tries, up_to_last_of}
use Rattle.daos_model.specs.BoolLaws.{and_left, and_right, clash}
use Rattle.daos_model.specs.CausesShown.{StopsAfter}
use Rattle.dtx_base.specs.LeaderLaws.{same-is}
use Rattle.model_laws.specs.Members.{Has, has-cases, has-from_map}
use Rattle.world_standing.specs.world_commit.attempts.Attempts.{leader_of}
use Rattle.world_standing.specs.world_commit.attempts.Counting.{has-left_over, has-taken}
use Rattle.world_base.specs.declared.client.ClientPlan.{ClientPlan}
use Rattle.world_base.specs.declared.client.ClientState.{ClientState}
use Rattle.world_base.specs.declared.client.Present.{Present}
use Rattle.world_base.specs.declared.letter.Letter.{Letter}
use Rattle.world_base.specs.declared.world.World.{World}
use Rattle.world_base.specs.ClientTurns.{Ended_by, HearTurn, Heard_on, Move, NextTurn, Skipped, Went_on, about, answered, asks_again, at_present, attempt_id, begun, command_at, ends, goes, heard, heard_at, hears_epochs, is_about, knows, listed, moved, op_of, op_told, replied, reset, snaps_known, waits}
use Rattle.world_base.specs.Events.{ClientGoes, ClientHears, Rules, after_turn, client_plan, with_client, with_epoch}
use Rattle.world_base.specs.Letters.{client, letter_of, letters_of}
use Rattle.world_base.specs.StepLaws.{after-both, by-going, set-here}
use Rattle.world_base.specs.Steps.{KeptByMoves, after_move, without}
use Rattle.world_standing.specs.world_causes.causes.Lasting.{since-more}
use Rattle.world_standing.specs.world_letters.epochs.Epochs.{IsPast, IsPresent}
use Rattle.world_standing.specs.world_letters.epochs.Lists.{each-push}
use Rattle.world_standing.specs.world_letters.lines.LineLaws.{lines-by-moves}
use Rattle.world_standing.specs.world_letters.lines.Lines.{Endings, Lines, filled}
use Rattle.world_standing.specs.world_causes.losses.ClientHears.{LossesAreAsked, heard-steps}
use Rattle.world_standing.specs.world_causes.losses.Clients.{After, IsOver, Stepped, after-none, going-after, of-others, stepped}
use Rattle.world_standing.specs.world_causes.losses.Losses.{Losses}
use Rattle.world_standing.specs.world_causes.losses.Moving.{LinesSo, end-is, moved-lines, moved-none, moved-stays}
use Rattle.world_standing.specs.world_causes.outcomes.ClientLaws.{present-not-past}
use Rattle.world_standing.specs.world_causes.outcomes.Moving.{AnswerDoes, FailsWith, OnWith, moved-past, op-does}
use Rattle.world_standing.specs.world_causes.outcomes.Premises.{HearsFitly, IsFit, IsReplyFit}
use Rattle.world_standing.specs.standing.Clients.{lines-heard}
use Rattle.world_standing.specs.world_causes.handing.Fitting.{hears-fitly}
use Rattle.world_standing.specs.world_letters.talks.AskLaws.{move-is, waiting-rests}
use Rattle.world_standing.specs.world_letters.talks.Asked.{ARead, ASnapshot, AnAggregation, Asked, Asking, IsMove, ItsWrites, Silent, Telling}
use Rattle.world_standing.specs.world_causes.outcomes.TellLaws.{AllRead, MoveTells, NoSnap, Nothing, moved-tells}
use Rattle.world_standing.specs.world_causes.outcomes.TurnLaws.{move-tells-decided, tried-cases}
use Rattle.world_standing.specs.world_causes.outcomes.Outcomes.{HasWrites}
use Rattle.world_standing.specs.world_letters.waits.Waits.{Conversation}
use Rattle.world_legal.specs.doubts.Doubts.{InFlight, InLines, IsToldCommitted, ItsLeaderStopped}
use Rattle.world_legal.specs.doubts.Recounting.{tells_back}
use Rattle.world_legal.specs.doubts.Stopped.{stops-more}
use Rattle.world_standing.specs.world_causes.losses.Clients.{line-added}

abbrev pub IsBegun : Rules → World → AttemptId → Type 0
IsBegun r w x = IsPresent r w x ⊎ IsOver w.clients x

-- ---- after some steps of a client's turn

pub record Goes (r : Rules) (w u : World) : Type 0 where
  pub after : After r w u
  -- of an attempt that was begun lines tell behind the stop
  pub told : (x : AttemptId) → IsBegun r w x → ItsLeaderStopped r w x → EachTry (λ before b. b.id ≡ x → StopsAfter (leader_of r x ∷ []) (up_to_last_of x.client before) u.lines) u.lines
  -- what lines tell as committed was told so
  pub committed : (b : Attempt) → Contains (tries u.lines) b → b.outcome ≡ outcome.Committed → HasWrites r b.id → IsToldCommitted w b.id
  -- a client tells no ends
  pub back : (l : Letter) → Has l u.messages → tells_back l.message ≡ true → Has l w.messages

goes-none : (r : Rules) (w : World) (rest : List Letter) → Losses r w → ((l : Letter) → Has l rest → Has l w.messages) → Goes r w (without w rest)
goes-none r w rest losses among = record {
  after = after-none r w rest losses among;
  told = λ x begun stop. stop.told;
  committed = λ b i says some. InLines b i refl says;
  back = λ l i is. among l i;
}

-- ---- one step

-- what a step of a client adds
pub record Adds (r : Rules) (w : World) (c : ClientState) (m : Move) : Type 0 where
  pub fresh : (b : Attempt) → m.line ≡ Some (line.Try b) → IsPast c b.id → ⊥
  pub committed : (b : Attempt) → m.line ≡ Some (line.Try b) → b.outcome ≡ outcome.Committed → HasWrites r b.id → IsToldCommitted w b.id
  pub quiet : (q : Post) → Has q (listed m.post) → tells_back q.message ≡ false

module _ (r : Rules) (w u : World) (k : Goes r w u) (n : ℕ) (c : ClientState) (m : Move) (here : slice_get u.clients n ≡ Some c) (s : Stepped r w u n c m) (a : Adds r w c m) where
  abbrev v : World
  v = after_move u n m

  added : (b : Attempt) → Has b (tries (listed m.line)) → m.line ≡ Some (line.Try b)
  added = line-added m.line s.tries

  module _ (x : AttemptId) (begun : IsBegun r w x) (stop : ItsLeaderStopped r w x) where
    abbrev its : List ℕ
    its = leader_of r x ∷ []

    abbrev Stands : List Line → List Line → Attempt → Type 0
    Stands all before b = b.id ≡ x → StopsAfter its (up_to_last_of x.client before) all

    -- one that it tells of now is present
    over-not : (b : Attempt) → m.line ≡ Some (line.Try b) → b.id ≡ x → IsOver u.clients x → ⊥
    over-not b is own o =
        let place : x.client ≡ n = sym (ap (λ y. y.client) own) ∙ s.own b is in
        let same : o.c ≡ c = let e : Some o.c ≡ Some c = sym o.here ∙ subst (λ j. slice_get u.clients j ≡ Some c) (sym place) here in cc in
        a.fresh b is (subst (IsPast c) (sym own) (subst (λ y. IsPast y x) same o.past))

    now : (b : Attempt) (more : List Line) → m.line ≡ Some (line.Try b) → b.id ≡ x → StopsAfter its (up_to_last_of x.client u.lines) (u.lines ++ more)
    now b more is own = by begun
      where
        by : IsBegun r w x → StopsAfter its (up_to_last_of x.client u.lines) (u.lines ++ more)
        by (inr o) = absurd (over-not b is own (k.after.over x o))
        by (inl at) = elim (k.after.stays x at) [
          | inl z ↦ stops-more its (up_to_last_of x.client u.lines) u.lines more
              (subst (λ ls. StopsAfter its (up_to_last_of x.client ls) ls) (sym k.after.told) (since-more its x.client w.lines k.after.more (of-others x.client k.after.more z.1) (stop.present at)))
          | inr o ↦ absurd (over-not b is own o)
        ]

    told-on : EachTry (Stands v.lines) v.lines
    told-on = by m.line refl
      where
        by : (o : Option Line) → m.line ≡ o → EachTry (Stands (u.lines ++ map (with_epoch u.issued) (listed o))) (u.lines ++ map (with_epoch u.issued) (listed o))
        by None is = subst (λ ls. EachTry (Stands ls) ls) (sym (append-nil u.lines)) (k.told x begun stop)
        by (Some l) is =
            let t = s.tries l is in
            subst (λ y. EachTry (Stands (u.lines ++ with_epoch u.issued y ∷ [])) (u.lines ++ with_epoch u.issued y ∷ [])) (sym t.1)
            (each-push (Stands (u.lines ++ line.Try (filled u.issued t.0) ∷ [])) u.lines (filled u.issued t.0)
            (λ before b after same own. stops-more its (up_to_last_of x.client before) u.lines (line.Try (filled u.issued t.0) ∷ []) (k.told x begun stop before b after same own))
            (λ own. now t.0 (line.Try (filled u.issued t.0) ∷ []) (is ∙ ap (λ y. Some y) t.1) own))

  goes-step : Goes r w v
  goes-step = record {
    after = stepped r w u k.after n c m here s;
    told = λ x begun stop. told-on x begun stop;
    committed = λ b i says some. elim (tried-cases u.issued u.lines (listed m.line) b i) [
      | inl old ↦ k.committed b old says some
      | inr new ↦ subst (IsToldCommitted w) (ap (λ z. z.id) new.2) (a.committed new.0 (added new.0 new.1) (ap (λ z. z.outcome) new.2 ∙ says) (subst (HasWrites r) (sym (ap (λ z. z.id) new.2)) some))
    ];
    back = λ l i is. elim (has-cases u.messages (letters_of (client n) (listed m.post)) l i) [
      | inl old ↦ k.back l old is
      | inr new ↦ (let q = has-from_map (letter_of (client n)) (listed m.post) l new in absurd (clash (tells_back l.message) is (ap (λ z. tells_back z.message) (sym q.2) ∙ a.quiet q.0 q.1)))
    ];
  }

-- ---- moves

none-some : {T : Type 0} (x : T) → None ≡ Some x → ⊥
none-some x bad = cc

asked-quiet : (p : ClientPlan) (k : Epoch) (c : ClientState) (a : Present) (q : Post) → Asked p k c a q → tells_back q.message ≡ false
asked-quiet p k c a q (ARead ops turns snapshot op rd at here asks says) = ap (λ y. tells_back y.message) says
asked-quiet p k c a q (ItsWrites ops turns snapshot w ws at last all says) = ap (λ y. tells_back y.message) says
asked-quiet p k c a q (ASnapshot name cont at says) = ap (λ y. tells_back y.message) says
asked-quiet p k c a q (AnAggregation cont at says) = ap (λ y. tells_back y.message) says

moved-quiet : (p : ClientPlan) (c : ClientState) (q : Post) → Has q (listed (moved p c).post) → tells_back q.message ≡ false
moved-quiet p c q i = by (waits c) refl
  where
    nothing : (o : Option Post) → o ≡ None → Has q (listed o) → tells_back q.message ≡ false
    nothing o none j = absurd (subst (λ z. Has q (listed z)) none j)

    one : (o : Option Post) (z : Post) → o ≡ Some z → tells_back z.message ≡ false → Has q (listed o) → tells_back q.message ≡ false
    one o z says off j = elim (subst (λ y. Has q (listed y)) says j) [ inl same ↦ ap (λ y. tells_back y.message) same ∙ off | inr none ↦ absurd none ]

    is-a : IsMove p c (moved p c) → tells_back q.message ≡ false
    is-a (Silent off none) = nothing (moved p c).post none i
    is-a (Telling m none off says) = one (moved p c).post _ says refl i
    is-a (Asking a z at own says state) = one (moved p c).post z says (asked-quiet p c.tracker c a z own) i

    by : (b : Bool) → waits c ≡ b → tells_back q.message ≡ false
    by true rest = nothing (moved p c).post (ap (λ m. m.post) (waiting-rests p c rest)) i
    by false free = is-a (move-is p c free)

one-line : (m : Move) (b : Attempt) → m.line ≡ Some (line.Try b) → Has b (tries (listed m.line))
unfolding tries
one-line m b is = subst (λ o. Has b (tries (listed o))) (sym is) (inl refl)

moved-adds : (r : Rules) (w u : World) (n : ℕ) (c : ClientState) → Lines r u → slice_get u.clients n ≡ Some c → Adds r w c (moved (client_plan r n) c)
moved-adds r w u n c lines here = record {
  fresh = λ b is past. by b is past (moved-tells p c);
  committed = λ b is says some.
      let d = move-tells-decided r (record { decided = []; aborted = []; served = [] }) u n c lines here b (one-line (moved p c) b is) says some in
      absurd d.2;
  quiet = moved-quiet p c;
}
  where
    p : ClientPlan
    p = client_plan r n

    by : (b : Attempt) → (moved p c).line ≡ Some (line.Try b) → IsPast c b.id → MoveTells p c (moved p c) → ⊥
    by b is past (Nothing none) = none-some (line.Try b) (sym none ∙ is)
    by b is past (AllRead d a at present none says) =
        present-not-past p c a present (subst (IsPast c) (ap (λ y. y.id) (end-is p c a outcome.Committed b (sym (ap (λ y. y.line) says) ∙ is))) past)
    by b is past (NoSnap none says) =
        let id : b.id ≡ attempt_id p c (begun 0 None None) = ap (λ y. y.id) (end-is p c (begun 0 None None) outcome.NoSnapshot b (sym (ap (λ y. y.line) says) ∙ is)) in
        elim past [
          | inl less ↦ (let same : b.id.command ≡ c.command = ap (λ y. y.command) id in omega (arith, less, same))
          | inr some ↦ none-some some.0 (sym none ∙ some.1)
        ]

-- what a turn keeps: that, and that lines tell of each client what it has told
abbrev GoesOn : Rules → World → World → Type 0
GoesOn r w u = Goes r w u × Lines r u

moves-go : (r : Rules) → 0 < r.attempts → (w : World) → KeptByMoves r (GoesOn r w)
moves-go r some w u n c here k = (
  goes-step r w u k.0 n c (moved (client_plan r n) c) here
      (record {
        past = λ x past. moved-past (client_plan r n) c x past;
        stays = λ a at. moved-stays (client_plan r n) c a at;
        own = lines.own;
        lost = λ b is gone. let off = lines.unlost b is in (let no : ⊥ = cc (off, gone) in absurd no);
        tries = lines.tries;
        posts = λ q x i is. absurd (moved-none (client_plan r n) c q x i is);
      })
      (moved-adds r w u n c k.1 here),
  lines-by-moves r some u n c here k.1,
)
  where
    lines : LinesSo n (moved (client_plan r n) c).line
    lines = moved-lines (client_plan r n) c

-- ---- a message is heard

module _ (r : Rules) (w : World) (n : ℕ) (c : ClientState) (l : Letter) (flies : Has l w.messages) (fit : HearsFitly (client_plan r n) c l.message) where
  abbrev p : ClientPlan
  p = client_plan r n

  -- once it has heard the epochs
  abbrev e : ClientState
  e = hears_epochs l.message c

  abbrev AddsSo : Move → Type 0
  AddsSo m = Adds r w c m

  passes : (d : ClientState) → AddsSo (goes d)
  passes d = record { fresh = λ b is past. none-some _ is; committed = λ b is says some. absurd (none-some _ is); quiet = λ q i. absurd i }

  module _ (a : Present) (at : c.present ≡ Some a) where
    abbrev own : AttemptId
    own = attempt_id p c a

    ends-with : (d : ClientState) (b : Present) (how : Outcome) → d.command ≡ c.command → b.attempt ≡ a.attempt → (how ≡ outcome.Committed → IsToldCommitted w own) → AddsSo (ends p d b how)
    ends-with d b how command same told = record {
      fresh = λ y is past. present-not-past p c a at (subst (IsPast c) (ap (λ z. z.id) (end-is p d b how y is) ∙ id) past);
      committed = λ y is says some. let z = end-is p d b how y is in subst (IsToldCommitted w) (sym (ap (λ i. i.id) z ∙ id)) (told (sym (ap (λ i. i.outcome) z) ∙ says));
      quiet = λ q i. absurd i;
    }
      where
        id : attempt_id p d b ≡ own
        id = ap (λ j. record { client = n; command = j; attempt = b.attempt }) command ∙ ap (λ j. record { client = n; command = c.command; attempt = j }) same

    ends-other : (d : ClientState) (b : Present) (how : Outcome) → d.command ≡ c.command → b.attempt ≡ a.attempt → how ≢ outcome.Committed → AddsSo (ends p d b how)
    ends-other d b how command same off = ends-with d b how command same (λ is. absurd (off is))

    asks-on : (t : ℕ) → AddsSo (asks_again p e (record a { waits = false }) t)
    asks-on t = record {
      fresh = λ b is past. none-some _ is;
      committed = λ b is says some. absurd (none-some _ is);
      quiet = λ q i. elim i [ inl same ↦ ap (λ y. tells_back y.message) same | inr none ↦ absurd none ];
    }

    reply-adds : (ep : Option Epoch) (b : Reply) → IsReplyFit b → AddsSo (replied p e (knows ep a) b)
    reply-adds ep (reply.Outcome how) fits = ends-other e (knows ep a) how refl refl fits
    reply-adds ep (reply.Answer b) fits = by (op-does p e (knows ep a) b (op_of (command_at p e) (knows ep a).op))
      where
        by : AnswerDoes p e (knows ep a) (op_told p e (knows ep a) b (op_of (command_at p e) (knows ep a).op)) → AddsSo (op_told p e (knows ep a) b (op_of (command_at p e) (knows ep a).op))
        by (OnWith f same is) = subst AddsSo (sym is) (passes (at_present f e))
        by (FailsWith f op2 same is) = subst AddsSo (sym is) (ends-other e f (outcome.CondFailed op2) refl same (λ bad. let no : ⊥ = cc in no))

    loss-adds : (t : ℕ) (q : Message) → AddsSo (reset p e (record a { waits = false }) t q)
    loss-adds t (message.Commit x ep first tracker ws) = asks-on t
    loss-adds t (message.Ask x) = asks-on t
    loss-adds t q = ends-other e (record a { waits = false }) (outcome.Restart (cause.Unresolved own)) refl refl (λ bad. let no : ⊥ = cc in no)

    answer-adds : (m : Message) → l.message ≡ m → is_about own (about m) ≡ true → IsFit p c a m → AddsSo (answered p e a m)
    answer-adds (message.Fetched x op group ep b) says its fits = reply-adds ep b fits.1
    answer-adds (message.Ended x ep how) says its fits =
        ends-with (record e { known = snaps_known (command_at p e) ep how e.known }) (knows ep a) how refl refl
        (λ is. InFlight l ep flies (says ∙ ap (λ y. message.Ended y ep how) (sym (same-is own x its)) ∙ ap (message.Ended own ep) is))
    answer-adds (message.Reset' t true place (more_of-Message q more)) says its fits = ends-other e (record a { waits = false }) (outcome.Unknown t) refl refl (λ bad. let no : ⊥ = cc in no)
    answer-adds (message.Reset' t false place (more_of-Message q more)) says its fits = loss-adds t q
    answer-adds m says its fits = passes e

  heard-adds : AddsSo (heard p c l.message)
  unfolding heard
  heard-adds = by c.present refl
    where
      by : (o : Option Present) → c.present ≡ o → AddsSo (heard_at p e l.message o)
      by None at = passes e
      by (Some a) at = choose (a.waits && is_about (attempt_id p e a) (about l.message)) refl
        where
          choose : (b : Bool) → (a.waits && is_about (attempt_id p e a) (about l.message)) ≡ b → AddsSo (if b then answered p e a l.message else goes e)
          choose false off = passes e
          choose true on =
              let waiting = and_left a.waits (is_about (attempt_id p e a) (about l.message)) on in
              let its = and_right a.waits (is_about (attempt_id p e a) (about l.message)) on in
              answer-adds a at l.message refl its (fit a at waiting its)

-- ---- turns

pub going-goes : (r : Rules) (w v : World) → 0 < r.attempts → Lines r w → Losses r w → ClientGoes r w v → Goes r w v
going-goes r w v some lines losses g = by g.turn
  where
    begun : GoesOn r w (without w w.messages)
    begun = (goes-none r w w.messages losses (λ l i. i), lines)

    by : NextTurn (client_plan r g.n) g.c g.did g.d → Goes r w v
    by (Skipped skips says after) = record {
      after = going-after r w v losses g;
      told = λ x was stop. subst (λ ls. EachTry (λ before b. b.id ≡ x → StopsAfter (leader_of r x ∷ []) (up_to_last_of x.client before) ls) ls) (sym told) stop.told;
      committed = λ b i is writes. InLines b (subst (λ ls. Contains (tries ls) b) told i) refl is;
      back = λ l i is. subst (Has l) sent i;
    }
      where
        told : v.lines ≡ w.lines
        told = ap (λ u. u.lines) g.after ∙ ap (λ d. w.lines ++ map (with_epoch w.issued) d.lines) says ∙ append-nil w.lines

        sent : v.messages ≡ w.messages
        sent = ap (λ u. u.messages) g.after ∙ ap (λ d. w.messages ++ letters_of (client g.n) d.posts) says ∙ append-nil w.messages
    by (Went_on runs did) = subst (Goes r w) (sym g.after) on.0
      where
        on : GoesOn r w (with_client g.n g.d (after_turn w (client g.n) g.did w.messages))
        on = rw (did.issued, append-nil w.issued) (by-going r (GoesOn r w) (moves-go r some w) w g.n g.c g.d g.did.posts g.did.lines g.here begun did.goes_on)

pub hearing-goes : (r : Rules) (w v : World) → 0 < r.attempts → Conversation r w → Endings w → Lines r w → Losses r w → LossesAreAsked w → ClientHears r w v → Goes r w v
hearing-goes r w v some talk endings lines losses asked g = (subst (GoesOn r w) (sym g.after) (by g.turn)).0
  where
    first : Move
    first = heard (client_plan r g.n) g.c g.l.message

    flies : Has g.l w.messages
    flies = has-taken w.messages g.l g.rest g.takes

    to-client : g.l.to.client ≡ true
    to-client = ap (λ a. a.client) g.to_it

    at-first : GoesOn r w (after_move (without w g.rest) g.n first)
    at-first = (
      goes-step r w (without w g.rest) (goes-none r w g.rest losses (λ l i. has-left_over w.messages g.l g.rest l g.takes i)) g.n g.c first g.here
          (heard-steps r w losses g.n g.c g.l g.rest g.here flies (λ q x. asked g.l q x flies to-client))
          (heard-adds r w g.n g.c g.l flies (hears-fitly r w g.n g.c g.l g.rest talk endings g.here g.takes g.to_it)),
      lines-heard r w g.n g.c g.l g.rest talk endings g.here g.takes g.to_it lines,
    )

    by : HearTurn (client_plan r g.n) g.c g.l.message g.did g.d → GoesOn r w (with_client g.n g.d (after_turn w (client g.n) g.did g.rest))
    by (Ended_by over says after) = rw (after, says, append-nil w.issued) at-first
    by (Heard_on rest over did says) =
        rw (says, did.issued, append-nil w.issued)
        (subst (GoesOn r w) (after-both (without w g.rest) g.n (listed first.post) rest.posts (listed first.line) rest.lines first.state g.d)
        (by-going r (GoesOn r w) (moves-go r some w) (after_move (without w g.rest) g.n first) g.n first.state g.d rest.posts rest.lines (set-here w.clients g.n g.c first.state g.here) at-first did.goes_on))

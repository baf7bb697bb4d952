-- Every event of a run keeps it so that what goes about of how attempts end goes with what their commands do.
use Rattle.std.specs.Prelude.{ℕ, ◌≡◌, ◌≢◌, ◌++◌, Bool, true, false, List, [], filter, map, slice_get, Contains, Option, Some, None, refl}
use Rattle.std.proofs.Common.{sym, ◌∙◌, ap, subst, inl, inr}
use Rattle.base_types.specs.declared.epoch.Epoch.{Epoch}
use Rattle.base_types.specs.declared.id.AttemptId.{AttemptId}
use Rattle.base_types.specs.declared.operation.Read.{Read}
use Rattle.base_types.specs.declared.script.Script.{Script}
use Rattle.base_types.specs.Operations.{read_path}
use Rattle.base_messages.specs.declared.actor.ActorId.{ActorId}
use Rattle.base_messages.specs.declared.message.Message.{Message}
use Rattle.base_messages.specs.declared.message.Message.TheVariants as message
use Rattle.base_messages.specs.declared.message.Post.{Post}
use Rattle.daos_model.specs.declared.durable.Durable.{Durable}
use Rattle.daos_model.specs.Changes.{reopened}
use Rattle.daos_model.specs.Opening.{Opening}
use Rattle.dtx_base.specs.declared.member.Parked.{Parked}
use Rattle.dtx_base.specs.Leading.{is_led, is_open}
use Rattle.model_laws.specs.Members.{Has, contains-from_has, has-cases, has-from_filter, has-from_map}
use Rattle.world_base.specs.declared.client.ClientState.{ClientState}
use Rattle.world_base.specs.declared.client.Present.{Present}
use Rattle.world_base.specs.declared.letter.Letter.{Letter}
use Rattle.world_base.specs.declared.target.Life.TheVariants.{Running}
use Rattle.world_base.specs.declared.target.TargetState.{TargetState}
use Rattle.world_base.specs.declared.world.World.{World}
use Rattle.world_base.specs.ClientTurns.{heard, listed, moved, waits}
use Rattle.world_base.specs.Events.{ByClient, ByTarget, Event, Rules, TargetHearsBy, ToClient, ToTarget, client_plan, kept, target_plan}
use Rattle.world_base.specs.Further.{HearsFurther}
use Rattle.world_base.specs.Requests.{request_epoch}
use Rattle.world_base.specs.Letters.{client, letter_of, letters_of, target}
use Rattle.world_base.specs.Statuses.{opening_posts}
use Rattle.world_base.specs.StepLaws.{by-hearing, by-next}
use Rattle.world_base.specs.Steps.{KeptByCounting, KeptByHearing, KeptByMoves, after_move, without}
use Rattle.world_base.specs.Stops.{Draws, Fails, Further, GivenUp, Happening, IsCut, Opens, Plainly, WorldEvent, is_not_to, is_not_to_down, is_to, is_to_down, reset_letter, resets, swept}
use Rattle.world_base.specs.TargetTurns.{fetch_request}
use Rattle.world_upheld.specs.world_causes.hearing.PlainTurns.{others-write}
use Rattle.world_upheld.specs.world_commit.attempts.Counting.{has-left_over, has-taken}
use Rattle.world_upheld.specs.world_commit.attempts.History.{History}
use Rattle.world_upheld.specs.world_commit.fates.Facts.{IsPrepareRight, IsSaidSo}
use Rattle.world_upheld.specs.world_commit.stops.Questions.{question-is}
use Rattle.world_upheld.specs.world_contents.reads.Given.{Given, IsMessageRight, IsParkedRight, IsReadEpoch, IsWaitingRight}
use Rattle.world_letters.specs.endings.Clients.{IsQuestion, heard-asks}
use Rattle.world_letters.specs.epochs.Epochs.{IsReadOf}
use Rattle.world_letters.specs.talks.AskLaws.{move-is, waiting-rests}
use Rattle.world_letters.specs.talks.Asked.{ARead, ASnapshot, AnAggregation, Asked, Asking, IsMove, ItsWrites, Silent, Telling}
use Rattle.world_refusals.specs.Further.{IsHeldFitly, further-fit}
use Rattle.world_refusals.specs.Posts.{PostsFit}
use Rattle.world_refusals.specs.Reads.{IsAskFit, IsAskedFitly}
use Rattle.world_refusals.specs.Telling.{AllTellFitly, TellsFitly}
use Rattle.world_refusals.specs.Turns.{IsHeardFitly, hears-fit, idle-fits}
use Rattle.world_upheld.specs.upheld.Events.{given-before, nothing_held}
use Rattle.world_upheld.specs.upheld.Heard.{HeardGrounds}

-- ---- the statements

-- so it is where nothing is in flight
abbrev pub FitTellingBegins : Type 0
FitTellingBegins = (r : Rules) (w : World) → w.messages ≡ [] → AllTellFitly r w

-- every event of a run of a script in form keeps it, where what is heard is upheld
abbrev pub AllEventsKeepFitTelling : Type 0
AllEventsKeepFitTelling =
    (r : Rules) (o : Opening) (h : History) (w v : World) → HeardGrounds r o h w → WorldEvent r w v → AllTellFitly r w → AllTellFitly r v

-- ---- what is sent beside what was in flight

turn-keeps : (r : Rules) (w v : World) (from : ActorId) (rest : List Letter) (posts : List Post) → v.messages ≡ rest ++ letters_of from posts → ((l : Letter) → Has l rest → Has l w.messages)
    → PostsFit r.script posts → AllTellFitly r w → AllTellFitly r v
turn-keeps r w v from rest posts messages left fit k l i = elim (has-cases rest (letters_of from posts) l (subst (Has l) messages i)) [
  | inl j ↦ k l (left l j)
  | inr j ↦ (let z = has-from_map (letter_of from) posts l j in subst (λ y. TellsFitly r.script y.message) z.2 (fit z.0 z.1))
]

-- ---- clients

asks-fit : (r : Rules) (n : ℕ) (k : Epoch) (c : ClientState) (a : Present) (q : Post) → Asked (client_plan r n) k c a q → TellsFitly r.script q.message
asks-fit r n k c a q (ARead ops turns snapshot op rd at here asks says) = subst (λ x. TellsFitly r.script x.message) (sym says) tt
asks-fit r n k c a q (ItsWrites ops turns snapshot w ws at last all says) = subst (λ x. TellsFitly r.script x.message) (sym says) tt
asks-fit r n k c a q (ASnapshot name cont at says) = subst (λ x. TellsFitly r.script x.message) (sym says) tt
asks-fit r n k c a q (AnAggregation cont at says) = subst (λ x. TellsFitly r.script x.message) (sym says) tt

option-fits : (s : Script) (o : Option Post) → ((q : Post) → o ≡ Some q → TellsFitly s q.message) → PostsFit s (listed o)
option-fits s None each q i = absurd i
option-fits s (Some p) each q (inl same) = subst (λ z. TellsFitly s z.message) (sym same) (each p refl)
option-fits s (Some p) each q (inr none) = absurd none

move-fits : (r : Rules) (n : ℕ) (c : ClientState) → PostsFit r.script (listed (moved (client_plan r n) c).post)
move-fits r n c = by (waits c) refl
  where
    same-post : (o : Option Post) (s q : Post) → o ≡ Some s → o ≡ Some q → TellsFitly r.script s.message → TellsFitly r.script q.message
    same-post o s q one two = let same : s ≡ q = cc in subst (λ z. TellsFitly r.script z.message) same

    is-a : IsMove (client_plan r n) c (moved (client_plan r n) c) → PostsFit r.script (listed (moved (client_plan r n) c).post)
    is-a (Silent free none) = option-fits r.script _ (λ q is. let no : ⊥ = cc (none, is) in absurd no)
    is-a (Telling m none free says) = option-fits r.script _ (λ q is. same-post _ _ q says is tt)
    is-a (Asking a s at asked says state) = option-fits r.script _ (λ q is. same-post _ s q says is (asks-fit r n c.tracker c a s asked))

    by : (b : Bool) → waits c ≡ b → PostsFit r.script (listed (moved (client_plan r n) c).post)
    by true h = option-fits r.script _ (λ q is. let none = ap (λ m. m.post) (waiting-rests (client_plan r n) c h) in let no : ⊥ = cc (none, is) in absurd no)
    by false h = is-a (move-is (client_plan r n) c h)

question-fits : (s : Script) (o : Option Post) → IsQuestion o → PostsFit s (listed o)
question-fits s None asks q i = absurd i
question-fits s (Some p) asks q (inl same) = subst (TellsFitly s) (sym (ap (λ x. x.message) same ∙ asks.1)) tt
question-fits s (Some p) asks q (inr none) = absurd none

module _ (r : Rules) where
  fit-moves : KeptByMoves r (AllTellFitly r)
  fit-moves w n c here k = turn-keeps r w (after_move w n (moved (client_plan r n) c)) (client n) w.messages (listed (moved (client_plan r n) c).post) refl (λ l i. i) (move-fits r n c) k

  fit-hearing : KeptByHearing r (AllTellFitly r)
  fit-hearing w n c l rest here awake takes to k =
      turn-keeps r w (after_move (without w rest) n (heard (client_plan r n) c l.message)) (client n) rest (listed (heard (client_plan r n) c l.message).post) refl
      (λ m i. has-left_over w.messages l rest m takes i) (question-fits r.script _ (heard-asks (client_plan r n) c l.message)) k

  fit-counting : KeptByCounting (AllTellFitly r)
  fit-counting w n k c here b = b

-- ---- targets

module _ (r : Rules) (o : Opening) (h : History) (w : World) (H : HeardGrounds r o h w) (k : AllTellFitly r w) where
  given : Given r o nothing_held w
  given = given-before r o h w H

  module _ (t : ℕ) (s : TargetState) (here : slice_get w.targets t ≡ Some s) (runs : s.life ≡ Running) where
    -- what waits there
    waits-fit : (p : Parked) → Has p s.memory.member.parked → IsAskFit r s.durable p.ask
    waits-fit p i = by p.ask refl
      where
        reads : IsReadOf r p.ask
        reads = (H.epochs.parked t s p here (contains-from_has s.memory.member.parked p i)).1

        right : IsParkedRight r o w t s.durable p.ask
        right = given.waiting t s p here runs i

        by : (m : Message) → p.ask ≡ m → IsAskFit r s.durable m
        by (message.Fetch x op group ep first tracker q snapshot) is =
            let R = subst (IsReadOf r) is reads in
            let W : IsWaitingRight r o w t s.durable x op group ep q snapshot = subst (IsParkedRight r o w t s.durable) is right in
            record {
              at = R.0;
              unmade = R.1;
              frozen = λ on e own. (let same : W.epoch ≡ e = cc (W.has, own) in
                  (subst (λ b. IsReadEpoch r o w s.durable x (read_path q).cont ep b e) on (subst (IsReadEpoch r o w s.durable x (read_path q).cont ep snapshot) same W.its)).1);
            }
        by m is = tt

    -- what is heard there
    heard-fit : (l : Letter) → Has l w.messages → l.to ≡ target t → IsHeardFitly r s.durable l.message
    heard-fit l i to = by l.message refl
      where
        among : Contains w.messages l
        among = contains-from_has w.messages l i

        right : IsMessageRight r o w t s l.message
        right = given.asked l t s among to here runs

        said : IsSaidSo r h w l.from l.to l.message
        said = H.attempts.on.letters l i

        fetched : (x : AttemptId) (op group : ℕ) (ep first : Option Epoch) (tracker : Epoch) (q : Read) (snapshot : Bool) → l.message ≡ message.Fetch x op group ep first tracker q snapshot
            → IsAskedFitly r s.durable (fetch_request x op group ep first tracker q snapshot)
        fetched x op group ep first tracker q snapshot is =
            let R = subst (IsReadOf r) is (H.epochs.reads l among) in
            let M = (subst (IsMessageRight r o w t s) is right).1 in
            record {
              at = R.0;
              unmade = R.1;
              frozen = λ on e own. (subst (λ b. IsReadEpoch r o w s.durable x (read_path q).cont ep b e) on (M 0 e (ap (request_epoch (target_plan r t) s.memory 0 tracker) own))).1;
            }

        by : (m : Message) → l.message ≡ m → IsHeardFitly r s.durable m
        by (message.Fetch x op group ep first tracker q snapshot) is = fetched x op group ep first tracker q snapshot is
        by (message.Commit x ep first tracker ws) is = let R = (subst (IsMessageRight r o w t s) is right).0 in subst (λ z. z ≢ []) R.its R.some
        by (message.Prepare e first ws inc) is = let P : IsPrepareRight r h w l.from l.to e ws inc = subst (IsSaidSo r h w l.from l.to) is said in others-write r e.attempt P.way.member P.way.other
        by (message.Ack x inc refusal) is = subst (TellsFitly r.script) is (k l i)
        by m is = tt

    held-fit : (l : Letter) → Has l w.messages → IsHeldFitly r.script l.message
    held-fit l i = by l.message refl
      where
        by : (m : Message) → l.message ≡ m → IsHeldFitly r.script m
        by (message.Held x refusal) is = subst (TellsFitly r.script) is (k l i)
        by m is = tt

  plain-keeps : (v : World) → Event r w v → AllTellFitly r v
  plain-keeps v (ByClient g) = by-next r (AllTellFitly r) (fit-moves r) (fit-counting r) w v k g
  plain-keeps v (ToClient g) = by-hearing r (AllTellFitly r) (fit-moves r) (fit-hearing r) w v k g
  plain-keeps v (ToTarget g) =
      turn-keeps r w v (target g.t) g.rest g.did.posts (ap (λ u. u.messages) g.after) (λ l i. has-left_over w.messages g.l g.rest l g.takes i)
      (hears-fit r H.form (target_plan r g.t) g.s.opening g.s.memory g.reading g.l.from (kept g.s) g.new (g.memory, g.did) (waits-fit g.t g.s g.here g.runs) g.l.message
      (heard-fit g.t g.s g.here g.runs g.l (has-taken w.messages g.l g.rest g.takes) g.to_it) g.turn) k
  plain-keeps v (ByTarget g) =
      turn-keeps r w v (target g.t) w.messages g.did.posts (ap (λ u. u.messages) g.after) (λ l i. i)
      (idle-fits r.script g.settling (target_plan r g.t) g.s.memory g.turn.last g.new (g.memory, g.did) g.turn.ends) k

  more-keeps : (number : ℕ) (v : World) → TargetHearsBy (HearsFurther number) r w v → AllTellFitly r v
  more-keeps number v g =
      turn-keeps r w v (target g.t) g.rest g.did.posts (ap (λ u. u.messages) g.after) (λ l i. has-left_over w.messages g.l g.rest l g.takes i)
      (further-fit r w.issued number (target_plan r g.t) g.s.opening g.s.memory g.reading g.l.from (kept g.s) g.new (g.memory, g.did) g.l.message (H.makings.letters g.l flies) (held-fit g.t g.s g.here g.runs g.l flies) g.turn) k
    where
      flies : Has g.l w.messages
      flies = has-taken w.messages g.l g.rest g.takes

-- ---- openings, and what is lost

opening-fits : (r : Rules) (t : ℕ) (d : Durable) → PostsFit r.script (opening_posts (target_plan r t) d)
unfolding opening_posts
opening-fits r t d q i = let z = question-is d.incarnation (filter is_open (filter (is_led t) d.entries)) q i in subst (λ y. TellsFitly r.script y.message) (sym z.is) tt

resets-fit : (s : Script) (down : Bool) (qs : List Letter) (l : Letter) → Has l (map (reset_letter down) qs) → TellsFitly s l.message
resets-fit s down qs l i = let z = has-from_map (reset_letter down) qs l i in subst (λ x. TellsFitly s x.message) z.2 tt

lost-keeps : (r : Rules) (t : ℕ) (down : Bool) (w v : World) → v.messages ≡ filter (is_not_to t) w.messages ++ resets t down w.asked → AllTellFitly r w → AllTellFitly r v
lost-keeps r t down w v messages k l i = elim (has-cases (filter (is_not_to t) w.messages) (resets t down w.asked) l (subst (Has l) messages i)) [
  | inl j ↦ k l (has-from_filter (is_not_to t) w.messages l j).0
  | inr j ↦ resets-fit r.script down (filter (is_to t) w.asked) l j
]

sweep-keeps : (r : Rules) (w : World) → AllTellFitly r w → AllTellFitly r (swept w)
sweep-keeps r w k l i = elim (has-cases w.messages told l (has-from_filter (is_not_to_down w.targets) (w.messages ++ told) l i).0) [
  | inl j ↦ k l j
  | inr j ↦ resets-fit r.script true (filter (is_to_down w.targets) w.asked) l j
]
  where
    told : List Letter
    told = map (reset_letter true) (filter (is_to_down w.targets) w.asked)

-- ---- every event

module _ (r : Rules) (o : Opening) (h : History) (w v : World) (H : HeardGrounds r o h w) (k : AllTellFitly r w) where
  happening-keeps : Happening r w v → AllTellFitly r v
  happening-keeps (Plainly e up) = plain-keeps r o h w H k v e
  happening-keeps (Further f) = more-keeps r o h w H k f.number v f.hears
  happening-keeps (IsCut g) = lost-keeps r g.t false w v (ap (λ u. u.messages) g.after) k
  happening-keeps (Opens g) =
      turn-keeps r w v (target g.t) w.messages (opening_posts (target_plan r g.t) (reopened g.s.durable)) (ap (λ u. u.messages) g.after) (λ l i. i) (opening-fits r g.t (reopened g.s.durable)) k
  happening-keeps (Fails g) = λ l i. k l (subst (Has l) (ap (λ u. u.messages) g.after) i)
  happening-keeps (GivenUp g) = lost-keeps r g.t true w v (ap (λ u. u.messages) g.after) k
  happening-keeps (Draws g) = λ l i. k l (subst (Has l) (ap (λ u. u.messages) g.after) i)

pub all-events-keep_fit : AllEventsKeepFitTelling
all-events-keep_fit r o h w v H e k = subst (AllTellFitly r) (sym e.after) (sweep-keeps r e.u (happening-keeps r o h w e.u H k e.happens))

pub fit-begins : FitTellingBegins
fit-begins r w none l i = absurd (subst (Has l) none i)

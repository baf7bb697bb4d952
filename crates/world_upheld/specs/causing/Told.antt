-- What a client hears keeps that outcomes show their causes, also where it reads at snapshots, makes them, or aggregates.
use Rattle.std.specs.Prelude.{ℕ, ◌≡◌, ◌≤◌, ◌/◌, max, Bool, true, false, ◌&&◌, List, [], ◌∷◌, map, Contains, slice_get, Option, Some, None, refl, if◌then◌else◌}
use Rattle.std.proofs.Common.{sym, ◌∙◌, ap, subst, inl, inr, arith}
use Rattle.base_types.specs.declared.id.AttemptId.{AttemptId}
use Rattle.base_types.specs.declared.outcome.Outcome.{Outcome}
use Rattle.base_types.specs.declared.outcome.Outcome.TheVariants as outcome
use Rattle.base_types.specs.declared.report.Attempt.{Attempt}
use Rattle.base_types.specs.declared.report.Line.{Line}
use Rattle.base_types.specs.declared.report.Line.TheVariants as line
use Rattle.model_laws.specs.Members.{Has, contains-from_has}
use Rattle.base_messages.specs.declared.message.Message.{Message, more_of-Message}
use Rattle.base_messages.specs.declared.message.Message.TheVariants as message
use Rattle.base_messages.specs.declared.message.Reply.{Reply}
use Rattle.base_messages.specs.declared.message.Reply.TheVariants as reply
use Rattle.daos_model.specs.Attempts.{up_to_last_of}
use Rattle.daos_model.specs.Opening.{Opening, top}
use Rattle.world_base.specs.declared.client.ClientPlan.{ClientPlan}
use Rattle.world_base.specs.declared.client.ClientState.{ClientState}
use Rattle.world_base.specs.declared.client.Present.{Present}
use Rattle.world_base.specs.declared.letter.Letter.{Letter}
use Rattle.world_base.specs.declared.world.World.{World}
use Rattle.world_base.specs.ClientTurns.{Move, about, answered, asks_again, heard_at, is_about, lost, reset, attempt_id, begun, command_at, ends, goes, greatest, heard, hears_epochs, knows, listed, op_of, replied, snaps_known, told_by_message}
use Rattle.world_letters.specs.epochs.Epochs.{Epochs, IsPast}
use Rattle.world_letters.specs.epochs.Talking.{TalksOnce, taken-silent}
use Rattle.world_base.specs.Events.{Rules, client_plan, with_epoch}
use Rattle.world_base.specs.Letters.{Takes, client, is_tell}
use Rattle.world_base.specs.Steps.{after_move, without}
use Rattle.world_letters.specs.talks.HearLaws.{replied-silent}
use Rattle.world_letters.specs.talks.TalkLaws.{got-is-talk, left-is-among, none-among, taken-is-among}
use Rattle.world_legal.specs.world_causes.causes.Causes.{Dated, EndsOf, Stored, epochs_told}
use Rattle.world_legal.specs.world_causes.causes.ReadTurns.{none-told}
use Rattle.base_types.specs.declared.outcome.Cause.TheVariants as cause
use Rattle.model_laws.specs.EntryLaws.{same-attempt}
use Rattle.daos_model.specs.Accesses.{attempt_targets}
use Rattle.daos_model.specs.BoolLaws.{and_left, and_right}
use Rattle.daos_model.specs.CausesShown.{StopsAfter}
use Rattle.daos_model.specs.EntryLaws.{same_attempt-itself}
use Rattle.world_legal.specs.world_causes.causes.Shown.{Causes, MeetsUnresolved, MessageStands, OutcomeStands, ReplyStands, limit_over}
use Rattle.world_legal.specs.world_causes.causes.ClientLaws.{ArePlain, IsMild, IsPlain, answer-mild, attempt_here, ends-no_tell, ends-tracker, quiet-line}
use Rattle.world_legal.specs.world_causes.causes.HearingLaws.{IsHeard, LossStands, LossesStand}
use Rattle.world_upheld.specs.causing.Dates.{with_dates}
use Rattle.world_upheld.specs.causing.Doing.{AreBegun, did-causes, none-ended, was-present}

greatest-within : (t : ℕ) (es : List ℕ) (b : ℕ) → t / 256 ≤ b → ((e : ℕ) → Has e es → e / 256 ≤ b) → greatest t es / 256 ≤ b
unfolding greatest
greatest-within t [] b low all = low
greatest-within t (e ∷ es) b low all = greatest-within (max t e) es b (larger t e low (all e (inl refl))) (λ f i. all f (inr i))
  where
    larger : (x y : ℕ) → x / 256 ≤ b → y / 256 ≤ b → max x y / 256 ≤ b
    larger x y p q = omega (arith, p, q)

no-posts : (m : Move) → m.post ≡ None → (limit : ℕ) → ArePlain limit (listed m.post)
no-posts m none limit q i = absurd (subst (λ z. Has q (listed z)) none i)

mild-heard : (r : Rules) (o : Opening) (stored : Stored) (issued : Dated) (before : List Line) (x : AttemptId) (c : ClientState) (m : Move) → IsMild x c m → m.post ≡ None → IsHeard r o stored issued before x c.tracker m
mild-heard r o stored issued before x c m k none = record { posts = no-posts m none; same = k.tracker; shows = quiet-line r o stored issued before m.line k.quiet; own = k.own }

ends-heard : (r : Rules) (o : Opening) (stored : Stored) (issued : Dated) (before : List Line) (p : ClientPlan) (c : ClientState) (a : Present) (how : Outcome) → OutcomeStands r o stored issued before (attempt_id p c a) how
    → IsHeard r o stored issued before (attempt_id p c a) c.tracker (ends p c a how)
ends-heard r o stored issued before p c a how k = record { posts = λ limit q i. absurd i; same = ends-tracker p c (command_at p c) a how; shows = k; own = refl }

replied-heard : (r : Rules) (o : Opening) (stored : Stored) (issued : Dated) (before : List Line) (p : ClientPlan) (c : ClientState) (a : Present) (b : Reply) → a.waits ≡ false → ReplyStands r o stored issued before (attempt_id p c a) b
    → IsHeard r o stored issued before (attempt_id p c a) c.tracker (replied p c a b)
replied-heard r o stored issued before p c a (reply.Answer b) free k =
    mild-heard r o stored issued before (attempt_id p c a) c (replied p c a (reply.Answer b)) (answer-mild p c a b (op_of (command_at p c) a.op)) (replied-silent p c a (reply.Answer b) free).no_post
replied-heard r o stored issued before p c a (reply.Outcome how) free k = ends-heard r o stored issued before p c a how k

module _ (r : Rules) (o : Opening) (stored : Stored) (issued : Dated) (before : List Line) (n : ℕ) (c : ClientState) where
  abbrev plan : ClientPlan
  plan = client_plan r n

  -- a request that is lost
  module _ (a : Present) where
    abbrev own : AttemptId
    own = attempt_id plan c a

    asks-again : (t : ℕ) → IsHeard r o stored issued before own c.tracker (asks_again plan c a t)
    asks-again t = record { posts = λ limit q i. by limit q i; same = refl; shows = tt; own = tt }
      where
        by : (limit : ℕ) → ArePlain limit (listed (asks_again plan c a t).post)
        by limit q (inl same) = subst (λ z. IsPlain limit z.message) (sym same) (record { shows = λ r o stored issued lines. tt; told = λ e i. absurd i; undecided = λ x by u. u; asked = λ x u. u; ends = λ x u. u })
        by limit q (inr none) = absurd none

    is-lost : StopsAfter (attempt_targets r.script own) (up_to_last_of own.client before) before → IsHeard r o stored issued before own c.tracker (lost plan c a)
    is-lost k = ends-heard r o stored issued before plan c a (outcome.Restart (cause.Unresolved own)) (subst (λ b. MeetsUnresolved b r issued before own own) (sym (same_attempt-itself own)) k)

    is-reset : (t : ℕ) (q : Message) → StopsAfter (attempt_targets r.script own) (up_to_last_of own.client before) before → IsHeard r o stored issued before own c.tracker (reset plan c a t q)
    is-reset t (message.Commit x e first tracker ws) k = asks-again t
    is-reset t (message.Ask x) k = asks-again t
    is-reset t q k = is-lost k

  -- what it waits for has come
  is-answered : (a : Present) (m : Message) → MessageStands r o stored issued before m → LossStands r before (attempt_id plan c a) m → is_about (attempt_id plan c a) (about m) ≡ true
      → IsHeard r o stored issued before (attempt_id plan c a) c.tracker (answered plan c a m)
  is-answered a (message.Fetched x op group e reply) k loss is =
      replied-heard r o stored issued before plan c (knows e a) reply refl (subst (λ y. ReplyStands r o stored issued before y reply) (sym (same-attempt (attempt_id plan c a) x is)) k)
  is-answered a (message.Ended x e how) k loss is =
      ends-heard r o stored issued before plan (record c { known = snaps_known (command_at plan c) e how c.known }) (knows e a) how (subst (λ y. OutcomeStands r o stored issued before y how) (sym (same-attempt (attempt_id plan c a) x is)) k)
  is-answered a (message.Reset' t true place (more_of-Message q rest)) k loss is = ends-heard r o stored issued before plan c (record a { waits = false }) (outcome.Unknown t) loss
  is-answered a (message.Reset' t false place (more_of-Message q rest)) k loss is = is-reset (record a { waits = false }) t q loss
  is-answered a m k loss is = mild-heard r o stored issued before (attempt_id plan c a) c (goes c) (record { tracker = refl; quiet = tt; own = tt }) refl

is-heard : (r : Rules) (o : Opening) (stored : Stored) (issued : Dated) (before : List Line) (n : ℕ) (c : ClientState) (m : Message) → MessageStands r o stored issued before m → LossesStand r before n c m
    → IsHeard r o stored issued before (attempt_here (client_plan r n) c c.present) (hears_epochs m c).tracker (heard (client_plan r n) c m)
unfolding heard
is-heard r o stored issued before n c m k losses = by c.present refl
  where
    now : ClientState
    now = hears_epochs m c

    quiet : (x : AttemptId) → IsHeard r o stored issued before x now.tracker (goes now)
    quiet x = mild-heard r o stored issued before x now (goes now) (record { tracker = refl; quiet = tt; own = tt }) refl

    by : (z : Option Present) → c.present ≡ z → IsHeard r o stored issued before (attempt_here (client_plan r n) c z) now.tracker (heard_at (client_plan r n) now m z)
    by None at = quiet (attempt_id (client_plan r n) c (begun 0 None None))
    by (Some a) at = choose (a.waits && is_about (attempt_id (client_plan r n) now a) (about m)) refl
      where
        choose : (b : Bool) → (a.waits && is_about (attempt_id (client_plan r n) now a) (about m)) ≡ b
            → IsHeard r o stored issued before (attempt_id (client_plan r n) c a) now.tracker (if b then answered (client_plan r n) now a m else goes now)
        choose false is = quiet (attempt_id (client_plan r n) c a)
        choose true is =
            is-answered r o stored issued before n now a m k (losses a at (and_left a.waits (is_about (attempt_id (client_plan r n) now a) (about m)) is) (and_right a.waits (is_about (attempt_id (client_plan r n) now a) (about m)) is))
            (and_right a.waits (is_about (attempt_id (client_plan r n) now a) (about m)) is)

-- what tells a tracker ends nothing
tell-silent : (p : ClientPlan) (c : ClientState) (m : Message) → is_tell m ≡ true → (heard p c m).line ≡ None
unfolding heard
tell-silent p c (message.Tell k) is = by c.present
  where
    now : ClientState
    now = hears_epochs (message.Tell k) c

    choose : (a : Present) (b : Bool) → (a.waits && false) ≡ b → (if b then answered p now a (message.Tell k) else goes now).line ≡ None
    choose a true bad = refl
    choose a false bad = refl

    by : (z : Option Present) → (heard_at p now (message.Tell k) z).line ≡ None
    by None = refl
    by (Some a) = choose a (a.waits && false) refl
tell-silent p c m is = let no : ⊥ = cc in absurd no

-- what a client is told is what such a message tells
told-is : (m : Message) (e : ℕ) → Contains (told_by_message m) e → Contains (epochs_told m) e
told-is (message.Ack x inc refusal) e i = absurd (none-told e i)
told-is m e i = i

pub dated-hears_causes : (r : Rules) (o : Opening) (stored : Stored) (dated : Dated) (w : World) (n : ℕ) (c : ClientState) (l : Letter) (rest : List Letter) → TalksOnce w
    → Epochs r (top o) (after_move (without w rest) n (heard (client_plan r n) c l.message)) → AreBegun r dated w → ((x : AttemptId) → IsPast c x → IsPast (heard (client_plan r n) c l.message).state x) → slice_get w.clients n ≡ Some c → Takes w.messages l rest → l.to ≡ client n → LossesStand r w.lines n c l.message → Causes r o stored (with_dates dated w)
    → Causes r o stored (with_dates dated (after_move (without w rest) n (heard (client_plan r n) c l.message)))
dated-hears_causes r o stored dated w n c l rest once F begun past here takes to losses C =
    did-causes r o stored dated w n c m.state rest (listed m.post) m.line C
    (record {
      here = here;
      among = λ z i. left-is-among w.messages l rest z takes i;
      before = was-present r dated w (after_move (without w rest) n m) (map (with_epoch w.issued) (listed m.line)) begun refl (none-ended r (top o) (after_move (without w rest) n m) F);
      unended = none-ended r (top o) (after_move (without w rest) n m) F;
      own = k.own;
      silent = λ a is z x i ends same. answered-once a is z x i ends same;
    })
    (subst (λ e. e.0 / 256 ≤ limit_over o w.lines dated) (sym k.same)
    (greatest-within c.tracker.0 (told_by_message l.message) (limit_over o w.lines dated) (C.bounded.trackers n c here) (λ e i. C.bounded.told l e among (told-is l.message e (contains-from_has (told_by_message l.message) e i)))))
    (k.posts (limit_over o w.lines dated)) k.shows
  where
    m : Move
    m = heard (client_plan r n) c l.message

    among : Contains w.messages l
    among = taken-is-among w.messages l rest takes

    k : IsHeard r o stored dated w.lines (attempt_here (client_plan r n) c c.present) (hears_epochs l.message c).tracker m
    k = is-heard r o stored dated w.lines n c l.message (C.flight l among) losses

    -- a line is told where an answer was heard, and none else is left then
    answered-once : (a : Attempt) → m.line ≡ Some (line.Try a) → (z : Letter) (x : AttemptId) → Contains rest z → EndsOf z.message x → (x.client ≡ n) → ⊥
    answered-once a is z x i ends same = by (is_tell l.message) refl
      where
        by : (b : Bool) → is_tell l.message ≡ b → ⊥
        by true tells = let none : m.line ≡ None = tell-silent (client_plan r n) c l.message tells in let no : ⊥ = cc (none, is) in no
        by false talks =
            none-among n rest z (taken-silent w n c l rest once here takes (got-is-talk n l talks to)) i
            (got-is-talk n z (ends-no_tell z.message x ends) (C.waiting.own z x (left-is-among w.messages l rest z takes i) ends ∙ ap client same))

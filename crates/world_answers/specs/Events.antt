-- Every event of a run keeps it so that answers that go about, those that clients were told, and those that lines tell have form.
use Rattle.std.specs.Prelude.{ℕ, ◌≡◌, ◌++◌, true, false, List, [], ◌∷◌, map, slice_get, Option, Some, None, refl}
use Rattle.std.proofs.Common.{append-nil, append_assoc, sym, ◌∙◌, ap, subst, inl, inr}
use Rattle.std.proofs.Math.ListN.{set}
use Rattle.base_types.specs.declared.epoch.Epoch.{Epoch}
use Rattle.base_types.specs.declared.id.AttemptId.{AttemptId}
use Rattle.base_types.specs.declared.report.Attempt.{Attempt}
use Rattle.base_types.specs.declared.report.Line.{Line}
use Rattle.base_types.specs.declared.report.Line.TheVariants as line
use Rattle.base_types.specs.Scripts.{IsInForm}
use Rattle.base_messages.specs.declared.actor.ActorId.{ActorId}
use Rattle.base_messages.specs.declared.message.Message.{Message}
use Rattle.base_messages.specs.declared.message.Message.TheVariants as message
use Rattle.base_messages.specs.declared.message.Post.{Post}
use Rattle.daos_model.specs.Attempts.{tries}
use Rattle.daos_model.specs.Laws.{tries-append}
use Rattle.model_laws.specs.Members.{Has, has-cases, has-from_map}
use Rattle.world_base.specs.declared.client.ClientPlan.{ClientPlan}
use Rattle.world_base.specs.declared.client.ClientState.{ClientState}
use Rattle.world_base.specs.declared.client.Present.{Present}
use Rattle.world_base.specs.declared.did.Did.{Did}
use Rattle.world_base.specs.declared.letter.Letter.{Letter}
use Rattle.world_base.specs.declared.world.World.{World}
use Rattle.world_base.specs.ClientTurns.{Move, heard, listed, moved}
use Rattle.world_base.specs.Events.{ByClient, ByTarget, Event, Rules, ToClient, ToTarget, client_plan, kept, target_plan, with_client, with_epoch}
use Rattle.world_base.specs.Letters.{client, letters_of, target}
use Rattle.world_base.specs.StepLaws.{by-hearing, by-next, set-is, set-there}
use Rattle.world_base.specs.Steps.{KeptByCounting, KeptByHearing, KeptByMoves, after_move, without}
use Rattle.world_base.specs.Stops.{AtWork, CutOf, Draws, Fails, Further, GivenUp, Happening, Hearing, IdleWork, IsCut, Opens, Plainly, TargetCut, WorldEvent, stops_so_far, swept}
use Rattle.world_making.specs.world_causes.outcomes.Untried.{hearing-untried, idling-untried, untried-both, untried-none, untried-one}
use Rattle.world_making.specs.world_causes.restarts.Resting.{Rests, failure-rests, given_up-rests, is_silent, numbers-rests, opening-rests, same-tries, sweep-rests}
use Rattle.world_making.specs.world_commit.attempts.Counting.{has-left_over, has-taken}
use Rattle.world_making.specs.world_commit.attempts.Turning.{one-or_another}
use Rattle.world_making.specs.world_contents.gots.StepGots.{is_fetched}
use Rattle.world_making.specs.world_contents.gots.TargetGots.{ends-none}
use Rattle.world_making.specs.world_letters.lines.FilledLaws.{tries-filled}
use Rattle.world_making.specs.world_letters.lines.Lines.{filled}
use Rattle.world_making.specs.world_letters.lives.TurnLines.{further-lines, idle-lines, plain-lines}
use Rattle.world_making.specs.world_letters.talks.Asked.{ARead, ASnapshot, AnAggregation, Asked, ItsWrites}
use Rattle.world_making.specs.losses.Tells.{turn-lines-untried}
use Rattle.world_making.specs.world_contents.posts.ClientPosts.{command-here}
use Rattle.world_making.specs.world_contents.posts.ScriptForm.{command-few}
use Rattle.world_answers.specs.Clients.{HasFewOps, IsPresentOrNone, MovesInForm, heard-in_form, moved-in_form}
use Rattle.world_answers.specs.Forms.{AnswersInForm, AreToldInForm, BringsAnswerInForm, IsPresentInForm, PostsInForm, ReadsInForm, TargetsHaveKeys}
use Rattle.world_answers.specs.Further.{further-in_form}
use Rattle.world_answers.specs.Posts.{heard-posts, lost-letters, moved-posts, resting-letters, sent-letters}
use Rattle.world_answers.specs.Turns.{hears-in_form}

-- ---- the statements

-- so it is where nothing is in flight, no client is at an attempt, and no line tells of one
abbrev pub AnswersBeginInForm : Type 0
AnswersBeginInForm = (w : World) → w.messages ≡ [] → ((n : ℕ) (c : ClientState) → slice_get w.clients n ≡ Some c → c.present ≡ None) → tries w.lines ≡ [] → AnswersInForm w

-- Every event of a run of a script in form keeps it, where reads that are asked have form, and what targets keep lies on paths with keys.
abbrev pub AllEventsKeepAnswersInForm : Type 0
AllEventsKeepAnswersInForm = (r : Rules) (w v : World) → IsInForm r.script.targets r.script → ReadsInForm w → TargetsHaveKeys w → AnswersInForm w → WorldEvent r w v → AnswersInForm v

-- ---- the beginning

pub answers-begin_in_form : AnswersBeginInForm
answers-begin_in_form w none idle untold = record {
  letters = λ l i. absurd (subst (Has l) none i);
  clients = λ n c a at present. let off = idle n c at in let no : ⊥ = cc (off, present) in absurd no;
  lines = λ a i. absurd (subst (Has a) untold i);
}

-- ---- clients

present-or_none : (w : World) (n : ℕ) (c : ClientState) → slice_get w.clients n ≡ Some c → AnswersInForm w → IsPresentOrNone c.present
present-or_none w n c here k = by c.present refl
  where
    by : (o : Option Present) → c.present ≡ o → IsPresentOrNone o
    by None is = tt
    by (Some a) is = k.clients n c a here is

-- one client is in another state
others-in_form : (w v : World) (n : ℕ) (z : ClientState) → v.clients ≡ set w.clients n z → IsPresentOrNone z.present → AnswersInForm w
    → (m : ℕ) (c : ClientState) (a : Present) → slice_get v.clients m ≡ Some c → c.present ≡ Some a → IsPresentInForm a
others-in_form w v n z clients form k m c a at present = elim (one-or_another m n) [
  | inl same ↦ (let is : z ≡ c = set-is w.clients n z c (subst (λ j. slice_get (set w.clients n z) j ≡ Some c) same was) in subst IsPresentOrNone (ap (λ (y : ClientState). y.present) is ∙ present) form)
  | inr apart ↦ k.clients m c a (sym (set-there w.clients n m z apart) ∙ was) present
]
  where
    was : slice_get (set w.clients n z) m ≡ Some c
    was = ap (λ cs. slice_get cs m) (sym clients) ∙ at

-- a line that is added tells the same
added-in_form : (issued : List (AttemptId × Epoch)) (lines more : List Line) → ((a : Attempt) → Has a (tries lines) → AreToldInForm a.gots a.conds) → ((a : Attempt) → Has a (tries more) → AreToldInForm a.gots a.conds)
    → (a : Attempt) → Has a (tries (lines ++ map (with_epoch issued) more)) → AreToldInForm a.gots a.conds
added-in_form issued lines more before now a i = elim (has-cases (tries lines) (map (filled issued) (tries more)) a (subst (Has a) (tries-append lines (map (with_epoch issued) more) ∙ ap (λ ts. tries lines ++ ts) (tries-filled issued more)) i)) [
  | inl j ↦ before a j
  | inr j ↦ (let z = has-from_map (filled issued) (tries more) a j in subst (λ (y : Attempt). AreToldInForm y.gots y.conds) z.2 (now z.0 z.1))
]

-- what a client asks brings no answer
asked-in_form : (p : ClientPlan) (e : Epoch) (c : ClientState) (a : Present) (q : Post) → Asked p e c a q → BringsAnswerInForm q.message
asked-in_form p e c a q (ARead ops turns snapshot op rd at here asks says) = subst (λ (x : Post). BringsAnswerInForm x.message) (sym says) tt
asked-in_form p e c a q (ItsWrites ops turns snapshot w ws at last all says) = subst (λ (x : Post). BringsAnswerInForm x.message) (sym says) tt
asked-in_form p e c a q (ASnapshot name cont at says) = subst (λ (x : Post). BringsAnswerInForm x.message) (sym says) tt
asked-in_form p e c a q (AnAggregation cont at says) = subst (λ (x : Post). BringsAnswerInForm x.message) (sym says) tt

module _ (r : Rules) (script : IsInForm r.script.targets r.script) where
  few-ops : (n : ℕ) → HasFewOps (client_plan r n)
  few-ops n place d at = let f = command-here r n place d script at in command-few r.script.conts r.script.objs f.0 d f.1

  moves-keep : KeptByMoves r AnswersInForm
  moves-keep w n c here k = record {
    letters = sent-letters BringsAnswerInForm w.messages w.messages (client n) (listed m.post) k.letters (λ l i. i) (moved-posts BringsAnswerInForm (client_plan r n) c (λ a q asked. asked-in_form (client_plan r n) c.tracker c a q asked) (λ tracker. tt));
    clients = others-in_form w (after_move w n m) n m.state refl so.present k;
    lines = added-in_form w.issued w.lines (listed m.line) k.lines so.line;
  }
    where
      m : Move
      m = moved (client_plan r n) c

      so : MovesInForm m
      so = moved-in_form (client_plan r n) c (present-or_none w n c here k)

  hearing-keeps : KeptByHearing r AnswersInForm
  hearing-keeps w n c l rest here awake takes to k = record {
    letters = sent-letters BringsAnswerInForm w.messages rest (client n) (listed m.post) k.letters (λ x i. has-left_over w.messages l rest x takes i) (heard-posts BringsAnswerInForm (client_plan r n) c l.message (λ x. tt));
    clients = others-in_form w (after_move (without w rest) n m) n m.state refl so.present k;
    lines = added-in_form w.issued w.lines (listed m.line) k.lines so.line;
  }
    where
      m : Move
      m = heard (client_plan r n) c l.message

      so : MovesInForm m
      so = heard-in_form (client_plan r n) c l.message (few-ops n) (k.letters l (has-taken w.messages l rest takes)) (present-or_none w n c here k)

counting-keeps : KeptByCounting AnswersInForm
counting-keeps w n skip c here k = record {
  letters = k.letters;
  clients = others-in_form w (with_client n (record c { skip = skip }) w) n (record c { skip = skip }) refl (present-or_none w n c here k) k;
  lines = k.lines;
}

-- ---- targets

-- no client does anything, and no line tells of an attempt
still-in_form : (w v : World) → v.clients ≡ w.clients → tries v.lines ≡ tries w.lines → ((l : Letter) → Has l v.messages → BringsAnswerInForm l.message) → AnswersInForm w → AnswersInForm v
still-in_form w v clients lines letters k = record {
  letters = letters;
  clients = λ n c a at. k.clients n c a (ap (λ cs. slice_get cs n) (sym clients) ∙ at);
  lines = λ a i. k.lines a (subst (Has a) lines i);
}

no-more : (lines more : List Line) → tries more ≡ [] → tries (lines ++ more) ≡ tries lines
no-more lines more none = tries-append lines more ∙ ap (λ ts. tries lines ++ ts) none ∙ append-nil (tries lines)

-- a target does something, and its lines tell of no attempt
turn-keeps : (w v : World) (from : ActorId) (rest : List Letter) (did : Did) → v.clients ≡ w.clients → v.messages ≡ rest ++ letters_of from did.posts → v.lines ≡ w.lines ++ map (with_epoch w.issued) did.lines
    → ((l : Letter) → Has l rest → Has l w.messages) → PostsInForm did.posts → tries did.lines ≡ [] → AnswersInForm w → AnswersInForm v
turn-keeps w v from rest did clients messages lines left sent none k =
    still-in_form w v clients
    (ap tries lines ∙ no-more w.lines (map (with_epoch w.issued) did.lines) (tries-filled w.issued did.lines ∙ ap (map (filled w.issued)) none))
    (λ l i. sent-letters BringsAnswerInForm w.messages rest from did.posts k.letters left sent l (subst (Has l) messages i)) k

-- ---- openings, and what is lost

silent-brings_none : (m : Message) → is_silent m ≡ true → BringsAnswerInForm m
silent-brings_none (message.Fetched x op group e b) is = let no : ⊥ = cc in absurd no
silent-brings_none m is = tt

rests-keep : (w v : World) → Rests w v → AnswersInForm w → AnswersInForm v
rests-keep w v rests k = still-in_form w v rests.clients (same-tries w v rests) (resting-letters BringsAnswerInForm w v rests k.letters silent-brings_none) k

cut-keeps : (r : Rules) (w v : World) → TargetCut r w v → AnswersInForm w → AnswersInForm v
cut-keeps r w v g k = still-in_form w v (ap (λ u. u.clients) g.after) lines letters k
  where
    untried : (a : AtWork) → CutOf (target_plan r g.t) g.s a g.cut → tries g.cut.lines ≡ []
    untried (Hearing l reading number) turn = hearing-untried (target_plan r g.t) g.s.opening g.s.memory reading number l.from (kept g.s) g.cut l.message turn
    untried IdleWork turn = idling-untried (target_plan r g.t) g.s.opening g.s.memory 0 0 (target g.t) (kept g.s) g.cut turn

    stop : List Line
    stop = line.Stop (stops_so_far w.lines) g.t ∷ []

    lines : tries v.lines ≡ tries w.lines
    lines =
        ap (λ u. tries u.lines) g.after ∙ ap tries (append_assoc w.lines g.cut.lines stop)
        ∙ no-more w.lines (g.cut.lines ++ stop) (untried-both g.cut.lines stop (untried g.work g.turn) (untried-one (line.Stop (stops_so_far w.lines) g.t) refl))

    letters : (l : Letter) → Has l v.messages → BringsAnswerInForm l.message
    letters l i = lost-letters BringsAnswerInForm g.t false w.messages w.asked k.letters (λ u down m. tt) l (subst (λ u. Has l u.messages) g.after i)

-- ---- every event

fetched-none : (m : Message) → is_fetched m ≡ false → BringsAnswerInForm m
fetched-none (message.Fetched x op group e b) off = let no : ⊥ = cc in absurd no
fetched-none m off = tt

module _ (r : Rules) (w : World) (script : IsInForm r.script.targets r.script) (reads : ReadsInForm w) (keys : TargetsHaveKeys w) (k : AnswersInForm w) where
  plain-keeps : (v : World) → Event r w v → AnswersInForm v
  plain-keeps v (ByClient g) = by-next r AnswersInForm (moves-keep r script) counting-keeps w v k g
  plain-keeps v (ToClient g) = by-hearing r AnswersInForm (moves-keep r script) (hearing-keeps r script) w v k g
  plain-keeps v (ToTarget g) =
      turn-keeps w v (target g.t) g.rest g.did (ap (λ u. u.clients) g.after) (ap (λ u. u.messages) g.after) (ap (λ u. u.lines) g.after) (λ l i. has-left_over w.messages g.l g.rest l g.takes i)
      (hears-in_form (target_plan r g.t) g.s.opening g.s.memory g.reading g.l.from (kept g.s) g.new (g.memory, g.did) (reads.waiting g.t g.s g.here g.runs) (keys g.t g.s g.here) g.l.message
      (reads.asked g.l g.t g.s (has-taken w.messages g.l g.rest g.takes) g.to_it g.here g.runs) g.turn)
      (ap tries (plain-lines (target_plan r g.t) g.s.opening g.s.memory g.reading g.l.from g.l.message (kept g.s) g.new (g.memory, g.did) g.turn) ∙ untried-none) k
  plain-keeps v (ByTarget g) =
      turn-keeps w v (target g.t) w.messages g.did (ap (λ u. u.clients) g.after) (ap (λ u. u.messages) g.after) (ap (λ u. u.lines) g.after) (λ l i. i)
      (λ q i. fetched-none q.message (ends-none g.settling (target_plan r g.t) g.s.memory g.turn.last g.new (g.memory, g.did) g.turn.ends q i))
      (ap tries (idle-lines g.settling (target_plan r g.t) g.s.memory g.turn.last g.new (g.memory, g.did) g.turn.ends) ∙ untried-none) k

  happening-keeps : (v : World) → Happening r w v → AnswersInForm v
  happening-keeps v (Plainly e up) = plain-keeps v e
  happening-keeps v (Further f) =
      let g = f.hears in
      turn-keeps w v (target g.t) g.rest g.did (ap (λ u. u.clients) g.after) (ap (λ u. u.messages) g.after) (ap (λ u. u.lines) g.after) (λ l i. has-left_over w.messages g.l g.rest l g.takes i)
      (further-in_form f.number (target_plan r g.t) g.s.opening g.s.memory g.reading g.l.from (kept g.s) g.new (g.memory, g.did) g.l.message g.turn)
      (turn-lines-untried g.t g.did.lines (further-lines f.number (target_plan r g.t) g.s.opening g.s.memory g.reading g.l.from g.l.message (kept g.s) g.new (g.memory, g.did) g.turn).own) k
  happening-keeps v (IsCut g) = cut-keeps r w v g k
  happening-keeps v (Opens g) = rests-keep w v (opening-rests r w v g) k
  happening-keeps v (Fails g) = rests-keep w v (failure-rests r w v g) k
  happening-keeps v (GivenUp g) = rests-keep w v (given_up-rests r w v g) k
  happening-keeps v (Draws g) = rests-keep w v (numbers-rests w v g) k

pub all-events-keep_answers_in_form : AllEventsKeepAnswersInForm
all-events-keep_answers_in_form r w v script reads keys k e =
    subst AnswersInForm (sym e.after) (rests-keep e.u (swept e.u) (sweep-rests e.u) (happening-keeps r w script reads keys k e.u e.happens))

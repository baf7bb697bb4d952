-- Every event of a run of a script in form keeps it so that reads that are asked have form, whatever targets keep.
use Rattle.std.specs.Prelude.{ℕ, ◌≡◌, ◌++◌, true, false, List, [], slice_get, Some}
use Rattle.std.proofs.Common.{sym, ◌∙◌, ap, subst, inl, inr}
use Rattle.std.proofs.Math.ListN.{set}
use Rattle.base_types.specs.declared.epoch.Epoch.{Epoch}
use Rattle.base_types.specs.declared.script.Command.TheVariants.{Run}
use Rattle.base_types.specs.Scripts.{IsInForm, IsOpInForm}
use Rattle.base_messages.specs.declared.message.Message.{Message}
use Rattle.base_messages.specs.declared.message.Message.TheVariants as message
use Rattle.base_messages.specs.declared.message.Post.{Post}
use Rattle.daos_model.specs.declared.durable.Version.{Version}
use Rattle.daos_model.specs.Opening.{Opening}
use Rattle.model_laws.specs.Lists.{all-at}
use Rattle.model_laws.specs.Members.{Has, contains-from_has, has-from_contains}
use Rattle.world_base.specs.declared.client.ClientState.{ClientState}
use Rattle.world_base.specs.declared.client.Present.{Present}
use Rattle.world_base.specs.declared.letter.Letter.{Letter}
use Rattle.world_base.specs.declared.target.TargetState.{TargetState}
use Rattle.world_base.specs.declared.world.World.{World}
use Rattle.world_base.specs.ClientTurns.{heard, listed, moved}
use Rattle.world_base.specs.Events.{ByClient, ByTarget, Event, Rules, ToClient, ToTarget, client_plan, kept, target_after, target_plan}
use Rattle.world_base.specs.Letters.{client, letters_of, target}
use Rattle.world_base.specs.StepLaws.{by-hearing, by-next, set-is, set-there}
use Rattle.world_base.specs.Steps.{KeptByCounting, KeptByHearing, KeptByMoves}
use Rattle.world_base.specs.Stops.{Draws, Fails, Further, GivenUp, Happening, IsCut, Opens, Plainly, TargetCut, WorldEvent, stopped_at, swept}
use Rattle.world_making.specs.world_causes.restarts.Resting.{Rests, failure-rests, given_up-rests, is_silent, numbers-rests, opening-rests, sweep-rests}
use Rattle.world_making.specs.world_commit.attempts.Counting.{has-left_over, has-taken}
use Rattle.world_making.specs.world_commit.attempts.Turning.{one-or_another}
use Rattle.world_making.specs.world_letters.talks.Asked.{ARead, ASnapshot, AnAggregation, Asked, ItsWrites}
use Rattle.world_making.specs.world_contents.reads.Given.{Given, IsMessageRight, IsParkedRight}
use Rattle.world_making.specs.world_contents.posts.ClientPosts.{command-here}
use Rattle.world_making.specs.world_contents.posts.ScriptForm.{read-in-form, question-form}
use Rattle.world_answers.specs.Asking.{further-asks, hears-asks, idle-asks}
use Rattle.world_answers.specs.Forms.{AsksAreInForm, AsksInForm, PostsAskInForm, ReadsInForm, WaitInForm}
use Rattle.world_answers.specs.Posts.{heard-posts, lost-letters, moved-posts, resting-letters, sent-letters}

-- ---- the statements

-- so it is where nothing is in flight, and nothing waits
abbrev pub AsksBeginInForm : Type 0
AsksBeginInForm = (w : World) → w.messages ≡ [] → ((t : ℕ) (s : TargetState) → slice_get w.targets t ≡ Some s → s.memory.member.parked ≡ []) → AsksAreInForm w

-- every event of a run of a script in form keeps it
abbrev pub AllEventsKeepAsksInForm : Type 0
AllEventsKeepAsksInForm = (r : Rules) (w v : World) → IsInForm r.script.targets r.script → AsksAreInForm w → WorldEvent r w v → AsksAreInForm v

-- so have those form that go to running targets, or wait there
abbrev pub AsksAreReads : Type 0
AsksAreReads = (w : World) → AsksAreInForm w → ReadsInForm w

-- what is right of reads that are asked says that they have form
abbrev pub GivenReadsAreInForm : Type 0
GivenReadsAreInForm = (r : Rules) (o : Opening) (held : ℕ → List Version) (w : World) → Given r o held w → ReadsInForm w

-- ---- reads of running targets

pub asks-are_reads : AsksAreReads
asks-are_reads w k = record { asked = λ l t s i to here runs. k.letters l i; waiting = λ t s here runs. k.waiting t s here }

pub given-reads_are_in_form : GivenReadsAreInForm
given-reads_are_in_form r o held w g = record {
  asked = λ l t s i to here runs. message-asks t s l.message (g.asked l t s (contains-from_has w.messages l i) to here runs);
  waiting = λ t s here runs p i. parked-asks t s p.ask (g.waiting t s p here runs i);
}
  where
    message-asks : (t : ℕ) (s : TargetState) (m : Message) → IsMessageRight r o w t s m → AsksInForm m
    message-asks t s (message.Fetch x op group ep first tracker q snapshot) right = right.0.form
    message-asks t s m right = tt

    parked-asks : (t : ℕ) (s : TargetState) (m : Message) → IsParkedRight r o w t s.durable m → AsksInForm m
    parked-asks t s (message.Fetch x op group ep first tracker q snapshot) right = right.right.form
    parked-asks t s m right = tt

-- ---- the beginning

pub asks-begin_in_form : AsksBeginInForm
asks-begin_in_form w none idle = record { letters = λ l i. absurd (subst (Has l) none i); waiting = λ t s here p i. absurd (subst (Has p) (idle t s here) i) }

-- ---- clients

module _ (r : Rules) (script : IsInForm r.script.targets r.script) where
  -- what an operation asks is in form
  asked-in_form : (n : ℕ) (e : Epoch) (c : ClientState) (a : Present) (q : Post) → Asked (client_plan r n) e c a q → AsksInForm q.message
  asked-in_form n e c a q (ARead ops turns snapshot op rd at here asks says) =
      subst (λ (x : Post). AsksInForm x.message) (sym says)
      (read-in-form r.script.objs rd script.declared.obj_units
      (question-form r.script.objs a.stage op rd (all-at (IsOpInForm r.script.objs) ops a.op op (command-here r n c.place (Run ops turns snapshot) script at).1.0.in_form here) asks))
  asked-in_form n e c a q (ItsWrites ops turns snapshot w ws at last all says) = subst (λ (x : Post). AsksInForm x.message) (sym says) tt
  asked-in_form n e c a q (ASnapshot name cont at says) = subst (λ (x : Post). AsksInForm x.message) (sym says) tt
  asked-in_form n e c a q (AnAggregation cont at says) = subst (λ (x : Post). AsksInForm x.message) (sym says) tt

  moves-keep : KeptByMoves r AsksAreInForm
  moves-keep w n c here k = record {
    letters = sent-letters AsksInForm w.messages w.messages (client n) (listed (moved (client_plan r n) c).post) k.letters (λ l i. i) (moved-posts AsksInForm (client_plan r n) c (asked-in_form n c.tracker c) (λ tracker. tt));
    waiting = k.waiting;
  }

  hearing-keeps : KeptByHearing r AsksAreInForm
  hearing-keeps w n c l rest here awake takes to k = record {
    letters = sent-letters AsksInForm w.messages rest (client n) (listed (heard (client_plan r n) c l.message).post) k.letters (λ x i. has-left_over w.messages l rest x takes i) (heard-posts AsksInForm (client_plan r n) c l.message (λ x. tt));
    waiting = k.waiting;
  }

counting-keeps : KeptByCounting AsksAreInForm
counting-keeps w n skip c here k = record { letters = k.letters; waiting = k.waiting }

-- ---- targets

-- one target is in another state
others-wait : (w v : World) (t : ℕ) (z : TargetState) → v.targets ≡ set w.targets t z → WaitInForm z.memory → AsksAreInForm w → (u : ℕ) (s : TargetState) → slice_get v.targets u ≡ Some s → WaitInForm s.memory
others-wait w v t z targets form k u s at = elim (one-or_another u t) [
  | inl same ↦ (let is : z ≡ s = set-is w.targets t z s (subst (λ j. slice_get (set w.targets t z) j ≡ Some s) same was) in subst (λ (y : TargetState). WaitInForm y.memory) is form)
  | inr apart ↦ k.waiting u s (sym (set-there w.targets t u z apart) ∙ was)
]
  where
    was : slice_get (set w.targets t z) u ≡ Some s
    was = ap (λ ss. slice_get ss u) (sym targets) ∙ at

turn-keeps : (w v : World) (t : ℕ) (z : TargetState) (rest : List Letter) (posts : List Post) → v.targets ≡ set w.targets t z → v.messages ≡ rest ++ letters_of (target t) posts → ((l : Letter) → Has l rest → Has l w.messages)
    → PostsAskInForm posts → WaitInForm z.memory → AsksAreInForm w → AsksAreInForm v
turn-keeps w v t z rest posts targets messages left sent form k = record {
  letters = λ l i. sent-letters AsksInForm w.messages rest (target t) posts k.letters left sent l (subst (Has l) messages i);
  waiting = others-wait w v t z targets form k;
}

silent-asks_none : (m : Message) → is_silent m ≡ true → AsksInForm m
silent-asks_none (message.Fetch x op group ep first tracker q snapshot) is = let no : ⊥ = cc in absurd no
silent-asks_none m is = tt

rests-keep : (w v : World) → Rests w v → AsksAreInForm w → AsksAreInForm v
rests-keep w v rests k = record {
  letters = resting-letters AsksInForm w v rests k.letters silent-asks_none;
  waiting = λ t z here p i. (let s = rests.targets t z here in k.waiting t s.0 s.1 p (has-from_contains s.0.memory.member.parked p (s.2.parked p (contains-from_has z.memory.member.parked p i))));
}

cut-keeps : (r : Rules) (w v : World) → TargetCut r w v → AsksAreInForm w → AsksAreInForm v
cut-keeps r w v g k = record {
  letters = λ l i. lost-letters AsksInForm g.t false w.messages w.asked k.letters (λ u down m. tt) l (subst (λ u. Has l u.messages) g.after i);
  waiting = others-wait w v g.t (stopped_at g.s g.cut.left) (ap (λ u. u.targets) g.after) (λ p i. absurd i) k;
}

-- ---- every event

module _ (r : Rules) (w : World) (script : IsInForm r.script.targets r.script) (k : AsksAreInForm w) where
  plain-keeps : (v : World) → Event r w v → AsksAreInForm v
  plain-keeps v (ByClient g) = by-next r AsksAreInForm (moves-keep r script) counting-keeps w v k g
  plain-keeps v (ToClient g) = by-hearing r AsksAreInForm (moves-keep r script) (hearing-keeps r script) w v k g
  plain-keeps v (ToTarget g) =
      let z = hears-asks (target_plan r g.t) g.s.opening g.s.memory g.reading g.l.from (kept g.s) g.new (g.memory, g.did) (k.waiting g.t g.s g.here) g.l.message (k.letters g.l (has-taken w.messages g.l g.rest g.takes)) g.turn in
      turn-keeps w v g.t (target_after g.s g.new g.memory) g.rest g.did.posts (ap (λ u. u.targets) g.after) (ap (λ u. u.messages) g.after) (λ l i. has-left_over w.messages g.l g.rest l g.takes i) z.posts z.waits k
  plain-keeps v (ByTarget g) =
      let z = idle-asks g.settling (target_plan r g.t) g.s.memory g.turn.last g.new (g.memory, g.did) (k.waiting g.t g.s g.here) g.turn.ends in
      turn-keeps w v g.t (target_after g.s g.new g.memory) w.messages g.did.posts (ap (λ u. u.targets) g.after) (ap (λ u. u.messages) g.after) (λ l i. i) z.posts z.waits k

  happening-keeps : (v : World) → Happening r w v → AsksAreInForm v
  happening-keeps v (Plainly e up) = plain-keeps v e
  happening-keeps v (Further f) =
      let g = f.hears in
      let z = further-asks (target_plan r g.t) g.s.opening g.s.memory g.reading g.l.from (kept g.s) g.new (g.memory, g.did) (k.waiting g.t g.s g.here) f.number g.l.message g.turn in
      turn-keeps w v g.t (target_after g.s g.new g.memory) g.rest g.did.posts (ap (λ u. u.targets) g.after) (ap (λ u. u.messages) g.after) (λ l i. has-left_over w.messages g.l g.rest l g.takes i) z.posts z.waits k
  happening-keeps v (IsCut g) = cut-keeps r w v g k
  happening-keeps v (Opens g) = rests-keep w v (opening-rests r w v g) k
  happening-keeps v (Fails g) = rests-keep w v (failure-rests r w v g) k
  happening-keeps v (GivenUp g) = rests-keep w v (given_up-rests r w v g) k
  happening-keeps v (Draws g) = rests-keep w v (numbers-rests w v g) k

pub all-events-keep_asks_in_form : AllEventsKeepAsksInForm
all-events-keep_asks_in_form r w v script k e = subst AsksAreInForm (sym e.after) (rests-keep e.u (swept e.u) (sweep-rests e.u) (happening-keeps r w script k e.u e.happens))

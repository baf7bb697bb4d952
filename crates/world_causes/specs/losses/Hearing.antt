-- What a target hears after stops keeps the facts of losses: it tells of a stop what it was told of one.
use Rattle.std.specs.Prelude.{ℕ, ◌≡◌, ◌==◌, ◌++◌, Bool, true, false, ◌&&◌, ◌||◌, List, [], ◌∷◌, map, Option, Some, None, refl, if◌then◌else◌}
use Rattle.std.proofs.Common.{sym, ◌∙◌, ap, subst, inl, inr}
use Rattle.base_types.specs.declared.entry.Entry.{Entry}
use Rattle.base_types.specs.declared.entry.EntryState.{EntryState}
use Rattle.base_types.specs.declared.epoch.Epoch.{Epoch}
use Rattle.base_types.specs.declared.id.AttemptId.{AttemptId}
use Rattle.base_types.specs.declared.outcome.Outcome.{Outcome}
use Rattle.base_types.specs.declared.outcome.Outcome.TheVariants as outcome
use Rattle.model_laws.specs.Members.{Has, has-cases, has-from_map}
use Rattle.base_messages.specs.declared.actor.ActorId.{ActorId}
use Rattle.base_messages.specs.declared.message.Message.{Message}
use Rattle.base_messages.specs.declared.message.Message.TheVariants as message
use Rattle.base_messages.specs.declared.message.Post.{Post}
use Rattle.daos_model.specs.Attempts.{is_lost, tries}
use Rattle.daos_model.specs.BoolLaws.{and_left}
use Rattle.base_types.specs.declared.outcome.FloorWhy.{FloorWhy}
use Rattle.world_causes.specs.outcomes.Untried.{untried-none}
use Rattle.daos_model.specs.Durables.{entry_of, same_attempt}
use Rattle.dtx_base.specs.declared.leading.Undecided.{Undecided}
use Rattle.dtx_base.specs.Asking.{ask_heard, asked_of, asked_open, tells_end}
use Rattle.dtx_base.specs.Leading.{LeaderOf, abort_to, ack_heard, answer_heard, answer_if_awaited, counted_at, decided, ended, entry_led, first_down, quietly, undecided_of, with_undecided}
use Rattle.dtx_base.specs.Members.{are_all_counted, is_other_member, other_members, with_target}
use Rattle.dtx_base.specs.Rows.{is_among}
use Rattle.world_contents.specs.world_commit.attempts.Attempts.{leader_of}
use Rattle.world_contents.specs.world_commit.attempts.Counting.{has-left_over, has-taken}
use Rattle.world_contents.specs.world_commit.attempts.Turning.{one-or_another}
use Rattle.world_base.specs.declared.did.Did.{Did}
use Rattle.world_base.specs.declared.letter.Letter.{Letter}
use Rattle.world_base.specs.declared.target.Life.TheVariants.{Running}
use Rattle.world_base.specs.declared.target.TargetMemory.{TargetMemory}
use Rattle.world_base.specs.declared.target.TargetPlan.{TargetPlan}
use Rattle.world_base.specs.declared.world.World.{World}
use Rattle.world_base.specs.Acks.{Aborts, AckEnds, AckNext, AckStage, Counts, Followed, Heard, IsFollowed}
use Rattle.world_base.specs.Changes.{Change, Kept, Steps}
use Rattle.world_base.specs.Events.{Rules, TargetHearsBy, kept, target_after, target_plan, with_epoch}
use Rattle.world_base.specs.Letters.{letter_of, letters_of, target}
use Rattle.world_base.specs.PathLaws.{reached-keeps}
use Rattle.world_base.specs.Roles.{leader_at}
use Rattle.world_base.specs.Further.{HearsFurther}
use Rattle.world_base.specs.Statuses.{AtOnce, EndsAs, IsDone, ask_left, state_of, status_left, status_refusal}
use Rattle.world_base.specs.TargetTurns.{Hearing}
use Rattle.world_base.specs.Turns.{Reached}
use Rattle.world_contents.specs.world_letters.epochs.Epochs.{IsPresent}
use Rattle.world_contents.specs.world_commit.fates.Asking.{asked-was}
use Rattle.world_contents.specs.world_letters.lines.FilledLaws.{tries-filled}
use Rattle.world_contents.specs.world_letters.lines.Lines.{filled}
use Rattle.world_causes.specs.losses.Losses.{Losses, Rests, StoppedSince, tells_stop}
use Rattle.world_causes.specs.losses.Recalling.{Recalls}
use Rattle.world_causes.specs.losses.Since.{since-more}
use Rattle.world_causes.specs.losses.Stopping.{rests-before}
use Rattle.world_causes.specs.losses.Recalling.{turn-runs}

-- ---- a target hears

-- what is sent tells of a stop where what was heard does
abbrev pub TellsAsTold : Message → List Post → Type 0
TellsAsTold m posts = (q : Post) (x : AttemptId) → Has q posts → tells_stop x q.message ≡ true → tells_stop x m ≡ true

module _ (Turn : Hearing) (r : Rules) (w v : World) (k : Losses r w) (g : TargetHearsBy Turn r w v) (says : TellsAsTold g.l.message g.did.posts) (no_lines : tries g.did.lines ≡ []) where
  untold : tries (map (with_epoch w.issued) g.did.lines) ≡ []
  untold = tries-filled w.issued g.did.lines ∙ ap (map (filled w.issued)) no_lines

  sent : (l : Letter) (x : AttemptId) → Has l (letters_of (target g.t) g.did.posts) → tells_stop x l.message ≡ true → IsPresent r w x → StoppedSince r (w.lines ++ map (with_epoch w.issued) g.did.lines) x
  sent l x i is at =
      let q = has-from_map (letter_of (target g.t)) g.did.posts l i in
      since-more r w.lines (map (with_epoch w.issued) g.did.lines) x untold (k.letters g.l x (has-taken w.messages g.l g.rest g.takes) (says q.0 x q.1 (subst (λ n. tells_stop x n.message ≡ true) (sym q.2) is)) at)

  -- it runs
  runs : (x : AttemptId) → (rests : Rests r v x) → leader_of r x ≡ g.t → rests.s.life ≡ Running
  runs = turn-runs r w v g.t g.s (target_after g.s g.new g.memory) g.here (ap (λ u. u.targets) g.after) g.runs

  pub hearing-recalls : Recalls r w v
  hearing-recalls = record {
    clients = ap (λ u. u.clients) g.after;
    more = map (with_epoch w.issued) g.did.lines;
    lines = ap (λ u. u.lines) g.after;
    untried = untold;
    letters = λ l x i is at. elim (has-cases g.rest (letters_of (target g.t) g.did.posts) l (subst (Has l) (ap (λ u. u.messages) g.after) i)) [
      | inl before ↦ inl (has-left_over w.messages g.l g.rest l g.takes before)
      | inr new ↦ inr (sent l x new is at)
    ];
    asked = λ l x i is asks at. elim (asked-was w.asked (letters_of (target g.t) g.did.posts) l (subst (Has l) (ap (λ u. u.asked) g.after) i)) [ inl before ↦ inl before | inr new ↦ inr (sent l x new.0 is at) ];
    resting = λ x rests at. elim (one-or_another (leader_of r x) g.t) [
      | inl is ↦ absurd (rests.off (runs x rests is))
      | inr off ↦ inl (rests-before r w v g.t (target_after g.s g.new g.memory) (ap (λ u. u.targets) g.after) x off rests)
    ];
  }

-- ---- an Ask

pub ask-tells : (x : AttemptId) (from : ActorId) (l : LeaderOf) → TellsAsTold (message.Ask x) (ask_heard x from l).posts
unfolding ask_heard
ask-tells x from l = by (entry_led x l) (is_among x l.memory.decided)
  where
    one : (own : Option Epoch) (how : Outcome) → TellsAsTold (message.Ask x) (tells_end from x own how)
    one own how q y (inl same) is = and_left (same_attempt x y) (is_lost y how) (ap (λ p. tells_stop y p.message) (sym same) ∙ is)
    one own how q y (inr none) is = absurd none

    still : (o : Option ℕ) (e : Entry) → TellsAsTold (message.Ask x) (asked_open x from e o l).posts
    still None e q y i is = absurd i
    still (Some down) e q y i is = one (Some e.epoch) (outcome.Unknown down) q y i is

    found : (b : Bool) (e : Entry) → TellsAsTold (message.Ask x) (if b then record { leader = l; posts = tells_end from x (Some e.epoch) outcome.Committed } else asked_open x from e (first_down e.members l.memory.down) l).posts
    found true e = one (Some e.epoch) outcome.Committed
    found false e = still (first_down e.members l.memory.down) e

    by : (o : Option Entry) (b : Bool) → TellsAsTold (message.Ask x) (asked_of x from o b l).posts
    by None b = one None _
    by (Some e) b = found (e.committed || b) e

-- ---- a Status, and the answer to it

pub status-tells : (x : AttemptId) (inc : ℕ) (how : EntryState) (from : ActorId) → TellsAsTold (message.Status x inc) (record { to = from; message = message.StatusIs x inc how } ∷ [])
status-tells x inc how from q y (inl same) is = ap (λ p. tells_stop y p.message) (sym same) ∙ is
status-tells x inc how from q y (inr none) is = absurd none

-- ---- a member's answer

module _ (m : Message) (a : AttemptId) (refusal : Option Outcome) (committed : (y : AttemptId) → (same_attempt a y && is_lost y outcome.Committed) ≡ true → tells_stop y m ≡ true)
    (refused : (how : Outcome) → refusal ≡ Some how → (y : AttemptId) → (same_attempt a y && is_lost y how) ≡ true → tells_stop y m ≡ true) where
  none-tells : TellsAsTold m []
  none-tells q y i is = absurd i

  both-tell : (ps qs : List Post) → TellsAsTold m ps → TellsAsTold m qs → TellsAsTold m (ps ++ qs)
  both-tell ps qs k n q y i is = elim (has-cases ps qs q i) [ inl j ↦ k q y j is | inr j ↦ n q y j is ]

  ended-tells : (o : Option ActorId) (e : Epoch) (how : Outcome) → ((y : AttemptId) → (same_attempt a y && is_lost y how) ≡ true → tells_stop y m ≡ true) → TellsAsTold m (ended o a e how)
  ended-tells None e how so q y i is = absurd i
  ended-tells (Some c) e how so q y (inl same) is = so y (ap (λ p. tells_stop y p.message) (sym same) ∙ is)
  ended-tells (Some c) e how so q y (inr none) is = absurd none

  marks-tell : (inc : ℕ) (ns : List ℕ) → TellsAsTold m (map (abort_to inc a) ns)
  marks-tell inc ns q y i is = let z = has-from_map (abort_to inc a) ns q i in let bad : false ≡ true = ap (λ p. tells_stop y p.message) z.2 ∙ is in let no : ⊥ = cc in absurd no

  answered-tells : (t : ℕ) (o : Option Outcome) → refusal ≡ o → (e : Entry) (u : Undecided) (l : LeaderOf) → TellsAsTold m (answer_heard t a o e u l).posts
  answered-tells t None is e u l = by (are_all_counted e (with_target u.counted t))
    where
      by : (b : Bool) → TellsAsTold m (if b then record { leader = decided a l; posts = ended u.client a e.epoch outcome.Committed } else quietly (with_undecided (map (counted_at a t) l.memory.undecided) l)).posts
      by true = ended-tells u.client e.epoch outcome.Committed committed
      by false = none-tells
  answered-tells t (Some how) is e u l = both-tell (ended u.client a e.epoch how) (map (abort_to l.incarnation a) (other_members e)) (ended-tells u.client e.epoch how (refused how is)) (marks-tell l.incarnation (other_members e))

  pub ack-tells-stop : (t inc : ℕ) (l : LeaderOf) → TellsAsTold m (ack_heard t a inc refusal l).posts
  unfolding ack_heard
  ack-tells-stop t inc l = by (inc == l.incarnation)
    where
      awaited : (o : Option Entry) (q : Option Undecided) → TellsAsTold m (answer_if_awaited t a refusal o q l).posts
      awaited None q = none-tells
      awaited (Some e) None = none-tells
      awaited (Some e) (Some u) = other (is_other_member e t)
        where
          other : (b : Bool) → TellsAsTold m (if b then answer_heard t a refusal e u l else quietly l).posts
          other true = answered-tells t refusal refl e u l
          other false = none-tells

      by : (b : Bool) → TellsAsTold m (if b then answer_if_awaited t a refusal (entry_led a l) (undecided_of a l) l else quietly l).posts
      by true = awaited (entry_led a l) (undecided_of a l)
      by false = none-tells

  abbrev FollowsSo : AckStage → Kept → Type 0
  FollowsSo Heard k = Unit {0}
  FollowsSo (Followed s) k = TellsAsTold m s.posts

  ack-step : (p : TargetPlan) (mem : TargetMemory) (member inc : ℕ) (s : AckStage) (k : Kept) (o : Option Change) (u : AckStage) (n : Kept) → AckNext p mem member a inc refusal s k o u → Steps o k n → FollowsSo s k → FollowsSo u n
  ack-step p mem member inc s k o u n (Aborts k2 on) steps so_far = ack-tells-stop member inc (leader_at p mem k.durable)
  ack-step p mem member inc s k o u n (Counts k2 off) steps so_far = ack-tells-stop member inc (leader_at p mem k.durable)

  pub answer-tells : (p : TargetPlan) (mem : TargetMemory) (member inc : ℕ) (old new : Kept) (last : AckStage) (left : TargetMemory × Did) → Reached (AckNext p mem member a inc refusal) Heard old last new → AckEnds mem last new left → TellsAsTold m left.1.posts
  answer-tells p mem member inc old new last left reached ends = by last new left ends (reached-keeps (AckNext p mem member a inc refusal) FollowsSo (ack-step p mem member inc) Heard old last new reached tt)
    where
      by : (last : AckStage) (new : Kept) (left : TargetMemory × Did) → AckEnds mem last new left → FollowsSo last new → TellsAsTold m left.1.posts
      by last new left (IsFollowed k2 s left2 is) so_far = subst (λ i. TellsAsTold m i.1.posts) (sym is) so_far

-- a refusal that tells of a stop
pub ack-tells-as_told : (a : AttemptId) (inc : ℕ) (refusal : Option Outcome) (p : TargetPlan) (mem : TargetMemory) (member : ℕ) (old new : Kept) (last : AckStage) (left : TargetMemory × Did) → Reached (AckNext p mem member a inc refusal) Heard old last new → AckEnds mem last new left
    → TellsAsTold (message.Ack a inc refusal) left.1.posts
ack-tells-as_told a inc refusal p mem member old new last left reached ends = answer-tells (message.Ack a inc refusal) a refusal (λ y is. absurd (never (same_attempt a y) is)) (λ how is y own. subst (λ o. tells_stop y (message.Ack a inc o) ≡ true) (sym is) own) p mem member inc old new last left reached ends
  where
    never : (b : Bool) → (b && false) ≡ true → ⊥
    never true is = let no : ⊥ = cc in no
    never false is = let no : ⊥ = cc in no

-- and what a member holds
pub state-tells-as_told : (a : AttemptId) (inc : ℕ) (how : EntryState) (refusal : Option Outcome) (p : TargetPlan) (mem : TargetMemory) (member : ℕ) (old new : Kept) (last : AckStage) (left : TargetMemory × Did) → Reached (AckNext p mem member a inc refusal) Heard old last new → AckEnds mem last new left
    → TellsAsTold (message.StatusIs a inc how) left.1.posts
state-tells-as_told a inc how refusal p mem member old new last left reached ends =
    answer-tells (message.StatusIs a inc how) a refusal (λ y is. and_left (same_attempt a y) (is_lost y outcome.Committed) is) (λ end is y own. and_left (same_attempt a y) (is_lost y end) own) p mem member inc old new last left reached ends

-- ---- the turns

-- who is asked after an attempt, and who is told what a member holds
abbrev pub is_answered_back : Message → Bool
is_answered_back (message.Ask x) = true
is_answered_back (message.Status x inc) = true
is_answered_back (message.StatusIs x inc how) = true
is_answered_back m = false

pub ends-as : (left_by : Kept → TargetMemory × Did) (a : AtOnce) (k : Kept) (left : TargetMemory × Did) → EndsAs left_by a k left → left ≡ left_by k
ends-as left_by a k left (IsDone k2 left2 is) = is

pub ack-lines : (m : TargetMemory) (s : AckStage) (k : Kept) (left : TargetMemory × Did) → AckEnds m s k left → left.1.lines ≡ []
ack-lines m s k left (IsFollowed k2 st left2 is) = ap (λ i. i.1.lines) is

further-tells : (number : ℕ) (p : TargetPlan) (opening : Epoch × FloorWhy) (m : TargetMemory) (reading : ℕ) (from : ActorId) (q : Message) (old new : Kept) (left : TargetMemory × Did) → is_answered_back q ≡ true → HearsFurther number p opening m reading from q old new left → TellsAsTold q left.1.posts × (left.1.lines ≡ [])
further-tells number p opening m reading from (message.Ask x) old new left is h =
    let ends = ends-as (ask_left p m from x) h.last new left h.ends in
    (subst (λ i. TellsAsTold (message.Ask x) i.1.posts) (sym ends) (ask-tells x from (leader_at p m new.durable)), ap (λ i. i.1.lines) ends)
further-tells number p opening m reading from (message.Status x inc) old new left is h =
    let ends = ends-as (status_left m from x inc) h.last new left h.ends in
    (subst (λ i. TellsAsTold (message.Status x inc) i.1.posts) (sym ends) (status-tells x inc (state_of (entry_of new.durable x)) from), ap (λ i. i.1.lines) ends)
further-tells number p opening m reading from (message.StatusIs x inc how) old new left is h =
    (state-tells-as_told x inc how (status_refusal x how) p m from.number old new h.last left h.reached h.ends, ack-lines m h.last new left h.ends)
further-tells number p opening m reading from q old new left is h = let no : ⊥ = cc in absurd no

pub answered-back-recalls : (number : ℕ) (r : Rules) (w v : World) → Losses r w → (g : TargetHearsBy (HearsFurther number) r w v) → is_answered_back g.l.message ≡ true → Recalls r w v
answered-back-recalls number r w v k g is = hearing-recalls (HearsFurther number) r w v k g tells.0 (ap tries tells.1 ∙ untried-none)
  where
    tells : TellsAsTold g.l.message g.did.posts × (g.did.lines ≡ [])
    tells = further-tells number (target_plan r g.t) g.s.opening g.s.memory g.reading g.l.from g.l.message (kept g.s) g.new (g.memory, g.did) is g.turn

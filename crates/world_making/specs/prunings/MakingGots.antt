-- Whatever happens keeps that clients were told what was served, also what is heard of snapshots and aggregation.
use Rattle.std.specs.Prelude.{ℕ, ◌≡◌, ◌<◌, ◌++◌, Bool, true, false, All, List, [], ◌∷◌, map, filter, Contains, slice_get, Some, None, refl}
use Rattle.std.proofs.Common.{sym, ◌∙◌, ap, subst, append-nil, append_assoc, inl, inr}
use Rattle.base_types.specs.declared.report.Line.{Line}
use Rattle.base_types.specs.declared.report.Line.TheVariants as line
use Rattle.base_types.specs.declared.epoch.Epoch.{Epoch}
use Rattle.base_types.specs.declared.id.AttemptId.{AttemptId}
use Rattle.base_types.specs.declared.outcome.FloorWhy.{FloorWhy}
use Rattle.base_messages.specs.declared.actor.ActorId.{ActorId}
use Rattle.base_messages.specs.declared.message.Message.{Message}
use Rattle.base_messages.specs.declared.message.Message.TheVariants as message
use Rattle.model_laws.specs.Members.{Has, contains-from_has, has-cases, has-from_contains, has-from_filter, has-from_map}
use Rattle.daos_model.specs.Attempts.{tries}
use Rattle.daos_model.specs.BoolLaws.{clash}
use Rattle.daos_model.specs.Laws.{tries-append}
use Rattle.world_causes.specs.world_commit.attempts.History.{History}
use Rattle.world_base.specs.declared.client.ClientState.{ClientState}
use Rattle.world_base.specs.declared.letter.Letter.{Letter}
use Rattle.world_base.specs.declared.target.TargetMemory.{TargetMemory}
use Rattle.world_base.specs.declared.target.TargetPlan.{TargetPlan}
use Rattle.world_base.specs.declared.world.World.{World}
use Rattle.world_base.specs.Changes.{Kept}
use Rattle.world_base.specs.CutTurns.{Cutting, HearingIsCut}
use Rattle.world_base.specs.Events.{Rules, TargetHearsBy, kept, target_plan, with_epoch}
use Rattle.world_base.specs.Further.{HearsFurther}
use Rattle.world_base.specs.Letters.{target}
use Rattle.world_base.specs.Roles.{is_prepared}
use Rattle.world_base.specs.Stops.{AtWork, CutOf, Draws, Fails, Further, GivenUp, Happening, Hearing, HearsMore, IdleWork, IsCut, Opens, Plainly, TargetCut, WorldEvent, is_not_to, is_to, reset_letter, resets, stops_so_far, swept}
use Rattle.world_letters.specs.epochs.Epochs.{ClientsStand}
use Rattle.world_causes.specs.world_commit.fates.Facts.{Attempts}
use Rattle.world_causes.specs.world_contents.gots.Gots.{Gots, IsLineServed, Remembers}
use Rattle.world_causes.specs.world_contents.gots.TargetGots.{gots-remembered, sent-or_left}
use Rattle.world_causes.specs.hearing.Cutting.{turn-silent}
use Rattle.world_causes.specs.hearing.Going.{AnswersAreServed}
use Rattle.world_causes.specs.hearing.HappeningGots.{happenings-keep-gots}
use Rattle.world_causes.specs.world_contents.reads.Adds.{is_answer}
use Rattle.world_causes.specs.restarts.EpochLaws.{rests-gots}
use Rattle.world_causes.specs.restarts.Resting.{sweep-rests, tries-none}
use Rattle.world_causes.specs.world_commit.statuses.Heard.{is_of_attempts}
use Rattle.world_causes.specs.world_commit.statuses.Senders.{SendersAreRight}
use Rattle.world_causes.specs.world_commit.stops.CutEvents.{IsWithoutSnapshots, is_without_snapshots}
use Rattle.world_letters.specs.talks.TalkLaws.{left-is-among}
use Rattle.world_letters.specs.waits.Waits.{Conversation}
use Rattle.world_making.specs.prunings.Saying.{AreUntried, SaysQuietly, says-quietly}

-- ---- the statement

-- where conversations are in order before what happens and after it, and what targets serve is remembered
abbrev pub AllEventsKeepGots : Type 0
AllEventsKeepGots =
    (r : Rules) (h k : History) (w v : World) → 0 < r.attempts → Remembers h k → Conversation r w → SendersAreRight w → Attempts r h w → ClientsStand r w → Gots r h w → (e : WorldEvent r w v) → Conversation r e.u
    → AnswersAreServed e.happens k → Gots r k v

-- ---- a cut tells of no attempt

cut-untried : (number : ℕ) (p : TargetPlan) (opening : Epoch × FloorWhy) (m : TargetMemory) (reading : ℕ) (from : ActorId) (q : Message) (old : Kept) (cut : Cutting) → is_without_snapshots q ≡ false
    → HearingIsCut is_prepared number p opening m reading from q old cut → AreUntried cut.lines
cut-untried number p opening m reading from (message.Snap x c name tracker) old cut ours g = turn-silent _ _ p.me _ old cut g
cut-untried number p opening m reading from (message.Freeze x c s) old cut ours g = turn-silent _ _ p.me _ old cut g
cut-untried number p opening m reading from (message.Held x refusal) old cut ours g = turn-silent _ _ p.me _ old cut g
cut-untried number p opening m reading from (message.Prune x c (Some tracker) None) old cut ours g = turn-silent _ _ p.me _ old cut g
cut-untried number p opening m reading from (message.Prune x c None (Some e)) old cut ours g = turn-silent _ _ p.me _ old cut g
cut-untried number p opening m reading from (message.Prune x c (Some tracker) (Some e)) old cut ours g = absurd g
cut-untried number p opening m reading from (message.Prune x c None None) old cut ours g = absurd g
cut-untried number p opening m reading from q old cut ours g = let no : ⊥ = cc in absurd no

-- an epoch that is told with a line makes it none of an attempt
dated-untried : (issued : List (AttemptId × Epoch)) (ls : List Line) → AreUntried ls → AreUntried (map (with_epoch issued) ls)
dated-untried issued ls none a i = by z.0 z.1 z.2
  where
    z : (l : Line) × Has l ls × (with_epoch issued l ≡ line.Try a)
    z = has-from_map (with_epoch issued) ls (line.Try a) i

    by : (l : Line) → Has l ls → with_epoch issued l ≡ line.Try a → ⊥
    by (line.Try b) j same = none b j
    by (line.Stop n t) j same = let no : ⊥ = cc in no
    by (line.Restart n t inc floor) j same = let no : ⊥ = cc in no
    by (line.Freeze t c e) j same = let no : ⊥ = cc in no
    by (line.Snapshot name c e) j same = let no : ⊥ = cc in no
    by (line.Aggregate n t c e) j same = let no : ⊥ = cc in no
    by (line.Down t) j same = let no : ⊥ = cc in no

module _ (r : Rules) (h : History) (w v : World) (G : Gots r h w) where
  -- no answer is in flight that wasn't, and no attempt has one more line
  fewer : v.clients ≡ w.clients → (more : List Line) → v.lines ≡ w.lines ++ more → AreUntried more → ((l : Letter) → Contains v.messages l → is_answer l.message ≡ true → Contains w.messages l) → Gots r h v
  fewer clients more told untried letters = record {
    present = λ n c a at. G.present n c a (was n c at);
    lines = subst (All (IsLineServed r h)) (sym lines) G.lines;
    flying = λ n c a l x op group own b at present i to is. G.flying n c a l x op group own b (was n c at) present (letters l i (ap is_answer is)) to is;
  }
    where
      was : (n : ℕ) (c : ClientState) → slice_get v.clients n ≡ Some c → slice_get w.clients n ≡ Some c
      was n c at = ap (λ cs. slice_get cs n) (sym clients) ∙ at

      lines : tries v.lines ≡ tries w.lines
      lines = ap tries told ∙ tries-append w.lines more ∙ ap (λ as'. tries w.lines ++ as') (tries-none more untried) ∙ append-nil (tries w.lines)

  making-gots : (f : HearsMore r w v) → is_of_attempts f.hears.l.message ≡ false → Gots r h v
  making-gots f ours =
      fewer (ap (λ u. u.clients) g.after) (map (with_epoch w.issued) g.did.lines) (ap (λ u. u.lines) g.after) (dated-untried w.issued g.did.lines quiet.untried)
      (λ l i answer. elim (sent-or_left g.rest (target g.t) g.did.posts l (subst (λ ls. Contains ls l) (ap (λ z. z.messages) g.after) i)) [
        | inl j ↦ left-is-among w.messages g.l g.rest l g.takes j
        | inr p ↦ clash (is_answer p.0.message) (ap (λ z. is_answer z.message) p.2 ∙ answer) (quiet.silent p.0 p.1)
      ])
    where
      g : TargetHearsBy (HearsFurther f.number) r w v
      g = f.hears

      quiet : SaysQuietly g.s.memory (g.memory, g.did)
      quiet = says-quietly f.number (target_plan r g.t) g.s.opening g.s.memory g.reading g.l.from g.l.message (kept g.s) g.new (g.memory, g.did) ours g.turn

  cut-gots : (g : TargetCut r w v) → AreUntried g.cut.lines → Gots r h v
  cut-gots g untried = fewer (ap (λ u. u.clients) g.after) (g.cut.lines ++ stop) (ap (λ u. u.lines) g.after ∙ append_assoc w.lines g.cut.lines stop) none letters
    where
      stop : List Line
      stop = line.Stop (stops_so_far w.lines) g.t ∷ []

      none : AreUntried (g.cut.lines ++ stop)
      none a i = elim (has-cases g.cut.lines stop (line.Try a) i) [ inl j ↦ untried a j | inr j ↦ at-stop j ]
        where
          at-stop : Has (line.Try a) stop → ⊥
          at-stop (inl same) = let no : ⊥ = cc in no
          at-stop (inr j) = j

      letters : (l : Letter) → Contains v.messages l → is_answer l.message ≡ true → Contains w.messages l
      letters l i answer = elim (has-cases (filter (is_not_to g.t) w.messages) (resets g.t false w.asked) l (has-from_contains (filter (is_not_to g.t) w.messages ++ resets g.t false w.asked) l (subst (λ u. Contains u.messages l) g.after i))) [
        | inl j ↦ contains-from_has w.messages l (has-from_filter (is_not_to g.t) w.messages l j).0
        | inr j ↦ (let y = has-from_map (reset_letter false) (filter (is_to g.t) w.asked) l j in clash (is_answer l.message) answer (sym (ap (λ n. is_answer n.message) y.2)))
      ]

-- ---- whatever happens

module _ (r : Rules) (h k : History) (w v : World) (some : 0 < r.attempts) (more : Remembers h k) (W : Conversation r w) (V : Conversation r v) (senders : SendersAreRight w) (A : Attempts r h w) (S : ClientsStand r w) (G : Gots r h w) where
  all-happenings-keep-gots : (e : Happening r w v) → AnswersAreServed e k → Gots r k v
  all-happenings-keep-gots (Plainly e up) answered = happenings-keep-gots r h k w v some more W V senders A S G (Plainly e up) tt answered
  all-happenings-keep-gots (Further f) answered = by (is_of_attempts f.hears.l.message) refl
    where
      by : (plain : Bool) → is_of_attempts f.hears.l.message ≡ plain → Gots r k v
      by true plain = happenings-keep-gots r h k w v some more W V senders A S G (Further f) plain answered
      by false ours = gots-remembered r h k v more (making-gots r h w v G f ours)
  all-happenings-keep-gots (IsCut g) answered = by g.work refl
    where
      by : (a : AtWork) → g.work ≡ a → Gots r k v
      by IdleWork is = happenings-keep-gots r h k w v some more W V senders A S G (IsCut g) (subst IsWithoutSnapshots (sym is) tt) answered
      by (Hearing l reading number) is = heard (is_without_snapshots l.message) refl
        where
          heard : (plain : Bool) → is_without_snapshots l.message ≡ plain → Gots r k v
          heard true plain = happenings-keep-gots r h k w v some more W V senders A S G (IsCut g) (subst IsWithoutSnapshots (sym is) plain) answered
          heard false ours =
              gots-remembered r h k v more
              (cut-gots r h w v G g (cut-untried number (target_plan r g.t) g.s.opening g.s.memory reading l.from l.message (kept g.s) g.cut ours (subst (λ a. CutOf (target_plan r g.t) g.s a g.cut) is g.turn)))
  all-happenings-keep-gots (Opens g) answered = happenings-keep-gots r h k w v some more W V senders A S G (Opens g) tt answered
  all-happenings-keep-gots (Fails g) answered = happenings-keep-gots r h k w v some more W V senders A S G (Fails g) tt answered
  all-happenings-keep-gots (GivenUp g) answered = happenings-keep-gots r h k w v some more W V senders A S G (GivenUp g) tt answered
  all-happenings-keep-gots (Draws g) answered = happenings-keep-gots r h k w v some more W V senders A S G (Draws g) tt answered

pub all-events-keep_gots : AllEventsKeepGots
all-events-keep_gots r h k w v some more W senders A S G e V answered =
    subst (Gots r k) (sym e.after) (rests-gots r 0 e.u (swept e.u) (sweep-rests e.u) k (all-happenings-keep-gots r h k w e.u some more W V senders A S G e.happens answered))

-- Whatever happens, but for what is heard of snapshots and aggregation, keeps the facts of versions and reads.
use Rattle.std.specs.Prelude.{ℕ, ◌≡◌, ◌++◌, Bool, true, false, not, is_some, List, [], ◌∷◌, filter, Option, Some, None, refl}
use Rattle.std.proofs.Common.{sym, ◌∙◌, ap, subst, arith, inl, inr}
use Rattle.std.proofs.lemmas.Bool.Decides.{nat_tests}
use Rattle.base_types.specs.declared.entry.Entry.{Entry}
use Rattle.base_types.specs.declared.epoch.Epoch.{Epoch}
use Rattle.base_types.specs.declared.id.AttemptId.{AttemptId}
use Rattle.base_types.specs.declared.outcome.Outcome.{Outcome}
use Rattle.base_types.specs.declared.outcome.Outcome.TheVariants.{Committed}
use Rattle.base_messages.specs.declared.actor.ActorId.{ActorId}
use Rattle.base_messages.specs.declared.message.Message.{Message}
use Rattle.base_messages.specs.declared.message.Message.TheVariants as message
use Rattle.model_laws.specs.Members.{Has, contains-from_has, has-from_filter}
use Rattle.model_laws.specs.TargetLaws.{number_same}
use Rattle.daos_model.specs.declared.durable.Durable.{Durable}
use Rattle.daos_model.specs.declared.durable.Version.{Version}
use Rattle.daos_model.specs.BoolLaws.{and_right}
use Rattle.daos_model.specs.Durables.{entry_of}
use Rattle.daos_model.specs.Opening.{Opening}
use Rattle.dtx_base.specs.Leading.{is_led, is_open_alone}
use Rattle.dtx_base.specs.Members.{other_members}
use Rattle.dtx_base.specs.Rows.{is_empty}
use Rattle.world_contents.specs.world_commit.attempts.Attempts.{IsItsEntry, IsOther, entry_at, entry_in, leader_of}
use Rattle.world_contents.specs.world_commit.attempts.Counting.{has-taken}
use Rattle.world_contents.specs.world_commit.attempts.History.{History, Tells}
use Rattle.world_contents.specs.world_commit.attempts.Stored.{found-here}
use Rattle.world_contents.specs.world_commit.attempts.MemberBits.{others-same}
use Rattle.world_base.specs.declared.target.TargetState.{TargetState}
use Rattle.world_base.specs.declared.world.World.{World}
use Rattle.world_base.specs.CutTurns.{HearingIsCut}
use Rattle.world_base.specs.Events.{Rules, kept, target_plan}
use Rattle.world_base.specs.Roles.{is_prepared}
use Rattle.world_base.specs.Stops.{AtWork, CutOf, Draws, Fails, Further, GivenUp, Happening, Hearing, IdleWork, IsCut, IsInHand, Opens, Plainly, TargetCut, TargetOpens}
use Rattle.world_contents.specs.world_commit.fates.Told.{silent_end}
use Rattle.world_contents.specs.reads.Given.{IsMessageRight, IsRefusalRight}
use Rattle.world_contents.specs.reads.Growing.{refused_in}
use Rattle.world_contents.specs.reads.Reads.{Reads}
use Rattle.world_contents.specs.reads.Versions.{Versions}
use Rattle.world_causes.specs.restarts.CutLaws.{IsPlainWork, cuts-keep, is_heard_plainly}
use Rattle.world_causes.specs.restarts.OpenLaws.{failure-keeps, given_up-keeps, numbers-keep, opening-keeps}
use Rattle.world_contents.specs.world_commit.statuses.Events.{HappensWithoutSnapshots, told_by}
use Rattle.world_contents.specs.world_commit.stops.CutAnswers.{ack_told}
use Rattle.world_contents.specs.world_commit.stops.CutEvents.{IsWithoutSnapshots, cut_told, is_without_snapshots, message_told}
use Rattle.world_contents.specs.world_commit.stops.Openings.{alone, opening_told}
use Rattle.world_causes.specs.hearing.Deciding.{AreEnded, MayEnd, aborted-on, end-all, ended-grow}
use Rattle.world_causes.specs.hearing.FurtherTurns.{further-goes, state-right}
use Rattle.world_causes.specs.hearing.Going.{AnswersAreServed, Before, GoesOn}
use Rattle.world_causes.specs.hearing.Growing.{tells-grow}
use Rattle.world_causes.specs.hearing.PlainTurns.{knows, plain-goes, stays-on}

-- ---- the statements

abbrev pub HappeningsKeepReads : Type 0
HappeningsKeepReads =
    (r : Rules) (o : Opening) (held : ℕ → List Version) (h : History) (w v : World) → Before r o held h w → (e : Happening r w v) → HappensWithoutSnapshots e → GoesOn r o held h v (told_by e) (AnswersAreServed e)

-- ---- a turn is cut

module _ (r : Rules) (o : Opening) (held : ℕ → List Version) (h : History) (w v : World) (b : Before r o held h w) (g : TargetCut r w v) where
  -- a refusal tells of no commit
  refusal-none : (s : TargetState) (x : AttemptId) (refusal : Option Outcome) (d : Durable) → IsRefusalRight refusal → (y : AttemptId) (f : Epoch) → Tells (ack_told s x refusal d) y (Some f) Committed → ⊥
  refusal-none s x refusal d right y f t = by (entry_of s.durable x) (is_some (entry_of d x)) refusal right t.sent
    where
      by : (k : Option Entry) (stays : Bool) (refusal : Option Outcome) → IsRefusalRight refusal → Has (record { to = t.to; message = message.Ended y (Some f) Committed }) (silent_end x refusal k false false stays) → ⊥
      by None stays refusal right i = i
      by (Some e) true refusal right i = i
      by (Some e) false None right i = i
      by (Some e) false (Some how) right (inl same) =
          let m : message.Ended y (Some f) Committed ≡ message.Ended x (Some e.epoch) how = ap (λ p. p.message) same in
          let is : Committed ≡ how = cc in right (sym is)
      by (Some e) false (Some how) right (inr j) = j

  heard-none : (m : Message) → ((x : AttemptId) (inc : ℕ) (refusal : Option Outcome) → m ≡ message.Ack x inc refusal → IsRefusalRight refusal) → (y : AttemptId) (f : Epoch) → Tells (message_told m g.s g.cut) y (Some f) Committed → ⊥
  heard-none (message.Ack x inc refusal) right y f t = refusal-none g.s x refusal g.cut.left.durable (right x inc refusal refl) y f t
  heard-none (message.StatusIs x inc how) right y f t = refusal-none g.s x _ g.cut.left.durable (state-right x how) y f t
  heard-none m right y f t = t.sent

  none-committed : (y : AttemptId) (f : Epoch) → Tells (cut_told g.work g.s g.cut) y (Some f) Committed → ⊥
  none-committed = by g.work g.in_hand
    where
      by : (a : AtWork) → IsInHand w g.t a → (y : AttemptId) (f : Epoch) → Tells (cut_told a g.s g.cut) y (Some f) Committed → ⊥
      by (Hearing l reading number) hand y f t = heard-none l.message right y f t
        where
          right : (x : AttemptId) (inc : ℕ) (refusal : Option Outcome) → l.message ≡ message.Ack x inc refusal → IsRefusalRight refusal
          right x inc refusal is =
              subst (λ m. IsMessageRight r o w g.t g.s m) is (b.given.asked l g.t g.s (contains-from_has w.messages l (has-taken w.messages l hand.0.0 hand.0.1)) hand.1 g.here g.runs)
      by IdleWork hand y f t = t.sent

  -- each kind of turn that is of no snapshot and no aggregation
  plain-heard : (m : Message) (reading number : ℕ) (from : ActorId) → is_without_snapshots m ≡ true → HearingIsCut is_prepared number (target_plan r g.t) g.s.opening g.s.memory reading from m (kept g.s) g.cut → is_heard_plainly m ≡ true
  plain-heard (message.Fetch x op group ep first tracker q snapshot) reading number from ours turn = refl
  plain-heard (message.Commit x ep first tracker ws) reading number from ours turn = refl
  plain-heard (message.Prepare e first ws inc) reading number from ours turn = refl
  plain-heard (message.Ack x inc refusal) reading number from ours turn = refl
  plain-heard (message.StatusIs x inc how) reading number from ours turn = refl
  plain-heard (message.Mark inc marks) reading number from ours turn = refl
  plain-heard (message.Marked inc ids) reading number from ours turn = refl
  plain-heard (message.Verdict x ask inc c) reading number from ours turn = refl
  plain-heard (message.Query x ask) reading number from ours turn = refl
  plain-heard (message.Ask x) reading number from ours turn = refl
  plain-heard (message.Status x inc) reading number from ours turn = refl
  plain-heard (message.Reset' by down place asked) reading number from ours turn = refl
  plain-heard (message.Snap x c name tracker) reading number from ours turn = let no : ⊥ = cc in absurd no
  plain-heard (message.Freeze x c s) reading number from ours turn = let no : ⊥ = cc in absurd no
  plain-heard (message.Held x refusal) reading number from ours turn = let no : ⊥ = cc in absurd no
  plain-heard (message.Prune x c tracker e) reading number from ours turn = let no : ⊥ = cc in absurd no
  plain-heard m reading number from ours turn = absurd turn

  plain-work : IsWithoutSnapshots g.work → IsPlainWork g.work
  plain-work ours = by g.work ours g.turn
    where
      by : (a : AtWork) → IsWithoutSnapshots a → CutOf (target_plan r g.t) g.s a g.cut → IsPlainWork a
      by (Hearing l reading number) ours turn = plain-heard l.message reading number l.from ours turn
      by IdleWork ours turn = tt

  pub cut-goes : IsWithoutSnapshots g.work → GoesOn r o held h v (cut_told g.work g.s g.cut) (λ later. Unit {0})
  cut-goes ours = record {
    later = record { decided = h.decided; aborted = refused_in (cut_told g.work g.s g.cut) ++ h.aborted; served = h.served };
    grows = tells-grow h (cut_told g.work g.s g.cut) [] h.served (λ y f t. absurd (none-committed y f t)) (λ y f i. absurd i);
    served = λ q i. i;
    also = tt;
    versions = k.0;
    reads = k.1;
  }
    where
      k : Versions r o held (record { decided = h.decided; aborted = refused_in (cut_told g.work g.s g.cut) ++ h.aborted; served = h.served }) v
          × Reads r o (record { decided = h.decided; aborted = refused_in (cut_told g.work g.s g.cut) ++ h.aborted; served = h.served }) v
      k = aborted-on r o held h v (refused_in (cut_told g.work g.s g.cut) ++ h.aborted) (cuts-keep r o held h w v (knows r o held h w v b) g (plain-work ours))

-- ---- a target opens

module _ (r : Rules) (o : Opening) (held : ℕ → List Version) (h : History) (w v : World) (b : Before r o held h w) (g : TargetOpens r w v) where
  -- an attempt that it leads without other members may be decided
  may-end : (e : Entry) → Has e (alone g.t g.s.durable) → MayEnd r w e
  may-end e i = record {
    held = record {
      holds = λ u at. elim at [
        | inl same ↦ record { entry = e; found = ap (λ n. entry_at w n e.attempt) (same ∙ sym leads) ∙ found; epoch = refl }
        | inr other ↦ absurd (no-other u other)
      ];
      place = λ u k at. ((b.attempts.on.each e.attempt).entries.one u k at).place;
    };
    issued = contains-from_has w.issued (e.attempt, e.epoch) its.issued;
    some = b.writes g.t g.s e g.here among;
  }
    where
      f : Has e (filter (is_led g.t) g.s.durable.entries) × (is_open_alone e ≡ true)
      f = has-from_filter is_open_alone (filter (is_led g.t) g.s.durable.entries) e i

      l : Has e g.s.durable.entries × (is_led g.t e ≡ true)
      l = has-from_filter (is_led g.t) g.s.durable.entries e f.0

      among : Has e g.s.durable.entries
      among = l.0

      found : entry_at w g.t e.attempt ≡ Some e
      found = ap (λ s. entry_in s e.attempt) g.here ∙ found-here g.s.durable e (b.attempts.on.ordered g.t g.s g.here).entries among

      its : IsItsEntry r w e.attempt g.t e
      its = (b.attempts.on.each e.attempt).entries.one g.t e found

      leads : g.t ≡ leader_of r e.attempt
      leads = sym (number_same e.leader g.t l.1) ∙ its.leader

      no-other : (u : ℕ) → IsOther r e.attempt u → ⊥
      no-other u other = empty (other_members e) (and_right (not e.committed) (is_empty (other_members e)) f.1) (subst (Has u) (sym (others-same r e.attempt e its.leader its.members)) other)
        where
          empty : (ns : List ℕ) → is_empty ns ≡ true → Has u ns → ⊥
          empty [] is m = m
          empty (y ∷ ns) is m = let no : ⊥ = grind (arith, nat_tests) in no

  pub open-goes : GoesOn r o held h v (opening_told g.t g.s.durable) (λ later. Unit {0})
  open-goes = record {
    later = z.later;
    grows = ended-grow r o held h w (alone g.t g.s.durable) z;
    served = λ q i. subst (Has q) (sym z.served) i;
    also = tt;
    versions = k.0;
    reads = k.1;
  }
    where
      z : AreEnded r o held h w (alone g.t g.s.durable)
      z = end-all r o held h w b.given b.right.one_epoch b.versions b.reads (alone g.t g.s.durable) may-end

      k : Versions r o held z.later v × Reads r o z.later v
      k = opening-keeps r o held z.later w v g z.kept.0 z.kept.1

-- ---- whatever happens

pub happenings-keep : HappeningsKeepReads
happenings-keep r o held h w v b (Plainly e up) ours = plain-goes r o held h w v b e up
happenings-keep r o held h w v b (Further g) ours = further-goes r o held h w v b g ours
happenings-keep r o held h w v b (IsCut g) ours = cut-goes r o held h w v b g ours
happenings-keep r o held h w v b (Opens g) ours = open-goes r o held h w v b g
happenings-keep r o held h w v b (Fails g) ours = stays-on r o held h w v b (λ later. Unit {0}) tt (failure-keeps r o held h w v g b.versions b.reads)
happenings-keep r o held h w v b (GivenUp g) ours = stays-on r o held h w v b (λ later. Unit {0}) tt (given_up-keeps r o held h w v g b.versions b.reads)
happenings-keep r o held h w v b (Draws g) ours = stays-on r o held h w v b (λ later. Unit {0}) tt (numbers-keep r o held h w v g b.versions b.reads)

-- What is told and asked between targets stays so where a target hears of a snapshot or an aggregation.
use Rattle.std.specs.Prelude.{ℕ, ◌≡◌, true, slice_get, Option, Some, None}
use Rattle.std.proofs.Common.{sym, ◌∙◌, ap, subst, inl, inr}
use Rattle.base_types.specs.declared.entry.Verdict.TheVariants as said
use Rattle.base_types.specs.declared.id.AttemptId.{AttemptId}
use Rattle.base_types.specs.declared.report.Line.TheVariants as line
use Rattle.base_messages.specs.declared.message.Message.{Message}
use Rattle.base_messages.specs.declared.message.Message.TheVariants as message
use Rattle.base_messages.specs.declared.message.Post.{Post}
use Rattle.dtx_base.specs.declared.leading.Naming.{Naming}
use Rattle.dtx_base.specs.Leading.{undecided_attempt}
use Rattle.dtx_base.specs.Members.{has_target}
use Rattle.dtx_base.specs.Rows.{row_of}
use Rattle.model_laws.specs.Members.{Has, has-left}
use Rattle.world_causes.specs.world_commit.asks.Asks.{IsNamingOf, IsQueryOf, IsVerdict, NonePrepares, RowsLack}
use Rattle.world_causes.specs.world_commit.asks.InquiryKept.{SenseStays, still-heard, still-inquired, still-told}
use Rattle.world_causes.specs.world_commit.asks.Knowing.{KnowsAttempts}
use Rattle.world_causes.specs.world_commit.asks.Moving.{TargetMoves, heard-moves, now-here, same-there}
use Rattle.world_causes.specs.world_commit.asks.NamedLaws.{newly-flies, target-named}
use Rattle.world_causes.specs.world_commit.asks.ParkedLaws.{target-parked}
use Rattle.world_causes.specs.world_commit.asks.RowsKept.{target-rows}
use Rattle.world_causes.specs.world_commit.asks.Told.{IsRefused, LeavesTold, held-or, none-or, prepare-is, told-on}
use Rattle.world_causes.specs.world_commit.attempts.Attempts.{IsOther, leader_of}
use Rattle.world_causes.specs.world_commit.attempts.History.{Aborted, History}
use Rattle.world_causes.specs.world_commit.attempts.MemberBits.{has-with, has-with_other}
use Rattle.world_causes.specs.world_commit.attempts.Turning.{one-or_another}
use Rattle.world_base.specs.declared.letter.Letter.{Letter}
use Rattle.world_base.specs.declared.target.TargetState.{TargetState}
use Rattle.world_base.specs.declared.world.World.{World}
use Rattle.world_base.specs.Events.{Rules, TargetHearsBy, kept, target_after, target_plan}
use Rattle.world_base.specs.Further.{HearsFurther}
use Rattle.world_base.specs.Letters.{letter_of, target}
use Rattle.world_base.specs.Stops.{HearsMore}
use Rattle.world_causes.specs.world_commit.fates.Facts.{down_in, knows_down}
use Rattle.world_making.specs.fates.Sends.{is_sent_in_making, making-sent}
use Rattle.world_making.specs.making.Making.{IsOfMaking, MakingLeaves, down_then}
use Rattle.world_making.specs.making.Turns.{hearings-leave}
use Rattle.world_causes.specs.world_commit.questions.Facts.{InquiriesHold, IsAsked, IsKnownDown, IsNamed, IsNamingReset, IsOnInquiry, IsOnNaming, IsOnQuery, IsQueryReset, IsTold, IsToldOrStopped, LeaderStopped, NamesSender, NamingsFly, Questions, ResetsNameSenders, WaitingAreAsked}
use Rattle.world_causes.specs.world_commit.questions.Facts as fact
use Rattle.world_making.specs.questions.Entries.{LeavesEntryOf, turn-leaves-entry}
use Rattle.world_making.specs.questions.Sends.{naming-unheard, naming-unlost, prepare-unsent, query-unheard, query-unlost, query-unsent, sent-names, mark-unheard}

-- who was known to be down is
pub down-stays : (q : Message) (down u : ℕ) → has_target down u ≡ true → has_target (down_then q down) u ≡ true
down-stays (message.Reset' by true place more) down u has = elim (one-or_another u by) [
  | inl same ↦ subst (λ n. has_target (down_then (message.Reset' by true place more) down) n ≡ true) (sym same) (has-with down by)
  | inr apart ↦ has-with_other down by u apart ∙ has
]
down-stays q down u has = has

module _ (r : Rules) (w v : World) (g : HearsMore r w v) (is : IsOfMaking g.hears.l.message) where
  abbrev a : TargetHearsBy (HearsFurther g.number) r w v
  a = g.hears

  abbrev z : TargetState
  z = target_after a.s a.new a.memory

  left : MakingLeaves g.number (target_plan r a.t) a.s.memory a.reading a.l.from a.l.message (kept a.s) a.new (a.memory, a.did)
  left = hearings-leave g.number (target_plan r a.t) a.s.opening a.s.memory a.reading a.l.from a.l.message (kept a.s) a.new (a.memory, a.did) a.turn is

  moves : TargetMoves w v a.t a.s z (Some a.l) a.did.posts
  moves = heard-moves r w v a

  sent : (p : Post) → Has p a.did.posts → is_sent_in_making p.message ≡ true
  sent = making-sent (target_plan r a.t) a.s.memory a.l.from a.l.message a.new.durable a.did.posts left.ends.sends

  -- a letter that comes is sent so
  comes-sent : (l : Letter) (p : Post) → Has p a.did.posts → l ≡ letter_of (target a.t) p → is_sent_in_making l.message ≡ true
  comes-sent l p i same = subst (λ n. is_sent_in_making n.message ≡ true) (sym same) (sent p i)

  leaves-entry : (x : AttemptId) → LeavesEntryOf x a.s.durable a.new.durable
  leaves-entry x = turn-leaves-entry x g.number (target_plan r a.t) a.s.memory a.reading a.l.from a.l.message (kept a.s) a.new (a.memory, a.did) left

  -- ---- what leaders named, what Fetches wait for, and who lacks a member

  naming-stays : (u : ℕ) (n : Naming) → IsOnNaming w u n → IsOnNaming v u n
  naming-stays u n (IsNamed (j, i, k)) = elim (moves.stays j i) [
    | inl heard ↦ absurd (naming-unheard u n a.l is (subst (IsNamingOf u n) (let same : j ≡ a.l = cc in same) k))
    | inr stays ↦ IsNamed (j, stays, k)
  ]
  naming-stays u n (fact.IsReset (j, i, k)) = elim (moves.stays j i) [
    | inl heard ↦ absurd (naming-unlost u n a.l is (subst (IsNamingReset u n) (let same : j ≡ a.l = cc in same) k))
    | inr stays ↦ fact.IsReset (j, stays, k)
  ]

  query-stays : (m : ℕ) (x : AttemptId) (ask : Option AttemptId) → IsOnQuery w m x ask → IsOnQuery v m x ask
  query-stays m x ask (IsAsked (j, i, k)) = elim (moves.stays j i) [
    | inl heard ↦ absurd (query-unheard m x ask a.l is (subst (IsQueryOf m x ask) (let same : j ≡ a.l = cc in same) k))
    | inr stays ↦ IsAsked (j, stays, k)
  ]
  query-stays m x ask (fact.IsReset (j, i, k)) = elim (moves.stays j i) [
    | inl heard ↦ absurd (query-unlost m x ask a.l is (subst (IsQueryReset m x ask) (let same : j ≡ a.l = cc in same) k))
    | inr stays ↦ fact.IsReset (j, stays, k)
  ]

  making-namings : NamingsFly w → NamingsFly v
  making-namings k =
      target-named IsOnNaming w v a.t a.s z (Some a.l) a.did.posts (λ n. Unit {0}) moves (λ n i. inl (subst (Has n) left.ends.knows.named i, tt))
      (λ n new. IsNamed (newly-flies w v a.t a.s z (Some a.l) a.did.posts moves n new)) (λ u n open'. naming-stays u n) k

  making-waiting : WaitingAreAsked w → WaitingAreAsked v
  making-waiting k =
      target-parked IsOnQuery w v a.t a.s z (Some a.l) a.did.posts (λ p. Unit {0}) (λ x ask. Unit {0}) moves
      (λ p i. inl (subst (Has p) (ap (λ y. y.parked) left.ends.knows.member) i, tt))
      (λ p of fetch still. tt) (λ m x ask f. IsAsked f) (λ m x ask open'. query-stays m x ask) k

  making-rows : RowsLack r w → RowsLack r v
  making-rows k = target-rows r w v a.t a.s z (Some a.l) a.did.posts moves (λ x u at. inl (ap (row_of undecided_attempt x) (sym left.ends.knows.undecided) ∙ at)) k

  making-senders : ResetsNameSenders w → ResetsNameSenders v
  making-senders k l i = elim (moves.comes l i) [
    | inl old ↦ k l old
    | inr new ↦ sent-names l.from l.message (comes-sent l new.0 new.1 new.2)
  ]

  -- ---- what is inquired

  module _ (h later : History) (A : KnowsAttempts r h w) (B : KnowsAttempts r later v) (grown : (x : AttemptId) → Aborted h x → Aborted later x) where
    leaves : LeavesTold r h later w v
    leaves = record {
      aborted = grown;
      kept = λ x held. held-or w v a.t a.s z (Some a.l) a.did.posts moves (leader_of r x) x (IsRefused r later v x) (λ same k. inl ((leaves-entry x).kept k)) held;
      none = λ m x other heard none. none-or w v a.t a.s z (Some a.l) a.did.posts moves m x (λ same k. (leaves-entry x).unprepared k) none;
      prepares = λ m x born heard l i asks. elim (moves.comes l i) [
        | inl old ↦ heard l old asks
        | inr new ↦ prepare-unsent m x l.to l.message (comes-sent l new.0 new.1 new.2) (prepare-is m x l asks)
      ];
      marks = λ m x f. elim (moves.stays f.0 f.1) [
        | inl heard ↦ absurd (mark-unheard a.l.message f.2.inc f.2.marks is (ap (λ y. y.message) (let same : a.l ≡ f.0 = cc in same) ∙ f.2.mark))
        | inr stays ↦ inl (f.0, stays, f.2)
      ];
    }

    -- who was known to be down is
    down-on : (m u : ℕ) → knows_down w m u ≡ true → knows_down v m u ≡ true
    down-on m u down = elim (one-or_another m a.t) [
      | inl same ↦
          subst (λ n. knows_down v n u ≡ true) (sym same)
          (ap (λ o. down_in o u) (now-here w v a.t a.s z (Some a.l) a.did.posts moves) ∙ ap (λ d. has_target d u) left.ends.knows.down
          ∙ down-stays a.l.message a.s.memory.leader.down u (sym (ap (λ o. down_in o u) a.here) ∙ ap (λ n. knows_down w n u) (sym same) ∙ down))
      | inr other ↦ ap (λ o. down_in o u) (same-there w v a.t a.s z (Some a.l) a.did.posts moves m other) ∙ down
    ]

    sense : SenseStays (IsKnownDown r) (IsToldOrStopped r) r h later w v
    sense = record { down = λ m x down. down-on m (leader_of r x) down; told = told; plainly = λ m x t. IsTold t }
      where
        told : (m : ℕ) (x : AttemptId) → IsOther r x m → NonePrepares w m x → IsToldOrStopped r h w m x → IsToldOrStopped r later v m x
        told m x other heard (IsTold t) = IsTold (told-on r h later w v B leaves m x other heard t)
        told m x other heard (LeaderStopped k stop) =
            LeaderStopped (grown x k) (
              stop.0,
              subst (Has (line.Stop stop.0 (leader_of r x))) (sym (ap (λ u. u.lines) a.after))
                  (has-left w.lines _ (line.Stop stop.0 (leader_of r x)) stop.1),
            )

    making-inquiries : InquiriesHold r h w → InquiriesHold r later v
    making-inquiries k = record {
      rows = λ m y q here i. elim (one-or_another m a.t) [
        | inl same ↦
            let at : Some z ≡ Some y = sym (now-here w v a.t a.s z (Some a.l) a.did.posts moves) ∙ ap (slice_get v.targets) (sym same) ∙ here in
            let before : Has q a.s.memory.member.inquiries = subst (λ n. Has q n.inquiries) left.ends.knows.member
            (subst (λ x. Has q x.memory.member.inquiries) (let one : y ≡ z = cc in one) i) in
            still-inquired IsOnInquiry (IsKnownDown r) (IsToldOrStopped r) r h later w v A B k leaves sense m q (query-stays m q.attempt None)
            (k.rows m a.s q (ap (slice_get w.targets) same ∙ a.here) before)
        | inr other ↦
            still-inquired IsOnInquiry (IsKnownDown r) (IsToldOrStopped r) r h later w v A B k leaves sense m q (query-stays m q.attempt None)
            (k.rows m y q (sym (same-there w v a.t a.s z (Some a.l) a.did.posts moves m other) ∙ here) i)
      ];
      heard = λ m x other f. elim (moves.comes f.0 f.1) [
        | inl old ↦ still-heard IsOnInquiry (IsKnownDown r) (IsToldOrStopped r) r h later w v A B k leaves sense m x other (f.0, old, f.2)
        | inr new ↦ absurd (query-unsent m x None f.0 (comes-sent f.0 new.0 new.1 new.2) f.2)
      ];
      told = λ m x f. elim (moves.comes f.0 f.1) [
        | inl old ↦ still-told IsOnInquiry (IsKnownDown r) (IsToldOrStopped r) r h later w v A B k leaves sense m x (f.0, old, f.2)
        | inr new ↦ absurd (query-unsent m x None f.0 (comes-sent f.0 new.0 new.1 new.2) (IsVerdict f.2.inc said.Undecided f.2.says f.2.to))
      ];
    }

    pub making-questions : Questions r h w → Questions r later v
    making-questions k = record {
      named = making-namings k.named;
      waiting = making-waiting k.waiting;
      rows = making-rows k.rows;
      inquiries = making-inquiries k.inquiries;
      senders = making-senders k.senders;
    }

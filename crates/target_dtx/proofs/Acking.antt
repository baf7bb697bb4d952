-- What an Ack comes to.
use Rattle.std.proofs.Common.{ℕ, ◌≡◌, refl, sym, ◌∙◌, ap, subst, Bool, true, false, ◌&&◌, List, Option, Some, None, Ok, Err}
use Rattle.std.specs.Prelude.{◌==◌, if◌then◌else◌}
use Rattle.base_types.specs.declared.entry.Entry.{Entry}
use Rattle.base_types.specs.declared.entry.Settle.TheVariants.{Abort}
use Rattle.base_types.specs.declared.id.AttemptId.{AttemptId}
use Rattle.base_types.specs.declared.outcome.Outcome.{Outcome}
use Rattle.base_messages.specs.declared.message.Post.{Post}
use Rattle.daos_model.specs.declared.durable.Durable.{Durable}
use Rattle.daos_model.specs.BoolLaws.{and_left, and_right}
use Rattle.dtx_base.specs.declared.leading.LeaderMemory.{LeaderMemory}
use Rattle.dtx_base.specs.declared.leading.Undecided.{Undecided}
use Rattle.dtx_base.specs.Leading.{LeaderOf, LeaderStep, ack_heard, answer_heard, answer_if_awaited, entry_led, quietly, refusal_heard, undecided_of}
use Rattle.dtx_base.specs.Members.{is_other_member}
use Rattle.dtx_table.specs.declared.seat.Seat.{Seat}
use Rattle.dtx_table.specs.Seats.{came}
use Rattle.vos_store.specs.Calls.{State}
use Rattle.vos_store.specs.Conditions.{CanSettle}
use Rattle.vos_store.specs.declared.refusal.Stopped.{Stopped}
use Rattle.world_base.specs.declared.did.Did.{Did as DidOf}
use Rattle.world_base.specs.declared.target.TargetMemory.{TargetMemory}
use Rattle.world_base.specs.declared.target.TargetPlan.{TargetPlan}
use Rattle.world_base.specs.Acks.{Aborts, AckEnds, AckNext, Counts, Followed, Heard, IsFollowed, is_awaited, is_awaited_of, is_refusing}
use Rattle.world_base.specs.Changes.{Settles, made}
use Rattle.world_base.specs.Requests.{sends}
use Rattle.world_base.specs.Roles.{leader_at, leads_on}
use Rattle.world_base.specs.Turns.{CutShort, Reached, Whole}
use Rattle.target_parts.specs.Keeping.{MadeIf}
use Rattle.target_parts.specs.KeepingLaws.{open-aborts}
use Rattle.target_parts.specs.Knowing.{AreRowsOpen, IsApart, LeadsWell}
use Rattle.target_parts.specs.Parts.{Now, kept, left_by}
use Rattle.target_parts.specs.RowKeeping.{ack-rows, undecided-open, without-apart}
use Rattle.target_parts.specs.Turning.{cut_in_change, reached_change, reached_silent, whole}
use Rattle.world_base.specs.PathLaws.{reached-here}

-- an Ack that refuses is of an attempt that is undecided here, and aborts it
record Refuses (member : ℕ) (a : AttemptId) (inc : ℕ) (refusal : Option Outcome) (l : LeaderOf) : Type 0 where
  pub entry : Entry
  pub row : Undecided
  pub how : Outcome
  pub undecided : undecided_of a l ≡ Some row
  pub aborts : ack_heard member a inc refusal l ≡ refusal_heard a how entry row l

refuses : (member : ℕ) (a : AttemptId) (inc : ℕ) (refusal : Option Outcome) (l : LeaderOf) → is_refusing member a inc refusal l ≡ true → Refuses member a inc refusal l
unfolding is_awaited ack_heard
refuses member a inc None l is = let none : false ≡ true = and_right (is_awaited member a inc l) false is in let no : ⊥ = cc in absurd no
refuses member a inc (Some how) l is = by (inc == l.incarnation) (entry_led a l) (undecided_of a l) refl (and_left (is_awaited member a inc l) true is) refl
  where
    last : (b : Bool) (e : Entry) (u : Undecided) → b ≡ true → ack_heard member a inc (Some how) l ≡ (if b then answer_heard member a (Some how) e u l else quietly l) → ack_heard member a inc (Some how) l ≡ refusal_heard a how e u l
    last true e u is-other same = same
    last false e u is-other same = let no : ⊥ = cc in absurd no

    by : (b : Bool) (eo : Option Entry) (uo : Option Undecided) → undecided_of a l ≡ uo → (b && is_awaited_of member eo uo) ≡ true → ack_heard member a inc (Some how) l ≡ (if b then answer_if_awaited member a (Some how) eo uo l else quietly l) → Refuses member a inc (Some how) l
    by false eo uo found awaited same = let no : ⊥ = cc in absurd no
    by true None uo found awaited same = let no : ⊥ = cc in absurd no
    by true (Some e) None found awaited same = let no : ⊥ = cc in absurd no
    by true (Some e) (Some u) found awaited same = record { entry = e; row = u; how = how; undecided = found; aborts = last (is_other_member e member) e u awaited same }

module _ (t : TargetPlan) (m : TargetMemory) (member : ℕ) (a : AttemptId) (inc : ℕ) (refusal : Option Outcome) (d : Durable) where
  abbrev pub step : LeaderStep
  step = ack_heard member a inc refusal (leader_at t m d)

  abbrev seat : Seat
  seat = record { me = t.me; targets = t.targets; incarnation = d.incarnation }

  -- what was called of the leader is this step
  pub stepped : (l : LeaderOf) (n : LeaderMemory) (posts : List Post) → l ≡ leader_at t m d → ◌≡◌ {A = LeaderMemory × List Post} (n, posts) (came (ack_heard member a inc refusal l)) → (n ≡ step.leader.memory) × (posts ≡ step.posts)
  stepped l n posts same is = (
    ap (λ (p : LeaderMemory × List Post). p.0) is ∙ ap (λ x. (ack_heard member a inc refusal x).leader.memory) same,
    ap (λ (p : LeaderMemory × List Post). p.1) is ∙ ap (λ x. (ack_heard member a inc refusal x).posts) same,
  )

  -- what is remembered still fits
  pub leads-acked : (es : List Entry) → LeadsWell t m es d → LeadsWell t (leads_on step m) es d
  leads-acked es k = record { entries = k.entries; rows = ack-rows seat d.entries m.leader d k.rows member a inc refusal; heard = k.heard; asks = k.asks }

  module _ (rows : AreRowsOpen t.me m.leader d) (refused : is_refusing member a inc refusal (leader_at t m d) ≡ true) where
    of : Refuses member a inc refusal (leader_at t m d)
    of = refuses member a inc refusal (leader_at t m d) refused

    pub refused-can : CanSettle a Abort d
    refused-can = open-aborts t.me a d (undecided-open seat d.entries m.leader d rows a of.row of.undecided).0

    pub refused-apart : IsApart a step.leader.memory
    refused-apart = subst (λ s. IsApart a s.leader.memory) (sym of.aborts) (record {
      decided = (undecided-open seat d.entries m.leader d rows a of.row of.undecided).1;
      undecided = λ u i. (without-apart a m.leader.undecided u i).1;
    })

module _ (t : TargetPlan) (m : TargetMemory) (member : ℕ) (a : AttemptId) (inc : ℕ) (refusal : Option Outcome) (d : Durable) (h k : State) (new : Option Durable) where
  abbrev comes : LeaderStep
  comes = ack_heard member a inc refusal (leader_at t m d)

  -- the attempt that it refuses was aborted; any other Ack changes nothing that is kept
  pub ack-done : (b : Bool) (finds : Durable → Type 0) (n : TargetMemory) (told : DidOf) (posts : List Post) → b ≡ is_refusing member a inc refusal (leader_at t m d) → MadeIf b (Settles a Abort) d h new k finds (Ok tt)
      → n ≡ leads_on comes m → told ≡ sends posts None → posts ≡ comes.posts → Now new k (λ l. Whole (AckNext t m member a inc refusal) (AckEnds m) Heard (kept d h) l (n, told))
  ack-done b finds n told posts is made_if memory told-is same = by b is made_if
    where
      left : ◌≡◌ {A = TargetMemory × DidOf} (n, told) (leads_on comes m, sends comes.posts None)
      left = ap (λ x. (x, told)) memory ∙ ap (λ x. (leads_on comes m, x)) (told-is ∙ ap (λ ps. sends ps None) same)

      by : (b : Bool) → b ≡ is_refusing member a inc refusal (leader_at t m d) → MadeIf b (Settles a Abort) d h new k finds (Ok tt) → Now new k (λ l. Whole (AckNext t m member a inc refusal) (AckEnds m) Heard (kept d h) l (n, told))
      by true is did = record {
        durable = made (Settles a Abort) d;
        kept_is = did.kept_is;
        holds = whole (AckNext t m member a inc refusal) (AckEnds m) Heard (kept d h) (kept (made (Settles a Abort) d) k) (Followed comes) (n, told)
            (reached_change (AckNext t m member a inc refusal) Heard (kept d h) Heard (kept d h) (Settles a Abort) (Followed comes) (kept (made (Settles a Abort) d) k) (reached-here (AckNext t m member a inc refusal) Heard (kept d h)) (Aborts (kept d h) (sym is)) refl did.free)
            (IsFollowed (kept (made (Settles a Abort) d) k) comes (n, told) left);
      }
      by false is stays = record {
        durable = d;
        kept_is = stays.kept_is;
        holds = whole (AckNext t m member a inc refusal) (AckEnds m) Heard (kept d h) (kept d k) (Followed comes) (n, told)
            (reached_silent (AckNext t m member a inc refusal) Heard (kept d h) Heard (kept d k) (Followed comes)
            (subst (λ f. Reached (AckNext t m member a inc refusal) Heard (kept d h) Heard (record { durable = d; free = f })) (sym stays.free) (reached-here (AckNext t m member a inc refusal) Heard (kept d h)))
            (Counts (kept d k) (sym is)))
            (IsFollowed (kept d k) comes (n, told) left);
      }

  -- or that was cut
  pub ack-cut : (b : Bool) (finds : Durable → Type 0) (e : Stopped) → b ≡ is_refusing member a inc refusal (leader_at t m d) → MadeIf b (Settles a Abort) d h new k finds (Err e)
      → CutShort (AckNext t m member a inc refusal) Heard (kept d h) (left_by k finds)
  ack-cut true finds e is cut = cut_in_change (AckNext t m member a inc refusal) Heard (kept d h) Heard (kept d h) (Settles a Abort) (Followed comes) (left_by k finds) (reached-here (AckNext t m member a inc refusal) Heard (kept d h)) (Aborts (kept d h) (sym is)) cut
  ack-cut false finds e is none = absurd none

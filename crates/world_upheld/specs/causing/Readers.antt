-- Reads at snapshots that wait meet what they wait for, where epochs of snapshots count as those of the attempts that read there.
use Rattle.std.specs.Prelude.{ℕ, ◌≡◌, ◌++◌, Bool, true, false, List, [], slice_get, Some, refl}
use Rattle.std.proofs.Common.{inl, inr, sym, ◌∙◌, ap, subst}
use Rattle.std.proofs.Math.ListN.{set}
use Rattle.base_types.specs.declared.id.AttemptId.{AttemptId}
use Rattle.base_types.specs.declared.epoch.Epoch.{Epoch}
use Rattle.base_types.specs.declared.outcome.FloorWhy.{FloorWhy}
use Rattle.base_messages.specs.declared.actor.ActorId.{ActorId}
use Rattle.base_messages.specs.declared.message.Message.{Message, more_of-Message}
use Rattle.base_messages.specs.declared.message.Message.TheVariants as message
use Rattle.model_laws.specs.Members.{Has, has-from_filter}
use Rattle.daos_model.specs.Opening.{Opening}
use Rattle.dtx_base.specs.declared.member.Parked.{Parked}
use Rattle.dtx_base.specs.Joining as joining
use Rattle.dtx_base.specs.Joining.{MemberOf, is_not_waiting, unresolved}
use Rattle.world_legal.specs.world_commit.attempts.Counting.{has-taken}
use Rattle.world_legal.specs.world_commit.attempts.History.{History}
use Rattle.world_base.specs.declared.did.Did.{Did}
use Rattle.world_base.specs.declared.target.TargetMemory.{TargetMemory}
use Rattle.world_base.specs.declared.target.TargetPlan.{TargetPlan}
use Rattle.world_base.specs.declared.target.Life.TheVariants.{Down}
use Rattle.world_base.specs.declared.target.TargetState.{TargetState}
use Rattle.world_base.specs.declared.world.World.{World}
use Rattle.world_base.specs.Changes.{Kept}
use Rattle.world_base.specs.Commits as commit
use Rattle.world_base.specs.Events as events
use Rattle.world_base.specs.Events.{ByClient, ByTarget, Rules, TargetHears, ToClient, ToTarget, kept, target_after, target_plan, rightly}
use Rattle.world_base.specs.Further.{CommitDown, HearsFurther, IsSpent, IsUnknown, reset_by}
use Rattle.world_base.specs.MemoryLaws.{ack-leaves, commit-leaves, idle-leaves, mark-leaves, marked-leaves, prepare-leaves, query-leaves}
use Rattle.world_base.specs.RightTurns.{HearsRightly}
use Rattle.world_base.specs.Roles.{member_at}
use Rattle.world_base.specs.StepLaws.{by-hearing, by-next}
use Rattle.world_base.specs.Statuses.{ask_left, reset_left, status_left}
use Rattle.world_base.specs.Stops.{Draws, Fails, Further, GivenUp, Happening, HearsMore, IsCut, Opens, Plainly, WorldEvent, opened_at, stopped_at}
use Rattle.world_base.specs.TargetTurns.{commit_request, fetch_request, prepare_request}
use Rattle.world_legal.specs.world_causes.causes.Causes.{Dated, MeetsOther, Stored}
use Rattle.world_legal.specs.world_causes.causes.Growth.{meets-more}
use Rattle.world_legal.specs.world_causes.causes.Heard.{IsKnownAt, meet-at}
use Rattle.world_legal.specs.world_causes.causes.Shown.{Causes}
use Rattle.world_upheld.specs.causing.DatedTurns.{looks-so}
use Rattle.world_upheld.specs.causing.DatedVerdicts.{AsksFor, ReadsMeet, own-waits, verdict-reads_meet}
use Rattle.world_upheld.specs.causing.Dates.{newly_dated, with_dates}
use Rattle.world_upheld.specs.causing.Happening.{frees_none, IsHeardSo, IsOther, IsOtherwiseKnown, IsRead, IsVerdict}
use Rattle.world_upheld.specs.causing.SnapshotReads.{SnapshotReadLeaves, snapshot-reads_show}
use Rattle.world_upheld.specs.causing.Events.{of-making}
use Rattle.world_letters.specs.epochs.Epochs.{reads_snapshot}
use Rattle.world_legal.specs.world_commit.fates.Facts.{Attempts}
use Rattle.world_legal.specs.world_commit.fates.Rightly.{letters-tell}
use Rattle.world_owners.specs.world_making.making.Turns.{hearings-leave}
use Rattle.world_legal.specs.world_contents.reads.EventLaws.{at-or-there}
use Rattle.world_legal.specs.world_commit.statuses.Heard.{is_of_attempts}

-- at each target
abbrev pub AllReadsMeet : Rules → Dated → World → Type 0
AllReadsMeet r dated w = (t : ℕ) (s : TargetState) → slice_get w.targets t ≡ Some s → ReadsMeet r dated s.memory.member.parked

-- each event keeps it, where what is heard is known
abbrev pub AllEventsKeepReaders : Type 0
AllEventsKeepReaders =
    (r : Rules) (o : Opening) (h : History) (stored : Stored) (dated : Dated) (w v : World) → Attempts r h w → (e : WorldEvent r w v) → IsOtherwiseKnown r o stored dated e.happens → Causes r o stored (with_dates dated w) → AllReadsMeet r dated w
    → AllReadsMeet r (dated ++ newly_dated r e.happens) v

-- ---- turns that make no read at a snapshot wait

abbrev waits_less : List Parked → List Parked → Type 0
waits_less before after = (p : Parked) → Has p after → reads_snapshot p.ask ≡ true → Has p before

as-before : (before after : List Parked) → after ≡ before → waits_less before after
as-before before after same p i at = subst (Has p) same i

hears-waits : (t : TargetPlan) (opening : Epoch × FloorWhy) (m : TargetMemory) (reading : ℕ) (from : ActorId) (q : Message) (old new : Kept) (left : TargetMemory × Did) → frees_none q ≡ true → HearsRightly t opening m reading from q old new left
    → waits_less m.member.parked left.0.member.parked
hears-waits t opening m reading from (message.Fetch x op group ep first tracker y false) old new left none h = own-waits t m reading (fetch_request x op group ep first tracker y false) from h.last new left refl h.ends
hears-waits t opening m reading from (message.Fetch x op group ep first tracker y true) old new left none h = let no : ⊥ = cc in absurd no
hears-waits t opening m reading from (message.Commit x ep first tracker ws) old new left none h = as-before _ _ (ap (λ z. z.parked) (commit-leaves t opening m reading (commit_request x ep first tracker ws) from h.last new left h.ends).member)
hears-waits t opening m reading from (message.Prepare e first ws inc) old new left none h = as-before _ _ (ap (λ z. z.member.parked) (prepare-leaves t opening m (prepare_request e first ws inc) h.last new left h.ends))
hears-waits t opening m reading from (message.Ack x inc refusal) old new left none h = as-before _ _ (ap (λ z. z.parked) (ack-leaves m h.last new left h.ends).member)
hears-waits t opening m reading from (message.Mark inc marks) old new left none h = as-before _ _ (ap (λ z. z.member.parked) (mark-leaves m from inc marks h.last new left h.ends))
hears-waits t opening m reading from (message.Marked inc ids) old new left none h = as-before _ _ (ap (λ z. z.parked) (marked-leaves t m from.number inc ids h.last new left h.ends).rest.member)
hears-waits t opening m reading from (message.Query x ask) old new left none h = as-before _ _ (ap (λ z. z.member.parked) (query-leaves t m from x ask h.last new left h.ends))
hears-waits t opening m reading from (message.Verdict x ask inc v) old new left none h = let no : ⊥ = cc in absurd no
hears-waits t opening m reading from q old new left none h = absurd h

down-waits : (t : TargetPlan) (m : TargetMemory) (reading : ℕ) (x : AttemptId) (q : _) (from : ActorId) (s : commit.CommitStage) (k : Kept) (left : TargetMemory × Did) → CommitDown t m reading q from s k left → left.0.member.parked ≡ m.member.parked
down-waits t m reading x q from s k left (IsSpent j e down z none gone says) = ap (λ y. y.0.member.parked) says
down-waits t m reading x q from s k left (IsUnknown j e down z gone says) = ap (λ y. y.0.member.parked) says

query-waits : (down : Bool) (q : Message) (s : MemberOf) (p : Parked) → Has p (joining.reset_heard down q s).member.memory.parked → Has p s.memory.parked
unfolding unresolved
query-waits down (message.Query a (Some x)) s p i = (has-from_filter (is_not_waiting a x) s.memory.parked p i).0
query-waits down q s p i = i

further-waits : (number : ℕ) (t : TargetPlan) (opening : Epoch × FloorWhy) (m : TargetMemory) (reading : ℕ) (from : ActorId) (q : Message) (old new : Kept) (left : TargetMemory × Did) → HearsFurther number t opening m reading from q old new left
    → (is_of_attempts q ≡ false → left.0.member ≡ m.member) → waits_less m.member.parked left.0.member.parked
further-waits number t opening m reading from q old new left h other = by (is_of_attempts q) refl
  where
    reset-waits : (by : ℕ) (down : Bool) (asked : Message) → left ≡ reset_left t m by down asked old → waits_less m.member.parked left.0.member.parked
    reset-waits by down asked is p i at = query-waits down asked (member_at t m) p (subst (λ z. Has p z.0.member.parked) is i)

    ours : (q : Message) → is_of_attempts q ≡ true → HearsFurther number t opening m reading from q old new left → waits_less m.member.parked left.0.member.parked
    ours (message.Commit x ep first tracker ws) is k = as-before _ _ (down-waits t m reading x (commit_request x ep first tracker ws) from k.last new left k.ends)
    ours (message.Ask x) is k = as-before _ _ (ap (λ z. z.0.member.parked) (looks-so (ask_left t m from x) old new left k).1)
    ours (message.Status x inc) is k = as-before _ _ (ap (λ z. z.0.member.parked) (looks-so (status_left m from x inc) old new left k).1)
    ours (message.StatusIs x inc how) is k = as-before _ _ (ap (λ z. z.parked) (ack-leaves m k.last new left k.ends).member)
    ours (message.Reset' by down place (more_of-Message (message.Freeze x c e) rest)) is k = let no : ⊥ = cc in absurd no
    ours (message.Reset' by down place (more_of-Message (message.Prune x c tracker e) rest)) is k = let no : ⊥ = cc in absurd no
    ours (message.Reset' by down place (more_of-Message q rest)) is k = reset-waits by down q (looks-so (reset_by t m by down q) old new left k).1
    ours (message.Snap x c name tracker) is k = let no : ⊥ = cc in absurd no
    ours (message.Freeze x c e) is k = let no : ⊥ = cc in absurd no
    ours (message.Held x refusal) is k = let no : ⊥ = cc in absurd no
    ours (message.Prune x c tracker e) is k = let no : ⊥ = cc in absurd no
    ours q is k = absurd k

    by : (b : Bool) → is_of_attempts q ≡ b → waits_less m.member.parked left.0.member.parked
    by true is = ours q is h
    by false is = as-before _ _ (ap (λ z. z.parked) (other is))

-- ---- events

module _ (r : Rules) (o : Opening) (h : History) (stored : Stored) (dated : Dated) (w v : World) (attempts : Attempts r h w) (C : Causes r o stored (with_dates dated w)) (k : AllReadsMeet r dated w) where
  -- one target changed
  one-meets : (added : Dated) (t : ℕ) (s z : TargetState) → slice_get w.targets t ≡ Some s → v.targets ≡ set w.targets t z → ReadsMeet r dated z.memory.member.parked → AllReadsMeet r (dated ++ added) v
  one-meets added t s z here targets meets u y at p x i reads asks =
      meets-more r dated added x p.on (elim (at-or-there w.targets t s z here u y (sym (ap (λ ts. slice_get ts u) targets) ∙ at)) [
        | inl same ↦ meets p x (subst (λ a. Has p a.memory.member.parked) same.1 i) reads asks
        | inr old ↦ k u y old.1 p x i reads asks
      ])

  -- as waited before
  less-meets : (t : ℕ) (s : TargetState) (after : List Parked) → slice_get w.targets t ≡ Some s → waits_less s.memory.member.parked after → ReadsMeet r dated after
  less-meets t s after here less p x i reads asks = k t s here p x (less p i reads) reads asks

  none-meet : (after : List Parked) → after ≡ [] → ReadsMeet r dated after
  none-meet after none p x i reads asks = absurd (subst (Has p) none i)

  same-meet : (added : Dated) → v.targets ≡ w.targets → AllReadsMeet r (dated ++ added) v
  same-meet added same t s here p x i reads asks = meets-more r dated added x p.on (k t s (ap (λ ts. slice_get ts t) (sym same) ∙ here) p x i reads asks)

  hears-meet : (g : TargetHears r w v) → IsKnownAt r o (with_dates dated w) g.t g.s → IsHeardSo r o stored dated w g.t g.s g.l → AllReadsMeet r (dated ++ events.listed g.did.issued) v
  hears-meet g at so = one-meets (events.listed g.did.issued) g.t g.s (target_after g.s g.new g.memory) g.here (ap (λ u. u.targets) g.after) (by so)
    where
      turn' : HearsRightly (target_plan r g.t) g.s.opening g.s.memory g.reading g.l.from g.l.message (kept g.s) g.new (g.memory, g.did)
      turn' = (rightly r w v g (letters-tell r h w attempts g.l g.t g.s (has-taken w.messages g.l g.rest g.takes) g.to_it g.here)).turn

      by : IsHeardSo r o stored dated w g.t g.s g.l → ReadsMeet r dated g.memory.member.parked
      by (IsRead q e is K) = λ p x i reads asks. elim (left.parked p i) [
        | inl old ↦ k g.t g.s g.here p x old reads asks
        | inr new ↦ subst (λ y. MeetsOther r dated y p.on) (subst (λ m. AsksFor m x) new.0 asks) new.1
      ]
        where
          left : SnapshotReadLeaves r o stored dated w.lines g.s.memory q e (kept g.s) g.new (g.memory, g.did)
          left = snapshot-reads_show r o stored dated w.lines (target_plan r g.t) g.s.opening g.s.memory g.reading q g.l.from e (kept g.s) g.new (g.memory, g.did) at.target at.opens K
              (subst (λ m. HearsRightly (target_plan r g.t) g.s.opening g.s.memory g.reading g.l.from m (kept g.s) g.new (g.memory, g.did)) is turn')
      by (IsVerdict a ask inc v' is right) = verdict-reads_meet r o stored dated w.lines (target_plan r g.t) g.s.opening g.s.memory g.reading a ask v' (kept g.s) at.target right (C.bounded.ticks g.t g.s g.here g.runs)
          (meet-at r o stored (with_dates dated w) g.t g.s C g.here) at.opens g.new (g.memory, g.did)
          (subst (λ m. HearsRightly (target_plan r g.t) g.s.opening g.s.memory g.reading g.l.from m (kept g.s) g.new (g.memory, g.did)) is turn')
      by (IsOther none other) = less-meets g.t g.s g.memory.member.parked g.here (hears-waits (target_plan r g.t) g.s.opening g.s.memory g.reading g.l.from g.l.message (kept g.s) g.new (g.memory, g.did) none turn')

  further-meet : (f : HearsMore r w v) → AllReadsMeet r (dated ++ events.listed f.hears.did.issued) v
  further-meet f = let g = f.hears in one-meets (events.listed g.did.issued) g.t g.s (target_after g.s g.new g.memory) g.here (ap (λ u. u.targets) g.after)
      (less-meets g.t g.s g.memory.member.parked g.here (further-waits f.number (target_plan r g.t) g.s.opening g.s.memory g.reading g.l.from g.l.message (kept g.s) g.new (g.memory, g.did) g.turn
      (λ other. (hearings-leave f.number (target_plan r g.t) g.s.opening g.s.memory g.reading g.l.from g.l.message (kept g.s) g.new (g.memory, g.did) g.turn (of-making g.l.message other)).ends.knows.member)))

  happening-meets : (e : Happening r w v) → IsOtherwiseKnown r o stored dated e → AllReadsMeet r (dated ++ newly_dated r e) v
  happening-meets (Plainly (ByClient g) up) so = same-meet [] (by-next r (λ u. u.targets ≡ w.targets) (λ u n c here p. p) (λ u n j c here p. p) w v refl g)
  happening-meets (Plainly (ToClient g) up) so = same-meet [] (by-hearing r (λ u. u.targets ≡ w.targets) (λ u n c here p. p) (λ u n c l rest here awake takes to p. p) w v refl g)
  happening-meets (Plainly (ToTarget g) up) so = hears-meet g so.0 so.1
  happening-meets (Plainly (ByTarget g) up) so = one-meets (events.listed g.did.issued) g.t g.s (target_after g.s g.new g.memory) g.here (ap (λ u. u.targets) g.after)
      (less-meets g.t g.s g.memory.member.parked g.here (as-before _ _ (idle-leaves g.settling (target_plan r g.t) g.s.memory g.turn.last g.new (g.memory, g.did) g.turn.ends).parked))
  happening-meets (Further g) so = further-meet g
  happening-meets (IsCut g) so = one-meets g.cut.issued g.t g.s (stopped_at g.s g.cut.left) g.here (ap (λ u. u.targets) g.after) (none-meet [] refl)
  happening-meets (Opens g) so = one-meets [] g.t g.s (opened_at r g.t g.number g.s g.free) g.here (ap (λ u. u.targets) g.after) (none-meet [] refl)
  happening-meets (Fails g) so = one-meets [] g.t g.s (record g.s { durable = g.k.durable; free = g.k.free }) g.here (ap (λ u. u.targets) g.after) (less-meets g.t g.s g.s.memory.member.parked g.here (as-before _ _ refl))
  happening-meets (GivenUp g) so = one-meets [] g.t g.s (record g.s { life = Down }) g.here (ap (λ u. u.targets) g.after) (less-meets g.t g.s g.s.memory.member.parked g.here (as-before _ _ refl))
  happening-meets (Draws g) so = same-meet [] (ap (λ u. u.targets) g.after)

pub events-keep_readers : AllEventsKeepReaders
events-keep_readers r o h stored dated w v attempts e so C k t s here =
    happening-meets r o h stored dated w e.u attempts C k e.happens so t s (sym (ap (λ z. slice_get z.targets t) e.after) ∙ here)

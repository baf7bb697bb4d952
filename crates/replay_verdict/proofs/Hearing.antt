-- A Verdict's turn as a whole.
use Rattle.std.proofs.Common.{ℕ, ◌≡◌, refl, sym, ◌∙◌, ap, subst, List, map, filter, Bool, true, false, Option, Some, None}
use Rattle.std.specs.List.{list_all}
use Rattle.std.proofs.lemmas.List.Folds.{list_all-map}
use Rattle.base_types.specs.declared.entry.Settle.{Settle}
use Rattle.base_types.specs.declared.entry.Settle.TheVariants.{Abort}
use Rattle.base_types.specs.declared.entry.Verdict.{Verdict}
use Rattle.base_types.specs.declared.entry.Verdict.TheVariants as judged
use Rattle.base_types.specs.declared.id.AttemptId.{AttemptId}
use Rattle.base_messages.specs.declared.actor.ActorId.{ActorId}
use Rattle.base_messages.specs.declared.message.Message.{Message}
use Rattle.base_messages.specs.declared.message.Message.TheVariants as message
use Rattle.daos_model.specs.declared.durable.Durable.{Durable}
use Rattle.daos_model.specs.Changes.{settled}
use Rattle.daos_model.specs.Durables.{is_version_in_form}
use Rattle.dtx_base.specs.declared.member.Freed.{Freed}
use Rattle.dtx_base.specs.declared.member.Parked.{Parked}
use Rattle.dtx_base.specs.Joining.{is_parked_on, parked_ask, unresolved, verdict_heard}
use Rattle.dtx_base.specs.Rows.{is_other_row, itself, without_row}
use Rattle.world_base.specs.declared.did.Did.{Did}
use Rattle.world_base.specs.declared.target.TargetMemory.{TargetMemory}
use Rattle.world_base.specs.declared.target.TargetPlan.{TargetPlan}
use Rattle.world_base.specs.declared.target.TargetState.{TargetState}
use Rattle.world_base.specs.Changes.{Change, Kept, Settles}
use Rattle.world_base.specs.Requests.{sends}
use Rattle.world_base.specs.Roles.{is_prepared, member_at, told_by}
use Rattle.world_base.specs.Turns.{Whole}
use Rattle.world_base.specs.Verdicts as verdict
use Rattle.world_base.specs.Verdicts.{VerdictEnds, VerdictNext, VerdictStage, freed_by, settles_by, settling_change, step_by, step_if}
use Rattle.replay_base.specs.declared.leases.Covered.{Covered}
use Rattle.replay_base.specs.declared.told.Left.{Left}
use Rattle.replay_base.specs.Heard.{CanRead, CanTryAgain, is_timed, is_timed_ask}
use Rattle.replay_base.specs.Leaving.{Comes, HearsAs, IsLeftIf}
use Rattle.replay_base.specs.Onward.{Iff, Onward, keeps}
use Rattle.replay_base.proofs.Chains.{OneStep, change_iff, comes_whole, silent_iff}
use Rattle.replay_base.proofs.Leaders.{all_fewer, led_aborted, led_committed, led_fewer}
use Rattle.replay_base.proofs.Starts.{iff_both}
use Rattle.replay_fetch.proofs.Meeting.{settled-in_form}
use Rattle.replay_verdict.specs.declared.again.Trial.{Trial}
use Rattle.replay_verdict.specs.Tried.{AllTried, heard_by, left_by, settled_by, settled_so}
use Rattle.replay_verdict.proofs.Trying.{ends_at, next_at, none_left}

-- ---- what is set free

all-timed : (p : Parked → Bool) (ps : List Parked) → list_all is_timed_ask ps ≡ true → list_all is_timed (map parked_ask (filter p ps)) ≡ true
all-timed p ps h = list_all-map is_timed parked_ask (filter p ps) ∙ all_fewer is_timed_ask p ps h

pub freed-timed : (t : TargetPlan) (a : AttemptId) (ask : Option AttemptId) (v : Verdict) (m : TargetMemory) → list_all is_timed_ask m.member.parked ≡ true → list_all is_timed (heard_by t a ask v m).1.again ≡ true
unfolding unresolved
freed-timed t a ask judged.Committed m h = all-timed (is_parked_on a) m.member.parked h
freed-timed t a ask judged.Aborted m h = all-timed (is_parked_on a) m.member.parked h
freed-timed t a None judged.Undecided m h = refl
freed-timed t a (Some x) judged.Undecided m h = refl

-- ---- what can be read

aborted-in_form : (a : AttemptId) (d : Durable) → list_all is_version_in_form d.versions ≡ true → list_all is_version_in_form (settled a Abort d).versions ≡ true
unfolding settled
aborted-in_form a d h = all_fewer is_version_in_form _ d.versions h

settled-read : (t : TargetPlan) (decided : List AttemptId) (a : AttemptId) (v : Verdict) (d : Durable) (b : Bool) → CanRead t d decided → CanRead t (settled_so a (step_if b (step_by v)) d).durable decided
settled-read t decided a v d false h = h
settled-read t decided a judged.Committed d true h = record { versions = settled-in_form a d h.versions; led = led_committed t decided a d h.led }
settled-read t decided a judged.Aborted d true h = record { versions = aborted-in_form a d h.versions; led = led_aborted t decided a d h.led }
settled-read t decided a judged.Undecided d true h = h

begins-read : (t : TargetPlan) (a : AttemptId) (ask : Option AttemptId) (v : Verdict) (m : TargetMemory) (d : Durable) → CanRead t d m.leader.decided → CanRead t (settled_by v a d).durable (heard_by t a ask v m).0.leader.decided
begins-read t a ask v m d h = settled-read t m.leader.decided a v d (is_prepared a d) h

-- ---- what is told

-- where an attempt is forgotten, what can be read still can be
forgot-read : (t : TargetPlan) (a : AttemptId) (decided : List AttemptId) (d : Durable) → CanRead t d decided → CanRead t d (without_row itself a decided)
forgot-read t a decided d h = record { versions = h.versions; led = led_fewer t decided d (is_other_row itself a) h.led }

told-read : (t : TargetPlan) (a : AttemptId) (v : Verdict) (m : TargetMemory) (d : Durable) → CanRead t d m.leader.decided → CanRead t d (told_by v a m).leader.decided
told-read t a judged.Committed m d h = forgot-read t a m.leader.decided d h
told-read t a judged.Aborted m d h = forgot-read t a m.leader.decided d h
told-read t a judged.Undecided m d h = h

-- what waits stays
told-joins : (a : AttemptId) (v : Verdict) (m : TargetMemory) → (told_by v a m).member ≡ m.member
told-joins a judged.Committed m = refl
told-joins a judged.Aborted m = refl
told-joins a judged.Undecided m = refl

-- ---- the first step

module _ (t : TargetPlan) (m : TargetMemory) (reading : ℕ) (a : AttemptId) (ask : Option AttemptId) (v : Verdict) where
  abbrev Next : VerdictStage → Kept → Option Change → VerdictStage → Type 0
  Next = VerdictNext is_prepared t m reading a ask v

  abbrev freed : VerdictStage
  freed = freed_by (verdict_heard a ask v (member_at t m)) m

  settles_first : (d : Durable) → OneStep Next VerdictEnds verdict.Heard d (settling_change a (settles_by is_prepared v a d)) freed
  settles_first d = record {
    there = λ free. verdict.SettlesBy (keeps d free) (settling_change a (settles_by is_prepared v a d)) refl;
    alone = λ free p u next. next_at t m reading a ask v verdict.Heard (keeps d free) p u next;
    goes = λ free r ends. ends_at t m reading a ask v verdict.Heard (keeps d free) r ends;
  }

  settles_iff : (d : Durable) (o : Option Settle) → settles_by is_prepared v a d ≡ o → (free : ℕ) (new : Kept) (left : TargetMemory × Did)
      → Iff (Onward Next VerdictEnds verdict.Heard d false free new left) (Onward Next VerdictEnds freed (settled_so a o d).durable (settled_so a o d).changed free new left)
  settles_iff d None is free new left = silent_iff Next VerdictEnds verdict.Heard freed d (subst (λ x. OneStep Next VerdictEnds verdict.Heard d (settling_change a x) freed) is (settles_first d)) false free new left
  settles_iff d (Some step) is free new left =
      change_iff Next VerdictEnds verdict.Heard freed d (Settles a step) refl (subst (λ x. OneStep Next VerdictEnds verdict.Heard d (settling_change a x) freed) is (settles_first d)) false free new left

  -- the Fetches that are tried, and the end
  tried_to : (asks : List Message) (x : Trial) (o : Option Trial) → AllTried t asks x o → (free : ℕ) (new : Kept) (left : TargetMemory × Did)
      → Iff (Onward Next VerdictEnds (verdict.Freed asks x.work.memory x.posts) x.work.durable x.work.changed free new left) (IsLeftIf (left_by o) free new left)
  tried_to asks x None all free new left = all.on m reading a ask v free new left
  tried_to asks x (Some z) all free new left =
      iff_both (all.on m reading a ask v free new left)
      (none_left t m reading a ask v z.work.memory z.posts z.work.durable z.work.changed (record { durable = z.work.durable; changed = z.work.changed; memory = z.work.memory; did = sends z.posts None }) refl refl refl free new left)

  verdict_comes : (d : Durable) (x : Trial) (asks : List Message) (o : Option Trial) → x.work.durable ≡ (settled_by v a d).durable → x.work.changed ≡ (settled_by v a d).changed → x.work.memory ≡ (heard_by t a ask v m).0 → x.posts ≡ (heard_by t a ask v m).1.posts
      → asks ≡ (heard_by t a ask v m).1.again → AllTried t asks x o → Comes Next VerdictEnds verdict.Heard d false (left_by o)
  verdict_comes d x asks o durable changed memory posts again all free new left =
      iff_both (settles_iff d (settles_by is_prepared v a d) refl free new left)
      (subst (λ z. Iff (Onward Next VerdictEnds freed z (settled_by v a d).changed free new left) (IsLeftIf (left_by o) free new left)) durable
      (subst (λ z. Iff (Onward Next VerdictEnds freed x.work.durable z free new left) (IsLeftIf (left_by o) free new left)) changed
      (subst (λ z. Iff (Onward Next VerdictEnds (verdict.Freed (heard_by t a ask v m).1.again z (heard_by t a ask v m).1.posts) x.work.durable x.work.changed free new left) (IsLeftIf (left_by o) free new left)) memory
      (subst (λ z. Iff (Onward Next VerdictEnds (verdict.Freed (heard_by t a ask v m).1.again x.work.memory z) x.work.durable x.work.changed free new left) (IsLeftIf (left_by o) free new left)) posts
      (subst (λ z. Iff (Onward Next VerdictEnds (verdict.Freed z x.work.memory x.posts) x.work.durable x.work.changed free new left) (IsLeftIf (left_by o) free new left)) again (tried_to asks x o all free new left))))))

-- ---- as the code says it

-- what is known once it was told, and then heard
heard_of : (t : TargetPlan) (a : AttemptId) (ask : Option AttemptId) (v : Verdict) (m m0 m1 : TargetMemory) (r : TargetMemory × Freed) → m0 ≡ m → m1 ≡ told_by v a m0 → r ≡ heard_by t a ask v m1 → r ≡ heard_by t a ask v (told_by v a m)
heard_of t a ask v m m0 m1 r at tells heard = heard ∙ ap (heard_by t a ask v) (tells ∙ ap (told_by v a) at)

pub verdict_found : (t : TargetPlan) (from : ActorId) (a : AttemptId) (ask : Option AttemptId) (inc : ℕ) (v : Verdict) (s : TargetState) (m0 m1 : TargetMemory) (r : TargetMemory × Freed) (d0 : Durable) (c : Covered) (x : Trial) (asks : List Message) (o : Option Trial)
    (l : Option Left) → m0 ≡ s.memory → m1 ≡ told_by v a m0 → r ≡ heard_by t a ask v m1 → d0 ≡ s.durable → c ≡ settled_by v a d0 → x.work.durable ≡ c.durable → x.work.changed ≡ c.changed → x.work.memory ≡ r.0 → x.posts ≡ r.1.posts → asks ≡ r.1.again → AllTried t asks x o → l ≡ left_by o
    → HearsAs t from (message.Verdict a ask inc v) s l
verdict_found t from a ask inc v s m0 m1 r d0 c x asks o l at tells heard kept settles durable changed memory posts again all is reading new left =
    let m : TargetMemory = told_by v a s.memory in
    subst (λ z. Iff (Whole (VerdictNext is_prepared t m reading a ask v) VerdictEnds verdict.Heard (keeps s.durable s.free) new left) (IsLeftIf z s.free new left)) (sym is)
    (comes_whole (VerdictNext is_prepared t m reading a ask v) VerdictEnds verdict.Heard s.durable (left_by o) s.free new left
    (verdict_comes t m reading a ask v s.durable x asks o (durable ∙ ap (λ z. z.durable) covers) (changed ∙ ap (λ z. z.changed) covers) (memory ∙ ap (λ z. z.0) knows) (posts ∙ ap (λ z. z.1.posts) knows) (again ∙ ap (λ z. z.1.again) knows) all))
  where
    covers : c ≡ settled_by v a s.durable
    covers = settles ∙ ap (settled_by v a) kept

    knows : r ≡ heard_by t a ask v (told_by v a s.memory)
    knows = heard_of t a ask v s.memory m0 m1 r at tells heard

pub heard_timed : (t : TargetPlan) (a : AttemptId) (ask : Option AttemptId) (v : Verdict) (s : TargetState) (m0 m1 : TargetMemory) (r : TargetMemory × Freed) (asks : List Message) → CanTryAgain t s.durable s.memory → m0 ≡ s.memory → m1 ≡ told_by v a m0 → r ≡ heard_by t a ask v m1
    → asks ≡ r.1.again → list_all is_timed asks ≡ true
heard_timed t a ask v s m0 m1 r asks can at tells heard again =
    ap (list_all is_timed) (again ∙ ap (λ z. z.1.again) (heard_of t a ask v s.memory m0 m1 r at tells heard))
    ∙ freed-timed t a ask v (told_by v a s.memory) (ap (λ z. list_all is_timed_ask z.parked) (told-joins a v s.memory) ∙ can.timed)

pub heard_read : (t : TargetPlan) (a : AttemptId) (ask : Option AttemptId) (v : Verdict) (s : TargetState) (m0 m1 : TargetMemory) (r : TargetMemory × Freed) (d0 : Durable) (c : Covered) → CanTryAgain t s.durable s.memory → m0 ≡ s.memory → m1 ≡ told_by v a m0 → r ≡ heard_by t a ask v m1
    → d0 ≡ s.durable → c ≡ settled_by v a d0 → CanRead t c.durable r.0.leader.decided
heard_read t a ask v s m0 m1 r d0 c can at tells heard kept settles =
    subst (λ z. CanRead t z.durable r.0.leader.decided) (sym (settles ∙ ap (settled_by v a) kept))
    (subst (λ z. CanRead t (settled_by v a s.durable).durable z.0.leader.decided) (sym (heard_of t a ask v s.memory m0 m1 r at tells heard))
    (begins-read t a ask v (told_by v a s.memory) s.durable (told-read t a v s.memory s.durable can.read)))

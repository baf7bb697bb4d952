-- What every change leaves of what a target keeps, every event of a run leaves.
use Rattle.std.specs.Prelude.{ℕ, ◌≡◌, ◌⊎◌, Bool, List, slice_get, Option, Some, None}
use Rattle.std.proofs.Common.{sym, ◌∙◌, ap, subst, inl, inr}
use Rattle.std.proofs.Math.ListN.{set}
use Rattle.std.proofs.lemmas.Bool.{cases_eq}
use Rattle.base_types.specs.declared.epoch.Epoch.{Epoch}
use Rattle.base_types.specs.declared.id.AttemptId.{AttemptId}
use Rattle.base_types.specs.declared.outcome.FloorWhy.{FloorWhy}
use Rattle.base_types.specs.declared.report.Line.{Line}
use Rattle.base_messages.specs.declared.actor.ActorId.{ActorId}
use Rattle.base_messages.specs.declared.message.Message.{Message, more_of-Message}
use Rattle.base_messages.specs.declared.message.Message.TheVariants as message
use Rattle.daos_model.specs.Changes.{reopened}
use Rattle.daos_model.specs.declared.durable.Durable.{Durable}
use Rattle.world_base.specs.declared.did.Did.{Did}
use Rattle.world_base.specs.declared.request.CommitRequest.{CommitRequest}
use Rattle.world_base.specs.declared.target.TargetMemory.{TargetMemory}
use Rattle.world_base.specs.declared.target.TargetPlan.{TargetPlan}
use Rattle.world_base.specs.declared.target.TargetState.{TargetState}
use Rattle.world_base.specs.declared.world.World.{World}
use Rattle.world_base.specs.Changes.{After, Before, Change, Cut, InPart, IsPartly, Kept, Steps, made}
use Rattle.world_base.specs.CutTurns.{CommitIsCut, CutHere, CutTurn, Cutting, HearingIsCut, InChange, InQuestion, NoneIsDown, OneIsDown}
use Rattle.world_base.specs.Events.{ByClient, ByTarget, Event, Rules, ToClient, ToTarget, kept, target_plan}
use Rattle.world_base.specs.Further.{HearsFurther}
use Rattle.world_base.specs.PathLaws.{path-keeps}
use Rattle.world_base.specs.Roles.{is_prepared}
use Rattle.world_base.specs.StepLaws.{set-here, set-there}
use Rattle.world_base.specs.Stops.{AtWork, CutOf, Draws, Fails, Further, GivenUp, Happening, Hearing, IdleWork, IsCut, Opens, Plainly, WorldEvent}
use Rattle.world_base.specs.TargetTurns.{Hears}
use Rattle.world_base.specs.Turns.{Path, Whole}

-- a target stands among others still, and keeps what is left so of what it kept
pub record IsThereStill (R : Durable → Durable → Type 0) (ts : List TargetState) (t : ℕ) (d : Durable) : Type 0 where
  pub z : TargetState
  pub here : slice_get ts t ≡ Some z
  pub left : R d z.durable

module _ (R : Durable → Durable → Type 0) (same : (d : Durable) → R d d) (after : (d e f : Durable) → R d e → R e f → R d f) (changed : (c : Change) (d : Durable) → R d (made c d))
    (partly : (c : Change) (d x : Durable) → IsPartly c d x → R d x) (opened : (d : Durable) → R d (reopened d)) where
  alike : (d e : Durable) → e ≡ d → R d e
  alike d e is = subst (R d) (sym is) (same d)

  -- ---- turns

  step-left : (o : Option Change) (k l : Kept) → Steps o k l → R k.durable l.durable
  step-left None k l is = alike k.durable l.durable (ap (λ x. x.durable) is)
  step-left (Some c) k l st = subst (R k.durable) (sym st.0) (changed c k.durable)

  cut-left : (c : Change) (d x : Durable) → Cut c d x → R d x
  cut-left c d x (Before is) = alike d x is
  cut-left c d x (After is) = subst (R d) (sym is) (changed c d)
  cut-left c d x (InPart p) = partly c d x p

  path-left : {S : Type 0} (Next : S → Kept → Option Change → S → Type 0) (start : S) (old : Kept) (did : List Change) (last : S) (mid : Kept) → Path Next start old did last mid
      → R old.durable mid.durable
  path-left Next start old did last mid path =
      path-keeps Next (λ s k. R old.durable k.durable) (λ s k o u l next steps so_far. after old.durable k.durable l.durable so_far (step-left o k l steps)) start old did last mid path (same old.durable)

  whole-left : {S Q : Type 0} (Next : S → Kept → Option Change → S → Type 0) (Ends : S → Kept → Q → Type 0) (start : S) (old new : Kept) (result : Q)
      → Whole Next Ends start old new result → R old.durable new.durable
  whole-left Next Ends start old new result w = path-left Next start old w.reached.did w.last new w.reached.path

  turn-left : {S : Type 0} (Next : S → Kept → Option Change → S → Type 0) (issues : S → List (AttemptId × Epoch)) (t : ℕ) (start : S) (old : Kept) (cut : Cutting)
      → CutTurn Next issues t start old cut → R old.durable cut.left.durable
  turn-left Next issues t start old cut g = after old.durable g.mid.durable cut.left.durable (path-left Next start old g.did g.last g.mid g.path) (here g.lines g.here)
    where
      here : (lines : List Line) → CutHere Next t g.last g.mid cut.left lines → R g.mid.durable cut.left.durable
      here lines (InChange c next is left free) = cut-left c g.mid.durable cut.left.durable left
      here lines (InQuestion is free) = alike g.mid.durable cut.left.durable is

  -- ---- what is heard

  hears-left : (p : TargetPlan) (opening : Epoch × FloorWhy) (m : TargetMemory) (reading : ℕ) (from : ActorId) (q : Message) (old new : Kept) (left : TargetMemory × Did)
      → Hears p opening m reading from q old new left → R old.durable new.durable
  hears-left p opening m reading from (message.Fetch x op group ep first tracker r snapshot) old new left h = whole-left _ _ _ old new left h
  hears-left p opening m reading from (message.Commit x ep first tracker ws) old new left h = whole-left _ _ _ old new left h
  hears-left p opening m reading from (message.Prepare e first ws inc) old new left h = whole-left _ _ _ old new left h
  hears-left p opening m reading from (message.Ack x inc refusal) old new left h = whole-left _ _ _ old new left h
  hears-left p opening m reading from (message.Mark inc marks) old new left h = whole-left _ _ _ old new left h
  hears-left p opening m reading from (message.Marked inc ids) old new left h = whole-left _ _ _ old new left h
  hears-left p opening m reading from (message.Query x ask) old new left h = whole-left _ _ _ old new left h
  hears-left p opening m reading from (message.Verdict x ask inc v) old new left h = whole-left _ _ _ old new left h
  hears-left p opening m reading from q old new left h = absurd h

  further-left : (number : ℕ) (p : TargetPlan) (opening : Epoch × FloorWhy) (m : TargetMemory) (reading : ℕ) (from : ActorId) (q : Message) (old new : Kept) (left : TargetMemory × Did)
      → HearsFurther number p opening m reading from q old new left → R old.durable new.durable
  further-left number p opening m reading from (message.Commit x ep first tracker ws) old new left h = whole-left _ _ _ old new left h
  further-left number p opening m reading from (message.Ask x) old new left h = whole-left _ _ _ old new left h
  further-left number p opening m reading from (message.Status x inc) old new left h = whole-left _ _ _ old new left h
  further-left number p opening m reading from (message.StatusIs x inc how) old new left h = whole-left _ _ _ old new left h
  further-left number p opening m reading from (message.Snap x c called tracker) old new left h = whole-left _ _ _ old new left h
  further-left number p opening m reading from (message.Freeze x c s) old new left h = whole-left _ _ _ old new left h
  further-left number p opening m reading from (message.Held x refusal) old new left h = whole-left _ _ _ old new left h
  further-left number p opening m reading from (message.Prune x c (Some tracker) None) old new left h = whole-left _ _ _ old new left h
  further-left number p opening m reading from (message.Prune x c None (Some g)) old new left h = whole-left _ _ _ old new left h
  further-left number p opening m reading from (message.Reset' by down place (more_of-Message asked rest)) old new left h = whole-left _ _ _ old new left h
  further-left number p opening m reading from q old new left h = absurd h

  commit-left : (p : TargetPlan) (opening : Epoch × FloorWhy) (m : TargetMemory) (reading : ℕ) (q : CommitRequest) (old : Kept) (cut : Cutting)
      → CommitIsCut p opening m reading q old cut → R old.durable cut.left.durable
  commit-left p opening m reading q old cut (NoneIsDown none g) = turn-left _ _ _ _ old cut g
  commit-left p opening m reading q old cut (OneIsDown e down is g) = turn-left _ _ _ _ old cut g

  hearing-left : (is_due : AttemptId → Durable → Bool) (number : ℕ) (p : TargetPlan) (opening : Epoch × FloorWhy) (m : TargetMemory) (reading : ℕ) (from : ActorId) (q : Message) (old : Kept) (cut : Cutting)
      → HearingIsCut is_due number p opening m reading from q old cut → R old.durable cut.left.durable
  hearing-left is_due number p opening m reading from (message.Fetch x op group ep first tracker r snapshot) old cut g = turn-left _ _ _ _ old cut g
  hearing-left is_due number p opening m reading from (message.Commit x ep first tracker ws) old cut g = commit-left p opening m reading _ old cut g
  hearing-left is_due number p opening m reading from (message.Prepare e first ws inc) old cut g = turn-left _ _ _ _ old cut g
  hearing-left is_due number p opening m reading from (message.Ack x inc refusal) old cut g = turn-left _ _ _ _ old cut g
  hearing-left is_due number p opening m reading from (message.StatusIs x inc how) old cut g = turn-left _ _ _ _ old cut g
  hearing-left is_due number p opening m reading from (message.Mark inc marks) old cut g = turn-left _ _ _ _ old cut g
  hearing-left is_due number p opening m reading from (message.Marked inc ids) old cut g = turn-left _ _ _ _ old cut g
  hearing-left is_due number p opening m reading from (message.Verdict x ask inc v) old cut g = turn-left _ _ _ _ old cut g
  hearing-left is_due number p opening m reading from (message.Snap x c name tracker) old cut g = turn-left _ _ _ _ old cut g
  hearing-left is_due number p opening m reading from (message.Freeze x c s) old cut g = turn-left _ _ _ _ old cut g
  hearing-left is_due number p opening m reading from (message.Held x refusal) old cut g = turn-left _ _ _ _ old cut g
  hearing-left is_due number p opening m reading from (message.Prune x c (Some tracker) None) old cut g = turn-left _ _ _ _ old cut g
  hearing-left is_due number p opening m reading from (message.Prune x c None (Some e)) old cut g = turn-left _ _ _ _ old cut g
  hearing-left is_due number p opening m reading from (message.Query x ask) old cut g = turn-left _ _ _ _ old cut g
  hearing-left is_due number p opening m reading from (message.Ask x) old cut g = turn-left _ _ _ _ old cut g
  hearing-left is_due number p opening m reading from (message.Status x inc) old cut g = turn-left _ _ _ _ old cut g
  hearing-left is_due number p opening m reading from (message.Reset' by down place asked) old cut g = turn-left _ _ _ _ old cut g
  hearing-left is_due number p opening m reading from q old cut g = absurd g

  work-left : (p : TargetPlan) (s : TargetState) (a : AtWork) (cut : Cutting) → CutOf p s a cut → R s.durable cut.left.durable
  work-left p s (Hearing l reading number) cut g = hearing-left is_prepared number p s.opening s.memory reading l.from l.message (kept s) cut g
  work-left p s IdleWork cut g = turn-left _ _ _ _ (kept s) cut g

  -- ---- events

  -- all targets stand where they stood
  stays : (ts us : List TargetState) → us ≡ ts → (t : ℕ) (s : TargetState) → slice_get ts t ≡ Some s → IsThereStill R us t s.durable
  stays ts us is t s here = record { z = s; here = ap (λ xs. slice_get xs t) is ∙ here; left = same s.durable }

  -- one was set
  one-set : (ts us : List TargetState) (u : ℕ) (old new : TargetState) → us ≡ set ts u new → slice_get ts u ≡ Some old → R old.durable new.durable → (t : ℕ) (s : TargetState)
      → slice_get ts t ≡ Some s → IsThereStill R us t s.durable
  one-set ts us u old new is at left t s here = by (cases_eq t u)
    where
      by : (t ≡ u) ⊎ ((t ≡ u) → ⊥) → IsThereStill R us t s.durable
      by (inl own) =
          let found : Some s ≡ Some old = sym here ∙ ap (slice_get ts) own ∙ at in
          let it : s ≡ old = cc in
          record { z = new; here = ap (λ xs. slice_get xs t) is ∙ ap (slice_get (set ts u new)) own ∙ set-here ts u old new at; left = subst (λ x. R x.durable new.durable) (sym it) left }
      by (inr apart) = record { z = s; here = ap (λ xs. slice_get xs t) is ∙ set-there ts u t new apart ∙ here; left = same s.durable }

  plain-left : (r : Rules) (w v : World) → Event r w v → (t : ℕ) (s : TargetState) → slice_get w.targets t ≡ Some s → IsThereStill R v.targets t s.durable
  plain-left r w v (ByClient g) = stays w.targets v.targets (ap (λ x. x.targets) g.after)
  plain-left r w v (ToClient g) = stays w.targets v.targets (ap (λ x. x.targets) g.after)
  plain-left r w v (ToTarget g) =
      one-set w.targets v.targets g.t g.s _ (ap (λ x. x.targets) g.after) g.here (hears-left (target_plan r g.t) g.s.opening g.s.memory g.reading g.l.from g.l.message (kept g.s) g.new (g.memory, g.did) g.turn)
  plain-left r w v (ByTarget g) = one-set w.targets v.targets g.t g.s _ (ap (λ x. x.targets) g.after) g.here (whole-left _ _ _ (kept g.s) g.new (g.memory, g.did) g.turn)

  happening-left : (r : Rules) (w v : World) → Happening r w v → (t : ℕ) (s : TargetState) → slice_get w.targets t ≡ Some s → IsThereStill R v.targets t s.durable
  happening-left r w v (Plainly e up) = plain-left r w v e
  happening-left r w v (Further f) =
      one-set w.targets v.targets f.hears.t f.hears.s _ (ap (λ x. x.targets) f.hears.after) f.hears.here
      (further-left f.number (target_plan r f.hears.t) f.hears.s.opening f.hears.s.memory f.hears.reading f.hears.l.from f.hears.l.message (kept f.hears.s) f.hears.new (f.hears.memory, f.hears.did) f.hears.turn)
  happening-left r w v (IsCut g) = one-set w.targets v.targets g.t g.s _ (ap (λ x. x.targets) g.after) g.here (work-left (target_plan r g.t) g.s g.work g.cut g.turn)
  happening-left r w v (Opens g) = one-set w.targets v.targets g.t g.s _ (ap (λ x. x.targets) g.after) g.here (opened g.s.durable)
  happening-left r w v (Fails g) = one-set w.targets v.targets g.t g.s _ (ap (λ x. x.targets) g.after) g.here (found g.left)
    where
      found : (g.k.durable ≡ g.s.durable) ⊎ (g.k.durable ≡ reopened g.s.durable) → R g.s.durable g.k.durable
      found (inl is) = alike g.s.durable g.k.durable is
      found (inr is) = subst (R g.s.durable) (sym is) (opened g.s.durable)
  happening-left r w v (GivenUp g) = one-set w.targets v.targets g.t g.s _ (ap (λ x. x.targets) g.after) g.here (same g.s.durable)
  happening-left r w v (Draws g) = stays w.targets v.targets (ap (λ x. x.targets) g.after)

  pub event-left : (r : Rules) (w v : World) → WorldEvent r w v → (t : ℕ) (s : TargetState) → slice_get w.targets t ≡ Some s → IsThereStill R v.targets t s.durable
  event-left r w v e t s here = let k = happening-left r w e.u e.happens t s here in record { z = k.z; here = ap (λ x. slice_get x.targets t) e.after ∙ k.here; left = k.left }

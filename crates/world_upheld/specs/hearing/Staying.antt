-- What every change leaves where the lease covers it holds of what targets keep, whatever happens, and wherever a turn is cut.
use Rattle.std.specs.Prelude.{ℕ, ◌≡◌, ◌≤◌, ◌<◌, ◌/◌, Bool, true, false, List, slice_get, Option, Some, refl}
use Rattle.std.proofs.Common.{inl, inr, sym, ◌∙◌, ap, subst, arith}
use Rattle.std.proofs.Math.ListN.{set}
use Rattle.base_types.specs.declared.entry.Settle.TheVariants.{Commit}
use Rattle.base_types.specs.declared.epoch.Epoch.{Epoch}
use Rattle.base_types.specs.declared.id.AttemptId.{AttemptId}
use Rattle.base_types.specs.declared.id.ContId.{ContId}
use Rattle.base_types.specs.declared.report.Line.{Line}
use Rattle.base_types.specs.Epochs.{lease_for}
use Rattle.base_messages.specs.declared.actor.ActorId.{ActorId}
use Rattle.base_messages.specs.declared.message.Message.{Message}
use Rattle.base_messages.specs.declared.message.Message.TheVariants as message
use Rattle.daos_model.specs.declared.durable.Durable.{Durable}
use Rattle.world_base.specs.ChangeLaws.{lease-covers}
use Rattle.world_base.specs.Changes.{After, Before, Change, Creates, Cut, Extends, Freezes, InPart, IsPartly, Kept, Prunes, Settles, Steps, made}
use Rattle.world_base.specs.CutTurns.{CutHere, CutTurn, Cutting, InChange, InQuestion}
use Rattle.world_base.specs.declared.target.TargetMemory.{TargetMemory}
use Rattle.world_base.specs.declared.target.TargetPlan.{TargetPlan}
use Rattle.world_base.specs.declared.target.TargetState.{TargetState}
use Rattle.world_base.specs.declared.world.World.{World}
use Rattle.world_base.specs.Events.{Rules, kept, target_plan}
use Rattle.world_base.specs.PathLaws.{path-keeps}
use Rattle.world_base.specs.Roles.{is_prepared}
use Rattle.world_base.specs.Snapshots.{is_prune_due, prune_limit}
use Rattle.world_base.specs.Stops.{AtWork, CutOf, Draws, Fails, Further, GivenUp, Happening, Hearing, IdleWork, IsCut, Opens, Plainly, WorldEvent, swept}
use Rattle.world_owners.specs.world_making.making.Making.{CreatesIt, ExtendsLease, FreezesIt, IsCovered as IsCoveredNow, MakingNext, MakingStage, Passes, PrunesIt, SettlesFirst, making_begins, making_issues}
use Rattle.world_owners.specs.world_making.making.Turns.{cuts-leave as making-cuts-leave, hearings-leave}
use Rattle.world_legal.specs.world_contents.reads.EventLaws.{at-or-there}
use Rattle.world_legal.specs.world_standing.standing.Covering.{AreAll, StaysCovered, cuts-leave, events-keep}
use Rattle.world_legal.specs.world_commit.statuses.Heard.{is_of_attempts}
use Rattle.world_legal.specs.world_commit.stops.CutEvents.{is_without_snapshots}
use Rattle.world_owners.specs.world_making.making.Kinds.{of-making, cut-making}

-- ---- the statements

-- It holds as where nothing is frozen and pruned; of what is frozen at an epoch that the lease covers, and of what is created; and of what is
-- pruned up to where a container may be, by an epoch that the lease covers, as a whole or in part.
pub record StaysCoveredOn (P : Durable → Type 0) : Type 0 where
  pub plainly : StaysCovered P
  pub freezes : (c : ContId) (s : Epoch) (d : Durable) → s.0 / 256 ≤ d.lease → P d → P (made (Freezes c s) d)
  pub creates : (c : ContId) (s : Epoch) (d : Durable) → P d → P (made (Creates c s) d)
  pub prunes : (c : ContId) (g : Epoch) (n : ℕ) (d : Durable) → g.0 / 256 ≤ d.lease → is_prune_due c g d ≡ true → P d → P (made (Prunes c (prune_limit c g d) n) d)
  pub parts : (c : ContId) (g : Epoch) (n : ℕ) (d x : Durable) → g.0 / 256 ≤ d.lease → is_prune_due c g d ≡ true → IsPartly (Prunes c (prune_limit c g d) n) d x → P d → P x

-- then it holds of what a cut leaves, of any turn of a target
abbrev pub CutsLeaveWhatStays : Type 1
CutsLeaveWhatStays = (P : Durable → Type 0) → StaysCoveredOn P → (r : Rules) (t : ℕ) (s : TargetState) (work : AtWork) (cut : Cutting) → CutOf (target_plan r t) s work cut → P s.durable → P cut.left.durable

-- and each event keeps it of what all targets keep
abbrev pub EventsKeepWhatStays : Type 1
EventsKeepWhatStays = (P : Durable → Type 0) → StaysCoveredOn P → (r : Rules) (w v : World) → WorldEvent r w v → AreAll P w → AreAll P v

-- ---- turns

rises : (d : Durable) (n lease : ℕ) → d.lease < n → lease_for n ≡ Some lease → d.lease ≤ lease
rises d n lease low is = let up : n ≤ lease = (lease-covers n lease is).0 in omega (arith, low, up)

module _ (P : Durable → Type 0) (stays : StaysCoveredOn P) where
  module _ (number : ℕ) (p : TargetPlan) (m : TargetMemory) (reading : ℕ) (from : ActorId) (q : Message) where
    making-step : (s : MakingStage) (k : Kept) (o : Option Change) (u : MakingStage) (l : Kept) → MakingNext number p m reading from q s k o u → Steps o k l → P k.durable → P l.durable
    making-step s k o u l (Passes z j) same all = subst (λ x. P x.durable) (sym same) all
    making-step s k o u l (ExtendsLease z j a e lease asks is low found) steps all = subst P (sym steps.0) (stays.plainly.extends lease k.durable (rises k.durable (e.0 / 256) lease low found) all)
    making-step s k o u l (IsCoveredNow rest j a e asks at) same all = subst (λ x. P x.durable) (sym same) all
    making-step s k o u l (SettlesFirst b rest j a g asks at) steps all = subst P (sym steps.0) (stays.plainly.settles b Commit k.durable all)
    making-step s k o u l (PrunesIt j a g asks at due) steps all = subst P (sym steps.0) (stays.prunes a.cont g number k.durable at.covered due all)
    making-step s k o u l (FreezesIt rest j a e asks at cause new) steps all = subst P (sym steps.0) (stays.freezes a.cont e k.durable at.covered all)
    making-step s k o u l (CreatesIt z j c e by) steps all = subst P (sym steps.0) (stays.creates c e k.durable all)

    -- a change that was cut was made, or it wasn't, or it was a prune, of which a part was made
    part-left : (s : MakingStage) (k : Kept) (o : Option Change) (u : MakingStage) (c : Change) (x : Durable) → MakingNext number p m reading from q s k o u → o ≡ Some c → IsPartly c k.durable x → P k.durable → P x
    part-left s k o u c x (Passes z j) is part all = let no : ⊥ = cc in absurd no
    part-left s k o u c x (ExtendsLease z j a e lease asks at low found) is part all = absurd (subst (λ y. IsPartly y k.durable x) (let one : c ≡ Extends lease = cc in one) part)
    part-left s k o u c x (IsCoveredNow rest j a e asks at) is part all = let no : ⊥ = cc in absurd no
    part-left s k o u c x (SettlesFirst b rest j a g asks at) is part all = absurd (subst (λ y. IsPartly y k.durable x) (let one : c ≡ Settles b Commit = cc in one) part)
    part-left s k o u c x (PrunesIt j a g asks at due) is part all =
        stays.parts a.cont g number k.durable x at.covered due (subst (λ y. IsPartly y k.durable x) (let one : c ≡ Prunes a.cont (prune_limit a.cont g k.durable) number = cc in one) part) all
    part-left s k o u c x (FreezesIt rest j a e asks at cause new) is part all = absurd (subst (λ y. IsPartly y k.durable x) (let one : c ≡ Freezes a.cont e = cc in one) part)
    part-left s k o u c x (CreatesIt z j b e by) is part all = absurd (subst (λ y. IsPartly y k.durable x) (let one : c ≡ Creates b e = cc in one) part)

    change-left : (s u : MakingStage) (k : Kept) (c : Change) (x : Durable) → MakingNext number p m reading from q s k (Some c) u → Cut c k.durable x → P k.durable → P x
    change-left s u k c x next (Before same) all = subst P (sym same) all
    change-left s u k c x next (After same) all = subst P (sym same) (making-step s k (Some c) u (record { durable = made c k.durable; free = k.free }) next (refl, omega arith) all)
    change-left s u k c x next (InPart part) all = part-left s k (Some c) u c x next refl part all

    making-cut : (issues : MakingStage → List (AttemptId × Epoch)) (t : ℕ) (start : MakingStage) (old : Kept) (cut : Cutting) → CutTurn (MakingNext number p m reading from q) issues t start old cut → P old.durable → P cut.left.durable
    making-cut issues t start old cut g all = here g.lines g.here
      where
        mid : P g.mid.durable
        mid = path-keeps (MakingNext number p m reading from q) (λ s k. P k.durable) making-step start old g.did g.last g.mid g.path all

        here : (lines : List Line) → CutHere (MakingNext number p m reading from q) t g.last g.mid cut.left lines → P cut.left.durable
        here lines (InChange c next is left free) = change-left g.last next g.mid c cut.left.durable is left mid
        here lines (InQuestion is free) = subst P (sym is) mid

  pub all-cuts_leave : (r : Rules) (t : ℕ) (s : TargetState) (work : AtWork) (cut : Cutting) → CutOf (target_plan r t) s work cut → P s.durable → P cut.left.durable
  all-cuts_leave r t s IdleWork cut turn all = cuts-leave P stays.plainly r t s IdleWork cut tt turn all
  all-cuts_leave r t s (Hearing l reading number) cut turn all = by (is_without_snapshots l.message) refl
    where
      by : (b : Bool) → is_without_snapshots l.message ≡ b → P cut.left.durable
      by true plain = cuts-leave P stays.plainly r t s (Hearing l reading number) cut plain turn all
      by false ours =
          making-cut number (target_plan r t) s.memory reading l.from l.message (making_issues l.message) t (making_begins s.memory) (kept s) cut
          (making-cuts-leave is_prepared number (target_plan r t) s.opening s.memory reading l.from l.message (kept s) cut turn (cut-making l.message ours)) all

  -- ---- events

  module _ (r : Rules) (w v : World) (k : AreAll P w) where
    one-left : (u : World) (t : ℕ) (s z : TargetState) → slice_get w.targets t ≡ Some s → u.targets ≡ set w.targets t z → P z.durable → v ≡ swept u → AreAll P v
    one-left u t s z here same covered after i y at =
        elim (at-or-there w.targets t s z here i y (subst (λ ts. slice_get ts i ≡ Some y) (ap (λ x. x.targets) after ∙ same) at)) [
          | inl is ↦ subst (λ x. P x.durable) (sym is.1) covered
          | inr old ↦ k i y old.1
        ]

    by-happening : (u : World) (e : Happening r w u) → v ≡ swept u → AreAll P v
    by-happening u (Plainly e up) after = events-keep P stays.plainly r w v (record { u = u; happens = Plainly e up; after = after }) tt k
    by-happening u (Further f) after = by (is_of_attempts f.hears.l.message) refl
      where
        by : (b : Bool) → is_of_attempts f.hears.l.message ≡ b → AreAll P v
        by true ours = events-keep P stays.plainly r w v (record { u = u; happens = Further f; after = after }) ours k
        by false making =
            let g = f.hears in
            let n = hearings-leave f.number (target_plan r g.t) g.s.opening g.s.memory g.reading g.l.from g.l.message (kept g.s) g.new (g.memory, g.did) g.turn (of-making g.l.message making) in
            one-left u g.t g.s _ g.here (ap (λ x. x.targets) g.after)
            (path-keeps (MakingNext f.number (target_plan r g.t) g.s.memory g.reading g.l.from g.l.message) (λ s k. P k.durable)
            (making-step f.number (target_plan r g.t) g.s.memory g.reading g.l.from g.l.message) (making_begins g.s.memory) (kept g.s) n.reached.did n.last g.new n.reached.path (k g.t g.s g.here)) after
    by-happening u (IsCut g) after = one-left u g.t g.s _ g.here (ap (λ x. x.targets) g.after) (all-cuts_leave r g.t g.s g.work g.cut g.turn (k g.t g.s g.here)) after
    by-happening u (Opens g) after = events-keep P stays.plainly r w v (record { u = u; happens = Opens g; after = after }) tt k
    by-happening u (Fails g) after = events-keep P stays.plainly r w v (record { u = u; happens = Fails g; after = after }) tt k
    by-happening u (GivenUp g) after = events-keep P stays.plainly r w v (record { u = u; happens = GivenUp g; after = after }) tt k
    by-happening u (Draws g) after = events-keep P stays.plainly r w v (record { u = u; happens = Draws g; after = after }) tt k

pub cuts-leave_what_stays : CutsLeaveWhatStays
cuts-leave_what_stays P stays = all-cuts_leave P stays

pub events-keep_what_stays : EventsKeepWhatStays
events-keep_what_stays P stays r w v e k = by-happening P stays r w v k e.u e.happens e.after

-- What an extended lease leaves, and what is stored where the lease covers it, holds of what targets keep, whatever happens, and wherever a turn is cut.
use Rattle.std.specs.Prelude.{ℕ, ◌≡◌, ◌≤◌, ◌<◌, ◌/◌, Bool, true, false, All, List, [], ◌∷◌, map, slice_get, Option, Some, None, refl, if◌then◌else◌}
use Rattle.std.proofs.Common.{inl, inr, sym, ◌∙◌, ap, subst, arith}
use Rattle.std.proofs.Math.ListN.{set}
use Rattle.std.proofs.lemmas.List.Elements.{All-cons, All-filter, All-head, All-tail}
use Rattle.base_types.specs.declared.entry.Entry.{Entry}
use Rattle.base_types.specs.declared.entry.Settle.{Settle}
use Rattle.base_types.specs.declared.entry.Settle.TheVariants.{Abort, Commit, Confirm, Forget}
use Rattle.base_types.specs.declared.epoch.Epoch.{Epoch}
use Rattle.base_types.specs.declared.id.AttemptId.{AttemptId}
use Rattle.base_types.specs.declared.operation.MinorWrite.{MinorWrite}
use Rattle.base_types.specs.declared.outcome.FloorWhy.{FloorWhy}
use Rattle.base_types.specs.Epochs.{lease_for}
use Rattle.base_messages.specs.declared.actor.ActorId.{ActorId}
use Rattle.base_messages.specs.declared.message.Message.{Message, more_of-Message}
use Rattle.base_messages.specs.declared.message.Message.TheVariants as message
use Rattle.daos_model.specs.Changes.{leased, prepared, reopened, settled}
use Rattle.daos_model.specs.declared.durable.Durable.{Durable}
use Rattle.daos_model.specs.declared.durable.Version.{Version}
use Rattle.daos_model.specs.Durables.{version_key}
use Rattle.daos_model.specs.Answers.{is_before}
use Rattle.daos_model.specs.Ordered.{put, puts}
use Rattle.daos_model.specs.Versions.{done_by, version_of, versions_of}
use Rattle.world_base.specs.declared.did.Did.{Did}
use Rattle.world_base.specs.declared.request.CommitRequest.{CommitRequest}
use Rattle.world_base.specs.declared.request.PrepareRequest.{PrepareRequest}
use Rattle.world_base.specs.declared.target.TargetMemory.{TargetMemory}
use Rattle.world_base.specs.declared.target.TargetPlan.{TargetPlan}
use Rattle.world_base.specs.declared.target.TargetState.{TargetState}
use Rattle.world_base.specs.declared.world.World.{World}
use Rattle.world_base.specs.Changes.{Change, Creates, Extends, Freezes, IsPlainly, Kept, Prepares, Prunes, Settles, Steps}
use Rattle.world_base.specs.Commits as commit
use Rattle.world_base.specs.CutTurns.{CommitIsCut, CutTurn, Cutting, HearingIsCut, IdleWorkIsCut, issued_by_commit, none_issued}
use Rattle.world_base.specs.Events.{ByClient, ByTarget, Rules, ToClient, ToTarget, kept, target_plan}
use Rattle.world_base.specs.Further.{HearsFurther}
use Rattle.world_base.specs.Letters.{target}
use Rattle.world_base.specs.PathLaws.{reached-keeps}
use Rattle.world_base.specs.Prepares as prepare
use Rattle.world_base.specs.Roles.{is_prepared, told_by}
use Rattle.world_base.specs.Statuses.{status_refusal}
use Rattle.world_base.specs.Stops.{AtWork, CutOf, Draws, Fails, Further, GivenUp, Happening, Hearing, IdleWork, IsCut, Opens, Plainly, WorldEvent}
use Rattle.world_base.specs.TargetTurns.{Hears, IdlesWhole, commit_request, fetch_request, prepare_request}
use Rattle.world_base.specs.TurnLaws.{commit-plain, prepare-plain}
use Rattle.world_base.specs.Turns.{Whole}
use Rattle.world_causes.specs.world_letters.epochs.FetchTurns.{lease-covers}
use Rattle.world_causes.specs.world_letters.epochs.Sayings.{Known, StepFits}
use Rattle.world_causes.specs.hearing.Storing.{AllFit, ack-fits, fetch-fits, idle-fits, look-fits, mark-fits, marked-fits, query-fits, verdict-fits}
use Rattle.world_causes.specs.world_contents.reads.EventLaws.{at-or-there}
use Rattle.world_causes.specs.restarts.CutLaws.{commit-is-cut}
use Rattle.world_causes.specs.restarts.Cuts.{cut-keeps}
use Rattle.world_causes.specs.world_commit.statuses.Events.{HappensWithoutSnapshots}
use Rattle.world_causes.specs.world_commit.statuses.Heard.{is_of_attempts}
use Rattle.world_causes.specs.world_commit.stops.CutEvents.{IsWithoutSnapshots, is_without_snapshots}

-- ---- the statements

-- An extended lease leaves it; it holds of what is stored where the lease covers that, of what is settled, and of what is opened again.
pub record StaysCovered (P : Durable → Type 0) : Type 0 where
  pub extends : (lease : ℕ) (d : Durable) → d.lease ≤ lease → P d → P (leased lease d)
  pub stores : (e : Entry) (ws : List MinorWrite) (d : Durable) → e.epoch.0 / 256 ≤ d.lease → P d → P (prepared e ws d)
  pub settles : (a : AttemptId) (step : Settle) (d : Durable) → P d → P (settled a step d)
  pub opens : (d : Durable) → P d → P (reopened d)

-- it holds of what each target keeps, whether it runs, is stopped, or is given up
abbrev pub AreAll : (Durable → Type 0) → World → Type 0
AreAll P w = (t : ℕ) (s : TargetState) → slice_get w.targets t ≡ Some s → P s.durable

-- where a turn of a target is cut, it holds of what that leaves
abbrev pub CutsLeave : (Durable → Type 0) → Type 0
CutsLeave P = (r : Rules) (t : ℕ) (s : TargetState) (work : AtWork) (cut : Cutting) → IsWithoutSnapshots work → CutOf (target_plan r t) s work cut → P s.durable → P cut.left.durable

-- each event keeps it
abbrev pub EventsKeep : (Durable → Type 0) → Type 0
EventsKeep P = (r : Rules) (w v : World) (e : WorldEvent r w v) → HappensWithoutSnapshots e.happens → AreAll P w → AreAll P v

-- ---- epochs of what is kept

pub all-put : {T : Type 0} (P : T → Type 0) (key : T → List ℕ) (v : T) (us : List T) → P v → All P us → All P (put key v us)
all-put P key v [] p all = All-cons P v [] p (λ k d lt. absurd (omega arith))
all-put P key v (u ∷ us) p all =
    elim (is_before (key u) (key v)) as (λ b. All P (if b then u ∷ put key v us else v ∷ u ∷ us)) [
      | true ↦ All-cons P u (put key v us) (All-head P u us all) (all-put P key v us p (All-tail P u us all))
      | false ↦ All-cons P v (u ∷ us) p all
    ]

-- what holds of the epochs of versions holds of those that are settled, and of those that are put among them
module _ (P : ℕ → Type 0) where
  epochs-done : (a : AttemptId) (vs : List Version) → All (λ v. P v.epoch.0) vs → All (λ v. P v.epoch.0) (map (done_by a) vs)
  unfolding done_by
  epochs-done a [] all = λ i x lt. absurd (omega arith)
  epochs-done a (v ∷ vs) all = All-cons (λ v. P v.epoch.0) (done_by a v) (map (done_by a) vs) (All-head (λ v. P v.epoch.0) v vs all) (epochs-done a vs (All-tail (λ v. P v.epoch.0) v vs all))

  pub epochs-settled : (a : AttemptId) (step : Settle) (d : Durable) → All (λ v. P v.epoch.0) d.versions → All (λ v. P v.epoch.0) (settled a step d).versions
  unfolding settled
  epochs-settled a Commit d all = epochs-done a d.versions all
  epochs-settled a Abort d all = All-filter _ (λ v. P v.epoch.0) d.versions all
  epochs-settled a (Confirm t) d all = all
  epochs-settled a Forget d all = all

  pub epochs-puts : (e : Entry) (ws : List MinorWrite) (us : List Version) → P e.epoch.0 → All (λ u. P u.epoch.0) us → All (λ u. P u.epoch.0) (puts version_key (versions_of e ws) us)
  epochs-puts e [] us p all = all
  epochs-puts e (w ∷ ws) us p all = all-put (λ u. P u.epoch.0) version_key (version_of e w) (puts version_key (versions_of e ws) us) p (epochs-puts e ws us p all)

-- ---- steps

-- a step extends the lease, stores what the lease covers, or settles an attempt
abbrev Covers : Kept → Option Change → Type 0
Covers k None = Unit {0}
Covers k (Some (Extends ticks)) = k.durable.lease ≤ ticks
Covers k (Some (Prepares e ws)) = e.epoch.0 / 256 ≤ k.durable.lease
Covers k (Some (Settles a step)) = Unit {0}
Covers k (Some (Freezes c s)) = ⊥
Covers k (Some (Creates c s)) = ⊥
Covers k (Some (Prunes c upto n)) = ⊥

covers-plain : (k : Kept) (o : Option Change) → Covers k o → IsPlainly o
covers-plain k None c = tt
covers-plain k (Some (Extends ticks)) c = refl
covers-plain k (Some (Prepares e ws)) c = refl
covers-plain k (Some (Settles a step)) c = refl
covers-plain k (Some (Freezes c s)) none = absurd none
covers-plain k (Some (Creates c s)) none = absurd none
covers-plain k (Some (Prunes c upto n)) none = absurd none

abbrev Nobody : Known
Nobody x e = ⊥

covers-fit : (k : Kept) (o : Option Change) → StepFits Nobody k o → Covers k o
covers-fit k None fits = tt
covers-fit k (Some (Extends ticks)) fits = fits
covers-fit k (Some (Prepares e ws)) fits = absurd fits
covers-fit k (Some (Settles a step)) fits = tt
covers-fit k (Some (Freezes c s)) fits = absurd fits
covers-fit k (Some (Creates c s)) fits = absurd fits
covers-fit k (Some (Prunes c upto n)) fits = absurd fits

rises : (d : Durable) (n lease : ℕ) → d.lease < n → lease_for n ≡ Some lease → d.lease ≤ lease
rises d n lease low is = let up : n ≤ lease = lease-covers n lease is in omega (arith, low, up)

module _ (P : Durable → Type 0) (stays : StaysCovered P) where
  step-covered : (o : Option Change) (k l : Kept) → Covers k o → Steps o k l → P k.durable → P l.durable
  step-covered None k l c same all = subst (λ x. P x.durable) (sym same) all
  step-covered (Some (Extends ticks)) k l c steps all = subst P (sym steps.0) (stays.extends ticks k.durable c all)
  step-covered (Some (Prepares e ws)) k l c steps all = subst P (sym steps.0) (stays.stores e ws k.durable c all)
  step-covered (Some (Settles a step)) k l c steps all = subst P (sym steps.0) (stays.settles a step k.durable all)
  step-covered (Some (Freezes c s)) k l none steps all = absurd none
  step-covered (Some (Creates c s)) k l none steps all = absurd none
  step-covered (Some (Prunes c upto n)) k l none steps all = absurd none

  module _ {S : Type 0} (Next : S → Kept → Option Change → S → Type 0) (fits : AllFit Nobody Next) where
    whole-covered : {R : Type 0} (Ends : S → Kept → R → Type 0) (start : S) (old new : Kept) (left : R) → Whole Next Ends start old new left → P old.durable → P new.durable
    whole-covered Ends start old new left w all =
        reached-keeps Next (λ s k. P k.durable) (λ s k o u l next steps so. step-covered o k l (covers-fit k o (fits s k o u next)) steps so) start old w.last new w.reached all

    cut-covered : (issues : S → List (AttemptId × Epoch)) (t : ℕ) (start : S) (old : Kept) (cut : Cutting) → CutTurn Next issues t start old cut → P old.durable → P cut.left.durable
    cut-covered issues t start old cut g all =
        cut-keeps Next issues t (λ s k. P k.durable) P (λ s k o u next. covers-plain k o (covers-fit k o (fits s k o u next))) (λ s k o u l next steps so. step-covered o k l (covers-fit k o (fits s k o u next)) steps so)
        (λ s k so. so) start old cut g all

  -- ---- a Commit and a Prepare, which store what the lease covers

  module _ (t : TargetPlan) (opening : Epoch × FloorWhy) (m : TargetMemory) (reading : ℕ) (q : CommitRequest) where
    abbrev CommitAt : commit.CommitStage → Kept → Type 0
    CommitAt commit.Asked k = P k.durable
    CommitAt (commit.Known e) k = P k.durable
    CommitAt (commit.Checking e) k = P k.durable × (e.0 / 256 ≤ k.durable.lease)
    CommitAt (commit.Stored e) k = P k.durable

    commit-sound : (s : commit.CommitStage) (k : Kept) → CommitAt s k → P k.durable
    commit-sound commit.Asked k p = p
    commit-sound (commit.Known e) k p = p
    commit-sound (commit.Checking e) k p = p.0
    commit-sound (commit.Stored e) k p = p

    commit-step : (s : commit.CommitStage) (k : Kept) (o : Option Change) (u : commit.CommitStage) (l : Kept) → commit.CommitNext t opening m reading q s k o u → Steps o k l → CommitAt s k → CommitAt u l
    commit-step s k o u l (commit.HasEpoch j e is) steps p = step-covered None k l tt steps p
    commit-step s k o u l (commit.ExtendsLease j e lease low is) steps p = step-covered (Some (Extends lease)) k l (rises k.durable (e.0 / 256) lease low is) steps p
    commit-step s k o u l (commit.IsCovered j e low) steps p = (step-covered None k l tt steps p, subst (λ x. e.0 / 256 ≤ x.durable.lease) (sym steps) low)
    commit-step s k o u l (commit.Stores j e allowed space) steps p = step-covered (Some (Prepares (commit.led_entry t q e) (commit.own_writes t q.writes))) k l p.1 steps p.0

    commit-whole : (from : ActorId) (old new : Kept) (left : TargetMemory × Did) (Ends : commit.CommitStage → Kept → TargetMemory × Did → Type 0) → Whole (commit.CommitNext t opening m reading q) Ends commit.Asked old new left → P old.durable
        → P new.durable
    commit-whole from old new left Ends w all = commit-sound w.last new (reached-keeps (commit.CommitNext t opening m reading q) CommitAt commit-step commit.Asked old w.last new w.reached all)

    commit-cut : (old : Kept) (cut : Cutting) → CommitIsCut t opening m reading q old cut → P old.durable → P cut.left.durable
    commit-cut old cut h all =
        cut-keeps (commit.CommitNext t opening m reading q) (issued_by_commit q) t.me CommitAt P (commit-plain t opening m reading q) commit-step commit-sound commit.Asked old cut (commit-is-cut t opening m reading q old cut h) all

  module _ (t : TargetPlan) (opening : Epoch × FloorWhy) (m : TargetMemory) (q : PrepareRequest) where
    abbrev PrepareAt : prepare.PrepareStage → Kept → Type 0
    PrepareAt prepare.Heard k = P k.durable
    PrepareAt prepare.Checking k = P k.durable × (q.entry.epoch.0 / 256 ≤ k.durable.lease)
    PrepareAt prepare.Stored k = P k.durable

    prepare-sound : (s : prepare.PrepareStage) (k : Kept) → PrepareAt s k → P k.durable
    prepare-sound prepare.Heard k p = p
    prepare-sound prepare.Checking k p = p.0
    prepare-sound prepare.Stored k p = p

    prepare-step : (s : prepare.PrepareStage) (k : Kept) (o : Option Change) (u : prepare.PrepareStage) (l : Kept) → prepare.PrepareNext t opening m q s k o u → Steps o k l → PrepareAt s k → PrepareAt u l
    prepare-step s k o u l (prepare.ExtendsLease j lease low is) steps p = step-covered (Some (Extends lease)) k l (rises k.durable (q.entry.epoch.0 / 256) lease low is) steps p
    prepare-step s k o u l (prepare.IsCovered j low) steps p = (step-covered None k l tt steps p, subst (λ x. q.entry.epoch.0 / 256 ≤ x.durable.lease) (sym steps) low)
    prepare-step s k o u l (prepare.Stores j allowed space) steps p = step-covered (Some (Prepares q.entry q.writes)) k l p.1 steps p.0

    prepare-whole : (old new : Kept) (left : TargetMemory × Did) (Ends : prepare.PrepareStage → Kept → TargetMemory × Did → Type 0) → Whole (prepare.PrepareNext t opening m q) Ends prepare.Heard old new left → P old.durable → P new.durable
    prepare-whole old new left Ends w all = prepare-sound w.last new (reached-keeps (prepare.PrepareNext t opening m q) PrepareAt prepare-step prepare.Heard old w.last new w.reached all)

    prepare-cut : (old : Kept) (cut : Cutting) → CutTurn (prepare.PrepareNext t opening m q) none_issued t.me prepare.Heard old cut → P old.durable → P cut.left.durable
    prepare-cut old cut g all = cut-keeps (prepare.PrepareNext t opening m q) none_issued t.me PrepareAt P (prepare-plain t opening m q) prepare-step prepare-sound prepare.Heard old cut g all

  -- ---- every turn

  module _ (t : TargetPlan) (opening : Epoch × FloorWhy) (m : TargetMemory) (reading : ℕ) (from : ActorId) (old : Kept) (all : P old.durable) where
    hears-covered : (q : Message) (new : Kept) (left : TargetMemory × Did) → Hears t opening m reading from q old new left → P new.durable
    hears-covered (message.Fetch x op group ep first tracker r snapshot) new left h = whole-covered _ (fetch-fits Nobody t m reading (fetch_request x op group ep first tracker r snapshot)) _ _ old new left h all
    hears-covered (message.Commit x ep first tracker ws) new left h = commit-whole t opening m reading (commit_request x ep first tracker ws) from old new left _ h all
    hears-covered (message.Prepare e first ws inc) new left h = prepare-whole t opening m (prepare_request e first ws inc) old new left _ h all
    hears-covered (message.Ack x inc refusal) new left h = whole-covered _ (ack-fits Nobody t m from.number x inc refusal) _ _ old new left h all
    hears-covered (message.Mark inc marks) new left h = whole-covered _ (mark-fits Nobody is_prepared) _ _ old new left h all
    hears-covered (message.Marked inc ids) new left h = whole-covered _ (marked-fits Nobody t m from.number) _ _ old new left h all
    hears-covered (message.Query x ask) new left h = whole-covered _ (query-fits Nobody) _ _ old new left h all
    hears-covered (message.Verdict x ask inc v) new left h = whole-covered _ (verdict-fits Nobody is_prepared t (told_by v x m) reading x ask v) _ _ old new left h all
    hears-covered q new left h = absurd h

    further-covered : (number : ℕ) (q : Message) (new : Kept) (left : TargetMemory × Did) → is_of_attempts q ≡ true → HearsFurther number t opening m reading from q old new left → P new.durable
    further-covered number (message.Commit x ep first tracker ws) new left ours h = commit-whole t opening m reading (commit_request x ep first tracker ws) from old new left _ h all
    further-covered number (message.Ask x) new left ours h = whole-covered _ (look-fits Nobody) _ _ old new left h all
    further-covered number (message.Status x inc) new left ours h = whole-covered _ (look-fits Nobody) _ _ old new left h all
    further-covered number (message.StatusIs x inc how) new left ours h = whole-covered _ (ack-fits Nobody t m from.number x inc (status_refusal x how)) _ _ old new left h all
    further-covered number (message.Reset' by down place (more_of-Message q rest)) new left ours h = whole-covered _ (look-fits Nobody) _ _ old new left h all
    further-covered number (message.Snap x c called tracker) new left ours h = let no : ⊥ = cc in absurd no
    further-covered number (message.Freeze x c s) new left ours h = let no : ⊥ = cc in absurd no
    further-covered number (message.Held x refusal) new left ours h = let no : ⊥ = cc in absurd no
    further-covered number (message.Prune x c tracker e) new left ours h = let no : ⊥ = cc in absurd no
    further-covered number q new left ours h = absurd h

    hearing-cut_covered : (number : ℕ) (q : Message) (cut : Cutting) → is_without_snapshots q ≡ true → HearingIsCut is_prepared number t opening m reading from q old cut → P cut.left.durable
    hearing-cut_covered number (message.Fetch x op group ep first tracker r snapshot) cut ours h = cut-covered _ (fetch-fits Nobody t m reading (fetch_request x op group ep first tracker r snapshot)) _ t.me _ old cut h all
    hearing-cut_covered number (message.Commit x ep first tracker ws) cut ours h = commit-cut t opening m reading (commit_request x ep first tracker ws) old cut h all
    hearing-cut_covered number (message.Prepare e first ws inc) cut ours h = prepare-cut t opening m (prepare_request e first ws inc) old cut h all
    hearing-cut_covered number (message.Ack x inc refusal) cut ours h = cut-covered _ (ack-fits Nobody t m from.number x inc refusal) _ t.me _ old cut h all
    hearing-cut_covered number (message.StatusIs x inc how) cut ours h = cut-covered _ (ack-fits Nobody t m from.number x inc (status_refusal x how)) _ t.me _ old cut h all
    hearing-cut_covered number (message.Mark inc marks) cut ours h = cut-covered _ (mark-fits Nobody is_prepared) _ t.me _ old cut h all
    hearing-cut_covered number (message.Marked inc ids) cut ours h = cut-covered _ (marked-fits Nobody t m from.number) _ t.me _ old cut h all
    hearing-cut_covered number (message.Verdict x ask inc v) cut ours h = cut-covered _ (verdict-fits Nobody is_prepared t (told_by v x m) reading x ask v) _ t.me _ old cut h all
    hearing-cut_covered number (message.Query x ask) cut ours h = cut-covered _ (query-fits Nobody) _ t.me _ old cut h all
    hearing-cut_covered number (message.Ask x) cut ours h = cut-covered _ (look-fits Nobody) _ t.me _ old cut h all
    hearing-cut_covered number (message.Status x inc) cut ours h = cut-covered _ (look-fits Nobody) _ t.me _ old cut h all
    hearing-cut_covered number (message.Reset' by down place asked) cut ours h = cut-covered _ (look-fits Nobody) _ t.me _ old cut h all
    hearing-cut_covered number (message.Snap x c name tracker) cut ours h = let no : ⊥ = cc in absurd no
    hearing-cut_covered number (message.Freeze x c s) cut ours h = let no : ⊥ = cc in absurd no
    hearing-cut_covered number (message.Held x refusal) cut ours h = let no : ⊥ = cc in absurd no
    hearing-cut_covered number (message.Prune x c tracker e) cut ours h = let no : ⊥ = cc in absurd no
    hearing-cut_covered number q cut ours h = absurd h

    idle-covered : (settling : Bool) (new : Kept) (left : TargetMemory × Did) → IdlesWhole settling t m old new left → P new.durable
    idle-covered settling new left h = whole-covered _ (idle-fits Nobody) _ _ old new left h all

    idle-cut_covered : (cut : Cutting) → IdleWorkIsCut t.me m old cut → P cut.left.durable
    idle-cut_covered cut h = cut-covered _ (idle-fits Nobody) _ t.me _ old cut h all

  pub cuts-leave : CutsLeave P
  cuts-leave r t s (Hearing l reading number) cut plain turn all = hearing-cut_covered (target_plan r t) s.opening s.memory reading l.from (kept s) all number l.message cut plain turn
  cuts-leave r t s IdleWork cut plain turn all = idle-cut_covered (target_plan r t) s.opening s.memory 0 (target t) (kept s) all cut turn

  -- ---- events

  module _ (w v : World) (k : AreAll P w) where
    none-changed : v.targets ≡ w.targets → AreAll P v
    none-changed same t z at = k t z (ap (λ ts. slice_get ts t) (sym same) ∙ at)

    one-changed : (t : ℕ) (s z : TargetState) → slice_get w.targets t ≡ Some s → v.targets ≡ set w.targets t z → P z.durable → AreAll P v
    one-changed t s z here same covered u y at = elim (at-or-there w.targets t s z here u y (subst (λ ts. slice_get ts u ≡ Some y) same at)) [
      | inl is ↦ subst (λ x. P x.durable) (sym is.1) covered
      | inr old ↦ k u y old.1
    ]

    happenings-keep : (r : Rules) (e : Happening r w v) → HappensWithoutSnapshots e → AreAll P v
    happenings-keep r (Plainly (ByClient g) up) ours = none-changed (ap (λ u. u.targets) g.after)
    happenings-keep r (Plainly (ToClient g) up) ours = none-changed (ap (λ u. u.targets) g.after)
    happenings-keep r (Plainly (ToTarget g) up) ours =
        one-changed g.t g.s _ g.here (ap (λ u. u.targets) g.after) (hears-covered (target_plan r g.t) g.s.opening g.s.memory g.reading g.l.from (kept g.s) (k g.t g.s g.here) g.l.message g.new (g.memory, g.did) g.turn)
    happenings-keep r (Plainly (ByTarget g) up) ours =
        one-changed g.t g.s _ g.here (ap (λ u. u.targets) g.after) (idle-covered (target_plan r g.t) g.s.opening g.s.memory 0 (target g.t) (kept g.s) (k g.t g.s g.here) g.settling g.new (g.memory, g.did) g.turn)
    happenings-keep r (Further more) ours =
        let g = more.hears in
        one-changed g.t g.s _ g.here (ap (λ u. u.targets) g.after)
        (further-covered (target_plan r g.t) g.s.opening g.s.memory g.reading g.l.from (kept g.s) (k g.t g.s g.here) more.number g.l.message g.new (g.memory, g.did) ours g.turn)
    happenings-keep r (IsCut g) ours = one-changed g.t g.s _ g.here (ap (λ u. u.targets) g.after) (cuts-leave r g.t g.s g.work g.cut ours g.turn (k g.t g.s g.here))
    happenings-keep r (Opens g) ours = one-changed g.t g.s _ g.here (ap (λ u. u.targets) g.after) (stays.opens g.s.durable (k g.t g.s g.here))
    happenings-keep r (Fails g) ours =
        one-changed g.t g.s _ g.here (ap (λ u. u.targets) g.after)
        (elim g.left [ inl same ↦ subst P (sym same) (k g.t g.s g.here) | inr again ↦ subst P (sym again) (stays.opens g.s.durable (k g.t g.s g.here)) ])
    happenings-keep r (GivenUp g) ours = one-changed g.t g.s _ g.here (ap (λ u. u.targets) g.after) (k g.t g.s g.here)
    happenings-keep r (Draws g) ours = none-changed (ap (λ u. u.targets) g.after)

  pub events-keep : EventsKeep P
  events-keep r w v e ours k t z at = happenings-keep w e.u k r e.happens ours t z (ap (λ x. slice_get x.targets t) (sym e.after) ∙ at)

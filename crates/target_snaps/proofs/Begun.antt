-- What follows where target 0 begins to make something with the others.
use Rattle.std.proofs.Common.{◌≡◌, refl, sym, ◌∙◌, ap, subst, inl, inr, Bool, true, false, List, None, Some, Result, Ok, Err}
use Rattle.std.specs.Prelude.{OnErr}
use Rattle.base_types.specs.declared.epoch.Epoch.{Epoch}
use Rattle.base_types.specs.declared.key.Key.{Key}
use Rattle.base_types.specs.declared.outcome.Outcome.{Outcome}
use Rattle.base_types.specs.declared.outcome.Outcome.TheVariants.{Committed}
use Rattle.base_messages.specs.declared.message.Message.{Message}
use Rattle.base_messages.specs.declared.message.Message.TheVariants as message
use Rattle.base_messages.specs.declared.message.Post.{Post}
use Rattle.daos_model.specs.Attempts.{tries}
use Rattle.snap_core.specs.Snaps.{SnapOf, SnapStep, all_others, begun, step_of}
use Rattle.vos_store.specs.declared.refusal.FreezeNo.{FreezeNo}
use Rattle.vos_store.specs.declared.refusal.FreezeNo.TheVariants as freeze
use Rattle.world_base.specs.declared.did.Did.{Did}
use Rattle.world_base.specs.declared.target.TargetPlan.{TargetPlan}
use Rattle.world_base.specs.Snapshots.{freeze_refusal, is_held_by_all, new_collection}
use Rattle.world_ended.specs.Asking.{AreRefusals, IsEnd}
use Rattle.world_ended.specs.world_letters.clients.Answered.{is_refusal}
use Rattle.target_parts.specs.declared.stop.TargetStop.{TargetStop}
use Rattle.target_parts.specs.declared.stop.TargetStop.TheVariants as stop
use Rattle.target_parts.specs.Stops.{lines_told}
use Rattle.target_snaps.specs.declared.freezing.Froze.{Froze}
use Rattle.target_snaps.specs.declared.freezing.Froze.TheVariants as froze
use Rattle.target_snaps.specs.declared.request.ContRequest.{ContRequest}
use Rattle.target_snaps.specs.FreezeTurns.{refusal_by}
use Rattle.target_snaps.specs.Following.{RequestFollows, TellsNoAttempt}
use Rattle.target_snaps.specs.HeldTurns.{IsSnapsOf}
use Rattle.target_snaps.specs.PruneTurns.{LinesNoAttempt}
use Rattle.target_snaps.proofs.AggregateTurns.{begun-prune, begun_so}
use Rattle.target_snaps.proofs.Following.{end-follows, freezes-follow, none-tried, prunes-follow}
use Rattle.target_snaps.proofs.SnapTurns.{begun-others}

-- ---- refusals

freeze-refuses : (p : TargetPlan) (e : FreezeNo) → is_refusal (freeze_refusal p e) ≡ true
freeze-refuses p (freeze.Below g n) = refl
freeze-refuses p freeze.NoPlace = refl
freeze-refuses p freeze.Stopped = refl

-- why a freeze is refused is a refusal
pub refused-so : (p : TargetPlan) (f : Froze) → AreRefusals (refusal_by p f)
refused-so p froze.Anew = tt
refused-so p froze.Before = tt
refused-so p (froze.Refused e) = freeze-refuses p e

pub refused-ends : (p : TargetPlan) (f : Froze) (how : Outcome) → refusal_by p f ≡ Some how → (b : Bool) → b ≡ true → IsEnd b how
refused-ends p f how is b k = inl (subst AreRefusals is (refused-so p f))

pub committed-ends : (b : Bool) → b ≡ true → IsEnd b Committed
committed-ends b k = inr (refl, k)

-- ---- what is begun

pub snap-follows : (p : TargetPlan) (s t : SnapOf) (own : IsSnapsOf p s) (q : ContRequest) (e : Epoch) (name : Key) (tracker : Epoch) (m : Message) (posts : List Post) → m ≡ message.Snap q.attempt q.cont name tracker → is_held_by_all p 0 ≡ false
    → step_of t posts ≡ begun q.from m e s → RequestFollows p.targets q s.collecting t.collecting posts
snap-follows p s t own q e name tracker m posts is more heard =
    subst (λ (k : SnapStep). RequestFollows p.targets q s.collecting k.snaps.collecting k.posts) (sym (heard ∙ begun-others p s own q e name tracker m is more))
    (freezes-follow p.targets q (new_collection q.attempt q.from q.cont e (Some name)) e (all_others s.me s.targets) s.collecting refl refl)

pub prune-follows : (p : TargetPlan) (s t : SnapOf) (own : IsSnapsOf p s) (q : ContRequest) (g : Epoch) (asks : Message) (tracker : Epoch) (posts : List Post) (is : asks ≡ message.Prune q.attempt q.cont (Some tracker) None) (heard : step_of t posts ≡ begun q.from asks g s)
    → RequestFollows p.targets q s.collecting t.collecting posts
prune-follows p s t own q g asks tracker posts is heard =
    subst (λ (k : SnapStep). RequestFollows p.targets q s.collecting k.snaps.collecting k.posts) (sym (begun-prune p s t own q g asks tracker posts is heard))
    (elim (is_held_by_all p 0) as (λ b. RequestFollows p.targets q s.collecting (begun_so p s t own q g asks tracker posts is heard b).snaps.collecting (begun_so p s t own q g asks tracker posts is heard b).posts) [
      | true ↦ end-follows p.targets q (Some g) Committed s.collecting committed-ends
      | false ↦ prunes-follow p.targets q (new_collection q.attempt q.from q.cont g None) g (all_others s.me s.targets) s.collecting refl refl
    ])

-- ---- where a prune isn't made

pub told-prune : (why : TargetStop) (result : Result Did TargetStop) → LinesNoAttempt (Err why) → result ≡ Err why → TellsNoAttempt result
told-prune (stop.Store issued lines) result none is = ap (λ r. tries (lines_told r)) is ∙ none
told-prune (stop.Foreign at byte) result none is = ap (λ r. tries (lines_told r)) is ∙ none-tried
told-prune stop.Memory result none is = ap (λ r. tries (lines_told r)) is ∙ none-tried

-- what holds in any case holds after an Err
pub on-any : {T E : Type 0} (result : Result T E) (P : Type 0) → P → OnErr result P
on-any (Ok x) P p = tt
on-any (Err e) P p = p

-- What is posted has its form.
use Rattle.std.proofs.Common.{ℕ, ◌≡◌, ◌∙◌, sym, ap, subst, inl, inr, true, false, List, [], Option, Some, None, Result, Ok, Err, refl}
use Rattle.std.specs.Prelude.{IfOk, OnOk}
use Rattle.base_types.specs.declared.epoch.Epoch.{Epoch}
use Rattle.base_types.specs.declared.id.AttemptId.{AttemptId}
use Rattle.base_types.specs.declared.id.ContId.{ContId}
use Rattle.base_messages.specs.declared.message.Message.{Message, more_of-Message}
use Rattle.base_messages.specs.declared.message.Message.TheVariants.{Ask, Freeze, Held, Prune, Reset', Snap, Status, StatusIs}
use Rattle.daos_model.specs.Attempts.{tries}
use Rattle.daos_model.specs.declared.durable.Durable.{Durable}
use Rattle.dtx_base.specs.declared.leading.LeaderMemory.{LeaderMemory}
use Rattle.target_parts.specs.declared.stop.TargetStop.{TargetStop}
use Rattle.world_base.specs.declared.did.Did.{Did}
use Rattle.world_base.specs.declared.target.TargetMemory.{TargetMemory}
use Rattle.world_base.specs.declared.target.TargetPlan.{TargetPlan}
use Rattle.model_laws.specs.Members.{Has}
use Rattle.snap_core.specs.Snaps.{SnapOf, remembered}
use Rattle.vos_store.specs.Calls.{State}
use Rattle.base_messages.specs.declared.message.Post.{Post}
use Rattle.target_parts.specs.world_contents.posts.Forms.{PostsInForm, TargetPosts, TurnsPostInForm, leaders-post}
use Rattle.target_reads.specs.world_ended.Asking.{Asked, EndsAsked, LeavesWith, PostsGoWith, TurnLeavesWith, TurnsEndAsked, leaders-end}
use Rattle.target_parts.specs.Standing.{TurnRuns}
use Rattle.target_parts.specs.Stops.{IsSilent}
use Rattle.target_snaps.specs.Following.{MakesAsked, MakesInForm, TellsNoAttempt}
use Rattle.target_core.proofs.Heard.{collects-so}
use Rattle.target_core.specs.Targets.{HasForm, HasFormAfterStops, HasFormOfMaking, IsInForm, is_after_stops, is_making}

-- ---- which form a message has

after-only : (m : Message) → HasFormAfterStops m → is_after_stops m ≡ true
after-only (Ask x) k = refl
after-only (Status x inc) k = refl
after-only (StatusIs x inc how) k = refl
after-only (Reset' by down place asked) k = refl
after-only m k = absurd k

making-only : (m : Message) → HasFormOfMaking m → is_making m ≡ true
making-only (Snap x c name tracker) k = refl
making-only (Freeze x c s) k = refl
making-only (Held x refusal) k = refl
making-only (Prune x c tracker e) k = refl
making-only (Reset' by down place (more_of-Message asked rest)) k = collects-so asked k.1
making-only m k = absurd k

plain-not_after : (t : TargetPlan) (m : Message) → HasForm t m → is_after_stops m ≡ false
plain-not_after t (Ask x) k = absurd k
plain-not_after t (Status x inc) k = absurd k
plain-not_after t (StatusIs x inc how) k = absurd k
plain-not_after t (Reset' by down place asked) k = absurd k
plain-not_after t m k = refl

plain-not_making : (t : TargetPlan) (m : Message) → HasForm t m → is_making m ≡ false
plain-not_making t (Snap x c name tracker) k = absurd k
plain-not_making t (Freeze x c s) k = absurd k
plain-not_making t (Held x refusal) k = absurd k
plain-not_making t (Prune x c tracker e) k = absurd k
plain-not_making t (Reset' by down place asked) k = absurd k
plain-not_making t m k = refl

after-not_making : (m : Message) → HasFormAfterStops m → is_making m ≡ false
after-not_making (Ask x) k = refl
after-not_making (Status x inc) k = refl
after-not_making (StatusIs x inc how) k = refl
after-not_making (Reset' by down place (more_of-Message asked rest)) k = k.1
after-not_making m k = absurd k

pub form-making : (t : TargetPlan) (m : Message) → is_making m ≡ true → IsInForm t m → HasFormOfMaking m
form-making t m is (inl k) = let bad : true ≡ false = sym is ∙ plain-not_making t m k in let no : ⊥ = cc in absurd no
form-making t m is (inr (inl k)) = let bad : true ≡ false = sym is ∙ after-not_making m k in let no : ⊥ = cc in absurd no
form-making t m is (inr (inr k)) = k

pub form-after_stops : (t : TargetPlan) (m : Message) → is_after_stops m ≡ true → is_making m ≡ false → IsInForm t m → HasFormAfterStops m
form-after_stops t m is other (inl k) = let bad : true ≡ false = sym is ∙ plain-not_after t m k in let no : ⊥ = cc in absurd no
form-after_stops t m is other (inr (inl k)) = k
form-after_stops t m is other (inr (inr k)) = let bad : true ≡ false = sym (making-only m k) ∙ other in let no : ⊥ = cc in absurd no

-- a Prune in form is a client's, or target 0's
no-epoch : (x : AttemptId) (c : ContId) (t : Epoch) (e : Option Epoch) → HasFormOfMaking (Prune x c (Some t) e) → e ≡ None
no-epoch x c t None k = refl
no-epoch x c t (Some e) k = absurd k

pub client-prune : (x : AttemptId) (c : ContId) (tracker e : Option Epoch) (t : Epoch) → tracker ≡ Some t → HasFormOfMaking (Prune x c tracker e) → Prune x c tracker e ≡ Prune x c (Some t) None
client-prune x c tracker e t is k = ap (λ o. Prune x c o e) is ∙ ap (Prune x c (Some t)) (no-epoch x c t e (subst (λ o. HasFormOfMaking (Prune x c o e)) is k))

pub target-prune : (x : AttemptId) (c : ContId) (tracker e : Option Epoch) (g : Epoch) → tracker ≡ None → e ≡ Some g → Prune x c tracker e ≡ Prune x c None (Some g)
target-prune x c tracker e g none is = ap (λ o. Prune x c o e) none ∙ ap (Prune x c None) is

-- ---- what follows, with what is being made besides

-- a turn in which nothing is made
pub leads-post : (targets : ℕ) (old new : TargetMemory) (s : SnapOf) (result : Result Did TargetStop) → IfOk result (λ did. PostsInForm targets old.leader new.leader did.posts) → IfOk result (λ did. TurnsPostInForm targets (remembered old s) (remembered new s) did.posts)
leads-post targets old new s (Ok did) k = leaders-post targets (remembered old s) (remembered new s) did.posts refl k
leads-post targets old new s (Err e) k = k

pub leads-end : (asked : Asked) (old new : TargetMemory) (s : SnapOf) (result : Result Did TargetStop) → IfOk result (λ did. EndsAsked asked old.leader new.leader did.posts) → IfOk result (λ did. TurnsEndAsked asked (remembered old s) (remembered new s) did.posts)
leads-end asked old new s (Ok did) k = leaders-end asked (remembered old s) (remembered new s) did.posts refl k
leads-end asked old new s (Err e) k = k

-- one in which something is made, and clients wait for the same attempts
pub makes-post : (targets : ℕ) (old new : TargetMemory) (s u : SnapOf) (result : Result Did TargetStop) → OnOk result (new.leader.undecided ≡ old.leader.undecided) → IfOk result (λ did. MakesInForm targets s.collecting u.collecting did.posts)
    → IfOk result (λ did. TurnsPostInForm targets (remembered old s) (remembered new u) did.posts)
makes-post targets old new s u (Ok did) same k = λ waits.
    let f = k waits.collections in
    record { form = f.0; waiting = record { attempts = λ v c i is. waits.attempts v c (subst (Has v) same i) is; collections = f.1 } }
makes-post targets old new s u (Err e) same k = k

pub makes-end : (asked : Asked) (old new : TargetMemory) (s u : SnapOf) (result : Result Did TargetStop) → OnOk result (new.leader.undecided ≡ old.leader.undecided) → IfOk result (λ did. MakesAsked asked s.collecting u.collecting did.posts)
    → IfOk result (λ did. TurnsEndAsked asked (remembered old s) (remembered new u) did.posts)
makes-end asked old new s u (Ok did) same k = λ before.
    let f = k before.making in
    record { said = f.0; remembers = record { waiting = λ v c i is. before.waiting v c (subst (Has v) same i) is; making = f.1 } }
makes-end asked old new s u (Err e) same k = k

-- one in which another target answers, and nothing that is being made changes
pub answers-post : (targets : ℕ) (s : SnapOf) (result : Result Did TargetStop) → IfOk result (λ did. TargetPosts targets did.posts) → IfOk result (λ did. MakesInForm targets s.collecting s.collecting did.posts)
answers-post targets s (Ok did) k = λ waits. (k, waits)
answers-post targets s (Err e) k = k

pub answers-end : (asked : Asked) (s : SnapOf) (result : Result Did TargetStop) → IfOk result (λ did. PostsGoWith asked did.posts) → IfOk result (λ did. MakesAsked asked s.collecting s.collecting did.posts)
answers-end asked s (Ok did) k = λ makes. (k, makes)
answers-end asked s (Err e) k = k

pub always : {T E : Type 0} (result : Result T E) (P : Type 0) → P → OnOk result P
always (Ok x) P p = p
always (Err e) P p = tt

pub waits-still : {T E : Type 0} (result : Result T E) (old new : LeaderMemory) → OnOk result (new ≡ old) → OnOk result (new.undecided ≡ old.undecided)
waits-still (Ok x) old new same = ap (λ (l : LeaderMemory). l.undecided) same
waits-still (Err e) old new same = same

-- ---- what is told

pub silent-tells : (result : Result Did TargetStop) → IsSilent result → TellsNoAttempt result
unfolding tries
silent-tells result silent = ap tries silent

pub turn-tells : (result : Result Did TargetStop) (h k : State) (old new : Option Durable) → TurnRuns result h k old new → TellsNoAttempt result
turn-tells result h k old new t = silent-tells result t.silent

-- ---- a target opens again, and makes nothing yet

pub opened-ends : (asked : Asked) (m : TargetMemory) (s : SnapOf) (posts : List Post) → s.collecting ≡ [] → LeavesWith asked m.leader posts → TurnLeavesWith asked (remembered m s) posts
opened-ends asked m s posts none k = record { said = k.said; remembers = record { waiting = k.waiting; making = λ n i. absurd (subst (Has n) none i) } }

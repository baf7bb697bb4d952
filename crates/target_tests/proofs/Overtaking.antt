-- What the second of two targets is asked where a Mark overtakes the Prepare of its attempt, and what its turns keep.
use Rattle.std.proofs.Common.{ℕ, ◌≡◌, ◌<◌, refl, sym, ap, subst, true, false, List, [], ◌∷◌, map, filter, Option, Some, None, Bool, Ok, arith}
use Rattle.std.specs.Prelude.{if◌then◌else◌}
use Rattle.base_types.specs.declared.epoch.Epoch.{Epoch}
use Rattle.base_types.specs.declared.id.AttemptId.{AttemptId}
use Rattle.base_types.specs.declared.outcome.FloorWhy.{FloorWhy}
use Rattle.base_types.specs.Operations.{write_path}
use Rattle.model_laws.specs.Lists.{all-one}
use Rattle.base_messages.specs.declared.actor.ActorId.{ActorId}
use Rattle.base_messages.specs.declared.message.Message.{Message}
use Rattle.daos_model.specs.declared.durable.Durable.{Durable}
use Rattle.daos_model.specs.Changes.{committed_at, is_other, leased, settled}
use Rattle.daos_model.specs.Durables.{is_enlisted}
use Rattle.daos_model.specs.Forms.{is_read_in_form, is_write_in_form}
use Rattle.daos_model.specs.Versions.{is_not_pending}
use Rattle.vos_store.specs.Calls.{State}
use Rattle.world_base.specs.declared.did.Did.{Did}
use Rattle.world_base.specs.declared.request.PrepareRequest.{PrepareRequest}
use Rattle.world_base.specs.declared.target.TargetMemory.{TargetMemory}
use Rattle.world_base.specs.declared.target.TargetPlan.{TargetPlan}
use Rattle.world_base.specs.Changes.{Change, Kept, Steps}
use Rattle.world_base.specs.Marks as marks
use Rattle.world_base.specs.Marks.{MarkNext, marked_step}
use Rattle.world_base.specs.PathLaws.{reached-keeps}
use Rattle.world_base.specs.Prepares as stage
use Rattle.world_base.specs.Prepares.{PrepareNext, PrepareStage}
use Rattle.world_base.specs.Roles.{is_prepared}
use Rattle.world_base.specs.TargetTurns.{prepare_request}
use Rattle.target_core.specs.HeardLaws.{heard-alike}
use Rattle.target_core.specs.Targets.{CanHear, HasForm, HearsOrStops}
use Rattle.target_parts.specs.Parts.{kept}
use Rattle.target_tests.specs.Overtaken.{IsNew, entry, fetch, mark, own_write, prepare, second, writer}
use Rattle.target_tests.specs.Rows.{IsHere}
use Rattle.target_writes.specs.CheckLaws.{new-at}
use Rattle.target_tests.proofs.Keeping.{blank_absent, blank_leased, here_leased, here_prepared}

-- ---- the messages have form

pub prepare_in_form : HasForm second prepare
unfolding is_write_in_form
prepare_in_form = record {
  undecided = refl;
  unconfirmed = refl;
  leader = omega arith;
  members = omega arith;
  some = omega arith;
  form = record {
    count = omega arith;
    each = all-one (λ w. is_write_in_form w.write ≡ true) own_write refl;
    rising = λ k lt. absurd (omega arith);
    minors = all-one (λ w. w.minor < 64) own_write (omega arith);
  };
}

pub fetch_in_form : (t : TargetPlan) → HasForm t fetch
unfolding is_read_in_form
fetch_in_form t = record { form = refl; known = λ no. absurd (let n : ⊥ = cc in n) }

-- ---- what is written can be

pub can_prepare : (d : Durable) → IsNew d → CanHear second prepare d
can_prepare d n = record {
  enlisted = all-one (λ w. is_enlisted d (write_path w.write).cont ≡ true) own_write n.here;
  absent = blank_absent writer d n.blank;
  new = new-at entry.epoch (own_write ∷ []) d (rw n.blank.versions (λ k v lt. absurd (omega arith)));
}

-- ---- a Mark

new_marked : (a : AttemptId) (committed : Bool) (d : Durable) → IsNew d → IsNew (settled a (marked_step committed) d)
unfolding settled is_enlisted
new_marked a true d n = record { here = n.here; blank = record { versions = ap (map _) n.blank.versions; entries = ap (map (committed_at a)) n.blank.entries } }
new_marked a false d n = record { here = n.here; blank = record { versions = ap (filter (is_not_pending a)) n.blank.versions; entries = ap (filter (is_other a)) n.blank.entries } }

next_mark : (s : List (AttemptId × Bool)) (k : Kept) (o : Option Change) (u : List (AttemptId × Bool)) (l : Kept) → MarkNext is_prepared s k o u → Steps o k l → IsNew k.durable → IsNew l.durable
next_mark s k o u l (marks.SettlesMarked j a committed rest is) steps n = subst IsNew (sym steps.0) (new_marked a committed k.durable n)
next_mark s k o u l (marks.PassesBy j a committed rest is) steps n = subst (λ y. IsNew y.durable) (sym steps) n

pub mark_turn : (t : TargetPlan) (m : TargetMemory) (reading : ℕ) (from : ActorId) (message : Message) (d : Durable) (h k : State) (new : Option Durable) (finds : Durable → Type 0) (left : TargetMemory) (did : Did)
    → message ≡ mark → HearsOrStops 0 t m reading from message d h new k finds left (Ok did) → IsNew d → (x : Durable) × (new ≡ Some x) × IsNew x
mark_turn t m reading from message d h k new finds left did is turn n =
    let now = subst (λ x. HearsOrStops 0 t m reading from x d h new k finds left (Ok did)) is turn in
    let heard = heard-alike 0 t h.opening m reading from (kept d h) (kept now.durable k) (left, did) mark refl now.holds in
    (now.durable, now.kept_is, reached-keeps (MarkNext is_prepared) (λ s y. IsNew y.durable) next_mark _ _ _ _ heard.reached n)

-- ---- a Prepare

abbrev the_request : PrepareRequest
the_request = prepare_request entry None (own_write ∷ []) 1

-- until the entry is stored, nothing is written
abbrev Standing : PrepareStage → Kept → Type 0
Standing stage.Heard k = IsNew k.durable
Standing stage.Checking k = IsNew k.durable
Standing stage.Stored k = IsHere k.durable

new_leased : (lease : ℕ) (d : Durable) → IsNew d → IsNew (leased lease d)
new_leased lease d n = record { here = here_leased lease d n.here; blank = blank_leased lease d n.blank }

next_prepare : (t : TargetPlan) (opening : Epoch × FloorWhy) (m : TargetMemory) (s : PrepareStage) (k : Kept) (o : Option Change) (u : PrepareStage) (l : Kept)
    → PrepareNext t opening m the_request s k o u → Steps o k l → Standing s k → Standing u l
next_prepare t opening m s k o u l (stage.ExtendsLease j lease low is) steps n = subst IsNew (sym steps.0) (new_leased lease k.durable n)
next_prepare t opening m s k o u l (stage.IsCovered j low) steps n = subst (λ y. IsNew y.durable) (sym steps) n
next_prepare t opening m s k o u l (stage.Stores j allowed space) steps n =
    subst IsHere (sym steps.0) (here_prepared entry (own_write ∷ []) k.durable n.here)

here_standing : (s : PrepareStage) (k : Kept) → Standing s k → IsHere k.durable
here_standing stage.Heard k n = n.here
here_standing stage.Checking k n = n.here
here_standing stage.Stored k n = n

pub prepare_turn : (t : TargetPlan) (m : TargetMemory) (reading : ℕ) (from : ActorId) (message : Message) (d : Durable) (h k : State) (new : Option Durable) (finds : Durable → Type 0) (left : TargetMemory) (did : Did)
    → message ≡ prepare → HearsOrStops 0 t m reading from message d h new k finds left (Ok did) → IsNew d → (x : Durable) × (new ≡ Some x) × IsHere x
prepare_turn t m reading from message d h k new finds left did is turn n =
    let now = subst (λ x. HearsOrStops 0 t m reading from x d h new k finds left (Ok did)) is turn in
    let heard = heard-alike 0 t h.opening m reading from (kept d h) (kept now.durable k) (left, did) prepare refl now.holds in
    (now.durable, now.kept_is, here_standing heard.last (record { durable = now.durable; free = k.free }) (reached-keeps (PrepareNext t h.opening m the_request) Standing (next_prepare t h.opening m) _ _ _ _ heard.reached n))

-- What every event leaves: how many targets and clients there are; and what plain changes leave, where nothing is heard of snapshots.
use Rattle.std.specs.Prelude.{ℕ, ◌≡◌, true, length, Option, refl, List, [], map, slice_get, suc, zero, ◌∷◌}
use Rattle.std.proofs.Common.{inl, inr, ◌∙◌, ap}
use Rattle.std.proofs.lemmas.List.{length-set}
use Rattle.base_types.specs.declared.epoch.Epoch.{Epoch}
use Rattle.base_types.specs.declared.outcome.FloorWhy.{FloorWhy}
use Rattle.base_messages.specs.declared.actor.ActorId.{ActorId}
use Rattle.base_messages.specs.declared.message.Message.{Message, more_of-Message}
use Rattle.base_messages.specs.declared.message.Message.TheVariants as message
use Rattle.daos_model.specs.declared.durable.Durable.{Durable}
use Rattle.world_base.specs.declared.did.Did.{Did}
use Rattle.world_base.specs.declared.target.TargetMemory.{TargetMemory}
use Rattle.world_base.specs.declared.target.TargetPlan.{TargetPlan}
use Rattle.world_base.specs.declared.world.World.{World}
use Rattle.world_base.specs.Changes.{Change, Kept, is_plain, made}
use Rattle.world_base.specs.Events.{ByClient, ByTarget, Rules, ToClient, ToTarget}
use Rattle.world_base.specs.Further.{HearsFurther}
use Rattle.world_base.specs.PathLaws.{whole-leaves}
use Rattle.world_base.specs.StepLaws.{by-hearing, by-next}
use Rattle.world_base.specs.Steps.{KeptByCounting, KeptByHearing, KeptByMoves}
use Rattle.world_base.specs.Statuses.{status_refusal}
use Rattle.world_base.specs.Stops.{Begins, Draws, Fails, Further, GivenUp, Goes, Happening, IsCut, Opens, Plainly, WorldRun}
use Rattle.world_base.specs.TargetTurns.{commit_request}
use Rattle.world_base.specs.Turns.{Whole}
use Rattle.world_standing.specs.world_letters.epochs.Sayings.{Known}
use Rattle.world_standing.specs.world_causes.hearing.Storing.{AllFit, ack-fits, commit-fits, look-fits}
use Rattle.world_standing.specs.world_letters.lives.Events.{happening-adds}
use Rattle.world_standing.specs.world_commit.statuses.Heard.{is_of_attempts}
use Rattle.std.specs.Option.{option_map}
use Rattle.world_standing.specs.world_causes.hearing.Storing.{fits-plain}

pub get-map : {T U : Type 0} (f : T → U) (xs : List T) (n : ℕ) → slice_get (map f xs) n ≡ option_map f (slice_get xs n)
get-map f [] n = refl
get-map f (x ∷ xs) zero = refl
get-map f (x ∷ xs) (suc n) = get-map f xs n

-- ---- how many there are

-- as many targets, and as many clients, as before
pub record AreAsMany (w v : World) : Type 0 where
  pub targets : length v.targets ≡ length w.targets
  pub clients : length v.clients ≡ length w.clients

targets-many : (r : Rules) (w v : World) → Happening r w v → length v.targets ≡ length w.targets
targets-many r w v e = elim (happening-adds r w v e) [ inl a ↦ a.few | inr d ↦ ap (λ x. length x.targets) d.1.after ]

-- so many clients
abbrev HasClients : ℕ → World → Type 0
HasClients n w = length w.clients ≡ n

by-moves : (r : Rules) (n : ℕ) → KeptByMoves r (HasClients n)
by-moves r n w m c here k = length-set w.clients m _ ∙ k

by-counting : (n : ℕ) → KeptByCounting (HasClients n)
by-counting n w m j c here k = length-set w.clients m _ ∙ k

by-hears : (r : Rules) (n : ℕ) → KeptByHearing r (HasClients n)
by-hears r n w m c l rest here awake takes to k = length-set w.clients m _ ∙ k

clients-many : (r : Rules) (w v : World) → Happening r w v → length v.clients ≡ length w.clients
clients-many r w v (Plainly (ByClient g) up) = by-next r (HasClients (length w.clients)) (by-moves r (length w.clients)) (by-counting (length w.clients)) w v refl g
clients-many r w v (Plainly (ToClient g) up) = by-hearing r (HasClients (length w.clients)) (by-moves r (length w.clients)) (by-hears r (length w.clients)) w v refl g
clients-many r w v (Plainly (ToTarget g) up) = ap (λ x. length x.clients) g.after
clients-many r w v (Plainly (ByTarget g) up) = ap (λ x. length x.clients) g.after
clients-many r w v (Further g) = ap (λ x. length x.clients) g.hears.after
clients-many r w v (IsCut g) = ap (λ x. length x.clients) g.after
clients-many r w v (Opens g) = ap (λ x. length x.clients) g.after
clients-many r w v (Fails g) = ap (λ x. length x.clients) g.after
clients-many r w v (GivenUp g) = ap (λ x. length x.clients) g.after
clients-many r w v (Draws g) = ap (λ x. length x.clients) g.after

pub runs-as_many : (r : Rules) (w v : World) → WorldRun r w v → AreAsMany w v
runs-as_many r w v Begins = record { targets = refl; clients = refl }
runs-as_many r w v (Goes u x run e) =
    let k = runs-as_many r w u run in
    record {
      targets = ap (λ y. length y.targets) e.after ∙ targets-many r u e.u e.happens ∙ k.targets;
      clients = ap (λ y. length y.clients) e.after ∙ clients-many r u e.u e.happens ∙ k.clients;
    }

-- so there is a target for each number, and a client for each list of the script
pub record AreAll (r : Rules) (v : World) : Type 0 where
  pub targets : length v.targets ≡ r.script.targets
  pub clients : length v.clients ≡ length r.script.clients

-- ---- plain changes

-- any attempt at any epoch
abbrev Any : Known
Any x e = Unit {0}

-- what plain changes leave stays in a turn without snapshots
module _ {T : Type 0} (part : Durable → T) (leaves : (c : Change) (d : Durable) → is_plain c ≡ true → part (made c d) ≡ part d) where
  whole-part : {S R : Type 0} (Next : S → Kept → Option Change → S → Type 0) (Ends : S → Kept → R → Type 0) → AllFit Any Next → (start : S) (old new : Kept) (left : R) → Whole Next Ends start old new left → part new.durable ≡ part old.durable
  whole-part Next Ends fits start old new left w = whole-leaves part leaves Next Ends start old new left (λ s k o u next. fits-plain Any k o (fits s k o u next)) w

  module _ (t : TargetPlan) (opening : Epoch × FloorWhy) (m : TargetMemory) (reading : ℕ) (from : ActorId) (old : Kept) where
    pub further-part : (number : ℕ) (q : Message) (new : Kept) (left : TargetMemory × Did) → is_of_attempts q ≡ true → HearsFurther number t opening m reading from q old new left → part new.durable ≡ part old.durable
    further-part number (message.Commit x ep first tracker ws) new left ours h = whole-part _ _ (commit-fits Any t opening m reading (commit_request x ep first tracker ws) (λ e. tt)) _ old new left h
    further-part number (message.Ask x) new left ours h = whole-part _ _ (look-fits Any) _ old new left h
    further-part number (message.Status x inc) new left ours h = whole-part _ _ (look-fits Any) _ old new left h
    further-part number (message.StatusIs x inc how) new left ours h = whole-part _ _ (ack-fits Any t m from.number x inc (status_refusal x how)) _ old new left h
    further-part number (message.Reset' by down place (more_of-Message q rest)) new left ours h = whole-part _ _ (look-fits Any) _ old new left h
    further-part number (message.Snap x c called tracker) new left ours h = let no : ⊥ = cc in absurd no
    further-part number (message.Freeze x c s) new left ours h = let no : ⊥ = cc in absurd no
    further-part number (message.Held x refusal) new left ours h = let no : ⊥ = cc in absurd no
    further-part number (message.Prune x c tracker e) new left ours h = let no : ⊥ = cc in absurd no
    further-part number q new left ours h = absurd h

-- What is decided was issued its epoch, what is aborted stays so, and outcomes go on where nothing is told.
use Rattle.std.specs.Prelude.{ℕ, ◌≡◌, ◌⊎◌, true, not, [], Option, refl}
use Rattle.std.proofs.Common.{inl, inr, subst}
use Rattle.base_types.specs.declared.epoch.Epoch.{Epoch}
use Rattle.base_types.specs.declared.id.AttemptId.{AttemptId}
use Rattle.base_messages.specs.declared.message.Message.{Message, more_of-Message}
use Rattle.base_messages.specs.declared.message.Message.TheVariants as message
use Rattle.model_laws.specs.Members.{Has, contains-from_has}
use Rattle.base_types.specs.declared.outcome.Outcome.{Outcome}
use Rattle.world_causes.specs.world_commit.attempts.Attempts.{IsBorn, leader_of}
use Rattle.world_causes.specs.world_commit.attempts.History.{Aborted, GrowsBy, History, TellsRefusal}
use Rattle.world_base.specs.declared.world.World.{World}
use Rattle.world_base.specs.Events.{Rules, kept, target_plan}
use Rattle.world_base.specs.Further.{HearsFurther}
use Rattle.world_base.specs.Stops.{Draws, Fails, Further, GivenUp, Happening, HearsMore, IsCut, Opens, Plainly}
use Rattle.world_causes.specs.world_commit.fates.Facts.{Attempts}
use Rattle.world_causes.specs.world_letters.lines.Lines.{Lines}
use Rattle.world_causes.specs.outcomes.Outcomes.{IsEndTrue, Outcomes}
use Rattle.world_causes.specs.world_commit.questions.Flying.{IsWithoutCollections}
use Rattle.world_causes.specs.world_commit.questions.Hearing.{is_of_collections, is_of_stops}
use Rattle.world_causes.specs.world_commit.questions.Laws.{AbortsGrow}
use Rattle.world_causes.specs.world_commit.statuses.Events.{HappensWithoutSnapshots, told_by}
use Rattle.world_causes.specs.world_commit.statuses.Heard.{is_of_attempts}
use Rattle.world_standing.specs.standing.Clients.{DecidedIssued}

-- what is decided has its epoch, which was issued
pub decided-issued : (r : Rules) (h : History) (w : World) → Attempts r h w → DecidedIssued h w
decided-issued r h w k x e d =
    let held = (k.on.each x).entries.held_by_leader e d in
    let its = (k.on.each x).entries.one (leader_of r x) held.entry held.found in
    contains-from_has w.issued (x, e) (subst (λ z. Has (x, z) w.issued) held.epoch its.issued)

-- ---- what is heard

-- what is heard of attempts alone is heard of stops
of-stops : (number : ℕ) (r : Rules) (w v : World) (f : HearsMore r w v) (m : Message) → is_of_attempts m ≡ true
    → HearsFurther f.number (target_plan r f.hears.t) f.hears.s.opening f.hears.s.memory f.hears.reading f.hears.l.from m (kept f.hears.s) f.hears.new (f.hears.memory, f.hears.did) → is_of_stops m ≡ true
of-stops number r w v f (message.Commit x ep first tracker ws) ours turn = refl
of-stops number r w v f (message.Ask x) ours turn = refl
of-stops number r w v f (message.Status x inc) ours turn = refl
of-stops number r w v f (message.StatusIs x inc how) ours turn = refl
of-stops number r w v f (message.Reset' by down place (more_of-Message q rest)) ours turn = no-collecting q ours
  where
    no-collecting : (q : Message) → is_of_attempts (message.Reset' by down place (more_of-Message q rest)) ≡ true → not (is_of_collections q) ≡ true
    no-collecting (message.Freeze x c s) is = let bad : ⊥ = cc in absurd bad
    no-collecting (message.Prune x c tracker e) is = let bad : ⊥ = cc in absurd bad
    no-collecting q is = refl
of-stops number r w v f (message.Snap x c called tracker) ours turn = let no : ⊥ = cc in absurd no
of-stops number r w v f (message.Freeze x c s) ours turn = let no : ⊥ = cc in absurd no
of-stops number r w v f (message.Held x refusal) ours turn = let no : ⊥ = cc in absurd no
of-stops number r w v f (message.Prune x c tracker e) ours turn = let no : ⊥ = cc in absurd no
of-stops number r w v f m ours turn = absurd turn

pub no-collections : (r : Rules) (w v : World) (e : Happening r w v) → HappensWithoutSnapshots e → IsWithoutCollections e
no-collections r w v (Further f) ours = of-stops f.number r w v f f.hears.l.message ours f.hears.turn
no-collections r w v (Plainly e up) ours = tt
no-collections r w v (IsCut g) ours = tt
no-collections r w v (Opens g) ours = tt
no-collections r w v (Fails g) ours = tt
no-collections r w v (GivenUp g) ours = tt
no-collections r w v (Draws g) ours = tt

-- what is aborted stays so
pub aborts-grow : (r : Rules) (h later : History) (w v : World) (e : Happening r w v) → GrowsBy h (told_by e) later → AbortsGrow h later e
aborts-grow r h later w v (IsCut g) grows = grows
aborts-grow r h later w v (Plainly e up) grows = grows.aborted
aborts-grow r h later w v (Further f) grows = grows.aborted
aborts-grow r h later w v (Opens g) grows = grows.aborted
aborts-grow r h later w v (Fails g) grows = grows.aborted
aborts-grow r h later w v (GivenUp g) grows = grows.aborted
aborts-grow r h later w v (Draws g) grows = grows.aborted

-- ---- lines, and what is told of ends

-- where nothing is told, outcomes are as before
pub outcomes-on : (r : Rules) (h later : History) (w : World) → GrowsBy h [] later → Outcomes r h w → Outcomes r later w
outcomes-on r h later w grows k = record {
  told = λ l x own how i says some. end-on x own how (k.told l x own how i says some);
  lines = λ a i some. end-on a.id a.epoch a.outcome (k.lines a i some);
  new = λ l x i is born. k.new l x i is (born-back x born);
  handed = λ x born. k.handed x (born-back x born);
}
  where
    end-on : (x : AttemptId) (own : Option Epoch) (how : Outcome) → IsEndTrue r h w x own how → IsEndTrue r later w x own how
    end-on x own how t = record { committed = λ is. (let d = t.committed is in (d.0, d.1, grows.decided x d.0 d.2)); failed = t.failed }

    aborted-back : (x : AttemptId) → Aborted h x ⊎ TellsRefusal [] x → Aborted h x
    aborted-back x (inl a) = a
    aborted-back x (inr t) = absurd t.told.sent

    born-back : (x : AttemptId) → IsBorn r later w x → IsBorn r h w x
    born-back x (inl held) = inl held
    born-back x (inr a) = inr (aborted-back x (grows.only_aborted x a))

-- what lines tell, and what is told of ends
pub record TellsOn (r : Rules) (later : History) (u : World) : Type 0 where
  pub lines : Lines r u
  pub outcomes : Outcomes r later u

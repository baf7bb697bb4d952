-- What an event of a target leaves of attempts in doubt, of leaders that don't run, and of questions that are lost; and that it keeps the facts.
use Rattle.std.specs.Prelude.{ℕ, ◌≡◌, ◌⊎◌, ◌++◌, Bool, true, false, List, [], ◌∷◌, find, slice_get, Contains, Option, Some, None, refl, if◌then◌else◌}
use Rattle.std.proofs.Common.{inl, inr, sym, ◌∙◌, ap, subst}
use Rattle.base_types.specs.declared.entry.Entry.{Entry}
use Rattle.base_types.specs.declared.epoch.Epoch.{Epoch}
use Rattle.base_types.specs.declared.id.AttemptId.{AttemptId}
use Rattle.base_types.specs.declared.outcome.Outcome.TheVariants as outcome
use Rattle.base_types.specs.declared.report.Line.{Line}
use Rattle.base_types.specs.declared.report.Line.TheVariants as line
use Rattle.base_messages.specs.declared.message.Message.{Message, more_of-Message}
use Rattle.base_messages.specs.declared.message.Message.TheVariants as message
use Rattle.daos_model.specs.Attempts.{tries}
use Rattle.daos_model.specs.Durables.{entry_of, is_entry_of}
use Rattle.dtx_base.specs.LeaderLaws.{same-is}
use Rattle.model_laws.specs.Members.{Has}
use Rattle.world_standing.specs.world_commit.attempts.Attempts.{IsBorn, entry_at, entry_in, leader_of}
use Rattle.world_standing.specs.world_commit.attempts.History.{Decided, History}
use Rattle.world_base.specs.declared.letter.Letter.{Letter}
use Rattle.world_base.specs.declared.target.TargetState.{TargetState}
use Rattle.world_base.specs.declared.world.World.{World}
use Rattle.world_base.specs.Events.{Rules}
use Rattle.world_standing.specs.world_commit.fates.Facts.{Attempts, IsAskedSo, IsQueryRight, IsSaidSo}
use Rattle.world_standing.specs.world_causes.hearing.Going.{EntriesWrite}
use Rattle.world_standing.specs.world_causes.losses.ClientHears.{TellsLoss}
use Rattle.world_standing.specs.world_causes.outcomes.Outcomes.{Outcomes, HasWrites}
use Rattle.world_standing.specs.world_causes.outcomes.Untried.{untried-back}
use Rattle.world_legal.specs.doubts.Doubts.{Doubts, InFlight, InLines, IsInDoubt, IsToldCommitted, ItsLeaderStopped, RestsAt}
use Rattle.world_legal.specs.doubts.Stopped.{stopped-now, stopped-still}

-- ---- an event of a target

-- these lines tell that a target stops
abbrev pub TellStop : List Line → ℕ → Type 0
TellStop more t = (n : ℕ) × Has (line.Stop n t) more

-- why an attempt is in doubt then: it was before, its leader had no entry of it, or its leader stops
pub data IsDoubted (r : Rules) (w : World) (more : List Line) (x : AttemptId) : Type 0 where
  WasInDoubt : IsInDoubt r w x → IsDoubted r w more x
  IsNew : entry_at w (leader_of r x) x ≡ None → IsDoubted r w more x
  StopsNow : TellStop more (leader_of r x) → IsDoubted r w more x

pub record Recounts (r : Rules) (h later : History) (w v : World) : Type 0 where
  pub clients : v.clients ≡ w.clients
  -- no line tells of an attempt more
  pub more : List Line
  pub lines : v.lines ≡ w.lines ++ more
  pub untried : tries more ≡ []
  pub resting : (x : AttemptId) → IsBorn r later v x → RestsAt v (leader_of r x) → (IsBorn r h w x × RestsAt w (leader_of r x)) ⊎ TellStop more (leader_of r x)
  pub doubtful : (x : AttemptId) → IsInDoubt r v x → IsDoubted r w more x
  -- nobody is told that an attempt is committed that is in doubt then
  pub told : (l : Letter) (x : AttemptId) (own : Option Epoch) → Has l v.messages → l.message ≡ message.Ended x own outcome.Committed → IsInDoubt r v x → Has l w.messages
  -- a question is lost at a target that doesn't run then
  pub lost : (l : Letter) (x : AttemptId) (ask : Option AttemptId) → Has l v.messages → TellsLoss l.message (message.Query x ask) → Has l w.messages ⊎ RestsAt v l.from.number

-- ---- of attempts in doubt

-- an entry that is found is of the attempt
pub found-entry : (a : AttemptId) (es : List Entry) (e : Entry) → find (is_entry_of a) es ≡ Some e → Has e es × (e.attempt ≡ a)
found-entry a [] e f = let no : ⊥ = cc in absurd no
found-entry a (k ∷ es) e f = by (found-entry a es e) (is_entry_of a k) refl f
  where
    by : (find (is_entry_of a) es ≡ Some e → Has e es × (e.attempt ≡ a)) → (b : Bool) → is_entry_of a k ≡ b → (if b then Some k else find (is_entry_of a) es) ≡ Some e → Has e (k ∷ es) × (e.attempt ≡ a)
    by rest true is f = let same : k ≡ e = cc in (inl (sym same), ap (λ z. z.attempt) (sym same) ∙ same-is k.attempt a is)
    by rest false is f = let k = rest f in (inr k.0, k.1)

-- what has an entry writes something
pub entry-writes : (r : Rules) (w : World) → EntriesWrite r w → (t : ℕ) (x : AttemptId) (e : Entry) → entry_at w t x ≡ Some e → HasWrites r x
unfolding entry_of
entry-writes r w writes t x e found = by (slice_get w.targets t) refl found
  where
    by : (o : Option TargetState) → slice_get w.targets t ≡ o → entry_in o x ≡ Some e → HasWrites r x
    by None at f = let no : ⊥ = cc in absurd no
    by (Some s) at f = let z = found-entry x s.durable.entries e f in subst (HasWrites r) z.1 (writes t s e at z.0)

-- what is told as committed its leader keeps an entry of
pub told-held : (r : Rules) (h : History) (w : World) (x : AttemptId) → Attempts r h w → Outcomes r h w → HasWrites r x → IsToldCommitted w x → entry_at w (leader_of r x) x ≡ None → ⊥
told-held r h w x attempts outcomes some told none = by told
  where
    decided : (e : Epoch) → Decided h x e → ⊥
    decided e d =
        let held = (attempts.on.each x).entries.held_by_leader e d in
        let found = held.found in
        let no : ⊥ = cc (found, none) in no

    by : IsToldCommitted w x → ⊥
    by (InFlight l own i says) = let d = (outcomes.told l x own outcome.Committed i says some).committed refl in decided d.0 d.2
    by (InLines b i own says) = let d = (outcomes.lines b i (subst (HasWrites r) (sym own) some)).committed says in decided d.0 (subst (λ y. Decided h y d.0) own d.2)

-- a message tells an end, or that another one got no answer
abbrev pub tells_back : Message → Bool
tells_back (message.Ended x own how) = true
tells_back (message.Reset' t down place more) = true
tells_back m = false

pub loss-back : (m n : Message) → TellsLoss m n → tells_back m ≡ true
loss-back (message.Reset' t down place (more_of-Message q rest)) n is = refl
loss-back m n is = absurd is

-- what was asked of a lost question was asked of the attempt's leader, which had stored it
pub record IsAskedOf (r : Rules) (h : History) (w : World) (l : Letter) (x : AttemptId) : Type 0 where
  pub leads : l.from.number ≡ leader_of r x
  pub born : IsBorn r h w x

pub asked-of : (r : Rules) (h : History) (w : World) (l : Letter) (x : AttemptId) (ask : Option AttemptId) → Attempts r h w → Has l w.messages → TellsLoss l.message (message.Query x ask) → IsAskedOf r h w l x
asked-of r h w l x ask attempts i tells = by l.message tells (attempts.on.letters l i)
  where
    by : (m : Message) → TellsLoss m (message.Query x ask) → IsSaidSo r h w l.from l.to m → IsAskedOf r h w l x
    by (message.Reset' t down place (more_of-Message q rest)) is so =
        let asked : IsQueryRight r h w l.to l.from x = subst (IsAskedSo r h w l.to l.from) is so in
        record { leads = ap (λ a. a.number) asked.way.receiver; born = asked.born }
    by m is so = absurd is

-- ---- it keeps the facts

pub recounting-keeps : (r : Rules) (h later : History) (w v : World) → Attempts r h w → Attempts r later v → Outcomes r h w → EntriesWrite r v → Recounts r h later w v → Doubts r h w → Doubts r later v
recounting-keeps r h later w v attempts attempts_then outcomes writes g k = record {
  doubtful = λ x d told. doubted x d told (g.doubtful x d);
  resting = rests;
  lost = λ l x ask i tells. elim (g.lost l x ask i tells) [
    | inl was ↦ still x (k.lost l x ask was tells)
    | inr off ↦ (let z = asked-of r later v l x ask attempts_then i tells in rests x z.born (subst (RestsAt v) z.leads off))
  ];
}
  where
    still : (x : AttemptId) → ItsLeaderStopped r w x → ItsLeaderStopped r v x
    still x z = stopped-still r w v g.clients g.more g.lines g.untried x z

    now : (x : AttemptId) → TellStop g.more (leader_of r x) → ItsLeaderStopped r v x
    now x stop = stopped-now r w v g.clients g.more g.lines g.untried x stop.0 stop.1

    rests : (x : AttemptId) → IsBorn r later v x → RestsAt v (leader_of r x) → ItsLeaderStopped r v x
    rests x born off = elim (g.resting x born off) [ inl was ↦ still x (k.resting x was.0 was.1) | inr stop ↦ now x stop ]

    was-told : (x : AttemptId) → IsInDoubt r v x → IsToldCommitted v x → IsToldCommitted w x
    was-told x d (InFlight l own i says) = InFlight l own (g.told l x own i says d) says
    was-told x d (InLines b i own says) = InLines b (untried-back w.lines g.more b g.untried (subst (λ ls. Contains (tries ls) b) g.lines i)) own says

    doubted : (x : AttemptId) → IsInDoubt r v x → IsToldCommitted v x → IsDoubted r w g.more x → ItsLeaderStopped r v x
    doubted x d told (WasInDoubt was) = still x (k.doubtful x was (was-told x d told))
    doubted x d told (IsNew none) = absurd (told-held r h w x attempts outcomes (entry-writes r v writes (leader_of r x) x d.entry d.found) (was-told x d told) none)
    doubted x d told (StopsNow stop) = now x stop

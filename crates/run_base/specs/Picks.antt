-- Which actors have something to do, and what a turn of an actor is.
use Rattle.std.specs.Prelude.{ℕ, zero, suc, ◌++◌, Bool, true, false, ◌||◌, not, nat_lt, List, [], ◌∷◌, filter, length, slice_get, Option, Some, None, if◌then◌else◌, ◌%◌, ◌==◌}
use Rattle.base_messages.specs.declared.actor.ActorId.{ActorId}
use Rattle.run_base.specs.Letters.{letters_to}
use Rattle.world_base.specs.declared.client.ClientPlan.{ClientPlan}
use Rattle.world_base.specs.declared.client.ClientState.{ClientState}
use Rattle.world_base.specs.declared.letter.Letter.{Letter}
use Rattle.world_base.specs.declared.target.Life.{Life}
use Rattle.world_base.specs.declared.target.Life.TheVariants.{Down, Running, Stopped}
use Rattle.world_base.specs.declared.target.TargetPlan.{TargetPlan}
use Rattle.world_base.specs.declared.target.TargetState.{TargetState}
use Rattle.world_base.specs.declared.world.World.{World}
use Rattle.world_base.specs.ClientTurns.{is_done, waits}
use Rattle.world_base.specs.Events.{Rules, client_plan, target_plan}
use Rattle.world_base.specs.Letters.{client, target}
use Rattle.world_base.specs.Idle.{has_idle}
use Rattle.base_random.specs.Draws.{drawn}

-- ---- actors

-- the actors with numbers below n, in order
abbrev pub numbered : (ℕ → ActorId) → ℕ → List ActorId
numbered name zero = []
numbered name (suc n) = numbered name n ++ name n ∷ []

-- all actors, clients first
abbrev pub actors : World → List ActorId
actors w = numbered client (length w.clients) ++ numbered target (length w.targets)

-- ---- letters

-- how many letters are in flight to an actor
abbrev pub count_to : ActorId → List Letter → ℕ
count_to a letters = length (letters_to a letters)

-- of how many a client hears one in its next turn: of none where it skips it
abbrev pub heard_awake : ClientState → ℕ → ℕ
heard_awake c count = if nat_lt 0 c.skip then 0 else count

abbrev pub heard_by_client : ℕ → Option ClientState → ℕ
heard_by_client count None = 0
heard_by_client count (Some c) = heard_awake c count

-- of how many letters in flight to it an actor hears one in its next turn
abbrev pub heard : World → ActorId → ℕ
heard w a = if a.client then heard_by_client (count_to a w.messages) (slice_get w.clients a.number) else count_to a w.messages

-- ---- who has something to do

-- a client has something to do: it skips, a letter is in flight to it, or it neither waits nor is done
abbrev pub is_client_due : ClientPlan → ClientState → ℕ → Bool
is_client_due p c count = nat_lt 0 c.skip || nat_lt 0 count || not (waits c || is_done p c)

-- one that is stopped opens again, and one that is given up does nothing more
abbrev pub is_due_where : Life → Bool → Bool
is_due_where Running busy = busy
is_due_where Stopped busy = true
is_due_where Down busy = false

-- a target has something to do: it opens again; or it runs, and a letter is in flight to it, or it has idle work, which isn't the same in
-- the settling phase
abbrev pub is_target_due : Bool → TargetPlan → TargetState → ℕ → Bool
is_target_due settling t s count = is_due_where s.life (nat_lt 0 count || has_idle settling t s.memory s.durable)

abbrev pub if_client_due : ClientPlan → ℕ → Option ClientState → Bool
if_client_due p count None = false
if_client_due p count (Some c) = is_client_due p c count

abbrev pub if_target_due : Bool → TargetPlan → ℕ → Option TargetState → Bool
if_target_due settling t count None = false
if_target_due settling t count (Some s) = is_target_due settling t s count

-- an actor has something to do, in the settling phase or before it
abbrev pub is_due : Bool → Rules → World → ActorId → Bool
is_due settling r w a =
    if a.client then if_client_due (client_plan r a.number) (count_to a w.messages) (slice_get w.clients a.number)
    else if_target_due settling (target_plan r a.number) (count_to a w.messages) (slice_get w.targets a.number)

-- the actors that have something to do, clients first, each kind in order of number
abbrev pub due : Bool → Rules → World → List ActorId
due settling r w = filter (is_due settling r w) (actors w)

-- a number below so many, by the one drawn after x; where there is none, none is drawn
abbrev pub pick : ℕ → ℕ → ℕ
pick x many = if many == 0 then 0 else drawn x % many

-- what was drawn last then
abbrev pub after_pick : ℕ → ℕ → ℕ
after_pick x many = if many == 0 then x else drawn x

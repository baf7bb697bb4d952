-- Each move of a client that goes on keeps that it was told what was served.
use Rattle.std.specs.Prelude.{ℕ, ◌≡◌, ◌+◌, Bool, true, false, ◌&&◌, nat_lt, List, [], ◌∷◌, slice_get, is_some, All, Option, Some, None, refl, if◌then◌else◌}
use Rattle.std.proofs.Common.{sym, ◌∙◌, ap, subst}
use Rattle.std.proofs.lemmas.List.Elements.{All-cons, All-nil}
use Rattle.base_types.specs.declared.epoch.Epoch.{Epoch}
use Rattle.base_types.specs.declared.id.AttemptId.{AttemptId}
use Rattle.base_types.specs.declared.operation.MinorWrite.{MinorWrite}
use Rattle.base_types.specs.declared.operation.Op.{Op}
use Rattle.base_types.specs.declared.operation.Read.{Read}
use Rattle.base_types.specs.declared.outcome.Outcome.{Outcome}
use Rattle.base_types.specs.declared.outcome.Outcome.TheVariants as outcome
use Rattle.base_types.specs.declared.report.Attempt.{Attempt}
use Rattle.base_types.specs.declared.script.Command.{Command}
use Rattle.base_types.specs.declared.script.Command.TheVariants.{Run, Snap, Aggregate, Tell, Skip}
use Rattle.daos_model.specs.Accesses.{minor_writes}
use Rattle.daos_model.specs.Attempts.{is_restart, snapshot_of_command}
use Rattle.daos_model.specs.Transactions.{ops_of, ops_or_none}
use Rattle.world_commit.specs.world_base.declared.client.ClientPlan.{ClientPlan}
use Rattle.world_commit.specs.world_base.declared.client.ClientState.{ClientState}
use Rattle.world_commit.specs.world_base.declared.client.Present.{Present}
use Rattle.world_commit.specs.world_base.declared.client.Stage.{Stage}
use Rattle.world_commit.specs.world_base.declared.client.Stage.TheVariants as stage
use Rattle.world_commit.specs.world_base.ClientTurns.{Move, after_end, asks_or_goes, at_present, attempt_id, attempt_moves, begins_at, begun, command_at, command_moves, commits, ends, first_epoch, moved, moves_at, next_command, next_place, next_stage, op_moves, question, rests, run_moves, waits}
use Rattle.world_commit.specs.world_letters.clients.Answered.{ops_here, ops_numbered}
use Rattle.world_commit.specs.world_letters.clients.AnswerLaws.{ops-here}
use Rattle.world_commit.specs.world_letters.clients.MoveLaws.{is-at, tells-end, tells-nothing, told_end}
use Rattle.world_commit.specs.world_letters.clients.Standing.{HasTold, tells}
use Rattle.world_contents.specs.gots.Gots.{AreServed, Found, IsFound, IsGot, IsServedSoFar, IsTold, Nothing}
use Rattle.world_commit.specs.attempts.History.{History}

-- ---- what a move keeps

-- what a client's present attempt was told was served to it
abbrev pub IsServedHere : History → ClientPlan → ClientState → Option Present → Type 0
IsServedHere h p c None = Unit {0}
IsServedHere h p c (Some a) = IsServedSoFar h (attempt_id p c a) p.targets (ops_here p c) a

-- an attempt of which it tells is its own, and what that was told was served to it
pub record IsToldServed (h : History) (p : ClientPlan) (a : Attempt) : Type 0 where
  pub own : a.id.client ≡ p.number
  pub served : AreServed h a.id p.targets (ops_numbered p a.id.command) a.epoch a.gots a.conds

-- a move after which this holds
pub record KeepsGots (h : History) (p : ClientPlan) (m : Move) : Type 0 where
  pub here : IsServedHere h p m.state m.state.present
  pub told : All (IsToldServed h p) (tells m)

-- a move without a line
pub silent-gots : (h : History) (p : ClientPlan) (m : Move) → m.line ≡ None → IsServedHere h p m.state m.state.present → KeepsGots h p m
silent-gots h p m e k = record { here = k; told = subst (All (IsToldServed h p)) (sym (tells-nothing m e)) (All-nil (IsToldServed h p)) }

-- a client is at a command, which is the one of its number
pub record IsAtCommand (p : ClientPlan) (c : ClientState) (d : Command) : Type 0 where
  pub at : command_at p c ≡ Some d
  pub numbers : ops_numbered p c.command ≡ ops_of d

-- and at an attempt that was told what was served
pub record Here (h : History) (p : ClientPlan) (c : ClientState) (d : Command) (a : Present) : Type 0 where
  pub at : IsAtCommand p c d
  pub served : IsServedSoFar h (attempt_id p c a) p.targets (ops_of d) a

-- ---- an attempt ends

nothing-served : (h : History) (x : AttemptId) (targets : ℕ) (ops : List Op) (known : Option Epoch) → AreServed h x targets ops known [] []
nothing-served h x targets ops known = record { gots = All-nil (IsGot h x targets ops known); conds = All-nil (IsTold h x targets ops known) }

begun-served : (h : History) (x : AttemptId) (targets : ℕ) (ops : List Op) (n : ℕ) (first e : Option Epoch) → IsServedSoFar h x targets ops (begun n first e)
begun-served h x targets ops n first e = record { told = nothing-served h x targets ops e; found = Nothing refl refl }

after-end-served : (h : History) (p : ClientPlan) (c : ClientState) (o : Option Command) (a : Present) (how : Outcome) → IsServedHere h p (after_end p c o a how) (after_end p c o a how).present
after-end-served h p c None a how = tt
after-end-served h p c (Some d) a how = by (is_restart how && nat_lt (a.attempt + 1) p.attempts)
  where
    next : ClientState
    next = at_present (begun (a.attempt + 1) a.first (first_epoch c.known (snapshot_of_command d))) c

    by : (b : Bool) → IsServedHere h p (if b then next else next_command c) (if b then next else next_command c).present
    by true = begun-served h (attempt_id p next (begun (a.attempt + 1) a.first (first_epoch c.known (snapshot_of_command d)))) p.targets (ops_here p next) (a.attempt + 1) a.first (first_epoch c.known (snapshot_of_command d))
    by false = tt

pub ends-told : (h : History) (p : ClientPlan) (c : ClientState) (a : Present) (how : Outcome) → AreServed h (attempt_id p c a) p.targets (ops_numbered p c.command) a.epoch a.gots a.conds
    → KeepsGots h p (ends p c a how)
ends-told h p c a how s = record {
  here = after-end-served h p c (command_at p c) a how;
  told = subst (All (IsToldServed h p)) (sym (tells-end p c a how)) (All-cons (IsToldServed h p) (told_end p c a how) [] (record { own = refl; served = s }) (All-nil (IsToldServed h p)));
}

pub ends-gots : (h : History) (p : ClientPlan) (c : ClientState) (d : Command) (a : Present) (how : Outcome) → IsAtCommand p c d → AreServed h (attempt_id p c a) p.targets (ops_of d) a.epoch a.gots a.conds
    → KeepsGots h p (ends p c a how)
ends-gots h p c d a how k s = ends-told h p c a how (subst (λ ops. AreServed h (attempt_id p c a) p.targets ops a.epoch a.gots a.conds) (sym k.numbers) s)

-- ---- an attempt goes on

-- a move that leaves the client at the same command, at an attempt that was told what was served
pub stays : (h : History) (p : ClientPlan) (c : ClientState) (d : Command) (b : Present) (m : Move) → IsAtCommand p c d → m.line ≡ None → m.state.place ≡ c.place → m.state.command ≡ c.command
    → m.state.present ≡ Some b → IsServedSoFar h (attempt_id p c b) p.targets (ops_of d) b → KeepsGots h p m
stays h p c d b m k line place command present s = silent-gots h p m line (rw (present, place, command) (rw (k.at) s))

pub waits-served : (h : History) (x : AttemptId) (targets : ℕ) (ops : List Op) (b : Bool) (a : Present) → IsServedSoFar h x targets ops a → IsServedSoFar h x targets ops (record a { waits = b })
waits-served h x targets ops b a s = record { told = s.told; found = by s.found }
  where
    by : IsFound h x targets ops a → IsFound h x targets ops (record a { waits = b })
    by (Nothing g f) = Nothing g f
    by (Found op read at asks low j) = Found op read at asks low j

pub waits-gots : (h : History) (p : ClientPlan) (c : ClientState) (d : Command) (a : Present) (m : Move) → Here h p c d a → m.line ≡ None → m.state ≡ at_present (record a { waits = true }) c → KeepsGots h p m
waits-gots h p c d a m k line state =
    stays h p c d (record a { waits = true }) m k.at line (ap (λ s. s.place) state) (ap (λ s. s.command) state) (ap (λ s. s.present) state) (waits-served h (attempt_id p c a) p.targets (ops_of d) true a k.served)

commits-gots : (h : History) (p : ClientPlan) (c : ClientState) (d : Command) (a : Present) (ws : List MinorWrite) → Here h p c d a → KeepsGots h p (commits p c a ws)
commits-gots h p c d a [] k = ends-gots h p c d a outcome.Committed k.at k.served.told
commits-gots h p c d a (w ∷ ws) k = waits-gots h p c d a (commits p c a (w ∷ ws)) k refl refl

-- before its first stage nothing is found of an operation
skip-served : (h : History) (x : AttemptId) (targets : ℕ) (ops : List Op) (a : Present) → a.stage ≡ stage.Skip → IsServedSoFar h x targets ops a → IsServedSoFar h x targets ops (record a { stage = stage.Cond })
skip-served h x targets ops a st s = record { told = s.told; found = by s.found }
  where
    by : IsFound h x targets ops a → IsFound h x targets ops (record a { stage = stage.Cond })
    by (Nothing g f) = Nothing g f
    by (Found op read at asks low j) = let e : question stage.Skip op ≡ Some read = ap (λ z. question z op) (sym st) ∙ asks in let no : ⊥ = cc in absurd no

-- a stage is over, at which nothing was asked
next-served : (h : History) (x : AttemptId) (targets : ℕ) (ops : List Op) (a : Present) (s : Stage) → a.stage ≡ s → IsServedSoFar h x targets ops a → IsServedSoFar h x targets ops (next_stage s a)
next-served h x targets ops a stage.Skip st k = skip-served h x targets ops a st k
next-served h x targets ops a stage.Cond st k = record { told = k.told; found = Nothing refl refl }
next-served h x targets ops a stage.Act st k = record { told = k.told; found = Nothing refl refl }

next-attempt : (s : Stage) (p : ClientPlan) (c : ClientState) (a : Present) → attempt_id p c a ≡ attempt_id p c (next_stage s a)
next-attempt stage.Skip p c a = refl
next-attempt stage.Cond p c a = refl
next-attempt stage.Act p c a = refl

pub next-gots : (h : History) (p : ClientPlan) (c : ClientState) (d : Command) (a : Present) (s : Stage) (m : Move) → a.stage ≡ s → Here h p c d a → m.line ≡ None → m.state.place ≡ c.place
    → m.state.command ≡ c.command → m.state.present ≡ Some (next_stage s a) → KeepsGots h p m
next-gots h p c d a s m st k line place command present =
    stays h p c d (next_stage s a) m k.at line place command present
    (subst (λ x. IsServedSoFar h x p.targets (ops_of d) (next_stage s a)) (next-attempt s p c a) (next-served h (attempt_id p c a) p.targets (ops_of d) a s st k.served))

asks-gots : (h : History) (p : ClientPlan) (c : ClientState) (d : Command) (a : Present) (snapshot : Bool) (o : Option Read) → Here h p c d a → KeepsGots h p (asks_or_goes p c a snapshot o)
asks-gots h p c d a snapshot None k = next-gots h p c d a a.stage (asks_or_goes p c a snapshot None) refl k refl refl refl refl
asks-gots h p c d a snapshot (Some r) k = waits-gots h p c d a (asks_or_goes p c a snapshot (Some r)) k refl refl

op-gots : (h : History) (p : ClientPlan) (c : ClientState) (d : Command) (a : Present) (ops : List Op) (snapshot : Bool) (o : Option Op) → Here h p c d a → KeepsGots h p (op_moves p c a ops snapshot o)
op-gots h p c d a ops snapshot None k = commits-gots h p c d a (minor_writes 0 ops) k
op-gots h p c d a ops snapshot (Some op) k = asks-gots h p c d a snapshot (question a.stage op) k

run-gots : (h : History) (p : ClientPlan) (c : ClientState) (d : Command) (a : Present) (ops : List Op) (turns : List ℕ) (snapshot : Bool) (s : Stage) → a.stage ≡ s → Here h p c d a
    → KeepsGots h p (run_moves p c a ops turns snapshot s)
run-gots h p c d a ops turns snapshot stage.Skip st k = next-gots h p c d a stage.Skip (run_moves p c a ops turns snapshot stage.Skip) st k refl refl refl refl
run-gots h p c d a ops turns snapshot stage.Cond st k = op-gots h p c d a ops snapshot (slice_get ops a.op) k
run-gots h p c d a ops turns snapshot stage.Act st k = op-gots h p c d a ops snapshot (slice_get ops a.op) k

rests-gots : (h : History) (p : ClientPlan) (c : ClientState) (d : Command) (a : Present) (m : Move) → Here h p c d a → c.present ≡ Some a → m.line ≡ None → m.state ≡ c → KeepsGots h p m
rests-gots h p c d a m k here line state = stays h p c d a m k.at line (ap (λ s. s.place) state) (ap (λ s. s.command) state) (ap (λ s. s.present) state ∙ here) k.served

attempt-gots : (h : History) (p : ClientPlan) (c : ClientState) (d : Command) (a : Present) → Here h p c d a → c.present ≡ Some a → KeepsGots h p (attempt_moves p c a d)
attempt-gots h p c (Run ops turns snapshot) a k here = run-gots h p c (Run ops turns snapshot) a ops turns (is_some snapshot) a.stage refl k
attempt-gots h p c (Snap name cont) a k here = waits-gots h p c (Snap name cont) a (attempt_moves p c a (Snap name cont)) k refl refl
attempt-gots h p c (Aggregate cont) a k here = waits-gots h p c (Aggregate cont) a (attempt_moves p c a (Aggregate cont)) k refl refl
attempt-gots h p c (Tell client) a k here = rests-gots h p c (Tell client) a (rests c) k here refl refl
attempt-gots h p c (Skip turns) a k here = rests-gots h p c (Skip turns) a (rests c) k here refl refl

-- ---- commands begin

begins-gots : (h : History) (p : ClientPlan) (c : ClientState) (snapshot : Option (List ℕ)) (e : Option Epoch) → KeepsGots h p (begins_at p c snapshot e)
begins-gots h p c None e = silent-gots h p (begins_at p c None e) refl (begun-served h _ p.targets _ 0 None None)
begins-gots h p c (Some name) None = ends-told h p c (begun 0 None None) outcome.NoSnapshot (nothing-served h _ p.targets _ None)
begins-gots h p c (Some name) (Some e) = silent-gots h p (begins_at p c (Some name) (Some e)) refl (begun-served h _ p.targets _ 0 None (Some e))

none-here : (h : History) (p : ClientPlan) (c : ClientState) (present : Option Present) → present ≡ None → IsServedHere h p c present
none-here h p c present e = subst (λ o. IsServedHere h p c o) (sym e) tt

command-gots : (h : History) (p : ClientPlan) (c : ClientState) (d : Command) → c.present ≡ None → KeepsGots h p (command_moves p c d)
command-gots h p c (Run ops turns snapshot) none = begins-gots h p c snapshot (first_epoch c.known snapshot)
command-gots h p c (Snap name cont) none = begins-gots h p c None (first_epoch c.known None)
command-gots h p c (Aggregate cont) none = begins-gots h p c None (first_epoch c.known None)
command-gots h p c (Tell client) none = silent-gots h p (command_moves p c (Tell client)) refl (none-here h p (next_place c) c.present none)
command-gots h p c (Skip turns) none = silent-gots h p (command_moves p c (Skip turns)) refl (none-here h p (command_moves p c (Skip turns)).state c.present none)

-- ---- going on

-- where a client's lines have told so far, it is at the command of its number
pub at-command : (h : History) (p : ClientPlan) (c : ClientState) (a : Present) (attempts : List Attempt) → HasTold p c attempts → c.present ≡ Some a → IsServedHere h p c c.present → (d : Command) × Here h p c d a
at-command h p c a attempts told here s =
    let k = is-at p c a attempts here told in
    let served : IsServedSoFar h (attempt_id p c a) p.targets (ops_here p c) a = subst (λ o. IsServedHere h p c o) here s in (
      k.0,
      record {
        at = record { at = k.1.at; numbers = ops-here p c k.0 a attempts k.1 };
        served = subst (λ o. IsServedSoFar h (attempt_id p c a) p.targets (ops_or_none o) a) k.1.at served;
      },
    )

moves-at-gots : (h : History) (p : ClientPlan) (c : ClientState) (attempts : List Attempt) (o : Option Command) (present : Option Present) → HasTold p c attempts → IsServedHere h p c c.present → command_at p c ≡ o
    → c.present ≡ present → KeepsGots h p (moves_at p c o present)
moves-at-gots h p c attempts None present told s at e = silent-gots h p (rests c) refl s
moves-at-gots h p c attempts (Some d) None told s at e = command-gots h p c d e
moves-at-gots h p c attempts (Some d) (Some a) told s at e =
    let k = at-command h p c a attempts told e s in
    let same : Some d ≡ Some k.0 = sym at ∙ k.1.at.at in
    let one : k.0 ≡ d = cc in
    attempt-gots h p c d a (subst (λ f. Here h p c f a) one k.1) e

-- each move of a client that goes on keeps that it was told what was served
pub moved-gots : (h : History) (p : ClientPlan) (c : ClientState) (attempts : List Attempt) → HasTold p c attempts → IsServedHere h p c c.present → KeepsGots h p (moved p c)
unfolding moved
moved-gots h p c attempts told s = by (waits c)
  where
    by : (b : Bool) → KeepsGots h p (if b then rests c else moves_at p c (command_at p c) c.present)
    by true = silent-gots h p (rests c) refl s
    by false = moves-at-gots h p c attempts (command_at p c) c.present told s refl refl

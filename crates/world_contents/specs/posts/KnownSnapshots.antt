-- A client that reads at a snapshot knows it, and its epoch.
use Rattle.std.specs.Prelude.{ℕ, ◌≡◌, ◌+◌, ◌++◌, ◌&&◌, Bool, true, false, nat_lt, List, [], ◌∷◌, find, slice_get, Option, Some, None, refl, is_some, if◌then◌else◌}
use Rattle.std.proofs.Common.{sym, ap, subst}
use Rattle.base_types.specs.declared.answer.Answer.{Answer}
use Rattle.base_types.specs.declared.epoch.Epoch.{Epoch}
use Rattle.base_types.specs.declared.operation.Cond.{Cond}
use Rattle.base_types.specs.declared.operation.MinorWrite.{MinorWrite}
use Rattle.base_types.specs.declared.operation.Op.{Op}
use Rattle.base_types.specs.declared.operation.Read.{Read}
use Rattle.base_types.specs.declared.outcome.Cause.TheVariants.{Unresolved}
use Rattle.base_types.specs.declared.outcome.Outcome.{Outcome}
use Rattle.base_types.specs.declared.outcome.Outcome.TheVariants as outcome
use Rattle.base_types.specs.declared.report.Line.{Line}
use Rattle.base_types.specs.declared.script.Command.{Command}
use Rattle.base_types.specs.declared.script.Command.TheVariants.{Aggregate, Run, Skip, Snap, Tell}
use Rattle.base_messages.specs.declared.message.Message.{Message, more_of-Message}
use Rattle.base_messages.specs.declared.message.Message.TheVariants as message
use Rattle.base_messages.specs.declared.message.Post.{Post}
use Rattle.base_messages.specs.declared.message.Reply.{Reply}
use Rattle.base_messages.specs.declared.message.Reply.TheVariants as reply
use Rattle.daos_model.specs.Accesses.{minor_writes, op_path}
use Rattle.daos_model.specs.Attempts.{is_restart, snapshot_of_command}
use Rattle.daos_model.specs.Conditions.{holds_where}
use Rattle.world_commit.specs.world_base.declared.client.ClientPlan.{ClientPlan}
use Rattle.world_commit.specs.world_base.declared.client.ClientState.{ClientState}
use Rattle.world_commit.specs.world_base.declared.client.KnownSnap.{KnownSnap}
use Rattle.world_commit.specs.world_base.declared.client.Present.{Present}
use Rattle.world_commit.specs.world_base.declared.client.Stage.{Stage}
use Rattle.world_commit.specs.world_base.declared.client.Stage.TheVariants as stage
use Rattle.world_commit.specs.world_base.declared.did.Did.{Did}
use Rattle.world_commit.specs.world_base.ClientTurns.{ClientDid, Ended_by, Heard_on, HearTurn, Moves, NextTurn, None_yet, One_more, Skipped, Went_on, about, after_end, answered, asks_or_goes, at_present, attempt_id, attempt_moves, begins_at, begun, command_at, command_moves, commits, condition_told, ended, ends, epoch_of_known, first_epoch, goes, group_count, group_told, heard, heard_at, hears_epochs, is_about, is_known_as, is_yes, joined, known_epoch, knows, knows_epoch, moved, moves_at, next_command, next_stage, op_moves, op_of, op_told, question, replied, reset, reset_by, rests, run_moves, snaps_known, told_at, waits}

-- ---- the fact

-- the snapshot at which a command reads, if it reads at one
abbrev pub snapshot_at : Option Command → Option (List ℕ)
snapshot_at None = None
snapshot_at (Some d) = snapshot_of_command d

-- the present attempt reads at a snapshot that is known, and knows its epoch
abbrev pub KnowsIts : Option (List ℕ) → List KnownSnap → Option Present → Type 0
KnowsIts None known o = Unit {0}
KnowsIts (Some name) known None = Unit {0}
KnowsIts (Some name) known (Some a) = (is_some (known_epoch known name) ≡ true) × (is_some a.epoch ≡ true)

abbrev pub ReadsKnown : ClientPlan → ClientState → Type 0
ReadsKnown p c = KnowsIts (snapshot_at (command_at p c)) c.known c.present

-- ---- the statements

-- each turn of a client keeps it
abbrev pub ClientsKeepReadsKnown : Type 0
ClientsKeepReadsKnown = (p : ClientPlan) (c d : ClientState) (did : Did) → NextTurn p c did d → ReadsKnown p c → ReadsKnown p d

abbrev pub HearersKeepReadsKnown : Type 0
HearersKeepReadsKnown = (p : ClientPlan) (c d : ClientState) (m : Message) (did : Did) → HearTurn p c m did d → ReadsKnown p c → ReadsKnown p d

-- so it is before a client's first attempt
abbrev pub ReadsKnownBegins : Type 0
ReadsKnownBegins = (p : ClientPlan) (c : ClientState) → c.present ≡ None → ReadsKnown p c

-- ---- what is known

none-present : (o : Option (List ℕ)) (known : List KnownSnap) → KnowsIts o known None
none-present None known = tt
none-present (Some name) known = tt

-- an attempt whose epoch is as well known
as-well : (o : Option (List ℕ)) (known : List KnownSnap) (a b : Present) → (is_some a.epoch ≡ true → is_some b.epoch ≡ true) → KnowsIts o known (Some a) → KnowsIts o known (Some b)
as-well None known a b same k = tt
as-well (Some name) known a b same k = (k.0, same k.1)

-- what was known is known among more
known-more : (known more : List KnownSnap) (name : List ℕ) → is_some (known_epoch known name) ≡ true → is_some (known_epoch (known ++ more) name) ≡ true
known-more [] more name h = let no : ⊥ = cc in absurd no
known-more (k ∷ known) more name h = by (is_known_as name k) (known-more known more name) h
  where
    by : (b : Bool) → (is_some (known_epoch known name) ≡ true → is_some (known_epoch (known ++ more) name) ≡ true)
        → is_some (epoch_of_known (if b then Some k else find (is_known_as name) known)) ≡ true → is_some (epoch_of_known (if b then Some k else find (is_known_as name) (known ++ more))) ≡ true
    by true rest e = refl
    by false rest e = rest e

more-known : (o : Option (List ℕ)) (known more : List KnownSnap) (a : Present) → KnowsIts o known (Some a) → KnowsIts o (known ++ more) (Some a)
more-known None known more a k = tt
more-known (Some name) known more a k = (known-more known more name k.0, k.1)

-- the snapshot that was made is known besides
snaps-known : (o : Option (List ℕ)) (d : Option Command) (e : Option Epoch) (how : Outcome) (known : List KnownSnap) (a : Present) → KnowsIts o known (Some a) → KnowsIts o (snaps_known d e how known) (Some a)
snaps-known o (Some (Snap name cont)) (Some e) outcome.Committed known a k = more-known o known _ a k
snaps-known o (Some (Snap name cont)) (Some e) (outcome.CondFailed op) known a k = k
snaps-known o (Some (Snap name cont)) (Some e) (outcome.Restart cause) known a k = k
snaps-known o (Some (Snap name cont)) (Some e) (outcome.NoSpace target need free) known a k = k
snaps-known o (Some (Snap name cont)) (Some e) outcome.EpochsSpent known a k = k
snaps-known o (Some (Snap name cont)) (Some e) outcome.NoSnapshot known a k = k
snaps-known o (Some (Snap name cont)) (Some e) (outcome.Unknown target) known a k = k
snaps-known o (Some (Snap name cont)) None how known a k = k
snaps-known o (Some (Run ops turns snapshot)) e how known a k = k
snaps-known o (Some (Aggregate cont)) e how known a k = k
snaps-known o (Some (Tell client)) e how known a k = k
snaps-known o (Some (Skip turns)) e how known a k = k
snaps-known o None e how known a k = k

-- a further attempt of its command begins so
begun-known : (o : Option (List ℕ)) (known : List KnownSnap) (a : Present) (n : ℕ) (first : Option Epoch) → KnowsIts o known (Some a) → KnowsIts o known (Some (begun n first (first_epoch known o)))
begun-known None known a n first k = tt
begun-known (Some name) known a n first k = (k.0, k.0)

-- ---- an attempt ends

module _ (p : ClientPlan) where
  after-known : (c : ClientState) (d : Option Command) (a : Present) (how : Outcome) → command_at p c ≡ d → KnowsIts (snapshot_at d) c.known (Some a) → ReadsKnown p (after_end p c d a how)
  after-known c None a how at k = none-present (snapshot_at (command_at p (next_command c))) c.known
  after-known c (Some d) a how at k = by (is_restart how && nat_lt (a.attempt + 1) p.attempts)
    where
      again : Present
      again = begun (a.attempt + 1) a.first (first_epoch c.known (snapshot_of_command d))

      by : (b : Bool) → ReadsKnown p (if b then at_present again c else next_command c)
      by true = subst (λ o. KnowsIts (snapshot_at o) c.known (Some again)) (sym at) (begun-known (snapshot_of_command d) c.known a (a.attempt + 1) a.first k)
      by false = none-present (snapshot_at (command_at p (next_command c))) c.known

  -- of an attempt that knows its snapshot
  ends-known : (c : ClientState) (a : Present) (how : Outcome) → KnowsIts (snapshot_at (command_at p c)) c.known (Some a) → ReadsKnown p (ends p c a how).state
  ends-known c a how k = after-known c (command_at p c) a how refl k

  -- ---- a move

  stage-known : (c : ClientState) (s : Stage) (a : Present) → KnowsIts (snapshot_at (command_at p c)) c.known (Some a) → KnowsIts (snapshot_at (command_at p c)) c.known (Some (next_stage s a))
  stage-known c stage.Skip a k = as-well (snapshot_at (command_at p c)) c.known a (next_stage stage.Skip a) (λ h. h) k
  stage-known c stage.Cond a k = as-well (snapshot_at (command_at p c)) c.known a (next_stage stage.Cond a) (λ h. h) k
  stage-known c stage.Act a k = as-well (snapshot_at (command_at p c)) c.known a (next_stage stage.Act a) (λ h. h) k

  module _ (c : ClientState) (a : Present) (k : KnowsIts (snapshot_at (command_at p c)) c.known (Some a)) where
    commits-known : (ws : List MinorWrite) → ReadsKnown p (commits p c a ws).state
    commits-known [] = ends-known c a outcome.Committed k
    commits-known (w ∷ ws) = as-well (snapshot_at (command_at p c)) c.known a (record a { waits = true }) (λ h. h) k

    asks-known : (snapshot : Bool) (r : Option Read) → ReadsKnown p (asks_or_goes p c a snapshot r).state
    asks-known snapshot None = stage-known c a.stage a k
    asks-known snapshot (Some r) = as-well (snapshot_at (command_at p c)) c.known a (record a { waits = true }) (λ h. h) k

    op-known : (ops : List Op) (snapshot : Bool) (o : Option Op) → ReadsKnown p (op_moves p c a ops snapshot o).state
    op-known ops snapshot None = commits-known (minor_writes 0 ops)
    op-known ops snapshot (Some op) = asks-known snapshot (question a.stage op)

    run-known : (ops : List Op) (turns : List ℕ) (snapshot : Bool) (s : Stage) → ReadsKnown p (run_moves p c a ops turns snapshot s).state
    run-known ops turns snapshot stage.Skip = stage-known c stage.Skip a k
    run-known ops turns snapshot stage.Cond = op-known ops snapshot (slice_get ops a.op)
    run-known ops turns snapshot stage.Act = op-known ops snapshot (slice_get ops a.op)

    attempt-known : (d : Command) → c.present ≡ Some a → ReadsKnown p (attempt_moves p c a d).state
    attempt-known (Run ops turns snapshot) here = run-known ops turns (is_some snapshot) a.stage
    attempt-known (Snap name cont) here = as-well (snapshot_at (command_at p c)) c.known a (record a { waits = true }) (λ h. h) k
    attempt-known (Aggregate cont) here = as-well (snapshot_at (command_at p c)) c.known a (record a { waits = true }) (λ h. h) k
    attempt-known (Tell client) here = subst (KnowsIts (snapshot_at (command_at p c)) c.known) (sym here) k
    attempt-known (Skip turns) here = subst (KnowsIts (snapshot_at (command_at p c)) c.known) (sym here) k

  -- a command that reads at a snapshot begins where that is known
  begins-known : (c : ClientState) (o : Option (List ℕ)) → snapshot_at (command_at p c) ≡ o → ReadsKnown p (begins_at p c o (first_epoch c.known o)).state
  begins-known c None at = subst (λ z. KnowsIts z c.known (Some (begun 0 None None))) (sym at) tt
  begins-known c (Some name) at = by (known_epoch c.known name) refl
    where
      by : (e : Option Epoch) → known_epoch c.known name ≡ e → ReadsKnown p (begins_at p c (Some name) e).state
      by None none = after-none (command_at p c)
        where
          after-none : (d : Option Command) → ReadsKnown p (after_end p c d (begun 0 None None) outcome.NoSnapshot)
          after-none None = none-present (snapshot_at (command_at p (next_command c))) c.known
          after-none (Some d) = none-present (snapshot_at (command_at p (next_command c))) c.known
      by (Some e) some = subst (λ z. KnowsIts z c.known (Some (begun 0 None (Some e)))) (sym at) (ap is_some some, refl)

  idle-known : (c d : ClientState) → d.present ≡ None → ReadsKnown p d
  idle-known c d none = subst (KnowsIts (snapshot_at (command_at p d)) d.known) (sym none) (none-present (snapshot_at (command_at p d)) d.known)

  command-known : (c : ClientState) (d : Command) → command_at p c ≡ Some d → c.present ≡ None → ReadsKnown p (command_moves p c d).state
  command-known c (Run ops turns snapshot) at none = begins-known c snapshot (ap snapshot_at at)
  command-known c (Snap name cont) at none = begins-known c None (ap snapshot_at at)
  command-known c (Aggregate cont) at none = begins-known c None (ap snapshot_at at)
  command-known c (Tell client) at none = idle-known c (command_moves p c (Tell client)).state none
  command-known c (Skip turns) at none = idle-known c (command_moves p c (Skip turns)).state none

  moves-known : (c : ClientState) (o : Option Command) (present : Option Present) → command_at p c ≡ o → c.present ≡ present → ReadsKnown p c → ReadsKnown p (moves_at p c o present).state
  moves-known c None present at here k = k
  moves-known c (Some d) None at here k = command-known c d at here
  moves-known c (Some d) (Some a) at here k = attempt-known c a (subst (KnowsIts (snapshot_at (command_at p c)) c.known) here k) d here

  moved-known : (c : ClientState) → ReadsKnown p c → ReadsKnown p (moved p c).state
  unfolding moved
  moved-known c k = by (waits c)
    where
      by : (b : Bool) → ReadsKnown p (if b then rests c else moves_at p c (command_at p c) c.present).state
      by true = k
      by false = moves-known c (command_at p c) c.present refl refl k

  -- ---- a turn

  pub all-known : (c : ClientState) (posts : List Post) (lines : List Line) (d : ClientState) → Moves p c posts lines d → ReadsKnown p c → ReadsKnown p d
  all-known c posts lines d None_yet k = k
  all-known c posts lines d (One_more sent told e before goes-on) k = moved-known e (all-known c sent told e before k)

  did-known : (c d : ClientState) (did : Did) → ClientDid p c did d → ReadsKnown p c → ReadsKnown p d
  did-known c d did g k = subst (ReadsKnown p) (sym g.goes_on.reached) (moved-known g.goes_on.last (all-known c g.goes_on.sent g.goes_on.told g.goes_on.last g.goes_on.moves k))

  -- ---- hearing

  module _ (c : ClientState) (a : Present) (k : KnowsIts (snapshot_at (command_at p c)) c.known (Some a)) where
    condition-known : (cond : Cond) (there : Bool) → ReadsKnown p (condition_told p c a cond there).state
    condition-known cond there = by (holds_where there cond)
      where
        told : Present
        told = record a { conds = a.conds ++ (a.op, there) ∷ [] }

        by : (b : Bool) → ReadsKnown p (if b then goes (at_present (next_stage stage.Cond told) c) else ends p c told (outcome.CondFailed a.op)).state
        by true = as-well (snapshot_at (command_at p c)) c.known a (next_stage stage.Cond told) (λ h. h) k
        by false = ends-known c told (outcome.CondFailed a.op) (as-well (snapshot_at (command_at p c)) c.known a told (λ h. h) k)

    told-known : (cond : Cond) (s : Stage) (b : Answer) → ReadsKnown p (told_at p c a cond s b).state
    told-known cond stage.Skip b = k
    told-known cond stage.Cond b = condition-known cond (is_yes b)
    told-known cond stage.Act b = as-well (snapshot_at (command_at p c)) c.known a _ (λ h. h) k

    group-known : (op : Op) (b : Answer) → ReadsKnown p (group_told p c a op b).state
    group-known op b = by (nat_lt (a.group + 1) (group_count (op_path op).obj (op_path op).dkey p.targets))
      where
        more : Present
        more = record a { group = a.group + 1; found = Some (joined a.found b) }

        by : (l : Bool) → ReadsKnown p (if l then goes (at_present more c) else told_at p c a op.cond a.stage (joined a.found b)).state
        by true = as-well (snapshot_at (command_at p c)) c.known a more (λ h. h) k
        by false = told-known op.cond a.stage (joined a.found b)

    op-told-known : (b : Answer) (o : Option Op) → ReadsKnown p (op_told p c a b o).state
    op-told-known b None = k
    op-told-known b (Some op) = group-known op b

    replied-known : (r : Reply) → ReadsKnown p (replied p c a r).state
    replied-known (reply.Answer b) = op-told-known b (op_of (command_at p c) a.op)
    replied-known (reply.Outcome how) = ends-known c a how k

    ended-known : (e : Option Epoch) (how : Outcome) → ReadsKnown p (ended p c a e how).state
    ended-known e how = ends-known (record c { known = snaps_known (command_at p c) e how c.known }) a how (snaps-known (snapshot_at (command_at p c)) (command_at p c) e how c.known a k)

    reset-known : (t : ℕ) (m : Message) → ReadsKnown p (reset p c a t m).state
    reset-known t (message.Commit x e first tracker ws) = as-well (snapshot_at (command_at p c)) c.known a (record a { waits = true }) (λ h. h) k
    reset-known t (message.Ask x) = as-well (snapshot_at (command_at p c)) c.known a (record a { waits = true }) (λ h. h) k
    reset-known t m = ends-known c a (outcome.Restart (Unresolved (attempt_id p c a))) k

    reset-by-known : (t : ℕ) (down : Bool) (m : Message) → ReadsKnown p (reset_by p c a t down m).state
    reset-by-known t false m = reset-known t m
    reset-by-known t true m = ends-known c a (outcome.Unknown t) k

  -- an epoch that is known stays so
  epoch-kept : (e : Option Epoch) (a : Present) → is_some a.epoch ≡ true → is_some (knows e a).epoch ≡ true
  epoch-kept e a = by a.epoch
    where
      by : (o : Option Epoch) → is_some o ≡ true → is_some (knows_epoch o e) ≡ true
      by None h = let no : ⊥ = cc in absurd no
      by (Some own) h = h

  answered-known : (c : ClientState) (a : Present) (m : Message) → c.present ≡ Some a → KnowsIts (snapshot_at (command_at p c)) c.known (Some a) → ReadsKnown p (answered p c a m).state
  answered-known c a (message.Fetched x op group e r) here k = replied-known c (knows e a) (as-well (snapshot_at (command_at p c)) c.known a (knows e a) (epoch-kept e a) k) r
  answered-known c a (message.Ended x e how) here k = ended-known c (knows e a) (as-well (snapshot_at (command_at p c)) c.known a (knows e a) (epoch-kept e a) k) e how
  answered-known c a (message.Reset' t down place (more_of-Message m rest)) here k = reset-by-known c (record a { waits = false }) (as-well (snapshot_at (command_at p c)) c.known a (record a { waits = false }) (λ h. h) k) t down m
  answered-known c a m here k = subst (KnowsIts (snapshot_at (command_at p c)) c.known) (sym here) k

  pub heard-known : (c : ClientState) (m : Message) → ReadsKnown p c → ReadsKnown p (heard p c m).state
  unfolding heard
  heard-known c m k = by c.present refl
    where
      now : ClientState
      now = hears_epochs m c

      by : (o : Option Present) → c.present ≡ o → ReadsKnown p (heard_at p now m o).state
      by None here = k
      by (Some a) here = if-so (a.waits && is_about (attempt_id p now a) (about m))
        where
          if-so : (b : Bool) → ReadsKnown p (if b then answered p now a m else goes now).state
          if-so true = answered-known now a m here (subst (KnowsIts (snapshot_at (command_at p c)) c.known) here k)
          if-so false = k

-- ---- the laws

pub clients-keep-reads_known : ClientsKeepReadsKnown
clients-keep-reads_known p c d did (Skipped skips none counted) k = subst (ReadsKnown p) (sym counted) k
clients-keep-reads_known p c d did (Went_on awake g) k = did-known p c d did g k

pub hearers-keep-reads_known : HearersKeepReadsKnown
hearers-keep-reads_known p c d m did (Ended_by over posts state) k = subst (ReadsKnown p) (sym state) (heard-known p c m k)
hearers-keep-reads_known p c d m did (Heard_on rest goes-on g both) k = did-known p (heard p c m).state d rest g (heard-known p c m k)

pub reads-known-begin : ReadsKnownBegins
reads-known-begin p c none = subst (KnowsIts (snapshot_at (command_at p c)) c.known) (sym none) (none-present (snapshot_at (command_at p c)) c.known)

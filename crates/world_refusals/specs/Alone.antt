-- A client that is alone hears of no restart, where nothing stopped: what it is told shows its cause, and none is there.
use Rattle.std.specs.Prelude.{ℕ, ◌≡◌, ◌⊎◌, ◌≤◌, ◌<◌, ◌==◌, ◌||◌, Bool, true, false, not, is_some, Any, List, [], ◌∷◌, length, slice_get, Contains, Option, Some, None, refl}
use Rattle.std.proofs.Common.{inl, inr, sym, ◌∙◌, ap, subst, arith}
use Rattle.std.proofs.lemmas.Option.{slice_get_within}
use Rattle.base_types.specs.declared.epoch.Epoch.{Epoch}
use Rattle.base_types.specs.declared.id.AttemptId.{AttemptId}
use Rattle.base_types.specs.declared.id.ContId.{ContId}
use Rattle.base_types.specs.declared.operation.MinorWrite.{MinorWrite}
use Rattle.base_types.specs.declared.outcome.Cause.{Cause}
use Rattle.base_types.specs.declared.outcome.Cause.TheVariants as cause
use Rattle.base_types.specs.declared.outcome.FloorWhy.{FloorWhy}
use Rattle.base_types.specs.declared.outcome.FloorWhy.TheVariants as why
use Rattle.base_types.specs.declared.outcome.Outcome.{Outcome}
use Rattle.base_types.specs.declared.outcome.Outcome.TheVariants as outcome
use Rattle.base_types.specs.declared.report.Attempt.{Attempt}
use Rattle.base_types.specs.declared.report.Line.{Line}
use Rattle.base_types.specs.declared.report.Line.TheVariants as line
use Rattle.base_types.specs.declared.script.Command.{Command}
use Rattle.base_types.specs.declared.script.Command.TheVariants.{Aggregate, Run, Skip, Snap, Tell}
use Rattle.base_types.specs.Operations.{write_path}
use Rattle.base_types.specs.Paths.{overlaps}
use Rattle.base_types.specs.Scripts.{IsInForm}
use Rattle.base_messages.specs.declared.message.Message.{Message, more_of-Message}
use Rattle.base_messages.specs.declared.message.Message.TheVariants as message
use Rattle.base_messages.specs.declared.message.Reply.TheVariants as reply
use Rattle.daos_model.specs.Accesses.{access_paths, attempt_targets}
use Rattle.daos_model.specs.Attempts.{is_lost, is_of_client, is_restart, is_unknown, is_unsure, snapshot_or_none, tries, up_to_last_of}
use Rattle.daos_model.specs.BoolLaws.{clash}
use Rattle.daos_model.specs.CausesShown.{ShowsFloor, StopsAfter, leader_of_attempt}
use Rattle.daos_model.specs.Durables.{same_attempt}
use Rattle.daos_model.specs.EntryLaws.{same_attempt-itself}
use Rattle.daos_model.specs.Opening.{Opening, top}
use Rattle.daos_model.specs.Stops.{is_at, stop_numbers}
use Rattle.daos_model.specs.Transactions.{attempt_ops, command_of}
use Rattle.dtx_base.specs.LeaderLaws.{same-is}
use Rattle.model_laws.specs.Lists.{any-of}
use Rattle.model_laws.specs.Members.{Has, contains-from_has, has-filter, has-from_contains, has-left}
use Rattle.model_laws.specs.TargetLaws.{same_number}
use Rattle.model_lone.specs.Refusals.{GoesWithCommand, is_unresolved, may_refuse}
use Rattle.model_lone.specs.Unstopped.{none-follows, none-stopped}
use Rattle.model_reports.specs.Lines.{StandsAt, line-of, one-of-any, up-to-has}
use Rattle.model_reports.specs.Stopless as stopless
use Rattle.model_reports.specs.Stopless.{follows_stop}
use Rattle.world_base.specs.declared.client.ClientState.{ClientState}
use Rattle.world_base.specs.declared.client.Present.{Present}
use Rattle.world_base.specs.declared.world.World.{World}
use Rattle.world_base.specs.ClientTurns.{about, attempt_id, is_about}
use Rattle.world_base.specs.Events.{ClientHears, Rules, client_plan}
use Rattle.world_upheld.specs.world_causes.causes.Causes.{Stored}
use Rattle.world_upheld.specs.world_causes.causes.HearingLaws.{LossStands, LossesStand}
use Rattle.world_upheld.specs.world_causes.causes.Shown.{IsOpenTo, IsUnknown, LeaderStopped, MeetsUnresolved, MessageStands, NotAnswered, OutcomeStands}
use Rattle.world_upheld.specs.world_commit.attempts.Attempts.{writes_of}
use Rattle.world_upheld.specs.world_commit.attempts.Counting.{has-taken}
use Rattle.world_letters.specs.clients.Snapshots.{is_at_snapshot}
use Rattle.world_letters.specs.epochs.Epochs.{Epochs, HasLine, IsIssued, IsPresent, ItsOwn}
use Rattle.world_letters.specs.lines.Lines.{Lines}
use Rattle.world_letters.specs.lives.Legal.{lives-in_order}
use Rattle.world_letters.specs.lives.Lives.{Lives}
use Rattle.world_letters.specs.snapshots.Makings.{ComesOf, Makings}
use Rattle.world_refusals.specs.Commands.{writer-off}
use Rattle.world_refusals.specs.Hearing.{HearsNoRestart, TellsNoRestart, TellsNone}
use Rattle.world_refusals.specs.Telling.{AllTellFitly, TellsFitly}
use Rattle.world_upheld.specs.causing.Dates.{issued-own}
use Rattle.world_upheld.specs.causing.OverDates.{CausesOverDates, both-issued}

-- ---- what goes with commands

-- by what isn't unresolved, no read at a snapshot is refused
late-off : (d : Option Command) (c : Cause) → is_unresolved c ≡ false → may_refuse d c ≡ true → is_some (snapshot_or_none d) ≡ false
late-off None c late fit = refl
late-off (Some (Run ops skips None)) c late fit = refl
late-off (Some (Run ops skips (Some name))) c late fit = clash (is_unresolved c) fit late
late-off (Some (Snap name cont)) c late fit = refl
late-off (Some (Aggregate cont)) c late fit = refl
late-off (Some (Tell client)) c late fit = refl
late-off (Some (Skip turns)) c late fit = refl

-- no snapshot is refused by a snapshot's floor, and no aggregation by a floor
snap-unfit : (d : Option Command) (name : List ℕ) (cont : ContId) (t : ℕ) (floor e : Epoch) → d ≡ Some (Snap name cont) → may_refuse d (cause.Floor t floor (why.Snapshot e)) ≡ true → ⊥
snap-unfit d name cont t floor e is fit = let bad : false ≡ true = subst (λ z. may_refuse z (cause.Floor t floor (why.Snapshot e)) ≡ true) is fit in let no : ⊥ = cc in no

aggregate-unfit : (d : Option Command) (cont : ContId) (t : ℕ) (floor : Epoch) (n : ℕ) → d ≡ Some (Aggregate cont) → may_refuse d (cause.Floor t floor (why.Aggregate n)) ≡ true → ⊥
aggregate-unfit d cont t floor n is fit = let bad : false ≡ true = subst (λ z. may_refuse z (cause.Floor t floor (why.Aggregate n)) ≡ true) is fit in let no : ⊥ = cc in no

-- what is unknown isn't sure
not-unknown : (y : AttemptId) (how : Outcome) → is_unknown how ≡ true → (is_unknown how || is_lost y how) ≡ false → ⊥
not-unknown y (outcome.Unknown target) is sure = let no : ⊥ = cc in no
not-unknown y how is sure = let no : ⊥ = cc in no

-- ---- at a moment of a run of one client

module _ (r : Rules) (o : Opening) (stored : Stored) (w : World) (form : IsInForm r.script.targets r.script) (one : length w.clients ≡ 1) (unstopped : stop_numbers w.lines ≡ []) (lives : Lives w) (E : Epochs r (top o) w) (L : Lines r w)
    (M : Makings r w) (X : CausesOverDates r o 0 stored w) (Y : CausesOverDates r o 1 stored w) (fits : AllTellFitly r w) (quiet : TellsNone w) where
  -- ---- nothing stopped

  never-after : (t : ℕ) (l : Line) → Has l w.lines → is_at t l ≡ true → follows_stop l ≡ false
  never-after t l i at = let z = (lives-in_order w lives).alternate t in none-follows w.lines t (record { none = unstopped; last = z.0; in_order = z.1 }) l i at

  never-goes : (t : ℕ) → Has (line.Down t) w.lines → ⊥
  never-goes t i = let bad : true ≡ false = never-after t (line.Down t) i (same_number t) in let no : ⊥ = cc in no

  never-opens : (n t incarnation : ℕ) (floor : Epoch) → Has (line.Restart n t incarnation floor) w.lines → ⊥
  never-opens n t incarnation floor i = let bad : true ≡ false = never-after t (line.Restart n t incarnation floor) i (same_number t) in let no : ⊥ = cc in no

  none-stops : (ts : List ℕ) (first : List Line) → StopsAfter ts first w.lines → ⊥
  none-stops ts first = stopless.none-stops ts first w.lines (none-stopped w.lines unstopped)

  -- ---- the only client

  told-client : (a : Attempt) → Has a (tries w.lines) → (c : ClientState) × (slice_get w.clients a.id.client ≡ Some c)
  told-client a i = by (slice_get w.clients a.id.client) refl
    where
      by : (z : Option ClientState) → slice_get w.clients a.id.client ≡ z → (c : ClientState) × (slice_get w.clients a.id.client ≡ Some c)
      by None e = absurd (subst (Has a) (L.nobody a.id.client e) (has-filter (is_of_client a.id.client) (tries w.lines) a i (same_number a.id.client)))
      by (Some c) e = (c, e)

  is-first : (n : ℕ) (c : ClientState) → slice_get w.clients n ≡ Some c → n ≡ 0
  is-first n c here = let within : n < length w.clients = slice_get_within w.clients n c here in omega (arith, within, one)

  only-client : (a : Attempt) → Has a (tries w.lines) → a.id.client ≡ 0
  only-client a i = let c = told-client a i in is-first a.id.client c.0 c.1

  -- it is known what became of each attempt
  is-sure : (a : Attempt) → Has a (tries w.lines) → is_unsure a ≡ false
  is-sure a i = let z = line-of w.lines a i in by z a.outcome (quiet a i) (X.causes.lines z.before a z.after z.among)
    where
      by : (z : StandsAt w.lines a) (how : Outcome) → is_restart how ≡ false → OutcomeStands r o stored X.dated z.before a.id how → (is_unknown how || is_lost a.id how) ≡ false
      by z outcome.Committed sure k = refl
      by z (outcome.CondFailed op) sure k = refl
      by z (outcome.Restart c) sure k = let no : ⊥ = cc in absurd no
      by z (outcome.NoSpace target need free) sure k = refl
      by z outcome.EpochsSpent sure k = refl
      by z outcome.NoSnapshot sure k = refl
      by z (outcome.Unknown target) sure k = absurd (never-goes target (subst (Has (line.Down target)) (sym z.among) (has-left z.before (line.Try a ∷ z.after) (line.Down target) (has-from_contains z.before (line.Down target) k.1))))

  -- ---- its attempt

  module _ (n : ℕ) (c : ClientState) (a : Present) (here : slice_get w.clients n ≡ Some c) (at : c.present ≡ Some a) where
    abbrev x : AttemptId
    x = attempt_id (client_plan r n) c a

    present : IsPresent r w x
    present = record { c = c; a = a; here = here; at = at; own = refl }

    -- no other one is present
    only-present : (y : AttemptId) → IsPresent r w y → y ≡ x
    only-present y p =
        sym p.own ∙ ap (λ m. attempt_id (client_plan r m) p.c p.a) mine ∙ ap (λ d. attempt_id (client_plan r n) d p.a) state ∙ ap (λ b. attempt_id (client_plan r n) c b) its
      where
        mine : y.client ≡ n
        mine = is-first y.client p.c p.here ∙ sym (is-first n c here)

        state : p.c ≡ c
        state = let same : Some p.c ≡ Some c = sym p.here ∙ ap (slice_get w.clients) mine ∙ here in cc

        its : p.a ≡ a
        its = let same : Some p.a ≡ Some a = sym p.at ∙ ap (λ d. d.present) state ∙ at in cc

    -- each epoch that was issued is its own, or lies below that
    below : (y : AttemptId) (e own : Epoch) → IsIssued w y e → IsIssued w x own → ((y ≡ x) × (e ≡ own)) ⊎ (e.0 < own.0)
    below y e own i j = elim (E.line y e i) [
      | inl p ↦ (let same = only-present y p in inl (same, E.one x e own (subst (λ z. IsIssued w z e) same i) j))
      | inr b ↦ inr (told b)
    ]
      where
        told : HasLine w y e → e.0 < own.0
        told b =
            let k : Has b.0 (tries w.lines) = has-from_contains (tries w.lines) b.0 b.1 in
            E.rises x own e.0 present j (ItsOwn b.0 b.1 (only-client b.0 k ∙ sym (is-first n c here)) e b.3 (ap not (subst (λ z. is_at_snapshot r z ≡ false) (sym b.2) (E.own y e i))) (is-sure b.0 k) refl)

    -- what counts as the epoch of an attempt that writes was issued to it
    writes-issued : (y : AttemptId) (e : Epoch) (P : MinorWrite → Type 0) → Contains X.dated (y, e) → Any P (writes_of r y) → IsIssued w y e
    writes-issued y e P i any = issued-own r 0 X.dated w X.dates y e (writer-off r y form (λ none. let z = one-of-any P (writes_of r y) any in subst (Has z.0) none z.1)) i

    -- nothing refuses it
    refused : (c : Cause) → OutcomeStands r o stored X.dated w.lines x (outcome.Restart c) → OutcomeStands r o stored Y.dated w.lines x (outcome.Restart c) → may_refuse (command_of r.script x) c ≡ true → ⊥
    refused (cause.ReadLater by epoch path) k l fit =
        let off : is_at_snapshot r x ≡ false = late-off (command_of r.script x) (cause.ReadLater by epoch path) refl fit in
        apart (below by epoch k.own (both-issued r o stored w by epoch E X Y k.reader l.reader) (issued-own r 0 X.dated w X.dates x k.own off k.its))
      where
        apart : ((by ≡ x) × (epoch ≡ k.own)) ⊎ (epoch.0 < k.own.0) → ⊥
        apart (inl same) = let equal : epoch.0 ≡ k.own.0 = ap (λ e. e.0) same.1 in let later : k.own.0 < epoch.0 = k.later in omega (arith, equal, later)
        apart (inr low) = let later : k.own.0 < epoch.0 = k.later in omega (arith, low, later)
    refused (cause.WriteLater by epoch path) k l fit =
        let off : is_at_snapshot r x ≡ false = late-off (command_of r.script x) (cause.WriteLater by epoch path) refl fit in
        apart (below by epoch k.own (writes-issued by epoch (λ z. write_path z.write ≡ path) k.writer k.writes) (issued-own r 0 X.dated w X.dates x k.own off k.its))
      where
        apart : ((by ≡ x) × (epoch ≡ k.own)) ⊎ (epoch.0 < k.own.0) → ⊥
        apart (inl same) = let equal : epoch.0 ≡ k.own.0 = ap (λ e. e.0) same.1 in let later : k.own.0 < epoch.0 = k.later in omega (arith, equal, later)
        apart (inr low) = let later : k.own.0 < epoch.0 = k.later in omega (arith, low, later)
    refused (cause.Unresolved by) k l fit = unresolved (same_attempt by x) refl k
      where
        unresolved : (b : Bool) → same_attempt by x ≡ b → MeetsUnresolved b r X.dated w.lines x by → ⊥
        unresolved true is k = none-stops (attempt_targets r.script x) (up_to_last_of x.client w.lines) k
        unresolved false is k = elim (E.line by k.0.other (writes-issued by k.0.other (λ z. Any (λ p. overlaps p (write_path z.write) ≡ true) (access_paths (attempt_ops r.script x))) k.0.others k.0.overlap)) [
          | inl p ↦ (let own : same_attempt by x ≡ true = subst (λ z. same_attempt z x ≡ true) (sym (only-present by p)) (same_attempt-itself x) in clash (same_attempt by x) own is)
          | inr b ↦ answered b k.1
        ]
          where
            answered : HasLine w by k.0.other → IsOpenTo r.script w.lines x by → ⊥
            answered b (NotAnswered never) =
                let i : Has b.0 (tries w.lines) = has-from_contains (tries w.lines) b.0 b.1 in
                never (any-of (λ z. z.id ≡ by) (tries (up_to_last_of x.client w.lines)) b.0
                (up-to-has x.client w.lines b.0 i (subst (λ m. (m == n) ≡ true) (is-first n c here ∙ sym (only-client b.0 i)) (same_number n))) b.2)
            answered b (IsUnknown any) =
                let z = one-of-any (λ y. (y.id ≡ by) × (is_unknown y.outcome ≡ true)) (tries w.lines) any in
                not-unknown z.0.id z.0.outcome z.2.1 (is-sure z.0 z.1)
            answered b (LeaderStopped before after z of among stops) = none-stops (leader_of_attempt r.script by ∷ []) (up_to_last_of by.client before) stops
    refused (cause.Floor t floor reason) k l fit =
        let off : is_at_snapshot r x ≡ false = late-off (command_of r.script x) (cause.Floor t floor reason) refl fit in
        let shown = one-of-any (ShowsFloor t floor k.cont reason) w.lines k.shown in
        floored reason (issued-own r 0 X.dated w X.dates x k.own off k.its) shown.0 shown.1 shown.2 fit
      where
        reached : k.own.0 ≤ floor.0
        reached = k.reached

        floored : (reason : FloorWhy) → IsIssued w x k.own → (m : Line) → Has m w.lines → ShowsFloor t floor k.cont reason m → may_refuse (command_of r.script x) (cause.Floor t floor reason) ≡ true → ⊥
        floored why.Opening own m i shows fit = shows
        floored (why.Restart number) own m i shows fit = never-opens number t shows.0 floor (subst (λ z. Has z w.lines) shows.1 i)
        floored (why.Snapshot e) own m i shows fit =
            let made : ComesOf r w.issued (line.Freeze t k.cont e) = M.lines (line.Freeze t k.cont e) (subst (λ z. Has z w.lines) shows.0 i) in
            elim (below made.0 e k.own (contains-from_has w.issued (made.0, e) made.1) own) [
              | inl same ↦ snap-unfit (command_of r.script x) made.2.0 k.cont t floor e (subst (λ y. command_of r.script y ≡ Some (Snap made.2.0 k.cont)) same.0 made.2.1) fit
              | inr low ↦ (let equal : e.0 ≡ floor.0 = ap (λ y. y.0) shows.1 in omega (arith, reached, low, equal))
            ]
        floored (why.Aggregate number) own m i shows fit =
            let made : ComesOf r w.issued (line.Aggregate number t k.cont floor) = M.lines (line.Aggregate number t k.cont floor) (subst (λ z. Has z w.lines) shows i) in
            elim (below made.0 made.1 k.own (contains-from_has w.issued (made.0, made.1) made.2) own) [
              | inl same ↦ aggregate-unfit (command_of r.script x) k.cont t floor number (subst (λ y. command_of r.script y ≡ Some (Aggregate k.cont)) same.0 made.3) fit
              | inr low ↦ (let up : floor.0 ≤ made.1.0 = made.4 in omega (arith, reached, low, up))
            ]

    -- so what it hears tells of no restart
    no-restart : (how : Outcome) → OutcomeStands r o stored X.dated w.lines x how → OutcomeStands r o stored Y.dated w.lines x how → GoesWithCommand r.script x how → is_restart how ≡ false
    no-restart outcome.Committed k m fit = refl
    no-restart (outcome.CondFailed op) k m fit = refl
    no-restart (outcome.Restart c) k m fit = absurd (refused c k m fit)
    no-restart (outcome.NoSpace target need free) k m fit = refl
    no-restart outcome.EpochsSpent k m fit = refl
    no-restart outcome.NoSnapshot k m fit = refl
    no-restart (outcome.Unknown target) k m fit = refl

  -- ---- what it hears

  pub hears-none : (v : World) (g : ClientHears r w v) → LossesStand r w.lines g.n g.c g.l.message → HearsNoRestart (client_plan r g.n) g.c g.l.message
  hears-none v g losses a at waits about' = by g.l.message refl
    where
      own : AttemptId
      own = attempt_id (client_plan r g.n) g.c a

      flies : Has g.l w.messages
      flies = has-taken w.messages g.l g.rest g.takes

      ended : (y : AttemptId) (how : Outcome) → same_attempt own y ≡ true → OutcomeStands r o stored X.dated w.lines y how → OutcomeStands r o stored Y.dated w.lines y how → GoesWithCommand r.script y how → is_restart how ≡ false
      ended y how is k m fit =
          let same : own ≡ y = same-is own y is in
          no-restart g.n g.c a g.here at how (subst (λ z. OutcomeStands r o stored X.dated w.lines z how) (sym same) k)
          (subst (λ z. OutcomeStands r o stored Y.dated w.lines z how) (sym same) m) (subst (λ z. GoesWithCommand r.script z how) (sym same) fit)

      stands : (m : Message) → g.l.message ≡ m → MessageStands r o stored X.dated w.lines m × MessageStands r o stored Y.dated w.lines m × TellsFitly r.script m × (is_about own (about m) ≡ true)
      stands m is = (
        subst (MessageStands r o stored X.dated w.lines) is (X.causes.flight g.l (contains-from_has w.messages g.l flies)),
        subst (MessageStands r o stored Y.dated w.lines) is (Y.causes.flight g.l (contains-from_has w.messages g.l flies)),
        subst (TellsFitly r.script) is (fits g.l flies),
        subst (λ z. is_about own (about z) ≡ true) is about',
      )

      by : (m : Message) → g.l.message ≡ m → TellsNoRestart m
      by (message.Fetched y op group e (reply.Answer b)) is = tt
      by (message.Fetched y op group e (reply.Outcome how)) is = let z = stands (message.Fetched y op group e (reply.Outcome how)) is in ended y how z.3 z.0 z.1 z.2
      by (message.Ended y e how) is = let z = stands (message.Ended y e how) is in ended y how z.3 z.0 z.1 z.2
      by (message.Reset' t true place (more_of-Message q rest)) is = tt
      by (message.Reset' t false place (more_of-Message q rest)) is = absurd (none-stops (attempt_targets r.script own) (up_to_last_of own.client w.lines) (subst (LossStands r w.lines own) is (losses a at waits about')))
      by m is = tt

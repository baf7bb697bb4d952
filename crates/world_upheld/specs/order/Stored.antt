-- Whatever happens, what targets keep stored lies behind what was answered before.
use Rattle.std.specs.Prelude.{ℕ, ◌≡◌, Bool, true, false, List, slice_get, Contains, Option, Some, refl}
use Rattle.std.proofs.Common.{sym, ◌∙◌, ap, subst, inl, inr}
use Rattle.std.proofs.Math.ListN.{set}
use Rattle.base_types.specs.declared.entry.Entry.{Entry}
use Rattle.base_types.specs.declared.epoch.Epoch.{Epoch}
use Rattle.base_types.specs.declared.id.AttemptId.{AttemptId}
use Rattle.base_types.specs.declared.operation.MinorWrite.{MinorWrite}
use Rattle.base_types.specs.declared.report.Attempt.{Attempt}
use Rattle.base_messages.specs.declared.message.Message.{Message}
use Rattle.base_messages.specs.declared.message.Message.TheVariants as message
use Rattle.daos_model.specs.declared.durable.Durable.{Durable}
use Rattle.daos_model.specs.declared.durable.Version.{Version}
use Rattle.daos_model.specs.Attempts.{tries}
use Rattle.daos_model.specs.Changes.{reopened}
use Rattle.daos_model.specs.Forms.{AreWritesInForm}
use Rattle.daos_model.specs.Opening.{Opening}
use Rattle.dtx_base.specs.Members.{is_written_at}
use Rattle.model_laws.specs.Members.{Has, contains-from_has, has-from_contains}
use Rattle.world_legal.specs.world_commit.attempts.Attempts.{writes_of}
use Rattle.world_legal.specs.world_commit.attempts.Counting.{has-taken}
use Rattle.world_legal.specs.world_commit.attempts.History.{History}
use Rattle.world_base.specs.declared.did.Did.{Did}
use Rattle.world_base.specs.declared.letter.Letter.{Letter}
use Rattle.world_base.specs.declared.target.Life.TheVariants.{Running}
use Rattle.world_base.specs.declared.target.TargetMemory.{TargetMemory}
use Rattle.world_base.specs.declared.target.TargetState.{TargetState}
use Rattle.world_base.specs.declared.world.World.{World}
use Rattle.world_base.specs.Changes.{Kept}
use Rattle.world_base.specs.Commits as commit
use Rattle.world_base.specs.CutTurns.{Cutting, HearingIsCut}
use Rattle.world_base.specs.Events.{ByClient, ByTarget, Rules, ToClient, ToTarget, kept, target_plan}
use Rattle.world_base.specs.Further.{HearsFurther}
use Rattle.world_base.specs.Letters.{target}
use Rattle.world_base.specs.Roles.{is_prepared}
use Rattle.world_base.specs.Stops.{AtWork, CutOf, Draws, Fails, Further, GivenUp, Happening, Hearing, IdleWork, IsCut, IsInHand, Opens, Plainly}
use Rattle.world_base.specs.TargetTurns.{Hears, commit_request, prepare_request}
use Rattle.world_letters.specs.epochs.Sayings.{AreKnown, known-all, known-each}
use Rattle.world_legal.specs.world_standing.external.Behind.{Issued}
use Rattle.world_legal.specs.world_standing.external.Kept.{IsStoredBehind}
use Rattle.world_legal.specs.world_causes.hearing.Going.{Before}
use Rattle.world_legal.specs.world_causes.hearing.PlainTurns.{knows}
use Rattle.world_legal.specs.world_causes.hearing.Storing.{further-kept, hearing-cut-kept, hears-kept, idle-cut-kept, idle-kept}
use Rattle.world_owners.specs.world_making.making.Kinds.{of-attempts}
use Rattle.world_owners.specs.world_making.making.Making.{making_issues, tells_of_snapshots}
use Rattle.world_owners.specs.world_making.making.Turns.{cuts-leave, hearings-leave}
use Rattle.world_upheld.specs.order.Known.{BearsOfWriter, WritersBearFirsts}
use Rattle.world_upheld.specs.order.Storing.{KnowsTold, commit-cut-lies, commit-lies, prepare-cut-lies, prepare-lies}
use Rattle.world_upheld.specs.order.Turns.{EachIs, cut-each, turn-each}
use Rattle.world_owners.specs.world_making.questions.Events.{without-snapshots}
use Rattle.world_legal.specs.world_contents.reads.Beginning.{TurnBegins}
use Rattle.world_legal.specs.world_contents.reads.CommitLaws.{HearsCommit, prepare-own}
use Rattle.world_legal.specs.world_contents.reads.EventLaws.{at-or-there, commit-heard, may-be-stored, told-so, turn-begins}
use Rattle.world_legal.specs.world_contents.reads.Standing.{IsPrepareSo, Knows}
use Rattle.world_legal.specs.world_contents.reads.StoreLaws.{AreItsOwn}
use Rattle.world_legal.specs.world_causes.restarts.CutLaws.{commit-is-cut}
use Rattle.world_legal.specs.world_commit.statuses.Heard.{is_of_attempts}
use Rattle.world_legal.specs.world_commit.stops.CutEvents.{is_without_snapshots}

-- the entries of each target lie so, by these lines and these epochs
abbrev pub StoredLieBehind : Rules → List Attempt → Issued → World → Type 0
StoredLieBehind r attempts issued w = (t : ℕ) (s : TargetState) (k : Entry) → slice_get w.targets t ≡ Some s → Contains s.durable.entries k
    → IsStoredBehind r attempts issued t k.attempt k.epoch

-- So it is after whatever happens, by the lines and epochs of before.
abbrev pub HappeningsStoreBehind : Type 0
HappeningsStoreBehind =
    (r : Rules) (o : Opening) (held : ℕ → List Version) (h : History) (w v : World) → Before r o held h w → WritersBearFirsts w → KnowsTold r h (tries w.lines) → Happening r w v
    → StoredLieBehind r (tries w.lines) w.issued w → StoredLieBehind r (tries w.lines) w.issued v

-- the writes that a target stores of a Commit are the attempt's own there
commit-own : (r : Rules) (x : AttemptId) (t : ℕ) → AreWritesInForm (writes_of r x) → AreItsOwn r x t (commit.own_writes (target_plan r t) (writes_of r x))
unfolding is_written_at
commit-own r x t form = prepare-own r x t form

reopened-entries : (d : Durable) → (reopened d).entries ≡ d.entries
unfolding reopened
reopened-entries d = refl

module _ (r : Rules) (o : Opening) (held : ℕ → List Version) (h : History) (w : World) (B : Before r o held h w) (F : WritersBearFirsts w) (a : KnowsTold r h (tries w.lines)) where
  module _ (t : ℕ) (s : TargetState) (here : slice_get w.targets t ≡ Some s) (runs : s.life ≡ Running) where
    abbrev facts : Knows r o held h w
    facts = knows r o held h w w B

    abbrev begins : TurnBegins r o (held t) h w t s
    begins = turn-begins r o held h w facts t s here runs

    abbrev Lies : AttemptId → Epoch → Type 0
    Lies y f = IsStoredBehind r (tries w.lines) w.issued t y f

    abbrev AllLie : Durable → Type 0
    AllLie d = AreKnown Lies d.entries

    -- as it is said of each entry
    from-each : (d : Durable) → EachIs Lies d → AllLie d
    from-each d each = known-all Lies d.entries (λ k i. each k (has-from_contains d.entries k i))

    to-each : (d : Durable) → AllLie d → EachIs Lies d
    to-each d all k i = known-each Lies d.entries k all (contains-from_has d.entries k i)

    module _ (known : AllLie s.durable) where
      module _ (reading : ℕ) (l : Letter) (among : Has l w.messages) (to_it : l.to ≡ target t) where
        borne : (m : Message) → l.message ≡ m → BearsOfWriter w m
        borne m is = subst (BearsOfWriter w) is (F l among)

        module _ (x : AttemptId) (ep first : Option Epoch) (tracker : Epoch) (ws : List MinorWrite) (is : l.message ≡ message.Commit x ep first tracker ws) where
          heard : HearsCommit r o (held t) h w t s begins (commit_request x ep first tracker ws) reading
          heard = commit-heard r o held h w facts t s here runs reading l among to_it x ep first tracker ws is

          own : AreItsOwn r x t (commit.own_writes (target_plan r t) ws)
          own = subst (λ z. AreItsOwn r x t (commit.own_writes (target_plan r t) z)) (sym heard.right.its) (commit-own r x t (begins.forms x))

        module _ (e : Entry) (first : Option Epoch) (ws : List MinorWrite) (inc : ℕ) (is : l.message ≡ message.Prepare e first ws inc) where
          brought : IsPrepareSo r h w t e ws
          brought = told-so r o held h w facts t s here runs reading l among to_it (message.Prepare e first ws inc) is

          its : AreItsOwn r e.attempt t ws
          its = subst (AreItsOwn r e.attempt t) (sym brought.writes) (prepare-own r e.attempt t (begins.forms e.attempt))

          open' : e.committed ≡ false
          open' = ap (λ z. z.committed) brought.entry

        hears-lie : (m : Message) → l.message ≡ m → (new : Kept) (left : TargetMemory × Did) → Hears (target_plan r t) s.opening s.memory reading l.from m (kept s) new left
            → AllLie new.durable
        hears-lie (message.Commit x ep first tracker ws) is new left turn =
            commit-lies r o (held t) h w t s begins (tries w.lines) w.issued a (commit_request x ep first tracker ws) reading (heard x ep first tracker ws is)
            (own x ep first tracker ws is) (borne (message.Commit x ep first tracker ws) is)
            known turn.last new turn.reached
        hears-lie (message.Prepare e first ws inc) is new left turn =
            prepare-lies r o (held t) h w t s begins (tries w.lines) w.issued a (prepare_request e first ws inc) (open' e first ws inc is) (its e first ws inc is)
            (may-be-stored r o held h w facts t s here runs reading l among to_it e first ws inc is)
            (borne (message.Prepare e first ws inc) is) known turn.last new turn.reached
        hears-lie m is new left turn = (hears-kept Lies (target_plan r t) s.opening s.memory reading l.from (kept s) known m new left tt turn).entries

        attempts-lie : (number : ℕ) (m : Message) → l.message ≡ m → (new : Kept) (left : TargetMemory × Did) → is_of_attempts m ≡ true
            → HearsFurther number (target_plan r t) s.opening s.memory reading l.from m (kept s) new left
            → AllLie new.durable
        attempts-lie number (message.Commit x ep first tracker ws) is new left ours turn =
            commit-lies r o (held t) h w t s begins (tries w.lines) w.issued a (commit_request x ep first tracker ws) reading (heard x ep first tracker ws is)
            (own x ep first tracker ws is) (borne (message.Commit x ep first tracker ws) is)
            known turn.last new turn.reached
        attempts-lie number (message.Prepare e first ws inc) is new left ours turn = absurd turn
        attempts-lie number m is new left ours turn = (further-kept Lies (target_plan r t) s.opening s.memory reading l.from (kept s) known number m new left ours tt turn).entries

        further-lie : (number : ℕ) (new : Kept) (left : TargetMemory × Did) → (b : Bool) → tells_of_snapshots l.message ≡ b
            → HearsFurther number (target_plan r t) s.opening s.memory reading l.from l.message (kept s) new left → AllLie new.durable
        further-lie number new left false off turn = attempts-lie number l.message refl new left (of-attempts l.message off) turn
        further-lie number new left true is turn =
            from-each new.durable (turn-each Lies number (target_plan r t) s.memory reading l.from l.message (kept s) new left
            (hearings-leave number (target_plan r t) s.opening s.memory reading l.from l.message (kept s) new left turn is) (to-each s.durable known))

        plain-cut : (number : ℕ) (m : Message) → l.message ≡ m → (cut : Cutting) → is_without_snapshots m ≡ true
            → HearingIsCut is_prepared number (target_plan r t) s.opening s.memory reading l.from m (kept s) cut → AllLie cut.left.durable
        plain-cut number (message.Commit x ep first tracker ws) is cut ours turn =
            commit-cut-lies r o (held t) h w t s begins (tries w.lines) w.issued a (commit_request x ep first tracker ws) reading (heard x ep first tracker ws is)
            (own x ep first tracker ws is)
            (borne (message.Commit x ep first tracker ws) is) known cut
            (commit-is-cut (target_plan r t) s.opening s.memory reading (commit_request x ep first tracker ws) (kept s) cut turn)
        plain-cut number (message.Prepare e first ws inc) is cut ours turn =
            prepare-cut-lies r o (held t) h w t s begins (tries w.lines) w.issued a (prepare_request e first ws inc) (open' e first ws inc is) (its e first ws inc is)
            (may-be-stored r o held h w facts t s here runs reading l among to_it e first ws inc is) (borne (message.Prepare e first ws inc) is) known cut turn
        plain-cut number m is cut ours turn = (hearing-cut-kept Lies (target_plan r t) s.opening s.memory reading l.from (kept s) known number m cut ours tt turn).entries

        hearing-cut-lies : (number : ℕ) (cut : Cutting) → (b : Bool) → tells_of_snapshots l.message ≡ b
            → HearingIsCut is_prepared number (target_plan r t) s.opening s.memory reading l.from l.message (kept s) cut → AllLie cut.left.durable
        hearing-cut-lies number cut false off turn = plain-cut number l.message refl cut (without-snapshots l.message off) turn
        hearing-cut-lies number cut true is turn =
            from-each cut.left.durable (cut-each Lies number (target_plan r t) s.memory reading l.from l.message (making_issues l.message) t (kept s) cut
            (cuts-leave is_prepared number (target_plan r t) s.opening s.memory reading l.from l.message (kept s) cut turn is) (to-each s.durable known))

      work-cut-lies : (work : AtWork) → IsInHand w t work → (cut : Cutting) → CutOf (target_plan r t) s work cut → AllLie cut.left.durable
      work-cut-lies (Hearing l reading number) hand cut turn = hearing-cut-lies reading l (has-taken w.messages l hand.0.0 hand.0.1) hand.1 number cut
          (tells_of_snapshots l.message) refl turn
      work-cut-lies IdleWork hand cut turn = (idle-cut-kept Lies (target_plan r t) s.opening s.memory 0 (target t) (kept s) known cut turn).entries

  -- ---- whatever happens

  module _ (v : World) (K : StoredLieBehind r (tries w.lines) w.issued w) where
    abbrev LieAt : ℕ → Durable → Type 0
    LieAt t d = AreKnown (λ y f. IsStoredBehind r (tries w.lines) w.issued t y f) d.entries

    before : (t : ℕ) (s : TargetState) → slice_get w.targets t ≡ Some s → LieAt t s.durable
    before t s here = known-all (λ y f. IsStoredBehind r (tries w.lines) w.issued t y f) s.durable.entries (λ k i. K t s k here i)

    none-set : v.targets ≡ w.targets → StoredLieBehind r (tries w.lines) w.issued v
    none-set same t s k at i = K t s k (ap (λ ts. slice_get ts t) (sym same) ∙ at) i

    one-set : (t : ℕ) (s z : TargetState) → slice_get w.targets t ≡ Some s → v.targets ≡ set w.targets t z → LieAt t z.durable → StoredLieBehind r (tries w.lines) w.issued v
    one-set t s z here same known n y k at i = elim (at-or-there w.targets t s z here n y (subst (λ ts. slice_get ts n ≡ Some y) same at)) [
      | inl is ↦ subst (λ m. IsStoredBehind r (tries w.lines) w.issued m k.attempt k.epoch) (sym is.0)
          (known-each (λ x f. IsStoredBehind r (tries w.lines) w.issued t x f) z.durable.entries k known (subst (λ (x : TargetState). Contains x.durable.entries k) is.1 i))
      | inr old ↦ K n y k old.1 i
    ]

    kept-set : (t : ℕ) (s z : TargetState) → slice_get w.targets t ≡ Some s → v.targets ≡ set w.targets t z → z.durable.entries ≡ s.durable.entries
        → StoredLieBehind r (tries w.lines) w.issued v
    kept-set t s z here same entries =
        one-set t s z here same (subst (AreKnown (λ y f. IsStoredBehind r (tries w.lines) w.issued t y f)) (sym entries) (before t s here))

    happening-lies : Happening r w v → StoredLieBehind r (tries w.lines) w.issued v
    happening-lies (Plainly (ByClient g) up) = none-set (ap (λ z. z.targets) g.after)
    happening-lies (Plainly (ToClient g) up) = none-set (ap (λ z. z.targets) g.after)
    happening-lies (Plainly (ToTarget g) up) =
        one-set g.t g.s _ g.here (ap (λ z. z.targets) g.after)
        (hears-lie g.t g.s g.here g.runs (before g.t g.s g.here) g.reading g.l (has-taken w.messages g.l g.rest g.takes) g.to_it g.l.message refl g.new (g.memory, g.did) g.turn)
    happening-lies (Plainly (ByTarget g) up) =
        one-set g.t g.s _ g.here (ap (λ z. z.targets) g.after)
        (idle-kept (λ y f. IsStoredBehind r (tries w.lines) w.issued g.t y f) (target_plan r g.t) g.s.opening g.s.memory 0 (target g.t) (kept g.s) (before g.t g.s g.here)
        g.settling g.new (g.memory, g.did) g.turn).entries
    happening-lies (Further f) =
        let g = f.hears in
        one-set g.t g.s _ g.here (ap (λ z. z.targets) g.after)
        (further-lie g.t g.s g.here g.runs (before g.t g.s g.here) g.reading g.l (has-taken w.messages g.l g.rest g.takes) g.to_it f.number g.new (g.memory, g.did)
        (tells_of_snapshots g.l.message) refl g.turn)
    happening-lies (IsCut g) = one-set g.t g.s _ g.here (ap (λ z. z.targets) g.after) (work-cut-lies g.t g.s g.here g.runs (before g.t g.s g.here) g.work g.in_hand g.cut g.turn)
    happening-lies (Opens g) = kept-set g.t g.s _ g.here (ap (λ z. z.targets) g.after) (reopened-entries g.s.durable)
    happening-lies (Fails g) = kept-set g.t g.s _ g.here (ap (λ z. z.targets) g.after)
        (elim g.left [ inl is ↦ ap (λ d. d.entries) is | inr is ↦ ap (λ d. d.entries) is ∙ reopened-entries g.s.durable ])
    happening-lies (GivenUp g) = kept-set g.t g.s _ g.here (ap (λ z. z.targets) g.after) refl
    happening-lies (Draws g) = none-set (ap (λ z. z.targets) g.after)

pub happenings-store-behind : HappeningsStoreBehind
happenings-store-behind r o held h w v B F a e K = happening-lies r o held h w B F a v K e

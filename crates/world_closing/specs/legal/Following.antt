-- A run begins so that who reads at a snapshot reads as named, and every event keeps it.
use Rattle.std.specs.Prelude.{ℕ, ◌≡◌, ◌<◌, ◌⊎◌, Bool, true, false, is_some, length, List, [], ◌∷◌, map, filter, find, slice_get, Contains, Option, Some, None, refl, if◌then◌else◌}
use Rattle.std.proofs.Math.ListN.{set}
use Rattle.std.proofs.Common.{sym, ◌∙◌, ap, subst, inl, inr, arith}
use Rattle.base_types.specs.declared.epoch.Epoch.{Epoch}
use Rattle.base_types.specs.declared.id.ContId.{ContId}
use Rattle.base_types.specs.declared.outcome.Outcome.TheVariants as outcome
use Rattle.base_types.specs.declared.report.Attempt.{Attempt}
use Rattle.base_types.specs.declared.report.Line.TheVariants as line
use Rattle.base_types.specs.declared.script.Command.{Command}
use Rattle.base_types.specs.declared.script.Command.TheVariants.{Run, Snap}
use Rattle.base_types.specs.declared.script.OldDecl.{OldDecl}
use Rattle.base_types.specs.PathLaws.{same_key-Decides}
use Rattle.base_types.specs.Scripts.{IsInForm}
use Rattle.base_messages.specs.declared.message.Message.TheVariants as message
use Rattle.model_laws.specs.EntryLaws.{found-has, found-passes}
use Rattle.model_laws.specs.Lists.{at-within}
use Rattle.model_reports.specs.Lines.{one-of-any}
use Rattle.model_laws.specs.Members.{Has, contains-from_has, has-filter, has-from_contains, has-map}
use Rattle.daos_model.specs.Attempts.{EachTry, is_of_client, snapshot_of, snapshot_or_none, tries, tries_of}
use Rattle.daos_model.specs.BoolLaws.{clash}
use Rattle.daos_model.specs.Opening.{Opening, kept_map, top}
use Rattle.daos_model.specs.ReadsLegal.{is_named}
use Rattle.daos_model.specs.Snapshots.{IsCreated, Made, StandsFor}
use Rattle.daos_model.specs.Transactions.{command_of}
use Rattle.world_commit.specs.attempts.History.{History}
use Rattle.world_base.specs.declared.client.ClientPlan.{ClientPlan}
use Rattle.world_base.specs.declared.client.ClientState.{ClientState}
use Rattle.world_base.specs.declared.client.KnownSnap.{KnownSnap}
use Rattle.world_base.specs.declared.client.Present.{Present}
use Rattle.world_base.specs.declared.letter.Letter.{Letter}
use Rattle.world_base.specs.declared.target.TargetState.{TargetState}
use Rattle.world_base.specs.declared.world.World.{World}
use Rattle.world_base.specs.ClientTurns.{Move, attempt_id, begun, command_at, epoch_of_known, heard, is_created_old, is_known_as, known_epoch, known_of, knows_epoch, moved}
use Rattle.world_base.specs.Events.{ByClient, ByTarget, Rules, ToClient, ToTarget, client_plan, epoch_issued, or_issued}
use Rattle.world_base.specs.StepLaws.{by-hearing, by-next, set-is, set-there}
use Rattle.world_base.specs.Steps.{KeptByCounting, KeptByHearing, KeptByMoves, without}
use Rattle.world_base.specs.Stops.{Draws, Fails, Further, GivenUp, Happening, IsCut, Opens, Plainly, WorldEvent, swept}
use Rattle.world_answers.specs.world_causes.outcomes.Keeping.{IsOfTarget}
use Rattle.world_commit.specs.attempts.Turning.{one-or_another}
use Rattle.world_commit.specs.fates.Facts.{Attempts}
use Rattle.world_letters.specs.clients.Answered.{is_refusal}
use Rattle.world_letters.specs.clients.Snapshots.{is_at_snapshot}
use Rattle.world_letters.specs.clients.Standing.{HasTold}
use Rattle.world_letters.specs.epochs.Epochs.{Epochs, GoesWith, IsEpochOf, IsOwn, IsSeen}
use Rattle.world_letters.specs.epochs.Lists.{epoch-found}
use Rattle.world_letters.specs.lines.Lines.{IsCommitted, TellsEnd, filled}
use Rattle.world_letters.specs.lives.ClientLines.{heard-own, moved-own}
use Rattle.world_letters.specs.snapshots.Events.{command-is}
use Rattle.world_letters.specs.talks.TalkLaws.{taken-is-among}
use Rattle.world_answers.specs.world_making.freezings.ClientEvents.{command-back}
use Rattle.world_answers.specs.world_making.freezings.Freezings.{Freezings, IsFromBefore, IsKnownSo, IsOwnMade}
use Rattle.world_answers.specs.world_making.freezings.Knowing.{IsLearned, LearnsBy, heard-knows, learned-is, learned-more, learned-new, moved-committed, moved-same}
use Rattle.world_answers.specs.world_making.freezings.Seeing.{found-known}
use Rattle.world_answers.specs.world_making.making.Snapshots.{holds_created}
use Rattle.world_upheld.specs.upheld.Clients.{lines-stand}
use Rattle.world_upheld.specs.below.Legal.{get-map}
use Rattle.world_upheld.specs.below.Standing.{ClientsSpeak, sweeping-tells}
use Rattle.world_upheld.specs.causing.DateLaws.{epoch-once}
use Rattle.world_upheld.specs.upheld.Begins.{AreRulesInForm, RunBeginsWith, client_begins, snaps_held}
use Rattle.world_upheld.specs.upheld.Clients as speak
use Rattle.world_upheld.specs.upheld.Telling.{all-targets_tell}
use Rattle.world_commit.specs.asks.Entries.{mapped}
use Rattle.world_closing.specs.legal.Naming.{CommittedIsDated, NamesOn, ReadsAsNamed, ReadsNameSnapshots, ReadsSo, as_lines, known_as, names-on, names-stay}
use Rattle.world_closing.specs.legal.Telling.{WantsOne, hearing-tells, moves-tell}

-- ---- what a client knows by a name

none-known : (name : List ℕ) (known : List KnownSnap) (k : KnownSnap) → known_epoch known name ≡ None → Has k known → k.name ≡ name → ⊥
none-known name [] k none i same = i
none-known name (x ∷ known) k none i same = by (is_known_as name x) refl none i (none-known name known k)
  where
    by : (b : Bool) → is_known_as name x ≡ b → epoch_of_known (if b then Some x else find (is_known_as name) known) ≡ None → Has k (x ∷ known)
        → (known_epoch known name ≡ None → Has k known → k.name ≡ name → ⊥) → ⊥
    by true is bad j rest = let no : ⊥ = cc (bad) in no
    by false off gone (inl one) rest = clash (is_known_as name x) ((same_key-Decides name x.name).1 (sym same ∙ ap (λ y. y.name) one)) off
    by false off gone (inr j) rest = rest gone j same

same-some : {T : Type 0} {x y : T} → Some x ≡ Some y → x ≡ y
same-some s = cc

-- ---- one step

module _ (r : Rules) (o : Opening) (h : History) (u : World) (n : ℕ) (c : ClientState) (here : slice_get u.clients n ≡ Some c) (k : ReadsNameSnapshots r o u) (S : ClientsSpeak r (top o) h u) where
  abbrev p : ClientPlan
  p = client_plan r n

  E : Epochs r (top o) u
  E = S.epochs

  abbrev attempts : List Attempt
  attempts = (lines-stand r u S.lines n c here).0

  told : HasTold p c attempts
  told = (lines-stand r u S.lines n c here).1

  -- a present attempt that reads at a snapshot has the epoch that its client knows by the name
  record SeesIts (a : Present) (name : List ℕ) : Type 0 where
    e : Epoch
    own : a.epoch ≡ Some e
    stands : StandsFor r.script o.stand (tries_of n u.lines) name e

  sees : (a : Present) (name : List ℕ) → c.present ≡ Some a → snapshot_of r.script (attempt_id p c a) ≡ Some name → SeesIts a name
  sees a name at reads = by a.epoch refl
    where
      is-at : is_at_snapshot r (attempt_id p c a) ≡ true
      is-at = ap is_some reads

      seen : (e : Epoch) → a.epoch ≡ Some e → IsEpochOf r u (attempt_id p c a) e → SeesIts a name
      seen e own (IsOwn i) = clash (is_at_snapshot r (attempt_id p c a)) is-at (E.own (attempt_id p c a) e i)
      seen e own (IsSeen s) =
          let one : s.name ≡ name = same-some (sym s.reads ∙ reads) in
          let its : s.c ≡ c = same-some (sym s.here ∙ here) in
          let f = found-known s.name s.c.known e s.known in
          let i : Has f.0 c.known = subst (λ z. Has f.0 z.known) its f.1 in
          record { e = e; own = own; stands = subst (λ z. StandsFor r.script o.stand (tries_of n u.lines) z e) (f.2 ∙ one) (subst (StandsFor r.script o.stand (tries_of n u.lines) f.0.name) f.3 (k.known n c here f.0 i)) }

      by : (q : Option Epoch) → a.epoch ≡ q → SeesIts a name
      by None none = clash (is_at_snapshot r (attempt_id p c a)) is-at (E.seen n c a here at none)
      by (Some e) own = seen e own (E.known n c a e here at own)

  -- so its line reads as named, where it doesn't end for want of a snapshot
  reads-so : (b : Attempt) (a : Present) (name : List ℕ) → c.present ≡ Some a → b.id ≡ attempt_id p c a → ((e : Epoch) → a.epoch ≡ Some e → b.epoch ≡ Some e) → (b.outcome ≡ outcome.NoSnapshot → ⊥)
      → snapshot_of r.script b.id ≡ Some name → ReadsSo r.script o.stand (tries_of n u.lines) name (filled u.issued b)
  reads-so b a name at id epoch sure reads = record {
    there = λ e is. subst (StandsFor r.script o.stand (tries_of n u.lines) name) (same-some (sym its ∙ is)) z.stands;
    none = λ bad e t. (let no : ⊥ = cc (bad, its) in no);
    wants = ((λ same. absurd (sure same)), λ bad. let no : ⊥ = cc (bad, its) in absurd no);
  }
    where
      z : SeesIts a name
      z = sees a name at (ap (snapshot_of r.script) (sym id) ∙ reads)

      its : (filled u.issued b).epoch ≡ Some z.e
      its = ap (or_issued u.issued b.id) (epoch z.e z.own)

  -- and where it ends so it has no epoch, and the name stands for none
  wants-so : (b : Attempt) (name : List ℕ) → WantsOne p c b → snapshot_of r.script b.id ≡ Some name → ReadsSo r.script o.stand (tries_of n u.lines) name (filled u.issued b)
  wants-so b name w reads = record {
    there = λ e is. (let no : ⊥ = cc (is, unissued) in absurd no);
    none = λ is e t. none-known name c.known (known_as name e) (subst (λ z. known_epoch c.known z ≡ None) called w.unknown) (k.knows n c here name e t) refl;
    wants = ((λ same. unissued), λ is. w.outcome);
  }
    where
      command : command_of r.script b.id ≡ Some (Run w.ops w.turns (Some w.name))
      command = ap (command_of r.script) w.id ∙ command-is r n c (begun 0 None None) (Run w.ops w.turns (Some w.name)) attempts told w.command refl

      called : w.name ≡ name
      called = same-some (sym (ap snapshot_or_none command) ∙ reads)

      unissued : (filled u.issued b).epoch ≡ None
      unissued = ap (or_issued u.issued b.id) w.epoch ∙ by (epoch-found u.issued b.id)
        where
          by : ((epoch_issued u.issued b.id ≡ None) × ((e : Epoch) → Contains u.issued (b.id, e) → ⊥)) ⊎ ((f : Epoch) × (epoch_issued u.issued b.id ≡ Some f) × Contains u.issued (b.id, f)) → epoch_issued u.issued b.id ≡ None
          by (inl none) = none.0
          by (inr some) = clash (is_at_snapshot r b.id) (ap is_some reads) (E.own b.id some.0 some.2)

  -- without a message
  pub moves-name : NamesOn r o u n c (moved p c)
  moves-name = record {
    own = moved-own p c;
    of_it = λ b is. (elim (moves-tell p c b is) [ inl z ↦ ap (λ x. x.client) z.id | inr z ↦ ap (λ x. x.client) z.id ]);
    more = λ x i. subst (Has x) (sym (moved-same p c)) i;
    makes = λ b name e is made. absurd (not-made b name e is made);
    made = λ x i. inl (subst (Has x) (moved-same p c) i);
    reads = λ b name is reads. (elim (moves-tell p c b is) [
      | inl z ↦ reads-so b z.a name z.at z.id (λ e own. z.epoch ∙ own) (λ same. let one = sym z.outcome ∙ same in let no : ⊥ = cc (one) in no) reads
      | inr z ↦ wants-so b name z reads
    ]);
    dated = λ b is committed. (let z = moved-committed p c b is committed in inr (z.3.0, z.3.1, z.3.2, ap (command_of r.script) z.2 ∙ command-is r n c z.0 (Run z.3.0 z.3.1 z.3.2) attempts told z.3.3 refl));
  }
    where
      not-made : (b : Attempt) (name : List ℕ) (e : Epoch) → (moved p c).line ≡ Some (line.Try b) → Made r.script name e (filled u.issued b) → ⊥
      not-made b name e is made =
          let z = moved-committed p c b is made.committed in
          let run : command_of r.script b.id ≡ Some (Run z.3.0 z.3.1 z.3.2) = ap (command_of r.script) z.2 ∙ command-is r n c z.0 (Run z.3.0 z.3.1 z.3.2) attempts told z.3.3 refl in
          let both : Some (Run z.3.0 z.3.1 z.3.2) ≡ Some (Snap name made.cont) = sym run ∙ made.snaps.command in
          let no : ⊥ = cc (both) in no

  -- hearing one
  module _ (l : Letter) (among : Has l u.messages) where
    abbrev m : Move
    m = heard p c l.message

    may : TellsEnd l.message
    may = S.endings l (contains-from_has u.messages l among)

    -- the epoch of the line of an attempt that made a snapshot is the one that it is told
    epoch-told : (g : LearnsBy p c l.message m) (s : Epoch) → g.e ≡ Some s → g.b.epoch ≡ Some s
    epoch-told g s at = g.epoch ∙ by g.a.epoch refl
      where
        by : (q : Option Epoch) → g.a.epoch ≡ q → knows_epoch g.a.epoch g.e ≡ Some s
        by None none = ap (λ y. knows_epoch y g.e) none ∙ at
        by (Some f) own =
            let says : l.message ≡ message.Ended (attempt_id p c g.a) (Some s) g.how = g.says ∙ ap (λ y. message.Ended (attempt_id p c g.a) y g.how) at in
            let its = E.borne l (attempt_id p c g.a) s (contains-from_has u.messages l among) (subst (λ y. GoesWith y (attempt_id p c g.a) s) (sym says) (refl, refl)) in
            ap (λ y. knows_epoch y g.e) own ∙ ap (λ y. Some y) (epoch-once r (top o) u (attempt_id p c g.a) f s E (E.known n c g.a f here g.at own) its)

    line-is : (g : LearnsBy p c l.message m) (b : Attempt) → m.line ≡ Some (line.Try b) → g.b ≡ b
    line-is g b is = let both : Some (line.Try g.b) ≡ Some (line.Try b) = sym g.line ∙ is in let one : line.Try g.b ≡ line.Try b = same-some both in cc

    -- it knows what its attempt made
    makes-it : (b : Attempt) (name : List ℕ) (e : Epoch) → m.line ≡ Some (line.Try b) → Made r.script name e (filled u.issued b) → Has (known_as name e) m.state.known
    makes-it b name e is made = elim (heard-knows p c l.message may) [ inl same ↦ absurd (same.1 b is made.committed) | inr g ↦ learns g (line-is g b is) ]
      where
        learns : (g : LearnsBy p c l.message m) → g.b ≡ b → Has (known_as name e) m.state.known
        learns g one = ends (subst TellsEnd g.says may)
          where
            committed : g.how ≡ outcome.Committed
            committed = sym g.outcome ∙ ap (λ y. y.outcome) one ∙ made.committed

            command : command_at p c ≡ Some (Snap name made.cont)
            command = command-back r n c g.a (Snap name made.cont) attempts told g.at (ap (command_of r.script) (sym g.id ∙ ap (λ y. y.id) one) ∙ made.snaps.command)

            ends : (is_refusal g.how ≡ true) ⊎ IsCommitted g.e g.how → Has (known_as name e) m.state.known
            ends (inl refused) = let no : ⊥ = cc (ap is_refusal committed, refused) in absurd no
            ends (inr z) =
                let its : z.epoch ≡ e = same-some (sym (ap (or_issued u.issued b.id) (ap (λ y. y.epoch) (sym one) ∙ epoch-told g z.epoch z.at)) ∙ made.snaps.issued) in
                subst (Has (known_as name e)) (sym g.learns) (learned-new (command_at p c) g.e g.how c.known name made.cont e command (z.at ∙ ap (λ y. Some y) its) committed)

    -- and knows nothing else besides what it knew
    made-it : (x : KnownSnap) → Has x m.state.known → Has x c.known ⊎ ((b : Attempt) × (m.line ≡ Some (line.Try b)) × Made r.script x.name x.epoch (filled u.issued b))
    made-it x i = elim (heard-knows p c l.message may) [ inl same ↦ inl (subst (Has x) same.0 i) | inr g ↦ learns g ]
      where
        learns : (g : LearnsBy p c l.message m) → Has x c.known ⊎ ((b : Attempt) × (m.line ≡ Some (line.Try b)) × Made r.script x.name x.epoch (filled u.issued b))
        learns g = elim (learned-is (command_at p c) g.e g.how c.known x (subst (Has x) g.learns i)) [ inl old ↦ inl old | inr new ↦ inr (g.b, g.line, its new) ]
          where
            its : IsLearned (command_at p c) g.e g.how x → Made r.script x.name x.epoch (filled u.issued g.b)
            its new = record {
              cont = new.cont;
              snaps = record {
                command = ap (command_of r.script) g.id ∙ command-is r n c g.a (Snap x.name new.cont) attempts told new.command refl;
                issued = ap (or_issued u.issued g.b.id) (epoch-told g x.epoch new.epoch);
              };
              committed = g.outcome ∙ new.committed;
            }

    more-known : (x : KnownSnap) → Has x c.known → Has x m.state.known
    more-known x i = elim (heard-knows p c l.message may) [ inl same ↦ subst (Has x) (sym same.0) i | inr g ↦ subst (Has x) (sym g.learns) (learned-more (command_at p c) g.e g.how c.known x i) ]

    -- one that is told to be committed has the epoch that is told
    dated-it : (b : Attempt) → m.line ≡ Some (line.Try b) → CommittedIsDated r.script (filled u.issued b)
    dated-it b is committed = elim (heard-knows p c l.message may) [ inl same ↦ absurd (same.1 b is committed) | inr g ↦ inl (learns g (line-is g b is) (subst TellsEnd g.says may)) ]
      where
        learns : (g : LearnsBy p c l.message m) → g.b ≡ b → (is_refusal g.how ≡ true) ⊎ IsCommitted g.e g.how → is_some (filled u.issued b).epoch ≡ true
        learns g one (inl refused) =
            let so : g.how ≡ outcome.Committed = sym g.outcome ∙ ap (λ y. y.outcome) one ∙ committed in
            let no : ⊥ = cc (ap is_refusal so, refused) in absurd no
        learns g one (inr z) = ap is_some (ap (or_issued u.issued b.id) (ap (λ y. y.epoch) (sym one) ∙ epoch-told g z.epoch z.at))

    pub hearing-names : NamesOn r o u n c m
    hearing-names = record {
      own = heard-own p c l.message;
      of_it = λ b is. (let z = hearing-tells p c l.message may b is in ap (λ x. x.client) z.id);
      more = more-known;
      makes = makes-it;
      made = made-it;
      reads = λ b name is reads. (let z = hearing-tells p c l.message may b is in reads-so b z.a name z.at z.id z.epoch z.sure reads);
      dated = dated-it;
    }

-- ---- events

module _ (r : Rules) (o : Opening) (h : History) (form : IsInForm r.script.targets r.script) (some : 0 < r.attempts) where
  -- what clients say, and how they read, of each world that a client's turn comes by
  abbrev Both : World → Type 0
  Both u = ClientsSpeak r (top o) h u × ReadsNameSnapshots r o u

  both-by_moves : KeptByMoves r Both
  both-by_moves u n c here k = (speak.by-moves r (top o) h some u n c here k.0, names-on r o u n c (moved (client_plan r n) c) form here k.1 (moves-name r o h u n c here k.1 k.0))

  both-by_counting : KeptByCounting Both
  both-by_counting u n j c here k = (speak.by-counting r (top o) h some u n j c here k.0, record { knows = knows; known = known; lines = k.1.lines; dated = k.1.dated })
    where
      d : ClientState
      d = record c { skip = j }

      -- clients know what they knew
      before : (i : ℕ) (e : ClientState) → slice_get (set u.clients n d) i ≡ Some e → (z : ClientState) × (slice_get u.clients i ≡ Some z) × (z.known ≡ e.known)
      before i e at = elim (one-or_another i n) [
        | inl same ↦ (let is : d ≡ e = set-is u.clients n d e (subst (λ q. slice_get (set u.clients n d) q ≡ Some e) same at) in (c, subst (λ q. slice_get u.clients q ≡ Some c) (sym same) here, ap (λ z. z.known) is))
        | inr off ↦ (e, sym (set-there u.clients n i d off) ∙ at, refl)
      ]

      knows : (i : ℕ) (e : ClientState) → slice_get (set u.clients n d) i ≡ Some e → (name : List ℕ) (f : Epoch) → StandsFor r.script o.stand (tries_of i u.lines) name f → Has (known_as name f) e.known
      knows i e at name f t = let z = before i e at in subst (Has (known_as name f)) z.2 (k.1.knows i z.0 z.1 name f t)

      known : (i : ℕ) (e : ClientState) → slice_get (set u.clients n d) i ≡ Some e → (x : KnownSnap) → Has x e.known → StandsFor r.script o.stand (tries_of i u.lines) x.name x.epoch
      known i e at x j = let z = before i e at in k.1.known i z.0 z.1 x (subst (Has x) (sym z.2) j)

  both-by_hearing : KeptByHearing r Both
  both-by_hearing w n c l rest here awake takes to k = (
    speak.hearing-keeps r (top o) h some w n c l rest here awake takes to k.0,
    names-on r o (without w rest) n c (heard (client_plan r n) c l.message) form here (record { knows = k.1.knows; known = k.1.known; lines = k.1.lines; dated = k.1.dated }) (record {
      own = z.own;
      of_it = z.of_it;
      more = z.more;
      makes = z.makes;
      made = z.made;
      dated = z.dated;
      reads = z.reads;
    }),
  )
    where
      z : NamesOn r o w n c (heard (client_plan r n) c l.message)
      z = hearing-names r o h w n c here k.1 k.0 l (has-from_contains w.messages l (taken-is-among w.messages l rest takes))

  -- whatever targets do
  by-targets : (w v : World) → Attempts r h w → (e : Happening r w v) → IsOfTarget e → ReadsNameSnapshots r o w → ReadsNameSnapshots r o v
  by-targets w v attempts e of_target k = let t = all-targets_tell r h w v attempts e of_target in names-stay r o w v t.clients t.tries k

  happening-names : (w v : World) → Attempts r h w → ClientsSpeak r (top o) h w → Happening r w v → ReadsNameSnapshots r o w → ReadsNameSnapshots r o v
  happening-names w v attempts S (Plainly (ByClient g) up) k = (by-next r Both both-by_moves both-by_counting w v (S, k) g).1
  happening-names w v attempts S (Plainly (ToClient g) up) k = (by-hearing r Both both-by_moves both-by_hearing w v (S, k) g).1
  happening-names w v attempts S (Plainly (ToTarget g) up) k = by-targets w v attempts (Plainly (ToTarget g) up) tt k
  happening-names w v attempts S (Plainly (ByTarget g) up) k = by-targets w v attempts (Plainly (ByTarget g) up) tt k
  happening-names w v attempts S (Further g) k = by-targets w v attempts (Further g) tt k
  happening-names w v attempts S (IsCut g) k = by-targets w v attempts (IsCut g) tt k
  happening-names w v attempts S (Opens g) k = by-targets w v attempts (Opens g) tt k
  happening-names w v attempts S (Fails g) k = by-targets w v attempts (Fails g) tt k
  happening-names w v attempts S (GivenUp g) k = by-targets w v attempts (GivenUp g) tt k
  happening-names w v attempts S (Draws g) k = by-targets w v attempts (Draws g) tt k

-- Each event keeps it, where clients speak as they do in any run.
abbrev pub AllEventsNameSnapshots : Type 0
AllEventsNameSnapshots =
    (r : Rules) (o : Opening) (h : History) (w v : World) → AreRulesInForm r → Attempts r h w → ClientsSpeak r (top o) h w → WorldEvent r w v → ReadsNameSnapshots r o w → ReadsNameSnapshots r o v

pub all-events-name : AllEventsNameSnapshots
all-events-name r o h w v A attempts S e k =
    let t = sweeping-tells e.u in
    subst (ReadsNameSnapshots r o) (sym e.after) (names-stay r o e.u (swept e.u) t.clients t.tries (happening-names r o h A.form A.some_attempt w e.u attempts S e.happens k))

-- ---- the beginning

-- Of what the opening keeps the map, target 0 holds as created when a run begins.
abbrev pub HoldsKept : Opening → World → Type 0
HoldsKept o w = (z : TargetState) (c : ContId) (e : Epoch) → slice_get w.targets 0 ≡ Some z → is_some (kept_map c e.0 o.stand.snaps) ≡ true → holds_created z.durable c e ≡ true

-- then a run begins so
abbrev pub RunsBeginNamed : Type 0
RunsBeginNamed = (r : Rules) (o : Opening) (w : World) → AreRulesInForm r → RunBeginsWith r o w → HoldsKept o w → Freezings r o w → ReadsNameSnapshots r o w

module _ (r : Rules) (o : Opening) (w : World) (A : AreRulesInForm r) (B : RunBeginsWith r o w) (held : HoldsKept o w) (F : Freezings r o w) where
  no-tries : tries w.lines ≡ []
  unfolding tries
  no-tries = ap tries B.lines

  none-of : (n : ℕ) → tries_of n w.lines ≡ []
  none-of n = ap (filter (is_of_client n)) no-tries

  client-is : (n : ℕ) (c : ClientState) → slice_get w.clients n ≡ Some c → (list : List Command) × (client_begins r o w list ≡ c)
  client-is n c here =
      let x = mapped (client_begins r o w) (slice_get r.script.clients n) c (sym (get-map (client_begins r o w) r.script.clients n) ∙ ap (λ cs. slice_get cs n) (sym B.clients) ∙ here) in
      (x.0, x.2)

  -- what is declared and kept, they know
  old-known : (name : List ℕ) (e : Epoch) → StandsFor r.script o.stand [] name e → Has (known_as name e) (map known_of (filter (is_created_old (snaps_held (slice_get w.targets 0))) r.script.olds))
  unfolding holds_created
  old-known name e t = by (find (is_named name) r.script.olds) refl t
    where
      by : (d : Option OldDecl) → find (is_named name) r.script.olds ≡ d → IsCreated r.script o.stand [] name d e → Has (known_as name e) (map known_of (filter (is_created_old (snaps_held (slice_get w.targets 0))) r.script.olds))
      by None is made = absurd (one-of-any (Made r.script name e) [] made).1
      by (Some d) is old = subst (λ k. Has k (map known_of (filter (is_created_old (snaps_held (slice_get w.targets 0))) r.script.olds))) same (has-map known_of (filter (is_created_old (snaps_held (slice_get w.targets 0))) r.script.olds) d (has-filter (is_created_old (snaps_held (slice_get w.targets 0))) r.script.olds d (found-has (is_named name) r.script.olds d is) created))
        where
          first : (z : TargetState) × (slice_get w.targets 0 ≡ Some z)
          first = at-within w.targets 0 (let many : length w.targets ≡ r.script.targets = B.targets in let some : 0 < r.script.targets = A.some_target in omega (arith, many, some))

          created : is_created_old (snaps_held (slice_get w.targets 0)) d ≡ true
          created = subst (λ q. is_created_old (snaps_held q) d ≡ true) (sym first.1) (held first.0 d.cont d.epoch first.1 old.0)

          same : known_of d ≡ known_as name e
          same = ap (λ x. known_as x d.epoch) (sym ((same_key-Decides name d.name).0 (found-passes (is_named name) r.script.olds d is))) ∙ ap (known_as name) old.1

  -- and nothing else
  known-old : (n : ℕ) (c : ClientState) (k : KnownSnap) → slice_get w.clients n ≡ Some c → IsKnownSo r o w n k → StandsFor r.script o.stand [] k.name k.epoch
  known-old n c k here (IsFromBefore d m found same low kept created) = subst (λ q. IsCreated r.script o.stand [] k.name q k.epoch) (sym found) (ap is_some kept, same)
  known-old n c k here (IsOwnMade a own told m snapshot) = absurd (subst (Has (line.Try a)) B.lines told)

  pub names-begin : ReadsNameSnapshots r o w
  names-begin = record {
    knows = λ n c here name e t. subst (λ z. Has (known_as name e) z.known) (client-is n c here).1 (old-known name e (subst (λ ts. StandsFor r.script o.stand ts name e) (none-of n) t));
    known = λ n c here k i. subst (λ ts. StandsFor r.script o.stand ts k.name k.epoch) (sym (none-of n)) (known-old n c k here (F.known n c k here i));
    lines = subst (λ ts. EachTry (ReadsAsNamed r.script o.stand) (as_lines ts)) (sym no-tries) none;
    dated = λ a i. absurd (subst (Has a) no-tries i);
  }
    where
      none : EachTry (ReadsAsNamed r.script o.stand) []
      none [] a after e = let no : ⊥ = cc in absurd no
      none (l ∷ before) a after e = let no : ⊥ = cc in absurd no

pub runs-begin_named : RunsBeginNamed
runs-begin_named r o w A B held F = names-begin r o w A B held F

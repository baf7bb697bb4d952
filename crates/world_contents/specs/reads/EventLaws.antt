-- Every turn keeps the facts of versions and reads.
use Rattle.std.specs.Prelude.{ℕ, ◌≡◌, ◌⊎◌, ◌≤◌, ◌/◌, ◌++◌, ◌==◌, Bool, true, false, List, [], Contains, slice_get, Some, None, refl, Option}
use Rattle.std.proofs.Common.{sym, ◌∙◌, ap, subst, inl, inr}
use Rattle.std.proofs.Math.ListN.{set}
use Rattle.std.proofs.lemmas.List.Elements.{Contains-append_left}
use Rattle.base_types.specs.declared.entry.Verdict.{Verdict}
use Rattle.base_types.specs.declared.entry.Verdict.TheVariants as fate
use Rattle.base_types.specs.declared.epoch.Epoch.{Epoch}
use Rattle.base_types.specs.declared.id.AttemptId.{AttemptId}
use Rattle.base_types.specs.declared.operation.MinorWrite.{MinorWrite}
use Rattle.base_types.specs.declared.shown.Shown.{Shown}
use Rattle.model_laws.specs.Members.{Has, any-has, contains-from_has, has-cases, has-from_contains, has-right}
use Rattle.model_laws.specs.TargetLaws.{number_same, same_number}
use Rattle.base_messages.specs.declared.message.Message.{Message}
use Rattle.base_messages.specs.declared.message.Message.TheVariants as message
use Rattle.base_messages.specs.declared.message.Post.{Post}
use Rattle.daos_model.specs.declared.durable.Version.{Version}
use Rattle.daos_model.specs.BoolLaws.{clash}
use Rattle.daos_model.specs.Durables.{entry_of}
use Rattle.daos_model.specs.EntryLaws.{same_attempt-itself}
use Rattle.daos_model.specs.Forms.{is_read_in_form}
use Rattle.daos_model.specs.Opening.{Opening}
use Rattle.world_commit.specs.dtx_base.declared.leading.Undecided.{Undecided}
use Rattle.world_commit.specs.dtx_base.declared.member.Parked.{Parked}
use Rattle.world_commit.specs.dtx_base.Leading.{undecided_attempt}
use Rattle.world_commit.specs.dtx_base.Rows.{is_attempt, row_of}
use Rattle.world_commit.specs.attempts.Attempts.{Entries, IsOther, entry_at, entry_in, is_known_in, leader_of, row_in}
use Rattle.world_commit.specs.attempts.History.{History, Served}
use Rattle.world_commit.specs.world_base.declared.client.ClientState.{ClientState}
use Rattle.world_commit.specs.world_base.declared.did.Did.{Did}
use Rattle.world_commit.specs.world_base.declared.letter.Letter.{Letter}
use Rattle.world_commit.specs.world_base.declared.target.Life.TheVariants.{Running}
use Rattle.world_commit.specs.world_base.declared.target.TargetMemory.{TargetMemory}
use Rattle.world_commit.specs.world_base.declared.target.TargetState.{TargetState}
use Rattle.world_commit.specs.world_base.declared.world.World.{World}
use Rattle.world_commit.specs.world_base.Events.{ClientGoes, ClientHears, Rules, after_turn, kept, listed, target_after, target_plan, with_client, with_target}
use Rattle.world_commit.specs.world_base.Letters.{client, target}
use Rattle.world_commit.specs.world_base.StepLaws.{set-here, set-there}
use Rattle.world_contents.specs.reads.AckLaws.{ack-sound}
use Rattle.world_contents.specs.reads.AnswerLaws.{IsBarred}
use Rattle.world_contents.specs.reads.Beginning.{HasOpenRow, IsUndecidedAt, TurnBegins}
use Rattle.world_contents.specs.reads.ChangeLaws.{WasDecided}
use Rattle.world_contents.specs.reads.CommitLaws.{HearsCommit, MayBeStored, commit-sound, prepare-sound}
use Rattle.world_contents.specs.reads.Given.{Given, IsMessageRight, IsParkedRight}
use Rattle.world_contents.specs.reads.Growing.{Decides}
use Rattle.world_contents.specs.reads.LaterLaws.{grown-answers, grown-apart, grown-issued, grown-stands, grown-written}
use Rattle.world_contents.specs.reads.Keeping.{ClientsKeepReads, OthersKeepReads}
use Rattle.world_contents.specs.reads.MarkLaws.{IdleSound, idle-sound, mark-sound, marked-sound, query-sound}
use Rattle.world_contents.specs.reads.MemberLaws.{writes-member}
use Rattle.world_contents.specs.reads.Midway.{IsServedRight, IsStampOf, Sound, TurnLeaves}
use Rattle.world_contents.specs.reads.Reads.{IsAnsweredRight, IsGuarded, IsOfAttempt, Reads}
use Rattle.world_contents.specs.reads.Standing.{IsToldSo, IsVerdictSo, Knows}
use Rattle.world_contents.specs.reads.VerdictLaws.{IsVerdictRight, fetch-sound, verdict-sound}
use Rattle.world_contents.specs.reads.Versions.{IsWriteAt, Versions, VersionsStand}
use Rattle.world_commit.specs.world_base.Changes.{Kept}
use Rattle.world_commit.specs.world_base.RightTurns.{HearsRightly}
use Rattle.world_commit.specs.world_base.TargetTurns.{IdlesWhole, commit_request, fetch_request, prepare_request}
use Rattle.base_types.specs.declared.entry.Entry.{Entry}
use Rattle.world_commit.specs.world_base.Roles.{is_in_doubt}
use Rattle.world_commit.specs.world_letters.clients.Snapshots.{is_at_snapshot}

-- ---- before a turn

-- a target before its turn
module _ (r : Rules) (o : Opening) (held : ℕ → List Version) (h : History) (w : World) (b : Knows r o held h w) (t : ℕ) (s : TargetState) (here : slice_get w.targets t ≡ Some s) (runs : s.life ≡ Running) where
  -- the entry that is found at the target
  entry-here : (x : AttemptId) → entry_at w t x ≡ entry_of s.durable x
  entry-here x = ap (λ z. entry_in z x) here

  there : (q : Served) → q.target ≡ t → slice_get w.targets q.target ≡ Some s
  there q at = subst (λ n. slice_get w.targets n ≡ Some s) (sym at) here

  row-here : (x : AttemptId) (u : Undecided) → row_of undecided_attempt x s.memory.leader.undecided ≡ Some u → HasOpenRow r w t s x
  row-here x u row =
      let z = b.attempts.rows x t u (ap (λ y. row_in y x) here ∙ row) in
      let k = (b.attempts.entries x).one t z.entry z.found in
      record {
        entry = z.entry;
        found = sym (entry-here x) ∙ z.found;
        leads = k.leader ∙ sym z.leads;
        members = k.members;
        issued = contains-from_has w.issued (x, z.entry.epoch) k.issued;
      }

  known-here : (a : AttemptId) → Contains s.memory.leader.decided a → WasDecided h a
  known-here a i =
      let z = b.attempts.known a t (ap (λ y. is_known_in y a) here ∙ any-has (is_attempt a) s.memory.leader.decided a (has-from_contains s.memory.leader.decided a i) (same_attempt-itself a)) in
      (z.here.entry.epoch, z.decided)

  pub turn-begins : TurnBegins r o (held t) h w t s
  turn-begins = record {
    sound = record {
      stand = b.versions.stand t s here;
      shows = record {
        guarded = λ q i at. b.reads.guarded q s i (there q at) runs;
        leased = λ q i at. b.reads.leased q s i (there q at);
        barred = λ q v i at j f over. b.reads.barred q s v i (there q at) j f over;
        stamped = λ z i. let q = b.reads.stamps t s z here runs i in (q.0, q.1, q.2, (q.3, q.4, q.5, q.6));
      };
    };
    apart = b.versions.apart;
    decided = b.versions.issued;
    before = b.given.before t;
    above = b.given.above;
    alone = b.given.apart;
    forms = b.given.forms;
    fits = b.given.fits;
    issued = λ x e found. contains-from_has w.issued (x, e.epoch) ((b.attempts.entries x).one t e (entry-here x ∙ found)).issued;
    known = known-here;
    rows = row-here;
  }

  -- an attempt without an entry at its leader isn't decided
  unheld : (x : AttemptId) → t ≡ leader_of r x → entry_of s.durable x ≡ None → WasDecided h x → ⊥
  unheld x leads absent d =
      let z = (b.attempts.entries x).held_by_leader d.0 d.1 in
      let no : ⊥ = cc (sym z.found ∙ ap (λ n. entry_at w n x) (sym leads) ∙ entry-here x ∙ absent) in no

  -- ---- what it hears

  module _ (reading : ℕ) (l : Letter) (among : Has l w.messages) (to_it : l.to ≡ target t) where
    -- what it is told is so
    pub told-so : (m : Message) → l.message ≡ m → IsToldSo r h w t s l.from m
    told-so m is = subst (IsToldSo r h w t s l.from) is (b.attempts.told l t s among to_it here)

    pub verdict-right : (x : AttemptId) (v : Verdict) → IsVerdictSo h v x → IsVerdictRight r o (held t) h w t s turn-begins v x
    verdict-right x fate.Committed k = k
    verdict-right x fate.Aborted k = k
    verdict-right x fate.Undecided k = tt

    pub parked-right : (p : Parked) → Has p s.memory.member.parked → IsParkedRight r o w t s.durable p.ask
    parked-right p i = b.given.waiting t s p here runs i

    pub right : (m : Message) → l.message ≡ m → IsMessageRight r o w t s m
    right m is = subst (IsMessageRight r o w t s) is (b.given.asked l t s (contains-from_has w.messages l among) to_it here runs)

    -- a Commit is heard with what its turn needs
    pub commit-heard : (x : AttemptId) (ep first : Option Epoch) (tracker : Epoch) (ws : List MinorWrite) → l.message ≡ message.Commit x ep first tracker ws
        → HearsCommit r o (held t) h w t s turn-begins (commit_request x ep first tracker ws) reading
    commit-heard x ep first tracker ws is =
        let ok = right (message.Commit x ep first tracker ws) is in
        let absent = sym (entry-here x) ∙ ap (λ n. entry_at w n x) ok.0.leads ∙ (b.right.commits l x ep first tracker ws among is).unstored in
        record { right = ok.0; epochs = ok.1 reading; absent = absent; undecided = unheld x ok.0.leads absent }

    -- what a Prepare brings may be stored
    pub may-be-stored : (e : Entry) (first : Option Epoch) (ws : List MinorWrite) (inc : ℕ) → l.message ≡ message.Prepare e first ws inc → MayBeStored o h w s e.attempt e.epoch
    may-be-stored e first ws inc is =
        let z = told-so (message.Prepare e first ws inc) is in
        record {
          absent = sym (entry-here e.attempt) ∙ z.absent;
          undecided = z.undecided;
          above = b.given.above e.attempt e.epoch z.issued;
          alone = λ y f i same. b.given.apart y e.attempt f e.epoch i z.issued same;
        }

    -- where it hears an Ack, its rows are of undecided attempts
    abbrev pub IsAckPlain : Message → Type 0
    IsAckPlain (message.Ack x inc refusal) = IsUndecidedAt h s x
    IsAckPlain m = Unit {0}

    pub hears-sound : (new : Kept) (left : TargetMemory × Did) (m : Message) → l.message ≡ m → IsAckPlain m → HearsRightly (target_plan r t) s.opening s.memory reading l.from m (kept s) new left
        → TurnLeaves r o (held t) h w s.opening t m s.memory.member.parked new left
    hears-sound new left (message.Fetch x op group ep first tracker read snapshot) is plain turn =
        let ok = right (message.Fetch x op group ep first tracker read snapshot) is in
        fetch-sound r o (held t) h w t s turn-begins reading (fetch_request x op group ep first tracker read snapshot) l.from ok.0 (ok.1 reading) new left turn
    hears-sound new left (message.Commit x ep first tracker ws) is plain turn =
        commit-sound r o (held t) h w t s turn-begins (commit_request x ep first tracker ws) reading (commit-heard x ep first tracker ws is) l.from (message.Commit x ep first tracker ws) new left turn
    hears-sound new left (message.Prepare e first ws inc) is plain turn =
        let z = told-so (message.Prepare e first ws inc) is in
        prepare-sound r o (held t) h w t s turn-begins (prepare_request e first ws inc) (message.Prepare e first ws inc) z.entry z.writes (may-be-stored e first ws inc is) new left turn
    hears-sound new left (message.Ack x inc refusal) is plain turn =
        ack-sound r o (held t) h w t s turn-begins l.from.number x inc refusal (message.Ack x inc refusal) plain (right (message.Ack x inc refusal) is) new left turn
    hears-sound new left (message.Mark inc marks) is plain turn = mark-sound r o (held t) h w t s turn-begins l.from inc marks (message.Mark inc marks) (told-so (message.Mark inc marks) is) new left turn
    hears-sound new left (message.Marked inc ids) is plain turn = marked-sound r o (held t) h w t s turn-begins l.from.number inc ids (message.Marked inc ids) new left turn
    hears-sound new left (message.Query x ask) is plain turn = query-sound r o (held t) h w t s turn-begins l.from x ask (message.Query x ask) new left turn
    hears-sound new left (message.Verdict x ask inc v) is plain turn =
        verdict-sound r o (held t) h w t s turn-begins (is_in_doubt t) reading x ask v (message.Verdict x ask inc v) (verdict-right x v (told-so (message.Verdict x ask inc v) is)) parked-right new left turn
    hears-sound new left m is plain turn = absurd turn

-- ---- after it

-- of the targets after a turn, one is new, and the others are as they were
pub at-or-there : (targets : List TargetState) (t : ℕ) (s new : TargetState) → slice_get targets t ≡ Some s → (u : ℕ) (z : TargetState) → slice_get (set targets t new) u ≡ Some z
    → ((u ≡ t) × (z ≡ new)) ⊎ ((u ≡ t → ⊥) × (slice_get targets u ≡ Some z))
at-or-there targets t s new here u z at = by (u == t) refl
  where
    by : (b : Bool) → (u == t) ≡ b → ((u ≡ t) × (z ≡ new)) ⊎ ((u ≡ t → ⊥) × (slice_get targets u ≡ Some z))
    by true e =
        let same : u ≡ t = number_same u t e in
        let found : slice_get (set targets t new) t ≡ Some z = subst (λ n. slice_get (set targets t new) n ≡ Some z) same at in
        let now : Some new ≡ Some z = sym (set-here targets t s new here) ∙ found in
        let is : new ≡ z = cc in
        inl (same, sym is)
    by false e =
        let apart : u ≡ t → ⊥ = λ same. clash (u == t) (ap (λ n. n == t) same ∙ same_number t) e in
        inr (apart, sym (set-there targets t u new apart) ∙ at)

abbrev pub After : World → ℕ → TargetState → Kept → TargetMemory × Did → List Letter → World
After w t s new left rest = with_target t (target_after s new left.0) (after_turn w (target t) left.1 rest)

-- what a turn left is sound of these reads, of which some are served in it
module _ (r : Rules) (o : Opening) (held : ℕ → List Version) (h : History) (w : World) (b : Knows r o held h w) (t : ℕ) (s : TargetState) (new : Kept) (left : TargetMemory × Did) (rest : List Letter) (here : slice_get w.targets t ≡ Some s)
    (more : List Served) (right : (q : Served) → Has q more → IsServedRight r o h t (w.issued ++ listed left.1.issued) q) (sound : Sound r o (held t) h (more ++ h.served) s.opening t new.durable left.0.stamps) where
  abbrev Now : World
  Now = After w t s new left rest

  placed : (u : ℕ) (z : TargetState) → slice_get (set w.targets t (target_after s new left.0)) u ≡ Some z → ((u ≡ t) × (z ≡ target_after s new left.0)) ⊎ ((u ≡ t → ⊥) × (slice_get w.targets u ≡ Some z))
  placed u z at = at-or-there w.targets t s (target_after s new left.0) here u z at

  -- what each target keeps stands for what was decided before
  stand-now : (u : ℕ) (z : TargetState) → slice_get Now.targets u ≡ Some z → VersionsStand r o (held u) h u z.durable
  stand-now u z at = elim (placed u z at) [
    | inl k ↦ subst (λ n. VersionsStand r o (held n) h n z.durable) (sym k.0) (subst (λ y. VersionsStand r o (held t) h t y.durable) (sym k.1) sound.stand)
    | inr k ↦ b.versions.stand u z k.1
  ]

  -- a read that was served elsewhere was served before
  old : (q : Served) → Has q (more ++ h.served) → (q.target ≡ t → ⊥) → Has q h.served
  old q i apart = elim (has-cases more h.served q i) [ inl j ↦ absurd (apart (right q j).here) | inr j ↦ j ]

  barred-now : (q : Served) → Has q (more ++ h.served) → (z : TargetState) → slice_get Now.targets q.target ≡ Some z → IsBarred z.durable q
  barred-now q i z at v j f over = elim (placed q.target z at) [
    | inl k ↦ sound.shows.barred q v i k.0 (subst (λ y. Contains y.durable.versions v) k.1 j) f over
    | inr k ↦ b.reads.barred q z v (old q i k.0) k.1 j f over
  ]

  asked-now : (q : Served) → Has q (more ++ h.served) → IsOfAttempt r q
  asked-now q i = elim (has-cases more h.served q i) [ inl j ↦ (right q j).asked | inr j ↦ b.reads.asked q j ]

  form-now : (q : Served) → Has q (more ++ h.served) → is_read_in_form q.read ≡ true
  form-now q i = elim (has-cases more h.served q i) [ inl j ↦ (right q j).form | inr j ↦ b.reads.form q j ]

  right-now : (q : Served) → Has q (more ++ h.served) → IsAnsweredRight r o h q
  right-now q i = elim (has-cases more h.served q i) [ inl j ↦ (right q j).right | inr j ↦ b.reads.answers q j ]

  issued-now : (q : Served) → Has q (more ++ h.served) → is_at_snapshot r q.by ≡ false → Contains (w.issued ++ listed left.1.issued) (q.by, q.epoch)
  issued-now q i off = elim (has-cases more h.served q i) [ inl j ↦ (right q j).its off | inr j ↦ Contains-append_left w.issued (listed left.1.issued) (q.by, q.epoch) (b.reads.issued q j off) ]

  -- the facts of reads, of a history in which just these were served
  reads-now : (g : History) → g.served ≡ more ++ h.served → ((q : Served) → Has q (more ++ h.served) → IsAnsweredRight r o g q) → Reads r o g Now
  reads-now g same answers = record {
    asked = λ q i. asked-now q (of q i);
    form = λ q i. form-now q (of q i);
    issued = λ q i off. issued-now q (of q i) off;
    answers = λ q i. answers q (of q i);
    guarded = λ q z i at runs. elim (placed q.target z at) [
      | inl k ↦ subst (λ y. IsGuarded y q) (sym k.1) (sound.shows.guarded q (of q i) k.0)
      | inr k ↦ b.reads.guarded q z (old q (of q i) k.0) k.1 runs
    ];
    leased = λ q z i at. elim (placed q.target z at) [
      | inl k ↦ subst (λ y. q.epoch.0 / 256 ≤ y.durable.lease) (sym k.1) (sound.shows.leased q (of q i) k.0)
      | inr k ↦ b.reads.leased q z (old q (of q i) k.0) k.1
    ];
    barred = λ q z v i at j f over. barred-now q (of q i) z at v j f over;
    stamps = λ u z y at runs i. let q = stamp u z y at runs i in (q.0, q.1, q.2, q.3.0, q.3.1, q.3.2, q.3.3);
  }
    where
      of : (q : Served) → Has q g.served → Has q (more ++ h.served)
      of q i = subst (Has q) same i

      stamp-here : (u : ℕ) (y : Shown) → u ≡ t → (q : Served) × Has q (more ++ h.served) × (q.target ≡ t) × IsStampOf r y q → (q : Served) × Has q g.served × (q.target ≡ u) × IsStampOf r y q
      stamp-here u y at z = (z.0, subst (Has z.0) (sym same) z.1, z.2 ∙ sym at, z.3)

      stamp : (u : ℕ) (z : TargetState) (y : Shown) → slice_get Now.targets u ≡ Some z → z.life ≡ Running → Contains z.memory.stamps y → (q : Served) × Has q g.served × (q.target ≡ u) × IsStampOf r y q
      stamp u z y at runs i = elim (placed u z at) [
        | inl k ↦ stamp-here u y k.0 (sound.shows.stamped y (subst (λ n. Contains n.memory.stamps y) k.1 i))
        | inr k ↦ let q = b.reads.stamps u z y k.1 runs i in (q.0, subst (Has q.0) (sym same) (has-right more h.served q.0 q.1), q.2, (q.3, q.4, q.5, q.6))
      ]

-- the members of an attempt are where it writes
pub its-members : (r : Rules) (o : Opening) (held : ℕ → List Version) (w : World) → Given r o held w → (x : AttemptId) (m : MinorWrite) (u : ℕ) → IsWriteAt r x u m → (u ≡ leader_of r x) ⊎ IsOther r x u
its-members r o held w given x m u at = writes-member r x u m given.few (given.fits x m at.of_it) at

-- ---- turns

-- a target's turn, by which these attempts are decided, those aborted, and these reads served
module _ (r : Rules) (o : Opening) (held : ℕ → List Version) (h : History) (w : World) (b : Knows r o held h w) (t : ℕ) (s : TargetState) (new : Kept) (left : TargetMemory × Did) (rest : List Letter) (here : slice_get w.targets t ≡ Some s)
    (more : List Served) (right : (q : Served) → Has q more → IsServedRight r o h t (w.issued ++ listed left.1.issued) q) (sound : Sound r o (held t) h (more ++ h.served) s.opening t new.durable left.0.stamps)
    (posts : List Post) (told : List (AttemptId × Epoch)) (decides : Decides r o h (w.issued ++ listed left.1.issued) posts told) (aborted : List AttemptId) where
  abbrev pub Then : History
  Then = record { decided = told ++ h.decided; aborted = aborted; served = more ++ h.served }

  abbrev issued : List (AttemptId × Epoch)
  issued = w.issued ++ listed left.1.issued

  members : (x : AttemptId) (m : MinorWrite) (u : ℕ) → IsWriteAt r x u m → (u ≡ leader_of r x) ⊎ IsOther r x u
  members = its-members r o held w b.given

  stand : (u : ℕ) (z : TargetState) → slice_get (After w t s new left rest).targets u ≡ Some z → VersionsStand r o (held u) h u z.durable
  stand = stand-now r o held h w b t s new left rest here more right sound

  -- it keeps the facts of versions and reads, where what is decided then is held
  pub turn-keeps : ((x : AttemptId) → Entries r Then (After w t s new left rest) x) → Versions r o held Then (After w t s new left rest) × Reads r o Then (After w t s new left rest)
  turn-keeps entries = (
    record {
      stand = grown-stands r o held h (After w t s new left rest) issued aborted (more ++ h.served) members b.versions.apart stand posts told decides entries;
      apart = grown-apart r o held h (After w t s new left rest) issued aborted (more ++ h.served) members b.versions.apart stand posts told decides;
      issued = grown-issued r o held h (After w t s new left rest) issued aborted (more ++ h.served) members b.versions.apart stand posts told decides (λ x e i. Contains-append_left w.issued (listed left.1.issued) (x, e) (b.versions.issued x e i));
      written = grown-written r o held h (After w t s new left rest) issued aborted (more ++ h.served) members b.versions.apart stand posts told decides b.versions.written;
    },
    reads-now r o held h w b t s new left rest here more right sound Then refl answers,
  )
    where
      answers : (q : Served) → Has q (more ++ h.served) → IsAnsweredRight r o Then q
      answers q i =
          grown-answers r o held h (After w t s new left rest) issued aborted (more ++ h.served) members b.versions.apart stand posts told decides entries q
          (barred-now r o held h w b t s new left rest here more right sound q i)
          (asked-now r o held h w b t s new left rest here more right sound q i)
          (form-now r o held h w b t s new left rest here more right sound q i)
          (right-now r o held h w b t s new left rest here more right sound q i)

-- a target that does its idle work decides and serves nothing
module _ (r : Rules) (o : Opening) (held : ℕ → List Version) (h : History) (w : World) (b : Knows r o held h w) (settling : Bool) (t : ℕ) (s : TargetState) (new : Kept) (left : TargetMemory × Did) (here : slice_get w.targets t ≡ Some s) (runs : s.life ≡ Running)
    (turn : IdlesWhole settling (target_plan r t) s.memory (kept s) new left) where
  pub idle-leaves : IdleSound r o (held t) h w t s (turn-begins r o held h w b t s here runs) new left
  idle-leaves = idle-sound r o (held t) h w t s (turn-begins r o held h w b t s here runs) settling new left turn

  none : (q : Served) → Has q [] → IsServedRight r o h t (w.issued ++ listed left.1.issued) q
  none q i = absurd i

  pub idle-keeps : Versions r o held h (After w t s new left w.messages) × Reads r o h (After w t s new left w.messages)
  idle-keeps = (
    record {
      stand = stand-now r o held h w b t s new left w.messages here [] none idle-leaves.sound;
      apart = b.versions.apart;
      issued = λ x e i. Contains-append_left w.issued (listed left.1.issued) (x, e) (b.versions.issued x e i);
      written = b.versions.written;
    },
    reads-now r o held h w b t s new left w.messages here [] none idle-leaves.sound h refl b.reads.answers,
  )

-- ---- where no target changes

pub others-keep : OthersKeepReads
others-keep r o held h w v same more k l = (
  record {
    stand = λ t s at. k.stand t s (back t s at);
    apart = k.apart;
    issued = λ x e i. more (x, e) (k.issued x e i);
    written = k.written;
  },
  record {
    asked = l.asked;
    form = l.form;
    issued = λ q i off. more (q.by, q.epoch) (l.issued q i off);
    answers = l.answers;
    guarded = λ q s i at runs. l.guarded q s i (back q.target s at) runs;
    leased = λ q s i at. l.leased q s i (back q.target s at);
    barred = λ q s u i at j f over. l.barred q s u i (back q.target s at) j f over;
    stamps = λ t s z at runs i. l.stamps t s z (back t s at) runs i;
  },
)
  where
    back : (t : ℕ) (s : TargetState) → slice_get v.targets t ≡ Some s → slice_get w.targets t ≡ Some s
    back t s at = subst (λ ts. slice_get ts t ≡ Some s) same at

pub clients-keep : ClientsKeepReads
clients-keep r o held h w v k l e = by e
  where
    after : (n : ℕ) (d : ClientState) (did : Did) (rest : List Letter) → v ≡ with_client n d (after_turn w (client n) did rest) → Versions r o held h v × Reads r o h v
    after n d did rest is =
        others-keep r o held h w v (ap (λ u. u.targets) is) (λ i j. subst (λ u. Contains u.issued i) (sym is) (Contains-append_left w.issued (listed did.issued) i j)) k l

    by : ClientGoes r w v ⊎ ClientHears r w v → Versions r o held h v × Reads r o h v
    by (inl g) = after g.n g.d g.did w.messages g.after
    by (inr g) = after g.n g.d g.did g.rest g.after

-- A turn in which a target stores an attempt's writes leaves what it keeps and serves sound: one that hears a Commit, or a Prepare.
use Rattle.std.specs.Prelude.{ℕ, ◌≡◌, ◌≢◌, ◌≤◌, ◌<◌, ◌/◌, ◌++◌, Bool, true, false, List, [], ◌∷◌, filter, find, map, Contains, Option, Some, None, refl, if◌then◌else◌, max}
use Rattle.std.specs.List.{list_any}
use Rattle.std.proofs.Common.{sym, ◌∙◌, ap, subst, inl, inr, arith}
use Rattle.std.proofs.lemmas.List.Elements.{Contains-append_left, Contains-push}
use Rattle.base_types.specs.declared.entry.Entry.{Entry}
use Rattle.base_types.specs.declared.epoch.Epoch.{Epoch}
use Rattle.base_types.specs.declared.id.AttemptId.{AttemptId}
use Rattle.base_types.specs.declared.operation.MinorWrite.{MinorWrite}
use Rattle.base_types.specs.declared.outcome.Outcome.TheVariants.{Committed}
use Rattle.base_types.specs.Epochs.{lease_for}
use Rattle.base_types.specs.Operations.{write_path}
use Rattle.base_types.specs.Placement.{path_members}
use Rattle.model_laws.specs.Members.{Has, any-has, contains-from_has, has-any, has-filter, has-from_contains, has-from_filter, has-from_map}
use Rattle.model_laws.specs.TargetLaws.{number_same, same_number}
use Rattle.base_messages.specs.declared.actor.ActorId.{ActorId}
use Rattle.base_messages.specs.declared.message.Message.{Message}
use Rattle.base_messages.specs.declared.message.Message.TheVariants.{Ended}
use Rattle.base_messages.specs.declared.message.Post.{Post}
use Rattle.daos_model.specs.declared.durable.Durable.{Durable}
use Rattle.daos_model.specs.declared.durable.Version.{Version}
use Rattle.daos_model.specs.Changes.{leased}
use Rattle.daos_model.specs.Durables.{entry_of, is_entry_of, row_of}
use Rattle.daos_model.specs.Forms.{AreWritesInForm}
use Rattle.daos_model.specs.Opening.{Opening, top}
use Rattle.world_commit.specs.dtx_base.Leading.{LeaderOf, begun, begun_alone, begun_with_others, prepare_to}
use Rattle.world_commit.specs.dtx_base.Members.{is_written_at, other_members, writes_at}
use Rattle.world_commit.specs.dtx_base.Rows.{is_empty}
use Rattle.world_commit.specs.attempts.Attempts.{first_entry, writes_of}
use Rattle.world_commit.specs.attempts.History.{Decided, History}
use Rattle.world_commit.specs.world_base.declared.did.Did.{Did}
use Rattle.world_commit.specs.world_base.declared.request.CommitRequest.{CommitRequest}
use Rattle.world_commit.specs.world_base.declared.request.PrepareRequest.{PrepareRequest}
use Rattle.world_commit.specs.world_base.declared.target.TargetMemory.{TargetMemory}
use Rattle.world_commit.specs.world_base.declared.target.TargetState.{TargetState}
use Rattle.world_commit.specs.world_base.declared.world.World.{World}
use Rattle.world_commit.specs.world_base.Events.{Rules, kept, listed, target_plan}
use Rattle.world_contents.specs.reads.Adds.{NoneIs, is_answer, is_end, none-answered}
use Rattle.world_contents.specs.reads.Beginning.{TurnBegins}
use Rattle.world_contents.specs.reads.ChangeLaws.{WasDecided}
use Rattle.world_contents.specs.reads.DecideLaws.{MayBeDecided}
use Rattle.world_contents.specs.reads.Given.{IsCommitRight, IsItsEpoch}
use Rattle.world_contents.specs.reads.Growing.{NoneMore, OneMore, committed_in}
use Rattle.world_contents.specs.reads.GrowLaws.{none-committed}
use Rattle.world_contents.specs.reads.ListLaws.{some-in_form}
use Rattle.world_contents.specs.reads.Midway.{Sound, TurnLeaves}
use Rattle.world_contents.specs.reads.StepLaws.{extends-sound, stores-sound}
use Rattle.world_contents.specs.reads.StoreLaws.{AreItsOwn, IsNewEntry, epoch-alone}
use Rattle.world_contents.specs.reads.Versions.{IsWriteAt}
use Rattle.world_commit.specs.world_base.ChangeLaws.{entries-leased}
use Rattle.world_commit.specs.world_base.Changes.{Change, Kept, Steps}
use Rattle.world_commit.specs.world_base.Commits as commit
use Rattle.world_commit.specs.world_base.PathLaws.{reached-keeps}
use Rattle.world_commit.specs.world_base.Prepares as prepare
use Rattle.world_commit.specs.world_base.Requests.{issued_for, request_epoch, sends, with_ticks}
use Rattle.world_commit.specs.world_base.Roles.{leader_at, leads_on}
use Rattle.world_commit.specs.world_base.Turns.{Whole}
use Rattle.vos_store.specs.Answers.{floor_of}
use Rattle.world_commit.specs.world_base.Commits.{IsAllowed}
use Rattle.world_contents.specs.reads.ShowLaws.{floor-stored, floors-above}

-- ---- the writes that a target holds

-- those of a list that a test finds to be of the target's groups are its own, where the list is what the attempt writes
own-by : (r : Rules) (x : AttemptId) (t : ℕ) (test : MinorWrite → Bool) → ((m : MinorWrite) → test m ≡ list_any (commit.is_number t) (path_members (write_path m.write) r.script.targets)) → AreWritesInForm (writes_of r x)
    → AreItsOwn r x t (filter test (writes_of r x))
own-by r x t test is form = record {
  from = λ m i. from m (has-from_filter test (writes_of r x) m i);
  all = λ m at. has-filter test (writes_of r x) m (has-from_contains (writes_of r x) m at.of_it)
      (is m ∙ any-has (commit.is_number t) (path_members (write_path m.write) r.script.targets) t (has-from_contains (path_members (write_path m.write) r.script.targets) t at.here) (same_number t));
  form = some-in_form test (writes_of r x) form;
}
  where
    from : (m : MinorWrite) → Has m (writes_of r x) × (test m ≡ true) → IsWriteAt r x t m
    from m i =
        let u = has-any (commit.is_number t) (path_members (write_path m.write) r.script.targets) (sym (is m) ∙ i.1) in
        record {
          of_it = contains-from_has (writes_of r x) m i.0;
          here = contains-from_has (path_members (write_path m.write) r.script.targets) t (subst (λ n. Has n (path_members (write_path m.write) r.script.targets)) (number_same u.0 t u.2) u.1);
        }

pub prepare-own : (r : Rules) (x : AttemptId) (t : ℕ) → AreWritesInForm (writes_of r x) → AreItsOwn r x t (writes_at r.script.targets t (writes_of r x))
unfolding is_written_at
prepare-own r x t form = own-by r x t (is_written_at r.script.targets t) (λ m. refl) form

commit-own : (r : Rules) (x : AttemptId) (t : ℕ) → AreWritesInForm (writes_of r x) → AreItsOwn r x t (commit.own_writes (target_plan r t) (writes_of r x))
commit-own r x t form = own-by r x t (commit.is_own (target_plan r t)) (λ m. refl) form

-- ---- what may be stored

-- an attempt may be stored: it has no entry here and isn't decided, and its epoch is its own
pub record MayBeStored (o : Opening) (h : History) (w : World) (s : TargetState) (x : AttemptId) (e : Epoch) : Type 0 where
  pub absent : entry_of s.durable x ≡ None
  pub undecided : WasDecided h x → ⊥
  pub above : top o < e.0
  pub alone : (y : AttemptId) (f : Epoch) → Contains w.issued (y, f) → f.0 ≡ e.0 → y ≡ x

entries-same : (d f : Durable) (x : AttemptId) → f.entries ≡ d.entries → entry_of f x ≡ entry_of d x
unfolding entry_of
entries-same d f x same = ap (λ es. find (is_entry_of x) es) same

-- in the middle of a turn, the entries are those of its beginning
module _ (r : Rules) (o : Opening) (held : List Version) (h : History) (w : World) (t : ℕ) (s : TargetState) (b : TurnBegins r o held h w t s) where
  abbrev pub SoundAt : Durable → Type 0
  SoundAt d = Sound r o held h h.served s.opening t d s.memory.stamps

  abbrev pub MidAt : Durable → Type 0
  MidAt d = SoundAt d × (d.entries ≡ s.durable.entries)

  leases-at : (d : Durable) (n ticks : ℕ) → d.lease < n → lease_for n ≡ Some ticks → MidAt d → MidAt (leased ticks d)
  leases-at d n ticks low is k = (extends-sound r o held h h.served s.opening t s.memory.stamps d n ticks low is k.0, entries-leased ticks d ∙ k.1)

  -- so what may be stored is new then
  new-at : (d : Durable) (k : Entry) → k.committed ≡ false → MayBeStored o h w s k.attempt k.epoch → k.epoch.0 / 256 ≤ d.lease
      → (ws : List MinorWrite) (first : Option Epoch) → IsAllowed (target_plan r t) s.opening first k.epoch d s.memory.stamps ws → MidAt d → IsNewEntry h d k ws
  new-at d k open' may covered ws first allowed mid = record {
    open' = open';
    absent = entries-same s.durable d k.attempt mid.1 ∙ may.absent;
    undecided = may.undecided;
    alone = epoch-alone r o held h w t d k.attempt k.epoch b.before b.decided (λ x e found. b.issued x e (sym (entries-same s.durable d x mid.1) ∙ found)) may.above may.alone may.undecided
        (entries-same s.durable d k.attempt mid.1 ∙ may.absent) mid.0.stand;
    covered = covered;
    clear = λ m i. clear m (floors-above (target_plan r t) s.opening k.epoch d ws allowed.floors m i);
  }
    where
      clear : (m : MinorWrite) → (floor_of s.opening d (write_path m.write).cont).0.0 < k.epoch.0 → (row_of d (write_path m.write).cont).aggregated.0 < k.epoch.0
      clear m up =
          let low : (row_of d (write_path m.write).cont).aggregated.0 ≤ max (top o) (row_of d (write_path m.write).cont).floor.0 = mid.0.stand.aggregated (write_path m.write).cont in
          let least : (row_of d (write_path m.write).cont).floor.0 ≤ (floor_of s.opening d (write_path m.write).cont).0.0 = floor-stored s.opening d (write_path m.write).cont in
          let above : top o < k.epoch.0 = may.above in
          omega (arith, low, least, above, up)

  -- ---- a Prepare

  abbrev pub PrepareMid : PrepareRequest → prepare.PrepareStage → Kept → Type 0
  PrepareMid q prepare.Heard k = MidAt k.durable
  PrepareMid q prepare.Checking k = MidAt k.durable × (q.entry.epoch.0 / 256 ≤ k.durable.lease)
  PrepareMid q prepare.Stored k = SoundAt k.durable

  pub prepare-step : (q : PrepareRequest) → q.entry.committed ≡ false → AreItsOwn r q.entry.attempt t q.writes → MayBeStored o h w s q.entry.attempt q.entry.epoch
      → (g : prepare.PrepareStage) (k : Kept) (c : Option Change) (u : prepare.PrepareStage) (l : Kept) → prepare.PrepareNext (target_plan r t) s.opening s.memory q g k c u → Steps c k l → PrepareMid q g k → PrepareMid q u l
  prepare-step q open' own may g k c u l (prepare.ExtendsLease k' lease low is) steps p = subst MidAt (sym steps.0) (leases-at k.durable (q.entry.epoch.0 / 256) lease low is p)
  prepare-step q open' own may g k c u l (prepare.IsCovered k' le) steps p = (subst (λ n. MidAt n.durable) (sym steps) p, subst (λ n. q.entry.epoch.0 / 256 ≤ n.durable.lease) (sym steps) le)
  prepare-step q open' own may g k c u l (prepare.Stores k' allowed space) steps p =
      subst SoundAt (sym steps.0)
      (stores-sound r o held h h.served s.opening t s.memory.stamps k.durable q.entry q.writes (target_plan r t) q.first (new-at k.durable q.entry open' may p.1 q.writes q.first allowed p.0) own allowed p.0.0)

  -- nothing is decided or served
  pub leaves-quiet : (m : Message) (k : Kept) (n : TargetMemory) (did : Did) → n.stamps ≡ s.memory.stamps → NoneIs is_answer did.posts → committed_in did.posts ≡ [] → SoundAt k.durable
      → TurnLeaves r o held h w s.opening t m s.memory.member.parked k (n, did)
  leaves-quiet m k n did same silent none sound = record {
    more = [];
    right = λ q i. absurd i;
    sound = subst (Sound r o held h h.served s.opening t k.durable) (sym same) sound;
    answered = none-answered h.served t m s.memory.member.parked did.posts silent;
    told = [];
    decides = NoneMore none;
  }

  -- one message is sent, which is no answer
  pub only-one : (p : Post) → is_answer p.message ≡ false → NoneIs is_answer (p ∷ [])
  only-one p silent q (inl same) = ap (λ z. is_answer z.message) same ∙ silent
  only-one p silent q (inr i) = absurd i

  prepare-ends : (q : PrepareRequest) (m : Message) (g : prepare.PrepareStage) (k : Kept) (left : TargetMemory × Did) → prepare.PrepareEnds (target_plan r t) s.opening s.memory q g k left → PrepareMid q g k
      → TurnLeaves r o held h w s.opening t m s.memory.member.parked k left
  prepare-ends q m g k left (prepare.IsRefused k' c z why is) p = subst (TurnLeaves r o held h w s.opening t m s.memory.member.parked k) (sym is) (leaves-quiet m k _ _ refl (only-one _ refl) refl p.0.0)
  prepare-ends q m g k left (prepare.HasNoSpace k' z allowed few is) p = subst (TurnLeaves r o held h w s.opening t m s.memory.member.parked k) (sym is) (leaves-quiet m k _ _ refl (only-one _ refl) refl p.0.0)
  prepare-ends q m g k left (prepare.IsPrepared k' z is) p = subst (TurnLeaves r o held h w s.opening t m s.memory.member.parked k) (sym is) (leaves-quiet m k _ _ refl (only-one _ refl) refl p)

  -- the whole turn
  pub prepare-sound : (q : PrepareRequest) (m : Message) → q.entry ≡ first_entry r q.entry.attempt q.entry.epoch → q.writes ≡ writes_at r.script.targets t (writes_of r q.entry.attempt) → MayBeStored o h w s q.entry.attempt q.entry.epoch
      → (new : Kept) (left : TargetMemory × Did) → Whole (prepare.PrepareNext (target_plan r t) s.opening s.memory q) (prepare.PrepareEnds (target_plan r t) s.opening s.memory q) prepare.Heard (kept s) new left
      → TurnLeaves r o held h w s.opening t m s.memory.member.parked new left
  prepare-sound q m entry writes may new left turn =
      prepare-ends q m turn.last new left turn.ends
      (reached-keeps (prepare.PrepareNext (target_plan r t) s.opening s.memory q) (PrepareMid q)
      (prepare-step q (ap (λ e. e.committed) entry) (subst (AreItsOwn r q.entry.attempt t) (sym writes) (prepare-own r q.entry.attempt t (b.forms q.entry.attempt))) may)
      prepare.Heard (kept s) turn.last new turn.reached (b.sound, refl))

  -- ---- a Commit

  -- what a Commit is heard with
  pub record HearsCommit (q : CommitRequest) (reading : ℕ) : Type 0 where
    pub right : IsCommitRight r t q.attempt q.writes
    pub epochs : (e : Epoch) → request_epoch (target_plan r t) s.memory reading q.tracker q.ep ≡ Some e → IsItsEpoch o w q.attempt q.ep e
    pub absent : entry_of s.durable q.attempt ≡ None
    pub undecided : WasDecided h q.attempt → ⊥

  module _ (q : CommitRequest) (reading : ℕ) (c : HearsCommit q reading) where
    abbrev pub HasEpoch : Epoch → Type 0
    HasEpoch e = request_epoch (target_plan r t) s.memory reading q.tracker q.ep ≡ Some e

    abbrev pub CommitMid : commit.CommitStage → Kept → Type 0
    CommitMid commit.Asked k = MidAt k.durable
    CommitMid (commit.Known e) k = MidAt k.durable × HasEpoch e
    CommitMid (commit.Checking e) k = MidAt k.durable × HasEpoch e × (e.0 / 256 ≤ k.durable.lease)
    CommitMid (commit.Stored e) k = SoundAt k.durable × HasEpoch e

    may-store : (e : Epoch) → HasEpoch e → MayBeStored o h w s q.attempt e
    may-store e has = let its = c.epochs e has in record { absent = c.absent; undecided = c.undecided; above = its.above; alone = its.alone }

    own : AreItsOwn r q.attempt t (commit.own_writes (target_plan r t) q.writes)
    own = subst (λ ws. AreItsOwn r q.attempt t (commit.own_writes (target_plan r t) ws)) (sym c.right.its) (commit-own r q.attempt t (b.forms q.attempt))

    pub commit-step : (g : commit.CommitStage) (k : Kept) (n : Option Change) (u : commit.CommitStage) (l : Kept) → commit.CommitNext (target_plan r t) s.opening s.memory reading q g k n u → Steps n k l → CommitMid g k → CommitMid u l
    commit-step g k n u l (commit.HasEpoch k' e its) steps p = (subst (λ j. MidAt j.durable) (sym steps) p, its)
    commit-step g k n u l (commit.ExtendsLease k' e lease low is) steps p = (subst MidAt (sym steps.0) (leases-at k.durable (e.0 / 256) lease low is p.0), p.1)
    commit-step g k n u l (commit.IsCovered k' e le) steps p = (subst (λ j. MidAt j.durable) (sym steps) p.0, p.1, subst (λ j. e.0 / 256 ≤ j.durable.lease) (sym steps) le)
    commit-step g k n u l (commit.Stores k' e allowed space) steps p = (
      subst SoundAt (sym steps.0)
          (stores-sound r o held h h.served s.opening t s.memory.stamps k.durable (commit.led_entry (target_plan r t) q e) (commit.own_writes (target_plan r t) q.writes) (target_plan r t) q.first
          (new-at k.durable (commit.led_entry (target_plan r t) q e) refl (may-store e p.1) p.2 (commit.own_writes (target_plan r t) q.writes) q.first allowed p.0) own allowed p.0.0),
      p.1,
    )

    -- the epoch of the request was issued, or is now
    issued-now : (e : Epoch) → HasEpoch e → Contains (w.issued ++ listed (issued_for q.attempt q.ep e)) (q.attempt, e)
    issued-now e has = by q.ep refl
      where
        by : (ep : Option Epoch) → q.ep ≡ ep → Contains (w.issued ++ listed (issued_for q.attempt ep e)) (q.attempt, e)
        by None is = Contains-push w.issued (q.attempt, e)
        by (Some f) is =
            let one : Some f ≡ Some e = sym (ap (λ ep. request_epoch (target_plan r t) s.memory reading q.tracker ep) is) ∙ has in
            Contains-append_left w.issued [] (q.attempt, e) ((c.epochs e has).own e (is ∙ one))

    may-decide : (e : Epoch) → HasEpoch e → MayBeDecided r o h q.attempt e
    may-decide e has =
        let its = c.epochs e has in
        record { undecided = c.undecided; alone = alone its; above = its.above; form = b.forms q.attempt; fits = b.fits q.attempt }
      where
        alone : IsItsEpoch o w q.attempt q.ep e → (y : AttemptId) (f : Epoch) → Decided h y f → f.0 ≢ e.0
        alone its y f is same = c.undecided (f, subst (λ x. Decided h x f) (its.alone y f (b.decided y f is) same) is)

    writes-some : writes_of r q.attempt ≢ []
    writes-some none = c.right.some (c.right.its ∙ none)

    -- the attempt begins: it is decided at once where it has no other member
    begin-leaves : (from : ActorId) (m : Message) (k : Kept) (e : Epoch) (others : Bool) → HasEpoch e → SoundAt k.durable → (l : LeaderOf)
        → TurnLeaves r o held h w s.opening t m s.memory.member.parked k (
          leads_on (if others then begun_alone (commit.led_entry (target_plan r t) q e) from l else begun_with_others (commit.led_entry (target_plan r t) q e) q.first from q.writes l) (with_ticks e s.memory),
          sends (if others then begun_alone (commit.led_entry (target_plan r t) q e) from l else begun_with_others (commit.led_entry (target_plan r t) q e) q.first from q.writes l).posts (issued_for q.attempt q.ep e),
        )
    begin-leaves from m k e true has sound l = record {
      more = [];
      right = λ z i. absurd i;
      sound = sound;
      answered = none-answered h.served t m s.memory.member.parked (committed ∷ []) (only-one committed refl);
      told = (q.attempt, e) ∷ [];
      decides = OneMore q.attempt e refl (may-decide e has) (issued-now e has) writes-some;
    }
      where
        committed : Post
        committed = record { to = from; message = Ended q.attempt (Some e) Committed }
    begin-leaves from m k e false has sound l = leaves-quiet m k _ _ refl silent (none-committed _ endless) sound
      where
        prepares : List Post
        prepares = map (prepare_to l.targets l.incarnation (commit.led_entry (target_plan r t) q e) q.first q.writes) (other_members (commit.led_entry (target_plan r t) q e))

        silent : NoneIs is_answer prepares
        silent p i =
            let z = has-from_map (prepare_to l.targets l.incarnation (commit.led_entry (target_plan r t) q e) q.first q.writes) (other_members (commit.led_entry (target_plan r t) q e)) p i in
            ap (λ y. is_answer y.message) (sym z.2)

        endless : NoneIs is_end prepares
        endless p i =
            let z = has-from_map (prepare_to l.targets l.incarnation (commit.led_entry (target_plan r t) q e) q.first q.writes) (other_members (commit.led_entry (target_plan r t) q e)) p i in
            ap (λ y. is_end y.message) (sym z.2)

    commit-ends : (from : ActorId) (m : Message) (g : commit.CommitStage) (k : Kept) (left : TargetMemory × Did) → commit.CommitEnds (target_plan r t) s.opening s.memory reading q from g k left → CommitMid g k
        → TurnLeaves r o held h w s.opening t m s.memory.member.parked k left
    unfolding begun
    commit-ends from m g k left (commit.IsSpent k' z none is) p = subst (TurnLeaves r o held h w s.opening t m s.memory.member.parked k) (sym is) (leaves-quiet m k _ _ refl (only-one _ refl) refl p.0)
    commit-ends from m g k left (commit.IsRefused k' e why z by is) p = subst (TurnLeaves r o held h w s.opening t m s.memory.member.parked k) (sym is) (leaves-quiet m k _ _ refl (only-one _ refl) refl p.0.0)
    commit-ends from m g k left (commit.HasNoSpace k' e z allowed few is) p = subst (TurnLeaves r o held h w s.opening t m s.memory.member.parked k) (sym is) (leaves-quiet m k _ _ refl (only-one _ refl) refl p.0.0)
    commit-ends from m g k left (commit.HasBegun k' e z is) p =
        subst (TurnLeaves r o held h w s.opening t m s.memory.member.parked k) (sym is)
        (begin-leaves from m k e (is_empty (other_members (commit.led_entry (target_plan r t) q e))) p.1 p.0 (leader_at (target_plan r t) (with_ticks e s.memory) k.durable))

    -- the whole turn
    pub commit-sound : (from : ActorId) (m : Message) (new : Kept) (left : TargetMemory × Did)
        → Whole (commit.CommitNext (target_plan r t) s.opening s.memory reading q) (commit.CommitEnds (target_plan r t) s.opening s.memory reading q from) commit.Asked (kept s) new left
        → TurnLeaves r o held h w s.opening t m s.memory.member.parked new left
    commit-sound from m new left turn =
        commit-ends from m turn.last new left turn.ends (reached-keeps (commit.CommitNext (target_plan r t) s.opening s.memory reading q) CommitMid commit-step commit.Asked (kept s) turn.last new turn.reached (b.sound, refl))

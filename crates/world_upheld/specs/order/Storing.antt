-- What a target stores lies behind what was answered before, also where containers were aggregated.
use Rattle.std.specs.Prelude.{ℕ, ◌≡◌, ◌⊎◌, ◌≤◌, true, false, List, Contains, Option, Some, refl}
use Rattle.std.proofs.Common.{sym, ◌∙◌, ap, subst, inl, inr}
use Rattle.base_types.specs.declared.entry.Entry.{Entry}
use Rattle.base_types.specs.declared.epoch.Epoch.{Epoch}
use Rattle.base_types.specs.declared.operation.MinorWrite.{MinorWrite}
use Rattle.base_types.specs.declared.operation.Read.{Read}
use Rattle.base_types.specs.declared.outcome.Outcome.TheVariants.{Committed}
use Rattle.base_types.specs.declared.report.Attempt.{Attempt}
use Rattle.base_types.specs.Operations.{read_path, write_path}
use Rattle.base_types.specs.Paths.{overlaps}
use Rattle.daos_model.specs.declared.durable.Durable.{Durable}
use Rattle.daos_model.specs.declared.durable.Version.{Version}
use Rattle.daos_model.specs.Changes.{leased, prepared}
use Rattle.daos_model.specs.Durables.{entry_key}
use Rattle.daos_model.specs.Opening.{Opening}
use Rattle.daos_model.specs.Ordered.{put}
use Rattle.daos_model.specs.Versions.{version_of}
use Rattle.model_laws.specs.EntryLaws.{has-put, put-has}
use Rattle.model_laws.specs.Members.{Has, contains-from_has, has-from_contains}
use Rattle.world_legal.specs.world_commit.attempts.Attempts.{writes_of}
use Rattle.world_legal.specs.world_commit.attempts.History.{Decided, History, Served}
use Rattle.world_base.specs.declared.request.CommitRequest.{CommitRequest}
use Rattle.world_base.specs.declared.request.PrepareRequest.{PrepareRequest}
use Rattle.world_base.specs.declared.target.TargetState.{TargetState}
use Rattle.world_base.specs.declared.world.World.{World}
use Rattle.world_base.specs.ChangeLaws.{entries-leased}
use Rattle.world_base.specs.Changes.{Change, Kept, Steps}
use Rattle.world_base.specs.Commits as commit
use Rattle.world_base.specs.CutTurns.{CutTurn, Cutting, issued_by_commit, none_issued}
use Rattle.world_base.specs.Events.{Rules, kept, target_plan}
use Rattle.world_base.specs.PathLaws.{reached-keeps}
use Rattle.world_base.specs.Prepares as prepare
use Rattle.world_base.specs.TurnLaws.{commit-plain, prepare-plain}
use Rattle.world_base.specs.Turns.{Reached}
use Rattle.world_letters.specs.epochs.Sayings.{AreKnown, Known, known-all, known-each}
use Rattle.world_legal.specs.world_standing.external.Behind.{FirstIsKnown, IsBehind, Issued, WasAnswered, WritesAt}
use Rattle.world_legal.specs.world_standing.external.Checks.{each-unrefused}
use Rattle.world_legal.specs.world_standing.external.Kept.{IsStoredBehind, ReadsAt}
use Rattle.world_upheld.specs.order.Guards.{accesses-lie-behind, writes-are-above}
use Rattle.world_legal.specs.world_contents.reads.Beginning.{TurnBegins}
use Rattle.world_legal.specs.world_contents.reads.CommitLaws.{CommitMid, HearsCommit, MayBeStored, PrepareMid, commit-step, prepare-step}
use Rattle.world_legal.specs.world_contents.reads.Midway.{Sound}
use Rattle.world_legal.specs.world_contents.reads.StoreLaws.{AreItsOwn}
use Rattle.world_legal.specs.world_contents.reads.Versions.{IsWriteAt, VersionsStand}
use Rattle.world_legal.specs.world_causes.restarts.Cuts.{cut-keeps}

-- what is known of attempts of which lines tell that they are committed: those that write are decided, and their reads were served
pub record KnowsTold (r : Rules) (h : History) (attempts : List Attempt) : Type 0 where
  pub decided : (x : Attempt) (e : Epoch) (m : MinorWrite) → Contains attempts x → x.outcome ≡ Committed → x.epoch ≡ Some e → Contains (writes_of r x.id) m → Decided h x.id e
  pub served : (t : ℕ) (x : Attempt) (e : Epoch) (read : Read) → Contains attempts x → x.outcome ≡ Committed → x.epoch ≡ Some e → ReadsAt r x.id t read
      → (q : Served) × Has q h.served × (q.target ≡ t) × (q.epoch ≡ e) × (q.read ≡ read)

module _ (r : Rules) (o : Opening) (held : List Version) (h : History) (w : World) (t : ℕ) (s : TargetState) (b : TurnBegins r o held h w t s) (attempts : List Attempt)
    (issued : Issued) (a : KnowsTold r h attempts) where
  -- an attempt at an epoch stands so where it is stored
  abbrev pub Lies : Known
  Lies y f = IsStoredBehind r attempts issued t y f

  stored-lies : (d after : Durable) → VersionsStand r o held h t d → (k : Entry) (ws : List MinorWrite) (first : Option Epoch) → k.committed ≡ false
      → FirstIsKnown issued k.attempt first → AreItsOwn r k.attempt t ws
      → commit.IsAllowed (target_plan r t) s.opening first k.epoch d s.memory.stamps ws → after ≡ prepared k ws d → Sound r o held h h.served s.opening t after s.memory.stamps
      → Lies k.attempt k.epoch
  unfolding prepared
  stored-lies d after stand k ws first open' known own allowed is sound = record { writes = writes; reads = reads }
    where
      writes : (x : Attempt) (e : Epoch) (m n : MinorWrite) → WasAnswered attempts x e k.attempt → WritesAt r x.id t m → IsWriteAt r k.attempt t n
          → overlaps (write_path n.write) (write_path m.write) ≡ true
          → IsBehind r.epsilon issued e k.attempt k.epoch
      writes x e m n was at its over =
          let decided = a.decided x e m was.there was.committed was.epoch at.of_it in
          accesses-lie-behind r o held h t d stand issued k.attempt first k.epoch (write_path n.write) known
          (each-unrefused (target_plan r t) first k.epoch d ws n allowed.writes (own.all n its))
          (writes-are-above r o held h t d stand s.opening first k.epoch s.memory.stamps ws allowed n (own.all n its)) x.id e m decided (b.above x.id e (b.decided x.id e decided))
          at over

      among : Contains after.entries k
      among = subst (λ (z : Durable). Contains z.entries k) (sym is) (contains-from_has (put entry_key k d.entries) k (put-has entry_key k d.entries k (inl refl)))

      reads : (x : Attempt) (e : Epoch) (read : Read) (n : MinorWrite) → WasAnswered attempts x e k.attempt → ReadsAt r x.id t read → IsWriteAt r k.attempt t n
          → overlaps (write_path n.write) (read_path read) ≡ true → e.0 ≤ k.epoch.0
      reads x e read n was at its over =
          let q = a.served t x e read was.there was.committed was.epoch at in
          subst (λ (z : Epoch). z.0 ≤ k.epoch.0) q.3
          (sound.shows.barred q.0 (version_of k n) q.1 q.2 (sound.stand.whole k n among open' its) refl
          (subst (λ z. overlaps (write_path n.write) (read_path z) ≡ true) (sym q.4) over))

  leased-lies : (k l : Kept) (n : ℕ) → l.durable ≡ leased n k.durable → AreKnown Lies k.durable.entries → AreKnown Lies l.durable.entries
  leased-lies k l n is known = subst (AreKnown Lies) (sym (ap (λ d. d.entries) is ∙ entries-leased n k.durable)) known

  prepared-lies : (k l : Kept) (e : Entry) (ws : List MinorWrite) → l.durable ≡ prepared e ws k.durable → Lies e.attempt e.epoch → AreKnown Lies k.durable.entries
      → AreKnown Lies l.durable.entries
  unfolding prepared
  prepared-lies k l e ws is own known =
      subst (λ (d : Durable). AreKnown Lies d.entries) (sym is)
      (known-all Lies (put entry_key e k.durable.entries) (λ z i. each z (has-put entry_key e k.durable.entries z (has-from_contains (put entry_key e k.durable.entries) z i))))
    where
      each : (z : Entry) → (z ≡ e) ⊎ Has z k.durable.entries → Lies z.attempt z.epoch
      each z (inl same) = subst (λ (y : Entry). Lies y.attempt y.epoch) (sym same) own
      each z (inr i) = known-each Lies k.durable.entries z known (contains-from_has k.durable.entries z i)

  same-lies : (k l : Kept) → l ≡ k → AreKnown Lies k.durable.entries → AreKnown Lies l.durable.entries
  same-lies k l same known = subst (λ y. AreKnown Lies y.durable.entries) (sym same) known

  -- ---- a Commit

  module _ (q : CommitRequest) (reading : ℕ) (c : HearsCommit r o held h w t s b q reading) (own : AreItsOwn r q.attempt t (commit.own_writes (target_plan r t) q.writes))
      (first : FirstIsKnown issued q.attempt q.first) where
    abbrev Going : commit.CommitStage → Kept → Type 0
    Going g k = CommitMid r o held h w t s b q reading c g k × AreKnown Lies k.durable.entries

    commit-goes : (g : commit.CommitStage) (k : Kept) (n : Option Change) (u : commit.CommitStage) (l : Kept)
        → commit.CommitNext (target_plan r t) s.opening s.memory reading q g k n u → Steps n k l → Going g k → Going u l
    commit-goes g k n u l next steps p = (
      commit-step r o held h w t s b q reading c g k n u l next steps p.0,
      lies g n u next steps p
          (commit-step r o held h w t s b q reading c g k n u l next steps p.0),
    )
      where
        lies : (g : commit.CommitStage) (n : Option Change) (u : commit.CommitStage) → commit.CommitNext (target_plan r t) s.opening s.memory reading q g k n u → Steps n k l
            → Going g k → CommitMid r o held h w t s b q reading c u l
            → AreKnown Lies l.durable.entries
        lies g n u (commit.HasEpoch k' e its) steps p after = same-lies k l steps p.1
        lies g n u (commit.ExtendsLease k' e lease low is) steps p after = leased-lies k l lease steps.0 p.1
        lies g n u (commit.IsCovered k' e le) steps p after = same-lies k l steps p.1
        lies g n u (commit.Stores k' e allowed space) steps p after =
            prepared-lies k l (commit.led_entry (target_plan r t) q e) (commit.own_writes (target_plan r t) q.writes) steps.0
            (stored-lies k.durable l.durable p.0.0.0.stand (commit.led_entry (target_plan r t) q e) (commit.own_writes (target_plan r t) q.writes) q.first refl first own allowed
            steps.0 after.0) p.1

    pub commit-lies : AreKnown Lies s.durable.entries → (stage : commit.CommitStage) (new : Kept)
        → Reached (commit.CommitNext (target_plan r t) s.opening s.memory reading q) commit.Asked (kept s) stage new → AreKnown Lies new.durable.entries
    commit-lies entries stage new reached = (reached-keeps (commit.CommitNext (target_plan r t) s.opening s.memory reading q) Going commit-goes commit.Asked (kept s) stage new
        reached ((b.sound, refl), entries)).1

    pub commit-cut-lies : AreKnown Lies s.durable.entries → (cut : Cutting)
        → CutTurn (commit.CommitNext (target_plan r t) s.opening s.memory reading q) (issued_by_commit q) t commit.Asked (kept s) cut → AreKnown Lies cut.left.durable.entries
    commit-cut-lies entries cut g =
        cut-keeps (commit.CommitNext (target_plan r t) s.opening s.memory reading q) (issued_by_commit q) t Going (λ d. AreKnown Lies d.entries)
        (commit-plain (target_plan r t) s.opening s.memory reading q) commit-goes (λ g k p. p.1)
        commit.Asked (kept s) cut g ((b.sound, refl), entries)

  -- ---- a Prepare

  module _ (q : PrepareRequest) (open' : q.entry.committed ≡ false) (own : AreItsOwn r q.entry.attempt t q.writes) (may : MayBeStored o h w s q.entry.attempt q.entry.epoch)
      (first : FirstIsKnown issued q.entry.attempt q.first) where
    abbrev Brought : prepare.PrepareStage → Kept → Type 0
    Brought g k = PrepareMid r o held h w t s b q g k × AreKnown Lies k.durable.entries

    prepare-goes : (g : prepare.PrepareStage) (k : Kept) (n : Option Change) (u : prepare.PrepareStage) (l : Kept)
        → prepare.PrepareNext (target_plan r t) s.opening s.memory q g k n u → Steps n k l → Brought g k → Brought u l
    prepare-goes g k n u l next steps p = (
      prepare-step r o held h w t s b q open' own may g k n u l next steps p.0,
      lies g n u next steps p
          (prepare-step r o held h w t s b q open' own may g k n u l next steps p.0),
    )
      where
        lies : (g : prepare.PrepareStage) (n : Option Change) (u : prepare.PrepareStage) → prepare.PrepareNext (target_plan r t) s.opening s.memory q g k n u → Steps n k l
            → Brought g k → PrepareMid r o held h w t s b q u l → AreKnown Lies l.durable.entries
        lies g n u (prepare.ExtendsLease k' lease low is) steps p after = leased-lies k l lease steps.0 p.1
        lies g n u (prepare.IsCovered k' le) steps p after = same-lies k l steps p.1
        lies g n u (prepare.Stores k' allowed space) steps p after =
            prepared-lies k l q.entry q.writes steps.0 (stored-lies k.durable l.durable p.0.0.0.stand q.entry q.writes q.first open' first own allowed steps.0 after) p.1

    pub prepare-lies : AreKnown Lies s.durable.entries → (stage : prepare.PrepareStage) (new : Kept)
        → Reached (prepare.PrepareNext (target_plan r t) s.opening s.memory q) prepare.Heard (kept s) stage new → AreKnown Lies new.durable.entries
    prepare-lies entries stage new reached = (reached-keeps (prepare.PrepareNext (target_plan r t) s.opening s.memory q) Brought prepare-goes prepare.Heard (kept s) stage new
        reached ((b.sound, refl), entries)).1

    pub prepare-cut-lies : AreKnown Lies s.durable.entries → (cut : Cutting)
        → CutTurn (prepare.PrepareNext (target_plan r t) s.opening s.memory q) none_issued t prepare.Heard (kept s) cut → AreKnown Lies cut.left.durable.entries
    prepare-cut-lies entries cut g =
        cut-keeps (prepare.PrepareNext (target_plan r t) s.opening s.memory q) none_issued t Brought (λ d. AreKnown Lies d.entries)
        (prepare-plain (target_plan r t) s.opening s.memory q) prepare-goes (λ g k p. p.1)
        prepare.Heard (kept s) cut g ((b.sound, refl), entries)

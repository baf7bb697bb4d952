-- Whose versions a target keeps, whatever it kept at the opening.
use Rattle.std.specs.Prelude.{ℕ, ◌≡◌, ◌++◌, ◌≤◌, ◌<◌, ◌^◌, ◌==◌, Bool, true, false, List, [], Contains, filter, slice_get, Option, Some, None, refl}
use Rattle.std.specs.List.{list_any}
use Rattle.std.proofs.Common.{inl, inr, sym, ◌∙◌, ap, subst, arith}
use Rattle.base_types.specs.declared.entry.Entry.{Entry}
use Rattle.base_types.specs.declared.epoch.Epoch.{Epoch}
use Rattle.base_types.specs.declared.id.AttemptId.{AttemptId}
use Rattle.base_types.specs.declared.operation.MinorWrite.{MinorWrite}
use Rattle.base_types.specs.Operations.{write_path}
use Rattle.base_types.specs.Placement.{path_members}
use Rattle.base_messages.specs.declared.message.Message.{Message}
use Rattle.base_messages.specs.declared.message.Message.TheVariants as message
use Rattle.model_laws.specs.Members.{Has, contains-from_has, has-any, has-from_contains, has-from_filter, has-left, has-right}
use Rattle.model_laws.specs.TargetLaws.{number_same, same_number}
use Rattle.daos_model.specs.declared.durable.Durable.{Durable}
use Rattle.daos_model.specs.declared.durable.Version.{Version}
use Rattle.daos_model.specs.BoolLaws.{both, clash}
use Rattle.daos_model.specs.Durables.{entry_of, same_attempt}
use Rattle.daos_model.specs.EntryLaws.{same_attempt-itself}
use Rattle.daos_model.specs.Versions.{version_of}
use Rattle.world_base.specs.dtx_base.Members.{is_written_at, writes_at}
use Rattle.world_base.specs.declared.letter.Letter.{Letter}
use Rattle.world_base.specs.declared.target.TargetState.{TargetState}
use Rattle.world_base.specs.declared.world.World.{World}
use Rattle.world_base.specs.Commits as commit
use Rattle.world_base.specs.Events.{Rules, target_plan}
use Rattle.world_base.specs.Letters.{target}
use Rattle.world_base.specs.Stops.{WorldEvent}
use Rattle.world_base.specs.TargetTurns.{commit_request}
use Rattle.world_making.specs.world_causes.causes.Causes.{Dated, Stored}
use Rattle.world_making.specs.world_causes.showing.Happening.{stored_in}
use Rattle.world_making.specs.world_commit.attempts.Asked.{IsCommitNew}
use Rattle.world_making.specs.world_commit.attempts.Attempts.{entry_at, entry_in, is_asked_by, leader_of, writes_of}
use Rattle.world_making.specs.world_commit.attempts.History.{History}
use Rattle.world_making.specs.world_commit.fates.Asked.{AskedRight}
use Rattle.world_making.specs.world_commit.fates.Facts.{Attempts, IsPrepareRight, IsSaidSo}
use Rattle.world_making.specs.world_contents.reads.Standing.{asked-prepares}
use Rattle.world_making.specs.world_contents.reads.Versions.{IsPreparedAt, IsVersionOf, IsWriteAt}
use Rattle.world_owners.specs.Events.{EventBrings, IsBrought, all-events-leave_or_store}
use Rattle.world_making.specs.world_letters.lives.Issued.{issued-stays}
use Rattle.world_owners.specs.Becoming.{Brings, IsOfCommit}
use Rattle.world_owners.specs.Versions.{DisregardsDone, HoldsAt, IsNewAt, all-events-keep_prepared, all-events-keep_versions, all-events-raise_leases}

-- ---- the facts

-- A target keeps its own, where these epochs were issued and these attempts stored: each version that is later than the opening is one of the
-- writes that the target holds of its attempt, at an epoch that was issued to that, and the attempt was stored here. What isn't settled is of
-- an entry that is prepared here. And the lease is within a clock's ticks.
pub record KeepsOwn (r : Rules) (top : ℕ) (issued : Dated) (stored : Stored) (t : ℕ) (d : Durable) : Type 0 where
  pub written : (v : Version) → Has v d.versions → top < v.epoch.0 → Contains issued (v.by, v.epoch)
  pub its : (v : Version) → Has v d.versions → top < v.epoch.0 → IsVersionOf r t v
  pub stored_here : (v : Version) → Has v d.versions → top < v.epoch.0 → Contains stored (t, v.by)
  pub unsettled : (v : Version) → Has v d.versions → v.done ≡ false → IsPreparedAt d v.by v.epoch
  pub lease : d.lease < 2 ^ 56

-- each target does
abbrev pub AllKeepOwn : Rules → ℕ → Stored → World → Type 0
AllKeepOwn r top stored w = (t : ℕ) (s : TargetState) → slice_get w.targets t ≡ Some s → KeepsOwn r top w.issued stored t s.durable

-- ---- the statements

-- a target keeps what another run may have left: versions that are done, none of them later than this, and a lease within a clock's ticks
pub record IsLeftBehind (top : ℕ) (d : Durable) : Type 0 where
  pub done : (v : Version) → Has v d.versions → v.done ≡ true
  pub before : (v : Version) → Has v d.versions → v.epoch.0 ≤ top
  pub lease : d.lease < 2 ^ 56

-- so it is where each target keeps such, and nothing is stored yet
abbrev pub KeepingOwnBegins : Type 0
KeepingOwnBegins = (r : Rules) (top : ℕ) (w : World) → ((t : ℕ) (s : TargetState) → slice_get w.targets t ≡ Some s → IsLeftBehind top s.durable) → AllKeepOwn r top [] w

-- and each event keeps it, of what is stored by then, where Commits in flight are right and new, and what is said of attempts is so
abbrev pub AllEventsKeepOwn : Type 0
AllEventsKeepOwn =
    (r : Rules) (top : ℕ) (h : History) (stored : Stored) (w v : World) → AskedRight r h w → Attempts r h w → AllKeepOwn r top stored w → (e : WorldEvent r w v)
    → AllKeepOwn r top (stored_in r e.happens ++ stored) v

-- ---- the beginning

pub keeping-own-begins : KeepingOwnBegins
keeping-own-begins r top w begins t s here = record {
  written = λ v i late. absurd (none v i late);
  its = λ v i late. absurd (none v i late);
  stored_here = λ v i late. absurd (none v i late);
  unsettled = λ v i off. clash v.done (k.done v i) off;
  lease = k.lease;
}
  where
    k : IsLeftBehind top s.durable
    k = begins t s here

    none : (v : Version) → Has v s.durable.versions → top < v.epoch.0 → ⊥
    none v i late = let low : v.epoch.0 ≤ top = k.before v i in omega (arith, low, late)

-- ---- what is brought

-- what a test finds to be of a target's groups, among the writes of an attempt, are writes of it that the target holds
own-write : (r : Rules) (x : AttemptId) (t : ℕ) (test : MinorWrite → Bool) → ((m : MinorWrite) → test m ≡ list_any (commit.is_number t) (path_members (write_path m.write) r.script.targets)) → (m : MinorWrite) → Has m (filter test (writes_of r x))
    → IsWriteAt r x t m
own-write r x t test is m i =
    let k = has-from_filter test (writes_of r x) m i in
    let u = has-any (commit.is_number t) (path_members (write_path m.write) r.script.targets) (sym (is m) ∙ k.1) in
    record {
      of_it = contains-from_has (writes_of r x) m k.0;
      here = contains-from_has (path_members (write_path m.write) r.script.targets) t (subst (λ n. Has n (path_members (write_path m.write) r.script.targets)) (number_same u.0 t u.2) u.1);
    }

member-write : (r : Rules) (x : AttemptId) (t : ℕ) (m : MinorWrite) → Has m (writes_at r.script.targets t (writes_of r x)) → IsWriteAt r x t m
unfolding is_written_at
member-write r x t m i = own-write r x t (is_written_at r.script.targets t) (λ m. refl) m i

-- an entry and its writes are an attempt's, as a target stores them: it is prepared there, at an epoch that was issued, and the target had none of it
record IsOwn (r : Rules) (w : World) (issued : Dated) (t : ℕ) (s : TargetState) (k : Entry) (ws : List MinorWrite) : Type 0 where
  dated : Has (k.attempt, k.epoch) issued
  open' : k.committed ≡ false
  absent : entry_of s.durable k.attempt ≡ None
  writes : (m : MinorWrite) → Has m ws → IsWriteAt r k.attempt t m

module _ (r : Rules) (h : History) (w : World) (A : AskedRight r h w) (K : Attempts r h w) (issued : Dated) (more : (i : AttemptId × Epoch) → Has i w.issued → Has i issued) where
  commit-own : (t : ℕ) (s : TargetState) (x : AttemptId) (ep first : Option Epoch) (tracker : Epoch) (own : List MinorWrite) (k : Entry) (ws : List MinorWrite) → slice_get w.targets t ≡ Some s → IsCommitNew r h w (target t) x ep own
      → IsOfCommit (target_plan r t) s.memory issued (commit_request x ep first tracker own) k ws → IsOwn r w issued t s k ws
  commit-own t s x ep first tracker own k ws here new b = record {
    dated = subst (λ e. Has (e.attempt, e.epoch) issued) (sym b.entry) (elim b.dated [ inl bears ↦ more (x, b.epoch) (new.own b.epoch bears) | inr i ↦ i ]);
    open' = ap (λ e. e.committed) b.entry;
    absent = subst (λ e. entry_of s.durable e.attempt ≡ None) (sym b.entry) absent;
    writes = λ m i. subst (λ e. IsWriteAt r e.attempt t m) (sym b.entry) (own-write r x t (commit.is_own (target_plan r t)) (λ m. refl) m (subst (Has m) (b.writes ∙ ap (commit.own_writes (target_plan r t)) new.writes) i));
  }
    where
      leads : t ≡ leader_of r x
      leads = ap (λ a. a.number) new.receiver

      absent : entry_of s.durable x ≡ None
      absent = ap (λ o. entry_in o x) (sym here) ∙ ap (λ n. entry_at w n x) leads ∙ new.unstored

  prepare-own : (l : Letter) (t : ℕ) (s : TargetState) (e : Entry) (first : Option Epoch) (own : List MinorWrite) (inc : ℕ) → Has l w.messages → l.to ≡ target t → l.message ≡ message.Prepare e first own inc → slice_get w.targets t ≡ Some s
      → IsPrepareRight r h w l.from l.to e own inc → IsOwn r w issued t s e own
  prepare-own l t s e first own inc among to_it is here z = record {
    dated = more (e.attempt, e.epoch) z.issued;
    open' = ap (λ k. k.committed) z.entry;
    absent = ap (λ o. entry_in o e.attempt) (sym here) ∙ (K.on.each e.attempt).awaited.before t l among (asked-prepares e.attempt t l asks);
    writes = λ m i. member-write r e.attempt t m (subst (Has m) (z.writes ∙ ap (λ n. writes_at r.script.targets n (writes_of r e.attempt)) it) i);
  }
    where
      it : z.way.member ≡ t
      it = ap (λ a. a.number) (sym z.way.receiver ∙ to_it)

      asks : is_asked_by e.attempt t l.to l.message ≡ true
      asks = ap (λ a. is_asked_by e.attempt t a l.message) to_it ∙ ap (is_asked_by e.attempt t (target t)) is ∙ both (same_attempt e.attempt e.attempt) (t == t) (same_attempt-itself e.attempt) (same_number t)

  -- whatever is brought
  brought-own : (stored : Stored) (t : ℕ) (k : Entry) (ws : List MinorWrite) (b : IsBrought r w issued stored t k ws) → IsOwn r w issued t b.s k ws
  brought-own stored t k ws b = by b.l.message refl b.brings
    where
      by : (m : Message) → b.l.message ≡ m → Brings (target_plan r t) b.s.memory issued m k ws → IsOwn r w issued t b.s k ws
      by (message.Commit x ep first tracker own) is brings =
          commit-own t b.s x ep first tracker own k ws b.here (subst (λ a. IsCommitNew r h w a x ep own) b.to_it (A.commits b.l x ep first tracker own b.among is)) brings
      by (message.Prepare e first own inc) is brings =
          subst (λ y. IsOwn r w issued t b.s y ws) (sym brings.0) (subst (IsOwn r w issued t b.s e) (sym brings.1)
          (prepare-own b.l t b.s e first own inc b.among b.to_it is b.here (subst (IsSaidSo r h w b.l.from b.l.to) is (K.on.letters b.l b.among))))
      by m is none = absurd none

-- ---- events

module _ (r : Rules) (top : ℕ) (h : History) (stored : Stored) (w v : World) (A : AskedRight r h w) (K : Attempts r h w) (k : AllKeepOwn r top stored w) (e : WorldEvent r w v) (t : ℕ) where
  abbrev Later : Stored
  Later = stored_in r e.happens ++ stored

  more : (i : AttemptId × Epoch) → Has i w.issued → Has i v.issued
  more i j = subst (λ x. Has i x.issued) (sym e.after) (issued-stays r w e.u e.happens i j)

  own : (j : Entry) (ws : List MinorWrite) (b : EventBrings r e t j ws) → IsOwn r w v.issued t b.s j ws
  own j ws b = brought-own r h w A K v.issued more (stored_in r e.happens) t j ws b

  -- what is said of a version
  abbrev IsOwned : Version → Type 0
  IsOwned u = top < u.epoch.0 → Contains v.issued (u.by, u.epoch) × IsVersionOf r t u × Contains Later (t, u.by)

  either : DisregardsDone IsOwned
  either u b is late = let z = is late in (z.0, record { write = z.1.write; at = z.1.at; minor = z.1.minor; same = z.1.same }, z.2)

  brought : (j : Entry) (ws : List MinorWrite) (m : MinorWrite) → EventBrings r e t j ws → Has m ws → IsOwned (version_of j m)
  brought j ws m b i late =
      let z = own j ws b in (
        contains-from_has v.issued (j.attempt, j.epoch) z.dated,
        record { write = m; at = z.writes m i; minor = refl; same = refl },
        contains-from_has Later (t, j.attempt) (has-left (stored_in r e.happens) stored (t, j.attempt) (b.counts z.absent)),
      )

  before : HoldsAt IsOwned w t
  before s here u i late =
      let z = k t s here in (
        contains-from_has v.issued (u.by, u.epoch) (more (u.by, u.epoch) (has-from_contains w.issued (u.by, u.epoch) (z.written u i late))),
        z.its u i late,
        contains-from_has Later (t, u.by) (has-right (stored_in r e.happens) stored (t, u.by) (has-from_contains stored (t, u.by) (z.stored_here u i late))),
      )

  owned : HoldsAt IsOwned v t
  owned = all-events-keep_versions IsOwned either r w v e t brought before

  new : (j : Entry) (ws : List MinorWrite) → EventBrings r e t j ws → IsNewAt w t j
  new j ws b = let z = own j ws b in record { open' = z.open'; absent = λ s here. subst (λ y. entry_of y.durable j.attempt ≡ None) (let same : b.s ≡ s = (let one = b.here in cc) in same) z.absent }

  keeps : (z : TargetState) → slice_get v.targets t ≡ Some z → KeepsOwn r top v.issued Later t z.durable
  keeps z at = record {
    written = λ u i late. (owned z at u i late).0;
    its = λ u i late. (owned z at u i late).1;
    stored_here = λ u i late. (owned z at u i late).2;
    unsettled = all-events-keep_prepared r w v e t new (λ s here. (k t s here).unsettled) z at;
    lease = let y = all-events-leave_or_store r w v e t z at in (all-events-raise_leases r w v e t y.s z y.here at).within (k t y.s y.here).lease;
  }

pub all-events-keep_own : AllEventsKeepOwn
all-events-keep_own r top h stored w v A K k e t z at = keeps r top h stored w v A K k e t z at

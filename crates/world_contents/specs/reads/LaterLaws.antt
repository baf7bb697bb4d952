-- The facts of versions and reads hold of what a turn added: of more reads that were served, and of an attempt that was decided.
use Rattle.std.specs.Prelude.{ℕ, ◌≡◌, ◌≢◌, ◌⊎◌, ◌≤◌, true, List, [], ◌∷◌, ◌++◌, Contains, slice_get, Option, Some, None, refl}
use Rattle.std.proofs.Common.{sym, ◌∙◌, ap, subst, inl, inr}
use Rattle.base_types.specs.declared.entry.Entry.{Entry}
use Rattle.base_types.specs.declared.epoch.Epoch.{Epoch}
use Rattle.base_types.specs.declared.id.AttemptId.{AttemptId}
use Rattle.base_types.specs.declared.operation.MinorWrite.{MinorWrite}
use Rattle.base_types.specs.Operations.{read_path, write_path}
use Rattle.base_types.specs.Paths.{overlaps}
use Rattle.model_laws.specs.Decided.{AreDecided}
use Rattle.base_messages.specs.declared.message.Post.{Post}
use Rattle.daos_model.specs.declared.durable.Durable.{Durable}
use Rattle.daos_model.specs.declared.durable.Version.{Version}
use Rattle.daos_model.specs.Durables.{entry_of}
use Rattle.daos_model.specs.Forms.{is_read_in_form}
use Rattle.daos_model.specs.Opening.{Opening}
use Rattle.world_commit.specs.attempts.Attempts.{Entries, HoldsAt, IsOther, entry_at, entry_in, leader_of, writes_of}
use Rattle.world_commit.specs.attempts.History.{Decided, History, Served, decides}
use Rattle.world_commit.specs.world_base.declared.target.TargetState.{TargetState}
use Rattle.world_commit.specs.world_base.declared.world.World.{World}
use Rattle.world_commit.specs.world_base.Events.{Rules}
use Rattle.world_contents.specs.reads.AnswerLaws.{IsBarred, decides-answers, not-below}
use Rattle.world_contents.specs.reads.DecideLaws.{Elsewhere, Held, IsHeldOrElsewhere, decides-stands, stays-apart}
use Rattle.world_contents.specs.reads.Growing.{Decides, NoneMore, OneMore}
use Rattle.world_contents.specs.reads.Reads.{IsAnsweredRight, IsOfAttempt}
use Rattle.world_contents.specs.reads.Transactions.{transactions}
use Rattle.world_contents.specs.reads.Versions.{IsWriteAt, VersionsStand}

-- ---- the same is decided

pub stands-as : (r : Rules) (o : Opening) (held : List Version) (h : History) (t : ℕ) (d : Durable) (aborted : List AttemptId) (served : List Served) → VersionsStand r o held h t d
    → VersionsStand r o held (record { decided = h.decided; aborted = aborted; served = served }) t d
stands-as r o held h t d aborted served k = record {
  form = k.form;
  single = k.single;
  placed = k.placed;
  done = k.done;
  unsettled = k.unsettled;
  only = k.only;
  whole = k.whole;
  settled = k.settled;
  epochs = k.epochs;
  matches = k.matches;
  leased = k.leased;
  aggregated = k.aggregated;
  clear = k.clear;
  snapshots = record { floored = k.snapshots.floored; leased = k.snapshots.leased; kept = k.snapshots.kept; given = k.snapshots.given };
}

pub answered-as : (r : Rules) (o : Opening) (h : History) (q : Served) (aborted : List AttemptId) (served : List Served) → IsAnsweredRight r o h q → IsAnsweredRight r o (record { decided = h.decided; aborted = aborted; served = served }) q
answered-as r o h q aborted served a = record { map = a.map; seen = a.seen; obj = a.obj; of_object = a.of_object; part = a.part; is_part = a.is_part; right = a.right }

-- ---- where an attempt is held

-- An attempt is held, at an epoch, by its leader and its other members, and by no other target.
pub record IsHeldByAll (r : Rules) (v : World) (x : AttemptId) (e : Epoch) : Type 0 where
  pub holds : (u : ℕ) → (u ≡ leader_of r x) ⊎ IsOther r x u → HoldsAt v u x e
  pub place : (u : ℕ) (k : Entry) → entry_at v u x ≡ Some k → (u ≡ leader_of r x) ⊎ IsOther r x u

-- so it is of a decided attempt
pub held-by-all : (r : Rules) (later : History) (v : World) (x : AttemptId) (e : Epoch) → Entries r later v x → Decided later x e → IsHeldByAll r v x e
held-by-all r later v x e entries is = record {
  holds = λ u at. elim at [ inl same ↦ subst (λ n. HoldsAt v n x e) (sym same) (entries.held_by_leader e is) | inr other ↦ entries.held_by_others e u is other ];
  place = λ u k found. (entries.one u k found).place;
}

module _ (r : Rules) (v : World) (x : AttemptId) (e : Epoch) (all : IsHeldByAll r v x e) where
  found-at : (u : ℕ) (z : TargetState) → slice_get v.targets u ≡ Some z → entry_at v u x ≡ entry_of z.durable x
  found-at u z here = ap (λ s. entry_in s x) here

  -- so each target holds it, or none of its writes is there
  pub held-or-elsewhere : ((m : MinorWrite) (u : ℕ) → IsWriteAt r x u m → (u ≡ leader_of r x) ⊎ IsOther r x u) → (u : ℕ) (z : TargetState) → slice_get v.targets u ≡ Some z → IsHeldOrElsewhere r x e u z.durable
  held-or-elsewhere members u z here = by (entry_of z.durable x) refl
    where
      same : (k : Entry) → entry_of z.durable x ≡ Some k → (y : HoldsAt v u x e) → k.epoch ≡ e
      same k found y = let one : Some y.entry ≡ Some k = sym y.found ∙ found-at u z here ∙ found in let is : y.entry ≡ k = cc in ap (λ j. j.epoch) (sym is) ∙ y.epoch

      by : (k : Option Entry) → entry_of z.durable x ≡ k → IsHeldOrElsewhere r x e u z.durable
      by (Some k) found = Held k found (same k found (all.holds u (all.place u k (found-at u z here ∙ found))))
      by None absent = Elsewhere absent (λ m at. let y = all.holds u (members m u at) in let no : ⊥ = cc (sym y.found ∙ found-at u z here ∙ absent) in no)

  -- one where it writes is there
  pub no-target : ((m : MinorWrite) (u : ℕ) → IsWriteAt r x u m → (u ≡ leader_of r x) ⊎ IsOther r x u) → (u : ℕ) → slice_get v.targets u ≡ None → (m : MinorWrite) → IsWriteAt r x u m → ⊥
  no-target members u gone m at = let y = all.holds u (members m u at) in let no : ⊥ = cc (sym y.found ∙ ap (λ s. entry_in s x) gone) in no

-- ---- what was added

module _ (r : Rules) (o : Opening) (held : ℕ → List Version) (h : History) (v : World) (issued : List (AttemptId × Epoch)) (aborted : List AttemptId) (served : List Served)
    (members : (x : AttemptId) (m : MinorWrite) (u : ℕ) → IsWriteAt r x u m → (u ≡ leader_of r x) ⊎ IsOther r x u) (apart : AreDecided (transactions r.script h))
    (stand : (t : ℕ) (s : TargetState) → slice_get v.targets t ≡ Some s → VersionsStand r o (held t) h t s.durable) where
  abbrev Later : List (AttemptId × Epoch) → History
  Later told = record { decided = told ++ h.decided; aborted = aborted; served = served }

  pub grown-stands : (posts : List Post) (told : List (AttemptId × Epoch)) → Decides r o h issued posts told → ((x : AttemptId) → Entries r (Later told) v x) → (t : ℕ) (s : TargetState) → slice_get v.targets t ≡ Some s
      → VersionsStand r o (held t) (Later told) t s.durable
  grown-stands posts told (NoneMore none) attempts t s here = stands-as r o (held t) h t s.durable aborted served (stand t s here)
  grown-stands posts told (OneMore x e one may its some) attempts t s here =
      stands-as r o (held t) (decides h x e) t s.durable aborted served
      (decides-stands r o (held t) h t s.durable x e may apart (stand t s here) (held-or-elsewhere r v x e (held-by-all r (Later ((x, e) ∷ [])) v x e (attempts x) (inl refl)) (members x) t s here))

  pub grown-apart : (posts : List Post) (told : List (AttemptId × Epoch)) → Decides r o h issued posts told → AreDecided (transactions r.script (Later told))
  grown-apart posts told (NoneMore none) = apart
  grown-apart posts told (OneMore x e one may its some) = stays-apart r o h x e may apart

  -- a read that was served stays answered right, where no unsettled version lies below it at the target that served it
  pub grown-answers : (posts : List Post) (told : List (AttemptId × Epoch)) → Decides r o h issued posts told → ((x : AttemptId) → Entries r (Later told) v x) → (q : Served)
      → ((s : TargetState) → slice_get v.targets q.target ≡ Some s → IsBarred s.durable q) → IsOfAttempt r q → is_read_in_form q.read ≡ true → IsAnsweredRight r o h q → IsAnsweredRight r o (Later told) q
  grown-answers posts told (NoneMore none) attempts q bar asks form a = answered-as r o h q aborted served a
  grown-answers posts told (OneMore x e one may its some) attempts q bar asks form a =
      answered-as r o (decides h x e) q aborted served (decides-answers r o h x e q may apart (above (slice_get v.targets q.target) refl) asks form a)
    where
      above : (s : Option TargetState) → slice_get v.targets q.target ≡ s → (m : MinorWrite) → IsWriteAt r x q.target m → overlaps (write_path m.write) (read_path q.read) ≡ true → q.epoch.0 ≤ e.0
      above (Some s) here m at over =
          not-below r o (held q.target) h q.target s.durable x e q m may (stand q.target s here)
          (held-or-elsewhere r v x e (held-by-all r (Later ((x, e) ∷ [])) v x e (attempts x) (inl refl)) (members x) q.target s here) (bar s here) at over
      above None gone m at over = absurd (no-target r v x e (held-by-all r (Later ((x, e) ∷ [])) v x e (attempts x) (inl refl)) (members x) q.target gone m at)

  -- what is decided was issued, and writes something
  pub grown-issued : (posts : List Post) (told : List (AttemptId × Epoch)) → Decides r o h issued posts told → ((x : AttemptId) (e : Epoch) → Decided h x e → Contains issued (x, e)) → (x : AttemptId) (e : Epoch)
      → Decided (Later told) x e → Contains issued (x, e)
  grown-issued posts told (NoneMore none) before x e is = before x e is
  grown-issued posts told (OneMore y f one may its some) before x e (inl same) = subst (Contains issued) (sym same) its
  grown-issued posts told (OneMore y f one may its some) before x e (inr is) = before x e is

  pub grown-written : (posts : List Post) (told : List (AttemptId × Epoch)) → Decides r o h issued posts told → ((x : AttemptId) (e : Epoch) → Decided h x e → writes_of r x ≢ []) → (x : AttemptId) (e : Epoch)
      → Decided (Later told) x e → writes_of r x ≢ []
  grown-written posts told (NoneMore none) before x e is = before x e is
  grown-written posts told (OneMore y f one may its some) before x e (inl same) = subst (λ z. writes_of r z ≢ []) (sym (ap (λ i. i.0) same)) some
  grown-written posts told (OneMore y f one may its some) before x e (inr is) = before x e is

-- What every event keeps: what was served or stored for a command lies behind the attempts that were answered before it began.
use Rattle.std.specs.Prelude.{ℕ, ◌≡◌, ◌≤◌, ◌<◌, ◌++◌, true, max, List, [], ◌∷◌, Contains, Some, refl}
use Rattle.std.proofs.Common.{sym, ◌∙◌, ap, subst, inl, inr}
use Rattle.base_types.specs.declared.epoch.Epoch.{Epoch}
use Rattle.base_types.specs.declared.id.AttemptId.{AttemptId}
use Rattle.base_types.specs.declared.id.ObjId.{ObjId}
use Rattle.base_types.specs.declared.operation.MinorWrite.{MinorWrite}
use Rattle.base_types.specs.declared.operation.Read.{Read}
use Rattle.base_types.specs.declared.report.Attempt.{Attempt}
use Rattle.base_types.specs.Operations.{read_path, write_path}
use Rattle.base_types.specs.Paths.{overlaps}
use Rattle.daos_model.specs.Accesses.{asked_member}
use Rattle.daos_model.specs.Transactions.{attempt_ops, read_at}
use Rattle.model_laws.specs.Members.{Has, contains-from_has, has-cases, has-from_contains, has-left, has-right}
use Rattle.world_causes.specs.world_commit.attempts.History.{Served}
use Rattle.world_base.specs.ClientTurns.{group_asked, group_count}
use Rattle.world_base.specs.Events.{Rules}
use Rattle.world_causes.specs.world_contents.reads.Versions.{IsWriteAt}
use Rattle.world_standing.specs.external.Behind.{IsBehind, IsFar, IsFarOfFirst, IsLater, Issued, WasAnswered, WritesAt}

-- ---- the definitions

-- a read of an attempt is asked of a target, of one of the groups of its path
pub record ReadsAt (r : Rules) (x : AttemptId) (t : ℕ) (read : Read) : Type 0 where
  pub op : ℕ
  pub is_read : read_at (attempt_ops r.script x) op ≡ Some read
  pub obj : ObjId
  pub of_object : (read_path read).obj ≡ Some obj
  pub n : ℕ
  pub low : n < max 1 (group_count (read_path read).obj (read_path read).dkey r.script.targets)
  pub member : t ≡ asked_member obj x.command r.script.targets (group_asked (read_path read).obj (read_path read).dkey r.script.targets n)

-- what an attempt y stored at a target at epoch f lies behind whatever was answered before: behind what was written there, and at no smaller
-- an epoch than what was read there
pub record IsStoredBehind (r : Rules) (attempts : List Attempt) (issued : Issued) (t : ℕ) (y : AttemptId) (f : Epoch) : Type 0 where
  pub writes : (x : Attempt) (e : Epoch) (m n : MinorWrite) → WasAnswered attempts x e y → WritesAt r x.id t m → IsWriteAt r y t n → overlaps (write_path n.write) (write_path m.write) ≡ true
      → IsBehind r.epsilon issued e y f
  pub reads : (x : Attempt) (e : Epoch) (read : Read) (n : MinorWrite) → WasAnswered attempts x e y → ReadsAt r x.id t read → IsWriteAt r y t n → overlaps (write_path n.write) (read_path read) ≡ true → e.0 ≤ f.0

-- a served read lies behind whatever was written at its target and answered before
abbrev pub IsServedBehind : Rules → List Attempt → Issued → Served → Type 0
IsServedBehind r attempts issued q =
    (x : Attempt) (e : Epoch) (m : MinorWrite) → WasAnswered attempts x e q.by → WritesAt r x.id q.target m → overlaps (read_path q.read) (write_path m.write) ≡ true → IsBehind r.epsilon issued e q.by q.epoch

-- the attempts of a client stand in the order of its commands
abbrev pub AreInOrder : List Attempt → Type 0
AreInOrder attempts =
    (before : List Attempt) (a : Attempt) (after : List Attempt) (b : Attempt) → attempts ≡ before ++ a ∷ after → Has b before → b.id.client ≡ a.id.client → b.id.command ≤ a.id.command

-- ---- as more is issued, and more lines are told

module _ (r : Rules) (attempts more : List Attempt) (issued later : Issued) (grew : (x : AttemptId) (e : Epoch) → Contains issued (x, e) → Contains later (x, e)) where
  pub behind-on : (e : Epoch) (y : AttemptId) (f : Epoch) → IsBehind r.epsilon issued e y f → IsBehind r.epsilon later e y f
  behind-on e y f (IsLater le) = IsLater le
  behind-on e y f (IsFar far) = IsFar far
  behind-on e y f (IsFarOfFirst k first low its far) = IsFarOfFirst k first low (grew (record y { attempt = k }) first its) far

  -- where nothing more was answered before an attempt began
  abbrev pub NoneMore : AttemptId → Type 0
  NoneMore y = (x : Attempt) (e : Epoch) → WasAnswered more x e y → WasAnswered attempts x e y

  pub stored-on : (t : ℕ) (y : AttemptId) (f : Epoch) → NoneMore y → IsStoredBehind r attempts issued t y f → IsStoredBehind r more later t y f
  stored-on t y f none k = record {
    writes = λ x e m n was at own over. behind-on e y f (k.writes x e m n (none x e was) at own over);
    reads = λ x e read n was at own over. k.reads x e read n (none x e was) at own over;
  }

  pub served-on : (q : Served) → NoneMore q.by → IsServedBehind r attempts issued q → IsServedBehind r more later q
  served-on q none k x e m was at over = behind-on e q.by q.epoch (k x e m (none x e was) at over)

-- ---- one more line

-- where an element stands in a list with one more behind it
pub data StandsAt {T : Type 0} (xs : List T) (z : T) (before : List T) (a : T) : Type 0 where
  IsLast : before ≡ xs → a ≡ z → StandsAt xs z before a
  IsEarlier : (after : List T) → xs ≡ before ++ a ∷ after → StandsAt xs z before a

pub stands-at : {T : Type 0} (xs : List T) (z : T) (before : List T) (a : T) (after : List T) → xs ++ z ∷ [] ≡ before ++ a ∷ after → StandsAt xs z before a
stands-at [] z [] a after same = let one : z ≡ a = cc in IsLast refl (sym one)
stands-at [] z (b ∷ []) a after same = let no : ⊥ = cc in absurd no
stands-at [] z (b ∷ c ∷ before) a after same = let no : ⊥ = cc in absurd no
stands-at (x ∷ xs) z [] a after same = let one : x ≡ a = cc in IsEarlier xs (ap (λ y. y ∷ xs) one)
stands-at (x ∷ xs) z (b ∷ before) a after same =
    let one : x ≡ b = cc in
    let rest : xs ++ z ∷ [] ≡ before ++ a ∷ after = cc in
    longer one (stands-at xs z before a after rest)
  where
    longer : x ≡ b → StandsAt xs z before a → StandsAt (x ∷ xs) z (b ∷ before) a
    longer one (IsLast same last) = IsLast (ap (λ y. y ∷ before) (sym one) ∙ ap (λ ys. x ∷ ys) same) last
    longer one (IsEarlier behind at) = IsEarlier behind (ap (λ ys. x ∷ ys) at ∙ ap (λ y. y ∷ (before ++ a ∷ behind)) one)

-- what was answered before an attempt began, by lines to which one was added that isn't of an earlier command of its client
pub answered-back : (attempts : List Attempt) (z : Attempt) (y : AttemptId) → (z.id.client ≡ y.client → z.id.command < y.command → ⊥) → (x : Attempt) (e : Epoch) → WasAnswered (attempts ++ z ∷ []) x e y → WasAnswered attempts x e y
answered-back attempts z y none x e k = by (stands-at attempts z k.before.before k.before.earlier k.before.after k.before.among)
  where
    by : StandsAt attempts z k.before.before k.before.earlier → WasAnswered attempts x e y
    by (IsLast same last) = absurd (none (ap (λ a. a.id.client) (sym last) ∙ k.before.own) (subst (λ (a : Attempt). a.id.command < y.command) last k.before.past))
    by (IsEarlier after at) = record {
      there = contains-from_has attempts x (subst (Has x) (sym at) (elim (has-cases k.before.before (k.before.earlier ∷ []) x (has-from_contains _ x k.before.told)) [
        | inl i ↦ has-left k.before.before (k.before.earlier ∷ after) x i
        | inr i ↦ has-right k.before.before (k.before.earlier ∷ after) x (only i)
      ]));
      committed = k.committed;
      epoch = k.epoch;
      before = record { before = k.before.before; earlier = k.before.earlier; after = after; among = at; own = k.before.own; past = k.before.past; told = k.before.told };
    }
      where
        only : Has x (k.before.earlier ∷ []) → Has x (k.before.earlier ∷ after)
        only (inl same) = inl same
        only (inr none) = absurd none

-- lines stand in order with one more, that is of no earlier command than those of its client
pub order-on : (attempts : List Attempt) (z : Attempt) → AreInOrder attempts → ((b : Attempt) → Has b attempts → b.id.client ≡ z.id.client → b.id.command ≤ z.id.command) → AreInOrder (attempts ++ z ∷ [])
order-on attempts z order last before a after b all i own = by (stands-at attempts z before a after all)
  where
    by : StandsAt attempts z before a → b.id.command ≤ a.id.command
    by (IsLast same is) = subst (λ (c : Attempt). b.id.command ≤ c.id.command) (sym is) (last b (subst (Has b) same i) (own ∙ ap (λ c. c.id.client) is))
    by (IsEarlier behind at) = order before a behind b at i own

-- What an attempt accesses, when its command began, and what a target stores of it.
use Rattle.std.specs.Prelude.{ℕ, suc, ◌≡◌, ◌⊎◌, ◌≤◌, ◌<◌, ◌+◌, ◌++◌, true, is_some, List, [], ◌∷◌, Contains, slice_get, Option, Some, None, refl}
use Rattle.std.proofs.Common.{append_assoc, sym, ◌∙◌, ap, subst, inl, inr, arith}
use Rattle.std.proofs.lemmas.Bool.{cases_lt}
use Rattle.base_types.specs.declared.entry.Entry.{Entry}
use Rattle.base_types.specs.declared.id.AttemptId.{AttemptId}
use Rattle.base_types.specs.declared.operation.Act.{Act}
use Rattle.base_types.specs.declared.operation.Act.TheVariants as act
use Rattle.base_types.specs.declared.operation.MinorWrite.{MinorWrite}
use Rattle.base_types.specs.declared.operation.Op.{Op}
use Rattle.base_types.specs.declared.operation.Read.{Read}
use Rattle.base_types.specs.declared.operation.Write.{Write}
use Rattle.base_types.specs.declared.path.Path.{Path}
use Rattle.base_types.specs.declared.report.Attempt.{Attempt}
use Rattle.base_types.specs.Operations.{act_path, read_path, write_path}
use Rattle.daos_model.specs.Accesses.{access_paths, minor_write, minor_writes, op_path}
use Rattle.daos_model.specs.Durables.{entry_of, is_entry_of}
use Rattle.daos_model.specs.Transactions.{read_at, read_of, read_of_op}
use Rattle.model_laws.specs.EntryLaws.{found-has}
use Rattle.model_laws.specs.Members.{Has, contains-from_has, has-cases, has-from_contains, has-from_map, has-left, has-right}
use Rattle.world_base.specs.declared.target.TargetState.{TargetState}
use Rattle.world_upheld.specs.below.Standing.{AreInOrder, BeganAfter, IsAnsweredBefore}

-- ---- accesses

-- an act that changes something is among the writes
writes-have : (k : ℕ) (ops : List Op) (op : Op) (w : Write) → Has op ops → op.act ≡ act.Change w → (m : MinorWrite) × Has m (minor_writes k ops) × (m.write ≡ w)
unfolding minor_writes
writes-have k [] op w i is = absurd i
writes-have k (z ∷ ops) op w (inl same) is = by z.act (sym (ap (λ x. x.act) same) ∙ is)
  where
    by : (a : Act) → a ≡ act.Change w → (m : MinorWrite) × Has m (minor_write k a ++ minor_writes (k + 1) ops) × (m.write ≡ w)
    by (act.Fetch q) e = let no : ⊥ = cc in absurd no
    by (act.Change v) e = let one : v ≡ w = cc in (record { minor = k; write = v }, inl refl, one)
writes-have k (z ∷ ops) op w (inr i) is = let m = writes-have (k + 1) ops op w i is in (m.0, has-right (minor_write k z.act) (minor_writes (k + 1) ops) m.0 m.1, m.2)

-- an attempt has an access on a path: it reads there, or writes there
pub data IsAccess (ops : List Op) (p : Path) : Type 0 where
  Reads : (op : ℕ) (read : Read) → read_at ops op ≡ Some read → read_path read ≡ p → IsAccess ops p
  Writes : (m : MinorWrite) → Has m (minor_writes 0 ops) → write_path m.write ≡ p → IsAccess ops p

-- where an element stands
has-at : {T : Type 0} (xs : List T) (x : T) → Has x xs → (n : ℕ) × (slice_get xs n ≡ Some x)
has-at [] x i = absurd i
has-at (y ∷ xs) x (inl same) = (0, ap (λ z. Some z) (sym same))
has-at (y ∷ xs) x (inr i) = let n = has-at xs x i in (suc n.0, n.1)

pub access-of : (ops : List Op) (p : Path) → Contains (access_paths ops) p → IsAccess ops p
access-of ops p i = by z.0.act refl
  where
    z : (op : Op) × Has op ops × (op_path op ≡ p)
    z = has-from_map op_path ops p (has-from_contains (access_paths ops) p i)

    at : (n : ℕ) × (slice_get ops n ≡ Some z.0)
    at = has-at ops z.0 z.1

    by : (a : Act) → z.0.act ≡ a → IsAccess ops p
    by (act.Fetch read) is = Reads at.0 read (ap read_of_op at.1 ∙ ap read_of is) (sym (ap act_path is) ∙ z.2)
    by (act.Change w) is = let m = writes-have 0 ops z.0 w z.1 is in Writes m.0 m.1 (ap write_path m.2 ∙ sym (ap act_path is) ∙ z.2)

-- ---- when a command began

split-at : {T : Type 0} (xs : List T) (x : T) → Has x xs → (before : List T) × (after : List T) × (xs ≡ before ++ x ∷ after)
split-at [] x i = absurd i
split-at (y ∷ xs) x (inl same) = ([], xs, ap (λ z. z ∷ xs) (sym same))
split-at (y ∷ xs) x (inr i) = let k = split-at xs x i in (y ∷ k.0, k.1, ap (λ zs. y ∷ zs) k.2)

-- a line of the client that precedes all lines of a command is of an earlier one, where lines stand in order
pub began-after : (attempts : List Attempt) (x y : Attempt) → AreInOrder attempts → Contains attempts y → IsAnsweredBefore attempts x y.id → BeganAfter attempts x y.id
began-after attempts x y order i k = record { before = k.before; earlier = k.earlier; after = k.after; among = k.among; own = k.own; past = past; told = k.told }
  where
    apart : y.id.command ≡ k.earlier.id.command → ⊥
    apart same = k.precedes k.earlier (contains-from_has (k.before ++ k.earlier ∷ []) k.earlier (has-right k.before (k.earlier ∷ []) k.earlier (inl refl))) (record { client = k.own; command = sym same })

    later : Has y k.after
    later = by (has-cases k.before (k.earlier ∷ k.after) y (subst (Has y) k.among (has-from_contains attempts y i)))
      where
        no : Has y (k.before ++ k.earlier ∷ []) → Has y k.after
        no j = absurd (k.precedes y (contains-from_has (k.before ++ k.earlier ∷ []) y j) (record { client = refl; command = refl }))

        by : Has y k.before ⊎ Has y (k.earlier ∷ k.after) → Has y k.after
        by (inl j) = no (has-left k.before (k.earlier ∷ []) y j)
        by (inr (inl same)) = no (has-right k.before (k.earlier ∷ []) y (inl same))
        by (inr (inr j)) = j

    low : k.earlier.id.command ≤ y.id.command
    low =
        let z = split-at k.after y later in
        order (k.before ++ k.earlier ∷ z.0) y z.1 k.earlier (k.among ∙ ap (λ zs. k.before ++ k.earlier ∷ zs) z.2 ∙ sym (append_assoc k.before (k.earlier ∷ z.0) (y ∷ z.1))) (has-right k.before (k.earlier ∷ z.0) k.earlier (inl refl)) k.own

    past : k.earlier.id.command < y.id.command
    past = by (cases_lt k.earlier.id.command y.id.command)
      where
        by : (k.earlier.id.command < y.id.command) ⊎ (y.id.command ≤ k.earlier.id.command) → k.earlier.id.command < y.id.command
        by (inl lt) = lt
        by (inr ge) = absurd (apart (omega (arith, low, ge)))

pub some-key : (x : Option (List ℕ)) → is_some x ≡ true → (k : List ℕ) × (x ≡ Some k)
some-key None some = let no : ⊥ = cc in absurd no
some-key (Some k) some = (k, refl)

-- an entry that is found is among those that are kept
pub entry-among : (s : TargetState) (x : AttemptId) (e : Entry) → entry_of s.durable x ≡ Some e → Has e s.durable.entries
unfolding entry_of
entry-among s x e found = found-has (is_entry_of x) s.durable.entries e found

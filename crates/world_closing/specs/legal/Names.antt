-- One command of a client makes the snapshot of a name, and of its attempts one ends it.
use Rattle.std.specs.Prelude.{ℕ, zero, suc, ◌≡◌, ◌+◌, ◌≤◌, ◌++◌, ◌⊎◌, false, List, [], ◌∷◌, map, find, slice_get, Option, Some, None, refl}
use Rattle.std.specs.List.{IsDistinct}
use Rattle.std.proofs.Common.{sym, ◌∙◌, ap, subst, inl, inr, arith}
use Rattle.std.proofs.lemmas.Map.Keys.{IsDistinct-tail}
use Rattle.base_types.specs.declared.id.AttemptId.{AttemptId}
use Rattle.base_types.specs.declared.id.ContId.{ContId}
use Rattle.base_types.specs.declared.report.Attempt.{Attempt}
use Rattle.base_types.specs.declared.script.Command.{Command}
use Rattle.base_types.specs.declared.script.Command.TheVariants.{Aggregate, Run, Skip, Snap, Tell}
use Rattle.base_types.specs.declared.script.OldDecl.{OldDecl}
use Rattle.base_types.specs.declared.script.Script.{Script}
use Rattle.base_types.specs.Keys.{same_key}
use Rattle.base_types.specs.Scripts.{IsInForm, SnapName, all_snaps, is_numbered, old_snap, snaps_of}
use Rattle.model_laws.specs.Lists.{has-at}
use Rattle.model_laws.specs.Members.{Has, has-cases, has-from_filter, has-left}
use Rattle.daos_model.specs.Attempts.{is_restart}
use Rattle.daos_model.specs.BoolLaws.{clash}
use Rattle.daos_model.specs.Order.{AreAttempts, AreInTurn}
use Rattle.daos_model.specs.ReadsLegal.{is_named}
use Rattle.daos_model.specs.Transactions.{command_of, numbered, numbered_at}
use Rattle.world_upheld.specs.below.Legal.{command-of, from-on}
use Rattle.world_upheld.specs.upheld.Named.{first-alone, made-named, name_of_snap, never-both, old-named, snaps-made}

-- names of snapshots that differ
abbrev pub NamesDiffer : List SnapName → Type 0
NamesDiffer ks = IsDistinct same_key (map name_of_snap ks)

pub differ-right : (ks ls : List SnapName) → NamesDiffer (ks ++ ls) → NamesDiffer ls
differ-right [] ls apart = apart
differ-right (k ∷ ks) ls apart = differ-right ks ls (IsDistinct-tail same_key k.0 (map name_of_snap (ks ++ ls)) apart)

-- what a list of commands makes besides others has one place
one-place : (cs : List Command) (rest : List SnapName) (i j : ℕ) (name : List ℕ) (c d : ContId) → NamesDiffer (snaps_of cs ++ rest) → slice_get (numbered cs) i ≡ Some (Snap name c) → slice_get (numbered cs) j ≡ Some (Snap name d) → i ≡ j
one-place [] rest i j name c d apart a b = let no : ⊥ = cc in absurd no
one-place (Snap n k ∷ cs) rest zero zero name c d apart a b = refl
one-place (Snap n k ∷ cs) rest zero (suc j) name c d apart a b =
    absurd
    (first-alone (n, k) (name, d) (snaps_of cs ++ rest) apart
    (has-left (snaps_of cs) rest (name, d) (snaps-made cs name d (has-from_filter is_numbered cs (Snap name d) (has-at (numbered cs) j (Snap name d) b)).0)) (let same : n ≡ name = cc (a) in same))
one-place (Snap n k ∷ cs) rest (suc i) zero name c d apart a b =
    absurd
    (first-alone (n, k) (name, c) (snaps_of cs ++ rest) apart
    (has-left (snaps_of cs) rest (name, c) (snaps-made cs name c (has-from_filter is_numbered cs (Snap name c) (has-at (numbered cs) i (Snap name c) a)).0)) (let same : n ≡ name = cc (b) in same))
one-place (Snap n k ∷ cs) rest (suc i) (suc j) name c d apart a b = ap suc (one-place cs rest i j name c d (IsDistinct-tail same_key n (map name_of_snap (snaps_of cs ++ rest)) apart) a b)
one-place (Run ops turns snapshot ∷ cs) rest (suc i) (suc j) name c d apart a b = ap suc (one-place cs rest i j name c d apart a b)
one-place (Run ops turns snapshot ∷ cs) rest zero j name c d apart a b = let no : ⊥ = cc (a) in absurd no
one-place (Run ops turns snapshot ∷ cs) rest (suc i) zero name c d apart a b = let no : ⊥ = cc (b) in absurd no
one-place (Aggregate k ∷ cs) rest (suc i) (suc j) name c d apart a b = ap suc (one-place cs rest i j name c d apart a b)
one-place (Aggregate k ∷ cs) rest zero j name c d apart a b = let no : ⊥ = cc (a) in absurd no
one-place (Aggregate k ∷ cs) rest (suc i) zero name c d apart a b = let no : ⊥ = cc (b) in absurd no
one-place (Tell m ∷ cs) rest i j name c d apart a b = one-place cs rest i j name c d apart a b
one-place (Skip m ∷ cs) rest i j name c d apart a b = one-place cs rest i j name c d apart a b

-- the names of one client among those of all
pub record AmongAll (list : List Command) : Type 0 where
  pub rest : List SnapName
  pub apart : NamesDiffer (snaps_of list ++ rest)

pub among-all : (lists : List (List Command)) (n : ℕ) (list : List Command) → slice_get lists n ≡ Some list → NamesDiffer (all_snaps lists) → AmongAll list
among-all [] n list at apart = let no : ⊥ = cc in absurd no
among-all (l ∷ ls) zero list at apart = let same : l ≡ list = cc in record { rest = all_snaps ls; apart = subst (λ z. NamesDiffer (snaps_of z ++ all_snaps ls)) same apart }
among-all (l ∷ ls) (suc n) list at apart = among-all ls n list at (differ-right (snaps_of l) (all_snaps ls) apart)

-- Attempts of a client that make snapshots of one name are of one command.
pub made-by_one : (s : Script) (x y : AttemptId) (name : List ℕ) (c d : ContId) → IsInForm s.targets s → x.client ≡ y.client → command_of s x ≡ Some (Snap name c) → command_of s y ≡ Some (Snap name d) → x.command ≡ y.command
unfolding command_of
made-by_one s x y name c d form client first second = by (slice_get s.clients x.client) refl first (subst (λ n. numbered_at y.command (slice_get s.clients n) ≡ Some (Snap name d)) (sym client) second)
  where
    by : (o : Option (List Command)) → slice_get s.clients x.client ≡ o → numbered_at x.command o ≡ Some (Snap name c) → numbered_at y.command (slice_get s.clients x.client) ≡ Some (Snap name d) → x.command ≡ y.command
    by None is a b = let no : ⊥ = cc (a) in absurd no
    by (Some list) is a b =
        let z = among-all s.clients x.client list is (differ-right (map old_snap s.olds) (all_snaps s.clients) form.snap_names) in
        one-place list z.rest x.command y.command name c d z.apart a (subst (λ o. numbered_at y.command o ≡ Some (Snap name d)) is b)

-- And no earlier run's snapshot is declared by the name of one that is made.
pub made-is_new : (s : Script) (x : AttemptId) (name : List ℕ) (c : ContId) → IsInForm s.targets s → command_of s x ≡ Some (Snap name c) → find (is_named name) s.olds ≡ None
made-is_new s x name c form makes = by (find (is_named name) s.olds) refl
  where
    by : (o : Option OldDecl) → find (is_named name) s.olds ≡ o → o ≡ None
    by None is = refl
    by (Some d) is = absurd (never-both (map old_snap s.olds) (all_snaps s.clients) name d.cont c form.snap_names (old-named s.olds name d is) (made-named s x name c makes))

-- ---- one attempt ends a command

last-once : (limit client command n : ℕ) (xs : List Attempt) (a b : Attempt) → AreAttempts limit client command n xs → Has a xs → Has b xs → is_restart a.outcome ≡ false → is_restart b.outcome ≡ false → a ≡ b
last-once limit client command n [] a b k i j p q = absurd i
last-once limit client command n (x ∷ []) a b k (inl i) (inl j) p q = i ∙ sym j
last-once limit client command n (x ∷ []) a b k (inr i) j p q = absurd i
last-once limit client command n (x ∷ []) a b k (inl i) (inr j) p q = absurd j
last-once limit client command n (x ∷ y ∷ more) a b k (inl i) j p q = clash (is_restart x.outcome) k.1 (subst (λ z. is_restart z.outcome ≡ false) i p)
last-once limit client command n (x ∷ y ∷ more) a b k (inr i) (inl j) p q = clash (is_restart x.outcome) k.1 (subst (λ z. is_restart z.outcome ≡ false) j q)
last-once limit client command n (x ∷ y ∷ more) a b k (inr i) (inr j) p q = last-once limit client command (n + 1) (y ∷ more) a b k.3 i j p q

-- Of the attempts of a command one isn't told to restart, where they stand in turn.
pub ends-once : (limit client n : ℕ) (cs : List Command) (xs : List Attempt) (a b : Attempt) → AreInTurn limit client n cs xs → Has a xs → Has b xs → a.id.command ≡ b.id.command → is_restart a.outcome ≡ false → is_restart b.outcome ≡ false → a ≡ b
ends-once limit client n [] xs a b t i j same p q = absurd (subst (Has a) t i)
ends-once limit client n (c ∷ cs) xs a b t i j same p q = by (has-cases t.0 t.1 a (subst (Has a) t.2 i)) (has-cases t.0 t.1 b (subst (Has b) t.2 j)) (λ k l. ends-once limit client (n + 1) cs t.1 a b t.4 k l same p q)
  where
    apart : (x y : Attempt) → Has x t.0 → Has y t.1 → x.id.command ≡ y.id.command → ⊥
    apart x y k l one =
        let e : x.id.command ≡ n = command-of limit client n 0 t.0 x t.3 k in
        let low : n + 1 ≤ y.id.command = from-on limit client (n + 1) cs t.1 y t.4 l in
        omega (arith, e, low, one)

    by : Has a t.0 ⊎ Has a t.1 → Has b t.0 ⊎ Has b t.1 → (Has a t.1 → Has b t.1 → a ≡ b) → a ≡ b
    by (inl k) (inl l) rest = last-once limit client n 0 t.0 a b t.3 k l p q
    by (inl k) (inr l) rest = absurd (apart a b k l same)
    by (inr k) (inl l) rest = absurd (apart b a l k (sym same))
    by (inr k) (inr l) rest = rest k l

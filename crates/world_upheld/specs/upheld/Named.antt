-- In a script in form a name stands for one snapshot, and what reads at a snapshot reads in its container.
use Rattle.std.specs.Prelude.{ℕ, ◌≡◌, ◌++◌, true, false, List, [], ◌∷◌, map, filter, find, slice_get, Option, Some, None, refl}
use Rattle.std.specs.List.{AllByRecursion, IsDistinct}
use Rattle.std.proofs.Common.{sym, ◌∙◌, ap, subst, inl, inr}
use Rattle.std.proofs.lemmas.Map.Keys.{IsDistinct-head, IsDistinct-tail}
use Rattle.base_types.specs.declared.id.AttemptId.{AttemptId}
use Rattle.base_types.specs.declared.id.ContId.{ContId}
use Rattle.base_types.specs.declared.operation.Act.{Act}
use Rattle.base_types.specs.declared.operation.Act.TheVariants as act
use Rattle.base_types.specs.declared.operation.Cond.{Cond}
use Rattle.base_types.specs.declared.operation.Cond.TheVariants as cond
use Rattle.base_types.specs.declared.operation.Op.{Op}
use Rattle.base_types.specs.declared.operation.Read.{Read}
use Rattle.base_types.specs.declared.script.Command.{Command}
use Rattle.base_types.specs.declared.script.Command.TheVariants as command
use Rattle.base_types.specs.declared.script.OldDecl.{OldDecl}
use Rattle.base_types.specs.declared.script.Script.{Script}
use Rattle.base_types.specs.Keys.{same_key}
use Rattle.base_types.specs.Operations.{act_path, read_path}
use Rattle.base_types.specs.PathLaws.{same_key-Decides}
use Rattle.base_types.specs.Scripts.{AreCommands, IsCommand, IsInForm, IsPlainReadIn, SnapName, all_snaps, is_fetch, is_numbered, old_snap, snap_of, snaps_of}
use Rattle.daos_model.specs.Attempts.{snapshot_of, snapshot_or_none}
use Rattle.daos_model.specs.BoolLaws.{clash}
use Rattle.daos_model.specs.ReadsLegal.{is_named}
use Rattle.daos_model.specs.Transactions.{attempt_ops, command_of, numbered_at, ops_or_none}
use Rattle.model_laws.specs.DecidedLaws.{has-all}
use Rattle.model_laws.specs.EntryLaws.{found-has, found-passes}
use Rattle.model_laws.specs.Lists.{all-at, has-at}
use Rattle.model_laws.specs.Members.{Has, has-cases, has-from_contains, has-from_filter, has-left, has-map, has-right}
use Rattle.world_base.specs.declared.client.Stage.{Stage}
use Rattle.world_base.specs.declared.client.Stage.TheVariants as stage
use Rattle.world_base.specs.ClientTurns.{question}

-- ---- the names of a script

abbrev pub name_of_snap : SnapName → List ℕ
name_of_snap k = k.0

-- the snapshots that a script declares, and those that its clients make
abbrev pub script_snaps : Script → List SnapName
script_snaps s = map old_snap s.olds ++ all_snaps s.clients

-- ---- names that differ

each-of : {T : Type 0} (P : T → Type 0) (xs : List T) (x : T) → AllByRecursion P xs → Has x xs → P x
each-of P [] x all i = absurd i
each-of P (y ∷ ys) x all (inl same) = subst P (sym same) all.0
each-of P (y ∷ ys) x all (inr i) = each-of P ys x all.1 i

-- none behind it has the first one's name
pub first-alone : (k l : SnapName) (ks : List SnapName) → IsDistinct same_key (map name_of_snap (k ∷ ks)) → Has l ks → k.0 ≡ l.0 → ⊥
first-alone k l ks apart i same =
    clash (same_key k.0 l.0) ((same_key-Decides k.0 l.0).1 same)
    (each-of (λ y. same_key k.0 y ≡ false) (map name_of_snap ks) l.0 (IsDistinct-head same_key k.0 (map name_of_snap ks) apart) (has-map name_of_snap ks l i))

-- so a name is of one container
pub one-cont : (ks : List SnapName) (name : List ℕ) (c d : ContId) → IsDistinct same_key (map name_of_snap ks) → Has (name, c) ks → Has (name, d) ks → c ≡ d
one-cont [] name c d apart i j = absurd i
one-cont (k ∷ ks) name c d apart (inl a) (inl b) = ap (λ z. z.1) (a ∙ sym b)
one-cont (k ∷ ks) name c d apart (inl a) (inr j) = absurd (first-alone k (name, d) ks apart j (ap (λ z. z.0) (sym a)))
one-cont (k ∷ ks) name c d apart (inr i) (inl b) = absurd (first-alone k (name, c) ks apart i (ap (λ z. z.0) (sym b)))
one-cont (k ∷ ks) name c d apart (inr i) (inr j) = one-cont ks name c d (IsDistinct-tail same_key k.0 (map name_of_snap ks) apart) i j

-- and stands in one of two parts
pub never-both : (ks ls : List SnapName) (name : List ℕ) (c d : ContId) → IsDistinct same_key (map name_of_snap (ks ++ ls)) → Has (name, c) ks → Has (name, d) ls → ⊥
never-both [] ls name c d apart i j = i
never-both (k ∷ ks) ls name c d apart (inl a) j = first-alone k (name, d) (ks ++ ls) apart (has-right ks ls (name, d) j) (ap (λ z. z.0) (sym a))
never-both (k ∷ ks) ls name c d apart (inr i) j = never-both ks ls name c d (IsDistinct-tail same_key k.0 (map name_of_snap (ks ++ ls)) apart) i j

-- ---- the snapshots that clients make

pub snaps-made : (list : List Command) (name : List ℕ) (c : ContId) → Has (command.Snap name c) list → Has (name, c) (snaps_of list)
snaps-made [] name c i = absurd i
snaps-made (d ∷ ds) name c (inl same) = has-left (snap_of d) (snaps_of ds) (name, c) (subst (λ z. Has (name, c) (snap_of z)) same (inl refl))
snaps-made (d ∷ ds) name c (inr i) = has-right (snap_of d) (snaps_of ds) (name, c) (snaps-made ds name c i)

lists-make : (lists : List (List Command)) (list : List Command) (k : SnapName) → Has list lists → Has k (snaps_of list) → Has k (all_snaps lists)
lists-make [] list k i j = absurd i
lists-make (l ∷ ls) list k (inl same) j = has-left (snaps_of l) (all_snaps ls) k (subst (λ z. Has k (snaps_of z)) same j)
lists-make (l ∷ ls) list k (inr i) j = has-right (snaps_of l) (all_snaps ls) k (lists-make ls list k i j)

-- the command of an attempt stands in the list of its client
pub command-in : (s : Script) (x : AttemptId) (d : Command) → command_of s x ≡ Some d → (list : List Command) × (slice_get s.clients x.client ≡ Some list) × Has d list
unfolding command_of
command-in s x d is = by (slice_get s.clients x.client) refl is
  where
    by : (o : Option (List Command)) → slice_get s.clients x.client ≡ o → numbered_at x.command o ≡ Some d
        → (list : List Command) × (slice_get s.clients x.client ≡ Some list) × Has d list
    by None at bad = let no : ⊥ = cc in absurd no
    by (Some list) at found = (list, at, (has-from_filter is_numbered list d (has-at (filter is_numbered list) x.command d found)).0)

-- what an attempt makes is among the names
pub made-named : (s : Script) (x : AttemptId) (name : List ℕ) (c : ContId) → command_of s x ≡ Some (command.Snap name c) → Has (name, c) (all_snaps s.clients)
made-named s x name c is =
    let z = command-in s x (command.Snap name c) is in
    lists-make s.clients z.0 (name, c) (has-at s.clients x.client z.0 z.1) (snaps-made z.0 name c z.2)

-- and so is what is declared
pub old-named : (olds : List OldDecl) (name : List ℕ) (d : OldDecl) → find (is_named name) olds ≡ Some d → Has (name, d.cont) (map old_snap olds)
old-named olds name d is =
    subst (λ n. Has (n, d.cont) (map old_snap olds)) (sym ((same_key-Decides name d.name).0 (found-passes (is_named name) olds d is)))
    (has-map old_snap olds d (found-has (is_named name) olds d is))

-- ---- what a command reads at

-- the commands of a list know names of the script only
known-at : (s : Script) (known : List SnapName) (list : List Command) (d : Command) → AreCommands s.conts s.objs known list → Has d list
    → ((k : SnapName) → Has k known → Has k (script_snaps s)) → ((k : SnapName) → Has k (snaps_of list) → Has k (script_snaps s))
    → (more : List SnapName) × IsCommand s.conts s.objs more d × ((k : SnapName) → Has k more → Has k (script_snaps s))
known-at s known [] d are i old new = absurd i
known-at s known (c ∷ cs) d are (inl same) old new = (known, subst (IsCommand s.conts s.objs known) (sym same) are.0, old)
known-at s known (c ∷ cs) d are (inr i) old new =
    known-at s (known ++ snap_of c) cs d are.1 i
    (λ k j. elim (has-cases known (snap_of c) k j) [ inl a ↦ old k a | inr b ↦ new k (has-left (snap_of c) (snaps_of cs) k b) ])
    (λ k j. new k (has-right (snap_of c) (snaps_of cs) k j))

-- the command of an attempt is in form, and knows names of the script
pub command-knows : (s : Script) (x : AttemptId) (d : Command) → IsInForm s.targets s → command_of s x ≡ Some d
    → (more : List SnapName) × IsCommand s.conts s.objs more d × ((k : SnapName) → Has k more → Has k (script_snaps s))
command-knows s x d form is =
    let z = command-in s x d is in
    known-at s (map old_snap s.olds) z.0 d (all-at (λ l. AreCommands s.conts s.objs (map old_snap s.olds) l) s.clients x.client z.0 form.commands z.1) z.2
    (λ k i. has-left (map old_snap s.olds) (all_snaps s.clients) k i)
    (λ k i. has-right (map old_snap s.olds) (all_snaps s.clients) k (lists-make s.clients z.0 k (has-at s.clients x.client z.0 z.1) i))

-- a question of an operation that reads plainly is in that container
plain-question : (c : ContId) (st : Stage) (op : Op) (q : Read) → IsPlainReadIn c op → question st op ≡ Some q → (read_path q).cont ≡ c
plain-question c st op q k asks = by st op.cond op.act k.free k.fetch k.inside asks
  where
    by : (st : Stage) (b : Cond) (a : Act) → b ≡ cond.Free → is_fetch a ≡ true → (act_path a).cont ≡ c → question st (record { act = a; cond = b }) ≡ Some q
        → (read_path q).cont ≡ c
    by stage.Skip b a free fetch inside h = let no : ⊥ = cc in absurd no
    by stage.Cond cond.Free a free fetch inside h = let no : ⊥ = cc in absurd no
    by stage.Cond cond.Must a free fetch inside h = let no : ⊥ = cc in absurd no
    by stage.Cond cond.MustNot a free fetch inside h = let no : ⊥ = cc in absurd no
    by stage.Act b (act.Fetch r) free fetch inside h = let same : r ≡ q = cc in subst (λ z. (read_path z).cont ≡ c) same inside
    by stage.Act b (act.Change w) free fetch inside h = let no : ⊥ = cc in absurd no

-- So what an attempt asks that reads at a snapshot is in the container of that name.
pub read-named : (s : Script) (x : AttemptId) (name : List ℕ) (n : ℕ) (op : Op) (st : Stage) (q : Read) → IsInForm s.targets s → snapshot_of s x ≡ Some name
    → slice_get (attempt_ops s x) n ≡ Some op → question st op ≡ Some q
    → Has (name, (read_path q).cont) (script_snaps s)
read-named s x name n op st q form reads at asks = by (command_of s x) refl reads at
  where
    by : (o : Option Command) → command_of s x ≡ o → snapshot_or_none o ≡ Some name → slice_get (ops_or_none o) n ≡ Some op → Has (name, (read_path q).cont) (script_snaps s)
    by None is bad here = let no : ⊥ = cc in absurd no
    by (Some (command.Run ops turns None)) is bad here = let no : ⊥ = cc in absurd no
    by (Some (command.Run ops turns (Some called))) is same here =
        let k = command-knows s x (command.Run ops turns (Some called)) form is in
        let one : called ≡ name = cc in
        let known = k.1.1 in
        let inside : (read_path q).cont ≡ known.0 = plain-question known.0 st op q (has-all (IsPlainReadIn known.0) ops op known.2 (has-at ops n op here)) asks in
        let i = known.1 in
        k.2 (name, (read_path q).cont)
        (subst (λ z. Has z k.0) (i.4 ∙ ap (λ (y : List ℕ). (y, known.0)) one ∙ ap (λ (y : ContId). (name, y)) (sym inside)) (has-from_contains k.0 i.1 (i.0, i.2, i.3)))
    by (Some (command.Snap called c)) is bad here = let no : ⊥ = cc in absurd no
    by (Some (command.Aggregate c)) is bad here = let no : ⊥ = cc in absurd no
    by (Some (command.Tell m)) is bad here = let no : ⊥ = cc in absurd no
    by (Some (command.Skip turns)) is bad here = let no : ⊥ = cc in absurd no

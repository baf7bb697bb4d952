-- The names of a script stand for one snapshot each, and what reads at one reads in its container.
use Rattle.std.specs.Prelude.{ℕ, ◌≡◌, ◌⊎◌, ◌++◌, true, false, List, [], ◌∷◌, Any, find, map, slice_get, Option, Some, None, refl}
use Rattle.std.specs.List.{AllByRecursion, IsDistinct}
use Rattle.std.proofs.Common.{sym, ◌∙◌, ap, subst, inl, inr}
use Rattle.base_types.specs.declared.epoch.Epoch.{Epoch}
use Rattle.base_types.specs.declared.id.AttemptId.{AttemptId}
use Rattle.base_types.specs.declared.id.ContId.{ContId}
use Rattle.base_types.specs.declared.operation.Op.{Op}
use Rattle.base_types.specs.declared.script.Command.{Command}
use Rattle.base_types.specs.declared.script.Command.TheVariants.{Aggregate, Run, Skip, Snap, Tell}
use Rattle.base_types.specs.declared.script.ContDecl.{ContDecl}
use Rattle.base_types.specs.declared.script.ObjDecl.{ObjDecl}
use Rattle.base_types.specs.declared.script.OldDecl.{OldDecl}
use Rattle.base_types.specs.declared.script.Script.{Script}
use Rattle.base_types.specs.Keys.{same_key}
use Rattle.base_types.specs.PathLaws.{same_key-Decides}
use Rattle.base_types.specs.Scripts.{AreCommands, IsCommand, IsInForm, IsPlainReadIn, ReadsAt, SnapName, all_snaps, is_numbered, old_snap, snap_of, snaps_of}
use Rattle.model_laws.specs.DecidedLaws.{has-all}
use Rattle.model_laws.specs.EntryLaws.{found-has, found-passes}
use Rattle.model_laws.specs.Lists.{at-index, has-at}
use Rattle.model_laws.specs.Members.{Has, has-cases, has-from_filter, has-left, has-map, has-right}
use Rattle.daos_model.specs.Accesses.{op_path}
use Rattle.daos_model.specs.Attempts.{snapshot_of, snapshot_or_none}
use Rattle.daos_model.specs.Opening.{Opening}
use Rattle.daos_model.specs.ReadsLegal.{is_named}
use Rattle.daos_model.specs.Transactions.{attempt_ops, command_of, numbered, numbered_at, ops_or_none}
use Rattle.world_base.specs.Events.{Rules}
use Rattle.world_making.specs.freezings.Seeing.{ANew, AnOld, NamesSnapshot}

-- ---- names that differ

abbrev first_of : SnapName → List ℕ
first_of k = k.0

unlike-has : {T : Type 0} (P : T → Type 0) (xs : List T) (x : T) → AllByRecursion P xs → Has x xs → P x
unlike-has P [] x all i = absurd i
unlike-has P (y ∷ ys) x all (inl same) = subst P (sym same) all.0
unlike-has P (y ∷ ys) x all (inr i) = unlike-has P ys x all.1 i

-- of one name there is one
same-name : (ks : List SnapName) → IsDistinct same_key (map first_of ks) → (a b : SnapName) → Has a ks → Has b ks → a.0 ≡ b.0 → a ≡ b
unfolding IsDistinct
same-name [] d a b i j named = absurd i
same-name (k ∷ ks) d a b (inl one) (inl two) named = one ∙ sym two
same-name (k ∷ ks) d a b (inl one) (inr j) named = absurd (apart (unlike-has (λ y. same_key k.0 y ≡ false) (map first_of ks) b.0 d.0 (has-map first_of ks b j)))
  where
    apart : same_key k.0 b.0 ≡ false → ⊥
    apart off = let same : same_key k.0 b.0 ≡ true = (same_key-Decides k.0 b.0).1 (ap first_of (sym one) ∙ named) in let no : ⊥ = cc in no
same-name (k ∷ ks) d a b (inr i) (inl two) named = absurd (apart (unlike-has (λ y. same_key k.0 y ≡ false) (map first_of ks) a.0 d.0 (has-map first_of ks a i)))
  where
    apart : same_key k.0 a.0 ≡ false → ⊥
    apart off = let same : same_key k.0 a.0 ≡ true = (same_key-Decides k.0 a.0).1 (ap first_of (sym two) ∙ sym named) in let no : ⊥ = cc in no
same-name (k ∷ ks) d a b (inr i) (inr j) named = same-name ks d.1 a b i j named

-- and in the first of two parts none has the name of one in the second
apart-names : (as' bs : List SnapName) → IsDistinct same_key (map first_of (as' ++ bs)) → (a b : SnapName) → Has a as' → Has b bs → a.0 ≡ b.0 → ⊥
unfolding IsDistinct
apart-names [] bs d a b i j named = i
apart-names (k ∷ ks) bs d a b (inl one) j named = apart (unlike-has (λ y. same_key k.0 y ≡ false) (map first_of (ks ++ bs)) b.0 d.0 (has-map first_of (ks ++ bs) b (has-right ks bs b j)))
  where
    apart : same_key k.0 b.0 ≡ false → ⊥
    apart off = let same : same_key k.0 b.0 ≡ true = (same_key-Decides k.0 b.0).1 (ap first_of (sym one) ∙ named) in let no : ⊥ = cc in no
apart-names (k ∷ ks) bs d a b (inr i) j named = apart-names ks bs d.1 a b i j named

-- ---- commands

-- the commands of a client, and which of them an attempt's is
record IsCommandOf (s : Script) (x : AttemptId) (d : Command) : Type 0 where
  list : List Command
  here : Has list s.clients
  among : Has d list

command-among : (s : Script) (x : AttemptId) (d : Command) → command_of s x ≡ Some d → IsCommandOf s x d
unfolding command_of
command-among s x d of = by (slice_get s.clients x.client) refl of
  where
    by : (o : Option (List Command)) → slice_get s.clients x.client ≡ o → numbered_at x.command o ≡ Some d → IsCommandOf s x d
    by None at is = let no : ⊥ = cc in absurd no
    by (Some list) at is = record { list = list; here = has-at s.clients x.client list at; among = (has-from_filter is_numbered list d (has-at (numbered list) x.command d is)).0 }

snap-among : (list : List Command) (name : List ℕ) (cont : ContId) → Has (Snap name cont) list → Has (name, cont) (snaps_of list)
snap-among [] name cont i = absurd i
snap-among (c ∷ cs) name cont (inl same) = has-left (snap_of c) (snaps_of cs) (name, cont) (subst (λ z. Has (name, cont) (snap_of z)) same (inl refl))
snap-among (c ∷ cs) name cont (inr i) = has-right (snap_of c) (snaps_of cs) (name, cont) (snap-among cs name cont i)

of-client : (lists : List (List Command)) (list : List Command) (k : SnapName) → Has list lists → Has k (snaps_of list) → Has k (all_snaps lists)
of-client [] list k i j = absurd i
of-client (l ∷ ls) list k (inl same) j = has-left (snaps_of l) (all_snaps ls) k (subst (λ z. Has k (snaps_of z)) same j)
of-client (l ∷ ls) list k (inr i) j = has-right (snaps_of l) (all_snaps ls) k (of-client ls list k i j)

-- what a client knows at one of its commands, the script declares, or it made before
record KnowsAt (conts : List ContDecl) (objs : List ObjDecl) (known : List SnapName) (list : List Command) (d : Command) : Type 0 where
  then' : List SnapName
  of : IsCommand conts objs then' d
  from : (k : SnapName) → Has k then' → Has k known ⊎ Has k (snaps_of list)

command-knows : (conts : List ContDecl) (objs : List ObjDecl) (known : List SnapName) (list : List Command) (d : Command) → AreCommands conts objs known list → Has d list → KnowsAt conts objs known list d
command-knows conts objs known [] d are i = absurd i
command-knows conts objs known (c ∷ cs) d are (inl same) = record { then' = known; of = subst (IsCommand conts objs known) (sym same) are.0; from = λ k i. inl i }
command-knows conts objs known (c ∷ cs) d are (inr i) = on (command-knows conts objs (known ++ snap_of c) cs d are.1 i)
  where
    on : KnowsAt conts objs (known ++ snap_of c) cs d → KnowsAt conts objs known (c ∷ cs) d
    on k = record {
      then' = k.then';
      of = k.of;
      from = λ x j. elim (k.from x j) [
        | inl before ↦ (elim (has-cases known (snap_of c) x before) [ inl old ↦ inl old | inr own ↦ inr (has-left (snap_of c) (snaps_of cs) x own) ])
        | inr later ↦ inr (has-right (snap_of c) (snaps_of cs) x later)
      ];
    }

any-has : {T : Type 0} (P : T → Type 0) (xs : List T) → Any P xs → (x : T) × Has x xs × P x
any-has P xs a = (a.1, has-at xs a.0 a.1 (at-index xs a.0 a.1 a.2 (sym a.3)), a.4)

-- ---- a script in form

module _ (targets : ℕ) (r : Rules) (form : IsInForm targets r.script) where
  abbrev names : List SnapName
  names = map old_snap r.script.olds ++ all_snaps r.script.clients

  -- a name that stands for a snapshot is among those of the script
  named-among : (o : Opening) (n : ℕ) (name : List ℕ) (c : ContId) (e : Epoch) → NamesSnapshot r o n name c e → Has (name, c) names
  named-among o n name c e (AnOld d m found cont epoch low kept) =
      let z = old-found name d found in has-left (map old_snap r.script.olds) (all_snaps r.script.clients) (name, c) (subst (λ y. Has (name, y) (map old_snap r.script.olds)) cont z)
    where
      old-found : (name : List ℕ) (d : OldDecl) → find (is_named name) r.script.olds ≡ Some d → Has (name, d.cont) (map old_snap r.script.olds)
      old-found name d found =
          let i = found-has (is_named name) r.script.olds d found in
          subst (λ y. Has (y, d.cont) (map old_snap r.script.olds)) (sym ((same_key-Decides name d.name).0 (found-passes (is_named name) r.script.olds d found))) (has-map old_snap r.script.olds d i)
  named-among o n name c e (ANew y own of high) =
      let k = command-among r.script y (Snap name c) of in
      has-right (map old_snap r.script.olds) (all_snaps r.script.clients) (name, c) (of-client r.script.clients k.list (name, c) k.here (snap-among k.list name c k.among))

  -- and one that an attempt made in the run isn't declared as old
  pub new-unnamed : (y : AttemptId) (name : List ℕ) (c : ContId) → command_of r.script y ≡ Some (Snap name c) → find (is_named name) r.script.olds ≡ None
  new-unnamed y name c of = by (find (is_named name) r.script.olds) refl
    where
      new : Has (name, c) (all_snaps r.script.clients)
      new = let k = command-among r.script y (Snap name c) of in of-client r.script.clients k.list (name, c) k.here (snap-among k.list name c k.among)

      by : (q : Option OldDecl) → find (is_named name) r.script.olds ≡ q → q ≡ None
      by None found = refl
      by (Some d) found =
          let i = found-has (is_named name) r.script.olds d found in
          let same : name ≡ d.name = (same_key-Decides name d.name).0 (found-passes (is_named name) r.script.olds d found) in
          absurd (apart-names (map old_snap r.script.olds) (all_snaps r.script.clients) form.snap_names (old_snap d) (name, c) (has-map old_snap r.script.olds d i) new (sym same))

  -- what an attempt asks at a snapshot is in the container of the snapshot
  pub reads-inside : (o : Opening) (x : AttemptId) (name : List ℕ) (c : ContId) (e : Epoch) (n : ℕ) (p : Op) → snapshot_of r.script x ≡ Some name
      → NamesSnapshot r o x.client name c e → slice_get (attempt_ops r.script x) n ≡ Some p → (op_path p).cont ≡ c
  reads-inside o x name c e n p reads stands at = by (command_of r.script x) refl reads at
    where
      by : (q : Option Command) → command_of r.script x ≡ q → snapshot_or_none q ≡ Some name → slice_get (ops_or_none q) n ≡ Some p → (op_path p).cont ≡ c
      by None is reads at = let no : ⊥ = cc in absurd no
      by (Some (Run ops turns snapshot)) is reads at = inside (command-among r.script x (Run ops turns snapshot) is)
        where
          inside : IsCommandOf r.script x (Run ops turns snapshot) → (op_path p).cont ≡ c
          inside k = all (command-knows r.script.conts r.script.objs (map old_snap r.script.olds) k.list (Run ops turns snapshot)
              (has-all (AreCommands r.script.conts r.script.objs (map old_snap r.script.olds)) r.script.clients k.list form.commands k.here) k.among)
            where
              all : KnowsAt r.script.conts r.script.objs (map old_snap r.script.olds) k.list (Run ops turns snapshot) → (op_path p).cont ≡ c
              all g = (has-all (IsPlainReadIn at-name.0) ops p at-name.2 (has-at ops n p at)).inside ∙ one
                where
                  at-name : ReadsAt g.then' ops (Some name)
                  at-name = subst (ReadsAt g.then' ops) reads g.of.1

                  known : Has (name, at-name.0) g.then'
                  known = let z = any-has (λ y. y ≡ (name, at-name.0)) g.then' at-name.1 in subst (λ y. Has y g.then') z.2 z.1

                  among : Has (name, at-name.0) names
                  among = elim (g.from (name, at-name.0) known) [
                    | inl old ↦ has-left (map old_snap r.script.olds) (all_snaps r.script.clients) (name, at-name.0) old
                    | inr own ↦ has-right (map old_snap r.script.olds) (all_snaps r.script.clients) (name, at-name.0) (of-client r.script.clients k.list (name, at-name.0) k.here own)
                  ]

                  one : at-name.0 ≡ c
                  one = ap (λ (y : SnapName). y.1) (same-name names form.snap_names (name, at-name.0) (name, c) among (named-among o x.client name c e stands) refl)
      by (Some (Snap name2 cont)) is reads at = let no : ⊥ = cc in absurd no
      by (Some (Aggregate cont)) is reads at = let no : ⊥ = cc in absurd no
      by (Some (Tell client)) is reads at = let no : ⊥ = cc in absurd no
      by (Some (Skip turns)) is reads at = let no : ⊥ = cc in absurd no

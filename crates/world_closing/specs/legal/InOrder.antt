-- A client makes a snapshot before it reads at it, and its lines stand in the order of its commands.
use Rattle.std.specs.Prelude.{ℕ, zero, suc, ◌≡◌, ◌≤◌, ◌<◌, ◌+◌, ◌++◌, ◌⊎◌, List, [], ◌∷◌, map, slice_get, Option, Some, None, refl}
use Rattle.std.proofs.Common.{append-nil, sym, ap, subst, inl, inr, arith}
use Rattle.std.proofs.lemmas.Map.Keys.{IsDistinct-tail}
use Rattle.base_types.specs.declared.id.AttemptId.{AttemptId}
use Rattle.base_types.specs.declared.id.ContId.{ContId}
use Rattle.base_types.specs.declared.operation.Op.{Op}
use Rattle.base_types.specs.declared.report.Attempt.{Attempt}
use Rattle.base_types.specs.declared.script.Command.{Command}
use Rattle.base_types.specs.declared.script.Command.TheVariants.{Aggregate, Run, Skip, Snap, Tell}
use Rattle.base_types.specs.declared.script.ContDecl.{ContDecl}
use Rattle.base_types.specs.declared.script.ObjDecl.{ObjDecl}
use Rattle.base_types.specs.declared.script.Script.{Script}
use Rattle.base_types.specs.Keys.{same_key}
use Rattle.base_types.specs.Scripts.{AreCommands, IsInForm, ReadsAt, SnapName, all_snaps, is_numbered, old_snap, snaps_of}
use Rattle.model_laws.specs.Lists.{all-at, has-at}
use Rattle.model_laws.specs.Members.{Has, has-cases, has-from_contains, has-from_filter, has-left, has-right}
use Rattle.daos_model.specs.Order.{AreInTurn}
use Rattle.daos_model.specs.Transactions.{command_of, numbered, numbered_at}
use Rattle.world_upheld.specs.below.Legal.{command-of, from-on}
use Rattle.world_upheld.specs.upheld.Named.{first-alone, made-named, name_of_snap, never-both, snaps-made}
use Rattle.world_closing.specs.legal.Names.{NamesDiffer, among-all, differ-right}

-- ---- a snapshot is made before it is read at

-- of commands that know no snapshot of this name, one that reads at it comes behind one that makes it
made-first : (conts : List ContDecl) (objs : List ObjDecl) (known rest : List SnapName) (cs : List Command) (i j : ℕ) (ops : List Op) (turns : List ℕ) (name : List ℕ) (c : ContId)
    → ((d : ContId) → Has (name, d) known → ⊥) → NamesDiffer (snaps_of cs ++ rest) → AreCommands conts objs known cs
    → slice_get (numbered cs) i ≡ Some (Run ops turns (Some name)) → slice_get (numbered cs) j ≡ Some (Snap name c) → j < i
made-first conts objs known rest [] i j ops turns name c new apart are reads makes = let no : ⊥ = cc (reads) in absurd no
made-first conts objs known rest (Run ops2 turns2 snapshot ∷ cs) zero j ops turns name c new apart are reads makes = absurd (bad (let same : snapshot ≡ Some name = cc (reads) in same))
  where
    bad : snapshot ≡ Some name → ⊥
    bad same = by snapshot same are.0.1
      where
        by : (o : Option (List ℕ)) → o ≡ Some name → ReadsAt known ops2 o → ⊥
        by None is k = let no : ⊥ = cc (is) in no
        by (Some called) is k = new k.0 (subst (λ n. Has (n, k.0) known) (let one : called ≡ name = cc (is) in one) (subst (λ z. Has z known) k.1.4 (has-from_contains known k.1.1 (k.1.0, k.1.2, k.1.3))))
made-first conts objs known rest (Run ops2 turns2 snapshot ∷ cs) (suc i) zero ops turns name c new apart are reads makes = let no : ⊥ = cc (makes) in absurd no
made-first conts objs known rest (Run ops2 turns2 snapshot ∷ cs) (suc i) (suc j) ops turns name c new apart are reads makes =
    let less : j < i = made-first conts objs known rest cs i j ops turns name c new apart (subst (λ ks. AreCommands conts objs ks cs) (append-nil known) are.1) reads makes in omega (arith, less)
made-first conts objs known rest (Snap n k ∷ cs) zero j ops turns name c new apart are reads makes = let no : ⊥ = cc (reads) in absurd no
made-first conts objs known rest (Snap n k ∷ cs) (suc i) zero ops turns name c new apart are reads makes = omega arith
made-first conts objs known rest (Snap n k ∷ cs) (suc i) (suc j) ops turns name c new apart are reads makes =
    let less : j < i = made-first conts objs (known ++ (n, k) ∷ []) rest cs i j ops turns name c new' (IsDistinct-tail same_key n (map name_of_snap (snaps_of cs ++ rest)) apart) are.1 reads makes in omega (arith, less)
  where
    other : n ≡ name → ⊥
    other same = first-alone (n, k) (name, c) (snaps_of cs ++ rest) apart (has-left (snaps_of cs) rest (name, c) (snaps-made cs name c (has-from_filter is_numbered cs (Snap name c) (has-at (numbered cs) j (Snap name c) makes)).0)) same

    new' : (d : ContId) → Has (name, d) (known ++ (n, k) ∷ []) → ⊥
    new' d i = elim (has-cases known ((n, k) ∷ []) (name, d) i) [ inl old ↦ new d old | inr (inl one) ↦ other (sym (ap (λ z. z.0) one)) | inr (inr none) ↦ none ]
made-first conts objs known rest (Aggregate k ∷ cs) zero j ops turns name c new apart are reads makes = let no : ⊥ = cc (reads) in absurd no
made-first conts objs known rest (Aggregate k ∷ cs) (suc i) zero ops turns name c new apart are reads makes = let no : ⊥ = cc (makes) in absurd no
made-first conts objs known rest (Aggregate k ∷ cs) (suc i) (suc j) ops turns name c new apart are reads makes =
    let less : j < i = made-first conts objs known rest cs i j ops turns name c new apart (subst (λ ks. AreCommands conts objs ks cs) (append-nil known) are.1) reads makes in omega (arith, less)
made-first conts objs known rest (Tell m ∷ cs) i j ops turns name c new apart are reads makes = made-first conts objs known rest cs i j ops turns name c new apart (subst (λ ks. AreCommands conts objs ks cs) (append-nil known) are.1) reads makes
made-first conts objs known rest (Skip m ∷ cs) i j ops turns name c new apart are reads makes = made-first conts objs known rest cs i j ops turns name c new apart (subst (λ ks. AreCommands conts objs ks cs) (append-nil known) are.1) reads makes

-- A client makes a snapshot by an earlier command than one that reads at it.
pub made-before_read : (s : Script) (x y : AttemptId) (ops : List Op) (turns : List ℕ) (name : List ℕ) (c : ContId) → IsInForm s.targets s → x.client ≡ y.client
    → command_of s x ≡ Some (Run ops turns (Some name)) → command_of s y ≡ Some (Snap name c) → y.command < x.command
unfolding command_of
made-before_read s x y ops turns name c form client reads makes = by (slice_get s.clients x.client) refl reads (subst (λ n. numbered_at y.command (slice_get s.clients n) ≡ Some (Snap name c)) (sym client) makes)
  where
    by : (o : Option (List Command)) → slice_get s.clients x.client ≡ o → numbered_at x.command o ≡ Some (Run ops turns (Some name)) → numbered_at y.command (slice_get s.clients x.client) ≡ Some (Snap name c) → y.command < x.command
    by None is a b = let no : ⊥ = cc (a) in absurd no
    by (Some list) is a b =
        let z = among-all s.clients x.client list is (differ-right (map old_snap s.olds) (all_snaps s.clients) form.snap_names) in
        made-first s.conts s.objs (map old_snap s.olds) z.rest list x.command y.command ops turns name c
        (λ d i. never-both (map old_snap s.olds) (all_snaps s.clients) name d c form.snap_names i (made-named s y name c makes)) z.apart
        (all-at (λ l. AreCommands s.conts s.objs (map old_snap s.olds) l) s.clients x.client list form.commands is) a (subst (λ o. numbered_at y.command o ≡ Some (Snap name c)) is b)

-- ---- lines stand in the order of commands

-- an element of a list of two parts is in the first, or in the second with what stands behind it
split-at : {T : Type 0} (us vs own later : List T) (b : T) → us ++ b ∷ vs ≡ own ++ later → Has b own ⊎ ((ws : List T) × (later ≡ ws ++ b ∷ vs))
split-at us vs [] later b e = inr (us, sym e)
split-at [] vs (x ∷ own) later b e = inl (inl (let same : b ≡ x = cc (e) in same))
split-at (u ∷ us) vs (x ∷ own) later b e = elim (split-at us vs own later b (let rest : us ++ b ∷ vs ≡ own ++ later = cc (e) in rest)) [ inl i ↦ inl (inr i) | inr z ↦ inr z ]

-- what stands behind an attempt is of no earlier command
pub behind-later : (limit client n : ℕ) (cs : List Command) (us vs : List Attempt) (b c : Attempt) → AreInTurn limit client n cs (us ++ b ∷ vs) → Has c vs → b.id.command ≤ c.id.command
behind-later limit client n [] us vs b c t i = absurd (none us t)
  where
    none : (us : List Attempt) → us ++ b ∷ vs ≡ [] → ⊥
    none [] e = let no : ⊥ = cc (e) in no
    none (u ∷ us) e = let no : ⊥ = cc (e) in no
behind-later limit client n (d ∷ cs) us vs b c t i = elim (split-at us vs t.0 t.1 b t.2) [
  | inl own ↦
      let e : b.id.command ≡ n = command-of limit client n 0 t.0 b t.3 own in
      let low : n ≤ c.id.command = from-on limit client n (d ∷ cs) (us ++ b ∷ vs) c t (has-right us (b ∷ vs) c (inr i)) in
      omega (arith, e, low)
  | inr z ↦ behind-later limit client (n + 1) cs z.0 vs b c (subst (AreInTurn limit client (n + 1) cs) z.1 t.4) i
]

-- A command that makes a snapshot is one by which the script has the snapshot's name.
use Rattle.std.proofs.Common.{◌≡◌, ℕ, zero, suc, Bool, true, false, List, [], ◌∷◌, filter, slice_get, Option, Some, None, if◌then◌else◌, refl, sym, ap, ◌∙◌}
use Rattle.base_types.specs.declared.id.AttemptId.{AttemptId}
use Rattle.base_types.specs.declared.id.ContId.{ContId}
use Rattle.base_types.specs.declared.script.Command.{Command}
use Rattle.base_types.specs.declared.script.Command.TheVariants.{Run, Snap, Aggregate, Tell, Skip}
use Rattle.base_types.specs.declared.script.Script.{Script}
use Rattle.base_types.specs.Keys.{same_key}
use Rattle.base_types.specs.PathLaws.{same_key-Decides}
use Rattle.base_types.specs.Scripts.{is_numbered}
use Rattle.daos_model.specs.Transactions.{command_of, numbered_at}
use Rattle.report_reader.specs.Told.{is_old, is_snap, is_snap_of, is_snap_of_any}

module _ (name : List ℕ) (cont : ContId) where
  or-more : (b : Bool) (rest : Bool) → rest ≡ true → (if b then true else rest) ≡ true
  or-more true rest h = refl
  or-more false rest h = h

  of-list : (cs : List Command) (k : ℕ) → slice_get (filter is_numbered cs) k ≡ Some (Snap name cont) → is_snap_of cs name ≡ true
  of-list [] k at = let no : ⊥ = cc in absurd no
  of-list (Run ops skips snapshot ∷ cs) zero at = let no : ⊥ = cc in absurd no
  of-list (Run ops skips snapshot ∷ cs) (suc k) at = of-list cs k at
  of-list (Snap made of ∷ cs) zero at =
      let same : made ≡ name = cc in
      ap (λ b. if b then true else is_snap_of cs name) ((same_key-Decides made name).1 same)
  of-list (Snap made of ∷ cs) (suc k) at = or-more (same_key made name) (is_snap_of cs name) (of-list cs k at)
  of-list (Aggregate of ∷ cs) zero at = let no : ⊥ = cc in absurd no
  of-list (Aggregate of ∷ cs) (suc k) at = of-list cs k at
  of-list (Tell client ∷ cs) k at = of-list cs k at
  of-list (Skip turns ∷ cs) k at = of-list cs k at

  of-any : (lists : List (List Command)) (k : ℕ) (list : List Command) → slice_get lists k ≡ Some list → is_snap_of list name ≡ true → is_snap_of_any lists name ≡ true
  of-any [] k list at h = let no : ⊥ = cc in absurd no
  of-any (own ∷ lists) zero list at h =
      let same : own ≡ list = cc in
      ap (λ b. if b then true else is_snap_of_any lists name) (ap (λ l. is_snap_of l name) same ∙ h)
  of-any (own ∷ lists) (suc k) list at h = or-more (is_snap_of own name) (is_snap_of_any lists name) (of-any lists k list at h)

  pub is-snap : (s : Script) (id : AttemptId) → command_of s id ≡ Some (Snap name cont) → is_snap s name ≡ true
  unfolding command_of
  is-snap s id is = or-more (is_old s.olds name) (is_snap_of_any s.clients name) (by (slice_get s.clients id.client) refl)
    where
      by : (o : Option (List Command)) → slice_get s.clients id.client ≡ o → is_snap_of_any s.clients name ≡ true
      by None e = let none : None ≡ Some (Snap name cont) = ap (numbered_at id.command) (sym e) ∙ is in let no : ⊥ = cc in absurd no
      by (Some list) e = of-any s.clients id.client list e (of-list list id.command (ap (numbered_at id.command) (sym e) ∙ is))

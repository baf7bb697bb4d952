-- An access that no later write refuses lies behind each version on an overlapping path, or clocks may leave it open.
use Rattle.std.specs.Prelude.{◌≡◌, ◌⊎◌, ◌≤◌, ◌<◌, ◌+◌, ◌*◌, ◌&&◌, true, false, nat_lt, nat_le, List, [], ◌∷◌, Contains, Option, Some, None, refl}
use Rattle.std.proofs.Common.{sym, subst, inl, inr, arith}
use Rattle.std.proofs.lemmas.Bool.Decides.{nat_tests}
use Rattle.std.proofs.lemmas.Bool.{cases_lt}
use Rattle.base_types.specs.declared.epoch.Epoch.{Epoch}
use Rattle.base_types.specs.declared.operation.MinorWrite.{MinorWrite}
use Rattle.base_types.specs.declared.path.Path.{Path}
use Rattle.base_types.specs.Operations.{write_path}
use Rattle.base_types.specs.Paths.{overlaps}
use Rattle.daos_model.specs.declared.durable.Durable.{Durable}
use Rattle.daos_model.specs.declared.durable.Version.{Version}
use Rattle.daos_model.specs.BoolLaws.{both, clash}
use Rattle.daos_model.specs.Versions.{first_between, is_between, version_path}
use Rattle.model_laws.specs.Members.{Has, has-from_contains}
use Rattle.vos_store.specs.Answers.{later_write, shown_or_none}
use Rattle.world_base.specs.declared.target.TargetPlan.{TargetPlan}
use Rattle.world_base.specs.Commits.{first_later, or_else}
use Rattle.world_base.specs.Reads.{later_of, uncertain_from, uncertain_to}
use Rattle.world_causes.specs.world_contents.reads.ListLaws.{none-found}

no-shown : (o : Option Version) → shown_or_none o ≡ None → o ≡ None
no-shown None h = refl
no-shown (Some v) h = let no : ⊥ = cc in absurd no

-- where no later write refuses an access, a version on an overlapping path isn't above it, or farther than clocks leave open
pub unrefused : (p : TargetPlan) (first : Option Epoch) (f : Epoch) (path : Path) (d : Durable) (v : Version) → later_of p first f path d ≡ None → Contains d.versions v → overlaps path (version_path v) ≡ true
    → (v.epoch.0 ≤ f.0) ⊎ (uncertain_from first f + 256 * p.epsilon < v.epoch.0)
unfolding later_write first_between is_between
unrefused p first f path d v none i over = by (cases_lt f.0 v.epoch.0) (cases_lt (uncertain_from first f + 256 * p.epsilon) v.epoch.0)
  where
    off : is_between path f.0 (uncertain_to p first f).0 v ≡ false
    off = none-found (is_between path f.0 (uncertain_to p first f).0) d.versions v (no-shown (first_between path f.0 (uncertain_to p first f).0 d.versions) none) (has-from_contains d.versions v i)

    by : (f.0 < v.epoch.0) ⊎ (v.epoch.0 ≤ f.0) → (uncertain_from first f + 256 * p.epsilon < v.epoch.0) ⊎ (v.epoch.0 ≤ uncertain_from first f + 256 * p.epsilon)
        → (v.epoch.0 ≤ f.0) ⊎ (uncertain_from first f + 256 * p.epsilon < v.epoch.0)
    by (inr le) far = inl le
    by (inl lt) (inl far) = inr far
    by (inl lt) (inr near) =
        clash (nat_lt f.0 v.epoch.0 && nat_le v.epoch.0 (uncertain_to p first f).0 && overlaps path (version_path v))
        (both (nat_lt f.0 v.epoch.0 && nat_le v.epoch.0 (uncertain_to p first f).0) (overlaps path (version_path v))
        (both (nat_lt f.0 v.epoch.0) (nat_le v.epoch.0 (uncertain_to p first f).0) (grind (arith, nat_tests)) (grind (arith, nat_tests))) over)
        off

none-else : {A : Type 0} (x y : Option A) → or_else x y ≡ None → (x ≡ None) × (y ≡ None)
none-else None y h = (refl, h)
none-else (Some c) y h = let no : ⊥ = cc in absurd no

-- of writes that none refuses, each is refused by none
pub each-unrefused : (p : TargetPlan) (first : Option Epoch) (f : Epoch) (d : Durable) (ws : List MinorWrite) (n : MinorWrite) → first_later p first f d ws ≡ None → Has n ws → later_of p first f (write_path n.write) d ≡ None
unfolding first_later
each-unrefused p first f d [] n none i = absurd i
each-unrefused p first f d (w ∷ ws) n none i = by (each-unrefused p first f d ws n (none-else (later_of p first f (write_path w.write) d) (first_later p first f d ws) none).1) i
  where
    by : (Has n ws → later_of p first f (write_path n.write) d ≡ None) → Has n (w ∷ ws) → later_of p first f (write_path n.write) d ≡ None
    by rest (inl same) = subst (λ u. later_of p first f (write_path u.write) d ≡ None) (sym same) (none-else (later_of p first f (write_path w.write) d) (first_later p first f d ws) none).0
    by rest (inr j) = rest j

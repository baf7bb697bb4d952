-- The messages of the rows have form, and a write can be heard.
use Rattle.std.proofs.Common.{ℕ, ◌≡◌, ◌<◌, refl, true, List, [], ◌∷◌, Option, Some, None, arith}
use Rattle.std.specs.Prelude.{IfSome, length}
use Rattle.base_types.specs.declared.epoch.Epoch.{Epoch}
use Rattle.base_types.specs.declared.id.AttemptId.{AttemptId}
use Rattle.base_types.specs.declared.operation.MinorWrite.{MinorWrite}
use Rattle.base_types.specs.declared.operation.Write.TheVariants as write
use Rattle.base_types.specs.Operations.{write_path}
use Rattle.base_types.specs.Hash.{fnv1a}
use Rattle.base_types.specs.Placement.{ClassFits, group_of, members, path_members}
use Rattle.model_laws.specs.Lists.{all-one}
use Rattle.daos_model.specs.declared.durable.Durable.{Durable}
use Rattle.daos_model.specs.Durables.{entry_of, is_enlisted}
use Rattle.daos_model.specs.Forms.{is_read_in_form, is_write_in_form}
use Rattle.target_core.specs.Targets.{CanHear, HasForm}
use Rattle.target_tests.specs.Rows.{IsHere, IsUnused, akey, commit, fetch, lone}
use Rattle.target_writes.specs.CheckLaws.{new-at}
use Rattle.target_writes.specs.Checks.{AreNewAt}
use Rattle.world_base.specs.declared.target.TargetPlan.{TargetPlan}
use Rattle.world_base.specs.Commits.{own_writes}

abbrev the_write : List ℕ → MinorWrite
the_write key = record { minor = 1; write = write.Single (akey key) (49 ∷ []) }

pub fetch_in_form : (t : TargetPlan) (by : AttemptId) (key : List ℕ) → HasForm t (fetch by key)
unfolding is_read_in_form
fetch_in_form t by key = record { form = refl; known = λ no. absurd (let n : ⊥ = cc in n) }

-- the only target is a member of every group
one-own : (key : List ℕ) → length (own_writes lone (the_write key ∷ [])) ≡ 1
unfolding path_members members group_of fnv1a
one-own key = refl

pub commit_in_form : (by : AttemptId) (ep : Option Epoch) (key : List ℕ) → HasForm lone (commit by ep key)
unfolding is_write_in_form
commit_in_form by ep key = record {
  form = record {
    count = omega arith;
    each = all-one (λ w. is_write_in_form w.write ≡ true) (the_write key) refl;
    rising = λ k lt. absurd (omega arith);
    minors = all-one (λ w. w.minor < 64) (the_write key) (omega arith);
  };
  some = let one = one-own key in omega (arith, one);
  fit = all-one (λ w. IfSome (write_path w.write).obj (λ o. ClassFits o.class 1)) (the_write key) (omega arith);
}

all_new : (ep : Option Epoch) (ws : List MinorWrite) (d : Durable) → IsUnused ep d → AreNewAt ep ws d
all_new None ws d unused = tt
all_new (Some e) ws d unused = new-at e ws d unused

pub can_commit : (by : AttemptId) (ep : Option Epoch) (key : List ℕ) (d : Durable) → IsHere d → entry_of d by ≡ None → IsUnused ep d → CanHear lone (commit by ep key) d
can_commit by ep key d here absent unused = record {
  enlisted = all-one (λ w. is_enlisted d (write_path w.write).cont ≡ true) (the_write key) here;
  absent = absent;
  new = all_new ep (own_writes lone (the_write key ∷ [])) d unused;
}

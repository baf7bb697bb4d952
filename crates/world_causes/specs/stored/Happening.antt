-- Where nothing is in flight and no line tells of an attempt, nothing is stored.
use Rattle.std.specs.Prelude.{ℕ, ◌≡◌, [], Contains}
use Rattle.std.proofs.Common.{subst}
use Rattle.base_types.specs.declared.id.AttemptId.{AttemptId}
use Rattle.model_laws.specs.Members.{has-from_contains}
use Rattle.daos_model.specs.Attempts.{tries}
use Rattle.world_base.specs.declared.world.World.{World}
use Rattle.world_base.specs.Events.{Rules}
use Rattle.world_causes.specs.causes.Storing.{HasItsLine, IsRefusedAt, IsTold}
use Rattle.world_causes.specs.stored.Over.{StoringOver}

pub storing-begins : (r : Rules) (w : World) → w.messages ≡ [] → tries w.lines ≡ [] → StoringOver r [] w
storing-begins r w quiet none = record {
  so = record {
    once = tt;
    issued = λ t x i. absurd (has-from_contains [] (t, x) i);
    asked = λ t x a i. has-from_contains [] (t, x) i;
    refused = λ t x f. absurd (nowhere t x f);
  };
  handed = λ t x i. absurd (has-from_contains [] (t, x) i);
  uncommitted = λ t x l i j k. has-from_contains [] (t, x) i;
}
  where
    nowhere : (t : ℕ) (x : AttemptId) → IsRefusedAt w t x → ⊥
    nowhere t x (HasItsLine a need free i same is) = has-from_contains [] a (subst (λ as'. Contains as' a) none i)
    nowhere t x (IsTold l i tells) = has-from_contains [] l (subst (λ ls. Contains ls l) quiet i)

-- What is told of attempts that were begun can be heard, and the write that both targets hold can be committed.
use Rattle.std.proofs.Common.{ℕ, ◌≡◌, ◌<◌, refl, true, [], ◌∷◌, None, arith}
use Rattle.std.specs.Prelude.{IfSome, length}
use Rattle.base_types.specs.Hash.{fnv1a}
use Rattle.base_types.specs.Operations.{write_path}
use Rattle.base_types.specs.Placement.{ClassFits, group_of, members, path_members}
use Rattle.model_laws.specs.Lists.{all-one}
use Rattle.base_messages.specs.declared.message.Message.{Message}
use Rattle.base_messages.specs.declared.message.Message.TheVariants.{Ack, Mark, Marked, Query, Verdict}
use Rattle.daos_model.specs.declared.durable.Durable.{Durable}
use Rattle.daos_model.specs.Durables.{is_enlisted}
use Rattle.daos_model.specs.Forms.{is_write_in_form}
use Rattle.target_core.specs.Targets.{CanHear, HasForm, is_held}
use Rattle.target_tests.specs.Own.{IsOfBegun, first, led, request, write_shared}
use Rattle.target_tests.specs.Overtaken.{IsNew}
use Rattle.target_tests.proofs.Keeping.{blank_absent}
use Rattle.world_base.specs.declared.target.TargetPlan.{TargetPlan}
use Rattle.world_base.specs.Commits.{own_writes}

-- ---- what is told

pub begun_form : (t : TargetPlan) (m : Message) → IsOfBegun m → HasForm t m
begun_form t (Ack x inc refusal) k = tt
begun_form t (Mark inc marks) k = tt
begun_form t (Marked inc ids) k = tt
begun_form t (Query x ask) k = tt
begun_form t (Verdict x ask inc v) k = tt
begun_form t m k = absurd k

pub begun_heard : (t : TargetPlan) (m : Message) (d : Durable) → IsOfBegun m → CanHear t m d
begun_heard t (Ack x inc refusal) d k = tt
begun_heard t (Mark inc marks) d k = tt
begun_heard t (Marked inc ids) d k = tt
begun_heard t (Query x ask) d k = tt
begun_heard t (Verdict x ask inc v) d k = tt
begun_heard t m d k = absurd k

pub begun_not_held : (m : Message) → IsOfBegun m → is_held m ≡ true → ⊥
begun_not_held (Ack x inc refusal) k held = let no : ⊥ = cc in no
begun_not_held (Mark inc marks) k held = let no : ⊥ = cc in no
begun_not_held (Marked inc ids) k held = let no : ⊥ = cc in no
begun_not_held (Query x ask) k held = let no : ⊥ = cc in no
begun_not_held (Verdict x ask inc v) k held = let no : ⊥ = cc in no
begun_not_held m k held = absurd k

-- ---- the write

-- the first target is a member of the only group
one-own : length (own_writes first (write_shared ∷ [])) ≡ 1
unfolding path_members members group_of fnv1a
one-own = refl

pub request_form : HasForm first request
unfolding is_write_in_form
request_form = record {
  form = record {
    count = omega arith;
    each = all-one (λ w. is_write_in_form w.write ≡ true) write_shared refl;
    rising = λ k lt. absurd (omega arith);
    minors = all-one (λ w. w.minor < 64) write_shared (omega arith);
  };
  some = let one = one-own in omega (arith, one);
  fit = all-one (λ w. IfSome (write_path w.write).obj (λ o. ClassFits o.class 2)) write_shared (omega arith);
}

pub request_heard : (d : Durable) → IsNew d → CanHear first request d
request_heard d n = record { enlisted = all-one (λ w. is_enlisted d (write_path w.write).cont ≡ true) write_shared n.here; absent = blank_absent led d n.blank; new = tt }

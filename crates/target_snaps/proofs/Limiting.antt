-- What a store tells of unsettled versions gives the limit of a prune, which lies below all of them.
use Rattle.std.specs.Prelude.{ℕ, ◌≡◌, ◌≤◌, ◌<◌, ◌-◌, ◌+◌, ◌/◌, ◌==◌, Bool, true, false, ◌&&◌, not, min, nat_lt, nat_le, List, [], ◌∷◌, find, Option, Some, None, refl, if◌then◌else◌}
use Rattle.std.proofs.Common.{◌∙◌, ap, inl, inr, subst, sym, arith}
use Rattle.std.proofs.lemmas.Bool.Decides.{nat_tests}
use Rattle.base_types.specs.declared.epoch.Epoch.{Epoch}
use Rattle.base_types.specs.declared.id.ContId.{ContId}
use Rattle.daos_model.specs.declared.durable.Durable.{Durable}
use Rattle.daos_model.specs.declared.durable.Version.{Version}
use Rattle.daos_model.specs.Answers.{is_before}
use Rattle.daos_model.specs.BoolLaws.{and_left, and_right, both, clash, not_true, or_left}
use Rattle.daos_model.specs.Changes.{is_in_range}
use Rattle.daos_model.specs.Durables.{IsInForm, is_enlisted, row_of, version_key}
use Rattle.daos_model.specs.Ordered.{all_from, is_in_order}
use Rattle.daos_model.specs.Versions.{version_path}
use Rattle.model_laws.specs.DecidedLaws.{all-from_has}
use Rattle.model_laws.specs.Members.{Has}
use Rattle.model_laws.specs.RisingLaws.{from-has}
use Rattle.vos_store.specs.Answers as answer
use Rattle.vos_store.specs.Answers.{epoch_shown, open_below}
use Rattle.vos_store.specs.Conditions.{CanPrune}
use Rattle.world_base.specs.Snapshots.{below_open, is_open_in, prune_limit}
use Rattle.target_parts.specs.world_contents.reads.ListLaws.{none-found}
use Rattle.target_snaps.specs.Limits.{limit_under}

-- ---- the limit

find-same : (p q : Version → Bool) → ((v : Version) → p v ≡ q v) → (vs : List Version) → find p vs ≡ find q vs
find-same p q same [] = refl
find-same p q same (v ∷ vs) = ap (λ b. if b then Some v else find p vs) (same v) ∙ ap (λ o. if q v then Some v else o) (find-same p q same vs)

turned : (a c d : Bool) → (((a && true) && c) && d) ≡ ((d && a) && c)
turned true true true = refl
turned true true false = refl
turned true false true = refl
turned true false false = refl
turned false true true = refl
turned false true false = refl
turned false false true = refl
turned false false false = refl

from-zero : (n : ℕ) → nat_le 0 n ≡ true
from-zero n = grind (arith, nat_tests)

up-to : (n g : ℕ) → nat_le n g ≡ nat_lt n (g + 1)
up-to n g = by (nat_le n g) refl
  where
    by : (b : Bool) → nat_le n g ≡ b → nat_le n g ≡ nat_lt n (g + 1)
    by true is = let lt : nat_lt n (g + 1) ≡ true = grind (arith, nat_tests) in is ∙ sym lt
    by false is = let lt : nat_lt n (g + 1) ≡ false = grind (arith, nat_tests) in is ∙ sym lt

same-open : (c : ContId) (g : Epoch) (v : Version) → answer.is_open_in c (record { 0 = 0 }) g v ≡ is_open_in c g v
unfolding answer.is_open_in is_in_range
same-open c g v =
    ap (λ b. ((((version_path v).cont.0 == c.0) && b) && nat_le v.epoch.0 g.0) && not v.done) (from-zero v.epoch.0)
    ∙ turned ((version_path v).cont.0 == c.0) (nat_le v.epoch.0 g.0) (not v.done)
    ∙ ap (λ b. (not v.done && ((version_path v).cont.0 == c.0)) && b) (up-to v.epoch.0 g.0)

shown-below : (g : Epoch) (o : Option Version) → limit_under g (epoch_shown o) ≡ below_open g o
shown-below g None = refl
shown-below g (Some v) = refl

-- the limit, by what a store tells
pub limit-is : (c : ContId) (g : Epoch) (d : Durable) (o : Option Epoch) → o ≡ open_below c g d → limit_under g o ≡ prune_limit c g d
unfolding open_below prune_limit
limit-is c g d o is =
    ap (limit_under g) is ∙ shown-below g (find (answer.is_open_in c (record { 0 = 0 }) g) d.versions) ∙ ap (below_open g) (find-same (answer.is_open_in c (record { 0 = 0 }) g) (is_open_in c g) (same-open c g) d.versions)

-- ---- it lies below what isn't settled

epoch-from : (v w : Version) → is_before (version_key w) (version_key v) ≡ false → v.epoch.0 ≤ w.epoch.0
epoch-from v w h = let off = or_left (nat_lt w.epoch.0 v.epoch.0) _ h in grind (arith, nat_tests)

-- the first version that passes a test is of the least epoch
least-first : (p : Version → Bool) (vs : List Version) (v w : Version) → is_in_order version_key vs ≡ true → find p vs ≡ Some v → Has w vs → p w ≡ true → v.epoch.0 ≤ w.epoch.0
least-first p [] v w order found i is = absurd i
least-first p (u ∷ us) v w order found i is = by (p u) refl (least-first p us v w (and_right (all_from version_key (version_key u) us) (is_in_order version_key us) order)) found i
  where
    from : Has w us → u.epoch.0 ≤ w.epoch.0
    from j = epoch-from u w (not_true (is_before (version_key w) (version_key u)) (from-has version_key (version_key u) us w (and_left (all_from version_key (version_key u) us) (is_in_order version_key us) order) j))

    by : (b : Bool) → p u ≡ b → (find p us ≡ Some v → Has w us → p w ≡ true → v.epoch.0 ≤ w.epoch.0) → (if b then Some u else find p us) ≡ Some v → Has w (u ∷ us) → v.epoch.0 ≤ w.epoch.0
    by true e rest f (inl same) = let one : u ≡ v = cc in let at : w.epoch.0 ≡ v.epoch.0 = ap (λ x. x.epoch.0) (same ∙ one) in omega (arith, at)
    by true e rest f (inr j) = let one : u ≡ v = cc in let at : u.epoch.0 ≡ v.epoch.0 = ap (λ x. x.epoch.0) one in let le = from j in omega (arith, at, le)
    by false e rest f (inl same) = clash (p w) is (ap p same ∙ e)
    by false e rest f (inr j) = rest f j is

opens : (c : ContId) (g : Epoch) (v : Version) → v.done ≡ false → (version_path v).cont.0 ≡ c.0 → v.epoch.0 ≤ g.0 → is_open_in c g v ≡ true
opens c g v off at le =
    both (not v.done && ((version_path v).cont.0 == c.0)) (nat_lt v.epoch.0 (g.0 + 1)) (both (not v.done) ((version_path v).cont.0 == c.0) (ap not off) (grind (arith, nat_tests))) (grind (arith, nat_tests))

under : (g limit v : ℕ) → limit ≤ g → v ≤ limit → v ≤ g
under g limit v a b = omega arith

leased-under : (g limit lease : ℕ) → limit ≤ g → g / 256 ≤ lease → limit / 256 ≤ lease
leased-under g limit lease a b = omega arith

not-under : (g e v aggregated : ℕ) → aggregated < min g (e - 1) → e ≤ v → v ≤ min g (e - 1) → ⊥
not-under g e v aggregated a b c = omega arith

-- so that a container can be pruned up to there, where that is due
pub can-prune : (c : ContId) (g : Epoch) (d : Durable) → IsInForm d → is_enlisted d c ≡ true → g.0 / 256 ≤ d.lease → (row_of d c).aggregated.0 < (prune_limit c g d).0 → CanPrune c (prune_limit c g d) d
unfolding prune_limit
can-prune c g d form enlisted leased due = by (find (is_open_in c g) d.versions) refl due
  where
    by : (first : Option Version) → find (is_open_in c g) d.versions ≡ first → (row_of d c).aggregated.0 < (below_open g first).0 → CanPrune c (below_open g first) d
    by None none due = record {
      enlisted = enlisted;
      settled = all-from_has (λ v. (version_path v).cont ≡ c → v.epoch.0 ≤ g.0 → v.done ≡ true) d.versions (λ v i at le. done v i at le v.done refl);
      leased = leased;
    }
      where
        done : (v : Version) → Has v d.versions → (version_path v).cont ≡ c → v.epoch.0 ≤ g.0 → (b : Bool) → v.done ≡ b → v.done ≡ true
        done v i at le true is = is
        done v i at le false is = clash (is_open_in c g v) (opens c g v is (ap (λ x. x.0) at) le) (none-found (is_open_in c g) d.versions v none i)
    by (Some u) found due = record {
      enlisted = enlisted;
      settled = all-from_has (λ v. (version_path v).cont ≡ c → v.epoch.0 ≤ min g.0 (u.epoch.0 - 1) → v.done ≡ true) d.versions (λ v i at le. done v i at le v.done refl);
      leased = leased-under g.0 (min g.0 (u.epoch.0 - 1)) d.lease (omega arith) leased;
    }
      where
        done : (v : Version) → Has v d.versions → (version_path v).cont ≡ c → v.epoch.0 ≤ min g.0 (u.epoch.0 - 1) → (b : Bool) → v.done ≡ b → v.done ≡ true
        done v i at le true is = is
        done v i at le false is =
            let least = least-first (is_open_in c g) d.versions u v form.versions found i (opens c g v is (ap (λ x. x.0) at) (under g.0 (min g.0 (u.epoch.0 - 1)) v.epoch.0 (omega arith) le)) in
            absurd (not-under g.0 u.epoch.0 v.epoch.0 (row_of d c).aggregated.0 due least le)

pub prune-allowed : (c : ContId) (g : Epoch) (d : Durable) (limit aggregated : Epoch) → limit ≡ prune_limit c g d → aggregated ≡ (row_of d c).aggregated → IsInForm d → is_enlisted d c ≡ true → g.0 / 256 ≤ d.lease → aggregated.0 < limit.0 → CanPrune c limit d
prune-allowed c g d limit aggregated is kept_so form enlisted leased lt =
    subst (λ l. CanPrune c l d) (sym is) (can-prune c g d form enlisted leased (subst (λ (a : Epoch). a.0 < (prune_limit c g d).0) kept_so (subst (λ (l : Epoch). aggregated.0 < l.0) is lt)))

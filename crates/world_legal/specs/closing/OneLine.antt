-- Two lines of an attempt are one; and the writes of operations, with numbers or without.
use Rattle.std.specs.Prelude.{ℕ, ◌≡◌, ◌++◌, List, [], ◌∷◌, map, refl, ◌+◌}
use Rattle.std.proofs.Common.{sym, ◌∙◌, ap, subst, inl, inr}
use Rattle.base_types.specs.declared.report.Attempt.{Attempt}
use Rattle.model_laws.specs.Decided.{write_of}
use Rattle.model_laws.specs.Members.{Has, has-map}
use Rattle.daos_model.specs.Accesses.{minor_writes, minor_write}
use Rattle.daos_model.specs.Transactions.{writes_of, written}
use Rattle.world_standing.specs.world_causes.causes.LastCauses.{ids}
use Rattle.world_standing.specs.world_causes.causes.Storing as storing
use Rattle.base_types.specs.declared.operation.Act.{Act}
use Rattle.base_types.specs.declared.operation.Act.TheVariants.{Change, Fetch}
use Rattle.base_types.specs.declared.operation.Op.{Op}

-- the writes of operations, with their numbers or without
pub written-minors : (n : ℕ) (ops : List Op) → writes_of ops ≡ map write_of (minor_writes n ops)
unfolding writes_of minor_writes
written-minors n [] = refl
written-minors n (op ∷ ops) = by op.act (written-minors (n + 1) ops)
  where
    by : (act : Act) → writes_of ops ≡ map write_of (minor_writes (n + 1) ops) → written act ++ writes_of ops ≡ map write_of (minor_write n act ++ minor_writes (n + 1) ops)
    by (Fetch r) rest = rest
    by (Change w) rest = ap (λ ws. w ∷ ws) rest

-- ---- two lines of an attempt are one

pub one-line : (xs : List Attempt) (a b : Attempt) → storing.AreApart (ids xs) → Has a xs → Has b xs → a.id ≡ b.id → a ≡ b
one-line [] a b k i j e = absurd i
one-line (x ∷ xs) a b k (inl p) (inl q) e = p ∙ sym q
one-line (x ∷ xs) a b k (inl p) (inr j) e = absurd (k.0 (subst (λ y. Has y (ids xs)) (sym e ∙ ap (λ z. z.id) p) (has-map (λ z. z.id) xs b j)))
one-line (x ∷ xs) a b k (inr i) (inl q) e = absurd (k.0 (subst (λ y. Has y (ids xs)) (e ∙ ap (λ z. z.id) q) (has-map (λ z. z.id) xs a i)))
one-line (x ∷ xs) a b k (inr i) (inr j) e = one-line xs a b k.1 i j e

-- The writes of a target's own groups, and the entry of an attempt that it leads.
use Rattle.std.proofs.Common.{ℕ, suc, zero, ◌≡◌, ◌<◌, ◌≤◌, ◌^◌, inl, inr, refl, subst, true, List, [], ◌∷◌, All, arith}
use Rattle.std.proofs.lemmas.List.Elements.{All-append, All-filter, All-head, All-tail}
use Rattle.std.proofs.lemmas.Bool.{cases_eq}
use Rattle.std.proofs.lemmas.Nat.{or_lt}
use Rattle.std.proofs.Math.Pow.{pow-lt}
use Rattle.base_types.specs.declared.epoch.Epoch.{Epoch}
use Rattle.base_types.specs.declared.operation.MinorWrite.{MinorWrite}
use Rattle.base_types.specs.declared.path.Path.{Path}
use Rattle.base_types.specs.Operations.{write_path}
use Rattle.base_types.specs.Placement.{path_members, writes_members}
use Rattle.daos_model.specs.declared.durable.Durable.{Durable}
use Rattle.daos_model.specs.Durables.{is_enlisted}
use Rattle.target_members.specs.Membership.{object-within}
use Rattle.vos_store.specs.Calls.{State}
use Rattle.vos_store.specs.Conditions.{IsPreparable}
use Rattle.world_base.specs.declared.request.CommitRequest.{CommitRequest}
use Rattle.world_base.specs.declared.target.TargetPlan.{TargetPlan}
use Rattle.world_base.specs.Commits.{bits_of, led_entry, own_writes}
use Rattle.target_parts.specs.Standing.{IsPlaced}
use Rattle.target_writes.specs.Checks.{AreEnlisted, AreWrites}
use Rattle.target_parts.specs.world_contents.reads.ListLaws.{some-in_form}

-- ---- members

path-within : (n : ℕ) (p : Path) → 0 < n → All (λ t. t < n) (path_members p n)
unfolding path_members
path-within n p some = object-within n p.obj p.dkey some

-- the members of an attempt are targets
pub writes-within : (n : ℕ) (ws : List MinorWrite) → 0 < n → All (λ t. t < n) (writes_members ws n)
unfolding writes_members
writes-within n [] some = λ i d lt. absurd (omega arith)
writes-within n (w ∷ ws) some = All-append (λ t. t < n) (path_members (write_path w.write) n) (writes_members ws n) (path-within n (write_path w.write) some) (writes-within n ws some)

pub bits-below : (n : ℕ) (ts : List ℕ) → All (λ t. t < n) ts → bits_of ts < 2 ^ n
unfolding bits_of
bits-below n [] within = pow-positive n
  where
    pow-positive : (n : ℕ) → 0 < 2 ^ n
    pow-positive zero = omega arith
    pow-positive (suc n) = let less : 2 ^ n < 2 ^ suc n = pow-lt {i = n} {j = suc n} (omega arith) in let some = pow-positive n in omega arith
bits-below n (t ∷ ts) within = or_lt n (2 ^ t) (bits_of ts) (pow-lt {i = t} {j = n} (All-head (λ x. x < n) t ts within)) (bits-below n ts (All-tail (λ x. x < n) t ts within))

-- fewer bits are fewer
pub below-more : (n k l : ℕ) → n < 2 ^ k → k ≤ l → n < 2 ^ l
below-more n k l lt le = elim (cases_eq k l) [
  | inl same ↦ subst (λ x. n < 2 ^ x) same lt
  | inr apart ↦ (let more : 2 ^ k < 2 ^ l = pow-lt {i = k} {j = l} (omega (arith, le, apart)) in omega (arith, lt, more))
]

-- ---- own writes

pub own-enlisted : (t : TargetPlan) (ws : List MinorWrite) (d : Durable) → AreEnlisted ws d → AreEnlisted (own_writes t ws) d
own-enlisted t ws d all = All-filter _ (λ w. is_enlisted d (write_path w.write).cont ≡ true) ws all

-- the entry of an attempt and its own writes may be asked to be prepared
pub led-preparable : (t : TargetPlan) (s : State) (q : CommitRequest) (e : Epoch) → IsPlaced t s → AreWrites t q.writes → IsPreparable s (led_entry t q e) (own_writes t q.writes)
led-preparable t s q e placed are = record {
  undecided = refl;
  unconfirmed = refl;
  leader = (let a = placed.me in let b = placed.made in omega (arith, a, b));
  members = below-more (bits_of (writes_members q.writes t.targets)) t.targets s.targets (bits-below t.targets (writes_members q.writes t.targets) (writes-within t.targets q.writes (let a = placed.me in omega (arith, a)))) placed.made;
  some = are.some;
  form = some-in_form _ q.writes are.form;
}

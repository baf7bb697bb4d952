-- An attempt is resolved by what the targets keep exactly where its leader and all other members hold it.
use Rattle.std.specs.Prelude.{ℕ, zero, suc, ◌≡◌, ◌⊎◌, ◌<◌, ◌≤◌, ◌+◌, ◌*◌, ◌^◌, ◌==◌, ◌&&◌, ◌||◌, Bool, true, false, bit_and, is_some, nat_lt, not, List, [], ◌∷◌, length, slice_get, Option, Some, None, refl, map}
use Rattle.std.specs.Int.{bit_at}
use Rattle.std.specs.Option.{option_map}
use Rattle.std.proofs.Common.{inl, inr, sym, ◌∙◌, ap, subst, arith}
use Rattle.std.proofs.lemmas.Bool.Decides.{nat_tests}
use Rattle.std.proofs.lemmas.Nat.{pow_pos}
use Rattle.std.proofs.lemmas.Option.{slice_get_within}
use Rattle.std.proofs.lemmas.Nat.Bits.{and_pow, bit_at-lt}
use Rattle.base_types.specs.declared.entry.Entry.{Entry}
use Rattle.base_types.specs.declared.epoch.Epoch.{Epoch}
use Rattle.base_types.specs.declared.id.AttemptId.{AttemptId}
use Rattle.base_types.specs.declared.operation.MinorWrite.{MinorWrite}
use Rattle.base_types.specs.Operations.{write_path}
use Rattle.base_types.specs.Placement.{writes_leader, writes_members}
use Rattle.model_laws.specs.FamilyLaws.{leader-within}
use Rattle.model_laws.specs.JoinLaws.{has-range}
use Rattle.model_laws.specs.Lists.{at-within, has-at, place-of}
use Rattle.model_laws.specs.Members.{Has, any-has, has-any, has-from_filter}
use Rattle.daos_model.specs.declared.durable.Durable.{Durable}
use Rattle.daos_model.specs.BoolLaws.{and_left, and_right, both, clash, or_from_right}
use Rattle.daos_model.specs.Durables.{entry_of}
use Rattle.daos_model.specs.Family.{all_hold_from, holds, is_in_field, is_resolved_entry, is_within, resolved}
use Rattle.daos_model.specs.FormLaws.{length-map}
use Rattle.dtx_base.specs.Members.{all_targets, has_target, is_other_member, other_members}
use Rattle.world_standing.specs.world_contents.posts.Members.{bit-of, writes-within}
use Rattle.world_standing.specs.world_commit.attempts.Attempts.{Entries, IsHeld, IsItsEntry, IsOther, entry_at, entry_in, first_entry, leader_of, members_of, writes_of}
use Rattle.world_standing.specs.world_commit.attempts.History.{Decided, History}
use Rattle.world_standing.specs.world_commit.attempts.MemberBits.{is-other_same, other-from_test}
use Rattle.world_base.specs.declared.target.TargetState.{TargetState}
use Rattle.world_base.specs.declared.world.World.{World}
use Rattle.world_base.specs.Events.{Rules}
use Rattle.world_legal.specs.closing.Kept.{get-map}
use Rattle.world_standing.specs.world_contents.posts.ScriptForm.{of-end}
use Rattle.world_legal.specs.closing.Sharing.{members-below}
use Rattle.world_legal.specs.closing.Closing.{IsResolved, durable_of, durables_of}
use Rattle.base_types.specs.declared.script.Script.{Script}

-- how many clients and how many targets there are
pub record Crowd : Type 0 where
  pub clients : ℕ
  pub targets : ℕ

-- the leader and the members that an entry names are there
pub record IsPlaced (n : Crowd) (e : Entry) : Type 0 where
  pub leader : e.leader < n.targets
  pub members : (t : ℕ) → has_target e.members t ≡ true → t < n.targets

abbrev pub crowd : Script → Crowd
crowd s = record { clients = length s.clients; targets = s.targets }

pub from-durables : (ss : List TargetState) (t : ℕ) (d : Durable) → slice_get (map durable_of ss) t ≡ Some d → (s : TargetState) × (slice_get ss t ≡ Some s) × (s.durable ≡ d)
from-durables [] t d at = let no : ⊥ = cc in absurd no
from-durables (s ∷ ss) zero d at = (s, refl, let same : s.durable ≡ d = cc in same)
from-durables (s ∷ ss) (suc t) d at = from-durables ss t d at

-- ---- who is there

pub writes-led : (ws : List MinorWrite) (n : ℕ) → 0 < n → writes_leader ws n < n
unfolding writes_leader
writes-led [] n some = some
writes-led (w ∷ ws) n some = leader-within (write_path w.write) n some

-- the leader of an attempt is a target
pub leader-there : (r : Rules) (x : AttemptId) → 0 < r.script.targets → leader_of r x < r.script.targets
leader-there r x some = writes-led (writes_of r x) r.script.targets some

-- whom an entry names is there
pub entry-placed : (r : Rules) (w : World) (x : AttemptId) (t : ℕ) (e : Entry) → 0 < r.script.targets → IsItsEntry r w x t e → IsPlaced (crowd r.script) e
entry-placed r w x t e some its = record {
  leader = subst (λ n. n < r.script.targets) (sym its.leader) (leader-there r x some);
  members = λ m has. writes-within (writes_of r x) r.script.targets m some (bit-of (writes_members (writes_of r x) r.script.targets) m (subst (λ n. has_target n m ≡ true) its.members has));
}

-- and so is each other member of it
pub other-there : (r : Rules) (x : AttemptId) (m : ℕ) → 0 < r.script.targets → IsOther r x m → m < r.script.targets
unfolding other_members is_other_member
other-there r x m some i =
    let z = has-from_filter (is_other_member (first_entry r x (record { 0 = 0 }))) all_targets m i in
    writes-within (writes_of r x) r.script.targets m some (bit-of (writes_members (writes_of r x) r.script.targets) m (and_left (has_target (members_of r x) m) (not (m == leader_of r x)) z.1))

-- ---- bits

-- a bit is set in either reading of a field
pub field-is : (field t : ℕ) → is_in_field field t ≡ has_target field t
unfolding has_target
field-is field t = by (bit_at field t) refl
  where
    masked : bit_and field (2 ^ t) ≡ bit_at field t * 2 ^ t
    masked = and_pow field t

    by : (b : ℕ) → bit_at field t ≡ b → is_in_field field t ≡ (bit_at field t == 1)
    by zero is = let none : (0 * 2 ^ t == 0) ≡ true = grind (arith, nat_tests) in rw (masked, is) (ap not none)
    by (suc zero) is =
        let some : 0 < 2 ^ t = pow_pos t in
        let one : (1 * 2 ^ t == 0) ≡ false = grind (arith, nat_tests) in
        rw (masked, is) (ap not one)
    by (suc (suc n)) is = let low : bit_at field t < 2 = bit_at-lt field t in absurd (omega (arith, is, low))

-- ---- who holds an attempt

-- an entry names a target, as a member or as the leader
abbrev is_named : Entry → ℕ → Bool
is_named e t = is_in_field e.members t || e.leader == t

of-test : (a b : Bool) → (a || not b) ≡ true → b ≡ true → a ≡ true
of-test true b e named = refl
of-test false b e named = clash b named (not-so b e)
  where
    not-so : (b : Bool) → not b ≡ true → b ≡ false
    not-so true e = let no : ⊥ = cc in absurd no
    not-so false e = refl

to-test : (a b : Bool) → (b ≡ true → a ≡ true) → (a || not b) ≡ true
to-test a true h = ap (λ z. z || false) (h refl)
to-test true false h = refl
to-test false false h = refl

-- of two tests, one of which fails, the other passes
either : (a b : Bool) → (a || b) ≡ true → b ≡ false → a ≡ true
either true b e off = refl
either false b e off = clash b e off

-- where all that an entry names hold its attempt, each of them does
each-holds : (t : ℕ) (e : Entry) (ds : List Durable) (i : ℕ) (d : Durable) → all_hold_from t e ds ≡ true → slice_get ds i ≡ Some d → is_named e (t + i) ≡ true → holds e.attempt d ≡ true
each-holds t e [] i d all at named = let no : ⊥ = cc in absurd no
each-holds t e (c ∷ ds) zero d all at named =
    let same : c ≡ d = cc in
    let here : t + 0 ≡ t = omega arith in
    subst (λ z. holds e.attempt z ≡ true) same
    (of-test (holds e.attempt c) (is_named e t) (and_left (holds e.attempt c || not (is_named e t)) (all_hold_from (t + 1) e ds) all) (subst (λ n. is_named e n ≡ true) here named))
each-holds t e (c ∷ ds) (suc i) d all at named =
    let next : t + suc i ≡ t + 1 + i = omega arith in
    each-holds (t + 1) e ds i d (and_right (holds e.attempt c || not (is_named e t)) (all_hold_from (t + 1) e ds) all) at (subst (λ n. is_named e n ≡ true) next named)

-- and the other way round
all-hold : (t : ℕ) (e : Entry) (ds : List Durable) → ((i : ℕ) (d : Durable) → slice_get ds i ≡ Some d → is_named e (t + i) ≡ true → holds e.attempt d ≡ true) → all_hold_from t e ds ≡ true
all-hold t e [] each = refl
all-hold t e (d ∷ ds) each =
    both (holds e.attempt d || not (is_named e t)) (all_hold_from (t + 1) e ds)
    (to-test (holds e.attempt d) (is_named e t) (λ named. let here : t ≡ t + 0 = omega arith in each 0 d refl (subst (λ n. is_named e n ≡ true) here named)))
    (all-hold (t + 1) e ds (λ i c at named. let next : t + 1 + i ≡ t + suc i = omega arith in each (suc i) c at (subst (λ n. is_named e n ≡ true) next named)))

-- an attempt's leader and each other member hold it
pub record AreHeld (r : Rules) (w : World) (x : AttemptId) : Type 0 where
  pub leader : IsHeld w (leader_of r x) x
  pub others : (m : ℕ) → IsOther r x m → IsHeld w m x

-- There is a target for each number, as many as a set of members holds; and of each attempt it is known which entries there may be.
pub record HasEntries (r : Rules) (h : History) (v : World) : Type 0 where
  pub targets : length v.targets ≡ r.script.targets
  pub some : 0 < r.script.targets
  pub few : r.script.targets ≤ 64
  pub entries : (x : AttemptId) → Entries r h v x

module _ (r : Rules) (h : History) (v : World) (f : HasEntries r h v) where
  pub many : length (durables_of v) ≡ r.script.targets
  many = length-map durable_of v.targets ∙ f.targets

  pub durable-at : (t : ℕ) (s : TargetState) → slice_get v.targets t ≡ Some s → slice_get (durables_of v) t ≡ Some s.durable
  durable-at t s here = get-map durable_of v.targets t ∙ ap (option_map durable_of) here

  pub held-at : (x : AttemptId) (t : ℕ) → AreHeld r v x → (t ≡ leader_of r x) ⊎ IsOther r x t → IsHeld v t x
  held-at x t k (inl same) = subst (λ n. IsHeld v n x) (sym same) k.leader
  held-at x t k (inr other) = k.others t other

  -- what is decided is held so
  pub decided-held : (x : AttemptId) (e : Epoch) → Decided h x e → AreHeld r v x
  decided-held x e d = record {
    leader = let z = (f.entries x).held_by_leader e d in record { entry = z.entry; found = z.found };
    others = λ m other. let z = (f.entries x).held_by_others e m d other in record { entry = z.entry; found = z.found };
  }

  -- a target that holds an attempt has an entry of it
  to-held : (t : ℕ) (s : TargetState) (x : AttemptId) → slice_get v.targets t ≡ Some s → holds x s.durable ≡ true → IsHeld v t x
  to-held t s x here k = by (entry_of s.durable x) refl k
    where
      by : (e : Option Entry) → entry_of s.durable x ≡ e → is_some e ≡ true → IsHeld v t x
      by None found has = let no : ⊥ = cc in absurd no
      by (Some e) found has = record { entry = e; found = ap (λ z. entry_in z x) here ∙ found }

  from-held : (t : ℕ) (s : TargetState) (x : AttemptId) → slice_get v.targets t ≡ Some s → IsHeld v t x → holds x s.durable ≡ true
  from-held t s x here k = ap is_some (sym (ap (λ z. entry_in z x) here) ∙ k.found)

  -- ---- from what is resolved

  module _ (x : AttemptId) (t : ℕ) (s : TargetState) (here : slice_get v.targets t ≡ Some s) (e : Entry) (found : entry_of s.durable x ≡ Some e) where
    there : entry_at v t x ≡ Some e
    there = ap (λ z. entry_in z x) here ∙ found

    its : IsItsEntry r v x t e
    its = (f.entries x).one t e there

    placed : IsPlaced (crowd r.script) e
    placed = entry-placed r v x t e f.some its

    named-holds : all_hold_from 0 e (durables_of v) ≡ true → (m : ℕ) → m < r.script.targets → is_named e m ≡ true → IsHeld v m x
    named-holds all m within named =
        let targets : length v.targets ≡ r.script.targets = f.targets in
        let z = at-within v.targets m (omega (arith, within, targets)) in
        let first : m ≡ 0 + m = omega arith in
        to-held m z.0 x z.1 (subst (λ y. holds y z.0.durable ≡ true) its.attempt (each-holds 0 e (durables_of v) m z.0.durable all (durable-at m z.0 z.1) (subst (λ n. is_named e n ≡ true) first named)))

    leader-named : is_named e (leader_of r x) ≡ true
    leader-named = or_from_right (is_in_field e.members (leader_of r x)) (e.leader == leader_of r x) (let same : e.leader ≡ leader_of r x = its.leader in grind (arith, nat_tests))

    other-bit : (m : ℕ) → IsOther r x m → has_target e.members m ≡ true
    unfolding is_other_member
    other-bit m other = and_left (has_target e.members m) (not (m == e.leader)) (is-other_same r x e m its.leader its.members other)

    other-named : (m : ℕ) → IsOther r x m → is_named e m ≡ true
    other-named m other = ap (λ b. b || e.leader == m) (field-is e.members m ∙ other-bit m other)

    all-held : all_hold_from 0 e (durables_of v) ≡ true → AreHeld r v x
    all-held all = record {
      leader = named-holds all (leader_of r x) (subst (λ n. n < r.script.targets) its.leader placed.leader) leader-named;
      others = λ m other. named-holds all m (placed.members m (other-bit m other)) (other-named m other);
    }

    pub entry-held : is_resolved_entry (durables_of v) (Some e) ≡ true → AreHeld r v x
    entry-held is = by e.committed refl is
      where
        by : (b : Bool) → e.committed ≡ b → (b || (is_within (durables_of v) e && all_hold_from 0 e (durables_of v))) ≡ true → AreHeld r v x
        by true committed k = decided-held x e.epoch ((f.entries x).committed t e there committed)
        by false committed k = all-held (and_right (is_within (durables_of v) e) (all_hold_from 0 e (durables_of v)) k)

    -- ---- to what is resolved

    named-held : AreHeld r v x → (i : ℕ) (z : TargetState) → slice_get v.targets i ≡ Some z → is_named e i ≡ true → IsHeld v i x
    unfolding is_other_member
    named-held k i z at named = by (e.leader == i) refl
      where
        within : i < r.script.targets
        within = let targets : length v.targets ≡ r.script.targets = f.targets in let low : i < length v.targets = (slice_get_within v.targets i z at) in omega (arith, low, targets)

        by : (b : Bool) → (e.leader == i) ≡ b → IsHeld v i x
        by true is = let same : i ≡ e.leader = grind (arith, nat_tests) in held-at x i k (inl (same ∙ its.leader))
        by false is = held-at x i k (inr (other-from_test r x e i its.leader its.members among test))
          where
            among : Has i all_targets
            among = let few = f.few in has-range 0 64 i (omega arith) (omega (arith, within, few))

            bit : has_target e.members i ≡ true
            bit = sym (field-is e.members i) ∙ either (is_in_field e.members i) (e.leader == i) named is

            apart : (i == e.leader) ≡ false
            apart = grind (arith, nat_tests)

            test : is_other_member e i ≡ true
            test = both (has_target e.members i) (not (i == e.leader)) bit (ap not apart)

    pub held-entry : AreHeld r v x → is_resolved_entry (durables_of v) (Some e) ≡ true
    held-entry k = or_from_right e.committed (is_within (durables_of v) e && all_hold_from 0 e (durables_of v)) (both (is_within (durables_of v) e) (all_hold_from 0 e (durables_of v)) within all)
      where
        within : is_within (durables_of v) e ≡ true
        within = both (nat_lt e.leader (length (durables_of v))) (nat_lt e.members (2 ^ length (durables_of v)))
            (of-end e.leader (length (durables_of v)) (subst (λ n. e.leader < n) (sym many) placed.leader))
            (of-end e.members (2 ^ length (durables_of v)) (subst (λ n. e.members < 2 ^ n) (sym many) (subst (λ n. n < 2 ^ r.script.targets) (sym its.members) (members-below r x f.some))))

        all : all_hold_from 0 e (durables_of v) ≡ true
        all = all-hold 0 e (durables_of v) (λ i d at named.
            let z = from-durables v.targets i d at in
            let first : 0 + i ≡ i = omega arith in
            subst (λ y. holds e.attempt y ≡ true) z.2 (subst (λ y. holds y z.0.durable ≡ true) (sym its.attempt) (from-held i z.0 x z.1 (named-held k i z.0 z.1 (subst (λ n. is_named e n ≡ true) first named)))))

  -- ---- both

  pub resolved-held : (x : AttemptId) → IsResolved v x → AreHeld r v x
  unfolding resolved
  resolved-held x is = by (entry_of a.0 x) refl a.2
    where
      a : (d : Durable) × Has d (durables_of v) × (is_resolved_entry (durables_of v) (entry_of d x) ≡ true)
      a = has-any (λ d. is_resolved_entry (durables_of v) (entry_of d x)) (durables_of v) is

      p : (n : ℕ) × (slice_get (durables_of v) n ≡ Some a.0)
      p = place-of (durables_of v) a.0 a.1

      z : (s : TargetState) × (slice_get v.targets p.0 ≡ Some s) × (s.durable ≡ a.0)
      z = from-durables v.targets p.0 a.0 p.1

      by : (e : Option Entry) → entry_of a.0 x ≡ e → is_resolved_entry (durables_of v) e ≡ true → AreHeld r v x
      by None found k = let no : ⊥ = cc in absurd no
      by (Some e) found k = entry-held x p.0 z.0 z.1 e (ap (λ d. entry_of d x) z.2 ∙ found) k

  pub held-resolved : (x : AttemptId) → AreHeld r v x → IsResolved v x
  unfolding resolved
  held-resolved x k = by (slice_get v.targets (leader_of r x)) refl
    where
      by : (s : Option TargetState) → slice_get v.targets (leader_of r x) ≡ s → IsResolved v x
      by None none = let no : ⊥ = cc (sym k.leader.found ∙ ap (λ z. entry_in z x) none) in absurd no
      by (Some s) here =
          let found : entry_of s.durable x ≡ Some k.leader.entry = sym (ap (λ z. entry_in z x) here) ∙ k.leader.found in
          any-has (λ d. is_resolved_entry (durables_of v) (entry_of d x)) (durables_of v) s.durable (has-at (durables_of v) (leader_of r x) s.durable (durable-at (leader_of r x) s here))
          (ap (is_resolved_entry (durables_of v)) found ∙ held-entry x (leader_of r x) s here k.leader.entry found k)

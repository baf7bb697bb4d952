-- Where no actor has anything to do.
use Rattle.std.specs.Prelude.{ℕ, ◌≡◌, ◌⊎◌, ◌<◌, Bool, true, false, ◌&&◌, ◌||◌, ◌==◌, not, nat_lt, List, [], ◌∷◌, filter, length, slice_get, Some, refl}
use Rattle.std.proofs.Common.{zero, suc, inl, inr, sym, ◌∙◌, ap, subst, arith}
use Rattle.std.proofs.lemmas.Bool.{cases_eq}
use Rattle.std.proofs.lemmas.Bool.Decides.{nat_tests}
use Rattle.model_laws.specs.Lists.{at-within}
use Rattle.model_laws.specs.Members.{Has, has-filter, has-left, has-right}
use Rattle.base_messages.specs.declared.actor.ActorId.{ActorId}
use Rattle.daos_model.specs.declared.durable.Durable.{Durable}
use Rattle.world_base.specs.dtx_base.Joining.{is_inquiry_due}
use Rattle.world_base.specs.dtx_base.Leading.{is_batch_due}
use Rattle.run_base.specs.Picked.{none-to}
use Rattle.run_base.specs.Picks.{actors, count_to, due, if_client_due, if_target_due, is_client_due, is_due, is_due_where, is_target_due, numbered}
use Rattle.world_base.specs.declared.client.ClientPlan.{ClientPlan}
use Rattle.world_base.specs.declared.client.ClientState.{ClientState}
use Rattle.world_base.specs.declared.target.Life.TheVariants.{Running, Stopped}
use Rattle.world_base.specs.declared.target.TargetMemory.{TargetMemory}
use Rattle.world_base.specs.declared.target.TargetPlan.{TargetPlan}
use Rattle.world_base.specs.declared.target.TargetState.{TargetState}
use Rattle.world_base.specs.declared.world.World.{World}
use Rattle.world_base.specs.ClientTurns.{is_done, waits}
use Rattle.world_base.specs.Ended.{HasEnded}
use Rattle.world_base.specs.Events.{Rules, client_plan, target_plan}
use Rattle.world_base.specs.Letters.{client, target}
use Rattle.world_base.specs.Idle.{has_idle}
use Rattle.world_base.specs.Roles.{leader_at, member_at}

-- ---- the statements

-- where no actor has anything to do in the settling phase, a run by these rules has ended
abbrev pub QuietHasEnded : Type 0
QuietHasEnded = (r : Rules) (w : World) → length w.clients ≡ length r.script.clients → due true r w ≡ [] → HasEnded r w

-- and no client skips any more
abbrev pub QuietSkipsNone : Type 0
QuietSkipsNone = (settling : Bool) (r : Rules) (w : World) (n : ℕ) (c : ClientState) → due settling r w ≡ [] → slice_get w.clients n ≡ Some c → c.skip ≡ 0

-- ---- lists

pub none-passes : {T : Type 0} (test : T → Bool) (xs : List T) (x : T) → filter test xs ≡ [] → Has x xs → test x ≡ false
none-passes {T = T} test xs x none i = by (test x) refl
  where
    by : (b : Bool) → test x ≡ b → test x ≡ false
    by true h = let no : Has x [] = subst (λ ys. Has x ys) none (has-filter test xs x i h) in absurd no
    by false h = h

pub has-number : (name : ℕ → ActorId) (n k : ℕ) → k < n → Has (name k) (numbered name n)
has-number name zero k within = absurd (omega (arith, within))
has-number name (suc n) k within = elim (cases_eq k n) [
  | inl same ↦ has-right (numbered name n) (name n ∷ []) (name k) (inl (ap name same))
  | inr apart ↦ has-left (numbered name n) (name n ∷ []) (name k) (has-number name n k (omega (arith, within, apart)))
]

within-length : {T : Type 0} (xs : List T) (n : ℕ) (x : T) → slice_get xs n ≡ Some x → n < length xs
within-length [] n x h = let no : ⊥ = cc in absurd no
within-length (y ∷ ys) zero x h = omega arith
within-length (y ∷ ys) (suc n) x h = let k : n < length ys = within-length ys n x h in omega (arith, k)

pub none-left : {T : Type 0} (xs : List T) → not (length xs == 0) ≡ false → xs ≡ []
none-left [] h = refl
none-left (x ∷ xs) h = let no : ⊥ = grind (arith, nat_tests) in absurd no

-- ---- tests

pub left-false : (a b : Bool) → a || b ≡ false → (a ≡ false) × (b ≡ false)
left-false true b h = let no : ⊥ = cc in absurd no
left-false false b h = (refl, h)

pub one-true : (a b : Bool) → not (a || b) ≡ false → (a ≡ true) ⊎ (b ≡ true)
one-true true b h = inl refl
one-true false true h = inr refl
one-true false false h = let no : ⊥ = cc in absurd no

client-parts : (p : ClientPlan) (c : ClientState) (count : ℕ) → is_client_due p c count ≡ false → (nat_lt 0 c.skip ≡ false) × (nat_lt 0 count ≡ false) × (not (waits c || is_done p c) ≡ false)
client-parts p c count h =
    let a = left-false (nat_lt 0 c.skip || nat_lt 0 count) (not (waits c || is_done p c)) h in
    let b = left-false (nat_lt 0 c.skip) (nat_lt 0 count) a.0 in
    (b.0, b.1, a.1)

-- a target has no idle work of any kind
record HasNoneIdle (settling : Bool) (t : TargetPlan) (m : TargetMemory) (d : Durable) : Type 0 where
  settled : not (length m.leader.decided == 0) ≡ false
  told : is_batch_due (leader_at t m d) ≡ false
  inquired : settling && is_inquiry_due d.entries (member_at t m) ≡ false

idle-parts : (settling : Bool) (t : TargetPlan) (m : TargetMemory) (d : Durable) → has_idle settling t m d ≡ false → HasNoneIdle settling t m d
unfolding has_idle
idle-parts settling t m d h =
    let a = left-false (not (length m.leader.decided == 0) || is_batch_due (leader_at t m d)) (settling && is_inquiry_due d.entries (member_at t m)) h in
    let b = left-false (not (length m.leader.decided == 0)) (is_batch_due (leader_at t m d)) a.0 in
    record { settled = b.0; told = b.1; inquired = a.1 }

-- a target that runs has nothing to do, and one that is stopped always has
target-parts : (settling : Bool) (t : TargetPlan) (s : TargetState) (count : ℕ) → is_target_due settling t s count ≡ false → s.life ≡ Running → (nat_lt 0 count ≡ false) × HasNoneIdle settling t s.memory s.durable
target-parts settling t s count h runs =
    let a = left-false (nat_lt 0 count) (has_idle settling t s.memory s.durable) (ap (λ l. is_due_where l (nat_lt 0 count || has_idle settling t s.memory s.durable)) (sym runs) ∙ h) in
    (a.0, idle-parts settling t s.memory s.durable a.1)

stopped-due : (settling : Bool) (t : TargetPlan) (s : TargetState) (count : ℕ) → is_target_due settling t s count ≡ false → s.life ≡ Stopped → ⊥
stopped-due settling t s count h stopped =
    let is : true ≡ false = ap (λ l. is_due_where l (nat_lt 0 count || has_idle settling t s.memory s.durable)) (sym stopped) ∙ h in
    let no : ⊥ = cc in no

-- ---- worlds

module _ (settling : Bool) (r : Rules) (w : World) (quiet : due settling r w ≡ []) where
  client-quiet : (n : ℕ) (c : ClientState) → slice_get w.clients n ≡ Some c → is_client_due (client_plan r n) c (count_to (client n) w.messages) ≡ false
  client-quiet n c here =
      ap (if_client_due (client_plan r n) (count_to (client n) w.messages)) (sym here)
      ∙ none-passes (is_due settling r w) (actors w) (client n) quiet (has-left (numbered client (length w.clients)) (numbered target (length w.targets)) (client n) (has-number client (length w.clients) n (within-length w.clients n c here)))

  target-quiet : (t : ℕ) (s : TargetState) → slice_get w.targets t ≡ Some s → is_target_due settling (target_plan r t) s (count_to (target t) w.messages) ≡ false
  target-quiet t s here =
      ap (if_target_due settling (target_plan r t) (count_to (target t) w.messages)) (sym here)
      ∙ none-passes (is_due settling r w) (actors w) (target t) quiet (has-right (numbered client (length w.clients)) (numbered target (length w.targets)) (target t) (has-number target (length w.targets) t (within-length w.targets t s here)))

pub quiet-has-ended : QuietHasEnded
quiet-has-ended r w lists quiet = record {
  to_clients = λ n l within i to.
      let c = at-within w.clients n (subst (λ m. n < m) (sym lists) within) in
      none-to (client n) w.messages (client-parts (client_plan r n) c.0 (count_to (client n) w.messages) (client-quiet true r w quiet n c.0 c.1)).1 l i to;
  to_targets = λ t s l here runs i to. none-to (target t) w.messages (none-idle t s here runs).0 l i to;
  clients = λ n c here. one-true (waits c) (is_done (client_plan r n) c) (client-parts (client_plan r n) c (count_to (client n) w.messages) (client-quiet true r w quiet n c here)).2;
  none_stopped = λ t s here stopped. stopped-due true (target_plan r t) s (count_to (target t) w.messages) (target-quiet true r w quiet t s here) stopped;
  settled = λ t s here runs. none-left s.memory.leader.decided (none-idle t s here runs).1.settled;
  told = λ t s here runs. (none-idle t s here runs).1.told;
  inquired = λ t s here runs. (none-idle t s here runs).1.inquired;
}
  where
    none-idle : (t : ℕ) (s : TargetState) → slice_get w.targets t ≡ Some s → s.life ≡ Running → (nat_lt 0 (count_to (target t) w.messages) ≡ false) × HasNoneIdle true (target_plan r t) s.memory s.durable
    none-idle t s here runs = target-parts true (target_plan r t) s (count_to (target t) w.messages) (target-quiet true r w quiet t s here) runs

pub quiet-skips-none : QuietSkipsNone
quiet-skips-none settling r w n c quiet here =
    let awake = (client-parts (client_plan r n) c (count_to (client n) w.messages) (client-quiet settling r w quiet n c here)).0 in
    grind (arith, nat_tests)

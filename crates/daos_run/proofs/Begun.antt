-- Clients and targets that have started are those of the world that a run begins with.
use Rattle.std.specs.Prelude.{ℕ, ◌≡◌, ◌≤◌, ◌+◌, ◌^◌, ◌/◌, true, false, List, length, map, slice_get, Option, Some}
use Rattle.std.specs.List.{list_all}
use Rattle.std.proofs.Common.{sym, ◌∙◌, ap, subst, arith}
use Rattle.std.proofs.lemmas.Bool.{and_parts}
use Rattle.client_core.specs.Clients.{ClientNow}
use Rattle.base_types.specs.declared.epoch.Epoch.{Epoch}
use Rattle.base_types.specs.Scripts.{IsInForm}
use Rattle.base_types.specs.declared.job.Job.{Job}
use Rattle.base_types.specs.declared.script.Command.{Command}
use Rattle.base_types.specs.declared.script.Command.TheVariants.{Snap}
use Rattle.base_types.specs.declared.script.Script.{Script}
use Rattle.base_types.specs.declared.snapshot.Snap as frozen
use Rattle.base_types.specs.Epochs.{restart_floor}
use Rattle.model_laws.specs.DecidedLaws.{all-from_has, has-all}
use Rattle.daos_model.specs.declared.durable.Durable.{Durable}
use Rattle.daos_model.specs.FormLaws.{length-map}
use Rattle.daos_model.specs.Opening.{Opening}
use Rattle.daos_model.specs.Sound.{Sound}
use Rattle.daos_run.specs.Opens.{AreFirst, IsNew}
use Rattle.script_traits.specs.Plain.{IsPlain, are_plain, is_plain}
use Rattle.run_targets.specs.Ends.{AllTell, BeginsSo, HasStarted, HaveStarted, first_world, from-map, given_by, same-lists, stores_of, first_tracker, rules_of}
use Rattle.run_targets.specs.Below.{TargetOf, state_of}
use Rattle.run_starts.specs.target_parts.Knowing.{IsHeard}
use Rattle.vos_store.specs.Calls.{State}
use Rattle.world_base.specs.ClientTurns.{at_first, plan_of}
use Rattle.world_base.specs.declared.client.ClientState.{ClientState}
use Rattle.run_starts.specs.Below.{AreRulesInForm}
use Rattle.world_base.specs.Events.{client_plan, commands_or_none}

-- ---- scripts

pub lists-plain : (s : Script) → IsPlain s → list_all are_plain s.clients ≡ true
unfolding is_plain
lists-plain s h = (and_parts _ (list_all are_plain s.clients) h).1

-- the rules of a run are in form
pub are-in_form : (s : Script) (j : Job) (o : Opening) → IsInForm j.targets s → 1 ≤ j.targets → j.targets ≤ 64 → 1 ≤ j.attempts → AreRulesInForm (rules_of (given_by s j o))
are-in_form s j o F some few least = record {
  form = subst (λ n. IsInForm n s) (sym F.read_for) F;
  some_target = let same : s.targets ≡ j.targets = F.read_for in omega (arith, same, some);
  few_targets = let same : s.targets ≡ j.targets = F.read_for in omega (arith, same, few);
  some_attempt = omega (arith, least);
}

-- ---- what targets keep

-- what is sound together is covered by leases
pub is-heard : (F : List Durable) (t : ℕ) (d : Durable) → Sound F → slice_get F t ≡ Some d → IsHeard d.lease d
is-heard F t d k at = record {
  versions = all-from_has (λ v. v.epoch.0 / 256 ≤ d.lease) d.versions (λ v i. within v.epoch.0 d.lease (has-all (λ u. u.epoch.0 ≤ restart_floor d.lease) d.versions v (k.targets t d at).covered.versions i));
  leased = omega arith;
}
  where
    within : (e lease : ℕ) → e ≤ restart_floor lease → e / 256 ≤ lease
    within e lease le = omega (arith, le)

-- ---- clients and targets

module _ {S C : Type 0} (durable : S → Option Durable) (state : S → State) (s : Script) (j : Job) (o : Opening) (tracker : Epoch) (held : List frozen.Snap) (cs : List ClientNow) (xs : List (TargetOf S C)) (F : IsInForm j.targets s)
    (K : AreFirst s held j.attempts tracker cs) (same : tracker ≡ first_tracker o) (many : length xs ≡ j.targets) where
  -- a target that has just opened, over a store that runs and that was opened seldom, where it tells that
  pub record IsReady (t : ℕ) (x : TargetOf S C) : Type 0 where
    pub new : IsNew durable j.targets j.epsilon t x
    pub running : (state x.store).stopped ≡ false
    pub seldom : (d : Durable) → durable x.store ≡ Some d → d.incarnation ≤ 2 ^ 63 + 1

  plans : (n : ℕ) (c : ClientNow) → slice_get cs n ≡ Some c → c.plan ≡ client_plan (rules_of (given_by s j o)) n
  plans n c at = let k = K.plans n c at in k.2 ∙ ap (λ l. plan_of s n j.attempts (commands_or_none l)) (sym k.1)

  -- what the clients know
  abbrev first_one : List Command → ClientState
  first_one list = at_first s held (first_tracker o)

  pub first-states : map state_of cs ≡ map first_one s.clients
  first-states = same-lists (map state_of cs) (map first_one s.clients)
      (length-map state_of cs ∙ K.many ∙ sym (length-map first_one s.clients))
      (λ n a b at to.
      let c = from-map state_of cs n a at in
      let e = from-map first_one s.clients n b to in
      c.is ∙ K.states n c.of_it c.at ∙ ap (at_first s held) same ∙ sym e.is)

  has-started : (t : ℕ) (x : TargetOf S C) → IsReady t x → HasStarted durable state (given_by s j o) t x
  has-started t x r = record {
    plan = r.new.plan ∙ ap (λ m. record { me = t; targets = m; epsilon = j.epsilon }) (sym F.read_for);
    opened = r.new.has_opened;
    running = r.running;
    leader = r.new.leads;
    waits = ap (λ m. m.parked) r.new.joins;
    makes = r.new.making;
    ticks = r.new.ticks;
    seldom = r.seldom;
  }

  -- they have started as those of a run of the script with this opening, where a run begins so as far as stores tell what they keep
  pub have-started : 1 ≤ j.targets → j.targets ≤ 64 → 1 ≤ j.attempts → ((t : ℕ) (x : TargetOf S C) → slice_get xs t ≡ Some x → IsReady t x)
      → (AllTell durable (stores_of xs) → BeginsSo (given_by s j o) (first_world durable state cs xs)) → HaveStarted durable state (given_by s j o) cs xs
  have-started some few least ready begins = record {
    form = are-in_form s j o F some few least;
    those = record { plans = plans; held = held; states = first-states };
    many = many ∙ sym F.read_for;
    each = λ t x at. has-started t x (ready t x at);
    so = begins;
  }

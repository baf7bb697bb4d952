-- Where the facts of attempts hold, no target decided an attempt that another one leads.
use Rattle.std.specs.Prelude.{◌≡◌, ◌==◌, Bool, true, false, Some, None, if◌then◌else◌, refl}
use Rattle.std.proofs.Common.{sym, ◌∙◌, ap, arith}
use Rattle.std.proofs.lemmas.Bool.Decides.{nat_tests}
use Rattle.base_types.specs.declared.entry.Entry.{Entry}
use Rattle.base_types.specs.declared.id.AttemptId.{AttemptId}
use Rattle.daos_model.specs.declared.durable.Durable.{Durable}
use Rattle.daos_model.specs.Durables.{entry_of}
use Rattle.model_laws.specs.Members.{has-from_contains}
use Rattle.world_base.specs.declared.target.TargetPlan.{TargetPlan}
use Rattle.world_base.specs.declared.world.World.{World}
use Rattle.world_base.specs.Events.{Rules, target_plan}
use Rattle.world_base.specs.Roles.{other_leader, other_leader_of}
use Rattle.world_commit.specs.attempts.Attempts.{entry_in, is_known_at, is_known_in}
use Rattle.world_commit.specs.attempts.History.{History}
use Rattle.world_commit.specs.attempts.Stored.{among-has}
use Rattle.world_commit.specs.fates.Facts.{Attempts}
use Rattle.world_determined.specs.Choices.{LeadDecided}

abbrev pub AttemptsLeadDecided : Type 0
AttemptsLeadDecided = (r : Rules) (h : History) (w : World) → Attempts r h w → LeadDecided r w

led-here : (p : TargetPlan) (d : Durable) (x : AttemptId) (e : Entry) → entry_of d x ≡ Some e → e.leader ≡ p.me → other_leader p x d ≡ None
unfolding other_leader
led-here p d x e found led = ap (other_leader_of p.me) found ∙ by (e.leader == p.me) (let same : (e.leader == p.me) ≡ true = grind (arith, nat_tests) in same)
  where
    by : (b : Bool) → b ≡ true → (if b then None else Some e.leader) ≡ None
    by true is = refl
    by false is = let no : ⊥ = cc in absurd no

pub attempts-lead_decided : AttemptsLeadDecided
attempts-lead_decided r h w A t s here x among =
    let known : is_known_at w t x ≡ true = ap (λ z. is_known_in z x) here ∙ among-has x s.memory.leader.decided (has-from_contains s.memory.leader.decided x among) in
    let held = ((A.on.each x).rows.unsettled t known).here in
    let its = (A.on.each x).entries.one t held.entry held.found in
    led-here (target_plan r t) s.durable x held.entry (sym (ap (λ z. entry_in z x) here) ∙ held.found) (its.leader ∙ sym held.leads)

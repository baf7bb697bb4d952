-- A group's answer is the last one, and what a client hears.
use Rattle.std.proofs.Common.{◌≡◌, ◌+◌, nat_lt, true, false, Option, None, Some, refl, sym, ◌∙◌, ap, subst, is_some, if◌then◌else◌}
use Rattle.base_types.specs.declared.answer.Answer.{Answer}
use Rattle.base_types.specs.declared.operation.Op.{Op}
use Rattle.base_messages.specs.declared.message.Message.{Message}
use Rattle.daos_model.specs.Accesses.{op_path}
use Rattle.world_base.specs.declared.client.ClientPlan.{ClientPlan}
use Rattle.world_base.specs.declared.client.ClientState.{ClientState}
use Rattle.world_base.specs.declared.client.Present.{Present}
use Rattle.world_base.specs.ClientTurns.{at_present, command_at, goes, group_count, group_told, heard, heard_at, hears_epochs, joined, told_at}
use Rattle.client_core.specs.Clients.{IsInPlace, has_number}

pub group_told_last :
    (p : ClientPlan) (c : ClientState) (a : Present) (op : Op) (b : Answer)
    → nat_lt (a.group + 1) (group_count (op_path op).obj (op_path op).dkey p.targets) ≡ false
    → told_at p c a op.cond a.stage (joined a.found b) ≡ group_told p c a op b
group_told_last p c a op b last =
    sym (ap (λ x. if x then goes (at_present (record a { group = a.group + 1; found = Some (joined a.found b) }) c) else told_at p c a op.cond a.stage (joined a.found b)) last)

heard_by : (p : ClientPlan) (c : ClientState) (m : Message) (q : Option Present) → c.present ≡ q → heard_at p (hears_epochs m c) m q ≡ heard p c m
unfolding heard
heard_by p c m q is = ap (λ x. heard_at p (hears_epochs m c) m x) (sym is)

-- a message is heard by a client that heard of its epochs
pub heard_on : (p : ClientPlan) (c s : ClientState) (m : Message) (q : Option Present) → s ≡ hears_epochs m c → s.present ≡ q → heard_at p s m q ≡ heard p c m
heard_on p c s m q same is = ap (λ x. heard_at p x m q) same ∙ heard_by p c m q (sym (ap (λ x. x.present) same) ∙ is)

-- its place is as before
pub place_heard : (p : ClientPlan) (c s : ClientState) (m : Message) → IsInPlace p c → s ≡ hears_epochs m c → IsInPlace p s
place_heard p c s m place same = subst (IsInPlace p) (sym same) (record { few = place.few; numbered = place.numbered })

-- behind its last command a client is at no attempt
pub heard_done : (p : ClientPlan) (c s : ClientState) (m : Message) → IsInPlace p s → s ≡ hears_epochs m c → command_at p s ≡ None → goes s ≡ heard p c m
heard_done p c s m place same none = by s.present refl
  where
    by : (q : Option Present) → s.present ≡ q → goes s ≡ heard p c m
    by None is = heard_on p c s m None same is
    by (Some a) is = let wrong : false ≡ true = sym (ap has_number none) ∙ place.numbered (ap is_some is) in absurd (cc)

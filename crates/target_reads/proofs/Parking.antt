-- What a target knows stays in order where a Fetch is parked, or its read is raised among the timestamps.
use Rattle.std.proofs.Common.{ℕ, ◌≡◌, inl, inr, refl, sym, ◌∙◌, ap, subst, true, List, [], ◌∷◌}
use Rattle.base_types.specs.declared.entry.Entry.{Entry}
use Rattle.base_types.specs.declared.epoch.Epoch.{Epoch}
use Rattle.base_types.specs.declared.id.AttemptId.{AttemptId}
use Rattle.base_types.specs.Operations.{read_path}
use Rattle.model_laws.specs.Members.{Has, has-cases}
use Rattle.base_messages.specs.declared.message.Message.{Message}
use Rattle.daos_model.specs.declared.durable.Durable.{Durable}
use Rattle.daos_model.specs.Durables.{is_enlisted}
use Rattle.dtx_base.specs.declared.member.Parked.{Parked}
use Rattle.dtx_base.specs.Joining.{MemberOf, parking}
use Rattle.world_base.specs.declared.request.FetchRequest.{FetchRequest}
use Rattle.world_base.specs.declared.target.TargetMemory.{TargetMemory}
use Rattle.world_base.specs.declared.target.TargetPlan.{TargetPlan}
use Rattle.world_base.specs.Reads.{fetch_at}
use Rattle.world_base.specs.Roles.{joins_on}
use Rattle.target_parts.specs.declared.knows.Knows.{Knows}
use Rattle.target_parts.specs.Knowing.{AreParkable, IsAskHere, IsOwn, IsParkable, IsReadAsked, LeadsWell}

-- as a member it is what it was
pub own-as_before : (t : TargetPlan) (old new : Knows) → new.hlc ≡ old.hlc → new.member ≡ old.member → IsOwn t old → IsOwn t new
own-as_before t old new clock member own = record {
  clock = ap (λ c. c.target) clock ∙ own.clock;
  member = ap (λ m. m.me) member ∙ own.member;
  parked = subst (λ m. AreParkable m.memory) (sym member) own.parked;
}

-- a Fetch waits too
pub own-parks : (t : TargetPlan) (old new : Knows) (ask : Message) (on : AttemptId) (leader : ℕ) → new.hlc ≡ old.hlc → new.member ≡ parking ask on leader old.member → IsParkable ask → IsOwn t old → IsOwn t new
own-parks t old new ask on leader clock member form own = record {
  clock = ap (λ c. c.target) clock ∙ own.clock;
  member = ap (λ m. m.me) member ∙ own.member;
  parked = subst (λ m. AreParkable m.memory) (sym member) (λ p i. elim (has-cases old.member.memory.parked (record { on = on; leader = leader; ask = ask } ∷ []) p i) [
    | inl among ↦ own.parked p among
    | inr new_one ↦ by p new_one
  ]);
}
  where
    by : (p : Parked) → Has p (record { on = on; leader = leader; ask = ask } ∷ []) → IsParkable p.ask
    by p (inl same) = subst (λ x. IsParkable x.ask) (sym same) form
    by p (inr none) = absurd none

pub leads-parks : (t : TargetPlan) (m : TargetMemory) (es : List Entry) (ask : Message) (on : AttemptId) (leader : ℕ) (s new : MemberOf) (d : Durable) → s.memory ≡ m.member → new ≡ parking ask on leader s → IsAskHere ask d
    → LeadsWell t m es d → LeadsWell t (joins_on new m) es d
leads-parks t m es ask on leader s new d same is here k = record {
  entries = k.entries;
  rows = k.rows;
  heard = k.heard;
  asks = subst (λ n. (p : Parked) → Has p n.memory.parked → IsAskHere p.ask d) (sym is) (λ p i. elim (has-cases s.memory.parked (record { on = on; leader = leader; ask = ask } ∷ []) p i) [
    | inl among ↦ k.asks p (subst (λ x. Has p x.parked) same among)
    | inr new_one ↦ by p new_one
  ]);
}
  where
    by : (p : Parked) → Has p (record { on = on; leader = leader; ask = ask } ∷ []) → IsAskHere p.ask d
    by p (inl same) = subst (λ x. IsAskHere x.ask d) (sym same) here
    by p (inr none) = absurd none

-- a Fetch that is to be tried again may wait, and what it reads is here
pub parkable-at : (q : FetchRequest) (e : Epoch) → IsReadAsked q.read q.ep q.snapshot → IsParkable (fetch_at q e)
parkable-at q e asked = (record { form = asked.form; known = λ is. refl }, refl)

pub here-at : (q : FetchRequest) (e : Epoch) (d : Durable) → is_enlisted d (read_path q.read).cont ≡ true → IsAskHere (fetch_at q e) d
here-at q e d here = here

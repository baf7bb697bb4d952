-- What a client asks to read is what its attempt has to ask of that target, and at a snapshot where it reads at one.
use Rattle.std.specs.Prelude.{ℕ, ◌≡◌, ◌⊎◌, ◌<◌, is_some, List, slice_get, Option, Some, None, refl}
use Rattle.std.proofs.Common.{inl, inr, sym, ◌∙◌, ap, subst}
use Rattle.base_types.specs.declared.id.ObjId.{ObjId}
use Rattle.base_types.specs.declared.operation.Op.{Op}
use Rattle.base_types.specs.declared.operation.Read.{Read}
use Rattle.base_types.specs.declared.path.Path.{Path}
use Rattle.base_types.specs.declared.script.Command.TheVariants as command
use Rattle.base_types.specs.Operations.{read_path}
use Rattle.base_types.specs.Placement.{ClassFits, groups}
use Rattle.base_types.specs.PlacementLaws.{group_of-within, groups-positive}
use Rattle.base_types.specs.Scripts.{IsInForm, IsOpInForm, IsReadInForm}
use Rattle.base_messages.specs.declared.message.Message.TheVariants as message
use Rattle.base_messages.specs.declared.message.Post.{Post}
use Rattle.base_types.specs.declared.epoch.Epoch.{Epoch}
use Rattle.daos_model.specs.Accesses.{asked_member}
use Rattle.daos_model.specs.Transactions.{attempt_ops}
use Rattle.model_laws.specs.Lists.{all-at}
use Rattle.world_base.specs.declared.client.ClientPlan.{ClientPlan}
use Rattle.world_base.specs.declared.client.ClientState.{ClientState}
use Rattle.world_base.specs.declared.client.Present.{Present}
use Rattle.world_base.specs.declared.request.FetchRequest.{FetchRequest}
use Rattle.world_base.specs.declared.world.World.{World}
use Rattle.world_base.specs.ClientTurns.{attempt_id, command_at, group_asked, group_count, member_asked, op_of, question}
use Rattle.world_base.specs.Events.{Rules, client_plan}
use Rattle.world_base.specs.Letters.{target}
use Rattle.world_base.specs.Requests.{fetch_message}
use Rattle.world_letters.specs.clients.Snapshots.{is_at_snapshot}
use Rattle.world_letters.specs.epochs.Epochs.{ClientsStand}
use Rattle.world_legal.specs.world_contents.gots.FormLaws.{fit-object, ops-form, read-declared}
use Rattle.world_legal.specs.world_contents.gots.HearGots.{question-path}
use Rattle.world_legal.specs.world_causes.handing.Groups.{ClientsAskWithin, IsWithin}
use Rattle.world_legal.specs.world_contents.reads.Given.{IsFetchRight}
use Rattle.world_letters.specs.talks.AskLaws.{asked-read}
use Rattle.world_letters.specs.talks.Asked.{ARead, ASnapshot, AnAggregation, Asked, AsksRead, ItsWrites, group_of_read}
use Rattle.world_legal.specs.world_causes.outcomes.TurnLaws.{attempt-ops-here}
use Rattle.world_legal.specs.world_contents.posts.ScriptForm.{read-in-form, question-form}

-- what a present attempt of a client that waits has asked of a target
pub record ReadIsAsked (r : Rules) (w : World) (t : ℕ) (f : FetchRequest) : Type 0 where
  pub n : ℕ
  pub c : ClientState
  pub a : Present
  pub here : slice_get w.clients n ≡ Some c
  pub present : c.present ≡ Some a
  pub k : Epoch
  pub q : Post
  pub asked : Asked (client_plan r n) k c a q
  pub says : q.message ≡ fetch_message f
  pub to : q.to ≡ target t

-- the group of a read is one of its object
group-within : (obj : ObjId) (path : Path) (targets n : ℕ) → path.obj ≡ Some obj → ClassFits obj.class targets → (n ≡ 0) ⊎ (n < group_count path.obj path.dkey targets)
    → group_asked path.obj path.dkey targets n < groups obj.class targets
group-within obj path targets n is fits k = by path.dkey refl
  where
    some : 0 < groups obj.class targets
    some = groups-positive obj.class targets fits

    by : (d : Option (List ℕ)) → path.dkey ≡ d → group_asked path.obj path.dkey targets n < groups obj.class targets
    by None none = rw (is, none) (elim k [
      | inl first ↦ subst (λ m. m < groups obj.class targets) (sym first) some
      | inr less ↦ subst (λ m. n < m) (ap (λ o. group_count o path.dkey targets) is ∙ ap (λ d. group_count (Some obj) d targets) none) less
    ])
    by (Some key) some' = rw (is, some') (group_of-within obj.class key targets fits)

-- the group that a client asks about is the first, or one of those of the read's path
group-found : (p : ClientPlan) (c : ClientState) (a : Present) (op : Op) (q : Read) → c.present ≡ Some a → IsWithin p c c.present → op_of (command_at p c) a.op ≡ Some op
    → question a.stage op ≡ Some q
    → (a.group ≡ 0) ⊎ (a.group < group_count (read_path q).obj (read_path q).dkey p.targets)
group-found p c a op q present within at asks = elim (subst (IsWithin p c) present within) [
  | inl first ↦ inl first
  | inr less ↦ inr (subst (λ z. a.group < group_count z.obj z.dkey p.targets) (sym (question-path a.stage op q asks)) (less op at))
]

-- the target that is asked
read-target : (p : ClientPlan) (k : Epoch) (c : ClientState) (a : Present) (q : Post) (f : FetchRequest) → Asked p k c a q → q.message ≡ fetch_message f
    → q.to ≡ target (member_asked (read_path f.read).obj c.command p.targets f.group)
read-target p k c a q f (ARead ops turns snapshot op r at is asked says) it =
    let same : message.Fetch (attempt_id p c a) a.op (group_of_read p a (read_path r)) a.epoch a.first k r (is_some snapshot) ≡ fetch_message f = sym (ap (λ x. x.message) says) ∙ it in
    let the_read : r ≡ f.read = cc (same) in
    let the_group : group_of_read p a (read_path r) ≡ f.group = cc (same) in
    ap (λ x. x.to) says ∙ ap (λ g. target (member_asked (read_path r).obj c.command p.targets g)) the_group
    ∙ ap (λ z. target (member_asked (read_path z).obj c.command p.targets f.group)) the_read
read-target p k c a q f (ItsWrites ops turns snapshot w ws at last all says) it = let no : ⊥ = cc (ap (λ x. x.message) says, it) in absurd no
read-target p k c a q f (ASnapshot name cont at says) it = let no : ⊥ = cc (ap (λ x. x.message) says, it) in absurd no
read-target p k c a q f (AnAggregation cont at says) it = let no : ⊥ = cc (ap (λ x. x.message) says, it) in absurd no

pub read-right : (r : Rules) (w : World) (t : ℕ) (f : FetchRequest) → IsInForm r.script.targets r.script → ClientsStand r w → ClientsAskWithin r w → ReadIsAsked r w t f
    → f.snapshot ≡ is_at_snapshot r f.attempt
    → IsFetchRight r t f.attempt f.op f.group f.read f.snapshot
read-right r w t f form stand within i at = record {
  at = at;
  form = read-in-form r.script.objs f.read form.declared.obj_units in_form;
  asked = λ e b. record { op = asks.o; at = (f.op, refl, ops-at); stage = i.a.stage; asks = asks.asked; obj = obj.0; of_object = obj.1; member = member };
  obj = obj.0;
  of_object = obj.1;
  fits = obj.2;
  within = group-in;
}
  where
    asks : AsksRead (client_plan r i.n) i.k i.c i.a f
    asks = asked-read (client_plan r i.n) i.k i.c i.a i.q f i.asked i.says

    -- the operations of the attempt of a client that is at this command
    ops-same : attempt_ops r.script f.attempt ≡ asks.ops
    ops-same =
        let s = stand i.n i.c i.here in ap (attempt_ops r.script) asks.attempt ∙ attempt-ops-here r i.n i.c i.a
        (command.Run asks.ops asks.turns asks.name) s.0 i.present s.1 asks.at

    ops-at : slice_get (attempt_ops r.script f.attempt) f.op ≡ Some asks.o
    ops-at = ap (λ ops. slice_get ops f.op) ops-same ∙ ap (slice_get asks.ops) asks.op ∙ asks.here

    op-form : IsOpInForm r.script.objs asks.o
    op-form = all-at (IsOpInForm r.script.objs) (attempt_ops r.script f.attempt) f.op asks.o (ops-form r.script.targets r.script f.attempt form) ops-at

    in_form : IsReadInForm r.script.objs f.read
    in_form = question-form r.script.objs i.a.stage asks.o f.read op-form asks.asked

    obj : (obj : ObjId) × ((read_path f.read).obj ≡ Some obj) × ClassFits obj.class r.script.targets
    obj = fit-object r.script.targets r.script.objs (read_path f.read) form.classes (read-declared r.script.objs f.read in_form)

    member : t ≡ asked_member obj.0 f.attempt.command r.script.targets f.group
    member =
        ap (λ z. z.number) (sym i.to ∙ read-target (client_plan r i.n) i.k i.c i.a i.q f i.asked i.says)
        ∙ ap (λ z. member_asked z i.c.command r.script.targets f.group) obj.1 ∙ ap (λ z. asked_member obj.0 z r.script.targets f.group) (sym (ap (λ x. x.command) asks.attempt))

    found : (i.a.group ≡ 0) ⊎ (i.a.group < group_count (read_path f.read).obj (read_path f.read).dkey r.script.targets)
    found = group-found (client_plan r i.n) i.c i.a asks.o f.read i.present (within i.n i.c i.here) (ap (λ z. op_of z i.a.op) asks.at ∙ asks.here) asks.asked

    group-in : f.group < groups obj.0.class r.script.targets
    group-in = subst (λ g. g < groups obj.0.class r.script.targets) (sym asks.group) (group-within obj.0 (read_path f.read) r.script.targets i.a.group obj.1 obj.2 found)

-- What goes to a running target it can hear, where targets may stop.
use Rattle.std.specs.Prelude.{ℕ, ◌≡◌, ◌<◌, ◌⊎◌, List, [], ◌∷◌, Contains, Any, map, All, Bool, IfSome, None, Option, Some, false, length, true, ◌^◌}
use Rattle.std.proofs.Common.{inl, inr, ◌∙◌, subst}
use Rattle.base_types.specs.declared.operation.MinorWrite.{MinorWrite}
use Rattle.base_types.specs.declared.path.Path.{Path}
use Rattle.base_types.specs.declared.script.ContDecl.{ContDecl}
use Rattle.base_types.specs.declared.script.ObjDecl.{ObjDecl}
use Rattle.base_types.specs.Operations.{write_path, read_path}
use Rattle.base_types.specs.Placement.{writes_leader, ClassFits}
use Rattle.base_types.specs.Scripts.{IsInForm as IsScriptInForm, IsOfObject}
use Rattle.model_laws.specs.FamilyLaws.{leader-within}
use Rattle.model_laws.specs.Members.{Has, contains-from_has, has-from_contains, has-map}
use Rattle.base_messages.specs.declared.message.Message.{Message}
use Rattle.daos_model.specs.declared.durable.Durable.{Durable}
use Rattle.world_base.specs.Events.{Rules, target_plan}
use Rattle.world_causes.specs.world_contents.posts.Forms.{HasFormAfterStops, IsInForm, HasForm}
use Rattle.base_types.specs.declared.id.ContId.{ContId}
use Rattle.base_types.specs.declared.script.Script.{Script}
use Rattle.daos_model.specs.Forms.{AreWritesInForm, is_read_in_form}
use Rattle.base_types.specs.declared.id.AttemptId.{AttemptId}
use Rattle.base_types.specs.declared.entry.Entry.{Entry}
use Rattle.base_types.specs.declared.epoch.Epoch.{Epoch}
use Rattle.base_types.specs.declared.operation.Read.{Read}
use Rattle.daos_model.specs.Durables.{entry_of, is_enlisted}
use Rattle.world_base.specs.Commits.{own_writes}
use Rattle.base_messages.specs.declared.message.Message.TheVariants as message

-- a read that a target can serve: in form, in a container that it knows, and not at a snapshot
pub record CanServe (d : Durable) (read : Read) (snapshot : Bool) : Type 0 where
  pub now : snapshot ≡ false
  pub form : is_read_in_form read ≡ true
  pub enlisted : is_enlisted d (read_path read).cont ≡ true

-- writes that can be stored for an attempt: they are in form, in containers that the target knows, the attempt has no entry
-- here, and no version has its epoch
pub record CanStore (d : Durable) (x : AttemptId) (ep : Option Epoch) (ws : List MinorWrite) : Type 0 where
  pub form : AreWritesInForm ws
  pub enlisted : All (λ w. is_enlisted d (write_path w.write).cont ≡ true) ws
  pub absent : entry_of d x ≡ None
  pub new : (e : Epoch) → ep ≡ Some e → All (λ v. v.epoch.0 ≡ e.0 → ⊥) d.versions

-- writes to commit can be stored; they are of objects that fit the targets, and some of them belong to a group of this one
pub record CanCommit (r : Rules) (t : ℕ) (d : Durable) (x : AttemptId) (ep : Option Epoch) (ws : List MinorWrite) : Type 0 where
  pub store : CanStore d x ep ws
  pub some : 0 < length (own_writes (target_plan r t) ws)
  pub fit : All (λ w. IfSome (write_path w.write).obj (λ o. ClassFits o.class r.script.targets)) ws

-- writes to prepare can be stored, with an entry that says that the attempt is neither committed nor confirmed, and names
-- targets that are there
pub record CanPrepare (r : Rules) (d : Durable) (e : Entry) (ws : List MinorWrite) : Type 0 where
  pub store : CanStore d e.attempt (Some e.epoch) ws
  pub some : 0 < length ws
  pub undecided : e.committed ≡ false
  pub unconfirmed : e.confirmed ≡ 0
  pub leader : e.leader < r.script.targets
  pub members : e.members < 2 ^ r.script.targets

-- a message that a target can hear
abbrev pub CanHear : Rules → ℕ → Durable → Message → Type 0
CanHear r t d (message.Fetch x op group ep first tracker read snapshot) = CanServe d read snapshot
CanHear r t d (message.Commit x ep first tracker ws) = CanCommit r t d x ep ws
CanHear r t d (message.Prepare e first ws inc) = CanPrepare r d e ws
CanHear r t d (message.Ack x inc refusal) = Unit {0}
CanHear r t d (message.Mark inc marks) = Unit {0}
CanHear r t d (message.Marked inc ids) = Unit {0}
CanHear r t d (message.Query x ask) = Unit {0}
CanHear r t d (message.Verdict x ask inc v) = Unit {0}
CanHear r t d m = ⊥

-- then it has its form
abbrev pub HeardHasForm : Type 0
HeardHasForm = (r : Rules) (t : ℕ) (d : Durable) (m : Message) → CanHear r t d m → HasForm (target_plan r t) m

pub heard-has_form : HeardHasForm
heard-has_form r t d (message.Fetch x op group ep first tracker read snapshot) k = record { form = k.form; known = λ at. let now = k.now in let no : ⊥ = cc in absurd no }
heard-has_form r t d (message.Commit x ep first tracker ws) k = record { form = k.store.form; some = k.some; fit = k.fit }
heard-has_form r t d (message.Prepare e first ws inc) k = record { undecided = k.undecided; unconfirmed = k.unconfirmed; leader = k.leader; members = k.members; some = k.some; form = k.store.form }
heard-has_form r t d (message.Ack x inc refusal) k = k
heard-has_form r t d (message.Mark inc marks) k = k
heard-has_form r t d (message.Marked inc ids) k = k
heard-has_form r t d (message.Query x ask) k = k
heard-has_form r t d (message.Verdict x ask inc v) k = k
heard-has_form r t d m k = absurd k

-- the containers that a script declares
abbrev pub declared_conts : Script → List ContId
declared_conts s = map (λ d. d.id) s.conts

-- ---- the statements

-- A target can hear a message as where nothing stops; or it is one that comes of stops, of which nothing is asked but its form.
abbrev pub CanHearOn : Rules → ℕ → Durable → Message → Type 0
CanHearOn r t d m = CanHear r t d m ⊎ HasFormAfterStops m

-- then it has the form that a target asks for
abbrev pub HeardIsInForm : Type 0
HeardIsInForm = (r : Rules) (t : ℕ) (d : Durable) (m : Message) → CanHearOn r t d m → IsInForm (target_plan r t) m

-- ---- the form

pub heard-in_form : HeardIsInForm
heard-in_form r t d m (inl k) = inl (heard-has_form r t d m k)
heard-in_form r t d m (inr k) = inr (inl k)

-- ---- containers of declared objects

-- the container of a declared object is declared
pub cont-declared : (r : Rules) (p : Path) → IsScriptInForm r.script.targets r.script → IsOfObject r.script.objs p → Contains (declared_conts r.script) p.cont
cont-declared r p form of_object = subst (Contains (declared_conts r.script)) same (contains-from_has (declared_conts r.script) cont.1.id (has-map (λ (c : ContDecl). c.id) r.script.conts cont.1 here))
  where
    cont : Any (λ c. c.id ≡ of_object.1.cont) r.script.conts
    cont = subst (λ (d : ObjDecl). Any (λ c. c.id ≡ d.cont) r.script.conts) of_object.3 (form.declared.obj_conts of_object.0 of_object.1 of_object.2)

    here : Has cont.1 r.script.conts
    here = has-from_contains r.script.conts cont.1 (cont.0, cont.2, cont.3)

    same : cont.1.id ≡ p.cont
    same = cont.4 ∙ of_object.4.1

-- the leader of an attempt is there
pub leads-within : (ws : List MinorWrite) (targets : ℕ) → 0 < targets → writes_leader ws targets < targets
unfolding writes_leader
leads-within [] targets some = some
leads-within (w ∷ ws) targets some = leader-within (write_path w.write) targets some

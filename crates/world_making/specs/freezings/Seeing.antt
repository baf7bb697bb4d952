-- Who reads at a snapshot reads at one that is frozen at every target.
use Rattle.std.specs.Prelude.{ℕ, ◌≡◌, ◌≤◌, ◌<◌, Bool, true, false, List, [], ◌∷◌, find, slice_get, Option, Some, None, refl, if◌then◌else◌}
use Rattle.std.proofs.Common.{sym, ◌∙◌, ap, subst, inl, inr}
use Rattle.base_types.specs.declared.epoch.Epoch.{Epoch}
use Rattle.base_types.specs.declared.id.AttemptId.{AttemptId}
use Rattle.base_types.specs.declared.id.ContId.{ContId}
use Rattle.base_types.specs.declared.operation.Read.{Read}
use Rattle.base_types.specs.declared.report.Line.TheVariants as line
use Rattle.base_types.specs.declared.script.OldDecl.{OldDecl}
use Rattle.base_types.specs.PathLaws.{same_key-Decides}
use Rattle.base_messages.specs.declared.message.Message.{Message}
use Rattle.base_messages.specs.declared.message.Message.TheVariants as message
use Rattle.model_laws.specs.Members.{Has, contains-from_has}
use Rattle.daos_model.specs.declared.cell.CellValue.{CellValue}
use Rattle.daos_model.specs.Attempts.{snapshot_of}
use Rattle.daos_model.specs.Durables.{is_frozen}
use Rattle.daos_model.specs.Opening.{Opening, kept_map, top}
use Rattle.daos_model.specs.ReadsLegal.{is_named}
use Rattle.dtx_base.specs.declared.member.Parked.{Parked}
use Rattle.world_base.specs.declared.client.KnownSnap.{KnownSnap}
use Rattle.world_base.specs.declared.letter.Letter.{Letter}
use Rattle.world_base.specs.declared.target.TargetState.{TargetState}
use Rattle.world_base.specs.declared.world.World.{World}
use Rattle.world_base.specs.ClientTurns.{epoch_of_known, is_known_as, known_epoch}
use Rattle.world_base.specs.Events.{Rules}
use Rattle.world_letters.specs.clients.Snapshots.{is_at_snapshot}
use Rattle.world_letters.specs.epochs.Epochs.{Epochs, GoesWith, IsEpochOf, IsOwn, IsReadOf, IsSeen, ReadsNamed}
use Rattle.world_making.specs.freezings.Freezings.{Freezings, IsCreatedFirst, IsKnownSo, KeepsFrozen, IsOwnMade, IsFromBefore}
use Rattle.world_letters.specs.snapshots.Makings.{ComesOf, IsSnapOf, Makings}

-- A name stands for a snapshot of a container, at this epoch: for one of before the run, that the opening keeps; or for one that an attempt of
-- this client made in it.
pub data NamesSnapshot (r : Rules) (o : Opening) (n : ℕ) (name : List ℕ) (c : ContId) (e : Epoch) : Type 0 where
  AnOld : (d : OldDecl) (m : List CellValue) → find (is_named name) r.script.olds ≡ Some d → d.cont ≡ c → d.epoch ≡ e → e.0 ≤ top o → kept_map c e.0 o.stand.snaps ≡ Some m → NamesSnapshot r o n name c e
  ANew : (y : AttemptId) → y.client ≡ n → IsSnapOf r y name c → top o < e.0 → NamesSnapshot r o n name c e

-- an attempt reads at a snapshot by its name, which is frozen at every target
pub record SeesFrozen (r : Rules) (o : Opening) (w : World) (x : AttemptId) (e : Epoch) : Type 0 where
  pub name : List ℕ
  pub reads : snapshot_of r.script x ≡ Some name
  pub cont : ContId
  pub names : NamesSnapshot r o x.client name cont e
  pub frozen : (t : ℕ) → KeepsFrozen w t cont e

-- ---- the statements

-- so does each attempt that reads at a snapshot, at its epoch
abbrev pub ReadersSeeFrozen : Type 0
ReadersSeeFrozen = (r : Rules) (o : Opening) (w : World) → Freezings r o w → Makings r w → Epochs r (top o) w → (x : AttemptId) (e : Epoch) → is_at_snapshot r x ≡ true → IsEpochOf r w x e → SeesFrozen r o w x e

-- so what is asked at a snapshot asks for an epoch that is frozen at every target
abbrev pub FetchesAskFrozen : Type 0
FetchesAskFrozen =
    (r : Rules) (o : Opening) (w : World) → Freezings r o w → Makings r w → Epochs r (top o) w → (l : Letter) (x : AttemptId) (op group : ℕ) (e : Epoch) (first : Option Epoch) (tracker : Epoch) (q : Read) → Has l w.messages
    → l.message ≡ message.Fetch x op group (Some e) first tracker q true → SeesFrozen r o w x e

-- and so does what waits at a target
abbrev pub WaitingSeeFrozen : Type 0
WaitingSeeFrozen =
    (r : Rules) (o : Opening) (w : World) → Freezings r o w → Makings r w → Epochs r (top o) w → (t : ℕ) (s : TargetState) (p : Parked) (x : AttemptId) (op group : ℕ) (e : Epoch) (first : Option Epoch) (tracker : Epoch) (q : Read)
    → slice_get w.targets t ≡ Some s → Has p s.memory.member.parked → p.ask ≡ message.Fetch x op group (Some e) first tracker q true → SeesFrozen r o w x e

-- ---- what a client knows by a name

pub found-known : (name : List ℕ) (known : List KnownSnap) (e : Epoch) → known_epoch known name ≡ Some e → (k : KnownSnap) × Has k known × (k.name ≡ name) × (k.epoch ≡ e)
found-known name [] e is = let no : ⊥ = cc in absurd no
found-known name (k ∷ known) e is = by (is_known_as name k) refl is (found-known name known e)
  where
    by : (b : Bool) → is_known_as name k ≡ b → epoch_of_known (if b then Some k else find (is_known_as name) known) ≡ Some e
        → (known_epoch known name ≡ Some e → (z : KnownSnap) × Has z known × (z.name ≡ name) × (z.epoch ≡ e)) → (z : KnownSnap) × Has z (k ∷ known) × (z.name ≡ name) × (z.epoch ≡ e)
    by true its at rest = let same : k.epoch ≡ e = cc in (k, inl refl, sym ((same_key-Decides name k.name).0 its), same)
    by false its at rest = let z = rest at in (z.0, inr z.1, z.2, z.3)

-- a target that is there has a first one before it
first-there : {T : Type 0} (xs : List T) (t : ℕ) (x : T) → slice_get xs 0 ≡ None → slice_get xs t ≡ Some x → ⊥
first-there [] t x none at = let no : ⊥ = cc in no
first-there (y ∷ ys) t x none at = let no : ⊥ = cc in no

module _ (r : Rules) (o : Opening) (w : World) (k : Freezings r o w) (makings : Makings r w) (epochs : Epochs r (top o) w) where
  -- what is created at target 0 is frozen at every target
  frozen-all : (c : ContId) (s : Epoch) → IsCreatedFirst w c s → (t : ℕ) → KeepsFrozen w t c s
  frozen-all c s created t z at = by (slice_get w.targets 0) refl
    where
      by : (y : Option TargetState) → slice_get w.targets 0 ≡ y → is_frozen z.durable c s ≡ true
      by None none = absurd (first-there w.targets t z none at)
      by (Some y) here = k.everywhere y c s here (created y here) t z at

  -- what a client knows is named so, and frozen
  known-sees : (x : AttemptId) (e : Epoch) (name : List ℕ) (kn : KnownSnap) → snapshot_of r.script x ≡ Some name → kn.name ≡ name → kn.epoch ≡ e → IsKnownSo r o w x.client kn → SeesFrozen r o w x e
  known-sees x e name kn reads named at (IsFromBefore d m found same low kept created) = record {
    name = name;
    reads = reads;
    cont = d.cont;
    names = AnOld d m (ap (λ y. find (is_named y) r.script.olds) (sym named) ∙ found) refl is (subst (λ z. z.0 ≤ top o) is low) (subst (λ z. kept_map d.cont z.0 o.stand.snaps ≡ Some m) is kept);
    frozen = λ t. subst (KeepsFrozen w t d.cont) is (frozen-all d.cont d.epoch created t);
  }
    where
      is : d.epoch ≡ e
      is = same ∙ at
  known-sees x e name kn reads named at (IsOwnMade a own told-of m told) = record {
    name = name;
    reads = reads;
    cont = m.cont;
    names = ANew a.id own (subst (λ z. IsSnapOf r a.id z m.cont) named m.snaps.command) high;
    frozen = λ t. subst (KeepsFrozen w t m.cont) at (frozen-all m.cont kn.epoch (k.lines kn.name m.cont kn.epoch told) t);
  }
    where
      comes : ComesOf r w.issued (line.Snapshot kn.name m.cont kn.epoch)
      comes = makings.lines (line.Snapshot kn.name m.cont kn.epoch) told

      high : top o < e.0
      high = subst (λ z. top o < z.0) at (epochs.above comes.0 kn.epoch (contains-from_has w.issued (comes.0, kn.epoch) comes.1))

  named-sees : (x : AttemptId) (e : Epoch) → ReadsNamed r w.clients x e → SeesFrozen r o w x e
  named-sees x e g = let z = found-known g.name g.c.known e g.known in known-sees x e g.name z.0 g.reads z.2 z.3 (k.known x.client g.c z.0 g.here z.1)

  sees : (x : AttemptId) (e : Epoch) → is_at_snapshot r x ≡ true → IsEpochOf r w x e → SeesFrozen r o w x e
  sees x e at (IsOwn issued) = let off = epochs.own x e issued in let no : ⊥ = cc (off, at) in absurd no
  sees x e at (IsSeen g) = named-sees x e g

  -- a message that asks at a snapshot
  asks-sees : (m : Message) (x : AttemptId) (op group : ℕ) (e : Epoch) (first : Option Epoch) (tracker : Epoch) (q : Read)
      → m ≡ message.Fetch x op group (Some e) first tracker q true → IsReadOf r m → IsEpochOf r w x e → SeesFrozen r o w x e
  asks-sees m x op group e first tracker q says reads of = sees x e (sym (subst (IsReadOf r) says reads).0) of

pub readers-see : ReadersSeeFrozen
readers-see r o w k makings epochs x e at of = sees r o w k makings epochs x e at of

pub fetches-ask : FetchesAskFrozen
fetches-ask r o w k makings epochs l x op group e first tracker q i says =
    asks-sees r o w k makings epochs l.message x op group e first tracker q says (epochs.reads l (contains-from_has w.messages l i))
    (epochs.borne l x e (contains-from_has w.messages l i) (subst (λ m. GoesWith m x e) (sym says) (refl, refl)))

pub waiting-see : WaitingSeeFrozen
waiting-see r o w k makings epochs t s p x op group e first tracker q here i says =
    let both = epochs.parked t s p here (contains-from_has s.memory.member.parked p i) in
    let same : (both.0.x ≡ x) × (both.0.e ≡ e) = (let g = subst (λ m. GoesWith m both.0.x both.0.e) says both.0.bears in (sym g.0, sym g.1)) in
    asks-sees r o w k makings epochs p.ask x op group e first tracker q says both.1 (subst (λ y. IsEpochOf r w y e) same.0 (subst (IsEpochOf r w both.0.x) same.1 both.0.known))

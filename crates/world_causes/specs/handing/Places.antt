-- In a script in form places are right, and what reads at a snapshot writes nothing.
use Rattle.std.specs.Prelude.{ℕ, ◌≡◌, ◌<◌, ◌+◌, ◌++◌, true, List, [], ◌∷◌, map, filter, slice_get, Contains, Option, Some, None, refl}
use Rattle.std.proofs.Common.{sym, ◌∙◌, ap, subst, inl, inr}
use Rattle.base_types.specs.declared.id.AttemptId.{AttemptId}
use Rattle.base_types.specs.declared.id.ObjId.{ObjId}
use Rattle.base_types.specs.declared.operation.Act.{Act}
use Rattle.base_types.specs.declared.operation.Act.TheVariants as act
use Rattle.base_types.specs.declared.operation.MinorWrite.{MinorWrite}
use Rattle.base_types.specs.declared.operation.Op.{Op}
use Rattle.base_types.specs.declared.operation.Read.{Read}
use Rattle.base_types.specs.declared.operation.Read.TheVariants as read
use Rattle.base_types.specs.declared.operation.Write.{Write}
use Rattle.base_types.specs.declared.operation.Write.TheVariants as write
use Rattle.base_types.specs.declared.path.Path.{Path}
use Rattle.base_types.specs.declared.script.Command.{Command}
use Rattle.base_types.specs.declared.script.Command.TheVariants as command
use Rattle.base_types.specs.declared.script.ObjDecl.{ObjDecl}
use Rattle.base_types.specs.declared.script.Script.{Script}
use Rattle.base_types.specs.Operations.{act_path, read_path, write_path}
use Rattle.base_types.specs.Placement.{ClassFits, path_leader, path_members}
use Rattle.base_types.specs.PlacementLaws.{groups-positive, path_leader-member}
use Rattle.base_types.specs.Scripts.{AreCommands, IsActInForm, IsCommand, IsInForm, IsOfObject, IsOpInForm, IsPlainReadIn, IsReadInForm, IsWriteInForm, SnapName, is_fetch, is_numbered, old_snap, snap_of}
use Rattle.daos_model.specs.Accesses.{minor_write, minor_writes, op_path}
use Rattle.daos_model.specs.Attempts.{snapshot_or_none}
use Rattle.daos_model.specs.Transactions.{attempt_ops, command_of, numbered_at, ops_or_none}
use Rattle.model_laws.specs.DecidedLaws.{has-all}
use Rattle.model_laws.specs.Lists.{all-at, any-all, has-at}
use Rattle.model_laws.specs.Members.{Has, has-cases, has-from_contains, has-from_filter}
use Rattle.world_base.specs.Events.{Rules, commands_or_none}
use Rattle.world_causes.specs.handing.Dates.{SnapshotsAreRead}
use Rattle.world_causes.specs.handing.Targets.{HasGroups, PlacesAreRight}

-- ---- what is accessed

read-object : (objs : List ObjDecl) (r : Read) → IsReadInForm objs r → IsOfObject objs (read_path r)
read-object objs (read.Single p) form = form.declared
read-object objs (read.Extent p low len) form = form.0.declared
read-object objs (read.Dkeys p) form = form.declared
read-object objs (read.Akeys p) form = form.declared
read-object objs (read.Exists p) form = form.declared

write-object : (objs : List ObjDecl) (w : Write) → IsWriteInForm objs w → IsOfObject objs (write_path w)
write-object objs (write.Single p bytes) form = form.0.declared
write-object objs (write.Extent p low bytes) form = form.0.declared
write-object objs (write.PunchObject p) form = form.declared
write-object objs (write.PunchDkey p) form = form.declared
write-object objs (write.PunchAkey p) form = form.declared

act-object : (objs : List ObjDecl) (a : Act) → IsActInForm objs a → IsOfObject objs (act_path a)
act-object objs (act.Fetch r) form = read-object objs r form
act-object objs (act.Change w) form = write-object objs w form

-- the operation that makes a write
write-op : (n : ℕ) (ops : List Op) (m : MinorWrite) → Has m (minor_writes n ops) → (op : Op) × Has op ops × (op.act ≡ act.Change m.write)
unfolding minor_writes
write-op n [] m i = absurd i
write-op n (op ∷ ops) m i = elim (has-cases (minor_write n op.act) (minor_writes (n + 1) ops) m i) [
  | inl j ↦ (op, inl refl, of-act op.act j)
  | inr j ↦ let z = write-op (n + 1) ops m j in (z.0, inr z.1, z.2)
]
  where
    of-act : (a : Act) → Has m (minor_write n a) → a ≡ act.Change m.write
    of-act (act.Fetch r) j = absurd j
    of-act (act.Change w) (inl same) = ap (λ z. act.Change z.write) (sym same)
    of-act (act.Change w) (inr none) = absurd none

nothing-written : (n : ℕ) (m : MinorWrite) → Has m (minor_writes n []) → ⊥
unfolding minor_writes
nothing-written n m i = i

reads-nothing : (n : ℕ) (ops : List Op) → ((op : Op) → Has op ops → is_fetch op.act ≡ true) → minor_writes n ops ≡ []
unfolding minor_writes
reads-nothing n [] all = refl
reads-nothing n (op ∷ ops) all = ap (λ ws. ws ++ minor_writes (n + 1) ops) (of-act op.act (all op (inl refl))) ∙ reads-nothing (n + 1) ops (λ o i. all o (inr i))
  where
    of-act : (a : Act) → is_fetch a ≡ true → minor_write n a ≡ []
    of-act (act.Fetch r) is = refl
    of-act (act.Change w) is = let no : ⊥ = cc in absurd no

-- ---- commands

module _ (s : Script) (targets : ℕ) (form : IsInForm targets s) where
  -- each command of a list is one, of which some snapshots are known
  command-among : (known : List SnapName) (list : List Command) (d : Command) → AreCommands s.conts s.objs known list → Has d list → (more : List SnapName) × IsCommand s.conts s.objs more d
  command-among known [] d are i = absurd i
  command-among known (c ∷ cs) d are (inl same) = (known, subst (IsCommand s.conts s.objs known) (sym same) are.0)
  command-among known (c ∷ cs) d are (inr i) = command-among (known ++ snap_of c) cs d are.1 i

  client-command : (n : ℕ) (list : List Command) (d : Command) → slice_get s.clients n ≡ Some list → Has d list → (more : List SnapName) × IsCommand s.conts s.objs more d
  client-command n list d at i = command-among (map old_snap s.olds) list d (all-at (λ l. AreCommands s.conts s.objs (map old_snap s.olds) l) s.clients n list form.commands at) i

  attempt-command : (x : AttemptId) (d : Command) → command_of s x ≡ Some d → (more : List SnapName) × IsCommand s.conts s.objs more d
  unfolding command_of
  attempt-command x d is = by (slice_get s.clients x.client) refl is
    where
      by : (o : Option (List Command)) → slice_get s.clients x.client ≡ o → numbered_at x.command o ≡ Some d → (more : List SnapName) × IsCommand s.conts s.objs more d
      by None at bad = let no : ⊥ = cc in absurd no
      by (Some list) at found = client-command x.client list d at (has-from_filter is_numbered list d (has-at (filter is_numbered list) x.command d found)).0

  -- an object that is named has a class that fits
  object-fits : (p : Path) → IsOfObject s.objs p → (o : ObjId) × (p.obj ≡ Some o) × ClassFits o.class targets
  object-fits p i = (i.1.id, sym i.4.0, any-all (λ d. ClassFits d.id.class targets) (λ d. (Some d.id ≡ p.obj) × (d.cont ≡ p.cont)) s.objs form.classes i)

  op-fits : (more : List SnapName) (ops : List Op) (turns : List ℕ) (name : Option (List ℕ)) (op : Op) → IsCommand s.conts s.objs more (command.Run ops turns name) → Has op ops → (o : ObjId) × ((op_path op).obj ≡ Some o) × ClassFits o.class targets
  op-fits more ops turns name op is i = object-fits (op_path op) (act-object s.objs op.act (has-all (IsOpInForm s.objs) ops op is.0.in_form i).act)

-- ---- the rules

pub places-right : (r : Rules) (targets : ℕ) → 0 < targets → IsInForm targets r.script → PlacesAreRight r
places-right r targets some form = record {
  some = subst (λ n. 0 < n) (sym form.read_for) some;
  led = led;
  grouped = λ n place ops turns name i op at found. grouped n place ops turns name i op (slice_get r.script.clients n) refl at found;
}
  where
    led : (x : AttemptId) (m : MinorWrite) → Contains (minor_writes 0 (attempt_ops r.script x)) m → Contains (path_members (write_path m.write) r.script.targets) (path_leader (write_path m.write) r.script.targets)
    led x m i = by (command_of r.script x) refl (has-from_contains (minor_writes 0 (attempt_ops r.script x)) m i)
      where
        fits : (more : List SnapName) (ops : List Op) (turns : List ℕ) (name : Option (List ℕ)) → IsCommand r.script.conts r.script.objs more (command.Run ops turns name) → Has m (minor_writes 0 ops)
            → Contains (path_members (write_path m.write) r.script.targets) (path_leader (write_path m.write) r.script.targets)
        fits more ops turns name is j =
            let z = write-op 0 ops m j in
            let o = op-fits r.script targets form more ops turns name z.0 is z.1 in
            path_leader-member (write_path m.write) o.0 r.script.targets (ap (λ a. (act_path a).obj) (sym z.2) ∙ o.1) (subst (ClassFits o.0.class) (sym form.read_for) o.2)

        by : (o : Option Command) → command_of r.script x ≡ o → Has m (minor_writes 0 (ops_or_none o)) → Contains (path_members (write_path m.write) r.script.targets) (path_leader (write_path m.write) r.script.targets)
        by None is j = absurd (nothing-written 0 m j)
        by (Some (command.Run ops turns name)) is j = let k = attempt-command r.script targets form x (command.Run ops turns name) is in fits k.0 ops turns name k.1 j
        by (Some (command.Snap name cont)) is j = absurd (nothing-written 0 m j)
        by (Some (command.Aggregate cont)) is j = absurd (nothing-written 0 m j)
        by (Some (command.Tell n)) is j = absurd (nothing-written 0 m j)
        by (Some (command.Skip turns)) is j = absurd (nothing-written 0 m j)

    grouped : (n place : ℕ) (ops : List Op) (turns : List ℕ) (name : Option (List ℕ)) (i : ℕ) (op : Op) (o : Option (List Command)) → slice_get r.script.clients n ≡ o → slice_get (commands_or_none o) place ≡ Some (command.Run ops turns name) → slice_get ops i ≡ Some op
        → HasGroups (op_path op).obj r.script.targets
    grouped n place ops turns name i op None here at found = let no : ⊥ = cc in absurd no
    grouped n place ops turns name i op (Some list) here at found =
        let k = client-command r.script targets form n list (command.Run ops turns name) here (has-at list place (command.Run ops turns name) at) in
        let o = op-fits r.script targets form k.0 ops turns name op k.1 (has-at ops i op found) in
        subst (λ z. HasGroups z r.script.targets) (sym o.1) (subst (λ t. HasGroups (Some o.0) t) (sym form.read_for) (groups-positive o.0.class targets o.2))

pub snapshots-read : (r : Rules) (targets : ℕ) → IsInForm targets r.script → SnapshotsAreRead r
snapshots-read r targets form x name is = by (command_of r.script x) refl is
  where
    by : (o : Option Command) → command_of r.script x ≡ o → snapshot_or_none o ≡ Some name → minor_writes 0 (ops_or_none o) ≡ []
    by None at bad = let no : ⊥ = cc in absurd no
    by (Some (command.Run ops turns None)) at bad = let no : ⊥ = cc in absurd no
    by (Some (command.Run ops turns (Some called))) at same =
        let k = attempt-command r.script targets form x (command.Run ops turns (Some called)) at in
        reads-nothing 0 ops (λ op i. (has-all (IsPlainReadIn k.1.1.0) ops op k.1.1.2 i).fetch)
    by (Some (command.Snap called cont)) at bad = let no : ⊥ = cc in absurd no
    by (Some (command.Aggregate cont)) at bad = let no : ⊥ = cc in absurd no
    by (Some (command.Tell n)) at bad = let no : ⊥ = cc in absurd no
    by (Some (command.Skip turns)) at bad = let no : ⊥ = cc in absurd no

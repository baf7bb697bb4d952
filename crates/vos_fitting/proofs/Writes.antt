-- All fits where a write came, became done, or went.
use Rattle.std.proofs.Common.{◌≡◌, ℕ, true, List, [], Option, Some, None, refl, sym, subst}
use Rattle.std.specs.Prelude.{All, is_some}
use Rattle.std.specs.List.{list_any}
use Rattle.std.proofs.lemmas.List.Elements.{All-nil, All-same}
use Rattle.base_types.specs.declared.id.ObjId.{ObjId}
use Rattle.base_types.specs.Operations.{write_path}
use Rattle.base_types.specs.Paths.{unit_of}
use Rattle.daos_model.specs.Forms.{is_unit}
use Rattle.vos_entries.specs.Entries.{Entries, Stored as StoredEntry}
use Rattle.vos_image.specs.Content.{Content}
use Rattle.vos_image.specs.Fits.{AllFit, EntryFits, ObjectFits}
use Rattle.vos_image.specs.Nodes.{Node, is_of, nodes_in}
use Rattle.vos_levels.specs.Levels.{things}
use Rattle.vos_image.specs.vos_path.Objects.{Objects, objects_versions}
use Rattle.vos_settle.specs.Versions.{object_in, versions_after}
use Rattle.vos_values.specs.declared.keys.Layout.{Layout}
use Rattle.vos_values.specs.declared.keys.Layout.TheVariants.{Two}
use Rattle.vos_values.specs.Keys.{is_size}
use Rattle.vos_fitting.specs.Fitting.{FitsAfterWrite, FitsWithWrite, ListNothing}
use Rattle.vos_fitting.proofs.Alls.{on_both}
use Rattle.vos_fitting.proofs.Logs.{logs_fit, objects_changed, objects_noted, objects_whole}
use Rattle.vos_fitting.proofs.Versions.{VersionFits, after_write, versions_fit, with_write}

-- entries that list nothing fit beside any nodes
other_nodes : (c : Content) (ns ms : List Node) (s : StoredEntry) → s.nodes ≡ [] → EntryFits c ns s → EntryFits c ms s
other_nodes c ns ms s none h = record {
  leader = h.leader;
  members = h.members;
  confirmed = h.confirmed;
  epoch = h.epoch;
  are_nodes = All-same (λ b. list_any (is_of s.entry.attempt s.entry.epoch b) ms ≡ true) s.nodes [] none (All-nil (λ b. list_any (is_of s.entry.attempt s.entry.epoch b) ms ≡ true));
  once = h.once;
}

pub beside : (c : Content) (g h : Objects) (e : Entries) → ListNothing e → AllFit c g e → All (ObjectFits c) (things h) → AllFit c h e
beside c g h e nothing fits objects = record {
  objects = objects;
  entries = on_both (λ s. s.nodes ≡ []) (EntryFits c (nodes_in g)) (EntryFits c (nodes_in h)) (λ s none f. other_nodes c (nodes_in g) (nodes_in h) s none f) (things e) nothing fits.entries;
}

size_two : (l : Layout) (unit : ℕ) → l ≡ Two → is_unit unit ≡ true → is_size l unit ≡ true
size_two l unit two h = subst (λ (k : Layout). is_size k unit ≡ true) (sym two) (rw h refl)

pub fits_with_write : FitsWithWrite
fits_with_write c s w o m n at g e may here turn nothing fits =
    let unit : is_unit o.obj.unit ≡ true = subst (λ (x : Option ObjId). is_unit (unit_of x) ≡ true) here.obj may.size in
    let logs = objects_noted c s w may.epoch o (write_path w).dkey (write_path w).akey g turn.now (size_two c.layout o.obj.unit may.layout unit) turn.nodes (logs_fit c g fits.objects) in
    let all = with_write c s w (objects_versions g) (objects_versions turn.now) may turn.shown_is (versions_fit c g fits.objects) in
    beside c g turn.now e nothing fits (objects_whole c turn.now logs all)

none_is_some : (x : Option ObjId) → is_some x ≡ true → (o : ObjId) × (x ≡ Some o)
none_is_some None h = absurd (cc)
none_is_some (Some o) h = (o, refl)

pub fits_after_write : FitsAfterWrite
fits_after_write c t p m n at g e some turn nothing fits =
    let at_object = none_is_some p.obj some in
    let logs = objects_changed c t (object_in p at_object.0) p g turn.now (turn.nodes at_object.0 at_object.1) (logs_fit c g fits.objects) in
    let all = All-same (VersionFits c) (objects_versions turn.now) (versions_after t p (objects_versions g)) turn.versions (after_write c t p (objects_versions g) (versions_fit c g fits.objects)) in
    beside c g turn.now e nothing fits (objects_whole c turn.now logs all)

-- What the layout asks of logs, and of the names of objects: the rest of what it asks of objects.
use Rattle.std.proofs.Common.{◌≡◌, ℕ, ◌≤◌, Bool, true, false, List, ◌++◌, Option, Some, None, sym, subst}
use Rattle.std.specs.Prelude.{All}
use Rattle.std.specs.List.{find}
use Rattle.std.proofs.lemmas.List.Elements.{All-nil, All-same}
use Rattle.base_types.specs.declared.operation.Write.{Write}
use Rattle.base_types.specs.declared.path.Path.{Path}
use Rattle.vos_image.specs.vos_extent.Extents.{extents}
use Rattle.vos_ilog.specs.declared.ilog.LogEntry.{LogEntry}
use Rattle.vos_ilog.specs.Logs.{done_entry, is_at, moment_of}
use Rattle.vos_image.specs.Content.{Content}
use Rattle.vos_image.specs.Fits.{AkeyFits, DkeyFits, LogFits, ObjectFits}
use Rattle.vos_levels.specs.Changes.{keeps}
use Rattle.vos_levels.specs.Levels.{Hung, is_level, things}
use Rattle.vos_image.specs.vos_path.declared.stamp.Stamp.{Stamp}
use Rattle.vos_image.specs.vos_path.Nodes.{AkeysNoted, DkeyNoted, DkeysNoted, ObjectNoted, ObjectsNoted, ValuesNoted, noted}
use Rattle.vos_image.specs.vos_path.Objects.{Akey, Below, Dkey, Object, Objects, Values, akey_level, akey_path, akey_versions, dkey_level, dkey_path, dkey_versions, extent_version, held_below, held_values, no_below, no_values, object_level, object_path, object_versions, objects_versions, punches, single_version}
use Rattle.base_types.specs.declared.operation.Write.TheVariants.{PunchAkey, PunchDkey, PunchObject}
use Rattle.vos_image.specs.vos_path.Writes.{IsNoted, IsNotedIf, is_update}
use Rattle.vos_settle.specs.declared.task.Task.{Task}
use Rattle.vos_settle.specs.declared.task.Which.{Which}
use Rattle.vos_settle.specs.declared.task.Which.TheVariants.{Creation, Punch}
use Rattle.vos_settle.specs.Nodes.{AkeyTurn, AkeysTurn, BranchTurn, DkeyTurn, DkeysTurn, ObjectTurn, OneObjectTurn, is_akey, is_dkey, is_object}
use Rattle.vos_settle.specs.Tasks.{is_taken, log_after, noted_after, punched_after}
use Rattle.vos_settle.specs.Tasks as tasks
use Rattle.vos_image.specs.vos_single.Singles.{versions}
use Rattle.vos_values.specs.declared.keys.ObjectKey.{ObjectKey}
use Rattle.vos_values.specs.Keys.{is_size, name_key, object_key}
use Rattle.std.specs.Prelude.{map, if◌then◌else◌}
use Rattle.vos_fitting.proofs.Alls.{all_apart, back, front, of_changed, on_all, on_both, one_changed, one_put, with_put}
use Rattle.vos_fitting.proofs.Versions.{VersionFits, extents_of, singles_of}

module _ (c : Content) where
  abbrev pub ValuesLogs : Values → Type 0
  ValuesLogs a = All (LogFits c) (things a.0)

  abbrev pub AkeyLogs : Akey → Type 0
  AkeyLogs a = ValuesLogs a.holds

  pub record BelowDkeyLogs (b : Below Akey) : Type 0 where
    pub log : All (LogFits c) (things b.0)
    pub akeys : All AkeyLogs (things b.1)

  abbrev pub DkeyLogs : Dkey → Type 0
  DkeyLogs k = BelowDkeyLogs k.holds

  pub record BelowObjectLogs (b : Below Dkey) : Type 0 where
    pub log : All (LogFits c) (things b.0)
    pub dkeys : All DkeyLogs (things b.1)

  pub record ObjectLogs (o : Object) : Type 0 where
    pub size : is_size c.layout o.name.obj.unit ≡ true
    pub below : BelowObjectLogs o.holds

  -- ---- what fits has such logs, and what has, and versions that fit, fits

  dkey_logs : (unit : ℕ) (k : Dkey) → DkeyFits c unit k → DkeyLogs k
  dkey_logs unit k h = record { log = h.log; akeys = on_all (AkeyFits c unit) AkeyLogs (λ a f. f.log) (things k.holds.1) h.akeys }

  object_logs : (o : Object) → ObjectFits c o → ObjectLogs o
  object_logs o h = record { size = h.size; below = record { log = h.log; dkeys = on_all (DkeyFits c o.name.obj.unit) DkeyLogs (dkey_logs o.name.obj.unit) (things o.holds.1) h.dkeys } }

  pub logs_fit : (g : Objects) → All (ObjectFits c) (things g) → All ObjectLogs (things g)
  logs_fit g all = on_all (ObjectFits c) ObjectLogs object_logs (things g) all

  akey_whole : (o : ObjectKey) (d : List ℕ) (a : Akey) → AkeyLogs a → All (VersionFits c) (akey_versions o d a) → AkeyFits c o.obj.unit a
  akey_whole o d a logs all =
      let p = akey_path o d a.name in
      let rest = back (VersionFits c) (punches (PunchAkey p) a.holds.0) (map (single_version p) (versions a.holds.1.0) ++ map (extent_version p) (extents a.holds.1.1)) all in
      record {
        log = logs;
        singles = singles_of c p (things a.holds.1.0) (front (VersionFits c) (map (single_version p) (versions a.holds.1.0)) (map (extent_version p) (extents a.holds.1.1)) rest);
        extents = extents_of c p (things a.holds.1.1) (back (VersionFits c) (map (single_version p) (versions a.holds.1.0)) (map (extent_version p) (extents a.holds.1.1)) rest);
      }

  dkey_whole : (o : ObjectKey) (k : Dkey) → DkeyLogs k → All (VersionFits c) (dkey_versions o k) → DkeyFits c o.obj.unit k
  dkey_whole o k logs all =
      let each = all_apart (VersionFits c) (akey_versions o k.name) (things k.holds.1) (back (VersionFits c) (punches (PunchDkey (dkey_path o k.name)) k.holds.0) _ all) in
      record { log = logs.log; akeys = on_both AkeyLogs (λ a. All (VersionFits c) (akey_versions o k.name a)) (AkeyFits c o.obj.unit) (akey_whole o k.name) (things k.holds.1) logs.akeys each }

  object_whole : (o : Object) → ObjectLogs o → All (VersionFits c) (object_versions o) → ObjectFits c o
  object_whole o logs all =
      let each = all_apart (VersionFits c) (dkey_versions o.name) (things o.holds.1) (back (VersionFits c) (punches (PunchObject (object_path o.name)) o.holds.0) _ all) in
      record { size = logs.size; log = logs.below.log; dkeys = on_both DkeyLogs (λ k. All (VersionFits c) (dkey_versions o.name k)) (DkeyFits c o.name.obj.unit) (dkey_whole o.name) (things o.holds.1) logs.below.dkeys each }

  pub objects_whole : (g : Objects) → All ObjectLogs (things g) → All (VersionFits c) (objects_versions g) → All (ObjectFits c) (things g)
  objects_whole g logs all = on_both ObjectLogs (λ o. All (VersionFits c) (object_versions o)) (ObjectFits c) object_whole (things g) logs (all_apart (VersionFits c) object_versions (things g) all)

  -- ---- a write came

  module _ (s : Stamp) (w : Write) (low : s.at.epoch.0 ≤ c.covered) where
    log_noted : (xs ys : List LogEntry) → IsNoted (noted s w) xs ys → All (LogFits c) xs → All (LogFits c) ys
    log_noted xs ys h all = with_put (LogFits c) (find (is_at (moment_of (noted s w))) xs) (noted s w) xs ys h.put low all

    log_noted_if : (b : Bool) (xs ys : List LogEntry) → IsNotedIf b (noted s w) xs ys → All (LogFits c) xs → All (LogFits c) ys
    log_noted_if true xs ys h all = log_noted xs ys h all
    log_noted_if false xs ys h all = All-same (LogFits c) ys xs h all

    values_noted : (a b : Values) → ValuesNoted s w a b → ValuesLogs a → ValuesLogs b
    values_noted a b h all = log_noted (things a.0) (things b.0) h all

    akeys_noted : (name : List ℕ) (g h : Hung Akey) → AkeysNoted s w name g h → All AkeyLogs (things g) → All AkeyLogs (things h)
    akeys_noted name g h noted all =
        one_put AkeyLogs ValuesLogs (is_level akey_level (name_key name)) held_values no_values (λ a. a.name ≡ name) (ValuesNoted s w) (things g) (things h) noted
        (All-nil (LogFits c)) (λ a l. l) values_noted (λ a n l. l) all

    dkey_noted : (akey : Option (List ℕ)) (a b : Below Akey) → DkeyNoted s w akey a b → BelowDkeyLogs a → BelowDkeyLogs b
    dkey_noted None a b h l = record { log = log_noted (things a.0) (things b.0) h.log l.log; akeys = subst (λ (g : Hung Akey). All AkeyLogs (things g)) (sym h.tree) l.akeys }
    dkey_noted (Some name) a b h l = record { log = log_noted_if (is_update w) (things a.0) (things b.0) h.log l.log; akeys = akeys_noted name a.1 b.1 h.tree l.akeys }

    dkeys_noted : (name : List ℕ) (akey : Option (List ℕ)) (g h : Hung Dkey) → DkeysNoted s w name akey g h → All DkeyLogs (things g) → All DkeyLogs (things h)
    dkeys_noted name akey g h noted all =
        one_put DkeyLogs BelowDkeyLogs (is_level dkey_level (name_key name)) held_below no_below (λ k. k.name ≡ name) (DkeyNoted s w akey) (things g) (things h) noted
        (record { log = All-nil (LogFits c); akeys = All-nil AkeyLogs }) (λ k l. l) (dkey_noted akey) (λ k n l. l) all

    object_noted : (dkey akey : Option (List ℕ)) (a b : Below Dkey) → ObjectNoted s w dkey akey a b → BelowObjectLogs a → BelowObjectLogs b
    object_noted None akey a b h l = record { log = log_noted (things a.0) (things b.0) h.log l.log; dkeys = subst (λ (g : Hung Dkey). All DkeyLogs (things g)) (sym h.tree) l.dkeys }
    object_noted (Some name) akey a b h l = record { log = log_noted_if (is_update w) (things a.0) (things b.0) h.log l.log; dkeys = dkeys_noted name akey a.1 b.1 h.tree l.dkeys }

    pub objects_noted : (name : ObjectKey) (dkey akey : Option (List ℕ)) (g h : Objects) → is_size c.layout name.obj.unit ≡ true → ObjectsNoted s w name dkey akey g h → All ObjectLogs (things g) → All ObjectLogs (things h)
    objects_noted name dkey akey g h size noted all =
        one_put ObjectLogs BelowObjectLogs (is_level object_level (object_key name)) held_below no_below (λ o. o.name ≡ name) (ObjectNoted s w dkey akey) (things g) (things h) noted
        (record { log = All-nil (LogFits c); dkeys = All-nil DkeyLogs }) (λ o l. l.below) (object_noted dkey akey)
        (λ o n l. record { size = subst (λ (k : ObjectKey). is_size c.layout k.obj.unit ≡ true) (sym n) size; below = l }) all

  -- ---- one became done, or went

  module _ (t : Task) where
    log_changed : (which : Which) (xs ys : List LogEntry) → ys ≡ log_after which t.change t.at xs → All (LogFits c) xs → All (LogFits c) ys
    log_changed which xs ys is all = All-same (LogFits c) ys (log_after which t.change t.at xs) is (of_changed (LogFits c) (keeps t.change) (is_taken which t.change t.at) done_entry (λ e h. h) xs all)

    noted_by : (b : Bool) (which : Which) (xs ys : List LogEntry) → ys ≡ (if b then log_after which t.change t.at xs else xs) → All (LogFits c) xs → All (LogFits c) ys
    noted_by true which xs ys is all = log_changed which xs ys is all
    noted_by false which xs ys is all = All-same (LogFits c) ys xs is all

    noted_changed : (xs ys : List LogEntry) → ys ≡ noted_after t xs → All (LogFits c) xs → All (LogFits c) ys
    noted_changed xs ys is all = noted_by (tasks.is_update t.kind) (Creation t.by) xs ys is all

    akey_changed : (a b : Akey) → AkeyTurn t a b → AkeyLogs a → AkeyLogs b
    akey_changed a b h all = log_changed (tasks.which_of t.kind t.by) (things a.holds.0) (things b.holds.0) h.holds.log all

    akeys_changed : (name : List ℕ) (g h : Hung Akey) → AkeysTurn t name g h → All AkeyLogs (things g) → All AkeyLogs (things h)
    akeys_changed name g h turn all = one_changed AkeyLogs (is_akey name) (AkeyTurn t) (things g) (things h) turn akey_changed all

    dkey_changed : (akey : Option (List ℕ)) (a b : Below Akey) → DkeyTurn t akey a b → BelowDkeyLogs a → BelowDkeyLogs b
    dkey_changed None a b h l = record { log = log_changed Punch (things a.0) (things b.0) h.log l.log; akeys = subst (λ (g : Hung Akey). All AkeyLogs (things g)) (sym h.tree) l.akeys }
    dkey_changed (Some name) a b h l = record { log = noted_changed (things a.0) (things b.0) h.log l.log; akeys = akeys_changed name a.1 b.1 h.tree l.akeys }

    dkeys_changed : (name : List ℕ) (akey : Option (List ℕ)) (g h : Hung Dkey) → DkeysTurn t name akey g h → All DkeyLogs (things g) → All DkeyLogs (things h)
    dkeys_changed name akey g h turn all = one_changed DkeyLogs (is_dkey name) (BranchTurn (DkeyTurn t akey)) (things g) (things h) turn (λ k l b. dkey_changed akey k.holds l.holds b.holds) all

    object_changed : (dkey akey : Option (List ℕ)) (a b : Below Dkey) → ObjectTurn t dkey akey a b → BelowObjectLogs a → BelowObjectLogs b
    object_changed None akey a b h l = record { log = log_changed Punch (things a.0) (things b.0) h.log l.log; dkeys = subst (λ (g : Hung Dkey). All DkeyLogs (things g)) (sym h.tree) l.dkeys }
    object_changed (Some name) akey a b h l = record { log = noted_changed (things a.0) (things b.0) h.log l.log; dkeys = dkeys_changed name akey a.1 b.1 h.tree l.dkeys }

    pub objects_changed : (name : ObjectKey) (p : Path) (g h : Objects) → OneObjectTurn t name p g h → All ObjectLogs (things g) → All ObjectLogs (things h)
    objects_changed name p g h turn all =
        one_changed ObjectLogs (is_object name) (BranchTurn (ObjectTurn t p.dkey p.akey)) (things g) (things h) turn
        (λ o q b l. record { size = subst (λ (k : ObjectKey). is_size c.layout k.obj.unit ≡ true) (sym b.name) l.size; below = object_changed p.dkey p.akey o.holds q.holds b.holds l.below }) all

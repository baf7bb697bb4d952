-- An index of the punches of objects has at each path on the way the moments of the punches in its log, so that the last
-- that covers an akey is that of the three logs.
use Rattle.std.proofs.Common.{◌≡◌, ℕ, ◌&&◌, ◌||◌, Bool, true, false, List, [], ◌∷◌, ◌++◌, Option, Some, None, map, refl, sym, ap, ◌∙◌, arith}
use Rattle.std.specs.Prelude.{filter, if◌then◌else◌, is_some}
use Rattle.std.specs.List.{list_any}
use Rattle.std.specs.Option.{option_map}
use Rattle.std.proofs.lemmas.Bool.Decides.{nat_tests}
use Rattle.base_types.specs.Operations.{write_path}
use Rattle.base_types.specs.PathLaws.{same_path-Decides}
use Rattle.base_types.specs.Paths.{same_path}
use Rattle.base_types.specs.declared.epoch.Epoch.{Epoch}
use Rattle.base_types.specs.declared.operation.Write.{Write}
use Rattle.base_types.specs.declared.operation.Write.TheVariants.{PunchAkey, PunchDkey, PunchObject}
use Rattle.base_types.specs.declared.path.Path.{Path}
use Rattle.daos_model.specs.BoolLaws.{and_left, and_right}
use Rattle.daos_model.specs.Durables.{version_key}
use Rattle.daos_model.specs.Prunes.{is_punch as is_punch_write}
use Rattle.daos_model.specs.Versions.{version_path}
use Rattle.daos_model.specs.declared.durable.Version.{Version}
use Rattle.pmem_pages.specs.Blocks.{Blocks}
use Rattle.pmem_pages.specs.Owners.{Holds}
use Rattle.pmem_pages.specs.Shape.{entries}
use Rattle.vos_values.specs.declared.keys.Layout.TheVariants.{Two}
use Rattle.vos_values.specs.declared.keys.Moment.{Moment}
use Rattle.vos_values.specs.declared.keys.ObjectKey.{ObjectKey}
use Rattle.vos_values.specs.Keys.{IsName, IsObjectKey, name_key, object_key}
use Rattle.vos_levels.specs.Levels.{find_last, hung, is_level, or_else, things}
use Rattle.vos_levels.specs.Moments.{AllLater, Rise, is_earlier, same_moment}
use Rattle.vos_levels.proofs.Moments.{things_rise}
use Rattle.vos_ilog.specs.declared.ilog.LogEntry.{LogEntry}
use Rattle.vos_ilog.specs.Logs.{Log, is_punch_below, log_level, log_owner, moment_of}
use Rattle.vos_single.specs.Singles.{versions}
use Rattle.vos_extent.specs.Extents.{extents}
use Rattle.vos_path.specs.Objects.{Akey, Below, Dkey, Object, Objects, Values, akey_level, akey_path, akey_versions, akeys_versions, below_dkey_versions, below_object_versions, dkey_level, dkey_path, dkey_versions, dkeys_versions, extent_version, is_punch, object_level, object_path, object_versions, objects_owner, objects_versions, punch_version, punches, single_version, values_versions}
use Rattle.vos_path.proofs.Written.{holds_first, holds_log, holds_second}
use Rattle.vos_newest.specs.Newest.{later_of, newest}
use Rattle.vos_punches.specs.Moments.{AreInOrder, has_moment, is_below, itself, last_below, later_moment}
use Rattle.vos_punches.specs.Punches.{ArePunchesOf, PunchesAt, covering, is_punch_of}
use Rattle.vos_punches.proofs.Order.{same_moments}
use Rattle.vos_reads.specs.Ways.{IsSettled, below_akey, below_dkey, below_object, last_punch, punched_at, start_of}
use Rattle.vos_reads.proofs.Covered.{holds0, holds1, holds2, listed0, listed1, listed2}
use Rattle.vos_reads.proofs.Quiet.{all_together, any_false, dkey_paths, level_own, newest_one, object_paths, values_paths}
use Rattle.vos_reads.proofs.Rising.{rise_filter}

clash : {X : Type 0} (b : Bool) → b ≡ true → b ≡ false → X
clash true h k = absurd (let n : ⊥ = cc in n)
clash false h k = absurd (let n : ⊥ = cc in n)

-- ---- one passes where there is a newest that does

any_newest : (t : Version → Bool) (vs : List Version) → list_any t vs ≡ is_some (newest version_key t vs)
any_newest t [] = refl
any_newest t (v ∷ vs) = ap (λ b. t v || b) (any_newest t vs) ∙ by (t v) (newest version_key t vs)
  where
    one : (b : Bool) (x y : Version) → true ≡ is_some (if b then Some x else Some y)
    one true x y = refl
    one false x y = refl

    by : (b : Bool) (y : Option Version) → (b || is_some y) ≡ is_some (later_of version_key (if b then Some v else None) y)
    by false y = refl
    by true None = refl
    by true (Some y) = one _ v y

pub any_append : (t : Version → Bool) (xs ys : List Version) → list_any t (xs ++ ys) ≡ (list_any t xs || list_any t ys)
any_append t [] ys = refl
any_append t (x ∷ xs) ys = ap (λ b. t x || b) (any_append t xs ys) ∙ assoc (t x) (list_any t xs) (list_any t ys)
  where
    assoc : (a b c : Bool) → (a || (b || c)) ≡ ((a || b) || c)
    assoc true b c = refl
    assoc false b c = refl

or_none : (s t : Bool) → t ≡ false → (s || t) ≡ s
or_none true t h = refl
or_none false t h = h

none_or : (s t : Bool) → s ≡ false → (s || t) ≡ t
none_or true t h = absurd (let n : ⊥ = cc in n)
none_or false t h = refl

first_part : (t : Version → Bool) (xs ys : List Version) → list_any t ys ≡ false → list_any t (xs ++ ys) ≡ list_any t xs
first_part t xs ys h = any_append t xs ys ∙ or_none (list_any t xs) (list_any t ys) h

second_part : (t : Version → Bool) (xs ys : List Version) → list_any t xs ≡ false → list_any t (xs ++ ys) ≡ list_any t ys
second_part t xs ys h = any_append t xs ys ∙ none_or (list_any t xs) (list_any t ys) h

pub any_map_false : {A : Type 0} (t : Version → Bool) (f : A → Version) (xs : List A) → ((a : A) → t (f a) ≡ false) → list_any t (map f xs) ≡ false
any_map_false t f [] h = refl
any_map_false t f (x ∷ xs) h = ap (λ b. b || list_any t (map f xs)) (h x) ∙ any_map_false t f xs h

-- ---- a punch of a path

is_of_path : (p : Path) (m : Moment) (v : Version) → is_punch_of p m v ≡ true → version_path v ≡ p
is_of_path p m v h = (same_path-Decides (version_path v) p).0 (and_left (same_path (version_path v) p) (same_moment (record { epoch = v.epoch; minor = v.minor }) m) (and_right (is_punch_write v.write) (same_path (version_path v) p && same_moment (record { epoch = v.epoch; minor = v.minor }) m) h))

pub no_punch : (p : Path) (m : Moment) (v : Version) → is_punch_write v.write ≡ false → is_punch_of p m v ≡ false
no_punch p m v h = ap (λ (b : Bool). b && (same_path (version_path v) p && same_moment (record { epoch = v.epoch; minor = v.minor }) m)) h

elsewhere : (p q : Path) (m : Moment) (w : Write) (g : Log) → write_path w ≡ q → (q ≡ p → ⊥) → list_any (is_punch_of p m) (punches w g) ≡ false
elsewhere p q m w g e n = any_map_false (is_punch_of p m) (punch_version w) (filter is_punch (things g)) (λ x. by x (is_punch_of p m (punch_version w x)) refl)
  where
    by : (x : LogEntry) (b : Bool) → is_punch_of p m (punch_version w x) ≡ b → b ≡ false
    by x true h = absurd (n (sym e ∙ is_of_path p m (punch_version w x) h))
    by x false h = refl

-- ---- a log

punched_is : (e : Epoch) (xs : List LogEntry) → find_last (is_below e) (map moment_of (filter is_punch xs)) ≡ option_map moment_of (find_last (is_punch_below (start_of e)) xs)
punched_is e [] = refl
punched_is e (x ∷ xs) = by x.punch (punched_is e xs)
  where
    under : (m : Moment) → is_below e m ≡ is_earlier m (start_of e)
    under m = grind (arith, nat_tests)

    step : (y : Option LogEntry) (b c : Bool) → b ≡ c → or_else (option_map moment_of y) (if b then Some (moment_of x) else None) ≡ option_map moment_of (or_else y (if c then Some x else None))
    step (Some y) b c h = refl
    step None true true h = refl
    step None false false h = refl
    step None true false h = absurd (let n : ⊥ = cc in n)
    step None false true h = absurd (let n : ⊥ = cc in n)

    same : (y : Option LogEntry) → y ≡ or_else y None
    same None = refl
    same (Some y) = refl

    by : (b : Bool) → find_last (is_below e) (map moment_of (filter is_punch xs)) ≡ option_map moment_of (find_last (is_punch_below (start_of e)) xs)
        → find_last (is_below e) (map moment_of (if b then x ∷ filter is_punch xs else filter is_punch xs))
        ≡ option_map moment_of (or_else (find_last (is_punch_below (start_of e)) xs) (if b && is_earlier (moment_of x) (start_of e) then Some x else None))
    by true r =
        ap (λ z. or_else z (if is_below e (moment_of x) then Some (moment_of x) else None)) r
        ∙ step (find_last (is_punch_below (start_of e)) xs) (is_below e (moment_of x)) (is_earlier (moment_of x) (start_of e)) (under (moment_of x))
    by false r = r ∙ ap (option_map moment_of) (same (find_last (is_punch_below (start_of e)) xs))

later_map : (m : Moment) (xs : List LogEntry) → AllLater moment_of m xs → AllLater itself m (map moment_of xs)
later_map m [] h = tt
later_map m (x ∷ xs) h = (h.0, later_map m xs h.1)

rise_map : (xs : List LogEntry) → Rise moment_of xs → AreInOrder (map moment_of xs)
rise_map [] h = tt
rise_map (x ∷ xs) h = (later_map (moment_of x) xs h.0, rise_map xs h.1)

log_has : (w : Write) → is_punch_write w ≡ true → (m : Moment) (xs : List LogEntry) → has_moment m (map moment_of xs) ≡ list_any (is_punch_of (write_path w) m) (map (punch_version w) xs)
log_has w k m [] = refl
log_has w k m (x ∷ xs) =
    ap (λ b. same_moment (moment_of x) m || b) (log_has w k m xs)
    ∙ ap (λ b. b || list_any (is_punch_of (write_path w) m) (map (punch_version w) xs)) (both (is_punch_write w) (same_path (write_path w) (write_path w)) k ((same_path-Decides (write_path w) (write_path w)).1 refl))
  where
    both : (s t : Bool) → s ≡ true → t ≡ true → same_moment (moment_of x) m ≡ (s && (t && same_moment (moment_of x) m))
    both true true h l = refl
    both true false h l = absurd (let n : ⊥ = cc in n)
    both false t h l = absurd (let n : ⊥ = cc in n)

-- what stands at the path of a log, where its punches alone are those of the path
at_log : (w : Write) (m : Blocks) (g : Log) (vs : List Version) (f : PunchesAt) → is_punch_write w ≡ true → Holds log_owner m g → ArePunchesOf vs f
    → ((n : Moment) → list_any (is_punch_of (write_path w) n) vs ≡ list_any (is_punch_of (write_path w) n) (punches w g))
    → (e : Epoch) → last_below e (f (write_path w)) ≡ punched_at e g
at_log w m g vs f k held are alone e =
    let rise : Rise moment_of (things g) = things_rise log_level moment_of (λ v good. good.moment) (λ v. refl) (entries g.0) g.1 held.here.1.leads held.here.1.rises in
    ap (last_below e)
    (same_moments (f (write_path w)) (map moment_of (filter is_punch (things g))) (are.order (write_path w)) (rise_map (filter is_punch (things g)) (rise_filter moment_of is_punch (things g) rise))
    (λ n. are.exact (write_path w) n ∙ (alone n ∙ sym (log_has w k n (filter is_punch (things g))))))
    ∙ punched_is e (things g)

some_inside : {A : Type 0} (x y : A) → Some x ≡ Some y → x ≡ y
some_inside x y h = cc

none_some : {A : Type 0} (x : A) → Some x ≡ None → ⊥
none_some x h = cc

key_is : (n o : ObjectKey) → n.cont ≡ o.cont → Some n.obj ≡ Some o.obj → n ≡ o
key_is n o c b = let obj = some_inside n.obj o.obj b in λ i. record { cont = c i; obj = obj i }

module _ (m : Blocks) (g : Objects) (o : ObjectKey) (d a : List ℕ) (held : Holds objects_owner m g) (object : IsObjectKey Two o) (dkey : IsName d) (akey : IsName a) (e : Epoch) (settled : IsSettled (akey_path o d a) e g) where
  abbrev b0 : Below Dkey
  b0 = below_object o g

  abbrev b1 : Below Akey
  b1 = below_dkey d b0.1

  abbrev b2 : Values
  b2 = below_akey a b1.1

  -- ---- the punches of a path on the way stand below the object, the dkey and the akey that it names

  any_object : (p : Path) (n : Moment) → p.cont ≡ o.cont → p.obj ≡ Some o.obj → list_any (is_punch_of p n) (objects_versions g) ≡ list_any (is_punch_of p n) (below_object_versions o b0)
  any_object p n pc po =
      any_newest (is_punch_of p n) (objects_versions g)
      ∙ (ap is_some (newest_one object_level (object_key o) (is_punch_of p n) object_versions quiet m g held ∙ ap (newest version_key (is_punch_of p n)) (listed0 m g o d a held object dkey akey e settled None))
      ∙ sym (any_newest (is_punch_of p n) (below_object_versions o b0)))
    where
      named : (x : ObjectKey) (q : Path) → q.cont ≡ x.cont → q.obj ≡ Some x.obj → q ≡ p → x ≡ o
      named x q qc qo is = key_is x o (sym qc ∙ (ap (λ z. z.cont) is ∙ pc)) (sym qo ∙ (ap (λ z. z.obj) is ∙ po))

      quiet : (x : Object) → object_level.Good x → is_level object_level (object_key o) x ≡ false → list_any (is_punch_of p n) (object_versions x) ≡ false
      quiet x ok no_level =
          any_false (is_punch_of p n) (λ v. version_path v ≡ p → x.name ≡ o) (object_versions x)
          (object_paths (λ q. q ≡ p → x.name ≡ o) x.name x.holds (named x.name (object_path x.name) refl refl) (λ y. named x.name (dkey_path x.name y) refl refl) (λ y z. named x.name (akey_path x.name y z) refl refl))
          (λ v is s. clash (is_level object_level (object_key o) x) (level_own object_level (object_key o) x (ap object_key (is (is_of_path p n v s)))) no_level)

  any_dkey : (p : Path) (n : Moment) → p.dkey ≡ Some d → list_any (is_punch_of p n) (dkeys_versions o b0.1) ≡ list_any (is_punch_of p n) (below_dkey_versions o d b1)
  any_dkey p n pd =
      any_newest (is_punch_of p n) (dkeys_versions o b0.1)
      ∙ (ap is_some (newest_one dkey_level (name_key d) (is_punch_of p n) (dkey_versions o) quiet m b0.1 (holds_second log_owner (hung dkey_level) m b0 (holds0 m g o d a held object dkey akey e settled None)) ∙ ap (newest version_key (is_punch_of p n)) (listed1 m g o d a held object dkey akey e settled None))
      ∙ sym (any_newest (is_punch_of p n) (below_dkey_versions o d b1)))
    where
      named : (x : List ℕ) (q : Path) → q.dkey ≡ Some x → q ≡ p → x ≡ d
      named x q qd is = some_inside x d (sym qd ∙ (ap (λ z. z.dkey) is ∙ pd))

      quiet : (x : Dkey) → dkey_level.Good x → is_level dkey_level (name_key d) x ≡ false → list_any (is_punch_of p n) (dkey_versions o x) ≡ false
      quiet x ok no_level =
          any_false (is_punch_of p n) (λ v. version_path v ≡ p → x.name ≡ d) (dkey_versions o x)
          (dkey_paths (λ q. q ≡ p → x.name ≡ d) o x.name x.holds (named x.name (dkey_path o x.name) refl) (λ y. named x.name (akey_path o x.name y) refl))
          (λ v is s. clash (is_level dkey_level (name_key d) x) (level_own dkey_level (name_key d) x (ap name_key (is (is_of_path p n v s)))) no_level)

  any_akey : (p : Path) (n : Moment) → p.akey ≡ Some a → list_any (is_punch_of p n) (akeys_versions o d b1.1) ≡ list_any (is_punch_of p n) (values_versions (akey_path o d a) b2)
  any_akey p n pa =
      any_newest (is_punch_of p n) (akeys_versions o d b1.1)
      ∙ (ap is_some (newest_one akey_level (name_key a) (is_punch_of p n) (akey_versions o d) quiet m b1.1 (holds_second log_owner (hung akey_level) m b1 (holds1 m g o d a held object dkey akey e settled None)) ∙ ap (newest version_key (is_punch_of p n)) (listed2 m g o d a held object dkey akey e settled None))
      ∙ sym (any_newest (is_punch_of p n) (values_versions (akey_path o d a) b2)))
    where
      named : (x : List ℕ) (q : Path) → q.akey ≡ Some x → q ≡ p → x ≡ a
      named x q qa is = some_inside x a (sym qa ∙ (ap (λ z. z.akey) is ∙ pa))

      quiet : (x : Akey) → akey_level.Good x → is_level akey_level (name_key a) x ≡ false → list_any (is_punch_of p n) (akey_versions o d x) ≡ false
      quiet x ok no_level =
          any_false (is_punch_of p n) (λ v. version_path v ≡ p → x.name ≡ a) (akey_versions o d x)
          (values_paths (λ q. q ≡ p → x.name ≡ a) o (akey_path o d x.name) x.holds (named x.name (akey_path o d x.name) refl))
          (λ v is s. clash (is_level akey_level (name_key a) x) (level_own akey_level (name_key a) x (ap name_key (is (is_of_path p n v s)))) no_level)

  -- ---- no punches of a path stand further below

  no_dkeys : (n : Moment) → list_any (is_punch_of (object_path o) n) (dkeys_versions o b0.1) ≡ false
  no_dkeys n =
      let p = object_path o in
      any_false (is_punch_of p n) (λ v. version_path v ≡ p → ⊥) (dkeys_versions o b0.1)
      (all_together (λ v. version_path v ≡ p → ⊥) (dkey_versions o) (things b0.1)
      (λ x. dkey_paths (λ q. q ≡ p → ⊥) o x.name x.holds (λ is. none_some x.name (ap (λ z. z.dkey) is)) (λ y is. none_some x.name (ap (λ z. z.dkey) is))))
      (λ v is s. is (is_of_path p n v s))

  no_akeys : (n : Moment) → list_any (is_punch_of (dkey_path o d) n) (akeys_versions o d b1.1) ≡ false
  no_akeys n =
      let p = dkey_path o d in
      any_false (is_punch_of p n) (λ v. version_path v ≡ p → ⊥) (akeys_versions o d b1.1)
      (all_together (λ v. version_path v ≡ p → ⊥) (akey_versions o d) (things b1.1)
      (λ x. values_paths (λ q. q ≡ p → ⊥) o (akey_path o d x.name) x.holds (λ is. none_some x.name (ap (λ z. z.akey) is))))
      (λ v is s. is (is_of_path p n v s))

  no_values : (n : Moment) → list_any (is_punch_of (akey_path o d a) n) (map (single_version (akey_path o d a)) (versions b2.1.0) ++ map (extent_version (akey_path o d a)) (extents b2.1.1)) ≡ false
  no_values n =
      let p = akey_path o d a in
      second_part (is_punch_of p n) (map (single_version p) (versions b2.1.0)) (map (extent_version p) (extents b2.1.1)) (any_map_false (is_punch_of p n) (single_version p) (versions b2.1.0) (λ v. refl))
      ∙ any_map_false (is_punch_of p n) (extent_version p) (extents b2.1.1) (λ v. refl)

  -- ---- the punches of each path

  of_object : (n : Moment) → list_any (is_punch_of (object_path o) n) (objects_versions g) ≡ list_any (is_punch_of (object_path o) n) (punches (PunchObject (object_path o)) b0.0)
  of_object n =
      any_object (object_path o) n refl refl
      ∙ first_part (is_punch_of (object_path o) n) (punches (PunchObject (object_path o)) b0.0) (dkeys_versions o b0.1) (no_dkeys n)

  of_dkey : (n : Moment) → list_any (is_punch_of (dkey_path o d) n) (objects_versions g) ≡ list_any (is_punch_of (dkey_path o d) n) (punches (PunchDkey (dkey_path o d)) b1.0)
  of_dkey n =
      let p = dkey_path o d in
      any_object p n refl refl
      ∙ (second_part (is_punch_of p n) (punches (PunchObject (object_path o)) b0.0) (dkeys_versions o b0.1) (elsewhere p (object_path o) n (PunchObject (object_path o)) b0.0 refl (λ is. none_some d (ap (λ z. z.dkey) (sym is))))
      ∙ (any_dkey p n refl
      ∙ first_part (is_punch_of p n) (punches (PunchDkey p) b1.0) (akeys_versions o d b1.1) (no_akeys n)))

  of_akey : (n : Moment) → list_any (is_punch_of (akey_path o d a) n) (objects_versions g) ≡ list_any (is_punch_of (akey_path o d a) n) (punches (PunchAkey (akey_path o d a)) b2.0)
  of_akey n =
      let p = akey_path o d a in
      any_object p n refl refl
      ∙ (second_part (is_punch_of p n) (punches (PunchObject (object_path o)) b0.0) (dkeys_versions o b0.1) (elsewhere p (object_path o) n (PunchObject (object_path o)) b0.0 refl (λ is. none_some d (ap (λ z. z.dkey) (sym is))))
      ∙ (any_dkey p n refl
      ∙ (second_part (is_punch_of p n) (punches (PunchDkey (dkey_path o d)) b1.0) (akeys_versions o d b1.1) (elsewhere p (dkey_path o d) n (PunchDkey (dkey_path o d)) b1.0 refl (λ is. none_some a (ap (λ z. z.akey) (sym is))))
      ∙ (any_akey p n refl
      ∙ first_part (is_punch_of p n) (punches (PunchAkey p) b2.0) (map (single_version p) (versions b2.1.0) ++ map (extent_version p) (extents b2.1.1)) (no_values n)))))

  pub covering_is : (f : PunchesAt) → ArePunchesOf (objects_versions g) f → covering e (akey_path o d a) f ≡ last_punch e b0.0 b1.0 b2.0
  covering_is f are =
      let zero = at_log (PunchObject (object_path o)) m b0.0 (objects_versions g) f refl (holds_first log_owner (hung dkey_level) m b0 (holds0 m g o d a held object dkey akey e settled None)) are of_object e in
      let one = at_log (PunchDkey (dkey_path o d)) m b1.0 (objects_versions g) f refl (holds_first log_owner (hung akey_level) m b1 (holds1 m g o d a held object dkey akey e settled None)) are of_dkey e in
      let two = at_log (PunchAkey (akey_path o d a)) m b2.0 (objects_versions g) f refl (holds_log m b2 (holds2 m g o d a held object dkey akey e settled None)) are of_akey e in
      ap (λ z. later_moment z (later_moment (last_below e (f (dkey_path o d))) (last_below e (f (akey_path o d a))))) zero
      ∙ ap (later_moment (punched_at e b0.0)) (ap (λ z. later_moment z (last_below e (f (akey_path o d a)))) one ∙ ap (later_moment (punched_at e b1.0)) two)

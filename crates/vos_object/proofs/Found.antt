-- Versions of some moments, and the names of their writes.
use Rattle.std.proofs.Common.{◌≡◌, ◌==◌, ◌&&◌, ◌||◌, ℕ, ◌+◌, Bool, true, false, List, [], ◌∷◌, ◌++◌, map, refl, sym, ap, ◌∙◌, subst, arith, append_assoc}
use Rattle.std.specs.Prelude.{filter, if◌then◌else◌}
use Rattle.std.proofs.lemmas.Bool.Decides.{nat_tests}
use Rattle.base_types.specs.Operations.{write_path}
use Rattle.base_types.specs.PathLaws.{same_path-Decides}
use Rattle.base_types.specs.Paths.{leads_to, same_path}
use Rattle.base_types.specs.declared.entry.Settle.{Settle}
use Rattle.base_types.specs.declared.entry.Settle.TheVariants as step
use Rattle.base_types.specs.declared.id.AttemptId.{AttemptId}
use Rattle.base_types.specs.declared.operation.Write.{Write}
use Rattle.base_types.specs.declared.operation.Write.TheVariants as write
use Rattle.base_types.specs.declared.path.Path.{Path}
use Rattle.daos_model.specs.BoolLaws.{and_left, and_right}
use Rattle.daos_model.specs.declared.durable.Version.{Version}
use Rattle.vos_values.specs.declared.keys.Moment.{Moment}
use Rattle.vos_levels.specs.declared.change.Change.TheVariants.{Prune}
use Rattle.vos_levels.specs.Changes.{sum_those}
use Rattle.vos_levels.specs.Levels.{map_those, without_those}
use Rattle.vos_levels.specs.Moments.{same_moment}
use Rattle.vos_path.proofs.Noting.{moments_same}
use Rattle.vos_punches.specs.Moments.{has_moment}
use Rattle.vos_punches.proofs.Order.{same_self}
use Rattle.vos_settle.specs.declared.name.WriteName.{WriteName}
use Rattle.vos_settle.specs.Names.{kind_of, moment_of, name_of}
use Rattle.vos_settle.specs.Versions.{done_version, is_version_taken, is_write, version_blocks}
use Rattle.vos_settle.proofs.VersionTurns.{other_write}
use Rattle.vos_gather.specs.Wanted.{is_wanted, moment_of_version}
use Rattle.vos_object.specs.Each.{removed_blocks, settled_blocks}
use Rattle.vos_object.specs.Moments.{is_pruned_at, is_settled_at, pruned_at, pruned_freed, pruned_names, settle_want, settled_at, settled_freed, settled_names}
use Rattle.vos_object.specs.Settling.{decides, is_among, is_named, is_removed, removed_each, settled_each, settling}
use Rattle.vos_object.proofs.Settled.{done_one, each_gone, each_one, each_removed, settle_one, settle_other, stays, waits, waits_is}

-- ---- a version and its name

own_write : (w : Write) → is_write (write_path w) (kind_of w) w ≡ true
own_write (write.Single p bytes) = (same_path-Decides p p).1 refl
own_write (write.Extent p low bytes) = ap (λ (b : Bool). b && (low == low)) ((same_path-Decides p p).1 refl) ∙ grind (arith, nat_tests)
own_write (write.PunchObject p) = (same_path-Decides p p).1 refl
own_write (write.PunchDkey p) = (same_path-Decides p p).1 refl
own_write (write.PunchAkey p) = (same_path-Decides p p).1 refl

own_name : (v : Version) → is_named (name_of v) v ≡ true
own_name v = ap (λ (b : Bool). b && same_moment (moment_of_version v) (moment_of_version v)) (own_write v.write) ∙ same_self (moment_of_version v)

-- a version of a write is of its path and its moment
named_path : (n : WriteName) (v : Version) → is_named n v ≡ true → n.path ≡ write_path v.write
named_path n v h = by (same_path n.path (write_path v.write)) refl
  where
    by : (b : Bool) → same_path n.path (write_path v.write) ≡ b → n.path ≡ write_path v.write
    by true e = (same_path-Decides n.path (write_path v.write)).0 e
    by false e = absurd (let f = other_write (record { kind = n.kind; at = moment_of n; by = v.by; change = Prune }) n.path n.kind v.write e in let t = and_left (is_write n.path n.kind v.write) (same_moment (moment_of_version v) (moment_of n)) h in let z : ⊥ = cc in z)

named_moment : (n : WriteName) (v : Version) → is_named n v ≡ true → moment_of n ≡ moment_of_version v
named_moment n v h = sym (moments_same (moment_of_version v) (moment_of n) (and_right (is_write n.path n.kind v.write) (same_moment (moment_of_version v) (moment_of n)) h))

-- ---- among names

among_left : (ns ms : List WriteName) (v : Version) → is_among ms v ≡ true → is_among (ns ++ ms) v ≡ true
among_left [] ms v h = h
among_left (n ∷ ns) ms v h = by (is_named n v) (among_left ns ms v h)
  where
    by : (b : Bool) → is_among (ns ++ ms) v ≡ true → (b || is_among (ns ++ ms) v) ≡ true
    by true r = refl
    by false r = r

-- Those of a kind whose moment and path pass a test are named by the names of all these among some versions.
module _ (k : Version → Bool) (r : Moment → Path → Bool) (goes : Version → Bool) (goes_is : (v : Version) → goes v ≡ (k v && r (moment_of_version v) (write_path v.write))) where
  names : List Version → List WriteName
  names vs = map name_of (filter goes vs)

  -- what is named passes
  sound : (us : List Version) (v : Version) → is_among (names us) v ≡ true → r (moment_of_version v) (write_path v.write) ≡ true
  unfolding names
  sound [] v h = absurd (let n : ⊥ = cc in n)
  sound (u ∷ us) v h = by (goes u) refl h (sound us v)
    where
      by : (b : Bool) → goes u ≡ b → is_among (map name_of (if b then u ∷ filter goes us else filter goes us)) v ≡ true → (is_among (map name_of (filter goes us)) v ≡ true → r (moment_of_version v) (write_path v.write) ≡ true) → r (moment_of_version v) (write_path v.write) ≡ true
      by true e a later = one (is_named (name_of u) v) refl a
        where
          one : (c : Bool) → is_named (name_of u) v ≡ c → (c || is_among (map name_of (filter goes us)) v) ≡ true → r (moment_of_version v) (write_path v.write) ≡ true
          one true f x =
              let passes : r (moment_of_version u) (write_path u.write) ≡ true = and_right (k u) (r (moment_of_version u) (write_path u.write)) (sym (goes_is u) ∙ e) in
              subst (λ p. r (moment_of_version v) p ≡ true) (named_path (name_of u) v f) (subst (λ m. r m (write_path u.write) ≡ true) (named_moment (name_of u) v f) passes)
          one false f x = later x
      by false e a later = later a

  Agree : List WriteName → List Version → Type 0
  Agree ns [] = Unit {0}
  Agree ns (v ∷ vs) = ((is_among ns v && k v) ≡ goes v) × Agree ns vs

  agree : (ns pre : List WriteName) (ws : List Version) → ns ≡ pre ++ names ws → ((v : Version) → is_among ns v ≡ true → r (moment_of_version v) (write_path v.write) ≡ true) → Agree ns ws
  unfolding names Agree
  agree ns pre [] e s = tt
  agree ns pre (w ∷ ws) e s = by (goes w) refl e (λ front is. agree ns front ws is s)
    where
      by : (b : Bool) → goes w ≡ b → ns ≡ pre ++ map name_of (if b then w ∷ filter goes ws else filter goes ws) → ((front : List WriteName) → ns ≡ front ++ names ws → Agree ns ws) → ((is_among ns w && k w) ≡ goes w) × Agree ns ws
      by true f is later =
          let kind : k w ≡ true = and_left (k w) (r (moment_of_version w) (write_path w.write)) (sym (goes_is w) ∙ f) in
          let own : is_among (name_of w ∷ names ws) w ≡ true = ap (λ (b : Bool). b || is_among (names ws) w) (own_name w) in
          let there : is_among ns w ≡ true = ap (λ z. is_among z w) is ∙ among_left pre (name_of w ∷ names ws) w own in
          (rw (there, kind) (sym f), later (pre ++ name_of w ∷ []) (is ∙ sym (append_assoc pre (name_of w ∷ []) (names ws))))
      by false f is later = (none (is_among ns w) refl (k w) refl ∙ sym f, later pre is)
        where
          none : (c : Bool) → is_among ns w ≡ c → (d : Bool) → k w ≡ d → (is_among ns w && k w) ≡ false
          none true x true y = absurd (let z = s w x in let q : goes w ≡ true = goes_is w ∙ rw (y, z) refl in let n : ⊥ = cc in n)
          none true x false y = rw (x, y) refl
          none false x d y = rw x refl

  agree_all : (vs : List Version) → Agree (names vs) vs
  agree_all vs = agree (names vs) [] vs refl (sound vs)

  without_agree : (ns : List WriteName) (ws : List Version) → Agree ns ws → without_those (λ v. is_among ns v && k v) ws ≡ without_those goes ws
  unfolding Agree
  without_agree ns [] a = refl
  without_agree ns (w ∷ ws) a = ap (λ (b : Bool). if b then without_those (λ v. is_among ns v && k v) ws else w ∷ without_those (λ v. is_among ns v && k v) ws) a.0 ∙ ap (λ z. if goes w then z else w ∷ z) (without_agree ns ws a.1)

  sum_agree : (size : Version → ℕ) (ns : List WriteName) (ws : List Version) → Agree ns ws → sum_those (λ v. is_among ns v && k v) size ws ≡ sum_those goes size ws
  unfolding Agree
  sum_agree size ns [] a = refl
  sum_agree size ns (w ∷ ws) a = ap (λ (b : Bool). (if b then size w else 0) + sum_those (λ v. is_among ns v && k v) size ws) a.0 ∙ ap (λ z. (if goes w then size w else 0) + z) (sum_agree size ns ws a.1)

  map_agree : (f one : Version → Version) (ns : List WriteName) (ws : List Version) → ((v : Version) → one v ≡ (if is_among ns v && k v then f v else v)) → Agree ns ws → map one ws ≡ map_those goes f ws
  unfolding Agree
  map_agree f one ns [] is a = refl
  map_agree f one ns (w ∷ ws) is a = ap (λ z. z ∷ map one ws) (is w ∙ ap (λ (b : Bool). if b then f w else w) a.0) ∙ ap (λ z. (if goes w then f w else w) ∷ z) (map_agree f one ns ws is a.1)

-- ---- lists

filter_same : (p q : Version → Bool) (vs : List Version) → ((v : Version) → p v ≡ q v) → filter p vs ≡ filter q vs
filter_same p q [] h = refl
filter_same p q (v ∷ vs) h = ap (λ (b : Bool). if b then v ∷ filter p vs else filter p vs) (h v) ∙ ap (λ z. if q v then v ∷ z else z) (filter_same p q vs h)

sum_split : (p q o : Version → Bool) (size : Version → ℕ) (vs : List Version) → ((v : Version) → (p v || q v) ≡ o v) → sum_those p size vs + sum_those q size (without_those p vs) ≡ sum_those o size vs
sum_split p q o size [] h = refl
sum_split p q o size (v ∷ vs) h = by (p v) (q v) refl refl (sum_split p q o size vs h)
  where
    by : (s t : Bool) → p v ≡ s → q v ≡ t → sum_those p size vs + sum_those q size (without_those p vs) ≡ sum_those o size vs → (if s then size v else 0) + sum_those p size vs + sum_those q size (if s then without_those p vs else v ∷ without_those p vs) ≡ (if o v then size v else 0) + sum_those o size vs
    by true t e f k = let one : o v ≡ true = sym (h v) ∙ rw e refl in rw one (omega (arith, k))
    by false true e f k = let one : o v ≡ true = sym (h v) ∙ rw (e, f) refl in rw (one, f) (omega (arith, k))
    by false false e f k = let one : o v ≡ false = sym (h v) ∙ rw (e, f) refl in rw (one, f) (omega (arith, k))

sum_none : (p : Version → Bool) (size : Version → ℕ) (vs : List Version) → ((v : Version) → p v ≡ false) → sum_those p size vs ≡ 0
sum_none p size [] h = refl
sum_none p size (v ∷ vs) h = rw (h v) (omega (arith, sum_none p size vs h))

either : (s t w : Bool) → ((s && w) || (t && w)) ≡ ((s || t) && w)
either true true true = refl
either true true false = refl
either true false true = refl
either true false false = refl
either false t w = refl

and_true : (b : Bool) → (b && true) ≡ b
and_true true = refl
and_true false = refl

-- ---- settling

-- the test of what is settled
wanted_settle : (a : AttemptId) (ms : List Moment) (s : Settle) (v : Version) → decides s ≡ true → is_wanted (settle_want a ms s) v ≡ is_settled_at a ms v
wanted_settle a ms step.Commit v h = and_true (waits a v && has_moment (moment_of_version v) ms) ∙ ap (λ (b : Bool). b && has_moment (moment_of_version v) ms) (sym (waits_is a v))
wanted_settle a ms step.Abort v h = and_true (waits a v && has_moment (moment_of_version v) ms) ∙ ap (λ (b : Bool). b && has_moment (moment_of_version v) ms) (sym (waits_is a v))
wanted_settle a ms (step.Confirm t) v h = absurd (let n : ⊥ = cc in n)
wanted_settle a ms step.Forget v h = absurd (let n : ⊥ = cc in n)

names_settle : (a : AttemptId) (ms : List Moment) (s : Settle) (vs : List Version) → decides s ≡ true → settled_names a ms s vs ≡ map name_of (filter (is_settled_at a ms) vs)
names_settle a ms s vs h = ap (map name_of) (filter_same (is_wanted (settle_want a ms s)) (is_settled_at a ms) vs (λ v. wanted_settle a ms s v h))

settle_if : (a : AttemptId) (ns : List WriteName) (v : Version) → settle_one a ns v ≡ (if is_among ns v && waits a v then done_version v else v)
settle_if a ns v = by (is_among ns v) (waits a v) refl refl
  where
    by : (s t : Bool) → is_among ns v ≡ s → waits a v ≡ t → settle_one a ns v ≡ (if s && t then done_version v else v)
    by true true e f = done_one a ns v f e
    by true false e f = stays a ns v f
    by false t e f = settle_other a ns v e

module _ (a : AttemptId) (ms : List Moment) (vs : List Version) where
  at_moment : Moment → Path → Bool
  at_moment m p = has_moment m ms

  those : (v : Version) → is_settled_at a ms v ≡ (waits a v && at_moment (moment_of_version v) (write_path v.write))
  unfolding at_moment
  those v = ap (λ (b : Bool). b && has_moment (moment_of_version v) ms) (waits_is a v)

  found : List WriteName
  found = map name_of (filter (is_settled_at a ms) vs)

  settled_found : (s : Settle) → decides s ≡ true → settled_each a s found vs ≡ settled_at a ms s vs
  unfolding names found
  settled_found step.Commit h = each_one a found vs ∙ map_agree (waits a) at_moment (is_settled_at a ms) those done_version (settle_one a found) found vs (settle_if a found) (agree_all (waits a) at_moment (is_settled_at a ms) those vs)
  settled_found step.Abort h = each_gone a found vs ∙ without_agree (waits a) at_moment (is_settled_at a ms) those found vs (agree_all (waits a) at_moment (is_settled_at a ms) those vs)
  settled_found (step.Confirm t) h = absurd (let n : ⊥ = cc in n)
  settled_found step.Forget h = absurd (let n : ⊥ = cc in n)

  freed_found : (s : Settle) → decides s ≡ true → settled_blocks a s found vs ≡ settled_freed a ms s vs
  unfolding names found
  freed_found step.Commit h = kept found vs
    where
      kept : (ns : List WriteName) (ws : List Version) → settled_blocks a step.Commit ns ws ≡ 0
      kept [] ws = refl
      kept (n ∷ ns) ws = omega (arith, kept ns (map_those (is_version_taken n.kind (settling a n step.Commit) n.path) done_version ws))
  freed_found step.Abort h = all found vs ∙ sum_agree (waits a) at_moment (is_settled_at a ms) those version_blocks found vs (agree_all (waits a) at_moment (is_settled_at a ms) those vs)
    where
      all : (ns : List WriteName) (ws : List Version) → settled_blocks a step.Abort ns ws ≡ sum_those (λ v. is_among ns v && waits a v) version_blocks ws
      all [] ws = sym (sum_none (λ v. false) version_blocks ws (λ v. refl))
      all (n ∷ ns) ws =
          let gone = is_version_taken n.kind (settling a n step.Abort) n.path in
          ap (λ z. sum_those gone version_blocks ws + z) (all ns (without_those gone ws))
          ∙ sum_split gone (λ v. is_among ns v && waits a v) (λ v. is_among (n ∷ ns) v && waits a v) version_blocks ws (λ v. either (is_named n v) (is_among ns v) (waits a v))
  freed_found (step.Confirm t) h = absurd (let n : ⊥ = cc in n)
  freed_found step.Forget h = absurd (let n : ⊥ = cc in n)

pub settled_those : (a : AttemptId) (ms : List Moment) (s : Settle) (vs : List Version) → decides s ≡ true → settled_each a s (settled_names a ms s vs) vs ≡ settled_at a ms s vs
unfolding found
settled_those a ms s vs h = ap (λ ns. settled_each a s ns vs) (names_settle a ms s vs h) ∙ settled_found a ms vs s h

pub freed_those : (a : AttemptId) (ms : List Moment) (s : Settle) (vs : List Version) → decides s ≡ true → settled_blocks a s (settled_names a ms s vs) vs ≡ settled_freed a ms s vs
unfolding found
freed_those a ms s vs h = ap (λ ns. settled_blocks a s ns vs) (names_settle a ms s vs h) ∙ freed_found a ms vs s h

-- ---- pruning

is_of : List Moment → Path → Moment → Path → Bool
is_of ms q m p = has_moment m ms && leads_to q p

done_is : Version → Bool
done_is v = v.done

pruned_is : (q : Path) (ms : List Moment) (v : Version) → is_pruned_at q ms v ≡ (done_is v && is_of ms q (moment_of_version v) (write_path v.write))
unfolding is_of done_is
pruned_is q ms v = assoc v.done (has_moment (moment_of_version v) ms) (leads_to q (write_path v.write))
  where
    assoc : (a b c : Bool) → ((a && b) && c) ≡ (a && (b && c))
    assoc true b c = refl
    assoc false b c = refl

pub pruned_those : (q : Path) (ms : List Moment) (vs : List Version) → removed_each (pruned_names q ms vs) vs ≡ pruned_at q ms vs
unfolding names done_is
pruned_those q ms vs = each_removed (pruned_names q ms vs) vs ∙ without_agree done_is (is_of ms q) (is_pruned_at q ms) (pruned_is q ms) (pruned_names q ms vs) vs (agree_all done_is (is_of ms q) (is_pruned_at q ms) (pruned_is q ms) vs)

pub gone_those : (q : Path) (ms : List Moment) (vs : List Version) → removed_blocks (pruned_names q ms vs) vs ≡ pruned_freed q ms vs
unfolding names done_is
gone_those q ms vs = all (pruned_names q ms vs) vs ∙ sum_agree done_is (is_of ms q) (is_pruned_at q ms) (pruned_is q ms) version_blocks (pruned_names q ms vs) vs (agree_all done_is (is_of ms q) (is_pruned_at q ms) (pruned_is q ms) vs)
  where
    all : (ns : List WriteName) (ws : List Version) → removed_blocks ns ws ≡ sum_those (λ v. is_among ns v && v.done) version_blocks ws
    all [] ws = sym (sum_none (λ v. false) version_blocks ws (λ v. refl))
    all (n ∷ ns) ws =
        ap (λ z. sum_those (is_removed n) version_blocks ws + z) (all ns (without_those (is_removed n) ws))
        ∙ sum_split (is_removed n) (λ v. is_among ns v && v.done) (λ v. is_among (n ∷ ns) v && v.done) version_blocks ws (λ v. either (is_named n v) (is_among ns v) v.done)

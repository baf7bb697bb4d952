-- The unsettled versions of an attempt among some are changed one after another.
use Rattle.std.proofs.Common.{◌≡◌, ℕ, ◌≤◌, ◌==◌, ◌&&◌, ◌||◌, Bool, true, false, not, cond, List, [], ◌∷◌, length, map, refl, sym, ap, ◌∙◌, subst, arith}
use Rattle.std.specs.Prelude.{All, filter, if◌then◌else◌}
use Rattle.std.specs.List.{list_any}
use Rattle.std.proofs.lemmas.Bool.Decides.{nat_tests}
use Rattle.std.proofs.lemmas.List.Elements.{All-cons, All-head, All-nil, All-tail}
use Rattle.base_types.specs.declared.id.AttemptId.{AttemptId}
use Rattle.base_types.specs.declared.operation.Write.{Write}
use Rattle.base_types.specs.declared.operation.Write.TheVariants.{Extent, PunchAkey, PunchDkey, PunchObject, Single}
use Rattle.base_types.specs.declared.path.Path.{Path}
use Rattle.base_types.specs.Operations.{write_path}
use Rattle.base_types.specs.PathLaws.{same_path-Decides}
use Rattle.base_types.specs.Paths.{same_path}
use Rattle.daos_model.specs.declared.durable.Version.{Version}
use Rattle.daos_model.specs.Durables.{same_attempt, version_key}
use Rattle.daos_model.specs.Ordered.{in_order}
use Rattle.daos_model.specs.Versions.{done_by, is_pending}
use Rattle.vos_keeping.proofs.Lists.{filtered_in_order, on_all, same_filter}
use Rattle.vos_levels.specs.declared.change.Change.TheVariants.{Commit}
use Rattle.vos_levels.specs.Changes as changes
use Rattle.vos_levels.specs.Levels.{map_those}
use Rattle.vos_pool_turns.specs.vos_settle.Names.{kind_of}
use Rattle.vos_pool_turns.specs.vos_settle.Versions.{done_version, is_version_of, is_write}
use Rattle.vos_pool_base.proofs.vos_tables.Places.{length_in_order}
use Rattle.vos_pool_turns.specs.vos_turns.Turns.{after_each, after_one, takes_version}

-- an unsettled version of the attempt
abbrev pub waits : AttemptId → Version → Bool
waits a v = changes.same_attempt v.by a && not v.done

pub waits_is : (a : AttemptId) (v : Version) → is_pending a v ≡ waits a v
unfolding is_pending same_attempt
waits_is a v = refl

-- one version has the name of another
abbrev pub is_same : Version → Version → Bool
is_same u w = is_version_of (write_path u.write) (kind_of u.write) (record { epoch = u.epoch; minor = u.minor }) w

-- one of the attempt's unsettled ones among some has the name
abbrev pub is_one_of : AttemptId → List Version → Version → Bool
is_one_of a us w = list_any (λ u. waits a u && is_same u w) us

-- ---- a version has its own name

path_same : (p : Path) → same_path p p ≡ true
path_same p = (same_path-Decides p p).1 refl

number_same : (n : ℕ) → (n == n) ≡ true
number_same n = grind (arith, nat_tests)

write_same : (w : Write) → is_write (write_path w) (kind_of w) w ≡ true
write_same (Single p bytes) = path_same p
write_same (Extent p low bytes) = rw (path_same p, number_same low) refl
write_same (PunchObject p) = path_same p
write_same (PunchDkey p) = path_same p
write_same (PunchAkey p) = path_same p

pub own_name : (v : Version) → is_same v v ≡ true
own_name v = rw (write_same v.write, number_same v.epoch.0, number_same v.minor) refl

-- ---- those that are named

more_named : (a : AttemptId) (u : Version) (us ws : List Version) → All (λ w. is_one_of a us w ≡ true) ws → All (λ w. is_one_of a (u ∷ us) w ≡ true) ws
more_named a u us ws all = on_all (λ w. is_one_of a us w ≡ true) (λ w. is_one_of a (u ∷ us) w ≡ true) (λ w h. elim (waits a u && is_same u w) as (λ b. (b || is_one_of a us w) ≡ true) [ true ↦ refl | false ↦ h ]) ws all

pub named_among : (a : AttemptId) (us : List Version) → All (λ w. is_one_of a us w ≡ true) (filter (is_pending a) us)
named_among a [] = All-nil (λ w. is_one_of a [] w ≡ true)
named_among a (u ∷ us) = by (is_pending a u) refl (more_named a u us (filter (is_pending a) us) (named_among a us))
  where
    by : (b : Bool) → is_pending a u ≡ b → All (λ w. is_one_of a (u ∷ us) w ≡ true) (filter (is_pending a) us) → All (λ w. is_one_of a (u ∷ us) w ≡ true) (cond b (u ∷ filter (is_pending a) us) (filter (is_pending a) us))
    by true is rest =
        let waiting : waits a u ≡ true = sym (waits_is a u) ∙ is in
        All-cons (λ w. is_one_of a (u ∷ us) w ≡ true) u (filter (is_pending a) us) (rw (waiting, own_name u) refl) rest
    by false is rest = rest

pub of_those_left : {A : Type 0} (P : A → Type 0) (t : A → Bool) (xs : List A) → All P (filter t xs) → All (λ x. t x ≡ true → P x) xs
of_those_left P t [] all = All-nil (λ x. t x ≡ true → P x)
of_those_left P t (x ∷ xs) all = by (t x) refl all (of_those_left P t xs)
  where
    by : (b : Bool) → t x ≡ b → All P (cond b (x ∷ filter t xs) (filter t xs)) → (All P (filter t xs) → All (λ x. t x ≡ true → P x) xs) → All (λ x. t x ≡ true → P x) (x ∷ xs)
    by true is all on = All-cons (λ x. t x ≡ true → P x) x xs (λ yes. All-head P x (filter t xs) all) (on (All-tail P x (filter t xs) all))
    by false is all on = All-cons (λ x. t x ≡ true → P x) x xs (λ yes. absurd (let never : true ≡ false = sym yes ∙ is in cc)) (on all)

-- where some have all the unsettled ones, each is named
pub all_named : (a : AttemptId) (us ws : List Version) → filter (is_pending a) us ≡ filter (is_pending a) ws → All (λ w. is_pending a w ≡ true → is_one_of a us w ≡ true) ws
all_named a us ws same = of_those_left (λ w. is_one_of a us w ≡ true) (is_pending a) ws (subst (λ (z : List Version). All (λ w. is_one_of a us w ≡ true) z) same (named_among a us))

-- ---- a commit

step_one : AttemptId → Version → Version → Version
step_one a u w = if is_same u w && waits a w then done_version w else w

settle_one : AttemptId → List Version → Version → Version
settle_one a [] w = w
settle_one a (u ∷ us) w = settle_one a us (if waits a u then step_one a u w else w)

each_step : (a : AttemptId) (u : Version) (us ws : List Version) → map (settle_one a us) (map_those (λ w. is_same u w && waits a w) done_version ws) ≡ map (λ w. settle_one a us (step_one a u w)) ws
unfolding step_one
each_step a u us [] = refl
each_step a u us (w ∷ ws) = ap (λ z. settle_one a us (step_one a u w) ∷ z) (each_step a u us ws)

self_map : (ws : List Version) → ws ≡ map (λ w. w) ws
self_map [] = refl
self_map (w ∷ ws) = ap (λ z. w ∷ z) (self_map ws)

each_one : (a : AttemptId) (us ws : List Version) → after_each (Commit a) us ws ≡ map (settle_one a us) ws
unfolding settle_one
each_one a [] ws = self_map ws
each_one a (u ∷ us) ws = by (waits a u) (each_one a us)
  where
    by : (b : Bool) → ((vs : List Version) → after_each (Commit a) us vs ≡ map (settle_one a us) vs) → after_each (Commit a) us (if b then after_one (Commit a) u ws else ws) ≡ map (λ w. settle_one a us (if b then step_one a u w else w)) ws
    by true on = on (map_those (λ w. is_same u w && waits a w) done_version ws) ∙ each_step a u us ws
    by false on = on ws

done_waits : (a : AttemptId) (v : Version) → waits a (done_version v) ≡ false
done_waits a v = elim (changes.same_attempt v.by a) as (λ b. (b && false) ≡ false) [ true ↦ refl | false ↦ refl ]

no_both : (s t : Bool) → t ≡ false → (s && t) ≡ false
no_both true t e = e
no_both false t e = refl

-- what doesn't wait stays
stays_so : (a : AttemptId) (us : List Version) (w : Version) → waits a w ≡ false → settle_one a us w ≡ w
unfolding settle_one step_one
stays_so a [] w h = refl
stays_so a (u ∷ us) w h =
    let none : (is_same u w && waits a w) ≡ false = no_both (is_same u w) (waits a w) h in
    ap (settle_one a us) (elim (waits a u) as (λ b. (if b then (if is_same u w && waits a w then done_version w else w) else w) ≡ w) [ true ↦ ap (λ (b : Bool). if b then done_version w else w) none | false ↦ refl ]) ∙ stays_so a us w h

-- what waits and is named is done
done_so : (a : AttemptId) (us : List Version) (w : Version) → waits a w ≡ true → is_one_of a us w ≡ true → settle_one a us w ≡ done_version w
unfolding settle_one step_one
done_so a [] w h named = absurd (cc)
done_so a (u ∷ us) w h named = by (waits a u) (is_same u w) refl refl (done_so a us w h)
  where
    by : (b d : Bool) → waits a u ≡ b → is_same u w ≡ d → (is_one_of a us w ≡ true → settle_one a us w ≡ done_version w) → settle_one a us (if b then (if d && waits a w then done_version w else w) else w) ≡ done_version w
    by true true is same on = ap (λ (t : Bool). settle_one a us (if t then done_version w else w)) h ∙ stays_so a us (done_version w) (done_waits a w)
    by true false is same on = on (sym (rw (is, same) refl) ∙ named)
    by false d is same on = on (sym (rw is refl) ∙ named)

waits_so : (a : AttemptId) (v : Version) (s d : Bool) → changes.same_attempt v.by a ≡ s → v.done ≡ d → waits a v ≡ (s && not d)
waits_so a v s d e f = ap (λ (b : Bool). b && not v.done) e ∙ ap (λ (b : Bool). s && not b) f

-- so each is as where the attempt is committed at once
one_done : (a : AttemptId) (us : List Version) (w : Version) → (is_pending a w ≡ true → is_one_of a us w ≡ true) → settle_one a us w ≡ done_by a w
unfolding done_by same_attempt
one_done a us w named = by (changes.same_attempt w.by a) w.done refl refl
  where
    by : (s d : Bool) → changes.same_attempt w.by a ≡ s → w.done ≡ d → settle_one a us w ≡ done_by a w
    by s true is done =
        let quiet : waits a w ≡ false = waits_so a w s true is done ∙ no_both s false refl in
        stays_so a us w quiet ∙ ap (λ (b : Bool). record w { done = b }) (done ∙ sym (ap (λ (b : Bool). b || changes.same_attempt w.by a) done))
    by true false is done =
        let waiting : waits a w ≡ true = waits_so a w true false is done in
        done_so a us w waiting (named (waits_is a w ∙ waiting)) ∙ ap (λ (b : Bool). record w { done = b }) (sym (ap (λ (b : Bool). b || changes.same_attempt w.by a) done ∙ is))
    by false false is done =
        let quiet : waits a w ≡ false = waits_so a w false false is done in
        stays_so a us w quiet ∙ ap (λ (b : Bool). record w { done = b }) (done ∙ sym (ap (λ (b : Bool). b || changes.same_attempt w.by a) done ∙ is))

all_done : (a : AttemptId) (us ws : List Version) → All (λ w. is_pending a w ≡ true → is_one_of a us w ≡ true) ws → map (settle_one a us) ws ≡ map (done_by a) ws
all_done a us [] all = refl
all_done a us (w ∷ ws) all =
    ap (λ z. z ∷ map (settle_one a us) ws) (one_done a us w (All-head (λ w. is_pending a w ≡ true → is_one_of a us w ≡ true) w ws all))
    ∙ ap (λ z. done_by a w ∷ z) (all_done a us ws (All-tail (λ w. is_pending a w ≡ true → is_one_of a us w ≡ true) w ws all))

pub committed_all : (a : AttemptId) (us ws : List Version) → All (λ w. is_pending a w ≡ true → is_one_of a us w ≡ true) ws → after_each (Commit a) us ws ≡ map (done_by a) ws
committed_all a us ws all = each_one a us ws ∙ all_done a us ws all

-- ---- how many

each_waits : (a : AttemptId) (us : List Version) → All (λ v. takes_version (Commit a) v ≡ is_pending a v) us
each_waits a [] = All-nil (λ v. takes_version (Commit a) v ≡ is_pending a v)
each_waits a (u ∷ us) = All-cons (λ v. takes_version (Commit a) v ≡ is_pending a v) u us (sym (waits_is a u)) (each_waits a us)

pub few_taken : (a : AttemptId) (us vs : List Version) → filter (is_pending a) us ≡ filter (is_pending a) (in_order version_key vs) → length (filter (is_pending a) vs) ≤ 64 → length (filter (takes_version (Commit a)) us) ≤ 64
few_taken a us vs same few =
    let one = ap length (same_filter (takes_version (Commit a)) (is_pending a) us (each_waits a us)) in
    let two = ap length same in
    let three = ap length (filtered_in_order version_key (is_pending a) vs) in
    omega (arith, one, two, three, length_in_order version_key (filter (is_pending a) vs), few)

-- The versions of an attempt, settled one after another.
use Rattle.std.proofs.Common.{◌≡◌, ◌&&◌, ◌||◌, Bool, true, false, not, List, [], ◌∷◌, map, refl, sym, ap, ◌∙◌, None, Option, Some}
use Rattle.std.specs.Prelude.{filter, if◌then◌else◌}
use Rattle.base_types.specs.declared.entry.Settle.TheVariants as step
use Rattle.base_types.specs.declared.id.AttemptId.{AttemptId}
use Rattle.daos_model.specs.Durables.{same_attempt}
use Rattle.daos_model.specs.Versions.{done_by, is_not_pending, is_pending}
use Rattle.daos_model.specs.declared.durable.Version.{Version}
use Rattle.vos_levels.specs.Changes as changes
use Rattle.vos_levels.specs.Levels.{map_those, without_those}
use Rattle.vos_levels.proofs.Spots.{without_none}
use Rattle.vos_levels.proofs.Testing.{found_missing}
use Rattle.std.specs.List.{find}
use Rattle.std.specs.Option.{option_map}
use Rattle.vos_settle.specs.Versions.{done_version, is_version_taken}
use Rattle.vos_settle.specs.declared.name.WriteName.{WriteName}
use Rattle.vos_settle.specs.Names.{moment_of}
use Rattle.vos_prune.specs.Writers.{version_by, writer_of}
use Rattle.vos_object.specs.Settling.{NamesAll, NamesThose, is_among, is_named, is_removed, removed_each, settled_each, settling}

-- an unsettled version of the attempt
abbrev pub waits : AttemptId → Version → Bool
waits a v = changes.same_attempt v.by a && not v.done

pub waits_is : (a : AttemptId) (v : Version) → is_pending a v ≡ waits a v
unfolding is_pending same_attempt
waits_is a v = refl

waits_so : (a : AttemptId) (v : Version) (s d : Bool) → changes.same_attempt v.by a ≡ s → v.done ≡ d → waits a v ≡ (s && not d)
waits_so a v s d e f = ap (λ (b : Bool). b && not v.done) e ∙ ap (λ (b : Bool). s && not b) f

-- what settling does to each version
pub settle_one : AttemptId → List WriteName → Version → Version
settle_one a [] v = v
settle_one a (n ∷ ns) v = settle_one a ns (if is_named n v && waits a v then done_version v else v)

done_waits : (a : AttemptId) (v : Version) → waits a (done_version v) ≡ false
done_waits a v = by (changes.same_attempt v.by a)
  where
    by : (b : Bool) → (b && false) ≡ false
    by true = refl
    by false = refl

-- what doesn't wait stays
pub stays : (a : AttemptId) (ns : List WriteName) (v : Version) → waits a v ≡ false → settle_one a ns v ≡ v
unfolding settle_one
stays a [] v h = refl
stays a (n ∷ ns) v h = ap (settle_one a ns) (ap (λ (b : Bool). if is_named n v && b then done_version v else v) h ∙ by (is_named n v)) ∙ stays a ns v h
  where
    by : (b : Bool) → (if b && false then done_version v else v) ≡ v
    by true = refl
    by false = refl

-- what waits and is named is done
pub done_one : (a : AttemptId) (ns : List WriteName) (v : Version) → waits a v ≡ true → is_among ns v ≡ true → settle_one a ns v ≡ done_version v
unfolding settle_one
done_one a [] v w h = absurd (let n : ⊥ = cc in n)
done_one a (n ∷ ns) v w h = ap (λ (b : Bool). settle_one a ns (if is_named n v && b then done_version v else v)) w ∙ by (is_named n v) refl (done_one a ns v w)
  where
    by : (b : Bool) → is_named n v ≡ b → (is_among ns v ≡ true → settle_one a ns v ≡ done_version v) → settle_one a ns (if b && true then done_version v else v) ≡ done_version v
    by true e r = stays a ns (done_version v) (done_waits a v)
    by false e r = r (sym (ap (λ (b : Bool). b || is_among ns v) e) ∙ h)

-- what isn't named stays
pub settle_other : (a : AttemptId) (ns : List WriteName) (v : Version) → is_among ns v ≡ false → settle_one a ns v ≡ v
unfolding settle_one
settle_other a [] v h = refl
settle_other a (n ∷ ns) v h = by (is_named n v) h (settle_other a ns v)
  where
    by : (b : Bool) → (b || is_among ns v) ≡ false → (is_among ns v ≡ false → settle_one a ns v ≡ v) → settle_one a ns (if b && waits a v then done_version v else v) ≡ v
    by true x r = absurd (let n : ⊥ = cc in n)
    by false x r = r x

one_done : (a : AttemptId) (ns : List WriteName) (v : Version) → (is_pending a v ≡ true → is_among ns v ≡ true) → settle_one a ns v ≡ done_by a v
unfolding done_by same_attempt
one_done a ns v named = by (changes.same_attempt v.by a) v.done refl refl
  where
    by : (s d : Bool) → changes.same_attempt v.by a ≡ s → v.done ≡ d → settle_one a ns v ≡ done_by a v
    by true true e f =
        let w : waits a v ≡ false = waits_so a v true true e f in
        stays a ns v w ∙ ap (λ (b : Bool). record v { done = b }) (f ∙ sym (ap (λ (b : Bool). b || changes.same_attempt v.by a) f))
    by true false e f =
        let w : waits a v ≡ true = waits_so a v true false e f in
        done_one a ns v w (named (waits_is a v ∙ w)) ∙ ap (λ (b : Bool). record v { done = b }) (sym (ap (λ (b : Bool). b || changes.same_attempt v.by a) f ∙ e))
    by false true e f =
        let w : waits a v ≡ false = waits_so a v false true e f in
        stays a ns v w ∙ ap (λ (b : Bool). record v { done = b }) (f ∙ sym (ap (λ (b : Bool). b || changes.same_attempt v.by a) f))
    by false false e f =
        let w : waits a v ≡ false = waits_so a v false false e f in
        stays a ns v w ∙ ap (λ (b : Bool). record v { done = b }) (f ∙ sym (ap (λ (b : Bool). b || changes.same_attempt v.by a) f ∙ e))

pub each_one : (a : AttemptId) (ns : List WriteName) (vs : List Version) → settled_each a step.Commit ns vs ≡ map (settle_one a ns) vs
unfolding settle_one
each_one a [] vs = all vs
  where
    all : (ws : List Version) → ws ≡ map (λ v. v) ws
    all [] = refl
    all (w ∷ ws) = ap (λ z. w ∷ z) (all ws)
each_one a (n ∷ ns) vs = each_one a ns (map_those (is_version_taken n.kind (settling a n step.Commit) n.path) done_version vs) ∙ all vs
  where
    all : (ws : List Version) → map (settle_one a ns) (map_those (is_version_taken n.kind (settling a n step.Commit) n.path) done_version ws) ≡ map (settle_one a (n ∷ ns)) ws
    all [] = refl
    all (w ∷ ws) = ap (λ z. settle_one a (n ∷ ns) w ∷ z) (all ws)

pub committed_each : (a : AttemptId) (ns : List WriteName) (vs : List Version) → NamesAll a ns vs → settled_each a step.Commit ns vs ≡ map (done_by a) vs
committed_each a ns vs named = each_one a ns vs ∙ all vs named
  where
    all : (ws : List Version) → NamesAll a ns ws → map (settle_one a ns) ws ≡ map (done_by a) ws
    all [] h = refl
    all (w ∷ ws) h = ap (λ z. z ∷ map (settle_one a ns) ws) (one_done a ns w h.0) ∙ ap (λ z. done_by a w ∷ z) (all ws h.1)

-- ---- and those that go

without_twice : {V : Type 0} (p q r : V → Bool) (vs : List V) → ((v : V) → (p v || q v) ≡ r v) → without_those q (without_those p vs) ≡ without_those r vs
without_twice p q r [] h = refl
without_twice p q r (v ∷ vs) h = by (p v) (q v) refl refl (without_twice p q r vs h)
  where
    by : (s t : Bool) → p v ≡ s → q v ≡ t → without_those q (without_those p vs) ≡ without_those r vs → without_those q (if s then without_those p vs else v ∷ without_those p vs) ≡ without_those r (v ∷ vs)
    by true t e f k = let one : r v ≡ true = sym (h v) ∙ rw e refl in rw one k
    by false true e f k = let one : r v ≡ true = sym (h v) ∙ rw (e, f) refl in rw (f, one) k
    by false false e f k = let one : r v ≡ false = sym (h v) ∙ rw (e, f) refl in rw (f, one) (ap (λ z. v ∷ z) k)

either : (s t w : Bool) → ((s && w) || (t && w)) ≡ ((s || t) && w)
either true true true = refl
either true true false = refl
either true false true = refl
either true false false = refl
either false t w = refl

no_both : (s t : Bool) → t ≡ false → (s && t) ≡ false
no_both true t e = e
no_both false t e = refl

pub each_gone : (a : AttemptId) (ns : List WriteName) (vs : List Version) → settled_each a step.Abort ns vs ≡ without_those (λ v. is_among ns v && waits a v) vs
each_gone a [] vs = all vs
  where
    all : (ws : List Version) → ws ≡ without_those (λ v. false) ws
    all [] = refl
    all (w ∷ ws) = ap (λ z. w ∷ z) (all ws)
each_gone a (n ∷ ns) vs =
    each_gone a ns (without_those (is_version_taken n.kind (settling a n step.Abort) n.path) vs)
    ∙ without_twice (is_version_taken n.kind (settling a n step.Abort) n.path) (λ v. is_among ns v && waits a v) (λ v. is_among (n ∷ ns) v && waits a v) vs (λ v. either (is_named n v) (is_among ns v) (waits a v))

pub aborted_each : (a : AttemptId) (ns : List WriteName) (vs : List Version) → NamesAll a ns vs → settled_each a step.Abort ns vs ≡ filter (is_not_pending a) vs
aborted_each a ns vs named = each_gone a ns vs ∙ all vs named
  where
    all : (ws : List Version) → NamesAll a ns ws → without_those (λ v. is_among ns v && waits a v) ws ≡ filter (is_not_pending a) ws
    all [] h = refl
    all (w ∷ ws) h = by (is_pending a w) refl (all ws h.1)
      where
        by : (b : Bool) → is_pending a w ≡ b → without_those (λ v. is_among ns v && waits a v) ws ≡ filter (is_not_pending a) ws → without_those (λ v. is_among ns v && waits a v) (w ∷ ws) ≡ (if not b then w ∷ filter (is_not_pending a) ws else filter (is_not_pending a) ws)
        by true e r = let one : (is_among ns w && waits a w) ≡ true = rw (h.0 e, sym (waits_is a w) ∙ e) refl in rw one r
        by false e r = let one : (is_among ns w && waits a w) ≡ false = no_both (is_among ns w) (waits a w) (sym (waits_is a w) ∙ e) in rw one (ap (λ z. w ∷ z) r)

-- ---- done ones that are taken out

pub each_removed : (ns : List WriteName) (vs : List Version) → removed_each ns vs ≡ without_those (λ v. is_among ns v && v.done) vs
each_removed [] vs = all vs
  where
    all : (ws : List Version) → ws ≡ without_those (λ v. false) ws
    all [] = refl
    all (w ∷ ws) = ap (λ z. w ∷ z) (all ws)
each_removed (n ∷ ns) vs =
    each_removed ns (without_those (is_removed n) vs)
    ∙ without_twice (is_removed n) (λ v. is_among ns v && v.done) (λ v. is_among (n ∷ ns) v && v.done) vs (λ v. either (is_named n v) (is_among ns v) v.done)

pub those_removed : (goes : Version → Bool) (ns : List WriteName) (vs : List Version) → NamesThose goes ns vs → removed_each ns vs ≡ filter (λ v. not (goes v)) vs
those_removed goes ns vs named = each_removed ns vs ∙ all vs named
  where
    all : (ws : List Version) → NamesThose goes ns ws → without_those (λ v. is_among ns v && v.done) ws ≡ filter (λ v. not (goes v)) ws
    all [] h = refl
    all (w ∷ ws) h = ap (λ (b : Bool). if b then without_those (λ v. is_among ns v && v.done) ws else w ∷ without_those (λ v. is_among ns v && v.done) ws) h.0 ∙ by (goes w) (all ws h.1)
      where
        by : (b : Bool) → without_those (λ v. is_among ns v && v.done) ws ≡ filter (λ v. not (goes v)) ws → (if b then without_those (λ v. is_among ns v && v.done) ws else w ∷ without_those (λ v. is_among ns v && v.done) ws) ≡ (if not b then w ∷ filter (λ v. not (goes v)) ws else filter (λ v. not (goes v)) ws)
        by true r = r
        by false r = ap (λ z. w ∷ z) r

pub nobody_removed : (n : WriteName) (vs : List Version) → writer_of n.path n.kind (moment_of n) vs ≡ None → without_those (is_removed n) vs ≡ vs
nobody_removed n vs h = without_none (is_removed n) vs (found_missing (is_removed n) vs (unmapped (find (is_removed n) vs) h))
  where
    unmapped : (x : Option Version) → option_map version_by x ≡ None → x ≡ None
    unmapped None h = refl
    unmapped (Some v) h = absurd (let n : ⊥ = cc in n)

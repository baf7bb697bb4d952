-- Changes that keep the versions of a target in form.
use Rattle.std.specs.Prelude.{ℕ, ◌≡◌, Bool, true, false, All, List, [], ◌∷◌, filter, map, Option, Some, None, refl, if◌then◌else◌}
use Rattle.std.specs.List.{list_all}
use Rattle.std.proofs.Common.{sym, ◌∙◌, ap, subst, inl, inr}
use Rattle.std.proofs.lemmas.List.Elements.{All-head, All-tail}
use Rattle.base_types.specs.declared.entry.Entry.{Entry}
use Rattle.base_types.specs.declared.entry.Settle.{Settle}
use Rattle.base_types.specs.declared.entry.Settle.TheVariants.{Abort, Commit, Confirm, Forget}
use Rattle.base_types.specs.declared.epoch.Epoch.{Epoch}
use Rattle.base_types.specs.declared.id.AttemptId.{AttemptId}
use Rattle.base_types.specs.declared.id.ContId.{ContId}
use Rattle.base_types.specs.declared.operation.MinorWrite.{MinorWrite}
use Rattle.daos_model.specs.BoolLaws.{both}
use Rattle.daos_model.specs.Changes.{created, frozen, leased, marked, prepared, pruned, settled, with_versions}
use Rattle.daos_model.specs.declared.durable.Durable.{Durable}
use Rattle.daos_model.specs.declared.durable.Version.{Version}
use Rattle.daos_model.specs.Durables.{is_frozen, is_version_in_form, version_key}
use Rattle.daos_model.specs.FormLaws.{all-put}
use Rattle.daos_model.specs.Forms.{is_write_in_form}
use Rattle.daos_model.specs.Ordered.{puts}
use Rattle.daos_model.specs.Prunes.{is_staying}
use Rattle.daos_model.specs.Versions.{done_by, is_not_pending, version_of, versions_of}
use Rattle.model_laws.specs.Members.{Has, has-from_filter, has-from_map}
use Rattle.model_laws.specs.ServeLaws.{all-has}
use Rattle.world_base.specs.Changes.{Change, Creates, Cut, After, Before, Extends, Freezes, InPart, IsPartly, Kept, Prepares, Prunes, Settles, Steps, made}
use Rattle.world_base.specs.CutTurns.{CutHere, CutTurn, Cutting, InChange, InQuestion}
use Rattle.world_base.specs.PathLaws.{path-keeps, reached-keeps}
use Rattle.world_base.specs.Turns.{Whole}
use Rattle.world_readers.specs.forms.Forms.{VersionsInForm}

-- ---- lists

all-listed : {T : Type 0} (t : T → Bool) (xs : List T) → ((x : T) → Has x xs → t x ≡ true) → list_all t xs ≡ true
all-listed t [] each = refl
all-listed t (x ∷ xs) each = both (t x) (list_all t xs) (each x (inl refl)) (all-listed t xs (λ y i. each y (inr i)))

-- some of them are in form where all are
left-in_form : (stays : Version → Bool) (vs : List Version) → list_all is_version_in_form vs ≡ true → list_all is_version_in_form (filter stays vs) ≡ true
left-in_form stays vs k = all-listed is_version_in_form (filter stays vs) (λ v i. all-has is_version_in_form vs v k (has-from_filter stays vs v i).0)

new-in_form : (e : Entry) (ws : List MinorWrite) (vs : List Version) → All (λ w. is_write_in_form w.write ≡ true) ws → list_all is_version_in_form vs ≡ true → list_all is_version_in_form (puts version_key (versions_of e ws) vs) ≡ true
new-in_form e [] vs h k = k
new-in_form e (w ∷ ws) vs h k = all-put is_version_in_form version_key (version_of e w) (puts version_key (versions_of e ws) vs) (All-head (λ x. is_write_in_form x.write ≡ true) w ws h) (new-in_form e ws vs (All-tail (λ x. is_write_in_form x.write ≡ true) w ws h) k)

-- ---- changes

same-done : (a : AttemptId) (v : Version) → is_version_in_form (done_by a v) ≡ is_version_in_form v
unfolding done_by
same-done a v = refl

pub settles-in_form : (a : AttemptId) (step : Settle) (d : Durable) → VersionsInForm d → VersionsInForm (settled a step d)
unfolding settled
settles-in_form a Commit d k =
    all-listed is_version_in_form (map (done_by a) d.versions)
    (λ v i. (let z = has-from_map (done_by a) d.versions v i in ap is_version_in_form (sym z.2) ∙ same-done a z.0 ∙ all-has is_version_in_form d.versions z.0 k z.1))
settles-in_form a Abort d k = left-in_form (is_not_pending a) d.versions k
settles-in_form a (Confirm t) d k = k
settles-in_form a Forget d k = k

pub leased-in_form : (n : ℕ) (d : Durable) → VersionsInForm d → VersionsInForm (leased n d)
unfolding leased
leased-in_form n d k = k

prepares-in_form : (e : Entry) (ws : List MinorWrite) (d : Durable) → All (λ w. is_write_in_form w.write ≡ true) ws → VersionsInForm d → VersionsInForm (prepared e ws d)
unfolding prepared
prepares-in_form e ws d h k = new-in_form e ws d.versions h k

either-in_form : (b : Bool) (d x : Durable) → x.versions ≡ d.versions → VersionsInForm d → VersionsInForm (if b then d else x)
either-in_form true d x same k = k
either-in_form false d x same k = ap (list_all is_version_in_form) same ∙ k

freezes-in_form : (c : ContId) (s : Epoch) (d : Durable) → VersionsInForm d → VersionsInForm (frozen c s d)
unfolding frozen
freezes-in_form c s d k = either-in_form (is_frozen d c s) d _ refl k

creates-in_form : (c : ContId) (s : Epoch) (d : Durable) → VersionsInForm d → VersionsInForm (created c s d)
unfolding created
creates-in_form c s d k = k

partly-in_form : (vs : List Version) (c : ContId) (upto : Epoch) (n : ℕ) (d : Durable) → list_all is_version_in_form vs ≡ true → VersionsInForm (with_versions vs (marked c upto n d))
unfolding with_versions marked
partly-in_form vs c upto n d k = k

prunes-in_form : (c : ContId) (upto : Epoch) (n : ℕ) (d : Durable) → VersionsInForm d → VersionsInForm (pruned c upto n d)
unfolding pruned
prunes-in_form c upto n d k = partly-in_form (filter (is_staying c upto d) d.versions) c upto n d (left-in_form (is_staying c upto d) d.versions k)

-- what a change stores is in form
abbrev pub IsChangeInForm : Option Change → Type 0
IsChangeInForm None = Unit {0}
IsChangeInForm (Some (Prepares e ws)) = All (λ w. is_write_in_form w.write ≡ true) ws
IsChangeInForm (Some c) = Unit {0}

made-in_form : (c : Change) (d : Durable) → IsChangeInForm (Some c) → VersionsInForm d → VersionsInForm (made c d)
made-in_form (Extends ticks) d h k = leased-in_form ticks d k
made-in_form (Prepares e ws) d h k = prepares-in_form e ws d h k
made-in_form (Settles a step) d h k = settles-in_form a step d k
made-in_form (Freezes c s) d h k = freezes-in_form c s d k
made-in_form (Creates c s) d h k = creates-in_form c s d k
made-in_form (Prunes c upto n) d h k = prunes-in_form c upto n d k

pub steps-in_form : (o : Option Change) (k l : Kept) → IsChangeInForm o → Steps o k l → VersionsInForm k.durable → VersionsInForm l.durable
steps-in_form None k l h steps f = subst (λ n. VersionsInForm n.durable) (sym steps) f
steps-in_form (Some c) k l h steps f = subst VersionsInForm (sym steps.0) (made-in_form c k.durable h f)

-- a change that was cut
cut-in_form : (c : Change) (d x : Durable) → IsChangeInForm (Some c) → Cut c d x → VersionsInForm d → VersionsInForm x
cut-in_form c d x h (Before same) f = subst VersionsInForm (sym same) f
cut-in_form c d x h (After same) f = subst VersionsInForm (sym same) (made-in_form c d h f)
cut-in_form c d x h (InPart part) f = by c part
  where
    by : (c : Change) → IsPartly c d x → VersionsInForm x
    by (Prunes z upto n) p = subst VersionsInForm (sym p.2) (partly-in_form p.0 z upto n d (subst (λ vs. list_all is_version_in_form vs ≡ true) (sym p.1.left) (left-in_form p.1.stays d.versions f)))
    by z p = absurd p

-- ---- turns

-- the steps of a kind of turn store what is in form alone
abbrev pub AllInForm : {S : Type 0} → (S → Kept → Option Change → S → Type 0) → Type 0
AllInForm {S} Next = (s : S) (k : Kept) (o : Option Change) (u : S) → Next s k o u → IsChangeInForm o

pub whole-in_form : {S R : Type 0} (Next : S → Kept → Option Change → S → Type 0) (Ends : S → Kept → R → Type 0) (start : S) (old new : Kept) (left : R) → AllInForm Next → Whole Next Ends start old new left
    → VersionsInForm old.durable → VersionsInForm new.durable
whole-in_form Next Ends start old new left all w f = reached-keeps Next (λ s k. VersionsInForm k.durable) (λ s k o u l next steps h. steps-in_form o k l (all s k o u next) steps h) start old w.last new w.reached f

pub turn-cut_in_form : {S : Type 0} (Next : S → Kept → Option Change → S → Type 0) (issues : S → List (AttemptId × Epoch)) (t : ℕ) (start : S) (old : Kept) (cut : Cutting) → AllInForm Next → CutTurn Next issues t start old cut
    → VersionsInForm old.durable → VersionsInForm cut.left.durable
turn-cut_in_form Next issues t start old cut all g f = by g.lines g.here
  where
    mid : VersionsInForm g.mid.durable
    mid = path-keeps Next (λ s k. VersionsInForm k.durable) (λ s k o u l next steps h. steps-in_form o k l (all s k o u next) steps h) start old g.did g.last g.mid g.path f

    by : (lines : _) → CutHere Next t g.last g.mid cut.left lines → VersionsInForm cut.left.durable
    by lines (InChange c next is cut-so free) = cut-in_form c g.mid.durable cut.left.durable (all g.last g.mid (Some c) next is) cut-so mid
    by lines (InQuestion same free) = subst VersionsInForm (sym same) mid

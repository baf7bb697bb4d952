-- What containers leave that are enlisted at some targets and not at others.
use Rattle.std.specs.Prelude.{ℕ, zero, suc, ◌≡◌, ◌≢◌, ◌≤◌, ◌<◌, ◌&&◌, ◌||◌, find, Bool, true, All, AllPairs, List, [], ◌∷◌, filter, length, map, slice_get, Option, Some, refl}
use Rattle.std.specs.List.{list_any}
use Rattle.std.proofs.Common.{sym, ◌∙◌, ap, arith, subst}
use Rattle.std.proofs.lemmas.Option.{slice_get_within}
use Rattle.base_types.specs.declared.id.AttemptId.{AttemptId}
use Rattle.base_types.specs.declared.id.ContId.{ContId}
use Rattle.base_types.specs.declared.script.Script.{Script}
use Rattle.base_types.specs.declared.snapshot.Snap.{Snap}
use Rattle.base_types.specs.Epochs.{restart_floor}
use Rattle.model_laws.specs.DecidedLaws.{has-all}
use Rattle.model_laws.specs.Lists.{at-within}
use Rattle.model_laws.specs.Members.{Has, has-from_filter}
use Rattle.daos_model.specs.declared.durable.Durable.{Durable}
use Rattle.daos_model.specs.declared.durable.Version.{Version}
use Rattle.daos_model.specs.Changes.{enlisted}
use Rattle.daos_model.specs.Durables.{entry_of, is_entry_of, is_frozen, is_snap_at, version_key}
use Rattle.daos_model.specs.Family.{counts, created_snaps, is_created, resolved}
use Rattle.daos_model.specs.Sound.{IsOfEntry, Sound}
use Rattle.daos_model.specs.Versions.{writes_in}
use Rattle.run_opening.specs.Alike.{resolved-alike}
use Rattle.run_opening.specs.All.{AreKept, MayBeFound}
use Rattle.run_opening.specs.EnlistLaws.{rows-hold}
use Rattle.run_opening.specs.Left.{AreParts, IsLeftOf, LeavesAll, StaysCounted, or_not}
use Rattle.run_opening.specs.LeftLaws.{Beside, FamilyKeeps, KeepsCounted, beside-as, beside-at, beside-from, keeps-left}
use Rattle.run_opening.specs.FloorLaws.{enlisted-floored}
use Rattle.run_opening.specs.Opened.{IsFloored, keeps}
use Rattle.run_opening.specs.Steps.{bare}

-- ---- stores

module _ {S : Type 0} (durable : S → Option Durable) (may : S → Durable → Type 0) where
  -- what the next openings may find are parts of changes of what the stores kept
  pub found-parts : (parts : ℕ → ℕ → Durable → Durable) (F : List Durable) (old new : List S) → AreKept durable old F → length new ≡ length old → LeavesAll durable may parts old new → (lasts : List Durable) → MayBeFound may new lasts
      → AreParts parts F lasts
  found-parts parts F old new kept many leaves lasts found = record {
    many = found.many ∙ many ∙ sym kept.many;
    each = λ t d g at bt.
        let x = at-within old t (subst (λ n. t < n) kept.many (slice_get_within F t d at)) in
        let y = at-within new t (subst (λ n. t < n) (sym many) (slice_get_within old t x.0 x.1)) in
        leaves t x.0 y.0 x.1 y.1 d g (kept.each t x.0 d x.1 at) (found.each t y.0 g y.1 bt);
  }

-- ---- one target

-- it keeps its versions, entries and snapshots; what its lease covers it covers
record StaysAlike (d g : Durable) : Type 0 where
  versions : g.versions ≡ d.versions
  entries : g.entries ≡ d.entries
  snaps : g.snaps ≡ d.snaps
  floored : IsFloored d → IsFloored g
  floors : All (λ r. r.floor.0 ≤ restart_floor d.lease) d.conts → All (λ r. r.floor.0 ≤ restart_floor d.lease) g.conts
  aggregated : All (λ r. r.aggregated.0 ≤ restart_floor d.lease) d.conts → All (λ r. r.aggregated.0 ≤ restart_floor d.lease) g.conts
  counted : StaysCounted d g

enlisted-stays : (cs : List ContId) (n : ℕ) (d : Durable) → StaysAlike d (or_not (enlisted cs) n d)
unfolding enlisted
enlisted-stays cs zero d = record { versions = refl; entries = refl; snaps = refl; floored = λ low. low; floors = λ all. all; aggregated = λ all. all; counted = record { lease = refl; incarnation = refl } }
enlisted-stays cs (suc n) d = record {
  versions = refl;
  entries = refl;
  snaps = refl;
  floored = enlisted-floored cs d;
  floors = λ all. rows-hold (λ r. r.floor.0 ≤ restart_floor d.lease) (λ a. omega arith) cs d.conts all;
  aggregated = λ all. rows-hold (λ r. r.aggregated.0 ≤ restart_floor d.lease) (λ a. omega arith) cs d.conts all;
  counted = record { lease = refl; incarnation = refl };
}

-- ---- all targets

entry-same : (d g : Durable) → g.entries ≡ d.entries → (x : AttemptId) → entry_of g x ≡ entry_of d x
unfolding entry_of
entry-same d g same x = ap (find (is_entry_of x)) same

-- their entries alone
abbrev bared : Durable → Durable
bared d = bare d.entries

bared-same : (F G : List Durable) → Beside StaysAlike F G → map bared G ≡ map bared F
bared-same [] [] b = refl
bared-same [] (g ∷ G) b = absurd b
bared-same (d ∷ F) [] b = absurd b
bared-same (d ∷ F) (g ∷ G) b = ap (λ es. bare es ∷ map bared G) b.0.entries ∙ ap (λ ys. bared d ∷ ys) (bared-same F G b.1)

created-same : (F G : List Durable) → Beside StaysAlike F G → created_snaps G ≡ created_snaps F
created-same [] [] b = refl
created-same [] (g ∷ G) b = absurd b
created-same (d ∷ F) [] b = absurd b
created-same (d ∷ F) (g ∷ G) b = ap (filter is_created) b.0.snaps

frozen-same : (d g : Durable) (x : Snap) → g.snaps ≡ d.snaps → is_frozen d x.cont x.epoch ≡ true → is_frozen g x.cont x.epoch ≡ true
unfolding is_frozen
frozen-same d g x same h = ap (list_any (is_snap_at x.cont x.epoch)) same ∙ h

module _ (F G : List Durable) (k : Sound F) (b : Beside StaysAlike F G) where
  resolved-same : (x : AttemptId) → resolved G x ≡ resolved F x
  resolved-same x = sym (resolved-alike bared (λ d. refl) G x) ∙ ap (λ H. resolved H x) (bared-same F G b) ∙ resolved-alike bared (λ d. refl) F x

  of-entry : (d g : Durable) → StaysAlike d g → (v : Version) → IsOfEntry d v → IsOfEntry g v
  of-entry d g s v own open' = let e = own open' in (e.0, entry-same d g s.entries v.by ∙ e.1, e.2, e.3)

  alike-counted : (t : ℕ) (d g : Durable) → slice_get F t ≡ Some d → StaysAlike d g → KeepsCounted F G d g
  alike-counted t d g at s =
      let o = k.targets t d at in
      record {
        writes = λ p blind.
            ap (λ vs. writes_in (filter (λ v. counts G v && p v) vs)) s.versions
            ∙ ap (λ (q : AttemptId → Bool). writes_in (filter (λ v. (v.done || q v.by) && p v) d.versions)) (λ i x. resolved-same x i);
        versions = λ v i. (v, subst (Has v) s.versions i, refl);
        unsettled = λ v i. of-entry d g s v (has-all (IsOfEntry d) d.versions v o.unsettled (subst (Has v) s.versions i));
        single = subst (AllPairs (λ v w. version_key v ≢ version_key w)) (sym s.versions) o.single;
        entries = λ e i. (e, subst (Has e) s.entries i, refl, record { epoch = refl; leader = refl; members = refl });
        snaps = λ x i. subst (Has x) s.snaps i;
        floors = s.floors;
        aggregated = s.aggregated;
        floored = s.floored;
        counted = s.counted;
      }

  alike-keeps : FamilyKeeps F G
  alike-keeps = record {
    beside = beside-as StaysAlike (KeepsCounted F G) F G b (λ t d g at bt s. alike-counted t d g at s);
    created = λ x i. subst (Has x) (created-same F G b) i;
    frozen = λ t g bt x i.
        let d = beside-at StaysAlike F G t g b bt in
        frozen-same d.0 g x d.2.snaps (has-all (λ y. is_frozen d.0 y.cont y.epoch ≡ true) (created_snaps F) x (k.targets t d.0 d.1).frozen (subst (Has x) (created-same F G b) i));
  }

-- wherever enlisting is cut
pub enlisting-left : (s : Script) (cs : List ContId) (F G : List Durable) → Sound F → AreParts (λ t. or_not (enlisted cs)) F G → IsLeftOf s F G
enlisting-left s cs F G k p =
    keeps-left F G (alike-keeps F G k beside) k s (λ x i. subst (Has x) (sym (created-same F G beside)) (has-from_filter (keeps s) (created_snaps F) x i).0)
  where
    beside : Beside StaysAlike F G
    beside = beside-from StaysAlike F G p.many (λ t d g at bt. let n = p.each t d g at bt in subst (StaysAlike d) (sym n.1) (enlisted-stays cs n.0 d))

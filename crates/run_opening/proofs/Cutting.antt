-- What an opening leaves of targets that are sound together, wherever it is cut.
use Rattle.std.specs.Prelude.{ℕ, ◌≡◌, ◌≢◌, ◌≤◌, ◌+◌, ◌^◌, ◌==◌, ◌&&◌, ◌||◌, not, nat_lt, is_some, Bool, true, false, All, AllPairs, List, [], ◌∷◌, filter, length, slice_get, Option, Some, None, refl}
use Rattle.std.specs.List.{list_any}
use Rattle.std.proofs.Common.{sym, ◌∙◌, ap, subst}
use Rattle.base_types.specs.declared.entry.Entry.{Entry}
use Rattle.base_types.specs.declared.id.AttemptId.{AttemptId}
use Rattle.base_types.specs.declared.snapshot.Snap.{Snap}
use Rattle.base_types.specs.Epochs.{restart_floor}
use Rattle.model_laws.specs.DecidedLaws.{has-all}
use Rattle.model_laws.specs.EntryLaws.{found-passes}
use Rattle.model_laws.specs.MatchLaws.{filter_on}
use Rattle.model_laws.specs.Members.{Has, has-filter, has-from_filter}
use Rattle.daos_model.specs.declared.durable.Durable.{Durable}
use Rattle.daos_model.specs.declared.durable.Version.{Version}
use Rattle.daos_model.specs.BoolLaws.{and_left, and_right, both, clash, false_of, or_left, or_right}
use Rattle.daos_model.specs.Durables.{entry_of, is_entry_of, is_frozen, is_snap_at, version_key}
use Rattle.daos_model.specs.Family.{all_hold_from, counts, created_snaps, holds, is_created, is_in_field, is_resolved_entry, is_within, resolved}
use Rattle.daos_model.specs.Sound.{IsOfEntry, Sound}
use Rattle.daos_model.specs.Versions.{writes_in}
use Rattle.dtx_base.specs.LeaderLaws.{same-is}
use Rattle.run_opening.specs.FloorLaws.{fewer-floored}
use Rattle.run_opening.specs.Left.{StaysCounted}
use Rattle.run_opening.specs.LeftLaws.{Beside, FamilyKeeps, KeepsCounted, beside-as, beside-at, beside-many}
use Rattle.run_opening.proofs.Settling.{EntryLeft, Stays, IsCommitted, IsGone, IsSettled}

-- ---- attempts are settled

-- an entry that is found is of its attempt
of-its : (d : Durable) (x : AttemptId) (e : Entry) → entry_of d x ≡ Some e → e.attempt ≡ x
unfolding entry_of
of-its d x e at = same-is e.attempt x (found-passes (is_entry_of x) d.entries e at)

-- where each target that holds an attempt holds it still, all that an entry names do
hold-more : (R : Durable → Durable → Type 0) (e : Entry) → ((d g : Durable) → R d g → holds e.attempt d ≡ true → holds e.attempt g ≡ true) → (t : ℕ) (F G : List Durable) → Beside R F G → all_hold_from t e F ≡ true → all_hold_from t e G ≡ true
hold-more R e more t [] [] b h = refl
hold-more R e more t [] (g ∷ G) b h = absurd b
hold-more R e more t (d ∷ F) [] b h = absurd b
hold-more R e more t (d ∷ F) (g ∷ G) b h =
    both (holds e.attempt g || not (is_in_field e.members t || e.leader == t)) (all_hold_from (t + 1) e G)
    (by (holds e.attempt d) (not (is_in_field e.members t || e.leader == t)) refl (and_left (holds e.attempt d || not (is_in_field e.members t || e.leader == t)) (all_hold_from (t + 1) e F) h))
    (hold-more R e more (t + 1) F G b.1 (and_right (holds e.attempt d || not (is_in_field e.members t || e.leader == t)) (all_hold_from (t + 1) e F) h))
  where
    on : (b c : Bool) → b ≡ true → (b || c) ≡ true
    on true c is = refl
    on false c is = let no : ⊥ = cc in absurd no

    last : (b c : Bool) → c ≡ true → (b || c) ≡ true
    last true c is = refl
    last false c is = is

    by : (b c : Bool) → holds e.attempt d ≡ b → (b || c) ≡ true → (holds e.attempt g || c) ≡ true
    by true c is or = on (holds e.attempt g) c (more d g b.0 is)
    by false c is or = last (holds e.attempt g) c or

-- it is the other way round too
hold-less : (R : Durable → Durable → Type 0) (e : Entry) → ((d g : Durable) → R d g → holds e.attempt g ≡ true → holds e.attempt d ≡ true) → (t : ℕ) (F G : List Durable) → Beside R F G → all_hold_from t e G ≡ true → all_hold_from t e F ≡ true
hold-less R e more t F G b h = hold-more (λ g d. R d g) e (λ g d k. more d g k) t G F (turned F G b) h
  where
    turned : (F G : List Durable) → Beside R F G → Beside (λ g d. R d g) G F
    turned [] [] b = tt
    turned [] (g ∷ G) b = absurd b
    turned (d ∷ F) [] b = absurd b
    turned (d ∷ F) (g ∷ G) b = (b.0, turned F G b.1)

-- a resolved attempt is held where it was
held-still : (d g : Durable) (x : AttemptId) (b : Bool) → b ≡ true → EntryLeft b (entry_of d x) (entry_of g x) → holds x d ≡ true → holds x g ≡ true
held-still d g x b is (Stays same) h = ap is_some same ∙ h
held-still d g x b is (IsCommitted e here there so) h = ap is_some there
held-still d g x b is (IsGone none not') h = clash b is not'

-- and no attempt is held where it wasn't
held-before : (d g : Durable) (x : AttemptId) (b : Bool) → EntryLeft b (entry_of d x) (entry_of g x) → holds x g ≡ true → holds x d ≡ true
held-before d g x b (Stays same) h = sym (ap is_some same) ∙ h
held-before d g x b (IsCommitted e here there so) h = ap is_some here
held-before d g x b (IsGone none not') h = clash (holds x g) h (ap is_some none)

-- target 0 holds the same as created
pub settled-created : (r : AttemptId → Bool) (F G : List Durable) → Beside (IsSettled r) F G → created_snaps G ≡ created_snaps F
settled-created r [] [] c = refl
settled-created r [] (g ∷ G) c = absurd c
settled-created r (d ∷ F) [] c = absurd c
settled-created r (d ∷ F) (g ∷ G) c = ap (filter is_created) c.0.snaps

-- what is frozen stays so
frozen-as : (d g : Durable) (x : Snap) → g.snaps ≡ d.snaps → is_frozen d x.cont x.epoch ≡ true → is_frozen g x.cont x.epoch ≡ true
unfolding is_frozen
frozen-as d g x same h = ap (list_any (is_snap_at x.cont x.epoch)) same ∙ h

module _ (F G : List Durable) (b : Beside (IsSettled (resolved F)) F G) where
  many : length G ≡ length F
  many = beside-many (IsSettled (resolved F)) F G b

  within-same : (e : Entry) → is_within G e ≡ is_within F e
  within-same e = ap (λ n. nat_lt e.leader n && nat_lt e.members (2 ^ n)) many

  -- an entry of a resolved attempt that is resolved is so still
  resolved-still : (x : AttemptId) → resolved F x ≡ true → (d g : Durable) → IsSettled (resolved F) d g → is_resolved_entry F (entry_of d x) ≡ true → is_resolved_entry G (entry_of g x) ≡ true
  resolved-still x is d g k h = by (entry_of d x) (entry_of g x) refl (k.entry x) h
    where
      named : (e : Entry) → e.attempt ≡ x → (e.committed || (is_within F e && all_hold_from 0 e F)) ≡ true → (e.committed || (is_within G e && all_hold_from 0 e G)) ≡ true
      named e its h = one e.committed h
        where
          one : (c : Bool) → (c || (is_within F e && all_hold_from 0 e F)) ≡ true → (c || (is_within G e && all_hold_from 0 e G)) ≡ true
          one true h = refl
          one false h =
              both (is_within G e) (all_hold_from 0 e G) (within-same e ∙ and_left (is_within F e) (all_hold_from 0 e F) h)
              (hold-more (IsSettled (resolved F)) e (λ d g k. held-still d g e.attempt (resolved F e.attempt) (ap (resolved F) its ∙ is) (k.entry e.attempt)) 0 F G b (and_right (is_within F e) (all_hold_from 0 e F) h))

      by : (o p : Option Entry) → entry_of d x ≡ o → EntryLeft (resolved F x) o p → is_resolved_entry F o ≡ true → is_resolved_entry G p ≡ true
      by None p at k h = let no : ⊥ = cc in absurd no
      by (Some e) p at (Stays same) h = ap (is_resolved_entry G) same ∙ named e (of-its d x e at) h
      by (Some e) p at (IsCommitted f here there so) h = ap (is_resolved_entry G) there
      by (Some e) p at (IsGone none not') h = clash (resolved F x) is not'

  -- an entry of one that isn't is none that is resolved
  unresolved-still : (x : AttemptId) → resolved F x ≡ false → (d g : Durable) → IsSettled (resolved F) d g → is_resolved_entry F (entry_of d x) ≡ false → is_resolved_entry G (entry_of g x) ≡ false
  unresolved-still x is d g k h = by (entry_of d x) (entry_of g x) (k.entry x) h
    where
      named : (e : Entry) → (e.committed || (is_within F e && all_hold_from 0 e F)) ≡ false → (e.committed || (is_within G e && all_hold_from 0 e G)) ≡ false
      named e h = one e.committed h
        where
          one : (c : Bool) → (c || (is_within F e && all_hold_from 0 e F)) ≡ false → (c || (is_within G e && all_hold_from 0 e G)) ≡ false
          one true h = h
          one false h =
              false_of (is_within G e && all_hold_from 0 e G) (λ on.
              clash (is_within F e && all_hold_from 0 e F)
              (both (is_within F e) (all_hold_from 0 e F) (sym (within-same e) ∙ and_left (is_within G e) (all_hold_from 0 e G) on)
              (hold-less (IsSettled (resolved F)) e (λ d g k. held-before d g e.attempt (resolved F e.attempt) (k.entry e.attempt)) 0 F G b (and_right (is_within G e) (all_hold_from 0 e G) on))) h)

      by : (o p : Option Entry) → EntryLeft (resolved F x) o p → is_resolved_entry F o ≡ false → is_resolved_entry G p ≡ false
      by None p (Stays same) h = ap (is_resolved_entry G) same
      by (Some e) p (Stays same) h = ap (is_resolved_entry G) same ∙ named e h
      by o p (IsCommitted f here there so) h = clash (resolved F x) so is
      by o p (IsGone none not') h = ap (is_resolved_entry G) none

  any-still : (x : AttemptId) → resolved F x ≡ true → (ds gs : List Durable) → Beside (IsSettled (resolved F)) ds gs → list_any (λ d. is_resolved_entry F (entry_of d x)) ds ≡ true → list_any (λ g. is_resolved_entry G (entry_of g x)) gs ≡ true
  any-still x is [] [] c h = h
  any-still x is [] (g ∷ gs) c h = absurd c
  any-still x is (d ∷ ds) [] c h = absurd c
  any-still x is (d ∷ ds) (g ∷ gs) c h = by (is_resolved_entry F (entry_of d x)) refl (any-still x is ds gs c.1) h
    where
      later : (b c : Bool) → c ≡ true → (b || c) ≡ true
      later true c is = refl
      later false c is = is

      by : (a : Bool) → is_resolved_entry F (entry_of d x) ≡ a → (list_any (λ d. is_resolved_entry F (entry_of d x)) ds ≡ true → list_any (λ g. is_resolved_entry G (entry_of g x)) gs ≡ true)
          → (a || list_any (λ d. is_resolved_entry F (entry_of d x)) ds) ≡ true → (is_resolved_entry G (entry_of g x) || list_any (λ g. is_resolved_entry G (entry_of g x)) gs) ≡ true
      by true at rest h = ap (λ z. z || list_any (λ g. is_resolved_entry G (entry_of g x)) gs) (resolved-still x is d g c.0 at)
      by false at rest h = later (is_resolved_entry G (entry_of g x)) (list_any (λ g. is_resolved_entry G (entry_of g x)) gs) (rest h)

  none-still : (x : AttemptId) → resolved F x ≡ false → (ds gs : List Durable) → Beside (IsSettled (resolved F)) ds gs → list_any (λ d. is_resolved_entry F (entry_of d x)) ds ≡ false → list_any (λ g. is_resolved_entry G (entry_of g x)) gs ≡ false
  none-still x is [] [] c h = h
  none-still x is [] (g ∷ gs) c h = absurd c
  none-still x is (d ∷ ds) [] c h = absurd c
  none-still x is (d ∷ ds) (g ∷ gs) c h =
      ap (λ z. z || list_any (λ g. is_resolved_entry G (entry_of g x)) gs) (unresolved-still x is d g c.0 (or_left (is_resolved_entry F (entry_of d x)) (list_any (λ d. is_resolved_entry F (entry_of d x)) ds) h))
      ∙ none-still x is ds gs c.1 (or_right (is_resolved_entry F (entry_of d x)) (list_any (λ d. is_resolved_entry F (entry_of d x)) ds) h)

  any-true : (x : AttemptId) → resolved F x ≡ true → resolved G x ≡ true
  unfolding resolved
  any-true x is = any-still x is F G b is

  none-true : (x : AttemptId) → resolved F x ≡ false → resolved G x ≡ false
  unfolding resolved
  none-true x is = none-still x is F G b is

  -- the same attempts are resolved
  same-at : (x : AttemptId) → resolved G x ≡ resolved F x
  same-at x = by (resolved F x) refl
    where
      by : (c : Bool) → resolved F x ≡ c → resolved G x ≡ resolved F x
      by true is = any-true x is ∙ sym is
      by false is = none-true x is ∙ sym is

  pub settled-resolves : resolved G ≡ resolved F
  settled-resolves = λ i x. same-at x i

  -- so what counts stays at each target
  settled-counted : Sound F → (t : ℕ) (d g : Durable) → slice_get F t ≡ Some d → IsSettled (resolved F) d g → KeepsCounted F G d g
  settled-counted s t d g at k =
      let o = s.targets t d at in
      record {
        writes = λ p blind. ap (λ q. writes_in (filter (λ v. (v.done || q v.by) && p v) g.versions)) settled-resolves ∙ k.writes p blind;
        versions = k.versions;
        unsettled = k.unsettled (λ v i. has-all (IsOfEntry d) d.versions v o.unsettled i);
        single = k.single o.single;
        entries = k.entries;
        snaps = λ x i. subst (Has x) k.snaps i;
        floors = λ all. subst (All (λ r. r.floor.0 ≤ restart_floor d.lease)) (sym k.conts) all;
        aggregated = λ all. subst (All (λ r. r.aggregated.0 ≤ restart_floor d.lease)) (sym k.conts) all;
        floored = fewer-floored d g (λ x i. subst (Has x) k.snaps i) k.conts;
        counted = k.counted;
      }

  pub settled-keeps : Sound F → FamilyKeeps F G
  settled-keeps s = record {
    beside = beside-as (IsSettled (resolved F)) (KeepsCounted F G) F G b (λ t d g at bt k. settled-counted s t d g at k);
    created = λ x i. subst (Has x) (settled-created (resolved F) F G b) i;
    frozen = λ t g at x i.
        let d = beside-at (IsSettled (resolved F)) F G t g b at in
        frozen-as d.0 g x (d.2).snaps (has-all (λ y. is_frozen d.0 y.cont y.epoch ≡ true) (created_snaps F) x (s.targets t d.0 d.1).frozen (subst (Has x) (settled-created (resolved F) F G b) i));
  }

-- ---- entries are forgotten

-- All is done at a target: its versions, and so no entry keeps one from counting.
abbrev pub AllDone : Durable → Type 0
AllDone d = (v : Version) → Has v d.versions → v.done ≡ true

-- it keeps its versions, and the rest of its entries and of its snapshots
pub record IsLess (d g : Durable) : Type 0 where
  pub versions : g.versions ≡ d.versions
  pub entries : (e : Entry) → Has e g.entries → Has e d.entries
  pub snaps : (x : Snap) → Has x g.snaps → Has x d.snaps
  pub conts : g.conts ≡ d.conts
  pub counted : StaysCounted d g

pub less-itself : (d : Durable) → IsLess d d
less-itself d = record { versions = refl; entries = λ e i. i; snaps = λ x i. i; conts = refl; counted = record { lease = refl; incarnation = refl } }

pub less-then : (d m g : Durable) → IsLess d m → IsLess m g → IsLess d g
less-then d m g a b = record {
  versions = b.versions ∙ a.versions;
  entries = λ e i. a.entries e (b.entries e i);
  snaps = λ x i. a.snaps x (b.snaps x i);
  conts = b.conts ∙ a.conts;
  counted = record { lease = b.counted.lease ∙ a.counted.lease; incarnation = b.counted.incarnation ∙ a.counted.incarnation };
}

-- where all versions are done, each of them counts
less-counted : (F G : List Durable) (d g : Durable) → AllDone d → AllPairs (λ v w. version_key v ≢ version_key w) d.versions → IsLess d g → KeepsCounted F G d g
less-counted F G d g done single k = record {
  writes = λ p blind.
      ap (λ vs. writes_in (filter (λ v. counts G v && p v) vs)) k.versions
      ∙ ap writes_in (filter_on (λ v. counts G v && p v) (λ v. counts F v && p v) d.versions (λ v i. ap (λ b. (b || resolved G v.by) && p v) (done v i) ∙ sym (ap (λ b. (b || resolved F v.by) && p v) (done v i))));
  versions = λ v i. (v, subst (Has v) k.versions i, refl);
  unsettled = λ v i open'. clash v.done (done v (subst (Has v) k.versions i)) open';
  single = subst (AllPairs (λ v w. version_key v ≢ version_key w)) (sym k.versions) single;
  entries = λ e i. (e, k.entries e i, refl, record { epoch = refl; leader = refl; members = refl });
  snaps = k.snaps;
  floors = λ all. subst (All (λ r. r.floor.0 ≤ restart_floor d.lease)) (sym k.conts) all;
  aggregated = λ all. subst (All (λ r. r.aggregated.0 ≤ restart_floor d.lease)) (sym k.conts) all;
  floored = fewer-floored d g k.snaps k.conts;
  counted = k.counted;
}

-- all is done everywhere
abbrev pub AreDone : List Durable → Type 0
AreDone F = (t : ℕ) (d : Durable) → slice_get F t ≡ Some d → AllDone d

pub less-created : (F G : List Durable) → Beside IsLess F G → (x : Snap) → Has x (created_snaps G) → Has x (created_snaps F)
less-created [] [] b x i = i
less-created [] (g ∷ G) b x i = absurd b
less-created (d ∷ F) [] b x i = absurd b
less-created (d ∷ F) (g ∷ G) b x i = let j = has-from_filter is_created g.snaps x i in has-filter is_created d.snaps x (b.0.snaps x j.0) j.1

pub less-keeps : (F G : List Durable) → Sound F → AreDone F → Beside IsLess F G → ((t : ℕ) (g : Durable) → slice_get G t ≡ Some g → (x : Snap) → Has x (created_snaps G) → is_frozen g x.cont x.epoch ≡ true) → FamilyKeeps F G
less-keeps F G s done b frozen = record {
  beside = beside-as IsLess (KeepsCounted F G) F G b (λ t d g at bt k. less-counted F G d g (done t d at) (s.targets t d at).single k);
  created = less-created F G b;
  frozen = frozen;
}

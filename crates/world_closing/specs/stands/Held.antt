-- Targets hold all that an opening stands for, where that is what they stand for together.
use Rattle.std.specs.Prelude.{ℕ, ◌≡◌, ◌<◌, ◌^◌, ◌&&◌, ◌==◌, Bool, true, false, List, [], ◌∷◌, length, map, slice_get, Some, refl, if◌then◌else◌}
use Rattle.std.proofs.Common.{inl, inr, sym, ◌∙◌, ap, subst, arith}
use Rattle.base_types.specs.declared.snapshot.Snap.{Snap}
use Rattle.base_types.specs.Placement.{path_leader}
use Rattle.model_laws.specs.FamilyLaws.{HasNoneUnowned, IsFamilyInForm, leader-within, versions-objects}
use Rattle.model_laws.specs.Lists.{at-within, has-at, place-of}
use Rattle.model_laws.specs.Members.{Has, contains-from_has, has-from_contains, has-from_map}
use Rattle.model_laws.specs.RisingLaws.{after-has}
use Rattle.model_laws.specs.TargetLaws.{families-dkeys, family-leaders, number_same, same_number}
use Rattle.daos_model.specs.declared.durable.Durable.{Durable}
use Rattle.daos_model.specs.declared.durable.Version.{Version}
use Rattle.daos_model.specs.Answers.{is_before}
use Rattle.daos_model.specs.BoolLaws.{and_left, and_right, both, clash, false_of}
use Rattle.daos_model.specs.Durables.{IsInForm, snap_key}
use Rattle.daos_model.specs.Family.{counts, counts_below, created_snaps, family_map, greatest_lease, is_created, snap_map, stand}
use Rattle.daos_model.specs.FormLaws.{length-map}
use Rattle.daos_model.specs.Opening.{Opening, kept_map}
use Rattle.daos_model.specs.OrderLaws.{before-itself, rising-filter}
use Rattle.daos_model.specs.Ordered.{all_after, is_rising}
use Rattle.world_base.specs.declared.target.TargetState.{TargetState}
use Rattle.world_base.specs.declared.world.World.{World}
use Rattle.world_answers.specs.world_making.making.Snapshots.{holds_created}
use Rattle.world_upheld.specs.below.Legal.{from-durables, durable_of, durables_of}
use Rattle.world_closing.specs.stands.Containers.{part-outside, part-unowned}
use Rattle.world_closing.specs.stands.Created.{created-from}
use Rattle.world_closing.specs.stands.Stands.{HoldsOpenings, IsHeldFirst}

-- Where targets keep durables in form, and an opening stands for what they stand for together, with the greatest of their leases, they hold it.
abbrev pub OpenedAreHeld : Type 0
OpenedAreHeld =
    (o : Opening) (w : World) → 0 < length w.targets → ((t : ℕ) (s : TargetState) → slice_get w.targets t ≡ Some s → IsInForm s.durable) → o.stand ≡ stand (durables_of w)
    → o.lease ≡ greatest_lease (durables_of w) → HoldsOpenings o w

-- ---- families in form

greatest-below : (F : List Durable) (n : ℕ) → 0 < n → ((d : Durable) → Has d F → d.lease < n) → greatest_lease F < n
greatest-below [] n some low = some
greatest-below (d ∷ F) n some low = let one : d.lease < n = low d (inl refl) in let rest : greatest_lease F < n = greatest-below F n some (λ e i. low e (inr i)) in omega (arith, one, rest)

-- no cell that no target may hold is in the map of a family in form
family-unowned : (F : List Durable) (p : Version → Bool) → 0 < length F → IsFamilyInForm F → HasNoneUnowned (family_map p F)
family-unowned F p some form c (inl dkey) = families-dkeys F p form c dkey
family-unowned F p some form c (inr obj) =
    let d = at-within F (path_leader c.path (length F)) (leader-within c.path (length F) some) in
    family-leaders F p c d.0 d.1 ∙ versions-objects p d.0.versions c (form d.0 (contains-from_has F d.0 (has-at F (path_leader c.path (length F)) d.0 d.1))) obj

-- of snapshots in order no two have one name
once : (F : List Durable) (ss : List Snap) (s : Snap) → is_rising snap_key ss ≡ true → Has s ss → kept_map s.cont s.epoch.0 (map (snap_map F) ss) ≡ Some (snap_map F s).map
once F [] s rises i = absurd i
once F (x ∷ ss) s rises (inl same) =
    ap (λ (b : Bool). if b then Some (snap_map F x).map else kept_map s.cont s.epoch.0 (map (snap_map F) ss))
    (ap (λ y. (x.cont.0 == y.cont.0) && (x.epoch.0 == y.epoch.0)) same ∙ both (x.cont.0 == x.cont.0) (x.epoch.0 == x.epoch.0) (same_number x.cont.0) (same_number x.epoch.0))
    ∙ ap (λ y. Some (snap_map F y).map) (sym same)
once F (x ∷ ss) s rises (inr i) =
    ap (λ (b : Bool). if b then Some (snap_map F x).map else kept_map s.cont s.epoch.0 (map (snap_map F) ss)) other
    ∙ once F ss s (and_right (all_after snap_key (snap_key x) ss) (is_rising snap_key ss) rises) i
  where
    later : is_before (snap_key x) (snap_key s) ≡ true
    later = after-has snap_key (snap_key x) ss s (and_left (all_after snap_key (snap_key x) ss) (is_rising snap_key ss) rises) i

    other : ((x.cont.0 == s.cont.0) && (x.epoch.0 == s.epoch.0)) ≡ false
    other = false_of ((x.cont.0 == s.cont.0) && (x.epoch.0 == s.epoch.0)) (λ own.
        clash (is_before (snap_key x) (snap_key s)) later
        (ap (λ n. is_before (snap_key x) (n ∷ s.epoch.0 ∷ [])) (sym (number_same x.cont.0 s.cont.0 (and_left (x.cont.0 == s.cont.0) (x.epoch.0 == s.epoch.0) own)))
        ∙ ap (λ n. is_before (snap_key x) (x.cont.0 ∷ n ∷ [])) (sym (number_same x.epoch.0 s.epoch.0 (and_right (x.cont.0 == s.cont.0) (x.epoch.0 == s.epoch.0) own)))
        ∙ before-itself (snap_key x)))

-- ---- the law

module _ (o : Opening) (w : World) (some : 0 < length w.targets) (forms : (t : ℕ) (s : TargetState) → slice_get w.targets t ≡ Some s → IsInForm s.durable) where
  abbrev F : List Durable
  F = durables_of w

  each-form : (d : Durable) → Has d F → IsInForm d
  each-form d i = let p = place-of F d i in let z = from-durables w.targets p.0 d p.1 in subst IsInForm z.2 (forms p.0 z.0 z.1)

  in-form : IsFamilyInForm F
  in-form d i = (each-form d (has-from_contains F d i)).writes

  some-there : 0 < length F
  some-there = subst (λ n. 0 < n) (sym (length-map durable_of w.targets)) some

  created-rise : is_rising snap_key (created_snaps F) ≡ true
  created-rise = by F each-form
    where
      by : (G : List Durable) → ((d : Durable) → Has d G → IsInForm d) → is_rising snap_key (created_snaps G) ≡ true
      by [] each = refl
      by (d ∷ G) each = rising-filter snap_key is_created d.snaps (each d (inl refl)).snaps

  -- one that the family stands for
  held-first : (s : Snap) → Has s (created_snaps F) → kept_map s.cont s.epoch.0 o.stand.snaps ≡ Some (snap_map F s).map → IsHeldFirst o w (snap_map F s)
  held-first s i kept = record {
    created = λ z here. (let y = created-from w s i in let first : Some y.z ≡ Some z = sym y.here ∙ here in let same : y.z ≡ z = cc (first) in subst (λ x. holds_created x.durable s.cont s.epoch ≡ true) same y.created);
    once = kept;
    map = record {
      outside = part-outside s.cont (family_map (counts_below F s.epoch.0) F);
      unowned = part-unowned s.cont (family_map (counts_below F s.epoch.0) F) (family-unowned F (counts_below F s.epoch.0) some-there in-form);
    };
  }

  module _ (stands : o.stand ≡ stand F) (leases : o.lease ≡ greatest_lease F) where
    snaps-are : o.stand.snaps ≡ map (snap_map F) (created_snaps F)
    unfolding stand
    snaps-are = ap (λ x. x.snaps) stands

    now-is : o.stand.now ≡ family_map (counts F) F
    unfolding stand
    now-is = ap (λ x. x.now) stands

    pub holds-opening : HoldsOpenings o w
    holds-opening = record {
      unowned = subst HasNoneUnowned (sym now-is) (family-unowned F (counts F) some-there in-form);
      lease = subst (λ n. n < 2 ^ 56) (sym leases) (greatest-below F (2 ^ 56) (omega arith) (λ d i. (each-form d i).lease));
      snaps = λ k i. (
          let z = has-from_map (snap_map F) (created_snaps F) k (subst (Has k) snaps-are (has-from_contains o.stand.snaps k i)) in
          subst (IsHeldFirst o w) z.2
          (held-first z.0 z.1 (ap (kept_map z.0.cont z.0.epoch.0) snaps-are ∙ once F (created_snaps F) z.0 created-rise z.1)));
    }

pub opened-are_held : OpenedAreHeld
opened-are_held o w some forms stands leases = holds-opening o w some forms stands leases

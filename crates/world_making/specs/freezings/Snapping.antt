-- What becomes of the snapshots that a target keeps.
use Rattle.std.specs.Prelude.{ℕ, ◌≡◌, ◌⊎◌, ◌==◌, ◌&&◌, ◌||◌, Bool, true, false, List, [], ◌∷◌, map, Option, Some, None, refl, if◌then◌else◌}
use Rattle.std.specs.List.{list_any}
use Rattle.std.proofs.Common.{sym, ◌∙◌, ap, subst, inl, inr}
use Rattle.base_types.specs.declared.epoch.Epoch.{Epoch}
use Rattle.base_types.specs.declared.id.ContId.{ContId}
use Rattle.base_types.specs.declared.outcome.FloorWhy.TheVariants.{Snapshot}
use Rattle.base_types.specs.declared.snapshot.Snap.{Snap}
use Rattle.model_laws.specs.Members.{Has, any-has, has-any, has-from_map, has-map}
use Rattle.model_laws.specs.TargetLaws.{number_same, same_number}
use Rattle.daos_model.specs.declared.durable.Durable.{Durable}
use Rattle.daos_model.specs.Answers.{is_before}
use Rattle.daos_model.specs.BoolLaws.{and_left, and_right, both, clash}
use Rattle.daos_model.specs.Changes.{created, created_at, frozen, marked, new_snap, pruned, raised_at, with_versions}
use Rattle.daos_model.specs.Durables.{is_frozen, is_snap_at, snap_key}
use Rattle.daos_model.specs.Ordered.{put}
use Rattle.world_base.specs.ChangeLaws.{snaps-made}
use Rattle.world_base.specs.Changes.{After, Before, Change, Creates, Cut, Extends, Freezes, InPart, IsPartly, Kept, Prepares, Prunes, Settles, Steps, made}
use Rattle.world_base.specs.ClientTurns.{is_created_at}
use Rattle.world_making.specs.making.Snapshots.{holds_created}

-- What is frozen and created stays so; what else is frozen then is among these, and what else is created among those.
pub record Snapping (F C : ContId → Epoch → Type 0) (d e : Durable) : Type 0 where
  pub stays : (c : ContId) (s : Epoch) → is_frozen d c s ≡ true → is_frozen e c s ≡ true
  pub kept : (c : ContId) (s : Epoch) → holds_created d c s ≡ true → holds_created e c s ≡ true
  pub froze : (c : ContId) (s : Epoch) → is_frozen e c s ≡ true → (is_frozen d c s ≡ true) ⊎ F c s
  pub made : (c : ContId) (s : Epoch) → holds_created e c s ≡ true → (holds_created d c s ≡ true) ⊎ C c s

-- ---- one after another

pub snapping-then : (F C : ContId → Epoch → Type 0) (d e f : Durable) → Snapping F C d e → Snapping F C e f → Snapping F C d f
snapping-then F C d e f k l = record {
  stays = λ c s is. l.stays c s (k.stays c s is);
  kept = λ c s is. l.kept c s (k.kept c s is);
  froze = λ c s is. elim (l.froze c s is) [ inl was ↦ k.froze c s was | inr new ↦ inr new ];
  made = λ c s is. elim (l.made c s is) [ inl was ↦ k.made c s was | inr new ↦ inr new ];
}

pub snapping-more : (F C G D : ContId → Epoch → Type 0) (d e : Durable) → ((c : ContId) (s : Epoch) → F c s → G c s) → ((c : ContId) (s : Epoch) → C c s → D c s) → Snapping F C d e → Snapping G D d e
snapping-more F C G D d e more others k = record {
  stays = k.stays;
  kept = k.kept;
  froze = λ c s is. elim (k.froze c s is) [ inl was ↦ inl was | inr new ↦ inr (more c s new) ];
  made = λ c s is. elim (k.made c s is) [ inl was ↦ inl was | inr new ↦ inr (others c s new) ];
}

frozen-same : (d e : Durable) (c : ContId) (s : Epoch) → e.snaps ≡ d.snaps → is_frozen e c s ≡ is_frozen d c s
unfolding is_frozen
frozen-same d e c s same = ap (list_any (is_snap_at c s)) same

-- where the same snapshots are kept
pub snapping-same : (F C : ContId → Epoch → Type 0) (d e : Durable) → e.snaps ≡ d.snaps → Snapping F C d e
unfolding holds_created
snapping-same F C d e same = record {
  stays = λ c s is. frozen-same d e c s same ∙ is;
  kept = λ c s is. ap (list_any (is_created_at c s)) same ∙ is;
  froze = λ c s is. inl (sym (frozen-same d e c s same) ∙ is);
  made = λ c s is. inl (sym (ap (list_any (is_created_at c s)) same) ∙ is);
}

-- ---- one snapshot

cont_of : ℕ → ContId
cont_of n = record { 0 = n }

epoch_of : ℕ → Epoch
epoch_of n = record { 0 = n }

-- at most one is of a container and an epoch
snap-is : (c : ContId) (s : Epoch) (x : Snap) → is_snap_at c s x ≡ true → (x.cont ≡ c) × (x.epoch ≡ s)
unfolding cont_of epoch_of
snap-is c s x is =
    (ap cont_of (number_same x.cont.0 c.0 (and_left (x.cont.0 == c.0) (x.epoch.0 == s.0) is)), ap epoch_of (number_same x.epoch.0 s.0 (and_right (x.cont.0 == c.0) (x.epoch.0 == s.0) is)))

pub snap-itself : (x : Snap) → is_snap_at x.cont x.epoch x ≡ true
snap-itself x = both (x.cont.0 == x.cont.0) (x.epoch.0 == x.epoch.0) (same_number x.cont.0) (same_number x.epoch.0)

-- one that is created is frozen
pub created-frozen : (d : Durable) (c : ContId) (s : Epoch) → holds_created d c s ≡ true → is_frozen d c s ≡ true
unfolding is_frozen holds_created
created-frozen d c s is = let z = has-any (is_created_at c s) d.snaps is in any-has (is_snap_at c s) d.snaps z.0 z.1 (and_left (is_snap_at c s z.0) z.0.created z.2)

-- ---- a freeze

any-put : {T : Type 0} (t : T → Bool) (key : T → List ℕ) (v : T) (us : List T) → list_any t (put key v us) ≡ (t v || list_any t us)
any-put t key v [] = refl
any-put {T = T} t key v (u ∷ us) = by (is_before (key u) (key v)) (any-put t key v us)
  where
    swap : (a b c : Bool) → (a || (b || c)) ≡ (b || (a || c))
    swap true true c = refl
    swap true false c = refl
    swap false b c = refl

    by : (b : Bool) → list_any t (put key v us) ≡ (t v || list_any t us) → list_any t (if b then u ∷ put key v us else v ∷ u ∷ us) ≡ (t v || (t u || list_any t us))
    by true rest = ap (λ x. t u || x) rest ∙ swap (t u) (t v) (list_any t us)
    by false rest = refl

none-new : (a : Bool) → (a && false) ≡ false
none-new true = refl
none-new false = refl

-- either of two holds
or-cases : (a b : Bool) → (a || b) ≡ true → (a ≡ true) ⊎ (b ≡ true)
or-cases true b is = inl refl
or-cases false b is = inr is

or-right : (a b : Bool) → b ≡ true → (a || b) ≡ true
or-right true b is = refl
or-right false b is = is

-- this snapshot alone
abbrev pub OnlyIt : ContId → Epoch → ContId → Epoch → Type 0
OnlyIt a e c s = (a ≡ c) × (e ≡ s)

-- none at all
abbrev pub NoSnaps : ContId → Epoch → Type 0
NoSnaps c s = ⊥

snapping-frozen : (a : ContId) (e : Epoch) (d : Durable) → Snapping (OnlyIt a e) NoSnaps d (frozen a e d)
unfolding frozen is_frozen holds_created
snapping-frozen a e d = by (list_any (is_snap_at a e) d.snaps)
  where
    put_in : Durable
    put_in = record d { conts = map (raised_at a e (Snapshot e)) d.conts; snaps = put snap_key (new_snap a e) d.snaps }

    new : Snapping (OnlyIt a e) NoSnaps d put_in
    new = record {
      stays = λ c s is. any-put (is_snap_at c s) snap_key (new_snap a e) d.snaps ∙ or-right (is_snap_at c s (new_snap a e)) (list_any (is_snap_at c s) d.snaps) is;
      kept = λ c s is. any-put (is_created_at c s) snap_key (new_snap a e) d.snaps ∙ or-right (is_created_at c s (new_snap a e)) (list_any (is_created_at c s) d.snaps) is;
      froze = λ c s is. elim (or-cases (is_snap_at c s (new_snap a e)) (list_any (is_snap_at c s) d.snaps) (sym (any-put (is_snap_at c s) snap_key (new_snap a e) d.snaps) ∙ is)) [
        | inl it ↦ inr (snap-is c s (new_snap a e) it)
        | inr was ↦ inl was
      ];
      made = λ c s is. elim (or-cases (is_created_at c s (new_snap a e)) (list_any (is_created_at c s) d.snaps) (sym (any-put (is_created_at c s) snap_key (new_snap a e) d.snaps) ∙ is)) [
        | inl it ↦ clash (is_created_at c s (new_snap a e)) it (none-new (is_snap_at c s (new_snap a e)))
        | inr was ↦ inl was
      ];
    }

    by : (b : Bool) → Snapping (OnlyIt a e) NoSnaps d (if b then d else put_in)
    by true = snapping-same (OnlyIt a e) NoSnaps d d refl
    by false = new

-- what was frozen is
pub frozen-there : (a : ContId) (e : Epoch) (d : Durable) → is_frozen (frozen a e d) a e ≡ true
unfolding frozen is_frozen
frozen-there a e d = by (list_any (is_snap_at a e) d.snaps) refl
  where
    own : is_snap_at a e (new_snap a e) ≡ true
    own = snap-itself (new_snap a e)

    left : (b c : Bool) → b ≡ true → (b || c) ≡ true
    left b c is = ap (λ x. x || c) is

    by : (b : Bool) → list_any (is_snap_at a e) d.snaps ≡ b → list_any (is_snap_at a e) (if b then d else record d { conts = map (raised_at a e (Snapshot e)) d.conts; snaps = put snap_key (new_snap a e) d.snaps }).snaps ≡ true
    by true is = is
    by false is = any-put (is_snap_at a e) snap_key (new_snap a e) d.snaps ∙ left (is_snap_at a e (new_snap a e)) (list_any (is_snap_at a e) d.snaps) own

-- ---- a creation

created-at_same : (a : ContId) (e : Epoch) (c : ContId) (s : Epoch) (x : Snap) → is_snap_at c s (created_at a e x) ≡ is_snap_at c s x
created-at_same a e c s x = by (is_snap_at a e x)
  where
    by : (b : Bool) → is_snap_at c s (if b then record x { created = true } else x) ≡ is_snap_at c s x
    by true = refl
    by false = refl

pub snapping-created : (a : ContId) (e : Epoch) (d : Durable) → Snapping NoSnaps (OnlyIt a e) d (created a e d)
unfolding created is_frozen holds_created
snapping-created a e d = record {
  stays = λ c s is. (let z = has-any (is_snap_at c s) d.snaps is in any-has (is_snap_at c s) (map (created_at a e) d.snaps) (created_at a e z.0) (has-map (created_at a e) d.snaps z.0 z.1) (created-at_same a e c s z.0 ∙ z.2));
  kept = λ c s is. (let z = has-any (is_created_at c s) d.snaps is in any-has (is_created_at c s) (map (created_at a e) d.snaps) (created_at a e z.0) (has-map (created_at a e) d.snaps z.0 z.1) (still c s z.0 z.2));
  froze = λ c s is. (
      let y = has-any (is_snap_at c s) (map (created_at a e) d.snaps) is in
      let z = has-from_map (created_at a e) d.snaps y.0 y.1 in
      inl (any-has (is_snap_at c s) d.snaps z.0 z.1 (sym (created-at_same a e c s z.0) ∙ ap (is_snap_at c s) z.2 ∙ y.2)));
  made = λ c s is. (
      let y = has-any (is_created_at c s) (map (created_at a e) d.snaps) is in
      let z = has-from_map (created_at a e) d.snaps y.0 y.1 in
      new c s z.0 z.1 (ap (is_created_at c s) z.2 ∙ y.2));
}
  where
    still : (c : ContId) (s : Epoch) (x : Snap) → is_created_at c s x ≡ true → is_created_at c s (created_at a e x) ≡ true
    still c s x is = by (is_snap_at a e x)
      where
        by : (b : Bool) → is_created_at c s (if b then record x { created = true } else x) ≡ true
        by true = both (is_snap_at c s x) true (and_left (is_snap_at c s x) x.created is) refl
        by false = is

    new : (c : ContId) (s : Epoch) (x : Snap) → Has x d.snaps → is_created_at c s (created_at a e x) ≡ true → (list_any (is_created_at c s) d.snaps ≡ true) ⊎ OnlyIt a e c s
    new c s x i is = by (is_snap_at a e x) refl is
      where
        by : (b : Bool) → is_snap_at a e x ≡ b → is_created_at c s (if b then record x { created = true } else x) ≡ true → (list_any (is_created_at c s) d.snaps ≡ true) ⊎ OnlyIt a e c s
        by true at created' =
            let own = snap-is a e x at in
            let there = snap-is c s x (and_left (is_snap_at c s x) true created') in
            inr (sym own.0 ∙ there.0, sym own.1 ∙ there.1)
        by false at was = inl (any-has (is_created_at c s) d.snaps x i was)

-- what was frozen and is created is created
pub created-there : (a : ContId) (e : Epoch) (d : Durable) → is_frozen d a e ≡ true → holds_created (created a e d) a e ≡ true
unfolding created is_frozen holds_created
created-there a e d is = let z = has-any (is_snap_at a e) d.snaps is in any-has (is_created_at a e) (map (created_at a e) d.snaps) (created_at a e z.0) (has-map (created_at a e) d.snaps z.0 z.1) (by z.0 z.2 (is_snap_at a e z.0) z.2)
  where
    by : (x : Snap) → is_snap_at a e x ≡ true → (b : Bool) → b ≡ true → is_created_at a e (if b then record x { created = true } else x) ≡ true
    by x at true is = both (is_snap_at a e x) true at refl
    by x at false is = let no : ⊥ = cc in absurd no

-- ---- every change

-- what a change freezes
abbrev pub FrozenBy : Option Change → ContId → Epoch → Type 0
FrozenBy None c s = ⊥
FrozenBy (Some (Extends ticks)) c s = ⊥
FrozenBy (Some (Prepares e ws)) c s = ⊥
FrozenBy (Some (Settles a step)) c s = ⊥
FrozenBy (Some (Freezes a e)) c s = OnlyIt a e c s
FrozenBy (Some (Creates a e)) c s = ⊥
FrozenBy (Some (Prunes a upto n)) c s = ⊥

-- what it creates
abbrev pub CreatedBy : Option Change → ContId → Epoch → Type 0
CreatedBy None c s = ⊥
CreatedBy (Some (Extends ticks)) c s = ⊥
CreatedBy (Some (Prepares e ws)) c s = ⊥
CreatedBy (Some (Settles a step)) c s = ⊥
CreatedBy (Some (Freezes a e)) c s = ⊥
CreatedBy (Some (Creates a e)) c s = OnlyIt a e c s
CreatedBy (Some (Prunes a upto n)) c s = ⊥

snaps-pruned : (c : ContId) (upto : Epoch) (n : ℕ) (d : Durable) → (pruned c upto n d).snaps ≡ d.snaps
unfolding pruned with_versions marked
snaps-pruned c upto n d = refl

pub snapping-made : (c : Change) (d : Durable) → Snapping (FrozenBy (Some c)) (CreatedBy (Some c)) d (made c d)
snapping-made (Extends ticks) d = snapping-same _ _ d _ (snaps-made (Extends ticks) d refl)
snapping-made (Prepares e ws) d = snapping-same _ _ d _ (snaps-made (Prepares e ws) d refl)
snapping-made (Settles a step) d = snapping-same _ _ d _ (snaps-made (Settles a step) d refl)
snapping-made (Freezes a e) d = snapping-frozen a e d
snapping-made (Creates a e) d = snapping-created a e d
snapping-made (Prunes a upto n) d = snapping-same _ _ d _ (snaps-pruned a upto n d)

pub snapping-steps : (o : Option Change) (k l : Kept) → Steps o k l → Snapping (FrozenBy o) (CreatedBy o) k.durable l.durable
snapping-steps None k l same = snapping-same _ _ k.durable l.durable (ap (λ x. x.durable.snaps) same)
snapping-steps (Some c) k l steps = subst (Snapping (FrozenBy (Some c)) (CreatedBy (Some c)) k.durable) (sym steps.0) (snapping-made c k.durable)

-- also where it was cut
snapping-partly : (c : Change) (d x : Durable) → IsPartly c d x → Snapping (FrozenBy (Some c)) (CreatedBy (Some c)) d x
unfolding with_versions marked
snapping-partly (Prunes c upto n) d x p = snapping-same _ _ d x (ap (λ y. y.snaps) p.2)
snapping-partly (Extends ticks) d x p = absurd p
snapping-partly (Prepares e ws) d x p = absurd p
snapping-partly (Settles a step) d x p = absurd p
snapping-partly (Freezes c s) d x p = absurd p
snapping-partly (Creates c s) d x p = absurd p

pub snapping-cut : (c : Change) (d x : Durable) → Cut c d x → Snapping (FrozenBy (Some c)) (CreatedBy (Some c)) d x
snapping-cut c d x (Before same) = snapping-same _ _ d x (ap (λ y. y.snaps) same)
snapping-cut c d x (After same) = subst (Snapping (FrozenBy (Some c)) (CreatedBy (Some c)) d) (sym same) (snapping-made c d)
snapping-cut c d x (InPart partly) = snapping-partly c d x partly

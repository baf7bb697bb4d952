-- The punches of versions, where a write is added, settled or taken out.
use Rattle.std.proofs.Common.{◌≡◌, ◌&&◌, Bool, true, false, not, List, [], ◌∷◌, refl, sym, ap, ◌∙◌, subst}
use Rattle.std.specs.Prelude.{All}
use Rattle.std.proofs.lemmas.List.Elements.{All-cons, All-head, All-nil, All-tail}
use Rattle.base_types.specs.Operations.{write_path}
use Rattle.base_types.specs.PathLaws.{same_path-Decides}
use Rattle.base_types.specs.Paths.{same_path}
use Rattle.base_types.specs.declared.epoch.Epoch.{Epoch}
use Rattle.base_types.specs.declared.id.AttemptId.{AttemptId}
use Rattle.base_types.specs.declared.operation.MinorWrite.{MinorWrite}
use Rattle.base_types.specs.declared.operation.Write.{Write}
use Rattle.base_types.specs.declared.operation.Write.TheVariants as write
use Rattle.base_types.specs.declared.path.Path.{Path}
use Rattle.daos_model.specs.Prunes.{is_punch}
use Rattle.daos_model.specs.declared.durable.Version.{Version}
use Rattle.vos_values.specs.declared.keys.Moment.{Moment}
use Rattle.vos_levels.specs.Changes.{changed_by, keeps, takes}
use Rattle.vos_levels.specs.Levels.{HasMore}
use Rattle.vos_levels.specs.Moments.{same_moment}
use Rattle.vos_path.specs.Writes.{is_update}
use Rattle.vos_punches.specs.Punches.{ArePunchesOf, IsAdded, IsRemoved, PunchesAt, is_punch_of}
use Rattle.vos_punches.proofs.Changed.{added_punch, added_update, committed_those, removed_punch, removed_updates}
use Rattle.vos_settle.specs.declared.task.Task.{Task}
use Rattle.vos_settle.specs.declared.task.WriteKind.{WriteKind}
use Rattle.vos_settle.specs.declared.task.WriteKind.TheVariants as kind
use Rattle.vos_settle.specs.Versions.{done_version, is_punch_at, is_version_of, is_version_taken, is_write, versions_after}
use Rattle.vos_object.specs.Punched.{is_punch_kind, moment_of_write}
use Rattle.vos_object.specs.Updates.{new_version}

punch_is : (w : Write) → is_punch w ≡ not (is_update w)
punch_is (write.Single p bytes) = refl
punch_is (write.Extent p low bytes) = refl
punch_is (write.PunchObject p) = refl
punch_is (write.PunchDkey p) = refl
punch_is (write.PunchAkey p) = refl

pub after_update : (e : Epoch) (by : AttemptId) (w : MinorWrite) (vs ws : List Version) (f : PunchesAt) → HasMore (new_version e by w) vs ws → is_update w.write ≡ true → ArePunchesOf vs f → ArePunchesOf ws f
after_update e by w vs ws f h u a = added_update (new_version e by w) vs ws f h (punch_is w.write ∙ ap not u) a

pub after_punch : (e : Epoch) (by : AttemptId) (w : MinorWrite) (vs ws : List Version) (f g : PunchesAt) → HasMore (new_version e by w) vs ws → is_update w.write ≡ false → ArePunchesOf vs f → IsAdded f g (write_path w.write) (moment_of_write e w) → ArePunchesOf ws g
after_punch e by w vs ws f g h u a i = added_punch (new_version e by w) vs ws f g h (punch_is w.write ∙ ap not u) a i

-- ---- settled or taken out

pub after_commit : (t : Task) (p : Path) (vs : List Version) (f : PunchesAt) → keeps t.change ≡ true → ArePunchesOf vs f → ArePunchesOf (versions_after t p vs) f
after_commit t p vs f k a = subst (λ (b : Bool). ArePunchesOf (changed_by b (is_version_taken t.kind t p) done_version vs) f) (sym k) (committed_those (is_version_taken t.kind t p) vs f a)

all_of : {V : Type 0} (P Q : V → Type 0) (vs : List V) → ((v : V) → P v → Q v) → All P vs → All Q vs
all_of P Q [] h a = All-nil Q
all_of P Q (v ∷ vs) h a = All-cons Q v vs (h v (All-head P v vs a)) (all_of P Q vs h (All-tail P v vs a))

all_are : {V : Type 0} (P : V → Type 0) (vs : List V) → ((v : V) → P v) → All P vs
all_are P [] h = All-nil P
all_are P (v ∷ vs) h = All-cons P v vs (h v) (all_are P vs h)

stay : (t : Task) (p : Path) (vs : List Version) (f : PunchesAt) → All (λ v. is_punch v.write ≡ true → is_version_taken t.kind t p v ≡ false) vs → ArePunchesOf vs f → ArePunchesOf (versions_after t p vs) f
stay t p vs f h a = by (keeps t.change)
  where
    by : (b : Bool) → ArePunchesOf (changed_by b (is_version_taken t.kind t p) done_version vs) f
    by true = committed_those (is_version_taken t.kind t p) vs f a
    by false = removed_updates (is_version_taken t.kind t p) vs f h a

pub after_none : (t : Task) (p : Path) (vs : List Version) (f : PunchesAt) → All (λ v. is_version_taken t.kind t p v ≡ false) vs → ArePunchesOf vs f → ArePunchesOf (versions_after t p vs) f
after_none t p vs f h a = stay t p vs f (all_of (λ v. is_version_taken t.kind t p v ≡ false) (λ v. is_punch v.write ≡ true → is_version_taken t.kind t p v ≡ false) vs (λ v e u. e) h) a

no_write : (k : WriteKind) (p : Path) (w : Write) → is_punch_kind k ≡ false → is_punch w ≡ true → is_write p k w ≡ false
no_write kind.Punch p w k u = absurd (let n : ⊥ = cc in n)
no_write kind.Single p (write.Single q bytes) k u = absurd (let n : ⊥ = cc in n)
no_write kind.Single p (write.Extent q low bytes) k u = refl
no_write kind.Single p (write.PunchObject q) k u = refl
no_write kind.Single p (write.PunchDkey q) k u = refl
no_write kind.Single p (write.PunchAkey q) k u = refl
no_write (kind.Extent at) p (write.Single q bytes) k u = refl
no_write (kind.Extent at) p (write.Extent q low bytes) k u = absurd (let n : ⊥ = cc in n)
no_write (kind.Extent at) p (write.PunchObject q) k u = refl
no_write (kind.Extent at) p (write.PunchDkey q) k u = refl
no_write (kind.Extent at) p (write.PunchAkey q) k u = refl

pub after_of_update : (t : Task) (p : Path) (vs : List Version) (f : PunchesAt) → is_punch_kind t.kind ≡ false → ArePunchesOf vs f → ArePunchesOf (versions_after t p vs) f
after_of_update t p vs f k a = stay t p vs f (all_are (λ v. is_punch v.write ≡ true → is_version_taken t.kind t p v ≡ false) vs none) a
  where
    none : (v : Version) → is_punch v.write ≡ true → is_version_taken t.kind t p v ≡ false
    none v u = ap (λ (b : Bool). (b && same_moment (record { epoch = v.epoch; minor = v.minor }) t.at) && takes t.change v.by v.done) (no_write t.kind p v.write k u)

back : (p q : Path) → same_path p q ≡ same_path q p
back p q = by (same_path p q) (same_path q p) refl refl
  where
    by : (a b : Bool) → same_path p q ≡ a → same_path q p ≡ b → a ≡ b
    by true true e h = refl
    by false false e h = refl
    by true false e h = sym ((same_path-Decides q p).1 (sym ((same_path-Decides p q).0 e))) ∙ h
    by false true e h = sym e ∙ (same_path-Decides p q).1 (sym ((same_path-Decides q p).0 h))

punch_at : (p : Path) (w : Write) → is_punch_at p w ≡ (is_punch w && same_path (write_path w) p)
punch_at p (write.Single q bytes) = refl
punch_at p (write.Extent q low bytes) = refl
punch_at p (write.PunchObject q) = back p q
punch_at p (write.PunchDkey q) = back p q
punch_at p (write.PunchAkey q) = back p q

is_same : (k : WriteKind) (p : Path) (m : Moment) (v : Version) → is_punch_kind k ≡ true → is_version_of p k m v ≡ is_punch_of p m v
is_same kind.Punch p m v k = ap (λ (b : Bool). b && same_moment (record { epoch = v.epoch; minor = v.minor }) m) (punch_at p v.write) ∙ assoc (is_punch v.write) (same_path (write_path v.write) p) (same_moment (record { epoch = v.epoch; minor = v.minor }) m)
  where
    assoc : (a b c : Bool) → ((a && b) && c) ≡ (a && (b && c))
    assoc true b c = refl
    assoc false b c = refl
is_same kind.Single p m v k = absurd (let n : ⊥ = cc in n)
is_same (kind.Extent low) p m v k = absurd (let n : ⊥ = cc in n)

if_named : (s t : Bool) → (s ≡ true → t ≡ true) → (s && t) ≡ s
if_named true t h = h refl
if_named false t h = refl

pub after_gone : (t : Task) (p : Path) (vs : List Version) (f g : PunchesAt) → is_punch_kind t.kind ≡ true → keeps t.change ≡ false → All (λ v. is_version_of p t.kind t.at v ≡ true → takes t.change v.by v.done ≡ true) vs → ArePunchesOf vs f → IsRemoved f g p t.at → ArePunchesOf (versions_after t p vs) g
after_gone t p vs f g u k h a i =
    subst (λ (b : Bool). ArePunchesOf (changed_by b (is_version_taken t.kind t p) done_version vs) g) (sym k)
    (removed_punch (is_version_taken t.kind t p) p t.at vs f g
    (all_of (λ v. is_version_of p t.kind t.at v ≡ true → takes t.change v.by v.done ≡ true) (λ v. is_version_taken t.kind t p v ≡ is_punch_of p t.at v) vs (λ v e. if_named (is_version_of p t.kind t.at v) (takes t.change v.by v.done) e ∙ is_same t.kind p t.at v u) h)
    a i)

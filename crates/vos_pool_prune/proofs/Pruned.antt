-- What goes of a container is what a prune or a discard of what is kept removes.
use Rattle.std.proofs.Common.{◌≡◌, ℕ, ◌+◌, ◌≤◌, ◌&&◌, ◌||◌, Bool, true, false, not, List, [], ◌∷◌, Ok, Err, Result, Some, get_or, inl, inr, length, refl, sym, ap, ◌∙◌, subst, arith}
use Rattle.std.specs.Prelude.{All, IsTrue, OnOk, filter, if◌then◌else◌}
use Rattle.std.proofs.lemmas.List.Elements.{All-weaker, filter_passes}
use Rattle.std.proofs.lemmas.List.Filters.{length-filter_both}
use Rattle.base_outside.specs.Images.{Image}
use Rattle.base_types.specs.declared.epoch.Epoch.{Epoch}
use Rattle.base_types.specs.declared.id.ContId.{ContId}
use Rattle.base_types.specs.declared.operation.Write.{Write}
use Rattle.base_types.specs.declared.operation.Write.TheVariants.{Extent, PunchAkey, PunchDkey, PunchObject, Single}
use Rattle.base_types.specs.declared.path.Path.{Path}
use Rattle.base_types.specs.Operations.{write_path}
use Rattle.daos_model.specs.BoolLaws.{and_left, and_right}
use Rattle.daos_model.specs.Changes.{discarded, is_in_range, marked, pruned, with_versions}
use Rattle.daos_model.specs.declared.durable.Durable.{Durable}
use Rattle.daos_model.specs.declared.durable.Version.{Version}
use Rattle.daos_model.specs.Durables.{version_key}
use Rattle.daos_model.specs.Prunes.{Partly, is_going, is_idle, is_old, is_punch, is_staying, is_unseen}
use Rattle.pmem_alloc.specs.Blocks.{free_count}
use Rattle.pmem_alloc.specs.Map.{MapState, free_of}
use Rattle.pmem_alloc.specs.Sets.{count_below}
use Rattle.pmem_undo.specs.Undo.{IsUndo}
use Rattle.vos_pool_settle.proofs.vos_keeping.Lists.{filtered_in_order}
use Rattle.vos_pool_settle.specs.vos_keeping.Keeping.{versions_in}
use Rattle.vos_pool_settle.specs.vos_levels.declared.change.Change.TheVariants.{Prune}
use Rattle.vos_pool_settle.proofs.vos_pool_base.vos_path.Written.{holds_first}
use Rattle.vos_pool_settle.proofs.vos_pool_base.vos_tables.Places.{length_in_order}
use Rattle.vos_pool_settle.specs.vos_pool_base.Pool.{OpenedState, kept_of}
use Rattle.vos_pool_settle.specs.vos_pool_base.Tidy.{IfTidy}
use Rattle.vos_pool_settle.specs.vos_pool_base.vos_standing.vos_entries.Entries.{entries_owner}
use Rattle.vos_pool_settle.specs.vos_pool_base.vos_image.Content.{shown}
use Rattle.vos_pool_settle.specs.vos_pool_base.vos_path.Objects.{objects_owner}
use Rattle.vos_pool_settle.specs.vos_pool_base.vos_standing.Standing.{content}
use Rattle.vos_pool_prune.specs.Changing.{IsPartChange}
use Rattle.vos_pool_prune.specs.Order.{in_turn, those_of}
use Rattle.vos_pool_prune.specs.Removals.{CutRemovals, without_versions}
use Rattle.vos_pool_prune.proofs.Cutting.{all_cut, punches_cut, updates_cut}
use Rattle.vos_pool_prune.proofs.Joining.{part_as, part_of, part_stopped, part_then}
use Rattle.vos_pool_prune.proofs.Lists.{either_part}
use Rattle.vos_pool_prune.proofs.Removed.{goes_any, without_all, without_both}
use Rattle.vos_pool_prune.proofs.Singles.{count, one_taken}
use Rattle.vos_pool_settle.proofs.Leaving.{all_left}
use Rattle.vos_pool_settle.proofs.Named.{is_same, own_name}
use Rattle.vos_pool_settle.proofs.Removed.{kept_stand}
use Rattle.vos_pool_settle.specs.Changing.{IsTidyChange}
use Rattle.vos_pool_settle.specs.Removing.{goes_with}
use Rattle.vos_pool_settle.specs.Settling.{OfItsKept}
use Rattle.vos_pool_settle.specs.vos_settle.declared.task.WriteKind.{WriteKind}
use Rattle.vos_pool_settle.specs.vos_settle.declared.task.WriteKind.TheVariants as kind
use Rattle.vos_pool_settle.specs.vos_settle.Names.{kind_of}
use Rattle.vos_pool_settle.specs.vos_settle.Versions.{is_version_taken, is_write}
use Rattle.vos_pool_settle.specs.vos_turns.Turns.{task_of}
use Rattle.vos_store.specs.Calls.{CutDiscard, CutPrune, going_count}
use Rattle.vos_store.specs.declared.refusal.Stopped.{Stopped}

on_any : {P : Type 0} (r : Result (Unit {0}) Stopped) → P → OnOk r P
on_any (Ok z) p = p
on_any (Err z) p = tt

-- ---- what has a name

pub goes_itself : (v : Version) → v.done ≡ true → goes_with v v ≡ true
goes_itself v done = rw (done, own_name v) refl

is_punch_kind : WriteKind → Bool
is_punch_kind kind.Punch = true
is_punch_kind kind.Single = false
is_punch_kind (kind.Extent low) = false

kind_says : (w : Write) → is_punch_kind (kind_of w) ≡ is_punch w
unfolding is_punch_kind
kind_says (Single p bytes) = refl
kind_says (Extent p low bytes) = refl
kind_says (PunchObject p) = refl
kind_says (PunchDkey p) = refl
kind_says (PunchAkey p) = refl

kind_of_name : (p : Path) (k : WriteKind) (w : Write) → is_write p k w ≡ true → is_punch w ≡ is_punch_kind k
unfolding is_punch_kind
kind_of_name p kind.Punch (Single q bytes) h = absurd (cc)
kind_of_name p kind.Punch (Extent q low bytes) h = absurd (cc)
kind_of_name p kind.Punch (PunchObject q) h = refl
kind_of_name p kind.Punch (PunchDkey q) h = refl
kind_of_name p kind.Punch (PunchAkey q) h = refl
kind_of_name p kind.Single (Single q bytes) h = refl
kind_of_name p kind.Single (Extent q low bytes) h = absurd (cc)
kind_of_name p kind.Single (PunchObject q) h = absurd (cc)
kind_of_name p kind.Single (PunchDkey q) h = absurd (cc)
kind_of_name p kind.Single (PunchAkey q) h = absurd (cc)
kind_of_name p (kind.Extent at) (Single q bytes) h = absurd (cc)
kind_of_name p (kind.Extent at) (Extent q low bytes) h = refl
kind_of_name p (kind.Extent at) (PunchObject q) h = absurd (cc)
kind_of_name p (kind.Extent at) (PunchDkey q) h = absurd (cc)
kind_of_name p (kind.Extent at) (PunchAkey q) h = absurd (cc)

named : (u w : Version) → goes_with u w ≡ true → (is_same u w && w.done) ≡ true
named u w h = and_right u.done (is_same u w && w.done) h

-- a punch has the name of a punch
pub goes_alike : (u w : Version) → goes_with u w ≡ true → is_punch w.write ≡ is_punch u.write
goes_alike u w h = kind_of_name (write_path u.write) (kind_of u.write) w.write (and_left _ _ (and_left (is_same u w) w.done (named u w h))) ∙ kind_says u.write

-- ---- what goes of what is kept

module _ (going : Version → Bool) (d : Durable) (us : List Version) (all : us ≡ filter going d.versions) (done : All (λ v. v.done ≡ true) us) (single : All (λ u. length (filter (goes_with u) d.versions) ≤ 1) us) where
  pub all_gone : without_versions (in_turn us) d ≡ with_versions (filter (λ v. not (going v)) d.versions) d
  all_gone = without_both (those_of false us) (those_of true us) d ∙ ap (λ (z : List Version). with_versions z d) (all_cut goes_with goes_itself goes_alike going d.versions us all done single)

  pub some_gone : (x : Durable) → CutRemovals (in_turn us) d x → (ws : List Version) × Partly d.versions going ws × (x ≡ with_versions ws d)
  some_gone x k =
      elim (either_part k.gone k.rest (those_of false us) (those_of true us) (sym k.all)) [
        | inl r ↦ (filter (λ v. not (goes_any k.gone v)) d.versions, updates_cut goes_with goes_itself goes_alike going d.versions us all done single k.gone r.0 r.1, k.is ∙ without_all k.gone d)
        | inr s ↦ (
          filter (λ v. not (goes_any (those_of false us) v || goes_any s.0 v)) d.versions,
          punches_cut goes_with goes_itself goes_alike going d.versions us all done single s.0 k.rest s.1.1,
          k.is ∙ (ap (λ (z : List Version). without_versions z d) s.1.0 ∙ without_both (those_of false us) s.0 d),
        )
      ]

-- ---- a prune

going_done : (c : ContId) (upto : Epoch) (d : Durable) (v : Version) → is_going c upto d.versions d.snaps v ≡ true → v.done ≡ true
unfolding is_going is_unseen is_idle is_old
going_done c upto d v h = by (is_unseen c upto d.versions d.snaps v) refl
  where
    old : is_old c upto v ≡ true → v.done ≡ true
    old h = and_left _ _ (and_left _ _ h)

    by : (b : Bool) → is_unseen c upto d.versions d.snaps v ≡ b → v.done ≡ true
    by true e = old (and_left _ _ (and_left _ _ e))
    by false e = old (and_left _ _ (and_left _ _ (sym (ap (λ (b : Bool). b || is_idle c upto d.versions d.snaps v) e) ∙ h)))

module _ (c : ContId) (upto : Epoch) (n : ℕ) (d : Durable) (us : List Version) (all : us ≡ filter (is_going c upto d.versions d.snaps) d.versions) (single : All (λ u. length (filter (goes_with u) d.versions) ≤ 1) us) where
  are_done : All (λ v. v.done ≡ true) us
  are_done = subst (All (λ v. v.done ≡ true)) (sym all) (All-weaker (λ v. is_going c upto d.versions d.snaps v ≡ true) (λ v. v.done ≡ true) (going_done c upto d) (filter (is_going c upto d.versions d.snaps) d.versions) (filter_passes (is_going c upto d.versions d.snaps) d.versions))

  pub prune_whole : without_versions (in_turn us) (marked c upto n d) ≡ pruned c upto n d
  unfolding marked pruned
  prune_whole = all_gone (is_going c upto d.versions d.snaps) (marked c upto n d) us all are_done single

  pub prune_cut : (x : Durable) → CutRemovals (in_turn us) (marked c upto n d) x → CutPrune c upto n d x
  unfolding marked
  prune_cut x k = some_gone (is_going c upto d.versions d.snaps) (marked c upto n d) us all are_done single x k

-- where it is cut after its mark nothing is gone
none_cut : (c : ContId) (upto : Epoch) (n : ℕ) (d x : Durable) → x ≡ marked c upto n d → CutPrune c upto n d x
unfolding marked with_versions
none_cut c upto n d x is = (d.versions, record { stays = λ v. true; left = all_left d.versions; planned = λ v out. absurd (cc); punches = λ p u out punch update older under yes. absurd (cc) }, is)

-- it gives back as many blocks as versions go
pub prune_gives : (c : ContId) (upto : Epoch) (n : ℕ) (d : Durable) → length (pruned c upto n d).versions + going_count c upto d ≡ length d.versions
unfolding pruned with_versions
prune_gives c upto n d = let both = length-filter_both (is_going c upto d.versions d.snaps) (is_staying c upto d) (λ v. refl) d.versions in omega (arith, both)

-- ---- a discard

module _ (c : ContId) (lo hi : Epoch) (d : Durable) (us : List Version) (all : us ≡ filter (is_in_range c lo hi) d.versions) (done : All (λ v. v.done ≡ true) us) (single : All (λ u. length (filter (goes_with u) d.versions) ≤ 1) us) where
  pub discard_whole : without_versions (in_turn us) d ≡ discarded c lo hi d
  unfolding discarded
  discard_whole = all_gone (is_in_range c lo hi) d us all done single

  pub discard_cut : (x : Durable) → CutRemovals (in_turn us) d x → CutDiscard c lo hi d x
  discard_cut x k = some_gone (is_in_range c lo hi) d us all done single x k

-- ---- a mark

module _ {R : Type 0} (extent : R → ℕ) (tells : Bool) (image : R → Image) (may_leave : R → Image → Type 0) (count burns : R → ℕ) (c : ContId) (upto : Epoch) (n : ℕ) (p q : OpenedState R) where
  -- no version goes
  mark_gives : q.blocks.map ≡ p.blocks.map → OfItsKept tells extent image p (λ d. free_count p.blocks + length d.versions ≤ free_count q.blocks + length (marked c upto n d).versions)
  unfolding marked
  mark_gives map told going d is = let same = ap (λ (m : MapState). count_below (free_of m) m.end) map in omega (arith, same)

  -- where it stopped the prune did
  pub stopped_mark : (r : Result (Unit {0}) Stopped) (z : Stopped) → r ≡ Err z → q.blocks.map ≡ p.blocks.map → IsTidyChange tells extent image may_leave count burns (marked c upto n) p q r → IsPartChange tells extent image may_leave count burns (pruned c upto n) (CutPrune c upto n) p q r
  stopped_mark r z is map m =
      part_stopped extent tells image may_leave count burns (marked c upto n) (pruned c upto n) (λ d x. x ≡ marked c upto n d) (CutPrune c upto n) p q r z is (none_cut c upto n) (part_of extent tells image may_leave count burns (marked c upto n) p q r m (on_any r (mark_gives map)))

  pub prune_space : (r : Result (Unit {0}) Stopped) → IsPartChange tells extent image may_leave count burns (pruned c upto n) (CutPrune c upto n) p q r → OnOk r (OfItsKept tells extent image p (λ d. free_count p.blocks + going_count c upto d ≤ free_count q.blocks))
  prune_space r m = by r m.gives
    where
      by : (r : Result (Unit {0}) Stopped) → OnOk r (OfItsKept tells extent image p (λ d. free_count p.blocks + length d.versions ≤ free_count q.blocks + length (pruned c upto n d).versions)) → OnOk r (OfItsKept tells extent image p (λ d. free_count p.blocks + going_count c upto d ≤ free_count q.blocks))
      by (Ok z) gives = λ told going d is. let gave = gives told going d is in let gone = prune_gives c upto n d in omega (arith, gave, gone)
      by (Err z) gives = tt

-- ---- of a name there is one

counted : {A : Type 0} (p q : A → Bool) → ((a : A) → p a ≡ true → q a ≡ true) → (xs : List A) → length (filter p xs) ≤ count q xs
counted p q to [] = omega arith
counted p q to (x ∷ xs) = by (p x) (q x) refl refl (counted p q to xs)
  where
    by : (b d : Bool) → p x ≡ b → q x ≡ d → length (filter p xs) ≤ count q xs → length (filter p (x ∷ xs)) ≤ (if d then 1 else 0) + count q xs
    by true true is at rest = rw is (omega (arith, rest))
    by true false is at rest = absurd (let yes = to x is in let never : true ≡ false = sym yes ∙ at in cc)
    by false d is at rest = rw is (omega (arith, rest))

module _ {R : Type 0} (extent : R → ℕ) (tells : Bool) (image : R → Image) (may_leave : R → Image → Type 0) (count burns : R → ℕ) (p : OpenedState R) (tidy : IfTidy tells extent image p)
    (undo : IsTrue tells → IsUndo (extent p.blocks.undo.region) tells (image p.blocks.undo.region) (may_leave p.blocks.undo.region) p.blocks.undo.staged p.blocks.undo.stopped) where
  pub kept_single : IsTrue tells → p.blocks.undo.stopped ≡ false → (d : Durable) → kept_of tells extent image p ≡ Some d → (us : List Version) → All (λ u. length (filter (goes_with u) d.versions) ≤ 1) us
  kept_single told going d is us k e low = one (get_or us k e)
    where
      one : (u : Version) → length (filter (goes_with u) d.versions) ≤ 1
      one u =
          let t = tidy told going in
          let m = shown (content (extent p.blocks.undo.region) (image p.blocks.undo.region)) in
          let vs = versions_in t.stored in
          let stand = ap (λ (z : List Version). length (filter (goes_with u) z)) (kept_stand extent tells image may_leave count burns p tidy undo told going d is) in
          let order = ap length (filtered_in_order version_key (goes_with u) vs) in
          let few = one_taken (task_of Prune u) (write_path u.write) m t.stored.0 (holds_first objects_owner entries_owner m t.stored t.stands.holds) in
          let less = counted (goes_with u) (is_version_taken (kind_of u.write) (task_of Prune u) (write_path u.write)) (named u) vs in
          omega (arith, stand, order, few, less, length_in_order version_key (filter (goes_with u) vs))

  module _ (us : List Version) (w : OpenedState R) (r : Result (Unit {0}) Stopped) where
    abbrev Goes : OpenedState R → Type 0
    Goes q = IsPartChange tells extent image may_leave count burns (without_versions (in_turn us)) (CutRemovals (in_turn us)) q w r

    pub discards : (c : ContId) (lo hi : Epoch) → All (λ v. v.done ≡ true) us → OfItsKept tells extent image p (λ d. us ≡ filter (is_in_range c lo hi) d.versions) → Goes p → IsPartChange tells extent image may_leave count burns (discarded c lo hi) (CutDiscard c lo hi) p w r
    discards c lo hi done all m =
        part_as extent tells image may_leave count burns (without_versions (in_turn us)) (discarded c lo hi) (CutRemovals (in_turn us)) (CutDiscard c lo hi) p w r (λ told going d is. discard_whole c lo hi d us (all told going d is) done (kept_single told going d is us))
        (λ told going d is x k. discard_cut c lo hi d us (all told going d is) done (kept_single told going d is us) x k) m

    -- the versions go after the mark
    pub prunes : (c : ContId) (upto : Epoch) (n : ℕ) (q : OpenedState R) → OfItsKept tells extent image p (λ d. us ≡ filter (is_going c upto d.versions d.snaps) d.versions) → IsTidyChange tells extent image may_leave count burns (marked c upto n) p q (Ok (tt {0})) → q.blocks.map ≡ p.blocks.map → Goes q
        → IsPartChange tells extent image may_leave count burns (pruned c upto n) (CutPrune c upto n) p w r
    prunes c upto n q all first map m =
        part_as extent tells image may_leave count burns (λ d. without_versions (in_turn us) (marked c upto n d)) (pruned c upto n) (λ d x. CutRemovals (in_turn us) (marked c upto n d) x) (CutPrune c upto n) p w r (λ told going d is. prune_whole c upto n d us (all told going d is) (kept_single told going d is us))
        (λ told going d is x k. prune_cut c upto n d us (all told going d is) (kept_single told going d is us) x k)
        (part_then extent tells image may_leave count burns (marked c upto n) (without_versions (in_turn us)) (λ d x. x ≡ marked c upto n d) (CutRemovals (in_turn us)) (λ d x. CutRemovals (in_turn us) (marked c upto n d) x) p q w r (part_of extent tells image may_leave count burns (marked c upto n) p q (Ok tt) first (mark_gives extent tells image may_leave count burns c upto n p q map)) m
        (λ d x is. record { gone = []; rest = in_turn us; all = refl; is = is }) (λ d x k. k))

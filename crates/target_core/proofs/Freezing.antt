-- Each snapshot that is being made stays frozen in every turn, also where memory was wanting on the way.
use Rattle.std.proofs.Common.{ℕ, ◌≡◌, ◌&&◌, refl, sym, ◌∙◌, ap, subst, inl, inr, Bool, true, false, List, [], ◌∷◌, ◌++◌, map, filter, Option, Some, None, Result, Ok, Err}
use Rattle.std.proofs.Common.{arith}
use Rattle.std.proofs.lemmas.Bool.Decides.{nat_tests}
use Rattle.std.specs.Prelude.{◌==◌, OnErr, if◌then◌else◌}
use Rattle.std.specs.List.{list_any}
use Rattle.base_types.specs.declared.epoch.Epoch.{Epoch}
use Rattle.base_types.specs.declared.id.AttemptId.{AttemptId}
use Rattle.base_types.specs.declared.id.ContId.{ContId}
use Rattle.base_types.specs.declared.key.Key.{Key}
use Rattle.base_types.specs.declared.outcome.FloorWhy.{FloorWhy}
use Rattle.base_types.specs.declared.outcome.FloorWhy.TheVariants.{Snapshot}
use Rattle.base_types.specs.declared.outcome.Outcome.{Outcome}
use Rattle.base_types.specs.declared.outcome.Outcome.TheVariants.{Committed}
use Rattle.base_types.specs.declared.snapshot.Snap.{Snap}
use Rattle.base_messages.specs.declared.actor.ActorId.{ActorId}
use Rattle.base_messages.specs.declared.message.Message.{Message, more_of-Message}
use Rattle.base_messages.specs.declared.message.Message.TheVariants as message
use Rattle.daos_model.specs.Changes.{created, created_at, frozen, marked, new_snap, pruned, raised_at, with_versions}
use Rattle.daos_model.specs.declared.durable.Durable.{Durable}
use Rattle.daos_model.specs.Durables.{is_frozen, is_snap_at, same_attempt, snap_key}
use Rattle.daos_model.specs.Ordered.{put}
use Rattle.dtx_base.specs.Members.{with_target}
use Rattle.model_laws.specs.EntryLaws.{put-has}
use Rattle.model_laws.specs.Members.{Has, any-has, has-any, has-cases, has-from_filter, has-from_map, has-map}
use Rattle.snap_core.specs.Snaps.{SnapOf, remembered}
use Rattle.vos_store.specs.Calls.{State}
use Rattle.vos_store.specs.Refusals.{says}
use Rattle.world_base.specs.declared.did.Did.{Did}
use Rattle.world_base.specs.declared.target.Collection.{Collection}
use Rattle.world_base.specs.declared.target.TargetMemory.{TargetMemory}
use Rattle.world_base.specs.declared.target.TargetPlan.{TargetPlan}
use Rattle.world_base.specs.ChangeLaws.{snaps-made}
use Rattle.world_base.specs.Changes.{Change, Creates, Extends, Freezes, Kept, Prepares, Prunes, Settles, Steps, made}
use Rattle.world_base.specs.declared.request.CommitRequest.{CommitRequest}
use Rattle.world_base.specs.Commits as commit
use Rattle.world_base.specs.Further as further
use Rattle.world_base.specs.Further.{HearsFurther, knows_down, reset_by}
use Rattle.world_base.specs.PathLaws.{reached-keeps}
use Rattle.world_base.specs.Snapshots as snap
use Rattle.world_base.specs.Snapshots.{collection_of, collection_reset, held_at, held_by, is_last, is_other_collection}
use Rattle.world_base.specs.Statuses as status
use Rattle.world_base.specs.Statuses.{EndsAs, IsDone, ask_left, reset_left, status_left}
use Rattle.world_base.specs.Idle.{IdleNext}
use Rattle.world_base.specs.TargetTurns.{Hears, commit_request}
use Rattle.world_base.specs.Turns.{Reached}
use Rattle.target_reads.specs.world_letters.snapshots.Memories.{ack-same, plain-same}
use Rattle.target_parts.specs.declared.stop.TargetStop.{TargetStop}
use Rattle.target_parts.specs.declared.stop.TargetStop.TheVariants as stop
use Rattle.target_parts.specs.Parts.{Partway, kept}
use Rattle.target_parts.specs.Stops.{stop_store}
use Rattle.target_snaps.specs.Following.{IsWithin}
use Rattle.target_snaps.specs.HeldTurns.{AreFrozenHere}
use Rattle.target_core.specs.Targets.{Further, Heard, HearsOrStops, HearsPartway, IdlesOrStops, Plainly}

-- ---- a change

same-snaps : (d e : Durable) (c : ContId) (s : Epoch) → e.snaps ≡ d.snaps → is_frozen d c s ≡ true → is_frozen e c s ≡ true
unfolding is_frozen
same-snaps d e c s same is = ap (list_any (is_snap_at c s)) same ∙ is

stays-frozen : (a : ContId) (e : Epoch) (d : Durable) (c : ContId) (s : Epoch) → is_frozen d c s ≡ true → is_frozen (frozen a e d) c s ≡ true
unfolding is_frozen frozen
stays-frozen a e d c s is = by (list_any (is_snap_at a e) d.snaps)
  where
    by : (b : Bool) → list_any (is_snap_at c s) (if b then d else record d { conts = map (raised_at a e (Snapshot e)) d.conts; snaps = put snap_key (new_snap a e) d.snaps }).snaps ≡ true
    by true = is
    by false = let x = has-any (is_snap_at c s) d.snaps is in any-has (is_snap_at c s) (put snap_key (new_snap a e) d.snaps) x.0 (put-has snap_key (new_snap a e) d.snaps x.0 (inr x.1)) x.2

created-alike : (a : ContId) (e : Epoch) (c : ContId) (s : Epoch) (x : Snap) → is_snap_at c s (created_at a e x) ≡ is_snap_at c s x
created-alike a e c s x = elim (is_snap_at a e x) as (λ b. is_snap_at c s (if b then record x { created = true } else x) ≡ is_snap_at c s x) [ true ↦ refl | false ↦ refl ]

stays-created : (a : ContId) (e : Epoch) (d : Durable) (c : ContId) (s : Epoch) → is_frozen d c s ≡ true → is_frozen (created a e d) c s ≡ true
unfolding is_frozen created
stays-created a e d c s is =
    let x = has-any (is_snap_at c s) d.snaps is in any-has (is_snap_at c s) (map (created_at a e) d.snaps) (created_at a e x.0) (has-map (created_at a e) d.snaps x.0 x.1) (created-alike a e c s x.0 ∙ x.2)

snaps-pruned : (c : ContId) (upto : Epoch) (n : ℕ) (d : Durable) → (pruned c upto n d).snaps ≡ d.snaps
unfolding pruned with_versions marked
snaps-pruned c upto n d = refl

stays-made : (x : Change) (d : Durable) (c : ContId) (s : Epoch) → is_frozen d c s ≡ true → is_frozen (made x d) c s ≡ true
stays-made (Extends ticks) d c s is = same-snaps d (made (Extends ticks) d) c s (snaps-made (Extends ticks) d refl) is
stays-made (Prepares e ws) d c s is = same-snaps d (made (Prepares e ws) d) c s (snaps-made (Prepares e ws) d refl) is
stays-made (Settles a step) d c s is = same-snaps d (made (Settles a step) d) c s (snaps-made (Settles a step) d refl) is
stays-made (Freezes a e) d c s is = stays-frozen a e d c s is
stays-made (Creates a e) d c s is = stays-created a e d c s is
stays-made (Prunes a upto n) d c s is = same-snaps d (pruned a upto n d) c s (snaps-pruned a upto n d) is

same-number : (n : ℕ) → (n == n) ≡ true
same-number n = grind (arith, nat_tests)

-- what was frozen is frozen
is-frozen_then : (c : ContId) (s : Epoch) (d : Durable) → is_frozen (frozen c s d) c s ≡ true
unfolding is_frozen frozen
is-frozen_then c s d = by (list_any (is_snap_at c s) d.snaps) refl
  where
    by : (b : Bool) → list_any (is_snap_at c s) d.snaps ≡ b → list_any (is_snap_at c s) (if b then d else record d { conts = map (raised_at c s (Snapshot s)) d.conts; snaps = put snap_key (new_snap c s) d.snaps }).snaps ≡ true
    by true is = is
    by false is =
        any-has (is_snap_at c s) (put snap_key (new_snap c s) d.snaps) (new_snap c s) (put-has snap_key (new_snap c s) d.snaps (new_snap c s) (inl refl)) (ap (λ b. b && (s.0 == s.0)) (same-number c.0) ∙ same-number s.0)

-- ---- a turn

-- what is frozen in one stays so in another
abbrev pub StaysFrozen : Durable → Durable → Type 0
StaysFrozen d e = (c : ContId) (s : Epoch) → is_frozen d c s ≡ true → is_frozen e c s ≡ true

step-stays : (o : Option Change) (k l : Kept) → Steps o k l → StaysFrozen k.durable l.durable
step-stays None k l same c s is = subst (λ (x : Kept). is_frozen x.durable c s ≡ true) (sym same) is
step-stays (Some x) k l st c s is = subst (λ y. is_frozen y c s ≡ true) (sym st.0) (stays-made x k.durable c s is)

pub reached-stays : {S : Type 0} (Next : S → Kept → Option Change → S → Type 0) (start : S) (old : Kept) (last : S) (mid : Kept) → Reached Next start old last mid → StaysFrozen old.durable mid.durable
reached-stays Next start old last mid r c s is = reached-keeps Next (λ u k. is_frozen k.durable c s ≡ true) (λ u k o v l next st so. step-stays o k l st c s so) start old last mid r is

partly-stays : {S : Type 0} (Next : S → Kept → Option Change → S → Type 0) (start : S) (old mid : Kept) → Partway Next start old mid → StaysFrozen old.durable mid.durable
partly-stays Next start old mid p = reached-stays Next start old p.last mid p.reached

-- ---- what is being made

-- each of these snapshots is frozen
abbrev pub AreFrozen : List Collection → Durable → Type 0
AreFrozen cs d = (n : Collection) (name : Key) → Has n cs → n.name ≡ Some name → is_frozen d n.cont n.epoch ≡ true

frozen-then : (cs ds : List Collection) (d e : Durable) → StaysFrozen d e → IsWithin ds cs → AreFrozen cs d → AreFrozen ds e
frozen-then cs ds d e stays within are n name i named = stays n.cont n.epoch (are n name (within n i) named)

within-same : (cs ds : List Collection) → ds ≡ cs → IsWithin ds cs
within-same cs ds same n i = subst (Has n) same i

frozen-more : (cs : List Collection) (new : Collection) (d e : Durable) → StaysFrozen d e → ((name : Key) → new.name ≡ Some name → is_frozen e new.cont new.epoch ≡ true) → AreFrozen cs d → AreFrozen (cs ++ new ∷ []) e
frozen-more cs new d e stays there are n name i named = elim (has-cases cs (new ∷ []) n i) as (λ w. is_frozen e n.cont n.epoch ≡ true) [
  | inl j ↦ stays n.cont n.epoch (are n name j named)
  | inr (inl same) ↦ subst (λ (m : Collection). is_frozen e m.cont m.epoch ≡ true) (sym same) (there name (sym (ap (λ (m : Collection). m.name) same) ∙ named))
  | inr (inr none) ↦ absurd none
]

-- one that another target holds is at the same place
held-name : (x : AttemptId) (t : ℕ) (n : Collection) → (held_at x t n).name ≡ n.name
held-name x t n = elim (same_attempt n.attempt x) as (λ b. (if b then record n { held = with_target n.held t } else n).name ≡ n.name) [ true ↦ refl | false ↦ refl ]

held-frozen : (x : AttemptId) (t : ℕ) (n : Collection) (d : Durable) → is_frozen d n.cont n.epoch ≡ is_frozen d (held_at x t n).cont (held_at x t n).epoch
held-frozen x t n d =
    elim (same_attempt n.attempt x) as (λ b. is_frozen d n.cont n.epoch ≡ is_frozen d (if b then record n { held = with_target n.held t } else n).cont (if b then record n { held = with_target n.held t } else n).epoch) [ true ↦ refl | false ↦ refl ]

frozen-counted : (x : AttemptId) (t : ℕ) (cs : List Collection) (d : Durable) → AreFrozen cs d → AreFrozen (map (held_at x t) cs) d
frozen-counted x t cs d are n name i named =
    let m = has-from_map (held_at x t) cs n i in
    subst (λ (z : Collection). is_frozen d z.cont z.epoch ≡ true) m.2 (sym (held-frozen x t m.0 d) ∙ are m.0 name m.1 (sym (held-name x t m.0) ∙ ap (λ (z : Collection). z.name) m.2 ∙ named))

-- ---- the turns by which something is made

-- the snapshot is frozen at the stages behind its freeze
abbrev IsFrozenBy : ContId → snap.FreezeStage → Kept → Type 0
IsFrozenBy c snap.Asked k = Unit {0}
IsFrozenBy c (snap.Known s) k = Unit {0}
IsFrozenBy c (snap.Freezing s) k = Unit {0}
IsFrozenBy c (snap.Frozen s lines) k = is_frozen k.durable c s ≡ true
IsFrozenBy c (snap.Created s lines) k = is_frozen k.durable c s ≡ true

module _ (t : TargetPlan) (m : TargetMemory) (reading : ℕ) (tracker : Epoch) (ep : Option Epoch) (c : ContId) (alone : Bool) where
  freeze-step : (u : snap.FreezeStage) (k : Kept) (o : Option Change) (v : snap.FreezeStage) (l : Kept) → snap.FreezeNext t m reading tracker ep c alone u k o v → Steps o k l → IsFrozenBy c u k → IsFrozenBy c v l
  freeze-step u k o v l (snap.HasEpoch k2 s is) st so = tt
  freeze-step u k o v l (snap.ExtendsLease k2 s lease low is) st so = tt
  freeze-step u k o v l (snap.IsCovered k2 s covers) st so = tt
  freeze-step u k o v l (snap.FreezesIt k2 s none new) st so = subst (λ y. is_frozen y c s ≡ true) (sym st.0) (is-frozen_then c s k2.durable)
  freeze-step u k o v l (snap.IsFrozen k2 s none is) st so = subst (λ (y : Kept). is_frozen y.durable c s ≡ true) (sym st) is
  freeze-step u k o v l (snap.CreatesIt k2 s lines alone) st so = step-stays (Some (Creates c s)) k2 l st c s so

  freeze-reached : (old : Kept) (last : snap.FreezeStage) (mid : Kept) → Reached (snap.FreezeNext t m reading tracker ep c alone) snap.Asked old last mid → IsFrozenBy c last mid
  freeze-reached old last mid r = reached-keeps (snap.FreezeNext t m reading tracker ep c alone) (IsFrozenBy c) freeze-step snap.Asked old last mid r tt

snap-frozen : (t : TargetPlan) (m : TargetMemory) (reading : ℕ) (tracker : Epoch) (x : AttemptId) (c : ContId) (name : Key) (from : ActorId) (d : Durable) (u : snap.FreezeStage) (k : Kept) (left : TargetMemory × Did)
    → snap.SnapEnds t m reading tracker x c name from u k left → IsFrozenBy c u k → StaysFrozen d k.durable → AreFrozen m.collecting d → AreFrozen left.0.collecting k.durable
snap-frozen t m reading tracker x c name from d u k left (snap.IsSpent k2 left2 none says) by stays are = frozen-then m.collecting left2.0.collecting d k2.durable stays (within-same m.collecting left2.0.collecting (ap (λ (z : TargetMemory × Did). z.0.collecting) says)) are
snap-frozen t m reading tracker x c name from d u k left (snap.IsRefused k2 s how left2 why says) by stays are = frozen-then m.collecting left2.0.collecting d k2.durable stays (within-same m.collecting left2.0.collecting (ap (λ (z : TargetMemory × Did). z.0.collecting) says)) are
snap-frozen t m reading tracker x c name from d u k left (snap.AsksOthers k2 s lines left2 more says) by stays are =
    subst (λ ns. AreFrozen ns k2.durable) (sym (ap (λ (z : TargetMemory × Did). z.0.collecting) says)) (frozen-more m.collecting (snap.new_collection x from c s (Some name)) d k2.durable stays (λ called is. by) are)
snap-frozen t m reading tracker x c name from d u k left (snap.IsAlone k2 s lines left2 says) by stays are = frozen-then m.collecting left2.0.collecting d k2.durable stays (within-same m.collecting left2.0.collecting (ap (λ (z : TargetMemory × Did). z.0.collecting) says)) are

freeze-within : (t : TargetPlan) (m : TargetMemory) (x : AttemptId) (c : ContId) (from : ActorId) (u : snap.FreezeStage) (k : Kept) (left : TargetMemory × Did) → snap.FreezeEnds t m x c from u k left → IsWithin left.0.collecting m.collecting
freeze-within t m x c from u k left (snap.IsRefused k2 s how left2 why says) = within-same m.collecting left2.0.collecting (ap (λ (z : TargetMemory × Did). z.0.collecting) says)
freeze-within t m x c from u k left (snap.IsHeld k2 s lines left2 says) = within-same m.collecting left2.0.collecting (ap (λ (z : TargetMemory × Did). z.0.collecting) says)

aggregate-frozen : (t : TargetPlan) (m : TargetMemory) (reading : ℕ) (tracker : Epoch) (x : AttemptId) (c : ContId) (from : ActorId) (d : Durable) (u : snap.PruneStage) (k : Kept) (left : TargetMemory × Did)
    → snap.AggregateEnds t m reading tracker x c from u k left → StaysFrozen d k.durable → AreFrozen m.collecting d → AreFrozen left.0.collecting k.durable
aggregate-frozen t m reading tracker x c from d u k left (snap.IsSpent k2 left2 none says) stays are = frozen-then m.collecting left2.0.collecting d k2.durable stays (within-same m.collecting left2.0.collecting (ap (λ (z : TargetMemory × Did). z.0.collecting) says)) are
aggregate-frozen t m reading tracker x c from d u k left (snap.AsksOthers k2 g lines left2 more says) stays are =
    subst (λ ns. AreFrozen ns k2.durable) (sym (ap (λ (z : TargetMemory × Did). z.0.collecting) says)) (frozen-more m.collecting (snap.new_collection x from c g None) d k2.durable stays (λ called is. let no : ⊥ = cc in absurd no) are)
aggregate-frozen t m reading tracker x c from d u k left (snap.IsAlone k2 g lines left2 alone says) stays are = frozen-then m.collecting left2.0.collecting d k2.durable stays (within-same m.collecting left2.0.collecting (ap (λ (z : TargetMemory × Did). z.0.collecting) says)) are

prune-within : (m : TargetMemory) (x : AttemptId) (from : ActorId) (u : snap.PruneStage) (k : Kept) (left : TargetMemory × Did) → snap.PruneEnds m x from u k left → IsWithin left.0.collecting m.collecting
prune-within m x from u k left (snap.IsHeld k2 g lines left2 says) = within-same m.collecting left2.0.collecting (ap (λ (z : TargetMemory × Did). z.0.collecting) says)

gone-within : (x : AttemptId) (cs : List Collection) → IsWithin (filter (is_other_collection x) cs) cs
gone-within x cs n i = (has-from_filter (is_other_collection x) cs n i).0

-- what is known and told where the others hold it, and where not all do
abbrev held_ends : TargetMemory → ℕ → AttemptId → Collection → Bool → TargetMemory × Did
held_ends m from x c b = if b then (snap.collected x m, snap.follows (snap.to_actor c.client (message.Ended x (Some c.epoch) Committed)) [] None) else (snap.counts_held x from m, snap.follows [] [] None)

held_by-frozen : (t : TargetPlan) (m : TargetMemory) (from : ℕ) (x : AttemptId) (refusal : Option Outcome) (o : Option Collection) (e : Durable) → AreFrozen m.collecting e → AreFrozen (held_by t m from x refusal o).0.collecting e
held_by-frozen t m from x refusal None e are = are
held_by-frozen t m from x (Some how) (Some c) e are = λ n name i named. are n name (gone-within x m.collecting n i) named
held_by-frozen t m from x None (Some c) e are = by (is_last t from c)
  where
    by : (b : Bool) → AreFrozen (held_ends m from x c b).0.collecting e
    by true = λ n name i named. are n name (gone-within x m.collecting n i) named
    by false = frozen-counted x from m.collecting e are

held-frozen_then : (t : TargetPlan) (m : TargetMemory) (from : ℕ) (x : AttemptId) (refusal : Option Outcome) (d : Durable) (u : snap.HeldStage) (k : Kept) (left : TargetMemory × Did) → snap.HeldEnds t m from x refusal u k left → StaysFrozen d k.durable → AreFrozen m.collecting d → AreFrozen left.0.collecting k.durable
held-frozen_then t m from x refusal d u k left (snap.IsCounted k2 left2 says) stays are =
    subst (λ ns. AreFrozen ns k2.durable) (sym (ap (λ (z : TargetMemory × Did). z.0.collecting) says)) (held_by-frozen t m from x refusal (collection_of x m) k2.durable (λ n name i named. stays n.cont n.epoch (are n name i named)))
held-frozen_then t m from x refusal d u k left (snap.IsCreated k2 c name left2 says) stays are =
    subst (λ ns. AreFrozen ns k2.durable) (sym (ap (λ (z : TargetMemory × Did). z.0.collecting) says)) (λ n called i named. stays n.cont n.epoch (are n called (gone-within x m.collecting n i) named))

-- ---- a Reset

down-within : (by : ℕ) (down : Bool) (m : TargetMemory) (cs : List Collection) → IsWithin m.collecting cs → IsWithin (knows_down by down m).collecting cs
down-within by true m cs within = within
down-within by false m cs within = within

lost-fewer : (by : ℕ) (down : Bool) (asked : Message) (x : AttemptId) (o : Option Collection) (m : TargetMemory) → IsWithin (collection_reset by down asked x o m).0.collecting m.collecting
lost-fewer by false asked x o m n i = i
lost-fewer by true asked x None m n i = i
lost-fewer by true asked x (Some c) m n i = gone-within x m.collecting n i

reset-fewer : (t : TargetPlan) (m : TargetMemory) (by : ℕ) (down : Bool) (asked : Message) (k : Kept) → IsWithin (reset_by t m by down asked k).0.collecting m.collecting
reset-fewer t m by down (message.Freeze x c s) k = down-within by down (collection_reset by down (message.Freeze x c s) x (collection_of x m) m).0 m.collecting (lost-fewer by down (message.Freeze x c s) x (collection_of x m) m)
reset-fewer t m by down (message.Prune x c tracker e) k = down-within by down (collection_reset by down (message.Prune x c tracker e) x (collection_of x m) m).0 m.collecting (lost-fewer by down (message.Prune x c tracker e) x (collection_of x m) m)
reset-fewer t m by down asked k = λ n i. i

looked-within : (m : TargetMemory) (by : Kept → TargetMemory × Did) → ((k : Kept) → IsWithin (by k).0.collecting m.collecting) → (u : status.AtOnce) (k : Kept) (left : TargetMemory × Did) → EndsAs by u k left → IsWithin left.0.collecting m.collecting
looked-within m by within u k left (IsDone k2 left2 says) = subst (λ (z : TargetMemory × Did). IsWithin z.0.collecting m.collecting) (sym says) (within k2)

down-fewer : (t : TargetPlan) (m : TargetMemory) (reading : ℕ) (q : CommitRequest) (from : ActorId) (u : commit.CommitStage) (k : Kept) (left : TargetMemory × Did) → further.CommitDown t m reading q from u k left → IsWithin left.0.collecting m.collecting
down-fewer t m reading q from u k left (further.IsSpent k2 e down left2 spent is says) = within-same m.collecting left2.0.collecting (ap (λ (z : TargetMemory × Did). z.0.collecting) says)
down-fewer t m reading q from u k left (further.IsUnknown k2 e down left2 is says) = within-same m.collecting left2.0.collecting (ap (λ (z : TargetMemory × Did). z.0.collecting) says)

-- ---- every turn

module _ (number : ℕ) (t : TargetPlan) (opening : Epoch × FloorWhy) (m : TargetMemory) (reading : ℕ) (from : ActorId) (old : Kept) where
  hears-stays : (q : Message) (new : Kept) (left : TargetMemory × Did) → Hears t opening m reading from q old new left → StaysFrozen old.durable new.durable
  hears-stays (message.Fetch x op group ep first tracker r snapshot) new left w = reached-stays _ _ old w.last new w.reached
  hears-stays (message.Commit x ep first tracker ws) new left w = reached-stays _ _ old w.last new w.reached
  hears-stays (message.Prepare e first ws inc) new left w = reached-stays _ _ old w.last new w.reached
  hears-stays (message.Ack x inc refusal) new left w = reached-stays _ _ old w.last new w.reached
  hears-stays (message.Mark inc marks) new left w = reached-stays _ _ old w.last new w.reached
  hears-stays (message.Marked inc ids) new left w = reached-stays _ _ old w.last new w.reached
  hears-stays (message.Query x ask) new left w = reached-stays _ _ old w.last new w.reached
  hears-stays (message.Verdict x ask inc v) new left w = reached-stays _ _ old w.last new w.reached
  hears-stays q new left w = absurd w

  further-frozen : (q : Message) (new : Kept) (left : TargetMemory × Did) → HearsFurther number t opening m reading from q old new left → AreFrozen m.collecting old.durable → AreFrozen left.0.collecting new.durable
  further-frozen (message.Commit x ep first tracker ws) new left w are = frozen-then m.collecting left.0.collecting old.durable new.durable (reached-stays _ _ old w.last new w.reached) (down-fewer t m reading (commit_request x ep first tracker ws) from w.last new left w.ends) are
  further-frozen (message.Ask x) new left w are = frozen-then m.collecting left.0.collecting old.durable new.durable (reached-stays _ _ old w.last new w.reached) (looked-within m (ask_left t m from x) (λ k n i. i) w.last new left w.ends) are
  further-frozen (message.Status x inc) new left w are = frozen-then m.collecting left.0.collecting old.durable new.durable (reached-stays _ _ old w.last new w.reached) (looked-within m (status_left m from x inc) (λ k n i. i) w.last new left w.ends) are
  further-frozen (message.StatusIs x inc how) new left w are = frozen-then m.collecting left.0.collecting old.durable new.durable (reached-stays _ _ old w.last new w.reached) (within-same m.collecting left.0.collecting (ack-same m w.last new left w.ends)) are
  further-frozen (message.Snap x c called tracker) new left w are =
      snap-frozen t m reading tracker x c called from old.durable w.last new left w.ends (freeze-reached t m reading tracker None c (snap.is_held_by_all t 0) old w.last new w.reached) (reached-stays _ _ old w.last new w.reached) are
  further-frozen (message.Freeze x c s) new left w are = frozen-then m.collecting left.0.collecting old.durable new.durable (reached-stays _ _ old w.last new w.reached) (freeze-within t m x c from w.last new left w.ends) are
  further-frozen (message.Held x refusal) new left w are = held-frozen_then t m from.number x refusal old.durable w.last new left w.ends (reached-stays _ _ old w.last new w.reached) are
  further-frozen (message.Prune x c (Some tracker) None) new left w are = aggregate-frozen t m reading tracker x c from old.durable w.last new left w.ends (reached-stays _ _ old w.last new w.reached) are
  further-frozen (message.Prune x c None (Some g)) new left w are = frozen-then m.collecting left.0.collecting old.durable new.durable (reached-stays _ _ old w.last new w.reached) (prune-within m x from w.last new left w.ends) are
  further-frozen (message.Reset' by down place (more_of-Message asked rest)) new left w are =
      frozen-then m.collecting left.0.collecting old.durable new.durable (reached-stays _ _ old w.last new w.reached) (looked-within m (reset_by t m by down asked) (reset-fewer t m by down asked) w.last new left w.ends) are
  further-frozen q new left w are = absurd w

  heard-frozen : (q : Message) (new : Kept) (left : TargetMemory × Did) → Heard number t opening m reading from q old new left → AreFrozen m.collecting old.durable → AreFrozen left.0.collecting new.durable
  heard-frozen q new left (Plainly none w) are = frozen-then m.collecting left.0.collecting old.durable new.durable (hears-stays q new left w) (within-same m.collecting left.0.collecting (plain-same t opening m reading from q old new left w)) are
  heard-frozen q new left (Further w) are = further-frozen q new left w are

  partway-stays : (q : Message) (mid : Kept) → HearsPartway number t opening m reading from q old mid → StaysFrozen old.durable mid.durable
  partway-stays (message.Fetch x op group ep first tracker r snapshot) mid p = partly-stays _ _ old mid p
  partway-stays (message.Commit x ep first tracker ws) mid p = partly-stays _ _ old mid p
  partway-stays (message.Prepare e first ws inc) mid p = partly-stays _ _ old mid p
  partway-stays (message.Ack x inc refusal) mid p = partly-stays _ _ old mid p
  partway-stays (message.Mark inc marks) mid p = partly-stays _ _ old mid p
  partway-stays (message.Marked inc ids) mid p = partly-stays _ _ old mid p
  partway-stays (message.Query x ask) mid p = partly-stays _ _ old mid p
  partway-stays (message.Verdict x ask inc v) mid p = partly-stays _ _ old mid p
  partway-stays (message.Ask x) mid p = partly-stays _ _ old mid p
  partway-stays (message.Status x inc) mid p = partly-stays _ _ old mid p
  partway-stays (message.StatusIs x inc how) mid p = partly-stays _ _ old mid p
  partway-stays (message.Snap x c name tracker) mid p = partly-stays _ _ old mid p
  partway-stays (message.Freeze x c s) mid p = partly-stays _ _ old mid p
  partway-stays (message.Held x refusal) mid p = partly-stays _ _ old mid p
  partway-stays (message.Prune x c (Some tracker) None) mid p = partly-stays _ _ old mid p
  partway-stays (message.Prune x c None (Some g)) mid p = partly-stays _ _ old mid p
  partway-stays (message.Reset' by down place asked) mid p = partly-stays _ _ old mid p
  partway-stays q mid p = absurd p

-- what is being made is frozen behind a turn that its store's stop didn't cut
pub turn-frozen : (number : ℕ) (t : TargetPlan) (m left : TargetMemory) (s u : SnapOf) (reading : ℕ) (from : ActorId) (q : Message) (d : Durable) (h : State) (new : Option Durable) (k : State) (finds : Durable → Type 0) (r : Result Did TargetStop)
    → HearsOrStops number t (remembered m s) reading from q d h new k finds (remembered left u) r → says stop_store r ≡ false → OnErr r (IsWithin u.collecting s.collecting) → AreFrozenHere s d → (x : Durable) × (new ≡ Some x) × AreFrozenHere u x
turn-frozen number t m left s u reading from q d h new k finds (Ok did) turn whole within are = (turn.durable, turn.kept_is, heard-frozen number t h.opening (remembered m s) reading from (kept d h) q (kept turn.durable k) (remembered left u, did) turn.holds are)
turn-frozen number t m left s u reading from q d h new k finds (Err (stop.Store issued lines)) turn whole within are = let no : ⊥ = cc in absurd no
turn-frozen number t m left s u reading from q d h new k finds (Err (stop.Foreign at byte)) turn whole within are = absurd turn
turn-frozen number t m left s u reading from q d h new k finds (Err stop.Memory) turn whole within are =
    (turn.durable, turn.kept_is, frozen-then s.collecting u.collecting d turn.durable (partway-stays number t h.opening (remembered m s) reading from (kept d h) q (kept turn.durable k) turn.holds.partly) within are)

-- and behind idle work
pub idle-frozen : (settling : Bool) (t : TargetPlan) (m left : TargetMemory) (s : SnapOf) (d : Durable) (h : State) (new : Option Durable) (k : State) (finds : Durable → Type 0) (r : Result Did TargetStop)
    → IdlesOrStops settling t m d h new k finds left r → says stop_store r ≡ false → AreFrozenHere s d → (x : Durable) × (new ≡ Some x) × AreFrozenHere s x
idle-frozen settling t m left s d h new k finds (Ok did) turn whole are =
    (turn.durable, turn.kept_is, frozen-then s.collecting s.collecting d turn.durable (reached-stays IdleNext m.leader.decided (kept d h) turn.holds.last (kept turn.durable k) turn.holds.reached) (λ n i. i) are)
idle-frozen settling t m left s d h new k finds (Err (stop.Store issued lines)) turn whole are = let no : ⊥ = cc in absurd no
idle-frozen settling t m left s d h new k finds (Err (stop.Foreign at byte)) turn whole are = absurd turn
idle-frozen settling t m left s d h new k finds (Err stop.Memory) turn whole are =
    (turn.durable, turn.kept_is, frozen-then s.collecting s.collecting d turn.durable (partly-stays IdleNext m.leader.decided (kept d h) (kept turn.durable k) turn.holds.partly) (λ n i. i) are)

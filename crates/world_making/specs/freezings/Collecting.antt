-- Who is counted of what a target collects, after a further message was heard.
use Rattle.std.specs.Prelude.{ℕ, ◌≡◌, ◌≤◌, ◌<◌, ◌==◌, not, nat_lt, Bool, true, false, List, [], ◌∷◌, ◌++◌, filter, find, map, length, slice_get, Option, Some, None, refl, if◌then◌else◌}
use Rattle.std.specs.Int.{bit_at}
use Rattle.std.proofs.Common.{sym, ◌∙◌, ap, subst, inl, inr, arith}
use Rattle.std.proofs.lemmas.Bool.Decides.{nat_tests}
use Rattle.std.proofs.lemmas.Nat.Bits.{bit_at-zero}
use Rattle.std.proofs.lemmas.Option.{slice_get_within}
use Rattle.base_types.specs.declared.epoch.Epoch.{Epoch}
use Rattle.base_types.specs.declared.id.AttemptId.{AttemptId}
use Rattle.base_types.specs.declared.id.ContId.{ContId}
use Rattle.base_types.specs.declared.key.Key.{Key}
use Rattle.base_types.specs.declared.outcome.FloorWhy.{FloorWhy}
use Rattle.base_types.specs.declared.outcome.Outcome.{Outcome}
use Rattle.base_types.specs.declared.outcome.Outcome.TheVariants as outcome
use Rattle.base_messages.specs.declared.actor.ActorId.{ActorId}
use Rattle.base_messages.specs.declared.message.Message.{Message, more_of-Message}
use Rattle.base_messages.specs.declared.message.Message.TheVariants as message
use Rattle.model_laws.specs.JoinLaws.{has-range}
use Rattle.model_laws.specs.Members.{Has, has-cases, has-filter, has-from_filter, has-from_map}
use Rattle.model_laws.specs.ServeLaws.{all-has}
use Rattle.model_laws.specs.TargetLaws.{number_same}
use Rattle.daos_model.specs.declared.durable.Durable.{Durable}
use Rattle.daos_model.specs.BoolLaws.{both, false_of}
use Rattle.daos_model.specs.Durables.{is_frozen, same_attempt}
use Rattle.dtx_base.specs.LeaderLaws.{had_or_is, same-is}
use Rattle.dtx_base.specs.Members.{all_targets, has_target, with_target}
use Rattle.world_base.specs.declared.did.Did.{Did}
use Rattle.world_base.specs.declared.request.CommitRequest.{CommitRequest}
use Rattle.world_base.specs.declared.target.Collection.{Collection}
use Rattle.world_base.specs.declared.target.TargetMemory.{TargetMemory}
use Rattle.world_base.specs.declared.target.TargetPlan.{TargetPlan}
use Rattle.world_base.specs.declared.target.TargetState.{TargetState}
use Rattle.world_base.specs.declared.world.World.{World}
use Rattle.world_base.specs.Changes.{Kept}
use Rattle.world_base.specs.Commits as commit
use Rattle.world_base.specs.Events.{Rules, target_plan}
use Rattle.world_base.specs.Further.{CommitDown, HearsFurther, IsSpent, IsUnknown, knows_down, reset_by}
use Rattle.world_base.specs.Snapshots as snap
use Rattle.world_base.specs.Statuses.{AtOnce, EndsAs, IsDone}
use Rattle.world_base.specs.TargetTurns.{commit_request}
use Rattle.world_making.specs.freezings.Freezings.{IsCountedSo, KeepsFrozen}
use Rattle.world_making.specs.freezings.Turns.{FreezesSo, MayCreate, freezes-path}
use Rattle.world_letters.specs.snapshots.Memories.{Same, ack-same}

-- of all that is collected
abbrev pub AreHeldSo : World → Durable → List Collection → Type 0
AreHeldSo w d ns = (n : Collection) (name : Key) → Has n ns → n.name ≡ Some name → IsCountedSo w d n

-- what is frozen in one stays so in another
abbrev pub StaysFrozen : Durable → Durable → Type 0
StaysFrozen d e = (c : ContId) (s : Epoch) → is_frozen d c s ≡ true → is_frozen e c s ≡ true

-- no target is among none
none-counted : (u : ℕ) → has_target 0 u ≡ true → ⊥
unfolding has_target
none-counted u is = let none : bit_at 0 u ≡ 0 = bit_at-zero u in let one : bit_at 0 u ≡ 1 = grind (arith, nat_tests) in omega (arith, none, one)

-- another target of a run is among the others
pub among-others : (r : Rules) (w : World) (t u : ℕ) (z : TargetState) → length w.targets ≡ r.script.targets → r.script.targets ≤ 64 → (u ≡ t → ⊥) → slice_get w.targets u ≡ Some z → Has u (snap.others (target_plan r t))
among-others r w t u z many few off at =
    let low : u < length w.targets = slice_get_within w.targets u z at in
    let in-run : u < r.script.targets = omega (arith, low, many) in
    has-filter (snap.is_another (target_plan r t)) all_targets u (has-range 0 64 u (omega arith) (omega (arith, in-run, few)))
    (both (nat_lt u r.script.targets) (not (u == t)) (grind (arith, nat_tests)) (ap not (false_of (u == t) (λ same. off (number_same u t same)))))

module _ (w : World) (m : TargetMemory) (d e : Durable) (before : AreHeldSo w d m.collecting) (stays : StaysFrozen d e) where
  counts-stay : (n : Collection) → IsCountedSo w d n → IsCountedSo w e n
  counts-stay n k = (stays n.cont n.epoch k.0, k.1)

  pub counts-same : (ns : List Collection) → ns ≡ m.collecting → AreHeldSo w e ns
  counts-same ns same n name i named = counts-stay n (before n name (subst (Has n) same i) named)

  -- one collection more
  counts-more : (ns : List Collection) (new : Collection) → ns ≡ m.collecting ++ new ∷ [] → ((name : Key) → new.name ≡ Some name → IsCountedSo w e new) → AreHeldSo w e ns
  counts-more ns new same so n name i named = elim (has-cases m.collecting (new ∷ []) n (subst (Has n) same i)) [
    | inl j ↦ counts-stay n (before n name j named)
    | inr j ↦ its j
  ]
    where
      its : Has n (new ∷ []) → IsCountedSo w e n
      its (inl it) = subst (IsCountedSo w e) (sym it) (so name (ap (λ y. y.name) (sym it) ∙ named))
      its (inr none) = absurd none

  counts-fewer : (x : AttemptId) (ns : List Collection) → ns ≡ filter (snap.is_other_collection x) m.collecting → AreHeldSo w e ns
  counts-fewer x ns same n name i named = counts-stay n (before n name (has-from_filter (snap.is_other_collection x) m.collecting n (subst (Has n) same i)).0 named)

  -- a target is counted
  counts-one : (x : AttemptId) (from : ℕ) → ((n : Collection) (name : Key) → Has n m.collecting → n.name ≡ Some name → n.attempt ≡ x → KeepsFrozen w from n.cont n.epoch) → AreHeldSo w e (map (snap.held_at x from) m.collecting)
  counts-one x from frozen n name i named = let z = has-from_map (snap.held_at x from) m.collecting n i in by z.0 z.1 z.2
    where
      by : (q : Collection) → Has q m.collecting → snap.held_at x from q ≡ n → IsCountedSo w e n
      by q j same = subst (IsCountedSo w e) same (one (same_attempt q.attempt x) refl (named-so (same_attempt q.attempt x) (ap (λ y. y.name) same ∙ named)))
        where
          named-so : (b : Bool) → (if b then record q { held = with_target q.held from } else q).name ≡ Some name → q.name ≡ Some name
          named-so true is = is
          named-so false is = is

          one : (b : Bool) → same_attempt q.attempt x ≡ b → q.name ≡ Some name → IsCountedSo w e (if b then record q { held = with_target q.held from } else q)
          one true its q-named =
              let k = before q name j q-named in
              (stays q.cont q.epoch k.0, λ u has. elim (had_or_is q.held from u has) [ inl is-from ↦ subst (λ y. KeepsFrozen w y q.cont q.epoch) (sym is-from) (frozen q name j q-named (same-is q.attempt x its)) | inr had ↦ k.1 u had ])
          one false its q-named = counts-stay q (before q name j q-named)

  -- ---- by what was heard

  down-counts : (t : TargetPlan) (reading : ℕ) (q : CommitRequest) (from : ActorId) (s : commit.CommitStage) (k : Kept) (left : TargetMemory × Did) → CommitDown t m reading q from s k left → AreHeldSo w e left.0.collecting
  down-counts t reading q from s k left (IsSpent k2 ep down left2 none is says) = counts-same left2.0.collecting (ap (λ o. o.0.collecting) says)
  down-counts t reading q from s k left (IsUnknown k2 ep down left2 is says) = counts-same left2.0.collecting (ap (λ o. o.0.collecting) says)

  snap-counts : (p : TargetPlan) (reading : ℕ) (tracker : Epoch) (x : AttemptId) (c : ContId) (name : Key) (from : ActorId) (alone : Bool) (old : Kept) (s : snap.FreezeStage)
      (k : Kept) (left : TargetMemory × Did) → k.durable ≡ e → FreezesSo p m reading tracker None c alone old s k
      → snap.SnapEnds p m reading tracker x c name from s k left → AreHeldSo w e left.0.collecting
  snap-counts p reading tracker x c name from alone old s k left now so (snap.IsSpent k2 left2 none says) = counts-same left2.0.collecting (ap (λ o. o.0.collecting) says)
  snap-counts p reading tracker x c name from alone old s k left now so (snap.IsRefused k2 ep how left2 why says) = counts-same left2.0.collecting (ap (λ o. o.0.collecting) says)
  snap-counts p reading tracker x c name from alone old s k left now so (snap.AsksOthers k2 ep told left2 others says) =
      counts-more left2.0.collecting (snap.new_collection x from c ep (Some name)) (ap (λ o. o.0.collecting) says) (λ n named. (subst (λ y. is_frozen y c ep ≡ true) now so.2, λ u has. absurd (none-counted u has)))
  snap-counts p reading tracker x c name from alone old s k left now so (snap.IsAlone k2 ep told left2 says) = counts-same left2.0.collecting (ap (λ o. o.0.collecting) says)

  freeze-counts : (p : TargetPlan) (x : AttemptId) (c : ContId) (from : ActorId) (s : snap.FreezeStage) (k : Kept) (left : TargetMemory × Did) → snap.FreezeEnds p m x c from s k left → AreHeldSo w e left.0.collecting
  freeze-counts p x c from s k left (snap.IsRefused k2 ep how left2 why says) = counts-same left2.0.collecting (ap (λ o. o.0.collecting) says)
  freeze-counts p x c from s k left (snap.IsHeld k2 ep told left2 says) = counts-same left2.0.collecting (ap (λ o. o.0.collecting) says)

  aggregate-counts : (p : TargetPlan) (reading : ℕ) (tracker : Epoch) (x : AttemptId) (c : ContId) (from : ActorId) (s : snap.PruneStage) (k : Kept) (left : TargetMemory × Did)
      → snap.AggregateEnds p m reading tracker x c from s k left → AreHeldSo w e left.0.collecting
  aggregate-counts p reading tracker x c from s k left (snap.IsSpent k2 left2 none says) = counts-same left2.0.collecting (ap (λ o. o.0.collecting) says)
  aggregate-counts p reading tracker x c from s k left (snap.AsksOthers k2 g told left2 others says) =
      counts-more left2.0.collecting (snap.new_collection x from c g None) (ap (λ o. o.0.collecting) says) (λ n named. (let no : ⊥ = cc in absurd no))
  aggregate-counts p reading tracker x c from s k left (snap.IsAlone k2 g told left2 only says) = counts-same left2.0.collecting (ap (λ o. o.0.collecting) says)

  prune-counts : (x : AttemptId) (from : ActorId) (s : snap.PruneStage) (k : Kept) (left : TargetMemory × Did) → snap.PruneEnds m x from s k left → AreHeldSo w e left.0.collecting
  prune-counts x from s k left (snap.IsHeld k2 g told left2 says) = counts-same left2.0.collecting (ap (λ o. o.0.collecting) says)

  counts-as : (left to : TargetMemory × Did) → left ≡ to → AreHeldSo w e to.0.collecting → AreHeldSo w e left.0.collecting
  counts-as left to same = subst (λ z. AreHeldSo w e z.0.collecting) (sym same)

  held-by_counts : (p : TargetPlan) (from : ℕ) (x : AttemptId) (refusal : Option Outcome) (o : Option Collection)
      → (refusal ≡ None → (n : Collection) (name : Key) → Has n m.collecting → n.name ≡ Some name → n.attempt ≡ x → KeepsFrozen w from n.cont n.epoch) → AreHeldSo w e (snap.held_by p m from x refusal o).0.collecting
  held-by_counts p from x None None frozen = counts-same m.collecting refl
  held-by_counts p from x (Some how) None frozen = counts-same m.collecting refl
  held-by_counts p from x (Some how) (Some c) frozen = counts-fewer x (filter (snap.is_other_collection x) m.collecting) refl
  held-by_counts p from x None (Some c) frozen = by (snap.is_last p from c)
    where
      ends : Bool → TargetMemory × Did
      ends b = if b then (snap.collected x m, snap.follows (snap.to_actor c.client (message.Ended x (Some c.epoch) outcome.Committed)) [] None) else (snap.counts_held x from m, snap.follows [] [] None)

      by : (b : Bool) → AreHeldSo w e (ends b).0.collecting
      by true = counts-fewer x (filter (snap.is_other_collection x) m.collecting) refl
      by false = counts-one x from (frozen refl)

  held-counts : (p : TargetPlan) (from : ℕ) (x : AttemptId) (refusal : Option Outcome) (s : snap.HeldStage) (k : Kept) (left : TargetMemory × Did)
      → (refusal ≡ None → (n : Collection) (name : Key) → Has n m.collecting → n.name ≡ Some name → n.attempt ≡ x → KeepsFrozen w from n.cont n.epoch) → snap.HeldEnds p m from x refusal s k left → AreHeldSo w e left.0.collecting
  held-counts p from x refusal s k left frozen (snap.IsCounted k2 left2 says) = counts-as left2 _ says (held-by_counts p from x refusal (snap.collection_of x m) frozen)
  held-counts p from x refusal s k left frozen (snap.IsCreated k2 c name left2 says) = counts-fewer x left2.0.collecting (ap (λ o. o.0.collecting) says)

  at-once : (left_by : Kept → TargetMemory × Did) (s : AtOnce) (k : Kept) (left : TargetMemory × Did) → ((j : Kept) → AreHeldSo w e (left_by j).0.collecting) → EndsAs left_by s k left → AreHeldSo w e left.0.collecting
  at-once left_by s k left each (IsDone k2 left2 says) = counts-as left2 (left_by k2) says (each k2)

  knows-same : (by : ℕ) (down : Bool) (n : TargetMemory) → Same n (knows_down by down n)
  knows-same by true n = refl
  knows-same by false n = refl

  collects-counts : (by : ℕ) (down : Bool) (asked : Message) (x : AttemptId) (o : Option Collection) → AreHeldSo w e (snap.collection_reset by down asked x o m).0.collecting
  collects-counts by false asked x o = counts-same m.collecting refl
  collects-counts by true asked x None = counts-same m.collecting refl
  collects-counts by true asked x (Some n) = counts-fewer x (filter (snap.is_other_collection x) m.collecting) refl

  reset-counts : (t : TargetPlan) (by : ℕ) (down : Bool) (asked : Message) (k : Kept) → AreHeldSo w e (reset_by t m by down asked k).0.collecting
  reset-counts t by down (message.Freeze x c s) k =
      subst (AreHeldSo w e) (sym (knows-same by down (snap.collects_reset by down (message.Freeze x c s) m).0)) (collects-counts by down (message.Freeze x c s) x (snap.collection_of x m))
  reset-counts t by down (message.Prune x c tracker g) k =
      subst (AreHeldSo w e) (sym (knows-same by down (snap.collects_reset by down (message.Prune x c tracker g) m).0)) (collects-counts by down (message.Prune x c tracker g) x (snap.collection_of x m))
  reset-counts t by down asked k = counts-same m.collecting refl

-- after every further message, where who answered a Freeze holds frozen what is collected
pub further-counts : (w : World) (number : ℕ) (t : TargetPlan) (opening : Epoch × FloorWhy) (m : TargetMemory) (reading : ℕ) (from : ActorId) (q : Message) (old new : Kept) (left : TargetMemory × Did)
    → AreHeldSo w old.durable m.collecting → StaysFrozen old.durable new.durable
    → ((x : AttemptId) (n : Collection) (name : Key) → q ≡ message.Held x None → Has n m.collecting → n.name ≡ Some name → n.attempt ≡ x → KeepsFrozen w from.number n.cont n.epoch)
    → HearsFurther number t opening m reading from q old new left → AreHeldSo w new.durable left.0.collecting
further-counts w number t opening m reading from (message.Commit x ep first tracker ws) old new left before stays held h = down-counts w m old.durable new.durable before stays t reading (commit_request x ep first tracker ws) from h.last new left h.ends
further-counts w number t opening m reading from (message.Ask x) old new left before stays held h = at-once w m old.durable new.durable before stays _ h.last new left
    (λ j. counts-same w m old.durable new.durable before stays m.collecting refl) h.ends
further-counts w number t opening m reading from (message.Status x inc) old new left before stays held h = at-once w m old.durable new.durable before stays _ h.last new left
    (λ j. counts-same w m old.durable new.durable before stays m.collecting refl) h.ends
further-counts w number t opening m reading from (message.StatusIs x inc how) old new left before stays held h = counts-same w m old.durable new.durable before stays left.0.collecting (ack-same m h.last new left h.ends)
further-counts w number t opening m reading from (message.Snap x c called tracker) old new left before stays held h =
    snap-counts w m old.durable new.durable before stays t reading tracker x c called from (snap.is_held_by_all t 0) old h.last new left refl
    (freezes-path t m reading tracker None c (snap.is_held_by_all t 0) old h.reached.did h.last new h.reached.path) h.ends
further-counts w number t opening m reading from (message.Freeze x c s) old new left before stays held h = freeze-counts w m old.durable new.durable before stays t x c from h.last new left h.ends
further-counts w number t opening m reading from (message.Held x refusal) old new left before stays held h =
    held-counts w m old.durable new.durable before stays t from.number x refusal h.last new left (λ none n name i named its. held x n name (ap (message.Held x) none) i named its) h.ends
further-counts w number t opening m reading from (message.Prune x c (Some tracker) None) old new left before stays held h = aggregate-counts w m old.durable new.durable before stays t reading tracker x c from h.last new left h.ends
further-counts w number t opening m reading from (message.Prune x c None (Some g)) old new left before stays held h = prune-counts w m old.durable new.durable before stays x from h.last new left h.ends
further-counts w number t opening m reading from (message.Reset' by down place (more_of-Message asked rest)) old new left before stays held h = at-once w m old.durable new.durable before stays _ h.last new left (reset-counts w m old.durable new.durable before stays t by down asked) h.ends
further-counts w number t opening m reading from q old new left before stays held h = absurd h

-- ---- the last answer

-- What is found among what is collected is collected, for its attempt.
pub found-is : (x : AttemptId) (ms : List Collection) (c : Collection) → find (snap.is_collection_of x) ms ≡ Some c → Has c ms × (c.attempt ≡ x)
found-is x [] c is = let no : ⊥ = cc in absurd no
found-is x (n ∷ ms) c is = by (snap.is_collection_of x n) refl is (found-is x ms c)
  where
    by : (b : Bool) → snap.is_collection_of x n ≡ b → (if b then Some n else find (snap.is_collection_of x) ms) ≡ Some c → (find (snap.is_collection_of x) ms ≡ Some c → Has c ms × (c.attempt ≡ x)) → Has c (n ∷ ms) × (c.attempt ≡ x)
    by true its h rest = let same : n ≡ c = cc in (inl (sym same), subst (λ z. z.attempt ≡ x) same (same-is n.attempt x its))
    by false its h rest = let z = rest h in (inr z.0, z.1)

-- what the last answer creates is frozen at every other target
pub last-creates : (r : Rules) (w : World) (t : ℕ) (m : TargetMemory) (d : Durable) (from : ℕ) (x : AttemptId) (refusal : Option Outcome) → length w.targets ≡ r.script.targets → r.script.targets ≤ 64 → AreHeldSo w d m.collecting
    → (refusal ≡ None → (n : Collection) (name : Key) → Has n m.collecting → n.name ≡ Some name → n.attempt ≡ x → KeepsFrozen w from n.cont n.epoch)
    → MayCreate (λ c s. (u : ℕ) → (u ≡ t → ⊥) → KeepsFrozen w u c s) (target_plan r t) m from x refusal
last-creates r w t m d from x refusal many few before frozen n name none found named last u off z at =
    let its = found-is x m.collecting n found in
    let i : Has u (snap.others (target_plan r t)) = among-others r w t u z many few off at in
    elim (had_or_is n.held from u (all-has (has_target (with_target n.held from)) (snap.others (target_plan r t)) u last i)) [
      | inl is-from ↦ frozen none n name its.0 named its.1 z (subst (λ y. slice_get w.targets y ≡ Some z) is-from at)
      | inr had ↦ (before n name its.0 named).1 u had z at
    ]

-- and so is what the only target creates
pub alone-creates : (r : Rules) (w : World) (t u : ℕ) → length w.targets ≡ r.script.targets → r.script.targets ≤ 64 → snap.is_held_by_all (target_plan r t) 0 ≡ true → (u ≡ t → ⊥) → (c : ContId) (s : Epoch) → KeepsFrozen w u c s
alone-creates r w t u many few alone off c s z at = absurd (none-counted u (all-has (has_target 0) (snap.others (target_plan r t)) u alone (among-others r w t u z many few off at)))

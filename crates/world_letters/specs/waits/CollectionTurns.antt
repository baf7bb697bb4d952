-- Target 0 makes a snapshot, or aggregates, for a client, and the other targets with it.
use Rattle.std.specs.Prelude.{ℕ, ◌≡◌, ◌++◌, ◌==◌, ◌&&◌, Bool, true, false, not, if◌then◌else◌, List, [], ◌∷◌, filter, find, map, Option, Some, None, refl}
use Rattle.std.proofs.Common.{sym, ◌∙◌, ap, subst, inl, inr}
use Rattle.base_types.specs.declared.epoch.Epoch.{Epoch}
use Rattle.base_types.specs.declared.id.AttemptId.{AttemptId}
use Rattle.base_types.specs.declared.id.ContId.{ContId}
use Rattle.base_types.specs.declared.key.Key.{Key}
use Rattle.base_types.specs.declared.outcome.Outcome.{Outcome}
use Rattle.base_types.specs.declared.outcome.Outcome.TheVariants as outcome
use Rattle.base_messages.specs.declared.actor.ActorId.{ActorId}
use Rattle.base_messages.specs.declared.message.Message.{Message}
use Rattle.base_messages.specs.declared.message.Message.TheVariants as message
use Rattle.base_messages.specs.declared.message.Post.{Post}
use Rattle.daos_model.specs.BoolLaws.{clash, false_of}
use Rattle.daos_model.specs.Durables.{same_attempt}
use Rattle.daos_model.specs.EntryLaws.{same_attempt-itself}
use Rattle.world_base.specs.dtx_base.LeaderLaws.{same-is}
use Rattle.world_base.specs.dtx_base.Leading.{to_target}
use Rattle.world_base.specs.dtx_base.Members.{with_target}
use Rattle.world_base.specs.model_laws.Members.{Has, has-filter, has-from_filter, has-from_map, has-map}
use Rattle.world_base.specs.model_laws.TargetLaws.{same_number}
use Rattle.world_base.specs.declared.did.Did.{Did}
use Rattle.world_base.specs.declared.target.Collection.{Collection}
use Rattle.world_base.specs.declared.target.TargetMemory.{TargetMemory}
use Rattle.world_base.specs.declared.target.TargetPlan.{TargetPlan}
use Rattle.world_base.specs.Changes.{Change, Kept, Steps}
use Rattle.world_base.specs.Further.{collection_left, knows_down}
use Rattle.world_base.specs.Letters.{client, is_client, target}
use Rattle.world_base.specs.PathLaws.{reached-keeps}
use Rattle.world_base.specs.Snapshots as snap
use Rattle.world_base.specs.Snapshots.{collected, collection_of, collection_reset, collects_reset, counts_held, freeze_to, held_at, is_collection_of, is_other_collection, others, prune_to, to_actor}
use Rattle.world_base.specs.Turns.{Whole}
use Rattle.world_letters.specs.talks.Conversation.{Answers}
use Rattle.world_letters.specs.waits.LeaderTurns.{filter-drop}
use Rattle.world_letters.specs.waits.Lists.{filter-no, filter-none, filter-yes}
use Rattle.world_letters.specs.waits.Parts.{HandsOn, Holding, HoldsNone, HoldsOne, Leaves, LeavesOut, Passes, collected-is, collected_part, collection-is_held, collection-own, ends-for, filter-last_off, filter-last_on, held-parts, holds-same, no-map, no-parts, open_part, parked_part, told-one_off, told-one_on}
use Rattle.world_letters.specs.waits.Passing.{Goes, IsKept, IsTold, told-none, told_to}
use Rattle.world_letters.specs.waits.TargetLaws.{AreBetween}
use Rattle.world_letters.specs.waits.Waits.{AnAggregation, AnAsk, ARead, ASnapshot, CollectedAt, Held, HoldsIt, ItsWrites, OpenAt, ParkedAt, collected_at, held_by, is_collected_of}

-- ---- a client asks for one

-- The client is told an end; or what it asked for is collected from then on, and only targets are sent anything.
pub data CollectLeaves (t : ℕ) (x : AttemptId) (q : Message) (from : ActorId) (m : TargetMemory) (left : TargetMemory × Did) : Type 0 where
  IsEnded : (own : Option Epoch) (how : Outcome) → left.1.posts ≡ record { to = from; message = message.Ended x own how } ∷ [] → left.0.member.parked ≡ m.member.parked → left.0.leader.undecided ≡ m.leader.undecided → left.0.collecting ≡ m.collecting
      → CollectLeaves t x q from m left
  Collects : (c : Collection) → c.client ≡ from → ((s : Post) → s.to ≡ target t → s.message ≡ q → HoldsIt s (CollectedAt t c)) → AreBetween left.1.posts → left.0.member.parked ≡ m.member.parked → left.0.leader.undecided ≡ m.leader.undecided
      → left.0.collecting ≡ m.collecting ++ c ∷ [] → CollectLeaves t x q from m left

freezes-between : (x : AttemptId) (c : ContId) (s : Epoch) (ts : List ℕ) → AreBetween (map (freeze_to x c s) ts)
freezes-between x c s ts q i = let z = has-from_map (freeze_to x c s) ts q i in ap (λ y. y.to.client) (sym z.2)

prunes-between : (x : AttemptId) (c : ContId) (g : Epoch) (ts : List ℕ) → AreBetween (map (prune_to x c g) ts)
prunes-between x c g ts q i = let z = has-from_map (prune_to x c g) ts q i in ap (λ y. y.to.client) (sym z.2)

pub snap-leaves : (t : ℕ) (p : TargetPlan) (m : TargetMemory) (reading : ℕ) (tracker : Epoch) (x : AttemptId) (c : ContId) (name : Key) (from : ActorId) (s : snap.FreezeStage) (k : Kept) (left : TargetMemory × Did)
    → snap.SnapEnds p m reading tracker x c name from s k left → CollectLeaves t x (message.Snap x c name tracker) from m left
snap-leaves t p m reading tracker x c name from s k left (snap.IsSpent k2 left2 none says) = IsEnded _ _ (ap (λ o. o.1.posts) says) (ap (λ o. o.0.member.parked) says) (ap (λ o. o.0.leader.undecided) says) (ap (λ o. o.0.collecting) says)
snap-leaves t p m reading tracker x c name from s k left (snap.IsRefused k2 e how left2 why says) = IsEnded _ _ (ap (λ o. o.1.posts) says) (ap (λ o. o.0.member.parked) says) (ap (λ o. o.0.leader.undecided) says) (ap (λ o. o.0.collecting) says)
snap-leaves t p m reading tracker x c name from s k left (snap.IsAlone k2 e lines left2 says) = IsEnded _ _ (ap (λ o. o.1.posts) says) (ap (λ o. o.0.member.parked) says) (ap (λ o. o.0.leader.undecided) says) (ap (λ o. o.0.collecting) says)
snap-leaves t p m reading tracker x c name from s k left (snap.AsksOthers k2 e lines left2 more says) =
    Collects (snap.new_collection x from c e (Some name)) refl (λ q to is. ASnapshot t (snap.new_collection x from c e (Some name)) name tracker to is refl) (subst AreBetween (sym (ap (λ o. o.1.posts) says)) (freezes-between x c e (others p)))
    (ap (λ o. o.0.member.parked) says) (ap (λ o. o.0.leader.undecided) says) (ap (λ o. o.0.collecting) says)

pub aggregate-leaves : (t : ℕ) (p : TargetPlan) (m : TargetMemory) (reading : ℕ) (tracker : Epoch) (x : AttemptId) (c : ContId) (from : ActorId) (s : snap.PruneStage) (k : Kept) (left : TargetMemory × Did)
    → snap.AggregateEnds p m reading tracker x c from s k left → CollectLeaves t x (message.Prune x c (Some tracker) None) from m left
aggregate-leaves t p m reading tracker x c from s k left (snap.IsSpent k2 left2 none says) = IsEnded _ _ (ap (λ o. o.1.posts) says) (ap (λ o. o.0.member.parked) says) (ap (λ o. o.0.leader.undecided) says) (ap (λ o. o.0.collecting) says)
aggregate-leaves t p m reading tracker x c from s k left (snap.IsAlone k2 g lines left2 alone says) = IsEnded _ _ (ap (λ o. o.1.posts) says) (ap (λ o. o.0.member.parked) says) (ap (λ o. o.0.leader.undecided) says) (ap (λ o. o.0.collecting) says)
aggregate-leaves t p m reading tracker x c from s k left (snap.AsksOthers k2 g lines left2 more says) =
    Collects (snap.new_collection x from c g None) refl (λ q to is. AnAggregation t (snap.new_collection x from c g None) tracker to is refl) (subst AreBetween (sym (ap (λ o. o.1.posts) says)) (prunes-between x c g (others p)))
    (ap (λ o. o.0.member.parked) says) (ap (λ o. o.0.leader.undecided) says) (ap (λ o. o.0.collecting) says)

module _ (t j : ℕ) (x : AttemptId) (q : Message) (m : TargetMemory) (left : TargetMemory × Did) where
  pub collect-off : (n : ℕ) → (j == n) ≡ false → CollectLeaves t x q (client j) m left → LeavesOut n t m left.0 left.1.posts
  collect-off n off (IsEnded own how posts parked undecided collecting) = record { told = told-one_off n left.1.posts _ posts off; held = holds-same n t m left.0 parked undecided collecting }
  collect-off n off (Collects c from holds between parked undecided collecting) = record {
    told = told-none n left.1.posts between;
    held = held-parts n t left.0 (parked_part n t m.member.parked) (open_part n t m.leader.undecided) (collected_part n t m.collecting) (ap (parked_part n t) parked) (ap (open_part n t) undecided)
        (ap (collected_part n t) collecting ∙ ap (map (collected_at t)) (filter-last_off (is_collected_of n) c m.collecting (ap (is_client n) from ∙ off)));
  }

  pub collect-on : ((own : Option Epoch) (how : Outcome) → Answers q (message.Ended x own how)) → (s : Post) → s.to ≡ target t → s.message ≡ q → held_by j t m ≡ [] → CollectLeaves t x q (client j) m left → Goes s (told_to j left.1.posts) (held_by j t left.0)
  collect-on ends s to is none (IsEnded own how posts parked undecided collecting) =
      IsTold _ (told-one_on j left.1.posts _ posts (same_number j)) (holds-same j t m left.0 parked undecided collecting ∙ none) (subst (λ z. Answers z (message.Ended x own how)) (sym is) (ends own how))
  collect-on ends s to is none (Collects c from holds between parked undecided collecting) =
      let parts = no-parts j t m none in
      IsKept (CollectedAt t c) (told-none j left.1.posts between)
      (held-parts j t left.0 [] [] (CollectedAt t c ∷ []) (ap (parked_part j t) parked ∙ parts.parked) (ap (open_part j t) undecided ∙ parts.opened)
      (ap (collected_part j t) collecting ∙ ap (map (collected_at t)) (filter-last_on (is_collected_of j) c m.collecting (ap (is_client j) from ∙ same_number j) (no-map (collected_at t) (filter (is_collected_of j) m.collecting) parts.collected)))) (holds s to is)

-- ---- another target is asked

-- target 0 is told
pub freeze-leaves : (n t : ℕ) (p : TargetPlan) (m : TargetMemory) (x : AttemptId) (c : ContId) (from : ActorId) (s : snap.FreezeStage) (k : Kept) (left : TargetMemory × Did) → from.client ≡ false → snap.FreezeEnds p m x c from s k left → LeavesOut n t m left.0 left.1.posts
freeze-leaves n t p m x c from s k left off (snap.IsRefused k2 e how left2 why says) = record { told = told-one_off n left2.1.posts _ (ap (λ o. o.1.posts) says) (ap (λ b. b && (from.number == n)) off); held = holds-same n t m left2.0 (ap (λ o. o.0.member.parked) says) (ap (λ o. o.0.leader.undecided) says) (ap (λ o. o.0.collecting) says) }
freeze-leaves n t p m x c from s k left off (snap.IsHeld k2 e lines left2 says) = record { told = told-one_off n left2.1.posts _ (ap (λ o. o.1.posts) says) (ap (λ b. b && (from.number == n)) off); held = holds-same n t m left2.0 (ap (λ o. o.0.member.parked) says) (ap (λ o. o.0.leader.undecided) says) (ap (λ o. o.0.collecting) says) }

pub prune-leaves : (n t : ℕ) (m : TargetMemory) (x : AttemptId) (from : ActorId) (s : snap.PruneStage) (k : Kept) (left : TargetMemory × Did) → from.client ≡ false → snap.PruneEnds m x from s k left → LeavesOut n t m left.0 left.1.posts
prune-leaves n t m x from s k left off (snap.IsHeld k2 g lines left2 says) = record { told = told-one_off n left2.1.posts _ (ap (λ o. o.1.posts) says) (ap (λ b. b && (from.number == n)) off); held = holds-same n t m left2.0 (ap (λ o. o.0.member.parked) says) (ap (λ o. o.0.leader.undecided) says) (ap (λ o. o.0.collecting) says) }

-- ---- one ends

found-is : (x : AttemptId) (cs : List Collection) (c : Collection) → find (is_collection_of x) cs ≡ Some c → Has c cs × (same_attempt c.attempt x ≡ true)
found-is x [] c found = let no : ⊥ = cc in absurd no
found-is x (y ∷ cs) c found = by (found-is x cs c) (same_attempt y.attempt x) refl found
  where
    by : (find (is_collection_of x) cs ≡ Some c → Has c cs × (same_attempt c.attempt x ≡ true)) → (b : Bool) → same_attempt y.attempt x ≡ b → (if b then Some y else find (is_collection_of x) cs) ≡ Some c → Has c (y ∷ cs) × (same_attempt c.attempt x ≡ true)
    by rest true e f = let same : c ≡ y = cc in (inl same, ap (λ z. same_attempt z.attempt x) same ∙ e)
    by rest false e f = let k = rest f in (inr k.0, k.1)

-- what is collected is collected for the attempts' clients
abbrev pub CollectsForOwn : TargetMemory → Type 0
CollectsForOwn m = (c : Collection) → Has c m.collecting → c.client ≡ client c.attempt.client

-- a snapshot or an aggregation ends, and who asked for it is told
pub record EndsCollection (x : AttemptId) (m z : TargetMemory) (posts : List Post) : Type 0 where
  pub c : Collection
  pub found : collection_of x m ≡ Some c
  pub how : Outcome
  pub says : posts ≡ to_actor c.client (message.Ended x (Some c.epoch) how)
  pub parked : z.member.parked ≡ m.member.parked
  pub undecided : z.leader.undecided ≡ m.leader.undecided
  pub collecting : z.collecting ≡ filter (is_other_collection x) m.collecting

module _ (n t : ℕ) (x : AttemptId) (m z : TargetMemory) (posts : List Post) (k : EndsCollection x m z posts) (own : CollectsForOwn m) where
  its : Has k.c m.collecting × (same_attempt k.c.attempt x ≡ true)
  its = found-is x m.collecting k.c k.found

  of-it : k.c.attempt ≡ x
  of-it = same-is k.c.attempt x its.1

  parts-now : (cs : List Held) → collected_part n t z.collecting ≡ cs → held_by n t z ≡ parked_part n t m.member.parked ++ (open_part n t m.leader.undecided ++ cs)
  parts-now cs is = held-parts n t z (parked_part n t m.member.parked) (open_part n t m.leader.undecided) cs (ap (parked_part n t) k.parked) (ap (open_part n t) k.undecided) is

  pub collection-passes : Holding n t m → Passes n t m z posts
  collection-passes h = by (is_client n k.c.client) refl
    where
      none-left : held_by n t m ≡ CollectedAt t k.c ∷ [] → collected_part n t z.collecting ≡ []
      none-left one =
          ap (collected_part n t) k.collecting ∙ ap (map (collected_at t)) (filter-none (is_collected_of n) (filter (is_other_collection x) m.collecting) (λ c i.
          let f = has-from_filter (is_other_collection x) m.collecting c i in
          false_of (is_collected_of n c) (λ is. clash (not (same_attempt c.attempt x)) f.1 (ap not (ap (λ y. same_attempt y x) (same-one c f.0 is ∙ of-it) ∙ same_attempt-itself x)))))
        where
          same-one : (c : Collection) → Has c m.collecting → is_collected_of n c ≡ true → c.attempt ≡ k.c.attempt
          same-one c i is = among (subst (Has (CollectedAt t c)) (collected-is n t m k.c one).collected (has-map (collected_at t) (filter (is_collected_of n) m.collecting) c (has-filter (is_collected_of n) m.collecting c i is)))
            where
              among : Has (CollectedAt t c) (CollectedAt t k.c ∷ []) → c.attempt ≡ k.c.attempt
              among (inl same) = let it : c ≡ k.c = cc in ap (λ y. y.attempt) it
              among (inr none) = absurd none

      goes : held_by n t m ≡ CollectedAt t k.c ∷ [] → is_client n k.c.client ≡ true → (q : Post) → HoldsIt q (CollectedAt t k.c) → Goes q (told_to n posts) (held_by n t z)
      goes one on q holds =
          let parts = collected-is n t m k.c one in
          IsTold _ (told-one_on n posts _ k.says on) (parts-now [] (none-left one) ∙ ap (λ ps. ps ++ (open_part n t m.leader.undecided ++ [])) parts.parked ∙ ap (λ us. us ++ []) parts.opened)
          (subst (λ y. Answers q.message (message.Ended y (Some k.c.epoch) k.how)) of-it (ends-for q (CollectedAt t k.c) holds (Some k.c.epoch) k.how))

      by : (b : Bool) → is_client n k.c.client ≡ b → Passes n t m z posts
      by false off = Leaves (record {
        told = told-one_off n posts _ k.says off;
        held = parts-now (collected_part n t m.collecting) (ap (collected_part n t) k.collecting ∙ ap (map (collected_at t)) (filter-drop (is_collected_of n) (is_other_collection x) m.collecting (λ c i is. ap not (false_of (same_attempt c.attempt x) (λ same.
            let theirs : k.c.attempt.client ≡ n = ap (λ y. y.client) (of-it ∙ sym (same-is c.attempt x same)) ∙ collection-own n t m h c i is in
            clash (is_client n k.c.client) (ap (is_client n) (own k.c its.0) ∙ ap (λ i. i == n) theirs ∙ same_number n) off)))));
      })
      by true on = let one = collection-is_held n t m k.c h its.0 on in HandsOn (CollectedAt t k.c) one (λ q of holds. goes one on q holds)

-- ---- a Held

-- what is counted changes nothing of what was asked for
abbrev CountsAs : Post → Held → Type 0
CountsAs q (ParkedAt t ask) = Unit {0}
CountsAs q (OpenAt t x) = Unit {0}
CountsAs q (CollectedAt t c) = (held : ℕ) → HoldsIt q (CollectedAt t (record c { held = held }))

counts-as : (q : Post) (x : Held) → HoldsIt q x → CountsAs q x
counts-as q x (ARead t ask f e to asked own it) = tt
counts-as q x (ItsWrites t f to asked) = tt
counts-as q x (AnAsk t y to asked) = tt
counts-as q x (ASnapshot t c name k to asked named) = λ held. ASnapshot t (record c { held = held }) name k to asked named
counts-as q x (AnAggregation t c k to asked named) = λ held. AnAggregation t (record c { held = held }) k to asked named

held-counts : (n t : ℕ) (x : AttemptId) (by-it : ℕ) (cs : List Collection) → collected_part n t (map (held_at x by-it) cs) ≡ map (collected_at t) (map (held_at x by-it) (filter (is_collected_of n) cs))
held-counts n t x by-it [] = refl
held-counts n t x by-it (c ∷ cs) = by (held-counts n t x by-it cs) (is_collected_of n c) refl
  where
    same : is_collected_of n (held_at x by-it c) ≡ is_collected_of n c
    same = one (same_attempt c.attempt x)
      where
        one : (b : Bool) → is_collected_of n (if b then record c { held = with_target c.held by-it } else c) ≡ is_collected_of n c
        one true = refl
        one false = refl

    by : collected_part n t (map (held_at x by-it) cs) ≡ map (collected_at t) (map (held_at x by-it) (filter (is_collected_of n) cs)) → (b : Bool) → is_collected_of n c ≡ b
        → collected_part n t (held_at x by-it c ∷ map (held_at x by-it) cs) ≡ map (collected_at t) (map (held_at x by-it) (filter (is_collected_of n) (c ∷ cs)))
    by rest true e = ap (map (collected_at t)) (filter-yes (is_collected_of n) (held_at x by-it c) (map (held_at x by-it) cs) (same ∙ e)) ∙ ap (λ hs. CollectedAt t (held_at x by-it c) ∷ hs) rest ∙ ap (λ ys. map (collected_at t) (map (held_at x by-it) ys)) (sym (filter-yes (is_collected_of n) c cs e))
    by rest false e = ap (map (collected_at t)) (filter-no (is_collected_of n) (held_at x by-it c) (map (held_at x by-it) cs) (same ∙ e)) ∙ rest ∙ ap (λ ys. map (collected_at t) (map (held_at x by-it) ys)) (sym (filter-no (is_collected_of n) c cs e))

-- what is collected for a client
data OwnCollected (n t : ℕ) (m : TargetMemory) : Type 0 where
  NoneIs : filter (is_collected_of n) m.collecting ≡ [] → OwnCollected n t m
  OneIs : (c : Collection) → filter (is_collected_of n) m.collecting ≡ c ∷ [] → held_by n t m ≡ CollectedAt t c ∷ [] → OwnCollected n t m

own-collected : (n t : ℕ) (m : TargetMemory) → Holding n t m → OwnCollected n t m
own-collected n t m (HoldsNone none) = NoneIs (no-map (collected_at t) (filter (is_collected_of n) m.collecting) (no-parts n t m none).collected)
own-collected n t m (HoldsOne q x of one holds) = by (filter (is_collected_of n) m.collecting) refl
  where
    by : (cs : List Collection) → filter (is_collected_of n) m.collecting ≡ cs → OwnCollected n t m
    by [] e = NoneIs e
    by (c ∷ cs) e =
        let among : Has c (filter (is_collected_of n) m.collecting) = subst (Has c) (sym e) (inl refl) in
        let i = has-from_filter (is_collected_of n) m.collecting c among in
        let held = collection-is_held n t m c (HoldsOne q x of one holds) i.0 i.1 in
        let part : CollectedAt t c ∷ map (collected_at t) cs ≡ CollectedAt t c ∷ [] = sym (ap (map (collected_at t)) e) ∙ (collected-is n t m c held).collected in
        let rest : map (collected_at t) cs ≡ [] = cc in
        OneIs c (e ∙ ap (λ ys. c ∷ ys) (no-map (collected_at t) cs rest)) held

counts-passes : (n t : ℕ) (x : AttemptId) (by-it : ℕ) (m z : TargetMemory) (posts : List Post) → z ≡ counts_held x by-it m → posts ≡ [] → Holding n t m → Passes n t m z posts
counts-passes n t x by-it m z posts same none h = by (own-collected n t m h)
  where
    now : (cs : List Held) → map (collected_at t) (map (held_at x by-it) (filter (is_collected_of n) m.collecting)) ≡ cs → held_by n t z ≡ parked_part n t m.member.parked ++ (open_part n t m.leader.undecided ++ cs)
    now cs is =
        held-parts n t z (parked_part n t m.member.parked) (open_part n t m.leader.undecided) cs (ap (λ y. parked_part n t y.member.parked) same) (ap (λ y. open_part n t y.leader.undecided) same)
        (ap (λ y. collected_part n t y.collecting) same ∙ held-counts n t x by-it m.collecting ∙ is)

    by : OwnCollected n t m → Passes n t m z posts
    by (NoneIs empty) = Leaves (record { told = ap (told_to n) none; held = now (collected_part n t m.collecting) (ap (λ ys. map (collected_at t) (map (held_at x by-it) ys)) empty ∙ sym (ap (map (collected_at t)) empty)) })
    by (OneIs c one held) = HandsOn (CollectedAt t c) held (λ q of holds. IsKept (CollectedAt t (held_at x by-it c)) (ap (told_to n) none)
        (let parts = collected-is n t m c held in now (CollectedAt t (held_at x by-it c) ∷ []) (ap (λ ys. map (collected_at t) (map (held_at x by-it) ys)) one) ∙ ap (λ ps. ps ++ (open_part n t m.leader.undecided ++ (CollectedAt t (held_at x by-it c) ∷ []))) parts.parked ∙ ap (λ us. us ++ (CollectedAt t (held_at x by-it c) ∷ [])) parts.opened)
        (stays q holds (same_attempt c.attempt x)))
      where
        stays : (q : Post) → HoldsIt q (CollectedAt t c) → (b : Bool) → HoldsIt q (CollectedAt t (if b then record c { held = with_target c.held by-it } else c))
        stays q holds true = counts-as q (CollectedAt t c) holds (with_target c.held by-it)
        stays q holds false = holds

-- what a Held made was collected
abbrev MadeIt : TargetMemory → AttemptId → snap.HeldStage → Type 0
MadeIt m x snap.Heard = Unit {0}
MadeIt m x snap.Counted = Unit {0}
MadeIt m x (snap.IsMade c name) = collection_of x m ≡ Some c

held-step : (p : TargetPlan) (m : TargetMemory) (from : ℕ) (x : AttemptId) (refusal : Option Outcome) (s : snap.HeldStage) (k : Kept) (o : Option Change) (u : snap.HeldStage) (l : Kept) → snap.HeldNext p m from x refusal s k o u → Steps o k l
    → MadeIt m x s → MadeIt m x u
held-step p m from x refusal s k o u l (snap.CreatesIt k2 c name ok found called last) steps h = found
held-step p m from x refusal s k o u l (snap.Counts k2 none) steps h = tt

module _ (n t : ℕ) (p : TargetPlan) (m : TargetMemory) (from : ℕ) (x : AttemptId) (own : CollectsForOwn m) (h : Holding n t m) where
  ended-by : (c : Collection) (how : Outcome) (left : TargetMemory × Did) → collection_of x m ≡ Some c → left.0 ≡ collected x m → left.1.posts ≡ to_actor c.client (message.Ended x (Some c.epoch) how) → Passes n t m left.0 left.1.posts
  ended-by c how left found same says = collection-passes n t x m left.0 left.1.posts (record { c = c; found = found; how = how; says = says; parked = ap (λ y. y.member.parked) same; undecided = ap (λ y. y.leader.undecided) same; collecting = ap (λ y. y.collecting) same }) own h

  counted-by : (refusal : Option Outcome) (o : Option Collection) (left : TargetMemory × Did) → collection_of x m ≡ o → left ≡ snap.held_by p m from x refusal o → Passes n t m left.0 left.1.posts
  counted-by refusal None left found says = none refusal says
    where
      none : (refusal : Option Outcome) → left ≡ snap.held_by p m from x refusal None → Passes n t m left.0 left.1.posts
      none refusal says = Leaves (record { told = ap (λ o. told_to n o.1.posts) says; held = ap (λ o. held_by n t o.0) says })
  counted-by (Some how) (Some c) left found says = ended-by c how left found (ap (λ o. o.0) says) (ap (λ o. o.1.posts) says)
  counted-by None (Some c) left found says = last (snap.is_last p from c) says
    where
      last : (b : Bool) → left ≡ (if b then (collected x m, snap.follows (to_actor c.client (message.Ended x (Some c.epoch) outcome.Committed)) [] None) else (counts_held x from m, snap.follows [] [] None)) → Passes n t m left.0 left.1.posts
      last true is = ended-by c outcome.Committed left found (ap (λ o. o.0) is) (ap (λ o. o.1.posts) is)
      last false is = counts-passes n t x from m left.0 left.1.posts (ap (λ o. o.0) is) (ap (λ o. o.1.posts) is) h

  held-ends : (refusal : Option Outcome) (s : snap.HeldStage) (k : Kept) (left : TargetMemory × Did) → snap.HeldEnds p m from x refusal s k left → MadeIt m x s → Passes n t m left.0 left.1.posts
  held-ends refusal s k left (snap.IsCounted k2 left2 says) made = counted-by refusal (collection_of x m) left2 refl says
  held-ends refusal s k left (snap.IsCreated k2 c name left2 says) made = ended-by c outcome.Committed left2 made (ap (λ o. o.0) says) (ap (λ o. o.1.posts) says)

  pub held-turns : (refusal : Option Outcome) (old new : Kept) (left : TargetMemory × Did) → Whole (snap.HeldNext p m from x refusal) (snap.HeldEnds p m from x refusal) snap.Heard old new left → Passes n t m left.0 left.1.posts
  held-turns refusal old new left w = held-ends refusal w.last new left w.ends (reached-keeps (snap.HeldNext p m from x refusal) (λ s k. MadeIt m x s) (held-step p m from x refusal) snap.Heard old w.last new w.reached tt)

-- ---- a Reset

module _ (n t : ℕ) (m : TargetMemory) (own : CollectsForOwn m) (h : Holding n t m) where
  knows-same : (by-it : ℕ) (down : Bool) (z : TargetMemory) → held_by n t (knows_down by-it down z) ≡ held_by n t z
  knows-same by-it true z = refl
  knows-same by-it false z = refl

  told-again : (by-it : ℕ) (asked : Message) → told_to n (to_target by-it asked ∷ []) ≡ []
  told-again by-it asked = refl

  collection-reset : (by-it : ℕ) (down : Bool) (asked : Message) (x : AttemptId) (o : Option Collection) → collection_of x m ≡ o → Passes n t m (knows_down by-it down (collection_reset by-it down asked x o m).0) (collection_reset by-it down asked x o m).1
  collection-reset by-it false asked x o found = Leaves (record { told = told-again by-it asked; held = refl })
  collection-reset by-it true asked x None found = Leaves (record { told = refl; held = knows-same by-it true m })
  collection-reset by-it true asked x (Some c) found =
      collection-passes n t x m (knows_down by-it true (collected x m)) (to_actor c.client (message.Ended x (Some c.epoch) (outcome.Unknown by-it)))
      (record { c = c; found = found; how = outcome.Unknown by-it; says = refl; parked = refl; undecided = refl; collecting = refl }) own h

  pub freeze-reset : (by-it : ℕ) (down : Bool) (x : AttemptId) (c : ContId) (s : Epoch) → Passes n t m (collection_left m by-it down (message.Freeze x c s)).0 (collection_left m by-it down (message.Freeze x c s)).1.posts
  freeze-reset by-it down x c s = collection-reset by-it down (message.Freeze x c s) x (collection_of x m) refl

  pub prune-reset : (by-it : ℕ) (down : Bool) (x : AttemptId) (c : ContId) (tracker e : Option Epoch) → Passes n t m (collection_left m by-it down (message.Prune x c tracker e)).0 (collection_left m by-it down (message.Prune x c tracker e)).1.posts
  prune-reset by-it down x c tracker e = collection-reset by-it down (message.Prune x c tracker e) x (collection_of x m) refl

-- What the messages show that turns send in which snapshots are made and containers aggregated.
use Rattle.std.specs.Prelude.{ℕ, ◌≡◌, ◌≤◌, ◌<◌, ◌+◌, ◌/◌, ◌++◌, ◌⊎◌, Any, Bool, true, false, List, [], ◌∷◌, filter, length, map, Contains, Option, Some, None, refl}
use Rattle.std.proofs.Common.{append-nil, inl, inr, sym, ◌∙◌, ap, subst, arith}
use Rattle.std.proofs.lemmas.List.Elements.{Contains-push}
use Rattle.base_types.specs.declared.epoch.Epoch.{Epoch}
use Rattle.base_types.specs.declared.id.AttemptId.{AttemptId}
use Rattle.base_types.specs.declared.id.ContId.{ContId}
use Rattle.base_types.specs.declared.key.Key.{Key}
use Rattle.base_types.specs.declared.outcome.FloorWhy.{FloorWhy}
use Rattle.base_types.specs.declared.outcome.FloorWhy.TheVariants as why
use Rattle.base_types.specs.declared.outcome.Outcome.{Outcome}
use Rattle.base_types.specs.declared.outcome.Outcome.TheVariants as outcome
use Rattle.base_types.specs.declared.report.Line.{Line}
use Rattle.base_messages.specs.declared.actor.ActorId.{ActorId}
use Rattle.base_messages.specs.declared.message.Message.{Message}
use Rattle.base_messages.specs.declared.message.Message.TheVariants as message
use Rattle.base_messages.specs.declared.message.Post.{Post}
use Rattle.model_laws.specs.Members.{Has, contains-from_has, has-cases, has-from_contains, has-from_map}
use Rattle.daos_model.specs.CausesShown.{ShowsFloor}
use Rattle.daos_model.specs.Durables.{row_of}
use Rattle.daos_model.specs.Opening.{Opening, top}
use Rattle.daos_model.specs.Order.{told_by}
use Rattle.world_base.specs.declared.did.Did.{Did}
use Rattle.world_base.specs.declared.target.TargetMemory.{TargetMemory}
use Rattle.world_base.specs.declared.target.TargetPlan.{TargetPlan}
use Rattle.world_base.specs.Changes.{Change, Extends, Kept, Steps}
use Rattle.world_base.specs.ChangeLaws.{conts-made, snaps-made}
use Rattle.world_base.specs.ClientTurns.{told_by_some}
use Rattle.world_base.specs.Events.{Rules, listed, target_plan}
use Rattle.world_base.specs.Letters.{client}
use Rattle.world_base.specs.PathLaws.{path-keeps}
use Rattle.world_base.specs.Requests.{request_epoch}
use Rattle.world_base.specs.Snapshots as snap
use Rattle.world_base.specs.Turns.{Path}
use Rattle.world_legal.specs.world_causes.causes.Causes.{Dated, Stored}
use Rattle.world_legal.specs.world_causes.causes.CommitTurns.{RefusalShows}
use Rattle.world_legal.specs.world_causes.causes.Dates.{limit-rises}
use Rattle.world_legal.specs.world_causes.causes.Lasting.{refusal-shows}
use Rattle.world_legal.specs.world_causes.causes.ReadTurns.{none-told}
use Rattle.world_legal.specs.world_causes.causes.Shown.{IsTold, limit_over}
use Rattle.world_legal.specs.world_causes.causes.Turns.{PostShows}
use Rattle.world_upheld.specs.causing.Counting.{passes-longer}
use Rattle.world_upheld.specs.causing.Dating.{IsIssuedNow, request-new, request-none}
use Rattle.world_upheld.specs.causing.Places.{HavePlaces, is_frozen_for}
use Rattle.world_upheld.specs.causing.Refusing.{IsToFreeze, freeze-refused, refusal-anywhere}
use Rattle.world_letters.specs.snapshots.Makings.{IsSnapIn}

-- ---- one message

-- what target 0 asks the others, and what they answer
abbrev pub is_of_first_target : Message → Bool
is_of_first_target (message.Freeze x c s) = true
is_of_first_target (message.Held x refusal) = true
is_of_first_target (message.Prune x c tracker e) = true
is_of_first_target m = false

module _ (r : Rules) (o : Opening) (stored : Stored) (issued : Dated) (lines : List Line) where
  -- each of these
  abbrev pub EachShows : List Post → Type 0
  EachShows posts = (q : Post) → Has q posts → PostShows r o stored issued lines q

  pub none-shows : EachShows []
  none-shows q i = absurd i

  pub one-shows : (p : Post) → PostShows r o stored issued lines p → EachShows (p ∷ [])
  one-shows p k q (inl same) = subst (PostShows r o stored issued lines) (sym same) k
  one-shows p k q (inr none) = absurd none

  pub mapped-show : (to : ℕ → Post) (ts : List ℕ) → ((t : ℕ) → PostShows r o stored issued lines (to t)) → EachShows (map to ts)
  mapped-show to ts each q i = let z = has-from_map to ts q i in subst (PostShows r o stored issued lines) z.2 (each z.0)

  pub between-shows : (to : ActorId) (m : Message) → is_of_first_target m ≡ true → PostShows r o stored issued lines (record { to = to; message = m })
  between-shows to (message.Freeze x c s) is = record { shows = tt; told = λ n i. absurd (none-told n i); undecided = λ y by u. absurd u; asked = λ y u. absurd u; own = λ y u. absurd u }
  between-shows to (message.Held x refusal) is = record { shows = tt; told = λ n i. absurd (none-told n i); undecided = λ y by u. absurd u; asked = λ y u. absurd u; own = λ y u. absurd u }
  between-shows to (message.Prune x c tracker e) is = record { shows = tt; told = λ n i. absurd (none-told n i); undecided = λ y by u. absurd u; asked = λ y u. absurd u; own = λ y u. absurd u }
  between-shows to m is = let no : ⊥ = cc in absurd no

  -- how an attempt ended
  pub end-shows : (to : ActorId) (x : AttemptId) (ep : Option Epoch) (how : Outcome) → to ≡ client x.client → RefusalShows r o stored issued lines x how → ((e : Epoch) → ep ≡ Some e → e.0 / 256 ≤ limit_over o lines issued)
      → PostShows r o stored issued lines (record { to = to; message = message.Ended x ep how })
  end-shows to x ep how own k within = record {
    shows = refusal-shows r o stored issued lines x how k.shows;
    told = λ n i. told ep within n (has-cases (told_by_some ep) (told_by how) n (has-from_contains (told_by_some ep ++ told_by how) n i));
    undecided = λ y by u. absurd u;
    asked = λ y u. absurd u;
    own = λ y same. own ∙ ap (λ z. client z.client) same;
  }
    where
      told : (ep : Option Epoch) → ((e : Epoch) → ep ≡ Some e → e.0 / 256 ≤ limit_over o lines issued) → (n : ℕ) → Has n (told_by_some ep) ⊎ Has n (told_by how) → n / 256 ≤ limit_over o lines issued
      told None in' n (inl i) = absurd i
      told (Some e) in' n (inl (inl same)) = subst (λ f. f / 256 ≤ limit_over o lines issued) (sym same) (in' e refl)
      told (Some e) in' n (inl (inr none)) = absurd none
      told ep in' n (inr i) = k.told n i

  committed : (x : AttemptId) → RefusalShows r o stored issued lines x outcome.Committed
  committed x = record { shows = tt; told = λ n i. absurd i }

  pub commit-shows : (to : ActorId) (x : AttemptId) (e : Epoch) → to ≡ client x.client → e.0 / 256 ≤ limit_over o lines issued → PostShows r o stored issued lines (record { to = to; message = message.Ended x (Some e) outcome.Committed })
  commit-shows to x e own within = end-shows to x (Some e) outcome.Committed own (committed x) (λ f is. let same : e ≡ f = cc in subst (λ z. z.0 / 256 ≤ limit_over o lines issued) same within)

-- ---- a request of a client

-- what is known of it: its attempt has no epoch yet, its tracker is within the limit and not below the opening's epochs, and it comes of the
-- attempt's client
pub record IsAskedNow (o : Opening) (issued : Dated) (lines : List Line) (x : AttemptId) (tracker : Epoch) (from : ActorId) : Type 0 where
  pub tracked : tracker.0 / 256 ≤ limit_over o lines issued
  pub low : top o ≤ tracker.0
  pub fresh : (e : Epoch) → Contains issued (x, e) → ⊥
  pub own : from ≡ client x.client

module _ (r : Rules) (o : Opening) (stored : Stored) (issued : Dated) (lines : List Line) (t : ℕ) (few : t < 256) (m : TargetMemory) (ticks : m.ticks ≤ limit_over o lines issued) (reading : ℕ) (x : AttemptId) (tracker : Epoch) (from : ActorId) (A : IsAskedNow o issued lines x tracker from) where
  -- the epoch that is issued now
  issued-is : (e : Epoch) → request_epoch (target_plan r t) m reading tracker None ≡ Some e → IsIssuedNow o issued lines x e
  issued-is e = request-new o issued lines (target_plan r t) m reading tracker few ticks A.tracked A.low x e

  -- where no ticks are left
  spent-shows : request_epoch (target_plan r t) m reading tracker None ≡ None → EachShows r o stored (issued ++ []) lines (snap.to_actor from (message.Ended x None outcome.EpochsSpent))
  spent-shows none = one-shows r o stored (issued ++ []) lines _ (end-shows r o stored (issued ++ []) lines from x None outcome.EpochsSpent A.own
      (record { shows = record { before = issued; since = []; among = refl; none = A.fresh; spent = request-none o issued lines (target_plan r t) m reading tracker few ticks A.tracked A.low none }; told = λ n i. absurd i })
      (λ e is. let no : ⊥ = cc in absurd no))

  committed-shows : (e : Epoch) → request_epoch (target_plan r t) m reading tracker None ≡ Some e → EachShows r o stored (issued ++ (x, e) ∷ []) lines (snap.to_actor from (message.Ended x (Some e) outcome.Committed))
  committed-shows e found = one-shows r o stored (issued ++ (x, e) ∷ []) lines _ (commit-shows r o stored (issued ++ (x, e) ∷ []) lines from x e A.own (issued-is e found).within)

  -- what follows is sent
  shown-as : (left to : TargetMemory × Did) → left ≡ to → EachShows r o stored (issued ++ listed to.1.issued) lines to.1.posts → EachShows r o stored (issued ++ listed left.1.issued) lines left.1.posts
  shown-as left to same = subst (λ z. EachShows r o stored (issued ++ listed z.1.issued) lines z.1.posts) (sym same)

  -- an aggregation
  pub aggregate-shows : (c : ContId) (s : snap.PruneStage) (k : Kept) (left : TargetMemory × Did) → ((g : Epoch) (ls : List Line) → s ≡ snap.Pruned g ls → request_epoch (target_plan r t) m reading tracker None ≡ Some g)
      → snap.AggregateEnds (target_plan r t) m reading tracker x c from s k left → EachShows r o stored (issued ++ listed left.1.issued) lines left.1.posts
  aggregate-shows c s k left found (snap.IsSpent k2 left2 none says) = shown-as left2 _ says (spent-shows none)
  aggregate-shows c s k left found (snap.AsksOthers k2 g ls left2 others says) =
      shown-as left2 _ says (mapped-show r o stored (issued ++ (x, g) ∷ []) lines (snap.prune_to x c g) (snap.others (target_plan r t)) (λ u. between-shows r o stored (issued ++ (x, g) ∷ []) lines _ (message.Prune x c None (Some g)) refl))
  aggregate-shows c s k left found (snap.IsAlone k2 g ls left2 only says) = shown-as left2 _ says (committed-shows g (found g ls refl))

-- ---- a freeze

-- by its stages: its epoch is that of the request, and until it is frozen containers and snapshots stand as they stood
abbrev pub KeepsRows : Kept → Kept → Type 0
KeepsRows old k = (k.durable.conts ≡ old.durable.conts) × (k.durable.snaps ≡ old.durable.snaps)

module _ (p : TargetPlan) (m : TargetMemory) (reading : ℕ) (tracker : Epoch) (ep : Option Epoch) (c : ContId) (alone : Bool) (old : Kept) where
  abbrev pub FreezeComesSo : snap.FreezeStage → Kept → Type 0
  FreezeComesSo snap.Asked k = KeepsRows old k
  FreezeComesSo (snap.Known s) k = (request_epoch p m reading tracker ep ≡ Some s) × KeepsRows old k
  FreezeComesSo (snap.Freezing s) k = (request_epoch p m reading tracker ep ≡ Some s) × KeepsRows old k
  FreezeComesSo (snap.Frozen s lines) k = request_epoch p m reading tracker ep ≡ Some s
  FreezeComesSo (snap.Created s lines) k = request_epoch p m reading tracker ep ≡ Some s

  same-stands : (k l : Kept) → l ≡ k → KeepsRows old k → KeepsRows old l
  same-stands k l same = subst (KeepsRows old) (sym same)

  comes-step : (s : snap.FreezeStage) (k : Kept) (y : Option Change) (u : snap.FreezeStage) (l : Kept) → snap.FreezeNext p m reading tracker ep c alone s k y u → Steps y k l → FreezeComesSo s k → FreezeComesSo u l
  comes-step s k y u l (snap.HasEpoch k2 e is) steps h = (is, same-stands k l steps h)
  comes-step s k y u l (snap.ExtendsLease k2 e lease low is) steps h =
      (h.0, (ap (λ d. d.conts) steps.0 ∙ conts-made (Extends lease) k2.durable refl ∙ h.1.0, ap (λ d. d.snaps) steps.0 ∙ snaps-made (Extends lease) k2.durable refl ∙ h.1.1))
  comes-step s k y u l (snap.IsCovered k2 e low) steps h = (h.0, same-stands k l steps h.1)
  comes-step s k y u l (snap.FreezesIt k2 e free unfrozen) steps h = h.0
  comes-step s k y u l (snap.IsFrozen k2 e free is) steps h = h.0
  comes-step s k y u l (snap.CreatesIt k2 e lines only) steps h = h

  pub freeze-comes : (did : List Change) (last : snap.FreezeStage) (mid : Kept) → Path (snap.FreezeNext p m reading tracker ep c alone) snap.Asked old did last mid → FreezeComesSo last mid
  freeze-comes did last mid path = path-keeps (snap.FreezeNext p m reading tracker ep c alone) FreezeComesSo comes-step snap.Asked old did last mid path (refl, refl)

-- what is known of a target where a snapshot is to be frozen
pub record IsFreezer (r : Rules) (o : Opening) (issued : Dated) (lines : List Line) (t : ℕ) (old : Kept) : Type 0 where
  pub there : t < r.script.targets
  pub told : (cont : ContId) → IsTold o lines t cont (row_of old.durable cont).aggregated (why.Aggregate (row_of old.durable cont).number)
  pub within : (floor : Epoch) (cont : ContId) (reason : FloorWhy) → Any (ShowsFloor t floor cont reason) lines → floor.0 / 256 ≤ limit_over o lines issued
  pub places : HavePlaces r.script o issued old.durable

-- as more is issued
freezer-on : (r : Rules) (o : Opening) (issued added : Dated) (lines : List Line) (t : ℕ) (old : Kept) → IsFreezer r o issued lines t old → IsFreezer r o (issued ++ added) lines t old
freezer-on r o issued added lines t old F = record {
  there = F.there;
  told = F.told;
  within = λ floor cont reason i. by (floor.0 / 256) (limit_over o lines issued) (limit_over o lines (issued ++ added)) (F.within floor cont reason i) (limit-rises o lines issued added);
  places = more (length o.stand.snaps) (length (filter (is_frozen_for r.script old.durable) issued)) (length (filter (is_frozen_for r.script old.durable) (issued ++ added))) F.places (passes-longer (is_frozen_for r.script old.durable) issued added);
}
  where
    by : (a b c : ℕ) → a ≤ b → b ≤ c → a ≤ c
    by a b c p q = omega (arith, p, q)

    more : (a b c : ℕ) → length old.durable.snaps ≤ a + b → b ≤ c → length old.durable.snaps ≤ a + c
    more a b c p q = omega (arith, p, q)

module _ (r : Rules) (o : Opening) (issued : Dated) (lines : List Line) (t : ℕ) (m : TargetMemory) (reading : ℕ) (x : AttemptId) (c : ContId) (from : ActorId) (old : Kept) (F : IsFreezer r o issued lines t old) (makes : IsSnapIn r x c) where
  refused : (now : Dated) (s : Epoch) (k : Kept) (how : Outcome) → IsToFreeze r o now t x c s → IsFreezer r o now lines t old → KeepsRows old k → snap.freeze_cause (target_plan r t) c s k.durable ≡ Some how → RefusalShows r o [] now lines x how
  refused now s k how K G so why' = freeze-refused r o now lines t x c s K old k so.0 so.1 how G.told G.within G.places why'

  -- of a client's request
  pub snap-shows : (stored : Stored) (few : t < 256) (ticks : m.ticks ≤ limit_over o lines issued) (tracker : Epoch) → IsAskedNow o issued lines x tracker from → (name : Key) (alone : Bool) (s : snap.FreezeStage) (k : Kept) (left : TargetMemory × Did)
      → FreezeComesSo (target_plan r t) m reading tracker None c alone old s k → snap.SnapEnds (target_plan r t) m reading tracker x c name from s k left → EachShows r o stored (issued ++ listed left.1.issued) lines left.1.posts
  snap-shows stored few ticks tracker A name alone s k left so (snap.IsSpent k2 left2 none says) =
      shown-as r o stored issued lines t few m ticks reading x tracker from A left2 _ says (spent-shows r o stored issued lines t few m ticks reading x tracker from A none)
  snap-shows stored few ticks tracker A name alone s k left so (snap.IsRefused k2 e how left2 why' says) =
      shown-as r o stored issued lines t few m ticks reading x tracker from A left2 _ says
      (one-shows r o stored (issued ++ (x, e) ∷ []) lines _ (end-shows r o stored (issued ++ (x, e) ∷ []) lines from x (Some e) how A.own
      (subst (λ is. RefusalShows r o stored is lines x how) (append-nil (issued ++ (x, e) ∷ [])) (subst (λ ls. RefusalShows r o stored ((issued ++ (x, e) ∷ []) ++ []) ls x how) (append-nil lines)
      (refusal-anywhere r o stored (issued ++ (x, e) ∷ []) [] lines [] x how (refused (issued ++ (x, e) ∷ []) e k2 how K (freezer-on r o issued ((x, e) ∷ []) lines t old F) so.1 why'))))
      (λ f is. let same : e ≡ f = cc in subst (λ z. z.0 / 256 ≤ limit_over o lines (issued ++ (x, e) ∷ [])) same new.within)))
    where
      new : IsIssuedNow o issued lines x e
      new = issued-is r o stored issued lines t few m ticks reading x tracker from A e so.0

      K : IsToFreeze r o (issued ++ (x, e) ∷ []) t x c e
      K = record { makes = makes; there = F.there; issued = Contains-push issued (x, e); only = λ f i. only f (has-cases issued ((x, e) ∷ []) (x, f) i); above = new.above }
        where
          pair : AttemptId → Epoch → AttemptId × Epoch
          pair a b = (a, b)

          only : (f : Epoch) → Has (pair x f) issued ⊎ Has (pair x f) (pair x e ∷ []) → f ≡ e
          only f (inl i) = absurd (A.fresh f (contains-from_has issued (x, f) i))
          only f (inr (inl same)) = ap (λ z. z.1) same
          only f (inr (inr none)) = absurd none
  snap-shows stored few ticks tracker A name alone s k left so (snap.AsksOthers k2 e ls left2 others says) =
      shown-as r o stored issued lines t few m ticks reading x tracker from A left2 _ says
      (mapped-show r o stored (issued ++ (x, e) ∷ []) lines (snap.freeze_to x c e) (snap.others (target_plan r t)) (λ u. between-shows r o stored (issued ++ (x, e) ∷ []) lines _ (message.Freeze x c e) refl))
  snap-shows stored few ticks tracker A name alone s k left so (snap.IsAlone k2 e ls left2 says) =
      shown-as r o stored issued lines t few m ticks reading x tracker from A left2 _ says (committed-shows r o stored issued lines t few m ticks reading x tracker from A e so)

  -- of target 0: a refusal shows its cause
  pub freeze-answers : (asked : Epoch) → Contains issued (x, asked) → ((e : Epoch) → Has (x, e) issued → e ≡ asked) → top o < asked.0 → (alone : Bool) (s : snap.FreezeStage) (k : Kept) (left : TargetMemory × Did)
      → FreezeComesSo (target_plan r t) m reading asked (Some asked) c alone old s k → snap.FreezeEnds (target_plan r t) m x c from s k left
      → (q : Post) (y : AttemptId) (how : Outcome) → Has q left.1.posts → q.message ≡ message.Held y (Some how) → RefusalShows r o [] issued lines y how
  freeze-answers asked its only above alone s k left so (snap.IsRefused k2 e how left2 why' says) q y how2 i tells = by (subst (λ z. Has q z.1.posts) says i)
    where
      epoch : asked ≡ e
      epoch = let found : request_epoch (target_plan r t) m reading asked (Some asked) ≡ Some e = so.0 in let same : asked ≡ e = cc in same

      shows : RefusalShows r o [] issued lines x how
      shows = refused issued e k2 how (subst (IsToFreeze r o issued t x c) epoch (record { makes = makes; there = F.there; issued = its; only = only; above = above })) F so.1 why'

      by : Has q (snap.to_actor from (message.Held x (Some how))) → RefusalShows r o [] issued lines y how2
      by (inl same) =
          let one : message.Held x (Some how) ≡ message.Held y (Some how2) = sym (ap (λ z. z.message) same) ∙ tells in
          let it : x ≡ y = cc in
          let h : how ≡ how2 = cc in
          subst (λ z. RefusalShows r o [] issued lines z how2) it (subst (RefusalShows r o [] issued lines x) h shows)
      by (inr none) = absurd none
  freeze-answers asked its only above alone s k left so (snap.IsHeld k2 e ls left2 says) q y how2 i tells = by (subst (λ z. Has q z.1.posts) says i)
    where
      by : Has q (snap.to_actor from (message.Held x None)) → RefusalShows r o [] issued lines y how2
      by (inl same) = let one : message.Held x None ≡ message.Held y (Some how2) = sym (ap (λ z. z.message) same) ∙ tells in let no : ⊥ = cc in absurd no
      by (inr none) = absurd none

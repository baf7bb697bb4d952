-- What target 0 tells of what it collects: how an attempt ended, by a Held or where another target is down.
use Rattle.std.specs.Prelude.{ℕ, ◌≡◌, ◌≤◌, ◌/◌, ◌++◌, Bool, true, false, List, [], Option, Some, None, refl, if◌then◌else◌}
use Rattle.std.proofs.Common.{append-nil, sym, ◌∙◌, ap, subst}
use Rattle.base_types.specs.declared.epoch.Epoch.{Epoch}
use Rattle.base_types.specs.declared.id.AttemptId.{AttemptId}
use Rattle.base_types.specs.declared.id.ContId.{ContId}
use Rattle.base_types.specs.declared.outcome.Outcome.{Outcome}
use Rattle.base_types.specs.declared.outcome.Outcome.TheVariants as outcome
use Rattle.base_types.specs.declared.report.Line.{Line}
use Rattle.base_messages.specs.declared.actor.ActorId.{ActorId}
use Rattle.base_messages.specs.declared.message.Message.{Message}
use Rattle.base_messages.specs.declared.message.Message.TheVariants as message
use Rattle.base_messages.specs.declared.message.Post.{Post}
use Rattle.model_laws.specs.EntryLaws.{found-has, found-passes, same-attempt}
use Rattle.model_laws.specs.Members.{Has}
use Rattle.daos_model.specs.Opening.{Opening}
use Rattle.world_base.specs.declared.did.Did.{Did}
use Rattle.world_base.specs.declared.target.Collection.{Collection}
use Rattle.world_base.specs.declared.target.TargetMemory.{TargetMemory}
use Rattle.world_base.specs.declared.target.TargetPlan.{TargetPlan}
use Rattle.world_base.specs.Changes.{Change, Kept, Steps}
use Rattle.world_base.specs.Events.{Rules, listed}
use Rattle.world_base.specs.Letters.{client}
use Rattle.world_base.specs.PathLaws.{path-keeps}
use Rattle.world_base.specs.Requests.{request_epoch}
use Rattle.world_base.specs.Snapshots as snap
use Rattle.world_base.specs.Turns.{Path}
use Rattle.world_legal.specs.world_causes.causes.Causes.{Dated, Stored}
use Rattle.world_legal.specs.world_causes.causes.CommitTurns.{RefusalShows}
use Rattle.world_legal.specs.world_causes.causes.Shown.{limit_over}
use Rattle.world_upheld.specs.causing.Posts.{EachShows, between-shows, commit-shows, end-shows, is_of_first_target, none-shows, one-shows}
use Rattle.world_owners.specs.world_making.freezings.Turns.{HeldSo}
use Rattle.world_legal.specs.world_causes.showing.Further.{IsGone}

-- what is collected is of its attempt's client, and at an epoch within the limit
abbrev pub CollectsFor : Opening → Dated → List Line → Collection → Type 0
CollectsFor o issued lines c = (c.client ≡ client c.attempt.client) × (c.epoch.0 / 256 ≤ limit_over o lines issued)

module _ (r : Rules) (o : Opening) (stored : Stored) (issued : Dated) (lines : List Line) (m : TargetMemory) (all : (c : Collection) → Has c m.collecting → CollectsFor o issued lines c) where
  found-for : (x : AttemptId) (c : Collection) → snap.collection_of x m ≡ Some c → (c.client ≡ client x.client) × (c.epoch.0 / 256 ≤ limit_over o lines issued)
  found-for x c is =
      let k = all c (found-has (snap.is_collection_of x) m.collecting c is) in
      (k.0 ∙ ap (λ y. client y.client) (same-attempt c.attempt x (found-passes (snap.is_collection_of x) m.collecting c is)), k.1)

  committed-found : (x : AttemptId) (c : Collection) → snap.collection_of x m ≡ Some c → EachShows r o stored issued lines (snap.to_actor c.client (message.Ended x (Some c.epoch) outcome.Committed))
  committed-found x c is = let k = found-for x c is in one-shows r o stored issued lines _ (commit-shows r o stored issued lines c.client x c.epoch k.0 k.1)

  ended-found : (x : AttemptId) (c : Collection) (how : Outcome) → snap.collection_of x m ≡ Some c → RefusalShows r o stored issued lines x how → EachShows r o stored issued lines (snap.to_actor c.client (message.Ended x (Some c.epoch) how))
  ended-found x c how is k =
      let f = found-for x c is in
      one-shows r o stored issued lines _ (end-shows r o stored issued lines c.client x (Some c.epoch) how f.0 k (λ e same'. let same : c.epoch ≡ e = cc in subst (λ z. z.0 / 256 ≤ limit_over o lines issued) same f.1))

  pub nothing-issued : (left to : TargetMemory × Did) → left ≡ to → to.1.issued ≡ None → EachShows r o stored issued lines to.1.posts → EachShows r o stored (issued ++ listed left.1.issued) lines left.1.posts
  nothing-issued left to same none k = subst (λ z. EachShows r o stored (issued ++ listed z.1.issued) lines z.1.posts) (sym same)
      (subst (λ i. EachShows r o stored (issued ++ listed i) lines to.1.posts) (sym none) (subst (λ is. EachShows r o stored is lines to.1.posts) (sym (append-nil issued)) k))

  -- ---- a Held

  -- what is left where no more than counting comes of it
  abbrev last_left : ℕ → AttemptId → Collection → Bool → TargetMemory × Did
  last_left from x c b = if b then (snap.collected x m, snap.follows (snap.to_actor c.client (message.Ended x (Some c.epoch) outcome.Committed)) [] None) else (snap.counts_held x from m, snap.follows [] [] None)

  counted-shows : (p : TargetPlan) (from : ℕ) (x : AttemptId) (refusal : Option Outcome) → ((how : Outcome) → refusal ≡ Some how → RefusalShows r o stored issued lines x how) → (c : Option Collection) → snap.collection_of x m ≡ c
      → EachShows r o stored issued lines (snap.held_by p m from x refusal c).1.posts
  counted-shows p from x None refuses None is = none-shows r o stored issued lines
  counted-shows p from x (Some how) refuses None is = none-shows r o stored issued lines
  counted-shows p from x (Some how) refuses (Some c) is = ended-found x c how is (refuses how refl)
  counted-shows p from x None refuses (Some c) is = by (snap.is_last p from c)
    where
      by : (b : Bool) → EachShows r o stored issued lines (last_left from x c b).1.posts
      by true = committed-found x c is
      by false = none-shows r o stored issued lines

  none-counted : (p : TargetPlan) (from : ℕ) (x : AttemptId) (refusal : Option Outcome) (c : Option Collection) → (snap.held_by p m from x refusal c).1.issued ≡ None
  none-counted p from x None None = refl
  none-counted p from x (Some how) None = refl
  none-counted p from x (Some how) (Some c) = refl
  none-counted p from x None (Some c) = by (snap.is_last p from c)
    where
      by : (b : Bool) → (last_left from x c b).1.issued ≡ None
      by true = refl
      by false = refl

  pub held-shows : (p : TargetPlan) (from : ℕ) (x : AttemptId) (refusal : Option Outcome) → ((how : Outcome) → refusal ≡ Some how → RefusalShows r o stored issued lines x how) → (old : Kept) (s : snap.HeldStage) (k : Kept) (left : TargetMemory × Did)
      → HeldSo p m from x refusal old.durable s k → snap.HeldEnds p m from x refusal s k left → EachShows r o stored (issued ++ listed left.1.issued) lines left.1.posts
  held-shows p from x refusal refuses old s k left so (snap.IsCounted k2 left2 says) =
      nothing-issued left2 _ says (none-counted p from x refusal (snap.collection_of x m)) (counted-shows p from x refusal refuses (snap.collection_of x m) refl)
  held-shows p from x refusal refuses old s k left so (snap.IsCreated k2 c name left2 says) = nothing-issued left2 _ says refl (committed-found x c so.0)

  -- ---- a Freeze and a Prune of target 0

  pub freeze-tells : (p : TargetPlan) (x : AttemptId) (c : ContId) (from : ActorId) (s : snap.FreezeStage) (k : Kept) (left : TargetMemory × Did) → snap.FreezeEnds p m x c from s k left → EachShows r o stored (issued ++ listed left.1.issued) lines left.1.posts
  freeze-tells p x c from s k left (snap.IsRefused k2 e how left2 why says) = nothing-issued left2 _ says refl (one-shows r o stored issued lines _ (between-shows r o stored issued lines from (message.Held x (Some how)) refl))
  freeze-tells p x c from s k left (snap.IsHeld k2 e ls left2 says) = nothing-issued left2 _ says refl (one-shows r o stored issued lines _ (between-shows r o stored issued lines from (message.Held x None) refl))

  pub prune-tells : (x : AttemptId) (from : ActorId) (s : snap.PruneStage) (k : Kept) (left : TargetMemory × Did) → snap.PruneEnds m x from s k left → EachShows r o stored (issued ++ listed left.1.issued) lines left.1.posts
  prune-tells x from s k left (snap.IsHeld k2 g ls left2 says) = nothing-issued left2 _ says refl (one-shows r o stored issued lines _ (between-shows r o stored issued lines from (message.Held x None) refl))

  -- ---- a Reset of what it asked

  abbrev pub ResetPosts : ℕ → Bool → Message → AttemptId → Option Collection → List Post
  ResetPosts by down asked x c = (snap.collection_reset by down asked x c m).1

  pub reset-shows : (by : ℕ) (down : Bool) (asked : Message) (x : AttemptId) → is_of_first_target asked ≡ true → ((c : Collection) → down ≡ true → snap.collection_of x m ≡ Some c → IsGone r lines x by) → (c : Option Collection) → snap.collection_of x m ≡ c
      → EachShows r o stored issued lines (ResetPosts by down asked x c)
  reset-shows by false asked x is gone c at = one-shows r o stored issued lines _ (between-shows r o stored issued lines _ asked is)
  reset-shows by true asked x is gone None at = none-shows r o stored issued lines
  reset-shows by true asked x is gone (Some c) at = ended-found x c (outcome.Unknown by) at (record { shows = gone c refl at; told = λ n i. absurd i })

-- ---- the epoch of an aggregation

module _ (p : TargetPlan) (m : TargetMemory) (reading : ℕ) (tracker : Epoch) (ep : Option Epoch) (c : ContId) (number : ℕ) where
  PruneIsDated : snap.PruneStage → Type 0
  PruneIsDated snap.Asked = Unit {0}
  PruneIsDated (snap.Known g) = request_epoch p m reading tracker ep ≡ Some g
  PruneIsDated (snap.Settling g decided) = request_epoch p m reading tracker ep ≡ Some g
  PruneIsDated (snap.Pruned g lines) = request_epoch p m reading tracker ep ≡ Some g

  dated-step : (s : snap.PruneStage) (k : Kept) (y : Option Change) (u : snap.PruneStage) (l : Kept) → snap.PruneNext p m reading tracker ep c number s k y u → Steps y k l → PruneIsDated s → PruneIsDated u
  unfolding PruneIsDated
  dated-step s k y u l (snap.HasEpoch k2 g is) steps h = is
  dated-step s k y u l (snap.ExtendsLease k2 g lease low is) steps h = h
  dated-step s k y u l (snap.IsCovered k2 g low) steps h = h
  dated-step s k y u l (snap.SettlesFirst k2 g a rest) steps h = h
  dated-step s k y u l (snap.PrunesIt k2 g due) steps h = h
  dated-step s k y u l (snap.PassesBy k2 g due) steps h = h

  pub prune-dated : (old : Kept) (did : List Change) (last : snap.PruneStage) (mid : Kept) → Path (snap.PruneNext p m reading tracker ep c number) snap.Asked old did last mid → (g : Epoch) (ls : List Line) → last ≡ snap.Pruned g ls → request_epoch p m reading tracker ep ≡ Some g
  unfolding PruneIsDated
  prune-dated old did last mid path g ls is = subst PruneIsDated is (path-keeps (snap.PruneNext p m reading tracker ep c number) (λ s k. PruneIsDated s) dated-step snap.Asked old did last mid path tt)

-- What a turn tells of snapshots: a line of one that it creates, and to the client that it is made.
use Rattle.std.specs.Prelude.{ℕ, ◌≡◌, ◌++◌, ◌⊎◌, Bool, true, false, List, [], ◌∷◌, map, Option, Some, None, Result, Ok, Err, refl, if◌then◌else◌}
use Rattle.std.proofs.Common.{sym, ◌∙◌, ap, subst, inl, inr}
use Rattle.base_types.specs.declared.epoch.Epoch.{Epoch}
use Rattle.base_types.specs.declared.id.AttemptId.{AttemptId}
use Rattle.base_types.specs.declared.id.ContId.{ContId}
use Rattle.base_types.specs.declared.key.Key.{Key}
use Rattle.base_types.specs.declared.outcome.Outcome.{Outcome}
use Rattle.base_types.specs.declared.outcome.Outcome.TheVariants as outcome
use Rattle.base_types.specs.declared.report.Line.{Line}
use Rattle.base_types.specs.declared.report.Line.TheVariants as line
use Rattle.base_messages.specs.declared.actor.ActorId.{ActorId}
use Rattle.base_messages.specs.declared.message.Message.{Message, more_of-Message}
use Rattle.base_messages.specs.declared.message.Message.TheVariants as message
use Rattle.base_messages.specs.declared.message.Post.{Post}
use Rattle.daos_model.specs.declared.durable.Durable.{Durable}
use Rattle.daos_model.specs.Durables.{is_frozen}
use Rattle.dtx_base.specs.Leading.{to_target}
use Rattle.model_laws.specs.Members.{Has, has-cases, has-from_map}
use Rattle.vos_store.specs.Answers.{freezes}
use Rattle.vos_store.specs.declared.refusal.FreezeNo.{FreezeNo}
use Rattle.vos_store.specs.declared.refusal.FreezeNo.TheVariants as freeze
use Rattle.world_base.specs.declared.did.Did.{Did}
use Rattle.world_base.specs.declared.target.Collection.{Collection}
use Rattle.world_base.specs.declared.target.TargetMemory.{TargetMemory}
use Rattle.world_base.specs.declared.target.TargetPlan.{TargetPlan}
use Rattle.world_base.specs.Changes.{Change, Creates, Extends, Freezes, Kept, Prepares, Prunes, Settles, Steps}
use Rattle.world_base.specs.CutTurns.{CutHere, CutTurn, Cutting, InChange, InQuestion, cut_line, line_of, lines_of}
use Rattle.world_base.specs.Events.{Rules}
use Rattle.world_base.specs.Further.{CommitDown, HearsFurther, IsSpent, IsUnknown, reset_by}
use Rattle.world_base.specs.PathLaws.{path-keeps}
use Rattle.world_base.specs.Snapshots as snap
use Rattle.world_base.specs.TurnLaws.{ack-plain, commit-plain}
use Rattle.world_base.specs.Turns.{Path, Whole}
use Rattle.world_base.specs.declared.world.World.{World}
use Rattle.world_making.specs.freezings.Asking.{asks_snapshot}
use Rattle.world_making.specs.freezings.Collecting.{AreHeldSo, found-is}
use Rattle.world_making.specs.freezings.Snapping.{NoSnaps, OnlyIt, Snapping, created-there, snapping-created}
use Rattle.world_making.specs.freezings.Turning.{looks-plain}
use Rattle.world_making.specs.freezings.Turns.{FreezesSo, HeldSo, MakesOnly, MayCreate, NoneMade, freeze-unmade, freezes-path, held-so, none-made, plain-allows, prune-allows, whole-snaps}
use Rattle.world_making.specs.making.Snapshots.{holds_created}
use Rattle.world_letters.specs.lines.Lines.{MayEnd, TellsEnd}
use Rattle.world_letters.specs.snapshots.Memories.{ack-same}
use Rattle.world_letters.specs.snapshots.Makings.{CollectsSo, IsAggregationOf, IsMadeBy, IsSnapIn, IsSnapOf, IsSo}
use Rattle.base_types.specs.declared.outcome.FloorWhy.{FloorWhy}
use Rattle.world_base.specs.declared.request.CommitRequest.{CommitRequest}
use Rattle.world_base.specs.Acks as ack
use Rattle.world_base.specs.Commits as commit
use Rattle.world_base.specs.Statuses.{AtOnce, EndsAs, IsDone, status_refusal}
use Rattle.world_base.specs.TargetTurns.{commit_request}

-- no more is created
abbrev NoneCreated : Durable → Durable → Type 0
NoneCreated old d = (c : ContId) (e : Epoch) → holds_created d c e ≡ true → holds_created old c e ≡ true

-- an attempt makes this snapshot, at an epoch that was issued to it, and is told that it is committed
pub record EndsMade (r : Rules) (is : List (AttemptId × Epoch)) (posts : List Post) (c : ContId) (e : Epoch) : Type 0 where
  pub x : AttemptId
  pub issued : Has (x, e) is
  pub snaps : IsSnapIn r x c
  pub q : Post
  pub sent : Has q posts
  pub says : q.message ≡ message.Ended x (Some e) outcome.Committed

-- What lines tell of snapshots is created in what is kept, and only where they may; who is told that its attempt made one, is told of one of
-- which a line tells; and of what is created then, the client is told.
pub record TellsMade (r : Rules) (May : Type 0) (is : List (AttemptId × Epoch)) (old d : Durable) (did : Did) : Type 0 where
  pub may : (name : List ℕ) (c : ContId) (e : Epoch) → Has (line.Snapshot name c e) did.lines → May
  pub made : (name : List ℕ) (c : ContId) (e : Epoch) → Has (line.Snapshot name c e) did.lines → holds_created d c e ≡ true
  pub ended : (q : Post) (x : AttemptId) (e : Epoch) (name : List ℕ) (c : ContId) → Has q did.posts → q.message ≡ message.Ended x (Some e) outcome.Committed → IsSnapOf r x name c → Has (line.Snapshot name c e) did.lines
  pub creates : (c : ContId) (e : Epoch) → holds_created d c e ≡ true → (holds_created old c e ≡ true) ⊎ EndsMade r is did.posts c e

-- ---- nothing is told of any

-- a message says that an attempt is committed
abbrev pub is_commit_told : Message → Bool
is_commit_told (message.Ended x e outcome.Committed) = true
is_commit_told m = false

abbrev NoneCommits : List Post → Type 0
NoneCommits posts = (q : Post) → Has q posts → is_commit_told q.message ≡ false

none-told : NoneCommits []
none-told q i = absurd i

one-untold : (q : Post) → is_commit_told q.message ≡ false → NoneCommits (q ∷ [])
one-untold q off p (inl same) = ap (λ x. is_commit_told x.message) same ∙ off
one-untold q off p (inr none) = absurd none

mapped-untold : (to : ℕ → Post) (ts : List ℕ) → ((t : ℕ) → is_commit_told (to t).message ≡ false) → NoneCommits (map to ts)
mapped-untold to ts each q i = let z = has-from_map to ts q i in ap (λ x. is_commit_told x.message) (sym z.2) ∙ each z.0

made-none : (r : Rules) (May : Type 0) (is : List (AttemptId × Epoch)) (old d : Durable) (did : Did) → NoneCreated old d → NoneMade did.lines → NoneCommits did.posts → TellsMade r May is old d did
made-none r May is old d did none lines posts = record {
  creates = λ c e i. inl (none c e i);
  may = λ name c e i. absurd (lines name c e i);
  made = λ name c e i. absurd (lines name c e i);
  ended = λ q x e name c i says of. (let no : ⊥ = cc (ap is_commit_told says, posts q i) in absurd no);
}

quiet-made : (r : Rules) (May : Type 0) (is : List (AttemptId × Epoch)) (old d : Durable) (left to : TargetMemory × Did) → left ≡ to → NoneCreated old d → NoneMade to.1.lines → NoneCommits to.1.posts → TellsMade r May is old d left.1
quiet-made r May is old d left to same none lines posts = subst (λ z. TellsMade r May is old d z.1) (sym same) (made-none r May is old d to.1 none lines posts)

-- ---- a Snap and a Freeze

cause-not : (p : TargetPlan) (a : Result (Unit {0}) FreezeNo) (how : Outcome) → snap.refusal_of p a ≡ Some how → (x : AttemptId) (own : Option Epoch) → is_commit_told (message.Ended x own how) ≡ false
cause-not p (Ok done) how is x own = let no : ⊥ = cc in absurd no
cause-not p (Err e) how is x own = by e (let same : snap.freeze_refusal p e ≡ how = cc in same)
  where
    by : (e : FreezeNo) → snap.freeze_refusal p e ≡ how → is_commit_told (message.Ended x own how) ≡ false
    by (freeze.Below g n) same = ap (λ h. is_commit_told (message.Ended x own h)) (sym same)
    by freeze.NoPlace same = ap (λ h. is_commit_told (message.Ended x own h)) (sym same)
    by other same = ap (λ h. is_commit_told (message.Ended x own h)) (sym same)

module _ (r : Rules) (May : Type 0) (is : List (AttemptId × Epoch)) (orig : Durable) where
  -- a snapshot is one attempt's
  same-snap : (x : AttemptId) (name name2 : List ℕ) (c c2 : ContId) → IsSnapOf r x name c → IsSnapOf r x name2 c2 → (name ≡ name2) × (c ≡ c2)
  same-snap x name name2 c c2 of of2 = let one : name ≡ name2 = cc in let two : c ≡ c2 = cc in (one, two)

  line-is : (name name2 : List ℕ) (c c2 : ContId) (e f : Epoch) → name ≡ name2 → c ≡ c2 → e ≡ f → line.Snapshot name2 c2 f ≡ line.Snapshot name c e
  line-is name name2 c c2 e f one two three = sym (ap (λ z. line.Snapshot z c e) one ∙ ap (λ z. line.Snapshot name2 z e) two ∙ ap (line.Snapshot name2 c2) three)

  -- a turn that creates this snapshot tells its line behind others, and the client that its attempt is committed
  one-made : (d : Durable) (did : Did) (lines : List Line) (to : ActorId) (x : AttemptId) (name : List ℕ) (c : ContId) (s : Epoch)
      → did.lines ≡ lines ++ line.Snapshot name c s ∷ [] → NoneMade lines → did.posts ≡ snap.to_actor to (message.Ended x (Some s) outcome.Committed)
      → IsSnapOf r x name c → holds_created d c s ≡ true → May → Has (x, s) is → ((a : ContId) (e : Epoch) → holds_created d a e ≡ true → (holds_created orig a e ≡ true) ⊎ OnlyIt c s a e) → TellsMade r May is orig d did
  one-made d did lines to x name c s told none posts of there may issued new = record {
    creates = λ a e i. elim (new a e i) [ inl was ↦ inl was | inr it ↦ inr (subst (λ z. EndsMade r is did.posts z e) it.0 (subst (EndsMade r is did.posts c) it.1 ends)) ];
    may = λ name2 c2 e i. may;
    made = λ name2 c2 e i. by name2 c2 e (has-cases lines (line.Snapshot name c s ∷ []) (line.Snapshot name2 c2 e) (subst (Has (line.Snapshot name2 c2 e)) told i));
    ended = λ q y e name2 c2 i says of2. subst (Has (line.Snapshot name2 c2 e)) (sym told) (its q y e name2 c2 says of2 (subst (Has q) posts i));
  }
    where
      ends : EndsMade r is did.posts c s
      ends = record {
        x = x;
        issued = issued;
        snaps = (name, of);
        q = record { to = to; message = message.Ended x (Some s) outcome.Committed };
        sent = subst
            (Has (record { to = to; message = message.Ended x (Some s) outcome.Committed })) (sym posts) (inl refl);
        says = refl;
      }

      by : (name2 : List ℕ) (c2 : ContId) (e : Epoch) → Has (line.Snapshot name2 c2 e) lines ⊎ Has (line.Snapshot name2 c2 e) (line.Snapshot name c s ∷ []) → holds_created d c2 e ≡ true
      by name2 c2 e (inl j) = absurd (none name2 c2 e j)
      by name2 c2 e (inr (inl same)) = let one : c2 ≡ c = cc in let two : e ≡ s = cc in subst (λ z. holds_created d z e ≡ true) (sym one) (subst (λ z. holds_created d c z ≡ true) (sym two) there)
      by name2 c2 e (inr (inr none')) = absurd none'

      its : (q : Post) (y : AttemptId) (e : Epoch) (name2 : List ℕ) (c2 : ContId) → q.message ≡ message.Ended y (Some e) outcome.Committed → IsSnapOf r y name2 c2 → Has q
          (snap.to_actor to (message.Ended x (Some s) outcome.Committed)) → Has (line.Snapshot name2 c2 e) (lines ++ line.Snapshot name c s ∷ [])
      its q y e name2 c2 says of2 (inl same) =
          let one : message.Ended x (Some s) outcome.Committed ≡ message.Ended y (Some e) outcome.Committed = sym (ap (λ z. z.message) same) ∙ says in
          let it : x ≡ y = cc in
          let at : s ≡ e = cc in
          let is = same-snap y name name2 c c2 (subst (λ z. IsSnapOf r z name c) it of) of2 in
          last lines (line.Snapshot name2 c2 e) (line.Snapshot name c s) (line-is name name2 c c2 s e is.0 is.1 at)
        where
          last : (ls : List Line) (l m : Line) → l ≡ m → Has l (ls ++ m ∷ [])
          last [] l m is = inl is
          last (k ∷ ls) l m is = inr (last ls l m is)
      its q y e name2 c2 says of2 (inr none') = absurd none'

  -- by a turn that creates none
  no-more : (old k : Kept) (F : ContId → Epoch → Type 0) → old.durable ≡ orig → Snapping F NoSnaps old.durable k.durable → NoneCreated orig k.durable
  no-more old k F same snaps c e made = elim (snaps.made c e made) [ inl was ↦ subst (λ z. holds_created z c e ≡ true) same was | inr new ↦ absurd new ]

  snap-tells : (p : TargetPlan) (m : TargetMemory) (reading : ℕ) (tracker : Epoch) (x : AttemptId) (c : ContId) (name : Key) (from : ActorId) (alone : Bool) (old : Kept)
      (s : snap.FreezeStage) (k : Kept) (left : TargetMemory × Did) → old.durable ≡ orig → ((e : Epoch) → left.1.issued ≡ Some (x, e) → Has (x, e) is) → May → IsSnapOf r x name c
      → FreezesSo p m reading tracker None c alone old s k → snap.SnapEnds p m reading tracker x c name from s k left → TellsMade r May is orig k.durable left.1
  snap-tells p m reading tracker x c name from alone old s k left same issued may of so (snap.IsSpent k2 left2 none says) = quiet-made r May is orig k.durable left2 _ says (no-more old k NoSnaps same so) none-made (one-untold _ refl)
  snap-tells p m reading tracker x c name from alone old s k left same issued may of so (snap.IsRefused k2 e how left2 why says) = quiet-made r May is orig k.durable left2 _ says
      (no-more old k NoSnaps same so.1) none-made (one-untold _ (cause-not p (freezes c e k.durable) how why x (Some e)))
  snap-tells p m reading tracker x c name from alone old s k left same issued may of so (snap.AsksOthers k2 e lines left2 others says) = quiet-made r May is orig k.durable left2 _ says (no-more old k (OnlyIt c e) same so.1) so.3 (mapped-untold (snap.freeze_to x c e) (snap.others p) (λ t. refl))
  snap-tells p m reading tracker x c name from alone old s k left same issued may of so (snap.IsAlone k2 e lines left2 says) = one-made k.durable left2.1 lines from x name c e
      (ap (λ o. o.1.lines) says) so.4 (ap (λ o. o.1.posts) says) of so.5 may (issued e (ap (λ o. o.1.issued) says))
      (λ a i made. subst (λ z. (holds_created z a i ≡ true) ⊎ OnlyIt c e a i) same (so.1.made a i made))

  freeze-tells : (p : TargetPlan) (m : TargetMemory) (reading : ℕ) (x : AttemptId) (c : ContId) (from : ActorId) (asked : Epoch) (old : Kept) (s : snap.FreezeStage) (k : Kept) (left : TargetMemory × Did) → old.durable ≡ orig
      → FreezesSo p m reading asked (Some asked) c false old s k → snap.FreezeEnds p m x c from s k left → TellsMade r May is orig k.durable left.1
  freeze-tells p m reading x c from asked old s k left same so (snap.IsRefused k2 e how left2 why says) = quiet-made r May is orig k.durable left2 _ says (no-more old k NoSnaps same so.1) none-made (one-untold _ refl)
  freeze-tells p m reading x c from asked old s k left same so (snap.IsHeld k2 e lines left2 says) = quiet-made r May is orig k.durable left2 _ says (no-more old k (OnlyIt c e) same so.1) so.3 (one-untold _ refl)

  -- ---- a Prune

  prune-unmade : (number t : ℕ) (c : ContId) (upto : Epoch) → NoneMade (line.Aggregate number t c upto ∷ [])
  prune-unmade number t c upto name a e (inl same) = let no : ⊥ = cc in no
  prune-unmade number t c upto name a e (inr none) = none

  abbrev PruneSo : snap.PruneStage → Kept → Type 0
  PruneSo snap.Asked k = Unit {0}
  PruneSo (snap.Known g) k = Unit {0}
  PruneSo (snap.Settling g decided) k = Unit {0}
  PruneSo (snap.Pruned g lines) k = NoneMade lines

  prune-so : (p : TargetPlan) (m : TargetMemory) (reading : ℕ) (tracker : Epoch) (ep : Option Epoch) (c : ContId) (number : ℕ) (old new : Kept) (did : List Change)
      (s : snap.PruneStage) → Path (snap.PruneNext p m reading tracker ep c number) snap.Asked old did s new → PruneSo s new
  prune-so p m reading tracker ep c number old new did s path = path-keeps (snap.PruneNext p m reading tracker ep c number) PruneSo step snap.Asked old did s new path tt
    where
      step : (s : snap.PruneStage) (k : Kept) (o : Option Change) (u : snap.PruneStage) (l : Kept) → snap.PruneNext p m reading tracker ep c number s k o u → Steps o k l → PruneSo s k → PruneSo u l
      step s k o u l (snap.HasEpoch k2 g is) steps h = tt
      step s k o u l (snap.ExtendsLease k2 g lease low is) steps h = tt
      step s k o u l (snap.IsCovered k2 g low) steps h = tt
      step s k o u l (snap.SettlesFirst k2 g a rest) steps h = tt
      step s k o u l (snap.PrunesIt k2 g due) steps h = prune-unmade number p.me c (snap.prune_limit c g k.durable)
      step s k o u l (snap.PassesBy k2 g due) steps h = none-made

  -- an aggregation makes no snapshot
  aggregate-tells : (p : TargetPlan) (m : TargetMemory) (reading : ℕ) (tracker : Epoch) (x : AttemptId) (c : ContId) (from : ActorId) (s : snap.PruneStage) (k : Kept)
      (left : TargetMemory × Did) → NoneCreated orig k.durable → IsAggregationOf r x c → PruneSo s k
      → snap.AggregateEnds p m reading tracker x c from s k left → TellsMade r May is orig k.durable left.1
  aggregate-tells p m reading tracker x c from s k left none' of so (snap.IsSpent k2 left2 none says) = quiet-made r May is orig k.durable left2 _ says none' none-made (one-untold _ refl)
  aggregate-tells p m reading tracker x c from s k left none' of so (snap.AsksOthers k2 g lines left2 others says) = quiet-made r May is orig k.durable left2 _ says none' so (mapped-untold (snap.prune_to x c g) (snap.others p) (λ t. refl))
  aggregate-tells p m reading tracker x c from s k left none' of so (snap.IsAlone k2 g lines left2 only says) = subst (λ z. TellsMade r May is orig k.durable z.1) (sym says) (record {
    creates = λ a e i. inl (none' a e i);
    may = λ name a e i. absurd (so name a e i);
    made = λ name a e i. absurd (so name a e i);
    ended = λ q y e name a i tells of2. absurd (other q y e name a tells of2 i);
  })
    where
      other : (q : Post) (y : AttemptId) (e : Epoch) (name : List ℕ) (a : ContId) → q.message ≡ message.Ended y (Some e) outcome.Committed → IsSnapOf r y name a → Has q (snap.to_actor from (message.Ended x (Some g) outcome.Committed)) → ⊥
      other q y e name a tells of2 (inl same) =
          let one : message.Ended x (Some g) outcome.Committed ≡ message.Ended y (Some e) outcome.Committed = sym (ap (λ z. z.message) same) ∙ tells in
          let it : x ≡ y = cc in
          let own : IsAggregationOf r y c = subst (λ z. IsAggregationOf r z c) it of in
          let no : ⊥ = cc (own, of2) in no
      other q y e name a tells of2 (inr none) = none

  prune-tells : (m : TargetMemory) (x : AttemptId) (from : ActorId) (s : snap.PruneStage) (k : Kept) (left : TargetMemory × Did) → NoneCreated orig k.durable → PruneSo s k
      → snap.PruneEnds m x from s k left → TellsMade r May is orig k.durable left.1
  prune-tells m x from s k left none so (snap.IsHeld k2 g lines left2 says) = quiet-made r May is orig k.durable left2 _ says none so (one-untold _ refl)

  -- ---- a Held

  module _ (p : TargetPlan) (m : TargetMemory) (collects : (c : Collection) → Has c m.collecting → CollectsSo r is c) (may-collect : (c : Collection) → Has c m.collecting → May) (from : ℕ) (x : AttemptId) where
    -- where nothing is created, what is collected and ends as committed makes no snapshot
    counted-tells : (refusal : Option Outcome) (d : Durable) (o : Option Collection) → NoneCreated orig d → snap.collection_of x m ≡ o → MayEnd refusal
        → MayCreate (λ c s. ⊥) p m from x refusal → TellsMade r May is orig d (snap.held_by p m from x refusal o).1
    counted-tells None d None none is' may other = made-none r May is orig d _ none none-made none-told
    counted-tells (Some how) d None none is' may other = made-none r May is orig d _ none none-made none-told
    counted-tells (Some how) d (Some c) none is' may other = made-none r May is orig d _ none none-made (one-untold _ (refused how may))
      where
        refused : (how : Outcome) → MayEnd (Some how) → is_commit_told (message.Ended x (Some c.epoch) how) ≡ false
        refused outcome.Committed h = let no : ⊥ = cc in absurd no
        refused how h = refl
    counted-tells None d (Some c) none is' may other = by (snap.is_last p from c) refl
      where
        its : Has c m.collecting × (c.attempt ≡ x)
        its = found-is x m.collecting c is'

        unnamed : snap.is_last p from c ≡ true → (name : List ℕ) (a : ContId) → IsSnapOf r x name a → ⊥
        unnamed last name a of = named c.name refl
          where
            made : IsMadeBy r x c.cont c.name
            made = subst (λ z. IsMadeBy r z c.cont c.name) its.1 (collects c its.0).1

            named : (o : Option Key) → c.name ≡ o → ⊥
            named None off = let own : IsAggregationOf r x c.cont = subst (IsMadeBy r x c.cont) off made in let no : ⊥ = cc (own, of) in no
            named (Some key) on = other c key refl is' on last

        ends : Bool → TargetMemory × Did
        ends b = if b then (snap.collected x m, snap.follows (snap.to_actor c.client (message.Ended x (Some c.epoch) outcome.Committed)) [] None) else (snap.counts_held x from m, snap.follows [] [] None)

        told : snap.is_last p from c ≡ true → (q : Post) (y : AttemptId) (e : Epoch) (name : List ℕ) (a : ContId) → q.message ≡ message.Ended y (Some e) outcome.Committed
            → IsSnapOf r y name a → Has q (snap.to_actor c.client (message.Ended x (Some c.epoch) outcome.Committed)) → ⊥
        told last q y e name a tells of (inl same) =
            let one : message.Ended x (Some c.epoch) outcome.Committed ≡ message.Ended y (Some e) outcome.Committed = sym (ap (λ z. z.message) same) ∙ tells in
            let it : y ≡ x = cc in unnamed last name a (subst (λ z. IsSnapOf r z name a) it of)
        told last q y e name a tells of (inr none') = none'

        by : (b : Bool) → snap.is_last p from c ≡ b → TellsMade r May is orig d (ends b).1
        by true last = record { creates = λ a e i. inl (none a e i); may = λ name a e i. absurd i; made = λ name a e i. absurd i; ended = λ q y e name a i tells of. absurd (told last q y e name a tells of i) }
        by false last = made-none r May is orig d _ none none-made none-told

    held-tells : (refusal : Option Outcome) (w : Durable) (same : w ≡ orig) (frozen : (c : Collection) (name : Key) → Has c m.collecting → c.name ≡ Some name
        → is_frozen w c.cont c.epoch ≡ true) (s : snap.HeldStage) (k : Kept) (left : TargetMemory × Did) → MayEnd refusal
        → HeldSo p m from x refusal w s k → snap.HeldEnds p m from x refusal s k left → TellsMade r May is orig k.durable left.1
    held-tells refusal w same frozen s k left may so (snap.IsCounted k2 left2 says) = subst (λ z. TellsMade r May is orig k.durable z.1) (sym says)
        (counted-tells refusal k.durable (snap.collection_of x m) (λ a e i. subst (λ z. holds_created z a e ≡ true) (so.0 ∙ same) i) refl may so.1)
    held-tells refusal w same frozen s k left may so (snap.IsCreated k2 c name left2 says) =
        let its = found-is x m.collecting c so.0 in
        let of : IsSnapOf r x name c.cont = subst (λ z. IsSnapOf r z name c.cont) its.1 (subst (IsMadeBy r c.attempt c.cont) so.1 (collects c its.0).1) in
        one-made k.durable left2.1 [] c.client x name c.cont c.epoch (ap (λ o. o.1.lines) says) none-made (ap (λ o. o.1.posts) says) of
        (subst (λ z. holds_created z c.cont c.epoch ≡ true) (sym so.2) (created-there c.cont c.epoch w (frozen c name its.0 so.1))) (may-collect c its.0) (subst (λ z. Has (z, c.epoch) is) its.1 (collects c its.0).0)
        (λ a e i. subst (λ z. (holds_created z a e ≡ true) ⊎ OnlyIt c.cont c.epoch a e) same ((snapping-created c.cont c.epoch w).made a e (subst (λ z. holds_created z a e ≡ true) so.2 i)))

  -- ---- a Reset of a Freeze or of a Prune

  abbrev pub is_collected_again : Message → Bool
  is_collected_again (message.Freeze x c s) = true
  is_collected_again (message.Prune x c tracker e) = true
  is_collected_again m = false

  again-untold : (t : ℕ) (asked : Message) → is_collected_again asked ≡ true → is_commit_told (to_target t asked).message ≡ false
  again-untold t (message.Freeze x c s) is = refl
  again-untold t (message.Prune x c tracker e) is = refl
  again-untold t asked is = let no : ⊥ = cc in absurd no

  collection-untold : (t : ℕ) (down : Bool) (asked : Message) (x : AttemptId) (o : Option Collection) (m : TargetMemory) → is_collected_again asked ≡ true → NoneCommits (snap.collection_reset t down asked x o m).1
  collection-untold t false asked x o m is = one-untold (to_target t asked) (again-untold t asked is)
  collection-untold t true asked x None m is = none-told
  collection-untold t true asked x (Some c) m is = one-untold _ refl

  reset-tells : (t : TargetPlan) (m : TargetMemory) (by : ℕ) (down : Bool) (asked : Message) (d : Durable) (k : Kept) → NoneCreated orig d → is_collected_again asked ≡ true → TellsMade r May is orig d (reset_by t m by down asked k).1
  reset-tells t m by down (message.Freeze x c s) d k none again = made-none r May is orig d _ none none-made (collection-untold by down (message.Freeze x c s) x (snap.collection_of x m) m refl)
  reset-tells t m by down (message.Prune x c tracker e) d k none again = made-none r May is orig d _ none none-made (collection-untold by down (message.Prune x c tracker e) x (snap.collection_of x m) m refl)
  reset-tells t m by down asked d k none again = let no : ⊥ = cc in absurd no

-- ---- every further message

-- what is heard makes no snapshot and ends none: no line is told, and the same is collected
pub record LeavesSnapshots (old d : Durable) (q : Message) (m : TargetMemory) (left : TargetMemory × Did) : Type 0 where
  pub other : asks_snapshot q ≡ false
  pub lines : left.1.lines ≡ []
  pub collecting : left.0.collecting ≡ m.collecting
  pub created : NoneCreated old d

module _ (r : Rules) (May : Type 0) (is : List (AttemptId × Epoch)) (number : ℕ) (t : TargetPlan) (opening : Epoch × FloorWhy) (m : TargetMemory) (reading : ℕ) (from : ActorId) (old new : Kept) (left : TargetMemory × Did)
    (collects : (c : Collection) → Has c m.collecting → CollectsSo r is c) (may-collect : (c : Collection) → Has c m.collecting → May)
    (issued : (x : AttemptId) (e : Epoch) → left.1.issued ≡ Some (x, e) → Has (x, e) is) (w : World) (before : AreHeldSo w old.durable m.collecting) where
  none-created : {S R : Type 0} (Next : S → Kept → Option Change → S → Type 0) → MakesOnly NoSnaps NoSnaps Next → (Ends : S → Kept → R → Type 0) (start : S) {result : R}
      → Whole Next Ends start old new result → NoneCreated old.durable new.durable
  none-created Next makes Ends start {result = result} h c e made = elim ((whole-snaps NoSnaps NoSnaps Next makes Ends start old new result h).made c e made) [ inl was ↦ was | inr more ↦ absurd more ]

  down-leaves : (q : Message) (c : CommitRequest) (s : commit.CommitStage) (k : Kept) → NoneCreated old.durable new.durable → asks_snapshot q ≡ false
      → CommitDown t m reading c from s k left → LeavesSnapshots old.durable new.durable q m left
  down-leaves q c s k none' off (IsSpent k2 e down left2 none is' says) = record { other = off; lines = ap (λ o. o.1.lines) says; collecting = ap (λ o. o.0.collecting) says; created = none' }
  down-leaves q c s k none' off (IsUnknown k2 e down left2 is' says) = record { other = off; lines = ap (λ o. o.1.lines) says; collecting = ap (λ o. o.0.collecting) says; created = none' }

  once-leaves : (q : Message) (left_by : Kept → TargetMemory × Did) (s : AtOnce) (k : Kept) → NoneCreated old.durable new.durable → asks_snapshot q ≡ false
      → ((j : Kept) → (left_by j).1.lines ≡ []) → ((j : Kept) → (left_by j).0.collecting ≡ m.collecting) → EndsAs left_by s k left → LeavesSnapshots old.durable new.durable q m left
  once-leaves q left_by s k none' off lines same (IsDone k2 left2 says) = record { other = off; lines = ap (λ o. o.1.lines) says ∙ lines k2; collecting = ap (λ o. o.0.collecting) says ∙ same k2; created = none' }

  ack-lines : (s : ack.AckStage) (k : Kept) → ack.AckEnds m s k left → left.1.lines ≡ []
  ack-lines s k (ack.IsFollowed k2 step left2 says) = ap (λ o. o.1.lines) says

  once-tells : (left_by : Kept → TargetMemory × Did) (s : AtOnce) (k : Kept) → ((j : Kept) → TellsMade r May is old.durable new.durable (left_by j).1) → EndsAs left_by s k left → TellsMade r May is old.durable new.durable left.1
  once-tells left_by s k each (IsDone k2 left2 says) = subst (λ z. TellsMade r May is old.durable new.durable z.1) (sym says) (each k2)

  -- of a Reset
  reset-says : (q : Message) → NoneCreated old.durable new.durable → asks_snapshot q ≡ false → (by : ℕ) (down : Bool) (asked : Message) (s : AtOnce) (k : Kept)
      → EndsAs (reset_by t m by down asked) s k left → TellsMade r May is old.durable new.durable left.1 ⊎ LeavesSnapshots old.durable new.durable q m left
  reset-says q none' off by down (message.Freeze x c e) s k h = inl (once-tells _ s k (λ j. reset-tells r May is old.durable t m by down (message.Freeze x c e) new.durable j none' refl) h)
  reset-says q none' off by down (message.Prune x c tracker e) s k h = inl (once-tells _ s k (λ j. reset-tells r May is old.durable t m by down (message.Prune x c tracker e) new.durable j none' refl) h)
  reset-says q none' off by down asked s k h = inr (once-leaves q _ s k none' off (λ j. refl) (λ j. refl) h)

  pub further-tells : (q : Message) → (asks_snapshot q ≡ true → May) → IsSo r is q → TellsEnd q → HearsFurther number t opening m reading from q old new left
      → TellsMade r May is old.durable new.durable left.1 ⊎ LeavesSnapshots old.durable new.durable q m left
  further-tells (message.Commit x ep first tracker ws) ask so may h = inr (down-leaves _ (commit_request x ep first tracker ws) h.last new
      (none-created _ (plain-allows _ _ _ (commit-plain t opening m reading (commit_request x ep first tracker ws))) _ _ h) refl h.ends)
  further-tells (message.Ask x) ask so may h = inr (once-leaves _ _ h.last new (none-created _ (plain-allows _ _ _ looks-plain) _ _ h) refl (λ j. refl) (λ j. refl) h.ends)
  further-tells (message.Status x inc) ask so may h = inr (once-leaves _ _ h.last new (none-created _ (plain-allows _ _ _ looks-plain) _ _ h) refl (λ j. refl) (λ j. refl) h.ends)
  further-tells (message.StatusIs x inc how) ask so may h = inr (record { other = refl; lines = ack-lines h.last new h.ends; collecting = ack-same m h.last new left h.ends; created = none-created _ (plain-allows _ _ _ (ack-plain t m from.number x inc (status_refusal x how))) _ _ h })
  further-tells (message.Snap x c called tracker) ask so may h =
      inl (snap-tells r May is old.durable t m reading tracker x c called from (snap.is_held_by_all t 0) old h.last new left refl (issued x) (ask refl) so
      (freezes-path t m reading tracker None c (snap.is_held_by_all t 0) old h.reached.did h.last new h.reached.path) h.ends)
  further-tells (message.Freeze x c s) ask so may h = inl (freeze-tells r May is old.durable t m reading x c from s old h.last new left refl (freezes-path t m reading s (Some s) c false old h.reached.did h.last new h.reached.path) h.ends)
  further-tells (message.Held x refusal) ask so may h =
      inl (held-tells r May is old.durable t m collects may-collect from.number x refusal old.durable refl (λ c name i named. (before c name i named).0) h.last new left may
      (held-so t m from.number x refusal old new h.reached.did h.last h.reached.path) h.ends)
  further-tells (message.Prune x c (Some tracker) None) ask so may h = inl (aggregate-tells r May is old.durable t m reading tracker x c from h.last new left
      (none-created _ (prune-allows _ _ t m reading tracker None c number) _ _ h) so (prune-so r May is old.durable t m reading tracker None c number old new h.reached.did h.last h.reached.path) h.ends)
  further-tells (message.Prune x c None (Some g)) ask so may h = inl (prune-tells r May is old.durable m x from h.last new left
      (none-created _ (prune-allows _ _ t m reading g (Some g) c number) _ _ h) (prune-so r May is old.durable t m reading g (Some g) c number old new h.reached.did h.last h.reached.path) h.ends)
  further-tells (message.Reset' by down place (more_of-Message asked rest)) ask so may h = reset-says _ (none-created _ (plain-allows _ _ _ looks-plain) _ _ h) refl by down asked h.last new h.ends
  further-tells q ask so may h = absurd h

-- ---- a turn that was cut

-- its lines tell of no snapshot
line-unmade : (t : ℕ) (c : Change) → NoneMade (line_of t c)
line-unmade t (Extends ticks) name a e i = i
line-unmade t (Prepares x ws) name a e i = i
line-unmade t (Settles x step) name a e i = i
line-unmade t (Freezes c s) name a e i = freeze-unmade t c s name a e i
line-unmade t (Creates c s) name a e i = i
line-unmade t (Prunes c upto n) name a e (inl same) = let no : ⊥ = cc in no
line-unmade t (Prunes c upto n) name a e (inr none) = none

lines-unmade : (t : ℕ) (cs : List Change) → NoneMade (lines_of t cs)
lines-unmade t [] name a e i = i
lines-unmade t (c ∷ cs) name a e i = elim (has-cases (line_of t c) (lines_of t cs) (line.Snapshot name a e) i) [
  | inl j ↦ line-unmade t c name a e j
  | inr j ↦ lines-unmade t cs name a e j
]

pub cut-unmade : {S : Type 0} (Next : S → Kept → Option Change → S → Type 0) (issues : S → List (AttemptId × Epoch)) (t : ℕ) (start : S) (old : Kept) (cut : Cutting) → CutTurn Next issues t start old cut → NoneMade cut.lines
cut-unmade Next issues t start old cut g name a e i = elim (has-cases (lines_of t g.did) g.lines (line.Snapshot name a e) (subst (Has (line.Snapshot name a e)) g.all_lines i)) [
  | inl j ↦ lines-unmade t g.did name a e j
  | inr j ↦ here g.lines g.here j
]
  where
    change : (c : Change) → NoneMade (cut_line t c)
    change (Extends ticks) name a e i = i
    change (Prepares x ws) name a e i = i
    change (Settles x step) name a e i = i
    change (Freezes c s) name a e i = i
    change (Creates c s) name a e i = i
    change (Prunes c upto n) name a e (inl same) = let no : ⊥ = cc in no
    change (Prunes c upto n) name a e (inr none) = none

    here : (lines : List Line) → CutHere Next t g.last g.mid cut.left lines → Has (line.Snapshot name a e) lines → ⊥
    here lines (InChange c next is left free) j = change c name a e j
    here lines (InQuestion same free) j = j

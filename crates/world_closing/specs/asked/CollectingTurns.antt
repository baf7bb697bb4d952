-- Whatever a target hears leaves what it collects so: answers count, and what isn't answered is asked.
use Rattle.std.specs.Prelude.{ℕ, ◌≡◌, ◌++◌, Bool, true, false, List, [], ◌∷◌, find, Option, Some, None, refl, if◌then◌else◌}
use Rattle.std.proofs.Common.{sym, ◌∙◌, ap, subst, inl, inr}
use Rattle.base_types.specs.declared.epoch.Epoch.{Epoch}
use Rattle.base_types.specs.declared.id.AttemptId.{AttemptId}
use Rattle.base_types.specs.declared.id.ContId.{ContId}
use Rattle.base_types.specs.declared.key.Key.{Key}
use Rattle.base_types.specs.declared.operation.MinorWrite.{MinorWrite}
use Rattle.base_types.specs.declared.outcome.FloorWhy.{FloorWhy}
use Rattle.base_types.specs.declared.outcome.Outcome.{Outcome}
use Rattle.base_types.specs.declared.outcome.Outcome.TheVariants as outcome
use Rattle.base_messages.specs.declared.actor.ActorId.{ActorId}
use Rattle.base_messages.specs.declared.message.Message.{Message, more_of-Message}
use Rattle.base_messages.specs.declared.message.Message.TheVariants as message
use Rattle.base_messages.specs.declared.message.Post.{Post}
use Rattle.daos_model.specs.BoolLaws.{clash}
use Rattle.daos_model.specs.Durables.{same_attempt}
use Rattle.daos_model.specs.EntryLaws.{same_attempt-itself}
use Rattle.dtx_base.specs.LeaderLaws.{same-is}
use Rattle.dtx_base.specs.Leading.{to_target}
use Rattle.dtx_base.specs.Members.{with_target}
use Rattle.model_laws.specs.Members.{Has, has-map}
use Rattle.world_base.specs.declared.did.Did.{Did}
use Rattle.world_base.specs.declared.target.Collection.{Collection}
use Rattle.world_base.specs.declared.target.TargetMemory.{TargetMemory}
use Rattle.world_base.specs.declared.target.TargetPlan.{TargetPlan}
use Rattle.world_base.specs.Changes.{Kept}
use Rattle.world_base.specs.Commits as commit
use Rattle.world_base.specs.Further.{CommitDown, HearsFurther, IsSpent, IsUnknown, knows_down, reset_by}
use Rattle.world_base.specs.Snapshots as snap
use Rattle.world_base.specs.Snapshots.{collected, collection_of, is_collection_of, is_held_by_all, others}
use Rattle.world_base.specs.Statuses.{AtOnce, EndsAs, IsDone, ask_left, status_left}
use Rattle.world_base.specs.TargetTurns.{Hears, commit_request}
use Rattle.world_letters.specs.snapshots.Memories.{Same, ack-same, plain-same}
use Rattle.world_closing.specs.asked.Collecting.{AnswersIt, CollectsOn, IsTold, asks_collected, counted-came, counted-has, counted-lacks, fewer-came, fewer-gone, fewer-lacks, more-came, more-lacks, same-came, same-lacks}

-- of an attempt for which nothing is found nothing is collected
none-found : (x : AttemptId) (cs : List Collection) (c : Collection) → find (is_collection_of x) cs ≡ None → Has c cs → x ≡ c.attempt → ⊥
none-found x [] c none i same = i
none-found x (n ∷ cs) c none i same = by (same_attempt n.attempt x) refl none i (none-found x cs c)
  where
    by : (b : Bool) → same_attempt n.attempt x ≡ b → (if b then Some n else find (is_collection_of x) cs) ≡ None → Has c (n ∷ cs) → (find (is_collection_of x) cs ≡ None → Has c cs → x ≡ c.attempt → ⊥) → ⊥
    by true is h j rest = let no : ⊥ = cc in no
    by false off h (inl here) rest = clash (same_attempt n.attempt x) (ap (λ y. same_attempt y.attempt x) (sym here) ∙ (ap (same_attempt c.attempt) same ∙ same_attempt-itself c.attempt)) off
    by false off h (inr j) rest = rest h j same

-- who is asked to prune is asked for the attempt
prune-asks : (y x : AttemptId) (c : ContId) (tracker e : Option Epoch) → asks_collected y (message.Prune x c tracker e) ≡ true → x ≡ y
prune-asks y x c None (Some g) is = same-is x y is
prune-asks y x c None None is = let no : ⊥ = cc in absurd no
prune-asks y x c (Some tracker) None is = let no : ⊥ = cc in absurd no
prune-asks y x c (Some tracker) (Some g) is = let no : ⊥ = cc in absurd no

module _ (p : TargetPlan) (m : TargetMemory) (from : ActorId) where
  -- what is collected stays, and nothing that is asked for it is heard
  same-on : (q : Message) (left : TargetMemory × Did) → Same m left.0 → ((c : Collection) → Has c m.collecting → IsTold from left.1.posts c q) → AnswersIt from left.1.posts q → CollectsOn p m from q left
  same-on q left same told answers = record {
    came = same-came p m left.1.posts left.0.collecting same;
    told = λ c i. told c (subst (Has c) same i);
    answers = answers;
    lacks = same-lacks p m left.0 same;
  }

  fewer-on : (q : Message) (x : AttemptId) (left : TargetMemory × Did) → left.0.collecting ≡ (collected x m).collecting → ((c : Collection) → (x ≡ c.attempt → ⊥) → IsTold from left.1.posts c q) → AnswersIt from left.1.posts q → CollectsOn p m from q left
  fewer-on q x left fewer told answers = record {
    came = fewer-came p m left.1.posts x left.0.collecting fewer;
    told = λ c i. told c (fewer-gone p m x left.0.collecting fewer c i);
    answers = answers;
    lacks = fewer-lacks p m left.0 x fewer;
  }

  on-as : (q : Message) (left to : TargetMemory × Did) → left ≡ to → CollectsOn p m from q to → CollectsOn p m from q left
  on-as q left to same = subst (CollectsOn p m from q) (sym same)

  -- one is answered at once
  one-answer : (x : AttemptId) (refusal : Option Outcome) (posts : List Post) → posts ≡ record { to = from; message = message.Held x refusal } ∷ [] → (y : AttemptId) → same_attempt x y ≡ true
      → (how : Option Outcome) × Has (record { to = from; message = message.Held y how }) posts
  one-answer x refusal posts one y is =
      (refusal, subst (λ z. Has (record { to = from; message = message.Held z refusal }) posts) (same-is x y is) (subst (Has (record { to = from; message = message.Held x refusal })) (sym one) (inl refl)))

  -- ---- by what was heard

  commit-on : (reading : ℕ) (x : AttemptId) (ep first : Option Epoch) (tracker : Epoch) (ws : List MinorWrite) (s : commit.CommitStage) (k : Kept) (left : TargetMemory × Did)
      → CommitDown p m reading (commit_request x ep first tracker ws) from s k left → CollectsOn p m from (message.Commit x ep first tracker ws) left
  commit-on reading x ep first tracker ws s k left (IsSpent k2 e down left2 none is says) = same-on (message.Commit x ep first tracker ws) left2 (ap (λ o. o.0.collecting) says) (λ c i. tt) (λ y is'. let no : ⊥ = cc in absurd no)
  commit-on reading x ep first tracker ws s k left (IsUnknown k2 e down left2 is says) = same-on (message.Commit x ep first tracker ws) left2 (ap (λ o. o.0.collecting) says) (λ c i. tt) (λ y is'. let no : ⊥ = cc in absurd no)

  snap-on : (reading : ℕ) (tracker : Epoch) (x : AttemptId) (c : ContId) (name : Key) (s : snap.FreezeStage) (k : Kept) (left : TargetMemory × Did)
      → snap.SnapEnds p m reading tracker x c name from s k left → CollectsOn p m from (message.Snap x c name tracker) left
  snap-on reading tracker x c name s k left (snap.IsSpent k2 left2 none says) = same-on (message.Snap x c name tracker) left2 (ap (λ o. o.0.collecting) says) (λ d i. tt) (λ y is. let no : ⊥ = cc in absurd no)
  snap-on reading tracker x c name s k left (snap.IsRefused k2 e how left2 why says) = same-on (message.Snap x c name tracker) left2 (ap (λ o. o.0.collecting) says) (λ d i. tt) (λ y is. let no : ⊥ = cc in absurd no)
  snap-on reading tracker x c name s k left (snap.IsAlone k2 e lines left2 says) = same-on (message.Snap x c name tracker) left2 (ap (λ o. o.0.collecting) says) (λ d i. tt) (λ y is. let no : ⊥ = cc in absurd no)
  snap-on reading tracker x c name s k left (snap.AsksOthers k2 e lines left2 more says) =
      let new = snap.new_collection x from c e (Some name) in
      let is : left2.0.collecting ≡ m.collecting ++ new ∷ [] = ap (λ o. o.0.collecting) says in
      record {
        came = more-came p m left2.1.posts new left2.0.collecting is
            (λ u i. (message.Freeze x c e, same_attempt-itself x, subst (Has (to_target u (message.Freeze x c e))) (sym (ap (λ o. o.1.posts) says)) (has-map (snap.freeze_to x c e) (others p) u i)));
        told = λ d i. tt;
        answers = λ y is'. let no : ⊥ = cc in absurd no;
        lacks = more-lacks p m left2.0 new is more;
      }

  freeze-on : (x : AttemptId) (c : ContId) (asked : Epoch) (s : snap.FreezeStage) (k : Kept) (left : TargetMemory × Did) → snap.FreezeEnds p m x c from s k left → CollectsOn p m from (message.Freeze x c asked) left
  freeze-on x c asked s k left (snap.IsRefused k2 e how left2 why says) = same-on (message.Freeze x c asked) left2 (ap (λ o. o.0.collecting) says) (λ d i. tt) (one-answer x (Some how) left2.1.posts (ap (λ o. o.1.posts) says))
  freeze-on x c asked s k left (snap.IsHeld k2 e lines left2 says) = same-on (message.Freeze x c asked) left2 (ap (λ o. o.0.collecting) says) (λ d i. tt) (one-answer x None left2.1.posts (ap (λ o. o.1.posts) says))

  aggregate-on : (reading : ℕ) (tracker : Epoch) (x : AttemptId) (c : ContId) (s : snap.PruneStage) (k : Kept) (left : TargetMemory × Did)
      → snap.AggregateEnds p m reading tracker x c from s k left → CollectsOn p m from (message.Prune x c (Some tracker) None) left
  aggregate-on reading tracker x c s k left (snap.IsSpent k2 left2 none says) = same-on (message.Prune x c (Some tracker) None) left2 (ap (λ o. o.0.collecting) says) (λ d i. tt) (λ y is. let no : ⊥ = cc in absurd no)
  aggregate-on reading tracker x c s k left (snap.IsAlone k2 g lines left2 only says) = same-on (message.Prune x c (Some tracker) None) left2 (ap (λ o. o.0.collecting) says) (λ d i. tt) (λ y is. let no : ⊥ = cc in absurd no)
  aggregate-on reading tracker x c s k left (snap.AsksOthers k2 g lines left2 more says) =
      let new = snap.new_collection x from c g None in
      let is : left2.0.collecting ≡ m.collecting ++ new ∷ [] = ap (λ o. o.0.collecting) says in
      record {
        came = more-came p m left2.1.posts new left2.0.collecting is
            (λ u i. (message.Prune x c None (Some g), same_attempt-itself x, subst (Has (to_target u (message.Prune x c None (Some g)))) (sym (ap (λ o. o.1.posts) says)) (has-map (snap.prune_to x c g) (others p) u i)));
        told = λ d i. tt;
        answers = λ y is'. let no : ⊥ = cc in absurd no;
        lacks = more-lacks p m left2.0 new is more;
      }

  prune-on : (x : AttemptId) (c : ContId) (asked : Epoch) (s : snap.PruneStage) (k : Kept) (left : TargetMemory × Did) → snap.PruneEnds m x from s k left → CollectsOn p m from (message.Prune x c None (Some asked)) left
  prune-on x c asked s k left (snap.IsHeld k2 g lines left2 says) = same-on (message.Prune x c None (Some asked)) left2 (ap (λ o. o.0.collecting) says) (λ d i. tt) (one-answer x None left2.1.posts (ap (λ o. o.1.posts) says))

  held-answers : (x : AttemptId) (refusal : Option Outcome) (posts : List Post) → AnswersIt from posts (message.Held x refusal)
  held-answers x refusal posts y is = let no : ⊥ = cc in absurd no

  held-by_on : (x : AttemptId) (refusal : Option Outcome) (o : Option Collection) → collection_of x m ≡ o → CollectsOn p m from (message.Held x refusal) (snap.held_by p m from.number x refusal o)
  held-by_on x refusal None none =
      same-on (message.Held x refusal) (m, snap.follows [] [] None) refl (λ c i same. absurd (none-found x m.collecting c none i same)) (held-answers x refusal [])
  held-by_on x (Some how) (Some c) is =
      fewer-on (message.Held x (Some how)) x (snap.held_by p m from.number x (Some how) (Some c)) refl (λ d off same. absurd (off same)) (held-answers x (Some how) (snap.held_by p m from.number x (Some how) (Some c)).1.posts)
  held-by_on x None (Some c) is = by (snap.is_last p from.number c) refl
    where
      ends : Bool → TargetMemory × Did
      ends b = if b then (collected x m, snap.follows (snap.to_actor c.client (message.Ended x (Some c.epoch) outcome.Committed)) [] None) else (snap.counts_held x from.number m, snap.follows [] [] None)

      by : (b : Bool) → snap.is_last p from.number c ≡ b → CollectsOn p m from (message.Held x None) (ends b)
      by true last = fewer-on (message.Held x None) x (ends true) refl (λ d off same. absurd (off same)) (held-answers x None (ends true).1.posts)
      by false off = record {
        came = counted-came p m [] x from.number (snap.counts_held x from.number m).collecting refl;
        told = λ d i same. counted-has p m x from.number (snap.counts_held x from.number m).collecting refl d i same;
        answers = held-answers x None [];
        lacks = counted-lacks p m (snap.counts_held x from.number m) x from.number refl
            (λ q found. (let one : c ≡ q = cc (is, found) in ap (λ z. is_held_by_all p (with_target z.held from.number)) (sym one) ∙ off));
      }

  held-on : (x : AttemptId) (refusal : Option Outcome) (s : snap.HeldStage) (k : Kept) (left : TargetMemory × Did) → snap.HeldEnds p m from.number x refusal s k left → CollectsOn p m from (message.Held x refusal) left
  held-on x refusal s k left (snap.IsCounted k2 left2 says) = on-as (message.Held x refusal) left2 _ says (held-by_on x refusal (collection_of x m) refl)
  held-on x refusal s k left (snap.IsCreated k2 c name left2 says) =
      fewer-on (message.Held x refusal) x left2 (ap (λ o. o.0.collecting) says) (λ d off same. absurd (off same)) (held-answers x refusal left2.1.posts)

  -- ---- a Reset

  at-once : (q : Message) (left_by : Kept → TargetMemory × Did) (s : AtOnce) (k : Kept) (left : TargetMemory × Did) → ((j : Kept) → CollectsOn p m from q (left_by j)) → EndsAs left_by s k left → CollectsOn p m from q left
  at-once q left_by s k left each (IsDone k2 left2 says) = on-as q left2 (left_by k2) says (each k2)

  -- of a target that is down
  down-on : (by : ℕ) (place : _) (a : Message) (rest : _) (x : AttemptId) (o : Option Collection) → collection_of x m ≡ o → ((y : AttemptId) → asks_collected y a ≡ true → x ≡ y)
      → CollectsOn p m from (message.Reset' by true place (more_of-Message a rest)) (knows_down by true (snap.collection_reset by true a x o m).0, snap.follows (snap.collection_reset by true a x o m).1 [] None)
  down-on by place a rest x None none its =
      same-on (message.Reset' by true place (more_of-Message a rest)) (knows_down by true m, snap.follows [] [] None) refl (λ c i asks. none-found x m.collecting c none i (its c.attempt asks)) (λ y is. let no : ⊥ = cc in absurd no)
  down-on by place a rest x (Some d) is its =
      fewer-on (message.Reset' by true place (more_of-Message a rest)) x (knows_down by true (collected x m), snap.follows (snap.collection_reset by true a x (Some d) m).1 [] None) refl (λ c off asks. off (its c.attempt asks))
      (λ y is'. let no : ⊥ = cc in absurd no)

  reset-on : (by : ℕ) (down : Bool) (place : _) (a : Message) (rest : _) (k : Kept) → CollectsOn p m from (message.Reset' by down place (more_of-Message a rest)) (reset_by p m by down a k)
  reset-on by true place (message.Freeze x c s) rest k = down-on by place (message.Freeze x c s) rest x (collection_of x m) refl (λ y is. same-is x y is)
  reset-on by true place (message.Prune x c tracker e) rest k = down-on by place (message.Prune x c tracker e) rest x (collection_of x m) refl (λ y is. prune-asks y x c tracker e is)
  reset-on by true place a rest k =
      same-on (message.Reset' by true place (more_of-Message a rest)) (reset_by p m by true a k) refl (λ c i asks. let no : ⊥ = cc in no) (λ y is. let no : ⊥ = cc in absurd no)
  reset-on by false place (message.Freeze x c s) rest k =
      same-on (message.Reset' by false place (more_of-Message (message.Freeze x c s) rest)) (reset_by p m by false (message.Freeze x c s) k) refl (λ d i asks. inl refl) (λ y is. let no : ⊥ = cc in absurd no)
  reset-on by false place (message.Prune x c tracker e) rest k =
      same-on (message.Reset' by false place (more_of-Message (message.Prune x c tracker e) rest)) (reset_by p m by false (message.Prune x c tracker e) k) refl (λ d i asks. inl refl) (λ y is. let no : ⊥ = cc in absurd no)
  reset-on by false place a rest k =
      same-on (message.Reset' by false place (more_of-Message a rest)) (reset_by p m by false a k) refl (λ c i asks. let no : ⊥ = cc in absurd no) (λ y is. let no : ⊥ = cc in absurd no)

  -- ---- all that is heard

  pub further-on : (number : ℕ) (opening : Epoch × FloorWhy) (reading : ℕ) (q : Message) (old new : Kept) (left : TargetMemory × Did) → HearsFurther number p opening m reading from q old new left → CollectsOn p m from q left
  further-on number opening reading (message.Commit x ep first tracker ws) old new left h = commit-on reading x ep first tracker ws h.last new left h.ends
  further-on number opening reading (message.Ask x) old new left h =
      at-once (message.Ask x) (ask_left p m from x) h.last new left (λ j. same-on (message.Ask x) (ask_left p m from x j) refl (λ c i. tt) (λ y is. let no : ⊥ = cc in absurd no)) h.ends
  further-on number opening reading (message.Status x inc) old new left h =
      at-once (message.Status x inc) (status_left m from x inc) h.last new left (λ j. same-on (message.Status x inc) (status_left m from x inc j) refl (λ c i. tt) (λ y is. let no : ⊥ = cc in absurd no)) h.ends
  further-on number opening reading (message.StatusIs x inc how) old new left h = same-on (message.StatusIs x inc how) left (ack-same m h.last new left h.ends) (λ c i. tt) (λ y is. let no : ⊥ = cc in absurd no)
  further-on number opening reading (message.Snap x c called tracker) old new left h = snap-on reading tracker x c called h.last new left h.ends
  further-on number opening reading (message.Freeze x c s) old new left h = freeze-on x c s h.last new left h.ends
  further-on number opening reading (message.Held x refusal) old new left h = held-on x refusal h.last new left h.ends
  further-on number opening reading (message.Prune x c (Some tracker) None) old new left h = aggregate-on reading tracker x c h.last new left h.ends
  further-on number opening reading (message.Prune x c None (Some g)) old new left h = prune-on x c g h.last new left h.ends
  further-on number opening reading (message.Reset' by down place (more_of-Message a rest)) old new left h =
      at-once (message.Reset' by down place (more_of-Message a rest)) (reset_by p m by down a) h.last new left (λ j. reset-on by down place a rest j) h.ends
  further-on number opening reading q old new left h = absurd h

  -- a message as without stops neither asks nor tells of what is collected
  quiet-on : (q : Message) (left : TargetMemory × Did) → Same m left.0 → ((c : Collection) → IsTold from left.1.posts c q) → ((y : AttemptId) → asks_collected y q ≡ true → ⊥) → CollectsOn p m from q left
  quiet-on q left same told unasked = same-on q left same (λ c i. told c) (λ y is. absurd (unasked y is))

  plain-by : (opening : Epoch × FloorWhy) (reading : ℕ) (q : Message) (old new : Kept) (left : TargetMemory × Did) → Hears p opening m reading from q old new left → Same m left.0 → CollectsOn p m from q left
  plain-by opening reading (message.Held x refusal) old new left h same = absurd h
  plain-by opening reading (message.Freeze x c s) old new left h same = absurd h
  plain-by opening reading (message.Prune x c tracker e) old new left h same = absurd h
  plain-by opening reading (message.Reset' by down place (more_of-Message a rest)) old new left h same = absurd h
  plain-by opening reading q old new left h same = quiet-on q left same (λ c. tt) (λ y is. let no : ⊥ = cc in no)

  pub plain-on : (opening : Epoch × FloorWhy) (reading : ℕ) (q : Message) (old new : Kept) (left : TargetMemory × Did) → Hears p opening m reading from q old new left → CollectsOn p m from q left
  plain-on opening reading q old new left h = plain-by opening reading q old new left h (plain-same p opening m reading from q old new left h)

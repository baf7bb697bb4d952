-- A Verdict's turn while its Fetches are tried.
use Rattle.std.proofs.Common.{ℕ, suc, ◌≡◌, ◌<◌, ◌≤◌, ◌+◌, ◌++◌, refl, sym, ◌∙◌, ap, subst, List, [], ◌∷◌, length, drop, get_or, Bool, true, false, Option, Some, None, is_some, ◌⊎◌, inl, inr, arith}
use Rattle.std.specs.List.{list_all}
use Rattle.std.proofs.Math.Seq.{drop-cons}
use Rattle.std.proofs.Math.ListN.{drop_of_length-le}
use Rattle.std.proofs.lemmas.List.Folds.{list_all_at}
use Rattle.base_types.specs.declared.entry.Verdict.{Verdict}
use Rattle.base_types.specs.declared.id.AttemptId.{AttemptId}
use Rattle.base_messages.specs.declared.actor.ActorId.{ActorId}
use Rattle.base_messages.specs.declared.message.Message.{Message}
use Rattle.base_messages.specs.declared.message.Message.TheVariants as message
use Rattle.base_messages.specs.declared.message.Post.{Post}
use Rattle.daos_model.specs.declared.durable.Durable.{Durable}
use Rattle.daos_model.specs.BoolLaws.{clash}
use Rattle.dtx_base.specs.Joining.{verdict_heard}
use Rattle.world_base.specs.Roles.{is_prepared, member_at}
use Rattle.world_base.specs.declared.did.Did.{Did}
use Rattle.world_base.specs.declared.request.FetchRequest.{FetchRequest}
use Rattle.world_base.specs.declared.target.TargetMemory.{TargetMemory}
use Rattle.world_base.specs.declared.target.TargetPlan.{TargetPlan}
use Rattle.world_base.specs.Changes.{Change, Kept, Steps}
use Rattle.world_base.specs.PathLaws.{reached-here, reached-keeps, reached-more, whole-on}
use Rattle.world_base.specs.Reads.{Asked, FetchEnds, FetchNext, FetchStage}
use Rattle.world_base.specs.Requests.{fetch_message, sends}
use Rattle.world_base.specs.Turns.{Here, More, Path, Reached, Whole}
use Rattle.world_base.specs.Verdicts as verdict
use Rattle.world_base.specs.Verdicts.{VerdictEnds, VerdictNext, VerdictStage, fetcher, settles_by, settling_change}
use Rattle.replay_base.specs.declared.told.Left.{Left}
use Rattle.replay_base.specs.Heard.{CanRead, is_timed}
use Rattle.replay_base.specs.Leaving.{Comes}
use Rattle.replay_base.specs.Onward.{Iff, Onward, keeps}
use Rattle.replay_base.proofs.Chains.{OneEnd, end_comes}
use Rattle.replay_base.proofs.Starts.{durable_is, iff_both, silent_first}
use Rattle.replay_fetch.specs.Fetched.{FetchLeaves}
use Rattle.replay_verdict.specs.declared.again.Trial.{Trial}
use Rattle.replay_verdict.specs.Tried.{AllTried, GoesOn, TriesAsk, TriesFrom, TriesOn, TriesTo, fetch_in}

module _ (t : TargetPlan) (m : TargetMemory) (reading : ℕ) (a : AttemptId) (ask : Option AttemptId) (v : Verdict) where
  abbrev Next : VerdictStage → Kept → Option Change → VerdictStage → Type 0
  Next = VerdictNext is_prepared t m reading a ask v

  -- ---- the steps and the ends, stage by stage

  pub record TriesFirst (asks : List Message) (n : TargetMemory) (posts : List Post) (o : Option Change) (u : VerdictStage) : Type 0 where
    pub q : FetchRequest
    pub rest : List Message
    pub here : asks ≡ fetch_message q ∷ rest
    pub silent : o ≡ None
    pub there : u ≡ verdict.Trying q Asked rest n posts

  pub record Further (q : FetchRequest) (s : FetchStage) (rest : List Message) (n : TargetMemory) (posts : List Post) (k : Kept) (o : Option Change) (u : VerdictStage) : Type 0 where
    pub i : FetchStage
    pub next : FetchNext t n reading q s k o i
    pub there : u ≡ verdict.Trying q i rest n posts

  pub record Done (q : FetchRequest) (s : FetchStage) (rest : List Message) (n : TargetMemory) (posts : List Post) (k : Kept) (o : Option Change) (u : VerdictStage) : Type 0 where
    pub left : TargetMemory × Did
    pub ends : FetchEnds t n reading q (fetcher q) s k left
    pub silent : o ≡ None
    pub there : u ≡ verdict.Freed rest left.0 (posts ++ left.1.posts)

  abbrev pub NextAt : VerdictStage → Kept → Option Change → VerdictStage → Type 0
  NextAt verdict.Heard k o u = (o ≡ settling_change a (settles_by is_prepared v a k.durable)) × (u ≡ verdict.freed_by (verdict_heard a ask v (member_at t m)) m)
  NextAt (verdict.Freed asks n posts) k o u = TriesFirst asks n posts o u
  NextAt (verdict.Trying q s rest n posts) k o u = Further q s rest n posts k o u ⊎ Done q s rest n posts k o u

  pub next_at : (s : VerdictStage) (k : Kept) (o : Option Change) (u : VerdictStage) → Next s k o u → NextAt s k o u
  next_at s k o u (verdict.SettlesBy j p is) = (is, refl)
  next_at s k o u (verdict.TriesNext j n posts rest x op group ep first tracker r snapshot) =
      record { q = record { attempt = x; op = op; group = group; ep = ep; first = first; tracker = tracker; read = r; snapshot = snapshot }; rest = rest; here = refl; silent = refl; there = refl }
  next_at s k o u (verdict.GoesOn j n posts rest q i z p next) = inl (record { i = z; next = next; there = refl })
  next_at s k o u (verdict.IsDone j n posts rest q i left ends) = inr (record { left = left; ends = ends; silent = refl; there = refl })

  abbrev pub EndsAt : VerdictStage → TargetMemory × Did → Type 0
  EndsAt verdict.Heard left = ⊥
  EndsAt (verdict.Freed [] n posts) left = left ≡ (n, sends posts None)
  EndsAt (verdict.Freed (x ∷ xs) n posts) left = ⊥
  EndsAt (verdict.Trying q s rest n posts) left = ⊥

  pub ends_at : (s : VerdictStage) (k : Kept) (left : TargetMemory × Did) → VerdictEnds s k left → EndsAt s left
  ends_at s k left (verdict.AllTried j n posts l is) = is

  -- ---- one Fetch is tried

  -- its steps are steps of the Verdict
  lifts : (q : FetchRequest) (rest : List Message) (n : TargetMemory) (posts : List Post) (s : FetchStage) (k : Kept) (did : List Change) (i : FetchStage) (l : Kept) → Path (FetchNext t n reading q) s k did i l
      → Path Next (verdict.Trying q s rest n posts) k did (verdict.Trying q i rest n posts) l
  lifts q rest n posts s k did i l Here = Here
  lifts q rest n posts s k did u z (More some i l o _ _ path next steps) =
      More some (verdict.Trying q i rest n posts) l o (verdict.Trying q u rest n posts) z (lifts q rest n posts s k some i l path) (verdict.GoesOn l n posts rest q i u o next) steps

  module _ (q : FetchRequest) (rest : List Message) (n : TargetMemory) (posts : List Post) (k : Kept) where
    abbrev Tries : Kept → TargetMemory × Did → Type 0
    Tries l r = Whole (FetchNext t n reading q) (FetchEnds t n reading q (fetcher q)) Asked k l r

    abbrev start : VerdictStage
    start = verdict.Freed (fetch_message q ∷ rest) n posts

    abbrev behind : TargetMemory × Did → VerdictStage
    behind r = verdict.Freed rest r.0 (posts ++ r.1.posts)

    -- the turn is at the start, in the Fetch's turn, or behind it
    data Went (s : VerdictStage) (l : Kept) : Type 0 where
      AtStart : s ≡ start → l ≡ k → Went s l
      InFetch : (i : FetchStage) → s ≡ verdict.Trying q i rest n posts → Reached (FetchNext t n reading q) Asked k i l → Went s l
      Beyond : (j : Kept) (r : TargetMemory × Did) → Tries j r → Reached Next (behind r) j s l → Went s l

    from_start : (l z : Kept) (o : Option Change) (u : VerdictStage) → l ≡ k → Steps o l z → TriesFirst (fetch_message q ∷ rest) n posts o u → Went u z
    from_start l z o u at steps f =
        let here = f.here in
        let head : Some q ≡ Some f.q = ap fetch_in (let same : fetch_message q ≡ fetch_message f.q = cc in same) in
        let same : f.q ≡ q = cc in
        let tail : f.rest ≡ rest = cc in
        let still : z ≡ l = subst (λ c. Steps c l z) f.silent steps in
        InFetch Asked (f.there ∙ ap (λ x. verdict.Trying x Asked f.rest n posts) same ∙ ap (λ x. verdict.Trying q Asked x n posts) tail) (subst (Reached (FetchNext t n reading q) Asked k Asked) (sym (still ∙ at)) (reached-here (FetchNext t n reading q) Asked k))

    from_fetch : (i : FetchStage) (l z : Kept) (o : Option Change) (u : VerdictStage) → Reached (FetchNext t n reading q) Asked k i l → Steps o l z → Further q i rest n posts l o u ⊎ Done q i rest n posts l o u → Went u z
    from_fetch i l z o u r steps (inl f) = InFetch f.i f.there (reached-more (FetchNext t n reading q) Asked k i l o f.i z r f.next steps)
    from_fetch i l z o u r steps (inr d) =
        let still : z ≡ l = subst (λ c. Steps c l z) d.silent steps in
        Beyond l d.left (record { last = i; reached = r; ends = d.ends }) (subst (λ x. Reached Next (behind d.left) l u x) (sym still) (subst (λ x. Reached Next (behind d.left) l x l) (sym d.there) (reached-here Next (behind d.left) l)))

    goes : (s : VerdictStage) (l : Kept) (o : Option Change) (u : VerdictStage) (z : Kept) → Next s l o u → Steps o l z → Went s l → Went u z
    goes s l o u z next steps (AtStart s_is l_is) = from_start l z o u l_is steps (next_at start l o u (subst (λ x. Next x l o u) s_is next))
    goes s l o u z next steps (InFetch i s_is r) = from_fetch i l z o u r steps (next_at (verdict.Trying q i rest n posts) l o u (subst (λ x. Next x l o u) s_is next))
    goes s l o u z next steps (Beyond j r tries w) = Beyond j r tries (reached-more Next (behind r) j s l o u z w next steps)

    -- a turn tries the Fetch, and then goes on
    record TriedFirst (new : Kept) (left : TargetMemory × Did) : Type 0 where
      mid : Kept
      r : TargetMemory × Did
      tries : Tries mid r
      rests : Whole Next VerdictEnds (behind r) mid new left

    tried_first : (new : Kept) (left : TargetMemory × Did) → Whole Next VerdictEnds start k new left → TriedFirst new left
    tried_first new left w = by (reached-keeps Next Went goes start k w.last new w.reached (AtStart refl refl))
      where
        by : Went w.last new → TriedFirst new left
        by (AtStart s_is l_is) = absurd (ends_at start new left (subst (λ x. VerdictEnds x new left) s_is w.ends))
        by (InFetch i s_is r) = absurd (ends_at (verdict.Trying q i rest n posts) new left (subst (λ x. VerdictEnds x new left) s_is w.ends))
        by (Beyond j r tries z) = record { mid = j; r = r; tries = tries; rests = record { last = w.last; reached = z; ends = w.ends } }

    first_tried : (mid new : Kept) (r left : TargetMemory × Did) → Tries mid r → Whole Next VerdictEnds (behind r) mid new left → Whole Next VerdictEnds start k new left
    first_tried mid new r left tries rests =
        silent_first Next VerdictEnds start (verdict.Trying q Asked rest n posts) k new left (verdict.TriesNext k n posts rest q.attempt q.op q.group q.ep q.first q.tracker q.read q.snapshot)
        (whole-on Next VerdictEnds (verdict.Trying q Asked rest n posts) (verdict.Trying q tries.last rest n posts) k mid new left
        (record { did = tries.reached.did; path = lifts q rest n posts Asked k tries.reached.did tries.last mid tries.reached.path })
        (silent_first Next VerdictEnds (verdict.Trying q tries.last rest n posts) (behind r) mid new left (verdict.IsDone mid n posts rest q tries.last r tries.ends) rests))

  -- ---- as it is computed

  module _ (q : FetchRequest) (rest : List Message) (n : TargetMemory) (posts : List Post) (d : Durable) (changed : Bool) where
    abbrev From : ℕ → Kept → TargetMemory × Did → Type 0
    From free new left = Onward Next VerdictEnds (verdict.Freed (fetch_message q ∷ rest) n posts) d changed free new left

    pub tries_on : (l : Left) → Comes (FetchNext t n reading q) (FetchEnds t n reading q (fetcher q)) Asked d changed (Some l) → (free : ℕ) (new : Kept) (left : TargetMemory × Did)
        → Iff (From free new left) (Onward Next VerdictEnds (verdict.Freed rest l.memory (posts ++ l.did.posts)) l.durable l.changed free new left)
    tries_on l comes free new left = (
      λ w.
          let f = tried_first q rest n posts (keeps d w.blocks) new left w.turn in
          let is = (comes free f.mid f.r).0 (record { blocks = w.blocks; may = w.may; turn = f.tries }) in
          record {
            blocks = f.mid.free;
            may = is.may;
            turn = subst (λ x. Whole Next VerdictEnds (verdict.Freed rest l.memory (posts ++ l.did.posts)) x new left) (durable_is f.mid l.durable is.durable)
                (subst (λ x. Whole Next VerdictEnds (verdict.Freed rest x.0 (posts ++ x.1.posts)) f.mid new left) is.rest f.rests);
          },
      λ w.
          let f = (comes free (keeps l.durable w.blocks) (l.memory, l.did)).1 (record { durable = refl; may = w.may; rest = refl }) in
          record { blocks = f.blocks; may = f.may; turn = first_tried q rest n posts (keeps d f.blocks) (keeps l.durable w.blocks) new (l.memory, l.did) left f.turn w.turn },
    )

    pub tries_none : Comes (FetchNext t n reading q) (FetchEnds t n reading q (fetcher q)) Asked d changed None → (free : ℕ) (new : Kept) (left : TargetMemory × Did) → From free new left → ⊥
    tries_none comes free new left w =
        let f = tried_first q rest n posts (keeps d w.blocks) new left w.turn in
        (comes free f.mid f.r).0 (record { blocks = w.blocks; may = w.may; turn = f.tries })

  -- where none is left, the turn ends
  pub none_left : (n : TargetMemory) (posts : List Post) (d : Durable) (changed : Bool) (l : Left) → l.durable ≡ d → l.changed ≡ changed → ◌≡◌ {A = TargetMemory × Did} (l.memory, l.did) (n, sends posts None) → Comes Next VerdictEnds (verdict.Freed [] n posts) d changed (Some l)
  none_left n posts d changed l kept was is =
      end_comes Next VerdictEnds (verdict.Freed [] n posts) d changed l kept was (subst (OneEnd Next VerdictEnds (verdict.Freed [] n posts) d) (sym is) (record {
        there = λ free. verdict.AllTried (keeps d free) n posts (n, sends posts None) refl;
        alone = λ free x ends. ends_at (verdict.Freed [] n posts) (keeps d free) x ends;
        stays = λ free p u next. none (next_at (verdict.Freed [] n posts) (keeps d free) p u next);
      }))
    where
      none : {p : Option Change} {u : VerdictStage} → TriesFirst [] n posts p u → ⊥
      none f = let here = f.here in let bad : ⊥ = cc in bad

-- ---- as the code says it

pub one_tried : (t : TargetPlan) (q : FetchRequest) (x next : Trial) (l : Left) → FetchLeaves t (fetcher q) q x.work.memory Asked x.work.durable x.work.changed (Some l) → GoesOn x.posts l next → TriesAsk t (fetch_message q) x (Some next)
one_tried t q x next l leaves goes = record {
  on = λ rest m reading a ask v free new left.
      subst (λ z. Iff (TriesFrom t m reading a ask v (fetch_message q ∷ rest) x free new left) (Onward (VerdictNext is_prepared t m reading a ask v) VerdictEnds (verdict.Freed rest z next.posts) next.work.durable next.work.changed free new left)) (sym goes.memory)
      (subst (λ z. Iff (TriesFrom t m reading a ask v (fetch_message q ∷ rest) x free new left) (Onward (VerdictNext is_prepared t m reading a ask v) VerdictEnds (verdict.Freed rest l.memory z) next.work.durable next.work.changed free new left)) (sym goes.posts_are)
      (subst (λ z. Iff (TriesFrom t m reading a ask v (fetch_message q ∷ rest) x free new left) (Onward (VerdictNext is_prepared t m reading a ask v) VerdictEnds (verdict.Freed rest l.memory (x.posts ++ l.did.posts)) z next.work.changed free new left)) (sym goes.durable)
      (subst (λ z. Iff (TriesFrom t m reading a ask v (fetch_message q ∷ rest) x free new left) (Onward (VerdictNext is_prepared t m reading a ask v) VerdictEnds (verdict.Freed rest l.memory (x.posts ++ l.did.posts)) l.durable z free new left)) (sym goes.changed)
      (tries_on t m reading a ask v q rest x.work.memory x.posts x.work.durable x.work.changed l (leaves.comes reading) free new left))));
  read = subst (λ z. CanRead t z next.work.memory.leader.decided) (sym goes.durable) (subst (λ z. CanRead t l.durable z.leader.decided) (sym goes.memory) leaves.read);
}

pub none_tried : (t : TargetPlan) (q : FetchRequest) (x : Trial) → FetchLeaves t (fetcher q) q x.work.memory Asked x.work.durable x.work.changed None → TriesAsk t (fetch_message q) x None
none_tried t q x leaves = record {
  on = λ rest m reading a ask v free new left. (tries_none t m reading a ask v q rest x.work.memory x.posts x.work.durable x.work.changed (leaves.comes reading) free new left, λ bad. absurd bad);
  read = tt;
}

pub one_found : (t : TargetPlan) (from : ActorId) (q : FetchRequest) (x next : Trial) (l : Left) (o : Option Left) → from ≡ fetcher q → o ≡ Some l → FetchLeaves t from q x.work.memory Asked x.work.durable x.work.changed o → GoesOn x.posts l next → TriesAsk t (fetch_message q) x (Some next)
one_found t from q x next l o same some leaves goes =
    one_tried t q x next l (subst (FetchLeaves t (fetcher q) q x.work.memory Asked x.work.durable x.work.changed) some (subst (λ a. FetchLeaves t a q x.work.memory Asked x.work.durable x.work.changed o) same leaves)) goes

pub none_found : (t : TargetPlan) (from : ActorId) (q : FetchRequest) (x : Trial) (o : Option Left) → from ≡ fetcher q → o ≡ None → FetchLeaves t from q x.work.memory Asked x.work.durable x.work.changed o → TriesAsk t (fetch_message q) x None
none_found t from q x o same none leaves =
    none_tried t q x (subst (FetchLeaves t (fetcher q) q x.work.memory Asked x.work.durable x.work.changed) none (subst (λ a. FetchLeaves t a q x.work.memory Asked x.work.durable x.work.changed o) same leaves))

-- a Fetch with its epoch is the one that it asks
pub ask_is : (ask : Message) (q : FetchRequest) → fetch_in ask ≡ Some q → fetch_message q ≡ ask
ask_is (message.Fetch x op group ep first tracker r snapshot) q is = (let same : q ≡ record { attempt = x; op = op; group = group; ep = ep; first = first; tracker = tracker; read = r; snapshot = snapshot } = cc in ap fetch_message same)
ask_is ask q is = let bad : ⊥ = cc in absurd bad

pub ask_timed : (ask : Message) (q : FetchRequest) → fetch_in ask ≡ Some q → is_timed ask ≡ true → is_some q.ep ≡ true
ask_timed ask q is timed = subst (λ z. is_timed z ≡ true) (sym (ask_is ask q is)) timed

pub ask_none : (ask : Message) → fetch_in ask ≡ None → is_timed ask ≡ true → ⊥
ask_none (message.Fetch x op group ep first tracker r snapshot) is timed = let bad : ⊥ = cc in bad
ask_none ask is timed = let bad : ⊥ = cc in bad

-- ---- one after another

pub timed_at : (asks : List Message) (i : ℕ) (ask : Message) → list_all is_timed asks ≡ true → i < length asks → ask ≡ get_or asks i ask → is_timed ask ≡ true
timed_at asks i ask all lt is = by (is_timed ask) refl
  where
    by : (b : Bool) → is_timed ask ≡ b → is_timed ask ≡ true
    by true so = so
    by false bad = clash (list_all is_timed asks) all (list_all_at is_timed asks i ask lt (ap is_timed (sym is) ∙ bad))

next_left : (asks : List Message) (i : ℕ) (ask : Message) → i < length asks → ask ≡ get_or asks i ask → drop i asks ≡ ask ∷ drop (i + 1) asks
next_left asks i ask lt is =
    let next : suc i ≡ i + 1 = omega arith in
    drop-cons asks i ask lt ∙ ap (λ y. y ∷ drop (suc i) asks) (sym is) ∙ ap (λ n. ask ∷ drop n asks) next

-- these are tried so far
pub record SoFar (t : TargetPlan) (asks : List Message) (x : Trial) (i : ℕ) (next : Trial) : Type 0 where
  pub on : TriesOn t asks x (drop i asks) (Some next)
  pub read : CanRead t next.work.durable next.work.memory.leader.decided

pub so_far_more : (t : TargetPlan) (asks : List Message) (x next then : Trial) (i : ℕ) (ask : Message) (o : Option Trial) → SoFar t asks x i next → i < length asks → ask ≡ get_or asks i ask → TriesAsk t ask next o → o ≡ Some then → SoFar t asks x (i + 1) then
so_far_more t asks x next then i ask o so lt is tries some =
    let its : TriesAsk t ask next (Some then) = subst (TriesAsk t ask next) some tries in
    record {
      on = λ m reading a q v free new left.
          iff_both (so.on m reading a q v free new left)
          (subst (λ xs. Iff (TriesFrom t m reading a q v xs next free new left) (TriesFrom t m reading a q v (drop (i + 1) asks) then free new left)) (sym (next_left asks i ask lt is)) (its.on (drop (i + 1) asks) m reading a q v free new left));
      read = its.read;
    }

pub so_far_none : (t : TargetPlan) (asks : List Message) (x next : Trial) (i : ℕ) (ask : Message) (o : Option Trial) → SoFar t asks x i next → i < length asks → ask ≡ get_or asks i ask → TriesAsk t ask next o → o ≡ None → AllTried t asks x None
so_far_none t asks x next i ask o so lt is tries none =
    let its : TriesAsk t ask next None = subst (TriesAsk t ask next) none tries in
    record {
      on = λ m reading a q v free new left.
          iff_both (so.on m reading a q v free new left)
          (subst (λ xs. Iff (TriesFrom t m reading a q v xs next free new left) (TriesTo t m reading a q v [] None free new left)) (sym (next_left asks i ask lt is)) (its.on (drop (i + 1) asks) m reading a q v free new left));
      read = tt;
    }

pub so_far_all : (t : TargetPlan) (asks : List Message) (x next : Trial) (i : ℕ) → SoFar t asks x i next → length asks ≤ i → AllTried t asks x (Some next)
so_far_all t asks x next i so le = record {
  on = λ m reading a q v free new left.
      subst (λ xs. Iff (TriesFrom t m reading a q v asks x free new left) (TriesFrom t m reading a q v xs next free new left)) (drop_of_length-le asks le) (so.on m reading a q v free new left);
  read = so.read;
}

pub ask_tried : (t : TargetPlan) (ask : Message) (q : FetchRequest) (x : Trial) (o : Option FetchRequest) (next : Option Trial) → o ≡ fetch_in ask → o ≡ Some q → TriesAsk t (fetch_message q) x next → TriesAsk t ask x next
ask_tried t ask q x o next is some tries = subst (λ z. TriesAsk t z x next) (ask_is ask q (sym is ∙ some)) tries

pub so_far_none_yet : (t : TargetPlan) (asks : List Message) (x : Trial) → CanRead t x.work.durable x.work.memory.leader.decided → SoFar t asks x 0 x
so_far_none_yet t asks x read = record { on = λ m reading a q v free new left. (λ w. w, λ w. w); read = read }

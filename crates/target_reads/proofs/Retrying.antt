-- Fetches that are tried again in a Verdict's turn.
use Rattle.std.proofs.Common.{ℕ, ◌≡◌, ◌++◌, refl, ◌∙◌, ap, true, List, ◌∷◌, Option, Some, None, is_some}
use Rattle.base_types.specs.declared.entry.Verdict.{Verdict}
use Rattle.base_types.specs.declared.entry.Verdict.TheVariants as verdict
use Rattle.base_types.specs.declared.epoch.Epoch.{Epoch}
use Rattle.base_types.specs.declared.id.AttemptId.{AttemptId}
use Rattle.base_types.specs.declared.id.ContId.{ContId}
use Rattle.model_laws.specs.Members.{Has, has-from_filter, has-from_map}
use Rattle.base_messages.specs.declared.message.Message.{Message}
use Rattle.base_messages.specs.declared.message.Post.{Post}
use Rattle.daos_model.specs.declared.durable.Durable.{Durable}
use Rattle.daos_model.specs.Durables.{is_enlisted}
use Rattle.dtx_base.specs.declared.member.Parked.{Parked}
use Rattle.dtx_base.specs.Joining.{MemberOf, parked_ask, unresolved, verdict_heard}
use Rattle.world_base.specs.declared.did.Did.{Did}
use Rattle.world_base.specs.declared.request.FetchRequest.{FetchRequest}
use Rattle.world_base.specs.declared.target.TargetMemory.{TargetMemory}
use Rattle.world_base.specs.declared.target.TargetPlan.{TargetPlan}
use Rattle.world_base.specs.Changes.{Change, Kept, Steps}
use Rattle.world_base.specs.Reads as read
use Rattle.world_base.specs.Reads.{FetchEnds, FetchNext, FetchStage}
use Rattle.world_base.specs.Requests.{fetch_message, issued_for}
use Rattle.world_base.specs.Roles.{is_prepared}
use Rattle.world_base.specs.Turns.{CutAt, CutShort, Here, InChange, InQuestion, More, Path, Reached, Whole}
use Rattle.world_base.specs.Verdicts.{Freed, GoesOn, IsDone, TriesNext, Trying, VerdictNext, VerdictStage, fetcher}
use Rattle.target_reads.proofs.Containers.{change-enlisted}
use Rattle.target_parts.specs.Stops.{fetch_issued}
use Rattle.target_parts.specs.Turning.{reached_on, reached_silent}
use Rattle.world_base.specs.PathLaws.{reached-here}

-- ---- what every turn leaves

-- containers stay on every path
pub path-enlisted : {S : Type 0} (Next : S → Kept → Option Change → S → Type 0) (s : S) (k : Kept) (did : List Change) (u : S) (l : Kept) (c : ContId) → Path Next s k did u l → is_enlisted l.durable c ≡ is_enlisted k.durable c
path-enlisted Next s k did u l c Here = refl
path-enlisted Next s k did u l c (More before v n o w z path next steps) = by o steps ∙ path-enlisted Next s k before v n c path
  where
    by : (o : Option Change) → Steps o n l → is_enlisted l.durable c ≡ is_enlisted n.durable c
    by None same = ap (λ x. is_enlisted x.durable c) same
    by (Some x) did = ap (λ d. is_enlisted d c) did.0 ∙ change-enlisted x n.durable c

-- ---- one Fetch more

module _ (t : TargetPlan) (m : TargetMemory) (reading : ℕ) (a : AttemptId) (ask : Option AttemptId) (v : Verdict) (n : TargetMemory) (q : FetchRequest) (rest : List Message) (posts : List Post) where
  abbrev trying : FetchStage → VerdictStage
  trying s = Trying q s rest n posts

  lifted : (s : FetchStage) (k : Kept) (did : List Change) (u : FetchStage) (l : Kept) → Path (FetchNext t n reading q) s k did u l → Path (VerdictNext is_prepared t m reading a ask v) (trying s) k did (trying u) l
  lifted s k did u l Here = Here
  lifted s k did u l (More before w x o y z path next steps) = More before (trying w) x o (trying u) l (lifted s k before w x path) (GoesOn x n posts rest q w u o next) steps

  begun : (k : Kept) → Reached (VerdictNext is_prepared t m reading a ask v) (Freed (fetch_message q ∷ rest) n posts) k (trying read.Asked) k
  begun k =
      reached_silent (VerdictNext is_prepared t m reading a ask v) (Freed (fetch_message q ∷ rest) n posts) k (Freed (fetch_message q ∷ rest) n posts) k (trying read.Asked)
      (reached-here (VerdictNext is_prepared t m reading a ask v) (Freed (fetch_message q ∷ rest) n posts) k)
      (TriesNext k n posts rest q.attempt q.op q.group q.ep q.first q.tracker q.read q.snapshot)

  tried-to : (k : Kept) (u : FetchStage) (l : Kept) → Reached (FetchNext t n reading q) read.Asked k u l → Reached (VerdictNext is_prepared t m reading a ask v) (Freed (fetch_message q ∷ rest) n posts) k (trying u) l
  tried-to k u l r = reached_on (VerdictNext is_prepared t m reading a ask v) (Freed (fetch_message q ∷ rest) n posts) k (trying read.Asked) k (trying u) l (begun k) (record { did = r.did; path = lifted read.Asked k r.did u l r.path })

  -- one that was tried again
  pub tried : (k l : Kept) (left : TargetMemory) (did : Did) → Whole (FetchNext t n reading q) (FetchEnds t n reading q (fetcher q)) read.Asked k l (left, did)
      → Reached (VerdictNext is_prepared t m reading a ask v) (Freed (fetch_message q ∷ rest) n posts) k (Freed rest left (posts ++ did.posts)) l
  tried k l left did w =
      reached_silent (VerdictNext is_prepared t m reading a ask v) (Freed (fetch_message q ∷ rest) n posts) k (trying w.last) l (Freed rest left (posts ++ did.posts))
      (tried-to k w.last l w.reached) (IsDone l n posts rest q w.last (left, did) w.ends)

  -- one that was cut
  pub tried-cut : (k : Kept) (finds : Kept → Type 0) → CutShort (FetchNext t n reading q) read.Asked k finds → CutShort (VerdictNext is_prepared t m reading a ask v) (Freed (fetch_message q ∷ rest) n posts) k finds
  tried-cut k finds c = record { last = trying c.last; mid = c.mid; reached = tried-to k c.last c.mid c.reached; cut = by c.cut }
    where
      by : CutAt (FetchNext t n reading q) c.last c.mid finds → CutAt (VerdictNext is_prepared t m reading a ask v) (trying c.last) c.mid finds
      by (InChange x u next left) = InChange x (trying u) (GoesOn c.mid n posts rest q c.last u (Some x) next) left
      by (InQuestion left) = InQuestion left

  -- one for which memory was wanting
  pub tried-partly : (k : Kept) (u : FetchStage) (l : Kept) → Reached (FetchNext t n reading q) read.Asked k u l → Reached (VerdictNext is_prepared t m reading a ask v) (Freed (fetch_message q ∷ rest) n posts) k (trying u) l
  tried-partly k u l r = tried-to k u l r

-- a Fetch that has an epoch is issued none
pub known-unissued : (q : FetchRequest) (s : FetchStage) → is_some q.ep ≡ true → fetch_issued q s ≡ None
known-unissued q read.Asked known = refl
known-unissued q (read.Known e) known = refl
known-unissued q (read.Reading e decided) known = by q.ep known
  where
    by : (ep : Option Epoch) → is_some ep ≡ true → issued_for q.attempt ep e ≡ None
    by None none = absurd (let no : ⊥ = cc in no)
    by (Some own) some = refl

-- ---- what a Verdict sets free

pub record FreesParked (ps : List Parked) (left : List Parked) (again : List Message) : Type 0 where
  pub stay : (p : Parked) → Has p left → Has p ps
  pub free : (x : Message) → Has x again → (p : Parked) × Has p ps × (parked_ask p ≡ x)

-- of the Fetches that wait some go on waiting, and some are set free
pub verdict-frees : (a : AttemptId) (ask : Option AttemptId) (v : Verdict) (s : MemberOf) → FreesParked s.memory.parked (verdict_heard a ask v s).member.memory.parked (verdict_heard a ask v s).freed.again
unfolding unresolved
verdict-frees a ask verdict.Committed s = record { stay = λ p i. (has-from_filter _ s.memory.parked p i).0; free = λ x i. let o = has-from_map parked_ask _ x i in (o.0, (has-from_filter _ s.memory.parked o.0 o.1).0, o.2) }
verdict-frees a ask verdict.Aborted s = record { stay = λ p i. (has-from_filter _ s.memory.parked p i).0; free = λ x i. let o = has-from_map parked_ask _ x i in (o.0, (has-from_filter _ s.memory.parked o.0 o.1).0, o.2) }
verdict-frees a None verdict.Undecided s = record { stay = λ p i. i; free = λ x i. absurd i }
verdict-frees a (Some y) verdict.Undecided s = record { stay = λ p i. (has-from_filter _ s.memory.parked p i).0; free = λ x i. absurd i }

-- and it is the same member
pub verdict-me : (a : AttemptId) (ask : Option AttemptId) (v : Verdict) (s : MemberOf) → (verdict_heard a ask v s).member.me ≡ s.me
unfolding unresolved
verdict-me a ask verdict.Committed s = refl
verdict-me a ask verdict.Aborted s = refl
verdict-me a None verdict.Undecided s = refl
verdict-me a (Some y) verdict.Undecided s = refl

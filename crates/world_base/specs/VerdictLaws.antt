-- A Verdict's turn is the settling of its attempt, and then the turn of a Fetch for each that is freed, one after another.
use Rattle.std.specs.Prelude.{ℕ, ◌≡◌, Bool, ◌++◌, List, [], ◌∷◌, Option, None, refl}
use Rattle.std.proofs.Common.{sym, subst}
use Rattle.base_types.specs.declared.entry.Verdict.{Verdict}
use Rattle.base_types.specs.declared.id.AttemptId.{AttemptId}
use Rattle.base_messages.specs.declared.message.Message.{Message}
use Rattle.base_messages.specs.declared.message.Message.TheVariants.{Fetch}
use Rattle.base_messages.specs.declared.message.Post.{Post}
use Rattle.daos_model.specs.declared.durable.Durable.{Durable}
use Rattle.dtx_base.specs.Joining.{verdict_heard}
use Rattle.world_base.specs.declared.did.Did.{Did}
use Rattle.world_base.specs.declared.request.FetchRequest.{FetchRequest}
use Rattle.world_base.specs.declared.target.TargetMemory.{TargetMemory}
use Rattle.world_base.specs.declared.target.TargetPlan.{TargetPlan}
use Rattle.world_base.specs.Changes.{Change, Kept, Steps}
use Rattle.world_base.specs.PathLaws.{reached-here, reached-keeps, reached-more}
use Rattle.world_base.specs.Reads.{Asked, FetchEnds, FetchNext}
use Rattle.world_base.specs.Requests.{fetch_message, sends}
use Rattle.world_base.specs.Roles.{joins_on, member_at}
use Rattle.world_base.specs.Turns.{Reached, Whole}
use Rattle.world_base.specs.Verdicts.{AllTried, Freed, GoesOn, Heard, IsDone, SettlesBy, TriesNext, Trying, VerdictEnds, VerdictNext, VerdictStage, fetcher, settles_by, settling_change}

-- one Fetch is tried, at the client that it came from
abbrev pub Tries : TargetPlan → ℕ → TargetMemory → FetchRequest → Kept → Kept → TargetMemory × Did → Type 0
Tries t reading n q old new left = Whole (FetchNext t n reading q) (FetchEnds t n reading q (fetcher q)) Asked old new left

module _ (is_due : AttemptId → Durable → Bool) (t : TargetPlan) (m : TargetMemory) (reading : ℕ) (a : AttemptId) (ask : Option AttemptId) (v : Verdict) (old : Kept)
    -- what holds between two Fetches: of those that are left, of what is known, of what is to be sent, and of what is kept
    (P : List Message → TargetMemory → List Post → Kept → Type 0) where
  -- it holds once the attempt is settled
  abbrev pub BeginsSo : Type 0
  BeginsSo = (k : Kept) → Steps (settling_change a (settles_by is_due v a old.durable)) old k → P (verdict_heard a ask v (member_at t m)).freed.again (joins_on (verdict_heard a ask v (member_at t m)).member m) (verdict_heard a ask v (member_at t m)).freed.posts k

  -- and each Fetch's turn keeps it
  abbrev pub GoesOnSo : Type 0
  GoesOnSo = (q : FetchRequest) (rest : List Message) (n : TargetMemory) (posts : List Post) (k l : Kept) (left : TargetMemory × Did) → P (fetch_message q ∷ rest) n posts k → Tries t reading n q k l left → P rest left.0 (posts ++ left.1.posts) l

  -- what holds at a stage
  abbrev Stands : VerdictStage → Kept → Type 0
  Stands Heard k = k ≡ old
  Stands (Freed asks n posts) k = P asks n posts k
  Stands (Trying q s rest n posts) k = (j : Kept) × P (fetch_message q ∷ rest) n posts j × Reached (FetchNext t n reading q) Asked j s k

  step-stands : BeginsSo → GoesOnSo → (s : VerdictStage) (k : Kept) (o : Option Change) (u : VerdictStage) (l : Kept) → VerdictNext is_due t m reading a ask v s k o u → Steps o k l → Stands s k → Stands u l
  step-stands begins goes s k o u l (SettlesBy j p is) steps h = begins l (subst (λ x. Steps (settling_change a (settles_by is_due v a x.durable)) x l) h (subst (λ c. Steps c k l) is steps))
  step-stands begins goes s k o u l (TriesNext j n posts rest x op group ep first tracker r snapshot) steps h =
      (l, subst (P (Fetch x op group ep first tracker r snapshot ∷ rest) n posts) (sym steps) h, reached-here _ Asked l)
  step-stands begins goes s k o u l (GoesOn j n posts rest q i z p next) steps h = (h.0, h.1, reached-more _ Asked h.0 i k o z l h.2 next steps)
  step-stands begins goes s k o u l (IsDone j n posts rest q i left ends) steps h =
      goes q rest n posts h.0 l left h.1 (record { last = i; reached = subst (Reached (FetchNext t n reading q) Asked h.0 i) (sym steps) h.2; ends = subst (λ x. FetchEnds t n reading q (fetcher q) i x left) (sym steps) ends })

  ends-stands : (s : VerdictStage) (new : Kept) (left : TargetMemory × Did) → VerdictEnds s new left → Stands s new → P [] left.0 left.1.posts new × (left.1 ≡ sends left.1.posts None)
  ends-stands s new left (AllTried k n posts z is) h = subst (λ x. P [] x.0 x.1.posts new × (x.1 ≡ sends x.1.posts None)) (sym is) (h, refl)

  -- so it holds in the end, where none is left
  pub verdict-keeps : BeginsSo → GoesOnSo → (new : Kept) (left : TargetMemory × Did) → Whole (VerdictNext is_due t m reading a ask v) VerdictEnds Heard old new left → P [] left.0 left.1.posts new × (left.1 ≡ sends left.1.posts None)
  verdict-keeps begins goes new left w = ends-stands w.last new left w.ends (reached-keeps (VerdictNext is_due t m reading a ask v) Stands (step-stands begins goes) Heard old w.last new w.reached refl)

-- What a turn leaves that is cut: no floor is set, the lease rises within its limit, no line is told, epochs are within the limit, and blocks
-- are accounted for.
use Rattle.std.specs.Prelude.{ℕ, ◌≡◌, ◌≤◌, ◌+◌, ◌++◌, ◌==◌, ◌||◌, ◌⊎◌, Bool, true, false, List, [], ◌∷◌, Option, Some, None, refl}
use Rattle.std.proofs.Common.{inl, inr, sym, ◌∙◌, ap, subst, arith}
use Rattle.std.proofs.lemmas.List.{append_assoc}
use Rattle.base_types.specs.declared.entry.Settle.{Settle}
use Rattle.base_types.specs.declared.entry.Verdict.{Verdict}
use Rattle.base_types.specs.declared.epoch.Epoch.{Epoch}
use Rattle.base_types.specs.declared.id.AttemptId.{AttemptId}
use Rattle.base_types.specs.declared.outcome.FloorWhy.{FloorWhy}
use Rattle.base_types.specs.declared.outcome.Outcome.{Outcome}
use Rattle.base_types.specs.declared.report.Line.{Line}
use Rattle.base_types.specs.declared.script.Script.{Script}
use Rattle.model_laws.specs.TargetLaws.{same_number}
use Rattle.daos_model.specs.declared.durable.Durable.{Durable}
use Rattle.daos_model.specs.Blocks.{blocks}
use Rattle.daos_model.specs.CausesShown.{blocks_at}
use Rattle.world_base.specs.declared.request.CommitRequest.{CommitRequest}
use Rattle.world_base.specs.declared.request.FetchRequest.{FetchRequest}
use Rattle.world_base.specs.declared.request.PrepareRequest.{PrepareRequest}
use Rattle.world_base.specs.declared.target.TargetMemory.{TargetMemory}
use Rattle.world_base.specs.declared.target.TargetPlan.{TargetPlan}
use Rattle.world_base.specs.Acks as ack
use Rattle.world_base.specs.ChangeLaws.{LeaseRises, conts-made, lease-same, lease-steps, lease-then}
use Rattle.world_base.specs.Changes.{Change, Creates, Extends, Freezes, IsPlainly, Kept, Prepares, Prunes, Settles, cost, is_plain}
use Rattle.world_base.specs.Commits as commit
use Rattle.world_base.specs.CutTurns.{CutHere, CutTurn, Cutting, InChange, InQuestion, cut_line, is_stored, line_of, lines_of}
use Rattle.world_base.specs.Idle.{IdleNext, SettlesFirst}
use Rattle.world_base.specs.Marks as mark
use Rattle.world_base.specs.PathLaws.{AllPlain, step-leaves}
use Rattle.world_base.specs.Prepares as prepare
use Rattle.world_base.specs.Reads as read
use Rattle.world_base.specs.TurnLaws.{RaisesAll}
use Rattle.world_base.specs.Turns.{Here, More, Path, listed}
use Rattle.world_base.specs.Verdicts as verdict
use Rattle.world_causes.specs.restarts.Cuts.{cut-keeps}
use Rattle.world_causes.specs.causes.Causes.{Stored, blocks_if, blocks_of_stored}
use Rattle.world_causes.specs.causes.Leases.{ExtendsTo, lease-to}
use Rattle.world_causes.specs.causes.Paths.{costs, free-path}

-- ---- any turn of plain changes

lines-both : (t : ℕ) (xs ys : List Change) → lines_of t (xs ++ ys) ≡ lines_of t xs ++ lines_of t ys
lines-both t [] ys = refl
lines-both t (x ∷ xs) ys = ap (λ ls. line_of t x ++ ls) (lines-both t xs ys) ∙ sym (append_assoc (line_of t x) (lines_of t xs) (lines_of t ys))

plain-line : (t : ℕ) (c : Change) → is_plain c ≡ true → (line_of t c ≡ []) × (cut_line t c ≡ [])
plain-line t (Extends ticks) plain = (refl, refl)
plain-line t (Prepares e ws) plain = (refl, refl)
plain-line t (Settles a step) plain = (refl, refl)
plain-line t (Freezes c s) plain = let no : ⊥ = cc in absurd no
plain-line t (Creates c s) plain = let no : ⊥ = cc in absurd no
plain-line t (Prunes c upto n) plain = let no : ⊥ = cc in absurd no

plain-lines : (t : ℕ) (o : Option Change) → IsPlainly o → lines_of t (listed o) ≡ []
plain-lines t None plain = refl
plain-lines t (Some c) plain = ap (λ ls. ls ++ []) (plain-line t c plain).0

module _ {S : Type 0} (Next : S → Kept → Option Change → S → Type 0) (plain : AllPlain Next) where
  path-lines : (t : ℕ) (s : S) (k : Kept) (did : List Change) (u : S) (l : Kept) → Path Next s k did u l → lines_of t did ≡ []
  path-lines t s k did u l Here = refl
  path-lines t s k did u l (More before v m o x n path next steps) =
      lines-both t before (listed o) ∙ ap (λ ls. ls ++ lines_of t (listed o)) (path-lines t s k before v m path) ∙ plain-lines t o (plain v m o x next)

  here-lines : (t : ℕ) (last : S) (mid left : Kept) (lines : List Line) → CutHere Next t last mid left lines → lines ≡ []
  here-lines t last mid left lines (InChange c next is cut free) = (plain-line t c (plain last mid (Some c) next is)).1
  here-lines t last mid left lines (InQuestion same free) = refl

  module _ (issues : S → List (AttemptId × Epoch)) (t : ℕ) (start : S) (old : Kept) (cut : Cutting) (g : CutTurn Next issues t start old cut) where
    -- no line is told
    pub cut-silent : cut.lines ≡ []
    cut-silent = g.all_lines ∙ ap (λ ls. ls ++ g.lines) (path-lines t start old g.did g.last g.mid g.path) ∙ here-lines t g.last g.mid cut.left g.lines g.here

    -- the rows of containers stay
    pub cut-conts : cut.left.durable.conts ≡ old.durable.conts
    cut-conts = cut-keeps Next issues t (λ s k. k.durable.conts ≡ old.durable.conts) (λ d. d.conts ≡ old.durable.conts) plain
        (λ s k c u l next steps h. step-leaves (λ d. d.conts) conts-made c k l (plain s k c u next) steps ∙ h) (λ s k h. h) start old cut g refl

    -- the lease doesn't fall
    pub cut-raises : RaisesAll Next → LeaseRises old.durable cut.left.durable
    cut-raises raises = cut-keeps Next issues t (λ s k. LeaseRises old.durable k.durable) (λ d. LeaseRises old.durable d) plain
        (λ s k c u l next steps h. lease-then old.durable k.durable l.durable h (lease-steps c k l steps (raises s k c u next))) (λ s k h. h) start old cut g (lease-same old.durable old.durable refl)

    -- it rises no higher than its steps extend it
    pub cut-leased : (b : ℕ) (P : S → Type 0) → P start → ((s : S) (k : Kept) (c : Option Change) (u : S) → Next s k c u → P s → P u × ExtendsTo b c) → old.durable.lease ≤ b → cut.left.durable.lease ≤ b
    cut-leased b P first each low = cut-keeps Next issues t (λ s k. P s × (k.durable.lease ≤ b)) (λ d. d.lease ≤ b) plain
        (λ s k c u l next steps h. let e = each s k c u next h.0 in (e.0, lease-to b c k l steps e.1 h.1)) (λ s k h. h.1) start old cut g (first, low)

    -- where no step takes blocks, as many are free
    pub cut-free : ((s : S) (k : Kept) (c : Option Change) (u : S) → Next s k c u → costs c ≡ 0) → old.free ≤ cut.left.free
    cut-free cheap = by g.lines g.here
      where
        before : old.free ≤ g.mid.free
        before = free-path Next cheap start old g.did g.last g.mid g.path

        by : (lines : List Line) → CutHere Next t g.last g.mid cut.left lines → old.free ≤ cut.left.free
        by lines (InChange c next is what free) = sum (cost c) (cheap g.last g.mid (Some c) next is) free
          where
            sum : (n : ℕ) → n ≡ 0 → g.mid.free ≤ cut.left.free + n → old.free ≤ cut.left.free
            sum n none low = omega (arith, before, none, low)
        by lines (InQuestion same free) = omega (arith, before, free)

-- ---- steps that take no blocks

pub fetch-cheap : (t : TargetPlan) (m : TargetMemory) (reading : ℕ) (q : FetchRequest) (s : read.FetchStage) (k : Kept) (c : Option Change) (u : read.FetchStage) → read.FetchNext t m reading q s k c u → costs c ≡ 0
fetch-cheap t m reading q s k c u (read.AtSnapshot j e snap is) = refl
fetch-cheap t m reading q s k c u (read.HasEpoch j e plain is) = refl
fetch-cheap t m reading q s k c u (read.ExtendsLease j e lease low is) = refl
fetch-cheap t m reading q s k c u (read.IsCovered j e low) = refl
fetch-cheap t m reading q s k c u (read.SettlesOwn j e decided a none unsettled among) = refl

pub ack-cheap : (t : TargetPlan) (m : TargetMemory) (member : ℕ) (a : AttemptId) (inc : ℕ) (refusal : Option Outcome) (s : ack.AckStage) (k : Kept) (c : Option Change) (u : ack.AckStage) → ack.AckNext t m member a inc refusal s k c u → costs c ≡ 0
ack-cheap t m member a inc refusal s k c u (ack.Aborts j is) = refl
ack-cheap t m member a inc refusal s k c u (ack.Counts j is) = refl

pub mark-cheap : (is_due : AttemptId → Durable → Bool) (s : List (AttemptId × Bool)) (k : Kept) (c : Option Change) (u : List (AttemptId × Bool)) → mark.MarkNext is_due s k c u → costs c ≡ 0
mark-cheap is_due s k c u (mark.SettlesMarked j a committed rest is) = refl
mark-cheap is_due s k c u (mark.PassesBy j a committed rest is) = refl

pub marked-cheap : (t : TargetPlan) (m : TargetMemory) (member : ℕ) (s : List AttemptId) (k : Kept) (c : Option Change) (u : List AttemptId) → ack.MarkedNext t m member s k c u → costs c ≡ 0
marked-cheap t m member s k c u (ack.Confirms j a rest is) = refl
marked-cheap t m member s k c u (ack.PassesBy j a rest is) = refl

pub query-cheap : (s : verdict.QueryStage) (k : Kept) (c : Option Change) (u : verdict.QueryStage) → verdict.QueryNext s k c u → costs c ≡ 0
query-cheap s k c u (verdict.Answers j) = refl

settling-cheap : (a : AttemptId) (step : Option Settle) → costs (verdict.settling_change a step) ≡ 0
settling-cheap a None = refl
settling-cheap a (Some step) = refl

pub verdict-cheap : (is_due : AttemptId → Durable → Bool) (t : TargetPlan) (m : TargetMemory) (reading : ℕ) (a : AttemptId) (ask : Option AttemptId) (v : Verdict) (s : verdict.VerdictStage) (k : Kept) (c : Option Change) (u : verdict.VerdictStage)
    → verdict.VerdictNext is_due t m reading a ask v s k c u → costs c ≡ 0
verdict-cheap is_due t m reading a ask v s k c u (verdict.SettlesBy j p is) = ap costs is ∙ settling-cheap a (verdict.settles_by is_due v a k.durable)
verdict-cheap is_due t m reading a ask v s k c u (verdict.TriesNext j n posts rest x op group ep first tracker r snapshot) = refl
verdict-cheap is_due t m reading a ask v s k c u (verdict.GoesOn j n posts rest q i z p next) = fetch-cheap t n reading q i k c z next
verdict-cheap is_due t m reading a ask v s k c u (verdict.IsDone j n posts rest q i left ends) = refl

pub idle-cheap : (s : List AttemptId) (k : Kept) (c : Option Change) (u : List AttemptId) → IdleNext s k c u → costs c ≡ 0
idle-cheap s k c u (SettlesFirst j a rest) = refl

-- ---- what a turn that is cut stored

-- a change stores an entry
abbrev pub is_store : Change → Bool
is_store (Prepares e ws) = true
is_store c = false

-- the change that was cut does
abbrev pub is_store_cut : {S : Type 0} {Next : S → Kept → Option Change → S → Type 0} {t : ℕ} {last : S} {mid left : Kept} {lines : List Line} → CutHere Next t last mid left lines → Bool
is_store_cut (InChange c next is cut free) = is_store c
is_store_cut (InQuestion same free) = false

-- an attempt counts as stored at a target where it was, or where the change that was cut might have
abbrev pub stored_if : Bool → ℕ → AttemptId → Stored
stored_if true t x = (t, x) ∷ []
stored_if false t x = []

-- blocks are accounted for where they went to such an attempt
pub one-space : (s : Script) (t : ℕ) (x : AttemptId) (stored : Stored) (old left n : ℕ) → old ≤ left + n → n ≡ blocks_at s t x → old + blocks_of_stored s t stored ≤ left + blocks_of_stored s t ((t, x) ∷ stored)
one-space s t x stored old left n low is = by (blocks_of_stored s t stored) (blocks_if (t == t) (blocks_at s t x)) (ap (λ b. blocks_if b (blocks_at s t x)) (same_number t))
  where
    by : (a b : ℕ) → b ≡ blocks_at s t x → old + a ≤ left + (b + a)
    by a b own = omega (arith, low, is, own)

-- what a step takes
abbrev pub TakesAtMost : ℕ → Option Change → Type 0
TakesAtMost need None = Unit {0}
TakesAtMost need (Some c) = ((is_store c ≡ false) × (cost c ≡ 0)) ⊎ ((is_store c ≡ true) × (cost c ≡ need))

-- a turn that stores at most one entry, which takes so many blocks, where by this stage so many were taken
module _ {S : Type 0} (Next : S → Kept → Option Change → S → Type 0) (need : ℕ) (taken : S → ℕ) (is_over : S → Bool) (takes : (s : S) (k : Kept) (c : Option Change) (u : S) → Next s k c u → TakesAtMost need c)
    (open' : (s : S) (k : Kept) (c : Option Change) (u : S) → Next s k c u → is_over s ≡ false) (none : (s : S) → is_over s ≡ false → taken s ≡ 0) (all : (s : S) → is_over s ≡ true → taken s ≡ need) where
  pub stored-space : (s : Script) (t : ℕ) (x : AttemptId) (stored : Stored) (last : S) (old mid left : Kept) (lines : List Line) → need ≡ blocks_at s t x → old.free ≤ mid.free + taken last → (here : CutHere Next t last mid left lines)
      → old.free + blocks_of_stored s t stored ≤ left.free + blocks_of_stored s t (stored_if (is_over last || is_store_cut here) t x ++ stored)
  stored-space s t x stored last old mid left lines is low (InQuestion same free) = by (is_over last) refl
    where
      by : (b : Bool) → is_over last ≡ b → old.free + blocks_of_stored s t stored ≤ left.free + blocks_of_stored s t (stored_if (b || false) t x ++ stored)
      by true over = one-space s t x stored old.free left.free need (sum (taken last) (all last over) low) is
        where
          sum : (n : ℕ) → n ≡ need → old.free ≤ mid.free + n → old.free ≤ left.free + need
          sum n e p = omega (arith, free, e, p)
      by false off = sum (taken last) (blocks_of_stored s t stored) (none last off) low
        where
          sum : (n b : ℕ) → n ≡ 0 → old.free ≤ mid.free + n → old.free + b ≤ left.free + b
          sum n b e p = omega (arith, free, e, p)
  stored-space s t x stored last old mid left lines is low (InChange c next step cut free) = subst (λ b. old.free + blocks_of_stored s t stored ≤ left.free + blocks_of_stored s t (stored_if (b || is_store c) t x ++ stored)) (sym early) (by (takes last mid (Some c) next step))
    where
      early : is_over last ≡ false
      early = open' last mid (Some c) next step

      before : old.free ≤ mid.free
      before = sum (taken last) (none last early) low
        where
          sum : (n : ℕ) → n ≡ 0 → old.free ≤ mid.free + n → old.free ≤ mid.free
          sum n e p = omega (arith, e, p)

      by : ((is_store c ≡ false) × (cost c ≡ 0)) ⊎ ((is_store c ≡ true) × (cost c ≡ need)) → old.free + blocks_of_stored s t stored ≤ left.free + blocks_of_stored s t (stored_if (is_store c) t x ++ stored)
      by (inl k) = subst (λ b. old.free + blocks_of_stored s t stored ≤ left.free + blocks_of_stored s t (stored_if b t x ++ stored)) (sym k.0) (sum (cost c) (blocks_of_stored s t stored) k.1 free)
        where
          sum : (n b : ℕ) → n ≡ 0 → mid.free ≤ left.free + n → old.free + b ≤ left.free + b
          sum n b e p = omega (arith, before, e, p)
      by (inr k) = subst (λ b. old.free + blocks_of_stored s t stored ≤ left.free + blocks_of_stored s t (stored_if b t x ++ stored)) (sym k.0) (one-space s t x stored old.free left.free (cost c) (sum (cost c) free) (k.1 ∙ is))
        where
          sum : (n : ℕ) → mid.free ≤ left.free + n → old.free ≤ left.free + n
          sum n p = omega (arith, before, p)

-- ---- Commits and Prepares

pub commit-takes : (t : TargetPlan) (opening : Epoch × FloorWhy) (m : TargetMemory) (reading : ℕ) (q : CommitRequest) (s : commit.CommitStage) (k : Kept) (c : Option Change) (u : commit.CommitStage) → commit.CommitNext t opening m reading q s k c u
    → TakesAtMost (blocks (commit.own_writes t q.writes)) c
commit-takes t opening m reading q s k c u (commit.HasEpoch j e is) = tt
commit-takes t opening m reading q s k c u (commit.ExtendsLease j e lease low is) = inl (refl, refl)
commit-takes t opening m reading q s k c u (commit.IsCovered j e low) = tt
commit-takes t opening m reading q s k c u (commit.Stores j e allowed space) = inr (refl, refl)

pub commit-open : (t : TargetPlan) (opening : Epoch × FloorWhy) (m : TargetMemory) (reading : ℕ) (q : CommitRequest) (s : commit.CommitStage) (k : Kept) (c : Option Change) (u : commit.CommitStage) → commit.CommitNext t opening m reading q s k c u → is_stored s ≡ false
commit-open t opening m reading q s k c u (commit.HasEpoch j e is) = refl
commit-open t opening m reading q s k c u (commit.ExtendsLease j e lease low is) = refl
commit-open t opening m reading q s k c u (commit.IsCovered j e low) = refl
commit-open t opening m reading q s k c u (commit.Stores j e allowed space) = refl

abbrev pub is_prepared_stage : prepare.PrepareStage → Bool
is_prepared_stage prepare.Heard = false
is_prepared_stage prepare.Checking = false
is_prepared_stage prepare.Stored = true

pub prepare-takes : (t : TargetPlan) (opening : Epoch × FloorWhy) (m : TargetMemory) (q : PrepareRequest) (s : prepare.PrepareStage) (k : Kept) (c : Option Change) (u : prepare.PrepareStage) → prepare.PrepareNext t opening m q s k c u → TakesAtMost (blocks q.writes) c
prepare-takes t opening m q s k c u (prepare.ExtendsLease j lease low is) = inl (refl, refl)
prepare-takes t opening m q s k c u (prepare.IsCovered j low) = tt
prepare-takes t opening m q s k c u (prepare.Stores j allowed space) = inr (refl, refl)

pub prepare-open : (t : TargetPlan) (opening : Epoch × FloorWhy) (m : TargetMemory) (q : PrepareRequest) (s : prepare.PrepareStage) (k : Kept) (c : Option Change) (u : prepare.PrepareStage) → prepare.PrepareNext t opening m q s k c u → is_prepared_stage s ≡ false
prepare-open t opening m q s k c u (prepare.ExtendsLease j lease low is) = refl
prepare-open t opening m q s k c u (prepare.IsCovered j low) = refl
prepare-open t opening m q s k c u (prepare.Stores j allowed space) = refl

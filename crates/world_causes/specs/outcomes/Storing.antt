-- Which turns of a target store an attempt's entry: those in which it hears its Commit or its Prepare, whole or cut.
use Rattle.std.specs.Prelude.{ℕ, ◌≡◌, ◌⊎◌, Bool, true, false, List, map, Option, Some, None, refl, if◌then◌else◌}
use Rattle.std.specs.Option.{option_map}
use Rattle.std.proofs.Common.{◌∙◌, ap, inl, inr}
use Rattle.base_types.specs.declared.entry.Verdict.{Verdict}
use Rattle.base_types.specs.declared.outcome.Outcome.{Outcome}
use Rattle.daos_model.specs.declared.durable.Version.{Version}
use Rattle.base_types.specs.declared.entry.Settle.{Settle}
use Rattle.base_types.specs.declared.entry.Settle.TheVariants.{Abort, Commit, Confirm, Forget}
use Rattle.base_types.specs.declared.epoch.Epoch.{Epoch}
use Rattle.base_types.specs.declared.id.AttemptId.{AttemptId}
use Rattle.base_types.specs.declared.id.ContId.{ContId}
use Rattle.base_types.specs.declared.outcome.FloorWhy.{FloorWhy}
use Rattle.base_types.specs.declared.outcome.FloorWhy.TheVariants.{Snapshot}
use Rattle.base_types.specs.declared.report.Line.{Line}
use Rattle.base_messages.specs.declared.actor.ActorId.{ActorId}
use Rattle.base_messages.specs.declared.message.Message.{Message, more_of-Message}
use Rattle.base_messages.specs.declared.message.Message.TheVariants as message
use Rattle.daos_model.specs.Changes.{committed_at, confirmed_at, created, frozen, marked, new_snap, pruned, raised_at, settled, with_versions}
use Rattle.daos_model.specs.Durables.{entry_of, is_frozen, same_attempt, snap_key}
use Rattle.daos_model.specs.EntryLaws.{same_attempt-itself}
use Rattle.daos_model.specs.Ordered.{put}
use Rattle.daos_model.specs.declared.durable.Durable.{Durable}
use Rattle.world_contents.specs.world_commit.attempts.Turning.{one-or_other}
use Rattle.world_base.specs.declared.did.Did.{Did}
use Rattle.world_base.specs.declared.request.CommitRequest.{CommitRequest}
use Rattle.world_base.specs.declared.request.FetchRequest.{FetchRequest}
use Rattle.world_base.specs.declared.request.PrepareRequest.{PrepareRequest}
use Rattle.world_base.specs.declared.target.TargetMemory.{TargetMemory}
use Rattle.world_base.specs.declared.target.TargetPlan.{TargetPlan}
use Rattle.world_base.specs.Acks as ack
use Rattle.world_base.specs.Changes.{Change, Creates, Cut, Extends, Freezes, IsPartly, Kept, Prepares, Prunes, Settles, Steps, After, Before, InPart, made}
use Rattle.world_base.specs.Commits as commit
use Rattle.world_base.specs.CutTurns as cuts
use Rattle.world_base.specs.EntryLaws.{entry-aborted, entry-aborted_other, entry-committed, entry-confirmed, entry-leased, entry-prepared_other}
use Rattle.world_base.specs.Further.{HearsFurther}
use Rattle.world_base.specs.Idle.{IdleNext, SettlesFirst}
use Rattle.world_base.specs.Marks.{MarkNext, SettlesMarked}
use Rattle.world_base.specs.PathLaws.{path-keeps, reached-keeps}
use Rattle.world_base.specs.Prepares as prepare
use Rattle.world_base.specs.Reads as read
use Rattle.world_base.specs.RightTurns.{HearsRightly}
use Rattle.world_base.specs.Snapshots as snap
use Rattle.world_base.specs.Roles.{is_in_doubt, is_prepared, told_by}
use Rattle.world_base.specs.Statuses.{AtOnce, Looking, Looks, NoChange, status_refusal}
use Rattle.world_base.specs.TargetTurns.{Hears, IdlesWhole, commit_request, fetch_request, prepare_request}
use Rattle.world_base.specs.Turns.{Reached}
use Rattle.world_base.specs.Verdicts as verdict

-- ---- changes

-- a change stores an attempt's entry
abbrev pub stores : AttemptId → Change → Bool
stores x (Prepares e ws) = same_attempt e.attempt x
stores x c = false

-- of an attempt nothing is kept
abbrev pub IsUnstored : AttemptId → Durable → Type 0
IsUnstored x d = entry_of d x ≡ None

aborted-none : (a : AttemptId) (d : Durable) (x : AttemptId) → IsUnstored x d → IsUnstored x (settled a Abort d)
aborted-none a d x none = by (one-or_other x a)
  where
    by : (x ≡ a) ⊎ (x ≡ a → ⊥) → entry_of (settled a Abort d) x ≡ None
    by (inl same) = ap (entry_of (settled a Abort d)) same ∙ entry-aborted a d
    by (inr off) = entry-aborted_other a d x off ∙ none

forgotten-none : (a : AttemptId) (d : Durable) (x : AttemptId) → entry_of (settled a Forget d) x ≡ entry_of (settled a Abort d) x
unfolding entry_of settled
forgotten-none a d x = refl

settled-none : (a : AttemptId) (s : Settle) (d : Durable) (x : AttemptId) → IsUnstored x d → IsUnstored x (settled a s d)
settled-none a Abort d x none = aborted-none a d x none
settled-none a Commit d x none = entry-committed a d x ∙ ap (option_map (committed_at a)) none
settled-none a (Confirm t) d x none = entry-confirmed a t d x ∙ ap (option_map (confirmed_at a t)) none
settled-none a Forget d x none = forgotten-none a d x ∙ aborted-none a d x none

-- snapshots and aggregation touch no entry
frozen-entry : (c : ContId) (s : Epoch) (d : Durable) (x : AttemptId) → entry_of (frozen c s d) x ≡ entry_of d x
unfolding entry_of frozen
frozen-entry c s d x = by (is_frozen d c s)
  where
    by : (b : Bool) → entry_of (if b then d else record d { conts = map (raised_at c s (Snapshot s)) d.conts; snaps = put snap_key (new_snap c s) d.snaps }) x ≡ entry_of d x
    by true = refl
    by false = refl

created-entry : (c : ContId) (s : Epoch) (d : Durable) (x : AttemptId) → entry_of (created c s d) x ≡ entry_of d x
unfolding entry_of created
created-entry c s d x = refl

marked-entry : (c : ContId) (upto : Epoch) (n : ℕ) (vs : List Version) (d : Durable) (x : AttemptId) → entry_of (with_versions vs (marked c upto n d)) x ≡ entry_of d x
unfolding entry_of with_versions marked
marked-entry c upto n vs d x = refl

pruned-entry : (c : ContId) (upto : Epoch) (n : ℕ) (d : Durable) (x : AttemptId) → entry_of (pruned c upto n d) x ≡ entry_of d x
unfolding entry_of pruned with_versions marked
pruned-entry c upto n d x = refl

pub made-unstored : (c : Change) (d : Durable) (x : AttemptId) → stores x c ≡ false → IsUnstored x d → IsUnstored x (made c d)
made-unstored (Extends ticks) d x off none = entry-leased ticks d x ∙ none
made-unstored (Prepares e ws) d x off none =
    entry-prepared_other e ws d x (λ same. let own : same_attempt e.attempt x ≡ true = ap (same_attempt e.attempt) same ∙ same_attempt-itself e.attempt in let no : ⊥ = cc (own, off) in no) ∙ none
made-unstored (Settles a s) d x off none = settled-none a s d x none
made-unstored (Freezes c s) d x off none = frozen-entry c s d x ∙ none
made-unstored (Creates c s) d x off none = created-entry c s d x ∙ none
made-unstored (Prunes c upto n) d x off none = pruned-entry c upto n d x ∙ none

partly-unstored : (c : Change) (d z : Durable) (x : AttemptId) → IsPartly c d z → IsUnstored x d → IsUnstored x z
partly-unstored (Prunes c upto n) d z x part none = ap (λ y. entry_of y x) part.2 ∙ marked-entry c upto n part.0 d x ∙ none
partly-unstored (Extends ticks) d z x part none = absurd part
partly-unstored (Prepares e ws) d z x part none = absurd part
partly-unstored (Settles a s) d z x part none = absurd part
partly-unstored (Freezes c s) d z x part none = absurd part
partly-unstored (Creates c s) d z x part none = absurd part

-- ---- turns

-- no step of a kind of turn stores an attempt's entry
abbrev pub StoresNot : {S : Type 0} → AttemptId → (S → Kept → Option Change → S → Type 0) → Type 0
StoresNot {S} x Next = (s : S) (k : Kept) (c : Change) (u : S) → Next s k (Some c) u → stores x c ≡ false

module _ {S : Type 0} (Next : S → Kept → Option Change → S → Type 0) (x : AttemptId) (not-stored : StoresNot x Next) where
  unstored-step : (s : S) (k : Kept) (o : Option Change) (u : S) (l : Kept) → Next s k o u → Steps o k l → IsUnstored x k.durable → IsUnstored x l.durable
  unstored-step s k None u l next same none = ap (λ z. entry_of z.durable x) same ∙ none
  unstored-step s k (Some c) u l next steps none = ap (λ d. entry_of d x) steps.0 ∙ made-unstored c k.durable x (not-stored s k c u next) none

  pub reached-unstored : (start : S) (old : Kept) (last : S) (new : Kept) → Reached Next start old last new → IsUnstored x old.durable → IsUnstored x new.durable
  reached-unstored start old last new reached none = reached-keeps Next (λ s k. IsUnstored x k.durable) unstored-step start old last new reached none

  -- where such a turn was cut, too
  pub cut-unstored : (issues : S → List (AttemptId × Epoch)) (t : ℕ) (start : S) (old : Kept) (cut : cuts.Cutting) → cuts.CutTurn Next issues t start old cut → IsUnstored x old.durable → IsUnstored x cut.left.durable
  cut-unstored issues t start old cut turn none = by turn.lines turn.here
    where
      mid : IsUnstored x turn.mid.durable
      mid = path-keeps Next (λ s k. IsUnstored x k.durable) unstored-step start old turn.did turn.last turn.mid turn.path none

      at-cut : (c : Change) → stores x c ≡ false → Cut c turn.mid.durable cut.left.durable → IsUnstored x cut.left.durable
      at-cut c off (Before same) = ap (λ d. entry_of d x) same ∙ mid
      at-cut c off (After same) = ap (λ d. entry_of d x) same ∙ made-unstored c turn.mid.durable x off mid
      at-cut c off (InPart part) = partly-unstored c turn.mid.durable cut.left.durable x part mid

      by : (lines : List Line) → cuts.CutHere Next t turn.last turn.mid cut.left lines → IsUnstored x cut.left.durable
      by lines (cuts.InQuestion same free) = ap (λ d. entry_of d x) same ∙ mid
      by lines (cuts.InChange c next is cut' free) = at-cut c (not-stored turn.last turn.mid c next is) cut'

-- ---- kinds of turns

fetch-not : (x : AttemptId) (t : TargetPlan) (m : TargetMemory) (reading : ℕ) (q : FetchRequest) → StoresNot x (read.FetchNext t m reading q)
fetch-not x t m reading q s k c u (read.ExtendsLease k2 e lease lt covers) = refl
fetch-not x t m reading q s k c u (read.SettlesOwn k2 e decided a free unsettled among) = refl

commit-not : (x : AttemptId) (t : TargetPlan) (opening : Epoch × FloorWhy) (m : TargetMemory) (reading : ℕ) (q : CommitRequest) → same_attempt q.attempt x ≡ false → StoresNot x (commit.CommitNext t opening m reading q)
commit-not x t opening m reading q off s k c u (commit.ExtendsLease k2 e lease lt covers) = refl
commit-not x t opening m reading q off s k c u (commit.Stores k2 e allowed space) = off

prepare-not : (x : AttemptId) (t : TargetPlan) (opening : Epoch × FloorWhy) (m : TargetMemory) (q : PrepareRequest) → same_attempt q.entry.attempt x ≡ false → StoresNot x (prepare.PrepareNext t opening m q)
prepare-not x t opening m q off s k c u (prepare.ExtendsLease k2 lease lt covers) = refl
prepare-not x t opening m q off s k c u (prepare.Stores k2 allowed space) = off

ack-not : (x : AttemptId) (t : TargetPlan) (m : TargetMemory) (member : ℕ) (a : AttemptId) (inc : ℕ) (refusal : Option Outcome) → StoresNot x (ack.AckNext t m member a inc refusal)
ack-not x t m member a inc refusal s k c u (ack.Aborts k2 on) = refl

mark-not : (x : AttemptId) (is_due : AttemptId → Durable → Bool) → StoresNot x (MarkNext is_due)
mark-not x is_due s k c u (SettlesMarked k2 a committed rest is) = refl

marked-not : (x : AttemptId) (t : TargetPlan) (m : TargetMemory) (member : ℕ) → StoresNot x (ack.MarkedNext t m member)
marked-not x t m member s k c u (ack.Confirms k2 a rest is) = refl

query-not : (x : AttemptId) → StoresNot x verdict.QueryNext
query-not x s k c u next = none s k (Some c) u next refl
  where
    none : (s : verdict.QueryStage) (k : Kept) (o : Option Change) (u : verdict.QueryStage) → verdict.QueryNext s k o u → o ≡ Some c → stores x c ≡ false
    none s k o u (verdict.Answers k2) same = let no : ⊥ = cc in absurd no

settling-not : (x : AttemptId) (is_due : AttemptId → Durable → Bool) (a : AttemptId) (v : Verdict) (c : Change) (d : Durable) → Some c ≡ verdict.settling_change a (verdict.settles_by is_due v a d) → stores x c ≡ false
settling-not x is_due a v c d same = by (verdict.settles_by is_due v a d) same
  where
    by : (o : Option Settle) → Some c ≡ verdict.settling_change a o → stores x c ≡ false
    by None is = let no : ⊥ = cc in absurd no
    by (Some step) is = let one : c ≡ Settles a step = cc in ap (stores x) one

verdict-not : (x : AttemptId) (is_due : AttemptId → Durable → Bool) (t : TargetPlan) (m : TargetMemory) (reading : ℕ) (a : AttemptId) (ask : Option AttemptId) (v : Verdict) → StoresNot x (verdict.VerdictNext is_due t m reading a ask v)
verdict-not x is_due t m reading a ask v s k c u (verdict.SettlesBy k2 o says) = settling-not x is_due a v c k.durable says
verdict-not x is_due t m reading a ask v s k c u (verdict.GoesOn k2 n posts rest q f g o next) = fetch-not x t n reading q f k c g next

idle-not : (x : AttemptId) → StoresNot x IdleNext
idle-not x s k c u (SettlesFirst k2 a rest) = refl

looks-not : (x : AttemptId) → StoresNot x NoChange
looks-not x s k c u next = none s k (Some c) u next refl
  where
    none : (s : AtOnce) (k : Kept) (o : Option Change) (u : AtOnce) → NoChange s k o u → o ≡ Some c → stores x c ≡ false
    none s k o u (Looks k2) same = let no : ⊥ = cc in absurd no

freeze-not : (x : AttemptId) (p : TargetPlan) (m : TargetMemory) (reading : ℕ) (tracker : Epoch) (ep : Option Epoch) (f : ContId) (alone : Bool) → StoresNot x (snap.FreezeNext p m reading tracker ep f alone)
freeze-not x p m reading tracker ep f alone s k c u (snap.ExtendsLease k2 e lease lt covers) = refl
freeze-not x p m reading tracker ep f alone s k c u (snap.FreezesIt k2 e free off) = refl
freeze-not x p m reading tracker ep f alone s k c u (snap.CreatesIt k2 e lines is) = refl

held-not : (x : AttemptId) (p : TargetPlan) (m : TargetMemory) (from : ℕ) (y : AttemptId) (refusal : Option Outcome) → StoresNot x (snap.HeldNext p m from y refusal)
held-not x p m from y refusal s k c u (snap.CreatesIt k2 col name ok found named last) = refl

prune-not : (x : AttemptId) (p : TargetPlan) (m : TargetMemory) (reading : ℕ) (tracker : Epoch) (ep : Option Epoch) (f : ContId) (number : ℕ) → StoresNot x (snap.PruneNext p m reading tracker ep f number)
prune-not x p m reading tracker ep f number s k c u (snap.ExtendsLease k2 g lease lt covers) = refl
prune-not x p m reading tracker ep f number s k c u (snap.SettlesFirst k2 g a rest) = refl
prune-not x p m reading tracker ep f number s k c u (snap.PrunesIt k2 g due) = refl

-- ---- what is heard

-- a message by which an attempt's entry is stored
abbrev pub is_stored_by : AttemptId → Message → Bool
is_stored_by x (message.Commit y ep first tracker ws) = same_attempt y x
is_stored_by x (message.Prepare e first ws inc) = same_attempt e.attempt x
is_stored_by x m = false

module _ (x : AttemptId) (t : TargetPlan) (opening : Epoch × FloorWhy) (m : TargetMemory) (reading : ℕ) (from : ActorId) (old : Kept) (none : IsUnstored x old.durable) where
  pub hears-unstored : (q : Message) (new : Kept) (left : TargetMemory × Did) → is_stored_by x q ≡ false → Hears t opening m reading from q old new left → IsUnstored x new.durable
  hears-unstored (message.Fetch y op group ep first tracker r snapshot) new left off h =
      reached-unstored (read.FetchNext t m reading q) x (fetch-not x t m reading q) read.Asked old h.last new h.reached none
    where
      q : FetchRequest
      q = fetch_request y op group ep first tracker r snapshot
  hears-unstored (message.Commit y ep first tracker ws) new left off h =
      reached-unstored (commit.CommitNext t opening m reading q) x (commit-not x t opening m reading q off) commit.Asked old h.last new h.reached none
    where
      q : CommitRequest
      q = commit_request y ep first tracker ws
  hears-unstored (message.Prepare e first ws inc) new left off h =
      reached-unstored (prepare.PrepareNext t opening m q) x (prepare-not x t opening m q off) prepare.Heard old h.last new h.reached none
    where
      q : PrepareRequest
      q = prepare_request e first ws inc
  hears-unstored (message.Ack y inc refusal) new left off h = reached-unstored (ack.AckNext t m from.number y inc refusal) x (ack-not x t m from.number y inc refusal) ack.Heard old h.last new h.reached none
  hears-unstored (message.Mark inc marks) new left off h = reached-unstored (MarkNext is_prepared) x (mark-not x is_prepared) marks old h.last new h.reached none
  hears-unstored (message.Marked inc ids) new left off h = reached-unstored (ack.MarkedNext t m from.number) x (marked-not x t m from.number) (ack.to_confirm inc ids old.durable) old h.last new h.reached none
  hears-unstored (message.Query y ask) new left off h = reached-unstored verdict.QueryNext x (query-not x) verdict.IsAsked old h.last new h.reached none
  hears-unstored (message.Verdict y ask inc v) new left off h =
      reached-unstored (verdict.VerdictNext is_prepared t (told_by v y m) reading y ask v) x (verdict-not x is_prepared t (told_by v y m) reading y ask v) verdict.Heard old h.last new h.reached none
  hears-unstored q new left off h = absurd h

  pub rightly-unstored : (q : Message) (new : Kept) (left : TargetMemory × Did) → is_stored_by x q ≡ false → HearsRightly t opening m reading from q old new left → IsUnstored x new.durable
  rightly-unstored (message.Mark inc marks) new left off h = reached-unstored (MarkNext (is_in_doubt t.me)) x (mark-not x (is_in_doubt t.me)) marks old h.last new h.reached none
  rightly-unstored (message.Verdict y ask inc v) new left off h =
      reached-unstored (verdict.VerdictNext (is_in_doubt t.me) t m reading y ask v) x (verdict-not x (is_in_doubt t.me) t m reading y ask v) verdict.Heard old h.last new h.reached none
  rightly-unstored (message.Fetch y op group ep first tracker r snapshot) new left off h = hears-unstored (message.Fetch y op group ep first tracker r snapshot) new left off h
  rightly-unstored (message.Commit y ep first tracker ws) new left off h = hears-unstored (message.Commit y ep first tracker ws) new left off h
  rightly-unstored (message.Prepare e first ws inc) new left off h = hears-unstored (message.Prepare e first ws inc) new left off h
  rightly-unstored (message.Ack y inc refusal) new left off h = hears-unstored (message.Ack y inc refusal) new left off h
  rightly-unstored (message.Marked inc ids) new left off h = hears-unstored (message.Marked inc ids) new left off h
  rightly-unstored (message.Query y ask) new left off h = hears-unstored (message.Query y ask) new left off h
  rightly-unstored q new left off h = absurd h

  pub idles-unstored : (settling : Bool) (new : Kept) (left : TargetMemory × Did) → IdlesWhole settling t m old new left → IsUnstored x new.durable
  idles-unstored settling new left h = reached-unstored IdleNext x (idle-not x) m.leader.decided old h.last new h.reached none

  -- and of what comes after stops, or makes snapshots and aggregates, only a Commit stores one
  pub further-unstored : (number : ℕ) (q : Message) (new : Kept) (left : TargetMemory × Did) → is_stored_by x q ≡ false → HearsFurther number t opening m reading from q old new left → IsUnstored x new.durable
  further-unstored number (message.Commit y ep first tracker ws) new left off h =
      reached-unstored (commit.CommitNext t opening m reading q) x (commit-not x t opening m reading q off) commit.Asked old h.last new h.reached none
    where
      q : CommitRequest
      q = commit_request y ep first tracker ws
  further-unstored number (message.Ask y) new left off h = reached-unstored NoChange x (looks-not x) Looking old h.last new h.reached none
  further-unstored number (message.Status y inc) new left off h = reached-unstored NoChange x (looks-not x) Looking old h.last new h.reached none
  further-unstored number (message.StatusIs y inc how) new left off h =
      reached-unstored (ack.AckNext t m from.number y inc (status_refusal y how)) x (ack-not x t m from.number y inc (status_refusal y how)) ack.Heard old h.last new h.reached none
  further-unstored number (message.Snap y c called tracker) new left off h =
      reached-unstored (snap.FreezeNext t m reading tracker None c (snap.is_held_by_all t 0)) x (freeze-not x t m reading tracker None c (snap.is_held_by_all t 0)) snap.Asked old h.last new h.reached none
  further-unstored number (message.Freeze y c s) new left off h = reached-unstored (snap.FreezeNext t m reading s (Some s) c false) x (freeze-not x t m reading s (Some s) c false) snap.Asked old h.last new h.reached none
  further-unstored number (message.Held y refusal) new left off h = reached-unstored (snap.HeldNext t m from.number y refusal) x (held-not x t m from.number y refusal) snap.Heard old h.last new h.reached none
  further-unstored number (message.Prune y c (Some tracker) None) new left off h =
      reached-unstored (snap.PruneNext t m reading tracker None c number) x (prune-not x t m reading tracker None c number) snap.Asked old h.last new h.reached none
  further-unstored number (message.Prune y c None (Some g)) new left off h = reached-unstored (snap.PruneNext t m reading g (Some g) c number) x (prune-not x t m reading g (Some g) c number) snap.Asked old h.last new h.reached none
  further-unstored number (message.Reset' by down place (more_of-Message asked rest)) new left off h = reached-unstored NoChange x (looks-not x) Looking old h.last new h.reached none
  further-unstored number q new left off h = absurd h

-- ---- cuts

unstored-next : (x : AttemptId) (t : TargetPlan) (opening : Epoch × FloorWhy) (m : TargetMemory) (reading : ℕ) (q : CommitRequest) → same_attempt q.attempt x ≡ false → StoresNot x (cuts.UnstoredNext t opening m reading q)
unstored-next x t opening m reading q off s k c u (cuts.Before s2 next k2 o is later) = commit-not x t opening m reading q off s k c u is

module _ (x : AttemptId) (t : TargetPlan) (opening : Epoch × FloorWhy) (m : TargetMemory) (reading number : ℕ) (from : ActorId) (old : Kept) (cut : cuts.Cutting) (none : IsUnstored x old.durable) where
  commit-cut : (q : CommitRequest) → same_attempt q.attempt x ≡ false → cuts.CommitIsCut t opening m reading q old cut → IsUnstored x cut.left.durable
  commit-cut q off (cuts.NoneIsDown up turn) = cut-unstored (commit.CommitNext t opening m reading q) x (commit-not x t opening m reading q off) (cuts.issued_by_commit q) t.me commit.Asked old cut turn none
  commit-cut q off (cuts.OneIsDown e down is turn) = cut-unstored (cuts.UnstoredNext t opening m reading q) x (unstored-next x t opening m reading q off) (cuts.issued_by_commit q) t.me commit.Asked old cut turn none

  pub hearing-cut : (q : Message) → is_stored_by x q ≡ false → cuts.HearingIsCut is_prepared number t opening m reading from q old cut → IsUnstored x cut.left.durable
  hearing-cut (message.Fetch y op group ep first tracker r snapshot) off turn =
      cut-unstored (read.FetchNext t m reading q) x (fetch-not x t m reading q) (cuts.issued_by_fetch q) t.me read.Asked old cut turn none
    where
      q : FetchRequest
      q = fetch_request y op group ep first tracker r snapshot
  hearing-cut (message.Commit y ep first tracker ws) off turn = commit-cut (commit_request y ep first tracker ws) off turn
  hearing-cut (message.Prepare e first ws inc) off turn = cut-unstored (prepare.PrepareNext t opening m (prepare_request e first ws inc)) x (prepare-not x t opening m (prepare_request e first ws inc) off) cuts.none_issued t.me prepare.Heard old cut turn none
  hearing-cut (message.Ack y inc refusal) off turn = cut-unstored (ack.AckNext t m from.number y inc refusal) x (ack-not x t m from.number y inc refusal) cuts.none_issued t.me ack.Heard old cut turn none
  hearing-cut (message.StatusIs y inc how) off turn =
      cut-unstored (ack.AckNext t m from.number y inc (status_refusal y how)) x (ack-not x t m from.number y inc (status_refusal y how)) cuts.none_issued t.me ack.Heard old cut turn none
  hearing-cut (message.Mark inc marks) off turn = cut-unstored (MarkNext is_prepared) x (mark-not x is_prepared) cuts.none_issued t.me marks old cut turn none
  hearing-cut (message.Marked inc ids) off turn = cut-unstored (ack.MarkedNext t m from.number) x (marked-not x t m from.number) cuts.none_issued t.me (ack.to_confirm inc ids old.durable) old cut turn none
  hearing-cut (message.Verdict y ask inc v) off turn =
      cut-unstored (verdict.VerdictNext is_prepared t (told_by v y m) reading y ask v) x (verdict-not x is_prepared t (told_by v y m) reading y ask v) cuts.none_issued t.me verdict.Heard old cut turn none
  hearing-cut (message.Snap y c name tracker) off turn =
      cut-unstored (snap.FreezeNext t m reading tracker None c (snap.is_held_by_all t 0)) x (freeze-not x t m reading tracker None c (snap.is_held_by_all t 0)) (cuts.issued_by_freeze y None) t.me snap.Asked old cut turn none
  hearing-cut (message.Freeze y c s) off turn = cut-unstored (snap.FreezeNext t m reading s (Some s) c false) x (freeze-not x t m reading s (Some s) c false) (cuts.issued_by_freeze y (Some s)) t.me snap.Asked old cut turn none
  hearing-cut (message.Held y refusal) off turn = cut-unstored (snap.HeldNext t m from.number y refusal) x (held-not x t m from.number y refusal) cuts.none_issued t.me snap.Heard old cut turn none
  hearing-cut (message.Prune y c (Some tracker) None) off turn =
      cut-unstored (snap.PruneNext t m reading tracker None c number) x (prune-not x t m reading tracker None c number) (cuts.issued_by_prune y None) t.me snap.Asked old cut turn none
  hearing-cut (message.Prune y c None (Some g)) off turn = cut-unstored (snap.PruneNext t m reading g (Some g) c number) x (prune-not x t m reading g (Some g) c number) (cuts.issued_by_prune y (Some g)) t.me snap.Asked old cut turn none
  hearing-cut (message.Query y ask) off turn = cut-unstored verdict.QueryNext x (query-not x) cuts.none_issued t.me verdict.IsAsked old cut turn none
  hearing-cut (message.Ask y) off turn = cut-unstored NoChange x (looks-not x) cuts.none_issued t.me Looking old cut turn none
  hearing-cut (message.Status y inc) off turn = cut-unstored NoChange x (looks-not x) cuts.none_issued t.me Looking old cut turn none
  hearing-cut (message.Reset' by down place asked) off turn = cut-unstored NoChange x (looks-not x) cuts.none_issued t.me Looking old cut turn none
  hearing-cut q off turn = absurd turn

  pub idling-cut : cuts.IdleWorkIsCut t.me m old cut → IsUnstored x cut.left.durable
  idling-cut turn = cut-unstored IdleNext x (idle-not x) cuts.none_issued t.me m.leader.decided old cut turn none

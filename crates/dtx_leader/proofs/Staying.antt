-- A Reset changes what a leader remembers, and nothing else of it.
use Rattle.std.proofs.Common.{◌≡◌, ◌∙◌, ℕ, Bool, true, false, List, [], ◌∷◌, Option, Some, None, Result, Ok, Err, refl, ap, sym}
use Rattle.std.specs.Prelude.{◌==◌, IfOk, if◌then◌else◌}
use Rattle.base_types.specs.declared.entry.Entry.{Entry}
use Rattle.base_types.specs.declared.id.AttemptId.{AttemptId}
use Rattle.base_messages.specs.declared.message.Message.{Message}
use Rattle.base_messages.specs.declared.message.Message.TheVariants as message
use Rattle.base_messages.specs.declared.message.Post.{Post}
use Rattle.dtx_base.specs.declared.leading.LeaderMemory.{LeaderMemory}
use Rattle.dtx_base.specs.declared.leading.Undecided.{Undecided}
use Rattle.dtx_base.specs.Leading.{LeaderOf, LeaderStep, down_told, entry_led, knowing, mark_reset, prepare_reset, quietly, reset_heard, reset_of, status_asked, step_of, to_target, undecided_of}
use Rattle.dtx_table.specs.Seats.{came}

-- a step after which the leader is the same but for what it remembers
abbrev pub StaysButMemory : LeaderOf → LeaderStep → Type 0
StaysButMemory l s = s.leader ≡ record l { memory = s.leader.memory }

down-stays : (t : ℕ) (a : AttemptId) (e : Option Entry) (u : Option Undecided) (l : LeaderOf) → StaysButMemory l (down_told t a e u l)
down-stays t a None u l = refl
down-stays t a (Some e) None l = refl
down-stays t a (Some e) (Some u) l = refl

status-stays : (t : ℕ) (a : AttemptId) (inc : ℕ) (l : LeaderOf) → StaysButMemory l (status_asked t a inc l)
status-stays t a inc l = elim (inc == l.incarnation) as (λ b. StaysButMemory l (if b then record { leader = l; posts = to_target t (message.Status a inc) ∷ [] } else quietly l)) [ true ↦ refl | false ↦ refl ]

prepare-stays : (t : ℕ) (down : Bool) (a : AttemptId) (inc : ℕ) (l : LeaderOf) → StaysButMemory l (prepare_reset t down a inc l)
unfolding prepare_reset
prepare-stays t true a inc l = down-stays t a (entry_led a l) (undecided_of a l) l
prepare-stays t false a inc l = status-stays t a inc l

mark-stays : (t : ℕ) (down : Bool) (inc : ℕ) (marks : List (AttemptId × Bool)) (l : LeaderOf) → StaysButMemory l (mark_reset t down inc marks l)
unfolding mark_reset
mark-stays t true inc marks l = refl
mark-stays t false inc marks l = refl

of-stays : (t : ℕ) (down : Bool) (m : Message) (l : LeaderOf) → StaysButMemory l (reset_of t down m l)
of-stays t down (message.Prepare e first ws inc) l = prepare-stays t down e.attempt inc l
of-stays t down (message.Status a inc) l = prepare-stays t down a inc l
of-stays t down (message.Mark inc marks) l = mark-stays t down inc marks l
of-stays t down _ l = refl

known-stays : (t : ℕ) (down : Bool) (l : LeaderOf) (s : LeaderStep) → StaysButMemory l s → knowing t down s.leader ≡ record l { memory = (knowing t down s.leader).memory }
known-stays t true l s stays =
    let same : record s.leader { memory = (knowing t true s.leader).memory } ≡ record l { memory = (knowing t true s.leader).memory } = ap {A = LeaderOf} {B = LeaderOf} (λ k. record k { memory = (knowing t true s.leader).memory }) stays in same
known-stays t false l s stays = stays

pub reset-stays : (t : ℕ) (down : Bool) (m : Message) (l : LeaderOf) → StaysButMemory l (reset_heard t down m l)
reset-stays t down m l = known-stays t down l (reset_of t down m l) (of-stays t down m l)

-- what it remembers and what it sends tell the whole step
pub step-is : (l : LeaderOf) (s : LeaderStep) (m : LeaderMemory) (posts : List Post) → StaysButMemory l s → (m, posts) ≡ came s → step_of (record l { memory = m }) posts ≡ s
step-is l s m posts stays is =
    let told : step_of (record l { memory = m }) posts ≡ step_of (record l { memory = s.leader.memory }) s.posts = ap {A = LeaderMemory × List Post} {B = LeaderStep} (λ p. step_of (record l { memory = p.0 }) p.1) is in
    let kept : step_of (record l { memory = s.leader.memory }) s.posts ≡ step_of s.leader s.posts = ap {A = LeaderOf} {B = LeaderStep} (λ k. step_of k s.posts) (sym stays) in
    told ∙ kept

pub if-ok : {T E : Type 0} (result : Result T E) (P Q : T → Type 0) → ((x : T) → P x → Q x) → IfOk result P → IfOk result Q
if-ok (Ok x) P Q follows p = follows x p
if-ok (Err e) P Q follows p = tt

use Rattle.target_dtx.specs.world_ended.Asking.{Asked, EndsAsked, PostsGoWith}
use Rattle.target_dtx.specs.world_ended.PostLaws.{reset-members-end, resets-end}
use Rattle.target_dtx.specs.world_ended.TurnLaws.{and-more as ends-more, sent-by as ends-by}
-- What a Reset comes to.
use Rattle.std.proofs.Common.{ℕ, ◌≡◌, ◌∙◌, refl, sym, ap, subst, Bool, true, false, List, [], ◌∷◌, ◌++◌, Option, Some, None}
use Rattle.std.specs.Prelude.{◌==◌, if◌then◌else◌}
use Rattle.base_types.specs.declared.entry.Entry.{Entry}
use Rattle.base_types.specs.declared.id.AttemptId.{AttemptId}
use Rattle.model_laws.specs.Members.{Has, has-from_filter}
use Rattle.base_messages.specs.declared.message.Message.{Message}
use Rattle.base_messages.specs.declared.message.Message.TheVariants as message
use Rattle.base_messages.specs.declared.message.Post.{Post}
use Rattle.daos_model.specs.declared.durable.Durable.{Durable}
use Rattle.daos_model.specs.Durables.{same_attempt}
use Rattle.dtx_base.specs.declared.leading.LeaderMemory.{LeaderMemory}
use Rattle.dtx_base.specs.declared.leading.Undecided.{Undecided}
use Rattle.dtx_base.specs.declared.member.Freed.{Freed}
use Rattle.dtx_base.specs.declared.member.MemberMemory.{MemberMemory}
use Rattle.dtx_base.specs.declared.member.Parked.{Parked}
use Rattle.dtx_base.specs.Joining as member
use Rattle.dtx_base.specs.Joining.{MemberOf, MemberStep, is_not_waiting, member_step, unresolved}
use Rattle.dtx_base.specs.Leading.{LeaderOf, LeaderStep, answered, attempts_of, down_told, entry_led, knowing, mark_reset, naming, prepare_reset, quietly, reset_heard, reset_of, status_asked, to_target, undecided_of, unwaited_at}
use Rattle.dtx_resync.specs.dtx_table.Seats.{came}
use Rattle.world_base.specs.declared.did.Did.{Did}
use Rattle.world_base.specs.declared.target.TargetMemory.{TargetMemory}
use Rattle.world_base.specs.declared.target.TargetPlan.{TargetPlan}
use Rattle.world_base.specs.Changes.{Kept}
use Rattle.world_base.specs.Requests.{sends}
use Rattle.world_base.specs.Roles.{joins_on, leader_at, leads_on, member_at}
use Rattle.world_base.specs.Statuses.{reset_joins, reset_leads, reset_left}
use Rattle.target_parts.specs.world_contents.posts.AfterStops.{reset-members-post-in-form, resets-post-in-form}
use Rattle.target_parts.specs.world_contents.posts.Forms.{PostsInForm, TargetPosts}
use Rattle.target_parts.specs.world_contents.posts.Posting.{and-more, posted-by}
use Rattle.target_parts.specs.declared.knows.Knows.{Knows}
use Rattle.target_parts.specs.Knowing.{AreRowsOpen, IsHeard, IsOwn, LeadsWell, memory_of}
use Rattle.target_parts.specs.RowKeeping.{rows-mapped, rows-named}

-- ---- the leader

unwaited-same : (a : AttemptId) (u : Undecided) → (unwaited_at a u).attempt ≡ u.attempt
unwaited-same a u = elim (same_attempt u.attempt a) as (λ b. (if b then record u { client = None } else u).attempt ≡ u.attempt) [ true ↦ refl | false ↦ refl ]

module _ (me : ℕ) (d : Durable) (l : LeaderOf) (r : AreRowsOpen me l.memory d) where
  abbrev AreOpenAfter : LeaderStep → Type 0
  AreOpenAfter s = AreRowsOpen me s.leader.memory d

  down-rows : (t : ℕ) (a : AttemptId) (e : Option Entry) (u : Option Undecided) → AreOpenAfter (down_told t a e u l)
  down-rows t a None u = r
  down-rows t a (Some e) None = r
  down-rows t a (Some e) (Some u) = rows-mapped me l.memory d r (unwaited_at a) (unwaited-same a)

  status-rows : (t : ℕ) (a : AttemptId) (inc : ℕ) → AreOpenAfter (status_asked t a inc l)
  status-rows t a inc = elim (inc == l.incarnation) as (λ b. AreOpenAfter (if b then record { leader = l; posts = to_target t (message.Status a inc) ∷ [] } else quietly l)) [ true ↦ r | false ↦ r ]

  prepare-rows : (t : ℕ) (down : Bool) (a : AttemptId) (inc : ℕ) → AreOpenAfter (prepare_reset t down a inc l)
  unfolding prepare_reset
  prepare-rows t true a inc = down-rows t a (entry_led a l) (undecided_of a l)
  prepare-rows t false a inc = status-rows t a inc

  mark-rows : (t : ℕ) (down : Bool) (inc : ℕ) (marks : List (AttemptId × Bool)) → AreOpenAfter (mark_reset t down inc marks l)
  unfolding mark_reset
  mark-rows t true inc marks = rows-named me l.memory d r _
  mark-rows t false inc marks = rows-named me l.memory d r _

  of-rows : (t : ℕ) (down : Bool) (m : Message) → AreOpenAfter (reset_of t down m l)
  of-rows t down (message.Prepare e first ws inc) = prepare-rows t down e.attempt inc
  of-rows t down (message.Status a inc) = prepare-rows t down a inc
  of-rows t down (message.Mark inc marks) = mark-rows t down inc marks
  of-rows t down _ = r

-- which targets are down is nothing to the attempts
known-rows : (me : ℕ) (d : Durable) (t : ℕ) (down : Bool) (l : LeaderOf) → AreRowsOpen me l.memory d → AreRowsOpen me (knowing t down l).memory d
known-rows me d t true l r = record { order = r.order; decided = r.decided; undecided = r.undecided; apart = r.apart }
known-rows me d t false l r = r

reset-rows : (me : ℕ) (d : Durable) (t : ℕ) (down : Bool) (m : Message) (l : LeaderOf) → AreRowsOpen me l.memory d → AreRowsOpen me (reset_heard t down m l).leader.memory d
reset-rows me d t down m l r = known-rows me d t down (reset_of t down m l).leader (of-rows me d l r t down m)

-- ---- the member

-- fewer Fetches wait
pub record IsFreed (s n : MemberOf) : Type 0 where
  pub me : n.me ≡ s.me
  pub parked : (p : Parked) → Has p n.memory.parked → Has p s.memory.parked

unresolved-freed : (a x : AttemptId) (s : MemberOf) → IsFreed s (unresolved a x s).member
unfolding unresolved
unresolved-freed a x s = record { me = refl; parked = λ p i. (has-from_filter (is_not_waiting a x) s.memory.parked p i).0 }

reset-freed : (down : Bool) (m : Message) (s : MemberOf) → IsFreed s (member.reset_heard down m s).member
reset-freed down (message.Query a (Some x)) s = unresolved-freed a x s
reset-freed down (message.Query a None) s = record { me = refl; parked = λ p i. i }
reset-freed down _ s = record { me = refl; parked = λ p i. i }

pub freed-by : (down : Bool) (m : Message) (s n : MemberOf) (freed : Freed) → member_step n freed ≡ member.reset_heard down m s → IsFreed s n
freed-by down m s n freed is = subst (IsFreed s) (sym (ap (λ (x : MemberStep). x.member) is)) (reset-freed down m s)

pub nothing-freed : (s n : MemberOf) → n ≡ s → IsFreed s n
nothing-freed s n is = subst (IsFreed s) (sym is) (record { me = refl; parked = λ p i. i })

-- ---- the target

abbrev member_with : ℕ → MemberMemory → MemberOf
member_with me memory = record { me = me; memory = memory }

-- a target as a member, by what it knows
pub member-known : (t : TargetPlan) (k : Knows) → IsOwn t k → k.member ≡ member_at t (memory_of k)
member-known t k own = ap (λ x. member_with x k.member.memory) own.member

module _ (t : TargetPlan) (old new : Knows) (hlc : new.hlc ≡ old.hlc) (freed : IsFreed old.member new.member) where
  pub own-reset : IsOwn t old → IsOwn t new
  own-reset own = record {
    clock = ap (λ c. c.target) hlc ∙ own.clock;
    member = freed.me ∙ own.member;
    parked = λ p i. own.parked p (freed.parked p i);
  }

  pub leads-reset : (d : Durable) → AreRowsOpen t.me new.leader d → new.entries.items ≡ old.entries.items → LeadsWell t (memory_of old) old.entries.items d → LeadsWell t (memory_of new) new.entries.items d
  leads-reset d rows entries k = record {
    entries = entries ∙ k.entries;
    rows = rows;
    heard = subst (λ c. IsHeard c.ticks d) (sym hlc) k.heard;
    asks = λ p i. k.asks p (freed.parked p i);
  }

-- what was called of the leader fits
pub rows-by : (me : ℕ) (d : Durable) (t : ℕ) (down : Bool) (m : Message) (l : LeaderOf) (n : LeaderMemory) (posts : List Post) → ◌≡◌ {A = LeaderMemory × List Post} (n, posts) (came (reset_heard t down m l)) → AreRowsOpen me l.memory d → AreRowsOpen me n d
rows-by me d t down m l n posts is r = subst (λ x. AreRowsOpen me x d) (sym (ap (λ (p : LeaderMemory × List Post). p.0) is)) (reset-rows me d t down m l r)

-- what was called of both is the whole turn
pub reset-left_so : (t : TargetPlan) (m : TargetMemory) (by : ℕ) (down : Bool) (asked : Message) (k : Kept) (l : LeaderOf) (n : LeaderMemory) (posts : List Post) (s joined : MemberOf) (freed : Freed) (all : List Post)
    → l ≡ leader_at t m k.durable → ◌≡◌ {A = LeaderMemory × List Post} (n, posts) (came (reset_heard by down asked l)) → s ≡ member_at t m → member_step joined freed ≡ member.reset_heard down asked s → all ≡ posts ++ freed.posts
    → ◌≡◌ {A = TargetMemory × Did} (record m { leader = n; member = joined.memory }, sends all None) (reset_left t m by down asked k)
reset-left_so t m by down asked k l n posts s joined freed all leads came-so joins joined-so told =
    ap {A = List Post} {B = TargetMemory × Did} (λ ps. (record m { leader = n; member = joined.memory }, sends ps None)) told
    ∙ ap {A = LeaderMemory × List Post} {B = TargetMemory × Did} (λ p. (record m { leader = p.0; member = joined.memory }, sends (p.1 ++ freed.posts) None)) (came-so ∙ ap (λ z. came (reset_heard by down asked z)) leads)
    ∙ ap {A = MemberStep} {B = TargetMemory × Did} (λ z. (record m { leader = (reset_leads t m by down asked k).leader.memory; member = z.member.memory }, sends ((reset_leads t m by down asked k).posts ++ z.freed.posts) None))
    (joined-so ∙ ap (member.reset_heard down asked) joins)

-- and what is sent has its form
pub reset-posts : (targets by : ℕ) (down : Bool) (asked : Message) (l : LeaderOf) (n : LeaderMemory) (posts : List Post) (s joined : MemberOf) (freed : Freed) (all sent : List Post)
    → ◌≡◌ {A = LeaderMemory × List Post} (n, posts) (came (reset_heard by down asked l)) → member_step joined freed ≡ member.reset_heard down asked s → all ≡ posts ++ freed.posts → sent ≡ all
    → PostsInForm targets l.memory n sent
reset-posts targets by down asked l n posts s joined freed all sent came-so joined-so told is =
    subst (PostsInForm targets l.memory n) (sym (is ∙ told))
    (and-more targets l.memory n posts freed.posts (posted-by targets (reset_heard by down asked l) l.memory n n posts posts (resets-post-in-form targets by down asked l) came-so refl refl)
    (subst (TargetPosts targets) (sym (ap (λ (x : MemberStep). x.freed.posts) joined-so)) (reset-members-post-in-form targets down asked s)))

-- and ends as committed only what was asked
pub reset-ends : (asked : Asked) (by : ℕ) (down : Bool) (lost : Message) (l : LeaderOf) (n : LeaderMemory) (posts : List Post) (s joined : MemberOf) (freed : Freed) (all sent : List Post)
    → ◌≡◌ {A = LeaderMemory × List Post} (n, posts) (came (reset_heard by down lost l)) → member_step joined freed ≡ member.reset_heard down lost s → all ≡ posts ++ freed.posts → sent ≡ all
    → EndsAsked asked l.memory n sent
reset-ends asked by down lost l n posts s joined freed all sent came-so joined-so told is =
    subst (EndsAsked asked l.memory n) (sym (is ∙ told))
    (ends-more asked l.memory n posts freed.posts (ends-by asked (reset_heard by down lost l) l.memory n n posts posts (resets-end asked by down lost l) came-so refl refl)
    (subst (PostsGoWith asked) (sym (ap (λ (x : MemberStep). x.freed.posts) joined-so)) (reset-members-end asked down lost s)))

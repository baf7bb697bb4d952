-- A turn in which a target hears from another that an attempt is committed or aborted, or answers so, leaves what it keeps and serves
-- sound; and so does idle work.
use Rattle.std.specs.Prelude.{ℕ, ◌≡◌, Bool, true, false, List, [], ◌∷◌, map, Option, None, refl, if◌then◌else◌}
use Rattle.std.proofs.Common.{sym, ◌∙◌, ap, subst, inl, inr}
use Rattle.base_types.specs.declared.entry.Entry.{Entry}
use Rattle.base_types.specs.declared.id.AttemptId.{AttemptId}
use Rattle.model_laws.specs.Members.{Has, contains-from_has, has-cases, has-from_map}
use Rattle.base_messages.specs.declared.actor.ActorId.{ActorId}
use Rattle.base_messages.specs.declared.message.Message.{Message}
use Rattle.base_messages.specs.declared.message.Message.TheVariants as message
use Rattle.daos_model.specs.declared.durable.Durable.{Durable}
use Rattle.daos_model.specs.declared.durable.Version.{Version}
use Rattle.daos_model.specs.Changes.{settled}
use Rattle.daos_model.specs.Opening.{Opening}
use Rattle.world_commit.specs.dtx_base.declared.leading.Naming.{Naming}
use Rattle.world_commit.specs.dtx_base.Joining as member
use Rattle.world_commit.specs.dtx_base.Leading.{batched, commit_mark, mark_with, marked_heard, marks_for, owed, to_target}
use Rattle.world_commit.specs.dtx_base.Members.{all_targets}
use Rattle.world_commit.specs.dtx_base.Rows.{is_empty}
use Rattle.world_commit.specs.attempts.History.{History}
use Rattle.world_commit.specs.world_base.declared.did.Did.{Did}
use Rattle.world_commit.specs.world_base.declared.target.TargetMemory.{TargetMemory}
use Rattle.world_commit.specs.world_base.declared.target.TargetPlan.{TargetPlan}
use Rattle.world_commit.specs.world_base.declared.target.TargetState.{TargetState}
use Rattle.world_commit.specs.world_base.declared.world.World.{World}
use Rattle.world_commit.specs.world_base.Events.{Rules, kept, target_plan}
use Rattle.world_contents.specs.reads.Adds.{NoneIs, is_end}
use Rattle.world_contents.specs.reads.Beginning.{TurnBegins}
use Rattle.world_contents.specs.reads.ChangeLaws.{WasDecided}
use Rattle.world_contents.specs.reads.CommitLaws.{leaves-quiet, only-one}
use Rattle.world_contents.specs.reads.Midway.{Sound, TurnLeaves}
use Rattle.world_contents.specs.reads.StepLaws.{aborts-sound, commits-sound, confirms-sound}
use Rattle.world_commit.specs.world_base.Acks as ack
use Rattle.world_commit.specs.world_base.Changes.{Change, Kept, Steps}
use Rattle.world_commit.specs.world_base.Idle as idle
use Rattle.world_commit.specs.world_base.Marks as mark
use Rattle.world_commit.specs.world_base.PathLaws.{reached-keeps}
use Rattle.world_commit.specs.world_base.Roles.{is_in_doubt, leader_at, member_at, with_unsettled}
use Rattle.world_commit.specs.world_base.TargetTurns.{IdlesWhole}
use Rattle.world_commit.specs.world_base.Turns.{Whole}
use Rattle.world_commit.specs.world_base.Verdicts as verdict

-- what idle work sends is no answer and no end
mark-plain : (test : Message → Bool) (inc down : ℕ) (named : List Naming) (es : List Entry) (ts : List ℕ) → ((inc n : ℕ) (marks : List (AttemptId × Bool)) → test (to_target n (message.Mark inc marks)).message ≡ false) → NoneIs test (marks_for inc down named es ts)
mark-plain test inc down named es [] off p i = absurd i
mark-plain test inc down named es (n ∷ ts) off p i = elim (has-cases (mark_with inc n (owed down named es n)) (marks_for inc down named es ts) p i) [
  | inl j ↦ one (is_empty (owed down named es n)) j
  | inr j ↦ mark-plain test inc down named es ts off p j
]
  where
    one : (none : Bool) → Has p (if none then [] else to_target n (message.Mark inc (map commit_mark (owed down named es n))) ∷ []) → test p.message ≡ false
    one true j = absurd j
    one false (inl same) = ap (λ q. test q.message) same ∙ off inc n (map commit_mark (owed down named es n))
    one false (inr j) = absurd j

inquiries-plain : (test : Message → Bool) (es : List Entry) → ((n : ℕ) (x : AttemptId) → test (to_target n (message.Query x None)).message ≡ false) → NoneIs test (map member.inquiry_for es)
inquiries-plain test es off p i = let z = has-from_map member.inquiry_for es p i in ap (λ q. test q.message) (sym z.2) ∙ off z.0.leader z.0.attempt

idle-plain : (test : Message → Bool) (settling : Bool) (t : TargetPlan) (n : TargetMemory) (d : Durable) → ((inc n : ℕ) (marks : List (AttemptId × Bool)) → test (to_target n (message.Mark inc marks)).message ≡ false)
    → ((n : ℕ) (x : AttemptId) → test (to_target n (message.Query x None)).message ≡ false) → NoneIs test (idle.idle_told settling t n d).posts
unfolding batched member.inquired
idle-plain test settling t n d marks queries p i = elim (has-cases (idle.batch_of t n d).posts (idle.inquiry_of settling t n d).freed.posts p i) [
  | inl j ↦ mark-plain test d.incarnation n.leader.down n.leader.named (leader_at t (with_unsettled [] n) d).entries all_targets marks p j
  | inr j ↦ asked settling j
]
  where
    asked : (settling : Bool) → Has p (idle.inquiry_of settling t n d).freed.posts → test p.message ≡ false
    asked false j = absurd j
    asked true j = inquiries-plain test (member.to_inquire d.entries (member_at t n)) queries p j

-- what is said of an attempt is so: it was decided, or it wasn't
abbrev pub IsFateRight : History → AttemptId → Bool → Type 0
IsFateRight h a true = WasDecided h a
IsFateRight h a false = WasDecided h a → ⊥

module _ (r : Rules) (o : Opening) (held : List Version) (h : History) (w : World) (t : ℕ) (s : TargetState) (b : TurnBegins r o held h w t s) where
  abbrev pub SoundAt : Durable → Type 0
  SoundAt d = Sound r o held h h.served s.opening t d s.memory.stamps

  -- ---- a Mark

  settles-so : (d : Durable) (a : AttemptId) (committed : Bool) → IsFateRight h a committed → SoundAt d → SoundAt (settled a (mark.marked_step committed) d)
  settles-so d a true fate k = commits-sound r o held h h.served s.opening t s.memory.stamps d a fate k
  settles-so d a false fate k = aborts-sound r o held h h.served s.opening t s.memory.stamps d a fate k

  -- what is left of a Mark is right
  abbrev pub MarkMid : List (AttemptId × Bool) → Kept → Type 0
  MarkMid left k = SoundAt k.durable × ((a : AttemptId) (c : Bool) → Has (a, c) left → IsFateRight h a c)

  pub mark-step : (is_due : AttemptId → Durable → Bool) (g : List (AttemptId × Bool)) (k : Kept) (c : Option Change) (u : List (AttemptId × Bool)) (l : Kept) → mark.MarkNext is_due g k c u → Steps c k l → MarkMid g k → MarkMid u l
  mark-step is_due g k c u l (mark.SettlesMarked k' a committed rest is) steps p = (subst SoundAt (sym steps.0) (settles-so k.durable a committed (p.1 a committed (inl refl)) p.0), λ x d i. p.1 x d (inr i))
  mark-step is_due g k c u l (mark.PassesBy k' a committed rest is) steps p = (subst (λ n. SoundAt n.durable) (sym steps) p.0, λ x d i. p.1 x d (inr i))

  mark-ends : (from : ActorId) (inc : ℕ) (marks : List (AttemptId × Bool)) (m : Message) (g : List (AttemptId × Bool)) (k : Kept) (left : TargetMemory × Did) → mark.MarkEnds s.memory from inc marks g k left → MarkMid g k
      → TurnLeaves r o held h w s.opening t m s.memory.member.parked k left
  mark-ends from inc marks m g k left (mark.AllMarked k' z is) p =
      subst (TurnLeaves r o held h w s.opening t m s.memory.member.parked k) (sym is) (leaves-quiet r o held h w t s b m k _ _ refl (only-one r o held h w t s b _ refl) refl p.0)

  pub mark-sound : (from : ActorId) (inc : ℕ) (marks : List (AttemptId × Bool)) (m : Message) → ((a : AttemptId) (c : Bool) → Has (a, c) marks → IsFateRight h a c) → (new : Kept) (left : TargetMemory × Did)
      → Whole (mark.MarkNext (is_in_doubt t)) (mark.MarkEnds s.memory from inc marks) marks (kept s) new left → TurnLeaves r o held h w s.opening t m s.memory.member.parked new left
  mark-sound from inc marks m fate new left turn =
      mark-ends from inc marks m turn.last new left turn.ends (reached-keeps (mark.MarkNext (is_in_doubt t)) MarkMid (mark-step (is_in_doubt t)) marks (kept s) turn.last new turn.reached (b.sound, fate))

  -- ---- a Marked

  pub marked-step : (from : ℕ) (g : List AttemptId) (k : Kept) (c : Option Change) (u : List AttemptId) (l : Kept) → ack.MarkedNext (target_plan r t) s.memory from g k c u → Steps c k l → SoundAt k.durable → SoundAt l.durable
  marked-step from g k c u l (ack.Confirms k' a rest is) steps p = subst SoundAt (sym steps.0) (confirms-sound r o held h h.served s.opening t s.memory.stamps k.durable a from p)
  marked-step from g k c u l (ack.PassesBy k' a rest is) steps p = subst (λ n. SoundAt n.durable) (sym steps) p

  marked-ends : (from inc : ℕ) (ids : List AttemptId) (m : Message) (g : List AttemptId) (k : Kept) (left : TargetMemory × Did) → ack.MarkedEnds (target_plan r t) s.memory from inc ids g k left → SoundAt k.durable
      → TurnLeaves r o held h w s.opening t m s.memory.member.parked k left
  unfolding marked_heard
  marked-ends from inc ids m g k left (ack.AllConfirmed k' z is) p =
      subst (TurnLeaves r o held h w s.opening t m s.memory.member.parked k) (sym is) (leaves-quiet r o held h w t s b m k _ _ refl (λ q i. absurd i) refl p)

  pub marked-sound : (from inc : ℕ) (ids : List AttemptId) (m : Message) (new : Kept) (left : TargetMemory × Did)
      → Whole (ack.MarkedNext (target_plan r t) s.memory from) (ack.MarkedEnds (target_plan r t) s.memory from inc ids) (ack.to_confirm inc ids s.durable) (kept s) new left
      → TurnLeaves r o held h w s.opening t m s.memory.member.parked new left
  marked-sound from inc ids m new left turn =
      marked-ends from inc ids m turn.last new left turn.ends
      (reached-keeps (ack.MarkedNext (target_plan r t) s.memory from) (λ g k. SoundAt k.durable) (marked-step from) (ack.to_confirm inc ids s.durable) (kept s) turn.last new turn.reached b.sound)

  -- ---- a Query

  query-step : (g : verdict.QueryStage) (k : Kept) (c : Option Change) (u : verdict.QueryStage) (l : Kept) → verdict.QueryNext g k c u → Steps c k l → SoundAt k.durable → SoundAt l.durable
  query-step g k c u l (verdict.Answers k') steps p = subst (λ n. SoundAt n.durable) (sym steps) p

  query-ends : (from : ActorId) (a : AttemptId) (ask : Option AttemptId) (m : Message) (g : verdict.QueryStage) (k : Kept) (left : TargetMemory × Did) → verdict.QueryEnds (target_plan r t) s.memory from a ask g k left
      → SoundAt k.durable → TurnLeaves r o held h w s.opening t m s.memory.member.parked k left
  query-ends from a ask m g k left (verdict.IsTold k' z is) p =
      subst (TurnLeaves r o held h w s.opening t m s.memory.member.parked k) (sym is) (leaves-quiet r o held h w t s b m k _ _ refl (only-one r o held h w t s b _ refl) refl p)

  pub query-sound : (from : ActorId) (a : AttemptId) (ask : Option AttemptId) (m : Message) (new : Kept) (left : TargetMemory × Did)
      → Whole verdict.QueryNext (verdict.QueryEnds (target_plan r t) s.memory from a ask) verdict.IsAsked (kept s) new left → TurnLeaves r o held h w s.opening t m s.memory.member.parked new left
  query-sound from a ask m new left turn =
      query-ends from a ask m turn.last new left turn.ends (reached-keeps verdict.QueryNext (λ g k. SoundAt k.durable) query-step verdict.IsAsked (kept s) turn.last new turn.reached b.sound)

  -- ---- idle work

  abbrev pub IdleMid : List AttemptId → Kept → Type 0
  IdleMid left k = SoundAt k.durable × ((a : AttemptId) → Has a left → WasDecided h a)

  pub idle-step : (g : List AttemptId) (k : Kept) (c : Option Change) (u : List AttemptId) (l : Kept) → idle.IdleNext g k c u → Steps c k l → IdleMid g k → IdleMid u l
  idle-step g k c u l (idle.SettlesFirst k' a rest) steps p =
      (subst SoundAt (sym steps.0) (commits-sound r o held h h.served s.opening t s.memory.stamps k.durable a (p.1 a (inl refl)) p.0), λ x i. p.1 x (inr i))

  -- what idle work leaves: nothing is answered, nothing ends, and nothing is served
  pub record IdleSound (new : Kept) (left : TargetMemory × Did) : Type 0 where
    pub sound : Sound r o held h h.served s.opening t new.durable left.0.stamps
    pub endless : NoneIs is_end left.1.posts

  idle-ends : (settling : Bool) (g : List AttemptId) (k : Kept) (left : TargetMemory × Did) → idle.IdleEnds settling (target_plan r t) s.memory g k left → IdleMid g k → IdleSound k left
  idle-ends settling g k left (idle.AllSettled k' z is) p =
      subst (IdleSound k) (sym is) (record { sound = subst (Sound r o held h h.served s.opening t k.durable) (stamps settling) p.0; endless = idle-plain is_end settling (target_plan r t) s.memory k.durable (λ inc n marks. refl) (λ n x. refl) })
    where
      stamps : (settling : Bool) → s.memory.stamps ≡ (idle.idle_memory settling (target_plan r t) s.memory k.durable).stamps
      stamps true = refl
      stamps false = refl

  pub idle-sound : (settling : Bool) (new : Kept) (left : TargetMemory × Did) → IdlesWhole settling (target_plan r t) s.memory (kept s) new left → IdleSound new left
  idle-sound settling new left turn =
      idle-ends settling turn.last new left turn.ends
      (reached-keeps idle.IdleNext IdleMid idle-step s.memory.leader.decided (kept s) turn.last new turn.reached (b.sound, λ a i. b.known a (contains-from_has s.memory.leader.decided a i)))

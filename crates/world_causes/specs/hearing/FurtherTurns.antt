-- What a target hears after stops keeps the facts of versions and reads.
use Rattle.std.specs.Prelude.{ℕ, ◌≡◌, ◌++◌, true, false, List, [], ◌∷◌, Option, Some, None, refl}
use Rattle.std.proofs.Common.{sym, ◌∙◌, ap, subst, inl, inr}
use Rattle.base_types.specs.declared.entry.EntryState.{EntryState}
use Rattle.base_types.specs.declared.entry.EntryState.TheVariants as state
use Rattle.base_types.specs.declared.epoch.Epoch.{Epoch}
use Rattle.base_types.specs.declared.id.AttemptId.{AttemptId}
use Rattle.base_types.specs.declared.operation.MinorWrite.{MinorWrite}
use Rattle.base_types.specs.declared.outcome.Outcome.{Outcome}
use Rattle.base_types.specs.declared.outcome.Outcome.TheVariants.{Committed}
use Rattle.base_messages.specs.declared.actor.ActorId.{ActorId}
use Rattle.base_messages.specs.declared.message.Message.{Message, more_of-Message}
use Rattle.base_messages.specs.declared.message.Message.TheVariants as message
use Rattle.base_messages.specs.declared.message.Post.{Post}
use Rattle.model_laws.specs.Members.{Has, has-from_filter}
use Rattle.daos_model.specs.declared.durable.Durable.{Durable}
use Rattle.daos_model.specs.declared.durable.Version.{Version}
use Rattle.daos_model.specs.Opening.{Opening}
use Rattle.dtx_base.specs.declared.member.Parked.{Parked}
use Rattle.world_contents.specs.world_commit.attempts.Attempts.{Entries, IsToLeader}
use Rattle.world_contents.specs.world_commit.attempts.Counting.{has-taken}
use Rattle.world_contents.specs.world_commit.attempts.History.{GrowsBy, History, Served, Tells}
use Rattle.world_base.specs.declared.did.Did.{Did}
use Rattle.world_base.specs.declared.target.TargetMemory.{TargetMemory}
use Rattle.world_base.specs.declared.world.World.{World}
use Rattle.world_base.specs.Changes.{Kept}
use Rattle.world_base.specs.Commits as commit
use Rattle.world_base.specs.Events.{Rules, TargetHearsBy, kept, listed, target_after, target_plan}
use Rattle.world_base.specs.Further.{CommitDown, HearsFurther, IsSpent, IsUnknown}
use Rattle.world_base.specs.PathLaws.{reached-keeps}
use Rattle.world_base.specs.Statuses.{status_refusal}
use Rattle.world_base.specs.Stops.{Further, HearsMore}
use Rattle.world_base.specs.TargetTurns.{commit_request}
use Rattle.world_base.specs.Turns.{Whole}
use Rattle.world_contents.specs.world_commit.fates.Facts.{IsSaidSo}
use Rattle.world_contents.specs.reads.Adds.{AreAnswered, NoneIs, is_answer, none-answered}
use Rattle.world_contents.specs.reads.CommitLaws as commits
use Rattle.world_contents.specs.reads.EventLaws.{After, commit-heard, told-so, turn-begins, turn-keeps}
use Rattle.world_contents.specs.reads.Given.{IsRefusalRight}
use Rattle.world_contents.specs.reads.Growing.{NoneMore, refused_in}
use Rattle.world_contents.specs.reads.Midway.{IsServedRight, Sound}
use Rattle.world_contents.specs.reads.Reads.{Reads}
use Rattle.world_contents.specs.reads.Standing.{Knows}
use Rattle.world_contents.specs.reads.Versions.{Versions}
use Rattle.world_contents.specs.world_commit.statuses.Fates.{tells_fate, told_by_it, told_further}
use Rattle.world_contents.specs.world_commit.statuses.Heard.{further-keeps, is_of_attempts}
use Rattle.world_causes.specs.hearing.AckTurns.{ack-goes}
use Rattle.world_causes.specs.hearing.Going.{AnswersAreServed, Before, GoesOn}
use Rattle.world_causes.specs.hearing.Growing.{tells-grow}
use Rattle.world_causes.specs.hearing.Listening.{Listens, listens}
use Rattle.world_causes.specs.hearing.PlainTurns.{knows, others-write}
use Rattle.world_causes.specs.hearing.Saying.{AsksState, EndsHeld, EndsLost, MarksAgain, MetUnresolved, SaysFurther, TellsState}

-- what is said then answers no read
pub says-silent : (d : Durable) (parked : List Parked) (m : Message) → SaysFurther d parked m → is_answer m ≡ false
says-silent d parked m (EndsHeld e how i is) = ap is_answer is
says-silent d parked m (EndsLost x is) = ap is_answer is
says-silent d parked m (TellsState x inc how is) = ap is_answer is
says-silent d parked m (AsksState x inc is) = ap is_answer is
says-silent d parked m (MarksAgain inc marks is) = ap is_answer is
says-silent d parked m (MetUnresolved p x op group ep first tracker q snapshot a i asked is) = ap is_answer is

-- what a member tells of what it holds refuses as by an unresolved attempt, or not at all
pub state-right : (x : AttemptId) (how : EntryState) → IsRefusalRight (status_refusal x how)
state-right x state.Absent = λ same. let no : ⊥ = cc in no
state-right x state.Prepared = tt
state-right x state.Committed = tt

module _ (r : Rules) (o : Opening) (held : ℕ → List Version) (h : History) (w v : World) (b : Before r o held h w) (more : HearsMore r w v) (ours : is_of_attempts more.hears.l.message ≡ true) where
  abbrev g : TargetHearsBy (HearsFurther more.number) r w v
  g = more.hears

  abbrev facts : Knows r o held h w
  facts = knows r o held h w v b

  among : Has g.l w.messages
  among = has-taken w.messages g.l g.rest g.takes

  abbrev told : Message → List Post
  told m = told_by_it m g.s (target_after g.s g.new g.memory) g.did.posts

  abbrev Goes : Message → Type 0
  Goes m = GoesOn r o held h v (told m) (λ later. AreAnswered later.served g.t m g.s.memory.member.parked g.did.posts)

  entries : (m : Message) → g.l.message ≡ m → (later : History) → GrowsBy h (told m) later → (y : AttemptId) → Entries r later v y
  entries m is later grows y = ((further-keeps r h later w v b.right b.senders b.attempts more ours (subst (λ n. GrowsBy h (told n) later) (sym is) grows)).on.each y).entries

  none-right : (q : Served) → Has q [] → IsServedRight r o h g.t (w.issued ++ listed g.did.issued) q
  none-right q i = absurd i

  -- where nothing is answered, and nothing is told as committed
  quietly : (m : Message) → g.l.message ≡ m → NoneIs is_answer g.did.posts → ((y : AttemptId) (f : Epoch) → Tells (told m) y (Some f) Committed → ⊥) → Sound r o (held g.t) h h.served g.s.opening g.t g.new.durable g.memory.stamps → Goes m
  quietly m is silent none sound = record {
    later = record { decided = [] ++ h.decided; aborted = refused_in (told m) ++ h.aborted; served = h.served };
    grows = grows;
    served = λ q i. i;
    also = none-answered h.served g.t m g.s.memory.member.parked g.did.posts silent;
    versions = subst (Versions r o held _) (sym g.after) k.0;
    reads = subst (Reads r o _) (sym g.after) k.1;
  }
    where
      grows : GrowsBy h (told m) (record { decided = [] ++ h.decided; aborted = refused_in (told m) ++ h.aborted; served = h.served })
      grows = tells-grow h (told m) [] h.served (λ y f z. absurd (none y f z)) (λ y f i. absurd i)

      k : Versions r o held (record { decided = [] ++ h.decided; aborted = refused_in (told m) ++ h.aborted; served = h.served }) (After w g.t g.s g.new (g.memory, g.did) g.rest)
          × Reads r o (record { decided = [] ++ h.decided; aborted = refused_in (told m) ++ h.aborted; served = h.served }) (After w g.t g.s g.new (g.memory, g.did) g.rest)
      k = turn-keeps r o held h w facts g.t g.s g.new (g.memory, g.did) g.rest g.here [] none-right sound [] [] (NoneMore refl) (refused_in (told m) ++ h.aborted)
          (λ y. subst (λ u. Entries r (record { decided = [] ++ h.decided; aborted = refused_in (told m) ++ h.aborted; served = h.served }) u y) g.after (entries m is _ grows y))

  -- what changes nothing
  listening : (m : Message) → g.l.message ≡ m → told m ≡ [] → Listens (kept g.s) g.s.memory g.new (g.memory, g.did) → Goes m
  listening m is nothing k =
      quietly m is (λ p i. says-silent g.s.durable g.s.memory.member.parked p.message (k.says p i)) (λ y f z. subst (Has _) nothing z.sent)
      (subst (λ n. Sound r o (held g.t) h h.served g.s.opening g.t n.durable g.memory.stamps) (sym k.same)
      (subst (Sound r o (held g.t) h h.served g.s.opening g.t g.s.durable) (sym k.stamps) (turn-begins r o held h w facts g.t g.s g.here g.runs).sound))

  -- ---- a Commit with a member that is known to be down

  module _ (x : AttemptId) (ep first : Option Epoch) (tracker : Epoch) (ws : List MinorWrite) (is : g.l.message ≡ message.Commit x ep first tracker ws) where
    c : commits.HearsCommit r o (held g.t) h w g.t g.s (turn-begins r o held h w facts g.t g.s g.here g.runs) (commit_request x ep first tracker ws) g.reading
    c = commit-heard r o held h w facts g.t g.s g.here g.runs g.reading g.l among g.to_it x ep first tracker ws is

    -- what it leaves
    record IsDown (k : Kept) (left : TargetMemory × Did) : Type 0 where
      sound : Sound r o (held g.t) h h.served g.s.opening g.t k.durable left.0.stamps
      silent : NoneIs is_answer left.1.posts
      none : (y : AttemptId) (f : Epoch) (p : Post) → Has p left.1.posts → p.message ≡ message.Ended y (Some f) Committed → ⊥

    one-silent : (p : Post) → is_answer p.message ≡ false → NoneIs is_answer (p ∷ [])
    one-silent p off q (inl same) = ap (λ n. is_answer n.message) same ∙ off
    one-silent p off q (inr j) = absurd j

    one-none : (to : ActorId) (own : Option Epoch) (how : Outcome) → (how ≡ Committed → ⊥) → (y : AttemptId) (f : Epoch) (p : Post) → Has p (record { to = to; message = message.Ended x own how } ∷ []) → p.message ≡ message.Ended y (Some f) Committed → ⊥
    one-none to own how other y f p (inl same) says = let both : message.Ended x own how ≡ message.Ended y (Some f) Committed = sym (ap (λ n. n.message) same) ∙ says in let is : how ≡ Committed = cc in other is
    one-none to own how other y f p (inr j) says = absurd j

    ends : (stage : commit.CommitStage) (k : Kept) (left : TargetMemory × Did) → CommitDown (target_plan r g.t) g.s.memory g.reading (commit_request x ep first tracker ws) g.l.from stage k left
        → commits.CommitMid r o (held g.t) h w g.t g.s (turn-begins r o held h w facts g.t g.s g.here g.runs) (commit_request x ep first tracker ws) g.reading c stage k → IsDown k left
    ends stage k left (IsSpent k2 e down left2 none known same) p =
        subst (IsDown k) (sym same) (record { sound = p.0; silent = one-silent _ refl; none = one-none g.l.from None _ (λ other. let no : ⊥ = cc in no) })
    ends stage k left (IsUnknown k2 e down left2 known same) p =
        subst (IsDown k) (sym same) (record { sound = p.0.0; silent = one-silent _ refl; none = one-none g.l.from (Some e) _ (λ other. let no : ⊥ = cc in no) })

    downs : Whole (commit.CommitNext (target_plan r g.t) g.s.opening g.s.memory g.reading (commit_request x ep first tracker ws))
        (CommitDown (target_plan r g.t) g.s.memory g.reading (commit_request x ep first tracker ws) g.l.from) commit.Asked (kept g.s) g.new (g.memory, g.did) → Goes (message.Commit x ep first tracker ws)
    downs turn = quietly (message.Commit x ep first tracker ws) is k.silent (λ y f z. k.none y f _ (has-from_filter tells_fate g.did.posts _ z.sent).0 refl) k.sound
      where
        k : IsDown g.new (g.memory, g.did)
        k = ends turn.last g.new (g.memory, g.did) turn.ends
            (reached-keeps (commit.CommitNext (target_plan r g.t) g.s.opening g.s.memory g.reading (commit_request x ep first tracker ws))
            (commits.CommitMid r o (held g.t) h w g.t g.s (turn-begins r o held h w facts g.t g.s g.here g.runs) (commit_request x ep first tracker ws) g.reading c)
            (commits.commit-step r o (held g.t) h w g.t g.s (turn-begins r o held h w facts g.t g.s g.here g.runs) (commit_request x ep first tracker ws) g.reading c) commit.Asked (kept g.s) turn.last g.new turn.reached
            ((turn-begins r o held h w facts g.t g.s g.here g.runs).sound, refl))

  -- ---- all kinds

  kinds : (m : Message) → g.l.message ≡ m → is_of_attempts m ≡ true → HearsFurther more.number (target_plan r g.t) g.s.opening g.s.memory g.reading g.l.from m (kept g.s) g.new (g.memory, g.did) → Goes m
  kinds (message.Ask x) is ok turn = listening (message.Ask x) is refl (listens more.number (target_plan r g.t) g.s.opening g.s.memory g.reading g.l.from (message.Ask x) (kept g.s) g.new (g.memory, g.did) refl turn)
  kinds (message.Status x inc) is ok turn = listening (message.Status x inc) is refl (listens more.number (target_plan r g.t) g.s.opening g.s.memory g.reading g.l.from (message.Status x inc) (kept g.s) g.new (g.memory, g.did) refl turn)
  kinds (message.Reset' by down place (more_of-Message q rest)) is ok turn =
      listening (message.Reset' by down place (more_of-Message q rest)) is refl
      (listens more.number (target_plan r g.t) g.s.opening g.s.memory g.reading g.l.from (message.Reset' by down place (more_of-Message q rest)) (kept g.s) g.new (g.memory, g.did) ok turn)
  kinds (message.StatusIs x inc how) is ok turn =
      ack-goes r o held h w v facts g.t g.s g.here g.runs g.new (g.memory, g.did) g.rest g.after g.l.from.number x inc (status_refusal x how) (state-right x how)
      (told-so r o held h w facts g.t g.s g.here g.runs g.reading g.l among g.to_it (message.StatusIs x inc how) is) (others-write r x way.member way.other) turn (message.StatusIs x inc how) (entries (message.StatusIs x inc how) is)
    where
      way : IsToLeader r x g.l.from g.l.to
      way = (subst (IsSaidSo r h w g.l.from g.l.to) is (b.attempts.on.letters g.l among)).way
  kinds (message.Commit x ep first tracker ws) is ok turn = downs x ep first tracker ws is turn
  kinds (message.Snap x c called tracker) is ok turn = let no : ⊥ = cc in absurd no
  kinds (message.Freeze x c s) is ok turn = let no : ⊥ = cc in absurd no
  kinds (message.Held x refusal) is ok turn = let no : ⊥ = cc in absurd no
  kinds (message.Prune x c tracker e) is ok turn = let no : ⊥ = cc in absurd no
  kinds m is ok turn = absurd turn

  pub further-goes : GoesOn r o held h v (told_further more) (AnswersAreServed (Further more))
  further-goes = kinds g.l.message refl ours g.turn

-- What a target hears as without stops, a Commit with a member that is known to be down, and idle work keep the facts of losses.
use Rattle.std.specs.Prelude.{ℕ, ◌≡◌, true, [], map, refl}
use Rattle.std.proofs.Common.{sym, ◌∙◌, ap, subst, inl, inr}
use Rattle.base_types.specs.declared.entry.Verdict.{Verdict}
use Rattle.base_types.specs.declared.entry.Verdict.TheVariants as verdicts
use Rattle.base_types.specs.declared.epoch.Epoch.{Epoch}
use Rattle.base_types.specs.declared.id.AttemptId.{AttemptId}
use Rattle.base_types.specs.declared.outcome.FloorWhy.{FloorWhy}
use Rattle.base_messages.specs.declared.actor.ActorId.{ActorId}
use Rattle.base_messages.specs.declared.message.Message.{Message}
use Rattle.base_messages.specs.declared.message.Message.TheVariants as message
use Rattle.daos_model.specs.Attempts.{tries}
use Rattle.daos_model.specs.EntryLaws.{same_attempt-itself}
use Rattle.dtx_base.specs.Joining as member
use Rattle.model_laws.specs.Members.{Has, has-cases, has-from_map}
use Rattle.world_contents.specs.world_commit.attempts.Attempts.{leader_of}
use Rattle.world_contents.specs.world_commit.attempts.Counting.{has-taken}
use Rattle.world_contents.specs.world_commit.attempts.History.{History}
use Rattle.world_contents.specs.world_commit.attempts.Turning.{one-or_another}
use Rattle.world_base.specs.declared.did.Did.{Did}
use Rattle.world_base.specs.declared.letter.Letter.{Letter}
use Rattle.world_base.specs.declared.target.Life.TheVariants.{Running}
use Rattle.world_base.specs.declared.target.TargetMemory.{TargetMemory}
use Rattle.world_base.specs.declared.target.TargetPlan.{TargetPlan}
use Rattle.world_base.specs.declared.world.World.{World}
use Rattle.world_base.specs.Changes.{Kept}
use Rattle.world_base.specs.Events.{Rules, TargetHears, TargetHearsBy, TargetIdles, kept, target_after, target_plan, with_epoch}
use Rattle.world_base.specs.Further.{HearsFurther}
use Rattle.world_base.specs.Letters.{letter_of, letters_of, target}
use Rattle.world_base.specs.Roles.{is_prepared, told_by}
use Rattle.world_base.specs.TargetTurns.{Hears, commit_request, fetch_request, prepare_request}
use Rattle.world_contents.specs.world_commit.fates.Asking.{asked-was}
use Rattle.world_contents.specs.world_commit.fates.Facts.{Attempts}
use Rattle.world_contents.specs.world_letters.lines.FilledLaws.{tries-filled}
use Rattle.world_contents.specs.world_letters.lines.Lines.{filled}
use Rattle.world_causes.specs.losses.Hearing.{TellsAsTold, ack-lines, ack-tells-as_told, answered-back-recalls, hearing-recalls, is_answered_back}
use Rattle.world_causes.specs.losses.Losses.{Losses, Rests, tells_stop}
use Rattle.world_causes.specs.losses.Reading.{NoneOpen, Reads, fetch-none, fetch-open, verdict-none}
use Rattle.world_causes.specs.losses.Readers.{InFlight, OpenAreHeld, ReadersAreNew, Waiting, reader-open, waits-for-others}
use Rattle.world_causes.specs.losses.Recalling.{Recalls}
use Rattle.world_causes.specs.losses.Resets.{NoneReads, WaitForOthers, is_reset, reset-recalls}
use Rattle.world_causes.specs.losses.Silent.{TellNone, as-told, commit-down-none, commit-none, idle-none, mark-none, marked-none, prepare-none, query-none}
use Rattle.world_causes.specs.losses.Stopping.{rests-before}
use Rattle.world_causes.specs.outcomes.Untried.{untried-none}
use Rattle.world_contents.specs.world_commit.statuses.Heard.{is_of_attempts}
use Rattle.world_causes.specs.losses.Recalling.{turn-runs}

-- ---- what is heard as without stops

-- no line, and nothing of a stop but what was heard of one
abbrev IsQuietTurn : Message → TargetMemory × Did → Type 0
IsQuietTurn q left = TellsAsTold q left.1.posts × (left.1.lines ≡ [])

quiet-turn : (q : Message) (left : TargetMemory × Did) → TellNone left.1.posts × (left.1.lines ≡ []) → IsQuietTurn q left
quiet-turn q left k = (as-told q left.1.posts k.0, k.1)

-- what waits here waits still while a Verdict is heard
told-parked : (v : Verdict) (x : AttemptId) (m : TargetMemory) → (told_by v x m).member.parked ≡ m.member.parked
told-parked verdicts.Committed x m = refl
told-parked verdicts.Aborted x m = refl
told-parked verdicts.Undecided x m = refl

plain-tells : (p : TargetPlan) (opening : Epoch × FloorWhy) (m : TargetMemory) (reading : ℕ) (from : ActorId) (q : Message) (old new : Kept) (left : TargetMemory × Did) → ((x : AttemptId) → member.is_asker x q ≡ true → NoneOpen x old.durable)
    → ((x : AttemptId) → Reads m.member.parked x → NoneOpen x old.durable) → WaitForOthers q m.member.parked → Hears p opening m reading from q old new left → IsQuietTurn q left
plain-tells p opening m reading from (message.Fetch x op group ep first tracker r snapshot) old new left own reads others h =
    let f = fetch_request x op group ep first tracker r snapshot in
    quiet-turn (message.Fetch x op group ep first tracker r snapshot) left (fetch-none p m reading f from h.last new left (fetch-open p m reading f x old h.last new h.reached (own x (same_attempt-itself x))) h.ends)
plain-tells p opening m reading from (message.Commit x ep first tracker ws) old new left own reads others h = quiet-turn (message.Commit x ep first tracker ws) left (commit-none p opening m reading (commit_request x ep first tracker ws) from h.last new left h.ends)
plain-tells p opening m reading from (message.Prepare e first ws inc) old new left own reads others h = quiet-turn (message.Prepare e first ws inc) left (prepare-none p opening m (prepare_request e first ws inc) h.last new left h.ends)
plain-tells p opening m reading from (message.Ack x inc refusal) old new left own reads others h = (ack-tells-as_told x inc refusal p m from.number old new h.last left h.reached h.ends, ack-lines m h.last new left h.ends)
plain-tells p opening m reading from (message.Mark inc marks) old new left own reads others h = quiet-turn (message.Mark inc marks) left (mark-none _ from inc marks h.last new left h.ends)
plain-tells p opening m reading from (message.Marked inc ids) old new left own reads others h = quiet-turn (message.Marked inc ids) left (marked-none p m from.number inc ids h.last new left h.ends)
plain-tells p opening m reading from (message.Query x ask) old new left own reads others h = quiet-turn (message.Query x ask) left (query-none p m from x ask h.last new left h.ends)
plain-tells p opening m reading from (message.Verdict x ask inc v) old new left own reads others h =
    let same = told-parked v x m in
    quiet-turn (message.Verdict x ask inc v) left (verdict-none is_prepared p (told_by v x m) reading x ask v (subst (NoneReads x) (sym same) others) old h.last new left h.reached h.ends (λ y z. reads y (z.0, subst (Has z.0) same z.1, z.2)))
plain-tells p opening m reading from q old new left own reads others h = absurd h

module _ (r : Rules) (h : History) (w v : World) (new : ReadersAreNew r h w) (k : Attempts r h w) where
  pub plain-recalls : OpenAreHeld w → Losses r w → TargetHears r w v → Recalls r w v
  plain-recalls held losses g = hearing-recalls Hears r w v losses g tells.0 (ap tries tells.1 ∙ untried-none)
    where
      flies : Has g.l w.messages
      flies = has-taken w.messages g.l g.rest g.takes

      tells : TellsAsTold g.l.message g.did.posts × (g.did.lines ≡ [])
      tells = plain-tells (target_plan r g.t) g.s.opening g.s.memory g.reading g.l.from g.l.message (kept g.s) g.new (g.memory, g.did)
          (λ x asks. reader-open r h w new k g.t g.s g.here held x (InFlight g.l flies asks))
          (λ x z. reader-open r h w new k g.t g.s g.here held x (Waiting g.t g.s z.0 g.here z.1 z.2))
          (waits-for-others r h w new k g.t g.s g.here g.l flies) g.turn

  -- ---- what is heard after stops

  pub further-recalls : (number : ℕ) → Losses r w → (g : TargetHearsBy (HearsFurther number) r w v) → is_of_attempts g.l.message ≡ true → Recalls r w v
  further-recalls number losses g ours = by g.l.message refl ours g.turn
    where
      by : (m : Message) → g.l.message ≡ m → is_of_attempts m ≡ true → HearsFurther number (target_plan r g.t) g.s.opening g.s.memory g.reading g.l.from m (kept g.s) g.new (g.memory, g.did) → Recalls r w v
      by (message.Ask x) is ours turn = answered-back-recalls number r w v losses g (ap is_answered_back is)
      by (message.Status x inc) is ours turn = answered-back-recalls number r w v losses g (ap is_answered_back is)
      by (message.StatusIs x inc how) is ours turn = answered-back-recalls number r w v losses g (ap is_answered_back is)
      by (message.Reset' t down place more) is ours turn = reset-recalls number r w v losses g (ap is_reset is) (waits-for-others r h w new k g.t g.s g.here g.l (has-taken w.messages g.l g.rest g.takes))
      by (message.Commit x ep first tracker ws) is ours turn =
          let tells = commit-down-none (target_plan r g.t) g.s.memory g.reading (commit_request x ep first tracker ws) g.l.from turn.last g.new (g.memory, g.did) turn.ends in
          hearing-recalls (HearsFurther number) r w v losses g (as-told g.l.message g.did.posts tells.0) (ap tries tells.1 ∙ untried-none)
      by (message.Snap x c called tracker) is ours turn = let no : ⊥ = cc in absurd no
      by (message.Freeze x c s) is ours turn = let no : ⊥ = cc in absurd no
      by (message.Held x refusal) is ours turn = let no : ⊥ = cc in absurd no
      by (message.Prune x c tracker e) is ours turn = let no : ⊥ = cc in absurd no
      by m is ours turn = absurd turn

-- ---- idle work

module _ (r : Rules) (w v : World) (g : TargetIdles r w v) where
  silent : TellNone g.did.posts × (g.did.lines ≡ [])
  silent = idle-none g.settling (target_plan r g.t) g.s.memory g.turn.last g.new (g.memory, g.did) g.turn.ends

  unsent : (l : Letter) (x : AttemptId) → Has l (letters_of (target g.t) g.did.posts) → tells_stop x l.message ≡ true → ⊥
  unsent l x i is = let q = has-from_map (letter_of (target g.t)) g.did.posts l i in silent.0 q.0 x q.1 (subst (λ n. tells_stop x n.message ≡ true) (sym q.2) is)

  runs : (x : AttemptId) → (rests : Rests r v x) → leader_of r x ≡ g.t → rests.s.life ≡ Running
  runs = turn-runs r w v g.t g.s (target_after g.s g.new g.memory) g.here (ap (λ u. u.targets) g.after) g.runs

  pub idling-recalls : Recalls r w v
  idling-recalls = record {
    clients = ap (λ u. u.clients) g.after;
    more = map (with_epoch w.issued) g.did.lines;
    lines = ap (λ u. u.lines) g.after;
    untried = tries-filled w.issued g.did.lines ∙ ap (map (filled w.issued)) (ap tries silent.1 ∙ untried-none);
    letters = λ l x i is at. elim (has-cases w.messages (letters_of (target g.t) g.did.posts) l (subst (Has l) (ap (λ u. u.messages) g.after) i)) [ inl before ↦ inl before | inr new ↦ absurd (unsent l x new is) ];
    asked = λ l x i is asks at. elim (asked-was w.asked (letters_of (target g.t) g.did.posts) l (subst (Has l) (ap (λ u. u.asked) g.after) i)) [ inl before ↦ inl before | inr new ↦ absurd (unsent l x new.0 is) ];
    resting = λ x rests at. elim (one-or_another (leader_of r x) g.t) [
      | inl is ↦ absurd (rests.off (runs x rests is))
      | inr off ↦ inl (rests-before r w v g.t (target_after g.s g.new g.memory) (ap (λ u. u.targets) g.after) x off rests)
    ];
  }

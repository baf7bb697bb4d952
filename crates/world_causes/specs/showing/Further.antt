-- What is heard after stops keeps that outcomes show their causes: an Ask, a Status and its answer, a Reset, and a Commit with a member that
-- is known to be down.
use Rattle.std.specs.Prelude.{ℕ, ◌≡◌, ◌≤◌, ◌/◌, ◌++◌, ◌==◌, ◌||◌, Bool, true, false, List, [], ◌∷◌, Contains, Option, Some, None, refl, if◌then◌else◌}
use Rattle.std.proofs.Common.{sym, ◌∙◌, ap, subst}
use Rattle.base_types.specs.declared.entry.Entry.{Entry}
use Rattle.base_types.specs.declared.entry.EntryState.{EntryState}
use Rattle.base_types.specs.declared.epoch.Epoch.{Epoch}
use Rattle.base_types.specs.declared.id.AttemptId.{AttemptId}
use Rattle.base_types.specs.declared.outcome.Cause.TheVariants as cause
use Rattle.base_types.specs.declared.outcome.Outcome.{Outcome}
use Rattle.base_types.specs.declared.outcome.Outcome.TheVariants as outcome
use Rattle.base_types.specs.declared.report.Line.{Line}
use Rattle.base_types.specs.declared.report.Line.TheVariants as line
use Rattle.base_messages.specs.declared.actor.ActorId.{ActorId}
use Rattle.base_messages.specs.declared.message.Message.{Message, more_of-Message}
use Rattle.base_messages.specs.declared.message.Message.TheVariants as message
use Rattle.model_laws.specs.Members.{Has}
use Rattle.daos_model.specs.Accesses.{attempt_targets}
use Rattle.daos_model.specs.Attempts.{up_to_last_of}
use Rattle.daos_model.specs.CausesShown.{StopsAfter}
use Rattle.daos_model.specs.EntryLaws.{same_attempt-itself}
use Rattle.daos_model.specs.Opening.{Opening}
use Rattle.daos_model.specs.Order.{told_by}
use Rattle.dtx_base.specs.declared.leading.Undecided.{Undecided}
use Rattle.dtx_base.specs.declared.member.Parked.{Parked}
use Rattle.dtx_base.specs.Asking.{ask_heard, asked_of, asked_open, tells_end}
use Rattle.dtx_base.specs.Joining.{unresolved}
use Rattle.dtx_base.specs.Joining as joining
use Rattle.dtx_base.specs.Leading.{LeaderOf, quietly, to_target, down_told, entry_led, first_down, mark_reset, prepare_reset, reset_of, undecided_of}
use Rattle.dtx_base.specs.Rows.{is_among}
use Rattle.world_base.specs.declared.letter.Letter.{Letter}
use Rattle.world_base.specs.declared.request.CommitRequest.{CommitRequest}
use Rattle.world_base.specs.declared.target.TargetState.{TargetState}
use Rattle.world_base.specs.declared.world.World.{World}
use Rattle.world_base.specs.ClientTurns.{told_by_some}
use Rattle.world_base.specs.Events.{Rules, kept, target_plan}
use Rattle.world_base.specs.Letters.{client}
use Rattle.world_base.specs.Roles.{leader_at, member_at}
use Rattle.world_base.specs.Statuses.{down_of, status_refusal}
use Rattle.world_contents.specs.world_letters.talks.Asked.{commit_of}
use Rattle.world_causes.specs.causes.Causes.{Dated, Stored}
use Rattle.world_causes.specs.causes.CommitTurns.{IsCommit}
use Rattle.world_causes.specs.causes.Heard.{IsKnownAt}
use Rattle.world_causes.specs.causes.MemberTurns.{IsAck, ended-shows, mark-shows}
use Rattle.world_causes.specs.causes.ReadTurns.{none-told, told-one}
use Rattle.world_causes.specs.causes.Shown.{MeetsUnresolved, OutcomeStands, limit_over}
use Rattle.world_causes.specs.causes.Turns.{AllShow, PostShows}

-- ---- what is known of what is heard

-- a target was given up that is one of an attempt's
abbrev pub IsGone : Rules → List Line → AttemptId → ℕ → Type 0
IsGone r lines x t = Contains (attempt_targets r.script x) t × Contains lines (line.Down t)

-- Of an Ask, at a leader: it comes of the attempt's client; where the leader keeps no entry, a target of the attempt stopped since it began;
-- and a member that is known to be down was given up.
pub record IsAskKnown (r : Rules) (o : Opening) (w : World) (from : ActorId) (x : AttemptId) (l : LeaderOf) : Type 0 where
  pub own : from ≡ client x.client
  pub within : (e : Entry) → entry_led x l ≡ Some e → e.epoch.0 / 256 ≤ limit_over o w.lines w.issued
  pub lost : entry_led x l ≡ None → StopsAfter (attempt_targets r.script x) (up_to_last_of x.client w.lines) w.lines
  pub gone : (e : Entry) (down : ℕ) → entry_led x l ≡ Some e → first_down e.members l.memory.down ≡ Some down → IsGone r w.lines x down

-- a leader asked for an attempt: to prepare it, or what became of it
abbrev pub AsksAfter : Message → AttemptId → Type 0
AsksAfter (message.Prepare e first ws inc) x = e.attempt ≡ x
AsksAfter (message.Status a inc) x = a ≡ x
AsksAfter m x = ⊥

-- Of a Reset: where the target that was asked is down, a client that waits is the attempt's, and that target one of the attempt's; and it isn't
-- of a question for who waits.
pub record IsResetKnown (r : Rules) (o : Opening) (stored : Stored) (w : World) (t : ℕ) (s : TargetState) (by : ℕ) (down : Bool) (asked : Message) : Type 0 where
  pub waiting : (a : AttemptId) (e : Entry) (u : Undecided) (c : ActorId) → AsksAfter asked a → down ≡ true → entry_led a (leader_at (target_plan r t) s.memory s.durable) ≡ Some e → undecided_of a (leader_at (target_plan r t) s.memory s.durable) ≡ Some u → u.client ≡ Some c
      → (c ≡ client a.client) × IsGone r w.lines a by × (e.epoch.0 / 256 ≤ limit_over o w.lines w.issued)
  pub query : (a x : AttemptId) → asked ≡ message.Query a (Some x) → ⊥

-- a message tells that another one got no answer by a target, which is down, or isn't
abbrev pub TellsReset : ℕ → Bool → Message → Message → Type 0
TellsReset by down q (message.Reset' t d place (more_of-Message a rest)) = (t ≡ by) × (d ≡ down) × (a ≡ q)
TellsReset by down q m = ⊥

-- all that is known when a target hears such a letter
pub record IsHeardFurther (r : Rules) (o : Opening) (stored : Stored) (w : World) (t : ℕ) (s : TargetState) (l : Letter) : Type 0 where
  pub at : IsKnownAt r o w t s
  pub ask : (x : AttemptId) → l.message ≡ message.Ask x → IsAskKnown r o w l.from x (leader_at (target_plan r t) s.memory s.durable)
  pub state : (x : AttemptId) (inc : ℕ) (how : EntryState) → l.message ≡ message.StatusIs x inc how → IsAck r o stored w.issued w.lines x (status_refusal x how) (leader_at (target_plan r t) s.memory s.durable)
  pub reset : (by : ℕ) (down : Bool) (q : Message) → TellsReset by down q l.message → IsResetKnown r o stored w t s by down q
  pub commit : (q : CommitRequest) → l.message ≡ commit_of q → IsCommit r o w.issued w.lines t (kept s) q × (l.from ≡ client q.attempt.client)
  pub gone : (q : CommitRequest) (e : Epoch) (down : ℕ) → l.message ≡ commit_of q → down_of (target_plan r t) s.memory q e ≡ Some down → IsGone r w.lines q.attempt down

-- ---- what is sent

module _ (r : Rules) (o : Opening) (stored : Stored) (issued : Dated) (lines : List Line) where
  -- the client is told an end
  tells-shows : (from : ActorId) (x : AttemptId) (ep : Option Epoch) (how : Outcome) → from ≡ client x.client → OutcomeStands r o stored issued lines x how → ((n : ℕ) → Contains (told_by_some ep ++ told_by how) n → n / 256 ≤ limit_over o lines issued)
      → AllShow r o stored issued lines (tells_end from x ep how)
  tells-shows from x ep how own k told = (record { shows = k; told = told; undecided = λ y by u. absurd u; asked = λ y u. absurd u; own = λ y same. own ∙ ap (λ z. client z.client) same }, tt)

  status-shows : (to : ActorId) (x : AttemptId) (inc : ℕ) → PostShows r o stored issued lines (record { to = to; message = message.Status x inc })
  status-shows to x inc = record { shows = tt; told = λ n i. absurd (none-told n i); undecided = λ y by u. absurd u; asked = λ y u. absurd u; own = λ y u. absurd u }

  pub state-shows : (to : ActorId) (x : AttemptId) (inc : ℕ) (how : EntryState) → PostShows r o stored issued lines (record { to = to; message = message.StatusIs x inc how })
  state-shows to x inc how = record { shows = tt; told = λ n i. absurd (none-told n i); undecided = λ y by u. absurd u; asked = λ y u. absurd u; own = λ y u. absurd u }

-- an Ask is answered
module _ (r : Rules) (o : Opening) (stored : Stored) (w : World) (from : ActorId) (x : AttemptId) (l : LeaderOf) (K : IsAskKnown r o w from x l) where
  one-within : (e : Entry) (how : Outcome) → told_by how ≡ [] → entry_led x l ≡ Some e → (n : ℕ) → Contains (told_by_some (Some e.epoch) ++ told_by how) n → n / 256 ≤ limit_over o w.lines w.issued
  one-within e how none led n i = subst (λ f. f / 256 ≤ limit_over o w.lines w.issued) (told-one e.epoch n (subst (λ ks. Contains ((e.epoch.0 ∷ []) ++ ks) n) none i)) (K.within e led)

  open-shows : (e : Entry) → entry_led x l ≡ Some e → (d : Option ℕ) → first_down e.members l.memory.down ≡ d → AllShow r o stored w.issued w.lines (asked_open x from e d l).posts
  open-shows e led None is = tt
  open-shows e led (Some down) is = tells-shows r o stored w.issued w.lines from x (Some e.epoch) (outcome.Unknown down) K.own (K.gone e down led is) (one-within e (outcome.Unknown down) refl led)

  found-shows : (f : Option Entry) → entry_led x l ≡ f → (decided : Bool) → AllShow r o stored w.issued w.lines (asked_of x from f decided l).posts
  found-shows None is decided = tells-shows r o stored w.issued w.lines from x None (outcome.Restart (cause.Unresolved x)) K.own
      (subst (λ b. MeetsUnresolved b r w.issued w.lines x x) (sym (same_attempt-itself x)) (K.lost is)) (λ n i. absurd (none-told n i))
  found-shows (Some e) is decided = by (e.committed || decided)
    where
      by : (b : Bool) → AllShow r o stored w.issued w.lines (if b then record { leader = l; posts = tells_end from x (Some e.epoch) outcome.Committed } else asked_open x from e (first_down e.members l.memory.down) l).posts
      by true = tells-shows r o stored w.issued w.lines from x (Some e.epoch) outcome.Committed K.own tt (one-within e outcome.Committed refl is)
      by false = open-shows e is (first_down e.members l.memory.down) refl

  pub ask-shows : AllShow r o stored w.issued w.lines (ask_heard x from l).posts
  unfolding ask_heard
  ask-shows = found-shows (entry_led x l) refl (is_among x l.memory.decided)

-- a Reset is heard
module _ (r : Rules) (o : Opening) (stored : Stored) (w : World) (t : ℕ) (s : TargetState) (by : ℕ) (down : Bool) (asked : Message) (K : IsResetKnown r o stored w t s by down asked) where
  abbrev lead : LeaderOf
  lead = leader_at (target_plan r t) s.memory s.durable

  prepares-show : (a : AttemptId) (inc : ℕ) → AsksAfter asked a → AllShow r o stored w.issued w.lines (prepare_reset by down a inc lead).posts
  unfolding prepare_reset
  prepares-show a inc asks = choose down refl
    where
      told : (f : Option Entry) → entry_led a lead ≡ f → (u : Option Undecided) → undecided_of a lead ≡ u → down ≡ true → AllShow r o stored w.issued w.lines (down_told by a f u lead).posts
      told None is u row on = tt
      told (Some e) is None row on = tt
      told (Some e) is (Some u) row on =
          ended-shows r o stored w.issued w.lines u.client a e.epoch (outcome.Unknown by) (λ c waits. (K.waiting a e u c asks on is row waits).0)
          (λ c waits. let k = K.waiting a e u c asks on is row waits in record { shows = k.1; told = λ n i. absurd (none-told n i); within = k.2 })

      again : (b : Bool) → AllShow r o stored w.issued w.lines (if b then record { leader = lead; posts = to_target by (message.Status a inc) ∷ [] } else quietly lead).posts
      again true = (status-shows r o stored w.issued w.lines (record { client = false; number = by }) a inc, tt)
      again false = tt

      choose : (d : Bool) → down ≡ d → AllShow r o stored w.issued w.lines (prepare_reset by d a inc lead).posts
      choose true on = told (entry_led a lead) refl (undecided_of a lead) refl on
      choose false off = again (inc == lead.incarnation)

  marks-show : (d : Bool) (inc : ℕ) (marks : List (AttemptId × Bool)) → AllShow r o stored w.issued w.lines (mark_reset by d inc marks lead).posts
  unfolding mark_reset
  marks-show true inc marks = tt
  marks-show false inc marks = (mark-shows r o stored w.issued w.lines (record { client = false; number = by }) inc marks, tt)

  pub leads-show : (m : Message) → asked ≡ m → AllShow r o stored w.issued w.lines (reset_of by down m lead).posts
  leads-show (message.Prepare e first ws inc) is = prepares-show e.attempt inc (subst (λ q. AsksAfter q e.attempt) (sym is) refl)
  leads-show (message.Status a inc) is = prepares-show a inc (subst (λ q. AsksAfter q a) (sym is) refl)
  leads-show (message.Mark inc marks) is = marks-show down inc marks
  leads-show m is = tt

  -- no Fetch that waits is answered
  pub joins-show : (m : Message) → asked ≡ m
      → AllShow r o stored w.issued w.lines (joining.reset_heard down m (member_at (target_plan r t) s.memory)).freed.posts × ((p : Parked) → Has p (joining.reset_heard down m (member_at (target_plan r t) s.memory)).member.memory.parked → Has p s.memory.member.parked)
  unfolding unresolved
  joins-show (message.Query a None) is = (tt, λ p i. i)
  joins-show (message.Query a (Some x)) is = absurd (K.query a x is)
  joins-show m is = (tt, λ p i. i)

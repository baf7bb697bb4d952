-- Each move of a client keeps that what it tells fits, and that nothing goes about of its reads but what it waits for.
use Rattle.std.specs.Prelude.{ℕ, ◌≡◌, ◌≤◌, ◌<◌, ◌+◌, ◌++◌, Bool, true, false, nat_lt, ◌&&◌, List, [], ◌∷◌, slice_get, is_some, All, Option, Some, None, refl, if◌then◌else◌}
use Rattle.std.proofs.Common.{sym, ◌∙◌, ap, subst, inl, inr, arith}
use Rattle.std.proofs.lemmas.List.Elements.{All-append, All-cons, All-nil}
use Rattle.base_types.specs.declared.answer.Answer.{Answer}
use Rattle.base_types.specs.declared.answer.Answer.TheVariants as answer
use Rattle.base_types.specs.declared.epoch.Epoch.{Epoch}
use Rattle.base_types.specs.declared.id.AttemptId.{AttemptId}
use Rattle.base_types.specs.declared.operation.Act.{Act}
use Rattle.base_types.specs.declared.operation.Act.TheVariants as act
use Rattle.base_types.specs.declared.operation.Cond.{Cond}
use Rattle.base_types.specs.declared.operation.Cond.TheVariants.{Free, Must, MustNot}
use Rattle.base_types.specs.declared.operation.MinorWrite.{MinorWrite}
use Rattle.base_types.specs.declared.operation.Op.{Op}
use Rattle.base_types.specs.declared.operation.Read.{Read}
use Rattle.base_types.specs.declared.operation.Read.TheVariants as read
use Rattle.base_types.specs.declared.outcome.Cause.TheVariants.{Unresolved}
use Rattle.base_types.specs.declared.outcome.Outcome.{Outcome}
use Rattle.base_types.specs.declared.outcome.Outcome.TheVariants as outcome
use Rattle.base_types.specs.declared.report.Attempt.{Attempt}
use Rattle.base_types.specs.declared.script.Command.{Command}
use Rattle.base_types.specs.declared.script.Command.TheVariants.{Run, Snap, Aggregate, Tell, Skip}
use Rattle.base_types.specs.Scripts.{is_numbered}
use Rattle.base_messages.specs.declared.message.Message.{Message, more_of-Message}
use Rattle.base_messages.specs.declared.message.Message.TheVariants as message
use Rattle.base_messages.specs.declared.message.Post.{Post}
use Rattle.base_messages.specs.declared.message.Reply.TheVariants as reply
use Rattle.daos_model.specs.Accesses.{is_condition, minor_writes, op_path}
use Rattle.base_types.specs.declared.report.Line.{Line}
use Rattle.daos_model.specs.Attempts.{is_restart, snapshot_of_command, tries}
use Rattle.daos_model.specs.Laws.{tries-append}
use Rattle.world_base.specs.declared.did.Did.{Did}
use Rattle.daos_model.specs.Conditions.{holds_where}
use Rattle.daos_model.specs.Durables.{same_attempt}
use Rattle.daos_model.specs.EntryLaws.{same_attempt-itself}
use Rattle.daos_model.specs.Kinds.{is_of_kind}
use Rattle.daos_model.specs.OrderLaws.{rising-names}
use Rattle.daos_model.specs.Transactions.{numbered, ops_of, ops_or_none, read_of, read_of_op}
use Rattle.world_base.specs.model_laws.EntryLaws.{same-attempt}
use Rattle.world_base.specs.model_laws.Groups.{join_two}
use Rattle.world_base.specs.declared.client.ClientPlan.{ClientPlan}
use Rattle.world_base.specs.declared.client.ClientState.{ClientState}
use Rattle.world_base.specs.declared.client.Present.{Present}
use Rattle.world_base.specs.declared.client.Stage.{Stage}
use Rattle.world_base.specs.declared.client.Stage.TheVariants as stage
use Rattle.world_base.specs.ClientTurns.{Ended_by, GoesOn, HearTurn, Heard_on, Move, Moves, NextTurn, None_yet, One_more, Skipped, Went_on, about, act_read, after_end, answered, asks, asks_again, asks_or_goes, at_present, attempt_id, attempt_moves, begins_at, begun, command_at, command_moves, commits, condition_read, condition_told, ends, first_epoch, goes, group_count, group_told, heard, heard_at, hears_epochs, is_about, is_waiting, is_yes, joined, knows, listed, moved, moves_at, next_command, next_op, next_stage, op_moves, op_of, op_told, question, read_told, replied, reset, reset_by, rests, run_moves, skip_counted, snaps_known, told_at, waits}
use Rattle.world_letters.specs.clients.AnswerLaws.{numbered-here}
use Rattle.world_letters.specs.clients.Answered.{ops_numbered}
use Rattle.world_letters.specs.clients.MoveLaws.{IsAt, heard-keeps, is-at, moves-keep, tells-end, tells-nothing, told_end}
use Rattle.world_letters.specs.clients.Standing.{HasTold, Stands, has_number, number_of, tells}
use Rattle.world_letters.specs.kinds.Fitting.{AreOfOps, AreOwn, HasCondition, IsFittingClient, IsFittingHere, IsFittingOf, IsOfItsRead, IsPartOf, IsPresentFitting, IsToCome, LeavesFitting, Loads, MovesFitting, NoneToCome, OneGoesAbout, asked_at, id_of, ops_at, with_posts}
use Rattle.world_letters.specs.kinds.Loads.{ask_alike, load, post_load, weight, weight_if}
use Rattle.world_letters.specs.kinds.LoadLaws.{alike-itself, total-append, weight-one}

-- ---- less goes about

-- no more goes about by one than by the other
abbrev pub AreLess : Loads → Loads → Type 0
AreLess v w = (x : AttemptId) (r : Read) → v x r ≤ w x r

nothing : (m n : ℕ) → m ≤ n → n ≡ 0 → m ≡ 0
nothing m n low none = omega (arith, low, none)

-- and of a client's attempts
abbrev pub AreLessOf : ℕ → Loads → Loads → Type 0
AreLessOf client v w = (x : AttemptId) → x.client ≡ client → (r : Read) → v x r ≤ w x r

about-less : (v w : Loads) (x : AttemptId) (b : Bool) (q : Option Read) → ((r : Read) → v x r ≤ w x r) → OneGoesAbout w x b q → OneGoesAbout v x b q
about-less v w x true (Some r) less k = let low = less r in omega (arith, low, k)
about-less v w x true None less k = λ r. nothing (v x r) (w x r) (less r) (k r)
about-less v w x false q less k = λ r. nothing (v x r) (w x r) (less r) (k r)

to-come-less : (v w : Loads) (client command : ℕ) (present : Option ℕ) → AreLessOf client v w → NoneToCome w client command present → NoneToCome v client command present
to-come-less v w client command present less k = λ y own later r. nothing (v y r) (w y r) (less y own r) (k y own later r)

present-less : (ops : List Op) (x : AttemptId) (v w : Loads) (a : Present) → ((r : Read) → v x r ≤ w x r) → IsPresentFitting ops x w a → IsPresentFitting ops x v a
present-less ops x v w a less k = record { about = about-less v w x a.waits (asked_at a.stage (slice_get ops a.op)) less k.about; part = k.part; told = k.told }

pub fitting-less-of : (p : ClientPlan) (c : ClientState) (v w : Loads) → AreLessOf p.number v w → IsFittingClient p c w → IsFittingClient p c v
fitting-less-of p c v w less k = record { here = by c.present k.here; to_come = to-come-less v w p.number c.command (number_of c.present) less k.to_come }
  where
    by : (o : Option Present) → IsFittingHere p c.place c.command w o → IsFittingHere p c.place c.command v o
    by None h = tt
    by (Some a) h = present-less (ops_at p c.place) (id_of p c.command a) v w a (less (id_of p c.command a) refl) h

pub fitting-less : (p : ClientPlan) (c : ClientState) (v w : Loads) → AreLess v w → IsFittingClient p c w → IsFittingClient p c v
fitting-less p c v w less = fitting-less-of p c v w (λ x own r. less x r)

-- posts that carry nothing
none-posted : (w : Loads) → AreLess (with_posts [] w) w
none-posted w x r = omega arith

-- ---- a move

-- nothing is posted of another's reads where nothing is posted
own-none : (client : ℕ) → AreOwn client []
own-none client y apart r = refl

-- A move that tells of no attempt and posts nothing, by where the client then is.
quiet : (p : ClientPlan) (w : Loads) (m : Move) → m.post ≡ None → m.line ≡ None → IsFittingClient p m.state w → MovesFitting p w m
quiet p w m post line k = record {
  client = subst (λ o. IsFittingClient p m.state (with_posts (listed o) w)) (sym post) (fitting-less p m.state (with_posts [] w) w (none-posted w) k);
  own = subst (λ o. AreOwn p.number (listed o)) (sym post) (own-none p.number);
  told = subst (All (IsFittingOf p)) (sym (tells-nothing m line)) (All-nil (IsFittingOf p));
}

-- A move that tells of no attempt and posts what carries nothing.
posting : (p : ClientPlan) (w : Loads) (m : Move) (q : Post) → m.post ≡ Some q → ((x : AttemptId) (r : Read) → post_load x r q ≡ 0) → m.line ≡ None → IsFittingClient p m.state w → MovesFitting p w m
posting p w m q post none line k = record {
  client = subst (λ o. IsFittingClient p m.state (with_posts (listed o) w)) (sym post) (fitting-less p m.state (with_posts (q ∷ []) w) w (λ x r. let zero = none x r in omega (arith, zero)) k);
  own = subst (λ o. AreOwn p.number (listed o)) (sym post) (λ y apart r. let zero = none y r in omega (arith, zero));
  told = subst (All (IsFittingOf p)) (sym (tells-nothing m line)) (All-nil (IsFittingOf p));
}

-- ---- attempts end

-- where a client stands at an attempt of this number: nothing goes about of those behind it
record IsAtFitting (p : ClientPlan) (c : ClientState) (d : Command) (a : Present) (w : Loads) : Type 0 where
  pub at : command_at p c ≡ Some d
  pub ops : ops_numbered p c.command ≡ ops_of d
  pub told : AreOfOps (ops_of d) a.conds a.gots
  pub to_come : NoneToCome w p.number c.command (Some a.attempt)

nothing-told : (ops : List Op) → AreOfOps ops [] []
nothing-told ops = record { conditions = All-nil (HasCondition ops); answers = All-nil (IsOfItsRead ops) }

-- an attempt that begins waits for nothing
begins-fitting : (ops : List Op) (x : AttemptId) (w : Loads) (attempt : ℕ) (first epoch : Option Epoch) → ((r : Read) → w x r ≡ 0) → IsPresentFitting ops x w (begun attempt first epoch)
begins-fitting ops x w attempt first epoch none = record { about = none; part = by (slice_get ops 0); told = nothing-told ops }
  where
    by : (o : Option Op) → IsPartOf (asked_at stage.Skip o) None
    by None = refl
    by (Some op) = refl

after-end : (p : ClientPlan) (c : ClientState) (d : Command) (a : Present) (how : Outcome) (w : Loads) → NoneToCome w p.number c.command (Some a.attempt) → IsFittingClient p (after_end p c (Some d) a how) w
after-end p c d a how w none = by (is_restart how && nat_lt (a.attempt + 1) p.attempts)
  where
    next : Present
    next = begun (a.attempt + 1) a.first (first_epoch c.known (snapshot_of_command d))

    by : (b : Bool) → IsFittingClient p (if b then at_present next c else next_command c) w
    by true = record {
      here = begins-fitting (ops_at p c.place) (id_of p c.command next) w (a.attempt + 1) a.first (first_epoch c.known (snapshot_of_command d))
          (none (id_of p c.command next) refl (inr (refl, omega arith)));
      to_come = λ y own later r. none y own (further y later) r;
    }
      where
        further : (y : AttemptId) → IsToCome c.command (Some (a.attempt + 1)) y → IsToCome c.command (Some a.attempt) y
        further y (inl more) = inl more
        further y (inr same) = inr (same.0, let more = same.1 in omega (arith, more))
    by false = record { here = tt; to_come = λ y own later r. none y own (inl (omega (arith, later))) r }

-- an attempt ends
ends-fitting : (p : ClientPlan) (c : ClientState) (d : Command) (a : Present) (how : Outcome) (w : Loads) → IsAtFitting p c d a w → MovesFitting p w (ends p c a how)
ends-fitting p c d a how w k = record {
  client = fitting-less p (after_end p c (command_at p c) a how) (with_posts [] w) w (none-posted w) (subst (λ o. IsFittingClient p (after_end p c o a how) w) (sym k.at) (after-end p c d a how w k.to_come));
  own = own-none p.number;
  told = subst (All (IsFittingOf p)) (sym (tells-end p c a how)) (All-cons (IsFittingOf p) (told_end p c a how) [] one (All-nil (IsFittingOf p)));
}
  where
    one : IsFittingOf p (told_end p c a how)
    one = record { own = refl; fits = subst (λ ops. AreOfOps ops a.conds a.gots) (sym k.ops) k.told }

-- ---- the moves of a transaction

-- a client that is at an attempt of a command, and goes on
record IsGoing (p : ClientPlan) (c : ClientState) (d : Command) (a : Present) (w : Loads) : Type 0 where
  pub at : command_at p c ≡ Some d
  pub ops : ops_numbered p c.command ≡ ops_of d
  pub here : IsPresentFitting (ops_of d) (attempt_id p c a) w a
  pub to_come : NoneToCome w p.number c.command (Some a.attempt)

is-at-fitting : (p : ClientPlan) (c : ClientState) (d : Command) (a : Present) (w : Loads) → IsGoing p c d a w → IsAtFitting p c d a w
is-at-fitting p c d a w k = record { at = k.at; ops = k.ops; told = k.here.told; to_come = k.to_come }

-- where it then is at the same attempt
stays : (p : ClientPlan) (c : ClientState) (d : Command) (a b : Present) (w : Loads) → IsAtFitting p c d a w → b.attempt ≡ a.attempt → IsPresentFitting (ops_of d) (attempt_id p c a) w b → IsFittingClient p (at_present b c) w
stays p c d a b w k number h = record {
  here = subst (λ o. IsPresentFitting (ops_or_none o) (id_of p c.command b) w b) (sym k.at) (subst (λ n. IsPresentFitting (ops_of d) (record { client = p.number; command = c.command; attempt = n }) w b) (sym number) h);
  to_come = subst (λ n. NoneToCome w p.number c.command (Some n)) (sym number) k.to_come;
}

-- it waits for nothing
none-about : (w : Loads) (x : AttemptId) (b : Bool) (q : Option Read) → b ≡ false → OneGoesAbout w x b q → (r : Read) → w x r ≡ 0
none-about w x true q off k = let no : ⊥ = cc in absurd no
none-about w x false q off k = k

awaits-none : (w : Loads) (x : AttemptId) (b : Bool) (q : Option Read) → b ≡ false → ((r : Read) → w x r ≡ 0) → OneGoesAbout w x b q
awaits-none w x true q off k = let no : ⊥ = cc in absurd no
awaits-none w x false q off k = k

asks-none : (w : Loads) (x : AttemptId) (q : Option Read) → q ≡ None → ((r : Read) → w x r ≡ 0) → OneGoesAbout w x true q
asks-none w x q off k = subst (OneGoesAbout w x true) (sym off) k

no-part : (q : Option Read) → IsPartOf q None
no-part None = refl
no-part (Some r) = tt

-- nothing was found yet where nothing is asked
none-found : (q : Option Read) (found : Option Answer) → q ≡ None → IsPartOf q found → found ≡ None
none-found q found off k = subst (λ o. IsPartOf o found) off k

skip-asks : (o : Option Op) → asked_at stage.Skip o ≡ None
skip-asks None = refl
skip-asks (Some op) = refl

-- the Fetch of a read carries 1 of its attempt
fetch-load : (x : AttemptId) (r : Read) (op group : ℕ) (e first : Option Epoch) (tracker : Epoch) (snapshot : Bool) → load x r (message.Fetch x op group e first tracker r snapshot) ≡ 1
unfolding load
fetch-load x r op group e first tracker snapshot = ap (λ b. weight_if b (weight (ask_alike r r))) (same_attempt-itself x) ∙ ap weight (alike-itself r)

-- and nothing of another
fetch-apart : (y x : AttemptId) (r s : Read) (op group : ℕ) (e first : Option Epoch) (tracker : Epoch) (snapshot : Bool) → (y ≡ x → ⊥) → load y s (message.Fetch x op group e first tracker r snapshot) ≡ 0
unfolding load
fetch-apart y x r s op group e first tracker snapshot apart = by (same_attempt y x) refl
  where
    by : (b : Bool) → same_attempt y x ≡ b → weight_if b (weight (ask_alike s r)) ≡ 0
    by true same = absurd (apart (same-attempt y x same))
    by false same = refl

module _ (p : ClientPlan) (c : ClientState) (d : Command) (a : Present) (w : Loads) (k : IsGoing p c d a w) (idle : a.waits ≡ false) where
  abbrev its : AttemptId
  its = attempt_id p c a

  none-now : (r : Read) → w its r ≡ 0
  none-now = none-about w its a.waits (asked_at a.stage (slice_get (ops_of d) a.op)) idle k.here.about

  -- a later stage, of which nothing is found
  goes-fitting : (b : Present) → b.attempt ≡ a.attempt → b.waits ≡ false → b.found ≡ None → b.conds ≡ a.conds → b.gots ≡ a.gots → IsFittingClient p (at_present b c) w
  goes-fitting b number off found conds gots = stays p c d a b w (is-at-fitting p c d a w k) number (record {
    about = awaits-none w its b.waits (asked_at b.stage (slice_get (ops_of d) b.op)) off none-now;
    part = subst (IsPartOf (asked_at b.stage (slice_get (ops_of d) b.op))) (sym found) (no-part (asked_at b.stage (slice_get (ops_of d) b.op)));
    told = rw (conds, gots) k.here.told;
  })

  -- it asks what carries nothing of reads, where no read is asked
  asks-nothing : (m : Message) (target : ℕ) → asked_at a.stage (slice_get (ops_of d) a.op) ≡ None → ((x : AttemptId) (r : Read) → load x r m ≡ 0)
      → MovesFitting p w (asks target m a c)
  asks-nothing m target off none =
      posting p w (asks target m a c) (record { to = record { client = false; number = target }; message = m }) refl none refl
      (stays p c d a (record a { waits = true }) w (is-at-fitting p c d a w k) refl (record { about = asks-none w its (asked_at a.stage (slice_get (ops_of d) a.op)) off none-now; part = k.here.part; told = k.here.told }))

  commits-fitting : (ws : List MinorWrite) → asked_at a.stage (slice_get (ops_of d) a.op) ≡ None → MovesFitting p w (commits p c a ws)
  unfolding load
  commits-fitting [] off = ends-fitting p c d a outcome.Committed w (is-at-fitting p c d a w k)
  commits-fitting (w' ∷ ws) off = asks-nothing (message.Commit its a.epoch a.first c.tracker (w' ∷ ws)) _ off (λ x r. refl)

  -- a read is asked
  asks-fitting : (snapshot : Bool) (r : Read) (group target : ℕ) → asked_at a.stage (slice_get (ops_of d) a.op) ≡ Some r
      → MovesFitting p w (asks target (message.Fetch its a.op group a.epoch a.first c.tracker r snapshot) a c)
  asks-fitting snapshot r group target asked = record {
    client = record {
      here = subst (λ o. IsPresentFitting (ops_or_none o) its now (record a { waits = true })) (sym k.at) (record {
        about = subst (OneGoesAbout now its true) (sym asked) one;
        part = k.here.part;
        told = k.here.told;
      });
      to_come = λ y own later s.
          let before = k.to_come y own later s in
          let apart = fetch-apart y its r s a.op group a.epoch a.first c.tracker snapshot (λ same. not-yet y same later) in
          omega (arith, before, apart);
    };
    own = λ y other s. let none = fetch-apart y its r s a.op group a.epoch a.first c.tracker snapshot (λ same. other (ap (λ z. z.client) same)) in omega (arith, none);
    told = subst (All (IsFittingOf p)) (sym (tells-nothing (asks target (message.Fetch its a.op group a.epoch a.first c.tracker r snapshot) a c) refl)) (All-nil (IsFittingOf p));
  }
    where
      sent : Post
      sent = record { to = record { client = false; number = target }; message = message.Fetch its a.op group a.epoch a.first c.tracker r snapshot }

      now : Loads
      now = with_posts (sent ∷ []) w

      one : now its r ≤ 1
      one = let before = none-now r in let its-own = fetch-load its r a.op group a.epoch a.first c.tracker snapshot in omega (arith, before, its-own)

      not-yet : (y : AttemptId) → y ≡ its → IsToCome c.command (Some a.attempt) y → ⊥
      not-yet y same (inl more) = let here : y.command ≡ c.command = ap (λ z. z.command) same in omega (arith, here, more)
      not-yet y same (inr more) = let here : y.attempt ≡ a.attempt = ap (λ z. z.attempt) same in let later = more.1 in omega (arith, here, later)

  -- a later stage
  stage-goes : (s : Stage) → a.stage ≡ s → IsFittingClient p (at_present (next_stage s a) c) w
  stage-goes stage.Skip e =
      goes-fitting (next_stage stage.Skip a) refl idle
      (none-found (asked_at a.stage (slice_get (ops_of d) a.op)) a.found (ap (λ s. asked_at s (slice_get (ops_of d) a.op)) e ∙ skip-asks (slice_get (ops_of d) a.op)) k.here.part) refl refl
  stage-goes stage.Cond e = goes-fitting (next_stage stage.Cond a) refl idle refl refl refl
  stage-goes stage.Act e = goes-fitting (next_stage stage.Act a) refl idle refl refl refl

  op-asks : (snapshot : Bool) (q : Option Read) → asked_at a.stage (slice_get (ops_of d) a.op) ≡ q → MovesFitting p w (asks_or_goes p c a snapshot q)
  op-asks snapshot None e = quiet p w (asks_or_goes p c a snapshot None) refl refl (stage-goes a.stage refl)
  op-asks snapshot (Some r) e = asks-fitting snapshot r _ _ e

  op-moves : (ops : List Op) (snapshot : Bool) (o : Option Op) → slice_get (ops_of d) a.op ≡ o → MovesFitting p w (op_moves p c a ops snapshot o)
  op-moves ops snapshot None e = commits-fitting (minor_writes 0 ops) (ap (asked_at a.stage) e)
  op-moves ops snapshot (Some op) e = op-asks snapshot (question a.stage op) (ap (asked_at a.stage) e)

  run-moves : (ops : List Op) (turns : List ℕ) (snapshot : Bool) (s : Stage) → ops ≡ ops_of d → a.stage ≡ s → MovesFitting p w (run_moves p c a ops turns snapshot s)
  run-moves ops turns snapshot stage.Skip same e = quiet p w (run_moves p c a ops turns snapshot stage.Skip) refl refl (stage-goes stage.Skip e)
  run-moves ops turns snapshot stage.Cond same e = op-moves ops snapshot (slice_get ops a.op) (ap (λ os. slice_get os a.op) (sym same))
  run-moves ops turns snapshot stage.Act same e = op-moves ops snapshot (slice_get ops a.op) (ap (λ os. slice_get os a.op) (sym same))

attempt-moves : (p : ClientPlan) (c : ClientState) (d : Command) (a : Present) (w : Loads) → IsFittingClient p c w → IsGoing p c d a w → a.waits ≡ false → MovesFitting p w (attempt_moves p c a d)
unfolding load
attempt-moves p c (Run ops turns snapshot) a w s k idle = run-moves p c (Run ops turns snapshot) a w k idle ops turns (is_some snapshot) a.stage refl refl
attempt-moves p c (Snap name cont) a w s k idle = asks-nothing p c (Snap name cont) a w k idle (message.Snap (attempt_id p c a) cont name c.tracker) 0 refl (λ x r. refl)
attempt-moves p c (Aggregate cont) a w s k idle = asks-nothing p c (Aggregate cont) a w k idle (message.Prune (attempt_id p c a) cont (Some c.tracker) None) 0 refl (λ x r. refl)
attempt-moves p c (Tell client) a w s k idle = quiet p w (attempt_moves p c a (Tell client)) refl refl s
attempt-moves p c (Skip turns) a w s k idle = quiet p w (attempt_moves p c a (Skip turns)) refl refl s

-- ---- commands begin

-- the operations of the command that a client is at are those of its number
numbers-here : (p : ClientPlan) (c : ClientState) (d : Command) (attempts : List Attempt) → HasTold p c attempts → command_at p c ≡ Some d → is_numbered d ≡ true → ops_numbered p c.command ≡ ops_of d
numbers-here p c d attempts told at n = ap (λ k. ops_or_none (slice_get (numbered p.commands) k)) told.numbers ∙ ap ops_or_none (numbered-here p c.place d at n)

module _ (p : ClientPlan) (c : ClientState) (w : Loads) (none : c.present ≡ None) (k : IsFittingClient p c w) where
  to-come : NoneToCome w p.number c.command None
  to-come = subst (λ o. NoneToCome w p.number c.command (number_of o)) none k.to_come

  behind : NoneToCome w p.number c.command (Some 0)
  behind y own later r = to-come y own (before later) r
    where
      before : IsToCome c.command (Some 0) y → IsToCome c.command None y
      before (inl more) = omega (arith, more)
      before (inr same) = let here = same.0 in omega (arith, here)

  begins-at : (attempts : List Attempt) (d : Command) (snapshot : Option (List ℕ)) (e : Option Epoch) → command_at p c ≡ Some d → ops_numbered p c.command ≡ ops_of d → MovesFitting p w (begins_at p c snapshot e)
  begins-at attempts d None e at ops = quiet p w (begins_at p c None e) refl refl (first None None)
    where
      first : (f e : Option Epoch) → IsFittingClient p (at_present (begun 0 f e) c) w
      first f e = record { here = begins-fitting (ops_at p c.place) (id_of p c.command (begun 0 f e)) w 0 f e (to-come (id_of p c.command (begun 0 f e)) refl (omega arith)); to_come = behind }
  begins-at attempts d (Some name) None at ops = ends-fitting p c d (begun 0 None None) outcome.NoSnapshot w (record { at = at; ops = ops; told = nothing-told (ops_of d); to_come = behind })
  begins-at attempts d (Some name) (Some e) at ops =
      quiet p w (begins_at p c (Some name) (Some e)) refl refl
      (record { here = begins-fitting (ops_at p c.place) (id_of p c.command (begun 0 None (Some e))) w 0 None (Some e) (to-come (id_of p c.command (begun 0 None (Some e))) refl (omega arith)); to_come = behind })

  -- a command without a number is over
  passes : (m : Move) → m.line ≡ None → m.state.command ≡ c.command → m.state.present ≡ c.present → IsFittingClient p m.state w
  passes m line command present = rw (command, present, none) (record { here = tt; to_come = to-come })

  command-moves : (attempts : List Attempt) (d : Command) → HasTold p c attempts → command_at p c ≡ Some d → MovesFitting p w (command_moves p c d)
  unfolding load
  command-moves attempts (Run ops turns snapshot) told at = begins-at attempts (Run ops turns snapshot) snapshot (first_epoch c.known snapshot) at (numbers-here p c (Run ops turns snapshot) attempts told at refl)
  command-moves attempts (Snap name cont) told at = begins-at attempts (Snap name cont) None (first_epoch c.known None) at (numbers-here p c (Snap name cont) attempts told at refl)
  command-moves attempts (Aggregate cont) told at = begins-at attempts (Aggregate cont) None (first_epoch c.known None) at (numbers-here p c (Aggregate cont) attempts told at refl)
  command-moves attempts (Tell client) told at = posting p w (command_moves p c (Tell client)) (record { to = record { client = true; number = client }; message = message.Tell c.tracker }) refl (λ x r. refl) refl (passes (command_moves p c (Tell client)) refl refl refl)
  command-moves attempts (Skip turns) told at = quiet p w (command_moves p c (Skip turns)) refl refl (passes (command_moves p c (Skip turns)) refl refl refl)

-- ---- going on

moves-at : (p : ClientPlan) (c : ClientState) (attempts : List Attempt) (w : Loads) (o : Option Command) (present : Option Present) → HasTold p c attempts → IsFittingClient p c w → waits c ≡ false → command_at p c ≡ o → c.present ≡ present
    → MovesFitting p w (moves_at p c o present)
moves-at p c attempts w None present told k idle at e = quiet p w (moves_at p c None present) refl refl k
moves-at p c attempts w (Some d) None told k idle at e = command-moves p c w e k attempts d told at
moves-at p c attempts w (Some d) (Some a) told k idle at e =
    attempt-moves p c d a w k (record {
      at = at;
      ops = numbers-here p c d attempts told at (ap has_number (sym at) ∙ t.at_present.2);
      here = subst (λ o. IsPresentFitting (ops_or_none o) (id_of p c.command a) w a) at (subst (IsFittingHere p c.place c.command w) e k.here);
      to_come = subst (λ o. NoneToCome w p.number c.command (number_of o)) e k.to_come;
    }) (ap is_waiting (sym e) ∙ idle)
  where
    t : Stands p c.place c.command (Some a.attempt) attempts
    t = subst (λ o. Stands p c.place c.command (number_of o) attempts) e told

-- each move of a client that goes on
pub moved-fitting : (p : ClientPlan) (c : ClientState) (attempts : List Attempt) (w : Loads) → HasTold p c attempts → IsFittingClient p c w → MovesFitting p w (moved p c)
unfolding moved
moved-fitting p c attempts w told k = by (waits c) refl
  where
    by : (b : Bool) → waits c ≡ b → MovesFitting p w (if b then rests c else moves_at p c (command_at p c) c.present)
    by true e = quiet p w (rests c) refl refl k
    by false e = moves-at p c attempts w (command_at p c) c.present told k e refl refl

-- ---- hearing

-- what two groups answer joins to an answer of that kind
join-kind : (r : Read) (a b : Answer) → is_of_kind r a ≡ true → is_of_kind r b ≡ true → is_of_kind r (join_two a b) ≡ true
unfolding is_of_kind
join-kind (read.Dkeys p) (answer.Names ks) (answer.Names ls) h k = rising-names (ks ++ ls)
join-kind (read.Akeys p) (answer.Names ks) (answer.Names ls) h k = rising-names (ks ++ ls)
join-kind (read.Single p) (answer.Names ks) b h k = let no : ⊥ = cc in absurd no
join-kind (read.Extent p low len) (answer.Names ks) b h k = let no : ⊥ = cc in absurd no
join-kind (read.Exists p) (answer.Names ks) b h k = let no : ⊥ = cc in absurd no
join-kind (read.Dkeys p) (answer.Names ks) (answer.Bytes bytes) h k = h
join-kind (read.Dkeys p) (answer.Names ks) (answer.Parts ps) h k = h
join-kind (read.Dkeys p) (answer.Names ks) answer.Yes h k = h
join-kind (read.Dkeys p) (answer.Names ks) answer.No h k = h
join-kind (read.Dkeys p) (answer.Names ks) answer.Absent h k = h
join-kind (read.Akeys p) (answer.Names ks) (answer.Bytes bytes) h k = h
join-kind (read.Akeys p) (answer.Names ks) (answer.Parts ps) h k = h
join-kind (read.Akeys p) (answer.Names ks) answer.Yes h k = h
join-kind (read.Akeys p) (answer.Names ks) answer.No h k = h
join-kind (read.Akeys p) (answer.Names ks) answer.Absent h k = h
join-kind r answer.No b h k = k
join-kind r (answer.Bytes bytes) b h k = h
join-kind r (answer.Parts ps) b h k = h
join-kind r answer.Yes b h k = h
join-kind r answer.Absent b h k = h

joined-kind : (r : Read) (found : Option Answer) (b : Answer) → IsPartOf (Some r) found → is_of_kind r b ≡ true → is_of_kind r (joined found b) ≡ true
joined-kind r None b part kind = kind
joined-kind r (Some f) b part kind = join-kind r f b part kind

-- an operation that is asked at this stage has a condition, or is a read
asked-condition : (op : Op) (cond : Cond) (r : Read) → condition_read op cond ≡ Some r → is_condition cond ≡ true
asked-condition op Free r e = let no : ⊥ = cc in absurd no
asked-condition op Must r e = refl
asked-condition op MustNot r e = refl

asked-read : (x : Act) (r : Read) → act_read x ≡ Some r → read_of x ≡ Some r
asked-read (act.Fetch s) r e = e
asked-read (act.Change v) r e = e

-- what nothing of one read of an attempt is about, nothing of another is
abbrev pub AreAlike : Loads → Type 0
AreAlike v = (x : AttemptId) (r s : Read) → v x r ≡ 0 → v x s ≡ 0

module _ (p : ClientPlan) (c : ClientState) (d : Command) (a : Present) (v : Loads) (k : IsAtFitting p c d a v) where
  abbrev mine : AttemptId
  mine = attempt_id p c a

  one-more : {T : Type 0} (P : T → Type 0) (xs : List T) (x : T) → All P xs → P x → All P (xs ++ x ∷ [])
  one-more P xs x all one = All-append P xs (x ∷ []) all (All-cons P x [] one (All-nil P))

  module _ (idle : a.waits ≡ false) (none : (r : Read) → v mine r ≡ 0) where
    -- the client goes on with the attempt
    on : (b : Present) → b.attempt ≡ a.attempt → b.waits ≡ false → IsPartOf (asked_at b.stage (slice_get (ops_of d) b.op)) b.found → AreOfOps (ops_of d) b.conds b.gots → MovesFitting p v (goes (at_present b c))
    on b number off part told = quiet p v (goes (at_present b c)) refl refl (stays p c d a b v k number (record { about = awaits-none v mine b.waits (asked_at b.stage (slice_get (ops_of d) b.op)) off none; part = part; told = told }))

    -- a condition is answered
    condition-heard : (op : Op) (there : Bool) → slice_get (ops_of d) a.op ≡ Some op → is_condition op.cond ≡ true → MovesFitting p v (condition_told p c a op.cond there)
    condition-heard op there at has = by (holds_where there op.cond)
      where
        told : Present
        told = record a { conds = a.conds ++ (a.op, there) ∷ [] }

        more : AreOfOps (ops_of d) told.conds told.gots
        more = record { conditions = one-more (HasCondition (ops_of d)) a.conds (a.op, there) k.told.conditions (op, at, has); answers = k.told.answers }

        by : (b : Bool) → MovesFitting p v (if b then goes (at_present (next_stage stage.Cond told) c) else ends p c told (outcome.CondFailed a.op))
        by true = on (next_stage stage.Cond told) refl idle (no-part (asked_at stage.Act (slice_get (ops_of d) a.op))) more
        by false = ends-fitting p c d told (outcome.CondFailed a.op) v (record { at = k.at; ops = k.ops; told = more; to_come = k.to_come })

    -- a read is answered
    read-heard : (op : Op) (r : Read) (b : Answer) → slice_get (ops_of d) a.op ≡ Some op → read_of op.act ≡ Some r → is_of_kind r b ≡ true → MovesFitting p v (read_told c a b)
    read-heard op r b at reads kind =
        on (next_op (record a { gots = a.gots ++ (a.op, b) ∷ [] })) refl idle (nothing-found (slice_get (ops_of d) (a.op + 1)))
        (record { conditions = k.told.conditions; answers = one-more (IsOfItsRead (ops_of d)) a.gots (a.op, b) k.told.answers (r, ap read_of_op at ∙ reads, kind) })
      where
        nothing-found : (o : Option Op) → IsPartOf (asked_at stage.Skip o) None
        nothing-found None = refl
        nothing-found (Some op) = refl

    at-stage : (op : Op) (r : Read) (s : Stage) (b : Answer) → slice_get (ops_of d) a.op ≡ Some op → question s op ≡ Some r → is_of_kind r b ≡ true → MovesFitting p v (told_at p c a op.cond s b)
    at-stage op r stage.Skip b at asks kind = let no : ⊥ = cc in absurd no
    at-stage op r stage.Cond b at asks kind = condition-heard op (is_yes b) at (asked-condition op op.cond r asks)
    at-stage op r stage.Act b at asks kind = read-heard op r b at (asked-read op.act r asks) kind

    -- a group answers
    group-heard : (op : Op) (r : Read) (b : Answer) → slice_get (ops_of d) a.op ≡ Some op → question a.stage op ≡ Some r → IsPartOf (asked_at a.stage (slice_get (ops_of d) a.op)) a.found → is_of_kind r b ≡ true → MovesFitting p v (group_told p c a op b)
    group-heard op r b at asks part kind = by (nat_lt (a.group + 1) (group_count (op_path op).obj (op_path op).dkey p.targets))
      where
        asked : asked_at a.stage (slice_get (ops_of d) a.op) ≡ Some r
        asked = ap (asked_at a.stage) at ∙ asks

        all : is_of_kind r (joined a.found b) ≡ true
        all = joined-kind r a.found b (subst (λ q. IsPartOf q a.found) asked part) kind

        more : Present
        more = record a { group = a.group + 1; found = Some (joined a.found b) }

        by : (l : Bool) → MovesFitting p v (if l then goes (at_present more c) else told_at p c a op.cond a.stage (joined a.found b))
        by true = on more refl idle (subst (λ q. IsPartOf q (Some (joined a.found b))) (sym asked) all) k.told
        by false = at-stage op r a.stage (joined a.found b) at asks all

    op-heard : (b : Answer) (o : Option Op) → slice_get (ops_of d) a.op ≡ o → IsPartOf (asked_at a.stage (slice_get (ops_of d) a.op)) a.found
        → ((op : Op) → slice_get (ops_of d) a.op ≡ Some op → (r : Read) × (question a.stage op ≡ Some r) × (is_of_kind r b ≡ true)) → MovesFitting p v (op_told p c a b o)
    op-heard b None at part asks = on a refl idle part k.told
    op-heard b (Some op) at part asks = let q = asks op at in group-heard op q.0 b at q.1 part q.2

-- a client that waits, hears what is about its attempt, and what goes about then
record IsAwaiting (p : ClientPlan) (c : ClientState) (d : Command) (a : Present) (w v : Loads) (m : Message) : Type 0 where
  pub at : IsAtFitting p c d a v
  pub about : OneGoesAbout w (attempt_id p c a) true (asked_at a.stage (slice_get (ops_of d) a.op))
  pub part : IsPartOf (asked_at a.stage (slice_get (ops_of d) a.op)) a.found
  pub heard : (x : AttemptId) (r : Read) → w x r ≡ load x r m + v x r
  pub alike : AreAlike v

at-more : (p : ClientPlan) (c : ClientState) (d : Command) (a b : Present) (v : Loads) → b.attempt ≡ a.attempt → b.conds ≡ a.conds → b.gots ≡ a.gots → IsAtFitting p c d a v → IsAtFitting p c d b v
at-more p c d a b v number conds gots k = record { at = k.at; ops = k.ops; told = rw (conds, gots) k.told; to_come = subst (λ n. NoneToCome v p.number c.command (Some n)) (sym number) k.to_come }

-- an answer is of the kind of what was asked, and nothing else goes about
answer-load : (x y : AttemptId) (r : Read) (op group : ℕ) (e : Option Epoch) (b : Answer) → same_attempt x y ≡ true → load x r (message.Fetched y op group e (reply.Answer b)) ≡ weight (is_of_kind r b)
unfolding load
answer-load x y r op group e b same = ap (λ z. weight_if z (weight (is_of_kind r b))) same

weight-some : (b : Bool) → 1 ≤ weight b
weight-some true = omega arith
weight-some false = omega arith

module _ (p : ClientPlan) (c : ClientState) (d : Command) (a : Present) (w v : Loads) (y : AttemptId) (op group : ℕ) (e : Option Epoch) (b : Answer) (k : IsAwaiting p c d a w v (message.Fetched y op group e (reply.Answer b))) (same : same_attempt (attempt_id p c a) y ≡ true) where
  abbrev own : AttemptId
  own = attempt_id p c a

  sums : (r : Read) → w own r ≡ weight (is_of_kind r b) + v own r
  sums r = k.heard own r ∙ ap (λ n. n + v own r) (answer-load own y r op group e b same)

  rest-none : (q : Option Read) → OneGoesAbout w own true q → (r : Read) → v own r ≡ 0
  rest-none None one r = let all = sums r in let none = one r in omega (arith, all, none)
  rest-none (Some s) one r = k.alike own s r (let all = sums s in let some = weight-some (is_of_kind s b) in omega (arith, all, some, one))

  is-asked : (o : Op) (q : Option Read) → OneGoesAbout w own true q → (r : Read) × (q ≡ Some r) × (is_of_kind r b ≡ true)
  is-asked o None one =
      let all = sums (read.Exists (op_path o)) in let some = weight-some (is_of_kind (read.Exists (op_path o)) b) in let none = one (read.Exists (op_path o)) in
      let no : ⊥ = omega (arith, all, some, none) in absurd no
  is-asked o (Some r) one = (r, refl, weight-one (is_of_kind r b) (let all = sums r in omega (arith, all, one)))

  answer-heard : MovesFitting p v (replied p c (knows e a) (reply.Answer b))
  answer-heard =
      subst (λ z. MovesFitting p v (op_told p c (knows e a) b z)) (sym (ap (λ z. op_of z a.op) k.at.at))
      (op-heard p c d (knows e a) v (at-more p c d a (knows e a) v refl refl refl k.at) refl (rest-none (asked_at a.stage (slice_get (ops_of d) a.op)) k.about) b (slice_get (ops_of d) a.op) refl k.part
      (λ o at. is-asked o (question a.stage o) (subst (λ z. OneGoesAbout w own true (asked_at a.stage z)) at k.about)))

-- a request is lost
less-heard : (w v : Loads) (m : Message) → ((x : AttemptId) (r : Read) → w x r ≡ load x r m + v x r) → AreLess v w
less-heard w v m heard x r = let all = heard x r in omega (arith, all)

module _ (p : ClientPlan) (c : ClientState) (d : Command) (a : Present) (w v : Loads) (m : Message) (k : IsAwaiting p c d a w v m) where
  abbrev quieted : Present
  quieted = record a { waits = false }

  again : (target : ℕ) → MovesFitting p v (asks_again p c quieted target)
  unfolding load
  again target =
      posting p v (asks_again p c quieted target) (record { to = record { client = false; number = target }; message = message.Ask (attempt_id p c a) }) refl (λ x r. refl) refl
      (stays p c d a (record a { waits = true }) v k.at refl (record { about = about-less v w (attempt_id p c a) true (asked_at a.stage (slice_get (ops_of d) a.op)) (less-heard w v m k.heard (attempt_id p c a)) k.about; part = k.part; told = k.at.told }))

  lost-heard : (how : Outcome) → MovesFitting p v (ends p c quieted how)
  lost-heard how = ends-fitting p c d quieted how v (at-more p c d a quieted v refl refl refl k.at)

  reset-heard : (target : ℕ) (q : Message) → MovesFitting p v (reset p c quieted target q)
  reset-heard target (message.Commit x e first tracker ws) = again target
  reset-heard target (message.Ask x) = again target
  reset-heard target q = lost-heard (outcome.Restart (Unresolved (attempt_id p c a)))

  reset-by-heard : (target : ℕ) (down : Bool) (q : Message) → MovesFitting p v (reset_by p c quieted target down q)
  reset-by-heard target false q = reset-heard target q
  reset-by-heard target true q = lost-heard (outcome.Unknown target)

-- what a client waited for has come
answered-fitting : (p : ClientPlan) (c : ClientState) (d : Command) (a : Present) (w v : Loads) (m : Message) → IsFittingClient p c v → IsAwaiting p c d a w v m → is_about (attempt_id p c a) (about m) ≡ true → MovesFitting p v (answered p c a m)
answered-fitting p c d a w v (message.Fetched y op group e (reply.Answer b)) s k same = answer-heard p c d a w v y op group e b k same
answered-fitting p c d a w v (message.Fetched y op group e (reply.Outcome how)) s k same = ends-fitting p c d (knows e a) how v (at-more p c d a (knows e a) v refl refl refl k.at)
answered-fitting p c d a w v (message.Ended y e how) s k same =
    ends-fitting p (record c { known = snaps_known (command_at p c) e how c.known }) d (knows e a) how v
    (record { at = k.at.at; ops = k.at.ops; told = k.at.told; to_come = k.at.to_come })
answered-fitting p c d a w v (message.Reset' t down place (more_of-Message q row)) s k same = reset-by-heard p c d a w v (message.Reset' t down place (more_of-Message q row)) k t down q
answered-fitting p c d a w v m s k same = quiet p v (goes c) refl refl s

heard-at-fitting : (p : ClientPlan) (c : ClientState) (attempts : List Attempt) (w v : Loads) (m : Message) (present : Option Present) → HasTold p c attempts → IsFittingClient p c w → ((x : AttemptId) (r : Read) → w x r ≡ load x r m + v x r) → AreAlike v
    → c.present ≡ present → MovesFitting p v (heard_at p c m present)
heard-at-fitting p c attempts w v m None told k heard alike e = quiet p v (goes c) refl refl (fitting-less p c v w (less-heard w v m heard) k)
heard-at-fitting p c attempts w v m (Some a) told k heard alike e = by a.waits (is_about (attempt_id p c a) (about m)) refl refl
  where
    less : IsFittingClient p c v
    less = fitting-less p c v w (less-heard w v m heard) k

    here : (d : Command) × IsAt p c d a attempts
    here = is-at p c a attempts e told

    now : IsPresentFitting (ops_of here.0) (id_of p c.command a) w a
    now = subst (λ o. IsPresentFitting (ops_or_none o) (id_of p c.command a) w a) here.1.at (subst (IsFittingHere p c.place c.command w) e k.here)

    by : (b i : Bool) → a.waits ≡ b → is_about (attempt_id p c a) (about m) ≡ i → MovesFitting p v (if b && i then answered p c a m else goes c)
    by true true b i = answered-fitting p c here.0 a w v m less (record {
      at = record {
        at = here.1.at;
        ops = numbers-here p c here.0 attempts told here.1.at here.1.numbered;
        told = now.told;
        to_come = subst (λ o. NoneToCome v p.number c.command (number_of o)) e less.to_come;
      };
      about = subst (λ z. OneGoesAbout w (attempt_id p c a) z (asked_at a.stage (slice_get (ops_of here.0) a.op))) b now.about;
      part = now.part;
      heard = heard;
      alike = alike;
    }) i
    by true false b i = quiet p v (goes c) refl refl less
    by false i b h = quiet p v (goes c) refl refl less

-- a client hears a message, which went about before
pub heard-fitting : (p : ClientPlan) (c : ClientState) (attempts : List Attempt) (w v : Loads) (m : Message) → HasTold p c attempts → IsFittingClient p c w → ((x : AttemptId) (r : Read) → w x r ≡ load x r m + v x r) → AreAlike v
    → MovesFitting p v (heard p c m)
unfolding heard
heard-fitting p c attempts w v m told k heard' alike = heard-at-fitting p (hears_epochs m c) attempts w v m c.present told k heard' alike refl

-- ---- turns

-- one part of a turn after another
then-leaves : (p : ClientPlan) (w : Loads) (c d : ClientState) (ps qs : List Post) (as' bs : List Attempt) → LeavesFitting p w c ps as' → LeavesFitting p (with_posts ps w) d qs bs → LeavesFitting p w d (ps ++ qs) (as' ++ bs)
then-leaves p w c d ps qs as' bs k l = record {
  client = fitting-less p d (with_posts (ps ++ qs) w) (with_posts qs (with_posts ps w)) (λ x r. let all = total-append (post_load x r) ps qs in omega (arith, all)) l.client;
  own = λ y other r. let all = total-append (post_load y r) ps qs in let first = k.own y other r in let rest = l.own y other r in omega (arith, all, first, rest);
  told = All-append (IsFittingOf p) as' bs k.told l.told;
}

nothing-done : (p : ClientPlan) (w : Loads) (c : ClientState) → IsFittingClient p c w → LeavesFitting p w c [] []
nothing-done p w c k = record { client = fitting-less p c (with_posts [] w) w (none-posted w) k; own = own-none p.number; told = All-nil (IsFittingOf p) }

moves-fit : (p : ClientPlan) (c d : ClientState) (attempts : List Attempt) (w : Loads) (posts : List Post) (lines : List Line) → 0 < p.attempts → HasTold p c attempts → IsFittingClient p c w → Moves p c posts lines d → LeavesFitting p w d posts (tries lines)
unfolding tries
moves-fit p c d attempts w posts lines some told k None_yet = nothing-done p w c k
moves-fit p c d attempts w posts lines some told k (One_more sent before e m over) =
    let first = moves-fit p c e attempts w sent before some told k m in
    subst (LeavesFitting p w (moved p e).state (sent ++ listed (moved p e).post)) (sym (tries-append before (listed (moved p e).line)))
    (then-leaves p w e (moved p e).state sent (listed (moved p e).post) (tries before) (tells (moved p e)) first (moved-fitting p e (attempts ++ tries before) (with_posts sent w) (moves-keep p c e attempts sent before some told m) first.client))

goes-on-fit : (p : ClientPlan) (c d : ClientState) (attempts : List Attempt) (w : Loads) (posts : List Post) (lines : List Line) → 0 < p.attempts → HasTold p c attempts → IsFittingClient p c w → GoesOn p c posts lines d → LeavesFitting p w d posts (tries lines)
goes-on-fit p c d attempts w posts lines some told k g =
    let first = moves-fit p c g.last attempts w g.sent g.told some told k g.moves in
    let last = moved-fitting p g.last (attempts ++ tries g.told) (with_posts g.sent w) (moves-keep p c g.last attempts g.sent g.told some told g.moves) first.client in
    let all = then-leaves p w g.last (moved p g.last).state g.sent (listed (moved p g.last).post) (tries g.told) (tells (moved p g.last)) first last in
    subst (λ z. LeavesFitting p w z posts (tries lines)) (sym g.reached)
    (subst (λ z. LeavesFitting p w (moved p g.last).state z (tries lines)) (sym g.all_sent)
    (subst (λ z. LeavesFitting p w (moved p g.last).state (g.sent ++ listed (moved p g.last).post) (tries z)) (sym g.all_told)
    (subst (LeavesFitting p w (moved p g.last).state (g.sent ++ listed (moved p g.last).post)) (sym (tries-append g.told (listed (moved p g.last).line))) all)))

-- a turn without a message
pub next-turn-fits : (p : ClientPlan) (c d : ClientState) (attempts : List Attempt) (w : Loads) (did : Did) → 0 < p.attempts → HasTold p c attempts → IsFittingClient p c w → NextTurn p c did d → LeavesFitting p w d did.posts (tries did.lines)
unfolding tries
next-turn-fits p c d attempts w did some told k (Skipped skips says after) =
    subst (λ e. LeavesFitting p w e did.posts (tries did.lines)) (sym after) (subst (λ n. LeavesFitting p w (skip_counted c) n.posts (tries n.lines)) (sym says) (nothing-done p w (skip_counted c) k))
next-turn-fits p c d attempts w did some told k (Went_on runs goes') = goes-on-fit p c d attempts w did.posts did.lines some told k goes'.goes_on

-- a turn in which a message is heard that went about before
pub hear-turn-fits : (p : ClientPlan) (c d : ClientState) (attempts : List Attempt) (w v : Loads) (m : Message) (did : Did) → 0 < p.attempts → HasTold p c attempts → IsFittingClient p c w → ((x : AttemptId) (r : Read) → w x r ≡ load x r m + v x r)
    → AreAlike v → HearTurn p c m did d → LeavesFitting p v d did.posts (tries did.lines)
hear-turn-fits p c d attempts w v m did some told k heard' alike (Ended_by over says after) =
    subst (λ e. LeavesFitting p v e did.posts (tries did.lines)) (sym after)
    (subst (λ n. LeavesFitting p v (heard p c m).state n.posts (tries n.lines)) (sym says) (heard-fitting p c attempts w v m told k heard' alike))
hear-turn-fits p c d attempts w v m did some told k heard' alike (Heard_on rest over goes' says) =
    let first = heard-fitting p c attempts w v m told k heard' alike in
    let more = goes-on-fit p (heard p c m).state d (attempts ++ tells (heard p c m)) (with_posts (listed (heard p c m).post) v) rest.posts rest.lines some (heard-keeps p c attempts m told) first.client goes'.goes_on in
    subst (λ n. LeavesFitting p v d n.posts (tries n.lines)) (sym says)
    (subst (LeavesFitting p v d (listed (heard p c m).post ++ rest.posts)) (sym (tries-append (listed (heard p c m).line) rest.lines))
    (then-leaves p v (heard p c m).state d (listed (heard p c m).post) rest.posts (tells (heard p c m)) (tries rest.lines) first more))

-- ---- the beginning

-- a client begins where nothing goes about
pub clients-begin-fitting : (p : ClientPlan) (c : ClientState) (w : Loads) → c.present ≡ None → ((x : AttemptId) (r : Read) → w x r ≡ 0) → IsFittingClient p c w
clients-begin-fitting p c w none nothing' = record { here = subst (IsFittingHere p c.place c.command w) (sym none) tt; to_come = λ y own later r. nothing' y r }

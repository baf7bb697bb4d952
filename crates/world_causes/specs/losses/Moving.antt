-- What a move of a client leaves of its attempt: it stays the present one, and no line tells of it; or it is over.
use Rattle.std.specs.Prelude.{ℕ, ◌≡◌, ◌⊎◌, Bool, true, false, List, [], ◌∷◌, is_some, slice_get, Option, Some, None, refl, if◌then◌else◌}
use Rattle.std.proofs.Common.{sym, ◌∙◌, ap, subst, inl, inr}
use Rattle.base_types.specs.declared.id.AttemptId.{AttemptId}
use Rattle.base_types.specs.declared.operation.MinorWrite.{MinorWrite}
use Rattle.base_types.specs.declared.operation.Op.{Op}
use Rattle.base_types.specs.declared.operation.Read.{Read}
use Rattle.base_types.specs.declared.outcome.Outcome.{Outcome}
use Rattle.base_types.specs.declared.outcome.Outcome.TheVariants as outcome
use Rattle.base_types.specs.declared.report.Attempt.{Attempt}
use Rattle.base_types.specs.declared.report.Line.{Line}
use Rattle.base_types.specs.declared.report.Line.TheVariants as line
use Rattle.base_types.specs.declared.script.Command.{Command}
use Rattle.base_types.specs.declared.script.Command.TheVariants as command
use Rattle.base_messages.specs.declared.message.Post.{Post}
use Rattle.daos_model.specs.Accesses.{minor_writes}
use Rattle.daos_model.specs.Attempts.{is_lost}
use Rattle.world_base.specs.declared.client.ClientPlan.{ClientPlan}
use Rattle.world_base.specs.declared.client.ClientState.{ClientState}
use Rattle.world_base.specs.declared.client.Present.{Present}
use Rattle.world_base.specs.declared.client.Stage.{Stage}
use Rattle.world_base.specs.declared.client.Stage.TheVariants as stage
use Rattle.world_base.specs.ClientTurns.{Move, asks_or_goes, attempt_id, attempt_moves, begun, command_at, commits, end_line, ends, listed, moved, moves_at, next_stage, op_moves, question, rests, run_moves, waits}
use Rattle.world_contents.specs.world_letters.epochs.Epochs.{IsPast}
use Rattle.world_causes.specs.losses.Losses.{tells_stop}
use Rattle.world_causes.specs.losses.Silent.{TellNone, none-tell, one-tells}
use Rattle.world_causes.specs.outcomes.Moving.{end-own}
use Rattle.world_contents.specs.world_letters.talks.AskLaws.{move-is, waiting-rests}
use Rattle.world_contents.specs.world_letters.talks.Asked.{ARead, ASnapshot, AnAggregation, Asked, Asking, IsMove, ItsWrites, Silent, Telling}
use Rattle.world_causes.specs.outcomes.TellLaws.{AllRead, MoveTells, NoSnap, Nothing, moved-tells}

-- ---- its attempt

-- it stays, and isn't told of
pub record StaysAt (p : ClientPlan) (c : ClientState) (a : Present) (m : Move) : Type 0 where
  pub b : Present
  pub at : m.state.present ≡ Some b
  pub own : attempt_id p m.state b ≡ attempt_id p c a
  pub untold : m.line ≡ None

next-attempt : (s : Stage) (a : Present) → (next_stage s a).attempt ≡ a.attempt
next-attempt stage.Skip a = refl
next-attempt stage.Cond a = refl
next-attempt stage.Act a = refl

-- or it is as an end leaves it
module _ (p : ClientPlan) (c : ClientState) (a : Present) (Ended : Move → Type 0) (ended : Ended (ends p c a outcome.Committed)) where
  abbrev Stays : Move → Type 0
  Stays m = StaysAt p c a m ⊎ Ended m

  commits-stays : (ws : List MinorWrite) → Stays (commits p c a ws)
  commits-stays [] = inr ended
  commits-stays (w ∷ ws) = inl (record { b = record a { waits = true }; at = refl; own = refl; untold = refl })

  asks-stays : (snapshot : Bool) (r : Option Read) → Stays (asks_or_goes p c a snapshot r)
  asks-stays snapshot None = inl (record { b = next_stage a.stage a; at = refl; own = ap (λ n. record { client = p.number; command = c.command; attempt = n }) (next-attempt a.stage a); untold = refl })
  asks-stays snapshot (Some r) = inl (record { b = record a { waits = true }; at = refl; own = refl; untold = refl })

  op-stays : (ops : List Op) (snapshot : Bool) (o : Option Op) → Stays (op_moves p c a ops snapshot o)
  op-stays ops snapshot None = commits-stays (minor_writes 0 ops)
  op-stays ops snapshot (Some op) = asks-stays snapshot (question a.stage op)

  run-stays : (ops : List Op) (turns : List ℕ) (snapshot : Bool) (s : Stage) → Stays (run_moves p c a ops turns snapshot s)
  run-stays ops turns snapshot stage.Skip = inl (record { b = next_stage stage.Skip a; at = refl; own = refl; untold = refl })
  run-stays ops turns snapshot stage.Cond = op-stays ops snapshot (slice_get ops a.op)
  run-stays ops turns snapshot stage.Act = op-stays ops snapshot (slice_get ops a.op)

  attempt-stays : (d : Command) → c.present ≡ Some a → Stays (attempt_moves p c a d)
  attempt-stays (command.Run ops turns snapshot) at = run-stays ops turns (is_some snapshot) a.stage
  attempt-stays (command.Snap name cont) at = inl (record { b = record a { waits = true }; at = refl; own = refl; untold = refl })
  attempt-stays (command.Aggregate cont) at = inl (record { b = record a { waits = true }; at = refl; own = refl; untold = refl })
  attempt-stays (command.Tell n) at = inl (record { b = a; at = at; own = refl; untold = refl })
  attempt-stays (command.Skip turns) at = inl (record { b = a; at = at; own = refl; untold = refl })

  moves-stays : (o : Option Command) → c.present ≡ Some a → Stays (moves_at p c o (Some a))
  moves-stays None at = inl (record { b = a; at = at; own = refl; untold = refl })
  moves-stays (Some d) at = attempt-stays d at

  pub stays-or : c.present ≡ Some a → Stays (moved p c)
  unfolding moved
  stays-or at = by (waits c)
    where
      by : (b : Bool) → Stays (if b then rests c else moves_at p c (command_at p c) c.present)
      by true = inl (record { b = a; at = at; own = refl; untold = refl })
      by false = subst (λ o. Stays (moves_at p c (command_at p c) o)) (sym at) (moves-stays (command_at p c) at)

-- or it is over
abbrev pub StaysOrEnds : ClientPlan → ClientState → Present → Move → Type 0
StaysOrEnds p c a m = StaysAt p c a m ⊎ IsPast m.state (attempt_id p c a)

pub moved-stays : (p : ClientPlan) (c : ClientState) (a : Present) → c.present ≡ Some a → StaysOrEnds p c a (moved p c)
moved-stays p c a = stays-or p c a (λ m. IsPast m.state (attempt_id p c a)) (end-own p c (command_at p c) a outcome.Committed)

-- ---- its line

-- a line is of the client, and tells of no stop
pub record LinesSo (n : ℕ) (o : Option Line) : Type 0 where
  pub own : (b : Attempt) → o ≡ Some (line.Try b) → b.id.client ≡ n
  pub unlost : (b : Attempt) → o ≡ Some (line.Try b) → is_lost b.id b.outcome ≡ false
  pub tries : (l : Line) → o ≡ Some l → (b : Attempt) × (l ≡ line.Try b)

no-line : (n : ℕ) (o : Option Line) → o ≡ None → LinesSo n o
no-line n o none = record {
  own = λ b is. let bad : None ≡ Some (line.Try b) = sym none ∙ is in (let no : ⊥ = cc in absurd no);
  unlost = λ b is. let bad : None ≡ Some (line.Try b) = sym none ∙ is in (let no : ⊥ = cc in absurd no);
  tries = λ l is. let bad : None ≡ Some l = sym none ∙ is in (let no : ⊥ = cc in absurd no);
}

pub end-is : (p : ClientPlan) (c : ClientState) (a : Present) (how : Outcome) (b : Attempt) → Some (end_line p c a how) ≡ Some (line.Try b) → b ≡ record { id = attempt_id p c a; epoch = a.epoch; conds = a.conds; gots = a.gots; outcome = how }
end-is p c a how b is = cc

end-lines : (p : ClientPlan) (c : ClientState) (a : Present) (how : Outcome) (m : Move) → m ≡ ends p c a how → ((x : AttemptId) → is_lost x how ≡ false) → LinesSo p.number m.line
end-lines p c a how m same off = subst (λ y. LinesSo p.number y.line) (sym same) (record {
  own = λ b is. ap (λ y. y.id.client) (end-is p c a how b is);
  unlost = λ b is. let e = end-is p c a how b is in ap (λ y. is_lost y.id y.outcome) e ∙ off (attempt_id p c a);
  tries = λ l is. (_, (let e : end_line p c a how ≡ l = cc in sym e));
})

pub moved-lines : (p : ClientPlan) (c : ClientState) → LinesSo p.number (moved p c).line
moved-lines p c = by (moved-tells p c)
  where
    by : MoveTells p c (moved p c) → LinesSo p.number (moved p c).line
    by (Nothing none) = no-line p.number (moved p c).line none
    by (AllRead d a at here none same) = end-lines p c a outcome.Committed (moved p c) same (λ x. refl)
    by (NoSnap none same) = end-lines p c (begun 0 None None) outcome.NoSnapshot (moved p c) same (λ x. refl)

-- ---- what it sends

asked-none : (p : ClientPlan) (c : ClientState) (a : Present) (q : Post) → Asked p c.tracker c a q → (x : AttemptId) → tells_stop x q.message ≡ false
asked-none p c a q (ARead ops turns snapshot op rd at here asks says) x = ap (λ y. tells_stop x y.message) says
asked-none p c a q (ItsWrites ops turns snapshot w ws at last all says) x = ap (λ y. tells_stop x y.message) says
asked-none p c a q (ASnapshot name cont at says) x = ap (λ y. tells_stop x y.message) says
asked-none p c a q (AnAggregation cont at says) x = ap (λ y. tells_stop x y.message) says

pub moved-none : (p : ClientPlan) (c : ClientState) → TellNone (listed (moved p c).post)
moved-none p c = by (waits c) refl
  where
    is-a : IsMove p c (moved p c) → TellNone (listed (moved p c).post)
    is-a (Silent off none) = subst (λ o. TellNone (listed o)) (sym none) none-tell
    is-a (Telling m none off says) = subst (λ o. TellNone (listed o)) (sym says) (one-tells _ (λ x. refl))
    is-a (Asking a q at own says state) = subst (λ o. TellNone (listed o)) (sym says) (one-tells q (asked-none p c a q own))

    by : (b : Bool) → waits c ≡ b → TellNone (listed (moved p c).post)
    by true rest = subst (λ m. TellNone (listed m.post)) (sym (waiting-rests p c rest)) none-tell
    by false free = is-a (move-is p c free)

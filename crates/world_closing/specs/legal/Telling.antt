-- What a client tells in a move of an attempt that ends: its epoch is the one that was known, and it ends for want of a snapshot where the client
-- knows none by the name, and nowhere else.
use Rattle.std.specs.Prelude.{ℕ, ◌≡◌, ◌⊎◌, ◌+◌, ◌++◌, ◌&&◌, Bool, true, false, nat_lt, List, [], ◌∷◌, Option, Some, None, refl, if◌then◌else◌}
use Rattle.std.proofs.Common.{sym, ◌∙◌, ap, subst, inl, inr}
use Rattle.base_types.specs.declared.answer.Answer.{Answer}
use Rattle.base_types.specs.declared.epoch.Epoch.{Epoch}
use Rattle.base_types.specs.declared.operation.Cond.{Cond}
use Rattle.base_types.specs.declared.operation.Op.{Op}
use Rattle.base_types.specs.declared.outcome.Outcome.{Outcome}
use Rattle.base_types.specs.declared.outcome.Outcome.TheVariants as outcome
use Rattle.base_types.specs.declared.report.Attempt.{Attempt}
use Rattle.base_types.specs.declared.report.Line.{Line}
use Rattle.base_types.specs.declared.report.Line.TheVariants as line
use Rattle.base_types.specs.declared.script.Command.{Command}
use Rattle.base_types.specs.declared.script.Command.TheVariants.{Aggregate, Run, Skip, Snap, Tell}
use Rattle.base_messages.specs.declared.message.Message.{Message, more_of-Message}
use Rattle.base_messages.specs.declared.message.Message.TheVariants as message
use Rattle.base_messages.specs.declared.message.Reply.{Reply}
use Rattle.base_messages.specs.declared.message.Reply.TheVariants as reply
use Rattle.daos_model.specs.Accesses.{op_path}
use Rattle.daos_model.specs.Conditions.{holds_where}
use Rattle.world_base.specs.declared.client.ClientPlan.{ClientPlan}
use Rattle.world_base.specs.declared.client.ClientState.{ClientState}
use Rattle.world_base.specs.declared.client.Present.{Present}
use Rattle.world_base.specs.declared.client.Stage.{Stage}
use Rattle.world_base.specs.declared.client.Stage.TheVariants as stage
use Rattle.world_base.specs.ClientTurns.{Move, about, answered, at_present, attempt_id, begins_at, begun, command_at, condition_told, ends, goes, group_count, group_told, heard, heard_at, hears_epochs, is_about, is_yes, joined, known_epoch, knows, moved, moves_at, next_stage, op_of, op_told, replied, reset, rests, snaps_known, told_at, waits}
use Rattle.world_letters.specs.clients.Answered.{is_refusal}
use Rattle.world_letters.specs.lines.Lines.{IsCommitted, IsRefusalOrNone, TellsEnd}
use Rattle.world_answers.specs.world_causes.losses.Moving.{end-is}
use Rattle.world_answers.specs.world_causes.outcomes.TellLaws.{AllRead, MoveTells, NoSnap, Nothing, moved-tells}

none-some : {A : Type 0} {T : Type 0} (x : A) → None ≡ Some x → T
none-some x bad = let no : ⊥ = cc in absurd no

-- ---- moves without a message

-- the line of an attempt that reads at a snapshot which its client doesn't know
pub record WantsOne (p : ClientPlan) (c : ClientState) (b : Attempt) : Type 0 where
  pub ops : List Op
  pub turns : List ℕ
  pub name : List ℕ
  pub command : command_at p c ≡ Some (Run ops turns (Some name))
  pub unknown : known_epoch c.known name ≡ None
  pub id : b.id ≡ attempt_id p c (begun 0 None None)
  pub epoch : b.epoch ≡ None
  pub outcome : b.outcome ≡ outcome.NoSnapshot

-- the line of a present attempt that is committed
pub record IsCommittedSo (p : ClientPlan) (c : ClientState) (b : Attempt) : Type 0 where
  pub a : Present
  pub at : c.present ≡ Some a
  pub id : b.id ≡ attempt_id p c a
  pub epoch : b.epoch ≡ a.epoch
  pub outcome : b.outcome ≡ outcome.Committed

-- what a move tells is such
abbrev pub MovesTell : ClientPlan → ClientState → Option Line → Type 0
MovesTell p c o = (b : Attempt) → o ≡ Some (line.Try b) → IsCommittedSo p c b ⊎ WantsOne p c b

wanting : (p : ClientPlan) (c : ClientState) (d : Option Command) → command_at p c ≡ d → MovesTell p c (moves_at p c d None).line
wanting p c None at b is = none-some _ is
wanting p c (Some (Run ops turns None)) at b is = none-some _ is
wanting p c (Some (Run ops turns (Some name))) at b is = by (known_epoch c.known name) refl is
  where
    by : (o : Option Epoch) → known_epoch c.known name ≡ o → (begins_at p c (Some name) o).line ≡ Some (line.Try b) → IsCommittedSo p c b ⊎ WantsOne p c b
    by None none tells =
        let e = end-is p c (begun 0 None None) outcome.NoSnapshot b tells in
        inr (record { ops = ops; turns = turns; name = name; command = at; unknown = none; id = ap (λ z. z.id) e; epoch = ap (λ z. z.epoch) e; outcome = ap (λ z. z.outcome) e })
    by (Some e) known tells = none-some _ tells
wanting p c (Some (Snap name cont)) at b is = none-some _ is
wanting p c (Some (Aggregate cont)) at b is = none-some _ is
wanting p c (Some (Tell n)) at b is = none-some _ is
wanting p c (Some (Skip turns)) at b is = none-some _ is

pub moves-tell : (p : ClientPlan) (c : ClientState) → MovesTell p c (moved p c).line
unfolding moved
moves-tell p c = choose c.present refl (moved-tells p c)
  where
    choose : (o : Option Present) → c.present ≡ o → MoveTells p c (moved p c) → MovesTell p c (moved p c).line
    choose o at (Nothing none) b is = none-some _ (sym none ∙ is)
    choose o at (AllRead d a here now none same) b is =
        let e = end-is p c a outcome.Committed b (sym (ap (λ m. m.line) same) ∙ is) in
        inl (record { a = a; at = now; id = ap (λ z. z.id) e; epoch = ap (λ z. z.epoch) e; outcome = ap (λ z. z.outcome) e })
    choose o at (NoSnap none same) b is =
        subst (λ q. MovesTell p c (if (waits (record c { present = q })) then rests c else moves_at p c (command_at p c) q).line) (sym none) (wanting p c (command_at p c) refl) b is

-- ---- hearing

-- the line of a present attempt that ends by what its client is told: its epoch is the one that was known, and it doesn't end for want of a snapshot
pub record EndsAsTold (p : ClientPlan) (c : ClientState) (b : Attempt) : Type 0 where
  pub a : Present
  pub at : c.present ≡ Some a
  pub id : b.id ≡ attempt_id p c a
  pub epoch : (e : Epoch) → a.epoch ≡ Some e → b.epoch ≡ Some e
  pub sure : b.outcome ≡ outcome.NoSnapshot → ⊥

abbrev pub HearingTells : ClientPlan → ClientState → Move → Type 0
HearingTells p c m = (b : Attempt) → m.line ≡ Some (line.Try b) → EndsAsTold p c b

not-wanting : (how : Outcome) → is_refusal how ≡ true → how ≡ outcome.NoSnapshot → ⊥
not-wanting how refused same = let no : ⊥ = cc (ap is_refusal same, refused) in no

module _ (p : ClientPlan) (c : ClientState) (m : Message) (a : Present) (at : c.present ≡ Some a) where
  -- once it has heard the epochs
  abbrev f : ClientState
  f = hears_epochs m c

  quiet : (v : Move) → v.line ≡ None → HearingTells p c v
  quiet v none b is = none-some _ (sym none ∙ is)

  -- its attempt ends, of which it knew this epoch
  ending : (d : ClientState) (z : Present) (how : Outcome) → d.command ≡ c.command → z.attempt ≡ a.attempt → ((e : Epoch) → a.epoch ≡ Some e → z.epoch ≡ Some e) → (how ≡ outcome.NoSnapshot → ⊥) → HearingTells p c (ends p d z how)
  ending d z how command number epoch sure b is =
      let e = end-is p d z how b is in
      record {
        a = a;
        at = at;
        id = ap (λ y. y.id) e ∙ ap (λ n. record { client = p.number; command = n; attempt = z.attempt }) command ∙ ap (λ n. record { client = p.number; command = c.command; attempt = n }) number;
        epoch = λ k own. ap (λ y. y.epoch) e ∙ epoch k own;
        sure = λ same. sure (sym (ap (λ y. y.outcome) e) ∙ same);
      }

  learned : (ep : Option Epoch) (e : Epoch) → a.epoch ≡ Some e → (knows ep a).epoch ≡ Some e
  learned ep e own = by a.epoch own
    where
      by : (o : Option Epoch) → o ≡ Some e → (knows ep (record a { epoch = o })).epoch ≡ Some e
      by None bad = none-some e bad
      by (Some k) same = same

  module _ (ep : Option Epoch) where
    abbrev now : Present
    now = knows ep a

    condition-ends : (cond : Cond) (there : Bool) → HearingTells p c (condition_told p f now cond there)
    condition-ends cond there = by (holds_where there cond)
      where
        told : Present
        told = record now { conds = now.conds ++ (now.op, there) ∷ [] }

        by : (b : Bool) → HearingTells p c (if b then goes (at_present (next_stage stage.Cond told) f) else ends p f told (outcome.CondFailed now.op))
        by true = quiet (goes (at_present (next_stage stage.Cond told) f)) refl
        by false = ending f told (outcome.CondFailed now.op) refl refl (learned ep) (λ same. let no : ⊥ = cc in no)

    stage-ends : (cond : Cond) (s : Stage) (b : Answer) → HearingTells p c (told_at p f now cond s b)
    stage-ends cond stage.Skip b = quiet (told_at p f now cond stage.Skip b) refl
    stage-ends cond stage.Cond b = condition-ends cond (is_yes b)
    stage-ends cond stage.Act b = quiet (told_at p f now cond stage.Act b) refl

    group-ends : (op : Op) (b : Answer) → HearingTells p c (group_told p f now op b)
    group-ends op b = by (nat_lt (now.group + 1) (group_count (op_path op).obj (op_path op).dkey p.targets))
      where
        by : (l : Bool) → HearingTells p c (if l then goes (at_present (record now { group = now.group + 1; found = Some (joined now.found b) }) f) else told_at p f now op.cond now.stage (joined now.found b))
        by true = quiet (goes (at_present (record now { group = now.group + 1; found = Some (joined now.found b) }) f)) refl
        by false = stage-ends op.cond now.stage (joined now.found b)

    op-ends : (b : Answer) (o : Option Op) → HearingTells p c (op_told p f now b o)
    op-ends b None = quiet (op_told p f now b None) refl
    op-ends b (Some op) = group-ends op b

    reply-ends : (b : Reply) → IsRefusalOrNone b → HearingTells p c (replied p f now b)
    reply-ends (reply.Answer b) may = op-ends b (op_of (command_at p f) now.op)
    reply-ends (reply.Outcome how) may = ending f now how refl refl (learned ep) (not-wanting how may)

  reset-ends : (t : ℕ) (q : Message) → HearingTells p c (reset p f (record a { waits = false }) t q)
  reset-ends t (message.Commit x ep first tracker ws) = quiet (reset p f (record a { waits = false }) t (message.Commit x ep first tracker ws)) refl
  reset-ends t (message.Ask x) = quiet (reset p f (record a { waits = false }) t (message.Ask x)) refl
  reset-ends t q = ending f (record a { waits = false }) _ refl refl (λ e own. own) (λ same. let no : ⊥ = cc in no)

  answer-ends : (n : Message) → TellsEnd n → HearingTells p c (answered p f a n)
  answer-ends (message.Fetched x op group ep b) may = reply-ends ep b may
  answer-ends (message.Ended x ep how) may = ending (record f { known = snaps_known (command_at p f) ep how f.known }) (knows ep a) how refl refl (learned ep) (by may)
    where
      by : (is_refusal how ≡ true) ⊎ IsCommitted ep how → how ≡ outcome.NoSnapshot → ⊥
      by (inl refused) same = not-wanting how refused same
      by (inr k) same = let one = sym k.committed ∙ same in let no : ⊥ = cc (one) in no
  answer-ends (message.Reset' t true place (more_of-Message q more)) may = ending f (record a { waits = false }) (outcome.Unknown t) refl refl (λ e own. own) (λ same. let no : ⊥ = cc in no)
  answer-ends (message.Reset' t false place (more_of-Message q more)) may = reset-ends t q
  answer-ends n may = quiet (goes f) refl

pub hearing-tells : (p : ClientPlan) (c : ClientState) (m : Message) → TellsEnd m → HearingTells p c (heard p c m)
unfolding heard
hearing-tells p c m may = by c.present refl
  where
    by : (o : Option Present) → c.present ≡ o → HearingTells p c (heard_at p (hears_epochs m c) m o)
    by None at = λ b is. none-some _ is
    by (Some a) at = choose (a.waits && is_about (attempt_id p (hears_epochs m c) a) (about m))
      where
        choose : (b : Bool) → HearingTells p c (if b then answered p (hears_epochs m c) a m else goes (hears_epochs m c))
        choose true = answer-ends p c m a at m may
        choose false = λ b is. none-some _ is

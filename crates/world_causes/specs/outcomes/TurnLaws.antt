-- Every turn keeps that decided attempts are exactly those that are told as committed.
use Rattle.std.specs.Prelude.{ℕ, ◌≡◌, ◌≢◌, Bool, true, false, List, slice_get, Option, Some, None, refl, Contains, map, ◌++◌, ◌⊎◌}
use Rattle.std.proofs.Common.{sym, ◌∙◌, ap, subst, inl, inr}
use Rattle.base_types.specs.declared.epoch.Epoch.{Epoch}
use Rattle.base_types.specs.declared.id.AttemptId.{AttemptId}
use Rattle.base_types.specs.declared.outcome.Outcome.{Outcome}
use Rattle.base_types.specs.declared.outcome.Outcome.TheVariants as outcome
use Rattle.base_types.specs.declared.report.Attempt.{Attempt}
use Rattle.base_types.specs.declared.script.Command.{Command}
use Rattle.model_laws.specs.Members.{Has, contains-from_has, has-cases, has-from_contains, has-from_map}
use Rattle.base_messages.specs.declared.message.Message.TheVariants as message
use Rattle.base_messages.specs.declared.message.Post.{Post}
use Rattle.daos_model.specs.Accesses.{minor_writes}
use Rattle.daos_model.specs.Attempts.{tries}
use Rattle.daos_model.specs.Transactions.{attempt_ops, command_of, numbered, numbered_at, ops_of, ops_or_none}
use Rattle.world_base.specs.declared.client.ClientPlan.{ClientPlan}
use Rattle.world_base.specs.declared.client.ClientState.{ClientState}
use Rattle.world_base.specs.declared.client.Present.{Present}
use Rattle.world_base.specs.declared.world.World.{World}
use Rattle.world_base.specs.ClientTurns.{Move, attempt_id, begun, command_at, ends, listed, moved, waits}
use Rattle.world_contents.specs.world_letters.clients.AnswerLaws.{numbered-here}
use Rattle.world_contents.specs.world_letters.clients.MoveLaws.{IsAt, is-at}
use Rattle.world_contents.specs.world_letters.clients.Standing.{HasTold}
use Rattle.world_base.specs.Events.{Rules, client_plan, commands_or_none, with_epoch}
use Rattle.world_contents.specs.world_letters.lines.Lines.{Lines, filled}
use Rattle.world_contents.specs.world_commit.attempts.History.{Decided, History}
use Rattle.world_contents.specs.world_letters.talks.AskLaws.{move-is, waiting-rests}
use Rattle.world_contents.specs.world_letters.talks.Asked.{ARead, ASnapshot, AnAggregation, Asked, Asking, IsMove, ItsWrites, Silent, Telling}
use Rattle.world_causes.specs.outcomes.TellLaws.{AllRead, MoveTells, NoSnap, Nothing, moved-tells}
use Rattle.world_causes.specs.outcomes.Outcomes.{HasWrites}
use Rattle.base_types.specs.declared.report.Line.{Line}
use Rattle.daos_model.specs.Laws.{tries-append}
use Rattle.world_contents.specs.world_letters.lines.FilledLaws.{tries-filled}

-- an attempt of more lines is of those before, or of the lines that were added, with its epoch filled in
pub tried-cases : (issued : List (AttemptId × Epoch)) (lines more : List Line) (a : Attempt) → Contains (tries (lines ++ map (with_epoch issued) more)) a
    → Contains (tries lines) a ⊎ ((b : Attempt) × Has b (tries more) × (filled issued b ≡ a))
tried-cases issued lines more a i =
    let all : tries (lines ++ map (with_epoch issued) more) ≡ tries lines ++ map (filled issued) (tries more) = tries-append lines (map (with_epoch issued) more) ∙ ap (λ ts. tries lines ++ ts) (tries-filled issued more) in
    elim (has-cases (tries lines) (map (filled issued) (tries more)) a (subst (Has a) all (has-from_contains (tries (lines ++ map (with_epoch issued) more)) a i))) [
      | inl j ↦ inl (contains-from_has (tries lines) a j)
      | inr j ↦ inr (has-from_map (filled issued) (tries more) a j)
    ]

-- posts end nothing
abbrev pub EndNothing : List Post → Type 0
EndNothing posts = (q : Post) (x : AttemptId) (own : Option Epoch) (how : Outcome) → Has q posts → q.message ≢ message.Ended x own how

-- lines that are added tell as committed only attempts without writes, or decided ones with their epochs
abbrev pub TellDecided : Rules → History → List (AttemptId × Epoch) → List Line → Type 0
TellDecided r h issued more = (b : Attempt) → Has b (tries more) → b.outcome ≡ outcome.Committed → HasWrites r b.id → (e : Epoch) × ((filled issued b).epoch ≡ Some e) × Decided h b.id e

-- ---- what a client sends ends nothing

asked-ends-nothing : (p : ClientPlan) (k : Epoch) (c : ClientState) (a : Present) (q : Post) (x : AttemptId) (own : Option Epoch) (how : Outcome) → Asked p k c a q → q.message ≢ message.Ended x own how
asked-ends-nothing p k c a q x own how (ARead ops turns snapshot op r at here asks says) e = let no : ⊥ = cc (sym (ap (λ z. z.message) says) ∙ e) in no
asked-ends-nothing p k c a q x own how (ItsWrites ops turns snapshot w ws at last all says) e = let no : ⊥ = cc (sym (ap (λ z. z.message) says) ∙ e) in no
asked-ends-nothing p k c a q x own how (ASnapshot name cont at says) e = let no : ⊥ = cc (sym (ap (λ z. z.message) says) ∙ e) in no
asked-ends-nothing p k c a q x own how (AnAggregation cont at says) e = let no : ⊥ = cc (sym (ap (λ z. z.message) says) ∙ e) in no

no-post : (m : Move) → m.post ≡ None → EndNothing (listed m.post)
no-post m e q x own how i = absurd (subst (λ o. Has q (listed o)) e i)

pub move-ends-nothing : (p : ClientPlan) (c : ClientState) → EndNothing (listed (moved p c).post)
move-ends-nothing p c = by (waits c) refl
  where
    one : (m : Move) (s : Post) → m.post ≡ Some s → ((x : AttemptId) (own : Option Epoch) (how : Outcome) → s.message ≢ message.Ended x own how) → EndNothing (listed m.post)
    one m s e none q x own how i = elim (subst (λ o. Has q (listed o)) e i) [ inl same ↦ (λ f. none x own how (sym (ap (λ z. z.message) same) ∙ f)) | inr j ↦ absurd j ]

    is-a : IsMove p c (moved p c) → EndNothing (listed (moved p c).post)
    is-a (Silent free none) = no-post (moved p c) none
    is-a (Telling n none free says) = one (moved p c) _ says (λ x own how e. let no : ⊥ = cc in no)
    is-a (Asking a q at asked says state) = one (moved p c) q says (λ x own how. asked-ends-nothing p c.tracker c a q x own how asked)

    by : (b : Bool) → waits c ≡ b → EndNothing (listed (moved p c).post)
    by true h = no-post (moved p c) (ap (λ m. m.post) (waiting-rests p c h))
    by false h = is-a (move-is p c h)

-- ---- what it tells

-- the attempts of a line that ends one
pub ends-one : (p : ClientPlan) (c : ClientState) (a : Present) (how : Outcome) (m : Move) (b : Attempt) → m ≡ ends p c a how → Has b (tries (listed m.line))
    → b ≡ record { id = attempt_id p c a; epoch = a.epoch; conds = a.conds; gots = a.gots; outcome = how }
unfolding tries
ends-one p c a how m b e i = elim (subst (λ x. Has b (tries (listed x.line))) e i) [ inl same ↦ same | inr j ↦ absurd j ]

pub none-told : (m : Move) (b : Attempt) → m.line ≡ None → Has b (tries (listed m.line)) → ⊥
unfolding tries
none-told m b e i = subst (λ o. Has b (tries (listed o))) e i

-- the operations of an attempt of a client are those of the command that it is at
pub attempt-ops-here : (r : Rules) (n : ℕ) (c : ClientState) (a : Present) (d : Command) (attempts : List Attempt) → c.present ≡ Some a → HasTold (client_plan r n) c attempts → command_at (client_plan r n) c ≡ Some d
    → attempt_ops r.script (attempt_id (client_plan r n) c a) ≡ ops_of d
unfolding command_of
attempt-ops-here r n c a d attempts here told at = by (slice_get r.script.clients n) refl
  where
    k : (f : Command) × IsAt (client_plan r n) c f a attempts
    k = is-at (client_plan r n) c a attempts here told

    same : k.0 ≡ d
    same = let e : Some k.0 ≡ Some d = sym k.1.at ∙ at in cc

    by : (o : Option (List Command)) → slice_get r.script.clients n ≡ o → ops_or_none (numbered_at c.command (slice_get r.script.clients n)) ≡ ops_of d
    by None e = let bad : None ≡ Some d = sym (ap (λ x. slice_get (commands_or_none x) c.place) e) ∙ at in let no : ⊥ = cc in absurd no
    by (Some list) e =
        ap (λ x. ops_or_none (numbered_at c.command x)) e
        ∙ ap (λ x. ops_or_none (slice_get (numbered x) c.command)) (sym (ap commands_or_none e))
        ∙ ap (λ x. ops_or_none (slice_get (numbered (commands_or_none (slice_get r.script.clients n))) x)) k.1.told.numbers
        ∙ ap ops_or_none (numbered-here (client_plan r n) c.place k.0 k.1.at k.1.numbered) ∙ ap ops_of same

-- ---- moves

pub told-of : (r : Rules) (w : World) (n : ℕ) (c : ClientState) → Lines r w → slice_get w.clients n ≡ Some c → (attempts : List Attempt) × HasTold (client_plan r n) c attempts
told-of r w n c lines here = let t = lines.told n c here in (t.attempts, t.tells.told)

pub move-tells-decided : (r : Rules) (h : History) (w : World) (n : ℕ) (c : ClientState) → Lines r w → slice_get w.clients n ≡ Some c → TellDecided r h w.issued (listed (moved (client_plan r n) c).line)
move-tells-decided r h w n c lines here b i committed some = by (moved-tells p c)
  where
    p : ClientPlan
    p = client_plan r n

    Goal : Type 0
    Goal = (e : Epoch) × ((filled w.issued b).epoch ≡ Some e) × Decided h b.id e

    by : MoveTells p c (moved p c) → Goal
    by (Nothing none) = absurd (none-told (moved p c) b none i)
    by (AllRead d a at present none says) =
        let one = ends-one p c a outcome.Committed (moved p c) b says i in
        let t = told-of r w n c lines here in
        absurd (some (ap (λ x. minor_writes 0 (attempt_ops r.script x.id)) one ∙ ap (minor_writes 0) (attempt-ops-here r n c a d t.0 present t.1 at) ∙ none))
    by (NoSnap none says) =
        let one = ends-one p c (begun 0 None None) outcome.NoSnapshot (moved p c) b says i in
        let bad : outcome.NoSnapshot ≡ outcome.Committed = sym (ap (λ x. x.outcome) one) ∙ committed in
        absurd (let no : ⊥ = cc in no)

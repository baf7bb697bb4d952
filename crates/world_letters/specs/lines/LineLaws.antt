-- Every right event keeps what the lines tell of each client.
use Rattle.std.specs.Prelude.{ℕ, ◌≡◌, ◌⊎◌, ◌<◌, ◌++◌, ◌==◌, Bool, true, false, List, [], map, slice_get, Option, Some, None, refl}
use Rattle.std.proofs.Common.{append-nil, sym, ◌∙◌, ap, subst, inl, inr}
use Rattle.std.proofs.Math.ListN.{set}
use Rattle.base_types.specs.declared.epoch.Epoch.{Epoch}
use Rattle.base_types.specs.declared.outcome.Outcome.{Outcome}
use Rattle.base_types.specs.declared.outcome.Outcome.TheVariants as outcome
use Rattle.base_types.specs.declared.operation.Op.{Op}
use Rattle.base_types.specs.declared.operation.Read.{Read}
use Rattle.base_types.specs.declared.report.Attempt.{Attempt}
use Rattle.base_types.specs.declared.report.Line.{Line}
use Rattle.base_messages.specs.declared.message.Message.{Message}
use Rattle.base_messages.specs.declared.message.Message.TheVariants as message
use Rattle.base_messages.specs.declared.message.Post.{Post}
use Rattle.base_messages.specs.declared.message.Reply.{Reply}
use Rattle.base_messages.specs.declared.message.Reply.TheVariants as reply
use Rattle.world_base.specs.model_laws.Members.{has-right}
use Rattle.world_base.specs.model_laws.TargetLaws.{number_same, same_number}
use Rattle.daos_model.specs.Attempts.{tries, tries_of}
use Rattle.daos_model.specs.Transactions.{ops_or_none}
use Rattle.world_base.specs.declared.client.ClientPlan.{ClientPlan}
use Rattle.world_base.specs.declared.client.ClientState.{ClientState}
use Rattle.world_base.specs.declared.client.Present.{Present}
use Rattle.world_base.specs.declared.letter.Letter.{Letter}
use Rattle.world_base.specs.declared.world.World.{World}
use Rattle.world_base.specs.ClientTurns.{listed, moved, question}
use Rattle.world_letters.specs.clients.AnswerLaws.{Tells, moved-answered}
use Rattle.world_letters.specs.clients.Answered.{IsFit, IsReplyFit, is_refusal, ops_here}
use Rattle.world_letters.specs.clients.MoveLaws.{moved-keeps}
use Rattle.world_letters.specs.clients.Standing.{number_of}
use Rattle.world_base.specs.Events.{Rules, client_plan, with_client, with_epoch}
use Rattle.world_base.specs.StepLaws.{set-here, set-there}
use Rattle.world_base.specs.Steps.{KeptByCounting, KeptByMoves}
use Rattle.world_letters.specs.lines.FilledLaws.{AreOf, others-same, own-more, same-append, same-filled, stands-of}
use Rattle.world_letters.specs.lines.Lines.{AreTheSame, HasLines, IsCommitted, IsRefusalOrNone, Lines, TellsEnd, filled}
use Rattle.world_letters.specs.talks.Asked.{ARead, ASnapshot, AnAggregation, Asked, ItsWrites}
use Rattle.world_letters.specs.talks.Conversation.{Answers}

-- ---- what a client did

-- the attempts of lines that a client adds are its own
own-lines : (p : ClientPlan) (d : ClientState) (attempts : List Attempt) (more : List Line) → Tells p d (attempts ++ tries more) → AreOf p.number (tries more)
own-lines p d attempts more k a i = stands-of p d.place d.command (number_of d.present) (attempts ++ tries more) k.told a (has-right attempts (tries more) a i)

-- its own lines go on from those so far
own-lines-told : (r : Rules) (w : World) (n : ℕ) (c d : ClientState) (more : List Line) (k : HasLines (client_plan r n) n c w.lines) → Tells (client_plan r n) d (k.attempts ++ tries more)
    → HasLines (client_plan r n) n d (w.lines ++ map (with_epoch w.issued) more)
own-lines-told r w n c d more k told = record {
  attempts = k.attempts ++ tries more;
  tells = told;
  same = subst (AreTheSame (k.attempts ++ tries more)) (sym (own-more w.issued n w.lines more (own-lines (client_plan r n) d k.attempts more told)))
      (same-append k.attempts (tries_of n w.lines) (tries more) (map (filled w.issued) (tries more)) k.same (same-filled w.issued (tries more)));
}

-- a client that did something, and all others
pub did-tell : (r : Rules) (w : World) (n : ℕ) (c d : ClientState) (letters unanswered : List Letter) (more : List Line) (k : Lines r w) (here : slice_get w.clients n ≡ Some c)
    → Tells (client_plan r n) d ((k.told n c here).attempts ++ tries more)
    → Lines r (with_client n d (record w { messages = letters; asked = unanswered; lines = w.lines ++ map (with_epoch w.issued) more }))
did-tell r w n c d letters unanswered more k here told = record { told = told'; nobody = nobody }
  where
    own : AreOf n (tries more)
    own = own-lines (client_plan r n) d (k.told n c here).attempts more told

    lines : List Line
    lines = w.lines ++ map (with_epoch w.issued) more

    at-it : (e : ClientState) → slice_get (set w.clients n d) n ≡ Some e → HasLines (client_plan r n) n e lines
    at-it e at =
        let q : Some d ≡ Some e = sym (set-here w.clients n c d here) ∙ at in
        let same : d ≡ e = cc in
        subst (λ f. HasLines (client_plan r n) n f lines) same (own-lines-told r w n c d more (k.told n c here) told)

    another : (m : ℕ) (e : ClientState) → ((m ≡ n) → ⊥) → slice_get (set w.clients n d) m ≡ Some e → HasLines (client_plan r m) m e lines
    another m e apart at =
        let t = k.told m e (sym (set-there w.clients n m d apart) ∙ at) in
        record { attempts = t.attempts; tells = t.tells; same = subst (AreTheSame t.attempts) (sym (others-same w.issued n m w.lines more (λ s. apart (sym s)) own)) t.same }

    told' : (m : ℕ) (e : ClientState) → slice_get (set w.clients n d) m ≡ Some e → HasLines (client_plan r m) m e lines
    told' m e at = by (m == n) refl
      where
        by : (b : Bool) → (m == n) ≡ b → HasLines (client_plan r m) m e lines
        by true s = subst (λ x. HasLines (client_plan r x) x e lines) (sym (number_same m n s)) (at-it e (ap (λ x. slice_get (set w.clients n d) x) (sym (number_same m n s)) ∙ at))
        by false s = another m e (λ q. let no : true ≡ false = sym (ap (λ x. x == n) q ∙ same_number n) ∙ s in absurd (let bad : ⊥ = cc in bad)) at

    nobody : (m : ℕ) → slice_get (set w.clients n d) m ≡ None → tries_of m lines ≡ []
    nobody m none = by (m == n) refl
      where
        by : (b : Bool) → (m == n) ≡ b → tries_of m lines ≡ []
        by true s =
            let q : Some d ≡ None = sym (set-here w.clients n c d here) ∙ ap (λ x. slice_get (set w.clients n d) x) (sym (number_same m n s)) ∙ none in
            absurd (let bad : ⊥ = cc in bad)
        by false s =
            let apart : (m ≡ n) → ⊥ = λ q. let no : true ≡ false = sym (ap (λ x. x == n) q ∙ same_number n) ∙ s in absurd (let bad : ⊥ = cc in bad) in
            others-same w.issued n m w.lines more (λ x. apart (sym x)) own ∙ k.nobody m (sym (set-there w.clients n m d apart) ∙ none)

-- ---- moves

pub lines-by-moves : (r : Rules) → 0 < r.attempts → KeptByMoves r (Lines r)
lines-by-moves r some w n c here k =
    let t = k.told n c here in
    did-tell r w n c (moved (client_plan r n) c).state _ _ (listed (moved (client_plan r n) c).line) k here
    (record { told = moved-keeps (client_plan r n) c t.attempts some t.tells.told; answers = moved-answered (client_plan r n) c t.attempts some t.tells })

pub lines-by-counting : (r : Rules) → KeptByCounting (Lines r)
unfolding tries
lines-by-counting r w n j c here k =
    let t = k.told n c here in
    subst (λ ls. Lines r (with_client n (record c { skip = j }) (record w { lines = ls }))) (append-nil w.lines)
    (did-tell r w n c (record c { skip = j }) w.messages w.asked [] k here (skipped n j c t.attempts t.tells))
  where
    skipped : (n j : ℕ) (c : ClientState) (attempts : List Attempt) → Tells (client_plan r n) c attempts → Tells (client_plan r n) (record c { skip = j }) (attempts ++ tries [])
    skipped n j c attempts t = subst (Tells (client_plan r n) (record c { skip = j })) (sym (append-nil attempts)) (record { told = t.told; answers = record { ended = t.answers.ended; here = t.answers.here } })

-- ---- hearing

reply-fit : (p : ClientPlan) (c : ClientState) (a : Present) (ops : List Op) (op : Op) (read : Read) (b : Reply) → ops_here p c ≡ ops → slice_get ops a.op ≡ Some op → question a.stage op ≡ Some read → IsRefusalOrNone b
    → IsReplyFit (ops_here p c) a b
reply-fit p c a ops op read (reply.Answer x) here at asks k = record { op = op; read = read; at = ap (λ o. slice_get o a.op) here ∙ at; asks = asks }
reply-fit p c a ops op read (reply.Outcome how) here at asks k = k

-- what a client gets is fit to what it asked
pub got-fits : (p : ClientPlan) (k : Epoch) (c : ClientState) (a : Present) (q : Post) (m : Message) → Asked p k c a q → Answers q.message m → TellsEnd m → IsFit p c a m
got-fits p k c a q m (ARead ops turns snapshot op r at here asks says) answers ends =
    let o = subst (λ s. Answers s.message m) says answers in
    subst (IsFit p c a) (sym o.2) (reply-fit p c a ops op r o.1 (ap ops_or_none at) here asks (subst TellsEnd o.2 ends))
got-fits p k c a q m (ItsWrites ops turns snapshot w ws at last all says) answers ends =
    let o = subst (λ s. Answers s.message m) says answers in
    subst (IsFit p c a) (sym o.2) (end-fit o.0 o.1 (subst TellsEnd o.2 ends))
  where
    end-fit : (ep : Option Epoch) (how : Outcome) → (is_refusal how ≡ true) ⊎ IsCommitted ep how → (is_refusal how ≡ true) ⊎ ((how ≡ outcome.Committed) × (slice_get (ops_here p c) a.op ≡ None))
    end-fit ep how (inl r) = inl r
    end-fit ep how (inr e) = inr (e.committed, ap (λ x. slice_get (ops_or_none x) a.op) at ∙ last)
got-fits p k c a q m (ASnapshot name cont at says) answers ends =
    let o = subst (λ s. Answers s.message m) says answers in
    subst (IsFit p c a) (sym o.2) (end-fit o.0 o.1 (subst TellsEnd o.2 ends))
  where
    end-fit : (ep : Option Epoch) (how : Outcome) → (is_refusal how ≡ true) ⊎ IsCommitted ep how → (is_refusal how ≡ true) ⊎ ((how ≡ outcome.Committed) × (slice_get (ops_here p c) a.op ≡ None))
    end-fit ep how (inl r) = inl r
    end-fit ep how (inr e) = inr (e.committed, ap (λ x. slice_get (ops_or_none x) a.op) at)
got-fits p k c a q m (AnAggregation cont at says) answers ends =
    let o = subst (λ s. Answers s.message m) says answers in
    subst (IsFit p c a) (sym o.2) (end-fit o.0 o.1 (subst TellsEnd o.2 ends))
  where
    end-fit : (ep : Option Epoch) (how : Outcome) → (is_refusal how ≡ true) ⊎ IsCommitted ep how → (is_refusal how ≡ true) ⊎ ((how ≡ outcome.Committed) × (slice_get (ops_here p c) a.op ≡ None))
    end-fit ep how (inl r) = inl r
    end-fit ep how (inr e) = inr (e.committed, ap (λ x. slice_get (ops_or_none x) a.op) at)

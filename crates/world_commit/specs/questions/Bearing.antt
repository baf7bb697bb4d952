-- A leader whose turn is cut keeps the entries that it leads, but for one of an attempt that it aborted.
use Rattle.std.specs.Prelude.{ℕ, ◌≡◌, ◌≢◌, ◌⊎◌, Bool, true, false, List, [], ◌∷◌, Option, Some, None, refl, is_some}
use Rattle.std.proofs.Common.{sym, ◌∙◌, ap, subst, inl, inr}
use Rattle.base_types.specs.declared.entry.Entry.{Entry}
use Rattle.base_types.specs.declared.epoch.Epoch.{Epoch}
use Rattle.base_types.specs.declared.id.AttemptId.{AttemptId}
use Rattle.base_types.specs.declared.outcome.FloorWhy.{FloorWhy}
use Rattle.base_types.specs.declared.operation.MinorWrite.{MinorWrite}
use Rattle.base_types.specs.declared.outcome.Outcome.{Outcome}
use Rattle.base_types.specs.declared.entry.EntryState.TheVariants as state
use Rattle.base_types.specs.declared.outcome.Cause.TheVariants.{Unresolved}
use Rattle.base_types.specs.declared.outcome.Outcome.TheVariants.{Committed, Restart}
use Rattle.base_types.specs.declared.report.Line.{Line}
use Rattle.model_laws.specs.Members.{Has}
use Rattle.base_messages.specs.declared.message.Message.{Message}
use Rattle.base_messages.specs.declared.message.Message.TheVariants as message
use Rattle.daos_model.specs.BoolLaws.{and_right}
use Rattle.daos_model.specs.declared.durable.Durable.{Durable}
use Rattle.daos_model.specs.Durables.{entry_of}
use Rattle.world_commit.specs.asks.Entries.{IsKept, Spares, commit-spares, fetch-spares, idle-spares, kept-step, marked-spares, marking-spares, prepare-spares, verdict-spares}
use Rattle.world_commit.specs.asks.Knowing.{CommitsAreNew, TellsOf}
use Rattle.world_commit.specs.attempts.Attempts.{IsBorn, IsOther, entry_at, entry_in, leader_of}
use Rattle.world_commit.specs.attempts.Counting.{has-taken}
use Rattle.world_commit.specs.attempts.History.{Aborted, GrowsBy, History}
use Rattle.world_commit.specs.attempts.Stored.{target-is}
use Rattle.world_commit.specs.attempts.MemberBits.{other-no_leader}
use Rattle.world_commit.specs.attempts.Turning.{one-or_another, one-or_other}
use Rattle.world_commit.specs.fates.Facts.{Attempts, IsAckRight, IsSaidSo}
use Rattle.world_commit.specs.fates.Told.{silent_end, told_end}
use Rattle.world_commit.specs.questions.Known.{knows-fates}
use Rattle.world_commit.specs.stops.CutAnswers.{ack_told}
use Rattle.world_commit.specs.stops.CutEvents.{IsWithoutSnapshots, cut_told, is_without_snapshots, message_told}
use Rattle.world_commit.specs.stops.Parts.{now-here, now-there}
use Rattle.world_base.specs.declared.letter.Letter.{Letter}
use Rattle.world_base.specs.declared.request.CommitRequest.{CommitRequest}
use Rattle.world_base.specs.declared.target.TargetMemory.{TargetMemory}
use Rattle.world_base.specs.declared.target.TargetPlan.{TargetPlan}
use Rattle.world_base.specs.declared.target.TargetState.{TargetState}
use Rattle.world_base.specs.declared.world.World.{World}
use Rattle.world_base.specs.Acks as ack
use Rattle.world_base.specs.Changes.{After, Before, Change, InPart, IsPartly, Kept, Prunes}
use Rattle.world_base.specs.Commits as commit
use Rattle.world_base.specs.CutTurns.{CommitIsCut, CutHere, CutTurn, Cutting, HearingIsCut, InChange, InQuestion, NoneIsDown, OneIsDown, UnstoredNext, issued_by_commit, issued_by_fetch, none_issued}
use Rattle.world_base.specs.CutTurns as cutting
use Rattle.world_base.specs.Events.{Rules, kept, target_plan}
use Rattle.world_base.specs.Idle.{IdleNext}
use Rattle.world_base.specs.Letters.{Takes, client, target}
use Rattle.world_base.specs.Marks as mark
use Rattle.world_base.specs.PathLaws.{path-keeps}
use Rattle.world_base.specs.Prepares as prepare
use Rattle.world_base.specs.Reads as read
use Rattle.world_base.specs.Roles.{is_prepared, leader_at, told_by}
use Rattle.world_base.specs.Statuses.{AtOnce, Looking, Looks, NoChange}
use Rattle.world_base.specs.Stops.{AtWork, CutOf, Hearing, IdleWork, IsInHand, TargetCut, stopped_at}
use Rattle.world_base.specs.TargetTurns.{commit_request, fetch_request, prepare_request}
use Rattle.world_base.specs.Verdicts as verdict

-- ---- a cut whose steps spare an attempt

-- what spares an attempt is made whole, or not at all
spared-whole : (x : AttemptId) (c : Change) (d e : Durable) → Spares x (Some c) → IsPartly c d e → ⊥
spared-whole x (Prunes f upto n) d e spares part = spares
spared-whole x c d e spares part = part

-- R says of a stage what spares the attempt in the next step
module _ {S : Type 0} (Next : S → Kept → Option Change → S → Type 0) (x : AttemptId) (R : S → Type 0) (spares : (a : S) (k : Kept) (o : Option Change) (b : S) → Next a k o b → R a → Spares x o × R b) where
  cut-spares : (issues : S → List (AttemptId × Epoch)) (t : ℕ) (start : S) (old : Kept) (cut : Cutting) → CutTurn Next issues t start old cut → R start → IsKept old.durable x → IsKept cut.left.durable x
  cut-spares issues t start old cut turn begins has = by turn.lines turn.here
    where
      so-far : R turn.last × IsKept turn.mid.durable x
      so-far = path-keeps Next (λ a k. R a × IsKept k.durable x) (λ a k o b l next steps p. let z = spares a k o b next p.0 in (z.1, kept-step x o k l steps z.0 p.1)) start old turn.did turn.last turn.mid turn.path (begins, has)

      by : (lines : List Line) → CutHere Next t turn.last turn.mid cut.left lines → IsKept cut.left.durable x
      by lines (InQuestion same free) = subst (λ d. IsKept d x) (sym same) so-far.1
      by lines (InChange c next is (Before same) free) = subst (λ d. IsKept d x) (sym same) so-far.1
      by lines (InChange c next is (After same) free) = kept-step x (Some c) turn.mid cut.left (same, free) (spares turn.last turn.mid (Some c) next is so-far.0).0 so-far.1
      by lines (InChange c next is (InPart part) free) = absurd (spared-whole x c turn.mid.durable cut.left.durable (spares turn.last turn.mid (Some c) next is so-far.0).0 part)

-- ---- each kind of turn

-- none of these is the attempt
abbrev NoneIs : AttemptId → List (AttemptId × Bool) → Type 0
NoneIs x marks = (a : AttemptId) (c : Bool) → Has (a, c) marks → x ≡ a → ⊥

mark-left : (x : AttemptId) (a : List (AttemptId × Bool)) (k : Kept) (o : Option Change) (b : List (AttemptId × Bool)) → mark.MarkNext is_prepared a k o b → NoneIs x a → Spares x o × NoneIs x b
mark-left x a k o b (mark.SettlesMarked j y c rest is) none = (marking-spares x y c (none y c (inl refl)), λ z d i. none z d (inr i))
mark-left x a k o b (mark.PassesBy j y c rest is) none = (tt, λ z d i. none z d (inr i))

ack-left : (t : TargetPlan) (m : TargetMemory) (member : ℕ) (y : AttemptId) (inc : ℕ) (x : AttemptId) (a : ack.AckStage) (k : Kept) (o : Option Change) (b : ack.AckStage) → ack.AckNext t m member y inc None a k o b → Spares x o
ack-left t m member y inc x a k o b (ack.Aborts j is) =
    let none : false ≡ true = and_right (ack.is_awaited member y inc (leader_at t m k.durable)) false is in let no : ⊥ = cc in absurd no
ack-left t m member y inc x a k o b (ack.Counts j is) = tt

other-left : (t : TargetPlan) (m : TargetMemory) (member : ℕ) (y : AttemptId) (inc : ℕ) (how : Outcome) (x : AttemptId) → (x ≡ y → ⊥) → (a : ack.AckStage) (k : Kept) (o : Option Change) (b : ack.AckStage) → ack.AckNext t m member y inc (Some how) a k o b → Spares x o
other-left t m member y inc how x apart a k o b (ack.Aborts j is) = apart
other-left t m member y inc how x apart a k o b (ack.Counts j is) = tt

unstored-left : (t : TargetPlan) (opening : Epoch × FloorWhy) (m : TargetMemory) (reading : ℕ) (q : CommitRequest) (x : AttemptId) → (x ≡ q.attempt → ⊥) → (a : commit.CommitStage) (k : Kept) (o : Option Change) (b : commit.CommitStage)
    → UnstoredNext t opening m reading q a k o b → Spares x o
unstored-left t opening m reading q x apart a k o b (cutting.Before a2 b2 k2 o2 next un) = (commit-spares t opening m reading q x apart a k o b next).0

commit-left : (t : TargetPlan) (opening : Epoch × FloorWhy) (m : TargetMemory) (reading : ℕ) (q : CommitRequest) (x : AttemptId) → (x ≡ q.attempt → ⊥) → (old : Kept) (cut : Cutting) → CommitIsCut t opening m reading q old cut → IsKept old.durable x → IsKept cut.left.durable x
commit-left t opening m reading q x apart old cut (NoneIsDown none turn) has =
    cut-spares (commit.CommitNext t opening m reading q) x (λ a. Unit {0}) (λ a k o b next z. ((commit-spares t opening m reading q x apart a k o b next).0, tt)) (issued_by_commit q) t.me commit.Asked old cut turn tt has
commit-left t opening m reading q x apart old cut (OneIsDown e down is turn) has =
    cut-spares (UnstoredNext t opening m reading q) x (λ a. Unit {0}) (λ a k o b next z. (unstored-left t opening m reading q x apart a k o b next, tt)) (issued_by_commit q) t.me commit.Asked old cut turn tt has

-- nothing is changed
query-left : (x : AttemptId) (a : verdict.QueryStage) (k : Kept) (o : Option Change) (b : verdict.QueryStage) → verdict.QueryNext a k o b → Spares x o
query-left x a k o b (verdict.Answers j) = tt

looks-left : (x : AttemptId) (a : AtOnce) (k : Kept) (o : Option Change) (b : AtOnce) → NoChange a k o b → Spares x o
looks-left x a k o b (Looks j) = tt

-- the entry of an attempt that an Ack refused may have gone, and then it is told as refused
module _ (h later : History) (s : TargetState) (x : AttemptId) (how : Outcome) (d : Durable) (refuses : how ≢ Committed) (grows : GrowsBy h (ack_told s x (Some how) d) later) (has : IsKept s.durable x) where
  told-gone : (o : Option Entry) → entry_of d x ≡ o → IsKept d x ⊎ Aborted later x
  told-gone (Some e) at = inl (e, at)
  told-gone None at = inr (grows.refused x (record { own = Some has.0.epoch; how = how; told = record { to = client x.client; sent = subst (Has (told_end x (Some has.0.epoch) how)) (sym told) (inl refl) }; refused = refuses }))
    where
      told : ack_told s x (Some how) d ≡ told_end x (Some has.0.epoch) how ∷ []
      told = ap (λ o. silent_end x (Some how) o false false (is_some (entry_of d x))) has.1 ∙ ap (λ o. silent_end x (Some how) (Some has.0) false false (is_some o)) at

-- ---- the event

module _ (r : Rules) (h later : History) (w v : World) (Q : CommitsAreNew r h w) (A : Attempts r h w) (g : TargetCut r w v) where
  abbrev plan : TargetPlan
  plan = target_plan r g.t

  -- one that it leads and holds
  module _ (x : AttemptId) (leads : g.t ≡ leader_of r x) (has : IsKept g.s.durable x) where
    held : entry_at w g.t x ≡ Some has.0
    held = ap (λ o. entry_in o x) g.here ∙ has.1

    -- what it is told of by other leaders isn't that attempt
    led-apart : (l : Letter) (rest : List Letter) → Takes w.messages l rest → l.to ≡ target g.t → (y : AttemptId) (m : Message) → l.message ≡ m → TellsOf y m → x ≡ y → ⊥
    led-apart l rest takes to y m is tells same =
        let way = (knows-fates r h w A).told l y (has-taken w.messages l rest takes) (subst (TellsOf y) (sym is) tells) in
        other-no_leader r y g.t (subst (IsOther r y) (target-is way.member g.t (sym way.receiver ∙ to)) way.other) (leads ∙ ap (leader_of r) same)

    -- nor is what a client brings
    new-apart : (l : Letter) (rest : List Letter) → Takes w.messages l rest → (y : AttemptId) (ep first : Option Epoch) (tracker : Epoch) (ws : List MinorWrite) → l.message ≡ message.Commit y ep first tracker ws → x ≡ y → ⊥
    new-apart l rest takes y ep first tracker ws is same =
        let none : entry_at w (leader_of r y) y ≡ None = (Q l y ep first tracker ws (has-taken w.messages l rest takes) is).unstored in
        let one : entry_at w (leader_of r y) y ≡ Some has.0 = ap (λ n. entry_at w n y) (ap (leader_of r) (sym same) ∙ sym leads) ∙ ap (entry_at w g.t) (sym same) ∙ held in
        let no : ⊥ = cc (none, one) in no

    -- an answer that refuses
    refused : (l : Letter) (rest : List Letter) → Takes w.messages l rest → (y : AttemptId) (inc : ℕ) (how : Outcome) → how ≢ Committed → GrowsBy h (ack_told g.s y (Some how) g.cut.left.durable) later
        → CutTurn (ack.AckNext plan g.s.memory l.from.number y inc (Some how)) none_issued g.t ack.Heard (kept g.s) g.cut → (x ≡ y) ⊎ (x ≡ y → ⊥) → IsKept g.cut.left.durable x ⊎ Aborted later x
    refused l rest takes y inc how uncommitted grows turn (inr apart) =
        inl (cut-spares (ack.AckNext plan g.s.memory l.from.number y inc (Some how)) x (λ a. Unit {0}) (λ a k o b next z. (other-left plan g.s.memory l.from.number y inc how x apart a k o b next, tt)) none_issued g.t ack.Heard (kept g.s) g.cut turn tt has)
    refused l rest takes y inc how uncommitted grows turn (inl same) =
        told-gone h later g.s x how g.cut.left.durable uncommitted (subst (λ z. GrowsBy h (ack_told g.s z (Some how) g.cut.left.durable) later) (sym same) grows) has (entry_of g.cut.left.durable x) refl

    by-kind : (l : Letter) (reading number : ℕ) (rest : List Letter) → Takes w.messages l rest → l.to ≡ target g.t → (m : Message) → l.message ≡ m → is_without_snapshots m ≡ true
        → HearingIsCut is_prepared number plan g.s.opening g.s.memory reading l.from m (kept g.s) g.cut → GrowsBy h (message_told m g.s g.cut) later → IsKept g.cut.left.durable x ⊎ Aborted later x
    by-kind l reading number rest takes to (message.Fetch y op group ep first tracker rd snapshot) is ours turn grows =
        inl (cut-spares (read.FetchNext plan g.s.memory reading (fetch_request y op group ep first tracker rd snapshot)) x (λ a. Unit {0})
        (λ a k o b next z. ((fetch-spares plan g.s.memory reading (fetch_request y op group ep first tracker rd snapshot) x a k o b next).0, tt)) (issued_by_fetch (fetch_request y op group ep first tracker rd snapshot)) g.t read.Asked (kept g.s) g.cut turn tt has)
    by-kind l reading number rest takes to (message.Commit y ep first tracker ws) is ours turn grows =
        inl (commit-left plan g.s.opening g.s.memory reading (commit_request y ep first tracker ws) x (new-apart l rest takes y ep first tracker ws is) (kept g.s) g.cut turn has)
    by-kind l reading number rest takes to (message.Prepare e first ws inc) is ours turn grows =
        inl (cut-spares (prepare.PrepareNext plan g.s.opening g.s.memory (prepare_request e first ws inc)) x (λ a. Unit {0})
        (λ a k o b next z. ((prepare-spares plan g.s.opening g.s.memory (prepare_request e first ws inc) x (led-apart l rest takes to e.attempt (message.Prepare e first ws inc) is refl) a k o b next).0, tt)) none_issued g.t prepare.Heard (kept g.s) g.cut turn tt has)
    by-kind l reading number rest takes to (message.Ack y inc None) is ours turn grows =
        inl (cut-spares (ack.AckNext plan g.s.memory l.from.number y inc None) x (λ a. Unit {0}) (λ a k o b next z. (ack-left plan g.s.memory l.from.number y inc x a k o b next, tt)) none_issued g.t ack.Heard (kept g.s) g.cut turn tt has)
    by-kind l reading number rest takes to (message.Ack y inc (Some how)) is ours turn grows =
        let says : IsAckRight r h w l.from l.to y inc (Some how) = subst (IsSaidSo r h w l.from l.to) is (A.on.letters l (has-taken w.messages l rest takes)) in
        refused l rest takes y inc how says.held grows turn (one-or_other x y)
    by-kind l reading number rest takes to (message.StatusIs y inc state.Absent) is ours turn grows = refused l rest takes y inc (Restart (Unresolved y)) (λ same. let no : ⊥ = cc in no) grows turn (one-or_other x y)
    by-kind l reading number rest takes to (message.StatusIs y inc state.Prepared) is ours turn grows =
        inl (cut-spares (ack.AckNext plan g.s.memory l.from.number y inc None) x (λ a. Unit {0}) (λ a k o b next z. (ack-left plan g.s.memory l.from.number y inc x a k o b next, tt)) none_issued g.t ack.Heard (kept g.s) g.cut turn tt has)
    by-kind l reading number rest takes to (message.StatusIs y inc state.Committed) is ours turn grows =
        inl (cut-spares (ack.AckNext plan g.s.memory l.from.number y inc None) x (λ a. Unit {0}) (λ a k o b next z. (ack-left plan g.s.memory l.from.number y inc x a k o b next, tt)) none_issued g.t ack.Heard (kept g.s) g.cut turn tt has)
    by-kind l reading number rest takes to (message.Mark inc marks) is ours turn grows =
        inl (cut-spares (mark.MarkNext is_prepared) x (NoneIs x) (mark-left x) none_issued g.t marks (kept g.s) g.cut turn (λ a c i. led-apart l rest takes to a (message.Mark inc marks) is (c, i)) has)
    by-kind l reading number rest takes to (message.Marked inc ids) is ours turn grows =
        inl (cut-spares (ack.MarkedNext plan g.s.memory l.from.number) x (λ a. Unit {0}) (λ a k o b next z. ((marked-spares plan g.s.memory l.from.number x a k o b next).0, tt)) none_issued g.t (ack.to_confirm inc ids g.s.durable) (kept g.s) g.cut turn tt has)
    by-kind l reading number rest takes to (message.Verdict y ask inc c) is ours turn grows =
        inl (cut-spares (verdict.VerdictNext is_prepared plan (told_by c y g.s.memory) reading y ask c) x (λ a. Unit {0})
        (λ a k o b next z. (verdict-spares is_prepared plan (told_by c y g.s.memory) reading y ask c x (led-apart l rest takes to y (message.Verdict y ask inc c) is refl) a k o b next, tt)) none_issued g.t verdict.Heard (kept g.s) g.cut turn tt has)
    by-kind l reading number rest takes to (message.Query y ask) is ours turn grows = inl (cut-spares verdict.QueryNext x (λ a. Unit {0}) (λ a k o b next z. (query-left x a k o b next, tt)) none_issued g.t verdict.IsAsked (kept g.s) g.cut turn tt has)
    by-kind l reading number rest takes to (message.Ask y) is ours turn grows = inl (cut-spares NoChange x (λ a. Unit {0}) (λ a k o b next z. (looks-left x a k o b next, tt)) none_issued g.t Looking (kept g.s) g.cut turn tt has)
    by-kind l reading number rest takes to (message.Status y inc) is ours turn grows = inl (cut-spares NoChange x (λ a. Unit {0}) (λ a k o b next z. (looks-left x a k o b next, tt)) none_issued g.t Looking (kept g.s) g.cut turn tt has)
    by-kind l reading number rest takes to (message.Reset' by down place more) is ours turn grows = inl (cut-spares NoChange x (λ a. Unit {0}) (λ a k o b next z. (looks-left x a k o b next, tt)) none_issued g.t Looking (kept g.s) g.cut turn tt has)
    by-kind l reading number rest takes to (message.Snap y c name tracker) is ours turn grows = let no : ⊥ = cc in absurd no
    by-kind l reading number rest takes to (message.Freeze y c s) is ours turn grows = let no : ⊥ = cc in absurd no
    by-kind l reading number rest takes to (message.Held y refusal) is ours turn grows = let no : ⊥ = cc in absurd no
    by-kind l reading number rest takes to (message.Prune y c tracker e) is ours turn grows = let no : ⊥ = cc in absurd no
    by-kind l reading number rest takes to m is ours turn grows = absurd turn

    own-kept : IsWithoutSnapshots g.work → GrowsBy h (cut_told g.work g.s g.cut) later → IsKept g.cut.left.durable x ⊎ Aborted later x
    own-kept ours grows = by g.work ours grows g.in_hand g.turn
      where
        by : (a : AtWork) → IsWithoutSnapshots a → GrowsBy h (cut_told a g.s g.cut) later → IsInHand w g.t a → CutOf plan g.s a g.cut → IsKept g.cut.left.durable x ⊎ Aborted later x
        by (Hearing l reading number) ours grows hand turn = by-kind l reading number hand.0.0 hand.0.1 hand.1 l.message refl ours turn grows
        by IdleWork ours grows hand turn = inl (cut-spares IdleNext x (λ a. Unit {0}) (λ a k o b next z. ((idle-spares x a k o b next).0, tt)) none_issued g.t g.s.memory.leader.decided (kept g.s) g.cut turn tt has)

  -- what was stored by its leader is stored, or is aborted
  pub cut-born : IsWithoutSnapshots g.work → GrowsBy h (cut_told g.work g.s g.cut) later → (x : AttemptId) → IsBorn r h w x → IsBorn r later v x
  cut-born ours grows x (inr a) = inr (grows.aborted x a)
  cut-born ours grows x (inl k) = elim (one-or_another (leader_of r x) g.t) [
    | inl is ↦
        elim (own-kept x (sym is) (k.entry, sym (ap (λ o. entry_in o x) g.here) ∙ ap (λ n. entry_at w n x) (sym is) ∙ k.found) ours grows) [
          | inl still ↦ inl (record { entry = still.0; found = ap (λ n. entry_at v n x) is ∙ now-here w v g.t g.s (stopped_at g.s g.cut.left) g.here (ap (λ u. u.targets) g.after) (λ o. entry_in o x) ∙ still.1 })
          | inr gone ↦ inr gone
        ]
    | inr off ↦ inl (record { entry = k.entry; found = now-there w v g.t g.s (stopped_at g.s g.cut.left) g.here (ap (λ u. u.targets) g.after) (λ o. entry_in o x) (leader_of r x) off ∙ k.found })
  ]

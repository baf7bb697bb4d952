-- Where targets may stop, the facts of attempts say what versions and reads make use of.
use Rattle.std.specs.Prelude.{ℕ, ◌≡◌, ◌==◌, true, is_some, List, slice_get, Option, Some, None, refl}
use Rattle.std.proofs.Common.{sym, ◌∙◌, ap, subst}
use Rattle.base_types.specs.declared.entry.Entry.{Entry}
use Rattle.base_types.specs.declared.entry.EntryState.{EntryState}
use Rattle.base_types.specs.declared.entry.EntryState.TheVariants as state
use Rattle.base_types.specs.declared.epoch.Epoch.{Epoch}
use Rattle.base_types.specs.declared.id.AttemptId.{AttemptId}
use Rattle.base_types.specs.declared.operation.MinorWrite.{MinorWrite}
use Rattle.base_types.specs.declared.outcome.Outcome.{Outcome}
use Rattle.model_laws.specs.Members.{Has, contains-from_has}
use Rattle.model_laws.specs.TargetLaws.{same_number}
use Rattle.base_messages.specs.declared.message.Message.{Message}
use Rattle.base_messages.specs.declared.message.Message.TheVariants as message
use Rattle.daos_model.specs.BoolLaws.{and_left, and_right, both}
use Rattle.daos_model.specs.Durables.{same_attempt}
use Rattle.daos_model.specs.EntryLaws.{same_attempt-itself}
use Rattle.dtx_base.specs.Leading.{entry_led, undecided_of}
use Rattle.dtx_base.specs.Members.{writes_at}
use Rattle.world_contents.specs.world_commit.attempts.Attempts.{IsOther, IsToLeader, entry_at, inc_at, inc_in, is_asked_by, leader_of, writes_of}
use Rattle.world_contents.specs.world_commit.attempts.History.{Aborted, History}
use Rattle.world_base.specs.declared.letter.Letter.{Letter}
use Rattle.world_base.specs.declared.target.TargetState.{TargetState}
use Rattle.world_base.specs.declared.world.World.{World}
use Rattle.world_base.specs.Acks.{is_awaited, is_awaited_of, is_refusing}
use Rattle.world_base.specs.Events.{Rules, target_plan}
use Rattle.world_base.specs.Letters.{target}
use Rattle.world_base.specs.Roles.{leader_at}
use Rattle.world_base.specs.Statuses.{status_refusal}
use Rattle.world_contents.specs.world_commit.fates.Facts.{Attempts, IsPrepareRight, IsSaidSo, refuses_for}
use Rattle.world_contents.specs.world_commit.fates.KeepingLaws.{none-is-both}
use Rattle.world_contents.specs.world_commit.fates.Rightly.{letters-tell}
use Rattle.world_contents.specs.reads.ChangeLaws.{WasDecided}
use Rattle.world_contents.specs.reads.Standing.{AttemptsStand, IsPrepareSo, IsRefusalSo, IsToldSo, asked-prepares, mark-so, verdict-so}

module _ (r : Rules) (h : History) (w : World) (k : Attempts r h w) where
  -- what is aborted isn't decided
  undecided : (x : AttemptId) → Aborted h x → WasDecided h x → ⊥
  undecided x gone d = none-is-both r h w x d.0 k d.1 gone

  module _ (l : Letter) (t : ℕ) (s : TargetState) (among : Has l w.messages) (to_it : l.to ≡ target t) (here : slice_get w.targets t ≡ Some s) where
    -- a member that is asked to prepare an attempt holds nothing of it, so it isn't decided
    prepare-so : (e : Entry) (first : Option Epoch) (ws : List MinorWrite) (inc : ℕ) → l.message ≡ message.Prepare e first ws inc → IsPrepareRight r h w l.from l.to e ws inc → IsPrepareSo r h w t e ws
    prepare-so e first ws inc is z = record {
      entry = z.entry;
      writes = z.writes ∙ ap (λ n. writes_at r.script.targets n (writes_of r e.attempt)) it;
      issued = contains-from_has w.issued (e.attempt, e.epoch) z.issued;
      absent = absent;
      undecided = λ d. let y = (k.on.each e.attempt).entries.held_by_others d.0 t d.1 other in let no : ⊥ = cc (y.found, absent) in no;
    }
      where
        it : z.way.member ≡ t
        it = ap (λ a. a.number) (sym z.way.receiver ∙ to_it)

        other : IsOther r e.attempt t
        other = subst (IsOther r e.attempt) it z.way.other

        asks : is_asked_by e.attempt t l.to l.message ≡ true
        asks = ap (λ a. is_asked_by e.attempt t a l.message) to_it ∙ ap (is_asked_by e.attempt t (target t)) is ∙ both (same_attempt e.attempt e.attempt) (t == t) (same_attempt-itself e.attempt) (same_number t)

        absent : entry_at w t e.attempt ≡ None
        absent = (k.on.each e.attempt).awaited.before t l among (asked-prepares e.attempt t l asks)

    -- what counts is to the present incarnation of the attempt's leader
    present : (x : AttemptId) (inc : ℕ) (refusal : Option Outcome) → IsToLeader r x l.from l.to → is_refusing l.from.number x inc refusal (leader_at (target_plan r t) s.memory s.durable) ≡ true → (inc == inc_at w (leader_of r x)) ≡ true
    unfolding is_awaited
    present x inc refusal way is =
        ap (λ n. inc == n) (ap (inc_at w) (sym leads) ∙ ap inc_in here)
        ∙ and_left (inc == s.durable.incarnation) (is_awaited_of l.from.number (entry_led x (leader_at (target_plan r t) s.memory s.durable)) (undecided_of x (leader_at (target_plan r t) s.memory s.durable)))
        (and_left (is_awaited l.from.number x inc (leader_at (target_plan r t) s.memory s.durable)) (is_some refusal) is)
      where
        leads : t ≡ leader_of r x
        leads = ap (λ a. a.number) (sym to_it ∙ way.receiver)

    refuses : (x : AttemptId) (inc : ℕ) (refusal : Option Outcome) → is_refusing l.from.number x inc refusal (leader_at (target_plan r t) s.memory s.durable) ≡ true → is_some refusal ≡ true
    refuses x inc refusal is = and_right (is_awaited l.from.number x inc (leader_at (target_plan r t) s.memory s.durable)) (is_some refusal) is

    firm : (x : AttemptId) (inc : ℕ) → refuses_for (inc_at w (leader_of r x)) x l.message ≡ true → WasDecided h x → ⊥
    firm x inc is d = (k.on.each x).awaited.firm l d.0 among is d.1

    -- so no refusal counts of a decided attempt
    ack-so : (x : AttemptId) (inc : ℕ) (refusal : Option Outcome) → l.message ≡ message.Ack x inc refusal → IsToLeader r x l.from l.to → IsRefusalSo r h t s l.from x inc refusal
    ack-so x inc None is way counts d = let no : ⊥ = cc (refuses x inc None counts) in no
    ack-so x inc (Some how) is way counts d =
        firm x inc (ap (refuses_for (inc_at w (leader_of r x)) x) is ∙ both (same_attempt x x) (inc == inc_at w (leader_of r x)) (same_attempt-itself x) (present x inc (Some how) way counts)) d

    state-so : (x : AttemptId) (inc : ℕ) (how : EntryState) → l.message ≡ message.StatusIs x inc how → IsToLeader r x l.from l.to → IsRefusalSo r h t s l.from x inc (status_refusal x how)
    state-so x inc state.Prepared is way counts d = let no : ⊥ = cc (refuses x inc None counts) in no
    state-so x inc state.Committed is way counts d = let no : ⊥ = cc (refuses x inc None counts) in no
    state-so x inc state.Absent is way counts d =
        firm x inc
        (ap (refuses_for (inc_at w (leader_of r x)) x) is
        ∙ both (same_attempt x x) (inc == inc_at w (leader_of r x)) (same_attempt-itself x) (present x inc (status_refusal x state.Absent) way counts)) d

    told-so : (m : Message) → l.message ≡ m → IsSaidSo r h w l.from l.to m → IsToldSo r h w t s l.from m
    told-so (message.Prepare e first ws inc) is z = prepare-so e first ws inc is z
    told-so (message.Ack x inc refusal) is z = ack-so x inc refusal is z.way
    told-so (message.StatusIs x inc how) is z = state-so x inc how is z.way
    told-so (message.Mark inc marks) is z = λ x c i. mark-so h undecided x c (z x c i).fate
    told-so (message.Verdict x ask inc v) is z = verdict-so h undecided x v z.fate
    told-so m is z = tt

  pub attempts-stand : AttemptsStand r h w
  attempts-stand = record {
    entries = λ x. (k.on.each x).entries;
    rows = λ x t u row. ((k.on.each x).rows.undecided t u row).here;
    known = λ x t is. (k.on.each x).rows.unsettled t is;
    told = λ l t s among to_it here. told-so l t s among to_it here l.message refl (k.on.letters l among);
    others = λ l t s among to_it here. letters-tell r h w k l t s among to_it here;
  }

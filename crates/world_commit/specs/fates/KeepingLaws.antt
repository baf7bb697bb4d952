-- The facts of attempts hold where a run begins, every right event keeps them, and what follows from them.
use Rattle.std.specs.Prelude.{ℕ, ◌≡◌, true, false, [], find, slice_get, Option, Some, None, refl}
use Rattle.std.proofs.Common.{sym, ◌∙◌, ap, subst, arith}
use Rattle.base_types.specs.declared.entry.Entry.{Entry}
use Rattle.base_types.specs.declared.epoch.Epoch.{Epoch}
use Rattle.base_types.specs.declared.id.AttemptId.{AttemptId}
use Rattle.model_laws.specs.Members.{Has}
use Rattle.daos_model.specs.Durables.{entry_key, entry_of, is_entry_of}
use Rattle.daos_model.specs.Ordered.{is_rising}
use Rattle.dtx_base.specs.declared.leading.Undecided.{Undecided}
use Rattle.dtx_base.specs.Leading.{undecided_attempt}
use Rattle.dtx_base.specs.Rows.{is_among, itself, row_key, row_of}
use Rattle.world_commit.specs.attempts.Attempts.{count, entry_at, entry_in, is_known_at, is_known_in, leader_of, row_at, row_in}
use Rattle.world_commit.specs.attempts.Turning.{issue}
use Rattle.world_commit.specs.attempts.History.{Aborted, Decided}
use Rattle.world_commit.specs.fates.EventLaws.{ongoing-kept}
use Rattle.world_commit.specs.fates.EventPrompts.{prompts-kept}
use Rattle.world_commit.specs.fates.Facts.{is_talk, is_try, preparing, talking}
use Rattle.world_commit.specs.fates.Keeping.{AttemptsAreKept, AttemptsBegin, DecidedOnce, NoneIsBoth}
use Rattle.world_commit.specs.fates.Settling.{aborted-undecided}
use Rattle.world_base.specs.declared.target.TargetState.{TargetState}

pub attempts-kept : AttemptsAreKept
attempts-kept r h later w v right k event grows = record { on = ongoing-kept r h later w v right k.on event grows; prompt = prompts-kept r h w v right k.on k.prompt event }

-- nothing is found where nothing is stored
nothing-stored : (s : TargetState) (x : AttemptId) → s.durable.entries ≡ [] → entry_of s.durable x ≡ None
unfolding entry_of
nothing-stored s x none = ap (find (is_entry_of x)) none

pub attempts-begin : AttemptsBegin
attempts-begin r h w n = record {
  on = record {
    each = λ x. record {
      entries = record {
        one = λ t e at. absurd (no-entry t x e at);
        born = λ t e at. absurd (no-entry t x e at);
        committed = λ t e at c. absurd (no-entry t x e at);
        confirmed = λ m e at o has. absurd (no-entry (leader_of r x) x e at);
        held_by_leader = λ e d. absurd (undecided x e d);
        held_by_others = λ e m d o. absurd (undecided x e d);
        aborted = λ a. absurd (unaborted x a);
      };
      rows = record {
        undecided = λ t q at. absurd (no-row t x q at);
        unsettled = λ t known. absurd (unknown t x known);
        either = λ e runs at prepared. absurd (no-entry (leader_of r x) x e at);
      };
      awaited = record {
        once = λ m q o at. absurd (no-row (leader_of r x) x q at);
        few = λ inc m o. let zero : talking r inc w x m ≡ 0 = ap (count (is_talk r inc x m)) n.none.messages in omega (arith, zero);
        tries = λ m o. let zero : preparing r w x m ≡ 0 = ap (count (is_try r x m)) n.none.messages in omega (arith, zero);
        before = λ m l i is. absurd (subst (Has l) n.none.messages i);
        counted = λ m q o at has. absurd (no-row (leader_of r x) x q at);
        firm = λ l e i is d. undecided x e d;
      };
    };
    letters = λ l i. absurd (subst (Has l) n.none.messages i);
    asked = λ l i. absurd (subst (Has l) n.asked i);
    ordered = λ t s at. record {
      entries = subst (λ es. is_rising entry_key es ≡ true) (sym (n.none.targets t s at).entries) refl;
      decided = subst (λ ids. is_rising (row_key itself) ids ≡ true) (sym (n.none.targets t s at).decided) refl;
    };
    quiet = n.quiet;
  };
  prompt = λ p wide. ap (count p) n.asked ∙ sym (ap (count p) n.none.messages);
}
  where
    undecided : (x : AttemptId) (e : Epoch) → Decided h x e → ⊥
    undecided x e d = subst (Has (issue x e)) n.none.decided d

    unaborted : (x : AttemptId) → Aborted h x → ⊥
    unaborted x a = subst (Has x) n.none.aborted a

    no-entry : (t : ℕ) (x : AttemptId) (e : Entry) → entry_at w t x ≡ Some e → ⊥
    no-entry t x e at = by (slice_get w.targets t) refl at
      where
        by : (o : Option TargetState) → slice_get w.targets t ≡ o → entry_in o x ≡ Some e → ⊥
        by None is at = let no : ⊥ = cc in no
        by (Some s) is at = let none = nothing-stored s x (n.none.targets t s is).entries in (let no : ⊥ = cc (none, at) in no)

    no-row : (t : ℕ) (x : AttemptId) (q : Undecided) → row_at w t x ≡ Some q → ⊥
    no-row t x q at = by (slice_get w.targets t) refl at
      where
        by : (o : Option TargetState) → slice_get w.targets t ≡ o → row_in o x ≡ Some q → ⊥
        by None is at = let no : ⊥ = cc in no
        by (Some s) is at = let none : row_of undecided_attempt x s.memory.leader.undecided ≡ None = ap (row_of undecided_attempt x) (n.none.targets t s is).undecided in (let no : ⊥ = cc (none, at) in no)

    unknown : (t : ℕ) (x : AttemptId) → is_known_at w t x ≡ true → ⊥
    unknown t x at = by (slice_get w.targets t) refl at
      where
        by : (o : Option TargetState) → slice_get w.targets t ≡ o → is_known_in o x ≡ true → ⊥
        by None is at = let no : ⊥ = cc in no
        by (Some s) is at = let none : is_among x s.memory.leader.decided ≡ false = ap (is_among x) (n.none.targets t s is).decided in (let no : ⊥ = cc (none, at) in no)

-- ---- what follows

pub none-is-both : NoneIsBoth
none-is-both r h w x e k d a = aborted-undecided r h w x (k.on.each x) a e d

pub decided-once : DecidedOnce
decided-once r h w x e f k d g =
    let z = (k.on.each x).entries.held_by_leader e d in
    let y = (k.on.each x).entries.held_by_leader f g in
    let one : Some z.entry ≡ Some y.entry = sym z.found ∙ y.found in
    let same : z.entry ≡ y.entry = cc in
    sym z.epoch ∙ ap (λ i. i.epoch) same ∙ y.epoch

use Rattle.std.proofs.Common.{ℕ, ◌≡◌, ◌∙◌, List, Option, Some, ap, false, subst, sym}
use Rattle.std.specs.Option.{ForSome, option_map}
use Rattle.base_types.specs.declared.entry.Entry.{Entry}
use Rattle.base_types.specs.declared.entry.Settle.TheVariants.{Commit}
use Rattle.base_types.specs.declared.id.AttemptId.{AttemptId}
use Rattle.base_types.specs.declared.operation.Write.{Write}
use Rattle.daos_model.specs.declared.durable.Durable.{Durable}
use Rattle.daos_model.specs.Changes.{prepared, settled}
use Rattle.vos_store.specs.Conditions.{CanPrepare, CanSettle, IsPreparable}
use Rattle.vos_tests.specs.Rows.{alone, attempt, entry_at, epoch, value}
use Rattle.vos_tests.proofs.Allowed.{can_settle-put, preparable, put_is, value_here}
use Rattle.vos_tests.proofs.steps.put.Goals as goal

-- the entry of an attempt, at an epoch
abbrev entry_by : AttemptId → ℕ → Entry
entry_by a e = record { attempt = a; epoch = epoch e; leader = 0; members = 1; confirmed = 0; committed = false }

-- the same by what the attempt and the write are
abbrev change : AttemptId → ℕ → Write → Durable → Durable
change a e w = prepared (entry_by a e) (alone w)

pub prepare-requires-clause-form : goal.prepare-requires-clause-form
prepare-requires-clause-form g c =
    subst (λ w. IsPreparable (g.S.Store.state c.args.store.now) (entry_by c.attempt.result c.args.epoch) (alone w)) (sym c.in_ok-write.ensures)
    (preparable (g.S.Store.state c.args.store.now) c.attempt.result c.args.epoch (value c.args.bytes.now) c.requires.targets (value_here c.args.bytes.now c.requires.form))

pub prepare-requires-clause-here : goal.prepare-requires-clause-here
prepare-requires-clause-here g c runs d at =
    subst (λ a. CanPrepare (g.S.Store.state c.args.store.now) (entry_by a c.args.epoch) (alone c.in_ok-write.write) d) (sym c.attempt.ensures)
    (subst (λ w. CanPrepare (g.S.Store.state c.args.store.now) (entry_at c.args.number c.args.epoch) (alone w) d) (sym c.in_ok-write.ensures) (c.requires.here d at))

-- what was made, with the attempt and the write as they are
made : (o p : Option Durable) (a : AttemptId) (n e : ℕ) (w : Write) (bytes : List ℕ) → a ≡ attempt n → w ≡ value bytes → p ≡ option_map (change a e w) o → p ≡ option_map (prepared (entry_at n e) (alone (value bytes))) o
made o p a n e w bytes f h is = is ∙ ap (λ b. option_map (change b e w) o) f ∙ ap (λ x. option_map (change (attempt n) e x) o) h

pub settle-requires-clause-here : goal.settle-requires-clause-here
settle-requires-clause-here g c runs d at =
    subst (λ a. CanSettle a Commit d) (sym c.attempt-2.ensures)
    (can_settle-put (g.S.Store.durable c.args.store.now) (g.S.Store.durable c.prepare.new.self) (g.S.Store.state c.args.store.now) c.args.number c.args.epoch (value c.args.bytes.now) c.requires.here
    (made (g.S.Store.durable c.args.store.now) (g.S.Store.durable c.prepare.new.self) c.attempt.result c.args.number c.args.epoch c.in_ok-write.write c.args.bytes.now c.attempt.ensures c.in_ok-write.ensures c.in_ok-prepare.ensures.kept.done) d at)

pub returns-clause-kept : goal.returns-clause-kept
returns-clause-kept g c =
    put_is (g.S.Store.durable c.args.store.now) (g.S.Store.durable c.prepare.new.self) (g.S.Store.durable c.settle.new.self) c.args.number c.args.epoch c.args.bytes.now
    (made (g.S.Store.durable c.args.store.now) (g.S.Store.durable c.prepare.new.self) c.attempt.result c.args.number c.args.epoch c.in_ok-write.write c.args.bytes.now c.attempt.ensures c.in_ok-write.ensures c.in_ok-prepare.ensures.kept.done)
    (c.in_ok-settle.ensures.kept.done ∙ ap (λ a. option_map (settled a Commit) (g.S.Store.durable c.prepare.new.self)) c.attempt-2.ensures)

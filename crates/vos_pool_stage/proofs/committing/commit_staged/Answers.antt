use Rattle.std.specs.Prelude.{◌≡◌, ◌++◌, ◌∷◌, [], Ok, Err, OnOk, false, refl, true}
use Rattle.std.proofs.Common.{sym, subst}
use Rattle.vos_pool_base.specs.vos_places.Codec.{counter_bytes}
use Rattle.vos_pool_base.specs.vos_places.Tables.{Table}
use Rattle.vos_pool_base.specs.Tidy.{IsSamePool}
use Rattle.vos_pool_base.proofs.Leaving.{counted_same, same_pool}
use Rattle.vos_pool_base.proofs.Staging.{with_ranges}
use Rattle.vos_pool_stage.proofs.Making.{commit_is_quiet, commit_leaves, commit_makes, more_staged, opened_then, stands_after}
use Rattle.vos_pool_stage.proofs.committing.commit_staged.Goals as goal

pub invariant_of-result : goal.invariant_of-result
invariant_of-result g c =
    let was = more_staged c.args.blocks c.stage.new.self 24 _ (counter_bytes c.args.counters) c.counter_bytes-bytes.ensures
    (subst (λ r. OnOk r (c.stage.new.self ≡ with_ranges (c.args.blocks.undo.staged ++ record { place = 24; bytes = c.counter_bytes-bytes.result } ∷ []) c.args.blocks)) c.unwrap.ensures c.stage.ensures.staged) in
    let k = c.in-Ok.ensures in
    opened_then g.R.Region.extent g.R.Region.tells g.R.Region.image g.R.Region.may_leave c.args.blocks c.args.tables c.args.counters c.commit.new.blocks c.stage.new.self was (record { committed = k.committed; untouched = k.untouched; running = λ well. k.running; size = k.size }) c.requires.next c.count.new.self c.count.ensures c.requires.ready k.unstaged k.lasting

pub returns-in-Ok-clause-stands : goal.returns-in-Ok-clause-stands
returns-in-Ok-clause-stands g c =
    let was = more_staged c.args.blocks c.stage.new.self 24 _ (counter_bytes c.args.counters) c.counter_bytes-bytes.ensures
    (subst (λ r. OnOk r (c.stage.new.self ≡ with_ranges (c.args.blocks.undo.staged ++ record { place = 24; bytes = c.counter_bytes-bytes.result } ∷ []) c.args.blocks)) c.unwrap.ensures c.stage.ensures.staged) in
    let k = c.in-Ok.ensures in
    stands_after g.R.Region.extent g.R.Region.tells g.R.Region.image g.R.Region.may_leave c.args.blocks c.args.tables c.args.counters c.commit.new.blocks c.stage.new.self was (record { committed = k.committed; untouched = k.untouched; running = λ well. k.running; size = k.size }) c.requires.next

pub returns-in-Ok-clause-makes : goal.returns-in-Ok-clause-makes
returns-in-Ok-clause-makes g c change h =
    let was = more_staged c.args.blocks c.stage.new.self 24 _ (counter_bytes c.args.counters) c.counter_bytes-bytes.ensures
    (subst (λ r. OnOk r (c.stage.new.self ≡ with_ranges (c.args.blocks.undo.staged ++ record { place = 24; bytes = c.counter_bytes-bytes.result } ∷ []) c.args.blocks)) c.unwrap.ensures c.stage.ensures.staged) in
    let k = c.in-Ok.ensures in
    let same = subst (λ (u : Table). IsSamePool c.args.tables u) (sym c.count.ensures) (counted_same c.args.counters c.args.tables) in
    commit_makes g.R.Region.extent g.R.Region.tells g.R.Region.image g.R.Region.may_leave c.args.blocks c.args.tables c.count.new.self c.args.counters c.commit.new.blocks (Ok tt) true refl c.stage.new.self was (record { committed = k.committed; untouched = k.untouched; running = λ well. k.running; size = k.size }) same c.requires.next change h

pub returns-in-Ok-clause-quiet : goal.returns-in-Ok-clause-quiet
returns-in-Ok-clause-quiet g c h =
    let was = more_staged c.args.blocks c.stage.new.self 24 _ (counter_bytes c.args.counters) c.counter_bytes-bytes.ensures
    (subst (λ r. OnOk r (c.stage.new.self ≡ with_ranges (c.args.blocks.undo.staged ++ record { place = 24; bytes = c.counter_bytes-bytes.result } ∷ []) c.args.blocks)) c.unwrap.ensures c.stage.ensures.staged) in
    let k = c.in-Ok.ensures in
    let same = subst (λ (u : Table). IsSamePool c.args.tables u) (sym c.count.ensures) (counted_same c.args.counters c.args.tables) in
    commit_is_quiet g.R.Region.extent g.R.Region.tells g.R.Region.image g.R.Region.may_leave c.args.blocks c.args.tables c.count.new.self c.args.counters c.commit.new.blocks (Ok tt) true refl c.stage.new.self was (record { committed = k.committed; untouched = k.untouched; running = λ well. k.running; size = k.size }) same c.requires.next h

pub returns-in-Ok-clause-left : goal.returns-in-Ok-clause-left
returns-in-Ok-clause-left g c cost spent =
    let was = more_staged c.args.blocks c.stage.new.self 24 _ (counter_bytes c.args.counters) c.counter_bytes-bytes.ensures
    (subst (λ r. OnOk r (c.stage.new.self ≡ with_ranges (c.args.blocks.undo.staged ++ record { place = 24; bytes = c.counter_bytes-bytes.result } ∷ []) c.args.blocks)) c.unwrap.ensures c.stage.ensures.staged) in
    let k = c.in-Ok.ensures in
    let same = subst (λ (u : Table). IsSamePool c.args.tables u) (sym c.count.ensures) (counted_same c.args.counters c.args.tables) in
    commit_leaves g.R.Region.extent g.R.Region.tells g.R.Region.image g.R.Region.may_leave c.args.blocks c.args.tables c.count.new.self c.args.counters c.commit.new.blocks (Ok tt) true refl c.stage.new.self was (record { committed = k.committed; untouched = k.untouched; running = λ well. k.running; size = k.size }) same c.requires.next c.requires.ready c.size-size.ensures.holds cost spent

pub returns-in-Err-clause-makes : goal.returns-in-Err-clause-makes
returns-in-Err-clause-makes g c change h =
    let was = more_staged c.args.blocks c.stage.new.self 24 _ (counter_bytes c.args.counters) c.counter_bytes-bytes.ensures
    (subst (λ r. OnOk r (c.stage.new.self ≡ with_ranges (c.args.blocks.undo.staged ++ record { place = 24; bytes = c.counter_bytes-bytes.result } ∷ []) c.args.blocks)) c.unwrap.ensures c.stage.ensures.staged) in
    let k = c.in-Err.ensures in
    let same = same_pool c.args.tables in
    commit_makes g.R.Region.extent g.R.Region.tells g.R.Region.image g.R.Region.may_leave c.args.blocks c.args.tables c.args.tables c.args.counters c.commit.new.blocks (Err c.in-Err.field-0) false refl c.stage.new.self was (record { committed = k.committed; untouched = k.untouched; running = λ no_ok. absurd (cc); size = k.size }) same c.requires.next change h

pub returns-in-Err-clause-quiet : goal.returns-in-Err-clause-quiet
returns-in-Err-clause-quiet g c h =
    let was = more_staged c.args.blocks c.stage.new.self 24 _ (counter_bytes c.args.counters) c.counter_bytes-bytes.ensures
    (subst (λ r. OnOk r (c.stage.new.self ≡ with_ranges (c.args.blocks.undo.staged ++ record { place = 24; bytes = c.counter_bytes-bytes.result } ∷ []) c.args.blocks)) c.unwrap.ensures c.stage.ensures.staged) in
    let k = c.in-Err.ensures in
    let same = same_pool c.args.tables in
    commit_is_quiet g.R.Region.extent g.R.Region.tells g.R.Region.image g.R.Region.may_leave c.args.blocks c.args.tables c.args.tables c.args.counters c.commit.new.blocks (Err c.in-Err.field-0) false refl c.stage.new.self was (record { committed = k.committed; untouched = k.untouched; running = λ no_ok. absurd (cc); size = k.size }) same c.requires.next h

pub returns-in-Err-clause-left : goal.returns-in-Err-clause-left
returns-in-Err-clause-left g c cost spent =
    let was = more_staged c.args.blocks c.stage.new.self 24 _ (counter_bytes c.args.counters) c.counter_bytes-bytes.ensures
    (subst (λ r. OnOk r (c.stage.new.self ≡ with_ranges (c.args.blocks.undo.staged ++ record { place = 24; bytes = c.counter_bytes-bytes.result } ∷ []) c.args.blocks)) c.unwrap.ensures c.stage.ensures.staged) in
    let k = c.in-Err.ensures in
    let same = same_pool c.args.tables in
    commit_leaves g.R.Region.extent g.R.Region.tells g.R.Region.image g.R.Region.may_leave c.args.blocks c.args.tables c.args.tables c.args.counters c.commit.new.blocks (Err c.in-Err.field-0) false refl c.stage.new.self was (record { committed = k.committed; untouched = k.untouched; running = λ no_ok. absurd (cc); size = k.size }) same c.requires.next c.requires.ready c.size-size.ensures.holds cost spent

use Rattle.std.proofs.Common.{◌∙◌, subst, sym, Err, ap, rules, ◌≡◌}
use Rattle.snap_core.specs.Snaps.{remembered}
use Rattle.world_base.specs.Snapshots.{Frozen}
use Rattle.target_parts.specs.Parts.{kept}
use Rattle.target_snaps.specs.SnapTurns.{SnapComes}
use Rattle.target_snaps.proofs.SnapTurns.{begun-own, snap-asks}
use Rattle.target_snaps.proofs.Following.{freeze-tried, told-memory}
use Rattle.target_snaps.proofs.Begun.{snap-follows}
use Rattle.daos_model.specs.Attempts.{tries}
use Rattle.target_parts.specs.Stops.{stop_memory}
use Rattle.target_snaps.proofs.snaps.snap_frozen.Goals as goal

pub returns-then-is_alone-clause-turn : goal.returns-then-is_alone-clause-turn
returns-then-is_alone-clause-turn g c m reading tracker old d at came =
    c.snap_alone.ensures.turn (remembered m c.args.snaps.now) reading tracker old d at
    (subst (λ ls. SnapComes c.args.plan (remembered m c.args.snaps.now) reading c.args.request tracker old (Frozen c.args.epoch ls) (kept d (g.S.Store.state c.args.store.now)) ls) (sym c.in_ok-lines.ensures) came)

pub returns-clause-turn : goal.returns-clause-turn
returns-clause-turn g c m reading tracker old d at came =
    snap-asks c.args.plan m reading c.args.request tracker c.args.name.now old c.args.epoch d (g.S.Store.state c.args.store.now) (g.S.Store.durable c.args.store.now) (g.S.Store.may c.args.store.now) c.args.snaps.now c.begin.new.self c.requires.own c.in_ok-lines.lines c.args.message.now c.requires.asks.0 c.in_ok-posts.posts at
    (subst (λ ls. SnapComes c.args.plan (remembered m c.args.snaps.now) reading c.args.request tracker old (Frozen c.args.epoch ls) (kept d (g.S.Store.state c.args.store.now)) ls) (sym c.in_ok-lines.ensures) came)
    c.requires.asks.1 (sym c.is_alone.ensures ∙ c.if-is_alone.false) c.in_ok-posts.ensures.ok

pub returns-clause-own : goal.returns-clause-own
returns-clause-own g c =
    begun-own c.args.plan c.args.snaps.now c.begin.new.self c.requires.own c.args.request c.args.epoch c.args.name.now c.requires.asks.0 c.args.message.now c.in_ok-posts.posts c.requires.asks.1 (sym c.is_alone.ensures ∙ c.if-is_alone.false) c.in_ok-posts.ensures.ok

-- ---- what follows

pub returns-in_err-lines-clause-told : goal.returns-in_err-lines-clause-told
returns-in_err-lines-clause-told g c =
    let no : c.from_residual.result ≡ Err stop_memory = search rules in
    told-memory c.from_residual.result no

pub returns-in_err-posts-clause-told : goal.returns-in_err-posts-clause-told
returns-in_err-posts-clause-told g c =
    let no : c.from_residual-in_err-posts.result ≡ Err stop_memory = search rules in
    told-memory c.from_residual-in_err-posts.result no

pub snap_alone-requires-clause-lines : goal.snap_alone-requires-clause-lines
snap_alone-requires-clause-lines g c = ap tries c.in_ok-lines.ensures ∙ freeze-tried c.args.plan c.args.request.cont c.args.epoch c.args.froze

pub returns-then-is_alone-clause-follows : goal.returns-then-is_alone-clause-follows
returns-then-is_alone-clause-follows g c = c.snap_alone.ensures.follows c.args.snaps.now.collecting

pub returns-clause-follows : goal.returns-clause-follows
returns-clause-follows g c = snap-follows c.args.plan c.args.snaps.now c.begin.new.self c.requires.own c.args.request c.args.epoch c.args.name.now c.requires.asks.0 c.args.message.now c.in_ok-posts.posts c.requires.asks.1 (sym c.is_alone.ensures ∙ c.if-is_alone.false) c.in_ok-posts.ensures.ok

pub returns-clause-told : goal.returns-clause-told
returns-clause-told g c = ap tries c.in_ok-lines.ensures ∙ freeze-tried c.args.plan c.args.request.cont c.args.epoch c.args.froze

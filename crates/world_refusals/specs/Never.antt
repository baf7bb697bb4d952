-- At each moment of a run of one client no line tells an attempt to restart, where none tells of a stop.
use Rattle.std.specs.Prelude.{◌≡◌, ◌++◌, List, [], ◌∷◌, length, map, refl}
use Rattle.std.proofs.Common.{append-nil, ◌∙◌, ap, subst, arith}
use Rattle.base_types.specs.declared.report.Line.{Line}
use Rattle.base_types.specs.declared.report.Line.TheVariants as line
use Rattle.daos_model.specs.Attempts.{tries}
use Rattle.daos_model.specs.FormLaws.{length-map}
use Rattle.daos_model.specs.Laws.{tries-append}
use Rattle.daos_model.specs.Opening.{Opening}
use Rattle.model_laws.specs.Members.{Has}
use Rattle.model_reports.specs.Lone.{HasOneClient}
use Rattle.world_base.specs.declared.world.World.{World}
use Rattle.world_base.specs.Events.{ByClient, ByTarget, Event, Rules, ToClient, ToTarget, kept, target_plan, with_epoch}
use Rattle.world_base.specs.Stops.{Begins, Draws, Fails, Further, GivenUp, Goes, Happening, IsCut, Opens, Plainly, WorldRun, restart_line}
use Rattle.world_upheld.specs.world_causes.causes.Causes.{Stored}
use Rattle.world_upheld.specs.world_commit.attempts.History.{History}
use Rattle.world_upheld.specs.below.Legal.{runs-as_many, stored_over}
use Rattle.world_letters.specs.lives.Events.{as-added}
use Rattle.world_letters.specs.lives.TurnLines.{further-lines, idle-lines, plain-lines}
use Rattle.world_letters.specs.lives.Growing.{TellsOfNoStop, none-stops, none-told_before}
use Rattle.world_refusals.specs.Alone.{hears-none}
use Rattle.world_refusals.specs.Hearing.{NoneRestarts, TellsNone, goes-quiet, hears-quiet}
use Rattle.world_refusals.specs.Runs.{all-runs-tell_fitly}
use Rattle.world_refusals.specs.Telling.{AllTellFitly}
use Rattle.world_upheld.specs.causing.OneTurn.{untried}
use Rattle.world_upheld.specs.explained.Explanations.{Explanations, HoldNoMoreSnapshots}
use Rattle.world_upheld.specs.explained.Runs.{runs-have_explanations}
use Rattle.world_upheld.specs.upheld.BeginVersions.{begins-well}
use Rattle.world_upheld.specs.reasons.Hearing.{all-hear-of_stops}
use Rattle.world_upheld.specs.upheld.Begins.{AreRulesInForm, RunBeginsWith, client_begins}

-- ---- the statement

abbrev pub AloneRunsNeverRestart : Type 0
AloneRunsNeverRestart =
    (r : Rules) (o : Opening) (w v : World) → AreRulesInForm r → RunBeginsWith r o w → HoldNoMoreSnapshots o w → WorldRun r w v → HasOneClient r.script → TellsOfNoStop v → NoneRestarts v.lines

-- ---- lines of targets

-- what targets add tells of no attempt
none-more : (w v : World) (more : List Line) → v.lines ≡ w.lines ++ more → tries more ≡ [] → TellsNone w → TellsNone v
none-more w v more lines silent k a i = k a (subst (Has a) (ap tries lines ∙ tries-append w.lines more ∙ ap (λ xs. tries w.lines ++ xs) silent ∙ append-nil (tries w.lines)) i)

none-added : (w v : World) → v.lines ≡ w.lines → TellsNone w → TellsNone v
none-added w v same k a i = k a (subst (λ ls. Has a (tries ls)) same i)

module _ (r : Rules) (o : Opening) (h : History) (stored : Stored) (w u : World) (A : AreRulesInForm r) (k : Explanations r o h stored w) (fits : AllTellFitly r w) (one : length w.clients ≡ 1) (unstopped : TellsOfNoStop w) (quiet : TellsNone w) where
  plain-quiet : Event r w u → TellsNone u
  plain-quiet (ByClient g) = goes-quiet r w u quiet g
  plain-quiet (ToClient g) =
      let n = k.reasons.accounted in
      let H = n.grounds.heard in
      hears-quiet r w u quiet g
      (hears-none r o stored w H.form one unstopped n.grounds.lives H.epochs n.grounds.lines H.makings (k.causes 0 (omega arith)) (k.causes 1 (omega arith)) fits quiet u g (all-hear-of_stops r o h stored w u A n g))
  plain-quiet (ToTarget g) =
      none-added w u (ap (λ x. x.lines) g.after
      ∙ ap (λ ls. w.lines ++ map (with_epoch w.issued) ls) (plain-lines (target_plan r g.t) g.s.opening g.s.memory g.reading g.l.from g.l.message (kept g.s) g.new (g.memory, g.did) g.turn) ∙ append-nil w.lines) quiet
  plain-quiet (ByTarget g) =
      none-added w u (ap (λ x. x.lines) g.after
      ∙ ap (λ ls. w.lines ++ map (with_epoch w.issued) ls) (idle-lines g.settling (target_plan r g.t) g.s.memory g.turn.last g.new (g.memory, g.did) g.turn.ends) ∙ append-nil w.lines) quiet

  happening-quiet : TellsOfNoStop u → Happening r w u → TellsNone u
  unfolding tries
  happening-quiet none (Plainly e up) = plain-quiet e
  happening-quiet none (Further f) =
      let g = f.hears in
      let own = (further-lines f.number (target_plan r g.t) g.s.opening g.s.memory g.reading g.l.from g.l.message (kept g.s) g.new (g.memory, g.did) g.turn).own in
      none-more w u g.did.lines (ap (λ x. x.lines) g.after ∙ ap (λ ls. w.lines ++ ls) (as-added g.t w.issued g.did.lines own)) (untried g.t g.did.lines own) quiet
  happening-quiet none (IsCut g) = absurd (none-stops r w u (IsCut g) g.t none refl)
  happening-quiet none (Opens g) = none-more w u (restart_line g.number g.t g.s.durable ∷ []) (ap (λ x. x.lines) g.after) refl quiet
  happening-quiet none (Fails g) = none-added w u (ap (λ x. x.lines) g.after) quiet
  happening-quiet none (GivenUp g) = none-more w u (line.Down g.t ∷ []) (ap (λ x. x.lines) g.after) refl quiet
  happening-quiet none (Draws g) = none-added w u (ap (λ x. x.lines) g.after) quiet

-- ---- runs

-- there is the only client
one-there : (r : Rules) (o : Opening) (w u : World) → RunBeginsWith r o w → WorldRun r w u → HasOneClient r.script → length u.clients ≡ 1
one-there r o w u B run one = (runs-as_many r w u run).clients ∙ ap length B.clients ∙ length-map (client_begins r o w) r.script.clients ∙ one

pub alone-runs-never_restart : AloneRunsNeverRestart
unfolding tries
alone-runs-never_restart r o w v A B few Begins one none = λ a i. absurd (subst (λ ls. Has a (tries ls)) B.lines i)
alone-runs-never_restart r o w v A B few (Goes u x run e) one none =
    let before : TellsOfNoStop u = none-told_before r u v e none in
    let k = runs-have_explanations r o w u A (begins-well r o w B) few run in
    let after : TellsOfNoStop e.u = subst (λ z. TellsOfNoStop z) e.after none in
    let quiet : TellsNone e.u = happening-quiet r o k.0 (stored_over r run) u e.u A k.1 (all-runs-tell_fitly r o w u A B run) (one-there r o w u B run one) before (alone-runs-never_restart r o w u A B few run one before) after e.happens in
    λ a i. quiet a (subst (λ z. Has a (tries z.lines)) e.after i)

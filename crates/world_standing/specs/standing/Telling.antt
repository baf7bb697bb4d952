-- What becomes of targets tells no line of an attempt: so lines tell of clients what they have told, whatever happens but for what is heard
-- of snapshots and aggregation.
use Rattle.std.specs.Prelude.{◌≡◌, ◌++◌, List, [], ◌∷◌, filter, map, slice_get}
use Rattle.std.proofs.Common.{sym, ◌∙◌, ap, subst, append-nil, append_assoc, inl, inr}
use Rattle.base_types.specs.declared.report.Attempt.{Attempt}
use Rattle.base_types.specs.declared.report.Line.{Line}
use Rattle.base_types.specs.declared.report.Line.TheVariants as line
use Rattle.daos_model.specs.Attempts.{is_of_client, tries}
use Rattle.daos_model.specs.Laws.{tries-append}
use Rattle.model_laws.specs.Members.{Has, has-cases}
use Rattle.world_causes.specs.world_commit.attempts.Counting.{has-taken}
use Rattle.world_causes.specs.world_commit.attempts.History.{History}
use Rattle.world_base.specs.declared.world.World.{World}
use Rattle.world_base.specs.Events.{ByClient, ByTarget, Rules, TargetHearsRightly, ToClient, ToTarget, kept, target_plan, with_epoch, rightly}
use Rattle.world_base.specs.MemoryLaws.{hears-follows, idles-follows}
use Rattle.world_base.specs.Stops.{AtWork, CutOf, Draws, Fails, Further, GivenUp, Happening, Hearing, IdleWork, IsCut, Opens, Plainly, TargetCut, stops_so_far, swept}
use Rattle.world_causes.specs.world_commit.fates.Facts.{Attempts}
use Rattle.world_causes.specs.world_commit.fates.Rightly.{letters-tell}
use Rattle.world_causes.specs.hearing.Cutting.{hearing-cut-tells, turn-silent}
use Rattle.world_causes.specs.hearing.HappeningGots.{further-lines}
use Rattle.world_causes.specs.world_letters.lines.Lines.{AreTheSame, Lines}
use Rattle.world_causes.specs.outcomes.Keeping.{IsOfTarget}
use Rattle.world_causes.specs.restarts.Resting.{Rests, failure-rests, given_up-rests, numbers-rests, opening-rests, same-tries, sweep-rests, tries-none}
use Rattle.world_causes.specs.world_commit.statuses.Events.{HappensWithoutSnapshots}
use Rattle.world_causes.specs.world_commit.stops.CutEvents.{IsWithoutSnapshots}

-- clients stay, and no line of an attempt is added
pub record TellsNone (w v : World) : Type 0 where
  pub clients : v.clients ≡ w.clients
  pub tries : tries v.lines ≡ tries w.lines

-- then lines tell as before
pub lines-on : (r : Rules) (w v : World) → TellsNone w v → Lines r w → Lines r v
lines-on r w v same k = record {
  told = λ n c here. (let t = k.told n c (ap (λ cs. slice_get cs n) (sym same.clients) ∙ here) in record { attempts = t.attempts; tells = t.tells; same = subst (λ as'. AreTheSame t.attempts (filter (is_of_client n) as')) (sym same.tries) t.same });
  nobody = λ n none. ap (filter (is_of_client n)) same.tries ∙ k.nobody n (ap (λ cs. slice_get cs n) (sym same.clients) ∙ none);
}

-- ---- what becomes of targets

rests-tell : (w v : World) → Rests w v → TellsNone w v
rests-tell w v k = record { clients = k.clients; tries = same-tries w v k }

module _ (w v : World) (clients : v.clients ≡ w.clients) where
  pub silent-tells : (more : List Line) → v.lines ≡ w.lines ++ more → ((a : Attempt) → Has (line.Try a) more → ⊥) → TellsNone w v
  silent-tells more lines none = record { clients = clients; tries = ap tries lines ∙ tries-append w.lines more ∙ ap (λ as'. tries w.lines ++ as') (tries-none more none) ∙ append-nil (tries w.lines) }

  none-tells : (told : List Line) → v.lines ≡ w.lines ++ map (with_epoch w.issued) told → told ≡ [] → TellsNone w v
  none-tells told lines none = silent-tells [] (lines ∙ ap (λ ls. w.lines ++ map (with_epoch w.issued) ls) none) (λ a i. i)

pub cut-tells : (r : Rules) (w v : World) (g : TargetCut r w v) → ((a : Attempt) → Has (line.Try a) g.cut.lines → ⊥) → TellsNone w v
cut-tells r w v g silent =
    silent-tells w v (ap (λ u. u.clients) g.after) (g.cut.lines ++ line.Stop (stops_so_far w.lines) g.t ∷ []) (ap (λ u. u.lines) g.after ∙ append_assoc w.lines g.cut.lines (line.Stop (stops_so_far w.lines) g.t ∷ []))
    (λ a i. elim (has-cases g.cut.lines (line.Stop (stops_so_far w.lines) g.t ∷ []) (line.Try a) i) [ inl j ↦ silent a j | inr j ↦ stop a j ])
  where
    stop : (a : Attempt) → Has (line.Try a) (line.Stop (stops_so_far w.lines) g.t ∷ []) → ⊥
    stop a (inl same) = let no : ⊥ = cc in no
    stop a (inr i) = i

pub targets-tell : (r : Rules) (h : History) (w v : World) → Attempts r h w → (e : Happening r w v) → IsOfTarget e → HappensWithoutSnapshots e → TellsNone w v
targets-tell r h w v k (Plainly (ByClient g) up) of_target ours = absurd of_target
targets-tell r h w v k (Plainly (ToClient g) up) of_target ours = absurd of_target
targets-tell r h w v k (Plainly (ToTarget g) up) of_target ours =
    none-tells w v (ap (λ u. u.clients) g.after) g.did.lines (ap (λ u. u.lines) g.after)
    (hears-follows (target_plan r g.t) g.s.opening g.s.memory g.reading g.l.from g.l.message (kept g.s) g.new (g.memory, g.did) right.turn).lines
  where
    right : TargetHearsRightly r w v
    right = rightly r w v g (letters-tell r h w k g.l g.t g.s (has-taken w.messages g.l g.rest g.takes) g.to_it g.here)
targets-tell r h w v k (Plainly (ByTarget g) up) of_target ours =
    none-tells w v (ap (λ u. u.clients) g.after) g.did.lines (ap (λ u. u.lines) g.after) (idles-follows g.settling (target_plan r g.t) g.s.memory (kept g.s) g.new (g.memory, g.did) g.turn).lines
targets-tell r h w v k (Further f) of_target ours =
    let g = f.hears in
    none-tells w v (ap (λ u. u.clients) g.after) g.did.lines (ap (λ u. u.lines) g.after) (further-lines f.number (target_plan r g.t) g.s.opening g.s.memory g.reading g.l.from g.l.message (kept g.s) g.new (g.memory, g.did) ours g.turn)
targets-tell r h w v k (IsCut g) of_target ours = cut-tells r w v g (silent g.work ours g.turn)
  where
    silent : (a : AtWork) → IsWithoutSnapshots a → CutOf (target_plan r g.t) g.s a g.cut → (t : Attempt) → Has (line.Try t) g.cut.lines → ⊥
    silent (Hearing l reading number) plain turn = (hearing-cut-tells number (target_plan r g.t) g.s.opening g.s.memory reading l.from l.message (kept g.s) g.cut plain turn).silent
    silent IdleWork plain turn = turn-silent _ _ g.t _ (kept g.s) g.cut turn
targets-tell r h w v k (Opens g) of_target ours = rests-tell w v (opening-rests r w v g)
targets-tell r h w v k (Fails g) of_target ours = rests-tell w v (failure-rests r w v g)
targets-tell r h w v k (GivenUp g) of_target ours = rests-tell w v (given_up-rests r w v g)
targets-tell r h w v k (Draws g) of_target ours = rests-tell w v (numbers-rests w v g)

pub sweeping-tells : (w : World) → TellsNone w (swept w)
sweeping-tells w = rests-tell w (swept w) (sweep-rests w)

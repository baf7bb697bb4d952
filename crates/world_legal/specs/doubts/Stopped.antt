-- That an attempt's leader stopped since the attempt began stays so while lines of targets are added; and a line of its stop makes it so.
use Rattle.std.specs.Prelude.{ℕ, ◌≡◌, ◌++◌, List, [], ◌∷◌, Any, refl}
use Rattle.std.proofs.Common.{append_assoc, inl, sym, ◌∙◌, ap, subst}
use Rattle.base_types.specs.declared.id.AttemptId.{AttemptId}
use Rattle.base_types.specs.declared.report.Line.{Line}
use Rattle.base_types.specs.declared.report.Line.TheVariants as line
use Rattle.daos_model.specs.Attempts.{EachTry, tries, up_to_last_of}
use Rattle.daos_model.specs.CausesShown.{IsStopAt, StopsAfter}
use Rattle.model_laws.specs.Lists.{any-of}
use Rattle.model_laws.specs.Members.{Has, has-from_contains, has-left, has-right}
use Rattle.world_standing.specs.world_commit.attempts.Attempts.{leader_of}
use Rattle.world_base.specs.declared.world.World.{World}
use Rattle.world_base.specs.Events.{Rules}
use Rattle.world_standing.specs.world_causes.causes.Lasting.{silent-others, since-more, up-to-others}
use Rattle.world_standing.specs.world_letters.epochs.Epochs.{IsAt, IsPresent}
use Rattle.world_standing.specs.world_causes.losses.Since.{each-more, up-to-begins}
use Rattle.world_legal.specs.doubts.Doubts.{ItsLeaderStopped}

-- what stopped since some lines did so while more are added
pub stops-more : (ts : List ℕ) (first lines more : List Line) → StopsAfter ts first lines → StopsAfter ts first (lines ++ more)
stops-more ts first lines more k = record {
  since = k.since ++ more;
  rest = ap (λ ls. ls ++ more) k.rest ∙ append_assoc first k.since more;
  stop = let one : Any (IsStopAt k.stop.1) k.since = k.stop.4 in any-of (λ t. Any (IsStopAt t) (k.since ++ more)) ts k.stop.1 (has-from_contains ts k.stop.1 (k.stop.0, k.stop.2, k.stop.3)) (any-left k.stop.1 k.since more one);
}
  where
    any-left : (t : ℕ) (xs ys : List Line) → Any (IsStopAt t) xs → Any (IsStopAt t) (xs ++ ys)
    any-left t xs ys z = any-of (IsStopAt t) (xs ++ ys) z.1 (has-left xs ys z.1 (has-from_contains xs z.1 (z.0, z.2, z.3))) z.4

-- a stop that is told after some lines
stop-after : (t n : ℕ) (first rest lines more : List Line) → lines ≡ first ++ rest → Has (line.Stop n t) more → StopsAfter (t ∷ []) first (lines ++ more)
stop-after t n first rest lines more cut stop = record {
  since = rest ++ more;
  rest = ap (λ ls. ls ++ more) cut ∙ append_assoc first rest more;
  stop = any-of (λ u. Any (IsStopAt u) (rest ++ more)) (t ∷ []) t (inl refl) (any-of (IsStopAt t) (rest ++ more) (line.Stop n t) (has-right rest more (line.Stop n t) stop) (n, refl));
}

module _ (r : Rules) (w v : World) (clients : v.clients ≡ w.clients) (more : List Line) (lines : v.lines ≡ w.lines ++ more) (untried : tries more ≡ []) (x : AttemptId) where
  abbrev its : List ℕ
  its = leader_of r x ∷ []

  was-present : IsPresent r v x → IsPresent r w x
  was-present at = subst (λ cs. IsAt r cs x) clients at

  pub stopped-still : ItsLeaderStopped r w x → ItsLeaderStopped r v x
  stopped-still k = record {
    present = λ at. subst (λ ls. StopsAfter its (up_to_last_of x.client ls) ls) (sym lines) (since-more its x.client w.lines more (silent-others x.client more untried) (k.present (was-present at)));
    told = subst (λ ls. EachTry (λ before b. b.id ≡ x → StopsAfter its (up_to_last_of x.client before) ls) ls) (sym lines)
        (each-more (λ before b. b.id ≡ x → StopsAfter its (up_to_last_of x.client before) (w.lines ++ more)) w.lines more untried
        (λ before b after same own. stops-more its (up_to_last_of x.client before) w.lines more (k.told before b after same own)));
  }

  pub stopped-now : (n : ℕ) → Has (line.Stop n (leader_of r x)) more → ItsLeaderStopped r v x
  stopped-now n stop = record {
    present = λ at. subst (λ ls. StopsAfter its (up_to_last_of x.client ls) ls) (sym lines) (subst (λ first. StopsAfter its first (w.lines ++ more)) (sym (up-to-others x.client w.lines more (silent-others x.client more untried)))
        (let b = up-to-begins x.client w.lines in stop-after (leader_of r x) n (up_to_last_of x.client w.lines) b.0 w.lines more b.1 stop));
    told = subst (λ ls. EachTry (λ before b. b.id ≡ x → StopsAfter its (up_to_last_of x.client before) ls) ls) (sym lines)
        (each-more (λ before b. b.id ≡ x → StopsAfter its (up_to_last_of x.client before) (w.lines ++ more)) w.lines more untried
        (λ before b after same own. (let z = up-to-begins x.client before in
        stop-after (leader_of r x) n (up_to_last_of x.client before) (z.0 ++ line.Try b ∷ after) w.lines more (same ∙ ap (λ ls. ls ++ line.Try b ∷ after) z.1 ∙ append_assoc (up_to_last_of x.client before) z.0 (line.Try b ∷ after)) stop)));
  }

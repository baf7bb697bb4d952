-- The facts of losses hold where a run begins.
use Rattle.std.specs.Prelude.{◌≡◌, ◌++◌, List, [], ◌∷◌, Some, None, find}
use Rattle.std.proofs.Common.{sym, ◌∙◌, ap, subst}
use Rattle.base_types.specs.declared.id.AttemptId.{AttemptId}
use Rattle.base_types.specs.declared.report.Attempt.{Attempt}
use Rattle.base_types.specs.declared.report.Line.{Line}
use Rattle.base_types.specs.declared.report.Line.TheVariants as line
use Rattle.model_laws.specs.Members.{Has}
use Rattle.daos_model.specs.Durables.{entry_of, is_entry_of}
use Rattle.world_contents.specs.world_commit.attempts.Attempts.{entry_in, leader_of}
use Rattle.world_causes.specs.losses.Keeping.{LossesBegin}
use Rattle.world_causes.specs.losses.Losses.{Rests}

pub losses-begin : LossesBegin
unfolding entry_of
losses-begin r h w none lines = record {
  letters = λ l x i is at. absurd (subst (Has l) none.none.messages i);
  asked = λ l x i is asks at. absurd (subst (Has l) none.asked i);
  resting = λ x rests at. absurd (unkept x rests);
  lines = λ before a after same. absurd (untold before a after (sym lines ∙ same));
}
  where
    unkept : (x : AttemptId) → Rests r w x → ⊥
    unkept x rests =
        let gone : entry_of rests.s.durable x ≡ None = ap (λ es. find (is_entry_of x) es) (none.none.targets (leader_of r x) rests.s rests.here).entries in
        let found : entry_of rests.s.durable x ≡ Some rests.held.entry = ap (λ o. entry_in o x) (sym rests.here) ∙ rests.held.found in
        (let no : ⊥ = cc (gone, found) in no)

    untold : (before : List Line) (a : Attempt) (after : List Line) → [] ≡ before ++ line.Try a ∷ after → ⊥
    untold [] a after same = let no : ⊥ = cc in no
    untold (b ∷ bs) a after same = let no : ⊥ = cc in no

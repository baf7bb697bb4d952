-- A run of any script that has ended, from its beginning: its report is legal, and the targets stand for it.
use Rattle.std.specs.Prelude.{◌≡◌, true, false, is_some, List, Option, Some, None, refl}
use Rattle.std.proofs.Common.{sym, subst, inl}
use Rattle.std.proofs.lemmas.Bool.{true≢false}
use Rattle.model_laws.specs.Members.{contains-from_has}
use Rattle.daos_model.specs.Cells.{value_at}
use Rattle.daos_model.specs.Finals.{HeadlineOver}
use Rattle.daos_model.specs.Opening.{Given, Opening, Outside, kept_map}
use Rattle.daos_model.specs.declared.cell.CellValue.{CellValue}
use Rattle.world_base.specs.declared.world.World.{World}
use Rattle.world_base.specs.Ended.{HasEnded}
use Rattle.world_base.specs.Events.{Rules}
use Rattle.world_base.specs.Stops.{WorldRun}
use Rattle.world_commit.specs.attempts.History.{History}
use Rattle.world_upheld.specs.below.Legal.{Concluded, IsOver, report_over, stored_over, durables_of}
use Rattle.world_letters.specs.lives.Counting.{AreCountedSo}
use Rattle.world_letters.specs.lives.Legal.{AreCaused}
use Rattle.world_closing.specs.Rules.{rules_of}
use Rattle.world_upheld.specs.explained.Explanations.{HoldNoMoreSnapshots}
use Rattle.world_upheld.specs.explained.Runs.{runs-are_explained}
use Rattle.world_upheld.specs.upheld.Begins.{AreRulesInForm, RunBeginsWell, RunBeginsWith, held_at}
use Rattle.world_upheld.specs.upheld.BeginVersions.{begins-well}
use Rattle.world_upheld.specs.upheld.Runs.{held-first}
use Rattle.world_closing.specs.asked.Runs.{ended-all_over, explained-conclude}
use Rattle.world_closing.specs.legal.Ended.{BeginsWhole, EndIsKnown, ends-have_lines, history_of, known-ends_legal}
use Rattle.world_closing.specs.legal.Reads.{OpensWithDkeys}
use Rattle.world_closing.specs.legal.Following.{HoldsKept}
use Rattle.world_closing.specs.stands.Created.{IsKeptOf, kept-from, same-cont, same-epoch}
use Rattle.world_answers.specs.world_making.making.Snapshots.{holds_created}
use Rattle.world_closing.specs.stands.Runs.{all-ends-stand}
use Rattle.world_closing.specs.stands.Stands.{HoldsOpenings}

-- ---- what targets hold of an opening

-- they hold all that it stands for, so target 0 holds as created what it keeps
holds-kept : (o : Opening) (w : World) → HoldsOpenings o w → HoldsKept o w
holds-kept o w first z c e here some = by (kept_map c e.0 o.stand.snaps) refl some
  where
    by : (m : Option (List CellValue)) → kept_map c e.0 o.stand.snaps ≡ m → is_some m ≡ true → holds_created z.durable c e ≡ true
    by None none on = absurd (true≢false (sym on))
    by (Some m) is on =
        let k : IsKeptOf o.stand.snaps c e.0 m = kept-from o.stand.snaps c e.0 m is in
        subst (λ f. holds_created z.durable c f ≡ true) (same-epoch k.k.epoch e k.epoch)
        (subst (λ d. holds_created z.durable d k.k.epoch ≡ true) (same-cont k.k.cont c k.cont) ((first.snaps k.k (contains-from_has o.stand.snaps k.k k.among)).created z here))

-- and nothing at a cell without a dkey
pub opens-with_dkeys : (o : Opening) (w : World) → HoldsOpenings o w → OpensWithDkeys o
opens-with_dkeys o w first = record {
  now = λ c none. first.unowned c (inl none);
  kept = λ c e m is cell none.
      let k = kept-from o.stand.snaps c e m is in
      subst (λ ks. value_at ks cell ≡ None) k.map ((first.snaps k.k (contains-from_has o.stand.snaps k.k k.among)).map.unowned cell (inl none));
}

-- ---- in the end

module _ (g : Given) (w v : World) (A : AreRulesInForm (rules_of g)) (B : RunBeginsWith (rules_of g) g.opening w) (few : HoldNoMoreSnapshots g.opening w) (first : HoldsOpenings g.opening w)
    (run : WorldRun (rules_of g) w v) (ended : HasEnded (rules_of g) v)
  where
    abbrev r : Rules
    r = rules_of g

    well : RunBeginsWell r g.opening w
    well = begins-well r g.opening w B

    abbrev whole : BeginsWhole g w
    whole = record { form = A; begins = B; few = few; held = holds-kept g.opening w first; dkeys = opens-with_dkeys g.opening w first }

    abbrev h : History
    h = history_of g w v whole run

    over : IsOver r v
    over = (ended-all_over r g.opening w v A well run ended).over

    concluded : Concluded r g.opening (held_at w) h v
    concluded = explained-conclude r g.opening (held_at w) h (stored_over r run) v A (held-first r g.opening w A B) (runs-are_explained r g.opening w v A B few run).1 over.done

    end-known : EndIsKnown g w v h
    end-known = record { over = over; concluded = concluded; stands = all-ends-stand g w v h A B first run ended concluded (ends-have_lines g w v A well run over).apart }

-- Of a run of any script that began so and has ended, with whatever snapshots its targets held of the opening: where stops and given up targets
-- were caused from outside, and the numbers of restarts and aggregations are counted by the lines if turns are taken in a stated order, the report
-- of its lines is legal, and the targets stand for it.
abbrev pub AllRunsEndLegal : Type 0
AllRunsEndLegal =
    (g : Given) (outside : Outside) (w v : World) → AreRulesInForm (rules_of g) → RunBeginsWith (rules_of g) g.opening w → HoldNoMoreSnapshots g.opening w → HoldsOpenings g.opening w
    → WorldRun (rules_of g) w v → HasEnded (rules_of g) v → AreCaused g.script outside v → (g.job.threads ≡ false → AreCountedSo v)
    → HeadlineOver g outside (durables_of v) (report_over (rules_of g) v)

pub all-runs-end_legal : AllRunsEndLegal
all-runs-end_legal g outside w v A B few first run ended caused counted =
    known-ends_legal g outside w v (whole g w v A B few first run ended) run (end-known g w v A B few first run ended) caused counted

-- A run of clients and targets, from its first stage to its report.
use Rattle.std.specs.Prelude.{ℕ, ◌≡◌, true, false, List, [], slice_get, Option, Some, IfErr, IfOk, Err, Ok, Result, refl}
use Rattle.std.specs.Vec.{with_items}
use Rattle.std.specs.declared.vec.Vec.{Vec}
use Rattle.std.proofs.Common.{sym, ◌∙◌, ap, subst}
use Rattle.std.proofs.lemmas.List.{with_items_is}
use Rattle.base_types.specs.declared.job.Job.{Job}
use Rattle.base_types.specs.declared.report.Line.{Line}
use Rattle.base_types.specs.declared.report.Report.{Report}
use Rattle.base_types.specs.declared.script.Script.{Script}
use Rattle.base_types.specs.declared.script.StopDecl.{StopDecl}
use Rattle.run_loop.specs.client_core.Clients.{ClientNow}
use Rattle.daos_model.specs.Opening.{Given, Opening}
use Rattle.daos_model.specs.declared.durable.Durable.{Durable}
use Rattle.run_base.specs.Letters.{BetweenNow}
use Rattle.run_loop.specs.Below.{AllCanReopen, AllTell, AnswersGoOn, AreAccounted, AreAlike, AreArmed, AreDrawn, AreFindable, AreServed, AreSteady, AreTyped, AreUnfused, Breaks, BreaksOffSo, CanGo, ComesByClocks, ComesTo, EndsGoOn, HasEndedSo, HasRunWith, HaveStarted, IsFirstWatch, RunBegins, Shows, StageNow, TargetOf, all-tell, answers-first, armed-accounted, armed-first, before-fuse, breaks-off, broke-between, can-go, comes-by_clocks, comes-to, ends-first, first-drawn, first_stage, first_world, fuses-serve, fuses-started, fuses-tell, given_by, left_of, nothing, report_with, run-begins, served-then, shows-first, states_of, stores_of, told-fuse, rules_of}
use Rattle.run_targets.proofs.Telling.{first, told-first}
use Rattle.run_watch.specs.Watches.{WatchNow, first_watch}
use Rattle.vos_store.specs.Calls.{State}
use Rattle.world_base.specs.declared.world.World.{World}
use Rattle.world_base.specs.Events.{Rules}

nothing-is : (b : BetweenNow) → b.messages ≡ [] → b.asked ≡ [] → b.issued ≡ [] → b.lines ≡ [] → b ≡ nothing
nothing-is b messages asked issued lines =
    ap (λ z. record { messages = z; asked = b.asked; issued = b.issued; lines = b.lines }) messages
    ∙ ap (λ z. record { messages = []; asked = z; issued = b.issued; lines = b.lines }) asked
    ∙ ap (λ z. record { messages = []; asked = []; issued = z; lines = b.lines }) issued
    ∙ ap (λ z. record { messages = []; asked = []; issued = []; lines = z }) lines

-- the actors of a run before it
pub first-is : {S C : Type 0} (cs : List ClientNow) (ts armed : List (TargetOf S C)) (v : WatchNow) (b : BetweenNow) → ts ≡ armed → b.messages ≡ [] → b.asked ≡ [] → b.issued ≡ [] → b.lines ≡ []
    → record { clients = cs; targets = ts; watch = v; between = b } ≡ first_stage cs armed v
first-is cs ts armed v b same messages asked issued lines =
    ap (λ z. record { clients = cs; targets = z; watch = v; between = b }) same ∙ ap (λ z. record { clients = cs; targets = armed; watch = v; between = z }) (nothing-is b messages asked issued lines)

-- ---- no fuse is set any more

module _ {S C Z : Type 0} (durable : S → Option Durable) (state : S → State) (may : S → Durable → Type 0) (v : Vec (TargetOf S C) Z) (xs ys : List (TargetOf S C)) (its : xs ≡ v.items) (k : AreUnfused durable state may xs ys) where
  unfused : AreUnfused durable state may v.items ys
  unfused = subst (λ zs. AreUnfused durable state may zs ys) its k

  pub put-is : (with_items v ys).items ≡ ys
  put-is = with_items_is v ys (unfused.many ∙ sym v.ok.0)

  pub put-served : (is_read : C → C → Type 0) → AreServed durable state is_read v.items (with_items v ys).items
  put-served is_read = subst (AreServed durable state is_read v.items) (sym put-is) (fuses-serve durable state may v.items ys unfused is_read)

  pub put-unfused : (t : ℕ) (y : TargetOf S C) → slice_get (with_items v ys).items t ≡ Some y → (state y.store).tells_fuse ≡ true → (state y.store).fused ≡ false
  put-unfused t y there tells =
      let at : slice_get ys t ≡ Some y = ap (λ zs. slice_get zs t) (sym put-is) ∙ there in
      let x = before-fuse durable state may v.items ys unfused t y at in
      told-fuse durable state may 0 x.0 y (unfused.each t x.0 y x.1 at) tells

-- ---- a run that hasn't begun

-- memory was wanting before the first turn
pub breaks-early : {S C Z : Type 0} (durable : S → Option Durable) (state : S → State) (may : S → Durable → Type 0) (is_read : C → C → Type 0) (next_reading : C → Option ℕ) (s : Script) (j : Job) (o : Opening) (cs : List ClientNow) (v : Vec (TargetOf S C) Z) (xs ys : List (TargetOf S C)) → xs ≡ v.items → AreUnfused durable state may xs ys
    → AreSteady durable state may → AreAlike durable → HaveStarted durable state (given_by s j o) cs v.items → AllTell durable (stores_of v.items) → BreaksOffSo durable may (given_by s j o) (stores_of v.items) (stores_of (with_items v ys).items)
breaks-early durable state may is_read next_reading s j o cs v xs ys its k steady alike started told =
    subst (λ zs. BreaksOffSo durable may (given_by s j o) (stores_of v.items) (stores_of zs)) (sym (put-is durable state may v xs ys its k))
    (breaks-off durable state may (given_by s j o) cs v.items v.items v.items ys (first_watch s.targets s.stops) started told (all-tell durable state may alike (given_by s j o) cs v.items started told) refl refl
    (λ t x y at there. let same : x ≡ y = let e : Some x ≡ Some y = sym at ∙ there in cc in ap (λ z. durable z.store) (sym same))
    (broke-between durable state may is_read next_reading steady (first_stage cs v.items (first_watch s.targets s.stops)) v.items refl) (subst (λ zs. AreUnfused durable state may zs ys) its k))

-- ---- before the run

module _ {S C Z : Type 0} (durable : S → Option Durable) (state : S → State) (may : S → Durable → Type 0) (s : Script) (j : Job) (cs : List ClientNow) (v : Vec (TargetOf S C) Z) (xs armed : List (TargetOf S C)) (its : xs ≡ v.items) (w now : WatchNow) (b : BetweenNow) (stops : List StopDecl)
    (k : AreArmed durable state may xs armed w now) (lines : stops ≡ s.stops) (new : w ≡ first_watch s.targets stops) (messages : b.messages ≡ []) (asked : b.asked ≡ []) (issued : b.issued ≡ []) (none : b.lines ≡ []) where
  -- the clients and the targets, whose fuses were set
  abbrev pub stage : StageNow S C
  stage = record { clients = cs; targets = (with_items v armed).items; watch = now; between = b }

  fuses : AreArmed durable state may v.items armed (first_watch s.targets s.stops) now
  fuses =
      subst (λ u. AreArmed durable state may v.items armed u now) (new ∙ ap (first_watch s.targets) lines)
      (subst (λ zs. AreArmed durable state may zs armed w now) its k)

  is-first : IsFirstWatch s.targets now
  is-first = armed-first durable state may s.stops s.targets v.items armed now fuses

  put : (with_items v armed).items ≡ armed
  put = with_items_is v armed (fuses.fuses.many ∙ sym v.ok.0)

  stage-is : stage ≡ first_stage cs armed now
  stage-is = first-is cs (with_items v armed).items armed now b put messages asked issued none

  module _ (o : Opening) (started : HaveStarted durable state (given_by s j o) cs v.items) where
    abbrev g : Given
    g = given_by s j o

    begins : HaveStarted durable state g cs armed
    begins = fuses-started durable state may v.items armed fuses.fuses g cs started

    -- nothing was told of clients before their first turns, and nothing goes about of their reads
    pub answers-begin : AnswersGoOn (rules_of g) stage
    answers-begin =
        answers-first (rules_of g) stage (told-first durable state g stage v.items started none) (λ n c at. (first durable state g stage v.items started n c at).2)
        (λ t y at. (begins.each t y (ap (λ zs. slice_get zs t) (sym put) ∙ at)).waits) messages none

    -- nor was anything asked to be committed
    pub ends-begin : EndsGoOn (rules_of g) stage
    ends-begin =
        ends-first (rules_of g) stage answers-begin (λ n c at. first durable state g stage v.items started n c at)
        (λ t y at. let s = begins.each t y (ap (λ zs. slice_get zs t) (sym put) ∙ at) in (ap (λ m. m.undecided) s.leader, s.makes)) messages asked none

    pub goes : AreAlike durable → CanGo durable state may stage
    goes alike = subst (CanGo durable state may) (sym stage-is) (can-go durable state g cs armed begins may now is-first alike)

  -- ---- and after it

  module _ (is_read : C → C → Type 0) (next_reading : C → Option ℕ) (rest : Vec (TargetOf S C) Z) (in_the_end : WatchNow) (left ys : List (TargetOf S C)) (those : left ≡ rest.items) (gone : AreUnfused durable state may left ys)
      (served : AreServed durable state is_read stage.targets rest.items) where
    serves : AreServed durable state is_read armed rest.items
    serves = subst (λ zs. AreServed durable state is_read zs rest.items) put served

    -- the stores and the clocks had calls
    pub all-served : AreServed durable state is_read v.items (with_items rest ys).items
    all-served =
        served-then durable state is_read v.items armed (with_items rest ys).items (fuses-serve durable state may v.items armed fuses.fuses is_read)
        (served-then durable state is_read armed rest.items (with_items rest ys).items serves (put-served durable state may rest left ys those gone is_read))

    module _ (o : Opening) (started : HaveStarted durable state (given_by s j o) cs v.items) (told : AllTell durable (stores_of v.items)) where
      armed-told : AllTell durable (stores_of armed)
      armed-told = fuses-tell durable state may v.items armed fuses.fuses told

      module _ {E : Type 0} (ran : Result (List Line) E) (found-lines : List Line) (is : ran ≡ Ok found-lines) where
        has-run : ((r : Rules) (first : World) (p : Opening) → RunBegins r p first → AreDrawn first → ((found : ℕ → Durable) → Shows durable state r found stage first) → IfOk ran (λ ls. HasRunWith durable state is_read next_reading may r j.order first stage (left_of rest.items in_the_end ls)))
            → HasRunWith durable state is_read next_reading may (rules_of (given_by s j o)) j.order (first_world durable state cs armed) (first_stage cs armed now) (left_of rest.items in_the_end found-lines)
        has-run run =
            subst (λ a. HasRunWith durable state is_read next_reading may (rules_of (given_by s j o)) j.order (first_world durable state cs armed) a (left_of rest.items in_the_end found-lines)) stage-is
            (subst (λ z. IfOk z (λ ls. HasRunWith durable state is_read next_reading may (rules_of (given_by s j o)) j.order (first_world durable state cs armed) stage (left_of rest.items in_the_end ls))) is
            (run (rules_of (given_by s j o)) (first_world durable state cs armed) o (run-begins durable state (given_by s j o) cs armed (begins o started) armed-told) (first-drawn durable state (given_by s j o) cs armed (begins o started))
            (λ found. subst (λ a. Shows durable state (rules_of (given_by s j o)) found a (first_world durable state cs armed)) (sym stage-is) (shows-first durable state (given_by s j o) cs armed (begins o started) armed-told now is-first found))))

        accounted : ((h : ℕ → State) (some : List StopDecl) → AreAccounted durable state h some stage → IfOk ran (λ ls. AreAccounted durable state h some (left_of rest.items in_the_end ls))) → AreAccounted durable state (states_of state v.items) s.stops (left_of rest.items in_the_end found-lines)
        accounted accounts =
            subst (λ z. IfOk z (λ ls. AreAccounted durable state (states_of state v.items) s.stops (left_of rest.items in_the_end ls))) is
            (accounts (states_of state v.items) s.stops (subst (AreAccounted durable state (states_of state v.items) s.stops) (sym stage-is) (armed-accounted durable state may s.stops s.targets cs v.items armed now fuses)))

        has-ended : ((r : Rules) (first : World) (p : Opening) → RunBegins r p first → AreDrawn first → ((found : ℕ → Durable) → Shows durable state r found stage first) → IfOk ran (λ ls. HasRunWith durable state is_read next_reading may r j.order first stage (left_of rest.items in_the_end ls)))
            → ((h : ℕ → State) (some : List StopDecl) → AreAccounted durable state h some stage → IfOk ran (λ ls. AreAccounted durable state h some (left_of rest.items in_the_end ls)))
            → IfOk ran (λ ls. AllCanReopen durable state may rest.items) → HasEndedSo durable state may is_read next_reading (given_by s j o) cs v.items ys found-lines
        has-ended run accounts reopens = record {
          armed = armed;
          at_first = now;
          fuses = fuses;
          rest = rest.items;
          in_the_end = in_the_end;
          run = has-run run;
          accounted = accounted accounts;
          many = serves.many;
          reopens = subst (λ z. IfOk z (λ ls. AllCanReopen durable state may rest.items)) is reopens;
          unfused = subst (λ zs. AreUnfused durable state may zs ys) those gone;
        }

        -- the run came to that
        pub comes : AreSteady durable state may → AreFindable durable may → AreAlike durable
            → ((r : Rules) (first : World) (p : Opening) → RunBegins r p first → AreDrawn first → ((found : ℕ → Durable) → Shows durable state r found stage first) → IfOk ran (λ ls. HasRunWith durable state is_read next_reading may r j.order first stage (left_of rest.items in_the_end ls)))
            → ((h : ℕ → State) (some : List StopDecl) → AreAccounted durable state h some stage → IfOk ran (λ ls. AreAccounted durable state h some (left_of rest.items in_the_end ls)))
            → IfOk ran (λ ls. AllCanReopen durable state may rest.items) → (q : Report) → q ≡ report_with s found-lines → AreTyped found-lines → ComesTo durable state may (given_by s j o) (stores_of v.items) (stores_of (with_items rest ys).items) q
        comes steady findable alike run accounts reopens q report typed =
            subst (ComesTo durable state may (given_by s j o) (stores_of v.items) (stores_of (with_items rest ys).items)) (sym report)
            (subst (λ zs. ComesTo durable state may (given_by s j o) (stores_of v.items) (stores_of zs) (report_with s found-lines)) (sym (put-is durable state may rest left ys those gone))
            (comes-to durable state may is_read next_reading steady findable alike (given_by s j o) cs v.items ys found-lines started told (has-ended run accounts reopens) typed))

        -- and the clocks gave the readings of that run
        pub comes-read : AreSteady durable state may → AreFindable durable may → AreAlike durable
            → ((r : Rules) (first : World) (p : Opening) → RunBegins r p first → AreDrawn first → ((found : ℕ → Durable) → Shows durable state r found stage first) → IfOk ran (λ ls. HasRunWith durable state is_read next_reading may r j.order first stage (left_of rest.items in_the_end ls)))
            → ((h : ℕ → State) (some : List StopDecl) → AreAccounted durable state h some stage → IfOk ran (λ ls. AreAccounted durable state h some (left_of rest.items in_the_end ls)))
            → IfOk ran (λ ls. AllCanReopen durable state may rest.items) → (q : Report) → q ≡ report_with s found-lines → AreTyped found-lines → ComesByClocks durable state may is_read next_reading (given_by s j o) v.items (with_items rest ys).items q
        comes-read steady findable alike run accounts reopens q report typed =
            subst (ComesByClocks durable state may is_read next_reading (given_by s j o) v.items (with_items rest ys).items) (sym report)
            (subst (λ zs. ComesByClocks durable state may is_read next_reading (given_by s j o) v.items zs (report_with s found-lines)) (sym (put-is durable state may rest left ys those gone))
            (comes-by_clocks durable state may is_read next_reading steady findable alike (given_by s j o) cs v.items ys found-lines started told (has-ended run accounts reopens) typed))

      -- memory was wanting in it
      pub breaks-late : {T E : Type 0} (ran : Result T E) (error : E) → ran ≡ Err error → AreSteady durable state may → AreAlike durable → IfErr ran (λ e. Breaks durable state may stage rest.items)
          → BreaksOffSo durable may (given_by s j o) (stores_of v.items) (stores_of (with_items rest ys).items)
      breaks-late ran error is steady alike broke =
          subst (λ zs. BreaksOffSo durable may (given_by s j o) (stores_of v.items) (stores_of zs)) (sym (put-is durable state may rest left ys those gone))
          (breaks-off durable state may (given_by s j o) cs v.items armed rest.items ys now (begins o started) armed-told (all-tell durable state may alike (given_by s j o) cs v.items started told) is-first fuses.fuses.many
          (λ t x y at there. (fuses.fuses.each t x y at there).kept) (subst (λ a. Breaks durable state may a rest.items) stage-is (subst (λ q. IfErr q (λ e. Breaks durable state may stage rest.items)) is broke))
          (subst (λ zs. AreUnfused durable state may zs ys) those gone))

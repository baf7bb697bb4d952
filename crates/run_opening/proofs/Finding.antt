-- What the next openings of stores find after an opening of all that was cut.
use Rattle.std.specs.Prelude.{◌≡◌, ◌<◌, ◌⊎◌, List, length, map, Option, Some, Ok}
use Rattle.std.specs.Option.{option_map}
use Rattle.std.proofs.Common.{sym, ◌∙◌, ap, subst, inl, inr}
use Rattle.std.proofs.lemmas.Option.{slice_get_within}
use Rattle.base_types.specs.declared.entry.Entry.{Entry}
use Rattle.base_types.specs.declared.script.Script.{Script}
use Rattle.model_laws.specs.Lists.{at-within}
use Rattle.daos_model.specs.declared.durable.Durable.{Durable}
use Rattle.daos_model.specs.Family.{resolved}
use Rattle.daos_model.specs.FormLaws.{length-map}
use Rattle.daos_model.specs.Sound.{Sound}
use Rattle.vos_store.specs.Calls.{State}
use Rattle.run_opening.specs.All.{AreEntries, AreKept, EndsAll, MayBeFound}
use Rattle.run_opening.specs.Left.{AreParts, DropsPartly, EndsPartly, EndsSome, IsLeftOf, LeavesAll, first_ended, first_forgotten}
use Rattle.run_opening.specs.LeftLaws.{left-then}
use Rattle.run_opening.specs.EnlistLeft.{found-parts}
use Rattle.run_opening.specs.SoundLaws.{at-mapped}
use Rattle.run_opening.specs.Steps.{ended, forgotten, resolved_by}
use Rattle.run_opening.proofs.Dropping.{drops-left, ended-left, ends-done, ends-left, forgets-left, thaws-left}
use Rattle.run_opening.proofs.Leaving.{none-ended}
use Rattle.run_opening.proofs.Whole.{all-resolved}

module _ {S : Type 0} (durable : S → Option Durable) (state : S → State) (may : S → Durable → Type 0) where
  module _ (s : Script) (F : List Durable) (sound : Sound F) (old : List S) (kept : AreKept durable old F) where
    -- the entries that were read resolve what all targets do
    entries-resolve : (all : List (List Entry)) → AreEntries durable old all → resolved_by all ≡ resolved F
    entries-resolve all e =
        all-resolved all F (e.many ∙ sym kept.many) (λ t es d at bt.
        let x = at-within old t (subst (λ n. t < n) kept.many (slice_get_within F t d bt)) in
        e.each t es at x.0 d x.1 (kept.each t x.0 d x.1 bt))

    -- attempts were ended, all or some, or none
    pub ends-found : (new : List S) → length new ≡ length old → EndsPartly durable may old new → (lasts : List Durable) → MayBeFound may new lasts → IsLeftOf s F lasts
    ends-found new many part lasts found = by part
      where
        none : (p : AreParts (λ t n d. d) F lasts) → AreParts (λ t. first_ended (resolved F)) F lasts
        none p = record { many = p.many; each = λ t d g at bt. (0, (p.each t d g at bt).1 ∙ none-ended (resolved F) d) }

        some : (e : EndsSome durable may old new) → LeavesAll durable may (λ t. first_ended (resolved_by e.all)) old new ⊎ LeavesAll durable may (λ t n d. first_forgotten n (ended (resolved_by e.all) d)) old new → IsLeftOf s F lasts
        some e (inl first) = ended-left s F sound lasts (found-parts durable may (λ t. first_ended (resolved F)) F old new kept many (subst (λ r. LeavesAll durable may (λ t. first_ended r) old new) (entries-resolve e.all e.entries) first) lasts found)
        some e (inr all) =
            forgets-left s F sound lasts
            (found-parts durable may (λ t n d. first_forgotten n (ended (resolved F) d)) F old new kept many (subst (λ r. LeavesAll durable may (λ t n d. first_forgotten n (ended r d)) old new) (entries-resolve e.all e.entries) all) lasts found)

        by : EndsPartly durable may old new → IsLeftOf s F lasts
        by (inl unchanged) = ended-left s F sound lasts (none (found-parts durable may (λ t n d. d) F old new kept many unchanged lasts found))
        by (inr e) = some e e.left

    module _ (mid : List S) {T : Type 0} (x : T) (e : EndsAll durable state (Ok x) old mid) where
      -- all were, and the stores keep that
      ended-kept : AreKept durable mid (map (λ d. forgotten (ended (resolved F) d)) F)
      ended-kept = record {
        many = length-map (λ d. forgotten (ended (resolved F) d)) F ∙ kept.many ∙ sym e.goes.many;
        each = λ t y g bt ct.
            let d = at-mapped (λ d. forgotten (ended (resolved F) d)) F t g ct in
            let a = at-within old t (subst (λ n. t < n) kept.many (slice_get_within F t d.0 d.1)) in
            (e.goes.each t a.0 y a.1 bt).made ∙ ap (option_map (λ d. forgotten (ended (resolved_by e.all) d))) (kept.each t a.0 d.0 a.1 d.1)
            ∙ ap (λ w. Some w) (ap (λ r. forgotten (ended r d.0)) (entries-resolve e.all e.entries) ∙ d.2);
      }

      -- then snapshots were dropped, all or some
      pub drops-found : (new : List S) → length new ≡ length mid → DropsPartly durable may s mid new → (lasts : List Durable) → MayBeFound may new lasts → IsLeftOf s F lasts
      drops-found new many part lasts found =
          let w = ends-left s F sound in
          left-then s F (map (λ d. forgotten (ended (resolved F) d)) F) lasts w (by part w.sound)
        where
          by : DropsPartly durable may s mid new → Sound (map (λ d. forgotten (ended (resolved F) d)) F) → IsLeftOf s (map (λ d. forgotten (ended (resolved F) d)) F) lasts
          by (inl first) k = drops-left s (map (λ d. forgotten (ended (resolved F) d)) F) k (ends-done s F sound) lasts (found-parts durable may _ (map (λ d. forgotten (ended (resolved F) d)) F) mid new ended-kept many first lasts found)
          by (inr d) k =
              thaws-left s (map (λ d. forgotten (ended (resolved F) d)) F) k (ends-done s F sound) d.created lasts
              (λ g at.
              let y = at-within mid 0 (subst (λ n. 0 < n) ended-kept.many (slice_get_within (map (λ d. forgotten (ended (resolved F) d)) F) 0 g at)) in
              d.holds y.0 g y.1 (ended-kept.each 0 y.0 g y.1 at))
              (found-parts durable may _ (map (λ d. forgotten (ended (resolved F) d)) F) mid new ended-kept many d.left lasts found)

-- What one more transaction leaves of the map as of an epoch.
use Rattle.std.specs.Prelude.{ℕ, ◌≡◌, ◌<◌, ◌⊎◌, true, List, Contains}
use Rattle.std.proofs.Common.{sym, ◌∙◌, subst, inl, inr, arith}
use Rattle.std.proofs.lemmas.Bool.Decides.{nat_tests}
use Rattle.daos_model.specs.declared.cell.Cell.{Cell}
use Rattle.daos_model.specs.declared.stand.Stand.{Stand}
use Rattle.daos_model.specs.AsOf.{as_of}
use Rattle.daos_model.specs.Cells.{value_at}
use Rattle.daos_model.specs.Prunes.{touches}
use Rattle.model_laws.specs.Dated.{Dated, is_about, is_earlier}
use Rattle.model_laws.specs.Decided.{AreDecided, Decided, all_dated, dated_by, taken_in}
use Rattle.model_laws.specs.DecidedLaws.{as_of-dated, has-dated, has-from_dated, has-from_ordered, has-ordered, ordered, rising-ordered}
use Rattle.model_laws.specs.Matches.{IsAdded}
use Rattle.model_laws.specs.Members.{Has, contains-from_has, has-from_contains}
use Rattle.model_laws.specs.VersionLaws.{after-same}

-- At a cell of which none of its writes below the epoch says what it holds, one more transaction changes nothing.
pub as_of-more : (c : Cell) (opening : Stand) (d : Decided) (all more : List Decided) (e : ℕ) → AreDecided all → AreDecided more → IsAdded d all more
    → ((x : Dated) → Has x (dated_by d) → x.epoch < e → touches c x.write ≡ true → ⊥)
    → value_at (as_of opening (taken_in all) e) c ≡ value_at (as_of opening (taken_in more) e) c
as_of-more c opening d all more e f g added none =
    as_of-dated c opening all e
    ∙ after-same c (ordered e all) (ordered e more) (value_at opening.now c) (rising-ordered e all f) (rising-ordered e more g) (λ x about. (there x, here x about))
    ∙ sym (as_of-dated c opening more e)
  where
    there : (x : Dated) → Contains (ordered e all) x → Contains (ordered e more) x
    there x i =
        let h = has-from_ordered e all x (has-from_contains (ordered e all) x i) in
        let w = has-from_dated all x h.0 in
        contains-from_has (ordered e more) x
        (has-ordered e more x (has-dated more x (record { by = w.by; among = has-from_contains more w.by (added.old w.by (contains-from_has all w.by w.among)); has = w.has })) h.1)

    here : (x : Dated) → is_about c x ≡ true → Contains (ordered e more) x → Contains (ordered e all) x
    here x about i =
        let h = has-from_ordered e more x (has-from_contains (ordered e more) x i) in
        let w = has-from_dated more x h.0 in
        contains-from_has (ordered e all) x (has-ordered e all x (by h.1 w.by w.has (added.from w.by (contains-from_has more w.by w.among))) h.1)
      where
        by : is_earlier e x ≡ true → (b : Decided) → Has x (dated_by b) → Contains all b ⊎ (b ≡ d) → Has x (all_dated all)
        by lt b has (inl j) = has-dated all x (record { by = b; among = has-from_contains all b j; has = has })
        by lt b has (inr same) = absurd (none x (subst (λ y. Has x (dated_by y)) same has) (grind (arith, nat_tests)) about)

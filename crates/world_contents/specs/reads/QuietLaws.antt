-- A decision that says nothing of some cells leaves what a target's versions give at them.
use Rattle.std.specs.Prelude.{ℕ, ◌≡◌, ◌⊎◌, Bool, true, false, List, filter, Contains, None, refl}
use Rattle.std.proofs.Common.{sym, ◌∙◌, subst, inl, inr}
use Rattle.daos_model.specs.declared.cell.Cell.{Cell}
use Rattle.daos_model.specs.declared.durable.Version.{Version}
use Rattle.daos_model.specs.declared.stand.Stand.{Stand}
use Rattle.daos_model.specs.BoolLaws.{clash}
use Rattle.daos_model.specs.Cells.{value_at}
use Rattle.daos_model.specs.OrderLaws.{rising-filter}
use Rattle.model_laws.specs.Dated.{AreSingleInOrder, Dated, dated, dated_key, dated_of, is_about, is_earlier, is_from, map_of}
use Rattle.model_laws.specs.Decided.{AreDecided, Decided, all_dated, dated_by}
use Rattle.model_laws.specs.DecidedLaws.{has-dated, has-from_dated}
use Rattle.model_laws.specs.Matches.{GivesAsOf, IsAdded, Matches, counts_under}
use Rattle.model_laws.specs.MatchLaws.{counted-has, gives-dated, has-counted}
use Rattle.model_laws.specs.Members.{Has, contains-from_has, has-filter, has-from_contains, has-from_filter}
use Rattle.model_laws.specs.VersionLaws.{after-same, rising-dated}
use Rattle.world_contents.specs.reads.AsOfLaws.{as_of-more}

-- What counted still counts; and neither what counts now nor the transaction's writes say what one of the cells holds.
pub record IsQuiet (own : Cell → Bool) (d : Decided) (vs : List Version) (p q : Version → Bool) : Type 0 where
  pub kept : (v : Version) → Contains vs v → p v ≡ true → q v ≡ true
  pub new : (c : Cell) (v : Version) → own c ≡ true → Contains vs v → q v ≡ true → p v ≡ false → is_about c (dated v) ≡ false
  pub apart : (c : Cell) (x : Dated) → own c ≡ true → Contains (dated_by d) x → is_about c x ≡ false

module _ (own : Cell → Bool) (d : Decided) (p q : Version → Bool) (vs : List Version) (opening : Stand) (all more : List Decided) (quiet : IsQuiet own d vs p q) (added : IsAdded d all more) where
  -- of such a cell the same writes count
  counts-then : (c : Cell) (x : Dated) → Has x (dated_of p vs) → Has x (dated_of q vs)
  counts-then c x i = let v = counted-has p vs x i in subst (λ y. Has y (dated_of q vs)) v.3 (has-counted q vs v.0 v.1 (quiet.kept v.0 (contains-from_has vs v.0 v.1) v.2))

  counted-before : (c : Cell) (x : Dated) → own c ≡ true → is_about c x ≡ true → Has x (dated_of q vs) → Has x (dated_of p vs)
  counted-before c x is about i = let v = counted-has q vs x i in by v.0 v.1 v.2 v.3 (p v.0) refl
    where
      by : (v : Version) → Has v vs → q v ≡ true → dated v ≡ x → (b : Bool) → p v ≡ b → Has x (dated_of p vs)
      by v j now same true before = subst (λ y. Has y (dated_of p vs)) same (has-counted p vs v j before)
      by v j now same false before = clash (is_about c (dated v)) (subst (λ y. is_about c y ≡ true) (sym same) about) (quiet.new c v is (contains-from_has vs v j) now before)

  -- so the versions make the same map below every epoch
  pub quiet-map : (e : ℕ) → AreSingleInOrder vs → (c : Cell) → own c ≡ true → value_at (map_of (counts_under q e) vs) c ≡ value_at (map_of (counts_under p e) vs) c
  quiet-map e form c is =
      gives-dated c q e vs
      ∙ after-same c (filter (is_earlier e) (dated_of q vs)) (filter (is_earlier e) (dated_of p vs)) None
      (rising-filter dated_key (is_earlier e) (dated_of q vs) (rising-dated q vs form)) (rising-filter dated_key (is_earlier e) (dated_of p vs) (rising-dated p vs form))
      (λ x about. (there x about, here x))
      ∙ sym (gives-dated c p e vs)
    where
      there : (x : Dated) → is_about c x ≡ true → Contains (filter (is_earlier e) (dated_of q vs)) x → Contains (filter (is_earlier e) (dated_of p vs)) x
      there x about i =
          let h = has-from_filter (is_earlier e) (dated_of q vs) x (has-from_contains (filter (is_earlier e) (dated_of q vs)) x i) in
          contains-from_has (filter (is_earlier e) (dated_of p vs)) x (has-filter (is_earlier e) (dated_of p vs) x (counted-before c x is about h.0) h.1)

      here : (x : Dated) → Contains (filter (is_earlier e) (dated_of p vs)) x → Contains (filter (is_earlier e) (dated_of q vs)) x
      here x i =
          let h = has-from_filter (is_earlier e) (dated_of p vs) x (has-from_contains (filter (is_earlier e) (dated_of p vs)) x i) in
          contains-from_has (filter (is_earlier e) (dated_of q vs)) x (has-filter (is_earlier e) (dated_of q vs) x (counts-then c x h.0) h.1)

  -- and give the map as of every epoch that they gave before
  pub quiet-gives : (e : ℕ) → AreSingleInOrder vs → AreDecided all → AreDecided more → GivesAsOf own p vs opening all e → GivesAsOf own q vs opening more e
  quiet-gives e form f g gives c is =
      quiet-map e form c is
      ∙ gives c is
      ∙ as_of-more c opening d all more e f g added (λ x i lt about. clash (is_about c x) about (quiet.apart c x is (contains-from_has (dated_by d) x i)))

  pub quiet-keep : (mark : ℕ) → AreSingleInOrder vs → AreDecided all → AreDecided more → Matches own p vs opening all mark → Matches own q vs opening more mark
  quiet-keep mark form f g m = record { above = λ c is x about. (there c x is about, here c x is about); at_mark = quiet-gives mark form f g m.at_mark }
    where
      there : (c : Cell) (x : Dated) → own c ≡ true → is_about c x ≡ true → Contains (filter (is_from mark) (dated_of q vs)) x → Contains (filter (is_from mark) (all_dated more)) x
      there c x is about i =
          let h = has-from_filter (is_from mark) (dated_of q vs) x (has-from_contains (filter (is_from mark) (dated_of q vs)) x i) in
          let k = (m.above c is x about).0 (contains-from_has (filter (is_from mark) (dated_of p vs)) x (has-filter (is_from mark) (dated_of p vs) x (counted-before c x is about h.0) h.1)) in
          let a = has-from_filter (is_from mark) (all_dated all) x (has-from_contains (filter (is_from mark) (all_dated all)) x k) in
          let w = has-from_dated all x a.0 in
          contains-from_has (filter (is_from mark) (all_dated more)) x
          (has-filter (is_from mark) (all_dated more) x (has-dated more x (record { by = w.by; among = has-from_contains more w.by (added.old w.by (contains-from_has all w.by w.among)); has = w.has })) h.1)

      here : (c : Cell) (x : Dated) → own c ≡ true → is_about c x ≡ true → Contains (filter (is_from mark) (all_dated more)) x → Contains (filter (is_from mark) (dated_of q vs)) x
      here c x is about i =
          let h = has-from_filter (is_from mark) (all_dated more) x (has-from_contains (filter (is_from mark) (all_dated more)) x i) in
          let w = has-from_dated more x h.0 in
          by h.1 w.by w.has (added.from w.by (contains-from_has more w.by w.among))
        where
          by : is_from mark x ≡ true → (b : Decided) → Has x (dated_by b) → Contains all b ⊎ (b ≡ d) → Contains (filter (is_from mark) (dated_of q vs)) x
          by from b has (inl j) =
              let old = has-dated all x (record { by = b; among = has-from_contains all b j; has = has }) in
              let k = (m.above c is x about).1 (contains-from_has (filter (is_from mark) (all_dated all)) x (has-filter (is_from mark) (all_dated all) x old from)) in
              let a = has-from_filter (is_from mark) (dated_of p vs) x (has-from_contains (filter (is_from mark) (dated_of p vs)) x k) in
              contains-from_has (filter (is_from mark) (dated_of q vs)) x (has-filter (is_from mark) (dated_of q vs) x (counts-then c x a.0) from)
          by from b has (inr same) = clash (is_about c x) about (quiet.apart c x is (contains-from_has (dated_by d) x (subst (λ y. Has x (dated_by y)) same has)))

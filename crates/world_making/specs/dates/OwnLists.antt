-- The epochs of lines of attempts that read at no snapshot, with one line more.
use Rattle.std.specs.Prelude.{ℕ, ◌≡◌, ◌<◌, ◌++◌, Bool, true, false, nat_eq, List, [], ◌∷◌, Contains, All, Option, Some, None, refl, if◌then◌else◌}
use Rattle.std.specs.Cmp.{nat_eq_equiv}
use Rattle.std.specs.List.{IsDistinct, list_any}
use Rattle.std.proofs.Common.{append-nil, sym, ◌∙◌, ap, subst, ⊎_elim}
use Rattle.std.proofs.lemmas.Bool.{eqb-true}
use Rattle.std.proofs.lemmas.List.Elements.{All-push, Contains-append_cases, Contains-append_left, Contains-append_right, Contains-push}
use Rattle.std.proofs.lemmas.List.Folds.{list_any_none}
use Rattle.std.proofs.lemmas.Map.Keys.{IsDistinct-push}
use Rattle.base_types.specs.declared.epoch.Epoch.{Epoch}
use Rattle.base_types.specs.declared.report.Attempt.{Attempt}
use Rattle.base_types.specs.declared.report.Line.{Line}
use Rattle.base_types.specs.declared.report.Line.TheVariants as line
use Rattle.base_types.specs.declared.script.Script.{Script}
use Rattle.daos_model.specs.Attempts.{epoch_or_none, has_own_epoch, own_epochs, tries}
use Rattle.daos_model.specs.Order.{AreIssued}
use Rattle.world_letters.specs.epochs.Lists.{all-each, contains-none, contains-one, tries-push, own_epochs-append}

-- one that an attempt has which reads at no snapshot
record HasItsOwn (s : Script) (attempts : List Attempt) (n : ℕ) : Type 0 where
  a : Attempt
  e : Epoch
  among : Contains attempts a
  own : has_own_epoch s a ≡ true
  known : a.epoch ≡ Some e
  is : e.0 ≡ n

own-one : (o : Option Epoch) (n : ℕ) → Contains (epoch_or_none o) n → (e : Epoch) × (o ≡ Some e) × (e.0 ≡ n)
own-one None n h = absurd (contains-none n h)
own-one (Some e) n h = (e, refl, contains-one e.0 n h)

own-has : (s : Script) (attempts : List Attempt) (n : ℕ) → Contains (own_epochs s attempts) n → HasItsOwn s attempts n
unfolding own_epochs
own-has s [] n h = absurd (contains-none n h)
own-has s (a ∷ more) n h =
    ⊎_elim (λ k. first (has_own_epoch s a) refl k)
    (λ k. let l = own-has s more n k in record { a = l.a; e = l.e; among = Contains-append_right (a ∷ []) more l.a l.among; own = l.own; known = l.known; is = l.is })
    (Contains-append_cases (if has_own_epoch s a then epoch_or_none a.epoch else []) (own_epochs s more) n h)
  where
    first : (b : Bool) → has_own_epoch s a ≡ b → Contains (if b then epoch_or_none a.epoch else []) n → HasItsOwn s (a ∷ more) n
    first true own k = let l = own-one a.epoch n k in record { a = a; e = l.0; among = Contains-append_left (a ∷ []) more a (Contains-push [] a); own = own; known = l.1; is = l.2 }
    first false own k = absurd (contains-none n k)

-- a line more: where it is of an attempt that reads at no snapshot, its epoch, if it has one, is above all of before the run, and that of no
-- other such line
pub own-push : (s : Script) (top : ℕ) (lines : List Line) (a : Attempt) → AreIssued s top lines
    → ((e : Epoch) → has_own_epoch s a ≡ true → a.epoch ≡ Some e → (top < e.0) × ((b : Attempt) (f : Epoch) → Contains (tries lines) b → has_own_epoch s b ≡ true → b.epoch ≡ Some f → (e.0 ≡ f.0) → ⊥)) → AreIssued s top (lines ++ line.Try a ∷ [])
unfolding own_epochs
own-push s top lines a I new = record {
  distinct = subst (λ es. IsDistinct nat_eq es) (sym all) (distinct-by (has_own_epoch s a) refl a.epoch refl);
  above = subst (λ es. All (λ e. top < e) es) (sym all) (above-by (has_own_epoch s a) refl a.epoch refl);
}
  where
    old : List ℕ
    old = own_epochs s (tries lines)

    all : own_epochs s (tries (lines ++ line.Try a ∷ [])) ≡ old ++ (if has_own_epoch s a then epoch_or_none a.epoch else [])
    all = ap (own_epochs s) (tries-push lines a) ∙ own_epochs-append s (tries lines) (a ∷ []) ∙ ap (λ es. old ++ es) (append-nil (if has_own_epoch s a then epoch_or_none a.epoch else []))

    apart : (e : Epoch) → has_own_epoch s a ≡ true → a.epoch ≡ Some e → list_any (nat_eq e.0) old ≡ false
    apart e own is = list_any_none (nat_eq e.0) old (all-each (λ n. nat_eq e.0 n ≡ false) old (λ n h. by n h (nat_eq e.0 n) refl))
      where
        by : (n : ℕ) → Contains old n → (b : Bool) → nat_eq e.0 n ≡ b → nat_eq e.0 n ≡ false
        by n h false same = same
        by n h true same = let k = own-has s (tries lines) n h in absurd ((new e own is).1 k.a k.e k.among k.own k.known (eqb-true e.0 n same ∙ sym k.is))

    distinct-by : (b : Bool) → has_own_epoch s a ≡ b → (o : Option Epoch) → a.epoch ≡ o → IsDistinct nat_eq (old ++ (if b then epoch_or_none o else []))
    distinct-by false own o is = subst (λ es. IsDistinct nat_eq es) (sym (append-nil old)) I.distinct
    distinct-by true own None is = subst (λ es. IsDistinct nat_eq es) (sym (append-nil old)) I.distinct
    distinct-by true own (Some e) is = IsDistinct-push nat_eq_equiv old e.0 I.distinct (apart e own is)

    above-by : (b : Bool) → has_own_epoch s a ≡ b → (o : Option Epoch) → a.epoch ≡ o → All (λ e. top < e) (old ++ (if b then epoch_or_none o else []))
    above-by false own o is = subst (λ es. All (λ e. top < e) es) (sym (append-nil old)) I.above
    above-by true own None is = subst (λ es. All (λ e. top < e) es) (sym (append-nil old)) I.above
    above-by true own (Some e) is = All-push (λ n. top < n) old e.0 I.above (new e own is).0

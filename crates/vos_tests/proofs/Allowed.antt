-- What the calls of the rows ask, from what the calls before made.
use Rattle.std.proofs.Common.{◌≡◌, ℕ, ◌<◌, ◌≤◌, ◌^◌, zero, suc, true, false, List, [], ◌∷◌, Option, None, Some, refl, sym, ◌∙◌, ap, subst, arith}
use Rattle.std.specs.Prelude.{◌≢◌, All, Err, Ok, OnOk, Result}
use Rattle.std.specs.Option.{ForSome, option_map}
use Rattle.std.proofs.lemmas.List.Elements.{All-cons}
use Rattle.std.proofs.lemmas.Option.{same_Some}
use Rattle.base_types.specs.declared.entry.Settle.TheVariants.{Commit}
use Rattle.base_types.specs.declared.id.AttemptId.{AttemptId}
use Rattle.base_types.specs.declared.operation.Read.TheVariants as read
use Rattle.base_types.specs.declared.operation.Write.{Write}
use Rattle.base_types.specs.declared.operation.Write.TheVariants.{Extent}
use Rattle.base_types.specs.declared.path.Path.{Path}
use Rattle.daos_model.specs.declared.durable.Durable.{Durable}
use Rattle.daos_model.specs.declared.durable.Version.{Version}
use Rattle.daos_model.specs.Changes.{enlisted, leased, marked, prepared, pruned, settled, with_versions}
use Rattle.daos_model.specs.Durables.{empty_durable, entry_of, is_enlisted, row_of, same_attempt, version_key}
use Rattle.daos_model.specs.EntryLaws.{entry_of-prepared}
use Rattle.daos_model.specs.Forms.{AreWritesInForm, is_read_in_form, is_write_in_form}
use Rattle.vos_store.specs.Answers.{floor_of}
use Rattle.vos_store.specs.Calls.{State}
use Rattle.daos_model.specs.Versions.{done_by, version_of, version_path}
use Rattle.vos_store.specs.Conditions.{CanPrepare, CanPrune, CanSettle, CanWrite, IsPreparable}
use Rattle.vos_tests.specs.Rows.{CanPut, IsHere, akey, alone, attempt, cont, entry, entry_at, epoch, one, put, put_one, put_two, staged, started, two, unopened, value}

-- what is kept is known where it is told
pub at-told : (P : Durable → Type 0) (o : Option Durable) (d : Durable) → o ≡ Some d → P d → ForSome o P
at-told P o d e h = λ x is. subst P (same_Some d x (sym e ∙ is)) h

pub records_here : (p : Path) (bytes : List ℕ) → p ≡ akey → bytes ≡ 97 ∷ 98 ∷ 99 ∷ 100 ∷ 119 ∷ 120 ∷ 121 ∷ 122 ∷ [] → IsHere (Extent p 1 bytes)
unfolding is_write_in_form
records_here p bytes e f = record {
  form = ap (λ q. is_write_in_form (Extent q 1 bytes)) e ∙ ap (λ xs. is_write_in_form (Extent akey 1 xs)) f;
  cont = ap (λ q. q.cont) e;
}

pub read_here : (p : Path) → p ≡ akey → is_read_in_form (read.Extent p 0 4) ≡ true
unfolding is_read_in_form
read_here p e = ap (λ q. is_read_in_form (read.Extent q 0 4)) e

pub value_read : (p : Path) → p ≡ akey → is_read_in_form (read.Single p) ≡ true
unfolding is_read_in_form
value_read p e = ap (λ q. is_read_in_form (read.Single q)) e

pub on-ok : {T E : Type 0} (r : Result T E) {P Q : Type 0} → (P → Q) → OnOk r P → OnOk r Q
on-ok (Ok x) f p = f p
on-ok (Err e) f p = tt

-- ---- the steps

pub started_is : (o p q : Option Durable) → o ≡ Some (empty_durable 1) → p ≡ option_map (enlisted (cont ∷ [])) o → q ≡ option_map (leased 65536) p → q ≡ Some started
unfolding started
started_is o p q e f g = g ∙ ap (option_map (leased 65536)) (f ∙ ap (option_map (enlisted (cont ∷ []))) e)

pub no_lease_yet : (o p : Option Durable) → o ≡ Some (empty_durable 1) → p ≡ option_map (enlisted (cont ∷ [])) o → ForSome p (λ d. d.lease ≤ 65536)
unfolding enlisted
no_lease_yet o p e f =
    at-told (λ d. d.lease ≤ 65536) p (enlisted (cont ∷ []) (empty_durable 1)) (f ∙ ap (option_map (enlisted (cont ∷ []))) e) (omega arith)

-- a power of 2 above the first
some_power : (n : ℕ) → 1 ≤ 2 ^ n
some_power zero = omega arith
some_power (suc n) = omega (arith, some_power n)

above_one : (n : ℕ) → 1 ≤ n → 1 < 2 ^ n
above_one zero h = absurd (omega arith)
above_one (suc n) h = omega (arith, some_power n)

one_passes : {T : Type 0} (P : T → Type 0) (x : T) → P x → All P (x ∷ [])
one_passes P x h = All-cons P x [] h (λ k y lt. absurd (omega arith))

alone_in_form : (w : Write) → is_write_in_form w ≡ true → AreWritesInForm (alone w)
alone_in_form w h = record {
  count = omega arith;
  each = one_passes (λ m. is_write_in_form m.write ≡ true) (record { minor = 0; write = w }) h;
  rising = λ k lt. absurd (omega arith);
  minors = one_passes (λ m. m.minor < 64) (record { minor = 0; write = w }) (omega arith);
}

-- one write of an attempt that is led by target 0, its only member
pub preparable : (s : State) (a : AttemptId) (e : ℕ) (w : Write) → 1 ≤ s.targets → IsHere w → IsPreparable s (record { attempt = a; epoch = epoch e; leader = 0; members = 1; confirmed = 0; committed = false }) (alone w)
preparable s a e w some h = record {
  undecided = refl;
  unconfirmed = refl;
  leader = some;
  members = above_one s.targets some;
  some = omega arith;
  form = alone_in_form w h.form;
}

floor-started : (floor_of unopened started cont).0.0 < 256
unfolding floor_of row_of started enlisted leased
floor-started = omega arith

pub can_prepare : (s : State) (n : ℕ) (w : Write) → s.opening ≡ unopened → IsHere w → CanPrepare s (entry n) (alone w) started
unfolding entry_of is_enlisted started enlisted leased
can_prepare s n w o h = record {
  absent = refl;
  each = one_passes (CanWrite s (entry n) started) (record { minor = 0; write = w }) (record {
    enlisted = subst (λ c. is_enlisted started c ≡ true) (sym h.cont) refl;
    above = subst (λ c. (floor_of s.opening started c).0.0 < 256) (sym h.cont) (subst (λ f. (floor_of f started cont).0.0 < 256) (sym o) floor-started);
    new = λ k v lt same. absurd (omega arith);
  });
  leased = omega arith;
}

-- ---- what stands then

pub enlisted-staged : (n : ℕ) (w : Write) → is_enlisted (staged n w) cont ≡ true
unfolding staged started is_enlisted enlisted leased prepared
enlisted-staged n w = refl

pub enlisted-settled : (n : ℕ) (w : Write) → is_enlisted (settled (attempt n) Commit (staged n w)) cont ≡ true
unfolding staged started is_enlisted enlisted leased prepared settled
enlisted-settled n w = refl

pub can_commit : (n : ℕ) (w : Write) → CanSettle (attempt n) Commit (staged n w)
unfolding staged entry_of started enlisted leased
can_commit n w = record { entry = entry n; here = entry_of-prepared (entry n) (alone w) started refl; fits = refl }

-- ---- values that are put

pub value_here : (bytes : List ℕ) → is_write_in_form (value bytes) ≡ true → IsHere (value bytes)
value_here bytes h = record { form = h; cont = refl }

pub can_settle-put : (o p : Option Durable) (s : State) (n e : ℕ) (w : Write) → ForSome o (CanPrepare s (entry_at n e) (alone w)) → p ≡ option_map (prepared (entry_at n e) (alone w)) o → ForSome p (CanSettle (attempt n) Commit)
can_settle-put None p s n e w here is x told = let no : ⊥ = cc (told, is) in absurd no
can_settle-put (Some d) p s n e w here is x told =
    subst (CanSettle (attempt n) Commit) (same_Some (prepared (entry_at n e) (alone w) d) x (sym is ∙ told))
    (record { entry = entry_at n e; here = entry_of-prepared (entry_at n e) (alone w) d (here d refl).absent; fits = refl })

pub put_is : (o p q : Option Durable) (n e : ℕ) (bytes : List ℕ) → p ≡ option_map (prepared (entry_at n e) (alone (value bytes))) o → q ≡ option_map (settled (attempt n) Commit) p → q ≡ option_map (put n e bytes) o
unfolding put
put_is None p q n e bytes f g = g ∙ ap (option_map (settled (attempt n) Commit)) f
put_is (Some d) p q n e bytes f g = g ∙ ap (option_map (settled (attempt n) Commit)) f

pub one_in_form : is_write_in_form (value one) ≡ true
unfolding is_write_in_form
one_in_form = refl

pub two_in_form : is_write_in_form (value two) ≡ true
unfolding is_write_in_form
two_in_form = refl

pub can_put_one : (s : State) → s.opening ≡ unopened → CanPut s 0 256 one started
can_put_one s o = can_prepare s 0 (value one) o (value_here one one_in_form)

floor-put : (floor_of unopened put_one cont).0.0 < 512
unfolding floor_of row_of put_one put started enlisted leased prepared settled
floor-put = omega arith

abbrev put_version : ℕ → ℕ → List ℕ → Version
put_version n e bytes = version_of (entry_at n e) (record { minor = 0; write = value bytes })

-- the first number of a list, or 0
abbrev first_of : List ℕ → ℕ
first_of [] = 0
first_of (n ∷ ns) = n

another-place : version_key (done_by (attempt 0) (put_version 0 256 one)) ≢ version_key (put_version 1 512 two)
unfolding done_by
another-place same = let differ : 256 ≡ 512 = ap first_of same in absurd (omega (arith, differ))

pub can_put_two : (s : State) → s.opening ≡ unopened → CanPut s 1 512 two put_one
unfolding entry_of is_enlisted put_one put started enlisted leased prepared settled same_attempt
can_put_two s o = record {
  absent = refl;
  each = one_passes (CanWrite s (entry_at 1 512) put_one) (record { minor = 0; write = value two }) (record {
    enlisted = refl;
    above = subst (λ f. (floor_of f put_one cont).0.0 < 512) (sym o) floor-put;
    new = one_passes (λ v. version_key v ≢ version_key (put_version 1 512 two)) (done_by (attempt 0) (put_version 0 256 one)) another-place;
  });
  leased = omega arith;
}

pub put_two_is : (o p q : Option Durable) → o ≡ Some started → p ≡ option_map (put 0 256 one) o → q ≡ option_map (put 1 512 two) p → q ≡ Some put_two
unfolding put_one put_two
put_two_is o p q e f g = g ∙ ap (option_map (put 1 512 two)) (f ∙ ap (option_map (put 0 256 one)) e)

pub put_one_is : (o p : Option Durable) → o ≡ Some started → p ≡ option_map (put 0 256 one) o → p ≡ Some put_one
unfolding put_one
put_one_is o p e f = f ∙ ap (option_map (put 0 256 one)) e

pub enlisted-put : is_enlisted put_two cont ≡ true
unfolding is_enlisted put_two put_one put started enlisted leased prepared settled
enlisted-put = refl

abbrev Settled : Version → Type 0
Settled v = (version_path v).cont ≡ cont → v.epoch.0 ≤ (epoch 600).0 → v.done ≡ true

pub can_prune : CanPrune cont (epoch 600) put_two
unfolding is_enlisted put_two put_one put started enlisted leased prepared settled done_by same_attempt
can_prune = record {
  enlisted = refl;
  settled =
      All-cons Settled (done_by (attempt 1) (done_by (attempt 0) (put_version 0 256 one))) (done_by (attempt 1) (put_version 1 512 two) ∷ []) (λ its low. refl)
      (one_passes Settled (done_by (attempt 1) (put_version 1 512 two)) (λ its low. refl));
  leased = omega arith;
}

pub enlisted-pruned : is_enlisted (pruned cont (epoch 600) 0 put_two) cont ≡ true
unfolding is_enlisted pruned marked put_two put_one put started enlisted leased prepared settled with_versions
enlisted-pruned = refl

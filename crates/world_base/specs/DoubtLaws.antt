-- What an attempt in doubt is: prepared here, and led by another target.
use Rattle.std.specs.Prelude.{ℕ, ◌≡◌, Bool, true, false, ◌&&◌, not, Option, Some, None, if◌then◌else◌, refl}
use Rattle.std.specs.Option.{option_map}
use Rattle.std.proofs.Common.{◌∙◌, ap, arith, sym}
use Rattle.std.proofs.lemmas.Bool.Decides.{nat_tests}
use Rattle.base_types.specs.declared.entry.Entry.{Entry}
use Rattle.base_types.specs.declared.entry.Settle.TheVariants.{Abort}
use Rattle.base_types.specs.declared.id.AttemptId.{AttemptId}
use Rattle.daos_model.specs.declared.durable.Durable.{Durable}
use Rattle.daos_model.specs.BoolLaws.{and_left}
use Rattle.daos_model.specs.Changes.{committed_at, settled}
use Rattle.daos_model.specs.Durables.{entry_of, same_attempt}
use Rattle.dtx_base.specs.LeaderLaws.{same-is}
use Rattle.dtx_base.specs.Leading.{is_led}
use Rattle.daos_model.specs.EntryLaws.{same_attempt-itself}
use Rattle.world_base.specs.EntryLaws.{entry-aborted, entry-aborted_other, entry-committed}
use Rattle.world_base.specs.Marks.{marked_step}
use Rattle.world_base.specs.Roles.{is_entry_in_doubt, is_in_doubt, is_open_entry, is_prepared}

-- where an attempt has an entry here, another target leads it
abbrev pub IsLedElsewhere : ℕ → AttemptId → Durable → Type 0
IsLedElsewhere me a d = (e : Entry) → entry_of d a ≡ Some e → e.leader ≡ me → ⊥

-- what is in doubt is prepared
pub in_doubt-prepared : (me : ℕ) (a : AttemptId) (d : Durable) → is_in_doubt me a d ≡ true → is_prepared a d ≡ true
unfolding is_prepared is_in_doubt
in_doubt-prepared me a d doubt = by (entry_of d a) doubt
  where
    by : (o : Option Entry) → is_entry_in_doubt me o ≡ true → is_open_entry o ≡ true
    by None is = let no : ⊥ = cc in absurd no
    by (Some e) is = and_left (not e.committed) (not (is_led me e)) is

-- what is prepared here and led elsewhere is in doubt
pub undoubted-closed : (me : ℕ) (a : AttemptId) (d : Durable) → IsLedElsewhere me a d → is_in_doubt me a d ≡ false → is_prepared a d ≡ false
unfolding is_prepared is_in_doubt
undoubted-closed me a d elsewhere sure = by (entry_of d a) (λ e found. elsewhere e found) sure
  where
    open-or_not : (e : Entry) (b c : Bool) → e.committed ≡ b → is_led me e ≡ c → (e.leader ≡ me → ⊥) → (not b && not c) ≡ false → not b ≡ false
    open-or_not e true c is led apart sure = cc
    open-or_not e false true is led apart sure = let same : e.leader ≡ me = grind (arith, nat_tests) in absurd (apart same)
    open-or_not e false false is led apart sure = let no : ⊥ = cc in absurd no

    by : (o : Option Entry) → ((e : Entry) → o ≡ Some e → e.leader ≡ me → ⊥) → is_entry_in_doubt me o ≡ false → is_open_entry o ≡ false
    by None apart sure = cc
    by (Some e) apart sure = open-or_not e e.committed (is_led me e) (cc) (cc) (apart e (cc)) sure

-- so of what is led elsewhere, in doubt and prepared are one
pub doubted-or_closed : (me : ℕ) (a : AttemptId) (d : Durable) → IsLedElsewhere me a d → is_in_doubt me a d ≡ is_prepared a d
doubted-or_closed me a d elsewhere = by (is_in_doubt me a d) refl
  where
    by : (b : Bool) → is_in_doubt me a d ≡ b → is_in_doubt me a d ≡ is_prepared a d
    by true doubt = doubt ∙ sym (in_doubt-prepared me a d doubt)
    by false sure = sure ∙ sym (undoubted-closed me a d elsewhere sure)

-- ---- what a Mark leaves

leader-mapped : (a : AttemptId) (o : Option Entry) (e : Entry) → option_map (committed_at a) o ≡ Some e → (f : Entry) × (o ≡ Some f) × (f.leader ≡ e.leader)
leader-mapped a None e found = let no : ⊥ = cc in absurd no
leader-mapped a (Some f) e found = let same : committed_at a f ≡ e = cc in (f, refl, by (same_attempt f.attempt a) ∙ ap (λ z. z.leader) same)
  where
    by : (b : Bool) → f.leader ≡ (if b then record f { committed = true } else f).leader
    by true = refl
    by false = refl

-- what is led elsewhere stays so, whatever a Mark settles
pub elsewhere-settled : (me : ℕ) (x a : AttemptId) (committed : Bool) (d : Durable) → IsLedElsewhere me x d → IsLedElsewhere me x (settled a (marked_step committed) d)
elsewhere-settled me x a true d elsewhere e found mine =
    let o = leader-mapped a (entry_of d x) e (sym (entry-committed a d x) ∙ found) in
    elsewhere o.0 o.1 (o.2 ∙ mine)
elsewhere-settled me x a false d elsewhere e found mine = by (same_attempt x a) refl
  where
    by : (b : Bool) → same_attempt x a ≡ b → ⊥
    by true is = let no : ⊥ = cc (ap (λ y. entry_of (settled a Abort d) y) (same-is x a is), found, entry-aborted a d) in no
    by false is =
        elsewhere e (sym (entry-aborted_other a d x (λ same. let no : ⊥ = cc (ap (λ y. same_attempt x y) (sym same), same_attempt-itself x, is) in no)) ∙ found) mine

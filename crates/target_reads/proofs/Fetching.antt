-- What a read meets, of what the store answers.
use Rattle.std.proofs.Common.{ℕ, ◌≡◌, refl, sym, ◌∙◌, ap, subst, Bool, true, false, ◌&&◌, ◌||◌, nat_le, Option, Some, None, Result, Ok, Err}
use Rattle.std.specs.Prelude.{not, is_none, is_some, if◌then◌else◌}
use Rattle.base_types.specs.declared.answer.Answer.{Answer}
use Rattle.base_types.specs.declared.epoch.Epoch.{Epoch}
use Rattle.base_types.specs.declared.outcome.Cause.{Cause}
use Rattle.base_types.specs.declared.outcome.Cause.TheVariants.{Floor}
use Rattle.base_types.specs.declared.outcome.FloorWhy.TheVariants.{Aggregate}
use Rattle.base_types.specs.declared.operation.Read.{Read}
use Rattle.base_types.specs.declared.operation.Read.TheVariants as read
use Rattle.base_types.specs.declared.shown.Shown.{Shown}
use Rattle.base_types.specs.Operations.{read_path}
use Rattle.daos_model.specs.declared.durable.ContRow.{ContRow}
use Rattle.daos_model.specs.declared.durable.Durable.{Durable}
use Rattle.daos_model.specs.declared.durable.Version.{Version}
use Rattle.daos_model.specs.Answers.{answer}
use Rattle.daos_model.specs.Durables.{is_frozen, row_of}
use Rattle.daos_model.specs.ExtentForms.{read-at_akey}
use Rattle.daos_model.specs.Forms.{is_path_in_form, is_read_in_form}
use Rattle.daos_model.specs.Versions.{first_blocking, map_below}
use Rattle.vos_stamp.specs.Stamps.{or_later, read_cause}
use Rattle.vos_store.specs.Answers.{answer_unless, fetched, is_past}
use Rattle.vos_store.specs.declared.refusal.FetchNo.{FetchNo}
use Rattle.vos_store.specs.declared.refusal.FetchNo.TheVariants as no
use Rattle.world_base.specs.declared.request.FetchRequest.{FetchRequest}
use Rattle.world_base.specs.declared.target.TargetPlan.{TargetPlan}
use Rattle.world_base.specs.Reads.{aggregated_above, aggregated_unless, fetch_cause, later_of, later_unless}

akey-in_form : {A B C : Type 0} (o : Option A) (k : Option B) (l : Option C) → (is_some o && is_some k && is_some l) ≡ true → ((is_none k || is_some o) && (is_none l || is_some k)) ≡ true
akey-in_form None k l h = absurd (let n : ⊥ = cc in n)
akey-in_form (Some o) None l h = absurd (let n : ⊥ = cc in n)
akey-in_form (Some o) (Some k) None h = absurd (let n : ⊥ = cc in n)
akey-in_form (Some o) (Some k) (Some l) h = refl

object-in_form : {A B C : Type 0} (o : Option A) (k : Option B) (l : Option C) → (is_some o && is_none k && is_none l) ≡ true → ((is_none k || is_some o) && (is_none l || is_some k)) ≡ true
object-in_form None k l h = absurd (let n : ⊥ = cc in n)
object-in_form (Some o) (Some k) l h = absurd (let n : ⊥ = cc in n)
object-in_form (Some o) None (Some l) h = absurd (let n : ⊥ = cc in n)
object-in_form (Some o) None None h = refl

dkey-in_form : {A B C : Type 0} (o : Option A) (k : Option B) (l : Option C) → (is_some o && is_some k && is_none l) ≡ true → ((is_none k || is_some o) && (is_none l || is_some k)) ≡ true
dkey-in_form None k l h = absurd (let n : ⊥ = cc in n)
dkey-in_form (Some o) None l h = absurd (let n : ⊥ = cc in n)
dkey-in_form (Some o) (Some k) (Some l) h = absurd (let n : ⊥ = cc in n)
dkey-in_form (Some o) (Some k) None h = refl

-- a read in form has a path in form
pub read-in_form : (r : Read) → is_read_in_form r ≡ true → is_path_in_form (read_path r) ≡ true
unfolding is_read_in_form
read-in_form (read.Single p) h = akey-in_form p.obj p.dkey p.akey h
read-in_form (read.Extent p low len) h =
    akey-in_form p.obj p.dkey p.akey (read-at_akey p low len h)
read-in_form (read.Dkeys p) h = object-in_form p.obj p.dkey p.akey h
read-in_form (read.Akeys p) h = dkey-in_form p.obj p.dkey p.akey h
read-in_form (read.Exists p) h = h

abbrev pub is_aggregated : Result Answer FetchNo → Bool
is_aggregated (Ok b) = false
is_aggregated (Err no.Stopped) = false
is_aggregated (Err (no.Unsettled a)) = false
is_aggregated (Err (no.Aggregated at n)) = true
is_aggregated (Err no.Memory) = false

-- a read that isn't refused by the aggregated-to epoch is above it, or at a snapshot
not_past : (r : Read) (e : Epoch) (d : Durable) (x : Result Answer FetchNo) → is_aggregated x ≡ false → x ≡ fetched r e d → aggregated_above (read_path r) e d ≡ None
unfolding fetched
not_past r e d x other is = by (is_past (read_path r).cont e d) (row_of d (read_path r).cont) _ x other is
  where
    by : (b : Bool) (row : ContRow) (rest x : Result Answer FetchNo) → is_aggregated x ≡ false → x ≡ (if b then Err (no.Aggregated row.aggregated row.number) else rest) → aggregated_unless b row ≡ None
    by true row rest x other is = absurd (let clash : true ≡ false = sym (ap is_aggregated is) ∙ other in let n : ⊥ = cc in n)
    by false row rest x other is = refl

cause_of : (t : TargetPlan) (q : FetchRequest) (e : Epoch) (d : Durable) (later : Option Shown) → aggregated_above (read_path q.read) e d ≡ None
    → later ≡ later_unless q.snapshot (later_of t q.first e (read_path q.read) d) → fetch_cause t q e d ≡ read_cause t.me e.0 None later
cause_of t q e d later none is =
    ap (λ a. read_cause t.me e.0 a (later_unless q.snapshot (later_of t q.first e (read_path q.read) d))) none ∙ ap (λ l. read_cause t.me e.0 None l) (sym is)

-- where the aggregated-to epoch doesn't refuse it, a read has the cause that the check of reads gives
pub checked : (t : TargetPlan) (q : FetchRequest) (e : Epoch) (d : Durable) (later : Option Shown) (x : Result Answer FetchNo) (cause : Option Cause)
    → is_aggregated x ≡ false → x ≡ fetched q.read e d → later ≡ later_unless q.snapshot (later_of t q.first e (read_path q.read) d)
    → cause ≡ read_cause t.me e.0 None later → fetch_cause t q e d ≡ cause
checked t q e d later x cause other is later_is cause_is = cause_of t q e d later (not_past q.read e d x other is) later_is ∙ sym cause_is

past : (r : Read) (e at : Epoch) (n : ℕ) (d : Durable) → Err (no.Aggregated at n) ≡ fetched r e d → (aggregated_above (read_path r) e d ≡ Some (at, n)) × (nat_le e.0 at.0 ≡ true)
unfolding fetched is_past
past r e at n d is =
    by (nat_le e.0 (row_of d (read_path r).cont).aggregated.0) (not (is_frozen d (read_path r).cont e)) (row_of d (read_path r).cont) (first_blocking (read_path r) e.0 d.versions)
    (answer r (map_below d.versions e.0)) refl is
  where
    by : (b c : Bool) (row : ContRow) (v : Option Version) (a : Answer) → nat_le e.0 row.aggregated.0 ≡ b
        → Err (no.Aggregated at n) ≡ (if b && c then Err (no.Aggregated row.aggregated row.number) else answer_unless v a)
        → (aggregated_unless (b && c) row ≡ Some (at, n)) × (nat_le e.0 at.0 ≡ true)
    by true true row v a below is =
        let same : row.aggregated ≡ at = cc in
        let number : row.number ≡ n = cc in
        (ap (λ x. Some (x, row.number)) same ∙ ap (λ x. Some (at, x)) number, subst (λ x. nat_le e.0 x.0 ≡ true) same below)
    by true false row None a below is = absurd (let z : ⊥ = cc in z)
    by true false row (Some v) a below is = absurd (let z : ⊥ = cc in z)
    by false c row None a below is = absurd (let z : ⊥ = cc in z)
    by false c row (Some v) a below is = absurd (let z : ⊥ = cc in z)

-- a read that the aggregated-to epoch refuses has the cause of its floor
pub past_cause : (t : TargetPlan) (q : FetchRequest) (e at : Epoch) (n : ℕ) (d : Durable) → Err (no.Aggregated at n) ≡ fetched q.read e d
    → fetch_cause t q e d ≡ Some (Floor t.me at (Aggregate n))
past_cause t q e at n d is =
    let p = past q.read e at n d is in
    ap (λ a. read_cause t.me e.0 a (later_unless q.snapshot (later_of t q.first e (read_path q.read) d))) p.0
    ∙ ap (λ (b : Bool). or_later (if b then Some (Floor t.me at (Aggregate n)) else None) (later_unless q.snapshot (later_of t q.first e (read_path q.read) d))) p.1

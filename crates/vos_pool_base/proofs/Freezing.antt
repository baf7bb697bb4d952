-- A freeze answers as what is kept asks, and what its commit makes it makes.
use Rattle.std.specs.Prelude.{◌≡◌, ℕ, Bool, true, false, IsTrue, List, Option, Some, None, Result, Ok, Err, refl}
use Rattle.std.specs.Option.{ForSome}
use Rattle.std.proofs.Common.{◌∙◌, sym, subst}
use Rattle.base_outside.specs.Images.{Image}
use Rattle.base_types.specs.declared.entry.Entry.{Entry}
use Rattle.daos_model.specs.declared.durable.Durable.{Durable}
use Rattle.daos_model.specs.declared.durable.Version.{Version}
use Rattle.daos_model.specs.BoolLaws.{clash}
use Rattle.pmem_undo.specs.Layout.{gate}
use Rattle.vos_commits.specs.Kept.{kept_in}
use Rattle.vos_standing.specs.vos_image.Kept.{durable_of, kept}
use Rattle.vos_standing.specs.vos_places.Tables.{Table}
use Rattle.vos_pool_base.specs.Pool.{ChangesTo, HasStood, kept_by}
use Rattle.vos_standing.proofs.Committed.{closed_it_is_kept}
use Rattle.vos_store.specs.Calls.{Makes}
use Rattle.vos_store.specs.declared.refusal.Stopped.{Stopped}
use Rattle.vos_store.specs.Refusals.{always_stop, refuses}
use Rattle.vos_tables.specs.Kept.{MakesWhere, kept_with}

-- what a pool keeps has the rows of its table
pub record IsKeptWith (t : Table) (d : Durable) : Type 0 where
  pub versions : List Version
  pub entries : List Entry
  pub is : d ≡ kept_with t versions entries

some-is : (d e : Durable) → Some d ≡ Some e → d ≡ e
some-is d e same = cc

pub kept_with_of : (tells : Bool) (size : ℕ) (f : Image) (t : Table) (d : Durable) → (IsTrue tells → HasStood size f t) → (IsTrue tells → f gate ≡ 0) → kept_by tells t.header.target size f ≡ Some d → IsKeptWith t d
unfolding durable_of
kept_with_of true size f t d h closed is =
    let s = h refl in
    record { versions = _; entries = _; is = sym (some-is (kept_in (kept t.header.target size) size f) d is) ∙ closed_it_is_kept t.header.target size f t s.stored (closed refl) s.stands }
kept_with_of false size f t d h closed is = absurd (nothing is)
  where
    nothing : None ≡ Some d → ⊥
    nothing e = cc

-- a call of another kind of refusal makes what its commit makes
pub made_at_ok : {E : Type 0} (stop : E → Bool) (stopped : Bool) (change : Durable → Durable) (r : Result (Unit {0}) Stopped) (x : Unit {0}) (old new : Option Durable) (may may' : Durable → Type 0) → Makes stopped always_stop change r old new may may' → r ≡ Ok x → Makes {T = Unit {0}} {E = E} stopped stop change (Ok (tt {0})) old new may may'
made_at_ok {E = E} stop stopped change r x old new may may' m is = subst (λ q. Makes stopped always_stop change q old new may may' → Makes {T = Unit {0}} {E = E} stopped stop change (Ok (tt {0})) old new may may') (sym is) (λ k. record {
  told = k.told;
  done = k.done;
  refused = λ bad. absurd (clash false bad refl);
  left = k.left;
}) m

pub made_at_err : {E : Type 0} (stop : E → Bool) (e : E) → refuses {T = Unit {0}} stop (Err e) ≡ false → (stopped : Bool) (change : Durable → Durable) (r : Result (Unit {0}) Stopped) (old new : Option Durable) (may may' : Durable → Type 0) → Makes stopped always_stop change r old new may may' → Makes {T = Unit {0}} stopped stop change (Err e) old new may may'
made_at_err stop e not_refused stopped change r old new may may' m = record {
  told = m.told;
  done = tt;
  refused = λ bad. absurd (clash (refuses {T = Unit {0}} stop (Err e)) bad not_refused);
  left = m.left;
}

-- a table that changes so where this may be asked of what is kept
pub changes_where : (Asked : Durable → Type 0) (change : Durable → Durable) (o : Option Durable) (t u : Table) → ForSome o Asked → MakesWhere Asked change t u → ChangesTo change o t u
changes_where Asked change o t u asked makes vs es is = makes vs es (asked (kept_with t vs es) is)

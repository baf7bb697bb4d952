-- A store that nothing can stop is stopped by no call, and its counts stay.
use Rattle.std.specs.Prelude.{◌≡◌, ℕ, Bool, true, false, Result}
use Rattle.std.proofs.Common.{inl, inr, sym, ◌∙◌}
use Rattle.vos_store.specs.Calls.{Fires, IsUnfailing, State, Turns}
use Rattle.vos_store.specs.Refusals.{says}

-- a store runs on: it isn't stopped, no count of it rose, and still nothing can stop it
pub record RunsOn (h k : State) : Type 0 where
  pub runs : k.stopped ≡ false
  pub faults : k.faults ≡ h.faults
  pub burns : k.burns ≡ h.burns
  pub still : IsUnfailing k

unfired : (h k : State) → h.fused ≡ false → Fires h k → (k.burns ≡ h.burns) × (k.fused ≡ h.fused)
unfired h k none (inl same) = same
unfired h k none (inr fired) = absurd (let no : true ≡ false = sym fired.0 ∙ none in let n : ⊥ = cc in n)

-- a call that may answer Stopped doesn't, where nothing can stop the store
pub runs-on : {T E : Type 0} (cost : ℕ) (stop : E → Bool) (result : Result T E) (h k : State) → Turns cost stop result h k → IsUnfailing h → h.stopped ≡ false
    → (says stop result ≡ false) × RunsOn h k
runs-on cost stop result h k t u run =
    let none : says stop result ≡ false = t.unfailing u.sure u.unfused ∙ run in
    let same = unfired h k u.unfused t.fuse in (
      none,
      record {
        runs = t.stops ∙ none;
        faults = t.sure u.sure;
        burns = same.0;
        still = record { sure = t.may_fail ∙ u.sure; unfused = same.1 ∙ u.unfused };
      },
    )

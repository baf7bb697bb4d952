-- A run of any script may begin with stores that were opened for it, with the snapshots of earlier runs.
use Rattle.std.specs.Prelude.{ℕ, ◌≡◌, ◌<◌, List, Some, length, slice_get}
use Rattle.std.specs.Option.{option_map}
use Rattle.std.proofs.Common.{sym, ◌∙◌, ap, subst}
use Rattle.base_types.specs.declared.script.Script.{Script}
use Rattle.daos_model.specs.declared.durable.Durable.{Durable}
use Rattle.daos_model.specs.Family.{greatest_lease, stand}
use Rattle.daos_model.specs.Finals.{opening_of}
use Rattle.daos_model.specs.FormLaws.{length-map}
use Rattle.daos_model.specs.Sound.{Sound}
use Rattle.run_opening.specs.Opened.{enlisted_family, opened}
use Rattle.daos_model.specs.Changes.{enlisted}
use Rattle.world_base.specs.declared.target.TargetState.{TargetState}
use Rattle.world_base.specs.declared.world.World.{World}
use Rattle.world_closing.specs.stands.Lasting.{AreLasting, BeginsKept, IsLasting, lasting-stores-begin}
use Rattle.world_closing.specs.Below.{durable_of, durables_of, get-map, declared_conts}
use Rattle.run_starts.specs.Starts.{AllBegin, begun_family}

-- Where the targets of a world keep what they keep that were opened for a run of a script, it may begin with them: with what they stood for, but for
-- the snapshots that the script drops.
abbrev pub OpenedStoresBegin : Type 0
OpenedStoresBegin =
    (s : Script) (B : List Durable) (free : ℕ → ℕ) (w : World) → 0 < length B → AllBegin s B → durables_of w ≡ begun_family s B
    → AreLasting w × BeginsKept (opening_of s B free) w

module _ (s : Script) (B : List Durable) (free : ℕ → ℕ) (w : World) (some : 0 < length B) (k : AllBegin s B) (keep : durables_of w ≡ begun_family s B) where
  pub many : length w.targets ≡ length B
  many =
      sym (length-map durable_of w.targets) ∙ ap length keep ∙ length-map (opened s (enlisted_family (declared_conts s) B)) (enlisted_family (declared_conts s) B)
      ∙ length-map (enlisted (declared_conts s)) B

  pub there : (t : ℕ) (z : TargetState) → slice_get w.targets t ≡ Some z → slice_get (begun_family s B) t ≡ Some z.durable
  there t z here = ap (λ ds. slice_get ds t) (sym keep) ∙ get-map durable_of w.targets t ∙ ap (option_map durable_of) here

  are-lasting : AreLasting w
  are-lasting = record {
    some = subst (λ n. 0 < n) (sym many) some;
    sound = subst Sound (sym keep) k.sound;
    each = λ t z here. subst (λ F. IsLasting F z.durable) (sym keep) (k.each t z.durable (there t z here)).lasts;
  }

  begin-kept : BeginsKept (opening_of s B free) w
  begin-kept = lasting-stores-begin (opening_of s B free) w are-lasting (sym (ap stand keep ∙ k.stands)) (sym (ap greatest_lease keep ∙ k.leases))

pub opened-stores-begin : OpenedStoresBegin
opened-stores-begin s B free w some k keep = (are-lasting s B free w some k keep, begin-kept s B free w some k keep)

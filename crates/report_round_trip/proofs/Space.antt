-- A target that lacks space is one of the script's.
use Rattle.std.proofs.Common.{◌≡◌, inl, inr, ℕ, zero, suc, ◌+◌, ◌<◌, List, Option, Some, None, refl, subst, arith}
use Rattle.std.specs.List.{range_with_len}
use Rattle.base_types.specs.declared.report.Attempt.{Attempt}
use Rattle.base_types.specs.declared.report.Line.{Line}
use Rattle.base_types.specs.declared.script.Command.{Command}
use Rattle.base_types.specs.declared.script.Command.TheVariants.{Run, Snap, Aggregate, Tell, Skip}
use Rattle.model_laws.specs.HoldingLaws.{holder-within}
use Rattle.model_laws.specs.Members.{Has, has-from_contains}
use Rattle.daos_model.specs.Accesses.{minor_writes, option_targets}
use Rattle.daos_model.specs.CausesShown.{LacksBlocks, LacksSpace, is_snap}
use Rattle.daos_model.specs.Opening.{Given}
use Rattle.daos_model.specs.Transactions.{attempt_ops, command_of}

-- a snapshot has all targets
range-within : (from n t : ℕ) → Has t (range_with_len from n) → t < from + n
range-within from zero t i = absurd i
range-within from (suc n) t (inl same) = omega (arith, same)
range-within from (suc n) t (inr i) = let low = range-within (from + 1) n t i in omega (arith, low)

module _ (g : Given) (lines : List Line) (a : Attempt) (t need free : ℕ) (some : 0 < g.script.targets) where
  blocks-within : LacksBlocks g lines a t need free → t < g.script.targets
  blocks-within k =
      let wanting = k.wanting in
      let is = k.need_is in
      holder-within g.script.targets t (minor_writes 0 (attempt_ops g.script a.id)) some (omega (arith, wanting, is))

  by-command : (o : Option Command) → command_of g.script a.id ≡ o → LacksSpace (is_snap o) g lines a t need free → t < g.script.targets
  by-command None e k = blocks-within k
  by-command (Some (Run ops skips snapshot)) e k = blocks-within k
  by-command (Some (Snap name cont)) e k =
      let low : t < 0 + g.script.targets = range-within 0 g.script.targets t (subst (λ o. Has t (option_targets a.id.command g.script.targets o)) e (has-from_contains (option_targets a.id.command g.script.targets (command_of g.script a.id)) t k.target)) in
      omega (arith, low)
  by-command (Some (Aggregate cont)) e k = blocks-within k
  by-command (Some (Tell client)) e k = blocks-within k
  by-command (Some (Skip turns)) e k = blocks-within k

  pub lacks-within : LacksSpace (is_snap (command_of g.script a.id)) g lines a t need free → t < g.script.targets
  lacks-within k = by-command (command_of g.script a.id) refl k

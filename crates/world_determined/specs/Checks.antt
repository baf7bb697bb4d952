-- What the checks of writes come to, where the same is told of what is open.
use Rattle.std.specs.Prelude.{ℕ, ◌≡◌, [], ◌∷◌, List, Option, Some, refl}
use Rattle.std.proofs.Common.{sym, ◌∙◌, ap, subst}
use Rattle.base_types.specs.declared.epoch.Epoch.{Epoch}
use Rattle.base_types.specs.declared.operation.MinorWrite.{MinorWrite}
use Rattle.base_types.specs.declared.outcome.Cause.{Cause}
use Rattle.base_types.specs.declared.outcome.FloorWhy.{FloorWhy}
use Rattle.base_types.specs.declared.outcome.Outcome.{Outcome}
use Rattle.base_types.specs.declared.outcome.Outcome.TheVariants as outcome
use Rattle.base_types.specs.declared.shown.Shown.{Shown}
use Rattle.daos_model.specs.declared.durable.Durable.{Durable}
use Rattle.vos_stamp.specs.Stamps.{read_later}
use Rattle.world_base.specs.declared.target.TargetPlan.{TargetPlan}
use Rattle.world_base.specs.Commits.{ByFloor, ByRead, ByWrite, IsAllowed, IsRefusedBy}
use Rattle.world_determined.specs.Open.{Look, seen_cause, with_open}

-- what a refusal tells of what is open: the later read, if it shows one
abbrev pub read_told : Cause → List Outcome
read_told c = with_open (Some (outcome.Restart c)) []

-- a refusal by a later read and one for want of space are apart, and each tells something
pub refusals-apart : (c : Cause) (target need free : ℕ) → outcome.Restart c ∷ [] ≡ outcome.NoSpace target need free ∷ [] → ⊥
refusals-apart c target need free same = cc

pub spaces-one : (target need free other : ℕ) → outcome.NoSpace target need free ∷ [] ≡ outcome.NoSpace target need other ∷ [] → free ≡ other
spaces-one target need free other same = cc

pub some-told : (how : Outcome) → how ∷ [] ≡ [] → ⊥
some-told how same = cc

module _ (look : Look) (t : TargetPlan) (opening : Epoch × FloorWhy) (first : Option Epoch) (e : Epoch) (stamps : List Shown) (ws : List MinorWrite) where
  abbrev IsRefused : Durable → Cause → Type 0
  IsRefused d c = IsRefusedBy t opening first e d stamps ws c

  abbrev looks : Cause → Cause
  looks c = seen_cause look c

  -- what is seen of why writes are refused is one, where the same is seen of the later read that is shown, if one is
  pub refused-one : (d d' : Durable) (c c' : Cause) → d ≡ d' → read_told (looks c) ≡ read_told (looks c') → IsRefused d c → IsRefused d' c' → looks c ≡ looks c'
  refused-one d d' c c' same told (ByFloor is) (ByFloor is') = let one : c ≡ c' = cc in ap looks one
  refused-one d d' c c' same told (ByFloor is) (ByRead above' r' shown' is') = let no : ⊥ = cc in absurd no
  refused-one d d' c c' same told (ByFloor is) (ByWrite above' none' w' later' is') = let no : ⊥ = cc in absurd no
  refused-one d d' c c' same told (ByRead above r shown is) (ByFloor is') = let no : ⊥ = cc in absurd no
  refused-one d d' c c' same told (ByRead above r shown is) (ByRead above' r' shown' is') =
      let both : outcome.Restart (read_later (look.read r)) ∷ [] ≡ outcome.Restart (read_later (look.read r')) ∷ [] = ap (λ x. read_told (looks x)) (sym is) ∙ told ∙ ap (λ x. read_told (looks x)) is' in
      let one : read_later (look.read r) ≡ read_later (look.read r') = cc (both) in ap looks is ∙ one ∙ ap looks (sym is')
  refused-one d d' c c' same told (ByRead above r shown is) (ByWrite above' none' w' later' is') =
      let both : outcome.Restart (read_later (look.read r)) ∷ [] ≡ [] = ap (λ x. read_told (looks x)) (sym is) ∙ told ∙ ap (λ x. read_told (looks x)) is' in let no : ⊥ = cc in absurd no
  refused-one d d' c c' same told (ByWrite above none w later is) (ByFloor is') = let no : ⊥ = cc in absurd no
  refused-one d d' c c' same told (ByWrite above none w later is) (ByRead above' r' shown' is') =
      let both : [] ≡ outcome.Restart (read_later (look.read r')) ∷ [] = ap (λ x. read_told (looks x)) (sym is) ∙ told ∙ ap (λ x. read_told (looks x)) is' in let no : ⊥ = cc in absurd no
  refused-one d d' c c' same told (ByWrite above none w later is) (ByWrite above' none' w' later' is') = let one : c ≡ c' = cc in ap looks one

  -- writes that are allowed aren't refused, but by a later read, which is told
  pub allowed-told : (d d' : Durable) (c : Cause) → d ≡ d' → IsRefused d c → IsAllowed t opening first e d' stamps ws → read_told (looks c) ≡ outcome.Restart (looks c) ∷ []
  allowed-told d d' c same (ByFloor is) allowed = let no : ⊥ = cc (allowed.floors) in absurd no
  allowed-told d d' c same (ByRead above r shown is) allowed = subst (λ x. read_told (looks x) ≡ outcome.Restart (looks x) ∷ []) (sym is) refl
  allowed-told d d' c same (ByWrite above none w later is) allowed = let no : ⊥ = cc (allowed.writes) in absurd no

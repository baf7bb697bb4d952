use Rattle.std.proofs.Common.{◌≡◌, ◌∙◌, ap, length, sym, subst, arith, None}
use Rattle.std.specs.Option.{option_map}
use Rattle.vos_moments.specs.vos_levels.Levels.{find_last, things}
use Rattle.vos_versions.specs.vos_chain.Made.{IsChainAt, chain_blocks}
use Rattle.vos_single.specs.Singles.{chain_of, is_under, placed_of, version_of}
use Rattle.vos_single.proofs.Reading.{found_at, none_found, version_found}
use Rattle.vos_single.proofs.single.Single.newest.Goals as goal

pub last_under-requires-clause-at : goal.last_under-requires-clause-at
last_under-requires-clause-at g c = let e = ap (λ z. z.minor) c.start_of-at.ensures in omega (arith, e)

pub read_chain-requires : goal.read_chain-requires
read_chain-requires g c = record {
  chain = λ told.
      let s = c.requires.here told in
      let m = g.P.Pages.blocks c.args.pages.now in
      let e = sym c.in-Some.is ∙ c.in_ok-placed.ensures.found told s.0 s.1.0 s.1.1.0 in
      let f = found_at m s.0 c.start_of-at.result c.in-Some.placed s.1.0 e in
      (chain_of f.stored, subst (λ b. IsChainAt b c.in-Some.placed.mark.chain c.in-Some.placed.mark.length (chain_of f.stored)) (sym (c.last_under.ensures.kept told)) f.chain);
}

pub returns-in_default-clause-found : goal.returns-in_default-clause-found
returns-in_default-clause-found g c told x held at =
    let none : None ≡ option_map placed_of (find_last (is_under c.start_of-at.result) (things x)) = let f = c.in_ok-placed.ensures.found told x held at in let n = c.in_default.is in cc in
    none_found x c.start_of-at.result none ∙ ap (λ k. option_map version_of (find_last (is_under k) (things x))) c.start_of-at.ensures

pub returns-clause-found : goal.returns-clause-found
returns-clause-found g c told x held at =
    let m = g.P.Pages.blocks c.args.pages.now in
    let e = sym c.in-Some.is ∙ c.in_ok-placed.ensures.found told x held at in
    let f = found_at m x c.start_of-at.result c.in-Some.placed held e in
    let chain = subst (λ b. IsChainAt b c.in-Some.placed.mark.chain c.in-Some.placed.mark.length (chain_of f.stored)) (sym (c.last_under.ensures.kept told)) f.chain in
    let bytes = c.in_ok-bytes.ensures.bytes told (chain_of f.stored) chain in
    version_found m x c.start_of-at.result c.in-Some.placed c.in_ok-bytes.bytes f bytes ∙ ap (λ k. option_map version_of (find_last (is_under k) (things x))) c.start_of-at.ensures

pub returns-in_err-placed-clause-steps : goal.returns-in_err-placed-clause-steps
returns-in_err-placed-clause-steps g c told x held at d few = let h = c.last_under.ensures.steps told x held at d few in omega arith

pub returns-in_default-clause-steps : goal.returns-in_default-clause-steps
returns-in_default-clause-steps g c told x held at d few = let h = c.last_under.ensures.steps told x held at d few in omega arith

pub returns-in_default-clause-reads : goal.returns-in_default-clause-reads
returns-in_default-clause-reads g c told x held at = c.last_under.ensures.steps told x held at

pub returns-clause-reads : goal.returns-clause-reads
returns-clause-reads g c told x held at d few =
    let m = g.P.Pages.blocks c.args.pages.now in
    let e = sym c.in-Some.is ∙ c.in_ok-placed.ensures.found told x held at in
    let f = found_at m x c.start_of-at.result c.in-Some.placed held e in
    let chain = subst (λ b. IsChainAt b c.in-Some.placed.mark.chain c.in-Some.placed.mark.length (chain_of f.stored)) (sym (c.last_under.ensures.kept told)) f.chain in
    let bytes = c.in_ok-bytes.ensures.bytes told (chain_of f.stored) chain in
    let count : c.in-Some.placed.mark.length ≡ length c.in_ok-bytes.bytes = chain.count_is ∙ ap length (sym bytes) in
    let search_steps = c.last_under.ensures.steps told x held at d few in
    let chain_steps = c.read_chain.ensures.steps in
    let same = ap chain_blocks count in
    omega (arith, search_steps, chain_steps, same)

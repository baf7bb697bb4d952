use Rattle.std.proofs.Common.{◌≡◌, ℕ, List, [], ◌∷◌, ◌++◌, map, take, true, rules, subst, sym}
use Rattle.vos_scan.specs.Chains.{AreChained, version_place}
use Rattle.vos_scan.proofs.Chained.{chained-taken}
use Rattle.vos_scan.proofs.Known.{index-next}
use Rattle.vos_scan.proofs.index.ReadIndex.take_up.Goals as goal

pub returns-clause-index : goal.returns-clause-index
returns-clause-index c =
    let done : c.index-rows-at.result.done ≡ true = search rules in
    let places : List ℕ = map version_place (take c.args.self.now.covered c.args.rows.now) in
    let before : AreChained places c.reserve.new.self.lasts.items c.reserve.new.self.links.items =
    subst (λ xs. AreChained places xs c.reserve.new.self.links.items) (sym c.reserve.ensures.lasts)
    (subst (λ xs. AreChained places c.args.self.now.chains.lasts.items xs) (sym c.reserve.ensures.links) c.requires.index.chained) in
    let after : AreChained (places ++ version_place c.index-rows-at.result ∷ []) c.add.new.self.lasts.items c.add.new.self.links.items =
    subst (λ p. AreChained (places ++ p ∷ []) c.add.new.self.lasts.items c.add.new.self.links.items) c.place_of.ensures.is (c.add.ensures places before) in
    record {
      rows =
          index-next c.args.self.now.covered c.args.self.now.firsts.items c.args.rows.now c.index-rows-at.result c.requires.index.rows c.requires.more c.index-rows-at.is done
          c.is_known-known.result c.add_first.new.firsts.items c.is_known-known.ensures.known c.is_known-known.ensures.update (search rules);
      chained =
          chained-taken c.args.self.now.covered c.args.rows.now c.index-rows-at.result c.add.new.self.lasts.items c.add.new.self.links.items c.requires.more
          c.index-rows-at.is after;
    }

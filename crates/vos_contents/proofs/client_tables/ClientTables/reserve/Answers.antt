use Rattle.std.proofs.Common.{◌≡◌, ◌∙◌, ◌<◌, List, ap, arith, get_or, length, rules}
use Rattle.dtx_entries.specs.Tables as table
use Rattle.vos_contents.proofs.Clients.{by_client-same, entries-same, room-told}
use Rattle.vos_contents.proofs.client_tables.ClientTables.reserve.Goals as goal

pub invariant_of-self-2 : goal.invariant_of-self-2
invariant_of-self-2 c =
    let ts : List table.Kept = c.add_tables.new.tables.items in
    let within : c.from-at.result < length ts = omega (arith, c.in_ok-add_tables.ensures.many) in
    let is : c.index_mut.result.now ≡ get_or ts c.from-at.result c.index_mut.result.now = search rules in
    by_client-same c.from-at.result ts c.index_mut.result.now c.reserve.new.self c.add_tables.ensures.clients within is c.reserve.ensures.items

pub returns-clause-items : goal.returns-clause-items
returns-clause-items c =
    let ts : List table.Kept = c.add_tables.new.tables.items in
    let within : c.from-at.result < length ts = omega (arith, c.in_ok-add_tables.ensures.many) in
    let is : c.index_mut.result.now ≡ get_or ts c.from-at.result c.index_mut.result.now = search rules in
    entries-same c.from-at.result ts c.index_mut.result.now c.reserve.new.self within is c.reserve.ensures.items
    ∙ c.add_tables.ensures.items
    ∙ ap (λ k. k.items) c.self.view_is

pub returns-clause-room : goal.returns-clause-room
returns-clause-room c =
    let ts : List table.Kept = c.add_tables.new.tables.items in
    let within : c.from-at.result < length ts = omega (arith, c.in_ok-add_tables.ensures.many) in
    let client : c.args.client ≡ c.from-at.result = search rules in
    room-told c.reserve.result c.args.client c.from-at.result ts c.reserve.new.self client within c.reserve.ensures.room

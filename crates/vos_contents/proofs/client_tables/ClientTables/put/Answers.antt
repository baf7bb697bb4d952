use Rattle.std.proofs.Common.{◌≡◌, ◌∙◌, ◌+◌, ◌<◌, List, ap, arith, sym, get_or, length, map, true, false, rules}
use Rattle.daos_model.specs.Durables.{entry_key}
use Rattle.daos_model.specs.Ordered.{put}
use Rattle.dtx_entries.specs.Tables as table
use Rattle.vos_contents.specs.Clients.{has_room, has_room_for}
use Rattle.vos_contents.proofs.Clients.{by_client-put, put-table, room-within}
use Rattle.vos_contents.proofs.client_tables.ClientTables.put.Goals as goal

pub invariant_of-self : goal.invariant_of-self
invariant_of-self c =
    let ts : List table.Kept = c.self.inside.tables.items in
    let client : c.args.entry.attempt.client ≡ c.from.result = search rules in
    let room : get_or (map has_room ts) c.from.result false ≡ true = ap (λ n. get_or (map has_room ts) n false) (sym client) ∙ ap (has_room_for c.args.entry.attempt.client) c.self.view_is ∙ c.requires in
    let within : c.from.result < length ts = room-within c.from.result ts room in
    let is : c.index_mut.result.now ≡ get_or ts c.from.result c.index_mut.result.now = search rules in
    by_client-put c.args.entry c.from.result ts c.index_mut.result.now c.put.new.self c.self.invariant within is client c.put.ensures

pub returns : goal.returns
returns c =
    let ts : List table.Kept = c.self.inside.tables.items in
    let client : c.args.entry.attempt.client ≡ c.from.result = search rules in
    let room : get_or (map has_room ts) c.from.result false ≡ true = ap (λ n. get_or (map has_room ts) n false) (sym client) ∙ ap (has_room_for c.args.entry.attempt.client) c.self.view_is ∙ c.requires in
    let within : c.from.result < length ts = room-within c.from.result ts room in
    let is : c.index_mut.result.now ≡ get_or ts c.from.result c.index_mut.result.now = search rules in
    let sum : c.args.entry.attempt.client ≡ 0 + c.from.result = omega (arith, client) in
    put-table c.args.entry 0 c.from.result ts c.index_mut.result.now c.put.new.self c.self.invariant within is sum c.put.ensures
    ∙ ap (λ k. put entry_key c.args.entry k.items) c.self.view_is

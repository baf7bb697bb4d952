use Rattle.std.proofs.Common.{◌≡◌, ◌∙◌, ◌+◌, ◌<◌, ◌≤◌, List, ap, arith, sym, get_or, length, rules}
use Rattle.dtx_entries.specs.Settling.{entries_settled}
use Rattle.dtx_entries.specs.Tables as table
use Rattle.vos_contents.proofs.Clients.{by_client-settled, settled-absent, settled-table}
use Rattle.vos_contents.proofs.client_tables.ClientTables.settle.Goals as goal

pub invariant_of-self : goal.invariant_of-self
invariant_of-self c =
    let ts : List table.Kept = c.self.inside.tables.items in
    let within : c.from-at.result < length ts = search rules in
    let is : c.index_mut.result.now ≡ get_or ts c.from-at.result c.index_mut.result.now = search rules in
    by_client-settled c.args.attempt c.args.step c.from-at.result ts c.index_mut.result.now c.settle.new.self c.self.invariant within is c.settle.ensures

pub returns-then-at-len : goal.returns-then-at-len
returns-then-at-len c =
    let ts : List table.Kept = c.self.inside.tables.items in
    let client : c.args.attempt.client ≡ c.from-at.result = search rules in
    let within : c.from-at.result < length ts = search rules in
    let is : c.index_mut.result.now ≡ get_or ts c.from-at.result c.index_mut.result.now = search rules in
    let sum : c.args.attempt.client ≡ 0 + c.from-at.result = omega (arith, client) in
    settled-table c.args.attempt c.args.step 0 c.from-at.result ts c.index_mut.result.now c.settle.new.self c.self.invariant within is sum c.settle.ensures
    ∙ ap (λ k. entries_settled c.args.attempt c.args.step k.items) c.self.view_is

pub returns-else-at-len : goal.returns-else-at-len
returns-else-at-len c =
    let ts : List table.Kept = c.self.inside.tables.items in
    let client : c.args.attempt.client ≡ c.from-at.result = search rules in
    let beyond : length ts ≤ c.args.attempt.client = omega (arith, client, c.if-at-len.false, c.len.ensures) in
    sym (ap (λ k. k.items) c.self.view_is)
    ∙ settled-absent c.args.attempt c.args.step ts c.self.invariant beyond
    ∙ ap (λ k. entries_settled c.args.attempt c.args.step k.items) c.self.view_is

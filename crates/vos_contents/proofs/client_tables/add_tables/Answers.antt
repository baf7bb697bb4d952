use Rattle.std.proofs.Common.{◌≡◌, ◌∙◌, ◌++◌, ◌∷◌, [], ap, rules}
use Rattle.vos_contents.specs.Clients.{are_by_client, entries_in}
use Rattle.vos_contents.proofs.Clients.{by_client-more, entries-more}
use Rattle.vos_contents.proofs.client_tables.add_tables.Goals as goal

pub loop-alloc-preserved : goal.loop-alloc-preserved
loop-alloc-preserved c =
    let pushed : c.push.new.self.items ≡ c.loop-alloc.tables.items ++ c.new.result ∷ [] = search rules in
    record {
      items = ap entries_in pushed ∙ entries-more c.loop-alloc.tables.items c.new.result c.new.ensures ∙ c.loop-alloc.invariant.items;
      clients = ap (are_by_client 0) pushed ∙ by_client-more c.loop-alloc.tables.items c.new.result c.new.ensures c.loop-alloc.invariant.clients;
    }

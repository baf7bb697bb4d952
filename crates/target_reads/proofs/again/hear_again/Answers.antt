use Rattle.std.proofs.Common.{◌∷◌, [], ap, refl, subst, sym}
use Rattle.world_base.specs.Reads.{Asked}
use Rattle.target_parts.specs.Knowing.{IsAskHere, memory_of}
use Rattle.target_reads.specs.Fetches.{FetchTurn}
use Rattle.target_reads.proofs.Carrying.{reads-on}
use Rattle.world_base.specs.Requests.{fetch_message}
use Rattle.target_reads.proofs.again.hear_again.Goals as goal

pub hear_known-requires-clause-enlisted : goal.hear_known-requires-clause-enlisted
hear_known-requires-clause-enlisted g c x at = subst (λ m. IsAskHere m x) (sym c.fetch_of-request.ensures.asks) (c.requires.here x at)

pub returns-clause-turn : goal.returns-clause-turn
returns-clause-turn g c d at reading = record {
  q = c.fetch_of-request.result;
  asks = c.fetch_of-request.ensures.asks;
  known = c.fetch_of-request.ensures.known;
  turn = subst (λ from. FetchTurn c.args.plan (memory_of c.args.knows.now) reading c.fetch_of-request.result from Asked d (g.S.Store.state c.args.store.now) (g.S.Store.durable c.hear_known.new.store) (g.S.Store.state c.hear_known.new.store) (g.S.Store.may c.hear_known.new.store) (memory_of c.hear_known.new.knows) c.hear_known.result)
      c.fetcher-from.ensures (c.hear_known.ensures.turn d at reading);
}

pub returns-clause-reads : goal.returns-clause-reads
returns-clause-reads g c =
    reads-on (fetch_message c.fetch_of-request.result ∷ []) (c.args.ask ∷ []) c.args.knows.now.member.memory c.args.knows.now.member.memory c.hear_known.new.knows.member.memory c.hear_known.result refl (ap (λ m. m ∷ []) c.fetch_of-request.ensures.asks) c.hear_known.ensures.reads

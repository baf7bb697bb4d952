use Rattle.target_dtx.specs.world_ended.TurnLaws.{says-posts}
use Rattle.std.proofs.Common.{◌≡◌, ◌∙◌, List, None, ap, refl}
use Rattle.base_types.specs.declared.entry.Entry.{Entry}
use Rattle.base_types.specs.declared.entry.EntryState.{EntryState}
use Rattle.base_messages.specs.declared.message.Message.TheVariants.{StatusIs}
use Rattle.daos_model.specs.Durables.{entry_of}
use Rattle.dtx_resync.specs.dtx_table.Tables.{entry_in}
use Rattle.world_base.specs.declared.did.Did.{Did}
use Rattle.world_base.specs.declared.target.TargetMemory.{TargetMemory}
use Rattle.world_base.specs.Requests.{says}
use Rattle.world_base.specs.Statuses.{state_of, status_left}
use Rattle.target_parts.specs.Knowing.{memory_of}
use Rattle.target_resync.proofs.Silent.{silent-said}
use Rattle.target_dtx.specs.world_letters.kinds.TurnLaws.{says-none}
use Rattle.target_resync.proofs.statuses.hear_status.Goals as goal

pub returns-clause-turn : goal.returns-clause-turn
unfolding entry_of
returns-clause-turn g c d at =
    let entries = (c.requires.target.leads c.requires.running d at).entries in
    let state : c.state_of.result ≡ state_of (entry_of d c.args.attempt) = c.state_of.ensures ∙ ap state_of c.find.ensures ∙ ap {A = List Entry} {B = EntryState} (λ es. state_of (entry_in es c.args.attempt)) entries in
    silent-said (status_left (memory_of c.args.knows.now) c.args.from c.args.attempt c.args.inc) d (g.S.Store.state c.args.store.now) (g.S.Store.durable c.args.store.now) (g.S.Store.may c.args.store.now) (memory_of c.args.knows.now) at
    (says c.args.from (StatusIs c.args.attempt c.args.inc c.state_of.result) None) c.says.result c.says.ensures.did c.says.ensures.wanting
    (ap {A = EntryState} {B = TargetMemory × Did} (λ s. (memory_of c.args.knows.now, says c.args.from (StatusIs c.args.attempt c.args.inc s) None)) state)

pub returns-clause-reads : goal.returns-clause-reads
returns-clause-reads g c = says-none c.says.result c.args.from (StatusIs c.args.attempt c.args.inc c.state_of.result) None refl c.says.ensures.did

pub returns-clause-ends : goal.returns-clause-ends
returns-clause-ends g c asked = says-posts asked c.args.from (StatusIs c.args.attempt c.args.inc c.state_of.result) None c.says.result tt c.says.ensures.did

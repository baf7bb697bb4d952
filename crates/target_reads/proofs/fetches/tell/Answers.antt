use Rattle.std.proofs.Common.{◌∙◌, ap, refl}
use Rattle.dtx_base.specs.Joining.{parking}
use Rattle.world_base.specs.Reads.{fetch_at}
use Rattle.target_parts.specs.Knowing.{memory_of}
use Rattle.target_reads.proofs.Parking.{here-at, leads-parks, own-as_before, own-parks, parkable-at}
use Rattle.target_reads.proofs.fetches.tell.Goals.{in-Refused, in-Unresolved, in-Answer+in_ok-raise-in-Answer}
use Rattle.target_reads.proofs.fetches.tell.Goals as goal

pub returns-in_err-posts-in-Waits-clause-own : goal.returns-in_err-posts-in-Waits-clause-own
returns-in_err-posts-in-Waits-clause-own c = own-as_before c.args.plan c.args.knows.now _ refl c.in_err-posts-in-Waits.ensures.err c.requires.own

pub returns-in-Waits-clause-leads : goal.returns-in-Waits-clause-leads
returns-in-Waits-clause-leads c d here leads =
    leads-parks c.args.plan (memory_of c.args.knows.now) c.args.knows.now.entries.items (fetch_at c.args.request.now c.args.epoch) c.in-Waits.on c.in-Waits.leader c.args.knows.now.member c.park.new.self d refl
    (c.in_ok-posts-in-Waits.ensures.ok ∙ ap (λ ask. parking ask c.in-Waits.on c.in-Waits.leader c.args.knows.now.member) c.in_ok-ask-in-Waits.ensures) (here-at c.args.request.now c.args.epoch d here) leads

pub returns-in-Waits-clause-own : goal.returns-in-Waits-clause-own
returns-in-Waits-clause-own c =
    own-parks c.args.plan c.args.knows.now _ (fetch_at c.args.request.now c.args.epoch) c.in-Waits.on c.in-Waits.leader refl
    (c.in_ok-posts-in-Waits.ensures.ok ∙ ap (λ ask. parking ask c.in-Waits.on c.in-Waits.leader c.args.knows.now.member) c.in_ok-ask-in-Waits.ensures) (parkable-at c.args.request.now c.args.epoch c.requires.form) c.requires.own

pub returns-clause-own : goal.returns-clause-own
returns-clause-own c = elim c.match-served.branch [
  | in-Refused w ↦ own-as_before c.args.plan c.args.knows.now c.match-served.knows (ap (λ k. k.hlc) w.knows-is) (ap (λ k. k.member) w.knows-is) c.requires.own
  | in-Unresolved w ↦ own-as_before c.args.plan c.args.knows.now c.match-served.knows (ap (λ k. k.hlc) w.knows-is) (ap (λ k. k.member) w.knows-is) c.requires.own
  | in-Answer+in_ok-raise-in-Answer w ↦ own-as_before c.args.plan c.args.knows.now c.match-served.knows (ap (λ k. k.hlc) w.knows-is) (ap (λ k. k.member) w.knows-is) c.requires.own
]

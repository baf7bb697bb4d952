use Rattle.target_dtx.proofs.Posting.{inquired-end}
use Rattle.target_dtx.proofs.Posting.{inquired-posts}
use Rattle.target_dtx.proofs.idle.inquiries.Goals as goal

pub returns-clause-posts : goal.returns-clause-posts
returns-clause-posts c targets = inquired-posts targets c.args.entries.now c.args.member.now c.inquire.new.self c.in_ok-inquire.field-0 c.in_ok-inquire.ensures.ok

pub returns-clause-ends : goal.returns-clause-ends
returns-clause-ends c asked = inquired-end asked c.args.entries.now c.args.member.now c.inquire.new.self c.in_ok-inquire.field-0 c.in_ok-inquire.ensures.ok

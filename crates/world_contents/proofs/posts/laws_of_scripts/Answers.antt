use Rattle.world_contents.specs.posts.KnownSnapshots.{clients-keep-reads_known, hearers-keep-reads_known, reads-known-begin}
use Rattle.world_contents.specs.posts.ClientPosts.{clients-post-in-form, hearers-post-in-form}
use Rattle.world_contents.specs.posts.ScriptForm.{read-in-form, writes-are-in-form}
use Rattle.world_contents.proofs.posts.laws_of_scripts.Goals as goal

pub returns : goal.returns
returns c = record { reads = read-in-form; writes = writes-are-in-form; posts = clients-post-in-form; answers = hearers-post-in-form; going = clients-keep-reads_known; hearing = hearers-keep-reads_known; first = reads-known-begin }

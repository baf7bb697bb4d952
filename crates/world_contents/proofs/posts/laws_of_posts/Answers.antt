use Rattle.world_contents.specs.posts.Posting.{acks-post-in-form, batches-post-in-form, beginnings-post-in-form, inquiries-are-in-form, queries-are-in-form, verdicts-post-in-form}
use Rattle.world_contents.proofs.posts.laws_of_posts.Goals as goal

pub returns : goal.returns
returns c = record {
  begins = beginnings-post-in-form;
  acks = acks-post-in-form;
  batches = batches-post-in-form;
  verdicts = verdicts-post-in-form;
  queries = queries-are-in-form;
  inquiries = inquiries-are-in-form;
}

use Rattle.dtx_base.specs.CountLaws.{counts-only_oks}
use Rattle.dtx_base.specs.LeaderLaws.{batches-are_due, batches-name_once, decided-only_by_last_ok}
use Rattle.dtx_base.proofs.laws.laws_of_leaders.Goals as goal

pub returns : goal.returns
returns c = record { last = decided-only_by_last_ok; counted = counts-only_oks; once = batches-name_once; due = batches-are_due }

use Rattle.report_round_trip.proofs.Reports.{for-script}
use Rattle.report_round_trip.proofs.Spelled.{is-spelled}
use Rattle.report_round_trip.proofs.laws_of_reading_back.Goals as goal

pub returns : goal.returns
returns c = record {
  spelled = is-spelled;
  for_script = λ g o resolved q some form legal told. for-script g o resolved q some form legal told;
  back = λ g o resolved q some form legal told. c.reads_texts.ensures.back g.script q (for-script g o resolved q some form legal told);
}

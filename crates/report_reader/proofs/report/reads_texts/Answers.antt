use Rattle.report_reader.proofs.Back.{is_read_back}
use Rattle.report_reader.proofs.Bad.{is_first_bad}
use Rattle.report_reader.proofs.Kept.{is_for_script}
use Rattle.report_reader.proofs.Sound.{read_is_spelled}
use Rattle.report_reader.proofs.report.reads_texts.Goals as goal

pub returns : goal.returns
returns c = record { spelled = read_is_spelled; back = is_read_back; for_script = λ s bytes q named are e. is_for_script s named bytes q are e; first_bad = λ s bytes at named are e. is_first_bad s named bytes are at e }

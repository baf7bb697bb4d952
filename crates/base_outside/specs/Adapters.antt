-- What adapters over readers and writers of std show.
use Rattle.std.specs.Prelude.{ℕ}
use Rattle.base_outside.specs.declared.adapters.Reading.{Reading}
use Rattle.base_outside.specs.declared.adapters.Writing.{Writing}

-- the reader below a source
abbrev pub reader_of : {R : Type 0} → Reading R → R
reader_of source = source.inner

-- how often the reader answered an error
abbrev pub reading_faults : {R : Type 0} → Reading R → ℕ
reading_faults source = source.faults

-- the writer below a sink
abbrev pub writer_of : {W : Type 0} → Writing W → W
writer_of sink = sink.inner

-- how often the writer answered an error
abbrev pub writing_faults : {W : Type 0} → Writing W → ℕ
writing_faults sink = sink.faults

-- how often the writer took nothing of bytes that were there
abbrev pub writing_stalls : {W : Type 0} → Writing W → ℕ
writing_stalls sink = sink.stalls

-- What is told of a status.
use Rattle.std.specs.Prelude.{ℕ, ◌++◌, List, [], codes}
use Rattle.std.specs.Fmt.{decimal}
use Rattle.base_types.specs.declared.fault.ScriptFault.{ScriptFault}
use Rattle.base_types.specs.declared.fault.WordFault.{WordFault}
use Rattle.base_types.specs.declared.fault.Why.{Why}
use Rattle.base_types.specs.declared.fault.Why.TheVariants as why
use Rattle.base_types.specs.declared.fault.WordKind.{WordKind}
use Rattle.base_types.specs.declared.fault.WordKind.TheVariants as kind
use Rattle.daos_status.specs.declared.part.Part.{Part}
use Rattle.daos_status.specs.declared.part.Part.TheVariants as part
use Rattle.daos_status.specs.declared.status.Status.{Status}
use Rattle.daos_status.specs.declared.status.Status.TheVariants as status

-- the name of what is wrong with a line of a script, and its limit where there is one
abbrev pub why_text : Why → List ℕ
why_text why.NotAscii = codes "NotAscii"
why_text why.UnknownWord = codes "UnknownWord"
why_text why.MissingWord = codes "MissingWord"
why_text why.ExtraWord = codes "ExtraWord"
why_text why.BadNumber = codes "BadNumber"
why_text why.BadKey = codes "BadKey"
why_text why.BadHex = codes "BadHex"
why_text why.BadUuid = codes "BadUuid"
why_text why.BadName = codes "BadName"
why_text why.BadClass = codes "BadClass"
why_text why.BadRecord = codes "BadRecord"
why_text why.BadBlock = codes "BadBlock"
why_text (why.TooMany limit) = codes "TooMany " ++ decimal limit
why_text (why.TooLong limit) = codes "TooLong " ++ decimal limit

-- the name of what is wrong with a word
abbrev pub kind_text : WordKind → List ℕ
kind_text kind.BadJob = codes "BadJob"
kind_text kind.BadCount = codes "BadCount"
kind_text kind.ExtraWord = codes "ExtraWord"
kind_text kind.UnknownOption = codes "UnknownOption"
kind_text kind.Twice = codes "Twice"
kind_text kind.Clash = codes "Clash"
kind_text kind.NoValue = codes "NoValue"
kind_text kind.BadValue = codes "BadValue"
kind_text kind.NoJob = codes "NoJob"
kind_text kind.NoCount = codes "NoCount"
kind_text kind.BadTarget = codes "BadTarget"
kind_text kind.NoTarget = codes "NoTarget"
kind_text kind.NotYet = codes "NotYet"

-- what a region was made for
abbrev pub part_text : Part → List ℕ
part_text part.Bytes = codes "bytes"
part_text part.Targets = codes "targets"
part_text part.Containers = codes "containers"

-- what is told of each status with parts
abbrev pub words_text : WordFault → List ℕ
words_text fault = codes "daos: word " ++ decimal fault.place ++ codes ": " ++ kind_text fault.kind

abbrev pub script_text : ScriptFault → List ℕ
script_text fault = codes "daos: script line " ++ decimal fault.line ++ codes ": " ++ why_text fault.why

abbrev pub rack_text : ℕ → List ℕ
rack_text target = codes "daos: target " ++ decimal target ++ codes ": rack fault"

abbrev pub foreign_text : ℕ → ℕ → ℕ → List ℕ
foreign_text target at byte = codes "daos: target " ++ decimal target ++ codes ": byte " ++ decimal byte ++ codes " at " ++ decimal at ++ codes " is foreign"

abbrev pub down_text : ℕ → List ℕ
down_text target = codes "daos: target " ++ decimal target ++ codes " is down"

abbrev pub shape_text : ℕ → Part → ℕ → ℕ → List ℕ
shape_text target what found asked =
    codes "daos: target " ++ decimal target ++ codes ": made for " ++ decimal found ++ codes " " ++ part_text what ++ codes ", asked for " ++ decimal asked

abbrev pub not_empty_text : ℕ → ℕ → ℕ → List ℕ
not_empty_text target at byte = codes "daos: target " ++ decimal target ++ codes ": byte " ++ decimal byte ++ codes " at " ++ decimal at ++ codes " is not empty"

abbrev pub room_text : ℕ → ℕ → ℕ → List ℕ
room_text target need free = codes "daos: target " ++ decimal target ++ codes ": needs " ++ decimal need ++ codes " blocks, has " ++ decimal free

abbrev pub report_text : ℕ → List ℕ
report_text line = codes "daos: report line " ++ decimal line ++ codes ": BadLine"

-- the text of a status, without a line end; none where all went well
abbrev pub status_text : Status → List ℕ
status_text status.Done = []
status_text (status.Words fault) = words_text fault
status_text (status.Script fault) = script_text fault
status_text status.ReadFault = codes "daos: read fault"
status_text status.WriteFault = codes "daos: write fault"
status_text (status.RackFault target) = rack_text target
status_text (status.Foreign target at byte) = foreign_text target at byte
status_text status.Memory = codes "daos: out of memory"
status_text (status.Down target) = down_text target
status_text (status.Shape target what found asked) = shape_text target what found asked
status_text (status.NotEmpty target at byte) = not_empty_text target at byte
status_text (status.Room target need free) = room_text target need free
status_text (status.BadReport line) = report_text line

-- the number with which the program ends
abbrev pub status_number : Status → ℕ
status_number status.Done = 0
status_number (status.Words fault) = 1
status_number (status.Script fault) = 2
status_number status.ReadFault = 3
status_number status.WriteFault = 4
status_number (status.RackFault target) = 5
status_number (status.Foreign target at byte) = 6
status_number status.Memory = 7
status_number (status.Down target) = 8
status_number (status.Shape target what found asked) = 9
status_number (status.NotEmpty target at byte) = 10
status_number (status.Room target need free) = 11
status_number (status.BadReport line) = 12

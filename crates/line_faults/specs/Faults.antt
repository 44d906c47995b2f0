-- What is wrong with a line of a script or a log.
use Rattle.std.specs.Prelude.{ℕ, List, codes}
use Rattle.line_faults.specs.declared.fault.Fault.{Fault}
use Rattle.line_faults.specs.declared.fault.Fault.TheVariants.{TooManyLines, LineTooLong, NotLogLine, NotAscii, UnknownCommand, WrongNumberOfWords, BadWord, NoStations, StationsTwice}

abbrev pub fault_text : Fault → List ℕ
fault_text TooManyLines = codes "too many lines"
fault_text LineTooLong = codes "line too long"
fault_text NotLogLine = codes "not a log line"
fault_text NotAscii = codes "not ASCII"
fault_text UnknownCommand = codes "unknown command"
fault_text WrongNumberOfWords = codes "wrong number of words"
fault_text BadWord = codes "bad word"
fault_text NoStations = codes "no stations"
fault_text StationsTwice = codes "stations twice"

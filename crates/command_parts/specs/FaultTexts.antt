-- What is told of a fault: one line on the output for errors. The texts are this project's own.
use Rattle.std.specs.Prelude.{ℕ, List, [], ◌∷◌, ◌++◌, Option, Some, None, codes, decimal}
use Rattle.flow_defs.specs.declared.cause.PeerFault.{PeerFault}
use Rattle.flow_defs.specs.declared.cause.PeerFault.TheVariants as peers
use Rattle.job_text.specs.declared.words.UsageKind.{UsageKind}
use Rattle.job_text.specs.declared.words.UsageKind.TheVariants.{NoCommand, UnknownCommand, MissingOperand, UnknownOption, ExtraWord, BadValue, OptionTwice, MissingValue}
use Rattle.job_text.specs.declared.fault.JobFault.{JobFault}
use Rattle.job_text.specs.declared.fault.JobFault.TheVariants.{Missing, Extra, BadLine, TooMany, UnknownKind, NoFunction, BadNumber, BadExchange, BadWidth}
use Rattle.command_parts.specs.declared.fault.Fault.{Fault}
use Rattle.command_parts.specs.declared.fault.Fault.TheVariants.{Usage, JobLine, ScriptLine, JobInput, ScriptInput, SourceInput, Keeper, Output, HoldsImage, HoldsNoImage, NotImage, LongJob, LongScript, LongLine, BigSource, BigImage, TooFewSegments, Link, OverCredit, Peer, Memory}
use Rattle.command_parts.specs.declared.fault.Part.{Part}

-- What is wrong with the words.
abbrev pub usage_text : UsageKind → List ℕ
usage_text NoCommand = codes "no command"
usage_text UnknownCommand = codes "unknown command"
usage_text MissingOperand = codes "missing operand"
usage_text UnknownOption = codes "unknown option"
usage_text ExtraWord = codes "extra word"
usage_text BadValue = codes "bad value"
usage_text OptionTwice = codes "option twice"
usage_text MissingValue = codes "missing value"

-- What is wrong with a line of the job's text.
abbrev pub job_fault_text : JobFault → List ℕ
job_fault_text Missing = codes ": missing"
job_fault_text Extra = codes ": extra"
job_fault_text BadLine = codes ": bad line"
job_fault_text TooMany = codes ": too many"
job_fault_text UnknownKind = codes ": unknown kind"
job_fault_text NoFunction = codes ": no function"
job_fault_text BadNumber = codes ": bad number"
job_fault_text BadExchange = codes ": bad exchange"
job_fault_text BadWidth = codes ": bad width"

-- What a sound other end of a connection doesn't do.
abbrev pub peer_text : PeerFault → List ℕ
peer_text peers.BadFrame = codes "bad frame"
peer_text peers.Sequence = codes "wrong sequence"
peer_text peers.Barrier = codes "wrong barrier"
peer_text peers.Size = codes "wrong size"
peer_text peers.AfterEnd = codes "after end"
peer_text peers.Channel = codes "wrong channel"
peer_text peers.Credit = codes "credit over"
peer_text peers.Resume = codes "not blocked"
peer_text peers.Left = codes "record cut"
peer_text peers.Cut = codes "link cut"
peer_text peers.Refused = codes "refused"

-- The text of a fault. Sources are counted from 0, lines from 1.
abbrev pub fault_text : Fault → List ℕ
fault_text (Usage kind) = codes "usage: " ++ usage_text kind
fault_text (JobLine line kind) = codes "job line " ++ decimal line ++ job_fault_text kind
fault_text (ScriptLine line) = codes "script line " ++ decimal line ++ codes ": bad line"
fault_text JobInput = codes "input fault: job"
fault_text ScriptInput = codes "input fault: script"
fault_text (SourceInput source) = codes "input fault: source " ++ decimal source
fault_text Keeper = codes "keeper fault"
fault_text Output = codes "output fault"
fault_text (HoldsImage number) = codes "keeper holds image " ++ decimal number
fault_text HoldsNoImage = codes "keeper holds no image"
fault_text (NotImage number place) = codes "image " ++ decimal number ++ codes ": not an image at " ++ decimal place
fault_text LongJob = codes "job over 65536"
fault_text LongScript = codes "script over 16777216"
fault_text (LongLine source) = codes "source " ++ decimal source ++ codes ": line over 1048576"
fault_text (BigSource source) = codes "source " ++ decimal source ++ codes ": over 1099511627776"
fault_text BigImage = codes "image over 4294967295"
fault_text (TooFewSegments have need) = codes "pool has " ++ decimal have ++ codes ", needs " ++ decimal need
fault_text Link = codes "link fault"
fault_text (OverCredit channel received announced) =
    codes "over credit on " ++ decimal channel.edge ++ codes " " ++ decimal channel.from ++ codes " " ++ decimal channel.to
    ++ codes ": received " ++ decimal received ++ codes ", announced " ++ decimal announced
fault_text (Peer fault) = codes "peer: " ++ peer_text fault
fault_text Memory = codes "out of memory"

-- The line that tells of it.
abbrev pub fault_line : Fault → List ℕ
fault_line fault = fault_text fault ++ 10 ∷ []

-- A number in decimal, where there is one.
abbrev pub number_text : Option ℕ → List ℕ
number_text None = []
number_text (Some n) = decimal n

-- A part of a text: its text, and its number behind it.
abbrev pub part_text : Part → List ℕ
part_text part = part.text.now ++ number_text part.number

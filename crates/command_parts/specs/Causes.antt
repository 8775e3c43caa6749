-- Which fault and which status a cause gives.
use Rattle.std.specs.Prelude.{ℕ}
use Rattle.flow_defs.specs.declared.cause.Cause.{Cause}
use Rattle.flow_defs.specs.declared.cause.Cause.TheVariants as causes
use Rattle.command_parts.specs.declared.input.InputFault.{InputFault}
use Rattle.command_parts.specs.declared.input.InputFault.TheVariants.{Failed as InputFailed, TooBig as InputTooBig, LongLine as InputLongLine, Memory as InputMemory}
use Rattle.command_parts.specs.declared.fault.Fault.{Fault}
use Rattle.command_parts.specs.declared.fault.Fault.TheVariants.{Usage, JobLine, ScriptLine, JobInput, ScriptInput, SourceInput, Keeper, Output, HoldsImage, HoldsNoImage, NotImage, LongJob, LongScript, LongLine, BigSource, BigImage, TooFewSegments, Link, OverCredit, Peer, Memory}

-- A fault of the file with the job's text, of the file with the script's, and of the source with this index.
abbrev pub of_job_file : InputFault → Fault
of_job_file InputFailed = JobInput
of_job_file InputTooBig = LongJob
of_job_file InputLongLine = LongJob
of_job_file InputMemory = Memory

abbrev pub of_script_file : InputFault → Fault
of_script_file InputFailed = ScriptInput
of_script_file InputTooBig = LongScript
of_script_file InputLongLine = LongScript
of_script_file InputMemory = Memory

abbrev pub of_source : ℕ → InputFault → Fault
of_source source InputFailed = SourceInput source
of_source source InputTooBig = BigSource source
of_source source InputLongLine = LongLine source
of_source source InputMemory = Memory

-- The fault of a run whose workers ended so. A run that has no table is neither done nor stopped.
abbrev pub of_cause : Cause → Fault
of_cause causes.Done = Memory
of_cause causes.Stopped = Memory
of_cause (causes.Input a) = SourceInput a
of_cause causes.Keeper = Keeper
of_cause causes.Link = Link
of_cause (causes.LongLine a) = LongLine a
of_cause (causes.BigSource a) = BigSource a
of_cause causes.BigImage = BigImage
of_cause (causes.OverCredit channel received announced) = OverCredit channel received announced
of_cause (causes.Peer fault) = Peer fault
of_cause causes.Memory = Memory

-- The status with which the program then ends.
abbrev pub status_of : Fault → ℕ
status_of (Usage kind) = 2
status_of (JobLine line kind) = 3
status_of (ScriptLine line) = 3
status_of JobInput = 4
status_of ScriptInput = 4
status_of (SourceInput source) = 4
status_of Keeper = 5
status_of Link = 6
status_of Output = 7
status_of (HoldsImage number) = 8
status_of HoldsNoImage = 8
status_of (NotImage number place) = 8
status_of LongJob = 10
status_of LongScript = 10
status_of (LongLine source) = 10
status_of (BigSource source) = 10
status_of BigImage = 10
status_of (TooFewSegments have need) = 10
status_of (OverCredit channel received announced) = 11
status_of (Peer fault) = 12
status_of Memory = 70

-- What the calls answer. The refusals are this project's own.
-- One equation says what a call answers, with its refusals.
use Rattle.std.specs.Prelude.{ℕ, ◌+◌, nat_lt, if◌then◌else◌, Option, None, Some, Result, Ok, Err, find}
use Rattle.std.specs.Option.{option_map_or}
use Rattle.credit_reader.specs.declared.reader.Reader.{Reader}
use Rattle.flow_defs.specs.Limits.{credit_max}
use Rattle.credit_reader.specs.declared.reader.Told.{Told}
use Rattle.credit_reader.specs.declared.fault.RequestFault.{RequestFault}
use Rattle.credit_reader.specs.declared.fault.RequestFault.TheVariants as request
use Rattle.credit_reader.specs.declared.fault.CreditFault.{CreditFault}
use Rattle.credit_reader.specs.declared.fault.CreditFault.TheVariants as credit
use Rattle.credit_reader.specs.declared.fault.ResumeFault.{ResumeFault}
use Rattle.credit_reader.specs.declared.fault.ResumeFault.TheVariants as resume
use Rattle.credit_reader.specs.Readers.{is_due, Announced}
use Rattle.credit_reader.specs.Senders.{Sender, happened}

-- A request is refused where there is no such channel, and where it was requested before.
abbrev pub request_answer : Option Reader → Result (Unit {0}) RequestFault
request_answer None = Err request.UnknownChannel
request_answer (Some r) = if r.requested then Err request.Twice else Ok tt

-- More credit is refused where the channel was not requested, and where the sum would be too high for a
-- frame.
abbrev pub credit_answer : ℕ → Option Reader → Result (Unit {0}) CreditFault
credit_answer n None = Err credit.UnknownChannel
credit_answer n (Some r) =
    if r.requested then (if nat_lt credit_max (r.credit + n) then Err (credit.CreditOver (r.credit + n)) else Ok tt)
    else Err credit.UnknownChannel

-- Resuming is refused where the channel was not requested, and where it is not blocked.
abbrev pub resume_answer : Option Reader → Result (Unit {0}) ResumeFault
resume_answer None = Err resume.UnknownChannel
resume_answer (Some r) = if r.requested then (if r.blocked then Ok tt else Err resume.NotBlocked) else Err resume.UnknownChannel

-- The first reader, in the order of the channels, for which an announcement is due.
abbrev pub due_first : Sender → Option Reader
due_first s = find is_due s.readers

-- The announcement of a reader's backlog.
abbrev pub told_of : Reader → Told
told_of r = record { channel = r.channel; backlog = r.backlog }

-- The sender after the announcement that is due first, if one is due.
abbrev pub announced : Sender → Sender
announced s = option_map_or (λ r. happened r.channel Announced s) (due_first s) s

-- The laws of messages. Each is proved as a clause of a function of `laws`. They are this project's own.
use Rattle.std.specs.Prelude.{◌≡◌, ℕ, ◌+◌, ◌≤◌, Bool, false, List, ◌++◌, take}
use Rattle.turn_cell.specs.History.{StartsWith}
use Rattle.flow_defs.specs.declared.task.ChannelId.{ChannelId}
use Rattle.net_frames.specs.declared.frame.Frame.{Frame}
use Rattle.net_frames.specs.declared.frame.Frame.TheVariants.{Close}
use Rattle.net_frames.specs.Frames.{AreFrames, all_spelled}
use Rattle.conn_parts.specs.Messages.{Message, closing, AreFrom, numbered_on, items_on, sequences_on, sizes_on, credit_on, resumptions_on, counted}

-- Where the bytes that were got begin those that were sent, and these begin what was written and the closing frame, the messages that
-- were read begin those that were written. They are all of them where the closing frame comes next.
abbrev pub ReadIsWritten : Type 0
ReadIsWritten =
    (is_from : Frame → Bool) (written read : List Message) (sent got left : List ℕ) (n : ℕ) → is_from Close ≡ false →
    AreFrames written → AreFrom is_from written → AreFrames read → AreFrom is_from read →
    sent ≡ take n (all_spelled written ++ closing) → StartsWith sent got → got ≡ all_spelled read ++ left →
    StartsWith written read × (StartsWith left closing → read ≡ written)

-- What messages carry on a channel is what the first of them carry, and then the others.
pub record Adds (c : ChannelId) (xs ys : List Message) : Type 0 where
  pub numbered : numbered_on c (xs ++ ys) ≡ numbered_on c xs ++ numbered_on c ys
  pub items : items_on c (xs ++ ys) ≡ items_on c xs ++ items_on c ys
  pub sequences : sequences_on c (xs ++ ys) ≡ sequences_on c xs ++ sequences_on c ys
  pub sizes : sizes_on c (xs ++ ys) ≡ sizes_on c xs ++ sizes_on c ys
  pub credit : credit_on c (xs ++ ys) ≡ credit_on c xs + credit_on c ys
  pub resumptions : resumptions_on c (xs ++ ys) ≡ resumptions_on c xs + resumptions_on c ys

abbrev pub MessagesAdd : Type 0
MessagesAdd = (c : ChannelId) (xs ys : List Message) → Adds c xs ys

-- What a beginning of the messages carries begins what all of them carry, and its credit and resumptions are at most theirs.
pub record CarriesFront (c : ChannelId) (written read : List Message) : Type 0 where
  pub numbered : StartsWith (numbered_on c written) (numbered_on c read)
  pub items : StartsWith (items_on c written) (items_on c read)
  pub sequences : StartsWith (sequences_on c written) (sequences_on c read)
  pub sizes : StartsWith (sizes_on c written) (sizes_on c read)
  pub credit : credit_on c read ≤ credit_on c written
  pub resumptions : resumptions_on c read ≤ resumptions_on c written

abbrev pub FrontsCarryFronts : Type 0
FrontsCarryFronts = (c : ChannelId) (written read : List Message) → StartsWith written read → CarriesFront c written read

-- Sequence numbers go on where those before them end.
abbrev pub NumbersGoOn : Type 0
NumbersGoOn = (first m n : ℕ) → counted first (m + n) ≡ counted first m ++ counted (first + m) n

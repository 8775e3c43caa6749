-- What a connection keeps, over links that tell their bytes and whatever the order of the turns. The chain from credit announced to
-- data received is that of Flink's credit-based flow control; that it needs no order between the two ends is this project's own.
use Rattle.std.specs.Prelude.{◌≡◌, ℕ, ◌+◌, ◌≤◌, Bool, List, [], count_by, slice_get, Option, Some}
use Rattle.turn_cell.specs.History.{StartsWith, by, entries_of}
use Rattle.flow_defs.specs.declared.task.ChannelId.{ChannelId}
use Rattle.flow_defs.specs.declared.parcel.Parcel.{Parcel}
use Rattle.flow_defs.specs.declared.cause.Cause.{Cause}
use Rattle.flow_defs.specs.declared.cause.Cause.TheVariants as causes
use Rattle.flow_defs.specs.Parcels.{is_data}
use Rattle.credit_reader.specs.Senders.{AreDistinct}
use Rattle.subpartition.specs.Sending.{taken}
use Rattle.input_channel.specs.Inboxes.{pushed}
use Rattle.input_channel.specs.Legal.{credit_told}
use Rattle.reader_state.specs.declared.entry.ReaderEntry.{ReaderEntry}
use Rattle.reader_state.specs.Theorems.{IsLegal}
use Rattle.conn_parts.specs.declared.share.ConnShare.{ConnShare}
use Rattle.conn_parts.specs.declared.share.SharePasses.{SharePasses}
use Rattle.conn_parts.specs.Shares.{mine_at, seen_at}
use Rattle.conn_send_items.specs.Sending.{SendAccount, told_readers as told_items}
use Rattle.conn_read_control.specs.Controlling.{ControlAccount, told_readers as told_control}
use Rattle.conn_send_control.specs.Announcing.{AnnounceAccount}
use Rattle.conn_read_items.specs.Receiving.{ItemsAccount}

-- What arrived begins what was taken, and is all of it where the reader of items is done.
pub record Arrived (taken pushed : List Parcel) (cause : Cause) : Type 0 where
  pub begins : StartsWith taken pushed
  pub all : cause ≡ causes.Done → pushed ≡ taken

-- On each channel the items that arrive are the first of those that were taken, in order, each once.
abbrev pub ItemsArrive : Type 0
ItemsArrive =
    (sending receiving : ConnShare) (sent_by read_by : SharePasses) (sent got : List ℕ) (was_ended ended : Option Bool)
    (fell rose fell_there rose_there : ℕ) (send_cause read_cause : Cause) →
    SendAccount sending.channels.now sending.passes sent_by (Some []) (Some sent) fell rose send_cause →
    ItemsAccount receiving read_by (Some []) (Some got) was_ended ended fell_there rose_there read_cause →
    receiving.channels.now ≡ sending.channels.now → StartsWith sent got →
    (k : ℕ) (c : ChannelId) → slice_get sending.channels.now k ≡ Some c →
    taken (entries_of (seen_at k sending.passes.subpartitions.items)) ≡ [] → pushed (mine_at k receiving.passes.inputs.items) ≡ [] →
    Arrived (taken (entries_of (seen_at k sent_by.subpartitions.items))) (pushed (mine_at k read_by.inputs.items)) read_cause

-- No more data arrive on a channel than credit was announced there, counting the 2 of its request: data read are at most those sent,
-- these at most the credit that came to the readers, this at most the credit written, and this the credit announced. `history` is that
-- of the readers' cell, which has the own entries of the two loops of the sending end.
abbrev pub CreditCoversData : Type 0
CreditCoversData =
    (items control asking reading : ConnShare) (items_by control_by asked_by read_by : SharePasses)
    (data_sent data_got control_sent control_got : List ℕ) (data_was data_ended control_was control_ended : Option Bool)
    (a b c d e f g h : ℕ) (send_cause control_cause ask_cause read_cause : Cause) (history : List (ℕ × ReaderEntry)) →
    SendAccount items.channels.now items.passes items_by (Some []) (Some data_sent) a b send_cause →
    ControlAccount control control_by (Some []) (Some control_got) control_was control_ended c d control_cause →
    AnnounceAccount items.channels.now asking.passes asked_by (Some []) (Some control_sent) e f ask_cause →
    ItemsAccount reading read_by (Some []) (Some data_got) data_was data_ended g h read_cause →
    control.channels.now ≡ items.channels.now → reading.channels.now ≡ items.channels.now → AreDistinct items.channels.now →
    StartsWith data_sent data_got → StartsWith control_sent control_got →
    IsLegal items.channels.now history → by 0 history ≡ told_items items_by → by 1 history ≡ told_control control_by →
    (k : ℕ) (channel : ChannelId) → slice_get items.channels.now k ≡ Some channel →
    pushed (mine_at k reading.passes.inputs.items) ≡ [] → credit_told (mine_at k asking.passes.inputs.items) ≡ 0 →
    count_by is_data (pushed (mine_at k read_by.inputs.items)) ≤ 2 + credit_told (mine_at k asked_by.inputs.items)

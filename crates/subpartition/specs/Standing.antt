-- What a subpartition in a turn cell stands for: the history of the turns. This is this project's own choice.
use Rattle.std.specs.Prelude.{◌≡◌, ℕ, List, length, map, All}
use Rattle.subpartition.specs.declared.entry.SendEntry.{SendEntry}
use Rattle.turn_cell.specs.History.{IsHistory, entries_of}
use Rattle.subpartition.specs.Sending.{outbox, barriers_put, is_finished, filled_to, MaySendAs}
use Rattle.subpartition.specs.Queues.{Queue, parcel_of, HasLength}

-- Every entry was allowed, and the queue is what the entries have made of an empty one. Its segments have the size that is told of them.
-- So it is known of each entry of a closed cell that it was allowed.
pub record QueueStandsFor (queue : Queue) (history : List (ℕ × SendEntry)) : Type 0 where
  pub legal : IsHistory (MaySendAs queue.size) history
  pub items : map parcel_of queue.items ≡ (outbox (entries_of history)).items
  pub barriers : queue.barriers ≡ length (barriers_put (entries_of history))
  pub finished : queue.finished ≡ is_finished (entries_of history)
  pub fill_size : queue.fill_size ≡ filled_to queue.size (entries_of history)
  pub segments : All (HasLength queue.size) queue.items

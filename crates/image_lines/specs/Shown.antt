-- What is shown of an image. Which lines there are is this project's own choice.
use Rattle.std.specs.Prelude.{ℕ, suc, ◌+◌, ◌%◌, ◌^◌, Bool, false, List, [], ◌∷◌, ◌++◌, length, fold, slice_index, slice_get, unwrap_or, if◌then◌else◌, codes, decimal}
use Rattle.std.specs.Option.{option_map_or}
use Rattle.std.specs.FinMap.{entries}
use Rattle.flow_defs.specs.Tables.{Values}
use Rattle.flow_defs.specs.declared.job.Job.{Job}
use Rattle.flow_defs.specs.declared.image.TakeRun.{TakeRun}
use Rattle.flow_defs.specs.declared.image.Image.{Image}
use Rattle.flow_defs.specs.Jobs.{last_edge, tasks, is_channel}
use Rattle.plain_machine.specs.Worth.{concat_below}
use Rattle.plain_machine.specs.Places.{sender_place, channel_place}
use Rattle.plain_machine.specs.Images.{items_at, takes_of}

-- A word and a number.
abbrev pub named : List ℕ → ℕ → List ℕ
named word n = word ++ decimal n

abbrev pub answer : Bool → List ℕ
answer b = if b then codes "yes" else codes "no"

-- The number of the checkpoint, and whether no other follows.
abbrev pub head_lines : Image → List ℕ
head_lines image = named (codes "image ") image.number ++ codes "\nlast " ++ answer image.final_one ++ codes "\n"

-- How many lines source a has read, and whether it is at its end.
abbrev pub source_line : Image → ℕ → List ℕ
source_line image a =
    named (codes "source ") a ++ named (codes " offset ") (slice_index image.offsets.items a)
    ++ codes " ended " ++ answer (unwrap_or (slice_get image.ended.items a) false) ++ codes "\n"

-- How many records task a of stage i has emitted.
abbrev pub task_line : Job → Image → ℕ → ℕ → List ℕ
task_line job image i a =
    named (codes "task ") i ++ named (codes " ") a ++ named (codes " emitted ") (slice_index image.emitted.items (sender_place job i a)) ++ codes "\n"

-- How many keys task b of the aggregate has.
abbrev pub table_line : Image → ℕ → List ℕ
table_line image b = named (codes "table ") b ++ named (codes " keys ") (option_map_or (λ (table : Values). length (entries table)) (slice_get image.tables.items b) 0) ++ codes "\n"

-- How many records runs take, modulo 2^64.
abbrev pub count_of : List TakeRun → ℕ
count_of runs = fold (λ sum (run : TakeRun). (sum + run.count) % 2 ^ 64) 0 runs

-- What task b behind edge e took since the image before.
abbrev pub take_line : Job → Image → ℕ → ℕ → List ℕ
take_line job image e b =
    let runs = takes_of job image (suc e) b in
    named (codes "take ") (suc e) ++ named (codes " ") b ++ named (codes " runs ") (length runs) ++ named (codes " records ") (count_of runs) ++ codes "\n"

-- How many bytes are saved of the channel from task a to task b on edge e, at its end and at its beginning.
abbrev pub channel_line : Job → Image → ℕ → ℕ → ℕ → List ℕ
channel_line job image e a b =
    let place = channel_place job e a b in
    named (codes "channel ") e ++ named (codes " ") a ++ named (codes " ") b
    ++ named (codes " in ") (length (items_at image.saved_in.items place)) ++ named (codes " out ") (length (items_at image.saved_out.items place)) ++ codes "\n"

-- The lines of all channels from task a of stage e.
abbrev pub channel_lines : Job → Image → ℕ → ℕ → List ℕ
channel_lines job image e a = concat_below (tasks job (suc e)) (λ b. if is_channel job e a b then channel_line job image e a b else [])

-- All lines: those of the image, of the sources, of the tasks that send, of the tables, of the tasks that take, and of the channels.
unfoldable pub shown : Job → Image → List ℕ
shown job image =
    head_lines image
    ++ concat_below (tasks job 0) (source_line image)
    ++ concat_below (suc (last_edge job)) (λ i. concat_below (tasks job i) (task_line job image i))
    ++ concat_below (tasks job (suc (last_edge job))) (table_line image)
    ++ concat_below (suc (last_edge job)) (λ e. concat_below (tasks job (suc e)) (take_line job image e))
    ++ concat_below (suc (last_edge job)) (λ e. concat_below (tasks job e) (channel_lines job image e))

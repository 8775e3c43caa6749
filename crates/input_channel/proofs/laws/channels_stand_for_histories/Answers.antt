use Rattle.input_channel.proofs.StateLaws.{opens_empty, calls_are_legal, calls_add_entries, passes_are_kept, entries_are_legal, poll_tells, saved_tells, open_save_is_told, return_fits}
use Rattle.input_channel.proofs.laws.channels_stand_for_histories.Goals as goal

pub returns : goal.returns
returns c = record { opening = opens_empty; calls = calls_are_legal; entries = calls_add_entries; passes = passes_are_kept; legal = entries_are_legal; poll = poll_tells; saved = saved_tells; open_save = open_save_is_told; fits = return_fits }

-- A connection is sound once it is opened, and each event keeps it so.
use Rattle.local_pool.specs.Shares.{SharesFit}
use Rattle.exchange_world.specs.Theorems.{NoFrameIsRefused, PoolsLendWithin}
use Rattle.exchange_world.specs.Laws.{StepsKeepSound}
use Rattle.exchange_world.proofs.OpenedLemmas.{opened_is_sound}
use Rattle.exchange_world.proofs.SendingKeeps
use Rattle.exchange_world.proofs.Receiving.{keeps_deliver, keeps_credit, keeps_resume, keeps_poll, keeps_hold, keeps_save, keeps_saved, keeps_pool}
use Rattle.exchange_world.proofs.Taking.{sound_takes_frames}
use Rattle.exchange_world.proofs.Lending.{sound_lends_within}
use Rattle.exchange_world.proofs.Following

pub steps_keep_sound : StepsKeepSound
steps_keep_sound = SendingKeeps.steps_keep_sound (record { deliver = keeps_deliver; credit = keeps_credit; resume = keeps_resume; poll = keeps_poll; hold = keeps_hold; save = keeps_save; saved = keeps_saved; pool = keeps_pool })

pub no_frame_is_refused : NoFrameIsRefused
no_frame_is_refused = Following.no_frame_is_refused opened_is_sound steps_keep_sound sound_takes_frames

pub pools_lend_within : SharesFit → PoolsLendWithin
pools_lend_within fit = Following.pools_lend_within opened_is_sound steps_keep_sound (sound_lends_within fit)

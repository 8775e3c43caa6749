-- What holds of a sound world holds after all events, since a connection is sound once it is opened and stays so.
use Rattle.std.proofs.Common.{ℕ, List, [], ◌∷◌}
use Rattle.script_text.specs.declared.event.Event.{Event}
use Rattle.exchange_world.specs.Worlds.{World, opened}
use Rattle.exchange_world.specs.Steps.{step, after_events}
use Rattle.exchange_world.specs.Theorems.{CanOpen, AreEvents, NoFrameIsRefused, PoolsLendWithin}
use Rattle.exchange_world.specs.Sound.{IsSound}
use Rattle.exchange_world.specs.Laws.{OpenedIsSound, StepsKeepSound, SoundTakesFrames, SoundLendsWithin}

pub sound_after : StepsKeepSound → (m : ℕ) (w : World) (es : List Event) → IsSound m w → AreEvents m es → IsSound m (after_events w es)
sound_after keeps m w [] sound are = sound
sound_after keeps m w (e ∷ es) sound are = sound_after keeps m (step w e).0 es (keeps m w e sound are.0) are.1

pub always_sound : OpenedIsSound → StepsKeepSound → (m size total : ℕ) (es : List Event) → CanOpen m size total → AreEvents m es → IsSound m (after_events (opened m size total) es)
always_sound opens keeps m size total es can are = sound_after keeps m (opened m size total) es (opens m size total can) are

module _ (opens : OpenedIsSound) (keeps : StepsKeepSound) where
  pub no_frame_is_refused : SoundTakesFrames → NoFrameIsRefused
  no_frame_is_refused takes m size total es can are = takes m (after_events (opened m size total) es) (always_sound opens keeps m size total es can are)

  pub pools_lend_within : SoundLendsWithin → PoolsLendWithin
  pools_lend_within lends m size total es can are = lends m (after_events (opened m size total) es) (always_sound opens keeps m size total es can are)

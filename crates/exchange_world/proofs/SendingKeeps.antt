-- Each event keeps a connection sound, where those of its receiving end do.
use Rattle.std.proofs.Common.{ℕ}
use Rattle.script_text.specs.declared.event.Event.TheVariants as events
use Rattle.script_text.specs.Scripts.{IsChannel}
use Rattle.exchange_world.specs.Worlds.{World}
use Rattle.exchange_world.specs.Steps.{step}
use Rattle.exchange_world.specs.Sound.{IsSound}
use Rattle.exchange_world.specs.Laws.{StepsKeepSound}
use Rattle.exchange_world.proofs.PuttingLemmas.{keeps_emit, keeps_fill, keeps_barrier, keeps_finish}
use Rattle.exchange_world.proofs.SendingLemmas.{keeps_send}
use Rattle.exchange_world.proofs.ControlLemmas.{keeps_announce, keeps_control}

-- The events of the receiving end keep a connection of m channels sound.
pub record ReceivingKeeps : Type 0 where
  pub deliver : (m : ℕ) (w : World) → IsSound m w → IsSound m (step w events.Deliver).0
  pub credit : (m : ℕ) (w : World) → IsSound m w → (c : ℕ) → IsChannel m c → IsSound m (step w (events.Credit c)).0
  pub resume : (m : ℕ) (w : World) → IsSound m w → (c : ℕ) → IsChannel m c → IsSound m (step w (events.Resume c)).0
  pub poll : (m : ℕ) (w : World) → IsSound m w → (c : ℕ) → IsChannel m c → IsSound m (step w (events.Poll c)).0
  pub hold : (m : ℕ) (w : World) → IsSound m w → (c : ℕ) → IsChannel m c → IsSound m (step w (events.Hold c)).0
  pub save : (m : ℕ) (w : World) → IsSound m w → (c : ℕ) → IsChannel m c → (k : ℕ) → IsSound m (step w (events.Save c k)).0
  pub saved : (m : ℕ) (w : World) → IsSound m w → (c : ℕ) → IsChannel m c → (k : ℕ) → IsSound m (step w (events.Saved c k)).0
  pub pool : (m : ℕ) (w : World) → IsSound m w → IsSound m (step w events.Pool).0

pub steps_keep_sound : ReceivingKeeps → StepsKeepSound
steps_keep_sound receiving m w (events.Emit c text) sound is = keeps_emit m c w text sound is
steps_keep_sound receiving m w (events.Fill c n) sound is = keeps_fill m c n w sound is
steps_keep_sound receiving m w (events.Barrier c k kind) sound is = keeps_barrier m c k kind w sound is
steps_keep_sound receiving m w (events.Finish c) sound is = keeps_finish m c w sound is
steps_keep_sound receiving m w events.Send sound is = keeps_send m w sound
steps_keep_sound receiving m w events.Announce sound is = keeps_announce m w sound
steps_keep_sound receiving m w events.Deliver sound is = receiving.deliver m w sound
steps_keep_sound receiving m w (events.Credit c) sound is = receiving.credit m w sound c is
steps_keep_sound receiving m w (events.Resume c) sound is = receiving.resume m w sound c is
steps_keep_sound receiving m w events.Control sound is = keeps_control m w sound
steps_keep_sound receiving m w (events.Poll c) sound is = receiving.poll m w sound c is
steps_keep_sound receiving m w (events.Hold c) sound is = receiving.hold m w sound c is
steps_keep_sound receiving m w (events.Save c k) sound is = receiving.save m w sound c is.0 k
steps_keep_sound receiving m w (events.Saved c k) sound is = receiving.saved m w sound c is.0 k
steps_keep_sound receiving m w events.Pool sound is = receiving.pool m w sound

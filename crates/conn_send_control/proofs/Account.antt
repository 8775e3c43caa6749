-- The account of the whole loop.
use Rattle.std.proofs.Common.{◌≡◌, ℕ, ◌≤◌, inl, inr, List, ◌++◌, refl, sym, ap, subst, ◌∙◌, arith}
use Rattle.std.specs.Prelude.{Option}
use Rattle.flow_defs.specs.declared.task.ChannelId.{ChannelId}
use Rattle.flow_defs.specs.declared.cause.Cause.{Cause}
use Rattle.flow_defs.specs.declared.cause.Cause.TheVariants as causes
use Rattle.net_frames.specs.Frames.{AreFrames, all_spelled}
use Rattle.outside.specs.Links.{Appended}
use Rattle.outside.specs.Stops.{told_of}
use Rattle.outside.proofs.Faults.{risen_before, risen_after}
use Rattle.turn_cell.specs.Passes.{IsSamePass}
use Rattle.conn_parts.specs.declared.share.SharePasses.{SharePasses}
use Rattle.conn_parts.specs.Messages.{Message, AreFrom, closing, is_from_receiver}
use Rattle.conn_parts.specs.Stopping.{StopCell, StopPass, ToldStop}
use Rattle.conn_parts.specs.Writing.{Wrote}
use Rattle.conn_parts.proofs.Telling.{appended_more}
use Rattle.conn_send_control.specs.Announcing.{IsSendCause, AnnounceAccount}
use Rattle.conn_send_control.specs.Going.{AreCut, GoneOut, ClosedAs, RanFor}
use Rattle.conn_send_control.proofs.Going.{front_more, cut_longer}

-- What has gone out for a cause shows which causes there are.
pub send_cause : (cause : Cause) (a b : Option (List ℕ)) (f g : ℕ) (bytes : List ℕ) → GoneOut cause a b f g bytes → IsSendCause cause
send_cause causes.Done a b f g bytes gone = tt
send_cause causes.Stopped a b f g bytes gone = tt
send_cause (causes.Input source) a b f g bytes gone = gone
send_cause causes.Keeper a b f g bytes gone = gone
send_cause causes.Link a b f g bytes gone = tt
send_cause (causes.LongLine source) a b f g bytes gone = gone
send_cause (causes.BigSource source) a b f g bytes gone = gone
send_cause causes.BigImage a b f g bytes gone = gone
send_cause causes.Memory a b f g bytes gone = tt
send_cause (causes.OverCredit channel received announced) a b f g bytes gone = gone
send_cause (causes.Peer fault) a b f g bytes gone = gone

-- ---- the closing frame behind the messages

module _ (a b e : Option (List ℕ)) (f g h : ℕ) (ms : List Message) (frames : AreFrames ms) (direction : AreFrom is_from_receiver ms) where
  wrote_whole : (d : Cause) → (d ≡ causes.Link → ⊥) → Appended a e (all_spelled ms ++ closing) → f ≤ g → g ≤ h → Wrote is_from_receiver a e f h ms d
  wrote_whole d other told le le' =
      record { frames = frames; direction = direction; bytes = inl told; done = λ is. told; stopped = λ is. told; link = λ is. absurd (other is); never_falls = omega arith }

  wrote_cut : (d : Cause) → (d ≡ causes.Done → ⊥) → (d ≡ causes.Stopped → ⊥) → AreCut a e f h (all_spelled ms ++ closing) → f ≤ g → g ≤ h → Wrote is_from_receiver a e f h ms d
  wrote_cut d not_done not_stopped cut le le' =
      record { frames = frames; direction = direction; bytes = inr cut; done = λ is. absurd (not_done is); stopped = λ is. absurd (not_stopped is); link = λ is. cut.1; never_falls = omega arith }

  cut_behind : Appended a b (all_spelled ms) → AreCut b e g h closing → f ≤ g → AreCut a e f h (all_spelled ms ++ closing)
  cut_behind told (front, risen) le = (front_more a b e (all_spelled ms) closing told front, risen_before f g h le risen)

  cut_before : AreCut a b f g (all_spelled ms) → e ≡ b → g ≤ h → AreCut a e f h (all_spelled ms ++ closing)
  cut_before cut same le =
      let longer = cut_longer a b f g (all_spelled ms) closing cut in
      subst (λ o. AreCut a o f h (all_spelled ms ++ closing)) (sym same) (longer.0, risen_after f g h longer.1 le)

  pub closes : (c d : Cause) → ClosedAs c d b e g h → GoneOut c a b f g (all_spelled ms) → f ≤ g → g ≤ h →
      Wrote is_from_receiver a e f h ms d × (d ≡ causes.Done → c ≡ causes.Done) × IsSendCause d
  closes causes.Done causes.Done closed gone le le' = (wrote_whole _ (λ is. absurd (cc)) (appended_more a b e (all_spelled ms) closing gone closed) le le', λ is. refl, tt)
  closes causes.Done causes.Stopped closed gone le le' = absurd closed
  closes causes.Done (causes.Input source) closed gone le le' = absurd closed
  closes causes.Done causes.Keeper closed gone le le' = absurd closed
  closes causes.Done causes.Link closed gone le le' = (wrote_cut _ (λ is. absurd (cc)) (λ is. absurd (cc)) (cut_behind gone closed le) le le', λ is. absurd (cc), tt)
  closes causes.Done (causes.LongLine source) closed gone le le' = absurd closed
  closes causes.Done (causes.BigSource source) closed gone le le' = absurd closed
  closes causes.Done causes.BigImage closed gone le le' = absurd closed
  closes causes.Done causes.Memory closed gone le le' = absurd closed
  closes causes.Done (causes.OverCredit channel received announced) closed gone le le' = absurd closed
  closes causes.Done (causes.Peer fault) closed gone le le' = absurd closed
  closes causes.Stopped causes.Done closed gone le le' = absurd closed
  closes causes.Stopped causes.Stopped closed gone le le' = (wrote_whole _ (λ is. absurd (cc)) (appended_more a b e (all_spelled ms) closing gone closed) le le', λ is. absurd (cc), tt)
  closes causes.Stopped (causes.Input source) closed gone le le' = absurd closed
  closes causes.Stopped causes.Keeper closed gone le le' = absurd closed
  closes causes.Stopped causes.Link closed gone le le' = (wrote_cut _ (λ is. absurd (cc)) (λ is. absurd (cc)) (cut_behind gone closed le) le le', λ is. absurd (cc), tt)
  closes causes.Stopped (causes.LongLine source) closed gone le le' = absurd closed
  closes causes.Stopped (causes.BigSource source) closed gone le le' = absurd closed
  closes causes.Stopped causes.BigImage closed gone le le' = absurd closed
  closes causes.Stopped causes.Memory closed gone le le' = absurd closed
  closes causes.Stopped (causes.OverCredit channel received announced) closed gone le le' = absurd closed
  closes causes.Stopped (causes.Peer fault) closed gone le le' = absurd closed
  closes causes.Link causes.Done closed gone le le' = absurd closed
  closes causes.Link causes.Stopped closed gone le le' = absurd closed
  closes causes.Link (causes.Input source) closed gone le le' = absurd closed
  closes causes.Link causes.Keeper closed gone le le' = absurd closed
  closes causes.Link causes.Link closed gone le le' = (wrote_cut _ (λ is. absurd (cc)) (λ is. absurd (cc)) (cut_before gone closed le') le le', λ is. absurd (cc), tt)
  closes causes.Link (causes.LongLine source) closed gone le le' = absurd closed
  closes causes.Link (causes.BigSource source) closed gone le le' = absurd closed
  closes causes.Link causes.BigImage closed gone le le' = absurd closed
  closes causes.Link causes.Memory closed gone le le' = absurd closed
  closes causes.Link (causes.OverCredit channel received announced) closed gone le le' = absurd closed
  closes causes.Link (causes.Peer fault) closed gone le le' = absurd closed
  closes causes.Memory causes.Done closed gone le le' = absurd closed
  closes causes.Memory causes.Stopped closed gone le le' = absurd closed
  closes causes.Memory (causes.Input source) closed gone le le' = absurd closed
  closes causes.Memory causes.Keeper closed gone le le' = absurd closed
  closes causes.Memory causes.Link closed gone le le' = absurd closed
  closes causes.Memory (causes.LongLine source) closed gone le le' = absurd closed
  closes causes.Memory (causes.BigSource source) closed gone le le' = absurd closed
  closes causes.Memory causes.BigImage closed gone le le' = absurd closed
  closes causes.Memory causes.Memory (inl told) gone le le' = (wrote_whole _ (λ is. absurd (cc)) (appended_more a b e (all_spelled ms) closing gone told) le le', λ is. absurd (cc), tt)
  closes causes.Memory causes.Memory (inr cut) gone le le' = (wrote_cut _ (λ is. absurd (cc)) (λ is. absurd (cc)) (cut_behind gone cut le) le le', λ is. absurd (cc), tt)
  closes causes.Memory (causes.OverCredit channel received announced) closed gone le le' = absurd closed
  closes causes.Memory (causes.Peer fault) closed gone le le' = absurd closed
  closes (causes.Input source) d closed gone le le' = absurd gone
  closes causes.Keeper d closed gone le le' = absurd gone
  closes (causes.LongLine source) d closed gone le le' = absurd gone
  closes (causes.BigSource source) d closed gone le le' = absurd gone
  closes causes.BigImage d closed gone le le' = absurd gone
  closes (causes.OverCredit channel received announced) d closed gone le le' = absurd gone
  closes (causes.Peer fault) d closed gone le le' = absurd gone

-- ---- all of it

module _ (channels : List ChannelId) (before after : SharePasses) (a b e : Option (List ℕ)) (f g h : ℕ) where
  pub whole_account : (c d : Cause) → RanFor channels before.inputs.items after.inputs.items a b f g c → ClosedAs c d b e g h → f ≤ g → g ≤ h → AnnounceAccount channels before after a e f h d
  whole_account c d ran closed le le' =
      let end = closes a b e f g h ran.messages ran.told.frames ran.told.direction c d closed ran.out le le' in
      record {
        messages = ran.messages;
        wrote = end.0;
        told = record { requests = ran.requests; credit = ran.told.credit; resumptions = ran.told.resumptions; ends = λ is. ran.ends (end.1 is) };
        cause_is = end.2;
      }

pub told_since : (cell : StopCell) (cause : Cause) (before mid after : StopPass) → IsSamePass before mid → ToldStop cell cause mid after → ToldStop cell cause before after
told_since cell cause before mid after same told = record {
  pass = told.pass;
  number = told.number ∙ same.0;
  told = told.told ∙ ap (λ es. es ++ told_of cause) same.1;
  stopped = told.stopped;
  done = told.done;
}

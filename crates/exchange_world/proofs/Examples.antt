-- The world at small scripts, computed.
use Rattle.std.proofs.Common.{◌≡◌, ℕ, List, [], ◌∷◌, refl}
use Rattle.std.specs.Prelude.{codes}
use Rattle.flow_defs.specs.Items.{Items}
use Rattle.flow_defs.specs.Records.{length_bytes, spans}
use Rattle.flow_defs.specs.declared.task.BarrierKind.TheVariants.{Inline, Front}
use Rattle.credit_reader.specs.declared.reader.SentKind.TheVariants as sent
use Rattle.script_text.specs.declared.event.Event.{Event}
use Rattle.script_text.specs.declared.event.Event.TheVariants.{Emit, Barrier, Finish, Send, Announce, Deliver, Credit, Resume, Control, Poll, Hold, Pool}
use Rattle.script_text.specs.declared.reply.Reply.{Reply}
use Rattle.script_text.specs.declared.reply.Reply.TheVariants as replies
use Rattle.exchange_world.specs.Worlds.{opened}
use Rattle.exchange_world.specs.Steps.{replies_to, listed}

abbrev text : List ℕ → Items ℕ
text bytes = record { items = bytes; room = 0 }

abbrev emit : ℕ → List ℕ → Event
emit c bytes = Emit c (text bytes)

abbrev polled_data : ℕ → ℕ → List (List ℕ) → Reply
polled_data c len records = replies.Data c len (listed records)

-- one channel runs out of credit and is topped up
topped_up : replies_to (opened 1 64 40)
    (Pool ∷ emit 1 (codes "a") ∷ emit 1 (codes "b") ∷ emit 1 (codes "c") ∷ Send ∷ Send ∷ Send ∷ Deliver ∷ Pool ∷ Credit 1 ∷ Control ∷ Send ∷ Send ∷ Deliver ∷ Deliver ∷ Poll 1 ∷ Poll 1 ∷ Poll 1 ∷ Pool ∷ Credit 1 ∷ [])
    ≡ replies.Pool 36 4 ∷ replies.Queued 1 1 ∷ replies.Queued 1 2 ∷ replies.Queued 1 3
    ∷ replies.Frame 1 0 sent.Buffer 5 2 ∷ replies.Frame 1 1 sent.Buffer 5 1 ∷ replies.Nothing ∷ replies.Accepted 1 0 ∷ replies.Pool 33 7
    ∷ replies.Credit 1 3 ∷ replies.Granted 1 3 ∷ replies.Frame 1 2 sent.Buffer 5 0 ∷ replies.Nothing ∷ replies.Accepted 1 1 ∷ replies.Accepted 1 2
    ∷ polled_data 1 5 (codes "a" ∷ []) ∷ polled_data 1 5 (codes "b" ∷ []) ∷ polled_data 1 5 (codes "c" ∷ []) ∷ replies.Pool 36 4 ∷ replies.Absent ∷ []
unfolding length_bytes spans
topped_up = refl

-- of two channels, one isn't polled and the other goes on
goes_on : replies_to (opened 2 64 40)
    (emit 1 (codes "a") ∷ emit 1 (codes "b") ∷ emit 1 (codes "c") ∷ emit 2 (codes "d") ∷ Send ∷ Send ∷ Send ∷ Send ∷ emit 2 (codes "e") ∷ Send ∷ Deliver ∷ Deliver ∷ Deliver ∷ Deliver ∷ Poll 2 ∷ Poll 2 ∷ [])
    ≡ replies.Queued 1 1 ∷ replies.Queued 1 2 ∷ replies.Queued 1 3 ∷ replies.Queued 2 1
    ∷ replies.Frame 1 0 sent.Buffer 5 2 ∷ replies.Frame 2 0 sent.Buffer 5 0 ∷ replies.Frame 1 1 sent.Buffer 5 1 ∷ replies.Nothing
    ∷ replies.Queued 2 1 ∷ replies.Frame 2 1 sent.Buffer 5 0 ∷ replies.Accepted 1 0 ∷ replies.Accepted 2 0 ∷ replies.Accepted 1 1 ∷ replies.Accepted 2 1
    ∷ polled_data 2 5 (codes "d" ∷ []) ∷ polled_data 2 5 (codes "e" ∷ []) ∷ []
unfolding length_bytes spans
goes_on = refl

-- a barrier blocks its channel until it is resumed
blocks : replies_to (opened 1 64 4)
    (emit 1 (codes "a") ∷ Barrier 1 1 Inline ∷ Barrier 1 3 Inline ∷ emit 1 (codes "b") ∷ emit 1 (codes "c") ∷ Send ∷ Send ∷ Send ∷ Deliver ∷ Deliver ∷ Poll 1 ∷ Hold 1 ∷ Resume 1 ∷ Poll 1 ∷ Resume 1 ∷ Resume 1 ∷ Control ∷ Send ∷ Announce ∷ Announce ∷ [])
    ≡ replies.Queued 1 1 ∷ replies.Done ∷ replies.Refused ∷ replies.Queued 1 2 ∷ replies.Full
    ∷ replies.Frame 1 0 sent.Buffer 5 1 ∷ replies.Frame 1 1 sent.Inline 8 1 ∷ replies.Nothing ∷ replies.Accepted 1 0 ∷ replies.Accepted 1 1
    ∷ polled_data 1 5 (codes "a" ∷ []) ∷ replies.Held 1 ∷ replies.Refused ∷ replies.Barrier 1 1 Inline ∷ replies.Done ∷ replies.Refused ∷ replies.Resumed 1
    ∷ replies.Frame 1 2 sent.Buffer 5 0 ∷ replies.Nothing ∷ replies.Nothing ∷ []
unfolding length_bytes spans
blocks = refl

-- a front barrier overtakes the data that wait, and blocks nothing
overtakes : replies_to (opened 1 64 40)
    (emit 1 (codes "x") ∷ emit 1 (codes "y") ∷ Barrier 1 2 Front ∷ Barrier 1 1 Front ∷ Send ∷ Send ∷ Send ∷ Deliver ∷ Deliver ∷ Hold 1 ∷ Poll 1 ∷ Poll 1 ∷ Finish 1 ∷ Barrier 1 2 Front ∷ [])
    ≡ replies.Queued 1 1 ∷ replies.Queued 1 2 ∷ replies.Refused ∷ replies.SavedOut 1 1 (text (0 ∷ 0 ∷ 0 ∷ 1 ∷ 120 ∷ 0 ∷ 0 ∷ 0 ∷ 1 ∷ 121 ∷ []))
    ∷ replies.Frame 1 0 sent.Front 8 2 ∷ replies.Frame 1 1 sent.Buffer 5 1 ∷ replies.Frame 1 2 sent.Buffer 5 0 ∷ replies.Accepted 1 0 ∷ replies.Accepted 1 1
    ∷ replies.Held 1 ∷ replies.Barrier 1 1 Front ∷ polled_data 1 5 (codes "x" ∷ []) ∷ replies.Done ∷ replies.Refused ∷ []
unfolding length_bytes spans
overtakes = refl

-- behind a barrier that stands there, in line or in front
behind_barriers : replies_to (opened 1 64 40)
    (emit 1 (codes "x") ∷ Barrier 1 1 Inline ∷ emit 1 (codes "y") ∷ Barrier 1 2 Front ∷ Barrier 1 3 Front ∷ Send ∷ Send ∷ [])
    ≡ replies.Queued 1 1 ∷ replies.Done ∷ replies.Queued 1 2 ∷ replies.SavedOut 1 2 (text (0 ∷ 0 ∷ 0 ∷ 1 ∷ 121 ∷ [])) ∷ replies.SavedOut 1 3 (text (0 ∷ 0 ∷ 0 ∷ 1 ∷ 121 ∷ []))
    ∷ replies.Frame 1 0 sent.Buffer 5 1 ∷ replies.Frame 1 1 sent.Inline 8 1 ∷ []
unfolding length_bytes spans
behind_barriers = refl

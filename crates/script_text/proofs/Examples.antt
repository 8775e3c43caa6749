-- The definitions at small inputs, computed.
use Rattle.std.proofs.Common.{◌≡◌, ℕ, List, [], ◌∷◌, refl, None}
use Rattle.std.specs.Prelude.{codes}
use Rattle.std.specs.Fmt.{digits}
use Rattle.flow_defs.specs.Items.{Items}
use Rattle.flow_defs.specs.Lines.{lines}
use Rattle.script_text.specs.declared.event.Event.TheVariants.{Emit, Barrier, Save, Saved, Pool}
use Rattle.flow_defs.specs.declared.task.BarrierKind.TheVariants.{Inline, Front}
use Rattle.hex.specs.Hex.{encode_with}
use Rattle.credit_reader.specs.declared.reader.SentKind.TheVariants as sent
use Rattle.script_text.specs.declared.reply.Reply.TheVariants.{Queued, Frame, SavedOut, Data, NotYet, SavedIn}
use Rattle.script_text.specs.Scripts.{open_line, event_line}
use Rattle.script_text.specs.ScriptFaults.{IsFirstBadLine}
use Rattle.script_text.specs.Replies.{replies_text}
use Rattle.script_text.specs.Reading.{bad_line}
use Rattle.script_text.proofs.Faults.{first_bad_found}

abbrev bytes : List ℕ → Items ℕ
bytes text = record { items = text; room = 0 }

three_lines : lines (codes "open 2 64 40\nemit 2 a b\npool\n") ≡ open_line 2 64 40 ∷ event_line (Emit 2 (bytes (codes "a b"))) ∷ event_line Pool ∷ []
unfolding digits
three_lines = refl

-- nothing is put on a channel, and the space before it stays
no_text : event_line (Emit 1 (bytes [])) ≡ codes "emit 1 "
unfolding digits
no_text = refl

inline_barrier : event_line (Barrier 3 18446744073709551615 Inline) ≡ codes "barrier 3 18446744073709551615 inline"
unfolding digits
inline_barrier = refl

front_barrier : event_line (Barrier 3 1 Front) ≡ codes "barrier 3 1 front"
unfolding digits
front_barrier = refl

saves : event_line (Save 3 1) ∷ event_line (Saved 3 18446744073709551615) ∷ [] ≡ codes "save 3 1" ∷ codes "saved 3 18446744073709551615" ∷ []
unfolding digits
saves = refl

-- ---- first bad lines

whole : bad_line (lines (codes "open 1 64 4\nfill 1 0\nbarrier 1 1 inline\nbarrier 1 2 front\nsave 1 2\nsaved 1 2")) ≡ None
unfolding digits
whole = refl

no_line : IsFirstBadLine [] 1
no_line = first_bad_found [] 1 refl

other_channel : IsFirstBadLine (codes "open 1 64 4\nemit 2 x\n") 2
unfolding digits
other_channel = first_bad_found (codes "open 1 64 4\nemit 2 x\n") 2 refl

leading_zero : IsFirstBadLine (codes "open 1 64 4\npool\npoll 01\npool\n") 3
unfolding digits
leading_zero = first_bad_found (codes "open 1 64 4\npool\npoll 01\npool\n") 3 refl

checkpoint_0 : IsFirstBadLine (codes "open 1 64 4\nsave 1 1\nsaved 1 0\n") 3
unfolding digits
checkpoint_0 = first_bad_found (codes "open 1 64 4\nsave 1 1\nsaved 1 0\n") 3 refl

few_bytes : IsFirstBadLine (codes "open 1 63 4\n") 1
unfolding digits
few_bytes = first_bad_found (codes "open 1 63 4\n") 1 refl

-- ---- replies

printed_replies : replies_text (Queued 1 3 ∷ Frame 1 0 sent.Buffer 5 2 ∷ Data 1 5 (record { items = bytes (codes "a") ∷ []; room = 0 }) ∷ []) ≡ codes "queued 1 3\nframe 1 0 data 5 2\ndata 1 5 1\nrecord 1 a\n"
unfolding digits
printed_replies = refl

saved_bytes : replies_text (SavedOut 1 2 (bytes (0 ∷ 10 ∷ 255 ∷ [])) ∷ SavedOut 1 3 (bytes []) ∷ NotYet 1 2 ∷ SavedIn 1 2 (bytes (10 ∷ [])) ∷ SavedIn 1 3 (bytes []) ∷ [])
    ≡ codes "saved_out 1 2 000aff\nsaved_out 1 3 -\nnot yet 1 2\nsaved_in 1 2 0a\nsaved_in 1 3 -\n"
unfolding digits encode_with
saved_bytes = refl

-- The lines that tell replies. Their texts are this project's own choice; what they tell of, frames,
-- backlog, credit and barriers, is Flink's credit-based flow control, and what is saved is FLIP-76's.
use Rattle.std.specs.Prelude.{ℕ, List, [], ◌∷◌, ◌++◌, length, map, flat_map, codes, decimal}
use Rattle.flow_defs.specs.Items.{Items}
use Rattle.hex.specs.Hex.{encode_lower}
use Rattle.credit_reader.specs.declared.reader.SentKind.{SentKind}
use Rattle.credit_reader.specs.declared.reader.SentKind.TheVariants as sent
use Rattle.script_text.specs.declared.reply.Reply.{Reply}
use Rattle.script_text.specs.declared.reply.Reply.TheVariants.{Refused, Full, Done, Nothing, Absent, Queued, Frame, Announced, Accepted, Backlog, Credit, Granted, Resumed, Empty, Held, Barrier, SavedOut, End, Data, NotYet, SavedIn, Pool}
use Rattle.script_text.specs.Scripts.{line_of, kind_word}

-- How what a frame carries is spelled.
abbrev pub sent_word : SentKind → List ℕ
sent_word sent.Buffer = codes "data"
sent_word sent.Inline = codes "inline"
sent_word sent.Front = codes "front"
sent_word sent.End = codes "end"

-- How bytes are spelled: each by two digits in hexadecimal, and no bytes by `-`.
abbrev pub bytes_word : List ℕ → List ℕ
bytes_word [] = codes "-"
bytes_word (b ∷ bytes) = encode_lower (b ∷ bytes)

-- The words of the first line of a reply.
abbrev pub reply_words : Reply → List (List ℕ)
reply_words Refused = codes "refused" ∷ []
reply_words Full = codes "full" ∷ []
reply_words Done = codes "ok" ∷ []
reply_words Nothing = codes "nothing" ∷ []
reply_words Absent = codes "none" ∷ []
reply_words (Queued c n) = codes "queued" ∷ decimal c ∷ decimal n ∷ []
reply_words (Frame c sequence what len backlog) = codes "frame" ∷ decimal c ∷ decimal sequence ∷ sent_word what ∷ decimal len ∷ decimal backlog ∷ []
reply_words (Announced c n) = codes "announce" ∷ decimal c ∷ decimal n ∷ []
reply_words (Accepted c sequence) = codes "accepted" ∷ decimal c ∷ decimal sequence ∷ []
reply_words (Backlog c n) = codes "backlog" ∷ decimal c ∷ decimal n ∷ []
reply_words (Credit c n) = codes "credit" ∷ decimal c ∷ decimal n ∷ []
reply_words (Granted c n) = codes "granted" ∷ decimal c ∷ decimal n ∷ []
reply_words (Resumed c) = codes "resumed" ∷ decimal c ∷ []
reply_words (Empty c) = codes "empty" ∷ decimal c ∷ []
reply_words (Held c) = codes "held" ∷ decimal c ∷ []
reply_words (Barrier c k kind) = codes "barrier" ∷ decimal c ∷ decimal k ∷ kind_word kind ∷ []
reply_words (SavedOut c k bytes) = codes "saved_out" ∷ decimal c ∷ decimal k ∷ bytes_word bytes.items ∷ []
reply_words (End c) = codes "end" ∷ decimal c ∷ []
reply_words (Data c len records) = codes "data" ∷ decimal c ∷ decimal len ∷ decimal (length records.items) ∷ []
reply_words (NotYet c k) = codes "not yet" ∷ decimal c ∷ decimal k ∷ []
reply_words (SavedIn c k bytes) = codes "saved_in" ∷ decimal c ∷ decimal k ∷ bytes_word bytes.items ∷ []
reply_words (Pool free lent) = codes "pool" ∷ decimal free ∷ decimal lent ∷ []

-- The line of a record that became whole on a channel.
abbrev pub record_line : ℕ → List ℕ → List ℕ
record_line c text = line_of (codes "record" ∷ decimal c ∷ text ∷ [])

-- The lines of a reply's records; only data has any.
abbrev pub record_lines : Reply → List (List ℕ)
record_lines (Data c len records) = map (λ (text : Items ℕ). record_line c text.items) records.items
record_lines reply = []

-- The lines of a reply.
abbrev pub reply_lines : Reply → List (List ℕ)
reply_lines reply = line_of (reply_words reply) ∷ record_lines reply

-- The lines as they are printed: behind each stands a newline, byte 10.
abbrev pub printed : List (List ℕ) → List ℕ
printed lines = flat_map (λ line. line ++ 10 ∷ []) lines

-- Replies as they are printed, in order.
abbrev pub replies_text : List Reply → List ℕ
replies_text replies = flat_map (λ reply. printed (reply_lines reply)) replies

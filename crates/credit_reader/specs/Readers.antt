-- A reader: what the sending end of a connection knows of one channel, and when it can send. As in the
-- credit-based flow control of Flink's network stack, a data buffer costs one credit and an event none,
-- and each response tells the backlog that is left. When a backlog is announced without a buffer is this
-- project's own rule.
use Rattle.std.specs.Prelude.{◌≡◌, ℕ, ◌+◌, ◌-◌, ◌%◌, ◌^◌, ◌≤◌, Bool, true, false, not, ◌&&◌, ◌==◌, nat_lt}
use Rattle.flow_defs.specs.declared.task.ChannelId.{ChannelId}
use Rattle.flow_defs.specs.declared.task.Head.{Head}
use Rattle.flow_defs.specs.declared.task.Head.TheVariants.{Nothing, Buffer, Event}
use Rattle.credit_reader.specs.declared.reader.Reader.{Reader}
use Rattle.credit_reader.specs.declared.reader.SentKind.{SentKind}
use Rattle.credit_reader.specs.declared.reader.SentKind.TheVariants as sent
use Rattle.flow_defs.specs.Limits.{credit_max}

-- A reader whose channel was not requested yet.
abbrev pub fresh : ChannelId → Reader
fresh c = record { channel = c; requested = false; blocked = false; credit = 0; head = Nothing; backlog = 0; told = 0; sequence = 0 }

-- Whether what stands first may go with so much credit.
abbrev pub may_go : Head → ℕ → Bool
may_go Nothing credit = false
may_go Buffer credit = nat_lt 0 credit
may_go Event credit = true

-- A reader can send where its channel was requested and is not blocked, and an event stands first, or a
-- data buffer stands first and there is credit.
abbrev pub can_send : Reader → Bool
can_send r = r.requested && not r.blocked && may_go r.head r.credit

-- An announcement of the backlog is due where the channel was requested and has no credit, there is a
-- backlog, and the backlog told last is 0.
abbrev pub is_due : Reader → Bool
is_due r = r.requested && r.credit == 0 && nat_lt 0 r.backlog && r.told == 0

-- The credit that an item costs.
abbrev pub cost : SentKind → ℕ
cost sent.Buffer = 1
cost sent.Inline = 0
cost sent.Front = 0
cost sent.End = 0

-- Whether an item blocks its channel until consumption is resumed.
abbrev pub blocks : SentKind → Bool
blocks sent.Buffer = false
blocks sent.Inline = true
blocks sent.Front = false
blocks sent.End = false

-- What happens to a reader: its channel is requested with a credit, gets more credit or is resumed, it
-- is told what stands first and the backlog, one item is sent with what then stands first and the
-- backlog that is left, or its backlog is announced.
pub data Happening : Type 0 where
  Asked : ℕ → Happening
  Granted : ℕ → Happening
  Resumed : Happening
  Ready : Head → ℕ → Happening
  Sent : SentKind → Head → ℕ → Happening
  Announced : Happening

-- The reader after it.
abbrev pub reader_next : Reader → Happening → Reader
reader_next r (Asked credit) = record r { requested = true; credit = credit }
reader_next r (Granted n) = record r { credit = r.credit + n }
reader_next r Resumed = record r { blocked = false }
reader_next r (Ready head backlog) = record r { head = head; backlog = backlog }
reader_next r (Sent what head backlog) =
    record r { blocked = blocks what; credit = r.credit - cost what; head = head; backlog = backlog; told = backlog; sequence = (r.sequence + 1) % 2 ^ 32 }
reader_next r Announced = record r { told = r.backlog }

-- What may happen to a reader: it is requested once, gets credit only after that, and sends data only
-- where it has credit.
-- What is sent need not be what stood first, since a front barrier may come between.
abbrev pub May : Reader → Happening → Type 0
May r (Asked n) = r.requested ≡ false
May r (Granted n) = r.requested ≡ true
May r (Sent what head backlog) = cost what ≤ r.credit
May r h = Unit {0}

-- The credit and the backlog are numbers that a frame can carry.
pub record KeepsRanges (r : Reader) : Type 0 where
  pub credit_fits : r.credit ≤ credit_max
  pub backlog_fits : r.backlog ≤ credit_max

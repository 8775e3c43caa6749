-- The credit and the numbers of a reader, over a list of happenings.
use Rattle.std.proofs.Common.{◌≡◌, ℕ, ◌+◌, ◌%◌, ◌^◌, ◌<◌, false, List, [], ◌∷◌, refl, sym, ap, ◌∙◌, arith}
use Rattle.std.specs.Prelude.{sum_by}
use Rattle.std.proofs.lemmas.Bool.{false≢true}
use Rattle.std.proofs.lemmas.List.Sums.{sum_by-cons}
use Rattle.flow_defs.specs.declared.task.ChannelId.{ChannelId}
use Rattle.credit_reader.specs.declared.reader.Reader.{Reader}
use Rattle.credit_reader.specs.Readers.{fresh, Happening, Asked, Granted, Resumed, Ready, Sent, Announced, May, reader_next}
use Rattle.credit_reader.specs.Laws.{MayAll, after_all, credit_in, items_in, data_in, AddsUp}

zero_plus : (n : ℕ) → 0 + n ≡ n
zero_plus n = omega arith

-- a channel that was not requested has no credit
abbrev StartsBare : Reader → Type 0
StartsBare r = r.requested ≡ false → r.credit ≡ 0

-- one happening, from a reader that starts bare to one that does, keeps the balance
bare_after : (r : Reader) (h : Happening) → StartsBare r → May r h → StartsBare (reader_next r h)
bare_after r (Asked n) bare may = λ no. absurd (false≢true (sym no))
bare_after r (Granted n) bare may = λ no. absurd (false≢true (sym no ∙ may))
bare_after r Resumed bare may = bare
bare_after r (Ready head backlog) bare may = bare
bare_after r (Sent what head backlog) bare may = λ no. let none : r.credit ≡ 0 = bare no in omega (arith, none)
bare_after r Announced bare may = bare

balance : (r : Reader) (h : Happening) → StartsBare r → May r h → (reader_next r h).credit + data_in h ≡ r.credit + credit_in h
balance r (Asked n) bare may = let none : r.credit ≡ 0 = bare may in omega (arith, none)
balance r (Granted n) bare may = omega arith
balance r Resumed bare may = refl
balance r (Ready head backlog) bare may = refl
balance r (Sent what head backlog) bare may = omega (arith, may)
balance r Announced bare may = refl

counts_on : (r : Reader) (h : Happening) → r.sequence < 2 ^ 32 → ((reader_next r h).sequence ≡ (r.sequence + items_in h) % 2 ^ 32) × ((reader_next r h).sequence < 2 ^ 32)
counts_on r (Asked n) small = (omega arith, small)
counts_on r (Granted n) small = (omega arith, small)
counts_on r Resumed small = (omega arith, small)
counts_on r (Ready head backlog) small = (omega arith, small)
counts_on r (Sent what head backlog) small = (refl, omega arith)
counts_on r Announced small = (omega arith, small)

credit_adds_up : (r : Reader) (hs : List Happening) → StartsBare r → MayAll r hs → (after_all r hs).credit + sum_by data_in hs ≡ r.credit + sum_by credit_in hs
credit_adds_up r [] bare may = refl
credit_adds_up r (h ∷ hs) bare may =
    let rest = credit_adds_up (reader_next r h) hs (bare_after r h bare may.0) may.1 in
    omega (arith, rest, balance r h bare may.0, sum_by-cons data_in h hs, sum_by-cons credit_in h hs)

numbers_count : (r : Reader) (hs : List Happening) → r.sequence < 2 ^ 32 → (after_all r hs).sequence ≡ (r.sequence + sum_by items_in hs) % 2 ^ 32
numbers_count r [] small = omega arith
numbers_count r (h ∷ hs) small =
    let one = counts_on r h small in
    let rest = numbers_count (reader_next r h) hs one.1 in
    omega (arith, rest, one.0, sum_by-cons items_in h hs)

pub adds_up : (c : ChannelId) (hs : List Happening) → MayAll (fresh c) hs → AddsUp (after_all (fresh c) hs) hs
adds_up c hs may =
    let adds : (after_all (fresh c) hs).credit + sum_by data_in hs ≡ sum_by credit_in hs = credit_adds_up (fresh c) hs (λ no. refl) may ∙ zero_plus (sum_by credit_in hs) in record {
      credit = adds;
      under_credit = omega (arith, adds);
      numbers = numbers_count (fresh c) hs (omega arith) ∙ ap (λ n. n % 2 ^ 32) (zero_plus (sum_by items_in hs));
    }

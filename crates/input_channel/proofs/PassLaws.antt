-- What the entries of each pass tell.
use Rattle.std.proofs.Common.{◌≡◌, ℕ, ◌+◌, zero-add, Bool, true, false, cond, eqb, eqb-true, eq-eqb, ◌||◌, List, [], ◌∷◌, ◌++◌, option_map, Option, Some, None, refl, sym, ap, ◌∙◌, true≢false}
use Rattle.turn_cell.specs.History.{by}
use Rattle.input_channel.specs.declared.entry.ReceiveEntry.{ReceiveEntry}
use Rattle.input_channel.specs.declared.entry.ReceiveEntry.TheVariants.{Push, Poll, Returned, Added, Backlog, Credit, Shut, Ask, Resume, Save, Saved}
use Rattle.input_channel.specs.Inboxes.{Inbox, inbox, empty_inbox, received_one, received_from, pushed, has_save}
use Rattle.turn_cell.specs.History.{entries_of}
use Rattle.turn_cell.proofs.Histories.{entries_of-append}
use Rattle.turn_cell.proofs.Lists.{by-cons, first_apart}
use Rattle.input_channel.specs.Legal.{may_receive, ReceivedByPasses, gives_kind, returns_kind, is_ask, credit_of, credit_told, open_from, open_save}
use Rattle.std.specs.Prelude.{count_by}
use Rattle.input_channel.proofs.CountLemmas.{count-cons}
use Rattle.input_channel.specs.Theorems.{ReaderTellsPushed, GateTellsBuffers, GivenStays, WriterTellsCredit, GateTellsSaves}
use Rattle.std.proofs.lemmas.List.Sums.{sum_by-cons}
use Rattle.input_channel.specs.States.{OpenSave, ChannelState, ChannelStandsFor}
use Rattle.input_channel.proofs.InboxLaws.{received_from-append}
use Rattle.input_channel.proofs.SavingLaws.{open_from-append}
use Rattle.input_channel.proofs.StateLaws.{passes_are_kept, open_save_is_told}

-- an entry that is no push adds nothing, whoever made it
skips : (b : Bool) (e : ReceiveEntry) (es mine : List ReceiveEntry) → pushed (e ∷ []) ≡ [] → ((xs : List ReceiveEntry) → pushed (e ∷ xs) ≡ pushed xs) → pushed es ≡ pushed mine →
    pushed (e ∷ es) ≡ pushed (cond b (e ∷ mine) mine)
skips true e es mine none same rest = same es ∙ rest ∙ sym (same mine)
skips false e es mine none same rest = same es ∙ rest

pushed_one : (n : ℕ) (e : ReceiveEntry) (es mine : List ReceiveEntry) → may_receive n e ≡ true → pushed es ≡ pushed mine → pushed (e ∷ es) ≡ pushed (cond (eqb 1 n) (e ∷ mine) mine)
pushed_one n (Push p backlog) es mine may rest =
    ap (λ ps. p ∷ ps) rest ∙ sym (ap (λ b. pushed (cond b (Push p backlog ∷ mine) mine)) (eq-eqb 1 n (sym (eqb-true n 1 may))))
pushed_one n (Poll hold gave) es mine may rest = skips (eqb 1 n) (Poll hold gave) es mine refl (λ xs. refl) rest
pushed_one n (Returned exclusive) es mine may rest = skips (eqb 1 n) (Returned exclusive) es mine refl (λ xs. refl) rest
pushed_one n Added es mine may rest = skips (eqb 1 n) Added es mine refl (λ xs. refl) rest
pushed_one n (Backlog k) es mine may rest = skips (eqb 1 n) (Backlog k) es mine refl (λ xs. refl) rest
pushed_one n (Credit k) es mine may rest = skips (eqb 1 n) (Credit k) es mine refl (λ xs. refl) rest
pushed_one n Shut es mine may rest = skips (eqb 1 n) Shut es mine refl (λ xs. refl) rest
pushed_one n Ask es mine may rest = skips (eqb 1 n) Ask es mine refl (λ xs. refl) rest
pushed_one n Resume es mine may rest = skips (eqb 1 n) Resume es mine refl (λ xs. refl) rest
pushed_one n (Save k kept) es mine may rest = skips (eqb 1 n) (Save k kept) es mine refl (λ xs. refl) rest
pushed_one n (Saved k) es mine may rest = skips (eqb 1 n) (Saved k) es mine refl (λ xs. refl) rest

pub reader_tells_pushed : ReaderTellsPushed
reader_tells_pushed [] passes = refl
reader_tells_pushed (pair ∷ pairs) passes =
    pushed_one pair.0 pair.1 (entries_of pairs) (by 1 pairs) passes.0 (reader_tells_pushed pairs passes.1)
    ∙ ap pushed (sym (by-cons 1 pair pairs))

-- ---- which buffers were given and came back

-- a count of entries that pass 0 alone makes
module _ (p : ReceiveEntry → Bool) (own : (n : ℕ) (e : ReceiveEntry) → may_receive n e ≡ true → p e ≡ true → n ≡ 0) where
  counted_one : (n : ℕ) (e : ReceiveEntry) (es mine : List ReceiveEntry) → may_receive n e ≡ true → count_by p es ≡ count_by p mine → count_by p (e ∷ es) ≡ count_by p (cond (eqb 0 n) (e ∷ mine) mine)
  counted_one n e es mine may rest =
      elim (p e) as (λ b. p e ≡ b → count_by p (e ∷ es) ≡ count_by p (cond (eqb 0 n) (e ∷ mine) mine)) [
        | true ↦ λ is. count-cons p e es ∙ ap (λ k. cond (p e) 1 0 + k) rest ∙ sym (count-cons p e mine)
            ∙ sym (ap (λ b. count_by p (cond b (e ∷ mine) mine)) (eq-eqb 0 n (sym (own n e may is))))
        | false ↦ λ is. skip is ∙ elim (eqb 0 n) as (λ b. count_by p mine ≡ count_by p (cond b (e ∷ mine) mine)) [ true ↦ sym (count-cons p e mine ∙ ap (λ b. cond b 1 0 + count_by p mine) is ∙ zero-add (count_by p mine)) | false ↦ refl ]
      ] refl
    where
      skip : p e ≡ false → count_by p (e ∷ es) ≡ count_by p mine
      skip is = count-cons p e es ∙ ap (λ b. cond b 1 0 + count_by p es) is ∙ zero-add (count_by p es) ∙ rest

  pub counted : (pairs : List (ℕ × ReceiveEntry)) → ReceivedByPasses pairs → count_by p (entries_of pairs) ≡ count_by p (by 0 pairs)
  counted [] passes = refl
  counted (pair ∷ pairs) passes =
      counted_one pair.0 pair.1 (entries_of pairs) (by 0 pairs) passes.0 (counted pairs passes.1) ∙ ap (count_by p) (sym (by-cons 0 pair pairs))

polls_own : (x : Bool) (n : ℕ) (e : ReceiveEntry) → may_receive n e ≡ true → gives_kind x e ≡ true → n ≡ 0
polls_own x n (Poll hold gave) may is = eqb-true n 0 may
polls_own x n (Push p backlog) may is = absurd (true≢false (sym is))
polls_own x n (Returned exclusive) may is = absurd (true≢false (sym is))
polls_own x n Added may is = absurd (true≢false (sym is))
polls_own x n (Backlog k) may is = absurd (true≢false (sym is))
polls_own x n (Credit k) may is = absurd (true≢false (sym is))
polls_own x n Shut may is = absurd (true≢false (sym is))
polls_own x n Ask may is = absurd (true≢false (sym is))
polls_own x n Resume may is = absurd (true≢false (sym is))
polls_own x n (Save k kept) may is = absurd (true≢false (sym is))
polls_own x n (Saved k) may is = absurd (true≢false (sym is))

returns_own : (x : Bool) (n : ℕ) (e : ReceiveEntry) → may_receive n e ≡ true → returns_kind x e ≡ true → n ≡ 0
returns_own true n (Returned exclusive) may is = eqb-true n 0 may
returns_own false n (Returned exclusive) may is = eqb-true n 0 may
returns_own true n (Push p backlog) may is = absurd (true≢false (sym is))
returns_own false n (Push p backlog) may is = absurd (true≢false (sym is))
returns_own true n (Poll hold gave) may is = absurd (true≢false (sym is))
returns_own false n (Poll hold gave) may is = absurd (true≢false (sym is))
returns_own true n Added may is = absurd (true≢false (sym is))
returns_own false n Added may is = absurd (true≢false (sym is))
returns_own true n (Backlog k) may is = absurd (true≢false (sym is))
returns_own false n (Backlog k) may is = absurd (true≢false (sym is))
returns_own true n (Credit k) may is = absurd (true≢false (sym is))
returns_own false n (Credit k) may is = absurd (true≢false (sym is))
returns_own true n Shut may is = absurd (true≢false (sym is))
returns_own false n Shut may is = absurd (true≢false (sym is))
returns_own true n Ask may is = absurd (true≢false (sym is))
returns_own false n Ask may is = absurd (true≢false (sym is))
returns_own true n Resume may is = absurd (true≢false (sym is))
returns_own true n (Save k kept) may is = absurd (true≢false (sym is))
returns_own true n (Saved k) may is = absurd (true≢false (sym is))
returns_own false n Resume may is = absurd (true≢false (sym is))
returns_own false n (Save k kept) may is = absurd (true≢false (sym is))
returns_own false n (Saved k) may is = absurd (true≢false (sym is))

asks_own : (n : ℕ) (e : ReceiveEntry) → may_receive n e ≡ true → is_ask e ≡ true → n ≡ 0
asks_own n Ask may is = eqb-true n 0 may
asks_own n (Push p backlog) may is = absurd (true≢false (sym is))
asks_own n (Poll hold gave) may is = absurd (true≢false (sym is))
asks_own n (Returned exclusive) may is = absurd (true≢false (sym is))
asks_own n Added may is = absurd (true≢false (sym is))
asks_own n (Backlog k) may is = absurd (true≢false (sym is))
asks_own n (Credit k) may is = absurd (true≢false (sym is))
asks_own n Shut may is = absurd (true≢false (sym is))
asks_own n Resume may is = absurd (true≢false (sym is))
asks_own n (Save k kept) may is = absurd (true≢false (sym is))
asks_own n (Saved k) may is = absurd (true≢false (sym is))

pub gate_tells_buffers : GateTellsBuffers
gate_tells_buffers pairs passes = record {
  polled = λ x. counted (gives_kind x) (polls_own x) pairs passes;
  returned = λ x. counted (returns_kind x) (returns_own x) pairs passes;
  asked = counted is_ask asks_own pairs passes;
}

-- ---- which credit was told

no_credit : (b : Bool) (e : ReceiveEntry) (es mine : List ReceiveEntry) → credit_of e ≡ 0 → credit_told es ≡ credit_told mine → credit_told (e ∷ es) ≡ credit_told (cond b (e ∷ mine) mine)
no_credit b e es mine none rest =
    sum_by-cons credit_of e es ∙ ap (λ k. k + credit_told es) none ∙ zero-add (credit_told es) ∙ rest
    ∙ elim b as (λ x. credit_told mine ≡ credit_told (cond x (e ∷ mine) mine)) [ true ↦ sym (sum_by-cons credit_of e mine ∙ ap (λ k. k + credit_told mine) none ∙ zero-add (credit_told mine)) | false ↦ refl ]

credit_one : (n : ℕ) (e : ReceiveEntry) (es mine : List ReceiveEntry) → may_receive n e ≡ true → credit_told es ≡ credit_told mine → credit_told (e ∷ es) ≡ credit_told (cond (eqb 2 n) (e ∷ mine) mine)
credit_one n (Credit k) es mine may rest =
    sum_by-cons credit_of (Credit k) es ∙ ap (λ m. k + m) rest ∙ sym (sum_by-cons credit_of (Credit k) mine)
    ∙ sym (ap (λ b. credit_told (cond b (Credit k ∷ mine) mine)) (eq-eqb 2 n (sym (eqb-true n 2 may))))
credit_one n (Push p backlog) es mine may rest = no_credit (eqb 2 n) (Push p backlog) es mine refl rest
credit_one n (Poll hold gave) es mine may rest = no_credit (eqb 2 n) (Poll hold gave) es mine refl rest
credit_one n (Returned exclusive) es mine may rest = no_credit (eqb 2 n) (Returned exclusive) es mine refl rest
credit_one n Added es mine may rest = no_credit (eqb 2 n) Added es mine refl rest
credit_one n (Backlog k) es mine may rest = no_credit (eqb 2 n) (Backlog k) es mine refl rest
credit_one n Shut es mine may rest = no_credit (eqb 2 n) Shut es mine refl rest
credit_one n Ask es mine may rest = no_credit (eqb 2 n) Ask es mine refl rest
credit_one n Resume es mine may rest = no_credit (eqb 2 n) Resume es mine refl rest
credit_one n (Save k kept) es mine may rest = no_credit (eqb 2 n) (Save k kept) es mine refl rest
credit_one n (Saved k) es mine may rest = no_credit (eqb 2 n) (Saved k) es mine refl rest

pub writer_tells_credit : WriterTellsCredit
writer_tells_credit [] passes = refl
writer_tells_credit (pair ∷ pairs) passes =
    credit_one pair.0 pair.1 (entries_of pairs) (by 2 pairs) passes.0 (writer_tells_credit pairs passes.1) ∙ ap credit_told (sym (by-cons 2 pair pairs))

-- ---- what was given

no_poll : (n : ℕ) (i : Inbox) (e : ReceiveEntry) → may_receive n e ≡ true → eqb 0 n ≡ false → (received_one i e).given ≡ i.given
no_poll n i (Poll hold gave) may apart = absurd (true≢false (sym (eq-eqb 0 n (sym (eqb-true n 0 may))) ∙ apart))
no_poll n i (Push p backlog) may apart = refl
no_poll n i (Returned exclusive) may apart = refl
no_poll n i Added may apart = refl
no_poll n i (Backlog k) may apart = refl
no_poll n i (Credit k) may apart = refl
no_poll n i Shut may apart = refl
no_poll n i Ask may apart = refl
no_poll n i Resume may apart = refl
no_poll n i (Save k kept) may apart = refl
no_poll n i (Saved k) may apart = refl

given_from : (i : Inbox) (more : List (ℕ × ReceiveEntry)) → ReceivedByPasses more → by 0 more ≡ [] → (received_from i (entries_of more)).given ≡ i.given
given_from i [] passes none = refl
given_from i (pair ∷ more) passes none =
    let f = first_apart 0 pair more none in
    given_from (received_one i pair.1) more passes.1 f.1 ∙ no_poll pair.0 i pair.1 passes.0 f.0

pub given_stays : GivenStays
given_stays pairs more passes none =
    ap (λ es. (inbox es).given) (entries_of-append pairs more) ∙ ap (λ (i : Inbox). i.given) (received_from-append empty_inbox (entries_of pairs) (entries_of more))
    ∙ given_from (inbox (entries_of pairs)) more passes none

-- ---- which saves were opened and closed

-- an entry that is no save changes nothing, whoever made it
same_saves : {A : Type 0} (f : List ReceiveEntry → A) (b : Bool) (e : ReceiveEntry) (es mine : List ReceiveEntry) → ((xs : List ReceiveEntry) → f (e ∷ xs) ≡ f xs) → f es ≡ f mine → f (e ∷ es) ≡ f (cond b (e ∷ mine) mine)
same_saves f true e es mine same rest = same es ∙ rest ∙ sym (same mine)
same_saves f false e es mine same rest = same es ∙ rest

-- one that is a save is of pass 0
own_save : {A : Type 0} (f : List ReceiveEntry → A) (n : ℕ) (e : ReceiveEntry) (mine : List ReceiveEntry) → eqb n 0 ≡ true → f (e ∷ mine) ≡ f (cond (eqb 0 n) (e ∷ mine) mine)
own_save f n e mine may = sym (ap (λ b. f (cond b (e ∷ mine) mine)) (eq-eqb 0 n (sym (eqb-true n 0 may))))

save_one : (k n : ℕ) (e : ReceiveEntry) (es mine : List ReceiveEntry) → may_receive n e ≡ true → has_save k es ≡ has_save k mine → has_save k (e ∷ es) ≡ has_save k (cond (eqb 0 n) (e ∷ mine) mine)
save_one k n (Save j kept) es mine may rest = ap (λ b. eqb j k || b) rest ∙ own_save (has_save k) n (Save j kept) mine may
save_one k n (Push p backlog) es mine may rest = same_saves (has_save k) (eqb 0 n) (Push p backlog) es mine (λ xs. refl) rest
save_one k n (Poll hold gave) es mine may rest = same_saves (has_save k) (eqb 0 n) (Poll hold gave) es mine (λ xs. refl) rest
save_one k n (Returned exclusive) es mine may rest = same_saves (has_save k) (eqb 0 n) (Returned exclusive) es mine (λ xs. refl) rest
save_one k n Added es mine may rest = same_saves (has_save k) (eqb 0 n) Added es mine (λ xs. refl) rest
save_one k n (Backlog m) es mine may rest = same_saves (has_save k) (eqb 0 n) (Backlog m) es mine (λ xs. refl) rest
save_one k n (Credit m) es mine may rest = same_saves (has_save k) (eqb 0 n) (Credit m) es mine (λ xs. refl) rest
save_one k n Shut es mine may rest = same_saves (has_save k) (eqb 0 n) Shut es mine (λ xs. refl) rest
save_one k n Ask es mine may rest = same_saves (has_save k) (eqb 0 n) Ask es mine (λ xs. refl) rest
save_one k n Resume es mine may rest = same_saves (has_save k) (eqb 0 n) Resume es mine (λ xs. refl) rest
save_one k n (Saved j) es mine may rest = same_saves (has_save k) (eqb 0 n) (Saved j) es mine (λ xs. refl) rest

saves_told : (k : ℕ) (pairs : List (ℕ × ReceiveEntry)) → ReceivedByPasses pairs → has_save k (entries_of pairs) ≡ has_save k (by 0 pairs)
saves_told k [] passes = refl
saves_told k (pair ∷ pairs) passes =
    save_one k pair.0 pair.1 (entries_of pairs) (by 0 pairs) passes.0 (saves_told k pairs passes.1) ∙ ap (has_save k) (sym (by-cons 0 pair pairs))

open_one : (now : Option ℕ) (n : ℕ) (e : ReceiveEntry) (es mine : List ReceiveEntry) → may_receive n e ≡ true → ((k : Option ℕ) → open_from k es ≡ open_from k mine) → open_from now (e ∷ es) ≡ open_from now (cond (eqb 0 n) (e ∷ mine) mine)
open_one now n (Save k kept) es mine may rest = rest (Some k) ∙ own_save (open_from now) n (Save k kept) mine may
open_one now n (Saved k) es mine may rest = rest None ∙ own_save (open_from now) n (Saved k) mine may
open_one now n (Push p backlog) es mine may rest = same_saves (open_from now) (eqb 0 n) (Push p backlog) es mine (λ xs. refl) (rest now)
open_one now n (Poll hold gave) es mine may rest = same_saves (open_from now) (eqb 0 n) (Poll hold gave) es mine (λ xs. refl) (rest now)
open_one now n (Returned exclusive) es mine may rest = same_saves (open_from now) (eqb 0 n) (Returned exclusive) es mine (λ xs. refl) (rest now)
open_one now n Added es mine may rest = same_saves (open_from now) (eqb 0 n) Added es mine (λ xs. refl) (rest now)
open_one now n (Backlog m) es mine may rest = same_saves (open_from now) (eqb 0 n) (Backlog m) es mine (λ xs. refl) (rest now)
open_one now n (Credit m) es mine may rest = same_saves (open_from now) (eqb 0 n) (Credit m) es mine (λ xs. refl) (rest now)
open_one now n Shut es mine may rest = same_saves (open_from now) (eqb 0 n) Shut es mine (λ xs. refl) (rest now)
open_one now n Ask es mine may rest = same_saves (open_from now) (eqb 0 n) Ask es mine (λ xs. refl) (rest now)
open_one now n Resume es mine may rest = same_saves (open_from now) (eqb 0 n) Resume es mine (λ xs. refl) (rest now)

open_told : (pairs : List (ℕ × ReceiveEntry)) → ReceivedByPasses pairs → (now : Option ℕ) → open_from now (entries_of pairs) ≡ open_from now (by 0 pairs)
open_told [] passes now = refl
open_told (pair ∷ pairs) passes now =
    open_one now pair.0 pair.1 (entries_of pairs) (by 0 pairs) passes.0 (open_told pairs passes.1) ∙ ap (open_from now) (sym (by-cons 0 pair pairs))

pub gate_tells_saves : GateTellsSaves
gate_tells_saves pairs passes = record { saved = λ k. saves_told k pairs passes; now = open_told pairs passes None }

-- ---- no save is open

-- where none is by the gate's entries
pub none_saving : (c : ChannelState) (pairs : List (ℕ × ReceiveEntry)) → ChannelStandsFor c pairs → open_save (by 0 pairs) ≡ None → c.save ≡ None
none_saving c pairs stands none =
    let told : open_save (entries_of pairs) ≡ None = (gate_tells_saves pairs (passes_are_kept c pairs stands)).now ∙ none in
    elim c.save as (λ save. open_save (entries_of pairs) ≡ option_map (λ (s : OpenSave). s.number) save → save ≡ None) [
      | None ↦ λ e. refl
      | Some save ↦ λ e. absurd (cc)
    ] (open_save_is_told c pairs stands)

-- behind an entry that opens none
pub stays_closed : (es : List ReceiveEntry) (e : ReceiveEntry) → open_save es ≡ None → open_from None (e ∷ []) ≡ None → open_save (es ++ e ∷ []) ≡ None
stays_closed es e none quiet = open_from-append None es (e ∷ []) ∙ ap (λ k. open_from k (e ∷ [])) none ∙ quiet

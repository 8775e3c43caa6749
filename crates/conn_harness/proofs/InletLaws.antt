-- The buffers of the gate's own entries: how many of each kind polls gave, and how many came back.
use Rattle.std.proofs.Common.{◌≡◌, ℕ, ◌+◌, ◌<◌, Bool, true, false, cond, List, [], ◌∷◌, ◌++◌, refl, sym, ap, subst, ◌∙◌, arith}
use Rattle.std.specs.Prelude.{if◌then◌else◌}
use Rattle.turn_cell.specs.History.{entries_of, by}
use Rattle.input_channel.specs.declared.entry.Gave.{Gave}
use Rattle.input_channel.specs.declared.entry.Gave.TheVariants.{NoBuffer, Exclusive, Floating}
use Rattle.input_channel.specs.declared.entry.ReceiveEntry.{ReceiveEntry}
use Rattle.input_channel.specs.declared.entry.ReceiveEntry.TheVariants.{Poll, Returned, Added}
use Rattle.input_channel.specs.Legal.{ReceivedByPasses, gives_kind, returns_kind, polled_with, returned}
use Rattle.input_channel.specs.Theorems.{GateTellsBuffers}
use Rattle.input_channel.proofs.CountLemmas.{count-snoc}
use Rattle.conn_harness.specs.Inlets.{IsEven}

-- The counts with one more entry, where it is given or comes back, or not.
polled_more : (kind : Bool) (es : List ReceiveEntry) (e : ReceiveEntry) (b : Bool) → gives_kind kind e ≡ b → polled_with kind (es ++ e ∷ []) ≡ polled_with kind es + cond b 1 0
polled_more kind es e b is = count-snoc (gives_kind kind) es e ∙ ap (λ x. polled_with kind es + cond x 1 0) is

returned_more : (kind : Bool) (es : List ReceiveEntry) (e : ReceiveEntry) (b : Bool) → returns_kind kind e ≡ b → returned kind (es ++ e ∷ []) ≡ returned kind es + cond b 1 0
returned_more kind es e b is = count-snoc (returns_kind kind) es e ∙ ap (λ x. returned kind es + cond x 1 0) is

-- The buffer that is given, of one kind or the other.
abbrev pub gave_for : Bool → Gave
gave_for exclusive = if exclusive then Exclusive else Floating

poll_returns_none : (kind : Bool) (gave : Gave) → returns_kind kind (Poll false gave) ≡ false
poll_returns_none true gave = refl
poll_returns_none false gave = refl

none_gives_none : (kind : Bool) → gives_kind kind (Poll false NoBuffer) ≡ false
none_gives_none true = refl
none_gives_none false = refl

is_its_kind : (kind : Bool) → gives_kind kind (Poll false (gave_for kind)) ≡ true
is_its_kind true = refl
is_its_kind false = refl

added_gives_none : (kind : Bool) → gives_kind kind Added ≡ false
added_gives_none true = refl
added_gives_none false = refl

added_returns_none : (kind : Bool) → returns_kind kind Added ≡ false
added_returns_none true = refl
added_returns_none false = refl

returned_gives_none : (kind exclusive : Bool) → gives_kind kind (Returned exclusive) ≡ false
returned_gives_none true exclusive = refl
returned_gives_none false exclusive = refl

comes_back : (kind exclusive : Bool) → gives_kind kind (Poll false (gave_for exclusive)) ≡ returns_kind kind (Returned exclusive)
comes_back true true = refl
comes_back true false = refl
comes_back false true = refl
comes_back false false = refl

pub even_same : (es now : List ReceiveEntry) → now ≡ es → IsEven es → IsEven now
even_same es now is even = subst (λ x. IsEven x) (sym is) even

-- Neither a poll that gave no buffer nor a buffer that was added changes them.
pub even_none : (es now : List ReceiveEntry) → now ≡ es ++ Poll false NoBuffer ∷ [] → IsEven es → IsEven now
even_none es now is even kind =
    ap (polled_with kind) is ∙ polled_more kind es (Poll false NoBuffer) false (none_gives_none kind) ∙ ap (λ n. n + 0) (even kind)
    ∙ sym (returned_more kind es (Poll false NoBuffer) false (poll_returns_none kind NoBuffer)) ∙ sym (ap (returned kind) is)

pub even_added : (es now : List ReceiveEntry) → now ≡ es ++ Added ∷ [] → IsEven es → IsEven now
even_added es now is even kind =
    ap (polled_with kind) is ∙ polled_more kind es Added false (added_gives_none kind) ∙ ap (λ n. n + 0) (even kind)
    ∙ sym (returned_more kind es Added false (added_returns_none kind)) ∙ sym (ap (returned kind) is)

-- A buffer that was just polled is out.
pub out_now : (exclusive : Bool) (es polled : List ReceiveEntry) → polled ≡ es ++ Poll false (gave_for exclusive) ∷ [] → IsEven es → returned exclusive polled < polled_with exclusive polled
out_now exclusive es polled is even =
    let more = ap (polled_with exclusive) is ∙ polled_more exclusive es (Poll false (gave_for exclusive)) true (is_its_kind exclusive) in
    let same = ap (returned exclusive) is ∙ returned_more exclusive es (Poll false (gave_for exclusive)) false (poll_returns_none exclusive (gave_for exclusive)) in
    let before = even exclusive in
    omega (arith, more, same, before)

-- It comes back, and is out no more.
pub even_back : (exclusive : Bool) (es polled now : List ReceiveEntry) → polled ≡ es ++ Poll false (gave_for exclusive) ∷ [] → now ≡ polled ++ Returned exclusive ∷ [] → IsEven es → IsEven now
even_back exclusive es polled now is came even kind =
    let back = returns_kind kind (Returned exclusive) in
    let gave = ap (polled_with kind) is ∙ polled_more kind es (Poll false (gave_for exclusive)) back (comes_back kind exclusive) in
    let kept = ap (returned kind) is ∙ returned_more kind es (Poll false (gave_for exclusive)) false (poll_returns_none kind (gave_for exclusive)) in
    let more = ap (returned kind) came ∙ returned_more kind polled (Returned exclusive) back refl in
    let same = ap (polled_with kind) came ∙ polled_more kind polled (Returned exclusive) false (returned_gives_none kind exclusive) in
    let before = even kind in
    omega (arith, gave, kept, more, same, before)

-- What is out by the gate's own entries is out by all.
pub out_of_all : (tell : GateTellsBuffers) (pairs : List (ℕ × ReceiveEntry)) (own : List ReceiveEntry) (exclusive : Bool) → ReceivedByPasses pairs → by 0 pairs ≡ own →
    returned exclusive own < polled_with exclusive own → returned exclusive (entries_of pairs) < polled_with exclusive (entries_of pairs)
out_of_all tell pairs own exclusive received is out =
    let told = tell pairs received in
    let more = told.polled exclusive ∙ ap (polled_with exclusive) is in
    let back = told.returned exclusive ∙ ap (returned exclusive) is in
    omega (arith, more, back, out)

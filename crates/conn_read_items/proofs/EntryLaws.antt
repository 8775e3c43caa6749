-- What entries of a pass note and shut.
use Rattle.std.proofs.Common.{◌≡◌, ℕ, Bool, true, false, List, [], ◌∷◌, ◌++◌, cond, map, refl, sym, ap, ◌∙◌, arith, append_assoc, append-nil}
use Rattle.std.proofs.lemmas.List.Elements.{filter-append}
use Rattle.std.proofs.lemmas.List.Sums.{sum_by-cons, sum_by-append}
use Rattle.std.proofs.lemmas.Grind.{flat_map-append}
use Rattle.credit_reader.specs.Senders.{is_same}
use Rattle.flow_defs.specs.declared.task.ChannelId.{ChannelId}
use Rattle.flow_defs.specs.declared.parcel.Parcel.{Parcel}
use Rattle.input_channel.specs.declared.entry.ReceiveEntry.{ReceiveEntry}
use Rattle.input_channel.specs.declared.entry.ReceiveEntry.TheVariants.{Push, Poll, Returned, Added, Backlog, Credit, Shut, Ask, Resume, Save, Saved}
use Rattle.input_channel.specs.Inboxes.{pushed}
use Rattle.net_frames.specs.declared.frame.Frame.TheVariants as frames
use Rattle.conn_parts.specs.Messages.{Message, parcel_with, items_on}
use Rattle.conn_parts.proofs.Appends.{items-append}
use Rattle.conn_read_items.specs.Receiving.{is_note, noted, note_of, notes_on, is_shut, shuts}
use Rattle.conn_read_items.specs.Taking.{NotedMore}

pub pushed-append : (xs ys : List ReceiveEntry) → pushed (xs ++ ys) ≡ pushed xs ++ pushed ys
pushed-append [] ys = refl
pushed-append (Push p backlog ∷ xs) ys = ap (λ l. p ∷ l) (pushed-append xs ys)
pushed-append (Poll hold gave ∷ xs) ys = pushed-append xs ys
pushed-append (Returned exclusive ∷ xs) ys = pushed-append xs ys
pushed-append (Added ∷ xs) ys = pushed-append xs ys
pushed-append (Backlog n ∷ xs) ys = pushed-append xs ys
pushed-append (Credit n ∷ xs) ys = pushed-append xs ys
pushed-append (Shut ∷ xs) ys = pushed-append xs ys
pushed-append (Ask ∷ xs) ys = pushed-append xs ys
pushed-append (Resume ∷ xs) ys = pushed-append xs ys
pushed-append (Save k rest ∷ xs) ys = pushed-append xs ys
pushed-append (Saved k ∷ xs) ys = pushed-append xs ys

pub noted-append : (xs ys : List ReceiveEntry) → noted (xs ++ ys) ≡ noted xs ++ noted ys
noted-append xs ys = filter-append is_note xs ys

pub notes-append : (c : ChannelId) (xs ys : List Message) → notes_on c (xs ++ ys) ≡ notes_on c xs ++ notes_on c ys
notes-append c xs ys = flat_map-append (note_of c) xs ys

-- What is noted tells what was pushed.
pub pushed_noted : (es : List ReceiveEntry) → pushed (noted es) ≡ pushed es
pushed_noted [] = refl
pushed_noted (Push p backlog ∷ es) = ap (λ l. p ∷ l) (pushed_noted es)
pushed_noted (Poll hold gave ∷ es) = pushed_noted es
pushed_noted (Returned exclusive ∷ es) = pushed_noted es
pushed_noted (Added ∷ es) = pushed_noted es
pushed_noted (Backlog n ∷ es) = pushed_noted es
pushed_noted (Credit n ∷ es) = pushed_noted es
pushed_noted (Shut ∷ es) = pushed_noted es
pushed_noted (Ask ∷ es) = pushed_noted es
pushed_noted (Resume ∷ es) = pushed_noted es
pushed_noted (Save k rest ∷ es) = pushed_noted es
pushed_noted (Saved k ∷ es) = pushed_noted es

note_pushed : (c : ChannelId) (m : Message) → pushed (note_of c m) ≡ items_on c (m ∷ [])
note_pushed c (frames.BufferResponse channel sequence backlog what, content) =
    elim (is_same channel c) as (λ b. pushed (cond b (Push (parcel_with what content) backlog ∷ []) []) ≡ map (λ (x : ℕ × Parcel). x.1) (cond b ((sequence, parcel_with what content) ∷ []) [] ++ [])) [
      | true ↦ refl
      | false ↦ refl
    ]
note_pushed c (frames.BacklogAnnouncement channel backlog, content) = elim (is_same channel c) as (λ b. pushed (cond b (Backlog backlog ∷ []) []) ≡ []) [ true ↦ refl | false ↦ refl ]
note_pushed c (frames.ErrorResponse channel code, content) = refl
note_pushed c (frames.PartitionRequest channel credit, content) = refl
note_pushed c (frames.Close, content) = refl
note_pushed c (frames.AddCredit channel credit, content) = refl
note_pushed c (frames.ResumeConsumption channel, content) = refl
note_pushed c (frames.NewBufferSize channel size, content) = refl

pub notes_pushed : (c : ChannelId) (ms : List Message) → pushed (notes_on c ms) ≡ items_on c ms
notes_pushed c [] = refl
notes_pushed c (m ∷ ms) =
    pushed-append (note_of c m) (notes_on c ms) ∙ ap (λ l. l ++ pushed (notes_on c ms)) (note_pushed c m) ∙ ap (λ l. items_on c (m ∷ []) ++ l) (notes_pushed c ms)
    ∙ sym (items-append c (m ∷ []) ms)

-- The items that were noted more were pushed.
pub pushes_of : (before after : List ReceiveEntry) (c : ChannelId) (ms : List Message) → noted after ≡ noted before ++ notes_on c ms → pushed after ≡ pushed before ++ items_on c ms
pushes_of before after c ms is =
    sym (pushed_noted after) ∙ ap pushed is ∙ pushed-append (noted before) (notes_on c ms) ∙ ap (λ l. l ++ pushed (notes_on c ms)) (pushed_noted before)
    ∙ ap (λ l. pushed before ++ l) (notes_pushed c ms)

abbrev one_if : Bool → ℕ
one_if b = cond b 1 0

shuts-more : (es : List ReceiveEntry) (e : ReceiveEntry) → is_shut e ≡ false → shuts (es ++ e ∷ []) ≡ shuts es
shuts-more es e calm =
    let one = sum_by-cons (λ x. one_if (is_shut x)) e [] in
    let none : one_if (is_shut e) ≡ one_if false = ap one_if calm in
    let whole = sum_by-append (λ x. one_if (is_shut x)) es (e ∷ []) in omega (arith, one, none, whole)

-- One entry more that shuts nothing.
pub one_more : (es now : List ReceiveEntry) (e : ReceiveEntry) → is_shut e ≡ false → now ≡ es ++ e ∷ [] → NotedMore es now (noted (e ∷ []))
one_more es now e calm is = record {
  noted = ap noted is ∙ noted-append es (e ∷ []);
  shuts = ap shuts is ∙ shuts-more es e calm;
}

pub no_more : (es now : List ReceiveEntry) → now ≡ es → NotedMore es now []
no_more es now is = record { noted = ap noted is ∙ sym (append-nil (noted es)); shuts = ap shuts is }

pub more_again : (a b c xs ys : List ReceiveEntry) → NotedMore a b xs → NotedMore b c ys → NotedMore a c (xs ++ ys)
more_again a b c xs ys one two = record {
  noted = two.noted ∙ ap (λ l. l ++ ys) one.noted ∙ append_assoc (noted a) xs ys;
  shuts = two.shuts ∙ one.shuts;
}

-- A channel that was shut was given nothing more.
pub shut_notes : (es now : List ReceiveEntry) → now ≡ es ++ Shut ∷ [] → noted now ≡ noted es
shut_notes es now is = ap noted is ∙ noted-append es (Shut ∷ []) ∙ append-nil (noted es)

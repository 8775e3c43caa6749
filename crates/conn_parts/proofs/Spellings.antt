-- Messages that were read are those that were written, since the closing frame is a message too.
use Rattle.std.proofs.Common.{◌≡◌, ℕ, Bool, true, false, List, [], ◌∷◌, ◌++◌, take, drop, refl, sym, ap, ◌∙◌, append_assoc}
use Rattle.std.proofs.lemmas.List.{take-append-drop}
use Rattle.turn_cell.specs.History.{StartsWith}
use Rattle.net_frames.specs.declared.frame.Frame.{Frame}
use Rattle.net_frames.specs.declared.frame.Frame.TheVariants.{Close}
use Rattle.net_frames.specs.Frames.{AreFrames, IsFrame, all_spelled}
use Rattle.net_frames.specs.Theorems.{FrontIsFrames}
use Rattle.conn_parts.specs.Messages.{Message, closing, AreFrom}
use Rattle.conn_parts.specs.Theorems.{ReadIsWritten}
use Rattle.conn_parts.proofs.Appends.{spelled-more, frames-append}

abbrev last : Message
last = (Close, [])

is_last : IsFrame Close []
is_last = record { in_range = refl; fits = tt }

not_both : (b : Bool) → b ≡ true → b ≡ false → ⊥
not_both b t f = cc

module _ (is_from : Frame → Bool) (never : is_from Close ≡ false) where
  not_last : (x : Message) → is_from x.0 ≡ true → x ≡ last → ⊥
  not_last x from_here is = not_both (is_from x.0) from_here (ap (λ (m : Message). is_from m.0) is ∙ never)

  begins : (written read rest : List Message) → AreFrom is_from read → written ++ last ∷ [] ≡ read ++ rest → StartsWith written read
  begins written [] rest are e = (written, refl)
  begins [] (x ∷ read) rest are e = let head : x ≡ last = cc in absurd (not_last x are.0 head)
  begins (y ∷ written) (x ∷ read) rest are e =
      let head : y ≡ x = cc in
      let more : written ++ last ∷ [] ≡ read ++ rest = cc in
      let front = begins written read rest are.1 more in
      (front.0, ap (λ m. m ∷ written) head ∙ ap (λ l. x ∷ l) front.1)

  whole : (written read rest : List Message) → AreFrom is_from written → AreFrom is_from read → written ++ last ∷ [] ≡ (read ++ last ∷ []) ++ rest → read ≡ written
  whole [] [] rest are come e = refl
  whole [] (x ∷ read) rest are come e = let head : x ≡ last = cc in absurd (not_last x come.0 head)
  whole (y ∷ written) [] rest are come e = let head : y ≡ last = cc in absurd (not_last y are.0 head)
  whole (y ∷ written) (x ∷ read) rest are come e =
      let head : x ≡ y = cc in
      let more : written ++ last ∷ [] ≡ (read ++ last ∷ []) ++ rest = cc in
      ap (λ m. m ∷ read) head ∙ ap (λ l. y ∷ l) (whole written read rest are.1 come.1 more)

-- All bytes, from those that came on.
came : (all sent got front left : List ℕ) (n : ℕ) → sent ≡ take n all → (s : StartsWith sent got) → got ≡ front ++ left → all ≡ front ++ (left ++ (s.0 ++ drop n all))
came all sent got front left n is_sent s is_got = sym (
    sym (append_assoc front left (s.0 ++ drop n all)) ∙ ap (λ l. l ++ (s.0 ++ drop n all)) (sym is_got)
    ∙ sym (append_assoc got s.0 (drop n all)) ∙ ap (λ l. l ++ drop n all) (sym s.1 ∙ is_sent) ∙ take-append-drop n all
    )

pub read_is_written : FrontIsFrames → ReadIsWritten
read_is_written apart is_from written read sent got left n never are_written from_written are_read from_read is_sent s is_got =
    let all = all_spelled written ++ closing in
    let bytes = left ++ (s.0 ++ drop n all) in
    let closed : AreFrames (written ++ last ∷ []) = frames-append written (last ∷ []) are_written (is_last, tt) in
    let here : all_spelled (written ++ last ∷ []) ≡ all_spelled read ++ bytes = spelled-more written last ∙ came all sent got (all_spelled read) left n is_sent s is_got in
    let front = apart (written ++ last ∷ []) read bytes closed are_read here in (
      begins is_from never written read front.0 from_read front.1,
      λ ends.
          let more = ends.0 ++ (s.0 ++ drop n all) in
          let behind : bytes ≡ closing ++ more = ap (λ l. l ++ (s.0 ++ drop n all)) ends.1 ∙ append_assoc closing ends.0 (s.0 ++ drop n all) in
          let there : all_spelled (written ++ last ∷ []) ≡ all_spelled (read ++ last ∷ []) ++ more =
          here ∙ ap (λ l. all_spelled read ++ l) behind ∙ sym (append_assoc (all_spelled read) closing more) ∙ ap (λ l. l ++ more) (sym (spelled-more read last)) in
          let again = apart (written ++ last ∷ []) (read ++ last ∷ []) more closed (frames-append read (last ∷ []) are_read (is_last, tt)) there in
          whole is_from never written read again.0 from_written from_read again.1,
    )

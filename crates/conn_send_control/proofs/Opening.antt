-- The partition requests, one after another.
use Rattle.std.proofs.Common.{◌≡◌, ℕ, ◌+◌, ◌<◌, ◌≤◌, List, [], ◌∷◌, ◌++◌, length, get_or, take, drop, sym, ap, subst, ◌∙◌, append-nil}
use Rattle.std.specs.Prelude.{Option, Result, Ok, Err}
use Rattle.std.proofs.lemmas.List.{take_more, map-append, take-append-drop}
use Rattle.flow_defs.specs.declared.task.ChannelId.{ChannelId}
use Rattle.net_frames.specs.declared.frame.Frame.TheVariants.{PartitionRequest}
use Rattle.net_frames.specs.Frames.{spelling, all_spelled}
use Rattle.outside.specs.Links.{Appended}
use Rattle.conn_parts.specs.Messages.{Message, requests_of}
use Rattle.conn_parts.specs.Writing.{WrittenWhole}
use Rattle.conn_parts.proofs.Appends.{spelled-append, spelled-more}
use Rattle.conn_parts.proofs.Telling.{appended_more}
use Rattle.conn_send_control.specs.Going.{LieStill, AreCut}
use Rattle.conn_send_control.proofs.Going.{lie_more, lie_on, cut_on, cut_longer}

abbrev request : ChannelId → Message
request c = (PartitionRequest c 2, [])

requests_more : (cs : List ChannelId) (i : ℕ) (d : ChannelId) → i < length cs → requests_of (take (i + 1) cs) ≡ requests_of (take i cs) ++ request (get_or cs i d) ∷ []
requests_more cs i d within = ap requests_of (take_more cs i d within) ∙ map-append request (take i cs) (get_or cs i d ∷ [])

requests_split : (cs : List ChannelId) (i : ℕ) → all_spelled (requests_of (take i cs)) ++ all_spelled (requests_of (drop i cs)) ≡ all_spelled (requests_of cs)
requests_split cs i =
    sym (spelled-append (requests_of (take i cs)) (requests_of (drop i cs)))
    ∙ ap all_spelled (sym (map-append request (take i cs) (drop i cs)) ∙ ap requests_of (take-append-drop i cs))

-- One more is laid down, once there is room.
pub request_laid : (a b c : Option (List ℕ)) (cs : List ChannelId) (i : ℕ) (d : ChannelId) (laid mid left : List ℕ) → i < length cs →
    LieStill a b (all_spelled (requests_of (take i cs))) laid → LieStill b c laid mid → left ≡ mid ++ spelling (PartitionRequest (get_or cs i d) 2) [] →
    LieStill a c (all_spelled (requests_of (take (i + 1) cs))) left
request_laid a b c cs i d laid mid left within lies room is =
    let more : List ℕ = spelling (PartitionRequest (get_or cs i d) 2) [] in
    subst (λ bytes. LieStill a c bytes left) (sym (ap all_spelled (requests_more cs i d within) ∙ spelled-more (requests_of (take i cs)) (request (get_or cs i d))))
    (lie_on a b c (all_spelled (requests_of (take i cs))) more laid left lies (lie_more b c laid mid more left is room))

-- A write failed between them.
pub requests_cut : (a b c : Option (List ℕ)) (f g h : ℕ) (cs : List ChannelId) (i : ℕ) (laid : List ℕ) → f ≤ g →
    LieStill a b (all_spelled (requests_of (take i cs))) laid → AreCut b c g h laid → AreCut a c f h (all_spelled (requests_of cs))
requests_cut a b c f g h cs i laid le lies cut =
    let rest : List ℕ = all_spelled (requests_of (drop i cs)) in
    subst (AreCut a c f h) (requests_split cs i) (cut_on a b c f g h (all_spelled (requests_of (take i cs))) rest laid le lies (cut_longer b c g h laid rest cut))

-- What lay there was written last.
pub requests_written : {T E : Type 0} (a b c : Option (List ℕ)) (f g h : ℕ) (bytes laid : List ℕ) (result : Result T E) → f ≤ g →
    LieStill a b bytes laid → WrittenWhole b c g h laid result → WrittenWhole a c f h bytes result
requests_written a b c f g h bytes laid (Ok done) le (out, told, whole) written = subst (Appended a c) (sym whole) (appended_more a b c out laid told written)
requests_written a b c f g h bytes laid (Err failed) le lies cut =
    subst (AreCut a c f h) (append-nil bytes) (cut_on a b c f g h bytes [] laid le lies (cut_longer b c g h laid [] cut))

pub request_cut_as : {T E : Type 0} (a c : Option (List ℕ)) (f h : ℕ) (bytes : List ℕ) (failed : E) (result : Result T E) → result ≡ Err failed → AreCut a c f h bytes → WrittenWhole a c f h bytes result
request_cut_as a c f h bytes failed result is cut = subst (WrittenWhole a c f h bytes) (sym is) cut

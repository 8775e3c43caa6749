-- The frame that bytes begin with is told by them, so there is one at most.
use Rattle.std.proofs.Common.{◌≡◌, ℕ, ◌+◌, ◌≤◌, List, [], ◌∷◌, ◌++◌, length, take, drop, Some, inl, inr, arith, refl, sym, ap, ◌∙◌, append_assoc, append-nil, length-append}
use Rattle.std.proofs.lemmas.List.{take_at, drop_at}
use Rattle.std.proofs.lemmas.List.Sums.{sum_by-cons}
use Rattle.net_frames.specs.declared.frame.Frame.{Frame}
use Rattle.net_frames.specs.declared.kind.Kind.{Kind}
use Rattle.net_frames.specs.Frames.{IsFrame, Begins, frame_kind, head_len, frame_len, numbers, numbers_len, spelled, spelling, all_spelled, AreFrames}
use Rattle.net_frames.specs.Reading.{IsHeader, frame_in}
use Rattle.net_frames.proofs.Numbers.{Reads, length-spelled, spelled_reads}
use Rattle.net_frames.proofs.Headers.{is_len, body_len, begun, fit_all, pass}
use Rattle.net_frames.proofs.Bodies.{frame_again}

pub numbers_len_is : (frame : Frame) (content : List ℕ) → numbers_len (numbers frame content) ≡ head_len frame
numbers_len_is frame content = rw (sum_by-cons, sum_by-cons, sum_by-cons, body_len frame content) (omega arith)

pub length-spelling : (frame : Frame) (content : List ℕ) → length (spelling frame content) ≡ frame_len frame content
length-spelling frame content = length-append (spelled (numbers frame content)) content ∙ rw (length-spelled (numbers frame content), numbers_len_is frame content) refl

-- what bytes tell that begin with a frame
pub record IsTold (bytes : List ℕ) (frame : Frame) (content rest : List ℕ) : Type 0 where
  pub within : frame_len frame content ≤ length bytes
  pub read : frame_in (frame_kind frame) (take (frame_len frame content) bytes) ≡ Some frame
  pub content_is : content ≡ drop (head_len frame) (take (frame_len frame content) bytes)
  pub rest_is : rest ≡ drop (frame_len frame content) bytes

pub told : (bytes : List ℕ) (frame : Frame) (content rest : List ℕ) → Begins bytes frame content rest → IsTold bytes frame content rest
told bytes frame content rest begins =
    let text = spelling frame content in
    let len = length-spelling frame content in
    let whole : take (frame_len frame content) bytes ≡ text = ap (take (frame_len frame content)) begins.bytes_are ∙ take_at text rest (frame_len frame content) len in
    let reads : Reads 0 (numbers frame content) text =
    spelled_reads (numbers frame content) 0 [] content text refl refl (fit_all frame content begins.is_frame) in
    record {
      within = rw begins.bytes_are (omega (arith, length-append text rest));
      read = ap (frame_in (frame_kind frame)) whole ∙ frame_again frame content text reads.1.1.1 begins.is_frame.in_range len;
      content_is = sym (ap (drop (head_len frame)) whole ∙ drop_at (spelled (numbers frame content)) content (head_len frame) (length-spelled (numbers frame content) ∙ numbers_len_is frame content));
      rest_is = sym (ap (drop (frame_len frame content)) begins.bytes_are ∙ drop_at text rest (frame_len frame content) len);
    }

-- with their header
pub header_told : (bytes : List ℕ) (frame : Frame) (content rest : List ℕ) → Begins bytes frame content rest → IsHeader bytes (frame_kind frame) (frame_len frame content)
header_told bytes frame content rest begins =
    let same : bytes ++ [] ≡ bytes = append-nil bytes in
    let begins_so : Begins (bytes ++ []) frame content rest = record { is_frame = begins.is_frame; bytes_are = same ∙ begins.bytes_are } in
    let within = (told bytes frame content rest begins).within in
    elim (pass bytes (frame_kind frame) (frame_len frame content) (begun bytes [] frame content rest begins_so)) [
      | inl few ↦ absurd (let short = few.short in omega arith)
      | inr header ↦ header
    ]

pub one_kind : (bytes : List ℕ) (j k : Kind) (m n : ℕ) → IsHeader bytes j m → IsHeader bytes k n → (j ≡ k) × (m ≡ n)
one_kind bytes j k m n first second = (let a : Some j ≡ Some k = sym first.kind_is ∙ second.kind_is in cc, sym first.len_is ∙ second.len_is)

one_frame : (bytes : List ℕ) (f g : Frame) (j k : Kind) (m n : ℕ) → j ≡ k → m ≡ n → frame_in j (take m bytes) ≡ Some f → frame_in k (take n bytes) ≡ Some g → f ≡ g
one_frame bytes f g j k m n same_kind same_len first second =
    let a : Some f ≡ Some g = sym first ∙ ap (λ (i : Kind). frame_in i (take m bytes)) same_kind ∙ ap (λ (l : ℕ). frame_in k (take l bytes)) same_len ∙ second in cc

pub begins_with_one : (bytes : List ℕ) (f g : Frame) (c d rest more : List ℕ) → Begins bytes f c rest → Begins bytes g d more → (f ≡ g) × (c ≡ d) × (rest ≡ more)
begins_with_one bytes f g c d rest more first second =
    let a = told bytes f c rest first in
    let b = told bytes g d more second in
    let same = one_kind bytes (frame_kind f) (frame_kind g) (frame_len f c) (frame_len g d) (header_told bytes f c rest first) (header_told bytes g d more second) in
    let frames : f ≡ g = one_frame bytes f g (frame_kind f) (frame_kind g) (frame_len f c) (frame_len g d) same.0 same.1 a.read b.read in (
      frames,
      a.content_is ∙ ap (λ (h : Frame). drop (head_len h) (take (frame_len f c) bytes)) frames ∙ ap (λ (l : ℕ). drop (head_len g) (take l bytes)) same.1 ∙ sym b.content_is,
      a.rest_is ∙ ap (λ (l : ℕ). drop l bytes) same.1 ∙ sym b.rest_is,
    )

-- ---- lists of frames

-- no frame is spelled by nothing
some_bytes : (frame : Frame) (content rest : List ℕ) → IsFrame frame content → [] ≡ spelling frame content ++ rest → ⊥
some_bytes frame content rest is_frame none =
    let len = (is_len frame content is_frame.in_range).least in
    let l : 0 ≡ length (spelling frame content) + length rest = ap length none ∙ length-append (spelling frame content) rest in
    omega (arith, length-spelling frame content)

-- the rest of the frames, once a front is taken
pub record IsFront (frames front : List (Frame × List ℕ)) (bytes : List ℕ) : Type 0 where
  pub rest : List (Frame × List ℕ)
  pub frames_are : frames ≡ front ++ rest
  pub bytes_are : bytes ≡ all_spelled rest
  pub are_frames : AreFrames rest

pub front_is : (frames front : List (Frame × List ℕ)) (bytes : List ℕ) → AreFrames frames → AreFrames front → all_spelled frames ≡ all_spelled front ++ bytes → IsFront frames front bytes
front_is frames [] bytes are front_are same = record { rest = frames; frames_are = refl; bytes_are = sym same; are_frames = are }
front_is [] (g ∷ gs) bytes are front_are same = absurd (some_bytes g.0 g.1 (all_spelled gs ++ bytes) front_are.0 (same ∙ append_assoc (spelling g.0 g.1) (all_spelled gs) bytes))
front_is (f ∷ fs) (g ∷ gs) bytes are front_are same =
    let text = all_spelled (f ∷ fs) in
    let one = begins_with_one text f.0 g.0 f.1 g.1 (all_spelled fs) (all_spelled gs ++ bytes) (record { is_frame = are.0; bytes_are = refl })
    (record { is_frame = front_are.0; bytes_are = same ∙ append_assoc (spelling g.0 g.1) (all_spelled gs) bytes }) in
    let others = front_is fs gs bytes are.1 front_are.1 one.2 in
    let pair : f ≡ g = ap (λ (x : Frame). (x, f.1)) one.0 ∙ ap (λ (x : List ℕ). (g.0, x)) one.1 in
    record {
      rest = others.rest;
      frames_are = ap (λ (x : Frame × List ℕ). x ∷ fs) pair ∙ ap (λ (xs : List (Frame × List ℕ)). g ∷ xs) others.frames_are;
      bytes_are = others.bytes_are;
      are_frames = others.are_frames;
    }

pub lists_are_apart : (frames others : List (Frame × List ℕ)) → AreFrames frames → AreFrames others → all_spelled frames ≡ all_spelled others → frames ≡ others
lists_are_apart frames others are others_are same =
    let front = front_is frames others [] are others_are (same ∙ sym (append-nil (all_spelled others))) in
    front.frames_are ∙ ap (λ (xs : List (Frame × List ℕ)). others ++ xs) (nothing front.rest front.are_frames front.bytes_are) ∙ append-nil others
  where
    nothing : (frames : List (Frame × List ℕ)) → AreFrames frames → [] ≡ all_spelled frames → frames ≡ []
    nothing [] are none = refl
    nothing (f ∷ fs) are none = absurd (some_bytes f.0 f.1 (all_spelled fs) are.0 none)

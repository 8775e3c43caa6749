-- What was decoded is what the bytes begin with, and a fault is the first one.
use Rattle.std.proofs.Common.{◌≡◌, ℕ, ◌+◌, ◌-◌, ◌≤◌, List, [], ◌++◌, length, take, drop, Option, Some, None, inl, inr, arith, sym, ap, subst, ◌∙◌, append-nil}
use Rattle.std.specs.Prelude.{◌≢◌}
use Rattle.std.specs.Int.{w8, w32}
use Rattle.std.proofs.lemmas.List.{take-append-drop, drop-take, length-take-le, take-append-le, length-drop}
use Rattle.net_frames.specs.declared.frame.Frame.{Frame}
use Rattle.net_frames.specs.declared.fault.FrameFault.{FrameFault}
use Rattle.net_frames.specs.declared.fault.FrameFault.TheVariants.{NeedMore}
use Rattle.net_frames.specs.declared.kind.Kind.{Kind}
use Rattle.net_frames.specs.Kinds.{id_of, may_have}
use Rattle.net_frames.specs.Frames.{Begins, frame_kind, head_len, frame_len, body_numbers, numbers, spelled, spelling}
use Rattle.net_frames.specs.Faults.{len_at, magic_at, id_at, tests, first_that_holds, IsFound, HasFound, CannotBegin}
use Rattle.net_frames.specs.Reading.{IsHeader, frame_in}
use Rattle.net_frames.proofs.Numbers.{IsBytes, IsBytes-take, Reads, number_at-append, reads_spelled, reads_fit}
use Rattle.net_frames.proofs.Headers.{begun, pass, passed, id_of-kind_with}
use Rattle.net_frames.proofs.Bodies.{IsBody, frame_found}
use Rattle.net_frames.proofs.Spellings.{numbers_len_is, told, header_told, one_kind, begins_with_one}

-- ---- a frame that was read

module _ (bytes : List ℕ) (kind : Kind) (used : ℕ) (header : IsHeader bytes kind used) (frame : Frame) (read : frame_in kind (take used bytes) ≡ Some frame) where
  whole_len : length (take used bytes) ≡ used
  whole_len = length-take-le used bytes header.whole

  body : IsBody kind (take used bytes) frame
  body = frame_found kind (take used bytes) frame (ap (may_have kind) whole_len ∙ header.may_have_len) (rw whole_len header.most) read

  -- its numbers are no more than its bytes
  pub head_within : head_len frame ≤ used
  head_within = rw whole_len at body.whole

  content_span : drop (head_len frame) (take used bytes) ≡ take (used - head_len frame) (drop (head_len frame) bytes)
  content_span =
      let within = head_within in
      let sum : head_len frame + (used - head_len frame) ≡ used = omega arith in
      ap (λ (n : ℕ). drop (head_len frame) (take n bytes)) (sym sum) ∙ drop-take (head_len frame) (used - head_len frame) bytes

  pub found : IsBytes bytes → IsFound bytes (record { frame = frame; content = record { from = head_len frame; len = used - head_len frame }; used = used })
  found fits =
      let whole = take used bytes in
      let content = drop (head_len frame) whole in
      let parts : whole ++ drop used bytes ≡ bytes = take-append-drop used bytes in
      let least = header.least in
      let within = head_within in
      let total : used ≡ frame_len frame content = rw (length-drop (head_len frame) whole, whole_len) (omega arith) in
      let whole_fits = IsBytes-take used bytes fits in
      let reads : Reads 0 (numbers frame content) whole = (
        sym (number_at-append w32 0 whole (drop used bytes) (rw whole_len (omega arith))) ∙ ap len_at parts ∙ header.len_is ∙ total,
        (
          sym (number_at-append w32 4 whole (drop used bytes) (rw whole_len (omega arith))) ∙ ap magic_at parts ∙ header.magic_is,
          (
            sym (number_at-append w8 8 whole (drop used bytes) (rw whole_len (omega arith))) ∙ ap id_at parts ∙ sym (id_of-kind_with (id_at bytes) kind header.kind_is) ∙ ap id_of (sym body.kind_is),
            body.reads,
          ),
        ),
      ) in
      let front : spelled (numbers frame content) ≡ take (head_len frame) whole =
      reads_spelled (numbers frame content) 0 whole whole_fits (rw (numbers_len_is frame content, whole_len) (omega arith)) reads ∙ ap (λ (n : ℕ). take n whole) (numbers_len_is frame content) in
      let spelled_so : bytes ≡ spelling frame content ++ drop used bytes =
      sym parts ∙ ap (λ (l : List ℕ). l ++ drop used bytes) (sym (take-append-drop (head_len frame) whole) ∙ ap (λ (l : List ℕ). l ++ content) (sym front)) in
      let begins : Begins bytes frame content (drop used bytes) = record { is_frame = record { in_range = body.in_range; fits = reads_fit (body_numbers frame content) 9 whole whole_fits body.reads }; bytes_are = spelled_so } in
      record {
        begins = subst (λ (l : List ℕ). Begins bytes frame l (drop used bytes)) content_span begins;
        ends = omega arith;
        within = header.whole;
      }

  -- and no other stands there
  pub found_only : (fits : IsBytes bytes) (other : Frame) (content rest : List ℕ) → Begins bytes other content rest
      → HasFound bytes other content rest (record { frame = frame; content = record { from = head_len frame; len = used - head_len frame }; used = used })
  found_only fits other content rest begins =
      let same = begins_with_one bytes frame other (take (used - head_len frame) (drop (head_len frame) bytes)) content (drop used bytes) rest (found fits).begins begins in
      record { frame_is = same.0; content_is = same.1; rest_is = same.2 }

-- ---- faults

from_none : {A : Type 0} (x : A) (o : Option A) → o ≡ None → o ≡ Some x → ⊥
from_none x o none some = absurd (let e : None ≡ Some x = sym none ∙ some in cc)

-- where a test holds no frame stands there
pub fault_only : (bytes : List ℕ) (fault : FrameFault) → first_that_holds (tests bytes) ≡ Some fault → (frame : Frame) (content rest : List ℕ) → Begins bytes frame content rest → ⊥
fault_only bytes fault fault_is frame content rest begins =
    from_none fault (first_that_holds (tests bytes)) (passed bytes (frame_kind frame) (frame_len frame content) (header_told bytes frame content rest begins)) fault_is

-- and no bytes mend it, but where it wants more
pub fault_stays : (bytes : List ℕ) (fault : FrameFault) → first_that_holds (tests bytes) ≡ Some fault → fault ≢ NeedMore → CannotBegin bytes
fault_stays bytes fault fault_is other more frame content rest begins =
    elim (pass bytes (frame_kind frame) (frame_len frame content) (begun bytes more frame content rest begins)) [
      | inl few ↦ other (let e : Some fault ≡ Some NeedMore = sym fault_is ∙ few.fault_is in cc)
      | inr header ↦ from_none fault (first_that_holds (tests bytes)) (passed bytes (frame_kind frame) (frame_len frame content) header) fault_is
    ]

-- a body that gives no frame gives none with more bytes
pub body_stays : (bytes : List ℕ) (kind : Kind) (used : ℕ) → IsHeader bytes kind used → frame_in kind (take used bytes) ≡ None → CannotBegin bytes
body_stays bytes kind used header none more frame content rest begins =
    elim (pass bytes (frame_kind frame) (frame_len frame content) (begun bytes more frame content rest begins)) [
      | inl few ↦ from_none NeedMore (first_that_holds (tests bytes)) (passed bytes kind used header) few.fault_is
      | inr header2 ↦
          let same = one_kind bytes kind (frame_kind frame) used (frame_len frame content) header header2 in
          let read = (told (bytes ++ more) frame content rest begins).read in
          let front : take (frame_len frame content) (bytes ++ more) ≡ take used bytes =
          ap (λ (n : ℕ). take n (bytes ++ more)) (sym same.1) ∙ take-append-le used bytes more header.whole in
          from_none frame (frame_in kind (take used bytes)) none (ap (λ (k : Kind). frame_in k (take used bytes)) same.0 ∙ ap (frame_in (frame_kind frame)) (sym front) ∙ read)
    ]

pub body_only : (bytes : List ℕ) (kind : Kind) (used : ℕ) → IsHeader bytes kind used → frame_in kind (take used bytes) ≡ None → (frame : Frame) (content rest : List ℕ) → Begins bytes frame content rest → ⊥
body_only bytes kind used header none frame content rest begins =
    body_stays bytes kind used header none [] frame content rest (record { is_frame = begins.is_frame; bytes_are = append-nil bytes ∙ begins.bytes_are })

-- The first numbers of a frame pass the tests, and bytes that pass them have these numbers.
use Rattle.std.proofs.Common.{◌≡◌, ℕ, ◌+◌, ◌^◌, ◌<◌, ◌≤◌, true, false, List, [], ◌++◌, length, Some, None, eqb, inl, inr, arith, refl, sym, ap, ◌∙◌, append_assoc, lit≤, lit<}
use Rattle.std.specs.Prelude.{◌⊎◌}
use Rattle.std.specs.Int.{w8, w32}
use Rattle.std.proofs.lemmas.Bool.{cases_lt, lt-ltb, le-ltb, le-leb, eqb-true}
use Rattle.net_frames.specs.declared.frame.TheConstants.{MAGIC, LEN_MIN, LEN_MAX}
use Rattle.net_frames.specs.declared.frame.Frame.{Frame}
use Rattle.net_frames.specs.declared.frame.Frame.TheVariants.{BufferResponse, ErrorResponse, PartitionRequest, Close, AddCredit, ResumeConsumption, BacklogAnnouncement, NewBufferSize}
use Rattle.net_frames.specs.declared.frame.ArrivalKind2.TheVariants.{Buffer, Inline, Front, End}
use Rattle.net_frames.specs.declared.fault.FrameFault.TheVariants.{NeedMore}
use Rattle.net_frames.specs.declared.kind.Kind.{Kind}
use Rattle.net_frames.specs.declared.kind.Kind.TheVariants as kinds
use Rattle.net_frames.specs.Kinds.{kinds as kinds_list, id_of, kind_with, may_have}
use Rattle.net_frames.specs.Frames.{KeepsRanges, IsFrame, Begins, frame_kind, frame_len, body_numbers, numbers, numbers_len, spelled, Fit}
use Rattle.net_frames.specs.Faults.{len_at, magic_at, id_at, tests, first_that_holds, is_wrong_len}
use Rattle.net_frames.specs.Reading.{IsHeader}
use Rattle.net_frames.proofs.Choices.{find_passes}
use Rattle.net_frames.proofs.Numbers.{Reads, number_at-append, spelled_reads}

-- ---- the length of a frame

-- what the length of a frame tells
pub record IsLen (kind : Kind) (len : ℕ) : Type 0 where
  pub least : LEN_MIN ≤ len
  pub most : len ≤ LEN_MAX
  pub may_have_len : may_have kind len ≡ true

same_len : (kind : Kind) (m n : ℕ) → m ≡ n → IsLen kind m → IsLen kind n
same_len kind m n same is_len = rw (← same) is_len

none : (head : ℕ) (content : List ℕ) → content ≡ [] → head ≡ head + length content
none head content empty = rw empty (omega arith)

pub is_len : (frame : Frame) (content : List ℕ) → KeepsRanges frame content → IsLen (frame_kind frame) (frame_len frame content)
is_len (BufferResponse channel sequence backlog Buffer) content range = record { least = omega arith; most = omega (arith, range.1); may_have_len = le-leb 39 (39 + length content) (omega arith) }
is_len (BufferResponse channel sequence backlog (Inline k)) content range = same_len kinds.Buffer 47 (47 + length content) (none 47 content range.1.1) (record { least = lit≤ tt; most = lit≤ tt; may_have_len = refl })
is_len (BufferResponse channel sequence backlog (Front k)) content range = same_len kinds.Buffer 47 (47 + length content) (none 47 content range.1.1) (record { least = lit≤ tt; most = lit≤ tt; may_have_len = refl })
is_len (BufferResponse channel sequence backlog End) content range = same_len kinds.Buffer 39 (39 + length content) (none 39 content range.1) (record { least = lit≤ tt; most = lit≤ tt; may_have_len = refl })
is_len (ErrorResponse channel code) content range = same_len kinds.Error 26 (26 + length content) (none 26 content range.1) (record { least = lit≤ tt; most = lit≤ tt; may_have_len = refl })
is_len (PartitionRequest channel credit) content range = same_len kinds.Request 29 (29 + length content) (none 29 content range.1) (record { least = lit≤ tt; most = lit≤ tt; may_have_len = refl })
is_len Close content range = same_len kinds.Closing 9 (9 + length content) (none 9 content range) (record { least = lit≤ tt; most = lit≤ tt; may_have_len = refl })
is_len (AddCredit channel credit) content range = same_len kinds.Credit 29 (29 + length content) (none 29 content range.1) (record { least = lit≤ tt; most = lit≤ tt; may_have_len = refl })
is_len (ResumeConsumption channel) content range = same_len kinds.Resumption 25 (25 + length content) (none 25 content range) (record { least = lit≤ tt; most = lit≤ tt; may_have_len = refl })
is_len (BacklogAnnouncement channel backlog) content range = same_len kinds.Backlog 29 (29 + length content) (none 29 content range.1) (record { least = lit≤ tt; most = lit≤ tt; may_have_len = refl })
is_len (NewBufferSize channel size) content range = same_len kinds.Size 29 (29 + length content) (none 29 content range.1) (record { least = lit≤ tt; most = lit≤ tt; may_have_len = refl })

-- it doesn't depend on the content how long a body is
pub body_len : (frame : Frame) (content : List ℕ) → numbers_len (body_numbers frame content) ≡ numbers_len (body_numbers frame [])
body_len (BufferResponse channel sequence backlog Buffer) content = refl
body_len (BufferResponse channel sequence backlog (Inline k)) content = refl
body_len (BufferResponse channel sequence backlog (Front k)) content = refl
body_len (BufferResponse channel sequence backlog End) content = refl
body_len (ErrorResponse channel code) content = refl
body_len (PartitionRequest channel credit) content = refl
body_len Close content = refl
body_len (AddCredit channel credit) content = refl
body_len (ResumeConsumption channel) content = refl
body_len (BacklogAnnouncement channel backlog) content = refl
body_len (NewBufferSize channel size) content = refl

-- ---- ids

pub kind_with-id_of : (kind : Kind) → kind_with (id_of kind) ≡ Some kind
kind_with-id_of kinds.Buffer = refl
kind_with-id_of kinds.Error = refl
kind_with-id_of kinds.Request = refl
kind_with-id_of kinds.Closing = refl
kind_with-id_of kinds.Credit = refl
kind_with-id_of kinds.Resumption = refl
kind_with-id_of kinds.Backlog = refl
kind_with-id_of kinds.Size = refl

id_fits : (kind : Kind) → id_of kind < 2 ^ 8
id_fits kinds.Buffer = lit< tt
id_fits kinds.Error = lit< tt
id_fits kinds.Request = lit< tt
id_fits kinds.Closing = lit< tt
id_fits kinds.Credit = lit< tt
id_fits kinds.Resumption = lit< tt
id_fits kinds.Backlog = lit< tt
id_fits kinds.Size = lit< tt

kind_found : (id : ℕ) (kind : Kind) → id ≡ id_of kind → kind_with id ≡ Some kind
kind_found id kind same = ap kind_with same ∙ kind_with-id_of kind

pub id_of-kind_with : (id : ℕ) (kind : Kind) → kind_with id ≡ Some kind → id_of kind ≡ id
id_of-kind_with id kind found = sym (eqb-true id (id_of kind) (find_passes (λ (k : Kind). eqb id (id_of k)) kinds_list kind found))

-- the numbers of a frame fit, those before its body too
pub fit_all : (frame : Frame) (content : List ℕ) → IsFrame frame content → Fit (numbers frame content)
fit_all frame content frame_is = let len = is_len frame content frame_is.in_range in (omega (arith, len.most), (lit< tt, (id_fits (frame_kind frame), frame_is.fits)))

-- ---- the tests

-- what bytes tell of a frame that they begin with, so far as they go
pub record Tells (bytes : List ℕ) (kind : Kind) (len : ℕ) : Type 0 where
  pub is_len : IsLen kind len
  pub len_is : 4 ≤ length bytes → len_at bytes ≡ len
  pub magic_is : 8 ≤ length bytes → magic_at bytes ≡ MAGIC
  pub id_is : 9 ≤ length bytes → id_at bytes ≡ id_of kind

-- the beginning of a frame, or more
pub begun : (bytes more : List ℕ) (frame : Frame) (content rest : List ℕ) → Begins (bytes ++ more) frame content rest → Tells bytes (frame_kind frame) (frame_len frame content)
begun bytes more frame content rest begins =
    let len = is_len frame content begins.is_frame.in_range in
    let reads : Reads 0 (numbers frame content) (bytes ++ more) =
    spelled_reads (numbers frame content) 0 [] (content ++ rest) (bytes ++ more) (begins.bytes_are ∙ append_assoc (spelled (numbers frame content)) content rest) refl (fit_all frame content begins.is_frame) in
    record {
      is_len = len;
      len_is = λ within. sym (number_at-append w32 0 bytes more within) ∙ reads.0;
      magic_is = λ within. sym (number_at-append w32 4 bytes more within) ∙ reads.1.0;
      id_is = λ within. sym (number_at-append w8 8 bytes more within) ∙ reads.1.1.0;
    }

wrong_len : (id : ℕ) (kind : Kind) (len : ℕ) → kind_with id ≡ Some kind → may_have kind len ≡ true → is_wrong_len id len ≡ false
wrong_len id kind len found right = rw (found, right) refl

-- bytes that pass all tests
pub passed : (bytes : List ℕ) (kind : Kind) (len : ℕ) → IsHeader bytes kind len → first_that_holds (tests bytes) ≡ None
passed bytes kind len header =
    let least = header.least in
    let whole = header.whole in
    rw (
      le-ltb (length bytes) 4 (omega arith),
      header.len_is,
      le-ltb len LEN_MIN header.least,
      le-ltb LEN_MAX len header.most,
      le-ltb (length bytes) 8 (omega arith),
      header.magic_is,
      le-ltb (length bytes) 9 (omega arith),
      header.kind_is,
      header.may_have_len,
      le-ltb (length bytes) len header.whole,
    ) refl

-- Bytes that tell of a frame pass all tests, or are too few yet.
pub record AreTooFew (bytes : List ℕ) (len : ℕ) : Type 0 where
  pub fault_is : first_that_holds (tests bytes) ≡ Some NeedMore
  pub short : length bytes < len

pub pass : (bytes : List ℕ) (kind : Kind) (len : ℕ) → Tells bytes kind len → AreTooFew bytes len ⊎ IsHeader bytes kind len
pass bytes kind len tells =
    let least = tells.is_len.least in
    elim (cases_lt (length bytes) 4) [
      | inl few ↦ inl (record { fault_is = rw (lt-ltb (length bytes) 4 few) refl; short = omega arith })
      | inr four ↦
          let len_is = tells.len_is four in
          elim (cases_lt (length bytes) 8) [
            | inl few ↦ inl (record { fault_is = rw (le-ltb (length bytes) 4 four, len_is, le-ltb len LEN_MIN least, le-ltb LEN_MAX len tells.is_len.most, lt-ltb (length bytes) 8 few) refl; short = omega arith })
            | inr eight ↦
                let magic_is = tells.magic_is eight in
                elim (cases_lt (length bytes) 9) [
                  | inl few ↦ inl (record {
                    fault_is = rw (le-ltb (length bytes) 4 four, len_is, le-ltb len LEN_MIN least, le-ltb LEN_MAX len tells.is_len.most, le-ltb (length bytes) 8 eight, magic_is, lt-ltb (length bytes) 9 few) refl;
                    short = omega arith;
                  })
                  | inr nine ↦
                      let kind_is = kind_found (id_at bytes) kind (tells.id_is nine) in
                      elim (cases_lt (length bytes) len) [
                        | inl few ↦ inl (record {
                          fault_is = rw (
                            le-ltb (length bytes) 4 four,
                            len_is,
                            le-ltb len LEN_MIN least,
                            le-ltb LEN_MAX len tells.is_len.most,
                            le-ltb (length bytes) 8 eight,
                            magic_is,
                            le-ltb (length bytes) 9 nine,
                            kind_is,
                            tells.is_len.may_have_len,
                            lt-ltb (length bytes) len few,
                          ) refl;
                          short = few;
                        })
                        | inr whole ↦ inr (record { len_is = len_is; least = least; most = tells.is_len.most; magic_is = magic_is; kind_is = kind_is; may_have_len = tells.is_len.may_have_len; whole = whole })
                      ]
                ]
          ]
    ]

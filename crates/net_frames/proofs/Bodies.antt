-- Bodies are read as they were spelled, and were spelled as they are read.
use Rattle.std.proofs.Common.{◌≡◌, ℕ, ◌+◌, ◌-◌, ◌≤◌, true, cond, List, [], ◌∷◌, ◌++◌, length, drop, Option, ◌&&◌, Some, None, eqb, leb, inl, inr, arith, refl, sym, ap, subst, ◌∙◌, length-drop}
use Rattle.std.specs.Int.{Width, w8, w32, w64}
use Rattle.std.proofs.lemmas.Bool.{leb-true, le-leb, eqb-true, eq-eqb}
use Rattle.std.proofs.lemmas.Option.{same_Some}
use Rattle.std.proofs.Math.ListN.{drop_of_length-le}
use Rattle.flow_defs.specs.declared.task.ChannelId.{ChannelId}
use Rattle.net_frames.specs.declared.frame.TheConstants.{CREDIT_MAX, ERROR_MAX, LEN_MAX, SIZE_MIN, SIZE_MAX}
use Rattle.net_frames.specs.declared.frame.Frame.{Frame}
use Rattle.net_frames.specs.declared.frame.Frame.TheVariants.{BufferResponse, ErrorResponse, PartitionRequest, Close, AddCredit, ResumeConsumption, BacklogAnnouncement, NewBufferSize}
use Rattle.net_frames.specs.declared.frame.ArrivalKind2.{ArrivalKind2}
use Rattle.net_frames.specs.declared.frame.ArrivalKind2.TheVariants.{Buffer, Inline, Front, End}
use Rattle.net_frames.specs.declared.kind.Kind.{Kind}
use Rattle.net_frames.specs.declared.kind.Kind.TheVariants as kinds
use Rattle.net_frames.specs.Kinds.{may_have}
use Rattle.net_frames.specs.Frames.{u8, u32, KeepsRanges, IsArrival, frame_kind, head_len, frame_len, channel_numbers, arrival_numbers, body_numbers}
use Rattle.net_frames.specs.Faults.{number_at}
use Rattle.net_frames.specs.Reading.{◌>>=◌, channel_in, ranged, barrier_in, arrival_of, arrival_in, frame_in}
use Rattle.net_frames.proofs.Choices.{both, guard_some, bind_some, chosen}
use Rattle.net_frames.proofs.Numbers.{Reads}

-- ---- what was spelled is read

channel_again : (channel : ChannelId) (bytes : List ℕ) → Reads 9 (channel_numbers channel) bytes → channel_in bytes ≡ Some channel
channel_again channel bytes reads = rw (reads.0, reads.1.0, reads.1.1.0, reads.1.1.1.0) refl

ranged_again : (w : Width) (place least most n : ℕ) (bytes : List ℕ) → number_at w place bytes ≡ n → least ≤ n → n ≤ most → ranged w place least most bytes ≡ Some n
ranged_again w place least most n bytes is low high = rw (is, le-leb least n low, le-leb n most high) refl

barrier_again : (k : ℕ) (bytes : List ℕ) → number_at w64 39 bytes ≡ k → 1 ≤ k → barrier_in bytes ≡ Some k
barrier_again k bytes is low = rw (is, le-leb 1 k low) refl

arrival_again : (what : ArrivalKind2) (content bytes : List ℕ) → Reads 33 (arrival_numbers what content) bytes → IsArrival what content → length bytes ≡ head_len (BufferResponse (record { edge = 0; from = 0; to = 0 }) 0 0 what) + length content → arrival_in bytes ≡ Some what
arrival_again Buffer content bytes reads range len =
    let size : length bytes - 39 ≡ length content = omega arith in
    rw (reads.0, reads.1.0, reads.1.1.0, size, eq-eqb (length content) (length content) refl, le-leb 1 (length content) range.0) refl
arrival_again (Inline k) content bytes reads range len =
    let size : length bytes - 39 ≡ 8 = omega (arith, ap length range.1) in
    rw (reads.0, reads.1.0, reads.1.1.0, size, barrier_again k bytes reads.1.1.1.0 range.0) refl
arrival_again (Front k) content bytes reads range len =
    let size : length bytes - 39 ≡ 8 = omega (arith, ap length range.1) in
    rw (reads.0, reads.1.0, reads.1.1.0, size, barrier_again k bytes reads.1.1.1.0 range.0) refl
arrival_again End content bytes reads range len =
    let size : length bytes - 39 ≡ 0 = omega (arith, ap length range) in
    rw (reads.0, reads.1.0, reads.1.1.0, size) refl

pub frame_again : (frame : Frame) (content bytes : List ℕ) → Reads 9 (body_numbers frame content) bytes → KeepsRanges frame content → length bytes ≡ frame_len frame content → frame_in (frame_kind frame) bytes ≡ Some frame
unfolding frame_in
frame_again (BufferResponse channel sequence backlog what) content bytes reads range len =
    rw (
      channel_again channel bytes (reads.0, (reads.1.0, (reads.1.1.0, (reads.1.1.1.0, tt)))),
      reads.1.1.1.1.0,
      ranged_again w32 29 0 CREDIT_MAX backlog bytes reads.1.1.1.1.1.0 (omega arith) range.0,
      arrival_again what content bytes reads.1.1.1.1.1.1 range.1 len,
    ) refl
frame_again (ErrorResponse channel code) content bytes reads range len =
    rw (channel_again channel bytes (reads.0, (reads.1.0, (reads.1.1.0, (reads.1.1.1.0, tt)))), ranged_again w8 25 1 ERROR_MAX code bytes reads.1.1.1.1.0 range.0.0 range.0.1) refl
frame_again (PartitionRequest channel credit) content bytes reads range len =
    rw (channel_again channel bytes (reads.0, (reads.1.0, (reads.1.1.0, (reads.1.1.1.0, tt)))), ranged_again w32 25 0 CREDIT_MAX credit bytes reads.1.1.1.1.0 (omega arith) range.0) refl
frame_again Close content bytes reads range len = refl
frame_again (AddCredit channel credit) content bytes reads range len =
    rw (channel_again channel bytes (reads.0, (reads.1.0, (reads.1.1.0, (reads.1.1.1.0, tt)))), ranged_again w32 25 1 CREDIT_MAX credit bytes reads.1.1.1.1.0 range.0.0 range.0.1) refl
frame_again (ResumeConsumption channel) content bytes reads range len = rw (channel_again channel bytes reads) refl
frame_again (BacklogAnnouncement channel backlog) content bytes reads range len =
    rw (channel_again channel bytes (reads.0, (reads.1.0, (reads.1.1.0, (reads.1.1.1.0, tt)))), ranged_again w32 25 1 CREDIT_MAX backlog bytes reads.1.1.1.1.0 range.0.0 range.0.1) refl
frame_again (NewBufferSize channel size) content bytes reads range len =
    rw (channel_again channel bytes (reads.0, (reads.1.0, (reads.1.1.0, (reads.1.1.1.0, tt)))), ranged_again w32 25 SIZE_MIN SIZE_MAX size bytes reads.1.1.1.1.0 range.0.0 range.0.1) refl

-- ---- what is read was spelled

channel_found : (bytes : List ℕ) (channel : ChannelId) → channel_in bytes ≡ Some channel → Reads 9 (channel_numbers channel) bytes
channel_found bytes channel e =
    let made : ChannelId = record { edge = number_at w32 9 bytes; from = number_at w32 13 bytes; to = number_at w32 17 bytes } in
    let g = guard_some (eqb (number_at w32 21 bytes) 0) made channel e in
    subst (λ (c : ChannelId). Reads 9 (channel_numbers c) bytes) g.1 (refl, (refl, (refl, (eqb-true _ _ g.0, tt))))

record IsRanged (w : Width) (place least most n : ℕ) (bytes : List ℕ) : Type 0 where
  pub is : number_at w place bytes ≡ n
  pub low : least ≤ n
  pub high : n ≤ most

ranged_found : (w : Width) (place least most n : ℕ) (bytes : List ℕ) → ranged w place least most bytes ≡ Some n → IsRanged w place least most n bytes
ranged_found w place least most n bytes e =
    let m = number_at w place bytes in
    let g = guard_some (leb least m && leb m most) m n e in
    let tests = both (leb least m) (leb m most) g.0 in
    subst (λ (k : ℕ). IsRanged w place least most k bytes) g.1 (record { is = refl; low = leb-true _ _ tests.0; high = leb-true _ _ tests.1 })

barrier_found : (k : ℕ) (bytes : List ℕ) → barrier_in bytes ≡ Some k → (number_at w64 39 bytes ≡ k) × (1 ≤ k)
barrier_found k bytes e =
    let m = number_at w64 39 bytes in
    let g = guard_some (leb 1 m) m k e in
    subst (λ (n : ℕ). (number_at w64 39 bytes ≡ n) × (1 ≤ n)) g.1 (refl, leb-true _ _ g.0)

-- a channel, and a number behind it
record IsOneNumber (w : Width) (least most : ℕ) (make : ChannelId → ℕ → Frame) (bytes : List ℕ) (frame : Frame) : Type 0 where
  pub channel : ChannelId
  pub number : ℕ
  pub frame_is : make channel number ≡ frame
  pub channel_reads : Reads 9 (channel_numbers channel) bytes
  pub number_is : IsRanged w 25 least most number bytes

one_number : (w : Width) (least most : ℕ) (make : ChannelId → ℕ → Frame) (bytes : List ℕ) (frame : Frame)
    → (channel_in bytes >>= λ channel. ranged w 25 least most bytes >>= λ n. Some (make channel n)) ≡ Some frame → IsOneNumber w least most make bytes frame
one_number w least most make bytes frame e =
    let a = bind_some (channel_in bytes) (λ channel. ranged w 25 least most bytes >>= λ n. Some (make channel n)) frame e in
    let b = bind_some (ranged w 25 least most bytes) (λ n. Some (make a.0 n)) frame a.2 in
    record {
      channel = a.0;
      number = b.0;
      frame_is = same_Some _ _ b.2;
      channel_reads = channel_found bytes a.0 a.1;
      number_is = ranged_found w 25 least most b.0 bytes b.1;
    }

with_u8 : (channel : ChannelId) (n : ℕ) (bytes : List ℕ) → Reads 9 (channel_numbers channel) bytes → number_at w8 25 bytes ≡ n → Reads 9 (channel_numbers channel ++ u8 n ∷ []) bytes
with_u8 channel n bytes r n_is = (r.0, (r.1.0, (r.1.1.0, (r.1.1.1.0, (n_is, tt)))))

with_u32 : (channel : ChannelId) (n : ℕ) (bytes : List ℕ) → Reads 9 (channel_numbers channel) bytes → number_at w32 25 bytes ≡ n → Reads 9 (channel_numbers channel ++ u32 n ∷ []) bytes
with_u32 channel n bytes r n_is = (r.0, (r.1.0, (r.1.1.0, (r.1.1.1.0, (n_is, tt)))))

-- what an arrival that was read tells: the content is what follows its numbers
record IsArrived (bytes : List ℕ) (what : ArrivalKind2) (head : ℕ) : Type 0 where
  pub reads : Reads 33 (arrival_numbers what (drop head bytes)) bytes
  pub in_range : IsArrival what (drop head bytes)
  pub whole : head ≤ length bytes

abbrev arrival_head : ArrivalKind2 → ℕ
arrival_head what = head_len (BufferResponse (record { edge = 0; from = 0; to = 0 }) 0 0 what)

-- nothing follows the end
ended : (n : ℕ) (bytes : List ℕ) → length bytes ≡ n → drop n bytes ≡ []
ended n bytes len = drop_of_length-le bytes (omega arith)

-- a buffer: data to the end
buffer_arrived : (bytes : List ℕ) → 39 ≤ length bytes → length bytes ≤ LEN_MAX → number_at w8 34 bytes ≡ 0 → number_at w32 35 bytes ≡ length bytes - 39 → number_at w8 33 bytes ≡ 0 → 1 ≤ length bytes - 39 → IsArrived bytes Buffer 39
buffer_arrived bytes least most compression size kind some =
    let len : length (drop 39 bytes) ≡ length bytes - 39 = length-drop 39 bytes in
    record {
      reads = (kind, (compression, (size ∙ sym len, tt)));
      in_range = (omega arith, omega arith);
      whole = least;
    }

-- a barrier, or the end: no data
module _ (bytes : List ℕ) (compression : number_at w8 34 bytes ≡ 0) (size : number_at w32 35 bytes ≡ length bytes - 39) where
  inline_arrived : (k : ℕ) → number_at w8 33 bytes ≡ 1 → length bytes - 39 ≡ 8 → number_at w64 39 bytes ≡ k → 1 ≤ k → IsArrived bytes (Inline k) 47
  inline_arrived k kind len k_is low = record { reads = (kind, (compression, (size ∙ len, (k_is, tt)))); in_range = (low, ended 47 bytes (omega arith)); whole = omega arith }

  front_arrived : (k : ℕ) → number_at w8 33 bytes ≡ 2 → length bytes - 39 ≡ 8 → number_at w64 39 bytes ≡ k → 1 ≤ k → IsArrived bytes (Front k) 47
  front_arrived k kind len k_is low = record { reads = (kind, (compression, (size ∙ len, (k_is, tt)))); in_range = (low, ended 47 bytes (omega arith)); whole = omega arith }

  end_arrived : 39 ≤ length bytes → number_at w8 33 bytes ≡ 3 → length bytes - 39 ≡ 0 → IsArrived bytes End 39
  end_arrived least kind len = record { reads = (kind, (compression, (size ∙ len, tt))); in_range = ended 39 bytes (omega arith); whole = least }

  abbrev else_end : Option ArrivalKind2
  else_end = cond (eqb (number_at w8 33 bytes) 3 && eqb (length bytes - 39) 0) (Some End) None

  abbrev else_front : Option ArrivalKind2
  else_front = cond (eqb (number_at w8 33 bytes) 2 && eqb (length bytes - 39) 8) (barrier_in bytes >>= λ k. Some (Front k)) else_end

  abbrev else_inline : Option ArrivalKind2
  else_inline = cond (eqb (number_at w8 33 bytes) 1 && eqb (length bytes - 39) 8) (barrier_in bytes >>= λ k. Some (Inline k)) else_front

  arrived : (what : ArrivalKind2) → 39 ≤ length bytes → length bytes ≤ LEN_MAX → arrival_of (number_at w8 33 bytes) (length bytes - 39) bytes ≡ Some what → IsArrived bytes what (arrival_head what)
  arrived what least most e =
      let kind = number_at w8 33 bytes in
      let len = length bytes - 39 in
      elim (chosen (eqb kind 0 && leb 1 len) (Some Buffer) else_inline (Some what) e) [
        | inl first ↦
            let t = both (eqb kind 0) (leb 1 len) first.0 in
            subst (λ (w : ArrivalKind2). IsArrived bytes w (arrival_head w)) (same_Some _ _ first.1) (buffer_arrived bytes least most compression size (eqb-true _ _ t.0) (leb-true _ _ t.1))
        | inr later ↦
            elim (chosen (eqb kind 1 && eqb len 8) (barrier_in bytes >>= λ k. Some (Inline k)) else_front (Some what) later.1) [
              | inl second ↦
                  let t = both (eqb kind 1) (eqb len 8) second.0 in
                  let b = bind_some (barrier_in bytes) (λ k. Some (Inline k)) what second.1 in
                  let k_is = barrier_found b.0 bytes b.1 in
                  subst (λ (w : ArrivalKind2). IsArrived bytes w (arrival_head w)) (same_Some _ _ b.2) (inline_arrived b.0 (eqb-true _ _ t.0) (eqb-true _ _ t.1) k_is.0 k_is.1)
              | inr later2 ↦
                  elim (chosen (eqb kind 2 && eqb len 8) (barrier_in bytes >>= λ k. Some (Front k)) else_end (Some what) later2.1) [
                    | inl third ↦
                        let t = both (eqb kind 2) (eqb len 8) third.0 in
                        let b = bind_some (barrier_in bytes) (λ k. Some (Front k)) what third.1 in
                        let k_is = barrier_found b.0 bytes b.1 in
                        subst (λ (w : ArrivalKind2). IsArrived bytes w (arrival_head w)) (same_Some _ _ b.2) (front_arrived b.0 (eqb-true _ _ t.0) (eqb-true _ _ t.1) k_is.0 k_is.1)
                    | inr last ↦
                        let g = guard_some (eqb kind 3 && eqb len 0) End what last.1 in
                        let t = both (eqb kind 3) (eqb len 0) g.0 in
                        subst (λ (w : ArrivalKind2). IsArrived bytes w (arrival_head w)) g.1 (end_arrived least (eqb-true _ _ t.0) (eqb-true _ _ t.1))
                  ]
            ]
      ]

arrival_found : (bytes : List ℕ) (what : ArrivalKind2) → 39 ≤ length bytes → length bytes ≤ LEN_MAX → arrival_in bytes ≡ Some what → IsArrived bytes what (arrival_head what)
arrival_found bytes what least most e =
    let len = length bytes - 39 in
    elim (chosen (eqb (number_at w8 34 bytes) 0 && eqb (number_at w32 35 bytes) len) (arrival_of (number_at w8 33 bytes) len bytes) None (Some what) e) [
      | inl right ↦
          let t = both (eqb (number_at w8 34 bytes) 0) (eqb (number_at w32 35 bytes) len) right.0 in
          arrived bytes (eqb-true _ _ t.0) (eqb-true _ _ t.1) what least most right.1
      | inr wrong ↦ let f = wrong.1 in absurd cc
    ]

-- what a body that was read tells
pub record IsBody (kind : Kind) (bytes : List ℕ) (frame : Frame) : Type 0 where
  pub kind_is : frame_kind frame ≡ kind
  pub reads : Reads 9 (body_numbers frame (drop (head_len frame) bytes)) bytes
  pub in_range : KeepsRanges frame (drop (head_len frame) bytes)
  pub whole : head_len frame ≤ length bytes

pub frame_found : (kind : Kind) (bytes : List ℕ) (frame : Frame) → may_have kind (length bytes) ≡ true → length bytes ≤ LEN_MAX → frame_in kind bytes ≡ Some frame → IsBody kind bytes frame
unfolding frame_in
frame_found kinds.Buffer bytes frame len most e =
    let a = bind_some (channel_in bytes) (λ channel. ranged w32 29 0 CREDIT_MAX bytes >>= λ backlog. arrival_in bytes >>= λ what. Some (BufferResponse channel (number_at w32 25 bytes) backlog what)) frame e in
    let b = bind_some (ranged w32 29 0 CREDIT_MAX bytes) (λ backlog. arrival_in bytes >>= λ what. Some (BufferResponse a.0 (number_at w32 25 bytes) backlog what)) frame a.2 in
    let w = bind_some (arrival_in bytes) (λ what. Some (BufferResponse a.0 (number_at w32 25 bytes) b.0 what)) frame b.2 in
    let channel = channel_found bytes a.0 a.1 in
    let backlog = ranged_found w32 29 0 CREDIT_MAX b.0 bytes b.1 in
    let arrival = arrival_found bytes w.0 (leb-true _ _ len) most w.1 in
    subst (IsBody kinds.Buffer bytes) (same_Some _ _ w.2) (record {
      kind_is = refl;
      reads = (channel.0, (channel.1.0, (channel.1.1.0, (channel.1.1.1.0, (refl, (backlog.is, arrival.reads))))));
      in_range = (backlog.high, arrival.in_range);
      whole = arrival.whole;
    })
frame_found kinds.Error bytes frame len most e =
    let o = one_number w8 1 ERROR_MAX ErrorResponse bytes frame e in
    let n = eqb-true (length bytes) 26 len in
    subst (IsBody kinds.Error bytes) o.frame_is (record { kind_is = refl; reads = with_u8 o.channel o.number bytes o.channel_reads o.number_is.is; in_range = ((o.number_is.low, o.number_is.high), ended 26 bytes n); whole = omega arith })
frame_found kinds.Request bytes frame len most e =
    let o = one_number w32 0 CREDIT_MAX PartitionRequest bytes frame e in
    let n = eqb-true (length bytes) 29 len in
    subst (IsBody kinds.Request bytes) o.frame_is (record { kind_is = refl; reads = with_u32 o.channel o.number bytes o.channel_reads o.number_is.is; in_range = (o.number_is.high, ended 29 bytes n); whole = omega arith })
frame_found kinds.Closing bytes frame len most e =
    let n = eqb-true (length bytes) 9 len in
    subst (IsBody kinds.Closing bytes) (same_Some _ _ e) (record { kind_is = refl; reads = tt; in_range = ended 9 bytes n; whole = omega arith })
frame_found kinds.Credit bytes frame len most e =
    let o = one_number w32 1 CREDIT_MAX AddCredit bytes frame e in
    let n = eqb-true (length bytes) 29 len in
    subst (IsBody kinds.Credit bytes) o.frame_is (record { kind_is = refl; reads = with_u32 o.channel o.number bytes o.channel_reads o.number_is.is; in_range = ((o.number_is.low, o.number_is.high), ended 29 bytes n); whole = omega arith })
frame_found kinds.Resumption bytes frame len most e =
    let a = bind_some (channel_in bytes) (λ channel. Some (ResumeConsumption channel)) frame e in
    let n = eqb-true (length bytes) 25 len in
    subst (IsBody kinds.Resumption bytes) (same_Some _ _ a.2) (record { kind_is = refl; reads = channel_found bytes a.0 a.1; in_range = ended 25 bytes n; whole = omega arith })
frame_found kinds.Backlog bytes frame len most e =
    let o = one_number w32 1 CREDIT_MAX BacklogAnnouncement bytes frame e in
    let n = eqb-true (length bytes) 29 len in
    subst (IsBody kinds.Backlog bytes) o.frame_is (record { kind_is = refl; reads = with_u32 o.channel o.number bytes o.channel_reads o.number_is.is; in_range = ((o.number_is.low, o.number_is.high), ended 29 bytes n); whole = omega arith })
frame_found kinds.Size bytes frame len most e =
    let o = one_number w32 SIZE_MIN SIZE_MAX NewBufferSize bytes frame e in
    let n = eqb-true (length bytes) 29 len in
    subst (IsBody kinds.Size bytes) o.frame_is (record { kind_is = refl; reads = with_u32 o.channel o.number bytes o.channel_reads o.number_is.is; in_range = ((o.number_is.low, o.number_is.high), ended 29 bytes n); whole = omega arith })

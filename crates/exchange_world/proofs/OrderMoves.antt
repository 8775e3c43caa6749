-- How an event moves the bytes of one channel: those that are put come last of all that wait, and those that
-- are polled are the first of them.
use Rattle.std.proofs.Common.{◌≡◌, ℕ, ◌≤◌, eqb, true, false, Bool, List, [], ◌++◌, length, map, replicate, zero, suc, refl, sym, ap, subst, ◌∙◌, append-nil, arith, inl, inr}
use Rattle.std.specs.List.{AllByRecursion}
use Rattle.std.proofs.lemmas.Bool.{cases_eq, eqb-true, eqb-false}
use Rattle.flow_defs.specs.declared.parcel.Parcel.{Parcel}
use Rattle.flow_defs.specs.Parcels.{data_of}
use Rattle.flow_defs.specs.Records.{IsShort, all_encoded}
use Rattle.input_channel.specs.States.{ChannelState, channel_next}
use Rattle.input_channel.specs.declared.entry.ReceiveEntry.TheVariants.{Added}
use Rattle.script_text.specs.declared.reply.Reply.{Reply}
use Rattle.exchange_world.specs.Lanes.{Lane, records_in, behind_records}
use Rattle.exchange_world.specs.Worlds.{World, lane_of, with_lane}
use Rattle.exchange_world.specs.Steps.{after_all, gets, asks}
use Rattle.exchange_world.specs.Theorems.{polled_in}
use Rattle.exchange_world.specs.Sound.{responses, coming}
use Rattle.exchange_world.proofs.LaneLemmas.{lane_put, lane_stays}
use Rattle.exchange_world.proofs.Bytes.{are_read}

-- ---- reading

-- The records read are the first of these, and what is left and the others are the encodings of the later ones.
pub record IsRead (left others : List ℕ) (records xs : List (List ℕ)) : Type 0 where
  pub later : List (List ℕ)
  pub records_are : xs ≡ records ++ later
  pub behind_are : left ++ others ≡ all_encoded later

-- From the rest and these bytes such records are read, whatever is behind them, and so much is left.
abbrev pub Reads : List ℕ → List ℕ → List ℕ → List (List ℕ) → Type 0
Reads rest left out records = (others : List ℕ) (xs : List (List ℕ)) → AllByRecursion IsShort xs → (rest ++ out) ++ others ≡ all_encoded xs → IsRead left others records xs

pub reads_none : (rest : List ℕ) → Reads rest rest [] []
reads_none rest others xs short same = record { later = xs; records_are = refl; behind_are = ap (λ r. r ++ others) (sym (append-nil rest)) ∙ same }

pub reads_records : (rest out : List ℕ) → Reads rest (behind_records (rest ++ out)) out (records_in (rest ++ out))
reads_records rest out others xs short same =
    let read = are_read (rest ++ out) others xs short same in
    record { later = read.later; records_are = read.records_are; behind_are = read.behind_are }

-- ---- moving

-- The bytes that wait and those that are put are the ones polled and those that wait then.
pub record IsMove (before now rest left : List ℕ) (put : List (List ℕ)) (out : List ℕ) (records : List (List ℕ)) : Type 0 where
  pub account : before ++ all_encoded put ≡ out ++ now
  pub reads : Reads rest left out records
  pub short : AllByRecursion IsShort put

-- The bytes that wait on a channel: in its inbox, on the way, and where it sends.
abbrev pub waits : Lane → List Parcel → List ℕ
waits lane way = data_of lane.inbox.queue ++ (data_of way ++ data_of lane.items)

abbrev pub waits_of : ℕ → World → List ℕ
waits_of c w = waits (lane_of w c) (coming c w)

-- From one world to another a channel's bytes move so.
abbrev pub Moves : ℕ → World → World → List (List ℕ) → List ℕ → List (List ℕ) → Type 0
Moves c w v put out records = IsMove (waits_of c w) (waits_of c v) (lane_of w c).rest (lane_of v c).rest put out records

-- A world and a reply, where nothing is put on a channel and no bytes are polled there.
abbrev pub MovesNone : ℕ → World → World × Reply → Type 0
MovesNone c w p = Moves c w p.0 [] [] (polled_in c p.1)

-- The bytes of a channel stay as they are.
pub record IsQuiet (c : ℕ) (w v : World) : Type 0 where
  pub waits_are : waits_of c v ≡ waits_of c w
  pub rest_is : (lane_of v c).rest ≡ (lane_of w c).rest

pub quiet : (c : ℕ) (w : World) → IsQuiet c w w
quiet c w = record { waits_are = refl; rest_is = refl }

pub quiet_twice : (c : ℕ) (w u v : World) → IsQuiet c w u → IsQuiet c u v → IsQuiet c w v
quiet_twice c w u v first second = record { waits_are = second.waits_are ∙ first.waits_are; rest_is = second.rest_is ∙ first.rest_is }

pub quiet_there : (c : ℕ) (w v : World) → lane_of v c ≡ lane_of w c → responses c v.frames ≡ responses c w.frames → IsQuiet c w v
quiet_there c w v lane way = record {
  waits_are = ap (λ (l : Lane). waits l (coming c v)) lane ∙ ap (λ rs. waits (lane_of w c) (map (λ (r : ℕ × Parcel). r.1) rs)) way;
  rest_is = ap (λ (l : Lane). l.rest) lane;
}

pub moves_none : (c : ℕ) (w v : World) → IsQuiet c w v → Moves c w v [] [] []
moves_none c w v q = record {
  account = append-nil (waits_of c w) ∙ sym q.waits_are;
  reads = subst (λ left. Reads (lane_of w c).rest left [] []) (sym q.rest_is) (reads_none (lane_of w c).rest);
  short = tt;
}

pub moves_then : (c : ℕ) (w u v : World) (put : List (List ℕ)) (out : List ℕ) (records : List (List ℕ)) → Moves c w u put out records → IsQuiet c u v → Moves c w v put out records
moves_then c w u v put out records move q = record {
  account = move.account ∙ ap (λ n. out ++ n) (sym q.waits_are);
  reads = subst (λ left. Reads (lane_of w c).rest left out records) (sym q.rest_is) move.reads;
  short = move.short;
}

-- ---- here and there

-- a channel is this one or another
pub by_channel : (d c : ℕ) (P : Bool → ℕ → Type 0) → (d ≡ c → P true d) → ((c ≡ d → ⊥) → P false c) → P (eqb d c) c
by_channel d c P here there =
    elim (eqb d c) as (λ b. eqb d c ≡ b → P b c) [
      | true ↦ λ e. let is : d ≡ c = eqb-true d c e in subst (P true) is (here is)
      | false ↦ λ e. there (λ is. eqb-false d c e (sym is))
    ] refl

-- a channel with the same bytes is put in one's place
pub lane_quiet : (w : World) (d : ℕ) (lane : Lane) (c : ℕ) → 1 ≤ d → 1 ≤ c → c ≤ length w.lanes
    → data_of lane.inbox.queue ≡ data_of (lane_of w d).inbox.queue → data_of lane.items ≡ data_of (lane_of w d).items → lane.rest ≡ (lane_of w d).rest
    → IsQuiet c w (with_lane w d lane)
lane_quiet w d lane c d_low low high queue items rest = elim (cases_eq d c) [
  | inl is ↦ subst (λ x. IsQuiet x w (with_lane w d lane)) is (
      let put = lane_put w d lane d_low (omega (arith, is, high)) in
      record {
        waits_are = ap (λ (l : Lane). waits l (coming d w)) put ∙ ap (λ q. q ++ (data_of (coming d w) ++ data_of lane.items)) queue ∙ ap (λ i. data_of (lane_of w d).inbox.queue ++ (data_of (coming d w) ++ i)) items;
        rest_is = ap (λ (l : Lane). l.rest) put ∙ rest;
      })
  | inr other ↦ quiet_there c w (with_lane w d lane) (lane_stays w d lane d_low c low (λ e. other (sym e))) refl
]

-- ---- floating buffers

added_queue : (n : ℕ) (inbox : ChannelState) → (after_all inbox (replicate n Added)).queue ≡ inbox.queue
added_queue zero inbox = refl
added_queue (suc n) inbox = added_queue n (channel_next inbox Added)

-- a channel that asks for floating buffers keeps its bytes
pub asks_quiet : (w : World) (d c : ℕ) → 1 ≤ d → 1 ≤ c → c ≤ length w.lanes → IsQuiet c w (asks w d)
asks_quiet w d c d_low low high =
    let lane : Lane = record (lane_of w d) { inbox = after_all (lane_of w d).inbox (replicate (gets w d) Added) } in
    lane_quiet w d lane c d_low low high (ap data_of (added_queue (gets w d) (lane_of w d).inbox)) refl refl

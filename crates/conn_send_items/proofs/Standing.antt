-- What readers were told to stand first, while turns are taken.
use Rattle.std.proofs.Common.{◌≡◌, ◌≢◌, inl, inr, ℕ, zero, suc, ◌<◌, false, List, [], ◌∷◌, length, get_or, refl, sym, ap, subst, ◌∙◌, arith}
use Rattle.std.specs.Prelude.{slice_get, Some}
use Rattle.std.proofs.lemmas.Bool.{cases_eq, cases_order}
use Rattle.std.proofs.lemmas.Option.{same_Some}
use Rattle.flow_defs.specs.declared.task.ChannelId.{ChannelId}
use Rattle.flow_defs.specs.declared.task.Head.{Head}
use Rattle.credit_reader.specs.Senders.{AreDistinct, is_same}
use Rattle.credit_reader.proofs.Channels.{is_other}
use Rattle.reader_state.specs.declared.entry.ReaderEntry.{ReaderEntry}
use Rattle.reader_state.specs.Turning.{head_told, HeadsStay, HeadsChange}
use Rattle.conn_parts.specs.Shares.{seen_at}
use Rattle.conn_send_items.specs.Fronts.{SendPass, first_after, front_after, FrontStays, OthersStay, StandsAs, StandsAt}
use Rattle.conn_send_items.proofs.Fronts.{still_stands, told_stands}

-- ---- places of channels

pub there : {X : Type 0} (xs : List X) (k : ℕ) (x : X) → slice_get xs k ≡ Some x → (k < length xs) × ((d : X) → get_or xs k d ≡ x)
there [] k x is = absurd (cc)
there (y ∷ xs) zero x is = (omega arith, λ d. same_Some y x is)
there (y ∷ xs) (suc k) x is = let t = there xs k x is in (omega (arith, t.0), t.1)

pub stands_in : {X : Type 0} (xs : List X) (k : ℕ) (d : X) → k < length xs → slice_get xs k ≡ Some (get_or xs k d)
stands_in [] k d within = absurd (omega arith)
stands_in (y ∷ xs) zero d within = refl
stands_in (y ∷ xs) (suc k) d within = stands_in xs k d (omega arith)

-- Channels at two places are two.
pub apart_at : (channels : List ChannelId) → AreDistinct channels → (j k : ℕ) (c d : ChannelId) → slice_get channels j ≡ Some c → slice_get channels k ≡ Some d → j ≢ k → is_same c d ≡ false
apart_at channels distinct j k c d at_j at_k ne =
    let a = there channels j c at_j in let b = there channels k d at_k in
    is_other c d (λ same. elim (cases_order j k) [
      | inl is ↦ ne is
      | inr other ↦ elim other [
        | inl less ↦ distinct j k c less b.0 (a.1 c ∙ same ∙ sym (b.1 c))
        | inr more ↦ distinct k j c more a.0 (b.1 c ∙ sym same ∙ sym (a.1 c))
      ]
    ])

abbrev no_channel : ChannelId
no_channel = record { edge = 0; from = 0; to = 0 }

-- The channel at a place.
abbrev pub channel_at : List ChannelId → ℕ → ChannelId
channel_at channels k = get_or channels k no_channel

pub channel_there : (channels : List ChannelId) (k : ℕ) → k < length channels → slice_get channels k ≡ Some (channel_at channels k)
channel_there channels k within = stands_in channels k no_channel within

pub one_at : (channels : List ChannelId) (k : ℕ) (c d : ChannelId) → slice_get channels k ≡ Some c → slice_get channels k ≡ Some d → c ≡ d
one_at channels k c d at_c at_d = same_Some c d (sym at_c ∙ at_d)

-- ---- what stands first

module _ (channels : List ChannelId) (place : ℕ) (passes now : List SendPass) (others : OthersStay place passes now) where
  -- A look keeps what stands.
  pub stands_looked : (history : List (ℕ × ReaderEntry)) → FrontStays (seen_at place passes) (seen_at place now) → (k : ℕ) → StandsAt channels history passes k → StandsAt channels history now k
  stands_looked history stays k stood c at = let head = head_told channels c history in elim (cases_eq k place) [
    | inl is ↦ subst (λ j. StandsAs head (first_after (seen_at j now))) (sym is)
        (still_stands head (first_after (seen_at place passes)) (first_after (seen_at place now)) (subst (λ j. StandsAs head (first_after (seen_at j passes))) is (stood c at)) stays)
    | inr ne ↦ subst (λ h. StandsAs head (first_after h)) (sym (others k ne)) (stood c at)
  ]

  module _ (distinct : AreDistinct channels) (channel : ChannelId) (is_there : slice_get channels place ≡ Some channel) (head : Head) (before after : List (ℕ × ReaderEntry))
      (heads : HeadsChange channels channel head before after) (front : front_after (seen_at place now) ≡ head) where
    -- What is told to stand first at a place stands there.
    pub stands_told : StandsAt channels after now place
    stands_told c at = told_stands (head_told channels c after) (first_after (seen_at place now)) (front ∙ sym heads.told ∙ ap (λ d. head_told channels d after) (one_at channels place channel c is_there at))

    -- And what stood at others stays.
    pub stands_on : (k : ℕ) → (k ≢ place → StandsAt channels before passes k) → StandsAt channels after now k
    stands_on k stood = elim (cases_eq k place) [
      | inl is ↦ subst (StandsAt channels after now) (sym is) stands_told
      | inr ne ↦ λ c at.
          subst (λ head. StandsAs head (first_after (seen_at k now))) (sym (heads.others c (apart_at channels distinct k place c channel at is_there ne)))
          (subst (λ h. StandsAs (head_told channels c before) (first_after h)) (sym (others k ne)) (stood ne c at))
    ]

-- Turns at the readers that tell of no head keep what stands.
pub stands_stay : (channels : List ChannelId) (passes : List SendPass) (before after : List (ℕ × ReaderEntry)) → HeadsStay channels before after → (k : ℕ) →
    StandsAt channels before passes k → StandsAt channels after passes k
stands_stay channels passes before after stay k stood c at = subst (λ head. StandsAs head (first_after (seen_at k passes))) (sym (stay c)) (stood c at)

-- So it is with what the reader whose turn it is was told.
pub stands_next : (own channels : List ChannelId) (passes : List SendPass) (before after : List (ℕ × ReaderEntry)) → own ≡ channels → HeadsStay own before after → (k : ℕ) → StandsAt channels before passes k →
    (c : ChannelId) → slice_get channels k ≡ Some c → StandsAs (head_told own c after) (first_after (seen_at k passes))
stands_next own channels passes before after is stay k stood c at =
    subst (λ cs. StandsAs (head_told cs c after) (first_after (seen_at k passes))) (sym is) (stands_stay channels passes before after (subst (λ cs. HeadsStay cs before after) is stay) k stood c at)

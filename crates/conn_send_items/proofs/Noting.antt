-- What the readers were told of the backlogs, and what stands there, while turns are taken.
use Rattle.std.proofs.Common.{◌≡◌, ◌≢◌, inl, inr, ℕ, zero, suc, ◌<◌, cond, List, [], ◌∷◌, ◌++◌, length, set, get_or, length-set, refl, sym, ap, subst, ◌∙◌, arith}
use Rattle.std.specs.Prelude.{slice_get, Some}
use Rattle.std.proofs.lemmas.Bool.{cases_eq}
use Rattle.flow_defs.specs.declared.task.ChannelId.{ChannelId}
use Rattle.flow_defs.specs.declared.task.Head.{Head}
use Rattle.credit_reader.specs.Senders.{AreDistinct, is_same}
use Rattle.credit_reader.specs.declared.reader.SentKind.{SentKind}
use Rattle.credit_reader.proofs.Channels.{is_same_of}
use Rattle.turn_cell.specs.Passes.{mine}
use Rattle.reader_state.specs.declared.entry.ReaderEntry.{ReaderEntry}
use Rattle.reader_state.specs.declared.entry.ReaderEntry.TheVariants.{Ready, Sent}
use Rattle.reader_state.specs.Standing.{told_last}
use Rattle.conn_parts.specs.Shares.{seen_at}
use Rattle.conn_send_items.specs.declared.cells.Front.{Front}
use Rattle.conn_send_items.specs.declared.cells.SendCells.{SendCells}
use Rattle.conn_send_items.specs.declared.cells.SendPasses.{SendPasses}
use Rattle.conn_send_items.specs.Fronts.{SendPass, backlog_after, OthersStay}
use Rattle.conn_send_items.specs.Steps.{BacklogAt, TellsBacklog, KeepsBacklogs, AreNoted}
use Rattle.conn_send_items.proofs.Standing.{apart_at, one_at, there, stands_in}
use Rattle.conn_send_items.proofs.Saying.{told_more}

module _ (channels : List ChannelId) (place : ℕ) (passes now : List SendPass) (others : OthersStay place passes now) where
  -- A place at which no turn was taken.
  pub backlog_else : (own : List ReaderEntry) (k n : ℕ) → k ≢ place → BacklogAt channels own passes k n → BacklogAt channels own now k n
  backlog_else own k n ne was = (was.0, ap backlog_after (others k ne) ∙ was.1)

  module _ (distinct : AreDistinct channels) (channel : ChannelId) (is_there : slice_get channels place ≡ Some channel) (own own_after : List ReaderEntry) (n : ℕ)
      (told : (c : ChannelId) → told_last c own_after ≡ cond (is_same channel c) n (told_last c own)) where
    -- The reader of the channel is told what stands there.
    pub told_here : backlog_after (seen_at place now) ≡ n → BacklogAt channels own_after now place n
    told_here left = (λ c at. told c ∙ ap (λ b. cond b n (told_last c own)) (is_same_of channel c (one_at channels place channel c is_there at)), left)

    pub told_else : (k m : ℕ) → k ≢ place → BacklogAt channels own passes k m → BacklogAt channels own_after now k m
    told_else k m ne was = (
      λ c at. told c ∙ ap (λ b. cond b n (told_last c own)) (apart_at channels distinct place k channel c is_there at (λ is. ne (sym is))) ∙ was.0 c at,
      ap backlog_after (others k ne) ∙ was.1,
    )

pub ready_tells : (d : ChannelId) (head : Head) (n : ℕ) (own own_after : List ReaderEntry) → own_after ≡ own ++ Ready d head n ∷ [] → (c : ChannelId) → told_last c own_after ≡ cond (is_same d c) n (told_last c own)
ready_tells d head n own own_after is c = told_more c own own_after (Ready d head n) is

pub sent_tells : (d : ChannelId) (what : SentKind) (head : Head) (n : ℕ) (own own_after : List ReaderEntry) → own_after ≡ own ++ Sent d what head n ∷ [] → (c : ChannelId) → told_last c own_after ≡ cond (is_same d c) n (told_last c own)
sent_tells d what head n own own_after is c = told_more c own own_after (Sent d what head n) is

-- Entries that tell no backlog leave it as it was.
pub backlog_same_own : (channels : List ChannelId) (passes : List SendPass) (own own_after : List ReaderEntry) → ((c : ChannelId) → told_last c own_after ≡ told_last c own) → (k n : ℕ) → BacklogAt channels own passes k n → BacklogAt channels own_after passes k n
backlog_same_own channels passes own own_after same k n was = (λ c at. same c ∙ was.0 c at, was.1)

-- ---- what the loop notes

set_here : {X : Type 0} (xs : List X) (i : ℕ) (a x : X) → slice_get (set xs i a) i ≡ Some x → a ≡ x
set_here [] i a x is = absurd (cc)
set_here (y ∷ xs) zero a x is = cc
set_here (y ∷ xs) (suc i) a x is = set_here xs i a x is

set_else : {X : Type 0} (xs : List X) (i k : ℕ) (a : X) → k ≢ i → slice_get (set xs i a) k ≡ slice_get xs k
set_else [] i k a ne = refl
set_else (y ∷ xs) zero zero a ne = absurd (ne refl)
set_else (y ∷ xs) zero (suc k) a ne = refl
set_else (y ∷ xs) (suc i) zero a ne = refl
set_else (y ∷ xs) (suc i) (suc k) a ne = set_else xs i k a (λ e. ne (ap suc e))

module _ (cells : SendCells) (before now : SendPasses) (fronts : List Front) where
  pub noted_still : KeepsBacklogs cells before now → AreNoted cells before fronts → AreNoted cells now fronts
  noted_still keeps noted = record { many = noted.many; each = λ k front at. keeps k front.backlog (noted.each k front at) }

  module _ (place : ℕ) (front : Front) (tells : TellsBacklog cells before now place front) where
    -- The front of a place is noted there, and at the others as many as were.
    pub noted_first : (m : ℕ) → ((k : ℕ) (f : Front) → k < m → k ≢ place → slice_get fronts k ≡ Some f → BacklogAt cells.channels.now (mine before.readers) before.subpartitions.items k f.backlog) →
        (k : ℕ) (f : Front) → k < m → slice_get (set fronts place front) k ≡ Some f → BacklogAt cells.channels.now (mine now.readers) now.subpartitions.items k f.backlog
    noted_first m was k f within at = elim (cases_eq k place) [
      | inl is ↦
          let same : front ≡ f = set_here fronts place front f (ap (slice_get (set fronts place front)) (sym is) ∙ at) in
          subst (λ j. BacklogAt cells.channels.now (mine now.readers) now.subpartitions.items j f.backlog) (sym is)
          (subst (λ (g : Front). BacklogAt cells.channels.now (mine now.readers) now.subpartitions.items place g.backlog) same tells.here)
      | inr ne ↦ tells.others k f.backlog ne (was k f within ne (sym (set_else fronts place k front ne) ∙ at))
    ]

    pub noted_set : AreNoted cells before fronts → AreNoted cells now (set fronts place front)
    noted_set noted = record {
      many = length-set fronts place front ∙ noted.many;
      each = λ k f at. noted_first (suc k) (λ j g within ne at_j. noted.each j g at_j) k f (omega arith) at;
    }

-- What the readers were told last is what stands there.
pub last_noted : (cells : SendCells) (passes : SendPasses) (fronts : List Front) → AreNoted cells passes fronts → (k : ℕ) (c : ChannelId) → slice_get cells.channels.now k ≡ Some c →
    told_last c (mine passes.readers) ≡ backlog_after (seen_at k passes.subpartitions.items)
last_noted cells passes fronts noted k c at =
    let within = there cells.channels.now k c at in
    let front = some_at fronts k (omega (arith, within.0, noted.many)) in
    let is = noted.each k front.0 front.1 in
    is.0 c at ∙ sym is.1
  where
    some_at : (xs : List Front) (j : ℕ) → j < length xs → (x : Front) × (slice_get xs j ≡ Some x)
    some_at [] j within = absurd (omega arith)
    some_at (x ∷ xs) zero within = (x, refl)
    some_at (x ∷ xs) (suc j) within = some_at xs j (omega arith)

pub noted_same : (cells : SendCells) (before now : SendPasses) (fronts same : List Front) → now.readers ≡ before.readers → now.subpartitions ≡ before.subpartitions → same ≡ fronts → AreNoted cells before fronts → AreNoted cells now same
noted_same cells before now fronts same readers subpartitions is noted = subst (AreNoted cells now) (sym is) (record {
  many = noted.many;
  each = λ k f at. let was = noted.each k f at in (
    λ c at_c. ap (λ r. told_last c (mine r)) readers ∙ was.0 c at_c,
    ap (λ ps. backlog_after (seen_at k ps.items)) subpartitions ∙ was.1,
  );
})

-- What the loop reads at a place is so there.
pub noted_at : (cells : SendCells) (passes : SendPasses) (fronts list : List Front) → list ≡ fronts → AreNoted cells passes fronts → (k : ℕ) (d : Front) → k < length list → BacklogAt cells.channels.now (mine passes.readers) passes.subpartitions.items k (get_or list k d).backlog
noted_at cells passes fronts list is noted k d within = noted.each k (get_or list k d) (subst (λ l. slice_get l k ≡ Some (get_or list k d)) is (stands_in list k d within))

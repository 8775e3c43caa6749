-- A record that a writer emits, told of all its channels.
use Rattle.std.proofs.Common.{◌≡◌, ◌≢◌, ◌⊎◌, inl, inr, ℕ, zero, suc, ◌<◌, cond, None, List, [], ◌∷◌, ◌++◌, map, refl, sym, ap, subst, ◌∙◌, append_assoc, append-nil, arith, eq-eqb, ne_eqb}
use Rattle.std.specs.Prelude.{IfSome}
use Rattle.std.specs.List.{All}
use Rattle.std.proofs.lemmas.List.Elements.{All-head, All-tail}
use Rattle.turn_cell.specs.Passes.{seen}
use Rattle.flow_defs.specs.declared.job.Job.{Job}
use Rattle.flow_defs.specs.declared.job.Exchange.{Exchange}
use Rattle.flow_defs.specs.declared.job.Exchange.TheVariants.{Hash, Rebalance, Forward}
use Rattle.flow_defs.specs.Jobs.{tasks, exchange}
use Rattle.flow_defs.specs.Records.{encoded, all_encoded}
use Rattle.subpartition.specs.Sending.{put}
use Rattle.plain_machine.specs.Emitting.{receiver_on, emit, next_count}
use Rattle.conn_parts.specs.Shares.{AreNew}
use Rattle.conn_parts.proofs.Passes.{mine_new}
use Rattle.record_writer.specs.declared.part.Part.{Part}
use Rattle.record_writer.specs.declared.channels.Channels.{Channels}
use Rattle.record_writer.specs.declared.supply.Supply.{Supply}
use Rattle.record_writer.specs.Writers.{Writer, ways, ways_on, receiver_at, bytes_in, AreCut, last_put, GrewByData, PutSome, IsOpen, IsNew, HasEmitted, HasPutData, WasStopped}
use Rattle.record_writer.specs.Segments.{all_held, lending_of}
use Rattle.record_writer.specs.Routers.{IsSelected}
use Rattle.record_writer.specs.Channels.{IsOpenAt, LaidSome}
use Rattle.record_writer.specs.Lists.{IsSameAt, own_of, held_of, laid_of}
use Rattle.record_writer.proofs.Entries.{grew_none}
use Rattle.record_writer.proofs.Lending.{held_in}

-- A writer of these parts.
abbrev pub writer_of : Job → ℕ → ℕ → Channels → Supply → ℕ → Writer
writer_of job e a channels supply emitted = record {
  job = job;
  edge = e;
  index = a;
  cells = channels.subpartitions.now;
  first = channels.first;
  stride = channels.stride;
  size = supply.size;
  pool = supply.pool.now;
  stop = supply.stop.now;
  passes = channels.passes.items;
  stop_pass = supply.stop_pass;
  filling = map bytes_in channels.parts.items;
  lending = lending_of supply;
  held = all_held channels.parts.items;
  emitted = emitted;
}

-- What was laid down on a channel that is as it was.
pub laid_kept : (c : ℕ) (channels channels' : Channels) → IsSameAt c channels channels' → laid_of channels' c ≡ laid_of channels c
laid_kept c channels channels' same = ap (λ es. put es ++ held_of channels' c) same.own ∙ ap (λ l. put (own_of channels c) ++ l) same.held

-- ---- what comes to a channel of one record

is_or_not : (j k : ℕ) → (j ≡ k) ⊎ (j ≢ k)
is_or_not zero zero = inl refl
is_or_not zero (suc k) = inr (λ e. omega arith)
is_or_not (suc j) zero = inr (λ e. omega arith)
is_or_not (suc j) (suc k) = elim (is_or_not j k) [
  | inl is ↦ inl (ap suc is)
  | inr ne ↦ inr (λ e. ne (omega arith))
]

apart : (by : Exchange) (n a c k : ℕ) → c < ways by n → k < ways by n → c ≢ k → receiver_at by a k ≢ receiver_at by a c
apart Hash n a c k low lows ne = λ e. ne (sym e)
apart Rebalance n a c k low lows ne = λ e. ne (sym e)
apart Forward n a c k low lows ne = λ _. ne (omega arith)

module _ (job : Job) (e a n k : ℕ) (r : List ℕ) (selected : IsSelected job e a n r k) where
  abbrev to : ℕ
  to = receiver_on job e a n r

  abbrev comes : ℕ → List ℕ
  comes c = all_encoded (emit (receiver_on job e a) n (r ∷ []) (receiver_at (exchange job e) a c))

  comes_here : comes k ≡ encoded r
  comes_here = ap (λ t. all_encoded (cond t (r ∷ []) [])) (eq-eqb to (receiver_at (exchange job e) a k) (sym selected.leads)) ∙ append-nil (encoded r)

  comes_else : (c : ℕ) → c < ways_on job e → c ≢ k → comes c ≡ []
  comes_else c low ne =
      ap (λ t. all_encoded (cond t (r ∷ []) []))
      (ne_eqb to (receiver_at (exchange job e) a c) (λ same. apart (exchange job e) (tasks job (suc e)) a c k low selected.within ne (selected.leads ∙ same)))

  module _ (channels channels' : Channels) (supply supply' : Supply) (n' : ℕ) (same_size : supply'.size ≡ supply.size)
      (others : (d : ℕ) → d ≢ k → IsSameAt d channels channels') (here : IsOpenAt supply.size (own_of channels' k)) where
    abbrev w : Writer
    w = writer_of job e a channels supply n

    abbrev w' : Writer
    w' = writer_of job e a channels' supply' n'

    laid_else : (d : ℕ) → d ≢ k → laid_of channels' d ≡ laid_of channels d
    laid_else d ne = laid_kept d channels channels' (others d ne)

    open_at : IsOpen w → (c : ℕ) → c < ways_on job e → IsOpenAt supply.size (own_of channels' c)
    open_at was c low = elim (is_or_not c k) [
      | inl is ↦ subst (λ d. IsOpenAt supply.size (own_of channels' d)) (sym is) here
      | inr ne ↦ subst (IsOpenAt supply.size) (sym (others c ne).own) (record { unfinished = (was.each c low).0; buffers = (was.each c low).1; full = was.full c low })
    ]

    pub has_emitted : IsOpen w → laid_of channels' k ≡ laid_of channels k ++ encoded r → n' ≡ next_count n → IsOpen w' × HasEmitted w w' (r ∷ [])
    has_emitted was laid count = (
      record {
        each = λ c low. let o = open_at was c low in (o.unfinished, subst (λ s. AreCut s (own_of channels' c)) (sym same_size) o.buffers);
        full = λ c low. subst (λ s. IfSome (last_put None (own_of channels' c)) (λ n. n ≡ s)) (sym same_size) (open_at was c low).full;
      },
      record {
        count = count;
        each = λ c low. elim (is_or_not c k) [
          | inl is ↦ subst (λ d. laid_of channels' d ≡ laid_of channels d ++ comes d) (sym is) (laid ∙ ap (λ l. laid_of channels k ++ l) (sym comes_here))
          | inr ne ↦ laid_else c ne ∙ sym (append-nil (laid_of channels c)) ∙ ap (λ l. laid_of channels c ++ l) (sym (comes_else c low ne))
        ];
      },
    )

    pub has_put_data : GrewByData (own_of channels k) (own_of channels' k) → HasPutData w w'
    has_put_data grew = λ c low. elim (is_or_not c k) [
      | inl is ↦ subst (λ d. GrewByData (own_of channels d) (own_of channels' d)) (sym is) grew
      | inr ne ↦ grew_none (own_of channels c) (own_of channels' c) (others c ne).own
    ]

    some_put : (c : ℕ) (bytes : List ℕ) → IsOpenAt supply.size (own_of channels' c) → LaidSome bytes (laid_of channels' c) → PutSome supply.size (own_of channels' c) bytes
    some_put c bytes opened some = record {
      owed = held_of channels' c ++ some.rest;
      begins = sym (append_assoc (put (own_of channels' c)) (held_of channels' c) some.rest) ∙ some.begins;
      buffers = opened.buffers;
    }

    pub was_stopped : IsOpen w → LaidSome (laid_of channels k ++ encoded r) (laid_of channels' k) → seen supply'.stop_pass ≢ [] → WasStopped w w' (r ∷ [])
    was_stopped was some fault = record {
      fault = fault;
      each = λ c low. some_put c (laid_of channels c ++ comes c) (open_at was c low) (elim (is_or_not c k) [
        | inl is ↦ subst (λ d. LaidSome (laid_of channels d ++ comes d) (laid_of channels' d)) (sym is)
            (subst (λ l. LaidSome (laid_of channels k ++ l) (laid_of channels' k)) (sym comes_here) some)
        | inr ne ↦ record { rest = []; begins = append-nil (laid_of channels' c) ∙ laid_else c ne ∙ sym (append-nil (laid_of channels c)) ∙ ap (λ l. laid_of channels c ++ l) (sym (comes_else c low ne)) }
      ]);
    }

-- ---- a new writer

none_held : (parts : List Part) → All (λ (part : Part). bytes_in part ≡ []) parts → (c : ℕ) → held_in parts c ≡ []
none_held parts empty c = none parts empty c
  where
    none : (parts : List Part) → All (λ (part : Part). bytes_in part ≡ []) parts → (c : ℕ) → held_in parts c ≡ []
    none [] empty c = refl
    none (p ∷ parts) empty zero = All-head (λ (part : Part). bytes_in part ≡ []) p parts empty
    none (p ∷ parts) empty (suc c) = none parts (All-tail (λ (part : Part). bytes_in part ≡ []) p parts empty) c

open_none : (size : ℕ) → IsOpenAt size []
open_none size = record { unfinished = refl; buffers = tt; full = tt }

pub is_new : (job : Job) (e a : ℕ) (channels : Channels) (supply : Supply) (emitted : ℕ) → AreNew channels.passes.items → All (λ (part : Part). bytes_in part ≡ []) channels.parts.items → all_held channels.parts.items ≡ 0 →
    IsNew (writer_of job e a channels supply emitted) × IsOpen (writer_of job e a channels supply emitted) × ((writer_of job e a channels supply emitted).emitted ≡ emitted)
is_new job e a channels supply emitted new empty unheld = (
  record {
    own = none;
    laid = λ c. ap (λ es. put es ++ held_of channels c) (none c) ∙ none_held channels.parts.items empty c;
    held = unheld;
  },
  record {
    each = λ c _. let o = opened c in (o.unfinished, o.buffers);
    full = λ c _. (opened c).full;
  },
  refl,
)
  where
    none : (c : ℕ) → own_of channels c ≡ []
    none c = mine_new channels.passes.items new c

    opened : (c : ℕ) → IsOpenAt supply.size (own_of channels c)
    opened c = subst (IsOpenAt supply.size) (sym (none c)) (open_none supply.size)

-- What a buffer adds to a channel.
use Rattle.std.proofs.Common.{◌≡◌, ◌≢◌, ℕ, false, zero, suc, Option, ◌+◌, ◌≤◌, List, [], ◌∷◌, ◌++◌, length, take, drop, Some, None, refl, sym, ap, subst, ◌∙◌, append_assoc, append-nil, arith, length-append, Ok, Err}
use Rattle.std.specs.Prelude.{OnOk, OnErr, IfSome}
use Rattle.std.specs.declared.result.Result.{Result}
use Rattle.std.specs.Option.{option_map_or}
use Rattle.std.proofs.lemmas.List.{take_all, take-append-drop, length-take}
use Rattle.subpartition.specs.declared.entry.SendEntry.{SendEntry}
use Rattle.subpartition.specs.declared.entry.SendEntry.TheVariants.{Put}
use Rattle.subpartition.specs.Sending.{put, is_finished}
use Rattle.segment_pool.specs.declared.segment.TheConstants.{SEGMENT_MIN}
use Rattle.record_writer.specs.declared.part.Part.{Part}
use Rattle.record_writer.specs.Writers.{bytes_in, AreCut, last_put}
use Rattle.record_writer.specs.Channels.{IsFilledTo, IsPart, IsOpenAt, PutIfSome, LaidSome, laid, IsSameSupply}
use Rattle.record_writer.specs.declared.supply.Supply.{Supply}
use Rattle.subpartition.proofs.Travelling.{put-append}
use Rattle.record_writer.proofs.Entries.{finished-more, last-append, cut-append}
use Rattle.flow_defs.specs.Records.{length_bytes, encoded}

-- ---- a buffer that was put where it was not empty

pub put_laid : (bytes : List ℕ) (own own' : List SendEntry) → PutIfSome bytes own own' → put own' ≡ put own ++ bytes
put_laid [] own own' is = ap put is ∙ sym (append-nil (put own))
put_laid (b ∷ bytes) own own' is = ap put is ∙ put-append own (Put (b ∷ bytes) ∷ []) ∙ ap (λ l. put own ++ l) (append-nil (b ∷ bytes))

-- A full buffer right before is as long as the least segment at least.
least_before : (size : ℕ) (before : Option ℕ) → SEGMENT_MIN ≤ size → IfSome before (λ n. n ≡ size) → IfSome before (λ n. SEGMENT_MIN ≤ n)
least_before size None least full = tt
least_before size (Some n) least full = omega (arith, least, full)

-- A buffer that fits may be put behind a full one.
pub put_keeps_cut : (size : ℕ) (bytes : List ℕ) (own own' : List SendEntry) → (bytes ≢ [] → SEGMENT_MIN ≤ size) → length bytes ≤ size → IsOpenAt size own → PutIfSome bytes own own' → AreCut size own'
put_keeps_cut size [] own own' least fits was is = subst (AreCut size) (sym is) was.buffers
put_keeps_cut size (b ∷ bytes) own own' least fits was is =
    subst (AreCut size) (sym is) (cut-append size None own (Put (b ∷ bytes) ∷ []) was.buffers (least_before size (last_put None own) (least (λ e. cc)) was.full, fits, tt))

pub put_keeps_unfinished : (bytes : List ℕ) (own own' : List SendEntry) → is_finished own ≡ false → PutIfSome bytes own own' → is_finished own' ≡ false
put_keeps_unfinished [] own own' was is = ap is_finished is ∙ was
put_keeps_unfinished (b ∷ bytes) own own' was is = ap is_finished is ∙ finished-more own (Put (b ∷ bytes) ∷ []) was

-- A full one leaves the channel open.
pub put_keeps_open : (size : ℕ) (bytes : List ℕ) (own own' : List SendEntry) → (bytes ≢ [] → SEGMENT_MIN ≤ size) → length bytes ≡ size → IsOpenAt size own → PutIfSome bytes own own' → IsOpenAt size own'
put_keeps_open size bytes own own' least full was is = record {
  unfinished = put_keeps_unfinished bytes own own' was.unfinished is;
  buffers = put_keeps_cut size bytes own own' least (omega (arith, full)) was is;
  full = last_full bytes full is;
}
  where
    last_full : (bytes : List ℕ) → length bytes ≡ size → PutIfSome bytes own own' → IfSome (last_put None own') (λ n. n ≡ size)
    last_full [] full is = subst (λ (es : List SendEntry). IfSome (last_put None es) (λ n. n ≡ size)) (sym is) was.full
    last_full (b ∷ bytes) full is = subst (λ (x : Option ℕ). IfSome x (λ n. n ≡ size)) (sym (ap (last_put None) is ∙ last-append None own (Put (b ∷ bytes) ∷ []))) full

-- ---- the buffer that is being filled

pub filled_length : (size : ℕ) (segment : Option (List ℕ)) (len : ℕ) → IsFilledTo size segment len → size ≤ len → length (option_map_or (λ (bytes : List ℕ). take len bytes) segment []) ≡ size
filled_length size None len is full = omega (arith, is, full)
filled_length size (Some bytes) len is full = let t = length-take len bytes in omega (arith, t, is.0, is.1, full)

pub filled_least : (size : ℕ) (segment : Option (List ℕ)) (len : ℕ) → IsFilledTo size segment len → option_map_or (λ (bytes : List ℕ). take len bytes) segment [] ≢ [] → SEGMENT_MIN ≤ size
filled_least size None len is some = absurd (some refl)
filled_least size (Some bytes) len is some = is.2

pub filled_fits : (size : ℕ) (segment : Option (List ℕ)) (len : ℕ) → IsFilledTo size segment len → length (option_map_or (λ (bytes : List ℕ). take len bytes) segment []) ≤ size
filled_fits size None len is = omega arith
filled_fits size (Some bytes) len is = let t = length-take len bytes in omega (arith, t, is.0, is.1)

pub full_length : (size : ℕ) (part : Part) → IsPart size part → size ≤ part.len → length (bytes_in part) ≡ size
full_length size part is full = filled_length size part.segment part.len is full

-- Where nothing is left of what is being filled, all is put.
pub laid_after : (own own' : List SendEntry) (part part' : Part) → PutIfSome (bytes_in part) own own' → bytes_in part' ≡ [] → laid own' part' ≡ laid own part
laid_after own own' part part' is none = ap (λ l. put own' ++ l) none ∙ append-nil (put own') ∙ put_laid (bytes_in part) own own' is

-- What was laid down, where neither what was put nor what is being filled has changed.
pub laid_same : (own own' : List SendEntry) (part part' : Part) → own' ≡ own → bytes_in part' ≡ bytes_in part → laid own' part' ≡ laid own part
laid_same own own' part part' is held = ap (λ es. put es ++ bytes_in part') is ∙ ap (λ l. put own ++ l) held

-- ---- more bytes of a record

take_none : (count : ℕ) → take {A = ℕ} count [] ≡ []
take_none zero = refl
take_none (suc count) = refl

none-plus : (count : ℕ) → count ≡ 0 + count
none-plus count = omega arith

suc-plus : (done count : ℕ) → suc done + count ≡ suc (done + count)
suc-plus done count = omega arith

pub take-more : (done count : ℕ) (bytes : List ℕ) → take done bytes ++ take count (drop done bytes) ≡ take (done + count) bytes
take-more zero count bytes = ap (λ n. take n bytes) (none-plus count)
take-more (suc done) count [] = take_none count ∙ sym (take_none (suc done + count))
take-more (suc done) count (b ∷ bytes) = subst (λ n. b ∷ (take done bytes ++ take count (drop done bytes)) ≡ take n (b ∷ bytes)) (sym (suc-plus done count)) (ap (λ l. b ∷ l) (take-more done count bytes))

pub laid_more : (own : List SendEntry) (part part' : Part) (then before bytes : List ℕ) (done count : ℕ) → laid own part ≡ then → then ≡ before ++ take done bytes →
    bytes_in part' ≡ bytes_in part ++ take count (drop done bytes) → laid own part' ≡ before ++ take (done + count) bytes
laid_more own part part' then before bytes done count is was more =
    ap (λ l. put own ++ l) more
    ∙ sym (append_assoc (put own) (bytes_in part) (take count (drop done bytes)))
    ∙ ap (λ l. l ++ take count (drop done bytes)) (is ∙ was)
    ∙ append_assoc before (take done bytes) (take count (drop done bytes))
    ∙ ap (λ l. before ++ l) (take-more done count bytes)

module _ (now then before bytes : List ℕ) (done : ℕ) (is : now ≡ then) (was : then ≡ before ++ take done bytes) where
  pub laid_some : LaidSome (before ++ bytes) now
  laid_some = record {
    rest = drop done bytes;
    begins = ap (λ l. l ++ drop done bytes) (is ∙ was) ∙ append_assoc before (take done bytes) (drop done bytes) ∙ ap (λ l. before ++ l) (take-append-drop done bytes);
  }

  pub laid_all : length bytes ≤ done → now ≡ before ++ bytes
  laid_all all = is ∙ was ∙ ap (λ l. before ++ l) (take_all done bytes all)

length-length_bytes : (n : ℕ) → length (length_bytes n) ≡ 4
unfolding length_bytes
length-length_bytes n = refl

pub encoded_length : (line : List ℕ) → length (encoded line) ≡ length line + 4
encoded_length line = length-append (length_bytes (length line)) line ∙ ap (λ n. n + length line) (length-length_bytes (length line)) ∙ omega arith

-- ---- the supply

pub same_on : (a b c : Supply) → IsSameSupply a b → IsSameSupply b c → IsSameSupply a c
same_on a b c p q = record {
  pool = q.pool ∙ p.pool;
  size = q.size ∙ p.size;
  stop = q.stop ∙ p.stop;
  stop_pass = (q.stop_pass.0 ∙ p.stop_pass.0, q.stop_pass.1 ∙ p.stop_pass.1);
}

-- What follows either way.
pub either_way : {T E A B C : Type 0} (r : Result T E) → OnOk r A → OnErr r B → (A → C) → (B → C) → C
either_way (Ok x) a b f g = f a
either_way (Err x) a b f g = g b

-- What holds however a call ended holds where it failed.
pub on_err : {T E A : Type 0} (r : Result T E) → A → OnErr r A
on_err (Ok x) a = tt
on_err (Err x) a = a

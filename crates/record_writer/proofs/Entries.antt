-- Entries of a channel behind others.
use Rattle.std.proofs.Common.{◌≡◌, ℕ, suc, ◌+◌, true, false, cond, Option, Some, None, List, [], ◌∷◌, ◌++◌, length, map, refl, sym, ap, ◌∙◌, append_assoc, append-nil, length-append, arith}
use Rattle.std.proofs.lemmas.List.{map-append}
use Rattle.flow_defs.specs.declared.task.BarrierKind.TheVariants.{Inline}
use Rattle.subpartition.specs.declared.entry.SendEntry.{SendEntry}
use Rattle.subpartition.specs.declared.entry.SendEntry.TheVariants.{Put, PutInline, PutFront, Finish, Take, Size}
use Rattle.subpartition.specs.Sending.{put, barriers_put, is_finished}
use Rattle.subpartition.proofs.Travelling.{barriers_put-append, is_finished-append}
use Rattle.record_writer.specs.Writers.{AreCutFrom, last_put, GrewByData, GrewUpTo}
use Rattle.record_writer.specs.Channels.{IsNextAt, PutIfSome}

pub finished-more : (own more : List SendEntry) → is_finished own ≡ false → is_finished (own ++ more) ≡ is_finished more
finished-more own more was = is_finished-append own more ∙ ap (λ b. cond b true (is_finished more)) was

pub last-append : (before : Option ℕ) (own more : List SendEntry) → last_put before (own ++ more) ≡ last_put (last_put before own) more
last-append before [] more = refl
last-append before (Put b ∷ own) more = last-append (Some (length b)) own more
last-append before (PutInline k ∷ own) more = last-append None own more
last-append before (PutFront k ∷ own) more = last-append None own more
last-append before (Finish ∷ own) more = last-append None own more
last-append before (Take ∷ own) more = last-append before own more
last-append before (Size n ∷ own) more = last-append before own more

-- Entries that are cut, behind others that are.
pub cut-append : (size : ℕ) (before : Option ℕ) (own more : List SendEntry) → AreCutFrom size before own → AreCutFrom size (last_put before own) more → AreCutFrom size before (own ++ more)
cut-append size before [] more was behind = behind
cut-append size before (Put b ∷ own) more was behind = (was.0, was.1, cut-append size (Some (length b)) own more was.2 behind)
cut-append size before (PutInline k ∷ own) more was behind = cut-append size None own more was behind
cut-append size before (PutFront k ∷ own) more was behind = cut-append size None own more was behind
cut-append size before (Finish ∷ own) more was behind = cut-append size None own more was behind
cut-append size before (Take ∷ own) more was behind = cut-append size before own more was behind
cut-append size before (Size n ∷ own) more was behind = cut-append size before own more was behind

-- ---- what was put behind them

pub grew_none : (own own' : List SendEntry) → own' ≡ own → GrewByData own own'
grew_none own own' is = ([], is ∙ sym (append-nil own))

pub grew_one : (bytes : List ℕ) (own own' : List SendEntry) → PutIfSome bytes own own' → GrewByData own own'
grew_one [] own own' is = grew_none own own' is
grew_one (b ∷ bytes) own own' is = ((b ∷ bytes) ∷ [], is)

pub grew_on : (own mid own' : List SendEntry) → GrewByData own mid → GrewByData mid own' → GrewByData own own'
grew_on own mid own' p q = (
  p.0 ++ q.0,
  q.1 ∙ ap (λ es. es ++ map Put q.0) p.1 ∙ append_assoc own (map Put p.0) (map Put q.0) ∙ ap (λ es. own ++ es) (sym (map-append Put p.0 q.0)),
)

pub grew_up_to : (last : SendEntry) (own mid own' : List SendEntry) → GrewByData own mid → own' ≡ mid ++ last ∷ [] → GrewUpTo last own own'
grew_up_to last own mid own' p is = (p.0, is ∙ ap (λ es. es ++ last ∷ []) p.1)

-- ---- the number of the next barrier

no_barriers : (buffers : List (List ℕ)) → barriers_put (map Put buffers) ≡ []
no_barriers [] = refl
no_barriers (b ∷ buffers) = no_barriers buffers

barriers_of_data : (own : List SendEntry) (buffers : List (List ℕ)) → barriers_put (own ++ map Put buffers) ≡ barriers_put own
barriers_of_data own buffers = barriers_put-append own (map Put buffers) ∙ ap (λ l. barriers_put own ++ l) (no_barriers buffers) ∙ append-nil (barriers_put own)

pub data_keeps_next : (k : ℕ) (own own' : List SendEntry) → GrewByData own own' → IsNextAt k own → IsNextAt k own'
data_keeps_next k own own' grew next = next ∙ ap (λ l. suc (length l)) (sym (ap barriers_put grew.1 ∙ barriers_of_data own grew.0))

-- Behind a barrier the next one has the next number.
pub mark_is_next : (k : ℕ) (own own' : List SendEntry) → GrewUpTo (PutInline k) own own' → IsNextAt k own → IsNextAt (k + 1) own'
mark_is_next k own own' grew next =
    let one : barriers_put own' ≡ barriers_put own ++ (k, Inline) ∷ [] =
    ap barriers_put grew.1 ∙ barriers_put-append (own ++ map Put grew.0) (PutInline k ∷ []) ∙ ap (λ l. l ++ (k, Inline) ∷ []) (barriers_of_data own grew.0) in
    let more : length (barriers_put own') ≡ length (barriers_put own) + 1 = ap length one ∙ length-append (barriers_put own) ((k, Inline) ∷ []) in
    omega (arith, more, next)

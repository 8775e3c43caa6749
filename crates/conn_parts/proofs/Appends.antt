-- Lists of messages that are added one after another, or of which a beginning was read.
use Rattle.std.proofs.Common.{◌≡◌, ℕ, zero, suc, ◌+◌, ◌%◌, ◌^◌, ◌≤◌, Bool, List, [], ◌∷◌, ◌++◌, map, length, refl, ap, ◌∙◌, arith, append-nil}
use Rattle.std.specs.Prelude.{sum_by}
use Rattle.std.proofs.lemmas.Grind.{flat_map-append}
use Rattle.std.proofs.lemmas.List.{map-append}
use Rattle.std.proofs.lemmas.List.Sums.{sum_by-append, sum_by-cons}
use Rattle.turn_cell.specs.History.{StartsWith}
use Rattle.flow_defs.specs.declared.task.ChannelId.{ChannelId}
use Rattle.flow_defs.specs.declared.parcel.Parcel.{Parcel}
use Rattle.net_frames.specs.declared.frame.Frame.{Frame}
use Rattle.net_frames.specs.Frames.{spelling, all_spelled, AreFrames}
use Rattle.conn_parts.specs.Messages.{Message, AreFrom, numbered_in, numbered_on, items_on, sequences_on, counted, credit_in, credit_on, resumption_in, resumptions_on, sizes_in, sizes_on}

-- ---- messages

pub spelled-append : (xs ys : List Message) → all_spelled (xs ++ ys) ≡ all_spelled xs ++ all_spelled ys
spelled-append xs ys = flat_map-append (λ (f : Message). spelling f.0 f.1) xs ys

pub frames-append : (xs ys : List Message) → AreFrames xs → AreFrames ys → AreFrames (xs ++ ys)
frames-append [] ys are more = more
frames-append (x ∷ xs) ys are more = (are.0, frames-append xs ys are.1 more)

pub from-append : (is_from : Frame → Bool) (xs ys : List Message) → AreFrom is_from xs → AreFrom is_from ys → AreFrom is_from (xs ++ ys)
from-append is_from [] ys are more = more
from-append is_from (x ∷ xs) ys are more = (are.0, from-append is_from xs ys are.1 more)

-- One message more.
pub spelled-more : (xs : List Message) (x : Message) → all_spelled (xs ++ x ∷ []) ≡ all_spelled xs ++ spelling x.0 x.1
spelled-more xs x = spelled-append xs (x ∷ []) ∙ ap (λ l. all_spelled xs ++ l) (append-nil (spelling x.0 x.1))

-- ---- channel by channel

pub numbered-append : (c : ChannelId) (xs ys : List Message) → numbered_on c (xs ++ ys) ≡ numbered_on c xs ++ numbered_on c ys
numbered-append c xs ys = flat_map-append (numbered_in c) xs ys

pub items-append : (c : ChannelId) (xs ys : List Message) → items_on c (xs ++ ys) ≡ items_on c xs ++ items_on c ys
items-append c xs ys =
    ap (map (λ (x : ℕ × Parcel). x.1)) (numbered-append c xs ys) ∙ map-append (λ (x : ℕ × Parcel). x.1) (numbered_on c xs) (numbered_on c ys)

pub sequences-append : (c : ChannelId) (xs ys : List Message) → sequences_on c (xs ++ ys) ≡ sequences_on c xs ++ sequences_on c ys
sequences-append c xs ys =
    ap (map (λ (x : ℕ × Parcel). x.0)) (numbered-append c xs ys) ∙ map-append (λ (x : ℕ × Parcel). x.0) (numbered_on c xs) (numbered_on c ys)

pub sizes-append : (c : ChannelId) (xs ys : List Message) → sizes_on c (xs ++ ys) ≡ sizes_on c xs ++ sizes_on c ys
sizes-append c xs ys = flat_map-append (sizes_in c) xs ys

pub credit-append : (c : ChannelId) (xs ys : List Message) → credit_on c (xs ++ ys) ≡ credit_on c xs + credit_on c ys
credit-append c xs ys = sum_by-append (credit_in c) xs ys

pub resumptions-append : (c : ChannelId) (xs ys : List Message) → resumptions_on c (xs ++ ys) ≡ resumptions_on c xs + resumptions_on c ys
resumptions-append c xs ys = sum_by-append (resumption_in c) xs ys

-- ---- one message more

pub numbered-more : (c : ChannelId) (xs : List Message) (x : Message) → numbered_on c (xs ++ x ∷ []) ≡ numbered_on c xs ++ numbered_in c x
numbered-more c xs x = numbered-append c xs (x ∷ []) ∙ ap (λ l. numbered_on c xs ++ l) (append-nil (numbered_in c x))

pub items-more : (c : ChannelId) (xs : List Message) (x : Message) → items_on c (xs ++ x ∷ []) ≡ items_on c xs ++ map (λ (n : ℕ × Parcel). n.1) (numbered_in c x)
items-more c xs x =
    ap (map (λ (n : ℕ × Parcel). n.1)) (numbered-more c xs x) ∙ map-append (λ (n : ℕ × Parcel). n.1) (numbered_on c xs) (numbered_in c x)

pub sequences-more : (c : ChannelId) (xs : List Message) (x : Message) → sequences_on c (xs ++ x ∷ []) ≡ sequences_on c xs ++ map (λ (n : ℕ × Parcel). n.0) (numbered_in c x)
sequences-more c xs x =
    ap (map (λ (n : ℕ × Parcel). n.0)) (numbered-more c xs x) ∙ map-append (λ (n : ℕ × Parcel). n.0) (numbered_on c xs) (numbered_in c x)

pub sizes-more : (c : ChannelId) (xs : List Message) (x : Message) → sizes_on c (xs ++ x ∷ []) ≡ sizes_on c xs ++ sizes_in c x
sizes-more c xs x = sizes-append c xs (x ∷ []) ∙ ap (λ l. sizes_on c xs ++ l) (append-nil (sizes_in c x))

pub credit-more : (c : ChannelId) (xs : List Message) (x : Message) → credit_on c (xs ++ x ∷ []) ≡ credit_on c xs + credit_in c x
credit-more c xs x = let h = credit-append c xs (x ∷ []) in let one : credit_on c (x ∷ []) ≡ credit_in c x = one_sum (credit_in c) x in omega arith
  where
    one_sum : (f : Message → ℕ) (x : Message) → sum_by f (x ∷ []) ≡ f x
    one_sum f x = omega (arith, sum_by-cons f x [])

pub resumptions-more : (c : ChannelId) (xs : List Message) (x : Message) → resumptions_on c (xs ++ x ∷ []) ≡ resumptions_on c xs + resumption_in c x
resumptions-more c xs x = let h = resumptions-append c xs (x ∷ []) in let one : resumptions_on c (x ∷ []) ≡ resumption_in c x = one_sum (resumption_in c) x in omega arith
  where
    one_sum : (f : Message → ℕ) (x : Message) → sum_by f (x ∷ []) ≡ f x
    one_sum f x = omega (arith, sum_by-cons f x [])

-- ---- sequence numbers

pub counted-append : (first m n : ℕ) → counted first (m + n) ≡ counted first m ++ counted (first + m) n
counted-append first zero n =
    let whole : zero + n ≡ n = omega arith in
    let here : first ≡ first + zero = omega arith in
    ap (counted first) whole ∙ ap (λ k. counted k n) here
counted-append first (suc m) n =
    let there : suc first + m ≡ first + suc m = omega arith in
    let whole : suc m + n ≡ suc (m + n) = omega arith in
    ap (counted first) whole ∙ ap (λ l. first % 2 ^ 32 ∷ l) (counted-append (suc first) m n ∙ ap (λ k. counted (suc first) m ++ counted k n) there)

pub counted-more : (first n : ℕ) → counted first (suc n) ≡ counted first n ++ (first + n) % 2 ^ 32 ∷ []
counted-more first n = let whole : suc n ≡ n + 1 = omega arith in ap (counted first) whole ∙ counted-append first n 1

pub length-counted : (first n : ℕ) → length (counted first n) ≡ n
length-counted first zero = refl
length-counted first (suc n) = ap suc (length-counted (suc first) n)

-- ---- beginnings

pub items_start : (c : ChannelId) (written read : List Message) → StartsWith written read → StartsWith (items_on c written) (items_on c read)
items_start c written read front = (items_on c front.0, ap (items_on c) front.1 ∙ items-append c read front.0)

pub numbered_start : (c : ChannelId) (written read : List Message) → StartsWith written read → StartsWith (numbered_on c written) (numbered_on c read)
numbered_start c written read front = (numbered_on c front.0, ap (numbered_on c) front.1 ∙ numbered-append c read front.0)

pub sequences_start : (c : ChannelId) (written read : List Message) → StartsWith written read → StartsWith (sequences_on c written) (sequences_on c read)
sequences_start c written read front = (sequences_on c front.0, ap (sequences_on c) front.1 ∙ sequences-append c read front.0)

pub sizes_start : (c : ChannelId) (written read : List Message) → StartsWith written read → StartsWith (sizes_on c written) (sizes_on c read)
sizes_start c written read front = (sizes_on c front.0, ap (sizes_on c) front.1 ∙ sizes-append c read front.0)

pub credit_within : (c : ChannelId) (written read : List Message) → StartsWith written read → credit_on c read ≤ credit_on c written
credit_within c written read front = let whole = ap (credit_on c) front.1 ∙ credit-append c read front.0 in omega arith

pub resumptions_within : (c : ChannelId) (written read : List Message) → StartsWith written read → resumptions_on c read ≤ resumptions_on c written
resumptions_within c written read front = let whole = ap (resumptions_on c) front.1 ∙ resumptions-append c read front.0 in omega arith

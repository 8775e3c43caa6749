-- The ids of channels from one sender on.
use Rattle.std.proofs.Common.{◌≡◌, ℕ, ◌+◌, ◌<◌, List, ◌++◌, [], ◌∷◌, length, get_or, sym, ap, ◌∙◌, arith}
use Rattle.std.proofs.lemmas.List.FromFn.{get_or-map-range_with_len, length-map-range_with_len, map-range_with_len_more}
use Rattle.std.specs.List.{All}
use Rattle.flow_defs.specs.declared.task.ChannelId.{ChannelId}
use Rattle.conn_harness.specs.Ids.{id_from, ids}

pub ids_more : (n : ℕ) → ids (n + 1) ≡ ids n ++ id_from n ∷ []
ids_more n = map-range_with_len_more id_from 0 n n (omega arith)

pub ids_apart : (n : ℕ) (xs : List ChannelId) → xs ≡ ids n → (i j : ℕ) (d : ChannelId) → i < j → j < length xs → get_or xs i d ≡ get_or xs j d → ⊥
ids_apart n xs e i j d less within same =
    let long : length xs ≡ n = ap length e ∙ length-map-range_with_len id_from 0 n in
    let at_i : get_or xs i d ≡ id_from i = ap (λ ys. get_or ys i d) e ∙ get_or-map-range_with_len id_from 0 n i i d (omega arith) (omega arith) in
    let at_j : get_or xs j d ≡ id_from j = ap (λ ys. get_or ys j d) e ∙ get_or-map-range_with_len id_from 0 n j j d (omega arith) (omega arith) in
    let one : i ≡ j = ap (λ (c : ChannelId). c.from) (sym at_i ∙ same ∙ at_j) in
    absurd (omega (arith, one, less))

pub ids_many : (n : ℕ) (xs : List ChannelId) → xs ≡ ids n → length xs ≡ n
ids_many n xs e = ap length e ∙ length-map-range_with_len id_from 0 n

id_at : (n : ℕ) (xs : List ChannelId) → xs ≡ ids n → (k : ℕ) (d : ChannelId) → k < length xs → get_or xs k d ≡ id_from k
id_at n xs e k d within =
    let long : length xs ≡ n = ids_many n xs e in
    ap (λ ys. get_or ys k d) e ∙ get_or-map-range_with_len id_from 0 n k k d (omega (arith, long, within)) (omega arith)

-- There is a place for each sender, and one for the receiver.
pub senders_within : (n most : ℕ) (xs : List ChannelId) → xs ≡ ids n → most ≡ n → All (λ (c : ChannelId). c.from < most) xs
senders_within n most xs e same k d within =
    let from : (get_or xs k d).from ≡ k = ap (λ (c : ChannelId). c.from) (id_at n xs e k d within) in
    let long : length xs ≡ n = ids_many n xs e in omega (arith, from, long, within, same)

pub receiver_within : (n many : ℕ) (xs : List ChannelId) → xs ≡ ids n → many ≡ 1 → All (λ (c : ChannelId). c.to < many) xs
receiver_within n many xs e one k d within =
    let to : (get_or xs k d).to ≡ 0 = ap (λ (c : ChannelId). c.to) (id_at n xs e k d within) in omega (arith, to, one)

-- Ids of channels and when two are one, and what happens to the reader of one channel.
use Rattle.std.proofs.Common.{◌≡◌, ℕ, true, false, cond, List, [], ◌∷◌, map, Some, refl, ap, subst, ◌∙◌}
use Rattle.std.specs.Option.{option_map}
use Rattle.std.proofs.lemmas.Bool.{eqb-true, eq-eqb, and_parts, and_from, false_from_ne_true}
use Rattle.flow_defs.specs.declared.task.ChannelId.{ChannelId}
use Rattle.credit_reader.specs.declared.reader.Reader.{Reader}
use Rattle.credit_reader.specs.Readers.{Happening, Asked, Granted, Resumed, Ready, Sent, Announced, reader_next}
use Rattle.credit_reader.specs.Senders.{is_same, reader_of, after_at}

-- ---- ids of channels

abbrev id_of : ℕ → ℕ → ℕ → ChannelId
id_of edge from to = record { edge = edge; from = from; to = to }

pub is_same_self : (c : ChannelId) → is_same c c ≡ true
is_same_self c = and_from _ _ (and_from _ _ (eq-eqb c.edge c.edge refl) (eq-eqb c.from c.from refl)) (eq-eqb c.to c.to refl)

pub is_same_of : (c d : ChannelId) → c ≡ d → is_same c d ≡ true
is_same_of c d is = subst (λ e. is_same c e ≡ true) is (is_same_self c)

pub same_channel : (c d : ChannelId) → is_same c d ≡ true → c ≡ d
same_channel c d test =
    let parts = and_parts _ _ test in
    let front = and_parts _ _ parts.0 in
    ap (λ n. id_of n c.from c.to) (eqb-true _ _ front.0) ∙ ap (λ n. id_of d.edge n c.to) (eqb-true _ _ front.1) ∙ ap (λ n. id_of d.edge d.from n) (eqb-true _ _ parts.1)

pub is_other : (c d : ChannelId) → (c ≡ d → ⊥) → is_same c d ≡ false
is_other c d other = false_from_ne_true _ (λ test. other (same_channel c d test))

-- ---- what happens to one reader

pub channel_stays : (r : Reader) (h : Happening) → (reader_next r h).channel ≡ r.channel
channel_stays r (Asked n) = refl
channel_stays r (Granted n) = refl
channel_stays r Resumed = refl
channel_stays r (Ready head backlog) = refl
channel_stays r (Sent what head backlog) = refl
channel_stays r Announced = refl

-- a reader after what happens to that of a channel
abbrev pub touched : ChannelId → Happening → Reader → Reader
touched c h r = cond (is_same r.channel c) (reader_next r h) r

touched_channel : (c : ChannelId) (h : Happening) (r : Reader) → (touched c h r).channel ≡ r.channel
touched_channel c h r = elim (is_same r.channel c) as (λ b. (cond b (reader_next r h) r).channel ≡ r.channel) [ true ↦ channel_stays r h | false ↦ refl ]

pub reader_after : (c : ChannelId) (h : Happening) (d : ChannelId) (rs : List Reader) → reader_of d (after_at c h rs) ≡ option_map (λ r. cond (is_same d c) (reader_next r h) r) (reader_of d rs)
reader_after c h d [] = refl
reader_after c h d (r ∷ rs) =
    ap (λ e. cond (is_same e d) (Some (touched c h r)) (reader_of d (after_at c h rs))) (touched_channel c h r)
    ∙ (elim (is_same r.channel d) as (λ b. is_same r.channel d ≡ b → cond b (Some (touched c h r)) (reader_of d (after_at c h rs)) ≡ option_map (λ r. cond (is_same d c) (reader_next r h) r) (cond b (Some r) (reader_of d rs))) [
      | true ↦ λ is. ap (λ e. Some (cond (is_same e c) (reader_next r h) r)) (same_channel _ _ is)
      | false ↦ λ is. reader_after c h d rs
    ] refl)

-- the channels stay, in their order
pub channels_after : (c : ChannelId) (h : Happening) (rs : List Reader) → map (λ (r : Reader). r.channel) (after_at c h rs) ≡ map (λ (r : Reader). r.channel) rs
channels_after c h [] = refl
channels_after c h (r ∷ rs) = ap (λ e. e ∷ map (λ (r : Reader). r.channel) (after_at c h rs)) (touched_channel c h r) ∙ ap (λ es. r.channel ∷ es) (channels_after c h rs)

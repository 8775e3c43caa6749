-- The queue of those readers that can send holds each of them once, whatever happens.
use Rattle.std.proofs.Common.{◌≡◌, ℕ, zero, suc, ◌+◌, ◌<◌, ◌≤◌, Bool, true, false, not, cond, List, [], ◌∷◌, ◌++◌, drop, map, Option, Some, None, refl, sym, ap, subst, ◌∙◌, append-nil, arith, inl, inr}
use Rattle.std.specs.Prelude.{◌&&◌, count_by, filter, slice_get}
use Rattle.std.specs.List.{range_with_len}
use Rattle.std.specs.Option.{option_map_or}
use Rattle.std.proofs.lemmas.Bool.{cases_Bool, and_parts, ltb-true, false≢true}
use Rattle.std.proofs.lemmas.List.Sums.{sum_by-cons, sum_by_push}
use Rattle.std.proofs.lemmas.Option.{none-some, same_Some}
use Rattle.flow_defs.specs.declared.task.ChannelId.{ChannelId}
use Rattle.flow_defs.specs.declared.task.Head.{Head}
use Rattle.flow_defs.specs.declared.task.Head.TheVariants.{Buffer}
use Rattle.flow_defs.proofs.Lists.{no_cons}
use Rattle.credit_reader.specs.declared.reader.Reader.{Reader}
use Rattle.credit_reader.specs.declared.reader.SentKind.{SentKind}
use Rattle.credit_reader.specs.Readers.{fresh, may_go, can_send, Happening, Asked, Announced, Sent}
use Rattle.credit_reader.specs.Senders.{Sender, sender_of, is_same, reader_of, is_able, after_at, queue_after, happened, has_sent}
use Rattle.credit_reader.specs.Answers.{due_first, announced}
use Rattle.credit_reader.specs.Laws.{HoldsEachOnce, IsFirst, FirstCanSend}
use Rattle.credit_reader.proofs.Channels.{is_same_self, is_same_of, same_channel}
use Rattle.exchange_world.specs.Lanes.{channel_id}
use Rattle.exchange_world.specs.Worlds.{requested}
use Rattle.exchange_world.proofs.LaneLemmas.{reader_there, channel_found}

abbrev one_if : Bool → ℕ
one_if b = cond b 1 0

-- ---- how often a channel stands in a queue

abbrev count : ChannelId → List ChannelId → ℕ
count d queue = count_by (λ e. is_same e d) queue

count_cons : (d e : ChannelId) (queue : List ChannelId) → count d (e ∷ queue) ≡ one_if (is_same e d) + count d queue
count_cons d e queue = sum_by-cons (λ x. one_if (is_same x d)) e queue

count_push : (d e : ChannelId) (queue : List ChannelId) → count d (queue ++ e ∷ []) ≡ count d queue + one_if (is_same e d)
count_push d e queue = sum_by_push (λ x. one_if (is_same x d)) queue e

abbrev without : ChannelId → List ChannelId → List ChannelId
without c queue = filter (λ d. not (is_same d c)) queue

count_without_same : (c : ChannelId) (queue : List ChannelId) → count c (without c queue) ≡ 0
count_without_same c [] = refl
count_without_same c (e ∷ queue) =
    elim (is_same e c) as (λ b. is_same e c ≡ b → count c (cond (not b) (e ∷ without c queue) (without c queue)) ≡ 0) [
      | true ↦ λ is. count_without_same c queue
      | false ↦ λ is. count_cons c e (without c queue) ∙ ap (λ b. one_if b + count c (without c queue)) is ∙ omega (arith, count_without_same c queue)
    ] refl

count_without_other : (c d : ChannelId) → is_same c d ≡ false → (queue : List ChannelId) → count d (without c queue) ≡ count d queue
count_without_other c d other [] = refl
count_without_other c d other (e ∷ queue) =
    elim (is_same e c) as (λ b. is_same e c ≡ b → count d (cond (not b) (e ∷ without c queue) (without c queue)) ≡ count d (e ∷ queue)) [
      | true ↦ λ is. let no : is_same e d ≡ false = subst (λ x. is_same x d ≡ false) (sym (same_channel e c is)) other in
          count_without_other c d other queue ∙ sym (count_cons d e queue ∙ ap (λ b. one_if b + count d queue) no ∙ omega arith)
      | false ↦ λ is. count_cons d e (without c queue) ∙ ap (λ n. one_if (is_same e d) + n) (count_without_other c d other queue) ∙ sym (count_cons d e queue)
    ] refl

-- ---- the queue after something has happened to a channel's reader

counts_here : (c : ChannelId) (was now : Bool) (queue : List ChannelId) → count c queue ≡ one_if was → count c (queue_after c was now queue) ≡ one_if now
counts_here c true true queue is = is
counts_here c true false queue is = count_without_same c queue
counts_here c false true queue is = let self : one_if (is_same c c) ≡ 1 = ap one_if (is_same_self c) in omega (arith, count_push c c queue, is, self)
counts_here c false false queue is = is

counts_there : (c d : ChannelId) (was now : Bool) (queue : List ChannelId) → is_same c d ≡ false → count d (queue_after c was now queue) ≡ count d queue
counts_there c d true true queue other = refl
counts_there c d true false queue other = count_without_other c d other queue
counts_there c d false true queue other = let none : one_if (is_same c d) ≡ 0 = ap one_if other in omega (arith, count_push d c queue, none)
counts_there c d false false queue other = refl

turned : (c d : ChannelId) → is_same d c ≡ false → is_same c d ≡ false
turned c d other = elim (cases_Bool (is_same c d)) [
  | inl is ↦ absurd (false≢true (sym other ∙ is_same_of d c (sym (same_channel c d is))))
  | inr is ↦ is
]

able_there : (c d : ChannelId) (h : Happening) (rs : List Reader) → is_same d c ≡ false → is_able d (after_at c h rs) ≡ is_able d rs
able_there c d h rs other = ap (λ o. option_map_or can_send o false) (reader_there c h rs d other)

pub happened_holds : (c : ChannelId) (h : Happening) (s : Sender) → HoldsEachOnce s → HoldsEachOnce (happened c h s)
happened_holds c h s holds d = elim (cases_Bool (is_same d c)) [
  | inl same ↦ subst (λ e. count e (happened c h s).queue ≡ one_if (is_able e (happened c h s).readers)) (sym (same_channel d c same))
      (counts_here c (is_able c s.readers) (is_able c (after_at c h s.readers)) s.queue (holds c))
  | inr other ↦ counts_there c d (is_able c s.readers) (is_able c (after_at c h s.readers)) s.queue (turned c d other) ∙ holds d ∙ ap one_if (sym (able_there c d h s.readers other))
]

announced_holds_at : (s : Sender) (o : Option Reader) → HoldsEachOnce s → HoldsEachOnce (option_map_or (λ (r : Reader). happened r.channel Announced s) o s)
announced_holds_at s None holds = holds
announced_holds_at s (Some r) holds = happened_holds r.channel Announced s holds

pub announced_holds : (s : Sender) → HoldsEachOnce s → HoldsEachOnce (announced s)
announced_holds s holds = announced_holds_at s (due_first s) holds

-- ---- the queue after its first one has sent

at_most_one : (b : Bool) → one_if b ≤ 1
at_most_one true = omega arith
at_most_one false = omega arith

turn_here : (c : ChannelId) (was now : Bool) (rest : List ChannelId) → count c (c ∷ rest) ≡ one_if was → count c (rest ++ cond now (c ∷ []) []) ≡ one_if now
turn_here c was true rest is =
    let self : one_if (is_same c c) ≡ 1 = ap one_if (is_same_self c) in omega (arith, count_push c c rest, count_cons c c rest, is, self, at_most_one was)
turn_here c was false rest is =
    let self : one_if (is_same c c) ≡ 1 = ap one_if (is_same_self c) in
    ap (count c) (append-nil rest) ∙ omega (arith, count_cons c c rest, is, self, at_most_one was)

turn_there : (c d : ChannelId) (now : Bool) (rest : List ChannelId) → is_same c d ≡ false → count d (rest ++ cond now (c ∷ []) []) ≡ count d (c ∷ rest)
turn_there c d true rest other =
    let none : one_if (is_same c d) ≡ 0 = ap one_if other in omega (arith, count_push d c rest, count_cons d c rest, none)
turn_there c d false rest other =
    let none : one_if (is_same c d) ≡ 0 = ap one_if other in ap (count d) (append-nil rest) ∙ omega (arith, count_cons d c rest, none)

pub has_sent_holds : (c : ChannelId) (what : SentKind) (head : Head) (backlog : ℕ) (s : Sender) (rest : List ChannelId) → s.queue ≡ c ∷ rest → HoldsEachOnce s → HoldsEachOnce (has_sent c what head backlog s)
has_sent_holds c what head backlog s rest first holds d =
    let now = is_able c (after_at c (Sent what head backlog) s.readers) in
    ap (λ q. count d (drop 1 q ++ cond now (c ∷ []) [])) first ∙ (elim (cases_Bool (is_same d c)) [
      | inl same ↦ subst (λ e. count e (rest ++ cond now (c ∷ []) []) ≡ one_if (is_able e (after_at c (Sent what head backlog) s.readers))) (sym (same_channel d c same))
          (turn_here c (is_able c s.readers) now rest (ap (count c) (sym first) ∙ holds c))
      | inr other ↦ turn_there c d now rest (turned c d other) ∙ ap (count d) (sym first) ∙ holds d ∙ ap one_if (sym (able_there c d (Sent what head backlog) s.readers other))
    ])

-- ---- who stands first

at_least_one : (b : Bool) → 1 ≤ one_if b → b ≡ true
at_least_one true le = refl
at_least_one false le = absurd (omega arith)

able_found : (o : Option Reader) → option_map_or can_send o false ≡ true → (r : Reader) × (o ≡ Some r) × (can_send r ≡ true)
able_found None able = absurd (false≢true able)
able_found (Some r) able = (r, refl, able)

-- the first of the queue is a reader that can send
pub first_can_send : (s : Sender) (c : ChannelId) (rest : List ChannelId) → s.queue ≡ c ∷ rest → HoldsEachOnce s → (r : Reader) × (reader_of c s.readers ≡ Some r) × (can_send r ≡ true)
first_can_send s c rest first holds =
    let here : count c (c ∷ rest) ≡ one_if (is_able c s.readers) = ap (count c) (sym first) ∙ holds c in
    let self : one_if (is_same c c) ≡ 1 = ap one_if (is_same_self c) in
    able_found (reader_of c s.readers) (at_least_one (is_able c s.readers) (omega (arith, here, self, count_cons c c rest)))

-- so where data stand first it has credit
credit_behind : (head : Head) (credit : ℕ) → may_go head credit ≡ true → head ≡ Buffer → 1 ≤ credit
credit_behind head credit may is = let less : 0 < credit = ltb-true 0 credit (ap (λ h. may_go h credit) (sym is) ∙ may) in omega (arith, less)

has_first_at : (s : Sender) (c : ChannelId) (queue : List ChannelId) → s.queue ≡ queue → HoldsEachOnce s → slice_get queue 0 ≡ Some c → (r : Reader) × (reader_of c s.readers ≡ Some r) × IsFirst c r
has_first_at s c [] is holds first = absurd (none-some _ first)
has_first_at s c (d ∷ rest) is holds first =
    let able = first_can_send s c rest (is ∙ ap (λ e. e ∷ rest) (same_Some _ _ first)) holds in
    (able.0, able.1, record { channel_is = channel_found c able.0 s.readers able.1; can = able.2; data_have_credit = credit_behind able.0.head able.0.credit (and_parts (able.0.requested && not able.0.blocked) (may_go able.0.head able.0.credit) able.2).1 })

pub has_first : (s : Sender) → HoldsEachOnce s → FirstCanSend s
has_first s holds c first = has_first_at s c s.queue refl holds first

-- ---- the channels of readers

pub same_cons : {A : Type 0} (x y : A) (xs ys : List A) → x ∷ xs ≡ y ∷ ys → (x ≡ y) × (xs ≡ ys)
same_cons x y xs ys e = ((cc), (cc))

-- a reader that is found is one of the channels
pub number_found : (a n : ℕ) (rs : List Reader) (id : ChannelId) (r : Reader) → 1 ≤ a → map (λ (r : Reader). r.channel) rs ≡ map channel_id (range_with_len a n) → reader_of id rs ≡ Some r
    → (c : ℕ) × (a ≤ c) × (c < a + n) × (id ≡ channel_id c)
number_found a n [] id r low channels found = absurd (none-some _ found)
number_found a zero (s ∷ rs) id r low channels found = absurd (no_cons s.channel (map (λ (r : Reader). r.channel) rs) channels)
number_found a (suc n) (s ∷ rs) id r low channels found =
    let parts = same_cons s.channel (channel_id a) (map (λ (r : Reader). r.channel) rs) (map channel_id (range_with_len (a + 1) n)) channels in
    elim (is_same s.channel id) as (λ b. is_same s.channel id ≡ b → cond b (Some s) (reader_of id rs) ≡ Some r → (c : ℕ) × (a ≤ c) × (c < a + suc n) × (id ≡ channel_id c)) [
      | true ↦ λ is e. (a, omega arith, omega arith, sym (same_channel _ _ is) ∙ parts.0)
      | false ↦ λ is e. let later = number_found (a + 1) n rs id r (omega arith) parts.1 e in (later.0, omega (arith, later.1), omega (arith, later.2), later.3)
    ] refl found

-- ---- an opened connection

none_able : (channels : List ChannelId) (c : ChannelId) → is_able c (map fresh channels) ≡ false
none_able [] c = refl
none_able (d ∷ channels) c =
    elim (is_same d c) as (λ b. option_map_or can_send (cond b (Some (fresh d)) (reader_of c (map fresh channels))) false ≡ false) [ true ↦ refl | false ↦ none_able channels c ]

requested_holds : (cs : List ℕ) (s : Sender) → HoldsEachOnce s → HoldsEachOnce (requested cs s)
requested_holds [] s holds = holds
requested_holds (c ∷ cs) s holds = requested_holds cs (happened (channel_id c) (Asked 2) s) (happened_holds (channel_id c) (Asked 2) s holds)

pub opened_holds : (cs : List ℕ) (channels : List ChannelId) → HoldsEachOnce (requested cs (sender_of channels))
opened_holds cs channels = requested_holds cs (sender_of channels) (λ c. sym (ap one_if (none_able channels c)))

-- Histories of a connection, and what each channel has of them.
use Rattle.std.proofs.Common.{◌≡◌, ℕ, Bool, true, false, cond, List, [], ◌∷◌, ◌++◌, map, Option, Some, None, refl, sym, ap, subst, ◌∙◌}
use Rattle.std.specs.Option.{IsSomeAnd, option_map}
use Rattle.std.proofs.lemmas.List.{append-nil}
use Rattle.std.proofs.lemmas.Option.{none-some, same_Some}
use Rattle.flow_defs.specs.declared.task.ChannelId.{ChannelId}
use Rattle.flow_defs.specs.declared.task.Head.{Head}
use Rattle.credit_reader.specs.declared.reader.Reader.{Reader}
use Rattle.credit_reader.specs.declared.reader.SentKind.{SentKind}
use Rattle.credit_reader.specs.Readers.{fresh, Happening, Sent, May, reader_next}
use Rattle.credit_reader.specs.Senders.{Sender, is_same, reader_of, after_at, MayHappen, happened, has_sent}
use Rattle.credit_reader.specs.Laws.{MayAll, after_all, AddsUp, History, after_history, of_channel, HasHistory}
use Rattle.credit_reader.proofs.Adding.{adds_up}
use Rattle.credit_reader.proofs.Channels.{same_channel, reader_after}

-- ---- one more happening

after_all_more : (r : Reader) (hs : List Happening) (h : Happening) → after_all r (hs ++ h ∷ []) ≡ reader_next (after_all r hs) h
after_all_more r [] h = refl
after_all_more r (g ∷ hs) h = after_all_more (reader_next r g) hs h

may_more : (r : Reader) (hs : List Happening) (h : Happening) → MayAll r hs → May (after_all r hs) h → MayAll r (hs ++ h ∷ [])
may_more r [] h may one = (one, tt)
may_more r (g ∷ hs) h may one = (may.0, may_more (reader_next r g) hs h may.1 one)

after_history_more : (rs : List Reader) (history : History) (c : ChannelId) (h : Happening) → after_history rs (history ++ (c, h) ∷ []) ≡ after_at c h (after_history rs history)
after_history_more rs [] c h = refl
after_history_more rs (e ∷ es) c h = after_history_more (after_at e.0 e.1 rs) es c h

of_channel_more : (d : ChannelId) (history : History) (c : ChannelId) (h : Happening) → of_channel d (history ++ (c, h) ∷ []) ≡ of_channel d history ++ cond (is_same d c) (h ∷ []) []
of_channel_more d [] c h = refl
of_channel_more d (e ∷ es) c h =
    ap (λ hs. cond (is_same d e.0) (e.1 ∷ hs) hs) (of_channel_more d es c h)
    ∙ (elim (is_same d e.0) as (λ b. cond b (e.1 ∷ (of_channel d es ++ cond (is_same d c) (h ∷ []) [])) (of_channel d es ++ cond (is_same d c) (h ∷ []) []) ≡ cond b (e.1 ∷ of_channel d es) (of_channel d es) ++ cond (is_same d c) (h ∷ []) []) [
      | true ↦ refl
      | false ↦ refl
    ])

-- ---- each reader is what its own happenings make of it

cond_map : (b : Bool) (r : Reader) (h : Happening) (hs : List Happening) → after_all (cond b (reader_next r h) r) hs ≡ after_all r (cond b (h ∷ hs) hs)
cond_map true r h hs = refl
cond_map false r h hs = refl

map_after : (o : Option Reader) (b : Bool) (h : Happening) (hs : List Happening)
    → option_map (λ r. after_all r hs) (option_map (λ r. cond b (reader_next r h) r) o) ≡ option_map (λ r. after_all r (cond b (h ∷ hs) hs)) o
map_after None b h hs = refl
map_after (Some r) b h hs = ap Some (cond_map b r h hs)

map_same : (o : Option Reader) → o ≡ option_map (λ r. r) o
map_same None = refl
map_same (Some r) = refl

each_by_its_own : (rs : List Reader) (history : History) (c : ChannelId) → reader_of c (after_history rs history) ≡ option_map (λ r. after_all r (of_channel c history)) (reader_of c rs)
each_by_its_own rs [] c = map_same (reader_of c rs)
each_by_its_own rs (e ∷ es) c =
    each_by_its_own (after_at e.0 e.1 rs) es c
    ∙ ap (option_map (λ r. after_all r (of_channel c es))) (reader_after e.0 e.1 c rs)
    ∙ map_after (reader_of c rs) (is_same c e.0) e.1 (of_channel c es)

begins_fresh : (channels : List ChannelId) (c : ChannelId) (r : Reader) → reader_of c (map fresh channels) ≡ Some r → fresh c ≡ r
begins_fresh [] c r is = absurd (none-some r is)
begins_fresh (d ∷ channels) c r is =
    elim (is_same d c) as (λ b. is_same d c ≡ b → cond b (Some (fresh d)) (reader_of c (map fresh channels)) ≡ Some r → fresh c ≡ r) [
      | true ↦ λ same found. ap fresh (sym (same_channel d c same)) ∙ same_Some _ _ found
      | false ↦ λ other found. begins_fresh channels c r found
    ] refl is

own_from : (o : Option Reader) (f : Reader → Reader) (c : ChannelId) (r : Reader) → ((x : Reader) → o ≡ Some x → fresh c ≡ x) → option_map f o ≡ Some r → f (fresh c) ≡ r
own_from None f c r is found = absurd (none-some r found)
own_from (Some x) f c r is found = ap f (is x refl) ∙ same_Some _ _ found

module _ (channels : List ChannelId) (history : History) (s : Sender) (c : ChannelId) (r : Reader) (has : HasHistory channels history s) (there : reader_of c s.readers ≡ Some r) where
  reader_is : after_all (fresh c) (of_channel c history) ≡ r
  reader_is =
      own_from (reader_of c (map fresh channels)) (λ x. after_all x (of_channel c history)) c r (begins_fresh channels c)
      (sym (each_by_its_own (map fresh channels) history c) ∙ ap (reader_of c) (sym has.readers_are) ∙ there)

  pub history_adds_up : AddsUp r (of_channel c history)
  history_adds_up = subst (λ x. AddsUp x (of_channel c history)) reader_is (adds_up c (of_channel c history) (has.may c))

  module _ (h : Happening) (one : May r h) where
    readers_after : after_at c h s.readers ≡ after_history (map fresh channels) (history ++ (c, h) ∷ [])
    readers_after = ap (after_at c h) has.readers_are ∙ sym (after_history_more (map fresh channels) history c h)

    may_after : (d : ChannelId) → MayAll (fresh d) (of_channel d (history ++ (c, h) ∷ []))
    may_after d = subst (MayAll (fresh d)) (sym (of_channel_more d history c h)) (
        elim (is_same d c) as (λ b. is_same d c ≡ b → MayAll (fresh d) (of_channel d history ++ cond b (h ∷ []) [])) [
          | true ↦ λ same. subst (λ e. MayAll (fresh e) (of_channel e history ++ h ∷ [])) (sym (same_channel d c same))
              (may_more (fresh c) (of_channel c history) h (has.may c) (subst (λ x. May x h) (sym reader_is) one))
          | false ↦ λ other. subst (MayAll (fresh d)) (sym (append-nil (of_channel d history))) (has.may d)
        ] refl)

-- a reader that a fact speaks of is there
module _ (P : Reader → Type 0) (Q : Type 0) where
  with_reader : (o : Option Reader) → IsSomeAnd o P → ((r : Reader) → o ≡ Some r → P r → Q) → Q
  with_reader None holds then = absurd holds
  with_reader (Some r) holds then = then r refl holds

pub grows : (channels : List ChannelId) (history : History) (s : Sender) (c : ChannelId) (h : Happening)
    → HasHistory channels history s → MayHappen c h s → HasHistory channels (history ++ (c, h) ∷ []) (happened c h s)
grows channels history s c h has may_happen =
    with_reader (λ r. May r h) (HasHistory channels (history ++ (c, h) ∷ []) (happened c h s)) (reader_of c s.readers) may_happen (λ r there one. record {
      readers_are = readers_after channels history s c r has there h one;
      may = may_after channels history s c r has there h one;
    })

pub grows_by_sending : (channels : List ChannelId) (history : History) (s : Sender) (c : ChannelId) (what : SentKind) (head : Head) (backlog : ℕ)
    → HasHistory channels history s → MayHappen c (Sent what head backlog) s → HasHistory channels (history ++ (c, Sent what head backlog) ∷ []) (has_sent c what head backlog s)
grows_by_sending channels history s c what head backlog has may_happen =
    let grown = grows channels history s c (Sent what head backlog) has may_happen in
    record { readers_are = grown.readers_are; may = grown.may }

pub begins : (channels : List ChannelId) → HasHistory channels [] (record { readers = map fresh channels; queue = [] })
begins channels = record { readers_are = refl; may = λ c. tt }

-- Each pass's own entries tell what it did.
use Rattle.std.proofs.Common.{◌≡◌, ℕ, ◌+◌, Bool, true, false, cond, eqb, List, [], ◌∷◌, ◌++◌, refl, sym, ap, ◌∙◌, arith, append-nil}
use Rattle.std.proofs.lemmas.Bool.{false≢true}
use Rattle.flow_defs.specs.declared.task.ChannelId.{ChannelId}
use Rattle.flow_defs.proofs.NumberLemmas.{eqb_comm}
use Rattle.turn_cell.specs.History.{by, entries_of, IsHistory}
use Rattle.turn_cell.proofs.Histories.{entries_of-append, history_keeps}
use Rattle.turn_cell.proofs.Lists.{by-cons, by-append}
use Rattle.credit_reader.specs.declared.reader.SentKind.{SentKind}
use Rattle.credit_reader.specs.Senders.{is_same}
use Rattle.reader_state.specs.declared.entry.ReaderEntry.{ReaderEntry}
use Rattle.reader_state.specs.declared.entry.ReaderEntry.TheVariants.{Ready, Sent, Told, Asked, Granted, Resumed}
use Rattle.reader_state.specs.Standing.{may_make, MayEnterAs, sent_on, credit_on, resumptions_on, told_last_from, told_last}

-- ---- what lists of entries tell, one after another

pub sent_on-append : (c : ChannelId) (xs ys : List ReaderEntry) → sent_on c (xs ++ ys) ≡ sent_on c xs ++ sent_on c ys
sent_on-append c [] ys = refl
sent_on-append c (Ready d head backlog ∷ xs) ys = sent_on-append c xs ys
sent_on-append c (Sent d what head backlog ∷ xs) ys =
    elim (is_same d c) as (λ b. cond b (what ∷ sent_on c (xs ++ ys)) (sent_on c (xs ++ ys)) ≡ cond b (what ∷ sent_on c xs) (sent_on c xs) ++ sent_on c ys) [
      | true ↦ ap (λ z. what ∷ z) (sent_on-append c xs ys)
      | false ↦ sent_on-append c xs ys
    ]
sent_on-append c (Told d ∷ xs) ys = sent_on-append c xs ys
sent_on-append c (Asked d n ∷ xs) ys = sent_on-append c xs ys
sent_on-append c (Granted d n ∷ xs) ys = sent_on-append c xs ys
sent_on-append c (Resumed d ∷ xs) ys = sent_on-append c xs ys

one_more : (b : Bool) (n all more last : ℕ) → all ≡ more + last → cond b (n + all) all ≡ cond b (n + more) more + last
one_more true n all more last is = omega arith
one_more false n all more last is = is

pub credit_on-append : (c : ChannelId) (xs ys : List ReaderEntry) → credit_on c (xs ++ ys) ≡ credit_on c xs + credit_on c ys
credit_on-append c [] ys = omega arith
credit_on-append c (Ready d head backlog ∷ xs) ys = credit_on-append c xs ys
credit_on-append c (Sent d what head backlog ∷ xs) ys = credit_on-append c xs ys
credit_on-append c (Told d ∷ xs) ys = credit_on-append c xs ys
credit_on-append c (Asked d n ∷ xs) ys = one_more (is_same d c) n (credit_on c (xs ++ ys)) (credit_on c xs) (credit_on c ys) (credit_on-append c xs ys)
credit_on-append c (Granted d n ∷ xs) ys = one_more (is_same d c) n (credit_on c (xs ++ ys)) (credit_on c xs) (credit_on c ys) (credit_on-append c xs ys)
credit_on-append c (Resumed d ∷ xs) ys = credit_on-append c xs ys

pub resumptions_on-append : (c : ChannelId) (xs ys : List ReaderEntry) → resumptions_on c (xs ++ ys) ≡ resumptions_on c xs + resumptions_on c ys
resumptions_on-append c [] ys = omega arith
resumptions_on-append c (Ready d head backlog ∷ xs) ys = resumptions_on-append c xs ys
resumptions_on-append c (Sent d what head backlog ∷ xs) ys = resumptions_on-append c xs ys
resumptions_on-append c (Told d ∷ xs) ys = resumptions_on-append c xs ys
resumptions_on-append c (Asked d n ∷ xs) ys = resumptions_on-append c xs ys
resumptions_on-append c (Granted d n ∷ xs) ys = resumptions_on-append c xs ys
resumptions_on-append c (Resumed d ∷ xs) ys = one_more (is_same d c) 1 (resumptions_on c (xs ++ ys)) (resumptions_on c xs) (resumptions_on c ys) (resumptions_on-append c xs ys)

-- ---- the entries of one pass

-- f tells of a longer list what it tells of both parts, and nothing of an entry of another pass than m
module _ {X : Type 0} (f : List ReaderEntry → X) (join : X → X → X) (joins : (xs ys : List ReaderEntry) → f (xs ++ ys) ≡ join (f xs) (f ys)) (m : ℕ) (nothing : (n : ℕ) (e : ReaderEntry) → may_make n e ≡ true → eqb m n ≡ false → f (e ∷ []) ≡ f []) where
  pub told_by : (channels : List ChannelId) (history : List (ℕ × ReaderEntry)) → IsHistory (MayEnterAs channels) history → f (entries_of history) ≡ f (by m history)
  told_by channels history legal = history_keeps (MayEnterAs channels) (λ h. f (entries_of h) ≡ f (by m h)) refl (λ h x same may.
      ap f (entries_of-append h (x ∷ [])) ∙ joins (entries_of h) (x.1 ∷ []) ∙ ap (λ z. join z (f (x.1 ∷ []))) same
      ∙ ap (join (f (by m h))) (last x may.0) ∙ sym (ap f (by-append m h (x ∷ [])) ∙ joins (by m h) (by m (x ∷ [])))) history legal
    where
      last : (x : ℕ × ReaderEntry) → may_make x.0 x.1 ≡ true → f (x.1 ∷ []) ≡ f (by m (x ∷ []))
      last x makes =
          (elim (eqb m x.0) as (λ b. eqb m x.0 ≡ b → f (x.1 ∷ []) ≡ f (cond b (x.1 ∷ []) [])) [
            | true ↦ λ own. refl
            | false ↦ λ other. nothing x.0 x.1 makes other
          ] refl) ∙ sym (ap f (by-cons m x []))

made_by : {A : Type 0} (m n : ℕ) → eqb n m ≡ true → eqb m n ≡ false → A
made_by m n makes other = absurd (false≢true (sym other ∙ eqb_comm m n ∙ makes))

none_sent : (c : ChannelId) (n : ℕ) (e : ReaderEntry) → may_make n e ≡ true → eqb 0 n ≡ false → sent_on c (e ∷ []) ≡ []
none_sent c n (Ready d head backlog) makes other = refl
none_sent c n (Sent d what head backlog) makes other = made_by 0 n makes other
none_sent c n (Told d) makes other = refl
none_sent c n (Asked d k) makes other = refl
none_sent c n (Granted d k) makes other = refl
none_sent c n (Resumed d) makes other = refl

none_granted : (c : ChannelId) (n : ℕ) (e : ReaderEntry) → may_make n e ≡ true → eqb 1 n ≡ false → credit_on c (e ∷ []) ≡ 0
none_granted c n (Ready d head backlog) makes other = refl
none_granted c n (Sent d what head backlog) makes other = refl
none_granted c n (Told d) makes other = refl
none_granted c n (Asked d k) makes other = made_by 1 n makes other
none_granted c n (Granted d k) makes other = made_by 1 n makes other
none_granted c n (Resumed d) makes other = refl

none_resumed : (c : ChannelId) (n : ℕ) (e : ReaderEntry) → may_make n e ≡ true → eqb 1 n ≡ false → resumptions_on c (e ∷ []) ≡ 0
none_resumed c n (Ready d head backlog) makes other = refl
none_resumed c n (Sent d what head backlog) makes other = refl
none_resumed c n (Told d) makes other = refl
none_resumed c n (Asked d k) makes other = refl
none_resumed c n (Granted d k) makes other = refl
none_resumed c n (Resumed d) makes other = made_by 1 n makes other

pub sent_by : (channels : List ChannelId) (history : List (ℕ × ReaderEntry)) (c : ChannelId) → IsHistory (MayEnterAs channels) history → sent_on c (entries_of history) ≡ sent_on c (by 0 history)
sent_by channels history c legal = told_by (sent_on c) (λ xs ys. xs ++ ys) (sent_on-append c) 0 (none_sent c) channels history legal

pub credit_by : (channels : List ChannelId) (history : List (ℕ × ReaderEntry)) (c : ChannelId) → IsHistory (MayEnterAs channels) history → credit_on c (entries_of history) ≡ credit_on c (by 1 history)
credit_by channels history c legal = told_by (credit_on c) (λ n m. n + m) (credit_on-append c) 1 (none_granted c) channels history legal

pub resumptions_by : (channels : List ChannelId) (history : List (ℕ × ReaderEntry)) (c : ChannelId) → IsHistory (MayEnterAs channels) history → resumptions_on c (entries_of history) ≡ resumptions_on c (by 1 history)
resumptions_by channels history c legal = told_by (resumptions_on c) (λ n m. n + m) (resumptions_on-append c) 1 (none_resumed c) channels history legal

-- ---- the backlog that was told last

pub told_from-append : (c : ChannelId) (n : ℕ) (xs ys : List ReaderEntry) → told_last_from c n (xs ++ ys) ≡ told_last_from c (told_last_from c n xs) ys
told_from-append c n [] ys = refl
told_from-append c n (Ready d head backlog ∷ xs) ys = told_from-append c (cond (is_same d c) backlog n) xs ys
told_from-append c n (Sent d what head backlog ∷ xs) ys = told_from-append c (cond (is_same d c) backlog n) xs ys
told_from-append c n (Told d ∷ xs) ys = told_from-append c n xs ys
told_from-append c n (Asked d k ∷ xs) ys = told_from-append c n xs ys
told_from-append c n (Granted d k ∷ xs) ys = told_from-append c n xs ys
told_from-append c n (Resumed d ∷ xs) ys = told_from-append c n xs ys

none_told : (c : ChannelId) (n m : ℕ) (e : ReaderEntry) → may_make m e ≡ true → eqb 0 m ≡ false → told_last_from c n (e ∷ []) ≡ n
none_told c n m (Ready d head backlog) makes other = made_by 0 m makes other
none_told c n m (Sent d what head backlog) makes other = made_by 0 m makes other
none_told c n m (Told d) makes other = refl
none_told c n m (Asked d k) makes other = refl
none_told c n m (Granted d k) makes other = refl
none_told c n m (Resumed d) makes other = refl

pub backlog_by : (channels : List ChannelId) (history : List (ℕ × ReaderEntry)) (c : ChannelId) → IsHistory (MayEnterAs channels) history → told_last c (entries_of history) ≡ told_last c (by 0 history)
backlog_by channels history c legal = history_keeps (MayEnterAs channels) (λ h. told_last c (entries_of h) ≡ told_last c (by 0 h)) refl (λ h x same may.
    ap (told_last c) (entries_of-append h (x ∷ [])) ∙ told_from-append c 0 (entries_of h) (x.1 ∷ []) ∙ ap (λ n. told_last_from c n (x.1 ∷ [])) same
    ∙ last (told_last c (by 0 h)) x may.0 ∙ sym (ap (told_last c) (by-append 0 h (x ∷ [])) ∙ told_from-append c 0 (by 0 h) (by 0 (x ∷ [])))) history legal
  where
    last : (n : ℕ) (x : ℕ × ReaderEntry) → may_make x.0 x.1 ≡ true → told_last_from c n (x.1 ∷ []) ≡ told_last_from c n (by 0 (x ∷ []))
    last n x makes =
        (elim (eqb 0 x.0) as (λ b. eqb 0 x.0 ≡ b → told_last_from c n (x.1 ∷ []) ≡ told_last_from c n (cond b (x.1 ∷ []) [])) [
          | true ↦ λ own. refl
          | false ↦ λ other. none_told c n x.0 x.1 makes other
        ] refl) ∙ sym (ap (told_last_from c n) (by-cons 0 x []))

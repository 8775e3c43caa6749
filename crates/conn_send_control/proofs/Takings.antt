-- What a turn of a writer of control frames makes of a history.
use Rattle.std.proofs.Common.{◌≡◌, ℕ, ◌+◌, ◌-◌, ◌<◌, Bool, true, List, [], ◌∷◌, ◌++◌, refl, sym, ap, subst, ◌∙◌, arith, append_assoc}
use Rattle.std.specs.Prelude.{sum_by}
use Rattle.std.proofs.lemmas.List.Sums.{sum_by-append, sum_by-cons}
use Rattle.flow_defs.proofs.ParcelLemmas.{end_stays}
use Rattle.turn_cell.specs.History.{StartsWith, entries_of}
use Rattle.turn_cell.proofs.Histories.{entries_of-append}
use Rattle.flow_defs.specs.declared.parcel.Parcel.{Parcel}
use Rattle.flow_defs.specs.declared.parcel.Parcel.TheVariants.{Data, Barrier, End}
use Rattle.flow_defs.specs.Parcels.{has_end}
use Rattle.input_channel.specs.declared.entry.ReceiveEntry.{ReceiveEntry}
use Rattle.input_channel.specs.declared.entry.ReceiveEntry.TheVariants.{Credit, Resume}
use Rattle.input_channel.specs.Inboxes.{pushed}
use Rattle.input_channel.specs.Counts.{told}
use Rattle.input_channel.specs.Legal.{may_receive, credit_of, credit_told, is_resume, resumes}
use Rattle.input_channel.specs.States.{ChannelState, channel_next, ChannelStandsFor}
use Rattle.input_channel.specs.Theorems.{CallsAreLegal, CallsAddEntries}
use Rattle.input_channel.proofs.CountLemmas.{count-snoc}
use Rattle.input_channel.proofs.InboxLaws.{pushed-append}
use Rattle.conn_send_control.specs.Taking.{Took, HasSeenEnd}

-- ---- the history for which the channel stands

pub credit_stands : CallsAreLegal → CallsAddEntries → (c now : ChannelState) (h : List (ℕ × ReceiveEntry)) (n given : ℕ) →
    ChannelStandsFor c h → n ≡ 2 → given ≡ told c.counts → now ≡ channel_next c (Credit given) → ChannelStandsFor now (h ++ (n, Credit given) ∷ [])
credit_stands legal adds c now h n given stands writer is now_is =
    subst (λ s. ChannelStandsFor s (h ++ (n, Credit given) ∷ [])) (sym now_is)
    (adds c h n (Credit given) stands (ap (λ m. may_receive m (Credit given)) writer, legal c h (Credit given) stands is))

pub resume_stands : CallsAreLegal → CallsAddEntries → (c now : ChannelState) (h : List (ℕ × ReceiveEntry)) (n : ℕ) →
    ChannelStandsFor c h → n ≡ 2 → 0 < c.asked → now ≡ channel_next c Resume → ChannelStandsFor now (h ++ (n, Resume) ∷ [])
resume_stands legal adds c now h n stands writer asked now_is =
    subst (λ s. ChannelStandsFor s (h ++ (n, Resume) ∷ [])) (sym now_is)
    (adds c h n Resume stands (ap (λ m. may_receive m Resume) writer, legal c h Resume stands asked))

-- Without a resumption that was asked for the channel is as it was.
pub not_resumed : (c : ChannelState) → c.asked ≡ 0 → channel_next c Resume ≡ c
not_resumed c none = let same : c.asked - 1 ≡ c.asked = omega arith in ap (λ n. record c { asked = n }) same

-- ---- what was taken

one_sum : (f : ReceiveEntry → ℕ) (x : ReceiveEntry) → sum_by f (x ∷ []) ≡ f x
one_sum f x = omega (arith, sum_by-cons f x [])

pub took_credit : (before now : List ReceiveEntry) (given : ℕ) → now ≡ before ++ Credit given ∷ [] → Took given 0 before now
took_credit before now given is = record {
  credit_is = ap credit_told is ∙ sum_by-append credit_of before (Credit given ∷ []) ∙ ap (λ n. credit_told before + n) (one_sum credit_of (Credit given));
  resumed_is = ap resumes is ∙ count-snoc is_resume before (Credit given);
}

pub took_resumption : (before now : List ReceiveEntry) → now ≡ before ++ Resume ∷ [] → Took 0 1 before now
took_resumption before now is = record {
  credit_is = ap credit_told is ∙ sum_by-append credit_of before (Resume ∷ []) ∙ ap (λ n. credit_told before + n) (one_sum credit_of Resume);
  resumed_is = ap resumes is ∙ count-snoc is_resume before Resume;
}

pub took_nothing : (before now : List ReceiveEntry) → now ≡ before → Took 0 0 before now
took_nothing before now is = record {
  credit_is = let same = ap credit_told is in omega arith;
  resumed_is = let same = ap resumes is in omega arith;
}

-- ---- what was seen

pub saw_more : (seen mid now : List (ℕ × ReceiveEntry)) (more : List (ℕ × ReceiveEntry)) → StartsWith mid seen → now ≡ mid ++ more → StartsWith now seen
saw_more seen mid now more (rest, is) now_is = (rest ++ more, now_is ∙ ap (λ l. l ++ more) is ∙ append_assoc seen rest more)

pub saw_same : (seen mid now : List (ℕ × ReceiveEntry)) → StartsWith mid seen → now ≡ mid → StartsWith now seen
saw_same seen mid now (rest, is) now_is = (rest, now_is ∙ is)

-- An end that has come stays.
pub still_ended : (seen now : List (ℕ × ReceiveEntry)) → StartsWith now seen → HasSeenEnd seen → HasSeenEnd now
still_ended seen now (rest, is) e =
    ap (λ h. has_end (pushed (entries_of h))) is ∙ ap (λ es. has_end (pushed es)) (entries_of-append seen rest)
    ∙ ap has_end (pushed-append (entries_of seen) (entries_of rest)) ∙ end_stays (pushed (entries_of seen)) (pushed (entries_of rest)) e

pub end_told : (c : ChannelState) (h now : List (ℕ × ReceiveEntry)) (ended : Bool) → ChannelStandsFor c h → ended ≡ c.ended → StartsWith now h → ended ≡ true → HasSeenEnd now
end_told c h now ended stands is more e = still_ended h now more (sym stands.keeps.ended ∙ sym is ∙ e)

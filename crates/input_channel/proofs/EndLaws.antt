-- Nothing waits behind the end.
use Rattle.std.proofs.Common.{◌≡◌, ℕ, Bool, true, false, true≢false, cond, List, [], ◌∷◌, ◌++◌, refl, sym, ap, subst, ◌∙◌, append-nil, ◌⊎◌, inl, inr}
use Rattle.std.specs.Prelude.{◌&&◌, option_to_list, drop, None}
use Rattle.turn_cell.proofs.Histories.{history_keeps}
use Rattle.flow_defs.specs.declared.parcel.Parcel.{Parcel}
use Rattle.flow_defs.specs.declared.parcel.Parcel.TheVariants.{Data, Barrier, End}
use Rattle.flow_defs.specs.Parcels.{has_end}
use Rattle.input_channel.specs.declared.entry.ReceiveEntry.{ReceiveEntry}
use Rattle.input_channel.specs.declared.entry.ReceiveEntry.TheVariants.{Push, Poll, Returned, Added, Backlog, Credit, Shut, Ask, Resume, Save, Saved}
use Rattle.input_channel.specs.Inboxes.{front_waits, first_parcel, first_barrier, without_barrier, due, undue, is_barrier, poll_gives, poll_leaves, Waits, waiting, inbox, received_one, pushed}
use Rattle.input_channel.specs.Legal.{MayReceive}
use Rattle.input_channel.specs.Theorems.{EndIsGivenLast}
use Rattle.input_channel.proofs.InboxLaws.{inbox-more, pushed-append, polled-given, polled-waiting, waiting-append}

-- The end stands last, if at all.
abbrev EndsLast : List Parcel → Type 0
EndsLast [] = Unit {0}
EndsLast (Data bytes ∷ ps) = EndsLast ps
EndsLast (Barrier k kind ∷ ps) = EndsLast ps
EndsLast (End ∷ ps) = ps ≡ []

-- It came where it was given or waits, and once it was given nothing waits.
record EndStands (given waits came : List Parcel) : Type 0 where
  last : EndsLast waits
  waits_came : has_end waits ≡ true → has_end came ≡ true
  given_came : has_end given ≡ true → has_end came ≡ true
  none_left : has_end given ≡ true → waits ≡ []

end_in : (xs ys : List Parcel) → has_end (xs ++ ys) ≡ true → (has_end xs ≡ true) ⊎ (has_end ys ≡ true)
end_in [] ys h = inr h
end_in (Data bytes ∷ xs) ys h = end_in xs ys h
end_in (Barrier k kind ∷ xs) ys h = end_in xs ys h
end_in (End ∷ xs) ys h = inl refl

end_behind : (xs ys : List Parcel) → has_end ys ≡ true → has_end (xs ++ ys) ≡ true
end_behind [] ys h = h
end_behind (Data bytes ∷ xs) ys h = end_behind xs ys h
end_behind (Barrier k kind ∷ xs) ys h = end_behind xs ys h
end_behind (End ∷ xs) ys h = refl

last-more : (ps : List Parcel) (p : Parcel) → (has_end ps ≡ true → ⊥) → EndsLast (ps ++ p ∷ [])
last-more [] (Data bytes) none = tt
last-more [] (Barrier k kind) none = tt
last-more [] End none = refl
last-more (Data bytes ∷ ps) p none = last-more ps p none
last-more (Barrier k kind ∷ ps) p none = last-more ps p none
last-more (End ∷ ps) p none = absurd (none refl)

last-without : (ps : List Parcel) → EndsLast ps → EndsLast (without_barrier ps)
last-without [] h = h
last-without (Data bytes ∷ ps) h = last-without ps h
last-without (Barrier k kind ∷ ps) h = h
last-without (End ∷ ps) h = ap without_barrier h

end-without : (ps : List Parcel) → has_end (without_barrier ps) ≡ has_end ps
end-without [] = refl
end-without (Data bytes ∷ ps) = end-without ps
end-without (Barrier k kind ∷ ps) = refl
end-without (End ∷ ps) = refl

no_end_due : (ps : List Parcel) → has_end (option_to_list (first_barrier ps)) ≡ true → ⊥
no_end_due [] h = true≢false (sym h)
no_end_due (Data bytes ∷ ps) h = no_end_due ps h
no_end_due (Barrier k kind ∷ ps) h = true≢false (sym h)
no_end_due (End ∷ ps) h = no_end_due ps h

push_stands : (given waits came : List Parcel) (p : Parcel) → EndStands given waits came → has_end came ≡ false → EndStands given (waits ++ p ∷ []) (came ++ p ∷ [])
push_stands given waits came p s before =
    let not_given : has_end given ≡ true → ⊥ = λ h. true≢false (sym (s.given_came h) ∙ before) in
    let not_waits : has_end waits ≡ true → ⊥ = λ h. true≢false (sym (s.waits_came h) ∙ before) in
    record {
      last = last-more waits p not_waits;
      waits_came = λ h. elim (end_in waits (p ∷ []) h) [ inl w ↦ absurd (not_waits w) | inr q ↦ end_behind came (p ∷ []) q ];
      given_came = λ h. absurd (not_given h);
      none_left = λ h. absurd (not_given h);
    }

barrier_stands : (given waits came : List Parcel) → EndStands given waits came → EndStands (given ++ option_to_list (first_barrier waits)) (without_barrier waits) came
barrier_stands given waits came s =
    let was_given : has_end (given ++ option_to_list (first_barrier waits)) ≡ true → has_end given ≡ true = λ h.
    elim (end_in given (option_to_list (first_barrier waits)) h) [ inl g ↦ g | inr q ↦ absurd (no_end_due waits q) ] in
    record {
      last = last-without waits s.last;
      waits_came = λ h. s.waits_came (sym (end-without waits) ∙ h);
      given_came = λ h. s.given_came (was_given h);
      none_left = λ h. ap without_barrier (s.none_left (was_given h));
    }

first_stands : (given waits came : List Parcel) → EndStands given waits came → EndStands (given ++ option_to_list (first_parcel waits)) (drop 1 waits) came
first_stands given [] came s = subst (λ g. EndStands g [] came) (sym (append-nil given)) s
first_stands given (Data bytes ∷ ps) came s =
    let was_given : has_end (given ++ Data bytes ∷ []) ≡ true → has_end given ≡ true = λ h.
    elim (end_in given (Data bytes ∷ []) h) [ inl g ↦ g | inr q ↦ absurd (true≢false (sym q)) ] in
    record {
      last = s.last;
      waits_came = s.waits_came;
      given_came = λ h. s.given_came (was_given h);
      none_left = λ h. ap (drop 1) (s.none_left (was_given h));
    }
first_stands given (Barrier k kind ∷ ps) came s =
    let was_given : has_end (given ++ Barrier k kind ∷ []) ≡ true → has_end given ≡ true = λ h.
    elim (end_in given (Barrier k kind ∷ []) h) [ inl g ↦ g | inr q ↦ absurd (true≢false (sym q)) ] in
    record {
      last = s.last;
      waits_came = s.waits_came;
      given_came = λ h. s.given_came (was_given h);
      none_left = λ h. ap (drop 1) (s.none_left (was_given h));
    }
first_stands given (End ∷ ps) came s =
    record {
      last = subst EndsLast (sym s.last) tt;
      waits_came = λ h. s.waits_came refl;
      given_came = λ h. s.waits_came refl;
      none_left = λ h. s.last;
    }

poll_stands : (hold : Bool) (given waits came : List Parcel) → EndStands given waits came → EndStands (given ++ option_to_list (poll_gives hold waits)) (poll_leaves hold waits) came
poll_stands hold given waits came s =
    elim (hold && is_barrier (due waits)) as (λ b. EndStands (given ++ option_to_list (cond b None (due waits))) (cond b waits (undue waits)) came) [
      | true ↦ subst (λ g. EndStands g waits came) (sym (append-nil given)) s
      | false ↦ elim (front_waits waits) as (λ b. EndStands (given ++ option_to_list (cond b (first_barrier waits) (first_parcel waits))) (cond b (without_barrier waits) (drop 1 waits)) came) [
        | true ↦ barrier_stands given waits came s
        | false ↦ first_stands given waits came s
      ]
    ]

-- What stands after these entries.
Stands : List ReceiveEntry → Type 0
Stands es = EndStands (inbox es).given (waiting (inbox es).arrivals) (pushed es)

-- An entry that neither gives nor brings anything.
same_stands : (es : List ReceiveEntry) (e : ReceiveEntry) → received_one (inbox es) e ≡ inbox es → pushed (e ∷ []) ≡ [] → Stands es → Stands (es ++ e ∷ [])
unfolding Stands
same_stands es e same none s =
    subst (λ i. EndStands i.given (waiting i.arrivals) (pushed (es ++ e ∷ []))) (sym (inbox-more es e ∙ same))
    (subst (EndStands (inbox es).given (waiting (inbox es).arrivals)) (sym (pushed-append es (e ∷ []) ∙ ap (λ ps. pushed es ++ ps) none ∙ append-nil (pushed es))) s)

stands_more : (room : ℕ) (es : List ReceiveEntry) (e : ReceiveEntry) → Stands es → MayReceive room es e → Stands (es ++ e ∷ [])
unfolding Stands
stands_more room es (Push p backlog) s may =
    subst (λ i. EndStands i.given (waiting i.arrivals) (pushed (es ++ Push p backlog ∷ []))) (sym (inbox-more es (Push p backlog)))
    (subst (λ ws. EndStands (inbox es).given ws (pushed (es ++ Push p backlog ∷ []))) (sym (waiting-append (inbox es).arrivals (Waits p ∷ [])))
    (subst (EndStands (inbox es).given (waiting (inbox es).arrivals ++ p ∷ [])) (sym (pushed-append es (Push p backlog ∷ [])))
    (push_stands (inbox es).given (waiting (inbox es).arrivals) (pushed es) p s may.before_end)))
stands_more room es (Poll hold gave) s may =
    subst (λ i. EndStands i.given (waiting i.arrivals) (pushed (es ++ Poll hold gave ∷ []))) (sym (inbox-more es (Poll hold gave)))
    (subst (λ g. EndStands g (waiting (received_one (inbox es) (Poll hold gave)).arrivals) (pushed (es ++ Poll hold gave ∷ []))) (sym (polled-given hold (inbox es)))
    (subst (λ ws. EndStands ((inbox es).given ++ option_to_list (poll_gives hold (waiting (inbox es).arrivals))) ws (pushed (es ++ Poll hold gave ∷ []))) (sym (polled-waiting hold (inbox es)))
    (subst (EndStands ((inbox es).given ++ option_to_list (poll_gives hold (waiting (inbox es).arrivals))) (poll_leaves hold (waiting (inbox es).arrivals))) (sym (pushed-append es (Poll hold gave ∷ []) ∙ append-nil (pushed es)))
    (poll_stands hold (inbox es).given (waiting (inbox es).arrivals) (pushed es) s))))
stands_more room es (Returned exclusive) s may = same_stands es (Returned exclusive) refl refl s
stands_more room es Added s may = same_stands es Added refl refl s
stands_more room es (Backlog backlog) s may = same_stands es (Backlog backlog) refl refl s
stands_more room es (Credit given) s may = same_stands es (Credit given) refl refl s
stands_more room es Shut s may = same_stands es Shut refl refl s
stands_more room es Ask s may = same_stands es Ask refl refl s
stands_more room es Resume s may = same_stands es Resume refl refl s
stands_more room es (Save k kept) s may = same_stands es (Save k kept) refl refl s
stands_more room es (Saved k) s may = same_stands es (Saved k) refl refl s

pub end_is_given_last : EndIsGivenLast
unfolding Stands
end_is_given_last room es history given =
    let s : EndStands (inbox es).given (waiting (inbox es).arrivals) (pushed es) =
    history_keeps (MayReceive room) Stands (record { last = tt; waits_came = λ h. h; given_came = λ h. h; none_left = λ h. refl }) (stands_more room) es history in
    (s.none_left given, s.given_came given)

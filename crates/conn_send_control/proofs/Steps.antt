-- Steps of the loop, and what passes have seen after them.
use Rattle.std.proofs.Common.{◌≡◌, inl, inr, ℕ, ◌<◌, ◌≤◌, false, List, [], ◌++◌, length, get_or, set, refl, sym, ap, subst, ◌∙◌, append_assoc, append-nil}
use Rattle.std.specs.Prelude.{Option, All, Result, Ok, Err}
use Rattle.std.specs.List.{refill}
use Rattle.std.proofs.lemmas.List.Elements.{All-nil, All-append}
use Rattle.turn_cell.specs.declared.pass.Pass.{Pass}
use Rattle.turn_cell.specs.History.{StartsWith}
use Rattle.turn_cell.specs.Passes.{seen}
use Rattle.flow_defs.specs.declared.task.ChannelId.{ChannelId}
use Rattle.flow_defs.specs.declared.cause.Cause.{Cause}
use Rattle.flow_defs.specs.declared.cause.Cause.TheVariants as causes
use Rattle.flow_defs.proofs.Lists.{refilled_set}
use Rattle.net_frames.specs.Frames.{AreFrames, all_spelled}
use Rattle.outside.specs.Links.{Appended}
use Rattle.input_channel.specs.declared.entry.ReceiveEntry.{ReceiveEntry}
use Rattle.conn_parts.specs.Messages.{Message, is_request, requests_of}
use Rattle.conn_parts.specs.Shares.{seen_at}
use Rattle.conn_parts.proofs.Appends.{spelled-append}
use Rattle.conn_parts.proofs.Passes.{seen_set, seen_more}
use Rattle.conn_parts.proofs.Telling.{appended_none, appended_more}
use Rattle.conn_send_control.specs.Taking.{HasSeenEnd, HaveSeenMore}
use Rattle.conn_send_control.specs.Going.{LieStill, AreCut, GoneOut, Told, Announced, AllEnded, EndedFor, RanFor}
use Rattle.conn_send_control.proofs.Going.{lie_more, lie_on, lie_all, cut_on, cut_longer, gone_on}
use Rattle.conn_send_control.proofs.Telling.{told_none, told_on, told_requests}

no_later : All (λ (m : Message). is_request m.0 ≡ false) []
no_later = All-nil (λ (m : Message). is_request m.0 ≡ false)

module _ {S F T E : Type 0} (channels : List ChannelId) where
  -- Nothing was done.
  pub announced_none : (ps : List (Pass S ReceiveEntry F)) (a : Option (List ℕ)) (laid : List ℕ) (f : ℕ) (done : T) → Announced {S = S} {F = F} {T = T} {E = E} channels ps ps a a laid laid f f (Ok done)
  announced_none ps a laid f done = record { messages = []; told = told_none channels ps; later = no_later; out = ([], appended_none a, append-nil laid) }

  -- A write failed before anything was taken.
  pub announced_cut : (ps : List (Pass S ReceiveEntry F)) (a b : Option (List ℕ)) (laid left : List ℕ) (f g : ℕ) (failed : E) (result : Result T E) → result ≡ Err failed → AreCut a b f g laid →
      Announced channels ps ps a b laid left f g result
  announced_cut ps a b laid left f g failed result is cut =
      subst (λ r. Announced channels ps ps a b laid left f g r) (sym is) (record { messages = []; told = told_none channels ps; later = no_later; out = cut_longer a b f g laid [] cut })

  -- All that lay there was written.
  pub announced_written : (ps : List (Pass S ReceiveEntry F)) (a b : Option (List ℕ)) (laid left : List ℕ) (f g : ℕ) (done : T) → left ≡ [] → Appended a b laid →
      Announced {S = S} {F = F} {T = T} {E = E} channels ps ps a b laid left f g (Ok done)
  announced_written ps a b laid left f g done empty told = record { messages = []; told = told_none channels ps; later = no_later; out = (laid, told, ap (λ l. laid ++ l) (sym empty)) }

  -- Messages were laid down once there was room.
  pub announced_laid : (ps qs : List (Pass S ReceiveEntry F)) (ms : List Message) (a b : Option (List ℕ)) (laid mid left : List ℕ) (f g : ℕ) (done : T) →
      LieStill a b laid mid → Told channels ps qs ms → All (λ (m : Message). is_request m.0 ≡ false) ms → left ≡ mid ++ all_spelled ms →
      Announced {S = S} {F = F} {T = T} {E = E} channels ps qs a b laid left f g (Ok done)
  announced_laid ps qs ms a b laid mid left f g done out told later left_is =
      record { messages = ms; told = told; later = later; out = lie_more a b laid mid (all_spelled ms) left left_is out }

-- A step that went well, whatever it answered.
pub record WentWell {S F : Type 0} (channels : List ChannelId) (before after : List (Pass S ReceiveEntry F)) (old new : Option (List ℕ)) (laid left : List ℕ) : Type 0 where
  pub messages : List Message
  pub told : Told channels before after messages
  pub later : All (λ (m : Message). is_request m.0 ≡ false) messages
  pub out : LieStill old new (laid ++ all_spelled messages) left

-- A step that a failed write ended.
pub record WasCut {S F : Type 0} (channels : List ChannelId) (before after : List (Pass S ReceiveEntry F)) (old new : Option (List ℕ)) (laid : List ℕ) (fell rose : ℕ) : Type 0 where
  pub messages : List Message
  pub told : Told channels before after messages
  pub later : All (λ (m : Message). is_request m.0 ≡ false) messages
  pub out : AreCut old new fell rose (laid ++ all_spelled messages)

module _ {S F : Type 0} (channels : List ChannelId) where
  pub went_well : {T E : Type 0} (p q : List (Pass S ReceiveEntry F)) (a b : Option (List ℕ)) (laid left : List ℕ) (f g : ℕ) (done : T) →
      Announced {S = S} {F = F} {T = T} {E = E} channels p q a b laid left f g (Ok done) → WentWell channels p q a b laid left
  went_well p q a b laid left f g done step = record { messages = step.messages; told = step.told; later = step.later; out = step.out }

  pub was_cut : {T E : Type 0} (p q : List (Pass S ReceiveEntry F)) (a b : Option (List ℕ)) (laid left : List ℕ) (f g : ℕ) (failed : E) →
      Announced {S = S} {F = F} {T = T} {E = E} channels p q a b laid left f g (Err failed) → WasCut channels p q a b laid f g
  was_cut p q a b laid left f g failed step = record { messages = step.messages; told = step.told; later = step.later; out = step.out }

  pub announced_well : {T E : Type 0} (p q : List (Pass S ReceiveEntry F)) (a b : Option (List ℕ)) (laid left : List ℕ) (f g : ℕ) (done : T) →
      WentWell channels p q a b laid left → Announced {S = S} {F = F} {T = T} {E = E} channels p q a b laid left f g (Ok done)
  announced_well p q a b laid left f g done step = record { messages = step.messages; told = step.told; later = step.later; out = step.out }

  pub announced_failed : {T E : Type 0} (p q : List (Pass S ReceiveEntry F)) (a b : Option (List ℕ)) (laid left : List ℕ) (f g : ℕ) (failed : E) (result : Result T E) → result ≡ Err failed →
      WasCut channels p q a b laid f g → Announced channels p q a b laid left f g result
  announced_failed p q a b laid left f g failed result is step =
      subst (λ r. Announced channels p q a b laid left f g r) (sym is) (record { messages = step.messages; told = step.told; later = step.later; out = step.out })

  -- Two steps, one after the other.
  pub well_on : (p q r : List (Pass S ReceiveEntry F)) (a b c : Option (List ℕ)) (laid mid left : List ℕ) →
      WentWell channels p q a b laid mid → WentWell channels q r b c mid left → WentWell channels p r a c laid left
  well_on p q r a b c laid mid left one two = record {
    messages = one.messages ++ two.messages;
    told = told_on channels p q r one.messages two.messages one.told two.told;
    later = All-append (λ (m : Message). is_request m.0 ≡ false) one.messages two.messages one.later two.later;
    out = subst (λ bytes. LieStill a c bytes left) (spelled_behind laid one.messages two.messages)
        (lie_on a b c (laid ++ all_spelled one.messages) (all_spelled two.messages) mid left one.out two.out);
  }
    where
      spelled_behind : (l : List ℕ) (ms ns : List Message) → (l ++ all_spelled ms) ++ all_spelled ns ≡ l ++ all_spelled (ms ++ ns)
      spelled_behind l ms ns = append_assoc l (all_spelled ms) (all_spelled ns) ∙ ap (λ z. l ++ z) (sym (spelled-append ms ns))

  pub cut_after : (p q r : List (Pass S ReceiveEntry F)) (a b c : Option (List ℕ)) (laid mid : List ℕ) (f g h : ℕ) → f ≤ g →
      WentWell channels p q a b laid mid → WasCut channels q r b c mid g h → WasCut channels p r a c laid f h
  cut_after p q r a b c laid mid f g h le one two = record {
    messages = one.messages ++ two.messages;
    told = told_on channels p q r one.messages two.messages one.told two.told;
    later = All-append (λ (m : Message). is_request m.0 ≡ false) one.messages two.messages one.later two.later;
    out = subst (λ bytes. AreCut a c f h bytes) (spelled_behind laid one.messages two.messages)
        (cut_on a b c f g h (laid ++ all_spelled one.messages) (all_spelled two.messages) mid le one.out two.out);
  }
    where
      spelled_behind : (l : List ℕ) (ms ns : List Message) → (l ++ all_spelled ms) ++ all_spelled ns ≡ l ++ all_spelled (ms ++ ns)
      spelled_behind l ms ns = append_assoc l (all_spelled ms) (all_spelled ns) ∙ ap (λ z. l ++ z) (sym (spelled-append ms ns))

-- ---- what was seen

module _ {S F : Type 0} (passes lent : List (Pass S ReceiveEntry F)) (at : ℕ) (pass after : Pass S ReceiveEntry F) where
  -- The passes were lent for writing, and come back with one that took a turn.
  pub seen_lent : lent ≡ passes → at < length passes → pass ≡ get_or lent at pass → StartsWith (seen after) (seen pass) → HaveSeenMore passes (refill (length passes) passes (set lent at after))
  seen_lent lent_is within is more k =
      subst (λ ps. StartsWith (seen_at k ps) (seen_at k passes)) (sym (refilled_set passes lent at after lent_is))
      (seen_more passes at pass after within (is ∙ ap (λ ps. get_or ps at pass) lent_is) more k)

  pub end_lent : lent ≡ passes → at < length passes → HasSeenEnd (seen after) → HasSeenEnd (seen_at at (refill (length passes) passes (set lent at after)))
  end_lent lent_is within e =
      subst HasSeenEnd (sym (ap (seen_at at) (refilled_set passes lent at after lent_is) ∙ seen_set passes at after within)) e

-- ---- the rounds

module _ {S F : Type 0} (channels : List ChannelId) where
  pub well_none : (ps : List (Pass S ReceiveEntry F)) (a : Option (List ℕ)) (laid : List ℕ) → WentWell channels ps ps a a laid laid
  well_none ps a laid = record { messages = []; told = told_none channels ps; later = no_later; out = ([], appended_none a, append-nil laid) }

  -- All that lay there was written last.
  pub well_written : (p q : List (Pass S ReceiveEntry F)) (a b c : Option (List ℕ)) (laid mid left : List ℕ) → WentWell channels p q a b laid mid → Appended b c mid → left ≡ [] → WentWell channels p q a c laid left
  well_written p q a b c laid mid left well told empty = record {
    messages = well.messages;
    told = well.told;
    later = well.later;
    out = let o = well.out in (o.0 ++ mid, appended_more a b c o.0 mid o.1 told, o.2 ∙ ap (λ l. o.0 ++ l) (sym (append-nil mid) ∙ ap (λ l. mid ++ l) (sym empty)) ∙ sym (append_assoc o.0 mid left));
  }

  -- The last write failed.
  pub cut_last : (p q : List (Pass S ReceiveEntry F)) (a b c : Option (List ℕ)) (laid mid : List ℕ) (f g h : ℕ) → f ≤ g → WentWell channels p q a b laid mid → AreCut b c g h mid → WasCut channels p q a c laid f h
  cut_last p q a b c laid mid f g h le well cut = record {
    messages = well.messages;
    told = well.told;
    later = well.later;
    out = subst (AreCut a c f h) (append-nil (laid ++ all_spelled well.messages)) (cut_on a b c f g h (laid ++ all_spelled well.messages) [] mid le well.out (cut_longer b c g h mid [] cut));
  }

  pub ended_stopped : (p q : List (Pass S ReceiveEntry F)) (a b : Option (List ℕ)) (left : List ℕ) (f g : ℕ) → left ≡ [] → WentWell channels p q a b [] left → EndedFor channels p q a b f g causes.Stopped
  ended_stopped p q a b left f g empty well = record {
    messages = well.messages;
    told = well.told;
    later = well.later;
    out = lie_all a b (all_spelled well.messages) (subst (LieStill a b (all_spelled well.messages)) empty well.out);
    ends = λ is. absurd (cc);
  }

  pub ended_done : (p q : List (Pass S ReceiveEntry F)) (a b : Option (List ℕ)) (left : List ℕ) (f g : ℕ) → left ≡ [] → AllEnded channels q → WentWell channels p q a b [] left → EndedFor channels p q a b f g causes.Done
  ended_done p q a b left f g empty ends well = record {
    messages = well.messages;
    told = well.told;
    later = well.later;
    out = lie_all a b (all_spelled well.messages) (subst (LieStill a b (all_spelled well.messages)) empty well.out);
    ends = λ is. ends;
  }

  pub ended_link : (p q : List (Pass S ReceiveEntry F)) (a b : Option (List ℕ)) (f g : ℕ) → WasCut channels p q a b [] f g → EndedFor channels p q a b f g causes.Link
  ended_link p q a b f g cut = record { messages = cut.messages; told = cut.told; later = cut.later; out = cut.out; ends = λ is. absurd (cc) }

  -- ---- after the requests

  run_with : (p q : List (Pass S ReceiveEntry F)) (ms : List Message) → AreFrames (requests_of channels) → Told channels p q ms → Told channels p q (requests_of channels ++ ms)
  run_with p q ms are told = told_on channels p p q (requests_of channels) ms (told_requests channels p are) told

  pub ran_on : (p q : List (Pass S ReceiveEntry F)) (a b c : Option (List ℕ)) (f g h : ℕ) (cause : Cause) → AreFrames (requests_of channels) → Appended a b (all_spelled (requests_of channels)) → f ≤ g →
      EndedFor channels p q b c g h cause → RanFor channels p q a c f h cause
  ran_on p q a b c f g h cause are told le e = record {
    messages = requests_of channels ++ e.messages;
    told = run_with p q e.messages are e.told;
    requests = inr (e.messages, refl, e.later);
    out = subst (GoneOut cause a c f h) (sym (spelled-append (requests_of channels) e.messages)) (gone_on a b c f g h (all_spelled (requests_of channels)) (all_spelled e.messages) cause le told e.out);
    ends = e.ends;
  }

  -- A write failed among the requests.
  pub ran_cut : (p : List (Pass S ReceiveEntry F)) (a b : Option (List ℕ)) (f g : ℕ) → AreFrames (requests_of channels) → AreCut a b f g (all_spelled (requests_of channels)) → RanFor channels p p a b f g causes.Link
  ran_cut p a b f g are cut = record {
    messages = requests_of channels;
    told = told_requests channels p are;
    requests = inr ([], sym (append-nil (requests_of channels)), no_later);
    out = cut;
    ends = λ is. absurd (cc);
  }

  -- There was no memory.
  pub ran_not : (p : List (Pass S ReceiveEntry F)) (a : Option (List ℕ)) (f g : ℕ) → RanFor channels p p a a f g causes.Memory
  ran_not p a f g = record { messages = []; told = told_none channels p; requests = inl refl; out = appended_none a; ends = λ is. absurd (cc) }

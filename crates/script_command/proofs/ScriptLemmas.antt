-- The events of a script, one after another.
use Rattle.std.proofs.Common.{◌≡◌, ℕ, suc, ◌≤◌, ◌<◌, ◌*◌, List, [], ◌∷◌, ◌++◌, length, map, reverse, refl, ap, sym, subst, ◌∙◌, append_assoc, append-nil, arith}
use Rattle.std.specs.Prelude.{codes, decimal}
use Rattle.std.specs.List.{AllByRecursion}
use Rattle.flow_defs.specs.Items.{Items}
use Rattle.std.proofs.lemmas.List.{reverse-append, reverse-reverse}
use Rattle.script_text.specs.declared.event.Event.{Event}
use Rattle.script_text.specs.declared.event.Script.{Script}
use Rattle.script_text.specs.declared.reply.Reply.{Reply}
use Rattle.script_text.specs.declared.reply.Reply.TheVariants.{Refused, Full, Done, Nothing, Absent, Queued, Frame, Announced, Accepted, Backlog, Credit, Granted, Resumed, Empty, Held, Barrier, SavedOut, End, Data, NotYet, SavedIn, Pool}
use Rattle.script_text.specs.Scripts.{IsEvent, IsOpening, line_of}
use Rattle.script_text.specs.Replies.{printed, reply_lines, record_line, replies_text}
use Rattle.exchange_world.specs.Worlds.{World, opened}
use Rattle.exchange_world.specs.Steps.{step, replies_to, bare, listed}
use Rattle.exchange_world.specs.Sound.{IsSound}
use Rattle.exchange_world.specs.Laws.{OpenedIsSound, StepsKeepSound}
use Rattle.script_command.specs.Scripts.{printed_replies}

-- ---- a reply is printed alike, whatever the room is that its records have

as_many : (records : List (Items ℕ)) → length (listed (map (λ (r : Items ℕ). r.items) records)).items ≡ length records
as_many [] = refl
as_many (r ∷ records) = ap suc (as_many records)

same_records : (c : ℕ) (records : List (Items ℕ)) → map (λ (text : Items ℕ). record_line c text.items) (listed (map (λ (r : Items ℕ). r.items) records)).items ≡ map (λ (text : Items ℕ). record_line c text.items) records
same_records c [] = refl
same_records c (r ∷ records) = ap (λ lines. record_line c r.items ∷ lines) (same_records c records)

pub bare_lines : (reply : Reply) → reply_lines (bare reply) ≡ reply_lines reply
bare_lines (Data c len records) =
    ap (λ (n : ℕ). line_of (codes "data" ∷ decimal c ∷ decimal len ∷ decimal n ∷ []) ∷ map (λ (text : Items ℕ). record_line c text.items) (listed (map (λ (r : Items ℕ). r.items) records.items)).items) (as_many records.items)
    ∙ ap (λ (lines : List (List ℕ)). line_of (codes "data" ∷ decimal c ∷ decimal len ∷ decimal (length records.items) ∷ []) ∷ lines) (same_records c records.items)
bare_lines Refused = refl
bare_lines Full = refl
bare_lines Done = refl
bare_lines Nothing = refl
bare_lines Absent = refl
bare_lines (Queued c n) = refl
bare_lines (Frame c sequence what len backlog) = refl
bare_lines (Announced c n) = refl
bare_lines (Accepted c sequence) = refl
bare_lines (Backlog c n) = refl
bare_lines (Credit c n) = refl
bare_lines (Granted c n) = refl
bare_lines (Resumed c) = refl
bare_lines (Empty c) = refl
bare_lines (Held c) = refl
bare_lines (Barrier c k kind) = refl
bare_lines (SavedOut c k bytes) = refl
bare_lines (End c) = refl
bare_lines (NotYet c k) = refl
bare_lines (SavedIn c k bytes) = refl
bare_lines (Pool free lent) = refl

-- ---- the events, in order

-- so many events are ahead, the world is sound, and what was printed, with the replies to them, is all
pub record IsScripted (m : ℕ) (w : World) (ahead : List Event) (text all : List ℕ) : Type 0 where
  pub sound : IsSound m w
  pub events : AllByRecursion (IsEvent m) ahead
  pub replied : text ++ replies_text (replies_to w ahead) ≡ all

pub event_on : (m : ℕ) (w after : World) (event : Event) (ahead : List Event) (text more all : List ℕ) → StepsKeepSound
    → after ≡ (step w event).0 → more ≡ text ++ printed (reply_lines (step w event).1) → IsScripted m w (event ∷ ahead) text all → IsScripted m after ahead more all
event_on m w after event ahead text more all keep world_is more_is way = record {
  sound = subst (IsSound m) (sym world_is) (keep m w event way.sound way.events.0);
  events = way.events.1;
  replied = ap (λ (v : World). more ++ replies_text (replies_to v ahead)) world_is
      ∙ ap (λ (l : List ℕ). l ++ replies_text (replies_to (step w event).0 ahead)) more_is
      ∙ append_assoc text (printed (reply_lines (step w event).1)) (replies_text (replies_to (step w event).0 ahead))
      ∙ way.replied;
}

-- an event may happen with as many channels as the world has
pub may_happen : (m : ℕ) (w : World) (event : Event) (ahead : List Event) (text all : List ℕ) → IsScripted m w (event ∷ ahead) text all → IsEvent (length w.lanes) event
may_happen m w event ahead text all way = subst (λ (n : ℕ). IsEvent n event) (sym way.sound.lanes) way.events.0

-- the events are taken from the end of a list that lies the other way round
pub event_taken : (before after : List Event) (event : Event) → before ≡ after ++ event ∷ [] → reverse before ≡ event ∷ reverse after
event_taken before after event is = ap (λ (l : List Event). reverse l) is ∙ reverse-append after (event ∷ [])

pub taken_on : (m : ℕ) (w after : World) (event : Event) (events left : List Event) (text more all : List ℕ) → StepsKeepSound → events ≡ left ++ event ∷ []
    → after ≡ (step w event).0 → more ≡ text ++ printed (reply_lines (step w event).1) → IsScripted m w (reverse events) text all → IsScripted m after (reverse left) more all
taken_on m w after event events left text more all keep taken world_is more_is way =
    event_on m w after event (reverse left) text more all keep world_is more_is (subst (λ (l : List Event). IsScripted m w l text all) (event_taken events left event taken) way)

pub may_be_taken : (m : ℕ) (w : World) (event : Event) (events left : List Event) (text all : List ℕ) → events ≡ left ++ event ∷ [] → IsScripted m w (reverse events) text all → IsEvent (length w.lanes) event
may_be_taken m w event events left text all taken way = may_happen m w event (reverse left) text all (subst (λ (l : List Event). IsScripted m w l text all) (event_taken events left event taken) way)

-- at first all are ahead
pub all_ahead : (script : Script) (w : World) (events : List Event) (text : List ℕ) → OpenedIsSound → IsOpening script.channels script.size script.total → 4 * script.channels ≤ script.total
    → AllByRecursion (IsEvent script.channels) script.events.items → w ≡ opened script.channels script.size script.total → events ≡ reverse script.events.items → text ≡ []
    → IsScripted script.channels w (reverse events) text (printed_replies script)
all_ahead script w events text law opening enough are world_is events_are none =
    let ahead : reverse events ≡ script.events.items = ap (λ (l : List Event). reverse l) events_are ∙ reverse-reverse script.events.items in
    record {
      sound = subst (IsSound script.channels) (sym world_is) (law script.channels script.size script.total (record { opening = opening; enough = enough }));
      events = subst (AllByRecursion (IsEvent script.channels)) (sym ahead) are;
      replied = ap (λ (l : List ℕ). l ++ replies_text (replies_to w (reverse events))) none
          ∙ ap (λ (l : List Event). replies_text (replies_to w l)) ahead
          ∙ ap (λ (v : World). replies_text (replies_to v script.events.items)) world_is;
    }

-- at last all are printed
pub none_ahead : (m : ℕ) (w : World) (events : List Event) (text all : List ℕ) → (0 < length events → ⊥) → IsScripted m w (reverse events) text all → text ≡ all
none_ahead m w [] text all none way = sym (append-nil text) ∙ way.replied
none_ahead m w (e ∷ events) text all none way = absurd (none (omega arith))

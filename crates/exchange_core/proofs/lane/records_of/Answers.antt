use Rattle.std.proofs.Common.{rules, ◌≡◌, ◌++◌, ℕ, List, [], ◌∷◌, map, ap, sym, subst, ◌∙◌}
use Rattle.std.proofs.lemmas.List.{map-append}
use Rattle.flow_defs.specs.Items.{Items}
use Rattle.record_spans.specs.Spans.{BeginsWith, BeginsTooLong, HasNoRecord}
use Rattle.exchange_core.specs.Lanes.{AreBytes}
use Rattle.exchange_core.proofs.Reading.{HasSpans, reads_more, shorter, all_read_none, all_read_long}
use Rattle.exchange_core.proofs.lane.records_of.Goals as goal

abbrev texts : List (Items ℕ) → List (List ℕ)
texts records = map (λ (r : Items ℕ). r.items) records

pub records-smaller : goal.records-smaller
records-smaller c =
    let begins : BeginsWith c.records.reader c.in-Ok-Some.record.items c.next.new.self = search rules in
    shorter _ _ _ begins

pub records-preserved : goal.records-preserved
records-preserved c =
    let begins : BeginsWith c.records.reader c.in-Ok-Some.record.items c.next.new.self = search rules in
    let more : c.push.new.self.items ≡ c.records.records.items ++ c.in-Ok-Some.record ∷ [] = search rules in
    subst (HasSpans c.args.reader.now c.next.new.self) (sym (ap texts more ∙ map-append (λ (r : Items ℕ). r.items) c.records.records.items (c.in-Ok-Some.record ∷ [])))
    (reads_more _ _ _ _ _ c.records.invariant begins)

pub returns-in-Ok-None : goal.returns-in-Ok-None
returns-in-Ok-None c =
    let fit : AreBytes c.records.reader = subst AreBytes c.rest.ensures c.are_bytes.ensures in
    let none : HasNoRecord c.records.reader = search rules in
    let same : c.next.new.self ≡ c.records.reader = search rules in
    let all = all_read_none _ _ _ c.records.invariant fit none in
    record { given = all.0; left = same ∙ all.1 }

pub returns-in-Err-TooLong : goal.returns-in-Err-TooLong
returns-in-Err-TooLong c =
    let long : BeginsTooLong c.records.reader c.in-Err-TooLong.field-0-0 = search rules in
    let same : c.next.new.self ≡ c.records.reader = search rules in
    let all = all_read_long _ _ _ _ c.records.invariant long in
    record { given = all.0; left = same ∙ all.1 }

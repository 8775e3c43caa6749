use Rattle.std.proofs.Common.{arith, ◌≡◌, ◌+◌, ◌-◌, length, take, drop, ap, sym, ◌∙◌, subst}
use Rattle.std.proofs.lemmas.Result.{err_from_is_err_and}
use Rattle.std.proofs.lemmas.List.{drop-drop}
use Rattle.record_spans.specs.Spans.{HasNoRecord, BeginsTooLong}
use Rattle.record_spans.specs.declared.reader.Front.TheVariants.{Record}
use Rattle.record_spans.specs.Fronts.{IsFront}
use Rattle.record_spans.proofs.Parts.{view_of}
use Rattle.record_spans.proofs.Lengths.{not_both, one_length}
use Rattle.record_spans.proofs.SpanLemmas.{first_span, none_spans, too_long_spans}
use Rattle.record_spans.proofs.reader.Reader.next.Goals as goal

pub returns-in-Cut-clause-too_long : goal.returns-in-Cut-clause-too_long
returns-in-Cut-clause-too_long c =
    let seen = view_of c.deref.result.now c.self.inside.bytes.items c.args.self.now c.self.inside.start c.deref.ensures.value c.self.view_is in
    let none = subst HasNoRecord seen c.in-Cut.ensures in
    λ len. (λ is. absurd (cc), λ long. absurd (none.no_length len long))

pub returns-in-Cut-clause-all : goal.returns-in-Cut-clause-all
returns-in-Cut-clause-all c =
    let seen = view_of c.deref.result.now c.self.inside.bytes.items c.args.self.now c.self.inside.start c.deref.ensures.value c.self.view_is in
    none_spans c.args.self.now (subst HasNoRecord seen c.in-Cut.ensures)

pub returns-in-TooLong-clause-too_long : goal.returns-in-TooLong-clause-too_long
returns-in-TooLong-clause-too_long c =
    let seen = view_of c.deref.result.now c.self.inside.bytes.items c.args.self.now c.self.inside.start c.deref.ensures.value c.self.view_is in
    let long = subst (λ bytes. BeginsTooLong bytes c.in-TooLong.len) seen c.in-TooLong.ensures in
    λ len. (λ is. let same : c.in-TooLong.len ≡ len = cc in subst (BeginsTooLong c.args.self.now) same long, λ other. let same = one_length c.args.self.now c.in-TooLong.len len long other in cc)

pub returns-in-TooLong-clause-no_fault : goal.returns-in-TooLong-clause-no_fault
returns-in-TooLong-clause-no_fault c =
    let seen = view_of c.deref.result.now c.self.inside.bytes.items c.args.self.now c.self.inside.start c.deref.ensures.value c.self.view_is in
    let long = subst (λ bytes. BeginsTooLong bytes c.in-TooLong.len) seen c.in-TooLong.ensures in
    λ records coming spans len is. too_long_spans c.args.self.now c.in-TooLong.len long records coming spans

pub returns-in_err-first-in-Record-clause-too_long : goal.returns-in_err-first-in-Record-clause-too_long
returns-in_err-first-in-Record-clause-too_long c =
    let seen = view_of c.deref.result.now c.self.inside.bytes.items c.args.self.now c.self.inside.start c.deref.ensures.value c.self.view_is in
    let front = subst (λ bytes. IsFront bytes (Record c.in-Record.len)) seen c.in-Record.ensures in
    let passed = err_from_is_err_and c.from_residual.result c.from_residual.ensures.1 in
    let told = passed.1 in
    let gives = passed.2 in
    λ len. (λ is. absurd (cc), λ long. absurd (not_both c.args.self.now _ _ len front.0 long))

pub returns-in_ok-first-in-Record-clause-too_long : goal.returns-in_ok-first-in-Record-clause-too_long
returns-in_ok-first-in-Record-clause-too_long c =
    let seen = view_of c.deref.result.now c.self.inside.bytes.items c.args.self.now c.self.inside.start c.deref.ensures.value c.self.view_is in
    let front = subst (λ bytes. IsFront bytes (Record c.in-Record.len)) seen c.in-Record.ensures in
    λ len. (λ is. absurd (cc), λ long. absurd (not_both c.args.self.now _ _ len front.0 long))

pub returns-in_ok-first-in-Record-clause-first : goal.returns-in_ok-first-in-Record-clause-first
returns-in_ok-first-in-Record-clause-first c =
    let bytes = c.self.inside.bytes.items in
    let len = c.in-Record.len in
    let rest = take (length c.deref.result.now - c.self.inside.start) (drop c.self.inside.start c.deref.result.now) in
    let seen = view_of c.deref.result.now c.self.inside.bytes.items c.args.self.now c.self.inside.start c.deref.ensures.value c.self.view_is in
    let front = subst (λ bytes. IsFront bytes (Record len)) seen c.in-Record.ensures in
    let copied : c.in_ok-first-in-Record.first.items ≡ take len (drop 4 c.args.self.now) = c.in_ok-first-in-Record.ensures ∙ ap (λ n. take n (drop 4 rest)) {x = 4 + len - 4} {y = len} (omega arith) ∙ ap (λ l. take len (drop 4 l)) seen in
    let behind : drop (c.self.inside.start + (4 + len)) bytes ≡ drop (4 + len) c.args.self.now = sym (drop-drop (4 + len) c.self.inside.start bytes) ∙ ap (drop (4 + len)) c.self.view_is in
    rw (copied, behind) (first_span _ _ _ front.0)

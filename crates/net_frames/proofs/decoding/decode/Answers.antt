use Rattle.std.proofs.Common.{◌≡◌, take, Some, None, sym, ap, ◌∙◌, arith}
use Rattle.std.proofs.lemmas.Result.{err_from_is_err_and}
use Rattle.net_frames.specs.Reading.{frame_in}
use Rattle.net_frames.proofs.Decodings.{head_within, found, found_only, fault_only, fault_stays, body_only, body_stays}
use Rattle.net_frames.proofs.decoding.decode.Goals as goal

pub returns-in_err-kind-clause-only : goal.returns-in_err-kind-clause-only
returns-in_err-kind-clause-only c = λ frame content rest begins. absurd (fault_only c.args.input.now c.in_err-kind.field-0.0 c.in_err-kind.ensures.err frame content rest begins)

pub returns-in_err-kind-clause-stays : goal.returns-in_err-kind-clause-stays
returns-in_err-kind-clause-stays c =
    let p = err_from_is_err_and c.from_residual.result c.from_residual.ensures.1 in
    rw (p.1, p.2) (fault_stays c.args.input.now c.in_err-kind.field-0.0 c.in_err-kind.ensures.err)

pub overflow_sub-content : goal.overflow_sub-content
overflow_sub-content c =
    let read : frame_in c.in_ok-kind.kind (take c.in_ok-kind.used c.args.input.now) ≡ Some c.in-Some.frame = ap (frame_in c.in_ok-kind.kind) (sym c.split_at.ensures.front) ∙ sym c.frame_in.ensures ∙ c.in-Some.is in
    rw c.head_len-from.ensures (head_within c.args.input.now c.in_ok-kind.kind c.in_ok-kind.used c.in_ok-kind.ensures.ok c.in-Some.frame read)

pub returns-in-Some-clause-found : goal.returns-in-Some-clause-found
returns-in-Some-clause-found c =
    let read : frame_in c.in_ok-kind.kind (take c.in_ok-kind.used c.args.input.now) ≡ Some c.in-Some.frame = ap (frame_in c.in_ok-kind.kind) (sym c.split_at.ensures.front) ∙ sym c.frame_in.ensures ∙ c.in-Some.is in
    rw c.head_len-from.ensures (found c.args.input.now c.in_ok-kind.kind c.in_ok-kind.used c.in_ok-kind.ensures.ok c.in-Some.frame read (λ i. omega (arith, c.type_inv.input i)))

pub returns-in-Some-clause-only : goal.returns-in-Some-clause-only
returns-in-Some-clause-only c =
    let read : frame_in c.in_ok-kind.kind (take c.in_ok-kind.used c.args.input.now) ≡ Some c.in-Some.frame = ap (frame_in c.in_ok-kind.kind) (sym c.split_at.ensures.front) ∙ sym c.frame_in.ensures ∙ c.in-Some.is in
    rw c.head_len-from.ensures (found_only c.args.input.now c.in_ok-kind.kind c.in_ok-kind.used c.in_ok-kind.ensures.ok c.in-Some.frame read (λ i. omega (arith, c.type_inv.input i)))

pub returns-in-None-clause-only : goal.returns-in-None-clause-only
returns-in-None-clause-only c =
    let none : frame_in c.in_ok-kind.kind (take c.in_ok-kind.used c.args.input.now) ≡ None = ap (frame_in c.in_ok-kind.kind) (sym c.split_at.ensures.front) ∙ sym c.frame_in.ensures ∙ c.in-None.is in
    body_only c.args.input.now c.in_ok-kind.kind c.in_ok-kind.used c.in_ok-kind.ensures.ok none

pub returns-in-None-clause-stays : goal.returns-in-None-clause-stays
returns-in-None-clause-stays c =
    let none : frame_in c.in_ok-kind.kind (take c.in_ok-kind.used c.args.input.now) ≡ None = ap (frame_in c.in_ok-kind.kind) (sym c.split_at.ensures.front) ∙ sym c.frame_in.ensures ∙ c.in-None.is in
    λ _. body_stays c.args.input.now c.in_ok-kind.kind c.in_ok-kind.used c.in_ok-kind.ensures.ok none

use Rattle.std.proofs.Common.{◌≡◌, suc, ◌+◌, ◌-◌, ◌∷◌, [], ◌++◌, map, sym, ap, subst, ◌∙◌, arith}
use Rattle.std.specs.List.{range_with_len}
use Rattle.std.proofs.lemmas.List.FromFn.{map-range_with_len_more}
use Rattle.credit_reader.specs.Readers.{Asked}
use Rattle.credit_reader.specs.Senders.{Sender, AreDistinct, sender_of, reader_of, happened}
use Rattle.credit_reader.specs.Answers.{request_answer}
use Rattle.exchange_world.specs.Lanes.{channel_id}
use Rattle.exchange_world.specs.Worlds.{requested}
use Rattle.exchange_core.proofs.Readers.{ids_distinct, requested_more, may_request}
use Rattle.exchange_core.proofs.open.readers_of.Goals as goal

pub loop-c-preserved : goal.loop-c-preserved
loop-c-preserved c =
    let n = c.loop-c.c in let low = c.loop-c.auto.c in
    let next : (n - 1) + 1 ≡ n + 1 - 1 = omega arith in
    c.in_ok-push.ensures.items
    ∙ ap (λ ids. ids ++ c.channel_id.result ∷ []) c.loop-c.invariant
    ∙ ap (λ id. map channel_id (range_with_len 1 (n - 1)) ++ id ∷ []) c.channel_id.ensures
    ∙ sym (map-range_with_len_more channel_id 1 (n - 1) n (omega arith))
    ∙ ap (λ k. map channel_id (range_with_len 1 k)) next

pub new-requires : goal.new-requires
new-requires c =
    let end = c.loop-c.auto.c-end in let past = c.loop-c-test.false in
    let all : c.loop-c.c - 1 ≡ c.args.channels = omega arith in
    subst AreDistinct (sym (c.deref.ensures.value ∙ c.loop-c.invariant ∙ ap (λ k. map channel_id (range_with_len 1 k)) all)) (ids_distinct c.args.channels)

pub unreachable-requires : goal.unreachable-requires
unreachable-requires c =
    let n = c.loop-c-2.c in let low = c.loop-c-2.auto.c in let high = c.loop-c-2-test.true in
    let ok = may_request c.args.channels (n - 1) n c.loop-c-2.readers (omega arith) (omega arith) c.loop-c-2.invariant in
    c.in_default.not-Ok tt (c.request.ensures.answer ∙ ap (λ id. request_answer (reader_of id c.loop-c-2.readers.readers)) c.channel_id-in-loop-c-2.ensures ∙ ok)

pub loop-c-2-preserved : goal.loop-c-2-preserved
loop-c-2-preserved c =
    let n = c.loop-c-2.c in let low = c.loop-c-2.auto.c in
    let made : Sender = sender_of (map channel_id (range_with_len 1 c.args.channels)) in
    let next : suc (n - 1) ≡ n + 1 - 1 = omega arith in
    c.in-Ok.ensures.ok
    ∙ ap (λ id. happened id (Asked 2) c.loop-c-2.readers) c.channel_id-in-loop-c-2.ensures
    ∙ ap (λ s. happened (channel_id n) (Asked 2) s) c.loop-c-2.invariant
    ∙ sym (requested_more 1 (n - 1) n made (omega arith))
    ∙ ap (λ k. requested (range_with_len 1 k) made) next

use Rattle.std.proofs.Common.{rules, ◌+◌, ◌<◌, ◌≤◌, ap, ◌∙◌, arith, IsNone}
use Rattle.input_channel.specs.declared.entry.ReceiveEntry.TheVariants as entries
use Rattle.input_channel.specs.Counts.{wants}
use Rattle.input_channel.specs.States.{ChannelState, channel_next}
use Rattle.local_pool.specs.Locals.{IsSameLocal, lent_of, limit_of}
use Rattle.local_pool.specs.declared.local.LocalPool.{LocalPool}
use Rattle.exchange_core.proofs.Floats.{added_more, got_all, wants_of_got}
use Rattle.exchange_core.proofs.pools.ask_floats.Goals as goal

same_again : (a b c : LocalPool) → IsSameLocal a b → IsSameLocal b c → IsSameLocal a c
same_again a b c one two = record { need = two.need ∙ one.need; most = two.most ∙ one.most; limit = two.limit ∙ one.limit; number = two.number ∙ one.number }

pub returns-in_default-clause-inbox : goal.returns-in_default-clause-inbox
returns-in_default-clause-inbox g c =
    let v = c.asks.invariant in
    let none : IsNone c.request.result = search rules in
    let at : limit_of c.asks.gate ≤ lent_of c.asks.gate = (c.request.ensures.limited c.requires.gate.1).0 none in
    let lent = v.lent in
    let limit = v.same.limit in
    let few = v.few in
    got_all _ _ v.n _ _ v.inbox_is (omega (arith, at, lent, limit, few))

pub asks-preserved : goal.asks-preserved
asks-preserved g c =
    let v = c.asks.invariant in
    let below : lent_of c.asks.gate < limit_of c.asks.gate = search (rules, arith, c.in-Some.ensures.limited c.requires.gate.1) in
    let limit = v.same.limit in
    let few = v.few in
    let lent_is = v.lent in
    let more = wants_of_got v.n _ _ v.inbox_is in
    let some : 0 < wants c.asks.inbox.room c.asks.inbox.counts = search rules in
    record {
      n = v.n + 1;
      local = c.in-Some.ensures.local.0;
      same = same_again _ _ _ v.same c.in-Some.ensures.local.1;
      lent = (let one = c.in-Some.ensures.requested.lent in omega (arith, one, lent_is));
      inbox_is = c.add_floating.ensures ∙ ap (λ (i : ChannelState). channel_next i entries.Added) v.inbox_is ∙ added_more v.n _;
      few = omega (arith, below, limit, few, lent_is, more, some);
    }

pub returns-clause-inbox : goal.returns-clause-inbox
returns-clause-inbox g c =
    let v = c.asks.invariant in
    let more = wants_of_got v.n _ _ v.inbox_is in
    let none : wants c.asks.inbox.room c.asks.inbox.counts ≤ 0 = search rules in
    let few = v.few in
    got_all _ _ v.n _ _ v.inbox_is (omega (arith, more, none, few))

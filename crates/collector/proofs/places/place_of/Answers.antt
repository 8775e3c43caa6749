use Rattle.std.proofs.Common.{◌≡◌, ◌+◌, ◌*◌, ◌<◌, suc, length, sym, ap, ◌∙◌, subst, arith, add_assoc}
use Rattle.std.proofs.lemmas.Option.{slice_get_within}
use Rattle.flow_defs.specs.Jobs.{tasks, exchange, edge_width, sum_below}
use Rattle.plain_machine.specs.Places.{channels, channel_place}
use Rattle.collector.proofs.TaskPlaces.{place_other}
use Rattle.collector.proofs.places.place_of.Goals as goal

pub returns-in_default : goal.returns-in_default
returns-in_default c =
    let job = c.args.job.now in
    let e = c.args.channel.edge in
    let a = c.args.channel.from in
    let b = c.args.channel.to in
    let many = tasks job (suc e) in
    let there : c.tasks.result ≡ many = c.tasks.ensures.is ∙ ap (tasks job) (let z : e + 1 ≡ suc e = omega arith in z) in
    let before = sum_below e (edge_width job) in
    let is : c.channels_before-before.result + a * c.tasks.result + b ≡ channel_place job e a b =
    ap (λ n. n + a * c.tasks.result + b) c.channels_before-before.ensures.is ∙ ap (λ n. before + a * n + b) there ∙ add_assoc before (a * many) b
    ∙ ap (λ n. before + n) (sym (place_other (exchange job e) many a b (λ f. c.in_default.not-Forward (c.exchange.ensures ∙ f)))) in
    record {
      is = is;
      within = subst (λ k. k < length (channels job)) (sym is) (slice_get_within (channels job) (channel_place job e a b) (e, a, b) (c.places_are_in_order.ensures.channels job e a b c.requires.job c.requires.channel));
    }

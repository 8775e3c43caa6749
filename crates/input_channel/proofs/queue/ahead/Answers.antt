use Rattle.std.proofs.Common.{◌≡◌, ◌<◌, length, [], ◌∷◌, drop, sym, ap, rules}
use Rattle.input_channel.specs.Lines.{first_gap}
use Rattle.input_channel.proofs.LineLemmas.{head-cons, none-nil}
use Rattle.input_channel.proofs.queue.ahead.Goals as goal

pub returns-in-Some : goal.returns-in-Some
returns-in-Some c =
    let marks = c.args.barriers.now.items in
    let some : 0 < length marks = search rules in
    let split : marks ≡ c.in-Some.mark.now ∷ drop 1 marks = head-cons _ _ some c.in-Some.ensures.lookup in
    sym (ap first_gap split)

pub returns-in-None : goal.returns-in-None
returns-in-None c =
    let marks = c.args.barriers.now.items in
    let empty : marks ≡ [] = search (rules, none-nil) in
    sym (ap first_gap empty)

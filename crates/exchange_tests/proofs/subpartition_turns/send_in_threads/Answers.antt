use Rattle.std.proofs.Common.{rules, ◌≡◌, [], ◌∷◌, ◌++◌, refl, sym, ap, ◌∙◌, append-nil}
use Rattle.std.specs.Prelude.{map, option_to_list}
use Rattle.flow_defs.specs.Parcels.{data_of}
use lib.ListN.{get_elem?}
use Rattle.turn_cell.specs.History.{by}
use Rattle.turn_cell.specs.Passes.{seen, mine}
use Rattle.subpartition.specs.declared.entry.SendEntry.TheVariants.{Put}
use Rattle.turn_cell.specs.History.{entries_of}
use Rattle.subpartition.specs.Sending.{outbox, put}
use Rattle.subpartition.specs.Queues.{bytes_of, parcel_of}
use Rattle.fixtures.proofs.Dealt.{two_dealt, two_back, made_at, all_two}
use Rattle.exchange_tests.proofs.subpartition_turns.send_in_threads.Goals as goal

pub join-task-requires-after_bounds : goal.join-task-requires-after_bounds
join-task-requires-after_bounds g c κs within =
    let dealt = two_dealt c.args.passes.items c.take_last-sender.new.self.items c.take_last-task.new.self.items c.take_last-task.result c.take_last-sender.result c.take_last-sender.ensures.items c.take_last-task.ensures.items c.requires.passes.1 in
    let made = made_at c.args.cell c.args.passes.items _ c.requires.passes.0 dealt.1 in
    let task = made 0 c.take_last-task.result refl in let sender = made 1 c.take_last-sender.result refl in
    ((task.0, task.1.0, task.1.2, c.requires.size), (sender.0, sender.1.0, sender.1.1))

pub close-left-requires : goal.close-left-requires
close-left-requires g c =
    let dealt = two_dealt c.args.passes.items c.take_last-sender.new.self.items c.take_last-task.new.self.items c.take_last-task.result c.take_last-sender.result c.take_last-sender.ensures.items c.take_last-task.ensures.items c.requires.passes.1 in
    let told = c.join-task.ensures in let task = c.join-task.result.0.0 in let sender = c.join-task.result.1.0 in
    let back = two_back c.take_last-task.new.self.items c.give_back.new.passes.items c.give_back-2.new.passes.items task sender dealt.0 c.give_back.ensures.items c.give_back-2.ensures.items in
    all_two c.args.cell c.give_back-2.new.passes.items task sender back c.requires.passes.2 (told.first.0, told.first.1) (told.second.0, told.second.1)

pub returns-in-Ok-clause-sent : goal.returns-in-Ok-clause-sent
returns-in-Ok-clause-sent g c =
    let dealt = two_dealt c.args.passes.items c.take_last-sender.new.self.items c.take_last-task.new.self.items c.take_last-task.result c.take_last-sender.result c.take_last-sender.ensures.items c.take_last-task.ensures.items c.requires.passes.1 in
    let told = c.join-task.ensures in let task = c.join-task.result.0.0 in let sender = c.join-task.result.1.0 in
    let back = two_back c.take_last-task.new.self.items c.give_back.new.passes.items c.give_back-2.new.passes.items task sender dealt.0 c.give_back.ensures.items c.give_back-2.ensures.items in
    let bytes = bytes_of c.args.filled in
    let whole = c.close-left.ensures in let h = whole.history in let stands = whole.stands_for.0 in let size = c.close-left.result.size in
    let own_task : by 0 h ≡ mine task = whole.whole.own 0 task (ap (λ l. get_elem? l 0) back) in
    let own_sender : by 1 h ≡ mine sender = whole.whole.own 1 sender (ap (λ l. get_elem? l 1) back) in
    let seen_sender : by 1 (seen sender) ≡ mine sender = ap (λ n. by n (seen sender)) (sym told.second.1) ∙ told.second.0.0.5 in
    let stays = c.passes_tell.ensures.sender size (seen sender) h stands.legal (whole.whole.begins 1 sender (ap (λ l. get_elem? l 1) back)) (own_sender ∙ sym seen_sender) in
    let took = stays ∙ told.second.2 in
    let entered : mine task ≡ Put bytes ∷ [] = search rules in
    let all : put (entries_of h) ≡ bytes = (c.passes_tell.ensures.task size h stands.legal).bytes ∙ ap put (own_task ∙ entered) ∙ append-nil bytes in
    sym all ∙ c.histories_keep_order.ensures.left (entries_of h)
    ∙ ap (λ ps. data_of ps ++ data_of (outbox (entries_of h)).items) took
    ∙ ap (λ ps. data_of (map parcel_of (option_to_list c.join-task.result.1.1)) ++ data_of ps) (sym stands.items)

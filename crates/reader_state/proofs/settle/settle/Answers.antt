use Rattle.reader_state.proofs.Calling.{none_then, refused_too}
use Rattle.reader_state.proofs.settle.settle.Goals as goal

pub returns-clause-refused : goal.returns-clause-refused
returns-clause-refused c =
    none_then c.give_resumption.result _ _ (refused_too c.args.readers.now c.give_credit.new.readers c.give_resumption.new.readers c.args.early c.in_ok-left.left c.in_ok-left.ensures.given c.in_ok-left.ensures.asked) c.give_resumption.ensures.refused

use Rattle.std.proofs.Common.{[], sym, subst, arith}
use Rattle.input_channel.specs.States.{ChannelStandsFor}
use Rattle.loops_tests.proofs.conn_read_items_tests.open_inbox.Goals as goal

pub new-requires-2 : goal.new-requires-2
new-requires-2 g c = (omega arith, subst (λ s. ChannelStandsFor s []) (sym c.in-Ok.ensures.made) (c.channels_stand_for_histories.ensures.opening _ _))

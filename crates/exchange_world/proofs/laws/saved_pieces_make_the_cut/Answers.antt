use Rattle.exchange_world.proofs.Cutting.{saved_pieces_make_the_cut}
use Rattle.exchange_world.proofs.laws.saved_pieces_make_the_cut.Goals as goal

pub returns : goal.returns
returns c = record { cut = saved_pieces_make_the_cut }

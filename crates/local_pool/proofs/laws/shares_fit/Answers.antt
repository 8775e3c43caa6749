use Rattle.std.proofs.lemmas.List.Elements.{All-get_or}
use Rattle.local_pool.specs.Shares.{IsWant}
use Rattle.local_pool.proofs.Dealing.{share_of-between, sum-share_of-le}
use Rattle.local_pool.proofs.laws.shares_fit.Goals as goal

pub returns : goal.returns
returns c = λ wants total are few. (sum-share_of-le wants total few, λ k d within. share_of-between wants total _ (All-get_or IsWant wants k d within are))

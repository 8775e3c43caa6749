use Rattle.std.proofs.Common.{◌≡◌, ◌++◌, ◌∷◌, List, ℕ}
use Rattle.stage_fns.proofs.Pieces.{records_pushed, raised_all}
use Rattle.stage_fns.proofs.stages.upper.Goals as goal

pub returns : goal.returns
returns c = records_pushed c.args.list.now c.push.new.self _ _ c.in_ok-push.ensures.ok
    (raised_all c.args.record.now c.in_ok-raised.raised.items _ _ c.in_ok-raised.ensures c.as_mut_slice.ensures.value c.make_ascii_uppercase.ensures.after)

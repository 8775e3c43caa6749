use Rattle.std.proofs.Common.{sym, ◌∙◌}
use Rattle.turn_tests.proofs.Outings.{all_back}
use Rattle.turn_tests.proofs.crowd.add_in_crowd.Goals as goal

pub work_all-passes-requires-after_bounds : goal.work_all-passes-requires-after_bounds
work_all-passes-requires-after_bounds g c κs within = λ k pass at. (c.in-Ok.ensures.made.0 k pass at).0

pub end-requires : goal.end-requires
end-requires g c = let made = c.in-Ok.ensures.made in
    all_back c.in-Ok.shared c.in-Ok.passes.items c.work_all-passes.result.items made.0 (made.1 ∙ sym c.in-Ok.ensures.cell.1) c.work_all-passes.ensures.back

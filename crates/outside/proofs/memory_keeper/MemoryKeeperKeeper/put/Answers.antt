use Rattle.std.proofs.Common.{rules, ◌≡◌, ◌<◌, false, map, sym, subst, ◌∙◌, ap, Err}
use Rattle.std.specs.Prelude.{IfSome}
use Rattle.std.proofs.lemmas.Result.{err_from_is_err_and}
use Rattle.outside.specs.Keepers.{image_of, last_image}
use Rattle.outside.specs.Memory.{is_listed, counted}
use Rattle.outside.proofs.Keepers.{rise_put, above_put}
use Rattle.outside.proofs.memory_keeper.MemoryKeeperKeeper.put.Goals as goal

pub returns-in_err-bytes-clause-step : goal.returns-in_err-bytes-clause-step
returns-in_err-bytes-clause-step c =
    let passed = err_from_is_err_and c.from_residual.result c.from_residual.ensures.1 in
    let memory = passed.1 ∙ ap Err passed.2 in
    let listed : is_listed c.args.self.now.puts (counted c.args.self.now.put_calls) ≡ false = search rules in
    rw memory (listed, search rules)

pub returns-in_err-push-clause-step : goal.returns-in_err-push-clause-step
returns-in_err-push-clause-step c =
    let passed = err_from_is_err_and c.from_residual-in_err-push.result c.from_residual-in_err-push.ensures.1 in
    let memory = passed.1 ∙ ap Err passed.2 in
    let listed : is_listed c.args.self.now.puts (counted c.args.self.now.put_calls) ≡ false = search rules in
    rw memory (listed, search rules)

pub invariant_of-self-2 : goal.invariant_of-self-2
invariant_of-self-2 c =
    let above : IfSome (last_image (map image_of c.self.inside.images.items)) (λ image. image.number < c.args.number) =
    subst (λ v. IfSome (last_image v.images) (λ image. image.number < c.args.number)) (sym c.self.view_is) c.requires in
    rw c.in_ok-push.ensures.ok (rise_put c.self.inside.images.items _ c.self.invariant above)

pub returns-clause-above : goal.returns-clause-above
returns-clause-above c more below = rw c.in_ok-push.ensures.ok (above_put c.self.inside.images.items _ more below)

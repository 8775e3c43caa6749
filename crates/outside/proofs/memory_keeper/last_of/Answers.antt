use Rattle.std.proofs.Common.{rules, ◌≡◌, Some, ap, sym, ◌∙◌}
use Rattle.outside.specs.Keepers.{image_of, last_image}
use Rattle.outside.proofs.Keepers.{last_kept}
use Rattle.outside.proofs.memory_keeper.last_of.Goals as goal

pub returns-in_ok-copy_of-in-Some : goal.returns-in_ok-copy_of-in-Some
returns-in_ok-copy_of-in-Some c =
    let last = last_kept c.args.images.now c.in-Some.kept.now (search rules) in
    search (rules, last)

use Rattle.std.proofs.Common.{rules, ◌<◌, sym, subst}
use Rattle.std.specs.Prelude.{IfSome}
use Rattle.outside.proofs.Keepers.{last_kept}
use Rattle.library_example.proofs.images.ImageListKeeper.last.Goals as goal

pub returns-in_ok-of-in-Some-clause-told : goal.returns-in_ok-of-in-Some-clause-told
returns-in_ok-of-in-Some-clause-told c =
    let last = last_kept c.args.self.now.images.items c.in-Some.kept.now (search rules) in
    search (rules, last)

pub returns-in_ok-of-in-Some-clause-above : goal.returns-in_ok-of-in-Some-clause-above
returns-in_ok-of-in-Some-clause-above c number below =
    subst (λ last. IfSome last (λ image. image.number < number)) (sym (last_kept c.args.self.now.images.items c.in-Some.kept.now (search rules))) below

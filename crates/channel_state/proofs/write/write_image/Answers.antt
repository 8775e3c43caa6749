use Rattle.std.proofs.Common.{◌≡◌, false, refl, arith, Err, true}
use Rattle.channel_state.specs.declared.fault.WriteFault.TheVariants.{TooBig}
use Rattle.channel_state.specs.Contents.{has_counts}
use Rattle.channel_state.proofs.AcceptLemmas.{no_fault}
use Rattle.channel_state.proofs.Parts.{it_can, too_big, spelled, no_memory}
use Rattle.channel_state.proofs.write.write_image.Goals as goal

pub returns-then-not-can-clause-too_big : goal.returns-then-not-can-clause-too_big
returns-then-not-can-clause-too_big c =
    let has : has_counts c.args.image.now ≡ false = grind arith in
    too_big c.args.image.now (Err TooBig) refl has

pub returns-in-Ok-clause-too_big : goal.returns-in-Ok-clause-too_big
returns-in-Ok-clause-too_big c =
    let has : has_counts c.args.image.now ≡ true = grind arith in
    spelled c.args.image.now c.in-Ok.bytes (it_can c.args.image.now c.requires.number has)

pub returns-in-Err-clause-too_big : goal.returns-in-Err-clause-too_big
returns-in-Err-clause-too_big c =
    let has : has_counts c.args.image.now ≡ true = grind arith in
    no_memory c.args.image.now (it_can c.args.image.now c.requires.number has)

pub returns-in-Ok-clause-readable : goal.returns-in-Ok-clause-readable
returns-in-Ok-clause-readable c =
    let has : has_counts c.args.image.now ≡ true = grind arith in
    no_fault c.args.image.now (it_can c.args.image.now c.requires.number has) c.in-Ok.ensures.range c.requires.fits

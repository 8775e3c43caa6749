use Rattle.std.proofs.Common.{◌≡◌, ℕ, List, Some, refl, subst, inl, arith}
use Rattle.outside.specs.Keepers.{image_of}
use Rattle.channel_state.specs.ImageFaults.{image_fault}
use Rattle.inspect_command.proofs.InspectLemmas.{image_read}
use Rattle.inspect_command.proofs.inspect.read_spelled.Goals as goal

pub returns-in-Err-NotImage-clause-fault : goal.returns-in-Err-NotImage-clause-fault
returns-in-Err-NotImage-clause-fault c =
    let place = c.in-Err-NotImage.place in (
      refl,
      inl (subst (λ (bytes : List ℕ). image_fault bytes ≡ Some place) c.as_slice.ensures ((c.read_image.ensures.not_image place).0 (let a = c.in-Err-NotImage.is in let b = c.in-Err-NotImage.field-0-is in let d = c.in-Err-NotImage.place-is in cc))),
    )

pub returns-in-Ok-clause-image : goal.returns-in-Ok-clause-image
returns-in-Ok-clause-image c =
    image_read (image_of c.args.kept.now) c.as_slice.result.now c.read_image.result c.in-Ok.image c.as_slice.ensures c.read_image.ensures.not_image c.in-Ok.is
    c.in-Ok.ensures.can c.in-Ok.ensures.fits c.in-Ok.ensures.spelled (grind arith)

-- The definitions at small inputs, computed.
use Rattle.std.proofs.Common.{◌≡◌, [], refl}
use Rattle.std.specs.Prelude.{codes}
use Rattle.std.specs.Fmt.{digits}
use Rattle.line_generator.specs.Generated.{generated}

no_lines : generated 9 0 ≡ []
no_lines = refl

first_of_0 : generated 0 1 ≡ codes "w807 w25\n"
unfolding digits
first_of_0 = refl

first_of_1 : generated 1 1 ≡ codes "w774 w35\n"
unfolding digits
first_of_1 = refl

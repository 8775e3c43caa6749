-- Values that may lack.
use Rattle.std.proofs.Common.{◌≡◌, Option, Some, None, refl}

-- what is no Some is None
pub none_of_all : {A : Type 0} (o : Option A) → ((x : A) → o ≡ Some x → ⊥) → o ≡ None
none_of_all None none = refl
none_of_all (Some x) none = absurd (none x refl)

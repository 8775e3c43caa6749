-- What the ends of links tell. A link carries bytes one way, in order, as a TCP connection does; that its ends tell their bytes to
-- contracts is this project's own.
use Rattle.std.specs.Prelude.{◌≡◌, ℕ, ◌+◌, Bool, true, false, List, [], ◌++◌, Option, Some, IfSome}
use Rattle.turn_cell.specs.History.{StartsWith}
use Rattle.outside.specs.declared.wires.Wire.{Wire}

-- It was not finished, where that is told.
abbrev pub IsUnfinished : Option Bool → Type 0
IsUnfinished told = IfSome told (λ b. b ≡ false)

-- These bytes were added, where that is told.
abbrev pub Appended : Option (List ℕ) → Option (List ℕ) → List ℕ → Type 0
Appended old new bytes = IfSome old (λ had. new ≡ Some (had ++ bytes))

-- An end of a new link that sends: it sent nothing, as far as it tells.
pub record IsNewOut (sent : Option (List ℕ)) (finished : Option Bool) (faults : ℕ) : Type 0 where
  pub nothing : IfSome sent (λ bytes. bytes ≡ [])
  pub unfinished : IsUnfinished finished
  pub no_fault : faults ≡ 0

-- An end of a new link that reads: it got nothing, as far as it tells.
pub record IsNewIn (got : Option (List ℕ)) (ended : Option Bool) (faults : ℕ) : Type 0 where
  pub nothing : IfSome got (λ bytes. bytes ≡ [])
  pub not_ended : IfSome ended (λ b. b ≡ false)
  pub no_fault : faults ≡ 0

-- What both ends of a link tell together: what was got begins what was sent, and is all of it once a read answered 0. Then the
-- link was finished.
pub record HasMet (sent : Option (List ℕ)) (finished : Option Bool) (got : Option (List ℕ)) (ended : Option Bool) : Type 0 where
  pub begins : IfSome sent (λ all. IfSome got (λ front. StartsWith all front))
  pub whole : IfSome sent (λ all. IfSome got (λ front. ended ≡ Some true → front ≡ all))
  pub was_finished : IfSome finished (λ b. ended ≡ Some true → b ≡ true)

-- No end of a wire is to fail.
module _ {O I : Type 0} (out : O → Type 0) (input : I → Type 0) where
  pub record NeverFails (wire : Wire O I) : Type 0 where
    pub data_out : out wire.data_out
    pub data_in : input wire.data_in
    pub control_out : out wire.control_out
    pub control_in : input wire.control_in

-- The faults of the four ends of a wire, together.
module _ {O I : Type 0} (of_out : O → ℕ) (of_in : I → ℕ) where
  abbrev pub faults_of : Wire O I → ℕ
  faults_of wire = of_out wire.data_out + of_in wire.data_in + of_out wire.control_out + of_in wire.control_in

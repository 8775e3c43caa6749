-- Why a wire can't be had, and what stands behind a fault of one. This is this project's own choice.
use Rattle.std.specs.Prelude.{◌≡◌, ◌⊎◌, ℕ, Bool, List, ◌++◌, slice_get, Option, Some, IfSome}
use Rattle.flow_defs.specs.declared.cause.Cause.{Cause}
use Rattle.flow_defs.specs.declared.cause.Cause.TheVariants.{Link, Memory}
use Rattle.flow_defs.specs.declared.cause.PeerFault.{PeerFault}
use Rattle.flow_defs.specs.declared.job.Job.{Job}
use Rattle.outside.specs.declared.wires.Wire.{Wire}
use Rattle.outside.specs.Faults.{HasRisen}
use Rattle.conn_parts.specs.Messages.{is_from_sender, is_from_receiver}
use Rattle.job_cells.specs.Edges.{channels_on}
use Rattle.job_outcome.specs.Grounds.{HasMetFault, IsTaskFault, ItemsBegin, ControlBegins}

-- What stands behind a fault of a link: the count of faults rose, and some call was to fail.
pub record IsLinkGround (never_fails : Type 0) (before after : ℕ) : Type 0 where
  pub risen : HasRisen before after
  pub may_fail : never_fails → ⊥

module _ {O I : Type 0} (sent : O → Option (List ℕ)) (got : I → Option (List ℕ)) (ended : I → Option Bool) where
  -- What came over one of the links of the wire of edge e has this fault.
  abbrev pub HasWireFault : Job → ℕ → Wire O I → PeerFault → Type 0
  HasWireFault job e wire fault =
      HasMetFault sent got ended is_from_sender (ItemsBegin (channels_on job e)) wire.data_in fault
      ⊎ HasMetFault sent got ended is_from_receiver ControlBegins wire.control_in fault

  -- What stands behind a fault of a connection's other end: a task found it, or one of the wires that were given back has it, where
  -- these are told.
  abbrev pub IsPeerGround : Job → Option (List (Wire O I)) → Option (List (Wire O I)) → PeerFault → Type 0
  IsPeerGround job before after fault =
      IsTaskFault fault
      ⊎ IfSome before (λ had. (gave : List (Wire O I)) × (after ≡ Some (had ++ gave))
      × ((e : ℕ) × (wire : Wire O I) × (slice_get gave e ≡ Some wire) × HasWireFault job e wire fault))

-- Why a wire could not be had: there was no memory, or a link was at fault.
abbrev pub IsWireCause : Type 0 → Cause → Type 0
IsWireCause link cause = (cause ≡ Memory) ⊎ ((cause ≡ Link) × link)

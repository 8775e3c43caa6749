use Rattle.std.proofs.Common.{◌≡◌, drop}
use Rattle.flow_defs.specs.Routes.{fnv_from}
use Rattle.flow_defs.proofs.routes.hash.Given as goal

-- the hash so far, and then the rest, is the hash of all
abbrev pub invariant-loop-byte : goal.invariant-loop-byte
invariant-loop-byte l = fnv_from l.hash (drop l.byte-index l.key) ≡ fnv_from 14695981039346656037 l.fn.key

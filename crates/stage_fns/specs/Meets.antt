-- What a function has to do to stand for a stage or an aggregate of a job. That jobs take such
-- functions from outside, and which arguments they are called with, is this project's own choice.
use Rattle.std.specs.Prelude.{◌≡◌, ℕ, ◌≤◌, List, ◌++◌, length, take, map, Result, Ok}
use Rattle.std.specs.Borrow.{Bor, MutBor}
use Rattle.std.specs.declared.alloc.Global.{Global}
use Rattle.std.specs.declared.alloc.AllocError.{AllocError}
use Rattle.flow_defs.specs.Items.{Items}
use Rattle.flow_defs.specs.declared.job.StageKind.{StageKind}
use Rattle.flow_defs.specs.declared.job.AggKind.{AggKind}
use Rattle.flow_defs.specs.Stages.{given, IsArgument}
use Rattle.flow_defs.specs.Records.{IsShort}
use Rattle.flow_defs.specs.Aggregates.{key_of, value_of, folded}

-- What a contract sees of a list of records, and the bytes of each of them.
abbrev pub RecordList : Type 0
RecordList = Items (Items ℕ)

abbrev pub records : RecordList → List (List ℕ)
records list = map (λ b. b.items) list.items

-- A function stands for the stages of a kind: at every argument that the grammar of jobs has for the
-- kind, every record and every list it may be called, and where it answers Ok it has added to the
-- list what such a stage gives for the record. Else it answers want of memory.
pub record MeetsStage (kind : StageKind) (pre : Global → Bor (List ℕ) → Bor (List ℕ) → MutBor RecordList → Type 0)
    (post : Global → Bor (List ℕ) → Bor (List ℕ) → MutBor RecordList → Result Unit AllocError → MutBor RecordList → Type 0) : Type 0 where
  pub callable : (alloc : Global) (arg r : Bor (List ℕ)) (list : MutBor RecordList)
      → IsArgument kind arg.now → IsShort r.now → pre alloc arg r list
  pub gives : (alloc : Global) (arg r : Bor (List ℕ)) (list left : MutBor RecordList)
      → IsArgument kind arg.now → IsShort r.now → post alloc arg r list (Ok tt) left
      → records left.now ≡ records list.now ++ given kind arg.now r.now

-- A function stands for the aggregates of a kind: at every record and every value that a key has so
-- far it may be called, and it answers how many of the record's first bytes are its key, whatever
-- the old value, and the old value with the record's folded onto it.
pub record MeetsAgg (kind : AggKind) (pre : Bor (List ℕ) → ℕ → Type 0) (post : Bor (List ℕ) → ℕ → ℕ × ℕ → Type 0) : Type 0 where
  pub callable : (r : Bor (List ℕ)) (old : ℕ) → IsShort r.now → pre r old
  pub within : (r : Bor (List ℕ)) (old : ℕ) (answer : ℕ × ℕ) → IsShort r.now → post r old answer → answer.0 ≤ length r.now
  pub key : (r : Bor (List ℕ)) (old : ℕ) (answer : ℕ × ℕ) → IsShort r.now → post r old answer → take answer.0 r.now ≡ key_of kind r.now
  pub value : (r : Bor (List ℕ)) (old : ℕ) (answer : ℕ × ℕ) → IsShort r.now → post r old answer → answer.1 ≡ folded kind old (value_of kind r.now)

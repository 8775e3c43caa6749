-- Files in memory: which of their calls fail, and what the others give.
use Rattle.std.specs.Prelude.{◌≡◌, ◌⊎◌, ℕ, ◌+◌, ◌-◌, ◌≤◌, ◌==◌, true, false, nat_eq, List, [], ◌∷◌, if◌then◌else◌, Option, Some, None, Result, Ok, Err}
use Rattle.std.specs.Option.{option_map}
use Rattle.std.specs.Cmp.Lexicographic.{pointwise}
use Rattle.outside.specs.declared.memory_files.MemoryFile.{MemoryFile}
use Rattle.outside.specs.declared.files.FindFault.{FindFault}
use Rattle.outside.specs.declared.files.FindFault.TheVariants.{Failed, Memory}
use Rattle.outside.specs.Memory.{SourceState, source_of, counted, is_listed}

-- The files, which finds fail, how many there were, how many faults, and how many inputs are out.
pub record FilesState : Type 0 where
  pub files : List MemoryFile
  pub fails : List ℕ
  pub calls : ℕ
  pub faults : ℕ
  pub lent : ℕ

-- These files, of which none was found yet.
abbrev pub files_of : List MemoryFile → List ℕ → FilesState
files_of files fails = record { files = files; fails = fails; calls = 0; faults = 0; lent = 0 }

-- The first file of this name.
abbrev pub named : List MemoryFile → List ℕ → Option MemoryFile
named [] name = None
named (file ∷ files) name = if pointwise nat_eq file.name name then Some file else named files name

-- The bytes of the first file of this name.
abbrev pub contents_in : List MemoryFile → List ℕ → Option (List ℕ)
contents_in files name = option_map (λ file. file.bytes.items) (named files name)

-- Each file gives at least a byte in a read.
abbrev pub AllGive : List MemoryFile → Type 0
AllGive [] = Unit {0}
AllGive (file ∷ files) = (1 ≤ file.most) × AllGive files

-- A find gives a source of a copy of the file. It fails where its number is listed, where there is no
-- such file, and where all the inputs that can be counted are out.
abbrev pub FindStep : FilesState → List ℕ → Result SourceState FindFault → FilesState → Type 0
FindStep old name (Ok input) new =
    (is_listed old.fails (counted old.calls) ≡ false)
    × ((file : MemoryFile) × (named old.files name ≡ Some file) × (input ≡ source_of file.bytes.items file.most file.fails.items))
    × (new ≡ record old { calls = counted old.calls; lent = old.lent + 1 })
FindStep old name (Err Failed) new =
    ((is_listed old.fails (counted old.calls) ≡ true) ⊎ (named old.files name ≡ None) ⊎ (18446744073709551615 ≤ old.lent))
    × (new ≡ record old { calls = counted old.calls; faults = counted old.faults })
FindStep old name (Err Memory) new =
    (is_listed old.fails (counted old.calls) ≡ false)
    × (new ≡ record old { calls = counted old.calls })

-- A back takes one input off those that are out. It counts a fault where the input has some.
abbrev pub BackStep : FilesState → SourceState → FilesState → Type 0
BackStep old input new =
    new ≡ record old { faults = (if input.faults == 0 then old.faults else counted old.faults); lent = old.lent - 1 }

use Rattle.std.proofs.Common.{◌≡◌, drop}
use Rattle.outside.specs.MemoryFiles.{named, AllGive}
use Rattle.outside.proofs.memory_files.file_named.Given as goal

-- the name has among the files from here on what it has among all of them
abbrev pub invariant-loop-file : goal.invariant-loop-file
invariant-loop-file l = (named (drop l.file-index l.files) l.name ≡ named l.files l.name) × (AllGive l.files → AllGive (drop l.file-index l.files))

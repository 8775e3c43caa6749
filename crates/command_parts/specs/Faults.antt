-- Which fault of an input a fault of finding it is.
use Rattle.outside.specs.declared.files.FindFault.{FindFault}
use Rattle.outside.specs.declared.files.FindFault.TheVariants.{Failed as FindFailed, Memory as FindMemory}
use Rattle.command_parts.specs.declared.input.InputFault.{InputFault}
use Rattle.command_parts.specs.declared.input.InputFault.TheVariants.{Failed, Memory}

abbrev pub of_find : FindFault → InputFault
of_find FindFailed = Failed
of_find FindMemory = Memory

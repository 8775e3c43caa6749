use Rattle.turn_tests.proofs.journal.write.Given as goal

abbrev pub ghosts-leave_written : goal.ghosts-leave_written
ghosts-leave_written g a = record { entry = record { value = a.value } }

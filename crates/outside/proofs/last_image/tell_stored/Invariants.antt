use Rattle.outside.proofs.last_image.tell_stored.Given as goal

abbrev pub ghosts-leave_stored : goal.ghosts-leave_stored
ghosts-leave_stored g a = record { entry = a.stored }

use Rattle.pl_cli.proofs.windows.windows_command.Given as goal

abbrev pub ghosts-write_loaded : goal.ghosts-write_loaded
ghosts-write_loaded g a = record { name = a.blank.name; parts = a.blank.parts }

use Rattle.pl_cases.proofs.cells.run_differs.Given as goal

abbrev pub ghosts-table_differs : goal.ghosts-table_differs
ghosts-table_differs a = record { name = a.blank.name; parts = a.blank.parts }

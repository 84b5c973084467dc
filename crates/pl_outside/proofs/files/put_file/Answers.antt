use Rattle.std.proofs.Common.{◌≡◌, ℕ, List, Option, position, sym, ◌∙◌}
use Rattle.pl_outside.specs.declared.files.File.{File}
use Rattle.pl_outside.specs.HeldFiles.{has_name}
use Rattle.pl_outside.proofs.Held.{held-set, held-push}
use Rattle.pl_outside.proofs.files.put_file.Goals as goal

-- the place that was found, by the terms that the clause has
found_by : (files slice : List File) (name text : List ℕ) (answer place : Option ℕ) → text ≡ name → slice ≡ files
    → answer ≡ position (has_name text) slice → answer ≡ place → position (has_name name) files ≡ place
found_by files slice name text answer place same_text same_files found is = rw (← same_text, ← same_files) (sym found ∙ is)

pub returns-in-Some-clause-held : goal.returns-in-Some-clause-held
returns-in-Some-clause-held c = λ other.
    let new : File = record { name = c.args.name; bytes = c.args.bytes } in
    held-set new other c.args.files.now.items c.in-Some.place (found_by _ _ _ _ _ _ c.deref-2.ensures c.deref.ensures.value c.place_of-place.ensures c.in-Some.is)

pub returns-in_ok-push-in-None-clause-held : goal.returns-in_ok-push-in-None-clause-held
returns-in_ok-push-in-None-clause-held c = λ other.
    let new : File = record { name = c.args.name; bytes = c.args.bytes } in
    rw c.in_ok-push-in-None.ensures.items
    (held-push new other c.args.files.now.items (found_by _ _ _ _ _ _ c.deref-2.ensures c.deref.ensures.value c.place_of-place.ensures c.in-None.is))

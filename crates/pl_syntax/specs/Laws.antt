-- What is proved of canonical texts.
use Rattle.std.specs.Prelude.{◌≡◌, ℕ, true, List}
use Rattle.pl_grammar.specs.declared.Place.{Place}
use Rattle.pl_grammar.specs.Script.{Statement, is_known}
use Rattle.pl_grammar.specs.Whole.{are_sound}
use Rattle.pl_syntax.specs.Sound.{is_written}
use Rattle.pl_syntax.specs.Canonical.{script_text}
use Rattle.pl_syntax.specs.Spells.{SpellsAgain}

abbrev pub ScriptsAreSpelled : Type 0
ScriptsAreSpelled = (n : ℕ) (ss : List Statement) (end : Place) → is_known n ≡ true → are_sound is_written ss ≡ true
    → SpellsAgain (script_text n ss) (record { version = n; statements = ss; end = end })

-- What names, strings and numbers can be written as tokens.
use Rattle.std.specs.Prelude.{Bool, true, false, nat_le, ℤ, pos, negsuc}
use Rattle.std.specs.List.{list_all}
use Rattle.pl_spec.specs.Rounding.{LIMIT}
use Rattle.pl_grammar.specs.Tree as t
use Rattle.pl_grammar.specs.Tree.{Token}
use Rattle.pl_syntax.specs.Bytes.{is_text_byte}
use Rattle.pl_spec.specs.Names.{is_name}

-- a number that isn't below 0 nor past the greatest cell
abbrev pub is_number : ℤ → Bool
is_number (pos n) = nat_le n LIMIT
is_number (negsuc n) = false

abbrev pub is_written : Token → Bool
is_written (t.Name w) = is_name w
is_written (t.Text w) = list_all is_text_byte w
is_written (t.Number v) = is_number v
is_written x = true

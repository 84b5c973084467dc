-- What a text says: the script that it spells, or its first fault.
use Rattle.std.specs.Prelude.{◌≡◌, ◌↔◌, ℕ, List}
use Rattle.pl_grammar.specs.declared.Place.{Place}
use Rattle.pl_grammar.specs.Script.{Opening, first_version}
use Rattle.pl_grammar.specs.Faults as f
use Rattle.pl_grammar.specs.Faults.{Kind, Tail, AtEnd, AtBad, Verdict, Good, Fault, verdict}
use Rattle.pl_syntax.specs.Reading.{whole}
use Rattle.pl_syntax.specs.Spells.{Parsed, Spells, FirstFault}

pub data Said : Type 0 where
  Spelled : Parsed → Said
  Faulty : Kind → Place → Said

-- after a byte that is in no token stands no script
abbrev pub said_by : ℕ → Verdict → Tail → Said
said_by n (Good ss) (AtEnd p) = Spelled (record { version = n; statements = ss; end = p })
said_by n (Good ss) (AtBad p) = Faulty f.BadByte p
said_by n (Fault k p) tail = Faulty k p

-- by the verdict over its tokens
unfoldable pub said : List ℕ → Said
said bytes = let r = whole bytes in said_by (first_version r.0) (verdict 0 Opening r.0 r.1) r.1

-- That is the script which the bytes spell by the grammar's rules, or the first fault of the text; so each
-- text has one of both.
abbrev pub TextsSay : Type 0
TextsSay =
    (bytes : List ℕ) → ((s : Parsed) → (said bytes ≡ Spelled s) ↔ Spells bytes s)
    × ((k : Kind) (p : Place) → (said bytes ≡ Faulty k p) ↔ FirstFault bytes k p)

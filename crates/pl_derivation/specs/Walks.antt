-- The derivation of a value: the facts that it rests on, each once, after those that it rests on itself.
use Rattle.std.specs.Prelude.{◌≡◌, false, ℕ, zero, suc, Bool, if◌then◌else◌, ℤ, pos, List, [], ◌∷◌, ◌++◌, map, fold, unwrap_or}
use Rattle.std.specs.List.{list_any}
use Rattle.pl_spec.specs.World.{World, day_of}
use Rattle.pl_pipeline.specs.Table.{Pipeline}
use Rattle.pl_derivation.specs.Facts.{Fact, same_fact, number_in, known_day, premises}
use Rattle.pl_derivation.specs.Facts.Fact.{Seen, TermValue, SeenValue}
use Rattle.pl_derivation.specs.Lines.{Line}
use Rattle.pl_derivation.specs.Lines.Line.{SeenLine, ValueLine, SeenValueLine}
use Rattle.pl_derivation.specs.Right.{seen_cells}

abbrev pub is_in : List Fact → Fact → Bool
is_in facts f = list_any (same_fact f) facts

-- no fact stands twice
abbrev pub IsOnce : List Fact → Type 0
IsOnce [] = Unit {0}
IsOnce (f ∷ fs) = (is_in fs f ≡ false) × IsOnce fs

-- A walk that comes to a fact: where it is finished already nothing more, else its premises in order are
-- finished, and then it. Bars are one level deep, and a term one more than those of lower numbers.
abbrev pub finish : World → Pipeline → ℕ → List Fact → Fact → List Fact
finish w p zero done f = done
finish w p (suc depth) done f =
    if is_in done f then done else fold (finish w p depth) done (premises w p (number_in w p) f) ++ f ∷ []

abbrev pub depth_of : Fact → ℕ
depth_of (Seen c a s d) = suc zero
depth_of (TermValue t a d) = suc (suc t)
depth_of (SeenValue t a s d) = suc (suc t)

-- the facts of the derivation of a fact, that fact last
abbrev pub facts_for : World → Pipeline → Fact → List Fact
facts_for w p f = finish w p (depth_of f) [] f

abbrev pub date_of : World → ℤ → ℤ
date_of w d = unwrap_or (day_of w d) (pos 0)

-- the line that states of a fact what the world has
abbrev pub line_for : World → Pipeline → Fact → Line
line_for w p (Seen c a s d) = SeenLine c a (date_of w s) (date_of w d) (seen_cells w a c s d)
line_for w p (TermValue t a d) = ValueLine t a (date_of w d) (number_in w p (TermValue t a d)) (known_day w p (TermValue t a d))
line_for w p (SeenValue t a s d) = SeenValueLine t a (date_of w s) (date_of w d) (number_in w p (SeenValue t a s d))

-- the derivation of the value of term t for asset a on session d
abbrev pub derivation : World → Pipeline → ℕ → ℕ → ℤ → List Line
derivation w p t a d = map (line_for w p) (facts_for w p (TermValue t a d))

-- a walk only puts facts after those that are finished, so that one which is too long may stop
abbrev pub WalksGrow : Type 0
WalksGrow = (w : World) (p : Pipeline) (depth : ℕ) (done : List Fact) (f : Fact) → (more : List Fact) × (finish w p depth done f ≡ done ++ more)

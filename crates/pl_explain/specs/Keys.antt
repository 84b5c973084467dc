-- The facts of the code by the definitions, and a number for each fact.
use Rattle.std.specs.Prelude.{ℕ, ◌+◌, ◌*◌, nat_lt, Bool, ◌&&◌, if◌then◌else◌, pos, Option, Some, None}
use Rattle.pl_spec.specs.World.{column_number}
use Rattle.pl_derivation.specs.Facts as spec
use Rattle.pl_explain.specs.declared.fact.Fact.{Fact}
use Rattle.pl_explain.specs.declared.fact.Fact.TheVariants.{Seen, TermValue, SeenValue}

abbrev pub fact_of : Fact → spec.Fact
fact_of (Seen column sid bar session) = spec.Seen column sid (pos bar) (pos session)
fact_of (TermValue term sid session) = spec.TermValue term sid (pos session)
fact_of (SeenValue term sid session view) = spec.SeenValue term sid (pos session) (pos view)

-- a number of 32 bits
abbrev pub is_small : ℕ → Bool
is_small n = nat_lt n 4294967296

-- four numbers as one, each with 32 bits of its own
unfoldable pub packed : ℕ → ℕ → ℕ → ℕ → ℕ
packed kind a s d = ((kind * 4294967296 + a) * 4294967296 + s) * 4294967296 + d

-- The key of a fact, where it has small numbers. The numbers of the five bar columns stand before those of the
-- terms, of which each has one for its values and one for these as they are seen from later sessions.
abbrev pub fact_key : spec.Fact → Option ℕ
fact_key (spec.Seen c a (pos s) (pos d)) = if is_small a && is_small s && is_small d then Some (packed (column_number c) a s d) else None
fact_key (spec.TermValue t a (pos d)) = if is_small a && is_small d then Some (packed (5 + 2 * t) a 0 d) else None
fact_key (spec.SeenValue t a (pos s) (pos d)) = if is_small a && is_small s && is_small d then Some (packed (6 + 2 * t) a s d) else None
fact_key f = None

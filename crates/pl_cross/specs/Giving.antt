-- What the members of a group are given.
use Rattle.std.specs.Prelude.{ℕ, Bool, ◌||◌, if◌then◌else◌, ℤ, List, []}
use Rattle.pl_spec.specs.Rounding.{is_present}
use Rattle.pl_spec.specs.Cells.{is_true}
use Rattle.pl_pipeline.specs.Kind.{CrossKind}
use Rattle.pl_pipeline.specs.Kind.CrossKind.{Summarize}
use Rattle.pl_pipeline.specs.Cross.{array_at, cross, is_for_all, summary}
use Rattle.pl_cross.specs.declared.listing.Listed.{Listed}
use Rattle.pl_cross.specs.declared.listing.Member.{Member}
use Rattle.pl_cross.specs.declared.listing.Session.{Session}
use Rattle.pl_cross.specs.Section.{order_of, upright, turned}
use Rattle.pl_cross.specs.Listing.{entries_of, gathered}

-- what an asset of the list is given
abbrev pub gives : CrossKind → List Listed → Listed → ℤ
gives k group e = cross (upright k) (entries_of group) e.place e.value

-- a member is given something: its value is present, or the kind is for all
abbrev pub is_given : CrossKind → Session → ℕ → Bool
is_given k s i = is_for_all k || is_present (array_at s.values.now i)

-- what the member at a place is given among the members of its group
abbrev pub given : CrossKind → Session → List Member → ℕ → ℤ
given k s members i =
    cross (upright k) (entries_of (gathered (order_of k) s.values.now members)) i (turned (order_of k) (array_at s.values.now i))

-- what a place has for which nothing counts
abbrev pub none_at : CrossKind → ℤ → List ℤ → ℕ → ℤ
none_at (Summarize s) empty keep i = if is_true (array_at keep i) then summary s [] else empty
none_at k empty keep i = empty

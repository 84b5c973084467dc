-- The rules of a reader, in the order in which they are tested.
use Rattle.std.specs.Prelude.{◌≡◌, ◌⊎◌, Bool, true, false, if◌then◌else◌, List, [], ◌∷◌, Option, Some, None, Result, Err, ⊤}

-- the first rule that a test finds broken, or what is right where there is none
abbrev pub first_broken : {A R : Type 0} → List R → (R → Bool) → Result A R → Result A R
first_broken [] broken right = right
first_broken (q ∷ qs) broken right = if broken q then Err q else first_broken qs broken right

-- this rule is broken, and none that stands before it
abbrev pub IsFirstBroken : {R : Type 0} → List R → (R → Type 0) → R → Type 0
IsFirstBroken [] Breaks rule = ⊥
IsFirstBroken (q ∷ qs) Breaks rule = ((q ≡ rule) × Breaks q) ⊎ (¬ Breaks q × IsFirstBroken qs Breaks rule)

-- none of the rules is broken
abbrev pub KeepsAll : {R : Type 0} → List R → (R → Type 0) → Type 0
KeepsAll [] Breaks = ⊤
KeepsAll (q ∷ qs) Breaks = ¬ Breaks q × KeepsAll qs Breaks

-- tests of what a record may hold
abbrev pub lacks : {A : Type 0} → Option A → Bool
lacks None = true
lacks (Some x) = false

abbrev pub has : {A : Type 0} → (A → Bool) → Option A → Bool
has test None = false
has test (Some x) = test x

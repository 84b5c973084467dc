-- The arrays of one session, and that the cross-section over them is the value of the term.
use Rattle.std.specs.Prelude.{◌≡◌, ◌≢◌, ◌⊎◌, ℕ, ◌<◌, ◌&&◌, if◌then◌else◌, ℤ, pos, List, [], length, filter, get_or, Option, Some, None, slice_get, AllPairs, Contains}
use Rattle.pl_spec.specs.Rounding.{MISSING}
use Rattle.pl_spec.specs.World.{World, LabelRow, exists, living_sids}
use Rattle.pl_pipeline.specs.Kind.{CrossKind}
use Rattle.pl_pipeline.specs.Kind.CrossKind.{PeerCount}
use Rattle.pl_pipeline.specs.Kind.Kind.{Cross, Label}
use Rattle.pl_spec.specs.Cells.{is_true}
use Rattle.pl_pipeline.specs.Cross.{array_at, cross_at}
use Rattle.pl_pipeline.specs.Term.{Term, Node, Graph, IsGraph}
use Rattle.pl_pipeline.specs.Term.Term.{node}
use Rattle.pl_pipeline.specs.Value.{Part, Operands, value_of_part, passes, group_of, is_cross_filter, value, operands_of}
use Rattle.pl_pipeline.specs.Value.Part.{Nothing, Values}
use Rattle.pl_pipeline.specs.Value.Value.{Number, Text}
use Rattle.pl_pipeline.specs.NodeValue.{meaning_of, node_operands}
use Rattle.pl_pipeline.specs.Table.{in_array}
use Rattle.pl_cross.specs.Listing.{labels_for}

-- the sid of a place
abbrev pub sid_in : List ℕ → ℕ → ℕ
sid_in sids i = get_or sids i 0

-- the array holds what the part gives for each asset on session d
pub record IsArray (w : World) (p : Part) (d : ℤ) (sids : List ℕ) (cells : List ℤ) : Type 0 where
  pub long : length cells ≡ length sids
  pub each : (i : ℕ) → i < length sids → array_at cells i ≡ in_array w.texts (value_of_part p (sid_in sids i) d)

-- the part gives numbers alone
abbrev pub IsNumbered : Part → ℤ → Type 0
IsNumbered p d = (a : ℕ) → (x : ℤ) × (value_of_part p a d ≡ Number x)

-- the part gives labels of the world, or none
abbrev pub IsLabelled : World → Part → ℤ → Type 0
IsLabelled w p d = (a : ℕ) → (value_of_part p a d ≡ Number MISSING) ⊎ ((t : List ℕ) × (value_of_part p a d ≡ Text t) × Contains w.texts t)

-- an array of labels or of numbers where there is a group, and none elsewhere
abbrev pub IsGroupArray : World → Part → ℤ → List ℕ → Option (List ℤ) → Type 0
IsGroupArray w Nothing d sids labels = labels ≡ None
IsGroupArray w p d sids None = ⊥
IsGroupArray w p d sids (Some labels) = IsArray w p d sids labels × (IsNumbered p d ⊎ IsLabelled w p d)

-- what is ranked or summed is numbers; peers have classes, of which the group's array speaks
abbrev pub HasNumbers : CrossKind → Part → ℤ → Type 0
HasNumbers PeerCount x d = Unit {0}
HasNumbers k x d = IsNumbered x d

-- The arrays of a session, asset by asset: the sids, the values of a kind's input, who is kept, and the
-- labels where there are groups.
pub record Columns : Type 0 where
  pub sids : List ℕ
  pub values : List ℤ
  pub keep : List ℤ
  pub labels : Option (List ℤ)

-- The columns are those of session d for a kind over its operands. The sids ascend, and each that exists on d
-- is among them.
pub record AreArrays (w : World) (k : CrossKind) (operands : Operands) (d : ℤ) (c : Columns) : Type 0 where
  pub ascend : AllPairs (λ a b. a < b) c.sids
  pub all : living_sids w d ≡ filter (λ a. exists w a d) c.sids
  pub values : IsArray w operands.first d c.sids c.values
  pub numbers : HasNumbers k operands.first d
  pub keep : (i : ℕ) → i < length c.sids
      → is_true (array_at c.keep i) ≡ (exists w (sid_in c.sids i) d && passes operands.mask (sid_in c.sids i) d)
  pub groups : IsGroupArray w (group_of k operands.first operands.group) d c.sids (labels_for k c.values c.labels)

-- the number in place of a value that is not there
abbrev pub empty_number : CrossKind → ℤ
empty_number k = if is_cross_filter k then pos 0 else MISSING

-- what the arrays give for place i
abbrev pub section_at : CrossKind → List ℤ → List ℤ → Option (List ℤ) → ℕ → ℤ
section_at k vs keep labels i = cross_at k (empty_number k) vs keep (labels_for k vs labels) i

abbrev pub section_in : CrossKind → Columns → ℕ → ℤ
section_in k c i = section_at k c.values c.keep c.labels i

-- the cross-section over the arrays of a session is the term's value for each asset
abbrev pub SectionsAreValues : Type 0
SectionsAreValues = (w : World) (names : List (List ℕ)) (k : CrossKind) (size : ℕ) (x y z mask group : Term) (d : ℤ) (c : Columns)
    → AreArrays w k (operands_of w names (node (Cross k) size x y z mask group)) d c
    → (i : ℕ) → i < length c.sids
    → value w names (node (Cross k) size x y z mask group) (sid_in c.sids i) d ≡ Number (section_in k c i)

-- the input of a node, its mask and its group are in the arrays
abbrev pub AreNodeArrays : World → List (List ℕ) → Graph → Node → CrossKind → ℤ → Columns → Type 0
AreNodeArrays w names g n k d c = AreArrays w k (node_operands w names g n) d c

-- and that of a numbered term, over the numbers that its node mentions
abbrev pub NodesAreSections : Type 0
NodesAreSections = (w : World) (names : List (List ℕ)) (g : Graph) (t : ℕ) (n : Node) (k : CrossKind) (d : ℤ) (c : Columns)
    → IsGraph g → slice_get g t ≡ Some n → n.kind ≡ Cross k → AreNodeArrays w names g n k d c
    → (i : ℕ) → i < length c.sids → meaning_of w names g t (sid_in c.sids i) d ≡ Number (section_in k c i)

-- all label texts have codes
abbrev pub HasTexts : World → Type 0
HasTexts w = (r : LabelRow) → Contains w.labels r → r.text ≢ [] → Contains w.texts r.text

-- then a label gives labels of the world
abbrev pub LabelsHaveCodes : Type 0
LabelsHaveCodes = (w : World) (names : List (List ℕ)) (n size : ℕ) (x y z mask group : Term) (d : ℤ) → HasTexts w
    → IsLabelled w (Values (value w names (node (Label n) size x y z mask group))) d

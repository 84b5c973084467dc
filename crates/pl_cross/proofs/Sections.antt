-- A cross-section over the arrays of a session is the cross-section of the definitions.
use Rattle.std.proofs.Common.{◌≡◌, ◌⊎◌, ℕ, ◌*◌, ◌<◌, ◌≤◌, Bool, true, false, ◌&&◌, ◌||◌, if◌then◌else◌, ℤ, pos, List, [], ◌∷◌, length, map, filter, get_or, Option, Some, None, refl, sym, ◌∙◌, ap, arith, nat_lt, ◌==◌, slice_get, inl, inr, AllPairs, le-ltb, lt-ltb}
use Rattle.std.specs.List.{range_with_len, list_any}
use Rattle.std.specs.Ordering.{int_eq}
use Rattle.std.proofs.Math.Bool.{and-true}
use Rattle.std.proofs.lemmas.Bool.{cases_lt, cases_eq}
use Rattle.std.proofs.lemmas.Bool.Decides.{nat_tests}
use Rattle.std.proofs.lemmas.Grind.{same_number_lists}
use Rattle.std.proofs.lemmas.Simd.{map-map}
use Rattle.std.proofs.lemmas.List.{length-map}
use Rattle.std.proofs.lemmas.List.Elements.{Contains-get_or}
use Rattle.std.proofs.lemmas.List.FromFn.{get_or-map-range_with_len, length-map-range_with_len}
use Rattle.pl_spec.specs.Rounding.{MISSING, MILLION, is_present}
use Rattle.pl_spec.specs.World.{World, exists}
use Rattle.pl_pipeline.specs.Kind.{CrossKind}
use Rattle.pl_pipeline.specs.Kind.CrossKind.{PeerCount}
use Rattle.pl_pipeline.specs.Kind.Kind.{Cross, Window}
use Rattle.pl_pipeline.specs.Cross.{Entry, cross, cross_at, entries_for, counts_at, same_group, array_at, is_for_all}
use Rattle.pl_pipeline.specs.Term.{Term, Node, Graph, IsGraph, input_tree, trees}
use Rattle.pl_pipeline.specs.Term.Term.{node}
use Rattle.pl_pipeline.specs.Value.{Part, Operands, Value, number_of, value_of_part, passes, in_group, is_same, entry, counts_for, eligible, group_of, is_cross_filter, empty, sort_over, sort_kind, kind_value, seen, value, operands_of}
use Rattle.pl_pipeline.specs.Value.Part.{Nothing, Bars, Values}
use Rattle.pl_pipeline.specs.Value.Value.{Number}
use Rattle.pl_pipeline.specs.NodeValue.{meaning_of, number_part, node_operands}
use Rattle.pl_pipeline.specs.Table.{in_array}
use Rattle.pl_spec.specs.Cells.{is_true}
use Rattle.pl_pipeline.proofs.Unfolds.{value_at-node}
use Rattle.pl_spec.proofs.Counts.{map-agree}
use Rattle.pl_spec.proofs.Lists.{filter-map, filter-same, filter-twice}
use Rattle.pl_spec.proofs.Members.{In, contains-in}
use Rattle.pl_cross.specs.Listing.{labels_for, group_at}
use Rattle.pl_cross.specs.Arrays.{sid_in, IsArray, IsNumbered, IsLabelled, IsGroupArray, HasNumbers, Columns, AreArrays, AreNodeArrays, empty_number, section_at, section_in}
use Rattle.pl_cross.proofs.Members.{in-filter, in-range, not-own}
use Rattle.pl_cross.proofs.Renaming.{named, placed, cross-named}
use Rattle.pl_cross.proofs.Codes.{present_code, same_numbers, same_labels}

-- ---- lists by their places

-- what two filtered lists of places give is one where each place gives one
map-filter-range : {X : Type 0} (f g : ℕ → X) (p q : ℕ → Bool) (n : ℕ) → ((j : ℕ) → j < n → (p j ≡ q j) × (f j ≡ g j))
    → map f (filter p (range_with_len 0 n)) ≡ map g (filter q (range_with_len 0 n))
map-filter-range f g p q n h =
    let js = range_with_len 0 n in
    ap (map f) (filter-same p q js (λ k d l. (h (get_or js k d) (within (get_or js k d) (contains-in js (get_or js k d) (Contains-get_or js k d l)))).0))
    ∙ map-agree f g (filter q js) (λ j i. (h j (within j (in-filter q js j i).0)).1)
  where
    within : (j : ℕ) → In j (range_with_len 0 n) → j < n
    within j i = let r = in-range 0 n j i in omega (arith, r.1)

-- a list by its places
places : (xs : List ℕ) → xs ≡ map (sid_in xs) (range_with_len 0 (length xs))
places xs =
    same_number_lists xs (map (sid_in xs) (range_with_len 0 (length xs))) (sym (length-map-range_with_len (sid_in xs) 0 (length xs)))
    (λ k h. sym (get_or-map-range_with_len (sid_in xs) 0 (length xs) k k 0 h (omega arith)))

-- sids ascend as their places do
sids_rise : (sids : List ℕ) → AllPairs (λ a b. a < b) sids → (i j : ℕ) → i < length sids → j < length sids → nat_lt (sid_in sids i) (sid_in sids j) ≡ nat_lt i j
sids_rise sids up i j h l = elim (cases_lt i j) [
  | inl p ↦ lt-ltb (sid_in sids i) (sid_in sids j) (up i j 0 p l) ∙ sym (lt-ltb i j p)
  | inr p ↦ le-ltb (sid_in sids i) (sid_in sids j) (no_more p) ∙ sym (le-ltb i j p)
]
  where
    no_more : j ≤ i → sid_in sids j ≤ sid_in sids i
    no_more p = elim (cases_eq j i) [
      | inl e ↦ (let s = ap (sid_in sids) e in omega arith)
      | inr ne ↦ (let r : sid_in sids j < sid_in sids i = up j i 0 (omega arith) h in omega arith)
    ]

same_tests : (a b c d : ℕ) → nat_lt a b ≡ nat_lt c d → nat_lt b a ≡ nat_lt d c → (a == b) ≡ (c == d)
same_tests a b c d h k = grind (arith, nat_tests)

-- ---- whether an asset counts

told : (w : World) (p : Part) (d : ℤ) (sids : List ℕ) (labels : List ℤ) → IsArray w p d sids labels → IsNumbered p d ⊎ IsLabelled w p d → (i j : ℕ) → i < length sids → j < length sids
    → (is_present (number_of (value_of_part p (sid_in sids i) d)) && is_same (value_of_part p (sid_in sids i) d) (value_of_part p (sid_in sids j) d)) ≡ (is_present (array_at labels i) && int_eq (array_at labels i) (array_at labels j))
told w p d sids labels holds classes i j h l =
    here classes ∙ sym (ap (λ x. is_present x && int_eq x (array_at labels j)) (holds.each i h) ∙ ap (λ y. is_present (in_array w.texts (value_of_part p (sid_in sids i) d)) && int_eq (in_array w.texts (value_of_part p (sid_in sids i) d)) y) (holds.each j l))
  where
    here : IsNumbered p d ⊎ IsLabelled w p d
        → (is_present (number_of (value_of_part p (sid_in sids i) d)) && is_same (value_of_part p (sid_in sids i) d) (value_of_part p (sid_in sids j) d))
        ≡ (is_present (in_array w.texts (value_of_part p (sid_in sids i) d)) && int_eq (in_array w.texts (value_of_part p (sid_in sids i) d)) (in_array w.texts (value_of_part p (sid_in sids j) d)))
    here (inl n) = same_numbers w.texts (value_of_part p (sid_in sids i) d) (value_of_part p (sid_in sids j) d) (n (sid_in sids i)) (n (sid_in sids j))
    here (inr t) = same_labels w.texts (value_of_part p (sid_in sids i) d) (value_of_part p (sid_in sids j) d) (t (sid_in sids i)) (t (sid_in sids j))

-- the group's array tells the groups apart
groups_told : (w : World) (p : Part) (d : ℤ) (sids : List ℕ) (labels : Option (List ℤ)) → IsGroupArray w p d sids labels → (i j : ℕ) → i < length sids → j < length sids
    → in_group p (sid_in sids i) d (sid_in sids j) ≡ same_group labels i j
groups_told w Nothing d sids labels h i j l m = ap (λ o. same_group o i j) (sym h)
groups_told w (Bars c view) d sids None h i j l m = absurd h
groups_told w (Values f) d sids None h i j l m = absurd h
groups_told w (Bars c view) d sids (Some labels) h i j l m = told w (Bars c view) d sids labels h.0 h.1 i j l m
groups_told w (Values f) d sids (Some labels) h i j l m = told w (Values f) d sids labels h.0 h.1 i j l m

and-first : (a b c d : Bool) → (a && ((b && c) && d)) ≡ (((a && b) && c) && d)
and-first true b c d = refl
and-first false b c d = refl

both-numbers : (v : Value) (texts : List (List ℕ)) → (x : ℤ) × (v ≡ Number x) → number_of v ≡ in_array texts v
both-numbers v texts n = rw n.1 refl

-- the input's numbers, where the kind looks at them
told-numbers : (k : CrossKind) (x : Part) (d : ℤ) → HasNumbers k x d → (k ≡ PeerCount) ⊎ IsNumbered x d
told-numbers PeerCount x d h = inl refl
told-numbers k x d h = inr h

-- ---- the lists of a session

abbrev pub columns : List ℕ → List ℤ → List ℤ → Option (List ℤ) → Columns
columns sids vs keep labels = record { sids = sids; values = vs; keep = keep; labels = labels }

module _ (w : World) (k : CrossKind) (o : Operands) (d : ℤ) (sids : List ℕ) (vs keep : List ℤ) (labels : Option (List ℤ)) (s : AreArrays w k o d (columns sids vs keep labels)) where
  abbrev numbers : ℕ → ℤ
  numbers j = number_of (value_of_part o.first (sid_in sids j) d)

  abbrev counting : ℕ → List ℕ
  counting i = filter (counts_at vs keep (labels_for k vs labels) i) (range_with_len 0 (length vs))

  abbrev own : ℕ → List Entry
  own i = eligible w k o (sid_in sids i) d

  counted : (i j : ℕ) → i < length sids → j < length sids
      → (exists w (sid_in sids j) d && counts_for k o (sid_in sids i) d (sid_in sids j)) ≡ counts_at vs keep (labels_for k vs labels) i j
  counted i j h l =
      and-first (exists w (sid_in sids j) d) (passes o.mask (sid_in sids j) d) (is_present (number_of (value_of_part o.first (sid_in sids j) d))) (in_group (group_of k o.first o.group) (sid_in sids i) d (sid_in sids j))
      ∙ ap (λ b. (b && is_present (number_of (value_of_part o.first (sid_in sids j) d))) && in_group (group_of k o.first o.group) (sid_in sids i) d (sid_in sids j)) (sym (s.keep j l))
      ∙ ap (λ b. (is_true (array_at keep j) && b) && in_group (group_of k o.first o.group) (sid_in sids i) d (sid_in sids j)) (present_code w.texts (value_of_part o.first (sid_in sids j) d) ∙ ap is_present (sym (s.values.each j l)))
      ∙ ap (λ b. (is_true (array_at keep j) && is_present (array_at vs j)) && b) (groups_told w (group_of k o.first o.group) d sids (labels_for k vs labels) s.groups i j h l)

  listed : (i : ℕ) → i < length sids → eligible w k o (sid_in sids i) d ≡ named (sid_in sids) numbers (counting i)
  listed i h =
      let cf : ℕ → Bool = counts_for k o (sid_in sids i) d in
      let ex : ℕ → Bool = λ b. exists w b d in
      let en : ℕ → Entry = entry o.first d in
      ap (λ l. map en (filter cf l)) s.all
      ∙ ap (map en) (filter-twice cf ex sids)
      ∙ ap (λ l. map en (filter (λ b. ex b && cf b) l)) (places sids)
      ∙ ap (map en) (filter-map (λ b. ex b && cf b) (sid_in sids) (range_with_len 0 (length sids)))
      ∙ map-map en (sid_in sids) (filter (λ j. ex (sid_in sids j) && cf (sid_in sids j)) (range_with_len 0 (length sids)))
      ∙ map-filter-range (λ j. en (sid_in sids j)) (λ j. (let e : Entry = (sid_in sids j, numbers j) in e)) (λ j. ex (sid_in sids j) && cf (sid_in sids j)) (counts_at vs keep (labels_for k vs labels) i) (length sids)
      (λ j l. (counted i j h l, refl))
      ∙ ap (λ n. map (λ j. (let e : Entry = (sid_in sids j, numbers j) in e)) (filter (counts_at vs keep (labels_for k vs labels) i) (range_with_len 0 n))) (sym s.values.long)

  among : (i j : ℕ) → In j (counting i) → j < length sids
  among i j h = let r = in-range 0 (length vs) j (in-filter (counts_at vs keep (labels_for k vs labels) i) (range_with_len 0 (length vs)) j h).0 in omega (arith, r.1, s.values.long)

  -- the asset is in its own list exactly where its place is among those that count
  any_same : (i : ℕ) (js : List ℕ) → i < length sids → ((j : ℕ) → In j js → j < length sids)
      → list_any (λ (e : Entry). e.0 == sid_in sids i) (map (λ j. (let e : Entry = (sid_in sids j, numbers j) in e)) js) ≡ list_any (λ (e : Entry). e.0 == i) (map (λ j. (let e : Entry = (j, array_at vs j) in e)) js)
  any_same i [] h all = refl
  any_same i (j ∷ js) h all =
      let l = all j (inl refl) in
      let here : (sid_in sids j == sid_in sids i) ≡ (j == i) = same_tests (sid_in sids j) (sid_in sids i) j i (sids_rise sids s.ascend j i l h) (sids_rise sids s.ascend i j h l) in
      let rest = any_same i js h (λ m n. all m (inr n)) in
      rw (here, rest) refl

  crossed : (i : ℕ) → i < length sids → (k ≡ PeerCount) ⊎ IsNumbered o.first d
      → cross k (named (sid_in sids) numbers (counting i)) (sid_in sids i) (numbers i)
      ≡ cross k (placed (array_at vs) (counting i)) i (array_at vs i)
  unfolding cross
  crossed i h (inl peers) =
      ap (λ q. cross q (named (sid_in sids) numbers (counting i)) (sid_in sids i) (numbers i)) peers
      ∙ ap (λ n. pos (n * MILLION)) (length-map (counting i) (λ j. (let e : Entry = (sid_in sids j, numbers j) in e)) ∙ sym (length-map (counting i) (λ j. (let e : Entry = (j, array_at vs j) in e))))
      ∙ ap (λ q. cross q (placed (array_at vs) (counting i)) i (array_at vs i)) (sym peers)
  crossed i h (inr numbered) =
      ap (λ l. cross k l (sid_in sids i) (numbers i)) same_values
      ∙ ap (λ v. cross k (named (sid_in sids) (array_at vs) (counting i)) (sid_in sids i) v) (value_is i h)
      ∙ cross-named (sid_in sids) (array_at vs) (counting i) i (λ j m. sids_rise sids s.ascend j i (among i j m) h) k (array_at vs i)
    where
      value_is : (j : ℕ) → j < length sids → numbers j ≡ array_at vs j
      value_is j l = both-numbers (value_of_part o.first (sid_in sids j) d) w.texts (numbered (sid_in sids j)) ∙ sym (s.values.each j l)

      same_values : named (sid_in sids) numbers (counting i) ≡ named (sid_in sids) (array_at vs) (counting i)
      same_values =
          map-agree (λ j. (let e : Entry = (sid_in sids j, numbers j) in e)) (λ j. (let e : Entry = (sid_in sids j, array_at vs j) in e)) (counting i)
          (λ j m. ap (λ x. (let e : Entry = (sid_in sids j, x) in e)) (value_is j (among i j m)))

  -- what the definitions give for the assets that exist and pass the mask
  section_is : (i : ℕ) (none : ℤ) → i < length sids → is_true (array_at keep i) ≡ true
      → (if is_for_all k || list_any (λ (e : Entry). e.0 == sid_in sids i) (own i) then cross k (own i) (sid_in sids i) (numbers i) else none) ≡ cross_at k none vs keep (labels_for k vs labels) i
  section_is i none h kept =
      let list : List Entry = named (sid_in sids) numbers (counting i) in
      ap (λ l. if is_for_all k || list_any (λ (e : Entry). e.0 == sid_in sids i) l then cross k l (sid_in sids i) (numbers i) else none) (listed i h)
      ∙ ap (λ b. if is_for_all k || b then cross k list (sid_in sids i) (numbers i) else none) (any_same i (counting i) h (among i))
      ∙ ap (λ v. if is_for_all k || list_any (λ (e : Entry). e.0 == i) (entries_for vs keep (labels_for k vs labels) i) then v else none) (crossed i h (told-numbers k o.first d s.numbers))
      ∙ ap (λ b. if b || list_any (λ (e : Entry). e.0 == i) (entries_for vs keep (labels_for k vs labels) i) then cross k (entries_for vs keep (labels_for k vs labels) i) i (array_at vs i) else none)
      (sym (ap (λ b. is_for_all k && b) kept ∙ and-true (is_for_all k)))

-- ---- values of terms

empty-is : (k : CrossKind) → empty (Cross k) ≡ Number (empty_number k)
empty-is k = here (is_cross_filter k)
  where
    here : (b : Bool) → (if b then Number (pos 0) else Number MISSING) ≡ Number (if b then pos 0 else MISSING)
    here true = refl
    here false = refl

module _ (w : World) (names : List (List ℕ)) (k : CrossKind) (size : ℕ) (o : Operands) (d : ℤ) (sids : List ℕ) (vs keep : List ℤ) (labels : Option (List ℤ)) (s : AreArrays w k o d (columns sids vs keep labels)) where
  abbrev sid : ℕ → ℕ
  sid i = sid_in sids i

  abbrev list : ℕ → List Entry
  list i = eligible w k o (sid_in sids i) d

  kept-value : (i : ℕ) → i < length sids → is_true (array_at keep i) ≡ true → kind_value w names (Cross k) size o (sid_in sids i) d ≡ Number (section_at k vs keep labels i)
  unfolding kind_value
  kept-value i h kept =
      ap (λ v. if is_for_all k || list_any (λ (e : Entry). e.0 == sid i) (list i) then Number (cross k (list i) (sid i) (number_of (value_of_part o.first (sid i) d))) else v) (empty-is k)
      ∙ inside (is_for_all k || list_any (λ (e : Entry). e.0 == sid i) (list i)) (cross k (list i) (sid i) (number_of (value_of_part o.first (sid i) d))) (empty_number k)
      ∙ ap Number (section_is w k o d sids vs keep labels s i (empty_number k) h kept)
    where
      inside : (b : Bool) (u v : ℤ) → (if b then Number u else Number v) ≡ Number (if b then u else v)
      inside true u v = refl
      inside false u v = refl

  none-for-all : (a b : Bool) → b ≡ false → (a && b) ≡ false
  none-for-all true b e = e
  none-for-all false b e = refl

  -- an asset that is not kept is not listed
  left-out : (i : ℕ) → i < length sids → (exists w (sid_in sids i) d && passes o.mask (sid_in sids i) d) ≡ false → section_at k vs keep labels i ≡ empty_number k
  left-out i h out = not-own k (empty_number k) vs keep (labels_for k vs labels) i (none-for-all (is_for_all k) (is_true (array_at keep i)) (s.keep i h ∙ out)) (ap (λ b. b && (is_present (array_at vs i) && is_present (group_at (labels_for k vs labels) i))) (s.keep i h ∙ out))

  pub part-value : (i : ℕ) → i < length sids
      → (if exists w (sid_in sids i) d && passes o.mask (sid_in sids i) d then kind_value w names (Cross k) size o (sid_in sids i) d else empty (Cross k))
      ≡ Number (section_at k vs keep labels i)
  part-value i h = here (exists w (sid_in sids i) d && passes o.mask (sid_in sids i) d) refl
    where
      here : (b : Bool) → (exists w (sid_in sids i) d && passes o.mask (sid_in sids i) d) ≡ b
          → (if b then kind_value w names (Cross k) size o (sid_in sids i) d else empty (Cross k)) ≡ Number (section_at k vs keep labels i)
      here true e = kept-value i h (s.keep i h ∙ e)
      here false e = empty-is k ∙ ap Number (sym (left-out i h e))

pub term-value : (w : World) (names : List (List ℕ)) (k : CrossKind) (size : ℕ) (x y z mask group : Term) (d : ℤ) (c : Columns)
    → AreArrays w k (operands_of w names (node (Cross k) size x y z mask group)) d c
    → (i : ℕ) → i < length c.sids → value w names (node (Cross k) size x y z mask group) (sid_in c.sids i) d ≡ Number (section_in k c i)
unfolding value seen
term-value w names k size x y z mask group d c s i h = part-value w names k size _ d c.sids c.values c.keep c.labels s i h

pub node-value : (w : World) (names : List (List ℕ)) (g : Graph) (t : ℕ) (n : Node) (k : CrossKind) (d : ℤ) (c : Columns)
    → IsGraph g → slice_get g t ≡ Some n → n.kind ≡ Cross k → AreNodeArrays w names g n k d c
    → (i : ℕ) → i < length c.sids → meaning_of w names g t (sid_in c.sids i) d ≡ Number (section_in k c i)
node-value w names g t n k d c ok e kind s i h =
    let a : ℕ = sid_in c.sids i in
    value_at-node w names g ok t n e (λ formula own. absurd (let bad : Window formula ≡ Cross k = sym own ∙ kind in cc)) a d
    ∙ ap (λ q. if exists w a d && passes (number_part w names g n.mask) a d
    then kind_value w names q n.window (node_operands w names g n) a d
    else empty (sort_over q (sort_kind (input_tree (trees g) (slice_get n.inputs 0))))) kind
    ∙ part-value w names k n.window (node_operands w names g n) d c.sids c.values c.keep c.labels s i h

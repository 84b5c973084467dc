-- What a cross-section rests on: its mask, its group and its input, each for all assets that exist.
use Rattle.std.proofs.Common.{◌≡◌, ℕ, zero, suc, ◌+◌, ◌<◌, Bool, true, false, ◌&&◌, if◌then◌else◌, cond, ℤ, All, List, [], ◌∷◌, ◌++◌, map, flat_map, filter, length, Option, Some, None, option_map, slice_get, IfSome, pos, refl, sym, ◌∙◌, ap, arith, inl, inr}
use Rattle.std.specs.List.{list_all}
use Rattle.std.proofs.Math.Bool.{and-true}
use Rattle.std.proofs.lemmas.Bool.{cases_lt, and_from, and_left, and_right}
use Rattle.std.proofs.lemmas.List.Folds.{list_all-append}
use Rattle.pl_spec.specs.declared.AssetRow.{AssetRow}
use Rattle.pl_spec.specs.Parts.{sid_at}
use Rattle.pl_spec.specs.Rounding.{IsCell}
use Rattle.pl_spec.specs.World.{exists, living_sids}
use Rattle.pl_pipeline.specs.Term.{Graph, Node}
use Rattle.pl_pipeline.specs.Value.{Own}
use Rattle.pl_pipeline.specs.Term.Input.{TermInput}
use Rattle.pl_derivation.specs.Facts.{Fact, number_facts, facts_now, over_inputs, entry_facts}
use Rattle.pl_derivation.specs.Facts.Fact.{TermValue}
use Rattle.pl_explain.specs.declared.fact_numbers.FactNumbers.{FactNumbers}
use Rattle.pl_explain.specs.declared.basis.Basis.{Basis}
use Rattle.pl_terms.specs.declared.node.TermId.{TermId}
use Rattle.pl_terms.specs.Nodes.{number_of}
use Rattle.pl_world.specs.Worlds.{world_of}
use Rattle.pl_world.specs.Evaluations.{optional_row_in, row_in}
use Rattle.pl_explain.specs.Given.{has, has_all, living_facts, sid_in, value_in, IsGiven}
use Rattle.pl_explain.proofs.Given.{got, lacked, refused, accepted}

-- ---- three lists for each

shuffle : (a b c x y z : Bool) → ((a && b && c) && (x && y && z)) ≡ ((a && x) && (b && y) && (c && z))
shuffle true true true true true z = refl
shuffle true true false true true z = refl
shuffle true false c true y z = refl
shuffle a b c x y z = refl

module _ (h : Fact → Bool) (f g k : ℕ → List Fact) where
  each-list : (b : ℕ) → list_all h (f b ++ g b ++ k b) ≡ (list_all h (f b) && list_all h (g b) && list_all h (k b))
  each-list b = list_all-append h (f b ++ g b) (k b) ∙ ap (λ t. t && list_all h (k b)) (list_all-append h (f b) (g b)) ∙ grouped (list_all h (f b)) (list_all h (g b)) (list_all h (k b))
    where
      grouped : (x y z : Bool) → ((x && y) && z) ≡ (x && y && z)
      grouped true y z = refl
      grouped false y z = refl

  pub entries-split : (bs : List ℕ) → list_all h (flat_map (λ b. f b ++ g b ++ k b) bs) ≡ (list_all h (flat_map f bs) && list_all h (flat_map g bs) && list_all h (flat_map k bs))
  entries-split [] = refl
  entries-split (b ∷ bs) =
      list_all-append h (f b ++ g b ++ k b) (flat_map (λ b. f b ++ g b ++ k b) bs)
      ∙ ap (λ t. t && list_all h (flat_map (λ b. f b ++ g b ++ k b) bs)) (each-list b)
      ∙ ap (λ t. (list_all h (f b) && list_all h (g b) && list_all h (k b)) && t) (entries-split bs)
      ∙ shuffle (list_all h (f b)) (list_all h (g b)) (list_all h (k b)) (list_all h (flat_map f bs)) (list_all h (flat_map g bs)) (list_all h (flat_map k bs))
      ∙ ap (λ t. t && (list_all h (g b) && list_all h (flat_map g bs)) && (list_all h (k b) && list_all h (flat_map k bs))) (sym (list_all-append h (f b) (flat_map f bs)))
      ∙ ap (λ t. list_all h (f b ++ flat_map f bs) && t && (list_all h (k b) && list_all h (flat_map k bs))) (sym (list_all-append h (g b) (flat_map g bs)))
      ∙ ap (λ t. list_all h (f b ++ flat_map f bs) && list_all h (g b ++ flat_map g bs) && t) (sym (list_all-append h (k b) (flat_map k bs)))

-- ---- one list each

pub no-facts : (d : ℤ) (bs : List ℕ) → flat_map (λ b. number_facts b d None) bs ≡ []
no-facts d [] = refl
no-facts d (b ∷ bs) = no-facts d bs

pub term-facts : (t : ℕ) (d : ℤ) (bs : List ℕ) → flat_map (λ b. number_facts b d (Some t)) bs ≡ map (λ b. TermValue t b d) bs
term-facts t d [] = refl
term-facts t d (b ∷ bs) = ap (λ l. TermValue t b d ∷ l) (term-facts t d bs)

pub input-facts : (g : Graph) (n : Node) (t : ℕ) (d : ℤ) → slice_get n.inputs 0 ≡ Some (TermInput t) → slice_get n.inputs 1 ≡ None → slice_get n.inputs 2 ≡ None
    → (bs : List ℕ) → flat_map (λ b. over_inputs (facts_now g Own b d) n) bs ≡ map (λ b. TermValue t b d) bs
input-facts g n t d e f h [] = refl
input-facts g n t d e f h (b ∷ bs) = ap (λ l. l ++ flat_map (λ b. over_inputs (facts_now g Own b d) n) bs) one ∙ ap (λ l. TermValue t b d ∷ l) (input-facts g n t d e f h bs)
  where
    one : over_inputs (facts_now g Own b d) n ≡ TermValue t b d ∷ []
    one = rw (e, f, h) refl

module _ (stated : FactNumbers) (g : Graph) (n : Node) (d : ℤ) (bs : List ℕ) where
  abbrev pub masks : List Fact
  masks = flat_map (λ b. number_facts b d n.mask) bs

  abbrev pub groups : List Fact
  groups = flat_map (λ b. number_facts b d n.group) bs

  abbrev pub inputs : List Fact
  inputs = flat_map (λ b. over_inputs (facts_now g Own b d) n) bs

  whole : has_all stated (flat_map (entry_facts g n d) bs) ≡ (has_all stated masks && has_all stated groups && has_all stated inputs)
  whole = entries-split (has stated) (λ b. number_facts b d n.mask) (λ b. number_facts b d n.group) (λ b. over_inputs (facts_now g Own b d) n) bs

  pub entries-stated : has_all stated masks ≡ true → has_all stated groups ≡ true → has_all stated inputs ≡ true → has_all stated (flat_map (entry_facts g n d) bs) ≡ true
  entries-stated x y z = whole ∙ rw (x, y, z) refl

  pub masks-lack : has_all stated masks ≡ false → has_all stated (flat_map (entry_facts g n d) bs) ≡ false
  masks-lack x = whole ∙ and_left (has_all stated masks && has_all stated groups) (has_all stated inputs) (and_left (has_all stated masks) (has_all stated groups) x)

  pub groups-lack : has_all stated groups ≡ false → has_all stated (flat_map (entry_facts g n d) bs) ≡ false
  groups-lack x = whole ∙ and_left (has_all stated masks && has_all stated groups) (has_all stated inputs) (and_right (has_all stated masks) (has_all stated groups) x)

  pub inputs-lack : has_all stated inputs ≡ false → has_all stated (flat_map (entry_facts g n d) bs) ≡ false
  inputs-lack x = whole ∙ and_right (has_all stated masks && has_all stated groups) (has_all stated inputs) x

-- ---- for the assets that exist, place by place

-- the fact of a sid that passes a test
abbrev pub fact_where : (ℕ → Bool) → (ℕ → Fact) → ℕ → List Fact
fact_where q f a = if q a then f a ∷ [] else []

module _ (stated : FactNumbers) (q : ℕ → Bool) (f : ℕ → Fact) where
  abbrev sids : List AssetRow → List ℕ
  sids assets = map (λ a. a.sid) assets

  one : (b : Bool) (x : Fact) (xs : List Fact) → has_all stated (if b then x ∷ [] else []) ≡ true → has_all stated xs ≡ true → has_all stated (cond b (x ∷ xs) xs) ≡ true
  one true x xs h i = and_from (has stated x) (has_all stated xs) (sym (and-true (has stated x)) ∙ h) i
  one false x xs h i = i

  own : (b : Bool) (x : Fact) (xs : List Fact) → has_all stated (if b then x ∷ [] else []) ≡ false → has_all stated (cond b (x ∷ xs) xs) ≡ false
  own true x xs h = and_left (has stated x) (has_all stated xs) (sym (and-true (has stated x)) ∙ h)
  own false x xs h = absurd (let bad : true ≡ false = h in cc)

  other : (b : Bool) (x : Fact) (xs : List Fact) → has_all stated xs ≡ false → has_all stated (cond b (x ∷ xs) xs) ≡ false
  other true x xs h = and_right (has stated x) (has_all stated xs) h
  other false x xs h = h

  kept-first : (b : Bool) (a : ℕ) (bs : List ℕ) → map f (cond b (a ∷ bs) bs) ≡ cond b (f a ∷ map f bs) (map f bs)
  kept-first true a bs = refl
  kept-first false a bs = refl

  pub living-stated : (assets : List AssetRow) → ((i : ℕ) → i < length assets → has_all stated (fact_where q f (sid_at assets i)) ≡ true) → has_all stated (map f (filter q (sids assets))) ≡ true
  living-stated [] h = refl
  living-stated (a ∷ assets) h =
      ap (has_all stated) (kept-first (q a.sid) a.sid (filter q (sids assets)))
      ∙ one (q a.sid) (f a.sid) (map f (filter q (sids assets))) (h 0 (omega arith)) (living-stated assets (λ i l. h (suc i) (omega (arith, l))))

  pub living-lacks : (assets : List AssetRow) (i : ℕ) → i < length assets → has_all stated (fact_where q f (sid_at assets i)) ≡ false → has_all stated (map f (filter q (sids assets))) ≡ false
  living-lacks [] i l h = absurd (omega (arith, l))
  living-lacks (a ∷ assets) zero l h = ap (has_all stated) (kept-first (q a.sid) a.sid (filter q (sids assets))) ∙ own (q a.sid) (f a.sid) (map f (filter q (sids assets))) h
  living-lacks (a ∷ assets) (suc i) l h =
      ap (has_all stated) (kept-first (q a.sid) a.sid (filter q (sids assets)))
      ∙ other (q a.sid) (f a.sid) (map f (filter q (sids assets))) (living-lacks assets i (omega (arith, l)) h)

module _ (b : Basis) where
  -- of an asset that does not exist nothing has to be stated
  pub living-none : (t col s : ℕ) (x : ℤ) → exists (world_of b.world) (sid_in b col) (pos s) ≡ false → x ≡ value_in b t col s → IsCell x
      → IsGiven IsCell b.stated.now (living_facts (world_of b.world) t (sid_in b col) (pos s)) (value_in b t col s) (Some x)
  living-none t col s x e h cell = record { value = rw (e, h) refl; such = cell }

  -- ---- the row of what may not be there

  module _ (s : ℕ) (u : Option TermId) where
    abbrev bs : List ℕ
    bs = living_sids (world_of b.world) (pos s)

    abbrev facts : Option TermId → List Fact
    facts o = flat_map (λ a. number_facts a (pos s) (option_map number_of o)) bs

    abbrev row : Option TermId → Option (List ℤ)
    row o = optional_row_in b.world b.checked.now o s

    abbrev IsRow : Option (Option (List ℤ)) → Type 0
    IsRow o = IsGiven (λ r. IfSome r (All IsCell)) b.stated.now (facts u) (row u) o

    pub no-row : u ≡ None → IsRow (Some None)
    no-row gone = accepted b.stated.now [] (facts u) (row u) None (ap facts gone ∙ no-facts (pos s) bs) refl (sym (ap row gone)) tt

    pub one-row : (x : TermId) → u ≡ Some x → (r : Option (List ℤ)) → IsGiven (All IsCell) b.stated.now (map (λ a. TermValue x.0 a (pos s)) bs) (row_in b.world b.checked.now x.0 s) r
        → IsRow (option_map Some r)
    one-row x is None h =
        refused b.stated.now (map (λ a. TermValue x.0 a (pos s)) bs) (facts u) (row u) None (ap facts is ∙ term-facts x.0 (pos s) bs) (lacked b.stated.now None h refl) refl
    one-row x is (Some xs) h =
        let both = got b.stated.now (Some xs) xs h refl in
        accepted b.stated.now (map (λ a. TermValue x.0 a (pos s)) bs) (facts u) (row u) (Some xs) (ap facts is ∙ term-facts x.0 (pos s) bs) both.0 (ap Some both.1 ∙ sym (ap row is)) both.2

-- one place more
pub next-place : (g : ℕ → Bool) (at : ℕ) → ((i : ℕ) → i < at → g i ≡ true) → g at ≡ true → (i : ℕ) → i < at + 1 → g i ≡ true
next-place g at h e i l = elim (cases_lt i at) [
  | inl before ↦ h i before
  | inr past ↦ (let same : at ≡ i = omega (arith, past, l) in ap g (sym same) ∙ e)
]

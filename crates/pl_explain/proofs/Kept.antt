-- What a kept row of a cross-section states.
use Rattle.std.proofs.Common.{◌≡◌, ◌==◌, ◌&&◌, if◌then◌else◌, ℕ, Bool, true, false, ℤ, pos, All, List, map, flat_map, length, get_or, Option, Some, None, option_map, IfNone, IfSome, slice_get, refl, sym, ◌∙◌, ap, subst, arith}
use Rattle.std.proofs.lemmas.Bool.{and_from, and_parts, eq-eqb, eqb-true}
use Rattle.std.proofs.lemmas.List.{get_or-map, length-map}
use Rattle.std.proofs.lemmas.Option.{none-some}
use Rattle.pl_spec.specs.declared.AssetRow.{AssetRow}
use Rattle.pl_spec.specs.Rounding.{IsCell}
use Rattle.pl_spec.specs.World.{living_sids}
use Rattle.pl_terms.specs.declared.node.Input.TheVariants as input
use Rattle.pl_terms.specs.declared.node.Node.{Node}
use Rattle.pl_terms.specs.declared.node.TermId.{TermId}
use Rattle.pl_pipeline.specs.Value.{Own}
use Rattle.pl_terms.specs.Checked.{pipeline_of}
use Rattle.pl_terms.specs.Kinds.{kind_of}
use Rattle.pl_terms.specs.Nodes.{input_of, node_of, number_of}
use Rattle.pl_cross.specs.Section.{is_section}
use Rattle.pl_derivation.specs.Facts.{Fact, entry_facts, facts_now, number_facts, over_inputs}
use Rattle.pl_derivation.specs.Facts.Fact.{TermValue}
use Rattle.pl_explain.specs.declared.basis.Basis.{Basis}
use Rattle.pl_explain.specs.declared.rows.Rows.{Rows}
use Rattle.pl_explain.specs.Looking.{row_at}
use Rattle.pl_world.specs.Worlds.{world_of}
use Rattle.pl_world.specs.Evaluations.{AreRowsOf, HasKind, cell_in, optional_row_in, row_in}
use Rattle.pl_spec.proofs.Columns.{no_asset, sid-there}
use Rattle.pl_world.proofs.Asked.{inputs-at}
use Rattle.pl_world.proofs.Evaluated.{section-is, code-node}
use Rattle.pl_explain.specs.Given.{facts_in, has_all, value_in, IsAskedOn, IsGiven, IsKeptAt, IsKeptRow, KeepsAll}
use Rattle.pl_explain.proofs.Given.{got, lacked, refused, accepted}
use Rattle.pl_explain.proofs.Entries.{input-facts, entries-stated, masks-lack, groups-lack, inputs-lack}
use Rattle.pl_explain.proofs.Values.{section-alone}

-- ---- the row of a cross-section

-- what each asset that exists has to tell of a node
abbrev pub entries : Basis → ℕ → Node → List Fact
entries b s n = flat_map (entry_facts (pipeline_of b.checked.now).graph (node_of n) (pos s)) (living_sids (world_of b.world) (pos s))

module _ {b : Basis} {s : ℕ} (on : IsAskedOn b s) (t : ℕ) (n : Node) (is : slice_get b.checked.now.graph t ≡ Some n) where
  abbrev bs : List ℕ
  bs = living_sids (world_of b.world) (pos s)

  -- of one term, and of one that may not be there
  abbrev Row : TermId → Option (List ℤ) → Type 0
  Row u o = IsGiven (All IsCell) b.stated.now (map (λ a. TermValue u.0 a (pos s)) bs) (row_in b.world b.checked.now u.0 s) o

  abbrev OptionalRow : Option TermId → Option (Option (List ℤ)) → Type 0
  OptionalRow u o = IsGiven (λ r. IfSome r (All IsCell)) b.stated.now (flat_map (λ a. number_facts a (pos s) (option_map number_of u)) bs) (optional_row_in b.world b.checked.now u s) o

  -- there is one node of a number
  one-node : (P : Node → Type 0) → P n → (m : Node) → slice_get b.checked.now.graph t ≡ Some m → P m
  one-node P h m e = let same : Some n ≡ Some m = sym is ∙ e in let one : n ≡ m = cc in subst P one h

  lacks : has_all b.stated.now (entries b s n) ≡ false → (m : Node) → slice_get b.checked.now.graph t ≡ Some m → has_all b.stated.now (entries b s m) ≡ false
  lacks h = one-node (λ m. has_all b.stated.now (entries b s m) ≡ false) h

  pub no-masks : OptionalRow n.mask None → (m : Node) → slice_get b.checked.now.graph t ≡ Some m → has_all b.stated.now (entries b s m) ≡ false
  unfolding node_of
  no-masks h = lacks (masks-lack b.stated.now (pipeline_of b.checked.now).graph (node_of n) (pos s) bs (lacked b.stated.now None h refl))

  pub no-groups : OptionalRow n.group None → (m : Node) → slice_get b.checked.now.graph t ≡ Some m → has_all b.stated.now (entries b s m) ≡ false
  unfolding node_of
  no-groups h = lacks (groups-lack b.stated.now (pipeline_of b.checked.now).graph (node_of n) (pos s) bs (lacked b.stated.now None h refl))

  module _ (kind : is_section (kind_of n.kind) ≡ true) (u : TermId) (own : slice_get n.inputs 0 ≡ Some (input.Term u)) where
    reads : flat_map (λ a. over_inputs (facts_now (pipeline_of b.checked.now).graph Own a (pos s)) (node_of n)) bs ≡ map (λ a. TermValue u.0 a (pos s)) bs
    reads =
        let none = section-alone b.world b.checked.now on.ready.checked t n is 0 0 None kind in
        input-facts (pipeline_of b.checked.now).graph (node_of n) u.0 (pos s) (inputs-at n 0 ∙ ap (option_map input_of) own) none.0 none.1 bs

    pub no-values : Row u None → (m : Node) → slice_get b.checked.now.graph t ≡ Some m → has_all b.stated.now (entries b s m) ≡ false
    no-values h = lacks (inputs-lack b.stated.now (pipeline_of b.checked.now).graph (node_of n) (pos s) bs (ap (has_all b.stated.now) reads ∙ lacked b.stated.now None h refl))

    module _ (xs : List ℤ) (ms gs : Option (List ℤ)) (x : Row u (Some xs)) (y : OptionalRow n.mask (Some ms)) (z : OptionalRow n.group (Some gs)) where
      pub are-rows : AreRowsOf b.world b.checked.now t s xs ms gs
      are-rows =
          let gx = got b.stated.now (Some xs) xs x refl in
          let gy = got b.stated.now (Some ms) ms y refl in
          let gz = got b.stated.now (Some gs) gs z refl in
          record {
            own = one-node (λ m. (u : TermId) × (slice_get m.inputs 0 ≡ Some (input.Term u)) × (xs ≡ row_in b.world b.checked.now u.0 s)) (u, own, gx.1);
            cells = gx.2;
            mask = one-node (λ m. ms ≡ optional_row_in b.world b.checked.now m.mask s) gy.1;
            groups = one-node (λ m. gs ≡ optional_row_in b.world b.checked.now m.group s) gz.1;
            mask_cells = gy.2;
            group_cells = gz.2;
          }

      pub row-stands : (m : Node) → slice_get b.checked.now.graph t ≡ Some m → has_all b.stated.now (entries b s m) ≡ true
      unfolding node_of
      row-stands = one-node (λ m. has_all b.stated.now (entries b s m) ≡ true) (entries-stated b.stated.now (pipeline_of b.checked.now).graph (node_of n) (pos s) bs (got b.stated.now (Some ms) ms y refl).0
          (got b.stated.now (Some gs) gs z refl).0 (ap (has_all b.stated.now) reads ∙ (got b.stated.now (Some xs) xs x refl).0))

-- ---- a cell of a row

pub kept-long : (b : Basis) (t s : ℕ) (row : List ℤ) → IsKeptRow b.world b.checked.now b.stated.now t s row → length row ≡ length b.world.assets.now
kept-long b t s row kept = ap (λ (r : List ℤ). length r) kept.is ∙ length-map b.world.assets.now (λ (a : AssetRow). cell_in b.world b.checked.now t a.sid s)

module _ {b : Basis} {t col s : ℕ} (k : IsKeptAt b t col s) (kind : HasKind b.checked.now t is_section) where
  reads-entries : (n : Node) → slice_get b.checked.now.graph t ≡ Some n → facts_in b t col s ≡ entries b s n
  reads-entries n is = let k = section-is (kind_of n.kind) (kind n is) in rw (is, k.1) refl

  pub kept-cell : (row : List ℤ) (d v : ℤ) → IsKeptRow b.world b.checked.now b.stated.now t s row → v ≡ get_or row col d → IsGiven IsCell b.stated.now (facts_in b t col s) (value_in b t col s) (Some v)
  kept-cell row d v kept e =
      let n = code-node b.checked.now.graph t k.term in
      let inside = k.at.column in
      let long = kept-long b t s row kept in
      let cell = ap (λ r. get_or r col d) kept.is ∙ get_or-map (λ (a : AssetRow). cell_in b.world b.checked.now t a.sid s) b.world.assets.now col no_asset d inside
      ∙ ap (λ a. cell_in b.world b.checked.now t a s) (sym (sid-there b.world.assets.now col inside)) in
      accepted b.stated.now (entries b s n.0) (facts_in b t col s) (value_in b t col s) v (reads-entries n.0 n.1) (kept.stand n.0 n.1) (e ∙ cell) (subst IsCell (sym e) (kept.cells col d (omega (arith, long, inside))))

  pub none-kept : {X : Type 0} (o : Option X) → o ≡ None → IfNone o ((n : Node) → slice_get b.checked.now.graph t ≡ Some n → has_all b.stated.now (entries b s n) ≡ false)
      → IsGiven IsCell b.stated.now (facts_in b t col s) (value_in b t col s) None
  none-kept o is lacks =
      let n = code-node b.checked.now.graph t k.term in
      let none = subst (λ p. IfNone p ((n : Node) → slice_get b.checked.now.graph t ≡ Some n → has_all b.stated.now (entries b s n) ≡ false)) is lacks in
      refused b.stated.now (entries b s n.0) (facts_in b t col s) (value_in b t col s) None (reads-entries n.0 n.1) (none n.0 n.1) refl

-- ---- rows that are kept

module _ (old new : Rows) (t s : ℕ) (row : List ℤ) (is : (u d : ℕ) → row_at new u d ≡ (if t == u && s == d then Some row else row_at old u d)) where
  pub row-now : row_at new t s ≡ Some row
  row-now = is t s ∙ ap (λ b. if b then Some row else row_at old t s) (and_from (t == t) (s == s) (eq-eqb t t refl) (eq-eqb s s refl))

  pub rows-stay : row_at old t s ≡ None → KeepsAll old new
  rows-stay none u d r e = here (t == u && s == d) refl
    where
      here : (b : Bool) → (t == u && s == d) ≡ b → row_at new u d ≡ Some r
      here true f = let p = and_parts (t == u) (s == d) f in absurd (none-some r (sym none ∙ ap (λ n. row_at old n s) (eqb-true t u p.0) ∙ ap (row_at old u) (eqb-true s d p.1) ∙ e))
      here false f = is u d ∙ ap (λ b. if b then Some row else row_at old u d) f ∙ e

  -- what each kept row has, those that were kept have, and the row that is put
  pub rows-have : (P : ℕ → ℕ → List ℤ → Type 0) → ((u d : ℕ) (r : List ℤ) → row_at old u d ≡ Some r → P u d r) → P t s row → (u d : ℕ) (r : List ℤ) → row_at new u d ≡ Some r → P u d r
  rows-have P have one u d r e = here (t == u && s == d) refl
    where
      here : (b : Bool) → (t == u && s == d) ≡ b → P u d r
      here true f =
          let p = and_parts (t == u) (s == d) f in
          let same : Some row ≡ Some r = sym (ap (λ b. if b then Some row else row_at old u d) f) ∙ sym (is u d) ∙ e in
          subst (λ o. IfSome o (P u d)) same (subst (λ n. P n d row) (eqb-true t u p.0) (subst (λ n. P t n row) (eqb-true s d p.1) one))
      here false f = have u d r (sym (ap (λ b. if b then Some row else row_at old u d) f) ∙ sym (is u d) ∙ e)

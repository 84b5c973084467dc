-- Where the assets of two worlds are the same but for their sids, which stand in the same order, all values
-- are the same.
use Rattle.std.proofs.Common.{◌≡◌, ℕ, zero, suc, ◌-◌, ◌*◌, ◌<◌, ◌≤◌, ◌==◌, Bool, true, false, ◌&&◌, nat_lt, ℤ, pos, List, [], ◌∷◌, ◌++◌, map, filter, Option, Some, None, refl, sym, ◌∙◌, ap, arith, slice_get, count_by, inl, inr}
use Rattle.std.specs.List.{list_any, flat_map, range_with_len}
use Rattle.std.specs.Ordering.{int_eq}
use Rattle.std.proofs.Math.Path.{fun_ext}
use Rattle.std.proofs.lemmas.Bool.{cases_lt, cases_eq, eq-eqb, ne_eqb}
use Rattle.std.proofs.lemmas.Bool.Decides.{nat_tests}
use Rattle.std.proofs.lemmas.List.{length-map, map-append}
use Rattle.pl_spec.specs.declared.Column.{Column}
use Rattle.pl_spec.specs.Rounding.{is_present, MILLION}
use Rattle.pl_spec.specs.Cells.{truth}
use Rattle.pl_spec.specs.Periods.{period_start}
use Rattle.pl_spec.specs.Window.{before, downward, seen_cell}
use Rattle.pl_spec.specs.World.{World, exists, living_sids, label_at, known_number}
use Rattle.pl_spec.proofs.Lists.{filter-map}
use Rattle.pl_spec.specs.declared.Figure.{Figure}
use Rattle.pl_pipeline.specs.declared.RankMethod.{RankMethod}
use Rattle.pl_pipeline.specs.declared.RankMethod.TheVariants.{Ordinal, Min, Max, Dense, Average}
use Rattle.pl_pipeline.specs.declared.RankOrder.{RankOrder}
use Rattle.pl_pipeline.specs.Kind as kinds
use Rattle.pl_pipeline.specs.Kind.{Kind, CrossKind}
use Rattle.pl_pipeline.specs.Kind.Kind.{Constant, Label, StaticSids, Window, Point, LabelTest, Cross, Downsample}
use Rattle.pl_pipeline.specs.Kind.CrossKind.{Rank, Demean, ZScore, Quantiles, Top, Bottom, PercentileBetween, PeerCount, Winsorize, Scale, Summarize}
use Rattle.pl_pipeline.specs.Cross.{Entry, values, earlier_same, ordinal, rank, cross}
use Rattle.pl_pipeline.specs.Term.{Term, Input, Node, Graph, tree_at, input_tree, number_tree, tree_over, trees_after, term_at}
use Rattle.pl_pipeline.specs.Term.Term.{absent, column, node}
use Rattle.pl_pipeline.specs.Term.Input.{BarColumn, TermInput}
use Rattle.pl_pipeline.specs.Value.{Value, View, Own, seen_from, Part, Operands, part_from, number_of, holds, value_of_part, window_of, passes, in_group, entry, counts_for, eligible, group_of, label_value, name_at, test_value, empty, sort_over, sort_kind, is_same, view_of, kind_value, seen, value}
use Rattle.pl_pipeline.specs.Value.Value.{Number}
use Rattle.pl_pipeline.specs.Table.{Pipeline, Row, NamedColumn, is_kept, table_row, session_rows, table, value_of}
use Rattle.pl_invariance.specs.Renamed.{Rises, renamed_kind, renamed_node, renamed_pipeline, renamed_row}
use Rattle.pl_invariance.proofs.Lists.{any-map, count-map, maps, flat-map}

-- some session has the asset
abbrev pub Lives : World → ℕ → Type 0
Lives w a = (d : ℤ) × (exists w a d ≡ true)

-- The worlds have the same sessions, and on each the same assets but for their sids. Of an asset that exists
-- on some session they show the same.
pub record ShowTheSame (f : ℕ → ℕ) (w v : World) : Type 0 where
  pub days : v.days ≡ w.days
  pub living : (d : ℤ) → living_sids v d ≡ map f (living_sids w d)
  pub seen : (a : ℕ) → Lives w a → (c : Column) (s d : ℤ) → seen_cell v (f a) c s d ≡ seen_cell w a c s d
  pub labels : (a : ℕ) → Lives w a → (name : List ℕ) (d : ℤ) → label_at v name (f a) d ≡ label_at w name a d
  pub numbers : (a : ℕ) → Lives w a → (fig : Figure) (name : List ℕ) (d : ℤ) → known_number v fig name (f a) d ≡ known_number w fig name a d

module _ (f : ℕ → ℕ) (rises : Rises f) where
  -- ---- sids

  pub same_sid : (a b : ℕ) → (f a == f b) ≡ (a == b)
  same_sid a b = elim (cases_eq a b) [
    | inl e ↦ eq-eqb (f a) (f b) (ap f e) ∙ sym (eq-eqb a b e)
    | inr n ↦ ne_eqb (f a) (f b) (apart n) ∙ sym (ne_eqb a b n)
  ]
    where
      apart : (a ≡ b → ⊥) → f a ≡ f b → ⊥
      apart n e = elim (cases_lt a b) [
        | inl l ↦ (let m : f a < f b = rises a b l in absurd (omega arith))
        | inr g ↦ elim (cases_lt b a) [
          | inl l ↦ (let m : f b < f a = rises b a l in absurd (omega arith))
          | inr h ↦ n (omega arith)
        ]
      ]

  same_less : (a b : ℕ) → nat_lt (f a) (f b) ≡ nat_lt a b
  same_less a b = elim (cases_lt a b) [
    | inl l ↦ (let m : f a < f b = rises a b l in less (f a) (f b) m ∙ sym (less a b l))
    | inr g ↦ elim (cases_lt b a) [
      | inl l ↦ (let m : f b < f a = rises b a l in more (f a) (f b) (omega arith) ∙ sym (more a b (omega arith)))
      | inr h ↦ (let e : a ≡ b = omega arith in ap (λ x. nat_lt (f a) (f x)) (sym e) ∙ more (f a) (f a) (omega arith) ∙ sym (more a b (omega arith)))
    ]
  ]
    where
      less : (x y : ℕ) → x < y → nat_lt x y ≡ true
      less x y l = grind (arith, nat_tests)

      more : (x y : ℕ) → y ≤ x → nat_lt x y ≡ false
      more x y l = grind (arith, nat_tests)

  -- ---- cross-sections

  abbrev named : Entry → Entry
  named e = (f e.0, e.1)

  same_values : (list : List Entry) → values (map named list) ≡ values list
  same_values list = maps (λ (e : Entry). e.1) named list

  same_earlier : (list : List Entry) (a : ℕ) (x : ℤ) → earlier_same (f a) x (map named list) ≡ earlier_same a x list
  same_earlier list a x =
      count-map (λ (e : Entry). int_eq x e.1 && nat_lt e.0 (f a)) named list
      ∙ ap (λ p. count_by p list) (fun_ext (λ (e : Entry). ap (λ b. int_eq x e.1 && b) (same_less e.0 a)))

  same_ordinal : (order : RankOrder) (list : List Entry) (a : ℕ) (x : ℤ) → ordinal order (map named list) (f a) x ≡ ordinal order list a x
  same_ordinal order list a x = rw (same_values list, same_earlier list a x) refl

  same_rank : (method : RankMethod) (order : RankOrder) (list : List Entry) (a : ℕ) (x : ℤ) → rank method order (map named list) (f a) x ≡ rank method order list a x
  same_rank Ordinal order list a x = ap (λ n. n * MILLION) (same_ordinal order list a x)
  same_rank Min order list a x = rw (same_values list) refl
  same_rank Max order list a x = rw (same_values list) refl
  same_rank Dense order list a x = rw (same_values list) refl
  same_rank Average order list a x = rw (same_values list) refl

  same_cross : (k : CrossKind) (list : List Entry) (a : ℕ) (x : ℤ) → cross k (map named list) (f a) x ≡ cross k list a x
  unfolding cross
  same_cross (Rank method order) list a x = ap pos (same_rank method order list a x)
  same_cross Demean list a x = rw (same_values list) refl
  same_cross ZScore list a x = rw (same_values list) refl
  same_cross (Quantiles bins) list a x = rw (same_values list) refl
  same_cross (Top n) list a x = rw (same_ordinal _ list a x) refl
  same_cross (Bottom n) list a x = rw (same_ordinal _ list a x) refl
  same_cross (PercentileBetween low high) list a x = rw (same_values list) refl
  same_cross PeerCount list a x = rw (length-map list named) refl
  same_cross (Winsorize low high) list a x = rw (same_values list) refl
  same_cross Scale list a x = rw (same_values list) refl
  same_cross (Summarize told) list a x = rw (same_values list) refl

  -- ---- terms

  pub renamed_term : Term → Term
  renamed_term absent = absent
  renamed_term (column c) = column c
  renamed_term (node k size x y z m g) = node (renamed_kind f k) size (renamed_term x) (renamed_term y) (renamed_term z) (renamed_term m) (renamed_term g)

  same_empty : (k : Kind) → empty (renamed_kind f k) ≡ empty k
  same_empty (StaticSids sids) = refl
  same_empty (Constant cell) = refl
  same_empty (Label n) = refl
  same_empty (kinds.Number fig n) = refl
  same_empty (Window k) = refl
  same_empty (Point k) = refl
  same_empty (LabelTest k) = refl
  same_empty (Cross k) = refl
  same_empty (Downsample g) = refl

  over_renamed : (k l : Kind) → sort_over (renamed_kind f k) (renamed_kind f l) ≡ renamed_kind f (sort_over k l)
  over_renamed (StaticSids sids) l = refl
  over_renamed (Constant cell) l = refl
  over_renamed (Label n) l = refl
  over_renamed (kinds.Number fig n) l = refl
  over_renamed (Window k) l = refl
  over_renamed (Point k) l = refl
  over_renamed (LabelTest k) l = refl
  over_renamed (Cross k) l = refl
  over_renamed (Downsample g) l = refl

  sort_renamed : (t : Term) → sort_kind (renamed_term t) ≡ renamed_kind f (sort_kind t)
  unfolding renamed_term
  sort_renamed absent = refl
  sort_renamed (column c) = refl
  sort_renamed (node k size x y z m g) = ap (sort_over (renamed_kind f k)) (sort_renamed x) ∙ over_renamed k (sort_kind x)

  nothing_same : (k : Kind) (x : Term) → empty (sort_over (renamed_kind f k) (sort_kind (renamed_term x))) ≡ empty (sort_over k (sort_kind x))
  nothing_same k x = ap (λ l. empty (sort_over (renamed_kind f k) l)) (sort_renamed x) ∙ ap empty (over_renamed k (sort_kind x)) ∙ same_empty (sort_over k (sort_kind x))

  module _ (w v : World) (shows : ShowTheSame f w v) (names : List (List ℕ)) where
    exists_same : (a : ℕ) (d : ℤ) → exists v (f a) d ≡ exists w a d
    exists_same a d =
        ap (list_any (λ x. x == f a)) (shows.living d)
        ∙ any-map (λ x. x == f a) f (living_sids w d)
        ∙ ap (λ p. list_any p (living_sids w d)) (fun_ext (λ x. same_sid x a))

    -- a term has the same value for each asset on each session, as it is seen from there
    abbrev Same : View → Term → Type 0
    Same view t = (a : ℕ) (d : ℤ) → seen v names (renamed_term t) view (f a) d ≡ seen w names t view a d

    abbrev here : View → Term → Part
    here view t = part_from view t (seen w names t view)

    abbrev there : View → Term → Part
    there view t = part_from view (renamed_term t) (seen v names (renamed_term t) view)

    now_same : (view : View) (t : Term) → Same view t → (a : ℕ) (d : ℤ) → value_of_part (there view t) (f a) d ≡ value_of_part (here view t) a d
    unfolding renamed_term
    now_same view absent same a d = refl
    now_same view (column c) same a d = refl
    now_same view (node k size x y z m g) same a d = same a d

    passes_same : (t : Term) → Same Own t → (a : ℕ) (d : ℤ) → passes (there Own t) (f a) d ≡ passes (here Own t) a d
    unfolding renamed_term
    passes_same absent same a d = refl
    passes_same (column c) same a d = refl
    passes_same (node k size x y z m g) same a d = ap holds (same a d)

    group_same : (view : View) (t : Term) → Same view t → (a : ℕ) (d : ℤ) (b : ℕ) → in_group (there view t) (f a) d (f b) ≡ in_group (here view t) a d b
    unfolding renamed_term
    group_same view absent same a d b = refl
    group_same view (column c) same a d b = refl
    group_same view (node k size x y z m g) same a d b =
        let t : Term = node k size x y z m g in
        ap (λ u. is_present (number_of u) && is_same u (seen v names (renamed_term t) view (f b) d)) (same a d)
        ∙ ap (λ u. is_present (number_of (seen w names t view a d)) && is_same (seen w names t view a d) u) (same b d)

    window_same : (view : View) (t : Term) → Same view t → (size a : ℕ) → Lives w a → (d : ℤ) → window_of v size (there view t) (f a) d ≡ window_of w size (here view t) a d
    unfolding renamed_term
    window_same view absent same size a lives d = refl
    window_same view (column c) same size a lives d = ap (λ g. map g (downward size)) (fun_ext (λ n. shows.seen a lives c (before d (suc n)) (seen_from view d)))
    window_same view (node k i x y z m g) same size a lives d = ap (λ g. map g (downward size)) (fun_ext (λ n. ap number_of (same a (before d n))))

    -- ---- one step

    -- inputs as they are seen from there, a mask and a group from their own session
    abbrev ours : View → Term → Term → Term → Term → Term → Operands
    ours view x y z m g = record { first = here view x; second = here view y; third = here view z; mask = here Own m; group = here Own g }

    abbrev theirs : View → Term → Term → Term → Term → Term → Operands
    theirs view x y z m g = record { first = there view x; second = there view y; third = there view z; mask = there Own m; group = there Own g }

    module _ (view : View) (x y z m g : Term) (first : Same view x) (second : Same view y) (third : Same view z) (mask : Same Own m) (group : Same Own g) where
      in_same : (k : CrossKind) (a : ℕ) (d : ℤ) (b : ℕ) → in_group (group_of k (there view x) (there Own g)) (f a) d (f b) ≡ in_group (group_of k (here view x) (here Own g)) a d b
      in_same PeerCount a d b = group_same view x first a d b
      in_same (Rank method order) a d b = group_same Own g group a d b
      in_same Demean a d b = group_same Own g group a d b
      in_same ZScore a d b = group_same Own g group a d b
      in_same (Quantiles bins) a d b = group_same Own g group a d b
      in_same (Top n) a d b = group_same Own g group a d b
      in_same (Bottom n) a d b = group_same Own g group a d b
      in_same (PercentileBetween low high) a d b = group_same Own g group a d b
      in_same (Winsorize low high) a d b = group_same Own g group a d b
      in_same Scale a d b = group_same Own g group a d b
      in_same (Summarize told) a d b = group_same Own g group a d b

      counts_same : (k : CrossKind) (a : ℕ) (d : ℤ) (b : ℕ) → counts_for k (theirs view x y z m g) (f a) d (f b) ≡ counts_for k (ours view x y z m g) a d b
      counts_same k a d b = rw (passes_same m mask b d, now_same view x first b d, in_same k a d b) refl

      entry_same : (d : ℤ) (b : ℕ) → entry (there view x) d (f b) ≡ named (entry (here view x) d b)
      entry_same d b = ap (λ u. (f b, number_of u)) (now_same view x first b d)

      eligible_same : (k : CrossKind) (a : ℕ) (d : ℤ) → eligible v k (theirs view x y z m g) (f a) d ≡ map named (eligible w k (ours view x y z m g) a d)
      eligible_same k a d =
          ap (λ l. map (entry (there view x) d) (filter (counts_for k (theirs view x y z m g) (f a) d) l)) (shows.living d)
          ∙ ap (map (entry (there view x) d)) (filter-map (counts_for k (theirs view x y z m g) (f a) d) f (living_sids w d))
          ∙ maps (entry (there view x) d) f (filter (λ b. counts_for k (theirs view x y z m g) (f a) d (f b)) (living_sids w d))
          ∙ ap (λ e. map e (filter (λ b. counts_for k (theirs view x y z m g) (f a) d (f b)) (living_sids w d))) (fun_ext (entry_same d))
          ∙ ap (λ p. map (λ b. named (entry (here view x) d b)) (filter p (living_sids w d))) (fun_ext (counts_same k a d))
          ∙ sym (maps named (entry (here view x) d) (filter (counts_for k (ours view x y z m g) a d) (living_sids w d)))

      in_list_same : (a : ℕ) (list : List Entry) → list_any (λ (e : Entry). e.0 == f a) (map named list) ≡ list_any (λ (e : Entry). e.0 == a) list
      in_list_same a list = any-map (λ (e : Entry). e.0 == f a) named list ∙ ap (λ p. list_any p list) (fun_ext (λ (e : Entry). same_sid e.0 a))

      sids_same : (sids : List ℕ) (a : ℕ) → list_any (λ b. b == f a) (map f sids) ≡ list_any (λ b. b == a) sids
      sids_same sids a = any-map (λ b. b == f a) f sids ∙ ap (λ p. list_any p sids) (fun_ext (λ b. same_sid b a))

      pub step_same : (k : Kind) (size a : ℕ) (d : ℤ) → Lives w a → kind_value v names (renamed_kind f k) size (theirs view x y z m g) (f a) d ≡ kind_value w names k size (ours view x y z m g) a d
      unfolding kind_value
      step_same (Constant cell) size a d lives = refl
      step_same (Label n) size a d lives = ap label_value (shows.labels a lives (name_at names n) d)
      step_same (kinds.Number fig n) size a d lives = ap Number (shows.numbers a lives fig (name_at names n) d)
      step_same (StaticSids sids) size a d lives = ap (λ b. Number (truth b)) (sids_same sids a)
      step_same (Window k) size a d lives = rw (window_same view x first size a lives d, window_same view y second size a lives d, window_same view z third size a lives d) refl
      step_same (Point k) size a d lives = rw (now_same view x first a d, now_same view y second a d, now_same view z third a d) refl
      step_same (LabelTest k) size a d lives = ap (test_value k) (now_same view x first a d)
      step_same (Cross k) size a d lives =
          rw (eligible_same k a d, now_same view x first a d, in_list_same a (eligible w k (ours view x y z m g) a d), same_cross k (eligible w k (ours view x y z m g) a d) a (number_of (value_of_part (here view x) a d))) refl
      step_same (Downsample q) size a d lives = now_same view x first a (period_start q v.days d) ∙ ap (λ days. value_of_part (here view x) a (period_start q days d)) shows.days

    -- ---- values

    view_same : (k : Kind) (view : View) (d : ℤ) → view_of (renamed_kind f k) view d ≡ view_of k view d
    view_same (StaticSids sids) view d = refl
    view_same k view d = refl

    pub seen_same : (t : Term) (view : View) → Same view t
    unfolding seen renamed_term
    seen_same absent view a d = refl
    seen_same (column c) view a d = refl
    seen_same (node k size x y z m g) view a d =
        on (exists w a d) refl
        (step_same (view_of k view d) x y z m g (seen_same x (view_of k view d)) (seen_same y (view_of k view d)) (seen_same z (view_of k view d)) (seen_same m Own) (seen_same g Own) k size a d)
        (passes_same m (seen_same m Own) a d)
      where
        on : (b : Bool) → exists w a d ≡ b
            → (Lives w a → kind_value v names (renamed_kind f k) size (theirs (view_of k view d) x y z m g) (f a) d ≡ kind_value w names k size (ours (view_of k view d) x y z m g) a d)
            → passes (there Own m) (f a) d ≡ passes (here Own m) a d
            → seen v names (renamed_term (node k size x y z m g)) view (f a) d ≡ seen w names (node k size x y z m g) view a d
        on true e step pass = rw (exists_same a d, e, view_same k view d, pass, step (d, e), nothing_same k x) refl
        on false e step pass = rw (exists_same a d, e, nothing_same k x) refl

    pub values_same : (t : Term) (a : ℕ) (d : ℤ) → value v names (renamed_term t) (f a) d ≡ value w names t a d
    unfolding value
    values_same t a d = seen_same t Own a d

  -- ---- graphs

  get_renamed : (ts : List Term) (k : ℕ) → tree_at (map renamed_term ts) k ≡ renamed_term (tree_at ts k)
  unfolding renamed_term
  get_renamed [] k = refl
  get_renamed (t ∷ ts) zero = refl
  get_renamed (t ∷ ts) (suc k) = get_renamed ts k

  input_renamed : (ts : List Term) (o : Option Input) → input_tree (map renamed_term ts) o ≡ renamed_term (input_tree ts o)
  unfolding renamed_term
  input_renamed ts None = refl
  input_renamed ts (Some (BarColumn c)) = refl
  input_renamed ts (Some (TermInput k)) = get_renamed ts k

  number_renamed : (ts : List Term) (o : Option ℕ) → number_tree (map renamed_term ts) o ≡ renamed_term (number_tree ts o)
  unfolding renamed_term
  number_renamed ts None = refl
  number_renamed ts (Some k) = get_renamed ts k

  over_same : (ts : List Term) (n : Node) → tree_over (map renamed_term ts) (renamed_node f n) ≡ renamed_term (tree_over ts n)
  unfolding renamed_term
  over_same ts n =
      rw (input_renamed ts (slice_get n.inputs 0), input_renamed ts (slice_get n.inputs 1), input_renamed ts (slice_get n.inputs 2), number_renamed ts n.mask, number_renamed ts n.group) refl

  trees_same : (ts : List Term) (g : Graph) → trees_after (map renamed_term ts) (map (renamed_node f) g) ≡ map renamed_term (trees_after ts g)
  trees_same ts [] = refl
  trees_same ts (n ∷ ns) =
      ap (λ t. trees_after (map renamed_term ts ++ t ∷ []) (map (renamed_node f) ns)) (over_same ts n)
      ∙ ap (λ us. trees_after us (map (renamed_node f) ns)) (sym (map-append renamed_term ts (tree_over ts n ∷ [])))
      ∙ trees_same (ts ++ tree_over ts n ∷ []) ns

  pub term_renamed : (g : Graph) (k : ℕ) → term_at (map (renamed_node f) g) k ≡ renamed_term (term_at g k)
  term_renamed g k = ap (λ ts. tree_at ts k) (trees_same [] g) ∙ get_renamed (trees_after [] g) k

  -- ---- tables

  module _ (w v : World) (shows : ShowTheSame f w v) (p : Pipeline) where
    term_same : (t a : ℕ) (d : ℤ) → value_of v (renamed_pipeline f p) t (f a) d ≡ value_of w p t a d
    term_same t a d = ap (λ u. value v p.names u (f a) d) (term_renamed p.graph t) ∙ values_same w v shows p.names (term_at p.graph t) a d

    kept_same : (o : Option ℕ) (d : ℤ) (a : ℕ) → is_kept v (renamed_pipeline f p) o d (f a) ≡ is_kept w p o d a
    kept_same None d a = refl
    kept_same (Some t) d a = ap holds (term_same t a d)

    row_same : (d : ℤ) (a : ℕ) → table_row v (renamed_pipeline f p) d (f a) ≡ renamed_row f (table_row w p d a)
    row_same d a = ap made (ap (λ q. map q p.columns) (fun_ext (λ (c : NamedColumn). term_same c.term a d)))
      where
        made : List Value → Row
        made vs = record { session = d; sid = f a; values = vs }

    rows_same : (d : ℤ) → session_rows v (renamed_pipeline f p) d ≡ map (renamed_row f) (session_rows w p d)
    rows_same d =
        let q = renamed_pipeline f p in
        let sids = living_sids w d in
        ap (λ l. map (table_row v q d) (filter (is_kept v q p.screen d) l)) (shows.living d)
        ∙ ap (map (table_row v q d)) (filter-map (is_kept v q p.screen d) f sids)
        ∙ maps (table_row v q d) f (filter (λ a. is_kept v q p.screen d (f a)) sids)
        ∙ ap (λ r. map r (filter (λ a. is_kept v q p.screen d (f a)) sids)) (fun_ext (row_same d))
        ∙ ap (λ t. map (λ a. renamed_row f (table_row w p d a)) (filter t sids)) (fun_ext (kept_same p.screen d))
        ∙ sym (maps (renamed_row f) (table_row w p d) (filter (is_kept w p p.screen d) sids))

    pub tables_same : (from to : ℕ) → table v (renamed_pipeline f p) from to ≡ map (renamed_row f) (table w p from to)
    tables_same from to =
        ap (λ r. flat_map r (range_with_len from (suc to - from))) (fun_ext (λ d. rows_same (pos d)))
        ∙ sym (flat-map (renamed_row f) (λ d. session_rows w p (pos d)) (range_with_len from (suc to - from)))

-- The numbers that are present, session by session, asset by asset and term by term.
use Rattle.std.proofs.Common.{◌≡◌, ℕ, suc, ◌+◌, ◌-◌, ◌<◌, ◌≤◌, Bool, true, false, cond, ◌&&◌, if◌then◌else◌, ℤ, pos, List, [], ◌∷◌, length, Option, Some, None, IfSome, IfNone, slice_get, refl, sym, ◌∙◌, ap, ap₂, arith, sum_by}
use Rattle.std.specs.List.{range_with_len, count_by, list_any}
use Rattle.std.specs.Option.{is_some}
use Rattle.std.proofs.lemmas.List.Folds.{list_any-append, list_any_at}
use Rattle.std.proofs.lemmas.List.FromFn.{get_or-range_with_len, length-range_with_len}
use Rattle.std.proofs.lemmas.List.Sums.{sum_by-cons, sum_by_push}
use Rattle.pl_spec.specs.declared.AssetRow.{AssetRow}
use Rattle.pl_pipeline.specs.Kind.{Kind}
use Rattle.pl_pipeline.specs.Kind.Kind.{Number}
use Rattle.pl_spec.specs.Rounding.{MISSING, is_present}
use Rattle.pl_pipeline.specs.Term.{Graph, Node}
use Rattle.pl_pipeline.specs.Value as values
use Rattle.pl_pipeline.specs.Value.{name_at, number_of, kind_value}
use Rattle.pl_spec.specs.World.{World, exists, known_number}
use Rattle.pl_pipeline.specs.Table.{Pipeline, value_of}
use Rattle.pl_spec.proofs.Ranges.{range-more, range-next}
use Rattle.pl_spec.specs.declared.Figure.{Figure}
use Rattle.pl_pipeline.proofs.Unfolds.{value_at-node}
use Rattle.pl_terms.proofs.Steady.{checked-steady}
use Rattle.pl_terms.specs.declared.node.Node as code
use Rattle.pl_terms.specs.Checked.{IsChecked}
use Rattle.pl_terms.specs.Kinds.{kind_of}
use Rattle.pl_terms.specs.Nodes.{node_of}
use Rattle.pl_terms.specs.Sorts.{Place, has_mask, optional_fits}
use Rattle.pl_terms.specs.Uses.{is_used}
use Rattle.pl_values.proofs.Plain.{number-cell}
use Rattle.pl_world.specs.Present.{IsNumberUnder, is_number_kind, is_number_node, is_number_term, known_on, present_in, present_on}

-- ---- counts

count-more : (p : ℕ → Bool) (from s : ℕ) → from ≤ s → count_by p (range_with_len from (s + 1 - from)) ≡ count_by p (range_with_len from (s - from)) + cond (p s) 1 0
count-more p from s h =
    let size : s + 1 - from ≡ (s - from) + 1 = omega arith in
    let last : from + (s - from) ≡ s = omega arith in
    ap (λ n. count_by p (range_with_len from n)) size ∙ ap (count_by p) (range-more from (s - from)) ∙ sum_by_push (λ k. cond (p k) 1 0) (range_with_len from (s - from)) (from + (s - from))
    ∙ ap (λ k. count_by p (range_with_len from (s - from)) + cond (p k) 1 0) last

-- a session more that counts, or does not
pub count-with : (p : ℕ → Bool) (from s : ℕ) → from ≤ s → p s ≡ true → count_by p (range_with_len from (s + 1 - from)) ≡ count_by p (range_with_len from (s - from)) + 1
count-with p from s h e = count-more p from s h ∙ ap (λ b. count_by p (range_with_len from (s - from)) + cond b 1 0) e

pub count-without : (p : ℕ → Bool) (from s : ℕ) → from ≤ s → p s ≡ false → count_by p (range_with_len from (s + 1 - from)) ≡ count_by p (range_with_len from (s - from))
count-without p from s h e = let more = count-more p from s h ∙ ap (λ b. count_by p (range_with_len from (s - from)) + cond b 1 0) e in omega (arith, more)

sum-each : {X : Type 0} (f g : X → ℕ) → ((x : X) → f x ≡ g x) → (xs : List X) → sum_by f xs ≡ sum_by g xs
sum-each f g h [] = refl
sum-each f g h (x ∷ xs) = omega (arith, sum_by-cons f x xs, sum_by-cons g x xs, h x, sum-each f g h xs)

count-each : {X : Type 0} (p q : X → Bool) → ((x : X) → p x ≡ q x) → (xs : List X) → count_by p xs ≡ count_by q xs
count-each p q h xs = sum-each (λ x. cond (p x) 1 0) (λ x. cond (q x) 1 0) (λ x. ap (λ b. cond b 1 0) (h x)) xs

-- ---- a term of a number

no-mask : (g : Graph) (m : Option ℕ) → optional_fits g false Place.Filter m ≡ true → m ≡ None
no-mask g None e = refl
no-mask g (Some k) e = absurd (let bad : false ≡ true = e in cc)

module _ (w : World) (p : Pipeline) (ok : IsChecked p) (t : ℕ) (figure : Figure) (name : ℕ) (is : IsNumberUnder p t figure name) where
  pub named : name < length p.names
  named = (number-cell w p [] t is.node 0 0 (record { checked = ok; node = is.at }) figure name is.kind).0

  unmasked : is.node.mask ≡ None
  unmasked = no-mask p.graph is.node.mask (ap (λ (k : Kind). optional_fits p.graph (has_mask k) Place.Filter is.node.mask) (sym is.kind) ∙ (ok.nodes t is.node is.at).mask)

  -- it is present where the asset exists and its number is
  present-is : (a s : ℕ) → is_present (number_of (value_of w p t a (pos s))) ≡ (exists w a (pos s) && is_present (known_number w figure (name_at p.names name) a (pos s)))
  unfolding kind_value
  present-is a s =
      ap (λ v. is_present (number_of v)) (value_at-node w p.names p.graph ok.graph t is.node is.at (checked-steady p ok t is.node is.at) a (pos s))
      ∙ rw (unmasked, is.kind) (here (exists w a (pos s)) (known_number w figure (name_at p.names name) a (pos s)))
    where
      here : (b : Bool) (x : ℤ) → is_present (number_of (if b && true then values.Number x else values.Number MISSING)) ≡ (b && is_present x)
      here true x = refl
      here false x = refl

  -- the sum over the assets is the count of the definitions
  pub present-under : (text : List ℕ) → name_at p.names name ≡ text → (from to : ℕ) → sum_by (λ x. known_on w figure from to text x.sid) w.assets ≡ present_in w p from to t
  present-under text e from to =
      sum-each (λ (x : AssetRow). known_on w figure from to text x.sid) (λ (x : AssetRow). present_on w p from to t x.sid)
      (λ x. ap (λ m. known_on w figure from to m x.sid) (sym e) ∙ count-each _ _ (λ s. sym (present-is x.sid s)) (range_with_len from (suc to - from))) w.assets
      ∙ ap (λ b. if b then sum_by (λ (x : AssetRow). present_on w p from to t x.sid) w.assets else 0) (sym is.own)

-- another term counts nothing
pub present-not : (w : World) (p : Pipeline) (from to t : ℕ) → is_number_term p t ≡ false → 0 ≡ present_in w p from to t
present-not w p from to t e = ap (λ b. if b then sum_by (λ (x : AssetRow). present_on w p from to t x.sid) w.assets else 0) (sym e)

-- ---- what the name of a node says of its term

module _ (p : Pipeline) (t : ℕ) (n : code.Node) (at : slice_get p.graph t ≡ Some (node_of n)) where
  node-is : is_used p t ≡ true → (b : Bool) → is_number_kind (kind_of n.kind) ≡ b → is_number_term p t ≡ b
  unfolding node_of
  node-is used b e = ap₂ (λ (c : Bool) (o : Option Node). c && is_number_node o) used at ∙ e

  pub name-some : is_used p t ≡ true → (o : Option (Figure × ℕ)) → IfSome o (λ r. kind_of n.kind ≡ Number r.0 r.1) → IfSome o (λ r. IsNumberUnder p t r.0 r.1)
  unfolding node_of
  name-some used None h = tt
  name-some used (Some r) h = record { node = node_of n; at = at; kind = h; own = node-is used true (ap is_number_kind h) }

  pub name-none : is_used p t ≡ true → (o : Option (Figure × ℕ)) → IfNone o (is_number_kind (kind_of n.kind) ≡ false) → IfNone o (is_number_term p t ≡ false)
  name-none used None h = node-is used false h
  name-none used (Some name) h = tt

pub unused : (p : Pipeline) (t : ℕ) → is_used p t ≡ false → is_number_term p t ≡ false
unused p t e = ap (λ b. b && is_number_node (slice_get p.graph t)) e

pub some-is : (p : Pipeline) (t : ℕ) (o : Option (Figure × ℕ)) → IfSome o (λ r. IsNumberUnder p t r.0 r.1) → IfNone o (is_number_term p t ≡ false) → is_some o ≡ is_number_term p t
some-is p t None some none = sym none
some-is p t (Some name) some none = sym some.own

-- ---- whether any term is one

pub any-range : (f : ℕ → Bool) (n t : ℕ) → t < n → f t ≡ true → list_any f (range_with_len 0 n) ≡ true
any-range f n t h e = list_any_at f (range_with_len 0 n) t 0 (omega (arith, h, length-range_with_len 0 n))
    (let z : 0 + t ≡ t = omega arith in ap f (get_or-range_with_len 0 n t 0 h ∙ z) ∙ e)

pub none-more : (f : ℕ → Bool) (t : ℕ) → list_any f (range_with_len 0 t) ≡ false → f t ≡ false → list_any f (range_with_len 0 (t + 1)) ≡ false
none-more f t before e = ap (list_any f) (range-next t) ∙ list_any-append f (range_with_len 0 t) (t ∷ []) ∙ rw (before, e) refl

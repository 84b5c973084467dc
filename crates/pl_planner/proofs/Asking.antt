-- What one term asks of those that it mentions.
use Rattle.std.proofs.Common.{◌≡◌, ◌≢◌, ℕ, zero, suc, ◌+◌, ◌-◌, ◌<◌, ◌≤◌, Bool, true, false, max, ℤ, List, [], ◌∷◌, ◌++◌, length, map, take, Option, Some, None, option_map, refl, sym, ◌∙◌, ap, arith, inl, inr, slice_get, get_or, filter_map, option_to_list, length-set, get_or-set_same, get_or-set_other}
use Rattle.std.proofs.lemmas.Bool.{cases_lt, cases_eq}
use Rattle.std.proofs.lemmas.List.{take_more, map-append}
use Rattle.std.proofs.lemmas.List.Elements.{filter_map-append}
use Rattle.std.proofs.lemmas.List.Sums.{fold-append}
use Rattle.pl_pipeline.specs.Term.{Input, MentionsBelow, Node}
use Rattle.pl_pipeline.specs.Term.Input.{BarColumn, TermInput}
use Rattle.pl_terms.specs.Nodes.{input_of, node_of, number_of}
use Rattle.pl_terms.specs.declared.node.Input as code
use Rattle.pl_terms.specs.declared.node.Node as code_node
use Rattle.pl_planner.specs.declared.uses.Use.{Use}
use Rattle.pl_planner.specs.Extra.{Ask, IsBelow, back_from, input_ask, number_asks, asks, asks_back}
use Rattle.pl_spec.proofs.Each.{Each, each_both}
use Rattle.pl_planner.specs.Uses.{unused, use_at, raised, asked, all_asked}

one_more : {X Y : Type 0} (f : X → Option Y) (x : X) → filter_map f (x ∷ []) ≡ option_to_list (f x)
one_more f x = here (f x) refl
  where
    here : (o : Option _) → f x ≡ o → filter_map f (x ∷ []) ≡ option_to_list (f x)
    here None e = rw e refl
    here (Some y) e = rw e refl

pub more_asked : (us : List Use) (by back w : ℕ) (items : List code.Input) (i : ℕ) (d : code.Input) → i < length items
    → all_asked (all_asked us by (filter_map (input_ask back w) (map input_of (take i items)))) by (option_to_list (input_ask back w (input_of (get_or items i d))))
    ≡ all_asked us by (filter_map (input_ask back w) (map input_of (take (i + 1) items)))
more_asked us by back w items i d h =
    rw (take_more items i d h, map-append, filter_map-append, fold-append, one_more) refl

pub below_at : (n : code_node.Node) (b i : ℕ) (d : code.Input) → MentionsBelow (node_of n) b → i < length n.inputs → IsBelow b (input_of (get_or n.inputs i d))
unfolding node_of
below_at n b i d low h = here (input_of (get_or n.inputs i d)) (at n.inputs i h)
  where
    at : (items : List code.Input) (j : ℕ) → j < length items → slice_get (map input_of items) j ≡ Some (input_of (get_or items j d))
    at [] j l = absurd (omega arith)
    at (x ∷ xs) zero l = refl
    at (x ∷ xs) (suc j) l = at xs j (omega arith)

    here : (x : Input) → slice_get (map input_of n.inputs) i ≡ Some x → IsBelow b x
    here (BarColumn c) e = tt
    here (TermInput k) e = low.inputs i k e

-- a node's inputs, mask and group are asked one after the other
pub node_asked : (days : List ℤ) (s : ℕ) (n : code_node.Node) (by extra back : ℕ) (us inputs mask group : List Use) → back ≡ back_from days s (node_of n).kind extra
    → inputs ≡ all_asked us by (filter_map (input_ask back n.window) (map input_of n.inputs))
    → mask ≡ all_asked inputs by (number_asks extra (option_map number_of n.mask))
    → group ≡ all_asked mask by (number_asks extra (option_map number_of n.group))
    → group ≡ all_asked us by (asks days s (node_of n) extra)
unfolding node_of
node_asked days s n by extra back us inputs mask group e a b c =
    let xs : List Ask = filter_map (input_ask (back_from days s (node_of n).kind extra) n.window) (map input_of n.inputs) in
    let ys : List Ask = number_asks extra (option_map number_of n.mask) in
    let zs : List Ask = number_asks extra (option_map number_of n.group) in
    let first : inputs ≡ all_asked us by xs = a ∙ ap (λ m. all_asked us by (filter_map (input_ask m n.window) (map input_of n.inputs))) e in
    let second : mask ≡ all_asked us by (xs ++ ys) = b ∙ ap (λ us. all_asked us by ys) first ∙ sym (fold-append (asked by) us xs ys) in
    c ∙ ap (λ us. all_asked us by zs) second ∙ sym (fold-append (asked by) us (xs ++ ys) zs)

-- what holds of all that a node asks
module _ (P : Ask → Type 0) where
  each-inputs : (b w : ℕ) (is : List Input) → ((i u : ℕ) → slice_get is i ≡ Some (TermInput u) → P (u, b + (w - 1))) → Each P (filter_map (input_ask b w) is)
  each-inputs b w [] h = tt
  each-inputs b w (BarColumn c ∷ is) h = each-inputs b w is (λ i u e. h (suc i) u e)
  each-inputs b w (TermInput u ∷ is) h = (h 0 u refl, each-inputs b w is (λ i v e. h (suc i) v e))

  each-number : (b : ℕ) (o : Option ℕ) → ((u : ℕ) → o ≡ Some u → P (u, b)) → Each P (number_asks b o)
  each-number b None h = tt
  each-number b (Some u) h = (h u refl, tt)

  pub each-asks : (c b : ℕ) (n : Node) → ((i u : ℕ) → slice_get n.inputs i ≡ Some (TermInput u) → P (u, c + (n.window - 1))) → ((u : ℕ) → n.mask ≡ Some u → P (u, b))
      → ((u : ℕ) → n.group ≡ Some u → P (u, b)) → Each P (asks_back c b n)
  each-asks c b n x m g =
      each_both P (filter_map (input_ask c n.window) n.inputs ++ number_asks b n.mask) (number_asks b n.group)
      (each_both P (filter_map (input_ask c n.window) n.inputs) (number_asks b n.mask) (each-inputs c n.window n.inputs x) (each-number b n.mask m)) (each-number b n.group g)

-- ---- each is found among what it asks

abbrev pub Found : List Ask → Ask → Type 0
Found list a = (i : ℕ) × (slice_get list i ≡ Some a)

in-front : (xs ys : List Ask) (a : Ask) → Found xs a → Found (xs ++ ys) a
in-front xs ys a f = (f.0, front xs f.0 f.1)
  where
    front : (xs : List Ask) (i : ℕ) → slice_get xs i ≡ Some a → slice_get (xs ++ ys) i ≡ Some a
    front [] i e = cc
    front (x ∷ xs) zero e = e
    front (x ∷ xs) (suc i) e = front xs i e

behind : (xs ys : List Ask) (a : Ask) → Found ys a → Found (xs ++ ys) a
behind [] ys a f = f
behind (x ∷ xs) ys a f = let r = behind xs ys a f in (suc r.0, r.1)

input-found : (back w : ℕ) (is : List Input) (i t : ℕ) → slice_get is i ≡ Some (TermInput t) → Found (filter_map (input_ask back w) is) (t, back + (w - 1))
input-found back w [] i t e = cc
input-found back w (BarColumn c ∷ is) zero t e = cc
input-found back w (BarColumn c ∷ is) (suc i) t e = input-found back w is i t e
input-found back w (TermInput k ∷ is) zero t e = let same : k ≡ t = cc in (0, ap (λ j. Some (let x : Ask = (j, back + (w - 1)) in x)) same)
input-found back w (TermInput k ∷ is) (suc i) t e = let r = input-found back w is i t e in (suc r.0, r.1)

module _ (c b : ℕ) (n : Node) where
  abbrev read : List Ask
  read = filter_map (input_ask c n.window) n.inputs

  pub found-input : (i u : ℕ) → slice_get n.inputs i ≡ Some (TermInput u) → Found (asks_back c b n) (u, c + (n.window - 1))
  found-input i u e =
      in-front (read ++ number_asks b n.mask) (number_asks b n.group) (u, c + (n.window - 1)) (in-front read (number_asks b n.mask) (u, c + (n.window - 1)) (input-found c n.window n.inputs i u e))

  pub found-mask : (u : ℕ) → n.mask ≡ Some u → Found (asks_back c b n) (u, b)
  found-mask u e = in-front (read ++ number_asks b n.mask) (number_asks b n.group) (u, b) (behind read (number_asks b n.mask) (u, b) (rw e (0, refl)))

  pub found-group : (u : ℕ) → n.group ≡ Some u → Found (asks_back c b n) (u, b)
  found-group u e = behind (read ++ number_asks b n.mask) (number_asks b n.group) (u, b) (rw e (0, refl))

pub lower-more : (n : Node) (a b : ℕ) → MentionsBelow n a → a ≤ b → MentionsBelow n b
lower-more n a b h l = record {
  inputs = λ i k e. (let m : k < a = h.inputs i k e in omega arith);
  mask = λ k e. (let m : k < a = h.mask k e in omega arith);
  group = λ k e. (let m : k < a = h.group k e in omega arith);
}

-- ---- uses only grow

pub record Grows (us vs : List Use) : Type 0 where
  pub size : length vs ≡ length us
  pub used : (t : ℕ) → (use_at us t).used ≡ true → (use_at vs t).used ≡ true
  pub extra : (t : ℕ) → (use_at us t).used ≡ true → (use_at us t).extra ≤ (use_at vs t).extra
  pub last : (t : ℕ) → (use_at us t).used ≡ true → (use_at us t).last ≤ (use_at vs t).last

same : (us : List Use) → Grows us us
same us = record { size = refl; used = λ t h. h; extra = λ t h. omega arith; last = λ t h. omega arith }

then : (us vs ws : List Use) → Grows us vs → Grows vs ws → Grows us ws
then us vs ws a b = record {
  size = b.size ∙ a.size;
  used = λ t h. b.used t (a.used t h);
  extra = λ t h. let p = a.extra t h in let q = b.extra t (a.used t h) in omega arith;
  last = λ t h. let p = a.last t h in let q = b.last t (a.used t h) in omega arith;
}

raised_used : (u : Use) (by extra : ℕ) → (raised u by extra).used ≡ true
raised_used u by extra = here u.used refl
  where
    here : (b : Bool) → u.used ≡ b → (raised u by extra).used ≡ true
    here true e = rw e refl
    here false e = rw e refl

raised_least : (u : Use) (by extra : ℕ) → (extra ≤ (raised u by extra).extra) × (by ≤ (raised u by extra).last)
raised_least u by extra = here u.used refl
  where
    here : (b : Bool) → u.used ≡ b → (extra ≤ (raised u by extra).extra) × (by ≤ (raised u by extra).last)
    here true e = rw e (omega arith, omega arith)
    here false e = rw e (omega arith, omega arith)

raised_more : (u : Use) (by extra : ℕ) → u.used ≡ true → (u.extra ≤ (raised u by extra).extra) × (u.last ≤ (raised u by extra).last)
raised_more u by extra e = rw e (omega arith, omega arith)

-- what is raised is what it was, or what was asked
raised_either : (E L : ℕ → Type 0) (u : Use) (by extra : ℕ) → (u.used ≡ true → E u.extra × L u.last) → E extra → L by → E (raised u by extra).extra × L (raised u by extra).last
raised_either E L u by extra old new reader = here u.used refl
  where
    both : E u.extra × L u.last → E (max u.extra extra) × L (max u.last by)
    both o = (
      elim (cases_lt u.extra extra) [ inl p ↦ (let e : max u.extra extra ≡ extra = omega arith in rw e new) | inr p ↦ (let e : max u.extra extra ≡ u.extra = omega arith in rw e o.0) ],
      elim (cases_lt u.last by) [ inl p ↦ (let e : max u.last by ≡ by = omega arith in rw e reader) | inr p ↦ (let e : max u.last by ≡ u.last = omega arith in rw e o.1) ],
    )

    here : (b : Bool) → u.used ≡ b → E (raised u by extra).extra × L (raised u by extra).last
    here true e = rw e (both (old e))
    here false e = rw e (new, reader)

module _ (by : ℕ) where
  at_same : (us : List Use) (a : Ask) → a.0 < length us → use_at (asked by us a) a.0 ≡ raised (use_at us a.0) by a.1
  at_same us a h = get_or-set_same us a.0 (raised (use_at us a.0) by a.1) unused h

  at_other : (us : List Use) (a : Ask) (j : ℕ) → j ≢ a.0 → use_at (asked by us a) j ≡ use_at us j
  at_other us a j ne = get_or-set_other us a.0 j (raised (use_at us a.0) by a.1) unused ne

  one_grows : (us : List Use) (a : Ask) → a.0 < length us → Grows us (asked by us a)
  one_grows us a h = record {
    size = length-set us a.0 (raised (use_at us a.0) by a.1);
    used = λ t e. elim (cases_eq t a.0) [
      | inl p ↦ rw (p, at_same us a h) (raised_used (use_at us a.0) by a.1)
      | inr p ↦ rw (at_other us a t p) e
    ];
    extra = λ t e. elim (cases_eq t a.0) [
      | inl p ↦ rw (p, at_same us a h) (raised_more (use_at us a.0) by a.1 (rw p at e)).0
      | inr p ↦ rw (at_other us a t p) (omega arith)
    ];
    last = λ t e. elim (cases_eq t a.0) [
      | inl p ↦ rw (p, at_same us a h) (raised_more (use_at us a.0) by a.1 (rw p at e)).1
      | inr p ↦ rw (at_other us a t p) (omega arith)
    ];
  }

  -- each ask is of a term below b
  abbrev pub AreBelow : ℕ → List Ask → Type 0
  AreBelow b list = (i : ℕ) (a : Ask) → slice_get list i ≡ Some a → a.0 < b

  pub all_grow : (list : List Ask) (us : List Use) → AreBelow (length us) list → Grows us (all_asked us by list)
  all_grow [] us low = same us
  all_grow (a ∷ list) us low =
      let first : Grows us (asked by us a) = one_grows us a (low 0 a refl) in
      then us (asked by us a) _ first (all_grow list (asked by us a) (λ i b e. let l : b.0 < length us = low (suc i) b e in let z = first.size in omega arith))

  -- what is asked is given
  pub all_given : (list : List Ask) (us : List Use) → AreBelow (length us) list → (i : ℕ) (a : Ask) → slice_get list i ≡ Some a
      → ((use_at (all_asked us by list) a.0).used ≡ true) × (a.1 ≤ (use_at (all_asked us by list) a.0).extra) × (by ≤ (use_at (all_asked us by list) a.0).last)
  all_given [] us low i a e = cc
  all_given (b ∷ list) us low zero a e =
      let is : b ≡ a = cc in
      let h : a.0 < length us = low 0 a e in
      let first : Grows us (asked by us b) = one_grows us b (low 0 b refl) in
      let rest : Grows (asked by us b) (all_asked (asked by us b) by list) = all_grow list (asked by us b) (λ j c f. let l : c.0 < length us = low (suc j) c f in let z = first.size in omega arith) in
      let at : use_at (asked by us b) a.0 ≡ raised (use_at us a.0) by a.1 = rw is (at_same us a h) in
      let used : (use_at (asked by us b) a.0).used ≡ true = rw at (raised_used (use_at us a.0) by a.1) in
      let least : (a.1 ≤ (use_at (asked by us b) a.0).extra) × (by ≤ (use_at (asked by us b) a.0).last) = rw at (raised_least (use_at us a.0) by a.1) in
      let e1 = rest.extra a.0 used in
      let e2 = rest.last a.0 used in
      let l1 = least.0 in
      let l2 = least.1 in
      (rest.used a.0 used, omega arith, omega arith)
  all_given (b ∷ list) us low (suc i) a e =
      let first : Grows us (asked by us b) = one_grows us b (low 0 b refl) in
      all_given list (asked by us b) (λ j c f. let l : c.0 < length us = low (suc j) c f in let z = first.size in omega arith) i a e

  -- and nothing else is
  pub all_sound : (E L : ℕ → ℕ → Type 0) (list : List Ask) (us : List Use) → AreBelow (length us) list
      → ((i : ℕ) (a : Ask) → slice_get list i ≡ Some a → E a.0 a.1 × L a.0 by)
      → ((t : ℕ) → (use_at us t).used ≡ true → E t (use_at us t).extra × L t (use_at us t).last)
      → (t : ℕ) → (use_at (all_asked us by list) t).used ≡ true → E t (use_at (all_asked us by list) t).extra × L t (use_at (all_asked us by list) t).last
  all_sound E L [] us low new old t h = old t h
  all_sound E L (a ∷ list) us low new old t h =
      let first : Grows us (asked by us a) = one_grows us a (low 0 a refl) in
      all_sound E L list (asked by us a) (λ j c f. let l : c.0 < length us = low (suc j) c f in let z = first.size in omega arith) (λ i b e. new (suc i) b e)
      (λ s k. elim (cases_eq s a.0) [
        | inl p ↦ rw (p, at_same us a (low 0 a refl)) (raised_either (E a.0) (L a.0) (use_at us a.0) by a.1 (old a.0) (new 0 a refl).0 (new 0 a refl).1)
        | inr p ↦ rw (at_other us a s p) (old s (rw (at_other us a s p) at k))
      ])
      t h

  -- what isn't asked is as it was
  pub all_else : (list : List Ask) (us : List Use) (b j : ℕ) → AreBelow b list → b ≤ j → use_at (all_asked us by list) j ≡ use_at us j
  all_else [] us b j low h = refl
  all_else (a ∷ list) us b j low h =
      all_else list (asked by us a) b j (λ i c e. low (suc i) c e) h ∙ at_other us a j (λ p. let l = low 0 a refl in omega arith)

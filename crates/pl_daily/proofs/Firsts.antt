-- First sessions of terms, one session more.
use Rattle.std.proofs.Common.{◌≡◌, ℕ, zero, suc, ◌+◌, ◌<◌, ◌≤◌, Bool, true, false, ◌&&◌, ℤ, pos, ◌<ℤ◌, ◌≤ℤ◌, List, [], ◌∷◌, ◌++◌, length, map, get_or, set, AllPairs, Option, Some, None, option_map, inl, inr, refl, sym, ◌∙◌, ap, subst, arith, slice_get, ◌==◌, length-append, length-set, get_or-set_same, get_or-set_other}
use Rattle.std.specs.List.{list_all}
use Rattle.std.specs.Int.RustNames.{int_le}
use Rattle.std.proofs.lemmas.Bool.{cases_lt, cases_eq, true≢false, eq-eqb}
use Rattle.std.proofs.lemmas.Int.{ints, by_lt_z}
use Rattle.std.proofs.lemmas.Option.{get_or_from_slice_get, slice_get_within}
use Rattle.std.specs.Cmp.{both_ways}
use Rattle.std.proofs.lemmas.List.Folds.{list_all-append, list_any_at}
use Rattle.circular_buffer.proofs.Places.{slice_get-append_left}
use Rattle.pl_pipeline.specs.Term.{Term, Node, term_at}
use Rattle.pl_pipeline.specs.Graph.{contains, mentions_at, reach, reads_at}
use Rattle.pl_pipeline.specs.Graph.Used.{output, mentioned}
use Rattle.pl_planner.proofs.Mentions.{read-lower, reads-mention}
use Rattle.pl_pipeline.specs.Lows.{Reads, least_reach}
use Rattle.pl_pipeline.specs.Table.{Pipeline}
use Rattle.pl_pipeline.proofs.Unfolds.{past}
use Rattle.pl_spec.proofs.Signed.{le-int_le, int_le-true}
use Rattle.pl_laws.proofs.Calendars.{reach-same}
use Rattle.pl_laws.proofs.Reaches.{AllFrom, below_least}
use Rattle.pl_laws.proofs.Uses.{used_terms-sound, used_terms-complete}
use Rattle.pl_laws.proofs.Lows.{least_above}
use Rattle.pl_terms.specs.Checked.{IsChecked, columns_of}
use Rattle.pl_terms.specs.declared.checked.NamedColumn.{NamedColumn}
use Rattle.pl_terms.specs.declared.node.TermId.{TermId}
use Rattle.pl_terms.specs.Uses.{outputs, is_used}
use Rattle.pl_terms.proofs.Graphs.{used-within}
use Rattle.pl_planner.proofs.Pipelines.{is-pipeline}
use Rattle.pl_daily.specs.Reaches.{IsFirst, AreFirst, AreStarts, FollowFirst}
use Rattle.pl_daily.specs.Ready.{read_up_to, is_node_ready, is_found_ready, is_used_ready, first_with, is_known, has_first}
use Rattle.pl_daily.proofs.NodeReaches.{at-all, on-first, node-on, on-node, reads-is}
use Rattle.pl_values.proofs.Operations.{all-at}

-- ---- one day more

module _ (days : List ℤ) (day : ℤ) where
  abbrev more : List ℤ
  more = days ++ day ∷ []

  long-more : length more ≡ length days + 1
  long-more = length-append days (day ∷ [])

  append-same : (d i : ℕ) → d < length days → pos i ≤ℤ pos d → slice_get days i ≡ slice_get more i
  append-same d i l h = sym (slice_get-append_left days (day ∷ []) i (omega (arith, ints)))

  -- for an earlier session a term reaches as far back
  pub reach-more : (t : Term) (d : ℕ) → d < length days → reach days t (pos d) ≡ reach more t (pos d)
  reach-more t d l = reach-same days more (pos d) (λ i h. append-same d i l h) t (pos d) (omega (arith, ints))

  pub kept-first : (t : Term) (s : ℕ) → IsFirst days t (Some s) → IsFirst more t (Some s)
  kept-first t s is =
      let long = long-more in
      let within : s < length days = is.0 in
      (omega arith, rw (sym (reach-more t s within)) is.1, λ d l. rw (sym (reach-more t d (omega arith))) (is.2 d l))

  pub still-none : (t : Term) → IsFirst days t None → reach more t (pos (length days)) <ℤ pos 0 → IsFirst more t None
  still-none t is now d l =
      let long = long-more in
      elim (cases_lt d (length days)) [
        | inl early ↦ rw (sym (reach-more t d early)) (is d early)
        | inr late ↦ (let same : d ≡ length days = omega arith in rw same now)
      ]

  pub now-first : (t : Term) → IsFirst days t None → pos 0 ≤ℤ reach more t (pos (length days)) → IsFirst more t (Some (length days))
  now-first t is now = let long = long-more in (omega arith, now, λ d l. rw (sym (reach-more t d l)) (is d l))

-- ---- the used terms

-- what a used term reads is used, and lower
pub read_used : (days : List ℤ) (s : ℤ) (p : Pipeline) → IsChecked p → (k : ℕ) (n : Node) → is_used p k ≡ true → slice_get p.graph k ≡ Some n
    → (u : ℕ) (r : ℤ) → Reads days n s u r → (u < k) × (u < length p.graph) × (is_used p u ≡ true)
read_used days s p ok k n used at u r reads =
    let mention : contains (mentions_at p.graph k) u ≡ true = rw at (reads-mention days n s u r reads) in
    let below : u < k = read-lower days n s k u r (ok.graph.lower k n at) reads in
    let known : u < length p.graph = omega (arith, below, slice_get_within p.graph k n at) in
    (below, known, used_terms-complete p.graph (outputs p) ok.graph u known (mentioned k (used_terms-sound p.graph (outputs p) ok.graph k used) mention))

contains-at : (xs : List ℕ) (i t : ℕ) → slice_get xs i ≡ Some t → contains xs t ≡ true
contains-at xs i t e = list_any_at (λ x. x == t) xs i 0 (slice_get_within xs i t e) (eq-eqb (get_or xs i 0) t (get_or_from_slice_get xs i t 0 e))

pub output-used : (p : Pipeline) → IsChecked p → (i t : ℕ) → slice_get (outputs p) i ≡ Some t → is_used p t ≡ true
output-used p ok i t e = let there = contains-at (outputs p) i t e in used_terms-complete p.graph (outputs p) ok.graph t ((is-pipeline p ok).outputs_in t there) (output there)

-- ---- one term more

pick-first : (days : List ℤ) (day : ℤ) (t : Term) (o : Option ℕ) (b : Bool) → IsFirst days t o → (b ≡ true → pos 0 ≤ℤ reach (days ++ day ∷ []) t (pos (length days)))
    → (b ≡ false → reach (days ++ day ∷ []) t (pos (length days)) <ℤ pos 0) → IsFirst (days ++ day ∷ []) t (first_with o b (length days))
pick-first days day t (Some first) b is on off = kept-first days day t first is
pick-first days day t None true is on off = now-first days day t is (on refl)
pick-first days day t None false is on off = still-none days day t is (off refl)

and-used : (a b : Bool) → b ≡ true → (a && b) ≡ a
and-used true b e = e
and-used false b e = refl

-- what is kept while the terms below k have taken session s in
pub record IsTaken (p : Pipeline) (starts : List ℕ) (s : ℕ) (old : List (Option ℕ)) (k : ℕ) (since : List (Option ℕ)) : Type 0 where
  pub long : length since ≡ length old
  pub behind : (j : ℕ) → k ≤ j → get_or since j None ≡ get_or old j None
  pub first : (days : List ℤ) (day : ℤ) → AllPairs (λ a b. a <ℤ b) (days ++ day ∷ []) → length days ≡ s → AreStarts (days ++ day ∷ []) p s starts
      → AreFirst days p old → (j : ℕ) → j < k → is_used p j ≡ true → IsFirst (days ++ day ∷ []) (term_at p.graph j) (get_or since j None)

module _ (p : Pipeline) (ok : IsChecked p) (starts : List ℕ) (s : ℕ) (old since : List (Option ℕ)) (k : ℕ) (so_far : IsTaken p starts s old k since) (within : k < length p.graph) where
  abbrev start : ℕ
  start = get_or starts k 0

  abbrev told : Option ℕ
  told = first_with (get_or since k None) (is_used_ready p since k start s) s

  module _ (days : List ℤ) (day : ℤ) (rise : AllPairs (λ a b. a <ℤ b) (days ++ day ∷ [])) (count : length days ≡ s) (begins : AreStarts (days ++ day ∷ []) p s starts)
      (firsts : AreFirst days p old) (used : is_used p k ≡ true) where
    abbrev own : Term
    own = term_at p.graph k

    at-node : (n : Node) → slice_get p.graph k ≡ Some n → IsFirst (days ++ day ∷ []) own told
    at-node n at =
        subst (λ m. IsFirst (days ++ day ∷ []) own (first_with (get_or since k None) (is_used_ready p since k start s) m)) count
        (pick-first days day own (get_or since k None) (is_used_ready p since k start s) before_it (λ e. rw count (on e)) (λ e. rw count (off e)))
      where
        before_it : IsFirst days own (get_or since k None)
        before_it = rw (so_far.behind k (omega arith)) (firsts k used)

        tests : is_used_ready p since k start s ≡ is_node_ready since start s n
        tests = and-used (is_found_ready since start s (slice_get p.graph k)) (is_used p k) used ∙ ap (is_found_ready since start s) at

        wide : (k : ℕ) (n : Node) → slice_get p.graph k ≡ Some n → 1 ≤ n.window
        wide k n at = ((is-pipeline p ok).windows k n at).0

        lower : (u : ℕ) (r : ℤ) → Reads (days ++ day ∷ []) n (pos s) u r → IsFirst (days ++ day ∷ []) (term_at p.graph u) (get_or since u None)
        lower u r read = let x = read_used (days ++ day ∷ []) (pos s) p ok k n used at u r read in so_far.first days day rise count begins firsts u x.0 x.2

        in_days : s < length (days ++ day ∷ [])
        in_days = let long = long-more days day in omega arith

        reads : pos (read_up_to start s n.kind) ≡ reads_at (days ++ day ∷ []) n.kind (pos s)
        reads = reads-is (days ++ day ∷ []) n.kind start s (λ f e. begins k n f used at e)

        on : is_used_ready p since k start s ≡ true → pos 0 ≤ℤ reach (days ++ day ∷ []) own (pos s)
        on e = on-node (days ++ day ∷ []) rise p.graph ok.graph wide since k n at s lower start in_days reads (sym tests ∙ e)

        off : is_used_ready p since k start s ≡ false → reach (days ++ day ∷ []) own (pos s) <ℤ pos 0
        off e = by_lt_z (reach (days ++ day ∷ []) own (pos s)) (pos 0) (λ l. l)
            (λ h. absurd (true≢false (sym (tests ∙ node-on (days ++ day ∷ []) rise p.graph ok.graph wide since k n at s lower start in_days reads h) ∙ e)))

    own-first : IsFirst (days ++ day ∷ []) own told
    own-first = found (slice_get p.graph k) refl
      where
        found : (o : Option Node) → slice_get p.graph k ≡ o → IsFirst (days ++ day ∷ []) own told
        found None e = absurd (past p.graph k within e)
        found (Some n) e = at-node n e

  pub more-taken : length old ≡ length p.graph → IsTaken p starts s old (k + 1) (set since k told)
  more-taken long = record {
    long = length-set since k told ∙ so_far.long;
    behind = λ j l. get_or-set_other since k j told None (λ e. omega arith) ∙ so_far.behind j (omega arith);
    first = λ days day rise count begins firsts j l used. elim (cases_eq j k) [
      | inl e ↦ (let room : k < length since = let same = so_far.long in omega arith in
          subst (λ i. IsFirst (days ++ day ∷ []) (term_at p.graph i) (get_or (set since k told) i None)) (sym e)
          (subst (IsFirst (days ++ day ∷ []) (term_at p.graph k)) (sym (get_or-set_same since k told None room)) (own-first days day rise count begins firsts (subst (λ i. is_used p i ≡ true) e used))))
      | inr ne ↦ subst (IsFirst (days ++ day ∷ []) (term_at p.graph j)) (sym (get_or-set_other since k j told None ne)) (so_far.first days day rise count begins firsts j (omega arith) used)
    ];
  }

pub all-taken : (p : Pipeline) (starts : List ℕ) (s k : ℕ) (old since : List (Option ℕ)) → length p.graph ≤ k → IsTaken p starts s old k since → FollowFirst p starts s old since
all-taken p starts s k old since h taken days day rise count begins firsts j used =
    taken.first days day rise count begins firsts j (let l : j < length p.graph = used-within p j used in omega arith) used

-- no days were fed, and no term has its first session
pub none-first : (p : Pipeline) (since : List (Option ℕ)) → ((k : ℕ) → get_or since k None ≡ None) → AreFirst [] p since
none-first p since none k used = rw (none k) (λ d l. absurd (omega arith))

-- ---- the outputs

pub both-ready : (f : ℕ → Bool) (xs ys : List ℕ) → list_all f xs ≡ true → list_all f (xs ++ ys) ≡ list_all f ys
both-ready f xs ys h = list_all-append f xs ys ∙ ap (λ b. b && list_all f ys) h

pub first-unready : (f : ℕ → Bool) (xs ys : List ℕ) → list_all f xs ≡ false → list_all f (xs ++ ys) ≡ false
first-unready f xs ys h = list_all-append f xs ys ∙ ap (λ b. b && list_all f ys) h

-- one that does not pass
pub one-unready : (f : ℕ → Bool) (xs : List ℕ) (i x : ℕ) → slice_get xs i ≡ Some x → f x ≡ false → list_all f xs ≡ false
one-unready f xs i x e h = here (list_all f xs) refl
  where
    here : (b : Bool) → list_all f xs ≡ b → list_all f xs ≡ false
    here false q = q
    here true q = absurd (true≢false (sym (all-at f xs i x q e) ∙ h))

pub column-at : (cs : List NamedColumn) (i : ℕ) (t : TermId) → option_map (λ (c : NamedColumn). c.term) (slice_get cs i) ≡ Some t → slice_get (map (λ c. c.term) (columns_of cs)) i ≡ Some t.0
unfolding columns_of
column-at [] i t e = cc
column-at (c ∷ cs) zero t e = let same : c.term ≡ t = cc in ap (λ (u : TermId). Some u.0) same
column-at (c ∷ cs) (suc i) t e = column-at cs i t e

pub columns-long : (cs : List NamedColumn) → length (map (λ c. c.term) (columns_of cs)) ≡ length cs
unfolding columns_of
columns-long [] = refl
columns-long (c ∷ cs) = ap suc (columns-long cs)

-- one place more
pub more-ready : (f : ℕ → Bool) (xs : List ℕ) (i x : ℕ) → ((j t : ℕ) → j < i → slice_get xs j ≡ Some t → f t ≡ true) → slice_get xs i ≡ Some x → f x ≡ true
    → (j t : ℕ) → j < i + 1 → slice_get xs j ≡ Some t → f t ≡ true
more-ready f xs i x so_far at h j t l e = elim (cases_eq j i) [
  | inl same ↦ (let here : Some t ≡ Some x = sym e ∙ ap (slice_get xs) same ∙ at in let is : t ≡ x = cc in ap f is ∙ h)
  | inr other ↦ so_far j t (omega arith) e
]

pub all-places : (f : ℕ → Bool) (xs : List ℕ) (i : ℕ) → ((j t : ℕ) → j < i → slice_get xs j ≡ Some t → f t ≡ true) → length xs ≤ i → list_all f xs ≡ true
all-places f xs i so_far h = at-all f xs (λ j t e. so_far j t (let l = slice_get_within xs j t e in omega arith) e)

mapped-from : (low : ℤ) (f : ℕ → ℤ) (xs : List ℕ) → ((i t : ℕ) → slice_get xs i ≡ Some t → low ≤ℤ f t) → AllFrom low (map f xs)
mapped-from low f [] h = tt
mapped-from low f (x ∷ xs) h = (h 0 x refl, mapped-from low f xs (λ i t e. h (suc i) t e))

from-mapped : (low : ℤ) (f : ℕ → ℤ) (xs : List ℕ) → AllFrom low (map f xs) → (i t : ℕ) → slice_get xs i ≡ Some t → low ≤ℤ f t
from-mapped low f [] all i t e = cc
from-mapped low f (x ∷ xs) all zero t e = let same : x ≡ t = cc in rw (sym same) all.0
from-mapped low f (x ∷ xs) all (suc i) t e = from-mapped low f xs all.1 i t e

known-from : (days : List ℤ) → AllPairs (λ a b. a <ℤ b) days → (t : Term) (o : Option ℕ) (d : ℕ) → length days ≡ d + 1 → IsFirst days t o → is_known o ≡ true → pos 0 ≤ℤ reach days t (pos d)
known-from days rise t None d long is h = absurd (true≢false (sym h))
known-from days rise t (Some s) d long is h = on-first days rise t s d is.1 (let l : s < length days = is.0 in omega arith)

from-known : (days : List ℤ) (t : Term) (o : Option ℕ) (d : ℕ) → length days ≡ d + 1 → IsFirst days t o → pos 0 ≤ℤ reach days t (pos d) → is_known o ≡ true
from-known days t None d long is h = let below : reach days t (pos d) <ℤ pos 0 = is d (omega arith) in absurd (omega (arith, ints, below, h))
from-known days t (Some s) d long is h = refl

module _ (p : Pipeline) (ok : IsChecked p) (since : List (Option ℕ)) (earlier : List ℤ) (day : ℤ) (rise : AllPairs (λ a b. a <ℤ b) (earlier ++ day ∷ [])) (firsts : AreFirst (earlier ++ day ∷ []) p since) where
  abbrev reach_of : ℕ → ℤ
  reach_of t = reach (earlier ++ day ∷ []) (term_at p.graph t) (pos (length earlier))

  abbrev least : ℤ
  least = least_reach (earlier ++ day ∷ []) p.graph (outputs p) (pos (length earlier))

  all-ready : list_all (has_first since) (outputs p) ≡ true → int_le (pos 0) least ≡ true
  all-ready all = le-int_le (pos 0) least (least_above (pos 0) (pos (length earlier)) (map reach_of (outputs p)) (omega (arith, ints)) (mapped-from (pos 0) reach_of (outputs p)
      (λ i t e. known-from (earlier ++ day ∷ []) rise (term_at p.graph t) (get_or since t None) (length earlier) (long-more earlier day) (firsts t (output-used p ok i t e)) (all-at (has_first since) (outputs p) i t all e))))

  ready-all : int_le (pos 0) least ≡ true → list_all (has_first since) (outputs p) ≡ true
  ready-all h = at-all (has_first since) (outputs p)
      (λ i t e. from-known (earlier ++ day ∷ []) (term_at p.graph t) (get_or since t None) (length earlier) (long-more earlier day) (firsts t (output-used p ok i t e))
      (from-mapped (pos 0) reach_of (outputs p) (below_least (pos 0) (pos (length earlier)) (map reach_of (outputs p)) (int_le-true (pos 0) least h)).1 i t e))

  pub ready-is : list_all (has_first since) (outputs p) ≡ int_le (pos 0) least
  ready-is = both_ways (list_all (has_first since) (outputs p)) (int_le (pos 0) least) all-ready ready-all

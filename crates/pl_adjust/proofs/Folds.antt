-- The cell seen, one adjustment after the other.
use Rattle.std.proofs.Common.{◌≡◌, ℕ, ◌+◌, ◌<◌, ◌≤◌, Bool, true, false, cond, ℤ, ◌&&◌, List, [], ◌∷◌, ◌++◌, map, length, drop, get_or, Option, Some, None, All, refl, sym, subst, ◌∙◌, ap, arith}
use Rattle.std.specs.Prelude.{filter_map, option_to_list}
use Rattle.std.specs.Int.RustNames.{int_lt, int_le}
use Rattle.std.specs.List.{filter}
use Rattle.std.proofs.lemmas.List.{at_drop_more, at_drop_all, get_or-map, get_or_default, length-map}
use Rattle.std.proofs.lemmas.List.Elements.{All-filter}
use Rattle.std.proofs.lemmas.List.Sums.{fold-append, sum_by-append}
use Rattle.pl_spec.specs.declared.Column.{Column}
use Rattle.pl_spec.specs.Window.{Effect, effect, effects_in, changed, after_all, step_of, step_count}
use Rattle.pl_spec.specs.World.{Event}
use Rattle.pl_adjust.specs.declared.adjust.Adjust.{Adjust}
use Rattle.pl_adjust.specs.Events.{PutCells, PutsCell, effects_of, event_of}
use Rattle.pl_adjust.proofs.Between.{is_between}

pub effects-between : (c : Column) (bar low high : ℤ) (xs : List Adjust) → effects_of c bar (filter (is_between low high) xs) ≡ effects_in c bar low high (map event_of xs)
effects-between c bar low high xs = ap (filter_map (effect c bar)) (events xs)
  where
    events : (xs : List Adjust) → map event_of (filter (is_between low high) xs) ≡ filter (λ e. int_lt low e.day && int_le e.day high) (map event_of xs)
    events [] = refl
    events (x ∷ xs) = here (is_between low high x) (events xs)
      where
        here : (b : Bool) → map event_of (filter (is_between low high) xs) ≡ filter (λ e. int_lt low e.day && int_le e.day high) (map event_of xs)
            → map event_of (cond b (x ∷ filter (is_between low high) xs) (filter (is_between low high) xs))
            ≡ cond b (event_of x ∷ filter (λ e. int_lt low e.day && int_le e.day high) (map event_of xs)) (filter (λ e. int_lt low e.day && int_le e.day high) (map event_of xs))
        here true rest = ap (λ es. event_of x ∷ es) rest
        here false rest = rest

-- the first one's effect, if it has one, and those of the others
pub effects-first : (c : Column) (bar : ℤ) (x : Adjust) (xs : List Adjust) → effects_of c bar (x ∷ xs) ≡ option_to_list (effect c bar (event_of x)) ++ effects_of c bar xs
effects-first c bar x xs = here (effect c bar (event_of x)) refl
  where
    here : (o : Option Effect) → effect c bar (event_of x) ≡ o → effects_of c bar (x ∷ xs) ≡ option_to_list o ++ effects_of c bar xs
    here None e = rw e refl
    here (Some f) e = rw e refl

effects-more : (c : Column) (bar : ℤ) (xs : List Adjust) (i : ℕ) (a : Adjust) → i < length xs → a ≡ get_or xs i a
    → option_to_list (effect c bar (event_of a)) ++ effects_of c bar (drop (i + 1) xs) ≡ effects_of c bar (drop i xs)
effects-more c bar xs i a within item =
    sym (effects-first c bar a (drop (i + 1) xs))
    ∙ ap (λ z. effects_of c bar (z ∷ drop (i + 1) xs)) item
    ∙ sym (at_drop_more (effects_of c bar) xs i a within)

pub seen_more : (c : Column) (bar x : ℤ) (xs : List Adjust) (i : ℕ) (a : Adjust) → i < length xs → a ≡ get_or xs i a
    → after_all (after_all x (option_to_list (effect c bar (event_of a)))) (effects_of c bar (drop (i + 1) xs)) ≡ after_all x (effects_of c bar (drop i xs))
seen_more c bar x xs i a within item =
    sym (fold-append changed x (option_to_list (effect c bar (event_of a))) (effects_of c bar (drop (i + 1) xs)))
    ∙ ap (after_all x) (effects-more c bar xs i a within item)

pub count_more : (c : Column) (bar : ℤ) (xs : List Adjust) (i : ℕ) (a : Adjust) → i < length xs → a ≡ get_or xs i a
    → step_count (option_to_list (effect c bar (event_of a))) + step_count (effects_of c bar (drop (i + 1) xs)) ≡ step_count (effects_of c bar (drop i xs))
count_more c bar xs i a within item =
    sym (sum_by-append step_of (option_to_list (effect c bar (event_of a))) (effects_of c bar (drop (i + 1) xs)))
    ∙ ap step_count (effects-more c bar xs i a within item)

pub seen_one : (c : Column) (bar x y : ℤ) (e : Event) (f : Effect) → effect c bar e ≡ Some f → y ≡ changed x f → y ≡ after_all x (option_to_list (effect c bar e))
seen_one c bar x y e f is value = rw is value

pub seen_none : (c : Column) (bar x : ℤ) (e : Event) → effect c bar e ≡ None → x ≡ after_all x (option_to_list (effect c bar e))
seen_none c bar x e is = rw is refl

-- those between two days are of the list, and so is what they put
pub put_at : (xs : List Adjust) (i : ℕ) (a : Adjust) → PutCells (map event_of xs) → i < length xs → a ≡ get_or xs i a → PutsCell (event_of a)
put_at xs i a all within item =
    let long : length (map event_of xs) ≡ length xs = length-map xs event_of in
    let there : get_or (map event_of xs) i (event_of a) ≡ event_of (get_or xs i a) = get_or-map event_of xs i a (event_of a) within in
    subst PutsCell (there ∙ ap event_of (sym item)) (all i (event_of a) (omega arith))

pub put_kept : (low high : ℤ) (list xs : List Adjust) (i : ℕ) (a : Adjust) → PutCells (map event_of list) → xs ≡ filter (is_between low high) list
    → i < length xs → a ≡ get_or xs i a → PutsCell (event_of a)
put_kept low high list xs i a all is within item =
    let each : All (λ a. PutsCell (event_of a)) list = λ k d h. put_at list k (get_or list k d) all h (same k d h) in
    let kept : All (λ a. PutsCell (event_of a)) xs = rw is (All-filter (is_between low high) (λ a. PutsCell (event_of a)) list each) in
    subst (λ (x : Adjust). PutsCell (event_of x)) (sym item) (kept i a within)
  where
    same : (k : ℕ) (d : Adjust) → k < length list → get_or list k d ≡ get_or list k (get_or list k d)
    same k d h = get_or_default list k d (get_or list k d) h

-- none is left
pub seen_all : (c : Column) (bar low high x y : ℤ) (list xs : List Adjust) (i : ℕ) → length xs ≤ i → xs ≡ filter (is_between low high) list
    → after_all y (effects_of c bar (drop i xs)) ≡ after_all x (effects_of c bar xs) → y ≡ after_all x (effects_in c bar low high (map event_of list))
seen_all c bar low high x y list xs i past is done =
    sym (at_drop_all (λ l. after_all y (effects_of c bar l)) xs i past)
    ∙ done
    ∙ ap (λ l. after_all x (effects_of c bar l)) is
    ∙ ap (after_all x) (effects-between c bar low high list)

pub count_all : (c : Column) (bar low high : ℤ) (now old : ℕ) (list xs : List Adjust) (i : ℕ) → length xs ≤ i → xs ≡ filter (is_between low high) list
    → now + step_count (effects_of c bar (drop i xs)) ≡ old + step_count (effects_of c bar xs) → now ≡ old + step_count (effects_in c bar low high (map event_of list))
count_all c bar low high now old list xs i past is done =
    let none : step_count (effects_of c bar (drop i xs)) ≡ 0 = at_drop_all (λ l. step_count (effects_of c bar l)) xs i past in
    let all : step_count (effects_of c bar xs) ≡ step_count (effects_in c bar low high (map event_of list)) = ap (λ l. step_count (effects_of c bar l)) is ∙ ap step_count (effects-between c bar low high list) in
    omega (arith, none, all, done)

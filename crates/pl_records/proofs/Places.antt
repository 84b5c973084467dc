-- The fields of a record in their places.
use Rattle.std.proofs.Common.{◌≡◌, ◌+◌, ◌-◌, ◌<◌, ℕ, List, [], ◌∷◌, ◌++◌, Bor, map, set, take, drop, length, get_or, sym, ap, ◌∙◌}
use Rattle.std.proofs.lemmas.List.{map-append, take-map, take_more_set}
use Rattle.csv.specs.Reading.{default_config, records}
use Rattle.pl_records.specs.PlainCuts.{IsCutTo}
use Rattle.pl_records.specs.Records.{csv_records}
use Rattle.pl_records.proofs.PlainLines.{cut-comma, cut-lf, cut-return}

-- one more field
pub places_more : (xs : List (Bor (List ℕ))) (n : ℕ) (f : Bor (List ℕ)) → n < length xs
    → take (n + 1) (map (λ f. f.now) (set xs n f)) ≡ take n (map (λ f. f.now) xs) ++ f.now ∷ []
places_more xs n f l =
    take-map (λ f. f.now) (n + 1) (set xs n f) ∙ ap (map (λ f. f.now)) (take_more_set xs n f l) ∙ map-append (λ f. f.now) (take n xs) (f ∷ [])
    ∙ ap (λ ys. ys ++ f.now ∷ []) (sym (take-map (λ f. f.now) n xs))

pub comma_here : (text : List ℕ) (xs : List (Bor (List ℕ))) (n start i : ℕ) (f : Bor (List ℕ)) → f.now ≡ take (i - start) (drop start text) → n < length xs
    → i < length text → get_or text i 0 ≡ 44 → IsCutTo text (take n (map (λ f. f.now) xs)) start i
    → IsCutTo text (take (n + 1) (map (λ f. f.now) (set xs n f))) (i + 1) (i + 1)
comma_here text xs n start i f e l inside c h = rw (places_more xs n f l, e) (cut-comma text _ start i inside c h)

pub feed_here : (text : List ℕ) (xs : List (Bor (List ℕ))) (n start i : ℕ) (f : Bor (List ℕ)) → f.now ≡ take (i - start) (drop start text) → n < length xs
    → i < length text → get_or text i 0 ≡ 10 → IsCutTo text (take n (map (λ f. f.now) xs)) start i
    → records default_config text ≡ take (n + 1) (map (λ f. f.now) (set xs n f)) ∷ csv_records (drop i text)
feed_here text xs n start i f e l inside c h = rw (places_more xs n f l, e) (cut-lf text _ start i inside c h)

pub return_here : (text : List ℕ) (xs : List (Bor (List ℕ))) (n start i : ℕ) (f : Bor (List ℕ)) → f.now ≡ take (i - start) (drop start text) → n < length xs
    → i < length text → get_or text i 0 ≡ 13 → IsCutTo text (take n (map (λ f. f.now) xs)) start i
    → records default_config text ≡ take (n + 1) (map (λ f. f.now) (set xs n f)) ∷ csv_records (drop i text)
return_here text xs n start i f e l inside c h = rw (places_more xs n f l, e) (cut-return text _ start i inside c h)

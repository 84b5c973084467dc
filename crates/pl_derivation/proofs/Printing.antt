-- Fields that are put one after the other are the text of a line.
use Rattle.std.proofs.Common.{◌≡◌, ℕ, ℤ, pos, List, [], ◌∷◌, ◌++◌, map, Some, codes, refl, sym, ◌∙◌, ap, append_assoc, append-nil, slice_get, take, length, ◌<◌, ◌+◌, fold, get_or, if◌then◌else◌, Result, Ok, Err}
use Rattle.std.specs.Result.{is_ok, IfOk}
use Rattle.std.proofs.lemmas.Grind.{flat_map-append}
use Rattle.std.specs.List.{flat_map, join_by}
use Rattle.std.proofs.lemmas.List.Folds.{flat_map-map}
use Rattle.std.proofs.lemmas.Option.{slice_get-map, slice_get_read, slice_get_within, get_or_from_slice_get}
use Rattle.std.proofs.lemmas.List.{length-map, flat_map_more, take_more}
use Rattle.pl_spec.specs.Dates.{date_text}
use Rattle.pl_derivation.specs.declared.line.Line as code
use Rattle.pl_derivation.specs.Listed.{line_of}
use Rattle.pl_derivation.specs.Lines.{Line}
use Rattle.pl_derivation.specs.Texts.{number_text, body_of, text_of}
use Rattle.pl_derivation.proofs.TextsRead.{behind}

one_by_one : (b : List ℕ) (fs : List (List ℕ)) → fold (λ bytes f. bytes ++ ((32 ∷ []) ++ f)) b fs ≡ b ++ behind fs
one_by_one b [] = sym (append-nil b)
one_by_one b (f ∷ fs) = one_by_one (b ++ ((32 ∷ []) ++ f)) fs ∙ append_assoc b ((32 ∷ []) ++ f) (behind fs)

regroup : (b s f c n : List ℕ) → (((b ++ s) ++ f) ++ c) ++ n ≡ b ++ ((s ++ (f ++ c)) ++ n)
regroup [] s f c n = ap (λ x. x ++ n) (append_assoc s f c)
regroup (x ∷ b) s f c n = ap (λ r. x ∷ r) (regroup b s f c n)

-- a word, some fields, and one more for each of a list
joined : (b word : List ℕ) (front : List (List ℕ)) (xs : List ℤ) (spelled : ℤ → List ℕ)
    → (fold (λ bytes f. bytes ++ ((32 ∷ []) ++ f)) (b ++ word) front ++ flat_map (λ x. (32 ∷ []) ++ spelled x) xs) ++ 10 ∷ []
    ≡ b ++ ((word ++ behind (front ++ map spelled xs)) ++ 10 ∷ [])
joined b word front xs spelled =
    ap (λ t. (t ++ flat_map (λ x. (32 ∷ []) ++ spelled x) xs) ++ 10 ∷ []) (one_by_one (b ++ word) front)
    ∙ regroup b word (behind front) (flat_map (λ x. (32 ∷ []) ++ spelled x) xs) (10 ∷ [])
    ∙ ap (λ t. b ++ ((word ++ (behind front ++ t)) ++ 10 ∷ [])) (sym (flat_map-map (λ y. (32 ∷ []) ++ y) spelled xs))
    ∙ ap (λ t. b ++ ((word ++ t) ++ 10 ∷ [])) (sym (flat_map-append (λ y. (32 ∷ []) ++ y) front (map spelled xs)))

pub seen_joined : (b name a bar day : List ℕ) (cells : List ℤ)
    → ((((((b ++ codes "seen") ++ ((32 ∷ []) ++ name)) ++ ((32 ∷ []) ++ a)) ++ ((32 ∷ []) ++ bar)) ++ ((32 ∷ []) ++ day)) ++ flat_map (λ x. (32 ∷ []) ++ number_text x) cells) ++ 10 ∷ []
    ≡ b ++ (join_by (λ f. f) (32 ∷ []) (codes "seen" ∷ name ∷ a ∷ bar ∷ day ∷ map number_text cells) ++ 10 ∷ [])
seen_joined b name a bar day cells = joined b (codes "seen") (name ∷ a ∷ bar ∷ day ∷ []) cells number_text

pub value_joined : (b t a day v : List ℕ) (known : List ℤ)
    → ((((((b ++ codes "value") ++ ((32 ∷ []) ++ t)) ++ ((32 ∷ []) ++ a)) ++ ((32 ∷ []) ++ day)) ++ ((32 ∷ []) ++ v)) ++ flat_map (λ x. (32 ∷ []) ++ date_text x) known) ++ 10 ∷ []
    ≡ b ++ (join_by (λ f. f) (32 ∷ []) (codes "value" ∷ t ∷ a ∷ day ∷ v ∷ map date_text known) ++ 10 ∷ [])
value_joined b t a day v known = joined b (codes "value") (t ∷ a ∷ day ∷ v ∷ []) known date_text

-- a word and five fields, put one after the other
pub seen_value_joined : (b t a own day v : List ℕ) (b0 b1 b2 b3 b4 b5 : List ℕ) → b0 ≡ b ++ codes "seen-value" → b1 ≡ b0 ++ ((32 ∷ []) ++ t) → b2 ≡ b1 ++ ((32 ∷ []) ++ a)
    → b3 ≡ b2 ++ ((32 ∷ []) ++ own) → b4 ≡ b3 ++ ((32 ∷ []) ++ day) → b5 ≡ b4 ++ ((32 ∷ []) ++ v)
    → b5 ++ 10 ∷ [] ≡ b ++ (join_by (λ f. f) (32 ∷ []) (codes "seen-value" ∷ t ∷ a ∷ own ∷ day ∷ v ∷ []) ++ 10 ∷ [])
seen_value_joined b t a own day v b0 b1 b2 b3 b4 b5 e0 e1 e2 e3 e4 e5 =
    rw (e5, e4, e3, e2, e1, e0)
    (ap (λ x. x ++ 10 ∷ []) (sym (append-nil (fold (λ bytes f. bytes ++ ((32 ∷ []) ++ f)) (b ++ codes "seen-value") (t ∷ a ∷ own ∷ day ∷ v ∷ []))))
    ∙ joined b (codes "seen-value") (t ∷ a ∷ own ∷ day ∷ v ∷ []) [] number_text)

-- what a call leaves that writes all or nothing
pub where_ok : {A E X : Type 0} (r : Result A E) (now whole part said : X) → now ≡ (if is_ok r then whole else part) → whole ≡ said → IfOk r (λ _. now ≡ said)
where_ok (Ok x) now whole part said e f = e ∙ f
where_ok (Err x) now whole part said e f = tt

pub text_begun : text_of [] ≡ []
unfolding text_of
text_begun = refl

pub text_more : (ls : List Line) (l : Line) → text_of (ls ++ l ∷ []) ≡ text_of ls ++ (body_of l ++ 10 ∷ [])
unfolding text_of
text_more [] l = append-nil (body_of l ++ 10 ∷ [])
text_more (m ∷ ls) l = ap (λ t. (body_of m ++ 10 ∷ []) ++ t) (text_more ls l) ∙ sym (append_assoc (body_of m ++ 10 ∷ []) (text_of ls) (body_of l ++ 10 ∷ []))

-- the lines up to one
pub lines_more : (ls : List Line) (i : ℕ) (l : Line) → slice_get ls i ≡ Some l → take (i + 1) ls ≡ take i ls ++ l ∷ []
lines_more ls i l e = take_more ls i l (slice_get_within ls i l e) ∙ ap (λ x. take i ls ++ x ∷ []) (get_or_from_slice_get ls i l l e)

pub text_next : (ls : List Line) (i : ℕ) (l : Line) → slice_get ls i ≡ Some l → text_of (take (i + 1) ls) ≡ text_of (take i ls) ++ (body_of l ++ 10 ∷ [])
text_next ls i l e = rw (lines_more ls i l e) (text_more (take i ls) l)

pub line_at : (items : List code.Line) (i : ℕ) (x : code.Line) → x ≡ get_or items i x → i < length (map line_of items) → slice_get (map line_of items) i ≡ Some (line_of x)
line_at items i x e h =
    let within : i < length items = rw (length-map items line_of) at h in
    rw (slice_get-map line_of items i, slice_get_read items (length items) i x refl within e) refl

-- the field of one more number
pub numbers_next : (bytes : List ℕ) (xs : List ℤ) (i : ℕ) → i < length xs
    → (bytes ++ flat_map (λ x. (32 ∷ []) ++ number_text x) (take i xs)) ++ ((32 ∷ []) ++ number_text (get_or xs i (pos 0))) ≡ bytes ++ flat_map (λ x. (32 ∷ []) ++ number_text x) (take (i + 1) xs)
numbers_next bytes xs i h =
    flat_map_more (λ x. (32 ∷ []) ++ number_text x) bytes (take i xs) (get_or xs i (pos 0))
    ∙ ap (λ ys. bytes ++ flat_map (λ x. (32 ∷ []) ++ number_text x) ys) (sym (take_more xs i (pos 0) h))

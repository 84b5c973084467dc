-- What the row of a kind says of an operation's term.
use Rattle.std.proofs.Common.{◌≡◌, ℕ, ◌||◌, ◌&&◌, List, [], refl, sym}
use Rattle.pl_terms.specs.declared.row.KindRow.{KindRow}
use Rattle.pl_terms.specs.Sorts.{sort_of, is_safe_kind, is_safe_over}
use Rattle.pl_check.specs.declared.operation.Operation.{Operation}
use Rattle.pl_check.specs.declared.operation.Operation.TheVariants as op
use Rattle.pl_check.specs.Values.{Bound}
use Rattle.pl_check.specs.Made.{IsRowFor}
use Rattle.pl_check.specs.Results.{kind_for, result_for, sorted, is_window_safe, all_safe, nests_safe}

-- what is not downsampled is as its kind says, or nests
pub result-called : (o : Operation) (bs : List Bound) (t : ℕ) → (o ≡ op.Downsample → ⊥)
    → result_for o bs t ≡ sorted (sort_of (kind_for o bs []))
    (is_window_safe (kind_for o bs []) (all_safe bs) || nests_safe o bs) t
unfolding result_for
result-called op.Downsample bs t f = absurd (f refl)
result-called o bs t f = refl

-- the names of labels and numbers change nothing of it
pub sort-unnamed : (o : Operation) (bs : List Bound) (names : List (List ℕ)) → sort_of (kind_for o bs names) ≡ sort_of (kind_for o bs [])
unfolding kind_for sort_of
sort-unnamed op.StaticSids bs names = refl
sort-unnamed o bs names = refl

pub safe-unnamed : (o : Operation) (bs : List Bound) (names : List (List ℕ)) → is_safe_kind (kind_for o bs names) ≡ is_safe_kind (kind_for o bs [])
unfolding kind_for is_safe_kind
safe-unnamed op.StaticSids bs names = refl
safe-unnamed o bs names = refl

pub over-unnamed : (o : Operation) (bs : List Bound) (names : List (List ℕ)) → is_safe_over (kind_for o bs names) ≡ is_safe_over (kind_for o bs [])
unfolding kind_for is_safe_over
over-unnamed op.StaticSids bs names = refl
over-unnamed o bs names = refl

-- what the row says is what the operation's term is
pub row-result : (o : Operation) (bs : List Bound) (row : KindRow) (t : ℕ) → IsRowFor o bs row → (o ≡ op.Downsample → ⊥)
    → sorted row.sort ((row.is_safe || (row.is_safe_over && all_safe bs)) || nests_safe o bs) t ≡ result_for o bs t
row-result o bs row t r f = rw (r.sort, r.is_safe, r.is_safe_over) (sym (result-called o bs t f))

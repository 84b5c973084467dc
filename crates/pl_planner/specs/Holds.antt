-- What is kept until a term is computed: what the term mentions, and what its cone reads.
use Rattle.std.specs.Prelude.{ℕ, ◌&&◌, ◌||◌, nat_le, max, Bool, false, List, [], ◌++◌, map, fold, filter, filter_map, flat_map, get_or, Option, Some, None, option_to_list, slice_get, slice_set}
use Rattle.std.specs.List.{list_any}
use Rattle.pl_pipeline.specs.Term.{Node, Graph}
use Rattle.pl_pipeline.specs.Graph.{contains, input_number, used_terms}
use Rattle.pl_planner.specs.declared.cones.ConeTerm.{ConeTerm}
use Rattle.pl_planner.specs.declared.uses.Use.{Use}
use Rattle.pl_planner.specs.Uses.{use_at}

-- a term that is kept until term by is computed
abbrev pub later : Use → ℕ → Use
later u by = record { used = u.used; extra = u.extra; last = max u.last by }

abbrev pub held : ℕ → List Use → ℕ → List Use
held by uses t = slice_set uses t (later (use_at uses t) by)

abbrev pub all_held : List Use → ℕ → List ℕ → List Use
all_held uses by list = fold (held by) uses list

-- what a node of a cone reads beside the cone: inputs that are known to be steady, and its mask
abbrev pub border_in : List Bool → Node → List ℕ
border_in steady n = filter (λ u. get_or steady u false) (filter_map input_number n.inputs) ++ option_to_list n.mask

abbrev pub border_at : List Bool → Graph → ℕ → List ℕ
border_at steady g u = border_of (slice_get g u)
  where
    border_of : Option Node → List ℕ
    border_of None = []
    border_of (Some n) = border_in steady n

-- the same of all terms of a cone
abbrev pub borders_of : List Bool → Graph → List (ℕ × ℕ) → List ℕ
borders_of steady g cone = flat_map (border_at steady g) (map (λ c. c.0) cone)

-- kept for term by, cone term after cone term
abbrev pub bordered : List Bool → Graph → ℕ → List Use → ConeTerm → List Use
bordered steady g by us c = all_held us by (border_at steady g c.term.0)

abbrev pub all_bordered : List Bool → Graph → ℕ → List Use → List ConeTerm → List Use
all_bordered steady g by us cone = fold (bordered steady g by) us cone

-- ---- what is live, where by says what each term reads

abbrev pub is_live_by : (ℕ → List ℕ) → Graph → List ℕ → ℕ → ℕ → Bool
is_live_by by g outputs k t =
    nat_le t k && (contains outputs t || list_any (λ u. nat_le k u && contains (by u) t) (used_terms g outputs))

abbrev pub live_terms_by : (ℕ → List ℕ) → Graph → List ℕ → ℕ → List ℕ
live_terms_by by g outputs k = filter (is_live_by by g outputs k) (used_terms g outputs)

-- An array's cells are the list of the definitions.
use Rattle.std.proofs.Common.{◌≡◌, ℕ, suc, ◌+◌, ◌-◌, ◌*◌, ◌<◌, ◌≤◌, ℤ, pos, List, [], ◌∷◌, ◌++◌, length, map, take, drop, get_or, flat_map, refl, sym, ◌∙◌, ap, arith}
use Rattle.std.proofs.Math.Seq.{take-add}
use Rattle.std.specs.List.{range_with_len}
use Rattle.std.proofs.lemmas.List.{ext_get_or, get_or-take, get_or-drop, length-take-le, length-drop, length-map}
use Rattle.std.proofs.lemmas.List.FromFn.{get_or-map-range_with_len, length-map-range_with_len}
use Rattle.pl_spec.specs.Parts.{sid_at}
use Rattle.pl_pipeline.specs.Table.{array_of, in_array, value_of}
use Rattle.pl_values.specs.Arrays.{cell_of}
use Rattle.pl_exec.specs.Tasks.{Task, IsArray, assets_in, count_in, low_in, sids_in}

module _ (f : ℕ → ℕ → ℤ) (low count : ℕ) where
  pub spans : (sids : List ℕ) (cells : List ℤ) → length sids * count ≤ length cells
      → ((i j : ℕ) → i < length sids → j < count → get_or cells (i * count + j) (pos 0) ≡ f (get_or sids i 0) (low + j))
      → take (length sids * count) cells ≡ flat_map (λ a. map (f a) (range_with_len low count)) sids
  spans [] cells room each = let e : 0 * count ≡ 0 = omega arith in ap (λ k. take k cells) e
  spans (a ∷ sids) cells room each =
      let e : suc (length sids) * count ≡ count + length sids * count = omega arith in
      let d : length (drop count cells) ≡ length cells - count = length-drop count cells in
      let front : take count cells ≡ map (f a) (range_with_len low count) = ext_get_or (pos 0) _ _ (length-take-le count cells (omega arith) ∙ sym (length-map-range_with_len (f a) low count))
      (λ j h. let l : j < count = omega (arith, h, length-take-le count cells (omega arith)) in
      get_or-take count cells j (pos 0) l ∙ (let z : j ≡ 0 * count + j = omega arith in ap (λ k. get_or cells k (pos 0)) z) ∙ each 0 j (omega arith) l
      ∙ sym (get_or-map-range_with_len (f a) low count j (low + j) (pos 0) l refl)) in
      let back = spans sids (drop count cells) (omega arith)
      (λ i j h l. get_or-drop count cells (i * count + j) (pos 0) ∙ (let z : count + (i * count + j) ≡ suc i * count + j = omega arith in ap (λ k. get_or cells k (pos 0)) z) ∙ each (suc i) j (omega arith) l) in
      ap (λ k. take k cells) e ∙ take-add count (length sids * count) cells ∙ ap (λ l. l ++ take (length sids * count) (drop count cells)) front ∙ ap (λ l. map (f a) (range_with_len low count) ++ l) back

pub array_is : (t : Task) (k : ℕ) (cells : List ℤ) → IsArray t k cells → take (assets_in t * count_in t k) cells ≡ array_of t.world t.pipeline (sids_in t) (low_in t k) t.to k
unfolding cell_of
array_is t k cells h =
    let n : length (sids_in t) ≡ assets_in t = length-map t.cols (sid_at t.world.assets) in
    let s : suc t.to - low_in t k ≡ count_in t k = omega arith in
    let r : length (sids_in t) * count_in t k ≡ assets_in t * count_in t k = ap (λ m. m * count_in t k) n in
    ap (λ m. take m cells) (sym r)
    ∙ spans (λ a d. in_array t.world.texts (value_of t.world t.pipeline k a (pos d))) (low_in t k) (count_in t k) (sids_in t) cells (let o = h.room in omega arith) (λ i j a b. h.each i j (omega arith) b)
    ∙ ap (λ m. flat_map (λ a. map (λ d. in_array t.world.texts (value_of t.world t.pipeline k a (pos d))) (range_with_len (low_in t k) m)) (sids_in t)) (sym s)

-- What a term reads has a lower number.
use Rattle.std.proofs.Common.{◌≡◌, ℕ, ◌<◌, true, [], arith, inl, inr}
use Rattle.pl_pipeline.specs.Term.{Graph, IsGraph}
use Rattle.pl_pipeline.specs.Graph.{contains, mentions_at}
use Rattle.pl_pipeline.specs.Cones.{Borders, border_terms, reads_of}
use Rattle.pl_laws.proofs.Uses.{lower}
use Rattle.pl_laws.proofs.ConeInputs.{in_either, cone-lower}
use Rattle.pl_laws.proofs.ConeLists.{border-sound}

pub border-lower : (g : Graph) (ok : IsGraph g) (k b m : ℕ) → Borders g k b m → b < k
border-lower g ok k b m (Borders.input v j n i f e at h) =
    let low : v < k = cone-lower g ok k v j f in
    let own : b < v = (ok.lower v n e).inputs i b at in
    omega arith
border-lower g ok k b m (Borders.mask v j n f e at) =
    let low : v < k = cone-lower g ok k v j f in
    let own : b < v = (ok.lower v n e).mask b at in
    omega arith

pub reads-lower : (g : Graph) (ok : IsGraph g) (k b : ℕ) → contains (reads_of g k) b ≡ true → b < k
reads-lower g ok k b h = elim (in_either (mentions_at g k) (border_terms g k) b h) [
  | inl i ↦ lower g [] ok k b i
  | inr i ↦ (let r = border-sound g ok k b i in border-lower g ok k b r.0 r.1)
]

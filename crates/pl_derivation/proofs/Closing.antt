-- Facts of which each stands after its premises.
use Rattle.std.proofs.Common.{◌≡◌, true, List, [], ◌∷◌, ◌++◌, append_assoc, append-nil, sym}
use Rattle.pl_spec.specs.World.{World}
use Rattle.pl_pipeline.specs.Table.{Pipeline}
use Rattle.pl_spec.proofs.Each.{Each}
use Rattle.pl_derivation.specs.Facts.{Fact, number_in, premises}
use Rattle.pl_derivation.specs.Walks.{is_in}

-- the premises of a fact are among these
abbrev pub Stand : World → Pipeline → List Fact → Fact → Type 0
Stand w p before f = Each (λ g. is_in before g ≡ true) (premises w p (number_in w p) f)

-- those of each further fact are among these and the further ones before it
abbrev pub IsClosed : World → Pipeline → List Fact → List Fact → Type 0
IsClosed w p before [] = Unit {0}
IsClosed w p before (f ∷ fs) = Stand w p before f × IsClosed w p (before ++ f ∷ []) fs

pub closed_more : (w : World) (p : Pipeline) (before fs : List Fact) (f : Fact) → IsClosed w p before fs → Stand w p (before ++ fs) f → IsClosed w p before (fs ++ f ∷ [])
closed_more w p before [] f h s = (rw (append-nil before) at s, tt)
closed_more w p before (x ∷ fs) f h s = (h.0, closed_more w p (before ++ x ∷ []) fs f h.1 (rw (sym (append_assoc before (x ∷ []) fs)) at s))

-- The room of arrays.
use Rattle.std.proofs.Common.{◌≡◌, ℕ, ◌+◌, ◌*◌, ◌<◌, ◌≤◌, ◌⊎◌, max, true, false, ℤ, List, length, Some, slice_get, refl, sym, ap, subst, ◌∙◌, arith, inl, inr}
use Rattle.std.proofs.lemmas.Bool.{cases_eq, cases_lt, true≢false}
use Rattle.std.proofs.lemmas.Nat.{mul-le}
use Rattle.std.proofs.lemmas.Option.{slice_get_cases}
use Rattle.pl_spec.specs.World.{World}
use Rattle.pl_pipeline.specs.Term.{Node}
use Rattle.pl_pipeline.specs.Table.{Pipeline}
use Rattle.pl_terms.specs.declared.node.Node as code
use Rattle.pl_terms.specs.Nodes.{graph_of, node_of}
use Rattle.pl_planner.proofs.Pipelines.{window-is}
use Rattle.pl_planner.specs.Plans.{Planned, IsPlanOf, is_used}
use Rattle.pl_exec.specs.declared.chunk.Chunk.{Chunk}
use Rattle.pl_runner.specs.Chunks.{columns_of, chunk_at}
use Rattle.pl_runner.specs.Room.{IsMost, IsOfTerm, HasRoom, rows_at}
use Rattle.pl_runner.proofs.Terms.{used-within}
use Rattle.pl_terms.proofs.Graphs.{graph-at}

pub most-none : (p : Pipeline) (plan : Planned) (chunk : Chunk) → IsMost p plan chunk 0 0
most-none p plan chunk = record { each = λ k m h u e. absurd (omega arith); some = inl refl }

of-more : (p : Pipeline) (plan : Planned) (chunk : Chunk) (n most : ℕ) → (most ≡ 0) ⊎ IsOfTerm p plan chunk n most → (most ≡ 0) ⊎ IsOfTerm p plan chunk (n + 1) most
of-more p plan chunk n most h = elim h [
  | inl e ↦ inl e
  | inr t ↦ inr (t.0, t.1, omega (arith, t.2), t.3, t.4, t.5)
]

pub most-same : (p : Pipeline) (plan : Planned) (chunk : Chunk) (n most : ℕ) → IsMost p plan chunk n most → is_used plan n ≡ false → IsMost p plan chunk (n + 1) most
most-same p plan chunk n most h v =
    record {
      each = λ k m l u e. elim (cases_eq k n) [
        | inl f ↦ absurd (true≢false (sym u ∙ ap (is_used plan) f ∙ v))
        | inr f ↦ h.each k m (omega arith) u e
      ];
      some = of-more p plan chunk n most h.some;
    }

max-cases : (a b : ℕ) → (max a b ≡ a) ⊎ (max a b ≡ b)
max-cases a b = elim (cases_lt b a) [
  | inl h ↦ inl (omega arith)
  | inr h ↦ inr (omega arith)
]

own-term : (p : Pipeline) (plan : Planned) (chunk : Chunk) (n more own : ℕ) → is_used plan n ≡ true → n < length p.graph → ((m : Node) → slice_get p.graph n ≡ Some m → own ≡ rows_at plan chunk n m) → more ≡ own → IsOfTerm p plan chunk (n + 1) more
own-term p plan chunk n more own used inside is e = elim (slice_get_cases p.graph n).1 [
  | inl h ↦ (n, h.0, omega arith, used, h.2, sym (is h.0 h.2) ∙ sym e)
  | inr h ↦ absurd (omega (arith, inside, h.0))
]

pub most-more : (p : Pipeline) (plan : Planned) (chunk : Chunk) (n most own more : ℕ) → is_used plan n ≡ true → n < length p.graph → IsMost p plan chunk n most → ((m : Node) → slice_get p.graph n ≡ Some m → own ≡ rows_at plan chunk n m)
    → more ≡ max most own → IsMost p plan chunk (n + 1) more
most-more p plan chunk n most own more used inside h is e =
    record {
      each = λ k m l u f. elim (cases_eq k n) [
        | inl g ↦ (let q = is m (ap (slice_get p.graph) (sym g) ∙ f) in let r = ap (λ (x : ℕ). rows_at plan chunk x m) g in omega arith)
        | inr g ↦ (let q = h.each k m (omega arith) u f in omega arith)
      ];
      some = elim (max-cases most own) [
        | inl g ↦ subst (λ (x : ℕ). (x ≡ 0) ⊎ IsOfTerm p plan chunk (n + 1) x) (sym (e ∙ g)) (of-more p plan chunk n most h.some)
        | inr g ↦ inr (own-term p plan chunk n more own used inside is (e ∙ g))
      ];
    }

pub room-of : (days : List ℤ) (w : World) (p : Pipeline) (plan : Planned) (chunk : Chunk) (most cols : ℕ) → IsPlanOf days p plan → IsMost p plan chunk (length p.graph) most → cols ≡ length (columns_of w p plan chunk)
    → HasRoom w p plan chunk (cols * most)
room-of days w p plan chunk most cols is h e =
    record {
      each = λ k m u f.
          let l = h.each k m (used-within days p plan is k u) u f in
          mul-le (length (columns_of w p plan chunk)) (rows_at plan chunk k m) cols most (omega arith) l;
    }

-- no less is room
pub room-least : (w : World) (p : Pipeline) (plan : Planned) (chunk : Chunk) (n most cols len : ℕ) → IsMost p plan chunk n most → cols ≡ length (columns_of w p plan chunk) → HasRoom w p plan chunk len → cols * most ≤ len
room-least w p plan chunk n most cols len h e r = elim h.some [
  | inl z ↦ subst (λ (x : ℕ). cols * x ≤ len) (sym z) (omega arith)
  | inr t ↦ subst (λ (x : ℕ). x * most ≤ len) (sym e) (subst (λ (x : ℕ). length (columns_of w p plan chunk) * x ≤ len) t.5 (r.each t.0 t.1 t.3 t.4))
]

-- more room is room
pub room-more : (w : World) (p : Pipeline) (plan : Planned) (chunk : Chunk) (len more : ℕ) → HasRoom w p plan chunk len → len ≤ more → HasRoom w p plan chunk more
room-more w p plan chunk len more h l = record { each = λ k m u e. (let q = h.each k m u e in omega arith) }

-- the room of one chunk more
pub rooms-more : (w : World) (p : Pipeline) (plan : Planned) (from to size n len own more : ℕ) → ((i : ℕ) → i < n → HasRoom w p plan (chunk_at from to size i) len) → HasRoom w p plan (chunk_at from to size n) own
    → more ≡ max len own → (i : ℕ) → i < n + 1 → HasRoom w p plan (chunk_at from to size i) more
rooms-more w p plan from to size n len own more h k e i l = elim (cases_eq i n) [
  | inl f ↦ subst (λ (x : ℕ). HasRoom w p plan (chunk_at from to size x) more) (sym f) (room-more w p plan (chunk_at from to size n) own more k (omega arith))
  | inr f ↦ room-more w p plan (chunk_at from to size i) len more (h i (omega arith)) (omega arith)
]

-- the window of a node
pub window-of : (ns : List code.Node) (k : ℕ) (n : code.Node) (m : Node) → slice_get ns k ≡ Some n → slice_get (graph_of ns) k ≡ Some m → n.window ≡ m.window
window-of ns k n m e f =
    let same : Some (node_of n) ≡ Some m = sym (graph-at ns k n e) ∙ f in
    let is : node_of n ≡ m = cc in
    sym (window-is n) ∙ ap (λ (x : Node). x.window) is

-- and back
pub room-back : (w : World) (p : Pipeline) (plan : Planned) (size i from to : ℕ) (chunk : Chunk) (len : ℕ) → from ≡ plan.from → to ≡ plan.to → chunk ≡ chunk_at from to size i
    → HasRoom w p plan (chunk_at plan.from plan.to size i) len → HasRoom w p plan chunk len
room-back w p plan size i from to chunk len e f is h =
    subst (λ (x : Chunk). HasRoom w p plan x len) (sym (is ∙ ap (λ (x : ℕ). chunk_at x to size i) e ∙ ap (λ (x : ℕ). chunk_at plan.from x size i) f)) h

pub room-at : (w : World) (p : Pipeline) (plan : Planned) (size i from to : ℕ) (chunk : Chunk) (len : ℕ) → from ≡ plan.from → to ≡ plan.to → chunk ≡ chunk_at from to size i → HasRoom w p plan chunk len
    → HasRoom w p plan (chunk_at plan.from plan.to size i) len
room-at w p plan size i from to chunk len e f is h =
    subst (λ (x : Chunk). HasRoom w p plan x len) (is ∙ ap (λ (x : ℕ). chunk_at x to size i) e ∙ ap (λ (x : ℕ). chunk_at plan.from x size i) f) h

-- What a text says is what it spells, or its first fault.
use Rattle.std.proofs.Common.{◌≡◌, ℕ, List, refl, sym, ap, subst, ◌∙◌}
use Rattle.pl_grammar.specs.declared.Place.{Place}
use Rattle.pl_grammar.specs.Tree.{Lexeme}
use Rattle.pl_grammar.specs.Script as g
use Rattle.pl_grammar.specs.Faults.{Kind, Tail, AtEnd, AtBad, Verdict, Good, Fault, verdict}
use Rattle.pl_grammar.proofs.First.{Right, right_of, spelled_only, first_only}
use Rattle.pl_syntax.specs.Text.{start, Read}
use Rattle.pl_syntax.specs.Reading.{Whole, whole}
use Rattle.pl_syntax.proofs.Reading.{whole_read, whole_only}
use Rattle.pl_syntax.specs.Spells.{Parsed, Spells, FirstFault}
use Rattle.pl_syntax.specs.Said.{Said, Spelled, Faulty, said_by, said}

-- a verdict that is right, and what is said by it
spells_by : (bytes : List ℕ) (ts : List Lexeme) (tail : Tail) → Read start bytes ts tail → (v : Verdict) → Right v ts tail → (s : Parsed) → said_by (g.first_version ts) v tail ≡ Spelled s → Spells bytes s
spells_by bytes ts (AtEnd p) x (Good ss) r s h =
    let e : record { version = g.first_version ts; statements = ss; end = p } ≡ s = cc in
    subst (λ z. Spells bytes z) e (record { tokens = ts; reads = x; short = r.short; derives = r.derives; version = refl })
spells_by bytes ts (AtBad p) x (Good ss) r s h = absurd cc
spells_by bytes ts tail x (Fault k p) r s h = absurd cc

fault_by : (bytes : List ℕ) (ts : List Lexeme) (tail : Tail) → Read start bytes ts tail → (v : Verdict) → Right v ts tail → (k : Kind) (p : Place) → said_by (g.first_version ts) v tail ≡ Faulty k p → FirstFault bytes k p
fault_by bytes ts (AtEnd q) x (Good ss) r k p h = absurd cc
fault_by bytes ts (AtBad q) x (Good ss) r k p h = absurd (let e : AtBad q ≡ AtEnd r.end = r.ended in cc)
fault_by bytes ts tail x (Fault j q) r k p h =
    let kind : j ≡ k = cc in
    let place : q ≡ p = cc in
    subst (λ z. FirstFault bytes z p) kind (subst (λ z. FirstFault bytes j z) place (record { tokens = ts; tail = tail; reads = x; first = r }))

pub said-spells : (bytes : List ℕ) (s : Parsed) → said bytes ≡ Spelled s → Spells bytes s
unfolding said
said-spells bytes s h = spells_by bytes (whole bytes).0 (whole bytes).1 (whole_read bytes) _ (right_of (whole bytes).0 (whole bytes).1) s h

pub said-fault : (bytes : List ℕ) (k : Kind) (p : Place) → said bytes ≡ Faulty k p → FirstFault bytes k p
unfolding said
said-fault bytes k p h = fault_by bytes (whole bytes).0 (whole bytes).1 (whole_read bytes) _ (right_of (whole bytes).0 (whole bytes).1) k p h

abbrev judged : Whole → Said
judged r = said_by (g.first_version r.0) (verdict 0 g.Opening r.0 r.1) r.1

pub spells-said : (bytes : List ℕ) (s : Parsed) → Spells bytes s → said bytes ≡ Spelled s
unfolding said
spells-said bytes s x =
    let v : verdict 0 g.Opening x.tokens (AtEnd s.end) ≡ Good s.statements = spelled_only x.tokens (AtEnd s.end) s.statements (record { end = s.end; ended = refl; short = x.short; derives = x.derives }) in
    ap judged (whole_only bytes x.tokens (AtEnd s.end) x.reads) ∙ ap (λ z. said_by (g.first_version x.tokens) z (AtEnd s.end)) v
    ∙ ap (λ n. Spelled (record { version = n; statements = s.statements; end = s.end })) (sym x.version)

pub fault-said : (bytes : List ℕ) (k : Kind) (p : Place) → FirstFault bytes k p → said bytes ≡ Faulty k p
unfolding said
fault-said bytes k p x =
    ap judged (whole_only bytes x.tokens x.tail x.reads) ∙ ap (λ z. said_by (g.first_version x.tokens) z x.tail) (first_only x.first)

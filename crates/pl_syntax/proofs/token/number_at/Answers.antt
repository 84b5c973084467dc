use Rattle.std.proofs.Common.{ap, sym, inl, inr, ◌∙◌, w64}
use Rattle.std.proofs.Common.{FitsSigned, rules}
use Rattle.std.proofs.lemmas.Int.{to_z-of_z}
use Rattle.pl_grammar.specs.Tree.{Number}
use Rattle.pl_syntax.proofs.Numbers.{read_token, literal_fault, literal_token}
use Rattle.pl_syntax.proofs.token.number_at.Goals as goal

pub returns-in-Ok : goal.returns-in-Ok
returns-in-Ok c =
    λ whole fraction rest x.
    let fits : FitsSigned w64 c.in-Ok.value = search rules in
    ap Number (to_z-of_z w64 _ fits) ∙ (ap read_token c.in-Ok.ensures.exact ∙ literal_token c.args.bytes.now rest whole fraction x)

pub returns-in-Err-TooManyDigits : goal.returns-in-Err-TooManyDigits
returns-in-Err-TooManyDigits c = λ whole fraction rest x. ap read_token c.in-Err-TooManyDigits.ensures.exact ∙ literal_token c.args.bytes.now rest whole fraction x

pub unreachable-requires : goal.unreachable-requires
unreachable-requires c =
    let fault = literal_fault c.args.bytes.now c.requires.2 c.requires.0 c.requires.1 c.in-Err-Empty.field-0 c.requires.3 (sym c.in-Err-Empty.ensures.exact) in
    elim fault [ inl e ↦ cc (c.in-Err-Empty.field-0-is, e) | inr e ↦ cc (c.in-Err-Empty.field-0-is, e) ]

pub unreachable-requires-in-Err-Shape : goal.unreachable-requires-in-Err-Shape
unreachable-requires-in-Err-Shape c =
    let fault = literal_fault c.args.bytes.now c.requires.2 c.requires.0 c.requires.1 c.in-Err-Shape.field-0 c.requires.3 (sym c.in-Err-Shape.ensures.exact) in
    elim fault [ inl e ↦ cc (c.in-Err-Shape.field-0-is, e) | inr e ↦ cc (c.in-Err-Shape.field-0-is, e) ]

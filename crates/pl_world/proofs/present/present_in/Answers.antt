use Rattle.std.proofs.Common.{◌≡◌, [], ◌∙◌, ap, subst, unwrap_or, Option, List, ℕ, IfSome, IfNone, false}
use Rattle.pl_pipeline.specs.Value.{name_at}
use Rattle.pl_terms.specs.Checked.{pipeline_of}
use Rattle.pl_world.specs.Present.{IsNumberUnder, is_number_term}
use Rattle.pl_world.specs.Worlds.{world_of}
use Rattle.pl_world.proofs.Counted.{named, present-not, present-under}
use Rattle.pl_world.proofs.present.present_in.Goals as goal
use Rattle.pl_spec.specs.declared.Figure.{Figure}

pub label_name-requires : goal.label_name-requires
label_name-requires c =
    let p = pipeline_of c.args.checked.now in
    let is = subst (λ (o : Option (Figure × ℕ)). IfSome o (λ r. IsNumberUnder p c.args.t.0 r.0 r.1)) c.in-Some.is c.number_name.ensures.some in
    named (world_of c.args.world.now) p c.number_name.ensures.checked c.args.t.0 c.in-Some.figure c.in-Some.name is

pub returns-in-Some-clause-count : goal.returns-in-Some-clause-count
returns-in-Some-clause-count c =
    let p = pipeline_of c.args.checked.now in
    let is = subst (λ (o : Option (Figure × ℕ)). IfSome o (λ r. IsNumberUnder p c.args.t.0 r.0 r.1)) c.in-Some.is c.number_name.ensures.some in
    let name : name_at p.names c.in-Some.name ≡ c.label_name.result.now = ap (λ (o : Option (List ℕ)). unwrap_or o []) c.label_name.ensures in
    c.present_under.ensures.count ∙ present-under (world_of c.args.world.now) p c.number_name.ensures.checked c.args.t.0 c.in-Some.figure c.in-Some.name is c.label_name.result.now name c.args.from c.args.to

pub returns-in-None-clause-count : goal.returns-in-None-clause-count
returns-in-None-clause-count c =
    let p = pipeline_of c.args.checked.now in
    present-not (world_of c.args.world.now) p c.args.from c.args.to c.args.t.0
    (subst (λ (o : Option (Figure × ℕ)). IfNone o (is_number_term p c.args.t.0 ≡ false)) c.in-None.is c.number_name.ensures.none)
